-- The logic's descriptions (`RattleType`) of the types that an `Array` and an `Object` consist of. The contracts of
-- `inner_mut` cite them, to say what a `&mut` to such a part writes back.
use denote.RattleType.{RattleType}
use Rattle.std.specs.contracts.alloc.Global as global
use Rattle.std.specs.contracts.vec.Vec as vec
use Rattle.std.specs.contracts.string.String as text
use Rattle.std.specs.contracts.collections.BTreeMap as tree
use Rattle.std.specs.contracts.impls.GlobalAllocator.TheImpl.{ghosts}
use Rattle.std.specs.contracts.impls.StringOrd.TheImpl as ord
use Rattle.std.specs.contracts.impls.StringPartialEq.TheImpl as eq
use Rattle.std.specs.contracts.impls.StringPartialOrd.TheImpl as partial_ord
use Rattle.miniserde_value.specs.contracts.json.value.Value.{the_row}

-- the description of the type `Vec<Value>` in the logic
abbrev pub vec_type : RattleType
vec_type = vec.the_row the_row global.the_row ghosts

-- the description of the type `BTreeMap<String, Value>` in the logic
abbrev pub btree_map_type : RattleType
btree_map_type =
    tree.the_row (text.the_row global.the_row ghosts) the_row global.the_row (ord.ghosts global.the_row ghosts ord.no_dict ord.no_dict)
    (eq.ghosts global.the_row ghosts eq.no_dict eq.no_dict)
    (partial_ord.ghosts global.the_row ghosts partial_ord.no_dict partial_ord.no_dict) ghosts
