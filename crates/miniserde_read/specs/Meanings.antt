-- The meanings of std's types, by the meanings m and n of their parts; V and U are the parts' types, W is the whole.
use Rattle.std.specs.Prelude.{ℕ, ℤ, pos, Bool, List, map, Option, Some, option_map, ◌≡◌, refl, ⊤}
use Rattle.miniserde_model.specs.Tree.{null, truth, str}
use Rattle.miniserde_read.specs.Meaning.{Meaning, meaning_with}
use Rattle.miniserde_read.specs.types.Words.{unit_of, boolean_of, string_of}
use Rattle.miniserde_read.specs.laws.Words.{unit-given, truth-given, text-given}
use Rattle.miniserde_read.specs.types.Integers.{unsigned_of, signed_of, ReadsUnsigned, ReadsSigned}
use Rattle.miniserde_read.specs.laws.Integers.{unsigned-given, signed-given}
use Rattle.miniserde_read.specs.types.Lists.{ListReads, list_of}
use Rattle.miniserde_read.specs.laws.Lists.{list-given}
use Rattle.miniserde_read.specs.types.Arrays.{ArrayReads, array_of}
use Rattle.miniserde_read.specs.laws.Arrays.{array-given}
use Rattle.miniserde_read.specs.types.Pairs.{PairReads, pair_of}
use Rattle.miniserde_read.specs.laws.Pairs.{pair-given}
use Rattle.miniserde_read.specs.types.Options.{OptionReads, option_of}
use Rattle.miniserde_read.specs.laws.Options.{option-given}
use Rattle.miniserde_read.specs.types.Maps.{KeyMeaning, MapReads, map_of, map_content}
use Rattle.miniserde_read.specs.laws.Maps.{map-given}

-- the meaning of `()`: `null` means it
abbrev pub unit_meaning : Meaning (Unit {0})
unit_meaning = meaning_with (λ _. tt) unit_of (λ t _. t ≡ null) (λ t _. unit-given t)

-- the meaning by which every tree means every value, and all values have the same content
abbrev pub ignored_meaning : {V : Type 0} → Meaning V
ignored_meaning = meaning_with {C = Unit {0}} (λ _. tt) (λ _. Some tt) (λ _ _. ⊤) (λ _ _. (λ _. refl, λ _. tt))

-- the meaning of `bool`: the words `true` and `false` mean the two values
abbrev pub boolean_meaning : Meaning Bool
boolean_meaning = meaning_with (λ b. b) boolean_of (λ t b. t ≡ truth b) truth-given

-- the meaning of an unsigned integer of so many bits
abbrev pub unsigned_meaning : ℕ → Meaning ℕ
unsigned_meaning bits = meaning_with (λ n. pos n) (unsigned_of bits) (ReadsUnsigned bits) (unsigned-given bits)

-- the meaning of a signed integer of so many bits
abbrev pub signed_meaning : ℕ → Meaning ℤ
signed_meaning bits = meaning_with (λ z. z) (signed_of bits) (ReadsSigned bits) (signed-given bits)

-- the meaning of a text, of which `bytes` returns the bytes: a string with these bytes means it
abbrev pub string_meaning : {W : Type 0} → (W → List ℕ) → Meaning W
string_meaning bytes = meaning_with bytes string_of (λ t s. t ≡ str (bytes s)) (λ t s. text-given t (bytes s))

-- the meaning of a vector or a queue, of which `items` returns the items: a list means it if the
-- list's children mean the items by m
abbrev pub list_meaning : {V W : Type 0} → Meaning V → (W → List V) → Meaning W
list_meaning m items =
    meaning_with (λ v. map m.content (items v)) (list_of m.from_tree) (λ t v. ListReads m.reads t (items v))
    (λ t v. list-given m.reads m.from_tree m.content m.reads_agrees t (items v))

-- the meaning of an array of n items, which `items` returns: a list of exactly n children means it
-- if the children mean the items by m
abbrev pub array_meaning : {V W : Type 0} → ℕ → Meaning V → (W → List V) → Meaning W
array_meaning n m items =
    meaning_with (λ v. map m.content (items v)) (array_of n m.from_tree) (λ t v. ArrayReads n m.reads t (items v))
    (λ t v. array-given n m.reads m.from_tree m.content m.reads_agrees t (items v))

-- the meaning of a pair, of which `one` and `two` return the parts: a list of exactly two children
-- means it if the children mean the parts, by m and by n
abbrev pub pair_meaning : {V U W : Type 0} → Meaning V → Meaning U → (W → V) → (W → U) → Meaning W
pair_meaning m n one two =
    meaning_with (λ v. (m.content (one v), n.content (two v))) (pair_of m.from_tree n.from_tree)
    (λ t v. PairReads m.reads n.reads t (one v, two v))
    (λ t v. pair-given m.reads n.reads m.from_tree n.from_tree m.content n.content m.reads_agrees n.reads_agrees t (one v, two v))

-- the meaning of an optional value: `null` means `None`, and any other tree what it means by m
abbrev pub option_meaning : {V : Type 0} → Meaning V → Meaning (Option V)
option_meaning m =
    meaning_with (option_map m.content) (option_of m.from_tree) (OptionReads m.reads)
    (option-given m.reads m.from_tree m.content m.reads_agrees)

-- the meaning of a box, of which `value` returns the value inside: a tree means the box if it means this value by m
abbrev pub box_meaning : {V W : Type 0} → Meaning V → (W → V) → Meaning W
box_meaning m value = meaning_with (λ b. m.content (value b)) m.from_tree (λ t b. m.reads t (value b)) (λ t b. m.reads_agrees t (value b))

-- the meaning of a map, of which `entries` returns the entries, with keys by k and values by m
abbrev pub map_meaning : {K V W : Type 0} → KeyMeaning K → Meaning V → (W → List (K × V)) → Meaning W
map_meaning k m entries =
    meaning_with (λ v. map_content k.code k.content m.content (entries v)) (map_of k.read k.code m.from_tree)
    (λ t v. MapReads k m.from_tree m.reads t (entries v))
    (λ t v. map-given k.read k.code k.content m.from_tree m.content m.reads m.reads_agrees t (entries v))
