-- A list gives no items of a tuple if it ends too early, if its first child gives nothing, or if its later children
-- give nothing. `elements_there` takes the first child off the list; `one_left` shows that a list with another child
-- is not empty. `items_given` is the list that gives them.
use Rattle.std.proofs.Common.{◌≡◌, ℕ, Bool, true, false, List, Option, Some, None, refl, ap, subst, ◌∙◌}
use Rattle.miniserde_model.specs.Tree.{Tree, Trees, no_trees, tree}
use Rattle.miniserde_model.specs.Lexing.{Follows}
use Rattle.miniserde_model.specs.declared.kind.Kind.TheVariants.{Seq}
use Rattle.miniserde_read.specs.Items.{ItemsGiveAt, ItemsGiveNoneAt}
use Rattle.miniserde_read.specs.types.Pairs.{both}
use Rattle.miniserde_read.specs.Due.{ReadsDue, ElementRejects}
use Rattle.miniserde_read.specs.Rest.{ElementsAt}
use Rattle.miniserde_text.proofs.NextChild.{close_no_next}
use Rattle.miniserde_read.proofs.Same.{value_same}
use Rattle.miniserde_read.proofs.Steps.{elements_there, elements_close}
use Rattle.miniserde_read.specs.types.Tuples.{none_of, item_of}

-- where one more child is there, the list is not empty
pub one_left : (ts : Trees) (f : Bool) (s b r : List ℕ) → Follows Seq f false s b → ElementsAt ts f s r → none_of ts ≡ None
one_left no_trees f s b r h p = absurd (close_no_next Seq f s r b p h)
one_left (tree t ts) f s b r h p = refl

module _ {A B : Type 0} (of : Tree → Option A) (more : Trees → Option B) (f : Bool) (s : List ℕ) where
  no_rest : (o : Option A) → both {B = B} (o, None) ≡ None
  no_rest None = refl
  no_rest (Some a) = refl

  pub none_left : (b : List ℕ) → Follows Seq f true s b → ItemsGiveNoneAt (item_of of more) f s
  none_left b h ts r p = ap (item_of of more) (elements_close ts f s b r h p).0

  pub first_none : ElementRejects of f s → ItemsGiveNoneAt (item_of of more) f s
  first_none n ts r p =
      let u = n ts r p in
      ap (item_of of more) u.2 ∙ ap (λ o. both (o, more u.1)) u.3

  module _ (b d : List ℕ) (a : A) (h : Follows Seq f false s b) (v : ReadsDue of b d a) where
    pub later_none : ItemsGiveNoneAt more false d → ItemsGiveNoneAt (item_of of more) f s
    later_none n ts r p =
        let u = elements_there ts f s v.event h v.starts p in
        let same = value_same u.one v.one v.event v.behind u.rest d u.is_value v.is_value in
        ap (item_of of more) u.is ∙ ap (λ o. both (of u.one, o))
        (n u.more r (subst (λ z. ElementsAt u.more false z r) same.1 u.is_rest)) ∙ no_rest (of u.one)

    pub items_given : (r : List ℕ) (y : B) → ItemsGiveAt more false d r y → ItemsGiveAt (item_of of more) f s r (a, y)
    items_given r y u = (
      tree v.one u.0,
      record {
        begin = b;
        event = v.event;
        behind = v.behind;
        rest = d;
        follows = h;
        starts = v.starts;
        is_value = v.is_value;
        is_rest = u.1;
      },
      rw (v.gives, u.2) refl,
    )
