-- If the tokens of a tree with names in order are written one after another, the writer adds the compact text of its
-- normal form. The predicate `Writes` holds of the first token and of those left, and `text_whole` says that the
-- tokens together have that text.
use Rattle.std.proofs.Common.{◌≡◌, ℕ, false, List, [], ◌∷◌, ◌++◌, Result, Ok, Err, OnOk, sym, ap, subst}
use Rattle.std.proofs.Common.{◌∙◌, arith, append-nil, append_assoc, refl}
use Rattle.miniserde_model.specs.Tree.{Tree}
use Rattle.miniserde_model.specs.InRange.{InRange}
use Rattle.miniserde_model.specs.Compact.{compact}
use Rattle.miniserde_model.specs.Normal.{norm}
use Rattle.miniserde_model.specs.Tokens.{Token, leaf, tokens}
use Rattle.miniserde_model.proofs.Normal.{norm_twice}
use Rattle.miniserde_ser.specs.Writer.{WriterView, after_append, KeepsNormal}
use Rattle.miniserde_value.specs.Tokens.{tokens_text, first_flag_after, TokensInRange, IsOrdered}
use Rattle.miniserde_value.specs.Writes.{Writes}
use Rattle.miniserde_value.proofs.Texts.{text_whole, tokens_tree}
use Rattle.miniserde_value.proofs.Written.{in_range_before, first_before, first_tokens}

-- from `old` to `new`, the writer wrote the token m, and no call failed
record WroteToken (old : WriterView) (m : Token) (new : WriterView) : Type 0 where
  pub text : (rest : List Token) → new.text ++ tokens_text new.first rest ≡ old.text ++ tokens_text old.first (m ∷ rest)
  pub is_token : TokensInRange (m ∷ [])
  pub first : new.first ≡ first_flag_after old.first (m ∷ [])
  pub normal : new.normal ≡ old.normal
  pub was_running : old.refused ≡ false
  pub unrefused : new.refused ≡ false

-- what was written of a token is all that the lists differ by
wrote : (old : WriterView) (m : Token) (new : WriterView) (after : List Token) → WroteToken old m new
    → Writes old (m ∷ after) new after
wrote old m new after w = record {
  text = w.text after;
  first = ap (λ b. first_flag_after b after) w.first ∙ first_before old.first m after;
  are_tokens = λ h. in_range_before m after w.is_token h;
  normal = w.normal;
  shorter = omega arith;
  was_running = w.was_running;
  unrefused = w.unrefused;
}

-- the first of the tokens `before` is that of a leaf, whose normal form is u, and in range; `after` are the others
pub record LeafFirst (before : List Token) (u : Tree) (after : List Token) : Type 0 where
  pub tree : Tree
  pub is_first : before ≡ leaf tree ∷ after
  pub is_norm : u ≡ norm tree
  pub in_range : InRange u

-- a leaf was written, as u
pub on_leaf : {T E : Type 0} {before : List Token} {u : Tree} {after : List Token} (r : Result T E) (old new : WriterView)
    (n : ℕ) → LeafFirst before u after → OnOk r (new ≡ after_append old (compact u) n) → OnOk r (old.refused ≡ false)
    → OnOk r (Writes old before new after)
on_leaf {before = before} {u = u} {after = after} (Ok x) old new n l w stays =
    subst (λ (z : WriterView). Writes old before z after) (sym w)
    (subst (λ (z : List Token). Writes old z (after_append old (compact u) n) after) (sym l.is_first)
    (wrote old (leaf l.tree) (after_append old (compact u) n) after
    (record {
      text = λ rest. append_assoc old.text (compact u) (tokens_text old.first rest)
          ∙ ap (λ z. old.text ++ (compact z ++ tokens_text old.first rest)) l.is_norm;
      is_token = (subst InRange l.is_norm l.in_range, tt);
      first = refl;
      normal = refl;
      was_running = stays;
      unrefused = stays;
    })))
on_leaf (Err x) old new n l w stays = tt

-- ---- a whole tree

-- its first token was written, and then what is left
pub record Wrote (t : Tree) (old mid new : WriterView) (left : List Token) : Type 0 where
  pub begun : Writes old (tokens t []) mid left
  pub ended : Writes mid left new []

-- if an ordered tree was written, first its first token (from `old` to `mid`) and then the tokens `left` (from `mid` to
-- `new`), the text grew by the compact text of its normal form
pub text_wrote : (t : Tree) (old mid new : WriterView) (left : List Token) → Wrote t old mid new left
    → IsOrdered t → new.text ≡ old.text ++ compact (norm t)
text_wrote t old mid new left w o =
    sym (append-nil new.text) ∙ w.ended.text ∙ w.begun.text ∙ ap (λ (x : List ℕ). old.text ++ x) (text_whole old.first t o)

-- if a tree was written, its normal form is in range
pub tree_wrote : (t : Tree) (old mid new : WriterView) (left : List Token) → Wrote t old mid new left → InRange (norm t)
tree_wrote t old mid new left w = (tokens_tree t [] (w.begun.are_tokens (w.ended.are_tokens tt))).0

-- if the flag `first` of the writer was false before a tree was written, it is false after it
pub first_wrote : (t : Tree) (old mid new : WriterView) (left : List Token) → Wrote t old mid new left
    → old.first ≡ false → new.first ≡ false
first_wrote t old mid new left w e = w.ended.first ∙ w.begun.first ∙ ap (λ b. first_flag_after b (tokens t [])) e ∙ first_tokens t []

-- if a tree was written, the writer's flag `normal` is unchanged, and the tree's normal form is its own normal form
pub normal_wrote : (t : Tree) (old mid new : WriterView) (left : List Token) → Wrote t old mid new left
    → KeepsNormal old (norm t) new
normal_wrote t old mid new left w e = (sym w.begun.normal ∙ (sym w.ended.normal ∙ e), norm_twice t)
