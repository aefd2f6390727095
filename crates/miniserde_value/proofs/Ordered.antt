-- The names of a map's members rise, an inserted entry is put under its name, and a lookup finds a name exactly if a
-- member has it. By induction over the sorted entries, and by cases of the order of two names.
use Rattle.std.proofs.Common.{◌≡◌, ℕ, Bool, true, false, cond, List, [], ◌∷◌, Option, Some, None, is_some, bytes_eq}
use Rattle.std.proofs.Common.{refl, sym, ap, ◌∙◌, String, BTreeMap, Global, string_bytes, string_cmp, Ordering}
use Rattle.std.proofs.Common.{Less, Equal, Greater}
use Rattle.std.specs.Ordering.{match_ordering}
use Rattle.std.specs.Cmp.Lexicographic.{texts_ties}
use Rattle.std.specs.Map.{keys_of, lookup}
use Rattle.std.specs.BTreeMap.{is_at, insert_entry, IsOrdered}
use Rattle.std.specs.List.{AllByRecursion}
use Rattle.std.specs.List.Sorted.{IsStrictlySortedBy}
use Rattle.std.proofs.lemmas.Map.Keys.{sorted_head, sorted_tail}
use Rattle.miniserde_model.specs.Tree.{Tree, Members, member}
use Rattle.miniserde_model.specs.Normal.{text_cmp, or_else, last_of, BeginsAbove, Rise, put}
use Rattle.miniserde_model.proofs.Lookups.{or_else_none}
use Rattle.miniserde_ser.specs.Trees.{members_of}
use Rattle.miniserde_text.proofs.Equal.{bytes_eq-flips}

module _ {V : Type 0} (f : V → Tree) where
  abbrev Entries : Type 0
  Entries = List (String Global × V)

  abbrev shown : Entries → Members
  shown es = members_of string_bytes f es

  -- sorted entries have rising names
  sorted_rises : (es : Entries) → IsStrictlySortedBy string_cmp (keys_of es) → Rise (shown es)
  sorted_rises [] s = tt
  sorted_rises (e ∷ es) s = (
    begins es (sorted_head string_cmp e.0 (keys_of es) s),
    sorted_rises es (sorted_tail string_cmp e.0 (keys_of es) s),
  )
    where
      begins : (ds : Entries) → AllByRecursion (λ k. string_cmp e.0 k ≡ Less) (keys_of ds) → BeginsAbove (string_bytes e.0) (shown ds)
      begins [] a = tt
      begins (d ∷ ds) a = a.0

  -- the names of an ordered map rise
  pub ordered_rises : (m : BTreeMap (String Global) V) → IsOrdered string_cmp m → Rise (shown m.entries)
  ordered_rises m o = sorted_rises m.entries o

  -- an entry that is inserted is put under its name
  pub inserted : (es : Entries) (k : String Global) (v : V) → shown (insert_entry string_cmp es k v) ≡ put (string_bytes k) (f v) (shown es)
  inserted [] k v = refl
  inserted (e ∷ es) k v = go (string_cmp k e.0) refl (inserted es k v)
    where
      go : (o : Ordering) → string_cmp k e.0 ≡ o → shown (insert_entry string_cmp es k v) ≡ put (string_bytes k)
          (f v) (shown es) → shown
          (match_ordering o ((k, v) ∷ e ∷ es) ((e.0, v) ∷ es) (e ∷ insert_entry string_cmp es k v)) ≡ match_ordering o
          (shown ((k, v) ∷ e ∷ es)) (shown ((e.0, v) ∷ es)) (member (string_bytes e.0) (f e.1) (put (string_bytes k) (f v) (shown es)))
      go Less c h = refl
      go Equal c h = refl
      go Greater c h = ap (member (string_bytes e.0) (f e.1)) h

  either : (b : Bool) (v : V) (t : Tree) (x : Option V) (o : Option Tree) → is_some x ≡ is_some o
      → is_some (cond b (Some v) x) ≡ is_some (or_else o (cond b (Some t) None))
  either true v t x None h = refl
  either true v t x (Some u) h = refl
  either false v t x o h = h ∙ ap is_some (sym (or_else_none o))

  -- a name is found where there is a tree of it
  pub found_name : (q : List ℕ) (es : Entries) → is_some (lookup (is_at (λ k. text_cmp q (string_bytes k))) es)
      ≡ is_some (last_of q (shown es))
  found_name q [] = refl
  found_name q (e ∷ es) =
      let name = string_bytes e.0 in
      ap (λ b. is_some (cond b (Some e.1) (lookup (is_at (λ k. text_cmp q (string_bytes k))) es)))
      (sym (texts_ties q name) ∙ bytes_eq-flips q name)
      ∙ either (bytes_eq name q) e.1 (f e.1) (lookup (is_at (λ k. text_cmp q (string_bytes k))) es) (last_of q (shown es)) (found_name q es)
