-- The document is a place (`document_way`), and so is what stands in a field of a struct at a place (`field_way`), and in
-- an optional one (`option_way`). Trees that agree do so the other way round (`agree-turn`).
use Rattle.std.proofs.Common.{List, [], ◌∷◌, ◌++◌, None, inl, inr, refl, sym, subst, append_assoc}
use Rattle.miniserde.specs.Tree.{Tree}
use Rattle.miniserde.specs.Objects.{Name}
use Rattle.refused.specs.Agree.{AgreeAt, Pairwise}
use Rattle.refused.specs.Ways.{IsWay}
use Rattle.refused.specs.Wrong.{Gives, alone, any_number, document_gives, field_gives, optional_gives, first_alone, name_or_empty}
use Rattle.refused.specs.laws.Alone.{alone-both, alone-depends, optional_rule, option-both, option-depends}

pairwise-turn : {R : Tree → Tree → Type 0} → ((t u : Tree) → R t u → R u t) → (ts us : List Tree) → Pairwise R ts us → Pairwise R us ts
pairwise-turn turn [] [] p = tt
pairwise-turn turn (t ∷ ts) [] p = p
pairwise-turn turn [] (u ∷ us) p = p
pairwise-turn turn (t ∷ ts) (u ∷ us) p = (turn t u p.0, pairwise-turn turn ts us p.1)

pub agree-turn : (path : List Name) (t u : Tree) → AgreeAt path t u → AgreeAt path u t
agree-turn [] t u a = sym a
agree-turn (n ∷ ns) t u (inl e) = inl (sym e)
agree-turn (n ∷ ns) t u (inr (ms, ls, e, f, p)) = inr (ls, ms, f, e, pairwise-turn (agree-turn ns) _ _ p)

abbrev pub document_way : IsWay document_gives []
document_way = record { both = λ f g h pass t p q. pass t p q; depends = λ of path d t u a s. d t u a s }

module _ {gives : Gives} {here : List Name} (way : IsWay gives here) (names : List Name) where
  longer : (path : List Name) (t u : Tree) → AgreeAt ((here ++ name_or_empty names ∷ []) ++ path) t u
      → AgreeAt (here ++ name_or_empty names ∷ path) t u
  longer path t u a = subst (λ p. AgreeAt p t u) (append_assoc here (name_or_empty names ∷ []) path) a

  pub field_way : IsWay (field_gives gives names) (here ++ name_or_empty names ∷ [])
  field_way = record {
    both = λ f g h pass. way.both (alone (any_number None f) (first_alone names)) (alone (any_number None g) (first_alone names))
        (alone (any_number None h) (first_alone names))
        (alone-both {one = any_number None f} {two = any_number None g} {to = any_number None h}
        (record { many = refl; tree = pass; absent = λ a b. a }) names);
    depends = λ of path d t u a. way.depends (alone (any_number None of) (first_alone names)) (name_or_empty names ∷ path)
        (alone-depends (any_number None of) names path d) t u (longer path t u a);
  }

  pub option_way : IsWay (optional_gives gives names) (here ++ name_or_empty names ∷ [])
  option_way = record {
    both = λ f g h pass. way.both (alone (optional_rule f) (first_alone names)) (alone (optional_rule g) (first_alone names))
        (alone (optional_rule h) (first_alone names)) (alone-both (option-both f g h pass) names);
    depends = λ of path d t u a. way.depends (alone (optional_rule of) (first_alone names)) (name_or_empty names ∷ path)
        (alone-depends (optional_rule of) names path (option-depends of path d)) t u (longer path t u a);
  }
