-- The byte order of names is total (`nat_list_cmp_total`), and the closure always returns the comparison of two
-- names, so `sort_by` sorts the entries by it.
use Rattle.std.proofs.Common.{rules, is_lt, string_bytes}
use Rattle.std.proofs.lemmas.List.Sorted.{ranks_by, answers_always}
use Rattle.std.specs.Cmp.Lexicographic.{nat_list_cmp_total}
use Rattle.miniserde_model.specs.Normal.{text_cmp}
use Rattle.miniserde_ser.proofs.ser.impls.hashed.sort_entries.Goals as goal

pub returns-clause-sorted : goal.returns-clause-sorted
returns-clause-sorted g c =
    c.in_ok-sort_by.ensures.sorted (λ x y. is_lt (text_cmp (string_bytes x.0) (string_bytes y.0)))
    (ranks_by nat_list_cmp_total (λ r. string_bytes r.0)) (answers_always _ _ _ (λ q a r h k. search rules))
