-- The sort goes by the names, and is stable. Each call leaves the names as they were.
use Rattle.std.proofs.Common.{rules, is_lt}
use Rattle.std.proofs.lemmas.List.Sorted.{ranks_by}
use Rattle.std.proofs.lemmas.Fn.{always_returns_same}
use Rattle.std.specs.Cmp.Lexicographic.{nat_list_cmp_total}
use Rattle.miniserde_model.specs.Normal.{text_cmp}
use Rattle.miniserde_canonical.specs.private.Members.{name_in}
use Rattle.miniserde_canonical.proofs.MemberLists.{stable_last}
use Rattle.miniserde_canonical.proofs.members.sort.Goals as goal

pub returns-clause-sorted : goal.returns-clause-sorted
returns-clause-sorted c =
    c.in_ok-sort_by.ensures.sorted
    (λ x y. is_lt (text_cmp (name_in c.args.members.now x) (name_in c.args.members.now y)))
    (ranks_by nat_list_cmp_total (name_in c.args.members.now))
    (always_returns_same _ _ _ (λ a r h k. (search rules, search rules)))

pub returns-clause-last : goal.returns-clause-last
returns-clause-last c = λ r.
    stable_last (name_in c.args.members.now) r _ _
    (c.in_ok-sort_by.ensures.stable
    (λ x y. is_lt (text_cmp (name_in c.args.members.now x) (name_in c.args.members.now y)))
    (ranks_by nat_list_cmp_total (name_in c.args.members.now))
    (always_returns_same _ _ _ (λ a r h k. (search rules, search rules))))
