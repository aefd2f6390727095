-- If the text has the word at `at`, the last byte that is taken is the last byte of the word (`last`). So it is ASCII
-- and not 0, which `index_after` requires.
use Rattle.std.proofs.Common.{arith, ◌≡◌, ◌++◌, ◌-◌, drop, length, get_or, subst}
use Rattle.std.specs.Prelude.{nat_eq}
use Rattle.std.specs.List.{starts_with}
use Rattle.std.proofs.lemmas.List.{take_rest}
use Rattle.std.proofs.lemmas.Slice.Eq.{starts_is}
use Rattle.std.proofs.lemmas.Bool.Decides.{Decides-eqb}
use Rattle.std.proofs.lemmas.List.Prefix.{front_reads}
use Rattle.miniserde_text.proofs.json.lex.token.after_word.Goals as goal

last : (c : goal.Then-starts_with) → get_or (drop c.args.at c.args.bytes.now) (length c.args.word.now - 1) 0
    ≡ get_or c.args.word.now (length c.args.word.now - 1) 0
last c =
    let s = drop c.args.at c.args.bytes.now in
    let w = c.args.word.now in
    let is = subst (λ x. c.starts_with.result ≡ starts_with nat_eq x w) (take_rest c.args.bytes.now c.args.at)
    c.starts_with.ensures.value in
    let both : s ≡ w ++ drop (length w) s = (starts_is Decides-eqb s w c.starts_with.result is).0 c.if-starts_with.true in
    front_reads 0 s w _ both (length w - 1) (omega arith)

pub index_after-requires-clause-there : goal.index_after-requires-clause-there
index_after-requires-clause-there c = omega (arith, last c)

pub index_after-requires-clause-ascii : goal.index_after-requires-clause-ascii
index_after-requires-clause-ascii c = omega (arith, last c)
