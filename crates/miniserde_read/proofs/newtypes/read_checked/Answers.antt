-- The inner value was read of a tree, which is the one tree of the text; the check says whether the tree means a
-- newtype.
use Rattle.std.proofs.Common.{◌≡◌, subst, None}
use Rattle.miniserde_text.specs.Lexer.{event_of_token}
use Rattle.miniserde_read.proofs.Same.{value_same}
use Rattle.miniserde_read.specs.Newtypes.{checked_of}
use Rattle.miniserde_read.proofs.Accepted.{checked-none, not_true}
use Rattle.miniserde_read.proofs.Calls.{reads_none}
use Rattle.miniserde_read.proofs.newtypes.read_checked.Goals as goal

pub returns-in-None-clause-reads : goal.returns-in-None-clause-reads
returns-in-None-clause-reads g c =
    let n = g.N.Checked in
    let read = c.in_ok-read.ensures.ok in
    let refused = not_true (n.accepts (n.means.content c.in_ok-read.field-0))
    (λ h. let no = c.in-None.ensures.accepted.1 h in cc) in
    let none = checked-none g.N.Inner.FromJson.means n.means g.met.N.Checked.same n.accepts read.0 c.in_ok-read.field-0
    read.2 refused in
    reads_none _ (λ e t r v. subst (λ u. checked_of n.accepts n.means.from_tree u ≡ None)
    (value_same read.0 t (event_of_token c.args.token c.args.source.now.scratch) c.args.source.now.rest _ r read.1 v).0
    none)
