-- One more member was appended.
use Rattle.std.proofs.Common.{string_bytes}
use Rattle.rows.specs.Entries.{texts_of}
use Rattle.store.proofs.ListLemmas.{appended}
use Rattle.store.proofs.lists.object_of.Goals as goal

pub loop-i-preserved : goal.loop-i-preserved
loop-i-preserved c =
    appended texts_of c.loop-i.i c.args.entries.now (string_bytes c.loop-i.text) (string_bytes c.append_member.new.text) c.loop-i-test.true
    c.in_ok-append_member.ensures c.loop-i.invariant
