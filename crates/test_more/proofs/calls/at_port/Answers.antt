-- The text means the settings that are read, whose other members stay.
use Rattle.test_more.proofs.calls.at_port.Goals as goal

pub returns : goal.returns
returns c =
    let r = c.in_ok-settings.ensures.ok in
    let s = c.in_ok-settings.settings in
    record { ok = (r.0, s, r.1, r.2, c.in_ok-written.ensures.ok, c.others_stay.ensures r.0 s c.args.port r.2 c.ranged.ensures) }
