-- Whether the text names one of the hosts so far.
use Rattle.std.proofs.Common.{◌≡◌, map, string_bytes, take}
use Rattle.store.specs.Hosts.{is_served}
use Rattle.store.proofs.hosts.is_served.Given as goal

abbrev pub invariant-loop-i : goal.invariant-loop-i
invariant-loop-i l = l.found ≡ is_served (map string_bytes (take l.i l.hosts)) l.text
