-- What becomes of settings, and of a peer.
use Rattle.std.specs.Prelude.{ℕ}
use Rattle.std.proofs.Common.{String, Global}
use Rattle.test_more.specs.declared.peers.Peer.{Peer}
use Rattle.test_more.specs.declared.settings.Settings.{Settings}

-- the settings, at that port
abbrev pub with_port : ℕ → Settings → Settings
with_port port s = record s { port = port }

-- the peer, by that name
abbrev pub with_name : String Global → Peer → Peer
with_name name p = record p { name = name }
