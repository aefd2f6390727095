-- What becomes of settings and of requests.
use Rattle.std.specs.Prelude.{ℕ, Some, String}
use Rattle.std.specs.Global.{Global}
use Rattle.settings.specs.declared.types.Settings.{Settings}
use Rattle.uses.specs.declared.request.Request.{Request}

-- the settings, at that port
abbrev pub at_port : ℕ → Settings → Settings
at_port port s = record s { port = port }

-- the request, with that note
abbrev pub with_note : String Global → Request → Request
with_note note v = record v { note = Some note }
