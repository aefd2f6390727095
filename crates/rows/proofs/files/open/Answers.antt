-- The connection has the trees of the files, and so their database.
use Rattle.sqlite.specs.Files.{file_state}
use Rattle.sqlite.specs.WalFiles.{image_at}
use Rattle.rows.proofs.Reopened.{opened_finds}
use Rattle.rows.proofs.Opened.{opened_serves}
use Rattle.rows.proofs.files.open.Goals as goal

pub returns-in-Ok-clause-found : goal.returns-in-Ok-clause-found
returns-in-Ok-clause-found g c clean db sound holds =
    let opened = c.in-Ok.ensures.opened clean in
    opened_finds (image_at g.S.Start) (file_state c.in-Ok.conn) db opened.0 opened.1 (c.in-Ok.ensures.found clean) sound holds

pub returns-in-Ok-clause-serving : goal.returns-in-Ok-clause-serving
returns-in-Ok-clause-serving g c clean has =
    let opened = c.in-Ok.ensures.opened clean in
    opened_serves (image_at g.S.Start) (file_state c.in-Ok.conn) opened.0 opened.1 (c.in-Ok.ensures.found clean).reads has
