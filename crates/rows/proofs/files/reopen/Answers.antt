-- The files that the close gave back hold the last commit, and the open finds it.
use Rattle.rows.proofs.Reopened.{reopened_finds}
use Rattle.sqlite.specs.Files.{file_state}
use Rattle.rows.proofs.Opened.{opened_serves}
use Rattle.rows.proofs.files.reopen.Goals as goal

pub returns-in-Ok-open_files-clause-found : goal.returns-in-Ok-open_files-clause-found
returns-in-Ok-open_files-clause-found g c clean =
    reopened_finds c.args.conn c.in-Ok-open_files.again c.in-Ok.files c.schema-schema.ensures.live c.in-Ok.ensures.copied
    (c.in-Ok-open_files.ensures.opened clean) (c.in-Ok-open_files.ensures.found clean)

pub returns-in-Ok-open_files-clause-clean : goal.returns-in-Ok-open_files-clause-clean
returns-in-Ok-open_files-clause-clean g c clean = (c.in-Ok.ensures.copied (c.in-Ok-open_files.ensures.found clean).honest).was_clean

pub returns-in-Ok-open_files-clause-serving : goal.returns-in-Ok-open_files-clause-serving
returns-in-Ok-open_files-clause-serving g c clean has =
    let opened = c.in-Ok-open_files.ensures.opened clean in
    opened_serves _ (file_state c.in-Ok-open_files.again) opened.0 opened.1 (c.in-Ok-open_files.ensures.found clean).reads has
