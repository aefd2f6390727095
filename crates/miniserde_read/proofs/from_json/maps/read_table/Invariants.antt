-- The loop keeps that the entries so far are given by the members so far (`ObjectNext`), behind which the closing brace
-- or the next comma was taken. Each turn shortens the text.
use Rattle.std.proofs.Common.{◌≡◌, None, length}
use Rattle.miniserde_text.specs.Lexer.{is_close}
use Rattle.miniserde_read.specs.types.Maps.{map_content, no_entries, map_member}
use Rattle.miniserde_read.proofs.Objects.{ObjectNext}
use Rattle.miniserde_read.proofs.from_json.maps.read_table.Given as goal

abbrev pub invariant-loop-next : goal.invariant-loop-next
invariant-loop-next g l = record {
  going : l.source.refused ≡ None;
  goes : ObjectNext (map_member g.M.Key.MapKey.read g.M.Key.MapKey.code g.V.FromJson.means.from_tree) no_entries
      l.fn.source.rest (is_close l.next) l.source.rest
      (map_content g.M.Key.MapKey.code g.M.Key.MapKey.content g.V.FromJson.means.content
      (g.M.Table.entries l.table));
}

abbrev pub decreases-loop-next : goal.decreases-loop-next
decreases-loop-next g l = length l.source.rest
