-- The loop keeps that the items so far are given by the children so far (`ListGoes`), that there are at most N, and
-- that these children are among the first N of the list (`AmongGoes`). Each turn adds an item.
use Rattle.std.proofs.Common.{◌≡◌, ◌-◌, ◌≤◌, None, length}
use Rattle.miniserde_read.proofs.Lists.{ListGoes}
use Rattle.miniserde_read.proofs.Lacking.{AmongGoes}
use Rattle.miniserde_read.proofs.from_json.arrays.ArrayFromJson.read.Given as goal

abbrev pub invariant-loop-source : goal.invariant-loop-source
invariant-loop-source g l = record {
  going : l.source.refused ≡ None;
  goes : ListGoes g.T.FromJson.means l.fn.source.rest l.first l.source.rest l.items.items;
  few : length l.items.items ≤ g.row.N;
  among : AmongGoes g.row.N l.fn.source.rest l.first l.source.rest (length l.items.items);
}

abbrev pub decreases-loop-source : goal.decreases-loop-source
decreases-loop-source g l = g.row.N - length l.items.items
