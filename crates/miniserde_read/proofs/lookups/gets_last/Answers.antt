-- A lookup finds the last member of the name (`last_name`): the order of texts ties exactly on equal bytes.
use Rattle.std.proofs.Common.{◌∙◌, string_bytes}
use Rattle.std.specs.Ordering.{is_eq, nat_cmp}
use Rattle.std.specs.Cmp.Lexicographic.{slice_cmp}
use Rattle.std.proofs.lemmas.Map.Text.{is_eq-slice_cmp}
use Rattle.miniserde_text.proofs.Equal.{bytes_eq-flips}
use Rattle.miniserde_read.proofs.LastMembers.{last_name}
use Rattle.miniserde_read.proofs.lookups.gets_last.Goals as goal

pub returns : goal.returns
returns g c = λ t r name.
    last_name string_bytes g.T.FromJson.means.reads g.T.FromJson.means.from_tree t c.args.map.now.entries r
    (λ k. is_eq (slice_cmp nat_cmp name (string_bytes k))) name
    (λ k. is_eq-slice_cmp name (string_bytes k) ∙ bytes_eq-flips name (string_bytes k))
