-- The text begins with the host, and what follows ends it.
use Rattle.std.proofs.Common.{rules, arith, ◌≡◌, ◌-◌, true, ◌&&◌, take, drop, length, sym, ap, ◌∙◌}
use Rattle.std.proofs.lemmas.List.{length-drop, take_all}
use Rattle.std.specs.Prelude.{bytes_eq}
use Rattle.std.proofs.lemmas.Slice.Eq.{bytes_eq-Decides}
use Rattle.store.specs.Hosts.{ends_host, in_lowercase}
use Rattle.store.proofs.hosts.names_host.Goals as goal

pub returns : goal.returns
returns c =
    let text = c.args.text.now in
    let host = c.args.host.now in
    let begins : in_lowercase (take (length host) text) ≡ in_lowercase host = search rules in
    let same = (bytes_eq-Decides (in_lowercase (take (length host) text)) (in_lowercase host)).1 begins in
    let size = length-drop (length host) text in
    let all = take_all (length text - length host) (drop (length host) text) (omega (arith, size)) in
    c.ends_host.ensures ∙ ap ends_host all ∙ sym (ap (λ b. b && ends_host (drop (length host) text)) same)
