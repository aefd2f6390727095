-- The pairs are looked at one by one: the first of the name, or none.
use Rattle.std.proofs.Common.{◌≡◌, true, false, ap, sym, ◌∙◌, string_bytes}
use Rattle.std.specs.Prelude.{bytes_eq}
use Rattle.form_urlencoded.specs.Form.{raw_pairs}
use Rattle.form_urlencoded.specs.Parse.{owned_pairs_left}
use Rattle.store.specs.Lists.{first_value}
use Rattle.store.proofs.ListLemmas.{texts, met, unmet, none_left}
use Rattle.store.proofs.lists.parameter.Goals as goal

pub loop-pair-init : goal.loop-pair-init
loop-pair-init c =
    ap (λ raw. first_value c.args.name.now (texts raw)) (ap owned_pairs_left c.into_iter-pair-iterator.ensures.into_iter_gives
    ∙ c.into_owned-pair-items.ensures ∙ c.parse.ensures.value ∙ ap raw_pairs c.as_bytes.ensures.value)

pub returns-then-eq : goal.returns-then-eq
returns-then-eq c =
    let step = c.in-Some.ensures.steps in
    let name = c.args.name.now in
    let given = string_bytes c.in_ok-given.given in
    let decoded = rw c.in_ok-given.was at step.3 in
    let same : bytes_eq given name ≡ true = ap (λ t. bytes_eq t name) (sym c.as_str.ensures.value) ∙ sym c.eq.ensures ∙ c.if-eq.true in
    sym (met name (owned_pairs_left c.loop-pair.pair-iterator) (owned_pairs_left c.next.new.self) step.0 step.1 given
    (string_bytes c.in_ok-given.value) step.2 decoded.0 decoded.1 same)
    ∙ c.loop-pair.invariant

pub loop-pair-preserved : goal.loop-pair-preserved
loop-pair-preserved c =
    let step = c.in-Some.ensures.steps in
    let name = c.args.name.now in
    let given = string_bytes c.in_ok-given.given in
    let decoded = rw c.in_ok-given.was at step.3 in
    let other : bytes_eq given name ≡ false = ap (λ t. bytes_eq t name) (sym c.as_str.ensures.value) ∙ sym c.eq.ensures ∙ c.if-eq.false in
    sym (unmet name (owned_pairs_left c.loop-pair.pair-iterator) (owned_pairs_left c.next.new.self) step.0 step.1 given
    (string_bytes c.in_ok-given.value) step.2 decoded.0 other)
    ∙ c.loop-pair.invariant

pub returns : goal.returns
returns c = sym (none_left c.args.name.now (owned_pairs_left c.loop-pair.pair-iterator) c.in-None.ensures.steps) ∙ c.loop-pair.invariant
