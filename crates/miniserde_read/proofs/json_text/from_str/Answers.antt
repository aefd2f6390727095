-- `from_str` returns a value that the tree of the text means, and `Invalid` only if no tree of the text means a
-- value. The text is whitespace, the first event, the rest of the value and whitespace: `json_at` and `json_front`
-- split it there, and `at_json` joins the parts.
use Rattle.std.proofs.Common.{◌≡◌, Some, None, sym, subst, ◌∙◌}
use Rattle.std.proofs.lemmas.Result.{err_from_is_err_and}
use Rattle.miniserde_model.proofs.Unique.{one_tree}
use Rattle.miniserde_model.specs.Tree.{Tree}
use Rattle.miniserde_model.specs.Whitespace.{IsWhitespace}
use Rattle.miniserde_read.proofs.Same.{value_same}
use Rattle.miniserde_read.proofs.Json.{JsonAt, json_at, json_front, at_json}
use Rattle.miniserde_read.proofs.Lacking.{has_escape}
use Rattle.miniserde_read.proofs.json_text.from_str.Given.{Over}
use Rattle.miniserde_read.proofs.json_text.from_str.Goals as goal

-- a tree that gives nothing means no value
nothing_meant : (g : Over) (t : Tree) → g.T.FromJson.means.from_tree t ≡ None → (v : g.row.T.Denot) → g.T.FromJson.means.reads t v → ⊥
nothing_meant g t n v h = let e : Some (g.T.FromJson.means.content v) ≡ None = sym ((g.T.FromJson.means.reads_agrees t v).0 h) ∙ n in cc

pub returns-in_err-value-clause-one : goal.returns-in_err-value-clause-one
returns-in_err-value-clause-one g c = one_tree c.args.j.now

pub returns-in_err-end-clause-one : goal.returns-in_err-end-clause-one
returns-in_err-end-clause-one g c = one_tree c.args.j.now

pub returns-clause-one : goal.returns-clause-one
returns-clause-one g c = one_tree c.args.j.now

-- ---- no value of the type

pub returns-in_err-value-clause-none : goal.returns-in_err-value-clause-none
returns-in_err-value-clause-none g c = λ e t h.
    let w = err_from_is_err_and c.from_residual.result c.from_residual.ensures.1 in
    let a = json_at c.args.j.now t h in
    (rw c.new-source.ensures.rest at (c.in_err-value.ensures.invalid (cc (w.1, w.2, e)))) t a.event a.behind a.end a.starts a.is_value

pub returns-in_err-value-clause-invalid : goal.returns-in_err-value-clause-invalid
returns-in_err-value-clause-invalid g c = λ e t h. nothing_meant g t (returns-in_err-value-clause-none g c e t h)

pub returns-in_err-value-clause-memory : goal.returns-in_err-value-clause-memory
returns-in_err-value-clause-memory g c = λ i e.
    let w = err_from_is_err_and c.from_residual.result c.from_residual.ensures.1 in
    has_escape c.args.j.now (rw c.new-source.ensures.rest at (c.in_err-value.ensures.memory (cc (w.1, w.2, e)) i))

-- ---- more stands behind it

pub returns-in_err-end-clause-none : goal.returns-in_err-end-clause-none
returns-in_err-end-clause-none g c = λ e t h.
    let w = err_from_is_err_and c.from_residual-in_err-end.result c.from_residual-in_err-end.ensures.1 in
    let v = rw c.new-source.ensures.rest at c.in_ok-value.ensures.ok in
    let f = json_front c.args.j.now t v.event v.behind h v.starts in
    let same = value_same t v.one v.event v.behind f.0 c.read_due.new.source.rest f.1 v.is_value in
    absurd (c.in_err-end.ensures.invalid (cc (w.1, w.2, e)) c.in_ok-value.ensures.going (subst IsWhitespace same.1 f.2))

pub returns-in_err-end-clause-invalid : goal.returns-in_err-end-clause-invalid
returns-in_err-end-clause-invalid g c = λ e t h. nothing_meant g t (returns-in_err-end-clause-none g c e t h)

-- ---- all is read

pub returns-clause-content : goal.returns-clause-content
returns-clause-content g c =
    let v = rw c.new-source.ensures.rest at c.in_ok-value.ensures.ok in
    let all : JsonAt c.args.j.now v.one = record {
      event = v.event;
      behind = v.behind;
      end = _;
      starts = v.starts;
      is_value = v.is_value;
      white = c.in_ok-end.ensures.ok;
    } in
    (v.one, at_json c.args.j.now v.one all, v.gives)

pub returns-clause-ok : goal.returns-clause-ok
returns-clause-ok g c = let r = returns-clause-content g c in (r.0, r.1, (g.T.FromJson.means.reads_agrees r.0 c.in_ok-value.value).1 r.2)
