-- The event is a leaf's, and the tree is that leaf.
use Rattle.std.proofs.Common.{◌≡◌, Some, None, subst}
use Rattle.std.proofs.lemmas.Result.{IfOk-weaker}
use Rattle.miniserde_model.specs.Tree.{Tree}
use Rattle.miniserde_text.specs.Lexer.{event_of_token}
use Rattle.miniserde_read.specs.Events.{event_of, on_leaf}
use Rattle.miniserde_read.specs.Rest.{ValueAt}
use Rattle.miniserde_read.proofs.Leaves.{leaf_given, leaf_none}
use Rattle.miniserde_read.proofs.leaf.read_leaf.Goals as goal

pub returns-clause-ok : goal.returns-clause-ok
returns-clause-ok g c =
    let f = g.T.Leaf.means.from_tree in
    let e = event_of_token c.args.token c.args.source.now.scratch in
    let s = c.args.source.now.rest in
    IfOk-weaker c.from_step.result (λ v. on_leaf f (event_of c.step.result) ≡ Some (g.T.Leaf.means.content v))
    (λ v. (t : Tree) × ValueAt t e s s × (f t ≡ Some (g.T.Leaf.means.content v)))
    (λ v h. leaf_given f e s (g.T.Leaf.means.content v)
    (subst (λ z. on_leaf f z ≡ Some (g.T.Leaf.means.content v)) c.step.ensures h)) c.from_step.ensures.ok

pub returns-clause-invalid : goal.returns-clause-invalid
returns-clause-invalid g c = λ h t r v.
    leaf_none g.T.Leaf.means.from_tree g.T.Leaf.only_leaves (event_of_token c.args.token c.args.source.now.scratch)
    t c.args.source.now.rest r
    (subst (λ z. on_leaf g.T.Leaf.means.from_tree z ≡ None) c.step.ensures (c.from_step.ensures.invalid h)) v
