-- A tree means a document exactly if the document is written as the tree's normal form.
use Rattle.std.proofs.Common.{◌≡◌, Option, Some, sym, ap}
use Rattle.std.specs.Prelude.{◌↔◌}
use Rattle.std.proofs.lemmas.Option.{same_Some}
use Rattle.miniserde_model.specs.Tree.{Tree}

-- the tree u is t exactly if `Some t` is `Some u`
pub document-given : (t u : Tree) → (u ≡ t) ↔ (◌≡◌ {A = Option Tree} (Some t) (Some u))
document-given t u = (λ e. ap (λ (x : Tree). Some x) (sym e), λ e. sym (same_Some _ _ e))
