-- The method reads, and the query of the URI was listed.
use Rattle.std.proofs.Common.{◌≡◌, inl, [], ℕ, List, Option, Some, None, refl, ap, subst, ◌∙◌}
use Rattle.std.specs.Prelude.{unwrap_or}
use Rattle.std.specs.Option.{option_copied}
use Rattle.std.specs.Borrow.{Bor}
use Rattle.http_uri.specs.Uri.{uri_query}
use Rattle.sqlite.specs.Held.{state}
use Rattle.store.specs.Routes.{IsRead, method_of, headers_of}
use Rattle.store.specs.Lists.{query_of}
use Rattle.store.specs.Answered.{outcome, is_bare, Lists, AnsweredList}
use Rattle.store.proofs.Steps.{goes_by}
use Rattle.store.proofs.lists.answer_list.Goals as goal

now_or : (o : Option (Bor (List ℕ))) (default : Bor (List ℕ)) → (unwrap_or o default).now ≡ unwrap_or (option_copied o) default.now
now_or None default = refl
now_or (Some b) default = refl

pub returns-clause-ok : goal.returns-clause-ok
returns-clause-ok g c =
    let old = state g.S.Store c.args.conn.now in
    let new = state g.S.Store c.list.new.conn in
    let request = c.args.request.now in
    let response = c.list.new.response in
    let headers = c.headers-headers.result.now in
    let o = outcome old response new in
    let is : IsRead (method_of request) = subst IsRead c.method.ensures (c.is_read.ensures.0 c.if-not-is_read.false) in
    let query : c.unwrap_or-query.result.now ≡ query_of request =
    ap (λ (b : Bor (List ℕ)). b.now) c.unwrap_or-query.ensures ∙ now_or c.query.result _
    ∙ ap (λ (o : Option (List ℕ)). unwrap_or o []) (c.query.ensures.value ∙ ap uri_query c.uri.ensures) in
    let bare : c.is_bare-bare.result ≡ is_bare (method_of request) (headers_of request) =
    c.is_bare-bare.ensures ∙ (λ i. is_bare (c.method-2.ensures i) (c.headers-headers.ensures i)) in
    goes_by old new (Lists o c.is_bare-bare.result headers c.unwrap_or-query.result.now) (AnsweredList request o)
    (λ p. inl (
      is,
      subst (λ v. Lists o v (headers_of request) (query_of request)) bare
          (subst (λ h. Lists o c.is_bare-bare.result h (query_of request)) c.headers-headers.ensures
          (subst (λ q. Lists o c.is_bare-bare.result headers q) query p)),
    ))
    c.list.ensures
