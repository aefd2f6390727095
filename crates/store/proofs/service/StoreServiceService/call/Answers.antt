-- The path is that of the list, of an entry or of neither, and the method says what is done with it.
use Rattle.std.proofs.Common.{rules, ◌≡◌, false, Ok, inl, inr, IsTrue, map, string_bytes, refl, sym, ap, subst, ◌∙◌, true≢false}
use Rattle.http.specs.Request.{body_of}
use Rattle.http_uri.specs.Uri.{uri_path}
use Rattle.sqlite.specs.Held.{state}
use Rattle.store.specs.Hosts.{is_for_host}
use Rattle.store.specs.Routes.{IsEntry, IsRead, path_of, method_of, headers_of, put_method, delete_method}
use Rattle.store.specs.Answered.{codec, outcome, is_bare, AnsweredFor, AnsweredList, Reads, Puts, Removes, Goes}
use Rattle.store.specs.Lists.{IsList}
use Rattle.store.proofs.Steps.{stays, goes_by, ok_by, keeps_self}
use Rattle.store.proofs.service.StoreServiceService.call.Goals.{in-Read, in-Put, in-Delete}
use Rattle.store.proofs.service.StoreServiceService.call.Goals as goal

pub returns-then-not-is_for_host-clause-ok : goal.returns-then-not-is_for_host-clause-ok
returns-then-not-is_for_host-clause-ok g c =
    let s = state g.S.Store c.args.self.now.0 in
    let other : is_for_host c.args.self.now.1 c.args.request.now ≡ false = search rules in
    (refl, stays s _ (inr (other, (keeps_self s, record { status = refl; headers = c.requires.headers; body = c.requires.body }))))

pub returns-in_default-clause-ok : goal.returns-in_default-clause-ok
returns-in_default-clause-ok g c =
    let s = state g.S.Store c.args.self.now.0 in
    let served : IsTrue (is_for_host c.args.self.now.1 c.args.request.now) = search rules in
    let path : c.path-2.result.now ≡ path_of c.args.request.now = c.path-2.ensures.value ∙ ap uri_path c.uri-2.ensures in
    let first : c.path.result.now ≡ path_of c.args.request.now = c.path.ensures.value ∙ ap uri_path c.uri.ensures in (
      refl,
      stays s _ (inl (
        served,
        inr (inr (
          λ key is. c.entry_key.ensures.none (c.in_ok-key.was ∙ ap Ok c.in_default.is) key (subst (λ p. IsEntry p key) (sym path) is),
          λ is. true≢false (sym (c.is_list.ensures.1 (first ∙ is)) ∙ c.if-is_list.false),
          (keeps_self s, record { status = refl; headers = c.requires.headers; body = c.requires.body }),
        )),
      )),
    )

pub returns-then-is_list-clause-ok : goal.returns-then-is_list-clause-ok
returns-then-is_list-clause-ok g c =
    let old = state g.S.Store c.self.inside.conn in
    let new = state g.S.Store c.answer_list.new.conn in
    let request = c.args.request.now in
    let response = c.answer_list.new.response in
    let o = outcome old response new in
    let hosts = map string_bytes c.self.inside.hosts.items in
    let served : IsTrue (is_for_host hosts request) = search rules in
    let answers = AnsweredFor hosts (codec g.V.FromJson.means g.V.Serialize.tree) request o in
    let path : c.path.result.now ≡ path_of request = c.path.ensures.value ∙ ap uri_path c.uri.ensures in
    let is : IsList (path_of request) = sym path ∙ c.is_list.ensures.0 c.if-is_list.true in
    rw (← c.self.view_is)
    (ok_by c.answer_list.result (Goes old new (AnsweredList request o)) ((hosts ≡ hosts) × Goes old new answers)
    (λ goes. (refl, goes_by old new (AnsweredList request o) answers (λ p. inl (served, inr (inl (is, p)))) goes)) c.answer_list.ensures.ok)

pub returns-clause-ok : goal.returns-clause-ok
returns-clause-ok g c =
    let old = state g.S.Store c.self.inside.conn in
    let request = c.args.request.now in
    let of = codec g.V.FromJson.means g.V.Serialize.tree in
    let hosts = map string_bytes c.self.inside.hosts.items in
    let served : IsTrue (is_for_host hosts request) = search rules in
    let path : c.path-2.result.now ≡ path_of request = c.path-2.ensures.value ∙ ap uri_path c.uri-2.ensures in
    let there : IsEntry c.path-2.result.now (string_bytes c.in-Some.key) = rw c.in-Some.is at c.in_ok-key.ensures.some in
    let entry : IsEntry (path_of request) (string_bytes c.in-Some.key) = subst (λ p. IsEntry p (string_bytes c.in-Some.key)) path there in
    elim c.match-verb_of.branch [
      | in-Read w ↦
          let key = w.as_str.result.now in
          let new = state g.S.Store w.read.new.conn in
          let o = outcome old w.read.new.response new in
          let at : IsEntry (path_of request) key = subst (IsEntry (path_of request)) (sym w.as_str.ensures.value) entry in
          let is : IsRead (method_of request) = subst IsRead c.method.ensures (c.verb_of.ensures.read w.in-Read.is) in
          let bare : w.is_bare.result ≡ is_bare (method_of request) (headers_of request) =
          w.is_bare.ensures ∙ (λ i. is_bare (w.method-in-Read.ensures i) (w.headers.ensures i)) in
          rw (w.self-is, w.response-is, ← c.self.view_is) (
            refl,
            goes_by old new (Reads o w.is_bare.result w.headers-in-Read.result.now key) (AnsweredFor hosts of request o)
                (λ p. inl (
                  served,
                  inl (
                    key,
                    at,
                    inl (
                      is,
                      subst (λ v. Reads o v (headers_of request) key) bare
                          (subst (λ h. Reads o w.is_bare.result h key) w.headers-in-Read.ensures p),
                    ),
                  ),
                ))
                w.read.ensures,
          )
      | in-Put w ↦
          let key = w.as_str-in-Put.result.now in
          let new = state g.S.Store w.put.new.conn in
          let o = outcome old w.put.new.response new in
          let at : IsEntry (path_of request) key = subst (IsEntry (path_of request)) (sym w.as_str-in-Put.ensures.value) entry in
          let is : method_of request ≡ put_method = sym c.method.ensures ∙ c.verb_of.ensures.put w.in-Put.is in
          let body : w.as_slice-in-Put.result.now ≡ body_of request = w.as_slice-in-Put.ensures ∙ w.body.ensures in
          rw (w.self-is, w.response-is, ← c.self.view_is) (
            refl,
            goes_by old new (Puts of o w.headers-in-Put.result.now key w.as_slice-in-Put.result.now) (AnsweredFor hosts of request o)
                (λ p. inl (
                  served,
                  inl (
                    key,
                    at,
                    inr (inl (
                      is,
                      subst (λ h. Puts of o h key (body_of request))
                          w.headers-in-Put.ensures
                          (subst (λ b. Puts of o w.headers-in-Put.result.now key b) body p),
                    )),
                  ),
                ))
                w.put.ensures,
          )
      | in-Delete w ↦
          let key = w.as_str-in-Delete.result.now in
          let new = state g.S.Store w.remove.new.conn in
          let o = outcome old w.remove.new.response new in
          let at : IsEntry (path_of request) key = subst (IsEntry (path_of request)) (sym w.as_str-in-Delete.ensures.value) entry in
          let is : method_of request ≡ delete_method = sym c.method.ensures ∙ c.verb_of.ensures.delete w.in-Delete.is in
          rw (w.self-is, w.response-is, ← c.self.view_is) (
            refl,
            goes_by old new (Removes o w.headers-in-Delete.result.now key) (AnsweredFor hosts of request o)
                (λ p. inl (served, inl (key, at, inr (inr (inl (is, subst (λ h. Removes o h key) w.headers-in-Delete.ensures p))))))
                w.remove.ensures,
          )
    ]
