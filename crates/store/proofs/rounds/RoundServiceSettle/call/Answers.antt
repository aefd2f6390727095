-- The path is that of the list, of an entry or of neither, and the method says what is done with it.
use Rattle.std.proofs.Common.{◌≡◌, true, false, Ok, inl, inr, IsTrue, map, string_bytes, refl, sym, ap, subst, ◌∙◌, true≢false, rules}
use Rattle.http.specs.Request.{body_of}
use Rattle.http_uri.specs.Uri.{uri_path}
use Rattle.sqlite.specs.Held.{state}
use Rattle.store.specs.Routes.{IsEntry, IsRead, path_of, method_of, headers_of, put_method, delete_method}
use Rattle.store.specs.Lists.{IsList}
use Rattle.store.specs.Hosts.{is_for_host}
use Rattle.store.specs.Answered.{codec, outcome, is_bare}
use Rattle.store.specs.Maps.{ReadsMap, PutsMap, RemovesMap, AnsweredListMap}
use Rattle.store.proofs.RoundLemmas.{answered}
use Rattle.store.proofs.rounds.RoundServiceSettle.call.Goals.{in-Read, in-Put, in-Delete}
use Rattle.store.proofs.rounds.RoundServiceSettle.call.Goals as goal

pub returns-then-not-is_for_host-clause-ok : goal.returns-then-not-is_for_host-clause-ok
returns-then-not-is_for_host-clause-ok g c =
    let other : is_for_host c.args.self.now.1.1 c.args.request.now ≡ false = search rules in (
      refl,
      λ clean. (
        clean,
        λ begun m round. (
          m,
          round,
          λ yes. (yes, inr (other, refl, record { status = refl; headers = c.requires.headers; body = c.requires.body })),
        ),
      ),
    )

pub returns-in_default-clause-ok : goal.returns-in_default-clause-ok
returns-in_default-clause-ok g c =
    let served : IsTrue (is_for_host c.args.self.now.1.1 c.args.request.now) = search rules in
    let path : c.path-2.result.now ≡ path_of c.args.request.now = c.path-2.ensures.value ∙ ap uri_path c.uri-2.ensures in
    let first : c.path.result.now ≡ path_of c.args.request.now = c.path.ensures.value ∙ ap uri_path c.uri.ensures in (
      refl,
      λ clean. (
        clean,
        λ begun m round. (
          m,
          round,
          λ yes. (
            yes,
            inl (
              served,
              inr (inr (
                λ key is. c.entry_key.ensures.none (c.in_ok-key.was ∙ ap Ok c.in_default.is) key (subst (λ p. IsEntry p key) (sym path) is),
                λ is. true≢false (sym (c.is_list.ensures.1 (first ∙ is)) ∙ c.if-is_list.false),
                refl,
                record { status = refl; headers = c.requires.headers; body = c.requires.body },
              )),
            ),
          ),
        ),
      ),
    )

pub returns-then-is_list-clause-ok : goal.returns-then-is_list-clause-ok
returns-then-is_list-clause-ok g c =
    let old = state g.S.Store c.self.inside.conn in
    let stood : c.self.inside.stands ≡ true = search rules in
    let call = c.list_in_round in
    let request = c.args.request.now in
    let response = call.new.response in
    let path : c.path.result.now ≡ path_of request = c.path.ensures.value ∙ ap uri_path c.uri.ensures in
    let is : IsList (path_of request) = sym path ∙ c.is_list.ensures.0 c.if-is_list.true in
    let hosts = map string_bytes c.self.inside.hosts.items in
    let served : IsTrue (is_for_host hosts request) = search rules in
    rw (← c.self.view_is) (
      refl,
      answered hosts (codec g.V.FromJson.means g.V.Serialize.tree) old (state g.S.Store call.new.conn) c.self.inside.stands
          c.in_ok-self-inside.field-0 request response (λ m after. AnsweredListMap request (outcome m response after))
          served stood c.in_ok-self-inside.ensures.ok
          (λ m after lists. inr (inl (is, lists))),
    )

pub returns-clause-ok : goal.returns-clause-ok
returns-clause-ok g c =
    let old = state g.S.Store c.self.inside.conn in
    let stood : c.self.inside.stands ≡ true = search rules in
    let request = c.args.request.now in
    let hosts = map string_bytes c.self.inside.hosts.items in
    let served : IsTrue (is_for_host hosts request) = search rules in
    let of = codec g.V.FromJson.means g.V.Serialize.tree in
    let key = c.as_str-key.result.now in
    let headers : c.headers-headers.result.now ≡ headers_of request = c.headers-headers.ensures in
    let path : c.path-2.result.now ≡ path_of request = c.path-2.ensures.value ∙ ap uri_path c.uri-2.ensures in
    let there : IsEntry c.path-2.result.now (string_bytes c.in-Some.key) = rw c.in-Some.is at c.in_ok-key.ensures.some in
    let entry : IsEntry (path_of request) (string_bytes c.in-Some.key) = subst (λ p. IsEntry p (string_bytes c.in-Some.key)) path there in
    let at : IsEntry (path_of request) key = subst (IsEntry (path_of request)) (sym c.as_str-key.ensures.value) entry in
    elim c.match-verb_of.branch [
      | in-Read w ↦
          let call = w.read_in_round-self-inside in
          let response = call.new.response in
          let is : IsRead (method_of request) = subst IsRead c.method.ensures (c.verb_of.ensures.read w.in-Read.is) in
          let bare : w.is_bare-bare.result ≡ is_bare (method_of request) (headers_of request) =
          w.is_bare-bare.ensures ∙ (λ i. is_bare (w.method-in-Read.ensures i) (headers i)) in
          rw (w.self-is, w.response-is, ← c.self.view_is) (
            refl,
            answered hosts of old (state g.S.Store call.new.conn) c.self.inside.stands call.result request response
                (λ m after. ReadsMap (outcome m response after) w.is_bare-bare.result c.headers-headers.result.now key)
                served stood call.ensures
                (λ m after reads. inl (
                  key,
                  at,
                  inl (
                    is,
                    subst (λ v. ReadsMap (outcome m response after) v (headers_of request) key) bare
                        (subst (λ h. ReadsMap (outcome m response after) w.is_bare-bare.result h key) headers reads),
                  ),
                )),
          )
      | in-Put w ↦
          let call = w.put_in_round-self-inside in
          let response = call.new.response in
          let is : method_of request ≡ put_method = sym c.method.ensures ∙ c.verb_of.ensures.put w.in-Put.is in
          let body : w.as_slice-body.result.now ≡ body_of request = w.as_slice-body.ensures ∙ w.body.ensures in
          rw (w.self-is, w.response-is, ← c.self.view_is) (
            refl,
            answered hosts of old (state g.S.Store call.new.conn) c.self.inside.stands call.result request response
                (λ m after. PutsMap of (outcome m response after) c.headers-headers.result.now key w.as_slice-body.result.now)
                served stood call.ensures
                (λ m after puts. inl (
                  key,
                  at,
                  inr (inl (
                    is,
                    subst (λ h. PutsMap of (outcome m response after) h key (body_of request)) headers
                        (subst (λ b. PutsMap of (outcome m response after) c.headers-headers.result.now key b) body puts),
                  )),
                )),
          )
      | in-Delete w ↦
          let call = w.remove_in_round-self-inside in
          let response = call.new.response in
          let is : method_of request ≡ delete_method = sym c.method.ensures ∙ c.verb_of.ensures.delete w.in-Delete.is in
          rw (w.self-is, w.response-is, ← c.self.view_is) (
            refl,
            answered hosts of old (state g.S.Store call.new.conn) c.self.inside.stands call.result request response
                (λ m after. RemovesMap (outcome m response after) c.headers-headers.result.now key) served stood call.ensures
                (λ m after removes. inl (
                  key,
                  at,
                  inr (inr (inl (is, subst (λ h. RemovesMap (outcome m response after) h key) headers removes))),
                )),
          )
    ]
