-- The rows that the query has given so far are the page so far.
use Rattle.std.proofs.Common.{rules, arith, ◌≡◌, ◌≤◌, ◌-◌, String, string_bytes, [], ◌∷◌, ◌++◌, map, length}
use Rattle.std.proofs.Common.{refl, sym, ap, subst, ◌∙◌}
use Rattle.std.proofs.lemmas.List.{length-append, map-append}
use Rattle.std.specs.Global.{Global}
use Rattle.sqlite.specs.State.{HasCleanDisk}
use Rattle.sqlite.specs.Held.{state}
use Rattle.sqlite.specs.Listing.{understood}
use Rattle.sqlite.proofs.Callers.{IsPlain}
use Rattle.rows.specs.Entries.{range_text, bytes_in, texts_of, IsPage}
use Rattle.rows.proofs.PageLemmas.{range_params, fails_as, starts_as, room_left, room_used, fewer, one_more, ends, fills_bytes, fills_limit}
use Rattle.rows.proofs.Readings.{HasRead, starts_open, read_none, read_one}
use Rattle.rows.proofs.Serving.{aborts_keeps, aborts_serving, query_aborts, on_err}
use Rattle.rows.proofs.Statements.{range_plain}
use Rattle.rows.proofs.pages.page_from.Goals as goal

pub returns-in_err-rows-clause-aborts : goal.returns-in_err-rows-clause-aborts
returns-in_err-rows-clause-aborts g c clean has =
    let old = state g.S.Store c.args.conn.now in
    let new = state g.S.Store c.query.follows.lender-at-none in
    let refused = rw c.in_err-rows.was at c.query.follows.holds-at-none in
    on_err _ (query_aborts range_text (range_params c.args.from.now c.args.limit) old new _
    (fails_as range_text _ _ old new _ (refused.err clean) (search rules)))

pub returns-in_err-rows-clause-serving : goal.returns-in_err-rows-clause-serving
returns-in_err-rows-clause-serving g c clean s =
    let old = state g.S.Store c.args.conn.now in
    let new = state g.S.Store c.query.follows.lender-at-none in
    let refused = rw c.in_err-rows.was at c.query.follows.holds-at-none in
    aborts_serving old new s
    (query_aborts range_text (range_params c.args.from.now c.args.limit) old new _
    (fails_as range_text _ _ old new _ (refused.err clean) (search rules)))

pub returns-in_err-rows-clause-kept : goal.returns-in_err-rows-clause-kept
returns-in_err-rows-clause-kept g c clean s =
    let old = state g.S.Store c.args.conn.now in
    let new = state g.S.Store c.query.follows.lender-at-none in
    let refused = rw c.in_err-rows.was at c.query.follows.holds-at-none in
    aborts_keeps old new s
    (query_aborts range_text (range_params c.args.from.now c.args.limit) old new _
    (fails_as range_text _ _ old new _ (refused.err clean) (search rules)))

pub loop-i-init : goal.loop-i-init
loop-i-init g c =
    let made = c.in_ok-rows.ensures in
    let old = c.args.conn.now in
    let now = c.in_ok-rows.rows.conn.now in
    let params = range_params c.args.from.now c.args.limit in
    let none : map texts_of c.new-page.result.items ≡ [] = ap (map texts_of) c.new-page.ensures.items in (
      refl,
      λ clean.
          let begins = starts_as g.S.Store range_text _ params old now (made.begun clean) (search rules) in (
            omega (arith, made.survives.clean),
            starts_open g.S.Store range_text params old now begins,
            λ has. subst (HasRead g.S.Store range_text params old now) (sym none)
                (read_none g.S.Store range_text params old now
                (subst (λ s. IsPlain (understood s range_text)) (sym has) range_plain) begins),
          ),
      ap length none,
      (let empty = ap bytes_in none in omega (arith, empty)),
      λ some. absurd (some none),
    )

pub loop-i-preserved : goal.loop-i-preserved
loop-i-preserved g c =
    let gs = g.S.Store in
    let old = c.args.conn.now in
    let mid = c.loop-i.rows.conn.now in
    let now = c.next_texts.new.rows.conn.now in
    let params = range_params c.args.from.now c.args.limit in
    let entries = map texts_of c.loop-i.page.items in
    let one : String Global × String Global = (c.in-Some.key, c.in-Some.body) in
    let more : map texts_of c.push.new.self.items ≡ entries ++ texts_of one ∷ [] =
    ap (map texts_of) c.in_ok-push.ensures.items ∙ map-append texts_of c.loop-i.page.items (one ∷ []) in
    let key_len : c.len.result ≡ length (string_bytes c.in-Some.key) = search rules in
    let body_len : c.len-in-loop-i.result ≡ length (string_bytes c.in-Some.body) = search rules in
    let counted = c.loop-i.invariant.2 in
    let sum = length-append entries (texts_of one ∷ []) in (
      search rules,
      λ clean.
          let before = c.loop-i.invariant.1 (c.next_texts.ensures.clean clean) in
          let moved = rw c.in-Some.is at (c.in_ok-key.ensures.shows clean) in (
            before.0,
            before.1,
            λ has. subst (HasRead gs range_text params old now) (sym more)
                (read_one gs range_text params old mid now moved.0 one entries (before.2 has) (c.in_ok-key.ensures.same clean)
                moved.1 moved.2),
          ),
      ap length more ∙ omega (arith, counted, sum),
      room_left c.args.max_bytes entries (texts_of one) c.loop-i.room _ _ c.loop-i.invariant.3 c.saturating_sub.ensures
          c.saturating_sub-room.ensures key_len body_len ∙ sym (ap (λ l. c.args.max_bytes - bytes_in l) more),
      λ some. search rules,
    )

pub returns-in_default-clause-page : goal.returns-in_default-clause-page
returns-in_default-clause-page g c clean store =
    let late : HasCleanDisk (state g.S.Store c.next_texts.new.rows.conn.now) = search rules in
    let before = c.loop-i.invariant.1 (c.next_texts.ensures.clean late) in
    let sound = (c.schema-schema.ensures.live before.1).0 in
    let moved = rw c.in_default.is at (c.in_ok-key.ensures.shows late) in
    let entries = map texts_of c.loop-i.page.items in
    ends g.S.Store c.args.from.now c.args.limit c.args.max_bytes c.args.conn.now sound store c.loop-i.rows.conn.now
    c.next_texts.new.rows.conn.now moved.0 entries (before.2 store.schema) moved.1 moved.2
    (fewer c.args.max_bytes entries (room_used c.args.max_bytes entries c.loop-i.room c.loop-i.invariant.3 c.loop-i.invariant.4))

pub returns-then-room-eq0-clause-page : goal.returns-then-room-eq0-clause-page
returns-then-room-eq0-clause-page g c clean store =
    let gs = g.S.Store in
    let old = c.args.conn.now in
    let mid = c.loop-i.rows.conn.now in
    let now = c.next_texts.new.rows.conn.now in
    let late : HasCleanDisk (state gs now) = search rules in
    let before = c.loop-i.invariant.1 (c.next_texts.ensures.clean late) in
    let sound = (c.schema-schema.ensures.live before.1).0 in
    let moved = rw c.in-Some.is at (c.in_ok-key.ensures.shows late) in
    let params = range_params c.args.from.now c.args.limit in
    let entries = map texts_of c.loop-i.page.items in
    let one : String Global × String Global = (c.in-Some.key, c.in-Some.body) in
    let more : map texts_of c.push.new.self.items ≡ entries ++ texts_of one ∷ [] =
    ap (map texts_of) c.in_ok-push.ensures.items ∙ map-append texts_of c.loop-i.page.items (one ∷ []) in
    let key_len : c.len.result ≡ length (string_bytes c.in-Some.key) = search rules in
    let body_len : c.len-in-loop-i.result ≡ length (string_bytes c.in-Some.body) = search rules in
    let none : c.saturating_sub-room.result ≡ 0 = search rules in
    let left = room_left c.args.max_bytes entries (texts_of one) c.loop-i.room _ _ c.loop-i.invariant.3 c.saturating_sub.ensures
    c.saturating_sub-room.ensures key_len body_len in
    subst (IsPage (state gs old).now c.args.from.now c.args.limit c.args.max_bytes) (sym more)
    (fills_bytes gs c.args.from.now c.args.limit c.args.max_bytes old sound store now (entries ++ texts_of one ∷ [])
    (read_one gs range_text params old mid now moved.0 one entries (before.2 store.schema) (c.in_ok-key.ensures.same late) moved.1 moved.2)
    (omega (arith, none, left))
    (one_more c.args.max_bytes entries (texts_of one)
    (room_used c.args.max_bytes entries c.loop-i.room c.loop-i.invariant.3 c.loop-i.invariant.4)))

pub returns-clause-page : goal.returns-clause-page
returns-clause-page g c clean store =
    let late : HasCleanDisk (state g.S.Store c.loop-i.rows.conn.now) = search rules in
    let before = c.loop-i.invariant.1 late in
    let sound = (c.schema-schema.ensures.live before.1).0 in
    let entries = map texts_of c.loop-i.page.items in
    let end : c.args.limit ≤ c.loop-i.i = search rules in
    let counted = c.loop-i.invariant.2 in
    fills_limit g.S.Store c.args.from.now c.args.limit c.args.max_bytes c.args.conn.now sound store c.loop-i.rows.conn.now entries
    (before.2 store.schema) (omega (arith, end, counted))
    (fewer c.args.max_bytes entries (room_used c.args.max_bytes entries c.loop-i.room c.loop-i.invariant.3 c.loop-i.invariant.4))
