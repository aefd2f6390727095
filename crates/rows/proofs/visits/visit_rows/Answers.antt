-- The rows that the query has given so far begin the rows of the table.
use Rattle.std.proofs.Common.{rules, arith, inl, inr, [], refl}
use Rattle.std.proofs.lemmas.Result.{err_from_is_err_and}
use Rattle.sqlite.specs.State.{HasCleanDisk}
use Rattle.sqlite.specs.Held.{state}
use Rattle.rows.specs.Entries.{each_text}
use Rattle.rows.proofs.Serving.{aborts_keeps, aborts_serving, query_aborts, on_err}
use Rattle.rows.proofs.Readings.{starts_open}
use Rattle.rows.proofs.Walks.{starts, reads, took, takes_first, stops, takes_all}
use Rattle.rows.proofs.visits.visit_rows.Goals as goal

pub returns-in_err-rows-clause-aborts : goal.returns-in_err-rows-clause-aborts
returns-in_err-rows-clause-aborts g c clean has =
    let old = state g.S.Store c.args.conn.now in
    let new = state g.S.Store c.query.follows.lender-at-none in
    let refused = rw c.in_err-rows.was at c.query.follows.holds-at-none in
    on_err _ (query_aborts each_text [] old new _ (refused.err clean))

pub returns-in_err-rows-clause-serving : goal.returns-in_err-rows-clause-serving
returns-in_err-rows-clause-serving g c clean s =
    let old = state g.S.Store c.args.conn.now in
    let new = state g.S.Store c.query.follows.lender-at-none in
    let refused = rw c.in_err-rows.was at c.query.follows.holds-at-none in
    aborts_serving old new s (query_aborts each_text [] old new _ (refused.err clean))

pub returns-in_err-rows-clause-kept : goal.returns-in_err-rows-clause-kept
returns-in_err-rows-clause-kept g c clean s =
    let old = state g.S.Store c.args.conn.now in
    let new = state g.S.Store c.query.follows.lender-at-none in
    let refused = rw c.in_err-rows.was at c.query.follows.holds-at-none in
    aborts_keeps old new s (query_aborts each_text [] old new _ (refused.err clean))

pub returns-in_err-rows-clause-visited : goal.returns-in_err-rows-clause-visited
returns-in_err-rows-clause-visited g c clean store =
    let out = err_from_is_err_and c.from_residual.result c.from_residual.ensures.1 in
    rw out.1 (inr (_, out.2, inl (refl {a = c.args.visitor.now})))

pub rows-init : goal.rows-init
rows-init g c =
    let made = c.in_ok-rows.ensures in
    let old = c.args.conn.now in
    let now = c.in_ok-rows.rows.conn.now in (
      refl,
      λ clean.
          let begins = made.begun clean in (
            omega (arith, made.survives.clean),
            starts_open g.S.Store each_text [] old now begins,
            starts g.S.Store g.V.Visit.takes old now c.args.visitor.now begins,
          ),
    )

pub rows-preserved : goal.rows-preserved
rows-preserved g c =
    let gs = g.S.Store in
    let takes = g.V.Visit.takes in
    let old = c.args.conn.now in
    let mid = c.rows.rows.conn.now in
    let now = c.next_texts.new.rows.conn.now in (
      search rules,
      λ clean.
          let before = c.rows.invariant.1 (c.next_texts.ensures.clean clean) in
          let moved = rw c.in-Some.is at (c.in_ok-key.ensures.shows clean) in
          let visit = rw (c.as_str.ensures.value, c.as_str-in-rows.ensures.value, c.if-not-branch.false) at c.in_ok-visit.ensures in (
            before.0,
            before.1,
            λ has.
                let read = reads gs takes old mid now c.args.visitor.now c.rows.visitor moved.0 _ (before.2 has)
                (c.in_ok-key.ensures.same clean) moved.1 moved.2 in
                took gs takes old now c.args.visitor.now c.rows.visitor c.visit.new.self _ read visit,
          ),
    )

pub returns-in_err-key-clause-visited : goal.returns-in_err-key-clause-visited
returns-in_err-key-clause-visited g c clean store =
    let late : HasCleanDisk (state g.S.Store c.next_texts.new.rows.conn.now) = search rules in
    let before = c.rows.invariant.1 (c.next_texts.ensures.clean late) in
    let sound = (c.schema-schema.ensures.live before.1).0 in
    let first = takes_first g.S.Store g.V.Visit.takes c.args.conn.now c.rows.rows.conn.now sound store c.args.visitor.now c.rows.visitor
    (before.2 store.schema) in
    let out = err_from_is_err_and c.from_residual-in_err-key.result c.from_residual-in_err-key.ensures.1 in
    rw out.1 (inr (_, out.2, inr first))

pub returns-in_default-clause-visited : goal.returns-in_default-clause-visited
returns-in_default-clause-visited g c clean store =
    let late : HasCleanDisk (state g.S.Store c.next_texts.new.rows.conn.now) = search rules in
    let before = c.rows.invariant.1 (c.next_texts.ensures.clean late) in
    let moved = rw c.in_default.is at (c.in_ok-key.ensures.shows late) in
    takes_all g.S.Store g.V.Visit.takes c.args.conn.now c.rows.rows.conn.now c.next_texts.new.rows.conn.now c.args.visitor.now
    c.rows.visitor moved.0 store.schema (before.2 store.schema) moved.1 moved.2

pub returns-in_err-visit-clause-visited : goal.returns-in_err-visit-clause-visited
returns-in_err-visit-clause-visited g c clean store =
    let gs = g.S.Store in
    let takes = g.V.Visit.takes in
    let old = c.args.conn.now in
    let mid = c.rows.rows.conn.now in
    let now = c.next_texts.new.rows.conn.now in
    let late : HasCleanDisk (state gs now) = search rules in
    let before = c.rows.invariant.1 (c.next_texts.ensures.clean late) in
    let sound = (c.schema-schema.ensures.live before.1).0 in
    let out = err_from_is_err_and c.from_residual-in_err-visit.result c.from_residual-in_err-visit.ensures.1 in
    let moved = rw c.in-Some.is at (c.in_ok-key.ensures.shows late) in
    let visit = rw (c.as_str.ensures.value, c.as_str-in-rows.ensures.value) at c.in_err-visit.ensures in
    let read = reads gs takes old mid now c.args.visitor.now c.rows.visitor moved.0 _ (before.2 store.schema)
    (c.in_ok-key.ensures.same late) moved.1 moved.2 in
    rw (out.1, out.2) (inl (stops gs takes old now sound store c.args.visitor.now c.rows.visitor c.visit.new.self _ _ read visit))

pub returns-then-not-branch-clause-visited : goal.returns-then-not-branch-clause-visited
returns-then-not-branch-clause-visited g c clean store =
    let gs = g.S.Store in
    let takes = g.V.Visit.takes in
    let old = c.args.conn.now in
    let mid = c.rows.rows.conn.now in
    let now = c.next_texts.new.rows.conn.now in
    let late : HasCleanDisk (state gs now) = search rules in
    let before = c.rows.invariant.1 (c.next_texts.ensures.clean late) in
    let sound = (c.schema-schema.ensures.live before.1).0 in
    let moved = rw c.in-Some.is at (c.in_ok-key.ensures.shows late) in
    let visit = rw (c.as_str.ensures.value, c.as_str-in-rows.ensures.value, c.if-not-branch.true) at c.in_ok-visit.ensures in
    let read = reads gs takes old mid now c.args.visitor.now c.rows.visitor moved.0 _ (before.2 store.schema)
    (c.in_ok-key.ensures.same late) moved.1 moved.2 in
    stops gs takes old now sound store c.args.visitor.now c.rows.visitor c.visit.new.self _ _ read visit

pub returns-clause-visited : goal.returns-clause-visited
returns-clause-visited g c clean store =
    let late : HasCleanDisk (state g.S.Store c.rows.rows.conn.now) = search rules in
    let before = c.rows.invariant.1 late in
    let sound = (c.schema-schema.ensures.live before.1).0 in
    inr (
      _,
      refl,
      inr (takes_first g.S.Store g.V.Visit.takes c.args.conn.now c.rows.rows.conn.now sound store c.args.visitor.now
          c.rows.visitor (before.2 store.schema)),
    )
