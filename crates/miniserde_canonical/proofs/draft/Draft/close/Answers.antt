-- `close` removes the members of the innermost object from the list and leaves their text in the order of their
-- names, each name once. By cases: fewer members than the mark is impossible, names that rise leave the text as it
-- is, and all others are sorted.
use Rattle.std.proofs.Common.{rules, ◌≡◌, ◌<◌, [], ◌∷◌, ◌++◌, length, take, drop, refl, sym, ap, subst, ◌∙◌, inl, inr, arith}
use Rattle.miniserde_canonical.specs.private.States.{State, entries_text}
use Rattle.miniserde_canonical.specs.private.Drafts.{Holding}
use Rattle.miniserde_canonical.proofs.DraftSteps.{behind, too_few, closes, rises_behind, keep_holding, holding_same}
use Rattle.miniserde_canonical.proofs.DraftSteps.{holding_sorted, sorted_like}
use Rattle.miniserde_canonical.proofs.InputRuns.{rewound}
use Rattle.miniserde_canonical.proofs.draft.Draft.close.Goals as goal

pub returns-then-len-before : goal.returns-then-len-before
returns-then-len-before c = λ rest s r at.
    let d = c.args.self.now in
    let few : length d.members.items < c.in-Some.before = let number : c.len.result ≡ length d.members.items =
    search rules in omega (arith, number, c.if-len-before.true) in
    let w = r.wrote in
    let h = r.holding in (
      record {
        entries = s.entries;
        last = s.last;
        opened = c.pop.new.self.items;
        first = s.first;
        distinct =
            s.distinct;
      },
      λ os f e l. absurd (too_few c.pop.new.self.items c.in-Some.before h c.in-Some.ensures.items few os f e l),
      record {
        bytes = r.bytes;
        wrote =
            record { front = w.front; run = w.run; input = w.input; left = w.left; text = w.text };
        holding =
            record { chain = h.chain; good = h.good; opened = refl; distinct = h.distinct };
      },
    )

pub returns-then-rises : goal.returns-then-rises
returns-then-rises c = λ rest s r at.
    let d = c.args.self.now in
    let f = c.in-Some.before in
    let w = r.wrote in
    let m : State = record {
      entries = take f s.entries;
      last = entries_text (drop f s.entries) s.last;
      opened =
          c.pop.new.self.items;
      first = s.first;
      distinct = s.distinct;
    } in
    let rise = rises_behind f _ (behind d.members.items c.deref.result.now f c.deref.ensures.value)
    (c.rises.ensures.rises c.if-rises.true) r.holding in (
      m,
      closes s m f (sym r.holding.opened ∙ c.in-Some.ensures.items) refl (inl (rise, refl, refl)),
      record {
        bytes = r.bytes;
        wrote =
            record { front = w.front; run = w.run; input = w.input; left = w.left; text = w.text };
        holding =
            holding_same f (record { splices = refl; groups = refl; groups_splices = refl; distinct = refl })
            c.truncate.ensures.items r.holding;
      },
    )

pub returns : goal.returns
returns c = λ rest s r at.
    let d = c.args.self.now in
    let e = c.flush.new.self in
    let f = c.in-Some.before in
    let k = c.in_ok-flush.ensures.only_text in
    let w = r.wrote in
    let h = r.holding in
    let q = c.in_ok-flush.ensures.wrote rest r.bytes
    (record { front = w.front; run = w.run; input = w.input; left = w.left; text = w.text }) at in
    let t : State = record { entries = s.entries; last = s.last; opened = c.pop.new.self.items; first = s.first; distinct = s.distinct } in
    let popped : Holding e r.bytes t =
    keep_holding k
    (record { chain = h.chain; good = h.good; opened = refl; distinct = h.distinct }) in
    let whole : Holding e e.out.bytes.items t = subst (λ z. Holding e z t) (sym q.1) popped in
    let first = behind d.members.items c.deref.result.now f c.deref.ensures.value in
    let second = behind e.members.items c.deref-2.result.now f c.deref-2.ensures.value in
    let some = subst (λ z. 0 < length z) (first ∙ ap (drop f) (sym k.members) ∙ sym second) (c.rises.ensures.some c.if-rises.false) in
    let o = holding_sorted some
    (record {
      all = second;
      is_distinct = c.in_ok-is_distinct.is_distinct;
      sorts = c.in_ok-is_distinct.ensures;
      members = c.truncate-2.ensures.items;
      distinct = refl;
    }) whole in
    let opened = sym h.opened ∙ c.in-Some.ensures.items ∙ ap (λ z. z ++ f ∷ []) (sym (o.opened ∙ k.opened)) in (
      o.state,
      closes s o.state f opened o.entries (inr (sorted_like (drop f s.entries) s t o.state refl refl o.sorted)),
      record {
        bytes = c.sort_members.new.out.bytes.items;
        wrote =
            rewound [] q.0 refl (record { input = refl; left = c.in_ok-flush.ensures.left ∙ at; text_is = refl });
        holding =
            o.holding;
      },
    )
