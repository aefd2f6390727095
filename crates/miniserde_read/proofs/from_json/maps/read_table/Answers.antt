-- `read_table` returns the entries that the members of an object give, and `Invalid` only if no such object follows.
-- The loop keeps that the entries so far are given by the members so far, behind which a brace or a comma was taken
-- (`ObjectNext`), and each turn inserts the entry of the next member.
use Rattle.std.proofs.Common.{◌≡◌, false, Some, refl, sym, arith}
use Rattle.std.proofs.lemmas.Option.{same_Some}
use Rattle.miniserde_model.specs.Tree.{no_members}
use Rattle.miniserde_model.specs.declared.kind.Kind.TheVariants.{Map}
use Rattle.miniserde_text.specs.Lexer.{is_close}
use Rattle.miniserde_read.specs.types.Maps.{map_content, map_member, with_entry, no_entries}
use Rattle.miniserde_read.proofs.Due.{due_less}
use Rattle.miniserde_read.proofs.Length.{follows_least, stands_least}
use Rattle.miniserde_read.proofs.Inserts.{put-joined}
use Rattle.miniserde_read.proofs.Maps.{entry_goes, key_none, entry_none}
use Rattle.miniserde_read.proofs.Calls.{reads_failed, reads_value}
use Rattle.miniserde_read.proofs.Objects.{object_begins, no_member_follows, no_name_follows, object_gives, object_rejects}
use Rattle.miniserde_read.proofs.from_json.maps.read_table.Goals as goal

pub returns-in_err-next : goal.returns-in_err-next
returns-in_err-next g c = reads_failed _ c.from_residual.ensures.1 (λ e.
    let member = map_member g.M.Key.MapKey.read g.M.Key.MapKey.code g.V.FromJson.means.from_tree in
    object_rejects _ _ _ c.in-MapStart.is (λ ms r p. absurd (no_member_follows (object_begins member no_entries _)
    (c.in_err-next.ensures.invalid e c.requires.going) ms r p)))

pub returns-in_err-name : goal.returns-in_err-name
returns-in_err-name g c = reads_failed _ c.from_residual-in_err-name.ensures.1 (λ e.
    let n = rw c.in-Next.is at c.loop-next.invariant.goes in
    object_rejects _ _ _ c.in-MapStart.is (λ ms r p. absurd (no_name_follows n.goes _ n.follows
    (c.in_err-name.ensures.invalid e c.loop-next.invariant.going) ms r p)))

pub returns-in_err-key : goal.returns-in_err-key
returns-in_err-key g c = reads_failed _ c.from_residual-in_err-key.ensures.1 (λ e.
    object_rejects _ _ _ c.in-MapStart.is (key_none g.M.Key.MapKey.read g.M.Key.MapKey.code g.V.FromJson.means.from_tree
    (rw c.in-Next.is at c.loop-next.invariant.goes) _ _ c.in_ok-name.name c.in_ok-name.ensures.ok
    (rw c.text.ensures at (c.in_err-key.ensures.invalid e))))

pub returns-in_err-value : goal.returns-in_err-value
returns-in_err-value g c = reads_failed _ c.from_residual-in_err-value.ensures.1 (λ e.
    object_rejects _ _ _ c.in-MapStart.is (entry_none g.M.Key.MapKey.read g.M.Key.MapKey.code g.V.FromJson.means.from_tree
    (rw c.in-Next.is at c.loop-next.invariant.goes) _ _ c.in_ok-name.name c.in_ok-name.ensures.ok
    (c.in_err-value.ensures.invalid e)))

pub returns-in_err-next-2 : goal.returns-in_err-next-2
returns-in_err-next-2 g c = reads_failed _ c.from_residual-in_err-next-2.ensures.1 (λ e.
    let goes = entry_goes g.M.Key.MapKey.read g.M.Key.MapKey.code g.V.FromJson.means.from_tree
    (rw c.in-Next.is at c.loop-next.invariant.goes) _ _ c.in_ok-name.name c.in_ok-name.ensures.ok _ _ _
    (rw c.text.ensures at c.in_ok-key.ensures.value) c.in_ok-value.ensures.ok in
    object_rejects _ _ _ c.in-MapStart.is (λ ms r p. absurd (no_member_follows goes
    (c.in_err-next-2.ensures.invalid e c.in_ok-value.ensures.going) ms r p)))

pub loop-next-smaller : goal.loop-next-smaller
loop-next-smaller g c =
    let a = stands_least c.loop-next.source.rest _ c.in_ok-name.ensures.ok in
    let b = due_less c.in_ok-value.ensures.ok in
    let d = follows_least Map false (is_close c.in_ok-next-2.next) c.read_due.new.source.rest _ c.in_ok-next-2.ensures.ok in
    omega (arith, a, b, d)

pub loop-next-preserved : goal.loop-next-preserved
loop-next-preserved g c =
    let code = g.M.Key.MapKey.code in
    let content = g.M.Key.MapKey.content in
    let value = g.V.FromJson.means.content in
    let old = g.M.Table.entries c.loop-next.table in
    let put : map_content code content value (g.M.Table.entries c.put.new.self)
    ≡ with_entry code (map_content code content value old) (content c.in_ok-key.key) (value c.in_ok-value.value) =
    sym (same_Some _ _ (put-joined code content value old (g.M.Table.entries c.put.new.self) c.in_ok-key.key
    c.in_ok-value.value (Some c.in_ok-key.key) (Some (value c.in_ok-value.value)) refl refl c.in_ok-put.ensures.put)) in
    record {
      going = c.in_ok-next-2.ensures.first_error.kept;
      goes = record {
        first = false;
        before = c.read_due.new.source.rest;
        goes = rw put (entry_goes g.M.Key.MapKey.read code g.V.FromJson.means.from_tree
            (rw c.in-Next.is at c.loop-next.invariant.goes) _ _ c.in_ok-name.name c.in_ok-name.ensures.ok _ _ _
            (rw c.text.ensures at c.in_ok-key.ensures.value) c.in_ok-value.ensures.ok);
        follows = c.in_ok-next-2.ensures.ok;
      };
    }

pub returns : goal.returns
returns g c =
    let n = rw c.in_default-next.is at c.loop-next.invariant.goes in
    reads_value _ c.loop-next.invariant.going (object_gives _ _ _ c.in-MapStart.is (n.goes.on no_members _ n.follows))
