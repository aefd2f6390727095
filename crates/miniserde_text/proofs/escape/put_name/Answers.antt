-- The pieces that are pushed make the answer, and its length is what the call makes room for.
use Rattle.std.proofs.Common.{◌≡◌, ◌+◌, ◌<◌, ℕ, Bool, true, false, List, [], ◌∷◌, ◌++◌, Ok, ap, ◌∙◌, append_assoc, arith}
use Rattle.std.proofs.Common.{if◌then◌else◌, length, length-append, rules, string_capacity, string_len}
use Rattle.miniserde_model.specs.Compact.{string_text}
use Rattle.miniserde_text.specs.private.Escape.{escapes}
use Rattle.miniserde_text.proofs.EscapeRule.{quoted_escapes}
use Rattle.miniserde_text.proofs.escape.put_name.Goals as goal

-- a comma or none, a quote, the escapes of v, a quote and a colon are the comma, the string of v and a colon
name_of : (old comma v : List ℕ) → ((old ++ (comma ++ 34 ∷ [])) ++ escapes v) ++ 34 ∷ 58 ∷ []
    ≡ old ++ (comma ++ string_text v ++ 58 ∷ [])
name_of old comma v = rw (quoted_escapes v) (simp append_assoc)

pub returns-clause-appends : goal.returns-clause-appends
returns-clause-appends c =
    let colon : c.push_str.result ≡ Ok c.unwrap.result = c.unwrap.ensures in
    let last = rw colon at c.push_str.ensures in
    let v = c.args.name.now in
    let front = rw c.in_ok-make_room.ensures.bytes at c.put_name_start.ensures.bytes in
    let inside = c.put_text.ensures.bytes ∙ ap (λ x. x ++ escapes v) front in
    let whole = last.bytes ∙ ap (λ x. x ++ 34 ∷ 58 ∷ []) inside ∙ name_of _ _ v in
    search (rules, whole)

-- how long that is
length_name : (first : Bool) (v : List ℕ)
    → length (if◌then◌else◌ {A = List ℕ} first [] (44 ∷ []) ++ string_text v ++ 58 ∷ []) ≡ length (escapes v)
    + if◌then◌else◌ {A = ℕ} first 3 4
length_name true v = rw quoted_escapes (omega (arith, length-append (escapes v ++ 34 ∷ []) (58 ∷ []), length-append (escapes v) (34 ∷ [])))
length_name false v = rw quoted_escapes (omega (arith, length-append (escapes v ++ 34 ∷ []) (58 ∷ []), length-append (escapes v) (34 ∷ [])))

pub returns-in_err-make_room-clause-appends : goal.returns-in_err-make_room-clause-appends
returns-in_err-make_room-clause-appends c =
    let out = c.args.out.now in
    let full = c.in_err-make_room.ensures.room in
    let lacks : string_capacity out < string_len out + length
    (if◌then◌else◌ {A = List ℕ} c.args.first [] (44 ∷ []) ++ string_text c.args.name.now ++ 58 ∷ []) =
    omega (arith, full, length_name c.args.first c.args.name.now, c.punctuation_len.ensures) in
    search (rules, lacks)
