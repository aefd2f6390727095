-- The rest of the path is decoded, and is the key.
use Rattle.std.proofs.Common.{◌≡◌, ◌++◌, ℕ, take, drop, string_bytes, ap, sym, ◌∙◌, ◌==◌, length, true≢false, vec_len, Vec}
use Rattle.std.specs.Global.{Global}
use Rattle.std.proofs.lemmas.Slice.Eq.{bytes_eq-Decides}
use Rattle.std.proofs.lemmas.Str.{IsUtf8-had}
use Rattle.percent_encoding.specs.Percent.{percent_decode}
use Rattle.percent_encoding.specs.Iter.{decoded_bytes}
use Rattle.store.specs.Routes.{entries_path}
use Rattle.store.proofs.routes.entry_key.Goals as goal

pub returns-in-Ok-clause-some : goal.returns-in-Ok-clause-some
returns-in-Ok-clause-some c =
    let found = c.in-Some.ensures.cases in
    let path = c.as_bytes.ensures.value in
    let bytes : string_bytes c.in-Ok.key ≡ c.append_to.new.out.items = ap (λ (v : Vec ℕ Global). v.items) c.in-Ok.ensures.ok in
    record {
      below = ap (take 9) (sym path) ∙ (bytes_eq-Decides (take 9 c.as_bytes.result.now) entries_path).0 found.0;
      decoded =
          sym (bytes ∙ c.in_ok-append_to.ensures.ok ∙ ap (λ l. l ++ decoded_bytes c.percent_decode.result) c.new-key.ensures.items
          ∙ c.percent_decode.ensures.bytes ∙ ap percent_decode (found.1 ∙ ap (drop 9) path));
      nonempty = λ none.
          let len : vec_len c.append_to.new.out ≡ 0 = c.append_to.new.out.ok.0 ∙ ap length (sym bytes ∙ none) in
          true≢false (sym (c.if-is_empty.ensures ∙ ap (λ n. n == 0) len));
      utf8 = IsUtf8-had (string_bytes c.in-Ok.key) c.in-Ok.key.ok;
    }
