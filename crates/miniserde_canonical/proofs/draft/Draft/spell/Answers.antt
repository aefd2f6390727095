-- The flush writes the run, the string and the colon are appended, and the next run begins after the name
-- (`rewound`).
use Rattle.std.proofs.Common.{[], ◌∷◌, ◌++◌, refl, ap, ◌∙◌, append_assoc}
use Rattle.miniserde_model.specs.Ascii.{name_separator}
use Rattle.miniserde_model.specs.Compact.{string_text}
use Rattle.miniserde_text.specs.Lexer.{text_of}
use Rattle.miniserde_canonical.proofs.InputRuns.{rewound}
use Rattle.miniserde_canonical.proofs.draft.Draft.spell.Goals as goal

pub returns-clause-wrote : goal.returns-clause-wrote
returns-clause-wrote c = λ rest part rest' bs t k p.
    let q = c.in_ok-flush.ensures.wrote rest bs t k.at in
    let n = string_text (text_of c.args.text c.args.scratch.now) in
    rewound part q.0 k.text
    (record {
      input = refl;
      left = k.end;
      text_is = c.in_ok-push.ensures.items ∙ ap (λ z. z ++ name_separator ∷ []) (c.in_ok-put_string.ensures ∙ ap (λ z. z ++ n) q.1)
          ∙ append_assoc bs n (name_separator ∷ []);
    })
