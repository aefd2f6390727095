-- `spelled` and `refused` are derivations of the grammar and refutations, text by text; `normal` is computed.
use Rattle.miniserde_model.proofs.Examples.{spelled_texts, normal_forms}
use Rattle.miniserde_model.proofs.RefusedExamples.{refused_texts}
use Rattle.miniserde_model.proofs.worked_examples.Goals as goal

pub returns-clause-spelled : goal.returns-clause-spelled
returns-clause-spelled c = spelled_texts

pub returns-clause-normal : goal.returns-clause-normal
returns-clause-normal c = normal_forms

pub returns-clause-refused : goal.returns-clause-refused
returns-clause-refused c = refused_texts
