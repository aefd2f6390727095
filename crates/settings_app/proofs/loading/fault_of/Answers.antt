-- The text means no settings, so it is no JSON where no field is wrong.
use Rattle.std.proofs.Common.{rules, inl, inr}
use Rattle.settings_app.proofs.loading.fault_of.Goals as goal

pub returns-in-Ok-None-clause-no_json : goal.returns-in-Ok-None-clause-no_json
returns-in-Ok-None-clause-no_json c = λ _ t j. elim (c.in-Ok-None.ensures.none (search rules)) [
  | inl m ↦ c.requires m.0 m.1 m.2 m.3
  | inr none ↦ none t j
]
