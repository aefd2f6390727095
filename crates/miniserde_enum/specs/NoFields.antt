-- The data of an internally tagged variant without fields: members that are skipped.
use Rattle.std.specs.Prelude.{Some}
use Rattle.miniserde_read.specs.Meaning.{Meaning, meaning_with}
use Rattle.miniserde_read.specs.types.Objects.{object_of}
use Rattle.miniserde_enum.specs.Objects.{IsObject}
use Rattle.miniserde_enum.specs.laws.NoFields.{any-object}

-- the meaning by which each object means every value, and all values have the same content
abbrev pub any_object : {W : Type 0} → Meaning W
any_object = meaning_with (λ _. tt) (object_of (λ ms. Some tt)) (λ t _. IsObject t) (λ t _. any-object t)
