-- Models that are given where files are told: by their name, or by a file that is read.
use Rattle.std.specs.Prelude.{◌≡◌, ◌≤◌, ◌⊎◌, length, Some, None, Ok}
use Rattle.cc_base.specs.Outside.{Files, file_at}
use Rattle.c_layout.specs.Models.{model_named}
use Rattle.c_layout.specs.declared.data_model.Model.{Model}
use Rattle.cli_texts.specs.Reports.{Bytes}
use Rattle.cli_answers.specs.Verdicts.{IsModelText}

-- a file whose name names no model is held, is no longer than a file may be, and gives this one
pub record IsReadModel (held : Files) (name : Bytes) (m : Model) : Type 0 where
  pub unnamed : model_named name ≡ None
  pub bytes : Bytes
  pub is : file_at held name ≡ Some bytes
  pub short : length bytes ≤ 1048576
  pub gives : IsModelText bytes (Ok m)

abbrev pub IsGivenModel : Files → Bytes → Model → Type 0
IsGivenModel held name m = (model_named name ≡ Some m) ⊎ IsReadModel held name m
