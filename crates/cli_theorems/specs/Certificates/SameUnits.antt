-- Files that give the same unit.
use Rattle.std.specs.Prelude.{◌≡◌, Some}
use Rattle.cc_base.specs.Outside.{Files}
use Rattle.c_layout.specs.declared.data_model.Model.{Model}
use Rattle.c_preproc.specs.Units.{unit_from}
use Rattle.cli_words.specs.Words.Requests.{CommandView}
use Rattle.cli_answers.specs.Verdicts.{HasModel}

-- two sets of files give the same model and the same unit for these words; they may differ in files that are not asked for
pub record GiveOneUnit (c : CommandView) (held other : Files) : Type 0 where
  pub models : (m n : Model) → HasModel (Some held) c.model m → HasModel (Some other) c.model n → m ≡ n
  pub units : (m : Model) → unit_from held c.dirs m c.unit ≡ unit_from other c.dirs m c.unit

abbrev pub SameFilesGiveOneUnit : Type 0
SameFilesGiveOneUnit = (c : CommandView) (held : Files) → GiveOneUnit c held held
