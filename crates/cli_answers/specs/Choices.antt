-- What the choice of a model comes to.
use Rattle.std.specs.Prelude.{◌≡◌, true, Result, Ok, Err}
use Rattle.c_layout.specs.Models.{is_model}
use Rattle.c_layout.specs.declared.data_model.Model.{Model}
use Rattle.c_layout.specs.declared.model_file.ModelFault.{ModelFault}
use Rattle.c_layout.specs.declared.model_file.ModelFault.TheVariants as fault
use Rattle.c_preproc.specs.Causes.{Seen}
use Rattle.cli_texts.specs.Reports.{Bytes}
use Rattle.cli_texts.specs.FixedTexts.{no_model_text}
use Rattle.cli_answers.specs.Verdicts.{Tells, HasModel, IsModelText, RefusesModel, reason_of}
use Rattle.cli_answers.specs.declared.model_choice.ModelChoice.{ModelChoice}
use Rattle.cli_answers.specs.declared.model_choice.ModelChoice.TheVariants.{Chosen, Refused}

-- the choice is this model, whose numbers are in their lists
abbrev pub IsChosen : Model → ModelChoice → Type 0
IsChosen m (Chosen k) = (k ≡ m) × (is_model m ≡ true)
IsChosen m (Refused a) = ⊥

-- the choice is the answer to a file that gives no model, with a reason
abbrev pub IsRefusedWith : Bytes → Bytes → ModelChoice → Type 0
IsRefusedWith name reason (Chosen k) = ⊥
IsRefusedWith name reason (Refused a) = (a.status ≡ 3) × (a.text.items ≡ no_model_text name reason)

-- the choice that what a file gives calls for; there is none for want of memory
abbrev pub IsChoiceBy : Bytes → Result Model ModelFault → ModelChoice → Type 0
IsChoiceBy name (Ok m) choice = IsChosen m choice
IsChoiceBy name (Err fault.Shape) choice = IsRefusedWith name (reason_of fault.Shape) choice
IsChoiceBy name (Err (fault.Value k)) choice = IsRefusedWith name (reason_of (fault.Value k)) choice
IsChoiceBy name (Err fault.Memory) choice = ⊥

-- the choice that the bytes of a file call for
pub record IsChoiceOf (name bytes : Bytes) (choice : ModelChoice) : Type 0 where
  pub found : Result Model ModelFault
  pub given : IsModelText bytes found
  pub by_found : IsChoiceBy name found choice

-- the choice that a name calls for: the model that it gives, or the answer where it gives none
abbrev pub IsChoice : Seen → Bytes → ModelChoice → Type 0
IsChoice seen name (Chosen m) = (is_model m ≡ true) × HasModel seen.files name m
IsChoice seen name (Refused a) = Tells (RefusesModel seen name) a.status a.text.items
