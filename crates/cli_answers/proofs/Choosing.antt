-- Which model is chosen, and what is told where there is none.
use Rattle.std.proofs.Common.{◌≡◌, ◌⊎◌, true, None, Result, Ok, Err, refl, sym, subst, inl, inr, IsUtf8}
use Rattle.toml.specs.Parse.{parse_document}
use Rattle.cc_base.specs.Outside.{Holds, HoldsTooLong, Lacks, Rose, RoseBeyond}
use Rattle.c_layout.specs.Models.{is_model, model_named}
use Rattle.c_layout.specs.ModelText.{model_in}
use Rattle.c_layout.specs.declared.data_model.Model.{Model}
use Rattle.c_layout.specs.declared.model_file.ModelFault.{ModelFault}
use Rattle.c_layout.specs.declared.model_file.ModelFault.TheVariants as fault
use Rattle.c_preproc.specs.Causes.{Seen}
use Rattle.cli_texts.specs.Reports.{Bytes}
use Rattle.cli_texts.specs.FixedTexts.{no_file_text, too_long_text}
use Rattle.cli_texts.specs.declared.answers.Answer.{Answer}
use Rattle.cli_answers.specs.Verdicts.{absent, too_long, no_model, ReadsModel, reason_of}
use Rattle.cli_answers.specs.Choices.{IsChosen, IsRefusedWith, IsChoiceBy, IsChoiceOf, IsChoice}
use Rattle.cli_answers.specs.declared.model_choice.ModelChoice.{ModelChoice}
use Rattle.cli_answers.specs.declared.model_choice.ModelChoice.TheVariants.{Chosen, Refused}

-- what a file gives, where that leads to a choice
pub given_by : (name bytes : Bytes) (found : Result Model ModelFault) (choice : ModelChoice) → (IsUtf8 bytes → (found ≡ Err fault.Memory) ⊎ (found ≡ model_in (parse_document bytes))) → (¬ IsUtf8 bytes → found ≡ Err fault.Shape) → IsChoiceBy name found choice → IsChoiceOf name bytes choice
given_by name bytes found choice text binary h = record {
  found = found;
  given = record { text = λ u. elim (text u) [ inl e ↦ absurd (subst (λ f. IsChoiceBy name f choice) e h) | inr e ↦ e ]; binary = binary };
  by_found = h;
}

refused_choice : (seen : Seen) (name : Bytes) (why : ModelFault) (choice : ModelChoice) → ReadsModel seen.files name (Err why) → IsRefusedWith name (reason_of why) choice → IsChoice seen name choice
refused_choice seen name why (Chosen k) reads h = absurd h
refused_choice seen name why (Refused a) reads h = record { verdict = no_model name (reason_of why); called_for = (refl, why, refl, reads); by_status = h.0; by_text = h.1 }

chosen_choice : (seen : Seen) (name : Bytes) (m : Model) (choice : ModelChoice) → ReadsModel seen.files name (Ok m) → IsChosen m choice → IsChoice seen name choice
chosen_choice seen name m (Chosen k) reads h = (subst (λ x. is_model x ≡ true) (sym h.0) h.1, inr (subst (λ x. ReadsModel seen.files name (Ok x)) (sym h.0) reads))
chosen_choice seen name m (Refused a) reads h = absurd h

choice_by_found : (seen : Seen) (name : Bytes) (found : Result Model ModelFault) (choice : ModelChoice) → ReadsModel seen.files name found → IsChoiceBy name found choice → IsChoice seen name choice
choice_by_found seen name (Ok m) choice reads h = chosen_choice seen name m choice reads h
choice_by_found seen name (Err fault.Shape) choice reads h = refused_choice seen name fault.Shape choice reads h
choice_by_found seen name (Err (fault.Value k)) choice reads h = refused_choice seen name (fault.Value k) choice reads h
choice_by_found seen name (Err fault.Memory) choice reads h = absurd h

-- a model of a file
pub read_choice : (seen : Seen) (name bytes : Bytes) (choice : ModelChoice) → model_named name ≡ None → Holds seen.files name bytes → IsChoiceOf name bytes choice → IsChoice seen name choice
read_choice seen name bytes choice unnamed held h = choice_by_found seen name h.found choice (record { unnamed = unnamed; bytes = bytes; held = held; given = h.given }) h.by_found

-- no such file
pub absent_choice : (seen : Seen) (name : Bytes) (a : Answer) → model_named name ≡ None → Lacks seen.files name (Rose seen.faults seen.faults_now) → a.status ≡ 4 → a.text.items ≡ no_file_text name → IsChoice seen name (Refused a)
absent_choice seen name a unnamed lacks status text = record { verdict = absent name; called_for = (refl, unnamed, lacks); by_status = status; by_text = text }

-- a file that is too long
pub long_choice : (seen : Seen) (name : Bytes) (a : Answer) → model_named name ≡ None → HoldsTooLong 1048576 seen.files name (RoseBeyond 1048576 seen.taken seen.taken_now) → a.status ≡ 8 → a.text.items ≡ too_long_text name → IsChoice seen name (Refused a)
long_choice seen name a unnamed long status text = record { verdict = too_long name; called_for = (refl, unnamed, long); by_status = status; by_text = text }
