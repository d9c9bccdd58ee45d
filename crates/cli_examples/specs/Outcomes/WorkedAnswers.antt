-- What is held and named gives one unit and one model.
use Rattle.std.specs.Prelude.{◌≡◌, List, [], ◌∷◌, Option, Some, codes}
use Rattle.cc_base.specs.Outside.{Files}
use Rattle.c_layout.specs.Models.{lp64, ilp32}
use Rattle.c_layout.specs.declared.data_model.Model.{Model}
use Rattle.c_layout.specs.declared.unit_tokens.Unit7.{Unit7}
use Rattle.cli_texts.specs.Reports.{Bytes}
use Rattle.cli_answers.specs.Verdicts.{HasModel, Gives, FromFiles, IsExpanded}
use Rattle.cli_examples.specs.Units.WorkedTexts.{held, name, tokens_with, expanded, expanded_with}

-- the name of a model is that model, whatever files there are
pub record IsNamedModel : Type 0 where
  pub there : (files : Option Files) → HasModel files (codes "lp64") lp64
  pub no_other : (files : Option Files) (m : Model) → HasModel files (codes "lp64") m → m ≡ lp64
  pub wrong_model : (files : Option Files) → HasModel files (codes "lp64") ilp32 → ⊥

abbrev pub given : Gives
given = FromFiles (Some held) [] lp64 name

-- the held bytes are expanded to these tokens, under this model and with the name of their one file; no other unit
-- is, not that of `1/1`, nor one under another model, nor under other names
pub record IsExpandedFromHeld : Type 0 where
  pub there : IsExpanded given lp64 (name ∷ []) expanded
  pub no_other : (names : List Bytes) (u : Unit7) → IsExpanded given lp64 names u → (u ≡ expanded) × (names ≡ name ∷ [])
  pub other_text : (names : List Bytes) → IsExpanded given lp64 names (expanded_with (codes "1")) → ⊥
  pub other_model : (names : List Bytes) → IsExpanded given lp64 names (record { tokens = tokens_with (codes "0"); model = ilp32 }) → ⊥
  pub no_names : (u : Unit7) → IsExpanded given lp64 [] u → ⊥
  pub not_held : (names : List Bytes) (u : Unit7) → IsExpanded (FromFiles (Some held) [] lp64 (codes "b.c")) lp64 names u → ⊥
