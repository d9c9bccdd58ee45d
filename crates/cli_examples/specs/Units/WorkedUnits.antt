-- What the stages make of the held bytes, each by what it excludes.
use Rattle.std.specs.Prelude.{◌≡◌, List, [], ◌∷◌, Some, None, Ok, codes}
use Rattle.cc_base.specs.declared.refusals.Refusal.TheVariants as refusal
use Rattle.c_layout.specs.Models.{lp64, ilp32}
use Rattle.c_layout.specs.DeclarationTrees.{ExternalTree}
use Rattle.c_parser.specs.Externals.{IsUnit}
use Rattle.c_preproc.specs.Units.{preprocessed, unit_from}
use Rattle.c_types.specs.Units.UnitChecks.{check}
use Rattle.c_types.specs.Units.UnitEntries.{first_place}
use Rattle.c_types_scopes.specs.Refusals.{refused}
use Rattle.cli_examples.specs.Units.WorkedTexts.{held, name, tokens_with}
use Rattle.cli_examples.specs.Units.WorkedTrees.{tree_with, checked_unit}

-- what is held gives these tokens; under another name nothing is held
pub record IsExpandedTo : Type 0 where
  pub tokens : unit_from held [] lp64 name ≡ Some (Ok (preprocessed (tokens_with (codes "0")) (name ∷ [])))
  pub not_held : unit_from held [] lp64 (codes "b.c") ≡ None

-- the tokens derive this tree and no other; those of `1/1` derive the tree of `1/1`, which is another one
pub record IsParsedTo : Type 0 where
  pub there : IsUnit lp64 (tokens_with (codes "0")) (tree_with 0)
  pub no_other : (tree : List ExternalTree) → IsUnit lp64 (tokens_with (codes "0")) tree → tree ≡ tree_with 0
  pub also_there : IsUnit lp64 (tokens_with (codes "1")) (tree_with 1)
  pub apart : IsUnit lp64 (tokens_with (codes "0")) (tree_with 1) → ⊥

-- the tree is checked to this unit; under another entry it is refused, and under another model the unit is another one
pub record IsCheckedTo : Type 0 where
  pub there : check lp64 (codes "main") (tree_with 0) ≡ Ok checked_unit
  pub other_entry : check lp64 (codes "f") (tree_with 0) ≡ refused first_place refusal.NoEntry
  pub other_model : check ilp32 (codes "main") (tree_with 0) ≡ Ok checked_unit → ⊥
