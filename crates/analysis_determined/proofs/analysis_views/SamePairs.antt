-- Maps admit the same pairs of programs with the same view.
use Rattle.std.specs.Prelude.{◌≡◌, ℕ, ◌+◌, Option, Some, None, List, [], ◌∷◌, ◌++◌, refl}
use Rattle.std.proofs.Common.{sym, ap₂}
use Rattle.cc_base.specs.Lattices.{LatticeOf}
use Rattle.cc_base.specs.IntegerDomains.{IntegersOf}
use Rattle.cc_base.specs.declared.diagnostics.Diag.{Diag}
use Rattle.cfg.specs.declared.programs.Flow.{Flow}
use Rattle.lower_templates.specs.Views.ProgramViews.{flow_view}
use Rattle.value_domain.specs.declared.values.row_cells.Cell.{Cell}
use Rattle.system_monotone.specs.AdmittedRules.{instructions_of, instruction_pairs, block_pairs, entry_pairs, rows_pairs, map_pairs}
use Rattle.analysis_determined.specs.UnrolledDiagnostics.SameParts.{SameParts}
use Rattle.analysis_determined.proofs.unrolled_diagnostics.SameInstructions.{pairs_same}
use Rattle.analysis_determined.proofs.analysis_views.SameBlocks.{same_parts, steps_same}

module _ {I : Type 0} (l : LatticeOf I) (n : IntegersOf I) (f g : Flow) (h : flow_view f ≡ flow_view g) where
  abbrev same : SameParts f g
  same = same_parts f g h

  entry_same : (number : ℕ) (x : Option (List (Cell I))) → entry_pairs l n g number x ≡ entry_pairs l n f number x
  unfolding block_pairs instruction_pairs
  entry_same number None = refl
  entry_same number (Some row) = pairs_same l n f g same (instructions_of f number) (instructions_of g number) (steps_same f g h number) (Some row)

  rows_same : (number : ℕ) (rows : List (Option (List (Cell I)))) → rows_pairs l n g number rows ≡ rows_pairs l n f number rows
  rows_same number [] = refl
  rows_same number (x ∷ rows) = ap₂ (λ (a c : List Diag). a ++ c) (entry_same number x) (rows_same (number + 1) rows)

  pub map_same : (rows : List (Option (List (Cell I)))) → map_pairs l n f rows ≡ map_pairs l n g rows
  unfolding map_pairs
  map_same rows = sym (rows_same 0 rows)
