-- The analysis of the worked certificate's program: its least inductive map has the row of the entry and no other.
use Rattle.std.specs.Prelude.{◌≡◌, ℕ, zero, suc, true, Option, Some, List, [], ◌∷◌, refl}
use Rattle.std.specs.List.{Contains}
use Rattle.std.specs.List.Sorted.{IsStrictlySortedBy}
use Rattle.std.proofs.Common.{ap, subst, sym}
use Rattle.cc_base.specs.DiagnosticOrder.{diagnostic_compare}
use Rattle.cc_base.specs.InductiveMap.{IsLeast, row_at}
use Rattle.cc_base.specs.Rows.{reached_leq}
use Rattle.cfg.specs.declared.programs.Flow.{Flow}
use Rattle.interval_domain.specs.Numbers.Nearest.{nearest}
use Rattle.interval_domain.specs.Intervals.Spans.{between_or_empty}
use Rattle.interval_domain.specs.declared.intervals.intervals.Interval.{Interval}
use Rattle.value_domain.specs.declared.values.row_cells.Cell.{Cell}
use Rattle.store_cells.specs.FirstZeroWrites.{set_zeros}
use Rattle.store_cells.specs.RowPositions.{value_at}
use Rattle.transfer_edges.specs.StartRows.{empty_row, empty_bases, empty_base, empty_state, start_objects, start_parameters, start_row}
use Rattle.transfer_system.specs.BoundedRows.FittedRows.{row_fit, cell_fit}
use Rattle.transfer_system.specs.BoundedRows.OwnRows.{bases_below}
use Rattle.transfer_instructions.specs.Instructions.Steps.{operate}
use Rattle.transfer_instructions.specs.Instructions.StepViolations.{operation_violations}
use Rattle.transfer_instructions.specs.Values.IntegerSteps.{constant_step, binary_step}
use Rattle.transfer_instructions.specs.Values.ResultTemps.{put_number}
use Rattle.transfer_system.specs.System.FlowMachines.{start_of}
use Rattle.row_bounds.specs.Entries.CutStarts.{type_list}
use Rattle.diagnose.specs.Diagnostics.AdmittedRules.{pairs_of, instruction_pairs, block_pairs, map_pairs}
use Rattle.analysis_determined.specs.Analyses.{row_lattice, machine_of, admitted_pairs, IsAnalysis}
use Rattle.certificate_theorems.specs.Sound.WorkedCertificates.{IsAcceptedBeyond}
use Rattle.certificate_theorems.proofs.sound.WorkedCertificate.{text, row, start, program, unit, rows, starts, started, inductive, typed, regular, diagnostic, found, rows_are, verified, beyond, violation, violated}

module _ (some : Flow) where
  start_is : (machine_of (program some) type_list).start ≡ start
  unfolding start_of row_fit cell_fit bases_below between_or_empty start_row empty_row empty_bases empty_base empty_state start_objects start_parameters set_zeros nearest
  start_is = refl

  -- no block follows
  none_below : (b : ℕ) (x : Option (List (Cell Interval))) → reached_leq row_lattice (row_at [] b) x ≡ true
  none_below zero x = refl
  none_below (suc b) x = refl

  least : IsLeast row_lattice (machine_of (program some) type_list) (rows some)
  least other closed zero = subst (λ r. reached_leq row_lattice (Some r) (row_at other 0) ≡ true) start_is closed.entry
  least other closed (suc b) = none_below b (row_at other (suc b))

  pairs_are : admitted_pairs (program some) (rows some) ≡ diagnostic some ∷ []
  unfolding map_pairs block_pairs instruction_pairs pairs_of operation_violations operate constant_step binary_step put_number value_at between_or_empty bases_below
  pairs_are = refl

  one_ascends : IsStrictlySortedBy diagnostic_compare (diagnostic some ∷ [])
  unfolding IsStrictlySortedBy
  one_ascends = (tt, tt)

  analysed : IsAnalysis (program some) type_list (diagnostic some ∷ [])
  analysed = record {
    started = started some;
    regular = regular some;
    checked = record { parts = refl; structs = refl; reaches = refl };
    rows = rows some;
    inductive = inductive some;
    least = λ m. least;
    typed = typed some;
    pairs = record {
      ascending = one_ascends;
      kept = λ d e. subst (λ ps. Contains ps d) pairs_are e;
      made = λ d e. subst (λ ps. Contains ps d) (sym pairs_are) e;
    };
  }

  pub accepted : IsAcceptedBeyond (program some) type_list text (found some) (unit some) (violation some)
  accepted = record {
    analysed = analysed;
    verified = verified some;
    starts = starts some;
    violated = violated some;
    row = row;
    has = ap (λ rs. row_at rs 0) (rows_are some);
    beyond = beyond some;
  }
