-- The program of the unit, its analysis and its thresholds.
use Rattle.std.specs.Prelude.{◌≡◌, ◌++◌, ℕ, zero, suc, ℤ, pos, true, false, Option, Some, None, List, [], ◌∷◌, length, refl}
use Rattle.std.specs.List.{Contains}
use Rattle.std.specs.List.Sorted.{IsStrictlySortedBy}
use Rattle.std.proofs.Common.{ap, arith, subst, sym}
use Rattle.cc_base.specs.DiagnosticOrder.{diagnostic_compare}
use Rattle.cc_base.specs.InductiveMap.{IsInductive, IsLeast, IsOwn, row_at}
use Rattle.cc_base.specs.Machine.{Machine}
use Rattle.cc_base.specs.Rows.{reached_leq}
use Rattle.cc_base.specs.Standard.{standard_limits}
use Rattle.cc_base.specs.declared.diagnostics.Diag.{Diag}
use Rattle.cc_base.specs.declared.integer_operators.IntOp.TheVariants.{Div}
use Rattle.c_layout.specs.Models.{lp64}
use Rattle.c_layout.specs.declared.struct_table.StructType.{StructType}
use Rattle.cfg.specs.WellFormed.{is_well_formed}
use Rattle.cfg.specs.declared.basic_blocks.BasicBlock.{BasicBlock}
use Rattle.cfg.specs.declared.machine_instructions.Amount.TheVariants as amount
use Rattle.cfg.specs.declared.machine_instructions.Instruction.{Instruction}
use Rattle.cfg.specs.declared.machine_instructions.Operation.{Operation}
use Rattle.cfg.specs.declared.machine_instructions.Operation.TheVariants as op
use Rattle.cfg.specs.declared.programs.Flow.{Flow}
use Rattle.interval_domain.specs.Numbers.Nearest.{nearest}
use Rattle.interval_domain.specs.Intervals.Spans.{between_or_empty}
use Rattle.interval_domain.specs.Intervals.IntervalLattice.{interval_lattice}
use Rattle.interval_domain.specs.Intervals.IntervalNumbers.{interval_numbers}
use Rattle.interval_domain.specs.declared.intervals.intervals.Interval.{Interval}
use Rattle.value_domain.specs.Values.Values.{value_lattice}
use Rattle.value_domain.specs.declared.values.row_cells.Cell.{Cell}
use Rattle.value_domain.specs.declared.values.row_cells.Cell.TheVariants.{Value}
use Rattle.store_cells.specs.FirstZeroWrites.{set_zeros}
use Rattle.store_cells.specs.RowPositions.{value_at}
use Rattle.transfer_edges.specs.StartRows.{empty_row, empty_bases, empty_base, empty_state, start_objects, start_parameters, start_row}
use Rattle.transfer_system.specs.BoundedRows.FittedRows.{row_fit, cell_fit}
use Rattle.transfer_system.specs.BoundedRows.OwnRows.{bases_below}
use Rattle.transfer_instructions.specs.Instructions.Steps.{operate}
use Rattle.transfer_instructions.specs.Instructions.StepViolations.{operation_violations}
use Rattle.transfer_instructions.specs.Values.IntegerSteps.{constant_step, binary_step}
use Rattle.transfer_instructions.specs.Values.ResultTemps.{put_number}
use Rattle.transfer_system.specs.System.FlowMachines.{has_start, start_of}
use Rattle.transfer_system.specs.System.RegularPrograms.{is_regular}
use Rattle.diagnose.specs.Diagnostics.AdmittedRules.{pairs_of, instruction_pairs, block_pairs, map_pairs}
use Rattle.diagnose.specs.Operands.TypedRows.{has_operands, are_typed, is_typed_block, is_typed_map}
use Rattle.analysis.specs.Analyses.{row_lattice, machine_of, admitted_pairs, IsAnalysis}
use Rattle.cli_examples.specs.Units.WorkedPlaces.{at, division}
use Rattle.cli_examples.specs.Units.WorkedTrees.{int}
use Rattle.cli_examples.proofs.units.Built.{made, none}
use Rattle.cli_examples.specs.Analyses.WorkedAnalyses.{Map, thresholds, IsLarger, IsFoundAlone}

-- ---- longer maps

one_more : {X : Type 0} (xs : List X) (x : X) → length (xs ++ x ∷ []) ≡ suc (length xs)
one_more [] x = refl
one_more (y ∷ ys) x = ap suc (one_more ys x)

pub no_longer_map : (m : Machine (Cell Interval)) (rows : Map) (row : Option (List (Cell Interval))) → IsInductive row_lattice m rows → IsInductive row_lattice m (rows ++ row ∷ []) → ⊥
no_longer_map m rows row is also = let more = one_more rows row in let size = is.size in let other = also.size in omega (arith, more, size, other)

-- ---- the program

module _ (some : Flow) where
  abbrev does : ℕ → Operation → Instruction
  does column o = record { place = at column; operation = o }

  abbrev first_block : BasicBlock
  first_block = record {
    instructions = made some.blocks (does 23 (op.Constant 0 (pos 1) int) ∷ (does 25 (op.Constant 1 (pos 0) int) ∷ (does 24 (op.Binary 0 Div 0 (amount.Temp 1) int) ∷ (does 16 op.Stop ∷ [])))) (omega arith);
    first_edge = 0;
    edges = 0;
    is_head = false;
  }

  -- behind the body, which no edge leads to
  abbrev last_block : BasicBlock
  last_block = record { instructions = made some.blocks (does 5 op.Stop ∷ []) (omega arith); first_edge = 0; edges = 0; is_head = false }

  abbrev stream : StructType
  stream = record { fields = none some.blocks; complete = false; size = 0; align = 1; leaves = 0; plain_leaves = 0 }

  abbrev pub program : Flow
  program = record {
    blocks = made some.blocks (first_block ∷ (last_block ∷ [])) (omega arith);
    edges = none some.blocks;
    bases = none some.blocks;
    temps = 2;
    initial = none some.blocks;
    parameters = none some.blocks;
    entry = at 5;
    structs = record { items = made some.blocks (stream ∷ []) (omega arith) };
    width = 2;
    model = lp64;
  }

  pub well_formed : is_well_formed standard_limits program ≡ true
  well_formed = refl

  -- ---- its maps

  abbrev nothing : Cell Interval
  nothing = Value (value_lattice interval_lattice).least

  abbrev start : List (Cell Interval)
  start = nothing ∷ (nothing ∷ [])

  abbrev rows : Map
  rows = Some start ∷ (None ∷ [])

  -- a map that says that the last block is reached
  abbrev pub larger : Map
  larger = Some start ∷ (Some start ∷ [])

  start_is : (machine_of program thresholds).start ≡ start
  unfolding start_of row_fit cell_fit bases_below between_or_empty start_row empty_row empty_bases empty_base empty_state start_objects start_parameters set_zeros nearest
  start_is = refl

  started : has_start interval_lattice interval_numbers program ≡ true
  unfolding start_row empty_row empty_bases empty_base empty_state start_objects start_parameters
  started = refl

  start_own : (machine_of program thresholds).own start ≡ true
  unfolding bases_below between_or_empty
  start_own = refl

  -- no block follows
  none_own : (b : ℕ) → IsOwn (machine_of program thresholds) (row_at [] b)
  none_own zero = tt
  none_own (suc b) = tt

  rows_own : (b : ℕ) → IsOwn (machine_of program thresholds) (row_at rows b)
  rows_own zero = start_own
  rows_own (suc zero) = tt
  rows_own (suc (suc b)) = none_own b

  larger_own : (b : ℕ) → IsOwn (machine_of program thresholds) (row_at larger b)
  larger_own zero = start_own
  larger_own (suc zero) = start_own
  larger_own (suc (suc b)) = none_own b

  begins : reached_leq row_lattice (Some (machine_of program thresholds).start) (Some start) ≡ true
  begins = subst (λ r. reached_leq row_lattice (Some r) (Some start) ≡ true) (sym start_is) refl

  no_head : (b : ℕ) → (machine_of program thresholds).head b ≡ true → ⊥
  no_head zero h = cc
  no_head (suc zero) h = cc
  no_head (suc (suc zero)) h = cc
  no_head (suc (suc (suc b))) h = cc

  inductive : IsInductive row_lattice (machine_of program thresholds) rows
  inductive = record { size = refl; own = rows_own; entry = begins; edge = λ e lt. absurd (omega (arith, lt)); rounded = λ b h. absurd (no_head b h) }

  larger_inductive : IsInductive row_lattice (machine_of program thresholds) larger
  larger_inductive = record { size = refl; own = larger_own; entry = begins; edge = λ e lt. absurd (omega (arith, lt)); rounded = λ b h. absurd (no_head b h) }

  none_below : (b : ℕ) (x : Option (List (Cell Interval))) → reached_leq row_lattice (row_at [] b) x ≡ true
  none_below zero x = refl
  none_below (suc b) x = refl

  least : IsLeast row_lattice (machine_of program thresholds) rows
  least other closed zero = subst (λ r. reached_leq row_lattice (Some r) (row_at other 0) ≡ true) start_is closed.entry
  least other closed (suc zero) = refl
  least other closed (suc (suc b)) = none_below b (row_at other (suc (suc b)))

  true_false : true ≡ false → ⊥
  true_false e = cc

  -- the last block would have to be reached in each map
  not_least : IsLeast row_lattice (machine_of program thresholds) larger → ⊥
  not_least is = let above : false ≡ true = is rows inductive 1 in true_false (sym above)

  pub larger_map : IsLarger program thresholds larger
  larger_map = record { inductive = larger_inductive; not_least = not_least }

  -- ---- its analysis

  regular : is_regular program thresholds ≡ true
  regular = refl

  typed : is_typed_map interval_lattice interval_numbers program rows ≡ true
  unfolding is_typed_map is_typed_block are_typed has_operands operate constant_step binary_step put_number value_at between_or_empty
  typed = refl

  pairs_are : admitted_pairs program rows ≡ division 24 ∷ []
  unfolding map_pairs block_pairs instruction_pairs pairs_of operation_violations operate constant_step binary_step put_number value_at between_or_empty bases_below
  pairs_are = refl

  ascends : IsStrictlySortedBy diagnostic_compare (division 24 ∷ [])
  unfolding IsStrictlySortedBy
  ascends = (tt, tt)

  module _
      (agree : (flow : Flow) (list : List ℤ) (found other : List Diag) → IsAnalysis flow list found → IsAnalysis flow list other → found ≡ other) where
    analysed : IsAnalysis program thresholds (division 24 ∷ [])
    analysed = record {
      started = started;
      regular = regular;
      checked = record { parts = refl; structs = refl; reaches = refl };
      rows = rows;
      inductive = inductive;
      least = λ m. least;
      typed = typed;
      pairs = record {
        ascending = ascends;
        kept = λ d e. subst (λ ps. Contains ps d) pairs_are e;
        made = λ d e. subst (λ ps. Contains ps d) (sym pairs_are) e;
      };
    }

    alone : (found : List Diag) → IsAnalysis program thresholds found → found ≡ division 24 ∷ []
    alone found is = agree program thresholds found (division 24 ∷ []) is analysed

    no_line : [] ≡ division 24 ∷ [] → ⊥
    no_line e = let same : 0 ≡ 1 = ap (λ (ds : List Diag). length ds) e in omega (arith, same)

    column_of : List Diag → ℕ
    column_of [] = 0
    column_of (d ∷ ds) = d.place.col

    other_column : division 23 ∷ [] ≡ division 24 ∷ [] → ⊥
    unfolding column_of
    other_column e = let same : 23 ≡ 24 = ap column_of e in omega (arith, same)

    pub found_alone : IsFoundAlone program thresholds
    found_alone = record {
      there = analysed;
      no_other = alone;
      shorter = λ is. no_line (alone [] is);
      other_place = λ is. other_column (alone (division 23 ∷ []) is);
    }
