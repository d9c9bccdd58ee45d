-- The program of the unit, and each state of its run.
use Rattle.std.specs.Prelude.{◌<◌, ◌^◌, slice_get}
use Rattle.std.specs.Global.{Vec}
use Rattle.std.proofs.Common.{◌≡◌, ◌∙◌, ◌≤◌, ◌+◌, ℕ, zero, suc, pos, true, false, List, [], ◌∷◌, length, Option, Some, None, arith, ap, sym, subst, refl}
use Rattle.std.proofs.lemmas.Option.{same_Some}
use Rattle.cc_base.specs.declared.integer_operators.IntOp.TheVariants.{Div}
use Rattle.c_layout.specs.Leaves.{leaves_of}
use Rattle.c_layout.specs.Models.{lp64}
use Rattle.c_layout.specs.declared.leaf_lists.Class.TheVariants as class
use Rattle.c_layout.specs.declared.leaf_lists.Leaf.{Leaf}
use Rattle.c_layout.specs.declared.shapes.BaseInfo.{BaseInfo}
use Rattle.c_layout.specs.declared.shapes.BaseKind.TheVariants.{Automatic}
use Rattle.cfg.specs.declared.basic_blocks.BasicBlock.{BasicBlock}
use Rattle.cfg.specs.declared.machine_instructions.Amount.TheVariants as amount
use Rattle.cfg.specs.declared.machine_instructions.Instruction.{Instruction}
use Rattle.cfg.specs.declared.machine_instructions.Operation.{Operation}
use Rattle.cfg.specs.declared.machine_instructions.Operation.TheVariants as op
use Rattle.cfg.specs.declared.programs.Flow.{Flow}
use Rattle.lower_templates.specs.Views.ProgramViews.{FlowView, flow_view}
use Rattle.semantics.specs.CfgMachine.FlowStates as states
use Rattle.semantics.specs.CfgMachine.FlowStates.{ProgramState, FlowRun, running, stopped}
use Rattle.semantics.specs.CfgMachine.FlowSteps.{flow_steps}
use Rattle.semantics.specs.CfgMachine.FlowStarts.{flow_begin}
use Rattle.typed_lowering.specs.PlainUnits.{is_plain_unit}
use Rattle.diagnose.specs.Diagnostics.AdmittedRules.{instructions_of}
use Rattle.memory_model.specs.Memory.Bytes.{MachinePointer, into}
use Rattle.memory_model.specs.Memory.Scalars.{Scalar, pointer}
use Rattle.memory_model.specs.Effects.Worlds.{World, Why, Violated, Violation}
use Rattle.semantics.specs.SourceMachine.SourceRuns as source
use Rattle.semantics.specs.SourceMachine.SourceRuns.{Run}
use Rattle.simulation_units.specs.Units.UnitRuns.{Agree}
use Rattle.typed_lowering.specs.TypedAccesses.{IsAtLeaf, PointsToKind, IsTyped}
use Rattle.typed_lowering.specs.SingleRuns.{IsTypedStep}
use Rattle.unit_exact.proofs.units.EndedRuns.{stays}
use Rattle.worked_examples.specs.PlainUnit.DividesByStored.{at, int, int_scalar, unit, division, Loads, IsPlainDivision}

none_there : {X : Type 0} (x : X) (n : ℕ) → slice_get [] n ≡ Some x → ⊥
none_there x n e = cc

-- ---- the run of the unit

is_plain : is_plain_unit unit ≡ true
is_plain = refl

divides : source.found_in (Run unit [] 40) ≡ division ∷ []
unfolding leaves_of
divides = refl

module _ (some : Flow) where
  -- ---- the program

  abbrev made : {X : Type 0} (xs : List X) → length xs < 2 ^ 63 → Vec X
  made xs h = record { ptr = some.blocks.ptr; len = length xs; cap = length xs; alloc = some.blocks.alloc; items = xs; ok = (refl, omega arith); small = h }

  abbrev none : {X : Type 0} → Vec X
  none = made [] (omega arith)

  abbrev does : ℕ → Operation → Instruction
  does column o = record { place = at column; operation = o }

  abbrev divides_by : List Instruction
  divides_by = does 33 (op.Load 1 1 int_scalar) ∷ (does 32 (op.Binary 0 Div 0 (amount.Temp 1) int) ∷ (does 1 (op.Leave 0) ∷ (does 24 op.Stop ∷ [])))

  abbrev first_instructions : List Instruction
  first_instructions =
      does 1 (op.Enter 0)
      ∷ (does 20 (op.Address 0 0 0) ∷ (does 22 (op.Constant 1 (pos 0) int) ∷ (does 20 (op.Store 0 1 int_scalar None) ∷ (does 31 (op.Constant 0 (pos 1) int) ∷ (does 33 (op.Address 1 0 0) ∷ divides_by)))))

  abbrev first_block : BasicBlock
  first_block = record { instructions = made first_instructions (omega arith); first_edge = 0; edges = 0; is_head = false }

  abbrev int_leaf : Leaf
  int_leaf = record { offset = 0; class = class.Int; signed = true; stride = 4; count = 1 }

  abbrev int_base : BaseInfo
  int_base = record { kind = Automatic; size = 4; first = 0; shape = record { cells = int_leaf ∷ []; zeros = []; heap = false } }

  abbrev pub program : Flow
  program = record {
    blocks = made (first_block ∷ []) (omega arith);
    edges = none;
    bases = made (int_base ∷ []) (omega arith);
    temps = 2;
    initial = none;
    parameters = none;
    entry = at 5;
    structs = record { items = none };
    width = 3;
    model = lp64;
  }

  abbrev f : FlowView
  f = flow_view program

  abbrev run : ℕ → FlowRun
  run count = flow_steps f count (flow_begin unit f [])

  -- ---- accesses

  at_int : IsAtLeaf int_scalar int_base 0
  at_int = record { number = 0; leaf = int_leaf; among = refl; class = refl; signed = refl; there = refl }

  into_int : (entered : ℕ → Option ℕ) → PointsToKind program entered int_scalar (into 0 0 0 4)
  into_int entered zero base there names low high = subst (λ (x : BaseInfo). IsAtLeaf int_scalar x 0) (same_Some int_base base there) at_int
  into_int entered (suc b) base there names low high = absurd (none_there base b there)

  same_pointer : (p q : MachinePointer) → Some (pointer p) ≡ Some (pointer q) → p ≡ q
  same_pointer p q e = cc

  typed : (s : ProgramState) (temp : ℕ) → s.temps temp ≡ Some (pointer (into 0 0 0 4)) → IsTyped program s temp int_scalar
  typed s temp is p there = subst (λ q. PointsToKind program s.bases int_scalar q) (same_pointer (into 0 0 0 4) p (sym is ∙ there)) (into_int s.bases)

  -- ---- steps

  abbrev block_in : FlowRun → ℕ
  block_in (running s found) = s.block
  block_in (stopped why w found) = 0

  abbrev at_in : FlowRun → ℕ
  at_in (running s found) = s.at
  at_in (stopped why w found) = 0

  abbrev temp_in : FlowRun → ℕ → Option Scalar
  temp_in (running s found) t = s.temps t
  temp_in (stopped why w found) t = None

  abbrev IsTypedRun : FlowRun → Type 0
  IsTypedRun r = (s : ProgramState) (found : List Violation) (i : Instruction) → r ≡ running s found → slice_get (instructions_of program s.block) s.at ≡ Some i → IsTypedStep program i.operation s

  -- of the state only what the step looks at is computed
  by_step : (r : FlowRun) (x : Instruction) → slice_get (instructions_of program (block_in r)) (at_in r) ≡ Some x → ((s : ProgramState) (found : List Violation) → r ≡ running s found → IsTypedStep program x.operation s) → IsTypedRun r
  by_step r x is typed s found i e there =
      let here : slice_get (instructions_of program s.block) s.at ≡ Some x = subst (λ (y : FlowRun). slice_get (instructions_of program (block_in y)) (at_in y) ≡ Some x) e is in
      subst (λ (y : Instruction). IsTypedStep program y.operation s) (same_Some x i (sym here ∙ there)) (typed s found e)

  through : (r : FlowRun) (t : ℕ) → temp_in r t ≡ Some (pointer (into 0 0 0 4)) → (s : ProgramState) (found : List Violation) → r ≡ running s found → IsTyped program s t int_scalar
  through r t is s found e = typed s t (subst (λ (y : FlowRun). temp_in y t ≡ Some (pointer (into 0 0 0 4))) e is)

  entered : IsTypedRun (run 0)
  entered = by_step (run 0) (does 1 (op.Enter 0)) refl (λ s found e. tt)

  addressed : IsTypedRun (run 1)
  addressed = by_step (run 1) (does 20 (op.Address 0 0 0)) refl (λ s found e. tt)

  counted : IsTypedRun (run 2)
  counted = by_step (run 2) (does 22 (op.Constant 1 (pos 0) int)) refl (λ s found e. tt)

  stored : IsTypedRun (run 3)
  stored = by_step (run 3) (does 20 (op.Store 0 1 int_scalar None)) refl (through (run 3) 0 refl)

  counted_again : IsTypedRun (run 4)
  counted_again = by_step (run 4) (does 31 (op.Constant 0 (pos 1) int)) refl (λ s found e. tt)

  addressed_again : IsTypedRun (run 5)
  addressed_again = by_step (run 5) (does 33 (op.Address 1 0 0)) refl (λ s found e. tt)

  loaded : IsTypedRun (run 6)
  loaded = by_step (run 6) (does 33 (op.Load 1 1 int_scalar)) refl (through (run 6) 1 refl)

  divided : IsTypedRun (run 7)
  divided = by_step (run 7) (does 32 (op.Binary 0 Div 0 (amount.Temp 1) int)) refl (λ s found e. tt)

  -- then the run has stopped

  has_stopped : (r : FlowRun) → states.why_of r ≡ Some Violated → r ≡ stopped Violated (states.world_of r) (states.found_in r)
  has_stopped (running s found) e = absurd (no e)
    where
      no : None ≡ Some Violated → ⊥
      no h = cc
  has_stopped (stopped why w found) e = ap (λ (y : Why). stopped y w found) (same_Some why Violated e)

  why_stopped : states.why_of (run 8) ≡ Some Violated
  why_stopped = refl

  of_stopped : (r : FlowRun) (why : Why) (w : World) (found : List Violation) → r ≡ stopped why w found → IsTypedRun r
  of_stopped r why w found is s more i e there = absurd (apart (sym is ∙ e))
    where
      apart : stopped why w found ≡ running s more → ⊥
      apart h = cc

  stopped_later : (count : ℕ) → 8 ≤ count → run count ≡ stopped Violated (states.world_of (run 8)) (states.found_in (run 8))
  stopped_later count more = stays f (flow_begin unit f []) 8 count Violated (states.world_of (run 8)) (states.found_in (run 8)) more (has_stopped (run 8) why_stopped)

  typed_run : (count : ℕ) → IsTypedRun (run count)
  typed_run zero = entered
  typed_run (suc zero) = addressed
  typed_run (suc (suc zero)) = counted
  typed_run (suc (suc (suc zero))) = stored
  typed_run (suc (suc (suc (suc zero)))) = counted_again
  typed_run (suc (suc (suc (suc (suc zero))))) = addressed_again
  typed_run (suc (suc (suc (suc (suc (suc zero)))))) = loaded
  typed_run (suc (suc (suc (suc (suc (suc (suc zero))))))) = divided
  typed_run (suc (suc (suc (suc (suc (suc (suc (suc count)))))))) = of_stopped (run (suc (suc (suc (suc (suc (suc (suc (suc count))))))))) Violated (states.world_of (run 8)) (states.found_in (run 8)) (stopped_later (suc (suc (suc (suc (suc (suc (suc (suc count)))))))) (omega arith))

  loads_from : (s : ProgramState) (found : List Violation) → run 6 ≡ running s found → slice_get (instructions_of program s.block) s.at ≡ Some (does 33 (op.Load 1 1 int_scalar)) → s.temps 1 ≡ Some (pointer (into 0 0 0 4)) → Loads program 6
  loads_from s found is load through = record { standing = s; found = found; is = is; load = load; through = through }

  loads : Loads program 6
  loads = loads_from _ _ refl refl refl

  alike : Agree (Run unit [] 40) (run 8)
  unfolding leaves_of
  alike = record { memory = refl; draws = refl; found = refl; why = refl }

  pub plain_division : IsPlainDivision program
  plain_division = record { look = is_plain; accesses = typed_run; loads = loads; found = divides; alike = alike }
