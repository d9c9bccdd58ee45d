-- The program, which sets a number, takes a turn of its loop that sets it to 0, and divides by it; and the states of its run.
use Rattle.std.specs.Prelude.{◌*◌, ◌<◌, ◌^◌, slice_get}
use Rattle.std.specs.Global.{Vec}
use Rattle.std.proofs.Common.{◌≡◌, ◌∙◌, ◌≤◌, ℕ, zero, suc, pos, true, false, List, [], ◌∷◌, length, Option, Some, None, arith, ap, sym, subst, refl}
use Rattle.std.proofs.lemmas.Option.{same_Some}
use Rattle.cc_base.specs.declared.integer_operators.IntOp.TheVariants.{Div}
use Rattle.c_layout.specs.Models.{lp64}
use Rattle.cfg.specs.declared.basic_blocks.BasicBlock.{BasicBlock}
use Rattle.cfg.specs.declared.flow_edges.Edge.{Edge}
use Rattle.cfg.specs.declared.flow_edges.EdgeKind.{EdgeKind}
use Rattle.cfg.specs.declared.flow_edges.EdgeKind.TheVariants as kind
use Rattle.cfg.specs.declared.machine_instructions.Amount.TheVariants as amount
use Rattle.cfg.specs.declared.machine_instructions.Instruction.{Instruction}
use Rattle.cfg.specs.declared.machine_instructions.Operation.{Operation}
use Rattle.cfg.specs.declared.machine_instructions.Operation.TheVariants as op
use Rattle.cfg.specs.declared.machine_instructions.Scalar.TheVariants as scalar
use Rattle.cfg.specs.declared.programs.Flow.{Flow}
use Rattle.lower_templates.specs.Views.ProgramViews.{FlowView, flow_view}
use Rattle.semantics.specs.CfgMachine.FlowStates as states
use Rattle.semantics.specs.CfgMachine.FlowStates.{ProgramState, FlowRun, running, stopped}
use Rattle.semantics.specs.CfgMachine.FlowSteps.{flow_steps}
use Rattle.semantics.specs.CfgMachine.FlowStarts.{flow_begin}
use Rattle.diagnose.specs.Diagnostics.AdmittedRules.{instructions_of}
use Rattle.memory_model.specs.Effects.Worlds.{Why, Violated, Violation}
use Rattle.loop_unrolling.specs.Turns.{split}
use Rattle.typed_lowering.specs.SingleRuns.{IsPlainOperation, IsTypedStep}
use Rattle.unit_exact.proofs.units.EndedRuns.{stays}
use Rattle.unit_exact.specs.Unrolled.UnrolledLoops.{TakesTurns, IsSingleUpTo}
use Rattle.worked_examples.specs.UnrolledUnit.WorkedLoops.{at, int, unit, division, IsLoopedOnce}

none_there : {X : Type 0} (x : X) (n : ℕ) → slice_get [] n ≡ Some x → ⊥
none_there x n e = cc

module _ (some : Flow) where
  -- ---- the program

  abbrev made : {X : Type 0} (xs : List X) → length xs < 2 ^ 63 → Vec X
  made xs h = record { ptr = some.blocks.ptr; len = length xs; cap = length xs; alloc = some.blocks.alloc; items = xs; ok = (refl, omega arith); small = h }

  abbrev none : {X : Type 0} → Vec X
  none = made [] (omega arith)

  abbrev does : ℕ → Operation → Instruction
  does column o = record { place = at column; operation = o }

  abbrev entry_instructions : List Instruction
  entry_instructions = does 1 (op.Constant 0 (pos 1) int) ∷ (does 2 op.Jump ∷ [])

  abbrev head_instructions : List Instruction
  head_instructions = does 3 (op.Branch 0 (scalar.Int int)) ∷ []

  abbrev turn_instructions : List Instruction
  turn_instructions = does 5 (op.Constant 0 (pos 0) int) ∷ (does 6 op.Jump ∷ [])

  abbrev last_instructions : List Instruction
  last_instructions = does 7 (op.Binary 1 Div 0 (amount.Temp 0) int) ∷ (does 8 op.Stop ∷ [])

  abbrev entry_block : BasicBlock
  entry_block = record { instructions = made entry_instructions (omega arith); first_edge = 0; edges = 1; is_head = false }

  abbrev head_block : BasicBlock
  head_block = record { instructions = made head_instructions (omega arith); first_edge = 1; edges = 2; is_head = true }

  abbrev turn_block : BasicBlock
  turn_block = record { instructions = made turn_instructions (omega arith); first_edge = 3; edges = 1; is_head = false }

  abbrev last_block : BasicBlock
  last_block = record { instructions = made last_instructions (omega arith); first_edge = 4; edges = 0; is_head = false }

  abbrev leads : ℕ → ℕ → EdgeKind → Edge
  leads from to taken = record { from = from; to = to; kind = taken }

  abbrev pub program : Flow
  program = record {
    blocks = made (entry_block ∷ (head_block ∷ (turn_block ∷ (last_block ∷ [])))) (omega arith);
    edges = made (leads 0 1 kind.Jump ∷ (leads 1 2 (kind.When true None None) ∷ (leads 1 3 (kind.When false None None) ∷ (leads 2 1 kind.Jump ∷ [])))) (omega arith);
    bases = none;
    temps = 2;
    initial = none;
    parameters = none;
    entry = at 1;
    structs = record { items = none };
    width = 2;
    model = lp64;
  }

  -- ---- instructions: none of them accesses memory or calls

  abbrev IsFree : Operation → Type 0
  IsFree o = IsPlainOperation o × ((s : ProgramState) → IsTypedStep program o s)

  abbrev AreFree : List Instruction → Type 0
  AreFree [] = Unit {0}
  AreFree (x ∷ xs) = IsFree x.operation × AreFree xs

  one_free : (xs : List Instruction) → AreFree xs → (k : ℕ) (i : Instruction) → slice_get xs k ≡ Some i → IsFree i.operation
  one_free [] free k i e = absurd (none_there i k e)
  one_free (x ∷ xs) free zero i e = subst (λ (y : Instruction). IsFree y.operation) (same_Some x i e) (free.0)
  one_free (x ∷ xs) free (suc k) i e = one_free xs (free.1) k i e

  all_free : (b k : ℕ) (i : Instruction) → slice_get (instructions_of program b) k ≡ Some i → IsFree i.operation
  all_free zero k i e = one_free entry_instructions ((tt, λ s. tt), ((tt, λ s. tt), tt)) k i e
  all_free (suc zero) k i e = one_free head_instructions ((tt, λ s. tt), tt) k i e
  all_free (suc (suc zero)) k i e = one_free turn_instructions ((tt, λ s. tt), ((tt, λ s. tt), tt)) k i e
  all_free (suc (suc (suc zero))) k i e = one_free last_instructions ((tt, λ s. tt), ((tt, λ s. tt), tt)) k i e
  all_free (suc (suc (suc (suc b)))) k i e = absurd (none_there i k e)

  -- ---- runs with turns unrolled

  abbrev run : ℕ → ℕ → FlowRun
  run turns count = flow_steps (split turns (flow_view program)) count (flow_begin unit (split turns (flow_view program)) [])

  abbrev block_in : FlowRun → ℕ
  block_in (running s found) = s.block
  block_in (stopped why w found) = 0

  abbrev IsLow : FlowRun → Type 0
  IsLow r = block_in r < 8

  low : (r : FlowRun) (n : ℕ) → block_in r ≡ n → n < 8 → IsLow r
  low r n e less = omega arith

  has_stopped : (r : FlowRun) → states.why_of r ≡ Some Violated → r ≡ stopped Violated (states.world_of r) (states.found_in r)
  has_stopped (running s found) e = absurd (no e)
    where
      no : None ≡ Some Violated → ⊥
      no h = cc
  has_stopped (stopped why w found) e = ap (λ (y : Why). stopped y w found) (same_Some why Violated e)

  why_stopped : states.why_of (run 1 7) ≡ Some Violated
  why_stopped = refl

  stopped_later : (count : ℕ) → 7 ≤ count → run 1 count ≡ stopped Violated (states.world_of (run 1 7)) (states.found_in (run 1 7))
  stopped_later count more = stays (split 1 (flow_view program)) (flow_begin unit (split 1 (flow_view program)) []) 7 count Violated (states.world_of (run 1 7)) (states.found_in (run 1 7)) more (has_stopped (run 1 7) why_stopped)

  stays_low : (count : ℕ) → IsLow (run 1 count)
  stays_low zero = low (run 1 0) 0 refl (omega arith)
  stays_low (suc zero) = low (run 1 1) 0 refl (omega arith)
  stays_low (suc (suc zero)) = low (run 1 2) 1 refl (omega arith)
  stays_low (suc (suc (suc zero))) = low (run 1 3) 2 refl (omega arith)
  stays_low (suc (suc (suc (suc zero)))) = low (run 1 4) 2 refl (omega arith)
  stays_low (suc (suc (suc (suc (suc zero))))) = low (run 1 5) 5 refl (omega arith)
  stays_low (suc (suc (suc (suc (suc (suc zero)))))) = low (run 1 6) 7 refl (omega arith)
  stays_low (suc (suc (suc (suc (suc (suc (suc count))))))) =
      let e = stopped_later (suc (suc (suc (suc (suc (suc (suc count))))))) (omega arith) in
      low (run 1 (suc (suc (suc (suc (suc (suc (suc count)))))))) 0 (ap block_in e) (omega arith)

  takes_one : TakesTurns 1 program unit
  takes_one count s found e = subst IsLow e (stays_low count)

  -- with no turn unrolled the run comes to the last copy
  comes_late : (s : ProgramState) (found : List Violation) → run 0 5 ≡ running s found → s.block ≡ 5 → TakesTurns 0 program unit → ⊥
  comes_late s found e late takes = let less : s.block < 4 = takes 5 s found e in omega arith

  looped_single : IsSingleUpTo 1 program unit
  looped_single = record {
    plain = record { apart = λ b j base leaf e c. absurd (none_there base b e); no_heap = λ b base e. absurd (none_there base b e) };
    parameters = refl;
    calls = λ o d. subst IsPlainOperation d.does (all_free d.block d.at d.instruction d.is).0;
    takes = takes_one;
    steps = λ count s found i e there. (all_free s.block s.at i there).1 s;
  }

  divides : states.found_in (flow_steps (flow_view program) 7 (flow_begin unit (flow_view program) [])) ≡ division ∷ []
  divides = refl

  pub looped_once : IsLoopedOnce program
  looped_once = record { head = refl; single = looped_single; too_few = comes_late _ _ refl refl; found = divides }
