-- Each step is the same in a copy, and so is each run.
use Rattle.std.specs.Prelude.{◌≡◌, ℕ, zero, suc, ◌<◌, pos, Option, Some, None, List, [], ◌∷◌, length, slice_get, get_or, refl}
use Rattle.std.proofs.Common.{arith, sym, subst, subst₂, ap}
use Rattle.std.proofs.lemmas.Option.{slice_get-get_or}
use Rattle.cc_base.specs.declared.diagnostics.Place.{Place}
use Rattle.c_layout.specs.CheckedUnits.{UnitView}
use Rattle.memory_model.specs.Memory.Labels.{no_labels}
use Rattle.memory_model.specs.Memory.Scalars.{Scalar, integer, pointer}
use Rattle.memory_model.specs.Effects.Worlds.{World, Reply, goes, stops, behind, Violation}
use Rattle.memory_model.specs.Effects.NumberedTables.{empty_table}
use Rattle.memory_model.specs.Effects.LibraryCalls.{fgets}
use Rattle.memory_model.specs.Effects.UnitStarts.{start_world}
use Rattle.lower_templates.specs.Worklist.Acts as act
use Rattle.lower_templates.specs.Worklist.Acts.{Act, Step}
use Rattle.lower_templates.specs.Views.ProgramViews.{BlockView, FlowView}
use Rattle.semantics.specs.CfgMachine.FlowStates.{ProgramState, values_of, put_if, FlowRun, running, stopped}
use Rattle.semantics.specs.CfgMachine.FlowActs.{perform}
use Rattle.semantics.specs.CfgMachine.FlowSteps.{no_block, block_or, on_edge, switching, reading_line, act_step, begun, run_by, instruction_step, flow_step, flow_steps}
use Rattle.semantics.specs.CfgMachine.FlowStarts.{start_names, begun_by, flow_begin}
use Rattle.loop_unrolling.specs.Turns.{copies, number_in, split}
use Rattle.analysis_determined.specs.UnrolledRuns.SameRuns.{IsLinked, in_copy, IsCopied, SameRun, RunsAreSame}
use Rattle.analysis_determined.proofs.unrolled_runs.MovedStandings.{perform_moved}
use Rattle.analysis_determined.proofs.unrolled_runs.MovedEdges.{Copied, copied_if, moved_is_copied, block_there, edge_copied}

module _ (turns : ℕ) (f : FlowView) (linked : IsLinked f) where
  abbrev blocks : ℕ
  blocks = length f.blocks

  -- ---- instructions

  module _ (k : ℕ) (p : k < copies turns) (b : BlockView) where
    plain : (a : Act) (s : ProgramState) → s.block < blocks → Copied turns f (perform f a s) (perform (split turns f) a (in_copy blocks k s))
    plain a s less = moved_is_copied turns f k s.block p less (perform f a s) (perform (split turns f) a (in_copy blocks k s)) (perform_moved blocks k turns f a s)

    switched : (s : ProgramState) → s.block < blocks → slice_get f.blocks s.block ≡ Some b → (v : Scalar) → Copied turns f (switching f s v) (switching (split turns f) (in_copy blocks k s) v)
    switched s less there (integer n labels) = edge_copied turns f k p linked s less b there (integer n labels)
    switched s less there (pointer q) = (refl, refl)

    line_put : (s : ProgramState) → s.block < blocks → slice_get f.blocks s.block ≡ Some b → (to : Option ℕ) (v : Scalar) (w : World) → Copied turns f (on_edge f (put_if s to v w) v) (on_edge (split turns f) (put_if (in_copy blocks k s) to v w) v)
    line_put s less there None v w = edge_copied turns f k p linked (put_if s None v w) less b there v
    line_put s less there (Some to) v w = edge_copied turns f k p linked (put_if s (Some to) v w) less b there v

    line_read : (s : ProgramState) → s.block < blocks → slice_get f.blocks s.block ≡ Some b → (to : Option ℕ) (arguments : List Scalar) → Copied turns f (reading_line f to s arguments) (reading_line (split turns f) to (in_copy blocks k s) arguments)
    line_read s less there to arguments = read (fgets f.model arguments s.world)
      where
        read : (r : Reply Scalar) → Copied turns f (behind r (λ v w. on_edge f (put_if s to v w) v)) (behind r (λ v w. on_edge (split turns f) (put_if (in_copy blocks k s) to v w) v))
        read (goes v w) = line_put s less there to v w
        read (stops why w) = (refl, refl)

    act_copied : (a : Act) (s : ProgramState) → s.block < blocks → slice_get f.blocks s.block ≡ Some b → Copied turns f (act_step f a s) (act_step (split turns f) a (in_copy blocks k s))
    act_copied (act.Constant to value kind) s less there = plain (act.Constant to value kind) s less
    act_copied (act.Address to base offset) s less there = plain (act.Address to base offset) s less
    act_copied (act.Load to from kind) s less there = plain (act.Load to from kind) s less
    act_copied (act.Store to from kind kept) s less there = plain (act.Store to from kind kept) s less
    act_copied (act.Copy to from index) s less there = plain (act.Copy to from index) s less
    act_copied (act.Narrow to from offset size) s less there = plain (act.Narrow to from offset size) s less
    act_copied (act.Shift to from by size backward) s less there = plain (act.Shift to from by size backward) s less
    act_copied (act.Binary to sign left right kind) s less there = plain (act.Binary to sign left right kind) s less
    act_copied (act.Unary to sign from kind) s less there = plain (act.Unary to sign from kind) s less
    act_copied (act.Compare to sign left right) s less there = plain (act.Compare to sign left right) s less
    act_copied (act.Not to from kind) s less there = plain (act.Not to from kind) s less
    act_copied (act.Difference to left right size) s less there = plain (act.Difference to left right size) s less
    act_copied (act.ComparePointers to sign left right) s less there = plain (act.ComparePointers to sign left right) s less
    act_copied (act.Convert to from old new) s less there = plain (act.Convert to from old new) s less
    act_copied (act.Library to function arguments newest size) s less there = plain (act.Library to function arguments newest size) s less
    act_copied (act.Enter base) s less there = plain (act.Enter base) s less
    act_copied (act.Leave base) s less there = plain (act.Leave base) s less
    act_copied (act.Forget base) s less there = plain (act.Forget base) s less
    act_copied (act.Clear base) s less there = plain (act.Clear base) s less
    act_copied (act.Spell base offset room text) s less there = plain (act.Spell base offset room text) s less
    act_copied (act.ReadLine to text count stream) s less there =
        copied_if turns f s k (values_of s.temps (text ∷ (count ∷ (stream ∷ [])))) (reading_line f to s) (reading_line (split turns f) to (in_copy blocks k s)) (λ vs. line_read s less there to vs)
    act_copied act.Jump s less there = edge_copied turns f k p linked s less b there (integer (pos 0) no_labels)
    act_copied (act.Branch from kind) s less there = copied_if turns f s k (s.temps from) (on_edge f s) (on_edge (split turns f) (in_copy blocks k s)) (λ v. edge_copied turns f k p linked s less b there v)
    act_copied (act.Switch from kind) s less there = copied_if turns f s k (s.temps from) (switching f s) (switching (split turns f) (in_copy blocks k s)) (λ v. switched s less there v)
    act_copied act.Stop s less there = (refl, refl)

  -- ---- steps

  run_copied : (found : List Violation) (at : Place) (r q : Reply ProgramState) → Copied turns f r q → SameRun turns f (run_by found at r) (run_by found at q)
  run_copied found at (goes s w) (goes t v) m = world_same (m.0) m.1
    where
      world_same : IsCopied turns f s t → v ≡ w → SameRun turns f (run_by found at (goes s w)) (run_by found at (goes t v))
      world_same c e = subst (λ z. SameRun turns f (run_by found at (goes s w)) (run_by found at (goes t z))) (sym e)
          (record { copy = c.copy; among = c.among; block = c.block; place = ap (λ (z : ProgramState). record z { world = w }) c.place }, refl)
  run_copied found at (goes s w) (stops why v) m = absurd m
  run_copied found at (stops why w) (goes t v) m = absurd m
  run_copied found at (stops why w) (stops reason v) m = subst₂ (λ x y. SameRun turns f (run_by found at (stops why w)) (run_by found at (stops x y))) (sym m.0) (sym m.1) (refl, (refl, refl))

  step_copied : (s : ProgramState) (found : List Violation) (k : ℕ) → k < copies turns → s.block < blocks → SameRun turns f (flow_step f (running s found)) (flow_step (split turns f) (running (in_copy blocks k s) found))
  step_copied s found k p less =
      subst₂ (λ x y. SameRun turns f (instruction_step f found s (slice_get (block_or_steps x) s.at)) (instruction_step (split turns f) found (in_copy blocks k s) (slice_get (block_or_steps y) s.at)))
      (sym (ap block_or there)) (sym (block_there turns f k p s.block b there less)) (one (slice_get b.steps s.at))
    where
      b : BlockView
      b = get_or f.blocks s.block no_block

      there : slice_get f.blocks s.block ≡ Some b
      there = slice_get-get_or f.blocks s.block no_block less

      block_or_steps : BlockView → List Step
      block_or_steps v = v.steps

      one : (o : Option Step) → SameRun turns f (instruction_step f found s o) (instruction_step (split turns f) found (in_copy blocks k s) o)
      one None = (refl, (refl, refl))
      one (Some i) = run_copied found i.at (act_step f i.does (begun s)) (act_step (split turns f) i.does (begun (in_copy blocks k s))) (act_copied k p b i.does (begun s) less there)

  stepped : (r q : FlowRun) → SameRun turns f r q → SameRun turns f (flow_step f r) (flow_step (split turns f) q)
  stepped (running s found) (running t more) m =
      subst₂ (λ x y. SameRun turns f (flow_step f (running s found)) (flow_step (split turns f) (running x y))) (sym m.0.place) (sym m.1) (step_copied s found m.0.copy m.0.among m.0.block)
  stepped (running s found) (stopped why w more) m = absurd m
  stepped (stopped why w found) (running t more) m = absurd m
  stepped (stopped why w found) (stopped reason v more) m = m

  -- ---- runs

  begins : (u : UnitView) (r : Reply (Unit {0})) → SameRun turns f (begun_by u f r) (begun_by u (split turns f) r)
  begins u (goes x w) = (
    record {
      copy = 0;
      among = omega arith;
      block = linked.some;
      place = ap (λ z. record { block = z; at = 0; temps = empty_table; bases = start_names u f; world = w }) (let e : 0 ≡ number_in blocks 0 0 = omega arith in e);
    },
    refl,
  )
  begins u (stops why w) = (refl, (refl, refl))

  pub runs_same : RunsAreSame turns f
  runs_same u draws zero = begins u (start_world u draws)
  runs_same u draws (suc n) = stepped (flow_steps f n (flow_begin u f draws)) (flow_steps (split turns f) n (flow_begin u (split turns f) draws)) (runs_same u draws n)
