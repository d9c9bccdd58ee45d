-- A program whose one run passes each block once at most stays one where turns are unrolled, and becomes one where that unrolls its
-- loops.
use Rattle.std.specs.Prelude.{◌≡◌, ℕ, ℤ, ◌*◌, Bool, true, false, List, [], length, slice_get, refl}
use Rattle.std.specs.Global.{Vec}
use Rattle.std.proofs.Common.{arith, sym, subst, ap, ◌∙◌, inl, inr}
use Rattle.std.proofs.lemmas.Bool.{cases_lt, true≢false}
use Rattle.std.proofs.lemmas.List.{length-map}
use Rattle.cc_base.specs.declared.limit_table.Limits.{Limits}
use Rattle.c_layout.specs.CheckedUnits.{UnitView}
use Rattle.cfg.specs.WellFormed.{is_well_formed}
use Rattle.cfg.specs.declared.flow_edges.CaseTest.{CaseTest}
use Rattle.cfg.specs.declared.flow_edges.Edge.{Edge}
use Rattle.cfg.specs.declared.flow_edges.EdgeKind.{EdgeKind}
use Rattle.cfg.specs.declared.flow_edges.EdgeKind.TheVariants as kind
use Rattle.cfg.specs.declared.machine_instructions.Operation.{Operation}
use Rattle.cfg.specs.declared.programs.Flow.{Flow}
use Rattle.lower_templates.specs.Worklist.Acts.{Step}
use Rattle.lower_templates.specs.Worklist.Pieces.{way}
use Rattle.lower_templates.specs.Worklist.Pieces as ways
use Rattle.memory_model.specs.Effects.Worlds.{World, Stuck, Violation}
use Rattle.lower_templates.specs.Views.ProgramViews.{FlowView, block, flow_view}
use Rattle.semantics.specs.CfgMachine.FlowStates.{ProgramState, FlowRun, running, stopped, found_in}
use Rattle.semantics.specs.CfgMachine.FlowSteps.{flow_steps}
use Rattle.semantics.specs.CfgMachine.FlowStarts.{flow_begin}
use Rattle.transfer_edges.specs.Edges.{has_label}
use Rattle.transfer_system.specs.System.FlowMachines.{head_in, is_head_at}
use Rattle.transfer_sound.specs.Induction.SoundEnds.{IsDoneIn}
use Rattle.diagnose.specs.Diagnostics.AdmittedRules.{instructions_of}
use Rattle.run_exact.proofs.UnrolledSound.{found_same}
use Rattle.run_exact.specs.Runs.SingleRuns.{IsPlainOperation, IsTypedStep, SwitchesAreApart, HasTypedAccesses, EntersNoHead, IsSingleProgram, IsSingleRun, IsNeverStuckAlone}
use Rattle.loop_unrolling.specs.Turns.{copies, last_copy, number_in, split}
use Rattle.analysis_determined.specs.UnrolledRuns.SameRuns.{in_copy, IsCopied, SameRun}
use Rattle.analysis_determined.proofs.unrolled_runs.CopiedLists.{placed}
use Rattle.analysis_determined.proofs.unrolled_runs.LinkedPrograms.{linked}
use Rattle.analysis_determined.proofs.unrolled_runs.SameSteps.{runs_same}
use Rattle.analysis_determined.proofs.unrolled_diagnostics.UnrolledPrograms.{same_parts, block_count, head_there, edge_size}
use Rattle.unit_exact.specs.Unrolled.UnrolledLoops.{TakesTurns, IsSingleUpTo}
use Rattle.unit_exact.proofs.unrolled.AlikeOperations.{alike}
use Rattle.unit_exact.proofs.unrolled.TypedCopies.{plain_too, step_too}
use Rattle.unit_exact.proofs.unrolled.OwnParts.{past, one_copy, one_place, many, own_instruction, an_instruction, headless_before, OwnEdge, own_edge}

-- ---- kinds of edges by their views

case_of : (k : EdgeKind) (a : CaseTest) → way k ≡ ways.Case a → k ≡ kind.Case a
case_of (kind.Case b) a e = ap kind.Case (same b a e)
  where
    same : (b a : CaseTest) → ways.Case b ≡ ways.Case a → b ≡ a
    same b a e = cc
case_of kind.Jump a e = absurd (cc)
case_of (kind.When truth test puts) a e = absurd (cc)
case_of (kind.Other values) a e = absurd (cc)
case_of kind.NoLine a e = absurd (cc)
case_of kind.Line a e = absurd (cc)

record IsOtherOf (k : EdgeKind) (labels : List ℤ) : Type 0 where
  values : Vec ℤ
  is : k ≡ kind.Other values
  items : values.items ≡ labels

other_of : (k : EdgeKind) (labels : List ℤ) → way k ≡ ways.Other labels → IsOtherOf k labels
other_of (kind.Other values) labels e = record { values = values; is = refl; items = same values.items labels e }
  where
    same : (a b : List ℤ) → ways.Other a ≡ ways.Other b → a ≡ b
    same a b e = cc
other_of kind.Jump labels e = absurd (cc)
other_of (kind.When truth test puts) labels e = absurd (cc)
other_of (kind.Case test) labels e = absurd (cc)
other_of kind.NoLine labels e = absurd (cc)
other_of kind.Line labels e = absurd (cc)

-- ---- runs

record OwnRun (turns : ℕ) (f : FlowView) (s : ProgramState) (found : List Violation) (r : FlowRun) : Type 0 where
  own : ProgramState
  is : r ≡ running own found
  copied : IsCopied turns f own s

own_run : (turns : ℕ) (f : FlowView) (r q : FlowRun) (s : ProgramState) (found : List Violation) → SameRun turns f r q → q ≡ running s found → OwnRun turns f s found r
own_run turns f (running own more) (running t other) s found m e = record {
  own = own;
  is = ap (running own) (sym m.1 ∙ same_found t s other found e);
  copied = subst (IsCopied turns f own) (same_standing t s other found e) m.0;
}
  where
    same_standing : (t s : ProgramState) (other found : List Violation) → running t other ≡ running s found → t ≡ s
    same_standing t s other found e = cc

    same_found : (t s : ProgramState) (other found : List Violation) → running t other ≡ running s found → other ≡ found
    same_found t s other found e = cc
own_run turns f (running own more) (stopped why w other) s found m e = absurd m
own_run turns f (stopped why w more) (running t other) s found m e = absurd m
own_run turns f (stopped why w more) (stopped reason v other) s found m e = absurd (cc)

record OwnEnd (r : FlowRun) : Type 0 where
  world : World
  found : List Violation
  is : r ≡ stopped Stuck world found

own_end : (turns : ℕ) (f : FlowView) (r q : FlowRun) (w : World) (found : List Violation) → SameRun turns f r q → q ≡ stopped Stuck w found → OwnEnd r
own_end turns f (running own more) (running t other) w found m e = absurd (cc)
own_end turns f (running own more) (stopped why v other) w found m e = absurd m
own_end turns f (stopped why v more) (running t other) w found m e = absurd m
own_end turns f (stopped why v more) (stopped reason x other) w found m e = record { world = v; found = more; is = ap (λ z. stopped z v more) (sym m.0 ∙ same reason e) }
  where
    same : (reason : _) → stopped reason x other ≡ stopped Stuck w found → reason ≡ Stuck
    same reason e = cc

module _ (turns : ℕ) (limits : Limits) (f g : Flow) (good : is_well_formed limits f ≡ true) (h : flow_view g ≡ split turns (flow_view f)) where
  abbrev whole : ℕ
  whole = many turns f g h

  -- ---- what the program alone says

  pub parameters_too : f.parameters.items ≡ [] → g.parameters.items ≡ []
  parameters_too e = ap (λ (v : FlowView). v.parameters) h ∙ e

  calls_too : ((o : Operation) → IsDoneIn f o → IsPlainOperation o) → (o : Operation) → IsDoneIn g o → IsPlainOperation o
  calls_too calls o d =
      let x = an_instruction turns f g h d.block d.at d.instruction d.is in
      let own = x.here.own in
      let e : own.operation ≡ own.operation = refl in
      let p = calls own.operation (record { block = x.block; at = x.at; instruction = own; is = x.here.there; does = e }) in
      subst IsPlainOperation d.does (alike IsPlainOperation (λ to name a b newest size q. q) own.operation d.instruction.operation (ap (λ (s : Step). s.does) x.here.alike) p)

  headless_too : ((b : ℕ) → is_head_at f.blocks.items b ≡ false) → (b : ℕ) → is_head_at g.blocks.items b ≡ false
  headless_too none b = elim (cases_lt b (copies turns * whole)) [
    | inl less ↦ (let p = placed whole (copies turns) b less in ap (is_head_at g.blocks.items) p.is ∙ not_head (is_head_at g.blocks.items (number_in whole p.copy p.place)) (λ e. true≢false (sym (head_there turns f g h p.copy p.place p.in_copies p.in_copy e) ∙ none p.place)))
    | inr more ↦ (let c = block_count turns f g h in ap head_in (past g.blocks.items b (omega arith)))
  ]
    where
      not_head : (x : Bool) → (x ≡ true → ⊥) → x ≡ false
      not_head true n = absurd (n refl)
      not_head false n = refl

  -- ---- switches

  same_copy : (j k : ℕ) (d e : Edge) → d.from ≡ e.from → (x : OwnEdge turns f g h j d) (y : OwnEdge turns f g h k e) → x.copy ≡ y.copy
  same_copy j k d e from x y = one_copy whole x.copy y.copy x.own.from y.own.from x.below y.below (sym x.from ∙ (from ∙ y.from))

  same_source : (j k : ℕ) (d e : Edge) → d.from ≡ e.from → (x : OwnEdge turns f g h j d) (y : OwnEdge turns f g h k e) → x.own.from ≡ y.own.from
  same_source j k d e from x y = one_place whole x.copy y.copy x.own.from y.own.from x.below y.below (sym x.from ∙ (from ∙ y.from))

  pub apart_too : SwitchesAreApart f → SwitchesAreApart g
  apart_too s = record {
    cases = λ j k d e a b at_j at_k from ne x y same.
        let m = own_edge turns f g h limits good j d at_j in
        let n = own_edge turns f g h limits good k e at_k in
        let numbers : n.place ≡ m.place → ⊥ = λ q. ne (n.number ∙ (ap (number_in (edge_size turns f g h) n.copy) q ∙ (ap (λ z. number_in (edge_size turns f g h) z m.place) (sym (same_copy j k d e from m n)) ∙ sym m.number))) in
        s.cases m.place n.place m.own n.own a b m.there n.there (same_source j k d e from m n) numbers
        (case_of m.own.kind a (sym m.taken ∙ ap way x)) (case_of n.own.kind b (sym n.taken ∙ ap way y)) same;
    others = λ j k d e a values at_j at_k from x y.
        let m = own_edge turns f g h limits good j d at_j in
        let n = own_edge turns f g h limits good k e at_k in
        let o = other_of n.own.kind values.items (sym n.taken ∙ ap way y) in
        ap (λ z. has_label z a.value) (sym o.items)
        ∙ s.others m.place n.place m.own n.own a o.values m.there n.there (same_source j k d e from m n) (case_of m.own.kind a (sym m.taken ∙ ap way x)) o.is;
  }

  -- ---- what the run says

  module _ (u : UnitView) where
    abbrev before : ℕ → FlowRun
    before count = flow_steps (flow_view f) count (flow_begin u (flow_view f) [])

    abbrev behind : ℕ → FlowRun
    behind count = flow_steps (split turns (flow_view f)) count (flow_begin u (split turns (flow_view f)) [])

    turned_is : (count : ℕ) → behind count ≡ flow_steps (flow_view g) count (flow_begin u (flow_view g) [])
    turned_is count = ap (λ v. flow_steps v count (flow_begin u v [])) (sym h)

    same_run : (count : ℕ) → SameRun turns (flow_view f) (before count) (behind count)
    same_run count = runs_same turns (flow_view f) (linked limits f good) u [] count

    pub same_found : (count : ℕ) → found_in (before count) ≡ found_in (flow_steps (flow_view g) count (flow_begin u (flow_view g) []))
    same_found count = found_same turns (flow_view f) (before count) (behind count) (same_run count) ∙ ap found_in (turned_is count)

    pub never_stuck_too : IsNeverStuckAlone f u → IsNeverStuckAlone g u
    never_stuck_too never count w found e =
        let o = own_end turns (flow_view f) (before count) (behind count) w found (same_run count) (turned_is count ∙ e) in
        never count o.world o.found o.is

    accesses_too : HasTypedAccesses f u → HasTypedAccesses g u
    accesses_too typed count s found i e there =
        let o = own_run turns (flow_view f) (before count) (behind count) s found (same_run count) (turned_is count ∙ e) in
        let c = o.copied in
        let at_is : s.at ≡ o.own.at = ap (λ (z : ProgramState). z.at) c.place in
        let block_is : s.block ≡ number_in whole c.copy o.own.block = ap (λ (z : ProgramState). z.block) c.place in
        let temps : o.own.temps ≡ s.temps = sym (ap (λ (z : ProgramState). z.temps) c.place) in
        let bases : o.own.bases ≡ s.bases = sym (ap (λ (z : ProgramState). z.bases) c.place) in
        let x = own_instruction turns f g h c.copy o.own.block o.own.at i c.among c.block (ap (slice_get (instructions_of g (number_in whole c.copy o.own.block))) (sym at_is) ∙ (ap (λ z. slice_get (instructions_of g z) s.at) (sym block_is) ∙ there)) in
        let own = typed count o.own found x.own o.is x.there in
        alike (λ p. IsTypedStep g p s) (λ to name a b newest size q. q) x.own.operation i.operation (ap (λ (z : Step). z.does) x.alike) (step_too f g (same_parts turns f g h) o.own s x.own.operation temps bases own)

    pub single_too : IsSingleProgram f u → IsSingleProgram g u
    single_too single = record {
      plain = plain_too f g (same_parts turns f g h) single.plain;
      parameters = parameters_too single.parameters;
      calls = calls_too single.calls;
      headless = headless_too single.headless;
      steps = accesses_too single.steps;
    }

    -- where the run stays out of the last copy it enters no head
    enters_none : TakesTurns turns f u → EntersNoHead g u
    enters_none takes count s found e =
        let less = takes count s found (turned_is count ∙ e) in
        let long : whole ≡ length f.blocks.items = length-map f.blocks.items block in
        let same : last_copy turns * whole ≡ last_copy turns * length f.blocks.items = ap (λ z. last_copy turns * z) long in
        let p = placed whole (last_copy turns) s.block (omega arith) in
        ap (is_head_at g.blocks.items) p.is ∙ headless_before turns f g h p.copy p.place p.in_copies p.in_copy

    pub single_run : IsSingleUpTo turns f u → IsSingleRun g u
    single_run single = record {
      plain = plain_too f g (same_parts turns f g h) single.plain;
      parameters = parameters_too single.parameters;
      calls = calls_too single.calls;
      headless = enters_none single.takes;
      steps = accesses_too single.steps;
    }
