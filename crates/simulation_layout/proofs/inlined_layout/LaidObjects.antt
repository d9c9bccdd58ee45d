-- An instruction of a copy does in the program what it does in the template.
use Rattle.std.proofs.Common.{◌≡◌, ℕ, suc, ◌+◌, List, ◌++◌, length, Option, Some, None, slice_get, ap, sym, subst, ◌∙◌}
use Rattle.cc_base.specs.declared.diagnostics.Place.{Place}
use Rattle.c_layout.specs.CheckedUnits.{FunctionView}
use Rattle.c_layout.specs.declared.checked_tree.checked_terms.ObjectRef.TheVariants as object
use Rattle.c_layout.specs.declared.shapes.BaseInfo.{BaseInfo}
use Rattle.lower_functions.specs.Functions.Functions.{local_type}
use Rattle.lower_templates.specs.Worklist.Acts as act
use Rattle.lower_templates.specs.Worklist.Acts.{Act}
use Rattle.lower_templates.specs.Worklist.Pieces.{NameView, Local, Outcome, Static, Literal, Allocation, PieceView}
use Rattle.memory_model.specs.Memory.Bytes.{into}
use Rattle.memory_model.specs.Memory.Scalars.{Scalar, pointer}
use Rattle.memory_model.specs.Effects.NumberedTables.{set_at, put_at, clear_at}
use Rattle.memory_model.specs.Effects.ObjectEffects.{next_instance, entered, left}
use Rattle.memory_model.specs.Effects.UnitStarts.{literal_instance}
use Rattle.memory_model.specs.Effects.Worlds.{World, Why, Reply, goes, stops, behind, Violation}
use Rattle.lower_templates.specs.Views.ProgramViews.{FlowView}
use Rattle.semantics.specs.CfgMachine.FlowStates as flow
use Rattle.semantics.specs.CfgMachine.FlowStates.{size_in, base_size}
use Rattle.semantics.specs.CfgMachine.FlowActs as flow_acts
use Rattle.semantics.specs.CfgMachine.FlowSteps as flow_runs
use Rattle.semantics.specs.CfgMachine.FlowSteps.{act_step}
use Rattle.semantics.specs.SourceMachine.Items.{Change, Forget, Clear, Spell}
use Rattle.semantics.specs.SourceMachine.Operations.{size_of, leaves}
use Rattle.semantics.specs.SourceMachine.ObjectSteps as source
use Rattle.semantics.specs.SourceMachine.SourceRuns.{violations}
use Rattle.semantics.specs.SourceMachine.SourceStates as states
use Rattle.semantics.specs.SourceMachine.SourceStates.{State, function_at, result_object, static_type}
use Rattle.semantics.specs.TemplateMachine.TemplateStates as template
use Rattle.semantics.specs.TemplateMachine.TemplateStates.{Frame, TemplateState, if_some, scene, outcome_of}
use Rattle.semantics.specs.TemplateMachine.TemplateActs as template_acts
use Rattle.semantics.specs.TemplateMachine.TemplateActs.{pointed, addressed, from_flow, from_scene, perform}
use Rattle.semantics.specs.TemplateMachine.TemplateSteps as template_runs
use Rattle.simulation_layout.specs.InlinedLayout.Shifts.{named_base, shifted}
use Rattle.simulation_layout.specs.InlinedLayout.Copies.{Inlined, Copy, IsThere, IsObject, IsLiteral, StandsForIt, name_of, IsOwnBase, IsResult}
use Rattle.simulation_layout.specs.InlinedLayout.Layouts.{Laid, IsAtStart, PointsWell}
use Rattle.simulation_layout.specs.InlinedLayout.LaidRuns.{templates, of_unit}
use Rattle.simulation_layout.proofs.inlined_layout.ShiftedValues as values
use Rattle.simulation_layout.proofs.inlined_layout.ShiftedValues.{Held, Keeps, held_put, keeps_put, keeps_all, same_value}
use Rattle.simulation_layout.proofs.inlined_layout.Standings.{Around, Both, both_run, both_stopped, stuck, related, std, prog, keep_same, waits_on, named_set, keep_set, tables_set}

module _ (o : Inlined) (are_objects : (n b : ℕ) → o.objects n ≡ Some b → IsObject o n b) (are_literals : (n b : ℕ) → o.literals n ≡ Some b → IsLiteral o n b) where
  abbrev pub program : FlowView
  program = of_unit o.unit o.program

  module _ (c : Copy) (around : List Copy) (rest : List PieceView) (temps : ℕ → Option Scalar) (names : ℕ → Option ℕ) (frames : List Frame) (block at end last : ℕ) (all : ℕ → Option Scalar) (bases : ℕ → Option ℕ) (next : Laid o c around rest block (suc at) end last) (is : Around o c around temps names frames all bases end last)
      (w : World) (found also : List Violation) (equal : found ≡ also) (place : Place) where
    abbrev pub Ran : Reply TemplateState → Reply flow.ProgramState → Type 0
    Ran x y = Both o (template_runs.run_by found (Some place) x) (flow_runs.run_by also place y)

    abbrev pub here : TemplateState
    here = std o c.function rest temps names frames w

    abbrev pub there : flow.ProgramState
    there = prog o block at all bases w

    more : (v : World) → found ++ violations (Some place) v ≡ also ++ violations (Some place) v
    more v = ap (λ vs. vs ++ violations (Some place) v) equal

    pub went : (ts : ℕ → Option Scalar) (ns : ℕ → Option ℕ) (new : ℕ → Option Scalar) (others : ℕ → Option ℕ) (v : World) → Around o c around ts ns frames new others end last → Ran (goes (std o c.function rest ts ns frames v) v) (goes (prog o block (suc at) new others v) v)
    went ts ns new others v a = both_run _ _ _ _ (related c around rest ts ns frames block (suc at) end last new others v.memory v.draws v.violated v.violated next a) (more v)

    pub halted : (why : Why) (v : World) → Ran (stops why v) (stops why v)
    halted why v = both_stopped why v v.violated _ _ (more v)

    -- ---- values

    with_temps : (ts new : ℕ → Option Scalar) → Held c.depth ts new → Keeps c.depth all new → Around o c around ts names frames new bases end last
    with_temps ts new held keeps = record {
      whole = is.whole;
      is_copy = is.is_copy;
      apart = is.apart;
      held = held;
      named = is.named;
      waits = waits_on o all new bases bases c around end last frames keeps (keep_same o bases around) is.waits;
      tables = is.tables;
    }

    valued : (x y : Reply flow.ProgramState) → values.Alike c.depth there x y → Ran (behind x (from_flow here)) y
    valued _ _ (values.both_go x new v held keeps) = went x.temps names new bases v (with_temps x.temps new held keeps)
    valued _ _ (values.both_stop why v) = halted why v
    valued _ _ (values.stuck v y) = stuck _ _ _

    -- ---- pointers

    -- the program points to the base
    pointed_there : (to offset b i size : ℕ) → bases b ≡ Some i → base_size program b ≡ size
        → Ran (goes (std o c.function rest (put_at temps to (pointer (into i offset 0 size))) names frames w) w) (act_step program (act.Address (to + c.depth) b offset) there)
    pointed_there to offset b i size named sized =
        let p = pointer (into i offset 0 size) in
        let ends = went (put_at temps to p) names (put_at all (to + c.depth) p) bases w (with_temps _ _ (held_put c.depth to p temps all is.held) (keeps_put c.depth to p all all (keeps_all c.depth all))) in
        subst (λ x. Ran (goes (std o c.function rest (put_at temps to p) names frames w) w) (flow.if_some there x (λ i. flow_acts.giving there (to + c.depth) (goes (pointer (into i offset 0 (base_size program b))) w)))) (sym named)
        (subst (λ k. Ran (goes (std o c.function rest (put_at temps to p) names frames w) w) (flow_acts.giving there (to + c.depth) (goes (pointer (into i offset 0 k)) w))) (sym sized) ends)

    sized : (b : ℕ) (info : BaseInfo) (size : ℕ) → IsThere o b info → info.size ≡ size → base_size program b ≡ size
    sized b info size is_there e = ap size_in is_there ∙ e

    pointed_local : (to offset b slot : ℕ) → c.locals slot ≡ Some b → Ran (behind (source.point_to o.unit (scene here) (object.Local slot) offset) (pointed here to)) (act_step program (act.Address (to + c.depth) b offset) there)
    pointed_local to offset b slot local =
        let x = is.is_copy.are_locals slot b local in
        subst (λ f. Ran (behind (states.if_some (scene here) (states.local_of f slot) (λ t. states.if_some (scene here) (names slot) (λ i. source.on (states.pushed (pointer (into i offset 0 (size_of o.unit t))) (scene here))))) (pointed here to)) (act_step program (act.Address (to + c.depth) b offset) there)) (sym x.stands)
        (by (names slot) (is.named slot b local))
      where
        by : (i : Option ℕ) → bases b ≡ i → Ran (behind (states.if_some (scene here) i (λ i. source.on (states.pushed (pointer (into i offset 0 (size_of o.unit (local_type (is.is_copy.are_locals slot b local).function slot)))) (scene here)))) (pointed here to)) (act_step program (act.Address (to + c.depth) b offset) there)
        by None e = stuck _ _ _
        by (Some i) e = let x = is.is_copy.are_locals slot b local in pointed_there to offset b i _ e (sized b x.info _ x.there x.size)

    pointed_result : (to offset b : ℕ) (f : Option FunctionView) → IsResult c f b → Ran (if_some here (template.as_local (outcome_of f)) (λ n. behind (source.point_to o.unit (scene here) n offset) (pointed here to))) (act_step program (act.Address (to + c.depth) b offset) there)
    pointed_result to offset b None local = stuck _ _ _
    pointed_result to offset b (Some f) local = pointed_local to offset b (result_object f) local

    pointed_object : (to offset b n : ℕ) → o.objects n ≡ Some b → Ran (behind (source.point_to o.unit (scene here) (object.Static n) offset) (pointed here to)) (act_step program (act.Address (to + c.depth) b offset) there)
    pointed_object to offset b n shared =
        let x = are_objects n b shared in
        subst (λ s. Ran (behind (states.if_some (scene here) (static_type s) (λ t. source.on (states.pushed (pointer (into n offset 0 (size_of o.unit t))) (scene here)))) (pointed here to)) (act_step program (act.Address (to + c.depth) b offset) there)) (sym x.stands)
        (pointed_there to offset b n _ (is.tables.objects n b shared) (sized b x.info _ x.there x.size))

    pointed_literal : (to offset b n : ℕ) → offset ≡ 0 → o.literals n ≡ Some b → Ran (behind (source.point_to_literal o.unit (scene here) n) (pointed here to)) (act_step program (act.Address (to + c.depth) b offset) there)
    pointed_literal to offset b n start shared =
        let x = are_literals n b shared in
        subst (λ s. Ran (behind (states.if_some (scene here) s (λ l. source.on (states.pushed (source.literal_pointer o.unit n l) (scene here)))) (pointed here to)) (act_step program (act.Address (to + c.depth) b offset) there)) (sym x.stands)
        (subst (λ k. Ran (goes (std o c.function rest (put_at temps to (pointer (into (literal_instance o.unit n) 0 0 (length x.literal.bytes + 1)))) names frames w) w) (act_step program (act.Address (to + c.depth) b k) there)) (sym start)
        (pointed_there to 0 b (literal_instance o.unit n) _ (is.tables.literals n b shared) (sized b x.info _ x.there x.size)))

    pointed_to : (to offset b : ℕ) (name : Option NameView) → StandsForIt o c name b → IsAtStart name offset → Ran (if_some here name (addressed (templates o) here to offset)) (act_step program (act.Address (to + c.depth) b offset) there)
    pointed_to to offset b None stands start = stuck _ _ _
    pointed_to to offset b (Some (Local n)) stands start = pointed_local to offset b n stands
    pointed_to to offset b (Some Outcome) stands start = pointed_result to offset b (function_at o.unit c.function) stands
    pointed_to to offset b (Some (Static n)) stands start = pointed_object to offset b n stands
    pointed_to to offset b (Some (Literal n)) stands start = pointed_literal to offset b n start stands
    pointed_to to offset b (Some (Allocation target)) stands start = stuck _ _ _

    -- ---- lifetimes

    with_objects : (slot b : ℕ) (x : Option ℕ) → c.locals slot ≡ Some b → Around o c around temps (set_at names slot x) frames all (set_at bases b x) end last
    with_objects slot b x local = record {
      whole = is.whole;
      is_copy = is.is_copy;
      apart = is.apart;
      held = is.held;
      named = named_set o are_objects are_literals c around is.is_copy is.apart slot b local bases names x is.named;
      waits = waits_on o all all bases (set_at bases b x) c around end last frames (keeps_all c.depth all) (keep_set o are_objects are_literals c around is.is_copy is.apart slot b local bases names x) is.waits;
      tables = tables_set o are_objects are_literals c around is.is_copy is.apart slot b local bases names x is.tables;
    }

    -- what is done to a local object by its name
    abbrev OnLocal : (b : ℕ) → (ℕ → Reply State) → Reply flow.ProgramState → Type 0
    OnLocal b effect y = (slot : ℕ) → c.locals slot ≡ Some b → Ran (behind (effect slot) (from_scene here)) y

    on_name : (b : ℕ) (effect : ℕ → Reply State) (y : Reply flow.ProgramState) → OnLocal b effect y → (name : Option NameView) → StandsForIt o c name b → Ran (if_some here name (λ x. if_some here (template.local_of (templates o) here x) (λ n. behind (effect n) (from_scene here)))) y
    on_name b effect y does (Some (Local n)) stands = does n stands
    on_name b effect y does (Some Outcome) stands = by (function_at o.unit c.function) stands
      where
        by : (f : Option FunctionView) → IsResult c f b → Ran (if_some here (outcome_of f) (λ n. behind (effect n) (from_scene here))) y
        by None stands = stuck _ _ _
        by (Some f) stands = does (result_object f) stands
    on_name b effect y does other stands = stuck _ _ _

    entered_there : (b slot : ℕ) → c.locals slot ≡ Some b → Ran (behind (source.enter o.unit (scene here) slot) (from_scene here)) (act_step program (act.Enter b) there)
    entered_there b slot local = subst (λ i. Ran (behind (source.enter o.unit (scene here) slot) (from_scene here)) (flow_acts.entering program there b i)) (sym (is.named slot b local)) (by (names slot))
      where
        by : (i : Option ℕ) → Ran (behind (source.enter_if o.unit (scene here) slot i) (from_scene here)) (flow_acts.entering program there b i)
        by (Some i) = stuck _ _ _
        by None =
            let x = is.is_copy.are_locals slot b local in
            let v = entered o.unit.model (leaves o.unit (local_type x.function slot)) (size_of o.unit (local_type x.function slot)) w in
            subst (λ f. Ran (behind (states.if_some (scene here) f (λ f. source.on (source.enter_fresh o.unit (scene here) slot f))) (from_scene here)) (flow_acts.enter program there b (slice_get o.program.bases b))) (sym x.stands)
            (subst (λ info. Ran (goes (std o c.function rest temps (put_at names slot (next_instance w)) frames v) v) (flow_acts.enter program there b info)) (sym x.there)
            (subst (λ cells. Ran (goes (std o c.function rest temps (put_at names slot (next_instance w)) frames v) v) (flow_acts.making (prog o block at all (put_at bases b (next_instance w)) w) (entered o.unit.model cells x.info.size w))) (sym x.cells)
            (subst (λ size. Ran (goes (std o c.function rest temps (put_at names slot (next_instance w)) frames v) v) (flow_acts.making (prog o block at all (put_at bases b (next_instance w)) w) (entered o.unit.model (leaves o.unit (local_type x.function slot)) size w))) (sym x.size)
            (went temps (put_at names slot (next_instance w)) all (put_at bases b (next_instance w)) v (with_objects slot b (Some (next_instance w)) local)))))

    left_there : (b slot : ℕ) → c.locals slot ≡ Some b → Ran (behind (source.leave (scene here) slot) (from_scene here)) (act_step program (act.Leave b) there)
    left_there b slot local = subst (λ i. Ran (behind (source.leave (scene here) slot) (from_scene here)) (flow.if_some there i (λ i. flow_acts.making (prog o block at all (clear_at bases b) w) (left i w)))) (sym (is.named slot b local)) (by (names slot))
      where
        by : (i : Option ℕ) → Ran (behind (states.if_some (scene here) i (λ i. source.on (record (scene here) { names = clear_at names slot; world = left i w }))) (from_scene here)) (flow.if_some there i (λ i. flow_acts.making (prog o block at all (clear_at bases b) w) (left i w)))
        by None = stuck _ _ _
        by (Some i) = went temps (clear_at names slot) all (clear_at bases b) (left i w) (with_objects slot b None local)

    changed_there : (b slot : ℕ) (how : Change) → c.locals slot ≡ Some b → Ran (behind (source.change (scene here) slot how) (from_scene here)) (flow_acts.changing there b (source.changed how))
    changed_there b slot how local = subst (λ i. Ran (behind (source.change (scene here) slot how) (from_scene here)) (flow.if_some there i (λ i. flow_acts.making there (source.changed how i w)))) (sym (is.named slot b local)) (by (names slot))
      where
        by : (i : Option ℕ) → Ran (behind (states.if_some (scene here) i (λ i. source.on (states.with_world (scene here) (source.changed how i w)))) (from_scene here)) (flow.if_some there i (λ i. flow_acts.making there (source.changed how i w)))
        by None = stuck _ _ _
        by (Some i) = went temps names all bases (source.changed how i w) is

    -- ---- instructions

    abbrev Put : (b : ℕ) → Act → Type 0
    Put b a = Ran (perform (templates o) a here) (act_step program (shifted c.depth b a) there)

    on_value : (b : ℕ) (a : Act) → Ran (behind (flow_acts.perform (template_acts.no_program o.unit) a (template_acts.in_flow here)) (from_flow here)) (act_step program (shifted c.depth b a) there)
    on_value b a = valued _ _ (same_value o.unit o.program c.depth temps all bases block at w is.held b a)

    pub acted : (b : ℕ) (a : Act) → IsOwnBase o c (named_base a) b → PointsWell o c a → Put b a
    acted b (act.Address to base offset) stands start = pointed_to to offset b (name_of o c base) stands start
    acted b (act.Enter base) stands start = on_name b (source.enter o.unit (scene here)) _ (entered_there b) (name_of o c base) stands
    acted b (act.Leave base) stands start = on_name b (source.leave (scene here)) _ (left_there b) (name_of o c base) stands
    acted b (act.Forget base) stands start = on_name b (λ n. source.change (scene here) n Forget) _ (λ slot local. changed_there b slot Forget local) (name_of o c base) stands
    acted b (act.Clear base) stands start = on_name b (λ n. source.change (scene here) n Clear) _ (λ slot local. changed_there b slot Clear local) (name_of o c base) stands
    acted b (act.Spell base offset room text) stands start = on_name b (λ n. source.change (scene here) n (Spell offset room text)) _ (λ slot local. changed_there b slot (Spell offset room text) local) (name_of o c base) stands
    acted b a stands start = on_value b a
