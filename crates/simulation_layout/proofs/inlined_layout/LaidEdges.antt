-- The end of a block in a copy leads in the program to where it leads in the template.
use Rattle.std.proofs.Common.{◌≡◌, ℕ, ◌+◌, ℤ, pos, Bool, true, false, cond, List, [], ◌∷◌, ◌++◌, Option, Some, None, slice_get, refl, ap, sym, subst}
use Rattle.std.specs.Option.{option_map}
use Rattle.cc_base.specs.declared.diagnostics.Place.{Place}
use Rattle.cc_base.specs.declared.int_types.IntType.{IntType}
use Rattle.c_layout.specs.Types.{Ty}
use Rattle.c_layout.specs.CheckedUnits.{FunctionView, UnitView}
use Rattle.c_layout.specs.declared.checked_tree.checked_terms.ObjectRef.{ObjectRef}
use Rattle.c_layout.specs.declared.checked_tree.checked_terms.ObjectRef.TheVariants as object
use Rattle.c_layout.specs.declared.data_model.Model.{Model}
use Rattle.cfg.specs.declared.flow_edges.Side.{Side}
use Rattle.cfg.specs.declared.flow_edges.Test.{Test}
use Rattle.lower_functions.specs.Functions.Functions.{local_type}
use Rattle.lower_templates.specs.Worklist.Acts as act
use Rattle.lower_templates.specs.Worklist.Acts.{Act}
use Rattle.lower_templates.specs.Worklist.Pieces.{NameView, Local, Outcome, Static, Literal, Allocation, Way, ExitView, PieceView}
use Rattle.lower_templates.specs.Worklist.TermKinds.{integer_type}
use Rattle.memory_model.specs.Memory.Labels.{no_labels}
use Rattle.memory_model.specs.Memory.Scalars.{Scalar, integer, pointer}
use Rattle.memory_model.specs.Effects.LibraryCalls.{fgets}
use Rattle.memory_model.specs.Effects.NumberedTables.{put_at}
use Rattle.memory_model.specs.Effects.Operands.{with_number}
use Rattle.memory_model.specs.Effects.Tests as tests
use Rattle.memory_model.specs.Effects.Tests.{TestedSide, pass_test, pass_case}
use Rattle.memory_model.specs.Effects.UnitStarts.{literal_instance}
use Rattle.memory_model.specs.Effects.Worlds.{World, Why, Stuck, Ended, Reply, goes, stops, behind, Violation}
use Rattle.lower_templates.specs.Views.ProgramViews.{EdgeView}
use Rattle.semantics.specs.CfgMachine.FlowStates as flow
use Rattle.semantics.specs.CfgMachine.FlowEdges as edges
use Rattle.semantics.specs.CfgMachine.FlowEdges.{is_taken, edge_taken, first_signed}
use Rattle.semantics.specs.CfgMachine.FlowSteps as flow_runs
use Rattle.semantics.specs.CfgMachine.FlowSteps.{act_step}
use Rattle.semantics.specs.SourceMachine.SourceRuns.{violations}
use Rattle.semantics.specs.SourceMachine.SourceStates.{function_at, result_object, static_type, local_of}
use Rattle.semantics.specs.TemplateMachine.TemplateStates as template
use Rattle.semantics.specs.TemplateMachine.TemplateStates.{Frame, TemplateState, if_some, with_instance, scene, outcome_of, as_local, instance_named, instance_if}
use Rattle.semantics.specs.TemplateMachine.TemplateExits as exits
use Rattle.semantics.specs.TemplateMachine.TemplateExits.{behind_mark, at_label, exit_taken, on_exit, line_read, end_block}
use Rattle.semantics.specs.TemplateMachine.TemplateSteps as template_runs
use Rattle.simulation_layout.specs.InlinedLayout.Shifts as shifts
use Rattle.simulation_layout.specs.InlinedLayout.Shifts.{put_shifted, shifted}
use Rattle.simulation_layout.specs.InlinedLayout.Copies.{Inlined, Copy, IsObject, IsLiteral, StandsForIt, name_of, IsResult, type_named, type_if, result_type, IsSwitched}
use Rattle.simulation_layout.specs.InlinedLayout.Layouts as layouts
use Rattle.simulation_layout.specs.InlinedLayout.Layouts.{IsSide, IsTest, IsCaseObject, IsWay, AreLed, edges_at}
use Rattle.simulation_layout.specs.InlinedLayout.LaidRuns.{templates}
use Rattle.simulation_layout.proofs.inlined_layout.ShiftedValues.{Held, Keeps, held_put, keeps_put, keeps_all, same_values}
use Rattle.simulation_layout.proofs.inlined_layout.Standings.{Around, Both, both_run, both_stopped, stuck, related, std, prog, keep_same, waits_on, laid_behind}
use Rattle.simulation_layout.proofs.inlined_layout.LaidObjects.{program}

-- the rank of a type does not tell which case label is met
without_rank : (m : Model) (i : ℕ) (k : IntType) (value : ℤ) (w : World) → pass_case m i k value w ≡ pass_case m i (record { bytes = k.bytes; signed = k.signed; rank = 0 }) value w
without_rank m i k value w = refl

-- the type of an object, in a function
abbrev type_by : UnitView → Option FunctionView → ObjectRef → Option Ty
type_by u f (object.Static n) = static_type (slice_get u.objects n)
type_by u f (object.Local n) = local_of f n

module _ (o : Inlined) (are_objects : (n b : ℕ) → o.objects n ≡ Some b → IsObject o n b) (are_literals : (n b : ℕ) → o.literals n ≡ Some b → IsLiteral o n b) (c : Copy) where
  -- ---- the edge that is taken

  same_taken : (v : Scalar) (a b : Way) → IsWay o c a b → is_taken v a ≡ is_taken v b
  same_taken v _ _ layouts.always = refl
  same_taken v _ _ (layouts.when truth test moved puts is) = refl
  same_taken v _ _ (layouts.in_case value object moved is) = refl
  same_taken v _ _ (layouts.otherwise values) = refl
  same_taken v _ _ layouts.no_line = refl
  same_taken v _ _ layouts.line = refl

  data Taken : Option ExitView → Option EdgeView → Type 0 where
    none : Taken None None
    some : (e : ExitView) (from : ℕ) (taken : Way) → IsWay o c e.taken taken → Taken (Some e) (Some (record { from = from; to = c.labels e.to; taken = taken }))

  taken_alike : (v : Scalar) (es : List ExitView) (xs : List EdgeView) → AreLed o c es xs → Taken (exit_taken v es) (edge_taken v xs)
  taken_alike v _ _ layouts.none = none
  taken_alike v _ _ (layouts.one e from taken es xs is led) = subst (λ b. Taken (cond (is_taken v e.taken) (Some e) (exit_taken v es)) (cond b (Some (record { from = from; to = c.labels e.to; taken = taken })) (edge_taken v xs))) (same_taken v e.taken taken is) (by (is_taken v e.taken) (taken_alike v es xs led))
    where
      by : (b : Bool) → Taken (exit_taken v es) (edge_taken v xs) → Taken (cond b (Some e) (exit_taken v es)) (cond b (Some (record { from = from; to = c.labels e.to; taken = taken })) (edge_taken v xs))
      by true rest = some e from taken is
      by false rest = rest

  module _ (around : List Copy) (names : ℕ → Option ℕ) (frames : List Frame) (block at end last : ℕ) (bases : ℕ → Option ℕ) (rest : List PieceView) where
    abbrev here : (ℕ → Option Scalar) → World → TemplateState
    here temps w = std o c.function rest temps names frames w

    abbrev there : (ℕ → Option Scalar) → World → flow.ProgramState
    there all w = prog o block at all bases w

    abbrev Stood : (ℕ → Option Scalar) → (ℕ → Option Scalar) → Type 0
    Stood temps all = Around o c around temps names frames all bases end last

    pub with_temps : (temps all ts new : ℕ → Option Scalar) → Stood temps all → Held c.depth ts new → Keeps c.depth all new → Stood ts new
    with_temps temps all ts new is held keeps = record {
      whole = is.whole;
      is_copy = is.is_copy;
      apart = is.apart;
      held = held;
      named = is.named;
      waits = waits_on o all new bases bases c around end last frames keeps (keep_same o bases around) is.waits;
      tables = is.tables;
    }

    -- ---- tests

    -- both pass, or stop alike
    data Passed : Reply TemplateState → Reply flow.ProgramState → Type 0 where
      both_pass : (ts new : ℕ → Option Scalar) (v : World) → Stood ts new → Passed (goes (here ts v) v) (goes (there new v) v)
      both_halt : (why : Why) (v : World) → Passed (stops why v) (stops why v)
      lost : (v : World) (y : Reply flow.ProgramState) → Passed (stops Stuck v) y

    module _ (temps all : ℕ → Option Scalar) (is : Stood temps all) (w : World) where
      passed : (x : Reply (Unit {0})) → Passed (exits.in_world (here temps w) x) (edges.in_world (there all w) x)
      passed (goes t v) = both_pass temps all v is
      passed (stops why v) = both_halt why v

      instance_there : (b : ℕ) (i : Option ℕ) (use_it : ℕ → Reply TemplateState) (use_too : ℕ → Reply flow.ProgramState) → bases b ≡ i → ((j : ℕ) → i ≡ Some j → Passed (use_it j) (use_too j)) → Passed (if_some (here temps w) i use_it) (flow.with_instance (there all w) b use_too)
      instance_there b i use_it use_too e alike = subst (λ x. Passed (if_some (here temps w) i use_it) (flow.if_some (there all w) x use_too)) (sym e) (by i alike)
        where
          by : (i : Option ℕ) → ((j : ℕ) → i ≡ Some j → Passed (use_it j) (use_too j)) → Passed (if_some (here temps w) i use_it) (flow.if_some (there all w) i use_too)
          by None alike = lost _ _
          by (Some j) alike = alike j refl

      -- the instance of a name, and what its base names
      named_instance : (b : ℕ) (name : NameView) (use_it : ℕ → Reply TemplateState) (use_too : ℕ → Reply flow.ProgramState) → StandsForIt o c (Some name) b → ((i : ℕ) → Passed (use_it i) (use_too i)) → Passed (if_some (here temps w) (instance_named (templates o) (here temps w) name) use_it) (flow.with_instance (there all w) b use_too)
      named_instance b (Local n) use_it use_too stands alike = instance_there b (names n) use_it use_too (is.named n b stands) (λ j e. alike j)
      named_instance b Outcome use_it use_too stands alike = by (function_at o.unit c.function) stands
        where
          by : (f : Option FunctionView) → IsResult c f b → Passed (if_some (here temps w) (instance_if (here temps w) (as_local (outcome_of f))) use_it) (flow.with_instance (there all w) b use_too)
          by None stands = lost _ _
          by (Some f) stands = instance_there b (names (result_object f)) use_it use_too (is.named (result_object f) b stands) (λ j e. alike j)
      named_instance b (Static n) use_it use_too stands alike = instance_there b (Some n) use_it use_too (is.tables.objects n b stands) (λ j e. alike j)
      named_instance b (Literal n) use_it use_too stands alike = instance_there b (Some (literal_instance o.unit n)) use_it use_too (is.tables.literals n b stands) (λ j e. alike j)
      named_instance b (Allocation target) use_it use_too stands alike = lost _ _

      instance_alike : (b : ℕ) (name : Option NameView) (use_it : ℕ → Reply TemplateState) (use_too : ℕ → Reply flow.ProgramState) → StandsForIt o c name b → ((i : ℕ) → Passed (use_it i) (use_too i))
          → Passed (if_some (here temps w) name (λ x. if_some (here temps w) (instance_named (templates o) (here temps w) x) use_it)) (flow.with_instance (there all w) b use_too)
      instance_alike b None use_it use_too stands alike = lost _ _
      instance_alike b (Some name) use_it use_too stands alike = named_instance b name use_it use_too stands alike

      side_alike : (x y : Side) (use_it : TestedSide → Reply TemplateState) (use_too : TestedSide → Reply flow.ProgramState) → IsSide o c x y → ((t : TestedSide) → Passed (use_it t) (use_too t)) → Passed (exits.with_side (templates o) (here temps w) x use_it) (edges.with_side (there all w) y use_too)
      side_alike _ _ use_it use_too (layouts.object n b k stands) alike = instance_alike b (name_of o c n) _ _ stands (λ i. alike (tests.object i k))
      side_alike _ _ use_it use_too (layouts.number n) alike = alike (tests.constant n)
      side_alike _ _ use_it use_too layouts.nothing alike = alike tests.nothing

      tested : (x y : Option Test) → IsTest o c x y → Passed (exits.testing (templates o) (here temps w) x) (edges.testing (program o are_objects are_literals) (there all w) y)
      tested _ _ layouts.none = both_pass temps all w is
      tested _ _ (layouts.some t left right is_left is_right) =
          side_alike t.left left _ _ is_left (λ a. side_alike t.right right _ _ is_right (λ b. passed (pass_test o.unit.model (record { left = a; rel = t.rel; right = b; common = t.common }) w)))

      -- ---- cases

      typed : (value : ℤ) (i b : ℕ) (t : Option Ty) → ((ty : Ty) → t ≡ Some ty → IsSwitched o ty b) → bases b ≡ Some i
          → Passed (exits.with_kind (templates o) (here temps w) t (λ kind. exits.in_world (here temps w) (pass_case o.unit.model i kind value w))) (edges.matching (program o are_objects are_literals) (there all w) value (Some b))
      typed value i b None switched e = lost _ _
      typed value i b (Some ty) switched e =
          let x = switched ty refl in
          let y = exits.in_world (here temps w) (pass_case o.unit.model i (integer_type ty) value w) in
          subst (λ info. Passed y (flow.if_some (there all w) info (λ info. flow.with_instance (there all w) b (λ i. edges.in_world (there all w) (pass_case o.unit.model i (edges.integer_in info) value w))))) (sym x.there)
          (subst (λ j. Passed y (flow.if_some (there all w) j (λ i. edges.in_world (there all w) (pass_case o.unit.model i (edges.integer_in x.info) value w)))) (sym e)
          (subst (λ k. Passed y (edges.in_world (there all w) (pass_case o.unit.model i (record { bytes = k; signed = first_signed x.info.shape.cells; rank = 0 }) value w))) (sym x.size)
          (subst (λ k. Passed y (edges.in_world (there all w) (pass_case o.unit.model i (record { bytes = (integer_type ty).bytes; signed = k; rank = 0 }) value w))) (sym x.is_signed)
          (passed (pass_case o.unit.model i (integer_type ty) value w)))))

      abbrev on_object : ℤ → ℕ → NameView → Reply TemplateState
      on_object value i name = exits.typed_object (templates o) (here temps w) name (λ kind. exits.in_world (here temps w) (pass_case o.unit.model i kind value w))

      abbrev Matched : ℤ → ℕ → Reply TemplateState → Type 0
      Matched value b x = Passed x (edges.matching (program o are_objects are_literals) (there all w) value (Some b))

      matched : (value : ℤ) (b : ℕ) (name : NameView) → StandsForIt o c (Some name) b → ((t : Ty) → type_named o c name ≡ Some t → IsSwitched o t b) → Matched value b (if_some (here temps w) (instance_named (templates o) (here temps w) name) (λ i. on_object value i name))
      matched value b (Local n) stands switched = by (names n) (is.named n b stands)
        where
          by : (i : Option ℕ) → bases b ≡ i → Matched value b (if_some (here temps w) i (λ i. on_object value i (Local n)))
          by None e = lost _ _
          by (Some i) e = typed value i b (local_of (function_at o.unit c.function) n) switched e
      matched value b Outcome stands switched = by (function_at o.unit c.function) stands switched
        where
          by_instance : (f : FunctionView) → ((t : Ty) → Some (local_type f (result_object f)) ≡ Some t → IsSwitched o t b) → (i : Option ℕ) → bases b ≡ i
              → Matched value b (if_some (here temps w) i (λ i. exits.with_kind (templates o) (here temps w) (local_of (Some f) (result_object f)) (λ kind. exits.in_world (here temps w) (pass_case o.unit.model i kind value w))))
          by_instance f switched None e = lost _ _
          by_instance f switched (Some i) e = typed value i b (Some (local_type f (result_object f))) switched e

          by : (f : Option FunctionView) → IsResult c f b → ((t : Ty) → result_type f ≡ Some t → IsSwitched o t b)
              → Matched value b (if_some (here temps w) (instance_if (here temps w) (as_local (outcome_of f))) (λ i. if_some (here temps w) (as_local (outcome_of f)) (λ x. exits.with_kind (templates o) (here temps w) (type_by o.unit f x) (λ kind. exits.in_world (here temps w) (pass_case o.unit.model i kind value w)))))
          by None stands switched = lost _ _
          by (Some f) stands switched = by_instance f switched (names (result_object f)) (is.named (result_object f) b stands)
      matched value b (Static n) stands switched = typed value n b (static_type (slice_get o.unit.objects n)) switched (is.tables.objects n b stands)
      matched value b (Literal n) stands switched = lost _ _
      matched value b (Allocation target) stands switched = lost _ _

      matching_alike : (value : ℤ) (x y : Option ℕ) → IsCaseObject o c x y → Passed (exits.matching (templates o) (here temps w) value x) (edges.matching (program o are_objects are_literals) (there all w) value y)
      matching_alike value _ _ layouts.none = both_pass temps all w is
      matching_alike value _ _ (layouts.some n b stands switched) = by (name_of o c n) stands switched
        where
          by : (name : Option NameView) → StandsForIt o c name b → ((t : Ty) → type_if o c name ≡ Some t → IsSwitched o t b)
              → Matched value b (if_some (here temps w) name (λ x. if_some (here temps w) (instance_named (templates o) (here temps w) x) (λ i. if_some (here temps w) name (λ x. on_object value i x))))
          by None stands switched = lost _ _
          by (Some name) stands switched = matched value b name stands switched

    -- ---- ways

    put_alike : (puts : Option (ℕ × ℤ)) (temps all : ℕ → Option Scalar) (is : Stood temps all) (x : Reply TemplateState) (y : Reply flow.ProgramState) → Passed x y → Passed (behind x (λ s w. template.on (exits.with_put puts s))) (behind y (λ s w. goes (edges.with_put (put_shifted c.depth puts) s) w))
    put_alike puts temps all is _ _ (both_halt why v) = both_halt why v
    put_alike puts temps all is _ _ (lost v y) = lost v _
    put_alike None temps all is _ _ (both_pass ts new v stood) = both_pass ts new v stood
    put_alike (Some p) temps all is _ _ (both_pass ts new v stood) =
        let n = integer p.1 no_labels in
        both_pass (put_at ts p.0 n) (put_at new (p.0 + c.depth) n) v (with_temps ts new _ _ stood (held_put c.depth p.0 n ts new stood.held) (keeps_put c.depth p.0 n new new (keeps_all c.depth new)))

    way_alike : (temps all : ℕ → Option Scalar) (is : Stood temps all) (w : World) (x y : Way) → IsWay o c x y → Passed (exits.on_way (templates o) (here temps w) x) (edges.on_way (program o are_objects are_literals) (there all w) y)
    way_alike temps all is w _ _ layouts.always = both_pass temps all w is
    way_alike temps all is w _ _ (layouts.when truth test moved puts held) = put_alike puts temps all is _ _ (tested temps all is w test moved held)
    way_alike temps all is w _ _ (layouts.in_case value x y held) = matching_alike temps all is w value x y held
    way_alike temps all is w _ _ (layouts.otherwise values) = both_pass temps all w is
    way_alike temps all is w _ _ layouts.no_line = both_pass temps all w is
    way_alike temps all is w _ _ layouts.line = both_pass temps all w is

    -- ---- the end of a block

    module _ (found also : List Violation) (equal : found ≡ also) (place : Place) where
      abbrev Ran : Reply TemplateState → Reply flow.ProgramState → Type 0
      Ran x y = Both o (template_runs.run_by found (Some place) x) (flow_runs.run_by also place y)

      more : (v : World) → found ++ violations (Some place) v ≡ also ++ violations (Some place) v
      more v = ap (λ vs. vs ++ violations (Some place) v) equal

      -- behind the label, and in its block
      labelled : (l : ℕ) (ts new : ℕ → Option Scalar) (v : World) → Stood ts new → Ran (at_label (templates o) (here ts v) l) (goes (prog o (c.labels l) 0 new bases v) v)
      labelled l ts new v stood = by (behind_mark l (o.of c.function).pieces) refl
        where
          by : (x : Option (List PieceView)) → behind_mark l (o.of c.function).pieces ≡ x → Ran (if_some (here ts v) x (λ rest. template.on (template.going_on (here ts v) rest))) (goes (prog o (c.labels l) 0 new bases v) v)
          by None e = stuck _ _ _
          by (Some ps) e =
              both_run _ _ _ _
              (related c around ps ts names frames (c.labels l) 0 end last new bases v.memory v.draws v.violated v.violated (laid_behind o l ps c around (o.of c.function).pieces stood.whole.block stood.whole.at end last stood.whole.stands e) stood)
              (more v)

      led : (temps all : ℕ → Option Scalar) (is : Stood temps all) (w : World) (x : Option ExitView) (y : Option EdgeView) → Taken x y → Ran (exits.along (templates o) (here temps w) x) (edges.along (program o are_objects are_literals) (there all w) y)
      led temps all is w _ _ none = stuck _ _ _
      led temps all is w _ _ (some e from taken held) = by _ _ (way_alike temps all is w e.taken taken held)
        where
          by : (x : Reply TemplateState) (y : Reply flow.ProgramState) → Passed x y → Ran (behind x (λ s w. at_label (templates o) s e.to)) (behind y (λ s w. goes (edges.at_block (c.labels e.to) s) w))
          by _ _ (both_pass ts new v stood) = labelled e.to ts new v stood
          by _ _ (both_halt why v) = both_stopped why v v.violated _ _ (more v)
          by _ _ (lost v y) = stuck _ _ _

      module _ (es : List ExitView) (led_to : AreLed o c es (edges_at o block)) where
        left_by : (v : Scalar) (temps all : ℕ → Option Scalar) (is : Stood temps all) (w : World) → Ran (on_exit (templates o) (here temps w) es v) (flow_runs.on_edge (program o are_objects are_literals) (there all w) v)
        left_by v temps all is w = led temps all is w _ _ (taken_alike v es (edges_at o block) led_to)

        with_one : (t : ℕ) (temps all : ℕ → Option Scalar) (is : Stood temps all) (w : World) (use_it : Scalar → Reply TemplateState) (use_too : Scalar → Reply flow.ProgramState) → ((v : Scalar) → Ran (use_it v) (use_too v)) → Ran (template.with_temp (here temps w) t use_it) (flow.with_temp (there all w) (t + c.depth) use_too)
        with_one t temps all is w use_it use_too alike = subst (λ x. Ran (template.with_temp (here temps w) t use_it) (flow.if_some (there all w) x use_too)) (is.held t) (by (temps t))
          where
            by : (x : Option Scalar) → Ran (if_some (here temps w) x use_it) (flow.if_some (there all w) x use_too)
            by None = stuck _ _ _
            by (Some v) = alike v

        switched : (temps all : ℕ → Option Scalar) (is : Stood temps all) (w : World) (v : Scalar) → Ran (with_number v w (λ k labels v_w. on_exit (templates o) (here temps w) es v)) (with_number v w (λ k labels v_w. flow_runs.on_edge (program o are_objects are_literals) (there all w) v))
        switched temps all is w (integer k labels) = left_by (integer k labels) temps all is w
        switched temps all is w (pointer p) = stuck _ _ _

        read : (to : Option ℕ) (temps all : ℕ → Option Scalar) (is : Stood temps all) (w : World) (x : Reply Scalar)
            → Ran (behind x (λ v v_w. on_exit (templates o) (exits.put_if to v (template.with_world (here temps w) v_w)) es v)) (behind x (λ v v_w. flow_runs.on_edge (program o are_objects are_literals) (flow.put_if (there all w) (option_map (shifts.shift c.depth) to) v v_w) v))
        read None temps all is w (goes v v_w) = left_by v temps all is v_w
        read (Some to) temps all is w (goes v v_w) =
            left_by v (put_at temps to v) (put_at all (to + c.depth) v) (with_temps temps all _ _ is (held_put c.depth to v temps all is.held) (keeps_put c.depth to v all all (keeps_all c.depth all))) v_w
        read to temps all is w (stops why v_w) = both_stopped why v_w v_w.violated _ _ (more v_w)

        pub ended : (b : ℕ) (a : Act) (temps all : ℕ → Option Scalar) (is : Stood temps all) (w : World) → Ran (end_block (templates o) a es (here temps w)) (act_step (program o are_objects are_literals) (shifted c.depth b a) (there all w))
        ended b act.Jump temps all is w = left_by (integer (pos 0) no_labels) temps all is w
        ended b (act.Branch t kind) temps all is w = with_one t temps all is w _ _ (λ v. left_by v temps all is w)
        ended b (act.Switch t kind) temps all is w = with_one t temps all is w _ _ (switched temps all is w)
        ended b (act.ReadLine to text count stream) temps all is w =
            subst (λ x. Ran (end_block (templates o) (act.ReadLine to text count stream) es (here temps w)) (flow.if_some (there all w) x (flow_runs.reading_line (program o are_objects are_literals) (option_map (shifts.shift c.depth) to) (there all w))))
            (same_values o.unit o.program c.depth temps all bases block at w is.held (text ∷ (count ∷ (stream ∷ []))))
            (by (flow.values_of temps (text ∷ (count ∷ (stream ∷ [])))))
          where
            by : (x : Option (List Scalar)) → Ran (if_some (here temps w) x (line_read (templates o) es to (here temps w))) (flow.if_some (there all w) x (flow_runs.reading_line (program o are_objects are_literals) (option_map (shifts.shift c.depth) to) (there all w)))
            by None = stuck _ _ _
            by (Some vs) = read to temps all is w (fgets o.unit.model vs w)
        ended b act.Stop temps all is w = both_stopped Ended w w.violated _ _ (more w)
        ended b a temps all is w = stuck _ _ _
