-- Blocks that calls of `fgets` end are sound.
use Rattle.std.proofs.Common.{◌≡◌, ℕ, true, cond, Option, Some, None, List, [], ◌∷◌, length, take, drop, subst, sym, refl, ap, ◌∙◌}
use Rattle.std.specs.Prelude.{slice_get, ℤ, pos, ◌≤ℤ◌}
use Rattle.std.proofs.lemmas.Bool.{and_parts, ltb-true, true≢false}
use Rattle.cc_base.specs.Lattices.{LatticeOf, OrderLaws}
use Rattle.cc_base.specs.IntegerDomains.{IntegersOf, BoundLaws}
use Rattle.cc_base.specs.IntegerTypes.{greatest_of}
use Rattle.cc_base.specs.declared.limit_table.Limits.{Limits}
use Rattle.c_layout.specs.declared.leaf_lists.Class.TheVariants.{Pointer}
use Rattle.cfg.specs.WellFormed.{names_of, On, ByLine, has_result, leads, are_led, fits_operation, is_well_formed}
use Rattle.cfg.specs.declared.flow_edges.Edge.{Edge}
use Rattle.cfg.specs.declared.flow_edges.EdgeKind.{EdgeKind}
use Rattle.cfg.specs.declared.flow_edges.EdgeKind.TheVariants as kind
use Rattle.cfg.specs.declared.machine_instructions.Instruction.{Instruction}
use Rattle.cfg.specs.declared.machine_instructions.Operation.{Operation}
use Rattle.cfg.specs.declared.machine_instructions.Operation.TheVariants as op
use Rattle.cfg.specs.declared.programs.Flow.{Flow}
use Rattle.value_domain.specs.Values.ValueTables.{pointer_value}
use Rattle.value_domain.specs.declared.values.values.Value.{Value}
use Rattle.value_domain.specs.declared.values.row_cells.Cell.{Cell}
use Rattle.store_cells.specs.ScalarTypes.{kind_of}
use Rattle.store_cells.specs.ByteWrites.{null_pointer}
use Rattle.transfer_edges.specs.Edges.{last_instruction, line_call_of, put_null, no_line_edge, line_edge, follow, follow_if, edge}
use Rattle.transfer_edges.specs.Edges as edges
use Rattle.transfer_sound.specs.CallSteps.{planned_line, goes_on, write_line}
use Rattle.transfer_library.specs.StringCalls.{plan_fgets}
use Rattle.transfer_library_plans.specs.declared.call_plans.Plan.{Plan}
use Rattle.transfer_sound.specs.StepViolations.{operation_violations}
use Rattle.transfer_sound.specs.Steps.{operate}
use Rattle.transfer_library.specs.Effects.{put_result, apply}
use Rattle.memory_model.specs.Memory.Labels.{Labels}
use Rattle.memory_model.specs.Memory.Bytes.{MachinePointer, null}
use Rattle.memory_model.specs.Memory.Instances.{Memory, bytes_at}
use Rattle.memory_model.specs.Memory.Scalars.{Scalar, integer, pointer}
use Rattle.memory_model.specs.Effects.LibraryCalls.{fgets}
use Rattle.memory_model.specs.Effects.Worlds.{World, Why, Stuck, Reply, goes, stops, behind, world_of}
use Rattle.lower_templates.specs.Worklist.Pieces.{way}
use Rattle.lower_templates.specs.Views.ProgramViews.{FlowView, EdgeView, flow_view}
use Rattle.lower_templates.specs.Views.ProgramViews as views
use Rattle.semantics.specs.CfgMachine.FlowStates.{ProgramState, values_of, if_some, put_if}
use Rattle.semantics.specs.CfgMachine.FlowEdges.{is_taken, edge_taken, edges_of, at_block, along, on_way}
use Rattle.semantics.specs.CfgMachine.FlowSteps.{block_of, on_edge, reading_line}
use Rattle.store_sound.specs.Concretization.ValueMeaning.{Naming}
use Rattle.store_sound.specs.Concretization.RowMeaning.{InGamma}
use Rattle.store_sound.specs.Programs.Premises.{HasPremises}
use Rattle.store_sound.proofs.programs.ShapedBases.{all_at}
use Rattle.transfer_sound.specs.Values.SoundSteps.{AreShort, IsReached, InGammaAfter}
use Rattle.transfer_sound.proofs.values.Admitted.{AreAdmitted}
use Rattle.transfer_sound.proofs.values.PutTemps.{IsResult, put_stands, put_long}
use Rattle.transfer_sound.specs.Induction.SoundEnds.{EdgeBehind, EndIsSound}
use Rattle.transfer_sound.proofs.induction.Blocks.{IsBlock, block_facts}
use Rattle.transfer_sound.proofs.edges.TakenEdges.{FitsLead, body_led, HasLast, has_last, IsTakenEdge, taken_edge}
use Rattle.library_sound.proofs.calls.Calls.{clean}
use Rattle.library_sound.specs.Lines.LineEnds.{IsLineEnd}
use Rattle.library_sound.proofs.lines.LineCalls.{IsLine, GoesOn, no_line, a_line, IsGoodLine, line_good}

module _ {I : Type 0} {l : LatticeOf I} {n : IntegersOf I} {gamma : I → ℤ → Type 0} (o : OrderLaws l) (q : BoundLaws l n gamma) (flow : Flow) (p : HasPremises flow) (naming : Naming) (row : List (Cell I)) (s : ProgramState) (r : IsReached l n gamma flow naming row s) where
  abbrev f : FlowView
  f = flow_view flow

  -- ---- what the call gives, in its temporary

  put_behind : (w : World) (after : List (Cell I)) → length after ≡ flow.width → InGamma l n gamma flow naming after (record { memory = w.memory; temps = s.temps; entered = s.bases }) → AreShort flow.model w.memory → (x : Value I) (v : Scalar) → IsResult q flow p naming w.memory x v
      → (t : Option ℕ) → has_result (names_of flow) t ≡ true → InGammaAfter l n gamma flow (Some (put_result flow t x after)) (record (put_if s t v w) { world = w })
  put_behind w after long st short x v result None fits = record { row = after; is = refl; long = long; naming = naming; stands_for = st; short = short }
  put_behind w after long st short x v result (Some t) fits = record {
    row = put_result flow (Some t) x after;
    is = refl;
    long = put_long q flow p naming after long (record { memory = w.memory; temps = s.temps; entered = s.bases }) st t (ltb-true t flow.temps fits) x v result;
    naming = naming;
    stands_for = put_stands q flow p naming after long (record { memory = w.memory; temps = s.temps; entered = s.bases }) st t (ltb-true t flow.temps fits) x v result;
    short = short;
  }

  null_put : (t : Option ℕ) (x : List (Cell I)) → put_null l flow t x ≡ put_result flow t (pointer_value l (null_pointer l)) x
  null_put None x = refl
  null_put (Some t) x = refl

  same_block : (t : Option ℕ) (v : Scalar) (w : World) → (put_if s t v w).block ≡ s.block
  same_block None v w = refl
  same_block (Some t) v w = refl

  same_world : (t : Option ℕ) (v : Scalar) (w : World) → (put_if s t v w).world ≡ w
  same_world None v w = refl
  same_world (Some t) v w = refl

  way_goes : (u : ProgramState) (k : EdgeKind) → FitsLead ByLine k → on_way f u (way k) ≡ goes u u.world
  way_goes u kind.NoLine h = refl
  way_goes u kind.Line h = refl
  way_goes u _ h = absurd h

  module _ (limits : Limits) (good : is_well_formed limits flow ≡ true) (i : Instruction) (last : last_instruction flow s.block ≡ Some i) (to : Option ℕ) (line : ℕ) (most : ℕ) (stream : ℕ) (same : i.operation ≡ op.ReadLine to line most stream) where
    abbrev ends : Operation
    ends = op.ReadLine to line most stream

    holder : HasLast flow s.block i
    holder = has_last flow s.block i (slice_get flow.blocks.items s.block) refl last

    facts : IsBlock flow s.block holder.holder
    facts = block_facts flow limits good s.block holder.holder holder.block_is

    fits : fits_operation (names_of flow) (op.ReadLine to line most stream) ≡ true
    fits = subst (λ y. fits_operation (names_of flow) y ≡ true) same (all_at (λ (y : Instruction). fits_operation (names_of flow) y.operation) holder.holder.instructions.items holder.at i facts.fits holder.is)

    has : has_result (names_of flow) to ≡ true
    has = (and_parts (has_result (names_of flow) to) _ fits).0

    abbrev plan : Plan I
    plan = planned_line l n flow row line most stream

    call_is : (x : ℕ) → x ≡ s.block → edges.line_call flow x ≡ Some (record { to_temp = to; line = line; count = most; stream = stream })
    call_is x e = ap (edges.line_call flow) e ∙ (ap line_call_of last ∙ ap (λ y. line_call_of (Some (record i { operation = y }))) same)

    -- ---- an edge is passed

    record PassesLine (reply : Reply ProgramState) : Type 0 where
      goes_along : (t : ProgramState) (w : World) → reply ≡ goes t w → EdgeBehind l n gamma flow row (op.ReadLine to line most stream) s.block (record t { world = w })
      admits : AreAdmitted plan.violations (world_of reply).violated

    stop_passes : (why : Why) (w : World) → AreAdmitted plan.violations w.violated → PassesLine (stops why w)
    stop_passes why w h = record { goes_along = λ t u g. cc; admits = h }

    module _ (v : Scalar) (w : World) (admitted : AreAdmitted plan.violations w.violated) (stays : operate l n flow row (op.ReadLine to line most stream) ≡ Some row) (u : ProgramState) (at : u.block ≡ s.block) (world : u.world ≡ w)
        (behind_edge : (e : EdgeView) (x : IsTakenEdge flow s.block v e ByLine) → InGammaAfter l n gamma flow (follow l n flow row x.it.from x.it.kind) (record u { world = w })) where
      along_good : (e : EdgeView) (x : IsTakenEdge flow s.block v e ByLine) → PassesLine (along f u (Some e))
      unfolding edge
      along_good e x =
          let sb = behind_edge e x in
          let now : ProgramState = record (at_block x.it.to u) { world = w } in
          let eb : EdgeBehind l n gamma flow row (op.ReadLine to line most stream) s.block now = record {
            stays = stays;
            number = x.number;
            taken = x.it;
            is = x.is;
            leaves = x.leaves;
            enters = refl;
            starts = refl;
            behind = record { row = sb.row; is = ap (follow_if l n flow row) x.is ∙ sb.is; long = sb.long; naming = sb.naming; stands_for = sb.stands_for; short = sb.short };
          } in
          let goes_there : along f u (Some (views.edge x.it)) ≡ goes (at_block x.it.to u) w = ap (λ y. behind y (λ t z. goes (at_block x.it.to t) z)) (way_goes u x.it.kind x.fits) ∙ ap (goes (at_block x.it.to u)) world in
          subst (λ y. PassesLine (along f u (Some y))) x.same (subst PassesLine (sym goes_there) (record {
            goes_along = λ t z g.
                let a : at_block x.it.to u ≡ t = cc in
                let b : w ≡ z = cc in
                subst (λ y. EdgeBehind l n gamma flow row (op.ReadLine to line most stream) s.block (record y { world = z })) a (subst (λ y. EdgeBehind l n gamma flow row (op.ReadLine to line most stream) s.block (record (at_block x.it.to u) { world = y })) b eb);
            admits = admitted;
          }))

      by_edge : (e : Option EdgeView) → edge_taken v (edges_of f (block_of f s.block)) ≡ e → PassesLine (along f u e)
      by_edge None k = stop_passes Stuck u.world (subst (λ y. AreAdmitted plan.violations y.violated) (sym world) admitted)
      by_edge (Some e) k =
          let own : List Edge = take holder.holder.edges (drop holder.holder.first_edge flow.edges.items) in
          let led = subst (λ z. are_led (leads z) own ≡ true) same (body_led holder.holder.instructions.items own holder.at i facts.body holder.is (λ g. let d : leads (op.ReadLine to line most stream) ≡ On = ap leads (sym same) ∙ g in cc)) in
          along_good e (taken_edge flow s.block holder.holder v e ByLine holder.block_is facts led k)

      edge_good : PassesLine (on_edge f u v)
      edge_good = subst (λ y. PassesLine (along f u (edge_taken v (edges_of f (block_of f y))))) (sym at) (by_edge (edge_taken v (edges_of f (block_of f s.block))) refl)

    -- ---- the two edges

    short_by : (memory : Memory) → ((j : ℕ) → length (bytes_at memory j) ≡ length (bytes_at s.world.memory j)) → AreShort flow.model memory
    short_by memory h j = subst (λ z. pos z ≤ℤ greatest_of (kind_of flow.model Pointer true)) (sym (h j)) (r.short j)

    row_long : length row ≡ flow.width
    row_long = r.long

    -- no line, and a null pointer
    null_edge : (w : World) → w.memory ≡ s.world.memory → (from : ℕ) → from ≡ s.block → (k : EdgeKind) → FitsLead ByLine k → is_taken (pointer null) (way k) ≡ true → InGammaAfter l n gamma flow (follow l n flow row from k) (record (put_if s to (pointer null) w) { world = w })
    unfolding follow no_line_edge
    null_edge w m from e kind.NoLine h t =
        let st = subst (λ y. InGamma l n gamma flow naming row (record { memory = y; temps = s.temps; entered = s.bases })) (sym m) r.stands_for in
        let short : AreShort flow.model w.memory = short_by w.memory (λ j. ap (λ y. length (bytes_at y j)) m) in
        let behind_null = put_behind w row row_long st short (pointer_value l (null_pointer l)) (pointer null) (record { stands_for = refl; near = tt; within = tt }) to has in
        subst (λ y. InGammaAfter l n gamma flow y (record (put_if s to (pointer null) w) { world = w })) (sym (ap (no_line_edge l flow row) (call_is from e) ∙ ap Some (null_put to row))) behind_null
    null_edge w m from e kind.Line h t = absurd (true≢false (sym t))
    null_edge w m from e _ h t = absurd h

    -- ---- what the machine does

    module _ (d : MachinePointer) (z : ℤ) (la : Labels) (k : MachinePointer) (e : values_of s.temps (line ∷ (most ∷ (stream ∷ []))) ≡ Some (pointer d ∷ (integer z la ∷ (pointer k ∷ [])))) where
      abbrev Line : Reply Scalar → Type 0
      Line reply = IsGoodLine o q flow p naming row s r to has line most stream (pointer d ∷ (integer z la ∷ (pointer k ∷ []))) e d z la refl refl reply

      line_row : (v : Scalar) (w : World) → IsLine o q flow p naming row s r to has line most stream (pointer d ∷ (integer z la ∷ (pointer k ∷ []))) e d z la refl refl v w → (from : ℕ) → from ≡ s.block → (c : EdgeKind) → FitsLead ByLine c → is_taken v (way c) ≡ true → InGammaAfter l n gamma flow (follow l n flow row from c) (record (put_if s to v w) { world = w })
      unfolding follow line_edge write_line apply plan_fgets
      line_row v w x from b kind.NoLine h t = absurd (true≢false (sym t ∙ x.truth))
      line_row v w x from b kind.Line h t =
          let behind_line = put_behind w _ (x.long ∙ row_long) x.stands_for (short_by w.memory x.lengths) x.value v x.result to has in
          subst (λ y. InGammaAfter l n gamma flow y (record (put_if s to v w) { world = w })) (sym (ap (line_edge l n flow row) (call_is from b) ∙ ap (λ y. apply l n flow to None y row) x.plans)) behind_line
      line_row v w x from b _ h t = absurd h

      stays_by : goes_on plan.effect ≡ true → operate l n flow row (op.ReadLine to line most stream) ≡ Some row
      unfolding operate
      stays_by g = ap (λ y. cond y (Some row) None) g

      by_going : (v : Scalar) (w : World) → AreAdmitted plan.violations w.violated → GoesOn o q flow p naming row s r to has line most stream (pointer d ∷ (integer z la ∷ (pointer k ∷ []))) e d z la refl refl v w → PassesLine (on_edge f (put_if s to v w) v)
      unfolding plan_fgets
      by_going v w h (no_line is m g) = subst (λ y. PassesLine (on_edge f (put_if s to y w) y)) (sym is)
          (edge_good (pointer null) w h (stays_by g) (put_if s to (pointer null) w) (same_block to (pointer null) w) (same_world to (pointer null) w)
          (λ a x. null_edge w m x.it.from x.leaves x.it.kind x.fits (subst (λ y. is_taken (pointer null) y.taken ≡ true) (sym x.same) x.taken)))
      by_going v w h (a_line g x) = edge_good v w h (stays_by g) (put_if s to v w) (same_block to v w) (same_world to v w)
          (λ a y. line_row v w x y.it.from y.leaves y.it.kind y.fits (subst (λ b. is_taken v b.taken ≡ true) (sym y.same) y.taken))

      by_reply : (reply : Reply Scalar) → Line reply → PassesLine (behind reply (λ v w. on_edge f (put_if s to v w) v))
      unfolding plan_fgets
      by_reply (stops why w) h = stop_passes why w h.admits
      by_reply (goes v w) h = by_going v w h.admits (h.further v w refl)

    by_values : (vs : Option (List Scalar)) → values_of s.temps (line ∷ (most ∷ (stream ∷ []))) ≡ vs → PassesLine (if_some s vs (reading_line f to s))
    by_values None e = stop_passes Stuck s.world (clean q flow p naming row s r plan.violations)
    by_values (Some []) e = stop_passes Stuck s.world (clean q flow p naming row s r plan.violations)
    by_values (Some (integer z la ∷ vs)) e = stop_passes Stuck s.world (clean q flow p naming row s r plan.violations)
    by_values (Some (pointer d ∷ [])) e = stop_passes Stuck s.world (clean q flow p naming row s r plan.violations)
    by_values (Some (pointer d ∷ (pointer k ∷ vs))) e = stop_passes Stuck s.world (clean q flow p naming row s r plan.violations)
    by_values (Some (pointer d ∷ (integer z la ∷ []))) e = stop_passes Stuck s.world (clean q flow p naming row s r plan.violations)
    by_values (Some (pointer d ∷ (integer z la ∷ (integer y lb ∷ vs)))) e = stop_passes Stuck s.world (clean q flow p naming row s r plan.violations)
    by_values (Some (pointer d ∷ (integer z la ∷ (pointer k ∷ (v ∷ vs))))) e = stop_passes Stuck s.world (clean q flow p naming row s r plan.violations)
    by_values (Some (pointer d ∷ (integer z la ∷ (pointer k ∷ [])))) e =
        by_reply d z la k e (fgets flow.model (pointer d ∷ (integer z la ∷ (pointer k ∷ []))) s.world) (line_good o q flow p naming row s r to has line most stream (pointer d ∷ (integer z la ∷ (pointer k ∷ []))) e d z la refl refl)

    line_passes : EndIsSound l n gamma flow row (op.ReadLine to line most stream) s
    unfolding operation_violations
    line_passes =
        let h = by_values (values_of s.temps (line ∷ (most ∷ (stream ∷ [])))) refl in
        record { goes_on = λ t w g. h.goes_along t w g; admits = h.admits }

  by_operation : (limits : Limits) → is_well_formed limits flow ≡ true → (i : Instruction) → last_instruction flow s.block ≡ Some i → (x : Operation) → i.operation ≡ x → IsLineEnd x → EndIsSound l n gamma flow row x s
  by_operation limits good i last (op.ReadLine to line most stream) e h = line_passes limits good i last to line most stream e
  by_operation limits good i last x e h = absurd h

  pub line_end_sound : (limits : Limits) → is_well_formed limits flow ≡ true → (i : Instruction) → last_instruction flow s.block ≡ Some i → IsLineEnd i.operation → EndIsSound l n gamma flow row i.operation s
  line_end_sound limits good i last is = by_operation limits good i last i.operation refl is
