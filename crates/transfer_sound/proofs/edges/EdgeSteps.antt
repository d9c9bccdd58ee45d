-- Jumps, branches and switches are sound, where tests and cases are.
use Rattle.std.proofs.Common.{◌≡◌, ℕ, ◌-◌, ◌^◌, Bool, true, false, not, Option, Some, None, List, [], ◌∷◌, length, take, drop, arith, subst, sym, refl, ap, ◌∙◌, inl, inr}
use Rattle.std.specs.Prelude.{ℤ, pos, negsuc, slice_get, int_le, nat_lt}
use Rattle.std.specs.Ordering.{int_eq}
use Rattle.std.specs.List.{Contains, list_all}
use Rattle.std.proofs.lemmas.Int.{ints}
use Rattle.std.proofs.lemmas.Bool.{cases_Bool, and_parts, and_from, or_left, or_right, ltb-true, true≢false, not-true}
use Rattle.std.proofs.lemmas.Bool.Decides.{Decides-int_eq}
use Rattle.cc_base.specs.Lattices.{LatticeOf}
use Rattle.cc_base.specs.NumberRanges.{Range}
use Rattle.cc_base.specs.IntegerDomains.{IntegersOf, BoundLaws}
use Rattle.cc_base.specs.IntegerLaws.{SoundLaws}
use Rattle.cc_base.specs.declared.limit_table.Limits.{Limits}
use Rattle.cfg.specs.WellFormed.{names_of, On, Once, TwoWays, ByCases, leads, are_led, are_blocks, fits_edge, fits_taken, has_temp, is_number, fits_test, is_well_formed}
use Rattle.cfg.specs.declared.flow_edges.CaseTest.{CaseTest}
use Rattle.cfg.specs.declared.flow_edges.Edge.{Edge}
use Rattle.cfg.specs.declared.flow_edges.EdgeKind.{EdgeKind}
use Rattle.cfg.specs.declared.flow_edges.EdgeKind.TheVariants as kind
use Rattle.cfg.specs.declared.flow_edges.Test.{Test}
use Rattle.cfg.specs.declared.machine_instructions.Instruction.{Instruction}
use Rattle.cfg.specs.declared.machine_instructions.Operation.{Operation}
use Rattle.cfg.specs.declared.machine_instructions.Operation.TheVariants as op
use Rattle.cfg.specs.declared.programs.Flow.{Flow}
use Rattle.value_domain.specs.Values.LabelSets as set
use Rattle.value_domain.specs.Values.ValueTables.{number_value, value_truth}
use Rattle.value_domain.specs.declared.values.values.Value.{Value}
use Rattle.value_domain.specs.declared.values.row_cells.Cell.{Cell}
use Rattle.domain_theorems.proofs.values.Numbers.{RangeHas, bounds_have}
use Rattle.transfer_system.specs.Edges.{last_instruction, deciding_of, deciding_temp, truth_can_be, includes, has_label, is_other_than, can_be, put_kept, refine_if, kept_behind, behind_test, branch_edge, switched, refine_named_case, refine_object, case_edge, follow, follow_if, edge}
use Rattle.transfer_checks.specs.Temporaries.{temp_value, put_temp}
use Rattle.transfer_checks.specs.ViolationSets.{no_violations}
use Rattle.transfer_system.specs.Steps.{operate}
use Rattle.transfer_system.specs.StepViolations.{operation_violations}
use Rattle.memory_model.specs.Memory.Labels.{Labels, no_labels}
use Rattle.memory_model.specs.Memory.Scalars.{Scalar, integer, pointer, is_false}
use Rattle.memory_model.specs.Effects.Worlds.{World, Reply, goes, stops, behind, world_of}
use Rattle.lower_templates.specs.Worklist.Acts.{act}
use Rattle.lower_templates.specs.Worklist.Pieces.{way}
use Rattle.lower_templates.specs.Views.ProgramViews.{FlowView, EdgeView, flow_view}
use Rattle.semantics.specs.CfgMachine.FlowStates.{ProgramState, if_some, stuck_at}
use Rattle.semantics.specs.CfgMachine.FlowEdges.{same_truth, is_among, is_taken, edge_taken, edges_of, testing, matching, with_put, on_way, at_block, along}
use Rattle.semantics.specs.CfgMachine.FlowSteps.{block_of, on_edge, switching, act_step}
use Rattle.store_sound.specs.Concretization.ValueMeaning.{Naming, InGammaScalar}
use Rattle.store_sound.specs.Concretization.Coverage.{state_of}
use Rattle.store_sound.specs.Programs.Premises.{HasPremises}
use Rattle.store_sound.proofs.programs.ShapedBases.{all_at}
use Rattle.transfer_sound.specs.Values.SoundSteps.{IsReached, InGammaAfter, IsStoodFor}
use Rattle.transfer_sound.proofs.values.Admitted.{AreAdmitted, none_admitted, same_admitted}
use Rattle.transfer_sound.proofs.values.PutTemps.{IsResult, put_stands, put_long}
use Rattle.transfer_sound.proofs.values.Truths.{true_holds, false_fails}
use Rattle.transfer_sound.proofs.values.TypeRanges.{le_told, le_from, same_int}
use Rattle.transfer_sound.proofs.values.NearScalars.{IsNearNumber}
use Rattle.transfer_sound.specs.Induction.SoundEnds.{EdgeBehind, EndIsSound}
use Rattle.transfer_sound.proofs.induction.Blocks.{IsBlock, block_facts}
use Rattle.transfer_sound.specs.Edges.EdgeSteps.{IsPlainEnd, TestIsSound, CaseIsSound, KindIsSound, TestsAreSound}
use Rattle.transfer_sound.proofs.edges.TakenEdges.{FitsLead, body_led, HasLast, has_last, IsTakenEdge, taken_edge}
use Rattle.transfer_sound.proofs.values.Replies.{goes_good, clean_goes_good}

-- ---- numbers

pub is_near : (z : ℤ) → is_number z ≡ true → IsNearNumber z
is_near z h =
    let a = and_parts (int_le (negsuc (2 ^ 63 - 1)) z) (int_le z (pos (2 ^ 64 - 1))) h in
    let f = le_from (negsuc (2 ^ 63 - 1)) z a.0 in
    let g = le_from z (pos (2 ^ 64 - 1)) a.1 in
    record { from = omega (arith, ints, f); to = omega (arith, ints, g) }

range_includes : (r : Range) (z : ℤ) → RangeHas r z → includes r z ≡ true
range_includes None z h = absurd h
range_includes (Some p) z h = and_from _ _ (le_told p.0 z h.0) (le_told z p.1 h.1)

turned : (a b : ℤ) → int_eq a b ≡ true → int_eq b a ≡ true
turned a b h = (Decides-int_eq b a).1 (sym (same_int a b h))

-- a label that a number is, is among those that are looked for
among_label : (z : ℤ) (la : Labels) (labels : List ℤ) → has_label labels z ≡ true → is_among (integer z la) labels ≡ true
among_label z la [] h = absurd (true≢false (sym h))
among_label z la (x ∷ xs) h = elim (cases_Bool (int_eq x z)) [
  | inl e ↦ or_left _ _ (turned x z e)
  | inr e ↦ (let g : has_label xs z ≡ true = rw e at h in or_right (int_eq z x) _ (among_label z la xs g))
]

other_range : (r : Range) (z : ℤ) (la : Labels) (labels : List ℤ) → RangeHas r z → is_among (integer z la) labels ≡ false → is_other_than r labels ≡ true
other_range None z la labels h e = absurd h
other_range (Some p) z la labels h e = elim (cases_Bool (int_eq p.0 p.1)) [
  | inr f ↦ or_left _ _ (ap not f)
  | inl f ↦ (let g = same_int p.0 p.1 f in
      let a = h.0 in
      let b = h.1 in
      let k : p.0 ≡ z = omega (arith, ints, a, b, g) in
      or_right (not (int_eq p.0 p.1)) _ (ap not (no_label k)))
]
  where
    no_label : p.0 ≡ z → has_label labels p.0 ≡ false
    no_label k = elim (cases_Bool (has_label labels p.0)) [
      | inr f ↦ f
      | inl f ↦ absurd (true≢false (sym (among_label z la labels (subst (λ y. has_label labels y ≡ true) k f)) ∙ e))
    ]

-- each edge of a well-formed program names what is there
pub edge_fits : (limits : Limits) (flow : Flow) → is_well_formed limits flow ≡ true → (number : ℕ) (e : Edge) → slice_get flow.edges.items number ≡ Some e → fits_edge (names_of flow) e.kind ≡ true
edge_fits limits flow good number e at =
    let a = and_parts (nat_lt 0 (length flow.blocks.items)) _ good in
    let b = and_parts (are_blocks (names_of flow) (length flow.blocks.items) flow.edges.items 0 0 flow.blocks.items flow.edges.items) _ a.1 in
    let d = and_parts (list_all (λ (e : Edge). fits_edge (names_of flow) e.kind) flow.edges.items) _ b.1 in
    all_at (λ (z : Edge). fits_edge (names_of flow) z.kind) flow.edges.items number e d.0 at

module _ {I : Type 0} {l : LatticeOf I} {n : IntegersOf I} {gamma : I → ℤ → Type 0} (q : BoundLaws l n gamma) (c : SoundLaws l n gamma) (flow : Flow) (p : HasPremises flow) where
  abbrev f : FlowView
  f = flow_view flow

  -- ---- a temporary that an edge puts a number into

  put_behind : (kept : Option (ℕ × ℤ)) → fits_taken (names_of flow) kept ≡ true → (after : Option (List (Cell I))) (t : ProgramState) (w : World) → InGammaAfter l n gamma flow after (record t { world = w }) → InGammaAfter l n gamma flow (kept_behind l n flow kept after) (record (with_put kept t) { world = w })
  unfolding put_kept
  put_behind None fits after t w h = record { row = h.row; is = ap (kept_behind l n flow None) h.is; long = h.long; naming = h.naming; stands_for = h.stands_for; short = h.short }
  put_behind (Some k) fits after t w h =
      let a = and_parts (has_temp (names_of flow) k.0) (is_number k.1) fits in
      let few = ltb-true k.0 flow.temps a.0 in
      let x : Value I = number_value l (n.one k.1) set.no_labels in
      let result : IsResult q flow p h.naming w.memory x (integer k.1 no_labels) = record { stands_for = (q.one_stands k.1, refl); near = is_near k.1 a.1; within = tt } in
      record {
        row = put_temp flow h.row k.0 x;
        is = ap (kept_behind l n flow (Some k)) h.is;
        long = put_long q flow p h.naming h.row h.long (state_of (record t { world = w })) h.stands_for k.0 few x (integer k.1 no_labels) result;
        naming = h.naming;
        stands_for = put_stands q flow p h.naming h.row h.long (state_of (record t { world = w })) h.stands_for k.0 few x (integer k.1 no_labels) result;
        short = h.short;
      }

  kept_good : (kept : Option (ℕ × ℤ)) → fits_taken (names_of flow) kept ≡ true → (after : Option (List (Cell I))) (reply : Reply ProgramState) → IsStoodFor l n gamma flow after no_violations reply → IsStoodFor l n gamma flow (kept_behind l n flow kept after) no_violations (behind reply (λ t w. goes (with_put kept t) w))
  kept_good kept fits after (goes t w) h = goes_good l n gamma flow _ _ (with_put kept t) w h.admits (put_behind kept fits after t w (h.goes_on t w refl))
  kept_good kept fits after (stops why w) h = record { goes_on = λ s u e. cc; admits = h.admits }

  module _ (naming : Naming) (row : List (Cell I)) (s : ProgramState) (r : IsReached l n gamma flow naming row s) where
    here_good : IsStoodFor l n gamma flow (Some row) no_violations (goes s s.world)
    here_good = clean_goes_good l n gamma flow _ _ s s.world r.begun (record { row = row; is = refl; long = r.long; naming = naming; stands_for = r.stands_for; short = r.short })

    -- ---- branches

    pub test_good : (test : Option Test) → TestIsSound l n gamma flow test → IsStoodFor l n gamma flow (refine_if l n flow test row) no_violations (testing f s test)
    unfolding refine_if
    test_good None h = here_good
    test_good (Some test) h = h naming row s r

    truth_there : (v : Scalar) (x : Value I) (truth : Bool) → InGammaScalar gamma naming s.world.memory x v → same_truth truth (not (is_false v)) ≡ true → truth_can_be (value_truth n x) truth ≡ true
    truth_there v x true st h = true_holds q c naming s.world.memory x v st (not-true (is_false v) h)
    truth_there v x false st h = false_fails q c naming s.world.memory x v st (twice (is_false v) h)
      where
        twice : (b : Bool) → not (not b) ≡ true → b ≡ true
        twice true h = refl
        twice false h = absurd (true≢false (sym h))

    branch_way : (from t : ℕ) (v : Scalar) → s.temps t ≡ Some v → deciding_temp flow from ≡ Some t → (k : EdgeKind) → FitsLead TwoWays k → KindIsSound l n gamma flow k → fits_edge (names_of flow) k ≡ true → is_taken v (way k) ≡ true → IsStoodFor l n gamma flow (follow l n flow row from k) no_violations (on_way f s (way k))
    unfolding follow branch_edge behind_test
    branch_way from t v e d kind.Jump fit sound fits taken = absurd fit
    branch_way from t v e d (kind.When truth test kept) fit sound fits taken =
        let a = and_parts (fits_test (names_of flow) test) (fits_taken (names_of flow) kept) fits in
        let can : can_be l n flow row (deciding_temp flow from) truth ≡ true = ap (λ z. can_be l n flow row z truth) d ∙ truth_there v (temp_value l n flow row t) truth (r.stands_for.temps t v e) taken in
        rw can (kept_good kept a.1 (refine_if l n flow test row) (testing f s test) (test_good test sound))
    branch_way from t v e d (kind.Case test) fit sound fits taken = absurd fit
    branch_way from t v e d (kind.Other values) fit sound fits taken = absurd fit
    branch_way from t v e d kind.NoLine fit sound fits taken = absurd fit
    branch_way from t v e d kind.Line fit sound fits taken = absurd fit

    -- ---- switches

    object_good : (test : CaseTest) → CaseIsSound l n gamma flow test.value test.object → IsStoodFor l n gamma flow (refine_object l n flow test row) no_violations (matching f s test.value test.object)
    unfolding refine_object
    object_good test h = by_object test.object h
      where
        by_object : (o : Option ℕ) → CaseIsSound l n gamma flow test.value o → IsStoodFor l n gamma flow (refine_named_case l n flow o test.value row) no_violations (matching f s test.value o)
        by_object None h = here_good
        by_object (Some base) h = h naming row s r

    switch_way : (from t : ℕ) (z : ℤ) (la : Labels) → s.temps t ≡ Some (integer z la) → deciding_temp flow from ≡ Some t → (k : EdgeKind) → FitsLead ByCases k → KindIsSound l n gamma flow k → is_taken (integer z la) (way k) ≡ true → IsStoodFor l n gamma flow (follow l n flow row from k) no_violations (on_way f s (way k))
    unfolding follow case_edge
    switch_way from t z la e d kind.Jump fit sound taken = absurd fit
    switch_way from t z la e d (kind.When truth test kept) fit sound taken = absurd fit
    switch_way from t z la e d (kind.Case test) fit sound taken =
        let has = bounds_have q (temp_value l n flow row t).num z (r.stands_for.temps t (integer z la) e).0 in
        let there : includes (switched l n flow row (deciding_temp flow from)) test.value ≡ true = ap (λ y. includes (switched l n flow row y) test.value) d ∙ subst (λ y. includes (n.bounds (temp_value l n flow row t).num) y ≡ true) (same_int z test.value taken) (range_includes _ z has) in
        rw there (object_good test sound)
    switch_way from t z la e d (kind.Other values) fit sound taken =
        let has = bounds_have q (temp_value l n flow row t).num z (r.stands_for.temps t (integer z la) e).0 in
        let other : is_other_than (switched l n flow row (deciding_temp flow from)) values.items ≡ true = ap (λ y. is_other_than (switched l n flow row y) values.items) d ∙ other_range (n.bounds (temp_value l n flow row t).num) z la values.items has (not-true (is_among (integer z la) values.items) taken) in
        rw other here_good
    switch_way from t z la e d kind.NoLine fit sound taken = absurd fit
    switch_way from t z la e d kind.Line fit sound taken = absurd fit

    jump_way : (from : ℕ) (k : EdgeKind) → FitsLead Once k → IsStoodFor l n gamma flow (follow l n flow row from k) no_violations (on_way f s (way k))
    unfolding follow
    jump_way from kind.Jump fit = here_good
    jump_way from (kind.When truth test kept) fit = absurd fit
    jump_way from (kind.Case test) fit = absurd fit
    jump_way from (kind.Other values) fit = absurd fit
    jump_way from kind.NoLine fit = absurd fit
    jump_way from kind.Line fit = absurd fit

    -- ---- the edge that is taken

    module _ (limits : Limits) (good : is_well_formed limits flow ≡ true) (i : Instruction) (last : last_instruction flow s.block ≡ Some i) (o : Operation) (same : i.operation ≡ o) (off : leads o ≡ On → ⊥) (stays : operate l n flow row o ≡ Some row) where
      -- a reply behind which an edge has been passed
      record PassesEdge (reply : Reply ProgramState) : Type 0 where
        goes_on : (t : ProgramState) (w : World) → reply ≡ goes t w → EdgeBehind l n gamma flow row o s.block (record t { world = w })
        admits : AreAdmitted no_violations (world_of reply).violated

      stop_passes : (why : _) (w : World) → w.violated ≡ [] → PassesEdge (stops why w)
      stop_passes why w e = record { goes_on = λ t u h. cc; admits = same_admitted no_violations w.violated [] e (none_admitted no_violations) }

      way_passes : (v : Scalar) (e : EdgeView) (x : IsTakenEdge flow s.block v e (leads o)) → IsStoodFor l n gamma flow (follow l n flow row x.it.from x.it.kind) no_violations (on_way f s (way x.it.kind)) → PassesEdge (along f s (Some e))
      unfolding edge
      way_passes v e x h = subst (λ z. PassesEdge (along f s (Some z))) x.same (by_reply (on_way f s (way x.it.kind)) h)
        where
          by_reply : (reply : Reply ProgramState) → IsStoodFor l n gamma flow (follow l n flow row x.it.from x.it.kind) no_violations reply → PassesEdge (behind reply (λ t w. goes (at_block x.it.to t) w))
          by_reply (stops why w) h = record { goes_on = λ t u k. cc; admits = h.admits }
          by_reply (goes t w) h = record {
            goes_on = λ t' u k.
                let a : at_block x.it.to t ≡ t' = cc in
                let b : w ≡ u = cc in
                let sb = h.goes_on t w refl in
                let now : ProgramState = record (at_block x.it.to t) { world = w } in
                let eb : EdgeBehind l n gamma flow row o s.block now = record {
                  stays = stays;
                  number = x.number;
                  taken = x.it;
                  is = x.is;
                  leaves = x.leaves;
                  enters = refl;
                  starts = refl;
                  behind = record { row = sb.row; is = ap (follow_if l n flow row) x.is ∙ sb.is; long = sb.long; naming = sb.naming; stands_for = sb.stands_for; short = sb.short };
                } in
                subst (λ z. EdgeBehind l n gamma flow row o s.block (record z { world = u })) a (subst (λ z. EdgeBehind l n gamma flow row o s.block (record (at_block x.it.to t) { world = z })) b eb);
            admits = h.admits;
          }

      holder : HasLast flow s.block i
      holder = has_last flow s.block i (slice_get flow.blocks.items s.block) refl last

      facts : IsBlock flow s.block holder.holder
      facts = block_facts flow limits good s.block holder.holder holder.block_is

      taken_passes : (v : Scalar) → ((e : EdgeView) (x : IsTakenEdge flow s.block v e (leads o)) → IsStoodFor l n gamma flow (follow l n flow row x.it.from x.it.kind) no_violations (on_way f s (way x.it.kind))) → (e : Option EdgeView) → edge_taken v (edges_of f (block_of f s.block)) ≡ e → PassesEdge (along f s e)
      taken_passes v h None k = stop_passes _ s.world r.begun
      taken_passes v h (Some e) k =
          let own : List Edge = take holder.holder.edges (drop holder.holder.first_edge flow.edges.items) in
          let led = subst (λ z. are_led (leads z) own ≡ true) same (body_led holder.holder.instructions.items own holder.at i facts.body holder.is (λ g. off (ap leads (sym same) ∙ g))) in
          let x = taken_edge flow s.block holder.holder v e (leads o) holder.block_is facts led k in
          way_passes v e x (h e x)

      edge_passes : (v : Scalar) → ((e : EdgeView) (x : IsTakenEdge flow s.block v e (leads o)) → IsStoodFor l n gamma flow (follow l n flow row x.it.from x.it.kind) no_violations (on_way f s (way x.it.kind))) → PassesEdge (on_edge f s v)
      edge_passes v h = taken_passes v h (edge_taken v (edges_of f (block_of f s.block))) refl

      decides : (x : ℕ) → x ≡ s.block → deciding_temp flow x ≡ deciding_of (Some (record i { operation = o }))
      decides x e = ap (deciding_temp flow) e ∙ (ap deciding_of last ∙ ap (λ z. deciding_of (Some (record i { operation = z }))) same)

    -- ---- the instructions

    module _ (limits : Limits) (good : is_well_formed limits flow ≡ true) (tests : TestsAreSound l n gamma flow) (i : Instruction) (last : last_instruction flow s.block ≡ Some i) where
      branch_passes : (t : ℕ) (scalar : _) → (same : i.operation ≡ op.Branch t scalar) → EndIsSound l n gamma flow row (op.Branch t scalar) s
      unfolding operate operation_violations
      branch_passes t scalar same = by_temp (s.temps t) refl
        where
          sound_by : (reply : Reply ProgramState) → act_step f (act (op.Branch t scalar)) s ≡ reply → PassesEdge limits good i last (op.Branch t scalar) same (λ e. cc) refl reply → EndIsSound l n gamma flow row (op.Branch t scalar) s
          sound_by reply e h = record { goes_on = λ x w k. h.goes_on x w (sym e ∙ k); admits = λ rule k. h.admits rule (subst (λ z. Contains (world_of z).violated rule) e k) }

          by_temp : (v : Option Scalar) → s.temps t ≡ v → EndIsSound l n gamma flow row (op.Branch t scalar) s
          by_temp None e = sound_by (stuck_at s) (ap (λ z. if_some s z (on_edge f s)) e) (stop_passes limits good i last (op.Branch t scalar) same (λ e. cc) refl _ s.world r.begun)
          by_temp (Some v) e = sound_by (on_edge f s v) (ap (λ z. if_some s z (on_edge f s)) e) (edge_passes limits good i last (op.Branch t scalar) same (λ e. cc) refl v (λ view x.
              branch_way x.it.from t v e (decides limits good i last (op.Branch t scalar) same (λ e. cc) refl x.it.from x.leaves) x.it.kind x.fits (tests x.number x.it x.is) (edge_fits limits flow good x.number x.it x.is)
              (subst (λ z. is_taken v z.taken ≡ true) (sym x.same) x.taken)))

      switch_passes : (t : ℕ) (k : _) → (same : i.operation ≡ op.Switch t k) → EndIsSound l n gamma flow row (op.Switch t k) s
      unfolding operate operation_violations
      switch_passes t k same = by_temp (s.temps t) refl
        where
          sound_by : (reply : Reply ProgramState) → act_step f (act (op.Switch t k)) s ≡ reply → PassesEdge limits good i last (op.Switch t k) same (λ e. cc) refl reply → EndIsSound l n gamma flow row (op.Switch t k) s
          sound_by reply e h = record { goes_on = λ x w g. h.goes_on x w (sym e ∙ g); admits = λ rule g. h.admits rule (subst (λ z. Contains (world_of z).violated rule) e g) }

          by_temp : (v : Option Scalar) → s.temps t ≡ v → EndIsSound l n gamma flow row (op.Switch t k) s
          by_temp None e = sound_by (stuck_at s) (ap (λ z. if_some s z (switching f s)) e) (stop_passes limits good i last (op.Switch t k) same (λ e. cc) refl _ s.world r.begun)
          by_temp (Some (pointer at)) e = sound_by (switching f s (pointer at)) (ap (λ z. if_some s z (switching f s)) e) (stop_passes limits good i last (op.Switch t k) same (λ e. cc) refl _ s.world r.begun)
          by_temp (Some (integer z la)) e = sound_by (switching f s (integer z la)) (ap (λ z. if_some s z (switching f s)) e) (edge_passes limits good i last (op.Switch t k) same (λ e. cc) refl (integer z la) (λ view x.
              switch_way x.it.from t z la e (decides limits good i last (op.Switch t k) same (λ e. cc) refl x.it.from x.leaves) x.it.kind x.fits (tests x.number x.it x.is)
              (subst (λ y. is_taken (integer z la) y.taken ≡ true) (sym x.same) x.taken)))

      jump_passes : (same : i.operation ≡ op.Jump) → EndIsSound l n gamma flow row op.Jump s
      unfolding operate operation_violations
      jump_passes same =
          let h = edge_passes limits good i last op.Jump same (λ e. cc) refl (integer (pos 0) no_labels) (λ view x. jump_way x.it.from x.it.kind x.fits) in
          record { goes_on = h.goes_on; admits = h.admits }

      stop_passes_all : EndIsSound l n gamma flow row op.Stop s
      unfolding operate operation_violations
      stop_passes_all = record { goes_on = λ x w e. cc; admits = same_admitted no_violations s.world.violated [] r.begun (none_admitted no_violations) }

      by_operation : (o : Operation) → i.operation ≡ o → IsPlainEnd o → EndIsSound l n gamma flow row o s
      by_operation op.Jump e h = jump_passes e
      by_operation (op.Branch t scalar) e h = branch_passes t scalar e
      by_operation (op.Switch t k) e h = switch_passes t k e
      by_operation op.Stop e h = stop_passes_all
      by_operation o e h = absurd h

      pub end_sound : IsPlainEnd i.operation → EndIsSound l n gamma flow row i.operation s
      end_sound h = by_operation i.operation refl h
