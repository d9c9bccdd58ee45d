-- Jumps, branches and switches are told, where tests and cases are.
use Rattle.std.proofs.Common.{◌≡◌, ℕ, Bool, true, false, not, ◌||◌, Option, Some, None, List, [], ◌∷◌, length, take, drop, arith, subst, sym, refl, ap, ap₂, ◌∙◌, inl, inr}
use Rattle.std.specs.Prelude.{ℤ, pos, slice_get}
use Rattle.std.specs.Ordering.{int_eq}
use Rattle.std.proofs.lemmas.Int.{ints}
use Rattle.std.proofs.lemmas.Bool.{cases_Bool, and_parts, ltb-true, true≢false}
use Rattle.cc_base.specs.Lattices.{LatticeOf}
use Rattle.cc_base.specs.IntegerDomains.{IntegersOf, BoundLaws}
use Rattle.cc_base.specs.IntegerLaws.{SoundLaws}
use Rattle.cc_base.specs.declared.limit_table.Limits.{Limits}
use Rattle.cfg.specs.WellFormed.{names_of, On, Once, TwoWays, ByCases, leads, are_led, fits_edge, fits_taken, has_temp, is_number, fits_test, is_well_formed}
use Rattle.cfg.specs.declared.flow_edges.CaseTest.{CaseTest}
use Rattle.cfg.specs.declared.flow_edges.Edge.{Edge}
use Rattle.cfg.specs.declared.flow_edges.EdgeKind.{EdgeKind}
use Rattle.cfg.specs.declared.flow_edges.EdgeKind.TheVariants as kind
use Rattle.cfg.specs.declared.flow_edges.Test.{Test}
use Rattle.cfg.specs.declared.machine_instructions.Instruction.{Instruction}
use Rattle.cfg.specs.declared.machine_instructions.Operation.{Operation}
use Rattle.cfg.specs.declared.machine_instructions.Operation.TheVariants as op
use Rattle.cfg.specs.declared.programs.Flow.{Flow}
use Rattle.value_domain.specs.Values.LabelSets as set
use Rattle.value_domain.specs.Values.ValueTables.{number_value}
use Rattle.value_domain.specs.declared.values.values.Value.{Value}
use Rattle.value_domain.specs.declared.values.row_cells.Cell.{Cell}
use Rattle.transfer_edges.specs.Edges.{last_instruction, deciding_of, deciding_temp, truth_can_be, includes, has_label, is_other_than, can_be, put_kept, refine_if, kept_behind, behind_test, branch_edge, switched, refine_named_case, refine_object, case_edge, follow, follow_if, edge}
use Rattle.transfer_checks.specs.Temporaries.{temp_value, put_temp}
use Rattle.transfer_checks.specs.ViolationSets.{no_violations}
use Rattle.memory_model.specs.Memory.Labels.{Labels, no_labels}
use Rattle.memory_model.specs.Memory.Scalars.{Scalar, integer, pointer, is_false}
use Rattle.memory_model.specs.Effects.Worlds.{World, Reply, goes, stops, behind}
use Rattle.lower_templates.specs.Worklist.Acts.{act}
use Rattle.lower_templates.specs.Worklist.Pieces.{way}
use Rattle.lower_templates.specs.Views.ProgramViews.{FlowView, EdgeView, flow_view}
use Rattle.lower_templates.specs.Views.ProgramViews.{edge as edge_view}
use Rattle.semantics.specs.CfgMachine.FlowStates.{ProgramState, if_some, stuck_at}
use Rattle.semantics.specs.CfgMachine.FlowEdges.{same_truth, is_among, is_taken, edge_taken, edges_of, testing, matching, with_put, on_way, at_block, along}
use Rattle.semantics.specs.CfgMachine.FlowSteps.{block_of, on_edge, switching, act_step}
use Rattle.store_sound.specs.Concretization.ValueMeaning.{Naming}
use Rattle.store_sound.specs.Concretization.Coverage.{state_of}
use Rattle.store_sound.specs.Programs.Premises.{HasPremises}
use Rattle.transfer_sound.specs.Values.SoundSteps.{IsReached, InGammaAfter, IsStoodFor}
use Rattle.transfer_sound.proofs.induction.Blocks.{IsBlock, block_facts}
use Rattle.transfer_sound.specs.Edges.EdgeSteps.{KindIsSound, TestsAreSound}
use Rattle.transfer_sound.proofs.edges.EdgeSteps.{is_near, edge_fits, test_good}
use Rattle.transfer_sound.proofs.edges.TakenEdges.{FitsLead, body_led, HasLast, has_last, IsTakenEdge, taken_edge}
use Rattle.transfer_exact.specs.Values.ExactNumbers.{truth_of, ExactLaws}
use Rattle.transfer_exact.specs.Values.SingleRows.{ExactState}
use Rattle.transfer_exact.specs.Values.SingleSteps.{IsDefined, ExactAfter, IsExact}
use Rattle.transfer_exact.proofs.values.PutExact.{put_tells}
use Rattle.transfer_exact.proofs.values.ValueSteps.{tells_number, truth_told}
use Rattle.transfer_exact.proofs.values.Violated.{none_violated}
use Rattle.transfer_exact.proofs.values.Told.{clean_goes_told}
use Rattle.transfer_exact.specs.Edges.WayLaws.{WaysAreApart, FitsWay, IsWay, TestIsExact, CaseIsExact, KindIsExact, TestsAreExact, EdgeExact, EdgeIsExact}

-- ---- which edges are taken

truth_taken : (b truth : Bool) → truth_can_be (truth_of b) truth ≡ same_truth truth b
truth_taken true true = refl
truth_taken true false = refl
truth_taken false true = refl
truth_taken false false = refl

has_one : (z value : ℤ) → includes (Some (z, z)) value ≡ int_eq z value
has_one z value = grind (arith, ints)

turned : (a b : ℤ) → int_eq a b ≡ int_eq b a
turned a b = grind (arith, ints)

among_is : (z : ℤ) (la : Labels) (labels : List ℤ) → has_label labels z ≡ is_among (integer z la) labels
among_is z la [] = refl
among_is z la (x ∷ xs) = ap₂ ◌||◌ (turned x z) (among_is z la xs)

same_self : (z : ℤ) → int_eq z z ≡ true
same_self z = grind (arith, ints)

other_is : (z : ℤ) (la : Labels) (labels : List ℤ) → is_other_than (Some (z, z)) labels ≡ not (is_among (integer z la) labels)
other_is z la labels = ap₂ (λ a b. not a || not b) (same_self z) (among_is z la labels)

pub lead_jump : (k : EdgeKind) → FitsLead Once k → FitsWay op.Jump k
lead_jump kind.Jump h = tt
lead_jump (kind.When truth test kept) h = absurd h
lead_jump (kind.Case test) h = absurd h
lead_jump (kind.Other values) h = absurd h
lead_jump kind.NoLine h = absurd h
lead_jump kind.Line h = absurd h

pub lead_branch : (u : ℕ) (scalar : _) (k : EdgeKind) → FitsLead TwoWays k → FitsWay (op.Branch u scalar) k
lead_branch u scalar kind.Jump h = absurd h
lead_branch u scalar (kind.When truth test kept) h = tt
lead_branch u scalar (kind.Case test) h = absurd h
lead_branch u scalar (kind.Other values) h = absurd h
lead_branch u scalar kind.NoLine h = absurd h
lead_branch u scalar kind.Line h = absurd h

pub lead_switch : (u : ℕ) (type : _) (k : EdgeKind) → FitsLead ByCases k → FitsWay (op.Switch u type) k
lead_switch u type kind.Jump h = absurd h
lead_switch u type (kind.When truth test kept) h = absurd h
lead_switch u type (kind.Case test) h = tt
lead_switch u type (kind.Other values) h = tt
lead_switch u type kind.NoLine h = absurd h
lead_switch u type kind.Line h = absurd h

-- a jump is always taken
jump_off : {A : Type 0} (k : EdgeKind) → FitsWay op.Jump k → (v : Scalar) → is_taken v (way k) ≡ false → (o : Option A) → o ≡ None
jump_off kind.Jump fit v h o = absurd (true≢false h)
jump_off (kind.When truth test kept) fit v h o = absurd fit
jump_off (kind.Case test) fit v h o = absurd fit
jump_off (kind.Other values) fit v h o = absurd fit
jump_off kind.NoLine fit v h o = absurd fit
jump_off kind.Line fit v h o = absurd fit

defined_first : {A B : Type 0} (reply : Reply A) (f : A → World → Reply B) → IsDefined (behind reply f) → IsDefined reply
defined_first reply f d = λ w e. d w (ap (λ z. behind z f) e)

module _ {I : Type 0} {l : LatticeOf I} {n : IntegersOf I} {gamma : I → ℤ → Type 0} (q : BoundLaws l n gamma) (c : SoundLaws l n gamma) (x : ExactLaws n) (flow : Flow) (p : HasPremises flow) where
  abbrev f : FlowView
  f = flow_view flow

  -- ---- a temporary that an edge puts a number into

  same_row : (a b : List (Cell I)) (after : Option (List (Cell I))) → after ≡ Some a → after ≡ Some b → a ≡ b
  same_row a b after e g = let h : Some a ≡ Some b = sym e ∙ g in cc

  put_behind : (kept : Option (ℕ × ℤ)) → fits_taken (names_of flow) kept ≡ true → (after : Option (List (Cell I))) (t : ProgramState) (w : World) → InGammaAfter l n gamma flow after (record t { world = w }) → ExactAfter l n flow after (record t { world = w }) → ExactAfter l n flow (kept_behind l n flow kept after) (record (with_put kept t) { world = w })
  unfolding put_kept
  put_behind None fits after t w sb h = record { row = h.row; is = ap (kept_behind l n flow None) h.is; tells = h.tells }
  put_behind (Some k) fits after t w sb h =
      let a = and_parts (has_temp (names_of flow) k.0) (is_number k.1) fits in
      let few = ltb-true k.0 flow.temps a.0 in
      let v : Value I = number_value l (n.one k.1) set.no_labels in
      let long = ap length (same_row h.row sb.row after h.is sb.is) ∙ sb.long in
      record {
        row = put_temp flow h.row k.0 v;
        is = ap (kept_behind l n flow (Some k)) h.is;
        tells = put_tells q flow p sb.naming h.row long (state_of (record t { world = w })) sb.stands_for.sane h.tells k.0 few v (integer k.1 no_labels)
            (record { tells = tells_number l n t.bases w.memory (n.one k.1) set.no_labels k.1 no_labels (q.one_bounds k.1) refl; near = is_near k.1 a.1; within = tt });
      }

  kept_told : (kept : Option (ℕ × ℤ)) → fits_taken (names_of flow) kept ≡ true → (after : Option (List (Cell I))) (reply : Reply ProgramState) → IsStoodFor l n gamma flow after no_violations reply → IsExact l n flow after no_violations reply → IsExact l n flow (kept_behind l n flow kept after) no_violations (behind reply (λ t w. goes (with_put kept t) w))
  kept_told kept fits after (goes t w) st h = clean_goes_told l n flow _ (with_put kept t) w (put_behind kept fits after t w (st.goes_on t w refl) (h.goes_on t w refl))
  kept_told kept fits after (stops why w) st h = record {
    goes_on = λ s u e. cc;
    ends = λ y u e. ap (kept_behind l n flow kept) (h.ends why w refl);
    violated = none_violated w.violated;
  }

  module _ (naming : Naming) (row : List (Cell I)) (s : ProgramState) (r : IsReached l n gamma flow naming row s) (t : ExactState l n flow row (state_of s)) where
    here_told : IsExact l n flow (Some row) no_violations (goes s s.world)
    here_told = clean_goes_told l n flow _ s s.world (record { row = row; is = refl; tells = t })

    -- ---- branches

    test_told : (test : Option Test) → TestIsExact l n gamma flow test → IsDefined (testing f s test) → IsExact l n flow (refine_if l n flow test row) no_violations (testing f s test)
    unfolding refine_if
    test_told None h d = here_told
    test_told (Some test) h d = h naming row s r t d

    can_is : (from u : ℕ) (v : Scalar) → s.temps u ≡ Some v → deciding_temp flow from ≡ Some u → (truth : Bool) → can_be l n flow row (deciding_temp flow from) truth ≡ same_truth truth (not (is_false v))
    can_is from u v e d truth = ap (λ z. can_be l n flow row z truth) d ∙ (ap (λ z. truth_can_be z truth) (truth_told q c x s.bases s.world.memory (temp_value l n flow row u) v (t.temps u v e)) ∙ truth_taken (not (is_false v)) truth)

    branch_way : (from u : ℕ) (v : Scalar) → s.temps u ≡ Some v → deciding_temp flow from ≡ Some u → (scalar : _) (k : EdgeKind) → FitsWay (op.Branch u scalar) k → KindIsSound l n gamma flow k → KindIsExact l n gamma flow k → fits_edge (names_of flow) k ≡ true → is_taken v (way k) ≡ true → IsDefined (on_way f s (way k)) → IsExact l n flow (follow l n flow row from k) no_violations (on_way f s (way k))
    unfolding follow branch_edge behind_test
    branch_way from u v e d scalar (kind.When truth test kept) fit sound told fits taken def =
        let a = and_parts (fits_test (names_of flow) test) (fits_taken (names_of flow) kept) fits in
        let can = can_is from u v e d truth ∙ taken in
        rw can (kept_told kept a.1 (refine_if l n flow test row) (testing f s test) (test_good q c flow p naming row s r test sound) (test_told test told (defined_first (testing f s test) _ def)))
    branch_way from u v e d scalar kind.Jump fit sound told fits taken def = absurd fit
    branch_way from u v e d scalar (kind.Case test) fit sound told fits taken def = absurd fit
    branch_way from u v e d scalar (kind.Other values) fit sound told fits taken def = absurd fit
    branch_way from u v e d scalar kind.NoLine fit sound told fits taken def = absurd fit
    branch_way from u v e d scalar kind.Line fit sound told fits taken def = absurd fit

    branch_off : (from u : ℕ) (v : Scalar) → s.temps u ≡ Some v → deciding_temp flow from ≡ Some u → (scalar : _) (k : EdgeKind) → FitsWay (op.Branch u scalar) k → is_taken v (way k) ≡ false → follow l n flow row from k ≡ None
    unfolding follow branch_edge
    branch_off from u v e d scalar (kind.When truth test kept) fit taken = let can = can_is from u v e d truth ∙ taken in rw can refl
    branch_off from u v e d scalar kind.Jump fit taken = absurd fit
    branch_off from u v e d scalar (kind.Case test) fit taken = absurd fit
    branch_off from u v e d scalar (kind.Other values) fit taken = absurd fit
    branch_off from u v e d scalar kind.NoLine fit taken = absurd fit
    branch_off from u v e d scalar kind.Line fit taken = absurd fit

    -- ---- switches

    object_told : (test : CaseTest) → CaseIsExact l n gamma flow test.value test.object → IsDefined (matching f s test.value test.object) → IsExact l n flow (refine_object l n flow test row) no_violations (matching f s test.value test.object)
    unfolding refine_object
    object_told test h d = by_object test.object h d
      where
        by_object : (o : Option ℕ) → CaseIsExact l n gamma flow test.value o → IsDefined (matching f s test.value o) → IsExact l n flow (refine_named_case l n flow o test.value row) no_violations (matching f s test.value o)
        by_object None h d = here_told
        by_object (Some base) h d = h naming row s r t d

    range_is : (from u : ℕ) (z : ℤ) (la : Labels) → s.temps u ≡ Some (integer z la) → deciding_temp flow from ≡ Some u → switched l n flow row (deciding_temp flow from) ≡ Some (z, z)
    range_is from u z la e d = ap (switched l n flow row) d ∙ (t.temps u (integer z la) e).number

    case_is : (from u : ℕ) (z : ℤ) (la : Labels) → s.temps u ≡ Some (integer z la) → deciding_temp flow from ≡ Some u → (value : ℤ) → includes (switched l n flow row (deciding_temp flow from)) value ≡ int_eq z value
    case_is from u z la e d value = ap (λ y. includes y value) (range_is from u z la e d) ∙ has_one z value

    others_is : (from u : ℕ) (z : ℤ) (la : Labels) → s.temps u ≡ Some (integer z la) → deciding_temp flow from ≡ Some u → (labels : List ℤ) → is_other_than (switched l n flow row (deciding_temp flow from)) labels ≡ not (is_among (integer z la) labels)
    others_is from u z la e d labels = ap (λ y. is_other_than y labels) (range_is from u z la e d) ∙ other_is z la labels

    switch_way : (from u : ℕ) (z : ℤ) (la : Labels) → s.temps u ≡ Some (integer z la) → deciding_temp flow from ≡ Some u → (type : _) (k : EdgeKind) → FitsWay (op.Switch u type) k → KindIsExact l n gamma flow k → is_taken (integer z la) (way k) ≡ true → IsDefined (on_way f s (way k)) → IsExact l n flow (follow l n flow row from k) no_violations (on_way f s (way k))
    unfolding follow case_edge
    switch_way from u z la e d type (kind.Case test) fit told taken def = let there = case_is from u z la e d test.value ∙ taken in rw there (object_told test told def)
    switch_way from u z la e d type (kind.Other values) fit told taken def = let there = others_is from u z la e d values.items ∙ taken in rw there here_told
    switch_way from u z la e d type kind.Jump fit told taken def = absurd fit
    switch_way from u z la e d type (kind.When truth test kept) fit told taken def = absurd fit
    switch_way from u z la e d type kind.NoLine fit told taken def = absurd fit
    switch_way from u z la e d type kind.Line fit told taken def = absurd fit

    switch_off : (from u : ℕ) (z : ℤ) (la : Labels) → s.temps u ≡ Some (integer z la) → deciding_temp flow from ≡ Some u → (type : _) (k : EdgeKind) → FitsWay (op.Switch u type) k → is_taken (integer z la) (way k) ≡ false → follow l n flow row from k ≡ None
    unfolding follow case_edge
    switch_off from u z la e d type (kind.Case test) fit taken = let there = case_is from u z la e d test.value ∙ taken in rw there refl
    switch_off from u z la e d type (kind.Other values) fit taken = let there = others_is from u z la e d values.items ∙ taken in rw there refl
    switch_off from u z la e d type kind.Jump fit taken = absurd fit
    switch_off from u z la e d type (kind.When truth test kept) fit taken = absurd fit
    switch_off from u z la e d type kind.NoLine fit taken = absurd fit
    switch_off from u z la e d type kind.Line fit taken = absurd fit

    jump_way : (from : ℕ) (k : EdgeKind) → FitsWay op.Jump k → IsExact l n flow (follow l n flow row from k) no_violations (on_way f s (way k))
    unfolding follow
    jump_way from kind.Jump fit = here_told
    jump_way from (kind.When truth test kept) fit = absurd fit
    jump_way from (kind.Case test) fit = absurd fit
    jump_way from (kind.Other values) fit = absurd fit
    jump_way from kind.NoLine fit = absurd fit
    jump_way from kind.Line fit = absurd fit

    -- ---- the edge that is taken, and the others

    module _ (limits : Limits) (good : is_well_formed limits flow ≡ true) (apart : WaysAreApart flow) (sound : TestsAreSound l n gamma flow) (tests : TestsAreExact l n gamma flow) (i : Instruction) (last : last_instruction flow s.block ≡ Some i) where
      holder : HasLast flow s.block i
      holder = has_last flow s.block i (slice_get flow.blocks.items s.block) refl last

      facts : IsBlock flow s.block holder.holder
      facts = block_facts flow limits good s.block holder.holder holder.block_is

      decides : (o : Operation) → i.operation ≡ o → (b : ℕ) → b ≡ s.block → deciding_temp flow b ≡ deciding_of (Some (record i { operation = o }))
      decides o same b e = ap (deciding_temp flow) e ∙ (ap deciding_of last ∙ ap (λ z. deciding_of (Some (record i { operation = z }))) same)

      module _ (o : Operation) (same : i.operation ≡ o) (off : leads o ≡ On → ⊥) (to_way : (k : EdgeKind) → FitsLead (leads o) k → FitsWay o k) (v : Scalar)
          (way_on : (number : ℕ) (e : Edge) → slice_get flow.edges.items number ≡ Some e → e.from ≡ s.block → FitsWay o e.kind → is_taken v (way e.kind) ≡ true → IsDefined (on_way f s (way e.kind)) → IsExact l n flow (follow l n flow row e.from e.kind) no_violations (on_way f s (way e.kind)))
          (way_off : (e : Edge) → e.from ≡ s.block → FitsWay o e.kind → is_taken v (way e.kind) ≡ false → follow l n flow row e.from e.kind ≡ None) where
        others : (number other : ℕ) (it e : Edge) → slice_get flow.edges.items number ≡ Some it → it.from ≡ s.block → is_taken v (way it.kind) ≡ true → slice_get flow.edges.items other ≡ Some e → e.from ≡ s.block → FitsWay o e.kind → (other ≡ number → ⊥) → edge l n flow row other ≡ None
        unfolding edge
        others number other it e is leaves taken at from fit ne = ap (follow_if l n flow row) at ∙ elim (cases_Bool (is_taken v (way e.kind))) [
          | inr g ↦ way_off e from fit g
          | inl g ↦ absurd (apart.apart number other it e v is at (leaves ∙ sym from) ne taken g)
        ]

        by_reply : (e : EdgeView) (y : IsTakenEdge flow s.block v e (leads o)) (reply : Reply ProgramState) → IsExact l n flow (follow l n flow row y.it.from y.it.kind) no_violations reply → (u : ProgramState) (w : World) → behind reply (λ t w. goes (at_block y.it.to t) w) ≡ goes u w → EdgeExact l n gamma flow row o s.block (record u { world = w })
        unfolding edge
        by_reply e y (stops why w) h u z k = cc
        by_reply e y (goes t w) h u z k =
            let a : at_block y.it.to t ≡ u = cc in
            let b : w ≡ z = cc in
            let tb = h.goes_on t w refl in
            let now : EdgeExact l n gamma flow row o s.block (record (at_block y.it.to t) { world = w }) = record {
              number = y.number;
              taken = y.it;
              is = y.is;
              leaves = y.leaves;
              enters = refl;
              behind = record { row = tb.row; is = ap (follow_if l n flow row) y.is ∙ tb.is; tells = tb.tells };
              others = λ other e at from fit ne. others y.number other y.it e y.is y.leaves (subst (λ z. is_taken v z.taken ≡ true) (sym y.same) y.taken) at from fit ne;
            } in
            subst (λ y. EdgeExact l n gamma flow row o s.block (record y { world = z })) a (subst (λ z. EdgeExact l n gamma flow row o s.block (record (at_block y.it.to t) { world = z })) b now)

        by_edge : (e : Option EdgeView) → edge_taken v (edges_of f (block_of f s.block)) ≡ e → IsDefined (along f s e) → (u : ProgramState) (w : World) → along f s e ≡ goes u w → EdgeExact l n gamma flow row o s.block (record u { world = w })
        by_edge None k d u w g = cc
        by_edge (Some e) k d u w g =
            let own : List Edge = take holder.holder.edges (drop holder.holder.first_edge flow.edges.items) in
            let led = subst (λ z. are_led (leads z) own ≡ true) same (body_led holder.holder.instructions.items own holder.at i facts.body holder.is (λ g. off (ap leads (sym same) ∙ g))) in
            let y = taken_edge flow s.block holder.holder v e (leads o) holder.block_is facts led k in
            let taken = subst (λ z. is_taken v z.taken ≡ true) (sym y.same) y.taken in
            let def : IsDefined (along f s (Some (edge_view y.it))) = subst (λ z. IsDefined (along f s (Some z))) (sym y.same) d in
            by_reply e y (on_way f s (way y.it.kind)) (way_on y.number y.it y.is y.leaves (to_way y.it.kind y.fits) taken (defined_first (on_way f s (way y.it.kind)) _ def)) u w (ap (λ z. along f s (Some z)) y.same ∙ g)

        edge_tells : IsDefined (on_edge f s v) → (u : ProgramState) (w : World) → on_edge f s v ≡ goes u w → EdgeExact l n gamma flow row o s.block (record u { world = w })
        edge_tells d u w g = by_edge (edge_taken v (edges_of f (block_of f s.block))) refl d u w g

      -- ---- the instructions

      branch_told : (u : ℕ) (scalar : _) → i.operation ≡ op.Branch u scalar → IsDefined (act_step f (act (op.Branch u scalar)) s) → EdgeIsExact l n gamma flow row (op.Branch u scalar) s
      branch_told u scalar same d = record { goes_on = λ y w g. by_temp (s.temps u) refl y w g }
        where
          by_temp : (v : Option Scalar) → s.temps u ≡ v → (y : ProgramState) (w : World) → if_some s (s.temps u) (on_edge f s) ≡ goes y w → EdgeExact l n gamma flow row (op.Branch u scalar) s.block (record y { world = w })
          by_temp None e y w g = let h : stuck_at s ≡ goes y w = ap (λ z. if_some s z (on_edge f s)) (sym e) ∙ g in cc
          by_temp (Some v) e y w g =
              edge_tells (op.Branch u scalar) same (λ z. cc) (lead_branch u scalar) v
              (λ number it at from fit taken def. branch_way it.from u v e (decides (op.Branch u scalar) same it.from from) scalar it.kind fit (sound number it at) (tests number it at) (edge_fits limits flow good number it at) taken def)
              (λ it from fit taken. branch_off it.from u v e (decides (op.Branch u scalar) same it.from from) scalar it.kind fit taken)
              (subst (λ z. IsDefined (if_some s z (on_edge f s))) e d) y w (ap (λ z. if_some s z (on_edge f s)) (sym e) ∙ g)

      switch_told : (u : ℕ) (type : _) → i.operation ≡ op.Switch u type → IsDefined (act_step f (act (op.Switch u type)) s) → EdgeIsExact l n gamma flow row (op.Switch u type) s
      switch_told u type same d = record { goes_on = λ y w g. by_temp (s.temps u) refl y w g }
        where
          by_temp : (v : Option Scalar) → s.temps u ≡ v → (y : ProgramState) (w : World) → if_some s (s.temps u) (switching f s) ≡ goes y w → EdgeExact l n gamma flow row (op.Switch u type) s.block (record y { world = w })
          by_temp None e y w g = let h : stuck_at s ≡ goes y w = ap (λ z. if_some s z (switching f s)) (sym e) ∙ g in cc
          by_temp (Some (pointer at)) e y w g = let h : stuck_at s ≡ goes y w = ap (λ z. if_some s z (switching f s)) (sym e) ∙ g in cc
          by_temp (Some (integer z la)) e y w g =
              edge_tells (op.Switch u type) same (λ z. cc) (lead_switch u type) (integer z la)
              (λ number it at from fit taken def. switch_way it.from u z la e (decides (op.Switch u type) same it.from from) type it.kind fit (tests number it at) taken def)
              (λ it from fit taken. switch_off it.from u z la e (decides (op.Switch u type) same it.from from) type it.kind fit taken)
              (subst (λ y. IsDefined (if_some s y (switching f s))) e d) y w (ap (λ y. if_some s y (switching f s)) (sym e) ∙ g)

      jump_told : i.operation ≡ op.Jump → IsDefined (act_step f (act op.Jump) s) → EdgeIsExact l n gamma flow row op.Jump s
      jump_told same d = record {
        goes_on = edge_tells op.Jump same (λ z. cc) lead_jump (integer (pos 0) no_labels)
            (λ number it at from fit taken def. jump_way it.from it.kind fit)
            (λ it from fit taken. jump_off it.kind fit (integer (pos 0) no_labels) taken (follow l n flow row it.from it.kind)) d;
      }

      by_operation : (o : Operation) → i.operation ≡ o → IsWay o → IsDefined (act_step f (act o) s) → EdgeIsExact l n gamma flow row o s
      by_operation op.Jump e h d = jump_told e d
      by_operation (op.Branch u scalar) e h d = branch_told u scalar e d
      by_operation (op.Switch u type) e h d = switch_told u type e d
      by_operation o e h d = absurd h

      pub way_told : IsWay i.operation → IsDefined (act_step f (act i.operation) s) → EdgeIsExact l n gamma flow row i.operation s
      way_told h d = by_operation i.operation refl h d
