-- Edges in rising rows.
use Rattle.std.specs.Prelude.{◌≡◌, ℕ, ℤ, ◌≤ℤ◌, int_le, Bool, true, false, cond, not, ◌||◌, ◌&&◌, Option, Some, None, List, slice_get, refl}
use Rattle.std.specs.Ordering.{int_eq}
use Rattle.std.proofs.Common.{arith, subst, inl, inr}
use Rattle.std.proofs.lemmas.Int.{ints}
use Rattle.std.proofs.lemmas.Bool.{and_parts, and_from, or_cases, not-true}
use Rattle.std.proofs.lemmas.Bool.Decides.{Decides-int_eq}
use Rattle.cc_base.specs.Lattices.{LatticeOf, OrderLaws}
use Rattle.cc_base.specs.NumberRanges.{Range}
use Rattle.cc_base.specs.IntegerDomains.{IntegersOf, BoundLaws, RangeLaws}
use Rattle.cc_base.specs.IntegerLaws.{MonotoneLaws, tri_leq}
use Rattle.cc_base.specs.declared.integer_operators.Tri.{Tri}
use Rattle.cfg.specs.declared.programs.Flow.{Flow}
use Rattle.cfg.specs.declared.flow_edges.Edge.{Edge}
use Rattle.cfg.specs.declared.flow_edges.EdgeKind.{EdgeKind}
use Rattle.cfg.specs.declared.flow_edges.EdgeKind.TheVariants as kind
use Rattle.cfg.specs.declared.flow_edges.Test.{Test}
use Rattle.cfg.specs.declared.flow_edges.CaseTest.{CaseTest}
use Rattle.cfg.specs.WellFormed.{names_of, is_number, has_temp, is_common, fits_side, fits_test, fits_taken, fits_edge}
use Rattle.pointer_domain.specs.declared.base_sets.Bases.{Bases}
use Rattle.value_domain.specs.declared.values.row_cells.Cell.{Cell}
use Rattle.value_domain.specs.Values.LabelSets.{no_labels, labels_order}
use Rattle.value_domain.specs.Values.ValueTables.{number_value, pointer_value, value_truth}
use Rattle.store_cells.specs.ByteWrites.{null_pointer}
use Rattle.domain_theorems.proofs.values.Flags.{Sets, holds_sets, fails_sets}
use Rattle.domain_theorems.proofs.values.Ranges.{RangeBelow, bounds_monotone}
use Rattle.domain_theorems.proofs.values.Leaving.{AreOrdered}
use Rattle.domain_theorems.proofs.values.ValueOperations.{truth_monotone}
use Rattle.store_monotone.specs.Operations.TopRows.{top_row}
use Rattle.transfer_checks.specs.Temporaries.{temp_value}
use Rattle.transfer_system.specs.Edges.{deciding_temp, line_call, truth_can_be, includes, has_label, is_other_than, can_be, put_kept, refine_if, kept_behind, behind_test, branch_edge, put_null, switched, refine_named_case, refine_object, case_edge, no_line_edge, line_edge, follow, follow_if, edge}
use Rattle.transfer_monotone.specs.Values.RisingRows.{LeftRise}
use Rattle.transfer_monotone.specs.Values.LaidOut.{IsLaidOut}
use Rattle.transfer_monotone.specs.Values.StepLaws.{FlowRows, Rises}
use Rattle.transfer_monotone.proofs.values.RisingCells.{left_if}
use Rattle.transfer_monotone.proofs.values.Results.{num_rises, number_rises, pointer_rises, null_rises, temp_rises, put_temp_rises}
use Rattle.transfer_monotone.proofs.values.IntegerSteps.{one_near}
use Rattle.transfer_monotone.specs.Edges.CallLaws.{LineRises}
use Rattle.transfer_monotone.specs.Edges.ProgramLaws.{TestsLeaves, MatchesLeaf, FollowsLeaves, IsNamed, IsRisingEdge, AreRising, StepsRise}
use Rattle.transfer_monotone.proofs.edges.Operations.{number_near, step_rises, violations_more}
use Rattle.transfer_monotone.proofs.edges.Refinements.{refine_rises, case_rises}

-- ---- ranges

includes_more : (number : ℤ) (x u : Range) → RangeBelow x u → Sets (includes x number) (includes u number)
includes_more number None u h e = absurd (cc)
includes_more number (Some p) None h e = absurd h
includes_more number (Some p) (Some q) h e = let a = and_parts (int_le p.0 number) (int_le number p.1) e in let a0 = a.0 in let a1 = a.1 in and_from (int_le q.0 number) (int_le number q.1) (grind (arith, ints)) (grind (arith, ints))

-- several numbers stay several
several_more : (a b c d : ℤ) → a ≤ℤ b → c ≤ℤ a → b ≤ℤ d → Sets (int_eq c d) (int_eq a b)
several_more a b c d h j k e = let f : c ≡ d = (Decides-int_eq c d).0 e in (Decides-int_eq a b).1 (same a b c d h j k f)
  where
    same : (a b c d : ℤ) → a ≤ℤ b → c ≤ℤ a → b ≤ℤ d → c ≡ d → a ≡ b
    same a b c d h j k f = grind (arith, ints)

first_same : (a b c d : ℤ) → a ≤ℤ b → c ≤ℤ a → b ≤ℤ d → int_eq c d ≡ true → a ≡ c
first_same a b c d h j k e = let f : c ≡ d = (Decides-int_eq c d).0 e in grind (arith, ints)

other_more : (labels : List ℤ) (x u : Range) → AreOrdered x → RangeBelow x u → Sets (is_other_than x labels) (is_other_than u labels)
other_more labels None u w h e = absurd (cc)
other_more labels (Some p) None w h e = absurd h
other_more labels (Some p) (Some q) w h e = by_one (int_eq q.0 q.1) refl
  where
    by_one : (one : Bool) → int_eq q.0 q.1 ≡ one → (not one || not (has_label labels q.0)) ≡ true
    by_one false f = refl
    by_one true f =
        let same : p.0 ≡ q.0 = first_same p.0 p.1 q.0 q.1 w h.0 h.1 f in
        let single : int_eq p.0 p.1 ≡ true = several_more p.0 p.1 q.0 q.1 w h.0 h.1 f in
        elim (or_cases (not (int_eq p.0 p.1)) (not (has_label labels p.0)) e) [
          | inl t ↦ absurd (let z = not-true (int_eq p.0 p.1) t in cc)
          | inr t ↦ subst (λ z. not (has_label labels z) ≡ true) same t
        ]

truth_more : (truth : Bool) (s t : Tri) → tri_leq s t ≡ true → Sets (truth_can_be s truth) (truth_can_be t truth)
truth_more true s t h = holds_sets s t h
truth_more false s t h = fails_sets s t h

module _ {I : Type 0} {l : LatticeOf I} {n : IntegersOf I} {stands : I → ℤ → Type 0} (o : OrderLaws l) (b : BoundLaws l n stands) (g : MonotoneLaws l n) (f : RangeLaws l n) (all : Bases) (flow : Flow) (k : IsLaidOut all flow) where
  -- ---- branches

  can_be_more : (temp : Option ℕ) (truth : Bool) (r s : List (Cell I)) → FlowRows l n all flow r s → Sets (can_be l n flow r temp truth) (can_be l n flow s temp truth)
  can_be_more None truth r s h e = absurd (cc)
  can_be_more (Some temp) truth r s h e = truth_more truth (value_truth n (temp_value l n flow r temp)) (value_truth n (temp_value l n flow s temp)) (truth_monotone o b g (temp_value l n flow r temp) (temp_value l n flow s temp) (temp_rises o b all flow k r s h temp).below) e

  kept_rises : (kept : Option (ℕ × ℤ)) → fits_taken (names_of flow) kept ≡ true → (r s : List (Cell I)) → FlowRows l n all flow r s → FlowRows l n all flow (put_kept l n flow kept r) (put_kept l n flow kept s)
  unfolding put_kept
  kept_rises None e r s h = h
  kept_rises (Some p) e r s h =
      let c = number_near p.1 (and_parts (has_temp (names_of flow) p.0) (is_number p.1) e).1 in
      put_temp_rises o b all flow k r s h p.0 (number_value l (n.one p.1) no_labels) (number_value l (n.one p.1) no_labels) (number_rises o b all (n.one p.1) (n.one p.1) no_labels no_labels (o.reflexive (n.one p.1)) (one_near o b p.1 c.0 c.1) (labels_order.reflexive no_labels))

  refine_if_rises : (test : Option Test) → fits_test (names_of flow) test ≡ true → TestsLeaves flow test → Rises l n all flow (λ row. refine_if l n flow test row)
  unfolding refine_if
  refine_if_rises None e t r s h = h
  refine_if_rises (Some test) e t r s h =
      let a = and_parts (fits_side (names_of flow) test.left) (fits_side (names_of flow) test.right && is_common flow.model test.common) e in
      let c = and_parts (fits_side (names_of flow) test.right) (is_common flow.model test.common) a.1 in
      refine_rises o b g f all flow k test a.0 c.0 t.0 t.1 r s h

  behind_rises : (kept : Option (ℕ × ℤ)) → fits_taken (names_of flow) kept ≡ true → (x y : Option (List (Cell I))) → LeftRise l n (top_row n all flow.bases.items flow.temps) x y → LeftRise l n (top_row n all flow.bases.items flow.temps) (kept_behind l n flow kept x) (kept_behind l n flow kept y)
  behind_rises kept e None y h = tt
  behind_rises kept e (Some x) None h = absurd h
  behind_rises kept e (Some x) (Some y) h = kept_rises kept e x y h

  branch_rises : (temp : Option ℕ) (truth : Bool) (test : Option Test) (kept : Option (ℕ × ℤ)) → fits_test (names_of flow) test ≡ true → TestsLeaves flow test → fits_taken (names_of flow) kept ≡ true → Rises l n all flow (λ row. branch_edge l n flow row temp truth test kept)
  unfolding branch_edge behind_test
  branch_rises temp truth test kept e t c r s h = left_if l n (top_row n all flow.bases.items flow.temps) (can_be l n flow r temp truth) (can_be l n flow s temp truth) (kept_behind l n flow kept (refine_if l n flow test r)) (kept_behind l n flow kept (refine_if l n flow test s)) (can_be_more temp truth r s h)
      (λ q. behind_rises kept c (refine_if l n flow test r) (refine_if l n flow test s) (refine_if_rises test e t r s h))

  -- ---- switches

  switched_rises : (temp : Option ℕ) (r s : List (Cell I)) → FlowRows l n all flow r s → RangeBelow (switched l n flow r temp) (switched l n flow s temp)
  switched_rises None r s h = tt
  switched_rises (Some temp) r s h = bounds_monotone b (temp_value l n flow r temp).num (temp_value l n flow s temp).num (num_rises o b all (temp_rises o b all flow k r s h temp))

  ordered_at : (x : I) (r : Range) → n.bounds x ≡ r → AreOrdered r
  ordered_at x None e = tt
  ordered_at x (Some p) e = b.proper x p.0 p.1 e

  switched_ordered : (temp : Option ℕ) (r : List (Cell I)) → AreOrdered (switched l n flow r temp)
  switched_ordered None r = tt
  switched_ordered (Some temp) r = ordered_at (temp_value l n flow r temp).num (n.bounds (temp_value l n flow r temp).num) refl

  named_case_rises : (base : Option ℕ) → MatchesLeaf flow base → (number : ℤ) → Rises l n all flow (λ row. refine_named_case l n flow base number row)
  named_case_rises None t number r s h = h
  named_case_rises (Some base) t number r s h = case_rises o b g f all flow k base t number r s h

  case_edge_rises : (temp : Option ℕ) (test : CaseTest) → MatchesLeaf flow test.object → Rises l n all flow (λ row. case_edge l n flow row temp test)
  unfolding case_edge refine_object
  case_edge_rises temp test t r s h = left_if l n (top_row n all flow.bases.items flow.temps) (includes (switched l n flow r temp) test.value) (includes (switched l n flow s temp) test.value) (refine_named_case l n flow test.object test.value r) (refine_named_case l n flow test.object test.value s)
      (includes_more test.value (switched l n flow r temp) (switched l n flow s temp) (switched_rises temp r s h)) (λ e. named_case_rises test.object t test.value r s h)

  other_edge_rises : (temp : Option ℕ) (labels : List ℤ) → Rises l n all flow (λ row. cond (is_other_than (switched l n flow row temp) labels) (Some row) None)
  other_edge_rises temp labels r s h = left_if l n (top_row n all flow.bases.items flow.temps) (is_other_than (switched l n flow r temp) labels) (is_other_than (switched l n flow s temp) labels) (Some r) (Some s)
      (other_more labels (switched l n flow r temp) (switched l n flow s temp) (switched_ordered temp r) (switched_rises temp r s h)) (λ e. h)

  -- ---- the two edges of `fgets`

  put_null_rises : (to : Option ℕ) (r s : List (Cell I)) → FlowRows l n all flow r s → FlowRows l n all flow (put_null l flow to r) (put_null l flow to s)
  put_null_rises None r s h = h
  put_null_rises (Some temp) r s h = put_temp_rises o b all flow k r s h temp (pointer_value l (null_pointer l)) (pointer_value l (null_pointer l)) (pointer_rises o b all (null_pointer l) (null_pointer l) (null_rises o b all))

  no_line_rises : (from : ℕ) → Rises l n all flow (λ row. no_line_edge l flow row (line_call flow from))
  unfolding no_line_edge
  no_line_rises from r s h = elim (line_call flow from) as (λ c. LeftRise l n (top_row n all flow.bases.items flow.temps) (no_line_edge l flow r c) (no_line_edge l flow s c)) [
    | None ↦ tt
    | Some c ↦ put_null_rises c.to_temp r s h
  ]

  line_rises : LineRises l n all flow → (from : ℕ) → Rises l n all flow (λ row. line_edge l n flow row (line_call flow from))
  unfolding line_edge
  line_rises law from r s h = elim (line_call flow from) as (λ c. LeftRise l n (top_row n all flow.bases.items flow.temps) (line_edge l n flow r c) (line_edge l n flow s c)) [
    | None ↦ tt
    | Some c ↦ law.step c.to_temp c.line c.count c.stream r s h
  ]

  -- ---- all edges

  follow_rises : (from : ℕ) (e : EdgeKind) → fits_edge (names_of flow) e ≡ true → FollowsLeaves flow e → IsRisingEdge l n all flow e → Rises l n all flow (λ row. follow l n flow row from e)
  unfolding follow
  follow_rises from kind.Jump e t u r s h = h
  follow_rises from (kind.When truth test kept) e t u r s h =
      let a = and_parts (fits_test (names_of flow) test) (fits_taken (names_of flow) kept) e in
      branch_rises (deciding_temp flow from) truth test kept a.0 t a.1 r s h
  follow_rises from (kind.Case test) e t u r s h = case_edge_rises (deciding_temp flow from) test t r s h
  follow_rises from (kind.Other labels) e t u r s h = other_edge_rises (deciding_temp flow from) labels.items r s h
  follow_rises from kind.NoLine e t u r s h = no_line_rises from r s h
  follow_rises from kind.Line e t u r s h = line_rises u from r s h

  follow_if_rises : (e : Option Edge) → ((d : Edge) → e ≡ Some d → (fits_edge (names_of flow) d.kind ≡ true) × FollowsLeaves flow d.kind × IsRisingEdge l n all flow d.kind) → Rises l n all flow (λ row. follow_if l n flow row e)
  follow_if_rises None e r s h = tt
  follow_if_rises (Some d) e r s h = let c = e d refl in follow_rises d.from d.kind c.0 c.1 c.2 r s h

  pub edge_rises : IsNamed flow → AreRising l n all flow → (number : ℕ) → Rises l n all flow (λ row. edge l n flow row number)
  unfolding edge
  edge_rises named rising number = follow_if_rises (slice_get flow.edges.items number) (λ d e. let c = named.edges number d e in (c.0, c.1, rising.edges number d e))

  pub steps_rise : IsNamed flow → AreRising l n all flow → StepsRise l n all flow
  steps_rise named rising = record { step = step_rises o b g f all flow k named rising; violations = violations_more o b g f all flow k rising; edge = edge_rises named rising }
