-- Allocations by `calloc`, in rising rows.
use Rattle.std.specs.Prelude.{◌≡◌, ℕ, ◌*◌, ◌≤◌, ℤ, pos, negsuc, ◌*ℤ◌, ◌≤ℤ◌, Bool, true, false, cond, not, Option, Some, None, is_some, List, refl}
use Rattle.std.proofs.Common.{arith}
use lib.Signed.{≤ℤ_refl}
use Rattle.std.proofs.lemmas.Int.{ints}
use Rattle.std.proofs.lemmas.Nat.{mul-le}
use Rattle.cc_base.specs.Lattices.{LatticeOf, OrderLaws}
use Rattle.cc_base.specs.NumberRanges.{Range}
use Rattle.cc_base.specs.IntegerDomains.{IntegersOf, BoundLaws, RangeLaws}
use Rattle.cc_base.specs.IntegerLaws.{MonotoneLaws}
use Rattle.c_layout.specs.declared.library_functions.LibFn.TheVariants as f
use Rattle.cfg.specs.declared.programs.Flow.{Flow}
use Rattle.cfg.specs.WellFormed.{is_site}
use Rattle.pointer_domain.specs.declared.base_sets.Bases.{Bases}
use Rattle.value_domain.specs.Strings.FirstZeros.{the_end}
use Rattle.value_domain.specs.declared.values.label_sets.Labels.{Labels}
use Rattle.value_domain.specs.declared.values.values.Value.{Value}
use Rattle.value_domain.specs.declared.values.row_cells.Cell.{Cell}
use Rattle.value_domain.specs.Values.LabelSets.{is_unlabelled, labels_leq, labels_join, labels_order}
use Rattle.store_objects.specs.declared.allocation.Fresh.TheVariants as fresh
use Rattle.domain_theorems.proofs.values.Flags.{Sets}
use Rattle.domain_theorems.proofs.values.Ranges.{RangeBelow, met_monotone, bounds_monotone}
use Rattle.store_monotone.specs.Operations.TopRows.{top_row}
use Rattle.store_monotone.proofs.operations.AddedRanges.{saturate_monotone}
use Rattle.transfer_checks.specs.ViolationSets.{no_violations}
use Rattle.transfer_checks.specs.AllocationChecks.{is_too_small, allocation_violations}
use Rattle.transfer_library_plans.specs.Allocations.{from_zero, product_of, products_of, products, sized_trail, instance_size, plan_calloc}
use Rattle.transfer_library_plans.specs.Arguments.{argument_value}
use Rattle.transfer_library_plans.specs.declared.call_plans.Effect.TheVariants as effect
use Rattle.transfer_system.specs.Effects.{apply}
use Rattle.transfer_system.specs.Planning.{plan_call}
use Rattle.transfer_system.specs.CallSteps.{call_of, call_step}
use Rattle.transfer_monotone.specs.Values.RisingRows.{LeftRise, ValuesRise}
use Rattle.transfer_monotone.specs.Values.LaidOut.{IsLaidOut}
use Rattle.transfer_monotone.specs.Values.ViolationsBelow.{ViolationsBelow}
use Rattle.transfer_monotone.specs.Values.StepLaws.{FlowRows}
use Rattle.transfer_monotone.proofs.values.Results.{num_rises, labels_rise}
use Rattle.transfer_monotone.proofs.values.IntegerChecks.{some_more, labelled_more}
use Rattle.transfer_monotone.proofs.values.PointerSteps.{met_ordered}
use Rattle.transfer_monotone.proofs.values.ViolationOrder.{same_below, union_below, allocates_below}
use Rattle.transfer_monotone.specs.Edges.FilledRows.{AreFilled, IsLeftFilled}
use Rattle.transfer_monotone.specs.Edges.CallLaws.{CallRises}
use Rattle.transfer_monotone.specs.Library.Sites.{HasSites}
use Rattle.transfer_monotone.proofs.library.AllocationCalls.{small_more, allocated_rises, allocated_fills, sizes_rise, size_count}
use Rattle.transfer_monotone.proofs.library.ResultCalls.{argument_rises}

-- ---- products of numbers that are not negative

product_rises : (a b c d : ℤ) → pos 0 ≤ℤ a → pos 0 ≤ℤ b → a ≤ℤ c → b ≤ℤ d → product_of a b ≤ℤ product_of c d
product_rises (pos a) (pos b) (pos c) (pos d) h i j k =
    let m : a * b ≤ c * d = mul-le a b c d (omega (arith, ints)) (omega (arith, ints)) in
    saturate_monotone (pos a *ℤ pos b) (pos c *ℤ pos d) (omega (arith, ints))
product_rises (negsuc a) b c d h i j k = absurd (omega (arith, ints))
product_rises (pos a) (negsuc b) c d h i j k = absurd (omega (arith, ints))
product_rises (pos a) (pos b) (negsuc c) d h i j k = absurd (omega (arith, ints))
product_rises (pos a) (pos b) (pos c) (negsuc d) h i j k = absurd (omega (arith, ints))

-- no number of a range is negative
abbrev IsFromZero : Range → Type 0
IsFromZero None = Unit {0}
IsFromZero (Some p) = (pos 0 ≤ℤ p.0) × (p.0 ≤ℤ p.1)

ordered_from_zero : (x : Range) → ((p : ℤ × ℤ) → x ≡ Some p → (pos 0 ≤ℤ p.0) × (p.0 ≤ℤ p.1)) → IsFromZero x
ordered_from_zero None h = tt
ordered_from_zero (Some p) h = h p refl

is_from_zero : (x : Range) → IsFromZero (from_zero x)
is_from_zero None = tt
is_from_zero (Some p) = ordered_from_zero (from_zero (Some p)) (λ q e. let h = met_ordered (Some p) (pos 0) p.1 q e in (h.0, h.1))

from_zero_monotone : (x u : Range) → RangeBelow x u → RangeBelow (from_zero x) (from_zero u)
from_zero_monotone None u h = tt
from_zero_monotone (Some p) None h = absurd h
from_zero_monotone (Some p) (Some q) h = met_monotone (Some p) (Some q) (pos 0) p.1 (pos 0) q.1 h (≤ℤ_refl (pos 0)) h.1

of_monotone : (x y u v : Range) → IsFromZero x → IsFromZero y → IsFromZero u → IsFromZero v → RangeBelow x u → RangeBelow y v → RangeBelow (products_of x y) (products_of u v)
of_monotone None y u v a c d e h k = tt
of_monotone (Some p) None u v a c d e h k = tt
of_monotone (Some p) (Some q) None v a c d e h k = absurd h
of_monotone (Some p) (Some q) (Some r) None a c d e h k = absurd k
of_monotone (Some p) (Some q) (Some r) (Some s) a c d e h k = (product_rises r.0 s.0 p.0 q.0 d.0 e.0 h.0 k.0, product_rises p.1 q.1 r.1 s.1 (omega (arith, ints)) (omega (arith, ints)) h.1 k.1)

products_monotone : (x y u v : Range) → RangeBelow x u → RangeBelow y v → RangeBelow (products x y) (products u v)
products_monotone x y u v h k = of_monotone (from_zero x) (from_zero y) (from_zero u) (from_zero v) (is_from_zero x) (is_from_zero y) (is_from_zero u) (is_from_zero v) (from_zero_monotone x u h) (from_zero_monotone y v k)

sized_below : (wanted : Option ℕ) (x u : Range) → RangeBelow x u → (s t : Labels) → labels_leq s t ≡ true → ViolationsBelow (sized_trail x s wanted).violations (sized_trail u t wanted).violations
sized_below wanted x u h s t k = union_below (allocation_violations x s wanted) no_violations (allocation_violations u t wanted) no_violations
    (allocates_below (not (is_unlabelled s)) (is_too_small x wanted) (not (is_unlabelled t)) (is_too_small u wanted) (labelled_more s t k) (small_more wanted x u h))
    (same_below no_violations)

labels_joined : (s t u v : Labels) → labels_leq s u ≡ true → labels_leq t v ≡ true → labels_leq (labels_join s t) (labels_join u v) ≡ true
labels_joined s t u v h k = labels_order.join_least s t (labels_join u v) (labels_order.transitive s u (labels_join u v) h (labels_order.join_left u v)) (labels_order.transitive t v (labels_join u v) k (labels_order.join_right u v))

module _ {I : Type 0} {l : LatticeOf I} {n : IntegersOf I} {stands : I → ℤ → Type 0} (o : OrderLaws l) (b : BoundLaws l n stands) (g : MonotoneLaws l n) (r : RangeLaws l n) (all : Bases) (flow : Flow) (k : IsLaidOut all flow) (sites : HasSites all flow) where
  -- where there is a product
  applied : (to newest : Option ℕ) → is_site flow.bases.items newest ≡ true → (a c : Bool) → Sets a c → (x y : I) → l.leq x y ≡ true → l.leq y (n.between (pos 0) the_end) ≡ true → (p q : List (Cell I)) → FlowRows l n all flow p q
      → LeftRise l n (top_row n all flow.bases.items flow.temps) (apply l n flow to newest (cond a (effect.Allocate x true) effect.Unreached) p) (apply l n flow to newest (cond c (effect.Allocate y true) effect.Unreached) q)
  unfolding apply
  applied to newest site true true s x y h m p q j = allocated_rises o b g r all flow k sites fresh.Zero fresh.Zero tt tt to newest site x y h m p q j
  applied to newest site true false s x y h m p q j = absurd (let z : false ≡ true = s refl in cc)
  applied to newest site false c s x y h m p q j = tt

  applied_fills : (to newest : Option ℕ) (a : Bool) (x : I) (p : List (Cell I)) → AreFilled p → IsLeftFilled (apply l n flow to newest (cond a (effect.Allocate x true) effect.Unreached) p)
  unfolding apply
  applied_fills to newest true x p h = allocated_fills o b g r all flow k sites fresh.Zero to newest x p h
  applied_fills to newest false x p h = tt

  -- the product of two arguments
  abbrev product_in : List ℕ → Option ℕ → List (Cell I) → Range
  product_in arguments wanted row = products (n.bounds (argument_value l n (call_of flow arguments wanted) row 0).num) (n.bounds (argument_value l n (call_of flow arguments wanted) row 1).num)

  product_more : (arguments : List ℕ) (wanted : Option ℕ) (p q : List (Cell I)) → FlowRows l n all flow p q → RangeBelow (product_in arguments wanted p) (product_in arguments wanted q)
  product_more arguments wanted p q h =
      let i = num_rises o b all (argument_rises o b g r all flow k arguments wanted p q h 0) in
      let j = num_rises o b all (argument_rises o b g r all flow k arguments wanted p q h 1) in
      products_monotone _ _ _ _ (bounds_monotone b _ _ i) (bounds_monotone b _ _ j)

  pub calloc_rises : CallRises l n all flow f.Calloc
  unfolding call_step plan_call plan_calloc
  calloc_rises = record {
    step = λ to arguments newest wanted site p q h.
        let x : Range = product_in arguments wanted p in
        let u : Range = product_in arguments wanted q in
        let i = product_more arguments wanted p q h in
        applied to newest site (is_some x) (is_some u) (some_more x u i) (instance_size l n flow.model x) (instance_size l n flow.model u) (sizes_rise o b g r all flow k sites x u i) (size_count o b g r all flow k sites u) p q h;
    checks = λ arguments wanted p q h.
        let v : Value I = argument_value l n (call_of flow arguments wanted) p 0 in
        let w : Value I = argument_value l n (call_of flow arguments wanted) p 1 in
        let c : Value I = argument_value l n (call_of flow arguments wanted) q 0 in
        let d : Value I = argument_value l n (call_of flow arguments wanted) q 1 in
        sized_below wanted (product_in arguments wanted p) (product_in arguments wanted q) (product_more arguments wanted p q h) (labels_join v.labels w.labels) (labels_join c.labels d.labels)
        (labels_joined v.labels w.labels c.labels d.labels (labels_rise o b all (argument_rises o b g r all flow k arguments wanted p q h 0)) (labels_rise o b all (argument_rises o b g r all flow k arguments wanted p q h 1)));
    fills = λ to arguments newest wanted p h. applied_fills to newest (is_some (product_in arguments wanted p)) (instance_size l n flow.model (product_in arguments wanted p)) p h;
  }
