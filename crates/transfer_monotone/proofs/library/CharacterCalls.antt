-- Calls that test or map a character, in rising rows.
use Rattle.std.specs.Prelude.{◌≡◌, ◌^◌, ◌-◌, ℤ, pos, negsuc, ◌+ℤ◌, ◌-ℤ◌, ◌≤ℤ◌, int_le, Bool, true, false, cond, not, ◌&&◌, Some, None, refl}
use Rattle.std.specs.Int.{int_min, int_max, w128, saturate_signed}
use Rattle.std.specs.Ordering.{int_eq}
use Rattle.std.proofs.Common.{arith, sym, subst}
use lib.Signed.{≤ℤ_refl}
use Rattle.std.proofs.lemmas.Int.{ints, clamps}
use Rattle.std.proofs.lemmas.Bool.{and_parts, and_from}
use Rattle.std.proofs.lemmas.Bool.Decides.{Decides-int_eq}
use Rattle.cc_base.specs.Lattices.{LatticeOf, OrderLaws}
use Rattle.cc_base.specs.NumberRanges.{Range, range_met}
use Rattle.cc_base.specs.IntegerDomains.{IntegersOf, BoundLaws, RangeLaws, between_or_least, of_range}
use Rattle.cc_base.specs.IntegerLaws.{MonotoneLaws}
use Rattle.c_layout.specs.declared.library_functions.LibFn.{LibFn}
use Rattle.c_layout.specs.declared.library_functions.LibFn.TheVariants as f
use Rattle.cfg.specs.declared.programs.Flow.{Flow}
use Rattle.pointer_domain.specs.declared.base_sets.Bases.{Bases}
use Rattle.value_domain.specs.declared.values.values.Value.{Value}
use Rattle.value_domain.specs.Values.LabelSets.{no_labels, labels_order}
use Rattle.value_domain.specs.Values.ValueTables.{number_value}
use Rattle.domain_theorems.proofs.values.Ranges.{RangeBelow, met_monotone, bounds_monotone, of_range_monotone}
use Rattle.store_monotone.proofs.operations.OwnValues.{one_within}
use Rattle.transfer_checks.specs.IntegerChecks.{is_no_character}
use Rattle.transfer_library_plans.specs.Arguments.{argument_value}
use Rattle.c_layout.specs.CharacterClasses.{is_lower, is_upper, has_class}
use Rattle.transfer_library_plans.specs.Characters.{meets, sum_of, difference_of, tested_number, raised, lowered, answer, plan_in, plan_character}
use Rattle.transfer_system.specs.Planning.{plan_call}
use Rattle.transfer_system.specs.CallSteps.{call_of}
use Rattle.transfer_monotone.specs.Values.RisingRows.{ValuesRise}
use Rattle.transfer_monotone.specs.Values.LaidOut.{IsLaidOut}
use Rattle.transfer_monotone.proofs.values.Results.{num_rises, labels_rise, number_rises}
use Rattle.transfer_monotone.proofs.values.Touches.{range_near}
use Rattle.transfer_monotone.proofs.values.PointerSteps.{met_ordered}
use Rattle.transfer_monotone.proofs.values.ViolationOrder.{signs_below}
use Rattle.transfer_monotone.specs.Edges.CallLaws.{CallRises}
use Rattle.transfer_monotone.proofs.library.ResultCalls.{PlanRises, IsResult, IsPlanned, character_more, argument_rises, planned_call}

-- numbers from -1 to 255, some of them within others
record Lies (lo hi a c : ℤ) : Type 0 where
  order : lo ≤ℤ hi
  low : a ≤ℤ lo
  high : hi ≤ℤ c
  least : negsuc 0 ≤ℤ a
  most : c ≤ℤ pos 255

sat_low : (z : ℤ) → pos 0 ≤ℤ z → z ≤ℤ pos 300 → saturate_signed w128 z ≤ℤ z
sat_low (pos a) h k = omega (arith, ints)
sat_low (negsuc a) h k = absurd (omega (arith, ints))

sat_high : (z : ℤ) → pos 0 ≤ℤ z → z ≤ℤ pos 300 → z ≤ℤ saturate_signed w128 z
sat_high (pos a) h k = omega (arith, ints)
sat_high (negsuc a) h k = absurd (omega (arith, ints))

one_number : (a c : ℤ) → int_eq a c ≡ true → a ≡ c
one_number a c e = (Decides-int_eq a c).0 e

same_number : (a c : ℤ) → a ≤ℤ c → c ≤ℤ a → int_eq a c ≡ true
same_number a c h k = (Decides-int_eq a c).1 (equal a c h k)
  where
    equal : (a c : ℤ) → a ≤ℤ c → c ≤ℤ a → a ≡ c
    equal a c h k = grind (arith, ints)

apart : (a c : ℤ) → not (int_eq a c) ≡ true → a ≤ℤ c → (c ≤ℤ a → ⊥)
apart a c e h k = let f = same_number a c h k in let g : not true ≡ true = subst (λ z. not z ≡ true) f e in cc

at_most : (a c : ℤ) → int_le a c ≡ true → a ≤ℤ c
at_most a c e = grind (arith, ints)

is_most : (a c : ℤ) → a ≤ℤ c → int_le a c ≡ true
is_most a c h = grind (arith, ints)

-- what is not one number is several
not_one : (a c : ℤ) → (c ≤ℤ a → ⊥) → not (int_eq a c) ≡ true
not_one a c h = by_test (int_eq a c) refl
  where
    by_test : (t : Bool) → int_eq a c ≡ t → not t ≡ true
    by_test false e = refl
    by_test true e = absurd (h (above a c (one_number a c e)))
      where
        above : (a c : ℤ) → a ≡ c → c ≤ℤ a
        above a c e = grind (arith, ints)

-- ---- the letters that `toupper` gives

abbrev raised_range : ℤ → ℤ → ℤ × ℤ
raised_range lo hi = cond (int_eq lo hi && is_lower lo) (difference_of lo (pos 32), difference_of lo (pos 32)) (cond (not (int_eq lo hi) && meets lo hi (pos 97) (pos 122)) (int_min lo (pos 65), hi) (lo, hi))

record IsRaised (lo hi : ℤ) : Type 0 where
  same : hi ≤ℤ lo
  low : pos 97 ≤ℤ lo
  high : lo ≤ℤ pos 122

raised_single : (lo hi : ℤ) → (int_eq lo hi && is_lower lo) ≡ true → IsRaised lo hi
raised_single lo hi h =
    let p = and_parts (int_eq lo hi) (is_lower lo) h in
    let q = and_parts (int_le (pos 97) lo) (int_le lo (pos 122)) p.1 in
    record { same = below lo hi (one_number lo hi p.0); low = at_most (pos 97) lo q.0; high = at_most lo (pos 122) q.1 }
  where
    below : (a c : ℤ) → a ≡ c → c ≤ℤ a
    below a c e = grind (arith, ints)

raised_is_single : (lo hi : ℤ) → lo ≤ℤ hi → hi ≤ℤ lo → pos 97 ≤ℤ lo → lo ≤ℤ pos 122 → (int_eq lo hi && is_lower lo) ≡ true
raised_is_single lo hi h k i j = and_from (int_eq lo hi) (is_lower lo) (same_number lo hi h k) (and_from (int_le (pos 97) lo) (int_le lo (pos 122)) (is_most (pos 97) lo i) (is_most lo (pos 122) j))

raised_meets : (a c : ℤ) → (c ≤ℤ a → ⊥) → a ≤ℤ pos 122 → pos 97 ≤ℤ c → (not (int_eq a c) && meets a c (pos 97) (pos 122)) ≡ true
raised_meets a c h i j = and_from (not (int_eq a c)) (meets a c (pos 97) (pos 122)) (not_one a c h) (and_from (int_le a (pos 122)) (int_le (pos 97) c) (is_most a (pos 122) i) (is_most (pos 97) c j))

raised_below : (lo hi a c : ℤ) → Lies lo hi a c → RangeBelow (Some (raised_range lo hi)) (Some (raised_range a c))
raised_below lo hi a c m = by_tests (int_eq lo hi && is_lower lo) (not (int_eq lo hi) && meets lo hi (pos 97) (pos 122)) (int_eq a c && is_lower a) (not (int_eq a c) && meets a c (pos 97) (pos 122)) refl refl refl refl
  where
    by_tests : (p q u v : Bool) → (int_eq lo hi && is_lower lo) ≡ p → (not (int_eq lo hi) && meets lo hi (pos 97) (pos 122)) ≡ q → (int_eq a c && is_lower a) ≡ u → (not (int_eq a c) && meets a c (pos 97) (pos 122)) ≡ v
        → RangeBelow (Some (cond p (difference_of lo (pos 32), difference_of lo (pos 32)) (cond q (int_min lo (pos 65), hi) (lo, hi)))) (Some (cond u (difference_of a (pos 32), difference_of a (pos 32)) (cond v (int_min a (pos 65), c) (a, c))))
    by_tests true q true v e f g h =
        let s = raised_single lo hi e in
        let t = raised_single a c g in
        let low = m.low in let high = m.high in let order = m.order in let s0 = s.same in let s1 = s.low in let s2 = s.high in let t0 = t.same in
        let x = sat_low (lo -ℤ pos 32) (omega (arith, ints)) (omega (arith, ints)) in let y = sat_high (lo -ℤ pos 32) (omega (arith, ints)) (omega (arith, ints)) in
        let z = sat_low (a -ℤ pos 32) (omega (arith, ints)) (omega (arith, ints)) in let w = sat_high (a -ℤ pos 32) (omega (arith, ints)) (omega (arith, ints)) in
        (omega (arith, ints), omega (arith, ints))
    by_tests false q true v e f g h =
        let t = raised_single a c g in
        let low = m.low in let high = m.high in let order = m.order in let t0 = t.same in let t1 = t.low in let t2 = t.high in
        absurd (let u = raised_is_single lo hi order (omega (arith, ints)) (omega (arith, ints)) (omega (arith, ints)) in cc)
    by_tests true q false true e f g h =
        let s = raised_single lo hi e in
        let low = m.low in let high = m.high in let order = m.order in let s0 = s.same in let s1 = s.low in let s2 = s.high in
        let x = sat_low (lo -ℤ pos 32) (omega (arith, ints)) (omega (arith, ints)) in let y = sat_high (lo -ℤ pos 32) (omega (arith, ints)) (omega (arith, ints)) in
        (omega (arith, ints, clamps), omega (arith, ints, clamps))
    by_tests true q false false e f g h =
        let s = raised_single lo hi e in
        let low = m.low in let high = m.high in let order = m.order in let s0 = s.same in let s1 = s.low in let s2 = s.high in
        let more : c ≤ℤ a → ⊥ = λ (k : c ≤ℤ a). (let u = raised_is_single a c (omega (arith, ints)) k (omega (arith, ints)) (omega (arith, ints)) in cc) in
        absurd (let u = raised_meets a c more (omega (arith, ints)) (omega (arith, ints)) in cc)
    by_tests false true false true e f g h = let low = m.low in let high = m.high in (omega (arith, ints, clamps), omega (arith, ints, clamps))
    by_tests false true false false e f g h =
        let p = and_parts (not (int_eq lo hi)) (meets lo hi (pos 97) (pos 122)) f in
        let q = and_parts (int_le lo (pos 122)) (int_le (pos 97) hi) p.1 in
        let q0 = at_most lo (pos 122) q.0 in let q1 = at_most (pos 97) hi q.1 in
        let low = m.low in let high = m.high in let order = m.order in
        let more : c ≤ℤ a → ⊥ = λ (k : c ≤ℤ a). apart lo hi p.0 order (omega (arith, ints)) in
        absurd (let u = raised_meets a c more (omega (arith, ints)) (omega (arith, ints)) in cc)
    by_tests false false false true e f g h = let low = m.low in let high = m.high in (omega (arith, ints, clamps), omega (arith, ints, clamps))
    by_tests false false false false e f g h = (m.low, m.high)

raised_near : (a c : ℤ) → a ≤ℤ c → negsuc 0 ≤ℤ a → c ≤ℤ pos 255 → RangeBelow (Some (raised_range a c)) (Some (negsuc (2 ^ 64 - 1), pos (2 ^ 64)))
raised_near a c h i j = by_tests (int_eq a c && is_lower a) (not (int_eq a c) && meets a c (pos 97) (pos 122)) refl
  where
    by_tests : (p q : Bool) → (int_eq a c && is_lower a) ≡ p → RangeBelow (Some (cond p (difference_of a (pos 32), difference_of a (pos 32)) (cond q (int_min a (pos 65), c) (a, c)))) (Some (negsuc (2 ^ 64 - 1), pos (2 ^ 64)))
    by_tests true q e = let s = raised_single a c e in let s1 = s.low in let s2 = s.high in
        let x = sat_low (a -ℤ pos 32) (omega (arith, ints)) (omega (arith, ints)) in let y = sat_high (a -ℤ pos 32) (omega (arith, ints)) (omega (arith, ints)) in (omega (arith, ints), omega (arith, ints))
    by_tests false true e = (omega (arith, ints, clamps), omega (arith, ints, clamps))
    by_tests false false e = (omega (arith, ints), omega (arith, ints))

-- ---- the letters that `tolower` gives

abbrev lowered_range : ℤ → ℤ → ℤ × ℤ
lowered_range lo hi = cond (int_eq lo hi && is_upper lo) (sum_of lo (pos 32), sum_of lo (pos 32)) (cond (not (int_eq lo hi) && meets lo hi (pos 65) (pos 90)) (lo, int_max hi (pos 122)) (lo, hi))

record IsLowered (lo hi : ℤ) : Type 0 where
  same : hi ≤ℤ lo
  low : pos 65 ≤ℤ lo
  high : lo ≤ℤ pos 90

lowered_single : (lo hi : ℤ) → (int_eq lo hi && is_upper lo) ≡ true → IsLowered lo hi
lowered_single lo hi h =
    let p = and_parts (int_eq lo hi) (is_upper lo) h in
    let q = and_parts (int_le (pos 65) lo) (int_le lo (pos 90)) p.1 in
    record { same = below lo hi (one_number lo hi p.0); low = at_most (pos 65) lo q.0; high = at_most lo (pos 90) q.1 }
  where
    below : (a c : ℤ) → a ≡ c → c ≤ℤ a
    below a c e = grind (arith, ints)

lowered_is_single : (lo hi : ℤ) → lo ≤ℤ hi → hi ≤ℤ lo → pos 65 ≤ℤ lo → lo ≤ℤ pos 90 → (int_eq lo hi && is_upper lo) ≡ true
lowered_is_single lo hi h k i j = and_from (int_eq lo hi) (is_upper lo) (same_number lo hi h k) (and_from (int_le (pos 65) lo) (int_le lo (pos 90)) (is_most (pos 65) lo i) (is_most lo (pos 90) j))

lowered_meets : (a c : ℤ) → (c ≤ℤ a → ⊥) → a ≤ℤ pos 90 → pos 65 ≤ℤ c → (not (int_eq a c) && meets a c (pos 65) (pos 90)) ≡ true
lowered_meets a c h i j = and_from (not (int_eq a c)) (meets a c (pos 65) (pos 90)) (not_one a c h) (and_from (int_le a (pos 90)) (int_le (pos 65) c) (is_most a (pos 90) i) (is_most (pos 65) c j))

lowered_below : (lo hi a c : ℤ) → Lies lo hi a c → RangeBelow (Some (lowered_range lo hi)) (Some (lowered_range a c))
lowered_below lo hi a c m = by_tests (int_eq lo hi && is_upper lo) (not (int_eq lo hi) && meets lo hi (pos 65) (pos 90)) (int_eq a c && is_upper a) (not (int_eq a c) && meets a c (pos 65) (pos 90)) refl refl refl refl
  where
    by_tests : (p q u v : Bool) → (int_eq lo hi && is_upper lo) ≡ p → (not (int_eq lo hi) && meets lo hi (pos 65) (pos 90)) ≡ q → (int_eq a c && is_upper a) ≡ u → (not (int_eq a c) && meets a c (pos 65) (pos 90)) ≡ v
        → RangeBelow (Some (cond p (sum_of lo (pos 32), sum_of lo (pos 32)) (cond q (lo, int_max hi (pos 122)) (lo, hi)))) (Some (cond u (sum_of a (pos 32), sum_of a (pos 32)) (cond v (a, int_max c (pos 122)) (a, c))))
    by_tests true q true v e f g h =
        let s = lowered_single lo hi e in
        let t = lowered_single a c g in
        let low = m.low in let high = m.high in let order = m.order in let s0 = s.same in let s1 = s.low in let s2 = s.high in let t0 = t.same in
        let x = sat_low (lo +ℤ pos 32) (omega (arith, ints)) (omega (arith, ints)) in let y = sat_high (lo +ℤ pos 32) (omega (arith, ints)) (omega (arith, ints)) in
        let z = sat_low (a +ℤ pos 32) (omega (arith, ints)) (omega (arith, ints)) in let w = sat_high (a +ℤ pos 32) (omega (arith, ints)) (omega (arith, ints)) in
        (omega (arith, ints), omega (arith, ints))
    by_tests false q true v e f g h =
        let t = lowered_single a c g in
        let low = m.low in let high = m.high in let order = m.order in let t0 = t.same in let t1 = t.low in let t2 = t.high in
        absurd (let u = lowered_is_single lo hi order (omega (arith, ints)) (omega (arith, ints)) (omega (arith, ints)) in cc)
    by_tests true q false true e f g h =
        let s = lowered_single lo hi e in
        let low = m.low in let high = m.high in let order = m.order in let s0 = s.same in let s1 = s.low in let s2 = s.high in
        let x = sat_low (lo +ℤ pos 32) (omega (arith, ints)) (omega (arith, ints)) in let y = sat_high (lo +ℤ pos 32) (omega (arith, ints)) (omega (arith, ints)) in
        (omega (arith, ints, clamps), omega (arith, ints, clamps))
    by_tests true q false false e f g h =
        let s = lowered_single lo hi e in
        let low = m.low in let high = m.high in let order = m.order in let s0 = s.same in let s1 = s.low in let s2 = s.high in
        let more : c ≤ℤ a → ⊥ = λ (k : c ≤ℤ a). (let u = lowered_is_single a c (omega (arith, ints)) k (omega (arith, ints)) (omega (arith, ints)) in cc) in
        absurd (let u = lowered_meets a c more (omega (arith, ints)) (omega (arith, ints)) in cc)
    by_tests false true false true e f g h = let low = m.low in let high = m.high in (omega (arith, ints, clamps), omega (arith, ints, clamps))
    by_tests false true false false e f g h =
        let p = and_parts (not (int_eq lo hi)) (meets lo hi (pos 65) (pos 90)) f in
        let q = and_parts (int_le lo (pos 90)) (int_le (pos 65) hi) p.1 in
        let q0 = at_most lo (pos 90) q.0 in let q1 = at_most (pos 65) hi q.1 in
        let low = m.low in let high = m.high in let order = m.order in
        let more : c ≤ℤ a → ⊥ = λ (k : c ≤ℤ a). apart lo hi p.0 order (omega (arith, ints)) in
        absurd (let u = lowered_meets a c more (omega (arith, ints)) (omega (arith, ints)) in cc)
    by_tests false false false true e f g h = let low = m.low in let high = m.high in (omega (arith, ints, clamps), omega (arith, ints, clamps))
    by_tests false false false false e f g h = (m.low, m.high)

lowered_near : (a c : ℤ) → a ≤ℤ c → negsuc 0 ≤ℤ a → c ≤ℤ pos 255 → RangeBelow (Some (lowered_range a c)) (Some (negsuc (2 ^ 64 - 1), pos (2 ^ 64)))
lowered_near a c h i j = by_tests (int_eq a c && is_upper a) (not (int_eq a c) && meets a c (pos 65) (pos 90)) refl
  where
    by_tests : (p q : Bool) → (int_eq a c && is_upper a) ≡ p → RangeBelow (Some (cond p (sum_of a (pos 32), sum_of a (pos 32)) (cond q (a, int_max c (pos 122)) (a, c)))) (Some (negsuc (2 ^ 64 - 1), pos (2 ^ 64)))
    by_tests true q e = let s = lowered_single a c e in let s1 = s.low in let s2 = s.high in
        let x = sat_low (a +ℤ pos 32) (omega (arith, ints)) (omega (arith, ints)) in let y = sat_high (a +ℤ pos 32) (omega (arith, ints)) (omega (arith, ints)) in (omega (arith, ints), omega (arith, ints))
    by_tests false true e = (omega (arith, ints, clamps), omega (arith, ints, clamps))
    by_tests false false e = (omega (arith, ints), omega (arith, ints))

module _ {I : Type 0} {l : LatticeOf I} {n : IntegersOf I} {stands : I → ℤ → Type 0} (o : OrderLaws l) (b : BoundLaws l n stands) (g : MonotoneLaws l n) (r : RangeLaws l n) (all : Bases) (flow : Flow) (k : IsLaidOut all flow) where
  raised_is : (lo hi : ℤ) → raised l n lo hi ≡ of_range l n (Some (raised_range lo hi))
  raised_is lo hi = by_tests (int_eq lo hi && is_lower lo) (not (int_eq lo hi) && meets lo hi (pos 97) (pos 122))
    where
      by_tests : (p q : Bool) → cond p (between_or_least l n (difference_of lo (pos 32)) (difference_of lo (pos 32))) (cond q (between_or_least l n (int_min lo (pos 65)) hi) (between_or_least l n lo hi)) ≡ of_range l n (Some (cond p (difference_of lo (pos 32), difference_of lo (pos 32)) (cond q (int_min lo (pos 65), hi) (lo, hi))))
      by_tests true q = refl
      by_tests false true = refl
      by_tests false false = refl

  raised_rises : (lo hi a c : ℤ) → Lies lo hi a c → l.leq (raised l n lo hi) (raised l n a c) ≡ true
  raised_rises lo hi a c m = subst (λ x. l.leq x (raised l n a c) ≡ true) (sym (raised_is lo hi)) (subst (λ y. l.leq (of_range l n (Some (raised_range lo hi))) y ≡ true) (sym (raised_is a c)) (of_range_monotone o b (Some (raised_range lo hi)) (Some (raised_range a c)) (raised_below lo hi a c m)))

  lowered_is : (lo hi : ℤ) → lowered l n lo hi ≡ of_range l n (Some (lowered_range lo hi))
  lowered_is lo hi = by_tests (int_eq lo hi && is_upper lo) (not (int_eq lo hi) && meets lo hi (pos 65) (pos 90))
    where
      by_tests : (p q : Bool) → cond p (between_or_least l n (sum_of lo (pos 32)) (sum_of lo (pos 32))) (cond q (between_or_least l n lo (int_max hi (pos 122))) (between_or_least l n lo hi)) ≡ of_range l n (Some (cond p (sum_of lo (pos 32), sum_of lo (pos 32)) (cond q (lo, int_max hi (pos 122)) (lo, hi))))
      by_tests true q = refl
      by_tests false true = refl
      by_tests false false = refl

  lowered_rises : (lo hi a c : ℤ) → Lies lo hi a c → l.leq (lowered l n lo hi) (lowered l n a c) ≡ true
  lowered_rises lo hi a c m = subst (λ x. l.leq x (lowered l n a c) ≡ true) (sym (lowered_is lo hi)) (subst (λ y. l.leq (of_range l n (Some (lowered_range lo hi))) y ≡ true) (sym (lowered_is a c)) (of_range_monotone o b (Some (lowered_range lo hi)) (Some (lowered_range a c)) (lowered_below lo hi a c m)))

  one_of_two : (has : Bool) → l.leq (cond has (n.one (pos 1)) (n.one (pos 0))) (n.between (pos 0) (pos 1)) ≡ true
  one_of_two true = one_within o b (pos 1) (pos 0) (pos 1) (omega (arith, ints)) (omega (arith, ints))
  one_of_two false = one_within o b (pos 0) (pos 0) (pos 1) (omega (arith, ints)) (omega (arith, ints))

  tested_rises : (function : LibFn) (lo hi a c : ℤ) → Lies lo hi a c → l.leq (tested_number l n function lo hi) (tested_number l n function a c) ≡ true
  tested_rises function lo hi a c m = by_one (int_eq lo hi) (int_eq a c) refl refl
    where
      first : (lo hi a c : ℤ) → lo ≤ℤ hi → a ≤ℤ lo → hi ≤ℤ c → a ≡ c → lo ≡ a
      first lo hi a c h i j e = grind (arith, ints)

      last : (lo hi a c : ℤ) → lo ≤ℤ hi → a ≤ℤ lo → hi ≤ℤ c → a ≡ c → hi ≤ℤ lo
      last lo hi a c h i j e = grind (arith, ints)

      by_one : (p q : Bool) → int_eq lo hi ≡ p → int_eq a c ≡ q → l.leq (cond p (cond (has_class function lo) (n.one (pos 1)) (n.one (pos 0))) (between_or_least l n (pos 0) (pos 1))) (cond q (cond (has_class function a) (n.one (pos 1)) (n.one (pos 0))) (between_or_least l n (pos 0) (pos 1))) ≡ true
      by_one true true e d = subst (λ z. l.leq (cond (has_class function z) (n.one (pos 1)) (n.one (pos 0))) (cond (has_class function a) (n.one (pos 1)) (n.one (pos 0))) ≡ true) (sym (first lo hi a c m.order m.low m.high (one_number a c d))) (o.reflexive (cond (has_class function a) (n.one (pos 1)) (n.one (pos 0))))
      by_one true false e d = one_of_two (has_class function lo)
      by_one false true e d = absurd (let z = same_number lo hi m.order (last lo hi a c m.order m.low m.high (one_number a c d)) in cc)
      by_one false false e d = o.reflexive (n.between (pos 0) (pos 1))

  between_near : l.leq (n.between (pos 0) (pos 1)) (n.between (negsuc (2 ^ 64 - 1)) (pos (2 ^ 64))) ≡ true
  between_near = range_near o b all (Some (pos 0, pos 1)) (omega (arith, ints), omega (arith, ints))

  tested_near : (function : LibFn) (a c : ℤ) → l.leq (tested_number l n function a c) (n.between (negsuc (2 ^ 64 - 1)) (pos (2 ^ 64))) ≡ true
  tested_near function a c = by_one (int_eq a c)
    where
      by_one : (q : Bool) → l.leq (cond q (cond (has_class function a) (n.one (pos 1)) (n.one (pos 0))) (between_or_least l n (pos 0) (pos 1))) (n.between (negsuc (2 ^ 64 - 1)) (pos (2 ^ 64))) ≡ true
      by_one true = o.transitive (cond (has_class function a) (n.one (pos 1)) (n.one (pos 0))) (n.between (pos 0) (pos 1)) (n.between (negsuc (2 ^ 64 - 1)) (pos (2 ^ 64))) (one_of_two (has_class function a)) between_near
      by_one false = between_near

  module _ (lo hi a c : ℤ) (m : Lies lo hi a c) (v w : Value I) (j : ValuesRise l n all v w) where
    order : a ≤ℤ c
    order = let x = m.low in let y = m.order in let z = m.high in omega (arith, ints)

    tested_answer : (function : LibFn) → ValuesRise l n all (number_value l (tested_number l n function lo hi) no_labels) (number_value l (tested_number l n function a c) no_labels)
    tested_answer function = number_rises o b all (tested_number l n function lo hi) (tested_number l n function a c) no_labels no_labels (tested_rises function lo hi a c m) (tested_near function a c) (labels_order.reflexive no_labels)

    raised_answer : ValuesRise l n all (number_value l (raised l n lo hi) v.labels) (number_value l (raised l n a c) w.labels)
    raised_answer = number_rises o b all (raised l n lo hi) (raised l n a c) v.labels w.labels (raised_rises lo hi a c m) (subst (λ x. l.leq x (n.between (negsuc (2 ^ 64 - 1)) (pos (2 ^ 64))) ≡ true) (sym (raised_is a c)) (range_near o b all (Some (raised_range a c)) (raised_near a c order m.least m.most))) (labels_rise o b all j)

    lowered_answer : ValuesRise l n all (number_value l (lowered l n lo hi) v.labels) (number_value l (lowered l n a c) w.labels)
    lowered_answer = number_rises o b all (lowered l n lo hi) (lowered l n a c) v.labels w.labels (lowered_rises lo hi a c m) (subst (λ x. l.leq x (n.between (negsuc (2 ^ 64 - 1)) (pos (2 ^ 64))) ≡ true) (sym (lowered_is a c)) (range_near o b all (Some (lowered_range a c)) (lowered_near a c order m.least m.most))) (labels_rise o b all j)

  -- what a function on characters answers
  abbrev IsAnswering : LibFn → Type 0
  IsAnswering function = (lo hi a c : ℤ) → Lies lo hi a c → (v w : Value I) → ValuesRise l n all v w → ValuesRise l n all (answer l n function v lo hi) (answer l n function w a c)

  plan_rises : (function : LibFn) → IsAnswering function → (v w : Value I) → ValuesRise l n all v w → (x u : Range) → RangeBelow x u → ((p : ℤ × ℤ) → x ≡ Some p → p.0 ≤ℤ p.1) → ((p : ℤ × ℤ) → u ≡ Some p → (negsuc 0 ≤ℤ p.0) × (p.1 ≤ℤ pos 255)) → PlanRises l n all (plan_in l n function v x) (plan_in l n function w u)
  plan_rises function t v w j None None h p q = record { checks = signs_below (is_no_character (n.bounds v.num)) (is_no_character (n.bounds w.num)) (character_more (n.bounds v.num) (n.bounds w.num) (bounds_monotone b v.num w.num (num_rises o b all j))); effect = tt }
  plan_rises function t v w j None (Some u) h p q = record { checks = signs_below (is_no_character (n.bounds v.num)) (is_no_character (n.bounds w.num)) (character_more (n.bounds v.num) (n.bounds w.num) (bounds_monotone b v.num w.num (num_rises o b all j))); effect = tt }
  plan_rises function t v w j (Some x) None h p q = absurd h
  plan_rises function t v w j (Some x) (Some u) h p q =
      let e = q u refl in
      record { checks = signs_below (is_no_character (n.bounds v.num)) (is_no_character (n.bounds w.num)) (character_more (n.bounds v.num) (n.bounds w.num) (bounds_monotone b v.num w.num (num_rises o b all j))); effect = t x.0 x.1 u.0 u.1 (record { order = p x refl; low = h.0; high = h.1; least = e.0; most = e.1 }) v w j }

  plan_result : (function : LibFn) (v : Value I) (x : Range) → IsResult l n all (plan_in l n function v x).effect
  plan_result function v None = tt
  plan_result function v (Some x) = tt

  character_rises : (function : LibFn) → IsAnswering function → (v w : Value I) → ValuesRise l n all v w → PlanRises l n all (plan_character l n function v) (plan_character l n function w)
  unfolding plan_character
  character_rises function t v w j = plan_rises function t v w j (range_met (n.bounds v.num) (negsuc 0) (pos 255)) (range_met (n.bounds w.num) (negsuc 0) (pos 255))
      (met_monotone (n.bounds v.num) (n.bounds w.num) (negsuc 0) (pos 255) (negsuc 0) (pos 255) (bounds_monotone b v.num w.num (num_rises o b all j)) (≤ℤ_refl (negsuc 0)) (≤ℤ_refl (pos 255)))
      (λ p e. (met_ordered (n.bounds v.num) (negsuc 0) (pos 255) p e).1) (λ p e. let m = met_ordered (n.bounds w.num) (negsuc 0) (pos 255) p e in (m.0, m.2))

  character_result : (function : LibFn) (v : Value I) → IsResult l n all (plan_character l n function v).effect
  unfolding plan_character
  character_result function v = plan_result function v (range_met (n.bounds v.num) (negsuc 0) (pos 255))

  isalpha_planned : IsPlanned o b g r all flow k f.Isalpha
  unfolding plan_call
  isalpha_planned = record {
    rises = λ arguments wanted x y h. character_rises f.Isalpha (λ lo hi a c m v w j. tested_answer lo hi a c m v w j f.Isalpha) (argument_value l n (call_of flow arguments wanted) x 0) (argument_value l n (call_of flow arguments wanted) y 0) (argument_rises o b g r all flow k arguments wanted x y h 0);
    results = λ arguments wanted x. character_result f.Isalpha (argument_value l n (call_of flow arguments wanted) x 0);
  }

  pub isalpha_rises : CallRises l n all flow f.Isalpha
  isalpha_rises = planned_call o b g r all flow k f.Isalpha isalpha_planned

  isdigit_planned : IsPlanned o b g r all flow k f.Isdigit
  unfolding plan_call
  isdigit_planned = record {
    rises = λ arguments wanted x y h. character_rises f.Isdigit (λ lo hi a c m v w j. tested_answer lo hi a c m v w j f.Isdigit) (argument_value l n (call_of flow arguments wanted) x 0) (argument_value l n (call_of flow arguments wanted) y 0) (argument_rises o b g r all flow k arguments wanted x y h 0);
    results = λ arguments wanted x. character_result f.Isdigit (argument_value l n (call_of flow arguments wanted) x 0);
  }

  pub isdigit_rises : CallRises l n all flow f.Isdigit
  isdigit_rises = planned_call o b g r all flow k f.Isdigit isdigit_planned

  isspace_planned : IsPlanned o b g r all flow k f.Isspace
  unfolding plan_call
  isspace_planned = record {
    rises = λ arguments wanted x y h. character_rises f.Isspace (λ lo hi a c m v w j. tested_answer lo hi a c m v w j f.Isspace) (argument_value l n (call_of flow arguments wanted) x 0) (argument_value l n (call_of flow arguments wanted) y 0) (argument_rises o b g r all flow k arguments wanted x y h 0);
    results = λ arguments wanted x. character_result f.Isspace (argument_value l n (call_of flow arguments wanted) x 0);
  }

  pub isspace_rises : CallRises l n all flow f.Isspace
  isspace_rises = planned_call o b g r all flow k f.Isspace isspace_planned

  isupper_planned : IsPlanned o b g r all flow k f.Isupper
  unfolding plan_call
  isupper_planned = record {
    rises = λ arguments wanted x y h. character_rises f.Isupper (λ lo hi a c m v w j. tested_answer lo hi a c m v w j f.Isupper) (argument_value l n (call_of flow arguments wanted) x 0) (argument_value l n (call_of flow arguments wanted) y 0) (argument_rises o b g r all flow k arguments wanted x y h 0);
    results = λ arguments wanted x. character_result f.Isupper (argument_value l n (call_of flow arguments wanted) x 0);
  }

  pub isupper_rises : CallRises l n all flow f.Isupper
  isupper_rises = planned_call o b g r all flow k f.Isupper isupper_planned

  islower_planned : IsPlanned o b g r all flow k f.Islower
  unfolding plan_call
  islower_planned = record {
    rises = λ arguments wanted x y h. character_rises f.Islower (λ lo hi a c m v w j. tested_answer lo hi a c m v w j f.Islower) (argument_value l n (call_of flow arguments wanted) x 0) (argument_value l n (call_of flow arguments wanted) y 0) (argument_rises o b g r all flow k arguments wanted x y h 0);
    results = λ arguments wanted x. character_result f.Islower (argument_value l n (call_of flow arguments wanted) x 0);
  }

  pub islower_rises : CallRises l n all flow f.Islower
  islower_rises = planned_call o b g r all flow k f.Islower islower_planned

  isalnum_planned : IsPlanned o b g r all flow k f.Isalnum
  unfolding plan_call
  isalnum_planned = record {
    rises = λ arguments wanted x y h. character_rises f.Isalnum (λ lo hi a c m v w j. tested_answer lo hi a c m v w j f.Isalnum) (argument_value l n (call_of flow arguments wanted) x 0) (argument_value l n (call_of flow arguments wanted) y 0) (argument_rises o b g r all flow k arguments wanted x y h 0);
    results = λ arguments wanted x. character_result f.Isalnum (argument_value l n (call_of flow arguments wanted) x 0);
  }

  pub isalnum_rises : CallRises l n all flow f.Isalnum
  isalnum_rises = planned_call o b g r all flow k f.Isalnum isalnum_planned

  toupper_planned : IsPlanned o b g r all flow k f.Toupper
  unfolding plan_call
  toupper_planned = record {
    rises = λ arguments wanted x y h. character_rises f.Toupper (λ lo hi a c m v w j. raised_answer lo hi a c m v w j) (argument_value l n (call_of flow arguments wanted) x 0) (argument_value l n (call_of flow arguments wanted) y 0) (argument_rises o b g r all flow k arguments wanted x y h 0);
    results = λ arguments wanted x. character_result f.Toupper (argument_value l n (call_of flow arguments wanted) x 0);
  }

  pub toupper_rises : CallRises l n all flow f.Toupper
  toupper_rises = planned_call o b g r all flow k f.Toupper toupper_planned

  tolower_planned : IsPlanned o b g r all flow k f.Tolower
  unfolding plan_call
  tolower_planned = record {
    rises = λ arguments wanted x y h. character_rises f.Tolower (λ lo hi a c m v w j. lowered_answer lo hi a c m v w j) (argument_value l n (call_of flow arguments wanted) x 0) (argument_value l n (call_of flow arguments wanted) y 0) (argument_rises o b g r all flow k arguments wanted x y h 0);
    results = λ arguments wanted x. character_result f.Tolower (argument_value l n (call_of flow arguments wanted) x 0);
  }

  pub tolower_rises : CallRises l n all flow f.Tolower
  tolower_rises = planned_call o b g r all flow k f.Tolower tolower_planned
