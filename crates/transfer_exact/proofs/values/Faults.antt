-- Operators on two single numbers: the labels of results, and faults that are admitted are violated.
use Rattle.std.proofs.Common.{◌≡◌, ◌*◌, Bool, true, false, ◌||◌, ◌&&◌, Some, None, List, arith, subst, sym, refl, ap, ap₂, ◌∙◌}
use Rattle.std.specs.Prelude.{ℤ, pos, negsuc, ◌-ℤ◌, ◌≤ℤ◌, int_le, int_lt}
use Rattle.std.specs.Int.{int_min, int_max}
use Rattle.std.specs.List.{Contains}
use Rattle.std.specs.Ordering.{int_eq}
use Rattle.std.proofs.lemmas.Int.{ints, clamps}
use Rattle.std.proofs.lemmas.Bool.{cond_both, and_from, true≢false}
use Rattle.std.proofs.lemmas.List.Elements.{Contains-append_left, Contains-append_right}
use Rattle.std.proofs.Math.Bool.{or_self}
use Rattle.cc_base.specs.NumberRanges.{Range, range_met}
use Rattle.cc_base.specs.IntegerTypes.{least_of, greatest_of, in_type}
use Rattle.cc_base.specs.MachineArithmetic.{is_count, is_quotient_overflow}
use Rattle.cc_base.specs.declared.diagnostics.Rule.{Rule}
use Rattle.cc_base.specs.declared.diagnostics.Rule.TheVariants as rule
use Rattle.cc_base.specs.declared.int_types.IntType.{IntType}
use Rattle.cc_base.specs.declared.integer_operators.IntOp.{IntOp}
use Rattle.cc_base.specs.declared.integer_operators.IntOp.TheVariants.{Add, Sub, Mul, Div, Rem, And, Or, Xor, Shl, Shr}
use Rattle.cc_base.specs.declared.integer_operators.UnOp.{UnOp}
use Rattle.value_domain.specs.Values.ValueTables.{corners_leave, scaled_leave, negated_leave}
use Rattle.value_domain.specs.Values.ValueTables as table
use Rattle.transfer_checks.specs.IntegerChecks.{has_number, divides_least, division_violations, overflow_violations, ranges_violate}
use Rattle.transfer_checks.specs.ViolationSets.{no_violations}
use Rattle.transfer_checks.specs.declared.violation_sets.Violations.{Violations}
use Rattle.memory_model.specs.Effects.IntegerEffects.{result_of, is_outside, fault_if, division_faults, shift_faults, overflow_faults, binary_faults, unary_math}
use Rattle.transfer_exact.proofs.values.Violated.{AreViolated, never, none_violated, one_there}
use Rattle.transfer_sound.proofs.values.BinarySteps.{le_is, shift_corner}
use Rattle.transfer_sound.proofs.values.ValueSteps.{negation_is}

-- ---- whether results leave the type

is_le : (a b : ℤ) → a ≤ℤ b → int_le a b ≡ true
is_le a b h = grind (arith, ints)

-- and a number outside is taken away
pub met_none : (a lo hi : ℤ) → (int_le lo a && int_le a hi) ≡ false → range_met (Some (a, a)) lo hi ≡ None
met_none a lo hi f = cond_both (int_le (int_max a lo) (int_min a hi)) (Some (int_max a lo, int_min a hi)) None (λ r. r ≡ None)
    (λ e. let g = le_is (int_max a lo) (int_min a hi) e in
    let h = and_from (int_le lo a) (int_le a hi) (is_le lo a (omega (arith, ints, clamps, g))) (is_le a hi (omega (arith, ints, clamps, g))) in
    absurd (true≢false (sym h ∙ f))) (λ e. refl)

-- ---- faults

fault_there : (b : Bool) (r : Rule) → b ≡ true → Contains (fault_if b r) r
fault_there true r e = one_there r
fault_there false r e = cc

-- a set with one rule at most
pub overflow_violated : (b : Bool) (rules : List Rule) → (b ≡ true → Contains rules rule.Intoflow) → AreViolated (overflow_violations b) rules
overflow_violated b rules h rule.Intoflow e = h e
overflow_violated b rules h r e = never e

pub division_violated : (v : Violations) (a b : Bool) (rules : List Rule) → v ≡ record no_violations { diverr = a; intoflow = b } → (a ≡ true → Contains rules rule.Diverr) → (b ≡ true → Contains rules rule.Intoflow) → AreViolated v rules
division_violated v a b rules is f g = subst (λ z. AreViolated z rules) (sym is) each
  where
    each : AreViolated (record no_violations { diverr = a; intoflow = b }) rules
    each rule.Diverr e = f e
    each rule.Intoflow e = g e
    each r e = never e

-- the range of one number has that one
has_is : (a c : ℤ) → has_number (Some (a, a)) c ≡ int_eq a c
has_is a c = grind (arith, ints)

swapped : (a b : Bool) → (a || b) ≡ (b || a)
swapped true true = refl
swapped true false = refl
swapped false true = refl
swapped false false = refl

module _ (k : IntType) (a b : ℤ) where
  abbrev one : ℤ → Range
  one z = Some (z, z)

  least_is : divides_least k (one a) (one b) ≡ is_quotient_overflow k a b
  least_is = ap (λ z. k.signed && z) (ap₂ ◌&&◌ (has_is a (least_of k)) (has_is b (negsuc 0)))

  divided_is : division_violations k (one a) (one b) ≡ record no_violations { diverr = is_quotient_overflow k a b || int_eq b (pos 0); intoflow = is_quotient_overflow k a b }
  divided_is = ap₂ (λ x y. record no_violations { diverr = x || y; intoflow = x }) least_is (has_is b (pos 0))

  divisions : AreViolated (division_violations k (one a) (one b)) (division_faults k a b)
  divisions = division_violated (division_violations k (one a) (one b)) (is_quotient_overflow k a b || int_eq b (pos 0)) (is_quotient_overflow k a b) (division_faults k a b) divided_is
      (λ e. Contains-append_left _ _ rule.Diverr (fault_there (int_eq b (pos 0) || is_quotient_overflow k a b) rule.Diverr (swapped (int_eq b (pos 0)) (is_quotient_overflow k a b) ∙ e)))
      (λ e. Contains-append_right _ _ rule.Intoflow (fault_there (is_quotient_overflow k a b) rule.Intoflow e))

  overflows : (leaves outside : Bool) → leaves ≡ outside → AreViolated (overflow_violations (k.signed && leaves)) (fault_if (k.signed && outside) rule.Intoflow)
  overflows leaves outside e = overflow_violated (k.signed && leaves) _ (λ t. fault_there (k.signed && outside) rule.Intoflow (ap (λ z. k.signed && z) (sym e) ∙ t))

  scaled_none : (x : Range) → scaled_leave k x None ≡ false
  scaled_none None = refl
  scaled_none (Some x) = refl

  below_width : (w : ℤ) → int_le b (w -ℤ pos 1) ≡ int_lt b w
  below_width w = grind (arith, ints)

  -- a count outside the width leaves by no corner
  no_count : is_count k b ≡ false → corners_leave Shl k (a, a) (b, b) ≡ false
  no_count e =
      ap (scaled_leave k (range_met (Some (a, a)) (pos 0) (greatest_of k))) (met_none b (pos 0) (pos (8 * k.bytes) -ℤ pos 1) (ap (λ z. int_le (pos 0) b && z) (below_width (pos (8 * k.bytes))) ∙ e))
      ∙ scaled_none (range_met (Some (a, a)) (pos 0) (greatest_of k))

  corner_told : (s corner less : Bool) → ((s && corner) || (s && (less && true))) ≡ true → less ≡ false → (s ≡ true) × (corner ≡ true)
  corner_told true true less t e = (refl, refl)
  corner_told true false true t e = (cc)
  corner_told true false false t e = (cc)
  corner_told false corner less t e = (cc)

  shifts : in_type k a ≡ true → AreViolated (ranges_violate Shl k (one a) (one b)) (shift_faults k a b)
  shifts inside = overflow_violated _ _ (λ t. fault_there (k.signed && (int_lt a (pos 0) || (is_count k b && is_outside k (result_of Shl a b)))) rule.Intoflow (told t (int_lt a (pos 0)) refl (is_count k b) refl))
    where
      or_signed : (s x y : Bool) → ((s && x) || (s && y)) ≡ true → s ≡ true
      or_signed true x y h = refl
      or_signed false x y h = h

      told : ((k.signed && corners_leave Shl k (a, a) (b, b)) || (k.signed && (int_lt a (pos 0) && true))) ≡ true → (less : Bool) → int_lt a (pos 0) ≡ less → (count : Bool) → is_count k b ≡ count → (k.signed && (less || (count && is_outside k (result_of Shl a b)))) ≡ true
      told t true e count c = and_from _ _ (or_signed k.signed _ _ t) refl
      told t false e true c =
          let p = corner_told k.signed (corners_leave Shl k (a, a) (b, b)) (int_lt a (pos 0)) t e in
          and_from _ _ p.0 (sym (shift_corner k a b inside e c) ∙ p.1)
      told t false e false c =
          let p = corner_told k.signed (corners_leave Shl k (a, a) (b, b)) (int_lt a (pos 0)) t e in
          absurd (true≢false (sym p.1 ∙ no_count c))

  -- each fault that the ranges admit comes
  pub faults_violated : (op : IntOp) → in_type k a ≡ true → AreViolated (ranges_violate op k (one a) (one b)) (binary_faults op k a b)
  faults_violated Add i = overflows _ _ (or_self _)
  faults_violated Sub i = overflows _ _ (or_self _)
  faults_violated Mul i = overflows _ _ (or_self _ ∙ or_self _)
  faults_violated Div i = divisions
  faults_violated Rem i = divisions
  faults_violated And i = none_violated _
  faults_violated Or i = none_violated _
  faults_violated Xor i = none_violated _
  faults_violated Shl i = shifts i
  faults_violated Shr i = none_violated _

  pub unary_violated : (o : UnOp) → AreViolated (overflow_violations (k.signed && negated_leave o k (one a))) (overflow_faults k (unary_math o a))
  unary_violated o = overflows _ _ (sym (negation_is o k a))
