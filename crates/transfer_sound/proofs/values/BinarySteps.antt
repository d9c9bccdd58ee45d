-- Operators on two integers: results with their labels, and faults.
use Rattle.std.proofs.Common.{◌≡◌, ◌*◌, ◌^◌, Bool, true, false, not, ◌||◌, ◌&&◌, Some, None, [], ◌∷◌, arith, subst, sym, refl, ap, ◌∙◌, inl, inr}
use Rattle.std.specs.Prelude.{ℤ, pos, negsuc, ◌+ℤ◌, ◌-ℤ◌, ◌*ℤ◌, ◌≤ℤ◌, ◌<ℤ◌, unsigned_abs, int_le, int_lt}
use Rattle.std.specs.Int.{int_min, int_max}
use Rattle.std.specs.Ordering.{int_eq}
use Rattle.std.proofs.lemmas.Int.{ints, clamps}
use Rattle.std.proofs.lemmas.Bool.{cases_Bool, cond_both, and_parts, and_from, or_cases, true≢false}
use Rattle.std.proofs.Math.Bool.{or_self}
use Rattle.cc_base.specs.Lattices.{LatticeOf}
use Rattle.cc_base.specs.NumberRanges.{Range, range_met}
use Rattle.cc_base.specs.IntegerTypes.{least_of, greatest_of, in_type}
use Rattle.cc_base.specs.IntegerDomains.{IntegersOf, BoundLaws}
use Rattle.cc_base.specs.IntegerLaws.{SoundLaws}
use Rattle.cc_base.specs.MachineArithmetic.{binary_result, is_count, is_quotient_overflow}
use Rattle.cc_base.specs.declared.diagnostics.Rule.{Rule}
use Rattle.cc_base.specs.declared.diagnostics.Rule.TheVariants as rule
use Rattle.cc_base.specs.declared.int_types.IntType.{IntType}
use Rattle.cc_base.specs.declared.integer_operators.IntOp.{IntOp}
use Rattle.cc_base.specs.declared.integer_operators.IntOp.TheVariants.{Add, Sub, Mul, Div, Rem, And, Or, Xor, Shl, Shr}
use Rattle.value_domain.specs.declared.values.values.Value.{Value}
use Rattle.value_domain.specs.Values.LabelSets.{labels_leq}
use Rattle.value_domain.specs.Values.LabelSets as set
use Rattle.value_domain.specs.Values.ValueTables.{corners_leave, scaled_leave, ranges_leave, value_arith}
use Rattle.value_domain.specs.Values.ValueTables as table
use Rattle.domain_theorems.proofs.values.Flags.{or_left, or_right}
use Rattle.domain_theorems.proofs.values.LabelStands.{label_meaning}
use Rattle.domain_theorems.proofs.values.Numbers.{RangeHas, bounds_have}
use Rattle.domain_theorems.proofs.values.ValueStands.{value_meaning}
use Rattle.transfer_checks.specs.IntegerChecks.{has_number, divides_least, division_violations, shifts_negative, leaves_signed, overflow_violations, binary_violations}
use Rattle.transfer_checks.specs.declared.violation_sets.Violations.{Violations}
use Rattle.memory_model.specs.Memory.Labels.{Labels, operated_labels}
use Rattle.memory_model.specs.Effects.IntegerEffects.{result_of, is_outside, fault_if, division_faults, shift_faults, overflow_faults, binary_faults}
use Rattle.store_sound.specs.Concretization.SeenLabels.{as_set}
use Rattle.transfer_sound.proofs.values.Admitted.{AreAdmitted, none_admitted, one_admitted, both_admitted}
use Rattle.transfer_sound.proofs.values.TypeRanges.{same_int, bounds_number, bounds_some, lt_from}

-- ---- labels

pub same_operated : (op : IntOp) (s t : Labels) (k : IntType) (leaves : Bool) → as_set (operated_labels op s t k leaves) ≡ set.operated_labels op (as_set s) (as_set t) k leaves
same_operated Add s t k leaves = refl
same_operated Sub s t k leaves = refl
same_operated Mul s t k leaves = refl
same_operated Div s t k leaves = refl
same_operated Rem s t k leaves = refl
same_operated And s t k leaves = refl
same_operated Or s t k leaves = refl
same_operated Xor s t k leaves = refl
same_operated Shl s t k leaves = refl
same_operated Shr s t k leaves = refl

-- one number within bounds is left by them
pub met_one : (a lo hi : ℤ) → lo ≤ℤ a → a ≤ℤ hi → range_met (Some (a, a)) lo hi ≡ Some (a, a)
met_one a lo hi f g =
    let low : int_max a lo ≡ a = omega (arith, ints, clamps, f) in
    let high : int_min a hi ≡ a = omega (arith, ints, clamps, g) in
    cond_both (int_le (int_max a lo) (int_min a hi)) (Some (int_max a lo, int_min a hi)) None (λ r. r ≡ Some (a, a))
    (λ e. λ i. Some (low i, high i)) (λ e. absurd (grind (arith, ints, clamps, f, g, e)))

pub lt_is : (a b : ℤ) → int_lt a b ≡ false → b ≤ℤ a
lt_is a b h = grind (arith, ints)

pub le_is : (a b : ℤ) → int_le a b ≡ true → a ≤ℤ b
le_is a b h = grind (arith, ints)

count_below : (k : IntType) (b : ℤ) → is_count k b ≡ true → (pos 0 ≤ℤ b) × (b ≤ℤ (pos (8 * k.bytes) -ℤ pos 1))
count_below k b h =
    let p = and_parts (int_le (pos 0) b) (int_lt b (pos (8 * k.bytes))) h in
    let f = le_is (pos 0) b p.0 in
    let g = lt_from b (pos (8 * k.bytes)) p.1 in
    (f, omega (arith, ints, g))

-- a number of a type from 0 on that is shifted by a count leaves the type by its corner
pub shift_corner : (k : IntType) (a b : ℤ) → in_type k a ≡ true → int_lt a (pos 0) ≡ false → is_count k b ≡ true → corners_leave Shl k (a, a) (b, b) ≡ not (in_type k (a *ℤ pos (2 ^ unsigned_abs b)))
shift_corner k a b inside positive count =
    let top = le_is a (greatest_of k) (and_parts (int_le (least_of k) a) (int_le a (greatest_of k)) inside).1 in
    let c = count_below k b count in
    let x = met_one a (pos 0) (greatest_of k) (lt_is a (pos 0) positive) top in
    let y = met_one b (pos 0) (pos (8 * k.bytes) -ℤ pos 1) c.0 c.1 in
    ap (λ z. scaled_leave k z (range_met (Some (b, b)) (pos 0) (pos (8 * k.bytes) -ℤ pos 1))) x ∙ ap (scaled_leave k (Some (a, a))) y

some_shift : (k : IntType) (a b c : ℤ) → binary_result Shl k a b ≡ Some c → (is_count k b ≡ true) × (int_lt a (pos 0) ≡ false)
some_shift k a b c h = elim (cases_Bool (is_count k b)) [
  | inr e ↦ (let g : None ≡ Some c = rw e at h in cc)
  | inl e ↦ elim (cases_Bool (int_lt a (pos 0))) [
    | inl f ↦ (let g : None ≡ Some c = rw (e, f) at h in cc)
    | inr f ↦ (e, f)
  ]
]

-- whether the mathematical result leaves the type, as the machine and the corners say it
pub left_is : (op : IntOp) (k : IntType) (a b c : ℤ) → in_type k a ≡ true → binary_result op k a b ≡ Some c → is_outside k (result_of op a b) ≡ corners_leave op k (a, a) (b, b)
left_is Add k a b c i h = sym (or_self (table.is_outside k (a +ℤ b)))
left_is Sub k a b c i h = sym (or_self (table.is_outside k (a -ℤ b)))
left_is Mul k a b c i h = sym (or_self (table.is_outside k (a *ℤ b) || table.is_outside k (a *ℤ b)) ∙ or_self (table.is_outside k (a *ℤ b)))
left_is Div k a b c i h = refl
left_is Rem k a b c i h = refl
left_is And k a b c i h = refl
left_is Or k a b c i h = refl
left_is Xor k a b c i h = refl
left_is Shl k a b c i h = let s = some_shift k a b c h in sym (shift_corner k a b i s.1 s.0)
left_is Shr k a b c i h = refl

module _ {I : Type 0} {l : LatticeOf I} {n : IntegersOf I} {gamma : I → ℤ → Type 0} (q : BoundLaws l n gamma) where
  pub labels_told : (op : IntOp) (k : IntType) (x y : Value I) (s t : Labels) (a b c : ℤ) → gamma x.num a → gamma y.num b → labels_leq (as_set s) x.labels ≡ true → labels_leq (as_set t) y.labels ≡ true → in_type k a ≡ true → binary_result op k a b ≡ Some c
      → labels_leq (as_set (operated_labels op s t k (is_outside k (result_of op a b)))) (value_arith l n op x y k).labels ≡ true
  labels_told op k x y s t a b c f g u v i h =
      let told = (label_meaning q).arith op k x y (as_set s) (as_set t) a b f g u v in
      let same = same_operated op s t k (is_outside k (result_of op a b)) ∙ ap (set.operated_labels op (as_set s) (as_set t) k) (left_is op k a b c i h) in
      subst (λ z. labels_leq z (value_arith l n op x y k).labels ≡ true) (sym same) told

-- ---- faults

if_admitted : (v : Violations) (b : Bool) (r : Rule) → (b ≡ true → AreAdmitted v (r ∷ [])) → AreAdmitted v (fault_if b r)
if_admitted v true r h = h refl
if_admitted v false r h = none_admitted v

no_fault : (v : Violations) (k : IntType) (r : Rule) → AreAdmitted v (fault_if (k.signed && false) r)
no_fault v k r = if_admitted v (k.signed && false) r (λ e. absurd (true≢false (sym (and_parts k.signed false e).1)))

module _ {I : Type 0} {l : LatticeOf I} {n : IntegersOf I} {gamma : I → ℤ → Type 0} (q : BoundLaws l n gamma) (s : SoundLaws l n gamma) (k : IntType) (x y : Value I) (a b : ℤ) (f : gamma x.num a) (g : gamma y.num b) (inside : in_type k a ≡ true) where
  least_told : is_quotient_overflow k a b ≡ true → divides_least k (n.bounds x.num) (n.bounds y.num) ≡ true
  least_told h =
      let p = and_parts k.signed (int_eq a (least_of k) && int_eq b (negsuc 0)) h in
      let r = and_parts (int_eq a (least_of k)) (int_eq b (negsuc 0)) p.1 in
      and_from _ _ p.0 (and_from _ _
      (subst (λ z. has_number (n.bounds x.num) z ≡ true) (same_int a (least_of k) r.0) (bounds_number q x.num a f))
      (subst (λ z. has_number (n.bounds y.num) z ≡ true) (same_int b (negsuc 0) r.1) (bounds_number q y.num b g)))

  abbrev divided : Violations
  divided = division_violations k (n.bounds x.num) (n.bounds y.num)

  zero_told : int_eq b (pos 0) ≡ true → divided.diverr ≡ true
  zero_told h = or_right (divides_least k (n.bounds x.num) (n.bounds y.num)) _ (and_from _ _ (bounds_some q x.num a f) (subst (λ z. has_number (n.bounds y.num) z ≡ true) (same_int b (pos 0) h) (bounds_number q y.num b g)))

  division_admitted : AreAdmitted divided (division_faults k a b)
  division_admitted = both_admitted divided _ _
      (if_admitted divided (int_eq b (pos 0) || is_quotient_overflow k a b) rule.Diverr (λ e. one_admitted divided rule.Diverr (elim (or_cases (int_eq b (pos 0)) (is_quotient_overflow k a b) e) [
        | inl z ↦ zero_told z
        | inr z ↦ or_left (divides_least k (n.bounds x.num) (n.bounds y.num)) _ (least_told z)
      ])))
      (if_admitted divided (is_quotient_overflow k a b) rule.Intoflow (λ e. one_admitted divided rule.Intoflow (least_told e)))

  -- a result outside a signed type
  outside_told : (op : IntOp) → corners_leave op k (a, a) (b, b) ≡ true → k.signed ≡ true → leaves_signed op k (n.bounds x.num) (n.bounds y.num) ≡ true
  outside_told op e signed = and_from _ _ signed ((value_meaning q s).leaves op k x y a b f g e)

  overflow_admitted : (op : IntOp) (z : ℤ) → not (in_type k z) ≡ corners_leave op k (a, a) (b, b) → AreAdmitted (overflow_violations (leaves_signed op k (n.bounds x.num) (n.bounds y.num))) (overflow_faults k (Some z))
  overflow_admitted op z same =
      let v = overflow_violations (leaves_signed op k (n.bounds x.num) (n.bounds y.num)) in
      if_admitted v (k.signed && not (in_type k z)) rule.Intoflow (λ e.
      let p = and_parts k.signed (not (in_type k z)) e in
      one_admitted v rule.Intoflow (outside_told op (sym same ∙ p.1) p.0))

  negative_range : (r : Range) → RangeHas r a → int_lt a (pos 0) ≡ true → k.signed ≡ true → shifts_negative k r (n.bounds y.num) ≡ true
  negative_range None h e signed = absurd h
  negative_range (Some p) h e signed = let u = h.0 in let w = lt_from a (pos 0) e in and_from _ _ signed (and_from _ _ (below p.0 a u w) (bounds_some q y.num b g))
    where
      below : (c d : ℤ) → c ≤ℤ d → d <ℤ pos 0 → int_lt c (pos 0) ≡ true
      below c d u w = grind (arith, ints)

  abbrev shifted : Violations
  shifted = overflow_violations (leaves_signed Shl k (n.bounds x.num) (n.bounds y.num) || shifts_negative k (n.bounds x.num) (n.bounds y.num))

  shift_told : k.signed ≡ true → (int_lt a (pos 0) || (is_count k b && not (in_type k (a *ℤ pos (2 ^ unsigned_abs b))))) ≡ true → shifted.intoflow ≡ true
  shift_told signed h = elim (cases_Bool (int_lt a (pos 0))) [
    | inl e ↦ or_right (leaves_signed Shl k (n.bounds x.num) (n.bounds y.num)) _ (negative_range (n.bounds x.num) (bounds_have q x.num a f) e signed)
    | inr e ↦ (let t : (is_count k b && not (in_type k (a *ℤ pos (2 ^ unsigned_abs b)))) ≡ true = rw e at h in
        let p = and_parts (is_count k b) (not (in_type k (a *ℤ pos (2 ^ unsigned_abs b)))) t in
        or_left _ _ (outside_told Shl (shift_corner k a b inside e p.0 ∙ p.1) signed))
  ]

  shift_admitted : AreAdmitted shifted (shift_faults k a b)
  shift_admitted = if_admitted shifted (k.signed && (int_lt a (pos 0) || (is_count k b && not (in_type k (a *ℤ pos (2 ^ unsigned_abs b)))))) rule.Intoflow (λ e.
      let p = and_parts k.signed (int_lt a (pos 0) || (is_count k b && not (in_type k (a *ℤ pos (2 ^ unsigned_abs b))))) e in
      one_admitted shifted rule.Intoflow (shift_told p.0 p.1))

  -- each fault of the operator is admitted
  pub faults_admitted : (op : IntOp) → AreAdmitted (binary_violations n op k x y) (binary_faults op k a b)
  faults_admitted Add = overflow_admitted Add (a +ℤ b) (sym (or_self (table.is_outside k (a +ℤ b))))
  faults_admitted Sub = overflow_admitted Sub (a -ℤ b) (sym (or_self (table.is_outside k (a -ℤ b))))
  faults_admitted Mul = overflow_admitted Mul (a *ℤ b) (sym (or_self (table.is_outside k (a *ℤ b) || table.is_outside k (a *ℤ b)) ∙ or_self (table.is_outside k (a *ℤ b))))
  faults_admitted Div = division_admitted
  faults_admitted Rem = division_admitted
  faults_admitted And = no_fault (binary_violations n And k x y) k rule.Intoflow
  faults_admitted Or = no_fault (binary_violations n Or k x y) k rule.Intoflow
  faults_admitted Xor = no_fault (binary_violations n Xor k x y) k rule.Intoflow
  faults_admitted Shl = shift_admitted
  faults_admitted Shr = no_fault (binary_violations n Shr k x y) k rule.Intoflow
