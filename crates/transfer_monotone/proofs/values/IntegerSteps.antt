-- Steps on integers, and conversions, in rising rows.
use Rattle.std.specs.Prelude.{◌≡◌, ℕ, ◌^◌, ◌-◌, ◌==◌, ℤ, pos, negsuc, ◌≤ℤ◌, Bool, true, false, Some, None, List, refl}
use Rattle.std.proofs.Common.{arith, sym, subst, ◌∙◌, inl, inr}
use Rattle.std.proofs.lemmas.Int.{ints}
use Rattle.std.proofs.lemmas.Bool.{or_cases, eqb-true, and_from}
use Rattle.cc_base.specs.Lattices.{LatticeOf, OrderLaws}
use Rattle.cc_base.specs.NumberRanges.{Range}
use Rattle.cc_base.specs.IntegerDomains.{IntegersOf, BoundLaws, RangeLaws}
use Rattle.cc_base.specs.IntegerLaws.{MonotoneLaws, tri_leq}
use Rattle.cc_base.specs.IntegerTypes.{is_size, least_of, greatest_of}
use Rattle.cc_base.specs.Truths.{can_hold, can_fail}
use Rattle.cc_base.specs.declared.int_types.IntType.{IntType}
use Rattle.cc_base.specs.declared.integer_operators.IntOp.{IntOp}
use Rattle.cc_base.specs.declared.integer_operators.UnOp.{UnOp}
use Rattle.cc_base.specs.declared.integer_operators.Rel.{Rel}
use Rattle.cc_base.specs.declared.integer_operators.Tri.{Tri}
use Rattle.cc_base.specs.declared.integer_operators.Tri.TheVariants.{Yes, No, Both, Never}
use Rattle.cfg.specs.declared.programs.Flow.{Flow}
use Rattle.cfg.specs.declared.machine_instructions.Amount.{Amount}
use Rattle.cfg.specs.declared.machine_instructions.Amount.TheVariants.{Temp, One}
use Rattle.cfg.specs.declared.machine_instructions.Scalar.{Scalar}
use Rattle.cfg.specs.declared.machine_instructions.Scalar.TheVariants as scalar
use Rattle.pointer_domain.specs.declared.base_sets.Bases.{Bases}
use Rattle.value_domain.specs.declared.values.values.Value.{Value}
use Rattle.value_domain.specs.declared.values.row_cells.Cell.{Cell}
use Rattle.value_domain.specs.Values.LabelSets.{no_labels, labels_order}
use Rattle.value_domain.specs.Values.ValueTables.{number_value, value_arith, value_unary, value_convert, value_truth}
use Rattle.store_cells.specs.NearValues.{near_value}
use Rattle.domain_theorems.proofs.values.Flags.{sets_flag, holds_sets, fails_sets}
use Rattle.domain_theorems.proofs.values.Parts.{value_parts}
use Rattle.domain_theorems.proofs.values.Ranges.{RangeBelow}
use Rattle.domain_theorems.proofs.values.ValueOperations.{arith_monotone, unary_monotone, convert_monotone, truth_monotone}
use Rattle.store_monotone.specs.Operations.TopCells.{top_number}
use Rattle.store_monotone.specs.Operations.TopRows.{top_row}
use Rattle.store_monotone.proofs.operations.AddedRanges.{below_of_bounds}
use Rattle.store_monotone.proofs.operations.NearCells.{near_value_is}
use Rattle.store_monotone.proofs.operations.OwnValues.{one_within}
use Rattle.transfer_checks.specs.Temporaries.{temp_value, amount_value}
use Rattle.transfer_system.specs.ResultTemps.{negated}
use Rattle.transfer_system.specs.IntegerSteps.{constant_step, binary_step, unary_step, compare_step, not_step, put_converted, converted_pointer, convert_value, convert_step}
use Rattle.transfer_monotone.specs.Values.RisingRows.{LeftRise, PointersRise, ValuesRise}
use Rattle.transfer_monotone.specs.Values.LaidOut.{IsLaidOut}
use Rattle.transfer_monotone.specs.Values.StepLaws.{FlowRows, Rises, IntegerStepsRise}
use Rattle.transfer_monotone.proofs.values.RisingCells.{left_same}
use Rattle.transfer_monotone.proofs.values.Results.{number_rises, part_rises, num_rises, null_rises, temp_rises, number_put, pointer_put, truth_put}

-- ---- all numbers of a type lie from -2^64 to 2^64

abbrev HasNearEnds : IntType → Type 0
HasNearEnds k = (negsuc (2 ^ 64 - 1) ≤ℤ least_of k) × (greatest_of k ≤ℤ pos (2 ^ 64))

abbrev of_size : ℕ → ℕ → Bool → IntType
of_size bytes rank s = record { bytes = bytes; signed = s; rank = rank }

ends1 : (rank : ℕ) (s : Bool) → HasNearEnds (of_size 1 rank s)
ends1 rank true = (omega (arith, ints), omega (arith, ints))
ends1 rank false = (omega (arith, ints), omega (arith, ints))

ends2 : (rank : ℕ) (s : Bool) → HasNearEnds (of_size 2 rank s)
ends2 rank true = (omega (arith, ints), omega (arith, ints))
ends2 rank false = (omega (arith, ints), omega (arith, ints))

ends4 : (rank : ℕ) (s : Bool) → HasNearEnds (of_size 4 rank s)
ends4 rank true = (omega (arith, ints), omega (arith, ints))
ends4 rank false = (omega (arith, ints), omega (arith, ints))

ends8 : (rank : ℕ) (s : Bool) → HasNearEnds (of_size 8 rank s)
ends8 rank true = (omega (arith, ints), omega (arith, ints))
ends8 rank false = (omega (arith, ints), omega (arith, ints))

pub near_ends : (k : IntType) → is_size k.bytes ≡ true → HasNearEnds k
near_ends k h = elim (or_cases (k.bytes == 1) _ h) [
  | inl e ↦ subst (λ z. HasNearEnds (of_size z k.rank k.signed)) (sym (eqb-true k.bytes 1 e)) (ends1 k.rank k.signed)
  | inr f ↦ elim (or_cases (k.bytes == 2) _ f) [
    | inl e ↦ subst (λ z. HasNearEnds (of_size z k.rank k.signed)) (sym (eqb-true k.bytes 2 e)) (ends2 k.rank k.signed)
    | inr g ↦ elim (or_cases (k.bytes == 4) (k.bytes == 8) g) [
      | inl e ↦ subst (λ z. HasNearEnds (of_size z k.rank k.signed)) (sym (eqb-true k.bytes 4 e)) (ends4 k.rank k.signed)
      | inr e ↦ subst (λ z. HasNearEnds (of_size z k.rank k.signed)) (sym (eqb-true k.bytes 8 e)) (ends8 k.rank k.signed)
    ]
  ]
]

-- ---- the other truth values

negated_holds : (t : Tri) → can_hold (negated t) ≡ can_fail t
negated_holds Yes = refl
negated_holds No = refl
negated_holds Both = refl
negated_holds Never = refl

negated_fails : (t : Tri) → can_fail (negated t) ≡ can_hold t
negated_fails Yes = refl
negated_fails No = refl
negated_fails Both = refl
negated_fails Never = refl

pub negated_rises : (s t : Tri) → tri_leq s t ≡ true → tri_leq (negated s) (negated t) ≡ true
negated_rises s t h = and_from _ _
    (sets_flag _ _ (λ e. negated_holds t ∙ fails_sets s t h (sym (negated_holds s) ∙ e)))
    (sets_flag _ _ (λ e. negated_fails t ∙ holds_sets s t h (sym (negated_fails s) ∙ e)))

module _ {I : Type 0} {l : LatticeOf I} {n : IntegersOf I} {stands : I → ℤ → Type 0} (o : OrderLaws l) (b : BoundLaws l n stands) where
  -- numbers of a type are near
  pub type_near : (x : I) (k : IntType) → is_size k.bytes ≡ true → ((c d : ℤ) → n.bounds x ≡ Some (c, d) → (least_of k ≤ℤ c) × (d ≤ℤ greatest_of k)) → l.leq x (top_number n) ≡ true
  type_near x k h fits = let e = near_ends k h in below_of_bounds o b x (negsuc (2 ^ 64 - 1)) (pos (2 ^ 64)) (bounded e (n.bounds x) refl)
    where
      bounded : HasNearEnds k → (r : Range) → n.bounds x ≡ r → RangeBelow r (Some (negsuc (2 ^ 64 - 1), pos (2 ^ 64)))
      bounded e None f = tt
      bounded e (Some p) f = let q = fits p.0 p.1 f in let u = e.0 in let v = e.1 in (omega (arith, ints), omega (arith, ints))

  pub one_near : (a : ℤ) → negsuc (2 ^ 64 - 1) ≤ℤ a → a ≤ℤ pos (2 ^ 64) → l.leq (n.one a) (top_number n) ≡ true
  one_near a h k = one_within o b a (negsuc (2 ^ 64 - 1)) (pos (2 ^ 64)) h k

  module _ (g : MonotoneLaws l n) (f : RangeLaws l n) (all : Bases) (flow : Flow) (k : IsLaidOut all flow) where
    pub one_rises : ValuesRise l n all (near_value l n (number_value l (n.one (pos 1)) no_labels)) (near_value l n (number_value l (n.one (pos 1)) no_labels))
    one_rises =
        let v = number_rises o b all (n.one (pos 1)) (n.one (pos 1)) no_labels no_labels (o.reflexive (n.one (pos 1))) (one_near (pos 1) (omega (arith, ints)) (omega (arith, ints))) (labels_order.reflexive no_labels) in
        subst (λ z. ValuesRise l n all z z) (sym (near_value_is o b (number_value l (n.one (pos 1)) no_labels) all v.own)) v

    pub amount_rises : (r s : List (Cell I)) → FlowRows l n all flow r s → (amount : Amount) → ValuesRise l n all (amount_value l n flow r amount) (amount_value l n flow s amount)
    amount_rises r s h (Temp temp) = temp_rises o b all flow k r s h temp
    amount_rises r s h One = one_rises

    -- ---- results

    arith_rises : (op : IntOp) (kind : IntType) → is_size kind.bytes ≡ true → (x y u v : Value I) → ValuesRise l n all x u → ValuesRise l n all y v → ValuesRise l n all (value_arith l n op x y kind) (value_arith l n op u v kind)
    arith_rises op kind c x y u v i j =
        let q = value_parts l (value_arith l n op x y kind) (value_arith l n op u v kind) (arith_monotone o b g op kind x y u v c i.below j.below) in
        number_rises o b all (n.arith op x.num y.num kind) (n.arith op u.num v.num kind) _ _ q.num (type_near (n.arith op u.num v.num kind) kind c (λ a e z. f.arith_fits op u.num v.num kind a e c z)) q.labels

    unary_rises : (op : UnOp) (kind : IntType) → is_size kind.bytes ≡ true → (x u : Value I) → ValuesRise l n all x u → ValuesRise l n all (value_unary l n op x kind) (value_unary l n op u kind)
    unary_rises op kind c x u i =
        let q = value_parts l (value_unary l n op x kind) (value_unary l n op u kind) (unary_monotone o b g op kind x u c i.below) in
        number_rises o b all (n.unary op x.num kind) (n.unary op u.num kind) _ _ q.num (type_near (n.unary op u.num kind) kind c (λ a e z. f.unary_fits op u.num kind a e c z)) q.labels

    pub converted_rises : (kind : IntType) → is_size kind.bytes ≡ true → (x u : Value I) → ValuesRise l n all x u → ValuesRise l n all (value_convert l n x kind) (value_convert l n u kind)
    converted_rises kind c x u i =
        let q = value_parts l (value_convert l n x kind) (value_convert l n u kind) (convert_monotone o b g kind x u c i.below) in
        number_rises o b all (n.convert x.num kind) (n.convert u.num kind) _ _ q.num (type_near (n.convert u.num kind) kind c (λ a e z. f.convert_fits u.num kind a e c z)) q.labels

    -- ---- steps

    constant_rises : (to : ℕ) (number : ℤ) → negsuc (2 ^ 64 - 1) ≤ℤ number → number ≤ℤ pos (2 ^ 64) → Rises l n all flow (λ row. constant_step l n flow row to number)
    unfolding constant_step
    constant_rises to number low high r s h = number_put o b all flow k r s h to _ _ (number_rises o b all (n.one number) (n.one number) no_labels no_labels (o.reflexive (n.one number)) (one_near number low high) (labels_order.reflexive no_labels))

    binary_rises : (to : ℕ) (op : IntOp) (left : ℕ) (right : Amount) (kind : IntType) → Rises l n all flow (λ row. binary_step l n flow row to op left right kind)
    unfolding binary_step
    binary_rises to op left right kind r s h = left_same l n (top_row n all flow.bases.items flow.temps) (is_size kind.bytes) _ _ None None
        (λ c. number_put o b all flow k r s h to _ _ (arith_rises op kind c _ _ _ _ (temp_rises o b all flow k r s h left) (amount_rises r s h right))) (λ c. tt)

    unary_step_rises : (to : ℕ) (op : UnOp) (operand : ℕ) (kind : IntType) → Rises l n all flow (λ row. unary_step l n flow row to op operand kind)
    unfolding unary_step
    unary_step_rises to op operand kind r s h = left_same l n (top_row n all flow.bases.items flow.temps) (is_size kind.bytes) _ _ None None
        (λ c. number_put o b all flow k r s h to _ _ (unary_rises op kind c _ _ (temp_rises o b all flow k r s h operand))) (λ c. tt)

    compare_rises : (to : ℕ) (rel : Rel) (left right : ℕ) → Rises l n all flow (λ row. compare_step l n flow row to rel left right)
    unfolding compare_step
    compare_rises to rel left right r s h =
        let x = temp_rises o b all flow k r s h left in
        let y = temp_rises o b all flow k r s h right in
        truth_put o b all flow k r s h to g _ _ (g.compare_monotone rel (temp_value l n flow r left).num (temp_value l n flow r right).num (temp_value l n flow s left).num (temp_value l n flow s right).num (num_rises o b all x) (num_rises o b all y))

    not_rises : (to operand : ℕ) → Rises l n all flow (λ row. not_step l n flow row to operand)
    unfolding not_step
    not_rises to operand r s h = truth_put o b all flow k r s h to g _ _ (negated_rises (value_truth n (temp_value l n flow r operand)) (value_truth n (temp_value l n flow s operand)) (truth_monotone o b g (temp_value l n flow r operand) (temp_value l n flow s operand) (temp_rises o b all flow k r s h operand).below))

    put_converted_rises : (r s : List (Cell I)) → FlowRows l n all flow r s → (to : ℕ) (v w : Value I) → ValuesRise l n all v w → (kind : IntType) → LeftRise l n (top_row n all flow.bases.items flow.temps) (put_converted l n flow r to v kind) (put_converted l n flow s to w kind)
    unfolding put_converted
    put_converted_rises r s h to v w i kind = left_same l n (top_row n all flow.bases.items flow.temps) (is_size kind.bytes) _ _ None None (λ c. number_put o b all flow k r s h to _ _ (converted_rises kind c v w i)) (λ c. tt)

    converted_pointer_rises : (from : Scalar) (v w : Value I) → ValuesRise l n all v w → PointersRise l n all (converted_pointer l from v) (converted_pointer l from w)
    converted_pointer_rises (scalar.Int kind) v w i = null_rises o b all
    converted_pointer_rises scalar.Pointer v w i = part_rises o b all v w i

    convert_value_rises : (r s : List (Cell I)) → FlowRows l n all flow r s → (to : ℕ) (v w : Value I) → ValuesRise l n all v w → (from kind : Scalar) → LeftRise l n (top_row n all flow.bases.items flow.temps) (convert_value l n flow r to v from kind) (convert_value l n flow s to w from kind)
    unfolding convert_value
    convert_value_rises r s h to v w i from (scalar.Int kind) = put_converted_rises r s h to v w i kind
    convert_value_rises r s h to v w i from scalar.Pointer = pointer_put o b all flow k r s h to _ _ (converted_pointer_rises from v w i)

    convert_rises : (to operand : ℕ) (from kind : Scalar) → Rises l n all flow (λ row. convert_step l n flow row to operand from kind)
    unfolding convert_step
    convert_rises to operand from kind r s h = convert_value_rises r s h to _ _ (temp_rises o b all flow k r s h operand) from kind

    pub integer_steps : IntegerStepsRise l n all flow
    integer_steps = record { constant = constant_rises; binary = binary_rises; unary = unary_step_rises; compare = compare_rises; not_zero = not_rises; convert = convert_rises }
