-- The rules that steps on integers may violate, in rising rows.
use Rattle.std.specs.Prelude.{◌≡◌, ℤ, pos, negsuc, int_le, int_lt, Bool, true, not, ◌||◌, ◌&&◌, Some, None, is_some, refl}
use Rattle.std.proofs.Common.{arith}
use Rattle.std.proofs.lemmas.Int.{ints}
use Rattle.std.proofs.lemmas.Bool.{and_parts, and_from}
use Rattle.cc_base.specs.Lattices.{LatticeOf, OrderLaws}
use Rattle.cc_base.specs.NumberRanges.{Range}
use Rattle.cc_base.specs.IntegerDomains.{IntegersOf, BoundLaws, RangeLaws}
use Rattle.cc_base.specs.IntegerLaws.{MonotoneLaws}
use Rattle.cc_base.specs.IntegerTypes.{is_size, least_of}
use Rattle.cc_base.specs.declared.int_types.IntType.{IntType}
use Rattle.cc_base.specs.declared.integer_operators.IntOp.{IntOp}
use Rattle.cc_base.specs.declared.integer_operators.IntOp.TheVariants.{Add, Sub, Mul, Div, Rem, And, Or, Xor, Shl, Shr}
use Rattle.cc_base.specs.declared.integer_operators.UnOp.{UnOp}
use Rattle.cfg.specs.declared.programs.Flow.{Flow}
use Rattle.pointer_domain.specs.declared.base_sets.Bases.{Bases}
use Rattle.value_domain.specs.declared.values.label_sets.Labels.{Labels}
use Rattle.value_domain.specs.declared.values.values.Value.{Value}
use Rattle.value_domain.specs.Values.LabelSets.{is_unlabelled, labels_leq}
use Rattle.value_domain.specs.Values.ValueTables.{ranges_leave, negated_leave}
use Rattle.domain_theorems.proofs.values.Flags.{Sets, or_sets, and_sets, not_sets}
use Rattle.domain_theorems.proofs.values.Parts.{label_parts}
use Rattle.domain_theorems.proofs.values.Ranges.{RangeBelow, bounds_monotone}
use Rattle.domain_theorems.proofs.values.Leaving.{AreOrdered, leave_more, negated_more}
use Rattle.transfer_checks.specs.ViolationSets.{no_violations}
use Rattle.transfer_checks.specs.IntegerChecks.{has_number, divides_least, division_violations, shifts_negative, leaves_signed, overflow_violations, ranges_violate, binary_violations, unary_violations}
use Rattle.transfer_checks.specs.Temporaries.{temp_value, amount_value}
use Rattle.transfer_monotone.specs.Values.LaidOut.{IsLaidOut}
use Rattle.transfer_monotone.specs.Values.ViolationsBelow.{ViolationsBelow}
use Rattle.transfer_monotone.specs.Values.StepLaws.{IntegerChecksRise}
use Rattle.transfer_monotone.proofs.values.ViolationOrder.{overflows_below, divides_below, same_below, same_way_below}
use Rattle.transfer_monotone.proofs.values.Results.{num_rises, temp_rises}
use Rattle.transfer_monotone.proofs.values.IntegerSteps.{amount_rises}

number_more : (a : ℤ) (x u : Range) → RangeBelow x u → Sets (has_number x a) (has_number u a)
number_more a None u h e = absurd (cc)
number_more a (Some p) None h e = absurd h
number_more a (Some p) (Some q) h e = let f = and_parts (int_le p.0 a) (int_le a p.1) e in let f0 = f.0 in let f1 = f.1 in and_from (int_le q.0 a) (int_le a q.1) (grind (arith, ints)) (grind (arith, ints))

pub some_more : (x u : Range) → RangeBelow x u → Sets (is_some x) (is_some u)
some_more None u h e = absurd (cc)
some_more (Some p) None h e = absurd h
some_more (Some p) (Some q) h e = refl

least_more : (k : IntType) (x y u v : Range) → RangeBelow x u → RangeBelow y v → Sets (divides_least k x y) (divides_least k u v)
least_more k x y u v h j = and_sets k.signed _ k.signed _ (λ e. e) (and_sets (has_number x (least_of k)) (has_number y (negsuc 0)) (has_number u (least_of k)) (has_number v (negsuc 0)) (number_more (least_of k) x u h) (number_more (negsuc 0) y v j))

negative_more : (k : IntType) (x y u v : Range) → RangeBelow x u → RangeBelow y v → Sets (shifts_negative k x y) (shifts_negative k u v)
negative_more k None y u v h j e = absurd (cc)
negative_more k (Some p) y None v h j e = absurd h
negative_more k (Some p) y (Some q) v h j e = and_sets k.signed (int_lt p.0 (pos 0) && is_some y) k.signed (int_lt q.0 (pos 0) && is_some v) (λ f. f) (and_sets (int_lt p.0 (pos 0)) (is_some y) (int_lt q.0 (pos 0)) (is_some v) (λ f. grind (arith, ints)) (some_more y v j)) e

leaves_more : (op : IntOp) (k : IntType) (x y u v : Range) → AreOrdered x → AreOrdered y → RangeBelow x u → RangeBelow y v → Sets (leaves_signed op k x y) (leaves_signed op k u v)
leaves_more op k x y u v c d h j = and_sets k.signed (ranges_leave op k x y) k.signed (ranges_leave op k u v) (λ e. e) (leave_more op k x y u v c d h j)

overflow_more : (a c : Bool) → Sets a c → ViolationsBelow (overflow_violations a) (overflow_violations c)
overflow_more a c h = overflows_below a c h

division_more : (k : IntType) (x y u v : Range) → RangeBelow x u → RangeBelow y v → ViolationsBelow (division_violations k x y) (division_violations k u v)
division_more k x y u v h j = divides_below (divides_least k x y || (is_some x && has_number y (pos 0))) (divides_least k x y) (divides_least k u v || (is_some u && has_number v (pos 0))) (divides_least k u v)
    (or_sets (divides_least k x y) (is_some x && has_number y (pos 0)) (divides_least k u v) (is_some u && has_number v (pos 0)) (least_more k x y u v h j) (and_sets (is_some x) (has_number y (pos 0)) (is_some u) (has_number v (pos 0)) (some_more x u h) (number_more (pos 0) y v j)))
    (least_more k x y u v h j)

ranges_more : (op : IntOp) (k : IntType) (x y u v : Range) → AreOrdered x → AreOrdered y → RangeBelow x u → RangeBelow y v → ViolationsBelow (ranges_violate op k x y) (ranges_violate op k u v)
ranges_more Div k x y u v c d h j = division_more k x y u v h j
ranges_more Rem k x y u v c d h j = division_more k x y u v h j
ranges_more Add k x y u v c d h j = overflow_more (leaves_signed Add k x y) (leaves_signed Add k u v) (leaves_more Add k x y u v c d h j)
ranges_more Sub k x y u v c d h j = overflow_more (leaves_signed Sub k x y) (leaves_signed Sub k u v) (leaves_more Sub k x y u v c d h j)
ranges_more Mul k x y u v c d h j = overflow_more (leaves_signed Mul k x y) (leaves_signed Mul k u v) (leaves_more Mul k x y u v c d h j)
ranges_more Shl k x y u v c d h j = overflow_more (leaves_signed Shl k x y || shifts_negative k x y) (leaves_signed Shl k u v || shifts_negative k u v) (or_sets (leaves_signed Shl k x y) (shifts_negative k x y) (leaves_signed Shl k u v) (shifts_negative k u v) (leaves_more Shl k x y u v c d h j) (negative_more k x y u v h j))
ranges_more And k x y u v c d h j = same_below no_violations
ranges_more Or k x y u v c d h j = same_below no_violations
ranges_more Xor k x y u v c d h j = same_below no_violations
ranges_more Shr k x y u v c d h j = same_below no_violations

-- labels that spread
pub labelled_more : (s t : Labels) → labels_leq s t ≡ true → Sets (not (is_unlabelled s)) (not (is_unlabelled t))
labelled_more s t h = let p = label_parts s t h in not_sets (is_unlabelled s) (is_unlabelled t) (not_sets (t.lo || (t.hi || t.mutated)) (s.lo || (s.hi || s.mutated)) (or_sets s.lo (s.hi || s.mutated) t.lo (t.hi || t.mutated) p.lo (or_sets s.hi s.mutated t.hi t.mutated p.hi p.mutated)))

module _ {I : Type 0} {l : LatticeOf I} {n : IntegersOf I} {stands : I → ℤ → Type 0} (o : OrderLaws l) (b : BoundLaws l n stands) where
  ordered_at : (x : I) (r : Range) → n.bounds x ≡ r → AreOrdered r
  ordered_at x None e = tt
  ordered_at x (Some p) e = b.proper x p.0 p.1 e

  ordered : (x : I) → AreOrdered (n.bounds x)
  ordered x = ordered_at x (n.bounds x) refl

  binary_more : (op : IntOp) (kind : IntType) (x y u v : Value I) → l.leq x.num u.num ≡ true → l.leq y.num v.num ≡ true → ViolationsBelow (binary_violations n op kind x y) (binary_violations n op kind u v)
  binary_more op kind x y u v h j = ranges_more op kind (n.bounds x.num) (n.bounds y.num) (n.bounds u.num) (n.bounds v.num) (ordered x.num) (ordered y.num) (bounds_monotone b x.num u.num h) (bounds_monotone b y.num v.num j)

  unary_more : (op : UnOp) (kind : IntType) (x u : Value I) → l.leq x.num u.num ≡ true → ViolationsBelow (unary_violations n op kind x) (unary_violations n op kind u)
  unary_more op kind x u h = overflow_more (kind.signed && negated_leave op kind (n.bounds x.num)) (kind.signed && negated_leave op kind (n.bounds u.num))
      (and_sets kind.signed (negated_leave op kind (n.bounds x.num)) kind.signed (negated_leave op kind (n.bounds u.num)) (λ e. e) (negated_more op kind (n.bounds x.num) (n.bounds u.num) (ordered x.num) (bounds_monotone b x.num u.num h)))

  module _ (g : MonotoneLaws l n) (f : RangeLaws l n) (all : Bases) (flow : Flow) (k : IsLaidOut all flow) where
    pub integer_checks : IntegerChecksRise l n all flow
    integer_checks = record {
      binary = λ op left right kind r s h. same_way_below (is_size kind.bytes) (binary_violations n op kind (temp_value l n flow r left) (amount_value l n flow r right)) (binary_violations n op kind (temp_value l n flow s left) (amount_value l n flow s right)) no_violations no_violations
          (λ e. binary_more op kind (temp_value l n flow r left) (amount_value l n flow r right) (temp_value l n flow s left) (amount_value l n flow s right) (num_rises o b all (temp_rises o b all flow k r s h left)) (num_rises o b all (amount_rises o b g f all flow k r s h right)))
          (same_below no_violations);
      unary = λ op operand kind r s h. same_way_below (is_size kind.bytes) (unary_violations n op kind (temp_value l n flow r operand)) (unary_violations n op kind (temp_value l n flow s operand)) no_violations no_violations
          (λ e. unary_more op kind (temp_value l n flow r operand) (temp_value l n flow s operand) (num_rises o b all (temp_rises o b all flow k r s h operand))) (same_below no_violations);
    }
