-- Operators on values. `l` and `n` are the lattice and the integers of the numbers' domain.
use Rattle.std.specs.Prelude.{◌≡◌, ℕ, ◌*◌, ◌^◌, ℤ, pos, neg_ℤ, unsigned_abs, ◌≤ℤ◌, ◌+ℤ◌, ◌-ℤ◌, ◌*ℤ◌, Bool, true, false, cond, not, ◌&&◌, ◌||◌, Option, Some, None}
use Rattle.cc_base.specs.Lattices.{LatticeOf}
use Rattle.cc_base.specs.IntegerTypes.{in_type, greatest_of}
use Rattle.cc_base.specs.IntegerDomains.{IntegersOf}
use Rattle.cc_base.specs.NumberRanges.{Range, range_met}
use Rattle.cc_base.specs.declared.int_types.IntType.{IntType}
use Rattle.cc_base.specs.declared.integer_operators.IntOp.{IntOp}
use Rattle.cc_base.specs.declared.integer_operators.IntOp.TheVariants.{Add, Sub, Mul, Div, Rem, And, Or, Xor, Shl, Shr}
use Rattle.cc_base.specs.declared.integer_operators.UnOp.{UnOp}
use Rattle.cc_base.specs.declared.integer_operators.UnOp.TheVariants.{Neg, Compl}
use Rattle.cc_base.specs.declared.integer_operators.Rel.{Rel}
use Rattle.cc_base.specs.declared.integer_operators.Rel.TheVariants.{Ne}
use Rattle.cc_base.specs.declared.integer_operators.Tri.{Tri}
use Rattle.cc_base.specs.declared.integer_operators.Tri.TheVariants.{No, Yes, Both, Never}
use Rattle.pointer_domain.specs.BaseSets.{bases_empty}
use Rattle.pointer_domain.specs.PointerLattice.{no_pointer}
use Rattle.cc_base.specs.Truths.{tri_of, can_hold, can_fail}
use Rattle.pointer_domain.specs.declared.pointer_sets.Pointers.{Pointers}
use Rattle.value_domain.specs.declared.values.label_sets.Labels.{Labels}
use Rattle.value_domain.specs.declared.values.values.Value.{Value}
use Rattle.value_domain.specs.Values.LabelSets.{no_labels, operated_labels, negated_labels, converted_labels}

-- ---- which mathematical results leave a type

abbrev pub is_outside : IntType → ℤ → Bool
is_outside k z = not (in_type k z)

-- all counts are from 0 to 63
abbrev pub AreShiftCounts : Range → Type 0
AreShiftCounts None = Unit {0}
AreShiftCounts (Some p) = (pos 0 ≤ℤ p.0) × (pos 0 ≤ℤ p.1) × (p.1 ≤ℤ pos 63)

-- some result at the corners of `<<` leaves the type: of the dividends from 0 on by the counts below the width
abbrev pub scaled_leave : IntType → Range → Range → Bool
scaled_leave k None y = false
scaled_leave k (Some p) None = false
scaled_leave k (Some p) (Some q) = is_outside k (p.1 *ℤ pos (2 ^ unsigned_abs q.1))

-- some result at the corners leaves the type
abbrev pub corners_leave : IntOp → IntType → (ℤ × ℤ) → (ℤ × ℤ) → Bool
corners_leave Add k p q = is_outside k (p.0 +ℤ q.0) || is_outside k (p.1 +ℤ q.1)
corners_leave Sub k p q = is_outside k (p.0 -ℤ q.1) || is_outside k (p.1 -ℤ q.0)
corners_leave Mul k p q = (is_outside k (p.0 *ℤ q.0) || is_outside k (p.0 *ℤ q.1)) || (is_outside k (p.1 *ℤ q.0) || is_outside k (p.1 *ℤ q.1))
corners_leave Shl k p q = scaled_leave k (range_met (Some p) (pos 0) (greatest_of k)) (range_met (Some q) (pos 0) (pos (8 * k.bytes) -ℤ pos 1))
corners_leave Div k p q = false
corners_leave Rem k p q = false
corners_leave And k p q = false
corners_leave Or k p q = false
corners_leave Xor k p q = false
corners_leave Shr k p q = false

abbrev pub ranges_leave : IntOp → IntType → Range → Range → Bool
ranges_leave op k None y = false
ranges_leave op k (Some p) None = false
ranges_leave op k (Some p) (Some q) = corners_leave op k p q

abbrev pub negated_leave : UnOp → IntType → Range → Bool
negated_leave op k None = false
negated_leave Neg k (Some p) = is_outside k (neg_ℤ p.1) || is_outside k (neg_ℤ p.0)
negated_leave Compl k (Some p) = false

-- each number is one of the type
abbrev pub range_fits : IntType → Range → Bool
range_fits k None = true
range_fits k (Some p) = in_type k p.0 && in_type k p.1

-- ---- values

module _ {I : Type 0} where
  abbrev pub number_value : LatticeOf I → I → Labels → Value I
  number_value l x labels = record { num = x; pointer = no_pointer l; indeterminate = false; labels = labels }

  abbrev pub pointer_value : LatticeOf I → Pointers I → Value I
  pointer_value l p = record { num = l.least; pointer = p; indeterminate = false; labels = no_labels }

  -- indeterminate alone
  abbrev pub blank_value : LatticeOf I → Value I
  blank_value l = record { num = l.least; pointer = no_pointer l; indeterminate = true; labels = no_labels }

  abbrev pub value_arith : LatticeOf I → IntegersOf I → IntOp → Value I → Value I → IntType → Value I
  value_arith l n op x y k = number_value l (n.arith op x.num y.num k) (operated_labels op x.labels y.labels k (ranges_leave op k (n.bounds x.num) (n.bounds y.num)))

  abbrev pub value_unary : LatticeOf I → IntegersOf I → UnOp → Value I → IntType → Value I
  value_unary l n op x k = number_value l (n.unary op x.num k) (negated_labels op x.labels k (negated_leave op k (n.bounds x.num)))

  abbrev pub value_convert : LatticeOf I → IntegersOf I → Value I → IntType → Value I
  value_convert l n x k = number_value l (n.convert x.num k) (converted_labels x.labels k (range_fits k (n.bounds x.num)))

  -- the truth values of a condition: a number is true where it is not 0, a pointer where it is not null
  abbrev pub value_truth : IntegersOf I → Value I → Tri
  value_truth n v = tri_of (can_hold (n.compare Ne v.num (n.one (pos 0))) || (not (bases_empty v.pointer.bases) || v.pointer.ended))
      (can_fail (n.compare Ne v.num (n.one (pos 0))) || v.pointer.null)

  -- 1 for true, 0 for false, without labels
  abbrev pub truth_number : LatticeOf I → IntegersOf I → Tri → I
  truth_number l n Yes = n.one (pos 1)
  truth_number l n No = n.one (pos 0)
  truth_number l n Both = n.between (pos 0) (pos 1)
  truth_number l n Never = l.least

  abbrev pub truth_value : LatticeOf I → IntegersOf I → Tri → Value I
  truth_value l n t = number_value l (truth_number l n t) no_labels
