-- Sets of labels, and how operators spread, make and drop labels.
use Rattle.std.specs.Prelude.{Bool, true, false, not, ◌&&◌, ◌||◌, refl}
use Rattle.cc_base.specs.Lattices.{LatticeOf, OrderLaws, RoundLaws, HeightLaws}
use Rattle.cc_base.specs.LatticeParts.{flag_leq, flag_lattice, flag_order, flag_rounding, flag_heights, pair_lattice, pair_order, pair_rounding, pair_heights, image_lattice, image_order, image_rounding, image_heights}
use Rattle.cc_base.specs.declared.int_types.IntType.{IntType}
use Rattle.cc_base.specs.declared.integer_operators.IntOp.{IntOp}
use Rattle.cc_base.specs.declared.integer_operators.IntOp.TheVariants.{Add, Sub, Mul, Div, Rem, And, Or, Xor, Shl, Shr}
use Rattle.cc_base.specs.declared.integer_operators.UnOp.{UnOp}
use Rattle.cc_base.specs.declared.integer_operators.UnOp.TheVariants.{Neg, Compl}
use Rattle.cc_base.specs.declared.integer_operators.Rel.{Rel}
use Rattle.cc_base.specs.declared.integer_operators.Rel.TheVariants.{Lt, Le, Gt, Ge, Eq, Ne}
use Rattle.value_domain.specs.declared.values.label_sets.Labels.{Labels}

abbrev pub no_labels : Labels
no_labels = record { lo = false; hi = false; mutated = false }

abbrev pub all_labels : Labels
all_labels = record { lo = true; hi = true; mutated = true }

-- signed input may be too low and too high, unsigned input too high
abbrev pub input_labels : IntType → Labels
input_labels kind = record { lo = kind.signed; hi = true; mutated = false }

abbrev pub labels_join : Labels → Labels → Labels
labels_join s t = record { lo = s.lo || t.lo; hi = s.hi || t.hi; mutated = s.mutated || t.mutated }

abbrev pub labels_leq : Labels → Labels → Bool
labels_leq s t = flag_leq s.lo t.lo && (flag_leq s.hi t.hi && flag_leq s.mutated t.mutated)

abbrev pub is_unlabelled : Labels → Bool
is_unlabelled s = not (s.lo || (s.hi || s.mutated))

-- a conversion keeps the labels, but in an unsigned type too low turns into too high; a change of the value is one
abbrev pub converted_labels : Labels → IntType → Bool → Labels
converted_labels s to fits = record {
  lo = to.signed && s.lo;
  hi = s.hi || (not to.signed && s.lo);
  mutated = s.mutated || not fits;
}

-- neither may be too low or too high
abbrev pub is_bounded_by : Labels → Labels → Bool
is_bounded_by s t = not (s.lo || (s.hi || (t.lo || t.hi)))

-- a changed operand makes a changed result; `%` by an unlabelled number and `&` with one bound the result
abbrev pub carries_change : IntOp → Labels → Labels → Bool
carries_change Rem s t = (s.mutated || t.mutated) && not (is_unlabelled t)
carries_change And s t = (s.mutated || t.mutated) && (not (is_unlabelled s) && not (is_unlabelled t))
carries_change Add s t = s.mutated || t.mutated
carries_change Sub s t = s.mutated || t.mutated
carries_change Mul s t = s.mutated || t.mutated
carries_change Div s t = s.mutated || t.mutated
carries_change Or s t = s.mutated || t.mutated
carries_change Xor s t = s.mutated || t.mutated
carries_change Shl s t = s.mutated || t.mutated
carries_change Shr s t = s.mutated || t.mutated

-- the unsigned operators whose result wraps
abbrev pub can_wrap : IntOp → Bool
can_wrap Add = true
can_wrap Sub = true
can_wrap Mul = true
can_wrap Shl = true
can_wrap Div = false
can_wrap Rem = false
can_wrap And = false
can_wrap Or = false
can_wrap Xor = false
can_wrap Shr = false

-- a result of unbounded operands is unbounded on all sides that the type has
abbrev pub operated_labels : IntOp → Labels → Labels → IntType → Bool → Labels
operated_labels op s t kind leaves = record {
  lo = kind.signed && not (is_bounded_by s t);
  hi = not (is_bounded_by s t);
  mutated = carries_change op s t || (can_wrap op && (not kind.signed && leaves));
}

abbrev pub can_wrap_unary : UnOp → Bool
can_wrap_unary Neg = true
can_wrap_unary Compl = false

abbrev pub negated_labels : UnOp → Labels → IntType → Bool → Labels
negated_labels op s kind leaves = record {
  lo = kind.signed && (s.lo || s.hi);
  hi = s.lo || s.hi;
  mutated = s.mutated || (can_wrap_unary op && (not kind.signed && leaves));
}

-- a comparison bounds on the side that it compares; an unsigned upper bound bounds on both
abbrev pub below_labels : Labels → IntType → Labels
below_labels s common = record { lo = common.signed && s.lo; hi = false; mutated = false }

abbrev pub above_labels : Labels → IntType → Labels
above_labels s common = record { lo = not common.signed && s.lo; hi = s.hi; mutated = s.mutated }

abbrev pub dropped_labels : Rel → Labels → IntType → Labels
dropped_labels Lt s common = below_labels s common
dropped_labels Le s common = below_labels s common
dropped_labels Gt s common = above_labels s common
dropped_labels Ge s common = above_labels s common
dropped_labels Eq s common = no_labels
dropped_labels Ne s common = s

-- ---- the lattice

abbrev pub Flags : Type 0
Flags = Bool × (Bool × Bool)

abbrev pub flags_of : Labels → Flags
flags_of s = (s.lo, (s.hi, s.mutated))

abbrev pub from_flags : Flags → Labels
from_flags f = record { lo = f.0; hi = f.1.0; mutated = f.1.1 }

abbrev pub labels_lattice : LatticeOf Labels
labels_lattice = image_lattice flags_of from_flags (pair_lattice flag_lattice (pair_lattice flag_lattice flag_lattice))

pub labels_order : OrderLaws labels_lattice
labels_order = image_order flags_of from_flags (λ x. refl) (λ y. refl) (pair_order flag_order (pair_order flag_order flag_order))

pub labels_rounding : RoundLaws labels_lattice
labels_rounding = image_rounding flags_of from_flags (λ x. refl) (λ y. refl) (pair_rounding flag_rounding (pair_rounding flag_rounding flag_rounding))

pub labels_heights : HeightLaws labels_lattice
labels_heights = image_heights flags_of from_flags (λ x. refl) (λ y. refl) (pair_heights flag_order (pair_order flag_order flag_order) flag_heights (pair_heights flag_order flag_order flag_heights flag_heights))
