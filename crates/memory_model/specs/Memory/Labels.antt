-- The labels of numbers from the outside: what a number may be, and how operators spread, make and drop
-- labels.
use Rattle.std.specs.Prelude.{Bool, true, false, not, ◌&&◌, ◌||◌}
use Rattle.cc_base.specs.declared.int_types.IntType.{IntType}
use Rattle.cc_base.specs.declared.integer_operators.IntOp.{IntOp}
use Rattle.cc_base.specs.declared.integer_operators.IntOp.TheVariants.{Add, Sub, Mul, Rem, And, Shl}
use Rattle.cc_base.specs.declared.integer_operators.UnOp.{UnOp}
use Rattle.cc_base.specs.declared.integer_operators.UnOp.TheVariants.{Neg, Compl}
use Rattle.cc_base.specs.declared.integer_operators.Rel.{Rel}
use Rattle.cc_base.specs.declared.integer_operators.Rel.TheVariants.{Lt, Le, Gt, Ge, Eq, Ne}

-- the number may be too low, too high, or changed by a conversion or by wrapping round
pub record Labels : Type 0 where
  pub low : Bool
  pub high : Bool
  pub changed : Bool

abbrev pub no_labels : Labels
no_labels = record { low = false; high = false; changed = false }

-- signed input may be too low and too high, unsigned input too high
abbrev pub input_labels : IntType → Labels
input_labels kind = record { low = kind.signed; high = true; changed = false }

abbrev pub labels_join : Labels → Labels → Labels
labels_join s t = record { low = s.low || t.low; high = s.high || t.high; changed = s.changed || t.changed }

abbrev pub is_unlabelled : Labels → Bool
is_unlabelled s = not (s.low || (s.high || s.changed))

-- a conversion keeps the labels, but in an unsigned type too low turns into too high; a change of the value
-- is one
abbrev pub converted_labels : Labels → IntType → Bool → Labels
converted_labels s to fits = record {
  low = to.signed && s.low;
  high = s.high || (not to.signed && s.low);
  changed = s.changed || not fits;
}

-- neither may be too low or too high
abbrev pub is_bounded_by : Labels → Labels → Bool
is_bounded_by s t = not (s.low || (s.high || (t.low || t.high)))

-- a changed operand makes a changed result; `%` by an unlabelled number and `&` with one bound the result
abbrev pub carries_change : IntOp → Labels → Labels → Bool
carries_change Rem s t = (s.changed || t.changed) && not (is_unlabelled t)
carries_change And s t = (s.changed || t.changed) && (not (is_unlabelled s) && not (is_unlabelled t))
carries_change _ s t = s.changed || t.changed

-- the operators whose unsigned result wraps round
abbrev pub can_wrap : IntOp → Bool
can_wrap Add = true
can_wrap Sub = true
can_wrap Mul = true
can_wrap Shl = true
can_wrap _ = false

-- a result of unbounded operands is unbounded on all sides that the type has
abbrev pub operated_labels : IntOp → Labels → Labels → IntType → Bool → Labels
operated_labels op s t kind leaves = record {
  low = kind.signed && not (is_bounded_by s t);
  high = not (is_bounded_by s t);
  changed = carries_change op s t || (can_wrap op && (not kind.signed && leaves));
}

abbrev pub can_wrap_unary : UnOp → Bool
can_wrap_unary Neg = true
can_wrap_unary Compl = false

abbrev pub negated_labels : UnOp → Labels → IntType → Bool → Labels
negated_labels op s kind leaves = record {
  low = kind.signed && (s.low || s.high);
  high = s.low || s.high;
  changed = s.changed || (can_wrap_unary op && (not kind.signed && leaves));
}

-- a comparison bounds on the side that it compares; an unsigned upper bound bounds on both
abbrev pub below_labels : Labels → IntType → Labels
below_labels s common = record { low = common.signed && s.low; high = false; changed = false }

abbrev pub above_labels : Labels → IntType → Labels
above_labels s common = record { low = not common.signed && s.low; high = s.high; changed = s.changed }

abbrev pub dropped_labels : Rel → Labels → IntType → Labels
dropped_labels Lt s common = below_labels s common
dropped_labels Le s common = below_labels s common
dropped_labels Gt s common = above_labels s common
dropped_labels Ge s common = above_labels s common
dropped_labels Eq s common = no_labels
dropped_labels Ne s common = s
