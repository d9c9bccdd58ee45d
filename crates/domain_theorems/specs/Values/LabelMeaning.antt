-- Labels of a result: they are those that the operands' labels spread to, for numbers that the operands stand for; and what
-- is steered from outside without a bound stays so.
use Rattle.std.specs.Prelude.{◌≡◌, ℤ, Bool, true, false, ◌||◌, Some}
use Rattle.cc_base.specs.Lattices.{LatticeOf}
use Rattle.cc_base.specs.IntegerDomains.{IntegersOf}
use Rattle.cc_base.specs.IntegerTypes.{in_type}
use Rattle.cc_base.specs.declared.int_types.IntType.{IntType}
use Rattle.cc_base.specs.declared.integer_operators.IntOp.{IntOp}
use Rattle.cc_base.specs.declared.integer_operators.IntOp.TheVariants.{Rem, And}
use Rattle.cc_base.specs.declared.integer_operators.UnOp.{UnOp}
use Rattle.value_domain.specs.declared.values.label_sets.Labels.{Labels}
use Rattle.value_domain.specs.declared.values.values.Value.{Value}
use Rattle.value_domain.specs.Values.LabelSets.{labels_leq, is_unlabelled, can_wrap, operated_labels, negated_labels, converted_labels}
use Rattle.value_domain.specs.Values.ValueTables.{value_arith, value_unary, value_convert, corners_leave, negated_leave}

-- the number may be too low or too high
abbrev pub is_unbounded : Labels → Bool
is_unbounded s = s.lo || s.hi

-- the number is told to be unbounded on each side that the type has
abbrev pub IsUnboundedIn : IntType → Labels → Type 0
IsUnboundedIn k s = (k.signed ≡ true → s.lo ≡ true) × (s.hi ≡ true)

-- how labels spread
pub record LabelSpread : Type 0 where
  -- an operand without a bound makes a result without one
  pub left : (op : IntOp) (s t : Labels) (k : IntType) (leaves : Bool) → is_unbounded s ≡ true → IsUnboundedIn k (operated_labels op s t k leaves)
  pub right : (op : IntOp) (s t : Labels) (k : IntType) (leaves : Bool) → is_unbounded t ≡ true → IsUnboundedIn k (operated_labels op s t k leaves)
  pub one : (op : UnOp) (s : Labels) (k : IntType) (leaves : Bool) → is_unbounded s ≡ true → IsUnboundedIn k (negated_labels op s k leaves)
  -- a conversion keeps a side without a bound; an unsigned type has the upper side alone
  pub low : (s : Labels) (k : IntType) (fits : Bool) → s.lo ≡ true → k.signed ≡ true → (converted_labels s k fits).lo ≡ true
  pub turned : (s : Labels) (k : IntType) (fits : Bool) → s.lo ≡ true → k.signed ≡ false → (converted_labels s k fits).hi ≡ true
  pub high : (s : Labels) (k : IntType) (fits : Bool) → s.hi ≡ true → (converted_labels s k fits).hi ≡ true
  -- a changed operand makes a changed result, but for `%` by an unlabelled number and `&` with one
  pub changed : (op : IntOp) (s t : Labels) (k : IntType) (leaves : Bool) → (s.mutated || t.mutated) ≡ true → is_unlabelled s ≡ false → is_unlabelled t ≡ false → (operated_labels op s t k leaves).mutated ≡ true
  pub changed_by : (op : IntOp) (s t : Labels) (k : IntType) (leaves : Bool) → (s.mutated || t.mutated) ≡ true → (op ≡ Rem → ⊥) → (op ≡ And → ⊥) → (operated_labels op s t k leaves).mutated ≡ true
  -- an unsigned result that wraps is changed, and so is a number that does not fit the type to which it is converted
  pub wrapped : (op : IntOp) (s t : Labels) (k : IntType) → can_wrap op ≡ true → k.signed ≡ false → (operated_labels op s t k true).mutated ≡ true
  pub unfit : (s : Labels) (k : IntType) → (converted_labels s k false).mutated ≡ true

-- the labels of a result are among those of the value that stands for it
pub record LabelMeaning {I : Type 0} (l : LatticeOf I) (n : IntegersOf I) (stands : I → ℤ → Type 0) : Type 0 where
  pub spread : LabelSpread
  pub arith : (op : IntOp) (k : IntType) (x y : Value I) (s t : Labels) (a b : ℤ) → stands x.num a → stands y.num b → labels_leq s x.labels ≡ true → labels_leq t y.labels ≡ true
      → labels_leq (operated_labels op s t k (corners_leave op k (a, a) (b, b))) (value_arith l n op x y k).labels ≡ true
  pub unary : (op : UnOp) (k : IntType) (x : Value I) (s : Labels) (a : ℤ) → stands x.num a → labels_leq s x.labels ≡ true → labels_leq (negated_labels op s k (negated_leave op k (Some (a, a)))) (value_unary l n op x k).labels ≡ true
  pub convert : (k : IntType) (x : Value I) (s : Labels) (a : ℤ) → stands x.num a → labels_leq s x.labels ≡ true → labels_leq (converted_labels s k (in_type k a)) (value_convert l n x k).labels ≡ true
