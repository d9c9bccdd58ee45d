-- The rules of operators make, of operands that name what lives, what names what lives.
use Rattle.std.proofs.Common.{◌≡◌, ℕ, ℤ, Bool, true, false, ◌&&◌, List, Option, Some, None, Ok, Err, refl}
use Rattle.std.specs.Prelude.{cond}
use Rattle.cc_base.specs.declared.diagnostics.Place.{Place}
use Rattle.cc_base.specs.declared.int_types.IntType.{IntType}
use Rattle.c_layout.specs.Types.{Ty, Int, Pointer, Array, Struct, Void, same_type}
use Rattle.c_layout.specs.CheckedTrees as tree
use Rattle.c_layout.specs.CheckedTrees.{TermTree, FormTree, LvalueTree, LvalueFormTree, Typed, Designates}
use Rattle.c_layout.specs.declared.checked_tree.checked_terms.ConversionKind.{ConversionKind}
use Rattle.c_layout.specs.declared.checked_tree.checked_terms.StepTime.{StepTime}
use Rattle.c_layout.specs.declared.syntax_tree.expressions.AssignOp.{AssignOp}
use Rattle.c_layout.specs.declared.syntax_tree.expressions.AssignOp.TheVariants as assign
use Rattle.c_layout.specs.declared.syntax_tree.expressions.BinaryOp.{BinaryOp}
use Rattle.c_layout.specs.declared.syntax_tree.expressions.BinaryOp.TheVariants as op
use Rattle.c_layout.specs.declared.syntax_tree.expressions.LogicalOp.{LogicalOp}
use Rattle.c_layout.specs.declared.syntax_tree.expressions.StepOp.{StepOp}
use Rattle.c_layout.specs.declared.syntax_tree.expressions.UnaryOp.{UnaryOp}
use Rattle.c_layout.specs.declared.syntax_tree.expressions.UnaryOp.TheVariants as un
use Rattle.c_types_rules.specs.Rules.IntegerKinds.{common, promoted}
use Rattle.c_types_rules.specs.Rules.TypeConversions as types
use Rattle.c_types_rules.specs.declared.rules.type_conversions.Conversion.{Conversion}
use Rattle.c_types_rules.specs.declared.rules.type_conversions.Conversion.TheVariants as conversion
use Rattle.c_types_rules.specs.declared.rules.type_conversions.Pairing.{Pairing}
use Rattle.c_types_rules.specs.declared.rules.type_conversions.Pairing.TheVariants as pair
use Rattle.c_types_scopes.specs.Known.{Known, size_of}
use Rattle.c_types_scopes.specs.Refusals.{Ruled, type_fault}
use Rattle.c_types_operands.specs.Operands as operands
use Rattle.c_types_operands.specs.Operands.{OperandForm, AsValue, AsLvalue, OperandView, ValueView, UseView, Decays, Begins, Stays, Loads, term_type, term_constant, lvalue_type, lvalue_value, form_value, value_of, term_of, own_lvalue, use_of, is_null, is_integer, is_lvalue, is_scalar, is_struct, is_void}
use Rattle.c_types_operands.specs.Arithmetic as arithmetic
use Rattle.c_types_operands.specs.Comparisons as comparisons
use Rattle.c_types_operands.specs.Conversions as conversions
use Rattle.c_types_operands.specs.Indirections as indirections
use Rattle.c_types_operands.specs.PointerArithmetic as pointers
use Rattle.c_types_operands.specs.PointerArithmetic.{SumView}
use Rattle.c_types_operands.specs.declared.arithmetic.KindPair.{KindPair}
use Rattle.c_types_operators.specs.Assignments as assignments
use Rattle.c_types_operators.specs.Choices as choices
use Rattle.c_types_operators.specs.Choices.{ChoiceView}
use Rattle.c_types_operators.specs.SizesAndCasts as sizes
use Rattle.c_types_operators.specs.UnaryOperators as unaries
use Rattle.source_preservation.specs.UnitChecks.LookedScopes.{is_scoped_term, is_scoped_place}
use Rattle.c_types_well_formed_units.specs.Scoped.ScopedOperands.{ScopedTerm, ScopedPlace, ScopedForm, Scoped}
use Rattle.c_types_well_formed_units.proofs.scoped.Numbers.{two}
use Rattle.c_types_well_formed_units.proofs.scoped.Seen.{Judged}

abbrev pub Makes : List ℕ → Ruled OperandView → Type 0
Makes alive r = Judged (Scoped alive) r

abbrev pub MakesTerm : List ℕ → Ruled TermTree → Type 0
MakesTerm alive r = Judged (ScopedTerm alive) r

abbrev pub IfPlace : List ℕ → Option LvalueTree → Type 0
IfPlace alive (Some l) = ScopedPlace alive l
IfPlace alive None = Unit {0}

module _ (alive : List ℕ) where
  cond_term : (b : Bool) (x y : TermTree) → ScopedTerm alive x → ScopedTerm alive y → ScopedTerm alive (cond b x y)
  cond_term true x y g h = g
  cond_term false x y g h = h

  cond_makes : (b : Bool) (x y : Ruled OperandView) → Makes alive x → Makes alive y → Makes alive (cond b x y)
  cond_makes true x y g h = g
  cond_makes false x y g h = h

  cond_makes_term : (b : Bool) (x y : Ruled TermTree) → MakesTerm alive x → MakesTerm alive y → MakesTerm alive (cond b x y)
  cond_makes_term true x y g h = g
  cond_makes_term false x y g h = h

  -- ---- what stands around a form says nothing of scopes

  same_form : (at by : Place) (t u : Ty) (n m : ℕ) (c d : Option ℤ) (f : FormTree) → ScopedTerm alive (Typed at t n c f) → ScopedTerm alive (Typed by u m d f)
  same_form at by t u n m c d (tree.Number v) h = h
  same_form at by t u n m c d f h = h

  same_place_form : (at by : Place) (t u : Ty) (n m : ℕ) (f : LvalueFormTree) → ScopedPlace alive (Designates at t n f) → ScopedPlace alive (Designates by u m f)
  same_place_form at by t u n m (tree.Literal v) h = h
  same_place_form at by t u n m f h = h

  wrapped_scoped : (f : OperandForm) → ScopedForm alive f → ScopedForm alive (operands.wrapped f)
  wrapped_scoped (AsValue (Typed at t n c f)) h = same_form at at t t n (operands.one_more n) c c f h
  wrapped_scoped (AsLvalue (Designates at t n f)) h = same_place_form at at t t n (operands.one_more n) f h

  pub parenthesized_scoped : (o : OperandView) → Scoped alive o → Scoped alive (operands.parenthesized o)
  parenthesized_scoped o h = wrapped_scoped o.form h

  -- ---- values

  use_scoped : (at : Place) (n : ℕ) (l : LvalueTree) (u : UseView) → ScopedPlace alive l → ScopedTerm alive (operands.value_by at n l u)
  use_scoped at n l (Decays t) h = h
  use_scoped at n l (Begins t) h = h
  use_scoped at n l (Stays t) h = h
  use_scoped at n l (Loads t) h = h

  pub lvalue_scoped : (l : LvalueTree) → ScopedPlace alive l → ScopedTerm alive (lvalue_value l)
  lvalue_scoped (Designates at t n f) h = use_scoped at n (Designates at t n f) (use_of t) h

  form_scoped : (f : OperandForm) (fixed : Bool) → ScopedForm alive f → ScopedTerm alive (form_value f fixed).term
  form_scoped (AsValue e) fixed h = h
  form_scoped (AsLvalue l) fixed h = lvalue_scoped l h

  pub value_scoped : (o : OperandView) → Scoped alive o → ScopedTerm alive (term_of o)
  value_scoped o h = form_scoped o.form o.fixed h

  own_if : (b : Bool) (l : LvalueTree) → ScopedPlace alive l → IfPlace alive (cond b (Some l) None)
  own_if true l h = h
  own_if false l h = tt

  own_form : (f : OperandForm) → ScopedForm alive f → IfPlace alive (operands.own_form f)
  own_form (AsValue e) h = tt
  own_form (AsLvalue l) h = own_if (is_lvalue l) l h

  own_scoped : (o : OperandView) → Scoped alive o → IfPlace alive (own_lvalue o)
  own_scoped o h = own_form o.form h

  -- ---- conversions

  noted_form : (k : Known) (to t : Ty) (at : Place) (n : ℕ) (c : Option ℤ) (f : FormTree) → ScopedTerm alive (Typed at t n c f) → ScopedTerm alive (Typed at t n c (conversions.noted_form k to f))
  noted_form k to t at n c (tree.Number v) h = h
  noted_form k to t at n c f h = h

  noted_scoped : (k : Known) (to : Ty) (e : TermTree) → ScopedTerm alive e → ScopedTerm alive (conversions.noted k to e)
  noted_scoped k to (Typed at t n c f) h = noted_form k to t at n c f h

  converted_scoped : (k : Known) (how : ConversionKind) (at : Place) (e : TermTree) (to : Ty) → ScopedTerm alive e → ScopedTerm alive (conversions.converted_term k how at e to)
  converted_scoped k how at e to h = noted_scoped k to e h

  in_type_scoped : (k : Known) (e : TermTree) (to : Ty) → ScopedTerm alive e → ScopedTerm alive (conversions.in_type k e to)
  in_type_scoped k e to h = cond_term (same_type (term_type e) to) e (conversions.implicit k e to) h (noted_scoped k to e h)

  pub integer_scoped : (k : Known) (e : TermTree) (kind : IntType) → ScopedTerm alive e → ScopedTerm alive (conversions.integer_as k e kind)
  integer_scoped k e kind h = in_type_scoped k e (Int kind) h

  assigned_by : (k : Known) (at : Place) (e : TermTree) (to : Ty) (c : Conversion) → ScopedTerm alive e → MakesTerm alive (conversions.assigned_by k at e to c)
  assigned_by k at e to conversion.Same h = h
  assigned_by k at e to conversion.Converted h = noted_scoped k to e h
  assigned_by k at e to conversion.Crossing h = tt
  assigned_by k at e to conversion.Nothing h = tt

  pub assigned_scoped : (k : Known) (at : Place) (e : TermTree) (to : Ty) → ScopedTerm alive e → MakesTerm alive (conversions.assigned k at e to)
  assigned_scoped k at e to h = assigned_by k at e to (types.assigned (term_type e) (is_null e) to) h

  unused_form : (at : Place) (t : Ty) (n : ℕ) (c : Option ℤ) (f : FormTree) → ScopedTerm alive (Typed at t n c f) → ScopedTerm alive (Typed at t n c (conversions.unused_form f))
  unused_form at t n c (tree.Number v) h = h
  unused_form at t n c f h = h

  pub unused_scoped : (e : TermTree) → ScopedTerm alive e → ScopedTerm alive (conversions.unused e)
  unused_scoped (Typed at t n c f) h = unused_form at t n c f h

  -- ---- operators between two operands

  between : (a b : TermTree) → ScopedTerm alive a → ScopedTerm alive b → (is_scoped_term alive a && is_scoped_term alive b) ≡ true
  between a b g h = two (is_scoped_term alive a) (is_scoped_term alive b) g h

  integers : (k : Known) (a b : TermTree) (left right : IntType) → ScopedTerm alive a → ScopedTerm alive b → (is_scoped_term alive (conversions.integer_as k a left) && is_scoped_term alive (conversions.integer_as k b right)) ≡ true
  integers k a b left right g h = between (conversions.integer_as k a left) (conversions.integer_as k b right) (integer_scoped k a left g) (integer_scoped k b right h)

  module _ (k : Known) (at : Place) (x y : ValueView) (g : ScopedTerm alive x.term) (h : ScopedTerm alive y.term) where
    in_common : (sign : BinaryOp) (is_int : Bool) (kinds : KindPair) → Scoped alive (arithmetic.in_common_kind k at sign is_int kinds x y)
    in_common sign is_int kinds = let kind : IntType = common k.numbers kinds.left kinds.right in integers k x.term y.term kind kind g h

    operation_by : (sign : BinaryOp) (o : Option KindPair) → Makes alive (arithmetic.integer_operation_by k at sign x y o)
    operation_by sign None = tt
    operation_by sign (Some kinds) = in_common sign false kinds

    shift_by : (sign : BinaryOp) (o : Option KindPair) → Makes alive (arithmetic.shift_by k at sign x y o)
    shift_by sign None = tt
    shift_by sign (Some kinds) = integers k x.term y.term (promoted k.numbers kinds.left) (promoted k.numbers kinds.right) g h

    compared : (sign : BinaryOp) (a b : TermTree) → ScopedTerm alive a → ScopedTerm alive b → Scoped alive (comparisons.pointer_comparison k at sign a b)
    compared sign a b p q = between a b p q

    pointers_related : (sign : BinaryOp) (o : Option ℕ) → Makes alive (comparisons.pointer_relation_by k at sign x.term y.term o)
    pointers_related sign None = tt
    pointers_related sign (Some size) = compared sign x.term y.term g h

    relation_by : (sign : BinaryOp) (o : Option KindPair) → Makes alive (comparisons.relation_by k at sign x y o)
    relation_by sign (Some kinds) = in_common sign true kinds
    relation_by sign None = pointers_related sign (pointers.common_target k (term_type x.term) (term_type y.term))

    pointers_equal : (sign : BinaryOp) (p : Pairing) → Makes alive (comparisons.pointer_equality_by k at sign x.term y.term p)
    pointers_equal sign pair.AsLeft = compared sign x.term (conversions.in_type k y.term (term_type x.term)) g (in_type_scoped k y.term (term_type x.term) h)
    pointers_equal sign pair.AsRight = compared sign (conversions.in_type k x.term (term_type y.term)) y.term (in_type_scoped k x.term (term_type y.term) g) h
    pointers_equal sign pair.Crosses = tt
    pointers_equal sign pair.Integers = tt
    pointers_equal sign pair.Apart = tt

    equality_by : (sign : BinaryOp) (o : Option KindPair) → Makes alive (comparisons.equality_by k at sign x y o)
    equality_by sign (Some kinds) = in_common sign true kinds
    equality_by sign None = pointers_equal sign (comparisons.pairing x.term y.term)

  module _ (k : Known) (at : Place) (a b : TermTree) (g : ScopedTerm alive a) (h : ScopedTerm alive b) where
    moved_by : (down : Bool) (o : Option SumView) → MakesTerm alive (pointers.moved_by at down a b o)
    moved_by down None = tt
    moved_by down (Some s) = between a b g h

    pub sum_scoped : MakesTerm alive (pointers.pointer_sum k at a b)
    sum_scoped = moved_by false (pointers.sum_type k (term_type a) (term_type b))

    difference_by : (o : Option ℕ) → MakesTerm alive (pointers.difference_by k at a b o)
    difference_by None = tt
    difference_by (Some size) = between a b g h

    minus_scoped : MakesTerm alive (pointers.pointer_minus k at a b)
    minus_scoped = cond_makes_term (is_integer (term_type b)) (pointers.pointer_less k at a b) (pointers.pointer_difference k at a b) (moved_by true (pointers.one_sided k (term_type a) (term_type b))) (difference_by (pointers.common_target k (term_type a) (term_type b)))

    as_plain : (r : Ruled TermTree) → MakesTerm alive r → Makes alive (pointers.as_plain r)
    as_plain (Ok e) p = p
    as_plain (Err f) p = tt

    pointers_added : (sign : BinaryOp) → Makes alive (pointers.pointer_additive k at sign a b)
    pointers_added op.Subtract = as_plain (pointers.pointer_minus k at a b) minus_scoped
    pointers_added sign = as_plain (pointers.pointer_sum k at a b) sum_scoped

  module _ (k : Known) (at : Place) (x y : ValueView) (g : ScopedTerm alive x.term) (h : ScopedTerm alive y.term) where
    additive_by : (sign : BinaryOp) (o : Option KindPair) → Makes alive (pointers.additive_by k at sign x y o)
    additive_by sign (Some kinds) = in_common k at x y g h sign false kinds
    additive_by sign None = pointers_added k at x.term y.term g h sign

    operators_between : (sign : BinaryOp) → Makes alive (comparisons.between_values k at sign x y)
    operators_between op.Multiply = operation_by k at x y g h op.Multiply (arithmetic.value_kinds x y)
    operators_between op.Divide = operation_by k at x y g h op.Divide (arithmetic.value_kinds x y)
    operators_between op.Remainder = operation_by k at x y g h op.Remainder (arithmetic.value_kinds x y)
    operators_between op.And = operation_by k at x y g h op.And (arithmetic.value_kinds x y)
    operators_between op.Xor = operation_by k at x y g h op.Xor (arithmetic.value_kinds x y)
    operators_between op.Or = operation_by k at x y g h op.Or (arithmetic.value_kinds x y)
    operators_between op.Add = additive_by op.Add (arithmetic.value_kinds x y)
    operators_between op.Subtract = additive_by op.Subtract (arithmetic.value_kinds x y)
    operators_between op.ShiftLeft = shift_by k at x y g h op.ShiftLeft (arithmetic.value_kinds x y)
    operators_between op.ShiftRight = shift_by k at x y g h op.ShiftRight (arithmetic.value_kinds x y)
    operators_between op.Less = relation_by k at x y g h op.Less (arithmetic.value_kinds x y)
    operators_between op.Greater = relation_by k at x y g h op.Greater (arithmetic.value_kinds x y)
    operators_between op.LessEqual = relation_by k at x y g h op.LessEqual (arithmetic.value_kinds x y)
    operators_between op.GreaterEqual = relation_by k at x y g h op.GreaterEqual (arithmetic.value_kinds x y)
    operators_between op.Equal = equality_by k at x y g h op.Equal (arithmetic.value_kinds x y)
    operators_between op.NotEqual = equality_by k at x y g h op.NotEqual (arithmetic.value_kinds x y)

  pub binary_scoped : (k : Known) (at : Place) (sign : BinaryOp) (x y : OperandView) → Scoped alive x → Scoped alive y → Makes alive (comparisons.binary k at sign x y)
  binary_scoped k at sign x y g h = operators_between k at (value_of x) (value_of y) (value_scoped x g) (value_scoped y h) sign

  -- ---- indirections

  target_by : (at : Place) (e : TermTree) (o : Option Ty) → ScopedTerm alive e → Makes alive (indirections.target_by at e o)
  target_by at e None h = tt
  target_by at e (Some t) h = h

  pub indirection_scoped : (k : Known) (at : Place) (e : TermTree) → ScopedTerm alive e → Makes alive (indirections.indirection k at e)
  indirection_scoped k at e h = target_by at e (conversions.complete_target k (term_type e)) h

  at_sum : (k : Known) (at : Place) (r : Ruled TermTree) → MakesTerm alive r → Makes alive (indirections.at_sum k at r)
  at_sum k at (Ok e) h = indirection_scoped k at e h
  at_sum k at (Err f) h = tt

  pub subscript_scoped : (k : Known) (at : Place) (x y : OperandView) → Scoped alive x → Scoped alive y → Makes alive (indirections.subscript k at x y)
  subscript_scoped k at x y g h = at_sum k at (pointers.pointer_sum k at (term_of x) (term_of y)) (sum_scoped k at (term_of x) (term_of y) (value_scoped x g) (value_scoped y h))

  -- ---- unary operators

  pointer_stepped : (at : Place) (sign : StepOp) (time : StepTime) (l : LvalueTree) (size : Option ℕ) → ScopedPlace alive l → Makes alive (unaries.step_by at sign time l (unaries.pointer_kind size))
  pointer_stepped at sign time l None h = tt
  pointer_stepped at sign time l (Some size) h = h

  stepped_by : (k : Known) (at : Place) (sign : StepOp) (time : StepTime) (l : LvalueTree) (t : Ty) → ScopedPlace alive l → Makes alive (unaries.step_by at sign time l (unaries.step_kind k t))
  stepped_by k at sign time l (Int kind) h = h
  stepped_by k at sign time l (Pointer t) h = pointer_stepped at sign time l (size_of k t) h
  stepped_by k at sign time l (Array t n) h = tt
  stepped_by k at sign time l (Struct i) h = tt
  stepped_by k at sign time l Void h = tt

  stepped_of : (k : Known) (at : Place) (sign : StepOp) (time : StepTime) (o : Option LvalueTree) → IfPlace alive o → Makes alive (unaries.step_of k at sign time o)
  stepped_of k at sign time None h = tt
  stepped_of k at sign time (Some l) h = stepped_by k at sign time l (lvalue_type l) h

  pub step_scoped : (k : Known) (at : Place) (sign : StepOp) (time : StepTime) (o : OperandView) → Scoped alive o → Makes alive (unaries.step k at sign time o)
  step_scoped k at sign time o h = stepped_of k at sign time (own_lvalue o) (own_scoped o h)

  address_of : (at : Place) (o : Option LvalueTree) → IfPlace alive o → Makes alive (unaries.address_of at o)
  address_of at None h = tt
  address_of at (Some l) h = h

  turned : (at : Place) (sign : UnaryOp) (kind : IntType) (e : TermTree) (c : Option ℤ) (fixed : Bool) → ScopedTerm alive e → Scoped alive (unaries.turned_operand at sign kind e c fixed)
  turned at un.Minus kind e c fixed h = h
  turned at un.Complement kind e c fixed h = h
  turned at sign kind e c fixed h = h

  arithmetic_by : (k : Known) (at : Place) (sign : UnaryOp) (v : ValueView) (o : Option IntType) → ScopedTerm alive v.term → Makes alive (unaries.arithmetic_by k at sign v o)
  arithmetic_by k at sign v None h = tt
  arithmetic_by k at sign v (Some kind) h = turned at sign kind (conversions.integer_as k v.term kind) (unaries.turned_value sign kind (term_constant v.term)) v.fixed (integer_scoped k v.term kind h)

  pub unary_scoped : (k : Known) (at : Place) (sign : UnaryOp) (o : OperandView) → Scoped alive o → Makes alive (unaries.unary k at sign o)
  unary_scoped k at un.Address o h = address_of at (own_lvalue o) (own_scoped o h)
  unary_scoped k at un.Indirection o h = indirection_scoped k at (term_of o) (value_scoped o h)
  unary_scoped k at un.Not o h = cond_makes (is_scalar (term_type (term_of o))) (Ok (unaries.not_node k at (value_of o))) (type_fault at) (value_scoped o h) tt
  unary_scoped k at un.Plus o h = arithmetic_by k at un.Plus (value_of o) (unaries.promoted_kind k (term_type (term_of o))) (value_scoped o h)
  unary_scoped k at un.Minus o h = arithmetic_by k at un.Minus (value_of o) (unaries.promoted_kind k (term_type (term_of o))) (value_scoped o h)
  unary_scoped k at un.Complement o h = arithmetic_by k at un.Complement (value_of o) (unaries.promoted_kind k (term_type (term_of o))) (value_scoped o h)

  -- ---- sizes and casts

  size_scoped : (k : Known) (at : Place) (size : ℕ) (e : Option TermTree) (named : Bool) → Scoped alive (sizes.size_operand k at size e named)
  size_scoped k at size None named = refl
  size_scoped k at size (Some e) named = refl

  size_by : (k : Known) (at : Place) (e : Option TermTree) (named : Bool) (o : Option ℕ) → Makes alive (sizes.size_by k at e named o)
  size_by k at e named None = tt
  size_by k at e named (Some size) = size_scoped k at size e named

  pub size_of_operand_scoped : (k : Known) (at : Place) (o : OperandView) → Makes alive (sizes.size_of_operand k at o)
  size_of_operand_scoped k at o = size_by k at (Some (sizes.sized_term o.form)) (sizes.is_named_pointer o.form) (size_of k (term_type (sizes.sized_term o.form)))

  pub size_of_type_scoped : (k : Known) (at : Place) (t : Ty) → Makes alive (sizes.size_of_type k at t)
  size_of_type_scoped k at t = size_by k at None false (size_of k t)

  cast_by : (k : Known) (at : Place) (to : Ty) (v : ValueView) (c : Conversion) → ScopedTerm alive v.term → Makes alive (sizes.cast_by k at to v c)
  cast_by k at to v conversion.Same h = noted_scoped k to v.term h
  cast_by k at to v conversion.Converted h = noted_scoped k to v.term h
  cast_by k at to v conversion.Crossing h = tt
  cast_by k at to v conversion.Nothing h = tt

  pub cast_scoped : (k : Known) (at : Place) (to : Ty) (o : OperandView) → Scoped alive o → Makes alive (sizes.cast k at to o)
  cast_scoped k at to o h = cond_makes (is_void to) (Ok (sizes.discarded at (term_of o))) (sizes.value_cast k at to (value_of o)) (unused_scoped (term_of o) (value_scoped o h)) (cast_by k at to (value_of o) (types.cast (term_type (term_of o)) (is_null (term_of o)) to) (value_scoped o h))

  -- ---- choices

  pub logical_scoped : (k : Known) (at : Place) (sign : LogicalOp) (x y : OperandView) → Scoped alive x → Scoped alive y → Makes alive (choices.logical k at sign x y)
  logical_scoped k at sign x y g h =
      cond_makes (choices.are_scalars (term_type (term_of x)) (term_type (term_of y))) (Ok (choices.logical_node k at sign (value_of x) (value_of y))) (type_fault at)
      (between (term_of x) (term_of y) (value_scoped x g) (value_scoped y h)) tt

  module _ (k : Known) (at : Place) (c : ChoiceView) (p : ScopedTerm alive c.condition) (g : ScopedTerm alive c.first) (h : ScopedTerm alive c.second) where
    chosen : (a b : TermTree) → ScopedTerm alive a → ScopedTerm alive b → (is_scoped_term alive c.condition && (is_scoped_term alive a && is_scoped_term alive b)) ≡ true
    chosen a b q r = two (is_scoped_term alive c.condition) (is_scoped_term alive a && is_scoped_term alive b) p (between a b q r)

    paired_choice : (by : Pairing) → Makes alive (choices.paired_choice k at c by)
    paired_choice pair.AsLeft = chosen c.first (conversions.in_type k c.second (term_type c.first)) g (in_type_scoped k c.second (term_type c.first) h)
    paired_choice pair.AsRight = chosen (conversions.in_type k c.first (term_type c.second)) c.second (in_type_scoped k c.first (term_type c.second) g) h
    paired_choice pair.Crosses = tt
    paired_choice pair.Integers = tt
    paired_choice pair.Apart = tt

    choice_by : (o : Option KindPair) → Makes alive (choices.choice_by k at c o)
    choice_by (Some kinds) =
        let kind : IntType = common k.numbers kinds.left kinds.right in
        chosen (conversions.integer_as k c.first kind) (conversions.integer_as k c.second kind) (integer_scoped k c.first kind g) (integer_scoped k c.second kind h)
    choice_by None = cond_makes (choices.are_void (term_type c.first) (term_type c.second)) (Ok (choices.plain_choice at c.condition c.first c.second)) (choices.paired_choice_of k at c) (chosen c.first c.second g h) (paired_choice (comparisons.pairing c.first c.second))

    choice_of : Makes alive (choices.choice_of k at c)
    choice_of = cond_makes (is_scalar (term_type c.condition)) (choices.scalar_choice k at c) (type_fault at) (choice_by (arithmetic.integer_kinds (term_type c.first) (term_type c.second))) tt

  pub conditional_scoped : (k : Known) (at : Place) (x y z : OperandView) → Scoped alive x → Scoped alive y → Scoped alive z → Makes alive (choices.conditional k at x y z)
  conditional_scoped k at x y z p g h = choice_of k at (choices.choice_from (value_of x) (value_of y) (value_of z)) (value_scoped x p) (value_scoped y g) (value_scoped z h)

  comma_by : (at : Place) (b : Bool) (a : TermTree) (l : LvalueTree) → ScopedTerm alive a → ScopedPlace alive l → Scoped alive (cond b (choices.struct_comma at a l) (choices.value_comma at a (lvalue_value l)))
  comma_by at true a l g h = two (is_scoped_term alive a) (is_scoped_place alive l) g h
  comma_by at false a l g h = between a (lvalue_value l) g (lvalue_scoped l h)

  comma_with : (at : Place) (a : TermTree) (f : OperandForm) → ScopedTerm alive a → ScopedForm alive f → Scoped alive (choices.comma_with at a f)
  comma_with at a (AsLvalue l) g h = comma_by at (is_struct (lvalue_type l)) a l g h
  comma_with at a (AsValue e) g h = between a e g h

  pub comma_scoped : (at : Place) (x y : OperandView) → Scoped alive x → Scoped alive y → Scoped alive (choices.comma at x y)
  comma_scoped at x y g h = comma_with at (conversions.unused (term_of x)) y.form (unused_scoped (term_of x) (value_scoped x g)) h

  -- ---- assignments

  source_if : (b : Bool) (l : LvalueTree) → ScopedPlace alive l → IfPlace alive (cond b (Some l) None)
  source_if true l h = h
  source_if false l h = tt

  source_form : (f : OperandForm) (t : Ty) → ScopedForm alive f → IfPlace alive (assignments.source_form f t)
  source_form (AsLvalue l) t h = source_if (same_type (lvalue_type l) t) l h
  source_form (AsValue e) t h = tt

  pub source_scoped : (o : OperandView) (t : Ty) → Scoped alive o → IfPlace alive (assignments.struct_source o t)
  source_scoped o t h = source_form o.form t h

  source_of_size : (o : OperandView) (t : Ty) (size : Option ℕ) → Scoped alive o → IfPlace alive (assignments.source_of_size o t size)
  source_of_size o t None h = tt
  source_of_size o t (Some size) h = source_scoped o t h

  copied_from : (at : Place) (l : LvalueTree) (o : Option LvalueTree) → ScopedPlace alive l → IfPlace alive o → Makes alive (assignments.copied_from at l o)
  copied_from at l None g h = tt
  copied_from at l (Some source) g h = two (is_scoped_place alive l) (is_scoped_place alive source) g h

  simple_by : (at : Place) (l : LvalueTree) (r : Ruled TermTree) → ScopedPlace alive l → MakesTerm alive r → Makes alive (assignments.simple_by at l r)
  simple_by at l (Ok e) g h = two (is_scoped_place alive l) (is_scoped_term alive e) g h
  simple_by at l (Err f) g h = tt

  module _ (k : Known) (at : Place) (l : LvalueTree) (o : OperandView) (g : ScopedPlace alive l) (h : Scoped alive o) where
    assigned_to : Makes alive (assignments.assigned_to k at l o)
    assigned_to =
        cond_makes (is_struct (lvalue_type l)) (assignments.copied k at l o) (cond (is_scalar (lvalue_type l)) (assignments.simple k at l o) (type_fault at))
        (copied_from at l (assignments.complete_source k o (lvalue_type l)) g (source_of_size o (lvalue_type l) (size_of k (lvalue_type l)) h))
        (cond_makes (is_scalar (lvalue_type l)) (assignments.simple k at l o) (type_fault at) (simple_by at l (conversions.assigned k at (term_of o) (lvalue_type l)) g (assigned_scoped k at (term_of o) (lvalue_type l) (value_scoped o h))) tt)

    compound_number : (kind : IntType) → is_scoped_place alive l && is_scoped_term alive (conversions.integer_as k (term_of o) kind) ≡ true
    compound_number kind = two (is_scoped_place alive l) (is_scoped_term alive (conversions.integer_as k (term_of o) kind)) g (integer_scoped k (term_of o) kind (value_scoped o h))

    numbers_by : (sign : BinaryOp) (kinds : KindPair) → Makes alive (assignments.compound_as k at sign l (term_of o) (Some (assignments.integer_compound k sign kinds)))
    numbers_by op.ShiftLeft kinds = compound_number (promoted k.numbers kinds.right)
    numbers_by op.ShiftRight kinds = compound_number (promoted k.numbers kinds.right)
    numbers_by _ kinds = compound_number (common k.numbers kinds.left kinds.right)

    moves_by : (sign : BinaryOp) (down : Bool) (size : Option ℕ) → Makes alive (assignments.compound_as k at sign l (term_of o) (assignments.pointer_step down size))
    moves_by sign down None = tt
    moves_by sign down (Some size) = two (is_scoped_place alive l) (is_scoped_term alive (term_of o)) g (value_scoped o h)

    moved : (sign : BinaryOp) → Makes alive (assignments.compound_as k at sign l (term_of o) (assignments.moved_pointer k sign (lvalue_type l)))
    moved op.Add = moves_by op.Add false (pointers.target_size k (lvalue_type l))
    moved op.Subtract = moves_by op.Subtract true (pointers.target_size k (lvalue_type l))
    moved _ = tt

    moved_if : (sign : BinaryOp) (b : Bool) → Makes alive (assignments.compound_as k at sign l (term_of o) (cond b (assignments.moved_pointer k sign (lvalue_type l)) None))
    moved_if sign true = moved sign
    moved_if sign false = tt

    compound_by : (sign : BinaryOp) (p : Option KindPair) → Makes alive (assignments.compound_as k at sign l (term_of o) (assignments.compound_by k sign (lvalue_type l) (term_type (term_of o)) p))
    compound_by sign (Some kinds) = numbers_by sign kinds
    compound_by sign None = moved_if sign (is_integer (term_type (term_of o)))

    assignment_by : (how : AssignOp) → Makes alive (assignments.assignment_by k at how l o)
    assignment_by assign.Simple = assigned_to
    assignment_by (assign.Compound sign) = compound_by sign (arithmetic.integer_kinds (lvalue_type l) (term_type (term_of o)))

  assignment_to : (k : Known) (at : Place) (how : AssignOp) (y : OperandView) (o : Option LvalueTree) → IfPlace alive o → Scoped alive y → Makes alive (assignments.assignment_to k at how y o)
  assignment_to k at how y None g h = tt
  assignment_to k at how y (Some l) g h = assignment_by k at l y g h how

  pub assignment_scoped : (k : Known) (at : Place) (how : AssignOp) (x y : OperandView) → Scoped alive x → Scoped alive y → Makes alive (assignments.assignment k at how x y)
  assignment_scoped k at how x y g h = assignment_to k at how y (own_lvalue x) (own_scoped x g) h
