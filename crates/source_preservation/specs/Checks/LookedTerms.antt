-- Looks at terms: the numbers that constants are, the marks of operands, and whether operators have operands of their marks.
use Rattle.std.specs.Prelude.{ℕ, ◌+◌, ◌==◌, ℤ, pos, Bool, true, false, not, ◌&&◌, ◌||◌, cond, List, [], ◌∷◌, Option, Some, None, option_map, option_and_then, is_some, slice_get}
use Rattle.std.specs.Ordering.{int_eq}
use Rattle.cc_base.specs.IntegerTypes.{in_type, wrap_into}
use Rattle.cc_base.specs.MachineArithmetic.{binary_result, unary_result, holds}
use Rattle.cc_base.specs.declared.int_types.IntType.{IntType}
use Rattle.cc_base.specs.declared.integer_operators.UnOp.TheVariants.{Neg, Compl}
use Rattle.c_layout.specs.Types.{Ty, Int, same_type}
use Rattle.c_layout.specs.CheckedTrees as tree
use Rattle.c_layout.specs.CheckedTrees.{TermTree, TermTrees, Typed, LvalueTree, Designates}
use Rattle.c_layout.specs.CheckedUnits.{FunctionView, UnitView}
use Rattle.c_layout.specs.declared.data_model.Model.{Model}
use Rattle.c_layout.specs.declared.checked_tree.checked_terms.ObjectRef.{ObjectRef}
use Rattle.c_layout.specs.declared.checked_tree.checked_terms.ObjectRef.TheVariants as ref
use Rattle.c_layout.specs.declared.library_functions.LibFn.{LibFn}
use Rattle.c_layout.specs.declared.library_functions.LibFn.TheVariants as f
use Rattle.c_layout.specs.declared.syntax_tree.expressions.LogicalOp.{LogicalOp}
use Rattle.c_layout.specs.declared.syntax_tree.expressions.LogicalOp.TheVariants.{And, Or}
use Rattle.lower_expressions.specs.Assignments.{number_operator}
use Rattle.lower_expressions.specs.Calls.{gives}
use Rattle.lower_functions.specs.Functions.Functions.{local_type}
use Rattle.lower_templates.specs.Worklist.TermKinds.{meaning, relation, is_void, is_zero, scalar_of, integer_type, term_type, lvalue_type}
use Rattle.lower_templates.specs.declared.worklist.term_kinds.OperatorMeaning.{OperatorMeaning}
use Rattle.lower_templates.specs.declared.worklist.term_kinds.OperatorMeaning.TheVariants as meant
use Rattle.cfg.specs.declared.machine_instructions.Scalar.{Scalar}
use Rattle.cfg.specs.declared.machine_instructions.Scalar.TheVariants as of
use Rattle.semantics.specs.SourceMachine.Items.{NamedTest}
use Rattle.semantics.specs.SourceMachine.SourceStates.{function_at}
use Rattle.semantics.specs.SourceMachine.TermTests.{test_if}
use Rattle.source_items.specs.Operations.Kinds.{Kind, Number, Address}
use Rattle.source_items.specs.Operations.TakenKinds.{result_kind}
use Rattle.source_items.specs.StackKinds.KindedTerms.{argument_kinds}
use Rattle.source_preservation.specs.ValueTyping.Marks.{Mark, Exactly, Null, Loaded}
use Rattle.source_preservation.specs.ValueTyping.MarkOperations.{number_of_truth, least_given, greatest_given}
use Rattle.source_preservation.specs.WellTyped.ExactTerms.{is_true}
use Rattle.source_preservation.specs.Checks.LookedTypes.{is_kind, is_scalar_type, is_address, same_mark, is_integer, has_number, is_such, is_truth, subtracts, combines, adds_to, steps_in, compounds, converts}
use Rattle.source_preservation.specs.Checks.LookedTests.{converted_mark, compares, compares_with_null, decides}

-- ---- numbers

abbrev pub converted_in : Model → Ty → Option ℤ → Option ℤ
converted_in m (Int kind) (Some n) = cond (is_kind m kind) (Some (wrap_into kind n)) None
converted_in m t n = None

abbrev pub negation : ℤ → ℤ
negation n = number_of_truth (int_eq n (pos 0))

abbrev pub result : OperatorMeaning → IntType → ℤ → ℤ → Option ℤ
result (meant.Number sign) kind a b = binary_result sign kind a b
result (meant.Truth rel) kind a b = Some (number_of_truth (holds rel a b))

abbrev pub results : OperatorMeaning → IntType → Option ℤ → Option ℤ → Option ℤ
results how kind (Some a) (Some b) = result how kind a b
results how kind a b = None

abbrev pub truth_of : Option ℤ → Option ℤ
truth_of n = option_map (λ k. number_of_truth (is_true k)) n

-- the right operand counts where the left one does not decide
abbrev pub logical : LogicalOp → Option ℤ → Option ℤ → Option ℤ
logical And (Some k) b = cond (is_true k) (truth_of b) (Some (pos 0))
logical Or (Some k) b = cond (is_true k) (Some (pos 1)) (truth_of b)
logical sign None b = None

abbrev pub chosen : Option ℤ → Option ℤ → Option ℤ → Option ℤ
chosen (Some k) a b = cond (is_true k) a b
chosen None a b = None

-- the number that a term is, where it is computed without memory
abbrev pub exact : Model → TermTree → Option ℤ
exact m (Typed at t parens fixed (tree.Number k)) = Some k
exact m (Typed at t parens fixed (tree.SizeofType size is_pointer)) = Some (pos size)
exact m (Typed at t parens fixed (tree.Sizeof size operand is_pointer)) = Some (pos size)
exact m (Typed at t parens fixed (tree.Convert sort a)) = converted_in m t (exact m a)
exact m (Typed at t parens fixed (tree.Plus a)) = exact m a
exact m (Typed at t parens fixed (tree.Minus a)) = option_and_then (λ k. unary_result Neg (integer_type t) k) (exact m a)
exact m (Typed at t parens fixed (tree.Complement a)) = option_and_then (λ k. unary_result Compl (integer_type t) k) (exact m a)
exact m (Typed at t parens fixed (tree.Not a)) = option_map negation (exact m a)
exact m (Typed at t parens fixed (tree.Integer sign a b)) = results (meaning sign) (integer_type t) (exact m a) (exact m b)
exact m (Typed at t parens fixed (tree.Logical sign a b)) = logical sign (exact m a) (exact m b)
exact m (Typed at t parens fixed (tree.Conditional c a b)) = chosen (exact m c) (exact m a) (exact m b)
exact m e = None

abbrev pub is_exact_zero : Model → TermTree → Bool
is_exact_zero m e = is_zero (exact m e)

-- a null pointer constant, converted to types of pointers
abbrev pub is_null : Model → TermTree → Bool
is_null m (Typed at t parens fixed (tree.Convert sort a)) = is_address t && (is_null m a || is_exact_zero m a)
is_null m e = false

-- ---- operands that tests look at

abbrev pub has_object : UnitView → ObjectRef → Bool
has_object u (ref.Static n) = is_some (slice_get u.objects n)
has_object u (ref.Local n) = true

abbrev pub loaded_from : ObjectRef → Ty → Mark
loaded_from o t = Loaded (record { object = o; kind = scalar_of t })

abbrev pub side_from : UnitView → LvalueTree → Option Mark
side_from u (Designates at t parens (tree.Object o)) = cond (has_object u o && is_scalar_type u t) (Some (loaded_from o t)) None
side_from u l = None

abbrev pub converted_to : UnitView → Ty → Option Mark → Option Mark
converted_to u t (Some mark) = cond (is_scalar_type u t) (converted_mark (scalar_of t) mark) None
converted_to u t None = None

-- the value of a named object, converted or not
abbrev pub side : UnitView → TermTree → Option Mark
side u (Typed at t parens fixed (tree.Load l)) = side_from u l
side u (Typed at t parens fixed (tree.Convert sort a)) = converted_to u t (side u a)
side u e = None

abbrev pub stored_to : LvalueTree → Option Mark
stored_to (Designates at t parens (tree.Object o)) = Some (loaded_from o t)
stored_to l = None

-- a value that is assigned to a named object, converted or not
abbrev pub stored : UnitView → TermTree → Option Mark
stored u (Typed at t parens fixed (tree.Assign l a)) = stored_to l
stored u (Typed at t parens fixed (tree.Convert sort a)) = converted_to u t (stored u a)
stored u e = None

abbrev pub first_of : Option Mark → Option Mark → Option Mark
first_of (Some mark) other = Some mark
first_of None other = other

-- what is known of an operand that reads memory and does not change it
abbrev pub quiet : UnitView → TermTree → Option Mark
quiet u e = first_of (side u e) (first_of (option_map Exactly (exact u.model e)) (cond (is_null u.model e) (Some Null) None))

abbrev pub operand : UnitView → TermTree → Option Mark
operand u e = first_of (quiet u e) (stored u e)

-- ---- conditions

-- whether a term decides a test
abbrev pub is_decided : UnitView → TermTree → NamedTest → Bool
is_decided u (Typed at t parens fixed (tree.Integer sign a b)) test = compares u.model (meaning sign) (operand u a) (quiet u b) test
is_decided u (Typed at t parens fixed (tree.Compare sign a b)) test = compares_with_null (relation sign) (operand u a) (quiet u b) test
is_decided u e test = decides u (operand u e) test

abbrev pub has_test : UnitView → TermTree → Option NamedTest → Bool
has_test u e None = true
has_test u e (Some test) = is_decided u e test

abbrev pub has_tests : UnitView → Bool → TermTree → Bool
has_tests u is_test (Typed at t parens fixed (tree.Logical And a b)) = has_tests u is_test a && has_tests u is_test b
has_tests u is_test (Typed at t parens fixed (tree.Logical Or a b)) = has_tests u is_test a && has_tests u is_test b
has_tests u is_test (Typed at t parens fixed (tree.Not a)) = has_tests u is_test a
has_tests u is_test (Typed at t parens fixed (tree.Conditional c a b)) = has_tests u true c && (has_tests u false a && has_tests u false b)
has_tests u is_test e = has_test u e (test_if u is_test e)

-- ---- calls

abbrev pub have_parameters : FunctionView → ℕ → TermTrees → Bool
have_parameters f n tree.End = n == f.parameters
have_parameters f n (tree.More e rest) = same_mark (term_type e) (local_type f n) && have_parameters f (n + 1) rest

-- a call of a function that is there
abbrev pub calls : Bool → Bool → Ty → TermTrees → Option FunctionView → Bool
calls used is_used t args None = false
calls used is_used t args (Some f) = have_parameters f 0 args && ((not used || is_used) && (not is_used || (not (is_void f.returns) && same_mark t f.returns)))

abbrev pub same_kinds : List Kind → List Kind → Bool
same_kinds [] [] = true
same_kinds (Number ∷ ks) (Number ∷ ls) = same_kinds ks ls
same_kinds (Address ∷ ks) (Address ∷ ls) = same_kinds ks ls
same_kinds ks ls = false

abbrev pub begins_with_address : List Kind → Bool
begins_with_address (Address ∷ ks) = true
begins_with_address ks = false

abbrev pub accepts : LibFn → List Kind → Bool
accepts f.Malloc ks = same_kinds ks (Number ∷ [])
accepts f.Calloc ks = same_kinds ks (Number ∷ (Number ∷ []))
accepts f.Realloc ks = same_kinds ks (Address ∷ (Number ∷ []))
accepts f.Free ks = same_kinds ks (Address ∷ [])
accepts f.Memcpy ks = same_kinds ks (Address ∷ (Address ∷ (Number ∷ [])))
accepts f.Memmove ks = same_kinds ks (Address ∷ (Address ∷ (Number ∷ [])))
accepts f.Memset ks = same_kinds ks (Address ∷ (Number ∷ (Number ∷ [])))
accepts f.Strlen ks = same_kinds ks (Address ∷ [])
accepts f.Strcpy ks = same_kinds ks (Address ∷ (Address ∷ []))
accepts f.Strncpy ks = same_kinds ks (Address ∷ (Address ∷ (Number ∷ [])))
accepts f.Strcat ks = same_kinds ks (Address ∷ (Address ∷ []))
accepts f.Strcmp ks = same_kinds ks (Address ∷ (Address ∷ []))
accepts f.Getchar ks = same_kinds ks []
accepts f.Fgets ks = same_kinds ks (Address ∷ (Number ∷ (Address ∷ [])))
accepts f.Puts ks = same_kinds ks (Address ∷ [])
accepts f.Printf ks = begins_with_address ks
accepts f.Exit ks = same_kinds ks (Number ∷ [])
accepts f.Abort ks = same_kinds ks []
accepts character ks = same_kinds ks (Number ∷ [])

abbrev pub is_given : Model → LibFn → Kind → Scalar → Bool
is_given m function Address of.Pointer = true
is_given m function Number (of.Int kind) = in_type kind (least_given function) && in_type kind (greatest_given m function)
is_given m function kind scalar = false

abbrev pub calls_library : UnitView → Bool → Ty → LibFn → TermTrees → Bool
calls_library u used t function args = accepts function (argument_kinds args) && ((not used || gives function) && (not (gives function) || is_given u.model function (result_kind function) (scalar_of t)))

-- ---- terms

abbrev mutual
  -- a term whose value is used or not
  pub is_well_typed_term : UnitView → Bool → TermTree → Bool
  is_well_typed_term u used (Typed at t parens fixed (tree.Number n)) = has_number n t
  is_well_typed_term u used (Typed at t parens fixed (tree.SizeofType n is_pointer)) = has_number (pos n) t
  is_well_typed_term u used (Typed at t parens fixed (tree.Sizeof n operand is_pointer)) = has_number (pos n) t
  is_well_typed_term u used (Typed at t parens fixed (tree.Load l)) = is_well_typed_place u l && (is_scalar_type u (lvalue_type l) && same_mark (lvalue_type l) t)
  is_well_typed_term u used (Typed at t parens fixed (tree.AddressOf l)) = is_well_typed_place u l && is_address t
  is_well_typed_term u used (Typed at t parens fixed (tree.Decay l)) = is_well_typed_place u l && is_address t
  is_well_typed_term u used (Typed at t parens fixed (tree.Convert sort a)) = is_scalar_type u t && ((is_well_typed_term u true a && converts (scalar_of t) (scalar_of (term_type a))) || (is_address t && is_exact_zero u.model a))
  is_well_typed_term u used (Typed at t parens fixed (tree.Discard a)) = is_well_typed_term u false a && not used
  is_well_typed_term u used (Typed at t parens fixed (tree.Plus a)) = is_well_typed_term u true a && same_mark (term_type a) t
  is_well_typed_term u used (Typed at t parens fixed (tree.Minus a)) = is_well_typed_term u true a && (same_type (term_type a) t && is_such (λ kind. is_kind u.model kind) t)
  is_well_typed_term u used (Typed at t parens fixed (tree.Complement a)) = is_well_typed_term u true a && (same_type (term_type a) t && is_such (λ kind. is_kind u.model kind) t)
  is_well_typed_term u used (Typed at t parens fixed (tree.Not a)) = is_well_typed_term u true a && is_truth t
  is_well_typed_term u used (Typed at t parens fixed (tree.Integer sign a b)) = is_well_typed_term u true a && (is_well_typed_term u true b && combines u (meaning sign) (term_type a) (term_type b) t)
  is_well_typed_term u used (Typed at t parens fixed (tree.Shift back size a b)) = is_well_typed_term u true a && (is_well_typed_term u true b && (adds_to (term_type a) (term_type b) && is_address t))
  is_well_typed_term u used (Typed at t parens fixed (tree.Difference size a b)) = is_well_typed_term u true a && (is_well_typed_term u true b && (is_address (term_type a) && (is_address (term_type b) && subtracts u t)))
  is_well_typed_term u used (Typed at t parens fixed (tree.Compare sign a b)) = is_well_typed_term u true a && (is_well_typed_term u true b && (is_address (term_type a) && (is_address (term_type b) && is_truth t)))
  is_well_typed_term u used (Typed at t parens fixed (tree.Logical sign a b)) = is_well_typed_term u true a && (is_well_typed_term u true b && is_truth t)
  is_well_typed_term u used (Typed at t parens fixed (tree.Conditional c a b)) = is_well_typed_term u true c && (has_tests u true c && (is_well_typed_term u used a && (is_well_typed_term u used b && (same_mark (term_type a) t && same_mark (term_type b) t))))
  is_well_typed_term u used (Typed at t parens fixed (tree.Comma a b)) = is_well_typed_term u false a && (is_well_typed_term u used b && same_mark (term_type b) t)
  is_well_typed_term u used (Typed at t parens fixed (tree.Assign l a)) = is_well_typed_place u l && (is_well_typed_term u true a && (is_scalar_type u (lvalue_type l) && (same_mark (term_type a) (lvalue_type l) && same_mark (lvalue_type l) t)))
  is_well_typed_term u used (Typed at t parens fixed (tree.Compound sign kind l a)) = is_well_typed_place u l && (is_well_typed_term u true a && compounds u (number_operator (meaning sign)) (integer_type kind) (lvalue_type l) (term_type a) t)
  is_well_typed_term u used (Typed at t parens fixed (tree.CompoundShift back size l a)) = is_well_typed_place u l && (is_well_typed_term u true a && (is_integer (term_type a) && (is_address (lvalue_type l) && is_address t)))
  is_well_typed_term u used (Typed at t parens fixed (tree.Step sign time kind l)) = is_well_typed_place u l && steps_in u (integer_type kind) (lvalue_type l) t
  is_well_typed_term u used (Typed at t parens fixed (tree.StepPointer sign time size l)) = is_well_typed_place u l && (is_address (lvalue_type l) && is_address t)
  is_well_typed_term u used (Typed at t parens fixed (tree.Struct l)) = is_well_typed_place u l && is_address t
  is_well_typed_term u used (Typed at t parens fixed (tree.Call g args is_used)) = are_well_typed_terms u args && calls used is_used t args (function_at u g)
  is_well_typed_term u used (Typed at t parens fixed (tree.Library function args allocated)) = are_well_typed_terms u args && calls_library u used t function args

  pub is_well_typed_place : UnitView → LvalueTree → Bool
  is_well_typed_place u (Designates at t parens (tree.Object o)) = has_object u o
  is_well_typed_place u (Designates at t parens (tree.Literal n)) = is_some (slice_get u.literals n)
  is_well_typed_place u (Designates at t parens (tree.Target e)) = is_well_typed_term u true e && is_address (term_type e)
  is_well_typed_place u (Designates at t parens (tree.Member outer offset)) = is_well_typed_place u outer
  is_well_typed_place u (Designates at t parens (tree.Copied target source)) = is_well_typed_place u target && is_well_typed_place u source
  is_well_typed_place u (Designates at t parens (tree.Then left right)) = is_well_typed_term u false left && is_well_typed_place u right

  -- arguments
  pub are_well_typed_terms : UnitView → TermTrees → Bool
  are_well_typed_terms u tree.End = true
  are_well_typed_terms u (tree.More e rest) = is_well_typed_term u true e && are_well_typed_terms u rest

-- a condition, whose leaves are tests or not
abbrev pub is_well_typed_condition : UnitView → Bool → TermTree → Bool
is_well_typed_condition u is_test e = is_well_typed_term u true e && has_tests u is_test e
