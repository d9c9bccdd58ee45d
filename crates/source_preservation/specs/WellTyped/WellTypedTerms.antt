-- Terms and lvalues whose operands have the marks that their operators take.
use Rattle.std.specs.Prelude.{◌≡◌, ◌⊎◌, ℕ, ◌+◌, ℤ, pos, negsuc, Bool, true, false, List, [], ◌∷◌, Option, Some, None, slice_get}
use Rattle.cc_base.specs.IntegerTypes.{in_type}
use Rattle.cc_base.specs.declared.int_types.IntType.{IntType}
use Rattle.cc_base.specs.declared.integer_operators.IntOp.{IntOp}
use Rattle.cc_base.specs.declared.integer_operators.Rel.{Rel}
use Rattle.cc_base.specs.declared.integer_operators.Rel.TheVariants.{Ne}
use Rattle.c_layout.specs.Types.{Ty, Int}
use Rattle.c_layout.specs.CheckedTrees as tree
use Rattle.c_layout.specs.CheckedTrees.{TermTree, TermTrees, Typed, LvalueTree, Designates}
use Rattle.c_layout.specs.CheckedUnits.{FunctionView, UnitView}
use Rattle.c_layout.specs.declared.library_functions.LibFn.{LibFn}
use Rattle.c_layout.specs.declared.syntax_tree.expressions.LogicalOp.TheVariants.{And, Or}
use Rattle.lower_conditions.specs.declared.branch_tests.NamedObject.{NamedObject}
use Rattle.lower_expressions.specs.Assignments.{number_operator}
use Rattle.lower_expressions.specs.Calls.{gives}
use Rattle.lower_functions.specs.Functions.Functions.{local_type}
use Rattle.lower_templates.specs.Worklist.TermKinds.{meaning, relation, is_void, scalar_of, integer_type, term_type, lvalue_type}
use Rattle.lower_templates.specs.declared.worklist.term_kinds.OperatorMeaning.{OperatorMeaning}
use Rattle.lower_templates.specs.declared.worklist.term_kinds.OperatorMeaning.TheVariants as meant
use Rattle.cfg.specs.declared.machine_instructions.Scalar as declared
use Rattle.cfg.specs.declared.machine_instructions.Scalar.TheVariants as of
use Rattle.memory_model.specs.Effects.LibraryChecks.{most_size}
use Rattle.semantics.specs.SourceMachine.Items as side
use Rattle.semantics.specs.SourceMachine.Items.{NamedTest}
use Rattle.semantics.specs.SourceMachine.TermTests.{test_if}
use Rattle.semantics.specs.SourceMachine.SourceStates.{function_at}
use Rattle.source_items.specs.Operations.Kinds.{Kind}
use Rattle.source_items.specs.Operations.TakenKinds.{Accepts, result_kind}
use Rattle.source_items.specs.StackKinds.KindedTerms.{IsThere, HasObject}
use Rattle.source_preservation.specs.ValueTyping.Marks.{Mark, Exactly, Pointing, Null, Loaded, Converted, Tested, mark_of_type}
use Rattle.source_preservation.specs.ValueTyping.MarkOperations.{IsKind, IsScalar, IsWider, HasTruths, CountsAs, ComparesAs, AreWithNull, null_test_of, ConvertsTo, AreOfKinds, IsGiven}
use Rattle.source_preservation.specs.WellTyped.ExactTerms.{ExactTerm, NullTerm}

abbrev pub term_mark : TermTree → Mark
term_mark e = mark_of_type (term_type e)

abbrev pub lvalue_mark : LvalueTree → Mark
lvalue_mark l = mark_of_type (lvalue_type l)

abbrev pub local_mark : FunctionView → ℕ → Mark
local_mark f n = mark_of_type (local_type f n)

-- a type whose scalars the data model has
abbrev pub IsScalarType : UnitView → Ty → Type 0
IsScalarType u t = IsScalar u.model (scalar_of t)

-- the type of integers that a type is
abbrev pub IsInteger : UnitView → Ty → IntType → Type 0
IsInteger u t kind = (t ≡ Int kind) × IsKind u.model kind

-- the type of a truth value
abbrev pub IsTruth : Ty → Type 0
IsTruth t = (kind : IntType) × (t ≡ Int kind) × HasTruths kind

-- ---- calls

abbrev pub argument_marks : TermTrees → List Mark
argument_marks tree.End = []
argument_marks (tree.More e rest) = term_mark e ∷ argument_marks rest

-- the arguments from one on are of the types of their parameters
abbrev pub HaveParameters : FunctionView → ℕ → TermTrees → Type 0
HaveParameters f n tree.End = n ≡ f.parameters
HaveParameters f n (tree.More e rest) = (term_mark e ≡ local_mark f n) × HaveParameters f (n + 1) rest

-- a call's value is used only where the call gives it, and is that of its function
pub record CallsFunction (u : UnitView) (used is_used : Bool) (t : Ty) (g : ℕ) (args : TermTrees) : Type 0 where
  pub function : FunctionView
  pub is : function_at u g ≡ Some function
  pub arguments : HaveParameters function 0 args
  pub given : used ≡ true → is_used ≡ true
  pub result : is_used ≡ true → (is_void function.returns ≡ false) × (mark_of_type t ≡ mark_of_type function.returns)

pub record CallsLibrary (u : UnitView) (used : Bool) (t : Ty) (function : LibFn) (args : TermTrees) : Type 0 where
  pub kinds : List Kind
  pub are : AreOfKinds (argument_marks args) kinds
  pub accepts : Accepts function kinds
  pub given : used ≡ true → gives function ≡ true
  pub result : gives function ≡ true → IsGiven u.model function (result_kind function) (mark_of_type t)

-- ---- operators

-- the operands of an operator on integers, and its result
abbrev pub Combines : UnitView → OperatorMeaning → Ty → Ty → Ty → Type 0
Combines u (meant.Number sign) a b t = (kind : IntType) × (count : IntType) × IsInteger u t kind × (a ≡ Int kind) × (b ≡ Int count) × CountsAs sign kind count
Combines u (meant.Truth rel) a b t = (left : IntType) × (right : IntType) × (a ≡ Int left) × (b ≡ Int right) × IsTruth t

-- a compound assignment computes in a type of its own
pub record Compounds (u : UnitView) (sign : IntOp) (kind : IntType) (l a t : Ty) : Type 0 where
  pub old : IntType
  pub count : IntType
  pub lvalue : IsInteger u l old
  pub is_kind : IsKind u.model kind
  pub right : a ≡ Int count
  pub counts : CountsAs sign kind count
  pub is : t ≡ l

-- `++` and `--` too
pub record StepsIn (u : UnitView) (kind : IntType) (l t : Ty) : Type 0 where
  pub old : IntType
  pub lvalue : IsInteger u l old
  pub is_kind : IsKind u.model kind
  pub is : t ≡ l

-- a pointer and an integer, of which either may stand first
abbrev pub AddsTo : Ty → Ty → Type 0
AddsTo a b = ((mark_of_type a ≡ Pointing) × ((kind : IntType) × (b ≡ Int kind))) ⊎ (((kind : IntType) × (a ≡ Int kind)) × (mark_of_type b ≡ Pointing))

-- the difference of two pointers
abbrev pub Subtracts : UnitView → Ty → Type 0
Subtracts u t = (kind : IntType) × (t ≡ Int kind) × (in_type kind (pos (most_size u.model)) ≡ true) × (in_type kind (negsuc (most_size u.model)) ≡ true)

-- ---- tests

-- a value alone decides the test that compares it with 0 or null
abbrev pub DecidesAlone : UnitView → NamedObject → declared.Scalar → NamedTest → Type 0
DecidesAlone u o (of.Int kind) t = (common : IntType) × IsKind u.model kind × IsKind u.model common × IsWider kind common × (t ≡ record { left = side.named o; rel = Ne; right = side.number (pos 0); common = Some common })
DecidesAlone u o of.Pointer t = t ≡ null_test_of o Ne

-- so does a truth value that agrees with a test
abbrev pub Decides : UnitView → Mark → NamedTest → Type 0
Decides u (Tested test) t = t ≡ test
Decides u (Loaded o) t = DecidesAlone u o o.kind t
Decides u (Converted o wide) t = (kind : IntType) × (o.kind ≡ of.Int kind) × IsKind u.model wide × IsWider kind wide × DecidesAlone u o (of.Int kind) t
Decides u mark t = ⊥

-- ---- operands that tests look at

module _ (u : UnitView) where
  -- the value of a named object, converted or not
  abbrev pub SideTerm : TermTree → Mark → Type 0
  SideTerm (Typed at t parens fixed (tree.Load (Designates place s wrapped (tree.Object o)))) mark = HasObject u o × IsScalarType u s × (mark ≡ Loaded (record { object = o; kind = scalar_of s }))
  SideTerm (Typed at t parens fixed (tree.Convert sort a)) mark = IsScalarType u t × ((old : Mark) × SideTerm a old × ConvertsTo u.model (scalar_of t) old mark)
  SideTerm e mark = ⊥

  -- a value that is assigned to a named object, converted or not
  abbrev pub StoredTerm : TermTree → Mark → Type 0
  StoredTerm (Typed at t parens fixed (tree.Assign (Designates place s wrapped (tree.Object o)) a)) mark = mark ≡ Loaded (record { object = o; kind = scalar_of s })
  StoredTerm (Typed at t parens fixed (tree.Convert sort a)) mark = IsScalarType u t × ((old : Mark) × StoredTerm a old × ConvertsTo u.model (scalar_of t) old mark)
  StoredTerm e mark = ⊥

  -- an operand whose mark says what it has to do with memory, which it reads and does not change
  abbrev pub Quiet : TermTree → Mark → Type 0
  Quiet e mark = SideTerm e mark ⊎ (((n : ℤ) × ExactTerm u.model e n × (mark ≡ Exactly n)) ⊎ (NullTerm u.model e × (mark ≡ Null)))

  abbrev pub Operand : TermTree → Mark → Type 0
  Operand e mark = Quiet e mark ⊎ StoredTerm e mark

  -- ---- conditions

  -- a comparison whose truth value agrees with a test
  abbrev pub ComparisonTerm : TermTree → NamedTest → Type 0
  ComparisonTerm (Typed at t parens fixed (tree.Integer sign a b)) test = (rel : Rel) × (left : Mark) × (right : Mark) × (meaning sign ≡ meant.Truth rel) × Operand a left × Quiet b right × ComparesAs u.model rel left right test
  ComparisonTerm (Typed at t parens fixed (tree.Compare sign a b)) test = (o : NamedObject) × (left : Mark) × (right : Mark) × (o.kind ≡ of.Pointer) × Operand a left × Quiet b right × AreWithNull o left right × (test ≡ null_test_of o (relation sign))
  ComparisonTerm e test = ⊥

  -- a comparison is a test, and so is another value that decides one
  abbrev pub TestTerm : TermTree → NamedTest → Type 0
  TestTerm (Typed at t parens fixed (tree.Integer sign a b)) test = ComparisonTerm (Typed at t parens fixed (tree.Integer sign a b)) test
  TestTerm (Typed at t parens fixed (tree.Compare sign a b)) test = ComparisonTerm (Typed at t parens fixed (tree.Compare sign a b)) test
  TestTerm e test = (mark : Mark) × Operand e mark × Decides u mark test

  -- a test, if a condition is one, is decided by the condition's value
  abbrev pub HasTest : TermTree → Option NamedTest → Type 0
  HasTest e None = Unit {0}
  HasTest e (Some test) = TestTerm e test

  -- the tests of a condition, which goes straight to what follows; the arms of `?:` are no tests
  abbrev pub HasTests : Bool → TermTree → Type 0
  HasTests is_test (Typed at t parens fixed (tree.Logical And a b)) = HasTests is_test a × HasTests is_test b
  HasTests is_test (Typed at t parens fixed (tree.Logical Or a b)) = HasTests is_test a × HasTests is_test b
  HasTests is_test (Typed at t parens fixed (tree.Not a)) = HasTests is_test a
  HasTests is_test (Typed at t parens fixed (tree.Conditional c a b)) = HasTests true c × HasTests false a × HasTests false b
  HasTests is_test e = HasTest e (test_if u is_test e)

-- ---- terms

module _ (u : UnitView) where
  abbrev mutual
    -- a term whose value is used or not
    pub WellTypedTerm : Bool → TermTree → Type 0
    WellTypedTerm used (Typed at t parens fixed (tree.Number n)) = (kind : IntType) × (t ≡ Int kind) × (in_type kind n ≡ true)
    WellTypedTerm used (Typed at t parens fixed (tree.SizeofType n is_pointer)) = (kind : IntType) × (t ≡ Int kind) × (in_type kind (pos n) ≡ true)
    WellTypedTerm used (Typed at t parens fixed (tree.Sizeof n operand is_pointer)) = (kind : IntType) × (t ≡ Int kind) × (in_type kind (pos n) ≡ true)
    WellTypedTerm used (Typed at t parens fixed (tree.Load l)) = WellTypedPlace l × IsScalarType u (lvalue_type l) × (lvalue_mark l ≡ mark_of_type t)
    WellTypedTerm used (Typed at t parens fixed (tree.AddressOf l)) = WellTypedPlace l × (mark_of_type t ≡ Pointing)
    WellTypedTerm used (Typed at t parens fixed (tree.Decay l)) = WellTypedPlace l × (mark_of_type t ≡ Pointing)
    WellTypedTerm used (Typed at t parens fixed (tree.Convert sort a)) = IsScalarType u t × ((WellTypedTerm true a × ConvertsTo u.model (scalar_of t) (term_mark a) (mark_of_type t)) ⊎ ((mark_of_type t ≡ Pointing) × ExactTerm u.model a (pos 0)))
    WellTypedTerm used (Typed at t parens fixed (tree.Discard a)) = WellTypedTerm false a × (used ≡ false)
    WellTypedTerm used (Typed at t parens fixed (tree.Plus a)) = WellTypedTerm true a × (term_mark a ≡ mark_of_type t)
    WellTypedTerm used (Typed at t parens fixed (tree.Minus a)) = WellTypedTerm true a × (term_type a ≡ t) × ((kind : IntType) × IsInteger u t kind)
    WellTypedTerm used (Typed at t parens fixed (tree.Complement a)) = WellTypedTerm true a × (term_type a ≡ t) × ((kind : IntType) × IsInteger u t kind)
    WellTypedTerm used (Typed at t parens fixed (tree.Not a)) = WellTypedTerm true a × IsTruth t
    WellTypedTerm used (Typed at t parens fixed (tree.Integer sign a b)) = WellTypedTerm true a × WellTypedTerm true b × Combines u (meaning sign) (term_type a) (term_type b) t
    WellTypedTerm used (Typed at t parens fixed (tree.Shift back size a b)) = WellTypedTerm true a × WellTypedTerm true b × AddsTo (term_type a) (term_type b) × (mark_of_type t ≡ Pointing)
    WellTypedTerm used (Typed at t parens fixed (tree.Difference size a b)) = WellTypedTerm true a × WellTypedTerm true b × (term_mark a ≡ Pointing) × (term_mark b ≡ Pointing) × Subtracts u t
    WellTypedTerm used (Typed at t parens fixed (tree.Compare sign a b)) = WellTypedTerm true a × WellTypedTerm true b × (term_mark a ≡ Pointing) × (term_mark b ≡ Pointing) × IsTruth t
    WellTypedTerm used (Typed at t parens fixed (tree.Logical sign a b)) = WellTypedTerm true a × WellTypedTerm true b × IsTruth t
    WellTypedTerm used (Typed at t parens fixed (tree.Conditional c a b)) = WellTypedTerm true c × HasTests u true c × WellTypedTerm used a × WellTypedTerm used b × (term_mark a ≡ mark_of_type t) × (term_mark b ≡ mark_of_type t)
    WellTypedTerm used (Typed at t parens fixed (tree.Comma a b)) = WellTypedTerm false a × WellTypedTerm used b × (term_mark b ≡ mark_of_type t)
    WellTypedTerm used (Typed at t parens fixed (tree.Assign l a)) = WellTypedPlace l × WellTypedTerm true a × IsScalarType u (lvalue_type l) × (term_mark a ≡ lvalue_mark l) × (lvalue_mark l ≡ mark_of_type t)
    WellTypedTerm used (Typed at t parens fixed (tree.Compound sign kind l a)) = WellTypedPlace l × WellTypedTerm true a × Compounds u (number_operator (meaning sign)) (integer_type kind) (lvalue_type l) (term_type a) t
    WellTypedTerm used (Typed at t parens fixed (tree.CompoundShift back size l a)) = WellTypedPlace l × WellTypedTerm true a × ((kind : IntType) × (term_type a ≡ Int kind)) × (lvalue_mark l ≡ Pointing) × (mark_of_type t ≡ Pointing)
    WellTypedTerm used (Typed at t parens fixed (tree.Step sign time kind l)) = WellTypedPlace l × StepsIn u (integer_type kind) (lvalue_type l) t
    WellTypedTerm used (Typed at t parens fixed (tree.StepPointer sign time size l)) = WellTypedPlace l × (lvalue_mark l ≡ Pointing) × (mark_of_type t ≡ Pointing)
    WellTypedTerm used (Typed at t parens fixed (tree.Struct l)) = WellTypedPlace l × (mark_of_type t ≡ Pointing)
    WellTypedTerm used (Typed at t parens fixed (tree.Call g args is_used)) = WellTypedTerms args × CallsFunction u used is_used t g args
    WellTypedTerm used (Typed at t parens fixed (tree.Library function args allocated)) = WellTypedTerms args × CallsLibrary u used t function args

    pub WellTypedPlace : LvalueTree → Type 0
    WellTypedPlace (Designates at t parens (tree.Object o)) = HasObject u o
    WellTypedPlace (Designates at t parens (tree.Literal n)) = IsThere (slice_get u.literals n)
    WellTypedPlace (Designates at t parens (tree.Target e)) = WellTypedTerm true e × (term_mark e ≡ Pointing)
    WellTypedPlace (Designates at t parens (tree.Member outer offset)) = WellTypedPlace outer
    WellTypedPlace (Designates at t parens (tree.Copied target source)) = WellTypedPlace target × WellTypedPlace source
    WellTypedPlace (Designates at t parens (tree.Then left right)) = WellTypedTerm false left × WellTypedPlace right

    -- arguments
    pub WellTypedTerms : TermTrees → Type 0
    WellTypedTerms tree.End = Unit {0}
    WellTypedTerms (tree.More e rest) = WellTypedTerm true e × WellTypedTerms rest

-- a condition, whose leaves are tests or not
abbrev pub WellTypedCondition : UnitView → Bool → TermTree → Type 0
WellTypedCondition u is_test e = WellTypedTerm u true e × HasTests u is_test e
