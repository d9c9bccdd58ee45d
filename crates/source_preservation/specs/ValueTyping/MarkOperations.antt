-- What an operation does to the marks of the values that are pending, the newest one first.
use Rattle.std.specs.Prelude.{◌≡◌, ◌⊎◌, ℕ, ℤ, pos, negsuc, Bool, true, cond, List, [], ◌∷◌, ◌++◌, length, reverse, Some, None}
use Rattle.std.specs.Ordering.{int_eq}
use Rattle.cc_base.specs.IntegerTypes.{is_size, least_of, greatest_of, in_type, wrap_into}
use Rattle.cc_base.specs.MachineArithmetic.{binary_result, unary_result, holds}
use Rattle.cc_base.specs.declared.int_types.IntType.{IntType}
use Rattle.cc_base.specs.declared.integer_operators.IntOp.{IntOp}
use Rattle.cc_base.specs.declared.integer_operators.IntOp.TheVariants.{Shl, Shr}
use Rattle.cc_base.specs.declared.integer_operators.UnOp.{UnOp}
use Rattle.cc_base.specs.declared.integer_operators.Rel.{Rel}
use Rattle.c_layout.specs.Leaves.{class_of}
use Rattle.c_layout.specs.declared.data_model.Model.{Model}
use Rattle.c_layout.specs.declared.library_functions.LibFn.{LibFn}
use Rattle.c_layout.specs.declared.library_functions.LibFn.TheVariants as f
use Rattle.lower_conditions.specs.declared.branch_tests.NamedObject.{NamedObject}
use Rattle.lower_expressions.specs.Calls.{gives}
use Rattle.cfg.specs.declared.machine_instructions.Scalar as declared
use Rattle.cfg.specs.declared.machine_instructions.Scalar.TheVariants as of
use Rattle.memory_model.specs.Memory.ScalarSizes.{class_bytes}
use Rattle.memory_model.specs.Effects.LibraryChecks.{most_size}
use Rattle.memory_model.specs.Effects.LibraryCalls.{most_int}
use Rattle.memory_model.specs.Effects.Tests.{turned}
use Rattle.semantics.specs.SourceMachine.Items as side
use Rattle.semantics.specs.SourceMachine.Items.{NamedSide, NamedTest}
use Rattle.semantics.specs.SourceMachine.Operations as op
use Rattle.semantics.specs.SourceMachine.Operations.{Operation, Order, LeftFirst, RightFirst}
use Rattle.source_items.specs.Operations.Kinds.{Kind, Number, Address}
use Rattle.source_items.specs.Operations.TakenKinds.{Accepts, result_kind}
use Rattle.source_preservation.specs.ValueTyping.Marks.{Mark, Ranged, Exactly, Pointing, Naming, Null, Loaded, Converted, Tested, mark_of, is_stable, AreStable}

-- ---- integer types

-- an integer type of a data model
pub record IsKind (m : Model) (kind : IntType) : Type 0 where
  pub size : is_size kind.bytes ≡ true
  pub bytes : class_bytes m (class_of kind) ≡ kind.bytes

abbrev pub IsScalar : Model → declared.Scalar → Type 0
IsScalar m (of.Int kind) = IsKind m kind
IsScalar m of.Pointer = Unit {0}

-- a type has all numbers of another one
pub record IsWider (narrow wide : IntType) : Type 0 where
  pub least : in_type wide (least_of narrow) ≡ true
  pub greatest : in_type wide (greatest_of narrow) ≡ true

-- the type has both truth values
pub record HasTruths (kind : IntType) : Type 0 where
  pub zero : in_type kind (pos 0) ≡ true
  pub one : in_type kind (pos 1) ≡ true

-- ---- values that give place to others

abbrev pub Replaces : List Mark → List Mark → List Mark → List Mark → Type 0
Replaces taken given before after = (below : List Mark) × (before ≡ taken ++ below) × (after ≡ given ++ below)

-- memory is changed, so what is known of the values below does not rest on it
abbrev pub Rewrites : List Mark → List Mark → List Mark → List Mark → Type 0
Rewrites taken given before after = (below : List Mark) × AreStable below × (before ≡ taken ++ below) × (after ≡ given ++ below)

-- ---- numbers

-- what is known of a number
abbrev pub IsConstant : ℤ → Mark → Type 0
IsConstant n (Ranged kind) = in_type kind n ≡ true
IsConstant n (Exactly k) = k ≡ n
IsConstant n mark = ⊥

abbrev pub number_of_truth : Bool → ℤ
number_of_truth b = cond b (pos 1) (pos 0)

-- the count of a shift has a type of its own
abbrev pub CountsAs : IntOp → IntType → IntType → Type 0
CountsAs Shl kind count = Unit {0}
CountsAs Shr kind count = Unit {0}
CountsAs sign kind count = count ≡ kind

-- two operands, of which the left one was computed first or last
abbrev pub operands : Order → Mark → Mark → List Mark
operands LeftFirst left right = right ∷ (left ∷ [])
operands RightFirst left right = left ∷ (right ∷ [])

pub data Computes (m : Model) (order : Order) (sign : IntOp) (kind : IntType) (before after : List Mark) : Type 0 where
  ranged : (count : IntType) → IsKind m kind → CountsAs sign kind count → Replaces (operands order (Ranged kind) (Ranged count)) (Ranged kind ∷ []) before after → Computes m order sign kind before after
  exact : (a b n : ℤ) → binary_result sign kind a b ≡ Some n → Replaces (operands order (Exactly a) (Exactly b)) (Exactly n ∷ []) before after → Computes m order sign kind before after

pub data ComputesOne (m : Model) (sign : UnOp) (kind : IntType) (before after : List Mark) : Type 0 where
  ranged : IsKind m kind → Replaces (Ranged kind ∷ []) (Ranged kind ∷ []) before after → ComputesOne m sign kind before after
  exact : (a n : ℤ) → unary_result sign kind a ≡ Some n → Replaces (Exactly a ∷ []) (Exactly n ∷ []) before after → ComputesOne m sign kind before after

pub data Negates (before after : List Mark) : Type 0 where
  any : (k : Mark) (kind : IntType) → HasTruths kind → Replaces (k ∷ []) (Ranged kind ∷ []) before after → Negates before after
  exact : (n : ℤ) → Replaces (Exactly n ∷ []) (Exactly (number_of_truth (int_eq n (pos 0))) ∷ []) before after → Negates before after

-- ---- comparisons

-- a value that is a side of a test of integers in their common type
abbrev pub IsSideOf : IntType → Mark → NamedSide → Type 0
IsSideOf common (Loaded o) (side.named p) = (p ≡ o) × (o.kind ≡ of.Int common)
IsSideOf common (Converted o kind) (side.named p) = (p ≡ o) × (kind ≡ common)
IsSideOf common (Exactly n) (side.number k) = n ≡ wrap_into common k
IsSideOf common mark s = ⊥

-- a comparison of two values is a test, with its sides as they stand or exchanged
pub record ComparesAs (m : Model) (rel : Rel) (left right : Mark) (test : NamedTest) : Type 0 where
  pub common : IntType
  pub kind : IsKind m common
  pub is : test.common ≡ Some common
  pub sides : (IsSideOf common left test.left × IsSideOf common right test.right × (test.rel ≡ rel)) ⊎ (IsSideOf common left test.right × IsSideOf common right test.left × (test.rel ≡ turned rel))

pub data Compares (m : Model) (rel : Rel) (before after : List Mark) : Type 0 where
  ranged : (a b kind : IntType) → HasTruths kind → Replaces (Ranged b ∷ (Ranged a ∷ [])) (Ranged kind ∷ []) before after → Compares m rel before after
  exact : (a b : ℤ) → Replaces (Exactly b ∷ (Exactly a ∷ [])) (Exactly (number_of_truth (holds rel a b)) ∷ []) before after → Compares m rel before after
  tested : (left right : Mark) (test : NamedTest) → ComparesAs m rel left right test → Replaces (right ∷ (left ∷ [])) (Tested test ∷ []) before after → Compares m rel before after

-- a pointer object and null, in either order
abbrev pub AreWithNull : NamedObject → Mark → Mark → Type 0
AreWithNull o left right = ((left ≡ Loaded o) × (right ≡ Null)) ⊎ ((left ≡ Null) × (right ≡ Loaded o))

-- the test of a pointer object against null
abbrev pub null_test_of : NamedObject → Rel → NamedTest
null_test_of o rel = record { left = side.named o; rel = rel; right = side.nothing; common = None }

pub data ComparesPointers (rel : Rel) (before after : List Mark) : Type 0 where
  any : (kind : IntType) → HasTruths kind → Replaces (Pointing ∷ (Pointing ∷ [])) (Ranged kind ∷ []) before after → ComparesPointers rel before after
  tested : (o : NamedObject) (left right : Mark) → o.kind ≡ of.Pointer → AreWithNull o left right → Replaces (right ∷ (left ∷ [])) (Tested (null_test_of o rel) ∷ []) before after → ComparesPointers rel before after

-- ---- conversions

-- what a conversion to a scalar type makes of a mark
abbrev pub ConvertsTo : Model → declared.Scalar → Mark → Mark → Type 0
ConvertsTo m (of.Int kind) (Ranged old) new = new ≡ Ranged kind
ConvertsTo m (of.Int kind) (Exactly n) new = new ≡ Exactly (wrap_into kind n)
ConvertsTo m (of.Int kind) (Loaded o) new = (old : IntType) × (o.kind ≡ of.Int old) × (new ≡ Converted o kind)
ConvertsTo m of.Pointer Pointing new = new ≡ Pointing
ConvertsTo m of.Pointer Null new = new ≡ Null
ConvertsTo m of.Pointer (Exactly n) new = (n ≡ pos 0) × ((new ≡ Null) ⊎ (new ≡ Pointing))
ConvertsTo m of.Pointer (Loaded o) new = (o.kind ≡ of.Pointer) × (new ≡ Loaded o)
ConvertsTo m kind old new = ⊥

-- ---- memory

pub data Loads (m : Model) (kind : declared.Scalar) (before after : List Mark) : Type 0 where
  any : Replaces (Pointing ∷ []) (mark_of kind ∷ []) before after → Loads m kind before after
  named : (o : NamedObject) → o.kind ≡ kind → Replaces (Naming o.object ∷ []) (Loaded o ∷ []) before after → Loads m kind before after

pub data Stores (m : Model) (kind : declared.Scalar) (before after : List Mark) : Type 0 where
  any : Rewrites (mark_of kind ∷ (Pointing ∷ [])) (mark_of kind ∷ []) before after → Stores m kind before after
  named : (o : NamedObject) → o.kind ≡ kind → Rewrites (mark_of kind ∷ (Naming o.object ∷ [])) (Loaded o ∷ []) before after → Stores m kind before after

-- ---- the library

-- a value of a type is a number or a pointer
abbrev pub AreOfKinds : List Mark → List Kind → Type 0
AreOfKinds [] ks = ks ≡ []
AreOfKinds (Ranged kind ∷ marks) ks = (more : List Kind) × (ks ≡ Number ∷ more) × AreOfKinds marks more
AreOfKinds (Pointing ∷ marks) ks = (more : List Kind) × (ks ≡ Address ∷ more) × AreOfKinds marks more
AreOfKinds (mark ∷ marks) ks = ⊥

-- the least and the greatest number that a function gives
abbrev pub least_given : LibFn → ℤ
least_given f.Getchar = negsuc 0
least_given f.Strcmp = negsuc 0
least_given f.Toupper = negsuc 0
least_given f.Tolower = negsuc 0
least_given function = pos 0

abbrev pub greatest_given : Model → LibFn → ℤ
greatest_given m f.Strlen = pos (most_size m)
greatest_given m f.Getchar = pos 255
greatest_given m f.Putchar = pos 255
greatest_given m f.Toupper = pos 255
greatest_given m f.Tolower = pos 255
greatest_given m f.Printf = most_int m
greatest_given m function = pos 1

-- what a call gives: a pointer, or a number of a type that has all that the function gives
abbrev pub IsGiven : Model → LibFn → Kind → Mark → Type 0
IsGiven m function Address mark = mark ≡ Pointing
IsGiven m function Number (Ranged kind) = (in_type kind (least_given function) ≡ true) × (in_type kind (greatest_given m function) ≡ true)
IsGiven m function Number mark = ⊥

abbrev pub with_given : LibFn → Mark → List Mark → List Mark
with_given function mark below = cond (gives function) (mark ∷ below) below

-- so many arguments are taken, of which the newest is the last one
pub record MarkCalls (m : Model) (function : LibFn) (count : ℕ) (before after : List Mark) : Type 0 where
  pub arguments : List Mark
  pub kinds : List Kind
  pub below : List Mark
  pub result : Mark
  pub stable : AreStable below
  pub counted : length arguments ≡ count
  pub are : AreOfKinds arguments kinds
  pub accepts : Accepts function kinds
  pub taken : before ≡ reverse arguments ++ below
  pub result_is : gives function ≡ true → IsGiven m function (result_kind function) result
  pub given : after ≡ with_given function result below

-- ---- operations

-- a pointer and a number, of which the left one was computed first or last
abbrev pub pointer_and_count : Order → IntType → List Mark
pointer_and_count order kind = operands order Pointing (Ranged kind)

-- from some marks, the newest first, to others
abbrev pub MarkOperates : Model → Operation → List Mark → List Mark → Type 0
MarkOperates m (op.Constant n) before after = (k : Mark) × IsConstant n k × Replaces [] (k ∷ []) before after
MarkOperates m (op.Load kind) before after = IsScalar m kind × Loads m kind before after
MarkOperates m (op.LoadUnder kind) before after = (k : Mark) × IsScalar m kind × Replaces (k ∷ (Pointing ∷ [])) (mark_of kind ∷ (k ∷ (Pointing ∷ []))) before after
MarkOperates m (op.LoadOver kind) before after = IsScalar m kind × Replaces (Pointing ∷ []) (mark_of kind ∷ (Pointing ∷ [])) before after
MarkOperates m (op.Store kind) before after = IsScalar m kind × Stores m kind before after
MarkOperates m (op.StoreOver kind) before after = (k : Mark) × IsScalar m kind × (is_stable k ≡ true) × Rewrites (mark_of kind ∷ (k ∷ (Pointing ∷ []))) (k ∷ []) before after
MarkOperates m (op.Copy t) before after = Rewrites (Pointing ∷ (Pointing ∷ [])) (Pointing ∷ []) before after
MarkOperates m (op.Narrow offset size) before after = Replaces (Pointing ∷ []) (Pointing ∷ []) before after
MarkOperates m (op.Shift order size back) before after = (kind : IntType) × Replaces (pointer_and_count order kind) (Pointing ∷ []) before after
MarkOperates m (op.ShiftByOne size back) before after = Replaces (Pointing ∷ []) (Pointing ∷ []) before after
MarkOperates m (op.Binary order sign kind) before after = Computes m order sign kind before after
MarkOperates m (op.BinaryByOne sign kind) before after = IsKind m kind × Replaces (Ranged kind ∷ []) (Ranged kind ∷ []) before after
MarkOperates m (op.Unary sign kind) before after = ComputesOne m sign kind before after
MarkOperates m (op.Compare rel) before after = Compares m rel before after
MarkOperates m op.Not before after = Negates before after
MarkOperates m (op.Difference size) before after = (kind : IntType) × (in_type kind (pos (most_size m)) ≡ true) × (in_type kind (negsuc (most_size m)) ≡ true) × Replaces (Pointing ∷ (Pointing ∷ [])) (Ranged kind ∷ []) before after
MarkOperates m (op.ComparePointers rel) before after = ComparesPointers rel before after
MarkOperates m (op.Convert kind) before after = (old : Mark) × (new : Mark) × IsScalar m kind × ConvertsTo m kind old new × Replaces (old ∷ []) (new ∷ []) before after
MarkOperates m (op.Library function count target) before after = MarkCalls m function count before after
