-- Looks at tests: whether what is known of the operands of a condition decides its test.
use Rattle.std.specs.Prelude.{◌==◌, pos, Bool, true, false, ◌&&◌, ◌||◌, Option, Some, None}
use Rattle.std.specs.Ordering.{int_eq}
use Rattle.cc_base.specs.IntegerTypes.{wrap_into}
use Rattle.cc_base.specs.declared.int_types.IntType.{IntType}
use Rattle.cc_base.specs.declared.integer_operators.Rel.{Rel}
use Rattle.cc_base.specs.declared.integer_operators.Rel.TheVariants.{Lt, Le, Gt, Ge, Eq, Ne}
use Rattle.c_layout.specs.Types.{same_kind}
use Rattle.c_layout.specs.CheckedUnits.{UnitView}
use Rattle.c_layout.specs.declared.data_model.Model.{Model}
use Rattle.c_layout.specs.declared.checked_tree.checked_terms.ObjectRef.{ObjectRef}
use Rattle.c_layout.specs.declared.checked_tree.checked_terms.ObjectRef.TheVariants as ref
use Rattle.lower_conditions.specs.declared.branch_tests.NamedObject.{NamedObject}
use Rattle.lower_templates.specs.declared.worklist.term_kinds.OperatorMeaning.{OperatorMeaning}
use Rattle.lower_templates.specs.declared.worklist.term_kinds.OperatorMeaning.TheVariants as meant
use Rattle.cfg.specs.declared.machine_instructions.Scalar.{Scalar}
use Rattle.cfg.specs.declared.machine_instructions.Scalar.TheVariants as of
use Rattle.memory_model.specs.Effects.Tests.{turned}
use Rattle.semantics.specs.SourceMachine.Items as side
use Rattle.semantics.specs.SourceMachine.Items.{NamedSide, NamedTest}
use Rattle.source_preservation.specs.ValueTyping.Marks.{Mark, Exactly, Null, Loaded, Converted}
use Rattle.source_preservation.specs.ValueTyping.MarkOperations.{null_test_of}
use Rattle.source_preservation.specs.Checks.LookedTypes.{is_kind, is_wider, is_pointer, same_scalar}

-- ---- tests that are the same

abbrev pub same_reference : ObjectRef → ObjectRef → Bool
same_reference (ref.Static m) (ref.Static n) = m == n
same_reference (ref.Local m) (ref.Local n) = m == n
same_reference o p = false

abbrev pub same_object : NamedObject → NamedObject → Bool
same_object o p = same_reference o.object p.object && same_scalar o.kind p.kind

abbrev pub same_side : NamedSide → NamedSide → Bool
same_side (side.named o) (side.named p) = same_object o p
same_side (side.number m) (side.number n) = int_eq m n
same_side side.nothing side.nothing = true
same_side x y = false

abbrev pub same_relation : Rel → Rel → Bool
same_relation Lt Lt = true
same_relation Le Le = true
same_relation Gt Gt = true
same_relation Ge Ge = true
same_relation Eq Eq = true
same_relation Ne Ne = true
same_relation r s = false

abbrev pub same_common : Option IntType → Option IntType → Bool
same_common None None = true
same_common (Some a) (Some b) = same_kind a b
same_common x y = false

abbrev pub same_test : NamedTest → NamedTest → Bool
same_test s t = same_side s.left t.left && (same_relation s.rel t.rel && (same_side s.right t.right && same_common s.common t.common))

-- ---- conversions of what an object has

abbrev pub converted_number : NamedObject → IntType → Scalar → Option Mark
converted_number o kind (of.Int old) = Some (Converted o kind)
converted_number o kind of.Pointer = None

abbrev pub converted_pointer : NamedObject → Scalar → Option Mark
converted_pointer o (of.Int old) = None
converted_pointer o of.Pointer = Some (Loaded o)

abbrev pub converted_object : Scalar → NamedObject → Option Mark
converted_object (of.Int kind) o = converted_number o kind o.kind
converted_object of.Pointer o = converted_pointer o o.kind

abbrev pub converted_mark : Scalar → Mark → Option Mark
converted_mark to (Loaded o) = converted_object to o
converted_mark to mark = None

-- ---- comparisons

-- a value that is a side of a test of integers in their common type
abbrev pub is_side_of : IntType → Mark → NamedSide → Bool
is_side_of common (Loaded o) (side.named p) = same_object p o && same_scalar o.kind (of.Int common)
is_side_of common (Converted o kind) (side.named p) = same_object p o && same_kind kind common
is_side_of common (Exactly n) (side.number k) = int_eq n (wrap_into common k)
is_side_of common mark s = false

abbrev pub compares_in : Model → Rel → Mark → Mark → NamedTest → Option IntType → Bool
compares_in m rel left right test None = false
compares_in m rel left right test (Some common) = is_kind m common && ((is_side_of common left test.left && (is_side_of common right test.right && same_relation test.rel rel)) || (is_side_of common left test.right && (is_side_of common right test.left && same_relation test.rel (turned rel))))

-- a relation of two integers
abbrev pub compares : Model → OperatorMeaning → Option Mark → Option Mark → NamedTest → Bool
compares m (meant.Truth rel) (Some left) (Some right) test = compares_in m rel left right test test.common
compares m how left right test = false

abbrev pub is_null_test : NamedObject → Rel → NamedTest → Bool
is_null_test o rel test = is_pointer o.kind && same_test test (null_test_of o rel)

abbrev pub with_loaded : Rel → Mark → NamedTest → Bool
with_loaded rel (Loaded o) test = is_null_test o rel test
with_loaded rel mark test = false

-- one is null, and the other one the value of a pointer object
abbrev pub are_with_null : Rel → Mark → Mark → NamedTest → Bool
are_with_null rel left Null test = with_loaded rel left test
are_with_null rel Null right test = with_loaded rel right test
are_with_null rel left right test = false

abbrev pub compares_with_null : Rel → Option Mark → Option Mark → NamedTest → Bool
compares_with_null rel (Some left) (Some right) test = are_with_null rel left right test
compares_with_null rel left right test = false

-- ---- values alone

abbrev pub zero_test_in : NamedObject → IntType → NamedTest
zero_test_in o common = record { left = side.named o; rel = Ne; right = side.number (pos 0); common = Some common }

abbrev pub decides_number : UnitView → NamedObject → IntType → NamedTest → Option IntType → Bool
decides_number u o kind t None = false
decides_number u o kind t (Some common) = is_kind u.model kind && (is_kind u.model common && (is_wider kind common && same_test t (zero_test_in o common)))

-- a value alone decides the test that compares it with 0 or null
abbrev pub decides_alone : UnitView → NamedObject → Scalar → NamedTest → Bool
decides_alone u o (of.Int kind) t = decides_number u o kind t t.common
decides_alone u o of.Pointer t = same_test t (null_test_of o Ne)

abbrev pub decides_converted : UnitView → NamedObject → IntType → Scalar → NamedTest → Bool
decides_converted u o wide (of.Int kind) t = is_kind u.model wide && (is_wider kind wide && decides_number u o kind t t.common)
decides_converted u o wide of.Pointer t = false

abbrev pub decides : UnitView → Option Mark → NamedTest → Bool
decides u (Some (Loaded o)) t = decides_alone u o o.kind t
decides u (Some (Converted o wide)) t = decides_converted u o wide o.kind t
decides u mark t = false
