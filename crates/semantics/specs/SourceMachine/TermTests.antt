-- The tests that conditions are: what is known of named objects where a condition holds.
use Rattle.std.specs.Prelude.{ℤ, pos, Bool, true, false, Option, Some, None}
use Rattle.cc_base.specs.declared.integer_operators.Rel.{Rel}
use Rattle.cc_base.specs.declared.integer_operators.Rel.TheVariants.{Ne}
use Rattle.cc_base.specs.declared.int_types.IntType.{IntType}
use Rattle.c_layout.specs.CheckedTrees as tree
use Rattle.c_layout.specs.CheckedTrees.{TermTree, Typed, FormTree}
use Rattle.c_layout.specs.CheckedUnits.{UnitView}
use Rattle.cfg.specs.declared.machine_instructions.Scalar as declared
use Rattle.cfg.specs.declared.machine_instructions.Scalar.TheVariants as of
use Rattle.lower_templates.specs.Worklist.TermKinds.{meaning, relation, integer_type, common_with_int, term_type}
use Rattle.lower_templates.specs.declared.worklist.term_kinds.OperatorMeaning.{OperatorMeaning}
use Rattle.lower_templates.specs.declared.worklist.term_kinds.OperatorMeaning.TheVariants.{Number, Truth}
use Rattle.lower_conditions.specs.declared.branch_tests.NamedObject.{NamedObject}
use Rattle.lower_conditions.specs.Tests.{named, named_or_assigned, constant_of, compared_with_null}
use Rattle.memory_model.specs.Effects.Tests.{turned}
use Rattle.semantics.specs.SourceMachine.Items.{NamedSide, NamedTest}
use Rattle.semantics.specs.SourceMachine.Items as side

abbrev pub test_between : NamedObject → Rel → NamedSide → Option IntType → NamedTest
test_between o rel right common = record { left = side.named o; rel = rel; right = right; common = common }

abbrev pub number_side : Option ℤ → Option NamedSide
number_side None = None
number_side (Some n) = Some (side.number n)

abbrev pub right_side : Option NamedObject → Option ℤ → Option NamedSide
right_side (Some o) value = Some (side.named o)
right_side None value = number_side value

abbrev pub test_with : NamedObject → Rel → IntType → Option NamedSide → Option NamedTest
test_with o rel common None = None
test_with o rel common (Some right) = Some (test_between o rel right (Some common))

abbrev pub turned_test : Option ℤ → Rel → Option NamedObject → IntType → Option NamedTest
turned_test (Some n) rel (Some o) common = Some (test_between o (turned rel) (side.number n) (Some common))
turned_test n rel o common = None

-- a named object or an assignment to one on the left, or a constant there and an object on the right
abbrev pub relation_test : Option NamedObject → TermTree → Rel → TermTree → Option NamedTest
relation_test (Some o) left rel right = test_with o rel (integer_type (term_type left)) (right_side (named right) (constant_of right))
relation_test None left rel right = turned_test (constant_of left) rel (named right) (integer_type (term_type left))

abbrev pub operator_test : OperatorMeaning → TermTree → TermTree → Option NamedTest
operator_test (Truth rel) left right = relation_test (named_or_assigned left) left rel right
operator_test (Number sign) left right = None

-- a pointer object that is compared with a null pointer constant
abbrev pub null_test : Option NamedObject → Rel → Option NamedTest
null_test None rel = None
null_test (Some o) rel = Some (test_between o rel side.nothing None)

abbrev pub zero_test_of : UnitView → NamedObject → declared.Scalar → Option NamedTest
zero_test_of u o (of.Int kind) = Some (test_between o Ne (side.number (pos 0)) (Some (common_with_int kind u.model.int)))
zero_test_of u o of.Pointer = Some (test_between o Ne side.nothing None)

-- an object alone is compared with 0 or null
abbrev pub zero_test : UnitView → Option NamedObject → Option NamedTest
zero_test u None = None
zero_test u (Some o) = zero_test_of u o o.kind

abbrev pub test_of_form : UnitView → TermTree → FormTree → Option NamedTest
test_of_form u e (tree.Integer sign left right) = operator_test (meaning sign) left right
test_of_form u e (tree.Compare sign left right) = null_test (compared_with_null left right) (relation sign)
test_of_form u e form = zero_test u (named_or_assigned e)

abbrev pub test_of : UnitView → TermTree → Option NamedTest
test_of u (Typed at t parens fixed form) = test_of_form u (Typed at t parens fixed form) form

abbrev pub test_if : UnitView → Bool → TermTree → Option NamedTest
test_if u true e = test_of u e
test_if u false e = None
