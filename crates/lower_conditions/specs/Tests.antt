-- The tests of conditions: what is known of named objects on the edges of a branch.
use Rattle.std.specs.Prelude.{ℕ, ℤ, pos, Bool, true, false, cond, length, Option, Some, None}
use Rattle.cc_base.specs.declared.integer_operators.Rel.{Rel}
use Rattle.cc_base.specs.declared.integer_operators.Rel.TheVariants.{Ne}
use Rattle.cc_base.specs.declared.int_types.IntType.{IntType}
use Rattle.c_layout.specs.CheckedTrees as tree
use Rattle.c_layout.specs.CheckedTrees.{TermTree, FormTree, Typed, LvalueTree, LvalueFormTree, Designates}
use Rattle.c_layout.specs.declared.syntax_tree.expressions.BinaryOp.{BinaryOp}
use Rattle.cfg.specs.declared.flow_edges.Side.{Side}
use Rattle.cfg.specs.declared.flow_edges.Side.TheVariants as side
use Rattle.cfg.specs.declared.flow_edges.Test.{Test}
use Rattle.cfg.specs.declared.machine_instructions.Scalar.{Scalar}
use Rattle.cfg.specs.declared.machine_instructions.Scalar.TheVariants as scalar
use Rattle.lower_templates.specs.Worklist.TermKinds.{meaning, relation, opposite, turned, scalar_of, integer_type, common_with_int, is_null_constant, peeled, loaded, assigned, term_type, term_form, term_constant, lvalue_type, lvalue_form}
use Rattle.lower_templates.specs.Worklist.Plans.{Plan, with_name, name_of_object}
use Rattle.lower_templates.specs.Worklist.Settings.{SettingView}
use Rattle.lower_templates.specs.declared.worklist.term_kinds.OperatorMeaning.{OperatorMeaning}
use Rattle.lower_templates.specs.declared.worklist.term_kinds.OperatorMeaning.TheVariants.{Number, Truth}
use Rattle.lower_conditions.specs.declared.branch_tests.NamedObject.{NamedObject}

abbrev pub named_form : Scalar → LvalueFormTree → Option NamedObject
named_form kind (tree.Object o) = Some (record { object = o; kind = kind })
named_form kind (tree.Literal n) = None
named_form kind (tree.Target e) = None
named_form kind (tree.Member outer offset) = None
named_form kind (tree.Copied target source) = None
named_form kind (tree.Then left right) = None

abbrev pub named_lvalue : LvalueTree → Option NamedObject
named_lvalue l = named_form (scalar_of (lvalue_type l)) (lvalue_form l)

abbrev pub named_by : Option LvalueTree → Option NamedObject
named_by None = None
named_by (Some l) = named_lvalue l

-- the object that a term names, implicit conversions apart
abbrev pub named : TermTree → Option NamedObject
named e = named_by (loaded (term_form (peeled e)))

abbrev pub or_else : Option NamedObject → Option NamedObject → Option NamedObject
or_else (Some o) other = Some o
or_else None other = other

-- the object that a term names or assigns to by `=`
abbrev pub named_or_assigned : TermTree → Option NamedObject
named_or_assigned e = or_else (named e) (named_by (assigned (term_form (peeled e))))

abbrev pub constant_of : TermTree → Option ℤ
constant_of e = term_constant (peeled e)

-- a side, and what is planned after its base was named
pub record Sided : Type 0 where
  pub side : Side
  pub after : Plan

abbrev pub sided : Side → Plan → Sided
sided x p = record { side = x; after = p }

pub record MaybeSided : Type 0 where
  pub side : Option Side
  pub after : Plan

abbrev pub maybe_sided : Option Side → Plan → MaybeSided
maybe_sided x p = record { side = x; after = p }

-- a test, and what is planned after its bases were named
pub record Tested : Type 0 where
  pub test : Option Test
  pub after : Plan

abbrev pub tested : Option Test → Plan → Tested
tested t p = record { test = t; after = p }

abbrev pub object_side : NamedObject → Plan → Sided
object_side o p = sided (side.Object (length p.names) o.kind) (with_name (name_of_object o.object) p)

abbrev pub number_side : Option ℤ → Option Side
number_side None = None
number_side (Some n) = Some (side.Number n)

abbrev pub some_side : Sided → MaybeSided
some_side x = maybe_sided (Some x.side) x.after

abbrev pub side_of : Option NamedObject → Option ℤ → Plan → MaybeSided
side_of (Some o) constant p = some_side (object_side o p)
side_of None constant p = maybe_sided (number_side constant) p

-- a named object or a constant
abbrev pub right_side : TermTree → Plan → MaybeSided
right_side e p = side_of (named e) (constant_of e) p

abbrev pub test_from : Rel → Side → Option IntType → Sided → Tested
test_from rel right common x = tested (Some (record { left = x.side; rel = rel; right = right; common = common })) x.after

abbrev pub object_test : NamedObject → Rel → Side → Option IntType → Plan → Tested
object_test o rel right common p = test_from rel right common (object_side o p)

abbrev pub test_with : NamedObject → Rel → IntType → Option Side → Plan → Tested
test_with o rel common None p = tested None p
test_with o rel common (Some right) p = object_test o rel right (Some common) p

-- a relation of two integers, the left one an object: the right side is named first
abbrev pub integer_test : NamedObject → Rel → TermTree → IntType → Plan → Tested
integer_test o rel right common p = test_with o rel common (right_side right p).side (right_side right p).after

-- a constant on the left and an object on the right: the relation is turned round
abbrev pub turned_object_test : ℤ → Rel → Option NamedObject → IntType → Plan → Tested
turned_object_test n rel None common p = tested None p
turned_object_test n rel (Some o) common p = object_test o (turned rel) (side.Number n) (Some common) p

abbrev pub turned_test : Option ℤ → Rel → TermTree → IntType → Plan → Tested
turned_test None rel right common p = tested None p
turned_test (Some n) rel right common p = turned_object_test n rel (named right) common p

abbrev pub relation_test_of : Option NamedObject → TermTree → Rel → TermTree → Plan → Tested
relation_test_of (Some o) left rel right p = integer_test o rel right (integer_type (term_type left)) p
relation_test_of None left rel right p = turned_test (constant_of left) rel right (integer_type (term_type left)) p

abbrev pub relation_test : TermTree → Rel → TermTree → Plan → Tested
relation_test left rel right p = relation_test_of (named_or_assigned left) left rel right p

-- the pointer object that is compared with a null pointer constant
abbrev pub compared_with_null : TermTree → TermTree → Option NamedObject
compared_with_null left right = cond (is_null_constant right) (named_or_assigned left) (cond (is_null_constant left) (named right) None)

abbrev pub null_test : Option NamedObject → Rel → Plan → Tested
null_test None rel p = tested None p
null_test (Some o) rel p = object_test o rel side.Null None p

abbrev pub pointer_test : TermTree → Rel → TermTree → Plan → Tested
pointer_test left rel right p = null_test (compared_with_null left right) rel p

abbrev pub zero_test_of : NamedObject → Scalar → ℕ → Plan → Tested
zero_test_of o (scalar.Int kind) bytes p = object_test o Ne (side.Number (pos 0)) (Some (common_with_int kind bytes)) p
zero_test_of o scalar.Pointer bytes p = object_test o Ne side.Null None p

-- an object alone is compared with 0
abbrev pub zero_test : NamedObject → ℕ → Plan → Tested
zero_test o bytes p = zero_test_of o o.kind bytes p

abbrev pub own_test_of : Option NamedObject → ℕ → Plan → Tested
own_test_of None bytes p = tested None p
own_test_of (Some o) bytes p = zero_test o bytes p

abbrev pub own_test : SettingView → TermTree → Plan → Tested
own_test s e p = own_test_of (named_or_assigned e) s.int_bytes p

abbrev pub operator_test : OperatorMeaning → TermTree → TermTree → Plan → Tested
operator_test (Truth rel) left right p = relation_test left rel right p
operator_test (Number sign) left right p = tested None p

abbrev pub integers_test : BinaryOp → TermTree → TermTree → Plan → Tested
integers_test sign left right p = operator_test (meaning sign) left right p

abbrev pub test_of_form : SettingView → TermTree → FormTree → Plan → Tested
test_of_form s e (tree.Integer sign left right) p = integers_test sign left right p
test_of_form s e (tree.Compare sign left right) p = pointer_test left (relation sign) right p
test_of_form s e _ p = own_test s e p

-- the test that holds where a condition is true
abbrev pub test_of : SettingView → TermTree → Plan → Tested
test_of s (Typed at t parens constant form) p = test_of_form s (Typed at t parens constant form) form p

abbrev pub opposite_test : Test → Test
opposite_test t = record { left = t.left; rel = opposite t.rel; right = t.right; common = t.common }

abbrev pub opposite_of : Option Test → Option Test
opposite_of None = None
opposite_of (Some t) = Some (opposite_test t)
