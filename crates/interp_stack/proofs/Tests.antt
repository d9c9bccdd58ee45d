-- A constant on the left of a test and an object on the right.
use Rattle.std.proofs.Common.{◌≡◌, ℤ, Bool, true, false, Some, refl}
use Rattle.c_layout.specs.CheckedTrees as tree
use Rattle.c_layout.specs.CheckedTrees.{TermTree, Typed, FormTree}
use Rattle.c_layout.specs.CheckedUnits.{UnitView}
use Rattle.cc_base.specs.declared.integer_operators.Rel.{Rel}
use Rattle.cc_base.specs.declared.integer_operators.Rel.TheVariants.{Lt, Le, Gt, Ge, Eq, Ne}
use Rattle.cc_base.specs.declared.int_types.IntType.{IntType}
use Rattle.lower_conditions.specs.declared.branch_tests.NamedObject.{NamedObject}
use Rattle.lower_conditions.specs.Tests.{named_or_assigned}
use Rattle.lower_templates.specs.Worklist.TermKinds.{turned, term_form}
use Rattle.semantics.specs.SourceMachine.Items as side
use Rattle.semantics.specs.SourceMachine.TermTests.{test_between, turned_test, zero_test, test_of}

pub turned_round : (n : ℤ) (rel : Rel) (o : NamedObject) (common : IntType) → Some (test_between o (turned rel) (side.number n) (Some common)) ≡ turned_test (Some n) rel (Some o) common
turned_round n Lt o common = refl
turned_round n Le o common = refl
turned_round n Gt o common = refl
turned_round n Ge o common = refl
turned_round n Eq o common = refl
turned_round n Ne o common = refl

-- a term of which a relation is no part
abbrev pub is_alone : FormTree → Bool
is_alone (tree.Integer sign a b) = false
is_alone (tree.Compare sign a b) = false
is_alone form = true

pub alone : (u : UnitView) (e : TermTree) → is_alone (term_form e) ≡ true → zero_test u (named_or_assigned e) ≡ test_of u e
alone u (Typed at t parens fixed (tree.Integer sign a b)) h = cc
alone u (Typed at t parens fixed (tree.Compare sign a b)) h = cc
alone u (Typed at t parens fixed form) h = refl
