-- What switches are on by name as on an integer is declared as one.
use Rattle.std.proofs.Common.{◌≡◌, ℕ, Bool, true, false, ◌&&◌, List, Option, Some, None, slice_get, refl, ap, sym, subst, ◌∙◌}
use Rattle.cc_base.specs.declared.int_types.IntType.{IntType}
use Rattle.c_layout.specs.Types.{Ty, Int, same_kind}
use Rattle.c_layout.specs.CheckedTrees as tree
use Rattle.c_layout.specs.CheckedTrees.{TermTree, StatementTree, StatementTrees, statement_trees}
use Rattle.c_layout.specs.CheckedUnits.{LocalView, StaticView, FunctionView, UnitView}
use Rattle.c_layout.specs.declared.checked_tree.checked_terms.ObjectRef.{ObjectRef}
use Rattle.c_layout.specs.declared.checked_tree.checked_terms.ObjectRef.TheVariants as ref
use Rattle.cfg.specs.declared.machine_instructions.Scalar.{Scalar}
use Rattle.cfg.specs.declared.machine_instructions.Scalar.TheVariants as scalar
use Rattle.lower_conditions.specs.Tests.{named}
use Rattle.lower_conditions.specs.declared.branch_tests.NamedObject.{NamedObject}
use Rattle.lower_functions.specs.Functions.Functions.{local_type, type_or}
use Rattle.lower_templates.specs.Worklist.Plans.{name_of_object}
use Rattle.lower_template_theorems.specs.Switches.SwitchedTrees.{IsSuchKind, IsSuchObject, SwitchesStatement, SwitchesStatements}
use Rattle.lower_preconditions.specs.Units.RegularTerms.{is_regular_term}
use Rattle.lower_preconditions.specs.Units.RegularStatements as looks
use Rattle.lower_preconditions.specs.Units.RegularStatements.{is_regular_clause, are_plain, is_of_kind, has_kind, object_type, is_named_as, is_regular_named, is_regular_switch, is_regular_statement, are_regular_statements}
use Rattle.lower_preconditions.specs.Units.RegularUnits.{is_regular_function}
use Rattle.semantics.specs.SourceMachine.SourceStates.{static_type}
use Rattle.simulation_layout.specs.Copies.FitTemplates.{type_named, IsInteger}
use Rattle.simulation_layout.specs.FunctionChecks.NamesThere.{IsIntegerName}
use Rattle.simulation_layout.proofs.function_checks.CountedLabels.{both_true}
use Rattle.simulation_layout.proofs.function_checks.MarkedObjects.{clash}
use Rattle.simulation_layout.proofs.function_checks.NamesThere.{regular}

integer : (k : IntType) (t : Ty) → is_of_kind k t ≡ true → IsInteger (Some t)
integer k (Int kind) e = (kind, refl)
integer k other e = clash false e refl

module _ (u : UnitView) (f : FunctionView) where
  static_integer : (k : IntType) (o : Option StaticView) → has_kind k (looks.static_type o) ≡ true → IsInteger (static_type o)
  static_integer k None e = clash false e refl
  static_integer k (Some o) e = integer k o.ctype e

  local_integer : (k : IntType) (o : Option LocalView) → has_kind k (looks.local_type o) ≡ true → IsInteger (Some (type_or o f.returns))
  local_integer k None e = clash false e refl
  local_integer k (Some l) e = integer k l.ctype e

  object_integer : (k : IntType) (o : ObjectRef) → has_kind k (object_type u f o) ≡ true → IsIntegerName u f (name_of_object o)
  object_integer k (ref.Static n) e = static_integer k (slice_get u.objects n) e
  object_integer k (ref.Local n) e = local_integer k (slice_get f.locals n) e

  named_integer : (o : NamedObject) (kind : Scalar) → is_named_as u f o.object kind ≡ true → IsSuchKind (IsIntegerName u f) o kind
  named_integer o (scalar.Int k) e = object_integer k o.object e
  named_integer o scalar.Pointer e = tt

  switched : (o : Option NamedObject) → is_regular_named u f o ≡ true → IsSuchObject (IsIntegerName u f) o
  switched None e = tt
  switched (Some o) e = named_integer o o.kind e

  mutual
    switches : (breaks loops : Bool) (i : StatementTree) → is_regular_statement u f breaks loops i ≡ true → SwitchesStatement (IsIntegerName u f) i
    switches breaks loops (tree.Block objects items) is = all_switches breaks loops items is
    switches breaks loops (tree.If e body) is = switches breaks loops body (both_true (is_regular_term u f true 0 e) _ is).1
    switches breaks loops (tree.IfElse e first second) is =
        let x = both_true (is_regular_term u f true 0 e) (is_regular_statement u f breaks loops first && is_regular_statement u f breaks loops second) is in
        let y = both_true (is_regular_statement u f breaks loops first) (is_regular_statement u f breaks loops second) x.1 in
        (switches breaks loops first y.0, switches breaks loops second y.1)
    switches breaks loops (tree.While e body) is = switches true true body (both_true (is_regular_term u f true 0 e) _ is).1
    switches breaks loops (tree.Do body e) is = switches true true body (both_true (is_regular_term u f true 0 e) _ is).1
    switches breaks loops (tree.For objects first e step body) is =
        let a = both_true (are_plain first && (are_regular_statements u f false false first && (is_regular_clause u f true e && is_regular_clause u f false step))) (is_regular_statement u f true true body) is in
        let b = both_true (are_plain first) (are_regular_statements u f false false first && (is_regular_clause u f true e && is_regular_clause u f false step)) a.0 in
        let c = both_true (are_regular_statements u f false false first) (is_regular_clause u f true e && is_regular_clause u f false step) b.1 in
        (all_switches false false first c.0, switches true true body a.1)
    switches breaks loops (tree.Switch at e labels has_default values body) is =
        let x = both_true (is_regular_switch u f e) _ is in
        (switched (named e) (both_true (is_regular_named u f (named e)) (is_regular_term u f true 0 e) x.0).0, switches true loops body x.1)
    switches breaks loops (tree.Case n body) is = switches breaks loops body is
    switches breaks loops (tree.Default body) is = switches breaks loops body is
    switches breaks loops (tree.Label n body) is = switches breaks loops body is
    switches breaks loops other is = tt

    all_switches : (breaks loops : Bool) (is : StatementTrees) → are_regular_statements u f breaks loops is ≡ true → SwitchesStatements (IsIntegerName u f) is
    all_switches breaks loops tree.NoMore is = tt
    all_switches breaks loops (tree.And first rest) is = let x = both_true (is_regular_statement u f breaks loops first) (are_regular_statements u f breaks loops rest) is in (switches breaks loops first x.0, all_switches breaks loops rest x.1)

  pub switched_integers : is_regular_function u f ≡ true → SwitchesStatements (IsIntegerName u f) (statement_trees f.body)
  switched_integers is = all_switches false false (statement_trees f.body) (regular u f is).statements
