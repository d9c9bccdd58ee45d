-- Regular statements suit.
use Rattle.std.proofs.Common.{◌≡◌, ◌≤◌, ℕ, ◌+◌, ◌-◌, ◌^◌, Bool, true, false, ◌&&◌, nat_lt, List, [], ◌∷◌, ◌++◌, length, Option, Some, None, slice_get, refl, arith}
use Rattle.std.specs.List.{list_all}
use Rattle.std.proofs.lemmas.Bool.{ltb-true}
use Rattle.cc_base.specs.declared.int_types.IntType.{IntType}
use Rattle.c_types_rules.proofs.SameTypes.{kind_is}
use Rattle.c_layout.specs.Types.{Ty, Int}
use Rattle.c_layout.specs.CheckedTrees as tree
use Rattle.c_layout.specs.CheckedTrees.{TermTree, LvalueTree, StatementTree, StatementTrees, StoreTree, StoreValue, StoreCopy, StoreText, statement_trees}
use Rattle.c_layout.specs.CheckedUnits.{LocalView, StaticView, FunctionView, UnitView}
use Rattle.c_layout.specs.declared.checked_tree.checked_terms.ObjectRef.{ObjectRef}
use Rattle.c_layout.specs.declared.checked_tree.checked_terms.ObjectRef.TheVariants as ref
use Rattle.cfg.specs.declared.machine_instructions.Scalar.{Scalar}
use Rattle.cfg.specs.declared.machine_instructions.Scalar.TheVariants as scalar
use Rattle.lower_conditions.specs.Tests.{named}
use Rattle.lower_conditions.specs.declared.branch_tests.NamedObject.{NamedObject}
use Rattle.lower_template_theorems.specs.PendingLabels.Marks.{below, all_labels_in, cases_in}
use Rattle.lower_template_theorems.proofs.pending_labels.MarkArithmetic.{below_yes}
use Rattle.lower_functions.specs.Functions.Functions.{type_or, numbers_from}
use Rattle.lower_templates.specs.Worklist.TermKinds.{integer_type, lvalue_type}
use Rattle.lower_preconditions.specs.Units.RegularTerms.{is_struct, has_local, is_regular_term, is_regular_place}
use Rattle.lower_preconditions.specs.Units.RegularStatements as looks
use Rattle.lower_preconditions.specs.Units.RegularStatements.{is_regular_clause, is_regular_result, is_regular_source, is_regular_store, is_plain, are_plain, is_of_kind, has_kind, object_type, is_named_as, is_regular_named, is_regular_switch, is_regular_statement, are_regular_statements}
use Rattle.lower_preconditions.specs.Units.RegularUnits.{is_regular_function}
use Rattle.semantics.specs.SourceMachine.SourceStates.{static_type}
use Rattle.simulation_terms.specs.Scopes.SuitedStatements as scopes
use Rattle.simulation_terms.specs.Scopes.SuitedStatements.{SuitsBehind, SuitsIf, SuitsAsReturned, SuitsAsSource, SuitsAsStore, SuitAsStores, Enclosure, not_enclosed, by_loop, by_switch, IsPlain, ArePlain, IsReadAs, IsSwitchedOn, HasCases, HasLabel, SuitsIn, AllSuitIn}
use Rattle.simulation_layout.specs.FunctionChecks.LabelsOnce.{IsSelectedOnce, AreSelectedOnce, AllSelectedOnce}
use Rattle.simulation_layout.specs.FunctionChecks.NewObjects.{HasNewObjects, HaveNewObjects}
use Rattle.simulation_layout.proofs.function_checks.CountedLabels.{both_true, labels_once, selected}
use Rattle.simulation_layout.proofs.function_checks.MarkedObjects.{clash, scopes_own}
use Rattle.simulation_layout.proofs.function_checks.NamesThere.{regular}
use Rattle.simulation_layout.proofs.function_checks.RoomOfTerms.{room_term, room_place}
use Rattle.simulation_units.proofs.preconditions.FewerObjects.{behind_same, all_fewer}
use Rattle.simulation_units.proofs.preconditions.SuitedTerms.{the_struct, suits, suits_place}

-- ---- first clauses

plain : (i : StatementTree) → is_plain i ≡ true → IsPlain i
plain (tree.Value e) is = tt
plain tree.Nothing is = tt
plain (tree.Forget at local) is = tt
plain (tree.Start at local e) is = tt
plain (tree.StartCopy at local l) is = tt
plain (tree.StartList at local stores) is = tt
plain other is = clash false is refl

all_plain : (is : StatementTrees) → are_plain is ≡ true → ArePlain is
all_plain tree.NoMore e = tt
all_plain (tree.And first rest) e = let x = both_true (is_plain first) (are_plain rest) e in (plain first x.0, all_plain rest x.1)

-- ---- switches

read_as : (k : IntType) (t : Ty) → is_of_kind k t ≡ true → k ≡ integer_type t
read_as k (Int kind) e = kind_is k kind e
read_as k other e = clash false e refl

at_least_one : (a b : ℕ) → a ≡ b → b ≡ 1 → 1 ≤ a
at_least_one a b e one = omega (arith, e, one)

has_cases : (count : ℕ) (has_default : Bool) (body : StatementTree) → IsSelectedOnce count has_default body → HasCases count body
has_cases count has_default body x n less = at_least_one (cases_in n body) (below n count) (x.cases n) (below_yes n count less)

module _ (u : UnitView) (f : FunctionView) where
  static_read : (k : IntType) (o : Option StaticView) → has_kind k (looks.static_type o) ≡ true → IsReadAs (static_type o) (scalar.Int k)
  static_read k None e = clash false e refl
  static_read k (Some o) e = (o.ctype, refl, read_as k o.ctype e)

  local_read : (k : IntType) (o : Option LocalView) → has_kind k (looks.local_type o) ≡ true → IsReadAs (Some (type_or o f.returns)) (scalar.Int k)
  local_read k None e = clash false e refl
  local_read k (Some l) e = (l.ctype, refl, read_as k l.ctype e)

  object_read : (k : IntType) (o : ObjectRef) → has_kind k (object_type u f o) ≡ true → IsReadAs (scopes.object_type u f o) (scalar.Int k)
  object_read k (ref.Static n) e = static_read k (slice_get u.objects n) e
  object_read k (ref.Local n) e = local_read k (slice_get f.locals n) e

  kind_read : (o : ObjectRef) (kind : Scalar) → is_named_as u f o kind ≡ true → IsReadAs (scopes.object_type u f o) kind
  kind_read o (scalar.Int k) e = object_read k o e
  kind_read o scalar.Pointer e = tt

  switched : (o : Option NamedObject) → is_regular_named u f o ≡ true → IsSwitchedOn u f o
  switched None e = tt
  switched (Some o) e = kind_read o.object o.kind e

  -- ---- parts of statements

  few : (n : ℕ) → n ≤ 1 → n ≤ 2 ^ 32 - 1
  few n le = omega (arith, le)

  behind_none : (used : Bool) (e : TermTree) → is_regular_term u f used 0 e ≡ true → SuitsBehind u used 0 e
  behind_none used e is = (suits u f used 0 e is, room_term u f used 0 e (few 0 (omega arith)) is)

  behind_one : (used : Bool) (e : TermTree) → is_regular_term u f used 1 e ≡ true → SuitsBehind u used 1 e
  behind_one used e is = (suits u f used 1 e is, room_term u f used 1 e (few 1 (omega arith)) is)

  clause : (used : Bool) (o : Option TermTree) → is_regular_clause u f used o ≡ true → SuitsIf u used o
  clause used None is = tt
  clause used (Some e) is = behind_none used e is

  returned : (o : Option TermTree) → is_regular_result u f o ≡ true → SuitsAsReturned u o
  returned None is = tt
  returned (Some e) is = behind_one true e is

  source : (l : LvalueTree) → is_regular_source u f l ≡ true → SuitsAsSource u l
  source l is =
      let x = both_true (is_struct (lvalue_type l)) (is_regular_place u f 1 l) is in
      (suits_place u f 1 l x.1, room_place u f 1 l (few 1 (omega arith)) x.1, the_struct (lvalue_type l) x.0)

  stored : (x : StoreTree) → is_regular_store u f x ≡ true → SuitsAsStore u x
  stored (StoreValue offset e) is = behind_one true e is
  stored (StoreCopy offset l) is = source l is
  stored (StoreText offset room text) is = tt

  all_stored : (xs : List StoreTree) → list_all (is_regular_store u f) xs ≡ true → SuitAsStores u xs
  all_stored [] is = tt
  all_stored (x ∷ xs) is = let y = both_true (is_regular_store u f x) (list_all (is_regular_store u f) xs) is in (stored x y.0, all_stored xs y.1)

  -- ---- statements

  module _ (labels : (l : ℕ) → all_labels_in l (statement_trees f.body) ≡ below l f.labels) where
    has_label : (l : ℕ) → nat_lt l f.labels ≡ true → HasLabel f l
    has_label l e = let less = ltb-true l f.labels e in (less, at_least_one (all_labels_in l (statement_trees f.body)) (below l f.labels) (labels l) (below_yes l f.labels less))

    mutual
      suited : (x : Enclosure) (known : List ℕ) (i : StatementTree) → is_regular_statement u f x.breaks x.continues i ≡ true → HasNewObjects known i → AreSelectedOnce i → SuitsIn u f x known i
      suited x known (tree.Value e) is new once = behind_none false e is
      suited x known tree.Nothing is new once = tt
      suited x known (tree.Forget at local) is new once = tt
      suited x known (tree.Start at local e) is new once = behind_one true e (both_true (has_local f local) _ is).1
      suited x known (tree.StartCopy at local l) is new once = source l (both_true (has_local f local) _ is).1
      suited x known (tree.StartList at local stores) is new once = all_stored stores (both_true (has_local f local) _ is).1
      suited x known (tree.Block objects items) is new once = (new.0, all_suited x (objects ++ known) items is new.1 once)
      suited x known (tree.If e body) is new once = let y = both_true (is_regular_term u f true 0 e) _ is in (behind_none true e y.0, suited x known body y.1 new once)
      suited x known (tree.IfElse e first second) is new once =
          let y = both_true (is_regular_term u f true 0 e) (is_regular_statement u f x.breaks x.continues first && is_regular_statement u f x.breaks x.continues second) is in
          let z = both_true (is_regular_statement u f x.breaks x.continues first) (is_regular_statement u f x.breaks x.continues second) y.1 in
          (behind_none true e y.0, suited x known first z.0 new.0 once.0, suited x known second z.1 new.1 once.1)
      suited x known (tree.While e body) is new once = let y = both_true (is_regular_term u f true 0 e) _ is in (behind_none true e y.0, suited by_loop known body y.1 new once)
      suited x known (tree.Do body e) is new once = let y = both_true (is_regular_term u f true 0 e) _ is in (suited by_loop known body y.1 new once, behind_none true e y.0)
      suited x known (tree.For objects first e step body) is new once =
          let a = both_true (are_plain first && (are_regular_statements u f false false first && (is_regular_clause u f true e && is_regular_clause u f false step))) (is_regular_statement u f true true body) is in
          let b = both_true (are_plain first) (are_regular_statements u f false false first && (is_regular_clause u f true e && is_regular_clause u f false step)) a.0 in
          let c = both_true (are_regular_statements u f false false first) (is_regular_clause u f true e && is_regular_clause u f false step) b.1 in
          let d = both_true (is_regular_clause u f true e) (is_regular_clause u f false step) c.1 in
          (new.0, all_suited not_enclosed (objects ++ known) first c.0 new.1 once.0, clause true e d.0, clause false step d.1, suited by_loop (objects ++ known) body a.1 new.2 once.1, all_plain first b.0)
      suited x known (tree.Switch at e labels has_default values body) is new once =
          let y = both_true (is_regular_switch u f e) _ is in
          let z = both_true (is_regular_named u f (named e)) (is_regular_term u f true 0 e) y.0 in
          (behind_none true e z.1, switched (named e) z.0, selected (length labels) has_default body once.0, has_cases (length labels) has_default body once.0, suited (by_switch x) known body y.1 new once.1)
      suited x known (tree.Case n body) is new once = suited x known body is new once
      suited x known (tree.Default body) is new once = suited x known body is new once
      suited x known (tree.Label n body) is new once = suited x known body is new once
      suited x known (tree.Goto n) is new once = has_label n is
      suited x known tree.Break is new once = is
      suited x known tree.Continue is new once = is
      suited x known (tree.Return at e) is new once = returned e is

      all_suited : (x : Enclosure) (known : List ℕ) (is : StatementTrees) → are_regular_statements u f x.breaks x.continues is ≡ true → HaveNewObjects known is → AllSelectedOnce is → AllSuitIn u f x known is
      all_suited x known tree.NoMore is new once = tt
      all_suited x known (tree.And first rest) is new once =
          let y = both_true (is_regular_statement u f x.breaks x.continues first) (are_regular_statements u f x.breaks x.continues rest) is in
          (suited x known first y.0 new.0 once.0, all_suited x known rest y.1 new.1 once.1)

pub function_suits : (u : UnitView) (f : FunctionView) → is_regular_function u f ≡ true → AllSuitIn u f not_enclosed (f.scope ++ []) (statement_trees f.body)
function_suits u f is =
    let x = regular u f is in
    let once = labels_once f x.numbers in
    let new = all_fewer (f.scope ++ []) (f.scope ++ numbers_from 0 f.parameters) (behind_same f.scope [] (numbers_from 0 f.parameters) (λ y e. clash false e refl)) (statement_trees f.body) (scopes_own f x.objects).body in
    all_suited u f once.labels not_enclosed (f.scope ++ []) (statement_trees f.body) x.statements new once.switches
