-- What regular terms and statements name is there.
use Rattle.std.proofs.Common.{◌≡◌, ◌≤◌, ◌<◌, ℕ, zero, suc, ◌+◌, ◌-◌, ◌==◌, Bool, true, false, ◌&&◌, nat_lt, List, [], ◌∷◌, ◌++◌, length, replicate, length-append, Option, Some, None, refl, arith, ap, sym, subst, ◌∙◌}
use Rattle.std.specs.List.{list_all}
use Rattle.std.specs.Option.{option_and_then}
use Rattle.std.proofs.lemmas.Bool.{ltb-true}
use Rattle.std.proofs.lemmas.List.{length-replicate}
use Rattle.std.proofs.lemmas.Option.{option_and_then_some}
use Rattle.c_layout.specs.Types.{Ty}
use Rattle.c_layout.specs.CheckedTrees as tree
use Rattle.c_layout.specs.CheckedTrees.{TermTree, TermTrees, Typed, LvalueTree, Designates, StatementTree, StatementTrees, StoreTree, StoreValue, StoreCopy, StoreText, statement_trees}
use Rattle.c_layout.specs.CheckedUnits.{FunctionView, UnitView}
use Rattle.c_layout.specs.declared.checked_tree.checked_terms.ObjectRef.{ObjectRef}
use Rattle.c_layout.specs.declared.checked_tree.checked_terms.ObjectRef.TheVariants as ref
use Rattle.lower_functions.specs.Functions.Functions.{numbers_from}
use Rattle.lower_templates.specs.Worklist.Pieces.{NameView, Local, Literal}
use Rattle.lower_templates.specs.Worklist.Plans.{name_of_object}
use Rattle.lower_templates.specs.Worklist.TermKinds.{lvalue_type}
use Rattle.lower_conditions.specs.Tests.{named}
use Rattle.lower_template_theorems.specs.Names.NamedTrees.{NamesTerm, NamesTerms, NamesLvalue, NamesMaybe, NamesStore, NamesStores, NamesLocals, NamesStatement, NamesStatements, NamesFunction}
use Rattle.lower_preconditions.specs.Units.LabelNumbers.{is_numbered}
use Rattle.lower_preconditions.specs.Units.ScopeObjects.{all_marked, scopes_marked, all_scopes_marked, parameters_marked, so_many_marked, has_own_objects}
use Rattle.lower_preconditions.specs.Units.RegularTerms.{has_room, are_behind, is_struct, has_local, has_object, has_literal, is_callable, is_library_call, argument_count, is_regular_term, is_regular_place, are_regular_terms}
use Rattle.lower_preconditions.specs.Units.RegularStatements.{is_regular_clause, is_regular_result, is_regular_source, is_regular_store, are_plain, is_regular_named, is_regular_switch, is_regular_statement, are_regular_statements}
use Rattle.lower_preconditions.specs.Units.RegularUnits.{is_regular_function}
use Rattle.semantics.specs.SourceMachine.Scopes.{is_in}
use Rattle.simulation_layout.specs.Inlining.NameRanges.{IsNameThere}
use Rattle.simulation_layout.proofs.function_checks.CountedLabels.{both_true}
use Rattle.simulation_layout.proofs.function_checks.MarkedObjects.{clash, first_in, right_true, Marks, marks_all, FunctionMarks, function_marks}

-- ---- two operands

pub record Behind (d : ℕ) (a b : Bool) : Type 0 where
  pub first : a ≡ true
  pub room : has_room (d + 1) ≡ true
  pub second : b ≡ true

pub behind : (d : ℕ) (a b : Bool) → are_behind d a b ≡ true → Behind d a b
behind d a b e =
    let x = both_true a (has_room (d + 1) && b) e in
    let y = both_true (has_room (d + 1)) b x.1 in
    record { first = x.0; room = y.0; second = y.1 }

-- the three parts of a function's look
pub record Regular (u : UnitView) (f : FunctionView) : Type 0 where
  pub numbers : is_numbered f ≡ true
  pub objects : has_own_objects f ≡ true
  pub statements : are_regular_statements u f false false (statement_trees f.body) ≡ true

pub regular : (u : UnitView) (f : FunctionView) → is_regular_function u f ≡ true → Regular u f
regular u f e =
    let x = both_true (is_numbered f) (has_own_objects f && are_regular_statements u f false false (statement_trees f.body)) e in
    let y = both_true (has_own_objects f) (are_regular_statements u f false false (statement_trees f.body)) x.1 in
    record { numbers = x.0; objects = y.0; statements = y.1 }

length_marked : (marks others : ℕ) → length (so_many_marked marks others) ≡ marks + others
length_marked marks others = length-append (replicate marks true) (replicate others false) ∙ (ap (λ n. n + length (replicate others false)) (length-replicate marks true) ∙ ap (λ n. marks + n) (length-replicate others false))

module _ (u : UnitView) (f : FunctionView) where
  abbrev Q : NameView → Type 0
  Q = IsNameThere u f

  one_more : (n m : ℕ) → n < m → n < m + 1
  one_more n m less = omega (arith, less)

  local_there : (n : ℕ) → has_local f n ≡ true → Q (Local n)
  local_there n e = one_more n (length f.locals) (ltb-true n (length f.locals) e)

  object_there : (o : ObjectRef) → has_object u f o ≡ true → Q (name_of_object o)
  object_there (ref.Static n) e = ltb-true n (length u.objects) e
  object_there (ref.Local n) e = local_there n e

  mutual
    names_term : (used : Bool) (d : ℕ) (e : TermTree) → is_regular_term u f used d e ≡ true → NamesTerm Q e
    names_term used d (Typed at t parens constant (tree.Number n)) is = tt
    names_term used d (Typed at t parens constant (tree.SizeofType n is_pointer)) is = tt
    names_term used d (Typed at t parens constant (tree.Sizeof n operand is_pointer)) is = tt
    names_term used d (Typed at t parens constant (tree.Load l)) is = names_place d l is
    names_term used d (Typed at t parens constant (tree.AddressOf l)) is = names_place d l is
    names_term used d (Typed at t parens constant (tree.Decay l)) is = names_place d l is
    names_term used d (Typed at t parens constant (tree.Convert kind a)) is = names_term true d a is
    names_term used d (Typed at t parens constant (tree.Discard a)) is = names_term false d a (both_true _ (is_regular_term u f false d a) is).1
    names_term used d (Typed at t parens constant (tree.Plus a)) is = names_term true d a is
    names_term used d (Typed at t parens constant (tree.Minus a)) is = names_term true d a is
    names_term used d (Typed at t parens constant (tree.Complement a)) is = names_term true d a is
    names_term used d (Typed at t parens constant (tree.Not a)) is = names_term true d a is
    names_term used d (Typed at t parens constant (tree.Integer sign a b)) is = let x = behind d _ _ is in (names_term true d a x.first, names_term true (d + 1) b x.second)
    names_term used d (Typed at t parens constant (tree.Shift back size a b)) is = let x = behind d _ _ is in (names_term true d a x.first, names_term true (d + 1) b x.second)
    names_term used d (Typed at t parens constant (tree.Difference size a b)) is = let x = behind d _ _ is in (names_term true d a x.first, names_term true (d + 1) b x.second)
    names_term used d (Typed at t parens constant (tree.Compare sign a b)) is = let x = behind d _ _ is in (names_term true d a x.first, names_term true (d + 1) b x.second)
    names_term used d (Typed at t parens constant (tree.Logical sign a b)) is = let x = both_true _ _ is in (names_term true d a x.0, names_term true d b x.1)
    names_term used d (Typed at t parens constant (tree.Conditional c a b)) is =
        let x = both_true (is_regular_term u f true d c) (is_regular_term u f used d a && is_regular_term u f used d b) is in
        let y = both_true (is_regular_term u f used d a) (is_regular_term u f used d b) x.1 in
        (names_term true d c x.0, names_term used d a y.0, names_term used d b y.1)
    names_term used d (Typed at t parens constant (tree.Comma a b)) is = let x = both_true _ _ is in (names_term false d a x.0, names_term used d b x.1)
    names_term used d (Typed at t parens constant (tree.Assign l a)) is = let x = behind d _ _ is in (names_place d l x.first, names_term true (d + 1) a x.second)
    names_term used d (Typed at t parens constant (tree.Compound sign kind l a)) is = let x = behind d _ _ (both_true (has_room (d + 2)) _ is).1 in (names_place d l x.first, names_term true (d + 1) a x.second)
    names_term used d (Typed at t parens constant (tree.CompoundShift back size l a)) is = let x = behind d _ _ (both_true (has_room (d + 2)) _ is).1 in (names_place d l x.first, names_term true (d + 1) a x.second)
    names_term used d (Typed at t parens constant (tree.Step sign time kind l)) is = names_place d l (both_true (has_room (d + 2)) _ is).1
    names_term used d (Typed at t parens constant (tree.StepPointer sign time size l)) is = names_place d l (both_true (has_room (d + 2)) _ is).1
    names_term used d (Typed at t parens constant (tree.Struct l)) is = names_place d l is
    names_term used d (Typed at t parens constant (tree.Call function args is_used)) is = names_terms d args (both_true (are_regular_terms u f d args) _ is).0
    names_term used d (Typed at t parens constant (tree.Library function args target)) is = names_terms d args (both_true (are_regular_terms u f d args) _ is).0

    names_place : (d : ℕ) (l : LvalueTree) → is_regular_place u f d l ≡ true → NamesLvalue Q l
    names_place d (Designates at t parens (tree.Object o)) is = object_there o is
    names_place d (Designates at t parens (tree.Literal n)) is = ltb-true n (length u.literals) is
    names_place d (Designates at t parens (tree.Target e)) is = names_term true d e is
    names_place d (Designates at t parens (tree.Member outer offset)) is = names_place d outer is
    names_place d (Designates at t parens (tree.Copied target source)) is = let x = behind d _ _ (both_true (is_struct (lvalue_type target)) _ is).1 in (names_place d target x.first, names_place (d + 1) source x.second)
    names_place d (Designates at t parens (tree.Then left right)) is = let x = both_true _ _ is in (names_term false d left x.0, names_place d right x.1)

    names_terms : (d : ℕ) (es : TermTrees) → are_regular_terms u f d es ≡ true → NamesTerms Q es
    names_terms d tree.End is = tt
    names_terms d (tree.More e rest) is = let x = behind d _ _ is in (names_term true d e x.first, names_terms (d + 1) rest x.second)

  -- ---- parts of statements

  names_maybe : (used : Bool) (o : Option TermTree) → is_regular_clause u f used o ≡ true → NamesMaybe Q o
  names_maybe used None is = tt
  names_maybe used (Some e) is = names_term used 0 e is

  names_result : (o : Option TermTree) → is_regular_result u f o ≡ true → NamesMaybe Q o
  names_result None is = tt
  names_result (Some e) is = names_term true 1 e is

  names_source : (l : LvalueTree) → is_regular_source u f l ≡ true → NamesLvalue Q l
  names_source l is = names_place 1 l (both_true (is_struct (lvalue_type l)) _ is).1

  names_store : (x : StoreTree) → is_regular_store u f x ≡ true → NamesStore Q x
  names_store (StoreValue offset e) is = names_term true 1 e is
  names_store (StoreCopy offset l) is = names_source l is
  names_store (StoreText offset room text) is = tt

  names_stores : (xs : List StoreTree) → list_all (is_regular_store u f) xs ≡ true → NamesStores Q xs
  names_stores [] is = tt
  names_stores (x ∷ xs) is = let y = both_true (is_regular_store u f x) (list_all (is_regular_store u f) xs) is in (names_store x y.0, names_stores xs y.1)

  names_locals : (xs : List ℕ) → ((k : ℕ) → is_in k xs ≡ true → k < length f.locals) → NamesLocals Q xs
  names_locals [] below = tt
  names_locals (x ∷ xs) below = (one_more x (length f.locals) (below x (first_in x xs)), names_locals xs (λ k e. below k (right_true (k == x) (is_in k xs) e)))

  -- objects that are marked are there
  marked_there : (xs : List ℕ) (seen after : List Bool) → length seen ≡ length f.locals → Marks xs seen after → NamesLocals Q xs
  marked_there xs seen after long m = names_locals xs (λ k e. subst (λ n. k < n) long (m.there k e))

  -- ---- statements

  record Named (i : StatementTree) (after : List Bool) : Type 0 where
    long : length after ≡ length f.locals
    names : NamesStatement Q i

  record AllNamed (is : StatementTrees) (after : List Bool) : Type 0 where
    long : length after ≡ length f.locals
    names : NamesStatements Q is

  still : (seen after : List Bool) → length seen ≡ length f.locals → Some seen ≡ Some after → length after ≡ length f.locals
  still seen after long e = ap (λ xs. length xs) (sym (some_is seen after e)) ∙ long
    where
      some_is : {A : Type 0} (x y : A) → Some x ≡ Some y → x ≡ y
      some_is x y e = cc

  mutual
    names_statement : (breaks loops : Bool) (i : StatementTree) (seen after : List Bool) → length seen ≡ length f.locals → scopes_marked i seen ≡ Some after → is_regular_statement u f breaks loops i ≡ true → Named i after
    names_statement breaks loops (tree.Value e) seen after long m is = record { long = still seen after long m; names = names_term false 0 e is }
    names_statement breaks loops (tree.Forget at local) seen after long m is = record { long = still seen after long m; names = local_there local is }
    names_statement breaks loops (tree.Start at local e) seen after long m is = let x = both_true (has_local f local) _ is in record { long = still seen after long m; names = (local_there local x.0, names_term true 1 e x.1) }
    names_statement breaks loops (tree.StartCopy at local l) seen after long m is = let x = both_true (has_local f local) _ is in record { long = still seen after long m; names = (local_there local x.0, names_source l x.1) }
    names_statement breaks loops (tree.StartList at local stores) seen after long m is = let x = both_true (has_local f local) _ is in record { long = still seen after long m; names = (local_there local x.0, names_stores stores x.1) }
    names_statement breaks loops (tree.Block objects items) seen after long m is = option_and_then_some (all_scopes_marked items) (all_marked objects seen) after m (λ middle one other.
        let x = marks_all objects seen middle one in
        let y = names_statements breaks loops items middle after (x.long ∙ long) other is in
        record { long = y.long; names = (marked_there objects seen middle long x, y.names) })
    names_statement breaks loops (tree.If e body) seen after long m is = let x = both_true (is_regular_term u f true 0 e) _ is in let y = names_statement breaks loops body seen after long m x.1 in record { long = y.long; names = (names_term true 0 e x.0, y.names) }
    names_statement breaks loops (tree.IfElse e first second) seen after long m is = option_and_then_some (scopes_marked second) (scopes_marked first seen) after m (λ middle one other.
        let x = both_true (is_regular_term u f true 0 e) (is_regular_statement u f breaks loops first && is_regular_statement u f breaks loops second) is in
        let z = both_true (is_regular_statement u f breaks loops first) (is_regular_statement u f breaks loops second) x.1 in
        let y = names_statement breaks loops first seen middle long one z.0 in
        let w = names_statement breaks loops second middle after y.long other z.1 in
        record { long = w.long; names = (names_term true 0 e x.0, y.names, w.names) })
    names_statement breaks loops (tree.While e body) seen after long m is = let x = both_true (is_regular_term u f true 0 e) _ is in let y = names_statement true true body seen after long m x.1 in record { long = y.long; names = (names_term true 0 e x.0, y.names) }
    names_statement breaks loops (tree.Do body e) seen after long m is = let x = both_true (is_regular_term u f true 0 e) _ is in let y = names_statement true true body seen after long m x.1 in record { long = y.long; names = (y.names, names_term true 0 e x.0) }
    names_statement breaks loops (tree.For objects first e step body) seen after long m is = option_and_then_some (scopes_marked body) (option_and_then (all_scopes_marked first) (all_marked objects seen)) after m (λ begun one other.
        option_and_then_some (all_scopes_marked first) (all_marked objects seen) begun one (λ middle zeroth second.
        let a = both_true (are_plain first && (are_regular_statements u f false false first && (is_regular_clause u f true e && is_regular_clause u f false step))) (is_regular_statement u f true true body) is in
        let b = both_true (are_plain first) (are_regular_statements u f false false first && (is_regular_clause u f true e && is_regular_clause u f false step)) a.0 in
        let c = both_true (are_regular_statements u f false false first) (is_regular_clause u f true e && is_regular_clause u f false step) b.1 in
        let d = both_true (is_regular_clause u f true e) (is_regular_clause u f false step) c.1 in
        let x = marks_all objects seen middle zeroth in
        let y = names_statements false false first middle begun (x.long ∙ long) second c.0 in
        let w = names_statement true true body begun after y.long other a.1 in
        record { long = w.long; names = (marked_there objects seen middle long x, y.names, names_maybe true e d.0, names_maybe false step d.1, w.names) }))
    names_statement breaks loops (tree.Switch at e labels has_default values body) seen after long m is =
        let x = both_true (is_regular_switch u f e) _ is in
        let z = both_true (is_regular_named u f (named e)) (is_regular_term u f true 0 e) x.0 in
        let y = names_statement true loops body seen after long m x.1 in
        record { long = y.long; names = (names_term true 0 e z.1, y.names) }
    names_statement breaks loops (tree.Case n body) seen after long m is = let y = names_statement breaks loops body seen after long m is in record { long = y.long; names = y.names }
    names_statement breaks loops (tree.Default body) seen after long m is = let y = names_statement breaks loops body seen after long m is in record { long = y.long; names = y.names }
    names_statement breaks loops (tree.Label n body) seen after long m is = let y = names_statement breaks loops body seen after long m is in record { long = y.long; names = y.names }
    names_statement breaks loops (tree.Return at e) seen after long m is = record { long = still seen after long m; names = names_result e is }
    names_statement breaks loops other seen after long m is = record { long = still seen after long m; names = tt }

    names_statements : (breaks loops : Bool) (is : StatementTrees) (seen after : List Bool) → length seen ≡ length f.locals → all_scopes_marked is seen ≡ Some after → are_regular_statements u f breaks loops is ≡ true → AllNamed is after
    names_statements breaks loops tree.NoMore seen after long m is = record { long = still seen after long m; names = tt }
    names_statements breaks loops (tree.And first rest) seen after long m is = option_and_then_some (all_scopes_marked rest) (scopes_marked first seen) after m (λ middle one other.
        let x = both_true (is_regular_statement u f breaks loops first) (are_regular_statements u f breaks loops rest) is in
        let y = names_statement breaks loops first seen middle long one x.0 in
        let z = names_statements breaks loops rest middle after y.long other x.1 in
        record { long = z.long; names = (y.names, z.names) })

  -- ---- functions

  sum_within : (a b : ℕ) → a ≤ b → a + (b - a) ≡ b
  sum_within a b le = omega (arith, le)

  so_many : f.parameters ≤ length f.locals → length (parameters_marked f) ≡ length f.locals
  so_many le = long ∙ sum_within f.parameters (length f.locals) le
    where
      long : length (parameters_marked f) ≡ f.parameters + (length f.locals - f.parameters)
      long = length_marked f.parameters (length f.locals - f.parameters)

  below_locals : (first n : ℕ) → first + n ≤ length f.locals → NamesLocals Q (numbers_from first n)
  below_locals first zero le = tt
  below_locals first (suc n) le = (here le, below_locals (first + 1) n (next le))
    where
      here : first + suc n ≤ length f.locals → first < length f.locals + 1
      here le = omega (arith, le)

      next : first + suc n ≤ length f.locals → (first + 1) + n ≤ length f.locals
      next le = omega (arith, le)

  from_zero : f.parameters ≤ length f.locals → 0 + f.parameters ≤ length f.locals
  from_zero le = omega (arith, le)

  pub names_there : is_regular_function u f ≡ true → NamesFunction Q f
  names_there is =
      let x = regular u f is in
      let y = function_marks f x.objects in
      let long = so_many y.few in
      let m = marks_all f.scope (parameters_marked f) y.middle y.outermost in
      record {
        parameters = below_locals 0 f.parameters (from_zero y.few);
        scope = marked_there f.scope (parameters_marked f) y.middle long m;
        body = (names_statements false false (statement_trees f.body) y.middle y.after (m.long ∙ long) y.inside x.statements).names;
        outcome = tt;
        sites = λ target. tt;
      }
