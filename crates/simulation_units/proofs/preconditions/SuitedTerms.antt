-- Regular terms suit.
use Rattle.std.proofs.Common.{◌≡◌, ℕ, ◌+◌, ◌==◌, Bool, true, false, not, ◌&&◌, ◌||◌, Option, Some, None, slice_get, refl, ap, sym, ◌∙◌}
use Rattle.std.proofs.lemmas.Bool.{eqb-true}
use Rattle.c_layout.specs.Types.{Ty, Struct}
use Rattle.c_layout.specs.CheckedTrees as tree
use Rattle.c_layout.specs.CheckedTrees.{TermTree, TermTrees, Typed, LvalueTree, Designates}
use Rattle.c_layout.specs.CheckedUnits.{FunctionView, UnitView}
use Rattle.c_layout.specs.declared.library_functions.LibFn.{LibFn}
use Rattle.lower_templates.specs.Worklist.TermKinds.{is_void, struct_number, lvalue_type}
use Rattle.lower_expressions.specs.Calls.{gives, reads_line}
use Rattle.lower_preconditions.specs.Units.RegularTerms as looks
use Rattle.lower_preconditions.specs.Units.RegularTerms.{has_room, is_struct, is_callable, is_library_call, is_regular_term, is_regular_place, are_regular_terms}
use Rattle.semantics.specs.SourceMachine.TermItems.{argument_count}
use Rattle.simulation_terms.specs.Worklists.SuitedTerms.{Gives, HasThree, IsOwnCall, IsGiven, Suits, SuitsAsPlace, SuitAll}
use Rattle.simulation_layout.proofs.function_checks.CountedLabels.{both_true}
use Rattle.simulation_layout.proofs.function_checks.MarkedObjects.{clash}
use Rattle.simulation_layout.proofs.function_checks.NamesThere.{behind}

pub the_struct : (t : Ty) → is_struct t ≡ true → t ≡ Struct (struct_number t)
the_struct (Struct i) e = refl
the_struct other e = clash false e refl

not_false : (b : Bool) → (not b) ≡ true → b ≡ false
not_false false e = refl
not_false true e = clash false e refl

-- what is asked where something holds
implied : (a b : Bool) → (not a || b) ≡ true → a ≡ true → b ≡ true
implied true b e is = e
implied false b e is = clash false is refl

same_count : (es : TermTrees) → looks.argument_count es ≡ argument_count es
same_count tree.End = refl
same_count (tree.More e rest) = ap (λ n. n + 1) (same_count rest)

gives_used : (used : Bool) (function : LibFn) → (not used || gives function) ≡ true → Gives used function
gives_used true function e = e
gives_used false function e = tt

has_three : (reads : Bool) (args : TermTrees) → (not reads || looks.argument_count args == 3) ≡ true → HasThree reads args
has_three true args e = sym (same_count args) ∙ eqb-true (looks.argument_count args) 3 e
has_three false args e = tt

given : (used is_used : Bool) → (not used || is_used) ≡ true → IsGiven used is_used
given true is_used e = e
given false is_used e = tt

-- a call of a function of the unit, as a look finds it
record Callable (used is_used : Bool) (count : ℕ) (o : Option FunctionView) : Type 0 where
  function : FunctionView
  is : o ≡ Some function
  many : function.parameters ≡ count
  taken : IsGiven used is_used
  gives : is_used ≡ true → is_void function.returns ≡ false

callable : (used is_used : Bool) (count : ℕ) (o : Option FunctionView) → is_callable used is_used count o ≡ true → Callable used is_used count o
callable used is_used count None e = clash false e refl
callable used is_used count (Some f) e =
    let x = both_true (f.parameters == count) ((not used || is_used) && (not is_used || not (is_void f.returns))) e in
    let y = both_true (not used || is_used) (not is_used || not (is_void f.returns)) x.1 in
    record { function = f; is = refl; many = eqb-true f.parameters count x.0; taken = given used is_used y.0; gives = λ is. not_false (is_void f.returns) (implied is_used (not (is_void f.returns)) y.1 is) }

module _ (u : UnitView) (f : FunctionView) where
  own_call : (used is_used : Bool) (g : ℕ) (args : TermTrees) → is_callable used is_used (looks.argument_count args) (slice_get u.functions g) ≡ true → IsOwnCall u g (argument_count args) is_used × IsGiven used is_used
  own_call used is_used g args e =
      let x = callable used is_used (looks.argument_count args) (slice_get u.functions g) e in
      (record { function = x.function; called = record { is = x.is; gives = x.gives }; many = x.many ∙ same_count args }, x.taken)

  mutual
    pub suits : (used : Bool) (d : ℕ) (e : TermTree) → is_regular_term u f used d e ≡ true → Suits u used e
    suits used d (Typed at t parens constant (tree.Number n)) is = tt
    suits used d (Typed at t parens constant (tree.SizeofType n is_pointer)) is = tt
    suits used d (Typed at t parens constant (tree.Sizeof n operand is_pointer)) is = tt
    suits used d (Typed at t parens constant (tree.Load l)) is = suits_place d l is
    suits used d (Typed at t parens constant (tree.AddressOf l)) is = suits_place d l is
    suits used d (Typed at t parens constant (tree.Decay l)) is = suits_place d l is
    suits used d (Typed at t parens constant (tree.Convert kind a)) is = suits true d a is
    suits true d (Typed at t parens constant (tree.Discard a)) is = clash false is refl
    suits false d (Typed at t parens constant (tree.Discard a)) is = suits false d a is
    suits used d (Typed at t parens constant (tree.Plus a)) is = suits true d a is
    suits used d (Typed at t parens constant (tree.Minus a)) is = suits true d a is
    suits used d (Typed at t parens constant (tree.Complement a)) is = suits true d a is
    suits used d (Typed at t parens constant (tree.Not a)) is = suits true d a is
    suits used d (Typed at t parens constant (tree.Integer sign a b)) is = let x = behind d _ _ is in (suits true d a x.first, suits true (d + 1) b x.second)
    suits used d (Typed at t parens constant (tree.Shift back size a b)) is = let x = behind d _ _ is in (suits true d a x.first, suits true (d + 1) b x.second)
    suits used d (Typed at t parens constant (tree.Difference size a b)) is = let x = behind d _ _ is in (suits true d a x.first, suits true (d + 1) b x.second)
    suits used d (Typed at t parens constant (tree.Compare sign a b)) is = let x = behind d _ _ is in (suits true d a x.first, suits true (d + 1) b x.second)
    suits used d (Typed at t parens constant (tree.Logical sign a b)) is = let x = both_true _ _ is in (suits true d a x.0, suits true d b x.1)
    suits used d (Typed at t parens constant (tree.Conditional c a b)) is =
        let x = both_true (is_regular_term u f true d c) (is_regular_term u f used d a && is_regular_term u f used d b) is in
        let y = both_true (is_regular_term u f used d a) (is_regular_term u f used d b) x.1 in
        (suits true d c x.0, suits used d a y.0, suits used d b y.1)
    suits used d (Typed at t parens constant (tree.Comma a b)) is = let x = both_true _ _ is in (suits false d a x.0, suits used d b x.1)
    suits used d (Typed at t parens constant (tree.Assign l a)) is = let x = behind d _ _ is in (suits_place d l x.first, suits true (d + 1) a x.second)
    suits used d (Typed at t parens constant (tree.Compound sign kind l a)) is = let x = behind d _ _ (both_true (has_room (d + 2)) _ is).1 in (suits_place d l x.first, suits true (d + 1) a x.second)
    suits used d (Typed at t parens constant (tree.CompoundShift back size l a)) is = let x = behind d _ _ (both_true (has_room (d + 2)) _ is).1 in (suits_place d l x.first, suits true (d + 1) a x.second)
    suits used d (Typed at t parens constant (tree.Step sign time kind l)) is = suits_place d l (both_true (has_room (d + 2)) _ is).1
    suits used d (Typed at t parens constant (tree.StepPointer sign time size l)) is = suits_place d l (both_true (has_room (d + 2)) _ is).1
    suits used d (Typed at t parens constant (tree.Struct l)) is = suits_place d l is
    suits used d (Typed at t parens constant (tree.Call function args is_used)) is =
        let x = both_true (are_regular_terms u f d args) (is_callable used is_used (looks.argument_count args) (slice_get u.functions function)) is in
        let y = own_call used is_used function args x.1 in
        (suits_all d args x.0, y.0, y.1)
    suits used d (Typed at t parens constant (tree.Library function args target)) is =
        let x = both_true (are_regular_terms u f d args) (is_library_call used (looks.argument_count args) function) is in
        let y = both_true (not used || gives function) (not (reads_line function) || looks.argument_count args == 3) x.1 in
        (suits_all d args x.0, gives_used used function y.0, has_three (reads_line function) args y.1)

    pub suits_place : (d : ℕ) (l : LvalueTree) → is_regular_place u f d l ≡ true → SuitsAsPlace u l
    suits_place d (Designates at t parens (tree.Object o)) is = tt
    suits_place d (Designates at t parens (tree.Literal n)) is = tt
    suits_place d (Designates at t parens (tree.Target e)) is = suits true d e is
    suits_place d (Designates at t parens (tree.Member outer offset)) is = suits_place d outer is
    suits_place d (Designates at t parens (tree.Copied target source)) is =
        let s = both_true (is_struct (lvalue_type target)) _ is in
        let x = behind d (is_regular_place u f d target) (is_regular_place u f (d + 1) source) s.1 in
        (suits_place d target x.first, suits_place (d + 1) source x.second, the_struct (lvalue_type target) s.0)
    suits_place d (Designates at t parens (tree.Then left right)) is = let x = both_true _ _ is in (suits false d left x.0, suits_place d right x.1)

    suits_all : (d : ℕ) (es : TermTrees) → are_regular_terms u f d es ≡ true → SuitAll u es
    suits_all d tree.End is = tt
    suits_all d (tree.More e rest) is = let x = behind d (is_regular_term u f true d e) (are_regular_terms u f (d + 1) rest) is in (suits true d e x.first, suits_all (d + 1) rest x.second)
