-- Each checked unit passes the look at scopes.
use Rattle.std.proofs.Common.{◌≡◌, ◌+◌, ℕ, suc, Bool, true, false, List, [], ◌∷◌, ◌++◌, slice_get, Option, Some, None, Ok, Err, arith, refl, ap, subst, sym, ◌∙◌}
use Rattle.std.specs.Prelude.{cond, is_some, nat_le}
use Rattle.std.specs.List.{list_all}
use Rattle.std.proofs.lemmas.Option.{same_Some}
use Rattle.cc_base.specs.declared.diagnostics.Place.{Place}
use Rattle.c_layout.specs.CheckedUnits.{FunctionView}
use Rattle.c_layout.specs.DeclarationTrees.{NameView, InitDeclaratorView, Object, Initialized, Prototype, ExternalTree, Declared, Defined}
use Rattle.c_layout.specs.declared.data_model.Model.{Model}
use Rattle.c_types_rules.specs.CallCycles.CallCycles.{first_cycle}
use Rattle.c_types_rules.specs.declared.call_cycles.call_graph.Call.{Call}
use Rattle.c_types_scopes.specs.Answers.{after}
use Rattle.c_types_scopes.specs.Names.{narrowed}
use Rattle.c_types_scopes.specs.Refusals.{Ruled}
use Rattle.c_types_scopes.specs.States.{State, first_state}
use Rattle.c_types_statement_rules.specs.Objects.UnitObjects.{finished_objects}
use Rattle.c_types.specs.FileScope.ExternalDeclarations.{external_declaration}
use Rattle.c_types.specs.Units.FunctionDefinitions.{function_definition}
use Rattle.c_types.specs.Units.Streams.{with_stream}
use Rattle.c_types.specs.Units.UnitChecks as checks
use Rattle.c_types.specs.Units.UnitDefinitions.{storage_of, is_definition, with_named, with_declarator, with_declarators, with_external, with_externals}
use Rattle.c_types.specs.Units.UnitEntries.{takes_integers, entry_if, entry_from, entry_number, has_name, judged_entry, judged_calls, judged}
use Rattle.c_types_theorems.proofs.entries.Entries.{same_value}
use Rattle.c_types_theorems.proofs.entries.Leading.{Leads}
use Rattle.source_preservation.proofs.checks.Truths.{both_true}
use Rattle.source_preservation.specs.UnitChecks.LookedScopes.{is_scoped, is_scoped_function}
use Rattle.c_types_well_formed_units.specs.Scoped.BlockDeclarations.{UnitInBlocks, ExternalInBlocks}
use Rattle.c_types_well_formed_units.specs.Scoped.SeenObjects.{SeesAt}
use Rattle.c_types_well_formed_units.proofs.scoped.Numbers.{two}
use Rattle.c_types_well_formed_units.specs.ScopedUnits.ScopedChecks.{ChecksAreScoped}
use Rattle.c_types_well_formed_units.proofs.scoped_units.Files.{Sighted, external_leads}
use Rattle.c_types_well_formed_units.proofs.scoped_units.Headed.{Defines, function_defines}

-- ---- before the first declaration

begins : (m : Model) → SeesAt [] (with_stream (first_state m))
begins m = record { each = λ i d is. absurd (cc) }

declared_sees : (defines : Bool) (d : InitDeclaratorView) (s : State) → SeesAt [] s → SeesAt [] (with_declarator defines d s)
declared_sees defines (Object d) s sees = by_defines defines
  where
    by_name : (n : Option NameView) → SeesAt [] (with_named n s)
    by_name None = sees
    by_name (Some n) = sees

    by_defines : (b : Bool) → SeesAt [] (cond b (with_named d.name s) s)
    by_defines true = by_name d.name
    by_defines false = sees
declared_sees defines (Initialized d equals i) s sees = by_name d.name
  where
    by_name : (n : Option NameView) → SeesAt [] (with_named n s)
    by_name None = sees
    by_name (Some n) = sees
declared_sees defines (Prototype f) s sees = sees

declarators_see : (ds : List InitDeclaratorView) (defines : Bool) (s : State) → SeesAt [] s → SeesAt [] (with_declarators defines ds s)
unfolding with_declarators
declarators_see [] defines s sees = sees
declarators_see (d ∷ ds) defines s sees = declarators_see ds defines (with_declarator defines d s) (declared_sees defines d s sees)

externals_see : (es : List ExternalTree) (s : State) → SeesAt [] s → SeesAt [] (with_externals es s)
unfolding with_externals
externals_see [] s sees = sees
externals_see (Declared at words ds ∷ es) s sees = externals_see es (with_external (Declared at words ds) s) (declarators_see ds (is_definition (storage_of words)) s sees)
externals_see (Defined at words f body ∷ es) s sees = externals_see es (with_external (Defined at words f body) s) sees

-- ---- functions

abbrev AreScoped : List FunctionView → Type 0
AreScoped fs = list_all is_scoped_function fs ≡ true

all_with : (fs : List FunctionView) (f : FunctionView) → AreScoped fs → is_scoped_function f ≡ true → AreScoped (fs ++ f ∷ [])
all_with [] f all one = two (is_scoped_function f) true one refl
all_with (g ∷ fs) f all one =
    let p = both_true (is_scoped_function g) (list_all is_scoped_function fs) all in
    two (is_scoped_function g) (list_all is_scoped_function (fs ++ f ∷ [])) p.0 (all_with fs f p.1 one)

-- all functions so far are scoped, and no name means a local object
abbrev Goes : Ruled (List FunctionView × State) → Type 0
Goes (Ok p) = AreScoped p.0 × SeesAt [] p.1
Goes (Err f) = Unit {0}

external_goes : (s : State) (made : List FunctionView) (e : ExternalTree) → ExternalInBlocks e → AreScoped made → SeesAt [] s → Goes (checks.external s made e)
external_goes s made (Declared at words ds) blocks all sees = of_declaration (external_declaration s at words ds) (external_leads s at words ds)
  where
    of_declaration : (r : Ruled (Unit {0} × State)) → Leads Sighted s r → Goes (after r (checks.functions_kept made))
    of_declaration (Ok p) g = (all, g sees)
    of_declaration (Err f) g = tt
external_goes s made (Defined at words f body) blocks all sees = of_function (function_definition s at words f body) (function_defines s at words f body blocks)
  where
    of_function : (r : Ruled (FunctionView × State)) → Defines s r → Goes (after r (checks.with_function made))
    of_function (Ok p) g = (all_with made p.0 all (g sees).0, (g sees).1)
    of_function (Err e) g = tt

further : (es : List ExternalTree) (r : Ruled (List FunctionView × State)) → ((t : State) (more : List FunctionView) → AreScoped more → SeesAt [] t → Goes (checks.externals t more es)) → Goes r → Goes (after r (λ more t. checks.externals t more es))
further es (Ok p) all h = all p.1 p.0 h.0 h.1
further es (Err f) all h = tt

externals_go : (es : List ExternalTree) (s : State) (made : List FunctionView) → UnitInBlocks es → AreScoped made → SeesAt [] s → Goes (checks.externals s made es)
externals_go [] s made blocks all sees = (all, sees)
externals_go (e ∷ es) s made blocks all sees = further es (checks.external s made e) (λ t more h later. externals_go es t more blocks.1 h later) (external_goes s made e blocks.0 all sees)

abbrev Scopes : Ruled (List FunctionView × State) → Type 0
Scopes (Ok p) = AreScoped p.0
Scopes (Err f) = Unit {0}

unit_scoped : (m : Model) (es : List ExternalTree) → UnitInBlocks es → Scopes (checks.typed_unit (first_state m) es)
unit_scoped m es blocks = of_externals (checks.externals begun [] es) (externals_go es begun [] blocks refl (externals_see es (with_stream (first_state m)) (begins m)))
  where
    begun : State
    begun = with_externals es (with_stream (first_state m))

    of_objects : (made : List FunctionView) → AreScoped made → (r : Ruled (Unit {0} × State)) → Scopes (after r (checks.functions_kept made))
    of_objects made h (Ok p) = h
    of_objects made h (Err f) = tt

    of_externals : (r : Ruled (List FunctionView × State)) → Goes r → Scopes (after r checks.finished)
    of_externals (Ok p) h = of_objects p.0 h.0 (finished_objects p.1)
    of_externals (Err f) h = tt

-- ---- the entry

abbrev IsFound : ℕ → List FunctionView → ℕ → Type 0
IsFound at fs entry = (k : ℕ) × (entry ≡ at + k) × (is_some (slice_get fs k) ≡ true)

narrowed_is : (at e : ℕ) (b : Bool) → cond b (Some at) None ≡ Some e → e ≡ at
narrowed_is at e true h = sym (same_Some at e h)
narrowed_is at e false h = absurd (cc)

taken : (b : Bool) (at e : ℕ) → cond b (narrowed (Some at)) None ≡ Some e → e ≡ at
taken true at e h = narrowed_is at e (nat_le at 4294967295) h
taken false at e h = absurd (cc)

named_found : (f : FunctionView) (fs : List FunctionView) (at e : ℕ) (b : Bool) (rest : Option ℕ) → (rest ≡ Some e → IsFound (at + 1) fs e) → cond b (entry_if f at) rest ≡ Some e → IsFound at (f ∷ fs) e
named_found f fs at e true rest later h = (0, (let i = taken (takes_integers f) at e h in omega (arith, i)), refl)
named_found f fs at e false rest later h = let r = later h in (suc r.0, (let i = r.1 in omega (arith, i)), r.2)

entry_found : (fs : List FunctionView) (at : ℕ) (name : List ℕ) (e : ℕ) → entry_from at fs name ≡ Some e → IsFound at fs e
unfolding entry_from
entry_found [] at name e h = absurd (cc)
entry_found (f ∷ fs) at name e h = named_found f fs at e (has_name f name) (entry_from (at + 1) fs name) (λ g. entry_found fs (at + 1) name e g) h

judged_is : (fs : List FunctionView) (calls : List Call) (e : ℕ) (found : Option ℕ) → judged_entry calls found ≡ Ok e → found ≡ Some e
judged_is fs calls e None h = absurd (cc)
judged_is fs calls e (Some n) h = by_calls (first_cycle calls) h
  where
    by_calls : (o : Option Place) → judged_calls n o ≡ Ok e → Some n ≡ Some e
    by_calls None g = ap Some (same_value n e g)
    by_calls (Some at) g = absurd (cc)

entry_there : (fs : List FunctionView) (name : List ℕ) (e : ℕ) → entry_number fs name ≡ Some e → is_some (slice_get fs e) ≡ true
entry_there fs name e h =
    let r = entry_found fs 0 name e h in
    let same : e ≡ r.0 = (let i = r.1 in omega (arith, i)) in
    ap (λ k. is_some (slice_get fs k)) same ∙ r.2

-- ---- units

pub checks_are_scoped : ChecksAreScoped
checks_are_scoped m name es u blocks is = of_unit (checks.typed_unit (first_state m) es) (unit_scoped m es blocks) is
  where
    of_entry : (fs : List FunctionView) (s : State) (r : Ruled ℕ) → AreScoped fs → ((entry : ℕ) → r ≡ Ok entry → entry_number fs name ≡ Some entry) → checks.entered m fs s r ≡ Ok u → is_scoped u ≡ true
    of_entry fs s (Ok entry) all found e = subst (λ v. is_scoped v ≡ true) (same_value (checks.unit_of m fs s entry) u e) (two (list_all is_scoped_function fs) (is_some (slice_get fs entry)) all (entry_there fs name entry (found entry refl)))
    of_entry fs s (Err f) all found e = absurd (cc)

    of_unit : (r : Ruled (List FunctionView × State)) → Scopes r → checks.judged_unit m name r ≡ Ok u → is_scoped u ≡ true
    of_unit (Ok p) all h = of_entry p.0 p.1 (judged p.0 name p.1.calls) all (λ entry j. judged_is p.0 p.1.calls entry (entry_number p.0 name) j) h
    of_unit (Err f) all h = absurd (cc)
