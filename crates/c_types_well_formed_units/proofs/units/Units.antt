-- Each checked unit is marked.
use Rattle.std.proofs.Common.{◌≡◌, ◌<◌, ◌≤◌, ◌+◌, ℕ, zero, suc, Bool, true, false, ◌&&◌, ◌||◌, List, [], ◌∷◌, Option, Some, None, Ok, Err, length, slice_get, take, refl, arith, ap, subst, sym, ◌∙◌}
use Rattle.std.specs.Prelude.{is_some}
use Rattle.std.specs.List.{list_all}
use Rattle.std.proofs.lemmas.Option.{same_Some}
use Rattle.cc_base.specs.declared.diagnostics.Place.{Place}
use Rattle.cc_base.specs.declared.int_types.IntType.{IntType}
use Rattle.c_layout.specs.Models.{is_model}
use Rattle.c_layout.specs.Types.{Ty, Int, Pointer, Array, Struct, Void}
use Rattle.c_layout.specs.CheckedTrees.{statement_trees}
use Rattle.c_layout.specs.CheckedUnits.{FunctionView, LocalView, UnitView}
use Rattle.c_layout.specs.DeclarationTrees.{ExternalTree}
use Rattle.c_layout.specs.declared.data_model.Model.{Model}
use Rattle.c_types_rules.specs.declared.call_cycles.call_graph.Call.{Call}
use Rattle.c_types_scopes.specs.Answers.{after}
use Rattle.c_types_scopes.specs.Refusals.{Ruled}
use Rattle.c_types_scopes.specs.States.{State, first_state}
use Rattle.c_types_statement_rules.specs.Objects.UnitObjects as ends
use Rattle.c_types.specs.Units.Streams.{with_stream}
use Rattle.c_types.specs.Units.UnitChecks as checks
use Rattle.c_types.specs.Units.UnitChecks.{check}
use Rattle.c_types.specs.Units.UnitDefinitions.{with_externals}
use Rattle.c_types.specs.Units.UnitEntries.{entry_number, judged}
use Rattle.c_types_theorems.specs.Entries.IntegerEntries.{EntriesTakeIntegers, TakesIntegers}
use Rattle.c_types_theorems.proofs.entries.Entries.{IsEntry, found_entry, judged_is, same_value}
use Rattle.lower_functions.specs.Functions.Functions.{local_type, type_or}
use Rattle.lower_templates.specs.Worklist.TermKinds.{is_void}
use Rattle.lower_preconditions.specs.Units.RegularUnits.{is_regular_unit}
use Rattle.memory_model.specs.Effects.UnitStarts.{entry_parameters, parameters_of}
use Rattle.semantics.specs.SourceMachine.SourceStates.{function_at}
use Rattle.source_preservation.specs.Checks.LookedTypes.{is_kind, is_scalar_type, is_such}
use Rattle.source_preservation.proofs.checks.Truths.{both_true}
use Rattle.source_preservation.specs.UnitChecks.LookedStatements.{are_well_typed_statements}
use Rattle.source_preservation.specs.UnitChecks.LookedUnits.{is_small, is_small_local, are_scalars, is_well_typed_function, is_entered, are_well_typed_objects, has_entry, is_well_typed}
use Rattle.source_preservation.specs.UnitChecks.SmallUnits.{has_small_objects, is_small_unit}
use Rattle.c_types_well_formed.specs.WellFormed.ModelTypes.{IsKindOf, IsTypeOf, Each}
use Rattle.c_types_well_formed.specs.WellFormed.ProperStatements.{AreProperExternals}
use Rattle.c_types_well_formed.specs.WellFormed.UnitParts.{IsPartOf}
use Rattle.c_types_well_formed.proofs.decided_tests.ModelKinds.{kind_there}
use Rattle.c_types_well_formed_units.specs.Heads.HeadLaws.{UnitsHaveHeads}
use Rattle.c_types_well_formed.specs.Types.TypeLaws.{HeadsKeep}
use Rattle.c_types_well_formed.specs.Initializers.PartLaws.{HasLaws}
use Rattle.c_types_well_formed.specs.Initializers.ReadyStates.{Goes}
use Rattle.c_types_well_formed_units.specs.Units.WellTypedUnits.{ChecksAreWellTyped}
use Rattle.c_types_well_formed_units.proofs.units.Externals.{AreTypedFunctions, AreWellTypedBodies, externals_go, begun_ready}
use Rattle.c_types_well_formed_units.proofs.units.Functions.{IsTypedFunction, IsWellTypedBody}

both : (a b : Bool) → a ≡ true → b ≡ true → (a && b) ≡ true
both true b h g = g
both false b h g = h

either_of : (a b : Bool) → b ≡ true → (a || b) ≡ true
either_of true b h = refl
either_of false b h = h

-- ---- types

scalar_typed : (u : UnitView) (t : Ty) → is_model u.model ≡ true → IsTypeOf u.model t → is_scalar_type u t ≡ true
scalar_typed u (Int kind) proper typed = kind_there u.model proper kind typed
scalar_typed u (Pointer t) proper typed = refl
scalar_typed u (Array t n) proper typed = refl
scalar_typed u (Struct i) proper typed = refl
scalar_typed u Void proper typed = refl

local_typed : (m : Model) (f : FunctionView) (n : ℕ) (o : Option LocalView) → slice_get f.locals n ≡ o → IsTypedFunction m f → IsTypeOf m (type_or o f.returns)
local_typed m f n None at typed = typed.returns
local_typed m f n (Some l) at typed = typed.locals n l at

scalars_typed : (u : UnitView) (f : FunctionView) (n : ℕ) → is_model u.model ≡ true → IsTypedFunction u.model f → are_scalars u f n ≡ true
scalars_typed u f zero proper typed = refl
scalars_typed u f (suc n) proper typed =
    both (is_scalar_type u (local_type f n)) (are_scalars u f n) (scalar_typed u (local_type f n) proper (local_typed u.model f n (slice_get f.locals n) refl typed)) (scalars_typed u f n proper typed)

-- ---- functions

function_marked : (u : UnitView) (f : FunctionView) → is_model u.model ≡ true → IsTypedFunction u.model f → IsWellTypedBody u f → has_small_objects u f ≡ true → is_well_typed_function u f ≡ true
function_marked u f proper typed well_typed small =
    let s = both_true (is_small u f.returns) (list_all (is_small_local u) f.locals) small in
    both (are_well_typed_statements u f (statement_trees f.body)) _ well_typed
    (both (are_scalars u f f.parameters) _ (scalars_typed u f f.parameters proper typed)
    (both (is_void f.returns || is_scalar_type u f.returns) _ (either_of (is_void f.returns) (is_scalar_type u f.returns) (scalar_typed u f.returns proper typed.returns))
    (both (is_small u f.returns) _ s.0 s.1)))

functions_well_typed : (u : UnitView) (fs : List FunctionView) → is_model u.model ≡ true → AreTypedFunctions u.model fs → AreWellTypedBodies u fs → list_all (has_small_objects u) fs ≡ true → list_all (is_well_typed_function u) fs ≡ true
functions_well_typed u [] proper typed well_typed small = refl
functions_well_typed u (f ∷ fs) proper typed well_typed small =
    let s = both_true (has_small_objects u f) (list_all (has_small_objects u) fs) small in
    both (is_well_typed_function u f) (list_all (is_well_typed_function u) fs) (function_marked u f proper typed.0 well_typed.0 s.0) (functions_well_typed u fs proper typed.1 well_typed.1 s.1)

function_typed : (m : Model) (fs : List FunctionView) (n : ℕ) (f : FunctionView) → AreTypedFunctions m fs → slice_get fs n ≡ Some f → IsTypedFunction m f
function_typed m [] n f typed at = absurd (none at)
  where
    none : None ≡ Some f → ⊥
    none e = cc
function_typed m (x ∷ fs) zero f typed at = subst (IsTypedFunction m) (same_Some x f at) typed.0
function_typed m (x ∷ fs) (suc n) f typed at = function_typed m fs n f typed.1 at

-- ---- the entry

entered_by : (u : UnitView) (l : LocalView) (kind : IntType) → l.ctype ≡ Int kind → is_kind u.model kind ≡ true → is_entered u l ≡ true
entered_by u l kind is there = ap (λ t. is_such (λ k. is_kind u.model k) t) is ∙ there

taken_entered : (u : UnitView) (n : ℕ) (ls : List LocalView) → ((k : ℕ) (l : LocalView) → k < n → slice_get ls k ≡ Some l → is_entered u l ≡ true) → list_all (is_entered u) (take n ls) ≡ true
taken_entered u zero ls each = refl
taken_entered u (suc n) [] each = refl
taken_entered u (suc n) (l ∷ ls) each = both (is_entered u l) (list_all (is_entered u) (take n ls)) (each 0 l (omega arith) refl) (taken_entered u n ls (λ k x less at. each (suc k) x (omega (arith, less)) at))

entry_entered : (u : UnitView) (f : FunctionView) → is_model u.model ≡ true → IsTypedFunction u.model f → function_at u u.entry ≡ Some f → TakesIntegers u → list_all (is_entered u) (parameters_of (function_at u u.entry)) ≡ true
entry_entered u f proper typed at takes =
    ap (λ o. list_all (is_entered u) (parameters_of o)) at
    ∙ taken_entered u f.parameters f.locals (λ k l less there.
    let i = takes f at k less in
    let same : i.0 ≡ l = same_Some i.0 l (sym i.2 ∙ there) in
    let is : l.ctype ≡ Int i.1 = ap (λ x. x.ctype) (sym same) ∙ i.3 in
    let kind : IsTypeOf u.model (Int i.1) = subst (IsTypeOf u.model) is (typed.locals k l there) in
    entered_by u l i.1 is (kind_there u.model proper i.1 kind))

has_its_entry : (u : UnitView) (f : FunctionView) → is_model u.model ≡ true → IsTypedFunction u.model f → function_at u u.entry ≡ Some f → TakesIntegers u → has_entry u ≡ true
has_its_entry u f proper typed at takes = both (is_some (function_at u u.entry)) _ (ap is_some at) (entry_entered u f proper typed at takes)

-- ---- the end of a unit

-- a state with other objects of static storage
finished_part : (s : State) (u : UnitView) → IsPartOf (ends.with_bounded (ends.with_completed s)) u → IsPartOf s u
finished_part s u p = record { model = p.model; objects = p.objects; literals = p.literals; functions = p.functions }

-- what typing gives in the end
record IsMade (m : Model) (fs : List FunctionView) (s : State) : Type 0 where
  typed : AreTypedFunctions m fs
  well_typed : (u : UnitView) → IsPartOf s u → AreWellTypedBodies u fs

abbrev WhenMade : Model → Ruled (List FunctionView × State) → Type 0
WhenMade m (Ok p) = IsMade m p.0 p.1
WhenMade m (Err f) = Unit {0}

module _ (laws : HasLaws) (heads_keep : HeadsKeep) where
  unit_made : (m : Model) (es : List ExternalTree) → is_model m ≡ true → AreProperExternals m es → WhenMade m (checks.typed_unit (first_state m) es)
  unit_made m es proper trees = of_parts (checks.externals begun [] es) (externals_go laws heads_keep m es begun [] (begun_ready m es proper) tt trees)
    where
      begun : State
      begun = with_externals es (with_stream (first_state m))

      of_parts : (r : Ruled (List FunctionView × State)) → Goes m begun (AreTypedFunctions m) (λ u fs. AreWellTypedBodies u [] → AreWellTypedBodies u fs) r → WhenMade m (after r checks.finished)
      of_parts (Ok p) h = of_bounds (ends.first_past (ends.object_sizes (ends.with_completed p.1)) (ends.with_bounded (ends.with_completed p.1)).statics p.1.initializers)
        where
          of_bounds : (past : Option Place) → WhenMade m (after (ends.judged_bounds past (ends.with_bounded (ends.with_completed p.1))) (checks.functions_kept p.0))
          of_bounds (Some at) = tt
          of_bounds None = record { typed = h.1; well_typed = λ u part. (h.2 u (finished_part p.1 u part)).1 tt }
      of_parts (Err f) h = tt

  pub checks_well_typed : EntriesTakeIntegers → UnitsHaveHeads → ChecksAreWellTyped
  checks_well_typed takes heads m name es u proper trees is regular small = of_unit (checks.typed_unit (first_state m) es) refl (unit_made m es proper trees) is
    where
      of_entry : (fs : List FunctionView) (s : State) (entry : ℕ) → checks.typed_unit (first_state m) es ≡ Ok (fs, s) → IsMade m fs s → entry_number fs name ≡ Some entry → checks.unit_of m fs s entry ≡ u → is_well_typed u ≡ true
      of_entry fs s entry typed made found same =
          let v : UnitView = checks.unit_of m fs s entry in
          let e = found_entry fs 0 name entry found in
          let at : function_at v v.entry ≡ Some e.f = ap (slice_get fs) (let i = e.is in let j : entry ≡ e.k = omega (arith, i) in j) ∙ e.among in
          let room = both_true (list_all (has_small_objects v) fs) (are_well_typed_objects v) (subst (λ x. is_small_unit x ≡ true) (sym same) small) in
          subst (λ x. is_well_typed x ≡ true) same
          (both (is_regular_unit v) _ (subst (λ x. is_regular_unit x ≡ true) (sym same) regular)
          (both (list_all (is_well_typed_function v) fs) _ (functions_well_typed v fs proper made.typed (made.well_typed v (heads m es fs s entry typed)) room.0)
          (both (are_well_typed_objects v) (has_entry v) room.1
          (has_its_entry v e.f proper (function_typed m fs e.k e.f made.typed e.among) at (subst TakesIntegers (sym same) (takes m name es u is))))))

      of_judged : (fs : List FunctionView) (s : State) (r : Ruled ℕ) → judged fs name s.calls ≡ r → checks.typed_unit (first_state m) es ≡ Ok (fs, s) → IsMade m fs s → checks.entered m fs s r ≡ Ok u → is_well_typed u ≡ true
      of_judged fs s (Ok entry) j typed made e = of_entry fs s entry typed made (judged_is fs s.calls entry (entry_number fs name) j) (same_value (checks.unit_of m fs s entry) u e)
      of_judged fs s (Err f) j typed made e = absurd (cc)

      of_unit : (r : Ruled (List FunctionView × State)) → checks.typed_unit (first_state m) es ≡ r → WhenMade m r → checks.judged_unit m name r ≡ Ok u → is_well_typed u ≡ true
      of_unit (Ok p) typed made e = of_judged p.0 p.1 (judged p.0 name p.1.calls) refl typed made e
      of_unit (Err f) typed made e = absurd (cc)
