-- Parts of typed statements keep to what is known.
use Rattle.std.proofs.Common.{◌≡◌, ◌≤◌, ℕ, ◌==◌, Bool, true, ◌&&◌, nat_lt, List, [], ◌∷◌, length, Option, Some, None, refl, ap, sym, subst, ◌∙◌}
use Rattle.std.specs.List.{list_all}
use Rattle.cc_base.specs.declared.diagnostics.Place.{Place}
use Rattle.c_layout.specs.CheckedTrees.{TermTree, LvalueTree, StoreTree, StoreValue, StoreCopy, StoreText}
use Rattle.c_layout.specs.CheckedUnits.{FunctionView, UnitView}
use Rattle.c_layout.specs.Types.{Ty}
use Rattle.lower_expressions.specs.Branches.{jump}
use Rattle.lower_functions.specs.Functions.Functions.{local_type}
use Rattle.typed_programs.specs.PlainUnits.PlainTerms.{is_plain_option}
use Rattle.typed_programs.specs.PlainUnits.PlainStatements.{is_plain_store, are_plain_stores}
use Rattle.lower_functions.specs.Statements.ScopeJumps.{entered, left, all_entered, all_left, around, objects, way, leap}
use Rattle.lower_functions.specs.Statements.PlainStatements.{stored, all_stored, cleared, forget, address, start_scalar, start_struct, start_list}
use Rattle.lower_functions.specs.Statements.Jumps.{stopped, exit, given, giving, end_behind, outcome}
use Rattle.lower_templates.specs.Worklist.Acts as acts
use Rattle.lower_templates.specs.Worklist.Pieces.{NameView, Local, Outcome, Do}
use Rattle.lower_templates.specs.Worklist.Scopes.{ScopeView}
use Rattle.lower_templates.specs.Worklist.TermKinds.{scalar_of, struct_number, term_type, lvalue_type}
use Rattle.lower_templates.specs.Worklist.Works as jobs
use Rattle.lower_templates.specs.Worklist.Plans.{Plan, with_work, with_name}
use Rattle.lower_templates.specs.Worklist.Settings.{SettingView}
use Rattle.lower_templates.specs.declared.worklist.pending_works.Landing.{Landing}
use Rattle.lower_templates.specs.declared.worklist.pending_works.Surroundings.{Surroundings}
use Rattle.lower_templates.specs.declared.worklist.template_builder.Dispatch.{Dispatch}
use Rattle.lower_preconditions.specs.Units.RegularStatements.{is_regular_result, is_regular_store}
use Rattle.lower_preconditions.specs.Units.RegularTerms.{has_local, is_regular_place}
use Rattle.typed_programs.specs.Types.PointedTypes.{Target, Element, Pointing, target_type, is_same}
use Rattle.typed_programs.specs.Types.PointedTypes.{Place as PlaceOf}
use Rattle.typed_programs.specs.Types.StandingTypes.{AreLaidOut}
use Rattle.typed_programs.specs.Types.TypedStates.{Temporaries}
use Rattle.memory_model.specs.Effects.NumberedTables.{set_at}
use Rattle.simulation_layout.proofs.function_checks.CountedLabels.{both_true}
use Rattle.typed_lowering.specs.Conversions.KnownValues.{nothing, with_value, term_known, place_known}
use Rattle.typed_lowering.specs.Conversions.ProgramLaws.{TypesStandWhereTheyBegin}
use Rattle.typed_lowering.specs.Conversions.TypedActs as typed
use Rattle.typed_lowering.specs.Conversions.TypedActs.{IsTypedAct}
use Rattle.typed_lowering.specs.Conversions.TypedObjects.{begins}
use Rattle.typed_lowering.specs.Conversions.TypedPieces.{State, name_type_or, base_type}
use Rattle.typed_lowering.specs.Conversions.TypedStatements.{is_copied_as, is_typed_store, is_typed_result}
use Rattle.typed_lowering.specs.Conversions.TypedTerms.{is_stored_as, is_typed_term}
use Rattle.typed_lowering.specs.Conversions.WorkLaws.{Extends, IsLookedAt}
use Rattle.typed_lowering.proofs.conversions.KeptKnowledge.{kept_same, kept_nothing}
use Rattle.typed_lowering.proofs.templates.ShallowTerms.{shallow_term}
use Rattle.typed_lowering.proofs.templates.StoredValues.{IsStoredIn, stored_in, IsCopiedTo, copied_to, copied_place, type_of_own}
use Rattle.typed_lowering.proofs.templates.FollowingWorks.{Asks, Asked, Flowing, named_here, flowing_normalized, flowing_name, flowing_do, flowing_end, flowing_value, flowing_address, flowing_or}

-- ---- what acts do to the first two temporaries

-- an address of the target in the first temporary
abbrev pub addressed : Target → Temporaries
addressed target = set_at nothing 0 (Some (Pointing target))

module _ (u : UnitView) (f : FunctionView) (names : List NameView) where
  -- the type of the newest base
  pub base_here : (x : NameView) (p : Plan) (t : Ty) → Extends (with_name x p).names names → name_type_or u f (Some x) ≡ Some t → base_type u f names (length p.names) ≡ Some t
  base_here x p t extends is = ap (λ o. name_type_or u f o) (named_here x p names extends) ∙ is

  -- a value is stored where the first temporary points to
  pub stores : (target : Target) (t : Ty) (e : TermTree) → target_type target ≡ t → IsStoredIn t e → IsTypedAct u.structs u.model.pointer (base_type u f names) (with_value 1 (term_known e) (addressed target)) nothing (acts.Store 0 1 (scalar_of (term_type e)) None)
  stores target t e same x = typed.stores_in 0 1 (scalar_of (term_type e)) None t x.known (record { known = Pointing target; target = target; has = refl; less = is_same target; is = same }) x.kind x.storable (kept_nothing _)

  -- a structure is copied there
  pub copies : (target : Target) (t : Ty) (l : LvalueTree) → target_type target ≡ t → IsCopiedTo u t l → IsTypedAct u.structs u.model.pointer (base_type u f names) (with_value 1 (place_known l) (addressed target)) nothing (acts.Copy 0 1 (struct_number (lvalue_type l)))
  copies target t l same x = subst (λ n. IsTypedAct u.structs u.model.pointer (base_type u f names) (with_value 1 (place_known l) (addressed target)) nothing (acts.Copy 0 1 n)) (sym (ap struct_number x.source))
      (typed.copies 0 1 x.index (record { known = Pointing target; target = target; has = refl; less = is_same target; is = same ∙ x.target }) (record { known = Pointing (Element (lvalue_type l)); target = Element (lvalue_type l); has = refl; less = is_same (Element (lvalue_type l)); is = x.source }) x.some (kept_nothing _))

module _ {u : UnitView} {f : FunctionView} {calls : ℕ → Bool} {s : SettingView} {ds : List Dispatch} {used : Bool} {K : Asks} {first top : ℕ} where
  -- ---- objects that are entered and left, whatever is known

  pub flowing_entered : {low : ℕ} {from : State} {known : Temporaries} (at : Place) (xs : List ℕ) (p : Plan) → Flowing u f calls s ds used K first top low from (Some known) p → Flowing u f calls s ds used K first top low from (Some known) (all_entered at xs p)
  flowing_entered at [] p k = k
  flowing_entered {known = known} at (x ∷ xs) p k = flowing_entered at xs (entered at x p) (flowing_do known _ _ (λ names extends. typed.enters _ (kept_same known)) (flowing_name (Local x) p k))

  pub flowing_left : {low : ℕ} {from : State} {known : Temporaries} (at : Place) (xs : List ℕ) (p : Plan) → Flowing u f calls s ds used K first top low from (Some known) p → Flowing u f calls s ds used K first top low from (Some known) (all_left at xs p)
  flowing_left at [] p k = k
  flowing_left {known = known} at (x ∷ xs) p k = flowing_left at xs (left at x p) (flowing_do known _ _ (λ names extends. typed.leaves_object _ (kept_same known)) (flowing_name (Local x) p k))

  pub flowing_way : {low : ℕ} {from : State} {known : Temporaries} (steps : List ScopeView) (scope to : ℕ) (p : Plan) → Flowing u f calls s ds used K first top low from (Some known) p → Flowing u f calls s ds used K first top low from (Some known) (way s steps scope to p)
  flowing_way [] scope to p k = k
  flowing_way (x ∷ steps) scope to p k =
      let inwards = flowing_entered s.at (objects s to) (way s steps scope (around s to) p) (flowing_way steps scope (around s to) p k) in
      let outwards = flowing_way steps (around s scope) to (all_left s.at (objects s scope) p) (flowing_left s.at (objects s scope) p k) in
      flowing_or (scope == to) p _ k (flowing_or (nat_lt to scope) _ _ outwards inwards)

  -- ---- jumps

  pub flowing_jump : {low : ℕ} {from : State} (at : Place) (to : ℕ) (p : Plan) → ((last : ℕ) → low ≤ last → Asked K first last to nothing) → Flowing u f calls s ds used K first top low from (Some nothing) p
      → Flowing u f calls s ds used K first top low from (Some nothing) (jump at to p)
  flowing_jump at to p asked k = flowing_normalized (jump at to p) (flowing_end _ _ p (λ names. typed.jumps (kept_same nothing)) (λ last few. (asked last few, tt)) k)

  pub flowing_leap : {low : ℕ} {from : State} (scope : ℕ) (to : Landing) (p : Plan) → ((last : ℕ) → low ≤ last → Asked K first last to.label nothing) → Flowing u f calls s ds used K first top low from (Some nothing) p
      → Flowing u f calls s ds used K first top low from (Some nothing) (leap s scope to p)
  flowing_leap scope to p asked k = flowing_jump s.at to.label _ asked (flowing_way s.scopes.scopes scope to.scope p k)

  -- the run stops, and nothing comes behind
  pub flowing_stopped : {low : ℕ} {from : State} (at : Place) (p : Plan) → Flowing u f calls s ds used K first top low from (Some nothing) p → Flowing u f calls s ds used K first top low from None (stopped at p)
  flowing_stopped at p k = flowing_end _ _ p (λ names. typed.ends_run) (λ last few. tt) k

  -- ---- declarations

  pub flowing_forget : {low : ℕ} {from : State} (at : Place) (object : ℕ) (p : Plan) → Flowing u f calls s ds used K first top low from (Some nothing) p → Flowing u f calls s ds used K first top low from (Some nothing) (forget at object p)
  flowing_forget at object p k = flowing_do nothing _ _ (λ names extends. typed.forgets _ (kept_same nothing)) (flowing_name (Local object) p k)

  flowing_cleared : {low : ℕ} {from : State} (at : Place) (object : ℕ) (p : Plan) → Flowing u f calls s ds used K first top low from (Some nothing) p → Flowing u f calls s ds used K first top low from (Some nothing) (cleared at object p)
  flowing_cleared at object p k = flowing_do nothing _ _ (λ names extends. typed.clears _ (kept_same nothing)) (flowing_name (Local object) p k)

  -- the address of the object itself
  flowing_whole : {low : ℕ} {from : State} (at : Place) (object : ℕ) (p : Plan) → has_local f object ≡ true → Flowing u f calls s ds used K first top low from (Some nothing) p
      → Flowing u f calls s ds used K first top low from (Some (addressed (Element (local_type f object)))) (address at object 0 p)
  flowing_whole at object p there k = flowing_do (addressed (Element (local_type f object))) _ _
      (λ names extends. typed.gives_address 0 (length p.names) (local_type f object) (base_here u f names (Local object) p (local_type f object) extends (type_of_own u f object there)) (kept_same (addressed (Element (local_type f object))))) (flowing_name (Local object) p k)

  -- and that of a part
  flowing_part : {low : ℕ} {from : State} (stand : TypesStandWhereTheyBegin) (laid : AreLaidOut u.model u.structs) (at : Place) (object offset : ℕ) (t : Ty) (p : Plan) → has_local f object ≡ true → begins u (local_type f object) t offset ≡ true
      → Flowing u f calls s ds used K first top low from (Some nothing) p → Flowing u f calls s ds used K first top low from (Some (addressed (PlaceOf t))) (address at object offset p)
  flowing_part stand laid at object offset t p there begin k = flowing_do (addressed (PlaceOf t)) _ _
      (λ names extends. typed.gives_part 0 (length p.names) offset (local_type f object) t (base_here u f names (Local object) p (local_type f object) extends (type_of_own u f object there)) (stand u laid (local_type f object) t offset begin) (kept_same (addressed (PlaceOf t))))
      (flowing_name (Local object) p k)

  -- the value, and the store
  flowing_stores : {low : ℕ} {from : State} (at : Place) (target : Target) (t : Ty) (e : TermTree) (p : Plan) → target_type target ≡ t → IsStoredIn t e → IsLookedAt u f calls (jobs.Value e 1) → Flowing u f calls s ds used K first top low from (Some (addressed target)) p
      → Flowing u f calls s ds used K first top low from (Some nothing) (with_work (jobs.Ready (Do (record { at = at; does = acts.Store 0 1 (scalar_of (term_type e)) None }))) (with_work (jobs.Value e 1) p))
  flowing_stores at target t e p same is looked k = flowing_do nothing _ _ (λ names extends. stores u f names target t e same is) (flowing_value e 1 p looked k)

  flowing_copies : {low : ℕ} {from : State} (at : Place) (target : Target) (t : Ty) (l : LvalueTree) (p : Plan) → target_type target ≡ t → IsCopiedTo u t l → IsLookedAt u f calls (jobs.Address l 1) → Flowing u f calls s ds used K first top low from (Some (addressed target)) p
      → Flowing u f calls s ds used K first top low from (Some nothing) (with_work (jobs.Ready (Do (record { at = at; does = acts.Copy 0 1 (struct_number (lvalue_type l)) }))) (with_work (jobs.Address l 1) p))
  flowing_copies at target t l p same is looked k = flowing_do nothing _ _ (λ names extends. copies u f names target t l same is) (flowing_address l 1 p looked k)

  pub flowing_start : {low : ℕ} {from : State} (at : Place) (object : ℕ) (e : TermTree) (p : Plan) → has_local f object ≡ true → is_stored_as (local_type f object) e ≡ true → IsLookedAt u f calls (jobs.Value e 1)
      → Flowing u f calls s ds used K first top low from (Some nothing) p → Flowing u f calls s ds used K first top low from (Some nothing) (start_scalar at object 0 e p)
  flowing_start at object e p there is looked k = flowing_stores at (Element (local_type f object)) (local_type f object) e _ refl (stored_in (local_type f object) e is) looked (flowing_whole at object p there k)

  pub flowing_copied : {low : ℕ} {from : State} (at : Place) (object : ℕ) (l : LvalueTree) (p : Plan) → has_local f object ≡ true → is_copied_as u f (local_type f object) l ≡ true → IsLookedAt u f calls (jobs.Address l 1)
      → Flowing u f calls s ds used K first top low from (Some nothing) p → Flowing u f calls s ds used K first top low from (Some nothing) (start_struct at object 0 l p)
  flowing_copied at object l p there is looked k = flowing_copies at (Element (local_type f object)) (local_type f object) l _ refl (copied_to u f (local_type f object) l is) looked (flowing_whole at object p there k)

  module _ (stand : TypesStandWhereTheyBegin) (laid : AreLaidOut u.model u.structs) where
    flowing_stored : {low : ℕ} {from : State} (at : Place) (object : ℕ) (x : StoreTree) (p : Plan) → has_local f object ≡ true → is_typed_store u f (local_type f object) x ≡ true → is_plain_store calls x ≡ true → is_regular_store u f x ≡ true
        → Flowing u f calls s ds used K first top low from (Some nothing) p → Flowing u f calls s ds used K first top low from (Some nothing) (stored at object x p)
    flowing_stored at object (StoreValue offset e) p there is plain regular k =
        let x = both_true (is_typed_term u f e) (is_stored_as (term_type e) e && begins u (local_type f object) (term_type e) offset) is in
        let y = both_true (is_stored_as (term_type e) e) (begins u (local_type f object) (term_type e) offset) x.1 in
        flowing_stores at (PlaceOf (term_type e)) (term_type e) e _ refl (stored_in (term_type e) e y.0) (x.0, plain, regular) (flowing_part stand laid at object offset (term_type e) p there y.1 k)
    flowing_stored at object (StoreCopy offset l) p there is plain regular k =
        let x = both_true (is_copied_as u f (lvalue_type l) l) (begins u (local_type f object) (lvalue_type l) offset) is in
        let y = both_true _ (is_regular_place u f 1 l) regular in
        flowing_copies at (PlaceOf (lvalue_type l)) (lvalue_type l) l _ refl (copied_to u f (lvalue_type l) l x.0) (copied_place u f (lvalue_type l) l x.0, plain, y.1) (flowing_part stand laid at object offset (lvalue_type l) p there x.1 k)
    flowing_stored at object (StoreText offset room text) p there is plain regular k = flowing_do nothing _ _ (λ names extends. typed.spells _ offset room text (kept_same nothing)) (flowing_name (Local object) p k)

    flowing_all_stored : {low : ℕ} {from : State} (at : Place) (object : ℕ) (xs : List StoreTree) (p : Plan) → has_local f object ≡ true → list_all (is_typed_store u f (local_type f object)) xs ≡ true → are_plain_stores calls xs ≡ true → list_all (is_regular_store u f) xs ≡ true
        → Flowing u f calls s ds used K first top low from (Some nothing) p → Flowing u f calls s ds used K first top low from (Some nothing) (all_stored at object xs p)
    flowing_all_stored at object [] p there is plain regular k = k
    flowing_all_stored at object (x ∷ xs) p there is plain regular k =
        let a = both_true (is_typed_store u f (local_type f object) x) (list_all (is_typed_store u f (local_type f object)) xs) is in
        let b = both_true (is_plain_store calls x) (are_plain_stores calls xs) plain in
        let c = both_true (is_regular_store u f x) (list_all (is_regular_store u f) xs) regular in
        flowing_all_stored at object xs (stored at object x p) there a.1 b.1 c.1 (flowing_stored at object x p there a.0 b.0 c.0 k)

    pub flowing_list : {low : ℕ} {from : State} (at : Place) (object : ℕ) (xs : List StoreTree) (p : Plan) → has_local f object ≡ true → list_all (is_typed_store u f (local_type f object)) xs ≡ true → are_plain_stores calls xs ≡ true → list_all (is_regular_store u f) xs ≡ true
        → Flowing u f calls s ds used K first top low from (Some nothing) p → Flowing u f calls s ds used K first top low from (Some nothing) (start_list at object xs p)
    flowing_list at object xs p there is plain regular k = flowing_all_stored at object xs (cleared at object p) there is plain regular (flowing_cleared at object p k)

  -- ---- returns

  -- the value of the result is computed in the entry, and stored elsewhere
  flowing_given : {low : ℕ} {from : State} (at : Place) (e : Option TermTree) (p : Plan) → is_typed_result u f e ≡ true → is_plain_option calls e ≡ true → is_regular_result u f e ≡ true → Flowing u f calls s ds used K first top low from (Some nothing) p
      → Flowing u f calls s ds used K first top low from (Some nothing) (given s at e p)
  flowing_given at None p is plain regular k = k
  flowing_given at (Some e) p is plain regular k =
      let x = both_true (is_typed_term u f e) (is_stored_as f.returns e) is in
      let alone = flowing_normalized (with_work (jobs.Value e 0) p) (flowing_value e 0 p (x.0, plain, shallow_term u f true 0 e regular) k) in
      let pointed = flowing_do (addressed (Element f.returns)) _ _ (λ names extends. typed.gives_address 0 (length p.names) f.returns (base_here u f names Outcome p f.returns extends refl) (kept_same (addressed (Element f.returns)))) (flowing_name Outcome p k) in
      flowing_or s.is_entry (with_work (jobs.Value e 0) p) (outcome at e p) alone (flowing_stores at (Element f.returns) f.returns e _ refl (stored_in f.returns e x.1) (x.0, plain, regular) pointed)

  flowing_end_behind : {low : ℕ} {from : State} (at : Place) (p : Plan) → ((last : ℕ) → low ≤ last → Asked K first last s.end nothing) → Flowing u f calls s ds used K first top low from (Some nothing) p
      → Flowing u f calls s ds used K first top low from (Some nothing) (end_behind s at p)
  flowing_end_behind at p asked k = flowing_or s.is_entry (stopped at p) (exit s p) (flowing_normalized (stopped at p) (flowing_stopped at p k)) (flowing_jump s.at s.end (all_left s.at s.parameters p) asked (flowing_left s.at s.parameters p k))

  pub flowing_giving : {low : ℕ} {from : State} (at : Place) (e : Option TermTree) (around : Surroundings) (p : Plan) → is_typed_result u f e ≡ true → is_plain_option calls e ≡ true → is_regular_result u f e ≡ true → ((last : ℕ) → low ≤ last → Asked K first last s.end nothing)
      → Flowing u f calls s ds used K first top low from (Some nothing) p → Flowing u f calls s ds used K first top low from (Some nothing) (giving s at e around p)
  flowing_giving at e around p is plain regular asked k = flowing_end_behind at _ asked (flowing_way s.scopes.scopes around.scope 0 (given s at e p) (flowing_given at e p is plain regular k))
