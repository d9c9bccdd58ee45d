-- The law of initializers: what they store is marked.
use Rattle.std.specs.Prelude.{◌≡◌, true, List, [], ◌∷◌}
use Rattle.cc_base.specs.declared.diagnostics.Place.{Place}
use Rattle.c_layout.specs.Types.{Ty}
use Rattle.c_layout.specs.CheckedTrees.{StoreTree, StoreValue, StoreCopy, StoreText}
use Rattle.c_layout.specs.CheckedUnits.{UnitView}
use Rattle.c_layout.specs.DeclarationTrees.{InitializerTree}
use Rattle.c_layout.specs.declared.data_model.Model.{Model}
use Rattle.c_types_scopes.specs.States.{State}
use Rattle.c_types_initializers.specs.Initialized.{InitializedView, ByTerm, ByLvalue, ByStores}
use Rattle.c_types_expressions.specs.BracedLists.Initializers.{initializer_of}
use Rattle.lower_templates.specs.Worklist.TermKinds.{term_type}
use Rattle.source_preservation.specs.Checks.LookedTypes.{is_scalar_type}
use Rattle.source_preservation.specs.Checks.LookedTerms.{is_well_typed_term, is_well_typed_place}
use Rattle.c_layout.specs.ByteTexts.{are_bytes}
use Rattle.c_types_well_formed.specs.WellFormed.ModelTypes.{IsTypeOf}
use Rattle.c_types_well_formed.specs.WellFormed.ProperStatements.{IsProperInitializer}
use Rattle.c_types_well_formed.specs.Initializers.ReadyStates.{IsReady, Goes}
use Rattle.c_types_well_formed.specs.Initializers.PartLaws.{HasLaws}

-- stores of values that are marked, or of bytes
abbrev pub IsValued : UnitView → StoreTree → Type 0
IsValued u (StoreValue offset e) = (is_well_typed_term u true e ≡ true) × (is_scalar_type u (term_type e) ≡ true)
IsValued u (StoreCopy offset l) = is_well_typed_place u l ≡ true
IsValued u (StoreText offset room text) = are_bytes text ≡ true

abbrev pub AreValued : UnitView → List StoreTree → Type 0
AreValued u [] = Unit {0}
AreValued u (x ∷ xs) = IsValued u x × AreValued u xs

-- what an initializer does
abbrev pub IsInitial : UnitView → InitializedView → Type 0
IsInitial u (ByTerm e) = (is_well_typed_term u true e ≡ true) × (is_scalar_type u (term_type e) ≡ true)
IsInitial u (ByLvalue l) = is_well_typed_place u l ≡ true
IsInitial u (ByStores xs) = AreValued u xs

-- of each initializer of an object, whose type it may give a length
abbrev pub InitializersAreWellTyped : Type 0
InitializersAreWellTyped = HasLaws → (m : Model) (s : State) (equals : Place) (t : Ty) (i : InitializerTree) → IsReady m s → IsProperInitializer m i → IsTypeOf m t
    → Goes m s (λ (p : InitializedView × Ty). IsTypeOf m p.1) (λ u p. IsInitial u p.0) (initializer_of s equals t i)
