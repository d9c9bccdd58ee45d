-- The law of static initializers: the texts that they store are of bytes, and addresses of literals have offsets
-- and bounds of at most 2^30.
use Rattle.std.specs.Prelude.{◌≡◌, true, List, [], ◌∷◌, Ok, Err}
use Rattle.cc_base.specs.declared.diagnostics.Place.{Place}
use Rattle.c_layout.specs.Models.{is_model}
use Rattle.c_layout.specs.Types.{Ty}
use Rattle.c_layout.specs.CheckedTrees.{StoreTree, StoreValue, StoreCopy, StoreText}
use Rattle.c_layout.specs.CheckedUnits.{StaticStoreView}
use Rattle.c_layout.specs.DeclarationTrees.{InitializerTree}
use Rattle.c_layout.specs.declared.data_model.Model.{Model}
use Rattle.c_types_scopes.specs.Known.{Known}
use Rattle.c_types_scopes.specs.Refusals.{Ruled}
use Rattle.c_types_scopes.specs.States.{State}
use Rattle.c_types_initializers.specs.Initialized.{InitializedView, ByTerm, ByLvalue, ByStores}
use Rattle.c_types_initializers.specs.StaticStores.{constant_stores}
use Rattle.c_types_expressions.specs.BracedLists.Initializers.{initializer_of}
use Rattle.c_layout.specs.ByteTexts.{are_bytes}
use Rattle.c_types_well_formed.specs.WellFormed.ProperStatements.{IsProperInitializer}
use Rattle.c_types_well_formed.specs.WellFormed.ProperStores.{AreProperStores}

abbrev pub IsByteStore : StoreTree → Type 0
IsByteStore (StoreValue offset e) = Unit {0}
IsByteStore (StoreCopy offset l) = Unit {0}
IsByteStore (StoreText offset room text) = are_bytes text ≡ true

abbrev pub AreByteStores : List StoreTree → Type 0
AreByteStores [] = Unit {0}
AreByteStores (x ∷ xs) = IsByteStore x × AreByteStores xs

-- what an initializer does
abbrev pub IsByteInitial : InitializedView → Type 0
IsByteInitial (ByTerm e) = Unit {0}
IsByteInitial (ByLvalue l) = Unit {0}
IsByteInitial (ByStores xs) = AreByteStores xs

-- the stores of a static initializer, where they are constant
abbrev pub StoresIf : Ruled (List StaticStoreView) → Type 0
StoresIf (Ok ss) = AreProperStores ss
StoresIf (Err f) = Unit {0}

-- of each initializer
abbrev pub StaticStoresAreProper : Type 0
StaticStoresAreProper = (m : Model) (k : Known) (s u : State) (equals at : Place) (t made : Ty) (i : InitializerTree) (v : InitializedView) → is_model k.numbers ≡ true → IsProperInitializer m i → initializer_of s equals t i ≡ Ok ((v, made), u) → StoresIf (constant_stores k at v)
