-- Where the stores of an initializer stand: each value over a scalar of its type, each text over an array of characters.
use Rattle.std.specs.Prelude.{◌≡◌, ◌<◌, ◌≤◌, ◌⊎◌, ◌^◌, ◌-◌, true, ℕ, List, [], ◌∷◌, Option, Some, None, Ok}
use Rattle.cc_base.specs.declared.diagnostics.Place.{Place}
use Rattle.c_layout.specs.Types.{Ty}
use Rattle.c_layout.specs.DeclarationTrees.{InitializerTree}
use Rattle.c_layout.specs.CheckedTrees.{StoreTree, StoreValue, StoreCopy, StoreText}
use Rattle.c_types_scopes.specs.Known.{Known}
use Rattle.c_types_scopes.specs.States.{State}
use Rattle.c_types_operands.specs.Operands.{term_type, is_scalar}
use Rattle.c_types_initializers.specs.Subobjects.{SubobjectView, subobject, following_of}
use Rattle.c_types_initializers.specs.Literals.{character_room, with_length}
use Rattle.c_types_initializers.specs.Initialized.{InitializedView, ByTerm, ByLvalue, ByStores}
use Rattle.c_types_expressions.specs.BracedLists.Initializers.{initializer_of}

-- ---- parts of a type

abbrev pub within : Known → Option SubobjectView → ℕ → Option SubobjectView
within k None n = None
within k (Some s) n = following_of k s.ctype s.offset n

-- the subobject to which numbers of elements and members lead, the innermost number first
abbrev pub part_of : Known → Ty → List ℕ → Option SubobjectView
part_of k t [] = Some (subobject t 0)
part_of k t (n ∷ outer) = within k (part_of k t outer) n

pub record IsPart (k : Known) (t : Ty) (s : SubobjectView) : Type 0 where
  pub path : List ℕ
  pub is : part_of k t path ≡ Some s

-- ---- stores

abbrev pub IsPlaced : (SubobjectView → Type 0) → StoreTree → Type 0
IsPlaced P (StoreValue offset e) = (s : SubobjectView) × P s × (s.offset ≡ offset) × (is_scalar s.ctype ≡ true) × (term_type e ≡ s.ctype)
IsPlaced P (StoreCopy offset l) = (s : SubobjectView) × P s × (s.offset ≡ offset)
IsPlaced P (StoreText offset room text) = (s : SubobjectView) × P s × (s.offset ≡ offset) × (character_room s.ctype ≡ Some room)

abbrev pub ArePlaced : (SubobjectView → Type 0) → List StoreTree → Type 0
ArePlaced P [] = Unit {0}
ArePlaced P (x ∷ xs) = IsPlaced P x × ArePlaced P xs

-- a part of the type with each length from one on; the greatest number that is counted stands for itself and for more
abbrev pub IsPartFrom : Known → Ty → ℕ → SubobjectView → Type 0
IsPartFrom k t count s = (n : ℕ) → count ≤ n → (count < n) ⊎ (count < 2 ^ 64 - 1) → IsPart k (with_length t n) s

-- the stores of a list that passes so many subobjects of an object, whose type has then that length if it had none
pub record IsCounted (k : Known) (t : Ty) (stores : List StoreTree) (made : Ty) : Type 0 where
  pub count : ℕ
  pub is : made ≡ with_length t count
  pub placed : ArePlaced (IsPartFrom k t count) stores

abbrev pub IsPlacedBy : Known → Ty → List StoreTree → Ty → Type 0
IsPlacedBy k t stores made = IsCounted k t stores made ⊎ ArePlaced (IsPart k made) stores

-- what an initializer does to an object of a type, which has the type's length or that of the initializer
abbrev pub IsInitialized : Known → Ty → InitializedView → Ty → Type 0
IsInitialized k t (ByTerm e) made = (made ≡ t) × (is_scalar t ≡ true) × (term_type e ≡ t)
IsInitialized k t (ByLvalue l) made = made ≡ t
IsInitialized k t (ByStores stores) made = IsPlacedBy k t stores made

-- the structs of a state are those that its rules know
abbrev pub IsSettled : State → Type 0
IsSettled s = s.known.structs ≡ s.types.structs

-- of each initializer
abbrev pub StoresArePlaced : Type 0
StoresArePlaced = (s after : State) (equals : Place) (t made : Ty) (i : InitializerTree) (v : InitializedView) → IsSettled s → initializer_of s equals t i ≡ Ok ((v, made), after) → IsInitialized after.known t v made
