-- Which objects live where a function has some items to do.
use Rattle.std.specs.Prelude.{◌≡◌, ℕ, Bool, true, false, not, ◌&&◌, ◌||◌, List, [], ◌∷◌, ◌++◌}
use Rattle.c_layout.specs.CheckedUnits.{FunctionView}
use Rattle.lower_functions.specs.Functions.Functions.{numbers_from}
use Rattle.semantics.specs.SourceMachine.Items as item
use Rattle.semantics.specs.SourceMachine.Items.{Item}
use Rattle.semantics.specs.SourceMachine.Scopes.{is_in, all_of, open_scopes}
use Rattle.semantics.specs.SourceMachine.SourceStates.{result_object}
use Rattle.source_items.specs.Returns.EndedObjects.{own_objects}

-- whether an object lives, by its number
abbrev pub Lives : Type 0
Lives = ℕ → Bool

abbrev pub with_those : List ℕ → Lives → Lives
with_those objects alive n = is_in n objects || alive n

abbrev pub without_those : List ℕ → Lives → Lives
without_those objects alive n = not (is_in n objects) && alive n

-- ---- before items

-- what lives in the whole body: the parameters, and in a function that was called the object of its result, if it has one
abbrev pub kept_objects : FunctionView → Bool → List ℕ
kept_objects f true = numbers_from 0 f.parameters
kept_objects f false = own_objects f

abbrev pub kept : FunctionView → Bool → Lives
kept f is_entry n = is_in n (kept_objects f is_entry)

-- the parameters of the entry are not left
abbrev pub left_over : FunctionView → Bool → Lives
left_over f true = kept f true
left_over f false = λ n. false

-- what lives before items, so that all that is entered from there on is new and all that is left is there
abbrev pub lives : FunctionView → Bool → List Item → Lives
lives f is_entry [] = left_over f is_entry
lives f is_entry (item.Leaves objects ∷ items) = with_those objects (lives f is_entry items)
lives f is_entry (item.Enters objects ∷ items) = without_those objects (lives f is_entry items)
lives f is_entry (item.LeaveOutcome at ∷ items) = with_those (result_object f ∷ []) (lives f is_entry items)
lives f is_entry (item.EndBody ∷ items) = kept f is_entry
lives f is_entry (i ∷ items) = lives f is_entry items

-- ---- objects that begin to live, and end

-- no object stands in a list twice
abbrev pub AreDistinct : List ℕ → Type 0
AreDistinct [] = Unit {0}
AreDistinct (n ∷ ns) = (is_in n ns ≡ false) × AreDistinct ns

-- distinct objects, of which none lives
abbrev pub AreNew : List ℕ → Lives → Type 0
AreNew objects alive = AreDistinct objects × ((n : ℕ) → is_in n objects ≡ true → alive n ≡ false)

-- distinct objects, of which each lives
abbrev pub AreAlive : List ℕ → Lives → Type 0
AreAlive objects alive = AreDistinct objects × ((n : ℕ) → is_in n objects ≡ true → alive n ≡ true)

-- ---- in a body

-- what lives is in open scopes or lives in the whole body, and no object is in two of these
pub record AreOpen (objects : List ℕ) (alive : Lives) (scopes : List (List ℕ)) : Type 0 where
  pub same : (n : ℕ) → alive n ≡ is_in n (all_of scopes ++ objects)
  pub distinct : AreDistinct (all_of scopes ++ objects)

-- so it is before items of a body where no object is still to be entered
abbrev pub IsInBody : FunctionView → Bool → List Item → Type 0
IsInBody f is_entry items = AreOpen (kept_objects f is_entry) (lives f is_entry items) (open_scopes items)
