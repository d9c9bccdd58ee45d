-- The objects that live where a list of items is come to, scope by scope, the innermost one first.
use Rattle.std.specs.Prelude.{ℕ, Bool, false, cond, ◌||◌, ◌==◌, List, [], ◌∷◌, ◌++◌}
use Rattle.semantics.specs.SourceMachine.Items.{Item, Enters, Leaves, Hop, IterationEnd, LoopEnd}

abbrev pub with_scope : Item → List (List ℕ) → List (List ℕ)
with_scope (Leaves objects) scopes = objects ∷ scopes
with_scope item scopes = scopes

-- the scopes that are still left on the way to the end of the function
abbrev pub open_scopes : List Item → List (List ℕ)
open_scopes [] = []
open_scopes (item ∷ items) = with_scope item (open_scopes items)

abbrev pub is_in : ℕ → List ℕ → Bool
is_in x [] = false
is_in x (y ∷ ys) = (x == y) || is_in x ys

abbrev pub all_of : List (List ℕ) → List ℕ
all_of [] = []
all_of (scope ∷ scopes) = scope ++ all_of scopes

abbrev pub without : List ℕ → List ℕ → List ℕ
without known [] = []
without known (x ∷ xs) = cond (is_in x known) (without known xs) (x ∷ without known xs)

-- what lives at one place and not at another, innermost scope first
abbrev pub left_between : List Item → List Item → List ℕ
left_between from to = without (all_of (open_scopes to)) (all_of (open_scopes from))

-- scopes are entered inwards, the objects of each in order of declaration
abbrev pub inwards : List (List ℕ) → List ℕ
inwards [] = []
inwards (scope ∷ scopes) = inwards scopes ++ scope

abbrev pub entered_between : List Item → List Item → List ℕ
entered_between from to = without (all_of (open_scopes from)) (inwards (open_scopes to))

-- a jump leaves what is left and enters what is entered, and goes on there
abbrev pub jump : List Item → List Item → List Item
jump from to = Leaves (left_between from to) ∷ (Enters (entered_between from to) ∷ (Hop ∷ to))

abbrev pub entering_first : List ℕ → List Item → List Item
entering_first [] to = to
entering_first (x ∷ xs) to = Enters (x ∷ xs) ∷ (Hop ∷ to)

-- the way to a label of a switch is a step of its own where it enters something
abbrev pub leap_in : List Item → List Item → List Item
leap_in from to = entering_first (entered_between from to) to

-- what follows the end of the innermost loop or switch, and the end of the innermost loop's turn
abbrev pub past_loop : List Item → List Item
past_loop [] = []
past_loop (LoopEnd ∷ items) = items
past_loop (item ∷ items) = past_loop items

abbrev pub past_iteration : List Item → List Item
past_iteration [] = []
past_iteration (IterationEnd ∷ items) = items
past_iteration (item ∷ items) = past_iteration items
