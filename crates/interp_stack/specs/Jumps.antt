-- Jumps from where some scopes are open.
use Rattle.std.specs.Prelude.{ℕ, List, ◌∷◌}
use Rattle.semantics.specs.SourceMachine.Items.{Item, Enters, Leaves, Hop}
use Rattle.semantics.specs.SourceMachine.Scopes.{open_scopes, all_of, without, inwards, entering_first}

abbrev pub left_from : List (List ℕ) → List Item → List ℕ
left_from from to = without (all_of (open_scopes to)) (all_of from)

abbrev pub entered_from : List (List ℕ) → List Item → List ℕ
entered_from from to = without (all_of from) (inwards (open_scopes to))

-- a jump leaves what is left and enters what is entered
abbrev pub jump_from : List (List ℕ) → List Item → List Item
jump_from from to = Leaves (left_from from to) ∷ (Enters (entered_from from to) ∷ (Hop ∷ to))

abbrev pub entering_from : List (List ℕ) → List Item → List Item
entering_from from to = entering_first (entered_from from to) to
