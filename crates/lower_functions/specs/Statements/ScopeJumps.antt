-- What is left and entered on the way from one scope to another.
use Rattle.std.specs.Prelude.{ℕ, Bool, true, false, cond, ◌==◌, nat_lt, List, [], ◌∷◌, length}
use Rattle.cc_base.specs.declared.diagnostics.Place.{Place}
use Rattle.lower_templates.specs.Worklist.Acts.{Enter, Leave}
use Rattle.lower_templates.specs.Worklist.Pieces.{Local}
use Rattle.lower_templates.specs.Worklist.Scopes.{ScopeView, scope_at}
use Rattle.lower_templates.specs.Worklist.Plans.{Plan, with_name, done}
use Rattle.lower_templates.specs.Worklist.Settings.{SettingView}
use Rattle.lower_templates.specs.declared.worklist.pending_works.Landing.{Landing}
use Rattle.lower_expressions.specs.Branches.{jump}

abbrev pub entered : Place → ℕ → Plan → Plan
entered at object p = done at (Enter (length p.names)) (with_name (Local object) p)

abbrev pub left : Place → ℕ → Plan → Plan
left at object p = done at (Leave (length p.names)) (with_name (Local object) p)

-- objects are entered and left in order of declaration
abbrev pub all_entered : Place → List ℕ → Plan → Plan
all_entered at [] p = p
all_entered at (x ∷ xs) p = all_entered at xs (entered at x p)

abbrev pub all_left : Place → List ℕ → Plan → Plan
all_left at [] p = p
all_left at (x ∷ xs) p = all_left at xs (left at x p)

abbrev pub around : SettingView → ℕ → ℕ
around s n = (scope_at s.scopes.scopes n).around

abbrev pub objects : SettingView → ℕ → List ℕ
objects s n = (scope_at s.scopes.scopes n).objects

-- scopes are left from the innermost one outwards to the innermost one that holds both, and then
-- entered inwards. A scope has a greater number than those around it, so the greater one of two that
-- differ does not hold the other; there are no more steps than scopes
abbrev pub way : SettingView → List ScopeView → ℕ → ℕ → Plan → Plan
way s [] from to p = p
way s (_ ∷ steps) from to p = cond (from == to) p (cond (nat_lt to from) (way s steps (around s from) to (all_left s.at (objects s from) p)) (all_entered s.at (objects s to) (way s steps from (around s to) p)))

abbrev pub way_between : SettingView → ℕ → ℕ → Plan → Plan
way_between s from to p = way s s.scopes.scopes from to p

-- a jump from a scope to a label
abbrev pub leap : SettingView → ℕ → Landing → Plan → Plan
leap s from to p = jump s.at to.label (way_between s from to.scope p)

abbrev pub is_empty : List ℕ → Bool
is_empty [] = true
is_empty (x ∷ xs) = false

-- whether an object is entered on the way
abbrev pub enters : SettingView → List ScopeView → ℕ → ℕ → Bool
enters s [] from to = false
enters s (_ ∷ steps) from to = cond (from == to) false (cond (nat_lt to from) (enters s steps (around s from) to) (cond (is_empty (objects s to)) (enters s steps from (around s to)) true))

abbrev pub enters_between : SettingView → ℕ → ℕ → Bool
enters_between s from to = enters s s.scopes.scopes from to
