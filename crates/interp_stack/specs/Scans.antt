-- The scopes of a stack, as it is gone over from its oldest entry on.
use Rattle.std.specs.Prelude.{◌≡◌, ℕ, List, map, reverse, Vec}
use Rattle.std.specs.Global.{Global}
use Rattle.semantics.specs.SourceMachine.Scopes.{open_scopes}
use Rattle.interp_stack.specs.StackViews.{StackView}

abbrev pub scopes_view : List (Vec ℕ Global) → List (List ℕ)
scopes_view scopes = map (λ scope. scope.items) scopes

-- the scopes, the outermost one first, and the objects below, the last one first
abbrev pub Scans : List (Vec ℕ Global) → List ℕ → StackView → Type 0
Scans scopes below s = (reverse (scopes_view scopes) ≡ open_scopes s.items) × (reverse below ≡ s.objects)
