-- The scopes around a place, from the innermost one outwards.
use Rattle.std.specs.Prelude.{◌≡◌, ℕ, List, [], ◌∷◌}
use Rattle.lower_templates.specs.Worklist.Settings.{SettingView}
use Rattle.simulation_terms.specs.Scopes.Scopes.{IsScope}
use Rattle.simulation_terms.specs.Scopes.SuitedStatements.{AreNew}

-- from a scope outwards the scopes have such objects, the innermost one first
pub data Chain (s : SettingView) : ℕ → List (List ℕ) → Type 0 where
  outermost : Chain s 0 []
  inside : (number around : ℕ) (objects : List ℕ) (scopes : List (List ℕ)) → IsScope s number around objects → Chain s around scopes → Chain s number (objects ∷ scopes)

-- no object is in two scopes
abbrev pub AreApart : SettingView → Type 0
AreApart s = (one other around outer : ℕ) (xs ys : List ℕ) → IsScope s one around xs → IsScope s other outer ys → (one ≡ other → ⊥) → AreNew xs ys
