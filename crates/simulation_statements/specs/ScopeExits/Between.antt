-- The way from any scope to any other one: what is left and what is entered on it, as the pieces have it and as the source
-- does.
use Rattle.std.specs.Prelude.{◌≡◌, ◌≤◌, ◌<◌, ℕ, not, List, [], ◌++◌, length}
use Rattle.lower_templates.specs.Worklist.Plans.{Plan}
use Rattle.lower_templates.specs.Worklist.Settings.{SettingView}
use Rattle.lower_functions.specs.Statements.ScopeJumps.{way_between, enters_between, all_left, all_entered, is_empty}
use Rattle.semantics.specs.SourceMachine.Scopes.{without}
use Rattle.simulation_terms.specs.Scopes.Contexts.{AreIn}
use Rattle.simulation_terms.specs.Scopes.Scopes.{IsScope}
use Rattle.simulation_terms.specs.Scopes.SuitedStatements.{AreNew}

-- from a scope to another one such objects are left, innermost scope first, and such are entered, outermost scope first
pub data Between (s : SettingView) : ℕ → ℕ → List ℕ → List ℕ → Type 0 where
  here : (k : ℕ) → Between s k k [] []
  out : (number around to : ℕ) (objects xs ys : List ℕ) → to < number → IsScope s number around objects → Between s around to xs ys → Between s number to (objects ++ xs) ys
  inside : (from number around : ℕ) (objects xs ys : List ℕ) → from < number → IsScope s number around objects → Between s from around xs ys → Between s from number xs (ys ++ objects)

-- the pieces on the way are these
abbrev pub WaysArePieces : Type 0
WaysArePieces = (s : SettingView) (from to : ℕ) (xs ys : List ℕ) → Between s from to xs ys → from ≤ length s.scopes.scopes → to ≤ length s.scopes.scopes → (p : Plan) → way_between s from to p ≡ all_entered s.at ys (all_left s.at xs p)

-- and something is entered on it where the objects that are entered are some
abbrev pub WaysEnter : Type 0
WaysEnter = (s : SettingView) (from to : ℕ) (xs ys : List ℕ) → Between s from to xs ys → from ≤ length s.scopes.scopes → to ≤ length s.scopes.scopes → enters_between s from to ≡ not (is_empty ys)

-- what the source leaves and enters: objects that are open in both places are neither left nor entered
abbrev pub JumpsAreWays : Type 0
JumpsAreWays = (xs ys both known there inwards : List ℕ) → known ≡ xs ++ both → AreNew xs there → AreIn both there → inwards ≡ both ++ ys → AreNew ys known → AreIn both known → (without there known ≡ xs) × (without known inwards ≡ ys)
