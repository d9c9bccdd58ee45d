-- Which local objects names may mean in the scopes that are open, and how that changes.
use Rattle.std.specs.Prelude.{◌≡◌, ◌<◌, ◌≤◌, ℕ, true, List, [], ◌++◌, length, slice_get, Some}
use Rattle.c_types_scopes.specs.declared.meanings.Meaning.{Meaning}
use Rattle.c_types_scopes.specs.declared.meanings.Meaning.TheVariants as meaning
use Rattle.c_types_scopes.specs.declared.scope_table.NameDeclaration.{NameDeclaration}
use Rattle.c_types_scopes.specs.ScopeTables.{TableView}
use Rattle.c_types_scopes.specs.States.{State}
use Rattle.semantics.specs.SourceMachine.Scopes.{is_in}
use Rattle.source_preservation.specs.UnitChecks.LookedScopes.{are_distinct}
use Rattle.source_items.specs.Returns.EndedObjects.{AreAmong}

-- a local object that a name means lives
abbrev pub IsSeen : List ℕ → Meaning → Type 0
IsSeen alive (meaning.Local k) = is_in k alive ≡ true
IsSeen alive (meaning.Static n) = Unit {0}
IsSeen alive (meaning.Function n) = Unit {0}
IsSeen alive (meaning.Typedef n) = Unit {0}
IsSeen alive (meaning.Enumerator v) = Unit {0}

-- so it is of all names in scope
pub record Sees (alive : List ℕ) (entries : List NameDeclaration) (meanings : List Meaning) : Type 0 where
  pub each : (i : ℕ) (d : NameDeclaration) → slice_get entries i ≡ Some d → (m : Meaning) × (slice_get meanings d.meaning ≡ Some m) × IsSeen alive m

abbrev pub SeesAt : List ℕ → State → Type 0
SeesAt alive s = Sees alive s.scopes.ordinary.entries s.scopes.meanings

-- ---- steps in a scope

-- numbers from one on and below another one, each once
pub record AreNew (new : List ℕ) (few many : ℕ) : Type 0 where
  pub distinct : are_distinct new ≡ true
  pub least : (k : ℕ) → is_in k new ≡ true → few ≤ k
  pub most : (k : ℕ) → is_in k new ≡ true → k < many

-- names are declared in the innermost scope, among them such of new local objects
pub record FollowsBy (had : TableView) (meant : List Meaning) (few : ℕ) (has : TableView) (means : List Meaning) (many : ℕ) (new : List ℕ) : Type 0 where
  pub marks : has.marks ≡ had.marks
  pub more : List NameDeclaration
  pub entries : has.entries ≡ had.entries ++ more
  pub others : List Meaning
  pub meanings : means ≡ meant ++ others
  pub count : few ≤ many
  pub sees : (alive : List ℕ) → AreAmong new alive → Sees alive had.entries meant → Sees alive has.entries means
  pub news : AreNew new few many

abbrev pub count : State → ℕ
count s = length s.body.locals

abbrev pub Follows : State → State → List ℕ → Type 0
Follows s t new = FollowsBy s.scopes.ordinary s.scopes.meanings (count s) t.scopes.ordinary t.scopes.meanings (count t) new

abbrev pub Stays : State → State → Type 0
Stays s t = Follows s t []
