-- How the newest declaration of each name is kept.
use Rattle.std.specs.Prelude.{◌≡◌, ◌<◌, ℕ, List, [], ◌∷◌, ◌++◌, map, length, take, get_or, slice_get, Option, None, slice_index_or}
use Rattle.c_types_scopes.specs.declared.scope_table.NameDeclaration.{NameDeclaration}
use Rattle.c_types_scopes.specs.declared.scope_table.ScopeEntry.{ScopeEntry}
use Rattle.c_types_scopes.specs.ScopeTables.{newest}

abbrev pub declaration : ScopeEntry → NameDeclaration
declaration e = e.declared

abbrev pub declarations : List ScopeEntry → List NameDeclaration
declarations entries = map declaration entries

-- what an entry keeps is the newest declaration of its name before it
abbrev pub HidesRight : List ScopeEntry → List ScopeEntry → Type 0
HidesRight before [] = Unit {0}
HidesRight before (e ∷ more) = (e.hidden ≡ newest (declarations before) e.declared.name) × HidesRight (before ++ e ∷ []) more

-- for each name the position of its newest declaration is kept, and with each declaration that of the one that it hides
pub record IsIndexed (entries : List ScopeEntry) (heads : List (Option ℕ)) : Type 0 where
  pub heads_are : (name : ℕ) → get_or heads name None ≡ newest (declarations entries) name
  pub hides : HidesRight [] entries
