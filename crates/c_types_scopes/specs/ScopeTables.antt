-- The names of one name space in nested scopes (6.2.1, 6.2.3).
use Rattle.std.specs.Prelude.{ℕ, ◌+◌, ◌-◌, ◌==◌, cond, nat_lt, List, [], ◌∷◌, ◌++◌, length, take, get_or, slice_get, Option, Some, None, option_map}
use Rattle.c_types_scopes.specs.declared.scope_table.NameDeclaration.{NameDeclaration}

-- the declarations in force, the oldest first, and for each open scope but the outermost the number of declarations
-- before it
pub record TableView : Type 0 where
  pub entries : List NameDeclaration
  pub marks : List ℕ

abbrev pub no_names : TableView
no_names = record { entries = []; marks = [] }

-- the position of the newest declaration of a name from a position on, where none before it is newer than this one
unfoldable pub newest_from : ℕ → ℕ → List NameDeclaration → Option ℕ → Option ℕ
newest_from at name [] found = found
newest_from at name (d ∷ more) found = newest_from (at + 1) name more (cond (d.name == name) (Some at) found)

-- the position of the newest declaration of a name
abbrev pub newest : List NameDeclaration → ℕ → Option ℕ
newest entries name = newest_from 0 name entries None

abbrev pub meaning : NameDeclaration → ℕ
meaning d = d.meaning

abbrev pub meaning_at : List NameDeclaration → Option ℕ → Option ℕ
meaning_at entries None = None
meaning_at entries (Some at) = option_map meaning (slice_get entries at)

-- what a name means: what its newest declaration says
abbrev pub found : TableView → ℕ → Option ℕ
found t name = meaning_at t.entries (newest t.entries name)

-- how many declarations stand in outer scopes
abbrev pub outer : List ℕ → ℕ
outer marks = get_or marks (length marks - 1) 0

abbrev pub inner_meaning : TableView → Option ℕ → Option ℕ
inner_meaning t None = None
inner_meaning t (Some at) = cond (nat_lt at (outer t.marks)) None (option_map meaning (slice_get t.entries at))

-- what a name means by a declaration in the innermost scope
abbrev pub found_here : TableView → ℕ → Option ℕ
found_here t name = inner_meaning t (newest t.entries name)

-- a scope more
abbrev pub opened : TableView → TableView
opened t = record t { marks = t.marks ++ length t.entries ∷ [] }

abbrev pub closed_to : TableView → Option ℕ → TableView
closed_to t None = t
closed_to t (Some mark) = record { entries = take mark t.entries; marks = take (length t.marks - 1) t.marks }

-- without the innermost scope and its declarations
abbrev pub closed : TableView → TableView
closed t = closed_to t (slice_get t.marks (length t.marks - 1))

-- a declaration more in the innermost scope
abbrev pub declared_in : TableView → ℕ → ℕ → TableView
declared_in t name number = record t { entries = t.entries ++ record { name = name; meaning = number } ∷ [] }
