-- Steps of what typing knows: a struct more, a tag or an identifier more.
use Rattle.std.specs.Prelude.{ℕ, Option}
use Rattle.c_layout.specs.StructViews.{StructView}
use Rattle.c_types_scopes.specs.Names as names
use Rattle.c_types_scopes.specs.StructTables as types
use Rattle.c_types_scopes.specs.StructTables.{TypesView}
use Rattle.c_types_scopes.specs.States.{State}
use Rattle.c_types_scopes.specs.declared.meanings.Meaning.{Meaning}
use Rattle.c_types_scopes.specs.declared.meanings.Tag.{Tag}

-- other structs
abbrev pub with_types : State → TypesView → State
with_types s t = record s { known = record s.known { structs = t.structs }; types = t }

-- a struct more, of which nothing is known
abbrev pub with_struct : State → State
with_struct s = with_types s (types.with_struct s.types)

-- a body of a struct that was met
abbrev pub with_body : State → ℕ → State
with_body s owner = with_types s (types.with_body s.types owner)

-- a member of a struct by its name, the field with this number
abbrev pub with_member : State → ℕ → ℕ → ℕ → Option ℕ → State
with_member s owner name field enumeration = with_types s (types.with_member s.types owner name field enumeration)

-- a struct that is complete
abbrev pub with_complete : State → ℕ → StructView → State
with_complete s number made = with_types s (types.with_complete s.types number made)

-- a tag declared in the innermost scope
abbrev pub with_tag : State → ℕ → Tag → State
with_tag s name tag = record s { scopes = names.declared_tag s.scopes name tag }

-- an identifier declared in the innermost scope
abbrev pub with_meaning : State → ℕ → Meaning → State
with_meaning s name meaning = record s { scopes = names.declared s.scopes name meaning }
