-- What a unit defines, by the numbers of names.
use Rattle.std.specs.Prelude.{ℕ, ◌+◌, List, [], ◌∷◌, Bool, cond, nat_eq, is_some, Option}
use Rattle.std.specs.Map.{lookup}
use Rattle.std.specs.List.{list_any}
use Rattle.indexmap.specs.IndexMap.{insert_entry}
use Rattle.indexmap.specs.IndexSet.{insert_key}
use Rattle.c_types_scopes.specs.declared.definitions.Definitions.{Definitions}

-- the functions with their numbers, the objects, and how many definitions of functions there are
pub record DefinitionsView : Type 0 where
  pub functions : List (ℕ × ℕ)
  pub objects : List ℕ
  pub count : ℕ

abbrev pub definitions_view : Definitions → DefinitionsView
definitions_view d = record { functions = d.functions.entries; objects = d.objects.keys; count = d.count }

abbrev pub no_definitions : DefinitionsView
no_definitions = record { functions = []; objects = []; count = 0 }

-- the number of the function of a name
abbrev pub function_of : DefinitionsView → ℕ → Option ℕ
function_of d name = lookup (nat_eq name) d.functions

abbrev pub has_object : DefinitionsView → ℕ → Bool
has_object d name = list_any (nat_eq name) d.objects

-- a second definition of a name takes a number and is not found
abbrev pub with_function : DefinitionsView → ℕ → DefinitionsView
with_function d name = record d { functions = cond (is_some (function_of d name)) d.functions (insert_entry nat_eq d.functions name d.count); count = d.count + 1 }

abbrev pub with_object : DefinitionsView → ℕ → DefinitionsView
with_object d name = record d { objects = insert_key nat_eq d.objects name }
