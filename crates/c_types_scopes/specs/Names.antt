-- Names by their numbers, and what they mean in the scopes that are open.
use Rattle.std.specs.Prelude.{ℕ, nat_eq, cond, nat_le, List, [], ◌∷◌, ◌++◌, map, length, slice_get, vec_items, position, Option, Some, None}
use Rattle.std.specs.List.{position_or_len}
use Rattle.std.specs.Cmp.Lexicographic.{pointwise}
use Rattle.indexmap.specs.IndexSet.{insert_key}
use Rattle.c_types_scopes.specs.declared.name_numbers.NameNumbers.{NameNumbers}
use Rattle.c_types_scopes.specs.declared.meanings.Meaning.{Meaning}
use Rattle.c_types_scopes.specs.declared.meanings.Tag.{Tag}
use Rattle.c_types_scopes.specs.declared.context.Scopes.{Scopes}
use Rattle.c_types_scopes.specs.ScopeTables as table
use Rattle.c_types_scopes.specs.ScopeTables.{TableView}

-- the names that were met, in order
abbrev pub texts_of : NameNumbers → List (List ℕ)
texts_of names = map vec_items names.texts.keys

-- the number of a name: its place in the list, or else the number behind it
abbrev pub number_in : List (List ℕ) → List ℕ → ℕ
number_in texts text = position_or_len (pointwise nat_eq text) texts

-- the list with a name, which goes to its end if it is new
abbrev pub with_text : List (List ℕ) → List ℕ → List (List ℕ)
with_text texts text = insert_key (pointwise nat_eq) texts text

-- numbers are below 2^32
abbrev pub narrowed : Option ℕ → Option ℕ
narrowed None = None
narrowed (Some n) = cond (nat_le n 4294967295) (Some n) None

-- the number of a name that was met
abbrev pub known_in : List (List ℕ) → List ℕ → Option ℕ
known_in texts text = narrowed (position (pointwise nat_eq text) texts)

-- the names, and in each of the two name spaces what was declared so far and which of it is in force
pub record ScopesView : Type 0 where
  pub names : List (List ℕ)
  pub ordinary : TableView
  pub meanings : List Meaning
  pub tags : TableView
  pub tag_meanings : List Tag

abbrev pub scopes_view : Scopes → ScopesView
scopes_view s = record { names = texts_of s.names; ordinary = s.ordinary; meanings = s.meanings.items; tags = s.tags; tag_meanings = s.tag_meanings.items }

abbrev pub no_scopes : ScopesView
no_scopes = record { names = []; ordinary = table.no_names; meanings = []; tags = table.no_names; tag_meanings = [] }

abbrev pub with_name : ScopesView → List ℕ → ScopesView
with_name s text = record s { names = with_text s.names text }

abbrev pub opened : ScopesView → ScopesView
opened s = record s { ordinary = table.opened s.ordinary; tags = table.opened s.tags }

abbrev pub closed : ScopesView → ScopesView
closed s = record s { ordinary = table.closed s.ordinary; tags = table.closed s.tags }

abbrev pub meaning_of : List Meaning → Option ℕ → Option Meaning
meaning_of meanings None = None
meaning_of meanings (Some n) = slice_get meanings n

abbrev pub tag_of : List Tag → Option ℕ → Option Tag
tag_of tags None = None
tag_of tags (Some n) = slice_get tags n

-- what an identifier means
abbrev pub found : ScopesView → ℕ → Option Meaning
found s name = meaning_of s.meanings (table.found s.ordinary name)

abbrev pub found_here : ScopesView → ℕ → Option Meaning
found_here s name = meaning_of s.meanings (table.found_here s.ordinary name)

-- what a tag means
abbrev pub found_tag : ScopesView → ℕ → Option Tag
found_tag s name = tag_of s.tag_meanings (table.found s.tags name)

abbrev pub found_tag_here : ScopesView → ℕ → Option Tag
found_tag_here s name = tag_of s.tag_meanings (table.found_here s.tags name)

-- an identifier declared in the innermost scope
abbrev pub declared : ScopesView → ℕ → Meaning → ScopesView
declared s name meaning = record s { ordinary = table.declared_in s.ordinary name (length s.meanings); meanings = s.meanings ++ meaning ∷ [] }

-- a tag declared in the innermost scope
abbrev pub declared_tag : ScopesView → ℕ → Tag → ScopesView
declared_tag s name tag = record s { tags = table.declared_in s.tags name (length s.tag_meanings); tag_meanings = s.tag_meanings ++ tag ∷ [] }
