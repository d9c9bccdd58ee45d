-- The structs of a unit while it is typed (6.7.2.1).
use Rattle.std.specs.Prelude.{ℕ, Bool, true, false, ◌&&◌, nat_eq, List, [], ◌∷◌, ◌++◌, slice_get, slice_set, is_some, Option, Some, None, option_map}
use Rattle.std.specs.Map.{lookup}
use Rattle.std.specs.List.{list_any}
use Rattle.indexmap.specs.IndexMap.{insert_entry}
use Rattle.indexmap.specs.IndexSet.{insert_key}
use Rattle.c_layout.specs.Types.{Ty, Struct}
use Rattle.c_layout.specs.StructViews.{FieldView, field_view, StructView, structs_view, no_struct}
use Rattle.c_types_scopes.specs.declared.struct_types.MemberKey.{MemberKey}
use Rattle.c_types_scopes.specs.declared.struct_types.MemberEntry.{MemberEntry}
use Rattle.c_types_scopes.specs.declared.struct_types.FoundMember.{FoundMember}
use Rattle.c_types_scopes.specs.declared.struct_types.StructTypes.{StructTypes}

-- the structs, their members by struct and number of the name, and the structs whose bodies were met
pub record TypesView : Type 0 where
  pub structs : List StructView
  pub members : List (MemberKey × MemberEntry)
  pub bodies : List ℕ

abbrev pub types_view : StructTypes → TypesView
types_view t = record { structs = structs_view t.structs; members = t.members.entries; bodies = t.bodies.keys }

abbrev pub no_types : TypesView
no_types = record { structs = []; members = []; bodies = [] }

abbrev pub same_key : MemberKey → MemberKey → Bool
same_key a b = nat_eq a.owner b.owner && nat_eq a.name b.name

abbrev pub key : ℕ → ℕ → MemberKey
key owner name = record { owner = owner; name = name }

-- a struct more, of which nothing is known
abbrev pub with_struct : TypesView → TypesView
with_struct t = record t { structs = t.structs ++ no_struct ∷ [] }

abbrev pub complete_of : Option StructView → Bool
complete_of None = false
complete_of (Some s) = s.complete

abbrev pub is_complete : TypesView → ℕ → Bool
is_complete t number = complete_of (slice_get t.structs number)

abbrev pub has_body : TypesView → ℕ → Bool
has_body t number = list_any (nat_eq number) t.bodies

abbrev pub with_body : TypesView → ℕ → TypesView
with_body t number = record t { bodies = insert_key nat_eq t.bodies number }

abbrev pub entry_of : TypesView → ℕ → ℕ → Option MemberEntry
entry_of t owner name = lookup (same_key (key owner name)) t.members

abbrev pub has_member : TypesView → ℕ → ℕ → Bool
has_member t owner name = is_some (entry_of t owner name)

abbrev pub with_member : TypesView → ℕ → ℕ → ℕ → Option ℕ → TypesView
with_member t owner name field enumeration = record t { members = insert_entry same_key t.members (key owner name) (record { field = field; enumeration = enumeration }) }

-- a struct that is complete
abbrev pub with_complete : TypesView → ℕ → StructView → TypesView
with_complete t number made = record t { structs = slice_set t.structs number made }

-- a member, and the enumerated type that its declaration names
pub record MemberView : Type 0 where
  pub field : FieldView
  pub enumeration : Option ℕ

abbrev pub member_view : FoundMember → MemberView
member_view m = record { field = field_view m.field.now; enumeration = m.enumeration }

abbrev pub with_enumeration : Option ℕ → FieldView → MemberView
with_enumeration e f = record { field = f; enumeration = e }

abbrev pub field_of : MemberEntry → Option StructView → Option MemberView
field_of e None = None
field_of e (Some s) = option_map (with_enumeration e.enumeration) (slice_get s.fields e.field)

abbrev pub member_by : TypesView → ℕ → Option MemberEntry → Option MemberView
member_by t owner None = None
member_by t owner (Some e) = field_of e (slice_get t.structs owner)

-- a member of a struct
abbrev pub member : TypesView → ℕ → ℕ → Option MemberView
member t owner name = member_by t owner (entry_of t owner name)

-- the number of the struct that a type is
abbrev pub struct_of : Ty → Option ℕ
struct_of (Struct number) = Some number
struct_of _ = None
