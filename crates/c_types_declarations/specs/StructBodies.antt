-- Structs with their members (6.7.2.1, 6.7.2.3).
use Rattle.std.specs.Prelude.{ℕ, ◌+◌, Bool, true, false, cond, List, [], ◌∷◌, length, Option, Some, None, Ok, Err}
use Rattle.cc_base.specs.declared.diagnostics.Place.{Place}
use Rattle.c_layout.specs.Types.{Ty}
use Rattle.c_layout.specs.StructViews.{StructView}
use Rattle.c_layout.specs.StructLayouts.{Partial, added, finished}
use Rattle.c_layout.specs.DeclarationTrees.{NameView, DeclaratorLayerView, DeclaratorView}
use Rattle.c_layout.specs.declared.syntax_tree.declarations.Storage.{Storage}
use Rattle.c_layout.specs.declared.syntax_tree.declarations.Storage.TheVariants as storage
use Rattle.c_types_scopes.specs.Answers.{after}
use Rattle.c_types_scopes.specs.Known.{Known, size_of}
use Rattle.c_types_scopes.specs.Names.{number_in, found_tag_here}
use Rattle.c_types_scopes.specs.Refusals.{Ruled, type_fault, redeclared}
use Rattle.c_types_scopes.specs.DeclaredTypes.{DeclaredView}
use Rattle.c_types_scopes.specs.StructTables as types
use Rattle.c_types_scopes.specs.States.{State, with_name}
use Rattle.c_types_scopes.specs.declared.meanings.Tag.{Tag}
use Rattle.c_types_scopes.specs.declared.meanings.Tag.TheVariants as tag
use Rattle.c_types_declarations.specs.Declarators.{declared_type}
use Rattle.c_types_declarations.specs.Specifiers.{SpecifiedView}
use Rattle.c_types_declarations.specs.declared.struct_bodies.OpenBody.{OpenBody}
use Rattle.c_types_declarations.specs.ContextSteps.{with_struct, with_tag, with_body, with_member, with_complete}

-- ---- tags of structs

abbrev pub new_tag : ℕ → State → ℕ × State
new_tag name s = (length s.types.structs, with_tag (with_struct s) name (tag.Struct (length s.types.structs)))

abbrev pub alone_of : Place → ℕ → State → Option Tag → Ruled (ℕ × State)
alone_of at name s (Some (tag.Struct number)) = Ok (number, s)
alone_of at name s (Some (tag.Enumeration number)) = redeclared at
alone_of at name s None = Ok (new_tag name s)

abbrev pub alone_by : Place → ℕ → State → Ruled (ℕ × State)
alone_by at name s = alone_of at name s (found_tag_here s.scopes name)

-- the struct of a tag that is declared in the innermost scope, or there from now on
abbrev pub alone_tag : NameView → State → Ruled (ℕ × State)
alone_tag t s = alone_by t.at (number_in s.scopes.names t.text) (with_name s t.text)

abbrev pub owned_at : Place → Ruled (ℕ × State) → Ruled ((ℕ × Place) × State)
owned_at at (Ok p) = Ok ((p.0, at), p.1)
owned_at at (Err f) = Err f

-- the struct that a body belongs to, and where it is refused
abbrev pub owner_of : Place → Option NameView → State → Ruled ((ℕ × Place) × State)
owner_of at None s = Ok ((length s.types.structs, at), with_struct s)
owner_of at (Some t) s = owned_at t.at (alone_tag t s)

-- ---- members

abbrev pub laid_by : Known → Partial → List ℕ → Ty → Option ℕ → Partial
laid_by k p name t None = p
laid_by k p name t (Some size) = added k.structs k.numbers.pointer p name t

-- a layout with a member more, if its type is complete
abbrev pub laid_out : Known → Partial → List ℕ → Ty → Partial
laid_out k p name t = laid_by k p name t (size_of k t)

-- the storage classes that no member and no parameter has
abbrev pub is_stored : Option Storage → Bool
is_stored (Some storage.Typedef) = true
is_stored (Some storage.Extern) = true
is_stored (Some storage.Static) = true
is_stored (Some storage.Auto) = false
is_stored (Some storage.Register) = false
is_stored None = false

abbrev pub named_by : Place → ℕ → ℕ → ℕ → Option ℕ → State → Ruled (Unit {0} × State)
named_by at owner name field enumeration s = cond (types.has_member s.types owner name) (redeclared at) (Ok (tt, with_member s owner name field enumeration))

-- a member by its name
abbrev pub name_member : ℕ → NameView → ℕ → Option ℕ → State → Ruled (Unit {0} × State)
name_member owner n field enumeration s = named_by n.at owner (number_in s.scopes.names n.text) field enumeration (with_name s n.text)

abbrev pub beside : Partial → Ruled (Unit {0} × State) → Ruled (Partial × State)
beside p (Ok q) = Ok (p, q.1)
beside p (Err f) = Err f

abbrev pub field_by : ℕ → NameView → DeclaredView → ℕ → Partial → State → Option ℕ → Ruled (Partial × State)
field_by owner n d field p s None = type_fault n.at
field_by owner n d field p s (Some size) = beside (added s.known.structs s.known.numbers.pointer p n.text d.ctype) (name_member owner n field d.enumeration s)

-- a layout with a member of a type, the field with this number
abbrev pub add_field : ℕ → Option Storage → NameView → DeclaredView → ℕ → Partial → State → Ruled (Partial × State)
add_field owner stored n d field p s = cond (is_stored stored) (type_fault n.at) (field_by owner n d field p s (size_of s.known d.ctype))

-- a declarator without a name declares no member
abbrev pub add_named : ℕ → SpecifiedView → List DeclaratorLayerView → ℕ → Partial → State → Option NameView → Ruled (Partial × State)
add_named owner base layers field p s None = Ok (p, s)
add_named owner base layers field p s (Some n) = after (declared_type s n.at base.declared layers) (λ d t. add_field owner base.storage n d field p t)

-- a member, the field with this number
abbrev pub add_member : ℕ → SpecifiedView → DeclaratorView → ℕ → Partial → State → Ruled (Partial × State)
add_member owner base d field p s = add_named owner base d.layers field p s d.name

-- members of one declaration; how many members there are then
abbrev pub declared_members : ℕ → SpecifiedView → List DeclaratorView → ℕ → Partial → State → Ruled ((ℕ × Partial) × State)
declared_members owner base [] count p s = Ok ((count, p), s)
declared_members owner base (d ∷ ds) count p s = after (add_member owner base d count p s) (λ q t. declared_members owner base ds (count + 1) q t)

-- ---- bodies

abbrev pub begun_by : Bool → ℕ → Place → State → OpenBody × State
begun_by true owner at s = (record { owner = owner; at = at; is_repeated = true; number = length s.types.structs }, with_struct s)
begun_by false owner at s = (record { owner = owner; at = at; is_repeated = false; number = owner }, s)

-- a body of a struct: whether one was met before, and the struct whose members are read: those of a second body
-- belong to another one
abbrev pub begun : ℕ → Place → State → OpenBody × State
begun owner at s = begun_by (types.has_body s.types owner) owner at (with_body s owner)

abbrev pub begun_of : ℕ × Place → State → Ruled (OpenBody × State)
begun_of o s = Ok (begun o.0 o.1 s)

-- a body of the struct of a tag, or of a new one
abbrev pub begun_body : State → Place → Option NameView → Ruled (OpenBody × State)
begun_body s at tag = after (owner_of at tag s) begun_of

-- a struct whose members were read; one that is too large is refused
abbrev pub completed : Place → ℕ → Option StructView → State → Ruled (ℕ × State)
completed at owner None s = type_fault at
completed at owner (Some made) s = Ok (owner, with_complete s owner made)

-- a body whose members were read; a second one is refused
abbrev pub ended : OpenBody → Partial → State → Ruled (ℕ × State)
ended b p s = cond b.is_repeated (redeclared b.at) (completed b.at b.owner (finished p) s)
