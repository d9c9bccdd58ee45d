-- What a unit defines, read before it is typed (6.9.1, 6.9.2).
use Rattle.std.specs.Prelude.{Bool, true, false, List, [], ◌∷◌, cond, Option, Some, None}
use Rattle.c_layout.specs.DeclarationTrees.{NameView, SpecTree, StorageWord, Qualifier, TypeOf, StructTag, StructBody, EnumTag, EnumBody, TypedefName, InitDeclaratorView, Object, Initialized, Prototype, ExternalTree, Declared, Defined}
use Rattle.c_layout.specs.declared.syntax_tree.declarations.Storage.{Storage}
use Rattle.c_layout.specs.declared.syntax_tree.declarations.Storage.TheVariants as storage
use Rattle.c_types_scopes.specs.Definitions as definitions
use Rattle.c_types_scopes.specs.Names.{number_in}
use Rattle.c_types_scopes.specs.States.{State, with_name}

-- the storage class behind a word
abbrev pub storage_word : SpecTree → Option Storage → Option Storage
storage_word (StorageWord at word) found = Some word
storage_word (Qualifier at) found = found
storage_word (TypeOf at word) found = found
storage_word (StructTag at tag) found = found
storage_word (StructBody at tag members) found = found
storage_word (EnumTag at tag) found = found
storage_word (EnumBody at tag enumerators) found = found
storage_word (TypedefName name) found = found

unfoldable pub last_storage : List SpecTree → Option Storage → Option Storage
last_storage [] found = found
last_storage (w ∷ ws) found = last_storage ws (storage_word w found)

-- the storage class among specifiers
abbrev pub storage_of : List SpecTree → Option Storage
storage_of words = last_storage words None

-- whether an object without initializer is defined by a declaration of a storage class
abbrev pub is_definition : Option Storage → Bool
is_definition (Some storage.Typedef) = false
is_definition (Some storage.Extern) = false
is_definition (Some storage.Static) = true
is_definition (Some storage.Auto) = true
is_definition (Some storage.Register) = true
is_definition None = true

-- the object of a name more
abbrev pub with_object : NameView → State → State
with_object n s = record (with_name s n.text) { definitions = definitions.with_object s.definitions (number_in s.scopes.names n.text) }

-- the function of a name more
abbrev pub with_function : NameView → State → State
with_function n s = record (with_name s n.text) { definitions = definitions.with_function s.definitions (number_in s.scopes.names n.text) }

abbrev pub with_named : Option NameView → State → State
with_named None s = s
with_named (Some n) s = with_object n s

-- what a declarator defines
abbrev pub with_declarator : Bool → InitDeclaratorView → State → State
with_declarator defines (Object d) s = cond defines (with_named d.name s) s
with_declarator defines (Initialized d equals i) s = with_named d.name s
with_declarator defines (Prototype f) s = s

unfoldable pub with_declarators : Bool → List InitDeclaratorView → State → State
with_declarators defines [] s = s
with_declarators defines (d ∷ ds) s = with_declarators defines ds (with_declarator defines d s)

abbrev pub with_external : ExternalTree → State → State
with_external (Declared at words ds) s = with_declarators (is_definition (storage_of words)) ds s
with_external (Defined at words f body) s = with_function f.name s

-- what the external declarations of a unit define, in reading order
unfoldable pub with_externals : List ExternalTree → State → State
with_externals [] s = s
with_externals (e ∷ es) s = with_externals es (with_external e s)
