-- Declarations at file scope (6.7, 6.9.2). A declarator is typed in the state that the one before it leaves; the first
-- part that is refused refuses the declaration.
use Rattle.std.specs.Prelude.{ℕ, Bool, true, false, cond, List, [], ◌∷◌, ◌++◌, length, is_some, Option, Some, None, Ok, Err}
use Rattle.cc_base.specs.declared.diagnostics.Place.{Place}
use Rattle.c_layout.specs.Types.{Ty}
use Rattle.c_layout.specs.DeclarationTrees.{NameView, SpecTree, DeclaratorLayerView, InitializerTree, InitDeclaratorView, Object, Initialized, Prototype, spec_trees}
use Rattle.c_layout.specs.declared.syntax_tree.declarations.Storage.{Storage}
use Rattle.c_layout.specs.declared.syntax_tree.declarations.Storage.TheVariants as storage
use Rattle.c_types_scopes.specs.Names as names
use Rattle.c_types_scopes.specs.Names.{number_in, found_here}
use Rattle.c_types_scopes.specs.DeclaredTypes.{DeclaredView}
use Rattle.c_types_scopes.specs.Refusals.{Ruled, type_fault, redeclared}
use Rattle.c_types_scopes.specs.Answers.{after}
use Rattle.c_types_scopes.specs.States.{State, with_name}
use Rattle.c_types_scopes.specs.declared.meanings.Meaning.{Meaning}
use Rattle.c_types_scopes.specs.declared.meanings.Meaning.TheVariants as meaning
use Rattle.c_types_initializers.specs.Initialized.{InitializedView}
use Rattle.c_types_declarations.specs.Declarators.{declared_type}
use Rattle.c_types_declarations.specs.Specifiers.{SpecifiedView, is_library_name}
use Rattle.c_types_declarations.specs.SpecifierTrees.{specifiers}
use Rattle.c_types_expressions.specs.BracedLists.Initializers.{initializer_of}
use Rattle.c_types_statements.specs.LocalDeclarations.{are_none, is_empty}
use Rattle.c_types_statement_rules.specs.Objects.FileObjects.{may_be_object, first_declaration, next_declaration, is_initialized, with_initialized, object_at}
use Rattle.c_types_statements.specs.StaticInitializers.{static_initializer}
use Rattle.c_types.specs.FileScope.FunctionDeclarations.{prototype}

-- ---- typedef names

abbrev pub with_typedef : ℕ → DeclaredView → State → State
with_typedef name d s = record s { typedefs = s.typedefs ++ d ∷ []; scopes = names.declared s.scopes name (meaning.Typedef (length s.typedefs)) }

-- whether a name is one of the library, or declared already
abbrev pub is_taken : ℕ → List ℕ → State → Bool
is_taken name text s = cond (is_library_name text) true (is_some (found_here s.scopes name))

abbrev pub typedef_by : ℕ → NameView → DeclaredView → State → Ruled (Unit {0} × State)
typedef_by name n d s = cond (is_taken name n.text s) (redeclared n.at) (Ok (tt, with_typedef name d s))

abbrev pub typedef_in : NameView → DeclaredView → State → Ruled (Unit {0} × State)
typedef_in n d s = typedef_by (number_in s.scopes.names n.text) n d (with_name s n.text)

abbrev pub typedef_name : State → SpecifiedView → NameView → List DeclaratorLayerView → Ruled (Unit {0} × State)
typedef_name s base n layers = after (declared_type s n.at base.declared layers) (typedef_in n)

abbrev pub no_typedef : Place → InitializedView × Ty → State → Ruled (Unit {0} × State)
no_typedef equals m s = type_fault equals

abbrev pub typedef_initializer : Place → InitializerTree → DeclaredView → State → Ruled (Unit {0} × State)
typedef_initializer equals i d s = after (initializer_of s equals d.ctype i) (no_typedef equals)

-- a typedef name has no initializer
abbrev pub initialized_typedef : State → SpecifiedView → NameView → List DeclaratorLayerView → Place → InitializerTree → Ruled (Unit {0} × State)
initialized_typedef s base n layers equals i = after (declared_type s n.at base.declared layers) (typedef_initializer equals i)

abbrev pub typedef_named : State → SpecifiedView → Place → Option NameView → List DeclaratorLayerView → Ruled (Unit {0} × State)
typedef_named s base at None layers = type_fault at
typedef_named s base at (Some n) layers = typedef_name s base n layers

abbrev pub initialized_typedef_named : State → SpecifiedView → Option NameView → List DeclaratorLayerView → Place → InitializerTree → Ruled (Unit {0} × State)
initialized_typedef_named s base None layers equals i = type_fault equals
initialized_typedef_named s base (Some n) layers equals i = initialized_typedef s base n layers equals i

-- a declarator of a typedef; a function's type has no name
abbrev pub typedef_declarator : State → SpecifiedView → Place → InitDeclaratorView → Ruled (Unit {0} × State)
typedef_declarator s base at (Object d) = typedef_named s base at d.name d.layers
typedef_declarator s base at (Initialized d equals i) = initialized_typedef_named s base d.name d.layers equals i
typedef_declarator s base at (Prototype f) = type_fault f.name.at

-- ---- objects

abbrev pub indexed : ℕ → Ruled (Unit {0} × State) → Ruled (ℕ × State)
indexed index (Ok p) = Ok (index, p.1)
indexed index (Err f) = Err f

abbrev pub object_as : ℕ → NameView → DeclaredView → State → Option Meaning → Ruled (ℕ × State)
object_as name n d s None = Ok (length s.objects, first_declaration name n d s)
object_as name n d s (Some (meaning.Static index)) = indexed index (next_declaration index n.at d s)
object_as name n d s (Some (meaning.Local number)) = redeclared n.at
object_as name n d s (Some (meaning.Function number)) = redeclared n.at
object_as name n d s (Some (meaning.Typedef number)) = redeclared n.at
object_as name n d s (Some (meaning.Enumerator value)) = redeclared n.at

abbrev pub object_by : ℕ → NameView → DeclaredView → State → Ruled (ℕ × State)
object_by name n d s = object_as name n d s (found_here s.scopes name)

abbrev pub object_named : NameView → DeclaredView → State → Ruled (ℕ × State)
object_named n d s = cond (is_library_name n.text) (redeclared n.at) (object_by (number_in s.scopes.names n.text) n d (with_name s n.text))

abbrev pub object_in : NameView → Option Storage → Bool → DeclaredView → State → Ruled (ℕ × State)
object_in n stored has d s = cond (may_be_object s.known d.ctype stored has) (object_named n d s) (type_fault n.at)

-- an object that is declared: its number among those declared
abbrev pub declared_object : State → SpecifiedView → NameView → List DeclaratorLayerView → Bool → Ruled (ℕ × State)
declared_object s base n layers has = after (declared_type s n.at base.declared layers) (object_in n base.storage has)

abbrev pub only_declared : ℕ → State → Ruled (Unit {0} × State)
only_declared index s = Ok (tt, s)

abbrev pub plain_object : State → SpecifiedView → NameView → List DeclaratorLayerView → Ruled (Unit {0} × State)
plain_object s base n layers = after (declared_object s base n layers false) only_declared

abbrev pub initializer_by : Place → InitializerTree → ℕ → State → Ruled (Ty × ℕ) → Ruled (Unit {0} × State)
initializer_by equals i index s (Ok o) = static_initializer s index o.1 equals o.0 i
initializer_by equals i index s (Err f) = Err f

abbrev pub initializer_at : Place → Place → InitializerTree → ℕ → State → Ruled (Unit {0} × State)
initializer_at at equals i index s = initializer_by equals i index s (object_at s at index)

-- a second initializer of an object is refused
abbrev pub object_initializer : Place → Place → InitializerTree → ℕ → State → Ruled (Unit {0} × State)
object_initializer at equals i index s = cond (is_initialized s index) (redeclared at) (initializer_at at equals i index (with_initialized index s))

abbrev pub initialized_object : State → SpecifiedView → NameView → List DeclaratorLayerView → Place → InitializerTree → Ruled (Unit {0} × State)
initialized_object s base n layers equals i = after (declared_object s base n layers true) (object_initializer n.at equals i)

abbrev pub plain_named : State → SpecifiedView → Place → Option NameView → List DeclaratorLayerView → Ruled (Unit {0} × State)
plain_named s base at None layers = type_fault at
plain_named s base at (Some n) layers = plain_object s base n layers

abbrev pub initialized_named : State → SpecifiedView → Place → Option NameView → List DeclaratorLayerView → Place → InitializerTree → Ruled (Unit {0} × State)
initialized_named s base at None layers equals i = type_fault at
initialized_named s base at (Some n) layers equals i = initialized_object s base n layers equals i

-- a declarator of an object or a function
abbrev pub object_declarator : State → SpecifiedView → Place → InitDeclaratorView → Ruled (Unit {0} × State)
object_declarator s base at (Object d) = plain_named s base at d.name d.layers
object_declarator s base at (Initialized d equals i) = initialized_named s base at d.name d.layers equals i
object_declarator s base at (Prototype f) = prototype s base f

-- ---- declarations

abbrev pub is_typedef : Option Storage → Bool
is_typedef None = false
is_typedef (Some storage.Typedef) = true
is_typedef (Some storage.Extern) = false
is_typedef (Some storage.Static) = false
is_typedef (Some storage.Auto) = false
is_typedef (Some storage.Register) = false

abbrev pub declarator : State → SpecifiedView → Place → InitDeclaratorView → Ruled (Unit {0} × State)
declarator s base at d = cond (is_typedef base.storage) (typedef_declarator s base at d) (object_declarator s base at d)

abbrev pub declarators : State → SpecifiedView → Place → List InitDeclaratorView → Ruled (Unit {0} × State)
declarators s base at [] = Ok (tt, s)
declarators s base at (d ∷ ds) = after (declarator s base at d) (λ u t. declarators t base at ds)

abbrev pub declared_by : Place → List InitDeclaratorView → SpecifiedView → State → Ruled (Unit {0} × State)
declared_by at ds base s = cond (is_empty ds base) (type_fault at) (declarators s base at ds)

-- a declaration at file scope
abbrev pub external_declaration : State → Place → List SpecTree → List InitDeclaratorView → Ruled (Unit {0} × State)
external_declaration s at words ds = after (specifiers s at (are_none ds) (spec_trees words)) (declared_by at ds)
