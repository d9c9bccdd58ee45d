-- Declarations in blocks (6.7, 6.8.2). A declarator is typed in the state that the one before it leaves; the first part
-- that is refused refuses the declaration.
use Rattle.std.specs.Prelude.{ℕ, Bool, true, false, not, cond, List, [], ◌∷◌, ◌++◌, length, Option, Some, None, Ok, Err}
use Rattle.cc_base.specs.declared.diagnostics.Place.{Place}
use Rattle.c_layout.specs.Types.{Ty}
use Rattle.c_layout.specs.DeclarationTrees.{NameView, DeclaratorLayerView, DeclaratorView, InitializerTree, InitDeclaratorView, Object, Initialized, Prototype, LocalView, spec_trees}
use Rattle.c_layout.specs.CheckedTrees as tree
use Rattle.c_layout.specs.declared.syntax_tree.declarations.Storage.{Storage}
use Rattle.c_types_scopes.specs.Names.{number_in, found_here}
use Rattle.c_types_scopes.specs.DeclaredTypes.{DeclaredView}
use Rattle.c_types_scopes.specs.Refusals.{Ruled, type_fault, redeclared}
use Rattle.c_types_scopes.specs.Answers.{after, kept}
use Rattle.c_types_scopes.specs.States.{State, with_name}
use Rattle.c_types_scopes.specs.declared.meanings.Meaning.{Meaning}
use Rattle.c_types_initializers.specs.Initialized.{InitializedView}
use Rattle.c_types_declarations.specs.Declarators.{declared_type}
use Rattle.c_types_declarations.specs.Specifiers.{SpecifiedView}
use Rattle.c_types_declarations.specs.SpecifierTrees.{specifiers}
use Rattle.c_types_expressions.specs.BracedLists.Initializers.{initializer_of}
use Rattle.c_types_statement_rules.specs.Objects.LocalObjects.{PartsView, with_object, may_be_local, with_automatic, with_static_object, with_local_type, start, is_static}
use Rattle.c_types_statements.specs.StaticInitializers.{has_size, static_initializer}

-- ---- the type of an object

abbrev pub free_of : NameView → DeclaredView → Option Meaning → Ruled DeclaredView
free_of n d None = Ok d
free_of n d (Some m) = redeclared n.at

-- a name is declared once in a scope
abbrev pub if_free : ℕ → NameView → DeclaredView → State → Ruled DeclaredView
if_free name n d s = free_of n d (found_here s.scopes name)

abbrev pub judged_object : NameView → Bool → DeclaredView → State → Ruled (DeclaredView × State)
judged_object n has d s = cond (may_be_local s.known d.ctype has) (kept (with_name s n.text) (if_free (number_in s.scopes.names n.text) n d (with_name s n.text))) (type_fault n.at)

-- the type of an object, where its name is free
abbrev pub object_type : State → SpecifiedView → NameView → List DeclaratorLayerView → Bool → Ruled (DeclaredView × State)
object_type s base n layers has = after (declared_type s n.at base.declared layers) (judged_object n has)

-- ---- objects without initializer

abbrev pub forgotten : NameView → ℕ → PartsView → PartsView
forgotten n number p = record p { statements = p.statements ++ tree.Forget n.at number ∷ [] }

abbrev pub plain_automatic : NameView → DeclaredView → PartsView → State → Ruled (PartsView × State)
plain_automatic n d p s = Ok (forgotten n (length s.body.locals) (with_object p (length s.body.locals)), with_automatic n d s)

abbrev pub plain_stored : NameView → DeclaredView → PartsView → Bool → State → Ruled (PartsView × State)
plain_stored n d p true s = Ok (p, with_static_object n d s)
plain_stored n d p false s = plain_automatic n d p s

abbrev pub plain_by : NameView → DeclaredView → PartsView → Ruled Bool → State → Ruled (PartsView × State)
plain_by n d p (Ok b) s = plain_stored n d p b s
plain_by n d p (Err f) s = Err f

abbrev pub plain_in : Option Storage → NameView → PartsView → DeclaredView → State → Ruled (PartsView × State)
plain_in stored n p d s = plain_by n d p (is_static stored n.at) s

-- an object without initializer
abbrev pub plain_object : State → SpecifiedView → NameView → List DeclaratorLayerView → PartsView → Ruled (PartsView × State)
plain_object s base n layers p = after (object_type s base n layers false) (plain_in base.storage n p)

-- ---- objects with an initializer

abbrev pub started : Place → ℕ → InitializedView → PartsView → PartsView
started at number made p = record p { statements = p.statements ++ start at number made ∷ [] }

abbrev pub start_automatic : Place → Place → ℕ → PartsView → InitializedView × Ty → State → Ruled (PartsView × State)
start_automatic at equals number p m s = cond (has_size s.known m.1) (Ok (started at number m.0 p, with_local_type number m.1 s)) (type_fault equals)

-- an object of automatic storage is declared before its initializer is typed
abbrev pub initialized_automatic : NameView → DeclaredView → Place → InitializerTree → PartsView → State → Ruled (PartsView × State)
initialized_automatic n d equals i p s = after (initializer_of (with_automatic n d s) equals d.ctype i) (start_automatic n.at equals (length s.body.locals) (with_object p (length s.body.locals)))

abbrev pub parts_kept : PartsView → Unit {0} → State → Ruled (PartsView × State)
parts_kept p u s = Ok (p, s)

abbrev pub initialized_static : NameView → DeclaredView → Place → InitializerTree → State → Ruled (Unit {0} × State)
initialized_static n d equals i s = static_initializer (with_static_object n d s) (length s.objects) (length s.statics) equals d.ctype i

abbrev pub initialized_stored : NameView → DeclaredView → Place → InitializerTree → PartsView → Bool → State → Ruled (PartsView × State)
initialized_stored n d equals i p true s = after (initialized_static n d equals i s) (parts_kept p)
initialized_stored n d equals i p false s = initialized_automatic n d equals i p s

abbrev pub initialized_by : NameView → DeclaredView → Place → InitializerTree → PartsView → Ruled Bool → State → Ruled (PartsView × State)
initialized_by n d equals i p (Ok b) s = initialized_stored n d equals i p b s
initialized_by n d equals i p (Err f) s = Err f

abbrev pub initialized_in : Option Storage → NameView → Place → InitializerTree → PartsView → DeclaredView → State → Ruled (PartsView × State)
initialized_in stored n equals i p d s = initialized_by n d equals i p (is_static stored n.at) s

-- an object with an initializer
abbrev pub initialized_object : State → SpecifiedView → NameView → List DeclaratorLayerView → Place → InitializerTree → PartsView → Ruled (PartsView × State)
initialized_object s base n layers equals i p = after (object_type s base n layers true) (initialized_in base.storage n equals i p)

-- ---- declarators

abbrev pub plain_named : State → SpecifiedView → Place → Option NameView → List DeclaratorLayerView → PartsView → Ruled (PartsView × State)
plain_named s base at None layers p = type_fault at
plain_named s base at (Some n) layers p = plain_object s base n layers p

abbrev pub initialized_named : State → SpecifiedView → Place → Option NameView → List DeclaratorLayerView → Place → InitializerTree → PartsView → Ruled (PartsView × State)
initialized_named s base at None layers equals i p = type_fault at
initialized_named s base at (Some n) layers equals i p = initialized_object s base n layers equals i p

-- a declarator of a declaration at a place; a function is declared at file scope alone
abbrev pub declarator : State → SpecifiedView → Place → InitDeclaratorView → PartsView → Ruled (PartsView × State)
declarator s base at (Object d) p = plain_named s base at d.name d.layers p
declarator s base at (Initialized d equals i) p = initialized_named s base at d.name d.layers equals i p
declarator s base at (Prototype f) p = type_fault f.name.at

abbrev pub declarators : State → SpecifiedView → Place → List InitDeclaratorView → PartsView → Ruled (PartsView × State)
declarators s base at [] p = Ok (p, s)
declarators s base at (d ∷ ds) p = after (declarator s base at d p) (λ q t. declarators t base at ds q)

-- ---- declarations

abbrev pub are_none : List InitDeclaratorView → Bool
are_none [] = true
are_none (d ∷ ds) = false

-- whether a declaration declares nothing: no declarator, no tag and no enumeration constant
abbrev pub is_empty : List InitDeclaratorView → SpecifiedView → Bool
is_empty [] base = not base.declares
is_empty (d ∷ ds) base = false

abbrev pub declared_by : LocalView → PartsView → SpecifiedView → State → Ruled (PartsView × State)
declared_by l p base s = cond (is_empty l.declarators base) (type_fault l.at) (declarators s base l.at l.declarators p)

-- a declaration in a block or in a `for`
abbrev pub local_declaration : State → LocalView → PartsView → Ruled (PartsView × State)
local_declaration s l p = after (specifiers s l.at (are_none l.declarators) (spec_trees l.words)) (declared_by l p)
