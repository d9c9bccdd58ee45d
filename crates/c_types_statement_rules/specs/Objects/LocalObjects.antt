-- Objects of blocks, once their types are known (6.7, 6.8.2).
use Rattle.std.specs.Prelude.{ℕ, ◌==◌, Bool, true, false, cond, List, [], ◌∷◌, ◌++◌, map, length, is_some, Option, Some, None, Ok}
use Rattle.cc_base.specs.declared.diagnostics.Place.{Place}
use Rattle.c_layout.specs.Types.{Ty, Int, Pointer, Array, Struct, Void}
use Rattle.c_layout.specs.DeclarationTrees.{NameView}
use Rattle.c_layout.specs.CheckedTrees as tree
use Rattle.c_layout.specs.CheckedTrees.{StatementTree, statement_tree}
use Rattle.c_layout.specs.CheckedUnits.{LocalView, StaticView}
use Rattle.c_layout.specs.declared.syntax_tree.declarations.Storage.{Storage}
use Rattle.c_layout.specs.declared.syntax_tree.declarations.Storage.TheVariants as storage
use Rattle.c_types_scopes.specs.DeclaredTypes.{DeclaredView, ObjectView}
use Rattle.c_types_scopes.specs.Known.{Known, size_of}
use Rattle.c_types_scopes.specs.Names as names
use Rattle.c_types_scopes.specs.Names.{number_in}
use Rattle.c_types_scopes.specs.Refusals.{Ruled, type_fault}
use Rattle.c_types_scopes.specs.States.{State, with_name, with_local, with_static}
use Rattle.c_types_scopes.specs.declared.meanings.Meaning.TheVariants as meaning
use Rattle.c_types_initializers.specs.Initialized.{InitializedView, ByTerm, ByLvalue, ByStores}
use Rattle.c_types_statement_rules.specs.Objects.Changes.{changed}
use Rattle.c_types_statement_rules.specs.declared.objects.local_objects.BlockParts.{BlockParts}

-- the objects of automatic storage of a block so far, and its statements
pub record PartsView : Type 0 where
  pub objects : List ℕ
  pub statements : List StatementTree

abbrev pub parts_view : BlockParts → PartsView
parts_view p = record { objects = p.objects.items; statements = map statement_tree p.statements.items }

abbrev pub with_object : PartsView → ℕ → PartsView
with_object p number = record p { objects = p.objects ++ number ∷ [] }

-- whether a type is complete, or an array whose length its initializer gives
abbrev pub may_be_local : Known → Ty → Bool → Bool
may_be_local k (Int kind) has = is_some (size_of k (Int kind))
may_be_local k (Pointer t) has = is_some (size_of k (Pointer t))
may_be_local k (Array t count) has = cond (count == 0) has (is_some (size_of k (Array t count)))
may_be_local k (Struct number) has = is_some (size_of k (Struct number))
may_be_local k Void has = is_some (size_of k Void)

-- ---- objects more

abbrev pub automatic : ℕ → NameView → DeclaredView → State → State
automatic name n d s = record (with_local s n.text n.at d) { scopes = names.declared s.scopes name (meaning.Local (length s.body.locals)) }

-- an object of automatic storage
abbrev pub with_automatic : NameView → DeclaredView → State → State
with_automatic n d s = automatic (number_in s.scopes.names n.text) n d (with_name s n.text)

abbrev pub static_declaration : State → DeclaredView → ObjectView
static_declaration s d = record { declared = d; number = Some (length s.statics); initialized = true }

abbrev pub static_by : ℕ → NameView → DeclaredView → State → State
static_by name n d s = record (with_static s n.text n.at d.ctype) { objects = s.objects ++ static_declaration s d ∷ []; scopes = names.declared s.scopes name (meaning.Static (length s.objects)) }

-- an object of static storage, which needs no other initializer
abbrev pub with_static_object : NameView → DeclaredView → State → State
with_static_object n d s = static_by (number_in s.scopes.names n.text) n d (with_name s n.text)

-- ---- types that initializers give

abbrev pub typed_local : Ty → LocalView → LocalView
typed_local t l = record l { ctype = t }

abbrev pub typed_object : Ty → ObjectView → ObjectView
typed_object t o = record o { declared = record o.declared { ctype = t } }

abbrev pub typed_static : Ty → StaticView → StaticView
typed_static t o = record o { ctype = t }

abbrev pub with_local_type : ℕ → Ty → State → State
with_local_type number t s = record s { body = record s.body { locals = changed (typed_local t) number s.body.locals } }

abbrev pub with_object_type : ℕ → Ty → State → State
with_object_type index t s = record s { objects = changed (typed_object t) index s.objects }

abbrev pub with_run_type : ℕ → Ty → State → State
with_run_type number t s = record s { statics = changed (typed_static t) number s.statics }

-- an object of static storage has its type where it is declared, and among the objects of the run
abbrev pub with_static_type : ℕ → ℕ → Ty → State → State
with_static_type index number t s = with_run_type number t (with_object_type index t s)

-- ---- statements and storage

-- the statement that an initializer of a local object is
abbrev pub start : Place → ℕ → InitializedView → StatementTree
start at number (ByTerm e) = tree.Start at number e
start at number (ByLvalue l) = tree.StartCopy at number l
start at number (ByStores stores) = tree.StartList at number stores

-- whether an object of a block has static storage; a typedef or an extern declaration does not stand there
abbrev pub is_static : Option Storage → Place → Ruled Bool
is_static None at = Ok false
is_static (Some storage.Static) at = Ok true
is_static (Some storage.Typedef) at = type_fault at
is_static (Some storage.Extern) at = type_fault at
is_static (Some storage.Auto) at = Ok false
is_static (Some storage.Register) at = Ok false
