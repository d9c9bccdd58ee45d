-- Objects of file scope, once their types are known (6.7, 6.9.2).
use Rattle.std.specs.Prelude.{ℕ, ◌==◌, Bool, true, false, not, cond, [], ◌∷◌, ◌++◌, length, slice_get, is_some, Option, Some, None, Ok}
use Rattle.cc_base.specs.declared.diagnostics.Place.{Place}
use Rattle.c_layout.specs.Types.{Ty, Int, Pointer, Array, Struct, Void, same_type}
use Rattle.c_layout.specs.DeclarationTrees.{NameView}
use Rattle.c_layout.specs.declared.syntax_tree.declarations.Storage.{Storage}
use Rattle.c_layout.specs.declared.syntax_tree.declarations.Storage.TheVariants as storage
use Rattle.c_types_scopes.specs.Definitions.{has_object}
use Rattle.c_types_scopes.specs.DeclaredTypes.{DeclaredView, ObjectView}
use Rattle.c_types_scopes.specs.Known.{Known, size_of}
use Rattle.c_types_scopes.specs.Names as names
use Rattle.c_types_scopes.specs.Refusals.{Ruled, redeclared}
use Rattle.c_types_scopes.specs.States.{State, with_static}
use Rattle.c_types_scopes.specs.declared.meanings.Meaning.TheVariants as meaning
use Rattle.c_types_statement_rules.specs.Objects.Changes.{changed}
use Rattle.c_types_statement_rules.specs.Objects.LocalObjects.{with_static_type}

abbrev pub is_static_storage : Option Storage → Bool
is_static_storage None = false
is_static_storage (Some storage.Static) = true
is_static_storage (Some storage.Typedef) = false
is_static_storage (Some storage.Extern) = false
is_static_storage (Some storage.Auto) = false
is_static_storage (Some storage.Register) = false

abbrev pub is_extern_storage : Option Storage → Bool
is_extern_storage None = false
is_extern_storage (Some storage.Extern) = true
is_extern_storage (Some storage.Static) = false
is_extern_storage (Some storage.Typedef) = false
is_extern_storage (Some storage.Auto) = false
is_extern_storage (Some storage.Register) = false

abbrev pub is_complete : Known → Ty → Bool
is_complete k t = is_some (size_of k t)

-- whether an object of file scope may have a type: one that is complete, an array without a length that is not static,
-- or a struct without members that stands there as extern
abbrev pub may_be_object : Known → Ty → Option Storage → Bool → Bool
may_be_object k (Int kind) stored has = is_complete k (Int kind)
may_be_object k (Pointer t) stored has = is_complete k (Pointer t)
may_be_object k (Array t count) stored has = cond (count == 0) (cond has true (not (is_static_storage stored))) (is_complete k (Array t count))
may_be_object k (Struct number) stored has = cond (is_complete k (Struct number)) true (cond has false (is_extern_storage stored))
may_be_object k Void stored has = false

-- the length of an array by two declarations of it
abbrev pub common_length : ℕ → ℕ → Option ℕ
common_length old new = cond (old == new) (Some old) (cond (new == 0) (Some old) (cond (old == 0) (Some new) None))

abbrev pub array_composite : Ty → Option ℕ → Option Ty
array_composite element None = None
array_composite element (Some count) = Some (Array element count)

abbrev pub composite_with : Ty → ℕ → Ty → Option Ty
composite_with element count (Array t n) = cond (same_type t element) (array_composite t (common_length count n)) None
composite_with element count (Int kind) = None
composite_with element count (Pointer t) = None
composite_with element count (Struct number) = None
composite_with element count Void = None

abbrev pub composite_of : Ty → Ty → Option Ty
composite_of (Array t n) new = composite_with t n new
composite_of (Int kind) new = None
composite_of (Pointer t) new = None
composite_of (Struct number) new = None
composite_of Void new = None

-- the type of two declarations of one object: the same, or that of an array whose length one of them gives
abbrev pub composite : Ty → Ty → Option Ty
composite old new = cond (same_type old new) (Some new) (composite_of old new)

-- ---- the first declaration

-- the number among the objects of the run, where the unit defines the object
abbrev pub defined_number : ℕ → State → Option ℕ
defined_number name s = cond (has_object s.definitions name) (Some (length s.statics)) None

abbrev pub with_defined : ℕ → NameView → Ty → State → State
with_defined name n t s = cond (has_object s.definitions name) (with_static s n.text n.at t) s

abbrev pub with_declaration : ℕ → ObjectView → State → State
with_declaration name o s = record s { objects = s.objects ++ o ∷ []; scopes = names.declared s.scopes name (meaning.Static (length s.objects)) }

abbrev pub first_object : Option ℕ → DeclaredView → ObjectView
first_object number d = record { declared = d; number = number; initialized = false }

abbrev pub first_declaration : ℕ → NameView → DeclaredView → State → State
first_declaration name n d s = with_declaration name (first_object (defined_number name s) d) (with_defined name n d.ctype s)

-- ---- other declarations

abbrev pub number_or : Option ℕ → ℕ
number_or None = 4294967295
number_or (Some n) = n

abbrev pub with_object_enumeration : Option ℕ → ObjectView → ObjectView
with_object_enumeration e o = record o { declared = record o.declared { enumeration = e } }

abbrev pub with_enumeration : ℕ → Option ℕ → State → State
with_enumeration index e s = record s { objects = changed (with_object_enumeration e) index s.objects }

abbrev pub next_with : ℕ → Place → DeclaredView → Option ℕ → State → Option Ty → Ruled (Unit {0} × State)
next_with index at d number s None = redeclared at
next_with index at d number s (Some t) = Ok (tt, with_static_type index (number_or number) t (with_enumeration index d.enumeration s))

abbrev pub next_of : ℕ → Place → DeclaredView → State → Option ObjectView → Ruled (Unit {0} × State)
next_of index at d s None = redeclared at
next_of index at d s (Some o) = next_with index at d o.number s (composite o.declared.ctype d.ctype)

-- an object that was declared before
abbrev pub next_declaration : ℕ → Place → DeclaredView → State → Ruled (Unit {0} × State)
next_declaration index at d s = next_of index at d s (slice_get s.objects index)

-- ---- initializers

abbrev pub was_initialized : Option ObjectView → Bool
was_initialized None = false
was_initialized (Some o) = o.initialized

-- whether an object has an initializer already
abbrev pub is_initialized : State → ℕ → Bool
is_initialized s index = was_initialized (slice_get s.objects index)

abbrev pub initialized_object : ObjectView → ObjectView
initialized_object o = record o { initialized = true }

abbrev pub with_initialized : ℕ → State → State
with_initialized index s = record s { objects = changed initialized_object index s.objects }

abbrev pub object_of : Place → Option ObjectView → Ruled (Ty × ℕ)
object_of at None = redeclared at
object_of at (Some o) = Ok (o.declared.ctype, number_or o.number)

-- the type and the number of an object
abbrev pub object_at : State → Place → ℕ → Ruled (Ty × ℕ)
object_at s at index = object_of at (slice_get s.objects index)
