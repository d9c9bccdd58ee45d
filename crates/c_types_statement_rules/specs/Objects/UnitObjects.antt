-- What becomes of the objects of static storage at the end of a unit (6.9.2p2).
use Rattle.std.specs.Prelude.{ℕ, Bool, true, false, ◌&&◌, ◌==◌, cond, nat_le, List, [], ◌∷◌, map, slice_get, Option, Some, None, Ok}
use Rattle.cc_base.specs.declared.diagnostics.Place.{Place}
use Rattle.c_layout.specs.Types.{Ty, Int, Pointer, Array, Struct, Void}
use Rattle.c_layout.specs.CheckedUnits.{StaticView, StaticStoreView, SetValue, SetText}
use Rattle.c_layout.specs.declared.checked_tree.checked_units.StaticValue.{StaticValue}
use Rattle.c_layout.specs.declared.checked_tree.checked_units.StaticValue.TheVariants as value
use Rattle.c_layout.specs.declared.checked_tree.checked_units.StaticBase.{StaticBase}
use Rattle.c_layout.specs.declared.checked_tree.checked_units.StaticBase.TheVariants as base
use Rattle.c_types_scopes.specs.Known.{Known, size_of}
use Rattle.c_types_scopes.specs.Refusals.{Ruled, constant_needed}
use Rattle.c_types_scopes.specs.States.{State}
use Rattle.c_types_scopes.specs.declared.context.StaticInitializer.{StaticInitializer}

-- ---- lengths that are not known

abbrev pub completed_count : ℕ → ℕ
completed_count count = cond (count == 0) 1 count

-- an array without a length in the whole unit has one element
abbrev pub completed : Ty → Ty
completed (Int k) = Int k
completed (Pointer t) = Pointer t
completed (Array t count) = Array t (completed_count count)
completed (Struct number) = Struct number
completed Void = Void

abbrev pub completed_object : StaticView → StaticView
completed_object o = record o { ctype = completed o.ctype }

abbrev pub with_statics : State → List StaticView → State
with_statics s statics = record s { statics = statics }

abbrev pub with_completed : State → State
with_completed s = with_statics s (map completed_object s.statics)

-- ---- bounds of addresses

abbrev pub or_0 : Option ℕ → ℕ
or_0 None = 0
or_0 (Some n) = n

abbrev pub object_size : Known → StaticView → ℕ
object_size k o = or_0 (size_of k o.ctype)

-- the sizes of the objects of static storage
abbrev pub object_sizes : State → List ℕ
object_sizes s = map (object_size s.known) s.statics

-- the greatest number stands for the size of an object whose length was not known
abbrev pub bound_of : List ℕ → ℕ → ℕ → ℕ
bound_of sizes number high = cond (high == 18446744073709551615) (or_0 (slice_get sizes number)) high

abbrev pub bounded_base : List ℕ → StaticBase → ℕ → ℕ → ℕ → StaticValue
bounded_base sizes (base.Object number) offset low high = value.Address (base.Object number) offset low (bound_of sizes number high)
bounded_base sizes (base.Literal number) offset low high = value.Address (base.Literal number) offset low high

abbrev pub bounded : List ℕ → StaticValue → StaticValue
bounded sizes (value.Number n kind) = value.Number n kind
bounded sizes value.Null = value.Null
bounded sizes (value.Address b offset low high) = bounded_base sizes b offset low high

abbrev pub bounded_store : List ℕ → StaticStoreView → StaticStoreView
bounded_store sizes (SetValue offset v) = SetValue offset (bounded sizes v)
bounded_store sizes (SetText offset room text) = SetText offset room text

abbrev pub bounded_object : List ℕ → StaticView → StaticView
bounded_object sizes o = record o { stores = map (bounded_store sizes) o.stores }

abbrev pub with_bounded : State → State
with_bounded s = with_statics s (map (bounded_object (object_sizes s)) s.statics)

-- ---- addresses past their objects

-- whether an address lies in its object, or just behind it, and so do all that it may reach
abbrev pub reaches_no_further : List ℕ → StaticBase → ℕ → ℕ → Bool
reaches_no_further sizes (base.Object number) offset high = nat_le offset high && nat_le high (or_0 (slice_get sizes number))
reaches_no_further sizes (base.Literal number) offset high = true

abbrev pub value_fits : List ℕ → StaticValue → Bool
value_fits sizes (value.Number n kind) = true
value_fits sizes value.Null = true
value_fits sizes (value.Address b offset low high) = reaches_no_further sizes b offset high

abbrev pub store_fits : List ℕ → StaticStoreView → Bool
store_fits sizes (SetValue offset v) = value_fits sizes v
store_fits sizes (SetText offset room text) = true

unfoldable pub stores_fit : List ℕ → List StaticStoreView → Bool
stores_fit sizes [] = true
stores_fit sizes (s ∷ ss) = cond (store_fits sizes s) (stores_fit sizes ss) false

abbrev pub object_fits : List ℕ → Option StaticView → Bool
object_fits sizes None = true
object_fits sizes (Some o) = stores_fit sizes o.stores

-- the `=` of the first initializer that goes past an array of which the length became known behind it
unfoldable pub first_past : List ℕ → List StaticView → List StaticInitializer → Option Place
first_past sizes os [] = None
first_past sizes os (i ∷ is) = cond (object_fits sizes (slice_get os i.object)) (first_past sizes os is) (Some i.equals)

abbrev pub judged_bounds : Option Place → State → Ruled (Unit {0} × State)
judged_bounds None s = Ok (tt, s)
judged_bounds (Some at) s = constant_needed at

abbrev pub judged_objects : State → State → Ruled (Unit {0} × State)
judged_objects before s = judged_bounds (first_past (object_sizes before) s.statics s.initializers) s

-- the objects at the end of a unit
abbrev pub finished_objects : State → Ruled (Unit {0} × State)
finished_objects s = judged_objects (with_completed s) (with_bounded (with_completed s))
