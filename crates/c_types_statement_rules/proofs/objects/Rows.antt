-- Worked rows: `int a[2];` behind `extern int a[];` and pointers into it.
use Rattle.std.specs.Prelude.{◌≡◌, refl, ℕ, [], ◌∷◌, Some, None}
use Rattle.cc_base.specs.declared.diagnostics.Place.{Place}
use Rattle.c_layout.specs.Types.{Pointer, Void}
use Rattle.c_layout.specs.CheckedUnits.{StaticView, SetValue}
use Rattle.c_layout.specs.declared.checked_tree.checked_units.StaticValue.{StaticValue}
use Rattle.c_layout.specs.declared.checked_tree.checked_units.StaticValue.TheVariants as value
use Rattle.c_layout.specs.declared.checked_tree.checked_units.StaticBase.TheVariants as base
use Rattle.c_types_scopes.specs.declared.context.StaticInitializer.{StaticInitializer}
use Rattle.c_types_statement_rules.specs.Objects.UnitObjects.{bounded, stores_fit, first_past}

abbrev at : ℕ → Place
at column = record { file = 0; line = 1; col = column }

-- an address in the array, with the bytes that it may reach
abbrev address : ℕ → ℕ → StaticValue
address offset high = value.Address (base.Object 0) offset 0 high

-- a pointer `p` with a static initializer
abbrev pointer : StaticValue → StaticView
pointer v = record { name = 112 ∷ []; at = at 22; ctype = Pointer Void; stores = SetValue 0 v ∷ [] }

-- the initializer of the pointer with a number
abbrev initializer : ℕ → ℕ → StaticInitializer
initializer number column = record { object = number; equals = at column }

-- an address has the bound that its object has in the end
bounded_in_the_end : bounded (8 ∷ []) (address 4 18446744073709551615) ≡ address 4 8
bounded_in_the_end = refl

-- `&a[1]` and `&a[2]` stay within the array
within : first_past (8 ∷ []) (pointer (address 4 8) ∷ pointer (address 8 8) ∷ []) (initializer 0 23 ∷ initializer 1 37 ∷ []) ≡ None
unfolding first_past stores_fit
within = refl

-- `&a[5]` does not
past : first_past (8 ∷ []) (pointer (address 4 8) ∷ pointer (address 20 8) ∷ []) (initializer 0 23 ∷ initializer 1 37 ∷ []) ≡ Some (at 37)
unfolding first_past stores_fit
past = refl

-- nor does an element of it that may be reached up to its end
reaches_past : first_past (8 ∷ []) (pointer (address 4 12) ∷ []) (initializer 0 23 ∷ []) ≡ Some (at 23)
unfolding first_past stores_fit
reaches_past = refl

-- of two that do not the one that is read first is refused, whichever object was declared first
read_first : first_past (8 ∷ []) (pointer (address 20 8) ∷ pointer (address 24 8) ∷ []) (initializer 1 37 ∷ initializer 0 51 ∷ []) ≡ Some (at 37)
unfolding first_past stores_fit
read_first = refl
