-- Worked rows of the sizes of literals: the array of one has at most 2^30 bytes, its closing zero among them.
use Rattle.std.proofs.Common.{◌≡◌, ℕ, true, List, Some, None, refl}
use Rattle.cc_base.specs.declared.diagnostics.Place.{Place}
use Rattle.cc_base.specs.declared.int_types.IntType.{IntType}
use Rattle.c_layout.specs.StructViews.{StructView}
use Rattle.c_layout.specs.Types.{Int, Array}
use Rattle.c_types_rules.specs.Rules.TypeSizes.{sized}
use Rattle.c_types_scopes.specs.Refusals.{type_fault}
use Rattle.c_types_scopes.specs.States.{State}
use Rattle.c_types_primary.specs.Primaries.{literal_of_size}

abbrev character : IntType
character = record { bytes = 1; signed = true; rank = 1 }

at_most : (structs : List StructView) (pointer : ℕ) → sized structs pointer (Array (Int character) 1073741824) ≡ Some 1073741824
at_most structs pointer = refl

one_more : (structs : List StructView) (pointer : ℕ) → sized structs pointer (Array (Int character) 1073741825) ≡ None
one_more structs pointer = refl

too_large : (s : State) (at : Place) (bytes : List ℕ) → literal_of_size s at bytes None ≡ type_fault at
too_large s at bytes = refl
