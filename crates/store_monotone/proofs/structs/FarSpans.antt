-- Where the places of a span leave 64 bits, a larger span may reach less: as one window it begins behind the leaf.
use Rattle.std.specs.Prelude.{◌≡◌, ℕ, ◌-◌, ◌^◌, true, false, refl}
use Rattle.c_layout.specs.declared.leaf_lists.Class.TheVariants.{Short}
use Rattle.c_layout.specs.declared.leaf_lists.Leaf.{Leaf}
use Rattle.store_struct_leaves.specs.declared.copy_places.Span.{Span}
use Rattle.store_struct_leaves.specs.CopyPlaces.{several_meet, joined_meet, meets}

-- two places, at 1 and 3
abbrev leaf : Leaf
leaf = record { offset = 1; class = Short; signed = true; stride = 2; count = 2 }

-- from 5 on, with a second first offset or without
abbrev far_span : ℕ → Span
far_span hi = record { first = record { lo = 5; hi = hi }; stride = 2; count = 2 ^ 64 - 1 }

smaller_meets : meets leaf (far_span 5) ≡ true
unfolding meets joined_meet several_meet
smaller_meets = refl

larger_does_not : meets leaf (far_span 6) ≡ false
unfolding meets joined_meet several_meet
larger_does_not = refl
