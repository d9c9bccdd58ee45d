-- Where leaves share a byte, a larger window may have less padding: of the bytes 3 and 4 the second one is padding, and
-- two leaves have the first one.
use Rattle.std.specs.Prelude.{◌≡◌, ℕ, true, false, [], ◌∷◌, refl}
use Rattle.c_layout.specs.Types.{Int}
use Rattle.c_layout.specs.Models.{lp64}
use Rattle.c_layout.specs.StructViews.{FieldView, StructView}
use Rattle.store_cells.specs.AccessWindows.{window_between}
use Rattle.store_structs.specs.LeafNumbers.{member_at, struct_leaf}
use Rattle.store_structs.specs.PaddingWrites.{Padded, leaf_bytes, has_padding_in}
use Rattle.store_monotone.specs.Structs.SpreadStructs.{padded_in}

abbrev character : ℕ → FieldView
character offset = record { name = []; ctype = Int (record { bytes = 1; signed = true; rank = 1 }); offset = offset }

-- characters at 0, 3 and 3
abbrev shared : StructView
shared = record { fields = character 0 ∷ (character 3 ∷ (character 3 ∷ [])); complete = true; size = 5; align = 1; leaves = 3; plain_leaves = 3 }

abbrev padded : Padded
padded = padded_in (shared ∷ []) 8 0 shared (window_between 0 0)

smaller_has : has_padding_in lp64 padded (window_between 4 4) ≡ true
unfolding has_padding_in leaf_bytes struct_leaf member_at
smaller_has = refl

larger_has_not : has_padding_in lp64 padded (window_between 3 4) ≡ false
unfolding has_padding_in leaf_bytes struct_leaf member_at
larger_has_not = refl
