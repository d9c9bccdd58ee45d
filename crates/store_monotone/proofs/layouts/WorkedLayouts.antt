-- Worked layouts: arrays of structs in one another and structs that double stand apart; two members that share a byte do not,
-- and the leaves of their struct share it.
use Rattle.std.specs.Prelude.{◌≡◌, ℕ, zero, suc, ◌+◌, ◌^◌, ◌≤◌, true, false, List, [], ◌∷◌, refl}
use Rattle.std.proofs.Common.{arith, subst}
use Rattle.c_layout.specs.Types.{Ty, Int, Pointer, Array, Struct}
use Rattle.c_layout.specs.Models.{lp64}
use Rattle.c_layout.specs.StructViews.{FieldView, StructView}
use Rattle.store_cells.specs.AccessWindows.{window_between}
use Rattle.store_structs.specs.LeafNumbers.{member_at, struct_leaf}
use Rattle.store_structs.specs.PaddingWrites.{leaf_bytes}
use Rattle.store_monotone.specs.Structs.SpreadStructs.{padded_in, IsSpread}
use Rattle.store_structs.specs.LaidApart.{are_laid_apart}
use Rattle.store_monotone.proofs.layouts.LaidApart.{apart_spread}

abbrev member : Ty → ℕ → FieldView
member t offset = record { name = []; ctype = t; offset = offset }

abbrev int : Ty
int = Int (record { bytes = 4; signed = true; rank = 3 })

abbrev char : Ty
char = Int (record { bytes = 1; signed = true; rank = 1 })

abbrev struct : List FieldView → ℕ → ℕ → ℕ → ℕ → StructView
struct fields size align leaves plain_leaves = record { fields = fields; complete = true; size = size; align = align; leaves = leaves; plain_leaves = plain_leaves }

-- ---- arrays in one another

-- struct shelf { struct box rows[2][100]; char *name; }; the box is declared behind it
abbrev shelf : StructView
shelf = struct (member (Array (Array (Struct 1) 100) 2) 0 ∷ (member (Pointer char) 3200 ∷ [])) 3208 8 9 801

-- struct box { char mark; int sides[3]; };
abbrev box : StructView
box = struct (member char 0 ∷ (member (Array int 3) 4 ∷ [])) 16 4 4 4

nested_apart : are_laid_apart lp64 (shelf ∷ (box ∷ [])) ≡ true
nested_apart = refl

pub nested_spread : IsSpread lp64 (shelf ∷ (box ∷ [])) 0 shelf
nested_spread = apart_spread lp64 refl (shelf ∷ (box ∷ [])) nested_apart 0 shelf refl

-- ---- structs that double

-- each of so many structs holds the next one twice, so the first has 2^28 leaves where there are 28
abbrev doubled : ℕ → ℕ → List StructView
doubled at zero = struct (member char 0 ∷ []) 1 1 1 1 ∷ []
doubled at (suc left) = struct (member (Struct (at + 1)) 0 ∷ (member (Struct (at + 1)) (2 ^ left) ∷ [])) (2 ^ (left + 1)) 1 (2 ^ (left + 1)) (2 ^ (left + 1)) ∷ doubled (at + 1) left

doubled_apart : are_laid_apart lp64 (doubled 0 28) ≡ true
doubled_apart = refl

-- ---- members that share bytes

-- two numbers of four bytes, the second of which begins at the third byte of the first
abbrev shared : StructView
shared = struct (member int 0 ∷ (member int 2 ∷ [])) 8 4 2 2

shared_refused : are_laid_apart lp64 (shared ∷ []) ≡ false
shared_refused = refl

shared_bytes : leaf_bytes lp64 (padded_in (shared ∷ []) 8 0 shared (window_between 0 0)) (window_between 2 2) ≡ 2
unfolding leaf_bytes struct_leaf member_at
shared_bytes = refl

pub shared_not_spread : IsSpread lp64 (shared ∷ []) 0 shared → ⊥
shared_not_spread h =
    let few = h.bytes (window_between 0 0) 2 (omega arith) in
    let two : 2 ≤ 1 = subst (λ z. z ≤ 1) shared_bytes few in
    absurd (omega arith)
