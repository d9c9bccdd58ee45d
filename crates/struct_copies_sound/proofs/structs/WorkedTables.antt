-- A struct whose leaves by number are those of its type: `struct pair { int first; int second; };`.
use Rattle.std.proofs.Common.{◌≡◌, ℕ, zero, suc, ◌-◌, ◌≤◌, true, false, cond, Some, None, List, [], ◌∷◌, arith, sym, refl}
use Rattle.std.specs.Prelude.{nat_lt, slice_get}
use Rattle.std.proofs.lemmas.Bool.{le-ltb}
use Rattle.c_layout.specs.Leaves.{leaves_of}
use Rattle.c_layout.specs.Models.{lp64}
use Rattle.c_layout.specs.StructViews.{FieldView, StructView}
use Rattle.c_layout.specs.Types.{Ty, Int, Struct}
use Rattle.store_structs.specs.LeafNumbers.{found_at, at_element, member_at, folded_leaf_by, folded_member, struct_leaf}
use Rattle.struct_copies_sound.specs.Structs.StructTables.{IsNumbered, IsListed}
use Rattle.struct_copies_sound.proofs.structs.ListedStructs.{listed}

abbrev int : Ty
int = Int (record { bytes = 4; signed = true; rank = 3 })

abbrev fields : List FieldView
fields = record { name = []; ctype = int; offset = 0 } ∷ (record { name = []; ctype = int; offset = 4 } ∷ [])

abbrev pair : StructView
pair = record { fields = fields; complete = true; size = 8; align = 4; leaves = 2; plain_leaves = 2 }

abbrev table : List StructView
table = pair ∷ []

no_more : (number : ℕ) → 2 ≤ number → struct_leaf table lp64.pointer 0 number ≡ None
unfolding struct_leaf member_at
no_more number h =
    let a : nat_lt number 1 ≡ false = le-ltb number 1 (omega (arith, h)) in
    let b : nat_lt (number - 1) 1 ≡ false = le-ltb (number - 1) 1 (omega (arith, h)) in
    λ i. at_element (folded_leaf_by 0 (folded_member 0 table lp64.pointer) table lp64.pointer) (found_at fields 0 (cond (a i) (Some (0, number)) (cond (b i) (Some (1, number - 1)) None)))

numbered : IsNumbered lp64 table 0 pair
unfolding leaves_of struct_leaf member_at
numbered = record { numbered = each; counted = refl }
  where
    each : (number : ℕ) → slice_get (leaves_of table lp64.pointer (Struct 0)) number ≡ struct_leaf table lp64.pointer 0 number
    each zero = refl
    each (suc zero) = refl
    each (suc (suc number)) = sym (no_more (suc (suc number)) (omega arith))

pub pair_listed : IsListed lp64 table 0 pair
pair_listed = listed lp64 refl table refl 0 pair refl numbered
