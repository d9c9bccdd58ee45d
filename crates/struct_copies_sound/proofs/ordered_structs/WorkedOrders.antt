-- Tables of structs: nested ones are ordered, whatever their numbers are; circles and members of no type are not.
use Rattle.std.specs.Prelude.{◌≡◌, ℕ, true, false, Some, None, List, [], ◌∷◌, length, refl}
use Rattle.c_layout.specs.Leaves.{leaves_of}
use Rattle.c_layout.specs.Models.{lp64}
use Rattle.c_layout.specs.StructViews.{FieldView, StructView}
use Rattle.c_layout.specs.Types.{Ty, Int, Pointer, Array, Struct, Void}
use Rattle.cfg.specs.StructCounts.{are_counted}
use Rattle.store_structs.specs.LaidApart.{are_laid_apart}
use Rattle.struct_copies_sound.specs.Structs.LostLeaves as lost
use Rattle.struct_copies_sound.specs.OrderedStructs.MadeTables.{Declare, Complete, all_stepped}
use Rattle.analysis_preconditions.specs.StructNesting.OrderedStructs.{are_ordered}

abbrev member : Ty → ℕ → FieldView
member t offset = record { name = []; ctype = t; offset = offset }

abbrev int : Ty
int = Int (record { bytes = 4; signed = true; rank = 3 })

abbrev char : Ty
char = Int (record { bytes = 1; signed = true; rank = 1 })

abbrev struct : List FieldView → ℕ → ℕ → ℕ → ℕ → StructView
struct fields size align leaves plain_leaves = record { fields = fields; complete = true; size = size; align = align; leaves = leaves; plain_leaves = plain_leaves }

-- ---- nested structs

-- struct shelf { struct box { char mark; int sides[3]; } rows[2][100]; struct shelf *next; };
-- the box has the larger number
abbrev shelf : StructView
shelf = struct (member (Array (Array (Struct 1) 100) 2) 0 ∷ (member (Pointer (Struct 0)) 3200 ∷ [])) 3208 8 9 801

abbrev box : StructView
box = struct (member char 0 ∷ (member (Array int 3) 4 ∷ [])) 16 4 4 4

shelf_ordered : are_ordered (shelf ∷ (box ∷ [])) ≡ true
shelf_ordered = refl

-- the box alone has the smaller number
abbrev crate : StructView
crate = struct (member (Struct 0) 0 ∷ []) 16 4 4 4

crate_ordered : are_ordered (box ∷ (crate ∷ [])) ≡ true
crate_ordered = refl

none_ordered : are_ordered [] ≡ true
none_ordered = refl

-- the shelf is declared before its box, and complete behind it
made_table : all_stepped lp64 (Declare ∷ (Declare ∷ (Complete 1 (([], char) ∷ (([], Array int 3) ∷ [])) ∷ (Complete 0 (([], Array (Array (Struct 1) 100) 2) ∷ (([], Pointer (Struct 0)) ∷ [])) ∷ [])))) [] ≡ Some (shelf ∷ (box ∷ []))
made_table = refl

-- no struct gets a member of its own type, nor members twice
own_refused : all_stepped lp64 (Declare ∷ (Complete 0 (([], Struct 0) ∷ []) ∷ [])) [] ≡ None
own_refused = refl

twice_refused : all_stepped lp64 (Declare ∷ (Complete 0 [] ∷ (Complete 0 [] ∷ []))) [] ≡ None
twice_refused = refl

-- ---- tables that checks of units do not make

circle_refused : are_ordered lost.table ≡ false
circle_refused = refl

-- two structs that hold each other
two_refused : are_ordered (struct (member (Struct 1) 0 ∷ []) 0 1 0 0 ∷ (struct (member (Array (Struct 0) 2) 0 ∷ []) 0 1 0 0 ∷ [])) ≡ false
two_refused = refl

-- a member of no type is counted as one leaf, and its list has none
abbrev void : List StructView
void = struct (member Void 0 ∷ []) 0 1 1 1 ∷ []

void_refused : are_ordered void ≡ false
void_refused = refl

void_counted : are_counted void ≡ true
void_counted = refl

void_apart : are_laid_apart lp64 void ≡ true
void_apart = refl

void_empty : length (leaves_of void lp64.pointer (Struct 0)) ≡ 0
unfolding leaves_of
void_empty = refl
