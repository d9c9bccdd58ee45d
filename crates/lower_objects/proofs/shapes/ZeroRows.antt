-- First zeros of some types.
use Rattle.std.proofs.Common.{◌≡◌, ℕ, true, List, [], ◌∷◌, refl}
use Rattle.cc_base.specs.declared.int_types.IntType.{IntType}
use Rattle.c_layout.specs.Types.{Ty, Int, Pointer, Array, Struct}
use Rattle.c_layout.specs.StructViews.{FieldView, StructView}
use Rattle.lower_objects.specs.Shapes.FirstZeros.{zeros_within, zero_part}

abbrev char_type : Ty
char_type = Int (record { bytes = 1; signed = true; rank = 1 })

abbrev int_type : Ty
int_type = Int (record { bytes = 4; signed = true; rank = 3 })

abbrev field : Ty → ℕ → FieldView
field t at = record { name = []; ctype = t; offset = at }

abbrev layout : List FieldView → ℕ → StructView
layout fields size = record { fields = fields; complete = true; size = size; align = 4; leaves = 0; plain_leaves = 0 }

-- struct pair { char name[3]; int n; char lines[2][5]; char *end; }
abbrev structs : List StructView
structs = layout (field (Array char_type 3) 0 ∷ field int_type 4 ∷ field (Array (Array char_type 5) 2) 8 ∷ field (Pointer char_type) 20 ∷ []) 24 ∷ []

-- an array of characters has one, however long it is
long_text : zeros_within 2 structs 4 (Array char_type 100) 0 ≡ zero_part 0 100 ∷ []
long_text = refl

no_text : zeros_within 2 structs 4 (Array int_type 3) 0 ≡ []
no_text = refl

-- each line of a short array of lines has its own
one_pair : zeros_within 2 structs 4 (Struct 0) 0 ≡ zero_part 0 3 ∷ zero_part 8 5 ∷ zero_part 13 5 ∷ []
one_pair = refl

two_pairs : zeros_within 2 structs 4 (Array (Struct 0) 2) 0 ≡ zero_part 0 3 ∷ zero_part 8 5 ∷ zero_part 13 5 ∷ zero_part 24 3 ∷ zero_part 32 5 ∷ zero_part 37 5 ∷ []
two_pairs = refl

-- what lies in a folded array has none
folded_pairs : zeros_within 2 structs 4 (Array (Struct 0) 65) 0 ≡ []
folded_pairs = refl
