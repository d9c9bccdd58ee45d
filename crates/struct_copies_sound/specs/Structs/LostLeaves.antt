-- Why the leaves of a struct by number are asked to be those of its type: in a table whose structs stand in a circle
-- they are not, and the copy loses a member. Checks of units make no such table; the tests of well-formed programs let
-- it pass.
use Rattle.std.specs.Prelude.{◌≡◌, ℕ, true, Some, None, List, [], ◌∷◌, slice_get}
use Rattle.c_layout.specs.Leaves.{leaves_of}
use Rattle.c_layout.specs.Models.{lp64}
use Rattle.c_layout.specs.StructViews.{FieldView, StructView}
use Rattle.c_layout.specs.Types.{Ty, Int, Struct}
use Rattle.c_layout.specs.declared.leaf_lists.Class.TheVariants as class
use Rattle.c_layout.specs.declared.leaf_lists.Leaf.{Leaf}
use Rattle.cfg.specs.StructCounts.{are_counted}
use Rattle.store_structs.specs.LaidApart.{are_laid_apart}
use Rattle.store_structs.specs.LeafNumbers.{struct_leaf}

abbrev member : Ty → ℕ → FieldView
member t offset = record { name = []; ctype = t; offset = offset }

-- a struct whose only member is of its own type
abbrev circle : StructView
circle = record { fields = member (Struct 0) 0 ∷ []; complete = true; size = 4; align = 4; leaves = 5; plain_leaves = 5 }

-- a member of it, and a character
abbrev pair : StructView
pair = record { fields = member (Struct 0) 0 ∷ (member (Int (record { bytes = 1; signed = true; rank = 1 })) 4 ∷ []); complete = true; size = 8; align = 4; leaves = 6; plain_leaves = 6 }

abbrev pub table : List StructView
table = circle ∷ (pair ∷ [])

abbrev pub character : Leaf
character = record { offset = 4; class = class.Char; signed = true; stride = 1; count = 1 }

pub record LosesLeaf : Type 0 where
  pub counted : are_counted table ≡ true
  pub apart : are_laid_apart lp64 table ≡ true
  -- the machine copies the character, and the copy over rows finds no first leaf and ends
  pub listed : slice_get (leaves_of table lp64.pointer (Struct 1)) 0 ≡ Some character
  pub lost : struct_leaf table lp64.pointer 1 0 ≡ None
