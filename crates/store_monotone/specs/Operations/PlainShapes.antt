-- Bases without folded arrays: leaves of one place each, one behind the other, and parts so too.
use Rattle.std.specs.Prelude.{ℕ, ◌+◌, ◌^◌, ◌==◌, Bool, true, ◌&&◌, nat_lt, nat_le, Option, Some, None, List, [], ◌∷◌}
use Rattle.c_layout.specs.declared.data_model.Model.{Model}
use Rattle.c_layout.specs.declared.leaf_lists.Leaf.{Leaf}
use Rattle.c_layout.specs.declared.shapes.BaseInfo.{BaseInfo}
use Rattle.c_layout.specs.declared.shapes.ZeroPart.{ZeroPart}
use Rattle.store_cells.specs.ScalarTypes.{class_bytes}

-- leaves of one place each, each behind the one before
abbrev pub are_single : Model → ℕ → List Leaf → Bool
are_single m from [] = true
are_single m from (leaf ∷ leaves) = (leaf.count == 1) && ((leaf.stride == class_bytes m leaf.class) && (nat_le from leaf.offset && (nat_lt 0 leaf.stride && (nat_le leaf.stride 8 && are_single m (leaf.offset + leaf.stride) leaves))))

-- where the bytes of a part end; a part of no size is the last one
abbrev pub end_of : ZeroPart → Option ℕ → ℕ
end_of part None = part.offset + 2 ^ 64
end_of part (Some size) = part.offset + size

-- parts each behind the one before
abbrev pub are_behind : ℕ → List ZeroPart → Bool
are_behind from [] = true
are_behind from (part ∷ parts) = nat_le from part.offset && are_behind (end_of part part.size) parts

-- a base without folded arrays
abbrev pub is_plain : Model → BaseInfo → Bool
is_plain m base = are_single m 0 base.shape.cells && are_behind 0 base.shape.zeros
