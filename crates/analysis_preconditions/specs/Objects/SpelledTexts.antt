-- Whether each text is spelled over characters alone.
use Rattle.std.specs.Prelude.{ℕ, ◌+◌, ◌-◌, min, Bool, true, false, not, cond, ◌&&◌, ◌||◌, ◌==◌, nat_lt, Option, Some, None, List, [], ◌∷◌, slice_get}
use Rattle.std.specs.List.{list_all, list_any}
use Rattle.c_layout.specs.declared.leaf_lists.Class.TheVariants.{Char}
use Rattle.c_layout.specs.declared.leaf_lists.Leaf.{Leaf}
use Rattle.c_layout.specs.declared.shapes.BaseInfo.{BaseInfo}
use Rattle.c_layout.specs.declared.shapes.ZeroPart.{ZeroPart}
use Rattle.cfg.specs.BaseShapes.{is_extent, is_place}
use Rattle.cfg.specs.declared.machine_instructions.Operation.{Operation}
use Rattle.cfg.specs.declared.machine_instructions.Operation.TheVariants as op
use Rattle.cfg.specs.declared.programs.Flow.{Flow}

-- the first byte, up to an end, that is not of the characters that stand in a leaf side by side from an offset on
abbrev pub behind_characters : Leaf → ℕ → ℕ → ℕ
behind_characters leaf at end =
    cond (nat_lt at end && is_place Char at leaf) (cond (leaf.stride == 1) (at + min (end - at) (leaf.count - (at - leaf.offset))) (at + 1)) at

-- each byte from an offset up to an end is a character, of leaves in this order
abbrev pub reaches_over : List Leaf → ℕ → ℕ → Bool
reaches_over [] at end = at == end
reaches_over (leaf ∷ leaves) at end = reaches_over leaves (behind_characters leaf at end) end

abbrev pub is_size_of : ℕ → Option ℕ → Bool
is_size_of room None = false
is_size_of room (Some size) = size == room

-- the room is an array whose first zero is followed: it is one of characters
abbrev pub is_followed : ℕ → ℕ → ZeroPart → Bool
is_followed offset room part = (part.offset == offset) && is_size_of room part.size

abbrev pub has_followed : ℕ → ℕ → BaseInfo → Bool
has_followed offset room info = not info.shape.heap && list_any (is_followed offset room) info.shape.zeros

-- room anywhere, of whose leaves each is looked at
abbrev pub has_characters : List Leaf → ℕ → ℕ → Bool
has_characters leaves offset room = (is_extent offset && is_extent room) && reaches_over leaves offset (offset + room)

abbrev pub takes_text : ℕ → ℕ → Option BaseInfo → Bool
takes_text offset room None = true
takes_text offset room (Some info) = has_followed offset room info || has_characters info.shape.cells offset room

-- a text is spelled into room for a character or more, over characters alone
abbrev pub spells_characters : List BaseInfo → Operation → Bool
spells_characters bases (op.Spell base offset room text) = nat_lt 0 room && takes_text offset room (slice_get bases base)
spells_characters bases _ = true

abbrev pub spells_over_characters : Flow → Bool
spells_over_characters flow = list_all (λ b. list_all (λ i. spells_characters flow.bases.items i.operation) b.instructions.items) flow.blocks.items
