-- The shapes of bases: leaves that stand apart, first zeros that lie over characters alone, and sites of
-- allocations whose two bases have one shape.
use Rattle.std.specs.Prelude.{ℕ, ◌+◌, ◌*◌, ◌-◌, ◌/◌, ◌%◌, ◌^◌, Bool, true, false, not, cond, ◌&&◌, ◌||◌, ◌==◌, nat_le, nat_lt, List, [], ◌∷◌, Option, Some, None, is_none}
use Rattle.std.specs.List.{list_all, list_any}
use Rattle.c_layout.specs.declared.data_model.Model.{Model}
use Rattle.c_layout.specs.declared.leaf_lists.Class.{Class}
use Rattle.c_layout.specs.declared.leaf_lists.Class.TheVariants.{Char}
use Rattle.c_layout.specs.declared.leaf_lists.Leaf.{Leaf}
use Rattle.c_layout.specs.declared.shapes.BaseInfo.{BaseInfo}
use Rattle.c_layout.specs.declared.shapes.BaseKind.{BaseKind}
use Rattle.c_layout.specs.declared.shapes.BaseKind.TheVariants.{Static, Automatic, Literal, Newest, Older}
use Rattle.c_layout.specs.declared.shapes.ZeroPart.{ZeroPart}
use Rattle.cfg.specs.ModelKinds.{class_bytes, same_class}

-- an offset, a size or a scale
abbrev pub is_extent : ℕ → Bool
is_extent n = nat_le n (2 ^ 30)

-- so many bytes from an offset on end at a limit or before it
abbrev pub ends_by : ℕ → ℕ → ℕ → Bool
ends_by at size limit = nat_le at limit && nat_le size (limit - at)

-- ---- leaves

-- the first byte behind the first place of a leaf, and behind the last element of its array
abbrev pub leaf_end : Model → Leaf → ℕ
leaf_end m l = l.offset + class_bytes m l.class

abbrev pub array_end : Leaf → ℕ
array_end l = l.offset + l.stride * l.count

abbrev pub has_extents : Leaf → Bool
has_extents l = is_extent l.offset && (is_extent l.stride && is_extent l.count)

-- what stands once is as far apart as it is long, and what stands more often no nearer
abbrev pub is_stride : Model → Leaf → Bool
is_stride m l = cond (l.count == 1) (l.stride == class_bytes m l.class) (nat_le (class_bytes m l.class) l.stride)

-- behind all that stands before: the first leaf of an element
abbrev pub is_behind : Leaf → Leaf → Bool
is_behind first l = nat_le (array_end first) l.offset

-- in the same element as the first leaf, behind the bytes that its other leaves take
abbrev pub is_beside : Model → Leaf → ℕ → Leaf → Bool
is_beside m first taken l =
    ((l.stride == first.stride) && (l.count == first.count)) && (nat_le taken l.offset && nat_le (leaf_end m l) (first.offset + first.stride))

abbrev pub is_apart : Model → ℕ → Leaf → ℕ → Leaf → Bool
is_apart m room first taken l = cond (is_behind first l) (nat_lt 0 l.count && nat_le (array_end l) room) (is_beside m first taken l)

abbrev pub follows : Model → ℕ → Leaf → ℕ → Leaf → Bool
follows m room first taken l = (has_extents l && is_stride m l) && is_apart m room first taken l

-- the first leaf of the element that a leaf stands in
abbrev pub first_of : Leaf → Leaf → Leaf
first_of first l = cond (is_behind first l) l first

-- leaves in ascending order, each element of a folded array behind the one before, up to the end of the room:
-- so no two of them share a byte
abbrev pub are_apart : Model → ℕ → Leaf → ℕ → List Leaf → Bool
are_apart m room first taken [] = true
are_apart m room first taken (l ∷ ls) = follows m room first taken l && are_apart m room (first_of first l) (leaf_end m l) ls

-- what stands before all leaves
abbrev pub nowhere : Leaf
nowhere = record { offset = 0; class = Char; signed = false; stride = 0; count = 0 }

abbrev pub are_leaves : Model → ℕ → List Leaf → Bool
are_leaves m room ls = are_apart m room nowhere 0 ls

-- ---- first zeros

abbrev pub size_or_none : Option ℕ → ℕ
size_or_none None = 0
size_or_none (Some size) = size

abbrev pub part_size : ZeroPart → ℕ
part_size p = size_or_none p.size

-- parts in ascending order, each behind the one before, up to the end of the room
abbrev pub are_parts : ℕ → ℕ → List ZeroPart → Bool
are_parts room from [] = true
are_parts room from (p ∷ ps) = (nat_le from p.offset && ends_by p.offset (part_size p) room) && are_parts room (p.offset + part_size p) ps

-- a leaf of characters side by side that goes on with a part of which so many bytes lie over leaves before it
abbrev pub goes_on : ZeroPart → ℕ → Leaf → Bool
goes_on p done l =
    (ends_by p.offset done l.offset && ((l.offset - p.offset == done) && ends_by done l.count (part_size p))) && (same_class l.class Char && (l.stride == 1))

-- parts that lie over characters alone, from their first byte to their last one, of the first of which so many
-- bytes lie over leaves before these
abbrev pub lie_over : ℕ → List Leaf → List ZeroPart → Bool
lie_over done ls [] = true
lie_over done [] (p ∷ ps) = false
lie_over done (l ∷ ls) (p ∷ ps) =
    cond (nat_lt l.offset p.offset) (lie_over done ls (p ∷ ps))
    (goes_on p done l && cond (done + l.count == part_size p) (lie_over 0 ls ps) (lie_over (done + l.count) ls (p ∷ ps)))

-- the one part of a heap base, which has no size
abbrev pub is_whole_part : ZeroPart → Bool
is_whole_part p = (p.offset == 0) && is_none p.size

abbrev pub are_whole : List ZeroPart → Bool
are_whole [] = false
are_whole (p ∷ []) = is_whole_part p
are_whole (p ∷ (q ∷ ps)) = false

-- ---- bases

abbrev pub is_heap : BaseKind → Bool
is_heap Static = false
is_heap Automatic = false
is_heap Literal = false
is_heap Newest = true
is_heap Older = true

abbrev pub is_single : Leaf → Bool
is_single l = l.count == 1

-- an instance of an allocation begins with leaves of which none is folded, and is one part
abbrev pub is_heap_base : Model → BaseInfo → Bool
is_heap_base m b = (b.shape.heap && (b.size == 0)) && (are_leaves m (2 ^ 30) b.shape.cells && (list_all is_single b.shape.cells && are_whole b.shape.zeros))

-- the leaves and parts of an object lie within its size
abbrev pub is_declared_base : Model → BaseInfo → Bool
is_declared_base m b = (not b.shape.heap && is_extent b.size) && (are_leaves m b.size b.shape.cells && (are_parts b.size 0 b.shape.zeros && lie_over 0 b.shape.cells b.shape.zeros))

abbrev pub is_shaped : Model → BaseInfo → Bool
is_shaped m b = cond (is_heap b.kind) (is_heap_base m b) (is_declared_base m b)

-- ---- sites

abbrev pub same_truth : Bool → Bool → Bool
same_truth true b = b
same_truth false b = not b

abbrev pub same_leaf : Leaf → Leaf → Bool
same_leaf a b = ((a.offset == b.offset) && same_class a.class b.class) && (same_truth a.signed b.signed && ((a.stride == b.stride) && (a.count == b.count)))

abbrev pub same_leaves : List Leaf → List Leaf → Bool
same_leaves [] [] = true
same_leaves [] (y ∷ ys) = false
same_leaves (x ∷ xs) [] = false
same_leaves (x ∷ xs) (y ∷ ys) = same_leaf x y && same_leaves xs ys

abbrev pub is_newest_kind : BaseKind → Bool
is_newest_kind Newest = true
is_newest_kind _ = false

abbrev pub is_older_kind : BaseKind → Bool
is_older_kind Older = true
is_older_kind _ = false

-- a newest base has its older one behind it, of the same shape
abbrev pub has_older : BaseInfo → List BaseInfo → Bool
has_older b [] = false
has_older b (c ∷ cs) = is_older_kind c.kind && same_leaves b.shape.cells c.shape.cells

abbrev pub is_paired : Bool → BaseInfo → List BaseInfo → Bool
is_paired newest b bs = same_truth (is_older_kind b.kind) newest && (not (is_newest_kind b.kind) || has_older b bs)

-- newest and older bases stand in pairs
abbrev pub are_sites : Bool → List BaseInfo → Bool
are_sites newest [] = true
are_sites newest (b ∷ bs) = is_paired newest b bs && are_sites (is_newest_kind b.kind) bs

abbrev pub are_shaped : Model → List BaseInfo → Bool
are_shaped m bases = list_all (is_shaped m) bases && are_sites false bases

-- ---- places in a base

-- a part is the room that a text is spelled into, or no byte of it is
abbrev pub is_room_or_apart : ℕ → ℕ → ZeroPart → Bool
is_room_or_apart at room p = ((p.offset == at) && (part_size p == room)) || (ends_by p.offset (part_size p) at || ends_by at room p.offset)

-- a text is spelled into the object, and into one whole part or beside all of them
abbrev pub has_room : ℕ → ℕ → Option BaseInfo → Bool
has_room at room None = false
has_room at room (Some b) = ends_by at room b.size && list_all (is_room_or_apart at room) b.shape.zeros

-- a scalar of a class at an offset is a place of the leaf
abbrev pub is_place : Class → ℕ → Leaf → Bool
is_place c at l =
    same_class c l.class && (nat_lt 0 l.stride && (nat_le l.offset at && (((at - l.offset) % l.stride == 0) && nat_lt ((at - l.offset) / l.stride) l.count)))

abbrev pub has_place : Class → ℕ → Option BaseInfo → Bool
has_place c at None = false
has_place c at (Some b) = list_any (is_place c at) b.shape.cells
