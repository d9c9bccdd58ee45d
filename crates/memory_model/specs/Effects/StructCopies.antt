-- Copies of structs (6.5.16.1), byte by byte.
use Rattle.std.specs.Prelude.{ℕ, suc, ◌+◌, Bool, true, false, not, cond, ◌&&◌, ◌||◌, ◌==◌, nat_le, List, [], ◌∷◌, Option, Some, None}
use Rattle.c_layout.specs.declared.data_model.Model.{Model}
use Rattle.c_layout.specs.declared.leaf_lists.Class.TheVariants.{Char}
use Rattle.c_layout.specs.declared.leaf_lists.Leaf.{Leaf}
use Rattle.memory_model.specs.Memory.ScalarSizes.{same_class, is_pointer}
use Rattle.memory_model.specs.Memory.Bytes.{MachinePointer, Content, part, Tag, Byte}
use Rattle.memory_model.specs.Memory.Instances.{bytes_at}
use Rattle.memory_model.specs.Memory.Scalars.{Scalar}
use Rattle.memory_model.specs.Effects.Worlds.{World, Reply, goes, stops, behind, with_memory, Left}
use Rattle.memory_model.specs.Effects.Operands.{with_pointer, as_pointer}
use Rattle.memory_model.specs.Memory.Tags.{fits_tag, or_tag, tag_at}
use Rattle.memory_model.specs.Effects.ScalarBytes.{replaced, region}
use Rattle.memory_model.specs.Effects.Touches.{Spot, touched, is_allocated, storage_at, set_bytes}

-- two regions have a byte in common
abbrev pub overlap : Spot → ℕ → Spot → ℕ → Bool
overlap p size q room = (p.instance == q.instance) && (not (nat_le (p.offset + size) q.offset) && not (nat_le (q.offset + room) p.offset))

abbrev pub same_spot : Spot → Spot → Bool
same_spot p q = (p.instance == q.instance) && (p.offset == q.offset)

-- a byte that a scalar of the struct's type, other than a character, has must be seen as such
abbrev pub fits_leaf : Bool → Option Tag → Byte → Bool
fits_leaf allocated None b = true
fits_leaf allocated (Some t) b = same_class t.class Char || fits_tag allocated t.class t.at b.tag

-- the bytes of one side, from an offset of the struct on
abbrev pub fit_type : Model → List Leaf → Bool → ℕ → List Byte → Bool
fit_type m leaves allocated k [] = true
fit_type m leaves allocated k (b ∷ bs) = fits_leaf allocated (tag_at m leaves k) b && fit_type m leaves allocated (suc k) bs

abbrev pub is_pointer_tag : Option Tag → Bool
is_pointer_tag None = false
is_pointer_tag (Some t) = is_pointer t.class

abbrev pub may_be_copied : Content → Option Tag → Bool
may_be_copied (part p k) tag = is_pointer_tag tag
may_be_copied c tag = true

-- no part of a pointer lies where the struct has no pointer
abbrev pub keeps_parts : Model → List Leaf → ℕ → List Byte → Bool
keeps_parts m leaves k [] = true
keeps_parts m leaves k (b ∷ bs) = may_be_copied b.content (tag_at m leaves k) && keeps_parts m leaves (suc k) bs

abbrev pub copied_tag : Bool → Option Tag → Option Tag → Option Tag
copied_tag allocated by old = cond allocated (or_tag by old) old

-- contents are copied as they are; an allocated object gets the tags of the struct's type
abbrev pub copied : Model → List Leaf → Bool → ℕ → List Byte → List Byte → List Byte
copied m leaves allocated k (to ∷ tos) (from ∷ froms) = record { content = from.content; tag = copied_tag allocated (tag_at m leaves k) to.tag } ∷ copied m leaves allocated (suc k) tos froms
copied m leaves allocated k tos froms = tos

abbrev pub may_copy : Model → List Leaf → ℕ → World → Spot → Spot → Bool
may_copy m leaves size w to from =
    (is_allocated (storage_at w.memory to.instance) || fit_type m leaves false 0 (region (bytes_at w.memory to.instance) to.offset size))
    && (fit_type m leaves (is_allocated (storage_at w.memory from.instance)) 0 (region (bytes_at w.memory from.instance) from.offset size)
    && ((same_spot to from || not (overlap to size from size))
    && keeps_parts m leaves 0 (region (bytes_at w.memory from.instance) from.offset size)))

abbrev pub copy_made : Model → List Leaf → ℕ → World → Spot → Spot → World
copy_made m leaves size w to from =
    with_memory w (set_bytes w.memory to.instance
    (replaced (bytes_at w.memory to.instance) to.offset
    (copied m leaves (is_allocated (storage_at w.memory to.instance)) 0 (region (bytes_at w.memory to.instance) to.offset size) (region (bytes_at w.memory from.instance) from.offset size))))

abbrev pub copy_at : Model → List Leaf → ℕ → MachinePointer → Spot → Spot → World → Reply MachinePointer
copy_at m leaves size p from to w = cond (may_copy m leaves size w to from) (goes p (copy_made m leaves size w to from)) (stops Left w)

-- a struct is copied to where a pointer points to from where another one does; the source is touched first
abbrev pub copy_between : Model → List Leaf → ℕ → MachinePointer → MachinePointer → World → Reply MachinePointer
copy_between m leaves size p q w = behind (touched w q size false) (λ from w. behind (touched w p size true) (copy_at m leaves size p from))

abbrev pub copy_struct : Model → List Leaf → ℕ → Scalar → Scalar → World → Reply Scalar
copy_struct m leaves size to from w = with_pointer to w (λ p w. with_pointer from w (λ q w. as_pointer (copy_between m leaves size p q w)))
