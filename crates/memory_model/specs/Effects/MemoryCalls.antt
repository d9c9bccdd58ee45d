-- `memcpy`, `memmove` and `memset` (7.24.2.1, 7.24.2.2, 7.24.6.1).
use Rattle.std.specs.Prelude.{ℕ, Bool, true, false, cond, ◌&&◌, ◌||◌, nat_lt, List, [], ◌∷◌, replicate, Option, Some, None}
use Rattle.c_layout.specs.declared.leaf_lists.Class.TheVariants.{Pointer}
use Rattle.memory_model.specs.Memory.Bytes.{MachinePointer, Content, number, part, Tag, Byte}
use Rattle.memory_model.specs.Memory.Instances.{bytes_at}
use Rattle.memory_model.specs.Memory.Scalars.{Scalar, integer, pointer}
use Rattle.memory_model.specs.Effects.Worlds.{World, Left, Stuck, Reply, goes, stops, behind, with_memory}
use Rattle.memory_model.specs.Effects.ScalarBytes.{bits_in, replaced, refilled}
use Rattle.memory_model.specs.Memory.Tags.{is_tag}
use Rattle.memory_model.specs.Effects.Touches.{is_allocated, storage_at, set_bytes}
use Rattle.memory_model.specs.Effects.StructCopies.{overlap}
use Rattle.memory_model.specs.Effects.LibraryChecks.{Reach, size_of, with_size, reached, bytes_from, fitting, writable}

abbrev pub is_pointer_byte : Option Tag → ℕ → Bool
is_pointer_byte None k = false
is_pointer_byte (Some t) k = is_tag t Pointer k

-- a part of a pointer may come to a byte of a declared object only under its own tag
abbrev pub may_come : Content → Option Tag → Bool
may_come (part p k) tag = is_pointer_byte tag k
may_come c tag = true

abbrev pub may_all_come : List Byte → List Byte → Bool
may_all_come (to ∷ tos) (from ∷ froms) = may_come from.content to.tag && may_all_come tos froms
may_all_come tos froms = true

-- an allocated object takes the tags too
abbrev pub come_over : Bool → List Byte → List Byte → List Byte
come_over true tos froms = froms
come_over false (to ∷ tos) (from ∷ froms) = record to { content = from.content } ∷ come_over false tos froms
come_over false tos froms = tos

abbrev pub with_region : World → Reach → List Byte → World
with_region w r bytes = with_memory w (set_bytes w.memory r.spot.instance (replaced (bytes_at w.memory r.spot.instance) r.spot.offset bytes))

abbrev pub bytes_copied : ℕ → Bool → MachinePointer → Reach → Reach → World → Reply Scalar
bytes_copied size apart p to from w =
    cond (apart && overlap to.spot size from.spot size && nat_lt 0 size) (stops Left w)
    (cond (is_allocated (storage_at w.memory to.spot.instance) || may_all_come (bytes_from w to size) (bytes_from w from size))
    (goes (pointer p) (with_region w to (come_over (is_allocated (storage_at w.memory to.spot.instance)) (bytes_from w to size) (bytes_from w from size))))
    (stops Left w))

-- both pointers, then both rooms, then a write to a literal
abbrev pub copy_memory : Bool → MachinePointer → MachinePointer → ℕ → World → Reply Scalar
copy_memory apart p q size w =
    behind (reached p w) (λ to w.
    behind (reached q w) (λ from w.
    behind (fitting size to w) (λ _ w.
    behind (fitting size from w) (λ _ w.
    behind (writable size to w) (λ _ w.
    bytes_copied size apart p to from w)))))

-- whether the regions have to be apart
abbrev pub copy_call : Bool → List Scalar → World → Reply Scalar
copy_call apart (pointer p ∷ (pointer q ∷ (integer n labels ∷ []))) w = copy_memory apart p q (size_of n) (with_size w labels)
copy_call apart arguments w = stops Stuck w

abbrev pub memcpy : List Scalar → World → Reply Scalar
memcpy = copy_call true

abbrev pub memmove : List Scalar → World → Reply Scalar
memmove = copy_call false

abbrev pub with_contents : World → Reach → List Content → World
with_contents w r cs = with_memory w (set_bytes w.memory r.spot.instance (refilled (bytes_at w.memory r.spot.instance) r.spot.offset cs))

abbrev pub fill_memory : MachinePointer → Content → ℕ → World → Reply Scalar
fill_memory p c size w =
    behind (reached p w) (λ to w.
    behind (fitting size to w) (λ _ w.
    behind (writable size to w) (λ _ w.
    goes (pointer p) (with_contents w to (replicate size c)))))

abbrev pub memset : List Scalar → World → Reply Scalar
memset (pointer p ∷ (integer c s ∷ (integer n t ∷ []))) w = fill_memory p (number (bits_in 1 c) s) (size_of n) (with_size w t)
memset arguments w = stops Stuck w
