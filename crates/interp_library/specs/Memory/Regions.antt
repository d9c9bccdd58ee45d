-- Regions of memory that are written.
use Rattle.std.specs.Prelude.{ℕ, Bool, List, Option, Some, None}
use Rattle.c_layout.specs.declared.data_model.Model.{Model}
use Rattle.c_layout.specs.declared.leaf_lists.Leaf.{Leaf}
use Rattle.memory_model.specs.Memory.Bytes.{null, into, Tag, Byte}
use Rattle.memory_model.specs.Memory.Scalars.{Scalar, integer, pointer}
use Rattle.memory_model.specs.Memory.Instances.{bytes_at}
use Rattle.memory_model.specs.Effects.Worlds.{World, with_memory}
use Rattle.memory_model.specs.Effects.ScalarBytes.{region, replaced}
use Rattle.memory_model.specs.Effects.Touches.{Spot, is_allocated, storage_at, set_bytes}
use Rattle.memory_model.specs.Effects.StructCopies.{copied_tag, copied}

-- bytes with their tags in the place of those from a place on
abbrev pub region_written : World → Spot → List Byte → World
region_written w to bytes = with_memory w (set_bytes w.memory to.instance (replaced (bytes_at w.memory to.instance) to.offset bytes))

-- what is written where a struct is copied
abbrev pub copied_region : Model → List Leaf → ℕ → World → Spot → Spot → List Byte
copied_region m leaves size w to from =
    copied m leaves (is_allocated (storage_at w.memory to.instance)) 0 (region (bytes_at w.memory to.instance) to.offset size) (region (bytes_at w.memory from.instance) from.offset size)

-- a byte with the content of another one, where there is one
abbrev pub tagged_over : Byte → Option Byte → Byte
tagged_over to None = to
tagged_over to (Some from) = record to { content = from.content }

-- the same with the tag that it has behind the copy of a struct
abbrev pub copied_byte : Bool → Option Tag → Byte → Option Byte → Byte
copied_byte allocated by to None = to
copied_byte allocated by to (Some from) = record { content = from.content; tag = copied_tag allocated by to.tag }

-- the instance into which a scalar points
abbrev pub instance_at : Scalar → Option ℕ
instance_at (integer n labels) = None
instance_at (pointer null) = None
instance_at (pointer (into i offset lo hi)) = Some i
