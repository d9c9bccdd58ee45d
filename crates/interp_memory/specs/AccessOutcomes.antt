-- What accesses of a program come to, as the replies of a step in any world with its memory.
use Rattle.std.specs.Prelude.{ℕ, Bool, cond, List, [], ◌∷◌, Option, Some, None, Result, Ok, Err}
use Rattle.cc_base.specs.declared.diagnostics.Rule.{Rule}
use Rattle.cc_base.specs.declared.diagnostics.Rule.TheVariants as rule
use Rattle.c_layout.specs.declared.data_model.Model.{Model}
use Rattle.c_layout.specs.declared.leaf_lists.Class.{Class}
use Rattle.c_layout.specs.declared.leaf_lists.Class.TheVariants.{Char, Short, Int, Long, LongLong, Pointer}
use Rattle.cfg.specs.declared.machine_instructions.Scalar.TheVariants as of
use Rattle.cfg.specs.declared.machine_instructions.Scalar as declared
use Rattle.memory_model.specs.Memory.ScalarSizes.{class_bytes}
use Rattle.memory_model.specs.Memory.Bytes.{Content, Byte}
use Rattle.memory_model.specs.Memory.Instances.{Memory}
use Rattle.memory_model.specs.Memory.Scalars.{Scalar}
use Rattle.memory_model.specs.Effects.ScalarBytes.{tagged_from, replaced, refilled}
use Rattle.memory_model.specs.Effects.Touches as machine
use Rattle.memory_model.specs.Effects.Worlds.{World, Left, Reply, goes, stops, with_memory, violating, stopped_by}
use Rattle.interp_memory.specs.ByteViews.{scalar_view}
use Rattle.interp_memory.specs.declared.byte_forms.Loaded.{Loaded}
use Rattle.interp_memory.specs.declared.byte_forms.Loaded.TheVariants as loaded
use Rattle.interp_memory.specs.declared.byte_forms.Stored.{Stored}
use Rattle.interp_memory.specs.declared.byte_forms.Stored.TheVariants as stored
use Rattle.interp_memory.specs.declared.byte_forms.Spot.{Spot}

-- ---- the scalar type of a class and a signedness

abbrev pub integer_kind : ℕ → Bool → ℕ → declared.Scalar
integer_kind bytes signed rank = of.Int (record { bytes = bytes; signed = signed; rank = rank })

abbrev pub scalar_kind : Model → Class → Bool → declared.Scalar
scalar_kind m Char signed = integer_kind (class_bytes m Char) signed 1
scalar_kind m Short signed = integer_kind (class_bytes m Short) signed 2
scalar_kind m Int signed = integer_kind (class_bytes m Int) signed 3
scalar_kind m Long signed = integer_kind (class_bytes m Long) signed 4
scalar_kind m LongLong signed = integer_kind (class_bytes m LongLong) signed 5
scalar_kind m Pointer signed = of.Pointer

-- ---- outcomes

abbrev pub spot_view : Spot → machine.Spot
spot_view s = record { instance = s.inst; offset = s.offset }

-- a place that may be accessed, or the rule whose violation stops the run
abbrev pub touch_reply : Result Spot Rule → World → Reply machine.Spot
touch_reply (Ok s) w = goes (spot_view s) w
touch_reply (Err r) w = stopped_by w r

-- the run stops, at a violation where there is one
abbrev pub halted : {A : Type 0} → Option Rule → World → Reply A
halted None w = stops Left w
halted (Some r) w = stopped_by w r

-- a pointer into a freed instance is a violation, behind which the run goes on
abbrev pub loaded_reply : Loaded → World → Reply Scalar
loaded_reply (loaded.Value v) w = goes (scalar_view v) w
loaded_reply (loaded.Freed v) w = goes (scalar_view v) (violating w (rule.Accfree ∷ []))
loaded_reply (loaded.Halt why) w = halted why w

-- a store gives the value that it has stored, in the memory behind it
abbrev pub stored_reply : Stored → Scalar → Memory → World → Reply Scalar
stored_reply stored.Done v memory w = goes v (with_memory w memory)
stored_reply (stored.Halt why) v memory w = halted why w

-- nothing was stored
abbrev pub IsHalt : Stored → Type 0
IsHalt stored.Done = ⊥
IsHalt (stored.Halt why) = Unit {0}

-- bytes with contents in the place of so many, under the tags of a scalar of a class or their own
abbrev pub written_bytes : Bool → Class → List Byte → ℕ → List Content → List Byte
written_bytes tagged class bytes offset cs = cond tagged (replaced bytes offset (tagged_from class 0 cs)) (refilled bytes offset cs)
