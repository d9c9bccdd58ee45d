-- Contents that are put in the place of others.
use Rattle.std.specs.Prelude.{◌≡◌, ℕ, List, [], ◌∷◌, Result, Ok, Err}
use Rattle.c_layout.specs.CheckedUnits.{StaticStoreView, StaticView, LiteralView, UnitView}
use Rattle.memory_model.specs.Memory.Bytes.{Content}
use Rattle.memory_model.specs.Memory.Instances.{bytes_at}
use Rattle.memory_model.specs.Effects.ScalarBytes.{refilled}
use Rattle.memory_model.specs.Effects.Touches.{set_bytes}
use Rattle.memory_model.specs.Effects.ObjectEffects.{with_instance}
use Rattle.memory_model.specs.Effects.UnitStarts.{stored, static_instance, literal_made}
use Rattle.memory_model.specs.Effects.Worlds.{World, with_memory}
use Rattle.interp_memory.specs.InstanceViews.{Instances, remembering}
use Rattle.interp_memory.specs.declared.byte_forms.Spot.{Spot}
use Rattle.interp_accesses.specs.declared.worlds.Halt.{Halt}
use Rattle.interp_accesses.specs.declared.worlds.Halt.TheVariants as halt

abbrev pub rewritten : Instances → Spot → List Content → Instances
rewritten it at cs = remembering it (set_bytes it.memory at.inst (refilled (bytes_at it.memory at.inst) at.offset cs))

-- memory is as expected, unless memory ran out
abbrev pub Becomes : Instances → Result (Unit {0}) Halt → Instances → Type 0
Becomes expected (Ok x) now = now ≡ expected
Becomes expected (Err h) now = h ≡ halt.Memory

-- the world behind a store of an initializer to an instance
abbrev pub store_put : UnitView → StaticStoreView → ℕ → World → World
store_put u x i w = with_memory w (set_bytes w.memory i (stored u x (bytes_at w.memory i)))

-- the world behind stores of an initializer, in order
abbrev pub stores_put : UnitView → List StaticStoreView → ℕ → World → World
stores_put u [] i w = w
stores_put u (x ∷ xs) i w = stores_put u xs i (store_put u x i w)

-- objects of static storage that are made one after the other, and literals
abbrev pub objects_made : UnitView → List StaticView → World → World
objects_made u [] w = w
objects_made u (o ∷ os) w = objects_made u os (with_instance w (static_instance u o))

abbrev pub literals_made : List LiteralView → World → World
literals_made [] w = w
literals_made (l ∷ ls) w = literals_made ls (with_instance w (literal_made l))
