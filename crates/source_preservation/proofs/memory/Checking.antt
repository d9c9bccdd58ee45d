-- What calls of the library check keeps memory.
use Rattle.std.proofs.Common.{ℕ, refl}
use Rattle.cc_base.specs.declared.diagnostics.Rule.TheVariants as rule
use Rattle.memory_model.specs.Memory.Bytes.{MachinePointer, null, into}
use Rattle.memory_model.specs.Memory.Instances.{Life, live, ended, freed, life_at}
use Rattle.memory_model.specs.Effects.Worlds.{World, goes}
use Rattle.memory_model.specs.Effects.LibraryChecks.{Reach, reached_by, reached, Scanned, ends, unended, broken, measured, string_length, length_within, fitting, writable}
use Rattle.source_preservation.specs.Memory.GoingWorlds.{Keeps, Same}
use Rattle.source_preservation.proofs.memory.Replies.{when_unless}

reached_by_keeps : (w : World) (life : Life) (i offset hi : ℕ) → Keeps w.memory (reached_by w life i offset hi)
reached_by_keeps w live i offset hi = refl
reached_by_keeps w ended i offset hi = tt
reached_by_keeps w freed i offset hi = tt

pub reached_keeps : (p : MachinePointer) (w : World) → Keeps w.memory (reached p w)
reached_keeps null w = tt
reached_keeps (into i offset lo hi) w = reached_by_keeps w (life_at w.memory i) i offset hi

measured_keeps : (w : World) (s : Scanned) → Keeps w.memory (measured w s)
measured_keeps w (ends n) = refl
measured_keeps w unended = tt
measured_keeps w broken = tt

pub string_length_keeps : (r : Reach) (w : World) → Keeps w.memory (string_length r w)
string_length_keeps r w = measured_keeps w _

pub length_within_keeps : (n : ℕ) (r : Reach) (w : World) → Keeps w.memory (length_within n r w)
length_within_keeps n r w = measured_keeps w _

pub fitting_keeps : (size : ℕ) (r : Reach) (w : World) → Keeps w.memory (fitting size r w)
fitting_keeps size r w = when_unless (Same w.memory) w _ rule.Libptr (goes r w) refl

pub writable_keeps : (size : ℕ) (r : Reach) (w : World) → Keeps w.memory (writable size r w)
writable_keeps size r w = when_unless (Same w.memory) w _ rule.Strmod (goes r w) refl
