-- What calls of the library check, and how they go on.
use Rattle.std.proofs.Common.{ℕ, ℤ}
use Rattle.cc_base.specs.declared.diagnostics.Rule.TheVariants as rule
use Rattle.memory_model.specs.Memory.Bytes.{MachinePointer, null, into}
use Rattle.memory_model.specs.Memory.Instances.{Life, live, ended, freed, life_at}
use Rattle.memory_model.specs.Effects.Worlds.{World, Reply, goes, behind, drawn}
use Rattle.memory_model.specs.Effects.LibraryChecks.{Reach, reached_by, reached, Scanned, ends, unended, broken, measured, string_length, length_within, fitting, writable}
use Rattle.source_items.proofs.operations.Replies.{Answers, Any, then_any, unless_answers, drawn_answers}

reached_by_answers : (w : World) (life : Life) (i offset hi : ℕ) → Answers Any (reached_by w life i offset hi)
reached_by_answers w live i offset hi = tt
reached_by_answers w ended i offset hi = tt
reached_by_answers w freed i offset hi = tt

reached_answers : (p : MachinePointer) (w : World) → Answers Any (reached p w)
reached_answers null w = tt
reached_answers (into i offset lo hi) w = reached_by_answers w (life_at w.memory i) i offset hi

measured_answers : (w : World) (s : Scanned) → Answers Any (measured w s)
measured_answers w (ends n) = tt
measured_answers w unended = tt
measured_answers w broken = tt

module _ {A : Type 0} (P : A → Type 0) where
  -- ---- a pointer is followed, a string measured, room asked for, and then

  pub if_reached : (p : MachinePointer) (w : World) (next : Reach → World → Reply A) → ((r : Reach) (w : World) → Answers P (next r w)) → Answers P (behind (reached p w) next)
  if_reached p w next h = then_any P (reached p w) next (reached_answers p w) h

  pub if_measured : (r : Reach) (w : World) (next : ℕ → World → Reply A) → ((n : ℕ) (w : World) → Answers P (next n w)) → Answers P (behind (string_length r w) next)
  if_measured r w next h = then_any P (string_length r w) next (measured_answers w _) h

  pub if_measured_within : (size : ℕ) (r : Reach) (w : World) (next : ℕ → World → Reply A) → ((n : ℕ) (w : World) → Answers P (next n w)) → Answers P (behind (length_within size r w) next)
  if_measured_within size r w next h = then_any P (length_within size r w) next (measured_answers w _) h

  pub if_fitting : (size : ℕ) (r : Reach) (w : World) (next : Reach → World → Reply A) → ((q : Reach) (w : World) → Answers P (next q w)) → Answers P (behind (fitting size r w) next)
  if_fitting size r w next h = then_any P (fitting size r w) next (unless_answers Any w _ rule.Libptr (goes r w) tt) h

  pub if_writable : (size : ℕ) (r : Reach) (w : World) (next : Reach → World → Reply A) → ((q : Reach) (w : World) → Answers P (next q w)) → Answers P (behind (writable size r w) next)
  if_writable size r w next h = then_any P (writable size r w) next (unless_answers Any w _ rule.Strmod (goes r w) tt) h

  pub if_drawn : (w : World) (least most : ℤ) (next : ℤ → World → Reply A) → ((n : ℤ) (w : World) → Answers P (next n w)) → Answers P (behind (drawn w least most) next)
  if_drawn w least most next h = then_any P (drawn w least most) next (drawn_answers w least most) h
