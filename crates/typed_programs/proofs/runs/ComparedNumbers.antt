-- Comparisons of numbers, and conversions, which keep memory.
use Rattle.std.proofs.Common.{pos, refl}
use Rattle.std.specs.Ordering.{int_eq}
use Rattle.cc_base.specs.declared.integer_operators.Rel.{Rel}
use Rattle.cfg.specs.declared.machine_instructions.Scalar as declared
use Rattle.cfg.specs.declared.machine_instructions.Scalar.TheVariants as of
use Rattle.memory_model.specs.Memory.Bytes.{null}
use Rattle.memory_model.specs.Memory.Scalars.{Scalar, integer, pointer}
use Rattle.memory_model.specs.Effects.Worlds.{World, goes, stops, Stuck}
use Rattle.memory_model.specs.Effects.IntegerEffects.{compare_numbers, pointer_from, convert}
use Rattle.source_preservation.specs.Memory.GoingWorlds.{Keeps, Same}
use Rattle.source_preservation.proofs.memory.Replies.{when_either, when_number}

pub compare_numbers_keeps : (rel : Rel) (left right : Scalar) (w : World) → Keeps w.memory (compare_numbers rel left right w)
compare_numbers_keeps rel left right w = when_number (Same w.memory) left w _ (λ a s _. when_number (Same w.memory) right w _ (λ b t _. refl))

pointer_from_keeps : (v : Scalar) (w : World) → Keeps w.memory (pointer_from v w)
pointer_from_keeps (integer n labels) w = when_either (Same w.memory) (int_eq n (pos 0)) (goes (pointer null) w) (stops Stuck w) refl tt
pointer_from_keeps (pointer p) w = refl

pub convert_keeps : (kind : declared.Scalar) (v : Scalar) (w : World) → Keeps w.memory (convert kind v w)
convert_keeps (of.Int kind) v w = when_number (Same w.memory) v w _ (λ n labels _. refl)
convert_keeps of.Pointer v w = pointer_from_keeps v w
