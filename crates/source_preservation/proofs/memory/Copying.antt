-- Copies and fills of memory: it stays proper, and the first argument is given.
use Rattle.std.proofs.Common.{◌<◌, ℕ, ℤ, pos, negsuc, Bool, true, false, ◌&&◌, ◌||◌, List, [], ◌∷◌, arith, mod-lt}
use Rattle.std.specs.Prelude.{replicate, nat_lt}
use Rattle.c_layout.specs.declared.data_model.Model.{Model}
use Rattle.memory_model.specs.Memory.Bytes.{MachinePointer, Content, number, Byte}
use Rattle.memory_model.specs.Memory.Instances.{bytes_at}
use Rattle.memory_model.specs.Memory.Scalars.{Scalar, integer, pointer}
use Rattle.memory_model.specs.Effects.Worlds.{World, Reply, goes, stops, Left}
use Rattle.memory_model.specs.Effects.ScalarBytes.{bits_in, replaced, refilled}
use Rattle.memory_model.specs.Effects.StructCopies.{overlap}
use Rattle.memory_model.specs.Effects.Touches.{is_allocated, storage_at}
use Rattle.memory_model.specs.Effects.LibraryChecks.{Reach, size_of, with_size, reached, bytes_from, fitting, writable}
use Rattle.memory_model.specs.Effects.MemoryCalls.{may_all_come, come_over, with_region, bytes_copied, copy_memory, copy_call, with_contents, fill_memory, memset}
use Rattle.source_preservation.specs.ValueTyping.Marks.{IsBounded}
use Rattle.source_preservation.specs.ValueTyping.ProperMemory.{IsProper, IsProperMemory, Evolves}
use Rattle.source_preservation.specs.Memory.GoingWorlds.{AreProperScalars, Gives, Given}
use Rattle.source_preservation.proofs.memory.Replies.{when_kept, when_either}
use Rattle.source_preservation.proofs.memory.ProperBytes.{AreProperBytes, AreProperContents, each_same, region_proper, replaced_proper, refilled_proper, replaced_long, refilled_long}
use Rattle.source_preservation.proofs.memory.Evolving.{proper_bytes, set_bytes_evolves}
use Rattle.source_preservation.proofs.memory.Checking.{reached_keeps, fitting_keeps, writable_keeps}

-- a byte that is written is below 256
bits_small : (n : ℤ) → bits_in 1 n < 256
bits_small (pos a) = mod-lt a (omega arith)
bits_small (negsuc a) = omega arith

module _ (m : Model) where
  pub reach_proper : (w : World) (r : Reach) (size : ℕ) → IsProperMemory m w.memory → AreProperBytes m (bytes_from w r size)
  reach_proper w r size proper = region_proper m (bytes_at w.memory r.spot.instance) r.spot.offset size (proper_bytes m w.memory proper r.spot.instance)

  -- ---- copies

  over_proper : (allocated : Bool) (tos froms : List Byte) → AreProperBytes m tos → AreProperBytes m froms → AreProperBytes m (come_over allocated tos froms)
  over_proper true tos froms one other = other
  over_proper false [] [] one other = tt
  over_proper false [] (from ∷ froms) one other = tt
  over_proper false (to ∷ tos) [] one other = one
  over_proper false (to ∷ tos) (from ∷ froms) one other = (other.0, over_proper false tos froms one.1 other.1)

  with_region_evolves : (w : World) (r : Reach) (bytes : List Byte) → (IsProperMemory m w.memory → AreProperBytes m bytes) → Evolves m w.memory (with_region w r bytes).memory
  with_region_evolves w r bytes are = set_bytes_evolves m w.memory r.spot.instance (replaced (bytes_at w.memory r.spot.instance) r.spot.offset bytes) (λ p. replaced_proper m (bytes_at w.memory r.spot.instance) r.spot.offset bytes (proper_bytes m w.memory p r.spot.instance) (are p)) (replaced_long (bytes_at w.memory r.spot.instance) r.spot.offset bytes)

  copied_gives : (size : ℕ) (apart : Bool) (p : MachinePointer) (to from : Reach) (w : World) → IsBounded m p → Gives m w.memory (bytes_copied size apart p to from w)
  copied_gives size apart p to from w is =
      let new : List Byte = come_over (is_allocated (storage_at w.memory to.spot.instance)) (bytes_from w to size) (bytes_from w from size) in
      let copies : Reply Scalar = goes (pointer p) (with_region w to new) in
      when_either (Given m w.memory) (apart && overlap to.spot size from.spot size && nat_lt 0 size) (stops Left w) _ tt
      (when_either (Given m w.memory) (is_allocated (storage_at w.memory to.spot.instance) || may_all_come (bytes_from w to size) (bytes_from w from size)) copies (stops Left w) (is, with_region_evolves w to new (λ proper. over_proper (is_allocated (storage_at w.memory to.spot.instance)) (bytes_from w to size) (bytes_from w from size) (reach_proper w to size proper) (reach_proper w from size proper))) tt)

  copy_memory_gives : (apart : Bool) (p q : MachinePointer) (size : ℕ) (w : World) → IsBounded m p → Gives m w.memory (copy_memory apart p q size w)
  copy_memory_gives apart p q size w is =
      when_kept (Given m) w.memory (reached p w) _ (reached_keeps p w) (λ to w.
      when_kept (Given m) w.memory (reached q w) _ (reached_keeps q w) (λ from w.
      when_kept (Given m) w.memory (fitting size to w) _ (fitting_keeps size to w) (λ _ w.
      when_kept (Given m) w.memory (fitting size from w) _ (fitting_keeps size from w) (λ _ w.
      when_kept (Given m) w.memory (writable size to w) _ (writable_keeps size to w) (λ _ w.
      copied_gives size apart p to from w is)))))

  -- `memcpy` and `memmove`
  pub copy_call_gives : (apart : Bool) (vs : List Scalar) (w : World) → AreProperScalars m vs → Gives m w.memory (copy_call apart vs w)
  copy_call_gives apart [] w are = tt
  copy_call_gives apart (integer n labels ∷ vs) w are = tt
  copy_call_gives apart (pointer p ∷ []) w are = tt
  copy_call_gives apart (pointer p ∷ (integer n labels ∷ vs)) w are = tt
  copy_call_gives apart (pointer p ∷ (pointer q ∷ [])) w are = tt
  copy_call_gives apart (pointer p ∷ (pointer q ∷ (integer n labels ∷ []))) w are = copy_memory_gives apart p q (size_of n) (with_size w labels) are.0
  copy_call_gives apart (pointer p ∷ (pointer q ∷ (integer n labels ∷ (v ∷ vs)))) w are = tt
  copy_call_gives apart (pointer p ∷ (pointer q ∷ (pointer r ∷ vs))) w are = tt

  -- ---- fills

  pub with_contents_evolves : (w : World) (r : Reach) (cs : List Content) → (IsProperMemory m w.memory → AreProperContents m cs) → Evolves m w.memory (with_contents w r cs).memory
  with_contents_evolves w r cs are =
      let e = refilled_long r.spot.offset (bytes_at w.memory r.spot.instance) cs in
      set_bytes_evolves m w.memory r.spot.instance (refilled (bytes_at w.memory r.spot.instance) r.spot.offset cs) (λ p. refilled_proper m (bytes_at w.memory r.spot.instance) r.spot.offset cs (proper_bytes m w.memory p r.spot.instance) (are p)) (omega (arith, e))

  fill_memory_gives : (p : MachinePointer) (c : Content) (size : ℕ) (w : World) → IsBounded m p → IsProper m c → Gives m w.memory (fill_memory p c size w)
  fill_memory_gives p c size w is proper =
      when_kept (Given m) w.memory (reached p w) _ (reached_keeps p w) (λ to w.
      when_kept (Given m) w.memory (fitting size to w) _ (fitting_keeps size to w) (λ _ w.
      when_kept (Given m) w.memory (writable size to w) _ (writable_keeps size to w) (λ _ w.
      (is, with_contents_evolves w to (replicate size c) (λ _. each_same (IsProper m) size c proper)))))

  pub memset_gives : (vs : List Scalar) (w : World) → AreProperScalars m vs → Gives m w.memory (memset vs w)
  memset_gives [] w are = tt
  memset_gives (integer n labels ∷ vs) w are = tt
  memset_gives (pointer p ∷ []) w are = tt
  memset_gives (pointer p ∷ (pointer q ∷ vs)) w are = tt
  memset_gives (pointer p ∷ (integer c s ∷ [])) w are = tt
  memset_gives (pointer p ∷ (integer c s ∷ (integer n t ∷ []))) w are = fill_memory_gives p (number (bits_in 1 c) s) (size_of n) (with_size w t) are.0 (bits_small c)
  memset_gives (pointer p ∷ (integer c s ∷ (integer n t ∷ (v ∷ vs)))) w are = tt
  memset_gives (pointer p ∷ (integer c s ∷ (pointer q ∷ vs))) w are = tt
