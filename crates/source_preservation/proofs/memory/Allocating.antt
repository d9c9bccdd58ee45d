-- Allocations: what they do to memory, and that the pointers that they give are bounded.
use Rattle.std.proofs.Common.{◌≡◌, ◌≤◌, ◌-◌, ◌*◌, ℕ, zero, suc, pos, Bool, true, false, not, ◌&&◌, List, [], ◌∷◌, length, take, Option, None, refl, ap, arith, length-append}
use Rattle.std.specs.Prelude.{nat_le, replicate}
use Rattle.std.specs.Ordering.{int_eq}
use Rattle.std.proofs.lemmas.Bool.{and_parts, leb-true}
use Rattle.std.proofs.lemmas.List.{length-take}
use Rattle.cc_base.specs.declared.diagnostics.Rule.TheVariants as rule
use Rattle.c_layout.specs.declared.data_model.Model.{Model}
use Rattle.memory_model.specs.Memory.Labels.{no_labels}
use Rattle.memory_model.specs.Memory.Bytes.{MachinePointer, null, into, Content, indeterminate, number, Byte}
use Rattle.memory_model.specs.Memory.Instances.{allocated, Life, live, ended, freed, Memory, life_at}
use Rattle.memory_model.specs.Memory.Scalars.{Scalar, integer, pointer}
use Rattle.memory_model.specs.Effects.Worlds.{World, Reply, behind, done, drawn}
use Rattle.memory_model.specs.Effects.ObjectEffects.{fresh, with_instance}
use Rattle.memory_model.specs.Effects.LibraryChecks.{size_of, with_size, most_size}
use Rattle.memory_model.specs.Effects.AllocationCalls.{untyped, asked_for, allocated_with, if_given, allocate, malloc_bytes, malloc, calloc_bytes, calloc, is_start, freeable_by, freeable, given_back, free, resized, old_bytes, moved_to, realloc_bytes, realloc}
use Rattle.source_preservation.specs.ValueTyping.ProperMemory.{IsProper, IsProperMemory, Evolves}
use Rattle.source_preservation.specs.Memory.GoingWorlds.{Keeps, Develops, Gives, Same, Developed, Given}
use Rattle.source_preservation.proofs.memory.Replies.{when_kept, when_unless, drawn_keeps}
use Rattle.source_preservation.proofs.memory.ProperBytes.{AreProperBytes, IsProperByte, each_taken, each_both, each_same}
use Rattle.source_preservation.proofs.memory.Evolving.{proper_bytes, grows_further, evolves_same, with_instance_grows, with_instance_evolves, set_life_evolves}

repeated_long : {A : Type 0} (n : ℕ) (x : A) → length (replicate n x) ≡ n
repeated_long zero x = refl
repeated_long (suc n) x = ap suc (repeated_long n x)

untyped_long : (c : Content) (size : ℕ) → length (untyped c size) ≡ size
untyped_long c size = repeated_long size (record { content = c; tag = None })

resized_long : (bytes : List Byte) (size : ℕ) → length (resized bytes size) ≡ size
resized_long bytes size = let e = untyped_long indeterminate (size - length bytes) in simp (length-append, length-take) (omega (arith, e))

-- ---- what may be freed

freeable_by_keeps : (w : World) (life : Life) (i offset : ℕ) (r : Reply (Unit {0})) → Keeps w.memory r → Keeps w.memory (freeable_by w life i offset r)
freeable_by_keeps w live i offset r h = when_unless (Same w.memory) w (not (is_start w.memory i offset)) rule.Xfree r h
freeable_by_keeps w ended i offset r h = tt
freeable_by_keeps w freed i offset r h = tt

freeable_keeps : (p : MachinePointer) (w : World) → Keeps w.memory (freeable p w)
freeable_keeps null w = refl
freeable_keeps (into i offset lo hi) w = freeable_by_keeps w (life_at w.memory i) i offset (done w) refl

module _ (m : Model) where
  untyped_proper : (c : Content) (size : ℕ) → IsProper m c → AreProperBytes m (untyped c size)
  untyped_proper c size is = each_same (IsProperByte m) size (record { content = c; tag = None }) is

  -- ---- an instance is made

  with_bytes_gives : (bytes : List Byte) (w : World) → (IsProperMemory m w.memory → AreProperBytes m bytes) → length bytes ≤ most_size m → Gives m w.memory (allocated_with bytes w)
  with_bytes_gives bytes w are small = (record { below = omega arith; end = small }, with_instance_evolves m w (fresh allocated bytes) are)

  if_given_gives : (b : Bool) (made : World → Reply Scalar) (w : World) → (b ≡ true → Gives m w.memory (made w)) → Gives m w.memory (if_given b made w)
  if_given_gives true made w h = h refl
  if_given_gives false made w h = (tt, evolves_same m w.memory)

  allocate_gives : (size : ℕ) (made : World → Reply Scalar) (w : World) → ((w : World) → size ≤ most_size m → Gives m w.memory (made w)) → Gives m w.memory (allocate m size made w)
  allocate_gives size made w h = when_kept (Given m) w.memory (drawn w (pos 0) (pos 1)) _ (drawn_keeps w (pos 0) (pos 1)) (λ answer after. if_given_gives (int_eq answer (pos 1) && nat_le size (most_size m)) made after (λ e. h after (leb-true size (most_size m) (and_parts (int_eq answer (pos 1)) (nat_le size (most_size m)) e).1)))

  untyped_gives : (c : Content) (size : ℕ) (w : World) → IsProper m c → size ≤ most_size m → Gives m w.memory (allocated_with (untyped c size) w)
  untyped_gives c size w is small = let e = untyped_long c size in with_bytes_gives (untyped c size) w (λ _. untyped_proper c size is) (omega (arith, e, small))

  malloc_bytes_gives : (wanted : Option ℕ) (size : ℕ) (w : World) → Gives m w.memory (malloc_bytes m wanted size w)
  malloc_bytes_gives wanted size w = allocate_gives size (λ w. allocated_with (untyped indeterminate size) w) (asked_for wanted size w) (λ after small. untyped_gives indeterminate size after tt small)

  pub malloc_gives : (wanted : Option ℕ) (vs : List Scalar) (w : World) → Gives m w.memory (malloc m wanted vs w)
  malloc_gives wanted [] w = tt
  malloc_gives wanted (integer n labels ∷ []) w = malloc_bytes_gives wanted (size_of n) (with_size w labels)
  malloc_gives wanted (integer n labels ∷ (v ∷ vs)) w = tt
  malloc_gives wanted (pointer p ∷ vs) w = tt

  calloc_bytes_gives : (wanted : Option ℕ) (size : ℕ) (w : World) → Gives m w.memory (calloc_bytes m wanted size w)
  calloc_bytes_gives wanted size w = allocate_gives size (λ w. allocated_with (untyped (number 0 no_labels) size) w) (asked_for wanted size w) (λ after small. untyped_gives (number 0 no_labels) size after (omega arith) small)

  pub calloc_gives : (wanted : Option ℕ) (vs : List Scalar) (w : World) → Gives m w.memory (calloc m wanted vs w)
  calloc_gives wanted [] w = tt
  calloc_gives wanted (integer k s ∷ []) w = tt
  calloc_gives wanted (integer k s ∷ (integer n t ∷ [])) w = calloc_bytes_gives wanted (size_of k * size_of n) (with_size (with_size w s) t)
  calloc_gives wanted (integer k s ∷ (integer n t ∷ (v ∷ vs))) w = tt
  calloc_gives wanted (integer k s ∷ (pointer p ∷ vs)) w = tt
  calloc_gives wanted (pointer p ∷ vs) w = tt

  -- ---- an instance is given back

  given_back_evolves : (p : MachinePointer) (w : World) → Evolves m w.memory (given_back p w).memory
  given_back_evolves null w = evolves_same m w.memory
  given_back_evolves (into i offset lo hi) w = set_life_evolves m w.memory i freed

  free_pointer : (p : MachinePointer) (w : World) → Develops m w.memory (behind (freeable p w) (λ _ w. done (given_back p w)))
  free_pointer p w = when_kept (Developed m) w.memory (freeable p w) _ (freeable_keeps p w) (λ _ after. given_back_evolves p after)

  pub free_develops : (vs : List Scalar) (w : World) → Develops m w.memory (free vs w)
  free_develops [] w = tt
  free_develops (integer n labels ∷ vs) w = tt
  free_develops (pointer p ∷ []) w = free_pointer p w
  free_develops (pointer p ∷ (v ∷ vs)) w = tt

  -- ---- another size

  old_proper : (memory : Memory) (p : MachinePointer) → IsProperMemory m memory → AreProperBytes m (old_bytes memory p)
  old_proper memory null proper = tt
  old_proper memory (into i offset lo hi) proper = proper_bytes m memory proper i

  resized_proper : (bytes : List Byte) (size : ℕ) → AreProperBytes m bytes → AreProperBytes m (resized bytes size)
  resized_proper bytes size are = each_both (IsProperByte m) (take size bytes) (untyped indeterminate (size - length bytes)) (each_taken (IsProperByte m) size bytes are) (untyped_proper indeterminate (size - length bytes) tt)

  moved_gives : (size : ℕ) (p : MachinePointer) (w : World) → size ≤ most_size m → Gives m w.memory (moved_to size p w)
  moved_gives size p w small =
      let bytes : List Byte = resized (old_bytes w.memory p) size in
      let e : length bytes ≡ size = resized_long (old_bytes w.memory p) size in
      (record { below = omega arith; end = omega (arith, e, small) }, evolved bytes (λ proper. resized_proper (old_bytes w.memory p) size (old_proper w.memory p proper)))
    where
      evolved : (bytes : List Byte) → (IsProperMemory m w.memory → AreProperBytes m bytes) → Evolves m w.memory (with_instance (given_back p w) (fresh allocated bytes)).memory
      evolved bytes are = record {
        proper = λ proper. (with_instance_evolves m (given_back p w) (fresh allocated bytes) (λ _. are proper)).proper ((given_back_evolves p w).proper proper);
        grows = grows_further w.memory (given_back p w).memory _ (given_back_evolves p w).grows (with_instance_grows (given_back p w) (fresh allocated bytes));
      }

  realloc_bytes_gives : (wanted : Option ℕ) (p : MachinePointer) (size : ℕ) (w : World) → Gives m w.memory (realloc_bytes m wanted p size w)
  realloc_bytes_gives wanted p size w = when_kept (Given m) w.memory (freeable p (asked_for wanted size w)) _ (freeable_keeps p (asked_for wanted size w)) (λ _ after. allocate_gives size (moved_to size p) after (λ now small. moved_gives size p now small))

  pub realloc_gives : (wanted : Option ℕ) (vs : List Scalar) (w : World) → Gives m w.memory (realloc m wanted vs w)
  realloc_gives wanted [] w = tt
  realloc_gives wanted (integer n labels ∷ vs) w = tt
  realloc_gives wanted (pointer p ∷ []) w = tt
  realloc_gives wanted (pointer p ∷ (integer n labels ∷ [])) w = realloc_bytes_gives wanted p (size_of n) (with_size w labels)
  realloc_gives wanted (pointer p ∷ (integer n labels ∷ (v ∷ vs))) w = tt
  realloc_gives wanted (pointer p ∷ (pointer q ∷ vs)) w = tt
