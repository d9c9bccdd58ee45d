-- Functions on strings: memory stays proper, and the first argument is given.
use Rattle.std.proofs.Common.{◌+◌, ◌-◌, ℕ, List, [], ◌∷◌, take, refl, arith}
use Rattle.std.specs.Prelude.{◌==◌, min, replicate}
use Rattle.c_layout.specs.declared.data_model.Model.{Model}
use Rattle.memory_model.specs.Memory.Labels.{no_labels}
use Rattle.memory_model.specs.Memory.Bytes.{MachinePointer, Content, number}
use Rattle.memory_model.specs.Memory.Scalars.{Scalar, integer, pointer}
use Rattle.memory_model.specs.Effects.Worlds.{World, goes, stops, Left}
use Rattle.memory_model.specs.Effects.ScalarBytes.{contents}
use Rattle.memory_model.specs.Effects.StructCopies.{overlap}
use Rattle.memory_model.specs.Effects.LibraryChecks.{Reach, size_of, with_size, reached, bytes_from, string_length, length_within, fitting, writable}
use Rattle.memory_model.specs.Effects.MemoryCalls.{with_contents}
use Rattle.memory_model.specs.Effects.StringCalls.{strlen, written, copy_string, strcpy, padded, fill_padded, copy_padded, strncpy, further, append_string, strcat, compare_strings, strcmp}
use Rattle.source_preservation.specs.ValueTyping.Marks.{IsBounded}
use Rattle.source_preservation.specs.ValueTyping.ProperMemory.{IsProper, IsProperMemory}
use Rattle.source_preservation.specs.Memory.GoingWorlds.{IsProperScalar, AreProperScalars, Tells, Gives, Told, Given}
use Rattle.source_preservation.proofs.memory.Replies.{when_kept, when_either}
use Rattle.source_preservation.proofs.memory.ProperBytes.{AreProperContents, each_taken, each_both, each_same, contents_proper}
use Rattle.source_preservation.proofs.memory.Evolving.{evolves_same}
use Rattle.source_preservation.proofs.memory.Checking.{reached_keeps, string_length_keeps, length_within_keeps, fitting_keeps, writable_keeps}
use Rattle.source_preservation.proofs.memory.Copying.{reach_proper, with_contents_evolves}

-- ---- what only reads

strlen_pointer : (p : MachinePointer) (w : World) → Tells w.memory (strlen (pointer p ∷ []) w)
strlen_pointer p w =
    when_kept Told w.memory (reached p w) _ (reached_keeps p w) (λ s w.
    when_kept Told w.memory (string_length s w) _ (string_length_keeps s w) (λ n w. (tt, refl)))

pub strlen_tells : (vs : List Scalar) (w : World) → Tells w.memory (strlen vs w)
strlen_tells [] w = tt
strlen_tells (integer n labels ∷ vs) w = tt
strlen_tells (pointer p ∷ []) w = strlen_pointer p w
strlen_tells (pointer p ∷ (v ∷ vs)) w = tt

compare_strings_tells : (p q : MachinePointer) (w : World) → Tells w.memory (compare_strings p q w)
compare_strings_tells p q w =
    when_kept Told w.memory (reached p w) _ (reached_keeps p w) (λ a w.
    when_kept Told w.memory (reached q w) _ (reached_keeps q w) (λ b w.
    when_kept Told w.memory (string_length a w) _ (string_length_keeps a w) (λ m w.
    when_kept Told w.memory (string_length b w) _ (string_length_keeps b w) (λ n w. (tt, refl)))))

pub strcmp_tells : (vs : List Scalar) (w : World) → Tells w.memory (strcmp vs w)
strcmp_tells [] w = tt
strcmp_tells (integer n labels ∷ vs) w = tt
strcmp_tells (pointer p ∷ []) w = tt
strcmp_tells (pointer p ∷ (integer n labels ∷ vs)) w = tt
strcmp_tells (pointer p ∷ (pointer q ∷ [])) w = compare_strings_tells p q w
strcmp_tells (pointer p ∷ (pointer q ∷ (v ∷ vs))) w = tt

module _ (m : Model) where
  -- what is read of proper memory
  read_proper : (w : World) (r : Reach) (size : ℕ) → IsProperMemory m w.memory → AreProperContents m (contents (bytes_from w r size))
  read_proper w r size proper = contents_proper m (bytes_from w r size) (reach_proper m w r size proper)

  written_gives : (to : Reach) (size : ℕ) (from : Reach) (room : ℕ) (text : List Content) (v : Scalar) (w : World) → IsProperScalar m v → (IsProperMemory m w.memory → AreProperContents m text) → Gives m w.memory (written to size from room text v w)
  written_gives to size from room text v w is are = when_either (Given m w.memory) (overlap to.spot size from.spot room) (stops Left w) (goes v (with_contents w to text)) tt (is, with_contents_evolves m w to text are)

  -- ---- copies

  copy_string_gives : (p q : MachinePointer) (w : World) → IsBounded m p → Gives m w.memory (copy_string p q w)
  copy_string_gives p q w is =
      when_kept (Given m) w.memory (reached p w) _ (reached_keeps p w) (λ to w.
      when_kept (Given m) w.memory (reached q w) _ (reached_keeps q w) (λ from w.
      when_kept (Given m) w.memory (string_length from w) _ (string_length_keeps from w) (λ n w.
      when_kept (Given m) w.memory (fitting (n + 1) to w) _ (fitting_keeps (n + 1) to w) (λ _ w.
      when_kept (Given m) w.memory (writable (n + 1) to w) _ (writable_keeps (n + 1) to w) (λ _ w.
      written_gives to (n + 1) from (n + 1) (contents (bytes_from w from (n + 1))) (pointer p) w is (λ proper. read_proper w from (n + 1) proper))))))

  pub strcpy_gives : (vs : List Scalar) (w : World) → AreProperScalars m vs → Gives m w.memory (strcpy vs w)
  strcpy_gives [] w are = tt
  strcpy_gives (integer n labels ∷ vs) w are = tt
  strcpy_gives (pointer p ∷ []) w are = tt
  strcpy_gives (pointer p ∷ (integer n labels ∷ vs)) w are = tt
  strcpy_gives (pointer p ∷ (pointer q ∷ [])) w are = copy_string_gives p q w are.0
  strcpy_gives (pointer p ∷ (pointer q ∷ (v ∷ vs))) w are = tt

  padded_proper : (text : List Content) (characters size : ℕ) → AreProperContents m text → AreProperContents m (padded text characters size)
  padded_proper text characters size are = each_both (IsProper m) (take characters text) (replicate (size - characters) (number 0 no_labels)) (each_taken (IsProper m) characters text are) (each_same (IsProper m) (size - characters) (number 0 no_labels) (omega arith))

  fill_padded_gives : (p : MachinePointer) (size n : ℕ) (to from : Reach) (w : World) → IsBounded m p → Gives m w.memory (fill_padded p size n to from w)
  fill_padded_gives p size n to from w is =
      let text : List Content = padded (contents (bytes_from w from n)) n size in
      when_either (Given m w.memory) (size == 0) (goes (pointer p) w) (written to size from (min size (n + 1)) text (pointer p) w) (is, evolves_same m w.memory) (written_gives to size from (min size (n + 1)) text (pointer p) w is (λ proper. padded_proper (contents (bytes_from w from n)) n size (read_proper w from n proper)))

  copy_padded_gives : (p q : MachinePointer) (size : ℕ) (w : World) → IsBounded m p → Gives m w.memory (copy_padded p q size w)
  copy_padded_gives p q size w is =
      when_kept (Given m) w.memory (reached p w) _ (reached_keeps p w) (λ to w.
      when_kept (Given m) w.memory (reached q w) _ (reached_keeps q w) (λ from w.
      when_kept (Given m) w.memory (length_within size from w) _ (length_within_keeps size from w) (λ n w.
      when_kept (Given m) w.memory (fitting size to w) _ (fitting_keeps size to w) (λ _ w.
      when_kept (Given m) w.memory (writable size to w) _ (writable_keeps size to w) (λ _ w.
      fill_padded_gives p size n to from w is)))))

  pub strncpy_gives : (vs : List Scalar) (w : World) → AreProperScalars m vs → Gives m w.memory (strncpy vs w)
  strncpy_gives [] w are = tt
  strncpy_gives (integer n labels ∷ vs) w are = tt
  strncpy_gives (pointer p ∷ []) w are = tt
  strncpy_gives (pointer p ∷ (integer n labels ∷ vs)) w are = tt
  strncpy_gives (pointer p ∷ (pointer q ∷ [])) w are = tt
  strncpy_gives (pointer p ∷ (pointer q ∷ (integer n labels ∷ []))) w are = copy_padded_gives p q (size_of n) (with_size w labels) are.0
  strncpy_gives (pointer p ∷ (pointer q ∷ (integer n labels ∷ (v ∷ vs)))) w are = tt
  strncpy_gives (pointer p ∷ (pointer q ∷ (pointer r ∷ vs))) w are = tt

  append_string_gives : (p q : MachinePointer) (w : World) → IsBounded m p → Gives m w.memory (append_string p q w)
  append_string_gives p q w is =
      when_kept (Given m) w.memory (reached p w) _ (reached_keeps p w) (λ to w.
      when_kept (Given m) w.memory (reached q w) _ (reached_keeps q w) (λ from w.
      when_kept (Given m) w.memory (string_length to w) _ (string_length_keeps to w) (λ k w.
      when_kept (Given m) w.memory (string_length from w) _ (string_length_keeps from w) (λ n w.
      when_kept (Given m) w.memory (fitting ((k + n) + 1) to w) _ (fitting_keeps ((k + n) + 1) to w) (λ _ w.
      when_kept (Given m) w.memory (writable ((k + n) + 1) to w) _ (writable_keeps ((k + n) + 1) to w) (λ _ w.
      written_gives (further to k) (n + 1) from (n + 1) (contents (bytes_from w from (n + 1))) (pointer p) w is (λ proper. read_proper w from (n + 1) proper)))))))

  pub strcat_gives : (vs : List Scalar) (w : World) → AreProperScalars m vs → Gives m w.memory (strcat vs w)
  strcat_gives [] w are = tt
  strcat_gives (integer n labels ∷ vs) w are = tt
  strcat_gives (pointer p ∷ []) w are = tt
  strcat_gives (pointer p ∷ (integer n labels ∷ vs)) w are = tt
  strcat_gives (pointer p ∷ (pointer q ∷ [])) w are = append_string_gives p q w are.0
  strcat_gives (pointer p ∷ (pointer q ∷ (v ∷ vs))) w are = tt
