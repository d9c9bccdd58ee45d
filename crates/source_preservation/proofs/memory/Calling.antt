-- All calls of the library: memory stays proper, and so are the values that are given.
use Rattle.std.proofs.Common.{◌≡◌, ◌<◌, ℕ, zero, suc, ℤ, pos, negsuc, unsigned_abs, int_le, true, false, not, ◌&&◌, List, [], ◌∷◌, ◌++◌, Option, refl, ◌∙◌, arith}
use Rattle.std.specs.Prelude.{◌≤ℤ◌, ◌-ℤ◌, int_lt}
use Rattle.std.proofs.lemmas.Bool.{and_parts}
use Rattle.std.proofs.lemmas.Int.{ints}
use Rattle.cc_base.specs.declared.diagnostics.Rule.TheVariants as rule
use Rattle.c_layout.specs.declared.data_model.Model.{Model}
use Rattle.c_layout.specs.declared.library_functions.LibFn.{LibFn}
use Rattle.c_layout.specs.declared.library_functions.LibFn.TheVariants as f
use Rattle.cfg.specs.declared.machine_instructions.Scalar as declared
use Rattle.cfg.specs.declared.machine_instructions.Scalar.TheVariants as of
use Rattle.memory_model.specs.Memory.Labels.{Labels, no_labels}
use Rattle.memory_model.specs.Memory.Bytes.{MachinePointer, Content, number}
use Rattle.memory_model.specs.Memory.Instances.{Memory}
use Rattle.memory_model.specs.Memory.Scalars.{Scalar, integer, pointer}
use Rattle.memory_model.specs.Effects.Worlds.{World, Reply, goes, stops, drawn, Left}
use Rattle.c_layout.specs.CharacterClasses.{lies_in}
use Rattle.memory_model.specs.Effects.CharacterCalls.{answer}
use Rattle.memory_model.specs.Effects.LibraryChecks.{Reach, size_of, with_size, reached, string_length, fitting, writable}
use Rattle.memory_model.specs.Effects.AllocationCalls.{malloc, calloc, realloc, free}
use Rattle.memory_model.specs.Effects.MemoryCalls.{memcpy, memmove, memset}
use Rattle.memory_model.specs.Effects.StringCalls.{strlen, strcpy, strncpy, strcat, strcmp}
use Rattle.memory_model.specs.Effects.LibraryCalls.{getchar, and_character, line_of, line_read, if_read, line_into, fgets, putchar, puts, strings_in, all_scanned, most_int, printf, character_call, with_result, library}
use Rattle.source_items.specs.Operations.Kinds.{Address, IsOf}
use Rattle.source_preservation.specs.ValueTyping.Marks.{Pointing, mark_of, Has, IsBounded}
use Rattle.source_preservation.specs.ValueTyping.ProperMemory.{IsProper, Evolves}
use Rattle.source_preservation.specs.Memory.GoingWorlds.{WhenGoing, IsProperScalar, AreProperScalars, IsProperResult, IsNumeral, Keeps, Tells, Gives, Same, Told, Developed, Given}
use Rattle.source_preservation.proofs.memory.Replies.{when_more, when_behind, when_kept, when_either, when_unless, IsDrawn, drawn_when, drawn_keeps}
use Rattle.source_preservation.proofs.memory.ProperBytes.{AreProperContents, each_both}
use Rattle.source_preservation.proofs.memory.Evolving.{evolves_same, evolves_kept, evolves_further}
use Rattle.source_preservation.proofs.memory.Checking.{reached_keeps, string_length_keeps, fitting_keeps, writable_keeps}
use Rattle.source_preservation.proofs.memory.Allocating.{malloc_gives, calloc_gives, realloc_gives, free_develops}
use Rattle.source_preservation.proofs.memory.Copying.{copy_call_gives, memset_gives, with_contents_evolves}
use Rattle.source_preservation.proofs.memory.Strings.{strlen_tells, strcmp_tells, strcpy_gives, strncpy_gives, strcat_gives}

-- ---- output, and characters

pub getchar_tells : (m : Model) (w : World) → Tells w.memory (getchar m w)
getchar_tells m w = when_kept Told w.memory (drawn w (negsuc 0) (pos 255)) _ (drawn_keeps w (negsuc 0) (pos 255)) (λ c w. (tt, refl))

pub putchar_tells : (vs : List Scalar) (w : World) → Tells w.memory (putchar vs w)
putchar_tells [] w = tt
putchar_tells (integer n labels ∷ []) w = (tt, refl)
putchar_tells (integer n labels ∷ (v ∷ vs)) w = tt
putchar_tells (pointer p ∷ vs) w = tt

puts_pointer : (p : MachinePointer) (w : World) → Tells w.memory (puts (pointer p ∷ []) w)
puts_pointer p w =
    when_kept Told w.memory (reached p w) _ (reached_keeps p w) (λ s w.
    when_kept Told w.memory (string_length s w) _ (string_length_keeps s w) (λ n w. (tt, refl)))

pub puts_tells : (vs : List Scalar) (w : World) → Tells w.memory (puts vs w)
puts_tells [] w = tt
puts_tells (integer n labels ∷ vs) w = tt
puts_tells (pointer p ∷ []) w = puts_pointer p w
puts_tells (pointer p ∷ (v ∷ vs)) w = tt

strings_keep : (vs : List Scalar) (w : World) → Keeps w.memory (strings_in vs w)
strings_keep [] w = refl
strings_keep (integer n labels ∷ vs) w = strings_keep vs w
strings_keep (pointer p ∷ vs) w =
    when_kept (Same {A = List Reach}) w.memory (reached p w) _ (reached_keeps p w) (λ r w.
    when_kept (Same {A = List Reach}) w.memory (strings_in vs w) _ (strings_keep vs w) (λ rs w. refl))

scans_keep : (rs : List Reach) (w : World) → Keeps w.memory (all_scanned rs w)
scans_keep [] w = refl
scans_keep (r ∷ rs) w = when_kept (Same {A = Unit {0}}) w.memory (string_length r w) _ (string_length_keeps r w) (λ n w. scans_keep rs w)

printf_pointer : (m : Model) (p : MachinePointer) (vs : List Scalar) (w : World) → Tells w.memory (printf m (pointer p ∷ vs) w)
printf_pointer m p vs w =
    when_kept Told w.memory (reached p w) _ (reached_keeps p w) (λ _ w.
    when_kept Told w.memory (strings_in vs w) _ (strings_keep vs w) (λ rs w.
    when_kept Told w.memory (all_scanned rs w) _ (scans_keep rs w) (λ _ w.
    when_kept Told w.memory (drawn w (pos 0) (most_int m)) _ (drawn_keeps w (pos 0) (most_int m)) (λ n w. (tt, refl)))))

pub printf_tells : (m : Model) (vs : List Scalar) (w : World) → Tells w.memory (printf m vs w)
printf_tells m [] w = tt
printf_tells m (integer n labels ∷ vs) w = tt
printf_tells m (pointer p ∷ vs) w = printf_pointer m p vs w

answer_numeral : (function : LibFn) (c : ℤ) (labels : Labels) → IsNumeral (answer function c labels)
answer_numeral f.Toupper c labels = tt
answer_numeral f.Tolower c labels = tt
answer_numeral function c labels = tt

pub character_call_tells : (function : LibFn) (vs : List Scalar) (w : World) → Tells w.memory (character_call function vs w)
character_call_tells function [] w = tt
character_call_tells function (integer c labels ∷ []) w = when_unless (Told w.memory) w (not (lies_in (negsuc 0) (pos 255) c)) rule.Chrsgnext (goes (answer function c labels) w) (answer_numeral function c labels, refl)
character_call_tells function (integer c labels ∷ (v ∷ vs)) w = tt
character_call_tells function (pointer p ∷ vs) w = tt

-- ---- lines

-- a character of the outside is below 256
character_small : (c : ℤ) → int_le (pos 0) c && int_le c (pos 255) ≡ true → unsigned_abs c < 256
character_small (pos k) within =
    let e = (and_parts (int_le (pos 0) (pos k)) (int_le (pos k) (pos 255)) within).1 in
    let h : pos k ≤ℤ pos 255 = grind (arith, ints) in
    omega (arith, ints, h)
character_small (negsuc k) within =
    let e = (and_parts (int_le (pos 0) (negsuc k)) (int_le (negsuc k) (pos 255)) within).0 in
    let h : pos 0 ≤ℤ negsuc k = grind (arith, ints) in
    absurd (omega (arith, ints, h))

module _ (m : Model) where
  -- characters that are read, by which memory is as before
  abbrev GivesContents : Memory → List Content → World → Type 0
  GivesContents before cs w = AreProperContents m cs × (w.memory ≡ before)

  pub line_gives : (n : ℕ) (w : World) → WhenGoing (GivesContents w.memory) (line_of m n w)
  line_gives zero w = (tt, refl)
  line_gives (suc n) w = when_behind (IsDrawn w.memory (pos 0) (pos 255)) (GivesContents w.memory) (drawn w (pos 0) (pos 255)) _ (drawn_when w (pos 0) (pos 255)) (λ c after is. when_behind (GivesContents after.memory) (GivesContents w.memory) (line_of m n after) (and_character m c) (line_gives n after) (λ cs last are. ((character_small c is.within, are.0), are.1 ∙ is.same)))

  ended_proper : (cs : List Content) → AreProperContents m cs → AreProperContents m (cs ++ number 0 no_labels ∷ [])
  ended_proper cs are = each_both (IsProper m) cs (number 0 no_labels ∷ []) are (omega arith, tt)

  line_read_gives : (p : MachinePointer) (size : ℕ) (to : Reach) (k : ℤ) (w : World) → IsBounded m p → Gives m w.memory (line_read m p size to k w)
  line_read_gives p size to k w is = when_behind (GivesContents w.memory) (Given m w.memory) (line_of m (unsigned_abs k) w) _ (line_gives (unsigned_abs k) w) (λ cs after are. (is, evolves_further m w.memory after.memory _ (evolves_kept m w.memory after.memory are.1) (with_contents_evolves m after to (cs ++ number 0 no_labels ∷ []) (λ _. ended_proper cs are.0))))

  if_read_gives : (p : MachinePointer) (size : ℕ) (to : Reach) (n : ℤ) (w : World) → IsBounded m p → Gives m w.memory (if_read m p size to n w)
  if_read_gives p size to (pos zero) w is = (tt, evolves_same m w.memory)
  if_read_gives p size to (pos (suc n)) w is = when_kept (Given m) w.memory (drawn w (pos 0) (pos size -ℤ pos 1)) (line_read m p size to) (drawn_keeps w (pos 0) (pos size -ℤ pos 1)) (λ k w. line_read_gives p size to k w is)
  if_read_gives p size to (negsuc n) w is = when_kept (Given m) w.memory (drawn w (pos 0) (pos size -ℤ pos 1)) (line_read m p size to) (drawn_keeps w (pos 0) (pos size -ℤ pos 1)) (λ k w. line_read_gives p size to k w is)

  line_into_gives : (p : MachinePointer) (size : ℕ) (to : Reach) (w : World) → IsBounded m p → Gives m w.memory (line_into m p size to w)
  line_into_gives p size to w is =
      when_kept (Given m) w.memory (fitting size to w) _ (fitting_keeps size to w) (λ _ w.
      when_kept (Given m) w.memory (writable size to w) _ (writable_keeps size to w) (λ _ w.
      when_kept (Given m) w.memory (drawn w (pos 0) (pos 1)) (if_read m p size to) (drawn_keeps w (pos 0) (pos 1)) (λ n w. if_read_gives p size to n w is)))

  fgets_pointer : (p stream : MachinePointer) (n : ℤ) (labels : Labels) (w : World) → IsBounded m p → Gives m w.memory (fgets m (pointer p ∷ (integer n labels ∷ (pointer stream ∷ []))) w)
  fgets_pointer p stream n labels w is = when_kept (Given m) w.memory (reached p (with_size w labels)) _ (reached_keeps p (with_size w labels)) (λ to w. when_either (Given m w.memory) (int_lt n (pos 1)) (stops Left w) (line_into m p (size_of n) to w) tt (line_into_gives p (size_of n) to w is))

  pub fgets_gives : (vs : List Scalar) (w : World) → AreProperScalars m vs → Gives m w.memory (fgets m vs w)
  fgets_gives [] w are = tt
  fgets_gives (integer n labels ∷ vs) w are = tt
  fgets_gives (pointer p ∷ []) w are = tt
  fgets_gives (pointer p ∷ (pointer q ∷ vs)) w are = tt
  fgets_gives (pointer p ∷ (integer n labels ∷ [])) w are = tt
  fgets_gives (pointer p ∷ (integer n labels ∷ (integer k s ∷ vs))) w are = tt
  fgets_gives (pointer p ∷ (integer n labels ∷ (pointer stream ∷ []))) w are = fgets_pointer p stream n labels w are.0
  fgets_gives (pointer p ∷ (integer n labels ∷ (pointer stream ∷ (v ∷ vs)))) w are = tt

  -- ---- all calls

  abbrev GivesResult : Memory → Option Scalar → World → Type 0
  GivesResult before v w = IsProperResult m v × Evolves m before w.memory

  result_gives : (before : Memory) (r : Reply Scalar) → Gives m before r → WhenGoing (GivesResult before) (with_result r)
  result_gives before r h = when_behind (Given m before) (GivesResult before) r _ h (λ v w is. is)

  told_gives : (before : Memory) (r : Reply Scalar) → Tells before r → WhenGoing (GivesResult before) (with_result r)
  told_gives before r h = result_gives before r (when_more (Told before) (Given m before) r (λ v after is. (numeral_proper v is.0, evolves_kept m before after.memory is.1)) h)
    where
      numeral_proper : (v : Scalar) → IsNumeral v → IsProperScalar m v
      numeral_proper (integer n labels) is = tt
      numeral_proper (pointer p) is = absurd is

  pub library_gives : (wanted : Option ℕ) (function : LibFn) (vs : List Scalar) (w : World) → AreProperScalars m vs → WhenGoing (λ v after. IsProperResult m v × Evolves m w.memory after.memory) (library m wanted function vs w)
  library_gives wanted f.Malloc vs w proper = result_gives w.memory (malloc m wanted vs w) (malloc_gives m wanted vs w)
  library_gives wanted f.Calloc vs w proper = result_gives w.memory (calloc m wanted vs w) (calloc_gives m wanted vs w)
  library_gives wanted f.Realloc vs w proper = result_gives w.memory (realloc m wanted vs w) (realloc_gives m wanted vs w)
  library_gives wanted f.Free vs w proper = when_behind (Developed m w.memory) (GivesResult w.memory) (free vs w) _ (free_develops m vs w) (λ _ after is. (tt, is))
  library_gives wanted f.Memcpy vs w proper = result_gives w.memory (memcpy vs w) (copy_call_gives m true vs w proper)
  library_gives wanted f.Memmove vs w proper = result_gives w.memory (memmove vs w) (copy_call_gives m false vs w proper)
  library_gives wanted f.Memset vs w proper = result_gives w.memory (memset vs w) (memset_gives m vs w proper)
  library_gives wanted f.Strlen vs w proper = told_gives w.memory (strlen vs w) (strlen_tells vs w)
  library_gives wanted f.Strcpy vs w proper = result_gives w.memory (strcpy vs w) (strcpy_gives m vs w proper)
  library_gives wanted f.Strncpy vs w proper = result_gives w.memory (strncpy vs w) (strncpy_gives m vs w proper)
  library_gives wanted f.Strcat vs w proper = result_gives w.memory (strcat vs w) (strcat_gives m vs w proper)
  library_gives wanted f.Strcmp vs w proper = told_gives w.memory (strcmp vs w) (strcmp_tells vs w)
  library_gives wanted f.Getchar vs w proper = told_gives w.memory (getchar m w) (getchar_tells m w)
  library_gives wanted f.Fgets vs w proper = result_gives w.memory (fgets m vs w) (fgets_gives vs w proper)
  library_gives wanted f.Putchar vs w proper = told_gives w.memory (putchar vs w) (putchar_tells vs w)
  library_gives wanted f.Puts vs w proper = told_gives w.memory (puts vs w) (puts_tells vs w)
  library_gives wanted f.Printf vs w proper = told_gives w.memory (printf m vs w) (printf_tells m vs w)
  library_gives wanted f.Exit vs w proper = tt
  library_gives wanted f.Abort vs w proper = tt
  library_gives wanted function vs w proper = told_gives w.memory (character_call function vs w) (character_call_tells function vs w)

  -- ---- marks of proper values

  module _ (names : ℕ → Option ℕ) (memory : Memory) where
    pub proper_pointing : (v : Scalar) → Has m names memory Pointing v → IsProperScalar m v
    proper_pointing (integer n labels) has = tt
    proper_pointing (pointer p) has = has

    pub proper_of_type : (kind : declared.Scalar) (v : Scalar) → Has m names memory (mark_of kind) v → IsProperScalar m v
    proper_of_type (of.Int kind) (integer n labels) has = tt
    proper_of_type (of.Int kind) (pointer p) has = absurd has
    proper_of_type of.Pointer v has = proper_pointing v has

    pub pointing_proper : (v : Scalar) → IsOf Address v → IsProperScalar m v → Has m names memory Pointing v
    pointing_proper (integer n labels) is proper = absurd is
    pointing_proper (pointer p) is proper = proper
