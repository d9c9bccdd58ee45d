-- Calls of the library on memory and on strings, with arguments of their kinds.
use Rattle.std.proofs.Common.{ℕ, Bool, true, false, pos, List, [], ◌∷◌, Option, cond, ◌+◌, ◌*◌, ◌||◌}
use Rattle.c_layout.specs.declared.data_model.Model.{Model}
use Rattle.cc_base.specs.declared.diagnostics.Rule.TheVariants as rule
use Rattle.memory_model.specs.Memory.Labels.{no_labels}
use Rattle.memory_model.specs.Memory.Bytes.{MachinePointer, null, into, Content, indeterminate, number}
use Rattle.memory_model.specs.Memory.Instances.{Life, live, ended, freed, life_at}
use Rattle.memory_model.specs.Memory.Scalars.{Scalar, pointer}
use Rattle.memory_model.specs.Effects.Worlds.{World, Reply, goes, stops, done, Left}
use Rattle.memory_model.specs.Effects.LibraryChecks.{Reach, size_of, with_size, bytes_from}
use Rattle.memory_model.specs.Effects.Touches.{is_allocated, storage_at}
use Rattle.memory_model.specs.Effects.AllocationCalls.{untyped, asked_for, allocated_with, if_given, allocate, malloc_bytes, malloc, calloc_bytes, calloc, freeable_by, freeable, free, moved_to, realloc_bytes, realloc}
use Rattle.memory_model.specs.Effects.MemoryCalls.{may_all_come, come_over, with_region, bytes_copied, copy_memory, copy_call, fill_memory, memset}
use Rattle.memory_model.specs.Effects.StringCalls.{further, strlen, written, copy_string, strcpy, fill_padded, copy_padded, strncpy, append_string, strcat, compare_strings, strcmp}
use Rattle.source_items.specs.Operations.Kinds.{Number, Address, IsOf, AreOf}
use Rattle.source_items.proofs.operations.Values.{each_such}
use Rattle.source_items.proofs.operations.Replies.{Answers, Any, then_any, either_answers, unless_answers}
use Rattle.source_items.proofs.operations.Calling.{if_reached, if_measured, if_measured_within, if_fitting, if_writable, if_drawn}

-- ---- allocations

if_given_answers : (b : Bool) (made : World → Reply Scalar) (w : World) → ((w : World) → Answers (IsOf Address) (made w)) → Answers (IsOf Address) (if_given b made w)
if_given_answers true made w h = h w
if_given_answers false made w h = tt

allocate_answers : (m : Model) (size : ℕ) (made : World → Reply Scalar) (w : World) → ((w : World) → Answers (IsOf Address) (made w)) → Answers (IsOf Address) (allocate m size made w)
allocate_answers m size made w h = if_drawn (IsOf Address) w (pos 0) (pos 1) _ (λ answer w. if_given_answers _ made w h)

freeable_by_answers : (w : World) (life : Life) (i offset : ℕ) (r : Reply (Unit {0})) → Answers Any r → Answers Any (freeable_by w life i offset r)
freeable_by_answers w live i offset r a = unless_answers Any w _ rule.Xfree r a
freeable_by_answers w ended i offset r a = tt
freeable_by_answers w freed i offset r a = tt

freeable_answers : (p : MachinePointer) (w : World) → Answers Any (freeable p w)
freeable_answers null w = tt
freeable_answers (into i offset lo hi) w = freeable_by_answers w (life_at w.memory i) i offset (done w) tt

module _ (m : Model) (wanted : Option ℕ) where
  malloc_bytes_answers : (size : ℕ) (w : World) → Answers (IsOf Address) (malloc_bytes m wanted size w)
  malloc_bytes_answers size w = allocate_answers m size (λ w. allocated_with (untyped indeterminate size) w) (asked_for wanted size w) (λ w. tt)

  calloc_bytes_answers : (size : ℕ) (w : World) → Answers (IsOf Address) (calloc_bytes m wanted size w)
  calloc_bytes_answers size w = allocate_answers m size (λ w. allocated_with (untyped (number 0 no_labels) size) w) (asked_for wanted size w) (λ w. tt)

  realloc_bytes_answers : (p : MachinePointer) (size : ℕ) (w : World) → Answers (IsOf Address) (realloc_bytes m wanted p size w)
  realloc_bytes_answers p size w = then_any (IsOf Address) (freeable p (asked_for wanted size w)) _ (freeable_answers p (asked_for wanted size w)) (λ _ w. allocate_answers m size (moved_to size p) w (λ w. tt))

  pub malloc_answers : (vs : List Scalar) (w : World) → AreOf (Number ∷ []) vs → Answers (IsOf Address) (malloc m wanted vs w)
  malloc_answers vs w are = each_such (Number ∷ []) (λ vs. Answers (IsOf Address) (malloc m wanted vs w)) vs are (λ n l. malloc_bytes_answers (size_of n) (with_size w l))

  pub calloc_answers : (vs : List Scalar) (w : World) → AreOf (Number ∷ (Number ∷ [])) vs → Answers (IsOf Address) (calloc m wanted vs w)
  calloc_answers vs w are = each_such (Number ∷ (Number ∷ [])) (λ vs. Answers (IsOf Address) (calloc m wanted vs w)) vs are (λ k s n t. calloc_bytes_answers (size_of k * size_of n) (with_size (with_size w s) t))

  pub realloc_answers : (vs : List Scalar) (w : World) → AreOf (Address ∷ (Number ∷ [])) vs → Answers (IsOf Address) (realloc m wanted vs w)
  realloc_answers vs w are = each_such (Address ∷ (Number ∷ [])) (λ vs. Answers (IsOf Address) (realloc m wanted vs w)) vs are (λ p n l. realloc_bytes_answers p (size_of n) (with_size w l))

pub free_answers : (vs : List Scalar) (w : World) → AreOf (Address ∷ []) vs → Answers Any (free vs w)
free_answers vs w are = each_such (Address ∷ []) (λ vs. Answers Any (free vs w)) vs are (λ p. then_any Any (freeable p w) _ (freeable_answers p w) (λ _ w. tt))

-- ---- memory

bytes_copied_answers : (size : ℕ) (apart : Bool) (p : MachinePointer) (to from : Reach) (w : World) → Answers (IsOf Address) (bytes_copied size apart p to from w)
bytes_copied_answers size apart p to from w =
    let is_allocation : Bool = is_allocated (storage_at w.memory to.spot.instance) in
    let may : Bool = is_allocation || may_all_come (bytes_from w to size) (bytes_from w from size) in
    let copied : Reply Scalar = goes (pointer p) (with_region w to (come_over is_allocation (bytes_from w to size) (bytes_from w from size))) in
    either_answers (IsOf Address) _ (stops Left w) (cond may copied (stops Left w)) tt (either_answers (IsOf Address) may copied (stops Left w) tt tt)

copy_memory_answers : (apart : Bool) (p q : MachinePointer) (size : ℕ) (w : World) → Answers (IsOf Address) (copy_memory apart p q size w)
copy_memory_answers apart p q size w =
    if_reached (IsOf Address) p w _ (λ to w.
    if_reached (IsOf Address) q w _ (λ from w.
    if_fitting (IsOf Address) size to w _ (λ _ w.
    if_fitting (IsOf Address) size from w _ (λ _ w.
    if_writable (IsOf Address) size to w _ (λ _ w.
    bytes_copied_answers size apart p to from w)))))

pub copy_call_answers : (apart : Bool) (vs : List Scalar) (w : World) → AreOf (Address ∷ (Address ∷ (Number ∷ []))) vs → Answers (IsOf Address) (copy_call apart vs w)
copy_call_answers apart vs w are = each_such (Address ∷ (Address ∷ (Number ∷ []))) (λ vs. Answers (IsOf Address) (copy_call apart vs w)) vs are (λ p q n l. copy_memory_answers apart p q _ _)

fill_answers : (p : MachinePointer) (c : Content) (size : ℕ) (w : World) → Answers (IsOf Address) (fill_memory p c size w)
fill_answers p c size w =
    if_reached (IsOf Address) p w _ (λ to w.
    if_fitting (IsOf Address) size to w _ (λ _ w.
    if_writable (IsOf Address) size to w _ (λ _ w.
    tt)))

pub memset_answers : (vs : List Scalar) (w : World) → AreOf (Address ∷ (Number ∷ (Number ∷ []))) vs → Answers (IsOf Address) (memset vs w)
memset_answers vs w are = each_such (Address ∷ (Number ∷ (Number ∷ []))) (λ vs. Answers (IsOf Address) (memset vs w)) vs are (λ p c s n t. fill_answers p _ _ _)

-- ---- strings

pub strlen_answers : (vs : List Scalar) (w : World) → AreOf (Address ∷ []) vs → Answers (IsOf Number) (strlen vs w)
strlen_answers vs w are = each_such (Address ∷ []) (λ vs. Answers (IsOf Number) (strlen vs w)) vs are (λ p. if_reached (IsOf Number) p w _ (λ s w. if_measured (IsOf Number) s w _ (λ n w. tt)))

written_answers : (to : Reach) (size : ℕ) (from : Reach) (room : ℕ) (text : List Content) (p : MachinePointer) (w : World) → Answers (IsOf Address) (written to size from room text (pointer p) w)
written_answers to size from room text p w = either_answers (IsOf Address) _ (stops Left w) (goes (pointer p) _) tt tt

copy_string_answers : (p q : MachinePointer) (w : World) → Answers (IsOf Address) (copy_string p q w)
copy_string_answers p q w =
    if_reached (IsOf Address) p w _ (λ to w.
    if_reached (IsOf Address) q w _ (λ from w.
    if_measured (IsOf Address) from w _ (λ n w.
    if_fitting (IsOf Address) (n + 1) to w _ (λ _ w.
    if_writable (IsOf Address) (n + 1) to w _ (λ _ w.
    written_answers to (n + 1) from (n + 1) _ p w)))))

pub strcpy_answers : (vs : List Scalar) (w : World) → AreOf (Address ∷ (Address ∷ [])) vs → Answers (IsOf Address) (strcpy vs w)
strcpy_answers vs w are = each_such (Address ∷ (Address ∷ [])) (λ vs. Answers (IsOf Address) (strcpy vs w)) vs are (λ p q. copy_string_answers p q w)

fill_padded_answers : (p : MachinePointer) (size n : ℕ) (to from : Reach) (w : World) → Answers (IsOf Address) (fill_padded p size n to from w)
fill_padded_answers p size n to from w = either_answers (IsOf Address) _ (goes (pointer p) w) _ tt (written_answers to size from _ _ p w)

copy_padded_answers : (p q : MachinePointer) (size : ℕ) (w : World) → Answers (IsOf Address) (copy_padded p q size w)
copy_padded_answers p q size w =
    if_reached (IsOf Address) p w _ (λ to w.
    if_reached (IsOf Address) q w _ (λ from w.
    if_measured_within (IsOf Address) size from w _ (λ n w.
    if_fitting (IsOf Address) size to w _ (λ _ w.
    if_writable (IsOf Address) size to w _ (λ _ w.
    fill_padded_answers p size n to from w)))))

pub strncpy_answers : (vs : List Scalar) (w : World) → AreOf (Address ∷ (Address ∷ (Number ∷ []))) vs → Answers (IsOf Address) (strncpy vs w)
strncpy_answers vs w are = each_such (Address ∷ (Address ∷ (Number ∷ []))) (λ vs. Answers (IsOf Address) (strncpy vs w)) vs are (λ p q n l. copy_padded_answers p q _ _)

append_answers : (p q : MachinePointer) (w : World) → Answers (IsOf Address) (append_string p q w)
append_answers p q w =
    if_reached (IsOf Address) p w _ (λ to w.
    if_reached (IsOf Address) q w _ (λ from w.
    if_measured (IsOf Address) to w _ (λ m w.
    if_measured (IsOf Address) from w _ (λ n w.
    if_fitting (IsOf Address) ((m + n) + 1) to w _ (λ _ w.
    if_writable (IsOf Address) ((m + n) + 1) to w _ (λ _ w.
    written_answers (further to m) (n + 1) from (n + 1) _ p w))))))

pub strcat_answers : (vs : List Scalar) (w : World) → AreOf (Address ∷ (Address ∷ [])) vs → Answers (IsOf Address) (strcat vs w)
strcat_answers vs w are = each_such (Address ∷ (Address ∷ [])) (λ vs. Answers (IsOf Address) (strcat vs w)) vs are (λ p q. append_answers p q w)

compare_strings_answers : (p q : MachinePointer) (w : World) → Answers (IsOf Number) (compare_strings p q w)
compare_strings_answers p q w =
    if_reached (IsOf Number) p w _ (λ a w.
    if_reached (IsOf Number) q w _ (λ b w.
    if_measured (IsOf Number) a w _ (λ m w.
    if_measured (IsOf Number) b w _ (λ n w.
    tt))))

pub strcmp_answers : (vs : List Scalar) (w : World) → AreOf (Address ∷ (Address ∷ [])) vs → Answers (IsOf Number) (strcmp vs w)
strcmp_answers vs w are = each_such (Address ∷ (Address ∷ [])) (λ vs. Answers (IsOf Number) (strcmp vs w)) vs are (λ p q. compare_strings_answers p q w)
