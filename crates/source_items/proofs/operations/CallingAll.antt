-- All calls of the library, with arguments that they accept.
use Rattle.std.proofs.Common.{◌≡◌, ℕ, zero, suc, ℤ, pos, negsuc, Bool, true, false, List, [], ◌∷◌, Option, Some, None, sym, subst, unsigned_abs}
use Rattle.c_layout.specs.declared.data_model.Model.{Model}
use Rattle.c_layout.specs.declared.library_functions.LibFn.{LibFn}
use Rattle.c_layout.specs.declared.library_functions.LibFn.TheVariants as f
use Rattle.cc_base.specs.declared.diagnostics.Rule.TheVariants as rule
use Rattle.memory_model.specs.Memory.Bytes.{MachinePointer}
use Rattle.memory_model.specs.Memory.Labels.{Labels}
use Rattle.memory_model.specs.Memory.Scalars.{Scalar, integer, pointer}
use Rattle.memory_model.specs.Effects.Worlds.{World, Reply, goes, stops, Left}
use Rattle.memory_model.specs.Effects.LibraryChecks.{Reach}
use Rattle.memory_model.specs.Effects.AllocationCalls.{malloc, calloc, realloc, free}
use Rattle.memory_model.specs.Effects.MemoryCalls.{memcpy, memmove, memset}
use Rattle.memory_model.specs.Effects.StringCalls.{strlen, strcpy, strncpy, strcat, strcmp}
use Rattle.memory_model.specs.Effects.CharacterCalls.{answer}
use Rattle.memory_model.specs.Effects.LibraryCalls.{getchar, line_of, line_read, if_read, line_into, fgets, putchar, puts, strings_in, all_scanned, most_int, printf, character_call, with_result, library}
use Rattle.lower_expressions.specs.Calls.{gives}
use Rattle.source_items.specs.Operations.Kinds.{Kind, Number, Address, IsOf, AreOf}
use Rattle.source_items.specs.Operations.TakenKinds.{Accepts, result_kind}
use Rattle.source_items.proofs.operations.Values.{each_such}
use Rattle.source_items.proofs.operations.Replies.{Answers, Any, answers_behind, then_any, either_answers, unless_answers}
use Rattle.source_items.proofs.operations.Calling.{if_reached, if_measured, if_fitting, if_writable, if_drawn}
use Rattle.source_items.proofs.operations.CallingMemory.{malloc_answers, calloc_answers, realloc_answers, free_answers, copy_call_answers, memset_answers, strlen_answers, strcpy_answers, strncpy_answers, strcat_answers, strcmp_answers}

-- ---- input

module _ (m : Model) where
  getchar_answers : (w : World) → Answers (IsOf Number) (getchar m w)
  getchar_answers w = if_drawn (IsOf Number) w (negsuc 0) (pos 255) _ (λ c w. tt)

  line_answers : (n : ℕ) (w : World) → Answers Any (line_of m n w)
  line_answers zero w = tt
  line_answers (suc n) w = if_drawn Any w (pos 0) (pos 255) _ (λ c w. then_any Any (line_of m n w) _ (line_answers n w) (λ cs w. tt))

  line_read_answers : (p : MachinePointer) (size : ℕ) (to : Reach) (k : ℤ) (w : World) → Answers (IsOf Address) (line_read m p size to k w)
  line_read_answers p size to k w = then_any (IsOf Address) (line_of m (unsigned_abs k) w) _ (line_answers (unsigned_abs k) w) (λ cs w. tt)

  if_read_answers : (p : MachinePointer) (size : ℕ) (to : Reach) (n : ℤ) (w : World) → Answers (IsOf Address) (if_read m p size to n w)
  if_read_answers p size to (pos zero) w = tt
  if_read_answers p size to (pos (suc n)) w = if_drawn (IsOf Address) w (pos 0) _ _ (λ k w. line_read_answers p size to k w)
  if_read_answers p size to (negsuc n) w = if_drawn (IsOf Address) w (pos 0) _ _ (λ k w. line_read_answers p size to k w)

  line_into_answers : (p : MachinePointer) (size : ℕ) (to : Reach) (w : World) → Answers (IsOf Address) (line_into m p size to w)
  line_into_answers p size to w =
      if_fitting (IsOf Address) size to w _ (λ _ w.
      if_writable (IsOf Address) size to w _ (λ _ w.
      if_drawn (IsOf Address) w (pos 0) (pos 1) _ (λ n w.
      if_read_answers p size to n w)))

  pub fgets_answers : (vs : List Scalar) (w : World) → AreOf (Address ∷ (Number ∷ (Address ∷ []))) vs → Answers (IsOf Address) (fgets m vs w)
  fgets_answers vs w are = each_such (Address ∷ (Number ∷ (Address ∷ []))) (λ vs. Answers (IsOf Address) (fgets m vs w)) vs are (λ p n l stream. if_reached (IsOf Address) p _ _ (λ to w. either_answers (IsOf Address) _ (stops Left w) _ tt (line_into_answers p _ to w)))

-- ---- output

putchar_answers : (vs : List Scalar) (w : World) → AreOf (Number ∷ []) vs → Answers (IsOf Number) (putchar vs w)
putchar_answers vs w are = each_such (Number ∷ []) (λ vs. Answers (IsOf Number) (putchar vs w)) vs are (λ c l. tt)

puts_answers : (vs : List Scalar) (w : World) → AreOf (Address ∷ []) vs → Answers (IsOf Number) (puts vs w)
puts_answers vs w are = each_such (Address ∷ []) (λ vs. Answers (IsOf Number) (puts vs w)) vs are (λ p. if_reached (IsOf Number) p w _ (λ s w. if_measured (IsOf Number) s w _ (λ n w. tt)))

strings_answer : (vs : List Scalar) (w : World) → Answers Any (strings_in vs w)
strings_answer [] w = tt
strings_answer (integer n l ∷ vs) w = strings_answer vs w
strings_answer (pointer p ∷ vs) w = if_reached Any p w _ (λ r w. then_any Any (strings_in vs w) _ (strings_answer vs w) (λ rs w. tt))

scanned_answer : (rs : List Reach) (w : World) → Answers Any (all_scanned rs w)
scanned_answer [] w = tt
scanned_answer (r ∷ rs) w = if_measured Any r w _ (λ n w. scanned_answer rs w)

printf_answers : (m : Model) (more : List Kind) (vs : List Scalar) (w : World) → AreOf (Address ∷ more) vs → Answers (IsOf Number) (printf m vs w)
printf_answers m more [] w are = absurd are
printf_answers m more (integer n l ∷ vs) w are = absurd are.0
printf_answers m more (pointer p ∷ vs) w are =
    if_reached (IsOf Number) p w _ (λ _ w.
    then_any (IsOf Number) (strings_in vs w) _ (strings_answer vs w) (λ rs w.
    then_any (IsOf Number) (all_scanned rs w) _ (scanned_answer rs w) (λ _ w.
    if_drawn (IsOf Number) w (pos 0) (most_int m) _ (λ n w. tt))))

-- ---- characters

answer_is : (function : LibFn) (c : ℤ) (l : Labels) → IsOf Number (answer function c l)
answer_is f.Toupper c l = tt
answer_is f.Tolower c l = tt
answer_is function c l = tt

character_answers : (function : LibFn) (vs : List Scalar) (w : World) → AreOf (Number ∷ []) vs → Answers (IsOf Number) (character_call function vs w)
character_answers function vs w are = each_such (Number ∷ []) (λ vs. Answers (IsOf Number) (character_call function vs w)) vs are (λ c l. unless_answers (IsOf Number) w _ rule.Chrsgnext (goes (answer function c l) w) (answer_is function c l))

-- ---- all

-- a value of its kind where the function gives one, else none
abbrev pub IsResult : Bool → Kind → Option Scalar → Type 0
IsResult true k (Some v) = IsOf k v
IsResult false k None = Unit {0}
IsResult given k o = ⊥

result_answers : (k : Kind) (r : Reply Scalar) → Answers (IsOf k) r → Answers (IsResult true k) (with_result r)
result_answers k r a = answers_behind (IsResult true k) (IsOf k) r _ a (λ v w is. is)

module _ (m : Model) (wanted : Option ℕ) where
  abbrev Called : LibFn → List Kind → Type 0
  Called function ks = (vs : List Scalar) (w : World) → AreOf ks vs → Answers (IsResult (gives function) (result_kind function)) (library m wanted function vs w)

  -- of arguments of such kinds
  module _ (function : LibFn) (ks them : List Kind) where
    moved : them ≡ ks → Called function ks → Called function them
    moved is called = subst (Called function) (sym is) called

  pub library_answers : (function : LibFn) (ks : List Kind) → Accepts function ks → Called function ks
  library_answers f.Malloc ks is = moved f.Malloc _ ks is (λ vs w are. result_answers Address (malloc m wanted vs w) (malloc_answers m wanted vs w are))
  library_answers f.Calloc ks is = moved f.Calloc _ ks is (λ vs w are. result_answers Address (calloc m wanted vs w) (calloc_answers m wanted vs w are))
  library_answers f.Realloc ks is = moved f.Realloc _ ks is (λ vs w are. result_answers Address (realloc m wanted vs w) (realloc_answers m wanted vs w are))
  library_answers f.Free ks is = moved f.Free _ ks is (λ vs w are. then_any (IsResult false Number) (free vs w) _ (free_answers vs w are) (λ _ w. tt))
  library_answers f.Memcpy ks is = moved f.Memcpy _ ks is (λ vs w are. result_answers Address (memcpy vs w) (copy_call_answers true vs w are))
  library_answers f.Memmove ks is = moved f.Memmove _ ks is (λ vs w are. result_answers Address (memmove vs w) (copy_call_answers false vs w are))
  library_answers f.Memset ks is = moved f.Memset _ ks is (λ vs w are. result_answers Address (memset vs w) (memset_answers vs w are))
  library_answers f.Strlen ks is = moved f.Strlen _ ks is (λ vs w are. result_answers Number (strlen vs w) (strlen_answers vs w are))
  library_answers f.Strcpy ks is = moved f.Strcpy _ ks is (λ vs w are. result_answers Address (strcpy vs w) (strcpy_answers vs w are))
  library_answers f.Strncpy ks is = moved f.Strncpy _ ks is (λ vs w are. result_answers Address (strncpy vs w) (strncpy_answers vs w are))
  library_answers f.Strcat ks is = moved f.Strcat _ ks is (λ vs w are. result_answers Address (strcat vs w) (strcat_answers vs w are))
  library_answers f.Strcmp ks is = moved f.Strcmp _ ks is (λ vs w are. result_answers Number (strcmp vs w) (strcmp_answers vs w are))
  library_answers f.Getchar ks is = moved f.Getchar _ ks is (λ vs w are. result_answers Number (getchar m w) (getchar_answers m w))
  library_answers f.Fgets ks is = moved f.Fgets _ ks is (λ vs w are. result_answers Address (fgets m vs w) (fgets_answers m vs w are))
  library_answers f.Putchar ks is = moved f.Putchar _ ks is (λ vs w are. result_answers Number (putchar vs w) (putchar_answers vs w are))
  library_answers f.Puts ks is = moved f.Puts _ ks is (λ vs w are. result_answers Number (puts vs w) (puts_answers vs w are))
  library_answers f.Printf ks is = moved f.Printf (Address ∷ is.0) ks is.1 (λ vs w are. result_answers Number (printf m vs w) (printf_answers m is.0 vs w are))
  library_answers f.Exit ks is = λ vs w are. tt
  library_answers f.Abort ks is = λ vs w are. tt
  library_answers character ks is = moved character _ ks is (λ vs w are. result_answers Number (character_call character vs w) (character_answers character vs w are))
