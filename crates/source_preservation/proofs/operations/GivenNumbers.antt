-- The numbers that calls of the library give.
use Rattle.std.proofs.Common.{◌≡◌, ◌≤◌, ◌+◌, ℕ, zero, suc, Bool, true, false, not, Option, Some, None, List, [], ◌∷◌, length, arith, refl, sym, ◌∙◌}
use Rattle.std.specs.Prelude.{ℤ, pos, negsuc, ◌≤ℤ◌, ◌+ℤ◌, ◌-ℤ◌, int_le, nat_lt}
use Rattle.std.proofs.lemmas.Bool.{and_parts, cond_both}
use Rattle.std.proofs.lemmas.Int.{ints}
use Rattle.cc_base.specs.declared.diagnostics.Rule.TheVariants as rule
use Rattle.c_layout.specs.declared.data_model.Model.{Model}
use Rattle.c_layout.specs.declared.library_functions.LibFn.{LibFn}
use Rattle.c_layout.specs.declared.library_functions.LibFn.TheVariants as f
use Rattle.memory_model.specs.Memory.Labels.{Labels}
use Rattle.memory_model.specs.Memory.Bytes.{MachinePointer, null, into, Content, indeterminate, number, part}
use Rattle.memory_model.specs.Memory.Instances.{Life, live, ended, freed, bytes_at, life_at}
use Rattle.memory_model.specs.Memory.Scalars.{Scalar, integer, pointer}
use Rattle.memory_model.specs.Effects.Worlds.{World, Reply, goes, stops, stopped_by, behind, drawn}
use Rattle.memory_model.specs.Effects.ScalarBytes.{contents}
use Rattle.memory_model.specs.Effects.IntegerEffects.{truth}
use Rattle.memory_model.specs.Effects.LibraryChecks.{most_size, Reach, reached_by, reached, bytes_from, Scanned, ends, unended, broken, one_further, scanned, measured, string_length}
use Rattle.c_layout.specs.CharacterClasses.{lies_in, is_lower, is_upper}
use Rattle.memory_model.specs.Effects.CharacterCalls.{answer}
use Rattle.memory_model.specs.Effects.AllocationCalls.{malloc, calloc, realloc, free}
use Rattle.memory_model.specs.Effects.MemoryCalls.{memcpy, memmove, memset}
use Rattle.memory_model.specs.Effects.StringCalls.{plain, strlen, strcpy, strncpy, strcat, character_of, order_in, compare_strings, strcmp}
use Rattle.memory_model.specs.Effects.LibraryCalls.{getchar, fgets, putchar, puts, strings_in, all_scanned, most_int, printf, character_call, with_result, library}
use Rattle.source_items.specs.Operations.Kinds.{Number, Address}
use Rattle.source_items.specs.Operations.TakenKinds.{result_kind}
use Rattle.source_preservation.specs.ValueTyping.Marks.{IsBounded}
use Rattle.source_preservation.specs.ValueTyping.MarkOperations.{least_given, greatest_given}
use Rattle.source_preservation.specs.Memory.GoingWorlds.{WhenGoing, AreProperScalars}
use Rattle.source_preservation.proofs.memory.Replies.{when_behind, when_where, IsDrawn, drawn_when}
use Rattle.source_preservation.proofs.ranges.ReadBack.{bits_below}
use Rattle.source_preservation.proofs.ranges.ObjectValues.{region_long}

-- ---- numbers within bounds

abbrev IsBetween : ℤ → ℤ → Scalar → World → Type 0
IsBetween least most (integer n labels) w = (least ≤ℤ n) × (n ≤ℤ most)
IsBetween least most (pointer p) w = Unit {0}

-- a number that a function gives
abbrev pub IsWithin : Model → LibFn → Option Scalar → Type 0
IsWithin m function None = Unit {0}
IsWithin m function (Some (integer n labels)) = result_kind function ≡ Number → (least_given function ≤ℤ n) × (n ≤ℤ greatest_given m function)
IsWithin m function (Some (pointer p)) = Unit {0}

abbrev Anything : {A : Type 0} → A → World → Type 0
Anything x w = Unit {0}

any_going : {A : Type 0} (r : Reply A) → WhenGoing Anything r
any_going (goes x w) = tt
any_going (stops why w) = tt

le_from : (a b : ℤ) → int_le a b ≡ true → a ≤ℤ b
le_from a b h = grind (arith, ints)

module _ (m : Model) where
  number_within : (function : LibFn) (r : Reply Scalar) → WhenGoing (IsBetween (least_given function) (greatest_given m function)) r → WhenGoing (λ o w. IsWithin m function o) (with_result r)
  number_within function (goes (integer n labels) w) h = λ _. h
  number_within function (goes (pointer p) w) h = tt
  number_within function (stops why w) h = tt

  address_within : (function : LibFn) (r : Reply Scalar) → result_kind function ≡ Address → WhenGoing (λ o w. IsWithin m function o) (with_result r)
  address_within function (goes (integer n labels) w) is = λ e. absurd (apart (sym is ∙ e))
    where
      apart : Address ≡ Number → ⊥
      apart e = cc
  address_within function (goes (pointer p) w) is = tt
  address_within function (stops why w) is = tt

  none_within : (function : LibFn) (r : Reply (Unit {0})) → WhenGoing (λ o w. IsWithin m function o) (behind r (λ _ w. goes None w))
  none_within function (goes x w) = tt
  none_within function (stops why w) = tt

-- ---- numbers of the outside

drawn_between : (w : World) (least most : ℤ) (labels : Labels) → WhenGoing (IsBetween least most) (behind (drawn w least most) (λ n w. goes (integer n labels) w))
drawn_between w least most labels = when_behind (IsDrawn w.memory least most) (IsBetween least most) (drawn w least most) (λ n w. goes (integer n labels) w) (drawn_when w least most) (λ n after d. let p = and_parts (int_le least n) (int_le n most) d.within in (le_from least n p.0, le_from n most p.1))

-- ---- strings

further_ends : (s : Scanned) (n : ℕ) → one_further s ≡ ends n → (k : ℕ) × (s ≡ ends k) × (n ≡ suc k)
further_ends (ends k) n e = (k, refl, cc)
further_ends unended n e = cc
further_ends broken n e = cc

scanned_short : (cs : List Content) (n : ℕ) → scanned cs ≡ ends n → n ≤ length cs
scanned_short [] n e = cc
scanned_short (indeterminate ∷ cs) n e = cc
scanned_short (number zero labels ∷ cs) n e = let z : 0 ≡ n = cc in omega arith
scanned_short (number (suc k) labels ∷ cs) n e = let r = further_ends (scanned cs) n e in let i = scanned_short cs r.0 r.1 in let s : n ≡ suc r.0 = r.2 in omega arith
scanned_short (part p k ∷ cs) n e = cc

measured_when : (w : World) (s : Scanned) → WhenGoing (λ n after. s ≡ ends n) (measured w s)
measured_when w (ends n) = refl
measured_when w unended = tt
measured_when w broken = tt

module _ (m : Model) where
  reached_small : (w : World) (life : Life) (i offset hi : ℕ) → hi ≤ most_size m → WhenGoing (λ (r : Reach) after. r.room ≤ most_size m) (reached_by w life i offset hi)
  reached_small w live i offset hi h = omega (arith, h)
  reached_small w ended i offset hi h = tt
  reached_small w freed i offset hi h = tt

  room_small : (p : MachinePointer) (w : World) → IsBounded m p → WhenGoing (λ (r : Reach) after. r.room ≤ most_size m) (reached p w)
  room_small null w is = tt
  room_small (into i offset lo hi) w is = reached_small w (life_at w.memory i) i offset hi is.end

  length_between : (s : Reach) (w : World) → s.room ≤ most_size m → WhenGoing (IsBetween (pos 0) (pos (most_size m))) (behind (string_length s w) (λ n w. goes (plain (pos n)) w))
  length_between s w small = when_behind (λ n after. scanned (contents (bytes_from w s s.room)) ≡ ends n) (IsBetween (pos 0) (pos (most_size m))) (string_length s w) (λ n w. goes (plain (pos n)) w) (measured_when w (scanned (contents (bytes_from w s s.room)))) (λ n after e.
      let a = scanned_short (contents (bytes_from w s s.room)) n e in
      let b = region_long (bytes_at w.memory s.spot.instance) s.spot.offset s.room in
      (omega (arith, ints), omega (arith, ints, a, b, small)))

  strlen_between : (vs : List Scalar) (w : World) → AreProperScalars m vs → WhenGoing (IsBetween (pos 0) (pos (most_size m))) (strlen vs w)
  strlen_between [] w proper = tt
  strlen_between (integer n labels ∷ vs) w proper = tt
  strlen_between (pointer p ∷ (v ∷ vs)) w proper = tt
  strlen_between (pointer p ∷ []) w proper = when_behind (λ (r : Reach) after. r.room ≤ most_size m) (IsBetween (pos 0) (pos (most_size m))) (reached p w) _ (room_small p w proper.0) (λ s after small. length_between s after small)

order_low : (cs ds : List Content) → negsuc 0 ≤ℤ order_in cs ds
order_low [] ds = omega (arith, ints)
order_low (c ∷ cs) [] = omega (arith, ints)
order_low (c ∷ cs) (d ∷ ds) = cond_both (nat_lt (character_of c) (character_of d)) _ _ (λ n. negsuc 0 ≤ℤ n) (λ _. omega (arith, ints)) (λ _. cond_both (nat_lt (character_of d) (character_of c)) _ _ (λ n. negsuc 0 ≤ℤ n) (λ _. omega (arith, ints)) (λ _. order_low cs ds))

order_high : (cs ds : List Content) → order_in cs ds ≤ℤ pos 1
order_high [] ds = omega (arith, ints)
order_high (c ∷ cs) [] = omega (arith, ints)
order_high (c ∷ cs) (d ∷ ds) = cond_both (nat_lt (character_of c) (character_of d)) _ _ (λ n. n ≤ℤ pos 1) (λ _. omega (arith, ints)) (λ _. cond_both (nat_lt (character_of d) (character_of c)) _ _ (λ n. n ≤ℤ pos 1) (λ _. omega (arith, ints)) (λ _. order_high cs ds))

abbrev IsOrder : Scalar → World → Type 0
IsOrder v w = IsBetween (negsuc 0) (pos 1) v w

compare_between : (p q : MachinePointer) (w : World) → WhenGoing IsOrder (compare_strings p q w)
compare_between p q w =
    when_behind Anything IsOrder (reached p w) _ (any_going (reached p w)) (λ a w _.
    when_behind Anything IsOrder (reached q w) _ (any_going (reached q w)) (λ b w _.
    when_behind Anything IsOrder (string_length a w) _ (any_going (string_length a w)) (λ m w _.
    when_behind Anything IsOrder (string_length b w) _ (any_going (string_length b w)) (λ n w _. (order_low (contents (bytes_from w a (m + 1))) (contents (bytes_from w b (n + 1))), order_high (contents (bytes_from w a (m + 1))) (contents (bytes_from w b (n + 1))))))))

strcmp_between : (vs : List Scalar) (w : World) → WhenGoing IsOrder (strcmp vs w)
strcmp_between [] w = tt
strcmp_between (integer n labels ∷ vs) w = tt
strcmp_between (pointer p ∷ []) w = tt
strcmp_between (pointer p ∷ (integer n labels ∷ vs)) w = tt
strcmp_between (pointer p ∷ (pointer q ∷ (v ∷ vs))) w = tt
strcmp_between (pointer p ∷ (pointer q ∷ [])) w = compare_between p q w

-- ---- output

putchar_between : (vs : List Scalar) (w : World) → WhenGoing (IsBetween (pos 0) (pos 255)) (putchar vs w)
putchar_between [] w = tt
putchar_between (pointer p ∷ vs) w = tt
putchar_between (integer c labels ∷ (v ∷ vs)) w = tt
putchar_between (integer c labels ∷ []) w = let b = bits_below 1 c in (omega (arith, ints), omega (arith, ints, b))

puts_between : (vs : List Scalar) (w : World) → WhenGoing (IsBetween (pos 0) (pos 1)) (puts vs w)
puts_between [] w = tt
puts_between (integer n labels ∷ vs) w = tt
puts_between (pointer p ∷ (v ∷ vs)) w = tt
puts_between (pointer p ∷ []) w = when_behind Anything (IsBetween (pos 0) (pos 1)) (reached p w) _ (any_going (reached p w)) (λ s w _. when_behind Anything (IsBetween (pos 0) (pos 1)) (string_length s w) _ (any_going (string_length s w)) (λ n w _. (omega (arith, ints), omega (arith, ints))))

printf_between : (m : Model) (vs : List Scalar) (w : World) → WhenGoing (IsBetween (pos 0) (most_int m)) (printf m vs w)
printf_between m [] w = tt
printf_between m (integer n labels ∷ vs) w = tt
printf_between m (pointer format ∷ arguments) w =
    when_behind Anything (IsBetween (pos 0) (most_int m)) (reached format w) _ (any_going (reached format w)) (λ _ w _.
    when_behind Anything (IsBetween (pos 0) (most_int m)) (strings_in arguments w) _ (any_going (strings_in arguments w)) (λ rs w _.
    when_behind Anything (IsBetween (pos 0) (most_int m)) (all_scanned rs w) _ (any_going (all_scanned rs w)) (λ _ w _. drawn_between w (pos 0) (most_int m) _)))

-- ---- characters

true_of : (b : Bool) → not b ≡ false → b ≡ true
true_of true e = refl
true_of false e = cc

-- an unsigned character or EOF
character_between : (function : LibFn) (least most : ℤ) → ((c : ℤ) (labels : Labels) (w : World) → negsuc 0 ≤ℤ c → c ≤ℤ pos 255 → IsBetween least most (answer function c labels) w) → (vs : List Scalar) (w : World) → WhenGoing (IsBetween least most) (character_call function vs w)
character_between function least most h [] w = tt
character_between function least most h (pointer p ∷ vs) w = tt
character_between function least most h (integer c labels ∷ (v ∷ vs)) w = tt
character_between function least most h (integer c labels ∷ []) w = when_where (IsBetween least most) (not (lies_in (negsuc 0) (pos 255) c)) (stopped_by w rule.Chrsgnext) (goes (answer function c labels) w) (λ _. tt) (λ e. let p = and_parts (int_le (negsuc 0) c) (int_le c (pos 255)) (true_of _ e) in h c labels w (le_from _ _ p.0) (le_from _ _ p.1))

truth_between : (b : Bool) (w : World) → IsBetween (pos 0) (pos 1) (truth b) w
truth_between true w = (omega (arith, ints), omega (arith, ints))
truth_between false w = (omega (arith, ints), omega (arith, ints))

upper_between : (c : ℤ) (labels : Labels) (w : World) → negsuc 0 ≤ℤ c → c ≤ℤ pos 255 → IsBetween (negsuc 0) (pos 255) (answer f.Toupper c labels) w
upper_between c labels w lo hi = cond_both (is_lower c) (c -ℤ pos 32) c (λ n. (negsuc 0 ≤ℤ n) × (n ≤ℤ pos 255)) (λ e. let p = and_parts (int_le (pos 97) c) (int_le c (pos 122)) e in let a : pos 97 ≤ℤ c = le_from (pos 97) c p.0 in (omega (arith, ints, a), omega (arith, ints, hi))) (λ _. (lo, hi))

lower_between : (c : ℤ) (labels : Labels) (w : World) → negsuc 0 ≤ℤ c → c ≤ℤ pos 255 → IsBetween (negsuc 0) (pos 255) (answer f.Tolower c labels) w
lower_between c labels w lo hi = cond_both (is_upper c) (c +ℤ pos 32) c (λ n. (negsuc 0 ≤ℤ n) × (n ≤ℤ pos 255)) (λ e. let p = and_parts (int_le (pos 65) c) (int_le c (pos 90)) e in let a : c ≤ℤ pos 90 = le_from c (pos 90) p.1 in (omega (arith, ints, lo), omega (arith, ints, a))) (λ _. (lo, hi))

-- ---- all functions

module _ (m : Model) (wanted : Option ℕ) (vs : List Scalar) (w : World) where
  test_within : (function : LibFn) → WhenGoing (IsBetween (least_given function) (greatest_given m function)) (character_call function vs w) → WhenGoing (λ o w. IsWithin m function o) (with_result (character_call function vs w))
  test_within function h = number_within m function (character_call function vs w) h

  pub library_within : (function : LibFn) → AreProperScalars m vs → WhenGoing (λ o w. IsWithin m function o) (library m wanted function vs w)
  library_within f.Malloc proper = address_within m f.Malloc (malloc m wanted vs w) refl
  library_within f.Calloc proper = address_within m f.Calloc (calloc m wanted vs w) refl
  library_within f.Realloc proper = address_within m f.Realloc (realloc m wanted vs w) refl
  library_within f.Free proper = none_within m f.Free (free vs w)
  library_within f.Memcpy proper = address_within m f.Memcpy (memcpy vs w) refl
  library_within f.Memmove proper = address_within m f.Memmove (memmove vs w) refl
  library_within f.Memset proper = address_within m f.Memset (memset vs w) refl
  library_within f.Strlen proper = number_within m f.Strlen (strlen vs w) (strlen_between m vs w proper)
  library_within f.Strcpy proper = address_within m f.Strcpy (strcpy vs w) refl
  library_within f.Strncpy proper = address_within m f.Strncpy (strncpy vs w) refl
  library_within f.Strcat proper = address_within m f.Strcat (strcat vs w) refl
  library_within f.Strcmp proper = number_within m f.Strcmp (strcmp vs w) (strcmp_between vs w)
  library_within f.Getchar proper = number_within m f.Getchar (getchar m w) (drawn_between w (negsuc 0) (pos 255) _)
  library_within f.Fgets proper = address_within m f.Fgets (fgets m vs w) refl
  library_within f.Putchar proper = number_within m f.Putchar (putchar vs w) (putchar_between vs w)
  library_within f.Puts proper = number_within m f.Puts (puts vs w) (puts_between vs w)
  library_within f.Printf proper = number_within m f.Printf (printf m vs w) (printf_between m vs w)
  library_within f.Exit proper = tt
  library_within f.Abort proper = tt
  library_within f.Toupper proper = test_within f.Toupper (character_between f.Toupper (negsuc 0) (pos 255) upper_between vs w)
  library_within f.Tolower proper = test_within f.Tolower (character_between f.Tolower (negsuc 0) (pos 255) lower_between vs w)
  library_within function proper = test_within function (character_between function (pos 0) (pos 1) (λ c labels w lo hi. truth_between _ w) vs w)
