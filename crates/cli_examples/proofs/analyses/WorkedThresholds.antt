-- The thresholds of the worked program.
use Rattle.std.proofs.Common.{◌≡◌, ◌∙◌, ◌++◌, ◌-◌, ◌⊎◌, inl, inr, ℕ, zero, suc, ℤ, pos, negsuc, Bool, true, false, ◌&&◌, ◌||◌, cond, List, [], ◌∷◌, length, take, drop, slice_index_or, Contains, refl, sym, ap, subst, arith}
use Rattle.std.specs.List.{list_all}
use Rattle.std.specs.Ordering.{int_eq}
use Rattle.std.proofs.lemmas.Bool.Decides.{Decides-int_eq}
use Rattle.c_layout.specs.Models.{lp64}
use Rattle.cfg.specs.Nearest.{AreThresholds, is_among, is_first_farther, without_farther, left_after, most_others, nearest_of}
use Rattle.cfg.specs.StructNumbers.{flow_numbers}
use Rattle.cfg.specs.ThresholdNumbers.{limits_of}
use Rattle.cfg.specs.declared.programs.Flow.{Flow}
use Rattle.cli_examples.specs.Analyses.WorkedAnalyses.{own_numbers, thresholds, IsListOf}
use Rattle.cli_examples.proofs.analyses.WorkedProgram.{program}

-- ---- what is left of a list stands in it

later : {X : Type 0} (y : X) (xs : List X) (x : X) → Contains xs x → Contains (y ∷ xs) x
later y xs x (k, lt, at) = (suc k, omega (arith, lt), at)

none_there : {X : Type 0} (x : X) → Contains [] x → ⊥
none_there x (k, lt, at) = omega (arith, lt)

taken : {X : Type 0} (n : ℕ) (xs : List X) (x : X) → Contains (take n xs) x → Contains xs x
taken zero xs x h = absurd (none_there x h)
taken (suc n) [] x h = absurd (none_there x h)
taken (suc n) (y ∷ ys) x (zero, lt, at) = (0, omega arith, at)
taken (suc n) (y ∷ ys) x (suc k, lt, at) = later y ys x (taken n ys x (k, omega (arith, lt), at))

without_first : {X : Type 0} (xs : List X) (x : X) → Contains (drop 1 xs) x → Contains xs x
without_first [] x h = absurd (none_there x h)
without_first (y ∷ ys) x h = later y ys x h

one_less : (first : Bool) (xs : List ℤ) (x : ℤ) → Contains (cond first (drop 1 xs) (take (length xs - 1) xs)) x → Contains xs x
one_less true xs x h = without_first xs x h
one_less false xs x h = taken (length xs - 1) xs x h

left : (n : ℕ) (xs : List ℤ) (x : ℤ) → Contains (left_after n xs) x → Contains xs x
left zero xs x h = h
left (suc n) xs x h = one_less (is_first_farther (slice_index_or xs 0 (pos 0)) (slice_index_or xs (length xs - 1) (pos 0))) xs x (left n (without_farther xs) x h)

-- ---- lists within lists, by a look

false_true : false ≡ true → ⊥
false_true e = cc

first_of : (a b : Bool) → (a && b) ≡ true → a ≡ true
first_of true b h = refl
first_of false b h = cc

last_of : (a b : Bool) → (a && b) ≡ true → b ≡ true
last_of true b h = h
last_of false b h = cc

there_by : (y : ℤ) (ys : List ℤ) (n : ℤ) (b : Bool) → int_eq y n ≡ b → (is_among ys n ≡ true → Contains ys n) → (b || is_among ys n) ≡ true → Contains (y ∷ ys) n
there_by y ys n true same rest h = (0, omega arith, (Decides-int_eq y n).0 same)
there_by y ys n false same rest h = later y ys n (rest h)

there_is : (ys : List ℤ) (n : ℤ) → is_among ys n ≡ true → Contains ys n
there_is [] n h = absurd (false_true h)
there_is (y ∷ ys) n h = there_by y ys n (int_eq y n) refl (there_is ys n) h

within : (xs ys : List ℤ) → list_all (λ n. is_among ys n) xs ≡ true → (n : ℤ) → Contains xs n → Contains ys n
within [] ys h n c = absurd (none_there n c)
within (x ∷ xs) ys h n (zero, lt, at) = subst (λ z. Contains ys z) at (there_is ys x (first_of (is_among ys x) (list_all (λ n. is_among ys n) xs) h))
within (x ∷ xs) ys h n (suc k, lt, at) = within xs ys (last_of (is_among ys x) (list_all (λ n. is_among ys n) xs) h) n (k, omega (arith, lt), at)

-- ---- the numbers of the program

abbrev numbers : List ℤ
numbers = pos 1 ∷ (pos 2 ∷ (negsuc 0 ∷ (pos 1 ∷ (negsuc 0 ∷ (pos 1 ∷ [])))))

-- ---- no limit is left out

apart : (x : ℤ) → int_eq x (negsuc 127) ≡ false → x ≡ negsuc 127 → ⊥
apart x differs is = let same : int_eq x (negsuc 127) ≡ true = ap (λ z. int_eq z (negsuc 127)) is in false_true (sym differs ∙ same)

not_own : Contains own_numbers (negsuc 127) → ⊥
not_own (zero, lt, at) = apart (negsuc 0) refl at
not_own (suc zero, lt, at) = apart (pos 1) refl at
not_own (suc (suc zero), lt, at) = apart (pos 2) refl at
not_own (suc (suc (suc k)), lt, at) = omega (arith, lt)

first_limit : (more : List ℤ) → Contains (limits_of lp64 ++ more) (negsuc 127)
first_limit more = (0, omega arith, refl)

-- ---- no number stands beside these

or_last : (a b : Bool) → b ≡ true → (a || b) ≡ true
or_last true b h = refl
or_last false b h = h

among : (xs : List ℤ) → Contains xs (pos 7) → is_among xs (pos 7) ≡ true
among [] h = absurd (none_there (pos 7) h)
among (x ∷ xs) (zero, lt, at) = subst (λ z. (int_eq z (pos 7) || is_among xs (pos 7)) ≡ true) (sym at) refl
among (x ∷ xs) (suc k, lt, at) = or_last (int_eq x (pos 7)) (is_among xs (pos 7)) (among xs (k, omega (arith, lt), at))

parted : (xs ys : List ℤ) (x : ℤ) → Contains (xs ++ ys) x → Contains xs x ⊎ Contains ys x
parted [] ys x h = inr h
parted (y ∷ xs) ys x (zero, lt, at) = inl (0, omega arith, at)
parted (y ∷ xs) ys x (suc k, lt, at) = elim (parted xs ys x (k, omega (arith, lt), at)) [ inl h ↦ inl (later y xs x h) | inr h ↦ inr h ]

not_limit : Contains (limits_of lp64) (pos 7) → ⊥
not_limit h = let there : false ≡ true = among (limits_of lp64) h in false_true there

not_number : Contains numbers (pos 7) → ⊥
not_number h = let there : false ≡ true = among numbers h in false_true there

module _ (some : Flow) where
  abbrev are_thresholds : List ℤ → Type 0
  are_thresholds list = AreThresholds (limits_of (program some).model) (flow_numbers (program some)) list

  not_seven : (others : List ℤ) → ((n : ℤ) → Contains others n → Contains numbers n) → Contains (limits_of lp64) (pos 7) ⊎ Contains (nearest_of others) (pos 7) → ⊥
  not_seven others no_more (inl h) = not_limit h
  not_seven others no_more (inr h) = not_number (no_more (pos 7) (left (length others - most_others) others (pos 7) h))

  pub list_of : IsListOf (program some)
  list_of = record {
    there = record {
      others = own_numbers;
      ascending = refl;
      all = within numbers own_numbers refl;
      no_more = within own_numbers numbers refl;
      kept = within (limits_of lp64 ++ own_numbers) thresholds refl;
      made = within thresholds (limits_of lp64 ++ own_numbers) refl;
    };
    shorter = λ is. not_own (is.kept (negsuc 127) (first_limit (nearest_of is.others)));
    longer = λ is. not_seven is.others is.no_more (parted (limits_of lp64) (nearest_of is.others) (pos 7) (is.made (pos 7) (0, omega arith, refl)));
  }
