-- The thresholds of a program that speaks of near numbers are a near list.
use Rattle.std.specs.Prelude.{◌≡◌, ℕ, zero, suc, ◌-◌, ◌^◌, ◌<◌, ◌==◌, ◌||◌, ℤ, pos, negsuc, ◌≤ℤ◌, int_le, int_lt, nat_lt, Bool, true, cond, Some, None, List, [], ◌∷◌, ◌++◌, length, slice_index_or, All, refl, ◌⊎◌, drop, take}
use Rattle.std.specs.List.{list_all, list_any}
use Rattle.std.proofs.Common.{arith, sym, subst, ap, ◌∙◌, inl, inr}
use Rattle.std.proofs.lemmas.Int.{ints}
use Rattle.std.proofs.lemmas.Bool.{and_parts, and_from, or_cases, cond_both, cond-true, eqb-true}
use Rattle.std.proofs.lemmas.List.Elements.{All-nil, All-cons, All-tail, All-append, All-take, All-drop, All-contains, Contains-get_or, Contains-append_left}
use Rattle.cc_base.specs.Ascending.{is_ascending}
use Rattle.cc_base.specs.NumberRanges.{Range}
use Rattle.c_layout.specs.Models.{is_model}
use Rattle.c_layout.specs.declared.data_model.Model.{Model}
use Rattle.cfg.specs.ThresholdNumbers.{size_ends, limits_of}
use Rattle.cfg.specs.Nearest.{is_among, not_among, is_first_farther, without_farther, left_after, nearest_of, most_others, AreThresholds}
use Rattle.interval_domain.specs.declared.intervals.intervals.Interval.{Interval}
use Rattle.interval_domain.specs.Intervals.Spans.{between_or_empty, by_between}
use Rattle.interval_domain.specs.Intervals.IntervalOrder.{interval_leq}
use Rattle.interval_domain.specs.Intervals.IntervalRound.{interval_round, round_down, round_up, le_order, ge_order, contains_from}
use Rattle.interval_domain.specs.Numbers.Nearest.{Has, rounded_member}
use Rattle.interval_domain.specs.Intervals.IntervalLattice.{interval_lattice}
use Rattle.interval_domain.specs.Intervals.IntervalNumbers.{interval_numbers}
use Rattle.value_domain.specs.Strings.FirstZeros.{the_end}
use Rattle.domain_theorems.proofs.values.Flags.{or_left, or_right}
use Rattle.transfer_system.specs.BoundedRows.NearLists.{is_near_number, IsNearList}

abbrev IsNear : ℤ → Type 0
IsNear z = (negsuc (2 ^ 64 - 1) ≤ℤ z) × (z ≤ℤ pos (2 ^ 64))

near_at : (z : ℤ) → is_near_number (negsuc (2 ^ 64 - 1)) z ≡ true → IsNear z
near_at z h =
    let p = and_parts (int_le (negsuc (2 ^ 64 - 1)) z) (int_le z (pos (2 ^ 64))) h in
    (grind (arith, ints), grind (arith, ints))

all_near : (list : List ℤ) → list_all (is_near_number (negsuc (2 ^ 64 - 1))) list ≡ true → All IsNear list
all_near [] h = All-nil IsNear
all_near (z ∷ list) h = let p = and_parts (is_near_number (negsuc (2 ^ 64 - 1)) z) (list_all (is_near_number (negsuc (2 ^ 64 - 1))) list) h in All-cons IsNear z list (near_at z p.0) (all_near list p.1)

-- ---- the numbers of a threshold list

left_near : (k : ℕ) (list : List ℤ) → All IsNear list → All IsNear (left_after k list)
left_near zero list h = h
left_near (suc k) list h = left_near k (without_farther list) (cond_both (is_first_farther (slice_index_or list 0 (pos 0)) (slice_index_or list (length list - 1) (pos 0))) (drop 1 list) (take (length list - 1) list) (All IsNear) (λ e. All-drop IsNear 1 list h) (λ e. All-take IsNear (length list - 1) list h))

apart_near : (limits list : List ℤ) → All IsNear list → All IsNear (not_among limits list)
apart_near limits [] h = All-nil IsNear
apart_near limits (z ∷ list) h = All-append IsNear (cond (is_among limits z) [] (z ∷ [])) (not_among limits list) (cond_both (is_among limits z) [] (z ∷ []) (All IsNear) (λ e. All-nil IsNear) (λ e. All-take IsNear 1 (z ∷ list) h)) (apart_near limits list (All-tail IsNear z list h))

four_near : (a c d e : ℤ) → IsNear a → IsNear c → IsNear d → IsNear e → All IsNear (a ∷ (c ∷ (d ∷ (e ∷ []))))
four_near a c d e h i j k = All-cons IsNear a (c ∷ (d ∷ (e ∷ []))) h (All-cons IsNear c (d ∷ (e ∷ [])) i (All-cons IsNear d (e ∷ []) j (All-cons IsNear e [] k (All-nil IsNear))))

ends_near : (bytes : ℕ) → (bytes ≡ 1) ⊎ ((bytes ≡ 2) ⊎ ((bytes ≡ 4) ⊎ (bytes ≡ 8))) → All IsNear (size_ends bytes)
ends_near bytes (inl e) = subst (λ k. All IsNear (size_ends k)) (sym e) (four_near (negsuc (2 ^ 7 - 1)) (pos (2 ^ 7 - 1)) (pos 0) (pos (2 ^ 8 - 1)) (omega (arith, ints), omega (arith, ints)) (omega (arith, ints), omega (arith, ints)) (omega (arith, ints), omega (arith, ints)) (omega (arith, ints), omega (arith, ints)))
ends_near bytes (inr (inl e)) = subst (λ k. All IsNear (size_ends k)) (sym e) (four_near (negsuc (2 ^ 15 - 1)) (pos (2 ^ 15 - 1)) (pos 0) (pos (2 ^ 16 - 1)) (omega (arith, ints), omega (arith, ints)) (omega (arith, ints), omega (arith, ints)) (omega (arith, ints), omega (arith, ints)) (omega (arith, ints), omega (arith, ints)))
ends_near bytes (inr (inr (inl e))) = subst (λ k. All IsNear (size_ends k)) (sym e) (four_near (negsuc (2 ^ 31 - 1)) (pos (2 ^ 31 - 1)) (pos 0) (pos (2 ^ 32 - 1)) (omega (arith, ints), omega (arith, ints)) (omega (arith, ints), omega (arith, ints)) (omega (arith, ints), omega (arith, ints)) (omega (arith, ints), omega (arith, ints)))
ends_near bytes (inr (inr (inr e))) = subst (λ k. All IsNear (size_ends k)) (sym e) (four_near (negsuc (2 ^ 63 - 1)) (pos (2 ^ 63 - 1)) (pos 0) (pos (2 ^ 64 - 1)) (omega (arith, ints), omega (arith, ints)) (omega (arith, ints), omega (arith, ints)) (omega (arith, ints), omega (arith, ints)) (omega (arith, ints), omega (arith, ints)))

limits_near : (m : Model) → is_model m ≡ true → All IsNear (limits_of m)
limits_near m h =
    let a = and_parts (m.short == 2) _ h in
    let c = and_parts (m.int == 2 || m.int == 4) _ a.1 in
    let d = and_parts (m.long == 4 || m.long == 8) _ c.1 in
    let e = and_parts (m.long_long == 8) _ d.1 in
    All-append IsNear (size_ends 1) (size_ends m.short ++ (size_ends m.int ++ (size_ends m.long ++ (size_ends m.long_long ++ (pos (2 ^ 64) ∷ []))))) (ends_near 1 (inl refl))
    (All-append IsNear (size_ends m.short) (size_ends m.int ++ (size_ends m.long ++ (size_ends m.long_long ++ (pos (2 ^ 64) ∷ [])))) (ends_near m.short (inr (inl (eqb-true m.short 2 a.0))))
    (All-append IsNear (size_ends m.int) (size_ends m.long ++ (size_ends m.long_long ++ (pos (2 ^ 64) ∷ []))) (ends_near m.int (elim (or_cases (m.int == 2) (m.int == 4) c.0) [ inl p ↦ inr (inl (eqb-true m.int 2 p)) | inr p ↦ inr (inr (inl (eqb-true m.int 4 p))) ]))
    (All-append IsNear (size_ends m.long) (size_ends m.long_long ++ (pos (2 ^ 64) ∷ [])) (ends_near m.long (elim (or_cases (m.long == 4) (m.long == 8) d.0) [ inl p ↦ inr (inr (inl (eqb-true m.long 4 p))) | inr p ↦ inr (inr (inr (eqb-true m.long 8 p))) ]))
    (All-append IsNear (size_ends m.long_long) (pos (2 ^ 64) ∷ []) (ends_near m.long_long (inr (inr (inr (eqb-true m.long_long 8 e.0)))))
    (All-cons IsNear (pos (2 ^ 64)) [] (omega (arith, ints), omega (arith, ints)) (All-nil IsNear))))))

limits_zero : (m : Model) → Has (limits_of m) (pos 0)
limits_zero m = inr (inr (inl refl))

limits_end : (m : Model) → Has (limits_of m) (pos (2 ^ 64))
limits_end m = inr (inr (inr (inr (inr (inr (inr (inr (inr (inr (inr (inr (inr (inr (inr (inr (inr (inr (inr (inr (inl refl))))))))))))))))))))

-- ---- ascending lists

has_from : (list : List ℤ) (z : ℤ) (k : ℕ) → k < length list → slice_index_or list k z ≡ z → Has list z
has_from [] z k h e = absurd (omega arith)
has_from (y ∷ list) z zero h e = inl e
has_from (y ∷ list) z (suc k) h e = inr (has_from list z k (omega arith) e)

first_least : (x : ℤ) (list : List ℤ) → is_ascending (x ∷ list) ≡ true → (z : ℤ) → Has (x ∷ list) z → x ≤ℤ z
first_least x [] h z (inl e) = equal x z e
  where
    equal : (x z : ℤ) → x ≡ z → x ≤ℤ z
    equal x z e = grind (arith, ints)
first_least x [] h z (inr e) = absurd e
first_least x (y ∷ list) h z (inl e) = equal x z e
  where
    equal : (x z : ℤ) → x ≡ z → x ≤ℤ z
    equal x z e = grind (arith, ints)
first_least x (y ∷ list) h z (inr e) =
    let p = and_parts (int_lt x y) (is_ascending (y ∷ list)) h in
    less x y z p.0 (first_least y list p.1 z e)
  where
    less : (x y z : ℤ) → int_lt x y ≡ true → y ≤ℤ z → x ≤ℤ z
    less x y z h k = grind (arith, ints)

abbrev last_of : ℤ → List ℤ → ℤ
last_of x [] = x
last_of x (y ∷ list) = last_of y list

last_is : (x : ℤ) (list : List ℤ) (d : ℤ) → slice_index_or (x ∷ list) (length list) d ≡ last_of x list
last_is x [] d = refl
last_is x (y ∷ list) d = last_is y list d

last_at : (x : ℤ) (list : List ℤ) → slice_index_or (x ∷ list) (length (x ∷ list) - 1) (pos 0) ≡ last_of x list
last_at x list = let e : length (x ∷ list) - 1 ≡ length list = omega arith in subst (λ k. slice_index_or (x ∷ list) k (pos 0) ≡ last_of x list) (sym e) (last_is x list (pos 0))

some_length : (x : ℤ) (list : List ℤ) → nat_lt 0 (length (x ∷ list)) ≡ true
some_length x list = grind arith

abbrev ends_of : ℤ → ℤ → Range
ends_of a c = Some (a, c)

last_has : (x : ℤ) (list : List ℤ) → Has (x ∷ list) (last_of x list)
last_has x [] = inl refl
last_has x (y ∷ list) = inr (last_has y list)

last_greatest : (x : ℤ) (list : List ℤ) → is_ascending (x ∷ list) ≡ true → (z : ℤ) → Has (x ∷ list) z → z ≤ℤ last_of x list
last_greatest x [] h z (inl e) = equal x z e
  where
    equal : (x z : ℤ) → x ≡ z → z ≤ℤ x
    equal x z e = grind (arith, ints)
last_greatest x [] h z (inr e) = absurd e
last_greatest x (y ∷ list) h z (inl e) =
    let p = and_parts (int_lt x y) (is_ascending (y ∷ list)) h in
    less x y z (last_of y list) p.0 e (last_greatest y list p.1 y (inl refl))
  where
    less : (x y z t : ℤ) → int_lt x y ≡ true → x ≡ z → y ≤ℤ t → z ≤ℤ t
    less x y z t h e k = grind (arith, ints)
last_greatest x (y ∷ list) h z (inr e) = last_greatest y list (and_parts (int_lt x y) (is_ascending (y ∷ list)) h).1 z e

any_from : (test : ℤ → Bool) (list : List ℤ) (z : ℤ) → Has list z → test z ≡ true → list_any test list ≡ true
any_from test [] z h e = absurd h
any_from test (y ∷ list) z (inl p) e = or_left (test y) (list_any test list) (subst (λ t. test t ≡ true) (sym p) e)
any_from test (y ∷ list) z (inr p) e = or_right (test y) (list_any test list) (any_from test list z p e)

all_from : (test : ℤ → Bool) (list : List ℤ) → ((z : ℤ) → Has list z → test z ≡ true) → list_all test list ≡ true
all_from test [] h = refl
all_from test (y ∷ list) h = and_from _ _ (h y (inl refl)) (all_from test list (λ z p. h z (inr p)))

le_from : (a c : ℤ) → a ≤ℤ c → int_le a c ≡ true
le_from a c h = grind (arith, ints)

le_same : (a c : ℤ) → a ≡ c → int_le c a ≡ true
le_same a c h = grind (arith, ints)

le_alike : (a c : ℤ) → a ≡ c → int_le a c ≡ true
le_alike a c h = grind (arith, ints)

both_ways : (a c : ℤ) → a ≤ℤ c → c ≤ℤ a → a ≡ c
both_ways a c h k = grind (arith, ints)

-- ---- lists from -2^64 to 2^64 with 0 and 2^64

pub round_stays : (list : List ℤ) → Has list (pos 0) → Has list (pos (2 ^ 64)) → (x : Interval) → x ≡ between_or_empty (pos 0) (pos (2 ^ 64)) → interval_leq (interval_round list x) x ≡ true
round_stays list z e x p = subst (λ y. interval_leq (interval_round list y) y ≡ true) (sym p) (by_between (λ y. interval_leq (interval_round list y) y ≡ true) (pos 0) (pos (2 ^ 64))
    (λ o. and_from _ _ (le_same (round_down list (pos 0)) (pos 0) (rounded_member le_order list (pos 0) z)) (le_alike (round_up list (pos (2 ^ 64))) (pos (2 ^ 64)) (rounded_member ge_order list (pos (2 ^ 64)) e)))
    (λ o. refl))

near_list : (list : List ℤ) → is_ascending list ≡ true → ((z : ℤ) → Has list z → IsNear z) → Has list (pos 0) → Has list (pos (2 ^ 64)) → IsNearList interval_lattice interval_numbers list
near_list [] a h z e = absurd z
near_list (x ∷ list) a h z e =
    let last : last_of x list ≡ pos (2 ^ 64) = both_ways (last_of x list) (pos (2 ^ 64)) (h (last_of x list) (last_has x list)).1 (last_greatest x list a (pos (2 ^ 64)) e) in
    record {
      least = x;
      near = (h x (inl refl)).0;
      zero = first_least x list a (pos 0) z;
      range = cond-true (nat_lt 0 (length (x ∷ list))) (ends_of x (slice_index_or (x ∷ list) (length (x ∷ list) - 1) (pos 0))) None (some_length x list) ∙ ap (ends_of x) (last_at x list ∙ last);
      ends = record {
        lower = any_from (λ m. int_le m x) (x ∷ list) x (inl refl) (le_alike x x refl);
        upper = any_from (λ m. int_le (pos (2 ^ 64)) m) (x ∷ list) (pos (2 ^ 64)) e (le_alike (pos (2 ^ 64)) (pos (2 ^ 64)) refl);
      };
      numbers = all_from (is_near_number x) (x ∷ list) (λ m p. and_from _ _ (le_from x m (first_least x list a m p)) (le_from m (pos (2 ^ 64)) (h m p).1));
      counts = round_stays (x ∷ list) z e (between_or_empty (pos 0) the_end) refl;
    }

pub thresholds_near : (m : Model) (numbers list : List ℤ) → is_model m ≡ true → list_all (is_near_number (negsuc (2 ^ 64 - 1))) numbers ≡ true → AreThresholds (limits_of m) numbers list → is_ascending list ≡ true → IsNearList interval_lattice interval_numbers list
thresholds_near m numbers list h k t a =
    let others : All IsNear t.others = λ i d lt. All-contains IsNear (not_among (limits_of m) numbers) (slice_index_or t.others i d) (apart_near (limits_of m) numbers (all_near numbers k)) (t.no_more (slice_index_or t.others i d) (Contains-get_or t.others i d lt)) in
    let nearest : All IsNear (nearest_of t.others) = left_near (length t.others - most_others) t.others others in
    let all : All IsNear (limits_of m ++ nearest_of t.others) = All-append IsNear (limits_of m) (nearest_of t.others) (limits_near m h) nearest in
    let has : (z : ℤ) → Has (limits_of m) z → Has list z = λ z p. let c = t.kept z (Contains-append_left (limits_of m) (nearest_of t.others) z (contains_from (limits_of m) z p)) in has_from list z c.0 c.1 c.2 in
    near_list list a (λ z p. All-contains IsNear (limits_of m ++ nearest_of t.others) z all (t.made z (contains_from list z p))) (has (pos 0) (limits_zero m)) (has (pos (2 ^ 64)) (limits_end m))
