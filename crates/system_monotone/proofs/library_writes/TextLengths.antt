-- Counts of bytes, and the lengths of texts for which they are needed.
use Rattle.std.specs.Prelude.{◌≡◌, ℤ, pos, negsuc, ◌-ℤ◌, ◌+ℤ◌, ◌≤ℤ◌, int_le, true, Some, None, is_some, refl}
use Rattle.std.specs.Int.{w128, saturate_signed, int_min, int_max}
use Rattle.std.proofs.Common.{arith, sym, subst, subst₂}
use lib.Signed.{≤ℤ_refl}
use Rattle.std.proofs.lemmas.Int.{ints, clamps}
use Rattle.std.proofs.lemmas.Bool.{cond_both}
use Rattle.cc_base.specs.Lattices.{LatticeOf, OrderLaws}
use Rattle.cc_base.specs.IntegerDomains.{IntegersOf, BoundLaws, of_range, between_or_least}
use Rattle.cc_base.specs.NumberRanges.{Range, range_met, upper_or}
use Rattle.value_domain.specs.Strings.FirstZeros.{the_end}
use Rattle.domain_theorems.proofs.values.Ranges.{RangeBelow, range_refl, met_monotone, bounds_monotone, of_range_monotone}
use Rattle.store_cells.specs.AccessWindows.{added_ranges}
use Rattle.store_cells.specs.NearValues.{near_number}
use Rattle.store_monotone.proofs.operations.AddedRanges.{saturate_monotone, added_monotone}
use Rattle.transfer_checks.specs.LibraryArguments.{cut_by}
use Rattle.transfer_library.specs.MemoryCalls.{lower_of}
use Rattle.transfer_library.specs.StringCalls.{less_one, most_appended, one_more, one_less, appended}
use Rattle.transfer_monotone.proofs.values.Touches.{met_below}
use Rattle.system_monotone.proofs.library_writes.TextEnds.{counts_in, near_less, near_count}

kept_above : (a c : ℤ) → pos 0 ≤ℤ a → a ≤ℤ pos 1 → a ≤ℤ c → a ≤ℤ saturate_signed w128 c
kept_above a (pos c) h i k = omega (arith, ints)
kept_above a (negsuc c) h i k = absurd (omega (arith, ints))

kept_below : (a c : ℤ) → pos 0 ≤ℤ a → a ≤ℤ c → saturate_signed w128 a ≤ℤ c
kept_below (pos a) c h k = omega (arith, ints)
kept_below (negsuc a) c h k = absurd (omega (arith, ints))

-- ---- counts of at least a byte

abbrev pub AtLeastOne : Range → Type 0
AtLeastOne None = Unit {0}
AtLeastOne (Some p) = pos 1 ≤ℤ p.0

one_added : (x : Range) → RangeBelow x (Some (pos 0, the_end)) → AtLeastOne (added_ranges x (Some (pos 1, pos 1)))
one_added None h = tt
one_added (Some p) h = kept_above (pos 1) (p.0 +ℤ pos 1) (omega (arith, ints)) (omega (arith, ints)) (let a = h.0 in omega (arith, ints))

pub least_added : (x y : Range) → RangeBelow x (Some (pos 0, the_end)) → AtLeastOne y → AtLeastOne (added_ranges x y)
least_added None y h k = tt
least_added (Some p) None h k = tt
least_added (Some p) (Some q) h k = kept_above (pos 1) (p.0 +ℤ q.0) (omega (arith, ints)) (omega (arith, ints)) (let a = h.0 in omega (arith, ints))

pub met_least : (x : Range) (c : ℤ) → AtLeastOne (range_met x (pos 1) c)
met_least None c = tt
met_least (Some p) c = cond_both (int_le (int_max p.0 (pos 1)) (int_min p.1 c)) (Some (int_max p.0 (pos 1), int_min p.1 c)) None AtLeastOne (λ e. omega (arith, ints, clamps)) (λ e. tt)

-- as far as there is room
pub cut_in : (x room : Range) → AtLeastOne x → RangeBelow room (Some (pos 0, the_end)) → RangeBelow (cut_by x room) (Some (pos 1, the_end))
cut_in x None h k = tt
cut_in None (Some r) h k = tt
cut_in (Some p) (Some r) h k = cond_both (int_le (int_max p.0 (pos 0)) (int_min p.1 r.1)) (Some (int_max p.0 (pos 0), int_min p.1 r.1)) None (λ z. RangeBelow z (Some (pos 1, the_end)))
    (λ e. let a = k.1 in (omega (arith, ints, clamps), omega (arith, ints, clamps))) (λ e. tt)

pub cut_some : (x room : Range) → is_some (cut_by x room) ≡ true → is_some x ≡ true
cut_some x None h = absurd (cc)
cut_some None (Some r) h = absurd (cc)
cut_some (Some p) (Some r) h = refl

pub added_some : (x y : Range) → is_some (added_ranges x y) ≡ true → is_some x ≡ true
added_some None y h = absurd (cc)
added_some (Some p) y h = refl

pub byte_surely : (x : Range) → RangeBelow x (Some (pos 1, the_end)) → is_some x ≡ true → int_le (pos 1) (lower_of x) ≡ true
byte_surely None h e = absurd (cc)
byte_surely (Some p) h e = above p.0 h.0
  where
    above : (a : ℤ) → pos 1 ≤ℤ a → int_le (pos 1) a ≡ true
    above a h = grind (arith, ints)

-- ---- one less

less_in : (c : ℤ) → pos 1 ≤ℤ c → c ≤ℤ the_end → (pos 0 ≤ℤ less_one c) × (less_one c ≤ℤ the_end)
less_in c h k = (kept_above (pos 0) (c -ℤ pos 1) (omega (arith, ints)) (omega (arith, ints)) (omega (arith, ints)), kept_below (c -ℤ pos 1) the_end (omega (arith, ints)) (omega (arith, ints)))

less_monotone : (c d : ℤ) → c ≤ℤ d → less_one c ≤ℤ less_one d
less_monotone c d h = saturate_monotone (c -ℤ pos 1) (d -ℤ pos 1) (omega (arith, ints))

abbrev less_range : Range → Range
less_range None = None
less_range (Some p) = Some (less_one p.0, less_one p.1)

less_range_in : (x : Range) → RangeBelow x (Some (pos 1, the_end)) → RangeBelow (less_range x) (Some (pos 0, the_end))
less_range_in None h = tt
less_range_in (Some p) h = ((kept_above (pos 0) (p.0 -ℤ pos 1) (omega (arith, ints)) (omega (arith, ints)) (let a = h.0 in omega (arith, ints))), below p.1 h.1)
  where
    below : (c : ℤ) → c ≤ℤ the_end → less_one c ≤ℤ the_end
    below c k = at_most (c -ℤ pos 1) (omega (arith, ints))
      where
        at_most : (z : ℤ) → z ≤ℤ the_end → saturate_signed w128 z ≤ℤ the_end
        at_most (pos z) h = omega (arith, ints)
        at_most (negsuc z) h = omega (arith, ints)

less_range_monotone : (x u : Range) → RangeBelow x u → RangeBelow (less_range x) (less_range u)
less_range_monotone None u h = tt
less_range_monotone (Some p) None h = absurd h
less_range_monotone (Some p) (Some q) h = (less_monotone q.0 p.0 h.0, less_monotone p.1 q.1 h.1)

-- the lengths of a line, up to its greatest
pub line_monotone : (x u : Range) → is_some x ≡ true → RangeBelow x u → RangeBelow (Some (pos 0, less_one (upper_or (pos 1) x))) (Some (pos 0, less_one (upper_or (pos 1) u)))
line_monotone None u e h = absurd (cc)
line_monotone (Some p) None e h = absurd h
line_monotone (Some p) (Some q) e h = (≤ℤ_refl (pos 0), less_monotone p.1 q.1 h.1)

pub line_in : (x : Range) → RangeBelow x (Some (pos 1, the_end)) → RangeBelow (Some (pos 0, less_one (upper_or (pos 1) x))) (Some (pos 0, the_end))
line_in None h = (≤ℤ_refl (pos 0), (less_in (pos 1) (omega (arith, ints)) (omega (arith, ints))).1)
line_in (Some p) h = (≤ℤ_refl (pos 0), (less_range_in (Some p) h).1)

-- ---- appended texts

pub most_monotone : (x y u v : Range) → is_some x ≡ true → RangeBelow x y → is_some u ≡ true → RangeBelow u v → most_appended x u ≤ℤ most_appended y v
most_monotone None y u v d h e k = absurd (cc)
most_monotone (Some p) None u v d h e k = absurd h
most_monotone (Some p) (Some q) None v d h e k = absurd (cc)
most_monotone (Some p) (Some q) (Some s) None d h e k = absurd k
most_monotone (Some p) (Some q) (Some s) (Some t) d h e k = let less = less_monotone s.1 t.1 k.1 in let a = h.0 in saturate_monotone (less_one s.1 -ℤ p.0) (less_one t.1 -ℤ q.0) (omega (arith, ints))

module _ {I : Type 0} {l : LatticeOf I} {n : IntegersOf I} {stands : I → ℤ → Type 0} (o : OrderLaws l) (b : BoundLaws l n stands) where
  pub more_least : (x : I) → l.leq x (n.between (pos 0) the_end) ≡ true → AtLeastOne (one_more n x)
  more_least x h = one_added (n.bounds x) (counts_in o b x h)

  pub one_more_monotone : (x y : I) → l.leq x y ≡ true → RangeBelow (one_more n x) (one_more n y)
  one_more_monotone x y h = added_monotone (n.bounds x) (Some (pos 1, pos 1)) (n.bounds y) (Some (pos 1, pos 1)) (bounds_monotone b x y h) (range_refl (Some (pos 1, pos 1)))

  of_counts : (r : Range) → RangeBelow r (Some (pos 0, the_end)) → l.leq (of_range l n r) (n.between (pos 0) the_end) ≡ true
  of_counts r h = of_range_monotone o b r (Some (pos 0, the_end)) h

  -- the lengths for which so many bytes are needed
  less_is : (x : Range) → one_less l n x ≡ near_number l n (of_range l n (less_range x))
  less_is None = refl
  less_is (Some p) = refl

  pub less_count : (x : Range) → RangeBelow x (Some (pos 1, the_end)) → l.leq (one_less l n x) (n.between (pos 0) the_end) ≡ true
  less_count x h = subst (λ z. l.leq z (n.between (pos 0) the_end) ≡ true) (sym (less_is x)) (near_count o b (of_range l n (less_range x)) (of_counts (less_range x) (less_range_in x h)))

  pub less_rises : (x u : Range) → RangeBelow x u → RangeBelow u (Some (pos 1, the_end)) → l.leq (one_less l n x) (one_less l n u) ≡ true
  less_rises x u h k = subst₂ (λ y v. l.leq y v ≡ true) (sym (less_is x)) (sym (less_is u))
      (near_less o b (of_range l n (less_range x)) (of_range l n (less_range u)) (of_range_monotone o b (less_range x) (less_range u) (less_range_monotone x u h)) (of_counts (less_range u) (less_range_in u k)))

  -- the lengths of a line
  pub line_count_in : (x : Range) → RangeBelow x (Some (pos 1, the_end)) → l.leq (between_or_least l n (pos 0) (less_one (upper_or (pos 1) x))) (n.between (pos 0) the_end) ≡ true
  line_count_in x h = of_counts (Some (pos 0, less_one (upper_or (pos 1) x))) (line_in x h)

  pub line_rises : (x u : Range) → is_some x ≡ true → RangeBelow x u → l.leq (between_or_least l n (pos 0) (less_one (upper_or (pos 1) x))) (between_or_least l n (pos 0) (less_one (upper_or (pos 1) u))) ≡ true
  line_rises x u e h = of_range_monotone o b (Some (pos 0, less_one (upper_or (pos 1) x))) (Some (pos 0, less_one (upper_or (pos 1) u))) (line_monotone x u e h)

  -- the lengths for which there is room behind others
  pub appended_count : (there added : I) (cut : Range) → l.leq added (n.between (pos 0) the_end) ≡ true → l.leq (appended l n there added cut) (n.between (pos 0) the_end) ≡ true
  appended_count there added cut h = of_counts (range_met (n.bounds added) (pos 0) (most_appended (n.bounds there) cut)) (met_below (n.bounds added) (Some (pos 0, the_end)) (pos 0) (most_appended (n.bounds there) cut) (counts_in o b added h))

  pub appended_rises : (x u : I) (y v : I) (cut room : Range) → is_some (n.bounds x) ≡ true → l.leq x u ≡ true → l.leq y v ≡ true → is_some cut ≡ true → RangeBelow cut room → l.leq (appended l n x y cut) (appended l n u v room) ≡ true
  appended_rises x u y v cut room some h k cut_is i = of_range_monotone o b (range_met (n.bounds y) (pos 0) (most_appended (n.bounds x) cut)) (range_met (n.bounds v) (pos 0) (most_appended (n.bounds u) room))
      (met_monotone (n.bounds y) (n.bounds v) (pos 0) (most_appended (n.bounds x) cut) (pos 0) (most_appended (n.bounds u) room) (bounds_monotone b y v k) (≤ℤ_refl (pos 0))
      (most_monotone (n.bounds x) (n.bounds u) cut room some (bounds_monotone b x u h) cut_is i))
