-- First zeros behind larger texts.
use Rattle.std.specs.Prelude.{◌≡◌, ℕ, ◌≤◌, ℤ, pos, negsuc, ◌+ℤ◌, ◌≤ℤ◌, Bool, true, false, cond, Some, None, refl}
use Rattle.std.specs.Int.{int_min, saturate_signed, w128}
use Rattle.std.proofs.Common.{arith, sym, subst, subst₂}
use Rattle.std.proofs.lemmas.Int.{ints, clamps}
use Rattle.cc_base.specs.Lattices.{LatticeOf, OrderLaws}
use Rattle.cc_base.specs.NumberRanges.{Range}
use Rattle.cc_base.specs.IntegerDomains.{IntegersOf, BoundLaws, of_range}
use Rattle.value_domain.specs.Strings.FirstZeros.{the_end, zero_of}
use Rattle.value_domain.specs.Strings.ZeroTables.{ends_text, in_three, text_at}
use Rattle.value_domain.specs.declared.strings.first_zeros.FirstZero.{FirstZero}
use Rattle.domain_theorems.proofs.values.Flags.{Sets}
use Rattle.domain_theorems.proofs.values.Ranges.{RangeBelow, bounds_monotone, of_range_monotone}
use Rattle.domain_theorems.proofs.values.Zeros.{text_monotone}
use Rattle.store_cells.specs.declared.access_windows.Window.{Window}
use Rattle.store_cells.specs.AccessWindows.{added_ranges, last_offset}
use Rattle.store_cells.specs.FirstZeroWrites.{offsets_of}
use Rattle.store_objects.specs.LiveBases.{has_base}
use Rattle.store_cells.specs.NearValues.{near_number}
use Rattle.store_monotone.specs.Operations.Placements.{WindowWithin}
use Rattle.store_monotone.specs.Operations.TopCells.{top_number}
use Rattle.store_monotone.proofs.operations.AddedRanges.{added_monotone}
use Rattle.store_monotone.proofs.operations.FirstZeros.{zero_near}
use Rattle.store_monotone.proofs.operations.LiveSets.{has_monotone}
use Rattle.store_monotone.proofs.operations.NearCells.{near_is}
use Rattle.store_monotone.proofs.operations.ZeroTargets.{offsets_monotone, offsets_top}
use Rattle.system_monotone.specs.LibraryWrites.TextOrder.{HasLength, RuleBelow}
use Rattle.transfer_library_writes.specs.TextWrites.{up_to_end_of, up_to_end, zero_after, rule_in}
use Rattle.transfer_library_writes.specs.declared.text_writes.ZeroRule.{ZeroRule}
use Rattle.transfer_library_writes.specs.declared.text_writes.ZeroRule.TheVariants.{Text, Append, Any}

module _ {I : Type 0} (l : LatticeOf I) (n : IntegersOf I) where
  -- in one base
  pub rule_below_in : (x y : ZeroRule I) → RuleBelow l n x y → (number : ℕ) → RuleBelow l n (rule_in x number) (rule_in y number)
  rule_below_in (Text a) (Text c) h number = h
  rule_below_in (Text a) (Append c t) h number = absurd h
  rule_below_in (Text a) Any h number = tt
  rule_below_in (Append a s) (Text c) h number = absurd h
  rule_below_in (Append a s) Any h number = tt
  rule_below_in Any (Text c) h number = absurd h
  rule_below_in Any (Append c t) h number = absurd h
  rule_below_in Any Any h number = tt
  rule_below_in (Append a s) (Append c t) h number = by_unknown (has_base s number) (has_base t number) (λ e. has_monotone s t number h.1 e)
    where
      by_unknown : (d e : Bool) → Sets d e → RuleBelow l n (cond d Any (Append a s)) (cond e Any (Append c t))
      by_unknown true true g = tt
      by_unknown true false g = absurd (let z : false ≡ true = g refl in cc)
      by_unknown false true g = tt
      by_unknown false false g = h

  pub length_in : (x : ZeroRule I) → HasLength l n x → (number : ℕ) → HasLength l n (rule_in x number)
  length_in (Text a) h number = h
  length_in Any h number = tt
  length_in (Append a s) h number = by_unknown (has_base s number)
    where
      by_unknown : (d : Bool) → HasLength l n (cond d Any (Append a s))
      by_unknown true = tt
      by_unknown false = h

-- ---- sums, none above the end

abbrev up_range : Range → Range
up_range None = None
up_range (Some p) = Some (int_min p.0 the_end, int_min p.1 the_end)

capped_monotone : (x y : Range) → RangeBelow x y → RangeBelow (up_range x) (up_range y)
capped_monotone None y h = tt
capped_monotone (Some p) None h = absurd h
capped_monotone (Some p) (Some q) h = (omega (arith, ints, clamps), omega (arith, ints, clamps))

-- sums of what is not negative are not negative
sum_within : (x y : Range) → RangeBelow x (Some (pos 0, the_end)) → RangeBelow y (Some (pos 0, the_end)) → RangeBelow (up_range (added_ranges x y)) (Some (pos 0, the_end))
sum_within None y h k = tt
sum_within (Some p) None h k = tt
sum_within (Some p) (Some q) h k = let z = kept (p.0 +ℤ q.0) (let a = h.0 in let b = k.0 in omega (arith, ints)) in (omega (arith, ints, clamps), omega (arith, ints, clamps))
  where
    kept : (a : ℤ) → pos 0 ≤ℤ a → pos 0 ≤ℤ saturate_signed w128 a
    kept (pos a) h = omega (arith, ints)
    kept (negsuc a) h = absurd (omega (arith, ints))

module _ {I : Type 0} {l : LatticeOf I} {n : IntegersOf I} {stands : I → ℤ → Type 0} (o : OrderLaws l) (b : BoundLaws l n stands) where
  up_is : (r : Range) → up_to_end_of l n r ≡ of_range l n (up_range r)
  up_is None = refl
  up_is (Some p) = refl

  pub near_same : (x : I) → l.leq x (n.between (pos 0) the_end) ≡ true → near_number l n x ≡ x
  near_same x h = near_is o b x (o.transitive x (n.between (pos 0) the_end) (top_number n) h (zero_near o b))

  pub counts_in : (x : I) → l.leq x (n.between (pos 0) the_end) ≡ true → RangeBelow (n.bounds x) (Some (pos 0, the_end))
  counts_in x h = subst (λ r. RangeBelow (n.bounds x) r) (b.between_bounds (pos 0) the_end (omega (arith, ints))) (bounds_monotone b x (n.between (pos 0) the_end) h)

  sums_monotone : (x y u v : I) → l.leq x u ≡ true → l.leq y v ≡ true → l.leq (up_to_end l n x y) (up_to_end l n u v) ≡ true
  sums_monotone x y u v h k = subst₂ (λ c d. l.leq c d ≡ true) (sym (up_is (added_ranges (n.bounds x) (n.bounds y)))) (sym (up_is (added_ranges (n.bounds u) (n.bounds v))))
      (of_range_monotone o b _ _ (capped_monotone (added_ranges (n.bounds x) (n.bounds y)) (added_ranges (n.bounds u) (n.bounds v)) (added_monotone (n.bounds x) (n.bounds y) (n.bounds u) (n.bounds v) (bounds_monotone b x u h) (bounds_monotone b y v k))))

  sums_top : (x y : I) → l.leq x (n.between (pos 0) the_end) ≡ true → l.leq y (n.between (pos 0) the_end) ≡ true → l.leq (up_to_end l n x y) (n.between (pos 0) the_end) ≡ true
  sums_top x y h k = subst (λ c. l.leq c (n.between (pos 0) the_end) ≡ true) (sym (up_is (added_ranges (n.bounds x) (n.bounds y))))
      (of_range_monotone o b _ (Some (pos 0, the_end)) (sum_within (n.bounds x) (n.bounds y) (counts_in x h) (counts_in y k)))

  -- a text of any length, at any offset and over any first zero, gives no more than all
  text_all : l.leq (text_at l n (zero_of (n.between (pos 0) the_end)) (n.between (pos 0) the_end) (n.between (pos 0) the_end)).at (n.between (pos 0) the_end) ≡ true
  text_all = subst (λ r. l.leq (of_range l n (in_three ends_text r r r)) (n.between (pos 0) the_end) ≡ true) (sym (b.between_bounds (pos 0) the_end (omega (arith, ints))))
      (of_range_monotone o b (Some (ends_text (pos 0, the_end) (pos 0, the_end) (pos 0, the_end))) (Some (pos 0, the_end)) (omega (arith, ints), omega (arith, ints)))

  text_top : (d : FirstZero I) (at c : I) → l.leq d.at (n.between (pos 0) the_end) ≡ true → l.leq at (n.between (pos 0) the_end) ≡ true → l.leq c (n.between (pos 0) the_end) ≡ true → l.leq (text_at l n d at c).at (n.between (pos 0) the_end) ≡ true
  text_top d at c h j k =
      let all = n.between (pos 0) the_end in
      o.transitive (text_at l n d at c).at (text_at l n (zero_of all) all all).at all
      (text_monotone o b d (zero_of all) at all c all h j k (o.reflexive all) (o.reflexive all) (o.reflexive all)) text_all

  -- ---- behind a write

  pub after_top : (d : FirstZero I) (u : Window) → u.hi ≤ last_offset → l.leq d.at (n.between (pos 0) the_end) ≡ true → (y : ZeroRule I) → HasLength l n y → l.leq (zero_after l n d u y).at (n.between (pos 0) the_end) ≡ true
  after_top d u i k Any r = o.reflexive (n.between (pos 0) the_end)
  after_top d u i k (Text c) r = text_top d (offsets_of l n u) (near_number l n c) k (offsets_top o b u i) (subst (λ x. l.leq x (n.between (pos 0) the_end) ≡ true) (sym (near_same c r)) r)
  after_top d u i k (Append c t) r = sums_top d.at (near_number l n c) k (subst (λ x. l.leq x (n.between (pos 0) the_end) ≡ true) (sym (near_same c r)) r)

  pub near_less : (a c : I) → l.leq a c ≡ true → l.leq c (n.between (pos 0) the_end) ≡ true → l.leq (near_number l n a) (near_number l n c) ≡ true
  near_less a c h r = subst₂ (λ x y. l.leq x y ≡ true) (sym (near_same a (o.transitive a c (n.between (pos 0) the_end) h r))) (sym (near_same c r)) h

  pub near_count : (c : I) → l.leq c (n.between (pos 0) the_end) ≡ true → l.leq (near_number l n c) (n.between (pos 0) the_end) ≡ true
  near_count c r = subst (λ x. l.leq x (n.between (pos 0) the_end) ≡ true) (sym (near_same c r)) r

  pub after_monotone : (f d : FirstZero I) (w u : Window) → WindowWithin w u → l.leq f.at d.at ≡ true → l.leq d.at (n.between (pos 0) the_end) ≡ true → (x y : ZeroRule I) → RuleBelow l n x y → HasLength l n x → HasLength l n y → l.leq (zero_after l n f w x).at (zero_after l n d u y).at ≡ true
  after_monotone f d w u i h k x Any r c e = after_top f w (let a = i.hi in let z = i.near in omega arith) (o.transitive f.at d.at (n.between (pos 0) the_end) h k) x c
  after_monotone f d w u i h k (Text a) (Text c) r t e = text_monotone o b f d (offsets_of l n w) (offsets_of l n u) (near_number l n a) (near_number l n c) h (offsets_monotone o b w u i) (near_less a c r e) k (offsets_top o b u i.near) (near_count c e)
  after_monotone f d w u i h k (Append a s) (Append c t) r v e = sums_monotone f.at (near_number l n a) d.at (near_number l n c) h (near_less a c r.0 e)
  after_monotone f d w u i h k (Text a) (Append c t) r v e = absurd r
  after_monotone f d w u i h k (Append a s) (Text c) r v e = absurd r
  after_monotone f d w u i h k Any (Text c) r v e = absurd r
  after_monotone f d w u i h k Any (Append c t) r v e = absurd r
