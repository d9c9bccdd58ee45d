-- First zeros behind bytes that are set, in rising rows.
use Rattle.std.specs.Prelude.{◌≡◌, ℕ, ◌≤◌, ℤ, pos, ◌≤ℤ◌, int_le, Bool, true, false, cond, ◌&&◌, Option, Some, None, refl}
use Rattle.std.proofs.Common.{arith}
use Rattle.std.proofs.lemmas.Int.{ints}
use Rattle.std.proofs.lemmas.Bool.{and_parts, eqb-true, eq-eqb}
use Rattle.cc_base.specs.Lattices.{LatticeOf, OrderLaws}
use Rattle.cc_base.specs.IntegerDomains.{IntegersOf, BoundLaws}
use Rattle.cc_base.specs.NumberRanges.{Range}
use Rattle.cc_base.specs.declared.integer_operators.Tri.TheVariants.{Yes}
use Rattle.value_domain.specs.Strings.FirstZeros.{the_end}
use Rattle.value_domain.specs.Strings.ZeroTables as zeros
use Rattle.value_domain.specs.declared.strings.first_zeros.FirstZero.{FirstZero}
use Rattle.domain_theorems.proofs.values.Flags.{Sets, and_sets}
use Rattle.domain_theorems.proofs.values.Ranges.{RangeBelow, bounds_monotone}
use Rattle.store_cells.specs.declared.access_windows.Window.{Window}
use Rattle.store_cells.specs.declared.first_zero_writes.ZeroTarget.{ZeroTarget}
use Rattle.store_cells.specs.AccessWindows.{last_offset, window_is_one}
use Rattle.store_cells.specs.FirstZeroWrites.{any_zero, offsets_of, sure_or_joined}
use Rattle.store_monotone.specs.Operations.Placements.{WindowWithin}
use Rattle.store_monotone.proofs.operations.PutZeros.{put_monotone, put_top}
use Rattle.store_monotone.proofs.operations.ZeroTargets.{offsets_monotone, offsets_top}
use Rattle.transfer_library_writes.specs.declared.fill_writes.FillWrite.{FillWrite}
use Rattle.transfer_library_writes.specs.TextWrites.{lies_in_array}
use Rattle.transfer_library_writes.specs.FillWrites.{is_up_to_range, is_up_to, zero_met_at}
use Rattle.system_monotone.proofs.library_writes.MetZeros.{met}

-- fewer offsets are less far
up_to_less : (f t : Window) → WindowWithin f t → (x u : Range) → RangeBelow x u → Sets (is_up_to_range t u) (is_up_to_range f x)
up_to_less f t h None u i e = refl
up_to_less f t h (Some p) None i e = absurd i
up_to_less f t h (Some p) (Some q) i e = less f.hi t.hi p.0 q.0 h.hi i.0 e
  where
    less : (a c : ℕ) (x u : ℤ) → a ≤ c → u ≤ℤ x → int_le (pos c) u ≡ true → int_le (pos a) x ≡ true
    less a c x u h i e = grind (arith, ints)

one_less : (f t : Window) → WindowWithin f t → Sets (window_is_one t) (window_is_one f)
one_less f t h e = let a = eqb-true t.lo t.hi e in let c = h.lo in let d = h.some in let g = h.hi in eq-eqb f.lo f.hi (omega arith)

least_less : (a c : ℤ) → c ≤ℤ a → Sets (int_le (pos 1) c) (int_le (pos 1) a)
least_less a c h e = grind (arith, ints)

module _ {I : Type 0} (l : LatticeOf I) (n : IntegersOf I) where
  -- the first zero is known where zeros are written from one offset on that is not behind it
  abbrev pub is_known : FirstZero I → FillWrite → ZeroTarget → Bool
  is_known old write t = write.zero && (int_le (pos 1) write.least && (window_is_one t.local && is_up_to n old t.local))

  -- the write lies in the array too
  abbrev pub known_in : Bool → FirstZero I → FillWrite → ZeroTarget → Bool
  known_in inside old write t = lies_in_array write.one_byte inside t && is_known old write t

  abbrev pub zero_put : FirstZero I → ZeroTarget → FirstZero I
  zero_put old t = zeros.put_at l n old (offsets_of l n t.local) Yes

  both_tests : (a c : Bool) (x y : FirstZero I) → cond a (cond c x y) y ≡ cond (a && c) x y
  both_tests true c x y = refl
  both_tests false c x y = refl

  pub met_is : (old : FirstZero I) (write : FillWrite) (alone inside : Bool) (t : Option ZeroTarget) → zero_met_at l n old write alone inside t ≡ met l n (known_in inside old write) (zero_put old) old alone t
  met_is old write alone inside None = refl
  met_is old write alone inside (Some t) = both_tests (lies_in_array write.one_byte inside t) (is_known old write t) (sure_or_joined l (alone && t.whole) old (zero_put old t)) (any_zero l n)

  -- nothing is known where nothing surely is written
  pub weak_knows : (inside : Bool) (old : FirstZero I) (write : FillWrite) (t : ZeroTarget) → int_le (pos 1) write.least ≡ false → known_in inside old write t ≡ true → ⊥
  weak_knows inside old write t e h =
      let p = and_parts (lies_in_array write.one_byte inside t) (is_known old write t) h in
      let q = and_parts write.zero _ p.1 in
      let r = and_parts (int_le (pos 1) write.least) _ q.1 in
      absurd (let z = r.0 in cc)

module _ {I : Type 0} {l : LatticeOf I} {n : IntegersOf I} {stands : I → ℤ → Type 0} (o : OrderLaws l) (b : BoundLaws l n stands) where
  -- what is known behind a larger write is known behind a smaller one
  pub known_less : (f d : FirstZero I) → l.leq f.at d.at ≡ true → (w v : FillWrite) → Sets v.zero w.zero → v.least ≤ℤ w.least → (x t : ZeroTarget) → WindowWithin x.local t.local → Sets (is_known l n d v t) (is_known l n f w x)
  known_less f d h w v z least x t i = and_sets v.zero _ w.zero _ z (and_sets (int_le (pos 1) v.least) _ (int_le (pos 1) w.least) _ (least_less w.least v.least least)
      (and_sets (window_is_one t.local) _ (window_is_one x.local) _ (one_less x.local t.local i) (up_to_less x.local t.local i (n.bounds f.at) (n.bounds d.at) (bounds_monotone b f.at d.at h))))

  pub put_less : (f d : FirstZero I) → l.leq f.at d.at ≡ true → l.leq d.at (n.between (pos 0) the_end) ≡ true → (x t : ZeroTarget) → WindowWithin x.local t.local → t.local.hi ≤ last_offset → l.leq (zero_put l n f x).at (zero_put l n d t).at ≡ true
  put_less f d h k x t i near = put_monotone o b f d (offsets_of l n x.local) (offsets_of l n t.local) h (offsets_monotone o b x.local t.local i) k (offsets_top o b t.local near) Yes Yes refl

  pub put_in : (d : FirstZero I) → l.leq d.at (n.between (pos 0) the_end) ≡ true → (t : ZeroTarget) → t.local.hi ≤ last_offset → l.leq (zero_put l n d t).at (n.between (pos 0) the_end) ≡ true
  put_in d k t near = put_top o b d d (offsets_of l n t.local) (offsets_of l n t.local) (o.reflexive d.at) (o.reflexive (offsets_of l n t.local)) k (offsets_top o b t.local near) Yes
