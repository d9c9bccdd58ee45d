-- First zeros of arrays that calls write to, in rising rows.
use Rattle.std.specs.Prelude.{◌≡◌, ℕ, ◌≤◌, ℤ, pos, Bool, true, false, cond, ◌&&◌, Option, Some, None, List, refl}
use Rattle.std.proofs.Common.{sym, subst}
use Rattle.std.proofs.lemmas.Bool.{and_parts, and_from}
use Rattle.cc_base.specs.Lattices.{LatticeOf, OrderLaws}
use Rattle.cc_base.specs.IntegerDomains.{IntegersOf, BoundLaws}
use Rattle.pointer_domain.specs.BaseSets.{no_base}
use Rattle.value_domain.specs.Strings.FirstZeros.{the_end}
use Rattle.value_domain.specs.declared.strings.first_zeros.FirstZero.{FirstZero}
use Rattle.value_domain.specs.declared.values.row_cells.Cell.{Cell}
use Rattle.value_domain.specs.declared.values.row_cells.Cell.TheVariants.{First}
use Rattle.value_domain.specs.Values.Cells.{cell_leq, cell_order}
use Rattle.domain_theorems.proofs.values.Flags.{Sets}
use Rattle.store_cells.specs.declared.first_zero_writes.ZeroTarget.{ZeroTarget}
use Rattle.store_cells.specs.AccessWindows.{last_offset}
use Rattle.store_cells.specs.FirstZeroWrites.{any_zero, sure_or_joined}
use Rattle.store_cells.specs.RowPositions.{cell_at, zero_at, put_zero}
use Rattle.store_monotone.specs.Operations.Placements.{WindowWithin}
use Rattle.store_monotone.specs.Operations.RowsBelow.{RowsBelow}
use Rattle.store_monotone.specs.Operations.TopCells.{top_zero}
use Rattle.store_monotone.proofs.operations.CellSteps.{put_pair, put_above}
use Rattle.store_monotone.proofs.operations.FirstZeros.{zero_at_monotone, zero_at_top, first_below_at}
use Rattle.store_monotone.proofs.operations.ZeroTargets.{TargetBelow, sure_monotone, sure_top}

-- a target's last offset is one
abbrev pub IsNearTarget : Option ZeroTarget → Type 0
IsNearTarget None = Unit {0}
IsNearTarget (Some t) = t.local.hi ≤ last_offset

module _ {I : Type 0} (l : LatticeOf I) (n : IntegersOf I) where
  -- the first zero behind a write that begins at a target: nothing is known of it where the write may leave the array
  abbrev pub met : (ZeroTarget → Bool) → (ZeroTarget → FirstZero I) → FirstZero I → Bool → Option ZeroTarget → FirstZero I
  met lies after old alone None = any_zero l n
  met lies after old alone (Some t) = cond (lies t) (sure_or_joined l (alone && t.whole) old (after t)) (any_zero l n)

module _ {I : Type 0} {l : LatticeOf I} {n : IntegersOf I} {stands : I → ℤ → Type 0} (o : OrderLaws l) (b : BoundLaws l n stands) (top r s : List (Cell I)) (i : ℕ) (h : RowsBelow l top r s) (e : cell_at top i ≡ First (top_zero n)) where
  abbrev end : I
  end = n.between (pos 0) the_end

  abbrev old : List (Cell I) → FirstZero I
  old row = zero_at l n row i

  large_top : l.leq (old s).at end ≡ true
  large_top = zero_at_top o b top r s i h.small h.large e

  rises : l.leq (old r).at (old s).at ≡ true
  rises = zero_at_monotone o b top r s i h.small h.large e

  small_top : l.leq (old r).at end ≡ true
  small_top = o.transitive (old r).at (old s).at end rises large_top

  at_top : (f : FirstZero I) → l.leq f.at end ≡ true → cell_leq l (First f) (cell_at top i) ≡ true
  at_top f k = subst (λ c. cell_leq l (First f) c ≡ true) (sym e) k

  -- it is one of an own row
  met_top : (lies : ZeroTarget → Bool) (after : ZeroTarget → FirstZero I) (d : FirstZero I) → l.leq d.at end ≡ true → ((t : ZeroTarget) → t.local.hi ≤ last_offset → l.leq (after t).at end ≡ true) → (alone : Bool) (f : Option ZeroTarget) → IsNearTarget f → l.leq (met l n lies after d alone f).at end ≡ true
  met_top lies after d k tops alone None near = o.reflexive end
  met_top lies after d k tops alone (Some t) near = by_test (lies t)
    where
      by_test : (c : Bool) → l.leq (cond c (sure_or_joined l (alone && t.whole) d (after t)) (any_zero l n)).at end ≡ true
      by_test true = sure_top o b (alone && t.whole) d (after t) end k (tops t near)
      by_test false = o.reflexive end

  module _ (lies more : ZeroTarget → Bool) (small large : ZeroTarget → FirstZero I) (small_tops : (t : ZeroTarget) → t.local.hi ≤ last_offset → l.leq (small t).at end ≡ true) (large_tops : (t : ZeroTarget) → t.local.hi ≤ last_offset → l.leq (large t).at end ≡ true) where
    abbrev small_met : Bool → Option ZeroTarget → FirstZero I
    small_met alone f = met l n lies small (old r) alone f

    abbrev large_met : Bool → Option ZeroTarget → FirstZero I
    large_met alone f = met l n more large (old s) alone f

    below_top : (alone : Bool) (f : Option ZeroTarget) → IsNearTarget f → l.leq (small_met alone f).at end ≡ true
    below_top alone f near = met_top lies small (old r) small_top small_tops alone f near

    above_top : (alone : Bool) (f : Option ZeroTarget) → IsNearTarget f → l.leq (large_met alone f).at end ≡ true
    above_top alone f near = met_top more large (old s) large_top large_tops alone f near

    -- the larger write alone
    put_alone : (two : Bool) (g : Option ZeroTarget) → IsNearTarget g → l.leq (old s).at (large_met two g).at ≡ true → RowsBelow l top r (put_zero s i (large_met two g))
    put_alone two g near k = put_above o b no_base top i r s (First (large_met two g)) h
        ((cell_order o).transitive (cell_at r i) (First (old s)) (First (large_met two g)) (first_below_at o b top r s i h.small h.large e) k) (at_top (large_met two g) (above_top two g near))

    put_both : (one two : Bool) (f g : Option ZeroTarget) → IsNearTarget g → l.leq (small_met one f).at (large_met two g).at ≡ true → RowsBelow l top (put_zero r i (small_met one f)) (put_zero s i (large_met two g))
    put_both one two f g near k = put_pair o b no_base top i r s (First (small_met one f)) (First (large_met two g)) h k (at_top (large_met two g) (above_top two g near))

    -- ---- where nothing is known behind the larger write

    module _ (all : (t : ZeroTarget) → l.leq end (large t).at ≡ true) where
      above_all : (two : Bool) (g : Option ZeroTarget) → l.leq end (large_met two g).at ≡ true
      above_all two None = o.reflexive end
      above_all two (Some t) = by_test (more t)
        where
          by_way : (c : Bool) → l.leq end (sure_or_joined l c (old s) (large t)).at ≡ true
          by_way true = all t
          by_way false = o.transitive end (large t).at (l.join (old s).at (large t).at) (all t) (o.join_right (old s).at (large t).at)

          by_test : (c : Bool) → l.leq end (cond c (sure_or_joined l (two && t.whole) (old s) (large t)) (any_zero l n)).at ≡ true
          by_test true = by_way (two && t.whole)
          by_test false = o.reflexive end

      pub any_step : (on one two a c : Bool) → Sets a c → (f g : Option ZeroTarget) → IsNearTarget f → IsNearTarget g
          → RowsBelow l top (cond on (cond a (put_zero r i (small_met one f)) r) r) (cond c (put_zero s i (large_met two g)) s)
      any_step true one two false false k f g p q = h
      any_step false one two a false k f g p q = h
      any_step true one two true false k f g p q = absurd (let z : false ≡ true = k refl in cc)
      any_step true one two false true k f g p q = put_alone two g q (o.transitive (old s).at end (large_met two g).at large_top (above_all two g))
      any_step false one two a true k f g p q = put_alone two g q (o.transitive (old s).at end (large_met two g).at large_top (above_all two g))
      any_step true one two true true k f g p q = put_both one two f g q (o.transitive (small_met one f).at end (large_met two g).at (below_top one f p) (above_all two g))

    -- ---- where something is

    module _ (on one two a c : Bool) (k : Sets a c) (f g : Option ZeroTarget) (p : IsNearTarget f) (q : IsNearTarget g) (below : TargetBelow f g) where
      -- where more is known behind the larger write, the smaller one lies in the array too, and is made and alone
      -- if the larger one is
      pub record Knows : Type 0 where
        pub within : a ≡ true → (t : ZeroTarget) → g ≡ Some t → more t ≡ true → (x : ZeroTarget) × (f ≡ Some x) × (lies x ≡ true)
        pub alone : two ≡ true → (t : ZeroTarget) → g ≡ Some t → t.whole ≡ true → more t ≡ true → (on ≡ true) × (a ≡ true) × (one ≡ true)
        pub after : (x t : ZeroTarget) → WindowWithin x.local t.local → t.local.hi ≤ last_offset → l.leq (small x).at (large t).at ≡ true

      module _ (knows : Knows) where
        sure_stays : (z : Bool) (d : FirstZero I) → (z ≡ true → ⊥) → l.leq (old s).at (sure_or_joined l z (old s) d).at ≡ true
        sure_stays true d never = absurd (never refl)
        sure_stays false d never = o.join_left (old s).at d.at

        -- the smaller write is left out
        stays : (on ≡ true → a ≡ true → ⊥) → l.leq (old s).at (large_met two g).at ≡ true
        stays never = by_target g refl
          where
            by_target : (t : Option ZeroTarget) → g ≡ t → l.leq (old s).at (large_met two t).at ≡ true
            by_target None d = large_top
            by_target (Some t) d = by_test (more t) refl
              where
                by_test : (z : Bool) → more t ≡ z → l.leq (old s).at (cond z (sure_or_joined l (two && t.whole) (old s) (large t)) (any_zero l n)).at ≡ true
                by_test true m = sure_stays (two && t.whole) (large t) (λ y. let v = and_parts two t.whole y in let w = knows.alone v.0 t d v.1 m in never w.0 w.1)
                by_test false m = large_top

        -- both are made
        pair : on ≡ true → a ≡ true → l.leq (small_met one f).at (large_met two g).at ≡ true
        pair is_on is_a = by_target g refl
          where
            by_target : (t : Option ZeroTarget) → g ≡ t → l.leq (small_met one f).at (large_met two t).at ≡ true
            by_target None d = below_top one f p
            by_target (Some t) d = by_test (more t) refl
              where
                part : (x : ZeroTarget) → f ≡ Some x → (WindowWithin x.local t.local) × (t.whole ≡ true → x.whole ≡ true)
                part x z = subst (λ y. TargetBelow y (Some t)) z (subst (λ y. TargetBelow f y) d below)

                both_lie : (x : ZeroTarget) → f ≡ Some x → lies x ≡ true → more t ≡ true → (y : Bool) → lies x ≡ y → l.leq (cond y (sure_or_joined l (one && x.whole) (old r) (small x)) (any_zero l n)).at (sure_or_joined l (two && t.whole) (old s) (large t)).at ≡ true
                both_lie x z j m true u = let v = part x z in sure_monotone o b (one && x.whole) (two && t.whole) (λ w. let y = and_parts two t.whole w in and_from one x.whole (knows.alone y.0 t d y.1 m).2 (v.1 y.1)) (old r) (old s) (small x) (large t) rises (knows.after x t v.0 v.0.near)
                both_lie x z j m false u = absurd (cc)

                by_test : (y : Bool) → more t ≡ y → l.leq (small_met one f).at (cond y (sure_or_joined l (two && t.whole) (old s) (large t)) (any_zero l n)).at ≡ true
                by_test false m = below_top one f p
                by_test true m = let x = knows.within is_a t d m in subst (λ y. l.leq (small_met one y).at (sure_or_joined l (two && t.whole) (old s) (large t)).at ≡ true) (sym x.1) (both_lie x.0 x.1 x.2 m (lies x.0) refl)

        pub known_step : RowsBelow l top (cond on (cond a (put_zero r i (small_met one f)) r) r) (cond c (put_zero s i (large_met two g)) s)
        known_step = by_way on a c refl refl k
          where
            by_way : (x y z : Bool) → on ≡ x → a ≡ y → Sets y z → RowsBelow l top (cond x (cond y (put_zero r i (small_met one f)) r) r) (cond z (put_zero s i (large_met two g)) s)
            by_way true false false d m j = h
            by_way false y false d m j = h
            by_way true true false d m j = absurd (let t : false ≡ true = j refl in cc)
            by_way true false true d m j = put_alone two g q (stays (λ u v. absurd (cc)))
            by_way false y true d m j = put_alone two g q (stays (λ u v. absurd (cc)))
            by_way true true true d m j = put_both one two f g q (pair d m)
