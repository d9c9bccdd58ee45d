-- First zeros that are copied, in rising rows.
use Rattle.std.specs.Prelude.{◌≡◌, ℕ, ◌+◌, ◌<◌, ◌≤◌, ℤ, pos, nat_lt, Bool, true, false, cond, Option, Some, None, is_some, List, [], ◌∷◌, length, refl}
use Rattle.std.proofs.Common.{arith, sym, subst, ap, ◌∙◌}
use Rattle.cc_base.specs.Lattices.{LatticeOf, OrderLaws}
use Rattle.cc_base.specs.IntegerDomains.{IntegersOf, BoundLaws}
use Rattle.c_layout.specs.declared.shapes.BaseInfo.{BaseInfo}
use Rattle.c_layout.specs.declared.shapes.ZeroPart.{ZeroPart}
use Rattle.pointer_domain.specs.declared.base_sets.Bases.{Bases}
use Rattle.pointer_domain.specs.BaseSets.{no_base}
use Rattle.value_domain.specs.Strings.FirstZeros.{the_end}
use Rattle.value_domain.specs.declared.strings.first_zeros.FirstZero.{FirstZero}
use Rattle.value_domain.specs.declared.values.row_cells.Cell.{Cell}
use Rattle.value_domain.specs.declared.values.row_cells.Cell.TheVariants.{First}
use Rattle.value_domain.specs.Values.Cells.{cell_leq, cell_order}
use Rattle.domain_theorems.proofs.values.Flags.{Sets}
use Rattle.store_cells.specs.declared.access_windows.Window.{Window}
use Rattle.store_cells.specs.declared.first_zero_writes.ZeroTarget.{ZeroTarget}
use Rattle.store_cells.specs.FirstZeroWrites.{zero_target, any_zero}
use Rattle.store_cells.specs.RowPositions.{cell_at, zero_position, zero_at, put_zero}
use Rattle.store_monotone.specs.Operations.Placements.{WindowWithin, IsPlaced}
use Rattle.store_monotone.specs.Operations.RowsBelow.{RowsBelow}
use Rattle.store_monotone.specs.Operations.TopCells.{top_zero}
use Rattle.store_monotone.proofs.operations.CellSteps.{put_pair, put_above}
use Rattle.store_monotone.proofs.operations.FirstZeros.{zero_at_monotone, zero_at_top, first_below_at}
use Rattle.store_monotone.proofs.operations.PairedSteps.{Step, walk_step, numbers_below}
use Rattle.store_monotone.proofs.operations.ZeroTargets.{TargetBelow, target_monotone}
use Rattle.store_structs.specs.CopyZeros.{Exact, is_array_at, array_at, source_offset, source_part, lies_inside, zero_from, zero_exact, zero_copied, copy_part_at, copy_part, copy_zeros}
use Rattle.transfer_monotone.specs.Values.RisingRows.{RowsRise}
use Rattle.system_monotone.proofs.library_writes.WrittenCells.{zero_rises}

-- an array that is found is one of the parts
array_below : (offset : ℕ) (size : Option ℕ) (at : ℕ) (parts : List ZeroPart) (k : ℕ) → array_at offset size at parts ≡ Some k → k < at + length parts
array_below offset size at [] k e = absurd (let z : ⊥ = cc in z)
array_below offset size at (part ∷ parts) k e = by_test (is_array_at offset size part) e (array_below offset size (at + 1) parts k)
  where
    next : (at + 1) + length parts ≤ at + length (part ∷ parts)
    next = omega arith

    by_test : (c : Bool) → cond c (Some at) (array_at offset size (at + 1) parts) ≡ Some k → (array_at offset size (at + 1) parts ≡ Some k → k < (at + 1) + length parts) → k < at + length (part ∷ parts)
    by_test true f later = let g : at ≡ k = cc in omega arith
    by_test false f later = let g = later f in let h = next in omega arith

part_below : (e : Exact) (part : ZeroPart) (k : ℕ) → source_part e part ≡ Some k → k < length e.source.shape.zeros
unfolding source_part
part_below e part k = by_test (nat_lt part.offset e.to)
  where
    by_test : (c : Bool) → cond c None (array_at (source_offset e part) part.size 0 e.source.shape.zeros) ≡ Some k → k < length e.source.shape.zeros
    by_test true f = absurd (let z : ⊥ = cc in z)
    by_test false f = let g = array_below (source_offset e part) part.size 0 e.source.shape.zeros k f in omega arith

module _ {I : Type 0} {l : LatticeOf I} {n : IntegersOf I} {stands : I → ℤ → Type 0} (o : OrderLaws l) (b : BoundLaws l n stands) (all : Bases) (top : List (Cell I)) where
  -- a copy that is exact in the larger call is so in the smaller one, which is made, to the same offset
  pub record ExactBelow (on : Bool) (w u : Window) (small large : Option Exact) : Type 0 where
    pub same : (e : Exact) → large ≡ Some e → (on ≡ true) × (small ≡ large) × (w ≡ u)
    pub placed : (e : Exact) → small ≡ Some e → IsPlaced n all top e.source

  abbrev END : I
  END = n.between (pos 0) the_end

  module _ (r s : List (Cell I)) (h : RowsBelow l top r s) where
    zero_small : (e : Exact) → IsPlaced n all top e.source → (at : ℕ) → at < length e.source.shape.zeros → l.leq (zero_at l n r (zero_position e.source at)).at (zero_at l n s (zero_position e.source at)).at ≡ true
    zero_small e p at k = zero_at_monotone o b top r s (zero_position e.source at) h.small h.large (p.zero at k)

    zero_own : (e : Exact) → IsPlaced n all top e.source → (at : ℕ) → at < length e.source.shape.zeros → l.leq (zero_at l n s (zero_position e.source at)).at END ≡ true
    zero_own e p at k = zero_at_top o b top r s (zero_position e.source at) h.small h.large (p.zero at k)

    from_less : (e : Exact) → IsPlaced n all top e.source → (at : Option ℕ) → ((k : ℕ) → at ≡ Some k → k < length e.source.shape.zeros) → l.leq (zero_from l n e.source r at).at (zero_from l n e.source s at).at ≡ true
    from_less e p None k = o.reflexive END
    from_less e p (Some at) k = zero_small e p at (k at refl)

    from_own : (e : Exact) → IsPlaced n all top e.source → (at : Option ℕ) → ((k : ℕ) → at ≡ Some k → k < length e.source.shape.zeros) → l.leq (zero_from l n e.source s at).at END ≡ true
    from_own e p None k = o.reflexive END
    from_own e p (Some at) k = zero_own e p at (k at refl)

    exact_less : (e : Exact) → IsPlaced n all top e.source → (part : ZeroPart) → l.leq (zero_exact l n e part r).at (zero_exact l n e part s).at ≡ true
    exact_less e p part = by_test (lies_inside e part)
      where
        by_test : (c : Bool) → l.leq (cond c (zero_from l n e.source r (source_part e part)) (any_zero l n)).at (cond c (zero_from l n e.source s (source_part e part)) (any_zero l n)).at ≡ true
        by_test true = from_less e p (source_part e part) (part_below e part)
        by_test false = o.reflexive END

    exact_own : (e : Exact) → IsPlaced n all top e.source → (part : ZeroPart) → l.leq (zero_exact l n e part s).at END ≡ true
    exact_own e p part = by_test (lies_inside e part)
      where
        by_test : (c : Bool) → l.leq (cond c (zero_from l n e.source s (source_part e part)) (any_zero l n)).at END ≡ true
        by_test true = from_own e p (source_part e part) (part_below e part)
        by_test false = o.reflexive END

    copied_own : (x : Option Exact) → ((e : Exact) → x ≡ Some e → IsPlaced n all top e.source) → (part : ZeroPart) → l.leq (zero_copied l n x part s).at END ≡ true
    copied_own None p part = o.reflexive END
    copied_own (Some e) p part = exact_own e (p e refl) part

    copied_same : (x : Option Exact) → ((e : Exact) → x ≡ Some e → IsPlaced n all top e.source) → (part : ZeroPart) → l.leq (zero_copied l n x part r).at (zero_copied l n x part s).at ≡ true
    copied_same None p part = o.reflexive END
    copied_same (Some e) p part = exact_less e (p e refl) part

    -- what is copied, the smaller below the larger
    copied_less : (on : Bool) (w u : Window) (x y : Option Exact) → ExactBelow on w u x y → (part : ZeroPart) → (l.leq (zero_copied l n x part r).at (zero_copied l n y part s).at ≡ true) × (l.leq (zero_copied l n y part s).at END ≡ true)
    copied_less on w u x None k part = (o.transitive (zero_copied l n x part r).at (zero_copied l n x part s).at END (copied_same x k.placed part) (copied_own x k.placed part), o.reflexive END)
    copied_less on w u x (Some e) k part =
        let z : x ≡ Some e = (k.same e refl).1 in
        let p : (d : Exact) → x ≡ Some d → IsPlaced n all top d.source = k.placed in
        (subst (λ t. l.leq (zero_copied l n x part r).at (zero_copied l n t part s).at ≡ true) z (copied_same x p part), subst (λ t. l.leq (zero_copied l n t part s).at END ≡ true) z (copied_own x p part))

    -- ---- one first zero

    module _ (i : ℕ) (e : cell_at top i ≡ First (top_zero n)) where
      at_top : (z : FirstZero I) → l.leq z.at END ≡ true → cell_leq l (First z) (cell_at top i) ≡ true
      at_top z k = subst (λ c. cell_leq l (First z) c ≡ true) (sym e) k

      forgotten : RowsBelow l top r (put_zero s i (any_zero l n))
      forgotten = put_above o b no_base top i r s (First (any_zero l n)) h
          ((cell_order o).transitive (cell_at r i) (First (zero_at l n s i)) (First (any_zero l n)) (first_below_at o b top r s i h.small h.large e) (zero_at_top o b top r s i h.small h.large e))
          (at_top (any_zero l n) (o.reflexive END))

      both : (on : Bool) (w u : Window) (x y : Option Exact) → ExactBelow on w u x y → (part : ZeroPart) → RowsBelow l top (put_zero r i (zero_copied l n x part r)) (put_zero s i (zero_copied l n y part s))
      both on w u x y k part =
          let z = copied_less on w u x y k part in
          put_pair o b no_base top i r s (First (zero_copied l n x part r)) (First (zero_copied l n y part s)) h z.0 (at_top (zero_copied l n y part s) z.1)

      -- the larger one alone, which is not exact
      alone : (on : Bool) (w u : Window) (x y : Option Exact) → ExactBelow on w u x y → (part : ZeroPart) → (on ≡ true → w ≡ u → ⊥) → RowsBelow l top r (put_zero s i (zero_copied l n y part s))
      alone on w u x None k part never = forgotten
      alone on w u x (Some d) k part never = let z = k.same d refl in absurd (never z.0 z.2)

      part_step : (on : Bool) (w u : Window) (x y : Option Exact) → ExactBelow on w u x y → (part : ZeroPart) (t v : Option ZeroTarget) → zero_target part w ≡ t → zero_target part u ≡ v → TargetBelow t v
          → RowsBelow l top (cond on (cond (is_some t) (put_zero r i (zero_copied l n x part r)) r) r) (cond (is_some v) (put_zero s i (zero_copied l n y part s)) s)
      part_step true w u x y k part None None f g j = h
      part_step false w u x y k part None None f g j = h
      part_step on w u x y k part (Some t) None f g j = absurd j
      part_step true w u x y k part None (Some v) f g j = alone true w u x y k part (λ c d. let z : None ≡ Some v = sym f ∙ ap (zero_target part) d ∙ g in absurd (let q : ⊥ = cc in q))
      part_step false w u x y k part t (Some v) f g j = alone false w u x y k part (λ c. absurd (let q : ⊥ = cc in q))
      part_step true w u x y k part (Some t) (Some v) f g j = both true w u x y k part

  -- a first zero of which nothing is known any more, where it is met
  pub forget_step : (r s : List (Cell I)) (i : ℕ) → cell_at top i ≡ First (top_zero n) → RowsBelow l top r s → (on p q : Bool) → Sets p q → RowsBelow l top (cond on (cond p (put_zero r i (any_zero l n)) r) r) (cond q (put_zero s i (any_zero l n)) s)
  forget_step r s i e h true true true m = put_pair o b no_base top i r s (First (any_zero l n)) (First (any_zero l n)) h (o.reflexive END) (at_top r s h i e (any_zero l n) (o.reflexive END))
  forget_step r s i e h true true false m = absurd (let z : false ≡ true = m refl in cc)
  forget_step r s i e h true false true m = forgotten r s h i e
  forget_step r s i e h true false false m = h
  forget_step r s i e h false p true m = forgotten r s h i e
  forget_step r s i e h false p false m = h

  -- the first zeros of a base
  pub zeros_step : (base : BaseInfo) → IsPlaced n all top base → (on : Bool) (w u : Window) → WindowWithin w u → (x y : Option Exact) → ExactBelow on w u x y → Step (RowsRise l n top) on (copy_zeros l n base w x) (copy_zeros l n base u y)
  unfolding copy_zeros copy_part_at
  zeros_step base p on w u i x y k = walk_step (λ part at. at < length base.shape.zeros) (RowsRise l n top) on (copy_part l n base w x) (copy_part l n base u y)
      (λ part at e r s j. zero_rises o b all top r s j (zero_position base at) (zero_copied l n x part r) on (is_some (zero_target part w)) _
      (part_step r s j.below (zero_position base at) (p.zero at e) on w u x y k part (zero_target part w) (zero_target part u) refl refl (target_monotone part w u i)))
      0 base.shape.zeros (numbers_below (length base.shape.zeros) 0 base.shape.zeros (omega arith))
