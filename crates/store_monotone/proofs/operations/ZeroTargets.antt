-- Writes of characters and other writes to the first zeros of a base.
use Rattle.std.specs.Prelude.{◌≡◌, ℕ, ◌≤◌, ◌<◌, min, max, ℤ, pos, Bool, true, false, cond, ◌&&◌, nat_le, Option, Some, None, List, length, refl}
use Rattle.std.proofs.Common.{arith, sym, subst}
use Rattle.std.proofs.lemmas.Int.{ints}
use Rattle.std.proofs.lemmas.Bool.{and_from, and_parts, leb-true, le-leb, leb-false}
use Rattle.cc_base.specs.Lattices.{LatticeOf, OrderLaws}
use Rattle.cc_base.specs.IntegerDomains.{IntegersOf, BoundLaws, between_or_least}
use Rattle.cc_base.specs.declared.integer_operators.Tri.{Tri}
use Rattle.c_layout.specs.declared.shapes.BaseInfo.{BaseInfo}
use Rattle.c_layout.specs.declared.shapes.ZeroPart.{ZeroPart}
use Rattle.pointer_domain.specs.declared.base_sets.Bases.{Bases}
use Rattle.pointer_domain.specs.BaseSets.{no_base}
use Rattle.value_domain.specs.Strings.FirstZeros.{the_end}
use Rattle.value_domain.specs.Strings.ZeroTables as zeros
use Rattle.value_domain.specs.declared.strings.first_zeros.FirstZero.{FirstZero}
use Rattle.value_domain.specs.declared.values.row_cells.Cell.{Cell}
use Rattle.value_domain.specs.declared.values.row_cells.Cell.TheVariants.{First}
use Rattle.value_domain.specs.Values.Cells.{cell_leq, cell_order}
use Rattle.store_cells.specs.declared.access_windows.Window.{Window}
use Rattle.store_cells.specs.declared.first_zero_writes.ZeroTarget.{ZeroTarget}
use Rattle.store_cells.specs.AccessWindows.{last_offset, window_between, window_met}
use Rattle.store_cells.specs.RowPositions.{cell_at, zero_position, zero_at, put_zero}
use Rattle.store_cells.specs.FirstZeroWrites.{last_of, has_no_bytes, target_at, zero_target, any_zero, offsets_of, sure_or_joined, put_target, put_part, put_character, forget_target, forget_part, forget_zeros}
use Rattle.cc_base.specs.IntegerLaws.{tri_leq}
use Rattle.domain_theorems.proofs.values.Ranges.{of_range_monotone}
use Rattle.store_monotone.proofs.operations.PairedSteps.{Step, walk_step, numbers_below}
use Rattle.store_monotone.specs.Operations.Placements.{WindowWithin, IsPlaced}
use Rattle.store_monotone.specs.Operations.TopCells.{top_number, top_zero}
use Rattle.store_monotone.proofs.operations.NearCells.{near_is, near_monotone}
use Rattle.store_monotone.proofs.operations.FirstZeros.{zero_at_monotone, zero_at_top, first_below_at, zero_near}
use Rattle.store_monotone.proofs.operations.PutZeros.{put_monotone, put_top}
use Rattle.store_monotone.specs.Operations.RowsBelow.{RowsBelow}
use Rattle.store_monotone.proofs.operations.CellSteps.{put_pair, put_above}

-- a target of a smaller window: where the larger window has no byte outside the array, nor has the smaller one
abbrev pub TargetBelow : Option ZeroTarget → Option ZeroTarget → Type 0
TargetBelow None None = Unit {0}
TargetBelow None (Some t) = (t.whole ≡ true → ⊥) × (t.local.hi ≤ last_offset)
TargetBelow (Some s) None = ⊥
TargetBelow (Some s) (Some t) = WindowWithin s.local t.local × (t.whole ≡ true → s.whole ≡ true)

targets : (part : ZeroPart) (hi : ℕ) → hi ≡ last_of part.offset part.size → (w u : Window) → WindowWithin w u → (a c : Bool) → nat_le (max w.lo part.offset) (min w.hi hi) ≡ a → nat_le (max u.lo part.offset) (min u.hi hi) ≡ c
    → TargetBelow (target_at part w (cond a (Some (window_between (max w.lo part.offset) (min w.hi hi))) None)) (target_at part u (cond c (Some (window_between (max u.lo part.offset) (min u.hi hi))) None))
targets part hi z w u i false false d e = tt
targets part hi z w u i false true d e = (
  λ k.
      let p = and_parts (nat_le part.offset u.lo) (nat_le u.hi (last_of part.offset part.size)) k in
      let x = leb-true part.offset u.lo p.0 in
      let y = leb-true u.hi (last_of part.offset part.size) p.1 in
      let v = leb-false (max w.lo part.offset) (min w.hi hi) d in
      let i0 = i.lo in let i1 = i.some in let i2 = i.hi in omega arith,
  (let i3 = i.near in omega arith),
)
targets part hi z w u i true false d e =
    let v = leb-true (max w.lo part.offset) (min w.hi hi) d in
    let x = leb-false (max u.lo part.offset) (min u.hi hi) e in
    let i0 = i.lo in let i2 = i.hi in absurd (omega arith)
targets part hi z w u i true true d e =
    let v = leb-true (max w.lo part.offset) (min w.hi hi) d in
    let i0 = i.lo in let i1 = i.some in let i2 = i.hi in let i3 = i.near in (
      record { lo = omega arith; some = omega arith; hi = omega arith; near = omega arith },
      λ k.
          let p = and_parts (nat_le part.offset u.lo) (nat_le u.hi (last_of part.offset part.size)) k in
          let x = leb-true part.offset u.lo p.0 in
          let y = leb-true u.hi (last_of part.offset part.size) p.1 in
          and_from _ _ (le-leb part.offset w.lo (omega arith)) (le-leb w.hi (last_of part.offset part.size) (omega arith)),
    )

pub target_monotone : (part : ZeroPart) (w u : Window) → WindowWithin w u → TargetBelow (zero_target part w) (zero_target part u)
target_monotone part w u i = by_bytes (has_no_bytes part.size)
  where
    by_bytes : (none : Bool) → TargetBelow (cond none None (target_at part w (window_met w part.offset (last_of part.offset part.size)))) (cond none None (target_at part u (window_met u part.offset (last_of part.offset part.size))))
    by_bytes true = tt
    by_bytes false = targets part (last_of part.offset part.size) refl w u i _ _ refl refl

module _ {I : Type 0} {l : LatticeOf I} {n : IntegersOf I} {stands : I → ℤ → Type 0} (o : OrderLaws l) (b : BoundLaws l n stands) where
  all_zeros : I
  all_zeros = n.between (pos 0) the_end

  numbers_monotone : (w u : Window) → WindowWithin w u → l.leq (between_or_least l n (pos w.lo) (pos w.hi)) (between_or_least l n (pos u.lo) (pos u.hi)) ≡ true
  numbers_monotone w u i = of_range_monotone o b (Some (pos w.lo, pos w.hi)) (Some (pos u.lo, pos u.hi)) (let i0 = i.lo in omega (arith, ints), let i2 = i.hi in omega (arith, ints))

  numbers_top : (u : Window) → u.hi ≤ last_offset → l.leq (between_or_least l n (pos u.lo) (pos u.hi)) (n.between (pos 0) the_end) ≡ true
  numbers_top u i = of_range_monotone o b (Some (pos u.lo, pos u.hi)) (Some (pos 0, the_end)) (omega (arith, ints), omega (arith, ints))

  pub offsets_monotone : (w u : Window) → WindowWithin w u → l.leq (offsets_of l n w) (offsets_of l n u) ≡ true
  offsets_monotone w u i = near_monotone o b (between_or_least l n (pos w.lo) (pos w.hi)) (between_or_least l n (pos u.lo) (pos u.hi)) (numbers_monotone w u i)
      (o.transitive (between_or_least l n (pos u.lo) (pos u.hi)) (n.between (pos 0) the_end) (top_number n) (numbers_top u i.near) (zero_near o b))

  pub offsets_top : (u : Window) → u.hi ≤ last_offset → l.leq (offsets_of l n u) (n.between (pos 0) the_end) ≡ true
  offsets_top u i =
      let e = near_is o b (between_or_least l n (pos u.lo) (pos u.hi)) (o.transitive (between_or_least l n (pos u.lo) (pos u.hi)) (n.between (pos 0) the_end) (top_number n) (numbers_top u i) (zero_near o b)) in
      subst (λ x. l.leq x (n.between (pos 0) the_end) ≡ true) (sym e) (numbers_top u i)

  pub sure_monotone : (a c : Bool) → (c ≡ true → a ≡ true) → (f d g e : FirstZero I) → l.leq f.at d.at ≡ true → l.leq g.at e.at ≡ true → l.leq (sure_or_joined l a f g).at (sure_or_joined l c d e).at ≡ true
  sure_monotone true true h f d g e i j = j
  sure_monotone true false h f d g e i j = o.transitive g.at e.at (l.join d.at e.at) j (o.join_right d.at e.at)
  sure_monotone false true h f d g e i j = absurd (let t : false ≡ true = h refl in cc)
  sure_monotone false false h f d g e i j = o.join_least f.at g.at (l.join d.at e.at) (o.transitive f.at d.at (l.join d.at e.at) i (o.join_left d.at e.at)) (o.transitive g.at e.at (l.join d.at e.at) j (o.join_right d.at e.at))

  pub sure_top : (c : Bool) (d e : FirstZero I) (t : I) → l.leq d.at t ≡ true → l.leq e.at t ≡ true → l.leq (sure_or_joined l c d e).at t ≡ true
  sure_top true d e t i j = j
  sure_top false d e t i j = o.join_least d.at e.at t i j

  pub sure_above : (c : Bool) → (c ≡ true → ⊥) → (d e : FirstZero I) → l.leq d.at (sure_or_joined l c d e).at ≡ true
  sure_above true h d e = absurd (h refl)
  sure_above false h d e = o.join_left d.at e.at

  module _ (top r s : List (Cell I)) (i : ℕ) (h : RowsBelow l top r s) (e : cell_at top i ≡ First (top_zero n)) where
    at_top : (f : FirstZero I) → l.leq f.at (n.between (pos 0) the_end) ≡ true → cell_leq l (First f) (cell_at top i) ≡ true
    at_top f k = subst (λ c. cell_leq l (First f) c ≡ true) (sym e) k

    -- the larger write alone
    alone_above : (t : ZeroTarget) (y : Tri) (two : Bool) → (two ≡ true → t.whole ≡ true → ⊥) → t.local.hi ≤ last_offset → RowsBelow l top r (put_target l n s i (Some t) y two)
    unfolding put_target
    alone_above t y two never j =
        let old = zero_at l n s i in
        let new = zeros.put_at l n old (offsets_of l n t.local) y in
        let old_top = zero_at_top o b top r s i h.small h.large e in
        put_above o b no_base top i r s (First (sure_or_joined l (two && t.whole) old new)) h
        ((cell_order o).transitive (cell_at r i) (First old) (First (sure_or_joined l (two && t.whole) old new)) (first_below_at o b top r s i h.small h.large e)
        (sure_above (two && t.whole) (λ k. let p = and_parts two t.whole k in never p.0 p.1) old new))
        (at_top (sure_or_joined l (two && t.whole) old new) (sure_top (two && t.whole) old new (n.between (pos 0) the_end) old_top (put_top o b old old (offsets_of l n t.local) (offsets_of l n t.local) (o.reflexive old.at) (o.reflexive (offsets_of l n t.local)) old_top (offsets_top t.local j) y)))

    -- both writes
    both_pair : (f t : ZeroTarget) (x y : Tri) (one two : Bool) → WindowWithin f.local t.local → (t.whole ≡ true → f.whole ≡ true) → tri_leq x y ≡ true → (two ≡ true → one ≡ true) → RowsBelow l top (put_target l n r i (Some f) x one) (put_target l n s i (Some t) y two)
    unfolding put_target
    both_pair f t x y one two j k z a =
        let fold = zero_at l n r i in
        let fnew = zeros.put_at l n fold (offsets_of l n f.local) x in
        let old = zero_at l n s i in
        let new = zeros.put_at l n old (offsets_of l n t.local) y in
        let old_monotone = zero_at_monotone o b top r s i h.small h.large e in
        let old_top = zero_at_top o b top r s i h.small h.large e in
        let off_monotone = offsets_monotone f.local t.local j in
        let off_top = offsets_top t.local j.near in
        put_pair o b no_base top i r s (First (sure_or_joined l (one && f.whole) fold fnew)) (First (sure_or_joined l (two && t.whole) old new)) h
        (sure_monotone (one && f.whole) (two && t.whole) (λ c. let p = and_parts two t.whole c in and_from _ _ (a p.0) (k p.1)) fold old fnew new old_monotone
        (put_monotone o b fold old (offsets_of l n f.local) (offsets_of l n t.local) old_monotone off_monotone old_top off_top x y z))
        (at_top (sure_or_joined l (two && t.whole) old new) (sure_top (two && t.whole) old new (n.between (pos 0) the_end) old_top (put_top o b old old (offsets_of l n t.local) (offsets_of l n t.local) (o.reflexive old.at) (o.reflexive (offsets_of l n t.local)) old_top off_top y)))

    target_step : (f t : Option ZeroTarget) → TargetBelow f t → (x y : Tri) → tri_leq x y ≡ true → (on one two : Bool) → (two ≡ true → (on ≡ true) × (one ≡ true))
        → RowsBelow l top (cond on (put_target l n r i f x one) r) (put_target l n s i t y two)
    unfolding put_target
    target_step None None k x y z true one two a = h
    target_step None None k x y z false one two a = h
    target_step (Some f) None k x y z on one two a = absurd k
    target_step None (Some t) k x y z true one two a = alone_above t y two (λ c d. k.0 d) k.1
    target_step None (Some t) k x y z false one two a = alone_above t y two (λ c d. k.0 d) k.1
    target_step (Some f) (Some t) k x y z true one two a = both_pair f t x y one two k.0 k.1 z (λ c. (a c).1)
    target_step (Some f) (Some t) k x y z false one two a = alone_above t y two (λ c d. absurd (let v : false ≡ true = (a c).0 in cc)) k.0.near

    forget_above : RowsBelow l top r (put_zero s i (any_zero l n))
    forget_above = put_above o b no_base top i r s (First (any_zero l n)) h
        ((cell_order o).transitive (cell_at r i) (First (zero_at l n s i)) (First (any_zero l n)) (first_below_at o b top r s i h.small h.large e) (zero_at_top o b top r s i h.small h.large e))
        (at_top (any_zero l n) (o.reflexive (any_zero l n).at))

    -- nothing is known any more
    forgets : (f t : Option ZeroTarget) → TargetBelow f t → (on : Bool) → RowsBelow l top (cond on (forget_target l n r i f) r) (forget_target l n s i t)
    unfolding forget_target
    forgets None None k true = h
    forgets None None k false = h
    forgets (Some f) None k on = absurd k
    forgets None (Some t) k true = forget_above
    forgets None (Some t) k false = forget_above
    forgets (Some f) (Some t) k false = forget_above
    forgets (Some f) (Some t) k true = put_pair o b no_base top i r s (First (any_zero l n)) (First (any_zero l n)) h (o.reflexive (any_zero l n).at) (at_top (any_zero l n) (o.reflexive (any_zero l n).at))

  module _ (all : Bases) (top : List (Cell I)) (base : BaseInfo) (p : IsPlaced n all top base) (on : Bool) (w u : Window) (i : WindowWithin w u) where
    -- a character is written in the window
    pub character_step : (x y : Tri) → tri_leq x y ≡ true → (one two : Bool) → (two ≡ true → (on ≡ true) × (one ≡ true)) → Step (RowsBelow l top) on (put_character l n base w x one) (put_character l n base u y two)
    unfolding put_character
    character_step x y z one two a = walk_step (λ part at. at < length base.shape.zeros) (RowsBelow l top) on (put_part l n base w x one) (put_part l n base u y two)
        (λ part at e r s j. target_step top r s (zero_position base at) j (p.zero at e) (zero_target part w) (zero_target part u) (target_monotone part w u i) x y z on one two a)
        0 base.shape.zeros (numbers_below (length base.shape.zeros) 0 base.shape.zeros (omega arith))

    -- nothing is known any more of the arrays that the window meets
    pub forget_step : Step (RowsBelow l top) on (forget_zeros l n base w) (forget_zeros l n base u)
    unfolding forget_zeros
    forget_step = walk_step (λ part at. at < length base.shape.zeros) (RowsBelow l top) on (forget_part l n base w) (forget_part l n base u)
        (λ part at e r s j. forgets top r s (zero_position base at) j (p.zero at e) (zero_target part w) (zero_target part u) (target_monotone part w u i) on)
        0 base.shape.zeros (numbers_below (length base.shape.zeros) 0 base.shape.zeros (omega arith))
