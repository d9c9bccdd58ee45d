-- A row beside a map changes, and changes that come one after another.
use Rattle.std.proofs.Common.{◌≡◌, ◌&&◌, ℕ, not, List, length, Option, Some, None, slice_index_or, count_by, refl, sym, ap, arith, ◌∙◌}
use Rattle.cc_base.specs.Lattices.{LatticeOf}
use Rattle.cc_base.specs.Machine.{Machine}
use Rattle.cc_base.specs.InductiveMap.{row_at, step}
use Rattle.fixpoint.specs.Pool.Pool.{Pool, row_of, with_row, IsTaken, IsWhole, free_count, SameBut}
use Rattle.fixpoint.specs.Pool.PoolLaws.{SameBut-whole, SameBut-with_row, SameBut-trans, length-row_of, row_of-same}
use Rattle.fixpoint.specs.declared.pool.row_name.Row.{Row}
use Rattle.fixpoint.specs.Solver.SolverState.{arrive_if, grows_if, advance, head_grows}
use Rattle.fixpoint.specs.Solver.RowMap.{slot_row, rows_in, state_in, IsHeldBeside, Changed}
use Rattle.fixpoint.proofs.solver.SlotLaws.{IsTaken-same_but, write-same_but, write-row}
use Rattle.fixpoint.proofs.solver.MapLaws.{row_at-rows_in, map-agree, slot_row-kept, same_state}

module _ {C : Type 0} (p q : Pool C) (slots : List (Option Row)) (spare : ℕ) (h : IsHeldBeside p slots spare) (k : SameBut p q spare) where
  pub spare-changed : Changed p slots spare q slots
  spare-changed = record {
    width = k.width;
    size = refl;
    held = record {
      whole = SameBut-whole p q spare k h.whole;
      held = record {
        taken = λ b i e. IsTaken-same_but p q spare i k (h.held.taken b i e);
        apart = h.held.apart;
      };
      in_use = IsTaken-same_but p q spare spare k h.in_use;
      beside = h.beside;
    };
    others = λ s t ne out. (IsTaken-same_but p q spare s k t, k.others s ne t, out);
    room = let e : free_count q ≡ free_count p = ap (count_by not) k.taken in omega arith;
  }

  pub spare-rows : rows_in q slots ≡ rows_in p slots
  spare-rows =
      map-agree (slot_row q) (slot_row p) slots
      (λ d x e. slot_row-kept p q slots d x e (λ i f.
      let ne : i ≡ spare → ⊥ = λ same. h.beside d (f ∙ ap Some same) in
      k.others i ne (h.held.taken d i f)))

  pub spare-state : state_in q slots ≡ state_in p slots
  spare-state = same_state spare-rows refl

pub Changed-trans : {C : Type 0} (p q u : Pool C) (a b c : List (Option Row)) (spare : ℕ) → Changed p a spare q b → Changed q b spare u c → Changed p a spare u c
Changed-trans p q u a b c spare h k = record {
  width = k.width ∙ h.width;
  size = k.size ∙ h.size;
  held = k.held;
  others = λ s t ne out.
      let first = h.others s t ne out in
      let second = k.others s first.0 ne first.2 in
      (second.0, second.1 ∙ first.1, second.2);
  room = omega (arith, h.room, k.room);
}

pub Changed-refl : {C : Type 0} (p : Pool C) (a : List (Option Row)) (spare : ℕ) → IsHeldBeside p a spare → Changed p a spare p a
Changed-refl p a spare h = record {
  width = refl;
  size = refl;
  held = h;
  others = λ s t ne out. (t, refl, out);
  room = refl;
}

-- what an edge makes of its source's row is known
module _ {C : Type 0} (o : LatticeOf C) (m : Machine C) (e from : ℕ) (p : Pool C) (slots : List (Option Row)) (v : Option (List C)) (at : from ≡ m.source e) (gives : step m e (slot_row p (slice_index_or slots from None)) ≡ v) where
  step_is : step m e (row_at (rows_in p slots) (m.source e)) ≡ v
  step_is =
      ap (step m e) (row_at-rows_in p slots (m.source e))
      ∙ ap (λ b. step m e (slot_row p (slice_index_or slots b None))) (sym at)
      ∙ gives

  pub advance-is : advance o m e (state_in p slots) ≡ arrive_if o m (m.target e) v (state_in p slots)
  advance-is = ap (λ w. arrive_if o m (m.target e) w (state_in p slots)) step_is

  pub head_grows-is : head_grows o m e (state_in p slots) ≡ (grows_if o (row_at (rows_in p slots) (m.target e)) v && m.head (m.target e))
  head_grows-is = ap (λ w. grows_if o (row_at (rows_in p slots) (m.target e)) w && m.head (m.target e)) step_is

-- a row is copied into another one, which is then written
module _ {C : Type 0} (p p1 : Pool C) (row spare : ℕ) (whole : IsWhole p) (t : IsTaken p row) (ts : IsTaken p spare) (copied : p1 ≡ with_row p spare (row_of p row)) where
  pub copied-row : row_of p1 spare ≡ row_of p row
  copied-row = write-row p p1 spare (row_of p row) copied whole ts (length-row_of p row whole t)

  copied-same_but : SameBut p p1 spare
  copied-same_but = write-same_but p p1 spare (row_of p row) copied whole ts (length-row_of p row whole t)

  pub rewritten-same_but : (new : List C) → length new ≡ p1.width → SameBut p (with_row p1 spare new) spare
  rewritten-same_but new len =
      SameBut-trans p p1 (with_row p1 spare new) spare copied-same_but
      (SameBut-with_row p1 spare new (SameBut-whole p p1 spare copied-same_but whole) (IsTaken-same_but p p1 spare spare copied-same_but ts) len)

  pub rewritten-row : (new : List C) → length new ≡ p1.width → row_of (with_row p1 spare new) spare ≡ new
  rewritten-row new len =
      row_of-same p1 spare new (SameBut-whole p p1 spare copied-same_but whole) (IsTaken-same_but p p1 spare spare copied-same_but ts) len
