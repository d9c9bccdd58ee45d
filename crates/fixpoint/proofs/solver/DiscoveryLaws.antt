-- A row that was free is taken and written: it becomes the row of a block, or is given back.
use Rattle.std.proofs.Common.{◌≡◌, ◌||◌, ◌<◌, ◌&&◌, ℕ, zero, suc, Bool, true, false, not, List, [], ◌∷◌, length, set, Option, Some, None, slice_get, slice_index_or, count_by, refl, sym, ap, subst, arith, ◌∙◌}
use Rattle.cc_base.specs.Lattices.{LatticeOf}
use Rattle.cc_base.specs.Rows.{row_rounded_if}
use Rattle.cc_base.specs.Machine.{Machine}
use Rattle.cc_base.specs.InductiveMap.{row_at, step, IsOwn}
use Rattle.fixpoint.specs.Pool.Pool.{Pool, row_of, with_mark, with_taken, IsTaken, IsFree, IsWhole, free_count, SameBut}
use Rattle.fixpoint.specs.Pool.PoolLaws.{SameBut-whole, SameBut-trans, IsTaken-other, row_of-taken, length-with_taken, free_apart}
use Rattle.fixpoint.specs.declared.pool.row_name.Row.{Row}
use Rattle.fixpoint.specs.Solver.SolverState.{State, arrive, arrived, advance, head_grows, grows_if}
use Rattle.fixpoint.specs.Solver.RowMap.{slot_row, slot_mark, slot_index, is_vacant, rows_in, state_in, IsHeldBeside, Changed, SlotChanged}
use Rattle.fixpoint.proofs.solver.SlotLaws.{IsTaken-same_but, slot-new}
use Rattle.fixpoint.proofs.solver.MapLaws.{row_at-rows_in, map-agree, slot_row-kept, same_state, map-changed, map-state}
use Rattle.fixpoint.proofs.solver.SpareLaws.{advance-is, head_grows-is}

pub vacant-none : (slot : Option Row) → is_vacant slot ≡ true → slot ≡ None
vacant-none None t = refl
vacant-none (Some row) t = absurd (cc)

-- a mark that is set and taken off again
mark-back : (marks : List Bool) (r : ℕ) → slice_get marks r ≡ Some false → set (set marks r true) r false ≡ marks
mark-back [] r free = refl
mark-back (x ∷ marks) zero free = cc
mark-back (x ∷ marks) (suc r) free = let rest : set (set marks r true) r false ≡ marks = mark-back marks r free in cc

pub given-same_but : {C : Type 0} (p q : Pool C) (r : ℕ) → IsWhole p → IsFree p r → SameBut (with_taken p r) q r → SameBut p (with_mark q r false) r
given-same_but p q r whole free k = record {
  width = k.width;
  taken = ap (λ marks. set marks r false) k.taken ∙ mark-back p.taken r free;
  cells = omega (arith, length-with_taken p r, k.cells);
  others = λ s ne t. k.others s ne (IsTaken-other p r s ne t) ∙ row_of-taken p r s whole t;
}

-- the rows of a map do not depend on the marks
pub given-rows : {C : Type 0} (p : Pool C) (r : ℕ) (slots : List (Option Row)) → rows_in (with_mark p r false) slots ≡ rows_in p slots
given-rows p r [] = refl
given-rows p r (None ∷ slots) = ap (λ rest. None ∷ rest) (given-rows p r slots)
given-rows p r (Some row ∷ slots) = ap (λ rest. Some (row_of p row.index) ∷ rest) (given-rows p r slots)

-- a row in use keeps its cells when another one is taken
pub taken-row : {C : Type 0} (p q : Pool C) (r : ℕ) (slot : Option Row) → IsWhole p → ((i : ℕ) → slot_index slot ≡ Some i → IsTaken p i) → q ≡ with_taken p r → slot_row q slot ≡ slot_row p slot
taken-row p q r None whole t e = refl
taken-row p q r (Some row) whole t e = ap (λ u. Some (row_of u row.index)) e ∙ ap Some (row_of-taken p r row.index whole (t row.index refl))

-- where a free row is written, the map and the row beside it are as before
module _ {C : Type 0} (p q : Pool C) (slots : List (Option Row)) (spare r : ℕ) (h : IsHeldBeside p slots spare) (free : IsFree p r) (k : SameBut p q r) where
  pub free-changed : Changed p slots spare q slots
  free-changed = record {
    width = k.width;
    size = refl;
    held = record {
      whole = SameBut-whole p q r k h.whole;
      held = record {
        taken = λ b i e. IsTaken-same_but p q r i k (h.held.taken b i e);
        apart = h.held.apart;
      };
      in_use = IsTaken-same_but p q r spare k h.in_use;
      beside = h.beside;
    };
    others = λ s t ne out. (IsTaken-same_but p q r s k t, k.others s (free_apart p r s free t) t, out);
    room = let e : free_count q ≡ free_count p = ap (count_by not) k.taken in omega arith;
  }

  pub free-state : state_in q slots ≡ state_in p slots
  free-state =
      same_state
      (map-agree (slot_row q) (slot_row p) slots
      (λ d x e. slot_row-kept p q slots d x e (λ i f.
      let t : IsTaken p i = h.held.taken d i f in
      k.others i (free_apart p r i free t) t)))
      refl

-- a row that was free becomes the row of a block that had none
module _ {C : Type 0} (p q : Pool C) (slots : List (Option Row)) (b spare : ℕ) (row : Row) (lt : b < length slots) (at : slice_index_or slots b None ≡ None) (h : IsHeldBeside p slots spare) (free : IsFree p row.index) (k : SameBut (with_taken p row.index) q row.index) where
  settled : SlotChanged p None q (Some row)
  settled = slot-new p q row h.whole free k

  pub settled-changed : Changed p slots spare q (set slots b (Some row))
  settled-changed = map-changed p q slots b None (Some row) spare lt at h settled

  pub settled-state : (o : LatticeOf C) (m : Machine C) (x : List C) → row_of q row.index ≡ row_rounded_if o m.list (m.head b) x → row.marked ≡ true → state_in q (set slots b (Some row)) ≡ arrive o m b x (state_in p slots)
  settled-state o m x e marked =
      map-state p q slots b None (Some row) spare lt at h settled o m x (ap Some e) marked

-- what an edge to a block that has no row gives
module _ {C : Type 0} (o : LatticeOf C) (m : Machine C) (e from to : ℕ) (p : Pool C) (slots : List (Option Row)) (x : List C) (at_from : from ≡ m.source e) (at_to : to ≡ m.target e) (none : slice_index_or slots to None ≡ None) (gives : step m e (slot_row p (slice_index_or slots from None)) ≡ Some x) where
  pub discovered-state : arrive o m to x (state_in p slots) ≡ advance o m e (state_in p slots)
  discovered-state =
      ap (λ t. arrive o m t x (state_in p slots)) at_to
      ∙ sym (advance-is o m e from p slots (Some x) at_from gives)

  no-row : row_at (rows_in p slots) (m.target e) ≡ None
  no-row =
      ap (row_at (rows_in p slots)) (sym at_to)
      ∙ row_at-rows_in p slots to
      ∙ ap (slot_row p) none

  pub discovered-grows : m.head to ≡ head_grows o m e (state_in p slots)
  discovered-grows =
      ap m.head at_to
      ∙ sym (ap (λ old. grows_if o old (Some x) && m.head (m.target e)) no-row)
      ∙ sym (head_grows-is o m e from p slots (Some x) at_from gives)

-- what an edge that is not taken gives
module _ {C : Type 0} (o : LatticeOf C) (m : Machine C) (e from : ℕ) (p : Pool C) (slots : List (Option Row)) (at_from : from ≡ m.source e) (gives : step m e (slot_row p (slice_index_or slots from None)) ≡ None) where
  pub missed-state : state_in p slots ≡ advance o m e (state_in p slots)
  missed-state = sym (advance-is o m e from p slots None at_from gives)

  pub missed-grows : false ≡ head_grows o m e (state_in p slots)
  missed-grows = sym (head_grows-is o m e from p slots None at_from gives)
