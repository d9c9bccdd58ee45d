-- A map of no rows, at whose entry the start row arrives.
use Rattle.std.proofs.Common.{◌≡◌, ◌+◌, ◌*◌, ◌<◌, ◌≤◌, ℕ, zero, suc, true, List, [], ◌∷◌, map, length, replicate, Option, Some, None, slice_index_or, count_by, cond, refl, sym, ap, subst, arith, ◌∙◌}
use Rattle.std.proofs.lemmas.List.{length-map, length-replicate}
use Rattle.std.proofs.lemmas.List.Sums.{sum_by-cons}
use Rattle.cc_base.specs.Lattices.{LatticeOf, OrderLaws, RoundLaws}
use Rattle.cc_base.specs.Rows.{reached_leq}
use Rattle.cc_base.specs.Machine.{Machine, MachineLaws}
use Rattle.cc_base.specs.InductiveMap.{row_at, step, IsRoundedOrNone}
use Rattle.std.proofs.Math.Nat.{mul-le-mul_left}
use Rattle.fixpoint.specs.Pool.Pool.{Pool, row_of, IsTaken, IsWhole, SameBut}
use Rattle.fixpoint.specs.declared.pool.row_name.Row.{Row}
use Rattle.fixpoint.specs.Solver.SolverState.{arrive}
use Rattle.fixpoint.specs.Solver.Progress.{IsAttained, IsSound, HasEntry, IsMarked}
use Rattle.fixpoint.specs.Solver.RowMap.{slot_row, slot_mark, slot_index, is_vacant, is_held, rows_in, state_in, index_at, IsHeld, IsHeldBeside}
use Rattle.fixpoint.proofs.solver.Advance.{arrive-sound, arrive-above, arrive-mark}
use Rattle.fixpoint.proofs.solver.MapLaws.{row_at-rows_in}
use Rattle.fixpoint.proofs.solver.SpareLaws.{spare-state}
use Rattle.fixpoint.proofs.solver.SweepLaws.{length-marks}

replicate_vacant : (n b : ℕ) → slice_index_or (replicate n (let none : Option Row = None in none)) b None ≡ None
replicate_vacant zero b = refl
replicate_vacant (suc n) zero = refl
replicate_vacant (suc n) (suc b) = replicate_vacant n b

pub vacant : (slots : List (Option Row)) (n : ℕ) → slots ≡ replicate n None → (b : ℕ) → slice_index_or slots b None ≡ None
vacant slots n e b = ap (λ s. slice_index_or s b None) e ∙ replicate_vacant n b

pub vacant_index : (slots : List (Option Row)) (n : ℕ) → slots ≡ replicate n None → (b i : ℕ) → index_at slots b ≡ Some i → ⊥
vacant_index slots n e b i h = let none : index_at slots b ≡ None = ap slot_index (vacant slots n e b) in cc

replicate_count : (n : ℕ) → count_by is_vacant (replicate n None) ≡ n
replicate_count zero = refl
replicate_count (suc n) =
    let rest : count_by is_vacant (replicate n None) ≡ n = replicate_count n in
    sum_by-cons _ None (replicate n None) ∙ omega arith

pub vacant_count : (slots : List (Option Row)) (n : ℕ) → slots ≡ replicate n None → count_by is_vacant slots ≡ n
vacant_count slots n e = ap (count_by is_vacant) e ∙ replicate_count n

pub vacant_held : {C : Type 0} (p : Pool C) (slots : List (Option Row)) (n spare : ℕ) → slots ≡ replicate n None → IsWhole p → IsTaken p spare → IsHeldBeside p slots spare
vacant_held p slots n spare e whole t = record {
  whole = whole;
  held = record {
    taken = λ b i h. absurd (vacant_index slots n e b i h);
    apart = λ a b i h. absurd (vacant_index slots n e a i h);
  };
  in_use = t;
  beside = λ b h. vacant_index slots n e b spare h;
}

-- each entry of a map has a row or has none
pub held_count : (slots : List (Option Row)) → count_by is_held slots + count_by is_vacant slots ≡ length slots
held_count [] = refl
held_count (None ∷ slots) =
    let rest : count_by is_held slots + count_by is_vacant slots ≡ length slots = held_count slots in
    let a : count_by is_held (None ∷ slots) ≡ 0 + count_by is_held slots = sum_by-cons (λ x. cond (is_held x) 1 0) None slots in
    let b : count_by is_vacant (None ∷ slots) ≡ 1 + count_by is_vacant slots = sum_by-cons (λ x. cond (is_vacant x) 1 0) None slots in
    omega arith
held_count (Some row ∷ slots) =
    let rest : count_by is_held slots + count_by is_vacant slots ≡ length slots = held_count slots in
    let a : count_by is_held (Some row ∷ slots) ≡ 1 + count_by is_held slots = sum_by-cons (λ x. cond (is_held x) 1 0) (Some row) slots in
    let b : count_by is_vacant (Some row ∷ slots) ≡ 0 + count_by is_vacant slots = sum_by-cons (λ x. cond (is_vacant x) 1 0) (Some row) slots in
    omega arith

-- the row of the entry has arrived
pub start-state : {C : Type 0} (o : LatticeOf C) (m : Machine C) (p p1 q : Pool C) (slots slots' : List (Option Row)) (spare : ℕ) → IsHeldBeside p slots spare → SameBut p p1 spare → row_of p1 spare ≡ m.start → state_in q slots' ≡ arrive o m 0 (row_of p1 spare) (state_in p1 slots) → state_in q slots' ≡ arrive o m 0 m.start (state_in p slots)
start-state o m p p1 q slots slots' spare h k row st =
    st ∙ ap (λ x. arrive o m 0 x (state_in p1 slots)) row ∙ ap (arrive o m 0 m.start) (spare-state p p1 slots spare h k)

-- the spare row is given back
pub give-held : {C : Type 0} (p q : Pool C) (slots : List (Option Row)) (spare : ℕ) → IsHeldBeside p slots spare → ((s : ℕ) → (s ≡ spare → ⊥) → IsTaken p s → IsTaken q s) → IsHeld q slots
give-held p q slots spare h others = record {
  taken = λ b i e. others i (λ same. h.beside b (e ∙ ap Some same)) (h.held.taken b i e);
  apart = h.held.apart;
}

-- a pass that is not the last one
pub ticks_more : (edges a b s t most : ℕ) → t ≤ s + edges → a + 1 ≤ b → s + edges * (b + 1) ≤ most → t + edges * (a + 1) ≤ most
ticks_more edges a b s t most h fall bound =
    let le : edges * (a + 1 + 1) ≤ edges * (b + 1) = mul-le-mul_left edges (omega arith) in omega (arith, le)

-- and the last one
pub ticks_end : (edges a b s t i most : ℕ) → t ≤ s + edges → s + edges * (a + 1) ≤ i + edges * (b + 1) → b ≤ most → t ≤ i + edges * (most + 2)
ticks_end edges a b s t i most h bound le =
    let up : edges * (b + 1) ≤ edges * (most + 2) = mul-le-mul_left edges (omega arith) in
    let low : edges * 1 ≤ edges * (a + 1) = mul-le-mul_left edges (omega arith) in
    omega (arith, up, low)

module _ {C : Type 0} (o : LatticeOf C) (k : OrderLaws o) (r : RoundLaws o) (m : Machine C) (law : MachineLaws o m) (p : Pool C) (slots : List (Option Row)) (e : slots ≡ replicate m.blocks None) where
  no_row : (b : ℕ) → row_at (rows_in p slots) b ≡ None
  no_row b = row_at-rows_in p slots b ∙ ap (slot_row p) (vacant slots m.blocks e b)

  rows_size : length (rows_in p slots) ≡ m.blocks
  rows_size = length-map slots (slot_row p) ∙ ap length e ∙ length-replicate m.blocks None

  marks_size : length (map slot_mark slots) ≡ m.blocks
  marks_size = length-marks p slots ∙ rows_size

  vacant_sound : IsSound o m (rows_in p slots)
  vacant_sound = record {
    size = rows_size;
    attained = λ b. subst (IsAttained m) (sym (no_row b)) tt;
    rounded = λ b t. subst (IsRoundedOrNone o m) (sym (no_row b)) tt;
    least = λ mono other ind b. subst (λ v. reached_leq o v (row_at other b) ≡ true) (sym (no_row b)) refl;
  }

  pub begin-sound : IsSound o m (arrive o m 0 m.start (state_in p slots)).rows
  begin-sound = arrive-sound o k r m law 0 m.start (state_in p slots) law.some_block vacant_sound law.start_attained (λ mono other ind. ind.entry)

  pub begin-entry : HasEntry o m (arrive o m 0 m.start (state_in p slots)).rows
  begin-entry = arrive-above o k r m law 0 m.start (state_in p slots) law.some_block vacant_sound law.start_attained

  pub begin-marked : IsMarked o m (arrive o m 0 m.start (state_in p slots))
  begin-marked edge lt unmarked =
      let in_marks : 0 < length (map slot_mark slots) = let h : 0 < m.blocks = law.some_block in let s : length (map slot_mark slots) ≡ m.blocks = marks_size in omega arith in
      let was = arrive-mark o k r m law 0 m.start (state_in p slots) law.some_block vacant_sound law.start_attained (m.source edge) in_marks unmarked in
      subst (λ v. reached_leq o (step m edge v) (row_at (arrive o m 0 m.start (state_in p slots)).rows (m.target edge)) ≡ true)
      (sym (was.1 ∙ no_row (m.source edge))) refl
