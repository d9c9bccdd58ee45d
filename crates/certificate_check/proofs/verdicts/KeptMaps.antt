-- A pool that is as before, and the maps of its rows.
use Rattle.std.proofs.Common.{◌≡◌, ◌∙◌, ◌+◌, ◌*◌, ◌≤◌, take, drop, ℕ, ℤ, zero, suc, true, false, not, List, length, replicate, Option, Some, None, slice_get, slice_index_or, count_by, refl, sym, ap, subst, arith}
use Rattle.cc_base.specs.InductiveMap.{row_at, IsOwn}
use Rattle.cc_base.specs.Machine.{Machine}
use Rattle.interval_domain.specs.Intervals.IntervalLattice.{interval_lattice}
use Rattle.interval_domain.specs.Intervals.IntervalNumbers.{interval_numbers}
use Rattle.transfer_system.specs.System.FlowMachines.{flow_machine}
use Rattle.certificate_check.specs.declared.closed_maps.closed_maps.MapFault.{MapFault}
use Rattle.certificate_check.specs.declared.closed_maps.closed_maps.MapFault.TheVariants as map_fault
use Rattle.certificate_check.specs.ClosedMaps.MapFaults.{IsFirstFault}
use Rattle.interval_domain.specs.declared.intervals.intervals.Interval.{Interval}
use Rattle.value_domain.specs.declared.values.row_cells.Cell.{Cell}
use Rattle.cfg.specs.declared.programs.Flow.{Flow}
use Rattle.fixpoint.specs.Pool.Pool.{Pool, row_of, with_mark, with_taken, IsTaken, IsFree, IsWhole, free_count, SameBut}
use Rattle.fixpoint.specs.Pool.PoolLaws.{free_apart}
use Rattle.fixpoint.specs.declared.pool.row_name.Row.{Row}
use Rattle.fixpoint.specs.Solver.RowMap.{slot_row, slot_index, rows_in, index_at, is_held, IsHeld, IsHeldBeside}
use Rattle.fixpoint.proofs.solver.MapLaws.{map-agree, slot_row-kept}
use Rattle.fixpoint.proofs.solver.StartLaws.{vacant, vacant_index}
use Rattle.certificate_text.specs.Lines.LineWords.{Bytes}
use Rattle.certificate_check.specs.Reading.FilledMaps.{Filled}
use Rattle.certificate_check.specs.Reading.MapReading.{map_rows}
use Rattle.certificate_check.specs.Reading.OwnReading.{IsOwnRow, map_rows_own}
use Rattle.certificate_check.specs.Verdicts.KeptPools.{Kept}
use Rattle.certificate_check.specs.Verdicts.Verdicts.{cert_cells, cert_machine, fault_of, IsOfForm, IsRefusedFor}

-- the rows of a map are as they were where the pool keeps them
pub rows_kept : {C : Type 0} (p q : Pool C) (slots : List (Option Row)) → ((b i : ℕ) → index_at slots b ≡ Some i → row_of q i ≡ row_of p i) → rows_in q slots ≡ rows_in p slots
rows_kept p q slots h = map-agree (slot_row q) (slot_row p) slots (λ d x e. slot_row-kept p q slots d x e (λ i f. h d i f))

-- a row that was free is beside the map
pub held_beside : {C : Type 0} (p q : Pool C) (slots : List (Option Row)) (spare : ℕ) → IsHeld p slots → IsFree p spare → IsWhole q → IsTaken q spare → ((s : ℕ) → IsTaken p s → IsTaken q s) → IsHeldBeside q slots spare
held_beside p q slots spare held free whole taken others = record {
  whole = whole;
  held = record { taken = λ b i e. others i (held.taken b i e); apart = held.apart };
  in_use = taken;
  beside = λ b e. free_apart p spare spare free (held.taken b spare e) refl;
}

-- a row is taken, written and given back
pub borrowed : {C : Type 0} (p q u v : Pool C) (spare : ℕ) → IsFree p spare → q ≡ with_taken p spare → ((s : ℕ) → IsTaken p s → IsTaken q s) → ((s : ℕ) → IsTaken p s → row_of q s ≡ row_of p s) → free_count q + 1 ≡ free_count p → SameBut q u spare → v ≡ with_mark u spare false → ((s : ℕ) → (s ≡ spare → ⊥) → IsTaken u s → IsTaken v s) → free_count v ≡ free_count u + 1 → IsWhole v → Kept p v
borrowed {C = C} p q u v spare free took others kept count same gave given more whole =
    let width_u : u.width ≡ p.width = same.width ∙ ap (λ (x : Pool C). x.width) took in
    record {
      width = ap (λ (x : Pool C). x.width) gave ∙ width_u;
      whole = whole;
      room = let e : free_count u ≡ free_count q = ap (count_by not) same.taken in omega arith;
      others = λ s t.
          let ne : s ≡ spare → ⊥ = free_apart p spare s free t in
          let in_q : IsTaken q s = others s t in
          let in_u : IsTaken u s = ap (λ ts. slice_get ts s) same.taken ∙ in_q in
          (given s ne in_u, ap (λ (x : Pool C). row_of x s) gave ∙ same.others s ne in_q ∙ kept s t);
    }

-- a map that was filled stays filled
pub filled_kept : {C : Type 0} (p q u : Pool C) (slots : List (Option Row)) (n : ℕ) → Filled p q slots n → Kept q u → Filled p u slots n
filled_kept p q u slots n f k = record {
  width = k.width ∙ f.width;
  whole = k.whole;
  held = record { taken = λ b i e. (k.others i (f.held.taken b i e)).0; apart = f.held.apart };
  room = let r : free_count q + count_by is_held slots ≡ free_count p = f.room in let s : free_count u ≡ free_count q = k.room in omega arith;
  others = λ s t.
      let was = f.others s t in
      let now = k.others s was.0 in
      (now.0, now.1 ∙ was.1, was.2);
  few = f.few;
  rest = f.rest;
}

pub kept_map : {C : Type 0} (p q u : Pool C) (slots : List (Option Row)) (n : ℕ) → Filled p q slots n → Kept q u → rows_in u slots ≡ rows_in q slots
kept_map p q u slots n f k = rows_kept q u slots (λ b i e. (k.others i (f.held.taken b i e)).1)

own_as : (flow : Flow) (row : Option (List (Cell Interval))) → IsOwnRow flow row → IsOwn (cert_machine flow) row
own_as flow None h = tt
own_as flow (Some row) h = h

-- the rows that are read are own ones of the program's system
pub read_own : (flow : Flow) (text : Bytes) (rows : List (Option (List (Cell Interval)))) → rows ≡ map_rows flow text → (b : ℕ) → IsOwn (cert_machine flow) (row_at rows b)
read_own flow text rows e b = subst (λ rs. IsOwn (cert_machine flow) (row_at rs b)) (sym e) (own_as flow (row_at (map_rows flow text) b) (map_rows_own flow text b))

-- a map without rows
replicate_held : (n : ℕ) → count_by is_held (replicate n None) ≡ 0
replicate_held zero = refl
replicate_held (suc n) = replicate_held n

pub none_held : (slots : List (Option Row)) (n : ℕ) → slots ≡ replicate n None → count_by is_held slots ≡ 0
none_held slots n e = ap (count_by is_held) e ∙ replicate_held n

pub vacant_is_held : {C : Type 0} (p : Pool C) (slots : List (Option Row)) (n : ℕ) → slots ≡ replicate n None → IsHeld p slots
vacant_is_held p slots n e = record {
  taken = λ b i h. absurd (vacant_index slots n e b i h);
  apart = λ a b i h j. absurd (vacant_index slots n e a i h);
}

-- ---- a system with the same program, list and rows

abbrev machine : Flow → List ℤ → Machine (Cell Interval)
machine flow list = flow_machine interval_lattice interval_numbers flow list

abbrev OwnRows : Flow → List ℤ → List (Option (List (Cell Interval))) → Type 0
OwnRows flow list rows = (b : ℕ) → IsOwn (machine flow list) (row_at rows b)

pub own_under : (flow flow' : Flow) (list list' : List ℤ) (rows rows' : List (Option (List (Cell Interval)))) → flow ≡ flow' → list ≡ list' → rows ≡ rows' → OwnRows flow' list' rows' → OwnRows flow list rows
own_under flow flow' list list' rows rows' e f g h =
    subst (λ z. OwnRows z list rows) (sym e) (subst (λ z. OwnRows flow' z rows) (sym f) (subst (λ z. OwnRows flow' list' z) (sym g) h))

pub fault_under : (flow flow' : Flow) (list list' : List ℤ) (rows rows' : List (Option (List (Cell Interval)))) (fault : Option MapFault) → flow ≡ flow' → list ≡ list' → rows ≡ rows' → IsFirstFault cert_cells (machine flow list) rows fault → IsFirstFault cert_cells (machine flow' list') rows' fault
fault_under flow flow' list list' rows rows' fault e f g h =
    subst (λ z. IsFirstFault cert_cells (machine flow' list') z fault) g (subst (λ z. IsFirstFault cert_cells (machine flow' z) rows fault) f (subst (λ z. IsFirstFault cert_cells (machine z list) rows fault) e h))

-- the same cells, cut in the same way
pub same_row : {C : Type 0} (p q : Pool C) (s : ℕ) → q.width ≡ p.width → q.cells ≡ p.cells → row_of q s ≡ row_of p s
same_row p q s e f = ap (λ w. take w (drop (s * w) q.cells)) e ∙ ap (λ cs. take p.width (drop (s * p.width) cs)) f

pub refused_as : (flow : Flow) (text : Bytes) (fault : MapFault) → IsOfForm flow text (Some fault) → IsRefusedFor flow text (fault_of fault)
refused_as flow text map_fault.Start h = h
refused_as flow text (map_fault.Edge e) h = h
