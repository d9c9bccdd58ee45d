-- What stays of a map where a row beside it is written.
use Rattle.std.proofs.Common.{◌≡◌, ◌≢◌, ◌∙◌, ◌+◌, ◌<◌, ◌≤◌, ℕ, true, List, Option, Some, None, slice_index_or, sym, ap, subst, arith, ⊎_elim}
use Rattle.std.proofs.lemmas.Bool.{cases_lt}
use Rattle.cc_base.specs.Lattices.{LatticeOf}
use Rattle.cc_base.specs.Machine.{Machine}
use Rattle.cc_base.specs.InductiveMap.{row_at, IsOwn}
use Rattle.fixpoint.specs.Pool.Pool.{Pool, SameBut}
use Rattle.fixpoint.specs.declared.pool.row_name.Row.{Row}
use Rattle.fixpoint.specs.Solver.RowMap.{slot_row, rows_in, IsHeldBeside}
use Rattle.fixpoint.proofs.solver.MapLaws.{row_at-rows_in}
use Rattle.fixpoint.proofs.solver.SpareLaws.{spare-rows, spare-changed}
use Rattle.certificate_check.specs.ClosedMaps.MapFaults.{edge_closed, EdgesClosed}

module _ {C : Type 0} (p q : Pool C) (slots : List (Option Row)) (spare : ℕ) (h : IsHeldBeside p slots spare) (k : SameBut p q spare) where
  pub kept-held : IsHeldBeside q slots spare
  kept-held = (spare-changed p q slots spare h k).held

  pub kept-rows : rows_in q slots ≡ rows_in p slots
  kept-rows = spare-rows p q slots spare h k

  pub kept-slot : (b : ℕ) → slot_row q (slice_index_or slots b None) ≡ row_at (rows_in p slots) b
  kept-slot b = sym (row_at-rows_in q slots b) ∙ ap (λ rows. row_at rows b) kept-rows

  pub kept-own : (m : Machine C) → ((b : ℕ) → IsOwn m (row_at (rows_in p slots) b)) → (b : ℕ) → IsOwn m (row_at (rows_in q slots) b)
  kept-own m own b = subst (λ rows. IsOwn m (row_at rows b)) (sym kept-rows) (own b)

-- one edge more
pub closed-more : {C : Type 0} (o : LatticeOf C) (m : Machine C) (rows : List (Option (List C))) (n : ℕ) → EdgesClosed o m rows n → edge_closed o m rows n ≡ true → EdgesClosed o m rows (n + 1)
closed-more o m rows n below here e lt =
    ⊎_elim
    (λ (under : e < n). below e under)
    (λ (over : n ≤ e). let same : e ≡ n = omega arith in subst (λ d. edge_closed o m rows d ≡ true) (sym same) here)
    (cases_lt e n)
