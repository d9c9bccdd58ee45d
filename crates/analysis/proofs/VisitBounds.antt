-- The rows of a program grow no more often than is said of their cells, so a solver follows no more edges.
use Rattle.std.specs.Prelude.{◌≡◌, ◌≤◌, ◌+◌, ◌*◌, ℕ, zero, suc, ℤ, List, length}
use Rattle.std.proofs.Common.{arith, subst}
use Rattle.std.proofs.Math.Nat.{mul-le-mul_left}
use Rattle.cc_base.specs.InductiveMap.{heads_below, most_steps}
use Rattle.cfg.specs.declared.programs.Flow.{Flow}
use Rattle.interval_domain.specs.Intervals.IntervalLattice.{interval_lattice}
use Rattle.transfer_system.specs.declared.bounded_rows.cell_kinds.CellKind.{CellKind}
use Rattle.transfer_system.specs.declared.bounded_rows.cell_kinds.CellKind.TheVariants as kind
use Rattle.transfer_system.specs.BoundedRows.BaseRooms.{spare_bases}
use Rattle.transfer_system.specs.BoundedRows.CellKinds.{all_kinds, first_kind, kinds_behind}
use Rattle.transfer_system.specs.BoundedRows.RowRooms.{kind_height, row_height}
use Rattle.transfer_system.specs.System.FlowMachines.{is_head_at}
use Rattle.analysis.specs.Analyses.{machine_of}
use Rattle.analysis.specs.StepBounds.{growths, row_growths, most_edges}

kind_grows : (t b : ℕ) (k : CellKind) → kind_height interval_lattice t (spare_bases b) k ≤ growths t b k
kind_grows t b kind.Value = omega arith
kind_grows t b kind.First = omega arith
kind_grows t b kind.State = omega arith

row_grows : (t b : ℕ) (ks : List CellKind) (n : ℕ) → row_height interval_lattice t (spare_bases b) ks n ≤ row_growths t b ks n
row_grows t b ks zero = omega arith
row_grows t b ks (suc n) = let a = kind_grows t b (first_kind ks) in let r = row_grows t b (kinds_behind ks) n in omega arith

more_visits : (heads a b : ℕ) → a ≤ b → heads * (a + 1) + 2 ≤ heads * (b + 1) + 2
more_visits heads a b h = let m : heads * (a + 1) ≤ heads * (b + 1) = mul-le-mul_left heads (omega arith) in omega arith

more_edges : (edges a b : ℕ) → a ≤ b → edges * a ≤ edges * b
more_edges edges a b h = mul-le-mul_left edges h

few_edges : (flow : Flow) (list : List ℤ) → most_steps (machine_of flow list) ≤ most_edges flow (length list)
few_edges flow list =
    more_edges (length flow.edges.items) _ _
    (more_visits (heads_below (is_head_at flow.blocks.items) (length flow.blocks.items)) _ _
    (row_grows (length list) (length flow.bases.items) (all_kinds flow.bases.items) flow.width))

at_most_behind : (a b m k : ℕ) → m ≤ k → b ≤ a + m → b ≤ a + k
at_most_behind a b m k h j = omega arith

-- what a solver follows of the system of a program and a list
pub followed : (flow flow' : Flow) (list list' : List ℤ) (old new : ℕ) → flow ≡ flow' → list ≡ list' → new ≤ old + most_steps (machine_of flow list) → new ≤ old + most_edges flow' (length list')
followed flow flow' list list' old new e f h =
    let whole = at_most_behind old new (most_steps (machine_of flow list)) (most_edges flow (length list)) (few_edges flow list) h in
    subst (λ z. new ≤ old + most_edges flow' (length z)) f (subst (λ z. new ≤ old + most_edges z (length list)) e whole)
