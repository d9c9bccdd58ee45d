-- The rows of a program grow as often as its cells, first zeros and allocation states together.
use Rattle.std.specs.Prelude.{◌≡◌, ℕ, zero, suc, ◌+◌, ◌-◌, ◌*◌, ◌^◌, ◌<◌, min, Bool, true, false, cond, List, [], ◌∷◌, length, refl}
use Rattle.std.proofs.Common.{arith, ap}
use Rattle.std.proofs.Math.Nat.{add-mul}
use Rattle.cc_base.specs.InductiveMap.{heads_below}
use Rattle.cc_base.specs.declared.limit_table.Limits.{Limits}
use Rattle.c_layout.specs.declared.shapes.BaseInfo.{BaseInfo}
use Rattle.cfg.specs.WellFormed.{base_cells, base_values, all_cells, all_values, is_well_formed}
use Rattle.cfg.specs.declared.programs.Flow.{Flow}
use Rattle.transfer_system.specs.declared.bounded_rows.cell_kinds.CellKind.{CellKind}
use Rattle.transfer_system.specs.declared.bounded_rows.cell_kinds.CellKind.TheVariants as kind
use Rattle.transfer_system.specs.BoundedRows.CellKinds.{before, state_before, values_of, run_before, all_kinds}
use Rattle.transfer_system.specs.System.FlowMachines.{is_head_at}
use Rattle.system_monotone.proofs.systems.WellFormed.{laid_out}
use Rattle.analysis.specs.StepBounds.{growths, row_growths, most_edges}
use Rattle.analysis_determined.specs.LeastMaps.CountedSteps.{all_zeros, all_states, visits}

one_more : (m g : ℕ) → suc m * g ≡ g + m * g
one_more m g =
    let e : suc m ≡ 1 + m = omega arith in
    let f : (1 + m) * g ≡ 1 * g + m * g = add-mul 1 m g in
    let h : suc m * g ≡ (1 + m) * g = ap (λ z. z * g) e in
    omega arith

regroup : (a c temps z y s r v f g : ℕ) → a * v + (z * f + (s * g + ((c + temps) * v + (y * f + r * g)))) ≡ ((a + c) + temps) * v + ((z + y) * f + (s + r) * g)
regroup a c temps z y s r v f g =
    let e : (a + c) + temps ≡ a + (c + temps) = omega arith in
    let h : ((a + c) + temps) * v ≡ (a + (c + temps)) * v = ap (λ t. t * v) e in
    let i : (a + (c + temps)) * v ≡ a * v + (c + temps) * v = add-mul a (c + temps) v in
    let j : (z + y) * f ≡ z * f + y * f = add-mul z y f in
    let k : (s + r) * g ≡ s * g + r * g = add-mul s r g in
    omega arith

count_of : (heap : Bool) (m : ℕ) → m + cond heap 6 0 < 2 ^ 64 → cond heap (min (m + 6) (2 ^ 64 - 1)) m ≡ m + cond heap 6 0
count_of true m h = omega arith
count_of false m h = omega arith

module _ (t b : ℕ) where
  grow_before : (k : CellKind) (m : ℕ) (ks : List CellKind) (total j : ℕ) → total ≡ m + j → row_growths t b (before k m ks) total ≡ m * growths t b k + row_growths t b ks j
  grow_before k zero ks total j e =
      let f : total ≡ j = omega arith in
      let g : row_growths t b ks total ≡ row_growths t b ks j = ap (row_growths t b ks) f in
      omega arith
  grow_before k (suc m) ks zero j e = absurd (omega arith)
  grow_before k (suc m) ks (suc total) j e =
      let r = grow_before k m ks total j (omega arith) in
      let s = one_more m (growths t b k) in
      omega arith

  grow_state : (heap : Bool) (ks : List CellKind) (total j : ℕ) → total ≡ cond heap 1 0 + j → row_growths t b (state_before heap ks) total ≡ cond heap 1 0 * growths t b kind.State + row_growths t b ks j
  grow_state true ks total j e = grow_before kind.State 1 ks total j e
  grow_state false ks total j e = grow_before kind.State 0 ks total j e

  grow_none : (n : ℕ) → row_growths t b [] n ≡ n * growths t b kind.Value
  grow_none zero = omega arith
  grow_none (suc n) =
      let r = grow_none n in
      let s = one_more n (growths t b kind.Value) in
      omega arith

  grow_base : (base : BaseInfo) (ks : List CellKind) (total j : ℕ) → total ≡ base_values base + j → total < 2 ^ 64
      → row_growths t b (run_before (values_of base) (length base.shape.zeros) base.shape.heap ks) total ≡ base_cells base * growths t b kind.Value + (length base.shape.zeros * growths t b kind.First + (cond base.shape.heap 1 0 * growths t b kind.State + row_growths t b ks j))
  grow_base base ks total j e s =
      let c : values_of base ≡ base_cells base = count_of base.shape.heap (length base.shape.cells) (omega arith) in
      let f : row_growths t b (run_before (values_of base) (length base.shape.zeros) base.shape.heap ks) total ≡ row_growths t b (before kind.Value (base_cells base) (before kind.First (length base.shape.zeros) (state_before base.shape.heap ks))) total =
      ap (λ m. row_growths t b (before kind.Value m (before kind.First (length base.shape.zeros) (state_before base.shape.heap ks))) total) c in
      let g = grow_before kind.Value (base_cells base) (before kind.First (length base.shape.zeros) (state_before base.shape.heap ks)) total (length base.shape.zeros + (cond base.shape.heap 1 0 + j)) (omega arith) in
      let h = grow_before kind.First (length base.shape.zeros) (state_before base.shape.heap ks) (length base.shape.zeros + (cond base.shape.heap 1 0 + j)) (cond base.shape.heap 1 0 + j) refl in
      let i = grow_state base.shape.heap ks (cond base.shape.heap 1 0 + j) j refl in
      omega arith

  grow_all : (bases : List BaseInfo) (total temps : ℕ) → total ≡ all_values bases + temps → total < 2 ^ 64
      → row_growths t b (all_kinds bases) total ≡ (all_cells bases + temps) * growths t b kind.Value + (all_zeros bases * growths t b kind.First + all_states bases * growths t b kind.State)
  grow_all [] total temps e s =
      let f : total ≡ 0 + temps = omega arith in
      let g : row_growths t b [] total ≡ row_growths t b [] (0 + temps) = ap (row_growths t b []) f in
      let h = grow_none (0 + temps) in
      omega arith
  grow_all (base ∷ bases) total temps e s =
      let f = grow_base base (all_kinds bases) total (all_values bases + temps) (omega arith) s in
      let g = grow_all bases (all_values bases + temps) temps refl (omega arith) in
      let h = regroup (base_cells base) (all_cells bases) temps (length base.shape.zeros) (all_zeros bases) (cond base.shape.heap 1 0) (all_states bases) (growths t b kind.Value) (growths t b kind.First) (growths t b kind.State) in
      omega arith

pub counted_edges : (limits : Limits) (flow : Flow) (numbers : ℕ) → is_well_formed limits flow ≡ true → limits.pool < 2 ^ 64 → most_edges flow numbers ≡ length flow.edges.items * visits flow numbers
counted_edges limits flow numbers h few =
    let laid = laid_out limits flow h few in
    let e = grow_all numbers (length flow.bases.items) flow.bases.items flow.width flow.temps laid.width laid.near in
    ap (λ g. length flow.edges.items * (heads_below (is_head_at flow.blocks.items) (length flow.blocks.items) * (g + 1) + 2)) e
