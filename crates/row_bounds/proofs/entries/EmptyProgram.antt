-- The row in which nothing is is a row of the program.
use Rattle.std.specs.Prelude.{◌≡◌, ℕ, zero, suc, ◌+◌, ◌^◌, ◌<◌, ℤ, true, false, cond, List, [], ◌∷◌, ◌++◌, length, replicate, refl}
use Rattle.std.proofs.Common.{sym, subst}
use Rattle.std.proofs.lemmas.Bool.{and_parts, and_from}
use Rattle.cc_base.specs.Lattices.{LatticeOf, OrderLaws}
use Rattle.cc_base.specs.IntegerDomains.{IntegersOf, BoundLaws}
use Rattle.cc_base.specs.Rows.{row_leq}
use Rattle.c_layout.specs.declared.shapes.BaseInfo.{BaseInfo}
use Rattle.cfg.specs.WellFormed.{are_placed, base_cells, all_values}
use Rattle.cfg.specs.declared.programs.Flow.{Flow}
use Rattle.pointer_domain.specs.declared.base_sets.Bases.{Bases}
use Rattle.value_domain.specs.Strings.FirstZeros.{zero_lattice, zero_order}
use Rattle.value_domain.specs.declared.values.row_cells.Cell.{Cell}
use Rattle.value_domain.specs.declared.values.row_cells.Cell.TheVariants.{Value, First, State}
use Rattle.value_domain.specs.Values.Values.{value_lattice, value_order}
use Rattle.value_domain.specs.Values.AllocStates.{state_lattice, state_order}
use Rattle.value_domain.specs.Values.Cells.{cell_lattice, cell_leq}
use Rattle.store_monotone.specs.Operations.TopCells.{top_value, top_zero, top_state}
use Rattle.store_monotone.specs.Operations.TopRows.{top_base, top_bases, top_row}
use Rattle.store_monotone.specs.Operations.ConsistentRows.{IsConsistentCell, AreConsistent}
use Rattle.store_monotone.proofs.operations.Consistent.{even_bare}
use Rattle.transfer_system.specs.StartRows.{empty_row}
use Rattle.system_monotone.specs.FilledRows.{IsFilled, AreFilled}
use Rattle.row_bounds.proofs.entries.EmptyRows.{least_base, least_bases, least_row, empty_is}

-- a row below another one, of consistent pointer parts and something in each cell
pub record IsUnder {I : Type 0} (l : LatticeOf I) (n : IntegersOf I) (xs ys : List (Cell I)) : Type 0 where
  pub below : row_leq (cell_lattice l) xs ys ≡ true
  pub even : AreConsistent n xs
  pub filled : AreFilled xs

module _ {I : Type 0} (l : LatticeOf I) (n : IntegersOf I) where
  under_both : (xs us ys vs : List (Cell I)) → IsUnder l n xs us → IsUnder l n ys vs → IsUnder l n (xs ++ ys) (us ++ vs)
  under_both [] [] ys vs h k = k
  under_both [] (u ∷ us) ys vs h k = absurd (let e = h.below in cc)
  under_both (x ∷ xs) [] ys vs h k = absurd (let e = h.below in cc)
  under_both (x ∷ xs) (u ∷ us) ys vs h k =
      let p = and_parts (cell_leq l x u) (row_leq (cell_lattice l) xs us) h.below in
      let r = under_both xs us ys vs (record { below = p.1; even = h.even.1; filled = h.filled.1 }) k in
      record { below = and_from _ _ p.0 r.below; even = (h.even.0, r.even); filled = (h.filled.0, r.filled) }

  under_alike : (m : ℕ) (x y : Cell I) → cell_leq l x y ≡ true → IsConsistentCell n x → IsFilled x
      → IsUnder l n (replicate m x) (replicate m y)
  under_alike zero x y e even filled = record { below = refl; even = tt; filled = tt }
  under_alike (suc m) x y e even filled =
      let r = under_alike m x y e even filled in
      record { below = and_from _ _ e r.below; even = (even, r.even); filled = (filled, r.filled) }

module _ {I : Type 0} {l : LatticeOf I} {n : IntegersOf I} {stands : I → ℤ → Type 0} (o : OrderLaws l)
    (b : BoundLaws l n stands) (all : Bases) where
  values_under : (m : ℕ)
      → IsUnder l n (replicate m (Value (value_lattice l).least)) (replicate m (Value (top_value n all)))
  values_under m = under_alike l n m (Value (value_lattice l).least) (Value (top_value n all))
      ((value_order o).least_below (top_value n all)) (even_bare o b false false) tt

  zeros_under : (m : ℕ) → IsUnder l n (replicate m (First (zero_lattice l).least)) (replicate m (First (top_zero n)))
  zeros_under m = under_alike l n m (First (zero_lattice l).least) (First (top_zero n))
      ((zero_order o).least_below (top_zero n)) tt tt

  states_under : (m : ℕ) → IsUnder l n (replicate m (State (state_lattice l).least)) (replicate m (State (top_state n)))
  states_under m = under_alike l n m (State (state_lattice l).least) (State (top_state n))
      ((state_order o).least_below (top_state n)) tt tt

  base_under : (base : BaseInfo) → IsUnder l n (least_base l base) (top_base n all base)
  base_under base =
      under_both l n (replicate (base_cells base) (Value (value_lattice l).least))
      (replicate (base_cells base) (Value (top_value n all))) _ _ (values_under (base_cells base))
      (under_both l n (replicate (length base.shape.zeros) (First (zero_lattice l).least))
      (replicate (length base.shape.zeros) (First (top_zero n))) _ _ (zeros_under (length base.shape.zeros))
      (states_under (cond base.shape.heap 1 0)))

  bases_under : (bases : List BaseInfo) → IsUnder l n (least_bases l bases) (top_bases n all bases)
  bases_under [] = record { below = refl; even = tt; filled = tt }
  bases_under (base ∷ bases) = under_both l n (least_base l base) (top_base n all base) (least_bases l bases)
      (top_bases n all bases) (base_under base) (bases_under bases)

  row_under : (bases : List BaseInfo) (temps : ℕ) → IsUnder l n (least_row l bases temps) (top_row n all bases temps)
  row_under bases temps = under_both l n (least_bases l bases) (top_bases n all bases) _ _ (bases_under bases)
      (values_under temps)

  pub empty_under : (flow : Flow) (row : List (Cell I)) → are_placed 0 flow.bases.items ≡ true
      → length row ≡ all_values flow.bases.items + flow.temps → length row < 2 ^ 64
      → IsUnder l n (empty_row l flow row) (top_row n all flow.bases.items flow.temps)
  empty_under flow row h e s = subst (λ r. IsUnder l n r (top_row n all flow.bases.items flow.temps))
      (sym (empty_is l flow flow.temps row h e s)) (row_under flow.bases.items flow.temps)
