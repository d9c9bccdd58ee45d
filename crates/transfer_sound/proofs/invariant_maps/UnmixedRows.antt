-- No cell of the greatest row is mixed, and so none of a row at or below it.
use Rattle.std.specs.Prelude.{◌≡◌, ℕ, zero, suc, true, cond, List, [], ◌∷◌, ◌++◌, length, replicate}
use Rattle.std.proofs.lemmas.Bool.{and_parts}
use Rattle.cc_base.specs.Lattices.{LatticeOf}
use Rattle.cc_base.specs.Rows.{row_leq}
use Rattle.cc_base.specs.IntegerDomains.{IntegersOf}
use Rattle.c_layout.specs.declared.shapes.BaseInfo.{BaseInfo}
use Rattle.cfg.specs.WellFormed.{base_cells}
use Rattle.pointer_domain.specs.declared.base_sets.Bases.{Bases}
use Rattle.value_domain.specs.declared.values.row_cells.Cell.{Cell}
use Rattle.value_domain.specs.declared.values.row_cells.Cell.TheVariants.{Nothing, Value, First, State, Mixed}
use Rattle.value_domain.specs.Values.Cells.{cell_lattice, cell_leq}
use Rattle.store_cells.specs.RowPositions.{cell_at}
use Rattle.store_monotone.specs.Operations.TopCells.{top_value, top_zero, top_state}
use Rattle.store_monotone.specs.Operations.TopRows.{top_base, top_bases, top_row}
use Rattle.transfer_sound.specs.InvariantMaps.CarriedMaps.{IsUnmixed, AreUnmixed}

module _ {I : Type 0} where
  pub unmixed_at : (row : List (Cell I)) (i : ℕ) → AreUnmixed row → IsUnmixed (cell_at row i)
  unmixed_at [] i h = tt
  unmixed_at (c ∷ cs) zero h = h.0
  unmixed_at (c ∷ cs) (suc i) h = unmixed_at cs i h.1

  module _ (l : LatticeOf I) (n : IntegersOf I) (all : Bases) where
    -- ---- the greatest row

    many_unmixed : (m : ℕ) (c : Cell I) → IsUnmixed c → AreUnmixed (replicate m c)
    many_unmixed zero c t = tt
    many_unmixed (suc m) c t = (t, many_unmixed m c t)

    both_unmixed : (xs ys : List (Cell I)) → AreUnmixed xs → AreUnmixed ys → AreUnmixed (xs ++ ys)
    both_unmixed [] ys a b = b
    both_unmixed (x ∷ xs) ys a b = (a.0, both_unmixed xs ys a.1 b)

    base_unmixed : (base : BaseInfo) → AreUnmixed (top_base n all base)
    base_unmixed base = both_unmixed (replicate (base_cells base) (Value (top_value n all))) _ (many_unmixed (base_cells base) (Value (top_value n all)) tt)
        (both_unmixed (replicate (length base.shape.zeros) (First (top_zero n))) _ (many_unmixed (length base.shape.zeros) (First (top_zero n)) tt) (many_unmixed (cond base.shape.heap 1 0) (State (top_state n)) tt))

    bases_unmixed : (bases : List BaseInfo) → AreUnmixed (top_bases n all bases)
    bases_unmixed [] = tt
    bases_unmixed (base ∷ bases) = both_unmixed (top_base n all base) (top_bases n all bases) (base_unmixed base) (bases_unmixed bases)

    top_unmixed : (bases : List BaseInfo) (temps : ℕ) → AreUnmixed (top_row n all bases temps)
    top_unmixed bases temps = both_unmixed (top_bases n all bases) _ (bases_unmixed bases) (many_unmixed temps (Value (top_value n all)) tt)

    -- ---- what is at or below it

    cell_below : (c t : Cell I) → cell_leq l c t ≡ true → IsUnmixed t → IsUnmixed c
    cell_below Nothing t e h = tt
    cell_below (Value v) t e h = tt
    cell_below (First v) t e h = tt
    cell_below (State v) t e h = tt
    cell_below Mixed Nothing e h = cc
    cell_below Mixed (Value w) e h = cc
    cell_below Mixed (First w) e h = cc
    cell_below Mixed (State w) e h = cc
    cell_below Mixed Mixed e h = h

    cells_below : (row top : List (Cell I)) → row_leq (cell_lattice l) row top ≡ true → AreUnmixed top → AreUnmixed row
    cells_below [] ts e h = tt
    cells_below (c ∷ cs) [] e h = absurd (cc)
    cells_below (c ∷ cs) (t ∷ ts) e h = let p = and_parts (cell_leq l c t) (row_leq (cell_lattice l) cs ts) e in (cell_below c t p.0 h.0, cells_below cs ts p.1 h.1)

    pub below_unmixed : (bases : List BaseInfo) (temps : ℕ) (row : List (Cell I)) → row_leq (cell_lattice l) row (top_row n all bases temps) ≡ true → AreUnmixed row
    below_unmixed bases temps row e = cells_below row (top_row n all bases temps) e (top_unmixed bases temps)
