-- Rows such as steps and edges leave of own ones, and which of them are own.
use Rattle.std.specs.Prelude.{◌≡◌, true, ℤ, List, [], ◌∷◌, length}
use Rattle.cc_base.specs.Lattices.{LatticeOf}
use Rattle.cc_base.specs.IntegerDomains.{IntegersOf}
use Rattle.cc_base.specs.Rows.{row_leq}
use Rattle.cfg.specs.declared.programs.Flow.{Flow}
use Rattle.value_domain.specs.declared.values.row_cells.Cell.{Cell}
use Rattle.value_domain.specs.declared.values.row_cells.Cell.TheVariants.{Nothing, Value, First, State, Mixed}
use Rattle.value_domain.specs.declared.values.values.Value as values
use Rattle.value_domain.specs.Values.Cells.{cell_lattice}
use Rattle.store_monotone.specs.Operations.TopRows.{top_row}
use Rattle.store_monotone.specs.Operations.ConsistentRows.{AreConsistent}
use Rattle.transfer_system.specs.BoundedRows.OwnRows.{program_bases}
use Rattle.transfer_system.specs.declared.bounded_rows.own_cells.Reach.{Reach}
use Rattle.transfer_monotone.specs.Edges.FilledRows.{AreFilled}

module _ {I : Type 0} (l : LatticeOf I) (n : IntegersOf I) where
  -- a row of the program's cells, with bounds from -2^64 to 2^64, into bases of the program
  pub record IsProgramRow (flow : Flow) (row : List (Cell I)) : Type 0 where
    pub below : row_leq (cell_lattice l) row (top_row n (program_bases (length flow.bases.items)) flow.bases.items flow.temps) ≡ true
    pub even : AreConsistent n row
    pub filled : AreFilled row

module _ {I : Type 0} (l : LatticeOf I) where
  -- numbers between the ends of a list, and offsets and lengths that are counts
  pub record IsCutValue (list : List ℤ) (reach : Reach I) (v : values.Value I) : Type 0 where
    pub num : l.within list v.num ≡ true
    pub lo : l.leq v.pointer.lo reach.counts ≡ true
    pub rel : l.within list v.pointer.rel ≡ true
    pub len : l.leq v.pointer.len reach.counts ≡ true

  abbrev pub IsCutCell : List ℤ → Reach I → Cell I → Type 0
  IsCutCell list reach Nothing = Unit {0}
  IsCutCell list reach (Value v) = IsCutValue list reach v
  IsCutCell list reach (First f) = Unit {0}
  IsCutCell list reach (State s) = Unit {0}
  IsCutCell list reach Mixed = Unit {0}

  abbrev pub AreCut : List ℤ → Reach I → List (Cell I) → Type 0
  AreCut list reach [] = Unit {0}
  AreCut list reach (c ∷ cs) = IsCutCell list reach c × AreCut list reach cs
