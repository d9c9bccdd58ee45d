-- Any row made one of the program's own: what is beyond the bounds of own cells is cut off, and a cell
-- of another kind becomes the greatest one of its kind.
use Rattle.std.proofs.Common.{◌≡◌, ℕ, zero, suc, pos, ℤ, true, not, ◌&&◌, ◌-◌, nat_lt, cond, List, [], ◌∷◌, length, map, replicate, slice_index_or, Option, Some, None, refl, ap, arith}
use Rattle.cc_base.specs.Lattices.{LatticeOf}
use Rattle.cc_base.specs.NumberRanges.{Range, range_met}
use Rattle.cc_base.specs.IntegerDomains.{IntegersOf, of_range}
use Rattle.c_layout.specs.declared.shapes.BaseInfo.{BaseInfo}
use Rattle.pointer_domain.specs.declared.base_sets.Bases.{Bases}
use Rattle.pointer_domain.specs.declared.pointer_sets.Pointers.{Pointers}
use Rattle.pointer_domain.specs.BaseSets.{bases_within, bases_empty}
use Rattle.pointer_domain.specs.PointerLattice.{no_pointer}
use Rattle.value_domain.specs.declared.strings.first_zeros.FirstZero.{FirstZero}
use Rattle.value_domain.specs.Strings.FirstZeros.{the_end}
use Rattle.value_domain.specs.declared.values.values.Value as values
use Rattle.value_domain.specs.declared.values.alloc_states.AllocState.{AllocState}
use Rattle.value_domain.specs.declared.values.row_cells.Cell.{Cell}
use Rattle.value_domain.specs.declared.values.row_cells.Cell.TheVariants.{Nothing, Value, First, State, Mixed}
use Rattle.value_domain.specs.Values.LabelSets.{all_labels}
use Rattle.transfer_system.specs.declared.bounded_rows.cell_kinds.CellKind.{CellKind}
use Rattle.transfer_system.specs.declared.bounded_rows.cell_kinds.CellKind.TheVariants as kind
use Rattle.transfer_system.specs.declared.bounded_rows.own_cells.Reach.{Reach}
use Rattle.transfer_system.specs.BoundedRows.CellKinds.{all_kinds, first_kind, kinds_behind}
use Rattle.transfer_system.specs.BoundedRows.OwnRows.{is_somewhere, is_own_cell, reach_of}

-- ---- ranges

-- from the first number of a list to the last one
abbrev pub list_ends : List ℤ → Range
list_ends list = cond (nat_lt 0 (length list)) (Some (slice_index_or list 0 (pos 0), slice_index_or list (length list - 1) (pos 0))) None

-- those of them from 0 to 2^64
abbrev pub count_ends : List ℤ → Range
count_ends list = range_met (list_ends list) (pos 0) the_end

-- the numbers of both
abbrev pub ranges_both : Range → Range → Range
ranges_both x None = None
ranges_both x (Some q) = range_met x q.0 q.1

module _ {I : Type 0} where
  -- ---- numbers and pointers

  -- the numbers of a range that the value may have
  abbrev pub cut_to : LatticeOf I → IntegersOf I → Range → I → I
  cut_to l n ends x = of_range l n (ranges_both (n.bounds x) ends)

  -- numbers within the ends of the list
  abbrev pub number_fit : LatticeOf I → IntegersOf I → List ℤ → I → I
  number_fit l n list x = cond (l.within list x) x (cut_to l n (list_ends list) x)

  -- and those that are counts
  abbrev pub count_fit : LatticeOf I → IntegersOf I → List ℤ → Reach I → I → I
  count_fit l n list r x = cond (l.within list x && l.leq x r.counts) x (cut_to l n (count_ends list) x)

  abbrev pub bases_fit : Reach I → Bases → Bases
  bases_fit r bases = cond (bases_within bases r.bases) bases r.bases

  -- null and ended alone, where a base or some bounds are missing
  abbrev pub if_somewhere : LatticeOf I → IntegersOf I → Pointers I → Pointers I
  if_somewhere l n p = cond (not (bases_empty p.bases) && is_somewhere n p) p (record (no_pointer l) { null = p.null; ended = p.ended })

  abbrev pub pointer_fit : LatticeOf I → IntegersOf I → List ℤ → Reach I → Pointers I → Pointers I
  pointer_fit l n list r p = if_somewhere l n (record p {
    bases = bases_fit r p.bases;
    lo = count_fit l n list r p.lo;
    rel = number_fit l n list p.rel;
    len = count_fit l n list r p.len;
  })

  -- ---- cells

  abbrev pub value_fit : LatticeOf I → IntegersOf I → List ℤ → Reach I → values.Value I → values.Value I
  value_fit l n list r v = record v { num = number_fit l n list v.num; pointer = pointer_fit l n list r v.pointer }

  abbrev pub first_fit : LatticeOf I → IntegersOf I → List ℤ → Reach I → FirstZero I → FirstZero I
  first_fit l n list r f = record f { at = count_fit l n list r f.at }

  abbrev pub state_fit : LatticeOf I → IntegersOf I → List ℤ → Reach I → AllocState I → AllocState I
  state_fit l n list r s = record s { size = count_fit l n list r s.size }

  -- all numbers within the ends of the list
  abbrev pub greatest_number : LatticeOf I → IntegersOf I → List ℤ → I
  greatest_number l n list = of_range l n (list_ends list)

  abbrev pub greatest_pointer : LatticeOf I → IntegersOf I → List ℤ → Reach I → Pointers I
  greatest_pointer l n list r = record {
    bases = r.bases;
    lo = r.counts;
    rel = greatest_number l n list;
    len = r.counts;
    part = true;
    null = true;
    ended = true;
  }

  -- the greatest own values, first zeros and states
  abbrev pub greatest_value : LatticeOf I → IntegersOf I → List ℤ → Reach I → values.Value I
  greatest_value l n list r = value_fit l n list r (record { num = greatest_number l n list; pointer = greatest_pointer l n list r; indeterminate = true; labels = all_labels })

  abbrev pub greatest_first : LatticeOf I → IntegersOf I → List ℤ → Reach I → FirstZero I
  greatest_first l n list r = first_fit l n list r (record { at = r.counts })

  abbrev pub greatest_state : LatticeOf I → IntegersOf I → List ℤ → Reach I → AllocState I
  greatest_state l n list r = state_fit l n list r (record { size = r.counts; live = true; freed = true })

  abbrev pub fit_as_value : LatticeOf I → IntegersOf I → List ℤ → Reach I → Cell I → Cell I
  fit_as_value l n list r Nothing = Value (greatest_value l n list r)
  fit_as_value l n list r (Value v) = Value (value_fit l n list r v)
  fit_as_value l n list r (First f) = Value (greatest_value l n list r)
  fit_as_value l n list r (State s) = Value (greatest_value l n list r)
  fit_as_value l n list r Mixed = Value (greatest_value l n list r)

  abbrev pub fit_as_first : LatticeOf I → IntegersOf I → List ℤ → Reach I → Cell I → Cell I
  fit_as_first l n list r Nothing = First (greatest_first l n list r)
  fit_as_first l n list r (Value v) = First (greatest_first l n list r)
  fit_as_first l n list r (First f) = First (first_fit l n list r f)
  fit_as_first l n list r (State s) = First (greatest_first l n list r)
  fit_as_first l n list r Mixed = First (greatest_first l n list r)

  abbrev pub fit_as_state : LatticeOf I → IntegersOf I → List ℤ → Reach I → Cell I → Cell I
  fit_as_state l n list r Nothing = State (greatest_state l n list r)
  fit_as_state l n list r (Value v) = State (greatest_state l n list r)
  fit_as_state l n list r (First f) = State (greatest_state l n list r)
  fit_as_state l n list r (State s) = State (state_fit l n list r s)
  fit_as_state l n list r Mixed = State (greatest_state l n list r)

  -- a cell made one of a kind
  abbrev pub cell_made : LatticeOf I → IntegersOf I → List ℤ → Reach I → CellKind → Cell I → Cell I
  cell_made l n list r kind.Value cell = fit_as_value l n list r cell
  cell_made l n list r kind.First cell = fit_as_first l n list r cell
  cell_made l n list r kind.State cell = fit_as_state l n list r cell

  -- an own cell is left as it is
  unfoldable pub cell_fit : LatticeOf I → IntegersOf I → List ℤ → Reach I → CellKind → Cell I → Cell I
  cell_fit l n list r k cell = cond (is_own_cell l n list r k cell) cell (cell_made l n list r k cell)

  -- ---- rows

  abbrev pub cells_fit : LatticeOf I → IntegersOf I → List ℤ → Reach I → List CellKind → List (Cell I) → List (Cell I)
  cells_fit l n list r kinds [] = []
  cells_fit l n list r kinds (cell ∷ cells) = cell_fit l n list r (first_kind kinds) cell ∷ cells_fit l n list r (kinds_behind kinds) cells

  -- the first cells of a row; where it is too short, cells with nothing in them
  abbrev pub cells_of : ℕ → List (Cell I) → List (Cell I)
  cells_of zero row = []
  cells_of (suc n) [] = Nothing ∷ cells_of n []
  cells_of (suc n) (cell ∷ cells) = cell ∷ cells_of n cells

  unfoldable pub row_fit : LatticeOf I → IntegersOf I → List ℤ → List BaseInfo → ℕ → List (Cell I) → List (Cell I)
  row_fit l n list bases width row = cells_fit l n list (reach_of l n list (length bases)) (all_kinds bases) (cells_of width row)

  abbrev pub reached_fit : LatticeOf I → IntegersOf I → List ℤ → List BaseInfo → ℕ → Option (List (Cell I)) → Option (List (Cell I))
  reached_fit l n list bases width None = None
  reached_fit l n list bases width (Some row) = Some (row_fit l n list bases width row)

  pub all_cells : (n : ℕ) (row : List (Cell I)) → length row ≡ n → cells_of n row ≡ row
  all_cells zero [] e = refl
  all_cells zero (x ∷ xs) e = absurd (omega arith)
  all_cells (suc n) [] e = absurd (omega arith)
  all_cells (suc n) (x ∷ xs) e = ap (λ cells. x ∷ cells) (all_cells n xs (omega arith))

  -- ---- one cell in all positions

  abbrev pub filled_with : Cell I → Cell I → Cell I
  filled_with cell old = cell

  pub map_filled : (cell : Cell I) (row : List (Cell I)) → map (filled_with cell) row ≡ replicate (length row) cell
  map_filled cell [] = refl
  map_filled cell (x ∷ xs) = ap (λ cells. cell ∷ cells) (map_filled cell xs)
