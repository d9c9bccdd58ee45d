-- Rows of a program's own: each cell of the kind of its position, with bounds within the ends of a
-- list; pointers into the program's bases that have bounds exactly where they have a base; offsets,
-- sizes and first zeros from 0 to 2^64.
use Rattle.std.specs.Prelude.{ℕ, zero, suc, pos, ℤ, Bool, true, false, not, ◌&&◌, nat_eq, min, cond, List, [], ◌∷◌, length, is_none, is_some}
use Rattle.cc_base.specs.Lattices.{LatticeOf}
use Rattle.cc_base.specs.IntegerDomains.{IntegersOf}
use Rattle.c_layout.specs.declared.shapes.BaseInfo.{BaseInfo}
use Rattle.pointer_domain.specs.declared.base_sets.Bases.{Bases}
use Rattle.pointer_domain.specs.declared.pointer_sets.Pointers.{Pointers}
use Rattle.pointer_domain.specs.BaseSets.{no_base, bases_with, bases_within, bases_empty}
use Rattle.value_domain.specs.declared.strings.first_zeros.FirstZero.{FirstZero}
use Rattle.value_domain.specs.Strings.FirstZeros.{zero_lattice, the_end}
use Rattle.value_domain.specs.declared.values.values.Value as values
use Rattle.value_domain.specs.declared.values.alloc_states.AllocState.{AllocState}
use Rattle.value_domain.specs.declared.values.row_cells.Cell.{Cell}
use Rattle.value_domain.specs.declared.values.row_cells.Cell.TheVariants.{Nothing, Value, First, State, Mixed}
use Rattle.value_domain.specs.Values.Values.{value_lattice}
use Rattle.value_domain.specs.Values.AllocStates.{state_lattice}
use Rattle.transfer_system.specs.declared.bounded_rows.cell_kinds.CellKind.{CellKind}
use Rattle.transfer_system.specs.declared.bounded_rows.cell_kinds.CellKind.TheVariants as kind
use Rattle.transfer_system.specs.declared.bounded_rows.own_cells.Reach.{Reach}
use Rattle.transfer_system.specs.BoundedRows.CellKinds.{all_kinds, first_kind, kinds_behind}

-- the bases with numbers below n
unfoldable pub bases_below : ℕ → Bases
bases_below zero = no_base
bases_below (suc n) = bases_with (bases_below n) n

-- the bases of a program that has so many: sets hold the numbers below 1,016
abbrev pub program_bases : ℕ → Bases
program_bases count = bases_below (min count 1016)

module _ {I : Type 0} where
  -- the numbers from 0 to 2^64, rounded to the list, and the bases of the program
  abbrev pub reach_of : LatticeOf I → IntegersOf I → List ℤ → ℕ → Reach I
  reach_of l n list count = record { counts = l.round list (n.between (pos 0) the_end); bases = program_bases count }

  -- no bounds, and no part
  abbrev pub is_nowhere : IntegersOf I → Pointers I → Bool
  is_nowhere n p = is_none (n.bounds p.lo) && (is_none (n.bounds p.rel) && (is_none (n.bounds p.len) && not p.part))

  abbrev pub is_somewhere : IntegersOf I → Pointers I → Bool
  is_somewhere n p = is_some (n.bounds p.lo) && (is_some (n.bounds p.rel) && is_some (n.bounds p.len))

  -- there are bounds exactly where there is a base, and without a base there is no part
  abbrev pub is_consistent : IntegersOf I → Pointers I → Bool
  is_consistent n p = cond (bases_empty p.bases) (is_nowhere n p) (is_somewhere n p)

  -- into bases of the program, from offsets and over lengths that are counts
  abbrev pub is_own_pointer : LatticeOf I → IntegersOf I → Reach I → Pointers I → Bool
  is_own_pointer l n r p = bases_within p.bases r.bases && (is_consistent n p && (l.leq p.lo r.counts && l.leq p.len r.counts))

  abbrev pub is_known_value : LatticeOf I → IntegersOf I → List ℤ → Reach I → values.Value I → Bool
  is_known_value l n list r v = (value_lattice l).within list v && is_own_pointer l n r v.pointer

  abbrev pub is_known_first : LatticeOf I → List ℤ → Reach I → FirstZero I → Bool
  is_known_first l list r f = (zero_lattice l).within list f && l.leq f.at r.counts

  abbrev pub is_known_state : LatticeOf I → List ℤ → Reach I → AllocState I → Bool
  is_known_state l list r s = (state_lattice l).within list s && l.leq s.size r.counts

  abbrev pub is_own_value : LatticeOf I → IntegersOf I → List ℤ → Reach I → Cell I → Bool
  is_own_value l n list r Nothing = false
  is_own_value l n list r (Value v) = is_known_value l n list r v
  is_own_value l n list r (First f) = false
  is_own_value l n list r (State s) = false
  is_own_value l n list r Mixed = false

  abbrev pub is_own_first : LatticeOf I → List ℤ → Reach I → Cell I → Bool
  is_own_first l list r Nothing = false
  is_own_first l list r (Value v) = false
  is_own_first l list r (First f) = is_known_first l list r f
  is_own_first l list r (State s) = false
  is_own_first l list r Mixed = false

  abbrev pub is_own_state : LatticeOf I → List ℤ → Reach I → Cell I → Bool
  is_own_state l list r Nothing = false
  is_own_state l list r (Value v) = false
  is_own_state l list r (First f) = false
  is_own_state l list r (State s) = is_known_state l list r s
  is_own_state l list r Mixed = false

  -- a cell of a kind
  abbrev pub is_own_cell : LatticeOf I → IntegersOf I → List ℤ → Reach I → CellKind → Cell I → Bool
  is_own_cell l n list r kind.Value cell = is_own_value l n list r cell
  is_own_cell l n list r kind.First cell = is_own_first l list r cell
  is_own_cell l n list r kind.State cell = is_own_state l list r cell

  abbrev pub are_own_cells : LatticeOf I → IntegersOf I → List ℤ → Reach I → List CellKind → List (Cell I) → Bool
  are_own_cells l n list r kinds [] = true
  are_own_cells l n list r kinds (cell ∷ cells) = is_own_cell l n list r (first_kind kinds) cell && are_own_cells l n list r (kinds_behind kinds) cells

  -- a row of so many cells over these bases
  abbrev pub is_own_row : LatticeOf I → IntegersOf I → List ℤ → List BaseInfo → ℕ → List (Cell I) → Bool
  is_own_row l n list bases width row = nat_eq (length row) width && are_own_cells l n list (reach_of l n list (length bases)) (all_kinds bases) row
