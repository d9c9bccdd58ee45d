-- The rows that are read are own rows of the program, with numbers within the ends of the list of certificates.
use Rattle.std.proofs.Common.{◌≡◌, ◌∙◌, ℕ, nat_le, zero, suc, ℤ, true, false, Bool, ◌&&◌, not, nat_eq, List, [], ◌∷◌, length, map, replicate, slice_set, slice_index_or, Option, Some, None, refl, arith, eq-eqb, length-set}
use Rattle.std.proofs.lemmas.Bool.{and_from, and_parts, cond_both}
use Rattle.cc_base.specs.InductiveMap.{row_at}
use Rattle.interval_domain.specs.declared.intervals.intervals.Interval.{Interval}
use Rattle.interval_domain.specs.Intervals.IntervalLattice.{interval_lattice, interval_order, interval_rounding, interval_heights}
use Rattle.interval_domain.specs.Intervals.IntervalNumbers.{interval_numbers, interval_bounding}
use Rattle.pointer_domain.specs.BaseSets.{bases_within}
use Rattle.pointer_domain.specs.BaseLattice.{bases_lattice, bases_order}
use Rattle.pointer_domain.specs.PointerLattice.{pointer_lattice, pointers_leq}
use Rattle.value_domain.specs.Strings.FirstZeros.{zero_lattice}
use Rattle.value_domain.specs.declared.strings.first_zeros.FirstZero.{FirstZero}
use Rattle.value_domain.specs.declared.values.values.Value as values
use Rattle.value_domain.specs.declared.values.alloc_states.AllocState.{AllocState}
use Rattle.value_domain.specs.declared.values.row_cells.Cell.{Cell}
use Rattle.value_domain.specs.declared.values.row_cells.Cell.TheVariants.{Nothing, Value, First, State, Mixed}
use Rattle.value_domain.specs.Values.Values.{value_lattice, value_heights}
use Rattle.value_domain.specs.Values.AllocStates.{state_lattice, state_heights}
use Rattle.cfg.specs.declared.programs.Flow.{Flow}
use Rattle.transfer_system.specs.declared.bounded_rows.cell_kinds.CellKind.{CellKind}
use Rattle.transfer_system.specs.declared.bounded_rows.cell_kinds.CellKind.TheVariants as kind
use Rattle.transfer_system.specs.declared.bounded_rows.own_cells.Reach.{Reach}
use Rattle.transfer_system.specs.BoundedRows.CellKinds.{all_kinds, first_kind, kinds_behind}
use Rattle.transfer_system.specs.BoundedRows.IntervalEnds.{interval_ends}
use Rattle.transfer_system.specs.BoundedRows.ProgramBases.{within_few}
use Rattle.transfer_system.specs.BoundedRows.OwnRows.{reach_of, is_consistent, is_own_pointer, is_known_value, is_known_first, is_known_state, is_own_value, is_own_first, is_own_state, is_own_cell, are_own_cells, is_own_row}
use Rattle.transfer_system.specs.BoundedRows.OwnLaws.{reach_is, fit_own, own_length, own_cells}
use Rattle.certificate_text.specs.declared.lines.map_lines.MapLine.{MapLine}
use Rattle.certificate_text.specs.declared.lines.map_lines.MapLine.TheVariants.{Unreached, Reached, Placed}
use Rattle.certificate_text.specs.Lines.LineWords.{Bytes}
use Rattle.certificate_text.specs.Maps.LeastCells.{is_least}
use Rattle.certificate_check.specs.declared.reading.cell_reading.Reading.{Reading}
use Rattle.certificate_check.specs.Reading.TextPlaces.{line_at}
use Rattle.certificate_check.specs.Reading.GreatestRows.{cert_numbers, greatest_row, emptied, least_row}
use Rattle.certificate_check.specs.Reading.CellPlaces.{is_consistent_cell, has_line, has_place}
use Rattle.certificate_check.specs.Reading.CellReading.{RowReading, row_reading, failed, placed, behind_cell, cell_read, cells_read}
use Rattle.certificate_check.specs.Reading.BlockReading.{BlockReading, block_reading, behind_line, row_read, behind_first, block_read}
use Rattle.certificate_check.specs.Reading.MapReading.{head_read, rows_read, map_rows}

-- ---- cells

module _ (list : List ℤ) (r : Reach Interval) (few : bases_lattice.within list r.bases ≡ true) where
  below_value : (v g : values.Value Interval) → is_known_value interval_lattice interval_numbers list r g ≡ true → (value_lattice interval_lattice).leq v g ≡ true → is_consistent interval_numbers v.pointer ≡ true → is_known_value interval_lattice interval_numbers list r v ≡ true
  below_value v g own below consistent =
      let a = and_parts ((value_lattice interval_lattice).within list g) (is_own_pointer interval_lattice interval_numbers r g.pointer) own in
      let w = and_parts _ _ a.0 in
      let p = and_parts _ _ w.1 in
      let pb = and_parts _ _ p.0 in
      let plo = and_parts _ _ pb.1 in
      let prel = and_parts _ _ plo.1 in
      let plen = and_parts _ _ prel.1 in
      let b = and_parts (interval_lattice.leq v.num g.num) _ below in
      let c = and_parts (pointers_leq interval_lattice v.pointer g.pointer) _ b.1 in
      let d = and_parts (bases_within v.pointer.bases g.pointer.bases) _ c.0 in
      let lo = and_parts (interval_lattice.leq v.pointer.lo g.pointer.lo) _ d.1 in
      let rel = and_parts (interval_lattice.leq v.pointer.rel g.pointer.rel) _ lo.1 in
      let len = and_parts (interval_lattice.leq v.pointer.len g.pointer.len) _ rel.1 in
      let f = and_parts (bases_within g.pointer.bases r.bases) _ a.1 in
      let f2 = and_parts (is_consistent interval_numbers g.pointer) _ f.1 in
      let f3 = and_parts (interval_lattice.leq g.pointer.lo r.counts) (interval_lattice.leq g.pointer.len r.counts) f2.1 in
      let known : bases_within v.pointer.bases r.bases ≡ true = bases_order.transitive v.pointer.bases g.pointer.bases r.bases d.0 f.0 in
      and_from _ _
      (and_from _ _ (interval_ends.smaller_within list v.num g.num b.0 w.0)
      (and_from _ _ (and_from _ _ (within_few list v.pointer.bases r.bases known few)
      (and_from _ _ (interval_ends.smaller_within list v.pointer.lo g.pointer.lo lo.0 plo.0)
      (and_from _ _ (interval_ends.smaller_within list v.pointer.rel g.pointer.rel rel.0 prel.0)
      (and_from _ _ (interval_ends.smaller_within list v.pointer.len g.pointer.len len.0 plen.0) refl)))) refl))
      (and_from _ _ known (and_from _ _ consistent
      (and_from _ _ (interval_order.transitive v.pointer.lo g.pointer.lo r.counts lo.0 f3.0) (interval_order.transitive v.pointer.len g.pointer.len r.counts len.0 f3.1))))

  below_first : (v g : FirstZero Interval) → is_known_first interval_lattice list r g ≡ true → (zero_lattice interval_lattice).leq v g ≡ true → is_known_first interval_lattice list r v ≡ true
  below_first v g own below =
      let a = and_parts ((zero_lattice interval_lattice).within list g) (interval_lattice.leq g.at r.counts) own in
      and_from _ _ (interval_ends.smaller_within list v.at g.at below a.0) (interval_order.transitive v.at g.at r.counts below a.1)

  below_state : (v g : AllocState Interval) → is_known_state interval_lattice list r g ≡ true → (state_lattice interval_lattice).leq v g ≡ true → is_known_state interval_lattice list r v ≡ true
  below_state v g own below =
      let a = and_parts ((state_lattice interval_lattice).within list g) (interval_lattice.leq g.size r.counts) own in
      let w = and_parts (interval_lattice.within list g.size) _ a.0 in
      let b = and_parts (interval_lattice.leq v.size g.size) _ below in
      and_from _ _ (and_from _ _ (interval_ends.smaller_within list v.size g.size b.0 w.0) refl) (interval_order.transitive v.size g.size r.counts b.0 a.1)

  value_line : (g x : Cell Interval) → is_own_value interval_lattice interval_numbers list r g ≡ true → has_line g x ≡ true → is_own_value interval_lattice interval_numbers list r x ≡ true
  value_line Nothing x e h = cc
  value_line (First f) x e h = cc
  value_line (State s) x e h = cc
  value_line Mixed x e h = cc
  value_line (Value g) Nothing e h = cc
  value_line (Value g) (First f) e h = cc
  value_line (Value g) (State s) e h = cc
  value_line (Value g) Mixed e h = cc
  value_line (Value g) (Value v) e h =
      let a = and_parts ((value_lattice interval_lattice).leq v g) _ h in
      below_value v g e a.0 (and_parts (not (is_least (Value v))) (is_consistent interval_numbers v.pointer) a.1).1

  first_line : (g x : Cell Interval) → is_own_first interval_lattice list r g ≡ true → has_line g x ≡ true → is_own_first interval_lattice list r x ≡ true
  first_line Nothing x e h = cc
  first_line (Value v) x e h = cc
  first_line (State s) x e h = cc
  first_line Mixed x e h = cc
  first_line (First g) Nothing e h = cc
  first_line (First g) (Value v) e h = cc
  first_line (First g) (State s) e h = cc
  first_line (First g) Mixed e h = cc
  first_line (First g) (First f) e h = below_first f g e (and_parts ((zero_lattice interval_lattice).leq f g) _ h).0

  state_line : (g x : Cell Interval) → is_own_state interval_lattice list r g ≡ true → has_line g x ≡ true → is_own_state interval_lattice list r x ≡ true
  state_line Nothing x e h = cc
  state_line (Value v) x e h = cc
  state_line (First f) x e h = cc
  state_line Mixed x e h = cc
  state_line (State g) Nothing e h = cc
  state_line (State g) (Value v) e h = cc
  state_line (State g) (First f) e h = cc
  state_line (State g) Mixed e h = cc
  state_line (State g) (State s) e h = below_state s g e (and_parts ((state_lattice interval_lattice).leq s g) _ h).0

  -- a cell that may have a line where the greatest cell is an own one is an own one of its kind
  pub own_line : (k : CellKind) (g x : Cell Interval) → is_own_cell interval_lattice interval_numbers list r k g ≡ true → has_line g x ≡ true → is_own_cell interval_lattice interval_numbers list r k x ≡ true
  own_line kind.Value g x e h = value_line g x e h
  own_line kind.First g x e h = first_line g x e h
  own_line kind.State g x e h = state_line g x e h

  emptied_value : (g : Cell Interval) → is_own_value interval_lattice interval_numbers list r g ≡ true → is_own_value interval_lattice interval_numbers list r (emptied g) ≡ true
  emptied_value Nothing e = e
  emptied_value (First f) e = cc
  emptied_value (State s) e = cc
  emptied_value Mixed e = e
  emptied_value (Value v) e =
      and_from _ _ ((value_heights interval_order interval_heights).least_within list)
      (and_from _ _ (bases_order.least_below r.bases) (and_from _ _ refl (and_from _ _ (interval_order.least_below r.counts) (interval_order.least_below r.counts))))

  emptied_first : (g : Cell Interval) → is_own_first interval_lattice list r g ≡ true → is_own_first interval_lattice list r (emptied g) ≡ true
  emptied_first Nothing e = e
  emptied_first (Value v) e = cc
  emptied_first (State s) e = cc
  emptied_first Mixed e = e
  emptied_first (First f) e = and_from _ _ (interval_heights.least_within list) (interval_order.least_below r.counts)

  emptied_state : (g : Cell Interval) → is_own_state interval_lattice list r g ≡ true → is_own_state interval_lattice list r (emptied g) ≡ true
  emptied_state Nothing e = e
  emptied_state (Value v) e = cc
  emptied_state (First f) e = cc
  emptied_state Mixed e = e
  emptied_state (State s) e = and_from _ _ ((state_heights interval_order interval_heights).least_within list) (interval_order.least_below r.counts)

  emptied_own : (k : CellKind) (g : Cell Interval) → is_own_cell interval_lattice interval_numbers list r k g ≡ true → is_own_cell interval_lattice interval_numbers list r k (emptied g) ≡ true
  emptied_own kind.Value g e = emptied_value g e
  emptied_own kind.First g e = emptied_first g e
  emptied_own kind.State g e = emptied_state g e

  -- ---- rows

  abbrev Owns : List CellKind → List (Cell Interval) → Bool
  Owns ks xs = are_own_cells interval_lattice interval_numbers list r ks xs

  abbrev own_here : List CellKind → Cell Interval → Bool
  own_here ks x = is_own_cell interval_lattice interval_numbers list r (first_kind ks) x

  emptied_cells : (ks : List CellKind) (gs : List (Cell Interval)) → Owns ks gs ≡ true → Owns ks (least_row gs) ≡ true
  emptied_cells ks [] e = refl
  emptied_cells ks (g ∷ gs) e =
      let a = and_parts (own_here ks g) (Owns (kinds_behind ks) gs) e in
      and_from _ _ (emptied_own (first_kind ks) g a.0) (emptied_cells (kinds_behind ks) gs a.1)

  length-emptied : (gs : List (Cell Interval)) → length (least_row gs) ≡ length gs
  length-emptied [] = refl
  length-emptied (g ∷ gs) = let e = length-emptied gs in omega arith

  set_cells : (ks : List CellKind) (gs xs : List (Cell Interval)) (at : ℕ) (x : Cell Interval) → length xs ≡ length gs → Owns ks gs ≡ true → Owns ks xs ≡ true → has_line (slice_index_or gs at Nothing) x ≡ true → Owns ks (slice_set xs at x) ≡ true
  set_cells ks gs [] at x e a b h = refl
  set_cells ks [] (y ∷ ys) at x e a b h = absurd (omega arith)
  set_cells ks (g ∷ gs) (y ∷ ys) zero x e a b h =
      let c = and_parts (own_here ks g) (Owns (kinds_behind ks) gs) a in
      let d = and_parts (own_here ks y) (Owns (kinds_behind ks) ys) b in
      and_from _ _ (own_line (first_kind ks) g x c.0 h) d.1
  set_cells ks (g ∷ gs) (y ∷ ys) (suc at) x e a b h =
      let c = and_parts (own_here ks g) (Owns (kinds_behind ks) gs) a in
      let d = and_parts (own_here ks y) (Owns (kinds_behind ks) ys) b in
      and_from _ _ d.0 (set_cells (kinds_behind ks) gs ys at x (omega arith) c.1 d.1 h)

  module _ (ks : List CellKind) (gs : List (Cell Interval)) (own : Owns ks gs ≡ true) (text : Bytes) where
    record IsOwnRead (c : RowReading) : Type 0 where
      len : length c.row ≡ length gs
      cells : Owns ks c.row ≡ true

    abbrev IsOwnEntry : Option (List (Cell Interval)) → Type 0
    IsOwnEntry None = Unit {0}
    IsOwnEntry (Some row) = (length row ≡ length gs) × (Owns ks row ≡ true)

    behind_own : (owed : ℕ) (c : RowReading) (line : Option MapLine) → IsOwnRead c → IsOwnRead (behind_cell gs text owed c line)
    behind_own owed c None i = record { len = i.len; cells = i.cells }
    behind_own owed c (Some Unreached) i = record { len = i.len; cells = i.cells }
    behind_own owed c (Some (Reached count)) i = record { len = i.len; cells = i.cells }
    behind_own owed c (Some (Placed at x)) i =
        cond_both (has_place gs owed c.reading.from at x) (placed text c.reading c.row at x) (row_reading (failed c.reading) c.row) IsOwnRead
        (λ t. record {
          len = length-set c.row at x ∙ i.len;
          cells = set_cells ks gs c.row at x i.len own i.cells (and_parts _ _ (and_parts _ _ t).1).1;
        })
        (λ _. record { len = i.len; cells = i.cells })

    cell_own : (owed : ℕ) (c : RowReading) → IsOwnRead c → IsOwnRead (cell_read gs text owed c)
    unfolding cell_read
    cell_own owed c i = cond_both c.reading.good (behind_cell gs text owed c (line_at text c.reading.at)) c IsOwnRead (λ _. behind_own owed c (line_at text c.reading.at) i) (λ _. i)

    cells_own : (owed : ℕ) (c : RowReading) → IsOwnRead c → IsOwnRead (cells_read gs text owed c)
    cells_own zero c i = i
    cells_own (suc owed) c i = cells_own owed (cell_read gs text owed c) (cell_own owed c i)

    row_own : (count : ℕ) (r : Reading) → IsOwnEntry (row_read gs text count r).row
    row_own count r =
        let i = cells_own count (row_reading (behind_line text r) (least_row gs)) (record { len = length-emptied gs; cells = emptied_cells ks gs own }) in
        (i.len, i.cells)

    first_own : (r : Reading) (line : Option MapLine) → IsOwnEntry (behind_first gs text r line).row
    first_own r None = tt
    first_own r (Some Unreached) = tt
    first_own r (Some (Reached count)) =
        cond_both (nat_le count (length gs)) (row_read gs text count r) (block_reading (failed r) None) (λ b. IsOwnEntry b.row) (λ _. row_own count r) (λ _. tt)
    first_own r (Some (Placed at x)) = tt

    block_own : (r : Reading) → IsOwnEntry (block_read gs text r).row
    unfolding block_read
    block_own r = cond_both r.good (behind_first gs text r (line_at text r.at)) (block_reading r None) (λ b. IsOwnEntry b.row) (λ _. first_own r (line_at text r.at)) (λ _. tt)

    pub rows_own : (n : ℕ) (r : Reading) (b : ℕ) → IsOwnEntry (row_at (rows_read gs text r n) b)
    rows_own zero r b = tt
    rows_own (suc n) r zero = block_own r
    rows_own (suc n) r (suc b) = rows_own n (block_read gs text r).reading b

-- ---- maps

-- an own row of the program, or none
abbrev pub IsOwnRow : Flow → Option (List (Cell Interval)) → Type 0
IsOwnRow flow None = Unit {0}
IsOwnRow flow (Some row) = is_own_row interval_lattice interval_numbers cert_numbers flow.bases.items flow.width row ≡ true

pub greatest_own : (flow : Flow) → is_own_row interval_lattice interval_numbers cert_numbers flow.bases.items flow.width (greatest_row flow) ≡ true
unfolding greatest_row
greatest_own flow = fit_own interval_order interval_rounding interval_heights interval_bounding interval_ends cert_numbers flow.bases.items flow.width (replicate flow.width Nothing)

pub greatest_length : (flow : Flow) → length (greatest_row flow) ≡ flow.width
greatest_length flow = own_length interval_order interval_rounding interval_heights interval_bounding interval_ends cert_numbers flow.bases.items flow.width (greatest_row flow) (greatest_own flow)

pub greatest_cells : (flow : Flow) → are_own_cells interval_lattice interval_numbers cert_numbers (reach_of interval_lattice interval_numbers cert_numbers (length flow.bases.items)) (all_kinds flow.bases.items) (greatest_row flow) ≡ true
greatest_cells flow = own_cells interval_order interval_rounding interval_heights interval_bounding interval_ends cert_numbers flow.bases.items flow.width (greatest_row flow) (greatest_own flow)

abbrev IsLikeGreatest : Flow → Option (List (Cell Interval)) → Type 0
IsLikeGreatest flow None = Unit {0}
IsLikeGreatest flow (Some row) = (length row ≡ length (greatest_row flow)) × (are_own_cells interval_lattice interval_numbers cert_numbers (reach_of interval_lattice interval_numbers cert_numbers (length flow.bases.items)) (all_kinds flow.bases.items) row ≡ true)

own_entry : (flow : Flow) (row : Option (List (Cell Interval))) → IsLikeGreatest flow row → IsOwnRow flow row
own_entry flow None i = tt
own_entry flow (Some row) i = and_from _ _ (eq-eqb (length row) flow.width (i.0 ∙ greatest_length flow)) i.1

pub map_rows_own : (flow : Flow) (text : Bytes) (b : ℕ) → IsOwnRow flow (row_at (map_rows flow text) b)
unfolding map_rows
map_rows_own flow text b =
    own_entry flow (row_at (rows_read (greatest_row flow) text (head_read flow text) (length flow.blocks.items)) b)
    (rows_own cert_numbers (reach_of interval_lattice interval_numbers cert_numbers (length flow.bases.items)) (reach_is interval_lattice interval_numbers interval_rounding cert_numbers (length flow.bases.items)).few
    (all_kinds flow.bases.items) (greatest_row flow) (greatest_cells flow) text (length flow.blocks.items) (head_read flow text) b)
