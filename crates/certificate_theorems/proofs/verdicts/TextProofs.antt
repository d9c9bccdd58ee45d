-- A text that is read whole is the text of the map that it gives.
use Rattle.std.proofs.Common.{◌≡◌, ◌∙◌, ◌+◌, ◌-◌, ◌<◌, ◌≤◌, ℕ, zero, suc, Bool, true, false, cond, not, ◌&&◌, ◌==◌, nat_le, nat_lt, List, [], ◌∷◌, ◌++◌, length, take, drop, set, slice_index_or, count_by, Option, Some, None, refl, sym, ap, subst, arith, append_assoc, length-set}
use Rattle.std.proofs.lemmas.Bool.{and_parts, eqb-true, leb-true, ltb-true}
use Rattle.std.proofs.lemmas.List.{append-nil}
use Rattle.std.proofs.Math.Seq.{drop-length}
use Rattle.interval_domain.specs.declared.intervals.intervals.Interval.{Interval}
use Rattle.interval_domain.specs.Intervals.IntervalLattice.{interval_lattice}
use Rattle.value_domain.specs.declared.values.row_cells.Cell.{Cell}
use Rattle.value_domain.specs.declared.values.row_cells.Cell.TheVariants.{Nothing}
use Rattle.value_domain.specs.Values.Cells.{cell_leq}
use Rattle.cfg.specs.declared.programs.Flow.{Flow}
use Rattle.certificate_text.specs.Lines.LineWords.{Bytes, until, same_bytes}
use Rattle.certificate_text.specs.declared.lines.map_lines.MapLine.{MapLine}
use Rattle.certificate_text.specs.declared.lines.map_lines.MapLine.TheVariants.{Unreached, Reached, Placed}
use Rattle.certificate_text.specs.Maps.LeastCells.{is_least}
use Rattle.certificate_text.specs.Maps.MapTexts.{head_text, ended_text, is_told, cells_text, row_text, block_text, blocks_text, text_of_map}
use Rattle.certificate_check.specs.declared.reading.cell_reading.Reading.{Reading}
use Rattle.certificate_check.specs.Reading.TextPlaces.{line_at, next_place}
use Rattle.certificate_check.specs.Reading.GreatestRows.{greatest_row, least_row}
use Rattle.certificate_check.specs.Reading.CellPlaces.{is_consistent_cell, has_line, has_place}
use Rattle.certificate_check.specs.Reading.CellReading.{RowReading, row_reading, failed, placed, behind_cell, cell_read, cells_read}
use Rattle.certificate_check.specs.Reading.BlockReading.{BlockReading, block_reading, behind_line, row_read, behind_first, block_read}
use Rattle.certificate_check.specs.Reading.MapReading.{has_head, head_read, rows_read, blocks_behind, map_rows, map_reading, is_whole}
use Rattle.certificate_theorems.proofs.verdicts.LineProofs.{line_stands, head_stands}
use Rattle.certificate_theorems.proofs.verdicts.RowProofs.{LeastFrom, cells_more, count_more, least_behind, least_row_least, least_row_text, least_row_count}

not_true : (b : Bool) → not b ≡ true → b ≡ false
not_true true h = sym h
not_true false h = refl

module _ (greatest : List (Cell Interval)) (text : Bytes) where
  -- ---- cells

  -- lines of cells have been read from the first reading to the second
  record Lines (c d : RowReading) (n : ℕ) : Type 0 where
    bytes : Bytes
    stand : drop c.reading.at text ≡ bytes ++ drop d.reading.at text
    cells : cells_text 0 d.row ≡ cells_text 0 c.row ++ bytes
    count : count_by is_told d.row ≡ count_by is_told c.row + n

  -- a row as it is while it is read
  record Partly (c : RowReading) : Type 0 where
    size : length c.row ≡ length greatest
    least : LeastFrom c.reading.from c.row

  record Step (c d : RowReading) (n : ℕ) : Type 0 where
    lines : Lines c d n
    partly : Partly d

  no_lines : (c : RowReading) → Partly c → Step c c 0
  no_lines c p = record {
    lines = record { bytes = []; stand = refl; cells = sym (append-nil (cells_text 0 c.row)); count = omega arith };
    partly = p;
  }

  more_lines : (c d e : RowReading) (n : ℕ) → Step c d 1 → Step d e n → Step c e (suc n)
  more_lines c d e n s t = record {
    lines = record {
      bytes = s.lines.bytes ++ t.lines.bytes;
      stand = s.lines.stand ∙ ap (λ z. s.lines.bytes ++ z) t.lines.stand ∙ sym (append_assoc s.lines.bytes t.lines.bytes (drop e.reading.at text));
      cells = t.lines.cells ∙ ap (λ z. z ++ t.lines.bytes) s.lines.cells ∙ append_assoc (cells_text 0 c.row) s.lines.bytes t.lines.bytes;
      count = let a : count_by is_told d.row ≡ count_by is_told c.row + 1 = s.lines.count in let b : count_by is_told e.row ≡ count_by is_told d.row + n = t.lines.count in omega arith;
    };
    partly = t.partly;
  }

  place_step : (owed : ℕ) (c : RowReading) (at : ℕ) (x : Cell Interval) → Partly c → line_at text c.reading.at ≡ Some (Placed at x) → has_place greatest owed c.reading.from at x ≡ true → Step c (placed text c.reading c.row at x) 1
  place_step owed c at x p line h =
      let a = and_parts (nat_le c.reading.from at) _ h in
      let b = and_parts (nat_lt (at + owed) (length greatest)) _ a.1 in
      let d = and_parts (cell_leq interval_lattice x (slice_index_or greatest at Nothing)) _ b.1 in
      let told : is_least x ≡ false = not_true (is_least x) (and_parts (not (is_least x)) (is_consistent_cell x) d.1).0 in
      let le : c.reading.from ≤ at = leb-true c.reading.from at a.0 in
      let room : at + owed < length greatest = ltb-true (at + owed) (length greatest) b.0 in
      let size : length c.row ≡ length greatest = p.size in
      let lt : at < length c.row = omega arith in
      let from_zero : 0 + at ≡ at = omega arith in
      record {
        lines = record {
          bytes = ended_text (Placed at x);
          stand = line_stands text c.reading.at (Placed at x) line;
          cells = cells_more 0 c.row c.reading.from at x p.least le lt told ∙ ap (λ n. cells_text 0 c.row ++ ended_text (Placed n x)) from_zero;
          count = count_more c.row c.reading.from at x p.least le lt told;
        };
        partly = record { size = length-set c.row at x ∙ size; least = least_behind c.row c.reading.from at x p.least le };
      }

  -- where a reading is good behind a line, it was good before
  place_if : (owed : ℕ) (c : RowReading) (at : ℕ) (x : Cell Interval) (t : Bool) → has_place greatest owed c.reading.from at x ≡ t → Partly c → line_at text c.reading.at ≡ Some (Placed at x) → (cond t (placed text c.reading c.row at x) (row_reading (failed c.reading) c.row)).reading.good ≡ true → Step c (cond t (placed text c.reading c.row at x) (row_reading (failed c.reading) c.row)) 1
  place_if owed c at x true e p line good = place_step owed c at x p line e
  place_if owed c at x false e p line good = absurd (cc)

  line_step : (owed : ℕ) (c : RowReading) (line : Option MapLine) → Partly c → line_at text c.reading.at ≡ line → (behind_cell greatest text owed c line).reading.good ≡ true → Step c (behind_cell greatest text owed c line) 1
  line_step owed c None p e good = absurd (cc)
  line_step owed c (Some Unreached) p e good = absurd (cc)
  line_step owed c (Some (Reached count)) p e good = absurd (cc)
  line_step owed c (Some (Placed at x)) p e good = place_if owed c at x (has_place greatest owed c.reading.from at x) refl p e good

  cell_if : (owed : ℕ) (c : RowReading) (t : Bool) → c.reading.good ≡ t → Partly c → (cond t (behind_cell greatest text owed c (line_at text c.reading.at)) c).reading.good ≡ true → Step c (cond t (behind_cell greatest text owed c (line_at text c.reading.at)) c) 1
  cell_if owed c true e p good = line_step owed c (line_at text c.reading.at) p refl good
  cell_if owed c false e p good = absurd (cc)

  cell_step : (owed : ℕ) (c : RowReading) → Partly c → (cell_read greatest text owed c).reading.good ≡ true → Step c (cell_read greatest text owed c) 1
  unfolding cell_read
  cell_step owed c p good = cell_if owed c c.reading.good refl p good

  -- a reading that failed stays so
  stays_if : (owed : ℕ) (c : RowReading) (t : Bool) → c.reading.good ≡ t → t ≡ false → (cond t (behind_cell greatest text owed c (line_at text c.reading.at)) c).reading.good ≡ false
  stays_if owed c true e f = cc
  stays_if owed c false e f = e

  stays_failed : (owed : ℕ) (c : RowReading) → c.reading.good ≡ false → (cell_read greatest text owed c).reading.good ≡ false
  unfolding cell_read
  stays_failed owed c e = stays_if owed c c.reading.good refl e

  all_failed : (owed : ℕ) (c : RowReading) → c.reading.good ≡ false → (cells_read greatest text owed c).reading.good ≡ false
  all_failed zero c e = e
  all_failed (suc owed) c e = all_failed owed (cell_read greatest text owed c) (stays_failed owed c e)

  was_good : (owed : ℕ) (c : RowReading) (b : Bool) → c.reading.good ≡ b → (cells_read greatest text owed c).reading.good ≡ true → c.reading.good ≡ true
  was_good owed c true e good = e
  was_good owed c false e good = let f : (cells_read greatest text owed c).reading.good ≡ false = all_failed owed c e in cc

  cells_step : (owed : ℕ) (c : RowReading) → Partly c → (cells_read greatest text owed c).reading.good ≡ true → Step c (cells_read greatest text owed c) owed
  cells_step zero c p good = no_lines c p
  cells_step (suc owed) c p good =
      let d = cell_read greatest text owed c in
      let first = cell_step owed c p (was_good owed d d.reading.good refl good) in
      more_lines c d (cells_read greatest text owed d) owed first (cells_step owed d first.partly good)

  -- ---- blocks

  -- the lines of a block stand from the first reading to the second
  abbrev Stands : Reading → BlockReading → Type 0
  Stands r b = drop r.at text ≡ block_text b.row ++ drop b.reading.at text

  length-least : (gs : List (Cell Interval)) → length (least_row gs) ≡ length gs
  length-least [] = refl
  length-least (g ∷ gs) = let e = length-least gs in omega arith

  row_stands : (count : ℕ) (r : Reading) → line_at text r.at ≡ Some (Reached count) → (row_read greatest text count r).reading.good ≡ true → Stands r (row_read greatest text count r)
  unfolding row_text
  row_stands count r line good =
      let c = row_reading (behind_line text r) (least_row greatest) in
      let d = cells_read greatest text count c in
      let s = cells_step count c (record { size = length-least greatest; least = least_row_least greatest }) good in
      let told : count_by is_told d.row ≡ count = let a : count_by is_told d.row ≡ count_by is_told (least_row greatest) + count = s.lines.count in let b : count_by is_told (least_row greatest) ≡ 0 = least_row_count greatest in omega arith in
      let bytes : cells_text 0 d.row ≡ s.lines.bytes = s.lines.cells ∙ ap (λ z. z ++ s.lines.bytes) (least_row_text greatest) in
      line_stands text r.at (Reached count) line
      ∙ ap (λ z. ended_text (Reached count) ++ z) s.lines.stand
      ∙ sym (append_assoc (ended_text (Reached count)) s.lines.bytes (drop d.reading.at text))
      ∙ ap (λ z. (ended_text (Reached count) ++ z) ++ drop d.reading.at text) (sym bytes)
      ∙ ap (λ n. (ended_text (Reached n) ++ cells_text 0 d.row) ++ drop d.reading.at text) (sym told)

  first_if : (count : ℕ) (r : Reading) (t : Bool) → line_at text r.at ≡ Some (Reached count) → (cond t (row_read greatest text count r) (block_reading (failed r) None)).reading.good ≡ true → Stands r (cond t (row_read greatest text count r) (block_reading (failed r) None))
  first_if count r true line good = row_stands count r line good
  first_if count r false line good = absurd (cc)

  first_stands : (r : Reading) (line : Option MapLine) → line_at text r.at ≡ line → (behind_first greatest text r line).reading.good ≡ true → Stands r (behind_first greatest text r line)
  first_stands r None e good = absurd (cc)
  first_stands r (Some Unreached) e good = line_stands text r.at Unreached e
  first_stands r (Some (Reached count)) e good = first_if count r (nat_le count (length greatest)) e good
  first_stands r (Some (Placed at x)) e good = absurd (cc)

  block_if : (r : Reading) (t : Bool) → r.good ≡ t → (cond t (behind_first greatest text r (line_at text r.at)) (block_reading r None)).reading.good ≡ true → Stands r (cond t (behind_first greatest text r (line_at text r.at)) (block_reading r None))
  block_if r true e good = first_stands r (line_at text r.at) refl good
  block_if r false e good = absurd (cc)

  block_stands : (r : Reading) → (block_read greatest text r).reading.good ≡ true → Stands r (block_read greatest text r)
  unfolding block_read
  block_stands r good = block_if r r.good refl good

  -- ---- all blocks

  block_stays : (r : Reading) (t : Bool) → r.good ≡ t → t ≡ false → (cond t (behind_first greatest text r (line_at text r.at)) (block_reading r None)).reading.good ≡ false
  block_stays r true e f = cc
  block_stays r false e f = e

  block_failed : (r : Reading) → r.good ≡ false → (block_read greatest text r).reading.good ≡ false
  unfolding block_read
  block_failed r e = block_stays r r.good refl e

  blocks_failed : (n : ℕ) (r : Reading) → r.good ≡ false → (blocks_behind greatest text r n).good ≡ false
  blocks_failed zero r e = e
  blocks_failed (suc n) r e = blocks_failed n (block_read greatest text r).reading (block_failed r e)

  pub good_before : (n : ℕ) (r : Reading) (b : Bool) → r.good ≡ b → (blocks_behind greatest text r n).good ≡ true → r.good ≡ true
  good_before n r true e good = e
  good_before n r false e good = let f : (blocks_behind greatest text r n).good ≡ false = blocks_failed n r e in cc

  pub blocks_stand : (n : ℕ) (r : Reading) → (blocks_behind greatest text r n).good ≡ true → drop r.at text ≡ blocks_text (rows_read greatest text r n) ++ drop (blocks_behind greatest text r n).at text
  blocks_stand zero r good = refl
  blocks_stand (suc n) r good =
      let b = block_read greatest text r in
      block_stands r (good_before n b.reading b.reading.good refl good)
      ∙ ap (λ z. block_text b.row ++ z) (blocks_stand n b.reading good)
      ∙ sym (append_assoc (block_text b.row) (blocks_text (rows_read greatest text b.reading n)) (drop (blocks_behind greatest text b.reading n).at text))

-- ---- the whole

head_if : (flow : Flow) (text : Bytes) (t : Bool) → has_head flow text ≡ t → t ≡ true → text ≡ (head_text (length flow.blocks.items) flow.width ++ (10 ∷ [])) ++ drop (cond t (next_place text 0) 0) text
head_if flow text true e f = head_stands flow text e
head_if flow text false e f = absurd (cc)

head_is : (flow : Flow) (text : Bytes) → (head_read flow text).good ≡ true → text ≡ (head_text (length flow.blocks.items) flow.width ++ (10 ∷ [])) ++ drop (head_read flow text).at text
unfolding head_read
head_is flow text good = head_if flow text (has_head flow text) refl good

-- a text that is read whole is the text of the map that it gives
pub whole_is_text : (flow : Flow) (text : Bytes) → is_whole text (map_reading flow text) ≡ true → text ≡ text_of_map flow (map_rows flow text)
unfolding map_reading map_rows text_of_map
whole_is_text flow text h =
    let greatest = greatest_row flow in
    let n = length flow.blocks.items in
    let r = head_read flow text in
    let last = blocks_behind greatest text r n in
    let k = and_parts last.good (last.at == length text) h in
    let at : last.at ≡ length text = eqb-true last.at (length text) k.1 in
    let rows = blocks_text (rows_read greatest text r n) in
    let head = head_text n flow.width ++ (10 ∷ []) in
    head_is flow text (good_before greatest text n r r.good refl k.0)
    ∙ ap (λ z. head ++ z) (blocks_stand greatest text n r k.0 ∙ ap (λ z. rows ++ drop z text) at ∙ ap (λ z. rows ++ z) (drop-length text) ∙ append-nil rows)
