-- The lines of a row, of a block and of a map are read back.
use Rattle.std.proofs.Common.{◌≡◌, ◌∙◌, ◌+◌, ◌^◌, ◌<◌, ◌≤◌, ℕ, zero, suc, Bool, true, false, cond, not, nat_le, List, [], ◌∷◌, ◌++◌, length, drop, slice_set, slice_index_or, count_by, Option, Some, None, refl, sym, ap, subst, arith, append_assoc, length-append, lt-ltb, le-leb}
use Rattle.std.proofs.lemmas.Bool.{and_from}
use Rattle.std.proofs.lemmas.List.Sums.{count_by-le-length, sum_by-cons}
use Rattle.std.proofs.Math.Seq.{set-append_seam}
use Rattle.interval_domain.specs.declared.intervals.intervals.Interval.{Interval}
use Rattle.value_domain.specs.declared.values.row_cells.Cell.{Cell}
use Rattle.value_domain.specs.declared.values.row_cells.Cell.TheVariants.{Nothing}
use Rattle.certificate_text.specs.Lines.LineWords.{Bytes}
use Rattle.certificate_text.specs.declared.lines.map_lines.MapLine.TheVariants.{Unreached, Reached, Placed}
use Rattle.certificate_text.specs.Maps.LeastCells.{is_least}
use Rattle.certificate_text.specs.Maps.MapTexts.{ended_text, is_told, cells_text, row_text, block_text, blocks_text}
use Rattle.certificate_check.specs.declared.reading.cell_reading.Reading.{Reading}
use Rattle.certificate_check.specs.Reading.TextPlaces.{line_at}
use Rattle.certificate_check.specs.Reading.GreatestRows.{emptied, least_row}
use Rattle.certificate_check.specs.Reading.CellPlaces.{has_line, has_place}
use Rattle.certificate_check.specs.Reading.CellReading.{RowReading, row_reading, failed, placed, behind_cell, cell_read, cells_read}
use Rattle.certificate_check.specs.Reading.BlockReading.{BlockReading, block_reading, behind_line, row_read, behind_first, block_read}
use Rattle.certificate_check.specs.Reading.MapReading.{rows_read, blocks_behind}
use Rattle.certificate_theorems.specs.RoundTrip.ReadableRows.{IsReadableCell, AreReadableCells, IsReadableRow, AreReadableRows}
use Rattle.certificate_theorems.proofs.round_trip.LineEnds.{line_there, IsBehind, line_behind}

-- ---- lists

at_end : (front : List (Cell Interval)) (g : Cell Interval) (gs : List (Cell Interval)) (k : ℕ) → length front ≡ k → slice_index_or (front ++ (g ∷ gs)) k Nothing ≡ g
at_end [] g gs zero e = refl
at_end [] g gs (suc k) e = absurd (omega (arith, e))
at_end (x ∷ xs) g gs zero e = absurd (omega (arith, e))
at_end (x ∷ xs) g gs (suc k) e = at_end xs g gs k (omega (arith, e))

set_end : (front : List (Cell Interval)) (x y : Cell Interval) (rest : List (Cell Interval)) (k : ℕ) → length front ≡ k → slice_set (front ++ (x ∷ rest)) k y ≡ front ++ (y ∷ rest)
set_end front x y rest k e = ap (λ n. slice_set (front ++ (x ∷ rest)) n y) (sym e) ∙ set-append_seam front x rest y

one_more : (front : List (Cell Interval)) (y : Cell Interval) (k : ℕ) → length front ≡ k → length (front ++ (y ∷ [])) ≡ k + 1
one_more front y k e = length-append front (y ∷ []) ∙ ap (λ n. n + 1) e

-- ---- counts

abbrev told_as : Bool → ℕ
told_as t = cond (not t) 1 0

count_here : (y : Cell Interval) (ys : List (Cell Interval)) (t : Bool) → is_least y ≡ t → count_by is_told (y ∷ ys) ≡ cond t (count_by is_told ys) (suc (count_by is_told ys))
count_here y ys true e =
    let g : count_by is_told (y ∷ ys) ≡ told_as (is_least y) + count_by is_told ys = sum_by-cons (λ c. told_as (is_least c)) y ys in
    let f : told_as (is_least y) ≡ 0 = ap told_as e in
    omega (arith, f, g)
count_here y ys false e =
    let g : count_by is_told (y ∷ ys) ≡ told_as (is_least y) + count_by is_told ys = sum_by-cons (λ c. told_as (is_least c)) y ys in
    let f : told_as (is_least y) ≡ 1 = ap told_as e in
    omega (arith, f, g)

same_length : (gs ys : List (Cell Interval)) → AreReadableCells gs ys → length gs ≡ length ys
same_length [] [] h = refl
same_length [] (y ∷ ys) h = absurd h
same_length (g ∷ gs) [] h = absurd h
same_length (g ∷ gs) (y ∷ ys) h = let e = same_length gs ys h.1 in omega (arith, e)

module _ (greatest : List (Cell Interval)) (text : Bytes) where
  -- the lines up to a place have been read into a row
  record IsReadTo (c : RowReading) (row : List (Cell Interval)) (left : Bytes) : Type 0 where
    good : c.reading.good ≡ true
    row_is : c.row ≡ row
    behind : IsBehind text c.reading.at left

  -- ---- one line

  told_line : (k owed : ℕ) (front gfront : List (Cell Interval)) (g y : Cell Interval) (gs : List (Cell Interval)) (c : RowReading) (left : Bytes) → greatest ≡ gfront ++ (g ∷ gs) → length gfront ≡ k → length front ≡ k → owed ≤ length gs → k < 2 ^ 32
      → c.reading.good ≡ true → c.reading.from ≤ k → c.row ≡ front ++ (emptied g ∷ least_row gs) → has_line g y ≡ true → IsReadableCell g y → is_least y ≡ false → drop c.reading.at text ≡ ended_text (Placed k y) ++ left
      → cell_read greatest text owed c ≡ placed text c.reading c.row k y
  unfolding cell_read
  told_line k owed front gfront g y gs c left whole at_k long few small good from row line readable told there =
      let there_is : line_at text c.reading.at ≡ Some (Placed k y) = line_there text c.reading.at (Placed k y) left (small, readable.near told) there in
      let here : slice_index_or greatest k Nothing ≡ g = ap (λ z. slice_index_or z k Nothing) whole ∙ at_end gfront g gs k at_k in
      let size : length greatest ≡ k + suc (length gs) = ap length whole ∙ length-append gfront (g ∷ gs) ∙ ap (λ n. n + suc (length gs)) at_k in
      let place : has_place greatest owed c.reading.from k y ≡ true = and_from _ _ (le-leb c.reading.from k from) (and_from _ _ (lt-ltb (k + owed) (length greatest) (omega (arith, size, few))) (ap (λ z. has_line z y) here ∙ line)) in
      ap (λ b. cond b (behind_cell greatest text owed c (line_at text c.reading.at)) c) good
      ∙ ap (behind_cell greatest text owed c) there_is
      ∙ ap (λ b. cond b (placed text c.reading c.row k y) (row_reading (failed c.reading) c.row)) place

  -- ---- a row

  -- what is behind a cell, where the row is read on from there
  cell_back : (k : ℕ) (front gfront : List (Cell Interval)) (y : Cell Interval) (ys : List (Cell Interval)) (g : Cell Interval) (gs : List (Cell Interval)) (c : RowReading) (left : Bytes) → greatest ≡ gfront ++ (g ∷ gs) → length gfront ≡ k → length front ≡ k → IsReadableCell g y
      → count_by is_told ys ≤ length gs → k < 2 ^ 32 → c.reading.good ≡ true → c.reading.from ≤ k → c.row ≡ front ++ (emptied g ∷ least_row gs) → IsBehind text c.reading.at (cells_text k (y ∷ ys) ++ left)
      → ((d : RowReading) → d.reading.good ≡ true → d.reading.from ≤ k + 1 → d.row ≡ (front ++ (y ∷ [])) ++ least_row gs → IsBehind text d.reading.at (cells_text (k + 1) ys ++ left) → IsReadTo (cells_read greatest text (count_by is_told ys) d) ((front ++ (y ∷ [])) ++ ys) left)
      → IsReadTo (cells_read greatest text (count_by is_told (y ∷ ys)) c) (front ++ (y ∷ ys)) left
  cell_back k front gfront y ys g gs c left whole at_k long readable owed_few small good from row behind more = by_least (is_least y) refl
    where
      lines : (t : Bool) → is_least y ≡ t → cells_text k (y ∷ ys) ≡ cond t [] (ended_text (Placed k y)) ++ cells_text (k + 1) ys
      lines t e = ap (λ b. cond b [] (ended_text (Placed k y)) ++ cells_text (k + 1) ys) e

      by_least : (t : Bool) → is_least y ≡ t → IsReadTo (cells_read greatest text (count_by is_told (y ∷ ys)) c) (front ++ (y ∷ ys)) left
      by_least true e =
          let row_more : c.row ≡ (front ++ (y ∷ [])) ++ least_row gs = row ∙ ap (λ z. front ++ (z ∷ least_row gs)) (readable.least e) ∙ sym (append_assoc front (y ∷ []) (least_row gs)) in
          let text_is : cells_text k (y ∷ ys) ++ left ≡ cells_text (k + 1) ys ++ left = ap (λ z. z ++ left) (lines true e) in
          let r = more c good (omega (arith, from)) row_more (subst (IsBehind text c.reading.at) text_is behind) in
          subst (λ n. IsReadTo (cells_read greatest text n c) (front ++ (y ∷ ys)) left) (sym (count_here y ys true e)) (subst (λ z. IsReadTo (cells_read greatest text (count_by is_told ys) c) z left) (append_assoc front (y ∷ []) ys) r)
      by_least false e =
          let owed = count_by is_told ys in
          let after = cells_text (k + 1) ys ++ left in
          let text_is : cells_text k (y ∷ ys) ++ left ≡ ended_text (Placed k y) ++ after = ap (λ z. z ++ left) (lines false e) ∙ append_assoc (ended_text (Placed k y)) (cells_text (k + 1) ys) left in
          let there : drop c.reading.at text ≡ ended_text (Placed k y) ++ after = behind.left_is ∙ text_is in
          let d = placed text c.reading c.row k y in
          let read : cell_read greatest text owed c ≡ d = told_line k owed front gfront g y gs c after whole at_k long owed_few small good from row (readable.line e) readable e there in
          let row_more : d.row ≡ (front ++ (y ∷ [])) ++ least_row gs = ap (λ z. slice_set z k y) row ∙ set_end front (emptied g) y (least_row gs) k long ∙ sym (append_assoc front (y ∷ []) (least_row gs)) in
          let next = line_behind text c.reading.at (Placed k y) after (small, readable.near e) there in
          let r = more d good (omega arith) row_more next in
          subst (λ n. IsReadTo (cells_read greatest text n c) (front ++ (y ∷ ys)) left) (sym (count_here y ys false e))
          (subst (λ z. IsReadTo (cells_read greatest text owed z) (front ++ (y ∷ ys)) left) (sym read) (subst (λ z. IsReadTo (cells_read greatest text owed d) z left) (append_assoc front (y ∷ []) ys) r))

  cells_back : (k : ℕ) (front gfront ys gs : List (Cell Interval)) (c : RowReading) (left : Bytes) → greatest ≡ gfront ++ gs → length gfront ≡ k → length front ≡ k → AreReadableCells gs ys → k + length gs ≤ 2 ^ 32
      → c.reading.good ≡ true → c.reading.from ≤ k → c.row ≡ front ++ least_row gs → IsBehind text c.reading.at (cells_text k ys ++ left) → IsReadTo (cells_read greatest text (count_by is_told ys) c) (front ++ ys) left
  cells_back k front gfront [] [] c left whole at_k long all few good from row behind = record { good = good; row_is = row; behind = behind }
  cells_back k front gfront [] (g ∷ gs) c left whole at_k long all few good from row behind = absurd all
  cells_back k front gfront (y ∷ ys) [] c left whole at_k long all few good from row behind = absurd all
  cells_back k front gfront (y ∷ ys) (g ∷ gs) c left whole at_k long all few good from row behind =
      let most = count_by-le-length is_told ys in
      let same = same_length gs ys all.1 in
      let whole_more : greatest ≡ (gfront ++ (g ∷ [])) ++ gs = whole ∙ sym (append_assoc gfront (g ∷ []) gs) in
      let room : k + 1 + length gs ≤ 2 ^ 32 = omega (arith, few) in
      cell_back k front gfront y ys g gs c left whole at_k long all.0 (omega (arith, most, same)) (omega (arith, few)) good from row behind
      (λ d good_more from_more row_more behind_more. cells_back (k + 1) (front ++ (y ∷ [])) (gfront ++ (g ∷ [])) ys gs d left whole_more (one_more gfront g k at_k) (one_more front y k long) all.1 room good_more from_more row_more behind_more)

  -- ---- blocks

  record IsBlockRead (b : BlockReading) (row : Option (List (Cell Interval))) (left : Bytes) : Type 0 where
    good : b.reading.good ≡ true
    row_is : b.row ≡ row
    behind : IsBehind text b.reading.at left

  block_back : (entry : Option (List (Cell Interval))) (r : Reading) (left : Bytes) → length greatest ≤ 2 ^ 31 → IsReadableRow greatest entry → r.good ≡ true → IsBehind text r.at (block_text entry ++ left) → IsBlockRead (block_read greatest text r) entry left
  unfolding block_read row_text
  block_back None r left few h good behind =
      let read : line_at text r.at ≡ Some Unreached = line_there text r.at Unreached left tt behind.left_is in
      let is : cond r.good (behind_first greatest text r (line_at text r.at)) (block_reading r None) ≡ block_reading (behind_line text r) None =
      ap (λ b. cond b (behind_first greatest text r (line_at text r.at)) (block_reading r None)) good ∙ ap (behind_first greatest text r) read in
      subst (λ b. IsBlockRead b None left) (sym is) (record { good = good; row_is = refl; behind = line_behind text r.at Unreached left tt behind.left_is })
  block_back (Some row) r left few h good behind =
      let count = count_by is_told row in
      let most = count_by-le-length is_told row in
      let same = same_length greatest row h in
      let there : drop r.at text ≡ ended_text (Reached count) ++ (cells_text 0 row ++ left) = behind.left_is ∙ append_assoc (ended_text (Reached count)) (cells_text 0 row) left in
      let small : count < 2 ^ 32 = omega (arith, most, same, few) in
      let read : line_at text r.at ≡ Some (Reached count) = line_there text r.at (Reached count) (cells_text 0 row ++ left) small there in
      let fits : nat_le count (length greatest) ≡ true = le-leb count (length greatest) (omega (arith, most, same)) in
      let is : cond r.good (behind_first greatest text r (line_at text r.at)) (block_reading r None) ≡ row_read greatest text count r =
      ap (λ b. cond b (behind_first greatest text r (line_at text r.at)) (block_reading r None)) good
      ∙ ap (behind_first greatest text r) read
      ∙ ap (λ b. cond b (row_read greatest text count r) (block_reading (failed r) None)) fits in
      let cells = cells_back 0 [] [] row greatest (row_reading (behind_line text r) (least_row greatest)) left refl refl refl h (omega (arith, few)) good (omega arith) refl (line_behind text r.at (Reached count) (cells_text 0 row ++ left) small there) in
      subst (λ b. IsBlockRead b (Some row) left) (sym is) (record { good = cells.good; row_is = ap (λ z. Some z) cells.row_is; behind = cells.behind })

  -- all blocks
  pub record AreBlocksRead (r : Reading) (n : ℕ) (rows : List (Option (List (Cell Interval)))) (left : Bytes) : Type 0 where
    pub rows_are : rows_read greatest text r n ≡ rows
    pub good : (blocks_behind greatest text r n).good ≡ true
    pub behind : IsBehind text (blocks_behind greatest text r n).at left

  pub blocks_back : (rows : List (Option (List (Cell Interval)))) (r : Reading) (left : Bytes) → length greatest ≤ 2 ^ 31 → AreReadableRows greatest rows → r.good ≡ true → IsBehind text r.at (blocks_text rows ++ left) → AreBlocksRead r (length rows) rows left
  blocks_back [] r left few h good behind = record { rows_are = refl; good = good; behind = behind }
  blocks_back (entry ∷ rows) r left few h good behind =
      let b = block_back entry r (blocks_text rows ++ left) few h.0 good (subst (IsBehind text r.at) (append_assoc (block_text entry) (blocks_text rows) left) behind) in
      let more = blocks_back rows (block_read greatest text r).reading left few h.1 b.good b.behind in
      let first = b.row_is in
      let others = more.rows_are in
      record { rows_are = λ i. first i ∷ others i; good = more.good; behind = more.behind }
