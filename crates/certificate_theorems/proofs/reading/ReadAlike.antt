-- A text that begins with the lines that were read of another is read alike.
use Rattle.std.proofs.Common.{◌≡◌, ◌∙◌, ◌+◌, ◌<◌, ◌≤◌, ◌⊎◌, ℕ, zero, suc, Bool, true, false, cond, ◌&&◌, ◌==◌, nat_le, nat_lt, List, ◌++◌, length, take, drop, Option, Some, None, refl, sym, ap, subst, inl, inr, arith, length-append, min}
use Rattle.std.proofs.lemmas.Int.{clamps}
use Rattle.std.proofs.lemmas.List.{length-take}
use Rattle.std.proofs.lemmas.Bool.{cond_both, ltb-true, and_parts, ne_eqb}
use Rattle.interval_domain.specs.declared.intervals.intervals.Interval.{Interval}
use Rattle.value_domain.specs.declared.values.row_cells.Cell.{Cell}
use Rattle.cfg.specs.declared.programs.Flow.{Flow}
use Rattle.certificate_text.specs.declared.lines.map_lines.MapLine.{MapLine}
use Rattle.certificate_text.specs.declared.lines.map_lines.MapLine.TheVariants.{Unreached, Reached, Placed}
use Rattle.certificate_text.specs.Lines.LineWords.{Bytes, until, same_bytes}
use Rattle.certificate_text.specs.Maps.MapTexts.{head_text}
use Rattle.certificate_check.specs.declared.reading.cell_reading.Reading.{Reading}
use Rattle.certificate_check.specs.Reading.TextPlaces.{line_at, next_place}
use Rattle.certificate_check.specs.Reading.CellPlaces.{has_place}
use Rattle.certificate_check.specs.Reading.GreatestRows.{greatest_row, least_row}
use Rattle.certificate_check.specs.Reading.CellReading.{failed, RowReading, row_reading, placed, behind_cell, cell_read, cells_read}
use Rattle.certificate_check.specs.Reading.BlockReading.{block_reading, behind_line, reached, row_read, behind_first, block_read}
use Rattle.certificate_check.specs.Reading.MapReading.{has_head, head_read, blocks_behind, map_reading, is_whole}
use Rattle.certificate_theorems.specs.Reading.LineLaws.{LinesDecide, RefusedLinesBeginNoText, lines_read}
use Rattle.certificate_theorems.proofs.reading.LinePlaces.{Ends, begun, next_rises, next_within, ends_from, until_there, less_there, line_there, next_there}

-- a line that is read has its end
line_ends : (s : Bytes) (a : ℕ) (line : MapLine) → line_at s a ≡ Some line → Ends s a
unfolding line_at
line_ends s a line h = by (nat_lt (length (until 10 (drop a s))) (length (drop a s))) refl
  where
    by : (b : Bool) → nat_lt (length (until 10 (drop a s))) (length (drop a s)) ≡ b → Ends s a
    by true t = ends_from s a (ltb-true (length (until 10 (drop a s))) (length (drop a s)) t)
    by false t = absurd (cc)

-- a reading stays at its line, or goes on behind it
abbrev Moves : Bytes → Reading → Reading → Type 0
Moves s r q = (q.at ≡ r.at) ⊎ (Ends s r.at × (q.at ≡ next_place s r.at))

module _ (s v : Bytes) (e : ℕ) (fits : e ≤ length s) where
  abbrev t : Bytes
  t = begun s e v

  -- the line at the place of a reading ends within the bytes that both texts have
  abbrev Within : Reading → Type 0
  Within r = Ends s r.at × (next_place s r.at ≤ e)

  -- where a line is looked at behind another one, that one is within, too
  back : (r q : Reading) → Moves s r q → Within q → Within r
  back r q m w = elim m [
    | inl h ↦ subst (λ a. Ends s a × (next_place s a ≤ e)) h w
    | inr h ↦ (
      h.0,
      (let more = next_rises s q.at w.0 in let last = w.1 in let is = h.1 in omega arith),
    )
  ]

  line_alike : (r : Reading) → Within r → line_at t r.at ≡ line_at s r.at
  line_alike r w = line_there s v e r.at fits w.0 w.1

  next_alike : (r : Reading) → Within r → next_place t r.at ≡ next_place s r.at
  next_alike r w = next_there s v e r.at fits w.0 w.1

  -- ---- cells

  module _ (g : List (Cell Interval)) where
    placed_moves : (owed : ℕ) (c : RowReading) (at : ℕ) (x : Cell Interval) → Ends s c.reading.at → Moves s c.reading (behind_cell g s owed c (Some (Placed at x))).reading
    placed_moves owed c at x ends =
        cond_both (has_place g owed c.reading.from at x) (placed s c.reading c.row at x) (row_reading (failed c.reading) c.row) (λ q. Moves s c.reading q.reading)
        (λ _. inr (ends, refl))
        (λ _. inl refl)

    behind_moves : (owed : ℕ) (c : RowReading) (line : Option MapLine) → line_at s c.reading.at ≡ line → Moves s c.reading (behind_cell g s owed c line).reading
    behind_moves owed c None h = inl refl
    behind_moves owed c (Some Unreached) h = inl refl
    behind_moves owed c (Some (Reached count)) h = inl refl
    behind_moves owed c (Some (Placed at x)) h = placed_moves owed c at x (line_ends s c.reading.at (Placed at x) h)

    cell_moves : (owed : ℕ) (c : RowReading) → Moves s c.reading (cell_read g s owed c).reading
    unfolding cell_read
    cell_moves owed c =
        cond_both c.reading.good (behind_cell g s owed c (line_at s c.reading.at)) c (λ q. Moves s c.reading q.reading)
        (λ _. behind_moves owed c (line_at s c.reading.at) refl)
        (λ _. inl refl)

    behind_alike : (owed : ℕ) (c : RowReading) (line : Option MapLine) → Within c.reading → behind_cell g t owed c line ≡ behind_cell g s owed c line
    behind_alike owed c None w = refl
    behind_alike owed c (Some Unreached) w = refl
    behind_alike owed c (Some (Reached count)) w = refl
    behind_alike owed c (Some (Placed at x)) w =
        ap (λ n. cond (has_place g owed c.reading.from at x) (row_reading (record { at = n; from = at + 1; good = c.reading.good }) (placed s c.reading c.row at x).row) (row_reading (failed c.reading) c.row)) (next_alike c.reading w)

    cell_alike : (owed : ℕ) (c : RowReading) → Within c.reading → cell_read g t owed c ≡ cell_read g s owed c
    unfolding cell_read
    cell_alike owed c w =
        ap (λ line. cond c.reading.good (behind_cell g t owed c line) c) (line_alike c.reading w)
        ∙ ap (λ q. cond c.reading.good q c) (behind_alike owed c (line_at s c.reading.at) w)

    cells_alike : (owed : ℕ) (c : RowReading) → Within (cells_read g s owed c).reading → (cells_read g t owed c ≡ cells_read g s owed c) × Within c.reading
    cells_alike zero c w = (refl, w)
    cells_alike (suc owed) c w =
        let more = cells_alike owed (cell_read g s owed c) w in
        let here : Within c.reading = back c.reading (cell_read g s owed c).reading (cell_moves owed c) more.1 in
        (ap (cells_read g t owed) (cell_alike owed c here) ∙ more.0, here)

    -- ---- blocks

    line_within : (r : Reading) (line : MapLine) → line_at s r.at ≡ Some line → Within (behind_line s r) → Within r
    line_within r line h w = back r (behind_line s r) (inr (line_ends s r.at line h, refl)) w

    line_behind : (r : Reading) → Within r → behind_line t r ≡ behind_line s r
    line_behind r w = ap (λ n. record { at = n; from = 0; good = r.good }) (next_alike r w)

    row_alike : (count : ℕ) (r : Reading) (line : MapLine) → line_at s r.at ≡ Some line → Within (row_read g s count r).reading → (row_read g t count r ≡ row_read g s count r) × Within r
    row_alike count r line h w =
        let cells = cells_alike count (row_reading (behind_line s r) (least_row g)) w in
        let here : Within r = line_within r line h cells.1 in
        (ap (λ q. reached (cells_read g t count (row_reading q (least_row g)))) (line_behind r here) ∙ ap reached cells.0, here)

    count_alike : (count : ℕ) (r : Reading) (line : MapLine) → line_at s r.at ≡ Some line → (b : Bool) → Within (cond b (row_read g s count r) (block_reading (failed r) None)).reading → (cond b (row_read g t count r) (block_reading (failed r) None) ≡ cond b (row_read g s count r) (block_reading (failed r) None)) × Within r
    count_alike count r line h true w = row_alike count r line h w
    count_alike count r line h false w = (refl, w)

    first_alike : (r : Reading) (line : Option MapLine) → line_at s r.at ≡ line → Within (behind_first g s r line).reading → (behind_first g t r line ≡ behind_first g s r line) × Within r
    first_alike r None h w = (refl, w)
    first_alike r (Some Unreached) h w =
        let here : Within r = line_within r Unreached h w in
        (ap (λ q. block_reading q None) (line_behind r here), here)
    first_alike r (Some (Reached count)) h w = count_alike count r (Reached count) h (nat_le count (length g)) w
    first_alike r (Some (Placed at x)) h w = (refl, w)

    good_alike : (r : Reading) (b : Bool) → Within (cond b (behind_first g s r (line_at s r.at)) (block_reading r None)).reading → (cond b (behind_first g t r (line_at t r.at)) (block_reading r None) ≡ cond b (behind_first g s r (line_at s r.at)) (block_reading r None)) × Within r
    good_alike r true w =
        let first = first_alike r (line_at s r.at) refl w in
        (ap (behind_first g t r) (line_alike r first.1) ∙ first.0, first.1)
    good_alike r false w = (refl, w)

    block_alike : (r : Reading) → Within (block_read g s r).reading → (block_read g t r ≡ block_read g s r) × Within r
    unfolding block_read
    block_alike r w = good_alike r r.good w

    blocks_alike : (n : ℕ) (r : Reading) → Within (blocks_behind g s r n) → (blocks_behind g t r n ≡ blocks_behind g s r n) × Within r
    blocks_alike zero r w = (refl, w)
    blocks_alike (suc n) r w =
        let more = blocks_alike n (block_read g s r).reading w in
        let here = block_alike r more.1 in
        (ap (λ b. blocks_behind g t b.reading n) here.0 ∙ more.0, here.1)

  -- ---- the first line

  abbrev start : Reading
  start = record { at = 0; from = 0; good = true }

  head_same : (flow : Flow) → Within start → has_head flow t ≡ has_head flow s
  unfolding has_head until
  head_same flow w =
      ap (λ b. b && same_bytes (until 10 t) (head_text (length flow.blocks.items) flow.width)) (less_there s v e 0 fits w.0 w.1)
      ∙ ap (λ u. nat_lt (length (until 10 s)) (length s) && same_bytes u (head_text (length flow.blocks.items) flow.width)) (until_there s v e 0 fits w.0 w.1)

  head_ends : (flow : Flow) → has_head flow s ≡ true → Ends s 0
  unfolding has_head
  head_ends flow h =
      let k = and_parts (nat_lt (length (until 10 s)) (length s)) (same_bytes (until 10 s) (head_text (length flow.blocks.items) flow.width)) h in
      ends_from s 0 (ltb-true (length (until 10 s)) (length s) k.0)

  head_moves : (flow : Flow) → Moves s start (head_read flow s)
  unfolding head_read
  head_moves flow = by (has_head flow s) refl
    where
      by : (b : Bool) → has_head flow s ≡ b → (cond b (next_place s 0) 0 ≡ 0) ⊎ (Ends s 0 × (cond b (next_place s 0) 0 ≡ next_place s 0))
      by true h = inr (head_ends flow h, refl)
      by false h = inl refl

  start_alike : (flow : Flow) → Within start → head_read flow t ≡ head_read flow s
  unfolding head_read
  start_alike flow here =
      ap (λ b. record { at = cond b (next_place t 0) 0; from = 0; good = b }) (head_same flow here)
      ∙ ap (λ n. record { at = cond (has_head flow s) n 0; from = 0; good = has_head flow s }) (next_alike start here)

  head_alike : (flow : Flow) → Within (head_read flow s) → head_read flow t ≡ head_read flow s
  head_alike flow w = start_alike flow (back start (head_read flow s) (head_moves flow) w)

  pub map_alike : (flow : Flow) → Within (map_reading flow s) → map_reading flow t ≡ map_reading flow s
  unfolding map_reading
  map_alike flow w =
      let more = blocks_alike (greatest_row flow) (length flow.blocks.items) (head_read flow s) w in
      ap (λ r. blocks_behind (greatest_row flow) t r (length flow.blocks.items)) (head_alike flow more.1) ∙ more.0

-- ---- texts that begin with the lines that were read

pub lines_alike : LinesDecide
lines_alike flow text behind end =
    let ends = ends_from text (map_reading flow text).at end in
    map_alike text behind (next_place text (map_reading flow text).at) (next_within text (map_reading flow text).at ends) flow (ends, (omega arith))

longer : (text behind : Bytes) (a : ℕ) → Ends text a → a < length (take (next_place text a) text ++ behind)
longer text behind a ends =
    let more = next_rises text a ends in
    let within = next_within text a ends in
    let whole : length (take (next_place text a) text ++ behind) ≡ length (take (next_place text a) text) + length behind = length-append (take (next_place text a) text) behind in
    let front : length (take (next_place text a) text) ≡ min (next_place text a) (length text) = length-take (next_place text a) text in
    omega (arith, clamps)

not_whole : (b : Bool) (a n : ℕ) → a < n → b && (a == n) ≡ false
not_whole true a n h = ne_eqb a n (λ e. omega arith)
not_whole false a n h = refl

pub none_begins : RefusedLinesBeginNoText
none_begins flow text behind end refused =
    let ends = ends_from text (map_reading flow text).at end in
    subst (λ r. is_whole (lines_read flow text ++ behind) r ≡ false) (sym (lines_alike flow text behind end)) (not_whole (map_reading flow text).good (map_reading flow text).at (length (lines_read flow text ++ behind)) (longer text behind (map_reading flow text).at ends))
