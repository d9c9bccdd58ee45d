-- The text of a map of own rows is read back as the map.
use Rattle.std.proofs.Common.{◌≡◌, ◌∙◌, ◌^◌, ◌<◌, ◌≤◌, ℕ, suc, true, cond, List, [], ◌∷◌, ◌++◌, length, drop, Option, Some, None, refl, sym, ap, subst, arith, eq-eqb}
use Rattle.std.specs.Prelude.{codes}
use Rattle.std.specs.Fmt.{decimal}
use Rattle.std.proofs.lemmas.Bool.{and_from}
use Rattle.std.proofs.lemmas.List.{append-nil}
use Rattle.cc_base.specs.InductiveMap.{row_at}
use Rattle.interval_domain.specs.Intervals.IntervalLattice.{interval_order, interval_rounding, interval_heights}
use Rattle.interval_domain.specs.Intervals.IntervalNumbers.{interval_bounding}
use Rattle.interval_domain.specs.declared.intervals.intervals.Interval.{Interval}
use Rattle.value_domain.specs.declared.values.row_cells.Cell.{Cell}
use Rattle.cfg.specs.declared.programs.Flow.{Flow}
use Rattle.transfer_system.specs.BoundedRows.CellKinds.{all_kinds}
use Rattle.transfer_system.specs.BoundedRows.FittedRows.{row_fit}
use Rattle.transfer_system.specs.BoundedRows.IntervalEnds.{interval_ends}
use Rattle.transfer_system.specs.BoundedRows.OwnLaws.{own_length, own_cells}
use Rattle.certificate_text.specs.Lines.LineWords.{Bytes, same_bytes}
use Rattle.certificate_text.specs.Maps.MapTexts.{head_text, blocks_text, text_of_map}
use Rattle.certificate_check.specs.Reading.TextPlaces.{next_place}
use Rattle.certificate_check.specs.Reading.GreatestRows.{cert_numbers, greatest_row}
use Rattle.certificate_check.specs.Reading.MapReading.{has_head, head_read, map_rows, map_reading}
use Rattle.certificate_check.specs.Reading.OwnReading.{IsOwnRow, greatest_own}
use Rattle.certificate_theorems.specs.RoundTrip.ReadableRows.{IsReadableRow, AreReadableRows}
use Rattle.certificate_theorems.specs.RoundTrip.ReadMaps.{IsSmall, IsReadBack}
use Rattle.certificate_theorems.proofs.lines.Words.{IsFreeOf, free_both}
use Rattle.certificate_theorems.proofs.lines.Numbers.{apart_below, decimal_free}
use Rattle.certificate_theorems.proofs.lines.CellWords.{same_refl}
use Rattle.certificate_theorems.proofs.round_trip.LineEnds.{until_there, ends_there, next_there, left_there, IsBehind}
use Rattle.certificate_theorems.proofs.round_trip.RowWords.{AreBlocksRead, blocks_back}
use Rattle.certificate_theorems.proofs.round_trip.OwnCells.{all_readable}

decimals : (n : ℕ) → n < 2 ^ 32 → IsFreeOf 10 (decimal n)
decimals n h = decimal_free 10 n (λ c l k. apart_below 10 c (omega arith) l) (omega arith)

head_free : (blocks width : ℕ) → blocks < 2 ^ 32 → width < 2 ^ 32 → IsFreeOf 10 (head_text blocks width)
unfolding head_text
head_free blocks width h k =
    let begins : IsFreeOf 10 (codes "ccheck-cert 1 ") = (refl, (refl, (refl, (refl, (refl, (refl, (refl, (refl, (refl, (refl, (refl, (refl, (refl, (refl, tt)))))))))))))) in
    free_both 10 (codes "ccheck-cert 1 ") (decimal blocks ++ (codes " " ++ decimal width)) begins (free_both 10 (decimal blocks) (codes " " ++ decimal width) (decimals blocks h) (refl, decimals width k))

module _ (flow : Flow) (small : IsSmall flow) where
  greatest_length : length (greatest_row flow) ≡ flow.width
  greatest_length = own_length interval_order interval_rounding interval_heights interval_bounding interval_ends cert_numbers flow.bases.items flow.width (greatest_row flow) (greatest_own flow)

  row_readable : (entry : Option (List (Cell Interval))) → IsOwnRow flow entry → IsReadableRow (greatest_row flow) entry
  unfolding greatest_row row_fit
  row_readable None own = tt
  row_readable (Some row) own =
      all_readable (length flow.bases.items) (all_kinds flow.bases.items) flow.width row (own_length interval_order interval_rounding interval_heights interval_bounding interval_ends cert_numbers flow.bases.items flow.width row own)
      (own_cells interval_order interval_rounding interval_heights interval_bounding interval_ends cert_numbers flow.bases.items flow.width row own)

  rows_readable : (rows : List (Option (List (Cell Interval)))) → ((b : ℕ) → IsOwnRow flow (row_at rows b)) → AreReadableRows (greatest_row flow) rows
  rows_readable [] own = tt
  rows_readable (entry ∷ rows) own = (row_readable entry (own 0), rows_readable rows (λ b. own (suc b)))

  module _ (rows : List (Option (List (Cell Interval)))) (size : length rows ≡ length flow.blocks.items) (own : (b : ℕ) → IsOwnRow flow (row_at rows b)) where
    abbrev text : Bytes
    text = text_of_map flow rows

    abbrev head : Bytes
    head = head_text (length flow.blocks.items) flow.width

    free : IsFreeOf 10 head
    free = head_free (length flow.blocks.items) flow.width small.blocks (let w = small.width in omega (arith, w))

    there : drop 0 text ≡ (head ++ (10 ∷ [])) ++ blocks_text rows
    unfolding text_of_map
    there = refl

    headed : has_head flow text ≡ true
    unfolding has_head
    headed = and_from _ _ (ends_there text 0 head (blocks_text rows) free there) (ap (λ z. same_bytes z head) (until_there text 0 head (blocks_text rows) free there) ∙ same_refl head)

    begins : (head_read flow text).at ≡ next_place text 0
    unfolding head_read
    begins = ap (λ b. cond b (next_place text 0) 0) headed

    good : (head_read flow text).good ≡ true
    unfolding head_read
    good = headed

    behind : IsBehind text (head_read flow text).at (blocks_text rows ++ [])
    behind = subst (λ z. IsBehind text (head_read flow text).at z) (sym (append-nil (blocks_text rows)))
        (subst (λ at. IsBehind text at (blocks_text rows)) (sym begins) (record { place = next_there text 0 head (blocks_text rows) free there; left_is = left_there text 0 head (blocks_text rows) free there }))

    pub read_back : IsReadBack flow rows
    unfolding map_rows map_reading
    read_back =
        let short : length (greatest_row flow) ≤ 2 ^ 31 = (let e = greatest_length in let w = small.width in omega (arith, e, w)) in
        let all = blocks_back (greatest_row flow) text rows (head_read flow text) [] short (rows_readable rows own) good behind in
        let more = subst (λ n. AreBlocksRead (greatest_row flow) text (head_read flow text) n rows []) size all in
        let place = more.behind.place in
        record { rows_are = more.rows_are; whole = and_from _ _ more.good (eq-eqb _ (length text) (omega (arith, place))) }
