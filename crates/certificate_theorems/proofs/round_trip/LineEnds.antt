-- A line that stands at a place of a text is read there.
use Rattle.std.proofs.Common.{◌≡◌, ◌∙◌, ◌+◌, ◌-◌, ◌^◌, ◌≤◌, ℕ, suc, Bool, true, false, cond, nat_lt, List, [], ◌∷◌, ◌++◌, length, drop, Some, None, refl, sym, ap, subst, arith, append_assoc, length-append, lt-ltb}
use Rattle.std.specs.Fmt.{decimal}
use Rattle.std.proofs.lemmas.List.{drop-drop, length-drop}
use Rattle.interval_domain.specs.declared.intervals.intervals.Interval.{Interval}
use Rattle.value_domain.specs.declared.values.row_cells.Cell.{Cell}
use Rattle.value_domain.specs.declared.values.row_cells.Cell.TheVariants.{Nothing, Value, First, State, Mixed}
use Rattle.certificate_text.specs.Lines.LineWords.{Bytes, until, behind}
use Rattle.certificate_text.specs.Lines.CellTexts.{bit_text, labels_sum, range_text}
use Rattle.certificate_text.specs.declared.lines.map_lines.MapLine.{MapLine}
use Rattle.certificate_text.specs.declared.lines.map_lines.MapLine.TheVariants.{Unreached, Reached, Placed}
use Rattle.certificate_text.specs.Lines.MapLines.{reached_text, line_text, line_of}
use Rattle.certificate_text.specs.Maps.MapTexts.{ended_text}
use Rattle.certificate_check.specs.Reading.TextPlaces.{line_at, next_place}
use Rattle.certificate_theorems.specs.Lines.NearRanges.{IsNearRange}
use Rattle.certificate_theorems.specs.Lines.NearCells.{IsNearCell, IsNearLine}
use Rattle.certificate_theorems.proofs.lines.Words.{IsFreeOf, free_both, until_is, behind_is}
use Rattle.certificate_theorems.proofs.lines.Numbers.{apart_below, decimal_free, range_free}
use Rattle.certificate_theorems.proofs.lines.BaseWords.{bases_free}
use Rattle.certificate_theorems.proofs.lines.CellWords.{tail, sum_few, cell_words, cell_line, line_read}

-- ---- no line has an end in it

abbrev AllFree : List Bytes → Type 0
AllFree [] = Unit {0}
AllFree (w ∷ ws) = IsFreeOf 10 w × AllFree ws

tail_free : (ws : List Bytes) → AllFree ws → IsFreeOf 10 (tail ws)
tail_free [] h = tt
tail_free (w ∷ ws) h = (refl, free_both 10 w (tail ws) h.0 (tail_free ws h.1))

decimals : (n : ℕ) → n ≤ 2 ^ 68 → IsFreeOf 10 (decimal n)
decimals n h = decimal_free 10 n (λ c l k. apart_below 10 c (omega arith) l) h

ranges : (x : Interval) → IsNearRange x → IsFreeOf 10 (range_text x)
ranges x h = range_free 10 x (λ c l k. apart_below 10 c (omega arith) l) refl refl h

bits : (b : Bool) → IsFreeOf 10 (bit_text b)
unfolding bit_text
bits true = (refl, tt)
bits false = (refl, tt)

cell_free : (cell : Cell Interval) → IsNearCell cell → AllFree (cell_words cell)
unfolding labels_sum
cell_free Nothing h = absurd h
cell_free Mixed h = absurd h
cell_free (Value v) h =
    let l = v.labels in
    let p = v.pointer in
    let few = sum_few l.lo l.hi l.mutated in
    ((refl, tt), (ranges v.num h.num, (bits v.indeterminate, (decimals (cond l.lo 1 0 + (cond l.hi 2 0 + cond l.mutated 4 0)) (omega arith), ((bases_free p.bases).1, (ranges p.lo h.pointer.lo, (ranges p.rel h.pointer.rel, (ranges p.len h.pointer.len, (bits p.part, (bits p.null, (bits p.ended, tt)))))))))))
cell_free (First f) h = ((refl, tt), (ranges f.at h, tt))
cell_free (State s) h = ((refl, tt), (ranges s.size h, (bits s.live, (bits s.freed, tt))))

line_free : (line : MapLine) → IsNearLine line → IsFreeOf 10 (line_text line)
unfolding reached_text
line_free Unreached h = (refl, tt)
line_free (Reached count) h = (refl, (refl, decimals count (omega arith)))
line_free (Placed at cell) h = let at_free = decimals at (let lt = h.0 in omega arith) in subst (IsFreeOf 10) (sym (cell_line at cell)) (free_both 10 (decimal at) (tail (cell_words cell)) at_free (tail_free (cell_words cell) (cell_free cell h.1)))

-- ---- the line at a place

-- a line with its end stands at a place, and others behind it
module _ (text : Bytes) (at : ℕ) (s left : Bytes) (free : IsFreeOf 10 s) (there : drop at text ≡ (s ++ (10 ∷ [])) ++ left) where
  parted : drop at text ≡ s ++ (10 ∷ left)
  parted = there ∙ append_assoc s (10 ∷ []) left

  pub until_there : until 10 (drop at text) ≡ s
  until_there = ap (until 10) parted ∙ until_is 10 s left free

  pub ends_there : nat_lt (length (until 10 (drop at text))) (length (drop at text)) ≡ true
  ends_there =
      let a : length (until 10 (drop at text)) ≡ length s = ap length until_there in
      let b : length (drop at text) ≡ length s + length (10 ∷ left) = ap length parted ∙ length-append s (10 ∷ left) in
      lt-ltb _ _ (omega (arith, a, b))

  pub next_there : next_place text at + length left ≡ length text
  unfolding next_place
  next_there =
      let a : length (behind 10 (drop at text)) ≡ length left = ap (λ z. length (behind 10 z)) parted ∙ ap length (behind_is 10 s left free) in
      let b : length (drop at text) ≡ length s + length (10 ∷ left) = ap length parted ∙ length-append s (10 ∷ left) in
      let c : length (drop at text) ≡ length text - at = length-drop at text in
      omega (arith, a, b, c)

  pub left_there : drop (next_place text at) text ≡ left
  left_there =
      let b : length (drop at text) ≡ length s + length (10 ∷ left) = ap length parted ∙ length-append s (10 ∷ left) in
      let c : length (drop at text) ≡ length text - at = length-drop at text in
      let e = next_there in
      let n : next_place text at ≡ at + (length s + 1) = omega (arith, b, c, e) in
      ap (λ k. drop k text) n ∙ sym (drop-drop (length s + 1) at text) ∙ ap (drop (length s + 1)) parted ∙ behind_word s
    where
      behind_word : (w : Bytes) → drop (length w + 1) (w ++ (10 ∷ left)) ≡ left
      behind_word [] = refl
      behind_word (d ∷ ds) = let m : suc (length ds) + 1 ≡ suc (length ds + 1) = omega arith in ap (λ k. drop k (d ∷ (ds ++ (10 ∷ left)))) m ∙ behind_word ds

pub line_there : (text : Bytes) (at : ℕ) (line : MapLine) (left : Bytes) → IsNearLine line → drop at text ≡ ended_text line ++ left → line_at text at ≡ Some line
unfolding line_at ended_text
line_there text at line left h there =
    let free = line_free line h in
    ap (λ b. cond b (line_of (until 10 (drop at text))) None) (ends_there text at (line_text line) left free there)
    ∙ ap line_of (until_there text at (line_text line) left free there)
    ∙ line_read line h

-- what is behind a line that was read
pub record IsBehind (text : Bytes) (at : ℕ) (left : Bytes) : Type 0 where
  pub place : at + length left ≡ length text
  pub left_is : drop at text ≡ left

pub line_behind : (text : Bytes) (at : ℕ) (line : MapLine) (left : Bytes) → IsNearLine line → drop at text ≡ ended_text line ++ left → IsBehind text (next_place text at) left
unfolding ended_text
line_behind text at line left h there =
    let free = line_free line h in
    record { place = next_there text at (line_text line) left free there; left_is = left_there text at (line_text line) left free there }
