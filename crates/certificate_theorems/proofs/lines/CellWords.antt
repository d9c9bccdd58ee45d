-- The line of a cell is read back.
use Rattle.std.proofs.Common.{◌≡◌, ◌∙◌, ◌+◌, ◌/◌, ◌%◌, ◌^◌, ◌<◌, ◌≤◌, ℕ, Bool, true, false, cond, ◌&&◌, ◌==◌, List, [], ◌∷◌, ◌++◌, length, Some, None, refl, sym, ap, arith, append_assoc}
use Rattle.std.specs.Prelude.{codes}
use Rattle.std.specs.Fmt.{decimal}
use Rattle.std.specs.Str.Parse.{AllDigits}
use Rattle.std.proofs.lemmas.List.{append-nil}
use Rattle.std.proofs.lemmas.Fmt.{decimal_is_IsNumeral_wide}
use Rattle.std.proofs.lemmas.Str.Parse.{digit_from_value}
use Rattle.interval_domain.specs.declared.intervals.intervals.Interval.{Interval}
use Rattle.pointer_domain.specs.declared.pointer_sets.Pointers.{Pointers}
use Rattle.value_domain.specs.declared.strings.first_zeros.FirstZero.{FirstZero}
use Rattle.value_domain.specs.declared.values.values.Value as values
use Rattle.value_domain.specs.declared.values.label_sets.Labels.{Labels}
use Rattle.value_domain.specs.declared.values.alloc_states.AllocState.{AllocState}
use Rattle.value_domain.specs.declared.values.row_cells.Cell.{Cell}
use Rattle.value_domain.specs.declared.values.row_cells.Cell.TheVariants.{Nothing, Value, First, State, Mixed}
use Rattle.certificate_text.specs.Lines.LineWords.{Bytes, first_byte, same_all, same_bytes}
use Rattle.certificate_text.specs.Lines.DecimalWords.{small, range_of}
use Rattle.certificate_text.specs.Lines.BaseDigits.{bases_of, bases_text}
use Rattle.certificate_text.specs.Lines.CellReaders.{word, rest, is_set, labels_given, pointer_given, value_given, first_given, state_given, cell_given}
use Rattle.certificate_text.specs.Lines.CellTexts.{bit_text, labels_sum, range_text, with_word, with_words, with_pointer, with_value, with_first, with_state}
use Rattle.certificate_text.specs.declared.lines.map_lines.MapLine.{MapLine}
use Rattle.certificate_text.specs.declared.lines.map_lines.MapLine.TheVariants.{Unreached, Reached, Placed}
use Rattle.certificate_text.specs.Lines.MapLines.{reached_text, placed_text, line_text, line_given, line_if_same, line_of}
use Rattle.certificate_theorems.specs.Lines.NearRanges.{IsNearRange}
use Rattle.certificate_theorems.specs.Lines.NearCells.{IsNearPointer, IsNearValue, IsNearCell, IsNearLine}
use Rattle.certificate_theorems.proofs.lines.Words.{IsFreeOf, until_is, behind_is}
use Rattle.certificate_theorems.proofs.lines.Numbers.{apart_below, apart_above, small_back, decimal_free, range_back, range_free}
use Rattle.certificate_theorems.proofs.lines.BaseWords.{bases_back, bases_free}

-- ---- words

-- words, each behind a blank
abbrev pub tail : List Bytes → Bytes
tail [] = []
tail (w ∷ ws) = 32 ∷ (w ++ tail ws)

words_tail : (t : Bytes) (ws : List Bytes) → with_words t ws ≡ t ++ tail ws
words_tail t [] = sym (append-nil t)
words_tail t (w ∷ ws) = words_tail (with_word t w) ws ∙ append_assoc t (32 ∷ w) (tail ws)

word_first : (w v : Bytes) (ws : List Bytes) → IsFreeOf 32 w → word (w ++ tail (v ∷ ws)) ≡ w
word_first w v ws h = until_is 32 w (v ++ tail ws) h

rest_is : (w v : Bytes) (ws : List Bytes) → IsFreeOf 32 w → rest (w ++ tail (v ∷ ws)) ≡ v ++ tail ws
rest_is w v ws h = behind_is 32 w (v ++ tail ws) h

bit_back : (b : Bool) (t : Bytes) → is_set (bit_text b ++ t) ≡ b
unfolding bit_text first_byte
bit_back true t = refl
bit_back false t = refl

bit_free : (b : Bool) → IsFreeOf 32 (bit_text b)
unfolding bit_text
bit_free true = (refl, tt)
bit_free false = (refl, tt)

ranges : (x : Interval) → IsNearRange x → IsFreeOf 32 (range_text x)
ranges x h = range_free 32 x (λ c l k. apart_below 32 c (omega arith) l) refl refl h

decimals : (n : ℕ) → n ≤ 2 ^ 68 → IsFreeOf 32 (decimal n)
decimals n h = decimal_free 32 n (λ c l k. apart_below 32 c (omega arith) l) h

-- ---- labels

pub sum_few : (a b c : Bool) → cond a 1 0 + (cond b 2 0 + cond c 4 0) < 8
sum_few a b c = grind arith

sum_back : (a b c : Bool) → (let n = cond a 1 0 + (cond b 2 0 + cond c 4 0) in ((n % 2 == 1) ≡ a) × (((n / 2 % 2 == 1) ≡ b) × ((n / 4 % 2 == 1) ≡ c)))
sum_back true true true = (refl, (refl, refl))
sum_back true true false = (refl, (refl, refl))
sum_back true false true = (refl, (refl, refl))
sum_back true false false = (refl, (refl, refl))
sum_back false true true = (refl, (refl, refl))
sum_back false true false = (refl, (refl, refl))
sum_back false false true = (refl, (refl, refl))
sum_back false false false = (refl, (refl, refl))

labels_back : (l : Labels) → labels_given (decimal (labels_sum l)) ≡ l
unfolding labels_given labels_sum
labels_back l =
    let n = cond l.lo 1 0 + (cond l.hi 2 0 + cond l.mutated 4 0) in
    let few = sum_few l.lo l.hi l.mutated in
    let e : small (decimal n) ≡ n = small_back n (omega arith) in
    let k = sum_back l.lo l.hi l.mutated in
    let a : (small (decimal n) % 2 == 1) ≡ l.lo = ap (λ m. m % 2 == 1) e ∙ k.0 in
    let b : (small (decimal n) / 2 % 2 == 1) ≡ l.hi = ap (λ m. m / 2 % 2 == 1) e ∙ k.1.0 in
    let c : (small (decimal n) / 4 % 2 == 1) ≡ l.mutated = ap (λ m. m / 4 % 2 == 1) e ∙ k.1.1 in
    λ i. record { lo = a i; hi = b i; mutated = c i }

labels_free : (l : Labels) → IsFreeOf 32 (decimal (labels_sum l))
unfolding labels_sum
labels_free l = let few = sum_few l.lo l.hi l.mutated in decimals (cond l.lo 1 0 + (cond l.hi 2 0 + cond l.mutated 4 0)) (omega arith)

-- ---- pointers and values

abbrev pub pointer_words : Pointers Interval → List Bytes
pointer_words p = range_text p.lo ∷ (range_text p.rel ∷ (range_text p.len ∷ (bit_text p.part ∷ (bit_text p.null ∷ (bit_text p.ended ∷ [])))))

pointer_back : (p : Pointers Interval) → IsNearPointer p → pointer_given (bases_text p.bases ++ tail (pointer_words p)) ≡ p
unfolding pointer_given
pointer_back p h =
    let t0 = bases_text p.bases ++ tail (pointer_words p) in
    let r1 = rest_is (bases_text p.bases) (range_text p.lo) (range_text p.rel ∷ (range_text p.len ∷ (bit_text p.part ∷ (bit_text p.null ∷ (bit_text p.ended ∷ []))))) (bases_free p.bases).0 in
    let r2 = ap rest r1 ∙ rest_is (range_text p.lo) (range_text p.rel) (range_text p.len ∷ (bit_text p.part ∷ (bit_text p.null ∷ (bit_text p.ended ∷ [])))) (ranges p.lo h.lo) in
    let r3 = ap rest r2 ∙ rest_is (range_text p.rel) (range_text p.len) (bit_text p.part ∷ (bit_text p.null ∷ (bit_text p.ended ∷ []))) (ranges p.rel h.rel) in
    let r4 = ap rest r3 ∙ rest_is (range_text p.len) (bit_text p.part) (bit_text p.null ∷ (bit_text p.ended ∷ [])) (ranges p.len h.len) in
    let r5 = ap rest r4 ∙ rest_is (bit_text p.part) (bit_text p.null) (bit_text p.ended ∷ []) (bit_free p.part) in
    let r6 = ap rest r5 ∙ rest_is (bit_text p.null) (bit_text p.ended) [] (bit_free p.null) in
    let bases : bases_of (word t0) ≡ p.bases = ap bases_of (word_first (bases_text p.bases) (range_text p.lo) (range_text p.rel ∷ (range_text p.len ∷ (bit_text p.part ∷ (bit_text p.null ∷ (bit_text p.ended ∷ []))))) (bases_free p.bases).0) ∙ bases_back p.bases h.few in
    let lo : range_of (word (rest t0)) ≡ p.lo = ap (λ t. range_of (word t)) r1 ∙ ap range_of (word_first (range_text p.lo) (range_text p.rel) (range_text p.len ∷ (bit_text p.part ∷ (bit_text p.null ∷ (bit_text p.ended ∷ [])))) (ranges p.lo h.lo)) ∙ range_back p.lo h.lo in
    let rel : range_of (word (rest (rest t0))) ≡ p.rel = ap (λ t. range_of (word t)) r2 ∙ ap range_of (word_first (range_text p.rel) (range_text p.len) (bit_text p.part ∷ (bit_text p.null ∷ (bit_text p.ended ∷ []))) (ranges p.rel h.rel)) ∙ range_back p.rel h.rel in
    let len : range_of (word (rest (rest (rest t0)))) ≡ p.len = ap (λ t. range_of (word t)) r3 ∙ ap range_of (word_first (range_text p.len) (bit_text p.part) (bit_text p.null ∷ (bit_text p.ended ∷ [])) (ranges p.len h.len)) ∙ range_back p.len h.len in
    let part : is_set (rest (rest (rest (rest t0)))) ≡ p.part = ap is_set r4 ∙ bit_back p.part (tail (bit_text p.null ∷ (bit_text p.ended ∷ []))) in
    let null : is_set (rest (rest (rest (rest (rest t0))))) ≡ p.null = ap is_set r5 ∙ bit_back p.null (tail (bit_text p.ended ∷ [])) in
    let ended : is_set (rest (rest (rest (rest (rest (rest t0)))))) ≡ p.ended = ap is_set r6 ∙ bit_back p.ended (tail []) in
    λ i. record { bases = bases i; lo = lo i; rel = rel i; len = len i; part = part i; null = null i; ended = ended i }

abbrev pub value_words : values.Value Interval → List Bytes
value_words v = bit_text v.indeterminate ∷ (decimal (labels_sum v.labels) ∷ (bases_text v.pointer.bases ∷ pointer_words v.pointer))

value_back : (v : values.Value Interval) → IsNearValue v → value_given (range_text v.num ++ tail (value_words v)) ≡ v
unfolding value_given
value_back v h =
    let t0 = range_text v.num ++ tail (value_words v) in
    let more = bases_text v.pointer.bases ∷ pointer_words v.pointer in
    let r1 = rest_is (range_text v.num) (bit_text v.indeterminate) (decimal (labels_sum v.labels) ∷ more) (ranges v.num h.num) in
    let r2 = ap rest r1 ∙ rest_is (bit_text v.indeterminate) (decimal (labels_sum v.labels)) more (bit_free v.indeterminate) in
    let r3 = ap rest r2 ∙ rest_is (decimal (labels_sum v.labels)) (bases_text v.pointer.bases) (pointer_words v.pointer) (labels_free v.labels) in
    let num : range_of (word t0) ≡ v.num = ap range_of (word_first (range_text v.num) (bit_text v.indeterminate) (decimal (labels_sum v.labels) ∷ more) (ranges v.num h.num)) ∙ range_back v.num h.num in
    let blank : is_set (rest t0) ≡ v.indeterminate = ap is_set r1 ∙ bit_back v.indeterminate (tail (decimal (labels_sum v.labels) ∷ more)) in
    let labels : labels_given (word (rest (rest t0))) ≡ v.labels = ap (λ t. labels_given (word t)) r2 ∙ ap labels_given (word_first (decimal (labels_sum v.labels)) (bases_text v.pointer.bases) (pointer_words v.pointer) (labels_free v.labels)) ∙ labels_back v.labels in
    let pointer : pointer_given (rest (rest (rest t0))) ≡ v.pointer = ap pointer_given r3 ∙ pointer_back v.pointer h.pointer in
    λ i. record { num = num i; pointer = pointer i; indeterminate = blank i; labels = labels i }

first_back : (f : FirstZero Interval) → IsNearRange f.at → first_given (range_text f.at ++ tail []) ≡ f
unfolding first_given
first_back f h = let e : range_of (range_text f.at ++ tail []) ≡ f.at = ap range_of (append-nil (range_text f.at)) ∙ range_back f.at h in λ i. record { at = e i }

state_back : (s : AllocState Interval) → IsNearRange s.size → state_given (range_text s.size ++ tail (bit_text s.live ∷ (bit_text s.freed ∷ []))) ≡ s
unfolding state_given
state_back s h =
    let t0 = range_text s.size ++ tail (bit_text s.live ∷ (bit_text s.freed ∷ [])) in
    let r1 = rest_is (range_text s.size) (bit_text s.live) (bit_text s.freed ∷ []) (ranges s.size h) in
    let r2 = ap rest r1 ∙ rest_is (bit_text s.live) (bit_text s.freed) [] (bit_free s.live) in
    let size : range_of (word t0) ≡ s.size = ap range_of (word_first (range_text s.size) (bit_text s.live) (bit_text s.freed ∷ []) (ranges s.size h)) ∙ range_back s.size h in
    let live : is_set (rest t0) ≡ s.live = ap is_set r1 ∙ bit_back s.live (tail (bit_text s.freed ∷ [])) in
    let freed : is_set (rest (rest t0)) ≡ s.freed = ap is_set r2 ∙ bit_back s.freed (tail []) in
    λ i. record { size = size i; live = live i; freed = freed i }

-- ---- cells and lines

-- the words of a cell behind its position
abbrev pub cell_words : Cell Interval → List Bytes
cell_words Nothing = []
cell_words (Value v) = codes "v" ∷ (range_text v.num ∷ value_words v)
cell_words (First f) = codes "z" ∷ (range_text f.at ∷ [])
cell_words (State s) = codes "h" ∷ (range_text s.size ∷ (bit_text s.live ∷ (bit_text s.freed ∷ [])))
cell_words Mixed = []

pub cell_line : (at : ℕ) (cell : Cell Interval) → placed_text at cell ≡ decimal at ++ tail (cell_words cell)
unfolding placed_text with_value with_pointer with_first with_state
cell_line at Nothing = sym (append-nil (decimal at))
cell_line at (Value v) = words_tail (decimal at) (cell_words (Value v))
cell_line at (First f) = words_tail (decimal at) (cell_words (First f))
cell_line at (State s) = words_tail (decimal at) (cell_words (State s))
cell_line at Mixed = sym (append-nil (decimal at))

letter_free : (c : ℕ) → (c == 32) ≡ false → IsFreeOf 32 (c ∷ [])
letter_free c e = (e, tt)

-- what is read behind the position
cell_read : (at : ℕ) (cell : Cell Interval) → at < 2 ^ 32 → IsNearCell cell → cell_given (rest (decimal at ++ tail (cell_words cell))) ≡ cell
unfolding cell_given first_byte
cell_read at Nothing lt h = absurd h
cell_read at Mixed lt h = absurd h
cell_read at (Value v) lt h =
    ap cell_given (rest_is (decimal at) (codes "v") (range_text v.num ∷ value_words v) (decimals at (omega arith)))
    ∙ ap (λ t. Value (value_given t)) (rest_is (codes "v") (range_text v.num) (value_words v) (letter_free 118 refl))
    ∙ ap Value (value_back v h)
cell_read at (First f) lt h =
    ap cell_given (rest_is (decimal at) (codes "z") (range_text f.at ∷ []) (decimals at (omega arith)))
    ∙ ap (λ t. First (first_given t)) (rest_is (codes "z") (range_text f.at) [] (letter_free 122 refl))
    ∙ ap First (first_back f h)
cell_read at (State s) lt h =
    ap cell_given (rest_is (decimal at) (codes "h") (range_text s.size ∷ (bit_text s.live ∷ (bit_text s.freed ∷ []))) (decimals at (omega arith)))
    ∙ ap (λ t. State (state_given t)) (rest_is (codes "h") (range_text s.size) (bit_text s.live ∷ (bit_text s.freed ∷ [])) (letter_free 104 refl))
    ∙ ap State (state_back s h)

position_read : (at : ℕ) (cell : Cell Interval) → at < 2 ^ 32 → IsNearCell cell → small (word (decimal at ++ tail (cell_words cell))) ≡ at
position_read at Nothing lt h = absurd h
position_read at Mixed lt h = absurd h
position_read at (Value v) lt h = ap small (word_first (decimal at) (codes "v") (range_text v.num ∷ value_words v) (decimals at (omega arith))) ∙ small_back at lt
position_read at (First f) lt h = ap small (word_first (decimal at) (codes "z") (range_text f.at ∷ []) (decimals at (omega arith))) ∙ small_back at lt
position_read at (State s) lt h = ap small (word_first (decimal at) (codes "h") (range_text s.size ∷ (bit_text s.live ∷ (bit_text s.freed ∷ []))) (decimals at (omega arith))) ∙ small_back at lt

no_letter : (c : ℕ) (ds t : Bytes) → 57 < c → 0 < length ds → AllDigits 10 ds → (first_byte (ds ++ t) == c) ≡ false
unfolding first_byte
no_letter c [] t h l d = absurd (omega arith)
no_letter c (x ∷ xs) t h l d = let k = digit_from_value x d.0 in apart_above c x h k.1

numbered : (at c : ℕ) (t : Bytes) → at < 2 ^ 32 → 57 < c → (first_byte (decimal at ++ t) == c) ≡ false
numbered at c t lt h = let k = decimal_is_IsNumeral_wide at (omega arith) in no_letter c (decimal at) t h k.0.0 k.0.1

placed_back : (at : ℕ) (cell : Cell Interval) → at < 2 ^ 32 → IsNearCell cell → line_given (placed_text at cell) ≡ Placed at cell
unfolding line_given
placed_back at cell lt h =
    let t = decimal at ++ tail (cell_words cell) in
    let position : small (word t) ≡ at = position_read at cell lt h in
    let read : cell_given (rest t) ≡ cell = cell_read at cell lt h in
    ap line_given (cell_line at cell)
    ∙ ap (λ b. cond b Unreached (cond (first_byte t == 114) (Reached (small (rest t))) (Placed (small (word t)) (cell_given (rest t))))) (numbered at 117 (tail (cell_words cell)) lt (omega arith))
    ∙ ap (λ b. cond b (Reached (small (rest t))) (Placed (small (word t)) (cell_given (rest t)))) (numbered at 114 (tail (cell_words cell)) lt (omega arith))
    ∙ (λ i. Placed (position i) (read i))

reached_back : (count : ℕ) → count < 2 ^ 32 → line_given (reached_text count) ≡ Reached count
unfolding line_given reached_text first_byte
reached_back count lt = ap (λ t. Reached (small t)) (behind_is 32 (114 ∷ []) (decimal count) (refl, tt)) ∙ ap Reached (small_back count lt)

line_back : (line : MapLine) → IsNearLine line → line_given (line_text line) ≡ line
unfolding line_given first_byte
line_back Unreached h = refl
line_back (Reached count) h = reached_back count h
line_back (Placed at cell) h = placed_back at cell h.0 h.1

same_all_refl : (t : Bytes) → same_all t t ≡ true
same_all_refl [] = refl
same_all_refl (c ∷ cs) = let e : (c == c) ≡ true = grind arith in ap (λ b. b && same_all cs cs) e ∙ same_all_refl cs

pub same_refl : (t : Bytes) → same_bytes t t ≡ true
unfolding same_bytes
same_refl t = let e : (length t == length t) ≡ true = grind arith in ap (λ b. b && same_all t t) e ∙ same_all_refl t

-- a line is read back from its text
pub line_read : (line : MapLine) → IsNearLine line → line_of (line_text line) ≡ Some line
line_read line h =
    ap (λ l. line_if_same l (line_text line)) (line_back line h) ∙ ap (λ b. cond b (Some line) None) (same_refl (line_text line))
