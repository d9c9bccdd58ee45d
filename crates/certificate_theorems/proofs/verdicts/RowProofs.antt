-- The text of a row with one cell more.
use Rattle.std.proofs.Common.{◌≡◌, ◌∙◌, ◌+◌, ◌-◌, ◌<◌, ◌≤◌, ℕ, zero, suc, Bool, true, false, cond, not, List, [], ◌∷◌, ◌++◌, length, map, set, slice_index_or, count_by, refl, sym, ap, arith, append_assoc, get_or-set_other}
use Rattle.std.proofs.lemmas.List.{append-nil}
use Rattle.std.proofs.lemmas.List.Sums.{sum_by-set, sum_by-cons}
use Rattle.interval_domain.specs.declared.intervals.intervals.Interval.{Interval}
use Rattle.value_domain.specs.declared.values.row_cells.Cell.{Cell}
use Rattle.value_domain.specs.declared.values.row_cells.Cell.TheVariants.{Nothing, Value, First, State, Mixed}
use Rattle.certificate_text.specs.Lines.LineWords.{Bytes}
use Rattle.certificate_text.specs.declared.lines.map_lines.MapLine.TheVariants.{Placed}
use Rattle.certificate_text.specs.Maps.LeastCells.{is_least, is_no_value, is_no_pointer, is_no_state}
use Rattle.certificate_text.specs.Maps.MapTexts.{ended_text, is_told, cell_text, cells_text}
use Rattle.certificate_check.specs.Reading.GreatestRows.{emptied, least_row}

-- the cells from a position on are the least of their kinds
abbrev pub LeastFrom : ℕ → List (Cell Interval) → Type 0
LeastFrom from row = (i : ℕ) → from ≤ i → is_least (slice_index_or row i Nothing) ≡ true

told_none : (k : ℕ) (x : Cell Interval) (b : Bool) → is_least x ≡ b → b ≡ true → cond b [] (ended_text (Placed k x)) ≡ []
told_none k x true e h = refl
told_none k x false e h = absurd (cc)

told_some : (k : ℕ) (x : Cell Interval) (b : Bool) → b ≡ false → cond b [] (ended_text (Placed k x)) ≡ ended_text (Placed k x)
told_some k x true h = absurd (cc)
told_some k x false h = refl

no_cells : (k : ℕ) (xs : List (Cell Interval)) → LeastFrom 0 xs → cells_text k xs ≡ []
no_cells k [] h = refl
no_cells k (x ∷ xs) h =
    ap (λ t. t ++ cells_text (k + 1) xs) (told_none k x (is_least x) refl (h 0 (omega arith)))
    ∙ no_cells (k + 1) xs (λ i le. h (suc i) (omega arith))

pub cells_more : (k : ℕ) (xs : List (Cell Interval)) (from at : ℕ) (x : Cell Interval) → LeastFrom from xs → from ≤ at → at < length xs → is_least x ≡ false → cells_text k (set xs at x) ≡ cells_text k xs ++ ended_text (Placed (k + at) x)
cells_more k [] from at x h le lt told = absurd (omega arith)
cells_more k (y ∷ ys) from zero x h le lt told =
    let rest : cells_text (k + 1) ys ≡ [] = no_cells (k + 1) ys (λ i ge. h (suc i) (omega arith)) in
    let here : cell_text k y ≡ [] = told_none k y (is_least y) refl (h 0 (omega arith)) in
    let place : k ≡ k + 0 = omega arith in
    ap (λ t. t ++ cells_text (k + 1) ys) (told_some k x (is_least x) told)
    ∙ ap (λ t. ended_text (Placed k x) ++ t) rest
    ∙ append-nil (ended_text (Placed k x))
    ∙ ap (λ n. ended_text (Placed n x)) place
    ∙ sym (ap (λ t. (t ++ cells_text (k + 1) ys) ++ ended_text (Placed (k + 0) x)) here ∙ ap (λ t. t ++ ended_text (Placed (k + 0) x)) rest)
cells_more k (y ∷ ys) from (suc at) x h le lt told =
    let rest : cells_text (k + 1) (set ys at x) ≡ cells_text (k + 1) ys ++ ended_text (Placed (k + 1 + at) x) =
    cells_more (k + 1) ys (from - 1) at x (λ i ge. h (suc i) (omega arith)) (omega arith) (omega arith) told in
    let place : k + 1 + at ≡ k + suc at = omega arith in
    ap (λ t. cell_text k y ++ t) rest
    ∙ sym (append_assoc (cell_text k y) (cells_text (k + 1) ys) (ended_text (Placed (k + 1 + at) x)))
    ∙ ap (λ n. (cell_text k y ++ cells_text (k + 1) ys) ++ ended_text (Placed n x)) place

-- 1 for a cell that has a line
abbrev told_as : Bool → ℕ
told_as least = cond (not least) 1 0

pub count_more : (xs : List (Cell Interval)) (from at : ℕ) (x : Cell Interval) → LeastFrom from xs → from ≤ at → at < length xs → is_least x ≡ false → count_by is_told (set xs at x) ≡ count_by is_told xs + 1
count_more xs from at x h le lt told =
    let e = sum_by-set (λ c. told_as (is_least c)) xs at x Nothing lt in
    let old : told_as (is_least (slice_index_or xs at Nothing)) ≡ 0 = ap told_as (h at le) in
    let new : told_as (is_least x) ≡ 1 = ap told_as told in
    omega (arith, e, old, new)

pub least_behind : (xs : List (Cell Interval)) (from at : ℕ) (x : Cell Interval) → LeastFrom from xs → from ≤ at → LeastFrom (at + 1) (set xs at x)
least_behind xs from at x h le i ge =
    ap is_least (get_or-set_other xs at i x Nothing (λ (same : i ≡ at). absurd (omega arith))) ∙ h i (omega arith)

emptied_least : (g : Cell Interval) → is_least (emptied g) ≡ true
unfolding is_no_value is_no_pointer is_no_state
emptied_least Nothing = refl
emptied_least (Value v) = refl
emptied_least (First f) = refl
emptied_least (State s) = refl
emptied_least Mixed = refl

pub least_row_least : (gs : List (Cell Interval)) → LeastFrom 0 (least_row gs)
least_row_least [] i le = refl
least_row_least (g ∷ gs) zero le = emptied_least g
least_row_least (g ∷ gs) (suc i) le = least_row_least gs i (omega arith)

pub least_row_text : (gs : List (Cell Interval)) → cells_text 0 (least_row gs) ≡ []
least_row_text gs = no_cells 0 (least_row gs) (least_row_least gs)

count_none : (x : Cell Interval) (xs : List (Cell Interval)) → is_least x ≡ true → count_by is_told xs ≡ 0 → count_by is_told (x ∷ xs) ≡ 0
count_none x xs a b =
    let e : count_by is_told (x ∷ xs) ≡ told_as (is_least x) + count_by is_told xs = sum_by-cons (λ c. told_as (is_least c)) x xs in
    let f : told_as (is_least x) ≡ 0 = ap told_as a in
    omega (arith, e, f)

pub least_row_count : (gs : List (Cell Interval)) → count_by is_told (least_row gs) ≡ 0
least_row_count [] = refl
least_row_count (g ∷ gs) = count_none (emptied g) (least_row gs) (emptied_least g) (least_row_count gs)
