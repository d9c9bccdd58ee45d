-- What the calls of a pool leave as it is.
use Rattle.std.proofs.Common.{◌≡◌, ◌≢◌, ◌+◌, ◌-◌, ◌*◌, ◌<◌, ◌≤◌, ℕ, max, replicate, subst, length-set, Bool, true, false, not, cond, List, ◌++◌, length, take, drop, get_or, Some, slice_get, slice_set, count_by, refl, sym, ap, arith, ◌∙◌, ⊎_elim, length-append, length-drop, length-take}
use Rattle.std.proofs.Math.Nat.{mul-le-mul_left}
use Rattle.std.proofs.lemmas.Bool.{cases_eq, cases_lt}
use Rattle.std.proofs.lemmas.Grind.{common_steps}
use Rattle.std.proofs.lemmas.Option.{gets}
use Rattle.std.proofs.lemmas.List.{take_at, drop_at, take_all, drop-take, take-append-drop, take-append-le, drop-drop, drop-set-lt, drop-replicate, length-replicate, get_or-drop, get_or-replicate}
use Rattle.std.proofs.lemmas.Slice.{drop-put_mid, take-put_mid_below}
use Rattle.std.proofs.lemmas.Int.{clamps}
use Rattle.std.proofs.lemmas.List.Sums.{sum_by-set}
use Rattle.std.proofs.lemmas.Option.{slice_get_within, get_or_from_slice_get}
use Rattle.fixpoint.specs.Pool.Pool.{Pool, row_of, with_row, with_mark, with_taken, IsTaken, IsFree, IsWhole, SameBut}

-- a row in use is one of the rows that are stored, where those behind them are free
pub stored_row : (taken : List Bool) (r stored : ℕ) → drop stored taken ≡ replicate (length taken - stored) false → slice_get taken r ≡ Some true → r < stored
stored_row taken r stored e h =
    ⊎_elim
    (λ (lt : r < stored). lt)
    (λ (ge : stored ≤ r).
    let lt : r < length taken = slice_get_within taken r true h in
    let at : get_or taken r false ≡ true = get_or_from_slice_get taken r true false h in
    let place : stored + (r - stored) ≡ r = omega arith in
    let behind : get_or (drop stored taken) (r - stored) false ≡ get_or taken r false = get_or-drop stored taken (r - stored) false ∙ ap (λ n. get_or taken n false) place in
    let free : get_or (drop stored taken) (r - stored) false ≡ false = ap (λ marks. get_or marks (r - stored) false) e ∙ get_or-replicate (length taken - stored) (r - stored) false false (omega arith) in
    let clash : true ≡ false = sym at ∙ (sym behind ∙ free) in
    absurd (cc))
    (cases_lt r stored)

-- so it ends within the cells that are stored
pub row_end : (taken : List Bool) (r width stored cells : ℕ) → drop stored taken ≡ replicate (length taken - stored) false → slice_get taken r ≡ Some true → cells ≡ stored * width → r * width + width ≤ cells
row_end taken r width stored cells e h k =
    let lt : r < stored = stored_row taken r stored e h in
    let le : width * (r + 1) ≤ width * stored = mul-le-mul_left width (omega arith) in
    omega (arith, le)

-- a row that is given back leaves the rows behind the stored ones free
pub stored_given : (taken : List Bool) (r stored : ℕ) → drop stored taken ≡ replicate (length taken - stored) false → slice_get taken r ≡ Some true → drop stored (slice_set taken r false) ≡ replicate (length (slice_set taken r false) - stored) false
stored_given taken r stored e h =
    drop-set-lt stored taken r false (stored_row taken r stored e h)
    ∙ e
    ∙ ap (λ n. replicate (n - stored) false) (sym (length-set taken r false))

-- so does a row that is taken, with one row more stored where it was none of them
pub stored_taken : (taken : List Bool) (r stored : ℕ) → drop stored taken ≡ replicate (length taken - stored) false → drop (max stored (r + 1)) (slice_set taken r true) ≡ replicate (length (slice_set taken r true) - max stored (r + 1)) false
stored_taken taken r stored e =
    let more : stored + (max stored (r + 1) - stored) ≡ max stored (r + 1) = omega (arith, clamps) in
    drop-set-lt (max stored (r + 1)) taken r true (omega (arith, clamps))
    ∙ ap (λ n. drop n taken) (sym more)
    ∙ sym (drop-drop (max stored (r + 1) - stored) stored taken)
    ∙ ap (drop (max stored (r + 1) - stored)) e
    ∙ drop-replicate (max stored (r + 1) - stored) (length taken - stored) false
    ∙ ap (λ n. replicate n false) (let same : length taken - stored - (max stored (r + 1) - stored) ≡ length taken - max stored (r + 1) = omega (arith, clamps) in same)
    ∙ ap (λ n. replicate (n - max stored (r + 1)) false) (sym (length-set taken r true))

-- the cells up to the end of a row that is taken, beside those that are stored
pub stored_cells : (stored r width cells : ℕ) → cells ≡ stored * width → cells + (r * width + width - cells) ≡ max stored (r + 1) * width
stored_cells stored r width cells k =
    ⊎_elim
    (λ (lt : r < stored).
    let most : max stored (r + 1) ≡ stored = omega (arith, clamps) in
    let le : width * (r + 1) ≤ width * stored = mul-le-mul_left width (omega arith) in
    let all : cells + (r * width + width - cells) ≡ stored * width = omega (arith, le, k) in
    all ∙ ap (λ n. n * width) (sym most))
    (λ (ge : stored ≤ r).
    let most : max stored (r + 1) ≡ r + 1 = omega (arith, clamps) in
    let le : width * stored ≤ width * (r + 1) = mul-le-mul_left width (omega arith) in
    let all : cells + (r * width + width - cells) ≡ (r + 1) * width = omega (arith, le, k) in
    all ∙ ap (λ n. n * width) (sym most))
    (cases_lt r stored)

-- a mark that changes changes the count by one
pub count_taken : (taken : List Bool) (r : ℕ) → slice_get taken r ≡ Some false → count_by not (slice_set taken r true) + 1 ≡ count_by not taken
count_taken taken r h =
    let lt : r < length taken = slice_get_within taken r false h in
    let at : get_or taken r false ≡ false = get_or_from_slice_get taken r false false h in
    let e = sum_by-set (λ x. cond (not x) 1 0) taken r true false lt in
    let f = rw at at e in
    omega (arith, f)

pub count_given : (taken : List Bool) (r : ℕ) → slice_get taken r ≡ Some true → count_by not (slice_set taken r false) ≡ count_by not taken + 1
count_given taken r h =
    let lt : r < length taken = slice_get_within taken r true h in
    let at : get_or taken r false ≡ true = get_or_from_slice_get taken r true false h in
    let e = sum_by-set (λ x. cond (not x) 1 0) taken r false false lt in
    let f = rw at at e in
    omega (arith, f)

-- rows do not overlap
pub row_below : (r s width : ℕ) → r * width < s * width → r * width + width ≤ s * width
row_below r s width h =
    ⊎_elim
    (λ (lt : r < s). let le : width * (r + 1) ≤ width * s = mul-le-mul_left width (omega arith) in omega (arith, le))
    (λ (ge : s ≤ r). let le : width * s ≤ width * r = mul-le-mul_left width ge in absurd (omega (arith, le)))
    (cases_lt r s)

pub row_above : (r s width : ℕ) → (r ≢ s) → s * width ≤ r * width → s * width + width ≤ r * width
row_above r s width ne h =
    ⊎_elim
    (λ (lt : s < r). let le : width * (s + 1) ≤ width * r = mul-le-mul_left width (omega arith) in omega (arith, le))
    (λ (ge : r ≤ s).
    let lt : r < s = omega arith in
    let le : width * (r + 1) ≤ width * s = mul-le-mul_left width (omega arith) in omega (arith, le))
    (cases_lt s r)

-- other marks are as before
pub kept_mark : (taken : List Bool) (r s : ℕ) (b : Bool) → (s ≡ r → ⊥) → slice_get taken s ≡ Some true → slice_get (slice_set taken r b) s ≡ Some true
kept_mark taken r s b ne h = grind (arith, common_steps, gets)

pub more_marks : (taken : List Bool) (r s : ℕ) → slice_get taken s ≡ Some true → slice_get (slice_set taken r true) s ≡ Some true
more_marks taken r s h = ⊎_elim (λ (same : s ≡ r). grind (arith, common_steps, gets)) (λ (ne : s ≡ r → ⊥). kept_mark taken r s true ne h) (cases_eq s r)

pub set_mark : (taken : List Bool) (r : ℕ) → slice_get taken r ≡ Some false → slice_get (slice_set taken r true) r ≡ Some true
set_mark taken r h = grind (arith, common_steps, gets)

pub IsTaken-other : {V : Type 0} (p : Pool V) (r s : ℕ) → (s ≡ r → ⊥) → IsTaken p s → IsTaken (with_taken p r) s
IsTaken-other p r s ne h = grind (arith, common_steps, gets)

pub IsTaken-same : {V : Type 0} (p : Pool V) (r : ℕ) → IsFree p r → IsTaken (with_taken p r) r
IsTaken-same p r h = grind (arith, common_steps, gets)

-- a row in use that is not the one that is taken now was in use before
taken_other : (taken : List Bool) (r s : ℕ) → (s ≡ r → ⊥) → slice_get (slice_set taken r true) s ≡ Some true → slice_get taken s ≡ Some true
taken_other taken r s ne h = grind (arith, common_steps, gets)

-- the cells up to the end of a row that is taken are there
pub length-with_taken : {V : Type 0} (p : Pool V) (r : ℕ) → length (with_taken p r).cells ≡ length p.cells + (r * p.width + p.width - length p.cells)
length-with_taken p r = simp (length-append, length-replicate) refl

pub IsWhole-taken : {V : Type 0} (p : Pool V) (r : ℕ) → IsWhole p → IsWhole (with_taken p r)
IsWhole-taken p r whole = λ s t.
    let len = length-with_taken p r in
    ⊎_elim
    (λ (same : s ≡ r). subst (λ n. n * p.width + p.width ≤ length (with_taken p r).cells) (sym same) (omega (arith, len)))
    (λ (ne : s ≡ r → ⊥). let before : s * p.width + p.width ≤ length p.cells = whole s (taken_other p.taken r s ne t) in omega (arith, len, before))
    (cases_eq s r)

-- the rows in use keep their cells when another one is taken
pub row_of-taken : {V : Type 0} (p : Pool V) (r s : ℕ) → IsWhole p → IsTaken p s → row_of (with_taken p r) s ≡ row_of p s
row_of-taken p r s whole t =
    let end : s * p.width + p.width ≤ length p.cells = whole s t in
    sym (drop-take (s * p.width) p.width (with_taken p r).cells)
    ∙ ap (drop (s * p.width)) (take-append-le (s * p.width + p.width) p.cells _ end)
    ∙ drop-take (s * p.width) p.width p.cells

-- a row that is free is none of those in use
pub free_apart : {V : Type 0} (p : Pool V) (r s : ℕ) → IsFree p r → IsTaken p s → s ≡ r → ⊥
free_apart p r s h j e = let k : slice_get p.taken r ≡ Some true = rw e at j in cc

-- a list with other elements from a place on
abbrev pub written : {X : Type 0} → ℕ → List X → List X → List X
written a xs ws = take a xs ++ (ws ++ drop (length ws) (drop a xs))

pub length-written : {X : Type 0} (a : ℕ) (xs ws : List X) → a + length ws ≤ length xs → length (written a xs ws) ≡ length xs
length-written a xs ws h = simp (length-append, length-take, length-drop) (omega (arith, clamps))

written_same : {X : Type 0} (a : ℕ) (xs ws : List X) → a + length ws ≤ length xs → take (length ws) (drop a (written a xs ws)) ≡ ws
written_same a xs ws h =
    let l : length (take a xs) ≡ a = simp length-take (omega (arith, clamps)) in
    let d : drop a (written a xs ws) ≡ ws ++ drop (length ws) (drop a xs) = drop_at (take a xs) _ a l in
    rw d (take_at ws _ (length ws) refl)

written_below : {X : Type 0} (a b w : ℕ) (xs ws : List X) → a + length ws ≤ length xs → b + w ≤ a → take w (drop b (written a xs ws)) ≡ take w (drop b xs)
written_below a b w xs ws h k =
    sym (drop-take b w (written a xs ws)) ∙ ap (drop b) (take-put_mid_below a (length ws) xs ws (b + w) k (omega arith)) ∙ drop-take b w xs

written_above : {X : Type 0} (a b w : ℕ) (xs ws : List X) → a + length ws ≤ length xs → a + length ws ≤ b → take w (drop b (written a xs ws)) ≡ take w (drop b xs)
written_above a b w xs ws h k = ap (take w) (drop-put_mid a (length ws) xs ws b k (omega arith) refl)

row_before : (r s width : ℕ) → r < s → r * width + width ≤ s * width
row_before r s width lt = let le : width * (r + 1) ≤ width * s = mul-le-mul_left width (omega arith) in omega (arith, le)

-- the cells after a write to a row of a pool
cells_are : {V : Type 0} (p : Pool V) (r : ℕ) (ws : List V) → IsWhole p → IsTaken p r → length ws ≡ p.width → (with_row p r ws).cells ≡ written (r * p.width) p.cells ws
cells_are p r ws whole taken e =
    let end : r * p.width + p.width ≤ length p.cells = whole r taken in
    let same : length (written (r * p.width) p.cells ws) ≡ length p.cells = length-written (r * p.width) p.cells ws (omega arith) in
    take_all (length p.cells) (written (r * p.width) p.cells ws) (omega arith)

-- a row holds what was last written to it
pub row_of-same : {V : Type 0} (p : Pool V) (r : ℕ) (ws : List V) → IsWhole p → IsTaken p r → length ws ≡ p.width → row_of (with_row p r ws) r ≡ ws
row_of-same p r ws whole taken e =
    let end : r * p.width + p.width ≤ length p.cells = whole r taken in
    ap (λ cs. take p.width (drop (r * p.width) cs)) (cells_are p r ws whole taken e)
    ∙ sym (ap (λ k. take k (drop (r * p.width) (written (r * p.width) p.cells ws))) e)
    ∙ written_same (r * p.width) p.cells ws (omega arith)

-- and a write to another row does not change it
pub row_of-other : {V : Type 0} (p : Pool V) (r s : ℕ) (ws : List V) → IsWhole p → IsTaken p r → length ws ≡ p.width → (s ≡ r → ⊥) → row_of (with_row p r ws) s ≡ row_of p s
row_of-other p r s ws whole taken e ne =
    let end : r * p.width + p.width ≤ length p.cells = whole r taken in
    ap (λ cs. take p.width (drop (s * p.width) cs)) (cells_are p r ws whole taken e)
    ∙ ⊎_elim
    (λ (lt : s < r).
    let k : s * p.width + p.width ≤ r * p.width = row_before s r p.width lt in
    written_below (r * p.width) (s * p.width) p.width p.cells ws (omega arith) k)
    (λ (ge : r ≤ s).
    let ne' : s ≢ r = ne in
    let lt : r < s = omega arith in
    let k : r * p.width + p.width ≤ s * p.width = row_before r s p.width lt in
    written_above (r * p.width) (s * p.width) p.width p.cells ws (omega arith) (omega arith))
    (cases_lt s r)

-- a row has the pool's width
pub length-row_of : {V : Type 0} (p : Pool V) (r : ℕ) → IsWhole p → IsTaken p r → length (row_of p r) ≡ p.width
length-row_of p r whole taken =
    let end : r * p.width + p.width ≤ length p.cells = whole r taken in
    simp (length-take, length-drop) (omega (arith, clamps))

pub SameBut-with_row : {V : Type 0} (p : Pool V) (r : ℕ) (ws : List V) → IsWhole p → IsTaken p r → length ws ≡ p.width → SameBut p (with_row p r ws) r
SameBut-with_row p r ws whole taken e =
    let end : r * p.width + p.width ≤ length p.cells = whole r taken in
    record {
      width = refl;
      taken = refl;
      cells =
          let same : length (with_row p r ws).cells ≡ length p.cells = ap length (cells_are p r ws whole taken e) ∙ length-written (r * p.width) p.cells ws (omega arith) in
          omega arith;
      others = λ s ne t. row_of-other p r s ws whole taken e ne;
    }

pub SameBut-trans : {V : Type 0} (p q u : Pool V) (r : ℕ) → SameBut p q r → SameBut q u r → SameBut p u r
SameBut-trans p q u r h k = record {
  width = k.width ∙ h.width;
  taken = k.taken ∙ h.taken;
  cells = omega (arith, h.cells, k.cells);
  others = λ s ne t.
      let t' : IsTaken q s = ap (λ ts. slice_get ts s) h.taken ∙ t in
      k.others s ne t' ∙ h.others s ne t;
}

pub SameBut-whole : {V : Type 0} (p q : Pool V) (r : ℕ) → SameBut p q r → IsWhole p → IsWhole q
SameBut-whole p q r h whole = λ s t.
    let t' : IsTaken p s = ap (λ ts. slice_get ts s) (sym h.taken) ∙ t in
    let end : s * p.width + p.width ≤ length p.cells = whole s t' in
    let end' : s * q.width + q.width ≤ length p.cells = subst (λ w. s * w + w ≤ length p.cells) (sym h.width) end in
    omega (arith, end', h.cells)

-- a part that is copied to its own place
pub copied_onto_itself : {V : Type 0} (cells : List V) (from to width : ℕ) → from ≡ to → cells ≡ take to cells ++ (take width (drop from cells) ++ drop (to + width) cells)
copied_onto_itself cells from to width e =
    let rest : take width (drop to cells) ++ drop (to + width) cells ≡ drop to cells = ap (λ z. take width (drop to cells) ++ z) (sym (drop-drop width to cells)) ∙ take-append-drop width (drop to cells) in
    sym (ap (λ z. take to cells ++ (take width (drop z cells) ++ drop (to + width) cells)) e ∙ ap (λ z. take to cells ++ z) rest ∙ take-append-drop to cells)
