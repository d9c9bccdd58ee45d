-- What changes when a row of a pool is written, or is new in a map.
use Rattle.std.proofs.Common.{◌≡◌, ◌+◌, ℕ, not, List, length, Some, None, slice_get, count_by, sym, ap, subst, arith, ◌∙◌, inr}
use Rattle.fixpoint.specs.Pool.Pool.{Pool, row_of, with_row, with_taken, IsTaken, IsFree, IsWhole, free_count, SameBut}
use Rattle.fixpoint.specs.Pool.PoolLaws.{SameBut-with_row, SameBut-whole, row_of-same, row_of-taken, IsWhole-taken, IsTaken-other, IsTaken-same, free_apart, count_taken, length-row_of}
use Rattle.fixpoint.specs.declared.pool.row_name.Row.{Row}
use Rattle.fixpoint.specs.Solver.RowMap.{SlotChanged}

pub write-same_but : {V : Type 0} (p q : Pool V) (r : ℕ) (ws : List V) → q ≡ with_row p r ws → IsWhole p → IsTaken p r → length ws ≡ p.width → SameBut p q r
write-same_but p q r ws e whole taken len = subst (λ u. SameBut p u r) (sym e) (SameBut-with_row p r ws whole taken len)

pub write-row : {V : Type 0} (p q : Pool V) (r : ℕ) (ws : List V) → q ≡ with_row p r ws → IsWhole p → IsTaken p r → length ws ≡ p.width → row_of q r ≡ ws
write-row p q r ws e whole taken len = ap (λ u. row_of u r) e ∙ row_of-same p r ws whole taken len

pub IsTaken-same_but : {V : Type 0} (p q : Pool V) (r s : ℕ) → SameBut p q r → IsTaken p s → IsTaken q s
IsTaken-same_but p q r s h t = ap (λ ts. slice_get ts s) h.taken ∙ t

pub slot-new : {V : Type 0} (p q : Pool V) (row : Row) → IsWhole p → IsFree p row.index → SameBut (with_taken p row.index) q row.index → SlotChanged p None q (Some row)
slot-new p q row whole free h = record {
  width = h.width;
  whole = SameBut-whole (with_taken p row.index) q row.index h (IsWhole-taken p row.index whole);
  others = λ s t out.
      let ne : s ≡ row.index → ⊥ = free_apart p row.index s free t in
      let kept : IsTaken (with_taken p row.index) s = IsTaken-other p row.index s ne t in
      (IsTaken-same_but (with_taken p row.index) q row.index s h kept, h.others s ne kept ∙ row_of-taken p row.index s whole t);
  index = λ i e.
      let same : row.index ≡ i = cc in
      let taken : IsTaken q row.index = IsTaken-same_but (with_taken p row.index) q row.index row.index h (IsTaken-same p row.index free) in
      (subst (IsTaken q) same taken, inr (subst (IsFree p) same free));
  room =
      let e : free_count q ≡ free_count (with_taken p row.index) = ap (count_by not) h.taken in
      let f : free_count (with_taken p row.index) + 1 ≡ free_count p = count_taken p.taken row.index free in
      omega arith;
}

-- a row that was free is taken, and another one copied into it
pub copy-new : {V : Type 0} (p0 p1 p2 : Pool V) (i j s : ℕ) → p1 ≡ with_taken p0 j → i ≡ j → IsFree p0 j → IsWhole p0 → IsTaken p0 s → p2 ≡ with_row p1 i (row_of p1 s) → SameBut (with_taken p0 i) p2 i × (row_of p2 i ≡ row_of p0 s)
copy-new p0 p1 p2 i j s e1 e free whole taken e2 =
    let free' : IsFree p0 i = subst (IsFree p0) (sym e) free in
    let at : p1 ≡ with_taken p0 i = subst (λ n. p1 ≡ with_taken p0 n) (sym e) e1 in
    let wrote : p2 ≡ with_row (with_taken p0 i) i (row_of (with_taken p0 i) s) = subst (λ q. p2 ≡ with_row q i (row_of q s)) at e2 in
    let ne : s ≡ i → ⊥ = free_apart p0 i s free' taken in
    let whole' : IsWhole (with_taken p0 i) = IsWhole-taken p0 i whole in
    let here : IsTaken (with_taken p0 i) i = IsTaken-same p0 i free' in
    let len : length (row_of (with_taken p0 i) s) ≡ p0.width = length-row_of (with_taken p0 i) s whole' (IsTaken-other p0 i s ne taken) in
    (write-same_but (with_taken p0 i) p2 i _ wrote whole' here len, write-row (with_taken p0 i) p2 i _ wrote whole' here len ∙ row_of-taken p0 i s whole taken)
