-- A function that was counted stands in no circle of calls.
use Rattle.std.proofs.Common.{◌≡◌, ℕ, zero, suc, Bool, true, false, cond, List, [], ◌∷◌, Option, Some, None, slice_get, refl, ap, sym, subst, ◌∙◌}
use Rattle.c_layout.specs.CheckedUnits.{FunctionView, UnitView}
use Rattle.lower_templates.specs.Worklist.Pieces.{PieceView, TemplateView}
use Rattle.lower_objects.specs.declared.counts.function_counts.FunctionCounts.{FunctionCounts}
use Rattle.lower_tables.specs.Counts.Preparations.{IsTemplateOf, called, Calls, Reaches, begun, further, is_there, is_counted, are_counted, Counts, counts, IsPrepared}
use Rattle.lower_tables.proofs.counts.Preparing.{one_template, both_true, there_is}

some_same : {A : Type 0} (x y : A) → Some x ≡ Some y → x ≡ y
some_same x y e = cc

counted_at : (table : List (Option FunctionCounts)) (ps : List PieceView) (at : ℕ) (p : PieceView) → are_counted table ps ≡ true → slice_get ps at ≡ Some p → is_counted table (called p) ≡ true
counted_at table [] at p all is = cc
counted_at table (q ∷ ps) zero p all is = subst (λ r. is_counted table (called r) ≡ true) (some_same q p is) (both_true (is_counted table (called q)) (are_counted table ps) all).0
counted_at table (q ∷ ps) (suc at) p all is = counted_at table ps at p (both_true (is_counted table (called q)) (are_counted table ps) all).1 is

callee_counted : (table : List (Option FunctionCounts)) (ps : List PieceView) (m : ℕ) → are_counted table ps ≡ true → Calls ps m → (c : FunctionCounts) × (slice_get table m ≡ Some (Some c))
callee_counted table ps m all (at, p, is, call) = there_is (slice_get table m) (subst (λ o. is_counted table o ≡ true) call (counted_at table ps at p all is))

module _ (u : UnitView) where
  -- a function calls one
  record Step (n m : ℕ) : Type 0 where
    function : FunctionView
    template : TemplateView
    is : IsTemplateOf u n function template
    calls : Calls template.pieces m

  -- calls lead from a function to one
  data Way (n : ℕ) : ℕ → Type 0 where
    here : Way n n
    on : (k m : ℕ) → Way n k → Step k m → Way n m

  -- the first call of a way
  record Begins (n m : ℕ) : Type 0 where
    next : ℕ
    step : Step n next
    way : Way next m

  first : (n k m : ℕ) → Way n k → Step k m → Begins n m
  first n _ m here step = record { next = m; step = step; way = here }
  first n _ m (on j k way before) step = let b = first n j k way before in record { next = b.next; step = b.step; way = on k m b.way step }

  -- a circle of calls through a function goes through one that it calls
  no_circle : (n : ℕ) (c : FunctionCounts) → Counts u n c → (k : ℕ) → Way n k → Step k n → ⊥
  no_circle n c (counts _ f t table is all each) k way step =
      let b = first n k n way step in
      let same = one_template u n b.step.function f b.step.template t b.step.is is in
      let x = callee_counted table t.pieces b.next all (subst (λ (r : TemplateView). Calls r.pieces b.next) same b.step.calls) in
      no_circle b.next x.0 (each b.next x.0 x.1) n b.way b.step

  way_to : (n : ℕ) → Reaches u n → Way u.entry n
  way_to _ begun = here
  way_to _ (further n m f t reached is calls) = on n m (way_to n reached) (record { function = f; template = t; is = is; calls = calls })

pub entry_not_called : (u : UnitView) (templates : List (Option TemplateView)) (table : List (Option FunctionCounts)) → IsPrepared u templates table → (n m : ℕ) (f : FunctionView) (t : TemplateView) → Reaches u n → IsTemplateOf u n f t → Calls t.pieces m → m ≡ u.entry → ⊥
entry_not_called u templates table p n m f t reached is calls e =
    let x = p.all u.entry begun in
    no_circle u u.entry x.1 (p.are_counts u.entry x.1 x.3) n (way_to u n reached) (record { function = f; template = t; is = is; calls = subst (λ k. Calls t.pieces k) e calls })
