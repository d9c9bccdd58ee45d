-- A unit has one program at most, and where it is refused, one refusal and no program.
use Rattle.std.proofs.Common.{◌≡◌, ℕ, suc, List, [], ◌∷◌, length, Option, Some, None, refl, arith, ap, sym, subst, ◌∙◌}
use Rattle.std.specs.List.{slice_get}
use Rattle.cc_base.specs.declared.limit_table.Limits.{Limits}
use Rattle.cc_base.specs.declared.refusals.Fault.{Fault}
use Rattle.cc_base.specs.declared.refusals.Refusal.{Refusal}
use Rattle.c_layout.specs.CheckedUnits.{FunctionView, UnitView}
use Rattle.lower_templates.specs.Worklist.Pieces.{TemplateView}
use Rattle.lower_tables.specs.declared.counts.count_limits.UnitCounts.{UnitCounts}
use Rattle.lower_objects.specs.declared.counts.function_counts.FunctionCounts.{FunctionCounts}
use Rattle.lower_tables.specs.Counts.FirstOver.{unit_counts}
use Rattle.lower_objects.specs.Counts.SharedObjects.{shared_bases}
use Rattle.lower_tables.specs.Counts.Preparations.{IsPrepared}
use Rattle.lower_tables.proofs.counts.OneCount.{one_count, one_normalized}
use Rattle.lower.specs.Inlining.Inlinings.{program}
use Rattle.lower_templates.specs.Views.ProgramViews.{FlowView}
use Rattle.lower.specs.Inlining.AsCounted.{HasJust}
use Rattle.lower.specs.Inlining.Lowerings.{lowered, refusal_of, IsCounted, IsLowering, IsRefusal}

-- the same entries up to empty ones: where one list has one, so has the other
abbrev Covers : {A : Type 0} → List (Option A) → List (Option A) → Type 0
Covers {A} xs ys = (n : ℕ) (x : A) → slice_get xs n ≡ Some (Some x) → slice_get ys n ≡ Some (Some x)

later : {A : Type 0} (x y : Option A) (xs ys : List (Option A)) → Covers (x ∷ xs) (y ∷ ys) → Covers xs ys
later x y xs ys covers n z is = covers (suc n) z is

same_head : {A : Type 0} (x y : Option A) (xs ys : List (Option A)) → Covers (x ∷ xs) (y ∷ ys) → Covers (y ∷ ys) (x ∷ xs) → x ≡ y
same_head None None xs ys a b = refl
same_head None (Some y) xs ys a b = let is = b 0 y refl in cc
same_head (Some x) y xs ys a b = let is = a 0 x refl in cc

same_lists : {A : Type 0} (xs ys : List (Option A)) → length xs ≡ length ys → Covers xs ys → Covers ys xs → xs ≡ ys
same_lists [] [] same a b = refl
same_lists [] (y ∷ ys) same a b = absurd (omega arith)
same_lists (x ∷ xs) [] same a b = absurd (omega arith)
same_lists (x ∷ xs) (y ∷ ys) same a b =
    ap (λ z. z ∷ xs) (same_head x y xs ys a b) ∙ ap (λ zs. y ∷ zs) (same_lists xs ys (omega arith) (later x y xs ys a) (later y x ys xs b))

covers : (u : UnitView) (ts ss : List (Option TemplateView)) (a b : List (Option FunctionCounts)) → IsPrepared u ts a → IsPrepared u ss b → Covers ts ss
covers u ts ss a b p q n t is =
    let normalized = p.are_normalized n t is in
    let (s, c, there, counted) = q.all n normalized.reached in
    subst (λ r. slice_get ss n ≡ Some (Some r)) (one_normalized u n s t (q.are_normalized n s there) normalized) there

one_preparation : (u : UnitView) (ts ss : List (Option TemplateView)) (a b : List (Option FunctionCounts)) → IsPrepared u ts a → IsPrepared u ss b → ts ≡ ss
one_preparation u ts ss a b p q = same_lists ts ss (p.numbered ∙ sym q.numbered) (covers u ts ss a b p q) (covers u ss ts b a q p)

same_entry : (f g : FunctionView) (found : Option FunctionView) → found ≡ Some f → found ≡ Some g → f ≡ g
same_entry f g found a b = cc

-- what was counted of a unit
record Same (f g : FunctionView) (ts ss : List (Option TemplateView)) (c d : UnitCounts) : Type 0 where
  entry : f ≡ g
  templates : ts ≡ ss
  counts : c ≡ d

one_counting : (u : UnitView) (f g : FunctionView) (ts ss : List (Option TemplateView)) (c d : UnitCounts) → IsCounted u f ts c → IsCounted u g ss d → Same f g ts ss c d
one_counting u f g ts ss c d a b =
    let same = one_preparation u ts ss a.table b.table a.is_prepared b.is_prepared in
    let x = a.are_counts in
    let y = b.are_counts in
    let one = one_count u u.entry x.entry y.entry (a.is_prepared.are_counts u.entry x.entry x.is_counted) (b.is_prepared.are_counts u.entry y.entry y.is_counted) in
    record {
      entry = same_entry f g (slice_get u.functions u.entry) a.is_entry b.is_entry;
      templates = same;
      counts = x.are_counts ∙ ap (λ e. unit_counts e (shared_bases u ts)) one ∙ ap (λ rs. unit_counts y.entry (shared_bases u rs)) same ∙ sym y.are_counts;
    }

-- what is counted of a program in any way is counted of it in each
pub just_counted : (u : UnitView) (limits : Limits) (f : FlowView) (entry : FunctionView) (templates : List (Option TemplateView)) (counts : UnitCounts)
    → IsCounted u entry templates counts → HasJust counts f → (is : IsLowering u limits f) → HasJust is.counts f
just_counted u limits f entry templates counts counted just is =
    subst (λ c. HasJust c f) ((one_counting u entry is.entry templates is.templates counts is.counts counted is.is_counted).counts) just

pub one_program : (u : UnitView) (limits : Limits) (f g : FlowView) → IsLowering u limits f → IsLowering u limits g → f ≡ g
one_program u limits f g a b =
    let s = one_counting u a.entry b.entry a.templates b.templates a.counts b.counts a.is_counted b.is_counted in
    a.opens
    ∙ ap (λ e. lowered u e (program u a.templates e.at) a.counts.temps) s.entry
    ∙ ap (λ ts. lowered u b.entry (program u ts b.entry.at) a.counts.temps) s.templates
    ∙ ap (λ c. lowered u b.entry (program u b.templates b.entry.at) c.temps) s.counts
    ∙ sym b.opens

same_refusal : (u : UnitView) (limits : Limits) (f g : FunctionView) (ts ss : List (Option TemplateView)) (c d : UnitCounts) → Same f g ts ss c d → refusal_of u limits ts f.at c ≡ refusal_of u limits ss g.at d
same_refusal u limits f g ts ss c d s =
    ap (λ e. refusal_of u limits ts e.at c) s.entry ∙ ap (λ rs. refusal_of u limits rs g.at c) s.templates ∙ ap (λ k. refusal_of u limits ss g.at k) s.counts

-- a unit that has a program is not refused
pub no_refusal : (u : UnitView) (limits : Limits) (f : FlowView) (s : Fault) → IsLowering u limits f → IsRefusal u limits s → ⊥
no_refusal u limits f s a b =
    let same = one_counting u a.entry b.entry a.templates b.templates a.counts b.counts a.is_counted b.is_counted in
    let passes = sym a.fits ∙ same_refusal u limits a.entry b.entry a.templates b.templates a.counts b.counts same ∙ b.passes in
    nothing s.refusal passes
  where
    nothing : (r : Refusal) → None ≡ Some r → ⊥
    nothing r is = cc

some_same : (x y : Refusal) → Some x ≡ Some y → x ≡ y
some_same x y is = cc

same_fault : (x y : Fault) → x.place ≡ y.place → x.refusal ≡ y.refusal → x ≡ y
same_fault x y p q = λ i. record { place = p i; refusal = q i }

pub one_refusal : (u : UnitView) (limits : Limits) (s t : Fault) → IsRefusal u limits s → IsRefusal u limits t → s ≡ t
one_refusal u limits s t a b =
    let same = one_counting u a.entry b.entry a.templates b.templates a.counts b.counts a.is_counted b.is_counted in
    let passes = sym a.passes ∙ same_refusal u limits a.entry b.entry a.templates b.templates a.counts b.counts same ∙ b.passes in
    same_fault s t (a.place ∙ ap (λ e. e.at) same.entry ∙ sym b.place) (some_same s.refusal t.refusal passes)
