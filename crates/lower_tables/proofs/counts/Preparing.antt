-- The functions that the entry reaches are settled and counted one after another.
use Rattle.std.proofs.Common.{◌≡◌, ◌==◌, ◌≤◌, ◌<◌, ◌-◌, ◌^◌, ◌⊎◌, inl, inr, ℕ, zero, suc, Bool, true, false, cond, List, [], ◌∷◌, Option, Some, None, length, replicate, refl, ap, sym, subst, ◌∙◌}
use Rattle.std.specs.List.{slice_get, slice_set}
use Rattle.std.proofs.lemmas.List.{length-set, length-replicate}
use Rattle.c_layout.specs.CheckedUnits.{FunctionView, UnitView}
use Rattle.lower_templates.specs.Worklist.Pieces.{PieceView, TemplateView}
use Rattle.lower_functions.proofs.functions.OneTemplate.{one_finish}
use Rattle.lower_functions.specs.Functions.Functions.{setting_of, function, no_plan}
use Rattle.lower_objects.specs.declared.counts.function_counts.FunctionCounts.{FunctionCounts}
use Rattle.lower_tables.specs.Counts.Preparations.{IsTemplateOf, called, Calls, Reaches, begun, further, is_there, is_counted, are_counted, Counts, counts, AreCounts, IsNormalized, IsPrepared}
use Rattle.lower_tables.specs.Counts.PreparingSteps.{CallsOf, IsMade, IsReached, AreMade, Progress, IsSettling, AreNormalized}
use Rattle.lower_tables.proofs.counts.Tables.{set_here, set_cases, set_filled, all_empty}

some_same : {A : Type 0} (x y : A) → Some x ≡ Some y → x ≡ y
some_same x y is = cc

-- the template that was made, or one that was there
made_at : (u : UnitView) (n m : ℕ) (f : FunctionView) (t s : TemplateView) (old : List (Option TemplateView)) → IsTemplateOf u n f t → t.labels ≤ 2 ^ 32 - 1 → Reaches u n → AreMade u old → ((m ≡ n) × (Some s ≡ Some t)) ⊎ (slice_get old m ≡ Some (Some s)) → IsReached u m s
made_at u n m f t s old is few reached made (inl p) =
    subst (λ k. IsReached u k s) (sym p.0) (subst (λ v. IsReached u n v) (sym (some_same s t p.1)) (record { function = f; is_template = is; reached = reached; few = few }))
made_at u n m f t s old is few reached made (inr was) = made m s was

pub still_made : (u : UnitView) (n : ℕ) (old new : List (Option TemplateView)) → IsMade u n old new → Reaches u n → AreMade u old → AreMade u new
still_made u n old new is reached made m s there =
    made_at u n m is.function is.template s old is.is_template is.few reached made (set_cases old n m (Some is.template) (Some s) (sym (ap (λ ts. slice_get ts m) is.comes) ∙ there))

-- a function that one calls which has a template
pub reaches_called : (u : UnitView) (ts : List (Option TemplateView)) (n m : ℕ) → AreMade u ts → CallsOf ts n m → Reaches u m
reaches_called u ts n m made (t, is, calls) = let r = made n t is in further n m r.function t r.reached r.is_template calls

pub none_made : (u : UnitView) (ts : List (Option TemplateView)) (count : ℕ) → ts ≡ replicate count None → AreMade u ts
none_made u ts count none n t is = absurd (all_empty ts count n t none is)

pub both_true : (b c : Bool) → cond b c false ≡ true → (b ≡ true) × (c ≡ true)
both_true true c is = (refl, is)
both_true false c is = cc

pub there_is : (o : Option (Option FunctionCounts)) → is_there o ≡ true → (c : FunctionCounts) × (o ≡ Some (Some c))
there_is None is = cc
there_is (Some None) is = cc
there_is (Some (Some c)) is = (c, refl)

-- all that pieces call is there
counted_at : (table : List (Option FunctionCounts)) (ps : List PieceView) (at : ℕ) (p : PieceView) → are_counted table ps ≡ true → slice_get ps at ≡ Some p → is_counted table (called p) ≡ true
counted_at table [] at p all is = cc
counted_at table (q ∷ ps) zero p all is = subst (λ r. is_counted table (called r) ≡ true) (some_same q p is) (both_true (is_counted table (called q)) (are_counted table ps) all).0
counted_at table (q ∷ ps) (suc at) p all is = counted_at table ps at p (both_true (is_counted table (called q)) (are_counted table ps) all).1 is

called_there : (table : List (Option FunctionCounts)) (ps : List PieceView) (m : ℕ) → are_counted table ps ≡ true → Calls ps m → (c : FunctionCounts) × (slice_get table m ≡ Some (Some c))
called_there table ps m all (at, p, is, call) = there_is (slice_get table m) (subst (λ o. is_counted table o ≡ true) call (counted_at table ps at p all is))

there_more : (table : List (Option FunctionCounts)) (n m : ℕ) (c : FunctionCounts) → is_there (slice_get table m) ≡ true → is_there (slice_get (slice_set table n (Some c)) m) ≡ true
there_more [] n m c is = is
there_more (t ∷ ts) zero zero c is = refl
there_more (t ∷ ts) zero (suc m) c is = is
there_more (t ∷ ts) (suc n) zero c is = is
there_more (t ∷ ts) (suc n) (suc m) c is = there_more ts n m c is

is_counted_more : (table : List (Option FunctionCounts)) (n : ℕ) (c : FunctionCounts) (o : Option ℕ) → is_counted table o ≡ true → is_counted (slice_set table n (Some c)) o ≡ true
is_counted_more table n c None is = refl
is_counted_more table n c (Some m) is = there_more table n m c is

-- what was counted stays so
are_counted_more : (table : List (Option FunctionCounts)) (n : ℕ) (c : FunctionCounts) (ps : List PieceView) → are_counted table ps ≡ true → are_counted (slice_set table n (Some c)) ps ≡ true
are_counted_more table n c [] all = refl
are_counted_more table n c (p ∷ ps) all =
    let first = is_counted_more table n c (called p) (both_true (is_counted table (called p)) (are_counted table ps) all).0 in
    ap (λ b. cond b (are_counted (slice_set table n (Some c)) ps) false) first ∙ are_counted_more table n c ps (both_true (is_counted table (called p)) (are_counted table ps) all).1

-- nothing is settled at first
pub none_normalized : (u : UnitView) (ts : List (Option TemplateView)) (table : List (Option FunctionCounts)) (count : ℕ) → count ≡ length u.functions → ts ≡ replicate count None → table ≡ replicate count None → AreNormalized u ts table
none_normalized u ts table count all none_t none_c = record {
  numbered = ap length none_t ∙ length-replicate count None ∙ all;
  are_normalized = λ n s is. absurd (all_empty ts count n s none_t is);
  are_counts = λ n c is. absurd (all_empty table count n c none_c is);
  both = λ n c is. absurd (all_empty table count n c none_c is);
  closed = λ n s is. absurd (all_empty ts count n s none_t is);
}

counts_at : (u : UnitView) (n m : ℕ) (c d : FunctionCounts) (table : List (Option FunctionCounts)) → Counts u n c → AreCounts u table → ((m ≡ n) × (Some d ≡ Some c)) ⊎ (slice_get table m ≡ Some (Some d)) → Counts u m d
counts_at u n m c d table new old (inl p) = subst (λ k. Counts u k d) (sym p.0) (subst (λ v. Counts u n v) (sym (some_same d c p.1)) new)
counts_at u n m c d table new old (inr was) = old m d was

normalized_at : (u : UnitView) (n m : ℕ) (s r : TemplateView) (ts : List (Option TemplateView)) → IsNormalized u n s → ((k : ℕ) (v : TemplateView) → slice_get ts k ≡ Some (Some v) → IsNormalized u k v) → ((m ≡ n) × (Some r ≡ Some s)) ⊎ (slice_get ts m ≡ Some (Some r)) → IsNormalized u m r
normalized_at u n m s r ts new old (inl p) = subst (λ k. IsNormalized u k r) (sym p.0) (subst (λ v. IsNormalized u n v) (sym (some_same r s p.1)) new)
normalized_at u n m s r ts new old (inr was) = old m r was

abbrev Closed : UnitView → List (Option FunctionCounts) → ℕ → Type 0
Closed u table n = (f : FunctionView) × (t : TemplateView) × IsTemplateOf u n f t × (are_counted table t.pieces ≡ true)

closed_at : (u : UnitView) (n m : ℕ) (s r : TemplateView) (ts : List (Option TemplateView)) (table : List (Option FunctionCounts)) → Closed u table n → ((k : ℕ) (v : TemplateView) → slice_get ts k ≡ Some (Some v) → Closed u table k) → ((m ≡ n) × (Some r ≡ Some s)) ⊎ (slice_get ts m ≡ Some (Some r)) → Closed u table m
closed_at u n m s r ts table new old (inl p) = subst (λ k. Closed u table k) (sym p.0) new
closed_at u n m s r ts table new old (inr was) = old m r was

closed_more : (u : UnitView) (n m : ℕ) (c : FunctionCounts) (table : List (Option FunctionCounts)) → Closed u table m → Closed u (slice_set table n (Some c)) m
closed_more u n m c table (f, t, is, all) = (f, t, is, are_counted_more table n c t.pieces all)

both_at : (n m : ℕ) (s : TemplateView) (c d : FunctionCounts) (ts : List (Option TemplateView)) (table : List (Option FunctionCounts)) → n < length ts → ((k : ℕ) (v : FunctionCounts) → slice_get table k ≡ Some (Some v) → (r : TemplateView) × (slice_get ts k ≡ Some (Some r)))
    → ((m ≡ n) × (Some d ≡ Some c)) ⊎ (slice_get table m ≡ Some (Some d)) → (r : TemplateView) × (slice_get (slice_set ts n (Some s)) m ≡ Some (Some r))
both_at n m s c d ts table within old (inl p) = (s, ap (λ k. slice_get (slice_set ts n (Some s)) k) p.0 ∙ set_here ts n (Some s) within)
both_at n m s c d ts table within old (inr was) = let (r, is) = old m d was in set_filled ts n m s r is

-- one more function is settled, of what is seen as lists
one_normalized : (u : UnitView) (n : ℕ) (f : FunctionView) (t s : TemplateView) (c : FunctionCounts) (ts : List (Option TemplateView)) (table : List (Option FunctionCounts)) → n < length ts → IsNormalized u n s → Closed u table n → Counts u n c → AreNormalized u ts table
    → AreNormalized u (slice_set ts n (Some s)) (slice_set table n (Some c))
one_normalized u n f t s c ts table within settles closes count old = record {
  numbered = length-set ts n (Some s) ∙ old.numbered;
  are_normalized = λ m r is. normalized_at u n m s r ts settles old.are_normalized (set_cases ts n m (Some s) (Some r) is);
  are_counts = λ m d is. counts_at u n m c d table count old.are_counts (set_cases table n m (Some c) (Some d) is);
  both = λ m d is. both_at n m s c d ts table within old.both (set_cases table n m (Some c) (Some d) is);
  closed = λ m r is. closed_more u n m c table (closed_at u n m s r ts table closes old.closed (set_cases ts n m (Some s) (Some r) is));
}

-- both templates that are still to be settled and those that are
pub record Holds (u : UnitView) (p : Progress) : Type 0 where
  pub made : AreMade u p.plain
  pub normalized : AreNormalized u p.templates p.table

same_function : (f g : FunctionView) (o : Option FunctionView) → o ≡ Some f → o ≡ Some g → f ≡ g
same_function f g o a b = cc

still_plain : (u : UnitView) (n : ℕ) (ts : List (Option TemplateView)) → AreMade u ts → AreMade u (slice_set ts n None)
still_plain u n ts made m t is = plain_at (set_cases ts n m None (Some t) is)
  where
    plain_at : ((m ≡ n) × (Some t ≡ None)) ⊎ (slice_get ts m ≡ Some (Some t)) → IsReached u m t
    plain_at (inl p) = absurd (nothing p.1)
      where
        nothing : Some t ≡ None → ⊥
        nothing e = cc
    plain_at (inr was) = made m t was

template_of : (u : UnitView) (n : ℕ) (f : FunctionView) (t : TemplateView) → slice_get u.functions n ≡ Some f → IsReached u n t → IsTemplateOf u n f t
template_of u n f t stands r = subst (λ g. IsTemplateOf u n g t) (same_function r.function f (slice_get u.functions n) r.is_template.stands stands) r.is_template

pub still_holds : (u : UnitView) (n : ℕ) (old new : Progress) → IsSettling u n old new → Holds u old → Holds u new
still_holds u n old new is h =
    let k = is.counting in
    let r = h.made n is.template is.was in
    let named = template_of u n k.function is.template k.stands r in
    let settles : IsNormalized u n is.settles = record { function = k.function; template = is.template; table = old.table; is_template = named; few = r.few; reached = r.reached; all_counted = k.all_counted; are_counts = h.normalized.are_counts; settles = k.settles } in
    let count : Counts u n is.counts = subst (λ c. Counts u n c) (sym k.counts) (counts n k.function is.template old.table named k.all_counted h.normalized.are_counts) in
    let all = one_normalized u n k.function is.template is.settles is.counts old.templates old.table is.within settles (k.function, is.template, named, k.all_counted) count h.normalized in
    record {
      made = subst (λ ts. AreMade u ts) (sym is.plain) (still_plain u n old.plain h.made);
      normalized = subst (λ ts. AreNormalized u ts new.table) (sym is.templates) (subst (λ table. AreNormalized u (slice_set old.templates n (Some is.settles)) table) (sym is.table) all);
    }

pub one_function : (u : UnitView) (n : ℕ) (f g : FunctionView) (s t : TemplateView) → IsTemplateOf u n f s → IsTemplateOf u n g t → f ≡ g
one_function u n f g s t a b = same_function f g (slice_get u.functions n) a.stands b.stands

pub one_template : (u : UnitView) (n : ℕ) (f g : FunctionView) (s t : TemplateView) → IsTemplateOf u n f s → IsTemplateOf u n g t → s ≡ t
one_template u n f g s t a b =
    let same = same_function g f (slice_get u.functions n) b.stands a.stands in
    let c = subst (λ h. IsTemplateOf u n h t) same b in
    one_finish (setting_of u.structs u.model.pointer u.model.int f (n == u.entry)) (function (setting_of u.structs u.model.pointer u.model.int f (n == u.entry)) f (no_plan f.labels)) s t a.is_template c.is_template

abbrev IsThere : List (Option TemplateView) → List (Option FunctionCounts) → ℕ → Type 0
IsThere ts table n = (s : TemplateView) × (c : FunctionCounts) × (slice_get ts n ≡ Some (Some s)) × (slice_get table n ≡ Some (Some c))

there_both : (u : UnitView) (ts : List (Option TemplateView)) (table : List (Option FunctionCounts)) (n : ℕ) → AreNormalized u ts table → (c : FunctionCounts) × (slice_get table n ≡ Some (Some c)) → IsThere ts table n
there_both u ts table n h (c, is) = let (s, there) = h.both n c is in (s, c, there, is)

-- a function that is called by one that is there is there
further_there : (u : UnitView) (ts : List (Option TemplateView)) (table : List (Option FunctionCounts)) (n m : ℕ) (f : FunctionView) (t : TemplateView) → AreNormalized u ts table → IsTemplateOf u n f t → Calls t.pieces m → IsThere ts table n → IsThere ts table m
further_there u ts table n m f t h is calls (s, c, there, counted) =
    let (g, r, named, all) = h.closed n s there in
    let same = one_template u n g f r t named is in
    there_both u ts table m h (called_there table t.pieces m (subst (λ v. are_counted table v.pieces ≡ true) same all) calls)

all_there : (u : UnitView) (ts : List (Option TemplateView)) (table : List (Option FunctionCounts)) (c : FunctionCounts) → AreNormalized u ts table → slice_get table u.entry ≡ Some (Some c) → (n : ℕ) → Reaches u n → IsThere ts table n
all_there u ts table c h entry n begun = there_both u ts table u.entry h (c, entry)
all_there u ts table c h entry n (further k m f t reached is calls) = further_there u ts table k m f t h is calls (all_there u ts table c h entry k reached)

pub all_prepared : (u : UnitView) (ts : List (Option TemplateView)) (table : List (Option FunctionCounts)) (c : FunctionCounts) → AreNormalized u ts table → slice_get table u.entry ≡ Some (Some c) → IsPrepared u ts table
all_prepared u ts table c h entry = record { numbered = h.numbered; are_normalized = h.are_normalized; are_counts = h.are_counts; all = all_there u ts table c h entry }
