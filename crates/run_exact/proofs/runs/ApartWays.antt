-- No scalar takes two edges of one block, where the labels of switches are apart.
use Rattle.std.proofs.Common.{◌≡◌, ℕ, zero, suc, ◌+◌, Bool, true, false, not, ◌&&◌, ◌||◌, Option, Some, None, List, [], ◌∷◌, length, take, drop, arith, subst, sym, refl, ap, ◌∙◌, inl, inr, ◌⊎◌}
use Rattle.std.specs.Prelude.{ℤ, slice_get}
use Rattle.std.specs.Ordering.{int_eq}
use Rattle.std.proofs.lemmas.Int.{ints}
use Rattle.std.proofs.lemmas.Bool.{and_parts, true≢false}
use Rattle.std.proofs.lemmas.Option.{same_Some}
use Rattle.cc_base.specs.declared.limit_table.Limits.{Limits}
use Rattle.cfg.specs.WellFormed.{Leads, On, Away, Once, TwoWays, ByCases, ByLine, are_led, are_cases, is_case, is_other, is_when, is_no_line, is_line, is_well_formed}
use Rattle.cfg.specs.declared.basic_blocks.BasicBlock.{BasicBlock}
use Rattle.cfg.specs.declared.flow_edges.CaseTest.{CaseTest}
use Rattle.cfg.specs.declared.flow_edges.Edge.{Edge}
use Rattle.cfg.specs.declared.flow_edges.EdgeKind.{EdgeKind}
use Rattle.cfg.specs.declared.flow_edges.EdgeKind.TheVariants as kind
use Rattle.cfg.specs.declared.programs.Flow.{Flow}
use Rattle.transfer_edges.specs.Edges.{has_label}
use Rattle.memory_model.specs.Memory.Scalars.{Scalar, integer, pointer, is_false}
use Rattle.lower_templates.specs.Worklist.Pieces.{way}
use Rattle.semantics.specs.CfgMachine.FlowEdges.{same_truth, is_number, is_among, is_taken}
use Rattle.transfer_exact.specs.Edges.WayLaws.{WaysAreApart}
use Rattle.run_exact.specs.Runs.SingleRuns.{SwitchesAreApart}
use Rattle.run_exact.proofs.runs.BlockEdges.{IsInBlock, in_block}

-- ---- kinds

-- a way on a truth, on a case or on other values
data IsKind (k : EdgeKind) : Type 0 where
  on_case : (a : CaseTest) → k ≡ kind.Case a → IsKind k
  on_other : is_other k ≡ true → IsKind k

case_kind : (k : EdgeKind) → is_case k ≡ true → IsKind k
case_kind (kind.Case a) h = on_case a refl
case_kind kind.Jump h = absurd (true≢false (sym h))
case_kind (kind.When truth test kept) h = absurd (true≢false (sym h))
case_kind (kind.Other values) h = absurd (true≢false (sym h))
case_kind kind.NoLine h = absurd (true≢false (sym h))
case_kind kind.Line h = absurd (true≢false (sym h))

is_kind : (es : List Edge) (p : ℕ) (e : Edge) → are_cases es ≡ true → slice_get es p ≡ Some e → IsKind e.kind
is_kind [] p e h g = cc
is_kind (x ∷ []) zero e h g = let d : x ≡ e = cc in subst (λ z. IsKind z.kind) d (on_other h)
is_kind (x ∷ []) (suc p) e h g = cc
is_kind (x ∷ (y ∷ ys)) zero e h g = let d : x ≡ e = cc in subst (λ z. IsKind z.kind) d (case_kind x.kind (and_parts (is_case x.kind) (are_cases (y ∷ ys)) h).0)
is_kind (x ∷ (y ∷ ys)) (suc p) e h g = is_kind (y ∷ ys) p e (and_parts (is_case x.kind) (are_cases (y ∷ ys)) h).1 g

not_both : (k : EdgeKind) → is_case k ≡ true → is_other k ≡ true → ⊥
not_both (kind.Case a) h o = true≢false (sym o)
not_both kind.Jump h o = true≢false (sym h)
not_both (kind.When truth test kept) h o = true≢false (sym h)
not_both (kind.Other values) h o = true≢false (sym h)
not_both kind.NoLine h o = true≢false (sym h)
not_both kind.Line h o = true≢false (sym h)

-- the way for other values is the last one
other_last : (es : List Edge) (p : ℕ) (e : Edge) → are_cases es ≡ true → slice_get es p ≡ Some e → is_other e.kind ≡ true → p + 1 ≡ length es
other_last [] p e h g o = cc
other_last (x ∷ []) zero e h g o = omega arith
other_last (x ∷ []) (suc p) e h g o = cc
other_last (x ∷ (y ∷ ys)) zero e h g o = let d : x ≡ e = cc in absurd (not_both x.kind (and_parts (is_case x.kind) (are_cases (y ∷ ys)) h).0 (ap (λ (z : Edge). is_other z.kind) d ∙ o))
other_last (x ∷ (y ∷ ys)) (suc p) e h g o = let r = other_last (y ∷ ys) p e (and_parts (is_case x.kind) (are_cases (y ∷ ys)) h).1 g o in omega (arith, r)

-- ---- what is taken

truth_of_when : (truth : Bool) (k : EdgeKind) (v : Scalar) → is_when truth k ≡ true → is_taken v (way k) ≡ true → is_false v ≡ not truth
truth_of_when truth (kind.When on test kept) v h t = same truth on (is_false v) h t
  where
    same : (truth on f : Bool) → same_truth truth on ≡ true → same_truth on (not f) ≡ true → f ≡ not truth
    same true true true h t = sym t
    same true true false h t = refl
    same true false f h t = absurd (true≢false (sym h))
    same false true f h t = absurd (true≢false (sym h))
    same false false true h t = refl
    same false false false h t = t
truth_of_when truth kind.Jump v h t = absurd (true≢false (sym h))
truth_of_when truth (kind.Case a) v h t = absurd (true≢false (sym h))
truth_of_when truth (kind.Other values) v h t = absurd (true≢false (sym h))
truth_of_when truth kind.NoLine v h t = absurd (true≢false (sym h))
truth_of_when truth kind.Line v h t = absurd (true≢false (sym h))

no_line_taken : (k : EdgeKind) (v : Scalar) → is_no_line k ≡ true → is_taken v (way k) ≡ true → is_false v ≡ true
no_line_taken kind.NoLine v h t = t
no_line_taken kind.Jump v h t = absurd (true≢false (sym h))
no_line_taken (kind.When truth test kept) v h t = absurd (true≢false (sym h))
no_line_taken (kind.Case a) v h t = absurd (true≢false (sym h))
no_line_taken (kind.Other values) v h t = absurd (true≢false (sym h))
no_line_taken kind.Line v h t = absurd (true≢false (sym h))

line_taken : (k : EdgeKind) (v : Scalar) → is_line k ≡ true → is_taken v (way k) ≡ true → is_false v ≡ false
line_taken kind.Line v h t = off (is_false v) t
  where
    off : (b : Bool) → not b ≡ true → b ≡ false
    off true e = sym e
    off false e = refl
line_taken kind.Jump v h t = absurd (true≢false (sym h))
line_taken (kind.When truth test kept) v h t = absurd (true≢false (sym h))
line_taken (kind.Case a) v h t = absurd (true≢false (sym h))
line_taken (kind.Other values) v h t = absurd (true≢false (sym h))
line_taken kind.NoLine v h t = absurd (true≢false (sym h))

both_truths : (b : Bool) → b ≡ true → b ≡ false → ⊥
both_truths b t f = true≢false (sym t ∙ f)

int_same : (a b : ℤ) → int_eq a b ≡ true → a ≡ b
int_same a b h = grind (arith, ints)

same_number : (v : Scalar) (a b : ℤ) → is_number v a ≡ true → is_number v b ≡ true → a ≡ b
same_number (integer n labels) a b h k = sym (int_same n a h) ∙ int_same n b k
same_number (pointer p) a b h k = absurd (true≢false (sym h))

among : (v : Scalar) (a : ℤ) (values : List ℤ) → is_number v a ≡ true → has_label values a ≡ true → is_among v values ≡ true
among v a [] h k = k
among v a (x ∷ xs) h k = by_first (int_eq x a) refl k (among v a xs h)
  where
    right : (c d : Bool) → d ≡ true → (c || d) ≡ true
    right true d e = refl
    right false d e = e

    by_first : (c : Bool) → int_eq x a ≡ c → (c || has_label xs a) ≡ true → (has_label xs a ≡ true → is_among v xs ≡ true) → (is_number v x || is_among v xs) ≡ true
    by_first true e r rest = let same : x ≡ a = int_same x a e in ap (λ z. z || is_among v xs) (ap (is_number v) same ∙ h)
    by_first false e r rest = right (is_number v x) (is_among v xs) (rest r)

-- ---- two edges of one block

when_apart : (a b : EdgeKind) (v : Scalar) → (is_when true a && is_when false b) ≡ true → is_taken v (way a) ≡ true → is_taken v (way b) ≡ true → ⊥
when_apart a b v h t r = let p = and_parts (is_when true a) (is_when false b) h in both_truths (is_false v) (truth_of_when false b v p.1 r) (truth_of_when true a v p.0 t)

line_apart : (a b : EdgeKind) (v : Scalar) → (is_no_line a && is_line b) ≡ true → is_taken v (way a) ≡ true → is_taken v (way b) ≡ true → ⊥
line_apart a b v h t r = let p = and_parts (is_no_line a) (is_line b) h in both_truths (is_false v) (no_line_taken a v p.0 t) (line_taken b v p.1 r)

taken_as : (x d : Edge) (v : Scalar) → x ≡ d → is_taken v (way d.kind) ≡ true → is_taken v (way x.kind) ≡ true
taken_as x d v e t = subst (λ (z : Edge). is_taken v (way z.kind) ≡ true) (sym e) t

module _ (flow : Flow) (s : SwitchesAreApart flow) (v : Scalar) where
  -- a case, and the way for other values
  case_other : (j k : ℕ) (d e : Edge) (a : CaseTest) → slice_get flow.edges.items j ≡ Some d → slice_get flow.edges.items k ≡ Some e → d.from ≡ e.from → d.kind ≡ kind.Case a → is_taken v (way d.kind) ≡ true → (x : EdgeKind) → e.kind ≡ x → is_other x ≡ true → is_taken v (way x) ≡ true → ⊥
  case_other j k d e a at_j at_k from is t (kind.Other values) same o r =
      let number : is_number v a.value ≡ true = subst (λ z. is_taken v (way z) ≡ true) is t in
      let there = among v a.value values.items number (s.others j k d e a values at_j at_k from is same) in
      absurd (true≢false (sym r ∙ ap not there))
  case_other j k d e a at_j at_k from is t kind.Jump same o r = true≢false (sym o)
  case_other j k d e a at_j at_k from is t (kind.When truth test kept) same o r = true≢false (sym o)
  case_other j k d e a at_j at_k from is t (kind.Case b) same o r = true≢false (sym o)
  case_other j k d e a at_j at_k from is t kind.NoLine same o r = true≢false (sym o)
  case_other j k d e a at_j at_k from is t kind.Line same o r = true≢false (sym o)

  module _ (j k : ℕ) (d e : Edge) (at_j : slice_get flow.edges.items j ≡ Some d) (at_k : slice_get flow.edges.items k ≡ Some e) (from : d.from ≡ e.from) (ne : k ≡ j → ⊥) (t : is_taken v (way d.kind) ≡ true) (r : is_taken v (way e.kind) ≡ true) where
    by_cases : (es : List Edge) (p q : ℕ) → are_cases es ≡ true → slice_get es p ≡ Some d → slice_get es q ≡ Some e → (p ≡ q → ⊥) → IsKind d.kind → IsKind e.kind → ⊥
    by_cases es p q h f g differ (on_case a x) (on_case b y) = s.cases j k d e a b at_j at_k from ne x y (same_number v a.value b.value (subst (λ z. is_taken v (way z) ≡ true) x t) (subst (λ z. is_taken v (way z) ≡ true) y r))
    by_cases es p q h f g differ (on_case a x) (on_other y) = case_other j k d e a at_j at_k from x t e.kind refl y r
    by_cases es p q h f g differ (on_other x) (on_case b y) = case_other k j e d b at_k at_j (sym from) y r d.kind refl x t
    by_cases es p q h f g differ (on_other x) (on_other y) = let m = other_last es p d h f x in let w = other_last es q e h g y in differ (omega (arith, m, w))

    apart_in : (x : Leads) (es : List Edge) (p q : ℕ) → are_led x es ≡ true → slice_get es p ≡ Some d → slice_get es q ≡ Some e → (p ≡ q → ⊥) → ⊥
    apart_in On [] p q h f g differ = absurd (true≢false (sym h))
    apart_in On (a ∷ more) p q h f g differ = absurd (true≢false (sym h))
    apart_in Away [] p q h f g differ = cc
    apart_in Away (a ∷ more) p q h f g differ = absurd (true≢false (sym h))
    apart_in Once [] p q h f g differ = absurd (true≢false (sym h))
    apart_in Once (a ∷ []) zero zero h f g differ = differ refl
    apart_in Once (a ∷ []) zero (suc q) h f g differ = cc
    apart_in Once (a ∷ []) (suc p) q h f g differ = cc
    apart_in Once (a ∷ (b ∷ bs)) p q h f g differ = absurd (true≢false (sym h))
    apart_in TwoWays [] p q h f g differ = absurd (true≢false (sym h))
    apart_in TwoWays (a ∷ []) p q h f g differ = absurd (true≢false (sym h))
    apart_in TwoWays (a ∷ (b ∷ [])) zero zero h f g differ = differ refl
    apart_in TwoWays (a ∷ (b ∷ [])) zero (suc zero) h f g differ = when_apart a.kind b.kind v h (taken_as a d v (same_Some a d f) t) (taken_as b e v (same_Some b e g) r)
    apart_in TwoWays (a ∷ (b ∷ [])) (suc zero) zero h f g differ = when_apart a.kind b.kind v h (taken_as a e v (same_Some a e g) r) (taken_as b d v (same_Some b d f) t)
    apart_in TwoWays (a ∷ (b ∷ [])) (suc zero) (suc zero) h f g differ = differ refl
    apart_in TwoWays (a ∷ (b ∷ [])) zero (suc (suc q)) h f g differ = cc
    apart_in TwoWays (a ∷ (b ∷ [])) (suc zero) (suc (suc q)) h f g differ = cc
    apart_in TwoWays (a ∷ (b ∷ [])) (suc (suc p)) q h f g differ = cc
    apart_in TwoWays (a ∷ (b ∷ (c ∷ cs))) p q h f g differ = absurd (true≢false (sym h))
    apart_in ByCases es p q h f g differ = by_cases es p q h f g differ (is_kind es p d h f) (is_kind es q e h g)
    apart_in ByLine [] p q h f g differ = absurd (true≢false (sym h))
    apart_in ByLine (a ∷ []) p q h f g differ = absurd (true≢false (sym h))
    apart_in ByLine (a ∷ (b ∷ [])) zero zero h f g differ = differ refl
    apart_in ByLine (a ∷ (b ∷ [])) zero (suc zero) h f g differ = line_apart a.kind b.kind v h (taken_as a d v (same_Some a d f) t) (taken_as b e v (same_Some b e g) r)
    apart_in ByLine (a ∷ (b ∷ [])) (suc zero) zero h f g differ = line_apart a.kind b.kind v h (taken_as a e v (same_Some a e g) r) (taken_as b d v (same_Some b d f) t)
    apart_in ByLine (a ∷ (b ∷ [])) (suc zero) (suc zero) h f g differ = differ refl
    apart_in ByLine (a ∷ (b ∷ [])) zero (suc (suc q)) h f g differ = cc
    apart_in ByLine (a ∷ (b ∷ [])) (suc zero) (suc (suc q)) h f g differ = cc
    apart_in ByLine (a ∷ (b ∷ [])) (suc (suc p)) q h f g differ = cc
    apart_in ByLine (a ∷ (b ∷ (c ∷ cs))) p q h f g differ = absurd (true≢false (sym h))

    of_blocks : IsInBlock flow j d → IsInBlock flow k e → ⊥
    of_blocks x y =
        let same : y.holder ≡ x.holder = same_Some y.holder x.holder (sym y.block_is ∙ (ap (slice_get flow.blocks.items) (sym from) ∙ x.block_is)) in
        let there : slice_get (take x.holder.edges (drop x.holder.first_edge flow.edges.items)) y.place ≡ Some e = subst (λ (z : BasicBlock). slice_get (take z.edges (drop z.first_edge flow.edges.items)) y.place ≡ Some e) same y.own in
        let first : y.holder.first_edge ≡ x.holder.first_edge = ap (λ (z : BasicBlock). z.first_edge) same in
        let a = x.counted in
        let b = y.counted in
        apart_in x.lead (take x.holder.edges (drop x.holder.first_edge flow.edges.items)) x.place y.place x.led x.own there (λ m. ne (omega (arith, a, b, first, m)))

pub ways_apart : (flow : Flow) (limits : Limits) → is_well_formed limits flow ≡ true → SwitchesAreApart flow → WaysAreApart flow
ways_apart flow limits good s = record { apart = λ j k d e v at_j at_k from ne t r. of_blocks flow s v j k d e at_j at_k from ne t r (in_block flow limits good j d at_j) (in_block flow limits good k e at_k) }
