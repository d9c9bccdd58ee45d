-- Rounding gives the least interval with bounds of the list.
use Rattle.std.specs.Prelude.{◌≡◌, ℤ, Bool, true, int_le, List, [], ◌∷◌, refl}
use Rattle.std.specs.List.{list_any}
use Rattle.std.proofs.Common.{arith, ap, subst, inl, inr}
use Rattle.std.proofs.lemmas.Bool.{and_parts, cases_Bool}
use Rattle.interval_domain.specs.declared.intervals.spans.Span.{Span}
use Rattle.interval_domain.specs.declared.intervals.intervals.Interval.TheVariants.{Of}
use Rattle.interval_domain.specs.Intervals.Spans.{same_spans}
use Rattle.interval_domain.specs.Intervals.IntervalOrder.{interval_leq}
use Rattle.interval_domain.specs.Intervals.IntervalRound.{le_order, ge_order, round_down, round_up, rounded_span, interval_round, round_monotone}
use Rattle.interval_domain.specs.Numbers.Nearest.{Has, rounded_member, rounded_has}
use Rattle.domain_theorems.specs.Intervals.BestResults.{RoundsToLeast}

kept : (list : List ℤ) (s : Span) → Has list s.lo → Has list s.hi → interval_round list (Of s) ≡ Of s
kept list s p q = ap Of (same_spans (rounded_span list s) s (rounded_member le_order list s.lo p) (rounded_member ge_order list s.hi q))

any_has : (p : ℤ → Bool) (list : List ℤ) → list_any p list ≡ true → (k : ℤ) × Has list k × (p k ≡ true)
any_has p [] h = cc
any_has p (n ∷ s) h = elim (cases_Bool (p n)) [ inl e ↦ (n, inl refl, e) | inr e ↦ (let r = any_has p s (grind arith) in (r.0, inr r.1, r.2)) ]

down_has : (list : List ℤ) (a : ℤ) → list_any (λ n. int_le n a) list ≡ true → Has list (round_down list a)
down_has list a h = let r = any_has (λ n. int_le n a) list h in rounded_has le_order list a r.0 r.1 r.2

up_has : (list : List ℤ) (a : ℤ) → list_any (λ n. int_le a n) list ≡ true → Has list (round_up list a)
up_has list a h = let r = any_has (λ n. int_le a n) list h in rounded_has ge_order list a r.0 r.1 r.2

pub rounds_to_least : RoundsToLeast
rounds_to_least = record {
  kept = kept;
  least = λ list s t p q h. subst (λ x. interval_leq (interval_round list (Of s)) x ≡ true) (kept list t p q) (round_monotone list (Of s) (Of t) h);
  listed = λ list s h.
      let p = and_parts (list_any (λ n. int_le n s.lo) list) (list_any (λ n. int_le s.hi n) list) h in
      (down_has list s.lo p.0, up_has list s.hi p.1);
}
