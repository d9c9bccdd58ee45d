-- The results of `+`, `-`, negation and conversion are the least intervals that have each number that the machine gives.
use Rattle.std.specs.Prelude.{◌≡◌, ℕ, ◌+◌, ◌-◌, ◌*◌, ◌^◌, ◌<◌, ◌≤◌, ℤ, pos, negsuc, neg_ℤ, ◌+ℤ◌, ◌-ℤ◌, ◌≤ℤ◌, ◌<ℤ◌, Bool, true, false, cond, ◌&&◌, int_le, int_lt, Option, Some, None, refl, ◌⊎◌}
use Rattle.std.specs.Int.{int_min, int_max}
use Rattle.std.specs.Ordering.{int_eq}
use Rattle.std.proofs.Common.{arith, ap, ap₂, ◌∙◌, sym, subst, inl, inr}
use Rattle.std.proofs.lemmas.Int.{ints, clamps, by_lt_z}
use Rattle.std.proofs.lemmas.Bool.{cond_both, cases_Bool, and_from, and_parts}
use Rattle.std.proofs.lemmas.Bool.Decides.{Decides-int_eq}
use lib.Signed.{≤ℤ_refl}
use Rattle.cc_base.specs.IntegerTypes.{is_size, modulus, least_of, greatest_of, in_type, wrap_into, block_of}
use Rattle.cc_base.specs.MachineArithmetic.{in_or_stop, result_of, binary_result, unary_result}
use Rattle.cc_base.specs.declared.int_types.IntType.{IntType}
use Rattle.cc_base.specs.declared.integer_operators.IntOp.{IntOp}
use Rattle.cc_base.specs.declared.integer_operators.IntOp.TheVariants.{Add, Sub}
use Rattle.cc_base.specs.declared.integer_operators.UnOp.{UnOp}
use Rattle.cc_base.specs.declared.integer_operators.UnOp.TheVariants.{Neg, Compl}
use Rattle.interval_domain.specs.declared.intervals.spans.Span.{Span}
use Rattle.interval_domain.specs.declared.intervals.intervals.Interval.{Interval}
use Rattle.interval_domain.specs.declared.intervals.intervals.Interval.TheVariants.{Bottom, Of}
use Rattle.interval_domain.specs.Intervals.Spans.{between_or_empty, by_between, Stands}
use Rattle.interval_domain.specs.Intervals.IntervalOrder.{interval_leq}
use Rattle.interval_domain.specs.Intervals.IntervalNumbers.{wrap_in}
use Rattle.interval_domain.specs.Intervals.Arithmetic.{clamped, whole, wrapped, into, sums, differences, unary_span}
use Rattle.interval_domain.specs.Intervals.Blocks.{block_rises, wrap_shifts}
use Rattle.interval_domain.specs.Intervals.Wrapping.{block_stays, wrap_stays, wrap_next}

-- x has each number with P, and each interval that has them all has x
pub record IsLeastWith (P : ℤ → Type 0) (x : Interval) : Type 0 where
  pub holds : (z : ℤ) → P z → Stands x z
  pub least : (y : Interval) → ((z : ℤ) → P z → Stands y z) → interval_leq x y ≡ true

-- an interval that has both bounds has all between them
below_with : (a b : ℤ) (y : Interval) → Stands y a → Stands y b → interval_leq (between_or_empty a b) y ≡ true
below_with a b Bottom p q = absurd p
below_with a b (Of t) p q = by_between (λ x. interval_leq x (Of t) ≡ true) a b (λ o. grind (arith, ints)) (λ o. refl)

pub stands_between : (a b z : ℤ) → a ≤ℤ z → z ≤ℤ b → Stands (between_or_empty a b) z
stands_between a b z p q = by_between (λ x. Stands x z) a b (λ o. (p, q)) (λ (o : b <ℤ a). absurd (omega (arith, ints)))

-- what holds of two bounds holds of what the interval between them needs
pub below_if : (a b : ℤ) (y : Interval) → (a ≤ℤ b → Stands y a × Stands y b) → interval_leq (between_or_empty a b) y ≡ true
below_if a b y f = by_lt_z b a
    (λ (q : b <ℤ a). by_between (λ x. interval_leq x y ≡ true) a b (λ (o : a ≤ℤ b). absurd (omega (arith, ints))) (λ _. refl))
    (λ (p : a ≤ℤ b). let h = f p in below_with a b y h.0 h.1)

-- ---- results from lo to hi

-- some number from lo to hi gives z
pub record GivesFrom (give : ℤ → Option ℤ) (lo hi z : ℤ) : Type 0 where
  pub from : ℤ
  pub lower : lo ≤ℤ from
  pub upper : from ≤ℤ hi
  pub gives : give from ≡ Some z

pub le_true : (a b : ℤ) → int_le a b ≡ true → a ≤ℤ b
le_true a b h = grind (arith, ints)

pub true_le : (a b : ℤ) → a ≤ℤ b → int_le a b ≡ true
true_le a b h = grind (arith, ints)

in_type_lies : (k : IntType) (z : ℤ) → in_type k z ≡ true → (least_of k ≤ℤ z) × (z ≤ℤ greatest_of k)
in_type_lies k z h = let p = and_parts (int_le (least_of k) z) (int_le z (greatest_of k)) h in (le_true _ _ p.0, le_true _ _ p.1)

lies_in_type : (k : IntType) (z : ℤ) → least_of k ≤ℤ z → z ≤ℤ greatest_of k → in_type k z ≡ true
lies_in_type k z p q = and_from (int_le (least_of k) z) (int_le z (greatest_of k)) (true_le _ _ p) (true_le _ _ q)

some_same : (a b : ℤ) → Some a ≡ Some b → a ≡ b
some_same a b e = cc

stop_gives : (k : IntType) (x z : ℤ) → in_or_stop k x ≡ Some z → (x ≡ z) × (in_type k x ≡ true)
stop_gives k x z e = elim (cases_Bool (in_type k x)) [
  | inl t ↦ (let f : Some x ≡ Some z = subst (λ b. cond b (Some x) None ≡ Some z) t e in (some_same x z f, t))
  | inr t ↦ (let f : None ≡ Some z = subst (λ b. cond b (Some x) None ≡ Some z) t e in cc)
]

gives_stop : (k : IntType) (x : ℤ) → in_type k x ≡ true → in_or_stop k x ≡ Some x
gives_stop k x t = subst (λ b. cond b (Some x) None ≡ Some x) (sym t) refl

pub clamped_best : (k : IntType) (lo hi : ℤ) → IsLeastWith (GivesFrom (in_or_stop k) lo hi) (clamped k lo hi)
clamped_best k lo hi = record {
  holds = λ z g.
      let s = stop_gives k g.from z g.gives in
      let t = in_type_lies k g.from s.1 in
      let a = g.lower in
      let b = g.upper in
      let e = s.0 in
      stands_between _ _ z (omega (arith, ints, clamps)) (omega (arith, ints, clamps));
  least = λ y f. below_if _ _ y (λ (o : int_max lo (least_of k) ≤ℤ int_min hi (greatest_of k)).
      let at_lo : GivesFrom (in_or_stop k) lo hi (int_max lo (least_of k)) = record {
        from = int_max lo (least_of k);
        lower = omega (arith, ints, clamps);
        upper = omega (arith, ints, clamps);
        gives = gives_stop k _ (lies_in_type k _ (omega (arith, ints, clamps)) (omega (arith, ints, clamps)));
      } in
      let at_hi : GivesFrom (in_or_stop k) lo hi (int_min hi (greatest_of k)) = record {
        from = int_min hi (greatest_of k);
        lower = omega (arith, ints, clamps);
        upper = omega (arith, ints, clamps);
        gives = gives_stop k _ (lies_in_type k _ (omega (arith, ints, clamps)) (omega (arith, ints, clamps)));
      } in
      (f _ at_lo, f _ at_hi));
}

-- ---- in one block

one_block_best : (k : IntType) (lo hi : ℤ) → lo ≤ℤ hi → block_of k lo ≡ block_of k hi → IsLeastWith (GivesFrom (λ z. Some (wrap_into k z)) lo hi) (between_or_empty (wrap_into k lo) (wrap_into k hi))
one_block_best k lo hi h e = record {
  holds = λ z g.
      let a = g.lower in
      let b = g.upper in
      let p = block_rises k lo g.from a in
      let q = block_rises k g.from hi b in
      let r : block_of k g.from ≡ block_of k lo = omega (arith, ints) in
      let u = wrap_shifts k g.from lo r in
      let v = wrap_shifts k g.from hi (r ∙ e) in
      let w : wrap_into k g.from ≡ z = some_same _ _ g.gives in
      stands_between _ _ z (omega (arith, ints)) (omega (arith, ints));
  least = λ y f. below_with _ _ y (f _ (record { from = lo; lower = ≤ℤ_refl lo; upper = h; gives = refl })) (f _ (record { from = hi; lower = h; upper = ≤ℤ_refl hi; gives = refl }));
}

-- ---- over the end of a block

distance : (a b : ℤ) → a ≤ℤ b → (d : ℕ) × (b ≡ (a +ℤ pos d))
distance (pos a) (pos b) h = (b - a, omega (arith, ints))
distance (pos a) (negsuc b) h = absurd (omega (arith, ints))
distance (negsuc a) (pos b) h = (a + 1 + b, omega (arith, ints))
distance (negsuc a) (negsuc b) h = (a - b, omega (arith, ints))

whole_best : (k : IntType) (lo hi : ℤ) → is_size k.bytes ≡ true → lo ≤ℤ hi → (block_of k lo ≡ block_of k hi → ⊥) → IsLeastWith (GivesFrom (λ z. Some (wrap_into k z)) lo hi) (whole k)
whole_best k lo hi h o n =
    let w = wrap_in k lo h in
    let d = distance (wrap_into k lo) (greatest_of k) w.1 in
    let s = distance lo hi o in
    let past : (lo +ℤ pos d.0) <ℤ hi = by_lt_z (lo +ℤ pos d.0) hi (λ x. x)
    (λ (t : hi ≤ℤ (lo +ℤ pos d.0)).
    let u : (wrap_into k lo +ℤ pos s.0) ≤ℤ greatest_of k = (let e = d.1 in let f = s.1 in omega (arith, ints)) in
    absurd (n (sym (subst (λ x. block_of k x ≡ block_of k lo) (sym s.1) (block_stays k lo s.0 h u))))) in
    let last : wrap_into k (lo +ℤ pos d.0) ≡ greatest_of k = wrap_stays k lo d.0 h (let e = d.1 in omega (arith, ints)) ∙ sym d.1 in
    let next : wrap_into k ((lo +ℤ pos d.0) +ℤ pos 1) ≡ least_of k = wrap_next k (lo +ℤ pos d.0) h last in
    record {
      holds = λ z g. let x = wrap_in k g.from h in let e : wrap_into k g.from ≡ z = some_same _ _ g.gives in stands_between _ _ z (omega (arith, ints)) (omega (arith, ints));
      least = λ y f. below_with _ _ y
          (f _ (record { from = (lo +ℤ pos d.0) +ℤ pos 1; lower = omega (arith, ints); upper = omega (arith, ints); gives = ap Some next }))
          (f _ (record { from = lo +ℤ pos d.0; lower = omega (arith, ints); upper = omega (arith, ints); gives = ap Some last }));
    }

wrapped_at : (k : IntType) (lo hi : ℤ) → is_size k.bytes ≡ true → lo ≤ℤ hi → (b : Bool) → int_eq (block_of k lo) (block_of k hi) ≡ b → IsLeastWith (GivesFrom (λ z. Some (wrap_into k z)) lo hi) (cond b (between_or_empty (wrap_into k lo) (wrap_into k hi)) (whole k))
wrapped_at k lo hi h o true e = one_block_best k lo hi o ((Decides-int_eq _ _).0 e)
wrapped_at k lo hi h o false e = whole_best k lo hi h o (λ (p : block_of k lo ≡ block_of k hi). let q : int_eq (block_of k lo) (block_of k hi) ≡ true = (Decides-int_eq _ _).1 p in let r : true ≡ false = sym q ∙ e in cc)

pub wrapped_best : (k : IntType) (lo hi : ℤ) → is_size k.bytes ≡ true → lo ≤ℤ hi → IsLeastWith (GivesFrom (λ z. Some (wrap_into k z)) lo hi) (wrapped k lo hi)
wrapped_best k lo hi h o = wrapped_at k lo hi h o (int_eq (block_of k lo) (block_of k hi)) refl

into_at : (k : IntType) (lo hi : ℤ) → is_size k.bytes ≡ true → lo ≤ℤ hi → (s : Bool) → IsLeastWith (GivesFrom (λ z. cond s (in_or_stop k z) (Some (wrap_into k z))) lo hi) (cond s (clamped k lo hi) (wrapped k lo hi))
into_at k lo hi h o true = clamped_best k lo hi
into_at k lo hi h o false = wrapped_best k lo hi h o

pub into_best : (k : IntType) (lo hi : ℤ) → is_size k.bytes ≡ true → lo ≤ℤ hi → IsLeastWith (GivesFrom (result_of k) lo hi) (into k lo hi)
into_best k lo hi h o = into_at k lo hi h o k.signed

-- ---- the operations

-- some numbers of the two spans give z
pub record GivesOfTwo (give : ℤ → ℤ → Option ℤ) (s t : Span) (z : ℤ) : Type 0 where
  pub left : ℤ
  pub right : ℤ
  pub of_left : Stands (Of s) left
  pub of_right : Stands (Of t) right
  pub gives : give left right ≡ Some z

pub record GivesOf (give : ℤ → Option ℤ) (s : Span) (z : ℤ) : Type 0 where
  pub number : ℤ
  pub of : Stands (Of s) number
  pub gives : give number ≡ Some z

same_least : (P Q : ℤ → Type 0) (x : Interval) → ((z : ℤ) → P z → Q z) → ((z : ℤ) → Q z → P z) → IsLeastWith P x → IsLeastWith Q x
same_least P Q x f g h = record {
  holds = λ z q. h.holds z (g z q);
  least = λ y e. h.least y (λ z p. e z (f z p));
}

pub sums_best : (k : IntType) (s t : Span) → is_size k.bytes ≡ true → IsLeastWith (GivesOfTwo (binary_result Add k) s t) (sums k s t)
sums_best k s t h = same_least _ _ _
    (λ z g.
    let a = s.ordered in
    let b = t.ordered in
    let p = g.lower in
    let q = g.upper in
    let x = int_min s.hi (g.from -ℤ t.lo) in
    let e : (x +ℤ (g.from -ℤ x)) ≡ g.from = omega (arith, ints, clamps) in
    record { left = x; right = g.from -ℤ x; of_left = (omega (arith, ints, clamps), omega (arith, ints, clamps)); of_right = (omega (arith, ints, clamps), omega (arith, ints, clamps)); gives = subst (λ v. result_of k v ≡ Some z) (sym e) g.gives })
    (λ z g. let l = g.of_left in let r = g.of_right in record { from = g.left +ℤ g.right; lower = omega (arith, ints); upper = omega (arith, ints); gives = g.gives })
    (into_best k (s.lo +ℤ t.lo) (s.hi +ℤ t.hi) h (let a = s.ordered in let b = t.ordered in omega (arith, ints)))

pub differences_best : (k : IntType) (s t : Span) → is_size k.bytes ≡ true → IsLeastWith (GivesOfTwo (binary_result Sub k) s t) (differences k s t)
differences_best k s t h = same_least _ _ _
    (λ z g.
    let a = s.ordered in
    let b = t.ordered in
    let p = g.lower in
    let q = g.upper in
    let x = int_min s.hi (g.from +ℤ t.hi) in
    let e : (x -ℤ (x -ℤ g.from)) ≡ g.from = omega (arith, ints, clamps) in
    record { left = x; right = x -ℤ g.from; of_left = (omega (arith, ints, clamps), omega (arith, ints, clamps)); of_right = (omega (arith, ints, clamps), omega (arith, ints, clamps)); gives = subst (λ v. result_of k v ≡ Some z) (sym e) g.gives })
    (λ z g. let l = g.of_left in let r = g.of_right in record { from = g.left -ℤ g.right; lower = omega (arith, ints); upper = omega (arith, ints); gives = g.gives })
    (into_best k (s.lo -ℤ t.hi) (s.hi -ℤ t.lo) h (let a = s.ordered in let b = t.ordered in omega (arith, ints)))

pub negations_best : (k : IntType) (s : Span) → is_size k.bytes ≡ true → IsLeastWith (GivesOf (unary_result Neg k) s) (unary_span Neg k s)
negations_best k s h = same_least _ _ _
    (λ z g. let a = g.lower in let b = g.upper in let e : neg_ℤ (neg_ℤ g.from) ≡ g.from = omega (arith, ints) in record { number = neg_ℤ g.from; of = (omega (arith, ints), omega (arith, ints)); gives = subst (λ v. result_of k v ≡ Some z) (sym e) g.gives })
    (λ z g. let l = g.of in record { from = neg_ℤ g.number; lower = omega (arith, ints); upper = omega (arith, ints); gives = g.gives })
    (into_best k (neg_ℤ s.hi) (neg_ℤ s.lo) h (let a = s.ordered in omega (arith, ints)))

pub conversions_best : (k : IntType) (s : Span) → is_size k.bytes ≡ true → IsLeastWith (GivesOf (λ z. Some (wrap_into k z)) s) (wrapped k s.lo s.hi)
conversions_best k s h = same_least _ _ _
    (λ z g. record { number = g.from; of = (g.lower, g.upper); gives = g.gives })
    (λ z g. let l = g.of in record { from = g.number; lower = l.0; upper = l.1; gives = g.gives })
    (wrapped_best k s.lo s.hi h s.ordered)
