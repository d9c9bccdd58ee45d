-- The first zero of bytes of which one was set to a number.
use Rattle.std.proofs.Common.{◌≡◌, ℕ, zero, suc, ◌+◌, ◌-◌, ◌^◌, ◌<◌, ◌≤◌, Bool, true, false, Option, Some, None, List, [], ◌∷◌, length, take, drop, arith, subst, sym, refl, ap, ◌∙◌, inl, inr, ◌⊎◌}
use Rattle.std.specs.Prelude.{slice_get, set, ℤ, pos, ◌≤ℤ◌, ◌<ℤ◌, min}
use Rattle.std.specs.Int.{int_min}
use Rattle.std.proofs.lemmas.Int.{ints, clamps}
use Rattle.std.proofs.lemmas.Bool.{cases_eq, cases_lt}
use Rattle.std.proofs.lemmas.List.{length-set}
use Rattle.std.proofs.lemmas.Option.{same_Some}
use Rattle.value_domain.specs.Strings.FirstZeros.{the_end}
use Rattle.memory_model.specs.Memory.Bytes.{Content, Byte}
use Rattle.store_sound.specs.Concretization.FirstZeroBytes.{Seen, unknown, end, character, seen_as, one_more, zero_by, first_zero, zero_offset}
use Rattle.store_sound.proofs.operations.StoreZeros.{zero_small}
use Rattle.domain_theorems.specs.Values.ZeroMeaning.{WroteZero, WroteOther}

-- ---- a zero was written

-- what there was, and what there is behind a zero at q
abbrev IsZeroAt : ℕ → Option ℕ → Option ℕ → Type 0
IsZeroAt q (Some k) new = new ≡ Some (min k q)
IsZeroAt q None new = (new ≡ Some q ⊎ new ≡ None) × (q ≡ 0 → new ≡ Some 0)

more_zero : (q : ℕ) (f g : Option ℕ) → IsZeroAt q f g → IsZeroAt (suc q) (one_more f) (one_more g)
more_zero q (Some k) g h = let e : min (suc k) (suc q) ≡ suc (min k q) = omega arith in ap one_more h ∙ ap Some (sym e)
more_zero q None g h = (elim h.0 [ inl e ↦ inl (ap one_more e) | inr e ↦ inr (ap one_more e) ], λ (e : suc q ≡ 0). absurd (omega arith))

by_zero : (s : Seen) (q : ℕ) (f g : Option ℕ) → IsZeroAt q f g → IsZeroAt (suc q) (zero_by s f) (zero_by s g)
by_zero unknown q f g h = (inr refl, λ (e : suc q ≡ 0). absurd (omega arith))
by_zero end q f g h = let e : min 0 (suc q) ≡ 0 = omega arith in ap Some (sym e)
by_zero character q f g h = more_zero q f g h

start_zero : (s : Seen) (f : Option ℕ) → IsZeroAt 0 (zero_by s f) (Some 0)
start_zero unknown f = (inl refl, λ e. refl)
start_zero end f = refl
start_zero character None = (inl refl, λ e. refl)
start_zero character (Some k) = let e : min (suc k) 0 ≡ 0 = omega arith in ap Some (sym e)

pub zero_set : (bytes : List Byte) (q : ℕ) (b : Byte) → seen_as b.content ≡ end → q < length bytes → IsZeroAt q (first_zero bytes) (first_zero (set bytes q b))
zero_set [] q b e h = absurd (omega arith)
zero_set (x ∷ xs) zero b e h = subst (IsZeroAt 0 (zero_by (seen_as x.content) (first_zero xs))) (sym (ap (λ s. zero_by s (first_zero xs)) e)) (start_zero (seen_as x.content) (first_zero xs))
zero_set (x ∷ xs) (suc q) b e h = by_zero (seen_as x.content) q (first_zero xs) (first_zero (set xs q b)) (zero_set xs q b e (omega arith))

-- ---- another character was written

abbrev IsFrom : ℕ → Option ℕ → Type 0
IsFrom q None = Unit {0}
IsFrom q (Some j) = q ≤ j

pub record IsOtherAt (q : ℕ) (f g : Option ℕ) : Type 0 where
  pub kept : (k : ℕ) → f ≡ Some k → (k ≡ q → ⊥) → g ≡ Some k
  pub gone : (k : ℕ) → f ≡ Some k → k ≡ q → IsFrom q g
  pub shown : f ≡ None → IsFrom (suc q) g

more_from : (q : ℕ) (g : Option ℕ) → IsFrom q g → IsFrom (suc q) (one_more g)
more_from q None h = tt
more_from q (Some j) h = omega arith

more_some : (f : Option ℕ) (k : ℕ) → one_more f ≡ Some k → (j : ℕ) × (f ≡ Some j) × (k ≡ suc j)
more_some None k e = cc
more_some (Some j) k e = (j, refl, cc)

more_none : (f : Option ℕ) → one_more f ≡ None → f ≡ None
more_none None e = refl
more_none (Some j) e = cc

by_other : (s : Seen) (q : ℕ) (f g : Option ℕ) → IsOtherAt q f g → IsOtherAt (suc q) (zero_by s f) (zero_by s g)
by_other unknown q f g h = record { kept = λ k e n. cc; gone = λ k e d. cc; shown = λ e. tt }
by_other end q f g h = record { kept = λ k e n. e; gone = λ k e d. let c : 0 ≡ k = same_Some 0 k e in absurd (omega arith); shown = λ (e : Some 0 ≡ None). cc }
by_other character q f g h = record {
  kept = λ k e n. let r = more_some f k e in let w = r.2 in ap one_more (h.kept r.0 r.1 (λ (d : r.0 ≡ q). n (omega arith))) ∙ ap Some (sym r.2);
  gone = λ k e d. let r = more_some f k e in let w = r.2 in more_from q g (h.gone r.0 r.1 (omega arith));
  shown = λ e. more_from (suc q) g (h.shown (more_none f e));
}

from_one : (g : Option ℕ) → IsFrom 1 (one_more g)
from_one None = tt
from_one (Some j) = omega arith

from_none : (g : Option ℕ) → IsFrom 0 g
from_none None = tt
from_none (Some j) = omega arith

start_other : (s : Seen) (f : Option ℕ) → IsOtherAt 0 (zero_by s f) (one_more f)
start_other unknown f = record { kept = λ k e n. cc; gone = λ k e d. cc; shown = λ e. from_one f }
start_other end f = record { kept = λ k e n. absurd (n (sym (same_Some 0 k e))); gone = λ k e d. from_none (one_more f); shown = λ e. from_one f }
start_other character f = record { kept = λ k e n. e; gone = λ k e d. from_none (one_more f); shown = λ e. from_one f }

pub other_set : (bytes : List Byte) (q : ℕ) (b : Byte) → seen_as b.content ≡ character → q < length bytes → IsOtherAt q (first_zero bytes) (first_zero (set bytes q b))
other_set [] q b e h = absurd (omega arith)
other_set (x ∷ xs) zero b e h = subst (IsOtherAt 0 (zero_by (seen_as x.content) (first_zero xs))) (sym (ap (λ s. zero_by s (first_zero xs)) e)) (start_other (seen_as x.content) (first_zero xs))
other_set (x ∷ xs) (suc q) b e h = by_other (seen_as x.content) q (first_zero xs) (first_zero (set xs q b)) (other_set xs q b e (omega arith))

-- ---- as offsets

zero_offsets : (q : ℕ) (f g : Option ℕ) → ((k : ℕ) → f ≡ Some k → k < 2 ^ 64) → IsZeroAt q f g → WroteZero (zero_offset f) (pos q) (zero_offset g)
zero_offsets q (Some k) g h w = let a = h k refl in record {
  there = λ l. ap zero_offset w ∙ (let e : pos (min k q) ≡ int_min (pos k) (pos q) = omega (arith, ints, clamps) in e);
  none = λ (e : pos k ≡ the_end). absurd (omega (arith, ints));
  start = λ (e : pos k ≡ the_end) d. absurd (omega (arith, ints));
}
zero_offsets q None g h w = record {
  there = λ (l : the_end <ℤ the_end). absurd (omega (arith, ints));
  none = λ e. elim w.0 [ inl d ↦ inl (ap zero_offset d) | inr d ↦ inr (ap zero_offset d) ];
  start = λ e (d : pos q ≡ pos 0). ap zero_offset (w.1 (omega (arith, ints)));
}

from_offset : (q : ℕ) (g : Option ℕ) → q ≤ 2 ^ 64 → IsFrom q g → pos q ≤ℤ zero_offset g
from_offset q None a h = omega (arith, ints)
from_offset q (Some j) a h = omega (arith, ints)

end_offset : (g : Option ℕ) → ((k : ℕ) → g ≡ Some k → k < 2 ^ 64) → zero_offset g ≤ℤ the_end
end_offset None h = omega (arith, ints)
end_offset (Some k) h = let a = h k refl in omega (arith, ints)

other_offsets : (q : ℕ) (f g : Option ℕ) → q < 2 ^ 64 → ((k : ℕ) → f ≡ Some k → k < 2 ^ 64) → ((k : ℕ) → g ≡ Some k → k < 2 ^ 64) → IsOtherAt q f g → WroteOther (zero_offset f) (pos q) (zero_offset g)
other_offsets q (Some k) g a h i w = let b = h k refl in record {
  kept = λ l (n : pos k ≡ pos q → ⊥). ap zero_offset (w.kept k refl (λ (e : k ≡ q). n (ap pos e)));
  gone = λ (e : pos k ≡ pos q). let d : k ≡ q = omega (arith, ints) in let r = from_offset q g (omega arith) (w.gone k refl d) in omega (arith, ints);
  shown = λ (e : pos k ≡ the_end). absurd (omega (arith, ints));
  within = end_offset g i;
}
other_offsets q None g a h i w = record {
  kept = λ (l : the_end <ℤ the_end) n. absurd (omega (arith, ints));
  gone = λ (e : the_end ≡ pos q). absurd (omega (arith, ints));
  shown = λ e. let r = from_offset (suc q) g (omega arith) (w.shown refl) in omega (arith, ints);
  within = end_offset g i;
}

module _ (bytes : List Byte) (q : ℕ) (b : Byte) (inside : q < length bytes) (small : length bytes ≤ 2 ^ 64 - 1) where
  was_small : (k : ℕ) → first_zero bytes ≡ Some k → k < 2 ^ 64
  was_small k e = let a = zero_small bytes k e in omega arith

  is_small : (k : ℕ) → first_zero (set bytes q b) ≡ Some k → k < 2 ^ 64
  is_small k e = let a = zero_small (set bytes q b) k e in let w = length-set bytes q b in omega arith

  pub wrote_zero : seen_as b.content ≡ end → WroteZero (zero_offset (first_zero bytes)) (pos q) (zero_offset (first_zero (set bytes q b)))
  wrote_zero e = zero_offsets q (first_zero bytes) (first_zero (set bytes q b)) was_small (zero_set bytes q b e inside)

  pub wrote_other : seen_as b.content ≡ character → WroteOther (zero_offset (first_zero bytes)) (pos q) (zero_offset (first_zero (set bytes q b)))
  wrote_other e = other_offsets q (first_zero bytes) (first_zero (set bytes q b)) (omega arith) was_small is_small (other_set bytes q b e inside)
