-- Labels spread, and the labels of a result are among those of the value that stands for it.
use Rattle.std.specs.Prelude.{◌≡◌, ℤ, Bool, true, false, not, ◌&&◌, ◌||◌, Some, refl}
use Rattle.std.proofs.lemmas.Bool.{and_from, not_from_false}
use lib.Signed.{≤ℤ_refl}
use Rattle.cc_base.specs.Lattices.{LatticeOf}
use Rattle.cc_base.specs.IntegerDomains.{IntegersOf, BoundLaws}
use Rattle.cc_base.specs.IntegerTypes.{in_type}
use Rattle.cc_base.specs.declared.int_types.IntType.{IntType}
use Rattle.cc_base.specs.declared.integer_operators.IntOp.{IntOp}
use Rattle.cc_base.specs.declared.integer_operators.IntOp.TheVariants.{Add, Sub, Mul, Div, Rem, And, Or, Xor, Shl, Shr}
use Rattle.value_domain.specs.declared.values.label_sets.Labels.{Labels}
use Rattle.value_domain.specs.Values.LabelSets.{is_unlabelled, is_bounded_by, carries_change, can_wrap}
use Rattle.value_domain.specs.Values.ValueTables.{corners_leave, ranges_leave, negated_leave, range_fits}
use Rattle.domain_theorems.specs.Values.LabelMeaning.{LabelSpread, LabelMeaning}
use Rattle.domain_theorems.proofs.values.Flags.{or_left, or_right}
use Rattle.domain_theorems.proofs.values.Leaving.{leave_more, negated_more, fits_less}
use Rattle.domain_theorems.proofs.values.LabelRules.{operated_monotone, negated_monotone, converted_monotone}
use Rattle.domain_theorems.proofs.values.ValueStands.{single}

-- ---- how they spread

open_left : (a b c d : Bool) → (a || b) ≡ true → not (not (a || (b || (c || d)))) ≡ true
open_left true b c d h = refl
open_left false true c d h = refl
open_left false false c d h = cc

open_right : (a b c d : Bool) → (c || d) ≡ true → not (not (a || (b || (c || d)))) ≡ true
open_right true b c d h = refl
open_right false true c d h = refl
open_right false false true d h = refl
open_right false false false true h = refl
open_right false false false false h = cc

unbounded_in : (k : IntType) (b : Bool) → b ≡ true → k.signed ≡ true → (k.signed && b) ≡ true
unbounded_in k b h e = and_from k.signed b e h

changed_at : (a b c : Bool) → a ≡ true → b ≡ true → c ≡ true → (a && (b && c)) ≡ true
changed_at a b c h j k = and_from a (b && c) h (and_from b c j k)

carries : (op : IntOp) (s t : Labels) → (s.mutated || t.mutated) ≡ true → is_unlabelled s ≡ false → is_unlabelled t ≡ false → carries_change op s t ≡ true
carries Rem s t h e f = and_from (s.mutated || t.mutated) (not (is_unlabelled t)) h (not_from_false (is_unlabelled t) f)
carries And s t h e f = changed_at (s.mutated || t.mutated) (not (is_unlabelled s)) (not (is_unlabelled t)) h (not_from_false (is_unlabelled s) e) (not_from_false (is_unlabelled t) f)
carries Add s t h e f = h
carries Sub s t h e f = h
carries Mul s t h e f = h
carries Div s t h e f = h
carries Or s t h e f = h
carries Xor s t h e f = h
carries Shl s t h e f = h
carries Shr s t h e f = h

carries_by : (op : IntOp) (s t : Labels) → (s.mutated || t.mutated) ≡ true → (op ≡ Rem → ⊥) → (op ≡ And → ⊥) → carries_change op s t ≡ true
carries_by Rem s t h e f = absurd (e refl)
carries_by And s t h e f = absurd (f refl)
carries_by Add s t h e f = h
carries_by Sub s t h e f = h
carries_by Mul s t h e f = h
carries_by Div s t h e f = h
carries_by Or s t h e f = h
carries_by Xor s t h e f = h
carries_by Shl s t h e f = h
carries_by Shr s t h e f = h

spread : LabelSpread
spread = record {
  left = λ op s t k leaves h. let e = open_left s.lo s.hi t.lo t.hi h in (unbounded_in k (not (is_bounded_by s t)) e, e);
  right = λ op s t k leaves h. let e = open_right s.lo s.hi t.lo t.hi h in (unbounded_in k (not (is_bounded_by s t)) e, e);
  one = λ op s k leaves h. (unbounded_in k (s.lo || s.hi) h, h);
  low = λ s k fits h e. and_from k.signed s.lo e h;
  turned = λ s k fits h e. or_right s.hi (not k.signed && s.lo) (and_from (not k.signed) s.lo (not_from_false k.signed e) h);
  high = λ s k fits h. or_left s.hi (not k.signed && s.lo) h;
  changed = λ op s t k leaves h e f. or_left (carries_change op s t) (can_wrap op && (not k.signed && leaves)) (carries op s t h e f);
  changed_by = λ op s t k leaves h e f. or_left (carries_change op s t) (can_wrap op && (not k.signed && leaves)) (carries_by op s t h e f);
  wrapped = λ op s t k w e. or_right (carries_change op s t) (can_wrap op && (not k.signed && true)) (changed_at (can_wrap op) (not k.signed) true w (not_from_false k.signed e) refl);
  unfit = λ s k. or_right s.mutated true refl;
}

-- ---- of values

both_same : (a : Bool) → (a && a) ≡ true → a ≡ true
both_same true h = refl
both_same false h = cc

module _ {I : Type 0} {l : LatticeOf I} {n : IntegersOf I} {stands : I → ℤ → Type 0} (b : BoundLaws l n stands) where
  pub label_meaning : LabelMeaning l n stands
  label_meaning = record {
    spread = spread;
    arith = λ op k x y s t a c h j i e. operated_monotone op s t x.labels y.labels k (corners_leave op k (a, a) (c, c)) (ranges_leave op k (n.bounds x.num) (n.bounds y.num)) i e
        (leave_more op k (Some (a, a)) (Some (c, c)) (n.bounds x.num) (n.bounds y.num) (≤ℤ_refl a) (≤ℤ_refl c) (single b x.num a h) (single b y.num c j));
    unary = λ op k x s a h i. negated_monotone op s x.labels k (negated_leave op k (Some (a, a))) (negated_leave op k (n.bounds x.num)) i
        (negated_more op k (Some (a, a)) (n.bounds x.num) (≤ℤ_refl a) (single b x.num a h));
    convert = λ k x s a h i. converted_monotone s x.labels k (in_type k a) (range_fits k (n.bounds x.num)) i
        (λ e. both_same (in_type k a) (fits_less k (Some (a, a)) (n.bounds x.num) (≤ℤ_refl a) (single b x.num a h) e));
  }
