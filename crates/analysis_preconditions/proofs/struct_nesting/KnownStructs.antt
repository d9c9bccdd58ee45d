-- What is known stays known, and a table of known structs is ordered.
use Rattle.std.specs.Prelude.{◌≡◌, ℕ, zero, suc, ◌≤◌, ◌<◌, Bool, true, false, not, ◌&&◌, cond, nat_lt, List, [], ◌∷◌, length, set, sum_by, refl}
use Rattle.std.specs.List.{list_all}
use Rattle.std.proofs.Common.{arith, sym, subst, ap, ◌∙◌, inl, inr, replicate}
use Rattle.std.proofs.lemmas.Bool.{and_parts, cases_lt, ltb-true}
use Rattle.std.proofs.lemmas.List.{length-set, get_or-set_other}
use Rattle.std.proofs.lemmas.List.Sums.{sum_by-cons, sum_by-set}
use Rattle.c_layout.specs.StructViews.{StructView, struct_at}
use Rattle.analysis_preconditions.specs.StructNesting.OrderedStructs.{are_made_of, nests_within, are_ordered}
use Rattle.analysis_preconditions.specs.StructNesting.KnownStructs.{is_known, marked, count_of, AreKnown}
use Rattle.analysis_preconditions.proofs.struct_nesting.Nesting.{all_more, as_deep, below_from}

few_known : (known : List Bool) → sum_by count_of known ≤ length known
few_known [] = omega arith
few_known (k ∷ known) =
    let a = sum_by-cons count_of k known in
    let b = few_known known in
    let c : count_of k ≤ 1 = one k in
    omega (arith, a, b, c)
  where
    one : (k : Bool) → count_of k ≤ 1
    one true = omega arith
    one false = omega arith

is_not : (c : Bool) → not c ≡ true → c ≡ false
is_not true k = sym k
is_not false k = refl

pub marked_known : (structs : List StructView) (known : List Bool) (at : ℕ) → AreKnown structs known → AreKnown structs (marked structs known at)
marked_known structs known at h = by_test (nat_lt at (length known) && (not (is_known known at) && are_made_of (is_known known) (struct_at structs at).fields)) refl
  where
    by_test : (c : Bool) → (nat_lt at (length known) && (not (is_known known at) && are_made_of (is_known known) (struct_at structs at).fields)) ≡ c → AreKnown structs (cond c (set known at true) known)
    by_test false e = h
    by_test true e =
        let p = and_parts (nat_lt at (length known)) (not (is_known known at) && are_made_of (is_known known) (struct_at structs at).fields) e in
        let q = and_parts (not (is_known known at)) (are_made_of (is_known known) (struct_at structs at).fields) p.1 in
        let there = ltb-true at (length known) p.0 in
        let unknown = is_not (is_known known at) q.0 in
        let here : nests_within structs (suc (sum_by count_of known)) at ≡ true = all_more (is_known known) (is_known known) (nests_within structs (sum_by count_of known)) (λ k a b. h.nested k a) (struct_at structs at).fields q.1 q.1 in
        let more : sum_by count_of (set known at true) ≡ suc (sum_by count_of known) =
        let a = sum_by-set count_of known at true false there in
        let b : count_of (is_known known at) ≡ 0 = ap count_of unknown in
        omega (arith, a, b) in
        record {
          long = length-set known at true ∙ h.long;
          nested = λ i k. subst (λ d. nests_within structs d i ≡ true) (sym more) (by_index there here i k);
        }
      where
        other : (there : at < length known) → (i : ℕ) → (i ≡ at → ⊥) → is_known (set known at true) i ≡ true → nests_within structs (suc (sum_by count_of known)) i ≡ true
        other there i apart k = as_deep structs (sum_by count_of known) (suc (sum_by count_of known)) i (h.nested i (sym (get_or-set_other known at i true false apart) ∙ k)) (omega arith)

        by_index : (there : at < length known) → nests_within structs (suc (sum_by count_of known)) at ≡ true → (i : ℕ) → is_known (set known at true) i ≡ true → nests_within structs (suc (sum_by count_of known)) i ≡ true
        by_index there here i k = elim (cases_lt i at) [
          | inl a ↦ other there i (λ e. omega (arith, a, e)) k
          | inr a ↦ elim (cases_lt at i) [
            | inl b ↦ other there i (λ e. omega (arith, b, e)) k
            | inr b ↦ (let e : at ≡ i = omega (arith, a, b) in subst (λ z. nests_within structs (suc (sum_by count_of known)) z ≡ true) e here)
          ]
        ]

none_known : (n i : ℕ) → is_known (replicate n false) i ≡ false
none_known zero i = refl
none_known (suc n) zero = refl
none_known (suc n) (suc i) = none_known n i

long_none : (n : ℕ) → length (replicate n false) ≡ n
long_none zero = refl
long_none (suc n) = ap suc (long_none n)

pub first_known : (structs : List StructView) → AreKnown structs (replicate (length structs) false)
first_known structs = record {
  long = long_none (length structs);
  nested = λ i k. absurd (let e : true ≡ false = sym k ∙ none_known (length structs) i in cc);
}

known_at : (known : List Bool) → list_all (λ k. k) known ≡ true → (i : ℕ) → i < length known → is_known known i ≡ true
known_at [] h i less = absurd (omega (arith, less))
known_at (k ∷ known) h zero less = (and_parts k (list_all (λ k. k) known) h).0
known_at (k ∷ known) h (suc i) less = known_at known (and_parts k (list_all (λ k. k) known) h).1 i (omega (arith, less))

pub known_ordered : (structs : List StructView) (known : List Bool) → AreKnown structs known → list_all (λ k. k) known ≡ true → are_ordered structs ≡ true
known_ordered structs known h all = below_from (nests_within structs (length structs)) (length structs) (λ i less.
    let few = few_known known in
    let long = h.long in
    as_deep structs (sum_by count_of known) (length structs) i (h.nested i (known_at known all i (omega (arith, less, long)))) (omega (arith, few, long)))
