-- Structures in structures that stand in no circle.
use Rattle.std.proofs.Common.{◌≡◌, ℕ, zero, suc, ◌<◌, Bool, true, false, List, [], ◌∷◌, length, Some, slice_get, arith, subst, refl, inl, inr}
use Rattle.std.proofs.lemmas.Bool.{and_parts, cases_lt}
use Rattle.std.proofs.lemmas.Option.{same_Some}
use Rattle.c_layout.specs.StructViews.{FieldView, StructView, struct_at}
use Rattle.analysis_preconditions.specs.StructNesting.OrderedStructs.{is_made_of, are_made_of, nests_within, are_below, are_ordered}

below_at : (passes : ℕ → Bool) (count i : ℕ) → are_below passes count ≡ true → i < count → passes i ≡ true
below_at passes zero i h less = absurd (omega (arith, less))
below_at passes (suc count) i h less =
    let a = and_parts (passes count) (are_below passes count) h in
    elim (cases_lt i count) [
      | inl k ↦ below_at passes count i a.1 k
      | inr k ↦ (let e : count ≡ i = omega (arith, k, less) in subst (λ z. passes z ≡ true) e a.0)
    ]

pub nests : (structs : List StructView) (i : ℕ) → are_ordered structs ≡ true → i < length structs → nests_within structs (length structs) i ≡ true
nests structs i ordered less = below_at (nests_within structs (length structs)) (length structs) i ordered less

pub made_at : (passes : ℕ → Bool) (fs : List FieldView) → are_made_of passes fs ≡ true → (n : ℕ) (f : FieldView) → slice_get fs n ≡ Some f → is_made_of passes f.ctype ≡ true
made_at passes [] h n f e = cc
made_at passes (g ∷ fs) h zero f e = subst (λ (z : FieldView). is_made_of passes z.ctype ≡ true) (same_Some g f e) (and_parts (is_made_of passes g.ctype) (are_made_of passes fs) h).0
made_at passes (g ∷ fs) h (suc n) f e = made_at passes fs (and_parts (is_made_of passes g.ctype) (are_made_of passes fs) h).1 n f e

-- how deep a structure nests, and no less
pub record NestsAt (structs : List StructView) (i : ℕ) : Type 0 where
  pub depth : ℕ
  pub members : are_made_of (nests_within structs depth) (struct_at structs i).fields ≡ true
  pub less : nests_within structs depth i ≡ false

pub least : (structs : List StructView) (depth i : ℕ) → nests_within structs depth i ≡ true → NestsAt structs i
least structs zero i h = absurd (cc)
least structs (suc depth) i h = by_test (nests_within structs depth i) refl (least structs depth i)
  where
    by_test : (b : Bool) → nests_within structs depth i ≡ b → (nests_within structs depth i ≡ true → NestsAt structs i) → NestsAt structs i
    by_test true e inner = inner e
    by_test false e inner = record { depth = depth; members = h; less = e }
