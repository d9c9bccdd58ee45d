-- Marks that hold as memory evolves, and marks of parts of values.
use Rattle.std.proofs.Common.{◌≡◌, ℕ, true, Option, List, [], ◌∷◌, ◌++◌, length, reverse, arith, refl, sym, subst, ap}
use Rattle.std.proofs.lemmas.List.{reverse-append}
use Rattle.c_layout.specs.declared.data_model.Model.{Model}
use Rattle.c_layout.specs.declared.checked_tree.checked_terms.ObjectRef.{ObjectRef}
use Rattle.memory_model.specs.Memory.Bytes.{MachinePointer}
use Rattle.memory_model.specs.Memory.Instances.{Memory}
use Rattle.memory_model.specs.Memory.Scalars.{Scalar, integer, pointer}
use Rattle.source_preservation.specs.ValueTyping.Marks.{Mark, Ranged, Exactly, Pointing, Naming, Null, Loaded, Converted, Tested, is_stable, AreStable, IsWhole, Has, AreWellTyped}
use Rattle.source_preservation.specs.ValueTyping.ProperMemory.{Grows}

module _ (m : Model) (names : ℕ → Option ℕ) where
  -- ---- as memory grows

  module _ (before after : Memory) (grows : Grows before after) where
    whole_grows : (o : ObjectRef) (p : MachinePointer) → IsWhole m names before o p → IsWhole m names after o p
    whole_grows o p whole = let a = whole.there in let b = grows whole.instance in record {
      instance = whole.instance;
      size = whole.size;
      named = whole.named;
      is = whole.is;
      small = whole.small;
      there = omega arith;
    }

    pub has_stable : (mark : Mark) (v : Scalar) → is_stable mark ≡ true → Has m names before mark v → Has m names after mark v
    has_stable (Ranged kind) (integer n labels) stable has = has
    has_stable (Ranged kind) (pointer p) stable has = has
    has_stable (Exactly k) (integer n labels) stable has = has
    has_stable (Exactly k) (pointer p) stable has = has
    has_stable Pointing (integer n labels) stable has = has
    has_stable Pointing (pointer p) stable has = has
    has_stable (Naming o) (integer n labels) stable has = has
    has_stable (Naming o) (pointer p) stable has = whole_grows o p has
    has_stable Null (integer n labels) stable has = has
    has_stable Null (pointer p) stable has = has
    has_stable (Loaded o) v stable has = cc
    has_stable (Converted o kind) v stable has = cc
    has_stable (Tested test) v stable has = cc

    pub are_stable : (marks : List Mark) (vs : List Scalar) → AreStable marks → AreWellTyped m names before marks vs → AreWellTyped m names after marks vs
    are_stable [] [] stable are = are
    are_stable [] (v ∷ vs) stable are = are
    are_stable (k ∷ ks) [] stable are = are
    are_stable (k ∷ ks) (v ∷ vs) stable are = (has_stable k v stable.0 are.0, are_stable ks vs stable.1 are.1)

  -- ---- parts of values

  module _ (memory : Memory) where
    -- values of some marks and then of others
    pub record AreParts (marks others : List Mark) (vs : List Scalar) : Type 0 where
      pub first : List Scalar
      pub rest : List Scalar
      pub is : vs ≡ first ++ rest
      pub are : AreWellTyped m names memory marks first
      pub others_are : AreWellTyped m names memory others rest

    pub parts_are : (marks others : List Mark) (vs : List Scalar) → AreWellTyped m names memory (marks ++ others) vs → AreParts marks others vs
    parts_are [] others vs are = record { first = []; rest = vs; is = refl; are = tt; others_are = are }
    parts_are (k ∷ ks) others [] are = absurd are
    parts_are (k ∷ ks) others (v ∷ vs) are =
        let p : AreParts ks others vs = parts_are ks others vs are.1 in
        record { first = v ∷ p.first; rest = p.rest; is = ap (λ vs. v ∷ vs) p.is; are = (are.0, p.are); others_are = p.others_are }

    both_well_typed : (marks others : List Mark) (vs more : List Scalar) → AreWellTyped m names memory marks vs → AreWellTyped m names memory others more → AreWellTyped m names memory (marks ++ others) (vs ++ more)
    both_well_typed [] others [] more are other = other
    both_well_typed [] others (v ∷ vs) more are other = absurd are
    both_well_typed (k ∷ ks) others [] more are other = absurd are
    both_well_typed (k ∷ ks) others (v ∷ vs) more are other = (are.0, both_well_typed ks others vs more are.1 other)

    pub reversed_well_typed : (marks : List Mark) (vs : List Scalar) → AreWellTyped m names memory marks vs → AreWellTyped m names memory (reverse marks) (reverse vs)
    reversed_well_typed [] [] are = tt
    reversed_well_typed [] (v ∷ vs) are = absurd are
    reversed_well_typed (k ∷ ks) [] are = absurd are
    reversed_well_typed (k ∷ ks) (v ∷ vs) are = subst (λ xs. AreWellTyped m names memory xs (reverse (v ∷ vs))) (sym (reverse-append (k ∷ []) ks)) (subst (λ ys. AreWellTyped m names memory (reverse ks ++ k ∷ []) ys) (sym (reverse-append (v ∷ []) vs)) (both_well_typed (reverse ks) (k ∷ []) (reverse vs) (v ∷ []) (reversed_well_typed ks vs are.1) (are.0, tt)))

    pub as_many : (marks : List Mark) (vs : List Scalar) → AreWellTyped m names memory marks vs → length vs ≡ length marks
    as_many [] [] are = refl
    as_many [] (v ∷ vs) are = absurd are
    as_many (k ∷ ks) [] are = absurd are
    as_many (k ∷ ks) (v ∷ vs) are = let e = as_many ks vs are.1 in omega arith
