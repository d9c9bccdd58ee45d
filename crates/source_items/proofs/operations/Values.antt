-- Values of kinds that are known.
use Rattle.std.proofs.Common.{ℤ, List, [], ◌∷◌, ◌++◌, length, take, drop, reverse, sym, subst}
use Rattle.std.proofs.lemmas.List.{reverse-append}
use Rattle.memory_model.specs.Memory.Bytes.{MachinePointer}
use Rattle.memory_model.specs.Memory.Labels.{Labels}
use Rattle.memory_model.specs.Memory.Scalars.{Scalar, integer, pointer}
use Rattle.source_items.specs.Operations.Kinds.{Kind, Number, Address, AreOf}

-- it holds of all lists of values of such kinds
abbrev pub Each : List Kind → (List Scalar → Type 0) → Type 0
Each [] P = P []
Each (Number ∷ ks) P = (n : ℤ) (labels : Labels) → Each ks (λ vs. P (integer n labels ∷ vs))
Each (Address ∷ ks) P = (p : MachinePointer) → Each ks (λ vs. P (pointer p ∷ vs))

pub each_such : (ks : List Kind) (P : List Scalar → Type 0) (vs : List Scalar) → AreOf ks vs → Each ks P → P vs
each_such [] P [] are each = each
each_such [] P (v ∷ vs) are each = absurd are
each_such (k ∷ ks) P [] are each = absurd are
each_such (Number ∷ ks) P (integer n labels ∷ vs) are each = each_such ks (λ vs. P (integer n labels ∷ vs)) vs are.1 (each n labels)
each_such (Number ∷ ks) P (pointer p ∷ vs) are each = absurd are.0
each_such (Address ∷ ks) P (integer n labels ∷ vs) are each = absurd are.0
each_such (Address ∷ ks) P (pointer p ∷ vs) are each = each_such ks (λ vs. P (pointer p ∷ vs)) vs are.1 (each p)

-- ---- parts of lists of values

pub are_first : (ks rest : List Kind) (vs : List Scalar) → AreOf (ks ++ rest) vs → AreOf ks (take (length ks) vs)
are_first [] rest vs are = tt
are_first (k ∷ ks) rest [] are = absurd are
are_first (k ∷ ks) rest (v ∷ vs) are = (are.0, are_first ks rest vs are.1)

pub are_behind : (ks rest : List Kind) (vs : List Scalar) → AreOf (ks ++ rest) vs → AreOf rest (drop (length ks) vs)
are_behind [] rest vs are = are
are_behind (k ∷ ks) rest [] are = absurd are
are_behind (k ∷ ks) rest (v ∷ vs) are = are_behind ks rest vs are.1

both_are : (ks others : List Kind) (vs more : List Scalar) → AreOf ks vs → AreOf others more → AreOf (ks ++ others) (vs ++ more)
both_are [] others [] more are other = other
both_are [] others (v ∷ vs) more are other = absurd are
both_are (k ∷ ks) others [] more are other = absurd are
both_are (k ∷ ks) others (v ∷ vs) more are other = (are.0, both_are ks others vs more are.1 other)

pub are_reversed : (ks : List Kind) (vs : List Scalar) → AreOf ks vs → AreOf (reverse ks) (reverse vs)
are_reversed [] [] are = tt
are_reversed [] (v ∷ vs) are = absurd are
are_reversed (k ∷ ks) [] are = absurd are
are_reversed (k ∷ ks) (v ∷ vs) are = subst (λ xs. AreOf xs (reverse (v ∷ vs))) (sym (reverse-append (k ∷ []) ks)) (subst (λ ys. AreOf (reverse ks ++ k ∷ []) ys) (sym (reverse-append (v ∷ []) vs)) (both_are (reverse ks) (k ∷ []) (reverse vs) (v ∷ []) (are_reversed ks vs are.1) (are.0, tt)))
