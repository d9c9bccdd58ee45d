-- Types that compare equal are equal.
use Rattle.std.proofs.Common.{◌≡◌, ℕ, Bool, true, false, refl, ap, ◌∙◌}
use Rattle.std.specs.Prelude.{◌&&◌, ◌==◌, not}
use Rattle.std.proofs.lemmas.Bool.{and_parts, eqb-true}
use Rattle.cc_base.specs.declared.int_types.IntType.{IntType}
use Rattle.c_layout.specs.Types.{Ty, Int, Pointer, Array, Struct, Void, same_kind, same_type}

abbrev same_signs : Bool → Bool → Bool
same_signs true b = b
same_signs false b = not b

sign_is : (a b : Bool) → same_signs a b ≡ true → a ≡ b
sign_is true true h = refl
sign_is true false h = absurd (cc)
sign_is false true h = absurd (cc)
sign_is false false h = refl

pub kind_is : (a b : IntType) → same_kind a b ≡ true → a ≡ b
kind_is a b h =
    let p = and_parts (a.bytes == b.bytes) (same_signs a.signed b.signed && a.rank == b.rank) h in
    let q = and_parts (same_signs a.signed b.signed) (a.rank == b.rank) p.1 in
    let made : ℕ → Bool → ℕ → IntType = λ n s r. record { bytes = n; signed = s; rank = r } in
    ap (λ n. made n a.signed a.rank) (eqb-true a.bytes b.bytes p.0) ∙ (ap (λ s. made b.bytes s a.rank) (sign_is a.signed b.signed q.0) ∙ ap (λ r. made b.bytes b.signed r) (eqb-true a.rank b.rank q.1))

pub type_is : (t u : Ty) → same_type t u ≡ true → t ≡ u
type_is (Int a) (Int b) h = ap Int (kind_is a b h)
type_is (Pointer t) (Pointer u) h = ap Pointer (type_is t u h)
type_is (Array t m) (Array u n) h = let p = and_parts (m == n) (same_type t u) h in ap (λ c. Array t c) (eqb-true m n p.0) ∙ ap (λ e. Array e n) (type_is t u p.1)
type_is (Struct i) (Struct j) h = ap Struct (eqb-true i j h)
type_is Void Void h = refl
type_is (Int a) _ h = absurd (cc)
type_is (Pointer t) _ h = absurd (cc)
type_is (Array t m) _ h = absurd (cc)
type_is (Struct i) _ h = absurd (cc)
type_is Void _ h = absurd (cc)
