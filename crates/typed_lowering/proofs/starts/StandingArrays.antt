-- An array stands where its elements stand, one behind the other.
use Rattle.std.proofs.Common.{◌≡◌, ℕ, zero, suc, ◌+◌, ◌-◌, ◌*◌, ◌<◌, ◌≤◌, List, inl, inr, Some, arith, ap, sym, ◌∙◌}
use Rattle.std.proofs.lemmas.Bool.{cases_lt}
use Rattle.c_layout.specs.declared.data_model.Model.{Model}
use Rattle.c_layout.specs.Layout.{size_of_type}
use Rattle.c_layout.specs.StructViews.{StructView}
use Rattle.c_layout.specs.Types.{Ty, Array}
use Rattle.typed_programs.specs.Types.TypeBytes.{scalar_byte, struct_byte}
use Rattle.typed_programs.specs.Types.StandingTypes.{AreLaidOut, Stands}
use Rattle.typed_programs.proofs.layouts.StandingTypes.{element_stands}
use Rattle.typed_lowering.proofs.starts.FoundParts.{in_element}

-- the element in which a byte lies
record IsWithin (n size x : ℕ) : Type 0 where
  index : ℕ
  less : index < n
  from : index * size ≤ x
  to : x < index * size + size

within_one : (n size x : ℕ) → x < n * size → IsWithin n size x
within_one zero size x less = absurd (omega (arith, less))
within_one (suc n) size x less = elim (cases_lt x size) [
  | inl first ↦ record { index = 0; less = omega arith; from = omega arith; to = omega (arith, first) }
  | inr further ↦
      (let whole : suc n * size ≡ size + n * size = grind arith in
      let r = within_one n size (x - size) (omega (arith, whole, less, further)) in
      let next : suc r.index * size ≡ size + r.index * size = grind arith in
      let below = r.less in
      let from = r.from in
      let to = r.to in
      record { index = suc r.index; less = omega (arith, below); from = omega (arith, from, next, further); to = omega (arith, to, next, further) })
]

module _ (m : Model) (structs : List StructView) (laid : AreLaidOut m structs) (outer t : Ty) where
  abbrev size : Ty → ℕ
  size = size_of_type structs m.pointer

  abbrev AllStand : ℕ → ℕ → Type 0
  AllStand n x = (i : ℕ) → i < n → Stands structs m.pointer outer t (x + i * size t)

  ends_within : (n x : ℕ) → 0 < n → AllStand n x → x + n * size t ≤ size outer
  ends_within zero x some each = absurd (omega (arith, some))
  ends_within (suc n) x some each =
      let last = (each n (omega arith)).within in
      let whole : suc n * size t ≡ n * size t + size t = grind arith in
      omega (arith, last, whole)

  element_scalars : (n x : ℕ) → AllStand n x → (y : ℕ) → y < n * size t → scalar_byte structs m.pointer outer (x + y) ≡ scalar_byte structs m.pointer (Array t n) y
  element_scalars n x each y less =
      let r = within_one n (size t) y less in
      let from = r.from in
      let to = r.to in
      let z : ℕ = y - r.index * size t in
      let small : z < size t = omega (arith, from, to) in
      let out : x + y ≡ (x + r.index * size t) + z = omega (arith, from) in
      let into : r.index * size t + z ≡ y = omega (arith, from) in
      ap (scalar_byte structs m.pointer outer) out
      ∙ ((each r.index r.less).scalars z small
      ∙ (sym ((element_stands m structs laid t n r.index r.less).scalars z small) ∙ ap (scalar_byte structs m.pointer (Array t n)) into))

  element_structures : (n x : ℕ) → AllStand n x → (index y k : ℕ) → struct_byte structs m.pointer index (Array t n) y ≡ Some k → struct_byte structs m.pointer index outer (x + y) ≡ Some k
  unfolding struct_byte
  element_structures n x each index y k h =
      let r = in_element n (size t) (struct_byte structs m.pointer index t) y k h in
      let from = r.from in
      let out : x + y ≡ (x + r.index * size t) + (y - r.index * size t) = omega (arith, from) in
      ap (struct_byte structs m.pointer index outer) out ∙ (each r.index r.less).structures index (y - r.index * size t) k r.is

  pub array_stands : (n x : ℕ) → 0 < n → AllStand n x → Stands structs m.pointer outer (Array t n) x
  array_stands n x some each = record {
    within = ends_within n x some each;
    scalars = λ y less. element_scalars n x each y less;
    structures = λ index y k h. element_structures n x each index y k h;
  }
