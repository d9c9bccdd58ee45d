-- What is known of a value: less may be known of it, and more objects may have types.
use Rattle.std.proofs.Common.{◌≡◌, ℕ, ◌+◌, ◌-◌, ◌*◌, ◌/◌, ◌%◌, ◌<◌, ◌≤◌, Option, Some, List, arith, subst, sym, refl, ap, ◌∙◌, inl, inr}
use Rattle.std.proofs.lemmas.Bool.{cases_lt}
use Rattle.c_layout.specs.Layout.{size_of_type}
use Rattle.c_layout.specs.StructViews.{StructView}
use Rattle.c_layout.specs.Types.{Ty, Array}
use Rattle.c_layout.specs.declared.data_model.Model.{Model}
use Rattle.memory_model.specs.Memory.Bytes.{MachinePointer, null, into}
use Rattle.memory_model.specs.Memory.Scalars.{Scalar, integer, pointer}
use Rattle.typed_programs.specs.Types.StandingTypes.{AreLaidOut, Stands}
use Rattle.typed_programs.specs.Types.PointedTypes.{Target, Known, Zero, Null, Pointing, IsElement, IsIn, Points, Has, IsUnder, is_same, is_inner, is_place, is_further, IsLess}
use Rattle.typed_programs.proofs.runs.TypeLaws.{TypeLaws}

abbrev pub Types : Type 0
Types = ℕ → Option Ty

-- what has a type keeps it
abbrev pub HaveMore : Types → Types → Type 0
HaveMore types more = (i : ℕ) (t : Ty) → types i ≡ Some t → more i ≡ Some t

-- ---- numbers

-- an element of an element
number_of : (k n : ℕ) → 0 < n → k ≡ (k / n) * n + k % n
number_of k n some = omega arith

below_count : (k n count : ℕ) → 0 < n → k < count * n → k / n < count
below_count k n count some less = elim (cases_lt (k / n) count) [
  | inl below ↦ below
  | inr above ↦
      (let rest : ℕ = k / n - count in
      let parts : k / n ≡ count + rest = omega (arith, above) in
      let wide : (k / n) * n ≡ count * n + rest * n = ap (λ z. z * n) parts ∙ grind arith in
      let whole = number_of k n some in
      absurd (omega (arith, wide, whole, less)))
]

part_below : (k n : ℕ) → 0 < n → k % n < n
part_below k n some = omega arith

scaled : (a b n : ℕ) → a ≤ b → a * n ≤ b * n
scaled a b n less =
    let parts : b ≡ a + (b - a) = omega (arith, less) in
    let wide : b * n ≡ a * n + (b - a) * n = ap (λ z. z * n) parts ∙ grind arith in
    omega (arith, wide)

some_elements : (count n k : ℕ) → k < count * n → 0 < n
some_elements count n k less = elim (cases_lt 0 n) [
  | inl some ↦ some
  | inr none ↦ (let e : n ≡ 0 = omega (arith, none) in let f : count * n ≡ count * 0 = ap (λ z. count * z) e in absurd (omega (arith, f, less)))
]

-- ---- targets

module _ (laws : TypeLaws) (m : Model) (structs : List StructView) (laid : AreLaidOut m structs) where
  abbrev size : Ty → ℕ
  size = size_of_type structs m.pointer

  inner_element : (t : Ty) (n : ℕ) (outer : Ty) (offset lo hi : ℕ) → IsElement structs m.pointer outer (Array t n) offset lo hi → IsElement structs m.pointer outer t offset lo hi
  inner_element t n outer offset lo hi h =
      let end = h.end in
      let at = h.at in
      let within = h.within in
      record {
        count = h.count * n;
        index = h.index * n;
        end = end ∙ regrouped h.count;
        at = at ∙ regrouped h.index;
        within = scaled h.index h.count n within;
        elements = λ k less. inner_stands k (some_elements h.count n k less) less;
      }
    where
      regrouped : (a : ℕ) → lo + a * (n * size t) ≡ lo + a * n * size t
      regrouped a = grind arith

      inner_stands : (k : ℕ) → 0 < n → k < h.count * n → Stands structs m.pointer outer t (lo + k * size t)
      inner_stands k some less =
          let e : k * size t ≡ (k / n) * (n * size t) + (k % n) * size t = ap (λ z. z * size t) (number_of k n some) ∙ grind arith in
          let there : (lo + (k / n) * (n * size t)) + (k % n) * size t ≡ lo + k * size t = omega (arith, e) in
          subst (Stands structs m.pointer outer t) there (laws.transitive structs m.pointer outer (Array t n) t (lo + (k / n) * (n * size t)) ((k % n) * size t) (h.elements (k / n) (below_count k n h.count some less)) (laws.elements m structs laid t n (k % n) (part_below k n some)))

  placed_element : (t outer : Ty) (offset lo hi : ℕ) → IsElement structs m.pointer outer t offset lo hi → offset < hi → Stands structs m.pointer outer t offset
  placed_element t outer offset lo hi h less =
      let end = h.end in
      let at = h.at in
      let top = h.within in
      let below : h.index < h.count = elim (cases_lt h.index h.count) [
        | inl l ↦ l
        | inr l ↦ (let same : h.index ≡ h.count = omega (arith, l, top) in let e : h.index * size t ≡ h.count * size t = ap (λ z. z * size t) same in absurd (omega (arith, end, at, e, less)))
      ] in
      subst (Stands structs m.pointer outer t) (sym at) (h.elements h.index below)

  under_in : (a b : Target) → IsUnder a b → (outer : Ty) (offset lo hi : ℕ) → IsIn structs m.pointer a outer offset lo hi → IsIn structs m.pointer b outer offset lo hi
  under_in _ _ (is_same target) outer offset lo hi h = h
  under_in _ _ (is_inner t n) outer offset lo hi h = inner_element t n outer offset lo hi h
  under_in _ _ (is_place t) outer offset lo hi h = placed_element t outer offset lo hi h
  under_in _ _ (is_further a b c one other) outer offset lo hi h = under_in b c other outer offset lo hi (under_in a b one outer offset lo hi h)

  module _ (types : Types) where
    under_points : (a b : Target) → IsUnder a b → (p : MachinePointer) → Points structs m.pointer types a p → Points structs m.pointer types b p
    under_points a b under null h = tt
    under_points a b under (into i offset lo hi) h = (h.0, h.1, under_in a b under h.0 offset lo hi h.2)

    null_points : (target : Target) (p : MachinePointer) → p ≡ null → Points structs m.pointer types target p
    null_points target p is = subst (Points structs m.pointer types target) (sym is) tt

    pub less_has : (a b : Known) → IsLess a b → (v : Scalar) → Has structs m.pointer types a v → Has structs m.pointer types b v
    less_has Zero Zero less v h = h
    less_has Null Null less v h = h
    less_has Null (Pointing target) less (integer n labels) h = h
    less_has Null (Pointing target) less (pointer p) h = null_points target p h
    less_has (Pointing a) (Pointing b) less (integer n labels) h = h
    less_has (Pointing a) (Pointing b) less (pointer p) h = under_points a b less p h
    less_has _ _ less v h = absurd less

    -- a value that points to a type is a pointer
    pub record IsPointing (target : Target) (v : Scalar) : Type 0 where
      pub p : MachinePointer
      pub is : v ≡ pointer p
      pub points : Points structs m.pointer types target p

    pub pointing : (known : Known) (target : Target) → IsLess known (Pointing target) → (v : Scalar) → Has structs m.pointer types known v → IsPointing target v
    pointing known target less v h = by_value v (less_has known (Pointing target) less v h)
      where
        by_value : (v : Scalar) → Has structs m.pointer types (Pointing target) v → IsPointing target v
        by_value (integer n labels) h = absurd h
        by_value (pointer p) h = record { p = p; is = refl; points = h }

-- ---- more types

module _ (structs : List StructView) (pointer_size : ℕ) (types more : Types) (all : HaveMore types more) where
  more_points : (target : Target) (p : MachinePointer) → Points structs pointer_size types target p → Points structs pointer_size more target p
  more_points target null h = tt
  more_points target (into i offset lo hi) h = (h.0, all i h.0 h.1, h.2)

  pub more_has : (k : Known) (v : Scalar) → Has structs pointer_size types k v → Has structs pointer_size more k v
  more_has Zero (integer n labels) h = h
  more_has Zero (pointer p) h = h
  more_has Null (integer n labels) h = h
  more_has Null (pointer p) h = h
  more_has (Pointing target) (integer n labels) h = h
  more_has (Pointing target) (pointer p) h = more_points target p h
