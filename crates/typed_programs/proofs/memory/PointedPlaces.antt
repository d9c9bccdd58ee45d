-- Where a pointer to a type points, so many bytes of the type stand there, where the machine may touch them.
use Rattle.std.proofs.Common.{◌≡◌, inl, inr, ℕ, ◌+◌, ◌*◌, ◌<◌, ◌≤◌, true, cond, Option, Some, None, List, sym, ap, ◌∙◌, subst, arith}
use Rattle.std.specs.Prelude.{◌==◌, ◌&&◌, ◌||◌}
use Rattle.std.proofs.lemmas.Bool.{cases_lt, and_parts, or_cases, eqb-true, lt-ltb}
use Rattle.c_layout.specs.Layout.{size_of_type}
use Rattle.c_layout.specs.Models.{is_model, short_fits, int_fits, long_fits, long_long_fits, pointer_fits}
use Rattle.c_layout.specs.StructViews.{StructView}
use Rattle.c_layout.specs.Types.{Ty, Pointer, Void}
use Rattle.c_layout.specs.declared.data_model.Model.{Model}
use Rattle.memory_model.specs.Memory.Bytes.{into}
use Rattle.typed_programs.specs.Types.TypeBytes.{ScalarByte, scalar_byte}
use Rattle.typed_programs.specs.Types.StandingTypes.{Stands}
use Rattle.typed_programs.specs.Types.PointedTypes.{Target, Element, Place, target_type, IsElement, Points}

-- what a pointer points to whose byte it is
abbrev pointed : Ty → Ty
pointed (Pointer t) = t
pointed other = Void

abbrev pointed_of : Option ScalarByte → Ty
pointed_of None = Void
pointed_of (Some b) = pointed b.ctype

-- the type of the instance, in which the target stands
pub record IsAt (structs : List StructView) (pointer_size : ℕ) (types : ℕ → Option Ty) (t : Ty) (i offset : ℕ) : Type 0 where
  pub outer : Ty
  pub is : types i ≡ Some outer
  pub stands : Stands structs pointer_size outer t offset

module _ (structs : List StructView) (pointer_size : ℕ) (types : ℕ → Option Ty) where
  at_element : (outer t : Ty) (offset lo hi size : ℕ) → IsElement structs pointer_size outer t offset lo hi → 0 < size → offset + size ≤ hi → Stands structs pointer_size outer t offset
  at_element outer t offset lo hi size e some within =
      let end = e.end in
      let at = e.at in
      let top = e.within in
      let below : e.index < e.count = elim (cases_lt e.index e.count) [
        | inl less ↦ less
        | inr more ↦ (let same : e.index ≡ e.count = omega arith in let f : e.index * size_of_type structs pointer_size t ≡ e.count * size_of_type structs pointer_size t = ap (λ x. x * size_of_type structs pointer_size t) same in absurd (omega (arith, end, at, f, some, within)))
      ] in
      subst (Stands structs pointer_size outer t) (sym at) (e.elements e.index below)

  -- where some byte of what a pointer points to lies within its bounds
  pub points_at : (target : Target) (i offset lo hi size : ℕ) → Points structs pointer_size types target (into i offset lo hi) → 0 < size → offset + size ≤ hi → IsAt structs pointer_size types (target_type target) i offset
  points_at (Element t) i offset lo hi size points some within = record { outer = points.0; is = points.1; stands = at_element points.0 t offset lo hi size points.2 some within }
  points_at (Place t) i offset lo hi size points some within = record { outer = points.0; is = points.1; stands = points.2 (omega (arith, some, within)) }

  -- where a pointer stands, its first byte is there
  pub pointer_there : (outer t : Ty) (offset : ℕ) → 0 < pointer_size → Stands structs pointer_size outer (Pointer t) offset → scalar_byte structs pointer_size outer offset ≡ Some (record { ctype = Pointer t; at = 0 })
  unfolding scalar_byte
  pointer_there outer t offset some stands =
      let e : offset + 0 ≡ offset = omega arith in
      let first : scalar_byte structs pointer_size (Pointer t) 0 ≡ Some (record { ctype = Pointer t; at = 0 }) = ap (λ b. cond b (Some (record { ctype = Pointer t; at = 0 })) None) (lt-ltb 0 pointer_size some) in
      sym (ap (scalar_byte structs pointer_size outer) e) ∙ (stands.scalars 0 some ∙ first)

  pub same_pointed : (outer t u : Ty) (x : ℕ) → scalar_byte structs pointer_size outer x ≡ Some (record { ctype = Pointer t; at = 0 }) → scalar_byte structs pointer_size outer x ≡ Some (record { ctype = Pointer u; at = 0 }) → t ≡ u
  same_pointed outer t u x one other = ap pointed_of (sym one ∙ other)

-- ---- sizes

pub pointer_wide : (m : Model) → is_model m ≡ true → 0 < m.pointer
pointer_wide m is =
    let a = and_parts (short_fits m.short) (int_fits m.int && (long_fits m.long && (long_long_fits m.long_long && pointer_fits m.int m.long m.long_long m.pointer))) is in
    let b = and_parts (int_fits m.int) (long_fits m.long && (long_long_fits m.long_long && pointer_fits m.int m.long m.long_long m.pointer)) a.1 in
    let c = and_parts (long_fits m.long) (long_long_fits m.long_long && pointer_fits m.int m.long m.long_long m.pointer) b.1 in
    let d = and_parts (long_long_fits m.long_long) (pointer_fits m.int m.long m.long_long m.pointer) c.1 in
    let e = and_parts (m.pointer == 4 || m.pointer == 8) ((m.pointer == m.int || m.pointer == m.long) || m.pointer == m.long_long) d.1 in
    elim (or_cases (m.pointer == 4) (m.pointer == 8) e.0) [
      | inl four ↦ (let f = eqb-true m.pointer 4 four in omega (arith, f))
      | inr eight ↦ (let f = eqb-true m.pointer 8 eight in omega (arith, f))
    ]
