-- A type stands in another one where it begins.
use Rattle.std.proofs.Common.{◌≡◌, ℕ, zero, suc, ◌+◌, ◌*◌, ◌<◌, ◌==◌, Bool, true, false, cond, ◌&&◌, nat_lt, List, Option, Some, None, arith, ap, sym, subst, refl, ◌∙◌}
use Rattle.std.proofs.lemmas.Bool.{and_parts, eqb-true, ltb-true}
use Rattle.std.proofs.lemmas.Option.{none-some, same_Some}
use Rattle.c_layout.specs.CheckedUnits.{UnitView}
use Rattle.c_layout.specs.declared.data_model.Model.{Model}
use Rattle.c_layout.specs.Layout.{size_of_type}
use Rattle.c_layout.specs.StructViews.{StructView, struct_at}
use Rattle.c_layout.specs.Types.{Ty, Int, Pointer, Array, Struct, Void, same_type}
use Rattle.c_types_rules.proofs.SameTypes.{type_is}
use Rattle.typed_programs.specs.Types.TypeBytes.{ScalarByte, own_scalar, scalar_byte, own_struct, struct_byte}
use Rattle.typed_programs.specs.Types.StandingTypes.{AreLaidOut, Stands}
use Rattle.typed_programs.proofs.layouts.StandingTypes.{stands_itself}
use Rattle.typed_lowering.specs.Conversions.TypedObjects.{is_first_of, is_first, all_begin, begins}
use Rattle.typed_lowering.proofs.starts.FoundParts.{found}
use Rattle.typed_lowering.proofs.starts.StandingArrays.{array_stands}

never : {A : Type 0} → false ≡ true → A
never e = absurd (cc)

module _ (m : Model) (structs : List StructView) (laid : AreLaidOut m structs) where
  abbrev size : Ty → ℕ
  size = size_of_type structs m.pointer

  abbrev StandsIn : Ty → Ty → ℕ → Type 0
  StandsIn outer t x = Stands structs m.pointer outer t x

  same_stands : (t s : Ty) (x : ℕ) → t ≡ s → x ≡ 0 → StandsIn t s x
  same_stands t s x is first = subst (λ y. StandsIn t y x) is (subst (λ z. StandsIn t t z) (sym first) (stands_itself structs m.pointer t))

  -- ---- scalars

  abbrev first_byte : Ty → ScalarByte
  first_byte t = record { ctype = t; at = 0 }

  own_bytes : (t s : Ty) (x size : ℕ) → cond (nat_lt x size) (Some (record { ctype = t; at = x })) None ≡ Some (first_byte s) → StandsIn t s x
  own_bytes t s x size = by (nat_lt x size)
    where
      by : (b : Bool) → cond b (Some (record { ctype = t; at = x })) None ≡ Some (first_byte s) → StandsIn t s x
      by true e = let same : record { ctype = t; at = x } ≡ first_byte s = same_Some (record { ctype = t; at = x }) (first_byte s) e in same_stands t s x (ap (λ (b : ScalarByte). b.ctype) same) (ap (λ (b : ScalarByte). b.at) same)
      by false e = absurd (none-some (first_byte s) e)

  scalar_itself : (s t : Ty) (x : ℕ) → own_scalar structs m.pointer t x ≡ Some (first_byte s) → StandsIn t s x
  scalar_itself s (Int k) x e = own_bytes (Int k) s x k.bytes e
  scalar_itself s (Pointer t) x e = own_bytes (Pointer t) s x m.pointer e
  scalar_itself s (Array t n) x e = absurd (none-some (first_byte s) e)
  scalar_itself s (Struct i) x e = absurd (none-some (first_byte s) e)
  scalar_itself s Void x e = absurd (none-some (first_byte s) e)

  pub scalar_stands : (outer s : Ty) (x : ℕ) → scalar_byte structs m.pointer outer x ≡ Some (first_byte s) → StandsIn outer s x
  unfolding scalar_byte
  scalar_stands outer s x e = found m structs laid (own_scalar structs m.pointer) (first_byte s) s (scalar_itself s) outer x e

  scalar_begins : (outer s : Ty) (x : ℕ) → is_first_of s (scalar_byte structs m.pointer outer x) ≡ true → StandsIn outer s x
  scalar_begins outer s x begin = by (scalar_byte structs m.pointer outer x) refl begin
    where
      by : (o : Option ScalarByte) → scalar_byte structs m.pointer outer x ≡ o → is_first_of s o ≡ true → StandsIn outer s x
      by None e begin = never begin
      by (Some b) e begin =
          let p = and_parts (same_type b.ctype s) (b.at == 0) begin in
          let made : ℕ → Ty → ScalarByte = λ k t. record { ctype = t; at = k } in
          let same : b ≡ first_byte s = ap (λ t. made b.at t) (type_is b.ctype s p.0) ∙ ap (λ k. made k s) (eqb-true b.at 0 p.1) in
          scalar_stands outer s x (e ∙ ap Some same)

  -- ---- structures

  struct_itself : (index : ℕ) (t : Ty) (x : ℕ) → own_struct structs m.pointer index t x ≡ Some 0 → StandsIn t (Struct index) x
  struct_itself index (Int k) x e = absurd (none-some 0 e)
  struct_itself index (Pointer t) x e = absurd (none-some 0 e)
  struct_itself index (Array t n) x e = absurd (none-some 0 e)
  struct_itself index (Struct i) x e = by ((i == index) && nat_lt x (struct_at structs i).size) refl e
    where
      by : (b : Bool) → ((i == index) && nat_lt x (struct_at structs i).size) ≡ b → cond b (Some x) None ≡ Some 0 → StandsIn (Struct i) (Struct index) x
      by true is e = same_stands (Struct i) (Struct index) x (ap Struct (eqb-true i index (and_parts (i == index) (nat_lt x (struct_at structs i).size) is).0)) (same_Some x 0 e)
      by false is e = absurd (none-some 0 e)
  struct_itself index Void x e = absurd (none-some 0 e)

  struct_stands : (outer : Ty) (index x : ℕ) → struct_byte structs m.pointer index outer x ≡ Some 0 → StandsIn outer (Struct index) x
  unfolding struct_byte
  struct_stands outer index x e = found m structs laid (own_struct structs m.pointer index) 0 (Struct index) (struct_itself index) outer x e

  struct_begins : (outer : Ty) (index x : ℕ) → is_first (struct_byte structs m.pointer index outer x) ≡ true → StandsIn outer (Struct index) x
  struct_begins outer index x begin = by (struct_byte structs m.pointer index outer x) refl begin
    where
      by : (o : Option ℕ) → struct_byte structs m.pointer index outer x ≡ o → is_first o ≡ true → StandsIn outer (Struct index) x
      by None e begin = never begin
      by (Some k) e begin = struct_stands outer index x (e ∙ ap Some (eqb-true k 0 begin))

-- ---- elements

all_at : (n size : ℕ) (test : ℕ → Bool) (x : ℕ) → all_begin n size test x ≡ true → (i : ℕ) → i < n → test (x + i * size) ≡ true
all_at zero size test x all i less = absurd (omega (arith, less))
all_at (suc n) size test x all zero less = let same : x ≡ x + 0 * size = omega arith in subst (λ z. test z ≡ true) same (and_parts (test x) (all_begin n size test (x + size)) all).0
all_at (suc n) size test x all (suc i) less =
    let next : suc i * size ≡ size + i * size = grind arith in
    let same : (x + size) + i * size ≡ x + suc i * size = omega (arith, next) in
    subst (λ z. test z ≡ true) same (all_at n size test (x + size) (and_parts (test x) (all_begin n size test (x + size)) all).1 i (omega (arith, less)))

module _ (u : UnitView) (laid : AreLaidOut u.model u.structs) where
  pub begun_stands : (outer t : Ty) (x : ℕ) → begins u outer t x ≡ true → Stands u.structs u.model.pointer outer t x
  begun_stands outer (Int k) x begin = scalar_begins u.model u.structs laid outer (Int k) x begin
  begun_stands outer (Pointer t) x begin = scalar_begins u.model u.structs laid outer (Pointer t) x begin
  begun_stands outer (Array t n) x begin =
      let size : ℕ = size_of_type u.structs u.model.pointer t in
      let p = and_parts (nat_lt 0 n) (all_begin n size (begins u outer t) x) begin in
      array_stands u.model u.structs laid outer t n x (ltb-true 0 n p.0) (λ i less. begun_stands outer t (x + i * size) (all_at n size (begins u outer t) x p.1 i less))
  begun_stands outer (Struct i) x begin = struct_begins u.model u.structs laid outer i x begin
  begun_stands outer Void x begin = never begin

  -- so many elements, one behind the other
  pub all_stand : (outer t : Ty) (count x : ℕ) → all_begin count (size_of_type u.structs u.model.pointer t) (begins u outer t) x ≡ true → (k : ℕ) → k < count → Stands u.structs u.model.pointer outer t (x + k * size_of_type u.structs u.model.pointer t)
  all_stand outer t count x all k less = begun_stands outer t (x + k * size_of_type u.structs u.model.pointer t) (all_at count (size_of_type u.structs u.model.pointer t) (begins u outer t) x all k less)
