-- Where types stand in others: in themselves, in what they stand in, as elements and as members.
use Rattle.std.proofs.Common.{◌≡◌, ℕ, suc, ◌+◌, ◌-◌, ◌*◌, ◌<◌, ◌≤◌, Bool, true, false, cond, ◌&&◌, nat_lt, List, length, Option, Some, None, slice_get, arith, ap, sym, subst, refl, inl, inr, ◌∙◌}
use Rattle.std.specs.Prelude.{◌==◌}
use Rattle.std.specs.Option.{option_or}
use Rattle.std.proofs.lemmas.Bool.{ltb-true, eqb-true, cases_lt, and_parts}
use Rattle.std.proofs.lemmas.Option.{none-some, slice_get_within, get_or_from_slice_get}
use Rattle.c_layout.specs.declared.data_model.Model.{Model}
use Rattle.c_layout.specs.Layout.{size_of_type}
use Rattle.c_layout.specs.StructViews.{FieldView, StructView, no_struct, struct_at}
use Rattle.c_layout.specs.Types.{Ty, Int, Pointer, Array, Struct, Void}
use Rattle.analysis_preconditions.specs.StructNesting.OrderedStructs.{nests_within}
use Rattle.typed_programs.specs.Types.TypeBytes.{ScalarByte, own_scalar, scalar_byte, own_struct, struct_byte}
use Rattle.typed_programs.specs.Types.StandingTypes.{Stands, AreLaidOut}
use Rattle.typed_programs.proofs.layouts.TypeEnds.{EndsAlone, type_ends}
use Rattle.typed_programs.proofs.layouts.NestedStructs.{nests, made_at, least}
use Rattle.typed_programs.proofs.layouts.PartBytes.{of_element, IsPartOf, of_member}
use Rattle.typed_programs.proofs.layouts.AbsentStructs.{other, absent}

-- ---- by what stands there

module _ (structs : List StructView) (pointer_size : ℕ) where
  pub stands_itself : (t : Ty) → Stands structs pointer_size t t 0
  stands_itself t = record {
    within = omega arith;
    scalars = λ x k. let e : 0 + x ≡ x = omega arith in ap (scalar_byte structs pointer_size t) e;
    structures = λ index x k h. let e : 0 + x ≡ x = omega arith in ap (struct_byte structs pointer_size index t) e ∙ h;
  }

  pub stands_through : (a b c : Ty) (x y : ℕ) → Stands structs pointer_size a b x → Stands structs pointer_size b c y → Stands structs pointer_size a c (x + y)
  stands_through a b c x y p q =
      let lo = p.within in
      let hi = q.within in
      record {
        within = omega (arith, lo, hi);
        scalars = λ z k. let e : (x + y) + z ≡ x + (y + z) = omega arith in ap (scalar_byte structs pointer_size a) e ∙ (p.scalars (y + z) (omega (arith, hi, k)) ∙ q.scalars z k);
        structures = λ index z k h. let e : (x + y) + z ≡ x + (y + z) = omega arith in ap (struct_byte structs pointer_size index a) e ∙ p.structures index (y + z) k (q.structures index z k h);
      }

-- ---- where own bytes end

scalars_end : (m : Model) (structs : List StructView) → EndsAlone m structs (own_scalar structs m.pointer)
scalars_end m structs (Int k) x h = by_test (nat_lt x k.bytes) refl
  where
    by_test : (b : Bool) → nat_lt x k.bytes ≡ b → cond {A = Option ScalarByte} b (Some (record { ctype = Int k; at = x })) None ≡ None
    by_test true e = absurd (let l = ltb-true x k.bytes e in omega (arith, l, h))
    by_test false e = refl
scalars_end m structs (Pointer t) x h = by_test (nat_lt x m.pointer) refl
  where
    by_test : (b : Bool) → nat_lt x m.pointer ≡ b → cond {A = Option ScalarByte} b (Some (record { ctype = Pointer t; at = x })) None ≡ None
    by_test true e = absurd (let l = ltb-true x m.pointer e in omega (arith, l, h))
    by_test false e = refl
scalars_end m structs (Array t n) x h = refl
scalars_end m structs (Struct i) x h = refl
scalars_end m structs Void x h = refl

structs_end : (m : Model) (structs : List StructView) (index : ℕ) → EndsAlone m structs (own_struct structs m.pointer index)
structs_end m structs index (Int k) x h = refl
structs_end m structs index (Pointer t) x h = refl
structs_end m structs index (Array t n) x h = refl
structs_end m structs index (Struct i) x h = by_test ((i == index) && nat_lt x (struct_at structs i).size) refl
  where
    by_test : (b : Bool) → ((i == index) && nat_lt x (struct_at structs i).size) ≡ b → cond {A = Option ℕ} b (Some x) None ≡ None
    by_test true e = absurd (let l = ltb-true x (struct_at structs i).size (and_parts (i == index) (nat_lt x (struct_at structs i).size) e).1 in omega (arith, l, h))
    by_test false e = refl
structs_end m structs index Void x h = refl

-- ---- elements and members

elements_within : (i n size : ℕ) → i < n → i * size + size ≤ n * size
elements_within i n size less =
    let e : n ≡ suc i + (n - suc i) = omega (arith, less) in
    let d : (suc i + (n - suc i)) * size ≡ (i * size + size) + (n - suc i) * size = grind arith in
    let c : n * size ≡ (i * size + size) + (n - suc i) * size = ap (λ z. z * size) e ∙ d in
    omega (arith, c)

module _ (m : Model) (structs : List StructView) (laid : AreLaidOut m structs) where
  abbrev size : Ty → ℕ
  size = size_of_type structs m.pointer

  -- a byte of a structure lies within the type
  inside : (index : ℕ) (t : Ty) (x k : ℕ) → struct_byte structs m.pointer index t x ≡ Some k → x < size t
  unfolding struct_byte
  inside index t x k h = elim (cases_lt x (size t)) [
    | inl l ↦ l
    | inr l ↦ absurd (none-some k (sym (type_ends m structs (own_struct structs m.pointer index) (structs_end m structs index) laid.apart t x l) ∙ h))
  ]

  pub element_stands : (t : Ty) (n i : ℕ) → i < n → Stands structs m.pointer (Array t n) t (i * size t)
  unfolding scalar_byte struct_byte
  element_stands t n i less = record {
    within = elements_within i n (size t) less;
    scalars = λ x k. of_element m structs laid (own_scalar structs m.pointer) (scalars_end m structs) t n i x less k;
    structures = λ index x k h. of_element m structs laid (own_struct structs m.pointer index) (structs_end m structs index) t n i x less (inside index t x k h) ∙ h;
  }

  module _ (i : ℕ) (s : StructView) (there : slice_get structs i ≡ Some s) (n : ℕ) (f : FieldView) (among : slice_get s.fields n ≡ Some f) where
    -- a structure is in none of its members
    not_in_member : (index x : ℕ) → (i == index) ≡ true → struct_byte structs m.pointer index f.ctype x ≡ None
    unfolding struct_byte
    not_in_member index x e =
        let own = least structs (length structs) i (nests structs i laid.ordered (slice_get_within structs i s there)) in
        let found : slice_get (struct_at structs i).fields n ≡ Some f = ap (λ (z : StructView). slice_get z.fields n) (get_or_from_slice_get structs i s no_struct there) ∙ among in
        let made = made_at (nests_within structs own.depth) (struct_at structs i).fields own.members n f found in
        absent structs m.pointer index (length structs) own.depth f.ctype (subst (λ z. nests_within structs own.depth z ≡ false) (eqb-true i index e) own.less) made x

    structures_stand : (index x k : ℕ) → struct_byte structs m.pointer index f.ctype x ≡ Some k → struct_byte structs m.pointer index (Struct i) (f.offset + x) ≡ Some k
    unfolding struct_byte
    structures_stand index x k h = part.same x (inside index f.ctype x k h) ∙ by_test (i == index) refl
      where
        part : IsPartOf m structs laid (own_struct structs m.pointer index) (structs_end m structs index) i f
        part = of_member m structs laid (own_struct structs m.pointer index) (structs_end m structs index) i s there n f among

        by_test : (b : Bool) → (i == index) ≡ b → option_or (own_struct structs m.pointer index (Struct i) (f.offset + x)) (struct_byte structs m.pointer index f.ctype x) ≡ Some k
        by_test true e = absurd (none-some k (sym (not_in_member index x e) ∙ h))
        by_test false e = ap (λ o. option_or o (struct_byte structs m.pointer index f.ctype x)) (other structs m.pointer index i (f.offset + x) e) ∙ h

    pub member_stands : Stands structs m.pointer (Struct i) f.ctype f.offset
    unfolding scalar_byte
    member_stands = record {
      within = part.to;
      scalars = λ x k. part.same x k;
      structures = structures_stand;
    }
      where
        part : IsPartOf m structs laid (own_scalar structs m.pointer) (scalars_end m structs) i f
        part = of_member m structs laid (own_scalar structs m.pointer) (scalars_end m structs) i s there n f among
