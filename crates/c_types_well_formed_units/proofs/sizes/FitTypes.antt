-- Which types are fit, and how large they are.
use Rattle.std.proofs.Common.{◌≡◌, ◌≤◌, ◌*◌, ◌^◌, ◌⊎◌, inl, inr, ℕ, zero, suc, Bool, true, false, List, [], ◌∷◌, Option, Some, None, slice_get, arith, refl, ap, subst, sym}
use Rattle.std.specs.Prelude.{◌||◌, ◌==◌, cond, not, nat_le, is_some, option_and_then}
use Rattle.std.proofs.lemmas.Bool.{eqb-true, le-leb}
use Rattle.std.proofs.lemmas.Option.{same_Some}
use Rattle.cc_base.specs.IntegerTypes.{is_size}
use Rattle.c_layout.specs.Layout.{size_of_type}
use Rattle.c_layout.specs.Models.{is_model}
use Rattle.c_layout.specs.StructViews.{StructView, struct_at}
use Rattle.c_layout.specs.Types.{Ty, Int, Pointer, Array, Struct, Void, same_type}
use Rattle.c_layout.specs.declared.data_model.Model.{Model}
use Rattle.c_layout.specs.declared.syntax_tree.declarations.Storage.{Storage}
use Rattle.c_types_rules.specs.Rules.TypeSizes.{array_size, sized}
use Rattle.c_types_scopes.specs.Known.{Known, size_of}
use Rattle.c_types_operands.specs.Operands.{is_scalar}
use Rattle.c_types_declarations.specs.Parameters.{is_result}
use Rattle.c_types_statement_rules.specs.Objects.FileObjects.{may_be_object, is_static_storage, common_length, array_composite, composite_with, composite_of, composite}
use Rattle.c_types_statement_rules.specs.Objects.LocalObjects.{may_be_local}
use Rattle.c_types_statement_rules.specs.Objects.UnitObjects.{completed}
use Rattle.c_types_theorems.proofs.stores.Growing.{Extends}
use Rattle.c_types_rules.proofs.SameTypes.{type_is}
use Rattle.c_types_theorems.proofs.units.Kept.{sized_grown}
use Rattle.memory_model.specs.Effects.LibraryChecks.{most_size}
use Rattle.c_types_well_formed.specs.WellFormed.ModelTypes.{IsTypeOf}
use Rattle.c_types_well_formed.proofs.decided_tests.ModelKinds.{kind_size}
use Rattle.c_types_well_formed.proofs.layouts.Inside.{sized_is, sized_small}
use Rattle.c_types_well_formed.proofs.layouts.Laying.{none_is, pointer_is}
use Rattle.c_types_well_formed.proofs.initializers.Declaring.{most_room}
use Rattle.c_types_well_formed_units.specs.Sizes.FitTypes.{HasElements, IsFit}

-- ---- types by more structs

pub elements_grown : (k later : Known) (t : Ty) → Extends k later → HasElements k t → HasElements later t
elements_grown k later (Int kind) g h = tt
elements_grown k later (Pointer t) g h = tt
elements_grown k later (Array t n) g h = sized_grown k later t g h
elements_grown k later (Struct i) g h = tt
elements_grown k later Void g h = tt

pub fit_grown : (k later : Known) (t : Ty) → Extends k later → IsFit k t → IsFit later t
fit_grown k later (Int kind) g h = tt
fit_grown k later (Pointer t) g h = tt
fit_grown k later (Array t n) g h = (sized_grown k later t g h.0, elim h.1 [ inl none ↦ inl none | inr whole ↦ inr (sized_grown k later (Array t n) g whole) ])
fit_grown k later (Struct i) g h = tt
fit_grown k later Void g h = tt

-- ---- types that are fit

element_some : (n : ℕ) (o : Option ℕ) → is_some (option_and_then (array_size n) o) ≡ true → is_some o ≡ true
element_some n None h = h
element_some n (Some size) h = refl

pub complete_fit : (k : Known) (t : Ty) → is_some (size_of k t) ≡ true → IsFit k t
complete_fit k (Int kind) h = tt
complete_fit k (Pointer t) h = tt
complete_fit k (Array t n) h = (element_some n (size_of k t) h, inr h)
complete_fit k (Struct i) h = tt
complete_fit k Void h = tt

array_fit : (k : Known) (t : Ty) (n : ℕ) (x : Bool) → HasElements k (Array t n) → cond (n == 0) x (is_some (size_of k (Array t n))) ≡ true → IsFit k (Array t n)
array_fit k t n x elements h = by (n == 0) refl h
  where
    by : (b : Bool) → (n == 0) ≡ b → cond b x (is_some (size_of k (Array t n))) ≡ true → IsFit k (Array t n)
    by true is g = (elements, inl (eqb-true n 0 is))
    by false is g = (elements, inr g)

-- an object of file scope, and of a block
pub object_fit : (k : Known) (t : Ty) (stored : Option Storage) (has : Bool) → HasElements k t → may_be_object k t stored has ≡ true → IsFit k t
object_fit k (Int kind) stored has elements h = tt
object_fit k (Pointer t) stored has elements h = tt
object_fit k (Array t n) stored has elements h = array_fit k t n (cond has true (not (is_static_storage stored))) elements h
object_fit k (Struct i) stored has elements h = tt
object_fit k Void stored has elements h = tt

pub local_fit : (k : Known) (t : Ty) (has : Bool) → HasElements k t → may_be_local k t has ≡ true → IsFit k t
local_fit k (Int kind) has elements h = tt
local_fit k (Pointer t) has elements h = tt
local_fit k (Array t n) has elements h = array_fit k t n has elements h
local_fit k (Struct i) has elements h = tt
local_fit k Void has elements h = tt

-- a parameter, and a result
pub scalar_fit : (k : Known) (t : Ty) → is_scalar t ≡ true → IsFit k t
scalar_fit k (Int kind) h = tt
scalar_fit k (Pointer t) h = tt
scalar_fit k (Array t n) h = absurd (cc)
scalar_fit k (Struct i) h = tt
scalar_fit k Void h = tt

pub result_fit : (k : Known) (t : Ty) → is_result t ≡ true → IsFit k t
result_fit k (Int kind) h = tt
result_fit k (Pointer t) h = tt
result_fit k (Array t n) h = absurd (cc)
result_fit k (Struct i) h = tt
result_fit k Void h = tt

-- ---- the type of two declarations

one_length : (old new count : ℕ) → common_length old new ≡ Some count → (count ≡ old) ⊎ (count ≡ new)
one_length old new count h = by_same (old == new) h
  where
    by_old : (b : Bool) → cond b (Some new) None ≡ Some count → (count ≡ old) ⊎ (count ≡ new)
    by_old true e = inr (sym (same_Some new count e))
    by_old false e = none_is count e

    by_new : (b : Bool) → cond b (Some old) (cond (old == 0) (Some new) None) ≡ Some count → (count ≡ old) ⊎ (count ≡ new)
    by_new true e = inl (sym (same_Some old count e))
    by_new false e = by_old (old == 0) e

    by_same : (b : Bool) → cond b (Some old) (cond (new == 0) (Some old) (cond (old == 0) (Some new) None)) ≡ Some count → (count ≡ old) ⊎ (count ≡ new)
    by_same true e = inl (sym (same_Some old count e))
    by_same false e = by_new (new == 0) e

module _ (k : Known) where
  of_length : (e t : Ty) (n i : ℕ) (o : Option ℕ) → common_length n i ≡ o → IsFit k (Array e n) → IsFit k (Array e i) → array_composite e o ≡ Some t → IsFit k t
  of_length e t n i None is had fit h = none_is t h
  of_length e t n i (Some count) is had fit h =
      subst (IsFit k) (same_Some (Array e count) t h)
      (elim (one_length n i count is) [ inl old ↦ subst (λ c. IsFit k (Array e c)) (sym old) had | inr new ↦ subst (λ c. IsFit k (Array e c)) (sym new) fit ])

  with_array : (e t new : Ty) (n : ℕ) → IsFit k (Array e n) → IsFit k new → composite_with e n new ≡ Some t → IsFit k t
  with_array e t (Array other i) n had fit h = by (same_type other e) refl h
    where
      by : (b : Bool) → same_type other e ≡ b → cond b (array_composite other (common_length n i)) None ≡ Some t → IsFit k t
      by true same g = of_length other t n i (common_length n i) refl (subst (λ x. IsFit k (Array x n)) (sym (type_is other e same)) had) fit g
      by false same g = none_is t g
  with_array e t (Int kind) n had fit h = none_is t h
  with_array e t (Pointer x) n had fit h = none_is t h
  with_array e t (Struct i) n had fit h = none_is t h
  with_array e t Void n had fit h = none_is t h

  with_parts : (old new t : Ty) → IsFit k old → IsFit k new → composite_of old new ≡ Some t → IsFit k t
  with_parts (Array e n) new t had fit h = with_array e t new n had fit h
  with_parts (Int kind) new t had fit h = none_is t h
  with_parts (Pointer x) new t had fit h = none_is t h
  with_parts (Struct i) new t had fit h = none_is t h
  with_parts Void new t had fit h = none_is t h

  pub composite_fit : (old new t : Ty) → IsFit k old → IsFit k new → composite old new ≡ Some t → IsFit k t
  composite_fit old new t had fit h = by (same_type old new) h
    where
      by : (b : Bool) → cond b (Some new) (composite_of old new) ≡ Some t → IsFit k t
      by true g = subst (IsFit k) (same_Some new t g) fit
      by false g = with_parts old new t had fit g

-- ---- sizes

either_is : (a b : Bool) → (a || b) ≡ true → (a ≡ true) ⊎ (b ≡ true)
either_is true b h = inl refl
either_is false b h = inr h

few_bytes : (n : ℕ) → is_size n ≡ true → n ≤ 8
few_bytes n h = elim (either_is (n == 1) ((n == 2) || ((n == 4) || (n == 8))) h) [
  | inl one ↦ (let e = eqb-true n 1 one in omega (arith, e))
  | inr more ↦ elim (either_is (n == 2) ((n == 4) || (n == 8)) more) [
    | inl two ↦ (let e = eqb-true n 2 two in omega (arith, e))
    | inr rest ↦ elim (either_is (n == 4) (n == 8) rest) [ inl four ↦ (let e = eqb-true n 4 four in omega (arith, e)) | inr eight ↦ (let e = eqb-true n 8 eight in omega (arith, e)) ]
  ]
]

struct_small : (structs : List StructView) (i : ℕ) → ((n : ℕ) (v : StructView) → slice_get structs n ≡ Some v → v.size ≤ 2 ^ 30) → (struct_at structs i).size ≤ 2 ^ 30
struct_small [] i h = omega arith
struct_small (v ∷ structs) zero h = h 0 v refl
struct_small (v ∷ structs) (suc i) h = struct_small structs i (λ n w at. h (suc n) w at)

module _ (m : Model) (structs : List StructView) (model : is_model m ≡ true) (small : (n : ℕ) (v : StructView) → slice_get structs n ≡ Some v → v.size ≤ 2 ^ 30) where
  abbrev ground : Known
  ground = record { numbers = m; structs = structs }

  -- the size of a complete type
  complete_small : (t : Ty) (o : Option ℕ) → sized structs m.pointer t ≡ o → is_some o ≡ true → size_of_type structs m.pointer t ≤ 2 ^ 30
  complete_small t None is h = absurd (cc)
  complete_small t (Some n) is h = subst (λ z. z ≤ 2 ^ 30) (sym (sized_is structs m.pointer t n is)) (sized_small m structs model t n is)

  pub fit_small : (t : Ty) → IsTypeOf m t → IsFit ground t → size_of_type structs m.pointer t ≤ 2 ^ 30
  fit_small (Int kind) typed h = let b = few_bytes kind.bytes (kind_size m model kind typed) in omega (arith, b)
  fit_small (Pointer t) typed h = elim (pointer_is m model) [ inl four ↦ omega (arith, four) | inr eight ↦ omega (arith, eight) ]
  fit_small (Array t n) typed h = elim h.1 [
    | inl none ↦ (let e : n * size_of_type structs m.pointer t ≡ 0 * size_of_type structs m.pointer t = ap (λ c. c * size_of_type structs m.pointer t) none in omega (arith, e))
    | inr whole ↦ complete_small (Array t n) (sized structs m.pointer (Array t n)) refl whole
  ]
  fit_small (Struct i) typed h = struct_small structs i small
  fit_small Void typed h = omega arith

  -- an array without a length gets one element
  pub completed_small : (t : Ty) → IsTypeOf m t → IsFit ground t → size_of_type structs m.pointer (completed t) ≤ 2 ^ 30
  completed_small (Int kind) typed h = fit_small (Int kind) typed h
  completed_small (Pointer t) typed h = fit_small (Pointer t) typed h
  completed_small (Array t n) typed h = by (n == 0)
    where
      by : (b : Bool) → cond b 1 n * size_of_type structs m.pointer t ≤ 2 ^ 30
      by true = let one = complete_small t (sized structs m.pointer t) refl h.0 in omega (arith, one)
      by false = fit_small (Array t n) typed h
  completed_small (Struct i) typed h = fit_small (Struct i) typed h
  completed_small Void typed h = fit_small Void typed h

-- a size that memory may have
pub room_fits : (m : Model) (n : ℕ) → is_model m ≡ true → n ≤ 2 ^ 30 → nat_le n (most_size m) ≡ true
room_fits m n model h = le-leb n (most_size m) (let room = most_room m model in omega (arith, room, h))
