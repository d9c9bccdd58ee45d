-- What the types of pointers exclude.
use Rattle.std.proofs.Common.{◌≡◌, ℕ, suc, ◌+◌, ◌*◌, Bool, true, false, List, Option, Some, None, arith, ap, subst, sym, refl, ◌∙◌}
use Rattle.std.specs.Prelude.{cond, nat_lt}
use Rattle.std.proofs.lemmas.Option.{same_Some}
use Rattle.c_layout.specs.CheckedUnits.{UnitView}
use Rattle.c_layout.specs.Layout.{size_of_type}
use Rattle.c_layout.specs.StructViews.{StructView}
use Rattle.c_layout.specs.Types.{Ty, Int, Pointer, Array}
use Rattle.cfg.specs.declared.machine_instructions.Operation.{Operation}
use Rattle.cfg.specs.declared.machine_instructions.Operation.TheVariants as op
use Rattle.cfg.specs.declared.machine_instructions.Scalar.{Scalar}
use Rattle.cfg.specs.declared.machine_instructions.Scalar.TheVariants as scalar
use Rattle.cfg.specs.declared.programs.Flow.{Flow}
use Rattle.memory_model.specs.Memory.Bytes.{null, into}
use Rattle.typed_lowering.specs.TypeBytes.{ScalarByte, scalar_byte, struct_byte}
use Rattle.typed_lowering.specs.StandingTypes.{Stands}
use Rattle.typed_lowering.specs.PointedTypes.{Target, Element, Place, target_type, Known, Zero, Null, Pointing, IsUnder, is_same, is_inner, is_place, is_further, IsLess, IsIn, Points, IsOfKind, number_kind, pointer_kind}
use Rattle.typed_lowering.specs.TypedStates.{Temporaries}
use Rattle.typed_lowering.specs.TypedPrograms.{structs_of, Gives, IsTypedOperation, gives_address, gives_part, loads, to_pointer, Typing, IsTypedProgram}
use Rattle.typed_lowering.proofs.TypedStates.{set_here}
use Rattle.worked_examples.specs.TypedUnit.DividesByPointed.{int}
use Rattle.worked_examples.specs.TypedUnit.ExcludedPointers.{Misreads}

-- ---- what loads no number

module _ (inner : Ty) (temp : ℕ) where
  -- elements are pointers, and a place is no number
  abbrev IsNoNumber : Target → Type 0
  IsNoNumber (Element t) = t ≡ Pointer inner
  IsNoNumber (Place t) = t ≡ Int int → ⊥

  array_apart : (t : Ty) (n : ℕ) → Array t n ≡ Pointer inner → ⊥
  array_apart t n e = cc

  number_apart : Int int ≡ Pointer inner → ⊥
  number_apart e = cc

  under_still : (a b : Target) → IsUnder a b → IsNoNumber a → IsNoNumber b
  under_still _ _ (is_same target) h = h
  under_still _ _ (is_inner t n) h = absurd (array_apart t n h)
  under_still _ _ (is_place t) h = λ e. number_apart (sym e ∙ h)
  under_still _ _ (is_further a b c one other) h = under_still b c other (under_still a b one h)

  no_number : (target : Target) → IsNoNumber target → target_type target ≡ Int int → ⊥
  no_number (Element t) h e = number_apart (sym e ∙ h)
  no_number (Place t) h e = h e

  abbrev IsKnownNoNumber : Known → Type 0
  IsKnownNoNumber Zero = ⊥
  IsKnownNoNumber Null = ⊥
  IsKnownNoNumber (Pointing target) = IsNoNumber target

  less_still : (old k : Known) → IsLess old k → IsKnownNoNumber old → IsKnownNoNumber k
  less_still Zero k less h = absurd h
  less_still Null k less h = absurd h
  less_still (Pointing a) Zero less h = absurd less
  less_still (Pointing a) Null less h = absurd less
  less_still (Pointing a) (Pointing b) less h = under_still a b less h

  -- all that is known of the temporary
  abbrev IsNoNumberAt : Temporaries → Type 0
  IsNoNumberAt known = (k : Known) → known temp ≡ Some k → IsKnownNoNumber k

  given_still : (before after : Temporaries) (known : Option Known) → ((old : Known) → known ≡ Some old → IsKnownNoNumber old) → Gives temp known before after → IsNoNumberAt after
  given_still before after known h gives k e = let g = gives temp k e in less_still g.0 k g.2 (h g.0 (sym (set_here before temp known temp refl) ∙ g.1))

  -- no number stands where a pointer begins
  pointer_byte : (there : Bool) → cond {A = Option ScalarByte} there (Some (record { ctype = Pointer inner; at = 0 })) None ≡ Some (record { ctype = Int int; at = 0 }) → ⊥
  pointer_byte true e = number_apart (sym (ap (λ (b : ScalarByte). b.ctype) (same_Some _ _ e)))
  pointer_byte false e = cc

  stands_apart : (structs : List StructView) (pointer_size : ℕ) → Stands structs pointer_size (Pointer inner) (Int int) 0 → ⊥
  unfolding scalar_byte
  stands_apart structs pointer_size stands = pointer_byte (nat_lt 0 pointer_size) (stands.scalars 0 (omega arith))

  -- ---- instructions

  module _ (flow : Flow) (objects : ℕ → Ty) (base : ℕ) (object_is : objects base ≡ Pointer inner) (before after : Temporaries) where
    known_same : (target : Target) → IsNoNumber target → (old : Known) → Some (Pointing target) ≡ Some old → IsKnownNoNumber old
    known_same target h old e = subst IsKnownNoNumber (same_Some (Pointing target) old e) h

    addressed : (o : Operation) → IsTypedOperation flow objects before after o → o ≡ op.Address temp base 0 → IsNoNumberAt after
    addressed _ (gives_address to own gives) e =
        let t : to ≡ temp = cc in
        let b : own ≡ base = cc in
        given_still before after (Some (Pointing (Element (objects own)))) (known_same (Element (objects own)) (ap objects b ∙ object_is)) (subst (λ z. Gives z (Some (Pointing (Element (objects own)))) before after) t gives)
    addressed _ (gives_part to own offset t stands gives) e =
        let to_is : to ≡ temp = cc in
        let b : own ≡ base = cc in
        let o : offset ≡ 0 = cc in
        let there : Stands (structs_of flow) flow.model.pointer (Pointer inner) t 0 = subst (λ z. Stands (structs_of flow) flow.model.pointer (Pointer inner) t z) o (subst (λ z. Stands (structs_of flow) flow.model.pointer z t offset) (ap objects b ∙ object_is) stands) in
        given_still before after (Some (Pointing (Place t))) (known_same (Place t) (λ is. stands_apart (structs_of flow) flow.model.pointer (subst (λ z. Stands (structs_of flow) flow.model.pointer (Pointer inner) z 0) is there))) (subst (λ z. Gives z (Some (Pointing (Place t))) before after) to_is gives)
    addressed _ _ e = cc

    cast_still : (o : Operation) → IsTypedOperation flow objects before after o → o ≡ op.Convert temp temp scalar.Pointer scalar.Pointer → IsNoNumberAt before → IsNoNumberAt after
    cast_still _ (to_pointer to from gives) e h =
        let t : to ≡ temp = cc in
        let b : from ≡ temp = cc in
        given_still before after (before from) (λ old is. h old (ap before (sym b) ∙ is)) (subst (λ z. Gives z (before from) before after) t gives)
    cast_still _ _ e h = cc

    kind_is : (t : Ty) (kind : Scalar) (known : Option Known) → IsOfKind t kind known → kind ≡ scalar.Int int → t ≡ Int int
    kind_is _ _ _ (number_kind k some) e = let same : k ≡ int = cc in ap Int same
    kind_is _ _ _ (pointer_kind t) e = cc

    not_loaded : (o : Operation) → IsTypedOperation flow objects before after o → o ≡ op.Load temp temp (scalar.Int int) → IsNoNumberAt before → ⊥
    not_loaded _ (loads to from kind t known points of_kind gives) e h =
        let f : from ≡ temp = cc in
        let k : kind ≡ scalar.Int int = cc in
        no_number points.target (less_still points.known (Pointing points.target) points.less (h points.known (ap before (sym f) ∙ points.has))) (points.is ∙ kind_is t kind known of_kind k)
    not_loaded _ _ e h = cc

pub untyped : (flow : Flow) (u : UnitView) (typing : Typing) (inner : Ty) (base temp block at : ℕ) → Misreads flow base temp block at → typing.objects base ≡ Pointer inner → IsTypedProgram flow u typing → ⊥
untyped flow u typing inner base temp block at reads object_is typed =
    let a = reads.address in
    let c = reads.cast in
    let l = reads.load in
    not_loaded inner temp flow objects base object_is (typing.known block (suc (suc at))) (typing.known block (suc (suc (suc at)))) l.instruction.operation (typed.steps block (suc (suc at)) l.instruction l.there) l.does
    (cast_still inner temp flow objects base object_is (typing.known block (suc at)) (typing.known block (suc (suc at))) c.instruction.operation (typed.steps block (suc at) c.instruction c.there) c.does
    (addressed inner temp flow objects base object_is (typing.known block at) (typing.known block (suc at)) a.instruction.operation (typed.steps block at a.instruction a.there) a.does))
  where
    objects : ℕ → Ty
    objects = typing.objects

-- ---- pointers into a number

from_zero : (x : ℕ) → 0 + x ≡ x
from_zero x = omega arith

itself : (structs : List StructView) (pointer_size : ℕ) → Stands structs pointer_size (Int int) (Int int) 0
itself structs pointer_size = record {
  within = omega arith;
  scalars = λ x less. ap (scalar_byte structs pointer_size (Int int)) (from_zero x);
  structures = λ index x k e. ap (struct_byte structs pointer_size index (Int int)) (from_zero x) ∙ e;
}

pub ends_point : (structs : List StructView) (pointer_size : ℕ) (types : ℕ → Option Ty) → types 0 ≡ Some (Int int) → Points structs pointer_size types (Element (Int int)) (into 0 4 0 4)
ends_point structs pointer_size types is = (
  Int int,
  is,
  record {
    count = 1;
    index = 1;
    end = refl;
    at = refl;
    within = omega arith;
    elements = λ k less. let first : 0 ≡ 0 + k * 4 = omega (arith, less) in subst (Stands structs pointer_size (Int int) (Int int)) first (itself structs pointer_size);
  },
)

pub none_behind : (structs : List StructView) (pointer_size : ℕ) → Stands structs pointer_size (Int int) (Int int) 4 → ⊥
none_behind structs pointer_size stands = let h = stands.within in omega (arith, h)

pub parts_point : (structs : List StructView) (pointer_size : ℕ) (types : ℕ → Option Ty) (target : Target) → target_type target ≡ Int int → types 0 ≡ Some (Int int) → Points structs pointer_size types target (into 0 2 0 4) → ⊥
parts_point structs pointer_size types target is object (outer, outer_is, there) = by_target target is (same_Some outer (Int int) (sym outer_is ∙ object)) there
  where
    between : (index : ℕ) → 2 ≡ 0 + index * 4 → ⊥
    between index e = omega (arith, e)

    too_far : Stands structs pointer_size (Int int) (Int int) 2 → ⊥
    too_far stands = let w = stands.within in omega (arith, w)

    by_target : (target : Target) → target_type target ≡ Int int → outer ≡ Int int → IsIn structs pointer_size target outer 2 0 4 → ⊥
    by_target (Element t) is same h = between h.index (h.at ∙ ap (λ z. 0 + h.index * size_of_type structs pointer_size z) is)
    by_target (Place t) is same h = too_far (subst (λ z. Stands structs pointer_size z (Int int) 2) same (subst (λ z. Stands structs pointer_size outer z 2) is (h (omega arith))))

pub null_points : (structs : List StructView) (pointer_size : ℕ) (types : ℕ → Option Ty) (target : Target) → Points structs pointer_size types target null
null_points structs pointer_size types target = tt
