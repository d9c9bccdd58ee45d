-- In a typed state each access of a typed program is of the type of what lies there.
use Rattle.std.proofs.Common.{◌≡◌, ℕ, ◌+◌, ◌<◌, ◌≤◌, Bool, true, false, cond, Option, Some, None, List, arith, subst, sym, refl, ap, ◌∙◌}
use Rattle.std.specs.Prelude.{slice_get, ◌==◌}
use Rattle.std.proofs.lemmas.Bool.{lt-ltb}
use Rattle.std.proofs.lemmas.Option.{same_Some, slice_get_within, get_or_from_slice_get}
use Rattle.c_layout.specs.Layout.{size_of_type}
use Rattle.c_layout.specs.StructViews.{StructView, no_struct}
use Rattle.c_layout.specs.Types.{Ty, Int, Pointer, Struct}
use Rattle.c_layout.specs.declared.data_model.Model.{Model}
use Rattle.c_layout.specs.declared.leaf_lists.Class.{Class}
use Rattle.c_layout.specs.declared.leaf_lists.Class.TheVariants as class
use Rattle.c_layout.specs.declared.shapes.BaseInfo.{BaseInfo}
use Rattle.cfg.specs.declared.machine_instructions.Operation.{Operation}
use Rattle.cfg.specs.declared.machine_instructions.Scalar as declared
use Rattle.cfg.specs.declared.programs.Flow.{Flow}
use Rattle.lower_templates.specs.Worklist.TermKinds.{scalar_of}
use Rattle.memory_model.specs.Memory.Bytes.{MachinePointer, null, into}
use Rattle.memory_model.specs.Memory.ScalarSizes.{class_bytes}
use Rattle.memory_model.specs.Memory.Scalars.{Scalar, pointer}
use Rattle.memory_model.specs.Effects.Accesses.{class_in}
use Rattle.semantics.specs.CfgMachine.FlowStates.{ProgramState}
use Rattle.store_sound.specs.Operations.Scalars.{signed_in}
use Rattle.run_exact.specs.TypedAccesses.{IsAtLeaf, PointsToKind}
use Rattle.run_exact.specs.TypedCopies.{PointsToStruct, AreOneOrApart}
use Rattle.run_exact.specs.Runs.SingleRuns.{IsTypedStep}
use Rattle.typed_programs.specs.Types.TypeBytes.{scalar_byte}
use Rattle.typed_programs.specs.Types.StandingTypes.{AreLaidOut, Stands}
use Rattle.typed_programs.specs.Types.LeafTypes.{HasLeaf}
use Rattle.typed_programs.specs.Types.PointedTypes.{Target, target_type, Known, Points, IsOfKind, number_kind, pointer_kind}
use Rattle.typed_programs.specs.Types.TypedStates.{Temporaries}
use Rattle.typed_programs.specs.Types.TypedPrograms.{structs_of, size_in, IsObjectOf, PointsTo, IsTypedOperation, loads, stores_in, copies}
use Rattle.typed_programs.proofs.memory.PointedPlaces.{points_at, pointer_wide}
use Rattle.typed_programs.proofs.runs.TypeLaws.{TypeLaws}
use Rattle.typed_programs.proofs.runs.KnownValues.{Types, pointing}
use Rattle.typed_programs.proofs.runs.TypedStates.{IsTypedBy}

-- ---- kinds

class_some : (m : Model) (c : Class) → 0 < class_bytes m c
class_some m class.Char = omega arith
class_some m class.Short = omega arith
class_some m class.Int = by_test (m.int == 2)
  where
    by_test : (b : Bool) → 0 < cond b 2 4
    by_test true = omega arith
    by_test false = omega arith
class_some m class.Long = by_test (m.long == 4)
  where
    by_test : (b : Bool) → 0 < cond b 4 8
    by_test true = omega arith
    by_test false = omega arith
class_some m class.LongLong = omega arith
class_some m class.Pointer = by_test (m.pointer == 4)
  where
    by_test : (b : Bool) → 0 < cond b 4 8
    by_test true = omega arith
    by_test false = omega arith

-- a scalar of a kind has bytes, of which the first one is its own
record IsScalar (structs : List StructView) (pointer_size : ℕ) (t : Ty) (kind : declared.Scalar) : Type 0 where
  some : 0 < size_of_type structs pointer_size t
  first : scalar_byte structs pointer_size t 0 ≡ Some (record { ctype = t; at = 0 })
  same : scalar_of t ≡ kind

module _ (laws : TypeLaws) (flow : Flow) (laid : AreLaidOut flow.model (structs_of flow)) (objects : ℕ → Ty) (objects_are : (b : ℕ) (base : BaseInfo) → slice_get flow.bases.items b ≡ Some base → IsObjectOf flow (objects b) base) where
  abbrev structs : List StructView
  structs = structs_of flow

  abbrev m : Model
  m = flow.model

  scalar_kind : (t : Ty) (kind : declared.Scalar) (known : Option Known) → IsOfKind t kind known → IsScalar structs m.pointer t kind
  unfolding scalar_byte
  scalar_kind _ _ _ (number_kind k some) = record { some = some; first = ap (λ b. cond b (Some (record { ctype = Int k; at = 0 })) None) (lt-ltb 0 k.bytes some); same = refl }
  scalar_kind _ _ _ (pointer_kind t) =
      let some = pointer_wide m laid.model in
      record { some = some; first = ap (λ b. cond b (Some (record { ctype = Pointer t; at = 0 })) None) (lt-ltb 0 m.pointer some); same = refl }

  module _ (types : Types) (before after : Temporaries) (s : ProgramState) (h : IsTypedBy structs m.pointer objects types before s) where
    -- what stands where a pointer to a type points, in the object of a base
    stands_there : (target : Target) (i offset lo hi size : ℕ) → Points structs m.pointer types target (into i offset lo hi) → 0 < size → offset + size ≤ hi → (b : ℕ) → s.bases b ≡ Some i → Stands structs m.pointer (objects b) (target_type target) offset
    stands_there target i offset lo hi size points some within b named =
        let at = points_at structs m.pointer types target i offset lo hi size points some within in
        subst (λ z. Stands structs m.pointer z (target_type target) offset) (same_Some at.outer (objects b) (sym at.is ∙ h.bases b i named)) at.stands

    leaf_there : (kind : declared.Scalar) (t : Ty) → IsScalar structs m.pointer t kind → (b : ℕ) (base : BaseInfo) → slice_get flow.bases.items b ≡ Some base → (offset : ℕ) → Stands structs m.pointer (objects b) t offset → IsAtLeaf kind base offset
    leaf_there kind t scalar b base there offset stands =
        let object = objects_are b base there in
        let k = laws.scalars m structs laid (objects b) object.kinds object.small (offset + 0) 0 t (stands.scalars 0 scalar.some ∙ scalar.first) in
        let leaf : HasLeaf _ t k.0 = k.2 in
        let at = k.1 in
        let on = leaf.there in
        record {
          number = leaf.number;
          leaf = leaf.leaf;
          among = ap (λ z. slice_get z leaf.number) object.leaves ∙ leaf.among;
          class = ap class_in (sym scalar.same) ∙ sym leaf.is.class;
          signed = ap signed_in (sym scalar.same) ∙ sym leaf.is.signed;
          there = omega (arith, on, at);
        }

    kind_there : (target : Target) (kind : declared.Scalar) (t : Ty) → target_type target ≡ t → IsScalar structs m.pointer t kind → (p : MachinePointer) → Points structs m.pointer types target p → PointsToKind flow s.bases kind p
    kind_there target kind t is scalar null points = tt
    kind_there target kind t is scalar (into i offset lo hi) points = λ b base there named low high. leaf_there kind t scalar b base there offset (subst (λ z. Stands structs m.pointer (objects b) z offset) is (stands_there target i offset lo hi (class_bytes m (class_in kind)) points (class_some m (class_in kind)) high b named))

    points_of : (temp : ℕ) (t : Ty) (q : PointsTo flow objects before after temp t) (p : MachinePointer) → s.temps temp ≡ Some (pointer p) → Points structs m.pointer types q.target p
    points_of temp t q p e =
        let k = pointing laws m structs laid types q.known q.target q.less (pointer p) (h.temps temp q.known (pointer p) q.has e) in
        let same : k.p ≡ p = pointer_same k.p p (sym k.is) in
        subst (Points structs m.pointer types q.target) same k.points
      where
        pointer_same : (a b : MachinePointer) → pointer a ≡ pointer b → a ≡ b
        pointer_same a b e = cc

    -- ---- copies

    module _ (index : ℕ) (some : 0 < size_in flow (Struct index)) where
      size_is : (view : StructView) → slice_get structs index ≡ Some view → view.size ≡ size_in flow (Struct index)
      size_is view seen = sym (ap (λ (z : StructView). z.size) (get_or_from_slice_get structs index view no_struct seen))

      struct_there : (target : Target) → target_type target ≡ Struct index → (i offset lo hi : ℕ) → Points structs m.pointer types target (into i offset lo hi) → (view : StructView) → slice_get structs index ≡ Some view → offset + view.size ≤ hi → (b : ℕ) → s.bases b ≡ Some i → Stands structs m.pointer (objects b) (Struct index) offset
      struct_there target is i offset lo hi points view seen high b named =
          let e = size_is view seen in
          subst (λ z. Stands structs m.pointer (objects b) z offset) is (stands_there target i offset lo hi view.size points (omega (arith, e, some)) high b named)

      points_struct : (target : Target) → target_type target ≡ Struct index → (p : MachinePointer) → Points structs m.pointer types target p → PointsToStruct flow s.bases index p
      points_struct target is null points = tt
      points_struct target is (into i offset lo hi) points = λ b base view there seen named low high. laws.structures flow (objects b) base index offset view laid (objects_are b base there) seen (struct_there target is i offset lo hi points view seen high b named)

      one_or_apart : (to from : Target) → target_type to ≡ Struct index → target_type from ≡ Struct index → (p q : MachinePointer) → Points structs m.pointer types to p → Points structs m.pointer types from q → AreOneOrApart flow index p q
      one_or_apart to from is_to is_from null q points_p points_q = tt
      one_or_apart to from is_to is_from (into i offset lo hi) null points_p points_q = tt
      one_or_apart to from is_to is_from (into i offset lo hi) (into j at below above) points_p points_q = λ x view seen same low high from_low from_high one two three four.
          let size = size_is view seen in
          let p = points_at structs m.pointer types to i offset lo hi view.size points_p (omega (arith, size, some)) high in
          let q = points_at structs m.pointer types from j at below above view.size points_q (omega (arith, size, some)) from_high in
          let outer : q.outer ≡ p.outer = same_Some q.outer p.outer (sym q.is ∙ (ap types (sym same) ∙ p.is)) in
          laws.apart structs m.pointer p.outer index offset at x
          (subst (λ z. Stands structs m.pointer p.outer z offset) is_to p.stands)
          (subst (λ z. Stands structs m.pointer p.outer z at) is_from (subst (λ z. Stands structs m.pointer z (target_type from) at) outer q.stands))
          (slice_get_within structs index view seen) one (subst (λ z. x < offset + z) size two) three (subst (λ z. x < at + z) size four)

    -- ---- instructions

    pub access_typed : (o : Operation) → IsTypedOperation flow objects before after o → IsTypedStep flow o s
    access_typed _ (loads to from kind t known q of_kind gives) = λ p e. kind_there q.target kind t q.is (scalar_kind t kind known of_kind) p (points_of from t q p e)
    access_typed _ (stores_in to from kind kept t known q of_kind storable keeps) = λ p e. kind_there q.target kind t q.is (scalar_kind t kind known of_kind) p (points_of to t q p e)
    access_typed _ (copies to from index q r some kept) = (
      λ p e. points_struct index some q.target q.is p (points_of to (Struct index) q p e),
      λ p e. points_struct index some r.target r.is p (points_of from (Struct index) r p e),
      λ p o e there. one_or_apart index some q.target r.target q.is r.is p o (points_of to (Struct index) q p e) (points_of from (Struct index) r o there),
    )
    access_typed _ _ = tt
