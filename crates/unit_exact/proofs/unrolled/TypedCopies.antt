-- Accesses that are of the kind of what lies there are so in another program with the same parts.
use Rattle.std.specs.Prelude.{◌≡◌, ℕ, ◌+◌, ◌≤◌, Option, Some, slice_get}
use Rattle.std.proofs.Common.{sym, subst, ap, ◌∙◌}
use Rattle.c_layout.specs.Leaves.{leaves_of}
use Rattle.c_layout.specs.StructViews.{StructView, structs_view}
use Rattle.c_layout.specs.Types.{Struct}
use Rattle.c_layout.specs.declared.leaf_lists.Leaf.{Leaf}
use Rattle.c_layout.specs.declared.shapes.BaseInfo.{BaseInfo}
use Rattle.cfg.specs.declared.machine_instructions.Operation.{Operation}
use Rattle.cfg.specs.declared.machine_instructions.Operation.TheVariants as op
use Rattle.cfg.specs.declared.machine_instructions.Scalar as declared
use Rattle.cfg.specs.declared.programs.Flow.{Flow}
use Rattle.memory_model.specs.Memory.Bytes.{MachinePointer, null, into}
use Rattle.memory_model.specs.Memory.ScalarSizes.{class_bytes}
use Rattle.memory_model.specs.Effects.Accesses.{class_in}
use Rattle.store_sound.specs.Concretization.Places.{OwnedByLeaf}
use Rattle.semantics.specs.CfgMachine.FlowStates.{ProgramState}
use Rattle.transfer_exact.specs.Values.SingleRows.{IsPlainProgram}
use Rattle.transfer_exact.specs.Accesses.TypedAccesses.{PointsToKind, IsTyped}
use Rattle.transfer_exact.specs.Spelling.TypedCopies.{HasOwnLeaf, HasStructLeaf, IsAtStruct, PointsToStruct, HasStructType, AreOneOrApart, HasPlaces}
use Rattle.run_exact.specs.Runs.SingleRuns.{IsTypedStep}
use Rattle.analysis_determined.specs.UnrolledDiagnostics.SameParts.{SameParts}

module _ (f g : Flow) (h : SameParts f g) where
  base_there : (b : ℕ) (base : BaseInfo) → slice_get g.bases.items b ≡ Some base → slice_get f.bases.items b ≡ Some base
  base_there b base e = ap (λ bs. slice_get bs b) h.bases ∙ e

  view_there : (index : ℕ) (view : StructView) → slice_get (structs_view g.structs) index ≡ Some view → slice_get (structs_view f.structs) index ≡ Some view
  view_there index view e = ap (λ ss. slice_get ss index) h.structs ∙ e

  pub plain_too : IsPlainProgram f → IsPlainProgram g
  plain_too p = record {
    apart = λ b j base leaf e c. p.apart b j base leaf (base_there b base e) c;
    no_heap = λ b base e. p.no_heap b base (base_there b base e);
  }

  -- ---- scalars

  kind_too : (entered : ℕ → Option ℕ) (kind : declared.Scalar) (p : MachinePointer) → PointsToKind f entered kind p → PointsToKind g entered kind p
  kind_too entered kind null t = t
  kind_too entered kind (into i offset lo hi) t = λ b base e at low high. t b base (base_there b base e) at low (subst (λ m. offset + class_bytes m (class_in kind) ≤ hi) (sym h.model) high)

  typed_too : (s t : ProgramState) (temp : ℕ) (kind : declared.Scalar) → s.temps ≡ t.temps → s.bases ≡ t.bases → IsTyped f s temp kind → IsTyped g t temp kind
  typed_too s t temp kind temps bases typed p e = subst (λ x. PointsToKind g x kind p) bases (kind_too s.bases kind p (typed p (ap (λ x. x temp) temps ∙ e)))

  -- ---- structs

  module _ (index : ℕ) (view : StructView) (base : BaseInfo) (offset : ℕ) where
    own_too : (leaf : Leaf) → HasOwnLeaf f index view base offset leaf → HasOwnLeaf g index view base offset leaf
    own_too leaf o = record { number = o.number; own = o.own; among = o.among; same = o.same }

    leaves_too : leaves_of (structs_view f.structs) f.model.pointer (Struct index) ≡ leaves_of (structs_view g.structs) g.model.pointer (Struct index)
    leaves_too = ap (λ ss. leaves_of ss f.model.pointer (Struct index)) h.structs ∙ ap (λ m. leaves_of (structs_view g.structs) m.pointer (Struct index)) h.model

    leaf_too : (own : Leaf) → HasStructLeaf f index view base offset own → HasStructLeaf g index view base offset own
    leaf_too own o = record { number = o.number; leaf = o.leaf; among = ap (λ ls. slice_get ls o.number) (sym leaves_too) ∙ o.among; same = o.same }

    struct_too : IsAtStruct f index view base offset → IsAtStruct g index view base offset
    struct_too a = record {
      leaves = λ number leaf e. own_too leaf (a.leaves number leaf (ap (λ ls. slice_get ls number) leaves_too ∙ e));
      only = λ number x k own e low high owned. leaf_too own (a.only number x k own e low high (subst (λ m. OwnedByLeaf m own x k) (sym h.model) owned));
    }

  points_too : (entered : ℕ → Option ℕ) (index : ℕ) (p : MachinePointer) → PointsToStruct f entered index p → PointsToStruct g entered index p
  points_too entered index null t = t
  points_too entered index (into i offset lo hi) t = λ b base view e v at low high. struct_too index view base offset (t b base view (base_there b base e) (view_there index view v) at low high)

  type_too : (s t : ProgramState) (temp index : ℕ) → s.temps ≡ t.temps → s.bases ≡ t.bases → HasStructType f s temp index → HasStructType g t temp index
  type_too s t temp index temps bases typed p e = subst (λ x. PointsToStruct g x index p) bases (points_too s.bases index p (typed p (ap (λ x. x temp) temps ∙ e)))

  one_too : (index : ℕ) (p q : MachinePointer) → AreOneOrApart f index p q → AreOneOrApart g index p q
  one_too index null q a = a
  one_too index (into i offset lo hi) null a = a
  one_too index (into i offset lo hi) (into j at below above) a = λ x view v. a x view (view_there index view v)

  places_too : (s t : ProgramState) (to from index : ℕ) → s.temps ≡ t.temps → HasPlaces f s to from index → HasPlaces g t to from index
  places_too s t to from index temps a p q e c = one_too index p q (a p q (ap (λ x. x to) temps ∙ e) (ap (λ x. x from) temps ∙ c))

  -- ---- steps

  pub step_too : (s t : ProgramState) (o : Operation) → s.temps ≡ t.temps → s.bases ≡ t.bases → IsTypedStep f o s → IsTypedStep g o t
  step_too s t (op.Load to from kind) temps bases a = typed_too s t from kind temps bases a
  step_too s t (op.Store to from kind kept) temps bases a = typed_too s t to kind temps bases a
  step_too s t (op.Copy to from index) temps bases a = (type_too s t to index temps bases a.0, type_too s t from index temps bases a.1, places_too s t to from index temps a.2)
  step_too s t (op.Constant to value kind) temps bases a = a
  step_too s t (op.Address to base offset) temps bases a = a
  step_too s t (op.Narrow to from offset size) temps bases a = a
  step_too s t (op.Shift to from by size backward) temps bases a = a
  step_too s t (op.Binary to sign left right kind) temps bases a = a
  step_too s t (op.Unary to sign from kind) temps bases a = a
  step_too s t (op.Compare to sign left right) temps bases a = a
  step_too s t (op.Not to from kind) temps bases a = a
  step_too s t (op.Difference to left right size) temps bases a = a
  step_too s t (op.ComparePointers to sign left right) temps bases a = a
  step_too s t (op.Convert to from old new) temps bases a = a
  step_too s t (op.Library to function arguments newest size) temps bases a = a
  step_too s t (op.Enter base) temps bases a = a
  step_too s t (op.Leave base) temps bases a = a
  step_too s t (op.Forget base) temps bases a = a
  step_too s t (op.Clear base) temps bases a = a
  step_too s t (op.Spell base offset room text) temps bases a = a
  step_too s t op.Jump temps bases a = a
  step_too s t (op.Branch from kind) temps bases a = a
  step_too s t (op.Switch from kind) temps bases a = a
  step_too s t (op.ReadLine to text count stream) temps bases a = a
  step_too s t op.Stop temps bases a = a
