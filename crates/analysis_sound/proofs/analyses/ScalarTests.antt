-- Tests and cases name scalars, of the kinds that they read.
use Rattle.std.proofs.Common.{◌≡◌, ℕ, Bool, true, false, not, ◌&&◌, Option, Some, None, List, [], ◌∷◌, sym, refl, ap, ◌∙◌, inl, inr, ◌⊎◌}
use Rattle.std.specs.Prelude.{slice_get, ◌==◌}
use Rattle.std.proofs.lemmas.Bool.{and_parts, eqb-true, not-true, true≢false}
use Rattle.cc_base.specs.IntegerTypes.{is_size}
use Rattle.cc_base.specs.declared.int_types.IntType.{IntType}
use Rattle.c_layout.specs.Leaves.{class_of}
use Rattle.c_layout.specs.declared.data_model.Model.{Model}
use Rattle.c_layout.specs.declared.leaf_lists.Class.{Class}
use Rattle.c_layout.specs.declared.leaf_lists.Class.TheVariants.{Char, Short, Int, Long, LongLong, Pointer}
use Rattle.c_layout.specs.declared.leaf_lists.Leaf.{Leaf}
use Rattle.c_layout.specs.declared.shapes.BaseInfo.{BaseInfo}
use Rattle.cfg.specs.BaseShapes.{same_truth}
use Rattle.cfg.specs.WellFormed.{is_declared}
use Rattle.cfg.specs.declared.flow_edges.Edge.{Edge}
use Rattle.cfg.specs.declared.flow_edges.EdgeKind.{EdgeKind}
use Rattle.cfg.specs.declared.flow_edges.EdgeKind.TheVariants as kind
use Rattle.cfg.specs.declared.flow_edges.Side.{Side}
use Rattle.cfg.specs.declared.flow_edges.Side.TheVariants as side
use Rattle.cfg.specs.declared.flow_edges.Test.{Test}
use Rattle.cfg.specs.declared.machine_instructions.Scalar.{Scalar}
use Rattle.cfg.specs.declared.machine_instructions.Scalar.TheVariants as of
use Rattle.cfg.specs.declared.programs.Flow.{Flow}
use Rattle.analysis_preconditions.specs.Objects.ScalarTests.{is_alone, is_leaf_of, is_whole_leaf, is_scalar_of, is_scalar_object, is_integer_of, is_integer_object, names_scalar, is_pointer_kind, compares_pointers, compares_scalars, tests_scalars, matches_integer, follows_scalars, all_follow_scalars}
use Rattle.memory_model.specs.Memory.ScalarSizes.{class_bytes, same_class, is_pointer}
use Rattle.memory_model.specs.Effects.Accesses.{class_in}
use Rattle.memory_model.specs.Effects.Tests.{scalar_size}
use Rattle.transfer_edges.specs.Refinements.{named_by}
use Rattle.store_sound.specs.Operations.Scalars.{signed_in}
use Rattle.store_sound.proofs.operations.Classes.{same_class_is}
use Rattle.store_sound.proofs.programs.ShapedBases.{all_at}
use Rattle.transfer_sound.specs.Tests.ScalarObjects.{IsScalarObject, NamesScalar, IsCaseObject, IsIntegerTest, IsPointerTest, IsNullTest}
use Rattle.analysis_sound.specs.Programs.OpenSteps.{TestIsProved, CaseIsProved, KindIsProved}

-- ---- leaves

truth_is : (a b : Bool) → same_truth a b ≡ true → a ≡ b
truth_is true b h = sym h
truth_is false false h = refl
truth_is false true h = absurd (true≢false (sym h))

record IsLeafOf (m : Model) (kind : Scalar) (leaf : Leaf) : Type 0 where
  class : leaf.class ≡ class_in kind
  signed : leaf.signed ≡ signed_in kind
  bytes : scalar_size m kind ≡ class_bytes m (class_in kind)

leaf_of : (m : Model) (kind : Scalar) (leaf : Leaf) → is_leaf_of m kind leaf ≡ true → IsLeafOf m kind leaf
leaf_of m (of.Int kind) leaf h =
    let p = and_parts (same_class leaf.class (class_of kind)) (same_truth leaf.signed kind.signed && (kind.bytes == class_bytes m leaf.class)) h in
    let q = and_parts (same_truth leaf.signed kind.signed) (kind.bytes == class_bytes m leaf.class) p.1 in
    let class = same_class_is leaf.class (class_of kind) p.0 in
    record { class = class; signed = truth_is leaf.signed kind.signed q.0; bytes = eqb-true kind.bytes (class_bytes m leaf.class) q.1 ∙ ap (class_bytes m) class }
leaf_of m of.Pointer leaf h =
    let p = and_parts (same_class leaf.class Pointer) (not leaf.signed) h in
    record { class = same_class_is leaf.class Pointer p.0; signed = not-true leaf.signed p.1; bytes = refl }

record IsWhole (m : Model) (info : BaseInfo) (leaf : Leaf) : Type 0 where
  declared : is_declared (Some info.kind) ≡ true
  offset : leaf.offset ≡ 0
  count : leaf.count ≡ 1
  size : info.size ≡ class_bytes m leaf.class

whole : (m : Model) (info : BaseInfo) (leaf : Leaf) → is_whole_leaf m info leaf ≡ true → IsWhole m info leaf
whole m info leaf h =
    let p = and_parts (is_declared (Some info.kind)) (is_alone leaf && (info.size == class_bytes m leaf.class)) h in
    let q = and_parts (is_alone leaf) (info.size == class_bytes m leaf.class) p.1 in
    let r = and_parts (leaf.offset == 0) (leaf.count == 1) q.0 in
    record { declared = p.0; offset = eqb-true leaf.offset 0 r.0; count = eqb-true leaf.count 1 r.1; size = eqb-true info.size (class_bytes m leaf.class) q.1 }

-- an integer type of the class
rank_of : Class → ℕ
rank_of Char = 1
rank_of Short = 2
rank_of Int = 3
rank_of Long = 4
rank_of LongLong = 5
rank_of Pointer = 0

integer_of : Model → Leaf → IntType
integer_of m leaf = record { bytes = class_bytes m leaf.class; signed = leaf.signed; rank = rank_of leaf.class }

class_by_rank : (class : Class) (bytes : ℕ) (signed : Bool) → is_pointer class ≡ false → class ≡ class_of (record { bytes = bytes; signed = signed; rank = rank_of class })
unfolding rank_of
class_by_rank Char bytes signed h = refl
class_by_rank Short bytes signed h = refl
class_by_rank Int bytes signed h = refl
class_by_rank Long bytes signed h = refl
class_by_rank LongLong bytes signed h = refl
class_by_rank Pointer bytes signed h = absurd (true≢false h)

integer_leaf : (m : Model) (leaf : Leaf) → is_pointer leaf.class ≡ false → IsLeafOf m (of.Int (integer_of m leaf)) leaf
unfolding integer_of
integer_leaf m leaf h =
    let class = class_by_rank leaf.class (class_bytes m leaf.class) leaf.signed h in
    record { class = class; signed = refl; bytes = ap (class_bytes m) class }

-- ---- objects

module _ (flow : Flow) where
  abbrev m : Model
  m = flow.model

  object_of : (b : ℕ) (kind : Scalar) (info : BaseInfo) (leaf : Leaf) → slice_get flow.bases.items b ≡ Some info → info.shape.cells ≡ leaf ∷ [] → IsWhole m info leaf → IsLeafOf m kind leaf → IsScalarObject flow b kind
  object_of b kind info leaf is cells w k = record {
    info = info;
    leaf = leaf;
    is = is;
    declared = w.declared;
    cells = cells;
    offset = w.offset;
    class = k.class;
    signed = k.signed;
    count = w.count;
    size = w.size ∙ ap (class_bytes m) k.class;
    bytes = k.bytes;
  }

  scalar_object : (b : ℕ) (kind : Scalar) → is_scalar_object m kind (slice_get flow.bases.items b) ≡ true → IsScalarObject flow b kind
  scalar_object b kind = by_base (slice_get flow.bases.items b) refl
    where
      by_cells : (info : BaseInfo) (cells : List Leaf) → slice_get flow.bases.items b ≡ Some info → info.shape.cells ≡ cells → is_scalar_of m kind info cells ≡ true → IsScalarObject flow b kind
      by_cells info [] is c h = absurd (true≢false (sym h))
      by_cells info (leaf ∷ []) is c h =
          let p = and_parts (is_whole_leaf m info leaf) (is_leaf_of m kind leaf) h in
          object_of b kind info leaf is c (whole m info leaf p.0) (leaf_of m kind leaf p.1)
      by_cells info (leaf ∷ (more ∷ rest)) is c h = absurd (true≢false (sym h))

      by_base : (o : Option BaseInfo) → slice_get flow.bases.items b ≡ o → is_scalar_object m kind o ≡ true → IsScalarObject flow b kind
      by_base None is h = absurd (true≢false (sym h))
      by_base (Some info) is h = by_cells info info.shape.cells is refl h

  case_object : (b : ℕ) → is_integer_object m (slice_get flow.bases.items b) ≡ true → IsCaseObject flow b
  case_object b = by_base (slice_get flow.bases.items b) refl
    where
      by_cells : (info : BaseInfo) (cells : List Leaf) → slice_get flow.bases.items b ≡ Some info → info.shape.cells ≡ cells → is_integer_of m info cells ≡ true → IsCaseObject flow b
      by_cells info [] is c h = absurd (true≢false (sym h))
      by_cells info (leaf ∷ []) is c h =
          let p = and_parts (is_whole_leaf m info leaf) (not (is_pointer leaf.class)) h in
          record { kind = integer_of m leaf; scalar = object_of b (of.Int (integer_of m leaf)) info leaf is c (whole m info leaf p.0) (integer_leaf m leaf (not-true (is_pointer leaf.class) p.1)) }
      by_cells info (leaf ∷ (more ∷ rest)) is c h = absurd (true≢false (sym h))

      by_base : (o : Option BaseInfo) → slice_get flow.bases.items b ≡ o → is_integer_object m o ≡ true → IsCaseObject flow b
      by_base None is h = absurd (true≢false (sym h))
      by_base (Some info) is h = by_cells info info.shape.cells is refl h

  -- ---- edges

  named : (s : Side) → names_scalar m flow.bases.items s ≡ true → NamesScalar flow s
  named (side.Object b kind) h = scalar_object b kind h
  named (side.Number z) h = h
  named side.Null h = tt

  pointer_kind : (kind : Scalar) → is_pointer_kind kind ≡ true → kind ≡ of.Pointer
  pointer_kind (of.Int kind) h = absurd (true≢false (sym h))
  pointer_kind of.Pointer h = refl

  pointers : (test : Test) (left right : Side) → test.common ≡ None → test.left ≡ left → test.right ≡ right → compares_pointers m flow.bases.items left right ≡ true → IsPointerTest test ⊎ IsNullTest flow test
  pointers test (side.Object b kind) (side.Object other against) is l r h = inl (record { is = is; plain = ap (λ z. named_by z test.right) l ∙ ap (named_by (side.Object b kind)) r })
  pointers test (side.Object b kind) (side.Number z) is l r h = inl (record { is = is; plain = ap (λ z. named_by z test.right) l ∙ ap (named_by (side.Object b kind)) r })
  pointers test (side.Object b kind) side.Null is l r h =
      let p = and_parts (is_pointer_kind kind) (is_scalar_object m of.Pointer (slice_get flow.bases.items b)) h in
      inr (record { base = b; object = scalar_object b of.Pointer p.1; left = l ∙ ap (side.Object b) (pointer_kind kind p.0); right = r; is = is })
  pointers test (side.Number z) right is l r h = inl (record { is = is; plain = ap (λ z. named_by z test.right) l })
  pointers test side.Null right is l r h = inl (record { is = is; plain = ap (λ z. named_by z test.right) l })

  compared : (test : Test) (common : Option IntType) → test.common ≡ common → compares_scalars m flow.bases.items test common ≡ true → IsIntegerTest flow test ⊎ IsPointerTest test ⊎ IsNullTest flow test
  compared test (Some common) is h =
      let p = and_parts (is_size common.bytes) (names_scalar m flow.bases.items test.left && names_scalar m flow.bases.items test.right) h in
      let q = and_parts (names_scalar m flow.bases.items test.left) (names_scalar m flow.bases.items test.right) p.1 in
      inl (record { left = named test.left q.0; right = named test.right q.1; common = common; is = is; size = p.0 })
  compared test None is h = inr (pointers test test.left test.right is refl refl h)

  test_proved : (test : Option Test) → tests_scalars m flow.bases.items test ≡ true → TestIsProved flow test
  test_proved None h = tt
  test_proved (Some test) h = compared test test.common refl h

  case_proved : (b : Option ℕ) → matches_integer m flow.bases.items b ≡ true → CaseIsProved flow b
  case_proved None h = tt
  case_proved (Some b) h = case_object b h

  kind_proved : (k : EdgeKind) → follows_scalars m flow.bases.items k ≡ true → KindIsProved flow k
  kind_proved (kind.When truth test kept) h = test_proved test h
  kind_proved (kind.Case test) h = case_proved test.object h
  kind_proved _ h = tt

  pub kinds_proved : all_follow_scalars flow ≡ true → (number : ℕ) (e : Edge) → slice_get flow.edges.items number ≡ Some e → KindIsProved flow e.kind
  kinds_proved h number e is = kind_proved e.kind (all_at (λ x. follows_scalars m flow.bases.items x.kind) flow.edges.items number e h is)
