-- The cell of a parameter stands for its bytes.
use Rattle.std.proofs.Common.{◌≡◌, ℕ, zero, suc, ◌+◌, ◌<◌, true, false, cond, Some, List, [], ◌∷◌, length, arith, subst, sym, refl, ap, ◌∙◌}
use Rattle.std.specs.Prelude.{slice_get, ◌==◌, ℤ, ◌≤ℤ◌}
use Rattle.std.proofs.lemmas.Int.{ints}
use Rattle.std.proofs.lemmas.Bool.{and_parts, eqb-true, true≢false}
use Rattle.std.proofs.lemmas.Option.{same_Some, slice_get_within}
use Rattle.cc_base.specs.Lattices.{LatticeOf, OrderLaws}
use Rattle.cc_base.specs.IntegerDomains.{IntegersOf, BoundLaws}
use Rattle.cc_base.specs.IntegerTypes.{is_size, least_of, greatest_of}
use Rattle.cc_base.specs.declared.int_types.IntType.{IntType}
use Rattle.c_layout.specs.Leaves.{class_of}
use Rattle.c_layout.specs.declared.leaf_lists.Leaf.{Leaf}
use Rattle.c_layout.specs.declared.shapes.BaseInfo.{BaseInfo}
use Rattle.c_layout.specs.declared.shapes.BaseKind.TheVariants.{Automatic, Older}
use Rattle.c_layout.specs.declared.shapes.ZeroPart.{ZeroPart}
use Rattle.cfg.specs.ModelKinds as kinds
use Rattle.cfg.specs.declared.programs.Flow.{Flow}
use Rattle.value_domain.specs.Values.LabelSets.{labels_leq, labels_order}
use Rattle.value_domain.specs.Values.LabelSets as sets
use Rattle.value_domain.specs.declared.values.values.Value as values
use Rattle.value_domain.specs.declared.values.row_cells.Cell.{Cell}
use Rattle.value_domain.specs.declared.values.row_cells.Cell.TheVariants.{Value}
use Rattle.store_cells.specs.CellReads.{whole_range}
use Rattle.store_cells.specs.NearValues.{near_value}
use Rattle.store_cells.specs.RowPositions.{leaf_position, value_in, value_at, put_value}
use Rattle.store_cells.specs.ScalarTypes.{kind_of}
use Rattle.transfer_system.specs.StartRows.{put_parameter}
use Rattle.memory_model.specs.Memory.ScalarSizes.{is_pointer, class_bytes}
use Rattle.memory_model.specs.Memory.Bytes.{Byte}
use Rattle.memory_model.specs.Memory.Instances.{Memory, bytes_at, byte_at}
use Rattle.memory_model.specs.Memory.Numbers.{number_of}
use Rattle.memory_model.specs.Effects.Touches.{is_allocated}
use Rattle.store_sound.specs.Concretization.Matching.{number_in}
use Rattle.store_sound.specs.Concretization.RowMeaning.{IsLiveOf, InGammaLeaf}
use Rattle.store_sound.specs.Concretization.SoundMemory.{IsMemoryOf, storage_for}
use Rattle.store_sound.specs.Concretization.ValueMeaning.{Naming, InGammaContent}
use Rattle.store_sound.proofs.operations.Classes.{integer_class}
use Rattle.store_sound.proofs.operations.FreshValues.{type_near}
use Rattle.store_sound.proofs.operations.Only.{cell_put}
use Rattle.store_sound.proofs.operations.StoreLeaves.{live_ended}
use Rattle.store_sound.proofs.operations.StoreRows as rows
use Rattle.store_sound.proofs.operations.StoreZeros.{between_stands, some_between}
use Rattle.store_sound.proofs.chars.ByteValues.{number_within}
use Rattle.store_sound.specs.Programs.Premises.{HasPremises}
use Rattle.store_sound.proofs.programs.Sizes.{same_bytes}
use Rattle.store_sound.specs.Regions.RegionWrites.{InGammaBase}
use Rattle.library_sound.proofs.NearScalars.{near_number_stands}
use Rattle.entry_sound.specs.Starts.Parameters.{IsParameterObject, ParametersStand}

same_least : (a b : IntType) → a.bytes ≡ b.bytes → a.signed ≡ b.signed → least_of a ≡ least_of b
same_least a b e f = rw (e, f) refl

same_greatest : (a b : IntType) → a.bytes ≡ b.bytes → a.signed ≡ b.signed → greatest_of a ≡ greatest_of b
same_greatest a b e f = rw (e, f) refl

module _ {I : Type 0} {l : LatticeOf I} {n : IntegersOf I} {gamma : I → ℤ → Type 0} (o : OrderLaws l) (q : BoundLaws l n gamma) (flow : Flow) (p : HasPremises flow) (naming : Naming) (memory : Memory) (sane : IsMemoryOf flow.model flow.bases.items naming memory) (b i : ℕ) (info : BaseInfo) (kind : IntType) (object : IsParameterObject flow naming memory b i info kind) where
  declared_is : info.shape.heap ≡ false
  declared_is = sym (p.shaped.each b info object.among).kind ∙ ap (λ k. is_allocated (storage_for k)) object.automatic

  fits : rows.Fits info
  fits = let a = p.laid.laid.close b info object.among in let d = p.laid.laid.small in omega (arith, a, d)

  size : is_size kind.bytes ≡ true
  size = (and_parts (is_size kind.bytes) _ object.typed).0

  abbrev any : values.Value I
  any = whole_range l n kind (sets.input_labels kind) false

  single : (j : ℕ) → IsLiveOf naming memory b j → j ≡ i
  single j w = sane.one j i b info object.among (λ e. let f : Automatic ≡ Older = sym object.automatic ∙ e in absurd (cc)) w.named object.named (λ e. live_ended (sym w.alive ∙ e)) (λ e. live_ended (sym object.alive ∙ e))

  bytes_are : class_bytes flow.model object.leaf.class ≡ kind.bytes
  bytes_are =
      let a = and_parts (is_size kind.bytes) _ object.typed in
      let d = and_parts (kind.bytes == kinds.class_bytes flow.model (class_of kind)) _ a.1 in
      let e : kind.bytes ≡ kinds.class_bytes flow.model (class_of kind) = eqb-true kind.bytes (kinds.class_bytes flow.model (class_of kind)) d.0 in
      ap (class_bytes flow.model) object.class ∙ sym (e ∙ same_bytes flow.model (class_of kind) p.model)

  in_range : (z : ℤ) → least_of kind ≤ℤ z → z ≤ℤ greatest_of kind → gamma (near_value l n any).num z
  in_range z h k =
      let near = type_near kind z z size h k in
      let e = some_between o q (least_of kind) (greatest_of kind) (omega (arith, ints, h, k)) in
      near_number_stands q any.num z (record { from = near.0; to = near.1 }) (subst (λ x. gamma x z) (sym e) (between_stands o q (least_of kind) (greatest_of kind) z h k))

  input_at : (a j : ℕ) (x : Byte) → j ≡ i → byte_at memory j a ≡ Some x → slice_get (bytes_at memory i) a ≡ Some x
  unfolding byte_at
  input_at a j x e h = subst (λ z. slice_get (bytes_at memory z) a ≡ Some x) e h

  leaf_stands : InGammaLeaf gamma flow naming memory b object.leaf (near_value l n any)
  leaf_stands = record {
    whole = λ j a ns w place plain holds.
        let r = number_within flow.model object.leaf.class object.leaf.signed ns holds.size (λ k y e.
        let m = holds.each k y (slice_get_within ns k y e) e in
        sane.bytes j (a + k) (record { content = number_in y; tag = m.tag }) m.here) in
        let z : ℤ = number_of object.leaf.signed ns in
        in_range z (subst (λ x. x ≤ℤ z) (same_least (kind_of flow.model object.leaf.class object.leaf.signed) kind bytes_are object.sign) r.0) (subst (λ x. z ≤ℤ x) (same_greatest (kind_of flow.model object.leaf.class object.leaf.signed) kind bytes_are object.sign) r.1);
    byte = λ j a k content w owns m.
        let here : slice_get (bytes_at memory i) a ≡ Some (record { content = content; tag = m.tag }) = input_at a j (record { content = content; tag = m.tag }) (single j w) m.here in
        let r = object.input a (record { content = content; tag = m.tag }) here in
        subst (InGammaContent gamma naming memory (near_value l n any) object.leaf.class) (sym r.1) (labels_order.reflexive (sets.input_labels kind), λ e. absurd (true≢false (sym e ∙ (ap is_pointer object.class ∙ integer_class kind))));
  }

  module _ (row : List (Cell I)) (long : length row ≡ flow.width) where
    abbrev after : List (Cell I)
    after = put_value row (leaf_position info 0) any

    one_cell : length info.shape.cells ≡ 1
    one_cell = ap length object.cells

    there : leaf_position info 0 < length row
    there =
        let a = p.laid.laid.close b info object.among in
        let d = p.laid.long in
        let e = one_cell in
        let f = rows.leaf_is info 0 fits (omega (arith, e)) in
        omega (arith, a, d, e, f, long)

    value_is : value_at l n after (leaf_position info 0) ≡ near_value l n any
    unfolding value_at
    value_is = ap (λ z. near_value l n (value_in l z)) (cell_put row (leaf_position info 0) (Value any) there)

    only_leaf : (j : ℕ) (leaf : Leaf) → slice_get (object.leaf ∷ []) j ≡ Some leaf → InGammaLeaf gamma flow naming memory b leaf (value_at l n after (leaf_position info j))
    only_leaf zero leaf e = subst (λ z. InGammaLeaf gamma flow naming memory b z (value_at l n after (leaf_position info 0))) (same_Some object.leaf leaf e) (subst (InGammaLeaf gamma flow naming memory b object.leaf) (sym value_is) leaf_stands)
    only_leaf (suc j) leaf e = cc

    base_stands : InGammaBase l n gamma flow naming memory b info after
    base_stands = record {
      leaves = λ j leaf e. only_leaf j leaf (sym (ap (λ z. slice_get z j) object.cells) ∙ e);
      classes = λ c heap h. absurd (true≢false (sym heap ∙ declared_is));
      zeros = λ z j zeros e w. none z zeros (sym (ap (λ y. slice_get y z) object.arrays) ∙ e);
      states = λ j heap named. absurd (true≢false (sym heap ∙ declared_is));
    }
      where
        none : {P : Type 0} (z : ℕ) (zeros : ZeroPart) → slice_get [] z ≡ Some zeros → P
        none z zeros e = absurd (cc)

    pub parameter_stands : InGammaBase l n gamma flow naming memory b info (put_parameter l n kind (slice_get flow.bases.items b) row)
    parameter_stands = subst (λ z. InGammaBase l n gamma flow naming memory b info (put_parameter l n kind z row)) (sym object.among) (subst (λ z. InGammaBase l n gamma flow naming memory b info (cond z after row)) (sym size) base_stands)

module _ {I : Type 0} {l : LatticeOf I} {n : IntegersOf I} {gamma : I → ℤ → Type 0} (o : OrderLaws l) (q : BoundLaws l n gamma) (flow : Flow) where
  pub parameters_stand : ParametersStand l n gamma flow
  parameters_stand p naming memory sane b i info kind object row long = parameter_stands o q flow p naming memory sane b i info kind object row long
