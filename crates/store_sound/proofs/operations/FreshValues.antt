-- What a stored value stands for behind the store.
use Rattle.std.proofs.Common.{◌≡◌, ℕ, ◌+◌, ◌^◌, ◌≤◌, Bool, true, false, cond, Some, None, List, length, arith, subst, sym, refl, ap, ◌∙◌, inl, inr}
use Rattle.std.specs.Prelude.{slice_get, ℤ, pos, neg_ℤ, negsuc, ◌≤ℤ◌, ◌-◌, ◌*◌}
use Rattle.std.proofs.lemmas.Int.{ints}
use Rattle.std.proofs.Math.Nat.{pow-le-pow_right}
use Rattle.std.proofs.lemmas.Bool.Decides.{nat_tests}
use Rattle.std.proofs.lemmas.Bool.{cases_Bool, true≢false}
use Rattle.std.proofs.lemmas.Option.{slice_get_within}
use Rattle.cc_base.specs.Lattices.{LatticeOf, OrderLaws}
use Rattle.cc_base.specs.IntegerTypes.{wrap_into, is_size, least_of, greatest_of}
use Rattle.cc_base.specs.IntegerDomains.{IntegersOf, BoundLaws, RangeLaws}
use Rattle.cc_base.specs.declared.int_types.IntType.{IntType}
use Rattle.cc_base.specs.NumberRanges.{Range}
use Rattle.c_layout.specs.declared.data_model.Model.{Model}
use Rattle.c_layout.specs.Leaves.{class_of}
use Rattle.c_layout.specs.declared.leaf_lists.Class.{Class}
use Rattle.c_layout.specs.declared.leaf_lists.Class.TheVariants.{Pointer}
use Rattle.cfg.specs.declared.machine_instructions.Scalar.TheVariants as of
use Rattle.cfg.specs.declared.machine_instructions.Scalar as declared
use Rattle.value_domain.specs.Values.LabelSets.{labels_leq, no_labels, labels_order}
use Rattle.memory_model.specs.Memory.Labels.{Labels}
use Rattle.memory_model.specs.Memory.Labels as plain
use Rattle.store_sound.specs.Concretization.SeenLabels.{as_set}
use Rattle.value_domain.specs.declared.values.values.Value.{Value}
use Rattle.store_cells.specs.CellReads.{as_stored}
use Rattle.memory_model.specs.Memory.ScalarSizes.{class_bytes}
use Rattle.store_cells.specs.ScalarTypes.{kind_of}
use Rattle.store_cells.specs.ClassNumbers.{is_pointer}
use Rattle.store_cells.specs.NearValues.{near_number}
use Rattle.store.specs.Stores.{stored_value}
use Rattle.memory_model.specs.Memory.Bytes.{null, into, Content}
use Rattle.memory_model.specs.Memory.Instances.{Memory}
use Rattle.memory_model.specs.Memory.Numbers.{Labelled, number_of}
use Rattle.store_sound.specs.Concretization.Matching.{number_in, Holds}
use Rattle.memory_model.specs.Memory.Scalars.{Scalar, integer, pointer}
use Rattle.store_sound.specs.Concretization.ValueMeaning.{Naming, InGammaScalar, InGammaContent}
use Rattle.memory_model.specs.Effects.Accesses.{class_in}
use Rattle.memory_model.specs.Effects.ScalarBytes.{number_bytes, bits_in, scalar_bytes}
use Rattle.cc_base.specs.IntegerLaws.{SoundLaws}
use Rattle.store_sound.proofs.operations.Classes.{integer_class, class_size, class_above}
use Rattle.store_sound.specs.Operations.Scalars.{IsOfKind}
use Rattle.store_sound.proofs.operations.MachineStores.{IsStore}
use Rattle.store_sound.proofs.operations.Frames.{alike, matched_in, pointer_moves}
use Rattle.store_sound.proofs.operations.Fresh.{number_content, part_content, converted_back}
use Rattle.store_sound.proofs.operations.Near.{IsNearValue, near_number_from, near_number_none}

module _ {I : Type 0} (n : IntegersOf I) (m : Model) where
  pub as_labels : (v : Value I) (class : Class) (t : Bool) → (as_stored n m v class t).labels ≡ v.labels
  as_labels v class t = elim (cases_Bool (is_pointer class)) [ inl e ↦ rw e refl | inr e ↦ rw e refl ]

-- the value as a cell of a signedness gets it
abbrev pub cell_of : {I : Type 0} → IntegersOf I → Model → declared.Scalar → Value I → Bool → Value I
cell_of n m kind x t = as_stored n m (stored_value (class_in kind) x) (class_in kind) t

-- the numbers read back are those of a converted number
pub number_stands : {I : Type 0} {l : LatticeOf I} {n : IntegersOf I} {gamma : I → ℤ → Type 0} (c : SoundLaws l n gamma) (m : Model) (kind : IntType) (z : ℤ) (labels : Labels) (x : Value I) (t : Bool) (ns : List Labelled) → gamma x.num z → length ns ≡ class_bytes m (class_of kind) → ((k : ℕ) (y : Labelled) → slice_get ns k ≡ Some y → slice_get (number_bytes (class_bytes m (class_of kind)) (bits_in (class_bytes m (class_of kind)) z) labels) k ≡ Some (number_in y)) → gamma (cell_of n m (of.Int kind) x t).num (number_of t ns)
number_stands {I} {l} {n} {gamma} c m kind z labels x t ns st e g =
    let to : IntType = kind_of m (class_of kind) t in
    let r : wrap_into to z ≡ number_of t ns = converted_back ns to z labels (class_above m (class_of kind)) e g in
    rw (integer_class kind) (subst (gamma (n.convert x.num to)) r (c.convert_stands to x.num z (class_size m (class_of kind)) st))

module _ {I : Type 0} {l : LatticeOf I} {n : IntegersOf I} {gamma : I → ℤ → Type 0} (c : SoundLaws l n gamma) (m : Model) (naming : Naming) {old new : Memory} {i offset : ℕ} where
  read_number : (kind : declared.Scalar) (v : Scalar) (s : IsStore old new i offset (class_in kind) (class_bytes m (class_in kind)) (scalar_bytes (class_bytes m (class_in kind)) v)) (ns : List Labelled) → Holds m new i offset (class_in kind) ns → (k : ℕ) (y : Labelled) → slice_get ns k ≡ Some y → slice_get (scalar_bytes (class_bytes m (class_in kind)) v) k ≡ Some (number_in y)
  read_number kind v s ns h k y e =
      let f = h.size in
      let w = slice_get_within ns k y e in
      (matched_in s (offset + k) k (class_in kind) (number_in y) (h.each k y w e) (omega arith) (omega arith)).content

  pub fresh_number : (kind : declared.Scalar) (v : Scalar) → IsOfKind kind v → (x : Value I) → InGammaScalar gamma naming old x v → IsStore old new i offset (class_in kind) (class_bytes m (class_in kind)) (scalar_bytes (class_bytes m (class_in kind)) v) → (t : Bool) → is_pointer (class_in kind) ≡ false → (ns : List Labelled) → Holds m new i offset (class_in kind) ns → gamma (cell_of n m kind x t).num (number_of t ns)
  fresh_number (of.Int kind) (integer z labels) k x st s t p ns h = number_stands c m kind z labels x t ns st.0 h.size (read_number (of.Int kind) (integer z labels) s ns h)
  fresh_number (of.Int kind) (pointer q) k x st s t p ns h = absurd (true≢false (sym k))
  fresh_number of.Pointer (integer z labels) k x st s t p ns h = absurd (true≢false (sym k))
  fresh_number of.Pointer (pointer q) k x st s t p ns h = absurd (true≢false p)

  pub fresh_content : (kind : declared.Scalar) (v : Scalar) → IsOfKind kind v → (x : Value I) → InGammaScalar gamma naming old x v → IsStore old new i offset (class_in kind) (class_bytes m (class_in kind)) (scalar_bytes (class_bytes m (class_in kind)) v) → (t : Bool) (k : ℕ) (a : Content) → slice_get (scalar_bytes (class_bytes m (class_in kind)) v) k ≡ Some a → InGammaContent gamma naming new (cell_of n m kind x t) (class_in kind) a
  fresh_content (of.Int kind) (integer z labels) g x st s t k a e =
      let r = number_content (class_bytes m (class_of kind)) (bits_in (class_bytes m (class_of kind)) z) labels k a e in
      let p = integer_class kind in
      let b : (cell_of n m (of.Int kind) x t).labels ≡ x.labels = as_labels n m (stored_value (class_of kind) x) (class_of kind) t ∙ ap (λ u. cond u no_labels x.labels) p in
      subst (InGammaContent gamma naming new (cell_of n m (of.Int kind) x t) (class_of kind)) (sym r.1) (subst (λ u. labels_leq (as_set labels) u ≡ true) (sym b) st.1, λ (f : is_pointer (class_of kind) ≡ true). absurd (true≢false (sym f ∙ p)))
  fresh_content (of.Int kind) (pointer q) g x st s t k a e = absurd (true≢false (sym g))
  fresh_content of.Pointer (integer z labels) g x st s t k a e = absurd (true≢false (sym g))
  fresh_content of.Pointer (pointer null) g x st s t k a e =
      let r = number_content (class_bytes m Pointer) 0 plain.no_labels k a e in
      subst (InGammaContent gamma naming new (cell_of n m of.Pointer x t) Pointer) (sym r.1) (labels_order.least_below ((cell_of n m of.Pointer x t).labels), λ f. st)
  fresh_content of.Pointer (pointer (into j o lo hi)) g x st s t k a e =
      let r = part_content (into j o lo hi) 0 (class_bytes m Pointer) k k a e (omega arith) in
      subst (InGammaContent gamma naming new (cell_of n m of.Pointer x t) Pointer) (sym r) (pointer_moves (alike s) gamma naming x.pointer (into j o lo hi) st)

-- ---- near bounds

pub eight : (n : ℕ) → is_size n ≡ true → n ≤ 8
eight n h = grind (arith, nat_tests)

pub pow_up : (a b : ℕ) → a ≤ b → 2 ^ a ≤ 2 ^ b
pow_up a b h = pow-le-pow_right {n = 2} (omega arith) h

pub type_near : (k : IntType) (a b : ℤ) → is_size k.bytes ≡ true → least_of k ≤ℤ a → b ≤ℤ greatest_of k → (neg_ℤ (pos (2 ^ 64)) ≤ℤ a) × (b ≤ℤ pos (2 ^ 64))
type_near k a b h e f =
    let g = eight k.bytes h in
    let u : 2 ^ (8 * k.bytes) ≤ 2 ^ 64 = pow_up (8 * k.bytes) 64 (omega arith) in
    let v : 2 ^ (8 * k.bytes - 1) ≤ 2 ^ 64 = pow_up (8 * k.bytes - 1) 64 (omega arith) in
    elim (cases_Bool k.signed) [
      | inl d ↦ (let x : negsuc (2 ^ (8 * k.bytes - 1) - 1) ≤ℤ a = rw d at e in let y : b ≤ℤ pos (2 ^ (8 * k.bytes - 1) - 1) = rw d at f in (omega (arith, ints), omega (arith, ints)))
      | inr d ↦ (let x : pos 0 ≤ℤ a = rw d at e in let y : b ≤ℤ pos (2 ^ (8 * k.bytes) - 1) = rw d at f in (omega (arith, ints), omega (arith, ints)))
    ]

module _ {I : Type 0} {l : LatticeOf I} {n : IntegersOf I} {gamma : I → ℤ → Type 0} (o : OrderLaws l) (q : BoundLaws l n gamma) (r : RangeLaws l n) (m : Model) where
  convert_near : (x : I) (k : IntType) (b : Range) → is_size k.bytes ≡ true → n.bounds (n.convert x k) ≡ b → near_number l n (n.convert x k) ≡ n.convert x k
  convert_near x k None h e = near_number_none o q (n.convert x k) e
  convert_near x k (Some p) h e = let f = r.convert_fits x k p.0 p.1 h e in let g = type_near k p.0 p.1 h f.0 f.1 in near_number_from o q (n.convert x k) p.0 p.1 e g.0 g.1

  pub cell_near : (kind : declared.Scalar) (x : Value I) (t : Bool) → IsNearValue l n x → IsNearValue l n (cell_of n m kind x t)
  cell_near kind x t h = elim (cases_Bool (is_pointer (class_in kind))) [
    | inl e ↦ rw e (record { num = h.num; lo = h.lo; rel = h.rel; len = h.len })
    | inr e ↦ rw e (record { num = convert_near x.num (kind_of m (class_in kind) t) _ (class_size m (class_in kind)) refl; lo = h.lo; rel = h.rel; len = h.len })
  ]
