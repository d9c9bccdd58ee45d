-- Bytes of a leaf into which a scalar was stored.
use Rattle.std.proofs.Common.{◌≡◌, ℕ, zero, suc, ◌+◌, ◌/◌, ◌%◌, ◌<◌, ◌≤◌, false, true, Some, List, [], ◌∷◌, length, arith, subst, sym, refl, ap, ◌∙◌}
use Rattle.std.specs.Prelude.{slice_get, ℤ}
use Rattle.std.proofs.lemmas.Option.{same_Some}
use Rattle.cc_base.specs.IntegerTypes.{wrap_into}
use Rattle.c_layout.specs.declared.leaf_lists.Class.{Class}
use Rattle.c_layout.specs.declared.leaf_lists.Leaf.{Leaf}
use Rattle.cfg.specs.declared.programs.Flow.{Flow}
use Rattle.store_cells.specs.ScalarTypes.{kind_of}
use Rattle.store_cells.specs.ScalarTypes as table
use Rattle.memory_model.specs.Memory.Bytes.{MachinePointer, null, into, Content, number, part}
use Rattle.memory_model.specs.Memory.Instances.{Memory, byte_at, life_at}
use Rattle.memory_model.specs.Memory.Labels.{Labels, no_labels}
use Rattle.memory_model.specs.Memory.Numbers.{Labelled}
use Rattle.memory_model.specs.Memory.ScalarSizes.{class_bytes, is_pointer}
use Rattle.memory_model.specs.Memory.Scalars.{integer, pointer}
use Rattle.memory_model.specs.Effects.ScalarBytes.{number_bytes, parts_from, bits_in, scalar_bytes}
use Rattle.store_sound.specs.Concretization.Matching.{Matched, number_in}
use Rattle.store_sound.proofs.operations.Classes.{class_above}
use Rattle.store_sound.proofs.operations.Fresh.{converted_back}
use Rattle.transfer_exact.specs.Values.SingleRows.{HoldsNumber, HoldsPointing}
use Rattle.transfer_exact.proofs.places.OneLeaf.{same_size}

-- memory in which so many bytes from an offset on are these contents, seen as those of a class
pub record IsWritten (old new : Memory) (i offset : ℕ) (class : Class) (size : ℕ) (cs : List Content) : Type 0 where
  pub lives : (j : ℕ) → life_at new j ≡ life_at old j
  pub outside : (j o : ℕ) → (j ≡ i → offset ≤ o → o < offset + size → ⊥) → byte_at new j o ≡ byte_at old j o
  pub inside : (k : ℕ) (c : Content) → slice_get cs k ≡ Some c → Matched new i (offset + k) class k c

-- ---- the contents of a scalar

-- so many bytes of a number
abbrev labelled : ℕ → ℕ → Labels → List Labelled
labelled zero n labels = []
labelled (suc k) n labels = record { number = n % 256; labels = labels } ∷ labelled k (n / 256) labels

labelled_length : (size n : ℕ) (labels : Labels) → length (labelled size n labels) ≡ size
labelled_length zero n labels = refl
labelled_length (suc k) n labels = ap suc (labelled_length k (n / 256) labels)

labelled_at : (size n : ℕ) (labels : Labels) (k : ℕ) (m : Labelled) → slice_get (labelled size n labels) k ≡ Some m → (slice_get (number_bytes size n labels) k ≡ Some (number_in m)) × (m.labels ≡ labels)
labelled_at zero n labels k m e = cc
labelled_at (suc s) n labels zero m e = let f : record { number = n % 256; labels = labels } ≡ m = same_Some _ m e in (ap (λ z. Some (number_in z)) f, sym (ap (λ z. z.labels) f))
labelled_at (suc s) n labels (suc k) m e = labelled_at s (n / 256) labels k m e

zero_at : (size k : ℕ) → k < size → slice_get (number_bytes size 0 no_labels) k ≡ Some (number 0 no_labels)
zero_at zero k h = absurd (omega (arith, h))
zero_at (suc s) zero h = refl
zero_at (suc s) (suc k) h = zero_at s k (omega (arith, h))

part_at : (p : MachinePointer) (at size k : ℕ) → k < size → slice_get (parts_from p at size) k ≡ Some (part p (at + k))
part_at p at zero k h = absurd (omega (arith, h))
part_at p at (suc s) zero h = ap (λ z. Some (part p z)) (let e : at ≡ at + 0 = omega arith in e)
part_at p at (suc s) (suc k) h = part_at p (suc at) s k (omega (arith, h)) ∙ ap (λ z. Some (part p z)) (let e : suc at + k ≡ at + suc k = omega arith in e)

-- what a number becomes in a leaf
abbrev pub left_number : Flow → Leaf → ℤ → ℤ
left_number flow leaf z = wrap_into (kind_of flow.model leaf.class leaf.signed) z

module _ (flow : Flow) (old new : Memory) (i : ℕ) (leaf : Leaf) where
  pub number_written : (z : ℤ) (labels : Labels) → is_pointer leaf.class ≡ false → IsWritten old new i leaf.offset leaf.class (class_bytes flow.model leaf.class) (scalar_bytes (class_bytes flow.model leaf.class) (integer z labels)) → HoldsNumber flow new i leaf.offset leaf (left_number flow leaf z) labels
  number_written z labels integral w =
      let ns : List Labelled = labelled (class_bytes flow.model leaf.class) (bits_in (class_bytes flow.model leaf.class) z) labels in
      let long = labelled_length (class_bytes flow.model leaf.class) (bits_in (class_bytes flow.model leaf.class) z) labels in
      let same = same_size flow.model leaf.class in
      let above = class_above flow.model leaf.class in
      record {
        integral = integral;
        numbers = ns;
        bytes = record { size = long; each = λ k m small e. w.inside k (number_in m) (labelled_at (class_bytes flow.model leaf.class) (bits_in (class_bytes flow.model leaf.class) z) labels k m e).0 };
        is = sym (converted_back ns (kind_of flow.model leaf.class leaf.signed) z labels (omega (arith, above, same)) (long ∙ sym same)
            (λ k y e. subst (λ b. slice_get (number_bytes b (bits_in b z) labels) k ≡ Some (number_in y)) (sym same) (labelled_at (class_bytes flow.model leaf.class) (bits_in (class_bytes flow.model leaf.class) z) labels k y e).0));
        same = λ k m e. (labelled_at (class_bytes flow.model leaf.class) (bits_in (class_bytes flow.model leaf.class) z) labels k m e).1;
      }

  pub pointer_written : (p : MachinePointer) → is_pointer leaf.class ≡ true → IsWritten old new i leaf.offset leaf.class (class_bytes flow.model leaf.class) (scalar_bytes (class_bytes flow.model leaf.class) (pointer p)) → HoldsPointing flow new i leaf.offset leaf p
  pointer_written null pointing w = record { pointing = pointing; bytes = λ k small. w.inside k (number 0 no_labels) (zero_at (class_bytes flow.model leaf.class) k small) }
  pointer_written (into j o lo hi) pointing w = record { pointing = pointing; bytes = λ k small. w.inside k (part (into j o lo hi) k) (part_at (into j o lo hi) 0 (class_bytes flow.model leaf.class) k small ∙ ap (λ z. Some (part (into j o lo hi) z)) (let e : 0 + k ≡ k = omega arith in e)) }
