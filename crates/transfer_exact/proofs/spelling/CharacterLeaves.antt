-- A leaf of one character of a text tells its byte.
use Rattle.std.proofs.Common.{◌≡◌, ℕ, zero, suc, ◌+◌, ◌-◌, Bool, ◌&&◌, Some, [], ◌∷◌, List, arith, subst, sym, refl, ap}
use Rattle.std.specs.Prelude.{slice_get, ℤ, pos, ◌-ℤ◌, nat_le}
use Rattle.std.proofs.lemmas.Int.{ints}
use Rattle.std.proofs.lemmas.Bool.{cond_both}
use Rattle.std.proofs.lemmas.Option.{same_Some}
use Rattle.cc_base.specs.Lattices.{LatticeOf}
use Rattle.cc_base.specs.IntegerDomains.{IntegersOf, BoundLaws}
use Rattle.c_layout.specs.declared.leaf_lists.Class.{Class}
use Rattle.c_layout.specs.declared.leaf_lists.Class.TheVariants.{Char}
use Rattle.c_layout.specs.declared.leaf_lists.Leaf.{Leaf}
use Rattle.cfg.specs.declared.programs.Flow.{Flow}
use Rattle.store_cells.specs.NearValues.{near_value}
use Rattle.store.specs.Spelling.{character, character_number, one_character}
use Rattle.store_monotone.specs.Operations.StoreLaws.{AreBytes}
use Rattle.memory_model.specs.Memory.Bytes.{number}
use Rattle.memory_model.specs.Memory.Labels.{no_labels}
use Rattle.memory_model.specs.Memory.Numbers.{Labelled}
use Rattle.memory_model.specs.Memory.ScalarSizes.{class_bytes, is_pointer}
use Rattle.memory_model.specs.Memory.Scalars.{integer}
use Rattle.memory_model.specs.Memory.Tags.{tag_of}
use Rattle.store_sound.specs.Concretization.Matching.{Matched}
use Rattle.store_sound.specs.Concretization.RowMeaning.{MachineState}
use Rattle.transfer_sound.proofs.values.NearScalars.{IsNearNumber}
use Rattle.struct_copies_sound.proofs.Texts.{byte_small, one_number}
use Rattle.transfer_exact.specs.Values.SingleRows.{ExactLeaf}
use Rattle.transfer_exact.proofs.values.NearExact.{near_one}

-- a tag of a byte of a class is that of a character for characters alone
pub tag_of_character : (class : Class) (k : ℕ) → tag_of class k ≡ tag_of Char 0 → (class ≡ Char) × (k ≡ 0)
tag_of_character class k e =
    let f = same_Some (record { class = class; at = k }) (record { class = Char; at = 0 }) e in
    (ap (λ z. z.class) f, ap (λ z. z.at) f)

module _ {I : Type 0} {l : LatticeOf I} {n : IntegersOf I} {gamma : I → ℤ → Type 0} (q : BoundLaws l n gamma) (flow : Flow) (state : MachineState) (i : ℕ) (leaf : Leaf) (offset : ℕ) (text : List ℕ) (small : AreBytes text) (class : leaf.class ≡ Char)
    (own : Matched state.memory i leaf.offset leaf.class 0 (number (character text (leaf.offset - offset)) no_labels)) where
  abbrev byte : ℕ
  byte = character text (leaf.offset - offset)

  abbrev one : Labelled
  one = record { number = byte; labels = no_labels }

  each : (k : ℕ) (m : Labelled) → slice_get (one ∷ []) k ≡ Some m → Matched state.memory i (leaf.offset + k) leaf.class k (number m.number m.labels)
  each zero m g =
      let same = same_Some one m g in
      let place : leaf.offset ≡ leaf.offset + 0 = omega arith in
      subst (λ z. Matched state.memory i (leaf.offset + 0) leaf.class 0 (number z.number z.labels)) same (subst (λ z. Matched state.memory i z leaf.class 0 (number byte no_labels)) place own)
  each (suc k) m g = cc

  same_labels : (k : ℕ) (m : Labelled) → slice_get (one ∷ []) k ≡ Some m → m.labels ≡ no_labels
  same_labels zero m g = sym (ap (λ z. z.labels) (same_Some one m g))
  same_labels (suc k) m g = cc

  number_near : (signed : Bool) → IsNearNumber (character_number byte signed)
  number_near signed =
      let below = byte_small text (leaf.offset - offset) small in
      cond_both (signed && nat_le 128 byte) (pos byte -ℤ pos 256) (pos byte) IsNearNumber
      (λ g. record { from = omega (arith, ints); to = omega (arith, ints, below) })
      (λ g. record { from = omega (arith, ints); to = omega (arith, ints, below) })

  pub character_leaf : ExactLeaf l n flow state (near_value l n (one_character l n leaf offset text)) i leaf.offset leaf
  unfolding one_character
  character_leaf = record {
    held = Some (integer (character_number byte leaf.signed) no_labels);
    holds = record {
      integral = ap is_pointer class;
      numbers = one ∷ [];
      bytes = record { size = sym (ap (class_bytes flow.model) class); each = λ k m less g. each k m g };
      is = one_number leaf.signed byte (one ∷ []) refl (λ y g. sym (ap (λ z. z.number) (same_Some one y g)));
      same = same_labels;
    };
    tells = record { number = near_one q (n.one (character_number byte leaf.signed)) (character_number byte leaf.signed) (number_near leaf.signed) (q.one_bounds (character_number byte leaf.signed)); labels_are = refl; apart = record { bases = refl; null = refl; ended = refl }; determinate = refl };
  }
