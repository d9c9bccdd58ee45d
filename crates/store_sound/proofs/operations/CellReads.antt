-- What a cell gives for what the machine reads at one of its places.
use Rattle.std.proofs.Common.{◌≡◌, ℕ, zero, suc, ◌+◌, ◌<◌, Bool, true, false, cond, Option, Some, None, List, [], ◌∷◌, length, arith, subst, sym, refl, ap, ◌∙◌, inl, inr}
use Rattle.std.specs.Prelude.{slice_get, ℤ}
use Rattle.std.proofs.lemmas.Bool.{cases_Bool}
use Rattle.cc_base.specs.Lattices.{LatticeOf}
use Rattle.cc_base.specs.IntegerDomains.{IntegersOf}
use Rattle.c_layout.specs.declared.data_model.Model.{Model}
use Rattle.c_layout.specs.declared.leaf_lists.Class.{Class}
use Rattle.cfg.specs.declared.machine_instructions.Scalar.TheVariants as of
use Rattle.cfg.specs.declared.machine_instructions.Scalar as declared
use Rattle.cfg.specs.declared.programs.Flow.{Flow}
use Rattle.value_domain.specs.Values.LabelSets.{labels_leq, labels_order}
use Rattle.value_domain.specs.declared.values.label_sets.Labels as sets
use Rattle.memory_model.specs.Memory.Labels.{Labels}
use Rattle.store_sound.specs.Concretization.SeenLabels.{as_set}
use Rattle.value_domain.specs.declared.values.values.Value.{Value}
use Rattle.store_cells.specs.CellReads.{as_read, same_sign}
use Rattle.memory_model.specs.Memory.ScalarSizes.{class_bytes}
use Rattle.store_cells.specs.ScalarTypes.{kind_of}
use Rattle.store_cells.specs.ClassNumbers.{is_pointer}
use Rattle.memory_model.specs.Memory.Bytes.{MachinePointer, null, Content, indeterminate, number, part}
use Rattle.memory_model.specs.Memory.Instances.{Memory, bytes_at}
use Rattle.memory_model.specs.Memory.Numbers.{Labelled, number_of}
use Rattle.store_sound.specs.Concretization.Matching.{Matched, number_in, Holds}
use Rattle.memory_model.specs.Memory.Scalars.{Scalar, integer, pointer}
use Rattle.store_sound.specs.Concretization.ValueMeaning.{Naming, InGammaScalar, InGammaPointer, InGammaContent}
use Rattle.store_sound.specs.Concretization.SoundMemory.{IsMemoryOf}
use Rattle.store_sound.specs.Concretization.RowMeaning.{IsLiveOf, InGammaCell}
use Rattle.memory_model.specs.Effects.Accesses.{class_in, has_blank, numbers_in, joined_labels, pointer_in, pointer_by, are_parts, are_zeros, scalar_in, integer_in, pointer_scalar}
use Rattle.store_sound.specs.Operations.Scalars.{signed_in}
use Rattle.cc_base.specs.IntegerLaws.{SoundLaws}
use Rattle.store_sound.proofs.operations.Classes.{integer_class, class_size, class_above}
use Rattle.store_sound.proofs.operations.Reading.{blank_at, numbers_length, numbers_at}
use Rattle.store_sound.proofs.operations.Rereading.{reread}

-- the contents that lie at a place, each seen as a byte of the class
pub record Sees (m : Model) (memory : Memory) (i offset : ℕ) (class : Class) (cs : List Content) : Type 0 where
  pub long : length cs ≡ class_bytes m class
  pub each : (k : ℕ) (c : Content) → slice_get cs k ≡ Some c → (k < class_bytes m class) × Matched memory i (offset + k) class k c

pub labels_in : (ns : List Labelled) (bound : sets.Labels) → ((k : ℕ) (n : Labelled) → slice_get ns k ≡ Some n → labels_leq (as_set n.labels) bound ≡ true) → labels_leq (as_set (joined_labels ns)) bound ≡ true
labels_in [] bound h = labels_order.least_below bound
labels_in (n ∷ ns) bound h = labels_order.join_least (as_set n.labels) (as_set (joined_labels ns)) bound (h 0 n refl) (labels_in ns bound (λ k x e. h (suc k) x e))

pub integer_is : (v : Option (List Labelled)) (kind : _) (s : Scalar) → integer_in kind v ≡ Some s → (ns : List Labelled) × (v ≡ Some ns) × (s ≡ integer (number_of kind.signed ns) (joined_labels ns))
integer_is None kind s h = cc
integer_is (Some ns) kind s h = (ns, refl, cc)

pub scalar_pointer_is : (v : Option MachinePointer) (s : Scalar) → pointer_scalar v ≡ Some s → (p : MachinePointer) × (v ≡ Some p) × (s ≡ pointer p)
scalar_pointer_is None s h = cc
scalar_pointer_is (Some p) s h = (p, refl, cc)

cond_is : {A : Type 0} (b : Bool) (x y : A) → cond b (Some x) None ≡ Some y → (b ≡ true) × (x ≡ y)
cond_is true x y h = (refl, cc)
cond_is false x y h = cc

zero_first : (c : Content) (cs : List Content) → are_zeros (c ∷ cs) ≡ true → (labels : Labels) × (c ≡ number 0 labels)
zero_first indeterminate cs h = cc
zero_first (part p k) cs h = cc
zero_first (number zero labels) cs h = (labels, refl)
zero_first (number (suc n) labels) cs h = cc

module _ {I : Type 0} {l : LatticeOf I} {n : IntegersOf I} {gamma : I → ℤ → Type 0} (o : SoundLaws l n gamma) (flow : Flow) (naming : Naming) (memory : Memory) (sane : IsMemoryOf flow.model flow.bases.items naming memory) where
  module _ (b : ℕ) (class : Class) (signed : Bool) (Place : ℕ → ℕ → Type 0) (Owns : ℕ → ℕ → Type 0) (v : Value I) (cell : InGammaCell gamma flow naming memory b class signed Place Owns v) (i offset : ℕ) (alive : IsLiveOf naming memory b i) (place : Place (length (bytes_at memory i)) offset) (owns : (k : ℕ) → k < class_bytes flow.model class → Owns (offset + k) k) (cs : List Content) (sees : Sees flow.model memory i offset class cs) where
    content_stands : (k : ℕ) (c : Content) → slice_get cs k ≡ Some c → InGammaContent gamma naming memory v class c
    content_stands k c e = let m = sees.each k c e in cell.byte i (offset + k) k c alive (owns k m.0) m.1

    pub blank_stands : has_blank cs ≡ true → v.indeterminate ≡ true
    blank_stands h = let r = blank_at cs h in content_stands r.0 indeterminate r.1

    labels_stand : (ns : List Labelled) → numbers_in cs ≡ Some ns → labels_leq (as_set (joined_labels ns)) v.labels ≡ true
    labels_stand ns h = labels_in ns v.labels (λ k x e. (content_stands k (number_in x) (numbers_at cs ns k x h e)).0)

    held : (ns : List Labelled) → numbers_in cs ≡ Some ns → Holds flow.model memory i offset class ns
    held ns h = record { size = numbers_length cs ns h ∙ sees.long; each = λ k x small e. (sees.each k (number_in x) (numbers_at cs ns k x h e)).1 }

    are_bytes : (ns : List Labelled) → numbers_in cs ≡ Some ns → (k : ℕ) (x : Labelled) → slice_get ns k ≡ Some x → x.number < 256
    are_bytes ns h k x e = let m = (sees.each k (number_in x) (numbers_at cs ns k x h e)).1 in sane.bytes i (offset + k) _ m.here

    number_stands : (ns : List Labelled) → is_pointer class ≡ false → numbers_in cs ≡ Some ns → gamma v.num (number_of signed ns)
    number_stands ns p h = cell.whole i offset ns alive place p (held ns h)

    converted_stands : (ns : List Labelled) (t : Bool) → is_pointer class ≡ false → numbers_in cs ≡ Some ns → gamma (n.convert v.num (kind_of flow.model class t)) (number_of t ns)
    converted_stands ns t p h =
        let e : length ns ≡ class_bytes flow.model class = numbers_length cs ns h ∙ sees.long in
        let s = class_above flow.model class in
        subst (gamma (n.convert v.num (kind_of flow.model class t))) (reread signed t ns (kind_of flow.model class t) refl (sym e) (omega arith) (are_bytes ns h))
        (o.convert_stands (kind_of flow.model class t) v.num (number_of signed ns) (class_size flow.model class) (number_stands ns p h))

    same_signs : (s t : Bool) → same_sign s t ≡ true → s ≡ t
    same_signs true true h = refl
    same_signs true false h = cc
    same_signs false true h = cc
    same_signs false false h = refl

    integer_stands : (ns : List Labelled) (t : Bool) → is_pointer class ≡ false → numbers_in cs ≡ Some ns → InGammaScalar gamma naming memory (as_read n flow.model v class signed t) (integer (number_of t ns) (joined_labels ns))
    integer_stands ns t p h = elim (cases_Bool (same_sign signed t)) [
      | inl e ↦ rw (p, e) (subst (λ u. gamma v.num (number_of u ns)) (same_signs signed t e) (number_stands ns p h), labels_stand ns h)
      | inr e ↦ rw (p, e) (converted_stands ns t p h, labels_stand ns h)
    ]

    pointer_content : (c : Content) (ds : List Content) (p : MachinePointer) → cs ≡ c ∷ ds → is_pointer class ≡ true → pointer_by c cs ≡ Some p → InGammaPointer gamma naming memory v.pointer p
    pointer_content indeterminate ds p e k h = let r = cond_is (are_zeros cs) null p h in let z = zero_first indeterminate ds (subst (λ x. are_zeros x ≡ true) e r.0) in let f = z.1 in cc
    pointer_content (number m labels) ds p e k h =
        let r = cond_is (are_zeros cs) null p h in
        let s = content_stands 0 (number m labels) (subst (λ x. slice_get x 0 ≡ Some (number m labels)) (sym e) refl) in
        subst (InGammaPointer gamma naming memory v.pointer) r.1 (s.1 k)
    pointer_content (part q j) ds p e k h =
        let r = cond_is (are_parts q 0 cs) q p h in
        let s = content_stands 0 (part q j) (subst (λ x. slice_get x 0 ≡ Some (part q j)) (sym e) refl) in
        subst (InGammaPointer gamma naming memory v.pointer) r.1 s

    pointer_stands : (ds : List Content) (p : MachinePointer) → cs ≡ ds → is_pointer class ≡ true → pointer_in ds ≡ Some p → InGammaPointer gamma naming memory v.pointer p
    pointer_stands [] p e k h = cc
    pointer_stands (c ∷ ds) p e k h = pointer_content c ds p e k (subst (λ x. pointer_by c x ≡ Some p) (sym e) h)

    pub scalar_stands : (kind : declared.Scalar) (s : Scalar) → class ≡ class_in kind → scalar_in kind cs ≡ Some s → InGammaScalar gamma naming memory (as_read n flow.model v class signed (signed_in kind)) s
    scalar_stands (of.Int kind) s e h =
        let r = integer_is (numbers_in cs) kind s h in
        let p : is_pointer class ≡ false = subst (λ x. is_pointer x ≡ false) (sym e) (integer_class kind) in
        subst (InGammaScalar gamma naming memory (as_read n flow.model v class signed kind.signed)) (sym r.2) (integer_stands r.0 kind.signed p r.1)
    scalar_stands of.Pointer s e h =
        let r = scalar_pointer_is (pointer_in cs) s h in
        let p : is_pointer class ≡ true = ap is_pointer e in
        subst (InGammaScalar gamma naming memory (as_read n flow.model v class signed false)) (sym r.2) (rw p (pointer_stands cs r.0 refl p r.1))
