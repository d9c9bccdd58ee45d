-- What the machine reads where a leaf holds a scalar, or is indeterminate.
use Rattle.std.proofs.Common.{◌≡◌, ℕ, suc, ◌+◌, ◌-◌, ◌<◌, ◌≤◌, Bool, true, false, cond, Option, Some, None, List, [], ◌∷◌, length, arith, subst, sym, refl, ap, ◌∙◌}
use Rattle.std.specs.Prelude.{slice_get, ℤ}
use Rattle.std.proofs.lemmas.Bool.{and_from, eq-eqb, true≢false, or_right}
use Rattle.std.proofs.lemmas.List.{length-map}
use Rattle.std.proofs.lemmas.Option.{same_Some, slice_get_within}
use Rattle.std.proofs.Math.Bool.{or_self, or-false}
use Rattle.cc_base.specs.declared.int_types.IntType.{IntType}
use Rattle.cc_base.specs.declared.diagnostics.Rule.TheVariants as rule
use Rattle.c_layout.specs.declared.leaf_lists.Class.{Class}
use Rattle.c_layout.specs.declared.leaf_lists.Leaf.{Leaf}
use Rattle.c_layout.specs.declared.shapes.BaseInfo.{BaseInfo}
use Rattle.cfg.specs.declared.machine_instructions.Scalar as declared
use Rattle.cfg.specs.declared.machine_instructions.Scalar.TheVariants as of
use Rattle.cfg.specs.declared.programs.Flow.{Flow}
use Rattle.memory_model.specs.Memory.Bytes.{MachinePointer, null, into, Content, indeterminate, number, part, Byte}
use Rattle.memory_model.specs.Memory.Instances.{Instance, live, bytes_of, bytes_at, byte_at, life_at}
use Rattle.memory_model.specs.Memory.Labels.{Labels, no_labels, labels_join}
use Rattle.memory_model.specs.Memory.Numbers.{Labelled}
use Rattle.memory_model.specs.Memory.ScalarSizes.{class_bytes, is_pointer}
use Rattle.memory_model.specs.Memory.Scalars.{Scalar, integer, pointer}
use Rattle.memory_model.specs.Memory.Tags.{tag_of, fits_tag, fit_from}
use Rattle.memory_model.specs.Effects.Accesses.{class_in, is_blank, has_blank, numbers_in, joined_labels, same_pointer, is_part, are_parts, are_zeros, pointer_by, pointer_in, pointer_scalar, given, read_blank, read_contents, is_seen_as, bytes_seen, load_at}
use Rattle.memory_model.specs.Effects.ScalarBytes.{region, contents}
use Rattle.memory_model.specs.Effects.Touches.{Spot, is_allocated, storage_at}
use Rattle.memory_model.specs.Effects.Worlds.{World, Reply, stops, Left}
use Rattle.store_sound.specs.Concretization.Matching.{Matched, number_in}
use Rattle.store_sound.specs.Concretization.SoundMemory.{IsMemoryOf, IsInstanceOf}
use Rattle.store_sound.specs.Concretization.ValueMeaning.{Naming}
use Rattle.store_sound.specs.Operations.Scalars.{signed_in}
use Rattle.store_sound.proofs.operations.Classes.{class_above, is_same_class, integer_class}
use Rattle.store_sound.proofs.operations.LoadSound.{instance_there}
use Rattle.store_sound.proofs.operations.Reading.{region_at, region_length}
use Rattle.store_sound.proofs.operations.Slices.{get_map}
use Rattle.struct_copies_sound.specs.Leaves.StructLeaves.{IsStruct}
use Rattle.struct_copies_sound.proofs.leaves.Structs.{owned_at}
use Rattle.transfer_exact.specs.Values.SingleRows.{AreAll, HoldsNumber, HoldsPointing, HoldsScalar}
use Rattle.transfer_exact.proofs.places.OneLeaf.{owned}

-- ---- contents by their numbers

abbrev AreBy : (ℕ → Content) → List Content → Type 0
AreBy f cs = (k : ℕ) (c : Content) → slice_get cs k ≡ Some c → c ≡ f k

behind_first : (f : ℕ → Content) (c : Content) (cs : List Content) → AreBy f (c ∷ cs) → AreBy (λ k. f (suc k)) cs
behind_first f c cs h k x e = h (suc k) x e

all_blank : (c : Content) (cs : List Content) → AreBy (λ k. indeterminate) (c ∷ cs) → has_blank (c ∷ cs) ≡ true
all_blank c cs h = let e = h 0 c refl in rw e refl

none_blank : (f : ℕ → Content) (cs : List Content) → ((k : ℕ) → is_blank (f k) ≡ false) → AreBy f cs → has_blank cs ≡ false
none_blank f [] p h = refl
none_blank f (c ∷ cs) p h = let e = h 0 c refl in let g = p 0 in let r = none_blank (λ k. f (suc k)) cs (λ k. p (suc k)) (behind_first f c cs h) in rw (e, g, r) refl

all_zeros : (cs : List Content) → AreBy (λ k. number 0 no_labels) cs → are_zeros cs ≡ true
all_zeros [] h = refl
all_zeros (c ∷ cs) h = let e = h 0 c refl in let r = all_zeros cs (behind_first (λ k. number 0 no_labels) c cs h) in rw (e, r) refl

same_itself : (i offset lo hi : ℕ) → same_pointer (into i offset lo hi) (into i offset lo hi) ≡ true
same_itself i offset lo hi = and_from _ _ (eq-eqb i i refl) (and_from _ _ (eq-eqb offset offset refl) (and_from _ _ (eq-eqb lo lo refl) (eq-eqb hi hi refl)))

all_parts : (i offset lo hi k : ℕ) (cs : List Content) → AreBy (λ x. part (into i offset lo hi) (k + x)) cs → are_parts (into i offset lo hi) k cs ≡ true
all_parts i offset lo hi k [] h = refl
all_parts i offset lo hi k (c ∷ cs) h =
    let p : MachinePointer = into i offset lo hi in
    let e : c ≡ part p k = h 0 c refl ∙ ap (part p) (let z : k + 0 ≡ k = omega arith in z) in
    let one : is_part p k c ≡ true = ap (is_part p k) e ∙ and_from _ _ (same_itself i offset lo hi) (eq-eqb k k refl) in
    and_from _ _ one (all_parts i offset lo hi (suc k) cs (λ x d g. h (suc x) d g ∙ ap (part p) (let z : k + suc x ≡ suc k + x = omega arith in z)))

all_numbers : (cs : List Content) (ns : List Labelled) → length cs ≡ length ns → ((k : ℕ) (c : Content) (n : Labelled) → slice_get cs k ≡ Some c → slice_get ns k ≡ Some n → c ≡ number_in n) → numbers_in cs ≡ Some ns
all_numbers [] [] e h = refl
all_numbers [] (n ∷ ns) e h = absurd (omega (arith, e))
all_numbers (c ∷ cs) [] e h = absurd (omega (arith, e))
all_numbers (c ∷ cs) (n ∷ ns) e h =
    let f = h 0 c n refl refl in
    let r = all_numbers cs ns (omega (arith, e)) (λ k x y a b. h (suc k) x y a b) in
    rw (f, r) refl

no_blank_numbers : (cs : List Content) (ns : List Labelled) → length cs ≡ length ns → ((k : ℕ) (c : Content) (n : Labelled) → slice_get cs k ≡ Some c → slice_get ns k ≡ Some n → c ≡ number_in n) → has_blank cs ≡ false
no_blank_numbers [] ns e h = refl
no_blank_numbers (c ∷ cs) [] e h = absurd (omega (arith, e))
no_blank_numbers (c ∷ cs) (n ∷ ns) e h =
    let f = h 0 c n refl refl in
    let r = no_blank_numbers cs ns (omega (arith, e)) (λ k x y a b. h (suc k) x y a b) in
    rw (f, r) refl

join_none : (s : Labels) → labels_join s no_labels ≡ s
join_none s = λ i. record { low = or-false s.low i; high = or-false s.high i; changed = or-false s.changed i }

join_self : (s : Labels) → labels_join s s ≡ s
join_self s = λ i. record { low = or_self s.low i; high = or_self s.high i; changed = or_self s.changed i }

pub same_labels : (labels : Labels) (n : Labelled) (ns : List Labelled) → ((k : ℕ) (m : Labelled) → slice_get (n ∷ ns) k ≡ Some m → m.labels ≡ labels) → joined_labels (n ∷ ns) ≡ labels
same_labels labels n [] h = let e = h 0 n refl in rw e (join_none labels)
same_labels labels n (m ∷ ms) h =
    let e = h 0 n refl in
    let r = same_labels labels m ms (λ k x g. h (suc k) x g) in
    ap (λ z. labels_join z (joined_labels (m ∷ ms))) e ∙ (ap (labels_join labels) r ∙ join_self labels)

some_labels : (labels : Labels) (ns : List Labelled) → 0 < length ns → ((k : ℕ) (m : Labelled) → slice_get ns k ≡ Some m → m.labels ≡ labels) → joined_labels ns ≡ labels
some_labels labels [] e h = absurd (omega (arith, e))
some_labels labels (n ∷ ns) e h = same_labels labels n ns h

some_blank : (cs : List Content) → AreBy (λ k. indeterminate) cs → 0 < length cs → has_blank cs ≡ true
some_blank [] h e = absurd (omega (arith, e))
some_blank (c ∷ cs) h e = all_blank c cs h

-- ---- bytes under the tags of a class

all_fit : (allocated : Bool) (class : Class) (from : ℕ) (bs : List Byte) → ((k : ℕ) (b : Byte) → slice_get bs k ≡ Some b → b.tag ≡ tag_of class (from + k)) → fit_from allocated class from bs ≡ true
all_fit allocated class from [] h = refl
all_fit allocated class from (b ∷ bs) h =
    let e : b.tag ≡ tag_of class from = h 0 b refl ∙ ap (tag_of class) (let z : from + 0 ≡ from = omega arith in z) in
    let one : fits_tag allocated class from b.tag ≡ true = ap (fits_tag allocated class from) e ∙ and_from _ _ (is_same_class class class refl) (eq-eqb from from refl) in
    and_from _ _ one (all_fit allocated class (suc from) bs (λ k x g. h (suc k) x g ∙ ap (tag_of class) (let z : from + suc k ≡ suc from + k = omega arith in z)))

-- ---- what is read

abbrev pub held_reply : World → declared.Scalar → Option Scalar → Reply Scalar
held_reply w kind None = read_blank w kind
held_reply w kind (Some v) = given w (Some v)

module _ (flow : Flow) (naming : Naming) (w : World) (sane : IsMemoryOf flow.model flow.bases.items naming w.memory) (b i : ℕ) (named : naming i ≡ Some b) (alive : life_at w.memory i ≡ live) (base : BaseInfo) (at : slice_get flow.bases.items b ≡ Some base) (object : base.shape.heap ≡ false)
    (h : IsStruct flow.model base.shape.cells base.size) (single : (j : ℕ) (leaf : Leaf) → slice_get base.shape.cells j ≡ Some leaf → leaf.count ≡ 1)
    (j : ℕ) (leaf : Leaf) (among : slice_get base.shape.cells j ≡ Some leaf) where
  abbrev size : ℕ
  size = class_bytes flow.model leaf.class

  abbrev bytes : List Byte
  bytes = region (bytes_at w.memory i) leaf.offset size

  it : (x : Instance) × (slice_get w.memory i ≡ Some x)
  it = instance_there w.memory i alive

  known : IsInstanceOf flow.model base it.0
  known = sane.instances i b base it.0 named at it.1

  pub inside : leaf.offset + size ≤ length (bytes_at w.memory i)
  inside =
      let above = class_above flow.model leaf.class in
      let last = h.inside j (leaf.offset + (size - 1)) (size - 1) leaf among (owned flow.model base.shape.cells base.size h single j (leaf.offset + (size - 1)) (size - 1) leaf among refl (omega (arith, above))) in
      let e : length (bytes_at w.memory i) ≡ base.size = ap (λ z. length (bytes_of z)) it.1 ∙ known.size object in
      omega (arith, above, last, e)

  pub seen : (allocated : Bool) → fit_from allocated leaf.class 0 bytes ≡ true
  seen allocated = all_fit allocated leaf.class 0 bytes (λ k x e.
      let r = region_at (bytes_at w.memory i) leaf.offset size k (leaf.offset + k) x e refl in
      let t = known.tags object (leaf.offset + k) x (subst (λ z. slice_get (bytes_of z) (leaf.offset + k) ≡ Some x) it.1 r.1) in
      t ∙ owned_at flow.model base.shape.cells base.size h j (leaf.offset + k) k leaf among (owned flow.model base.shape.cells base.size h single j (leaf.offset + k) k leaf among refl r.0) ∙ ap (tag_of leaf.class) (let z : k ≡ 0 + k = omega arith in z))

  long : length (contents bytes) ≡ size
  long = length-map bytes (λ x. x.content) ∙ region_length (bytes_at w.memory i) leaf.offset size inside

  -- what a byte of the region has is what it is matched with
  content_is : (k : ℕ) (c d : Content) → slice_get (contents bytes) k ≡ Some c → Matched w.memory i (leaf.offset + k) leaf.class k d → c ≡ d
  unfolding byte_at
  content_is k c d e m =
      let x = get_map (λ x. x.content) bytes k c e in
      let r = region_at (bytes_at w.memory i) leaf.offset size k (leaf.offset + k) x.0 x.1 refl in
      sym x.2 ∙ ap (λ z. z.content) (same_Some x.0 (record { content = d; tag = m.tag }) (sym r.1 ∙ m.here))

  below : (k : ℕ) (c : Content) → slice_get (contents bytes) k ≡ Some c → k < size
  below k c e = let w = slice_get_within (contents bytes) k c e in let z = long in omega (arith, w, z)

  all_by : (f : ℕ → Content) → AreAll flow w.memory i leaf.offset leaf f → AreBy f (contents bytes)
  all_by f a k c e = content_is k c (f k) e (a k (below k c e))

  read_number : (k : IntType) → k.signed ≡ leaf.signed → (z : ℤ) (la : Labels) → HoldsNumber flow w.memory i leaf.offset leaf z la → read_contents w (of.Int k) (contents bytes) ≡ given w (Some (integer z la))
  read_number k sign z la hn =
      let e : length (contents bytes) ≡ length hn.numbers = long ∙ sym hn.bytes.size in
      let each : (x : ℕ) (c : Content) (n : Labelled) → slice_get (contents bytes) x ≡ Some c → slice_get hn.numbers x ≡ Some n → c ≡ number_in n =
      λ x c n f g. content_is x c (number_in n) f (hn.bytes.each x n (slice_get_within hn.numbers x n g) g) in
      let none = no_blank_numbers (contents bytes) hn.numbers e each in
      let all = all_numbers (contents bytes) hn.numbers e each in
      let above = class_above flow.model leaf.class in
      let labels = some_labels la hn.numbers (let y = hn.bytes.size in omega (arith, y, above)) hn.same in
      let is = hn.is in
      rw (none, all, sign, is, labels) refl

  read_pointer : (p : MachinePointer) → HoldsPointing flow w.memory i leaf.offset leaf p → read_contents w of.Pointer (contents bytes) ≡ given w (Some (pointer p))
  read_pointer null hp = by_first (contents bytes) (all_by (λ k. number 0 no_labels) hp.bytes) (let above = class_above flow.model leaf.class in let z = long in omega (arith, above, z))
    where
      by_first : (cs : List Content) → AreBy (λ k. number 0 no_labels) cs → 0 < length cs → read_contents w of.Pointer cs ≡ given w (Some (pointer null))
      by_first [] f e = absurd (omega (arith, e))
      by_first (c ∷ cs) f e =
          let none = none_blank (λ k. number 0 no_labels) (c ∷ cs) (λ k. refl) f in
          let zeros = all_zeros (c ∷ cs) f in
          let first = f 0 c refl in
          let is : pointer_in (c ∷ cs) ≡ Some null = ap (λ d. pointer_by d (c ∷ cs)) first ∙ ap (λ d. cond d (Some null) None) zeros in
          rw none (ap (λ d. given w (pointer_scalar d)) is)
  read_pointer (into o x lo hi) hp = by_first (contents bytes) (all_by (λ k. part (into o x lo hi) k) hp.bytes) (let above = class_above flow.model leaf.class in let z = long in omega (arith, above, z))
    where
      by_first : (cs : List Content) → AreBy (λ k. part (into o x lo hi) k) cs → 0 < length cs → read_contents w of.Pointer cs ≡ given w (Some (pointer (into o x lo hi)))
      by_first [] f e = absurd (omega (arith, e))
      by_first (c ∷ cs) f e =
          let none = none_blank (λ k. part (into o x lo hi) k) (c ∷ cs) (λ k. refl) f in
          let parts = all_parts o x lo hi 0 (c ∷ cs) (λ k d g. f k d g ∙ ap (part (into o x lo hi)) (let z : k ≡ 0 + k = omega arith in z)) in
          let first = f 0 c refl in
          let is : pointer_in (c ∷ cs) ≡ Some (into o x lo hi) = ap (λ d. pointer_by d (c ∷ cs)) first ∙ ap (λ d. cond d (Some (into o x lo hi)) None) parts in
          rw none (ap (λ d. given w (pointer_scalar d)) is)

  read_by : (kind : declared.Scalar) → class_in kind ≡ leaf.class → signed_in kind ≡ leaf.signed → (held : Option Scalar) → HoldsScalar flow w.memory i leaf.offset leaf held → read_contents w kind (contents bytes) ≡ held_reply w kind held
  read_by kind same sign None holds =
      let e = some_blank (contents bytes) (all_by (λ k. indeterminate) holds) (let above = class_above flow.model leaf.class in let z = long in omega (arith, above, z)) in
      rw e refl
  read_by (of.Int k) same sign (Some (integer z la)) holds = read_number k sign z la holds
  read_by of.Pointer same sign (Some (integer z la)) holds = absurd (true≢false (ap is_pointer same ∙ holds.integral))
  read_by (of.Int k) same sign (Some (pointer p)) holds = absurd (true≢false (sym holds.pointing ∙ (sym (ap is_pointer same) ∙ integer_class k)))
  read_by of.Pointer same sign (Some (pointer p)) holds = read_pointer p holds

  pub load_held : (kind : declared.Scalar) → class_in kind ≡ leaf.class → signed_in kind ≡ leaf.signed → (held : Option Scalar) → HoldsScalar flow w.memory i leaf.offset leaf held → load_at flow.model kind (record { instance = i; offset = leaf.offset }) w ≡ held_reply w kind held
  load_held kind same sign held holds = by_class (class_in kind) (sym same)
    where
      spot : Spot
      spot = record { instance = i; offset = leaf.offset }

      by_class : (class : Class) → leaf.class ≡ class → cond (is_seen_as (is_allocated (storage_at w.memory i)) class (bytes_seen flow.model w class spot)) (read_contents w kind (contents (bytes_seen flow.model w class spot))) (stops Left w) ≡ held_reply w kind held
      by_class class e = subst (λ z. cond (is_seen_as (is_allocated (storage_at w.memory i)) z (bytes_seen flow.model w z spot)) (read_contents w kind (contents (bytes_seen flow.model w z spot))) (stops Left w) ≡ held_reply w kind held) e
          (let s : is_seen_as (is_allocated (storage_at w.memory i)) leaf.class bytes ≡ true = or_right _ _ (seen (is_allocated (storage_at w.memory i))) in rw s (read_by kind same sign held holds))
