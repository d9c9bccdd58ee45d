-- A load of a class other than char is stood for.
use Rattle.std.proofs.Common.{◌≡◌, ℕ, zero, suc, ◌+◌, ◌<◌, ◌≤◌, Bool, true, false, cond, not, ◌||◌, Option, Some, None, List, length, arith, subst, sym, refl, ap, ◌∙◌, inl, inr}
use Rattle.std.specs.Prelude.{slice_get, ℤ, ◌==◌, count_by}
use Rattle.std.proofs.lemmas.Bool.{and_from, and_parts, eqb-true, lt-ltb}
use Rattle.std.proofs.lemmas.Option.{slice_get_within}
use Rattle.std.proofs.lemmas.List.{length-map}
use Rattle.cc_base.specs.Lattices.{LatticeOf, OrderLaws}
use Rattle.cc_base.specs.IntegerDomains.{IntegersOf, BoundLaws}
use Rattle.cc_base.specs.declared.diagnostics.Rule.TheVariants as rule
use Rattle.c_layout.specs.declared.data_model.Model.{Model}
use Rattle.c_layout.specs.declared.leaf_lists.Class.{Class}
use Rattle.c_layout.specs.declared.leaf_lists.Class.TheVariants.{Char}
use Rattle.c_layout.specs.declared.shapes.BaseInfo.{BaseInfo}
use Rattle.cfg.specs.declared.machine_instructions.Scalar.TheVariants as of
use Rattle.cfg.specs.declared.machine_instructions.Scalar as declared
use Rattle.cfg.specs.declared.programs.Flow.{Flow}
use Rattle.pointer_domain.specs.BaseSets.{bases_has}
use Rattle.pointer_domain.specs.declared.pointer_sets.Pointers.{Pointers}
use Rattle.value_domain.specs.Values.LabelSets.{labels_leq, no_labels}
use Rattle.value_domain.specs.Values.Values.{value_lattice}
use Rattle.value_domain.specs.declared.values.values.Value.{Value}
use Rattle.value_domain.specs.declared.values.row_cells.Cell.{Cell}
use Rattle.store_cells.specs.declared.cell_reads.Access.{Access}
use Rattle.store_cells.specs.CellReads.{as_read, same_sign}
use Rattle.store_cells.specs.ClassNumbers.{same_class, class_number, is_pointer}
use Rattle.memory_model.specs.Memory.ScalarSizes.{class_bytes}
use Rattle.store_cells.specs.RowPositions.{leaf_position, class_position, value_at, state_at, state_position}
use Rattle.store_objects.specs.LiveBases.{may_be_live}
use Rattle.store.specs.Loads.{load as abstract_load, load_bases, load_within, load_own, loaded, labels_of}
use Rattle.store.specs.Loads as loads
use Rattle.memory_model.specs.Memory.Bytes.{MachinePointer, into, Content, Tag, Byte}
use Rattle.memory_model.specs.Memory.Instances.{Memory, live, Instance, bytes_at, byte_at, life_at, bytes_of, life_of}
use Rattle.memory_model.specs.Memory.Tags.{fits_tag, fit_from, tag_of, tag_at}
use Rattle.store_sound.specs.Concretization.Places.{IsPlaceOf, IsLeafPlace, OwnedByLeaf, OwnedByClass, IsClassPlace}
use Rattle.store_sound.specs.Concretization.SoundMemory.{IsPointerIn, IsWithin, IsInstanceOf}
use Rattle.memory_model.specs.Memory.Scalars.{Scalar, integer, pointer}
use Rattle.store_sound.specs.Concretization.ValueMeaning.{Naming, InGammaInto, InGammaByLife, InGammaPointer, InGammaScalar, InGammaState}
use Rattle.store_sound.specs.Concretization.RowMeaning.{MachineState, IsLiveOf, InGammaCell, InGammaLeaf, InGammaClass, InGamma}
use Rattle.memory_model.specs.Effects.Worlds.{World, goes, stopped_by}
use Rattle.memory_model.specs.Effects.ScalarBytes.{region}
use Rattle.memory_model.specs.Effects.Touches.{is_allocated, storage_at, storage_of}
use Rattle.memory_model.specs.Effects.Accesses.{class_in, pointer_in, scalar_in, load}
use Rattle.store_sound.specs.Operations.Gives.{Gives}
use Rattle.store_sound.specs.Operations.Statements.{state_in}
use Rattle.store_sound.specs.Concretization.SeenLabels.{as_set}
use Rattle.store_sound.specs.Operations.Scalars.{signed_in}
use Rattle.cc_base.specs.IntegerLaws.{SoundLaws}
use Rattle.store_sound.specs.Operations.Shapes.{AreShaped, at_offset}
use Rattle.store_sound.proofs.operations.Larger.{value_below, scalar_larger}
use Rattle.store_sound.proofs.operations.Windows.{window_has}
use Rattle.store_sound.proofs.operations.Classes.{class_small, class_number_back, class_above, same_class_is, integer_class}
use Rattle.store_sound.proofs.operations.Selected.{counted_place, uncounted_place}
use Rattle.store_sound.proofs.operations.Slices.{get_there}
use Rattle.store_sound.proofs.operations.Reading.{fit_at, region_at, region_length, seen_matched}
use Rattle.store_sound.proofs.operations.MachineLoads.{HasRead, load_goes, load_blank}
use Rattle.store_sound.proofs.operations.CellReads.{scalar_pointer_is, Sees, blank_stands, scalar_stands}
use Rattle.store_sound.proofs.operations.TagPlaces.{tag_place}
use Rattle.store_sound.proofs.operations.Reached.{leaves_give, class_gives, own_gives, base_gives, bases_give}

-- ---- the instance at hand

instance_in : (o : Option Instance) → life_of o ≡ live → (it : Instance) × (o ≡ Some it)
instance_in None h = cc
instance_in (Some it) h = (it, refl)

pub instance_there : (memory : Memory) (i : ℕ) → life_at memory i ≡ live → (it : Instance) × (slice_get memory i ≡ Some it)
instance_there memory i h = instance_in (slice_get memory i) h

pub base_there : (bases : List BaseInfo) (b : ℕ) → b < length bases → (base : BaseInfo) × (slice_get bases b ≡ Some base)
base_there bases b h = get_there bases b h

-- the tag of a byte of an object that is seen as the first of a class is that of a leaf
first_tag : (class : Class) (tag : Option Tag) → same_class class Char ≡ false → fits_tag false class 0 tag ≡ true → tag ≡ tag_of class 0
first_tag class None e h = cc
first_tag class (Some t) e h = let p = and_parts (same_class t.class class) (t.at == 0) h in let a = same_class_is _ _ p.0 in let b = eqb-true _ _ p.1 in λ i. Some (record { class = a i; at = b i })

pub live_if : (heap alive : Bool) → (heap ≡ true → alive ≡ true) → (not heap || alive) ≡ true
live_if true alive h = h refl
live_if false alive h = refl

-- what the machine has at hand where it reads a scalar of a class
pub record IsRead (model : Model) (memory : Memory) (class : Class) (i offset : ℕ) : Type 0 where
  pub alive : life_at memory i ≡ live
  pub inside : offset + class_bytes model class ≤ length (bytes_at memory i)
  pub seen : fit_from (is_allocated (storage_at memory i)) class 0 (region (bytes_at memory i) offset (class_bytes model class)) ≡ true

module _ {I : Type 0} {l : LatticeOf I} {n : IntegersOf I} {gamma : I → ℤ → Type 0} (o : OrderLaws l) (q : BoundLaws l n gamma) (flow : Flow) (shaped : AreShaped flow.bases.items) (naming : Naming) (row : List (Cell I)) (state : MachineState) (s : InGamma l n gamma flow naming row state) where
  module _ {P : Value I → Type 0} (up : (x y : Value I) → (value_lattice l).leq x y ≡ true → P x → P y) (access : Access) (i offset : ℕ) (from : access.window.lo ≤ offset) (to : offset ≤ access.window.hi) (read : IsRead flow.model state.memory access.class i offset) (b : ℕ) (base : BaseInfo) (at : slice_get flow.bases.items b ≡ Some base) (named : naming i ≡ Some b) (cells : (signed : Bool) (Place Owns : ℕ → ℕ → Type 0) (v : Value I) → InGammaCell gamma flow naming state.memory b access.class signed Place Owns v → Place (length (bytes_at state.memory i)) offset → ((k : ℕ) → k < class_bytes flow.model access.class → Owns (offset + k) k) → P (as_read n flow.model v access.class signed access.signed)) where
    pub at_leaf : IsLeafPlace base.shape.cells access.class offset → Gives P (loads.load_leaves l n flow.model base row access)
    at_leaf place =
        let x : InGammaLeaf gamma flow naming state.memory b place.leaf (value_at l n row (leaf_position base place.at)) = s.leaves b place.at base place.leaf at place.among in
        let y = subst (λ k. InGammaCell gamma flow naming state.memory b k place.leaf.signed (λ size z. IsPlaceOf place.leaf z) (OwnedByLeaf flow.model place.leaf) (value_at l n row (leaf_position base place.at))) place.same x in
        leaves_give o n up flow.model row access offset from to base (shaped.each b base at) place
        (cells place.leaf.signed (λ size z. IsPlaceOf place.leaf z) (OwnedByLeaf flow.model place.leaf) (value_at l n row (leaf_position base place.at)) y place.place
        (λ k h. record { start = offset; place = place.place; there = refl; small = subst (λ d. k < class_bytes flow.model d) (sym place.same) h }))

    pub at_class : base.shape.heap ≡ true → count_by (at_offset access.class offset) base.shape.cells ≡ 0 → Gives P (loads.load_class_cell l n flow.model base row access)
    at_class heap none =
        let shape = shaped.each b base at in
        let f : IsLeafPlace base.shape.cells access.class offset → ⊥ = λ p. uncounted_place base.shape.cells access.class offset (shape.single heap) none p in
        let x = s.classes b (class_number access.class) base at heap (class_small access.class) in
        let y = subst (λ k. InGammaClass gamma flow naming state.memory b base k (value_at l n row (class_position base (class_number access.class)))) (class_number_back access.class) x in
        class_gives o n up flow.model row access offset from to base shape heap f none
        (cells true (IsClassPlace flow.model base.shape.cells access.class) (OwnedByClass flow.model base.shape.cells access.class) (value_at l n row (class_position base (class_number access.class))) y (record { fits = read.inside; no_leaf = f })
        (λ k h. record { small = h; no_leaf = λ start e p. f (subst (IsLeafPlace base.shape.cells access.class) (let d : start ≡ offset = omega arith in d) p) }))

    pub on_heap : base.shape.heap ≡ true → (count : ℕ) → count_by (at_offset access.class offset) base.shape.cells ≡ count → Gives P (load_own l n flow.model base row access)
    on_heap heap zero e = own_gives o n up flow.model row access offset from to base (shaped.each b base at) (inr (at_class heap e))
    on_heap heap (suc k) e = own_gives o n up flow.model row access offset from to base (shaped.each b base at) (inl (at_leaf (counted_place base.shape.cells access.class offset k ((shaped.each b base at).single heap) e)))

    -- the first byte that is read
    first_byte : (x : Byte) × (byte_at state.memory i offset ≡ Some x) × (fits_tag (is_allocated (storage_at state.memory i)) access.class 0 x.tag ≡ true)
    unfolding byte_at
    first_byte =
        let z = class_above flow.model access.class in
        let t = get_there (region (bytes_at state.memory i) offset (class_bytes flow.model access.class)) 0 (let e = region_length (bytes_at state.memory i) offset (class_bytes flow.model access.class) read.inside in omega arith) in
        let r = region_at (bytes_at state.memory i) offset (class_bytes flow.model access.class) 0 offset t.0 t.1 (omega arith) in
        (t.0, r.1, fit_at _ access.class 0 _ 0 0 t.0 read.seen t.1 (omega arith))

    on_object : same_class access.class Char ≡ false → base.shape.heap ≡ false → Gives P (load_own l n flow.model base row access)
    unfolding byte_at
    on_object wide heap =
        let f = first_byte in
        let it = instance_there state.memory i read.alive in
        let k : IsInstanceOf flow.model base it.0 = s.sane.instances i b base it.0 named at it.1 in
        let st : is_allocated (storage_at state.memory i) ≡ false = ap (λ z. is_allocated (storage_of z)) it.1 ∙ (ap is_allocated k.storage ∙ ((shaped.each b base at).kind ∙ heap)) in
        let g : slice_get it.0.bytes offset ≡ Some f.0 = subst (λ z. slice_get (bytes_of z) offset ≡ Some f.0) it.1 f.1 in
        let e : f.0.tag ≡ tag_at flow.model base.shape.cells offset = k.tags heap offset f.0 g in
        let t : f.0.tag ≡ tag_of access.class 0 = first_tag access.class f.0.tag wide (subst (λ z. fits_tag z access.class 0 f.0.tag ≡ true) st f.2) in
        own_gives o n up flow.model row access offset from to base (shaped.each b base at) (inl (at_leaf (tag_place flow.model base.shape.cells offset access.class (sym e ∙ t))))

    pub may_live : may_be_live l n base row ≡ true
    may_live = live_if base.shape.heap _ (λ e.
        let x = s.states b i base at e named in
        let y = subst (λ z. InGammaState gamma naming state.memory (state_at l n row (state_position base)) z (length (bytes_at state.memory i))) read.alive x in
        y.1)

    in_base : same_class access.class Char ≡ false → (h : Bool) → base.shape.heap ≡ h → Gives P (load_own l n flow.model base row access)
    in_base wide false e = on_object wide e
    in_base wide true e = on_heap e _ refl

    pub load_reaches : same_class access.class Char ≡ false → (set : _) → bases_has set b ≡ true → Gives P (load_bases l n flow.model flow.bases.items row set access)
    load_reaches wide set has =
        let f = shaped.few in
        let w = slice_get_within flow.bases.items b base at in
        bases_give o n up flow.model row access offset from to flow.bases.items set b base at
        (and_from _ _ (and_from _ _ (lt-ltb _ _ (omega arith)) has) may_live)
        (base_gives o n up flow.model row access offset from to base (shaped.each b base at) wide (in_base wide base.shape.heap refl))

-- ---- the machine's load

cond_flag : {I : Type 0} (b : Bool) (x y : Value I) → x.indeterminate ≡ true → y.indeterminate ≡ true → (cond b x y).indeterminate ≡ true
cond_flag true x y h k = h
cond_flag false x y h k = k

-- the value that the abstract load gives
abbrev pub table : {I : Type 0} → LatticeOf I → IntegersOf I → Flow → List (Cell I) → Pointers I → declared.Scalar → Option (Value I)
table l n flow row p kind = loads.load l n flow.model flow.bases.items row p (class_in kind) (signed_in kind)

abbrev pub wide : declared.Scalar → Type 0
wide kind = same_class (class_in kind) Char ≡ false

module _ {I : Type 0} {l : LatticeOf I} {n : IntegersOf I} {gamma : I → ℤ → Type 0} (o : OrderLaws l) (q : BoundLaws l n gamma) (c : SoundLaws l n gamma) (flow : Flow) (shaped : AreShaped flow.bases.items) (naming : Naming) (row : List (Cell I)) (w : World) (temps : ℕ → Option Scalar) (entered : ℕ → Option ℕ) (s : InGamma l n gamma flow naming row (state_in w temps entered)) where
  pub into_live : (v : Pointers I) (i offset lo hi : ℕ) → life_at w.memory i ≡ live → InGammaPointer gamma naming w.memory v (into i offset lo hi) → InGammaInto gamma naming w.memory v i offset lo hi
  into_live v i offset lo hi e h = subst (λ z. InGammaByLife gamma naming w.memory v z i offset lo hi) e h

  pub relabelled : {P : Value I → Type 0} (class : Class) (x : Option (Value I)) → ((v : Value I) → P v → P (record v { labels = labels_of class v.labels })) → Gives P x → Gives P (loaded class x)
  relabelled class None f g = let e = g.is in cc
  relabelled {P} class (Some v) f g = record { value = record v { labels = labels_of class v.labels }; is = refl; good = f v (subst P (cc g.is) g.good) }

  -- what holds of what each cell of the place gives holds of what the load gives
  loads_give : {P : Value I → Type 0} (up : (x y : Value I) → (value_lattice l).leq x y ≡ true → P x → P y) (p : Pointers I) (at : MachinePointer) (kind : declared.Scalar) (cs : List Content) → wide kind → ((v : Value I) → P v → P (record v { labels = labels_of (class_in kind) v.labels })) → InGammaPointer gamma naming w.memory p at → IsPointerIn w.memory at → HasRead flow.model kind w at cs
      → ((i offset b : ℕ) (signed : Bool) (Place Owns : ℕ → ℕ → Type 0) (v : Value I) → Sees flow.model w.memory i offset (class_in kind) cs → IsLiveOf naming w.memory b i → InGammaCell gamma flow naming w.memory b (class_in kind) signed Place Owns v → Place (length (bytes_at w.memory i)) offset → ((k : ℕ) → k < class_bytes flow.model (class_in kind) → Owns (offset + k) k) → P (as_read n flow.model v (class_in kind) signed (signed_in kind)))
      → Gives P (table l n flow row p kind)
  unfolding abstract_load
  loads_give {P} up p at kind cs small relabel st inside r cells =
      let size = class_bytes flow.model (class_in kind) in
      let t = into_live p r.i r.offset r.lo r.hi r.alive (subst (InGammaPointer gamma naming w.memory p) r.pointer st) in
      let u : IsWithin w.memory r.i r.offset r.lo r.hi = subst (IsPointerIn w.memory) r.pointer inside in
      let d = u.within in
      let m = s.sane.small r.i in
      let below = r.below in
      let z = window_has q p size r.offset r.lo r.hi t.lower t.relative t.room r.above r.below (omega arith) in
      let base = base_there flow.bases.items t.base (s.sane.few r.i t.base t.named) in
      let seen : fit_from (is_allocated (storage_at w.memory r.i)) (class_in kind) 0 (region (bytes_at w.memory r.i) r.offset size) ≡ true = rw small at r.seen in
      let read : IsRead flow.model w.memory (class_in kind) r.i r.offset = record { alive = r.alive; inside = omega arith; seen = seen } in
      let long : length cs ≡ size = ap length r.here ∙ (length-map (region (bytes_at w.memory r.i) r.offset size) (λ b. b.content) ∙ region_length (bytes_at w.memory r.i) r.offset size (omega arith)) in
      let sees : Sees flow.model w.memory r.i r.offset (class_in kind) cs = record { long = long; each = λ k x e. seen_matched w.memory r.i r.offset (is_allocated (storage_at w.memory r.i)) (class_in kind) size k x seen (subst (λ y. slice_get y k ≡ Some x) r.here e) } in
      let access : Access = record { class = class_in kind; signed = signed_in kind; window = z.window } in
      let g = load_reaches o q flow shaped naming row (state_in w temps entered) s up access r.i r.offset z.from z.to read t.base base.0 base.1 t.named
      (λ signed Place Owns v cell place owns. cells r.i r.offset t.base signed Place Owns v sees (record { named = t.named; alive = r.alive }) cell place owns) small p.bases t.among in
      rw z.is (relabelled (class_in kind) _ relabel g)

  pub relabel_scalar : (kind : declared.Scalar) (x : Value I) (v : Scalar) (cs : List Content) → scalar_in kind cs ≡ Some v → InGammaScalar gamma naming w.memory x v → InGammaScalar gamma naming w.memory (record x { labels = labels_of (class_in kind) x.labels }) v
  relabel_scalar (of.Int k) x (integer z ls) cs h g = (g.0, subst (λ b. labels_leq (as_set ls) (cond b no_labels x.labels) ≡ true) (sym (integer_class k)) g.1)
  relabel_scalar (of.Int k) x (pointer p) cs h g = g
  relabel_scalar of.Pointer x (integer z ls) cs h g = let r = scalar_pointer_is (pointer_in cs) (integer z ls) h in let e = r.2 in cc
  relabel_scalar of.Pointer x (pointer p) cs h g = g

  pub load_stands : (p : Pointers I) (at : MachinePointer) (kind : declared.Scalar) (v : Scalar) (u : World) → wide kind → InGammaPointer gamma naming w.memory p at → IsPointerIn w.memory at → load flow.model kind (pointer at) w ≡ goes v u → Gives (λ x. InGammaScalar gamma naming w.memory x v) (table l n flow row p kind)
  load_stands p at kind v u small st inside h =
      let r = load_goes flow.model kind at w u v h in
      loads_give (λ x y b. scalar_larger q naming w.memory x y v (value_below l x y b)) p at kind r.0 small
      (λ x g. relabel_scalar kind x v r.0 r.3 g) st inside r.1
      (λ i offset b signed Place Owns x sees alive cell place owns. scalar_stands c flow naming w.memory s.sane b (class_in kind) signed Place Owns x cell i offset alive place owns r.0 sees kind v refl r.3)

  pub blank_flagged : (p : Pointers I) (at : MachinePointer) (kind : declared.Scalar) → wide kind → InGammaPointer gamma naming w.memory p at → IsPointerIn w.memory at → load flow.model kind (pointer at) w ≡ stopped_by w rule.Uninitref → Gives (λ x. x.indeterminate ≡ true) (table l n flow row p kind)
  blank_flagged p at kind small st inside h =
      let r = load_blank flow.model kind at w h in
      loads_give (λ x y b. (value_below l x y b).indeterminate) p at kind r.0 small
      (λ x e. e) st inside r.1
      (λ i offset b signed Place Owns x sees alive cell place owns. cond_flag (is_pointer (class_in kind) || same_sign signed (signed_in kind)) x _ (blank_stands c flow naming w.memory s.sane b (class_in kind) signed Place Owns x cell i offset alive place owns r.0 sees r.2) (blank_stands c flow naming w.memory s.sane b (class_in kind) signed Place Owns x cell i offset alive place owns r.0 sees r.2))
