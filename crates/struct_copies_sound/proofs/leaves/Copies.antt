-- A copy of a struct between two instances, and which cells the write of a leaf replaces.
use Rattle.std.proofs.Common.{◌≡◌, ℕ, ◌+◌, ◌-◌, ◌*◌, ◌<◌, ◌≤◌, ◌^◌, Bool, true, false, cond, ◌&&◌, Some, List, length, arith, subst, sym, refl, ap, ◌∙◌, inl, inr}
use Rattle.std.specs.Prelude.{slice_get, ◌==◌, nat_lt}
use Rattle.std.proofs.lemmas.Bool.{cases_eq, and_parts, eqb-true, ltb-true}
use Rattle.std.proofs.lemmas.Option.{same_Some, slice_get_within}
use Rattle.c_layout.specs.StructViews.{StructView}
use Rattle.c_layout.specs.declared.data_model.Model.{Model}
use Rattle.c_layout.specs.declared.leaf_lists.Leaf.{Leaf}
use Rattle.c_layout.specs.declared.shapes.BaseInfo.{BaseInfo}
use Rattle.cfg.specs.WellFormed.{base_cells}
use Rattle.cfg.specs.declared.programs.Flow.{Flow}
use Rattle.pointer_domain.specs.BaseSets.{bases_has, bases_count, bases_within}
use Rattle.pointer_domain.specs.declared.base_sets.Bases.{Bases}
use Rattle.store_cells.specs.declared.access_windows.Window.{Window}
use Rattle.store_objects.specs.LiveBases.{most_bases, has_base, single_bases, is_one_instance}
use Rattle.store_cells.specs.RowPositions.{leaf_position}
use Rattle.memory_model.specs.Memory.ScalarSizes.{class_bytes, same_class}
use Rattle.memory_model.specs.Memory.Bytes.{Byte}
use Rattle.memory_model.specs.Memory.Instances.{Memory, live, bytes_at, byte_at, life_at}
use Rattle.memory_model.specs.Memory.Tags.{tag_at}
use Rattle.memory_model.specs.Effects.StructCopies.{fits_leaf, may_be_copied, copied_tag}
use Rattle.memory_model.specs.Effects.Touches.{is_allocated, storage_at}
use Rattle.store_sound.specs.Concretization.Places.{IsPlaceOf, OwnedByLeaf}
use Rattle.store_sound.specs.Concretization.SoundMemory.{IsMemoryOf}
use Rattle.store_sound.specs.Concretization.ValueMeaning.{Naming}
use Rattle.store_sound.specs.Concretization.RowMeaning.{IsLiveOf}
use Rattle.store_sound.specs.Operations.Shapes.{SeesPadding, IsLaidOut}
use Rattle.store_sound.proofs.operations.Classes.{class_above, same_class_is}
use Rattle.store_sound.proofs.operations.OneBases.{one_base}
use Rattle.store_sound.proofs.operations.Sets.{is_single}
use Rattle.store_sound.proofs.operations.StoreLeaves.{live_ended, not_older}
use Rattle.store_sound.proofs.operations.StoreRows.{Fits, leaf_is, class_is}
use Rattle.store_sound.specs.Regions.RegionWrites.{IsRegion}
use Rattle.struct_copies_sound.specs.Spans.SpanBytes.{IsInSpan, IsShortSpan}
use Rattle.store_struct_leaves.specs.CopyPlaces.{span_of_leaf, span_is_one, is_apart, all_in_one, joined_meet, meets, is_reached}
use Rattle.store_structs.specs.LeafNumbers.{struct_leaf}
use Rattle.store_structs.specs.StructCopies.{Route, route_for, leaf_access}
use Rattle.store_struct_leaves.specs.declared.copy_places.Span.{Span}
use Rattle.store_struct_leaves.specs.declared.leaf_copies.LeafAccess.{LeafAccess}
use Rattle.struct_copies_sound.specs.Cells.LeafWrites.{IsReplacedAt}
use Rattle.struct_copies_sound.proofs.leaves.Cells.{CellName, leaf_cell, class_cell, IsThere, position, Owns}
use Rattle.struct_copies_sound.proofs.leaves.ReadCells.{AreFew, IsSpot}
use Rattle.struct_copies_sound.proofs.leaves.StraySpans.{hit_of}
use Rattle.struct_copies_sound.specs.Leaves.StructLeaves.{IsPlain, IsStruct}

-- a byte of the region, and where it comes from
pub record Came (m : Model) (leaves : List Leaf) (old : Memory) (i offset j at x : ℕ) (y : Byte) : Type 0 where
  pub was : Byte
  pub source : Byte
  pub there : byte_at old i x ≡ Some was
  pub from : byte_at old j (at + (x - offset)) ≡ Some source
  pub content : y.content ≡ source.content
  pub tag : y.tag ≡ copied_tag (is_allocated (storage_at old i)) (tag_at m leaves (x - offset)) was.tag
  pub seen : fits_leaf (is_allocated (storage_at old j)) (tag_at m leaves (x - offset)) source ≡ true
  pub seen_there : is_allocated (storage_at old i) ≡ false → fits_leaf false (tag_at m leaves (x - offset)) was ≡ true
  pub may : may_be_copied source.content (tag_at m leaves (x - offset)) ≡ true

-- an instance of a base in a set, and an offset in a window
pub record IsSide (flow : Flow) (naming : Naming) (memory : Memory) (set : Bases) (w : Window) (i offset size : ℕ) : Type 0 where
  pub b : ℕ
  pub base : BaseInfo
  pub at : slice_get flow.bases.items b ≡ Some base
  pub named : naming i ≡ Some b
  pub alive : life_at memory i ≡ live
  pub has : has_base set b ≡ true
  pub lo : w.lo ≤ offset
  pub hi : offset ≤ w.hi
  pub fits : offset + size ≤ length (bytes_at memory i)

pub record Copied (flow : Flow) (naming : Naming) (old new : Memory) : Type 0 where
  -- the struct
  pub structs : List StructView
  pub index : ℕ
  pub leaves : List Leaf
  pub size : ℕ
  pub numbered : (number : ℕ) → slice_get leaves number ≡ struct_leaf structs flow.model.pointer index number
  pub struct : IsStruct flow.model leaves size
  -- both sides
  pub target : Bases
  pub to : Window
  pub i : ℕ
  pub offset : ℕ
  pub target_side : IsSide flow naming old target to i offset size
  pub source : Bases
  pub from : Window
  pub j : ℕ
  pub at : ℕ
  pub source_side : IsSide flow naming old source from j at size
  -- memory
  pub region : IsRegion old new i offset size
  pub came : (x : ℕ) (y : Byte) → offset ≤ x → x < offset + size → byte_at new i x ≡ Some y → Came flow.model leaves old i offset j at x y
  pub apart : (x : ℕ) → j ≡ i → offset ≤ x → x < offset + size → at ≤ x → x < at + size → offset ≡ at
  pub sane : IsMemoryOf flow.model flow.bases.items naming old
  pub short : (h : ℕ) → length (bytes_at old h) ≤ 2 ^ 63 - 1
  -- the program
  pub laid : IsLaidOut flow flow.width
  pub padding : SeesPadding flow.model flow.bases.items
  pub few : (b : ℕ) (base : BaseInfo) → slice_get flow.bases.items b ≡ Some base → AreFew base

-- ---- spans

pub span_has : (m : Model) (leaf : Leaf) (w : Window) (o st : ℕ) → IsPlain m leaf → w.lo ≤ o → o ≤ w.hi → IsPlaceOf leaf st → o + st ≤ 2 ^ 63 → IsInSpan (span_of_leaf leaf w) (o + st)
span_has m leaf w o st plain lo hi p near =
    let there = p.there in
    let e : leaf.stride * p.turn ≡ p.turn * leaf.stride = omega arith in
    record { turn = p.turn; few = p.few; from = omega (arith, there, e, lo); to = omega (arith, there, e, hi, near) }

pub span_short : (m : Model) (leaf : Leaf) (w : Window) → IsPlain m leaf → IsShortSpan (span_of_leaf leaf w)
span_short m leaf w plain =
    let a = class_above m leaf.class in
    let f = plain.fits in
    let c = plain.few in
    let n = plain.near in
    record { apart = omega (arith, a, f); few = omega (arith, c); short = omega (arith, n) }

-- a leaf of one place that is reached where the span is one offset stands there
one_offset : (leaf : Leaf) → leaf.count ≡ 1 → (s : Span) → s.count ≡ 1 → s.first.lo ≡ s.first.hi → s.first.hi < 2 ^ 64 - 1 → meets leaf s ≡ true → leaf.offset ≡ s.first.lo
unfolding meets
one_offset leaf one s once same small h = by_apart (is_apart s) h
  where
    at : (t : Span) → t.count ≡ 1 → t.first.lo ≡ s.first.lo → t.first.hi ≡ s.first.lo → joined_meet leaf t ≡ true → leaf.offset ≡ s.first.lo
    at t c lo hi g =
        let r = hit_of leaf one t g in
        let below = r.below in
        let z : r.number ≡ 0 = omega (arith, below, c) in
        let times : r.number * t.stride ≡ 0 = ap (λ y. y * t.stride) z ∙ omega arith in
        let from = r.from in
        let to = r.to in
        omega (arith, times, from, to, lo, hi)

    by_apart : (c : Bool) → joined_meet leaf (cond c s (all_in_one s)) ≡ true → leaf.offset ≡ s.first.lo
    by_apart true g = at s once refl (sym same) g
    by_apart false g =
        let none : (s.count - 1) * s.stride ≡ 0 = ap (λ y. (y - 1) * s.stride) once ∙ omega arith in
        at (all_in_one s) refl refl (omega (arith, none, same, small)) g

-- ---- a cell that a leaf's write replaces

module _ {flow : Flow} {naming : Naming} {old new : Memory} (k : Copied flow naming old new) where
  abbrev pub alone : Bool
  alone = is_one_instance flow.bases.items k.target

  abbrev pub route : Route
  route = route_for flow.model flow.bases.items k.structs k.index k.target k.to k.source k.from

  abbrev pub written : Leaf → LeafAccess
  written leaf = leaf_access leaf k.to

  abbrev pub IsReplaced : Leaf → ℕ → ℕ → ℕ → BaseInfo → Leaf → Type 0
  IsReplaced leaf p d z base own = IsReplacedAt flow.bases.items k.target (leaf_access leaf k.to) (is_one_instance flow.bases.items k.target) p d z base own

  pub fits_base : (d : ℕ) (base : BaseInfo) → slice_get flow.bases.items d ≡ Some base → Fits base
  fits_base d base e = let a = k.laid.laid.close d base e in let c = k.laid.laid.small in omega (arith, a, c)

  -- the position of a cell lies among its base's
  pub position_in : (d : ℕ) (base : BaseInfo) → slice_get flow.bases.items d ≡ Some base → (c : CellName) → IsThere flow.model base c → (base.first ≤ position flow.model base c) × (position flow.model base c < base.first + base_cells base)
  position_in d base e (leaf_cell j leaf) h =
      let t = slice_get_within base.shape.cells j leaf h in
      let x = leaf_is base j (fits_base d base e) t in
      (omega (arith, x), omega (arith, x, t))
  position_in d base e (class_cell c) h =
      let six : cond {A = ℕ} base.shape.heap 6 0 ≡ 6 = ap (λ z. cond {A = ℕ} z 6 0) h.0 in
      let small = h.1 in
      let x = class_is base c (fits_base d base e) (omega (arith, six, small)) in
      (omega (arith, x), omega (arith, x, six, small))

  -- a leaf at the position of a cell is that of the cell
  pub same_cell : (d : ℕ) (base : BaseInfo) → slice_get flow.bases.items d ≡ Some base → (c : CellName) → IsThere flow.model base c → (f z : ℕ) (other : BaseInfo) (own : Leaf) → slice_get flow.bases.items f ≡ Some other → slice_get other.shape.cells z ≡ Some own → leaf_position other z ≡ position flow.model base c → (f ≡ d) × (c ≡ leaf_cell z own)
  same_cell d base e c h f z other own g u same = elim (cases_eq f d) [
    | inr ne ↦ (let x = position_in d base e c h in
        let y = position_in f other g (leaf_cell z own) u in
        let x0 = x.0 in
        let x1 = x.1 in
        let y0 = y.0 in
        let y1 = y.1 in
        elim (k.laid.laid.apart f d other base g e ne) [ inl t ↦ absurd (omega (arith, t, x0, x1, y0, y1, same)) | inr t ↦ absurd (omega (arith, t, x0, x1, y0, y1, same)) ])
    | inl is ↦ (is, by_cell c h same (same_Some other base (sym g ∙ (ap (slice_get flow.bases.items) is ∙ e))))
  ]
    where
      by_cell : (y : CellName) → IsThere flow.model base y → leaf_position other z ≡ position flow.model base y → other ≡ base → y ≡ leaf_cell z own
      by_cell (leaf_cell j leaf) t p s =
          let u2 : slice_get base.shape.cells z ≡ Some own = subst (λ (x : BaseInfo). slice_get x.shape.cells z ≡ Some own) s u in
          let p2 : leaf_position base z ≡ leaf_position base j = subst (λ (x : BaseInfo). leaf_position x z ≡ leaf_position base j) s p in
          let a = leaf_is base z (fits_base d base e) (slice_get_within base.shape.cells z own u2) in
          let b = leaf_is base j (fits_base d base e) (slice_get_within base.shape.cells j leaf t) in
          let q : j ≡ z = omega (arith, a, b, p2) in
          let v : leaf ≡ own = same_Some leaf own (sym t ∙ (ap (slice_get base.shape.cells) q ∙ u2)) in
          λ i. leaf_cell (q i) (v i)
      by_cell (class_cell n) t p s =
          let u2 : slice_get base.shape.cells z ≡ Some own = subst (λ (x : BaseInfo). slice_get x.shape.cells z ≡ Some own) s u in
          let p2 : leaf_position base z ≡ position flow.model base (class_cell n) = subst (λ (x : BaseInfo). leaf_position x z ≡ position flow.model base (class_cell n)) s p in
          let six : cond {A = ℕ} base.shape.heap 6 0 ≡ 6 = ap (λ z. cond {A = ℕ} z 6 0) t.0 in
          let small = t.1 in
          let w = slice_get_within base.shape.cells z own u2 in
          let a = leaf_is base z (fits_base d base e) w in
          let b = class_is base n (fits_base d base e) (omega (arith, six, small)) in
          absurd (omega (arith, a, b, p2, w))

  -- the bases of a set that stands for one instance
  pub alone_is : is_one_instance flow.bases.items k.target ≡ true → (d : ℕ) (base : BaseInfo) → slice_get flow.bases.items d ≡ Some base → has_base k.target d ≡ true → (h : ℕ) → IsLiveOf naming old d h → h ≡ k.i
  alone_is one d base e has h alive =
      let t = k.target_side in
      let p = and_parts (bases_count k.target == 1) (bases_within k.target (single_bases flow.bases.items)) one in
      let x = and_parts (nat_lt d most_bases) (bases_has k.target d) has in
      let y = and_parts (nat_lt t.b most_bases) (bases_has k.target t.b) t.has in
      let small = ltb-true d most_bases x.0 in
      let small_b = ltb-true t.b most_bases y.0 in
      let same : d ≡ t.b = one_base k.target t.b d small_b small (eqb-true (bases_count k.target) 1 p.0) y.1 x.1 in
      let single = is_single flow.bases.items t.b t.base t.at small_b k.target p.1 y.1 in
      k.sane.one h k.i t.b t.base t.at (not_older t.base.kind single) (alive.named ∙ ap Some same) t.named (λ z. live_ended (sym alive.alive ∙ z)) (λ z. live_ended (sym t.alive ∙ z))

  pub record Replaces (leaf own : Leaf) (d : ℕ) (base : BaseInfo) : Type 0 where
    pub instance : (h : ℕ) → IsLiveOf naming old d h → h ≡ k.i
    pub count : own.count ≡ 1
    pub offset : own.offset ≡ k.offset + leaf.offset
    pub once : leaf.count ≡ 1
    pub class : own.class ≡ leaf.class

  pub replaces : (number p d z : ℕ) (base : BaseInfo) (leaf own : Leaf) → slice_get k.leaves number ≡ Some leaf → IsReplaced leaf p d z base own → Replaces leaf own d base
  unfolding is_reached
  replaces number p d z base leaf own e r =
      let a = and_parts (is_one_instance flow.bases.items k.target) (span_is_one (span_of_leaf leaf k.to) && (own.count == 1)) r.strong in
      let b = and_parts (span_is_one (span_of_leaf leaf k.to)) (own.count == 1) a.1 in
      let c = and_parts (leaf.count == 1) ((span_of_leaf leaf k.to).first.lo == (span_of_leaf leaf k.to).first.hi) b.0 in
      let one = eqb-true own.count 1 b.1 in
      let once = eqb-true leaf.count 1 c.0 in
      let same = eqb-true (span_of_leaf leaf k.to).first.lo (span_of_leaf leaf k.to).first.hi c.1 in
      let m = and_parts (same_class own.class leaf.class) (meets own (span_of_leaf leaf k.to)) r.reached in
      let t = k.target_side in
      let lo = t.lo in
      let hi = t.hi in
      let fits = t.fits in
      let short = k.short k.i in
      let plain = k.struct.plain number leaf e in
      let small = k.struct.small in
      let first = k.struct.inside number leaf.offset 0 leaf e (record { start = leaf.offset; place = record { turn = 0; few = omega (arith, once); there = omega arith }; there = omega arith; small = class_above flow.model leaf.class }) in
      let near : leaf.offset ≤ 2 ^ 30 = omega (arith, first, small) in
      let there = one_offset own one (span_of_leaf leaf k.to) once same (omega (arith, lo, hi, fits, short, near, same)) m.1 in
      record { instance = alone_is a.0 d base r.at r.in_set; count = one; offset = omega (arith, there, lo, hi, fits, short, near, same); once = once; class = same_class_is own.class leaf.class m.0 }

  -- each byte of the cell is one of the leaf's in the region
  pub replaced_byte : (number p d z : ℕ) (base : BaseInfo) (leaf own : Leaf) → slice_get k.leaves number ≡ Some leaf → IsReplaced leaf p d z base own → (y m : ℕ) → OwnedByLeaf flow.model own y m → (k.offset ≤ y) × OwnedByLeaf flow.model leaf (y - k.offset) m
  replaced_byte number p d z base leaf own e r y m owns =
      let q = replaces number p d z base leaf own e r in
      let few = owns.place.few in
      let place = owns.place.there in
      let there = owns.there in
      let one = q.count in
      let first : owns.place.turn ≡ 0 = omega (arith, few, one) in
      let none : own.stride * owns.place.turn ≡ 0 = ap (λ t. own.stride * t) first ∙ omega arith in
      let start = q.offset in
      let once = q.once in (
        omega (arith, place, there, none, start),
        record {
          start = leaf.offset;
          place = record { turn = 0; few = omega (arith, once); there = omega arith };
          there = omega (arith, place, there, none, start);
          small = subst (λ c. m < class_bytes flow.model c) q.class owns.small;
        },
      )

  -- no leaf but those of the number replaces a cell of which a byte is no byte of the leaf in the region
  pub spared : (number d : ℕ) (base : BaseInfo) (leaf : Leaf) → slice_get k.leaves number ≡ Some leaf → slice_get flow.bases.items d ≡ Some base → (c : CellName) → IsThere flow.model base c → (h y m : ℕ) → IsLiveOf naming old d h → Owns flow.model base c y m
      → (h ≡ k.i → k.offset ≤ y → OwnedByLeaf flow.model leaf (y - k.offset) m → ⊥)
      → (f z : ℕ) (other : BaseInfo) (own : Leaf) → IsReplaced leaf (position flow.model base c) f z other own → ⊥
  spared number d base leaf e at c there h y m alive owns none f z other own r =
      let s = same_cell d base at c there f z other own r.at r.among r.here in
      let o : OwnedByLeaf flow.model own y m = subst (λ x. Owns flow.model base x y m) s.1 owns in
      let q = replaces number (position flow.model base c) f z other leaf own e r in
      let b = replaced_byte number (position flow.model base c) f z other leaf own e r y m o in
      none (q.instance h (subst (λ x. IsLiveOf naming old x h) (sym s.0) alive)) b.0 b.1

  -- a leaf's byte has one number
  pub one_leaf : (a b d j m : ℕ) (x y : Leaf) → slice_get k.leaves a ≡ Some x → slice_get k.leaves b ≡ Some y → (a ≡ b → ⊥) → OwnedByLeaf flow.model x d j → OwnedByLeaf flow.model y d m → ⊥
  one_leaf a b d j m x y e f ne p q = ne (k.struct.one a b d j m x y e f p q)

  -- ---- spots

  pub target_spot : (number st : ℕ) (leaf : Leaf) → slice_get k.leaves number ≡ Some leaf → IsPlaceOf leaf st → IsSpot k.target_side.base (span_of_leaf leaf k.to) (k.offset + st)
  target_spot number st leaf e p =
      let t = k.target_side in
      let plain = k.struct.plain number leaf e in
      let a = k.struct.inside number st 0 leaf e (record { start = st; place = p; there = omega arith; small = class_above flow.model leaf.class }) in
      let fits = t.fits in
      let short = k.short k.i in
      let near : k.offset + st ≤ 2 ^ 63 = omega (arith, a, fits, short) in
      record { shape = k.laid.shaped.each t.b t.base t.at; few = k.few t.b t.base t.at; short = span_short flow.model leaf k.to plain; among = span_has flow.model leaf k.to k.offset st plain t.lo t.hi p near; near = near }

  pub source_spot : (number st : ℕ) (leaf : Leaf) → slice_get k.leaves number ≡ Some leaf → IsPlaceOf leaf st → IsSpot k.source_side.base (span_of_leaf leaf k.from) (k.at + st)
  source_spot number st leaf e p =
      let t = k.source_side in
      let plain = k.struct.plain number leaf e in
      let a = k.struct.inside number st 0 leaf e (record { start = st; place = p; there = omega arith; small = class_above flow.model leaf.class }) in
      let fits = t.fits in
      let short = k.short k.j in
      let near : k.at + st ≤ 2 ^ 63 = omega (arith, a, fits, short) in
      record { shape = k.laid.shaped.each t.b t.base t.at; few = k.few t.b t.base t.at; short = span_short flow.model leaf k.from plain; among = span_has flow.model leaf k.from k.at st plain t.lo t.hi p near; near = near }

  -- a base has fewer leaves than a row has cells
  pub few_cells : (d : ℕ) (base : BaseInfo) → slice_get flow.bases.items d ≡ Some base → base.shape.heap ≡ true → length base.shape.cells < 2 ^ 64 - 1
  few_cells d base e heap =
      let six : cond {A = ℕ} base.shape.heap 6 0 ≡ 6 = ap (λ z. cond {A = ℕ} z 6 0) heap in
      let f = fits_base d base e in
      omega (arith, six, f)
