-- What a leaf's read gives of the cells that it reaches.
use Rattle.std.proofs.Common.{◌≡◌, ℕ, ◌+◌, ◌-◌, ◌*◌, ◌<◌, ◌≤◌, ◌^◌, Bool, true, false, cond, ◌&&◌, Option, Some, None, List, length, arith, subst, sym, refl}
use Rattle.std.specs.Prelude.{slice_get, count_by}
use Rattle.std.proofs.lemmas.Bool.{and_from}
use Rattle.std.proofs.lemmas.Nat.{mul-le}
use Rattle.cc_base.specs.Lattices.{LatticeOf, OrderLaws}
use Rattle.cc_base.specs.IntegerDomains.{IntegersOf}
use Rattle.c_layout.specs.declared.data_model.Model.{Model}
use Rattle.c_layout.specs.declared.leaf_lists.Class.{Class}
use Rattle.c_layout.specs.declared.leaf_lists.Class.TheVariants.{Char}
use Rattle.c_layout.specs.declared.leaf_lists.Leaf.{Leaf}
use Rattle.c_layout.specs.declared.shapes.BaseInfo.{BaseInfo}
use Rattle.pointer_domain.specs.declared.base_sets.Bases.{Bases}
use Rattle.value_domain.specs.Values.LabelSets.{all_labels}
use Rattle.value_domain.specs.Values.Values.{value_lattice}
use Rattle.value_domain.specs.declared.values.values.Value.{Value}
use Rattle.value_domain.specs.declared.values.row_cells.Cell.{Cell}
use Rattle.store_cells.specs.CellReads.{whole_range, as_read, byte_read, joined}
use Rattle.store_cells.specs.ClassNumbers.{class_number, class_at, same_class}
use Rattle.store.specs.LeafSelection.{meets_padding}
use Rattle.store_objects.specs.LiveBases.{has_base}
use Rattle.store_cells.specs.RowPositions.{leaf_position, class_position, value_at}
use Rattle.store_cells.specs.ScalarTypes.{kind_of}
use Rattle.store_cells.specs.Walks.{turns}
use Rattle.store_cells.specs.declared.access_windows.Window.{Window}
use Rattle.store_sound.specs.Concretization.Places.{IsPlaceOf, OwnedByLeaf, IsLeafPlace}
use Rattle.store_sound.specs.Operations.Gives.{Gives}
use Rattle.store_sound.specs.Operations.Shapes.{IsShaped, at_offset}
use Rattle.store_sound.proofs.operations.Classes.{is_same_class}
use Rattle.store_sound.proofs.operations.Found.{given_left, given_by_right, if_keeps, if_gives}
use Rattle.store_sound.proofs.operations.Walks.{walk_keeps, walk_meets, turns_meet}
use Rattle.struct_copies_sound.specs.Spans.SpanBytes.{IsInSpan, IsShortSpan, SpanSees}
use Rattle.struct_copies_sound.proofs.spans.SpanBytes.{spans_see, joined_has}
use Rattle.store_monotone.proofs.shapes.LeafBytes.{few_bytes}
use Rattle.store_struct_leaves.proofs.Somewhere.{somewhere}
use Rattle.store_struct_leaves.specs.CopyPlaces.{span_joined, span_window, is_reached, is_touched, span_has_stray}
use Rattle.store_struct_leaves.specs.LeafCopies.{window_padded, any_padded, span_meets_padding, reaches_class, own_leaf, read_own_leaf, read_class_cell, read_own, other_leaf, read_other_leaf, read_class_byte, read_class_bytes, read_padding, read_bytes, read_others, read_base, read_base_if, read_from, read_leaf}
use Rattle.store_struct_leaves.specs.declared.copy_places.Span.{Span}
use Rattle.store_struct_leaves.specs.declared.leaf_copies.LeafAccess.{LeafAccess}
use Rattle.struct_copies_sound.specs.Leaves.StructLeaves.{IsFew}
use Rattle.struct_copies_sound.proofs.leaves.StraySpans.{span_stray}

-- the leaves of a base have few places, none of them far off
abbrev pub AreFew : BaseInfo → Type 0
AreFew base = (j : ℕ) (leaf : Leaf) → slice_get base.shape.cells j ≡ Some leaf → IsFew leaf

pub place_near : (leaf : Leaf) (x : ℕ) → IsFew leaf → IsPlaceOf leaf x → x ≤ 2 ^ 61
place_near leaf x f p =
    let turn = p.few in
    let there = p.there in
    let end = f.end in
    let m = mul-le p.turn leaf.stride leaf.count leaf.stride (omega (arith, turn)) (omega arith) in
    let e : leaf.stride * p.turn ≡ p.turn * leaf.stride = omega arith in
    omega (arith, there, end, m, e)

-- ---- an offset of a span in a base

pub record IsSpot (base : BaseInfo) (s : Span) (x : ℕ) : Type 0 where
  pub shape : IsShaped base
  pub few : AreFew base
  pub short : IsShortSpan s
  pub among : IsInSpan s x
  pub near : x ≤ 2 ^ 63

spot_sees : (m : Model) (base : BaseInfo) (s : Span) (x : ℕ) → IsSpot base s x → (j : ℕ) (leaf : Leaf) → slice_get base.shape.cells j ≡ Some leaf → x ≤ 2 ^ 62 → SpanSees m leaf s x
spot_sees m base s x h j leaf e near = spans_see m leaf s x (h.shape.strides j leaf e) (h.few j leaf e).count h.short h.among near

pub spot_touched : (m : Model) (base : BaseInfo) (s : Span) (x : ℕ) → IsSpot base s x → (j k : ℕ) (leaf : Leaf) → slice_get base.shape.cells j ≡ Some leaf → OwnedByLeaf m leaf x k → same_class leaf.class Char ≡ false → is_touched m leaf s ≡ true
spot_touched m base s x h j k leaf e own wide =
    let a = place_near leaf own.start (h.few j leaf e) own.place in
    let there = own.there in
    let small = own.small in
    let eight = few_bytes m leaf.class in
    (spot_sees m base s x h j leaf e (omega (arith, a, there, small, eight))).byte k own wide

pub spot_reached : (m : Model) (base : BaseInfo) (s : Span) (x : ℕ) → IsSpot base s x → (class : Class) (p : IsLeafPlace base.shape.cells class x) → is_reached p.leaf class s ≡ true
spot_reached m base s x h class p =
    let a = place_near p.leaf x (h.few p.at p.leaf p.among) p.place in
    (spot_sees m base s x h p.at p.leaf p.among (omega (arith, a))).place class p.place (is_same_class p.leaf.class class p.same)

-- an offset at which no leaf of the class stands reaches the class cell
pub spot_stray : (base : BaseInfo) (s : Span) (x : ℕ) → IsSpot base s x → length base.shape.cells < 2 ^ 64 - 1 → (class : Class) → base.shape.heap ≡ true → count_by (at_offset class x) base.shape.cells ≡ 0 → span_has_stray base.shape.cells class s ≡ true
spot_stray base s x h long class heap none = span_stray base.shape.cells class (h.shape.apart heap class) (h.shape.single heap) long s x h.short h.among h.near none

-- where a window of offsets sees padding, so does a span that has the offset
pub spot_padding : (m : Model) (base : BaseInfo) (s : Span) (x : ℕ) → IsSpot base s x → ((w : Window) → w.lo ≤ x → x ≤ w.hi → meets_padding m base.shape.cells w base.size ≡ true) → span_meets_padding m base s ≡ true
unfolding span_meets_padding any_padded
spot_padding m base s x h seen =
    let near = h.near in
    let k = joined_has s x h.short h.among (omega (arith, near)) in
    let from = k.from in
    let to = k.to in
    somewhere (window_padded m base (span_joined s)) (span_joined s).count k.turn k.few
    (seen (span_window (span_joined s) k.turn) (omega (arith, from)) (omega (arith, to, near)))

-- ---- reads

module _ {I : Type 0} {l : LatticeOf I} (o : OrderLaws l) (n : IntegersOf I) {P : Value I → Type 0} (up : (x y : Value I) → (value_lattice l).leq x y ≡ true → P x → P y) (m : Model) (row : List (Cell I)) (access : LeafAccess) (x : ℕ) (base : BaseInfo) (spot : IsSpot base access.span x) where
  in_base : Gives P (read_own l n m base row access) → Gives P (read_base l n m base row access)
  unfolding read_base
  in_base g = by_class (same_class access.class Char)
    where
      by_class : (c : Bool) → Gives P (cond c (joined l (read_own l n m base row access) (read_others l n m base row access)) (read_own l n m base row access))
      by_class true = given_left o up _ _ g
      by_class false = g

  from_others : same_class access.class Char ≡ true → Gives P (read_others l n m base row access) → Gives P (read_base l n m base row access)
  unfolding read_base
  from_others char g = subst (λ c. Gives P (cond c (joined l (read_own l n m base row access) (read_others l n m base row access)) (read_own l n m base row access))) (sym char) (given_by_right o up _ _ g)

  -- a leaf of the class
  pub own_leaf_gives : (p : IsLeafPlace base.shape.cells access.class x) → P (as_read n m (value_at l n row (leaf_position base p.at)) access.class p.leaf.signed access.signed) → Gives P (read_base l n m base row access)
  unfolding read_own own_leaf
  own_leaf_gives p h = in_base (walk_meets (Gives P) (read_own_leaf l n m base row access) (λ leaf at found g. if_keeps o up _ found _ g) 0 base.shape.cells (read_class_cell l n m base row access) p.at p.at p.leaf p.among (omega arith)
      (λ found. if_gives o up _ found _ (spot_reached m base access.span x spot access.class p) h))

  -- the class cell
  pub own_class_gives : base.shape.heap ≡ true → span_has_stray base.shape.cells access.class access.span ≡ true → P (as_read n m (value_at l n row (class_position base (class_number access.class))) access.class true access.signed) → Gives P (read_base l n m base row access)
  unfolding read_own own_leaf read_class_cell reaches_class
  own_class_gives heap stray h =
      let v : Value I = as_read n m (value_at l n row (class_position base (class_number access.class))) access.class true access.signed in
      let reached : (base.shape.heap && span_has_stray base.shape.cells access.class access.span) ≡ true = and_from _ _ heap stray in
      in_base (walk_keeps (Gives P) (read_own_leaf l n m base row access) (λ leaf at found g. if_keeps o up _ found _ g) 0 base.shape.cells (read_class_cell l n m base row access)
      (subst (λ c. Gives P (cond c (Some v) None)) (sym reached) (record { value = v; is = refl; good = h })))

  module _ (char : same_class access.class Char ≡ true) where
    -- a leaf of another class
    pub other_leaf_gives : (j k : ℕ) (leaf : Leaf) → slice_get base.shape.cells j ≡ Some leaf → OwnedByLeaf m leaf x k → same_class leaf.class Char ≡ false → P (byte_read l n m (value_at l n row (leaf_position base j)) leaf.class access.signed) → Gives P (read_base l n m base row access)
    unfolding read_others other_leaf
    other_leaf_gives j k leaf e owns wide h = from_others char (walk_meets (Gives P) (read_other_leaf l n m base row access) (λ other at found g. if_keeps o up _ found _ g) 0 base.shape.cells (read_bytes l n m base row access) j j leaf e (omega arith)
        (λ found. if_gives o up _ found _ (spot_touched m base access.span x spot j k leaf e owns wide) h))

    from_bytes : Gives P (read_bytes l n m base row access) → Gives P (read_base l n m base row access)
    unfolding read_others other_leaf
    from_bytes g = from_others char (walk_keeps (Gives P) (read_other_leaf l n m base row access) (λ other at found h. if_keeps o up _ found _ h) 0 base.shape.cells (read_bytes l n m base row access) g)

    -- the class cell of another class
    pub other_class_gives : base.shape.heap ≡ true → (j : ℕ) → j < 5 → P (byte_read l n m (value_at l n row (class_position base (j + 1))) (class_at (j + 1)) access.signed) → Gives P (read_base l n m base row access)
    unfolding read_bytes read_class_bytes read_class_byte
    other_class_gives heap j small h = from_bytes (subst (λ c. Gives P (cond c (turns (read_class_byte l n m base row access) 5 None) (read_padding l n m base access))) (sym heap)
        (turns_meet (Gives P) (read_class_byte l n m base row access) (λ at found g. given_left o up _ _ g) 5 None j small (λ found. given_by_right o up _ _ (record { value = _; is = refl; good = h }))))

    -- a byte of no leaf
    pub padding_gives : base.shape.heap ≡ false → span_meets_padding m base access.span ≡ true → P (whole_range l n (kind_of m Char access.signed) all_labels true) → Gives P (read_base l n m base row access)
    unfolding read_bytes read_padding
    padding_gives heap met h =
        let v : Value I = whole_range l n (kind_of m Char access.signed) all_labels true in
        from_bytes (subst (λ c. Gives P (cond c (read_class_bytes l n m base row access) (cond (span_meets_padding m base access.span) (Some v) None))) (sym heap)
        (subst (λ c. Gives P (cond c (Some v) None)) (sym met) (record { value = v; is = refl; good = h })))

module _ {I : Type 0} {l : LatticeOf I} (o : OrderLaws l) (n : IntegersOf I) {P : Value I → Type 0} (up : (x y : Value I) → (value_lattice l).leq x y ≡ true → P x → P y) (m : Model) (row : List (Cell I)) (access : LeafAccess) where
  keeps_found : (wanted : Bool) (base : BaseInfo) (found : Option (Value I)) → Gives P found → Gives P (read_base_if l n m row wanted access base found)
  unfolding read_base_if
  keeps_found true base found g = given_left o up _ _ g
  keeps_found false base found g = g

  gives_found : (wanted : Bool) (base : BaseInfo) (found : Option (Value I)) → wanted ≡ true → Gives P (read_base l n m base row access) → Gives P (read_base_if l n m row wanted access base found)
  unfolding read_base_if
  gives_found true base found e g = given_by_right o up _ _ g
  gives_found false base found e g = cc

  -- what a base of the set gives, all do
  pub leaf_gives : (bases : List BaseInfo) (set : Bases) (b : ℕ) (base : BaseInfo) → slice_get bases b ≡ Some base → has_base set b ≡ true → Gives P (read_base l n m base row access) → Gives P (read_leaf l n m bases set row access)
  unfolding read_leaf
  leaf_gives bases set b base e has g = walk_meets (Gives P) (read_from l n m row set access) (λ other at found h. keeps_found _ other found h) 0 bases None b b base e (omega arith) (λ found. gives_found _ base found has g)
