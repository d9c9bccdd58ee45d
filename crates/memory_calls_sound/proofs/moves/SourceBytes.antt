-- What the analysis reads of a window of bytes stands for each byte of it.
use Rattle.std.proofs.Common.{◌≡◌, ℕ, zero, suc, ◌-◌, ◌<◌, ◌≤◌, Bool, true, false, cond, Option, Some, None, List, length, arith, subst, sym, refl, ap, ◌∙◌, inl, inr}
use Rattle.std.specs.Prelude.{slice_get, ℤ, count_by}
use Rattle.std.proofs.lemmas.Bool.{cases_lt, and_from, lt-ltb}
use Rattle.std.proofs.lemmas.Option.{slice_get_within}
use Rattle.cc_base.specs.Lattices.{LatticeOf, OrderLaws}
use Rattle.cc_base.specs.IntegerDomains.{IntegersOf, BoundLaws}
use Rattle.c_layout.specs.declared.leaf_lists.Class.{Class}
use Rattle.c_layout.specs.declared.leaf_lists.Class.TheVariants.{Char, Short, Int, Long, LongLong, Pointer}
use Rattle.c_layout.specs.declared.leaf_lists.Leaf.{Leaf}
use Rattle.c_layout.specs.declared.shapes.BaseInfo.{BaseInfo}
use Rattle.cfg.specs.declared.programs.Flow.{Flow}
use Rattle.pointer_domain.specs.BaseSets.{bases_has}
use Rattle.pointer_domain.specs.declared.base_sets.Bases.{Bases}
use Rattle.value_domain.specs.Values.LabelSets.{labels_leq, all_labels}
use Rattle.value_domain.specs.declared.values.row_cells.Cell.{Cell}
use Rattle.store_cells.specs.declared.access_windows.Window.{Window}
use Rattle.store_cells.specs.AccessWindows.{window_between}
use Rattle.store_cells.specs.ClassNumbers.{class_at, class_number}
use Rattle.store.specs.LeafSelection.{is_overlapped, has_stray, meets_padding}
use Rattle.store_objects.specs.LiveBases.{has_base}
use Rattle.store_cells.specs.RowPositions.{leaf_position, class_position, value_at}
use Rattle.store_cells.specs.Walks.{turns}
use Rattle.transfer_library_writes.specs.CopyWrites.{is_read_class, no_bytes, with_cell, with_padding, with_leaf, with_leaves, with_class, as_numbers, with_class_cells, with_base, with_base_if, with_base_of, bytes_of_source}
use Rattle.transfer_library_writes.specs.declared.copied_bytes.CopiedBytes.{CopiedBytes}
use Rattle.memory_model.specs.Memory.ScalarSizes.{class_bytes}
use Rattle.memory_model.specs.Memory.Labels.{Labels}
use Rattle.memory_model.specs.Memory.Bytes.{Content, indeterminate, number, part, Tag, Byte}
use Rattle.memory_model.specs.Memory.Instances.{live, bytes_of, bytes_at, byte_at, life_at}
use Rattle.memory_model.specs.Memory.Tags.{tag_at}
use Rattle.store_sound.specs.Concretization.Matching.{Fits, Matched}
use Rattle.store_sound.specs.Concretization.Places.{OwnedByLeaf, OwnedByClass, IsLeafPlace}
use Rattle.store_sound.specs.Concretization.SeenLabels.{as_set}
use Rattle.store_sound.specs.Concretization.SoundMemory.{IsContentIn}
use Rattle.store_sound.specs.Concretization.ValueMeaning.{Naming}
use Rattle.store_sound.specs.Concretization.RowMeaning.{MachineState, InGamma}
use Rattle.store_sound.specs.Operations.Shapes.{AreShaped, IsShaped, SeesPadding, at_offset}
use Rattle.store_sound.proofs.operations.Classes.{class_above, class_small, class_number_back}
use Rattle.store_sound.proofs.operations.LoadSound.{instance_there}
use Rattle.store_sound.proofs.operations.Near.{value_at_near}
use Rattle.store_sound.proofs.operations.Selected.{place_selected, is_stray, counted_place, uncounted_place}
use Rattle.store_sound.proofs.operations.TagPlaces.{is_tagged}
use Rattle.store_sound.proofs.operations.Walks.{walk_keeps, walk_meets, turns_keep, turns_meet}
use Rattle.memory_calls_sound.proofs.moves.ReadBytes.{IsOwnPart, tagged_part, untagged_part, IsRead, if_read, is_read, cell_keeps, cell_shows, IsNearRead, if_near, none_near, cell_near, padding_near}

-- ---- further bytes leave what is known

module _ {I : Type 0} {l : LatticeOf I} {n : IntegersOf I} {gamma : I → ℤ → Type 0} (o : OrderLaws l) (q : BoundLaws l n gamma) (flow : Flow) (naming : Naming) (row : List (Cell I)) (state : MachineState) (w : Window) (c : Content) where
  abbrev Read : CopiedBytes I → Type 0
  Read found = IsRead gamma naming state.memory found c

  leaf_keeps : (base : BaseInfo) (leaf : Leaf) (place : ℕ) (found : CopiedBytes I) → Read found → Read (with_leaf l n flow.model base row w leaf place found)
  unfolding with_leaf
  leaf_keeps base leaf place found h = if_read gamma naming state.memory (is_overlapped flow.model leaf w) _ found c (cell_keeps {n = n} o q naming state.memory found (value_at l n row (leaf_position base place)) leaf.class c h) h

  class_keeps : (base : BaseInfo) (stray : Bool) (place : ℕ) (found : CopiedBytes I) → Read found → Read (with_class l n base row stray place found)
  class_keeps base stray place found h = if_read gamma naming state.memory (is_read_class stray place) _ found c (cell_keeps {n = n} o q naming state.memory found (value_at l n row (class_position base place)) (class_at place) c h) h

  leaves_keep : (base : BaseInfo) (found : CopiedBytes I) → Read found → Read (with_leaves l n flow.model base row w found)
  unfolding with_leaves
  leaves_keep base found h = walk_keeps Read (with_leaf l n flow.model base row w) (λ leaf place s g. leaf_keeps base leaf place s g) 0 base.shape.cells found h

  numbers_keep : (found : CopiedBytes I) → Read found → Read (as_numbers found)
  numbers_keep found h = by_content c h
    where
      by_content : (d : Content) → IsRead gamma naming state.memory found d → IsRead gamma naming state.memory (as_numbers found) d
      by_content indeterminate g = g
      by_content (number k labels) g = (g.0, refl)
      by_content (part p k) g = g

  padding_keeps : (found : CopiedBytes I) (met : Bool) → Read found → Read (with_padding found met)
  padding_keeps found false h = h
  padding_keeps found true h = by_content c h
    where
      all_above : (labels : Labels) → labels_leq (as_set labels) all_labels ≡ true
      all_above labels = grind arith

      by_content : (d : Content) → IsRead gamma naming state.memory found d → IsRead gamma naming state.memory (with_padding found true) d
      by_content indeterminate g = refl
      by_content (number k labels) g = (all_above labels, refl)
      by_content (part p k) g = g

  classes_keep : (base : BaseInfo) (found : CopiedBytes I) → Read found → Read (with_class_cells l n base row w found)
  unfolding with_class_cells
  classes_keep base found h = numbers_keep _ (turns_keep Read (with_class l n base row (has_stray base.shape.cells Char w)) (λ place s g. class_keeps base (has_stray base.shape.cells Char w) place s g) 6 found h)

  base_keeps : (base : BaseInfo) (found : CopiedBytes I) → Read found → Read (with_base l n flow.model base row w found)
  unfolding with_base
  base_keeps base found h =
      let g = leaves_keep base found h in
      if_read gamma naming state.memory base.shape.heap _ _ c (classes_keep base (with_leaves l n flow.model base row w found) g) (padding_keeps (with_leaves l n flow.model base row w found) (meets_padding flow.model base.shape.cells w base.size) g)

  -- ---- a byte and its owner

  module _ (shaped : AreShaped flow.bases.items) (padding : SeesPadding flow.model flow.bases.items) (s : InGamma l n gamma flow naming row state) (i x b : ℕ) (base : BaseInfo) (at : slice_get flow.bases.items b ≡ Some base) (named : naming i ≡ Some b) (alive : life_at state.memory i ≡ live) (from : w.lo ≤ x) (to : x ≤ w.hi) (byte : Byte) (here : byte_at state.memory i x ≡ Some byte) (is : byte.content ≡ c) where
    shape : IsShaped base
    shape = shaped.each b base at

    content_in : IsContentIn state.memory c byte.tag
    content_in = subst (λ z. IsContentIn state.memory z byte.tag) is (s.sane.bytes i x byte here)

    matched : (d : Class) (k : ℕ) → Fits d k byte.tag → Matched state.memory i x d k c
    matched d k f = record { tag = byte.tag; here = here ∙ ap (λ z. Some (record { content = z; tag = byte.tag })) is; fits = f }

    -- a leaf that owns the byte
    by_leaf : (j k : ℕ) (leaf : Leaf) → slice_get base.shape.cells j ≡ Some leaf → OwnedByLeaf flow.model leaf x k → Fits leaf.class k byte.tag → IsOwnPart leaf.class c → (found : CopiedBytes I) → Read (with_base l n flow.model base row w found)
    unfolding with_base with_leaves with_leaf
    by_leaf j k leaf e owns fits own found =
        let there = owns.there in
        let small = owns.small in
        let hit : is_overlapped flow.model leaf w ≡ true = place_selected leaf (window_between (w.lo - (class_bytes flow.model leaf.class - 1)) w.hi) owns.start owns.place (shape.strides j leaf e) (omega (arith, from, there, small)) (omega (arith, to, there)) in
        let g = walk_meets Read (with_leaf l n flow.model base row w) (λ other place t h. leaf_keeps base other place t h) 0 base.shape.cells found j j leaf e (omega arith)
        (λ t. is_read gamma naming state.memory (is_overlapped flow.model leaf w) (with_cell l t (value_at l n row (leaf_position base j)) leaf.class) t c hit
        (cell_shows {n = n} o q naming state.memory t (value_at l n row (leaf_position base j)) leaf.class c own
        ((s.leaves b j base leaf at e).byte i x k c (record { named = named; alive = alive }) owns (matched leaf.class k fits)))) in
        if_read gamma naming state.memory base.shape.heap _ _ c (classes_keep base (with_leaves l n flow.model base row w found) g) (padding_keeps (with_leaves l n flow.model base row w found) (meets_padding flow.model base.shape.cells w base.size) g)

    -- the class cell that owns it
    by_class : (place k : ℕ) → place < 6 → base.shape.heap ≡ true → is_read_class (has_stray base.shape.cells Char w) place ≡ true → OwnedByClass flow.model base.shape.cells (class_at place) x k → Fits (class_at place) k byte.tag → IsOwnPart (class_at place) c → (found : CopiedBytes I) → Read (with_base l n flow.model base row w found)
    unfolding with_base with_class_cells
    by_class place k small heap hit owns fits own found =
        let stray : Bool = has_stray base.shape.cells Char w in
        let rest : CopiedBytes I = with_leaves l n flow.model base row w found in
        is_read gamma naming state.memory base.shape.heap (as_numbers (turns (with_class l n base row stray) 6 rest)) (with_padding rest (meets_padding flow.model base.shape.cells w base.size)) c heap
        (numbers_keep (turns (with_class l n base row stray) 6 rest)
        (turns_meet Read (with_class l n base row stray) (λ other t h. class_keeps base stray other t h) 6 rest place small
        (λ t. is_read gamma naming state.memory (is_read_class stray place) (with_cell l t (value_at l n row (class_position base place)) (class_at place)) t c hit
        (cell_shows {n = n} o q naming state.memory t (value_at l n row (class_position base place)) (class_at place) c own
        ((s.classes b place base at heap small).byte i x k c (record { named = named; alive = alive }) owns (matched (class_at place) k fits))))))

    -- ---- on the heap

    read_wide : (d : Class) (stray : Bool) → (d ≡ Char → stray ≡ true) → is_read_class stray (class_number d) ≡ true
    read_wide Char stray h = h refl
    read_wide Short stray h = refl
    read_wide Int stray h = refl
    read_wide Long stray h = refl
    read_wide LongLong stray h = refl
    read_wide Pointer stray h = refl

    by_owner : (d : Class) (k : ℕ) → base.shape.heap ≡ true → (d ≡ Char → has_stray base.shape.cells Char w ≡ true) → OwnedByClass flow.model base.shape.cells d x k → Fits d k byte.tag → IsOwnPart d c → (found : CopiedBytes I) → Read (with_base l n flow.model base row w found)
    by_owner d k heap stray owns fits own found =
        let back : class_at (class_number d) ≡ d = class_number_back d in
        by_class (class_number d) k (class_small d) heap (read_wide d (has_stray base.shape.cells Char w) stray)
        (subst (λ z. OwnedByClass flow.model base.shape.cells z x k) (sym back) owns) (subst (λ z. Fits z k byte.tag) (sym back) fits) (subst (λ z. IsOwnPart z c) (sym back) own) found

    char_start : (d : Class) (k : ℕ) → k < class_bytes flow.model d → d ≡ Char → k ≡ 0
    char_start d k small e = let f : class_bytes flow.model d ≡ 1 = ap (class_bytes flow.model) e in omega (arith, small, f)

    by_count : (count : ℕ) (d : Class) (k : ℕ) → count_by (at_offset d (x - k)) base.shape.cells ≡ count → base.shape.heap ≡ true → k < class_bytes flow.model d → k ≤ x → Fits d k byte.tag → IsOwnPart d c → (found : CopiedBytes I) → Read (with_base l n flow.model base row w found)
    by_count zero d k h heap small below fits own found =
        by_owner d k heap
        (λ e.
        let first = char_start d k small e in
        let same : x - k ≡ x = omega (arith, first) in
        is_stray base.shape.cells Char (shape.apart heap Char) w x (shape.single heap) from to (sym (ap (λ z. count_by (at_offset z x) base.shape.cells) e) ∙ (sym (ap (λ z. count_by (at_offset d z) base.shape.cells) same) ∙ h)))
        (record { small = small; no_leaf = λ start f p. uncounted_place base.shape.cells d (x - k) (shape.single heap) h (let y : start ≡ x - k = omega (arith, f) in subst (IsLeafPlace base.shape.cells d) y p) })
        fits own found
    by_count (suc r) d k h heap small below fits own found =
        let p = counted_place base.shape.cells d (x - k) r (shape.single heap) h in
        by_leaf p.at k p.leaf p.among (record { start = x - k; place = p.place; there = omega (arith, below); small = subst (λ z. k < class_bytes flow.model z) (sym p.same) small }) (subst (λ z. Fits z k byte.tag) (sym p.same) fits) (subst (λ z. IsOwnPart z c) (sym p.same) own) found

    in_heap_as : (d : Class) (k : ℕ) → base.shape.heap ≡ true → k < class_bytes flow.model d → Fits d k byte.tag → IsOwnPart d c → (found : CopiedBytes I) → Read (with_base l n flow.model base row w found)
    in_heap_as d k heap small fits own found = elim (cases_lt x k) [
      | inl g ↦ by_owner d k heap (λ e. let first = char_start d k small e in absurd (omega (arith, first, g))) (record { small = small; no_leaf = λ start h p. absurd (omega (arith, g, h)) }) fits own found
      | inr g ↦ by_count (count_by (at_offset d (x - k)) base.shape.cells) d k refl heap small g fits own found
    ]

    in_heap : (tag : Option Tag) → byte.tag ≡ tag → base.shape.heap ≡ true → (found : CopiedBytes I) → Read (with_base l n flow.model base row w found)
    in_heap None e heap found = in_heap_as Char 0 heap (class_above flow.model Char) (subst (Fits Char 0) (sym e) tt) (untagged_part state.memory c Char (subst (IsContentIn state.memory c) e content_in)) found
    in_heap (Some t) e heap found = in_heap_as t.class t.at heap (s.sane.tags i x byte t here e) (subst (Fits t.class t.at) (sym e) (refl, refl)) (tagged_part state.memory c t (subst (IsContentIn state.memory c) e content_in)) found

    -- ---- in an object

    shown_padding : (d : Content) → IsContentIn state.memory d None → (found : CopiedBytes I) → IsRead gamma naming state.memory (with_padding found true) d
    shown_padding indeterminate h found = refl
    shown_padding (number k labels) h found = (grind arith, refl)
    shown_padding (part p k) h found = let e = h.1 in cc

    by_padding : base.shape.heap ≡ false → byte.tag ≡ None → meets_padding flow.model base.shape.cells w base.size ≡ true → (found : CopiedBytes I) → Read (with_base l n flow.model base row w found)
    unfolding with_base
    by_padding heap e met found =
        let rest : CopiedBytes I = with_leaves l n flow.model base row w found in
        let g : Read (with_padding rest true) = shown_padding c (subst (IsContentIn state.memory c) e content_in) rest in
        subst (λ z. Read (cond z (with_class_cells l n base row w rest) (with_padding rest (meets_padding flow.model base.shape.cells w base.size)))) (sym heap) (subst (λ z. Read (with_padding rest z)) (sym met) g)

    in_object : (tag : Option Tag) → byte.tag ≡ tag → tag ≡ tag_at flow.model base.shape.cells x → x < base.size → base.shape.heap ≡ false → (found : CopiedBytes I) → Read (with_base l n flow.model base row w found)
    in_object None e f inside heap found = by_padding heap e (padding b base w x at heap from to inside (sym f)) found
    in_object (Some t) e f inside heap found =
        let r = is_tagged flow.model base.shape.cells x t (sym f) in
        by_leaf r.index t.at r.leaf r.among r.owned (subst (λ z. Fits r.leaf.class t.at z) (sym e) (r.class, refl)) (subst (λ z. IsOwnPart z c) r.class (tagged_part state.memory c t (subst (IsContentIn state.memory c) e content_in))) found

    in_base : (heap : Bool) → base.shape.heap ≡ heap → (found : CopiedBytes I) → Read (with_base l n flow.model base row w found)
    unfolding byte_at
    in_base true heap found = in_heap byte.tag refl heap found
    in_base false heap found =
        let it = instance_there state.memory i alive in
        let k = s.sane.instances i b base it.0 named at it.1 in
        let e = k.tags heap x byte (sym (ap (λ z. slice_get (bytes_of z) x) it.1) ∙ here) in
        let len : length (bytes_at state.memory i) ≡ base.size = ap (λ z. length (bytes_of z)) it.1 ∙ k.size heap in
        let within = slice_get_within (bytes_at state.memory i) x byte here in
        in_object byte.tag refl e (omega (arith, len, within)) heap found

    -- ---- all bases

    turn_keeps : (set : Bases) (other : BaseInfo) (place : ℕ) (found : CopiedBytes I) → Read found → Read (with_base_of l n flow.model row set w other place found)
    unfolding with_base_if
    turn_keeps set other place found h = if_read gamma naming state.memory (has_base set place) _ found c (base_keeps other found h) h

    pub source_read : (set : Bases) → bases_has set b ≡ true → Read (bytes_of_source l n flow row set (Some w))
    unfolding with_base_if
    source_read set has =
        let few = shaped.few in
        let small = slice_get_within flow.bases.items b base at in
        walk_meets Read (with_base_of l n flow.model row set w) (λ other place t h. turn_keeps set other place t h) 0 flow.bases.items (no_bytes l) b b base at (omega arith)
        (λ t. is_read gamma naming state.memory (has_base set b) (with_base l n flow.model base row w t) t c (and_from _ _ (lt-ltb b _ (omega (arith, few, small))) has) (in_base base.shape.heap refl t))

-- ---- bounds

module _ {I : Type 0} {l : LatticeOf I} {n : IntegersOf I} {gamma : I → ℤ → Type 0} (o : OrderLaws l) (q : BoundLaws l n gamma) (flow : Flow) (row : List (Cell I)) (w : Window) where
  abbrev Near : CopiedBytes I → Type 0
  Near found = IsNearRead o q found

  near_leaves : (base : BaseInfo) (found : CopiedBytes I) → Near found → Near (with_leaves l n flow.model base row w found)
  unfolding with_leaves with_leaf
  near_leaves base found h = walk_keeps Near (with_leaf l n flow.model base row w) (λ leaf place s g. if_near o q (is_overlapped flow.model leaf w) _ s (cell_near o q s (value_at l n row (leaf_position base place)) leaf.class g (value_at_near o q row (leaf_position base place))) g) 0 base.shape.cells found h

  near_classes : (base : BaseInfo) (found : CopiedBytes I) → Near found → Near (with_class_cells l n base row w found)
  unfolding with_class_cells
  near_classes base found h = turns_keep Near (with_class l n base row (has_stray base.shape.cells Char w)) (λ place s g. if_near o q (is_read_class (has_stray base.shape.cells Char w) place) _ s (cell_near o q s (value_at l n row (class_position base place)) (class_at place) g (value_at_near o q row (class_position base place))) g) 6 found h

  near_base : (base : BaseInfo) (found : CopiedBytes I) → Near found → Near (with_base l n flow.model base row w found)
  unfolding with_base
  near_base base found h =
      let g = near_leaves base found h in
      if_near o q base.shape.heap _ _ (near_classes base (with_leaves l n flow.model base row w found) g) (padding_near o q (with_leaves l n flow.model base row w found) (meets_padding flow.model base.shape.cells w base.size) g)

  pub source_near : (set : Bases) → Near (bytes_of_source l n flow row set (Some w))
  unfolding with_base_if
  source_near set = walk_keeps Near (with_base_of l n flow.model row set w) (λ base place s g. if_near o q (has_base set place) _ s (near_base base s g) g) 0 flow.bases.items (no_bytes l) (none_near o q)
