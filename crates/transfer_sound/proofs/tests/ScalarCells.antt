-- The one cell of a scalar object, behind a change of labels, and what it says of the bytes.
use Rattle.std.proofs.Common.{◌≡◌, ℕ, zero, suc, ◌+◌, ◌-◌, ◌<◌, Bool, true, false, Option, Some, None, List, [], ◌∷◌, length, take, drop, arith, subst, sym, refl, ap, ◌∙◌}
use Rattle.std.specs.Prelude.{slice_get, ℤ, pos}
use Rattle.std.proofs.lemmas.Bool.{true≢false}
use Rattle.std.proofs.lemmas.List.{length-map, length-take, length-drop, length-set}
use Rattle.std.proofs.lemmas.Option.{same_Some, slice_get_within}
use Rattle.cc_base.specs.Lattices.{LatticeOf}
use Rattle.cc_base.specs.IntegerDomains.{IntegersOf, BoundLaws}
use Rattle.c_layout.specs.declared.leaf_lists.Leaf.{Leaf}
use Rattle.c_layout.specs.declared.shapes.BaseKind.TheVariants.{Older}
use Rattle.c_layout.specs.declared.shapes.ZeroPart.{ZeroPart}
use Rattle.cfg.specs.WellFormed.{is_declared}
use Rattle.cfg.specs.declared.programs.Flow.{Flow}
use Rattle.value_domain.specs.Values.LabelSets.{labels_leq}
use Rattle.value_domain.specs.declared.values.label_sets.Labels as sets
use Rattle.value_domain.specs.declared.values.values.Value as values
use Rattle.value_domain.specs.declared.values.row_cells.Cell.{Cell}
use Rattle.value_domain.specs.declared.values.row_cells.Cell.TheVariants.{Value}
use Rattle.store_cells.specs.ClassNumbers.{is_pointer}
use Rattle.store_cells.specs.NearValues.{near_value}
use Rattle.store_cells.specs.RowPositions.{leaf_position, zero_position, value_at, zero_at, put_value}
use Rattle.memory_model.specs.Memory.Labels.{Labels}
use Rattle.memory_model.specs.Memory.ScalarSizes.{class_bytes}
use Rattle.memory_model.specs.Memory.Bytes.{Content, indeterminate, number, part, Tag, Byte}
use Rattle.memory_model.specs.Memory.Instances.{Memory, bytes_of, bytes_at, byte_at, live, life_at}
use Rattle.memory_model.specs.Memory.Numbers.{Labelled, unsigned_of, number_of}
use Rattle.memory_model.specs.Memory.Tags.{tag_at}
use Rattle.memory_model.specs.Effects.ScalarBytes.{contents}
use Rattle.memory_model.specs.Effects.Accesses.{numbers_in}
use Rattle.memory_model.specs.Effects.Tests.{scalar_size, object_bytes, relabelled}
use Rattle.store_sound.specs.Concretization.FirstZeroBytes.{seen_as, first_zero}
use Rattle.store_sound.specs.Concretization.Matching.{Fits, Matched, number_in, Holds}
use Rattle.store_sound.specs.Concretization.Places.{OwnedByLeaf}
use Rattle.store_sound.specs.Concretization.SeenLabels.{as_set}
use Rattle.store_sound.specs.Concretization.ValueMeaning.{Naming, InGammaContent, InGammaZero}
use Rattle.store_sound.specs.Concretization.SoundMemory.{IsContentIn, IsContentNamed}
use Rattle.store_sound.specs.Concretization.RowMeaning.{MachineState, InGammaLeaf, InGamma, array_of, array_bytes}
use Rattle.store_sound.proofs.operations.Frames.{pointer_moves, pointer_in_moves}
use Rattle.store_sound.proofs.operations.LoadSound.{instance_there}
use Rattle.store_sound.proofs.operations.Reading.{numbers_length, numbers_at}
use Rattle.store_sound.proofs.operations.Slices.{get_map, get_take, get_drop}
use Rattle.store_sound.proofs.operations.StoreMemory.{content_named_moves}
use Rattle.store_sound.proofs.operations.StoreRows.{zero_is}
use Rattle.store_sound.proofs.operations.StoreValues.{same_zero}
use Rattle.store_sound.proofs.operations.TagPlaces.{is_tagged}
use Rattle.store_sound.specs.Programs.Premises.{HasPremises}
use Rattle.transfer_sound.proofs.values.NearScalars.{IsNearNumber, near_number_stands, near_pointer_stands}
use Rattle.transfer_sound.specs.Tests.ScalarObjects.{IsScalarObject}
use Rattle.transfer_sound.proofs.tests.ScalarRows.{one_cell, leaf_there, only_leaf, place_zero, not_heap, fits, place_is, keeps, outside, own_value}
use Rattle.transfer_sound.proofs.objects.Rewrites.{IsRewrite, rewrite_sane}
use Rattle.transfer_sound.proofs.objects.ObjectRows.{own_instance, object_stands}

-- ---- numbers of bytes

same_unsigned : (xs ys : List Labelled) → length xs ≡ length ys → ((k : ℕ) (x y : Labelled) → slice_get xs k ≡ Some x → slice_get ys k ≡ Some y → x.number ≡ y.number) → unsigned_of xs ≡ unsigned_of ys
same_unsigned [] [] e h = refl
same_unsigned [] (y ∷ ys) e h = absurd (omega (arith, e))
same_unsigned (x ∷ xs) [] e h = absurd (omega (arith, e))
same_unsigned (x ∷ xs) (y ∷ ys) e h =
    let a = h 0 x y refl refl in
    let b = same_unsigned xs ys (omega (arith, e)) (λ k u v f g. h (suc k) u v f g) in
    omega (arith, a, b)

pub same_numbers : (signed : Bool) (xs ys : List Labelled) → length xs ≡ length ys → ((k : ℕ) (x y : Labelled) → slice_get xs k ≡ Some x → slice_get ys k ≡ Some y → x.number ≡ y.number) → number_of signed xs ≡ number_of signed ys
same_numbers true xs ys e h = let u = same_unsigned xs ys e h in rw (e, u) refl
same_numbers false xs ys e h = ap pos (same_unsigned xs ys e h)

-- ---- first zeros do not see labels

seen_relabelled : (g : Labels → Labels) (c : Content) → seen_as (relabelled g c) ≡ seen_as c
seen_relabelled g indeterminate = refl
seen_relabelled g (number zero la) = refl
seen_relabelled g (number (suc k) la) = refl
seen_relabelled g (part p k) = refl

pub same_zeros : (xs ys : List Byte) → length xs ≡ length ys → ((k : ℕ) (x y : Byte) → slice_get xs k ≡ Some x → slice_get ys k ≡ Some y → seen_as x.content ≡ seen_as y.content) → first_zero xs ≡ first_zero ys
same_zeros [] [] e h = refl
same_zeros [] (y ∷ ys) e h = absurd (omega (arith, e))
same_zeros (x ∷ xs) [] e h = absurd (omega (arith, e))
same_zeros (x ∷ xs) (y ∷ ys) e h =
    let a = h 0 x y refl refl in
    let b = same_zeros xs ys (omega (arith, e)) (λ k u v f g. h (suc k) u v f g) in
    rw (a, b) refl

-- lists of bytes of which a string function sees the same
record SeenSame (xs ys : List Byte) : Type 0 where
  long : length xs ≡ length ys
  each : (k : ℕ) (x y : Byte) → slice_get xs k ≡ Some x → slice_get ys k ≡ Some y → seen_as x.content ≡ seen_as y.content

drop_same : (n : ℕ) (xs ys : List Byte) → SeenSame xs ys → SeenSame (drop n xs) (drop n ys)
drop_same n xs ys h =
    let a = length-drop n xs in
    let b = length-drop n ys in
    let c = h.long in
    record { long = omega (arith, a, b, c); each = λ k x y e f. h.each (n + k) x y (sym (get_drop n xs k (n + k) refl) ∙ e) (sym (get_drop n ys k (n + k) refl) ∙ f) }

array_same : (size : Option ℕ) (xs ys : List Byte) → SeenSame xs ys → SeenSame (array_of size xs) (array_of size ys)
array_same None xs ys h = h
array_same (Some n) xs ys h =
    let a = length-take n xs in
    let b = length-take n ys in
    let c = h.long in
    record { long = omega (arith, a, b, c); each = λ k x y e f. h.each k x y (get_take n xs k x e).1 (get_take n ys k y f).1 }

-- ---- the number of a content

abbrev number_or : Content → ℕ
number_or indeterminate = 0
number_or (number k la) = k
number_or (part q k) = 0

-- ---- the cell

single_leaf : (leaf other : Leaf) (k : ℕ) → slice_get (leaf ∷ []) k ≡ Some other → leaf ≡ other
single_leaf leaf other zero e = same_Some leaf other e
single_leaf leaf other (suc k) e = cc

pub not_older : (flow : Flow) (b : ℕ) (kind : _) (t : IsScalarObject flow b kind) → t.info.kind ≡ Older → ⊥
not_older flow b kind t e = true≢false (sym t.declared ∙ ap (λ z. is_declared (Some z)) e)

module _ {I : Type 0} {l : LatticeOf I} {n : IntegersOf I} {gamma : I → ℤ → Type 0} (q : BoundLaws l n gamma) (flow : Flow) (p : HasPremises flow) (naming : Naming) (row : List (Cell I)) (long : length row ≡ flow.width) (state : MachineState) (s : InGamma l n gamma flow naming row state)
    (b i : ℕ) (kind : _) (t : IsScalarObject flow b kind) (named : naming i ≡ Some b) (alive : life_at state.memory i ≡ live) where
  abbrev position : ℕ
  position = leaf_position t.info 0

  abbrev pub cell_value : values.Value I
  cell_value = value_at l n row position

  cell : InGammaLeaf gamma flow naming state.memory b t.leaf cell_value
  cell = s.leaves b 0 t.info t.leaf t.is (leaf_there t)

  pub size_is : length (bytes_at state.memory i) ≡ class_bytes flow.model t.leaf.class
  size_is =
      let it = instance_there state.memory i alive in
      let k = s.sane.instances i b t.info it.0 named t.is it.1 in
      ap (λ z. length (bytes_of z)) it.1 ∙ (k.size (not_heap p t) ∙ (t.size ∙ ap (class_bytes flow.model) (sym t.class)))

  small_byte : (o : ℕ) (x : Byte) → byte_at state.memory i o ≡ Some x → o < class_bytes flow.model t.leaf.class
  unfolding byte_at
  small_byte o x e = let a = slice_get_within (bytes_at state.memory i) o x e in let c = size_is in omega (arith, a, c)

  owner : (o : ℕ) → o < class_bytes flow.model t.leaf.class → OwnedByLeaf flow.model t.leaf o o
  owner o h = let a = t.offset in let c = t.count in record { start = 0; place = record { turn = 0; few = omega (arith, c); there = omega (arith, a) }; there = omega arith; small = h }

  owned_at : (o k : ℕ) → OwnedByLeaf flow.model t.leaf o k → o ≡ k
  owned_at o k h = let a = place_zero t h.start h.place in let c = h.there in omega (arith, a, c)

  matched : (o : ℕ) (x : Byte) → byte_at state.memory i o ≡ Some x → Matched state.memory i o t.leaf.class o x.content
  unfolding byte_at
  matched o x e = record { tag = x.tag; here = e; fits = fits_by x.tag refl }
    where
      fits_by : (tag : Option Tag) → x.tag ≡ tag → Fits t.leaf.class o tag
      fits_by None h = tt
      fits_by (Some tg) h =
          let it = instance_there state.memory i alive in
          let k = s.sane.instances i b t.info it.0 named t.is it.1 in
          let tagged : tag_at flow.model t.info.shape.cells o ≡ Some tg = sym (k.tags (not_heap p t) o x (sym (ap (λ z. slice_get (bytes_of z) o) it.1) ∙ e)) ∙ h in
          let g = is_tagged flow.model t.info.shape.cells o tg tagged in
          let one : t.leaf ≡ g.leaf = single_leaf t.leaf g.leaf g.index (sym (ap (λ z. slice_get z g.index) t.cells) ∙ g.among) in
          let own = subst (λ z. OwnedByLeaf flow.model z o tg.at) (sym one) g.owned in
          (g.class ∙ ap (λ z. z.class) (sym one), sym (owned_at o tg.at own))

  pub byte_stands : (o : ℕ) (x : Byte) → byte_at state.memory i o ≡ Some x → InGammaContent gamma naming state.memory cell_value t.leaf.class x.content
  byte_stands o x e = cell.byte i o o x.content (record { named = named; alive = alive }) (owner o (small_byte o x e)) (matched o x e)

  -- the numbers of all its bytes
  pub record ObjectNumbers (ns : List Labelled) : Type 0 where
    pub few : length ns ≡ class_bytes flow.model t.leaf.class
    pub at_bytes : (k : ℕ) (x : Labelled) → slice_get ns k ≡ Some x → (y : Byte) × (byte_at state.memory i k ≡ Some y) × (y.content ≡ number_in x)
    pub number : is_pointer t.leaf.class ≡ false → gamma cell_value.num (number_of t.leaf.signed ns)

  pub object_numbers : (ns : List Labelled) → numbers_in (contents (object_bytes flow.model state.memory i kind)) ≡ Some ns → ObjectNumbers ns
  unfolding byte_at
  object_numbers ns h =
      let size : ℕ = scalar_size flow.model kind in
      let all : List Byte = bytes_at state.memory i in
      let a = numbers_length (contents (take size all)) ns h in
      let c = length-map (take size all) (λ (x : Byte). x.content) in
      let d = length-take size all in
      let total = size_is in
      let same : size ≡ class_bytes flow.model t.leaf.class = t.bytes ∙ ap (class_bytes flow.model) (sym t.class) in
      let few : length ns ≡ class_bytes flow.model t.leaf.class = omega (arith, a, c, d, total, same) in
      let at_bytes : (k : ℕ) (x : Labelled) → slice_get ns k ≡ Some x → (y : Byte) × (slice_get all k ≡ Some y) × (y.content ≡ number_in x) =
      λ k x e. let y = get_map (λ (z : Byte). z.content) (take size all) k (number_in x) (numbers_at (contents (take size all)) ns k x h e) in (y.0, (get_take size all k y.0 y.1).1, y.2) in
      record {
        few = few;
        at_bytes = at_bytes;
        number = λ plain. cell.whole i 0 ns (record { named = named; alive = alive })
            (record { turn = 0; few = let k = t.count in omega (arith, k); there = let k = t.offset in omega (arith, k) }) plain
            (record {
              size = few;
              each = λ k x small e.
                  let y = at_bytes k x e in
                  let m = matched k y.0 y.1 in
                  let here : Matched state.memory i k t.leaf.class k (number_in x) = subst (Matched state.memory i k t.leaf.class k) y.2 m in
                  subst (λ z. Matched state.memory i z t.leaf.class k (number_in x)) (omega arith) here;
            });
      }

  -- ---- the cell behind the change

  module _ {new : Memory} (w : IsRewrite state.memory new i) (g : Labels → Labels) (rel : (o : ℕ) (y : Byte) → byte_at new i o ≡ Some y → (x : Byte) × (byte_at state.memory i o ≡ Some x) × (y.content ≡ relabelled g x.content))
      (plain : is_pointer t.leaf.class ≡ false) (num : I) (labels : sets.Labels) (a : ℤ) (ns : List Labelled) (few : length ns ≡ class_bytes flow.model t.leaf.class) (number_is : a ≡ number_of t.leaf.signed ns) (at_bytes : (k : ℕ) (x : Labelled) → slice_get ns k ≡ Some x → (y : Byte) × (byte_at state.memory i k ≡ Some y) × (y.content ≡ number_in x))
      (near : IsNearNumber a) (stands_num : gamma num a) (stands_labels : (la : Labels) → labels_leq (as_set la) cell_value.labels ≡ true → labels_leq (as_set (g la)) labels ≡ true) where
    abbrev changed : values.Value I
    changed = record cell_value { num = num; labels = labels }

    abbrev pub after : List (Cell I)
    after = put_value row position changed

    -- the numbers of the bytes are those that were there
    numbers_are : (ms : List Labelled) → Holds flow.model new i 0 t.leaf.class ms → number_of t.leaf.signed ms ≡ a
    numbers_are ms h = same_numbers t.leaf.signed ms ns (h.size ∙ sym few) (λ k x y e f.
        let size = h.size in
        let within = slice_get_within ms k x e in
        let m = h.each k x within e in
        let one : Byte = record { content = number_in x; tag = m.tag } in
        let z = rel k one (subst (λ u. byte_at new i u ≡ Some one) (omega arith) m.here) in
        let o = at_bytes k y f in
        let same : z.0 ≡ o.0 = same_Some z.0 o.0 (sym z.1 ∙ o.1) in
        let c : number_in x ≡ relabelled g (number_in y) = z.2 ∙ ap (relabelled g) (ap (λ u. u.content) same ∙ o.2) in
        number_of_content c) ∙ sym number_is
      where
        number_of_content : {x y : Labelled} → number_in x ≡ relabelled g (number_in y) → x.number ≡ y.number
        number_of_content c = ap number_or c

    content_by : (c : Content) (tag : Option Tag) → IsContentIn state.memory c tag → InGammaContent gamma naming state.memory cell_value t.leaf.class c → InGammaContent gamma naming new (near_value l n changed) t.leaf.class (relabelled g c)
    content_by indeterminate tag inside h = h
    content_by (number k la) tag inside h = (stands_labels la h.0, λ e. absurd (true≢false (sym e ∙ plain)))
    content_by (part x k) tag inside h = pointer_moves w.alike gamma naming (near_value l n changed).pointer x (near_pointer_stands q flow.model flow.bases.items naming state.memory s.sane cell_value.pointer x inside.0 h)

    own_cell : InGammaLeaf gamma flow naming new b t.leaf (near_value l n changed)
    own_cell = record {
      whole = λ k o ms h place plain held.
          let own = own_instance flow p naming row state s b i t.info t.is named alive (not_heap p t) (not_older flow b kind t) w k h in
          let zero = place_zero t o place in
          let there : Holds flow.model new i 0 t.leaf.class ms = subst (λ z. Holds flow.model new i z t.leaf.class ms) zero (subst (λ z. Holds flow.model new z o t.leaf.class ms) own held) in
          subst (gamma (near_value l n changed).num) (sym (numbers_are ms there)) (near_number_stands q num a near stands_num);
      byte = λ k o j content h owns y.
          let own = own_instance flow p naming row state s b i t.info t.is named alive (not_heap p t) (not_older flow b kind t) w k h in
          let one : Byte = record { content = content; tag = y.tag } in
          let z = rel o one (subst (λ u. byte_at new u o ≡ Some one) own y.here) in
          subst (InGammaContent gamma naming new (near_value l n changed) t.leaf.class) (sym z.2) (content_by z.0.content z.0.tag (s.sane.bytes i o z.0 z.1) (byte_stands o z.0 z.1));
    }

    own_leaves : (j : ℕ) (leaf : Leaf) → slice_get t.info.shape.cells j ≡ Some leaf → InGammaLeaf gamma flow naming new b leaf (value_at l n after (leaf_position t.info j))
    own_leaves = only_leaf t (λ j leaf. InGammaLeaf gamma flow naming new b leaf (value_at l n after (leaf_position t.info j))) (subst (InGammaLeaf gamma flow naming new b t.leaf) (sym (own_value p t row changed l n long)) own_cell)

    bytes_seen : SeenSame (bytes_at new i) (bytes_at state.memory i)
    unfolding byte_at
    bytes_seen = record {
      long = w.alike.lengths i;
      each = λ k x y e f. let z = rel k x e in let same : z.0 ≡ y = same_Some z.0 y (sym z.1 ∙ f) in ap seen_as z.2 ∙ (seen_relabelled g z.0.content ∙ ap (λ u. seen_as u.content) same);
    }

    own_zeros : (z : ℕ) (zeros : ZeroPart) → slice_get t.info.shape.zeros z ≡ Some zeros → InGammaZero gamma naming new (zero_at l n after (zero_position t.info z)) (array_bytes zeros (bytes_at new i))
    own_zeros z zeros e =
        let small = slice_get_within t.info.shape.zeros z zeros e in
        let x = zero_is t.info z (fits p t) (omega (arith, small)) in
        let c = one_cell t in
        let d = place_is p t in
        let same = same_zero l n row after (zero_position t.info z) (keeps p t row changed (zero_position t.info z) (λ f. omega (arith, f, x, c, d))) in
        let part = array_same zeros.size (drop zeros.offset (bytes_at new i)) (drop zeros.offset (bytes_at state.memory i)) (drop_same zeros.offset (bytes_at new i) (bytes_at state.memory i) bytes_seen) in
        let first = same_zeros (array_bytes zeros (bytes_at new i)) (array_bytes zeros (bytes_at state.memory i)) part.long part.each in
        rw (same, first) (s.zeros b z i t.info zeros t.is e (record { named = named; alive = alive }))

    valid : (o : ℕ) (y : Byte) → byte_at new i o ≡ Some y → IsContentIn new y.content y.tag × IsContentNamed naming new y.content
    valid o y e =
        let z = rel o y e in
        let was = w.own o y e in
        let same : z.0 ≡ was.old = same_Some z.0 was.old (sym z.1 ∙ was.there) in
        let tag : y.tag ≡ z.0.tag = was.tag ∙ ap (λ u. u.tag) (sym same) in (
          subst (λ u. IsContentIn new u y.tag) (sym z.2) (subst (IsContentIn new (relabelled g z.0.content)) (sym tag) (content_in z.0.content z.0.tag (s.sane.bytes i o z.0 z.1))),
          subst (IsContentNamed naming new) (sym z.2) (content_named z.0.content (s.sane.named i b o z.0 named z.1)),
        )
      where
        content_in : (c : Content) (tag : Option Tag) → IsContentIn state.memory c tag → IsContentIn new (relabelled g c) tag
        content_in indeterminate tag h = tt
        content_in (number k la) tag h = h
        content_in (part x k) tag h = (pointer_in_moves w.alike x h.0, h.1)

        content_named : (c : Content) → IsContentNamed naming state.memory c → IsContentNamed naming new (relabelled g c)
        content_named indeterminate h = tt
        content_named (number k la) h = tt
        content_named (part x k) h = content_named_moves naming state.memory new w.alike.lives (part x k) h

    pub relabelled_stands : InGamma l n gamma flow naming after (record { memory = new; temps = state.temps; entered = state.entered })
    relabelled_stands = object_stands flow p naming row state s b i t.info t.is named alive (not_heap p t) (not_older flow b kind t) w (rewrite_sane flow.model flow.bases.items naming w s.sane valid) after (outside p t row changed) own_leaves own_zeros

    pub relabelled_long : length after ≡ flow.width
    relabelled_long = length-set row position (Value changed) ∙ long
