-- The cells of a literal that is spelled stand for its bytes.
use Rattle.std.proofs.Common.{◌≡◌, ℕ, zero, suc, ◌+◌, ◌-◌, ◌<◌, ◌≤◌, ◌^◌, Bool, true, false, cond, ◌&&◌, ◌||◌, Option, Some, None, List, [], ◌∷◌, length, arith, subst, sym, refl, ap, ◌∙◌, inl, inr}
use Rattle.std.specs.Prelude.{slice_get, map, ◌++◌, ◌⊎◌, ◌==◌, ℤ}
use Rattle.std.specs.List.{list_all}
use Rattle.std.proofs.lemmas.Bool.{cases_eq, cases_lt, and_parts, eqb-true, true≢false}
use Rattle.std.proofs.lemmas.List.{length-map, length-append, length-set}
use Rattle.std.proofs.lemmas.Option.{same_Some, slice_get_within}
use Rattle.cc_base.specs.Lattices.{LatticeOf, OrderLaws}
use Rattle.cc_base.specs.IntegerDomains.{IntegersOf, BoundLaws}
use Rattle.cc_base.specs.declared.limit_table.Limits.{Limits}
use Rattle.c_layout.specs.declared.leaf_lists.Class.{Class}
use Rattle.c_layout.specs.declared.leaf_lists.Class.TheVariants.{Char}
use Rattle.c_layout.specs.declared.leaf_lists.Leaf.{Leaf}
use Rattle.c_layout.specs.declared.shapes.BaseInfo.{BaseInfo}
use Rattle.c_layout.specs.declared.shapes.BaseKind.TheVariants.{Literal, Older}
use Rattle.c_layout.specs.declared.shapes.ZeroPart.{ZeroPart}
use Rattle.cfg.specs.BaseShapes.{ends_by, part_size, is_room_or_apart}
use Rattle.cfg.specs.WellFormed.{base_values, is_well_formed}
use Rattle.cfg.specs.declared.programs.Flow.{Flow}
use Rattle.value_domain.specs.declared.strings.first_zeros.FirstZero.{FirstZero}
use Rattle.value_domain.specs.declared.values.values.Value as values
use Rattle.value_domain.specs.declared.values.row_cells.Cell.{Cell}
use Rattle.value_domain.specs.declared.values.row_cells.Cell.TheVariants.{First}
use Rattle.store_cells.specs.FirstZeroWrites.{any_zero}
use Rattle.store_objects.specs.ObjectLives.{at_base}
use Rattle.store_cells.specs.RowPositions.{leaf_position, zero_position, value_at, zero_at, put_zero}
use Rattle.store.specs.Spelling.{written_count, character, spell_leaf, spell_leaves, first_zero_of, spell_part, spell_part_at, spell_zero, spell_object, spell}
use Rattle.memory_model.specs.Memory.Labels.{no_labels}
use Rattle.memory_model.specs.Memory.ScalarSizes.{class_bytes}
use Rattle.memory_model.specs.Memory.Bytes.{Content, number, Tag, Byte}
use Rattle.memory_model.specs.Memory.Instances.{Memory, Instance, bytes_of, bytes_at, byte_at}
use Rattle.memory_model.specs.Memory.Tags.{tag_of}
use Rattle.memory_model.specs.Effects.ObjectEffects as effects
use Rattle.memory_model.specs.Effects.Touches.{set_bytes, is_allocated}
use Rattle.memory_model.specs.Effects.UnitStarts.{character_byte}
use Rattle.store_sound.specs.Concretization.Matching.{Fits, number_in}
use Rattle.store_sound.specs.Concretization.RowMeaning.{IsLiveOf, InGammaLeaf, array_bytes}
use Rattle.store_sound.specs.Concretization.SoundMemory.{IsMemoryOf, storage_for}
use Rattle.store_sound.specs.Concretization.ValueMeaning.{Naming, InGammaZero}
use Rattle.store_sound.proofs.operations.Classes.{class_above}
use Rattle.store_sound.proofs.operations.Frames.{IsAlike}
use Rattle.store_sound.proofs.operations.LoadSound.{instance_there}
use Rattle.store_sound.proofs.operations.MachineStores.{take_at, set_is}
use Rattle.store_sound.proofs.operations.Only.{cell_put}
use Rattle.store_sound.proofs.operations.Slices.{get_map, get_there, get_set_other}
use Rattle.store_sound.proofs.operations.StoreLeaves.{live_ended}
use Rattle.store_sound.proofs.operations.StoreRows as rows
use Rattle.store_sound.proofs.operations.StoreValues.{same_value, same_zero}
use Rattle.store_sound.specs.Programs.Premises.{HasPremises}
use Rattle.store_sound.proofs.programs.ShapedBases.{all_at, ends_inside}
use Rattle.store_sound.specs.Regions.RegionWrites.{IsRegion, InGammaBase}
use Rattle.store_sound.proofs.regions.Layers.{value_turn, zero_turn, leaf_turn, part_turn, leaves_within, zeros_within}
use Rattle.store_sound.proofs.regions.RegionArrays.{array_short, any_zero_stands, put_zero_stands}
use Rattle.library_sound.proofs.FullParts.{parts_full}
use Rattle.library_sound.proofs.spelling.Texts.{content_is}
use Rattle.library_sound.proofs.spelling.SpelledCells.{IsText, leaf_spelled}
use Rattle.library_sound.proofs.spelling.SpelledZeros.{zero_spelled}
use Rattle.entry_sound.specs.Starts.Literals.{IsLiteralObject, LiteralsStand}
use Rattle.entry_sound.proofs.cells.OwnCells.{spelled_leaf, spelled_part}
use Rattle.entry_sound.proofs.cells.StaticMemory.{own_bytes}
use Rattle.entry_sound.proofs.starts.StaticSteps.{set_alike}

none_past : {X : Type 0} (xs : List X) (k : ℕ) → length xs ≤ k → slice_get xs k ≡ None
none_past [] k h = refl
none_past (x ∷ xs) zero h = absurd (omega (arith, h))
none_past (x ∷ xs) (suc k) h = none_past xs k (omega (arith, h))

or_cases : (a b : Bool) → (a || b) ≡ true → (a ≡ true) ⊎ (b ≡ true)
or_cases true b h = inl refl
or_cases false b h = inr h

-- a part of some bytes within the room is all of it
starts_room : (room : ℕ) (zeros : ZeroPart) → 0 < part_size zeros → zeros.offset + part_size zeros ≤ room → is_room_or_apart 0 room zeros ≡ true → zeros.offset ≡ 0
starts_room room zeros some inside h = elim (or_cases ((zeros.offset == 0) && (part_size zeros == room)) (ends_by zeros.offset (part_size zeros) 0 || ends_by 0 room zeros.offset) h) [
  | inl e ↦ eqb-true zeros.offset 0 (and_parts (zeros.offset == 0) (part_size zeros == room) e).0
  | inr e ↦ elim (or_cases (ends_by zeros.offset (part_size zeros) 0) (ends_by 0 room zeros.offset) e) [
    | inl f ↦ (let a = ends_inside zeros.offset (part_size zeros) 0 f in absurd (omega (arith, a, some)))
    | inr f ↦ (let a = ends_inside 0 room zeros.offset f in absurd (omega (arith, a, some, inside)))
  ]
]

-- a byte that is seen under no class: the second one of a character
hidden : Byte → Byte
hidden x = record { content = x.content; tag = tag_of Char 1 }

unfit : (class : Class) (k : ℕ) (tag : Option Tag) → Fits class k tag → tag ≡ tag_of Char 1 → (class ≡ Char) × (k ≡ 1)
unfit class k None h e = cc
unfit class k (Some tag) h e = let f = same_Some tag (record { class = Char; at = 1 }) e in (sym h.0 ∙ ap (λ z. z.class) f, sym h.1 ∙ ap (λ z. z.at) f)

module _ {I : Type 0} {l : LatticeOf I} {n : IntegersOf I} {gamma : I → ℤ → Type 0} (o : OrderLaws l) (q : BoundLaws l n gamma) (flow : Flow) (p : HasPremises flow) (limits : Limits) (good : is_well_formed limits flow ≡ true) (naming : Naming) (new : Memory) (sane : IsMemoryOf flow.model flow.bases.items naming new) (b i : ℕ) (info : BaseInfo) (text : List ℕ) (object : IsLiteralObject flow naming new b i info text) (it : Instance) (at : slice_get new i ≡ Some it) where
  declared_is : info.shape.heap ≡ false
  declared_is = sym (p.shaped.each b info object.among).kind ∙ ap (λ k. is_allocated (storage_for k)) object.kind

  fits : rows.Fits info
  fits = let a = p.laid.laid.close b info object.among in let d = p.laid.laid.small in omega (arith, a, d)

  abbrev all : List Content
  all = effects.characters text ++ number 0 no_labels ∷ []

  all_long : length all ≡ info.size
  all_long = let a = length-append (effects.characters text) (number 0 no_labels ∷ []) in let d = length-map text (λ x. number x no_labels) in let e = object.size in omega (arith, a, d, e)

  bytes_long : length (bytes_at new i) ≡ info.size
  bytes_long = ap length object.bytes ∙ (length-map all character_byte ∙ all_long)

  abbrev count : ℕ
  count = written_count info.size text

  count_is : count ≡ info.size
  count_is = let e = object.size in omega (arith, e)

  -- ---- memory in which the bytes of the literal are hidden

  abbrev old : Memory
  old = set_bytes new i (map hidden (bytes_at new i))

  old_bytes : bytes_at old i ≡ map hidden (bytes_at new i)
  old_bytes = own_bytes new i it at (map hidden (bytes_at new i))

  alike : IsAlike new old
  alike = set_alike new i it at (map hidden (bytes_at new i)) (length-map (bytes_at new i) hidden ∙ ap (λ z. length (bytes_of z)) at)

  other_bytes : (j : ℕ) → (j ≡ i → ⊥) → bytes_at old j ≡ bytes_at new j
  other_bytes j ne = ap (λ z. bytes_at z j) (set_is new i it (map hidden (bytes_at new i)) at) ∙ ap bytes_of (get_set_other new i j (record it { bytes = map hidden (bytes_at new i) }) ne)

  region : IsRegion old new i 0 count
  unfolding byte_at
  region = record {
    lives = λ j. sym (alike.lives j);
    lengths = λ j. sym (alike.lengths j);
    made = sym alike.made;
    fits = (let a = alike.lengths i in let d = bytes_long in let e = count_is in omega (arith, a, d, e));
    outside = λ j a apart. elim (cases_eq j i) [
      | inr ne ↦ ap (λ z. slice_get z a) (sym (other_bytes j ne))
      | inl e ↦ elim (cases_lt a count) [
        | inl less ↦ absurd (apart e (omega arith) (omega (arith, less)))
        | inr past ↦ (let f = bytes_long in let g = count_is in let h = alike.lengths i in
            subst (λ z. slice_get (bytes_at new z) a ≡ slice_get (bytes_at old z) a) (sym e) (none_past (bytes_at new i) a (omega (arith, past, f, g)) ∙ sym (none_past (bytes_at old i) a (omega (arith, past, f, g, h)))))
      ]
    ];
  }

  single : (j : ℕ) → IsLiveOf naming old b j → j ≡ i
  single j w = sane.one j i b info object.among (λ e. let f : Literal ≡ Older = sym object.kind ∙ e in absurd (cc)) w.named object.named (λ e. live_ended (sym w.alive ∙ (alike.lives j ∙ e))) (λ e. live_ended (sym object.alive ∙ e))

  hidden_tag : (a : ℕ) (x : Byte) → byte_at old i a ≡ Some x → x.tag ≡ tag_of Char 1
  unfolding byte_at hidden
  hidden_tag a x e = let r = get_map hidden (bytes_at new i) a x (sym (ap (λ z. slice_get z a) old_bytes) ∙ e) in sym (ap (λ z. z.tag) r.2)

  -- nothing is seen of them
  unseen : (leaf : Leaf) (v : values.Value I) → InGammaLeaf gamma flow naming old b leaf v
  unseen leaf v = record {
    whole = λ j a ns w place plain holds.
        let same = single j w in
        let size = holds.size in
        let wide = class_above flow.model leaf.class in
        let y = get_there ns 0 (omega (arith, size, wide)) in
        let m = holds.each 0 y.0 (slice_get_within ns 0 y.0 y.1) y.1 in
        let r = unfit leaf.class 0 m.tag m.fits (hidden_tag (a + 0) (record { content = number_in y.0; tag = m.tag }) (subst (λ z. byte_at old z (a + 0) ≡ Some (record { content = number_in y.0; tag = m.tag })) same m.here)) in
        let one = r.1 in
        absurd (omega (arith, one));
    byte = λ j a k content w owns m.
        let same = single j w in
        let r = unfit leaf.class k m.tag m.fits (hidden_tag a (record { content = content; tag = m.tag }) (subst (λ z. byte_at old z a ≡ Some (record { content = content; tag = m.tag })) same m.here)) in
        let small = owns.small in
        let one : class_bytes flow.model leaf.class ≡ 1 = ap (class_bytes flow.model) r.0 in
        let e = r.1 in
        absurd (omega (arith, small, one, e));
  }

  -- ---- the text

  byte_is : (a : ℕ) (x : Byte) → byte_at new i a ≡ Some x → (c : Content) × (slice_get all a ≡ Some c) × (character_byte c ≡ x)
  unfolding byte_at
  byte_is a x e = get_map character_byte all a x (sym (ap (λ z. slice_get z a) object.bytes) ∙ e)

  is_text : IsText new i 0 count text
  is_text = record {
    content = λ a x from to e.
        let r = byte_is a x e in
        let g = count_is in
        let small : a < info.size = omega (arith, to, g) in
        let f = content_is info.size text a r.0 (take_at info.size all a small ∙ r.1) in
        let z : a - 0 ≡ a = omega arith in
        sym (ap (λ y. y.content) r.2) ∙ (f ∙ ap (λ y. number (character text y) no_labels) (sym z));
    tag = λ a x from to e. sym (ap (λ y. y.tag) (byte_is a x e).2);
    last = (let a = sane.small i in let d = bytes_long in let e = count_is in omega (arith, a, d, e));
  }

  some : 0 < info.size
  some = let e = object.size in omega (arith, e)

  -- ---- the row

  module _ (row : List (Cell I)) (long : length row ≡ flow.width) where
    room : info.first + base_values info ≤ length row
    room = let a = p.laid.laid.close b info object.among in let d = p.laid.long in omega (arith, a, d, long)

    abbrev leaves_row : List (Cell I)
    leaves_row = spell_leaves l n info 0 count text row

    leaves_long : length leaves_row ≡ length row
    unfolding spell_leaves
    leaves_long = (leaves_within info fits (spell_leaf l n info 0 count text) (spelled_leaf l n flow info fits declared_is 0 count text)).long row

    own_leaf : (j : ℕ) (leaf : Leaf) → slice_get info.shape.cells j ≡ Some leaf → InGammaLeaf gamma flow naming new b leaf (value_at l n leaves_row (leaf_position info j))
    unfolding spell_leaves
    own_leaf j leaf e =
        let w = slice_get_within info.shape.cells j leaf e in
        let x = rows.leaf_is info j fits w in
        value_turn l n (λ v. Unit {0}) (InGammaLeaf gamma flow naming new b leaf) (leaf_position info j) (spell_leaf l n info 0 count text leaf j) row leaves_row
        (leaf_turn info fits (spell_leaf l n info 0 count text) (spelled_leaf l n flow info fits declared_is 0 count text) j leaf e row)
        (λ r same u. leaf_spelled o q flow naming region text object.small is_text b single leaf ((p.shaped.each b info object.among).strides j leaf e) (leaf_position info j) r (omega (arith, x, w, same, room)) (unseen leaf (value_at l n r (leaf_position info j)))) tt

    abbrev new_zero : FirstZero I
    new_zero = first_zero_of n info.size text

    put_either : (place : ℕ) (r s : List (Cell I)) → place < length r → length s ≡ length r → zero_at l n (put_zero r place new_zero) place ≡ zero_at l n (put_zero s place new_zero) place
    put_either place r s h e = same_zero l n (put_zero s place new_zero) (put_zero r place new_zero) place (cell_put r place (First new_zero) h ∙ sym (cell_put s place (First new_zero) (omega (arith, h, e))))

    part_stands : (z : ℕ) (zeros : ZeroPart) → slice_get info.shape.zeros z ≡ Some zeros → (r : List (Cell I)) → length r ≡ length row → InGammaZero gamma naming new (zero_at l n (spell_part_at 0 new_zero zeros (zero_position info z) r) (zero_position info z)) (array_bytes zeros (bytes_at new i))
    part_stands z zeros e r same =
        let w = slice_get_within info.shape.zeros z zeros e in
        let x = rows.zero_is info z fits (omega (arith, w)) in
        let there : zero_position info z < length r = omega (arith, x, w, same, room) in
        let g = parts_full limits flow good b info object.among declared_is z zeros e in
        let rooms = all_at (is_room_or_apart 0 info.size) info.shape.zeros z zeros (and_parts (ends_by 0 info.size info.size) (list_all (is_room_or_apart 0 info.size) info.shape.zeros) object.room).1 e in
        let start : zeros.offset ≡ 0 = starts_room info.size zeros g.some g.inside rooms in
        let is_start : (zeros.offset == 0) ≡ true = ap (λ y. y == 0) start in
        let r2 : List (Cell I) = put_zero r (zero_position info z) (any_zero l n) in
        let long2 = length-set r (zero_position info z) (First (any_zero l n)) in
        let short = array_short zeros (bytes_at old i) in
        let small = sane.small i in
        let lengths = alike.lengths i in
        let small_old : length (array_bytes zeros (bytes_at old i)) ≤ 2 ^ 64 - 1 = omega (arith, short, small, lengths) in
        let before = put_zero_stands o q naming old r (zero_position info z) (any_zero l n) (array_bytes zeros (bytes_at old i)) there small_old (any_zero_stands o q naming old (array_bytes zeros (bytes_at old i)) small_old) in
        let is_live : IsLiveOf naming old b i = record { named = object.named; alive = alike.lives i ∙ object.alive } in
        let bytes = bytes_long in
        let h = zero_spelled o q flow naming text region sane is_text some (omega (arith, bytes)) b single zeros g.some rooms (zero_position info z) r2 (omega (arith, there, long2)) i is_live before in
        let k : InGammaZero gamma naming new (zero_at l n (put_zero r2 (zero_position info z) new_zero) (zero_position info z)) (array_bytes zeros (bytes_at new i)) = subst (λ y. InGammaZero gamma naming new (zero_at l n (cond y (put_zero r2 (zero_position info z) new_zero) r2) (zero_position info z)) (array_bytes zeros (bytes_at new i))) is_start h in
        subst (λ y. InGammaZero gamma naming new (zero_at l n (cond y (put_zero r (zero_position info z) new_zero) r) (zero_position info z)) (array_bytes zeros (bytes_at new i))) (sym is_start)
        (subst (λ y. InGammaZero gamma naming new y (array_bytes zeros (bytes_at new i))) (sym (put_either (zero_position info z) r r2 there long2)) k)

    own_part : (z : ℕ) (zeros : ZeroPart) → slice_get info.shape.zeros z ≡ Some zeros → InGammaZero gamma naming new (zero_at l n (spell_zero info 0 new_zero leaves_row) (zero_position info z)) (array_bytes zeros (bytes_at new i))
    unfolding spell_zero
    own_part z zeros e = zero_turn l n (λ f. Unit {0}) (λ f. InGammaZero gamma naming new f (array_bytes zeros (bytes_at new i))) (zero_position info z) (spell_part info 0 new_zero zeros z) leaves_row _
        (part_turn info fits (spell_part info 0 new_zero) (spelled_part l n flow info fits declared_is 0 info.size text) z zeros e leaves_row)
        (λ r same u. part_stands z zeros e r (same ∙ leaves_long)) tt

    pub literal_stands : InGammaBase l n gamma flow naming new b info (spell l n flow.bases.items b 0 info.size text row)
    unfolding spell spell_object spell_zero
    literal_stands = subst (InGammaBase l n gamma flow naming new b info) (sym (ap (λ z. at_base (spell_object l n 0 info.size text) z row) object.among)) (record {
      leaves = λ j leaf e.
          let w = slice_get_within info.shape.cells j leaf e in
          let x = rows.leaf_is info j fits w in
          subst (InGammaLeaf gamma flow naming new b leaf) (sym (same_value l n leaves_row (spell_object l n 0 info.size text info row) (leaf_position info j) ((zeros_within info fits (spell_part info 0 new_zero) (spelled_part l n flow info fits declared_is 0 info.size text)).keeps leaves_row (leaf_position info j) (λ from to. omega (arith, from, x, w))))) (own_leaf j leaf e);
      classes = λ c heap h. absurd (true≢false (sym heap ∙ declared_is));
      zeros = λ z j zeros e w.
          let is : j ≡ i = sane.one j i b info object.among (λ f. let g : Literal ≡ Older = sym object.kind ∙ f in absurd (cc)) w.named object.named (λ f. live_ended (sym w.alive ∙ f)) (λ f. live_ended (sym object.alive ∙ f)) in
          subst (λ y. InGammaZero gamma naming new (zero_at l n (spell_object l n 0 info.size text info row) (zero_position info z)) (array_bytes zeros (bytes_at new y))) (sym is) (own_part z zeros e);
      states = λ j heap named. absurd (true≢false (sym heap ∙ declared_is));
    })

-- ---- the theorem

module _ {I : Type 0} {l : LatticeOf I} {n : IntegersOf I} {gamma : I → ℤ → Type 0} (o : OrderLaws l) (q : BoundLaws l n gamma) (flow : Flow) where
  pub literals_stand : LiteralsStand l n gamma flow
  literals_stand limits good p naming memory sane b i info text object row long =
      let at = instance_there memory i object.alive in
      literal_stands o q flow p limits good naming memory sane b i info text object at.0 at.1 row long
