-- The row behind a text that is spelled stands for the memory behind it.
use Rattle.std.proofs.Common.{◌≡◌, ℕ, ◌+◌, ◌<◌, ◌≤◌, true, false, Some, List, length, arith, subst, sym, ◌∙◌, inl, inr}
use Rattle.std.specs.Prelude.{slice_get, ℤ}
use Rattle.std.proofs.lemmas.Bool.{cases_eq, true≢false}
use Rattle.std.proofs.lemmas.Option.{same_Some, slice_get_within}
use Rattle.cc_base.specs.Lattices.{LatticeOf, OrderLaws}
use Rattle.cc_base.specs.IntegerDomains.{IntegersOf, BoundLaws}
use Rattle.c_layout.specs.declared.leaf_lists.Leaf.{Leaf}
use Rattle.c_layout.specs.declared.shapes.BaseInfo.{BaseInfo}
use Rattle.c_layout.specs.declared.shapes.ZeroPart.{ZeroPart}
use Rattle.cfg.specs.BaseShapes.{part_size, is_room_or_apart}
use Rattle.cfg.specs.WellFormed.{base_values}
use Rattle.cfg.specs.declared.programs.Flow.{Flow}
use Rattle.value_domain.specs.declared.values.row_cells.Cell.{Cell}
use Rattle.store_cells.specs.RowPositions.{leaf_position, zero_position, value_at, zero_at}
use Rattle.store.specs.Spelling.{written_count, spell_leaf, spell_leaves, first_zero_of, spell_part, spell_zero, spell_object}
use Rattle.store_cells.specs.Walks.{walk}
use Rattle.transfer_sound.specs.StoreLaws.{AreBytes}
use Rattle.memory_model.specs.Memory.Instances.{Memory, bytes_at}
use Rattle.store_sound.specs.Concretization.SoundMemory.{IsMemoryOf}
use Rattle.store_sound.specs.Concretization.ValueMeaning.{Naming, InGammaZero}
use Rattle.store_sound.specs.Concretization.RowMeaning.{MachineState, array_bytes, IsLiveOf, InGammaLeaf, InGamma}
use Rattle.store_sound.specs.Operations.Shapes.{IsLaidOut, IsShaped}
use Rattle.store_sound.proofs.operations.Only.{only_same}
use Rattle.store_sound.proofs.operations.StoreRows.{Fits, leaf_is, zero_is}
use Rattle.store_sound.specs.Regions.RegionWrites.{IsRegion, WritesWithin, InGammaBase}
use Rattle.store_sound.proofs.regions.BaseRows.{same_base, base_apart, stands_base, bases_stand}
use Rattle.store_sound.proofs.regions.Layers.{value_turn, zero_turn, leaf_turn, part_turn, layers_stand}
use Rattle.store_sound.proofs.regions.SpelledParts.{leaf_only, leaves_only, zero_only, zeros_only, spelled_within}
use Rattle.library_sound.proofs.spelling.SpelledCells.{IsText, leaf_spelled}
use Rattle.library_sound.proofs.spelling.SpelledZeros.{zero_spelled}

-- ---- the object

-- what is known of a text that is spelled into an object
pub record IsSpelled (old new : Memory) (i : ℕ) (base : BaseInfo) (offset room : ℕ) (text : List ℕ) : Type 0 where
  pub region : IsRegion old new i offset (written_count room text)
  pub written : IsText new i offset (written_count room text) text
  pub small : AreBytes text
  pub some : 0 < room
  pub inside : offset + room ≤ length (bytes_at new i)
  pub declared : base.shape.heap ≡ false
  pub full : (z : ℕ) (part : ZeroPart) → slice_get base.shape.zeros z ≡ Some part → 0 < part_size part
  pub rooms : (z : ℕ) (part : ZeroPart) → slice_get base.shape.zeros z ≡ Some part → is_room_or_apart offset room part ≡ true

module _ {I : Type 0} {l : LatticeOf I} {n : IntegersOf I} {gamma : I → ℤ → Type 0} (o : OrderLaws l) (q : BoundLaws l n gamma) (flow : Flow) (naming : Naming) {old new : Memory} {i offset room : ℕ} (text : List ℕ) (b : ℕ) (base : BaseInfo) (s : IsSpelled old new i base offset room text) (sane : IsMemoryOf flow.model flow.bases.items naming new)
    (fits : Fits base) (shape : IsShaped base) (single : (j : ℕ) → IsLiveOf naming old b j → j ≡ i) (row : List (Cell I)) (long : base.first + base_values base ≤ length row) (t : InGammaBase l n gamma flow naming old b base row) where
  abbrev filled : ℕ
  filled = written_count room text

  leaf_new : (j : ℕ) (leaf : Leaf) → slice_get base.shape.cells j ≡ Some leaf → InGammaLeaf gamma flow naming new b leaf (value_at l n (spell_leaves l n base offset filled text row) (leaf_position base j))
  unfolding spell_leaves
  leaf_new j leaf e =
      let u = slice_get_within base.shape.cells j leaf e in
      let x = leaf_is base j fits u in
      value_turn l n (InGammaLeaf gamma flow naming old b leaf) (InGammaLeaf gamma flow naming new b leaf) (leaf_position base j) (spell_leaf l n base offset filled text leaf j) row (walk (spell_leaf l n base offset filled text) 0 base.shape.cells row)
      (leaf_turn base fits (spell_leaf l n base offset filled text) (leaf_only l n flow base fits offset room text) j leaf e row)
      (λ r same cell. leaf_spelled o q flow naming s.region text s.small s.written b single leaf (shape.strides j leaf e) (leaf_position base j) r (omega (arith, x, u, same, long)) cell)
      (t.leaves j leaf e)

  zero_new : (r : List (Cell I)) → length r ≡ length row → (z : ℕ) (part : ZeroPart) → slice_get base.shape.zeros z ≡ Some part → ((j : ℕ) → IsLiveOf naming old b j → InGammaZero gamma naming old (zero_at l n r (zero_position base z)) (array_bytes part (bytes_at old j))) → (j : ℕ) → IsLiveOf naming old b j → InGammaZero gamma naming new (zero_at l n (spell_zero base offset (first_zero_of n room text) r) (zero_position base z)) (array_bytes part (bytes_at new j))
  unfolding spell_zero
  zero_new r same z part e zeros j alive =
      let u = slice_get_within base.shape.zeros z part e in
      let x = zero_is base z fits (omega (arith, u)) in
      zero_turn l n (λ f. (h : ℕ) → IsLiveOf naming old b h → InGammaZero gamma naming old f (array_bytes part (bytes_at old h))) (λ f. InGammaZero gamma naming new f (array_bytes part (bytes_at new j))) (zero_position base z) (spell_part base offset (first_zero_of n room text) part z) r _
      (part_turn base fits (spell_part base offset (first_zero_of n room text)) (zero_only l n flow base fits offset room text) z part e r)
      (λ r2 equal zeros2. zero_spelled o q flow naming text s.region sane s.written s.some s.inside b single part (s.full z part e) (s.rooms z part e) (zero_position base z) r2 (omega (arith, x, u, equal, same, long)) j alive (zeros2 j alive))
      zeros

  base_spelled : InGammaBase l n gamma flow naming new b base (spell_object l n offset room text base row)
  unfolding spell_object
  base_spelled = layers_stand o q flow naming s.region b base fits (spell_leaves l n base offset filled text) (λ r. r) (spell_zero base offset (first_zero_of n room text))
      (leaves_only l n flow base fits offset room text) (only_same _ _) (zeros_only l n flow base fits offset room text) row t
      leaf_new (λ r same states c heap small cell. absurd (true≢false (sym heap ∙ s.declared))) zero_new

-- ---- all bases

module _ {I : Type 0} {l : LatticeOf I} {n : IntegersOf I} {gamma : I → ℤ → Type 0} (o : OrderLaws l) (q : BoundLaws l n gamma) (flow : Flow) (naming : Naming) (row : List (Cell I)) (state : MachineState) (laid : IsLaidOut flow (length row)) (s : InGamma l n gamma flow naming row state)
    (new : Memory) (i offset room : ℕ) (text : List ℕ) (b : ℕ) (base : BaseInfo) (at : slice_get flow.bases.items b ≡ Some base) (named : naming i ≡ Some b) (w : IsSpelled state.memory new i base offset room text) (sane : IsMemoryOf flow.model flow.bases.items naming new) (single : (j : ℕ) → IsLiveOf naming state.memory b j → j ≡ i) where
  abbrev after : List (Cell I)
  after = spell_object l n offset room text base row

  fits_of : (c : ℕ) (other : BaseInfo) → slice_get flow.bases.items c ≡ Some other → Fits other
  fits_of c other e = let x = laid.laid.close c other e in let y = laid.laid.small in omega (arith, x, y)

  within : WritesWithin base.first (base.first + base_values base) (spell_object l n offset room text base)
  within = spelled_within l n flow base (fits_of b base at) offset room text

  own : InGammaBase l n gamma flow naming new b base after
  own =
      let x = laid.laid.close b base at in
      let y = laid.long in
      base_spelled o q flow naming text b base w sane (fits_of b base at) (laid.shaped.each b base at) single row (omega (arith, x, y)) (stands_base o q flow naming row state laid s b base at)

  each : (c : ℕ) (other : BaseInfo) → slice_get flow.bases.items c ≡ Some other → InGammaBase l n gamma flow naming new c other after
  each c other e = elim (cases_eq c b) [
    | inl d ↦ (let f : slice_get flow.bases.items b ≡ Some other = subst (λ z. slice_get flow.bases.items z ≡ Some other) d e in
        let same : base ≡ other = same_Some base other (sym at ∙ f) in
        subst (λ z. InGammaBase l n gamma flow naming new z other after) (sym d) (subst (λ z. InGammaBase l n gamma flow naming new b z after) same own))
    | inr ne ↦ same_base flow naming new c other row after (fits_of c other e)
        (λ x from to. within.keeps row x (λ u v. elim (laid.laid.apart c b other base e at ne) [ inl y ↦ omega (arith, y, to, u) | inr y ↦ omega (arith, y, from, v) ]))
        (base_apart o q flow naming w.region c other row (λ is some. ne (same_Some c b (sym is ∙ named))) (stands_base o q flow naming row state laid s c other e))
  ]

  pub spelled_stands : InGamma l n gamma flow naming after (record { memory = new; temps = state.temps; entered = state.entered })
  spelled_stands = bases_stand o q flow naming row state laid s new i offset (written_count room text) w.region sane after
      (λ x far. within.keeps row x (λ u v. let c = laid.laid.close b base at in omega (arith, c, far, v))) each
