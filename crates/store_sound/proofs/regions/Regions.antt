-- Memory in which some bytes of one instance were written, and what becomes of a cell.
use Rattle.std.proofs.Common.{◌≡◌, ℕ, ◌+◌, ◌<◌, ◌≤◌, Bool, true, false, Some, List, length, arith, subst, sym, ◌∙◌, inl, inr, ◌⊎◌}
use Rattle.std.specs.Prelude.{slice_get, ℤ}
use Rattle.std.proofs.lemmas.Bool.{cases_eq, cases_lt}
use Rattle.std.proofs.lemmas.Option.{slice_get_within}
use Rattle.cc_base.specs.Lattices.{LatticeOf, OrderLaws}
use Rattle.cc_base.specs.IntegerDomains.{IntegersOf, BoundLaws}
use Rattle.c_layout.specs.declared.leaf_lists.Class.{Class}
use Rattle.cfg.specs.declared.programs.Flow.{Flow}
use Rattle.value_domain.specs.Values.LabelSets.{labels_leq}
use Rattle.value_domain.specs.declared.values.label_sets.Labels as sets
use Rattle.value_domain.specs.Values.Values.{value_lattice, value_order}
use Rattle.value_domain.specs.declared.values.values.Value.{Value}
use Rattle.store_cells.specs.ByteWrites.{byte_written}
use Rattle.store_cells.specs.ClassNumbers.{is_pointer}
use Rattle.memory_model.specs.Memory.ScalarSizes.{class_bytes}
use Rattle.memory_model.specs.Memory.Labels.{Labels}
use Rattle.memory_model.specs.Memory.Bytes.{Content, number, Byte}
use Rattle.memory_model.specs.Memory.Instances.{Memory, bytes_at, byte_at}
use Rattle.memory_model.specs.Memory.Numbers.{Labelled, number_of}
use Rattle.store_sound.specs.Concretization.Matching.{Matched, number_in, Holds}
use Rattle.store_sound.specs.Concretization.SeenLabels.{as_set}
use Rattle.store_sound.specs.Concretization.SoundMemory.{IsMemoryOf}
use Rattle.store_sound.specs.Concretization.ValueMeaning.{Naming, InGammaContent}
use Rattle.store_sound.specs.Concretization.RowMeaning.{IsLiveOf, InGammaCell}
use Rattle.store_sound.specs.Regions.RegionWrites.{IsRegion}
use Rattle.store_sound.proofs.operations.Frames.{IsAlike, live_moves, content_moves, in_or_out}
use Rattle.store_sound.proofs.operations.Larger.{ValueBelow, value_below, content_larger}
use Rattle.store_sound.proofs.operations.Near.{IsNearValue, near_is, join_near}
use Rattle.store_sound.proofs.operations.StoreValues.{written}
use Rattle.store_sound.proofs.chars.ByteValues.{written_number, written_content, written_near}

pub alike_region : {old new : Memory} {i offset size : ℕ} → IsRegion old new i offset size → IsAlike old new
alike_region s = record { lives = s.lives; lengths = s.lengths; made = s.made }

-- the bytes of a scalar have one of the region's, or none
pub meets_or_not : (j a width i offset size : ℕ) → ((j ≡ i) × (0 < size) × (a < offset + size) × (offset < a + width)) ⊎ (j ≡ i → 0 < size → a < offset + size → offset < a + width → ⊥)
meets_or_not j a width i offset size = elim (cases_eq j i) [
  | inr n ↦ inr (λ e z f g. n e)
  | inl e ↦ elim (cases_lt 0 size) [
    | inr z ↦ inr (λ d y f g. omega (arith, y, z))
    | inl z ↦ elim (cases_lt a (offset + size)) [
      | inr f ↦ inr (λ d y g h. omega (arith, f, g))
      | inl f ↦ elim (cases_lt offset (a + width)) [ inl g ↦ inl (e, z, f, g) | inr g ↦ inr (λ d y h k. omega (arith, g, k)) ]
    ]
  ]
]

module _ {I : Type 0} {l : LatticeOf I} {n : IntegersOf I} {gamma : I → ℤ → Type 0} (q : BoundLaws l n gamma) (flow : Flow) (naming : Naming) {old new : Memory} {i offset size : ℕ} (s : IsRegion old new i offset size) where
  matched_out : (j o k : ℕ) (d : Class) (x : Content) → Matched new j o d k x → (j ≡ i → offset ≤ o → o < offset + size → ⊥) → Matched old j o d k x
  matched_out j o k d x m n = record { tag = m.tag; here = sym (s.outside j o n) ∙ m.here; fits = m.fits }

  module _ (b : ℕ) (d : Class) (signed : Bool) (Place Owns : ℕ → ℕ → Type 0) (v x : Value I) (cell : InGammaCell gamma flow naming old b d signed Place Owns v)
      (keeps_place : (j a : ℕ) → IsLiveOf naming old b j → Place (length (bytes_at old j)) a → (j ≡ i → 0 < size → a < offset + size → offset < a + class_bytes flow.model d → ⊥) → ValueBelow l v x)
      (keeps_byte : (j o k : ℕ) → IsLiveOf naming old b j → Owns o k → (j ≡ i → offset ≤ o → o < offset + size → ⊥) → ValueBelow l v x)
      (fresh_place : (a : ℕ) (ns : List Labelled) → IsLiveOf naming old b i → Place (length (bytes_at old i)) a → 0 < size → a < offset + size → offset < a + class_bytes flow.model d → is_pointer d ≡ false → Holds flow.model new i a d ns → gamma x.num (number_of signed ns))
      (fresh_byte : (o k : ℕ) (content : Content) → IsLiveOf naming old b i → Owns o k → offset ≤ o → o < offset + size → Matched new i o d k content → InGammaContent gamma naming new x d content) where
    old_place : (j a : ℕ) (ns : List Labelled) → IsLiveOf naming new b j → Place (length (bytes_at new j)) a → is_pointer d ≡ false → Holds flow.model new j a d ns → (j ≡ i → 0 < size → a < offset + size → offset < a + class_bytes flow.model d → ⊥) → gamma x.num (number_of signed ns)
    old_place j a ns alive place p h ne =
        let u = live_moves (alike_region s) naming b j alive in
        let z = subst (λ y. Place y a) (s.lengths j) place in
        let g : Holds flow.model old j a d ns = record {
          size = h.size;
          each = λ k y small e. let t = h.size in matched_out j (a + k) k d (number_in y) (h.each k y small e) (λ f from to. ne f (omega (arith, from, to)) (omega (arith, from, to)) (omega (arith, from, to, small, t)));
        } in
        q.larger v.num x.num (number_of signed ns) (keeps_place j a u z ne).num (cell.whole j a ns u z p g)

    whole_place : (j a : ℕ) (ns : List Labelled) → IsLiveOf naming new b j → Place (length (bytes_at new j)) a → is_pointer d ≡ false → Holds flow.model new j a d ns → gamma x.num (number_of signed ns)
    whole_place j a ns alive place p h = elim (meets_or_not j a (class_bytes flow.model d) i offset size) [
      | inr n ↦ old_place j a ns alive place p h n
      | inl r ↦ (let u = live_moves (alike_region s) naming b j alive in
          let z = subst (λ y. Place y a) (s.lengths j) place in
          fresh_place a ns (subst (IsLiveOf naming old b) r.0 u) (subst (λ k. Place (length (bytes_at old k)) a) r.0 z) r.1 r.2 r.3 p (subst (λ k. Holds flow.model new k a d ns) r.0 h))
    ]

    each_byte : (j o k : ℕ) (content : Content) → IsLiveOf naming new b j → Owns o k → Matched new j o d k content → InGammaContent gamma naming new x d content
    each_byte j o k content alive owns m =
        let u = live_moves (alike_region s) naming b j alive in
        elim (in_or_out j i o offset size) [
          | inr out ↦ content_moves (alike_region s) gamma naming x d content (content_larger q naming old v x d content (keeps_byte j o k u owns out) (cell.byte j o k content u owns (matched_out j o k d content m out)))
          | inl r ↦ fresh_byte o k content (subst (IsLiveOf naming old b) r.0 u) owns r.1 r.2 (subst (λ a. Matched new a o d k content) r.0 m)
        ]

    pub cell_rewritten : InGammaCell gamma flow naming new b d signed Place Owns x
    cell_rewritten = record { whole = whole_place; byte = each_byte }

module _ {I : Type 0} {l : LatticeOf I} {n : IntegersOf I} {gamma : I → ℤ → Type 0} (o : OrderLaws l) (q : BoundLaws l n gamma) (flow : Flow) (naming : Naming) {old new : Memory} {i offset size : ℕ} (s : IsRegion old new i offset size) where
  -- a cell that has no byte of the region
  pub cell_apart : (b : ℕ) (d : Class) (signed : Bool) (Place Owns : ℕ → ℕ → Type 0) (y : Value I) → InGammaCell gamma flow naming old b d signed Place Owns y
      → (IsLiveOf naming old b i → (a : ℕ) → Place (length (bytes_at old i)) a → 0 < size → a < offset + size → offset < a + class_bytes flow.model d → ⊥)
      → (IsLiveOf naming old b i → (a k : ℕ) → Owns a k → offset ≤ a → a < offset + size → ⊥)
      → InGammaCell gamma flow naming new b d signed Place Owns y
  cell_apart b d signed Place Owns y cell no_place no_byte = cell_rewritten q flow naming s b d signed Place Owns y y cell
      (λ j a u p e. value_below l y y ((value_order o).reflexive y))
      (λ j a k u p e. value_below l y y ((value_order o).reflexive y))
      (λ a ns u p z from to e h. absurd (no_place u a p z from to))
      (λ a k content u w from to m. absurd (no_byte u a k w from to))

  -- a value that stands for what the region has is joined with a cell
  module _ (b : ℕ) (d : Class) (signed : Bool) (Place Owns : ℕ → ℕ → Type 0) (v : Value I) (near : IsNearValue l n v)
      (place : (a : ℕ) (ns : List Labelled) → IsLiveOf naming old b i → Place (length (bytes_at old i)) a → 0 < size → a < offset + size → offset < a + class_bytes flow.model d → is_pointer d ≡ false → Holds flow.model new i a d ns → gamma v.num (number_of signed ns))
      (byte : (a k : ℕ) (content : Content) → IsLiveOf naming old b i → Owns a k → offset ≤ a → a < offset + size → Matched new i a d k content → InGammaContent gamma naming new v d content) where
    pub cell_joined : (y : Value I) → IsNearValue l n y → InGammaCell gamma flow naming old b d signed Place Owns y → InGammaCell gamma flow naming new b d signed Place Owns (written l n flow.model y v false)
    cell_joined y fine cell =
        let x : Value I = (value_lattice l).join y v in
        let left = value_below l y x ((value_order o).join_left y v) in
        let right = value_below l v x ((value_order o).join_right y v) in
        subst (InGammaCell gamma flow naming new b d signed Place Owns) (sym (near_is o q x (join_near o q y v fine near)))
        (cell_rewritten q flow naming s b d signed Place Owns y x cell
        (λ j a u p e. left)
        (λ j a k u p e. left)
        (λ a ns u p z from to e h. q.larger v.num x.num (number_of signed ns) right.num (place a ns u p z from to e h))
        (λ a k content u w from to m. content_larger q naming new v x d content right (byte a k content u w from to m)))

    -- it stands in the place of a cell all of whose bytes are the region's
    pub cell_covered : (y : Value I) → InGammaCell gamma flow naming old b d signed Place Owns y
        → ((j a : ℕ) → IsLiveOf naming old b j → Place (length (bytes_at old j)) a → (j ≡ i) × (0 < size) × (a < offset + size) × (offset < a + class_bytes flow.model d))
        → ((j a k : ℕ) → IsLiveOf naming old b j → Owns a k → (j ≡ i) × (offset ≤ a) × (a < offset + size))
        → InGammaCell gamma flow naming new b d signed Place Owns (written l n flow.model y v true)
    cell_covered y cell places bytes = subst (InGammaCell gamma flow naming new b d signed Place Owns) (sym (near_is o q v near))
        (cell_rewritten q flow naming s b d signed Place Owns y v cell
        (λ j a u p e. let r = places j a u p in absurd (e r.0 r.1 r.2 r.3))
        (λ j a k u w e. let r = bytes j a k u w in absurd (e r.0 r.1 r.2))
        place byte)

  -- ---- numbers

  -- the region has numbers with labels of a set
  abbrev pub HasNumbers : sets.Labels → Type 0
  HasNumbers bound = (a : ℕ) (x : Byte) → offset ≤ a → a < offset + size → byte_at new i a ≡ Some x → (k : ℕ) × (la : Labels) × (x.content ≡ number k la) × (labels_leq (as_set la) bound ≡ true)

  module _ (sane : IsMemoryOf flow.model flow.bases.items naming new) (bound : sets.Labels) (numbers : HasNumbers bound) (d : Class) (t : Bool) where
    held_bytes : (a : ℕ) (ns : List Labelled) → Holds flow.model new i a d ns → (k : ℕ) (y : Labelled) → slice_get ns k ≡ Some y → y.number < 256
    held_bytes a ns h k y e = let m = h.each k y (slice_get_within ns k y e) e in sane.bytes i (a + k) _ m.here

    pub bytes_number : (a : ℕ) (ns : List Labelled) → is_pointer d ≡ false → Holds flow.model new i a d ns → gamma (byte_written l n flow.model d t bound).num (number_of t ns)
    bytes_number a ns p h = written_number o q flow.model d t bound ns p h.size (held_bytes a ns h)

    pub bytes_content : (a k : ℕ) (content : Content) → offset ≤ a → a < offset + size → Matched new i a d k content → InGammaContent gamma naming new (byte_written l n flow.model d t bound) d content
    bytes_content a k content from to m =
        let one : Byte = record { content = content; tag = m.tag } in
        let r = numbers a one from to m.here in
        subst (InGammaContent gamma naming new (byte_written l n flow.model d t bound) d) (sym r.2) (written_content o q flow.model d t bound naming new r.0 r.1 r.3)

    -- any number of its type is joined with a cell
    pub cell_numbers : (b : ℕ) (Place Owns : ℕ → ℕ → Type 0) (y : Value I) → IsNearValue l n y → InGammaCell gamma flow naming old b d t Place Owns y → InGammaCell gamma flow naming new b d t Place Owns (written l n flow.model y (byte_written l n flow.model d t bound) false)
    cell_numbers b Place Owns y fine cell = cell_joined b d t Place Owns (byte_written l n flow.model d t bound) (written_near o q flow.model d t bound)
        (λ a ns u p z from to e h. bytes_number a ns e h)
        (λ a k content u w from to m. bytes_content a k content from to m) y fine cell
