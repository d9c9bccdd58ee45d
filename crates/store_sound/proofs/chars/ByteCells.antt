-- What a store of a character makes of what a cell stands for.
use Rattle.std.proofs.Common.{◌≡◌, ℕ, ◌+◌, ◌<◌, ◌≤◌, false, Some, List, length, arith, subst, sym, ap, ◌∙◌, inl, inr, ◌⊎◌}
use Rattle.std.specs.Prelude.{slice_get, ℤ}
use Rattle.std.proofs.lemmas.Bool.{cases_eq, cases_lt}
use Rattle.std.specs.Prelude.{Bool}
use Rattle.cc_base.specs.Lattices.{LatticeOf}
use Rattle.cc_base.specs.IntegerDomains.{IntegersOf, BoundLaws}
use Rattle.c_layout.specs.declared.leaf_lists.Class.{Class}
use Rattle.cfg.specs.declared.programs.Flow.{Flow}
use Rattle.value_domain.specs.declared.values.values.Value.{Value}
use Rattle.store_cells.specs.ClassNumbers.{is_pointer}
use Rattle.memory_model.specs.Memory.ScalarSizes.{class_bytes}
use Rattle.memory_model.specs.Memory.Bytes.{Content}
use Rattle.memory_model.specs.Memory.Instances.{Memory, bytes_at}
use Rattle.memory_model.specs.Memory.Numbers.{Labelled, number_of}
use Rattle.store_sound.specs.Concretization.Matching.{Fits, Matched, number_in, Holds}
use Rattle.store_sound.specs.Concretization.ValueMeaning.{Naming, InGammaContent}
use Rattle.store_sound.specs.Concretization.RowMeaning.{IsLiveOf, InGammaCell}
use Rattle.store_sound.proofs.operations.Larger.{ValueBelow, content_larger}
use Rattle.store_sound.proofs.operations.Frames.{live_moves, content_moves}
use Rattle.store_sound.proofs.chars.ByteStores.{IsByteStore, here_or_not, matched_out, matched_in}

-- a place has the byte, or has not
covers_or_not : (j o size i offset : ℕ) → ((j ≡ i) × (o ≤ offset) × (offset < o + size)) ⊎ (j ≡ i → o ≤ offset → offset < o + size → ⊥)
covers_or_not j o size i offset = elim (cases_eq j i) [
  | inr n ↦ inr (λ e f g. n e)
  | inl e ↦ elim (cases_lt offset o) [
    | inl f ↦ inr (λ d g h. omega arith)
    | inr f ↦ elim (cases_lt offset (o + size)) [ inl g ↦ inl (e, f, g) | inr g ↦ inr (λ d k h. omega arith) ]
  ]
]

module _ {I : Type 0} {l : LatticeOf I} {n : IntegersOf I} {gamma : I → ℤ → Type 0} (q : BoundLaws l n gamma) (flow : Flow) (naming : Naming) {old new : Memory} {i offset : ℕ} {c : Content} (s : IsByteStore old new i offset c) where
  module _ (b : ℕ) (d : Class) (signed : Bool) (Place Owns : ℕ → ℕ → Type 0) (v x : Value I) (cell : InGammaCell gamma flow naming old b d signed Place Owns v)
      (keeps_place : (j o : ℕ) → IsLiveOf naming old b j → Place (length (bytes_at old j)) o → (j ≡ i → o ≤ offset → offset < o + class_bytes flow.model d → ⊥) → ValueBelow l v x)
      (keeps_byte : (j o k : ℕ) → IsLiveOf naming old b j → Owns o k → (j ≡ i → o ≡ offset → ⊥) → ValueBelow l v x)
      (fresh_place : (o : ℕ) → IsLiveOf naming old b i → Place (length (bytes_at old i)) o → o ≤ offset → offset < o + class_bytes flow.model d → is_pointer d ≡ false → (ns : List Labelled) → Holds flow.model new i o d ns → gamma x.num (number_of signed ns))
      (fresh_byte : (k : ℕ) → IsLiveOf naming old b i → Owns offset k → Fits d k s.was.tag → InGammaContent gamma naming new x d c) where
    old_place : (j o : ℕ) (ns : List Labelled) → IsLiveOf naming new b j → Place (length (bytes_at new j)) o → is_pointer d ≡ false → Holds flow.model new j o d ns → (j ≡ i → o ≤ offset → offset < o + class_bytes flow.model d → ⊥) → gamma x.num (number_of signed ns)
    old_place j o ns alive place p h ne =
        let u = live_moves s.refill.alike naming b j alive in
        let z = subst (λ y. Place y o) (s.refill.alike.lengths j) place in
        let g : Holds flow.model old j o d ns = record {
          size = h.size;
          each = λ k y small e. let a = h.size in matched_out s j (o + k) k d (number_in y) (h.each k y small e) (λ f w. ne f (omega arith) (omega arith));
        } in
        q.larger v.num x.num (number_of signed ns) (keeps_place j o u z ne).num (cell.whole j o ns u z p g)

    whole_place : (j o : ℕ) (ns : List Labelled) → IsLiveOf naming new b j → Place (length (bytes_at new j)) o → is_pointer d ≡ false → Holds flow.model new j o d ns → gamma x.num (number_of signed ns)
    whole_place j o ns alive place p h = elim (covers_or_not j o (class_bytes flow.model d) i offset) [
      | inr n ↦ old_place j o ns alive place p h n
      | inl r ↦ (let u = live_moves s.refill.alike naming b j alive in
          let z = subst (λ y. Place y o) (s.refill.alike.lengths j) place in
          fresh_place o (subst (IsLiveOf naming old b) r.0 u) (subst (λ k. Place (length (bytes_at old k)) o) r.0 z) r.1 r.2 p ns (subst (λ k. Holds flow.model new k o d ns) r.0 h))
    ]

    each_byte : (j o k : ℕ) (x2 : Content) → IsLiveOf naming new b j → Owns o k → Matched new j o d k x2 → InGammaContent gamma naming new x d x2
    each_byte j o k x2 alive owns m =
        let u = live_moves s.refill.alike naming b j alive in
        elim (here_or_not j o i offset) [
          | inr out ↦ content_moves s.refill.alike gamma naming x d x2 (content_larger q naming old v x d x2 (keeps_byte j o k u owns out) (cell.byte j o k x2 u owns (matched_out s j o k d x2 m out)))
          | inl r ↦ (let t = matched_in s k d x2 (subst (λ a. Matched new i a d k x2) r.1 (subst (λ a. Matched new a o d k x2) r.0 m)) in
              subst (InGammaContent gamma naming new x d) (sym t.0) (fresh_byte k (subst (IsLiveOf naming old b) r.0 u) (subst (λ a. Owns a k) r.1 owns) t.1))
        ]

    pub cell_put : InGammaCell gamma flow naming new b d signed Place Owns x
    cell_put = record { whole = whole_place; byte = each_byte }
