-- Contents that are written under the tags that are there.
use Rattle.std.proofs.Common.{◌≡◌, ℕ, zero, suc, ◌+◌, ◌-◌, ◌<◌, ◌≤◌, Some, List, [], ◌∷◌, length, drop, arith, subst, sym, refl, ap, ◌∙◌, inl, inr}
use Rattle.std.specs.Prelude.{slice_get, set}
use Rattle.std.proofs.lemmas.Bool.{cases_eq, cases_lt}
use Rattle.std.proofs.lemmas.Option.{same_Some, slice_get_within}
use Rattle.c_layout.specs.declared.data_model.Model.{Model}
use Rattle.c_layout.specs.declared.shapes.BaseInfo.{BaseInfo}
use Rattle.memory_model.specs.Memory.Labels.{Labels}
use Rattle.memory_model.specs.Memory.Bytes.{Content, number, Byte}
use Rattle.memory_model.specs.Memory.Instances.{Memory, Instance, bytes_of, bytes_at, byte_at}
use Rattle.memory_model.specs.Effects.ScalarBytes.{filled, refilled}
use Rattle.memory_model.specs.Effects.Touches.{set_bytes}
use Rattle.store_sound.specs.Concretization.SoundMemory.{IsMemoryOf}
use Rattle.store_sound.specs.Concretization.ValueMeaning.{Naming}
use Rattle.store_sound.proofs.operations.Slices.{get_drop, get_there, get_set_same, get_set_other}
use Rattle.store_sound.proofs.operations.MachineStores.{front_at, back_at, set_is}
use Rattle.store_sound.proofs.operations.Refills.{is_refill, refill_sane}
use Rattle.store_sound.specs.Regions.RegionWrites.{IsRegion}

filled_in : (bs : List Byte) (cs : List Content) (k : ℕ) (b : Byte) (c : Content) → slice_get bs k ≡ Some b → slice_get cs k ≡ Some c → slice_get (filled bs cs) k ≡ Some (record b { content = c })
filled_in [] cs k b c e f = cc
filled_in (x ∷ xs) [] k b c e f = cc
filled_in (x ∷ xs) (y ∷ ys) zero b c e f =
    let d : x ≡ b = same_Some x b e in
    let g : y ≡ c = same_Some y c f in
    λ i. Some (record (d i) { content = g i })
filled_in (x ∷ xs) (y ∷ ys) (suc k) b c e f = filled_in xs ys k b c e f

filled_behind : (bs : List Byte) (cs : List Content) (k : ℕ) → length cs ≤ k → slice_get (filled bs cs) k ≡ slice_get bs k
filled_behind [] [] k h = refl
filled_behind [] (c ∷ cs) k h = refl
filled_behind (x ∷ xs) [] k h = refl
filled_behind (x ∷ xs) (y ∷ ys) zero h = absurd (omega (arith, h))
filled_behind (x ∷ xs) (y ∷ ys) (suc k) h = filled_behind xs ys k (omega (arith, h))

-- what is written stands in the region, under the tags that were there
pub record IsWritten (old new : Memory) (i offset : ℕ) (cs : List Content) : Type 0 where
  pub region : IsRegion old new i offset (length cs)
  pub inside : (k : ℕ) (c : Content) → slice_get cs k ≡ Some c → (b : Byte) × (byte_at old i (offset + k) ≡ Some b) × (byte_at new i (offset + k) ≡ Some (record b { content = c }))

module _ (old : Memory) (i offset : ℕ) (cs : List Content) (it : Instance) (at : slice_get old i ≡ Some it) (fits : offset + length cs ≤ length (bytes_at old i)) where
  abbrev fresh : Instance
  fresh = record it { bytes = refilled it.bytes offset cs }

  abbrev new : Memory
  new = set old i fresh

  long : offset + length cs ≤ length it.bytes
  long = subst (λ z. offset + length cs ≤ length (bytes_of z)) at fits

  new_is : slice_get new i ≡ Some fresh
  new_is = get_set_same old i fresh (slice_get_within old i it at)

  outside_of : (o : ℕ) → (offset ≤ o → o < offset + length cs → ⊥) → slice_get (refilled it.bytes offset cs) o ≡ slice_get it.bytes o
  outside_of o none = elim (cases_lt o offset) [
    | inl h ↦ (let e = long in front_at offset it.bytes (filled (drop offset it.bytes) cs) o (omega (arith, e)) h)
    | inr h ↦ (let e = long in
        let k : ℕ = o - offset in
        let far : length cs ≤ k = elim (cases_lt o (offset + length cs)) [ inl g ↦ absurd (none h g) | inr g ↦ omega (arith, g) ] in
        back_at offset it.bytes (filled (drop offset it.bytes) cs) o k (omega (arith, e)) (omega (arith, h)) ∙ (filled_behind (drop offset it.bytes) cs k far ∙ get_drop offset it.bytes k o (omega (arith, h))))
  ]

  other_byte : (j o : ℕ) → (j ≡ i → offset ≤ o → o < offset + length cs → ⊥) → byte_at new j o ≡ byte_at old j o
  unfolding byte_at
  other_byte j o none = elim (cases_eq j i) [
    | inl d ↦ subst (λ k. slice_get (bytes_of (slice_get new k)) o ≡ slice_get (bytes_of (slice_get old k)) o) (sym d)
        (ap (λ x. slice_get (bytes_of x) o) new_is ∙ (outside_of o (none d) ∙ sym (ap (λ x. slice_get (bytes_of x) o) at)))
    | inr e ↦ ap (λ x. slice_get (bytes_of x) o) (get_set_other old i j fresh e)
  ]

  own_byte : (k : ℕ) (c : Content) → slice_get cs k ≡ Some c → (b : Byte) × (byte_at old i (offset + k) ≡ Some b) × (byte_at new i (offset + k) ≡ Some (record b { content = c }))
  unfolding byte_at
  own_byte k c e =
      let far = long in
      let small = slice_get_within cs k c e in
      let b = get_there it.bytes (offset + k) (omega (arith, far, small)) in (
        b.0,
        ap (λ x. slice_get (bytes_of x) (offset + k)) at ∙ b.1,
        ap (λ x. slice_get (bytes_of x) (offset + k)) new_is ∙ (back_at offset it.bytes (filled (drop offset it.bytes) cs) (offset + k) k (omega (arith, far)) refl ∙ filled_in (drop offset it.bytes) cs k b.0 c (get_drop offset it.bytes k (offset + k) refl ∙ b.1) e),
      )

  written_here : IsWritten old new i offset cs
  written_here =
      let r = is_refill old i offset cs it at in
      record {
        region = record { lives = r.alike.lives; lengths = r.alike.lengths; made = r.alike.made; fits = fits; outside = other_byte };
        inside = own_byte;
      }

  set_here : set_bytes old i (refilled (bytes_at old i) offset cs) ≡ new
  set_here = ap (λ x. set_bytes old i (refilled (bytes_of x) offset cs)) at ∙ set_is old i it (refilled it.bytes offset cs) at

  pub contents_written : IsWritten old (set_bytes old i (refilled (bytes_at old i) offset cs)) i offset cs
  contents_written = subst (λ z. IsWritten old z i offset cs) (sym set_here) written_here

  -- numbers leave memory sound
  pub contents_sane : (m : Model) (bases : List BaseInfo) (naming : Naming) → ((k : ℕ) (c : Content) → slice_get cs k ≡ Some c → (d : ℕ) × (labels : Labels) × (c ≡ number d labels) × (d < 256)) → IsMemoryOf m bases naming old → IsMemoryOf m bases naming (set_bytes old i (refilled (bytes_at old i) offset cs))
  contents_sane m bases naming plain sane = subst (IsMemoryOf m bases naming) (sym set_here) (refill_sane m bases naming (is_refill old i offset cs it at) plain sane)

-- a byte of the region has one of the contents
pub region_content : {old new : Memory} {i offset : ℕ} {cs : List Content} → IsWritten old new i offset cs → (o : ℕ) (b : Byte) → offset ≤ o → o < offset + length cs → byte_at new i o ≡ Some b → slice_get cs (o - offset) ≡ Some b.content
region_content {old} {new} {i} {offset} {cs} s o b from to e =
    let k : ℕ = o - offset in
    let c = get_there cs k (omega (arith, from, to)) in
    let r = s.inside k c.0 c.1 in
    let same : offset + k ≡ o = omega (arith, from) in
    let was : Byte = record (r.0) { content = c.0 } in
    let f : was ≡ b = same_Some was b (sym r.2 ∙ (ap (byte_at new i) same ∙ e)) in
    c.1 ∙ ap (λ z. Some z.content) f
