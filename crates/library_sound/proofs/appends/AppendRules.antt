-- The first zero of an array behind a text that is appended at it.
use Rattle.std.proofs.Common.{◌≡◌, ℕ, ◌+◌, ◌-◌, ◌^◌, ◌<◌, ◌≤◌, Some, None, arith, subst, sym, ap, ◌∙◌}
use Rattle.std.specs.Prelude.{slice_get, ℤ, pos, ◌+ℤ◌, ◌<ℤ◌}
use Rattle.std.specs.Int.{int_min}
use Rattle.std.proofs.lemmas.Int.{ints, clamps}
use Rattle.std.proofs.lemmas.Option.{slice_get_within}
use Rattle.cc_base.specs.Lattices.{LatticeOf, OrderLaws}
use Rattle.cc_base.specs.IntegerDomains.{IntegersOf, BoundLaws}
use Rattle.cc_base.specs.NumberRanges.{Range}
use Rattle.c_layout.specs.declared.shapes.ZeroPart.{ZeroPart}
use Rattle.cfg.specs.declared.programs.Flow.{Flow}
use Rattle.value_domain.specs.Strings.FirstZeros.{the_end}
use Rattle.value_domain.specs.declared.strings.first_zeros.FirstZero.{FirstZero}
use Rattle.domain_theorems.proofs.values.Numbers.{RangeHas, bounds_have, of_range_stands}
use Rattle.store_cells.specs.AccessWindows.{added_ranges}
use Rattle.store_cells.specs.NearValues.{near_number}
use Rattle.transfer_library_writes.specs.TextWrites.{up_to_end_of, up_to_end}
use Rattle.memory_model.specs.Memory.Bytes.{Byte}
use Rattle.memory_model.specs.Memory.Instances.{Memory, bytes_at, byte_at}
use Rattle.store_sound.specs.Concretization.FirstZeroBytes.{end, character, seen_as, first_zero, zero_offset}
use Rattle.store_sound.specs.Concretization.SoundMemory.{IsMemoryOf}
use Rattle.store_sound.specs.Concretization.ValueMeaning.{Naming, InGammaZero}
use Rattle.store_sound.specs.Concretization.RowMeaning.{array_bytes}
use Rattle.store_sound.proofs.operations.Slices.{get_there}
use Rattle.store_sound.proofs.operations.TouchedRest.{near_stands}
use Rattle.store_sound.proofs.chars.ByteArrays.{IsIn}
use Rattle.store_sound.specs.Regions.RegionWrites.{IsRegion}
use Rattle.store_sound.proofs.regions.RegionArrays.{starts_in, before_in, array_short, array_before, array_there, IsText, wrote_text}
use Rattle.library_sound.proofs.fills.Targets.{sat_above, sat_below}

-- ---- sums of ranges

pub added_has : (x y : Range) (a b : ℕ) → RangeHas x (pos a) → RangeHas y (pos b) → a + b ≤ 2 ^ 66 → RangeHas (added_ranges x y) (pos (a + b))
added_has None y a b h k small = absurd h
added_has (Some x) None a b h k small = absurd k
added_has (Some x) (Some y) a b h k small =
    let h0 = h.0 in
    let h1 = h.1 in
    let k0 = k.0 in
    let k1 = k.1 in
    (sat_below (x.0 +ℤ y.0) (pos (a + b)) (omega (arith, ints, h0, k0)) (omega (arith, ints)), sat_above (x.1 +ℤ y.1) (pos (a + b)) (omega (arith, ints, h1, k1)) (omega (arith, ints, small)))

module _ {I : Type 0} {l : LatticeOf I} {n : IntegersOf I} {gamma : I → ℤ → Type 0} (o : OrderLaws l) (q : BoundLaws l n gamma) where
  up_stands : (r : Range) (c : ℕ) → RangeHas r (pos c) → c ≤ 2 ^ 64 - 1 → gamma (up_to_end_of l n r) (pos c)
  up_stands None c h small = absurd h
  up_stands (Some p) c h small =
      let h0 = h.0 in
      let h1 = h.1 in
      of_range_stands q (Some (int_min p.0 the_end, int_min p.1 the_end)) (pos c) (omega (arith, ints, clamps, h0), omega (arith, ints, clamps, h1, small))

  sum_stands : (x y : I) (a b : ℕ) → gamma x (pos a) → gamma y (pos b) → a + b ≤ 2 ^ 64 - 1 → gamma (up_to_end l n x y) (pos (a + b))
  sum_stands x y a b h k small = up_stands (added_ranges (n.bounds x) (n.bounds y)) (a + b) (added_has (n.bounds x) (n.bounds y) a b (bounds_have q x (pos a) h) (bounds_have q y (pos b) k) (omega (arith, small))) small

  -- ---- an array that has all of the text, and whose first zero was where it begins

  module _ (flow : Flow) (naming : Naming) {old new : Memory} {i offset t : ℕ} (s : IsRegion old new i offset (t + 1)) (sane : IsMemoryOf flow.model flow.bases.items naming new)
      (text : (x : ℕ) (b : Byte) → x < t → byte_at new i (offset + x) ≡ Some b → seen_as b.content ≡ character) (closed : (b : Byte) → byte_at new i (offset + t) ≡ Some b → seen_as b.content ≡ end) (len : I) (counted : gamma len (pos t)) where
    pub append_rule : (part : ZeroPart) (f : FirstZero I) → IsIn part.size part.offset offset → IsIn part.size part.offset (offset + ((t + 1) - 1)) → first_zero (array_bytes part (bytes_at old i)) ≡ Some (offset - part.offset)
        → InGammaZero gamma naming old f (array_bytes part (bytes_at old i)) → InGammaZero gamma naming new (record { at = up_to_end l n f.at (near_number l n len) }) (array_bytes part (bytes_at new i))
    unfolding byte_at
    append_rule part f inside ends ended h =
        let from = starts_in part.size part.offset offset inside in
        let fits = s.fits in
        let same = s.lengths i in
        let small = sane.small i in
        let place : ℕ = offset - part.offset in
        let place_is : part.offset + place ≡ offset = omega (arith, from) in
        let short = array_short part (bytes_at old i) in
        let long = array_short part (bytes_at new i) in
        let was = get_there (bytes_at old i) offset (omega (arith, fits)) in
        let there = array_there s part old place was.0 (subst (IsIn part.size part.offset) (sym place_is) inside) (subst (λ z. byte_at old i z ≡ Some was.0) (sym place_is) was.1) in
        let in_old = slice_get_within (array_bytes part (bytes_at old i)) place was.0 there in
        let at : (x : ℕ) → x ≤ t → (b : Byte) × (byte_at new i (offset + x) ≡ Some b) × (slice_get (array_bytes part (bytes_at new i)) (place + x) ≡ Some b) = λ x less.
        let b = get_there (bytes_at new i) (offset + x) (omega (arith, fits, same, less)) in
        let shifted : offset + x ≡ part.offset + (place + x) = omega (arith, from) in
        (b.0, b.1, array_there s part new (place + x) b.0 (subst (IsIn part.size part.offset) shifted (before_in part.size part.offset (offset + ((t + 1) - 1)) (offset + x) ends (omega (arith, from)) (omega (arith, less)))) (subst (λ z. byte_at new i z ≡ Some b.0) shifted b.1)) in
        let is_text : IsText (array_bytes part (bytes_at new i)) place t = record {
          characters = λ j less. let r = at j (omega (arith, less)) in (r.0, r.2, text j r.0 less r.1);
          closed = let r = at t (omega arith) in (r.0, r.2, closed r.0 r.1);
        } in
        let wrote = wrote_text (array_bytes part (bytes_at old i)) (array_bytes part (bytes_at new i)) place t (λ j less. sym (array_before s part j (omega (arith, less, from)))) is_text in_old (omega (arith, short, same, small)) (omega (arith, long, small)) in
        let was_at : zero_offset (first_zero (array_bytes part (bytes_at old i))) ≡ pos place = ap zero_offset ended in
        let low : pos place <ℤ the_end = omega (arith, ints, fits, same, small) in
        let now_at : zero_offset (first_zero (array_bytes part (bytes_at new i))) ≡ (pos place +ℤ pos t) = wrote.behind (omega (arith, ints, was_at)) (omega (arith, ints, was_at, low)) in
        let sum : (pos place +ℤ pos t) ≡ pos (place + t) = omega (arith, ints) in
        let both = sum_stands f.at (near_number l n len) place t (subst (gamma f.at) was_at h) (near_stands o q len (pos t) (omega (arith, ints)) (omega (arith, ints, fits, same, small)) counted) (omega (arith, fits, same, small)) in
        subst (gamma (up_to_end l n f.at (near_number l n len))) (sym (now_at ∙ sum)) both
