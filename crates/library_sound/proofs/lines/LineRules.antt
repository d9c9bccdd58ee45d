-- The first zero of an array behind a line, in which a zero may stand before the last byte that is written.
use Rattle.std.proofs.Common.{◌≡◌, ℕ, ◌+◌, ◌-◌, ◌^◌, ◌<◌, ◌≤◌, true, Some, List, length, arith, subst, sym, ap, ◌∙◌}
use Rattle.std.specs.Prelude.{slice_get, ℤ, pos, ◌≤ℤ◌}
use Rattle.std.proofs.lemmas.Int.{ints}
use Rattle.std.proofs.lemmas.Option.{slice_get_within}
use Rattle.cc_base.specs.Lattices.{LatticeOf, OrderLaws}
use Rattle.cc_base.specs.IntegerDomains.{IntegersOf, BoundLaws, IsNear, between_or_least}
use Rattle.c_layout.specs.declared.shapes.ZeroPart.{ZeroPart}
use Rattle.c_layout.specs.declared.shapes.BaseInfo.{BaseInfo}
use Rattle.cfg.specs.declared.programs.Flow.{Flow}
use Rattle.value_domain.specs.Strings.FirstZeros.{the_end}
use Rattle.value_domain.specs.Strings.ZeroTables.{text_at}
use Rattle.value_domain.specs.declared.strings.first_zeros.FirstZero.{FirstZero}
use Rattle.value_domain.specs.declared.values.row_cells.Cell.{Cell}
use Rattle.domain_theorems.specs.Values.ZeroLaws.{IsCount}
use Rattle.domain_theorems.proofs.values.ZeroStands.{zero_meaning}
use Rattle.store_cells.specs.declared.access_windows.Window.{Window}
use Rattle.store_cells.specs.declared.first_zero_writes.ZeroTarget.{ZeroTarget}
use Rattle.store_cells.specs.FirstZeroWrites.{zero_target, offsets_of}
use Rattle.store_objects.specs.LiveBases.{has_base, is_one_instance}
use Rattle.store_cells.specs.NearValues.{near_number}
use Rattle.transfer_library_writes.specs.TextWrites.{zero_after, rule_in, write_into, write_text}
use Rattle.transfer_library_writes.specs.declared.text_writes.TextWrite.{TextWrite}
use Rattle.transfer_library_writes.specs.declared.text_writes.ZeroRule.TheVariants.{Text}
use Rattle.memory_model.specs.Memory.Bytes.{Byte}
use Rattle.memory_model.specs.Memory.Instances.{Memory, bytes_at, byte_at}
use Rattle.store_sound.specs.Concretization.FirstZeroBytes.{end, character, seen_as, first_zero, zero_offset}
use Rattle.store_sound.specs.Concretization.SoundMemory.{IsMemoryOf}
use Rattle.store_sound.specs.Concretization.ValueMeaning.{Naming, InGammaZero}
use Rattle.store_sound.specs.Concretization.RowMeaning.{MachineState, array_bytes, IsLiveOf, InGamma}
use Rattle.store_sound.specs.Operations.Shapes.{IsLaidOut}
use Rattle.store_sound.proofs.operations.Near.{near_number_from}
use Rattle.store_sound.proofs.operations.Slices.{get_there}
use Rattle.store_sound.proofs.operations.StoreZeros.{some_between}
use Rattle.store_sound.proofs.operations.TouchedRest.{near_stands}
use Rattle.store_sound.proofs.chars.ByteArrays.{IsIn, target_is, local_has, local_small}
use Rattle.store_sound.proofs.chars.ByteZeros.{offsets_stand}
use Rattle.store_sound.specs.Regions.RegionWrites.{IsRegion}
use Rattle.store_sound.proofs.regions.RegionArrays.{starts_in, before_in, array_short, array_before, array_there, IsText, wrote_text}
use Rattle.library_sound.specs.Texts.TextWrites.{IsTextWrite}
use Rattle.library_sound.proofs.texts.TextZeros.{IsRuled, says}
use Rattle.library_sound.proofs.texts.TextRows.{text_stands, text_long}

-- characters from an offset on, then a zero, within what was written
pub record HasTextFirst (new : Memory) (i offset size t : ℕ) : Type 0 where
  pub short : t < size
  pub text : (x : ℕ) (b : Byte) → x < t → byte_at new i (offset + x) ≡ Some b → seen_as b.content ≡ character
  pub closed : (b : Byte) → byte_at new i (offset + t) ≡ Some b → seen_as b.content ≡ end

module _ {I : Type 0} {l : LatticeOf I} {n : IntegersOf I} {gamma : I → ℤ → Type 0} (o : OrderLaws l) (q : BoundLaws l n gamma) where
  -- the numbers from 0 to one that is no greater than the end
  between_count : (lo hi : ℤ) → pos 0 ≤ℤ lo → lo ≤ℤ hi → hi ≤ℤ the_end → IsCount l n (near_number l n (between_or_least l n lo hi))
  between_count lo hi low some high =
      let e = some_between o q lo hi some in
      let b = q.between_bounds lo hi some in
      let same = ap (near_number l n) e ∙ near_number_from o q (n.between lo hi) lo hi b (omega (arith, ints, low)) (omega (arith, ints, high)) in
      subst (IsCount l n) (sym same) (q.below_between (n.between lo hi) lo hi (pos 0) the_end b low high)

  pub length_count : (hi : ℤ) → pos 0 ≤ℤ hi → hi ≤ℤ the_end → IsCount l n (near_number l n (between_or_least l n (pos 0) hi))
  length_count hi low high = between_count (pos 0) hi (omega (arith, ints)) low high

  offsets_count : (w : Window) → w.lo ≤ w.hi → w.hi ≤ 2 ^ 64 - 1 → IsCount l n (offsets_of l n w)
  offsets_count w h k = between_count (pos w.lo) (pos w.hi) (omega (arith, ints)) (omega (arith, ints, h)) (omega (arith, ints, k))

  -- ---- an array that has all of the bytes

  module _ (flow : Flow) (naming : Naming) {old new : Memory} {i offset size : ℕ} (s : IsRegion old new i offset size) (sane : IsMemoryOf flow.model flow.bases.items naming new) (start : Window) (first : start.lo ≤ offset) (last : offset ≤ start.hi)
      (t : ℕ) (has : HasTextFirst new i offset size t) (len : I) (counted : gamma len (pos t)) (count : IsCount l n (near_number l n len)) where
    line_rule : (part : ZeroPart) (target : ZeroTarget) (f : FirstZero I) → zero_target part start ≡ Some target → IsIn part.size part.offset offset → IsIn part.size part.offset (offset + (size - 1)) → IsNear (n.bounds f.at)
        → InGammaZero gamma naming old f (array_bytes part (bytes_at old i)) → InGammaZero gamma naming new (text_at l n f (offsets_of l n target.local) (near_number l n len)) (array_bytes part (bytes_at new i))
    unfolding byte_at
    line_rule part target f found inside ends near h =
        let from = starts_in part.size part.offset offset inside in
        let below = has.short in
        let fits = s.fits in
        let same = s.lengths i in
        let small = sane.small i in
        let place : ℕ = offset - part.offset in
        let place_is : part.offset + place ≡ offset = omega (arith, from) in
        let target_of = target_is part start target found in
        let in_local = local_has part start target offset target_of inside first last (omega (arith, fits, same, small)) in
        let low = in_local.0 in
        let high = in_local.1 in
        let top = local_small part start target target_of in
        let short = array_short part (bytes_at old i) in
        let long = array_short part (bytes_at new i) in
        let was = get_there (bytes_at old i) offset (omega (arith, fits, below)) in
        let there = array_there s part old place was.0 (subst (IsIn part.size part.offset) (sym place_is) inside) (subst (λ z. byte_at old i z ≡ Some was.0) (sym place_is) was.1) in
        let in_old = slice_get_within (array_bytes part (bytes_at old i)) place was.0 there in
        let at : (x : ℕ) → x ≤ t → (b : Byte) × (byte_at new i (offset + x) ≡ Some b) × (slice_get (array_bytes part (bytes_at new i)) (place + x) ≡ Some b) = λ x less.
        let b = get_there (bytes_at new i) (offset + x) (omega (arith, fits, same, less, below)) in
        let shifted : offset + x ≡ part.offset + (place + x) = omega (arith, from) in
        (b.0, b.1, array_there s part new (place + x) b.0 (subst (IsIn part.size part.offset) shifted (before_in part.size part.offset (offset + (size - 1)) (offset + x) ends (omega (arith, from)) (omega (arith, less, below)))) (subst (λ z. byte_at new i z ≡ Some b.0) shifted b.1)) in
        let is_text : IsText (array_bytes part (bytes_at new i)) place t = record {
          characters = λ j less. let r = at j (omega (arith, less)) in (r.0, r.2, has.text j r.0 less r.1);
          closed = let r = at t (omega arith) in (r.0, r.2, has.closed r.0 r.1);
        } in
        let wrote = wrote_text (array_bytes part (bytes_at old i)) (array_bytes part (bytes_at new i)) place t (λ j less. sym (array_before s part j (omega (arith, less, from)))) is_text in_old (omega (arith, short, same, small)) (omega (arith, long, small)) in
        (zero_meaning o q).text f (offsets_of l n target.local) (near_number l n len) (zero_offset (first_zero (array_bytes part (bytes_at old i)))) (pos place) (pos t) (zero_offset (first_zero (array_bytes part (bytes_at new i)))) near
        (offsets_count target.local (omega (arith, low, high)) top) count h
        (offsets_stand o q target.local place low high top)
        (near_stands o q len (pos t) (omega (arith, ints)) (omega (arith, ints, fits, same, small, below)) counted) wrote

-- ---- the row

module _ {I : Type 0} {l : LatticeOf I} {n : IntegersOf I} {gamma : I → ℤ → Type 0} (o : OrderLaws l) (q : BoundLaws l n gamma) (flow : Flow) (naming : Naming) (row : List (Cell I)) (state : MachineState) (laid : IsLaidOut flow (length row)) (s : InGamma l n gamma flow naming row state)
    (new : Memory) (i offset size : ℕ) (region : IsRegion state.memory new i offset size) (sane : IsMemoryOf flow.model flow.bases.items naming new) (write : TextWrite I) (k : IsTextWrite l n gamma write new i offset size)
    (len : I) (is : write.zero ≡ Text len) (t : ℕ) (has : HasTextFirst new i offset size t) (counted : gamma len (pos t)) (count : IsCount l n (near_number l n len))
    (here : (b : ℕ) → naming i ≡ Some b → 0 < size → has_base write.bases b ≡ true)
    (single : is_one_instance flow.bases.items write.bases ≡ true → 0 < size → (b j : ℕ) → has_base write.bases b ≡ true → IsLiveOf naming state.memory b j → j ≡ i) where
  of_base : (b : ℕ) → IsTextWrite l n gamma (write_into write b) new i offset size
  of_base b = record { window = k.window; start = k.start; one_byte = k.one_byte; numbers = k.numbers; characters = k.characters }

  ruled : (b : ℕ) (base : BaseInfo) → slice_get flow.bases.items b ≡ Some base → (in_set : has_base write.bases b ≡ true) → IsRuled o q flow naming region sane (write_into write b) (of_base b) (is_one_instance flow.bases.items write.bases) b base (λ alone some j alive. single alone some b j in_set alive)
  ruled b base at in_set =
      let short = has.short in
      says (omega (arith, short)) (λ z part target f among named found inside last near old.
      subst (λ y. InGammaZero gamma naming new (zero_after l n f target.local y) (array_bytes part (bytes_at new i))) (sym (ap (λ y. rule_in y b) is))
      (line_rule o q flow naming region sane write.start k.start.0 k.start.1 t has len counted count part target f found inside last near old))

  pub line_stands : InGamma l n gamma flow naming (write_text l n flow write row) (record { memory = new; temps = state.temps; entered = state.entered })
  line_stands = text_stands o q flow naming row state laid s new i offset size region sane write here single of_base ruled

  pub line_long : length (write_text l n flow write row) ≡ length row
  line_long = text_long o q flow naming row state laid s new i offset size region sane write here single of_base ruled
