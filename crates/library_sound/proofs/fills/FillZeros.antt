-- What `memset` makes of the first zeros stands for the bytes that it sets.
use Rattle.std.proofs.Common.{◌≡◌, ℕ, ◌+◌, ◌-◌, ◌^◌, ◌<◌, ◌≤◌, Bool, true, false, cond, ◌&&◌, ◌||◌, Option, Some, None, List, length, arith, subst, sym, refl, ap, ◌∙◌, inl, inr}
use Rattle.std.specs.Prelude.{set, ℤ, pos, ◌≤ℤ◌, int_le, is_some}
use Rattle.std.proofs.lemmas.Int.{ints}
use Rattle.std.proofs.lemmas.Bool.{cases_eq, and_parts}
use Rattle.std.proofs.lemmas.Option.{slice_get_within}
use Rattle.cc_base.specs.Lattices.{LatticeOf, OrderLaws}
use Rattle.cc_base.specs.IntegerDomains.{IntegersOf, BoundLaws, IsNear}
use Rattle.cc_base.specs.declared.integer_operators.Tri.TheVariants.{Yes}
use Rattle.c_layout.specs.declared.shapes.BaseInfo.{BaseInfo}
use Rattle.c_layout.specs.declared.shapes.ZeroPart.{ZeroPart}
use Rattle.cfg.specs.declared.programs.Flow.{Flow}
use Rattle.value_domain.specs.declared.strings.first_zeros.FirstZero.{FirstZero}
use Rattle.value_domain.specs.declared.values.row_cells.Cell.{Cell}
use Rattle.store_cells.specs.declared.first_zero_writes.ZeroTarget.{ZeroTarget}
use Rattle.store_cells.specs.AccessWindows.{window_is_one}
use Rattle.store_cells.specs.FirstZeroWrites.{zero_target, any_zero, put_at}
use Rattle.store_cells.specs.RowPositions.{zero_position, zero_at}
use Rattle.transfer_library_writes.specs.FillWrites.{is_up_to, zero_inside, zero_met_at, zero_met, fill_zero_at, fill_zero}
use Rattle.transfer_library_writes.specs.TextWrites.{is_whole, lies_in_array}
use Rattle.transfer_library_writes.specs.declared.fill_writes.FillWrite.{FillWrite}
use Rattle.memory_model.specs.Memory.Bytes.{number, Byte}
use Rattle.memory_model.specs.Memory.Labels.{no_labels}
use Rattle.memory_model.specs.Memory.Instances.{Memory, bytes_at, byte_at}
use Rattle.store_sound.specs.Concretization.FirstZeroBytes.{end, seen_as, first_zero, zero_offset}
use Rattle.store_sound.specs.Concretization.SoundMemory.{IsMemoryOf}
use Rattle.store_sound.specs.Concretization.ValueMeaning.{Naming, InGammaZero}
use Rattle.store_sound.specs.Concretization.RowMeaning.{IsLiveOf, array_bytes}
use Rattle.store_sound.proofs.operations.Slices.{get_there, get_set_same, get_set_other}
use Rattle.store_sound.proofs.operations.Texts.{zero_near}
use Rattle.store_sound.proofs.chars.ByteArrays.{IsIn, in_or_not, IsTarget, target_is, target_there, local_has, local_small, whole_in}
use Rattle.store_sound.proofs.chars.ByteZeros.{put_inside, put_outside}
use Rattle.store_sound.specs.Regions.RegionWrites.{IsRegion}
use Rattle.store_sound.proofs.regions.RegionArrays.{starts_in, array_short, array_apart, array_before, array_there, same_first_zero, put_zero_stands, any_zero_stands}
use Rattle.library_sound.proofs.fills.FillCells.{IsFill}

not_both : (a b : Bool) → (a ≡ true → b ≡ true → ⊥) → (a && b) ≡ false
not_both true true n = absurd (n refl refl)
not_both true false n = refl
not_both false b n = refl

-- a zero at a place
nil_seen : (b : Byte) (la : _) → b.content ≡ number 0 la → seen_as b.content ≡ end
nil_seen b la e = ap seen_as e

module _ {I : Type 0} {l : LatticeOf I} {n : IntegersOf I} {gamma : I → ℤ → Type 0} (o : OrderLaws l) (q : BoundLaws l n gamma) (flow : Flow) (naming : Naming) {old new : Memory} {i offset size : ℕ} (s : IsRegion old new i offset size) (sane : IsMemoryOf flow.model flow.bases.items naming new) (write : FillWrite) (k : IsFill write new i offset size)
    (alone : Bool) (b : ℕ) (single : alone ≡ true → 0 < size → (j : ℕ) → IsLiveOf naming old b j → j ≡ i) where
  small_offset : 0 < size → offset ≤ 2 ^ 64 - 1
  small_offset h = let a = s.fits in let c = s.lengths i in let d = sane.small i in omega (arith, h, a, c, d)

  small_array : (part : ZeroPart) (j : ℕ) → length (array_bytes part (bytes_at new j)) ≤ 2 ^ 64 - 1
  small_array part j = let a = array_short part (bytes_at new j) in let c = sane.small j in omega (arith, a, c)

  small_old : (part : ZeroPart) (j : ℕ) → length (array_bytes part (bytes_at old j)) ≤ 2 ^ 64 - 1
  small_old part j = let a = array_short part (bytes_at old j) in let c = sane.small j in let d = s.lengths j in omega (arith, a, c, d)

  module _ (part : ZeroPart) (old_zero : FirstZero I) where
    -- zeros from an offset of the array on: the first zero is that of the array with a zero there
    module _ (target : ZeroTarget) (found : zero_target part write.start ≡ Some target) (zero : write.zero ≡ true) (some : 0 < size) (one : window_is_one target.local ≡ true) where
      t : IsTarget part write.start target
      t = target_is part write.start target found

      put_here : IsIn part.size part.offset offset → (near : IsNear (n.bounds old_zero.at)) → InGammaZero gamma naming old old_zero (array_bytes part (bytes_at old i)) → InGammaZero gamma naming new (put_at l n old_zero target Yes alone) (array_bytes part (bytes_at new i))
      unfolding byte_at
      put_here inside near h =
          let start = starts_in part.size part.offset offset inside in
          let place : ℕ = offset - part.offset in
          let place_is : part.offset + place ≡ offset = omega (arith, start) in
          let fits = s.fits in
          let same = s.lengths i in
          let first = get_there (bytes_at old i) offset (omega (arith, fits, some)) in
          let last = get_there (bytes_at new i) offset (omega (arith, fits, some, same)) in
          let was = array_there s part old place first.0 (subst (IsIn part.size part.offset) (sym place_is) inside) (subst (λ z. byte_at old i z ≡ Some first.0) (sym place_is) first.1) in
          let is = array_there s part new place last.0 (subst (IsIn part.size part.offset) (sym place_is) inside) (subst (λ z. byte_at new i z ≡ Some last.0) (sym place_is) last.1) in
          let nil = k.zeros zero offset last.0 (omega arith) (omega (arith, some)) last.1 in
          let there = slice_get_within (array_bytes part (bytes_at old i)) place first.0 was in
          let put : Byte = record (first.0) { content = number 0 no_labels } in
          let equal : first_zero (set (array_bytes part (bytes_at old i)) place put) ≡ first_zero (array_bytes part (bytes_at new i)) =
          same_first_zero (set (array_bytes part (bytes_at old i)) place put) (array_bytes part (bytes_at new i)) place put last.0
          (λ j less. get_set_other (array_bytes part (bytes_at old i)) place j put (λ (e : j ≡ place). omega (arith, less, e)) ∙ sym (array_before s part j (omega (arith, less, start))))
          (get_set_same (array_bytes part (bytes_at old i)) place put there) is refl (nil_seen last.0 nil.0 nil.1) in
          let w = local_has part write.start target offset t inside k.start.0 k.start.1 (small_offset some) in
          subst (λ z. gamma (put_at l n old_zero target Yes alone).at (zero_offset z)) equal
          (put_inside o q old_zero target Yes alone (array_bytes part (bytes_at old i)) place 0 no_labels first.0 near h w.0 w.1 (local_small part write.start target t) there (small_old part i) (λ e. refl) (λ ne. absurd (ne refl)))

      -- another array, or another instance
      put_there : (j : ℕ) → (j ≡ i → (x : ℕ) → IsIn part.size part.offset x → offset ≤ x → x < offset + size → ⊥) → (alone && target.whole) ≡ false → InGammaZero gamma naming old old_zero (array_bytes part (bytes_at old j)) → InGammaZero gamma naming new (put_at l n old_zero target Yes alone) (array_bytes part (bytes_at new j))
      put_there j none both h = subst (InGammaZero gamma naming new (put_at l n old_zero target Yes alone)) (sym (array_apart s part j none)) (put_outside o q old_zero target Yes alone (zero_offset (first_zero (array_bytes part (bytes_at old j)))) both h)

      in_array : (inside : Bool) → lies_in_array write.one_byte inside target ≡ true → (near : IsNear (n.bounds old_zero.at)) → (j : ℕ) → IsLiveOf naming old b j → InGammaZero gamma naming old old_zero (array_bytes part (bytes_at old j)) → InGammaZero gamma naming new (put_at l n old_zero target Yes alone) (array_bytes part (bytes_at new j))
      in_array inside lies near j alive h = elim (cases_eq j i) [
        | inr ne ↦ put_there j (λ e x f g u. ne e) (not_both alone target.whole (λ a w. ne (single a some j alive))) h
        | inl e ↦ elim (in_or_not part.size part.offset offset) [
          | inl here ↦ subst (λ z. InGammaZero gamma naming new (put_at l n old_zero target Yes alone) (array_bytes part (bytes_at new z))) (sym e)
              (put_here here near (subst (λ z. InGammaZero gamma naming old old_zero (array_bytes part (bytes_at old z))) e h))
          | inr out ↦ (let none_whole : target.whole ≡ true → ⊥ = λ w. out (whole_in part write.start target offset t w k.start.0 k.start.1) in
              put_there j (λ f x at from to. out (subst (IsIn part.size part.offset) (let short = k.one_byte (one_byte inside lies none_whole) in omega (arith, from, to, short)) at)) (not_both alone target.whole (λ a w. none_whole w)) h)
        ]
      ]
        where
          one_byte : (inside : Bool) → lies_in_array write.one_byte inside target ≡ true → (target.whole ≡ true → ⊥) → write.one_byte ≡ true
          one_byte inside lies none = by_flags write.one_byte inside target.whole lies none
            where
              by_flags : (a c d : Bool) → (a || (c && d)) ≡ true → (d ≡ true → ⊥) → a ≡ true
              by_flags true c d h m = refl
              by_flags false true d h m = absurd (m h)
              by_flags false false d h m = cc

    -- what the table gives, wherever the write begins
    inside_stands : (target : ZeroTarget) → zero_target part write.start ≡ Some target → (inside : Bool) → lies_in_array write.one_byte inside target ≡ true → (near : IsNear (n.bounds old_zero.at)) → (j : ℕ) → IsLiveOf naming old b j → InGammaZero gamma naming old old_zero (array_bytes part (bytes_at old j))
        → InGammaZero gamma naming new (zero_inside l n old_zero target.local write (alone && target.whole)) (array_bytes part (bytes_at new j))
    inside_stands target found inside lies near j alive h = by_known (write.zero && (int_le (pos 1) write.least && (window_is_one target.local && is_up_to n old_zero target.local))) refl
      where
        by_known : (known : Bool) → (write.zero && (int_le (pos 1) write.least && (window_is_one target.local && is_up_to n old_zero target.local))) ≡ known → InGammaZero gamma naming new (cond known (put_at l n old_zero target Yes alone) (any_zero l n)) (array_bytes part (bytes_at new j))
        by_known false e = any_zero_stands o q naming new (array_bytes part (bytes_at new j)) (small_array part j)
        by_known true e =
            let a = and_parts write.zero (int_le (pos 1) write.least && (window_is_one target.local && is_up_to n old_zero target.local)) e in
            let c = and_parts (int_le (pos 1) write.least) (window_is_one target.local && is_up_to n old_zero target.local) a.1 in
            let d = and_parts (window_is_one target.local) (is_up_to n old_zero target.local) c.1 in
            let least = k.least in
            let one : pos 1 ≤ℤ write.least = grind (arith, ints) in
            in_array target found a.0 (omega (arith, ints, least, one)) d.0 inside lies near j alive h

    met_stands : (start : Option ZeroTarget) → zero_target part write.start ≡ start → (inside : Bool) → (near : IsNear (n.bounds old_zero.at)) → (j : ℕ) → IsLiveOf naming old b j → InGammaZero gamma naming old old_zero (array_bytes part (bytes_at old j))
        → InGammaZero gamma naming new (zero_met_at l n old_zero write alone inside start) (array_bytes part (bytes_at new j))
    met_stands None found inside near j alive h = any_zero_stands o q naming new (array_bytes part (bytes_at new j)) (small_array part j)
    met_stands (Some target) found inside near j alive h = by_lies (lies_in_array write.one_byte inside target) refl
      where
        by_lies : (lies : Bool) → lies_in_array write.one_byte inside target ≡ lies → InGammaZero gamma naming new (cond lies (zero_inside l n old_zero target.local write (alone && target.whole)) (any_zero l n)) (array_bytes part (bytes_at new j))
        by_lies true e = inside_stands target found inside e near j alive h
        by_lies false e = any_zero_stands o q naming new (array_bytes part (bytes_at new j)) (small_array part j)

  -- ---- the row

  module _ (base : BaseInfo) (z : ℕ) (part : ZeroPart) (row : List (Cell I)) (there : zero_position base z < length row) (zeros : (j : ℕ) → IsLiveOf naming old b j → InGammaZero gamma naming old (zero_at l n row (zero_position base z)) (array_bytes part (bytes_at old j))) (j : ℕ) (alive : IsLiveOf naming old b j) where
    abbrev After : List (Cell I) → Type 0
    After r = InGammaZero gamma naming new (zero_at l n r (zero_position base z)) (array_bytes part (bytes_at new j))

    -- the window has no byte of the array
    missed : zero_target part write.window ≡ None → After row
    missed e = subst (InGammaZero gamma naming new (zero_at l n row (zero_position base z)))
        (sym (array_apart s part j (λ d x inside from to. let w = k.window x from to in
        let fits = s.fits in
        let same = s.lengths i in
        let small = sane.small i in
        target_there part write.window x inside w.0 w.1 (omega (arith, to, fits, same, small)) e)))
        (zeros j alive)

    by_target : (target : Option ZeroTarget) → zero_target part write.window ≡ target → After (cond (is_some target) (fill_zero_at l n write alone part (zero_position base z) row) row)
    by_target None e = missed e
    by_target (Some target) e = put_zero_stands o q naming new row (zero_position base z) (zero_met l n part (zero_at l n row (zero_position base z)) write alone) (array_bytes part (bytes_at new j)) there (small_array part j)
        (met_stands part (zero_at l n row (zero_position base z)) (zero_target part write.start) refl (is_whole (zero_target part write.window)) (zero_near q row (zero_position base z)) j alive (zeros j alive))

    pub zero_filled : InGammaZero gamma naming new (zero_at l n (fill_zero l n base write alone part z row) (zero_position base z)) (array_bytes part (bytes_at new j))
    unfolding fill_zero
    zero_filled = by_target (zero_target part write.window) refl
