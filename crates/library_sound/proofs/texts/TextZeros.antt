-- What a text that is written makes of the first zeros stands for its bytes, where the rule holds of each array of the
-- base.
use Rattle.std.proofs.Common.{◌≡◌, ℕ, ◌+◌, ◌-◌, ◌^◌, ◌<◌, ◌≤◌, Bool, true, false, cond, ◌&&◌, Option, Some, None, List, length, arith, subst, sym, refl, ◌∙◌, inl, inr, ◌⊎◌}
use Rattle.std.specs.Prelude.{slice_get, ℤ, is_some}
use Rattle.std.proofs.lemmas.Bool.{cases_eq, true≢false, or_cases, and_parts}
use Rattle.cc_base.specs.Lattices.{LatticeOf, OrderLaws}
use Rattle.cc_base.specs.IntegerDomains.{IntegersOf, BoundLaws, IsNear}
use Rattle.c_layout.specs.declared.shapes.BaseInfo.{BaseInfo}
use Rattle.c_layout.specs.declared.shapes.ZeroPart.{ZeroPart}
use Rattle.cfg.specs.declared.programs.Flow.{Flow}
use Rattle.value_domain.specs.declared.strings.first_zeros.FirstZero.{FirstZero}
use Rattle.value_domain.specs.declared.values.row_cells.Cell.{Cell}
use Rattle.store_cells.specs.declared.first_zero_writes.ZeroTarget.{ZeroTarget}
use Rattle.store_cells.specs.FirstZeroWrites.{zero_target, any_zero}
use Rattle.store_cells.specs.RowPositions.{zero_position, zero_at}
use Rattle.transfer_library_writes.specs.TextWrites.{is_whole, lies_in_array, text_lies_in_array, zero_after, sure_zero, zero_met_at, zero_met, write_zero_at, write_zero}
use Rattle.transfer_library_writes.specs.declared.text_writes.TextWrite.{TextWrite}
use Rattle.transfer_library_writes.specs.declared.text_writes.ZeroRule.{ZeroRule}
use Rattle.transfer_library_writes.specs.declared.text_writes.ZeroRule.TheVariants.{Text, Append, Any}
use Rattle.memory_model.specs.Memory.Instances.{Memory, bytes_at}
use Rattle.store_sound.specs.Concretization.SoundMemory.{IsMemoryOf}
use Rattle.store_sound.specs.Concretization.ValueMeaning.{Naming, InGammaZero}
use Rattle.store_sound.specs.Concretization.RowMeaning.{IsLiveOf, array_bytes}
use Rattle.store_sound.proofs.operations.Texts.{zero_near}
use Rattle.store_sound.proofs.chars.ByteArrays.{IsIn, in_or_not, target_is, target_there, whole_in}
use Rattle.store_sound.specs.Regions.RegionWrites.{IsRegion}
use Rattle.store_sound.proofs.regions.RegionArrays.{array_short, array_apart, put_zero_stands, any_zero_stands}
use Rattle.library_sound.specs.Texts.TextWrites.{IsTextWrite}

not_both : (a b : Bool) → (a ≡ true → b ≡ true → ⊥) → (a && b) ≡ false
not_both true true n = absurd (n refl refl)
not_both true false n = refl
not_both false b n = refl

begun_inside : (one inside : Bool) (t : ZeroTarget) → lies_in_array one inside t ≡ true → (one ≡ true) ⊎ (inside ≡ true)
begun_inside one inside t h = elim (or_cases one (inside && t.whole) h) [ inl e ↦ inl e | inr e ↦ inr (and_parts inside t.whole e).0 ]

-- a text that lies in an array is of one byte, or the window does too
pub short_or_inside : {I : Type 0} (rule : ZeroRule I) (one inside : Bool) (t : ZeroTarget) → text_lies_in_array rule one inside t ≡ true → (one ≡ true) ⊎ (inside ≡ true)
short_or_inside (Text length) one inside t h = or_cases one inside h
short_or_inside (Append length unknown) one inside t h = begun_inside one inside t h
short_or_inside Any one inside t h = begun_inside one inside t h

module _ {I : Type 0} {l : LatticeOf I} {n : IntegersOf I} {gamma : I → ℤ → Type 0} (o : OrderLaws l) (q : BoundLaws l n gamma) (flow : Flow) (naming : Naming) {old new : Memory} {i offset size : ℕ} (s : IsRegion old new i offset size) (sane : IsMemoryOf flow.model flow.bases.items naming new) (write : TextWrite I) (k : IsTextWrite l n gamma write new i offset size)
    (alone : Bool) (b : ℕ) (base : BaseInfo) (single : alone ≡ true → 0 < size → (j : ℕ) → IsLiveOf naming old b j → j ≡ i) where
  -- what the rule gives for an array of a base of the instance, where it has all of the region
  abbrev pub RuleStands : Type 0
  RuleStands = (z : ℕ) (part : ZeroPart) (target : ZeroTarget) (f : FirstZero I) → slice_get base.shape.zeros z ≡ Some part → naming i ≡ Some b → zero_target part write.start ≡ Some target → IsIn part.size part.offset offset → IsIn part.size part.offset (offset + (size - 1)) → IsNear (n.bounds f.at)
      → InGammaZero gamma naming old f (array_bytes part (bytes_at old i)) → InGammaZero gamma naming new (zero_after l n f target.local write.zero) (array_bytes part (bytes_at new i))

  small_array : (part : ZeroPart) (j : ℕ) → length (array_bytes part (bytes_at new j)) ≤ 2 ^ 64 - 1
  small_array part j = let a = array_short part (bytes_at new j) in let c = sane.small j in omega (arith, a, c)

  small_byte : (x : ℕ) → x < offset + size → x ≤ 2 ^ 64 - 1
  small_byte x h = let fits = s.fits in let same = s.lengths i in let small = sane.small i in omega (arith, h, fits, same, small)

  module _ (some : 0 < size) (rule : RuleStands) (z : ℕ) (part : ZeroPart) (among : slice_get base.shape.zeros z ≡ Some part) (f : FirstZero I) (near : IsNear (n.bounds f.at)) where
    by_sure : (sure : Bool) (new_zero : FirstZero I) (j : ℕ) → (sure ≡ true → InGammaZero gamma naming new new_zero (array_bytes part (bytes_at new j))) → InGammaZero gamma naming new new_zero (array_bytes part (bytes_at new j)) ⊎ InGammaZero gamma naming new f (array_bytes part (bytes_at new j)) → InGammaZero gamma naming new (sure_zero l sure f new_zero) (array_bytes part (bytes_at new j))
    by_sure true new_zero j h g = h refl
    by_sure false new_zero j h (inl g) = q.larger new_zero.at (l.join f.at new_zero.at) _ (o.join_right f.at new_zero.at) g
    by_sure false new_zero j h (inr g) = q.larger f.at (l.join f.at new_zero.at) _ (o.join_left f.at new_zero.at) g

    module _ (target : ZeroTarget) (found : zero_target part write.start ≡ Some target) (inside : Option ZeroTarget) (window : zero_target part write.window ≡ inside) (lies : text_lies_in_array write.zero write.one_byte (is_whole inside) target ≡ true) (j : ℕ) (alive : IsLiveOf naming old b j) (h : InGammaZero gamma naming old f (array_bytes part (bytes_at old j))) where
      -- each byte is one of the array's where the window lies in it
      byte_in : is_whole inside ≡ true → (x : ℕ) → offset ≤ x → x < offset + size → IsIn part.size part.offset x
      byte_in whole x from to = by_window inside window whole
        where
          by_window : (w : Option ZeroTarget) → zero_target part write.window ≡ w → is_whole w ≡ true → IsIn part.size part.offset x
          by_window None e g = absurd (cc)
          by_window (Some t) e g = let r = k.window x from to in whole_in part write.window t x (target_is part write.window t e) g r.0 r.1

      -- the last byte is one of the array's where the first is
      last_in : IsIn part.size part.offset offset → IsIn part.size part.offset (offset + (size - 1))
      last_in first = elim (short_or_inside write.zero write.one_byte (is_whole inside) target lies) [
        | inl e ↦ (let short = k.one_byte e in subst (IsIn part.size part.offset) (omega (arith, short)) first)
        | inr e ↦ byte_in e (offset + (size - 1)) (omega arith) (omega (arith, some))
      ]

      -- where the first byte is none of the array's, no byte is
      none_in : (IsIn part.size part.offset offset → ⊥) → (x : ℕ) → IsIn part.size part.offset x → offset ≤ x → x < offset + size → ⊥
      none_in out x at from to = elim (short_or_inside write.zero write.one_byte (is_whole inside) target lies) [
        | inl e ↦ (let short = k.one_byte e in
            let same : x ≡ offset = omega (arith, from, to, short) in
            out (subst (IsIn part.size part.offset) same at))
        | inr e ↦ out (byte_in e offset (omega arith) (omega (arith, some)))
      ]

      whole_starts : target.whole ≡ true → IsIn part.size part.offset offset
      whole_starts e = whole_in part write.start target offset (target_is part write.start target found) e k.start.0 k.start.1

      kept : (j ≡ i → (x : ℕ) → IsIn part.size part.offset x → offset ≤ x → x < offset + size → ⊥) → InGammaZero gamma naming new f (array_bytes part (bytes_at new j))
      kept none = subst (InGammaZero gamma naming new f) (sym (array_apart s part j none)) h

      after : FirstZero I
      after = zero_after l n f target.local write.zero

      sure_stands : InGammaZero gamma naming new (sure_zero l (alone && target.whole) f (zero_after l n f target.local write.zero)) (array_bytes part (bytes_at new j))
      sure_stands = elim (cases_eq j i) [
        | inr ne ↦ by_sure (alone && target.whole) (zero_after l n f target.local write.zero) j (λ e. absurd (true≢false (sym e ∙ not_both alone target.whole (λ a w. ne (single a some j alive))))) (inr (kept (λ d. absurd (ne d))))
        | inl d ↦ elim (in_or_not part.size part.offset offset) [
          | inl first ↦ (let g = subst (λ z. InGammaZero gamma naming new (zero_after l n f target.local write.zero) (array_bytes part (bytes_at new z))) (sym d) (rule z part target f among (subst (λ y. naming y ≡ Some b) d alive.named) found first (last_in first) near (subst (λ z. InGammaZero gamma naming old f (array_bytes part (bytes_at old z))) d h)) in
              by_sure (alone && target.whole) (zero_after l n f target.local write.zero) j (λ e. g) (inl g))
          | inr out ↦ by_sure (alone && target.whole) (zero_after l n f target.local write.zero) j (λ e. absurd (true≢false (sym e ∙ not_both alone target.whole (λ a w. out (whole_starts w))))) (inr (kept (λ e. none_in out)))
        ]
      ]

  -- ---- the row

  -- nothing is said, or the rule stands where something is written
  pub data IsRuled : Type 0 where
    says_nothing : write.zero ≡ Any → IsRuled
    says : 0 < size → RuleStands → IsRuled

  module _ (ruled : IsRuled) (z : ℕ) (part : ZeroPart) (among : slice_get base.shape.zeros z ≡ Some part) (row : List (Cell I)) (there : zero_position base z < length row) (zeros : (j : ℕ) → IsLiveOf naming old b j → InGammaZero gamma naming old (zero_at l n row (zero_position base z)) (array_bytes part (bytes_at old j))) (j : ℕ) (alive : IsLiveOf naming old b j) where
    abbrev f : FirstZero I
    f = zero_at l n row (zero_position base z)

    any_here : InGammaZero gamma naming new (any_zero l n) (array_bytes part (bytes_at new j))
    any_here = any_zero_stands o q naming new (array_bytes part (bytes_at new j)) (small_array part j)

    by_rule : IsRuled → (target : ZeroTarget) → zero_target part write.start ≡ Some target → text_lies_in_array write.zero write.one_byte (is_whole (zero_target part write.window)) target ≡ true → InGammaZero gamma naming new (sure_zero l (alone && target.whole) f (zero_after l n f target.local write.zero)) (array_bytes part (bytes_at new j))
    by_rule (says some rule) target found lies = sure_stands some rule z part among f (zero_near q row (zero_position base z)) target found (zero_target part write.window) refl lies j alive (zeros j alive)
    by_rule (says_nothing e) target found lies = subst (λ r. InGammaZero gamma naming new (sure_zero l (alone && target.whole) f (zero_after l n f target.local r)) (array_bytes part (bytes_at new j))) (sym e) (by_flag (alone && target.whole))
      where
        by_flag : (sure : Bool) → InGammaZero gamma naming new (sure_zero l sure f (any_zero l n)) (array_bytes part (bytes_at new j))
        by_flag true = any_here
        by_flag false = q.larger (any_zero l n).at (l.join f.at (any_zero l n).at) _ (o.join_right f.at (any_zero l n).at) any_here

    by_start : (start : Option ZeroTarget) → zero_target part write.start ≡ start → InGammaZero gamma naming new (zero_met_at l n f write alone (is_whole (zero_target part write.window)) start) (array_bytes part (bytes_at new j))
    by_start None found = any_here
    by_start (Some target) found = by_lies (text_lies_in_array write.zero write.one_byte (is_whole (zero_target part write.window)) target) refl
      where
        by_lies : (lies : Bool) → text_lies_in_array write.zero write.one_byte (is_whole (zero_target part write.window)) target ≡ lies → InGammaZero gamma naming new (cond lies (sure_zero l (alone && target.whole) f (zero_after l n f target.local write.zero)) (any_zero l n)) (array_bytes part (bytes_at new j))
        by_lies true e = by_rule ruled target found e
        by_lies false e = any_here

    by_target : (target : Option ZeroTarget) → zero_target part write.window ≡ target → InGammaZero gamma naming new (zero_at l n (cond (is_some target) (write_zero_at l n write alone part (zero_position base z) row) row) (zero_position base z)) (array_bytes part (bytes_at new j))
    by_target None e = subst (InGammaZero gamma naming new f)
        (sym (array_apart s part j (λ d x inside from to. let w = k.window x from to in target_there part write.window x inside w.0 w.1 (small_byte x to) e)))
        (zeros j alive)
    by_target (Some target) e = put_zero_stands o q naming new row (zero_position base z) (zero_met l n part f write alone) (array_bytes part (bytes_at new j)) there (small_array part j) (by_start (zero_target part write.start) refl)

    pub zero_written : InGammaZero gamma naming new (zero_at l n (write_zero l n base write alone part z row) (zero_position base z)) (array_bytes part (bytes_at new j))
    unfolding write_zero
    zero_written = by_target (zero_target part write.window) refl
