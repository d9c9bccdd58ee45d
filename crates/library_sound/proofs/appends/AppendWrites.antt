-- A text that is appended to another is stood for.
use Rattle.std.proofs.Common.{◌≡◌, ℕ, ◌+◌, ◌-◌, ◌<◌, Bool, true, false, cond, Option, Some, None, List, length, arith, subst, sym, refl, ap, ◌∙◌}
use Rattle.std.specs.Prelude.{slice_get, ℤ, pos}
use Rattle.cc_base.specs.Lattices.{LatticeOf, OrderLaws}
use Rattle.cc_base.specs.IntegerDomains.{IntegersOf, BoundLaws}
use Rattle.c_layout.specs.declared.shapes.BaseInfo.{BaseInfo}
use Rattle.cfg.specs.declared.programs.Flow.{Flow}
use Rattle.pointer_domain.specs.declared.base_sets.Bases.{Bases}
use Rattle.value_domain.specs.declared.values.row_cells.Cell.{Cell}
use Rattle.store_objects.specs.LiveBases.{has_base, is_one_instance}
use Rattle.transfer_library_writes.specs.TextWrites.{zero_after, rule_in, write_into, write_text}
use Rattle.transfer_library_writes.specs.declared.text_writes.TextWrite.{TextWrite}
use Rattle.transfer_library_writes.specs.declared.text_writes.ZeroRule.{ZeroRule}
use Rattle.transfer_library_writes.specs.declared.text_writes.ZeroRule.TheVariants.{Append, Any}
use Rattle.memory_model.specs.Memory.Instances.{Memory, bytes_at}
use Rattle.store_sound.specs.Concretization.SoundMemory.{IsMemoryOf}
use Rattle.store_sound.specs.Concretization.ValueMeaning.{Naming, InGammaZero}
use Rattle.store_sound.specs.Concretization.RowMeaning.{MachineState, array_bytes, IsLiveOf, InGamma}
use Rattle.store_sound.specs.Operations.Shapes.{IsLaidOut}
use Rattle.store_sound.proofs.chars.ByteArrays.{IsIn}
use Rattle.store_sound.specs.Regions.RegionWrites.{IsRegion}
use Rattle.library_sound.specs.Texts.TextWrites.{IsTextWrite, IsWrittenText}
use Rattle.library_sound.specs.Appends.ApartTexts.{IsByteFrom}
use Rattle.library_sound.specs.Appends.AppendWrites.{EndsAt}
use Rattle.library_sound.proofs.texts.TextZeros.{IsRuled, says_nothing, says}
use Rattle.library_sound.proofs.texts.TextRows.{text_stands, text_long}
use Rattle.library_sound.proofs.appends.AppendRules.{append_rule}

pub byte_from : (size : Option ℕ) (start x : ℕ) → IsIn size start x → IsByteFrom start size x
byte_from None start x h = h
byte_from (Some size) start x h = h

module _ {I : Type 0} {l : LatticeOf I} {n : IntegersOf I} {gamma : I → ℤ → Type 0} (o : OrderLaws l) (q : BoundLaws l n gamma) (flow : Flow) (naming : Naming) (row : List (Cell I)) (state : MachineState) (laid : IsLaidOut flow (length row)) (s : InGamma l n gamma flow naming row state)
    (new : Memory) (i offset size : ℕ) (region : IsRegion state.memory new i offset size) (sane : IsMemoryOf flow.model flow.bases.items naming new) (write : TextWrite I) (k : IsTextWrite l n gamma write new i offset size)
    (added : I) (unknown : Bases) (is : write.zero ≡ Append added unknown) (t : ℕ) (text : IsWrittenText new i offset size t) (counted : gamma added (pos t)) (ends : EndsAt flow naming state.memory i offset unknown)
    (here : (b : ℕ) → naming i ≡ Some b → 0 < size → has_base write.bases b ≡ true)
    (single : is_one_instance flow.bases.items write.bases ≡ true → 0 < size → (b j : ℕ) → has_base write.bases b ≡ true → IsLiveOf naming state.memory b j → j ≡ i) where
  of_base : (b : ℕ) → IsTextWrite l n gamma (write_into write b) new i offset size
  of_base b = record { window = k.window; start = k.start; one_byte = k.one_byte; numbers = k.numbers; characters = k.characters }

  ruled : (b : ℕ) (base : BaseInfo) → slice_get flow.bases.items b ≡ Some base → (has : has_base write.bases b ≡ true) → IsRuled o q flow naming region sane (write_into write b) (of_base b) (is_one_instance flow.bases.items write.bases) b base (λ alone some j alive. single alone some b j has alive)
  ruled b base at has = by_unknown (has_base unknown b) refl
    where
      rule_is : (u : Bool) → has_base unknown b ≡ u → rule_in write.zero b ≡ cond {A = ZeroRule I} u Any (Append added unknown)
      rule_is u e = ap (λ z. rule_in z b) is ∙ ap (λ v. cond {A = ZeroRule I} v Any (Append added unknown)) e

      by_unknown : (u : Bool) → has_base unknown b ≡ u → IsRuled o q flow naming region sane (write_into write b) (of_base b) (is_one_instance flow.bases.items write.bases) b base (λ alone some j alive. single alone some b j has alive)
      by_unknown true e = says_nothing (rule_is true e)
      by_unknown false e =
          let long = text.long in
          says (omega (arith, long)) (λ z part target f among named found inside last near old.
          subst (λ y. InGammaZero gamma naming new (zero_after l n f target.local y) (array_bytes part (bytes_at new i))) (sym (rule_is false e))
          (append_rule o q flow naming (subst (IsRegion state.memory new i offset) text.long region) sane text.text text.closed added counted part f inside (subst (λ y. IsIn part.size part.offset (offset + (y - 1))) text.long last) (ends.zero b z base part named e at among (byte_from part.size part.offset offset inside)) old))

  pub append_stands : InGamma l n gamma flow naming (write_text l n flow write row) (record { memory = new; temps = state.temps; entered = state.entered })
  append_stands = text_stands o q flow naming row state laid s new i offset size region sane write here single of_base ruled

  pub append_long : length (write_text l n flow write row) ≡ length row
  append_long = text_long o q flow naming row state laid s new i offset size region sane write here single of_base ruled
