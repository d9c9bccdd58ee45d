-- Calls that write texts, in rising rows.
use Rattle.std.specs.Prelude.{◌≡◌, ◌⊎◌, ℕ, ℤ, pos, int_le, Bool, true, false, cond, Option, Some, None, is_some, List, refl}
use Rattle.std.proofs.Common.{inl, inr, sym, subst}
use Rattle.cc_base.specs.Lattices.{LatticeOf, OrderLaws}
use Rattle.cc_base.specs.IntegerDomains.{IntegersOf, BoundLaws, RangeLaws}
use Rattle.cc_base.specs.IntegerLaws.{MonotoneLaws}
use Rattle.cfg.specs.declared.programs.Flow.{Flow}
use Rattle.pointer_domain.specs.declared.base_sets.Bases.{Bases}
use Rattle.pointer_domain.specs.BaseLattice.{bases_order}
use Rattle.value_domain.specs.declared.values.row_cells.Cell.{Cell}
use Rattle.value_domain.specs.Values.LabelSets.{labels_order}
use Rattle.value_domain.specs.Values.ValueTables.{pointer_value}
use Rattle.domain_theorems.proofs.values.Flags.{Sets}
use Rattle.domain_theorems.proofs.values.Parts.{pointer_parts}
use Rattle.domain_theorems.proofs.values.Ranges.{RangeBelow}
use Rattle.store_cells.specs.declared.access_windows.Window.{Window}
use Rattle.store_objects.specs.LiveBases.{writable_of}
use Rattle.store_monotone.specs.Operations.TopRows.{top_row}
use Rattle.store_monotone.proofs.operations.LiveBases.{writable_monotone}
use Rattle.store_monotone.proofs.operations.Together.{each}
use Rattle.store_monotone.proofs.operations.Windows.{WindowsBelow}
use Rattle.transfer_library_plans.specs.declared.call_plans.Effect.{Effect}
use Rattle.transfer_library_plans.specs.declared.call_plans.Effect.TheVariants as effect
use Rattle.transfer_library.specs.declared.memory_calls.Target.{Target}
use Rattle.transfer_library_writes.specs.declared.source_bytes.Characters.{Characters}
use Rattle.transfer_library_writes.specs.declared.text_writes.TextWrite.{TextWrite}
use Rattle.transfer_library_writes.specs.declared.text_writes.ZeroRule.{ZeroRule}
use Rattle.transfer_library_writes.specs.declared.text_writes.ZeroRule.TheVariants.{Any}
use Rattle.transfer_library.specs.MemoryCalls.{lower_of, nothing_written}
use Rattle.transfer_library.specs.StringCalls.{text_effect}
use Rattle.transfer_library.specs.Effects.{apply}
use Rattle.transfer_library_writes.specs.TextWrites.{write_text}
use Rattle.transfer_system.specs.CallSteps.{call_of, goes_on}
use Rattle.transfer_monotone.proofs.edges.MemorySteps.{row_near}
use Rattle.transfer_monotone.specs.Values.RisingRows.{LeftRise, PointersRise}
use Rattle.transfer_monotone.specs.Values.LaidOut.{IsLaidOut}
use Rattle.transfer_monotone.specs.Values.StepLaws.{FlowRows}
use Rattle.system_monotone.specs.LibraryWrites.TextOrder.{HasLength, RuleBelow, CharactersBelow, StartsBelow, TextBelow, TextsRise, OneTextRises}
use Rattle.system_monotone.proofs.library_writes.IdleCalls.{IsIdle, idle_on, both_left, idle_left}
use Rattle.system_monotone.proofs.library_writes.TextWrites.{text_rises}

module _ {I : Type 0} {l : LatticeOf I} {n : IntegersOf I} {stands : I → ℤ → Type 0} (o : OrderLaws l) (b : BoundLaws l n stands) (g : MonotoneLaws l n) (r : RangeLaws l n) (all : Bases) (flow : Flow) (k : IsLaidOut all flow) where
  abbrev top : List (Cell I)
  top = top_row n all flow.bases.items flow.temps

  -- ---- writes

  written : (on : Bool) (w v : TextWrite I) → TextBelow l n w v → (on ≡ false → v.zero ≡ Any) → (p q : List (Cell I)) → FlowRows l n all flow p q → FlowRows l n all flow (cond on (write_text l n flow w p) p) (write_text l n flow v q)
  written on w v h none p q rows = text_rises o b flow all top (each o b flow.model flow.bases.items k.layout all flow.temps (row_near o b g r all flow k)) w v h on none p q rows

  pub texts_rise : TextsRise l n all flow
  texts_rise small large h p q rows = written true small large h (λ e. absurd (cc)) p q rows

  pub one_text_rises : OneTextRises l n all flow
  one_text_rises write h none p q rows = written false write write h (λ e. none) p q rows

  -- ---- effects

  -- the write of an effect
  abbrev pub text_of : Target I → Window → Window → Bool → Characters I → ZeroRule I → TextWrite I
  text_of target start w one_byte characters rule = record { bases = writable_of flow.bases.items target.rest.bases; start = start; window = w; one_byte = one_byte; characters = characters; zero = rule }

  module _ (x y : Target I) (s w u v : Option Window) (one more : Bool) (c d : Characters I) (rule larger : ZeroRule I) where
    -- a byte surely is written, from the first one on
    pub record IsNeeded : Type 0 where
      pub byte : int_le (pos 1) (lower_of x.count) ≡ true
      pub begins : (start window : Window) → s ≡ Some start → w ≡ Some window → StartsBelow (writable_of flow.bases.items x.rest.bases) start window one more

    -- the write of a longer text to more places
    pub record EffectsRise : Type 0 where
      pub rest : PointersRise l n all x.rest y.rest
      pub count : RangeBelow x.count y.count
      pub counted : is_some x.count ≡ true
      pub start : WindowsBelow s u
      pub window : WindowsBelow w v
      pub larger_start : WindowsBelow u u
      pub larger_window : WindowsBelow v v
      pub characters : CharactersBelow l n c d
      pub zero : RuleBelow l n rule larger
      pub length : HasLength l n rule
      pub larger_length : HasLength l n larger
      pub begins : (larger ≡ Any) ⊎ IsNeeded

  module _ (x y : Target I) (one more : Bool) (c d : Characters I) (rule larger : ZeroRule I) where
    text_below : (start window first most : Window) → EffectsRise x y (Some start) (Some window) (Some first) (Some most) one more c d rule larger → TextBelow l n (text_of x start window one c rule) (text_of y first most more d larger)
    text_below start window first most h = record {
      bases = writable_monotone flow.bases.items x.rest.bases y.rest.bases (pointer_parts l x.rest y.rest h.rest.below).bases;
      start = h.start;
      window = h.window;
      characters = h.characters;
      zero = h.zero;
      length = h.length;
      more = h.larger_length;
      begins = elim h.begins [ inl z ↦ inl z | inr needed ↦ inr (needed.begins start window refl refl) ];
    }

    same_below : CharactersBelow l n c d → CharactersBelow l n d d
    same_below h = record { signed = o.reflexive d.signed; unsigned = o.reflexive d.unsigned; labels = labels_order.reflexive d.labels; signed_top = h.signed_top; unsigned_top = h.unsigned_top }

    -- the larger write alone
    text_alone : (s w : Option Window) (first most : Window) → EffectsRise x y s w (Some first) (Some most) one more c d rule larger → larger ≡ Any → TextBelow l n (text_of y first most more d larger) (text_of y first most more d larger)
    text_alone s w first most h none = record {
      bases = bases_order.reflexive (writable_of flow.bases.items y.rest.bases);
      start = h.larger_start;
      window = h.larger_window;
      characters = same_below h.characters;
      zero = subst (λ z. RuleBelow l n z z) (sym none) tt;
      length = h.larger_length;
      more = h.larger_length;
      begins = inl none;
    }

    module _ (arguments : List ℕ) (wanted : Option ℕ) where
      abbrev effect_of : Target I → Option Window → Option Window → Bool → Characters I → ZeroRule I → Effect I
      effect_of target start w one_byte characters z = text_effect l (call_of flow arguments wanted) target start w one_byte characters z

      -- ---- whether the call goes on

      larger_on : (u v : Option Window) → (effect_of y u v more d larger ≡ nothing_written l y) ⊎ (goes_on (effect_of y u v more d larger) ≡ true)
      larger_on None v = inl refl
      larger_on (Some first) None = inl refl
      larger_on (Some first) (Some most) = inr refl

      -- the larger call goes on where the smaller one does
      pub effect_on : (s w u v : Option Window) → EffectsRise x y s w u v one more c d rule larger → Sets (goes_on (effect_of x s w one c rule)) (goes_on (effect_of y u v more d larger))
      effect_on None w u v h = idle_on o b g r all flow k x y h.counted h.count (effect_of y u v more d larger) (larger_on u v)
      effect_on (Some start) None u v h = idle_on o b g r all flow k x y h.counted h.count (effect_of y u v more d larger) (larger_on u v)
      effect_on (Some start) (Some window) None v h = absurd h.start
      effect_on (Some start) (Some window) (Some first) None h = absurd h.window
      effect_on (Some start) (Some window) (Some first) (Some most) h = λ e. refl

      module _ (to newest : Option ℕ) (p q : List (Cell I)) (rows : FlowRows l n all flow p q) where
        abbrev done : Effect I → List (Cell I) → Option (List (Cell I))
        done e row = apply l n flow to newest e row

        -- the larger call writes alone, or nothing
        larger_left : (s w u v : Option Window) → EffectsRise x y s w u v one more c d rule larger
            → (effect_of y u v more d larger ≡ nothing_written l y) ⊎ (IsIdle o b g r all flow k x y → LeftRise l n top (done (effect.Result (pointer_value l x.rest)) p) (done (effect_of y u v more d larger) q))
        unfolding apply
        larger_left s w None v h = inl refl
        larger_left s w (Some first) None h = inl refl
        larger_left s w (Some first) (Some most) h = inr (λ e. elim h.begins [
          | inl z ↦ both_left o b g r all flow k x y h.counted h.count (effect_of y (Some first) (Some most) more d larger) h.rest to newest p q p (write_text l n flow (text_of y first most more d larger) q)
              (one_text_rises (text_of y first most more d larger) (text_alone s w first most h z) z p q rows)
          | inr needed ↦ absurd (let t = needed.byte in cc)
        ])

        -- what an effect leaves
        pub effect_left : (s w u v : Option Window) → EffectsRise x y s w u v one more c d rule larger → LeftRise l n top (done (effect_of x s w one c rule) p) (done (effect_of y u v more d larger) q)
        unfolding apply
        effect_left None w u v h = idle_left o b g r all flow k x y h.counted h.count (effect_of y u v more d larger) h.rest to newest p q rows (larger_left None w u v h)
        effect_left (Some start) None u v h = idle_left o b g r all flow k x y h.counted h.count (effect_of y u v more d larger) h.rest to newest p q rows (larger_left (Some start) None u v h)
        effect_left (Some start) (Some window) None v h = absurd h.start
        effect_left (Some start) (Some window) (Some first) None h = absurd h.window
        effect_left (Some start) (Some window) (Some first) (Some most) h = both_left o b g r all flow k x y h.counted h.count (effect_of y (Some first) (Some most) more d larger) h.rest to newest p q (write_text l n flow (text_of x start window one c rule) p) (write_text l n flow (text_of y first most more d larger) q)
            (texts_rise (text_of x start window one c rule) (text_of y first most more d larger) (text_below start window first most h) p q rows)
