-- Texts that are written from the first byte of a target on, in rising rows.
use Rattle.std.specs.Prelude.{◌≡◌, ◌⊎◌, ℕ, ℤ, pos, int_le, true, Option, is_some, List}
use Rattle.std.proofs.Common.{inl, inr}
use Rattle.cc_base.specs.Lattices.{LatticeOf, OrderLaws}
use Rattle.cc_base.specs.IntegerDomains.{IntegersOf, BoundLaws, RangeLaws}
use Rattle.cc_base.specs.IntegerLaws.{MonotoneLaws}
use Rattle.cc_base.specs.NumberRanges.{Range}
use Rattle.cfg.specs.declared.programs.Flow.{Flow}
use Rattle.pointer_domain.specs.declared.base_sets.Bases.{Bases}
use Rattle.pointer_domain.specs.declared.pointer_sets.Pointers.{Pointers}
use Rattle.pointer_domain.specs.PointerTables.{offsets}
use Rattle.value_domain.specs.declared.values.row_cells.Cell.{Cell}
use Rattle.domain_theorems.proofs.values.Flags.{Sets}
use Rattle.domain_theorems.proofs.values.Ranges.{RangeBelow}
use Rattle.store_cells.specs.AccessWindows.{window_within}
use Rattle.store_monotone.specs.Operations.TopRows.{top_row}
use Rattle.transfer_checks.specs.LibraryArguments.{touched_window, cut_by_room}
use Rattle.transfer_library_plans.specs.declared.call_plans.Trail.{Trail}
use Rattle.transfer_library.specs.declared.memory_calls.Target.{Target}
use Rattle.transfer_library_writes.specs.declared.source_bytes.Characters.{Characters}
use Rattle.transfer_library_writes.specs.declared.text_writes.ZeroRule.{ZeroRule}
use Rattle.transfer_library_writes.specs.declared.text_writes.ZeroRule.TheVariants.{Any}
use Rattle.transfer_library.specs.MemoryCalls.{lower_of, is_one_byte, room_trail, target_of}
use Rattle.transfer_library.specs.StringCalls.{text_effect, text_from_start}
use Rattle.transfer_library.specs.Effects.{apply}
use Rattle.transfer_system.specs.CallSteps.{call_of, goes_on}
use Rattle.transfer_monotone.specs.Edges.FilledRows.{LeavesFilled}
use Rattle.transfer_monotone.specs.Values.RisingRows.{LeftRise, PointersRise}
use Rattle.transfer_monotone.specs.Values.LaidOut.{IsLaidOut}
use Rattle.transfer_monotone.specs.Values.StepLaws.{FlowRows}
use Rattle.transfer_monotone.proofs.library.Trails.{TrailsBelow}
use Rattle.system_monotone.specs.LibraryWrites.TextOrder.{HasLength, RuleBelow, CharactersBelow}
use Rattle.system_monotone.proofs.library_writes.WriteTargets.{TargetsRise, touched_rises, start_rises}
use Rattle.system_monotone.proofs.library_writes.TextCalls.{EffectsRise, effect_left, effect_on}
use Rattle.system_monotone.proofs.library_writes.TextFills.{effect_fills, planned_fills}
use Rattle.system_monotone.proofs.library_writes.CallTargets.{within_same, touched_same, planned_left, planned_on, targets, counted, starts}

module _ {I : Type 0} {l : LatticeOf I} {n : IntegersOf I} {stands : I → ℤ → Type 0} (o : OrderLaws l) (b : BoundLaws l n stands) (g : MonotoneLaws l n) (r : RangeLaws l n) (all : Bases) (flow : Flow) (k : IsLaidOut all flow) where
  module _ (arguments : List ℕ) (wanted : Option ℕ) (s t : Trail) (below : TrailsBelow s t) (p q : Pointers I) (j : PointersRise l n all p q) (x u : Range) (i : RangeBelow x u) where
    abbrev small : Target I
    small = target_of l n (call_of flow arguments wanted) (room_trail n s p x) p (cut_by_room n x p)

    abbrev large : Target I
    large = target_of l n (call_of flow arguments wanted) (room_trail n t q u) q (cut_by_room n u q)

    both : TargetsRise l n all small large
    both = targets o b g r all flow k arguments wanted s t below p q j x u i

    there_is : small.trail.goes_on ≡ true → is_some small.count ≡ true
    there_is on = counted o b g r all flow k arguments wanted s t below p q j x u i on

    module _ (c d : Characters I) (rule larger : ZeroRule I) where
      -- longer texts, which need at least a byte unless nothing is known behind the larger one
      pub record TextsReady : Type 0 where
        pub characters : CharactersBelow l n c d
        pub zero : RuleBelow l n rule larger
        pub length : HasLength l n rule
        pub larger_length : HasLength l n larger
        pub byte : (larger ≡ Any) ⊎ (int_le (pos 1) (lower_of small.count) ≡ true)

      -- ---- texts from the first byte on

      abbrev FirstRises : Type 0
      FirstRises = EffectsRise o b g r all flow k small large (window_within (offsets n small.rest)) (touched_window n small.rest small.count) (window_within (offsets n large.rest)) (touched_window n large.rest large.count) (is_one_byte small.count) (is_one_byte large.count) c d rule larger

      from_first : is_some small.count ≡ true → TextsReady → FirstRises
      from_first some ready = record {
        rest = both.rest;
        count = both.count;
        counted = some;
        start = start_rises o b all small.rest large.rest both.rest;
        window = touched_rises o b all small.rest large.rest both.rest small.count large.count both.count;
        larger_start = within_same (offsets n large.rest);
        larger_window = touched_same n large.rest large.count;
        characters = ready.characters;
        zero = ready.zero;
        length = ready.length;
        larger_length = ready.larger_length;
        begins = elim ready.byte [ inl z ↦ inl z | inr e ↦ inr (record { byte = e; begins = λ start window is_start is_window. starts o b g r all flow k arguments wanted s t below p q j x u i e start window is_start is_window }) ];
      }

      module _ (ready : is_some small.count ≡ true → TextsReady) where
        -- what the plan leaves
        pub first_left : (to newest : Option ℕ) (a e : List (Cell I)) → FlowRows l n all flow a e → LeftRise l n (top_row n all flow.bases.items flow.temps)
            (apply l n flow to newest (text_from_start l n (call_of flow arguments wanted) small c rule).effect a) (apply l n flow to newest (text_from_start l n (call_of flow arguments wanted) large d larger).effect e)
        first_left to newest a e rows = planned_left o b g r all flow k to newest a e small.trail large.trail both.trail _ _
            (λ on. let some = there_is on in effect_left o b g r all flow k small large (is_one_byte small.count) (is_one_byte large.count) c d rule larger arguments wanted to newest a e rows _ _ _ _ (from_first some (ready some)))

        -- the larger plan goes on where the smaller one does
        pub first_on : Sets (goes_on (text_from_start l n (call_of flow arguments wanted) small c rule).effect) (goes_on (text_from_start l n (call_of flow arguments wanted) large d larger).effect)
        first_on = planned_on o b g r all flow k small.trail large.trail both.trail _ _
            (λ on. let some = there_is on in effect_on o b g r all flow k small large (is_one_byte small.count) (is_one_byte large.count) c d rule larger arguments wanted _ _ _ _ (from_first some (ready some)))

  -- what is left is filled
  pub first_fills : (arguments : List ℕ) (wanted : Option ℕ) (target : Target I) (c : Characters I) (rule : ZeroRule I) (to newest : Option ℕ) → LeavesFilled (apply l n flow to newest (text_from_start l n (call_of flow arguments wanted) target c rule).effect)
  first_fills arguments wanted target c rule to newest row h = planned_fills o b g r all flow k to newest target.trail (text_effect l (call_of flow arguments wanted) target (window_within (offsets n target.rest)) (touched_window n target.rest target.count) (is_one_byte target.count) c rule)
      (λ x j. effect_fills o b g r all flow k to newest arguments wanted target (window_within (offsets n target.rest)) (touched_window n target.rest target.count) (is_one_byte target.count) c rule x j) row h
