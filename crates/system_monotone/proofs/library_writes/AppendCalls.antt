-- Calls of `strcat`, in rising rows.
use Rattle.std.specs.Prelude.{◌≡◌, ℕ, ℤ, pos, true, false, Option, Some, is_some, List}
use Rattle.std.proofs.Common.{inr}
use Rattle.cc_base.specs.Lattices.{LatticeOf, OrderLaws}
use Rattle.cc_base.specs.IntegerDomains.{IntegersOf, BoundLaws, RangeLaws}
use Rattle.cc_base.specs.IntegerLaws.{MonotoneLaws}
use Rattle.cc_base.specs.NumberRanges.{Range}
use Rattle.c_layout.specs.declared.library_functions.LibFn.TheVariants as f
use Rattle.cfg.specs.declared.programs.Flow.{Flow}
use Rattle.pointer_domain.specs.declared.base_sets.Bases.{Bases}
use Rattle.pointer_domain.specs.declared.pointer_sets.Pointers.{Pointers}
use Rattle.pointer_domain.specs.PointerTables.{offsets, rooms}
use Rattle.value_domain.specs.Strings.FirstZeros.{the_end}
use Rattle.value_domain.specs.declared.values.row_cells.Cell.{Cell}
use Rattle.domain_theorems.proofs.values.Moves.{offsets_monotone}
use Rattle.domain_theorems.proofs.values.Parts.{PointersBelow, pointer_parts}
use Rattle.domain_theorems.proofs.values.Ranges.{RangeBelow, range_refl, bounds_monotone}
use Rattle.store_cells.specs.declared.access_windows.Window.{Window}
use Rattle.store_cells.specs.AccessWindows.{window_within}
use Rattle.store_objects.specs.LiveBases.{writable_of}
use Rattle.store_monotone.specs.Operations.TopCells.{top_value}
use Rattle.store_monotone.proofs.operations.AddedRanges.{added_monotone}
use Rattle.store_monotone.proofs.operations.Windows.{within_monotone}
use Rattle.transfer_checks.specs.declared.library_arguments.Argument.{Argument}
use Rattle.transfer_checks.specs.declared.string_scans.Scanned.{Scanned}
use Rattle.transfer_checks.specs.LibraryArguments.{touched_window, cut_by_room}
use Rattle.transfer_library_plans.specs.declared.call_plans.Trail.{Trail}
use Rattle.transfer_library.specs.declared.memory_calls.Target.{Target}
use Rattle.transfer_library_writes.specs.declared.source_bytes.Characters.{Characters}
use Rattle.transfer_library_writes.specs.declared.text_writes.ZeroRule.{ZeroRule}
use Rattle.transfer_library_writes.specs.declared.text_writes.ZeroRule.TheVariants as zero
use Rattle.transfer_library_plans.specs.Calls.{Call}
use Rattle.transfer_library_plans.specs.Outputs.{argument_at, scan_at, scanned_trail}
use Rattle.transfer_library.specs.MemoryCalls.{room_trail, target_of}
use Rattle.transfer_library.specs.StringCalls.{one_more, append_start, append_window, appended, append_effect, source_characters, two_given, strcat_need, plan_strcat}
use Rattle.transfer_library.specs.Planning.{plan_call}
use Rattle.transfer_system.specs.CallSteps.{call_of, call_step}
use Rattle.transfer_monotone.specs.Edges.CallLaws.{CallRises}
use Rattle.transfer_monotone.specs.Values.LaidOut.{IsLaidOut}
use Rattle.transfer_monotone.specs.Values.StepLaws.{FlowRows}
use Rattle.transfer_monotone.proofs.library.Trails.{TrailsBelow}
use Rattle.transfer_monotone.proofs.library.StringResults.{scanned_more}
use Rattle.system_monotone.specs.LibraryWrites.TextOrder.{StartsBelow}
use Rattle.system_monotone.proofs.library_writes.TextEnds.{counts_in}
use Rattle.system_monotone.proofs.library_writes.TextCalls.{EffectsRise, effect_left}
use Rattle.system_monotone.proofs.library_writes.WriteTargets.{TargetsRise, touched_rises}
use Rattle.system_monotone.proofs.library_writes.AppendWindows.{behind_more, append_first}
use Rattle.system_monotone.proofs.library_writes.TextLengths.{least_added, cut_in, cut_some, added_some, byte_surely, more_least, one_more_monotone, appended_count, appended_rises}
use Rattle.system_monotone.proofs.library_writes.TextFills.{effect_fills, planned_fills}
use Rattle.system_monotone.proofs.library_writes.CallTargets.{some_of_window, within_same, touched_same, targets, counted, small_own, small_written, planned_left}
use Rattle.system_monotone.proofs.library_writes.Sources.{rooms_in, string_at, scans_more, string_more, two_below, source_more}

module _ {I : Type 0} {l : LatticeOf I} {n : IntegersOf I} {stands : I → ℤ → Type 0} (o : OrderLaws l) (b : BoundLaws l n stands) (g : MonotoneLaws l n) (r : RangeLaws l n) (all : Bases) (flow : Flow) (k : IsLaidOut all flow) where
  module _ (arguments : List ℕ) (wanted : Option ℕ) where
    abbrev call : Call
    call = call_of flow arguments wanted

    abbrev given : List (Cell I) → ℕ → Argument I
    given row at = argument_at l n call row at

    abbrev found : List (Cell I) → ℕ → Scanned I
    found row at = scan_at l n call row (given row at)

    -- the pointers to a text that is there
    abbrev place : List (Cell I) → Pointers I
    place row = string_at o b g r all flow k arguments wanted row 0

    abbrev need : List (Cell I) → Range
    need row = strcat_need n (found row 0) (found row 1)

    abbrev trail : List (Cell I) → Trail
    trail row = scanned_trail (scanned_trail (two_given (given row 0) (given row 1)) (found row 0)) (found row 1)

    abbrev count : List (Cell I) → Range
    count row = cut_by_room n (need row) (place row)

    abbrev target : List (Cell I) → Target I
    target row = target_of l n call (room_trail n (trail row) (place row) (need row)) (place row) (count row)

    abbrev length : List (Cell I) → I
    length row = appended l n (found row 0).length (found row 1).length (count row)

    abbrev characters : List (Cell I) → Characters I
    characters row = source_characters l n call row (string_at o b g r all flow k arguments wanted row 1) (one_more n (length row))

    abbrev rule : List (Cell I) → ZeroRule I
    rule row = zero.Append (length row) (found row 0).unknown

    abbrev starts : List (Cell I) → Range
    starts row = append_start n (target row).rest (found row 0).length

    abbrev bytes : List (Cell I) → Option Window
    bytes row = append_window n (target row).rest (found row 0).length (count row)

    module _ (p q : List (Cell I)) (h : FlowRows l n all flow p q) where
      found_less : (at : ℕ) → l.leq (found p at).length (found q at).length ≡ true
      found_less at = (scans_more o b g r all flow k arguments wanted p q h at).length

      large_length : (at : ℕ) → l.leq (found q at).length (n.between (pos 0) the_end) ≡ true
      large_length at = (scans_more o b g r all flow k arguments wanted p q h at).from

      small_length : (at : ℕ) → l.leq (found p at).length (n.between (pos 0) the_end) ≡ true
      small_length at = o.transitive (found p at).length (found q at).length (n.between (pos 0) the_end) (found_less at) (large_length at)

      need_more : RangeBelow (need p) (need q)
      need_more = added_monotone (n.bounds (found p 0).length) (one_more n (found p 1).length) (n.bounds (found q 0).length) (one_more n (found q 1).length) (bounds_monotone b (found p 0).length (found q 0).length (found_less 0)) (one_more_monotone o b (found p 1).length (found q 1).length (found_less 1))

      trail_more : TrailsBelow (trail p) (trail q)
      trail_more = scanned_more o b g r all flow k arguments wanted p q h _ _ (scanned_more o b g r all flow k arguments wanted p q h _ _ (two_below o b g r all flow k arguments wanted p q h) 0) 1

      both : TargetsRise l n all (target p) (target q)
      both = targets o b g r all flow k arguments wanted (trail p) (trail q) trail_more (place p) (place q) (string_more o b g r all flow k arguments wanted p q h 0) (need p) (need q) need_more

      own : PointersBelow l (target p).rest (top_value n all).pointer
      own = small_own o b g r all flow k arguments wanted (trail p) (trail q) trail_more (place p) (place q) (string_more o b g r all flow k arguments wanted p q h 0) (need p) (need q) need_more

      count_in : RangeBelow (count p) (Some (pos 1, the_end))
      count_in = cut_in (need p) (rooms n (place p)) (least_added (n.bounds (found p 0).length) (one_more n (found p 1).length) (counts_in o b (found p 0).length (small_length 0)) (more_least o b (found p 1).length (small_length 1))) (rooms_in n (place p))

      starts_more : RangeBelow (starts p) (starts q)
      starts_more = added_monotone (offsets n (target p).rest) (n.bounds (found p 0).length) (offsets n (target q).rest) (n.bounds (found q 0).length) (offsets_monotone o b (target p).rest (target q).rest (pointer_parts l (target p).rest (target q).rest both.rest.below)) (bounds_monotone b (found p 0).length (found q 0).length (found_less 0))

      module _ (some : is_some (count p) ≡ true) where
        there_some : is_some (n.bounds (found p 0).length) ≡ true
        there_some = added_some (n.bounds (found p 0).length) (one_more n (found p 1).length) (cut_some (need p) (rooms n (place p)) some)

        length_more : l.leq (length p) (length q) ≡ true
        length_more = appended_rises o b (found p 0).length (found q 0).length (found p 1).length (found q 1).length (count p) (count q) there_some (found_less 0) (found_less 1) some both.count

        begins : (start window : Window) → window_within (starts p) ≡ Some start → bytes p ≡ Some window → StartsBelow (writable_of flow.bases.items (target p).rest.bases) start window false false
        begins start window is_start is_window = record {
          some = small_written o b g r all flow k arguments wanted (trail p) (trail q) trail_more (place p) (place q) (string_more o b g r all flow k arguments wanted p q h 0) (need p) (need q) need_more (byte_surely (count p) count_in some)
              (added_some (offsets n (target p).rest) (n.bounds (found p 0).length) (some_of_window (starts p) start is_start));
          first = append_first o b all (target p).rest own (found p 0).length (counts_in o b (found p 0).length (small_length 0)) (count p) start window is_start is_window;
          narrow = λ e. e;
          single = λ e. absurd (cc);
        }

        append_rises : EffectsRise o b g r all flow k (target p) (target q) (window_within (starts p)) (bytes p) (window_within (starts q)) (bytes q) false false (characters p) (characters q) (rule p) (rule q)
        append_rises = record {
          rest = both.rest;
          count = both.count;
          counted = some;
          start = within_monotone (starts p) (starts q) starts_more;
          window = behind_more (touched_window n (target p).rest (count p)) (touched_window n (target q).rest (count q)) (touched_rises o b all (target p).rest (target q).rest both.rest (count p) (count q) both.count) (starts p) (starts q) starts_more;
          larger_start = within_same (starts q);
          larger_window = behind_more (touched_window n (target q).rest (count q)) (touched_window n (target q).rest (count q)) (touched_same n (target q).rest (count q)) (starts q) (starts q) (range_refl (starts q));
          characters = source_more o b g r all flow k arguments wanted p q h (string_at o b g r all flow k arguments wanted p 1) (string_at o b g r all flow k arguments wanted q 1) (string_more o b g r all flow k arguments wanted p q h 1) (one_more n (length p)) (one_more n (length q)) (one_more_monotone o b (length p) (length q) length_more);
          zero = (length_more, (scans_more o b g r all flow k arguments wanted p q h 0).unknown);
          length = appended_count o b (found p 0).length (found p 1).length (count p) (small_length 1);
          larger_length = appended_count o b (found q 0).length (found q 1).length (count q) (large_length 1);
          begins = inr (record { byte = byte_surely (count p) count_in some; begins = λ start window is_start is_window. begins start window is_start is_window });
        }

  pub strcat_rises : CallRises l n all flow f.Strcat
  unfolding call_step plan_call plan_strcat
  strcat_rises = record {
    step = λ to arguments newest wanted site p q h. planned_left o b g r all flow k to newest p q (target arguments wanted p).trail (target arguments wanted q).trail (both arguments wanted p q h).trail _ _
        (λ on. effect_left o b g r all flow k (target arguments wanted p) (target arguments wanted q) false false (characters arguments wanted p) (characters arguments wanted q) (rule arguments wanted p) (rule arguments wanted q) arguments wanted to newest p q h _ _ _ _
        (append_rises arguments wanted p q h (counted o b g r all flow k arguments wanted (trail arguments wanted p) (trail arguments wanted q) (trail_more arguments wanted p q h) (place arguments wanted p) (place arguments wanted q) (string_more o b g r all flow k arguments wanted p q h 0) (need arguments wanted p) (need arguments wanted q) (need_more arguments wanted p q h) on)));
    checks = λ arguments wanted p q h. (both arguments wanted p q h).trail.checks;
    fills = λ to arguments newest wanted p h. planned_fills o b g r all flow k to newest (target arguments wanted p).trail (append_effect l n (call arguments wanted) (target arguments wanted p) (found arguments wanted p 0) (characters arguments wanted p) (length arguments wanted p))
        (λ x j. effect_fills o b g r all flow k to newest arguments wanted (target arguments wanted p) (window_within (starts arguments wanted p)) (bytes arguments wanted p) false (characters arguments wanted p) (rule arguments wanted p) x j) p h;
  }
