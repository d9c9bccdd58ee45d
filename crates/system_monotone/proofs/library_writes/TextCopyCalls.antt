-- Calls of `strcpy` and `strncpy`, in rising rows.
use Rattle.std.specs.Prelude.{◌≡◌, ℕ, ℤ, pos, Bool, true, not, Option, Some, is_some, List, refl}
use Rattle.std.proofs.Common.{inl, inr}
use Rattle.cc_base.specs.Lattices.{LatticeOf, OrderLaws}
use Rattle.cc_base.specs.IntegerDomains.{IntegersOf, BoundLaws, RangeLaws}
use Rattle.cc_base.specs.IntegerLaws.{MonotoneLaws}
use Rattle.cc_base.specs.NumberRanges.{Range}
use Rattle.c_layout.specs.declared.library_functions.LibFn.TheVariants as f
use Rattle.cfg.specs.declared.programs.Flow.{Flow}
use Rattle.pointer_domain.specs.declared.base_sets.Bases.{Bases}
use Rattle.pointer_domain.specs.BaseSets.{bases_empty}
use Rattle.pointer_domain.specs.PointerTables.{rooms}
use Rattle.value_domain.specs.Strings.FirstZeros.{the_end}
use Rattle.value_domain.specs.declared.values.values.Value as values
use Rattle.value_domain.specs.declared.values.row_cells.Cell.{Cell}
use Rattle.value_domain.specs.Values.LabelSets.{is_unlabelled}
use Rattle.domain_theorems.proofs.values.Bases.{empty_below}
use Rattle.domain_theorems.proofs.values.Flags.{Sets, or_sets, and_sets, not_sets}
use Rattle.domain_theorems.proofs.values.Parts.{pointer_parts}
use Rattle.domain_theorems.proofs.values.Ranges.{RangeBelow, bounds_monotone}
use Rattle.store_monotone.specs.Operations.TopRows.{top_row}
use Rattle.store_monotone.proofs.operations.Together.{each}
use Rattle.transfer_checks.specs.declared.library_arguments.Argument.{Argument}
use Rattle.transfer_checks.specs.declared.string_scans.Scanned.{Scanned}
use Rattle.transfer_checks.specs.IntegerChecks.{sink_violations}
use Rattle.transfer_checks.specs.LibraryArguments.{passes_room, cut_by_room, touched_window}
use Rattle.transfer_library_plans.specs.declared.call_plans.Trail.{Trail}
use Rattle.transfer_library.specs.declared.memory_calls.Target.{Target}
use Rattle.transfer_library_writes.specs.declared.source_bytes.Characters.{Characters}
use Rattle.transfer_library_writes.specs.declared.text_writes.ZeroRule.{ZeroRule}
use Rattle.transfer_library_writes.specs.declared.text_writes.ZeroRule.TheVariants as zero
use Rattle.transfer_library_plans.specs.Calls.{Call}
use Rattle.transfer_library_plans.specs.Arguments.{argument_value, string_violations}
use Rattle.transfer_library_plans.specs.Outputs.{argument_at, scan_at, scanned_trail}
use Rattle.transfer_library.specs.MemoryCalls.{both_given, room_trail, target_of}
use Rattle.transfer_library.specs.StringCalls.{one_more, one_less, source_characters, two_given, reads_no_string, strncpy_trail, plan_strcpy, plan_strncpy}
use Rattle.transfer_library.specs.Planning.{plan_call}
use Rattle.transfer_system.specs.CallSteps.{call_of, call_step}
use Rattle.transfer_monotone.proofs.edges.MemorySteps.{row_near}
use Rattle.transfer_monotone.specs.Edges.CallLaws.{CallRises}
use Rattle.transfer_monotone.specs.Values.RisingRows.{ValuesRise}
use Rattle.transfer_monotone.specs.Values.LaidOut.{IsLaidOut}
use Rattle.transfer_monotone.specs.Values.StepLaws.{FlowRows}
use Rattle.transfer_monotone.proofs.values.IntegerChecks.{labelled_more}
use Rattle.transfer_monotone.proofs.values.Results.{num_rises, labels_rise}
use Rattle.transfer_monotone.proofs.values.ViolationOrder.{sinks_below, strings_below}
use Rattle.transfer_monotone.proofs.library.ResultCalls.{argument_rises}
use Rattle.transfer_monotone.proofs.library.Trails.{TrailsBelow, start_below, checked_below}
use Rattle.transfer_monotone.proofs.library.Scans.{rooms_monotone}
use Rattle.transfer_monotone.proofs.library.StringResults.{given_more, scanned_more}
use Rattle.system_monotone.proofs.library_writes.SourceBytes.{blank_in_more}
use Rattle.system_monotone.proofs.library_writes.WriteTargets.{above_more, cut_rises, touched_rises}
use Rattle.system_monotone.proofs.library_writes.TextLengths.{cut_in, byte_surely, more_least, one_more_monotone, less_count, less_rises}
use Rattle.system_monotone.proofs.library_writes.CallTargets.{targets}
use Rattle.system_monotone.proofs.library_writes.TextStarts.{TextsReady, first_left, first_fills}
use Rattle.system_monotone.proofs.library_writes.Sources.{rooms_in, string_at, rest_more, scans_more, string_more, two_below, source_more}

module _ {I : Type 0} {l : LatticeOf I} {n : IntegersOf I} {stands : I → ℤ → Type 0} (o : OrderLaws l) (b : BoundLaws l n stands) (g : MonotoneLaws l n) (r : RangeLaws l n) (all : Bases) (flow : Flow) (k : IsLaidOut all flow) where
  module _ (arguments : List ℕ) (wanted : Option ℕ) where
    abbrev call : Call
    call = call_of flow arguments wanted

    abbrev given : List (Cell I) → ℕ → Argument I
    given row at = argument_at l n call row at

    abbrev found : List (Cell I) → Scanned I
    found row = scan_at l n call row (given row 1)

    -- ---- strcpy

    abbrev need : List (Cell I) → Range
    need row = one_more n (found row).length

    abbrev count : List (Cell I) → Range
    count row = cut_by_room n (need row) (given row 0).rest

    abbrev trail : List (Cell I) → Trail
    trail row = scanned_trail (two_given (given row 0) (given row 1)) (found row)

    abbrev target : List (Cell I) → Target I
    target row = target_of l n call (room_trail n (trail row) (given row 0).rest (need row)) (given row 0).rest (count row)

    abbrev characters : List (Cell I) → Characters I
    characters row = source_characters l n call row (string_at o b g r all flow k arguments wanted row 1) (count row)

    abbrev rule : List (Cell I) → ZeroRule I
    rule row = zero.Text (one_less l n (count row))

    -- ---- strncpy

    abbrev size : List (Cell I) → values.Value I
    size row = argument_value l n call row 2

    abbrev part : List (Cell I) → Range
    part row = cut_by_room n (n.bounds (size row).num) (given row 0).rest

    abbrev part_trail : List (Cell I) → Trail
    part_trail row = strncpy_trail l n call row (size row) (given row 0) (given row 1) (found row)

    abbrev part_target : List (Cell I) → Target I
    part_target row = target_of l n call (room_trail n (part_trail row) (given row 0).rest (n.bounds (size row).num)) (given row 0).rest (part row)

    abbrev part_characters : List (Cell I) → Characters I
    part_characters row = source_characters l n call row (given row 1).rest (part row)

    module _ (p q : List (Cell I)) (h : FlowRows l n all flow p q) where
      need_more : RangeBelow (need p) (need q)
      need_more = one_more_monotone o b (found p).length (found q).length (scans_more o b g r all flow k arguments wanted p q h 1).length

      count_more : RangeBelow (count p) (count q)
      count_more = cut_rises o b all (given p 0).rest (given q 0).rest (rest_more o b g r all flow k arguments wanted p q h 0) (need p) (need q) need_more

      trail_more : TrailsBelow (trail p) (trail q)
      trail_more = scanned_more o b g r all flow k arguments wanted p q h _ _ (two_below o b g r all flow k arguments wanted p q h) 1

      large_count : RangeBelow (count q) (Some (pos 1, the_end))
      large_count = cut_in (need q) (rooms n (given q 0).rest) (more_least o b (found q).length (scans_more o b g r all flow k arguments wanted p q h 1).from) (rooms_in n (given q 0).rest)

      small_count : RangeBelow (count p) (Some (pos 1, the_end))
      small_count = let j = scans_more o b g r all flow k arguments wanted p q h 1 in
          cut_in (need p) (rooms n (given p 0).rest) (more_least o b (found p).length (o.transitive (found p).length (found q).length (n.between (pos 0) the_end) j.length j.from)) (rooms_in n (given p 0).rest)

      copy_ready : is_some (count p) ≡ true → TextsReady o b g r all flow k arguments wanted (trail p) (trail q) trail_more (given p 0).rest (given q 0).rest (rest_more o b g r all flow k arguments wanted p q h 0) (need p) (need q) need_more (characters p) (characters q) (rule p) (rule q)
      copy_ready some = record {
        characters = source_more o b g r all flow k arguments wanted p q h (string_at o b g r all flow k arguments wanted p 1) (string_at o b g r all flow k arguments wanted q 1) (string_more o b g r all flow k arguments wanted p q h 1) (count p) (count q) count_more;
        zero = less_rises o b (count p) (count q) count_more large_count;
        length = less_count o b (count p) small_count;
        larger_length = less_count o b (count q) large_count;
        byte = inr (byte_surely (count p) small_count some);
      }

      -- ---- strncpy

      size_rises : ValuesRise l n all (size p) (size q)
      size_rises = argument_rises o b g r all flow k arguments wanted p q h 2

      size_more : RangeBelow (n.bounds (size p).num) (n.bounds (size q).num)
      size_more = bounds_monotone b (size p).num (size q).num (num_rises o b all size_rises)

      part_more : RangeBelow (part p) (part q)
      part_more = cut_rises o b all (given p 0).rest (given q 0).rest (rest_more o b g r all flow k arguments wanted p q h 0) (n.bounds (size p).num) (n.bounds (size q).num) size_more

      both_below : TrailsBelow (both_given (size p) (given p 0) (given p 1)) (both_given (size q) (given q 0) (given q 1))
      both_below = given_more o b g r all flow k arguments wanted p q h _ _ (given_more o b g r all flow k arguments wanted p q h _ _
          (start_below (sink_violations (size p).labels) (sink_violations (size q).labels) (sinks_below (not (is_unlabelled (size p).labels)) (not (is_unlabelled (size q).labels)) (labelled_more (size p).labels (size q).labels (labels_rise o b all size_rises)))) 0) 1

      -- a source that is no string
      no_string : List (Cell I) → Bool
      no_string row = reads_no_string l n call row (given row 1).rest (found row).unknown (n.bounds (size row).num)

      reads_more : Sets (no_string p) (no_string q)
      unfolding no_string
      reads_more =
          let j = scans_more o b g r all flow k arguments wanted p q h 1 in
          let i = rest_more o b g r all flow k arguments wanted p q h 1 in
          and_sets (not (bases_empty (found p).unknown)) _ (not (bases_empty (found q).unknown)) _ (not_sets (bases_empty (found p).unknown) (bases_empty (found q).unknown) (empty_below (found p).unknown (found q).unknown j.unknown))
          (or_sets (passes_room n (n.bounds (size p).num) (given p 1).rest) _ (passes_room n (n.bounds (size q).num) (given q 1).rest) _
          (above_more (n.bounds (size p).num) (rooms n (given p 1).rest) (n.bounds (size q).num) (rooms n (given q 1).rest) size_more (rooms_monotone o b all (given p 1).rest (given q 1).rest (pointer_parts l (given p 1).rest (given q 1).rest i.below)))
          (blank_in_more o b r g flow.model all (top_row n all flow.bases.items flow.temps) p q h.below flow.bases.items (each o b flow.model flow.bases.items k.layout all flow.temps (row_near o b g r all flow k))
          (found p).unknown (found q).unknown j.unknown (touched_window n (given p 1).rest (n.bounds (size p).num)) (touched_window n (given q 1).rest (n.bounds (size q).num)) (touched_rises o b all (given p 1).rest (given q 1).rest i (n.bounds (size p).num) (n.bounds (size q).num) size_more)))

      part_below : TrailsBelow (part_trail p) (part_trail q)
      unfolding no_string
      part_below = checked_below (both_given (size p) (given p 0) (given p 1)) (both_given (size q) (given q 0) (given q 1)) both_below (string_violations (no_string p)) (string_violations (no_string q)) (strings_below (no_string p) (no_string q) reads_more) true true (λ e. e)

      part_ready : is_some (part p) ≡ true → TextsReady o b g r all flow k arguments wanted (part_trail p) (part_trail q) part_below (given p 0).rest (given q 0).rest (rest_more o b g r all flow k arguments wanted p q h 0) (n.bounds (size p).num) (n.bounds (size q).num) size_more (part_characters p) (part_characters q) zero.Any zero.Any
      part_ready some = record {
        characters = source_more o b g r all flow k arguments wanted p q h (given p 1).rest (given q 1).rest (rest_more o b g r all flow k arguments wanted p q h 1) (part p) (part q) part_more;
        zero = tt;
        length = tt;
        larger_length = tt;
        byte = inl refl;
      }

  pub strcpy_rises : CallRises l n all flow f.Strcpy
  unfolding call_step plan_call plan_strcpy
  strcpy_rises = record {
    step = λ to arguments newest wanted site p q h. first_left o b g r all flow k arguments wanted (trail arguments wanted p) (trail arguments wanted q) (trail_more arguments wanted p q h) (given arguments wanted p 0).rest (given arguments wanted q 0).rest (rest_more o b g r all flow k arguments wanted p q h 0)
        (need arguments wanted p) (need arguments wanted q) (need_more arguments wanted p q h) (characters arguments wanted p) (characters arguments wanted q) (rule arguments wanted p) (rule arguments wanted q) (copy_ready arguments wanted p q h) to newest p q h;
    checks = λ arguments wanted p q h. (targets o b g r all flow k arguments wanted (trail arguments wanted p) (trail arguments wanted q) (trail_more arguments wanted p q h) (given arguments wanted p 0).rest (given arguments wanted q 0).rest (rest_more o b g r all flow k arguments wanted p q h 0)
        (need arguments wanted p) (need arguments wanted q) (need_more arguments wanted p q h)).trail.checks;
    fills = λ to arguments newest wanted p h. first_fills o b g r all flow k arguments wanted (target arguments wanted p) (characters arguments wanted p) (rule arguments wanted p) to newest p h;
  }

  pub strncpy_rises : CallRises l n all flow f.Strncpy
  unfolding call_step plan_call plan_strncpy
  strncpy_rises = record {
    step = λ to arguments newest wanted site p q h. first_left o b g r all flow k arguments wanted (part_trail arguments wanted p) (part_trail arguments wanted q) (part_below arguments wanted p q h) (given arguments wanted p 0).rest (given arguments wanted q 0).rest (rest_more o b g r all flow k arguments wanted p q h 0)
        (n.bounds (size arguments wanted p).num) (n.bounds (size arguments wanted q).num) (size_more arguments wanted p q h) (part_characters arguments wanted p) (part_characters arguments wanted q) zero.Any zero.Any (part_ready arguments wanted p q h) to newest p q h;
    checks = λ arguments wanted p q h. (targets o b g r all flow k arguments wanted (part_trail arguments wanted p) (part_trail arguments wanted q) (part_below arguments wanted p q h) (given arguments wanted p 0).rest (given arguments wanted q 0).rest (rest_more o b g r all flow k arguments wanted p q h 0)
        (n.bounds (size arguments wanted p).num) (n.bounds (size arguments wanted q).num) (size_more arguments wanted p q h)).trail.checks;
    fills = λ to arguments newest wanted p h. first_fills o b g r all flow k arguments wanted (part_target arguments wanted p) (part_characters arguments wanted p) zero.Any to newest p h;
  }
