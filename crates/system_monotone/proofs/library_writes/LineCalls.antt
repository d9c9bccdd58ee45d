-- Calls of `fgets`, in rising rows.
use Rattle.std.specs.Prelude.{◌≡◌, ℕ, ◌^◌, ◌-◌, ℤ, pos, Bool, true, false, not, Some, None, is_some, List, [], ◌∷◌}
use Rattle.std.proofs.Common.{inr}
use lib.Signed.{≤ℤ_refl}
use Rattle.cc_base.specs.Lattices.{LatticeOf, OrderLaws}
use Rattle.cc_base.specs.IntegerDomains.{IntegersOf, BoundLaws, RangeLaws, between_or_least}
use Rattle.cc_base.specs.IntegerLaws.{MonotoneLaws}
use Rattle.cc_base.specs.IntegerTypes.{least_of, greatest_of}
use Rattle.cc_base.specs.NumberRanges.{Range}
use Rattle.c_layout.specs.declared.leaf_lists.Class.TheVariants.{Char}
use Rattle.cfg.specs.declared.programs.Flow.{Flow}
use Rattle.pointer_domain.specs.declared.base_sets.Bases.{Bases}
use Rattle.pointer_domain.specs.PointerTables.{rooms}
use Rattle.value_domain.specs.Strings.FirstZeros.{the_end}
use Rattle.value_domain.specs.declared.values.values.Value as values
use Rattle.value_domain.specs.declared.values.row_cells.Cell.{Cell}
use Rattle.value_domain.specs.Values.LabelSets.{is_unlabelled, labels_order}
use Rattle.domain_theorems.proofs.values.Ranges.{RangeBelow, met_monotone, bounds_monotone}
use Rattle.store_cells.specs.ScalarTypes.{kind_of}
use Rattle.store_monotone.specs.Operations.TopCells.{top_number}
use Rattle.store_monotone.proofs.operations.CellReads.{size_is}
use Rattle.transfer_checks.specs.declared.library_arguments.Argument.{Argument}
use Rattle.transfer_checks.specs.IntegerChecks.{sink_violations}
use Rattle.transfer_checks.specs.LibraryArguments.{cut_by_room}
use Rattle.transfer_checks.specs.ViolationSets.{no_violations}
use Rattle.transfer_library_plans.specs.declared.call_plans.Trail.{Trail}
use Rattle.transfer_library.specs.declared.memory_calls.Target.{Target}
use Rattle.transfer_library_writes.specs.declared.text_writes.ZeroRule.{ZeroRule}
use Rattle.transfer_library_plans.specs.Plans.{trail_of}
use Rattle.transfer_library_plans.specs.Calls.{Call}
use Rattle.transfer_library_plans.specs.Arguments.{argument_value}
use Rattle.transfer_library_plans.specs.Outputs.{argument_at, given_trail}
use Rattle.transfer_library.specs.MemoryCalls.{room_trail, target_of}
use Rattle.transfer_library.specs.StringCalls.{input_characters, line_count, line_trail, line_rule, plan_fgets}
use Rattle.transfer_system.specs.CallSteps.{line_call, write_line}
use Rattle.transfer_monotone.specs.Edges.CallLaws.{LineRises}
use Rattle.transfer_monotone.specs.Values.RisingRows.{ValuesRise}
use Rattle.transfer_monotone.specs.Values.LaidOut.{IsLaidOut}
use Rattle.transfer_monotone.specs.Values.StepLaws.{FlowRows}
use Rattle.transfer_monotone.proofs.values.IntegerChecks.{some_more, labelled_more}
use Rattle.transfer_monotone.proofs.values.IntegerSteps.{near_ends}
use Rattle.transfer_monotone.proofs.values.Results.{num_rises, labels_rise}
use Rattle.transfer_monotone.proofs.values.Touches.{range_near}
use Rattle.transfer_monotone.proofs.values.ViolationOrder.{same_below, sinks_below}
use Rattle.transfer_monotone.proofs.library.ResultCalls.{argument_rises}
use Rattle.transfer_monotone.proofs.library.Trails.{TrailsBelow, start_below, checked_below}
use Rattle.transfer_monotone.proofs.library.StringResults.{given_more}
use Rattle.system_monotone.specs.LibraryWrites.TextOrder.{CharactersBelow}
use Rattle.system_monotone.proofs.library_writes.WriteTargets.{cut_rises}
use Rattle.system_monotone.proofs.library_writes.TextLengths.{cut_in, met_least, byte_surely, line_count_in, line_rises}
use Rattle.system_monotone.proofs.library_writes.CallTargets.{targets}
use Rattle.system_monotone.proofs.library_writes.TextStarts.{TextsReady, first_left, first_on, first_fills}
use Rattle.system_monotone.proofs.library_writes.Sources.{rooms_in, rest_more}

module _ {I : Type 0} {l : LatticeOf I} {n : IntegersOf I} {stands : I → ℤ → Type 0} (o : OrderLaws l) (b : BoundLaws l n stands) (g : MonotoneLaws l n) (r : RangeLaws l n) (all : Bases) (flow : Flow) (k : IsLaidOut all flow) where
  -- characters of input are numbers of their type
  input_near : (signed : Bool) → l.leq (between_or_least l n (least_of (kind_of flow.model Char signed)) (greatest_of (kind_of flow.model Char signed))) (top_number n) ≡ true
  input_near signed = let e = near_ends (kind_of flow.model Char signed) (size_is flow.model Char) in range_near o b all (Some (least_of (kind_of flow.model Char signed), greatest_of (kind_of flow.model Char signed))) (e.0, e.1)

  input_same : CharactersBelow l n (input_characters l n flow.model) (input_characters l n flow.model)
  input_same = record {
    signed = o.reflexive (input_characters l n flow.model).signed;
    unsigned = o.reflexive (input_characters l n flow.model).unsigned;
    labels = labels_order.reflexive (input_characters l n flow.model).labels;
    signed_top = input_near true;
    unsigned_top = input_near false;
  }

  module _ (line count stream : ℕ) where
    abbrev arguments : List ℕ
    arguments = line ∷ (count ∷ (stream ∷ []))

    abbrev call : Call
    call = line_call flow line count stream

    abbrev given : List (Cell I) → Argument I
    given row = argument_at l n call row 0

    abbrev size : List (Cell I) → values.Value I
    size row = argument_value l n call row 1

    abbrev need : List (Cell I) → Range
    need row = line_count n (size row)

    abbrev room : List (Cell I) → Range
    room row = cut_by_room n (need row) (given row).rest

    abbrev trail : List (Cell I) → Trail
    trail row = line_trail n (size row) (given row)

    abbrev target : List (Cell I) → Target I
    target row = target_of l n call (room_trail n (trail row) (given row).rest (need row)) (given row).rest (room row)

    abbrev rule : List (Cell I) → ZeroRule I
    rule row = line_rule l n (room row)

    room_in : (row : List (Cell I)) → RangeBelow (room row) (Some (pos 1, the_end))
    room_in row = cut_in (need row) (rooms n (given row).rest) (met_least (n.bounds (size row).num) (pos (2 ^ 127 - 1))) (rooms_in n (given row).rest)

    module _ (p q : List (Cell I)) (h : FlowRows l n all flow p q) where
      size_rises : ValuesRise l n all (size p) (size q)
      size_rises = argument_rises o b g r all flow k arguments None p q h 1

      need_more : RangeBelow (need p) (need q)
      need_more = met_monotone (n.bounds (size p).num) (n.bounds (size q).num) (pos 1) (pos (2 ^ 127 - 1)) (pos 1) (pos (2 ^ 127 - 1)) (bounds_monotone b (size p).num (size q).num (num_rises o b all size_rises)) (≤ℤ_refl (pos 1)) (≤ℤ_refl (pos (2 ^ 127 - 1)))

      room_more : RangeBelow (room p) (room q)
      room_more = cut_rises o b all (given p).rest (given q).rest (rest_more o b g r all flow k arguments None p q h 0) (need p) (need q) need_more

      trail_more : TrailsBelow (trail p) (trail q)
      trail_more = checked_below (given_trail (trail_of (sink_violations (size p).labels)) (given p)) (given_trail (trail_of (sink_violations (size q).labels)) (given q))
          (given_more o b g r all flow k arguments None p q h _ _ (start_below (sink_violations (size p).labels) (sink_violations (size q).labels) (sinks_below (not (is_unlabelled (size p).labels)) (not (is_unlabelled (size q).labels)) (labelled_more (size p).labels (size q).labels (labels_rise o b all size_rises)))) 0)
          no_violations no_violations (same_below no_violations) (is_some (need p)) (is_some (need q)) (some_more (need p) (need q) need_more)

      line_ready : is_some (room p) ≡ true → TextsReady o b g r all flow k arguments None (trail p) (trail q) trail_more (given p).rest (given q).rest (rest_more o b g r all flow k arguments None p q h 0) (need p) (need q) need_more (input_characters l n flow.model) (input_characters l n flow.model) (rule p) (rule q)
      line_ready some = record {
        characters = input_same;
        zero = line_rises o b (room p) (room q) some room_more;
        length = line_count_in o b (room p) (room_in p);
        larger_length = line_count_in o b (room q) (room_in q);
        byte = inr (byte_surely (room p) (room_in p) some);
      }

  pub lines_rise : LineRises l n all flow
  unfolding write_line plan_fgets
  lines_rise = record {
    on = λ line count stream p q h. first_on o b g r all flow k (arguments line count stream) None (trail line count stream p) (trail line count stream q) (trail_more line count stream p q h) (given line count stream p).rest (given line count stream q).rest (rest_more o b g r all flow k (arguments line count stream) None p q h 0)
        (need line count stream p) (need line count stream q) (need_more line count stream p q h) (input_characters l n flow.model) (input_characters l n flow.model) (rule line count stream p) (rule line count stream q) (line_ready line count stream p q h);
    checks = λ line count stream p q h. (targets o b g r all flow k (arguments line count stream) None (trail line count stream p) (trail line count stream q) (trail_more line count stream p q h) (given line count stream p).rest (given line count stream q).rest (rest_more o b g r all flow k (arguments line count stream) None p q h 0)
        (need line count stream p) (need line count stream q) (need_more line count stream p q h)).trail.checks;
    step = λ to line count stream p q h. first_left o b g r all flow k (arguments line count stream) None (trail line count stream p) (trail line count stream q) (trail_more line count stream p q h) (given line count stream p).rest (given line count stream q).rest (rest_more o b g r all flow k (arguments line count stream) None p q h 0)
        (need line count stream p) (need line count stream q) (need_more line count stream p q h) (input_characters l n flow.model) (input_characters l n flow.model) (rule line count stream p) (rule line count stream q) (line_ready line count stream p q h) to None p q h;
    fills = λ to line count stream p h. first_fills o b g r all flow k (arguments line count stream) None (target line count stream p) (input_characters l n flow.model) (rule line count stream p) to None p h;
  }
