-- Calls that read strings and give a result alone, in rising rows.
use Rattle.std.specs.Prelude.{◌≡◌, ℕ, zero, suc, ◌^◌, ◌-◌, ℤ, pos, negsuc, ◌≤ℤ◌, Bool, true, false, cond, not, ◌||◌, Option, Some, is_some, List, length, refl}
use Rattle.std.proofs.Common.{arith}
use lib.Signed.{≤ℤ_refl}
use Rattle.std.proofs.lemmas.Int.{ints}
use Rattle.cc_base.specs.Lattices.{LatticeOf, OrderLaws}
use Rattle.cc_base.specs.IntegerDomains.{IntegersOf, BoundLaws, RangeLaws, between_or_least}
use Rattle.cc_base.specs.IntegerLaws.{MonotoneLaws}
use Rattle.cc_base.specs.IntegerTypes.{greatest_of}
use Rattle.c_layout.specs.declared.leaf_lists.Class.TheVariants.{Int, Pointer}
use Rattle.c_layout.specs.declared.library_functions.LibFn.TheVariants as f
use Rattle.cfg.specs.declared.programs.Flow.{Flow}
use Rattle.pointer_domain.specs.declared.base_sets.Bases.{Bases}
use Rattle.pointer_domain.specs.BaseSets.{bases_empty}
use Rattle.value_domain.specs.Strings.FirstZeros.{the_end}
use Rattle.value_domain.specs.declared.values.values.Value as values
use Rattle.value_domain.specs.declared.values.row_cells.Cell.{Cell}
use Rattle.value_domain.specs.Values.LabelSets.{no_labels, labels_order}
use Rattle.value_domain.specs.Values.ValueTables.{number_value}
use Rattle.domain_theorems.proofs.values.Bases.{empty_below}
use Rattle.domain_theorems.proofs.values.Flags.{Sets, or_sets, not_sets}
use Rattle.domain_theorems.proofs.values.Ranges.{met_monotone, bounds_monotone, of_range_monotone}
use Rattle.store_cells.specs.ScalarTypes.{kind_of}
use Rattle.store_monotone.specs.Operations.TopCells.{top_number}
use Rattle.store_monotone.proofs.operations.CellReads.{size_is}
use Rattle.store_monotone.proofs.operations.FirstZeros.{zero_near}
use Rattle.transfer_checks.specs.declared.library_arguments.Argument.{Argument}
use Rattle.transfer_checks.specs.declared.string_scans.Scanned.{Scanned}
use Rattle.transfer_checks.specs.LibraryArguments.{check_argument}
use Rattle.transfer_checks.specs.ViolationSets.{no_violations}
use Rattle.transfer_library_plans.specs.declared.call_plans.Effect.TheVariants as effect
use Rattle.transfer_library_plans.specs.declared.call_plans.Trail.{Trail}
use Rattle.transfer_library_plans.specs.Plans.{trail_of, checked, planned}
use Rattle.transfer_library_plans.specs.Calls.{Call}
use Rattle.transfer_library_plans.specs.Arguments.{argument_value}
use Rattle.transfer_library_plans.specs.Outputs.{argument_at, scan_at, given_trail, scan_violations, scanned_trail, has_number, printed_trail_at, text_trail_at, pointer_trails, scan_trails, printf_trail, length_of, strcmp_trail, plan_puts, plan_printf, plan_strlen, plan_strcmp}
use Rattle.transfer_system.specs.Planning.{plan_call}
use Rattle.transfer_system.specs.CallSteps.{call_of}
use Rattle.transfer_monotone.specs.Edges.CallLaws.{CallRises}
use Rattle.transfer_monotone.specs.Values.RisingRows.{ValuesRise}
use Rattle.transfer_monotone.specs.Values.LaidOut.{IsLaidOut}
use Rattle.transfer_monotone.specs.Values.StepLaws.{FlowRows}
use Rattle.transfer_monotone.proofs.values.IntegerChecks.{some_more}
use Rattle.transfer_monotone.proofs.values.IntegerSteps.{near_ends, one_near}
use Rattle.transfer_monotone.proofs.values.Results.{num_rises, number_rises}
use Rattle.transfer_monotone.proofs.values.Touches.{range_near, met_near}
use Rattle.transfer_monotone.proofs.values.ViolationOrder.{same_below, strings_below}
use Rattle.transfer_monotone.proofs.library.ResultCalls.{IsResult, PlanRises, IsPlanned, planned_call, argument_rises}
use Rattle.transfer_monotone.proofs.library.Trails.{TrailsBelow, start_below, checked_below}
use Rattle.transfer_monotone.proofs.library.GivenPointers.{ArgumentsRise, given_rises, given_below, some_base_more, placed_has}
use Rattle.transfer_monotone.proofs.library.Scans.{ScansBelow, scan_rises}

module _ {I : Type 0} {l : LatticeOf I} {n : IntegersOf I} {stands : I → ℤ → Type 0} (o : OrderLaws l) (b : BoundLaws l n stands) (g : MonotoneLaws l n) (r : RangeLaws l n) (all : Bases) (flow : Flow) (k : IsLaidOut all flow) where
  -- ---- trails

  -- the trail behind a scan
  pub scanned_below : (s t : Trail) → TrailsBelow s t → (x y : Scanned I) → ScansBelow l n all x y → TrailsBelow (scanned_trail s x) (scanned_trail t y)
  scanned_below s t h x y j = checked_below s t h (scan_violations x) (scan_violations y)
      (strings_below (not (bases_empty x.unknown)) (not (bases_empty y.unknown)) (not_sets (bases_empty x.unknown) (bases_empty y.unknown) (empty_below x.unknown y.unknown j.unknown)))
      (not (bases_empty x.bases)) (not (bases_empty y.bases)) (not_sets (bases_empty x.bases) (bases_empty y.bases) (empty_below x.bases y.bases j.bases))

  planned_rises : (s t : Trail) → TrailsBelow s t → (v w : values.Value I) → ValuesRise l n all v w → PlanRises l n all (planned s (effect.Result v)) (planned t (effect.Result w))
  planned_rises s t h v w j = by_way s.goes_on t.goes_on h.on
    where
      by_way : (a c : Bool) → Sets a c → PlanRises l n all (record { violations = s.violations; effect = cond a (effect.Result v) effect.Unreached }) (record { violations = t.violations; effect = cond c (effect.Result w) effect.Unreached })
      by_way true true e = record { checks = h.checks; effect = j }
      by_way true false e = absurd (let z : false ≡ true = e refl in cc)
      by_way false c e = record { checks = h.checks; effect = tt }

  planned_result : (s : Trail) (v : values.Value I) → IsResult l n all (planned s (effect.Result v)).effect
  planned_result s v = by_way s.goes_on
    where
      by_way : (a : Bool) → IsResult l n all (cond a (effect.Result v) effect.Unreached)
      by_way true = tt
      by_way false = tt

  plain_rises : (c d : ℤ) → negsuc (2 ^ 64 - 1) ≤ℤ c → d ≤ℤ pos (2 ^ 64) → ValuesRise l n all (number_value l (between_or_least l n c d) no_labels) (number_value l (between_or_least l n c d) no_labels)
  plain_rises c d h j = number_rises o b all (between_or_least l n c d) (between_or_least l n c d) no_labels no_labels (o.reflexive (between_or_least l n c d)) (range_near o b all (Some (c, d)) (h, j)) (labels_order.reflexive no_labels)

  module _ (arguments : List ℕ) (wanted : Option ℕ) where
    abbrev call : Call
    call = call_of flow arguments wanted

    abbrev given : List (Cell I) → ℕ → Argument I
    given x at = argument_at l n call x at

    abbrev found : List (Cell I) → ℕ → Scanned I
    found x at = scan_at l n call x (given x at)

    module _ (x y : List (Cell I)) (h : FlowRows l n all flow x y) where
      pub argument_more : (at : ℕ) → ArgumentsRise l n all (given x at) (given y at)
      argument_more at = given_rises o b g r all flow k arguments wanted x y h at

      pub found_more : (at : ℕ) → ScansBelow l n all (found x at) (found y at)
      found_more at = scan_rises o b g r all flow k x y h (given x at).rest (given y at).rest (argument_more at).rest (placed_has o b all (check_argument l n flow.bases.items x (argument_value l n call x at).pointer))

      pub given_more : (s t : Trail) → TrailsBelow s t → (at : ℕ) → TrailsBelow (given_trail s (given x at)) (given_trail t (given y at))
      given_more s t j at = given_below o b g r all flow k s t j (given x at) (given y at) (argument_more at)

      pub scanned_more : (s t : Trail) → TrailsBelow s t → (at : ℕ) → TrailsBelow (scanned_trail s (found x at)) (scanned_trail t (found y at))
      scanned_more s t j at = scanned_below s t j (found x at) (found y at) (found_more at)

      pub none_below : TrailsBelow (trail_of no_violations) (trail_of no_violations)
      none_below = start_below no_violations no_violations (same_below no_violations)

      -- the first pointer, whose rule is asked alone
      first_below : TrailsBelow (checked (trail_of (given x 0).violations) no_violations (not (bases_empty (given x 0).rest.bases))) (checked (trail_of (given y 0).violations) no_violations (not (bases_empty (given y 0).rest.bases)))
      first_below = checked_below (trail_of (given x 0).violations) (trail_of (given y 0).violations) (start_below (given x 0).violations (given y 0).violations (argument_more 0).checks) no_violations no_violations (same_below no_violations)
          (not (bases_empty (given x 0).rest.bases)) (not (bases_empty (given y 0).rest.bases)) (some_base_more o b g r all flow k (given x 0).rest (given y 0).rest (argument_more 0).rest)

      -- ---- arguments behind a format

      number_more : (at : ℕ) → Sets (has_number l n call x at) (has_number l n call y at)
      number_more at = some_more (n.bounds (argument_value l n call x at).num) (n.bounds (argument_value l n call y at).num) (bounds_monotone b (argument_value l n call x at).num (argument_value l n call y at).num (num_rises o b all (argument_rises o b g r all flow k arguments wanted x y h at)))

      printed_below : (s t : Trail) → TrailsBelow s t → (at : ℕ) → TrailsBelow (printed_trail_at l n call x at s) (printed_trail_at l n call y at t)
      printed_below s t j at = checked_below s t j (given x at).violations (given y at).violations (argument_more at).checks (has_number l n call x at || not (bases_empty (given x at).rest.bases)) (has_number l n call y at || not (bases_empty (given y at).rest.bases))
          (or_sets (has_number l n call x at) (not (bases_empty (given x at).rest.bases)) (has_number l n call y at) (not (bases_empty (given y at).rest.bases)) (number_more at) (some_base_more o b g r all flow k (given x at).rest (given y at).rest (argument_more at).rest))

      text_below : (s t : Trail) → TrailsBelow s t → (at : ℕ) → TrailsBelow (text_trail_at l n call x at s) (text_trail_at l n call y at t)
      text_below s t j at =
          let c = found_more at in
          checked_below s t j (scan_violations (found x at)) (scan_violations (found y at))
          (strings_below (not (bases_empty (found x at).unknown)) (not (bases_empty (found y at).unknown)) (not_sets (bases_empty (found x at).unknown) (bases_empty (found y at).unknown) (empty_below (found x at).unknown (found y at).unknown c.unknown)))
          (has_number l n call x at || not (bases_empty (found x at).bases)) (has_number l n call y at || not (bases_empty (found y at).bases))
          (or_sets (has_number l n call x at) (not (bases_empty (found x at).bases)) (has_number l n call y at) (not (bases_empty (found y at).bases)) (number_more at) (not_sets (bases_empty (found x at).bases) (bases_empty (found y at).bases) (empty_below (found x at).bases (found y at).bases c.bases)))

      pointers_below : (count : ℕ) (s t : Trail) → TrailsBelow s t → TrailsBelow (pointer_trails l n call x count s) (pointer_trails l n call y count t)
      pointers_below zero s t j = j
      pointers_below (suc count) s t j = printed_below (pointer_trails l n call x count s) (pointer_trails l n call y count t) (pointers_below count s t j) (suc count)

      texts_below : (count : ℕ) (s t : Trail) → TrailsBelow s t → TrailsBelow (scan_trails l n call x count s) (scan_trails l n call y count t)
      texts_below zero s t j = j
      texts_below (suc count) s t j = text_below (scan_trails l n call x count s) (scan_trails l n call y count t) (texts_below count s t j) (suc count)

      format_below : (count : ℕ) → TrailsBelow (printf_trail l n call x count) (printf_trail l n call y count)
      format_below count = texts_below count (pointer_trails l n call x count (given_trail (trail_of no_violations) (given x 0))) (pointer_trails l n call y count (given_trail (trail_of no_violations) (given y 0)))
          (pointers_below count (given_trail (trail_of no_violations) (given x 0)) (given_trail (trail_of no_violations) (given y 0)) (given_more (trail_of no_violations) (trail_of no_violations) none_below 0))

      -- ---- lengths

      length_more : l.leq (length_of l n flow.model (found x 0)) (length_of l n flow.model (found y 0)) ≡ true
      length_more = of_range_monotone o b _ _ (met_monotone (n.bounds (found x 0).length) (n.bounds (found y 0).length) (pos 0) (greatest_of (kind_of flow.model Pointer false)) (pos 0) (greatest_of (kind_of flow.model Pointer false)) (bounds_monotone b (found x 0).length (found y 0).length (found_more 0).length) (≤ℤ_refl (pos 0)) (≤ℤ_refl (greatest_of (kind_of flow.model Pointer false))))

      length_near : l.leq (length_of l n flow.model (found y 0)) (top_number n) ≡ true
      length_near = met_near o b all (found y 0).length (o.transitive (found y 0).length (n.between (pos 0) the_end) (top_number n) (found_more 0).from (zero_near o b)) (pos 0) (greatest_of (kind_of flow.model Pointer false))

      strlen_below : TrailsBelow
          (checked (checked (trail_of (given x 0).violations) no_violations (not (bases_empty (given x 0).rest.bases))) (scan_violations (found x 0)) (is_some (n.bounds (length_of l n flow.model (found x 0)))))
          (checked (checked (trail_of (given y 0).violations) no_violations (not (bases_empty (given y 0).rest.bases))) (scan_violations (found y 0)) (is_some (n.bounds (length_of l n flow.model (found y 0)))))
      strlen_below = checked_below (checked (trail_of (given x 0).violations) no_violations (not (bases_empty (given x 0).rest.bases))) (checked (trail_of (given y 0).violations) no_violations (not (bases_empty (given y 0).rest.bases))) first_below (scan_violations (found x 0)) (scan_violations (found y 0))
          (strings_below (not (bases_empty (found x 0).unknown)) (not (bases_empty (found y 0).unknown)) (not_sets (bases_empty (found x 0).unknown) (bases_empty (found y 0).unknown) (empty_below (found x 0).unknown (found y 0).unknown (found_more 0).unknown)))
          (is_some (n.bounds (length_of l n flow.model (found x 0)))) (is_some (n.bounds (length_of l n flow.model (found y 0)))) (some_more (n.bounds (length_of l n flow.model (found x 0))) (n.bounds (length_of l n flow.model (found y 0))) (bounds_monotone b (length_of l n flow.model (found x 0)) (length_of l n flow.model (found y 0)) length_more))

      -- ---- comparison

      strcmp_below : TrailsBelow (strcmp_trail l n call x (given x 0) (given x 1)) (strcmp_trail l n call y (given y 0) (given y 1))
      strcmp_below = scanned_more _ _ (scanned_more _ _ (given_more _ _ first_below 1) 0) 1

  -- ---- the calls

  strlen_planned : IsPlanned o b g r all flow k f.Strlen
  unfolding plan_call plan_strlen
  strlen_planned = record {
    rises = λ arguments wanted x y h. planned_rises _ _ (strlen_below arguments wanted x y h) _ _ (number_rises o b all (length_of l n flow.model (found arguments wanted x 0)) (length_of l n flow.model (found arguments wanted y 0)) no_labels no_labels (length_more arguments wanted x y h) (length_near arguments wanted x y h) (labels_order.reflexive no_labels));
    results = λ arguments wanted x. planned_result (checked (checked (trail_of (given arguments wanted x 0).violations) no_violations (not (bases_empty (given arguments wanted x 0).rest.bases))) (scan_violations (found arguments wanted x 0)) (is_some (n.bounds (length_of l n flow.model (found arguments wanted x 0)))))
        (number_value l (length_of l n flow.model (found arguments wanted x 0)) no_labels);
  }

  strcmp_planned : IsPlanned o b g r all flow k f.Strcmp
  unfolding plan_call plan_strcmp
  strcmp_planned = record {
    rises = λ arguments wanted x y h. planned_rises _ _ (strcmp_below arguments wanted x y h) _ _ (plain_rises (negsuc 0) (pos 1) (omega (arith, ints)) (omega (arith, ints)));
    results = λ arguments wanted x. planned_result (strcmp_trail l n (call arguments wanted) x (given arguments wanted x 0) (given arguments wanted x 1)) (number_value l (between_or_least l n (negsuc 0) (pos 1)) no_labels);
  }

  zero_rises : ValuesRise l n all (number_value l (n.one (pos 0)) no_labels) (number_value l (n.one (pos 0)) no_labels)
  zero_rises = number_rises o b all (n.one (pos 0)) (n.one (pos 0)) no_labels no_labels (o.reflexive (n.one (pos 0))) (one_near o b (pos 0) (omega (arith, ints)) (omega (arith, ints))) (labels_order.reflexive no_labels)

  puts_planned : IsPlanned o b g r all flow k f.Puts
  unfolding plan_call plan_puts
  puts_planned = record {
    rises = λ arguments wanted x y h. planned_rises _ _ (scanned_more arguments wanted x y h _ _ (given_more arguments wanted x y h _ _ (none_below arguments wanted x y h) 0) 0) _ _ zero_rises;
    results = λ arguments wanted x. planned_result (scanned_trail (given_trail (trail_of no_violations) (given arguments wanted x 0)) (found arguments wanted x 0)) (number_value l (n.one (pos 0)) no_labels);
  }

  printf_planned : IsPlanned o b g r all flow k f.Printf
  unfolding plan_call plan_printf
  printf_planned = record {
    rises = λ arguments wanted x y h. planned_rises _ _ (format_below arguments wanted x y h (length arguments - 1)) _ _ (plain_rises (pos 0) (greatest_of (kind_of flow.model Int true)) (omega (arith, ints)) (near_ends (kind_of flow.model Int true) (size_is flow.model Int)).1);
    results = λ arguments wanted x. planned_result (printf_trail l n (call arguments wanted) x (length arguments - 1)) (number_value l (between_or_least l n (pos 0) (greatest_of (kind_of flow.model Int true))) no_labels);
  }

  pub strlen_rises : CallRises l n all flow f.Strlen
  strlen_rises = planned_call o b g r all flow k f.Strlen strlen_planned

  pub strcmp_rises : CallRises l n all flow f.Strcmp
  strcmp_rises = planned_call o b g r all flow k f.Strcmp strcmp_planned

  pub puts_rises : CallRises l n all flow f.Puts
  puts_rises = planned_call o b g r all flow k f.Puts puts_planned

  pub printf_rises : CallRises l n all flow f.Printf
  printf_rises = planned_call o b g r all flow k f.Printf printf_planned
