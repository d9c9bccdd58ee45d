-- Input, output and the lengths of strings (7.21, 7.24).
use Rattle.std.specs.Prelude.{ℕ, zero, suc, ◌-◌, pos, negsuc, Bool, true, false, cond, not, ◌||◌, is_some, is_none, List, length}
use Rattle.cc_base.specs.Lattices.{LatticeOf}
use Rattle.cc_base.specs.IntegerDomains.{IntegersOf, of_range, between_or_least}
use Rattle.cc_base.specs.IntegerTypes.{greatest_of}
use Rattle.cc_base.specs.NumberRanges.{range_met}
use Rattle.c_layout.specs.declared.data_model.Model.{Model}
use Rattle.c_layout.specs.declared.leaf_lists.Class.TheVariants.{Char, Int, Pointer}
use Rattle.pointer_domain.specs.declared.pointer_sets.Pointers.{Pointers}
use Rattle.pointer_domain.specs.BaseSets.{no_base, bases_empty}
use Rattle.pointer_domain.specs.PointerTables.{offsets}
use Rattle.value_domain.specs.declared.values.values.Value.{Value}
use Rattle.value_domain.specs.declared.values.row_cells.Cell.{Cell}
use Rattle.value_domain.specs.Values.LabelSets.{no_labels, input_labels}
use Rattle.value_domain.specs.Values.ValueTables.{number_value}
use Rattle.store.specs.AccessWindows.{window_within}
use Rattle.store.specs.ScalarTypes.{kind_of}
use Rattle.transfer_checks.specs.declared.library_arguments.Argument.{Argument}
use Rattle.transfer_checks.specs.declared.string_scans.Scanned.{Scanned}
use Rattle.transfer_checks.specs.declared.violation_sets.Violations.{Violations}
use Rattle.transfer_checks.specs.LibraryArguments.{check_argument, within_bases}
use Rattle.transfer_checks.specs.StringScans.{scan}
use Rattle.transfer_checks.specs.ViolationSets.{no_violations}
use Rattle.transfer_library_plans.specs.Calls.{Call}
use Rattle.transfer_library_plans.specs.declared.call_plans.Effect.TheVariants as effect
use Rattle.transfer_library_plans.specs.declared.call_plans.Plan.{Plan}
use Rattle.transfer_library_plans.specs.declared.call_plans.Trail.{Trail}
use Rattle.transfer_library_plans.specs.Plans.{trail_of, checked, planned, harmless}
use Rattle.transfer_library_plans.specs.Arguments.{argument_value, string_violations}

module _ {I : Type 0} where
  -- some offset is one of a byte
  abbrev pub has_place : IntegersOf I → Pointers I → Bool
  has_place n p = is_some (window_within (offsets n p))

  -- without a place nothing goes on: no run has such a pointer
  abbrev pub placed : LatticeOf I → IntegersOf I → Argument I → Argument I
  placed l n given = cond (has_place n given.rest) given (record given { rest = within_bases l n given.rest no_base })

  -- an argument that is a pointer, and what of it goes on
  abbrev pub argument_at : LatticeOf I → IntegersOf I → Call → List (Cell I) → ℕ → Argument I
  argument_at l n call row at = placed l n (check_argument l n call.flow.bases.items row (argument_value l n call row at).pointer)

  abbrev pub scan_at : LatticeOf I → IntegersOf I → Call → List (Cell I) → Argument I → Scanned I
  scan_at l n call row given = scan l n call.flow.bases.items row given.rest

  -- the trail behind the check of a pointer argument
  abbrev pub given_trail : Trail → Argument I → Trail
  given_trail trail given = checked trail given.violations (not (bases_empty given.rest.bases))

  -- what a scan may violate
  abbrev pub scan_violations : Scanned I → Violations
  scan_violations found = string_violations (not (bases_empty found.unknown))

  -- the trail behind the scan of a string
  abbrev pub scanned_trail : Trail → Scanned I → Trail
  scanned_trail trail found = checked trail (scan_violations found) (not (bases_empty found.bases))

  -- a character or -1, with the labels of input
  abbrev pub plan_getchar : LatticeOf I → IntegersOf I → Model → Plan I
  plan_getchar l n m = harmless (effect.Result (number_value l (between_or_least l n (negsuc 0) (pos 255)) (input_labels (kind_of m Int true))))

  abbrev pub putchar_of : LatticeOf I → IntegersOf I → Value I → I → Plan I
  putchar_of l n c x = cond (is_none (n.bounds x)) (harmless effect.Unreached) (harmless (effect.Result (number_value l x c.labels)))

  -- the character as unsigned char, with its labels
  abbrev pub plan_putchar : LatticeOf I → IntegersOf I → Model → Value I → Plan I
  plan_putchar l n m c = putchar_of l n c (n.convert c.num (kind_of m Char false))

  abbrev pub pointer_trail : LatticeOf I → IntegersOf I → Call → List (Cell I) → ℕ → Trail → Trail
  pointer_trail l n call row at trail = given_trail trail (argument_at l n call row at)

  abbrev pub scan_trail : LatticeOf I → IntegersOf I → Call → List (Cell I) → ℕ → Trail → Trail
  scan_trail l n call row at trail = scanned_trail trail (scan_at l n call row (argument_at l n call row at))

  unfoldable pub plan_puts : LatticeOf I → IntegersOf I → Call → List (Cell I) → Plan I
  plan_puts l n call row = planned (scan_trail l n call row 0 (pointer_trail l n call row 0 (trail_of no_violations))) (effect.Result (number_value l (n.one (pos 0)) no_labels))

  -- the argument can be a number
  abbrev pub has_number : LatticeOf I → IntegersOf I → Call → List (Cell I) → ℕ → Bool
  has_number l n call row at = is_some (n.bounds (argument_value l n call row at).num)

  -- an argument behind a format is a number, or a pointer that is checked
  abbrev pub printed_trail : Bool → Trail → Argument I → Trail
  printed_trail number trail given = checked trail given.violations (number || not (bases_empty given.rest.bases))

  abbrev pub printed_trail_at : LatticeOf I → IntegersOf I → Call → List (Cell I) → ℕ → Trail → Trail
  printed_trail_at l n call row at trail = printed_trail (has_number l n call row at) trail (argument_at l n call row at)

  -- it is a number, or a string
  abbrev pub text_trail : Bool → Trail → Scanned I → Trail
  text_trail number trail found = checked trail (scan_violations found) (number || not (bases_empty found.bases))

  abbrev pub text_trail_at : LatticeOf I → IntegersOf I → Call → List (Cell I) → ℕ → Trail → Trail
  text_trail_at l n call row at trail = text_trail (has_number l n call row at) trail (scan_at l n call row (argument_at l n call row at))

  -- over so many arguments behind the format
  abbrev pub pointer_trails : LatticeOf I → IntegersOf I → Call → List (Cell I) → ℕ → Trail → Trail
  pointer_trails l n call row zero trail = trail
  pointer_trails l n call row (suc count) trail = printed_trail_at l n call row (suc count) (pointer_trails l n call row count trail)

  abbrev pub scan_trails : LatticeOf I → IntegersOf I → Call → List (Cell I) → ℕ → Trail → Trail
  scan_trails l n call row zero trail = trail
  scan_trails l n call row (suc count) trail = text_trail_at l n call row (suc count) (scan_trails l n call row count trail)

  abbrev pub printf_trail : LatticeOf I → IntegersOf I → Call → List (Cell I) → ℕ → Trail
  printf_trail l n call row count = scan_trails l n call row count (pointer_trails l n call row count (pointer_trail l n call row 0 (trail_of no_violations)))

  -- the format is a literal, and not scanned; each argument behind it that is a pointer is a string
  unfoldable pub plan_printf : LatticeOf I → IntegersOf I → Call → List (Cell I) → Plan I
  plan_printf l n call row = planned (printf_trail l n call row (length call.arguments - 1)) (effect.Result (number_value l (between_or_least l n (pos 0) (greatest_of (kind_of call.flow.model Int true))) no_labels))

  -- the length, in the range of size_t
  abbrev pub length_of : LatticeOf I → IntegersOf I → Model → Scanned I → I
  length_of l n m found = of_range l n (range_met (n.bounds found.length) (pos 0) (greatest_of (kind_of m Pointer false)))

  abbrev pub strlen_of : LatticeOf I → IntegersOf I → Argument I → Scanned I → I → Plan I
  strlen_of l n given found x =
      planned (checked (checked (trail_of given.violations) no_violations (not (bases_empty given.rest.bases))) (scan_violations found) (is_some (n.bounds x)))
      (effect.Result (number_value l x no_labels))

  abbrev pub strlen_scanned : LatticeOf I → IntegersOf I → Model → Argument I → Scanned I → Plan I
  strlen_scanned l n m given found = strlen_of l n given found (length_of l n m found)

  abbrev pub strlen_given : LatticeOf I → IntegersOf I → Call → List (Cell I) → Argument I → Plan I
  strlen_given l n call row given = strlen_scanned l n call.flow.model given (scan_at l n call row given)

  unfoldable pub plan_strlen : LatticeOf I → IntegersOf I → Call → List (Cell I) → Plan I
  plan_strlen l n call row = strlen_given l n call row (argument_at l n call row 0)

  abbrev pub strcmp_trail : LatticeOf I → IntegersOf I → Call → List (Cell I) → Argument I → Argument I → Trail
  strcmp_trail l n call row left right =
      scanned_trail (scanned_trail (given_trail (checked (trail_of left.violations) no_violations (not (bases_empty left.rest.bases))) right) (scan_at l n call row left)) (scan_at l n call row right)

  -- -1, 0 or 1
  unfoldable pub plan_strcmp : LatticeOf I → IntegersOf I → Call → List (Cell I) → Plan I
  plan_strcmp l n call row = planned (strcmp_trail l n call row (argument_at l n call row 0) (argument_at l n call row 1)) (effect.Result (number_value l (between_or_least l n (negsuc 0) (pos 1)) no_labels))
