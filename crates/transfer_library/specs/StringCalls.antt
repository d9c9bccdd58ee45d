-- `strcpy`, `strncpy`, `strcat` and `fgets`.
use Rattle.std.specs.Prelude.{◌^◌, ◌-◌, nat_lt, int_lt, ℤ, pos, negsuc, ◌-ℤ◌, Bool, true, false, cond, not, ◌&&◌, ◌||◌, Option, Some, None, is_some, List}
use Rattle.std.specs.Int.{w128, saturate_signed}
use Rattle.cc_base.specs.Lattices.{LatticeOf}
use Rattle.cc_base.specs.IntegerDomains.{IntegersOf, of_range, between_or_least}
use Rattle.cc_base.specs.IntegerTypes.{least_of, greatest_of}
use Rattle.cc_base.specs.NumberRanges.{Range, range_met, upper_or}
use Rattle.c_layout.specs.declared.data_model.Model.{Model}
use Rattle.c_layout.specs.declared.leaf_lists.Class.TheVariants.{Char}
use Rattle.pointer_domain.specs.declared.base_sets.Bases.{Bases}
use Rattle.pointer_domain.specs.declared.pointer_sets.Pointers.{Pointers}
use Rattle.pointer_domain.specs.BaseSets.{bases_empty}
use Rattle.pointer_domain.specs.PointerTables.{offsets}
use Rattle.value_domain.specs.declared.values.values.Value.{Value}
use Rattle.value_domain.specs.declared.values.row_cells.Cell.{Cell}
use Rattle.value_domain.specs.Values.LabelSets.{input_labels}
use Rattle.value_domain.specs.Values.ValueTables.{pointer_value}
use Rattle.store.specs.Window.{Window}
use Rattle.store.specs.AccessWindows.{window_within, added_ranges, window_met}
use Rattle.store_objects.specs.LiveBases.{writable_of}
use Rattle.store.specs.NearValues.{near_number}
use Rattle.store.specs.ScalarTypes.{kind_of}
use Rattle.transfer_checks.specs.declared.library_arguments.Argument.{Argument}
use Rattle.transfer_checks.specs.declared.string_scans.Scanned.{Scanned}
use Rattle.transfer_checks.specs.IntegerChecks.{sink_violations}
use Rattle.transfer_checks.specs.LibraryArguments.{cut_by_room, passes_room, within_bases, touched_window}
use Rattle.transfer_checks.specs.ViolationSets.{no_violations}
use Rattle.transfer_library_plans.specs.Calls.{Call}
use Rattle.transfer_library_plans.specs.declared.call_plans.Effect.{Effect}
use Rattle.transfer_library_plans.specs.declared.call_plans.Effect.TheVariants as effect
use Rattle.transfer_library_plans.specs.declared.call_plans.Plan.{Plan}
use Rattle.transfer_library_plans.specs.declared.call_plans.Trail.{Trail}
use Rattle.transfer_library.specs.declared.memory_calls.Target.{Target}
use Rattle.transfer_library_writes.specs.declared.source_bytes.Characters.{Characters}
use Rattle.transfer_library_writes.specs.declared.text_writes.ZeroRule.{ZeroRule}
use Rattle.transfer_library_writes.specs.declared.text_writes.ZeroRule.TheVariants as zero
use Rattle.transfer_library_plans.specs.Plans.{trail_of, checked, planned}
use Rattle.transfer_library_plans.specs.Arguments.{argument_value, string_violations}
use Rattle.transfer_library_plans.specs.Outputs.{argument_at, scan_at, given_trail, scanned_trail}
use Rattle.transfer_library.specs.MemoryCalls.{room_trail, target_of, both_given, is_one_byte, lower_of, nothing_written}
use Rattle.transfer_library_writes.specs.Sources.{characters_of, reads_blank_in}

abbrev pub less_one : ℤ → ℤ
less_one x = saturate_signed w128 (x -ℤ pos 1)

abbrev pub window_from_place : Window → ℤ → Option Window
window_from_place w (pos lo) = cond (nat_lt (2 ^ 64 - 1) lo) None (window_met w lo (2 ^ 64 - 1))
window_from_place w (negsuc k) = None

-- the bytes of a window from an offset on
abbrev pub window_from_offset : Window → ℤ → Option Window
window_from_offset w lo = cond (int_lt lo (pos 0)) (Some w) (window_from_place w lo)

-- from the least of the offsets on
abbrev pub window_behind : Option Window → Range → Option Window
window_behind None start = None
window_behind (Some w) None = None
window_behind (Some w) (Some p) = window_from_offset w p.0

-- the greatest length of a text that is appended to those that are there, with its zero, in so many
-- bytes
abbrev pub most_appended : Range → Range → ℤ
most_appended there cut = saturate_signed w128 (less_one (upper_or (pos 0) cut) -ℤ lower_of there)

module _ {I : Type 0} where
  -- one more than the numbers
  abbrev pub one_more : IntegersOf I → I → Range
  one_more n length = added_ranges (n.bounds length) (Some (pos 1, pos 1))

  -- the lengths of a text for which so many bytes are needed
  abbrev pub one_less : LatticeOf I → IntegersOf I → Range → I
  one_less l n None = near_number l n l.least
  one_less l n (Some p) = near_number l n (of_range l n (Some (less_one p.0, less_one p.1)))

  -- a text write of a target from the given start, or nothing where no byte can be written
  abbrev pub text_effect : LatticeOf I → Call → Target I → Option Window → Option Window → Bool → Characters I → ZeroRule I → Effect I
  text_effect l call target (Some start) (Some w) one_byte characters rule =
      effect.Text (record { bases = writable_of call.flow.bases.items target.rest.bases; start = start; window = w; one_byte = one_byte; characters = characters; zero = rule }) (pointer_value l target.rest)
  text_effect l call target None w one_byte characters rule = nothing_written l target
  text_effect l call target (Some start) None one_byte characters rule = nothing_written l target

  -- from the first byte of the target on
  abbrev pub text_from_start : LatticeOf I → IntegersOf I → Call → Target I → Characters I → ZeroRule I → Plan I
  text_from_start l n call target characters rule =
      planned target.trail (text_effect l call target (window_within (offsets n target.rest)) (touched_window n target.rest target.count) (is_one_byte target.count) characters rule)

  abbrev pub two_given : Argument I → Argument I → Trail
  two_given to from = given_trail (given_trail (trail_of no_violations) to) from

  -- ---- strcpy

  abbrev pub source_characters : LatticeOf I → IntegersOf I → Call → List (Cell I) → Pointers I → Range → Characters I
  source_characters l n call row source need = characters_of l n call.flow.model call.flow.bases.items row source.bases (touched_window n source need)

  abbrev pub strcpy_scanned : LatticeOf I → IntegersOf I → Call → List (Cell I) → Argument I → Argument I → Scanned I → Plan I
  strcpy_scanned l n call row to from found =
      text_from_start l n call
      (target_of l n call (room_trail n (scanned_trail (two_given to from) found) to.rest (one_more n found.length)) to.rest (cut_by_room n (one_more n found.length) to.rest))
      (source_characters l n call row (within_bases l n from.rest found.bases) (cut_by_room n (one_more n found.length) to.rest))
      (zero.Text (one_less l n (cut_by_room n (one_more n found.length) to.rest)))

  abbrev pub strcpy_given : LatticeOf I → IntegersOf I → Call → List (Cell I) → Argument I → Argument I → Plan I
  strcpy_given l n call row to from = strcpy_scanned l n call row to from (scan_at l n call row from)

  unfoldable pub plan_strcpy : LatticeOf I → IntegersOf I → Call → List (Cell I) → Plan I
  plan_strcpy l n call row = strcpy_given l n call row (argument_at l n call row 0) (argument_at l n call row 1)

  -- ---- strcat

  -- the written offsets: behind the text that is there
  abbrev pub append_start : IntegersOf I → Pointers I → I → Range
  append_start n p there = added_ranges (offsets n p) (n.bounds there)

  -- the bytes that may be written: those of the new text, up to the upper bound
  abbrev pub append_window : IntegersOf I → Pointers I → I → Range → Option Window
  append_window n p there cut = window_behind (touched_window n p cut) (append_start n p there)

  -- the lengths of the new text for which there is room
  abbrev pub appended : LatticeOf I → IntegersOf I → I → I → Range → I
  appended l n there added cut = of_range l n (range_met (n.bounds added) (pos 0) (most_appended (n.bounds there) cut))

  -- the write of a new text of these lengths; with the old one it takes as many bytes as that has
  abbrev pub append_effect : LatticeOf I → IntegersOf I → Call → Target I → Scanned I → Characters I → I → Effect I
  append_effect l n call target there characters length =
      text_effect l call target (window_within (append_start n target.rest there.length)) (append_window n target.rest there.length target.count) false characters (zero.Append length there.unknown)

  abbrev pub strcat_of : LatticeOf I → IntegersOf I → Call → List (Cell I) → Pointers I → Scanned I → Target I → I → Plan I
  strcat_of l n call row source there target length = planned target.trail (append_effect l n call target there (source_characters l n call row source (one_more n length)) length)

  abbrev pub strcat_to : LatticeOf I → IntegersOf I → Call → List (Cell I) → Argument I → Scanned I → Scanned I → Target I → Plan I
  strcat_to l n call row from there added target = strcat_of l n call row (within_bases l n from.rest added.bases) there target (appended l n there.length added.length target.count)

  abbrev pub strcat_need : IntegersOf I → Scanned I → Scanned I → Range
  strcat_need n there added = added_ranges (n.bounds there.length) (one_more n added.length)

  abbrev pub strcat_place : LatticeOf I → IntegersOf I → Call → List (Cell I) → Argument I → Argument I → Scanned I → Scanned I → Pointers I → Plan I
  strcat_place l n call row to from there added place =
      strcat_to l n call row from there added
      (target_of l n call (room_trail n (scanned_trail (scanned_trail (two_given to from) there) added) place (strcat_need n there added)) place (cut_by_room n (strcat_need n there added) place))

  abbrev pub strcat_scanned : LatticeOf I → IntegersOf I → Call → List (Cell I) → Argument I → Argument I → Scanned I → Scanned I → Plan I
  strcat_scanned l n call row to from there added = strcat_place l n call row to from there added (within_bases l n to.rest there.bases)

  abbrev pub strcat_given : LatticeOf I → IntegersOf I → Call → List (Cell I) → Argument I → Argument I → Plan I
  strcat_given l n call row to from = strcat_scanned l n call row to from (scan_at l n call row to) (scan_at l n call row from)

  unfoldable pub plan_strcat : LatticeOf I → IntegersOf I → Call → List (Cell I) → Plan I
  plan_strcat l n call row = strcat_given l n call row (argument_at l n call row 0) (argument_at l n call row 1)

  -- ---- strncpy

  -- bytes before a zero may be read that are no string: in a base where the source is not known to end,
  -- it may be read past the room, or an indeterminate byte
  abbrev pub reads_no_string : LatticeOf I → IntegersOf I → Call → List (Cell I) → Pointers I → Bases → Range → Bool
  reads_no_string l n call row from unknown count =
      not (bases_empty unknown) && (passes_room n count from || reads_blank_in l n call.flow.model call.flow.bases.items row unknown (touched_window n from count))

  abbrev pub strncpy_trail : LatticeOf I → IntegersOf I → Call → List (Cell I) → Value I → Argument I → Argument I → Scanned I → Trail
  strncpy_trail l n call row v to from found = checked (both_given v to from) (string_violations (reads_no_string l n call row from.rest found.unknown (n.bounds v.num))) true

  abbrev pub strncpy_scanned : LatticeOf I → IntegersOf I → Call → List (Cell I) → Value I → Argument I → Argument I → Scanned I → Plan I
  strncpy_scanned l n call row v to from found =
      text_from_start l n call
      (target_of l n call (room_trail n (strncpy_trail l n call row v to from found) to.rest (n.bounds v.num)) to.rest (cut_by_room n (n.bounds v.num) to.rest))
      (source_characters l n call row from.rest (cut_by_room n (n.bounds v.num) to.rest))
      zero.Any

  abbrev pub strncpy_given : LatticeOf I → IntegersOf I → Call → List (Cell I) → Value I → Argument I → Argument I → Plan I
  strncpy_given l n call row v to from = strncpy_scanned l n call row v to from (scan_at l n call row from)

  unfoldable pub plan_strncpy : LatticeOf I → IntegersOf I → Call → List (Cell I) → Plan I
  plan_strncpy l n call row = strncpy_given l n call row (argument_value l n call row 2) (argument_at l n call row 0) (argument_at l n call row 1)

  -- ---- fgets

  -- the characters of input: all of their type, with the labels of input
  abbrev pub input_characters : LatticeOf I → IntegersOf I → Model → Characters I
  input_characters l n m = record {
    signed = between_or_least l n (least_of (kind_of m Char true)) (greatest_of (kind_of m Char true));
    unsigned = between_or_least l n (least_of (kind_of m Char false)) (greatest_of (kind_of m Char false));
    labels = input_labels (kind_of m Char m.char_signed);
  }

  abbrev pub line_count : IntegersOf I → Value I → Range
  line_count n v = range_met (n.bounds v.num) (pos 1) (pos (2 ^ 127 - 1))

  abbrev pub line_trail : IntegersOf I → Value I → Argument I → Trail
  line_trail n v to = checked (given_trail (trail_of (sink_violations v.labels)) to) no_violations (is_some (line_count n v))

  abbrev pub line_rule : LatticeOf I → IntegersOf I → Range → ZeroRule I
  line_rule l n cut = zero.Text (between_or_least l n (pos 0) (less_one (upper_or (pos 1) cut)))

  abbrev pub fgets_given : LatticeOf I → IntegersOf I → Call → Value I → Argument I → Plan I
  fgets_given l n call v to =
      text_from_start l n call
      (target_of l n call (room_trail n (line_trail n v to) to.rest (line_count n v)) to.rest (cut_by_room n (line_count n v) to.rest))
      (input_characters l n call.flow.model)
      (line_rule l n (cut_by_room n (line_count n v) to.rest))

  -- the checks of `fgets`, and then the line that is written
  unfoldable pub plan_fgets : LatticeOf I → IntegersOf I → Call → List (Cell I) → Plan I
  plan_fgets l n call row = fgets_given l n call (argument_value l n call row 1) (argument_at l n call row 0)
