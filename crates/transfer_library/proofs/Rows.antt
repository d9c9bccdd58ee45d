-- Worked rows of the definitions.
use Rattle.std.specs.Prelude.{◌≡◌, refl, pos, negsuc, Bool, true, false, cond, Option, Some, None, List}
use Rattle.std.proofs.Common.{subst, sym, ap}
use Rattle.cc_base.specs.Lattices.{LatticeOf}
use Rattle.cc_base.specs.IntegerDomains.{IntegersOf}
use Rattle.cc_base.specs.NumberRanges.{Range}
use Rattle.c_layout.specs.declared.shapes.ZeroPart.{ZeroPart}
use Rattle.pointer_domain.specs.BaseSets.{no_base, bases_empty}
use Rattle.pointer_domain.specs.PointerLattice.{no_pointer}
use Rattle.pointer_domain.specs.declared.pointer_sets.Pointers.{Pointers}
use Rattle.value_domain.specs.declared.strings.first_zeros.FirstZero.{FirstZero}
use Rattle.value_domain.specs.Strings.FirstZeros.{the_end, zero_lattice}
use Rattle.value_domain.specs.Strings.ZeroTables.{ends_text}
use Rattle.value_domain.specs.Values.LabelSets.{no_labels}
use Rattle.value_domain.specs.Values.ValueTables.{pointer_value}
use Rattle.value_domain.specs.declared.values.row_cells.Cell.{Cell}
use Rattle.store.specs.AccessWindows.{window_between, window_within}
use Rattle.store.specs.FirstZeroWrites.{any_zero}
use Rattle.store_objects.specs.LiveBases.{only_base}
use Rattle.transfer_checks.specs.LibraryArguments.{within_bases}
use Rattle.transfer_checks.specs.declared.library_arguments.Argument.{Argument}
use Rattle.transfer_checks.specs.declared.violation_sets.Violations.{Violations}
use Rattle.transfer_checks.specs.ViolationSets.{no_violations}
use Rattle.transfer_library_plans.specs.Allocations.{products}
use Rattle.transfer_library_plans.specs.Calls.{Call}
use Rattle.transfer_library_writes.specs.FillWrites.{holds_whole}
use Rattle.transfer_library.specs.MemoryCalls.{nothing_written}
use Rattle.transfer_library_plans.specs.Outputs.{has_place, placed, printed_trail}
use Rattle.transfer_library_plans.specs.Plans.{trail_of}
use Rattle.transfer_library.specs.StringCalls.{most_appended, reads_no_string, window_from_offset}
use Rattle.transfer_library_writes.specs.TextWrites.{rule_in, zero_after, zero_met}
use Rattle.transfer_library_plans.specs.declared.call_plans.Effect.TheVariants as effect
use Rattle.transfer_library_plans.specs.declared.call_plans.Trail.{Trail}
use Rattle.transfer_library.specs.declared.memory_calls.Target.{Target}
use Rattle.transfer_library_writes.specs.declared.source_bytes.Characters.{Characters}
use Rattle.transfer_library_writes.specs.declared.text_writes.TextWrite.{TextWrite}
use Rattle.transfer_library_writes.specs.declared.text_writes.ZeroRule.{ZeroRule}
use Rattle.transfer_library_writes.specs.declared.text_writes.ZeroRule.TheVariants.{Text, Append, Any}

-- ---- calloc

-- -5 elements of 2 bytes are none, and from -5 to 1 elements of from -3 to 2 bytes are 0 to 1 of 0 to 2
no_product : products (Some (negsuc 4, negsuc 4)) (Some (pos 2, pos 2)) ≡ None
no_product = refl

large_product : products (Some (negsuc 4, pos 1)) (Some (negsuc 2, pos 2)) ≡ Some (pos 0, pos 2)
large_product = refl

-- ---- memset

-- what has no size is covered
no_size : holds_whole (pos 1) None ≡ true
no_size = refl

-- ---- places

-- no offset is one of a byte, or one is
before_all : window_within (Some (negsuc 0, negsuc 0)) ≡ None
before_all = refl

from_before : window_within (Some (negsuc 0, pos 0)) ≡ Some (window_between 0 0)
from_before = refl

-- ---- strcat

-- a text that may begin before the window may be anywhere in it
text_from_before : window_from_offset (window_between 0 3) (negsuc 1) ≡ Some (window_between 0 3)
text_from_before = refl

-- 4 bytes, of which a text of 1 or 2 characters is taken: 2 more characters and the zero
room_for_two : most_appended (Some (pos 1, pos 2)) (Some (pos 2, pos 4)) ≡ pos 2
room_for_two = refl

-- the end is unknown in base 3 alone
unknown_in_three : {I : Type 0} (x : I) → rule_in (Append x (only_base 3)) 3 ≡ Any
unknown_in_three x = refl

known_in_two : {I : Type 0} (x : I) → rule_in (Append x (only_base 3)) 2 ≡ Append x (only_base 3)
known_in_two x = refl

-- ---- a struct of two members char a[1], b[1], and a write that may begin in either

abbrev second : ZeroPart
second = record { offset = 1; size = Some 1 }

abbrev eight : ZeroPart
eight = record { offset = 0; size = Some 8 }

-- no byte was zero, and a text of up to 7 characters begins at 6 or 7: none before 6 is
end_behind : ends_text (the_end, the_end) (pos 6, pos 7) (pos 0, pos 7) ≡ (pos 6, the_end)
end_behind = refl

-- ---- printf

abbrev no_check : Trail
no_check = trail_of no_violations

module _ {I : Type 0} (l : LatticeOf I) (n : IntegersOf I) (x : I) (old : FirstZero I) where
  abbrev text_in_either : Bool → TextWrite I
  text_in_either one_byte = record {
    bases = only_base 0;
    start = window_between 0 1;
    window = window_between 0 1;
    one_byte = one_byte;
    characters = record { signed = x; unsigned = x; labels = no_labels };
    zero = Text x;
  }

  -- one byte lies in the member where it is written, or leaves it as it was
  of_one_byte : zero_met l n second old (text_in_either true) true ≡ (zero_lattice l).join old (zero_after l n old (window_between 0 0) (Text x))
  of_one_byte = refl

  -- two bytes may go from the one to the other
  of_two_bytes : zero_met l n second old (text_in_either false) true ≡ any_zero l n
  of_two_bytes = refl

  -- ---- char a[8], and a text of two bytes at least that may begin at a + 6, a + 7 or behind the array

  abbrev text_behind : ZeroRule I → TextWrite I
  text_behind rule = record (text_in_either false) { start = window_between 6 8; window = window_between 6 7; zero = rule }

  -- where it is written it lies in the array, and begins at 6 or 7
  of_text_behind : zero_met l n eight old (text_behind (Text x)) true ≡ (zero_lattice l).join old (zero_after l n old (window_between 6 7) (Text x))
  of_text_behind = refl

  -- of one that is appended nothing is known
  of_appended_behind : zero_met l n eight old (text_behind (Append x no_base)) true ≡ any_zero l n
  of_appended_behind = refl

  -- ---- strncpy

  -- a source that is known to end in each base is a string
  of_known_ends : (call : Call) (row : List (Cell I)) (from : Pointers I) (count : Range) → reads_no_string l n call row from no_base count ≡ false
  of_known_ends call row from count = refl

  -- ---- printf

  abbrev nothing_given : Argument I
  nothing_given = record { violations = no_violations; rest = no_pointer l }

  abbrev null_given : Argument I
  null_given = record { violations = record no_violations { nullref = true }; rest = record (no_pointer l) { null = true } }

  -- a number goes on, and nothing at all does not
  of_number : printed_trail true no_check nothing_given ≡ no_check
  of_number = refl

  of_nothing : printed_trail false no_check nothing_given ≡ record no_check { goes_on = false }
  of_nothing = refl

  -- what may be a number or null is told, and goes on
  of_number_or_null : printed_trail true no_check null_given ≡ trail_of (record no_violations { nullref = true })
  of_number_or_null = refl

  -- ---- pointers without a place, which are in no run, do not go on

  of_place : (given : Argument I) → has_place n given.rest ≡ true → placed l n given ≡ given
  of_place given e = ap (λ c. cond c given (record given { rest = within_bases l n given.rest no_base })) e

  of_no_place : (given : Argument I) → has_place n given.rest ≡ false → bases_empty (placed l n given).rest.bases ≡ true
  of_no_place given e = subst (λ c. bases_empty (cond c given (record given { rest = within_bases l n given.rest no_base })).rest.bases ≡ true) (sym e) refl

  -- ---- writes of which no byte has a place

  abbrev to_write : Pointers I → Range → Target I
  to_write p count = record { trail = no_check; rest = p; count = count }

  -- at least one byte
  of_a_byte : (p : Pointers I) → nothing_written l (to_write p (Some (pos 1, pos 3))) ≡ effect.Unreached
  of_a_byte p = refl

  -- or none
  of_no_byte : (p : Pointers I) → nothing_written l (to_write p (Some (pos 0, pos 3))) ≡ effect.Result (pointer_value l p)
  of_no_byte p = refl
