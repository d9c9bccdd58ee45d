-- Worked rows of the look at right operands: numbers of the type `unsigned char`, and numbers of which some are not.
use Rattle.std.proofs.Common.{◌≡◌, ℤ, pos, Option, Some, Bool, true, false, List, [], ◌∷◌, refl}
use Rattle.cc_base.specs.Lattices.{LatticeOf}
use Rattle.cc_base.specs.IntegerDomains.{IntegersOf}
use Rattle.cc_base.specs.NumberRanges.{Range}
use Rattle.cc_base.specs.declared.int_types.IntType.{IntType}
use Rattle.cc_base.specs.declared.integer_operators.IntOp.TheVariants.{Add, Shl}
use Rattle.cfg.specs.declared.machine_instructions.Amount.TheVariants as amount
use Rattle.cfg.specs.declared.programs.Flow.{Flow}
use Rattle.value_domain.specs.Values.LabelSets.{no_labels}
use Rattle.value_domain.specs.Values.ValueTables.{number_value}
use Rattle.value_domain.specs.declared.values.row_cells.Cell.{Cell}
use Rattle.value_domain.specs.declared.values.row_cells.Cell.TheVariants.{Value}
use Rattle.store_cells.specs.RowPositions.{value_at}
use Rattle.diagnose.specs.Operands.TypedRows.{has_right}

-- a domain in which a value is its bounds, and a program with one temporary and nothing else in a row
module _ (l : LatticeOf Range) (integers : IntegersOf Range) (given : Flow) where
  abbrev n : IntegersOf Range
  n = record integers { bounds = λ r. r }

  abbrev flow : Flow
  flow = record given { temps = 1; width = 1 }

  abbrev byte : IntType
  byte = record { bytes = 1; signed = false; rank = 1 }

  abbrev up_to : ℤ → List (Cell Range)
  up_to most = Value (number_value l (Some (pos 0, most)) no_labels) ∷ []

  of_its_type : has_right l n flow (up_to (pos 255)) Add byte (amount.Temp 0) ≡ true
  unfolding value_at
  of_its_type = refl

  beyond_its_type : has_right l n flow (up_to (pos 256)) Add byte (amount.Temp 0) ≡ false
  unfolding value_at
  beyond_its_type = refl

  count_of_a_shift : has_right l n flow (up_to (pos 256)) Shl byte (amount.Temp 0) ≡ true
  count_of_a_shift = refl
