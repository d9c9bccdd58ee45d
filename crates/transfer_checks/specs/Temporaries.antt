-- The temporaries of a row, behind the cells of all bases.
use Rattle.std.specs.Prelude.{ℕ, ◌+◌, ◌-◌, pos, List}
use Rattle.cc_base.specs.Lattices.{LatticeOf}
use Rattle.cc_base.specs.IntegerDomains.{IntegersOf}
use Rattle.cfg.specs.declared.programs.Flow.{Flow}
use Rattle.cfg.specs.declared.machine_instructions.Amount.{Amount}
use Rattle.cfg.specs.declared.machine_instructions.Amount.TheVariants.{Temp, One}
use Rattle.value_domain.specs.declared.values.values.Value.{Value}
use Rattle.value_domain.specs.declared.values.row_cells.Cell.{Cell}
use Rattle.value_domain.specs.Values.LabelSets.{no_labels}
use Rattle.value_domain.specs.Values.ValueTables.{number_value}
use Rattle.store.specs.NearValues.{near_value}
use Rattle.store.specs.RowPositions.{capped, value_at, put_value}

abbrev pub temp_position : Flow → ℕ → ℕ
temp_position flow temp = capped ((flow.width - flow.temps) + temp)

module _ {I : Type 0} where
  abbrev pub temp_value : LatticeOf I → IntegersOf I → Flow → List (Cell I) → ℕ → Value I
  temp_value l n flow row temp = value_at l n row (temp_position flow temp)

  -- that of a temporary, or 1
  abbrev pub amount_value : LatticeOf I → IntegersOf I → Flow → List (Cell I) → Amount → Value I
  amount_value l n flow row (Temp temp) = temp_value l n flow row temp
  amount_value l n flow row One = near_value l n (number_value l (n.one (pos 1)) no_labels)

  abbrev pub put_temp : Flow → List (Cell I) → ℕ → Value I → List (Cell I)
  put_temp flow row temp v = put_value row (temp_position flow temp) v
