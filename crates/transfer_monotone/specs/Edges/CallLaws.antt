-- Library calls and copies of structs that grow with the row, and leave own rows of consistent pointer parts in which something
-- is in each cell.
use Rattle.std.specs.Prelude.{◌≡◌, ℕ, true, Option, List}
use Rattle.cc_base.specs.Lattices.{LatticeOf}
use Rattle.cc_base.specs.IntegerDomains.{IntegersOf}
use Rattle.c_layout.specs.declared.library_functions.LibFn.{LibFn}
use Rattle.cfg.specs.declared.programs.Flow.{Flow}
use Rattle.cfg.specs.WellFormed.{is_site}
use Rattle.pointer_domain.specs.declared.base_sets.Bases.{Bases}
use Rattle.pointer_domain.specs.declared.pointer_sets.Pointers.{Pointers}
use Rattle.value_domain.specs.declared.values.row_cells.Cell.{Cell}
use Rattle.store_monotone.specs.Operations.TopRows.{top_row}
use Rattle.transfer_system.specs.CallSteps.{call_violations, call_step, line_violations, line_goes_on, write_line}
use Rattle.transfer_system.specs.MemorySteps.{copy_touched}
use Rattle.transfer_monotone.specs.Values.RisingRows.{LeftRise, PointersRise}
use Rattle.transfer_monotone.specs.Values.StepLaws.{FlowRows, Rises, Violates}
use Rattle.transfer_monotone.specs.Edges.FilledRows.{LeavesFilled}

module _ {I : Type 0} (l : LatticeOf I) (n : IntegersOf I) (all : Bases) (flow : Flow) where
  -- the calls of a function, at sites of allocations
  pub record CallRises (function : LibFn) : Type 0 where
    pub step : (to : Option ℕ) (arguments : List ℕ) (newest wanted : Option ℕ) → is_site flow.bases.items newest ≡ true → Rises l n all flow (λ row. call_step l n flow row to function arguments newest wanted)
    pub checks : (arguments : List ℕ) (wanted : Option ℕ) → Violates l n all flow (λ row. call_violations l n flow row function arguments wanted)
    pub fills : (to : Option ℕ) (arguments : List ℕ) (newest wanted : Option ℕ) → LeavesFilled (λ row. call_step l n flow row to function arguments newest wanted)

  -- the calls of `fgets`, and the way behind them on which there is a line
  pub record LineRises : Type 0 where
    pub on : (line count stream : ℕ) (r s : List (Cell I)) → FlowRows l n all flow r s → line_goes_on l n flow r line count stream ≡ true → line_goes_on l n flow s line count stream ≡ true
    pub checks : (line count stream : ℕ) → Violates l n all flow (λ row. line_violations l n flow row line count stream)
    pub step : (to : Option ℕ) (line count stream : ℕ) → Rises l n all flow (λ row. write_line l n flow row to line count stream)
    pub fills : (to : Option ℕ) (line count stream : ℕ) → LeavesFilled (λ row. write_line l n flow row to line count stream)

  -- copies of structs, through larger pointers
  pub record CopyRises : Type 0 where
    pub step : (index : ℕ) (p q u v : Pointers I) → PointersRise l n all p q → PointersRise l n all u v → (r s : List (Cell I)) → FlowRows l n all flow r s → LeftRise l n (top_row n all flow.bases.items flow.temps) (copy_touched l n flow index p u r) (copy_touched l n flow index q v s)
    pub fills : (index : ℕ) (p q : Pointers I) → LeavesFilled (copy_touched l n flow index p q)
