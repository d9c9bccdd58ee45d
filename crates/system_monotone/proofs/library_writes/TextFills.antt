-- Texts that are written leave something in each cell.
use Rattle.std.specs.Prelude.{ℕ, ◌+◌, pos, ℤ, int_le, Bool, true, false, cond, Option, Some, None, is_some, List}
use Rattle.cc_base.specs.Lattices.{LatticeOf, OrderLaws}
use Rattle.cc_base.specs.IntegerDomains.{IntegersOf, BoundLaws, RangeLaws}
use Rattle.cc_base.specs.IntegerLaws.{MonotoneLaws}
use Rattle.c_layout.specs.declared.data_model.Model.{Model}
use Rattle.c_layout.specs.declared.leaf_lists.Class.TheVariants.{Char}
use Rattle.c_layout.specs.declared.shapes.BaseInfo.{BaseInfo}
use Rattle.cfg.specs.declared.programs.Flow.{Flow}
use Rattle.pointer_domain.specs.declared.base_sets.Bases.{Bases}
use Rattle.value_domain.specs.declared.values.row_cells.Cell.TheVariants.{First}
use Rattle.value_domain.specs.Values.ValueTables.{pointer_value}
use Rattle.store_cells.specs.declared.access_windows.Window.{Window}
use Rattle.store_cells.specs.FirstZeroWrites.{zero_target}
use Rattle.store.specs.LeafSelection.{is_overlapped, has_stray}
use Rattle.store_objects.specs.LiveBases.{has_base, is_one_instance}
use Rattle.store_cells.specs.RowPositions.{leaf_position, class_position, zero_position}
use Rattle.transfer_library_plans.specs.declared.call_plans.Effect.{Effect}
use Rattle.transfer_library_plans.specs.declared.call_plans.Effect.TheVariants as effect
use Rattle.transfer_library_plans.specs.declared.call_plans.Trail.{Trail}
use Rattle.transfer_library.specs.declared.memory_calls.Target.{Target}
use Rattle.transfer_library_writes.specs.declared.source_bytes.Characters.{Characters}
use Rattle.transfer_library_writes.specs.declared.text_writes.TextWrite.{TextWrite}
use Rattle.transfer_library_writes.specs.declared.text_writes.ZeroRule.{ZeroRule}
use Rattle.transfer_library_plans.specs.Plans.{planned}
use Rattle.transfer_library.specs.MemoryCalls.{lower_of, nothing_written}
use Rattle.transfer_library.specs.StringCalls.{text_effect}
use Rattle.transfer_library.specs.Effects.{apply}
use Rattle.transfer_library_writes.specs.TextWrites.{write_leaf, write_leaf_of, write_leaves, write_stray, write_class, write_class_cells, write_zero, write_zeros, write_heap_part, write_base, write_base_if, write_into, write_in, write_text}
use Rattle.transfer_system.specs.CallSteps.{call_of}
use Rattle.transfer_monotone.specs.Edges.FilledRows.{IsLeftFilled, Fills, LeavesFilled}
use Rattle.transfer_monotone.proofs.edges.FilledSteps.{fill_set, fill_if, fill_walk, fill_turns, fill_join}
use Rattle.transfer_monotone.specs.Values.LaidOut.{IsLaidOut}
use Rattle.transfer_monotone.proofs.library.ResultCalls.{put_fills}

module _ {I : Type 0} (l : LatticeOf I) (n : IntegersOf I) where
  module _ (m : Model) (base : BaseInfo) (write : TextWrite I) where
    leaves_fill : Fills (write_leaves l n m base write)
    unfolding write_leaves write_leaf
    leaves_fill row h = fill_walk (write_leaf_of l n m base write) (λ leaf at x k. fill_if (is_overlapped m leaf write.window) _ x (fill_join l n (leaf_position base at) _ x k) k) 0 base.shape.cells row h

    stray_fills : Fills (write_stray l n base write)
    stray_fills row h = fill_if (has_stray base.shape.cells Char write.window) _ row (fill_join l n (class_position base 0) _ row h) h

    classes_fill : Fills (write_class_cells l n m base write)
    unfolding write_class_cells
    classes_fill row h = fill_turns (write_class l n m base write) (λ at x k. fill_join l n (class_position base (at + 1)) _ x k) 5 (write_stray l n base write row) (stray_fills row h)

    heap_fills : Fills (write_heap_part l n m base write)
    heap_fills row h = fill_if base.shape.heap _ row (classes_fill row h) h

    zeros_fill : (alone : Bool) → Fills (write_zeros l n base write alone)
    unfolding write_zeros write_zero
    zeros_fill alone row h = fill_walk (write_zero l n base write alone) (λ part at x k. fill_if (is_some (zero_target part write.window)) _ x (fill_set x (zero_position base at) (First _) tt k) k) 0 base.shape.zeros row h

    base_fills : (alone : Bool) → Fills (write_base l n m base write alone)
    unfolding write_base
    base_fills alone row h = zeros_fill alone (write_heap_part l n m base write (write_leaves l n m base write row)) (heap_fills (write_leaves l n m base write row) (leaves_fill row h))

  text_fills : (flow : Flow) (write : TextWrite I) → Fills (write_text l n flow write)
  unfolding write_text write_base_if
  text_fills flow write row h =
      let alone = is_one_instance flow.bases.items write.bases in
      fill_walk (write_in l n flow.model write alone) (λ base number x k. fill_if (has_base write.bases number) _ x (base_fills flow.model base (write_into write number) alone x k) k) 0 flow.bases.items row h

module _ {I : Type 0} {l : LatticeOf I} {n : IntegersOf I} {stands : I → ℤ → Type 0} (o : OrderLaws l) (b : BoundLaws l n stands) (g : MonotoneLaws l n) (r : RangeLaws l n) (all : Bases) (flow : Flow) (k : IsLaidOut all flow) (to newest : Option ℕ) where
  pub idle_fills : (x : Target I) → LeavesFilled (apply l n flow to newest (nothing_written l x))
  unfolding apply
  idle_fills x row h = by_need (int_le (pos 1) (lower_of x.count))
    where
      by_need : (z : Bool) → IsLeftFilled (apply l n flow to newest (cond z effect.Unreached (effect.Result (pointer_value l x.rest))) row)
      by_need true = tt
      by_need false = put_fills o b g r all flow k to (pointer_value l x.rest) row h

  -- what is written of a text
  pub effect_fills : (arguments : List ℕ) (wanted : Option ℕ) (x : Target I) (s w : Option Window) (one : Bool) (c : Characters I) (rule : ZeroRule I) → LeavesFilled (apply l n flow to newest (text_effect l (call_of flow arguments wanted) x s w one c rule))
  unfolding apply
  effect_fills arguments wanted x None w one c rule row h = idle_fills x row h
  effect_fills arguments wanted x (Some start) None one c rule row h = idle_fills x row h
  effect_fills arguments wanted x (Some start) (Some window) one c rule row h = put_fills o b g r all flow k to (pointer_value l x.rest) _ (text_fills l n flow _ row h)

  pub planned_fills : (s : Trail) (e : Effect I) → LeavesFilled (apply l n flow to newest e) → LeavesFilled (apply l n flow to newest (planned s e).effect)
  unfolding apply
  planned_fills s e j row h = by_way s.goes_on
    where
      by_way : (a : Bool) → IsLeftFilled (apply l n flow to newest (cond a e effect.Unreached) row)
      by_way true = j row h
      by_way false = tt
