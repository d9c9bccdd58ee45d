-- Instructions in rising rows, and the rules that they may violate.
use Rattle.std.specs.Prelude.{◌≡◌, ℕ, ◌^◌, ◌-◌, ◌≤◌, ℤ, pos, negsuc, ◌≤ℤ◌, int_le, true, cond, ◌&&◌, Option, Some, None, List, slice_get, refl}
use Rattle.std.specs.List.{list_all}
use Rattle.std.proofs.Common.{arith}
use Rattle.std.proofs.lemmas.Int.{ints}
use Rattle.std.proofs.lemmas.Bool.{and_parts, leb-true}
use Rattle.cc_base.specs.Lattices.{LatticeOf, OrderLaws}
use Rattle.cc_base.specs.IntegerDomains.{IntegersOf, BoundLaws, RangeLaws}
use Rattle.cc_base.specs.IntegerLaws.{MonotoneLaws}
use Rattle.cc_base.specs.declared.integer_operators.Rel.{Rel}
use Rattle.cc_base.specs.declared.integer_operators.Rel.TheVariants.{Lt, Le, Gt, Ge, Eq, Ne}
use Rattle.c_layout.specs.declared.shapes.BaseInfo.{BaseInfo}
use Rattle.cfg.specs.declared.programs.Flow.{Flow}
use Rattle.cfg.specs.declared.basic_blocks.BasicBlock.{BasicBlock}
use Rattle.cfg.specs.declared.machine_instructions.Instruction.{Instruction}
use Rattle.cfg.specs.declared.machine_instructions.Operation.{Operation}
use Rattle.cfg.specs.declared.machine_instructions.Operation.TheVariants as op
use Rattle.cfg.specs.BaseShapes.{is_extent}
use Rattle.cfg.specs.WellFormed.{names_of, is_number, is_site, is_optional_extent, fits_operation, has_result, has_temp, is_declared, kind_at, reaches, has_local}
use Rattle.pointer_domain.specs.declared.base_sets.Bases.{Bases}
use Rattle.store_objects.specs.ObjectLives.{forget, leave, clear}
use Rattle.store.specs.Spelling.{spell}
use Rattle.store_monotone.specs.Operations.TopRows.{top_row}
use Rattle.store_monotone.specs.Operations.StoreLaws.{AreBytes}
use Rattle.store_monotone.specs.Operations.Placements.{EachFrom}
use Rattle.store_monotone.proofs.operations.OwnValues.{each_get}
use Rattle.store_monotone.proofs.operations.Together.{forgets, clears, leaves, spells, spells_consistent}
use Rattle.store_monotone.proofs.operations.ConsistentLives.{forget_even, clear_even, leave_even}
use Rattle.transfer_checks.specs.ViolationSets.{no_violations}
use Rattle.transfer_system.specs.CallSteps.{line_goes_on}
use Rattle.transfer_system.specs.Steps.{operate, operate_if, step_in, step}
use Rattle.transfer_system.specs.StepViolations.{relation_violations, operation_violations, violations_of, violations_in, violations_at}
use Rattle.transfer_monotone.specs.Values.LaidOut.{IsLaidOut}
use Rattle.transfer_monotone.specs.Values.StepLaws.{Rises, Violates, IntegerStepsRise, PointerStepsRise}
use Rattle.transfer_monotone.proofs.values.RisingCells.{small_own, left_if}
use Rattle.transfer_monotone.proofs.values.ViolationOrder.{same_below}
use Rattle.transfer_monotone.proofs.values.IntegerSteps.{integer_steps}
use Rattle.transfer_monotone.proofs.values.IntegerChecks.{integer_checks}
use Rattle.transfer_monotone.proofs.values.PointerSteps.{extents, pointer_steps, pointer_checks}
use Rattle.transfer_monotone.specs.Edges.MemoryLaws.{MemoryStepsRise}
use Rattle.transfer_monotone.specs.Edges.CallLaws.{LineRises}
use Rattle.transfer_monotone.specs.Edges.ProgramLaws.{HasBytes, IsNamed, IsRising, AreRising}
use Rattle.transfer_monotone.proofs.edges.MemorySteps.{row_near, copy_rises, memory_steps, memory_checks}

pub number_near : (z : ℤ) → is_number z ≡ true → (negsuc (2 ^ 64 - 1) ≤ℤ z) × (z ≤ℤ pos (2 ^ 64))
number_near z h =
    let p = and_parts (int_le (negsuc (2 ^ 63 - 1)) z) (int_le z (pos (2 ^ 64 - 1))) h in
    let low : negsuc (2 ^ 63 - 1) ≤ℤ z = at_most (negsuc (2 ^ 63 - 1)) z p.0 in
    let high : z ≤ℤ pos (2 ^ 64 - 1) = at_most z (pos (2 ^ 64 - 1)) p.1 in
    (omega (arith, ints), omega (arith, ints))
  where
    at_most : (a b : ℤ) → int_le a b ≡ true → a ≤ℤ b
    at_most a b h = grind (arith, ints)

-- an offset of an object is at most its size
offset_near : (bases : List BaseInfo) → EachFrom (λ (base : BaseInfo) number. is_extent base.size ≡ true) 0 bases → (base offset : ℕ) → (found : Option BaseInfo) → slice_get bases base ≡ found → reaches offset found ≡ true → offset ≤ 2 ^ 64
offset_near bases each base offset None e h = absurd (cc)
offset_near bases each base offset (Some info) e h =
    let a = leb-true offset info.size h in
    let c = leb-true info.size (2 ^ 30) (each_get (λ (base : BaseInfo) number. is_extent base.size ≡ true) 0 base bases info each e) in
    omega arith

room_near : (room : ℕ) → is_extent room ≡ true → room ≤ 2 ^ 64
room_near room h = let a = leb-true room (2 ^ 30) h in omega arith

module _ {I : Type 0} {l : LatticeOf I} {n : IntegersOf I} {stands : I → ℤ → Type 0} (o : OrderLaws l) (b : BoundLaws l n stands) (g : MonotoneLaws l n) (f : RangeLaws l n) (all : Bases) (flow : Flow) (k : IsLaidOut all flow) where
  -- ---- objects

  forget_rises : (base : ℕ) → Rises l n all flow (λ row. Some (forget l n flow.bases.items base row))
  forget_rises base r s h = record { below = forgets o b flow.model flow.bases.items k.layout all flow.temps (row_near o b g f all flow k) r s h.below base; even = forget_even o b flow.bases.items base r h.even }

  clear_rises : (base : ℕ) → Rises l n all flow (λ row. Some (clear l n flow.bases.items base row))
  clear_rises base r s h = record { below = clears o b flow.model flow.bases.items k.layout all flow.temps (row_near o b g f all flow k) r s h.below base; even = clear_even o b flow.bases.items base r h.even }

  leave_rises : (base : ℕ) → Rises l n all flow (λ row. Some (leave l flow.bases.items base row))
  leave_rises base r s h = record { below = leaves o b flow.model flow.bases.items k.layout all flow.temps (row_near o b g f all flow k) r s h.below h.even base; even = leave_even o b flow.bases.items base r h.even }

  pub spell_rises : (base offset room : ℕ) (text : List ℕ) → room ≤ 2 ^ 64 → AreBytes text → Rises l n all flow (λ row. Some (spell l n flow.bases.items base offset room text row))
  spell_rises base offset room text m t r s h = record {
    below = spells o b flow.model flow.bases.items k.layout all flow.temps (row_near o b g f all flow k) r s h.below base offset room text m t;
    even = spells_consistent o b flow.model flow.bases.items k.layout all flow.temps (row_near o b g f all flow k) r (small_own o b all k.words (top_row n all flow.bases.items flow.temps) r s h) h.even base offset room text t;
  }

  -- ---- instructions

  ints_rise : IntegerStepsRise l n all flow
  ints_rise = integer_steps o b g f all flow k

  points_rise : PointerStepsRise l n all flow
  points_rise = pointer_steps o b g f all flow k

  memory_rises : MemoryStepsRise l n all flow
  memory_rises = memory_steps o b g f all flow k

  line_left : LineRises l n all flow → (line count stream : ℕ) → Rises l n all flow (λ row. cond (line_goes_on l n flow row line count stream) (Some row) None)
  line_left law line count stream r s h = left_if l n (top_row n all flow.bases.items flow.temps) (line_goes_on l n flow r line count stream) (line_goes_on l n flow s line count stream) (Some r) (Some s) (law.on line count stream r s h) (λ e. h)

  pub operate_rises : (p : Operation) → fits_operation (names_of flow) p ≡ true → HasBytes p → IsRising l n all flow p → Rises l n all flow (λ row. operate l n flow row p)
  unfolding operate
  operate_rises (op.Constant to number kind) e t u = let a = and_parts (has_temp (names_of flow) to) _ e in let c = and_parts (is_number number) _ a.1 in let d = number_near number c.0 in ints_rise.constant to number d.0 d.1
  operate_rises (op.Binary to q left right kind) e t u = ints_rise.binary to q left right kind
  operate_rises (op.Unary to q operand kind) e t u = ints_rise.unary to q operand kind
  operate_rises (op.Compare to rel left right) e t u = ints_rise.compare to rel left right
  operate_rises (op.Not to operand kind) e t u = ints_rise.not_zero to operand
  operate_rises (op.Convert to operand from kind) e t u = ints_rise.convert to operand from kind
  operate_rises (op.Address to base offset) e t u =
      let a = and_parts (has_temp (names_of flow) to) _ e in
      let c = and_parts (is_declared (kind_at flow.bases.items base)) (reaches offset (slice_get flow.bases.items base)) a.1 in
      points_rise.address to base offset (offset_near flow.bases.items (extents 0 0 flow.bases.items k.layout.placed) base offset (slice_get flow.bases.items base) refl c.1)
  operate_rises (op.Narrow to pointer offset size) e t u = points_rise.narrow to pointer offset size
  operate_rises (op.Shift to pointer amount scale backwards) e t u = points_rise.shift to pointer amount scale backwards
  operate_rises (op.Difference to left right size) e t u = points_rise.difference to left right size
  operate_rises (op.ComparePointers to rel left right) e t u = points_rise.relation to rel left right
  operate_rises (op.Load to pointer kind) e t u = memory_rises.load to pointer kind
  operate_rises (op.Store pointer value kind kept) e t u = memory_rises.store pointer value kind kept
  operate_rises (op.Copy to from index) e t u = copy_rises o b g f all flow k u to from index
  operate_rises (op.Library to function arguments newest wanted) e t u =
      let a = and_parts (has_result (names_of flow) to) _ e in
      let c = and_parts (list_all (has_temp (names_of flow)) arguments.items) _ a.1 in
      let d = and_parts (is_site flow.bases.items newest) (is_optional_extent wanted) c.1 in
      u.step to arguments.items newest wanted d.0
  operate_rises (op.ReadLine to line count stream) e t u = line_left u line count stream
  operate_rises (op.Enter base) e t u = forget_rises base
  operate_rises (op.Leave base) e t u = leave_rises base
  operate_rises (op.Forget base) e t u = forget_rises base
  operate_rises (op.Clear base) e t u = clear_rises base
  operate_rises (op.Spell base offset room text) e t u =
      let a = and_parts (has_local (names_of flow) base) _ e in
      let c = and_parts (is_extent offset && is_extent room) _ a.1 in
      spell_rises base offset room text (room_near room (and_parts (is_extent offset) (is_extent room) c.0).1) t
  operate_rises op.Jump e t u = λ r s h. h
  operate_rises (op.Branch temp kind) e t u = λ r s h. h
  operate_rises (op.Switch temp kind) e t u = λ r s h. h
  operate_rises op.Stop e t u = λ r s h. tt

  operate_if_rises : (i : Option Instruction) → ((j : Instruction) → i ≡ Some j → (fits_operation (names_of flow) j.operation ≡ true) × HasBytes j.operation × IsRising l n all flow j.operation) → Rises l n all flow (λ row. operate_if l n flow row i)
  operate_if_rises None e r s h = tt
  operate_if_rises (Some j) e r s h = let c = e j refl in operate_rises j.operation c.0 c.1 c.2 r s h

  step_in_rises : (at : ℕ) (block : Option BasicBlock) → ((c : BasicBlock) (j : Instruction) → block ≡ Some c → slice_get c.instructions.items at ≡ Some j → (fits_operation (names_of flow) j.operation ≡ true) × HasBytes j.operation × IsRising l n all flow j.operation) → Rises l n all flow (λ row. step_in l n flow row at block)
  step_in_rises at None e r s h = tt
  step_in_rises at (Some c) e r s h = operate_if_rises (slice_get c.instructions.items at) (λ j q. e c j refl q) r s h

  pub step_rises : IsNamed flow → AreRising l n all flow → (block at : ℕ) → Rises l n all flow (λ row. step l n flow row block at)
  unfolding step
  step_rises named rising block at = step_in_rises at (slice_get flow.blocks.items block) (λ c j p q. let d = named.instructions block at c j p q in (d.0, d.1, rising.instructions block at c j p q))

  -- ---- rules

  relation_more : (rel : Rel) (left right : ℕ) → Violates l n all flow (λ row. relation_violations l n flow row rel left right)
  relation_more Eq left right = (pointer_checks o b g f all flow k).equality left right
  relation_more Ne left right = (pointer_checks o b g f all flow k).equality left right
  relation_more Lt left right = (pointer_checks o b g f all flow k).comparison left right
  relation_more Le left right = (pointer_checks o b g f all flow k).comparison left right
  relation_more Gt left right = (pointer_checks o b g f all flow k).comparison left right
  relation_more Ge left right = (pointer_checks o b g f all flow k).comparison left right

  pub operation_more : (p : Operation) → IsRising l n all flow p → Violates l n all flow (λ row. operation_violations l n flow row p)
  unfolding operation_violations
  operation_more (op.Binary to q left right kind) u = (integer_checks o b g f all flow k).binary q left right kind
  operation_more (op.Unary to q operand kind) u = (integer_checks o b g f all flow k).unary q operand kind
  operation_more (op.Narrow to pointer offset size) u = (pointer_checks o b g f all flow k).narrow pointer offset size
  operation_more (op.Shift to pointer amount scale backwards) u = (pointer_checks o b g f all flow k).shift pointer amount scale backwards
  operation_more (op.Difference to left right size) u = (pointer_checks o b g f all flow k).comparison left right
  operation_more (op.ComparePointers to rel left right) u = relation_more rel left right
  operation_more (op.Load to pointer kind) u = (memory_checks o b g f all flow k).load pointer kind
  operation_more (op.Store pointer value kind kept) u = (memory_checks o b g f all flow k).store pointer kind
  operation_more (op.Copy to from index) u = (memory_checks o b g f all flow k).copy to from index
  operation_more (op.Library to function arguments newest wanted) u = u.checks arguments.items wanted
  operation_more (op.ReadLine to line count stream) u = u.checks line count stream
  operation_more _ u = λ r s h. same_below no_violations

  violations_of_more : (i : Option Instruction) → ((j : Instruction) → i ≡ Some j → IsRising l n all flow j.operation) → Violates l n all flow (λ row. violations_of l n flow row i)
  violations_of_more None e = λ r s h. same_below no_violations
  violations_of_more (Some i) e = operation_more i.operation (e i refl)

  violations_in_more : (at : ℕ) (block : Option BasicBlock) → ((c : BasicBlock) (j : Instruction) → block ≡ Some c → slice_get c.instructions.items at ≡ Some j → IsRising l n all flow j.operation) → Violates l n all flow (λ row. violations_in l n flow row at block)
  violations_in_more at None e = λ r s h. same_below no_violations
  violations_in_more at (Some c) e = violations_of_more (slice_get c.instructions.items at) (λ j q. e c j refl q)

  pub violations_more : AreRising l n all flow → (block at : ℕ) → Violates l n all flow (λ row. violations_at l n flow row block at)
  unfolding violations_at
  violations_more rising block at = violations_in_more at (slice_get flow.blocks.items block) (λ c j p q. rising.instructions block at c j p q)
