-- Well-formed programs speak of near numbers.
use Rattle.std.specs.Prelude.{◌≡◌, ℕ, suc, ◌+◌, ◌-◌, ◌^◌, ◌==◌, ℤ, pos, negsuc, ◌≤ℤ◌, ◌+ℤ◌, ◌-ℤ◌, int_le, Bool, true, ◌&&◌, Some, List, [], ◌∷◌, ◌++◌, refl, slice_get, length}
use Rattle.std.specs.List.{list_all}
use Rattle.std.proofs.Common.{arith}
use Rattle.std.proofs.lemmas.Int.{ints}
use Rattle.std.proofs.lemmas.Bool.{and_parts, and_from, leb-true}
use Rattle.cc_base.specs.Ascending.{is_ascending}
use Rattle.cc_base.specs.declared.limit_table.Limits.{Limits}
use Rattle.c_layout.specs.StructViews.{structs_view}
use Rattle.c_layout.specs.declared.shapes.BaseInfo.{BaseInfo}
use Rattle.c_layout.specs.declared.shapes.BaseKind.{BaseKind}
use Rattle.c_layout.specs.declared.shapes.BaseKind.TheVariants as base
use Rattle.cfg.specs.BaseShapes.{is_extent}
use Rattle.cfg.specs.ThresholdNumbers.{neighbours, limits_of}
use Rattle.cfg.specs.FlowNumbers.{operation_numbers, edge_numbers, base_numbers, instructions_numbers, blocks_numbers, edges_numbers, bases_numbers}
use Rattle.cfg.specs.StructNumbers.{structs_numbers, flow_numbers}
use Rattle.cfg.specs.Nearest.{AreThresholds}
use Rattle.cfg.specs.WellFormed.{Names, names_of, is_number, has_temp, base_values, are_placed, fits_operation, fits_edge, is_well_formed}
use Rattle.cfg.specs.declared.programs.Flow.{Flow}
use Rattle.cfg.specs.declared.basic_blocks.BasicBlock.{BasicBlock}
use Rattle.cfg.specs.declared.flow_edges.Edge.{Edge}
use Rattle.cfg.specs.declared.flow_edges.EdgeKind.{EdgeKind}
use Rattle.cfg.specs.declared.flow_edges.EdgeKind.TheVariants as edge
use Rattle.cfg.specs.declared.machine_instructions.Instruction.{Instruction}
use Rattle.cfg.specs.declared.machine_instructions.Operation.{Operation}
use Rattle.cfg.specs.declared.machine_instructions.Operation.TheVariants as op
use Rattle.interval_domain.specs.Intervals.IntervalLattice.{interval_lattice}
use Rattle.interval_domain.specs.Intervals.IntervalNumbers.{interval_numbers}
use Rattle.transfer_system.specs.BoundedRows.NearLists.{is_near_number, IsNearList}
use Rattle.system_monotone.specs.Systems.NearNumbers.{HasNearMembers}
use Rattle.system_monotone.proofs.systems.WellFormed.{well_made, blocks_fit, has_model}
use Rattle.system_monotone.proofs.systems.NearLists.{thresholds_near}

abbrev is_near : ℤ → Bool
is_near z = is_near_number (negsuc (2 ^ 64 - 1)) z

abbrev AreNear : List ℤ → Type 0
AreNear list = list_all is_near list ≡ true

both_near : (xs ys : List ℤ) → AreNear xs → AreNear ys → AreNear (xs ++ ys)
both_near [] ys h k = k
both_near (x ∷ xs) ys h k = let p = and_parts (is_near x) (list_all is_near xs) h in and_from _ _ p.0 (both_near xs ys p.1 k)

le_from : (a c : ℤ) → a ≤ℤ c → int_le a c ≡ true
le_from a c h = grind (arith, ints)

le_true : (a c : ℤ) → int_le a c ≡ true → a ≤ℤ c
le_true a c h = grind (arith, ints)

near_at : (z : ℤ) → negsuc (2 ^ 64 - 1) ≤ℤ z → z ≤ℤ pos (2 ^ 64) → is_near z ≡ true
near_at z h k = and_from _ _ (le_from (negsuc (2 ^ 64 - 1)) z h) (le_from z (pos (2 ^ 64)) k)

neighbours_near : (z : ℤ) → is_number z ≡ true → AreNear (neighbours z)
neighbours_near z h =
    let p = and_parts (int_le (negsuc (2 ^ 63 - 1)) z) (int_le z (pos (2 ^ 64 - 1))) h in
    let a = le_true (negsuc (2 ^ 63 - 1)) z p.0 in
    let c = le_true z (pos (2 ^ 64 - 1)) p.1 in
    and_from _ _ (near_at (z -ℤ pos 1) (omega (arith, ints)) (omega (arith, ints)))
    (and_from _ _ (near_at z (omega (arith, ints)) (omega (arith, ints)))
    (and_from _ _ (near_at (z +ℤ pos 1) (omega (arith, ints)) (omega (arith, ints))) refl))

extent_near : (size : ℕ) → is_extent size ≡ true → AreNear (pos size ∷ [])
extent_near size h =
    let e = leb-true size (2 ^ 30) h in
    and_from _ _ (near_at (pos size) (omega (arith, ints)) (omega (arith, ints))) refl

operation_near : (n : Names) (o : Operation) → fits_operation n o ≡ true → AreNear (operation_numbers o)
operation_near n (op.Constant to value kind) h =
    let p = and_parts (has_temp n to) _ h in
    neighbours_near value (and_parts (is_number value) _ p.1).0
operation_near n (op.Narrow to from offset size) h =
    let p = and_parts (has_temp n to) _ h in
    let q = and_parts (has_temp n from) _ p.1 in
    extent_near size (and_parts (is_extent offset) (is_extent size) q.1).1
operation_near n (op.Address to base offset) h = refl
operation_near n (op.Load to pointer kind) h = refl
operation_near n (op.Store pointer value kind kept) h = refl
operation_near n (op.Copy to from index) h = refl
operation_near n (op.Shift to pointer amount scale backwards) h = refl
operation_near n (op.Binary to q left right kind) h = refl
operation_near n (op.Unary to q operand kind) h = refl
operation_near n (op.Compare to rel left right) h = refl
operation_near n (op.Not to operand kind) h = refl
operation_near n (op.Difference to left right size) h = refl
operation_near n (op.ComparePointers to rel left right) h = refl
operation_near n (op.Convert to operand from kind) h = refl
operation_near n (op.Library to function arguments newest wanted) h = refl
operation_near n (op.Enter base) h = refl
operation_near n (op.Leave base) h = refl
operation_near n (op.Forget base) h = refl
operation_near n (op.Clear base) h = refl
operation_near n (op.Spell base offset room text) h = refl
operation_near n op.Jump h = refl
operation_near n (op.Branch temp kind) h = refl
operation_near n (op.Switch temp kind) h = refl
operation_near n (op.ReadLine to line count stream) h = refl
operation_near n op.Stop h = refl

instructions_near : (n : Names) (is : List Instruction) → list_all (λ i. fits_operation n i.operation) is ≡ true → AreNear (instructions_numbers is)
instructions_near n [] h = refl
instructions_near n (i ∷ is) h =
    let p = and_parts (fits_operation n i.operation) (list_all (λ i. fits_operation n i.operation) is) h in
    both_near (operation_numbers i.operation) (instructions_numbers is) (operation_near n i.operation p.0) (instructions_near n is p.1)

blocks_near : (n : Names) (bs : List BasicBlock) → ((number : ℕ) (b : BasicBlock) → slice_get bs number ≡ Some b → list_all (λ i. fits_operation n i.operation) b.instructions.items ≡ true) → AreNear (blocks_numbers bs)
blocks_near n [] h = refl
blocks_near n (b ∷ bs) h = both_near (instructions_numbers b.instructions.items) (blocks_numbers bs) (instructions_near n b.instructions.items (h 0 b refl)) (blocks_near n bs (λ number c e. h (suc number) c e))

edge_near : (n : Names) (kind : EdgeKind) → fits_edge n kind ≡ true → AreNear (edge_numbers kind)
edge_near n (edge.Case test) h = neighbours_near test.value (and_parts (is_number test.value) _ h).0
edge_near n edge.Jump h = refl
edge_near n (edge.When truth test kept) h = refl
edge_near n (edge.Other values) h = refl
edge_near n edge.NoLine h = refl
edge_near n edge.Line h = refl

edges_near : (n : Names) (es : List Edge) → list_all (λ e. fits_edge n e.kind) es ≡ true → AreNear (edges_numbers es)
edges_near n [] h = refl
edges_near n (e ∷ es) h =
    let p = and_parts (fits_edge n e.kind) (list_all (λ e. fits_edge n e.kind) es) h in
    both_near (edge_numbers e.kind) (edges_numbers es) (edge_near n e.kind p.0) (edges_near n es p.1)

base_near : (kind : BaseKind) (size : ℕ) → is_extent size ≡ true → AreNear (base_numbers kind size)
base_near base.Static size h = extent_near size h
base_near base.Automatic size h = extent_near size h
base_near base.Literal size h = refl
base_near base.Newest size h = refl
base_near base.Older size h = refl

bases_near : (first : ℕ) (bs : List BaseInfo) → are_placed first bs ≡ true → AreNear (bases_numbers bs)
bases_near first [] h = refl
bases_near first (b ∷ bs) h =
    let p = and_parts (b.first == first) (is_extent b.size && are_placed (first + base_values b) bs) h in
    let q = and_parts (is_extent b.size) (are_placed (first + base_values b) bs) p.1 in
    both_near (base_numbers b.kind b.size) (bases_numbers bs) (base_near b.kind b.size q.0) (bases_near (first + base_values b) bs q.1)

numbers_near : (limits : Limits) (flow : Flow) → is_well_formed limits flow ≡ true → HasNearMembers flow → AreNear (flow_numbers flow)
numbers_near limits flow h members =
    let w = well_made limits flow h in
    let stated : AreNear ((blocks_numbers flow.blocks.items ++ edges_numbers flow.edges.items) ++ bases_numbers flow.bases.items) =
    both_near (blocks_numbers flow.blocks.items ++ edges_numbers flow.edges.items) (bases_numbers flow.bases.items)
    (both_near (blocks_numbers flow.blocks.items) (edges_numbers flow.edges.items)
    (blocks_near (names_of flow) flow.blocks.items (blocks_fit (names_of flow) (length flow.blocks.items) flow.edges.items 0 0 flow.blocks.items flow.edges.items w.blocks))
    (edges_near (names_of flow) flow.edges.items w.edges))
    (bases_near 0 flow.bases.items w.placed) in
    both_near (((blocks_numbers flow.blocks.items ++ edges_numbers flow.edges.items) ++ bases_numbers flow.bases.items) ++ structs_numbers (structs_view flow.structs) flow.model.pointer (structs_view flow.structs)) (negsuc 0 ∷ (pos 0 ∷ (pos 1 ∷ [])))
    (both_near ((blocks_numbers flow.blocks.items ++ edges_numbers flow.edges.items) ++ bases_numbers flow.bases.items) (structs_numbers (structs_view flow.structs) flow.model.pointer (structs_view flow.structs)) stated members) refl

pub near_thresholds : (limits : Limits) (flow : Flow) (list : List ℤ) → is_well_formed limits flow ≡ true → HasNearMembers flow → AreThresholds (limits_of flow.model) (flow_numbers flow) list → is_ascending list ≡ true → IsNearList interval_lattice interval_numbers list
near_thresholds limits flow list h members t a = thresholds_near flow.model (flow_numbers flow) list (has_model limits flow h) (numbers_near limits flow h members) t a
