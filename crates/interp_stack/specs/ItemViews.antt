-- What the parts of items of a program are to the machine.
use Rattle.std.specs.Prelude.{ℕ, suc, ◌-◌, pos, true, false, List, [], ◌∷◌, Option, Some, None}
use Rattle.std.specs.Borrow.{Bor}
use Rattle.cc_base.specs.declared.diagnostics.Place.{Place}
use Rattle.c_layout.specs.Types.{Ty, view}
use Rattle.c_layout.specs.CheckedTrees as tree
use Rattle.c_layout.specs.CheckedTrees.{TermTree, StatementTree}
use Rattle.c_layout.specs.CheckedUnits.{UnitView}
use Rattle.c_layout.specs.declared.type_terms.CType.{CType}
use Rattle.c_layout.specs.declared.checked_tree.checked_terms.ObjectRef.TheVariants.{Local}
use Rattle.lower_conditions.specs.Tests.{named}
use Rattle.semantics.specs.SourceMachine.Operations as op
use Rattle.semantics.specs.SourceMachine.Operations.{Operation, Order}
use Rattle.semantics.specs.SourceMachine.Items as item
use Rattle.semantics.specs.SourceMachine.Items.{Item, Change}
use Rattle.semantics.specs.SourceMachine.ConditionItems.{choice_of, truth_of, arm}
use Rattle.semantics.specs.SourceMachine.StatementItems.{for_body, while_iteration, do_iteration, for_iteration}
use Rattle.interp_stack.specs.declared.items.Operation7.{Operation7}
use Rattle.interp_stack.specs.declared.items.Operation7.TheVariants as operation
use Rattle.interp_stack.specs.declared.items.Order7.{Order7}
use Rattle.interp_stack.specs.declared.items.Order7.TheVariants as order
use Rattle.interp_stack.specs.declared.items.Change7.{Change7}
use Rattle.interp_stack.specs.declared.items.Change7.TheVariants as change
use Rattle.interp_stack.specs.declared.items.Arm7.{Arm7}
use Rattle.interp_stack.specs.declared.items.Arm7.TheVariants as arm_of
use Rattle.interp_stack.specs.declared.items.Next7.{Next7}
use Rattle.interp_stack.specs.declared.items.Next7.TheVariants as next

-- ---- operations

abbrev pub order_view : Order7 → Order
order_view order.LeftFirst = op.LeftFirst
order_view order.RightFirst = op.RightFirst

abbrev pub type_seen : Option (Bor CType) → Option Ty
type_seen None = None
type_seen (Some t) = Some (view t.now)

abbrev pub operation_view : Operation7 → Operation
operation_view (operation.Number n) = op.Constant n.now
operation_view (operation.Size n) = op.Constant (pos n)
operation_view (operation.Load kind) = op.Load kind
operation_view (operation.LoadUnder kind) = op.LoadUnder kind
operation_view (operation.LoadOver kind) = op.LoadOver kind
operation_view (operation.Store kind) = op.Store kind
operation_view (operation.StoreOver kind) = op.StoreOver kind
operation_view (operation.Copy t) = op.Copy (view t.now)
operation_view (operation.Narrow offset size) = op.Narrow offset size
operation_view (operation.Shift o size back) = op.Shift (order_view o) size back
operation_view (operation.ShiftByOne size back) = op.ShiftByOne size back
operation_view (operation.Binary o sign kind) = op.Binary (order_view o) sign kind
operation_view (operation.BinaryByOne sign kind) = op.BinaryByOne sign kind
operation_view (operation.Unary sign kind) = op.Unary sign kind
operation_view (operation.Compare rel) = op.Compare rel
operation_view operation.Not = op.Not
operation_view (operation.Difference size) = op.Difference size
operation_view (operation.ComparePointers rel) = op.ComparePointers rel
operation_view (operation.Convert kind) = op.Convert kind
operation_view (operation.Library function count target) = op.Library function count (type_seen target)

abbrev pub change_view : Change7 → Change
change_view change.Forget = item.Forget
change_view change.Clear = item.Clear

-- ---- what follows conditions

abbrev pub arm_items : Arm7 → TermTree → List Item
arm_items (arm_of.Arm used) e = arm used e ∷ []
arm_items (arm_of.ArmHop used) e = arm used e ∷ (item.Hop ∷ [])
arm_items arm_of.Right e = choice_of e (truth_of true) (truth_of false)

-- the body of a loop and its next turn
abbrev pub turn_items : StatementTree → List Item
turn_items (tree.While c body) = item.Statement body ∷ (item.Hop ∷ (item.IterationEnd ∷ (item.WhileIteration c body ∷ [])))
turn_items (tree.Do body c) = item.DoIteration body c ∷ []
turn_items (tree.For objects first c step body) = for_body c step body
turn_items _ = []

abbrev pub next_items : Next7 → StatementTree → List Item
next_items next.Body s = item.Statement s ∷ []
next_items next.BodyHop s = item.Statement s ∷ (item.Hop ∷ [])
next_items next.Turn s = turn_items s

-- ---- statements

-- what is no loop has no turn
abbrev pub loop_item : StatementTree → Item
loop_item (tree.While c body) = item.WhileIteration c body
loop_item (tree.Do body c) = item.DoIteration body c
loop_item (tree.For objects first c step body) = item.ForIteration c step body
loop_item _ = item.Statement tree.Nothing

-- the next turn of a loop: its condition, or the body of a `do` loop
abbrev pub loop_turn : UnitView → StatementTree → List Item
loop_turn u (tree.While c body) = while_iteration u c body
loop_turn u (tree.Do body c) = do_iteration u body c
loop_turn u (tree.For objects first c step body) = for_iteration u c step body
loop_turn u _ = []

abbrev pub select_item : StatementTree → Item
select_item (tree.Switch at e labels has_default enumerators body) = item.Select at (named e) labels body
select_item _ = item.Statement tree.Nothing

-- ---- calls

abbrev pub binding : Place → ℕ → ℕ → List Item → List Item
binding at count n items = item.Object at (Local n) 0 ∷ (item.Bind at n (count - suc n) ∷ items)

-- arguments, of which there are so many, are stored in parameters
abbrev pub bindings : Place → ℕ → List ℕ → List Item
bindings at count [] = []
bindings at count (n ∷ ns) = binding at count n (bindings at count ns)
