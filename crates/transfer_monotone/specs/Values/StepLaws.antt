-- Steps on integers and pointers grow with the row and leave own rows of consistent pointer parts, and so do the rules that
-- they may violate.
use Rattle.std.specs.Prelude.{ℕ, ◌^◌, ◌≤◌, ◌-◌, ℤ, pos, negsuc, ◌≤ℤ◌, Bool, Option, List}
use Rattle.cc_base.specs.Lattices.{LatticeOf}
use Rattle.cc_base.specs.IntegerDomains.{IntegersOf}
use Rattle.cc_base.specs.declared.int_types.IntType.{IntType}
use Rattle.cc_base.specs.declared.integer_operators.IntOp.{IntOp}
use Rattle.cc_base.specs.declared.integer_operators.UnOp.{UnOp}
use Rattle.cc_base.specs.declared.integer_operators.Rel.{Rel}
use Rattle.cfg.specs.declared.programs.Flow.{Flow}
use Rattle.cfg.specs.declared.machine_instructions.Amount.{Amount}
use Rattle.cfg.specs.declared.machine_instructions.Scalar.{Scalar}
use Rattle.value_domain.specs.declared.values.row_cells.Cell.{Cell}
use Rattle.store_monotone.specs.Operations.TopRows.{top_row}
use Rattle.pointer_domain.specs.declared.base_sets.Bases.{Bases}
use Rattle.transfer_checks.specs.declared.violation_sets.Violations.{Violations}
use Rattle.transfer_system.specs.IntegerSteps.{constant_step, binary_step, binary_checks, unary_step, unary_checks, compare_step, not_step, convert_step}
use Rattle.transfer_system.specs.PointerSteps.{address_step, narrow_step, narrow_violations, shift_step, shift_checks, comparison_violations, equality_violations, difference_step, relation_step}
use Rattle.transfer_monotone.specs.Values.RisingRows.{RowsRise, LeftRise}
use Rattle.transfer_monotone.specs.Values.ViolationsBelow.{ViolationsBelow}

module _ {I : Type 0} (l : LatticeOf I) (n : IntegersOf I) (all : Bases) (flow : Flow) where
  -- rows of the program, one below the other
  abbrev pub FlowRows : List (Cell I) → List (Cell I) → Type 0
  FlowRows r s = RowsRise l n (top_row n all flow.bases.items flow.temps) r s

  -- a step that leaves a larger own row of a larger one
  abbrev pub Rises : (List (Cell I) → Option (List (Cell I))) → Type 0
  Rises step = (r s : List (Cell I)) → FlowRows r s → LeftRise l n (top_row n all flow.bases.items flow.temps) (step r) (step s)

  -- checks that find in a larger row what they find in a smaller one
  abbrev pub Violates : (List (Cell I) → Violations) → Type 0
  Violates check = (r s : List (Cell I)) → FlowRows r s → ViolationsBelow (check r) (check s)

  -- steps on integers; constants are from -2^64 to 2^64
  pub record IntegerStepsRise : Type 0 where
    pub constant : (to : ℕ) (number : ℤ) → negsuc (2 ^ 64 - 1) ≤ℤ number → number ≤ℤ pos (2 ^ 64) → Rises (λ row. constant_step l n flow row to number)
    pub binary : (to : ℕ) (op : IntOp) (left : ℕ) (right : Amount) (kind : IntType) → Rises (λ row. binary_step l n flow row to op left right kind)
    pub unary : (to : ℕ) (op : UnOp) (operand : ℕ) (kind : IntType) → Rises (λ row. unary_step l n flow row to op operand kind)
    pub compare : (to : ℕ) (rel : Rel) (left right : ℕ) → Rises (λ row. compare_step l n flow row to rel left right)
    pub not_zero : (to operand : ℕ) → Rises (λ row. not_step l n flow row to operand)
    pub convert : (to operand : ℕ) (from kind : Scalar) → Rises (λ row. convert_step l n flow row to operand from kind)

  -- the rules that steps on integers may violate
  pub record IntegerChecksRise : Type 0 where
    pub binary : (op : IntOp) (left : ℕ) (right : Amount) (kind : IntType) → Violates (λ row. binary_checks l n flow row op left right kind)
    pub unary : (op : UnOp) (operand : ℕ) (kind : IntType) → Violates (λ row. unary_checks l n flow row op operand kind)

  -- steps on pointers; offsets of addresses are at most 2^64
  pub record PointerStepsRise : Type 0 where
    pub address : (to base offset : ℕ) → offset ≤ 2 ^ 64 → Rises (λ row. address_step l n flow row to base offset)
    pub narrow : (to pointer offset size : ℕ) → Rises (λ row. narrow_step l n flow row to pointer offset size)
    pub shift : (to pointer : ℕ) (amount : Amount) (scale : ℕ) (backwards : Bool) → Rises (λ row. shift_step l n flow row to pointer amount scale backwards)
    pub difference : (to left right size : ℕ) → Rises (λ row. difference_step l n flow row to left right size)
    pub relation : (to : ℕ) (rel : Rel) (left right : ℕ) → Rises (λ row. relation_step l n flow row to rel left right)

  -- the rules that steps on pointers may violate
  pub record PointerChecksRise : Type 0 where
    pub narrow : (pointer offset size : ℕ) → Violates (λ row. narrow_violations l n flow row pointer offset size)
    pub shift : (pointer : ℕ) (amount : Amount) (scale : ℕ) (backwards : Bool) → Violates (λ row. shift_checks l n flow row pointer amount scale backwards)
    pub comparison : (left right : ℕ) → Violates (λ row. comparison_violations l n flow row left right)
    pub equality : (left right : ℕ) → Violates (λ row. equality_violations l n flow row left right)
