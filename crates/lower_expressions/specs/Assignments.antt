-- Assignments, compound assignments and steps (6.5.16, 6.5.2.4 and 6.5.3.1).
use Rattle.std.specs.Prelude.{ℕ, Bool, true, false, cond, Option, Some, None}
use Rattle.cc_base.specs.declared.diagnostics.Place.{Place}
use Rattle.cc_base.specs.declared.integer_operators.IntOp.{IntOp}
use Rattle.cc_base.specs.declared.integer_operators.IntOp.TheVariants.{Add}
use Rattle.cc_base.specs.declared.int_types.IntType.{IntType}
use Rattle.c_layout.specs.Types.{Ty, same_kind}
use Rattle.c_layout.specs.CheckedTrees.{TermTree, LvalueTree}
use Rattle.c_layout.specs.declared.syntax_tree.expressions.StepOp.{StepOp}
use Rattle.c_layout.specs.declared.checked_tree.checked_terms.StepTime.{StepTime}
use Rattle.c_layout.specs.declared.checked_tree.checked_terms.StepTime.TheVariants.{Prefix, Postfix}
use Rattle.cfg.specs.declared.machine_instructions.Amount.TheVariants as amount
use Rattle.cfg.specs.declared.machine_instructions.Scalar.{Scalar}
use Rattle.cfg.specs.declared.machine_instructions.Scalar.TheVariants as scalar
use Rattle.lower_templates.specs.Worklist.Acts.{Load, Store, Shift, Binary, Convert}
use Rattle.lower_templates.specs.Worklist.TermKinds.{scalar_of, integer_type, step_operator, is_backward, lvalue_at, lvalue_type}
use Rattle.lower_templates.specs.Worklist.Works.{Value, Address, behind}
use Rattle.lower_templates.specs.Worklist.Plans.{Plan, with_work, done}
use Rattle.lower_templates.specs.declared.worklist.term_kinds.OperatorMeaning.{OperatorMeaning}
use Rattle.lower_templates.specs.declared.worklist.term_kinds.OperatorMeaning.TheVariants.{Number, Truth}

-- where the value of an assignment is used: it is moved down to the first temporary
abbrev pub kept : Bool → ℕ → ℕ → Option (ℕ × ℕ)
kept used depth from = cond used (Some (depth, from)) None

-- a store of a temporary's value at the pointer in the first one
abbrev pub stored : Place → ℕ → ℕ → Scalar → Option (ℕ × ℕ) → Plan → Plan
stored at depth from kind kept p = done at (Store depth from kind kept) p

-- the left address and then the right value
abbrev pub both_sides : LvalueTree → TermTree → ℕ → Plan → Plan
both_sides l e depth p = with_work (Value e (behind depth 1)) (with_work (Address l depth) p)

abbrev pub assignment : LvalueTree → TermTree → ℕ → Bool → Plan → Plan
assignment l e depth used p = stored (lvalue_at l) depth (behind depth 1) (scalar_of (lvalue_type l)) (kept used depth (behind depth 1)) (both_sides l e depth p)

-- a conversion is an instruction only where the types differ
abbrev pub converted : Place → ℕ → ℕ → IntType → IntType → Plan → Plan
converted at to from old new p = cond (same_kind old new) p (done at (Convert to from (scalar.Int old) (scalar.Int new)) p)

abbrev pub number_operator : OperatorMeaning → IntOp
number_operator (Number sign) = sign
number_operator (Truth rel) = Add

-- the address is formed once, then the right value is computed, then the old value is loaded
abbrev pub old_value : LvalueTree → TermTree → ℕ → Scalar → Plan → Plan
old_value l e depth kind p = done (lvalue_at l) (Load (behind depth 2) depth kind) (both_sides l e depth p)

-- convert, operate, convert back
abbrev pub computed : Place → IntOp → IntType → IntType → ℕ → Plan → Plan
computed at sign own kind depth p = converted at (behind depth 1) (behind depth 1) kind own (done at (Binary (behind depth 1) sign (behind depth 2) (amount.Temp (behind depth 1)) kind) (converted at (behind depth 2) (behind depth 2) own kind p))

abbrev pub compound : Place → OperatorMeaning → Ty → LvalueTree → TermTree → ℕ → Bool → Plan → Plan
compound at sign kind l e depth used p = stored (lvalue_at l) depth (behind depth 1) (scalar.Int (integer_type (lvalue_type l))) (kept used depth (behind depth 1)) (computed at (number_operator sign) (integer_type (lvalue_type l)) (integer_type kind) depth (old_value l e depth (scalar.Int (integer_type (lvalue_type l))) p))

abbrev pub compound_shift : Place → Bool → ℕ → LvalueTree → TermTree → ℕ → Bool → Plan → Plan
compound_shift at backward size l e depth used p = stored (lvalue_at l) depth (behind depth 1) scalar.Pointer (kept used depth (behind depth 1)) (done at (Shift (behind depth 1) (behind depth 2) (amount.Temp (behind depth 1)) size backward) (old_value l e depth scalar.Pointer p))

-- the old value of a postfix step that is used stays pending
abbrev pub keeps_old : StepTime → Bool → Bool
keeps_old Prefix used = false
keeps_old Postfix used = used

abbrev pub new_value : ℕ → Bool → ℕ
new_value old keeps = cond keeps (behind old 1) old

abbrev pub widened : ℕ → ℕ → IntType → IntType → ℕ
widened new old own kind = cond (same_kind own kind) old new

abbrev pub target : LvalueTree → ℕ → Scalar → Plan → Plan
target l depth kind p = done (lvalue_at l) (Load (behind depth 1) depth kind) (with_work (Address l depth) p)

abbrev pub stepped : Place → IntOp → IntType → IntType → ℕ → ℕ → Plan → Plan
stepped at sign own kind old new p = converted at new new kind own (done at (Binary new sign (widened new old own kind) amount.One kind) (converted at new old own kind p))

abbrev pub step : Place → StepOp → StepTime → Ty → LvalueTree → ℕ → Bool → Plan → Plan
step at sign time kind l depth used p = stored (lvalue_at l) depth (new_value (behind depth 1) (keeps_old time used)) (scalar.Int (integer_type (lvalue_type l))) (kept used depth (behind depth 1)) (stepped at (step_operator sign) (integer_type (lvalue_type l)) (integer_type kind) (behind depth 1) (new_value (behind depth 1) (keeps_old time used)) (target l depth (scalar.Int (integer_type (lvalue_type l))) p))

abbrev pub pointer_step : Place → StepOp → StepTime → ℕ → LvalueTree → ℕ → Bool → Plan → Plan
pointer_step at sign time size l depth used p = stored (lvalue_at l) depth (new_value (behind depth 1) (keeps_old time used)) scalar.Pointer (kept used depth (behind depth 1)) (done at (Shift (new_value (behind depth 1) (keeps_old time used)) (behind depth 1) amount.One size (is_backward sign)) (target l depth scalar.Pointer p))
