-- Values of terms: a value that is computed while d values are pending is in temporary d.
use Rattle.std.specs.Prelude.{ℕ, ℤ, pos, Bool}
use Rattle.cc_base.specs.declared.diagnostics.Place.{Place}
use Rattle.cc_base.specs.declared.integer_operators.UnOp.{UnOp}
use Rattle.cc_base.specs.declared.integer_operators.UnOp.TheVariants.{Neg, Compl}
use Rattle.c_layout.specs.Types.{Ty, Int, Pointer, Array, Struct, Void}
use Rattle.c_layout.specs.Layout.{size_of_type}
use Rattle.c_layout.specs.CheckedTrees as tree
use Rattle.c_layout.specs.CheckedTrees.{TermTree, FormTree, Typed, LvalueTree}
use Rattle.c_layout.specs.declared.syntax_tree.expressions.BinaryOp.{BinaryOp}
use Rattle.cfg.specs.declared.machine_instructions.Amount.TheVariants as amount
use Rattle.lower_templates.specs.Worklist.Acts as acts
use Rattle.lower_templates.specs.Worklist.Acts.{Act}
use Rattle.lower_templates.specs.Worklist.TermKinds.{meaning, relation, scalar_of, integer_type, term_at, term_type, lvalue_at, lvalue_type}
use Rattle.lower_templates.specs.Worklist.Works.{Value, Unused, Address, behind}
use Rattle.lower_templates.specs.Worklist.Plans.{Plan, with_work, done}
use Rattle.lower_templates.specs.Worklist.Settings.{SettingView}
use Rattle.lower_templates.specs.declared.worklist.term_kinds.OperatorMeaning.{OperatorMeaning}
use Rattle.lower_templates.specs.declared.worklist.term_kinds.OperatorMeaning.TheVariants.{Number, Truth}
use Rattle.lower_expressions.specs.Assignments.{assignment, compound, compound_shift, step, pointer_step}
use Rattle.lower_expressions.specs.Branches.{logical, conditional, arm}
use Rattle.lower_expressions.specs.Calls.{own_call, library_call}

abbrev pub integer_act : OperatorMeaning → Ty → ℕ → Act
integer_act (Number sign) t depth = acts.Binary depth sign depth (amount.Temp (behind depth 1)) (integer_type t)
integer_act (Truth rel) t depth = acts.Compare depth rel depth (behind depth 1)

-- operands from left to right, and then the instruction
abbrev pub two : Place → TermTree → TermTree → ℕ → Act → Plan → Plan
two at left right depth a p = done at a (with_work (Value right (behind depth 1)) (with_work (Value left depth) p))

abbrev pub one : Place → TermTree → ℕ → Act → Plan → Plan
one at e depth a p = done at a (with_work (Value e depth) p)

abbrev pub number : TermTree → ℤ → ℕ → Plan → Plan
number e n depth p = done (term_at e) (acts.Constant depth n (integer_type (term_type e))) p

-- an array lvalue becomes a pointer to its first element, narrowed to the array
abbrev pub decay : SettingView → LvalueTree → ℕ → Plan → Plan
decay s l depth p = done (lvalue_at l) (acts.Narrow depth depth 0 (size_of_type s.structs s.pointer (lvalue_type l))) (with_work (Address l depth) p)

abbrev pub load : LvalueTree → ℕ → Plan → Plan
load l depth p = done (lvalue_at l) (acts.Load depth depth (scalar_of (lvalue_type l))) (with_work (Address l depth) p)

abbrev pub conversion : TermTree → TermTree → ℕ → Plan → Plan
conversion e inner depth p = one (term_at e) inner depth (acts.Convert depth depth (scalar_of (term_type inner)) (scalar_of (term_type e))) p

abbrev pub unary : UnOp → TermTree → TermTree → ℕ → Plan → Plan
unary sign e inner depth p = one (term_at e) inner depth (acts.Unary depth sign depth (integer_type (term_type e))) p

abbrev pub negation : Place → TermTree → ℕ → Plan → Plan
negation at inner depth p = one at inner depth (acts.Not depth depth (scalar_of (term_type inner))) p

-- in a sum of a pointer and an integer either may stand first
abbrev pub moved_pointer : Ty → ℕ → ℕ → Bool → Act
moved_pointer (Int kind) depth size backward = acts.Shift depth (behind depth 1) (amount.Temp depth) size backward
moved_pointer (Pointer t) depth size backward = acts.Shift depth depth (amount.Temp (behind depth 1)) size backward
moved_pointer (Array t n) depth size backward = acts.Shift depth depth (amount.Temp (behind depth 1)) size backward
moved_pointer (Struct i) depth size backward = acts.Shift depth depth (amount.Temp (behind depth 1)) size backward
moved_pointer Void depth size backward = acts.Shift depth depth (amount.Temp (behind depth 1)) size backward

abbrev pub shift : Place → Bool → ℕ → TermTree → TermTree → ℕ → Plan → Plan
shift at backward size left right depth p = two at left right depth (moved_pointer (term_type left) depth size backward) p

abbrev pub integers : TermTree → BinaryOp → TermTree → TermTree → ℕ → Plan → Plan
integers e sign left right depth p = two (term_at e) left right depth (integer_act (meaning sign) (term_type e) depth) p

abbrev pub difference : Place → ℕ → TermTree → TermTree → ℕ → Plan → Plan
difference at size left right depth p = two at left right depth (acts.Difference depth depth (behind depth 1) size) p

abbrev pub pointers : Place → BinaryOp → TermTree → TermTree → ℕ → Plan → Plan
pointers at sign left right depth p = two at left right depth (acts.ComparePointers depth (relation sign) depth (behind depth 1)) p

abbrev pub comma : TermTree → TermTree → ℕ → Bool → Plan → Plan
comma left right depth used p = with_work (arm right depth used) (with_work (Unused left depth) p)

-- the works of a term by its form
abbrev pub of_form : SettingView → TermTree → FormTree → ℕ → Bool → Plan → Plan
of_form s e (tree.Number n) depth used p = number e n depth p
of_form s e (tree.SizeofType n is_pointer) depth used p = number e (pos n) depth p
of_form s e (tree.Sizeof n operand is_pointer) depth used p = number e (pos n) depth p
of_form s e (tree.Load l) depth used p = load l depth p
of_form s e (tree.AddressOf l) depth used p = with_work (Address l depth) p
of_form s e (tree.Decay l) depth used p = decay s l depth p
of_form s e (tree.Convert kind inner) depth used p = conversion e inner depth p
of_form s e (tree.Discard inner) depth used p = with_work (Unused inner depth) p
of_form s e (tree.Plus inner) depth used p = with_work (Value inner depth) p
of_form s e (tree.Minus inner) depth used p = unary Neg e inner depth p
of_form s e (tree.Complement inner) depth used p = unary Compl e inner depth p
of_form s e (tree.Not inner) depth used p = negation (term_at e) inner depth p
of_form s e (tree.Integer sign left right) depth used p = integers e sign left right depth p
of_form s e (tree.Shift backward size left right) depth used p = shift (term_at e) backward size left right depth p
of_form s e (tree.Difference size left right) depth used p = difference (term_at e) size left right depth p
of_form s e (tree.Compare sign left right) depth used p = pointers (term_at e) sign left right depth p
of_form s e (tree.Logical sign left right) depth used p = logical sign left right depth p
of_form s e (tree.Conditional test first second) depth used p = conditional s test first second depth used p
of_form s e (tree.Comma left right) depth used p = comma left right depth used p
of_form s e (tree.Assign l value) depth used p = assignment l value depth used p
of_form s e (tree.Compound sign kind l value) depth used p = compound (term_at e) (meaning sign) kind l value depth used p
of_form s e (tree.CompoundShift backward size l value) depth used p = compound_shift (term_at e) backward size l value depth used p
of_form s e (tree.Step sign time kind l) depth used p = step (term_at e) sign time kind l depth used p
of_form s e (tree.StepPointer sign time size l) depth used p = pointer_step (term_at e) sign time size l depth used p
of_form s e (tree.Struct l) depth used p = with_work (Address l depth) p
of_form s e (tree.Call function args is_used) depth used p = own_call (term_at e) function args is_used depth p
of_form s e (tree.Library function args target) depth used p = library_call s (term_at e) function args target depth p

abbrev pub term : SettingView → TermTree → ℕ → Bool → Plan → Plan
term s (Typed at t parens constant form) depth used p = of_form s (Typed at t parens constant form) form depth used p
