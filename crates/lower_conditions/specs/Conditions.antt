-- Conditions, which go straight to their targets.
use Rattle.std.specs.Prelude.{ℕ, ◌+◌, Bool, true, false, cond, map, Option, Some, None}
use Rattle.cc_base.specs.declared.diagnostics.Place.{Place}
use Rattle.c_layout.specs.CheckedTrees as tree
use Rattle.c_layout.specs.CheckedTrees.{TermTree, TermTrees, FormTree, Typed, term_tree, term_trees}
use Rattle.c_layout.specs.declared.library_functions.LibFn.{LibFn}
use Rattle.c_layout.specs.declared.syntax_tree.expressions.BinaryOp.{BinaryOp}
use Rattle.c_layout.specs.declared.syntax_tree.expressions.BinaryOp.TheVariants.{Equal, NotEqual}
use Rattle.c_layout.specs.declared.syntax_tree.expressions.LogicalOp.{LogicalOp}
use Rattle.cfg.specs.declared.flow_edges.Test.{Test}
use Rattle.lower_templates.specs.Worklist.TermKinds.{is_null_constant, peeled}
use Rattle.lower_templates.specs.Worklist.Works.{Value, Condition}
use Rattle.lower_templates.specs.Worklist.Plans.{Plan, with_work, with_labels, begun}
use Rattle.lower_templates.specs.Worklist.Settings.{SettingView}
use Rattle.lower_templates.specs.declared.worklist.pending_works.Targets.{Targets}
use Rattle.lower_templates.specs.declared.worklist.pending_works.Decision.{Decision}
use Rattle.lower_expressions.specs.declared.branched_values.Known.{Known}
use Rattle.lower_conditions.specs.declared.line_reads.LineCall.{LineCall}
use Rattle.lower_conditions.specs.declared.line_reads.ReadTest.{ReadTest}
use Rattle.lower_expressions.specs.Branches.{branch, left_targets}
use Rattle.lower_expressions.specs.Calls.{reads_line, read_line}
use Rattle.lower_conditions.specs.Tests as tests
use Rattle.lower_conditions.specs.Tests.{Tested, test_of, opposite_of}

abbrev pub flipped : Targets → Targets
flipped targets = record { yes = targets.no; no = targets.yes }

abbrev pub part : ℕ → TermTree → Decision → Plan → Plan
part label e decision p = with_work (Condition e decision) (begun label p)

abbrev pub to_targets : Decision → Targets → Decision
to_targets decision targets = record { targets = targets; depth = decision.depth; is_test = decision.is_test }

abbrev pub tested_or_not : Targets → ℕ → Bool → Decision
tested_or_not targets depth is_test = record { targets = targets; depth = depth; is_test = is_test }

-- `&&` and `||`: the left operand goes to the right one or to a target
abbrev pub logical_condition : LogicalOp → TermTree → TermTree → Decision → Plan → Plan
logical_condition sign left right decision p = part (p.labels + 1) right decision (part p.labels left (to_targets decision (left_targets sign decision.targets (p.labels + 1))) (with_labels 2 p))

-- `?:`: the arms go straight to the targets and are no tests
abbrev pub conditional_condition : TermTree → TermTree → TermTree → Decision → Plan → Plan
conditional_condition test first second decision p = part (p.labels + 2) second (tested_or_not decision.targets decision.depth false) (part (p.labels + 1) first (tested_or_not decision.targets decision.depth false) (part p.labels test (tested_or_not (record { yes = p.labels + 1; no = p.labels + 2 }) decision.depth true) (with_labels 3 p)))

-- a call of fgets: its place and its arguments
pub record LineCallView : Type 0 where
  pub at : Place
  pub arguments : TermTrees

abbrev pub line_call_view_of : LineCall → LineCallView
line_call_view_of c = record { at = c.place; arguments = term_trees (map term_tree c.arguments.now) }

abbrev pub line_call_view : Option LineCall → Option LineCallView
line_call_view None = None
line_call_view (Some c) = Some (line_call_view_of c)

abbrev pub line_call_of : Place → LibFn → TermTrees → Option LineCallView
line_call_of at function args = cond (reads_line function) (Some (record { at = at; arguments = args })) None

abbrev pub line_call_in_form : Place → FormTree → Option LineCallView
line_call_in_form at (tree.Library function args target) = line_call_of at function args
line_call_in_form at _ = None

abbrev pub line_call_in : TermTree → Option LineCallView
line_call_in (Typed at t parens constant form) = line_call_in_form at form

abbrev pub line_call : TermTree → Option LineCallView
line_call e = line_call_in (peeled e)

-- a call of fgets beside a null pointer constant
abbrev pub line_call_beside : TermTree → TermTree → Option LineCallView
line_call_beside left right = cond (is_null_constant right) (line_call left) (cond (is_null_constant left) (line_call right) None)

-- a call of fgets that a condition tests, and whether it is that the answer is not null
pub record ReadView : Type 0 where
  pub call : LineCallView
  pub wants_line : Bool

abbrev pub read_view_of : ReadTest → ReadView
read_view_of r = record { call = line_call_view_of r.call; wants_line = r.wants_line }

abbrev pub read_view : Option ReadTest → Option ReadView
read_view None = None
read_view (Some r) = Some (read_view_of r)

abbrev pub read_test : Option LineCallView → Bool → Option ReadView
read_test None wants_line = None
read_test (Some c) wants_line = Some (record { call = c; wants_line = wants_line })

abbrev pub compared_read : BinaryOp → TermTree → TermTree → Option ReadView
compared_read Equal left right = read_test (line_call_beside left right) false
compared_read NotEqual left right = read_test (line_call_beside left right) true
compared_read _ left right = None

abbrev pub read_by_form : TermTree → FormTree → Option ReadView
read_by_form e (tree.Compare sign left right) = compared_read sign left right
read_by_form e _ = read_test (line_call e) true

-- the call alone, or compared with a null pointer constant
abbrev pub read_by : TermTree → Option ReadView
read_by (Typed at t parens constant form) = read_by_form (Typed at t parens constant form) form

abbrev pub read_targets : Bool → Targets → Targets
read_targets wants_line targets = cond wants_line targets (flipped targets)

abbrev pub read_condition : ReadView → Decision → Plan → Plan
read_condition r decision p = read_line r.call.at r.call.arguments decision.depth None (read_targets r.wants_line decision.targets).no (read_targets r.wants_line decision.targets).yes p

abbrev pub tested : Option Test → Plan → Tested
tested = tests.tested

abbrev pub test_if : SettingView → TermTree → Bool → Plan → Tested
test_if s e is_test p = cond is_test (test_of s e p) (tested None p)

abbrev pub known_by : Option Test → Known
known_by test = record { yes = test; no = opposite_of test; yes_puts = None; no_puts = None }

abbrev pub tested_branch : TermTree → Decision → Tested → Plan
tested_branch e decision found = branch e decision.depth decision.targets (known_by found.test) (with_work (Value e decision.depth) found.after)

abbrev pub plain_condition : SettingView → TermTree → Decision → Plan → Plan
plain_condition s e decision p = tested_branch e decision (test_if s e decision.is_test p)

abbrev pub leaf_of : SettingView → TermTree → Decision → Option ReadView → Plan → Plan
leaf_of s e decision (Some r) p = read_condition r decision p
leaf_of s e decision None p = plain_condition s e decision p

abbrev pub leaf_condition : SettingView → TermTree → Decision → Plan → Plan
leaf_condition s e decision p = leaf_of s e decision (read_by e) p

-- `!` exchanges the targets
abbrev pub negated_condition : TermTree → Decision → Plan → Plan
negated_condition e decision p = with_work (Condition e (to_targets decision (flipped decision.targets))) p

abbrev pub condition_of_form : SettingView → TermTree → FormTree → Decision → Plan → Plan
condition_of_form s e (tree.Logical sign left right) decision p = logical_condition sign left right decision p
condition_of_form s e (tree.Not inner) decision p = negated_condition inner decision p
condition_of_form s e (tree.Conditional test first second) decision p = conditional_condition test first second decision p
condition_of_form s e _ decision p = leaf_condition s e decision p

abbrev pub condition : SettingView → TermTree → Decision → Plan → Plan
condition s (Typed at t parens constant form) decision p = condition_of_form s (Typed at t parens constant form) form decision p
