-- Terms that branch: `&&`, `||` and `?:` (6.5.13 to 6.5.15). Each operand begins a block.
use Rattle.std.specs.Prelude.{ℕ, ℤ, pos, ◌+◌, Bool, true, false, cond, List, [], ◌∷◌, Option, Some, None}
use Rattle.cc_base.specs.declared.diagnostics.Place.{Place}
use Rattle.c_layout.specs.CheckedTrees.{TermTree}
use Rattle.c_layout.specs.declared.syntax_tree.expressions.LogicalOp.{LogicalOp}
use Rattle.c_layout.specs.declared.syntax_tree.expressions.LogicalOp.TheVariants.{And, Or}
use Rattle.lower_templates.specs.Worklist.Acts.{Jump, Branch}
use Rattle.lower_templates.specs.Worklist.Pieces.{ExitView, When, Always}
use Rattle.lower_templates.specs.Worklist.TermKinds.{scalar_of, term_at, term_type}
use Rattle.lower_templates.specs.Worklist.Works.{Job, Value, Unused, Condition}
use Rattle.lower_templates.specs.Worklist.Plans.{Plan, with_work, with_labels, ended, begun}
use Rattle.lower_templates.specs.Worklist.Settings.{SettingView}
use Rattle.lower_templates.specs.declared.worklist.pending_works.Targets.{Targets}
use Rattle.lower_templates.specs.declared.worklist.pending_works.Decision.{Decision}
use Rattle.lower_expressions.specs.declared.branched_values.Known.{Known}

-- the edges of a branch, the true one first
abbrev pub branch_exits : Targets → Known → List ExitView
branch_exits targets known = record { to = targets.yes; taken = When true known.yes known.yes_puts } ∷ (record { to = targets.no; taken = When false known.no known.no_puts } ∷ [])

abbrev pub branch : TermTree → ℕ → Targets → Known → Plan → Plan
branch e depth targets known p = ended (term_at e) (Branch depth (scalar_of (term_type e))) (branch_exits targets known) p

abbrev pub jump_exits : ℕ → List ExitView
jump_exits to = record { to = to; taken = Always } ∷ []

abbrev pub jump : Place → ℕ → Plan → Plan
jump at to p = ended at Jump (jump_exits to) p

-- the right operand is come to where the left one does not decide
abbrev pub left_targets : LogicalOp → Targets → ℕ → Targets
left_targets And targets right = record { yes = right; no = targets.no }
left_targets Or targets right = record { yes = targets.yes; no = right }

abbrev pub left_known : LogicalOp → ℕ → Known
left_known And depth = record { yes = None; no = None; yes_puts = None; no_puts = Some (depth, pos 0) }
left_known Or depth = record { yes = None; no = None; yes_puts = Some (depth, pos 1); no_puts = None }

abbrev pub right_known : ℕ → Known
right_known depth = record { yes = None; no = None; yes_puts = Some (depth, pos 1); no_puts = Some (depth, pos 0) }

abbrev pub operand : ℕ → TermTree → ℕ → Targets → Known → Plan → Plan
operand first e depth targets known p = branch e depth targets known (with_work (Value e depth) (begun first p))

abbrev pub both : ℕ → Targets
both after = record { yes = after; no = after }

-- the value of `&&` or `||`: each operand ends in a branch, whose edges put 0 or 1
abbrev pub logical : LogicalOp → TermTree → TermTree → ℕ → Plan → Plan
logical sign left right depth p = begun (p.labels + 2) (operand (p.labels + 1) right depth (both (p.labels + 2)) (right_known depth) (operand p.labels left depth (left_targets sign (both (p.labels + 2)) (p.labels + 1)) (left_known sign depth) (with_labels 3 p)))

abbrev pub arm : TermTree → ℕ → Bool → Job
arm e depth used = cond used (Value e depth) (Unused e depth)

abbrev pub arm_at : ℕ → TermTree → ℕ → Bool → Plan → Plan
arm_at label e depth used p = with_work (arm e depth used) (begun label p)

-- a condition that is a test
abbrev pub decided : Targets → ℕ → Decision
decided targets depth = record { targets = targets; depth = depth; is_test = true }

abbrev pub choice : ℕ → TermTree → ℕ → Targets → Plan → Plan
choice first e depth targets p = with_work (Condition e (decided targets depth)) (begun first p)

-- `?:`: condition, second operand, third operand, after
abbrev pub conditional : SettingView → TermTree → TermTree → TermTree → ℕ → Bool → Plan → Plan
conditional s test first second depth used p = begun (p.labels + 3) (arm_at (p.labels + 2) second depth used (jump s.at (p.labels + 3) (arm_at (p.labels + 1) first depth used (choice p.labels test depth (record { yes = p.labels + 1; no = p.labels + 2 }) (with_labels 4 p)))))
