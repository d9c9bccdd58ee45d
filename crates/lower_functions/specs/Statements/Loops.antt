-- Selections and loops (6.8.4.1 and 6.8.5): their parts begin blocks, in order of placing.
use Rattle.std.specs.Prelude.{ℕ, ◌+◌, true, List, Option, Some, None}
use Rattle.cc_base.specs.declared.diagnostics.Place.{Place}
use Rattle.c_layout.specs.CheckedTrees.{TermTree, StatementTree, StatementTrees}
use Rattle.lower_templates.specs.Worklist.Works.{Unused, Condition, Statement}
use Rattle.lower_templates.specs.Worklist.Plans.{Plan, with_work, with_labels, with_scope, begun}
use Rattle.lower_templates.specs.Worklist.Settings.{SettingView}
use Rattle.lower_templates.specs.declared.worklist.pending_works.Surroundings.{Surroundings}
use Rattle.lower_expressions.specs.Branches.{jump}
use Rattle.lower_functions.specs.Statements.ScopeJumps.{all_entered, all_left}
use Rattle.lower_functions.specs.Statements.PlainStatements.{all_statements, in_scope}

-- a controlling expression in a block of its own
abbrev pub condition : ℕ → TermTree → ℕ → ℕ → Plan → Plan
condition label e first second p = with_work (Condition e (record { targets = record { yes = first; no = second }; depth = 0; is_test = true })) (begun label p)

abbrev pub part : ℕ → StatementTree → Surroundings → Plan → Plan
part label body around p = with_work (Statement body around) (begun label p)

-- condition, then part, after
abbrev pub selection : TermTree → StatementTree → Surroundings → Plan → Plan
selection e body around p = begun (p.labels + 2) (part (p.labels + 1) body around (condition p.labels e (p.labels + 1) (p.labels + 2) (with_labels 3 p)))

-- condition, then part, else part, after
abbrev pub two_way_selection : SettingView → TermTree → StatementTree → StatementTree → Surroundings → Plan → Plan
two_way_selection s e body other around p = begun (p.labels + 3) (part (p.labels + 2) other around (jump s.at (p.labels + 3) (part (p.labels + 1) body around (condition p.labels e (p.labels + 1) (p.labels + 2) (with_labels 4 p)))))

-- where `break` and `continue` go in a loop's body
abbrev pub in_loop : Surroundings → ℕ → ℕ → Surroundings
in_loop around on_break on_continue = record { scope = around.scope; on_break = record { label = on_break; scope = around.scope }; on_continue = record { label = on_continue; scope = around.scope }; choice = around.choice }

-- condition, body, after
abbrev pub while_loop : SettingView → TermTree → StatementTree → Surroundings → Plan → Plan
while_loop s e body around p = begun (p.labels + 2) (jump s.at p.labels (part (p.labels + 1) body (in_loop around (p.labels + 2) p.labels) (condition p.labels e (p.labels + 1) (p.labels + 2) (with_labels 3 p))))

-- body, condition, after
abbrev pub do_loop : StatementTree → TermTree → Surroundings → Plan → Plan
do_loop body e around p = begun (p.labels + 2) (condition (p.labels + 1) e p.labels (p.labels + 2) (part p.labels body (in_loop around (p.labels + 2) (p.labels + 1)) (with_labels 3 p)))

-- a condition that is left out has no test and no branch
abbrev pub check : ℕ → Option TermTree → ℕ → ℕ → Plan → Plan
check label None first second p = begun label p
check label (Some e) first second p = condition label e first second p

abbrev pub unused : Option TermTree → Plan → Plan
unused None p = p
unused (Some e) p = with_work (Unused e 0) p

abbrev pub step : Place → ℕ → Option TermTree → ℕ → Plan → Plan
step at label e back p = jump at back (unused e (begun label p))

abbrev pub first_clause : Place → ℕ → List ℕ → StatementTrees → Surroundings → Plan → Plan
first_clause at label objects items inside p = all_statements items inside (all_entered at objects (begun label p))

-- condition, body, step
abbrev pub turn : Place → ℕ → Option TermTree → Option TermTree → StatementTree → Surroundings → Plan → Plan
turn at first test after body inside p = step at (first + 3) after (first + 1) (part (first + 2) body (in_loop inside (first + 4) (first + 3)) (check (first + 1) test (first + 2) (first + 4) p))

abbrev pub for_from : SettingView → ℕ → List ℕ → StatementTrees → Option TermTree → Option TermTree → StatementTree → Surroundings → Plan → Plan
for_from s first objects items test after body inside p = all_left s.at objects (begun (first + 4) (turn s.at first test after body inside (first_clause s.at first objects items inside (with_labels 5 p))))

-- first clause, condition, body, step, after: the objects of the first clause are a scope of their own
abbrev pub for_loop : SettingView → List ℕ → StatementTrees → Option TermTree → Option TermTree → StatementTree → Surroundings → Plan → Plan
for_loop s objects items test after body around p = for_from s (with_scope p).labels objects items test after body (in_scope around p.scopes) (with_scope p)
