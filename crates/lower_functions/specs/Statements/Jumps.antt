-- Labels and jumps (6.8.1 and 6.8.6).
use Rattle.std.specs.Prelude.{ℕ, Bool, cond, List, [], length, get_or, Option, Some, None}
use Rattle.cc_base.specs.declared.diagnostics.Place.{Place}
use Rattle.c_layout.specs.CheckedTrees.{TermTree, StatementTree}
use Rattle.lower_templates.specs.Worklist.Acts as acts
use Rattle.lower_templates.specs.Worklist.Pieces.{Outcome}
use Rattle.lower_templates.specs.Worklist.TermKinds.{scalar_of, term_type}
use Rattle.lower_templates.specs.Worklist.Works.{Value, behind}
use Rattle.lower_templates.specs.Worklist.Plans.{Plan, with_work, with_name, done, ended}
use Rattle.lower_templates.specs.Worklist.Settings.{SettingView}
use Rattle.lower_templates.specs.declared.worklist.pending_works.Surroundings.{Surroundings}
use Rattle.lower_expressions.specs.Branches.{jump}
use Rattle.lower_functions.specs.Statements.ScopeJumps.{all_left, way_between, leap}
use Rattle.lower_functions.specs.Statements.Loops.{part}
use Rattle.lower_functions.specs.Statements.Switches.{dispatch_at}

-- a labelled statement begins a block
abbrev pub labelled : ℕ → StatementTree → Surroundings → Plan → Plan
labelled label body around p = part label body around p

abbrev pub case_labelled : ℕ → StatementTree → Surroundings → Plan → Plan
case_labelled n body around p = labelled (behind (dispatch_at p around.choice).cases n) body around p

abbrev pub default_labelled : StatementTree → Surroundings → Plan → Plan
default_labelled body around p = labelled (dispatch_at p around.choice).fallback body around p

abbrev pub label_scope : SettingView → ℕ → ℕ → ℕ
label_scope s label other = get_or s.scopes.labels label other

abbrev pub go : SettingView → ℕ → Surroundings → Plan → Plan
go s label around p = leap s around.scope (record { label = label; scope = label_scope s label around.scope }) p

-- the run ends
abbrev pub stopped : Place → Plan → Plan
stopped at p = ended at acts.Stop [] p

-- the parameters are left, and a jump leads behind the body
abbrev pub exit : SettingView → Plan → Plan
exit s p = jump s.at s.end (all_left s.at s.parameters p)

abbrev pub end_behind : SettingView → Place → Plan → Plan
end_behind s at p = cond s.is_entry (stopped at p) (exit s p)

-- at a return the blocks are left, innermost first; from the entry the run stops
abbrev pub end : SettingView → Place → ℕ → Plan → Plan
end s at from p = end_behind s at (way_between s from 0 p)

-- address of the result, value, store
abbrev pub outcome : Place → TermTree → Plan → Plan
outcome at e p = done at (acts.Store 0 1 (scalar_of (term_type e)) None) (with_work (Value e 1) (done at (acts.Address 0 (length p.names) 0) (with_name Outcome p)))

abbrev pub given : SettingView → Place → Option TermTree → Plan → Plan
given s at None p = p
given s at (Some e) p = cond s.is_entry (with_work (Value e 0) p) (outcome at e p)

abbrev pub giving : SettingView → Place → Option TermTree → Surroundings → Plan → Plan
giving s at e around p = end s at around.scope (given s at e p)
