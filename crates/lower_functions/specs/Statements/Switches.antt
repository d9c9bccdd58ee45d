-- `switch` (6.8.4.2).
use Rattle.std.specs.Prelude.{ℕ, ℤ, cond, List, [], ◌∷◌, ◌++◌, map, length, get_or, Option, Some, None}
use Rattle.cc_base.specs.declared.diagnostics.Place.{Place}
use Rattle.c_layout.specs.CheckedTrees.{TermTree, StatementTree}
use Rattle.c_layout.specs.declared.checked_tree.checked_statements.CaseLabel.{CaseLabel}
use Rattle.cfg.specs.declared.machine_instructions.Scalar.{Scalar}
use Rattle.cfg.specs.declared.machine_instructions.Scalar.TheVariants as scalar
use Rattle.lower_templates.specs.Worklist.Acts as acts
use Rattle.lower_templates.specs.Worklist.Pieces.{ExitView, Case, Other}
use Rattle.lower_templates.specs.Worklist.TermKinds.{integer_type, term_type}
use Rattle.lower_templates.specs.Worklist.Works.{Value, Statement, behind}
use Rattle.lower_templates.specs.Worklist.Plans.{Plan, with_work, with_name, with_labels, with_dispatch, ended, begun, name_of_object}
use Rattle.lower_templates.specs.Worklist.Settings.{SettingView}
use Rattle.lower_templates.specs.declared.worklist.pending_works.Landing.{Landing}
use Rattle.lower_templates.specs.declared.worklist.pending_works.Surroundings.{Surroundings}
use Rattle.lower_templates.specs.declared.worklist.scope_trees.Choice.{Choice}
use Rattle.lower_templates.specs.declared.worklist.template_builder.Dispatch.{Dispatch}
use Rattle.lower_conditions.specs.Tests.{named}
use Rattle.lower_conditions.specs.declared.branch_tests.NamedObject.{NamedObject}
use Rattle.lower_functions.specs.Statements.ScopeJumps.{enters_between, leap}
use Rattle.lower_functions.specs.declared.statements.switch_statements.CaseArm.{CaseArm}
use Rattle.lower_functions.specs.declared.statements.switch_statements.SwitchBegun.{SwitchBegun}

abbrev pub no_dispatch : Dispatch
no_dispatch = record { cases = 0; fallback = 0 }

abbrev pub dispatch_at : Plan → ℕ → Dispatch
dispatch_at p choice = get_or p.dispatches choice no_dispatch

abbrev pub no_choice : Choice
no_choice = record { first = 0; fallback = None }

abbrev pub choice_at : SettingView → ℕ → Choice
choice_at s choice = get_or s.scopes.choices choice no_choice

abbrev pub case_scope : SettingView → ℕ → ℕ
case_scope s number = get_or s.scopes.cases number 0

-- a base where there is one, and what is planned after it was named
pub record Mentioned : Type 0 where
  pub base : Option ℕ
  pub after : Plan

abbrev pub mentioned : Option ℕ → Plan → Mentioned
mentioned b p = record { base = b; after = p }

abbrev pub mention_of : NamedObject → Scalar → Plan → Mentioned
mention_of o (scalar.Int kind) p = mentioned (Some (length p.names)) (with_name (name_of_object o.object) p)
mention_of o scalar.Pointer p = mentioned None p

abbrev pub integer_mention : NamedObject → Plan → Mentioned
integer_mention o p = mention_of o o.kind p

abbrev pub mention_if : Option NamedObject → Plan → Mentioned
mention_if None p = mentioned None p
mention_if (Some o) p = integer_mention o p

-- the integer object that is switched on, where the value is one
abbrev pub switched_object : TermTree → Plan → Mentioned
switched_object e p = mention_if (named e) p

-- a label, and what is planned after it was numbered
pub record Targeted : Type 0 where
  pub to : ℕ
  pub after : Plan

abbrev pub targeted : ℕ → Plan → Targeted
targeted n p = record { to = n; after = p }

-- an edge on whose way objects are entered goes to a block of its own
abbrev pub edge_target : SettingView → ℕ → Landing → Plan → Targeted
edge_target s from to p = cond (enters_between s from to.scope) (targeted p.labels (with_labels 1 p)) (targeted to.label p)

-- the edges of cases, and what is planned after their labels were numbered
pub record Armed : Type 0 where
  pub arms : List CaseArm
  pub after : Plan

abbrev pub armed_with : List CaseArm → Plan → Armed
armed_with arms p = record { arms = arms; after = p }

abbrev pub arm_first : List CaseArm → Armed → Armed
arm_first xs a = armed_with (xs ++ a.arms) a.after

abbrev pub arm_of : ℤ → Landing → Targeted → CaseArm
arm_of value to found = record { value = value; to = found.to; landing = to }

abbrev pub case_landing : SettingView → ℕ → ℕ → Landing
case_landing s label number = record { label = label; scope = case_scope s number }

abbrev pub case_arms : SettingView → ℕ → ℕ → ℕ → List CaseLabel → Plan → Armed
case_arms s from label number [] p = armed_with [] p
case_arms s from label number (c ∷ cs) p = arm_first (arm_of c.value (case_landing s label number) (edge_target s from (case_landing s label number) p) ∷ []) (case_arms s from (behind label 1) (behind number 1) cs (edge_target s from (case_landing s label number) p).after)

abbrev pub case_exit : Option ℕ → CaseArm → ExitView
case_exit object a = record { to = a.to; taken = Case (record { value = a.value; object = object }) }

abbrev pub case_exits : List CaseArm → Option ℕ → List ExitView
case_exits arms object = map (case_exit object) arms

abbrev pub value_of : CaseLabel → ℤ
value_of c = c.value

abbrev pub values : List CaseLabel → List ℤ
values cases = map value_of cases

-- an edge for each case in reading order, and one for all other values
abbrev pub dispatch_exits : List CaseArm → List CaseLabel → Option ℕ → ℕ → List ExitView
dispatch_exits arms cases object other = case_exits arms object ++ record { to = other; taken = Other (values cases) } ∷ []

-- the block of an edge has the enters and a jump to the label's block
abbrev pub edge_block : SettingView → ℕ → ℕ → Landing → Plan → Plan
edge_block s from to landing p = cond (enters_between s from landing.scope) (leap s from landing (begun to p)) p

abbrev pub edge_blocks : SettingView → ℕ → List CaseArm → Plan → Plan
edge_blocks s from [] p = p
edge_blocks s from (a ∷ arms) p = edge_blocks s from arms (edge_block s from a.to a.landing p)

abbrev pub landing_of : Option ℕ → Dispatch → Landing → Landing
landing_of None d after = after
landing_of (Some scope) d after = record { label = d.fallback; scope = scope }

-- the default label, or the end of the switch
abbrev pub other_landing : Choice → Dispatch → Landing → Landing
other_landing c d after = landing_of c.fallback d after

pub record Dispatched : Type 0 where
  pub labels : Dispatch
  pub after : Plan

abbrev pub dispatched : Dispatch → Plan → Dispatched
dispatched d p = record { labels = d; after = p }

-- labels for so many cases and for the default
abbrev pub new_dispatch : ℕ → Plan → Dispatched
new_dispatch count p = dispatched (record { cases = p.labels; fallback = (with_labels count p).labels }) (with_labels 1 (with_labels count p))

pub record Began : Type 0 where
  pub begun : SwitchBegun
  pub after : Plan

abbrev pub begun_with : SwitchBegun → Plan → Began
begun_with b p = record { begun = b; after = p }

abbrev pub begin_behind : ℕ → Dispatched → Began
begin_behind scope d = begun_with (record { choice = length d.after.dispatches; dispatch = d.labels; after = record { label = (with_dispatch d.labels d.after).labels; scope = scope } }) (with_labels 1 (with_dispatch d.labels d.after))

-- a switch gets labels for its cases, its default and its end, and a number
abbrev pub begin_switch : ℕ → ℕ → Plan → Began
begin_switch count scope p = begin_behind scope (new_dispatch count p)

abbrev pub in_switch : Surroundings → SwitchBegun → Surroundings
in_switch around b = record { scope = around.scope; on_break = b.after; on_continue = around.on_continue; choice = b.choice }

abbrev pub dispatch_behind : SettingView → Place → TermTree → List CaseLabel → ℕ → Landing → List CaseArm → ℕ → Mentioned → Plan
dispatch_behind s at e cases from landing arms other found = edge_block s from other landing (edge_blocks s from arms (ended at (acts.Switch 0 (integer_type (term_type e))) (dispatch_exits arms cases found.base other) (with_work (Value e 0) found.after)))

abbrev pub dispatch_other : SettingView → Place → TermTree → List CaseLabel → ℕ → Landing → List CaseArm → Targeted → Plan
dispatch_other s at e cases from landing arms other = dispatch_behind s at e cases from landing arms other.to (switched_object e other.after)

abbrev pub dispatch_arms : SettingView → Place → TermTree → List CaseLabel → ℕ → Landing → Armed → Plan
dispatch_arms s at e cases from landing a = dispatch_other s at e cases from landing a.arms (edge_target s from landing a.after)

-- the dispatch, and then the blocks of its edges in their order
abbrev pub dispatch : SettingView → Place → TermTree → List CaseLabel → ℕ → SwitchBegun → Plan → Plan
dispatch s at e cases from b p = dispatch_arms s at e cases from (other_landing (choice_at s b.choice) b.dispatch b.after) (case_arms s from b.dispatch.cases (choice_at s b.choice).first cases p)

abbrev pub switch_behind : SettingView → Place → TermTree → List CaseLabel → StatementTree → Surroundings → Began → Plan
switch_behind s at e cases body around b = begun b.begun.after.label (with_work (Statement body (in_switch around b.begun)) (dispatch s at e cases around.scope b.begun b.after))

abbrev pub switch : SettingView → Place → TermTree → List CaseLabel → StatementTree → Surroundings → Plan → Plan
switch s at e cases body around p = switch_behind s at e cases body around (begin_switch (length cases) around.scope p)
