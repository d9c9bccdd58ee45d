-- A unit that each stage behind the expansion accepts, and what is said of it.
use Rattle.std.specs.Prelude.{◌≡◌, ◌≤◌, ℕ, length, Option, Some, None}
use Rattle.cc_base.specs.Standard.{standard_limits}
use Rattle.cc_base.specs.declared.refusals.Fault.{Fault}
use Rattle.cc_base.specs.declared.refusals.Stop.TheVariants as stop
use Rattle.c_layout.specs.CheckedUnits.{unit_view}
use Rattle.c_layout.specs.DeclarationTrees.{unit_tree}
use Rattle.c_layout.specs.declared.unit_tokens.Unit7.{Unit7}
use Rattle.c_layout.specs.declared.syntax_tree.declarations.Tree7.{Tree7}
use Rattle.c_layout.specs.declared.checked_tree.checked_units.Checked.{Checked}
use Rattle.cfg.specs.declared.programs.Flow.{Flow}
use Rattle.lower_templates.specs.Views.ProgramViews.{flow_view}
use Rattle.loop_unrolling.specs.SplitCounts.{Splits, first_over, split_counts}
use Rattle.cli_units.specs.Judging.{SettingView, IsParsed, IsTyped, IsLowered, Judgement, IsJudged, RefusesUnit}

-- as short as an expansion leaves a unit
abbrev pub IsShort : Unit7 → Type 0
IsShort unit = length unit.tokens ≤ 131072

-- a unit with a tree, which has a checked unit, which has a program
pub record HasProgram (unit : Unit7) (s : SettingView) : Type 0 where
  pub tree : Tree7
  pub parsed : IsParsed unit tree
  pub checked : Checked
  pub typed : IsTyped s tree checked
  pub flow : Flow
  pub lowered : IsLowered checked flow

-- no count of a program passes its limit when so many turns of its loops are unrolled
abbrev pub FitsUnrolled : Option ℕ → Flow → Type 0
FitsUnrolled None flow = Unit {0}
FitsUnrolled (Some turns) flow = first_over standard_limits (split_counts turns (flow_view flow)) ≡ None

pub record IsAccepted (unit : Unit7) (s : SettingView) : Type 0 where
  pub program : HasProgram unit s
  pub fits : FitsUnrolled s.turns program.flow

-- a count of a program passes its limit when so many turns of its loops are unrolled
abbrev pub PassesUnrolled : Option ℕ → Flow → Fault → Type 0
PassesUnrolled None flow why = ⊥
PassesUnrolled (Some turns) flow why = Splits standard_limits turns (flow_view flow) (stop.Refused why)

-- ---- one tree, one checked unit, one program

abbrev pub OneTree : Type 0
OneTree = (unit : Unit7) (a b : Tree7) → IsParsed unit a → IsParsed unit b → unit_tree a ≡ unit_tree b

abbrev pub OneCheckedUnit : Type 0
OneCheckedUnit =
    (unit : Unit7) (s : SettingView) (a b : Tree7) (c d : Checked) → IsParsed unit a → IsParsed unit b → IsTyped s a c → IsTyped s b d → unit_view c ≡ unit_view d

abbrev pub OneProgram : Type 0
OneProgram = (unit : Unit7) (s : SettingView) (a b : HasProgram unit s) → flow_view a.flow ≡ flow_view b.flow

-- ---- what is accepted is not refused

-- a refusal of a unit with a program is of the program with turns unrolled
abbrev pub RefusedForTurns : Type 0
RefusedForTurns = (unit : Unit7) (s : SettingView) (p : HasProgram unit s) (why : Fault) → IsShort unit → RefusesUnit unit s why → PassesUnrolled s.turns p.flow why

abbrev pub AcceptedNotRefused : Type 0
AcceptedNotRefused = (unit : Unit7) (s : SettingView) (why : Fault) → IsShort unit → IsAccepted unit s → RefusesUnit unit s why → ⊥

-- a unit that is judged with no loop unrolled
abbrev pub JudgedNotRefused : Type 0
JudgedNotRefused = (unit : Unit7) (s : SettingView) (j : Judgement) (why : Fault) → IsShort unit → s.turns ≡ None → IsJudged unit s j → RefusesUnit unit s why → ⊥
