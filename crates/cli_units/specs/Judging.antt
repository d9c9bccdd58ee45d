-- What a unit that was expanded comes to: the work behind the expansion, layer by layer, as far as the layers have clauses.
use Rattle.std.specs.Prelude.{◌≡◌, ◌+◌, ◌++◌, ◌⊎◌, ℕ, ℤ, true, List, [], ◌∷◌, length, Option, Some, None, Ok, Err}
use Rattle.cc_base.specs.Ascending.{is_ascending}
use Rattle.cc_base.specs.DiagnosticOrder.{IsOrderedSet}
use Rattle.cc_base.specs.Standard.{standard_limits}
use Rattle.cc_base.specs.declared.diagnostics.Diag.{Diag}
use Rattle.cc_base.specs.declared.refusals.Fault.{Fault}
use Rattle.cc_base.specs.declared.refusals.Stop.{Stop}
use Rattle.cc_base.specs.declared.refusals.Stop.TheVariants as stop
use Rattle.c_layout.specs.declared.data_model.Model.{Model}
use Rattle.c_layout.specs.CheckedUnits.{unit_view}
use Rattle.c_layout.specs.Models.{is_model}
use Rattle.c_layout.specs.DeclarationTrees.{unit_tree}
use Rattle.c_layout.specs.declared.unit_tokens.Unit7.{Unit7}
use Rattle.c_layout.specs.declared.syntax_tree.declarations.Tree7.{Tree7}
use Rattle.c_layout.specs.declared.checked_tree.checked_units.Checked.{Checked}
use Rattle.c_parser_tokens.specs.Classes.{classified}
use Rattle.c_parser.specs.Externals.{IsUnit}
use Rattle.c_parser.specs.Refusals.{Refuses}
use Rattle.c_types.specs.Units.UnitChecks.{check}
use Rattle.syntactic_rules.specs.StatementPlaces.{unit_places}
use Rattle.cfg.specs.declared.programs.Flow.{Flow}
use Rattle.cfg.specs.Nearest.{AreThresholds}
use Rattle.cfg.specs.ThresholdNumbers.{limits_of}
use Rattle.cfg.specs.StructNumbers.{flow_numbers}
use Rattle.lower_preconditions.specs.Objects.PlainObjects.{has_plain_objects}
use Rattle.lower_preconditions.specs.Units.RegularUnits.{is_regular_unit}
use Rattle.c_layout.specs.ByteTexts.{have_byte_texts}
use Rattle.lower.specs.Inlining.Lowerings as lowering
use Rattle.lower.specs.Inlining.Lowerings.{IsLowering}
use Rattle.analysis.specs.Analyses.{IsAnalysis}
use Rattle.lower_templates.specs.Views.ProgramViews.{flow_view}
use Rattle.loop_unrolling.specs.SplitCounts.{Splits}
use Rattle.loop_unrolling.specs.Turns.{split}
use Rattle.lower_objects.specs.Counts.Extents.{capped}
use Rattle.cfg.specs.WellFormed.{base_cells, is_well_formed}
use Rattle.c_layout.specs.declared.shapes.BaseInfo.{BaseInfo}
use Rattle.cli_units.specs.declared.unit_answers.Judged.{Judged}
use Rattle.cli_units.specs.declared.unit_answers.Setting.{Setting}
use Rattle.cli_units.specs.Stages.{stage_of}
use Rattle.cli_units.specs.declared.stages.Stage.{Stage}
use Rattle.cli_units.specs.declared.stages.Stage.TheVariants as stage

-- how a unit is judged: under a model, from an entry on, and with so many turns of its loops unrolled
-- where some are asked for
pub record SettingView : Type 0 where
  pub model : Model
  pub entry : List ℕ
  pub turns : Option ℕ

abbrev pub judging : Model → List ℕ → Option ℕ → SettingView
judging m entry turns = record { model = m; entry = entry; turns = turns }

abbrev pub setting_view : Setting → SettingView
setting_view s = judging s.model.now s.entry.now s.turns

-- a tree that the tokens derive
abbrev pub IsParsed : Unit7 → Tree7 → Type 0
IsParsed unit tree = IsUnit unit.model unit.tokens (unit_tree tree)

-- the checked unit that a tree is under the model and the entry
pub record IsTyped (s : SettingView) (tree : Tree7) (checked : Checked) : Type 0 where
  pub checks : check s.model s.entry (unit_tree tree) ≡ Ok (unit_view checked)
  pub model : checked.model ≡ s.model

-- what typing does not ask, and a run needs in order not to be stuck: the model is one, and the tokens are of bytes
pub record IsLooked (unit : Unit7) (s : SettingView) : Type 0 where
  pub proper : is_model s.model ≡ true
  pub model : unit.model ≡ s.model
  pub bytes : have_byte_texts unit.tokens ≡ true

-- the program of a checked unit
pub record IsLowered (checked : Checked) (flow : Flow) : Type 0 where
  pub lowers : IsLowering (unit_view checked) standard_limits (flow_view flow)
  pub model : flow.model ≡ checked.model

-- the program that is analysed: that of the unit, or the one with so many turns of its loops unrolled
abbrev pub IsUnrolled : Option ℕ → Flow → Flow → Type 0
IsUnrolled None flow analysed = analysed ≡ flow
IsUnrolled (Some turns) flow analysed = flow_view analysed ≡ split turns (flow_view flow)

-- what the syntactic rules find in a checked unit, and behind it what the analysis finds in the program
-- that is analysed, with bounds rounded to the thresholds of the unit's program, in order
pub record IsFound (checked : Checked) (flow analysed : Flow) (pairs : List Diag) : Type 0 where
  pub texts : List Diag
  pub by_texts : IsOrderedSet (unit_places checked) texts
  pub list : List ℤ
  pub thresholds : AreThresholds (limits_of flow.model) (flow_numbers flow) list
  pub ascending : is_ascending list ≡ true
  pub runs : List Diag
  pub by_runs : IsAnalysis analysed list runs
  pub both : pairs ≡ texts ++ runs

-- what is told of an accepted unit: pairs of place and rule, and how many bases and cells its program has
pub record Judgement : Type 0 where
  pub pairs : List Diag
  pub bases : ℕ
  pub cells : ℕ

abbrev pub judgement : Judged → Judgement
judgement j = record { pairs = j.diags.items; bases = j.bases; cells = j.cells }

-- the cells of bases, from a count on
abbrev pub cells_from : ℕ → List BaseInfo → ℕ
cells_from n [] = n
cells_from n (b ∷ bs) = cells_from (capped (n + base_cells b)) bs

abbrev pub cell_count : Flow → ℕ
cell_count flow = cells_from 0 flow.bases.items

-- an accepted unit: its checked unit, which was looked at, whose objects are plain and whose functions are regular, its
-- well-formed program, the program that is analysed, and what is found
pub record IsJudged (unit : Unit7) (s : SettingView) (j : Judgement) : Type 0 where
  pub tree : Tree7
  pub parsed : IsParsed unit tree
  pub checked : Checked
  pub typed : IsTyped s tree checked
  pub looked : IsLooked unit s
  pub plain : has_plain_objects (unit_view checked) ≡ true
  pub regular : is_regular_unit (unit_view checked) ≡ true
  pub flow : Flow
  pub lowered : IsLowered checked flow
  pub made : is_well_formed standard_limits flow ≡ true
  pub analysed : Flow
  pub turned : IsUnrolled s.turns flow analysed
  pub well_formed : is_well_formed standard_limits analysed ≡ true
  pub found : IsFound checked flow analysed j.pairs
  pub bases : j.bases ≡ length flow.bases.items
  pub cells : j.cells ≡ cell_count flow

-- a count of a unit's program, or of the one with turns unrolled, that passes its limit
abbrev pub IsUnrolledPast : Option ℕ → Checked → Fault → Type 0
IsUnrolledPast None checked why = ⊥
IsUnrolledPast (Some turns) checked why = (flow : Flow) × IsLowered checked flow × Splits standard_limits turns (flow_view flow) (stop.Refused why)

-- the count of the checked unit's program that is the first to pass its limit, at the name of the entry
pub record IsPast (s : SettingView) (tree : Tree7) (why : Fault) : Type 0 where
  pub checked : Checked
  pub typed : IsTyped s tree checked
  pub past : lowering.Refuses (unit_view checked) standard_limits (stop.Refused why) ⊎ IsUnrolledPast s.turns checked why

-- why a unit that was expanded is refused, by the stage of the refusal
abbrev pub RefusesAt : Unit7 → SettingView → Fault → Stage → Type 0
RefusesAt unit s why stage.Expansion = ⊥
RefusesAt unit s why stage.Numbers = Refuses (classified unit.model unit.tokens) (stop.Refused why)
RefusesAt unit s why stage.Grammar = Refuses (classified unit.model unit.tokens) (stop.Refused why)
RefusesAt unit s why stage.Typing = (tree : Tree7) × IsParsed unit tree × (check s.model s.entry (unit_tree tree) ≡ Err why)
RefusesAt unit s why stage.Counting = (tree : Tree7) × IsParsed unit tree × IsPast s tree why

abbrev pub RefusesUnit : Unit7 → SettingView → Fault → Type 0
RefusesUnit unit s why = RefusesAt unit s why (stage_of why.refusal)

abbrev pub StopsUnit : Unit7 → SettingView → Stop → Type 0
StopsUnit unit s (stop.Refused why) = RefusesUnit unit s why
StopsUnit unit s stop.NotHeld = ⊥
StopsUnit unit s stop.ReadFault = ⊥
StopsUnit unit s stop.Memory = Unit {0}
