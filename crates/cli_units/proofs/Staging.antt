-- Why a unit that was expanded is refused at a stage.
use Rattle.std.proofs.Common.{◌≡◌, ℕ, refl, sym, subst, cond, Some, Err, inl, inr}
use Rattle.cc_base.specs.Standard.{standard_limits}
use Rattle.cc_base.specs.declared.limit_table.Limits.{Limits}
use Rattle.cc_base.specs.declared.refusals.Fault.{Fault}
use Rattle.cc_base.specs.declared.refusals.Stop.{Stop}
use Rattle.cc_base.specs.declared.refusals.Stop.TheVariants as stop
use Rattle.c_layout.specs.declared.unit_tokens.Unit7.{Unit7}
use Rattle.c_layout.specs.declared.syntax_tree.declarations.Tree7.{Tree7}
use Rattle.c_layout.specs.declared.checked_tree.checked_units.Checked.{Checked}
use Rattle.c_types_scopes.specs.Answers.{Gives}
use Rattle.c_layout.specs.CheckedUnits.{unit_view}
use Rattle.c_layout.specs.DeclarationTrees.{unit_tree}
use Rattle.c_types.specs.Units.UnitChecks.{check}
use Rattle.lower.specs.Inlining.Lowerings.{Refuses}
use Rattle.cfg.specs.declared.programs.Flow.{Flow}
use Rattle.lower_templates.specs.Views.ProgramViews.{flow_view}
use Rattle.loop_unrolling.specs.SplitCounts.{Splits}
use Rattle.cli_units.specs.Stages.{stage_of, same_stage, stop_at}
use Rattle.cli_units.specs.declared.stages.Stage.{Stage}
use Rattle.cli_units.specs.declared.stages.Stage.TheVariants as stage
use Rattle.cli_units.specs.Judging.{SettingView, IsParsed, IsTyped, IsLowered, IsUnrolledPast, IsPast, RefusesAt, StopsUnit}

kept_typing : (u : Unit7) (g : SettingView) (tree : Tree7) → IsParsed u tree → (f : Fault) → check g.model g.entry (unit_tree tree) ≡ Err f → (at : Stage) → stage_of f.refusal ≡ at → StopsUnit u g (cond (same_stage stage.Typing at) (stop.Refused f) stop.Memory)
kept_typing u g tree parsed f refused stage.Expansion e = tt
kept_typing u g tree parsed f refused stage.Numbers e = tt
kept_typing u g tree parsed f refused stage.Grammar e = tt
kept_typing u g tree parsed f refused stage.Typing e = subst (λ at. RefusesAt u g f at) (sym e) (tree, parsed, refused)
kept_typing u g tree parsed f refused stage.Counting e = tt

-- what stops typing
pub typing_stops : (u : Unit7) (g : SettingView) (tree : Tree7) → IsParsed u tree → (s : Stop) → Gives unit_view (check g.model g.entry (unit_tree tree)) (Err s) → StopsUnit u g (stop_at stage.Typing s)
typing_stops u g tree parsed (stop.Refused f) given = kept_typing u g tree parsed f given (stage_of f.refusal) refl
typing_stops u g tree parsed stop.NotHeld given = tt
typing_stops u g tree parsed stop.ReadFault given = tt
typing_stops u g tree parsed stop.Memory given = tt

kept_counting : (u : Unit7) (g : SettingView) (tree : Tree7) → IsParsed u tree → (f : Fault) → IsPast g tree f → (at : Stage) → stage_of f.refusal ≡ at → StopsUnit u g (cond (same_stage stage.Counting at) (stop.Refused f) stop.Memory)
kept_counting u g tree parsed f past stage.Expansion e = tt
kept_counting u g tree parsed f past stage.Numbers e = tt
kept_counting u g tree parsed f past stage.Grammar e = tt
kept_counting u g tree parsed f past stage.Typing e = tt
kept_counting u g tree parsed f past stage.Counting e = subst (λ at. RefusesAt u g f at) (sym e) (tree, parsed, past)

-- what stops the counts of a checked unit's program
pub counting_stops : (u : Unit7) (g : SettingView) (tree : Tree7) → IsParsed u tree → (checked : Checked) → IsTyped g tree checked → (limits : Limits) → limits ≡ standard_limits → (s : Stop) → Refuses (unit_view checked) limits s → StopsUnit u g (stop_at stage.Counting s)
counting_stops u g tree parsed checked typed limits same (stop.Refused f) past =
    kept_counting u g tree parsed f (record { checked = checked; typed = typed; past = inl (subst (λ l. Refuses (unit_view checked) l (stop.Refused f)) same past) }) (stage_of f.refusal) refl
counting_stops u g tree parsed checked typed limits same stop.NotHeld past = tt
counting_stops u g tree parsed checked typed limits same stop.ReadFault past = tt
counting_stops u g tree parsed checked typed limits same stop.Memory past = tt

-- what stops the counts of the program with turns unrolled
pub turning_stops : (u : Unit7) (g : SettingView) (tree : Tree7) → IsParsed u tree → (checked : Checked) → IsTyped g tree checked → (flow : Flow) → IsLowered checked flow → (turns : ℕ) → g.turns ≡ Some turns → (limits : Limits) → limits ≡ standard_limits → (s : Stop) → Splits limits turns (flow_view flow) s → StopsUnit u g (stop_at stage.Counting s)
turning_stops u g tree parsed checked typed flow lowered turns asked limits same (stop.Refused f) past =
    let over = subst (λ l. Splits l turns (flow_view flow) (stop.Refused f)) same past in
    kept_counting u g tree parsed f (record { checked = checked; typed = typed; past = inr (subst (λ t. IsUnrolledPast t checked f) (sym asked) (flow, lowered, over)) }) (stage_of f.refusal) refl
turning_stops u g tree parsed checked typed flow lowered turns asked limits same stop.NotHeld past = tt
turning_stops u g tree parsed checked typed flow lowered turns asked limits same stop.ReadFault past = tt
turning_stops u g tree parsed checked typed flow lowered turns asked limits same stop.Memory past = tt
