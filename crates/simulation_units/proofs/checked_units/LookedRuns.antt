-- Runs of units that pass the looks are never stuck, and so each is one of the program.
use Rattle.std.proofs.Common.{◌≡◌, ℕ, ℤ, List, Some, refl, inl, inr}
use Rattle.c_layout.specs.CheckedUnits.{UnitView}
use Rattle.semantics.specs.CfgMachine.FlowStates.{FlowRun}
use Rattle.semantics.specs.CfgMachine.FlowSteps.{flow_steps}
use Rattle.semantics.specs.CfgMachine.FlowStarts.{flow_begin}
use Rattle.lower_templates.specs.Views.ProgramViews.{flow_view}
use Rattle.memory_model.specs.Effects.Worlds.{Ended, Violated, OutOfDraws, Left, Stuck}
use Rattle.semantics.specs.SourceMachine.SourceRuns.{SourceRun, running, stopped, Run, why_of}
use Rattle.source_preservation.specs.UnitChecks.LookLaws.{LooksMark, LooksScope, LooksStand}
use Rattle.source_preservation.specs.Safety.DefinedRuns.{RunsAreNeverStuck}
use Rattle.simulation_units.specs.Units.UnitRuns.{Agree, AgreeUnlessStuck, UnitRunsAreProgramRuns}
use Rattle.simulation_units.specs.CheckedUnits.LookedRuns.{PassesLooks, LookedUnitsAreNeverStuck, LookedRunsAreProgramRuns}

pub never_stuck : LooksMark → LooksScope → LooksStand → RunsAreNeverStuck → LookedUnitsAreNeverStuck
never_stuck mark scope stand never u passes = never u (record { jumps = stand u passes.well_typed; well_typed = mark u passes.well_typed; scoped = scope u passes.scoped })

-- why a run has stopped says that it has
not_stuck : LookedUnitsAreNeverStuck → (u : UnitView) → PassesLooks u → (draws : List ℤ) (n : ℕ) (r : SourceRun) → Run u draws n ≡ r → why_of r ≡ Some Stuck → ⊥
not_stuck never u passes draws n (running s found steps) is why = cc
not_stuck never u passes draws n (stopped Stuck w found steps) is why = never u passes draws n w found steps is
not_stuck never u passes draws n (stopped Ended w found steps) is why = cc
not_stuck never u passes draws n (stopped Violated w found steps) is why = cc
not_stuck never u passes draws n (stopped OutOfDraws w found steps) is why = cc
not_stuck never u passes draws n (stopped Left w found steps) is why = cc

agreed : (s : SourceRun) (r : FlowRun) → AgreeUnlessStuck s r → (why_of s ≡ Some Stuck → ⊥) → Agree s r
agreed s r (inl stuck) never = absurd (never stuck)
agreed s r (inr agree) never = agree

pub program_runs : LookedUnitsAreNeverStuck → UnitRunsAreProgramRuns → LookedRunsAreProgramRuns
program_runs never runs u limits program is passes draws turns =
    let x = runs u limits program is draws turns in
    (x.0, agreed (Run u draws turns) (flow_steps (flow_view program) x.0 (flow_begin u (flow_view program) draws)) x.1 (not_stuck never u passes draws turns (Run u draws turns) refl))
