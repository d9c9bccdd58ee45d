-- Which stage of the work a refusal belongs to.
use Rattle.std.specs.Prelude.{Bool, true, false, cond}
use Rattle.cc_base.specs.declared.refusals.Refusal.{Refusal}
use Rattle.cc_base.specs.declared.refusals.Refusal.TheVariants as refusal
use Rattle.cc_base.specs.declared.refusals.Fault.{Fault}
use Rattle.cc_base.specs.declared.refusals.Stop.{Stop}
use Rattle.cc_base.specs.declared.refusals.Stop.TheVariants as stop
use Rattle.cli_units.specs.declared.stages.Stage.{Stage}
use Rattle.cli_units.specs.declared.stages.Stage.TheVariants as stage

abbrev pub stage_of : Refusal → Stage
stage_of refusal.NumberForm = stage.Numbers
stage_of (refusal.Unsupported word) = stage.Grammar
stage_of refusal.Syntax = stage.Grammar
stage_of refusal.Undeclared = stage.Typing
stage_of refusal.Redeclared = stage.Typing
stage_of refusal.TypeFault = stage.Typing
stage_of refusal.PointerInteger = stage.Typing
stage_of refusal.ConstantNeeded = stage.Typing
stage_of refusal.FormatFault = stage.Typing
stage_of refusal.NoEntry = stage.Typing
stage_of refusal.Recursion = stage.Typing
stage_of (refusal.TooLarge what count limit) = stage.Counting
stage_of why = stage.Expansion

-- whether a stage has refusals of a kind; the grammar refuses numbers too
abbrev pub same_stage : Stage → Stage → Bool
same_stage stage.Expansion stage.Expansion = true
same_stage stage.Grammar stage.Grammar = true
same_stage stage.Grammar stage.Numbers = true
same_stage stage.Typing stage.Typing = true
same_stage stage.Counting stage.Counting = true
same_stage _ _ = false

-- a refusal of another stage is none; want of memory stands in its place
abbrev pub kept_at : Stage → Fault → Stop
kept_at at why = cond (same_stage at (stage_of why.refusal)) (stop.Refused why) stop.Memory

-- what stops a stage: a refusal of its own, or want of memory
abbrev pub stop_at : Stage → Stop → Stop
stop_at at (stop.Refused why) = kept_at at why
stop_at at stop.NotHeld = stop.Memory
stop_at at stop.ReadFault = stop.Memory
stop_at at stop.Memory = stop.Memory
