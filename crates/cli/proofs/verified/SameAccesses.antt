-- Programs with one view access in their runs what lies there alike.
use Rattle.std.specs.Prelude.{◌≡◌, Option, Some, None, [], option_map, slice_get, refl}
use Rattle.std.proofs.Common.{sym, ap, ◌∙◌}
use Rattle.std.proofs.lemmas.Option.{slice_get-map, same_Some}
use Rattle.c_layout.specs.CheckedUnits.{UnitView}
use Rattle.cfg.specs.declared.machine_instructions.Instruction.{Instruction}
use Rattle.cfg.specs.declared.programs.Flow.{Flow}
use Rattle.lower_templates.specs.Worklist.Acts.{Step, step}
use Rattle.lower_templates.specs.Views.ProgramViews.{FlowView, flow_view}
use Rattle.semantics.specs.CfgMachine.FlowSteps.{flow_steps}
use Rattle.semantics.specs.CfgMachine.FlowStarts.{flow_begin}
use Rattle.analysis_determined.proofs.analysis_views.SameBlocks.{same_parts, steps_same}
use Rattle.diagnose.specs.Diagnostics.AdmittedRules.{instructions_of}
use Rattle.typed_lowering.specs.SingleRuns.{IsTypedStep, HasTypedAccesses}
use Rattle.unit_exact.proofs.unrolled.AlikeOperations.{alike}
use Rattle.unit_exact.proofs.unrolled.TypedCopies.{step_too}

record Viewed (is : Option Instruction) (i : Instruction) : Type 0 where
  own : Instruction
  there : is ≡ Some own
  alike : step own ≡ step i

viewed : (is : Option Instruction) (i : Instruction) → option_map step is ≡ Some (step i) → Viewed is i
viewed None i e = absurd (cc)
viewed (Some x) i e = record { own = x; there = refl; alike = same_Some (step x) (step i) e }

pub accesses_same : (f g : Flow) → flow_view f ≡ flow_view g → (u : UnitView) → HasTypedAccesses f u → HasTypedAccesses g u
accesses_same f g h u typed count s found i e there =
    let run = ap (λ (v : FlowView). flow_steps v count (flow_begin u v [])) h ∙ e in
    let o = viewed (slice_get (instructions_of f s.block) s.at) i
    (sym (slice_get-map step (instructions_of f s.block) s.at)
    ∙ (ap (λ ss. slice_get ss s.at) (steps_same f g h s.block)
    ∙ (slice_get-map step (instructions_of g s.block) s.at ∙ ap (option_map step) there))) in
    let own = typed count s found o.own run o.there in
    alike (λ p. IsTypedStep g p s) (λ to name a b newest size q. q) o.own.operation i.operation (ap (λ (z : Step). z.does) o.alike) (step_too f g (same_parts f g h) s s o.own.operation refl refl own)
