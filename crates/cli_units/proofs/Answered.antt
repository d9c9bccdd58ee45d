-- What a layer below answered, as it is told of a unit.
use Rattle.std.proofs.Common.{ap}
use Rattle.cc_base.specs.declared.limit_table.Limits.{Limits}
use Rattle.c_layout.specs.CheckedUnits.{UnitView}
use Rattle.lower.specs.Inlining.Lowerings.{IsLowering}
use Rattle.cfg.specs.declared.programs.Flow.{Flow}
use Rattle.lower_templates.specs.Views.ProgramViews.{FlowView}
use Rattle.certificate_programs.specs.declared.programs.checked_maps.Verified.{Verified}
use Rattle.certificate_programs.specs.declared.programs.checked_maps.Verified.TheVariants as verified
use Rattle.certificate_programs.specs.Programs.Certificates.{IsVerified}
use Rattle.cli_texts.specs.Reports.{Bytes}
use Rattle.cli_units.specs.Certifying.{answer_view, IsAnswerOn}
use Rattle.cli_units.specs.Replaying.{IsEntryPlace}

-- what a text comes to for a program
pub answer_on : (flow : Flow) (text : Bytes) (v : Verified) → IsVerified flow text v → IsAnswerOn flow text (answer_view v)
answer_on flow text (verified.Found found) h = h
answer_on flow text (verified.Refused why) h = h

-- a program keeps the place of its entry
pub entry_place : (u : UnitView) (limits : Limits) (f : FlowView) → IsLowering u limits f → IsEntryPlace u f.entry
entry_place u limits f is = record { entry = is.entry; is_entry = is.is_counted.is_entry; at = ap (λ (x : FlowView). x.entry) is.opens }
