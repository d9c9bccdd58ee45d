-- A checked unit's program begins with what is in the unit's tables, also where it is analysed with turns unrolled.
use Rattle.std.specs.Prelude.{◌≡◌, ℕ, ℤ, true, List}
use Rattle.std.proofs.Common.{ap, subst}
use Rattle.c_layout.specs.Models.{is_model}
use Rattle.c_layout.specs.StructViews.{structs_view}
use Rattle.cc_base.specs.declared.diagnostics.Diag.{Diag}
use Rattle.cc_base.specs.declared.limit_table.Limits.{Limits}
use Rattle.cfg.specs.WellFormed.{is_well_formed}
use Rattle.cfg.specs.declared.programs.Flow.{Flow}
use Rattle.lower_templates.specs.Views.ProgramViews.{FlowView, flow_view}
use Rattle.store_structs.specs.LaidApart.{are_laid_apart}
use Rattle.analysis_preconditions.specs.StructNesting.OrderedStructs.{are_ordered}
use Rattle.analysis_determined.specs.Analyses.{IsAnalysis}
use Rattle.loop_unrolling.specs.Turns.{split}
use Rattle.entry_sound.proofs.checked.CheckedStarts.{HaveSoundStructs, sound_structs, unit_starts}
use Rattle.analysis_sound.specs.Units.CheckedUnits.{FindsPairsOfChecked}
use Rattle.analysis_sound.proofs.units.SoundUnits.{units_found}
use Rattle.analysis_sound.proofs.units.UnrolledSound.{unrolled_found}

pub analysed_structs : (flow : Flow) (list : List ℤ) (found : List Diag) → IsAnalysis flow list found → HaveSoundStructs flow
analysed_structs flow list found a = sound_structs flow list a.regular a.checked.structs

pub checked_found : (flow : Flow) (list : List ℤ) (found : List Diag) → IsAnalysis flow list found → FindsPairsOfChecked flow found
checked_found flow list found a u is v there = units_found flow list found a u (unit_starts u flow (analysed_structs flow list found a) is) v there

-- unrolling keeps structs and data model
pub same_structs : (turns : ℕ) (flow turned : Flow) → flow_view turned ≡ split turns (flow_view flow) → HaveSoundStructs turned → HaveSoundStructs flow
same_structs turns flow turned h sound =
    let structs : structs_view turned.structs ≡ structs_view flow.structs = ap (λ (f : FlowView). f.structs) h in
    let model : turned.model ≡ flow.model = ap (λ (f : FlowView). f.model) h in
    record {
      model = subst (λ m. is_model m ≡ true) model sound.model;
      apart = subst (λ ss. are_laid_apart flow.model ss ≡ true) structs (subst (λ m. are_laid_apart m (structs_view turned.structs) ≡ true) model sound.apart);
      ordered = subst (λ ss. are_ordered ss ≡ true) structs sound.ordered;
    }

pub unrolled_checked_found : (turns : ℕ) (limits : Limits) (flow turned : Flow) (list : List ℤ) (found : List Diag) → is_well_formed limits flow ≡ true → flow_view turned ≡ split turns (flow_view flow) → IsAnalysis turned list found → FindsPairsOfChecked flow found
unrolled_checked_found turns limits flow turned list found good h a u is v there = unrolled_found turns limits flow turned good h list found a u (unit_starts u flow (same_structs turns flow turned h (analysed_structs turned list found a)) is) v there
