-- The initializers of a checked unit are typed and its entry takes integers, so that its lowered program begins with what is in
-- its tables.
use Rattle.std.specs.Prelude.{◌≡◌, ℤ, true, ◌&&◌, List}
use Rattle.std.proofs.Common.{ap, subst}
use Rattle.std.proofs.lemmas.Bool.{and_parts}
use Rattle.cc_base.specs.Standard.{standard_limits}
use Rattle.c_layout.specs.Models.{is_model}
use Rattle.c_layout.specs.StructViews.{structs_view}
use Rattle.c_layout.specs.CheckedUnits.{UnitView}
use Rattle.c_types_theorems.specs.Entries.IntegerEntries.{TakesIntegers}
use Rattle.c_types_theorems.proofs.entries.Entries.{entries_take_integers}
use Rattle.cfg.specs.WellFormed.{is_well_formed}
use Rattle.cfg.specs.declared.programs.Flow.{Flow}
use Rattle.lower_templates.specs.Views.ProgramViews.{FlowView}
use Rattle.store_structs.specs.LaidApart.{are_laid_apart}
use Rattle.store_sound.proofs.programs.WellFormedPremises.{well_formed_good}
use Rattle.analysis_preconditions.specs.StructNesting.OrderedStructs.{are_ordered}
use Rattle.transfer_system.specs.System.RegularPrograms.{is_regular, has_scalars, has_initial_bytes, has_apart_members, is_near_list}
use Rattle.entry_sound.specs.Tables.UnitStarts.{StartsAs}
use Rattle.entry_sound.specs.Lowered.LoweredStarts.{HasIntegerParameters}
use Rattle.entry_sound.proofs.lowered.LoweredStarts.{lowered_starts}
use Rattle.entry_sound.proofs.initializers.CheckedInitializers.{checked_typed}
use Rattle.entry_sound.specs.Checked.CheckedStarts.{IsUnitOf}

integers_of : (u : UnitView) → TakesIntegers u → HasIntegerParameters u
integers_of u takes f is k less = let i = takes f is k less in record { local = i.0; among = i.2; kind = i.1; is = i.3 }

-- what an analysis asks of a program's structs holds of its unit's
pub record HaveSoundStructs (flow : Flow) : Type 0 where
  pub model : is_model flow.model ≡ true
  pub apart : are_laid_apart flow.model (structs_view flow.structs) ≡ true
  pub ordered : are_ordered (structs_view flow.structs) ≡ true

pub sound_structs : (flow : Flow) (list : List ℤ) → is_regular flow list ≡ true → are_ordered (structs_view flow.structs) ≡ true → HaveSoundStructs flow
sound_structs flow list regular ordered =
    let p = and_parts (is_well_formed standard_limits flow) (has_scalars flow && (has_initial_bytes flow && (has_apart_members flow && is_near_list list))) regular in
    let q = and_parts (has_scalars flow) (has_initial_bytes flow && (has_apart_members flow && is_near_list list)) p.1 in
    let r = and_parts (has_initial_bytes flow) (has_apart_members flow && is_near_list list) q.1 in
    let s = and_parts (has_apart_members flow) (is_near_list list) r.1 in
    let g = well_formed_good standard_limits flow p.0 in
    record { model = g.model; apart = s.0; ordered = ordered }

pub unit_starts : (u : UnitView) (flow : Flow) → HaveSoundStructs flow → IsUnitOf u flow → StartsAs u flow
unit_starts u flow sound is =
    let structs : structs_view flow.structs ≡ u.structs = ap (λ (f : FlowView). f.structs) is.lowered.opens in
    let model : flow.model ≡ u.model = ap (λ (f : FlowView). f.model) is.lowered.opens in
    let apart : are_laid_apart u.model u.structs ≡ true = subst (λ ss. are_laid_apart u.model ss ≡ true) structs (subst (λ m. are_laid_apart m (structs_view flow.structs) ≡ true) model sound.apart) in
    lowered_starts u is.limits flow is.lowered
    (checked_typed is.model is.name is.tree u is.checked (subst (λ m. is_model m ≡ true) model sound.model) is.plain apart (subst (λ ss. are_ordered ss ≡ true) structs sound.ordered))
    (integers_of u (entries_take_integers is.model is.name is.tree u is.checked))
