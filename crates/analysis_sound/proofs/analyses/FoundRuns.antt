-- What an analysis has seen of its program and of its map suffices for what it finds.
use Rattle.std.specs.Prelude.{◌≡◌, ◌&&◌, ℤ, true, List}
use Rattle.std.proofs.Common.{inl}
use Rattle.std.proofs.lemmas.Bool.{and_parts}
use Rattle.cc_base.specs.Standard.{standard_limits}
use Rattle.cc_base.specs.declared.diagnostics.Diag.{Diag}
use Rattle.cfg.specs.WellFormed.{is_well_formed}
use Rattle.cfg.specs.declared.programs.Flow.{Flow}
use Rattle.analysis_preconditions.specs.Objects.Sites.{has_sites, ends_with_lines}
use Rattle.analysis_preconditions.specs.Objects.SpelledTexts.{spells_over_characters}
use Rattle.analysis_preconditions.specs.Objects.ScalarTests.{all_follow_scalars}
use Rattle.interval_domain.specs.Intervals.Spans.{Stands}
use Rattle.interval_domain.specs.Intervals.IntervalLattice.{interval_lattice}
use Rattle.interval_domain.specs.Intervals.IntervalNumbers.{interval_numbers}
use Rattle.store_sound.proofs.programs.WellFormedPremises.{meets_premises}
use Rattle.transfer_system.specs.System.RegularPrograms.{has_scalars, has_initial_bytes, has_apart_members, is_near_list, is_regular}
use Rattle.analysis_determined.proofs.RegularPrograms.{regular_of}
use Rattle.analysis_determined.specs.Analyses.{IsAnalysis}
use Rattle.analysis_determined.specs.CheckedPrograms.{IsChecked}
use Rattle.analysis_sound.proofs.analyses.Sites.{sites_there}
use Rattle.analysis_sound.proofs.analyses.SpelledTexts.{texts_over}
use Rattle.analysis_sound.proofs.analyses.ScalarTests.{kinds_proved}
use Rattle.analysis_sound.proofs.analyses.OpenSteps.{open_sound}
use Rattle.struct_copies_sound.proofs.ordered_structs.OrderedStructs.{has_structs}
use Rattle.analysis_sound.specs.Analyses.SoundAnalyses.{Suffices, FindsEachPair}
use Rattle.analysis_sound.proofs.analyses.SoundAnalyses.{standard_held, typed_runs, each_pair}

module _ (flow : Flow) (list : List ℤ) (known : is_regular flow list ≡ true) (checked : IsChecked flow list) where
  pub suffices : Suffices flow list
  suffices =
      let regular = regular_of flow list known in
      let p = meets_premises standard_limits flow standard_held regular.well_formed in
      let s = and_parts (has_sites flow) (ends_with_lines flow && (spells_over_characters flow && all_follow_scalars flow)) checked.parts in
      let e = and_parts (ends_with_lines flow) (spells_over_characters flow && all_follow_scalars flow) s.1 in
      let t = and_parts (spells_over_characters flow) (all_follow_scalars flow) e.1 in
      let w = and_parts (is_well_formed standard_limits flow) (has_scalars flow && (has_initial_bytes flow && (has_apart_members flow && is_near_list list))) known in
      let b = and_parts (has_scalars flow) (has_initial_bytes flow && (has_apart_members flow && is_near_list list)) w.1 in
      let i = and_parts (has_initial_bytes flow) (has_apart_members flow && is_near_list list) b.1 in
      let m = and_parts (has_apart_members flow) (is_near_list list) i.1 in
      record {
        reaches = checked.reaches;
        texts = texts_over standard_limits flow regular.well_formed p b.0 t.0;
        sites = sites_there flow s.0;
        copies = λ to from index d. has_structs standard_limits flow regular.well_formed m.0 checked.structs;
        steps = open_sound interval_lattice interval_numbers Stands flow e.0;
        tests = λ number x is. inl (kinds_proved flow t.1 number x is);
      }

pub finds_each_pair : (flow : Flow) (list : List ℤ) (found : List Diag) → IsAnalysis flow list found → FindsEachPair flow list found
finds_each_pair flow list found a u start v there =
    let enough = suffices flow list a.regular a.checked in
    each_pair flow list found a enough u start (typed_runs flow list a.regular enough u start a.rows a.inductive a.typed) v there
