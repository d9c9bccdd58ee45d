-- What of a program is decided by computation, of all that the theorems on single instructions and edges suppose of it.
use Rattle.std.specs.Prelude.{◌≡◌, ℕ, ℤ, true, Some, slice_get}
use Rattle.cc_base.specs.Lattices.{LatticeOf}
use Rattle.cc_base.specs.IntegerDomains.{IntegersOf}
use Rattle.cc_base.specs.declared.limit_table.Limits.{Limits}
use Rattle.cfg.specs.WellFormed.{is_well_formed}
use Rattle.cfg.specs.declared.flow_edges.Edge.{Edge}
use Rattle.cfg.specs.declared.programs.Flow.{Flow}
use Rattle.analysis_preconditions.specs.Objects.Sites.{has_sites, ends_with_lines}
use Rattle.analysis_preconditions.specs.Objects.SpelledTexts.{spells_over_characters}
use Rattle.analysis_preconditions.specs.Objects.ScalarTests.{all_follow_scalars}
use Rattle.store_sound.specs.Programs.Premises.{HasPremises}
use Rattle.transfer_system.specs.System.RegularPrograms.{has_scalars}
use Rattle.transfer_sound.specs.Values.SoundSteps.{AreSound}
use Rattle.transfer_sound.specs.Induction.SoundEnds.{IsDoneIn}
use Rattle.analysis_sound.specs.Programs.OpenSteps.{IsOpenStep, SpellsOverCharacters, AllocatesAtSites, KindIsProved}

abbrev pub CallsHaveSites : Flow → Type 0
CallsHaveSites flow = has_sites flow ≡ true → AllocatesAtSites flow

abbrev pub TextsLieOverCharacters : Flow → Type 0
TextsLieOverCharacters flow = (limits : Limits) → is_well_formed limits flow ≡ true → HasPremises flow → has_scalars flow ≡ true → spells_over_characters flow ≡ true → SpellsOverCharacters flow

abbrev pub TestsAreProved : Flow → Type 0
TestsAreProved flow = all_follow_scalars flow ≡ true → (number : ℕ) (e : Edge) → slice_get flow.edges.items number ≡ Some e → KindIsProved flow e.kind

module _ {I : Type 0} (l : LatticeOf I) (n : IntegersOf I) (gamma : I → ℤ → Type 0) (flow : Flow) where
  -- where each call of `fgets` ends its block, the analysis is sound on all instructions of the program
  abbrev pub NoStepIsOpen : Type 0
  NoStepIsOpen = ends_with_lines flow ≡ true → AreSound l n gamma flow (λ o. IsOpenStep o × IsDoneIn flow o)
