-- What the theorems on sound library calls say.
use Rattle.cc_base.specs.Lattices.{LatticeOf}
use Rattle.cc_base.specs.IntegerDomains.{IntegersOf}
use Rattle.std.specs.Prelude.{ℤ}
use Rattle.library_sound.specs.Appends.AppendWrites.{AppendWritesStand}
use Rattle.cc_base.specs.IntegerLaws.{SoundLaws}
use Rattle.cfg.specs.declared.programs.Flow.{Flow}
use Rattle.library_sound.specs.Appends.AppendCalls.{AppendCallsAreSound}
use Rattle.library_sound.specs.BoundedTexts.BoundedCalls.{BoundedCallsAreSound}
use Rattle.library_sound.specs.Calls.ResultCalls.{ResultCallsAreSound}
use Rattle.library_sound.specs.Fills.FillCalls.{FillCallsAreSound}
use Rattle.library_sound.specs.Lines.LineEnds.{LineEndsAreSound}
use Rattle.library_sound.specs.Prints.PrintCalls.{PrintCallsAreSound}
use Rattle.library_sound.specs.Spelling.SpellSteps.{SpellStepsAreSound, FollowedArraysAreCharacters}
use Rattle.library_sound.specs.Strings.StringCalls.{StringCallsAreSound}
use Rattle.library_sound.specs.Texts.TextWrites.{TextWritesStand}
use Rattle.library_sound.specs.Texts.TextCalls.{TextCallsAreSound}
pub use Rattle.library_sound.specs.Appends.ApartTexts.{WellFormedHasApartTexts}

module _ {I : Type 0} (l : LatticeOf I) (n : IntegersOf I) (stands : I → ℤ → Type 0) where
  abbrev pub AppendWritesAreSound : Type 0
  AppendWritesAreSound = AppendWritesStand l n stands

  abbrev pub AppendCallsAreSoundEverywhere : Type 0
  AppendCallsAreSoundEverywhere = (flow : Flow) → SoundLaws l n stands → AppendCallsAreSound l n stands flow

  abbrev pub BoundedTextCallsAreSound : Type 0
  BoundedTextCallsAreSound = (flow : Flow) → SoundLaws l n stands → BoundedCallsAreSound l n stands flow

  abbrev pub ResultCallsAreSoundEverywhere : Type 0
  ResultCallsAreSoundEverywhere = (flow : Flow) → SoundLaws l n stands → ResultCallsAreSound l n stands flow

  abbrev pub FillCallsAreSoundEverywhere : Type 0
  FillCallsAreSoundEverywhere = (flow : Flow) → SoundLaws l n stands → FillCallsAreSound l n stands flow

  abbrev pub LineEndsAreSoundEverywhere : Type 0
  LineEndsAreSoundEverywhere = (flow : Flow) → LineEndsAreSound l n stands flow

  abbrev pub PrintCallsAreSoundEverywhere : Type 0
  PrintCallsAreSoundEverywhere = (flow : Flow) → SoundLaws l n stands → PrintCallsAreSound l n stands flow

  abbrev pub SpellStepsAreSoundEverywhere : Type 0
  SpellStepsAreSoundEverywhere = (flow : Flow) → SpellStepsAreSound l n stands flow

  abbrev pub StringCallsAreSoundEverywhere : Type 0
  StringCallsAreSoundEverywhere = (flow : Flow) → SoundLaws l n stands → StringCallsAreSound l n stands flow

  abbrev pub TextWritesAreSound : Type 0
  TextWritesAreSound = TextWritesStand l n stands

  abbrev pub TextCallsAreSoundEverywhere : Type 0
  TextCallsAreSoundEverywhere = (flow : Flow) → SoundLaws l n stands → TextCallsAreSound l n stands flow

abbrev pub FollowedArraysAreCharactersEverywhere : Type 0
FollowedArraysAreCharactersEverywhere = (flow : Flow) → FollowedArraysAreCharacters flow
