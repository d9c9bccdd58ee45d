-- Files that a verb reads behind the expansion of its unit.
use Rattle.std.specs.Prelude.{◌≡◌, ◌≤◌, ℤ, List, [], length, Option, Some, None}
use Rattle.cc_base.specs.Outside.{Files, Holds}
use Rattle.cli_words.specs.Draws.DrawsFiles.{draws_in}
use Rattle.cli_texts.specs.Reports.{Bytes}

-- the files hold these bytes under a name, no more than are read
abbrev pub HoldsShort : Option Files → Bytes → Bytes → Type 0
HoldsShort files name bytes = Holds files name bytes × (length bytes ≤ 1048576)

-- the files hold one with a name that is read
abbrev pub HasFile : Option Files → Bytes → Type 0
HasFile files name = (bytes : Bytes) × HoldsShort files name bytes

-- a file has these draws
pub record HoldsDraws (files : Option Files) (name : Bytes) (draws : List ℤ) : Type 0 where
  pub bytes : Bytes
  pub held : Holds files name bytes
  pub reads : draws_in bytes ≡ Some draws

-- a file of draws is of another form
pub record HoldsNoDraws (files : Option Files) (name : Bytes) : Type 0 where
  pub bytes : Bytes
  pub held : Holds files name bytes
  pub reads : draws_in bytes ≡ None

-- the draws that a run is given: those of a file where one is named, else none
abbrev pub IsDraws : Option Files → Option Bytes → List ℤ → Type 0
IsDraws files None draws = draws ≡ []
IsDraws files (Some name) draws = HoldsDraws files name draws

abbrev pub HasDraws : Option Files → Option Bytes → Type 0
HasDraws files file = (draws : List ℤ) × IsDraws files file draws
