-- What the readers of files answer where the files are told: what the definition of a unit gives.
use Rattle.std.specs.Prelude.{◌≡◌, ℕ, List, ◌∷◌, Option, Some, None, Result, Ok, Err}
use Rattle.cc_base.specs.Outside.{Files, file_at}
use Rattle.cc_base.specs.declared.diagnostics.Place.{Place}
use Rattle.cc_base.specs.declared.refusals.Refusal.TheVariants as refusal
use Rattle.cc_base.specs.declared.refusals.Stop.{Stop}
use Rattle.cc_base.specs.declared.refusals.Stop.TheVariants as stop
use Rattle.c_layout.specs.declared.data_model.Model.{Model}
use Rattle.c_layout.specs.declared.unit_tokens.Unit7.{Unit7}
use Rattle.c_lexer.specs.Cutting.{fault_of}
use Rattle.c_preproc_directives.specs.OpenFiles.{Opened, opened_of}
use Rattle.c_preproc_directives.specs.declared.open_files.OpenFile.{OpenFile}
use Rattle.c_preproc.specs.declared.found_file.FoundFile.{FoundFile}
use Rattle.c_preproc.specs.declared.preprocessing.Step.{Step}
use Rattle.c_preproc.specs.declared.preprocessing.Step.TheVariants.{Ended, GoesOn, Includes}
use Rattle.c_preproc.specs.Reading.{found_as}
use Rattle.c_preproc.specs.Searching.{Found}
use Rattle.c_preproc.specs.Units.{World, world_of, Sought, Refused, Course, Step as Left, Preprocessed, preprocessed, refused, read_of, sought, long_refused}
use Rattle.c_preproc.specs.Units.Sought.{found, too_long, nothing}
use Rattle.c_preproc.specs.Units.Step.{ended, goes_on, includes}

-- an answer, with the names of the files that were met, is what the definition gives, unless memory ran out or a read failed
abbrev pub UnitGives : {A B : Type 0} → Result B Refused → (A → B) → List (List ℕ) → Result A Stop → Type 0
UnitGives wanted view names (Ok a) = wanted ≡ Ok (view a)
UnitGives wanted view names (Err (stop.Refused f)) = wanted ≡ Err (refused f names)
UnitGives wanted view names (Err stop.NotHeld) = ⊥
UnitGives wanted view names (Err stop.ReadFault) = Unit {0}
UnitGives wanted view names (Err stop.Memory) = Unit {0}

-- the refusal of a file that is too long, and the names before and after it
abbrev pub IsLongStop : List ℕ → List (List ℕ) → List (List ℕ) → Stop → Type 0
IsLongStop name before now (stop.Refused f) = refused f now ≡ long_refused name before
IsLongStop name before now stop.NotHeld = ⊥
IsLongStop name before now stop.ReadFault = ⊥
IsLongStop name before now stop.Memory = Unit {0}

-- the refusal of a header that is missing
abbrev pub IsMissingStop : Place → List ℕ → Stop → Type 0
IsMissingStop place name (stop.Refused f) = f ≡ fault_of place (refusal.HeaderMissing name)
IsMissingStop place name stop.NotHeld = ⊥
IsMissingStop place name stop.ReadFault = ⊥
IsMissingStop place name stop.Memory = Unit {0}

-- ---- searching

-- where the files are told, a read gives what is held
abbrev pub IsRead : Option Files → List ℕ → Option Sought → Type 0
IsRead None name o = Unit {0}
IsRead (Some files) name o = read_of name (file_at files name) ≡ o

-- where the files are told, a search gives the first of the names that is held
abbrev pub IsSought : Option Files → List (List ℕ) → Option Found → Sought → Type 0
IsSought None names header s = Unit {0}
IsSought (Some files) names header s = sought files names header ≡ s

abbrev pub IsFind : Option Files → (List (List ℕ) → Option Found → Sought) → Type 0
IsFind None find = Unit {0}
IsFind (Some files) find = find ≡ sought files

-- what a read answers, and the names of the files before and after it
abbrev pub ReadGives : Option Sought → List ℕ → List (List ℕ) → List (List ℕ) → Result (Option FoundFile) Stop → Type 0
ReadGives o name before now (Ok None) = (o ≡ None) × (now ≡ before)
ReadGives o name before now (Ok (Some f)) = (o ≡ Some (found (found_as f))) × (now ≡ before)
ReadGives o name before now (Err (stop.Refused f)) = (o ≡ Some (too_long name)) × (refused f now ≡ long_refused name before)
ReadGives o name before now (Err stop.NotHeld) = ⊥
ReadGives o name before now (Err stop.ReadFault) = Unit {0}
ReadGives o name before now (Err stop.Memory) = Unit {0}

pub record Reads (files : Option Files) (name : List ℕ) (before now : List (List ℕ)) (r : Result (Option FoundFile) Stop) : Type 0 where
  pub read : Option Sought
  pub is : IsRead files name read
  pub gives : ReadGives read name before now r

-- what a search answers
abbrev pub SearchGives : Sought → List (List ℕ) → List (List ℕ) → Result (Option FoundFile) Stop → Type 0
SearchGives s before now (Ok None) = (s ≡ nothing) × (now ≡ before)
SearchGives s before now (Ok (Some f)) = (s ≡ found (found_as f)) × (now ≡ before)
SearchGives s before now (Err (stop.Refused f)) = (name : List ℕ) × (s ≡ too_long name) × (refused f now ≡ long_refused name before)
SearchGives s before now (Err stop.NotHeld) = ⊥
SearchGives s before now (Err stop.ReadFault) = Unit {0}
SearchGives s before now (Err stop.Memory) = Unit {0}

pub record Seeks (files : Option Files) (names : List (List ℕ)) (header : Option Found) (before now : List (List ℕ)) (r : Result (Option FoundFile) Stop) : Type 0 where
  pub sought : Sought
  pub is : IsSought files names header sought
  pub gives : SearchGives sought before now r

-- something holds of the reading under some way of finding files, which is the definition's where the files are told
pub record Under (files : Option Files) (dirs : List (List ℕ)) (model : Model) (P : World → Type 0) : Type 0 where
  pub find : List (List ℕ) → Option Found → Sought
  pub finds : IsFind files find
  pub gives : P (world_of find dirs model)

-- ---- steps and units

-- what a step of the code leaves
abbrev pub step_as : Opened → Course → Step → Left
step_as top c Ended = ended c
step_as top c GoesOn = goes_on top c
step_as top c (Includes file) = includes (opened_of file) top c

-- the files that are open behind a step, the innermost first
abbrev pub stacked : Opened → Step → List Opened → List Opened
stacked top Ended below = below
stacked top GoesOn below = top ∷ below
stacked top (Includes file) below = opened_of file ∷ top ∷ below

abbrev pub opened_if : Option OpenFile → Option Opened
opened_if None = None
opened_if (Some f) = Some (opened_of f)

abbrev pub unit_as : List (List ℕ) → Unit7 → Preprocessed
unit_as names u = preprocessed u.tokens names

-- what a reading from the name of the main file on answers
abbrev pub UnitFrom : Option (Result Preprocessed Refused) → List (List ℕ) → Result Unit7 Stop → Type 0
UnitFrom wanted names (Ok u) = wanted ≡ Some (Ok (unit_as names u))
UnitFrom wanted names (Err (stop.Refused f)) = wanted ≡ Some (Err (refused f names))
UnitFrom wanted names (Err stop.NotHeld) = wanted ≡ None
UnitFrom wanted names (Err stop.ReadFault) = Unit {0}
UnitFrom wanted names (Err stop.Memory) = Unit {0}
