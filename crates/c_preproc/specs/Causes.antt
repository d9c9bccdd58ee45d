-- When the answers of the reading of a unit come.
use Rattle.std.specs.Prelude.{◌≡◌, ◌≤◌, ℕ, Bool, cond, List, Option, Some, None, slice_get}
use Rattle.cc_base.specs.Outside.{Files, Lacks, Rose, RoseBeyond, HoldsTooLong}
use Rattle.cc_base.specs.declared.refusals.Refusal.{Refusal}
use Rattle.cc_base.specs.declared.refusals.Refusal.TheVariants as refusal
use Rattle.cc_base.specs.declared.refusals.Fault.{Fault}
use Rattle.cc_base.specs.declared.refusals.Stop.{Stop}
use Rattle.cc_base.specs.declared.refusals.Stop.TheVariants as stop
use Rattle.c_layout.specs.declared.data_model.Model.{Model}
use Rattle.c_preproc.specs.Searching.{LackAll, built_in, searched_names}

-- what a tree was and is, and the names that are told
pub record Seen : Type 0 where
  pub files : Option Files
  pub faults : ℕ
  pub faults_now : ℕ
  pub taken : ℕ
  pub taken_now : ℕ

abbrev pub seen_of : Option Files → ℕ → ℕ → ℕ → ℕ → Seen
seen_of files faults faults_now taken taken_now = record { files = files; faults = faults; faults_now = faults_now; taken = taken; taken_now = taken_now }

-- the file with this name has more bytes than a file may have
abbrev pub IsTooLong : Seen → List ℕ → Type 0
IsTooLong seen name = HoldsTooLong 1048576 seen.files name (RoseBeyond 1048576 seen.taken seen.taken_now)

-- the including file, beside which a name in quotes is searched first: a file of the list
abbrev pub including : List (List ℕ) → ℕ → Bool → Option (List ℕ)
including names file quoted = cond quoted (slice_get names file) None

-- a header that was searched, in quotes or not, from some file of the list, and not found
pub record IsMissing (seen : Seen) (dirs : List (List ℕ)) (model : Model) (names : List (List ℕ)) (name : List ℕ) : Type 0 where
  pub quoted : Bool
  pub file : ℕ
  pub lacked : LackAll seen.files seen.faults seen.faults_now (searched_names (including names file quoted) dirs name)
  pub no_built_in : built_in name model ≡ None

-- the cause of a refusal that comes from the files
abbrev pub IsCausedBy : Seen → List (List ℕ) → Model → List (List ℕ) → Fault → Refusal → Type 0
IsCausedBy seen dirs model names f (refusal.FileTooLong count limit) = (name : List ℕ) × (slice_get names f.place.file ≡ Some name) × (f.place.line ≡ 1) × (f.place.col ≡ 1) × (count ≡ 1048577) × (limit ≡ 1048576) × IsTooLong seen name
IsCausedBy seen dirs model names f (refusal.HeaderMissing name) = IsMissing seen dirs model names name
IsCausedBy seen dirs model names f why = Unit {0}

-- the cause of each answer of a reading whose main file is there
abbrev pub IsCaused : Seen → List (List ℕ) → Model → List (List ℕ) → Stop → Type 0
IsCaused seen dirs model names (stop.Refused f) = IsCausedBy seen dirs model names f f.refusal
IsCaused seen dirs model names stop.NotHeld = ⊥
IsCaused seen dirs model names stop.ReadFault = Rose seen.faults seen.faults_now
IsCaused seen dirs model names stop.Memory = Unit {0}

-- the cause of each answer of a reading from the main file on
abbrev pub IsCausedFrom : List ℕ → Seen → List (List ℕ) → Model → List (List ℕ) → Stop → Type 0
IsCausedFrom main seen dirs model names stop.NotHeld = Lacks seen.files main (Rose seen.faults seen.faults_now)
IsCausedFrom main seen dirs model names (stop.Refused f) = IsCausedBy seen dirs model names f f.refusal
IsCausedFrom main seen dirs model names stop.ReadFault = Rose seen.faults seen.faults_now
IsCausedFrom main seen dirs model names stop.Memory = Unit {0}

-- a refusal that does not come from the files
abbrev pub IsOwnRefusal : Refusal → Type 0
IsOwnRefusal (refusal.FileTooLong count limit) = ⊥
IsOwnRefusal (refusal.HeaderMissing name) = ⊥
IsOwnRefusal why = Unit {0}

-- an answer that does not come from the files
abbrev pub IsOwn : Stop → Type 0
IsOwn (stop.Refused f) = IsOwnRefusal f.refusal
IsOwn stop.NotHeld = ⊥
IsOwn stop.ReadFault = ⊥
IsOwn stop.Memory = Unit {0}

-- the files of a tree are as before, and its counts have not fallen
pub record Went (files files_now : Option Files) (faults faults_now taken taken_now : ℕ) : Type 0 where
  pub same : files_now ≡ files
  pub faults_rise : faults ≤ faults_now
  pub taken_rises : taken ≤ taken_now
