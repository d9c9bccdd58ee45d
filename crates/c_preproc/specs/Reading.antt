-- What the reading of files does to a tree, and what its answers mean.
use Rattle.std.specs.Prelude.{◌≡◌, ℕ, List, Option, Some, None, Result, Ok, Err, string_bytes}
use Rattle.cc_base.specs.Outside.{Holds, Lacks, Rose}
use Rattle.cc_base.specs.declared.refusals.Stop.{Stop}
use Rattle.c_layout.specs.declared.data_model.Model.{Model}
use Rattle.c_preproc.specs.declared.found_file.FoundFile.{FoundFile}
use Rattle.c_preproc.specs.Searching.{Found, found_of, Searches}
use Rattle.c_preproc.specs.Causes.{Seen, IsCaused}

abbrev pub found_as : FoundFile → Found
found_as f = found_of (string_bytes f.name) f.bytes.items

abbrev pub found_if : Option FoundFile → Option Found
found_if None = None
found_if (Some f) = Some (found_as f)

-- what a search answers: what the definition of searching gives, or an answer with its cause
abbrev pub SearchAnswers : Seen → List (List ℕ) → List (List ℕ) → List ℕ → Model → List (List ℕ) → Result (Option FoundFile) Stop → Type 0
SearchAnswers seen dirs searched name model names (Ok o) = Searches seen.files seen.faults seen.faults_now searched name model (found_if o)
SearchAnswers seen dirs searched name model names (Err s) = IsCaused seen dirs model names s

-- what one read answers: the file, or nothing where it is not held, or an answer with its cause
abbrev pub ReadAnswers : Seen → List (List ℕ) → List ℕ → Model → List (List ℕ) → Result (Option FoundFile) Stop → Type 0
ReadAnswers seen dirs name model names (Ok (Some f)) = (string_bytes f.name ≡ name) × Holds seen.files name f.bytes.items
ReadAnswers seen dirs name model names (Ok None) = Lacks seen.files name (Rose seen.faults seen.faults_now)
ReadAnswers seen dirs name model names (Err s) = IsCaused seen dirs model names s
