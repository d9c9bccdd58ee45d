-- The tokens of a unit after translation phase 4 (5.1.1.2), from its main file on, where the files are told.
use Rattle.std.specs.Prelude.{ℕ, zero, suc, Bool, true, false, cond, nat_le, List, [], ◌∷◌, length, slice_get, Option, Some, None, Result, Ok, Err}
use Rattle.cc_base.specs.Outside.{Files, file_at}
use Rattle.cc_base.specs.declared.diagnostics.Place.{Place}
use Rattle.cc_base.specs.declared.lexemes.Token.{Token}
use Rattle.cc_base.specs.declared.refusals.Fault.{Fault}
use Rattle.cc_base.specs.declared.refusals.Refusal.TheVariants as refusal
use Rattle.c_layout.specs.declared.data_model.Model.{Model}
use Rattle.c_lexer.specs.Cutting.{fault_of}
use Rattle.c_lexer.specs.FileTokens.{file_tokens}
use Rattle.c_preproc_macros.specs.declared.lexeme.Lexeme.{Lexeme}
use Rattle.c_preproc_macros.specs.Numbering.{number_in, with_text}
use Rattle.c_preproc_directives.specs.Directives.{is_conditional, is_include}
use Rattle.c_preproc_directives.specs.Groups.{is_skipped}
use Rattle.c_preproc_directives.specs.OpenFiles.{Opened, first_of, cut_directive, opened_file}
use Rattle.c_preproc.specs.Searching.{Found, found_of, searched_names, built_in}
use Rattle.c_preproc.specs.Known.{Known, Reading, Line, start, is_once, include_asks, conditional, plain, line_of, directive_at, text_lines, first_open}

-- what a search finds: a file, a file that is too long, or nothing
pub data Sought : Type 0 where
  found : (f : Found) → Sought
  too_long : (name : List ℕ) → Sought
  nothing : Sought

-- what is read: how the first of some names that is held is found, or else a built-in header; the directories that
-- are searched; and the model
pub record World : Type 0 where
  pub find : List (List ℕ) → Option Found → Sought
  pub dirs : List (List ℕ)
  pub model : Model

abbrev pub world_of : (List (List ℕ) → Option Found → Sought) → List (List ℕ) → Model → World
world_of find dirs model = record { find = find; dirs = dirs; model = model }

-- what is known, and the names of the files that were met
pub record Course : Type 0 where
  pub known : Known
  pub names : List (List ℕ)

abbrev pub course : Known → List (List ℕ) → Course
course k names = record { known = k; names = names }

-- a refusal, and the names of the files that were met
pub record Refused : Type 0 where
  pub fault : Fault
  pub names : List (List ℕ)

abbrev pub refused : Fault → List (List ℕ) → Refused
refused f names = record { fault = f; names = names }

-- the first refusal ends the reading
abbrev pub then : {A B : Type 0} → Result A Refused → (A → Result B Refused) → Result B Refused
then (Ok a) f = f a
then (Err r) f = Err r

abbrev pub under : {A : Type 0} → List (List ℕ) → Result A Fault → Result A Refused
under names (Ok a) = Ok a
under names (Err f) = Err (refused f names)

abbrev pub header_sought : Option Found → Sought
header_sought None = nothing
header_sought (Some f) = found f

-- what a read gives where these bytes are held under the name
abbrev pub read_of : List ℕ → Option (List ℕ) → Option Sought
read_of name None = None
read_of name (Some bytes) = Some (cond (nat_le (length bytes) 1048576) (found (found_of name bytes)) (too_long name))

abbrev pub or_next : Option Sought → Sought → Sought
or_next None next = next
or_next (Some s) next = s

-- the first of the names that is held, or else the built-in header
abbrev pub sought : Files → List (List ℕ) → Option Found → Sought
sought files [] header = header_sought header
sought files (n ∷ ns) header = or_next (read_of n (file_at files n)) (sought files ns header)

-- what is known behind the opening of a file, and the file
pub record Opening : Type 0 where
  pub known : Known
  pub file : Opened

abbrev pub opening : Known → Opened → Opening
opening k file = record { known = k; file = file }

abbrev pub opening_with : Known → List (List ℕ) × Opened → Opening
opening_with k p = opening (record k { texts = p.0 }) p.1

-- the file with this index is opened, if it can be cut into tokens
abbrev pub opened_by : ℕ → Known → Result (List Token) Fault → Result Opening Fault
opened_by file k (Ok tokens) = Ok (opening_with k (opened_file k.texts file tokens))
opened_by file k (Err f) = Err f

-- the course behind an inclusion, and the file, unless it has `#pragma once`
pub record Entered : Type 0 where
  pub course : Course
  pub file : Option Opened

abbrev pub entered_as : Known → List (List ℕ) → Option Opened → Entered
entered_as k names file = record { course = course k names; file = file }

-- a file joins the names, and is cut and opened unless it has `#pragma once`
abbrev pub entered : Found → Known → List (List ℕ) → Result Entered Refused
entered f k names =
    cond (is_once k.once (number_in names f.name)) (Ok (entered_as k (with_text names f.name) None))
    (then (under (with_text names f.name) (opened_by (number_in names f.name) k (file_tokens (number_in names f.name) f.bytes))) (λ o. Ok (entered_as o.known (with_text names f.name) (Some o.file))))

-- a file that is too long joins the names too
abbrev pub long_refused : List ℕ → List (List ℕ) → Refused
long_refused name names = refused (fault_of (record { file = number_in names name; line = 1; col = 1 }) (refusal.FileTooLong 1048577 1048576)) (with_text names name)

abbrev pub included : Place → List ℕ → Sought → Known → List (List ℕ) → Result Entered Refused
included place name (found f) k names = entered f k names
included place name (too_long long) k names = Err (long_refused long names)
included place name nothing k names = Err (refused (fault_of place (refusal.HeaderMissing name)) names)

abbrev pub includer_in : List (List ℕ) → ℕ → Bool → Option (List ℕ)
includer_in names top quoted = cond quoted (slice_get names top) None

-- what the search of a header finds
abbrev pub sought_from : World → Option (List ℕ) → List ℕ → Sought
sought_from w includer name = w.find (searched_names includer w.dirs name) (built_in name w.model)

-- `#include` in the file with this index (6.10.2)
abbrev pub include : World → ℕ → Bool → Place → List Lexeme → Known → List (List ℕ) → Result Entered Refused
include w top deepest place line k names =
    then (under names (include_asks deepest place line k)) (λ a. included place a.header.name (sought_from w (includer_in names top a.header.quoted) a.header.name) a.known names)

-- what a step of the reading of a file leaves: the file is at its end, it goes on, or another file is included in it
pub data Step : Type 0 where
  ended : (course : Course) → Step
  goes_on : (top : Opened) → (course : Course) → Step
  includes : (file top : Opened) → (course : Course) → Step

abbrev pub on_reading : List (List ℕ) → Reading → Step
on_reading names r = goes_on r.top (course r.known names)

abbrev pub on_known : Opened → List (List ℕ) → Known → Step
on_known top names k = goes_on top (course k names)

abbrev pub step_into : Option Opened → Opened → Course → Step
step_into None top c = goes_on top c
step_into (Some file) top c = includes file top c

-- what a directive does; `behind` stands behind its `#`
abbrev pub directive : World → Bool → Place → List Lexeme → Line → Opened → Course → Result Step Refused
directive w deepest place behind l top c =
    cond (is_conditional l.directive)
    (then (under c.names (conditional w.model.char_signed l.directive place l.line (record { known = c.known; top = top }))) (λ r. Ok (on_reading c.names r)))
    (cond (is_skipped top.sections) (Ok (goes_on top c))
    (cond (is_include l.directive)
    (then (include w top.file deepest place l.line c.known c.names) (λ e. Ok (step_into e.file top e.course)))
    (then (under c.names (plain l.directive top.file place l.line behind c.known)) (λ k. Ok (on_known top c.names k)))))

-- a file ends where no section is open in it, or else its first one is refused
abbrev pub file_ended : Option Place → Course → Result Step Refused
file_ended None c = Ok (ended c)
file_ended (Some place) c = Err (refused (fault_of place refusal.UnevenConditional) c.names)

abbrev pub step_at : World → Bool → Option Place → Opened → Course → Result Step Refused
step_at w deepest None top c = then (under c.names (text_lines (record { known = c.known; top = top }))) (λ r. Ok (on_reading c.names r))
step_at w deepest (Some place) top c =
    directive w deepest place (cut_directive top.unread).front (line_of c.known.texts (cut_directive top.unread).front) (record top { unread = (cut_directive top.unread).rest }) c

abbrev pub step_by : World → Bool → Option Lexeme → Opened → Course → Result Step Refused
step_by w deepest None top c = file_ended (first_open top.sections) c
step_by w deepest (Some x) top c = step_at w deepest (directive_at c.known.texts (Some x)) top c

-- the next text lines or the next directive
abbrev pub step : World → Bool → Opened → Course → Result Step Refused
step w deepest top c = step_by w deepest (first_of top.unread) top c

abbrev pub follow : (Opened → Course → Result Course Refused) → (Opened → Course → Result Course Refused) → Step → Result Course Refused
follow deeper go (ended c) = Ok c
follow deeper go (goes_on top c) = go top c
follow deeper go (includes file top c) = then (deeper file c) (go top)

-- along a file, by a count that is more than its tokens; `deeper` reads a file that is included in it
unfoldable pub lines : World → Bool → (Opened → Course → Result Course Refused) → ℕ → Opened → Course → Result Course Refused
lines w deepest deeper zero top c = Ok c
lines w deepest deeper (suc turns) top c = then (step w deepest top c) (follow deeper (lines w deepest deeper turns))

-- a file in which so many further inclusions may be open one in the other
unfoldable pub file_read : World → ℕ → Opened → Course → Result Course Refused
file_read w zero top c = lines w true (λ file c1. Ok c1) (suc (length top.unread)) top c
file_read w (suc more) top c = lines w false (file_read w more) (suc (length top.unread)) top c

abbrev pub read_if : World → Option Opened → Course → Result Course Refused
read_if w None c = Ok c
read_if w (Some file) c = file_read w 16 file c

-- the tokens of a unit, and the names of its files
pub record Preprocessed : Type 0 where
  pub tokens : List Token
  pub names : List (List ℕ)

abbrev pub preprocessed : List Token → List (List ℕ) → Preprocessed
preprocessed tokens names = record { tokens = tokens; names = names }

-- a unit whose main file has this name and these bytes
abbrev pub unit : World → List ℕ → List ℕ → Result Preprocessed Refused
unit w main bytes = then (then (entered (found_of main bytes) start []) (λ e. read_if w e.file e.course)) (λ c. Ok (preprocessed c.known.out c.names))

-- a unit from the name of its main file on, where these bytes, or none, are held under that name
abbrev pub main_read : World → List ℕ → Option (List ℕ) → Option (Result Preprocessed Refused)
main_read w main None = None
main_read w main (Some bytes) = Some (cond (nat_le (length bytes) 1048576) (unit w main bytes) (Err (long_refused main [])))

-- a unit over files; None where its main file is not held
abbrev pub unit_from : Files → List (List ℕ) → Model → List ℕ → Option (Result Preprocessed Refused)
unit_from files dirs model main = main_read (world_of (sought files) dirs model) main (file_at files main)
