-- What is held is expanded, stage by stage: the tokens of the file, their numbers, macros, and the tokens again.
use Rattle.std.specs.Prelude.{◌≡◌, refl, ℕ, Bool, true, false, List, [], ◌∷◌, Option, Some, None, Result, Ok, codes}
use Rattle.std.proofs.Common.{ap, ◌∙◌}
use Rattle.std.specs.Ordering.{nat_cmp}
use Rattle.std.specs.Cmp.Lexicographic.{slice_cmp}
use Rattle.std.specs.FinMap as map
use Rattle.cc_base.specs.Outside.{file_at}
use Rattle.cc_base.specs.declared.lexemes.Kind.TheVariants as kind
use Rattle.cc_base.specs.declared.lexemes.Token.{Token}
use Rattle.cc_base.specs.declared.refusals.Fault.{Fault}
use Rattle.c_layout.specs.Models.{lp64}
use Rattle.c_preproc_macros.specs.Expanding.{Outcome, expansion, along, within, repl}
use Rattle.c_preproc_macros.specs.Expanding.Outcome.{done}
use Rattle.c_preproc_macros.specs.States.{setting_in}
use Rattle.c_preproc_macros.specs.declared.lexeme.Lexeme.{Lexeme}
use Rattle.c_preproc_macros.specs.declared.lexeme.Lexeme.TheVariants.{Name, Open, Close, Other}
use Rattle.c_preproc_macros.specs.declared.lexeme.Mark.{Mark}
use Rattle.c_preproc_directives.specs.OpenFiles.{Opened}
use Rattle.c_preproc.specs.Known.{Known, start, expanded, with_known}
use Rattle.c_preproc.specs.Searching.{found_of}
use Rattle.c_preproc.specs.Units.{World, world_of, sought, then, under, opened_by, Opening, Entered, entered_as, entered, Course, course, Step, goes_on, on_reading, Preprocessed, preprocessed, Refused, step, follow, lines, file_read, read_if, unit, main_read, unit_from}
use Rattle.cli_examples.proofs.units.Cutting.{cut}
use Rattle.cli_examples.specs.Units.WorkedPlaces.{at}
use Rattle.cli_examples.specs.Units.WorkedTexts.{Bytes, name, held, unit_text, tokens_with}

abbrev tokens : List Token
tokens = tokens_with (codes "0")

-- ---- with their spellings as numbers

abbrev mark : ℕ → Bool → Mark
mark column space = record { place = at column; first = false; space = space }

abbrev lexemes : List Lexeme
lexemes =
    Name 3 (record { place = at 1; first = true; space = false }) ∷ (Name 4 (mark 5 true) ∷ (Open (mark 9 false) ∷ (Name 5 (mark 10 false) ∷ (Close (mark 14 false)
    ∷ (Other kind.Punct 6 (mark 15 false) ∷ (Name 7 (mark 16 false) ∷ (Other kind.Number 1 (mark 23 true) ∷ (Other kind.Punct 8 (mark 24 false)
    ∷ (Other kind.Number 2 (mark 25 false) ∷ (Other kind.Punct 9 (mark 26 false) ∷ (Other kind.Punct 10 (mark 27 false) ∷ [])))))))))))

abbrev texts : List Bytes
texts = codes "__STDC__" ∷ (codes "1" ∷ (codes "0" ∷ (codes "int" ∷ (codes "main" ∷ (codes "void" ∷ (codes "{" ∷ (codes "return" ∷ (codes "/" ∷ (codes ";" ∷ (codes "}" ∷ []))))))))))

abbrev first_known : Known
first_known = record start { texts = texts }

abbrev top_with : List Lexeme → Opened
top_with unread = record { file = 0; sections = []; unread = unread }

abbrev begun : Course
begun = course first_known (name ∷ [])

opens : entered (found_of name unit_text) start [] ≡ Ok (entered_as first_known (name ∷ []) (Some (top_with lexemes)))
opens = ap (λ (r : Result (List Token) Fault). then (under (name ∷ []) (opened_by 0 start r)) (λ (o : Opening). Ok (entered_as o.known (name ∷ []) (Some o.file)))) cut

-- ---- no macro

expands : expansion (setting_in start.macros) lexemes 0 ≡ done lexemes 0
unfolding along within repl
expands = refl

abbrev last_known : Known
last_known = record first_known { out = tokens }

appends : expanded None (done lexemes 0) first_known ≡ Ok last_known
appends = refl

-- ---- the lines

abbrev world : World
world = world_of (sought held) [] lp64

abbrev ended : Course
ended = course last_known (name ∷ [])

takes : step world false (top_with lexemes) begun ≡ Ok (goes_on (top_with []) ended)
takes = ap (λ (r : Result Known Fault). then (under (name ∷ []) (with_known (top_with []) r)) (λ r. Ok (on_reading (name ∷ []) r))) (ap (λ (o : Outcome (List Lexeme)). expanded None o first_known) expands ∙ appends)

reads : file_read world 16 (top_with lexemes) begun ≡ Ok ended
unfolding lines file_read
reads = ap (λ (r : Result Step Refused). then r (follow (file_read world 15) (lines world false (file_read world 15) 12))) takes

-- ---- the unit

unit_is : unit world name unit_text ≡ Ok (preprocessed tokens (name ∷ []))
unit_is =
    ap (λ (r : Result Entered Refused). then (then r (λ (e : Entered). read_if world e.file e.course)) (λ (c : Course). Ok (preprocessed c.known.out c.names))) opens
    ∙ ap (λ (r : Result Course Refused). then r (λ (c : Course). Ok (preprocessed c.known.out c.names))) reads

file_is : file_at held name ≡ Some unit_text
file_is = map.get-from_sorted (slice_cmp nat_cmp) ((name, unit_text) ∷ []) name tt

pub unit_of : unit_from held [] lp64 name ≡ Some (Ok (preprocessed tokens (name ∷ [])))
unit_of = ap (λ (found : Option Bytes). main_read world name found) file_is ∙ ap (λ (r : Result Preprocessed Refused). Some r) unit_is

-- no file has another name
pub none_of : unit_from held [] lp64 (codes "b.c") ≡ None
none_of = ap (λ (found : Option Bytes). main_read world (codes "b.c") found) (map.get-from_sorted (slice_cmp nat_cmp) ((name, unit_text) ∷ []) (codes "b.c") tt)
