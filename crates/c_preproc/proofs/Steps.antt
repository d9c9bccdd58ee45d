-- What the functions that read files answer, from what those below them answer.
use Rattle.std.proofs.Common.{◌≡◌, ℕ, Bool, true, false, cond, List, [], ◌∷◌, Option, Some, None, Result, Ok, Err, IfOk, is_some, map, option_map, string_bytes, refl, sym, ◌∙◌, ap, subst}
use Rattle.cc_base.specs.Outside.{Files}
use Rattle.cc_base.specs.declared.diagnostics.Place.{Place}
use Rattle.cc_base.specs.declared.refusals.Fault.{Fault}
use Rattle.cc_base.specs.declared.refusals.Refusal.TheVariants as refusal
use Rattle.cc_base.specs.declared.refusals.Stop.{Stop}
use Rattle.cc_base.specs.declared.refusals.Stop.TheVariants as stop
use Rattle.c_layout.specs.declared.data_model.Model.{Model}
use Rattle.c_lexer.specs.Cutting.{fault_of}
use Rattle.c_lexer.specs.FileTokens.{file_tokens}
use Rattle.c_preproc_macros.specs.declared.lexeme.Lexeme.{Lexeme}
use Rattle.c_preproc_macros.specs.Numbering.{number_in, with_text}
use Rattle.c_preproc_directives.specs.declared.directive_names.Directive.{Directive}
use Rattle.c_preproc_directives.specs.declared.open_files.OpenFile.{OpenFile}
use Rattle.c_preproc_directives.specs.Directives.{Header, is_conditional, is_include}
use Rattle.c_preproc_directives.specs.Groups.{is_skipped}
use Rattle.c_preproc_directives.specs.OpenFiles.{Opened, opened_of, first_of}
use Rattle.c_preproc.specs.declared.found_file.FoundFile.{FoundFile}
use Rattle.c_preproc.specs.Searching.{Found, found_of, searched_names, built_in}
use Rattle.c_preproc.specs.Known.{Known, Reading, Line, Asked, Gives, start, is_once, include_asks, conditional, plain, directive_at, text_lines, first_open}
use Rattle.c_preproc.specs.Reading.{found_as}
use Rattle.c_preproc.specs.Units.{World, world_of, Course, course, Refused, refused, then, under, Sought, sought, Opening, opened_by, Entered, entered_as, entered, long_refused, included, includer_in, sought_from, include, Step, on_reading, on_known, step_into, directive, file_ended, step_at, step_by, step, file_read, read_if, preprocessed, unit, main_read, unit_from}
use Rattle.c_preproc.specs.Units.Sought.{found, too_long, nothing}
use Rattle.c_preproc.specs.Units.Step.{ended, goes_on, includes}
use Rattle.c_preproc.specs.declared.preprocessing.Step.{Step as StepOf}
use Rattle.c_preproc.specs.declared.preprocessing.Step.TheVariants.{GoesOn}
use Rattle.c_preproc.specs.Told.{IsSought, UnitGives, IsMissingStop, SearchGives, opened_if, step_as}
use Rattle.c_preproc.proofs.Told.{find_by, find_by_finds}

-- what is the same as one answer is given as that one is
given_by : {A B : Type 0} (x y : Result B Refused) (view : A → B) (names : List (List ℕ)) (r : Result A Stop) → x ≡ y → UnitGives y view names r → UnitGives x view names r
given_by x y view names r e h = subst (λ v. UnitGives v view names r) (sym e) h

-- a refusal of a part is one of the whole
under_refused : {A B C D : Type 0} (part : Result B Fault) (part_view : A → B) (go : B → Result D Refused) (view : C → D) (names : List (List ℕ)) (s : Stop) → Gives part part_view (Err s) → UnitGives (then (under names part) go) view names (Err s)
under_refused part part_view go view names (stop.Refused f) h = ap (λ v. then (under names v) go) h
under_refused part part_view go view names stop.NotHeld h = h
under_refused part part_view go view names stop.ReadFault h = absurd h
under_refused part part_view go view names stop.Memory h = tt

pub refused_as : {A B : Type 0} (x : Result B Refused) (view : A → B) (names : List (List ℕ)) (s : Stop) (f : Fault) → s ≡ stop.Refused f → x ≡ Err (refused f names) → UnitGives x view names (Err s)
refused_as x view names s f e h = subst (λ v. UnitGives x view names (Err v)) (sym e) h

-- ---- an included file is entered

enter_by : (f : Found) (k : Known) (names now : List (List ℕ)) (n : ℕ) → n ≡ number_in names f.name → now ≡ with_text names f.name
    → entered f k names ≡ cond (is_once k.once n) (Ok (entered_as k now None)) (then (under now (opened_by n k (file_tokens n f.bytes))) (λ o. Ok (entered_as o.known now (Some o.file))))
enter_by f k names now n e h =
    ap (λ m. cond (is_once k.once m) (Ok (entered_as k (with_text names f.name) None)) (then (under (with_text names f.name) (opened_by m k (file_tokens m f.bytes))) (λ o. Ok (entered_as o.known (with_text names f.name) (Some o.file))))) (sym e)
    ∙ ap (λ v. cond (is_once k.once n) (Ok (entered_as k v None)) (then (under v (opened_by n k (file_tokens n f.bytes))) (λ o. Ok (entered_as o.known v (Some o.file))))) (sym h)

enter_open : (f : Found) (k : Known) (names now : List (List ℕ)) (n : ℕ) → n ≡ number_in names f.name → now ≡ with_text names f.name → is_once k.once n ≡ false
    → entered f k names ≡ then (under now (opened_by n k (file_tokens n f.bytes))) (λ o. Ok (entered_as o.known now (Some o.file)))
enter_open f k names now n e h i = enter_by f k names now n e h ∙ ap (λ b. cond b (Ok (entered_as k now None)) (then (under now (opened_by n k (file_tokens n f.bytes))) (λ o. Ok (entered_as o.known now (Some o.file))))) i

pub enter_refused : {A : Type 0} (f : Found) (k : Known) (names now : List (List ℕ)) (n : ℕ) (bytes : List ℕ) (part_view : OpenFile → Opening) (view : A → Entered) (s : Stop) → n ≡ number_in names f.name → now ≡ with_text names f.name → is_once k.once n ≡ false → bytes ≡ f.bytes
    → Gives (opened_by n k (file_tokens n bytes)) part_view (Err s) → UnitGives (entered f k names) view now (Err s)
enter_refused f k names now n bytes part_view view s e h i t g = given_by _ _ view now (Err s) (enter_open f k names now n e h i)
    (under_refused (opened_by n k (file_tokens n f.bytes)) part_view _ view now s (subst (λ v. Gives (opened_by n k (file_tokens n v)) part_view (Err s)) t g))

-- ---- `#include`

include_given : (w : World) (top : ℕ) (deepest : Bool) (place : Place) (line : List Lexeme) (k : Known) (names : List (List ℕ)) (a : Asked) (s : Sought)
    → include_asks deepest place line k ≡ Ok a → sought_from w (includer_in names top a.header.quoted) a.header.name ≡ s
    → include w top deepest place line k names ≡ included place a.header.name s a.known names
include_given w top deepest place line k names a s e h =
    ap (λ v. then (under names v) (λ a. included place a.header.name (sought_from w (includer_in names top a.header.quoted) a.header.name) a.known names)) e ∙ ap (λ v. included place a.header.name v a.known names) h

pub include_not_asked : {A B : Type 0} (w : World) (top : ℕ) (deepest : Bool) (place : Place) (line : List Lexeme) (k : Known) (names : List (List ℕ)) (part_view : A → Asked) (view : B → Entered) (s : Stop) → Gives (include_asks deepest place line k) part_view (Err s)
    → UnitGives (include w top deepest place line k names) view names (Err s)
include_not_asked w top deepest place line k names part_view view s g = under_refused (include_asks deepest place line k) part_view _ view names s g

-- the names that were searched are those of the definition
pub sought_is : {A : Type 0} (text : A → List ℕ) (t : Option Files) (dirs : List (List ℕ)) (model : Model) (listed xs : List A) (one two own : List ℕ) (includer asked : Option (List ℕ)) (s : Sought)
    → listed ≡ xs → map text xs ≡ searched_names includer dirs one → includer ≡ asked → one ≡ own → two ≡ own → IsSought t (map text listed) (built_in two model) s
    → sought_from (world_of (find_by t s) dirs model) asked own ≡ s
sought_is text t dirs model listed xs one two own includer asked s e h i j k g =
    let names : map text listed ≡ searched_names asked dirs own = ap (map text) e ∙ (h ∙ (ap (λ v. searched_names includer dirs v) j ∙ ap (λ v. searched_names v dirs own) i)) in
    find_by_finds t s (searched_names asked dirs own) (built_in own model)
    (subst (λ v. IsSought t v (built_in own model) s) names (subst (λ v. IsSought t (map text listed) (built_in v model) s) k g))

pub include_not_found : {B : Type 0} (w : World) (top : ℕ) (deepest : Bool) (place : Place) (line : List Lexeme) (k : Known) (names now : List (List ℕ)) (a : Asked) (wanted : Sought) (view : B → Entered) (s : Stop)
    → include_asks deepest place line k ≡ Ok a → sought_from w (includer_in names top a.header.quoted) a.header.name ≡ wanted → SearchGives wanted names now (Err s)
    → UnitGives (include w top deepest place line k names) view now (Err s)
include_not_found w top deepest place line k names now a wanted view (stop.Refused f) e h t =
    include_given w top deepest place line k names a (too_long t.0) e (h ∙ t.1) ∙ ap Err (sym t.2)
include_not_found w top deepest place line k names now a wanted view stop.NotHeld e h t = t
include_not_found w top deepest place line k names now a wanted view stop.ReadFault e h t = tt
include_not_found w top deepest place line k names now a wanted view stop.Memory e h t = tt

pub include_missing : {B : Type 0} (w : World) (top : ℕ) (deepest : Bool) (place : Place) (line : List Lexeme) (k : Known) (names now : List (List ℕ)) (a : Asked) (wanted : Sought) (o : Option FoundFile) (name : List ℕ) (view : B → Entered) (s : Stop)
    → include_asks deepest place line k ≡ Ok a → sought_from w (includer_in names top a.header.quoted) a.header.name ≡ wanted → SearchGives wanted names now (Ok o) → o ≡ None → name ≡ a.header.name → IsMissingStop place name s
    → UnitGives (include w top deepest place line k names) view now (Err s)
include_missing w top deepest place line k names now a wanted o name view (stop.Refused f) e h t n i m =
    let found_none : SearchGives wanted names now (Ok None) = subst (λ v. SearchGives wanted names now (Ok v)) n t in
    let fault : f ≡ fault_of place (refusal.HeaderMissing a.header.name) = m ∙ ap (λ v. fault_of place (refusal.HeaderMissing v)) i in
    include_given w top deepest place line k names a nothing e (h ∙ found_none.0) ∙ (ap (λ v. Err (refused v names)) (sym fault) ∙ ap (λ v. Err (refused f v)) (sym found_none.1))
include_missing w top deepest place line k names now a wanted o name view stop.NotHeld e h t n i m = m
include_missing w top deepest place line k names now a wanted o name view stop.ReadFault e h t n i m = absurd m
include_missing w top deepest place line k names now a wanted o name view stop.Memory e h t n i m = tt

pub include_entered : {B : Type 0} (w : World) (top : ℕ) (deepest : Bool) (place : Place) (line : List Lexeme) (k : Known) (names before now : List (List ℕ)) (a : Asked) (wanted : Sought) (o : Option FoundFile) (f : FoundFile) (view : B → Entered) (r : Result B Stop)
    → include_asks deepest place line k ≡ Ok a → sought_from w (includer_in names top a.header.quoted) a.header.name ≡ wanted → SearchGives wanted names before (Ok o) → o ≡ Some f → UnitGives (entered (found_as f) a.known before) view now r
    → UnitGives (include w top deepest place line k names) view now r
include_entered w top deepest place line k names before now a wanted o f view r e h t n g =
    let found_one : SearchGives wanted names before (Ok (Some f)) = subst (λ v. SearchGives wanted names before (Ok v)) n t in
    given_by _ _ view now r (include_given w top deepest place line k names a (found (found_as f)) e (h ∙ found_one.0)) (subst (λ v. UnitGives (entered (found_as f) a.known v) view now r) found_one.1 g)

-- ---- directives

abbrev line_with : Directive → List Lexeme → Line
line_with d line = record { directive = d; line = line }

chosen_true : {A : Type 0} (b : Bool) (x y : A) → b ≡ true → cond b x y ≡ x
chosen_true b x y e = ap (λ v. cond v x y) e

chosen_false : {A : Type 0} (b : Bool) (x y : A) → b ≡ false → cond b x y ≡ y
chosen_false b x y e = ap (λ v. cond v x y) e

as_conditional : (w : World) (deepest : Bool) (place : Place) (behind : List Lexeme) (l : Line) (top : Opened) (c : Course) → is_conditional l.directive ≡ true
    → directive w deepest place behind l top c ≡ then (under c.names (conditional w.model.char_signed l.directive place l.line (record { known = c.known; top = top }))) (λ r. Ok (on_reading c.names r))
as_conditional w deepest place behind l top c e = chosen_true (is_conditional l.directive) _ _ e

as_skipped : (w : World) (deepest : Bool) (place : Place) (behind : List Lexeme) (l : Line) (top : Opened) (c : Course) → is_conditional l.directive ≡ false → is_skipped top.sections ≡ true → directive w deepest place behind l top c ≡ Ok (goes_on top c)
as_skipped w deepest place behind l top c e h = chosen_false (is_conditional l.directive) _ _ e ∙ chosen_true (is_skipped top.sections) _ _ h

as_plain : (w : World) (deepest : Bool) (place : Place) (behind : List Lexeme) (l : Line) (top : Opened) (c : Course) → is_conditional l.directive ≡ false → is_skipped top.sections ≡ false → is_include l.directive ≡ false
    → directive w deepest place behind l top c ≡ then (under c.names (plain l.directive top.file place l.line behind c.known)) (λ k. Ok (on_known top c.names k))
as_plain w deepest place behind l top c e h i = chosen_false (is_conditional l.directive) _ _ e ∙ (chosen_false (is_skipped top.sections) _ _ h ∙ chosen_false (is_include l.directive) _ _ i)

pub conditional_refused : {A B : Type 0} (w : World) (deepest : Bool) (place : Place) (behind : List Lexeme) (d : Directive) (line : List Lexeme) (l : Line) (top : Opened) (c : Course) (part_view : A → Reading) (view : B → Step) (s : Stop)
    → line_with d line ≡ l → is_conditional d ≡ true → Gives (conditional w.model.char_signed d place line (record { known = c.known; top = top })) part_view (Err s)
    → UnitGives (directive w deepest place behind l top c) view c.names (Err s)
conditional_refused w deepest place behind d line l top c part_view view s e h g = subst (λ v. UnitGives (directive w deepest place behind v top c) view c.names (Err s)) e
    (given_by _ _ view c.names (Err s) (as_conditional w deepest place behind (line_with d line) top c h) (under_refused _ part_view _ view c.names s g))

pub conditional_done : (w : World) (deepest : Bool) (place : Place) (behind : List Lexeme) (d : Directive) (line : List Lexeme) (l : Line) (top after : Opened) (c : Course) (k : Known)
    → line_with d line ≡ l → is_conditional d ≡ true → conditional w.model.char_signed d place line (record { known = c.known; top = top }) ≡ Ok (record { known = k; top = after })
    → directive w deepest place behind l top c ≡ Ok (goes_on after (course k c.names))
conditional_done w deepest place behind d line l top after c k e h g = subst (λ v. directive w deepest place behind v top c ≡ Ok (goes_on after (course k c.names))) e
    (as_conditional w deepest place behind (line_with d line) top c h ∙ ap (λ v. then (under c.names v) (λ r. Ok (on_reading c.names r))) g)

pub directive_skipped : (w : World) (deepest : Bool) (place : Place) (behind : List Lexeme) (d : Directive) (line : List Lexeme) (l : Line) (top : Opened) (c : Course)
    → line_with d line ≡ l → is_conditional d ≡ false → is_skipped top.sections ≡ true → directive w deepest place behind l top c ≡ Ok (goes_on top c)
directive_skipped w deepest place behind d line l top c e h i = subst (λ v. directive w deepest place behind v top c ≡ Ok (goes_on top c)) e (as_skipped w deepest place behind (line_with d line) top c h i)

pub plain_refused : {A B : Type 0} (w : World) (deepest : Bool) (place : Place) (behind : List Lexeme) (d : Directive) (line : List Lexeme) (l : Line) (top : Opened) (c : Course) (part_view : A → Known) (view : B → Step) (s : Stop)
    → line_with d line ≡ l → is_conditional d ≡ false → is_skipped top.sections ≡ false → is_include d ≡ false → Gives (plain d top.file place line behind c.known) part_view (Err s)
    → UnitGives (directive w deepest place behind l top c) view c.names (Err s)
plain_refused w deepest place behind d line l top c part_view view s e h i j g = subst (λ v. UnitGives (directive w deepest place behind v top c) view c.names (Err s)) e
    (given_by _ _ view c.names (Err s) (as_plain w deepest place behind (line_with d line) top c h i j) (under_refused _ part_view _ view c.names s g))

pub plain_done : (w : World) (deepest : Bool) (place : Place) (behind : List Lexeme) (d : Directive) (line : List Lexeme) (l : Line) (top : Opened) (c : Course) (k : Known)
    → line_with d line ≡ l → is_conditional d ≡ false → is_skipped top.sections ≡ false → is_include d ≡ false → plain d top.file place line behind c.known ≡ Ok k
    → directive w deepest place behind l top c ≡ Ok (goes_on top (course k c.names))
plain_done w deepest place behind d line l top c k e h i j g = subst (λ v. directive w deepest place behind v top c ≡ Ok (goes_on top (course k c.names))) e
    (as_plain w deepest place behind (line_with d line) top c h i j ∙ ap (λ v. then (under c.names v) (λ k. Ok (on_known top c.names k))) g)

-- no file is included
pub conditional_step : (w : World) (deepest : Bool) (place : Place) (behind : List Lexeme) (d : Directive) (line : List Lexeme) (l : Line) (top after : Opened) (c : Course) (k : Known) (r : Result (Option OpenFile) Stop)
    → line_with d line ≡ l → is_conditional d ≡ true → IfOk r (λ o. o ≡ None) → Gives (conditional w.model.char_signed d place line (record { known = c.known; top = top })) (λ _. record { known = k; top = after }) r
    → UnitGives (directive w deepest place behind l top c) (λ o. step_into (opened_if o) after (course k c.names)) c.names r
conditional_step w deepest place behind d line l top after c k (Ok o) e h n g = conditional_done w deepest place behind d line l top after c k e h g ∙ ap (λ v. Ok (step_into (opened_if v) after (course k c.names))) (sym n)
conditional_step w deepest place behind d line l top after c k (Err s) e h n g = conditional_refused {A = Option OpenFile} w deepest place behind d line l top c (λ _. record { known = k; top = after }) (λ o. step_into (opened_if o) after (course k c.names)) s e h g

pub plain_step : (w : World) (deepest : Bool) (place : Place) (behind : List Lexeme) (d : Directive) (line : List Lexeme) (l : Line) (top : Opened) (c : Course) (k : Known) (r : Result (Option OpenFile) Stop)
    → line_with d line ≡ l → is_conditional d ≡ false → is_skipped top.sections ≡ false → is_include d ≡ false → IfOk r (λ o. o ≡ None) → Gives (plain d top.file place line behind c.known) (λ _. k) r
    → UnitGives (directive w deepest place behind l top c) (λ o. step_into (opened_if o) top (course k c.names)) c.names r
plain_step w deepest place behind d line l top c k (Ok o) e h i j n g = plain_done w deepest place behind d line l top c k e h i j g ∙ ap (λ v. Ok (step_into (opened_if v) top (course k c.names))) (sym n)
plain_step w deepest place behind d line l top c k (Err s) e h i j n g = plain_refused {A = Option OpenFile} w deepest place behind d line l top c (λ _. k) (λ o. step_into (opened_if o) top (course k c.names)) s e h i j g

-- ---- a step of a file

pub step_ended : (w : World) (deepest : Bool) (top : Opened) (c : Course) (o : Option Lexeme) → o ≡ first_of top.unread → is_some o ≡ false → first_open top.sections ≡ None → step w deepest top c ≡ Ok (ended c)
step_ended w deepest top c o e h i = ap (λ v. step_by w deepest v top c) (sym e) ∙ go o h
  where
    go : (o : Option Lexeme) → is_some o ≡ false → step_by w deepest o top c ≡ Ok (ended c)
    go None h = ap (λ v. file_ended v c) i
    go (Some x) h = absurd (cc)

pub step_uneven : (w : World) (deepest : Bool) (top : Opened) (c : Course) (o : Option Lexeme) (place : Place) → o ≡ first_of top.unread → is_some o ≡ false → first_open top.sections ≡ Some place
    → step w deepest top c ≡ Err (refused (fault_of place refusal.UnevenConditional) c.names)
step_uneven w deepest top c o place e h i = ap (λ v. step_by w deepest v top c) (sym e) ∙ go o h
  where
    go : (o : Option Lexeme) → is_some o ≡ false → step_by w deepest o top c ≡ Err (refused (fault_of place refusal.UnevenConditional) c.names)
    go None h = ap (λ v. file_ended v c) i
    go (Some x) h = absurd (cc)

as_text : (w : World) (deepest : Bool) (top : Opened) (c : Course) (o : Option Lexeme) → o ≡ first_of top.unread → is_some o ≡ true → directive_at c.known.texts o ≡ None
    → step w deepest top c ≡ then (under c.names (text_lines (record { known = c.known; top = top }))) (λ r. Ok (on_reading c.names r))
as_text w deepest top c o e h i = ap (λ v. step_by w deepest v top c) (sym e) ∙ go o h i
  where
    go : (o : Option Lexeme) → is_some o ≡ true → directive_at c.known.texts o ≡ None → step_by w deepest o top c ≡ then (under c.names (text_lines (record { known = c.known; top = top }))) (λ r. Ok (on_reading c.names r))
    go None h i = absurd (cc)
    go (Some x) h i = ap (λ v. step_at w deepest v top c) i

pub step_text_refused : {A B : Type 0} (w : World) (deepest : Bool) (top : Opened) (c : Course) (o : Option Lexeme) (part_view : A → Reading) (view : B → Step) (s : Stop) → o ≡ first_of top.unread → is_some o ≡ true → directive_at c.known.texts o ≡ None
    → Gives (text_lines (record { known = c.known; top = top })) part_view (Err s) → UnitGives (step w deepest top c) view c.names (Err s)
step_text_refused w deepest top c o part_view view s e h i g = given_by _ _ view c.names (Err s) (as_text w deepest top c o e h i) (under_refused _ part_view _ view c.names s g)

pub step_text : (w : World) (deepest : Bool) (top after : Opened) (c : Course) (o : Option Lexeme) (k : Known) → o ≡ first_of top.unread → is_some o ≡ true → directive_at c.known.texts o ≡ None
    → text_lines (record { known = c.known; top = top }) ≡ Ok (record { known = k; top = after }) → step w deepest top c ≡ Ok (goes_on after (course k c.names))
step_text w deepest top after c o k e h i g = as_text w deepest top c o e h i ∙ ap (λ v. then (under c.names v) (λ r. Ok (on_reading c.names r))) g

pub text_step : (w : World) (deepest : Bool) (top after : Opened) (c : Course) (o : Option Lexeme) (k : Known) (r : Result StepOf Stop) → o ≡ first_of top.unread → is_some o ≡ true → directive_at c.known.texts o ≡ None
    → IfOk r (λ s. s ≡ GoesOn) → Gives (text_lines (record { known = c.known; top = top })) (λ _. record { known = k; top = after }) r
    → UnitGives (step w deepest top c) (step_as after (course k c.names)) c.names r
text_step w deepest top after c o k (Ok s) e h i n g = step_text w deepest top after c o k e h i g ∙ ap (λ v. Ok (step_as after (course k c.names) v)) (sym n)
text_step w deepest top after c o k (Err s) e h i n g = step_text_refused {A = StepOf} w deepest top c o (λ _. record { known = k; top = after }) (step_as after (course k c.names)) s e h i g
