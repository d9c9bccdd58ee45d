-- The reading of a file goes by its steps, and what a stack of open files still gives.
use Rattle.std.proofs.Common.{◌≡◌, ◌≤◌, ◌<◌, ◌+◌, ◌-◌, ℕ, zero, suc, Bool, true, false, cond, nat_lt, List, [], ◌∷◌, length, map, Option, Some, None, Result, Ok, Err, refl, sym, ◌∙◌, ap, subst, arith}
use Rattle.std.proofs.lemmas.Bool.Decides.{nat_tests}
use Rattle.cc_base.specs.declared.diagnostics.Place.{Place}
use Rattle.cc_base.specs.declared.refusals.Fault.{Fault}
use Rattle.cc_base.specs.declared.refusals.Stop.{Stop}
use Rattle.c_preproc_macros.specs.declared.lexeme.Lexeme.{Lexeme}
use Rattle.c_preproc_macros.specs.Lexemes.{mark_of}
use Rattle.c_preproc_directives.specs.declared.conditional_groups.GroupState.{GroupState}
use Rattle.c_preproc_directives.specs.declared.conditional_groups.GroupState.TheVariants.{Outside}
use Rattle.c_preproc_directives.specs.declared.conditional_groups.Section.{Section}
use Rattle.c_preproc_directives.specs.declared.conditional_groups.Uneven.{Uneven}
use Rattle.c_preproc_directives.specs.declared.directive_names.Directive.{Directive}
use Rattle.c_preproc_directives.specs.declared.directive_names.Directive.TheVariants.{If, Ifdef, Ifndef, Elif, Else, Endif}
use Rattle.c_preproc_directives.specs.Directives.{is_conditional, is_include}
use Rattle.c_preproc_directives.specs.Groups.{is_skipped, is_waiting, state_behind, state_before_elif, first_state, with_state, else_fault, turned_else, end_fault, left}
use Rattle.c_preproc_directives.specs.OpenFiles.{Opened, opened_of, begins_directive, first_of, Cut, cut, with_front, cut_text, cut_line, cut_directive}
use Rattle.c_preproc.specs.Known.{Known, Reading, Line, Decided, condition, entered_in, first_group, only_name, ifdef_named, begun_if, begun_ifdef, next_group, elif_behind, turned_elif, is_nil, if_even, else_turned, if_ended, with_top, conditional, plain, line_of, directive_at, with_known, text_lines, Asked, only_header, include_numbered, first_open}
use Rattle.c_preproc.specs.declared.preprocessing.Step.{Step as StepOf}
use Rattle.c_preproc.specs.declared.preprocessing.Step.TheVariants.{Ended, GoesOn, Includes}
use Rattle.cc_base.specs.declared.refusals.Stop.TheVariants as stop
use Rattle.cc_base.specs.Outside.{Files}
use Rattle.c_layout.specs.declared.data_model.Model.{Model}
use Rattle.c_preproc.specs.Searching.{Found}
use Rattle.c_preproc.specs.Told.{IsFind, UnitGives, step_as, stacked}
use Rattle.c_preproc.specs.Units.{World, world_of, Sought, sought, Course, course, Refused, refused, then, under, Entered, include, Step, on_reading, on_known, step_into, directive, file_ended, step_at, step_by, step, follow, lines, file_read}
use Rattle.c_preproc.specs.Units.Step.{ended, goes_on, includes}

either : {A : Type 0} (t : Bool) (x y : A) (P : A → Type 0) → (t ≡ true → P x) → (t ≡ false → P y) → P (cond t x y)
either true x y P h k = h refl
either false x y P h k = k refl

-- ---- a step takes a token

-- what is left of the file has fewer tokens than so many
abbrev IsShorter : ℕ → Result Step Refused → Type 0
IsShorter n (Ok (ended c)) = Unit {0}
IsShorter n (Ok (goes_on top c)) = length top.unread < n
IsShorter n (Ok (includes file top c)) = length top.unread < n
IsShorter n (Err r) = Unit {0}

-- the file has these tokens left
abbrev Leaves : List Lexeme → Result Reading Fault → Type 0
Leaves u (Ok r) = r.top.unread ≡ u
Leaves u (Err f) = Unit {0}

first_leaves : (place : Place) (top : Opened) (d : Result Decided Fault) → Leaves top.unread (first_group place top d)
first_leaves place top (Ok d) = refl
first_leaves place top (Err f) = tt

next_leaves : (top : Opened) (d : Result Decided Fault) → Leaves top.unread (next_group top d)
next_leaves top (Ok d) = refl
next_leaves top (Err f) = tt

ifdef_leaves : (wanted : Bool) (place : Place) (o : Option ℕ) (r : Reading) → Leaves r.top.unread (ifdef_named wanted place o r)
ifdef_leaves wanted place None r = tt
ifdef_leaves wanted place (Some n) r = refl

elif_leaves : (char_signed : Bool) (place : Place) (line : List Lexeme) (o : Option GroupState) (r : Reading) → Leaves r.top.unread (elif_behind char_signed place line o r)
elif_leaves char_signed place line None r = tt
elif_leaves char_signed place line (Some s) r = either (is_waiting s) _ _ (Leaves r.top.unread) (λ e. next_leaves r.top (condition char_signed place line r.known)) (λ e. refl)

even_leaves : (k : Known) (place : Place) (o : Option Uneven) (sections : List Section) (top : Opened) → Leaves top.unread (with_top k (if_even place o sections top))
even_leaves k place None sections top = refl
even_leaves k place (Some f) sections top = tt

conditional_leaves : (char_signed : Bool) (d : Directive) (place : Place) (line : List Lexeme) (r : Reading) → Leaves r.top.unread (conditional char_signed d place line r)
conditional_leaves char_signed If place line r = either (is_skipped r.top.sections) _ _ (Leaves r.top.unread) (λ e. refl) (λ e. first_leaves place r.top (condition char_signed place line r.known))
conditional_leaves char_signed Ifdef place line r = either (is_skipped r.top.sections) _ _ (Leaves r.top.unread) (λ e. refl) (λ e. ifdef_leaves true place (only_name line) r)
conditional_leaves char_signed Ifndef place line r = either (is_skipped r.top.sections) _ _ (Leaves r.top.unread) (λ e. refl) (λ e. ifdef_leaves false place (only_name line) r)
conditional_leaves char_signed Elif place line r = elif_leaves char_signed place line (state_before_elif r.top.sections) r
conditional_leaves char_signed Else place line r = even_leaves r.known place _ _ r.top
conditional_leaves char_signed Endif place line r = even_leaves r.known place _ _ r.top
conditional_leaves char_signed d place line r = refl

reading_shorter : (n : ℕ) (u : List Lexeme) (names : List (List ℕ)) (x : Result Reading Fault) → length u < n → Leaves u x → IsShorter n (then (under names x) (λ r. Ok (on_reading names r)))
reading_shorter n u names (Ok r) h e = subst (λ v. length v < n) (sym e) h
reading_shorter n u names (Err f) h e = tt

known_shorter : (n : ℕ) (top : Opened) (names : List (List ℕ)) (x : Result Known Fault) → length top.unread < n → IsShorter n (then (under names x) (λ k. Ok (on_known top names k)))
known_shorter n top names (Ok k) h = h
known_shorter n top names (Err f) h = tt

into_shorter : (n : ℕ) (o : Option Opened) (top : Opened) (c : Course) → length top.unread < n → IsShorter n (Ok (step_into o top c))
into_shorter n None top c h = h
into_shorter n (Some f) top c h = h

include_shorter : (n : ℕ) (top : Opened) (x : Result Entered Refused) → length top.unread < n → IsShorter n (then x (λ e. Ok (step_into e.file top e.course)))
include_shorter n top (Ok e) h = into_shorter n e.file top e.course h
include_shorter n top (Err r) h = tt

directive_shorter : (n : ℕ) (w : World) (deepest : Bool) (place : Place) (behind : List Lexeme) (l : Line) (top : Opened) (c : Course) → length top.unread < n → IsShorter n (directive w deepest place behind l top c)
directive_shorter n w deepest place behind l top c h = either (is_conditional l.directive) _ _ (IsShorter n)
    (λ e. reading_shorter n top.unread c.names _ h (conditional_leaves w.model.char_signed l.directive place l.line (record { known = c.known; top = top })))
    (λ e. either (is_skipped top.sections) _ _ (IsShorter n) (λ i. h)
    (λ i. either (is_include l.directive) _ _ (IsShorter n)
    (λ j. include_shorter n top (include w top.file deepest place l.line c.known c.names) h)
    (λ j. known_shorter n top c.names (plain l.directive top.file place l.line behind c.known) h)))

line_left : (xs : List Lexeme) → length (cut_line xs).rest ≤ length xs
line_left [] = omega arith
line_left (x ∷ xs) = either (mark_of x).first (cut [] (x ∷ xs)) (with_front x (cut_line xs)) (λ v. length v.rest ≤ length (x ∷ xs)) (λ e. omega arith) (λ e. let h = line_left xs in omega arith)

text_left : (texts : List (List ℕ)) (xs : List Lexeme) → length (cut_text texts xs).rest ≤ length xs
text_left texts [] = omega arith
text_left texts (x ∷ xs) = either (begins_directive texts x) (cut [] (x ∷ xs)) (with_front x (cut_text texts xs)) (λ v. length v.rest ≤ length (x ∷ xs)) (λ e. omega arith) (λ e. let h = text_left texts xs in omega arith)

first_text_left : (texts : List (List ℕ)) (x : Lexeme) (xs : List Lexeme) → begins_directive texts x ≡ false → length (cut_text texts (x ∷ xs)).rest < length (x ∷ xs)
first_text_left texts x xs e = rw e (let h = text_left texts xs in omega arith)

with_known_leaves : (top : Opened) (x : Result Known Fault) → Leaves top.unread (with_known top x)
with_known_leaves top (Ok k) = refl
with_known_leaves top (Err f) = tt

text_leaves : (r : Reading) → Leaves (cut_text r.known.texts r.top.unread).rest (text_lines r)
text_leaves r = either (is_skipped r.top.sections) _ _ (Leaves (cut_text r.known.texts r.top.unread).rest) (λ e. refl) (λ e. with_known_leaves (record r.top { unread = (cut_text r.known.texts r.top.unread).rest }) _)

ended_shorter : (n : ℕ) (o : Option Place) (c : Course) → IsShorter n (file_ended o c)
ended_shorter n None c = tt
ended_shorter n (Some place) c = tt

step_shorter : (w : World) (deepest : Bool) (file : ℕ) (sections : List Section) (unread : List Lexeme) (c : Course) → IsShorter (length unread) (step w deepest (record { file = file; sections = sections; unread = unread }) c)
step_shorter w deepest file sections [] c = ended_shorter 0 (first_open sections) c
step_shorter w deepest file sections (x ∷ xs) c = is (begins_directive c.known.texts x) refl
  where
    is : (b : Bool) → begins_directive c.known.texts x ≡ b → IsShorter (length (x ∷ xs)) (step w deepest (record { file = file; sections = sections; unread = x ∷ xs }) c)
    is true e = subst (λ v. IsShorter (length (x ∷ xs)) (step_at w deepest (cond v (Some (mark_of x).place) None) (record { file = file; sections = sections; unread = x ∷ xs }) c)) (sym e)
        (directive_shorter (length (x ∷ xs)) w deepest (mark_of x).place (cut_line xs).front (line_of c.known.texts (cut_line xs).front) (record { file = file; sections = sections; unread = (cut_line xs).rest }) c (let h = line_left xs in omega arith))
    is false e = subst (λ v. IsShorter (length (x ∷ xs)) (step_at w deepest (cond v (Some (mark_of x).place) None) (record { file = file; sections = sections; unread = x ∷ xs }) c)) (sym e)
        (reading_shorter (length (x ∷ xs)) (cut_text c.known.texts (x ∷ xs)).rest c.names _ (first_text_left c.known.texts x xs e) (text_leaves (record { known = c.known; top = record { file = file; sections = sections; unread = x ∷ xs } })))

-- ---- counts that are enough

then_same : (x : Result Course Refused) (f g : Course → Result Course Refused) → ((c : Course) → f c ≡ g c) → then x f ≡ then x g
then_same (Ok c) f g h = h c
then_same (Err r) f g h = refl

follow_same : (n : ℕ) (deeper f g : Opened → Course → Result Course Refused) (x : Result Step Refused) → IsShorter n x → ((top : Opened) (c : Course) → length top.unread < n → f top c ≡ g top c) → then x (follow deeper f) ≡ then x (follow deeper g)
follow_same n deeper f g (Ok (ended c)) h k = refl
follow_same n deeper f g (Ok (goes_on top c)) h k = k top c h
follow_same n deeper f g (Ok (includes file top c)) h k = then_same (deeper file c) (f top) (g top) (λ c1. k top c1 h)
follow_same n deeper f g (Err r) h k = refl

lines_same : (w : World) (deepest : Bool) (deeper : Opened → Course → Result Course Refused) (m n : ℕ) (top : Opened) (c : Course) → length top.unread < m → length top.unread < n → lines w deepest deeper m top c ≡ lines w deepest deeper n top c
unfolding lines
lines_same w deepest deeper zero n top c h k = absurd (omega arith)
lines_same w deepest deeper (suc m) zero top c h k = absurd (omega arith)
lines_same w deepest deeper (suc m) (suc n) top c h k =
    follow_same (length top.unread) deeper (lines w deepest deeper m) (lines w deepest deeper n) (step w deepest top c) (step_shorter w deepest top.file top.sections top.unread c)
    (λ t d l. lines_same w deepest deeper m n t d (omega arith) (omega arith))

-- whether no further inclusion may be open, and what reads a file that is included
abbrev pub is_deepest : ℕ → Bool
is_deepest zero = true
is_deepest (suc more) = false

abbrev pub deeper_of : World → ℕ → Opened → Course → Result Course Refused
deeper_of w zero file c = Ok c
deeper_of w (suc more) file c = file_read w more file c

lines_step : (w : World) (deepest : Bool) (deeper go : Opened → Course → Result Course Refused) (top : Opened) (c : Course) → ((t : Opened) (d : Course) → go t d ≡ lines w deepest deeper (suc (length t.unread)) t d)
    → lines w deepest deeper (suc (length top.unread)) top c ≡ then (step w deepest top c) (follow deeper go)
unfolding lines
lines_step w deepest deeper go top c h = follow_same (length top.unread) deeper (lines w deepest deeper (length top.unread)) go (step w deepest top c) (step_shorter w deepest top.file top.sections top.unread c)
    (λ t d l. lines_same w deepest deeper (length top.unread) (suc (length t.unread)) t d l (omega arith) ∙ sym (h t d))

-- a file's reading is its first step, and the reading of what that leaves
pub file_read_step : (w : World) (more : ℕ) (top : Opened) (c : Course) → file_read w more top c ≡ then (step w (is_deepest more) top c) (follow (deeper_of w more) (file_read w more))
unfolding file_read
file_read_step w zero top c = lines_step w true (λ file c1. Ok c1) (file_read w zero) top c (λ t d. refl)
file_read_step w (suc more) top c = lines_step w false (file_read w more) (file_read w (suc more)) top c (λ t d. refl)

-- ---- a stack of open files

-- what the files of a stack, the innermost first, still give
abbrev pub left_of : World → List Opened → Course → Result Course Refused
left_of w [] c = Ok c
left_of w (top ∷ below) c = then (file_read w (16 - length below) top c) (left_of w below)

then_then : (x : Result Course Refused) (f g : Course → Result Course Refused) → then (then x f) g ≡ then x (λ c. then (f c) g)
then_then (Ok c) f g = refl
then_then (Err r) f g = refl

deepest_is : (n : ℕ) → nat_lt 16 (n + 1) ≡ is_deepest (16 - n)
deepest_is n = is (16 - n) refl
  where
    is : (m : ℕ) → 16 - n ≡ m → nat_lt 16 (n + 1) ≡ is_deepest (16 - n)
    is zero e = rw e (let h : 16 < n + 1 = omega arith in grind (arith, nat_tests))
    is (suc m) e = rw e (let h : n + 1 ≤ 16 = omega arith in grind (arith, nat_tests))

-- ---- no file is included where no further inclusion may be open

abbrev IsNoInclusion : Result Step Refused → Type 0
IsNoInclusion (Ok (ended c)) = Unit {0}
IsNoInclusion (Ok (goes_on top c)) = Unit {0}
IsNoInclusion (Ok (includes file top c)) = ⊥
IsNoInclusion (Err r) = Unit {0}

reading_includes_none : (names : List (List ℕ)) (x : Result Reading Fault) → IsNoInclusion (then (under names x) (λ r. Ok (on_reading names r)))
reading_includes_none names (Ok r) = tt
reading_includes_none names (Err f) = tt

known_includes_none : (top : Opened) (names : List (List ℕ)) (x : Result Known Fault) → IsNoInclusion (then (under names x) (λ k. Ok (on_known top names k)))
known_includes_none top names (Ok k) = tt
known_includes_none top names (Err f) = tt

asked_includes_none : (place : Place) (o : Option ℕ) (k : Known) (names : List (List ℕ)) (go : Asked → Result Entered Refused) (next : Entered → Result Step Refused)
    → IsNoInclusion (then (then (under names (include_numbered true place o k)) go) next)
asked_includes_none place None k names go next = tt
asked_includes_none place (Some n) k names go next = tt

directive_includes_none : (w : World) (place : Place) (behind : List Lexeme) (l : Line) (top : Opened) (c : Course) → IsNoInclusion (directive w true place behind l top c)
directive_includes_none w place behind l top c = either (is_conditional l.directive) _ _ IsNoInclusion (λ e. reading_includes_none c.names _)
    (λ e. either (is_skipped top.sections) _ _ IsNoInclusion (λ i. tt)
    (λ i. either (is_include l.directive) _ _ IsNoInclusion (λ j. asked_includes_none place (only_header l.line) c.known c.names _ _) (λ j. known_includes_none top c.names _)))

ended_includes_none : (o : Option Place) (c : Course) → IsNoInclusion (file_ended o c)
ended_includes_none None c = tt
ended_includes_none (Some place) c = tt

step_at_includes_none : (w : World) (o : Option Place) (top : Opened) (c : Course) → IsNoInclusion (step_at w true o top c)
step_at_includes_none w None top c = reading_includes_none c.names _
step_at_includes_none w (Some place) top c =
    directive_includes_none w place (cut_directive top.unread).front (line_of c.known.texts (cut_directive top.unread).front) (record top { unread = (cut_directive top.unread).rest }) c

step_includes_none : (w : World) (o : Option Lexeme) (top : Opened) (c : Course) → IsNoInclusion (step_by w true o top c)
step_includes_none w None top c = ended_includes_none (first_open top.sections) c
step_includes_none w (Some x) top c = step_at_includes_none w (directive_at c.known.texts (Some x)) top c

-- ---- a step of the innermost file of a stack

read_by : (w : World) (deepest : Bool) (top : Opened) (below : List Opened) (c : Course) (x : Result Step Refused) → deepest ≡ nat_lt 16 (length below + 1) → step w deepest top c ≡ x
    → file_read w (16 - length below) top c ≡ then x (follow (deeper_of w (16 - length below)) (file_read w (16 - length below)))
read_by w deepest top below c x e h =
    file_read_step w (16 - length below) top c ∙ ap (λ v. then v (follow (deeper_of w (16 - length below)) (file_read w (16 - length below)))) (ap (λ b. step w b top c) (sym (e ∙ deepest_is (length below))) ∙ h)

pub left_refused : (w : World) (deepest : Bool) (top : Opened) (below : List Opened) (c : Course) (r : Refused) → deepest ≡ nat_lt 16 (length below + 1) → step w deepest top c ≡ Err r → left_of w (top ∷ below) c ≡ Err r
left_refused w deepest top below c r e h = ap (λ v. then v (left_of w below)) (read_by w deepest top below c (Err r) e h)

pub left_ended : (w : World) (deepest : Bool) (top : Opened) (below : List Opened) (c after : Course) → deepest ≡ nat_lt 16 (length below + 1) → step w deepest top c ≡ Ok (ended after) → left_of w (top ∷ below) c ≡ left_of w below after
left_ended w deepest top below c after e h = ap (λ v. then v (left_of w below)) (read_by w deepest top below c (Ok (ended after)) e h)

pub left_goes_on : (w : World) (deepest : Bool) (top next : Opened) (below : List Opened) (c after : Course) → deepest ≡ nat_lt 16 (length below + 1) → step w deepest top c ≡ Ok (goes_on next after) → left_of w (top ∷ below) c ≡ left_of w (next ∷ below) after
left_goes_on w deepest top next below c after e h = ap (λ v. then v (left_of w below)) (read_by w deepest top below c (Ok (goes_on next after)) e h)

left_deeper : (w : World) (file next : Opened) (below : List Opened) (c : Course) (m : ℕ) → 16 - length below ≡ suc m
    → then (then (file_read w m file c) (file_read w (suc m) next)) (left_of w below) ≡ left_of w (file ∷ next ∷ below) c
left_deeper w file next below c m e =
    let one : 16 - length (next ∷ below) ≡ m = omega arith in
    then_then (file_read w m file c) (file_read w (suc m) next) (left_of w below)
    ∙ (ap (λ v. then (file_read w m file c) (λ d. then (file_read w v next d) (left_of w below))) (sym e)
    ∙ ap (λ v. then (file_read w v file c) (λ d. then (file_read w (16 - length below) next d) (left_of w below))) (sym one))

pub left_includes : (w : World) (deepest : Bool) (top file next : Opened) (below : List Opened) (c after : Course) → deepest ≡ nat_lt 16 (length below + 1) → step w deepest top c ≡ Ok (includes file next after)
    → left_of w (top ∷ below) c ≡ left_of w (file ∷ next ∷ below) after
left_includes w deepest top file next below c after e h = is (16 - length below) refl
  where
    deepest_here : deepest ≡ is_deepest (16 - length below)
    deepest_here = e ∙ deepest_is (length below)

    read : left_of w (top ∷ below) c ≡ then (then (deeper_of w (16 - length below) file after) (file_read w (16 - length below) next)) (left_of w below)
    read = ap (λ v. then v (left_of w below)) (read_by w deepest top below c (Ok (includes file next after)) e h)

    is : (m : ℕ) → 16 - length below ≡ m → left_of w (top ∷ below) c ≡ left_of w (file ∷ next ∷ below) after
    is zero i =
        let here : step w true top c ≡ Ok (includes file next after) = ap (λ b. step w b top c) (sym (deepest_here ∙ ap is_deepest i)) ∙ h in
        absurd (subst IsNoInclusion here (step_includes_none w (first_of top.unread) top c))
    is (suc m) i = read ∙ (ap (λ v. then (then (deeper_of w v file after) (file_read w v next)) (left_of w below)) i ∙ left_deeper w file next below after m i)

-- ---- a whole stack

-- a step of the code
pub left_step : (w : World) (deepest : Bool) (top next : Opened) (below : List Opened) (c after : Course) (s : StepOf) → deepest ≡ nat_lt 16 (length below + 1) → step w deepest top c ≡ Ok (step_as next after s)
    → left_of w (top ∷ below) c ≡ left_of w (stacked next s below) after
left_step w deepest top next below c after Ended e h = left_ended w deepest top below c after e h
left_step w deepest top next below c after GoesOn e h = left_goes_on w deepest top next below c after e h
left_step w deepest top next below c after (Includes file) e h = left_includes w deepest top (opened_of file) next below c after e h

-- a refusal of a step is one of the whole
pub stack_refused : {A B : Type 0} (w : World) (deepest : Bool) (top : Opened) (below : List Opened) (c : Course) (wanted : Result Course Refused) (part_view : A → Step) (view : B → Course) (names : List (List ℕ)) (s : Stop)
    → deepest ≡ nat_lt 16 (length below + 1) → left_of w (top ∷ below) c ≡ wanted → UnitGives (step w deepest top c) part_view names (Err s) → UnitGives wanted view names (Err s)
stack_refused w deepest top below c wanted part_view view names (stop.Refused f) e h g = sym h ∙ left_refused w deepest top below c (refused f names) e g
stack_refused w deepest top below c wanted part_view view names stop.NotHeld e h g = g
stack_refused w deepest top below c wanted part_view view names stop.ReadFault e h g = tt
stack_refused w deepest top below c wanted part_view view names stop.Memory e h g = tt

-- ---- where the files are told

found_as_told : (t : Option Files) (held : Files) (dirs : List (List ℕ)) (model : Model) (deepest : Bool) (top : Opened) (c : Course) (find : List (List ℕ) → Option Found → Sought) (P : Result Step Refused → Type 0)
    → t ≡ Some held → IsFind t find → P (step (world_of find dirs model) deepest top c) → P (step (world_of (sought held) dirs model) deepest top c)
found_as_told t held dirs model deepest top c find P e f h =
    let same : find ≡ sought held = subst (λ v. IsFind v find) e f in
    subst (λ v. P (step (world_of v dirs model) deepest top c)) same h

pub stack_told : (t : Option Files) (held : Files) (dirs : List (List ℕ)) (model : Model) (deepest : Bool) (top next : Opened) (below stack now : List Opened) (c after : Course) (s : StepOf) (wanted : Result Course Refused) (find : List (List ℕ) → Option Found → Sought)
    → t ≡ Some held → IsFind t find → step (world_of find dirs model) deepest top c ≡ Ok (step_as next after s) → deepest ≡ nat_lt 16 (length below + 1) → stack ≡ top ∷ below → now ≡ stacked next s below
    → left_of (world_of (sought held) dirs model) stack c ≡ wanted → left_of (world_of (sought held) dirs model) now after ≡ wanted
stack_told t held dirs model deepest top next below stack now c after s wanted find e f h d i j w =
    let here : step (world_of (sought held) dirs model) deepest top c ≡ Ok (step_as next after s) = found_as_told t held dirs model deepest top c find (λ v. v ≡ Ok (step_as next after s)) e f h in
    ap (λ v. left_of (world_of (sought held) dirs model) v after) j
    ∙ (sym (left_step (world_of (sought held) dirs model) deepest top next below c after s d here) ∙ (ap (λ v. left_of (world_of (sought held) dirs model) v c) (sym i) ∙ w))

pub stack_told_refused : {A B : Type 0} (t : Option Files) (held : Files) (dirs : List (List ℕ)) (model : Model) (deepest : Bool) (top : Opened) (below stack : List Opened) (c : Course) (wanted : Result Course Refused) (part_view : A → Step) (view : B → Course) (names : List (List ℕ)) (s : Stop)
    (find : List (List ℕ) → Option Found → Sought) → t ≡ Some held → IsFind t find → UnitGives (step (world_of find dirs model) deepest top c) part_view names (Err s) → deepest ≡ nat_lt 16 (length below + 1) → stack ≡ top ∷ below
    → left_of (world_of (sought held) dirs model) stack c ≡ wanted → UnitGives wanted view names (Err s)
stack_told_refused t held dirs model deepest top below stack c wanted part_view view names s find e f h d i w =
    stack_refused (world_of (sought held) dirs model) deepest top below c wanted part_view view names s d (ap (λ v. left_of (world_of (sought held) dirs model) v c) (sym i) ∙ w)
    (found_as_told t held dirs model deepest top c find (λ v. UnitGives v part_view names (Err s)) e f h)
