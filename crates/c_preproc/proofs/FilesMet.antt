-- The reading of files stands in the files that were met.
use Rattle.std.proofs.Common.{◌≡◌, ◌≤◌, ◌<◌, ◌+◌, ◌||◌, ◌&&◌, ◌==◌, get_or, ℕ, zero, suc, Bool, true, false, not, cond, nat_eq, nat_lt, List, [], ◌∷◌, ◌++◌, length, Option, Some, None, Result, Ok, Err, refl, sym, ◌∙◌, ap, subst, arith, length-append}
use Rattle.std.specs.List.{list_all, list_any, position_or_len, All}
use Rattle.std.specs.Cmp.Lexicographic.{pointwise}
use Rattle.std.proofs.lemmas.Bool.Decides.{nat_tests}
use Rattle.std.proofs.lemmas.List.Elements.{All-nil, All-cons, All-tail}
use Rattle.cc_base.specs.declared.diagnostics.Place.{Place}
use Rattle.cc_base.specs.declared.lexemes.Kind.{Kind}
use Rattle.cc_base.specs.declared.lexemes.Kind.TheVariants as kind
use Rattle.cc_base.specs.declared.lexemes.Token.{Token}
use Rattle.cc_base.specs.declared.refusals.Fault.{Fault}
use Rattle.cc_base.specs.declared.refusals.Stop.{Stop}
use Rattle.cc_base.specs.declared.refusals.Stop.TheVariants as stop
use Rattle.c_lexer.specs.declared.pieces.Shape.{Shape}
use Rattle.c_lexer.specs.declared.pieces.Shape.TheVariants as shape
use Rattle.c_lexer.specs.declared.pieces.State.{State}
use Rattle.c_lexer.specs.Splicing.{Cell, bytes_of, place_of}
use Rattle.c_lexer.specs.Cutting.{after, start, token_list, Bit, tokens_of, Lexes, Stuck, Refuses}
use Rattle.c_lexer.specs.Cutting.Stuck.{nothing, many, bad}
use Rattle.c_lexer.specs.FileTokens.{file_tokens, IsFileAnswer}
use Rattle.c_lexer.proofs.Total.{answer_is}
use Rattle.c_preproc_macros.specs.declared.lexeme.Mark.{Mark}
use Rattle.c_preproc_macros.specs.declared.lexeme.Lexeme.{Lexeme}
use Rattle.c_preproc_macros.specs.declared.lexeme.Lexeme.TheVariants.{Name, Painted, Open, Close, Comma, Other}
use Rattle.c_preproc_macros.specs.Lexemes.{mark_of}
use Rattle.c_preproc_macros.specs.Numbering.{number_in, with_text, mark_in, bracket, bracket_of, numbered, read_as, read_token}
use Rattle.c_preproc_macros.specs.Places.{StandsBy}
use Rattle.c_preproc_directives.specs.declared.conditional_groups.Section.{Section}
use Rattle.c_preproc_directives.specs.Directives.{is_conditional, is_include}
use Rattle.c_preproc_directives.specs.Groups.{is_skipped}
use Rattle.c_preproc_directives.specs.OpenFiles.{Opened, first_of, cut_directive, read_tokens, opened_file}
use Rattle.c_preproc.specs.Searching.{Found, built_in, searched_names}
use Rattle.c_preproc_conditions.specs.DefinedNames.{Named as NamedLine}
use Rattle.c_preproc.specs.Known.{Known, Reading, Line, Asked, name_before, first_name, line_named, is_once, include_asks, conditional, plain, line_of, directive_at, text_lines, first_open}
use Rattle.c_preproc.specs.Units.{World, Course, course, Refused, then, under, Sought, Opening, opened_by, Entered, entered, long_refused, included, includer_in, sought_from, include, Step, on_reading, on_known, step_into, directive, file_ended, step_at, step_by, step}
use Rattle.c_preproc.specs.Units.Sought.{found, too_long, nothing}
use Rattle.c_preproc.specs.Units.Step.{ended, goes_on, includes}
use Rattle.c_preproc.specs.declared.preprocessing.Step.{Step as StepOf}
use Rattle.c_preproc.specs.declared.preprocessing.Step.TheVariants.{Ended, GoesOn, Includes}
use Rattle.c_preproc.specs.Told.{UnitGives, step_as, stacked}
use Rattle.c_preproc.specs.Placed.{is_in, all_in, Stand, SectionsIn, OpenIn, AllOpenIn, KnownIn, StopIn}
use Rattle.c_preproc.proofs.InFiles.{KnownResult, ReadingResult, conditional_in, plain_in, directive_cut_in, text_lines_in, AskedResult, include_asks_in, first_open_in, placed_directive_in}

either : {A : Type 0} (t : Bool) (x y : A) (P : A → Type 0) → (t ≡ true → P x) → (t ≡ false → P y) → P (cond t x y)
either true x y P h k = h refl
either false x y P h k = k refl

-- ---- more files

in_more : (m n : ℕ) (at : Place) → m ≤ n → is_in m at ≡ true → is_in n at ≡ true
in_more m n at h k = grind (arith, nat_tests)

both : (p q : Bool) → (p && q) ≡ true → (p ≡ true) × (q ≡ true)
both true q h = (refl, h)
both false q h = absurd (cc)

known_more : (m n : ℕ) (ts : List Token) → m ≤ n → all_in m ts ≡ true → all_in n ts ≡ true
known_more m n [] h k = refl
known_more m n (t ∷ ts) h k = let w = both (is_in m t.place) (all_in m ts) k in rw (in_more m n t.place h w.0) (known_more m n ts h w.1)

stand_more : (m n : ℕ) (xs : List Lexeme) → m ≤ n → Stand m xs → Stand n xs
stand_more m n xs h s = λ k d l. in_more m n (mark_of (get_or xs k d)).place h (s k d l)

sections_more : (m n : ℕ) (sections : List Section) → m ≤ n → SectionsIn m sections → SectionsIn n sections
sections_more m n [] h s = tt
sections_more m n (x ∷ xs) h s = (in_more m n x.place h s.0, sections_more m n xs h s.1)

pub open_more : (m n : ℕ) (f : Opened) → m ≤ n → OpenIn m f → OpenIn n f
open_more m n f h o = record { unread = stand_more m n f.unread h o.unread; sections = sections_more m n f.sections h o.sections }

pub all_open_more : (m n : ℕ) (fs : List Opened) → m ≤ n → AllOpenIn m fs → AllOpenIn n fs
all_open_more m n [] h o = tt
all_open_more m n (f ∷ fs) h o = (open_more m n f h o.0, all_open_more m n fs h o.1)

-- ---- the tokens of a file

below_in : (n file : ℕ) → file < n → (s : List Cell) → is_in n (place_of file s) ≡ true
below_in n file h [] = grind (arith, nat_tests)
below_in n file h (x ∷ s) = grind (arith, nat_tests)

piece_in : (n file : ℕ) (st : State) (q : Shape) (t : List ℕ) (cells : List Cell) (more : List Token) → file < n → all_in n more ≡ true → all_in n (token_list st q t (place_of file cells) ++ more) ≡ true
piece_in n file st (shape.Token k) t cells more h e = rw (below_in n file h cells) e
piece_in n file st shape.Blank t cells more h e = e
piece_in n file st shape.LineEnd t cells more h e = e
piece_in n file st shape.Comment t cells more h e = e

pieces_in : (n file : ℕ) (st : State) (ps : List Bit) → file < n → all_in n (tokens_of file st ps) ≡ true
pieces_in n file st [] h = refl
pieces_in n file st (p ∷ ps) h =
    piece_in n file st p.shape (bytes_of p.cells) p.cells (tokens_of file (after st p.shape (bytes_of p.cells)) ps) h (pieces_in n file (after st p.shape (bytes_of p.cells)) ps h)

lexes_in : (n file : ℕ) (bytes : List ℕ) (ts : List Token) → file < n → Lexes file bytes ts → all_in n ts ≡ true
lexes_in n file bytes ts h l = subst (λ v. all_in n v ≡ true) (sym l.reaches.tokens) (pieces_in n file start l.reaches.pieces h)

stuck_in : (n file count : ℕ) (st : State) (rest : List Cell) (f : Fault) → file < n → Stuck file st.context count rest f → is_in n f.place ≡ true
stuck_in n file count st rest f h (nothing i g e) = subst (λ v. is_in n v.place ≡ true) (sym e) (below_in n file h rest)
stuck_in n file count st rest f h (many p t g past e) = subst (λ v. is_in n v.place ≡ true) (sym e) (below_in n file h rest)
stuck_in n file count st rest f h (bad p t g past less e) = subst (λ v. is_in n v.place ≡ true) (sym e) (below_in n file h _)

refuses_in : (n file : ℕ) (bytes : List ℕ) (f : Fault) → file < n → Refuses file bytes f → is_in n f.place ≡ true
refuses_in n file bytes f h r = stuck_in n file _ r.state r.rest f h r.stuck

-- ---- a file that is opened

numbered_mark : (k : Kind) (number : ℕ) (m : Mark) → mark_of (numbered k number m) ≡ m
numbered_mark kind.Name number m = refl
numbered_mark kind.Number number m = refl
numbered_mark kind.Char number m = refl
numbered_mark kind.Str number m = refl
numbered_mark kind.Punct number m = refl
numbered_mark kind.HeaderName number m = refl

abbrev MarkedBy : Mark → Option Lexeme → Type 0
MarkedBy m None = Unit {0}
MarkedBy m (Some x) = mark_of x ≡ m

bracket_mark : (text : List ℕ) (m : Mark) → MarkedBy m (bracket text m)
bracket_mark [] m = tt
bracket_mark (b ∷ []) m = either (b == 40) (Some (Open m)) _ (MarkedBy m) (λ e. refl) (λ e. either (b == 41) (Some (Close m)) _ (MarkedBy m) (λ i. refl) (λ i. either (b == 44) (Some (Comma m)) None (MarkedBy m) (λ j. refl) (λ j. tt)))
bracket_mark (b ∷ c ∷ s) m = tt

bracket_of_mark : (k : Kind) (text : List ℕ) (m : Mark) → MarkedBy m (bracket_of k text m)
bracket_of_mark kind.Punct text m = bracket_mark text m
bracket_of_mark k text m = tt

read_mark : (texts : List (List ℕ)) (k : Kind) (text : List ℕ) (m : Mark) (o : Option Lexeme) → MarkedBy m o → mark_of (read_as texts k text m o).1 ≡ m
read_mark texts k text m None h = numbered_mark k (number_in texts text) m
read_mark texts k text m (Some x) h = h

token_mark : (texts : List (List ℕ)) (t : Token) → mark_of (read_token texts t).1 ≡ mark_in t
token_mark texts t = read_mark texts t.kind t.text (mark_in t) (bracket_of t.kind t.text (mark_in t)) (bracket_of_mark t.kind t.text (mark_in t))

read_in : (n : ℕ) (texts : List (List ℕ)) (ts : List Token) → all_in n ts ≡ true → Stand n (read_tokens texts ts).1
read_in n texts [] h = All-nil (StandsBy (λ at. is_in n at ≡ true))
read_in n texts (t ∷ ts) h = let w = both (is_in n t.place) (all_in n ts) h in
    All-cons (StandsBy (λ at. is_in n at ≡ true)) (read_token texts t).1 (read_tokens (read_token texts t).0 ts).1 (subst (λ m. is_in n m.place ≡ true) (sym (token_mark texts t)) w.0) (read_in n (read_token texts t).0 ts w.1)

abbrev pub OpeningIn : ℕ → Result Opening Fault → Type 0
OpeningIn n (Ok o) = KnownIn n o.known × OpenIn n o.file
OpeningIn n (Err f) = is_in n f.place ≡ true

opened_by_in : (n file : ℕ) (bytes : List ℕ) (k : Known) (r : Result (List Token) Fault) → file < n → KnownIn n k → IsFileAnswer file bytes r → OpeningIn n (opened_by file k r)
opened_by_in n file bytes k (Ok ts) h i a = (i, record { unread = read_in n k.texts ts (lexes_in n file bytes ts h a); sections = tt })
opened_by_in n file bytes k (Err f) h i a = refuses_in n file bytes f h a

pub opened_in : (n file : ℕ) (bytes : List ℕ) (k : Known) → file < n → KnownIn n k → OpeningIn n (opened_by file k (file_tokens file bytes))
opened_in n file bytes k h i = opened_by_in n file bytes k (file_tokens file bytes) h i (answer_is file bytes)

-- ---- the list of names

within_more : (m n : ℕ) (b : Bool) → m ≤ n → cond (not b) (1 + m) 0 ≤ suc n
within_more m n true h = omega arith
within_more m n false h = omega arith

number_within : (name : List ℕ) (names : List (List ℕ)) → number_in names name ≤ length names
number_within name [] = omega arith
number_within name (n ∷ ns) = within_more (number_in ns name) (length ns) (pointwise nat_eq name n) (number_within name ns)

there_more : (name n : List ℕ) (ns : List (List ℕ)) (b : Bool) → (list_any (pointwise nat_eq name) ns ≡ true → number_in ns name < length ns) → (b || list_any (pointwise nat_eq name) ns) ≡ true → cond (not b) (1 + number_in ns name) 0 < suc (length ns)
there_more name n ns true go e = omega arith
there_more name n ns false go e = let w : number_in ns name < length ns = go e in omega arith

number_there : (name : List ℕ) (names : List (List ℕ)) → list_any (pointwise nat_eq name) names ≡ true → number_in names name < length names
number_there name [] e = absurd (cc)
number_there name (n ∷ ns) e = there_more name n ns (pointwise nat_eq name n) (number_there name ns) e

-- the number of a name is that of a name of the list that has it, which is no shorter
pub record Named (names now : List (List ℕ)) (number : ℕ) : Type 0 where
  pub longer : length names ≤ length now
  pub below : number < length now

pub named : (name : List ℕ) (names : List (List ℕ)) → Named names (with_text names name) (number_in names name)
named name names = is (list_any (pointwise nat_eq name) names) refl
  where
    is : (b : Bool) → list_any (pointwise nat_eq name) names ≡ b → Named names (with_text names name) (number_in names name)
    is true h = rw h (record { longer = omega arith; below = number_there name names h })
    is false h =
        let one : length (names ++ name ∷ []) ≡ length names + 1 = length-append names (name ∷ []) in
        let w = number_within name names in
        rw h (record { longer = omega arith; below = omega arith })

-- ---- inclusions

-- a course that goes on from so many names
pub record CourseIn (least : ℕ) (c : Course) : Type 0 where
  pub longer : least ≤ length c.names
  pub known : KnownIn (length c.names) c.known

abbrev pub RefusedIn : Refused → Type 0
RefusedIn r = is_in (length r.names) r.fault.place ≡ true

abbrev FileIn : ℕ → Option Opened → Type 0
FileIn n None = Unit {0}
FileIn n (Some f) = OpenIn n f

abbrev EnteredResult : ℕ → Result Entered Refused → Type 0
EnteredResult least (Ok e) = CourseIn least e.course × FileIn (length e.course.names) e.file
EnteredResult least (Err r) = RefusedIn r

entered_open_in : (least : ℕ) (now : List (List ℕ)) (x : Result Opening Fault) → least ≤ length now → OpeningIn (length now) x → EnteredResult least (then (under now x) (λ o. Ok (record { course = course o.known now; file = Some o.file })))
entered_open_in least now (Ok o) h i = (record { longer = h; known = i.0 }, i.1)
entered_open_in least now (Err f) h i = i

entered_in : (f : Found) (k : Known) (names : List (List ℕ)) → KnownIn (length names) k → EnteredResult (length names) (entered f k names)
entered_in f k names h =
    let now : List (List ℕ) = with_text names f.name in
    let w : Named names (with_text names f.name) (number_in names f.name) = named f.name names in
    let longer : length names ≤ length (with_text names f.name) = w.longer in
    let known : KnownIn (length (with_text names f.name)) k = known_more (length names) (length (with_text names f.name)) k.out longer h in
    either (is_once k.once (number_in names f.name)) _ _ (EnteredResult (length names)) (λ e. (record { longer = longer; known = known }, tt))
    (λ e. entered_open_in (length names) (with_text names f.name) (opened_by (number_in names f.name) k (file_tokens (number_in names f.name) f.bytes)) longer (opened_in (length (with_text names f.name)) (number_in names f.name) f.bytes k w.below known))

below_is : (n number : ℕ) → number < n → nat_lt number n ≡ true
below_is n number h = grind (arith, nat_tests)

included_in : (place : Place) (name : List ℕ) (s : Sought) (k : Known) (names : List (List ℕ)) → is_in (length names) place ≡ true → KnownIn (length names) k → EnteredResult (length names) (included place name s k names)
included_in place name (found f) k names p h = entered_in f k names h
included_in place name (too_long long) k names p h = below_is (length (with_text names long)) (number_in names long) (named long names).below
included_in place name nothing k names p h = p

asked_then_in : (w : World) (top : ℕ) (place : Place) (x : Result Asked Fault) (names : List (List ℕ)) → is_in (length names) place ≡ true → AskedResult (length names) x
    → EnteredResult (length names) (then (under names x) (λ a. included place a.header.name (sought_from w (includer_in names top a.header.quoted) a.header.name) a.known names))
asked_then_in w top place (Ok a) names p h = included_in place a.header.name _ a.known names p h
asked_then_in w top place (Err f) names p h = h

include_in : (w : World) (top : ℕ) (deepest : Bool) (place : Place) (line : List Lexeme) (k : Known) (names : List (List ℕ)) → is_in (length names) place ≡ true → KnownIn (length names) k → EnteredResult (length names) (include w top deepest place line k names)
include_in w top deepest place line k names p h = asked_then_in w top place (include_asks deepest place line k) names p (include_asks_in (length names) deepest place line k p h)

-- ---- a step

abbrev pub StepResult : ℕ → Result Step Refused → Type 0
StepResult least (Ok (ended c)) = CourseIn least c
StepResult least (Ok (goes_on top c)) = CourseIn least c × OpenIn (length c.names) top
StepResult least (Ok (includes file top c)) = CourseIn least c × (OpenIn (length c.names) file × OpenIn (length c.names) top)
StepResult least (Err r) = RefusedIn r

reading_step_in : (names : List (List ℕ)) (x : Result Reading Fault) → ReadingResult (length names) x → StepResult (length names) (then (under names x) (λ r. Ok (on_reading names r)))
reading_step_in names (Ok r) h = (record { longer = omega arith; known = h.0 }, h.1)
reading_step_in names (Err f) h = h

known_step_in : (top : Opened) (names : List (List ℕ)) (x : Result Known Fault) → OpenIn (length names) top → KnownResult (length names) x → StepResult (length names) (then (under names x) (λ k. Ok (on_known top names k)))
known_step_in top names (Ok k) t h = (record { longer = omega arith; known = h }, t)
known_step_in top names (Err f) t h = h

into_in : (least : ℕ) (o : Option Opened) (top : Opened) (c : Course) → CourseIn least c → FileIn (length c.names) o → OpenIn (length c.names) top → StepResult least (Ok (step_into o top c))
into_in least None top c h f t = (h, t)
into_in least (Some file) top c h f t = (h, (f, t))

include_step_in : (names : List (List ℕ)) (top : Opened) (x : Result Entered Refused) → OpenIn (length names) top → EnteredResult (length names) x → StepResult (length names) (then x (λ e. Ok (step_into e.file top e.course)))
include_step_in names top (Ok e) t h = into_in (length names) e.file top e.course h.0 h.1 (open_more (length names) (length e.course.names) top h.0.longer t)
include_step_in names top (Err r) t h = h

directive_in : (w : World) (deepest : Bool) (place : Place) (behind : List Lexeme) (l : Line) (top : Opened) (c : Course) → is_in (length c.names) place ≡ true → Stand (length c.names) l.line → OpenIn (length c.names) top → KnownIn (length c.names) c.known
    → StepResult (length c.names) (directive w deepest place behind l top c)
directive_in w deepest place behind l top c p s t k = either (is_conditional l.directive) _ _ (StepResult (length c.names))
    (λ e. reading_step_in c.names _ (conditional_in (length c.names) w.model.char_signed l.directive place l.line (record { known = c.known; top = top }) p s k t))
    (λ e. either (is_skipped top.sections) _ _ (StepResult (length c.names)) (λ i. (record { longer = omega arith; known = k }, t))
    (λ i. either (is_include l.directive) _ _ (StepResult (length c.names))
    (λ j. include_step_in c.names top _ t (include_in w top.file deepest place l.line c.known c.names p k))
    (λ j. known_step_in top c.names _ t (plain_in (length c.names) l.directive top.file place l.line behind c.known p k))))

ended_in : (o : Option Place) (top : Opened) (c : Course) → first_open top.sections ≡ o → OpenIn (length c.names) top → KnownIn (length c.names) c.known → StepResult (length c.names) (file_ended o c)
ended_in None top c e t k = record { longer = omega arith; known = k }
ended_in (Some place) top c e t k = first_open_in (length c.names) top.sections place t.sections e

abbrev RestIn : ℕ → Option NamedLine → Type 0
RestIn n None = Unit {0}
RestIn n (Some p) = Stand n p.rest

name_before_in : (n : ℕ) (x : Lexeme) (rest : List Lexeme) → Stand n rest → RestIn n (name_before x rest)
name_before_in n (Name t m) rest s = s
name_before_in n x rest s = tt

first_name_in : (n : ℕ) (line : List Lexeme) → Stand n line → RestIn n (first_name line)
first_name_in n [] s = tt
first_name_in n (x ∷ rest) s = name_before_in n x rest (All-tail (StandsBy (λ at. is_in n at ≡ true)) x rest s)

line_named_in : (n : ℕ) (texts : List (List ℕ)) (o : Option NamedLine) (behind : List Lexeme) → RestIn n o → Stand n behind → Stand n (line_named texts o behind).line
line_named_in n texts None behind r s = s
line_named_in n texts (Some p) behind r s = r

step_at_in : (w : World) (deepest : Bool) (o : Option Place) (top : Opened) (c : Course) → directive_at c.known.texts (first_of top.unread) ≡ o → OpenIn (length c.names) top → KnownIn (length c.names) c.known
    → StepResult (length c.names) (step_at w deepest o top c)
step_at_in w deepest None top c e t k = reading_step_in c.names _ (text_lines_in (length c.names) (record { known = c.known; top = top }) k t)
step_at_in w deepest (Some place) top c e t k =
    let cut : Stand (length c.names) (cut_directive top.unread).front × Stand (length c.names) (cut_directive top.unread).rest = directive_cut_in (length c.names) top.unread t.unread in
    directive_in w deepest place (cut_directive top.unread).front (line_of c.known.texts (cut_directive top.unread).front) (record top { unread = (cut_directive top.unread).rest }) c
    (placed_directive_in (length c.names) c.known.texts top.unread place t.unread e)
    (line_named_in (length c.names) c.known.texts (first_name (cut_directive top.unread).front) (cut_directive top.unread).front (first_name_in (length c.names) (cut_directive top.unread).front cut.0) cut.0)
    (record { unread = cut.1; sections = t.sections }) k

step_by_in : (w : World) (deepest : Bool) (o : Option Lexeme) (top : Opened) (c : Course) → first_of top.unread ≡ o → OpenIn (length c.names) top → KnownIn (length c.names) c.known → StepResult (length c.names) (step_by w deepest o top c)
step_by_in w deepest None top c e t k = ended_in (first_open top.sections) top c refl t k
step_by_in w deepest (Some x) top c e t k = step_at_in w deepest (directive_at c.known.texts (Some x)) top c (ap (directive_at c.known.texts) e) t k

pub step_in : (w : World) (deepest : Bool) (top : Opened) (c : Course) → OpenIn (length c.names) top → KnownIn (length c.names) c.known → StepResult (length c.names) (step w deepest top c)
step_in w deepest top c t k = step_by_in w deepest (first_of top.unread) top c refl t k

-- ---- a stack of open files

-- all open files stand in the files that were met, of which there are no fewer than so many
pub record StackIn (least : ℕ) (stack : List Opened) (c : Course) : Type 0 where
  pub course : CourseIn least c
  pub files : AllOpenIn (length c.names) stack

stack_left : (least : ℕ) (top : Opened) (below : List Opened) (c : Course) (next : Opened) (after : Course) (s : StepOf) → StackIn least (top ∷ below) c → StepResult (length c.names) (Ok (step_as next after s)) → StackIn least (stacked next s below) after
stack_left least top below c next after Ended h r = record {
  course = record { longer = let p = h.course.longer in let q = r.longer in omega arith; known = r.known };
  files = all_open_more (length c.names) (length after.names) below r.longer h.files.1;
}
stack_left least top below c next after GoesOn h r = record {
  course = record { longer = let p = h.course.longer in let q = r.0.longer in omega arith; known = r.0.known };
  files = (r.1, all_open_more (length c.names) (length after.names) below r.0.longer h.files.1);
}
stack_left least top below c next after (Includes file) h r = record {
  course = record { longer = let p = h.course.longer in let q = r.0.longer in omega arith; known = r.0.known };
  files = (r.1.0, (r.1.1, all_open_more (length c.names) (length after.names) below r.0.longer h.files.1));
}

pub stack_step : (w : World) (deepest : Bool) (least : ℕ) (top : Opened) (below : List Opened) (c : Course) (next : Opened) (after : Course) (s : StepOf) → StackIn least (top ∷ below) c → step w deepest top c ≡ Ok (step_as next after s) → StackIn least (stacked next s below) after
stack_step w deepest least top below c next after s h e = stack_left least top below c next after s h (subst (StepResult (length c.names)) e (step_in w deepest top c h.files.0 h.course.known))

pub stack_stopped : {A : Type 0} (w : World) (deepest : Bool) (least : ℕ) (top : Opened) (below : List Opened) (c : Course) (view : A → Step) (names : List (List ℕ)) (s : Stop) → StackIn least (top ∷ below) c → UnitGives (step w deepest top c) view names (Err s) → StopIn (length names) s
stack_stopped w deepest least top below c view names (stop.Refused f) h g = subst (StepResult (length c.names)) g (step_in w deepest top c h.files.0 h.course.known)
stack_stopped w deepest least top below c view names stop.NotHeld h g = tt
stack_stopped w deepest least top below c view names stop.ReadFault h g = tt
stack_stopped w deepest least top below c view names stop.Memory h g = tt

-- a stack behind a step of the code, and a refusal of one
pub stack_goes : (w : World) (deepest : Bool) (least : ℕ) (top : Opened) (below stack now : List Opened) (c : Course) (next : Opened) (after : Course) (s : StepOf) → StackIn least stack c → stack ≡ top ∷ below → now ≡ stacked next s below
    → step w deepest top c ≡ Ok (step_as next after s) → StackIn least now after
stack_goes w deepest least top below stack now c next after s h i j e =
    subst (λ v. StackIn least v after) (sym j) (stack_step w deepest least top below c next after s (subst (λ v. StackIn least v c) i h) e)

pub stack_ends : {A : Type 0} (w : World) (deepest : Bool) (least : ℕ) (top : Opened) (below stack : List Opened) (c : Course) (view : A → Step) (names : List (List ℕ)) (s : Stop) → StackIn least stack c → stack ≡ top ∷ below
    → UnitGives (step w deepest top c) view names (Err s) → StopIn (length names) s
stack_ends w deepest least top below stack c view names s h i g = stack_stopped w deepest least top below c view names s (subst (λ v. StackIn least v c) i h) g
