-- What the directives and text lines of a file make stands in the files that were met.
use Rattle.std.specs.Prelude.{codes}
use Rattle.std.proofs.Common.{◌≡◌, ◌≤◌, ◌<◌, ◌+◌, ℕ, zero, suc, Bool, true, false, ◌&&◌, cond, not, nat_eq, nat_le, nat_lt, List, [], ◌∷◌, ◌++◌, length, map, slice_get, Option, Some, None, option_map, Result, Ok, Err, refl, sym, ◌∙◌, ap, subst, arith}
use Rattle.std.specs.List.{list_all, list_any, position_or_len, All}
use Rattle.std.specs.Cmp.Lexicographic.{pointwise}
use Rattle.std.proofs.lemmas.Bool.Decides.{nat_tests}
use Rattle.std.proofs.lemmas.List.Elements.{All-nil, All-cons, All-head, All-tail}
use Rattle.cc_base.specs.declared.diagnostics.Place.{Place}
use Rattle.cc_base.specs.declared.lexemes.Kind.{Kind}
use Rattle.cc_base.specs.declared.lexemes.Kind.TheVariants as kind
use Rattle.cc_base.specs.declared.lexemes.Token.{Token}
use Rattle.cc_base.specs.declared.refusals.Fault.{Fault}
use Rattle.c_preproc_macros.specs.declared.lexeme.Mark.{Mark}
use Rattle.c_preproc_macros.specs.declared.lexeme.Lexeme.{Lexeme}
use Rattle.c_preproc_macros.specs.declared.lexeme.Lexeme.TheVariants.{Name, Painted, Open, Close, Comma, Other}
use Rattle.c_preproc_macros.specs.declared.trouble.Trouble.{Trouble}
use Rattle.c_preproc_macros.specs.declared.trouble.Trouble.TheVariants as trouble
use Rattle.c_preproc_macros.specs.Lexemes.{mark_of}
use Rattle.c_preproc_macros.specs.Numbering.{token_in, text_at}
use Rattle.c_preproc_macros.specs.Places.{StandsBy}
use Rattle.c_preproc_macros.specs.Rules.{Defined, defined_in}
use Rattle.c_preproc_macros.specs.States.{setting_in}
use Rattle.c_preproc_macros.specs.Expanding.{Outcome, expansion}
use Rattle.c_preproc_macros.specs.Expanding.Outcome.{done, refused}
use Rattle.c_preproc_macros.proofs.Places.{PlacedIf, expansion-placed}
use Rattle.c_preproc_conditions.specs.declared.condition_symbols.Symbol.{Symbol}
use Rattle.c_preproc_conditions.specs.declared.condition_value.Number.{Number}
use Rattle.c_preproc_conditions.specs.declared.condition_value.Value.{Value}
use Rattle.c_preproc_conditions.specs.declared.defined_names.Digits.{Digits}
use Rattle.c_preproc_conditions.specs.declared.evaluation.ConditionFault.{ConditionFault}
use Rattle.c_preproc_conditions.specs.declared.evaluation.ConditionFault.TheVariants.{NumberForm, Malformed, Memory}
use Rattle.c_preproc_conditions.specs.ConditionValues.{is_zero}
use Rattle.c_preproc_conditions.specs.NumberForms.{integer_constant, character_constant}
use Rattle.c_preproc_conditions.specs.DefinedNames.{Named, closed_by, parenthesized, in_parentheses, named_by, named, digit, is_defined_word, is_defined, put_before, put_digit, replaced_by, replaced}
use Rattle.c_preproc_conditions.specs.Lines.{constant, other_symbol, symbol_in, before, symbols_in}
use Rattle.c_preproc_conditions.specs.Truth.{decided_if, truth, line_truth}
use Rattle.c_preproc_directives.specs.declared.conditional_groups.GroupState.{GroupState}
use Rattle.c_preproc_directives.specs.declared.conditional_groups.GroupState.TheVariants.{Outside}
use Rattle.c_preproc_directives.specs.declared.conditional_groups.Section.{Section}
use Rattle.c_preproc_directives.specs.declared.conditional_groups.Uneven.{Uneven}
use Rattle.c_preproc_directives.specs.declared.conditional_groups.Uneven.TheVariants.{Misplaced, Trailing}
use Rattle.c_preproc_directives.specs.declared.directive_names.Directive.{Directive}
use Rattle.c_preproc_directives.specs.declared.directive_names.Directive.TheVariants.{If, Ifdef, Ifndef, Elif, Else, Endif, Define, Undef, Error, Pragma}
use Rattle.c_preproc_directives.specs.Directives.{Header, header_name}
use Rattle.c_preproc_directives.specs.Definitions.{is_barred, is_spelled, may_be_defined, definition, same_definition}
use Rattle.c_preproc_directives.specs.Groups.{first_state, is_skipped, is_waiting, state_before_elif, state_behind, with_state, else_fault, turned_else, end_fault, left}
use Rattle.c_preproc_directives.specs.OpenFiles.{Opened, begins_directive, first_of, Cut, cut, with_front, cut_text, cut_line, cut_directive}
use Rattle.c_preproc.specs.Known.{Known, Reading, Decided, Asked, trouble_fault, unclosed_fault, appended, expanded, text_read, condition_fault, truth_at, condition_expanded, condition_named, condition, only_name, entered_in, first_group, begun_if, ifdef_named, begun_ifdef, next_group, elif_behind, turned_elif, uneven_fault, if_even, else_turned, if_ended, with_top, conditional, define_beside, define_as, define_named, define, first_name, undefine_named, undefine, is_once, pragma_named, pragma, is_nil, plain, directive_at, with_known, text_taken, text_lines, asked, only_header, include_numbered, include_asks, first_open}
use Rattle.c_preproc.specs.Placed.{is_in, all_in, Stand, SectionsIn, OpenIn, KnownIn}

either : {A : Type 0} (t : Bool) (x y : A) (P : A → Type 0) → (t ≡ true → P x) → (t ≡ false → P y) → P (cond t x y)
either true x y P h k = h refl
either false x y P h k = k refl

-- ---- text lines

abbrev pub KnownResult : ℕ → Result Known Fault → Type 0
KnownResult n (Ok k) = KnownIn n k
KnownResult n (Err f) = is_in n f.place ≡ true

abbrev IfIn : ℕ → Option Place → Type 0
IfIn n None = Unit {0}
IfIn n (Some at) = is_in n at ≡ true

all_more : (n : ℕ) (ts : List Token) (t : Token) → all_in n ts ≡ true → is_in n t.place ≡ true → all_in n (ts ++ t ∷ []) ≡ true
all_more n [] t h k = rw k refl
all_more n (x ∷ ts) t h k = let w = both (is_in n x.place) (all_in n ts) h in rw w.0 (all_more n ts t w.1 k)
  where
    both : (p q : Bool) → (p && q) ≡ true → (p ≡ true) × (q ≡ true)
    both true q h = (refl, h)
    both false q h = absurd (cc)

appended_in : (n : ℕ) (xs : List Lexeme) (k : Known) → Stand n xs → KnownIn n k → KnownResult n (appended xs k)
appended_in n [] k s h = h
appended_in n (x ∷ xs) k s h =
    let here : is_in n (mark_of x).place ≡ true = All-head (StandsBy (λ at. is_in n at ≡ true)) x xs s in
    let behind : Stand n xs = All-tail (StandsBy (λ at. is_in n at ≡ true)) x xs s in
    either (nat_le 131072 (length k.out)) _ _ (KnownResult n) (λ e. here)
    (λ e. appended_in n xs (record k { out = k.out ++ token_in k.texts x ∷ [] }) behind (all_more n k.out (token_in k.texts x) h here))

unclosed_in : (n : ℕ) (directive : Option Place) (at : Place) → IfIn n directive → is_in n at ≡ true → is_in n (unclosed_fault directive at).place ≡ true
unclosed_in n None at d h = h
unclosed_in n (Some place) at d h = d

trouble_in : (n : ℕ) (why : Trouble) (at : Place) (directive : Option Place) → IfIn n directive → is_in n at ≡ true → is_in n (trouble_fault why at (unclosed_fault directive at)).place ≡ true
trouble_in n trouble.Spill at directive d h = h
trouble_in n trouble.Arguments at directive d h = h
trouble_in n trouble.Unclosed at directive d h = unclosed_in n directive at d h
trouble_in n (trouble.TooMany count) at directive d h = h

expanded_in : (n : ℕ) (directive : Option Place) (o : Outcome (List Lexeme)) (k : Known) → IfIn n directive → PlacedIf (λ at. is_in n at ≡ true) o → KnownIn n k → KnownResult n (expanded directive o k)
expanded_in n directive (done words used) k d p h = appended_in n words (record k { used = used }) p h
expanded_in n directive (refused why at) k d p h = trouble_in n why at directive d p

text_read_in : (n : ℕ) (list : List Lexeme) (directive : Option Place) (k : Known) → Stand n list → IfIn n directive → KnownIn n k → KnownResult n (text_read list directive k)
text_read_in n list directive k s d h = expanded_in n directive (expansion (setting_in k.macros) list k.used) k d (expansion-placed (λ at. is_in n at ≡ true) (setting_in k.macros) list k.used s) h

-- ---- conditions

abbrev LineIn : ℕ → Option (List Lexeme) → Type 0
LineIn n None = Unit {0}
LineIn n (Some xs) = Stand n xs

abbrev NamedIn : ℕ → Option Named → Type 0
NamedIn n None = Unit {0}
NamedIn n (Some p) = Stand n p.rest

tail_in : (n : ℕ) (x : Lexeme) (xs : List Lexeme) → Stand n (x ∷ xs) → Stand n xs
tail_in n x xs s = All-tail (StandsBy (λ at. is_in n at ≡ true)) x xs s

head_in : (n : ℕ) (x : Lexeme) (xs : List Lexeme) → Stand n (x ∷ xs) → is_in n (mark_of x).place ≡ true
head_in n x xs s = All-head (StandsBy (λ at. is_in n at ≡ true)) x xs s

cons_in : (n : ℕ) (x : Lexeme) (xs : List Lexeme) → is_in n (mark_of x).place ≡ true → Stand n xs → Stand n (x ∷ xs)
cons_in n x xs h s = All-cons (StandsBy (λ at. is_in n at ≡ true)) x xs h s

nil_in : (n : ℕ) → Stand n []
nil_in n = All-nil (StandsBy (λ at. is_in n at ≡ true))

closed_in : (n name : ℕ) (y : Lexeme) (more : List Lexeme) → Stand n more → NamedIn n (closed_by name y more)
closed_in n name (Close m) more s = s
closed_in n name y more s = tt

parenthesized_in : (n : ℕ) (x y : Lexeme) (more : List Lexeme) → Stand n more → NamedIn n (parenthesized x y more)
parenthesized_in n (Name name m) y more s = closed_in n name y more s
parenthesized_in n x y more s = tt

in_parentheses_in : (n : ℕ) (xs : List Lexeme) → Stand n xs → NamedIn n (in_parentheses xs)
in_parentheses_in n [] s = tt
in_parentheses_in n (x ∷ []) s = tt
in_parentheses_in n (x ∷ y ∷ more) s = parenthesized_in n x y more (tail_in n y more (tail_in n x (y ∷ more) s))

named_by_in : (n : ℕ) (x : Lexeme) (more : List Lexeme) → Stand n more → NamedIn n (named_by x more)
named_by_in n (Name name m) more s = s
named_by_in n (Open m) more s = in_parentheses_in n more s
named_by_in n x more s = tt

named_in : (n : ℕ) (xs : List Lexeme) → Stand n xs → NamedIn n (named xs)
named_in n [] s = tt
named_in n (x ∷ more) s = named_by_in n x more (tail_in n x more s)

put_before_in : (n : ℕ) (x : Lexeme) (o : Option (List Lexeme)) → is_in n (mark_of x).place ≡ true → LineIn n o → LineIn n (put_before x o)
put_before_in n x None h s = tt
put_before_in n x (Some xs) h s = cons_in n x xs h s

put_digit_in : (n : ℕ) (macros : List (ℕ × Defined)) (digits : Digits) (m : Mark) (o : Option Named) (go : List Lexeme → Option (List Lexeme)) → is_in n m.place ≡ true → NamedIn n o → ((xs : List Lexeme) → Stand n xs → LineIn n (go xs))
    → LineIn n (put_digit macros digits m o go)
put_digit_in n macros digits m None go h s k = tt
put_digit_in n macros digits m (Some p) go h s k = put_before_in n (digit digits (is_defined macros p.name) m) (go p.rest) h (k p.rest s)

replaced_by_in : (n : ℕ) (texts : List (List ℕ)) (macros : List (ℕ × Defined)) (digits : Digits) (turns : ℕ) (xs : List Lexeme) → Stand n xs → LineIn n (replaced_by texts macros digits turns xs)
replaced_by_in n texts macros digits turns [] s = nil_in n
replaced_by_in n texts macros digits zero (x ∷ xs) s = tt
replaced_by_in n texts macros digits (suc turns) (x ∷ xs) s = either (is_defined_word texts x) _ _ (LineIn n)
    (λ e. put_digit_in n macros digits (mark_of x) (named xs) (replaced_by texts macros digits turns) (head_in n x xs s) (named_in n xs (tail_in n x xs s)) (λ ys t. replaced_by_in n texts macros digits turns ys t))
    (λ e. put_before_in n x (replaced_by texts macros digits turns xs) (head_in n x xs s) (replaced_by_in n texts macros digits turns xs (tail_in n x xs s)))

abbrev SymbolsIn : {A : Type 0} → ℕ → Result A Place → Type 0
SymbolsIn n (Ok x) = Unit {0}
SymbolsIn n (Err at) = is_in n at ≡ true

constant_in : (n : ℕ) (o : Option Number) (at : Place) → is_in n at ≡ true → SymbolsIn n (constant o at)
constant_in n None at h = h
constant_in n (Some v) at h = tt

other_in : (n : ℕ) (k : Kind) (text : List ℕ) (char_signed : Bool) (at : Place) → is_in n at ≡ true → SymbolsIn n (other_symbol k text char_signed at)
other_in n kind.Number text char_signed at h = constant_in n (integer_constant text) at h
other_in n kind.Char text char_signed at h = constant_in n (character_constant text char_signed) at h
other_in n kind.Punct text char_signed at h = tt
other_in n k text char_signed at h = tt

symbol_in_in : (n : ℕ) (texts : List (List ℕ)) (char_signed : Bool) (x : Lexeme) → is_in n (mark_of x).place ≡ true → SymbolsIn n (symbol_in texts char_signed x)
symbol_in_in n texts char_signed (Other k t m) h = other_in n k (text_at texts t) char_signed m.place h
symbol_in_in n texts char_signed (Name t m) h = tt
symbol_in_in n texts char_signed (Painted t m) h = tt
symbol_in_in n texts char_signed (Open m) h = tt
symbol_in_in n texts char_signed (Close m) h = tt
symbol_in_in n texts char_signed (Comma m) h = tt

before_in : (n : ℕ) (x : Result Symbol Place) (xs : Result (List Symbol) Place) → SymbolsIn n x → SymbolsIn n xs → SymbolsIn n (before x xs)
before_in n (Err at) xs h k = h
before_in n (Ok x) (Err at) h k = k
before_in n (Ok x) (Ok xs) h k = tt

symbols_in_in : (n : ℕ) (texts : List (List ℕ)) (char_signed : Bool) (xs : List Lexeme) → Stand n xs → SymbolsIn n (symbols_in texts char_signed xs)
symbols_in_in n texts char_signed [] s = tt
symbols_in_in n texts char_signed (x ∷ xs) s = before_in n (symbol_in texts char_signed x) (symbols_in texts char_signed xs) (symbol_in_in n texts char_signed x (head_in n x xs s)) (symbols_in_in n texts char_signed xs (tail_in n x xs s))

abbrev FaultIn : ℕ → Result Bool ConditionFault → Type 0
FaultIn n (Ok b) = Unit {0}
FaultIn n (Err (NumberForm at)) = is_in n at ≡ true
FaultIn n (Err Malformed) = Unit {0}
FaultIn n (Err Memory) = Unit {0}

decided_if_in : (n : ℕ) (o : Option Value) → FaultIn n (decided_if o)
decided_if_in n None = tt
decided_if_in n (Some v) = either v.faulty _ _ (FaultIn n) (λ e. tt) (λ e. tt)

line_truth_in : (n : ℕ) (r : Result (List Symbol) Place) → SymbolsIn n r → FaultIn n (line_truth r)
line_truth_in n (Ok ts) h = decided_if_in n _
line_truth_in n (Err at) h = h

abbrev DecidedResult : ℕ → Result Decided Fault → Type 0
DecidedResult n (Ok d) = KnownIn n d.known
DecidedResult n (Err f) = is_in n f.place ≡ true

truth_at_in : (n : ℕ) (place : Place) (r : Result Bool ConditionFault) (k : Known) → is_in n place ≡ true → FaultIn n r → KnownIn n k → DecidedResult n (truth_at place r k)
truth_at_in n place (Ok b) k h f i = i
truth_at_in n place (Err (NumberForm at)) k h f i = f
truth_at_in n place (Err Malformed) k h f i = h
truth_at_in n place (Err Memory) k h f i = h

condition_expanded_in : (n : ℕ) (char_signed : Bool) (place : Place) (o : Outcome (List Lexeme)) (k : Known) → is_in n place ≡ true → PlacedIf (λ at. is_in n at ≡ true) o → KnownIn n k → DecidedResult n (condition_expanded char_signed place o k)
condition_expanded_in n char_signed place (done words used) k h p i =
    truth_at_in n place (line_truth (symbols_in k.texts char_signed words)) (record k { used = used }) h (line_truth_in n (symbols_in k.texts char_signed words) (symbols_in_in n k.texts char_signed words p)) i
condition_expanded_in n char_signed place (refused why at) k h p i = trouble_in n why at None tt p

condition_named_in : (n : ℕ) (char_signed : Bool) (place : Place) (o : Option (List Lexeme)) (k : Known) → is_in n place ≡ true → LineIn n o → KnownIn n k → DecidedResult n (condition_named char_signed place o k)
condition_named_in n char_signed place None k h s i = h
condition_named_in n char_signed place (Some line) k h s i =
    condition_expanded_in n char_signed place (expansion (setting_in k.macros) line k.used) k h (expansion-placed (λ at. is_in n at ≡ true) (setting_in k.macros) line k.used s) i

condition_in : (n : ℕ) (char_signed : Bool) (place : Place) (line : List Lexeme) (k : Known) → is_in n place ≡ true → Stand n line → KnownIn n k → DecidedResult n (condition char_signed place line k)
condition_in n char_signed place line k h s i = condition_named_in n char_signed place (replaced k.texts k.macros k.digits line) k h (replaced_by_in n k.texts k.macros k.digits (length line) line s) i

-- ---- if-sections

abbrev pub ReadingResult : ℕ → Result Reading Fault → Type 0
ReadingResult n (Ok r) = KnownIn n r.known × OpenIn n r.top
ReadingResult n (Err f) = is_in n f.place ≡ true

entered_top : (n : ℕ) (place : Place) (s : GroupState) (top : Opened) → is_in n place ≡ true → OpenIn n top → OpenIn n (entered_in place s top)
entered_top n place s top h o = record { unread = o.unread; sections = (h, o.sections) }

first_group_in : (n : ℕ) (place : Place) (top : Opened) (d : Result Decided Fault) → is_in n place ≡ true → OpenIn n top → DecidedResult n d → ReadingResult n (first_group place top d)
first_group_in n place top (Ok d) h o k = (k, entered_top n place (first_state d.holds) top h o)
first_group_in n place top (Err f) h o k = k

ifdef_in : (n : ℕ) (wanted : Bool) (place : Place) (o : Option ℕ) (r : Reading) → is_in n place ≡ true → KnownIn n r.known → OpenIn n r.top → ReadingResult n (ifdef_named wanted place o r)
ifdef_in n wanted place None r h k t = h
ifdef_in n wanted place (Some name) r h k t = (k, entered_top n place _ r.top h t)

begun_ifdef_in : (n : ℕ) (wanted : Bool) (place : Place) (line : List Lexeme) (r : Reading) → is_in n place ≡ true → KnownIn n r.known → OpenIn n r.top → ReadingResult n (begun_ifdef wanted place line r)
begun_ifdef_in n wanted place line r h k t = either (is_skipped r.top.sections) _ _ (ReadingResult n) (λ e. (k, entered_top n place Outside r.top h t)) (λ e. ifdef_in n wanted place (only_name line) r h k t)

with_state_in : (n : ℕ) (s : GroupState) (sections : List Section) → SectionsIn n sections → SectionsIn n (with_state s sections)
with_state_in n s [] h = tt
with_state_in n s (x ∷ xs) h = h

with_state_top : (n : ℕ) (s : GroupState) (top : Opened) → OpenIn n top → OpenIn n (record top { sections = with_state s top.sections })
with_state_top n s top o = record { unread = o.unread; sections = with_state_in n s top.sections o.sections }

next_group_in : (n : ℕ) (top : Opened) (d : Result Decided Fault) → OpenIn n top → DecidedResult n d → ReadingResult n (next_group top d)
next_group_in n top (Ok d) o k = (k, with_state_top n (first_state d.holds) top o)
next_group_in n top (Err f) o k = k

elif_in : (n : ℕ) (char_signed : Bool) (place : Place) (line : List Lexeme) (o : Option GroupState) (r : Reading) → is_in n place ≡ true → Stand n line → KnownIn n r.known → OpenIn n r.top → ReadingResult n (elif_behind char_signed place line o r)
elif_in n char_signed place line None r h s k t = h
elif_in n char_signed place line (Some g) r h s k t = either (is_waiting g) _ _ (ReadingResult n)
    (λ e. next_group_in n r.top (condition char_signed place line r.known) t (condition_in n char_signed place line r.known h s k)) (λ e. (k, with_state_top n (state_behind g) r.top t))

even_in : (n : ℕ) (k : Known) (place : Place) (o : Option Uneven) (sections : List Section) (top : Opened) → is_in n place ≡ true → SectionsIn n sections → KnownIn n k → OpenIn n top → ReadingResult n (with_top k (if_even place o sections top))
even_in n k place None sections top h s i t = (i, record { unread = t.unread; sections = s })
even_in n k place (Some Misplaced) sections top h s i t = h
even_in n k place (Some Trailing) sections top h s i t = h

turned_else_in : (n : ℕ) (sections : List Section) → SectionsIn n sections → SectionsIn n (turned_else sections)
turned_else_in n [] h = tt
turned_else_in n (x ∷ xs) h = h

left_in : (n : ℕ) (sections : List Section) → SectionsIn n sections → SectionsIn n (left sections)
left_in n [] h = tt
left_in n (x ∷ xs) h = h.1

pub conditional_in : (n : ℕ) (char_signed : Bool) (d : Directive) (place : Place) (line : List Lexeme) (r : Reading) → is_in n place ≡ true → Stand n line → KnownIn n r.known → OpenIn n r.top → ReadingResult n (conditional char_signed d place line r)
conditional_in n char_signed If place line r h s k t = either (is_skipped r.top.sections) _ _ (ReadingResult n) (λ e. (k, entered_top n place Outside r.top h t))
    (λ e. first_group_in n place r.top (condition char_signed place line r.known) h t (condition_in n char_signed place line r.known h s k))
conditional_in n char_signed Ifdef place line r h s k t = begun_ifdef_in n true place line r h k t
conditional_in n char_signed Ifndef place line r h s k t = begun_ifdef_in n false place line r h k t
conditional_in n char_signed Elif place line r h s k t = elif_in n char_signed place line (state_before_elif r.top.sections) r h s k t
conditional_in n char_signed Else place line r h s k t = even_in n r.known place _ (turned_else r.top.sections) r.top h (turned_else_in n r.top.sections t.sections) k t
conditional_in n char_signed Endif place line r h s k t = even_in n r.known place _ (left r.top.sections) r.top h (left_in n r.top.sections t.sections) k t
conditional_in n char_signed d place line r h s k t = (k, t)

-- ---- other directives

define_beside_in : (n : ℕ) (place : Place) (name : ℕ) (rule : Defined) (o : Option Defined) (k : Known) → is_in n place ≡ true → KnownIn n k → KnownResult n (define_beside place name rule o k)
define_beside_in n place name rule None k h i = i
define_beside_in n place name rule (Some old) k h i = either (same_definition old rule) _ _ (KnownResult n) (λ e. i) (λ e. h)

define_as_in : (n : ℕ) (place : Place) (name : ℕ) (o : Option Defined) (k : Known) → is_in n place ≡ true → KnownIn n k → KnownResult n (define_as place name o k)
define_as_in n place name None k h i = h
define_as_in n place name (Some rule) k h i = define_beside_in n place name rule (defined_in k.macros name) k h i

define_named_in : (n : ℕ) (place : Place) (o : Option Named) (k : Known) → is_in n place ≡ true → KnownIn n k → KnownResult n (define_named place o k)
define_named_in n place None k h i = h
define_named_in n place (Some p) k h i = either (may_be_defined k.texts p.name) _ _ (KnownResult n) (λ e. define_as_in n place p.name (definition (is_barred k.texts) p.rest) k h i) (λ e. h)

undefine_in : (n : ℕ) (place : Place) (o : Option ℕ) (k : Known) → is_in n place ≡ true → KnownIn n k → KnownResult n (undefine_named place o k)
undefine_in n place None k h i = h
undefine_in n place (Some name) k h i = either (may_be_defined k.texts name) _ _ (KnownResult n) (λ e. i) (λ e. h)

pragma_in : (n file : ℕ) (o : Option ℕ) (k : Known) → KnownIn n k → KnownResult n (pragma_named file o k)
pragma_in n file None k i = i
pragma_in n file (Some name) k i = either (is_spelled k.texts name (codes "once") && not (is_once k.once file)) _ _ (KnownResult n) (λ e. i) (λ e. i)

pub plain_in : (n : ℕ) (d : Directive) (file : ℕ) (place : Place) (line behind : List Lexeme) (k : Known) → is_in n place ≡ true → KnownIn n k → KnownResult n (plain d file place line behind k)
plain_in n Define file place line behind k h i = define_named_in n place (first_name line) k h i
plain_in n Undef file place line behind k h i = undefine_in n place (only_name line) k h i
plain_in n Error file place line behind k h i = h
plain_in n Pragma file place line behind k h i = pragma_in n file (only_name line) k i
plain_in n d file place line behind k h i = either (is_nil behind) _ _ (KnownResult n) (λ e. i) (λ e. h)

-- ---- lists of text lines

text_cut_in : (n : ℕ) (texts : List (List ℕ)) (xs : List Lexeme) → Stand n xs → Stand n (cut_text texts xs).front × Stand n (cut_text texts xs).rest
text_cut_in n texts [] s = (s, s)
text_cut_in n texts (x ∷ xs) s = either (begins_directive texts x) (cut [] (x ∷ xs)) (with_front x (cut_text texts xs)) (λ v. Stand n v.front × Stand n v.rest) (λ e. (nil_in n, s))
    (λ e. let w : Stand n (cut_text texts xs).front × Stand n (cut_text texts xs).rest = text_cut_in n texts xs (tail_in n x xs s) in (cons_in n x _ (head_in n x xs s) w.0, w.1))

line_cut_in : (n : ℕ) (xs : List Lexeme) → Stand n xs → Stand n (cut_line xs).front × Stand n (cut_line xs).rest
line_cut_in n [] s = (s, s)
line_cut_in n (x ∷ xs) s = either (mark_of x).first (cut [] (x ∷ xs)) (with_front x (cut_line xs)) (λ v. Stand n v.front × Stand n v.rest) (λ e. (nil_in n, s))
    (λ e. let w : Stand n (cut_line xs).front × Stand n (cut_line xs).rest = line_cut_in n xs (tail_in n x xs s) in (cons_in n x _ (head_in n x xs s) w.0, w.1))

pub directive_cut_in : (n : ℕ) (xs : List Lexeme) → Stand n xs → Stand n (cut_directive xs).front × Stand n (cut_directive xs).rest
directive_cut_in n [] s = (s, s)
directive_cut_in n (x ∷ xs) s = line_cut_in n xs (tail_in n x xs s)

directive_at_in : (n : ℕ) (texts : List (List ℕ)) (xs : List Lexeme) → Stand n xs → IfIn n (directive_at texts (first_of xs))
directive_at_in n texts [] s = tt
directive_at_in n texts (x ∷ xs) s = either (begins_directive texts x) _ _ (IfIn n) (λ e. head_in n x xs s) (λ e. tt)

with_known_in : (n : ℕ) (top : Opened) (x : Result Known Fault) → OpenIn n top → KnownResult n x → ReadingResult n (with_known top x)
with_known_in n top (Ok k) t h = (h, t)
with_known_in n top (Err f) t h = h

pub text_lines_in : (n : ℕ) (r : Reading) → KnownIn n r.known → OpenIn n r.top → ReadingResult n (text_lines r)
text_lines_in n r k t =
    let w : Stand n (cut_text r.known.texts r.top.unread).front × Stand n (cut_text r.known.texts r.top.unread).rest = text_cut_in n r.known.texts r.top.unread t.unread in
    let top : OpenIn n (record r.top { unread = (cut_text r.known.texts r.top.unread).rest }) = record { unread = w.1; sections = t.sections } in
    either (is_skipped r.top.sections) _ _ (ReadingResult n) (λ e. (k, top))
    (λ e. with_known_in n _ _ top (text_read_in n (cut_text r.known.texts r.top.unread).front _ r.known w.0 (directive_at_in n r.known.texts (cut_text r.known.texts r.top.unread).rest w.1) k))

-- ---- what an `#include` asks for

abbrev pub AskedResult : ℕ → Result Asked Fault → Type 0
AskedResult n (Ok a) = KnownIn n a.known
AskedResult n (Err f) = is_in n f.place ≡ true

asked_in : (n : ℕ) (place : Place) (k : Known) (o : Option Header) → is_in n place ≡ true → KnownIn n k → AskedResult n (asked place k o)
asked_in n place k None h i = h
asked_in n place k (Some header) h i = i

numbered_in : (n : ℕ) (deepest : Bool) (place : Place) (o : Option ℕ) (k : Known) → is_in n place ≡ true → KnownIn n k → AskedResult n (include_numbered deepest place o k)
numbered_in n deepest place None k h i = h
numbered_in n deepest place (Some number) k h i = either deepest _ _ (AskedResult n) (λ e. h) (λ e. either (nat_le 1024 k.inclusions) _ _ (AskedResult n) (λ j. h) (λ j. asked_in n place (record k { inclusions = k.inclusions + 1 }) _ h i))

pub include_asks_in : (n : ℕ) (deepest : Bool) (place : Place) (line : List Lexeme) (k : Known) → is_in n place ≡ true → KnownIn n k → AskedResult n (include_asks deepest place line k)
include_asks_in n deepest place line k h i = numbered_in n deepest place (only_header line) k h i

-- ---- the first section that is open

section_at_in : (n : ℕ) (sections : List Section) (at : ℕ) → SectionsIn n sections → IfIn n (option_map (λ s. s.place) (slice_get sections at))
section_at_in n [] at h = tt
section_at_in n (x ∷ xs) zero h = h.0
section_at_in n (x ∷ xs) (suc at) h = section_at_in n xs at h.1

pub first_open_in : (n : ℕ) (sections : List Section) (place : Place) → SectionsIn n sections → first_open sections ≡ Some place → is_in n place ≡ true
first_open_in n sections place h e = subst (IfIn n) e (section_at_in n sections _ h)

pub placed_directive_in : (n : ℕ) (texts : List (List ℕ)) (xs : List Lexeme) (place : Place) → Stand n xs → directive_at texts (first_of xs) ≡ Some place → is_in n place ≡ true
placed_directive_in n texts xs place s e = subst (IfIn n) e (directive_at_in n texts xs s)
