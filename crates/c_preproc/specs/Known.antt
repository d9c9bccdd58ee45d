-- What is known while a unit is preprocessed, and what its text lines and directives do to it (6.10).
use Rattle.std.specs.Prelude.{◌≡◌, ◌+◌, ◌-◌, slice_get, option_map, ℕ, Bool, true, false, not, ◌&&◌, cond, codes, nat_eq, nat_le, List, [], ◌∷◌, ◌++◌, length, string_bytes, Option, Some, None, Result, Ok, Err}
use Rattle.std.specs.List.{list_any}
use Rattle.indexmap.specs.IndexMap.{insert_entry, swap_remove_entry}
use Rattle.cc_base.specs.declared.diagnostics.Place.{Place}
use Rattle.std.specs.Borrow.{Bor}
use Rattle.cc_base.specs.declared.lexemes.Kind.{Kind}
use Rattle.cc_base.specs.declared.lexemes.Kind.TheVariants as kind
use Rattle.cc_base.specs.declared.lexemes.Token.{Token}
use Rattle.cc_base.specs.declared.refusals.Fault.{Fault}
use Rattle.cc_base.specs.declared.refusals.Refusal.TheVariants as refusal
use Rattle.cc_base.specs.declared.refusals.Stop.{Stop}
use Rattle.cc_base.specs.declared.refusals.Stop.TheVariants as stop
use Rattle.c_lexer.specs.Cutting.{fault_of}
use Rattle.c_preproc_macros.specs.declared.lexeme.Mark.{Mark}
use Rattle.c_preproc_macros.specs.declared.lexeme.Lexeme.{Lexeme}
use Rattle.c_preproc_macros.specs.declared.lexeme.Lexeme.TheVariants.{Name, Other}
use Rattle.c_preproc_macros.specs.declared.macro_table.Part.TheVariants.{Word}
use Rattle.c_preproc_macros.specs.declared.trouble.Trouble.{Trouble}
use Rattle.c_preproc_macros.specs.declared.trouble.Trouble.TheVariants as trouble
use Rattle.c_preproc_macros.specs.Lexemes.{mark_of}
use Rattle.c_preproc_macros.specs.Numbering.{texts_of, text_at, token_in}
use Rattle.c_preproc_macros.specs.Rules.{Defined, macros_of, defined_in}
use Rattle.c_preproc_macros.specs.Expanding.{Outcome, expansion}
use Rattle.c_preproc_macros.specs.Expanding.Outcome.{done, refused}
use Rattle.c_preproc_macros.specs.States.{setting_in}
use Rattle.c_preproc_conditions.specs.declared.defined_names.Digits.{Digits}
use Rattle.c_preproc_conditions.specs.declared.evaluation.ConditionFault.{ConditionFault}
use Rattle.c_preproc_conditions.specs.declared.evaluation.ConditionFault.TheVariants.{NumberForm, Malformed, Memory}
use Rattle.c_preproc_conditions.specs.DefinedNames.{Named, is_defined, replaced}
use Rattle.c_preproc_conditions.specs.Lines.{symbols_in}
use Rattle.c_preproc_conditions.specs.Truth.{line_truth}
use Rattle.c_preproc_directives.specs.declared.conditional_groups.GroupState.{GroupState}
use Rattle.c_preproc_directives.specs.declared.conditional_groups.GroupState.TheVariants.{Outside}
use Rattle.c_preproc_directives.specs.declared.conditional_groups.Section.{Section}
use Rattle.c_preproc_directives.specs.declared.conditional_groups.Uneven.{Uneven}
use Rattle.c_preproc_directives.specs.declared.conditional_groups.Uneven.TheVariants.{Misplaced, Trailing}
use Rattle.c_preproc_directives.specs.declared.directive_names.Directive.{Directive}
use Rattle.c_preproc_directives.specs.declared.directive_names.Directive.TheVariants.{If, Ifdef, Ifndef, Elif, Else, Endif, Define, Undef, Error, Pragma, Unknown}
use Rattle.c_preproc_directives.specs.Directives.{directive_named, Header, header_name}
use Rattle.c_preproc_directives.specs.Definitions.{is_barred, is_spelled, may_be_defined, definition, same_definition}
use Rattle.c_preproc_directives.specs.Groups.{first_state, state_behind, is_skipped, is_waiting, entered, state_before_elif, with_state, else_fault, turned_else, end_fault, left}
use Rattle.c_preproc_directives.specs.OpenFiles.{Opened, opened_of, begins_directive, first_of, cut_text}
use Rattle.c_preproc_directives.specs.declared.open_files.OpenFile.{OpenFile}
use Rattle.c_preproc.specs.declared.preprocessor_state.State.{State}
use Rattle.c_preproc.specs.declared.preprocessing.Wanted.{Wanted}

-- The spellings by number; the macros by the numbers of their names; the numbers of `0` and `1`; how many tokens
-- replacements have made; how many inclusions there were; the files with `#pragma once`, by index; and the tokens
-- of the unit so far.
pub record Known : Type 0 where
  pub texts : List (List ℕ)
  pub macros : List (ℕ × Defined)
  pub digits : Digits
  pub used : ℕ
  pub inclusions : ℕ
  pub once : List ℕ
  pub out : List Token

abbrev pub known_of : State → Known
known_of s = record { texts = texts_of s.spellings; macros = macros_of s.macros; digits = s.digits; used = s.used; inclusions = s.inclusions; once = s.once.items; out = s.out }

-- a unit that is being read: what is known, and the file that is being read
pub record Reading : Type 0 where
  pub known : Known
  pub top : Opened

abbrev pub reading_of : State → OpenFile → Reading
reading_of s f = record { known = known_of s; top = opened_of f }

-- an answer is what the definition gives, unless memory ran out
abbrev pub Gives : {A B : Type 0} → Result B Fault → (A → B) → Result A Stop → Type 0
Gives wanted view (Ok a) = wanted ≡ Ok (view a)
Gives wanted view (Err (stop.Refused f)) = wanted ≡ Err f
Gives wanted view (Err stop.NotHeld) = ⊥
Gives wanted view (Err stop.ReadFault) = ⊥
Gives wanted view (Err stop.Memory) = Unit {0}

abbrev pub bad : {A : Type 0} → Place → Result A Fault
bad place = Err (fault_of place refusal.BadDirective)

-- `__STDC__` is 1, and no other macro is defined (6.10.8)
abbrev pub first_mark : Mark
first_mark = record { place = record { file = 0; line = 1; col = 1 }; first = false; space = true }

abbrev pub start : Known
start = record {
  texts = codes "__STDC__" ∷ codes "1" ∷ codes "0" ∷ [];
  macros = (0, record { parameters = None; body = Word (Other kind.Number 1 first_mark) ∷ [] }) ∷ [];
  digits = record { zero = 2; one = 1 };
  used = 0;
  inclusions = 0;
  once = [];
  out = [];
}

-- the refusal of a call of a macro; a call that is not closed is refused as `unclosed`
abbrev pub trouble_fault : Trouble → Place → Fault → Fault
trouble_fault trouble.Spill place unclosed = fault_of place refusal.MacroSpill
trouble_fault trouble.Arguments place unclosed = fault_of place refusal.MacroArguments
trouble_fault trouble.Unclosed place unclosed = unclosed
trouble_fault (trouble.TooMany count) place unclosed = fault_of place (refusal.TooManyTokens count 1048576)

-- what refuses a call that is not closed in its list: the directive behind the list, or else the call itself
abbrev pub unclosed_fault : Option Place → Place → Fault
unclosed_fault (Some place) call = fault_of place refusal.BadDirective
unclosed_fault None call = fault_of call refusal.MacroArguments

-- the tokens of an expanded list join those of the unit, of which there are at most so many
abbrev pub appended : List Lexeme → Known → Result Known Fault
appended [] k = Ok k
appended (x ∷ xs) k = cond (nat_le 131072 (length k.out)) (Err (fault_of (mark_of x).place (refusal.TooManyTokens 131073 131072))) (appended xs (record k { out = k.out ++ token_in k.texts x ∷ [] }))

abbrev pub expanded : Option Place → Outcome (List Lexeme) → Known → Result Known Fault
expanded directive (done words used) k = appended words (record k { used = used })
expanded directive (refused why place) k = Err (trouble_fault why place (unclosed_fault directive place))

-- a list of text lines, before a directive at this place or at the end of its file
abbrev pub text_read : List Lexeme → Option Place → Known → Result Known Fault
text_read list directive k = expanded directive (expansion (setting_in k.macros) list k.used) k

-- what is known, and the truth of a condition
pub record Decided : Type 0 where
  pub known : Known
  pub holds : Bool

abbrev pub decided : Known → Bool → Decided
decided k b = record { known = k; holds = b }

abbrev pub condition_fault : Place → ConditionFault → Fault
condition_fault place (NumberForm at) = fault_of at refusal.NumberForm
condition_fault place Malformed = fault_of place refusal.BadDirective
condition_fault place Memory = fault_of place refusal.BadDirective

-- the stop of a condition's fault
abbrev pub IsConditionStop : Place → ConditionFault → Stop → Type 0
IsConditionStop place Memory s = s ≡ stop.Memory
IsConditionStop place (NumberForm at) s = s ≡ stop.Refused (fault_of at refusal.NumberForm)
IsConditionStop place Malformed s = s ≡ stop.Refused (fault_of place refusal.BadDirective)

abbrev pub truth_at : Place → Result Bool ConditionFault → Known → Result Decided Fault
truth_at place (Ok b) k = Ok (decided k b)
truth_at place (Err fault) k = Err (condition_fault place fault)

abbrev pub condition_expanded : Bool → Place → Outcome (List Lexeme) → Known → Result Decided Fault
condition_expanded char_signed place (done words used) k = truth_at place (line_truth (symbols_in k.texts char_signed words)) (record k { used = used })
condition_expanded char_signed place (refused why at) k = Err (trouble_fault why at (unclosed_fault None at))

abbrev pub condition_named : Bool → Place → Option (List Lexeme) → Known → Result Decided Fault
condition_named char_signed place None k = bad place
condition_named char_signed place (Some line) k = condition_expanded char_signed place (expansion (setting_in k.macros) line k.used) k

-- the condition of the directive at a place: each `defined` is replaced, then the macros, then the value is computed (6.10.1p4)
abbrev pub condition : Bool → Place → List Lexeme → Known → Result Decided Fault
condition char_signed place line k = condition_named char_signed place (replaced k.texts k.macros k.digits line) k

abbrev pub name_of : Lexeme → Option ℕ
name_of (Name n m) = Some n
name_of x = None

-- a line that is one name
abbrev pub only_name : List Lexeme → Option ℕ
only_name [] = None
only_name (x ∷ []) = name_of x
only_name (x ∷ y ∷ ys) = None

abbrev pub name_before : Lexeme → List Lexeme → Option Named
name_before (Name n m) rest = Some (record { name = n; rest = rest })
name_before x rest = None

-- a line that begins with a name
abbrev pub first_name : List Lexeme → Option Named
first_name [] = None
first_name (x ∷ rest) = name_before x rest

-- a section begins
abbrev pub entered_in : Place → GroupState → Opened → Opened
entered_in place state top = record top { sections = entered place state top.sections }

abbrev pub first_group : Place → Opened → Result Decided Fault → Result Reading Fault
first_group place top (Ok d) = Ok (record { known = d.known; top = entered_in place (first_state d.holds) top })
first_group place top (Err f) = Err f

abbrev pub begun_if : Bool → Place → List Lexeme → Reading → Result Reading Fault
begun_if char_signed place line r =
    cond (is_skipped r.top.sections) (Ok (record r { top = entered_in place Outside r.top })) (first_group place r.top (condition char_signed place line r.known))

abbrev pub ifdef_named : Bool → Place → Option ℕ → Reading → Result Reading Fault
ifdef_named wanted place None r = bad place
ifdef_named wanted place (Some n) r = let known : Bool = is_defined r.known.macros n in Ok (record r { top = entered_in place (first_state (cond wanted known (not known))) r.top })

-- `#ifdef`, or `#ifndef` where `wanted` is false
abbrev pub begun_ifdef : Bool → Place → List Lexeme → Reading → Result Reading Fault
begun_ifdef wanted place line r = cond (is_skipped r.top.sections) (Ok (record r { top = entered_in place Outside r.top })) (ifdef_named wanted place (only_name line) r)

abbrev pub next_group : Opened → Result Decided Fault → Result Reading Fault
next_group top (Ok d) = Ok (record { known = d.known; top = record top { sections = with_state (first_state d.holds) top.sections } })
next_group top (Err f) = Err f

abbrev pub elif_behind : Bool → Place → List Lexeme → Option GroupState → Reading → Result Reading Fault
elif_behind char_signed place line None r = Err (fault_of place refusal.UnevenConditional)
elif_behind char_signed place line (Some s) r =
    cond (is_waiting s) (next_group r.top (condition char_signed place line r.known)) (Ok (record r { top = record r.top { sections = with_state (state_behind s) r.top.sections } }))

abbrev pub turned_elif : Bool → Place → List Lexeme → Reading → Result Reading Fault
turned_elif char_signed place line r = elif_behind char_signed place line (state_before_elif r.top.sections) r

abbrev pub uneven_fault : Place → Uneven → Fault
uneven_fault place Misplaced = fault_of place refusal.UnevenConditional
uneven_fault place Trailing = fault_of place refusal.BadDirective

abbrev pub is_nil : List Lexeme → Bool
is_nil [] = true
is_nil (x ∷ xs) = false

abbrev pub if_even : Place → Option Uneven → List Section → Opened → Result Opened Fault
if_even place None sections top = Ok (record top { sections = sections })
if_even place (Some fault) sections top = Err (uneven_fault place fault)

abbrev pub else_turned : Place → List Lexeme → Opened → Result Opened Fault
else_turned place line top = if_even place (else_fault (not (is_nil line)) top.sections) (turned_else top.sections) top

abbrev pub if_ended : Place → List Lexeme → Opened → Result Opened Fault
if_ended place line top = if_even place (end_fault (not (is_nil line)) top.sections) (left top.sections) top

abbrev pub with_top : Known → Result Opened Fault → Result Reading Fault
with_top k (Ok top) = Ok (record { known = k; top = top })
with_top k (Err f) = Err f

-- a directive of an if-section
abbrev pub conditional : Bool → Directive → Place → List Lexeme → Reading → Result Reading Fault
conditional char_signed If place line r = begun_if char_signed place line r
conditional char_signed Ifdef place line r = begun_ifdef true place line r
conditional char_signed Ifndef place line r = begun_ifdef false place line r
conditional char_signed Elif place line r = turned_elif char_signed place line r
conditional char_signed Else place line r = with_top r.known (else_turned place line r.top)
conditional char_signed Endif place line r = with_top r.known (if_ended place line r.top)
conditional char_signed d place line r = Ok r

-- a macro is defined where its name is not, or is defined again in the same way (6.10.3p2)
abbrev pub define_beside : Place → ℕ → Defined → Option Defined → Known → Result Known Fault
define_beside place n rule None k = Ok (record k { macros = insert_entry nat_eq k.macros n rule })
define_beside place n rule (Some old) k = cond (same_definition old rule) (Ok k) (Err (fault_of place refusal.MacroRedefined))

abbrev pub define_as : Place → ℕ → Option Defined → Known → Result Known Fault
define_as place n None k = bad place
define_as place n (Some rule) k = define_beside place n rule (defined_in k.macros n) k

abbrev pub define_named : Place → Option Named → Known → Result Known Fault
define_named place None k = bad place
define_named place (Some p) k = cond (may_be_defined k.texts p.name) (define_as place p.name (definition (is_barred k.texts) p.rest) k) (bad place)

abbrev pub define : Place → List Lexeme → Known → Result Known Fault
define place line k = define_named place (first_name line) k

abbrev pub undefine_named : Place → Option ℕ → Known → Result Known Fault
undefine_named place None k = bad place
undefine_named place (Some n) k = cond (may_be_defined k.texts n) (Ok (record k { macros = swap_remove_entry (nat_eq n) k.macros })) (bad place)

abbrev pub undefine : Place → List Lexeme → Known → Result Known Fault
undefine place line k = undefine_named place (only_name line) k

abbrev pub is_once : List ℕ → ℕ → Bool
is_once once file = list_any (λ x. nat_eq x file) once

abbrev pub pragma_named : ℕ → Option ℕ → Known → Result Known Fault
pragma_named file None k = Ok k
pragma_named file (Some n) k = cond (is_spelled k.texts n (codes "once") && not (is_once k.once file)) (Ok (record k { once = k.once ++ file ∷ [] })) (Ok k)

-- `#pragma once` is obeyed, and all others are skipped (6.10.6)
abbrev pub pragma : ℕ → List Lexeme → Known → Result Known Fault
pragma file line k = pragma_named file (only_name line) k

-- a directive that is no conditional one and no `#include`; an empty one is in (6.10.7)
abbrev pub plain : Directive → ℕ → Place → List Lexeme → List Lexeme → Known → Result Known Fault
plain Define file place line behind k = define place line k
plain Undef file place line behind k = undefine place line k
plain Error file place line behind k = Err (fault_of place refusal.ErrorDirective)
plain Pragma file place line behind k = pragma file line k
plain d file place line behind k = cond (is_nil behind) (Ok k) (bad place)

-- a directive and what stands behind its name
pub record Line : Type 0 where
  pub directive : Directive
  pub line : List Lexeme

abbrev pub line_as : Directive × Bor (List Lexeme) → Line
line_as p = record { directive = p.0; line = p.1.now }

abbrev pub line_named : List (List ℕ) → Option Named → List Lexeme → Line
line_named texts None behind = record { directive = Unknown; line = behind }
line_named texts (Some p) behind = record { directive = directive_named (text_at texts p.name); line = p.rest }

-- the directive of a line behind its `#`
abbrev pub line_of : List (List ℕ) → List Lexeme → Line
line_of texts behind = line_named texts (first_name behind) behind

-- the place of the directive that a token begins
abbrev pub directive_at : List (List ℕ) → Option Lexeme → Option Place
directive_at texts None = None
directive_at texts (Some x) = cond (begins_directive texts x) (Some (mark_of x).place) None

abbrev pub with_known : Opened → Result Known Fault → Result Reading Fault
with_known top (Ok k) = Ok (record { known = k; top = top })
with_known top (Err f) = Err f

abbrev pub text_taken : List Lexeme → Opened → Known → Result Reading Fault
text_taken list top k = cond (is_skipped top.sections) (Ok (record { known = k; top = top })) (with_known top (text_read list (directive_at k.texts (first_of top.unread)) k))

-- the text lines up to the next directive are one list, which is expanded unless its group is skipped
abbrev pub text_lines : Reading → Result Reading Fault
text_lines r = text_taken (cut_text r.known.texts r.top.unread).front (record r.top { unread = (cut_text r.known.texts r.top.unread).rest }) r.known

-- what is known, and the header that is asked for
pub record Asked : Type 0 where
  pub known : Known
  pub header : Header

abbrev pub asked : Place → Known → Option Header → Result Asked Fault
asked place k None = bad place
asked place k (Some h) = Ok (record { known = k; header = h })

abbrev pub asked_as : Known → Wanted → Asked
asked_as k w = record { known = k; header = record { name = string_bytes w.name; quoted = w.quoted } }

abbrev pub is_header : Kind → Bool
is_header kind.HeaderName = true
is_header k = false

abbrev pub header_number : Lexeme → Option ℕ
header_number (Other k n m) = cond (is_header k) (Some n) None
header_number x = None

abbrev pub only_header : List Lexeme → Option ℕ
only_header [] = None
only_header (x ∷ []) = header_number x
only_header (x ∷ y ∷ ys) = None

abbrev pub include_numbered : Bool → Place → Option ℕ → Known → Result Asked Fault
include_numbered deepest place None k = bad place
include_numbered deepest place (Some n) k =
    cond deepest (Err (fault_of place refusal.IncludeDepth)) (cond (nat_le 1024 k.inclusions) (Err (fault_of place refusal.IncludeDepth))
    (asked place (record k { inclusions = k.inclusions + 1 }) (header_name (text_at k.texts n))))

-- what an `#include` asks for; `deepest` says that no further inclusion may be open in this one
abbrev pub include_asks : Bool → Place → List Lexeme → Known → Result Asked Fault
include_asks deepest place line k = include_numbered deepest place (only_header line) k

-- the place of the first section that is open
abbrev pub first_open : List Section → Option Place
first_open sections = option_map (λ s. s.place) (slice_get sections (length sections - 1))
