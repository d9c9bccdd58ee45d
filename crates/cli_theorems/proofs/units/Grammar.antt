-- Refusals of the grammar.
use Rattle.std.proofs.Common.{◌≡◌, ◌∙◌, ◌⊎◌, ℕ, true, false, ap, List, Option, Some, None, Result, Ok, Err, find, inl, inr, refl, sym, subst, arith, []}
use Rattle.cc_base.specs.declared.diagnostics.Place.{Place}
use Rattle.cc_base.specs.declared.refusals.Fault.{Fault}
use Rattle.cc_base.specs.declared.refusals.Refusal.{Refusal}
use Rattle.cc_base.specs.declared.refusals.Refusal.TheVariants as refusal
use Rattle.cc_base.specs.declared.refusals.Stop.TheVariants as stop
use Rattle.c_layout.specs.DeclarationTrees.{unit_tree}
use Rattle.c_layout.specs.declared.unit_tokens.Unit7.{Unit7}
use Rattle.c_layout.specs.declared.syntax_tree.declarations.Tree7.{Tree7}
use Rattle.c_parser_tokens.specs.Classes.{is_unsupported, terminals_after, without_left_out, judged, classified}
use Rattle.c_parser_tokens.specs.declared.terminals.Terminal.{Terminal}
use Rattle.c_parser.specs.FirstRefusals.{StopsFirst}
use Rattle.c_parser.specs.Refusals.{Refuses}
use Rattle.c_parser_theorems.specs.CompleteDeclarations.Found.{HasRoom}
use Rattle.c_parser_theorems.proofs.complete_units.Units.{stops_first, stops_never}
use Rattle.cli_units.specs.Stages.{stage_of}
use Rattle.cli_units.specs.Judging.{SettingView, IsParsed, RefusesAt, RefusesUnit}
use Rattle.cli_theorems.specs.Units.Accepted.{IsShort}
use Rattle.cli_theorems.specs.Units.GrammarRefusals.{is_of_grammar, IsFirstUnderived}
use Rattle.cli_theorems.proofs.units.Short.{terminals_short}

not_memory : (why : Fault) → stop.Refused why ≡ stop.Memory → ⊥
not_memory why is = cc

same_why : (f why : Fault) → stop.Refused why ≡ stop.Refused f → f ≡ why
same_why f why is = cc

has_room : (unit : Unit7) (ts : List Terminal) → IsShort unit → classified unit.model unit.tokens ≡ Ok ts → HasRoom 256 ts
has_room unit ts short is = let few = terminals_short unit.model unit.tokens ts is in omega arith

-- a unit with a tree is not refused by the grammar
pub never_refused : (unit : Unit7) (tree : Tree7) (why : Fault) → IsShort unit → IsParsed unit tree → Refuses (classified unit.model unit.tokens) (stop.Refused why) → ⊥
never_refused unit tree why short parsed refused =
    let unread = subst (λ (r : Result (List Terminal) Fault). Refuses r (stop.Refused why)) parsed.classes refused in
    not_memory why (stops_never unit.model unit.tokens parsed.terminals (unit_tree tree) (stop.Refused why) parsed.classes parsed (has_room unit parsed.terminals short parsed.classes) unread)

first_of : (unit : Unit7) (why : Fault) (ts : List Terminal) → classified unit.model unit.tokens ≡ Ok ts → StopsFirst ts (stop.Refused why) → IsFirstUnderived unit why
first_of unit why ts is (inl memory) = absurd (not_memory why memory)
first_of unit why ts is (inr first) = record { terminals = ts; classes = is; first = first }

by_classes : (unit : Unit7) (why : Fault) (classes : Result (List Terminal) Fault) → IsShort unit → classified unit.model unit.tokens ≡ classes → Refuses classes (stop.Refused why) → (classified unit.model unit.tokens ≡ Err why) ⊎ IsFirstUnderived unit why
by_classes unit why (Err f) short is (inl memory) = absurd (not_memory why memory)
by_classes unit why (Err f) short is (inr same) = inl (subst (λ (g : Fault). classified unit.model unit.tokens ≡ Err g) (same_why f why same) is)
by_classes unit why (Ok ts) short is unread = inr (first_of unit why ts is (stops_first ts (stop.Refused why) (has_room unit ts short is) unread))

not_of_grammar : {X : Type 0} → false ≡ true → X
not_of_grammar {X} is = absurd (cc is)

-- what the grammar refuses, it refuses by the terminals
by_grammar : (unit : Unit7) (s : SettingView) (why : Fault) (r : Refusal) → is_of_grammar r ≡ true → RefusesAt unit s why (stage_of r) → Refuses (classified unit.model unit.tokens) (stop.Refused why)
by_grammar unit s why refusal.NumberForm is refused = refused
by_grammar unit s why (refusal.Unsupported word) is refused = refused
by_grammar unit s why refusal.Syntax is refused = refused
by_grammar unit s why _ is refused = not_of_grammar is

pub refused_exactly : (unit : Unit7) (s : SettingView) (why : Fault) → IsShort unit → is_of_grammar why.refusal ≡ true → RefusesUnit unit s why → (classified unit.model unit.tokens ≡ Err why) ⊎ IsFirstUnderived unit why
refused_exactly unit s why short is refused = by_classes unit why (classified unit.model unit.tokens) short refl (by_grammar unit s why why.refusal is refused)

-- no form of a token is refused by `Syntax`
same_fault : {f g : Fault} {r : Result (List Terminal) Fault} → r ≡ Err f → r ≡ Err g → f ≡ g
same_fault {f} {g} {r} is also = cc

number_form : (r : Refusal) → refusal.NumberForm ≡ r → r ≡ refusal.Syntax → ⊥
number_form r is syntax = let h : refusal.NumberForm ≡ refusal.Syntax = is ∙ syntax in absurd (cc h)

unsupported : (word : List ℕ) (r : Refusal) → refusal.Unsupported word ≡ r → r ≡ refusal.Syntax → ⊥
unsupported word r is syntax = let h : refusal.Unsupported word ≡ refusal.Syntax = is ∙ syntax in absurd (cc h)

both_ways : {ts : List Terminal} {f : Fault} {r : Result (List Terminal) Fault} → r ≡ Ok ts → r ≡ Err f → ⊥
both_ways {ts} {f} {r} is also = let h : Ok ts ≡ Err f = sym is ∙ also in absurd (cc h)

left_out_form : (why : Fault) (ts : List Terminal) (found : Option Terminal) → without_left_out ts found ≡ Err why → why.refusal ≡ refusal.Syntax → ⊥
left_out_form why ts None is syntax = both_ways refl is
left_out_form why ts (Some t) is syntax = unsupported t.text why.refusal (ap (λ (f : Fault). f.refusal) (same_fault refl is)) syntax

form : (why : Fault) (all : Result (List Terminal) Place) → judged all ≡ Err why → why.refusal ≡ refusal.Syntax → ⊥
form why (Err at) is syntax = number_form why.refusal (ap (λ (f : Fault). f.refusal) (same_fault refl is)) syntax
form why (Ok ts) is syntax = left_out_form why ts (find (λ t. is_unsupported t.symbol) ts) is syntax

of_first : (unit : Unit7) (why : Fault) → why.refusal ≡ refusal.Syntax → (classified unit.model unit.tokens ≡ Err why) ⊎ IsFirstUnderived unit why → IsFirstUnderived unit why
of_first unit why syntax (inl is) = absurd (form why (terminals_after unit.model [] unit.tokens) is syntax)
of_first unit why syntax (inr first) = first

pub syntax_exactly : (unit : Unit7) (s : SettingView) (why : Fault) → IsShort unit → why.refusal ≡ refusal.Syntax → RefusesUnit unit s why → IsFirstUnderived unit why
syntax_exactly unit s why short syntax refused = of_first unit why syntax (refused_exactly unit s why short (ap (λ (r : Refusal). is_of_grammar r) syntax) refused)

pub refused_no_tree : (unit : Unit7) (s : SettingView) (why : Fault) (tree : Tree7) → IsShort unit → is_of_grammar why.refusal ≡ true → RefusesUnit unit s why → IsParsed unit tree → ⊥
refused_no_tree unit s why tree short is refused parsed = never_refused unit tree why short parsed (by_grammar unit s why why.refusal is refused)
