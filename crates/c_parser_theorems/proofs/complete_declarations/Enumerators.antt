-- Enumerators and tags are found.
use Rattle.std.proofs.Common.{◌≡◌, ℕ, suc, ◌+◌, ◌≤◌, Bool, true, false, List, [], ◌∷◌, ◌⊎◌, inl, inr, length, Option, Some, None, is_some, refl, arith, ap, ◌∙◌, sym}
use Rattle.c_layout.specs.SyntaxTrees.{Tree}
use Rattle.c_layout.specs.DeclarationTrees.{NameView, EnumeratorView}
use Rattle.c_parser_tokens.specs.declared.terminals.Terminal.{Terminal}
use Rattle.c_parser_tokens.specs.declared.terminals.Punctuator.TheVariants as p
use Rattle.c_parser_tokens.specs.declared.terminals.Symbol.{Symbol}
use Rattle.c_parser_tokens.specs.declared.terminals.Symbol.TheVariants as symbol
use Rattle.c_parser_expression_grammar.specs.Expressions.{Derives, height_of}
use Rattle.c_parser_expression_grammar.specs.Fronts.{first_symbol, behind_first, is_identifier_first, IsSign, IsName}
use Rattle.c_parser_declarations.specs.Grammar.Lists.{highest}
use Rattle.c_parser_declarations.specs.Grammar.Specifiers.{Tag, Value, IsEnumerator, value_height, enumerator_height, Enumerators}
use Rattle.c_parser_theorems.specs.UniqueExpressions.Endings.{EndsBefore}
use Rattle.c_parser_theorems.proofs.unique_expressions.Levels.{below}
use Rattle.c_parser_expression_grammar.specs.Readings.{is_right_brace}
use Rattle.c_parser_expression_grammar.specs.TypeNameReaders.{names_of}
use Rattle.c_parser_theorems.proofs.complete_expressions.Lifts.{found_inside}
use Rattle.c_parser_theorems.proofs.complete_expressions.Shrinking.{length_behind}
use Rattle.c_parser_theorems.proofs.complete_expressions.Takes.{takes}
use Rattle.c_parser_theorems.proofs.complete_expressions.TypeNames.{all_expressions_found}
use Rattle.c_parser_declarations.specs.Grammar.Items.{item_of}
use Rattle.c_parser_declarations.specs.Grammar.DeclaratorReaders.{name_at}
use Rattle.c_parser_declarations.specs.Grammar.SpecifierReaders.{optional_tag, is_assign, enumerator_named, enumerator, enumerators}
use Rattle.c_parser_theorems.proofs.complete_declarations.Declarators.{name_is}
use Rattle.c_parser_theorems.proofs.complete_declarations.Lists.{ReadsItem, all_read, Row, listed_row, trailed_row, row_few, braced_read}
use Rattle.c_parser_theorems.proofs.complete_declarations.Named.{name_takes}

-- ---- tags

pub identifier_first : {known : List (List ℕ)} (n : NameView) (ts rest : List Terminal) → IsName known n.at n.text ts rest → is_identifier_first known ts ≡ true
identifier_first n ts rest is = rw (is.symbol, is.other) refl

tag_named : (known : List (List ℕ)) (n : NameView) (ts rest : List Terminal) → IsName known n.at n.text ts rest → optional_tag known ts ≡ record { tag = Some n; rest = rest }
tag_named known n ts rest is =
    let yes = identifier_first n ts rest is in
    let same = name_is known n ts rest is in
    rw (yes, is.behind, same) refl

-- a tag in front of a `{`, or none
pub tag_open : (known : List (List ℕ)) (tag : Option NameView) (ts rest opened : List Terminal) → Tag known tag ts rest → IsSign p.LeftBrace rest opened → optional_tag known ts ≡ record { tag = tag; rest = rest }
tag_open known None ts rest opened same opens =
    let here : rest ≡ ts = same in
    let opens-at : IsSign p.LeftBrace ts opened = rw here at opens in
    let off : is_identifier_first known ts ≡ false = rw opens-at.symbol refl in
    rw (off, here) refl
tag_open known (Some n) ts rest opened is opens = tag_named known n ts rest is

pub tag_read : (known : List (List ℕ)) (tag : Option NameView) (ts rest : List Terminal) → is_some tag ≡ true → Tag known tag ts rest → optional_tag known ts ≡ record { tag = tag; rest = rest }
tag_read known None ts rest some is = absurd (cc some)
tag_read known (Some n) ts rest some is = tag_named known n ts rest is

pub tag_shrinks : (known : List (List ℕ)) (tag : Option NameView) (ts rest : List Terminal) → Tag known tag ts rest → length rest ≤ length ts
tag_shrinks known None ts rest same = let here : rest ≡ ts = same in rw here (omega arith)
tag_shrinks known (Some n) ts rest is = let h = name_takes n ts rest is in omega arith

-- ---- enumerators

-- behind an enumerator stands a comma or the `}`
abbrev is_comma_or_brace : Symbol → Bool
is_comma_or_brace (symbol.Punctuator p.Comma) = true
is_comma_or_brace (symbol.Punctuator p.RightBrace) = true
is_comma_or_brace _ = false

abbrev pub EnumeratorEnds : List Terminal → Type 0
EnumeratorEnds rest = is_comma_or_brace (first_symbol rest) ≡ true

ends_low : (x : Symbol) → is_comma_or_brace x ≡ true → (x ≡ symbol.Punctuator p.Comma) ⊎ (x ≡ symbol.Punctuator p.RightBrace)
ends_low (symbol.Punctuator p.Comma) is = inl refl
ends_low (symbol.Punctuator p.RightBrace) is = inr refl
ends_low _ is = absurd (cc is)

ends_value : (rest : List Terminal) → EnumeratorEnds rest → EndsBefore 2 rest
ends_value rest ends = by (ends_low (first_symbol rest) ends)
  where
    by : (first_symbol rest ≡ symbol.Punctuator p.Comma) ⊎ (first_symbol rest ≡ symbol.Punctuator p.RightBrace) → EndsBefore 2 rest
    by (inl at) = rw at (omega arith)
    by (inr at) = rw at (omega arith)

ends_assign : (x : Symbol) → is_comma_or_brace x ≡ true → is_assign x ≡ false
ends_assign (symbol.Punctuator p.Assign) is = absurd (cc is)
ends_assign _ is = refl

value_read : (known : List (List ℕ)) (b : ℕ) (name : NameView) (v : Option Tree) (ts rest : List Terminal) → Value known v ts rest → EnumeratorEnds rest → value_height v ≤ b →
    enumerator_named known b name ts ≡ Some (item_of (record { name = name; value = v }) (value_height v) rest)
value_read known b name None ts rest same ends small =
    let here : rest ≡ ts = same in
    let off : is_assign (first_symbol ts) ≡ false = rw here at (ends_assign (first_symbol rest) ends) in
    rw (off, here) refl
value_read known b name (Some e) ts rest (a, sign, d) ends small =
    let from : Derives e known 2 (behind_first ts) rest = rw sign.behind at d in
    let one = (found_inside (names_of known) known e (all_expressions_found known e) b).conditional (behind_first ts) rest from (ends_value rest ends) (omega arith) in
    let fits = below (height_of e) b (omega arith) in
    rw (sign.symbol, one, fits) refl

pub enumerator_found : (known : List (List ℕ)) (b : ℕ) (e : EnumeratorView) → ReadsItem (IsEnumerator known) EnumeratorEnds enumerator_height (suc b) (enumerator known b) e
enumerator_found known b e ts rest is ends small =
    let yes = identifier_first e.name ts is.behind is.name in
    let from : Value known e.value (behind_first ts) rest = rw is.name.behind at is.value in
    let two = value_read known b (name_at ts) e.value (behind_first ts) rest from ends (omega arith) in
    let same = name_is known e.name ts is.behind is.name in
    let whole : record { name = name_at ts; value = e.value } ≡ e = λ i. record { name = sym same i; value = e.value } in
    rw yes (two ∙ ap (λ (v : EnumeratorView). Some (item_of v (enumerator_height e) rest)) whole)

value_shrinks : (known : List (List ℕ)) (v : Option Tree) (ts rest : List Terminal) → Value known v ts rest → length rest ≤ length ts
value_shrinks known None ts rest same = let here : rest ≡ ts = same in rw here (omega arith)
value_shrinks known (Some e) ts rest (a, sign, d) = let one = length_behind ts a sign in let two = takes e known 2 a rest d in omega arith

enumerator_takes : (known : List (List ℕ)) (e : EnumeratorView) (ts rest : List Terminal) → IsEnumerator known e ts rest → length rest + 1 ≤ length ts
enumerator_takes known e ts rest is = let one = name_takes e.name ts is.behind is.name in let two = value_shrinks known e.value is.behind rest is.value in omega arith

enumerator_begins : (known : List (List ℕ)) (e : EnumeratorView) (ts rest : List Terminal) → IsEnumerator known e ts rest → is_right_brace (first_symbol ts) ≡ false
enumerator_begins known e ts rest is = rw is.name.symbol refl

enumerators_row : (known : List (List ℕ)) (es : List EnumeratorView) (ts rest : List Terminal) → Enumerators known es ts rest → Row (IsEnumerator known) es ts rest
enumerators_row known [] ts rest d = absurd d
enumerators_row known (e ∷ es) ts rest (inl d) = listed_row (IsEnumerator known) (e ∷ es) ts rest d
enumerators_row known (e ∷ es) ts rest (inr d) = trailed_row (IsEnumerator known) e es ts rest d

pub enumerators_few : (known : List (List ℕ)) (es : List EnumeratorView) (ts rest : List Terminal) → Enumerators known es ts rest → length es + length rest ≤ length ts
enumerators_few known es ts rest d = row_few (IsEnumerator known) (enumerator_takes known) es ts rest (enumerators_row known es ts rest d)

before_comma : (a c : List Terminal) → IsSign p.Comma a c → EnumeratorEnds a
before_comma a c comma = rw comma.symbol refl

before_brace : (a c : List Terminal) → IsSign p.RightBrace a c → EnumeratorEnds a
before_brace a c shut = rw shut.symbol refl

pub enumerators_found : (known : List (List ℕ)) (b : ℕ) (es : List EnumeratorView) (ts last rest : List Terminal) → Enumerators known es ts last → IsSign p.RightBrace last rest → highest enumerator_height es ≤ b →
    enumerators known b ts ≡ Some (item_of es (highest enumerator_height es) rest)
enumerators_found known b es ts last rest d shut small =
    let few = enumerators_few known es ts last d in
    braced_read (IsEnumerator known) EnumeratorEnds enumerator_height (suc b) (enumerator known b) before_comma before_brace (enumerator_begins known) es (all_read (IsEnumerator known) EnumeratorEnds enumerator_height (suc b) (enumerator known b) (enumerator_found known b) es) (length ts) ts last rest (enumerators_row known es ts last d) shut (omega arith) (omega arith)
