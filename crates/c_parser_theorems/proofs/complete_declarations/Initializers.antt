-- Initializers are found.
use Rattle.std.proofs.Common.{◌≡◌, ℕ, zero, suc, ◌+◌, ◌≤◌, true, false, max, List, [], ◌∷◌, ◌⊎◌, inl, inr, length, None, refl, arith, ap, ◌∙◌}
use Rattle.c_layout.specs.SyntaxTrees.{Tree}
use Rattle.c_layout.specs.DeclarationTrees.{InitializerTree, InitializerTrees, Single, Braces, NoInitializer, MoreInitializers, initializer_trees}
use Rattle.c_parser_tokens.specs.declared.terminals.Terminal.{Terminal}
use Rattle.c_parser_tokens.specs.declared.terminals.Punctuator.TheVariants as p
use Rattle.c_parser_expression_grammar.specs.Fronts.{first_symbol, behind_first, IsSign}
use Rattle.c_parser_expression_grammar.specs.Spans.{Span, Separated, Trailed}
use Rattle.c_parser_declarations.specs.Grammar.Initializers.{DeriveInitializer, DeriveItems, has_item, initializer_height, items_height}
use Rattle.c_parser_declarations.specs.Grammar.Lists.{highest}
use Rattle.c_parser_theorems.proofs.unique_expressions.Levels.{ends_at, below}
use Rattle.c_parser_expression_grammar.specs.Readings.{is_right_brace}
use Rattle.c_parser_theorems.proofs.complete_expressions.Begins.{no_left_brace, no_right_brace}
use Rattle.c_parser_theorems.proofs.complete_expressions.Shrinking.{length_behind}
use Rattle.c_parser_theorems.proofs.complete_expressions.TypeNames.{all_expressions_found}
use Rattle.c_parser_theorems.proofs.complete_expressions.Takes.{takes}
use Rattle.c_parser_theorems.specs.CompleteDeclarations.Found.{InitializerEnds}
use Rattle.c_parser_declarations.specs.Grammar.Items.{Item}
use Rattle.c_parser_declarations.specs.Grammar.InitializerReaders.{initializer_by, initializer}
use Rattle.c_parser_theorems.proofs.complete_declarations.Lists.{ReadsItem, AllRead, Row, braced_read}

abbrev pub IsInitializer : List (List ℕ) → InitializerTree → List Terminal → List Terminal → Type 0
IsInitializer known i ts rest = DeriveInitializer i known ts rest

abbrev list_of : InitializerTrees → List InitializerTree
list_of NoInitializer = []
list_of (MoreInitializers i more) = i ∷ list_of more

list_back : (items : InitializerTrees) → initializer_trees (list_of items) ≡ items
list_back NoInitializer = refl
list_back (MoreInitializers i more) = ap (MoreInitializers i) (list_back more)

list_height : (items : InitializerTrees) → highest initializer_height (list_of items) ≡ items_height items
list_height NoInitializer = refl
list_height (MoreInitializers i more) = ap (λ (n : ℕ). max (initializer_height i) n) (list_height more)

-- ---- lists by their spans

none_left : (known : List (List ℕ)) (items : InitializerTrees) → DeriveItems items known [] → list_of items ≡ []
none_left known NoInitializer none = refl
none_left known (MoreInitializers i more) (s, others, parts, d, each) = absurd (cc parts)

separated_row : (known : List (List ℕ)) (i : InitializerTree) (more : InitializerTrees) (spans : List Span) (ts rest : List Terminal) → DeriveItems (MoreInitializers i more) known spans → Separated spans ts rest → Row (IsInitializer known) (list_of (MoreInitializers i more)) ts rest
separated_row known i NoInitializer spans ts rest (s, others, parts, d, last) sep =
    let only : others ≡ [] = last in
    let one : Separated (s ∷ []) ts rest = rw only at (rw parts at sep) in
    let from : IsInitializer known i ts s.to = rw one.0 d in
    (s.to, from, inl one.1)
separated_row known i (MoreInitializers j more) spans ts rest (s, others, parts, d, (next, further, parts-of, e, each)) sep =
    let two : Separated (s ∷ (next ∷ further)) ts rest = rw parts-of at (rw parts at sep) in
    let from : IsInitializer known i ts s.to = rw two.1 d in
    (s.to, two.0, from, two.2, separated_row known j more (next ∷ further) two.0 rest (next, further, refl, e, each) two.3)

trailed_row : (known : List (List ℕ)) (i : InitializerTree) (more : InitializerTrees) (spans : List Span) (ts rest : List Terminal) → DeriveItems (MoreInitializers i more) known spans → Trailed spans ts rest → Row (IsInitializer known) (list_of (MoreInitializers i more)) ts rest
trailed_row known i NoInitializer spans ts rest (s, others, parts, d, last) trail =
    let only : others ≡ [] = last in
    let one : Trailed (s ∷ []) ts rest = rw only at (rw parts at trail) in
    let from : IsInitializer known i ts s.to = rw one.1 d in
    let end : rest ≡ one.0 = one.3 in
    (s.to, from, inr (rw end one.2))
trailed_row known i (MoreInitializers j more) spans ts rest (s, others, parts, d, (next, further, parts-of, e, each)) trail =
    let two : Trailed (s ∷ (next ∷ further)) ts rest = rw parts-of at (rw parts at trail) in
    let from : IsInitializer known i ts s.to = rw two.1 d in
    (s.to, two.0, from, two.2, trailed_row known j more (next ∷ further) two.0 rest (next, further, refl, e, each) two.3)

row_of : (known : List (List ℕ)) (items : InitializerTrees) (spans : List Span) (ts rest : List Terminal) → has_item items ≡ true → DeriveItems items known spans → (Separated spans ts rest ⊎ Trailed spans ts rest) → Row (IsInitializer known) (list_of items) ts rest
row_of known NoInitializer spans ts rest some each list = absurd (cc some)
row_of known (MoreInitializers i more) spans ts rest some each (inl sep) = separated_row known i more spans ts rest each sep
row_of known (MoreInitializers i more) spans ts rest some each (inr trail) = trailed_row known i more spans ts rest each trail

-- ---- what initializers take, and begin with

abbrev AllTake : List (List ℕ) → List InitializerTree → Type 0
AllTake known [] = Unit {0}
AllTake known (i ∷ is) = ((ts rest : List Terminal) → DeriveInitializer i known ts rest → length rest + 1 ≤ length ts) × AllTake known is

row_shrinks : (known : List (List ℕ)) (xs : List InitializerTree) → AllTake known xs → (ts rest : List Terminal) → Row (IsInitializer known) xs ts rest → length xs + length rest ≤ length ts
row_shrinks known [] all ts rest d = absurd d
row_shrinks known (x ∷ []) (take, none) ts rest (a, one, inl same) = let h = take ts a one in rw same (omega arith)
row_shrinks known (x ∷ []) (take, none) ts rest (a, one, inr comma) = let h = take ts a one in let c = length_behind a rest comma in omega arith
row_shrinks known (x ∷ (y ∷ more)) (take, all) ts rest (a, b, one, comma, others) = let h = take ts a one in let c = length_behind a b comma in let t = row_shrinks known (y ∷ more) all b rest others in omega arith

mutual
  pub initializer_takes : (known : List (List ℕ)) (i : InitializerTree) (ts rest : List Terminal) → DeriveInitializer i known ts rest → length rest + 1 ≤ length ts
  initializer_takes known (Single e) ts rest d = takes e known 1 ts rest d
  initializer_takes known (Braces at items) ts rest (place, some, spans, a, b, opens, each, list, shut) =
      let one = length_behind ts a opens in
      let two = row_shrinks known (list_of items) (items_take known items) a b (row_of known items spans a b some each list) in
      let three = length_behind b rest shut in
      omega arith

  items_take : (known : List (List ℕ)) (items : InitializerTrees) → AllTake known (list_of items)
  items_take known NoInitializer = tt
  items_take known (MoreInitializers i more) = (initializer_takes known i, items_take known more)

initializer_begins : (known : List (List ℕ)) (i : InitializerTree) (ts rest : List Terminal) → DeriveInitializer i known ts rest → is_right_brace (first_symbol ts) ≡ false
initializer_begins known (Single e) ts rest d = no_right_brace e known 1 ts rest d
initializer_begins known (Braces at items) ts rest (place, some, spans, a, b, opens, each, list, shut) = rw opens.symbol refl

-- ---- what is found

abbrev pub IsInitializerFound : List (List ℕ) → InitializerTree → Type 0
IsInitializerFound known i = (b : ℕ) → ReadsItem (IsInitializer known) InitializerEnds initializer_height (suc b) (initializer known b) i

abbrev inside : List (List ℕ) → ℕ → Item InitializerTree
inside known zero = λ ts. None
inside known (suc b) = initializer known b

by_inside : (known : List (List ℕ)) (b : ℕ) (ts : List Terminal) → initializer known b ts ≡ initializer_by known b (inside known b) ts
by_inside known zero ts = refl
by_inside known (suc b) ts = refl

inside_found : (known : List (List ℕ)) (i : InitializerTree) → IsInitializerFound known i → (b : ℕ) → ReadsItem (IsInitializer known) InitializerEnds initializer_height b (inside known b) i
inside_found known i found zero ts rest d ends small = absurd (omega arith)
inside_found known i found (suc b) ts rest d ends small = found b ts rest d ends small

single_found : (known : List (List ℕ)) (e : Tree) → IsInitializerFound known (Single e)
single_found known e b ts rest d ends small =
    let off = no_left_brace e known 1 ts rest d in
    let one = (all_expressions_found known e b).assignment ts rest d ends small in
    by_inside known b ts ∙ rw (off, one) refl

before_comma : (a c : List Terminal) → IsSign p.Comma a c → InitializerEnds a
before_comma a c comma = ends_at 1 comma (omega arith)

before_brace : (a c : List Terminal) → IsSign p.RightBrace a c → InitializerEnds a
before_brace a c shut = ends_at 1 shut (omega arith)

mutual
  pub initializer_found : (known : List (List ℕ)) (i : InitializerTree) → IsInitializerFound known i
  initializer_found known (Single e) b ts rest d ends small = single_found known e b ts rest d ends small
  initializer_found known (Braces at items) b ts rest (place, some, spans, a, c, opens, each, list, shut) ends small =
      let row : Row (IsInitializer known) (list_of items) (behind_first ts) c = rw opens.behind at (row_of known items spans a c some each list) in
      let few = row_shrinks known (list_of items) (items_take known items) (behind_first ts) c row in
      let high = list_height items in
      let one = braced_read (IsInitializer known) InitializerEnds initializer_height b (inside known b) before_comma before_brace (initializer_begins known) (list_of items) (items_found known items b) (length (behind_first ts)) (behind_first ts) c rest row shut (omega arith) (omega arith) in
      let fits = below (highest initializer_height (list_of items)) b (omega arith) in
      let back = list_back items in
      by_inside known b ts ∙ (rw (opens.symbol, one, fits, back, high, place) refl)

  items_found : (known : List (List ℕ)) (items : InitializerTrees) (b : ℕ) → AllRead (IsInitializer known) InitializerEnds initializer_height b (inside known b) (list_of items)
  items_found known NoInitializer b = tt
  items_found known (MoreInitializers i more) b = (inside_found known i (initializer_found known i) b, items_found known more b)
