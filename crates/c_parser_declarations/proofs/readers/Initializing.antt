-- Initializers in braces, read one after another.
use Rattle.std.proofs.Common.{◌≡◌, ℕ, ◌+◌, ◌≤◌, true, List, [], ◌∷◌, ◌++◌, max, inl, inr, refl, sym, subst, ap, ◌∙◌, arith}
use Rattle.cc_base.specs.declared.diagnostics.Place.{Place}
use Rattle.c_layout.specs.SyntaxTrees.{Tree}
use Rattle.c_layout.specs.DeclarationTrees.{InitializerTree, Single, Braces, initializer_trees}
use Rattle.c_parser_tokens.specs.declared.terminals.Terminal.{Terminal}
use Rattle.c_parser_tokens.specs.declared.terminals.Punctuator.TheVariants as p
use Rattle.c_parser_expression_grammar.specs.Findings.{Found}
use Rattle.c_parser_expression_grammar.specs.Fronts.{first_place, IsSign}
use Rattle.c_parser_expression_grammar.specs.Spans.{Span}
use Rattle.c_parser_expressions.proofs.Listing.{trailed_more, separated_last}
use Rattle.c_parser_declarations.specs.Grammar.Findings.{FoundInitializer, FoundSome, FoundBraced}
use Rattle.c_parser_declarations.specs.Grammar.Initializers.{DeriveInitializer, DeriveItems, initializer_height, items_height, has_item}

pub one_value : {known : List (List ℕ)} {budget h : ℕ} {i : InitializerTree} {e : Tree} {ts rest : List Terminal} → Found known 1 budget e h ts rest → i ≡ Single e → FoundInitializer known budget i h ts rest
one_value {known} {budget} {h} {i} {e} {ts} {rest} f i-is = rw i-is (record { derives = f.derives; height = f.height; within = f.within })

pub in_braces : {known : List (List ℕ)} {budget b g h : ℕ} {i : InitializerTree} {at : Place} {items : List InitializerTree} {ts a rest : List Terminal} →
    at ≡ first_place ts → IsSign p.LeftBrace ts a → FoundBraced known b items g a rest → i ≡ Braces at (initializer_trees items) → h ≡ g + 1 → h ≤ budget → FoundInitializer known budget i h ts rest
in_braces {known} {budget} {b} {g} {h} {i} {at} {items} {ts} {a} {rest} place opens body i-is h-is within =
    rw i-is (record {
      derives = (place, body.some, body.parts, a, body.last, opens, body.each, body.shape, body.closes);
      height = h-is ∙ ap (λ (n : ℕ). n + 1) body.height;
      within = within;
    })

each_more : (is : List InitializerTree) (i : InitializerTree) (known : List (List ℕ)) (spans : List Span) (a c : List Terminal) →
    DeriveItems (initializer_trees is) known spans → DeriveInitializer i known a c → DeriveItems (initializer_trees (is ++ (i ∷ []))) known (spans ++ (record { from = a; to = c } ∷ []))
each_more [] i known spans a c d one = subst (λ (ss : List Span). DeriveItems (initializer_trees (i ∷ [])) known (ss ++ (record { from = a; to = c } ∷ []))) (sym d) (record { from = a; to = c }, [], refl, one, refl)
each_more (j ∷ js) i known spans a c d one = (d.0, d.1 ++ (record { from = a; to = c } ∷ []), ap (λ (ss : List Span). ss ++ (record { from = a; to = c } ∷ [])) d.2, d.3, each_more js i known d.1 a c d.4 one)

tall : (is : List InitializerTree) (i : InitializerTree) → items_height (initializer_trees (is ++ (i ∷ []))) ≡ max (items_height (initializer_trees is)) (initializer_height i)
tall [] i = omega arith
tall (j ∷ js) i = let inner : items_height (initializer_trees (js ++ (i ∷ []))) ≡ max (items_height (initializer_trees js)) (initializer_height i) = tall js i in omega (arith, inner)

some_item : (is : List InitializerTree) (i : InitializerTree) → has_item (initializer_trees (is ++ (i ∷ []))) ≡ true
some_item [] i = refl
some_item (j ∷ js) i = refl

high : (is : List InitializerTree) (i : InitializerTree) (g h k : ℕ) → g ≡ items_height (initializer_trees is) → k ≡ initializer_height i → h ≡ max g k → h ≡ items_height (initializer_trees (is ++ (i ∷ [])))
high is i g h k g-is k-is h-is = rw (tall is i, h-is, g-is, k-is)

pub one_more : {known : List (List ℕ)} {budget g h k : ℕ} {is js : List InitializerTree} {i : InitializerTree} {ts a c rest : List Terminal} →
    FoundSome known budget is g ts a → FoundInitializer known budget i k a c → IsSign p.Comma c rest → js ≡ is ++ (i ∷ []) → h ≡ max g k → FoundSome known budget js h ts rest
one_more {known} {budget} {g} {h} {k} {is} {js} {i} {ts} {a} {c} {rest} so one comma js-is h-is =
    rw js-is (record {
      parts = so.parts ++ (record { from = a; to = c } ∷ []);
      each = each_more is i known so.parts a c so.each one.derives;
      trailed = trailed_more so.parts ts a c rest so.trailed comma;
      height = high is i g h k so.height one.height h-is;
      within = omega (arith, h-is, so.within, one.within);
    })

pub last_one : {known : List (List ℕ)} {budget g h k : ℕ} {is js : List InitializerTree} {i : InitializerTree} {ts a c d rest : List Terminal} →
    FoundSome known budget is g ts a → FoundInitializer known budget i k a c → d ≡ c → IsSign p.RightBrace d rest → js ≡ is ++ (i ∷ []) → h ≡ max g k → FoundBraced known budget js h ts rest
last_one {known} {budget} {g} {h} {k} {is} {js} {i} {ts} {a} {c} {d} {rest} so one same closes js-is h-is =
    rw js-is (record {
      parts = so.parts ++ (record { from = a; to = c } ∷ []);
      last = c;
      some = some_item is i;
      each = each_more is i known so.parts a c so.each one.derives;
      shape = inl (separated_last so.parts ts a c so.trailed);
      closes = subst (λ (at : List Terminal). IsSign p.RightBrace at rest) same closes;
      height = high is i g h k so.height one.height h-is;
      within = omega (arith, h-is, so.within, one.within);
    })

pub last_comma : {known : List (List ℕ)} {budget g h k : ℕ} {is js : List InitializerTree} {i : InitializerTree} {ts a c d rest : List Terminal} →
    FoundSome known budget is g ts a → FoundInitializer known budget i k a c → IsSign p.Comma c d → IsSign p.RightBrace d rest → js ≡ is ++ (i ∷ []) → h ≡ max g k → FoundBraced known budget js h ts rest
last_comma {known} {budget} {g} {h} {k} {is} {js} {i} {ts} {a} {c} {d} {rest} so one comma closes js-is h-is =
    rw js-is (record {
      parts = so.parts ++ (record { from = a; to = c } ∷ []);
      last = d;
      some = some_item is i;
      each = each_more is i known so.parts a c so.each one.derives;
      shape = inr (trailed_more so.parts ts a c d so.trailed comma);
      closes = closes;
      height = high is i g h k so.height one.height h-is;
      within = omega (arith, h-is, so.within, one.within);
    })
