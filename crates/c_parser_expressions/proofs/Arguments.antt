-- The arguments of a call, read one after another.
use Rattle.std.proofs.Common.{◌≡◌, ℕ, List, [], ◌∷◌, ◌++◌, max, refl, subst, arith}
use Rattle.c_layout.specs.SyntaxTrees.{Tree, trees}
use Rattle.c_parser_tokens.specs.declared.terminals.Terminal.{Terminal}
use Rattle.c_parser_tokens.specs.declared.terminals.Punctuator.TheVariants as p
use Rattle.c_parser_expression_grammar.specs.Expressions.{Derives, DeriveEach, height_of, heights_of}
use Rattle.c_parser_expression_grammar.specs.Findings.{Found, FoundSome, FoundArguments}
use Rattle.c_parser_expression_grammar.specs.Fronts.{IsSign}
use Rattle.c_parser_expression_grammar.specs.TypeNames.{greatest}
use Rattle.c_parser_expressions.proofs.Listing.{trailed_more, separated_last, each_append, heights_append, greatest_append}

pub none_read : (known : List (List ℕ)) (b : ℕ) (ts : List Terminal) → FoundSome known b [] 0 ts ts
none_read known b ts = record { spans = []; each = refl; trailed = refl; height = refl; within = omega arith }

one : (e : Tree) (known : List (List ℕ)) (l : ℕ) (a c : List Terminal) → Derives e known l a c → DeriveEach (trees (e ∷ [])) known l (record { from = a; to = c } ∷ [])
one e known l a c d = (record { from = a; to = c }, [], refl, d, refl)

tall : (es : List Tree) (e : Tree) (g k : ℕ) → g ≡ greatest (heights_of (trees es)) → k ≡ height_of e → max g k ≡ greatest (heights_of (trees (es ++ (e ∷ []))))
tall es e g k g-is k-is =
    let parts : heights_of (trees (es ++ (e ∷ []))) ≡ heights_of (trees es) ++ (height_of e ∷ []) = heights_append es (e ∷ []) in
    let whole : greatest (heights_of (trees es) ++ (height_of e ∷ [])) ≡ max (greatest (heights_of (trees es))) (max (height_of e) 0) = greatest_append (heights_of (trees es)) (height_of e ∷ []) in
    let alone : max (height_of e) 0 ≡ height_of e = omega arith in
    rw (g-is, k-is, parts, whole, alone)

pub one_more : {known : List (List ℕ)} {b g h k : ℕ} {es fs : List Tree} {e : Tree} {ts a c rest : List Terminal} →
    FoundSome known b es g ts a → Found known 1 b e k a c → IsSign p.Comma c rest → fs ≡ es ++ (e ∷ []) → h ≡ max g k → FoundSome known b fs h ts rest
one_more {known} {b} {g} {h} {k} {es} {fs} {e} {ts} {a} {c} {rest} so next comma fs-is h-is =
    rw (fs-is, h-is) (record {
      spans = so.spans ++ (record { from = a; to = c } ∷ []);
      each = each_append es (e ∷ []) known 1 so.spans (record { from = a; to = c } ∷ []) so.each (one e known 1 a c next.derives);
      trailed = trailed_more so.spans ts a c rest so.trailed comma;
      height = tall es e g k so.height next.height;
      within = omega (arith, so.within, next.within);
    })

pub last_one : {known : List (List ℕ)} {b g h k : ℕ} {es fs : List Tree} {e : Tree} {ts a c d rest : List Terminal} →
    FoundSome known b es g ts a → Found known 1 b e k a c → d ≡ c → IsSign p.RightParenthesis d rest → fs ≡ es ++ (e ∷ []) → h ≡ max g k → FoundArguments known b fs h ts rest
last_one {known} {b} {g} {h} {k} {es} {fs} {e} {ts} {a} {c} {d} {rest} so next same closes fs-is h-is =
    rw (fs-is, h-is) (record {
      spans = so.spans ++ (record { from = a; to = c } ∷ []);
      last = c;
      each = each_append es (e ∷ []) known 1 so.spans (record { from = a; to = c } ∷ []) so.each (one e known 1 a c next.derives);
      separated = separated_last so.spans ts a c so.trailed;
      closes = subst (λ (at : List Terminal). IsSign p.RightParenthesis at rest) same closes;
      height = tall es e g k so.height next.height;
      within = omega (arith, so.within, next.within);
    })
