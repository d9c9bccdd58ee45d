-- Words of specifiers: enumerations.
use Rattle.std.proofs.Common.{◌≡◌, ℕ, ◌+◌, ◌≤◌, true, List, Option, Some, None, is_some, refl, ap, ◌∙◌, arith}
use Rattle.cc_base.specs.declared.diagnostics.Place.{Place}
use Rattle.c_layout.specs.SyntaxTrees.{Tree}
use Rattle.c_layout.specs.DeclarationTrees.{NameView, EnumeratorView, SpecTree, EnumTag, EnumBody}
use Rattle.c_parser_tokens.specs.declared.terminals.Terminal.{Terminal}
use Rattle.c_parser_tokens.specs.declared.terminals.Keyword.TheVariants as k
use Rattle.c_parser_tokens.specs.declared.terminals.Punctuator.TheVariants as p
use Rattle.c_parser_expression_grammar.specs.Findings.{Found}
use Rattle.c_parser_expression_grammar.specs.Fronts.{first_place, IsSign, IsWord, IsName}
use Rattle.c_parser_declarations.specs.Grammar.Findings.{FoundEnumerator, FoundEnumerators, FoundWord}
use Rattle.c_parser_declarations.specs.Grammar.Specifiers.{Tag}

pub name_only : {known : List (List ℕ)} (budget : ℕ) (n : NameView) {ts a rest : List Terminal} → IsName known n.at n.text ts a → rest ≡ a → FoundEnumerator known budget (record { name = n; value = None }) 0 ts rest
name_only {known} budget n {ts} {a} {rest} name same = record { derives = record { behind = a; name = name; value = same }; height = refl; within = omega arith }

pub with_value : {known : List (List ℕ)} {budget b g h : ℕ} {e : EnumeratorView} (n : NameView) {v : Tree} {ts a c rest : List Terminal} →
    IsName known n.at n.text ts a → IsSign p.Assign a c → Found known 2 b v g c rest → e ≡ record { name = n; value = Some v } → h ≡ g + 1 → h ≤ budget → FoundEnumerator known budget e h ts rest
with_value {known} {budget} {b} {g} {h} {e} n {v} {ts} {a} {c} {rest} name equals f e-is h-is within =
    rw e-is (record {
      derives = record { behind = a; name = name; value = (c, equals, f.derives) };
      height = h-is ∙ ap (λ (m : ℕ). m + 1) f.height;
      within = within;
    })

pub enum_body : {known : List (List ℕ)} {budget b g h : ℕ} {w : SpecTree} {at : Place} (tag : Option NameView) {es : List EnumeratorView} {ts a c d rest : List Terminal} →
    at ≡ first_place ts → IsWord k.Enum ts a → Tag known tag a c → IsSign p.LeftBrace c d → FoundEnumerators known b es g d rest → w ≡ EnumBody at tag es → h ≡ g + 1 → h ≤ budget → FoundWord known budget w h ts rest
enum_body {known} {budget} {b} {g} {h} {w} {at} tag {es} {ts} {a} {c} {d} {rest} place word tagged opens body w-is h-is within =
    rw w-is (record {
      derives = (place, a, c, d, body.last, word, tagged, opens, body.derive, body.closes);
      height = h-is ∙ ap (λ (n : ℕ). n + 1) body.high_is;
      within = within;
    })

pub enum_tag : {known : List (List ℕ)} {budget h : ℕ} {w : SpecTree} {at : Place} (tag : Option NameView) {ts a c rest : List Terminal} →
    at ≡ first_place ts → IsWord k.Enum ts a → Tag known tag a c → is_some tag ≡ true → rest ≡ c → w ≡ EnumTag at tag → h ≡ 1 → h ≤ budget → FoundWord known budget w h ts rest
enum_tag {known} {budget} {h} {w} {at} tag {ts} {a} {c} {rest} place word tagged some same w-is h-is within =
    rw (w-is, same) (record { derives = (place, some, a, word, tagged); height = h-is; within = within })
