-- Jumps and expression statements.
use Rattle.std.proofs.Common.{◌≡◌, ℕ, ◌+◌, ◌≤◌, true, false, List, Option, Some, None, refl, sym, subst, ap, ◌∙◌, arith}
use Rattle.cc_base.specs.declared.diagnostics.Place.{Place}
use Rattle.c_layout.specs.SyntaxTrees.{Tree}
use Rattle.c_layout.specs.DeclarationTrees.{NameView, StatementTree, Expression, Goto, Continue, Break, Return}
use Rattle.c_parser_tokens.specs.declared.terminals.Terminal.{Terminal}
use Rattle.c_parser_tokens.specs.declared.terminals.Keyword.TheVariants as k
use Rattle.c_parser_tokens.specs.declared.terminals.Punctuator.TheVariants as p
use Rattle.c_parser_expression_grammar.specs.Findings.{Found}
use Rattle.c_parser_expression_grammar.specs.Fronts.{first_place, IsSign, IsWord, IsName}
use Rattle.c_parser.specs.Findings.{FoundMaybe, FoundStatement}
use Rattle.c_parser.specs.Statements.{is_statement, is_open, DeriveStatement, statement_height}

-- a statement that takes no `else`
pub shut : {known : List (List ℕ)} {budget h : ℕ} (s : StatementTree) {v : StatementTree} {ts rest : List Terminal} →
    v ≡ s → is_statement s ≡ true → is_open s ≡ false → DeriveStatement s known ts rest → h ≡ statement_height s → h ≤ budget → FoundStatement known budget v h ts rest
shut {known} {budget} {h} s {v} {ts} {rest} v-is statement closed derives height within =
    subst (λ (w : StatementTree). FoundStatement known budget w h ts rest) (sym v-is) (record {
      derives = derives;
      statement = statement;
      stops = λ (open-is : is_open s ≡ true). absurd cc;
      height = height;
      within = within;
    })

pub goto_found : {known : List (List ℕ)} {budget h : ℕ} {s : StatementTree} {at : Place} (name : NameView) {ts a b rest : List Terminal} →
    at ≡ first_place ts → IsWord k.Goto ts a → IsName known name.at name.text a b → IsSign p.Semicolon b rest → s ≡ Goto at name → h ≡ 1 → h ≤ budget → FoundStatement known budget s h ts rest
goto_found {known} {budget} {h} {s} {at} name {ts} {a} {b} {rest} place word named ends s-is h-is within =
    shut (Goto at name) s-is refl refl (place, a, b, word, named, ends) h-is within

pub continue_found : {known : List (List ℕ)} {budget h : ℕ} {s : StatementTree} {at : Place} {ts a rest : List Terminal} →
    at ≡ first_place ts → IsWord k.Continue ts a → IsSign p.Semicolon a rest → s ≡ Continue at → h ≡ 1 → h ≤ budget → FoundStatement known budget s h ts rest
continue_found {known} {budget} {h} {s} {at} {ts} {a} {rest} place word ends s-is h-is within = shut (Continue at) s-is refl refl (place, a, word, ends) h-is within

pub break_found : {known : List (List ℕ)} {budget h : ℕ} {s : StatementTree} {at : Place} {ts a rest : List Terminal} →
    at ≡ first_place ts → IsWord k.Break ts a → IsSign p.Semicolon a rest → s ≡ Break at → h ≡ 1 → h ≤ budget → FoundStatement known budget s h ts rest
break_found {known} {budget} {h} {s} {at} {ts} {a} {rest} place word ends s-is h-is within = shut (Break at) s-is refl refl (place, a, word, ends) h-is within

pub return_found : {known : List (List ℕ)} {budget b g h : ℕ} {s : StatementTree} {at : Place} (e : Option Tree) {ts a rest : List Terminal} →
    at ≡ first_place ts → IsWord k.Return ts a → FoundMaybe known b p.Semicolon e g a rest → s ≡ Return at e → h ≡ g + 1 → h ≤ budget → FoundStatement known budget s h ts rest
return_found {known} {budget} {b} {g} {h} {s} {at} e {ts} {a} {rest} place word found s-is h-is within =
    shut (Return at e) s-is refl refl (place, a, found.last, word, found.derives, found.ends) (h-is ∙ ap (λ (n : ℕ). n + 1) found.height) within

pub null_found : (known : List (List ℕ)) (budget : ℕ) {s : StatementTree} {at : Place} {ts rest : List Terminal} →
    at ≡ first_place ts → IsSign p.Semicolon ts rest → s ≡ Expression at None → FoundStatement known budget s 0 ts rest
null_found known budget {s} {at} {ts} {rest} place ends s-is = shut (Expression at None) s-is refl refl (place, ts, refl, ends) refl (omega arith)

pub value_found : {known : List (List ℕ)} {budget b g h : ℕ} {s : StatementTree} {at : Place} {e : Tree} {ts start a rest : List Terminal} →
    at ≡ first_place ts → start ≡ ts → Found known 0 b e g start a → IsSign p.Semicolon a rest → s ≡ Expression at (Some e) → h ≡ g + 1 → h ≤ budget → FoundStatement known budget s h ts rest
value_found {known} {budget} {b} {g} {h} {s} {at} {e} {ts} {start} {a} {rest} place same found ends s-is h-is within =
    subst (λ (front : List Terminal). FoundStatement known budget s h front rest) same
    (shut (Expression at (Some e)) s-is refl refl (place ∙ ap first_place (sym same), a, found.derives, ends) (h-is ∙ ap (λ (n : ℕ). n + 1) found.height) within)
