-- What statements are made of, over what was found for their parts.
use Rattle.std.proofs.Common.{◌≡◌, ℕ, List, Some, None, refl, sym, subst, arith}
use Rattle.c_layout.specs.SyntaxTrees.{Tree}
use Rattle.c_layout.specs.DeclarationTrees.{NoClause, Clause, Declares, LocalView}
use Rattle.c_parser_tokens.specs.declared.terminals.Terminal.{Terminal}
use Rattle.c_parser_tokens.specs.declared.terminals.Punctuator.{Punctuator}
use Rattle.c_parser_tokens.specs.declared.terminals.Punctuator.TheVariants as p
use Rattle.c_parser_expression_grammar.specs.Findings.{Found}
use Rattle.c_parser_expression_grammar.specs.Fronts.{IsSign}
use Rattle.c_parser_declarations.specs.Grammar.Findings.{FoundLocal}
use Rattle.c_parser.specs.Findings.{FoundCondition, FoundMaybe, FoundFirst}

pub in_parentheses : {known : List (List ℕ)} {budget h : ℕ} {e v : Tree} {ts a b rest : List Terminal} →
    IsSign p.LeftParenthesis ts a → Found known 0 budget e h a b → IsSign p.RightParenthesis b rest → v ≡ e → FoundCondition known budget v h ts rest
in_parentheses {known} {budget} {h} {e} {v} {ts} {a} {b} {rest} opens found closes v-is =
    subst (λ (w : Tree). FoundCondition known budget w h ts rest) (sym v-is) (record { derives = (a, b, opens, found.derives, closes); height = found.height; within = found.within })

pub nothing : (known : List (List ℕ)) (budget : ℕ) {end : Punctuator} {ts rest : List Terminal} → IsSign end ts rest → FoundMaybe known budget end None 0 ts rest
nothing known budget {end} {ts} {rest} ends = record { last = ts; derives = refl; ends = ends; height = refl; within = omega arith }

pub something : {known : List (List ℕ)} {budget h : ℕ} {end : Punctuator} {e : Tree} (v : Tree) {ts start a rest : List Terminal} →
    start ≡ ts → Found known 0 budget e h start a → IsSign end a rest → v ≡ e → FoundMaybe known budget end (Some v) h ts rest
something {known} {budget} {h} {end} {e} v {ts} {start} {a} {rest} same found ends v-is =
    subst (λ (w : Tree). FoundMaybe known budget end (Some w) h ts rest) (sym v-is)
    (subst (λ (at : List Terminal). FoundMaybe known budget end (Some e) h at rest) same (record { last = a; derives = found.derives; ends = ends; height = found.height; within = found.within }))

pub no_clause : (known : List (List ℕ)) (budget : ℕ) {ts rest : List Terminal} → IsSign p.Semicolon ts rest → FoundFirst known budget NoClause 0 ts rest
no_clause known budget {ts} {rest} ends = record { derives = ends; height = refl; within = omega arith }

pub clause : {known : List (List ℕ)} {budget h : ℕ} {e : Tree} (v : Tree) {ts start a rest : List Terminal} →
    start ≡ ts → Found known 0 budget e h start a → IsSign p.Semicolon a rest → v ≡ e → FoundFirst known budget (Clause v) h ts rest
clause {known} {budget} {h} {e} v {ts} {start} {a} {rest} same found ends v-is =
    subst (λ (w : Tree). FoundFirst known budget (Clause w) h ts rest) (sym v-is)
    (subst (λ (at : List Terminal). FoundFirst known budget (Clause e) h at rest) same (record { derives = (a, found.derives, ends); height = found.height; within = found.within }))

pub declares : {known : List (List ℕ)} {budget h : ℕ} (l : LocalView) {ts rest : List Terminal} → FoundLocal known budget l h ts rest → FoundFirst known budget (Declares l) h ts rest
declares {known} {budget} {h} l {ts} {rest} found = record { derives = found.derives; height = found.height; within = found.within }
