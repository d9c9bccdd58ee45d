-- Results of the code, against what readers as definitions answer.
use Rattle.std.proofs.Common.{◌≡◌, ℕ, ◌+◌, ◌≤◌, List, Result, Ok, Err, MatchResult, IfOk, IfErr, sym, ◌∙◌}
use Rattle.std.specs.Prelude.{Box}
use Rattle.std.specs.Global.{Global}
use Rattle.std.specs.Result.{IsErrAnd}
use Rattle.c_layout.specs.SyntaxTrees.{Tree, tree_of}
use Rattle.c_layout.specs.declared.syntax_tree.expressions.Expr.{Expr}
use Rattle.c_parser_tokens.specs.declared.terminals.Terminal.{Terminal}
use Rattle.c_parser_expression_grammar.specs.declared.heights.Parsed.{Parsed}
use Rattle.c_parser_expression_grammar.specs.declared.heights.Trouble.{Trouble}
use Rattle.c_parser_expression_grammar.specs.declared.heights.Trouble.TheVariants as trouble
use Rattle.c_parser_expression_grammar.specs.Readings.{Reading, got, made}
use Rattle.c_parser_expression_grammar.specs.ReadingResults.{OnSyntax, Reads}
use Rattle.c_parser_expressions.proofs.Layering.{made_is, made_none}

-- an error that is handed on
pub refuses : {A Q : Type 0} (P : A → Type 0) (r : Result A Trouble) (e : Trouble) → IsErrAnd r (λ y. y ≡ e) → (e ≡ trouble.Syntax → Q) → MatchResult r P (OnSyntax Q)
refuses P (Ok x) e is so = absurd is
refuses P (Err y) e is so = λ s. so (sym is ∙ s)

-- a node that is made last
pub made_reads : (r : Result (Parsed (Box Expr Global)) Trouble) (b parts : ℕ) (e : Tree) (rest : List Terminal) (reading : Reading) → reading ≡ made b e parts rest →
    IfOk r (λ n. tree_of n.tree.value ≡ e) → IfOk r (λ n. (n.height ≡ parts + 1) × (n.height ≤ b)) → IfErr r (OnSyntax (b ≤ parts)) → Reads r (λ n. got (tree_of n.tree.value) n.height rest) reading
made_reads (Ok n) b parts e rest reading is tree height refused = is ∙ made_is b n.height parts e (tree_of n.tree.value) rest tree height.0 height.1
made_reads (Err x) b parts e rest reading is tree height refused = λ s. is ∙ made_none b parts e rest (refused s)
