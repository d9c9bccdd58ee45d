-- Operators behind an operand.
use Rattle.std.proofs.Common.{◌≡◌, ℕ, ◌+◌, ◌≤◌, List, max, arith, refl}
use Rattle.std.proofs.lemmas.Grind.{common_steps}
use Rattle.c_layout.specs.SyntaxTrees.{Tree}
use Rattle.c_parser_tokens.specs.declared.terminals.Terminal.{Terminal}
use Rattle.c_parser_expression_grammar.specs.declared.postfix_operators.Suffix.{Suffix}
use Rattle.c_parser_expression_grammar.specs.declared.postfix_operators.Suffix.TheVariants as suffix
use Rattle.c_parser_expression_grammar.specs.Expressions.{Derives, height_of}
use Rattle.c_parser_expression_grammar.specs.Findings.{Found, FoundSuffix, IsSuffix, suffixed, suffix_height}

derives : (s : Suffix) (x : Tree) (known : List (List ℕ)) (ts a rest : List Terminal) → Derives x known 15 ts a → IsSuffix known s a rest → Derives (suffixed s x) known 15 ts rest
derives (suffix.Subscript at index) x known ts a rest d s = (omega arith, a, s.1, s.2, s.0, d, s.3, s.4, s.5)
derives (suffix.Member at name) x known ts a rest d s = (omega arith, a, s.1, s.0, d, s.2, s.3)
derives (suffix.Arrow at name) x known ts a rest d s = (omega arith, a, s.1, s.0, d, s.2, s.3)
derives (suffix.Step at op) x known ts a rest d s = (omega arith, a, s.0, d, s.1)

height : (s : Suffix) (x : Tree) → height_of (suffixed s x) ≡ max (height_of x) (suffix_height s) + 1
height (suffix.Subscript at index) x = refl
height (suffix.Member at name) x = grind (arith, common_steps)
height (suffix.Arrow at name) x = grind (arith, common_steps)
height (suffix.Step at op) x = grind (arith, common_steps)

pub one_more : {known : List (List ℕ)} {b g h k : ℕ} {e x : Tree} {s : Suffix} {ts a rest : List Terminal} →
    Found known 15 b x g ts a → FoundSuffix known s k a rest → e ≡ suffixed s x → h ≡ max g k + 1 → h ≤ b → Found known 15 b e h ts rest
one_more {known} {b} {g} {h} {k} {e} {x} {s} {ts} {a} {rest} f behind e-is high within =
    let tall : height_of (suffixed s x) ≡ max (height_of x) (suffix_height s) + 1 = height s x in
    let parts : h ≡ max (height_of x) (suffix_height s) + 1 = cc in
    rw e-is (record { derives = derives s x known ts a rest f.derives behind.derives; height = cc; within = within })
