-- Calls are found, with their arguments.
use Rattle.std.proofs.Common.{◌≡◌, ℕ, zero, suc, ◌≤◌, ◌<◌, false, max, List, [], ◌∷◌, length, Some, refl, arith}
use Rattle.cc_base.specs.declared.diagnostics.Place.{Place}
use Rattle.c_layout.specs.SyntaxTrees.{Tree, Trees, Call, End, More}
use Rattle.c_parser_tokens.specs.declared.terminals.Terminal.{Terminal}
use Rattle.c_parser_tokens.specs.declared.terminals.Punctuator.TheVariants as p
use Rattle.c_parser_expression_grammar.specs.Expressions.{Derives, DeriveEach, height_of, heights_of}
use Rattle.c_parser_expression_grammar.specs.Fronts.{first_symbol, behind_first, IsSign}
use Rattle.c_parser_expression_grammar.specs.Spans.{Span, Separated}
use Rattle.c_parser_expression_grammar.specs.TypeNames.{greatest}
use Rattle.c_parser_theorems.specs.UniqueExpressions.Endings.{EndsBefore}
use Rattle.c_parser_theorems.proofs.unique_expressions.Levels.{below, ends_at}
use Rattle.c_parser_expression_grammar.specs.Readings.{GotSome, got, is_right_parenthesis}
use Rattle.c_parser_expression_grammar.specs.ExpressionReaders.{NameReaders, some_arguments, arguments, inside}
use Rattle.c_parser_theorems.specs.CompleteExpressions.Found.{IsFound, AllFound}
use Rattle.c_parser_theorems.proofs.complete_expressions.Lifts.{found_inside}
use Rattle.c_parser_theorems.proofs.complete_expressions.Begins.{no_parenthesis}
use Rattle.c_parser_theorems.proofs.complete_expressions.Postfixes.{IsPostfixRead}
use Rattle.c_parser_theorems.proofs.complete_expressions.Shrinking.{all_shrink, separated_count, length_behind}

abbrev pub gathered : Trees → List Terminal → GotSome
gathered es rest = record { trees = es; height = greatest (heights_of es); rest = rest }

-- one argument
argument_is : (name : NameReaders) (known : List (List ℕ)) (e : Tree) → IsFound name known e → (b : ℕ) (s : Span) (ts : List Terminal) → Derives e known 1 s.from s.to → EndsBefore 1 s.to → height_of e < b → ts ≡ s.from →
    (inside name known b).assignment ts ≡ Some (got e (height_of e) s.to)
argument_is name known e of-e b s ts d ends small from = let one = (found_inside name known e of-e b).assignment s.from s.to d ends small in rw from one

-- arguments, of which there is one at least, with the `)`
some_are : (name : NameReaders) (known : List (List ℕ)) (b : ℕ) (e : Tree) (more : Trees) → AllFound name known (More e more) → (spans : List Span) (turns : ℕ) (ts c rest : List Terminal) → DeriveEach (More e more) known 1 spans → Separated spans ts c → IsSign p.RightParenthesis c rest →
    greatest (heights_of (More e more)) < b → length spans ≤ turns → some_arguments (inside name known b) turns ts ≡ Some (gathered (More e more) rest)
some_are name known b e more found spans zero ts c rest (s, others, parts, d, each) sep shut small enough = let none : length (s ∷ others) ≤ 0 = rw parts at enough in absurd (omega arith)
some_are name known b e End (of-e, all) spans (suc turns) ts c rest (s, others, parts, d, last) sep shut small enough =
    let only : others ≡ [] = last in
    let one-sep : Separated (s ∷ []) ts c = rw only at (rw parts at sep) in
    let to : c ≡ s.to = one-sep.1 in
    let shut-at : IsSign p.RightParenthesis s.to rest = rw to at shut in
    let one = argument_is name known e of-e b s ts d (ends_at 1 shut-at (omega arith)) (omega arith) one-sep.0 in
    let alone : max (height_of e) 0 ≡ height_of e = omega arith in
    rw (one, shut-at.symbol, shut-at.behind, alone) refl
some_are name known b e (More f more) (of-e, all) spans (suc turns) ts c rest (s, others, parts, d, (next, further, parts-of, g, each)) sep shut small enough =
    let two-sep : Separated (s ∷ (next ∷ further)) ts c = rw parts-of at (rw parts at sep) in
    let few : length (s ∷ (next ∷ further)) ≤ suc turns = rw parts-of at (rw parts at enough) in
    let one = argument_is name known e of-e b s ts d (ends_at 1 two-sep.2 (omega arith)) (omega arith) two-sep.1 in
    let onward : Separated (next ∷ further) (behind_first s.to) c = rw (two-sep.2.behind) at two-sep.3 in
    let tail : DeriveEach (More f more) known 1 (next ∷ further) = (next, further, refl, g, each) in
    let others-are = some_are name known b f more all (next ∷ further) turns (behind_first s.to) c rest tail onward shut (omega arith) (omega arith) in
    rw (one, two-sep.2.symbol, others-are) refl

-- the arguments behind a `(`
arguments_are : (name : NameReaders) (known : List (List ℕ)) (b : ℕ) (es : Trees) → AllFound name known es → (spans : List Span) (ts c rest : List Terminal) → DeriveEach es known 1 spans → Separated spans ts c → IsSign p.RightParenthesis c rest →
    greatest (heights_of es) < b → arguments (inside name known b) ts ≡ Some (gathered es rest)
arguments_are name known b End found spans ts c rest none sep shut small =
    let same : c ≡ ts = (rw none at sep) in
    let shut-at : IsSign p.RightParenthesis ts rest = rw same at shut in
    rw (shut-at.symbol, shut-at.behind) refl
arguments_are name known b (More e more) found spans ts c rest (s, others, parts, d, each) sep shut small =
    let all : DeriveEach (More e more) known 1 spans = (s, others, parts, d, each) in
    let count = separated_count spans ts c (all_shrink (More e more) known 1 spans all) sep in
    let last = length_behind c rest shut in
    let from : ts ≡ s.from = first_from s others ts c (rw parts at sep) in
    let off : is_right_parenthesis (first_symbol ts) ≡ false = rw from (no_parenthesis e known 1 s.from s.to d) in
    let are = some_are name known b e more found spans (length ts) ts c rest all sep shut small (omega arith) in
    rw (off, are) refl
  where
    first_from : (s : Span) (others : List Span) (ts c : List Terminal) → Separated (s ∷ others) ts c → ts ≡ s.from
    first_from s [] ts c sep = sep.0
    first_from s (next ∷ more) ts c sep = sep.1

pub call_read : (name : NameReaders) (known : List (List ℕ)) (at : Place) (text : List ℕ) (es : Trees) → AllFound name known es → IsPostfixRead name known (Call at text es)
call_read name known at text es found b j ts rest (level, spans, a, c, d, is, opens, each, sep, shut) ends high turns =
    let opens-at : IsSign p.LeftParenthesis (behind_first ts) c = rw is.behind at opens in
    let sep-at : Separated spans (behind_first (behind_first ts)) d = rw opens-at.behind at sep in
    let are = arguments_are name known b es found spans (behind_first (behind_first ts)) d rest each sep-at shut (omega arith) in
    let fits = below (greatest (heights_of es)) b (omega arith) in
    let same : b ≡ j = omega arith in
    rw (is.symbol, is.other, opens-at.symbol, are, fits, is.place, is.spelled, same) refl
