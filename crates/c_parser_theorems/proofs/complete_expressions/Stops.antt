-- What stands behind an expression stops each reader of its level.
use Rattle.std.proofs.Common.{◌≡◌, ℕ, zero, suc, ◌≤◌, ◌<◌, false, List, Some, None, nat_le, refl, arith}
use Rattle.c_parser_tokens.specs.declared.terminals.Terminal.{Terminal}
use Rattle.c_parser_tokens.specs.declared.terminals.Punctuator.TheVariants as p
use Rattle.c_parser_tokens.specs.declared.terminals.Symbol.{Symbol}
use Rattle.c_parser_tokens.specs.declared.terminals.Symbol.TheVariants as symbol
use Rattle.c_parser_expression_grammar.specs.Fronts.{first_symbol}
use Rattle.c_parser_expression_grammar.specs.Levels.{assign_of, goes_on, binary_level, logical_level}
use Rattle.c_parser_expression_grammar.specs.Continuations.{Continuation, Arguments, Index, OfObject, OfPointer, Stepped, With, Joined, Asks, Becomes, Follows, Nothing, continuation_of}
use Rattle.c_parser_theorems.specs.UniqueExpressions.Endings.{power, EndsBefore}
use Rattle.c_parser_expression_grammar.specs.Readings.{Got, is_question, is_comma}
use Rattle.c_parser_expression_grammar.specs.ExpressionReaders.{Readers, infix_of, keep_from, infix_from, climb, commas, suffixes}

pub ends_weaker : (l m : ℕ) (rest : List Terminal) → l ≤ m → EndsBefore l rest → EndsBefore m rest
ends_weaker l m rest low ends = omega arith

question_off : (s : Symbol) → power (continuation_of s) ≤ 2 → is_question s ≡ false
question_off (symbol.Punctuator p.Question) low = absurd (omega arith)
question_off _ low = refl

assign_off : (s : Symbol) → power (continuation_of s) ≤ 1 → assign_of s ≡ None
assign_off (symbol.Punctuator p.Assign) low = absurd (omega arith)
assign_off (symbol.Punctuator p.StarAssign) low = absurd (omega arith)
assign_off (symbol.Punctuator p.SlashAssign) low = absurd (omega arith)
assign_off (symbol.Punctuator p.PercentAssign) low = absurd (omega arith)
assign_off (symbol.Punctuator p.PlusAssign) low = absurd (omega arith)
assign_off (symbol.Punctuator p.MinusAssign) low = absurd (omega arith)
assign_off (symbol.Punctuator p.ShiftLeftAssign) low = absurd (omega arith)
assign_off (symbol.Punctuator p.ShiftRightAssign) low = absurd (omega arith)
assign_off (symbol.Punctuator p.AndAssign) low = absurd (omega arith)
assign_off (symbol.Punctuator p.XorAssign) low = absurd (omega arith)
assign_off (symbol.Punctuator p.OrAssign) low = absurd (omega arith)
assign_off _ low = refl

comma_off : (s : Symbol) → power (continuation_of s) ≤ 0 → is_comma s ≡ false
comma_off (symbol.Punctuator p.Comma) low = absurd (omega arith)
comma_off _ low = refl

suffix_off : (s : Symbol) → power (continuation_of s) ≤ 15 → goes_on s ≡ false
suffix_off (symbol.Punctuator p.LeftBracket) low = absurd (omega arith)
suffix_off (symbol.Punctuator p.Dot) low = absurd (omega arith)
suffix_off (symbol.Punctuator p.Arrow) low = absurd (omega arith)
suffix_off (symbol.Punctuator p.Increment) low = absurd (omega arith)
suffix_off (symbol.Punctuator p.Decrement) low = absurd (omega arith)
suffix_off _ low = refl

above : (a b : ℕ) → b < a → nat_le a b ≡ false
above a b h = grind arith

infix_off : (l : ℕ) (c : Continuation) → power c ≤ l → keep_from l (infix_of c) ≡ None
infix_off l (With op) low = let off : nat_le l (binary_level op) ≡ false = above l (binary_level op) (omega arith) in rw off refl
infix_off l (Joined op) low = let off : nat_le l (logical_level op) ≡ false = above l (logical_level op) (omega arith) in rw off refl
infix_off l Arguments low = refl
infix_off l Index low = refl
infix_off l OfObject low = refl
infix_off l OfPointer low = refl
infix_off l (Stepped op) low = refl
infix_off l Asks low = refl
infix_off l (Becomes op) low = refl
infix_off l Follows low = refl
infix_off l Nothing low = refl

pub no_question : (rest : List Terminal) → EndsBefore 2 rest → is_question (first_symbol rest) ≡ false
no_question rest ends = question_off (first_symbol rest) ends

pub no_assign : (rest : List Terminal) → EndsBefore 1 rest → assign_of (first_symbol rest) ≡ None
no_assign rest ends = assign_off (first_symbol rest) ends

pub no_comma : (rest : List Terminal) → EndsBefore 0 rest → is_comma (first_symbol rest) ≡ false
no_comma rest ends = comma_off (first_symbol rest) ends

pub no_suffix : (rest : List Terminal) → power (continuation_of (first_symbol rest)) ≤ 15 → goes_on (first_symbol rest) ≡ false
no_suffix rest low = suffix_off (first_symbol rest) low

pub no_infix : (l : ℕ) (rest : List Terminal) → EndsBefore l rest → infix_from l rest ≡ None
no_infix l rest ends = infix_off l (continuation_of (first_symbol rest)) (omega arith)

pub climb_stops : (b : ℕ) (i : Readers) (l turns : ℕ) (g : Got) → EndsBefore l g.rest → climb b i l turns g ≡ Some g
climb_stops b i l zero g ends = let off = no_infix l g.rest ends in rw off refl
climb_stops b i l (suc turns) g ends = let off = no_infix l g.rest ends in rw off refl

pub commas_stop : (b : ℕ) (i : Readers) (turns : ℕ) (g : Got) → EndsBefore 0 g.rest → commas b i turns g ≡ Some g
commas_stop b i zero g ends = let off = no_comma g.rest ends in rw off refl
commas_stop b i (suc turns) g ends = let off = no_comma g.rest ends in rw off refl

pub suffixes_stop : (b : ℕ) (i : Readers) (known : List (List ℕ)) (turns : ℕ) (g : Got) → power (continuation_of (first_symbol g.rest)) ≤ 15 → suffixes b i known turns g ≡ Some g
suffixes_stop b i known zero g low = let off = no_suffix g.rest low in rw off refl
suffixes_stop b i known (suc turns) g low = let off = no_suffix g.rest low in rw off refl
