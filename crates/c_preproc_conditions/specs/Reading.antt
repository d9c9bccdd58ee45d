-- How a condition is read, token by token, with a stack of what waits for an operand.
use Rattle.std.specs.Prelude.{ℕ, nat_le, cond, List, [], ◌∷◌, Option, Some, None}
use Rattle.c_preproc_conditions.specs.declared.condition_symbols.Symbol.{Symbol}
use Rattle.c_preproc_conditions.specs.declared.condition_symbols.Symbol.TheVariants.{Constant, Open, Close, Question, Colon}
use Rattle.c_preproc_conditions.specs.declared.condition_value.Value.{Value}
use Rattle.c_preproc_conditions.specs.declared.evaluation.Frame.{Frame}
use Rattle.c_preproc_conditions.specs.declared.evaluation.Frame.TheVariants.{Parenthesis, Prefix, Infix, Condition, Choice}
use Rattle.c_preproc_conditions.specs.declared.operations.Unary.{Unary}
use Rattle.c_preproc_conditions.specs.declared.operations.Binary.{Binary}
use Rattle.c_preproc_conditions.specs.ConditionValues.{defined, choice}
use Rattle.c_preproc_conditions.specs.Arithmetic.{apply_unary, apply_binary}
use Rattle.c_preproc_conditions.specs.Symbols.{precedence}
use Rattle.c_preproc_conditions.specs.Expressions.{prefix_of, infix_of}

-- what waits for an operand, the innermost first, and the operand that was read last, if none is awaited
pub record Reading : Type 0 where
  pub stack : List Frame
  pub operand : Option Value

-- frames, and an operand behind them
pub record Left : Type 0 where
  pub stack : List Frame
  pub value : Value

-- the prefixes before an operand are applied
abbrev pub prefixed : List Frame → Value → Left
prefixed [] v = record { stack = []; value = v }
prefixed (Prefix op ∷ stack) v = prefixed stack (apply_unary op v)
prefixed (frame ∷ stack) v = record { stack = frame ∷ stack; value = v }

-- the operators before an operand that bind at least so tightly are applied
abbrev pub reduced : ℕ → List Frame → Value → Left
reduced p [] v = record { stack = []; value = v }
reduced p (Infix left op ∷ stack) v = cond (nat_le p (precedence op)) (reduced p stack (apply_binary op left v)) (record { stack = Infix left op ∷ stack; value = v })
reduced p (frame ∷ stack) v = record { stack = frame ∷ stack; value = v }

-- all operators before an operand are applied, choices too
abbrev pub closed : List Frame → Value → Left
closed [] v = record { stack = []; value = v }
closed (Infix left op ∷ stack) v = closed stack (apply_binary op left v)
closed (Choice condition left ∷ stack) v = closed stack (choice condition left v)
closed (frame ∷ stack) v = record { stack = frame ∷ stack; value = v }

abbrev pub whole : Left → Reading
whole left = record { stack = left.stack; operand = Some left.value }

abbrev pub awaits : Frame → List Frame → Reading
awaits frame stack = record { stack = frame ∷ stack; operand = None }

abbrev pub prefix_read : Option Unary → List Frame → Option Reading
prefix_read None stack = None
prefix_read (Some op) stack = Some (awaits (Prefix op) stack)

-- a token where an operand is awaited
abbrev pub begun : List Frame → Symbol → Option Reading
begun stack (Constant n) = Some (whole (prefixed stack (defined n)))
begun stack Open = Some (awaits Parenthesis stack)
begun stack x = prefix_read (prefix_of x) stack

abbrev pub infix_read : Option Binary → List Frame → Value → Option Reading
infix_read None stack v = None
infix_read (Some op) stack v = let left = reduced (precedence op) stack v in Some (awaits (Infix left.value op) left.stack)

abbrev pub colon_read : List Frame → Value → Option Reading
colon_read (Condition condition ∷ stack) v = Some (awaits (Choice condition v) stack)
colon_read stack v = None

abbrev pub close_read : List Frame → Value → Option Reading
close_read (Parenthesis ∷ stack) v = Some (whole (prefixed stack v))
close_read stack v = None

-- a token behind an operand
abbrev pub gone_on : List Frame → Value → Symbol → Option Reading
gone_on stack v Question = let left = reduced 1 stack v in Some (awaits (Condition left.value) left.stack)
gone_on stack v Colon = let left = closed stack v in colon_read left.stack left.value
gone_on stack v Close = let left = closed stack v in close_read left.stack left.value
gone_on stack v x = infix_read (infix_of x) stack v

abbrev pub step : Reading → Symbol → Option Reading
step r x = elim r.operand [ None ↦ begun r.stack x | Some v ↦ gone_on r.stack v x ]

abbrev pub if_empty : List Frame → Value → Option Value
if_empty [] v = Some v
if_empty (frame ∷ stack) v = None

abbrev pub ended : List Frame → Option Value → Option Value
ended stack None = None
ended stack (Some v) = let left = closed stack v in if_empty left.stack left.value

abbrev pub then_run : Option Reading → (Reading → Option Value) → Option Value
then_run None go = None
then_run (Some r) go = go r

-- the value of an expression of which some tokens are still to be read
abbrev pub run : List Symbol → Reading → Option Value
run [] r = ended r.stack r.operand
run (x ∷ xs) r = then_run (step r x) (run xs)
