-- What is an expression is read as one: reading its tokens leaves its value.
use Rattle.std.proofs.Common.{◌≡◌, ℕ, ◌<◌, ◌≤◌, cond, List, [], ◌∷◌, ◌++◌, Option, Some, None, refl, sym, ◌∙◌, ap, subst, arith}
use Rattle.std.proofs.lemmas.List.{append_assoc, append-nil}
use Rattle.std.proofs.lemmas.Bool.{le-leb, lt-leb}
use Rattle.c_preproc_conditions.specs.declared.condition_symbols.Symbol.{Symbol}
use Rattle.c_preproc_conditions.specs.declared.condition_symbols.Symbol.TheVariants.{Constant, Open, Close, Question, Colon}
use Rattle.c_preproc_conditions.specs.declared.condition_value.Value.{Value}
use Rattle.c_preproc_conditions.specs.declared.evaluation.Frame.{Frame}
use Rattle.c_preproc_conditions.specs.declared.evaluation.Frame.TheVariants.{Parenthesis, Prefix, Infix, Condition, Choice}
use Rattle.c_preproc_conditions.specs.declared.operations.Unary.{Unary}
use Rattle.c_preproc_conditions.specs.declared.operations.Binary.{Binary}
use Rattle.c_preproc_conditions.specs.declared.operations.Binary.TheVariants.{Multiply, Divide, Remainder, Add, Subtract, ShiftLeft, ShiftRight, Less, Greater, LessEqual, GreaterEqual, Equal, NotEqual, And, Xor, Or, LogicalAnd, LogicalOr}
use Rattle.c_preproc_conditions.specs.ConditionValues.{choice}
use Rattle.c_preproc_conditions.specs.Arithmetic.{apply_binary}
use Rattle.c_preproc_conditions.specs.Symbols.{precedence}
use Rattle.c_preproc_conditions.specs.Expressions.{prefix_of, infix_of, Derives, IsExpression}
use Rattle.c_preproc_conditions.specs.Expressions.Derives.{constant, parenthesized, prefixed as signed, joined, chosen}
use Rattle.c_preproc_conditions.specs.Reading.{prefixed, reduced, whole, awaits, prefix_read, begun, infix_read, gone_on, then_run, run}

pub precedence-positive : (op : Binary) → 0 < precedence op
precedence-positive Multiply = omega arith
precedence-positive Divide = omega arith
precedence-positive Remainder = omega arith
precedence-positive Add = omega arith
precedence-positive Subtract = omega arith
precedence-positive ShiftLeft = omega arith
precedence-positive ShiftRight = omega arith
precedence-positive Less = omega arith
precedence-positive Greater = omega arith
precedence-positive LessEqual = omega arith
precedence-positive GreaterEqual = omega arith
precedence-positive Equal = omega arith
precedence-positive NotEqual = omega arith
precedence-positive And = omega arith
precedence-positive Xor = omega arith
precedence-positive Or = omega arith
precedence-positive LogicalAnd = omega arith
precedence-positive LogicalOr = omega arith

pub precedence-less : (op : Binary) → precedence op < 11
precedence-less Multiply = omega arith
precedence-less Divide = omega arith
precedence-less Remainder = omega arith
precedence-less Add = omega arith
precedence-less Subtract = omega arith
precedence-less ShiftLeft = omega arith
precedence-less ShiftRight = omega arith
precedence-less Less = omega arith
precedence-less Greater = omega arith
precedence-less LessEqual = omega arith
precedence-less GreaterEqual = omega arith
precedence-less Equal = omega arith
precedence-less NotEqual = omega arith
precedence-less And = omega arith
precedence-less Xor = omega arith
precedence-less Or = omega arith
precedence-less LogicalAnd = omega arith
precedence-less LogicalOr = omega arith

-- an expression of this level may stand behind the frames
abbrev Fits : ℕ → List Frame → Type 0
Fits p [] = Unit {0}
Fits p (Prefix op ∷ stack) = 11 ≤ p
Fits p (Infix left op ∷ stack) = precedence op < p
Fits p (frame ∷ stack) = Unit {0}

fits-more : (p q : ℕ) (stack : List Frame) → p ≤ q → Fits p stack → Fits q stack
fits-more p q [] h f = tt
fits-more p q (Prefix op ∷ stack) h f = omega arith
fits-more p q (Infix left op ∷ stack) h f = omega arith
fits-more p q (Parenthesis ∷ stack) h f = tt
fits-more p q (Condition c ∷ stack) h f = tt
fits-more p q (Choice c left ∷ stack) h f = tt

not_prefixed : (p : ℕ) (stack : List Frame) (v : Value) → p < 11 → Fits p stack → whole (prefixed stack v) ≡ record { stack = stack; operand = Some v }
not_prefixed p [] v h f = refl
not_prefixed p (Prefix op ∷ stack) v h f = absurd (omega arith)
not_prefixed p (Infix left op ∷ stack) v h f = refl
not_prefixed p (Parenthesis ∷ stack) v h f = refl
not_prefixed p (Condition c ∷ stack) v h f = refl
not_prefixed p (Choice c left ∷ stack) v h f = refl

not_reduced : (p : ℕ) (stack : List Frame) (v : Value) → Fits p stack → reduced p stack v ≡ record { stack = stack; value = v }
not_reduced p [] v f = refl
not_reduced p (Prefix op ∷ stack) v f = refl
not_reduced p (Infix left op ∷ stack) v f =
    ap (λ b. cond b (reduced p stack (apply_binary op left v)) (record { stack = Infix left op ∷ stack; value = v })) (lt-leb p (precedence op) f)
not_reduced p (Parenthesis ∷ stack) v f = refl
not_reduced p (Condition c ∷ stack) v f = refl
not_reduced p (Choice c left ∷ stack) v f = refl

-- the next token ends an expression of this level
abbrev EndedBy : ℕ → Option Binary → Type 0
EndedBy p None = Unit {0}
EndedBy p (Some op) = precedence op ≤ p

abbrev Bound : ℕ → List Symbol → Type 0
Bound p [] = Unit {0}
Bound p (Question ∷ ts) = 0 < p
Bound p (x ∷ ts) = EndedBy p (infix_of x)

ended_by-more : (p q : ℕ) (o : Option Binary) → p ≤ q → EndedBy p o → EndedBy q o
ended_by-more p q None h f = tt
ended_by-more p q (Some op) h f = omega arith

bound-more : (p q : ℕ) (ts : List Symbol) → p ≤ q → Bound p ts → Bound q ts
bound-more p q [] h f = tt
bound-more p q (Question ∷ ts) h f = omega arith
bound-more p q (x ∷ ts) h f = ended_by-more p q (infix_of x) h f

bound-infix : (p : ℕ) (x : Symbol) (ts : List Symbol) (op : Binary) → infix_of x ≡ Some op → precedence op ≤ p → Bound p (x ∷ ts)
bound-infix p Question ts op e h = cc
bound-infix p x ts op e h = subst (EndedBy p) (sym e) h

-- an operator on the stack is applied before the next token that ends its level
infix-absorbs : (left v : Value) (op : Binary) (stack : List Frame) (o : Option Binary) → EndedBy (precedence op) o → infix_read o (Infix left op ∷ stack) v ≡ infix_read o stack (apply_binary op left v)
infix-absorbs left v op stack None h = refl
infix-absorbs left v op stack (Some op1) h =
    ap (λ b. let l = cond b (reduced (precedence op1) stack (apply_binary op left v)) (record { stack = Infix left op ∷ stack; value = v }) in Some (awaits (Infix l.value op1) l.stack)) (le-leb (precedence op1) (precedence op) h)

absorbs : (left v : Value) (op : Binary) (stack : List Frame) (rest : List Symbol) → Bound (precedence op) rest
    → run rest (record { stack = Infix left op ∷ stack; operand = Some v }) ≡ run rest (record { stack = stack; operand = Some (apply_binary op left v) })
absorbs left v op stack [] h = refl
absorbs left v op stack (Question ∷ ts) h =
    ap (λ b. let l = cond b (reduced 1 stack (apply_binary op left v)) (record { stack = Infix left op ∷ stack; value = v }) in run ts (awaits (Condition l.value) l.stack)) (le-leb 1 (precedence op) (omega arith))
absorbs left v op stack (Colon ∷ ts) h = refl
absorbs left v op stack (Close ∷ ts) h = refl
absorbs left v op stack (x ∷ ts) h = ap (λ o. then_run o (run ts)) (infix-absorbs left v op stack (infix_of x) h)

infix-none : (stack1 stack2 : List Frame) (v w : Value) (o : Option Binary) → EndedBy 0 o → infix_read o stack1 v ≡ infix_read o stack2 w
infix-none stack1 stack2 v w None h = refl
infix-none stack1 stack2 v w (Some op) h = let positive : 0 < precedence op = precedence-positive op in absurd (omega arith)

choice-absorbs : (c left v : Value) (stack : List Frame) (rest : List Symbol) → Bound 0 rest
    → run rest (record { stack = Choice c left ∷ stack; operand = Some v }) ≡ run rest (record { stack = stack; operand = Some (choice c left v) })
choice-absorbs c left v stack [] h = refl
choice-absorbs c left v stack (Question ∷ ts) h = absurd (omega arith)
choice-absorbs c left v stack (Colon ∷ ts) h = refl
choice-absorbs c left v stack (Close ∷ ts) h = refl
choice-absorbs c left v stack (x ∷ ts) h = ap (λ o. then_run o (run ts)) (infix-none (Choice c left ∷ stack) stack v (choice c left v) (infix_of x) h)

begun-prefix : (stack : List Frame) (x : Symbol) (op : Unary) → prefix_of x ≡ Some op → begun stack x ≡ Some (awaits (Prefix op) stack)
begun-prefix stack (Constant n) op e = cc
begun-prefix stack Open op e = cc
begun-prefix stack x op e = ap (λ o. prefix_read o stack) e

gone_on-infix : (stack : List Frame) (v : Value) (x : Symbol) (op : Binary) → infix_of x ≡ Some op → gone_on stack v x ≡ infix_read (Some op) stack v
gone_on-infix stack v Question op e = cc
gone_on-infix stack v Colon op e = cc
gone_on-infix stack v Close op e = cc
gone_on-infix stack v x op e = ap (λ o. infix_read o stack v) e

complete : (p : ℕ) (ts : List Symbol) (v : Value) → Derives p ts v → (stack : List Frame) (rest : List Symbol) → Fits p stack → Bound p rest → run (ts ++ rest) (record { stack = stack; operand = None }) ≡ run rest (whole (prefixed stack v))
complete p ts v (constant n) stack rest f b = refl
complete p ts v (parenthesized {p = q} {ts = us} {v = w} d) stack rest f b =
    ap (λ l. run l (awaits Parenthesis stack)) (append_assoc us (Close ∷ []) rest) ∙ complete q us w d (Parenthesis ∷ stack) (Close ∷ rest) tt tt
complete p ts v (signed {ts = us} {v = w} x op e d) stack rest f b =
    ap (λ o. then_run o (run (us ++ rest))) (begun-prefix stack x op e) ∙ complete 11 us w d (Prefix op ∷ stack) rest (omega arith) b
complete p ts v (joined {p = pl} {q = pr} {ls = ls} {rs = rs} {l = l} {r = r} x op e h k dl dr) stack rest f b =
    let less : precedence op < 11 = precedence-less op in
    ap (λ t. run t (record { stack = stack; operand = None })) (append_assoc ls (x ∷ rs) rest)
    ∙ complete pl ls l dl stack (x ∷ (rs ++ rest)) (fits-more (precedence op) pl stack h f) (bound-infix pl x (rs ++ rest) op e h)
    ∙ ap (λ g. run (x ∷ (rs ++ rest)) g) (not_prefixed (precedence op) stack l less f)
    ∙ ap (λ o. then_run o (run (rs ++ rest))) (gone_on-infix stack l x op e)
    ∙ ap (λ t. run (rs ++ rest) (awaits (Infix t.value op) t.stack)) (not_reduced (precedence op) stack l f)
    ∙ complete pr rs r dr (Infix l op ∷ stack) rest k (bound-more (precedence op) pr rest (omega arith) b)
    ∙ absorbs l r op stack rest b
    ∙ ap (λ g. run rest g) (sym (not_prefixed (precedence op) stack (apply_binary op l r) less f))
complete p ts v (chosen {p = pc} {q = pl} {k = pr} {cs = cs} {ls = ls} {rs = rs} {c = c} {l = l} {r = r} h dc dl dr) stack rest f b =
    ap (λ t. run t (record { stack = stack; operand = None })) (append_assoc cs (Question ∷ (ls ++ Colon ∷ rs)) rest ∙ ap (λ t. cs ++ Question ∷ t) (append_assoc ls (Colon ∷ rs) rest))
    ∙ complete pc cs c dc stack (Question ∷ (ls ++ Colon ∷ (rs ++ rest))) (fits-more 0 pc stack (omega arith) f) h
    ∙ ap (λ g. run (Question ∷ (ls ++ Colon ∷ (rs ++ rest))) g) (not_prefixed 0 stack c (omega arith) f)
    ∙ ap (λ t. run (ls ++ Colon ∷ (rs ++ rest)) (awaits (Condition t.value) t.stack)) (not_reduced 1 stack c (fits-more 0 1 stack (omega arith) f))
    ∙ complete pl ls l dl (Condition c ∷ stack) (Colon ∷ (rs ++ rest)) tt tt
    ∙ complete pr rs r dr (Choice c l ∷ stack) rest tt (bound-more 0 pr rest (omega arith) b)
    ∙ choice-absorbs c l r stack rest b
    ∙ ap (λ g. run rest g) (sym (not_prefixed 0 stack (choice c l r) (omega arith) f))

from_nothing : (p : ℕ) (ts : List Symbol) (v : Value) → Derives p ts v → run (ts ++ []) (record { stack = []; operand = None }) ≡ Some v
from_nothing p ts v d = complete p ts v d [] [] tt tt

-- an expression is read whole
pub reads_expression : (ts : List Symbol) (v : Value) → IsExpression ts v → run ts (record { stack = []; operand = None }) ≡ Some v
reads_expression ts v h = ap (λ l. run l (record { stack = []; operand = None })) (sym (append-nil ts)) ∙ from_nothing h.0 ts v h.1
