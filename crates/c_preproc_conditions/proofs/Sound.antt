-- What is read is an expression: the frames and the operand stand for the tokens before them.
use Rattle.std.proofs.Common.{◌≡◌, ℕ, ◌<◌, ◌≤◌, nat_le, Bool, true, false, cond, List, [], ◌∷◌, ◌++◌, Option, Some, None, refl, sym, ◌∙◌, ap, subst, arith}
use Rattle.std.proofs.lemmas.List.{append_assoc, append-nil}
use Rattle.std.proofs.lemmas.Bool.{leb-true, leb-false}
use Rattle.c_preproc_conditions.specs.declared.condition_symbols.Symbol.{Symbol}
use Rattle.c_preproc_conditions.specs.declared.condition_symbols.Symbol.TheVariants.{Constant, Open, Close, Question, Colon, Plus, Minus, Foreign}
use Rattle.c_preproc_conditions.specs.declared.condition_symbols.Symbol.TheVariants as symbol
use Rattle.c_preproc_conditions.specs.declared.condition_value.Value.{Value}
use Rattle.c_preproc_conditions.specs.declared.evaluation.Frame.{Frame}
use Rattle.c_preproc_conditions.specs.declared.evaluation.Frame.TheVariants.{Parenthesis, Prefix, Infix, Condition, Choice}
use Rattle.c_preproc_conditions.specs.declared.operations.Unary.{Unary}
use Rattle.c_preproc_conditions.specs.declared.operations.Unary.TheVariants as unary
use Rattle.c_preproc_conditions.specs.declared.operations.Binary.{Binary}
use Rattle.c_preproc_conditions.specs.declared.operations.Binary.TheVariants as binary
use Rattle.c_preproc_conditions.specs.ConditionValues.{defined, choice}
use Rattle.c_preproc_conditions.specs.Arithmetic.{apply_unary, apply_binary}
use Rattle.c_preproc_conditions.specs.Symbols.{precedence}
use Rattle.c_preproc_conditions.specs.Expressions.{prefix_of, infix_of, Derives, IsExpression}
use Rattle.c_preproc_conditions.specs.Expressions.Derives.{constant, parenthesized, prefixed as signed, joined, chosen}
use Rattle.c_preproc_conditions.specs.Reading.{Reading, Left, prefixed, reduced, closed, begun, infix_read, colon_read, close_read, gone_on, step, if_empty, ended, then_run, run}
use Rattle.c_preproc_conditions.proofs.Complete.{precedence-positive, precedence-less}

-- an operand of this level is whole behind the frames
abbrev Rests : ℕ → List Frame → Type 0
Rests p [] = Unit {0}
Rests p (Prefix op ∷ stack) = ⊥
Rests p (Infix left op ∷ stack) = precedence op < p
Rests p (frame ∷ stack) = Unit {0}

rests-zero : (stack : List Frame) → Rests 1 stack → Rests 0 stack
rests-zero [] h = tt
rests-zero (Prefix op ∷ stack) h = h
rests-zero (Infix left op ∷ stack) h = let positive : 0 < precedence op = precedence-positive op in absurd (omega arith)
rests-zero (Parenthesis ∷ stack) h = tt
rests-zero (Condition c ∷ stack) h = tt
rests-zero (Choice c left ∷ stack) h = tt

-- the frames stand for these tokens
data Behind : List Frame → List Symbol → Type 0 where
  nothing : Behind [] []
  parenthesis : {stack : List Frame} {us : List Symbol} → Behind stack us → Behind (Parenthesis ∷ stack) (us ++ Open ∷ [])
  prefix : {stack : List Frame} {us : List Symbol} → (x : Symbol) → (op : Unary) → prefix_of x ≡ Some op → Behind stack us → Behind (Prefix op ∷ stack) (us ++ x ∷ [])
  infix_left : {stack : List Frame} {us ls : List Symbol} {left : Value} → (x : Symbol) → (op : Binary) → (p : ℕ) → infix_of x ≡ Some op → precedence op ≤ p → Rests (precedence op) stack → Derives p ls left → Behind stack us
      → Behind (Infix left op ∷ stack) (us ++ (ls ++ x ∷ []))
  condition : {stack : List Frame} {us cs : List Symbol} {c : Value} → (p : ℕ) → 0 < p → Rests 0 stack → Derives p cs c → Behind stack us → Behind (Condition c ∷ stack) (us ++ (cs ++ Question ∷ []))
  choice_left : {stack : List Frame} {us cs ls : List Symbol} {c left : Value} → (p q : ℕ) → 0 < p → Rests 0 stack → Derives p cs c → Derives q ls left → Behind stack us
      → Behind (Choice c left ∷ stack) (us ++ (cs ++ Question ∷ (ls ++ Colon ∷ [])))

-- the frames and an operand of this level or a higher one stand for these tokens
record Has (k : ℕ) (left : Left) (ts : List Symbol) : Type 0 where
  before : List Symbol
  last : List Symbol
  level : ℕ
  least : k ≤ level
  behind : Behind left.stack before
  derives : Derives level last left.value
  rests : Rests level left.stack
  all : before ++ last ≡ ts

has_same : (k : ℕ) (left : Left) (ts us : List Symbol) → ts ≡ us → Has k left ts → Has k left us
has_same k left ts us e h = subst (Has k left) e h

prefixed-sound : (stack : List Frame) (us : List Symbol) → Behind stack us → (vs : List Symbol) (v : Value) → Derives 11 vs v → Has 11 (prefixed stack v) (us ++ vs)
prefixed-sound stack us nothing vs v d = record { before = []; last = vs; level = 11; least = omega arith; behind = nothing; derives = d; rests = tt; all = refl }
prefixed-sound stack us (parenthesis b) vs v d = record { before = us; last = vs; level = 11; least = omega arith; behind = parenthesis b; derives = d; rests = tt; all = refl }
prefixed-sound stack us (prefix {stack = stack1} {us = us1} x op e b) vs v d =
    has_same 11 (prefixed stack1 (apply_unary op v)) (us1 ++ x ∷ vs) ((us1 ++ x ∷ []) ++ vs) (sym (append_assoc us1 (x ∷ []) vs)) (prefixed-sound stack1 us1 b (x ∷ vs) (apply_unary op v) (signed x op e d))
prefixed-sound stack us (infix_left x op p e h r dl b) vs v d =
    record { before = us; last = vs; level = 11; least = omega arith; behind = infix_left x op p e h r dl b; derives = d; rests = precedence-less op; all = refl }
prefixed-sound stack us (condition p h r dc b) vs v d = record { before = us; last = vs; level = 11; least = omega arith; behind = condition p h r dc b; derives = d; rests = tt; all = refl }
prefixed-sound stack us (choice_left p q h r dc dl b) vs v d = record { before = us; last = vs; level = 11; least = omega arith; behind = choice_left p q h r dc dl b; derives = d; rests = tt; all = refl }

-- after a reduction no operator before the operand binds so tightly
record Reduced (k : ℕ) (left : Left) (ts : List Symbol) : Type 0 where
  has : Has k left ts
  below : Rests k left.stack

reduced-sound : (k : ℕ) (stack : List Frame) (us : List Symbol) → Behind stack us → (p : ℕ) (vs : List Symbol) (v : Value) → k ≤ p → Derives p vs v → Rests p stack → Reduced k (reduced k stack v) (us ++ vs)
reduced-sound k stack us nothing p vs v h d r = record { has = record { before = []; last = vs; level = p; least = h; behind = nothing; derives = d; rests = tt; all = refl }; below = tt }
reduced-sound k stack us (parenthesis b) p vs v h d r = record { has = record { before = us; last = vs; level = p; least = h; behind = parenthesis b; derives = d; rests = tt; all = refl }; below = tt }
reduced-sound k stack us (prefix x op e b) p vs v h d r = absurd r
reduced-sound k stack us (infix_left {stack = stack1} {us = us1} {ls = ls} {left = left} x op pl e hl rl dl b) p vs v h d r =
    by_test (nat_le k (precedence op)) refl (λ t. reduced-sound k stack1 us1 b (precedence op) (ls ++ x ∷ vs) (apply_binary op left v) t (joined x op e hl r dl d) rl)
  where
    by_test : (test : Bool) → nat_le k (precedence op) ≡ test → (k ≤ precedence op → Reduced k (reduced k stack1 (apply_binary op left v)) (us1 ++ (ls ++ x ∷ vs)))
        → Reduced k (cond test (reduced k stack1 (apply_binary op left v)) (record { stack = Infix left op ∷ stack1; value = v })) ((us1 ++ (ls ++ x ∷ [])) ++ vs)
    by_test true t go =
        subst (Reduced k (reduced k stack1 (apply_binary op left v))) (ap (λ l. us1 ++ l) (sym (append_assoc ls (x ∷ []) vs)) ∙ sym (append_assoc us1 (ls ++ x ∷ []) vs)) (go (leb-true k (precedence op) t))
    by_test false t go =
        let less : precedence op < k = leb-false k (precedence op) t in
        record { has = record { before = us1 ++ (ls ++ x ∷ []); last = vs; level = p; least = h; behind = infix_left x op pl e hl rl dl b; derives = d; rests = r; all = refl }; below = less }
reduced-sound k stack us (condition q hc rc dc b) p vs v h d r = record { has = record { before = us; last = vs; level = p; least = h; behind = condition q hc rc dc b; derives = d; rests = tt; all = refl }; below = tt }
reduced-sound k stack us (choice_left q q1 hc rc dc dl b) p vs v h d r = record { has = record { before = us; last = vs; level = p; least = h; behind = choice_left q q1 hc rc dc dl b; derives = d; rests = tt; all = refl }; below = tt }

closed-sound : (stack : List Frame) (us : List Symbol) → Behind stack us → (p : ℕ) (vs : List Symbol) (v : Value) → Derives p vs v → Rests p stack → Has 0 (closed stack v) (us ++ vs)
closed-sound stack us nothing p vs v d r = record { before = []; last = vs; level = p; least = omega arith; behind = nothing; derives = d; rests = tt; all = refl }
closed-sound stack us (parenthesis b) p vs v d r = record { before = us; last = vs; level = p; least = omega arith; behind = parenthesis b; derives = d; rests = tt; all = refl }
closed-sound stack us (prefix x op e b) p vs v d r = absurd r
closed-sound stack us (infix_left {stack = stack1} {us = us1} {ls = ls} {left = left} x op pl e hl rl dl b) p vs v d r =
    has_same 0 (closed stack1 (apply_binary op left v)) (us1 ++ (ls ++ x ∷ vs)) ((us1 ++ (ls ++ x ∷ [])) ++ vs)
    (ap (λ l. us1 ++ l) (sym (append_assoc ls (x ∷ []) vs)) ∙ sym (append_assoc us1 (ls ++ x ∷ []) vs))
    (closed-sound stack1 us1 b (precedence op) (ls ++ x ∷ vs) (apply_binary op left v) (joined x op e hl r dl d) rl)
closed-sound stack us (condition q hc rc dc b) p vs v d r = record { before = us; last = vs; level = p; least = omega arith; behind = condition q hc rc dc b; derives = d; rests = tt; all = refl }
closed-sound stack us (choice_left {stack = stack1} {us = us1} {cs = cs} {ls = ls} {c = c} {left = left} q q1 hc rc dc dl b) p vs v d r =
    has_same 0 (closed stack1 (choice c left v)) (us1 ++ (cs ++ Question ∷ (ls ++ Colon ∷ vs))) ((us1 ++ (cs ++ Question ∷ (ls ++ Colon ∷ []))) ++ vs)
    (ap (λ l. us1 ++ (cs ++ Question ∷ l)) (sym (append_assoc ls (Colon ∷ []) vs)) ∙ ap (λ l. us1 ++ l) (sym (append_assoc cs (Question ∷ (ls ++ Colon ∷ [])) vs)) ∙ sym (append_assoc us1 (cs ++ Question ∷ (ls ++ Colon ∷ [])) vs))
    (closed-sound stack1 us1 b 0 (cs ++ Question ∷ (ls ++ Colon ∷ vs)) (choice c left v) (chosen hc dc dl d) rc)

-- what was read stands for these tokens
abbrev GoodFor : Option Value → List Frame → List Symbol → Type 0
GoodFor None stack ts = Behind stack ts
GoodFor (Some v) stack ts = Has 11 (record { stack = stack; value = v }) ts

abbrev GoodIf : Option Reading → List Symbol → Type 0
GoodIf None ts = Unit {0}
GoodIf (Some r) ts = GoodFor r.operand r.stack ts

begun-sound : (stack : List Frame) (ts : List Symbol) → Behind stack ts → (x : Symbol) → GoodIf (begun stack x) (ts ++ x ∷ [])
begun-sound stack ts b (Constant n) = prefixed-sound stack ts b (Constant n ∷ []) (defined n) (constant n)
begun-sound stack ts b Open = parenthesis b
begun-sound stack ts b Plus = prefix Plus unary.Plus refl b
begun-sound stack ts b Minus = prefix Minus unary.Minus refl b
begun-sound stack ts b (symbol.Prefix op) = prefix (symbol.Prefix op) op refl b
begun-sound stack ts b x = tt

infix-sound : (left : Left) (ts : List Symbol) (x : Symbol) (op : Binary) → infix_of x ≡ Some op → Reduced (precedence op) left ts → Behind (Infix left.value op ∷ left.stack) (ts ++ x ∷ [])
infix-sound left ts x op e h =
    subst (Behind (Infix left.value op ∷ left.stack)) (sym (append_assoc h.has.before h.has.last (x ∷ [])) ∙ ap (λ l. l ++ x ∷ []) h.has.all)
    (infix_left x op h.has.level e h.has.least h.below h.has.derives h.has.behind)

question-sound : (left : Left) (ts : List Symbol) → Reduced 1 left ts → Behind (Condition left.value ∷ left.stack) (ts ++ Question ∷ [])
question-sound left ts h =
    subst (Behind (Condition left.value ∷ left.stack)) (sym (append_assoc h.has.before h.has.last (Question ∷ [])) ∙ ap (λ l. l ++ Question ∷ []) h.has.all)
    (condition h.has.level h.has.least (rests-zero left.stack h.below) h.has.derives h.has.behind)

colon-sound : (stack : List Frame) (us : List Symbol) → Behind stack us → (p : ℕ) (vs : List Symbol) (v : Value) → Derives p vs v → GoodIf (colon_read stack v) ((us ++ vs) ++ Colon ∷ [])
colon-sound stack us (condition {stack = stack1} {us = us1} {cs = cs} {c = c} q h r dc b) p vs v d =
    subst (Behind (Choice c v ∷ stack1))
    (ap (λ l. us1 ++ l) (sym (append_assoc cs (Question ∷ []) (vs ++ Colon ∷ []))) ∙ sym (append_assoc us1 (cs ++ Question ∷ []) (vs ++ Colon ∷ [])) ∙ sym (append_assoc (us1 ++ (cs ++ Question ∷ [])) vs (Colon ∷ [])))
    (choice_left q p h r dc d b)
colon-sound stack us nothing p vs v d = tt
colon-sound stack us (parenthesis b) p vs v d = tt
colon-sound stack us (prefix x op e b) p vs v d = tt
colon-sound stack us (infix_left x op q e h r dl b) p vs v d = tt
colon-sound stack us (choice_left q q1 h r dc dl b) p vs v d = tt

close-sound : (stack : List Frame) (us : List Symbol) → Behind stack us → (p : ℕ) (vs : List Symbol) (v : Value) → Derives p vs v → GoodIf (close_read stack v) ((us ++ vs) ++ Close ∷ [])
close-sound stack us (parenthesis {stack = stack1} {us = us1} b) p vs v d =
    has_same 11 (prefixed stack1 v) (us1 ++ Open ∷ (vs ++ Close ∷ [])) (((us1 ++ Open ∷ []) ++ vs) ++ Close ∷ [])
    (sym (append_assoc us1 (Open ∷ []) (vs ++ Close ∷ [])) ∙ sym (append_assoc (us1 ++ Open ∷ []) vs (Close ∷ [])))
    (prefixed-sound stack1 us1 b (Open ∷ (vs ++ Close ∷ [])) v (parenthesized d))
close-sound stack us nothing p vs v d = tt
close-sound stack us (prefix x op e b) p vs v d = tt
close-sound stack us (infix_left x op q e h r dl b) p vs v d = tt
close-sound stack us (condition q h r dc b) p vs v d = tt
close-sound stack us (choice_left q q1 h r dc dl b) p vs v d = tt

-- after everything before an operand is applied
has_closed : (stack : List Frame) (v : Value) (ts : List Symbol) → Has 11 (record { stack = stack; value = v }) ts → Has 0 (closed stack v) ts
has_closed stack v ts h = has_same 0 (closed stack v) (h.before ++ h.last) ts h.all (closed-sound stack h.before h.behind h.level h.last v h.derives h.rests)

has_reduced : (k : ℕ) (stack : List Frame) (v : Value) (ts : List Symbol) → k ≤ 11 → Has 11 (record { stack = stack; value = v }) ts → Reduced k (reduced k stack v) ts
has_reduced k stack v ts m h =
    let level : 11 ≤ h.level = h.least in
    subst (Reduced k (reduced k stack v)) h.all (reduced-sound k stack h.before h.behind h.level h.last v (omega arith) h.derives h.rests)

infix_goes : (stack : List Frame) (v : Value) (ts : List Symbol) → Has 11 (record { stack = stack; value = v }) ts → (x : Symbol) (op : Binary) → infix_of x ≡ Some op → GoodIf (infix_read (Some op) stack v) (ts ++ x ∷ [])
infix_goes stack v ts h x op e = let less : precedence op < 11 = precedence-less op in infix-sound (reduced (precedence op) stack v) ts x op e (has_reduced (precedence op) stack v ts (omega arith) h)

gone_on-sound : (stack : List Frame) (v : Value) (ts : List Symbol) → Has 11 (record { stack = stack; value = v }) ts → (x : Symbol) → GoodIf (gone_on stack v x) (ts ++ x ∷ [])
gone_on-sound stack v ts h Question = question-sound (reduced 1 stack v) ts (has_reduced 1 stack v ts (omega arith) h)
gone_on-sound stack v ts h Colon =
    let g : Has 0 (closed stack v) ts = has_closed stack v ts h in
    subst (λ l. GoodIf (colon_read (closed stack v).stack (closed stack v).value) (l ++ Colon ∷ [])) g.all (colon-sound (closed stack v).stack g.before g.behind g.level g.last (closed stack v).value g.derives)
gone_on-sound stack v ts h Close =
    let g : Has 0 (closed stack v) ts = has_closed stack v ts h in
    subst (λ l. GoodIf (close_read (closed stack v).stack (closed stack v).value) (l ++ Close ∷ [])) g.all (close-sound (closed stack v).stack g.before g.behind g.level g.last (closed stack v).value g.derives)
gone_on-sound stack v ts h Plus = infix_goes stack v ts h Plus binary.Add refl
gone_on-sound stack v ts h Minus = infix_goes stack v ts h Minus binary.Subtract refl
gone_on-sound stack v ts h (symbol.Infix op) = infix_goes stack v ts h (symbol.Infix op) op refl
gone_on-sound stack v ts h x = tt

step-sound : (o : Option Value) (stack : List Frame) (ts : List Symbol) → GoodFor o stack ts → (x : Symbol) → GoodIf (step (record { stack = stack; operand = o }) x) (ts ++ x ∷ [])
step-sound None stack ts h x = begun-sound stack ts h x
step-sound (Some v) stack ts h x = gone_on-sound stack v ts h x

-- nothing is left but an expression
end-sound : (stack : List Frame) (us : List Symbol) → Behind stack us → (p : ℕ) (vs : List Symbol) (w v : Value) → Derives p vs w → if_empty stack w ≡ Some v → IsExpression (us ++ vs) v
end-sound stack us nothing p vs w v d e = let same : w ≡ v = cc in subst (IsExpression vs) same (p, d)
end-sound stack us (parenthesis b) p vs w v d e = cc
end-sound stack us (prefix x op f b) p vs w v d e = cc
end-sound stack us (infix_left x op q f h r dl b) p vs w v d e = cc
end-sound stack us (condition q h r dc b) p vs w v d e = cc
end-sound stack us (choice_left q q1 h r dc dl b) p vs w v d e = cc

ended-sound : (o : Option Value) (stack : List Frame) (ts : List Symbol) → GoodFor o stack ts → (v : Value) → ended stack o ≡ Some v → IsExpression ts v
ended-sound None stack ts h v e = cc
ended-sound (Some w) stack ts h v e =
    let g : Has 0 (closed stack w) ts = has_closed stack w ts h in
    subst (λ l. IsExpression l v) g.all (end-sound (closed stack w).stack g.before g.behind g.level g.last (closed stack w).value v g.derives e)

run-sound : (xs : List Symbol) (o : Option Value) (stack : List Frame) (ts : List Symbol) → GoodFor o stack ts → (v : Value) → run xs (record { stack = stack; operand = o }) ≡ Some v → IsExpression (ts ++ xs) v
run-sound [] o stack ts h v e = subst (λ l. IsExpression l v) (sym (append-nil ts)) (ended-sound o stack ts h v e)
run-sound (x ∷ xs) o stack ts h v e = goes (step (record { stack = stack; operand = o }) x) (step-sound o stack ts h x) (λ o1 stack1 g. run-sound xs o1 stack1 (ts ++ x ∷ []) g v) e
  where
    goes : (next : Option Reading) → GoodIf next (ts ++ x ∷ []) → ((o1 : Option Value) (stack1 : List Frame) → GoodFor o1 stack1 (ts ++ x ∷ []) → run xs (record { stack = stack1; operand = o1 }) ≡ Some v → IsExpression ((ts ++ x ∷ []) ++ xs) v)
        → then_run next (run xs) ≡ Some v → IsExpression (ts ++ x ∷ xs) v
    goes None g go e = cc
    goes (Some r) g go e = subst (λ l. IsExpression l v) (append_assoc ts (x ∷ []) xs) (go r.operand r.stack g e)

-- what is read whole is an expression
pub expression_read : (ts : List Symbol) (v : Value) → run ts (record { stack = []; operand = None }) ≡ Some v → IsExpression ts v
expression_read ts v e = run-sound ts None [] [] nothing v e
