-- Reading all tokens, and what the answer says of them.
use Rattle.std.proofs.Common.{◌≡◌, ℕ, suc, ◌+◌, ◌<◌, List, [], length, drop, get_or, Option, Some, None, Result, Ok, Err, sym, ◌∙◌, ap, arith}
use Rattle.std.proofs.Math.Seq.{drop-cons}
use Rattle.c_preproc_conditions.specs.declared.condition_symbols.Symbol.{Symbol}
use Rattle.c_preproc_conditions.specs.declared.condition_value.Value.{Value}
use Rattle.c_preproc_conditions.specs.declared.evaluation.ConditionFault.{ConditionFault}
use Rattle.c_preproc_conditions.specs.declared.evaluation.ConditionFault.TheVariants.{NumberForm, Malformed, Memory}
use Rattle.c_preproc_conditions.specs.declared.evaluation.Frame.{Frame}
use Rattle.c_preproc_conditions.specs.Reading.{Reading, step, then_run, run}
use Rattle.c_preproc_conditions.specs.Readings.{Reads, Answers, Evaluates}
use Rattle.c_preproc_conditions.proofs.Complete.{reads_expression}
use Rattle.c_preproc_conditions.proofs.Sound.{expression_read}

run-drop : (symbols : List Symbol) (i : ℕ) (x : Symbol) (r : Reading) → i < length symbols → run (drop i symbols) r ≡ then_run (step r (get_or symbols i x)) (run (drop (i + 1) symbols))
run-drop symbols i x r h =
    let next : suc i ≡ i + 1 = omega arith in
    ap (λ l. run l r) (drop-cons symbols i x h) ∙ ap (λ k. then_run (step r (get_or symbols i x)) (run (drop k symbols))) next

pub goes_on : (symbols : List Symbol) (i : ℕ) (x : Symbol) (first r : Reading) (stack : List Frame) (operand : Option Value) → i < length symbols → run symbols first ≡ run (drop i symbols) r → Reads (step r (get_or symbols i x)) stack (Ok operand)
    → run symbols first ≡ run (drop (i + 1) symbols) (record { stack = stack; operand = operand })
goes_on symbols i x first r stack operand h e t = e ∙ run-drop symbols i x r h ∙ ap (λ o. then_run o (run (drop (i + 1) symbols))) t

pub fails : (symbols : List Symbol) (i : ℕ) (x : Symbol) (first r : Reading) (stack : List Frame) (fault : ConditionFault) → i < length symbols → run symbols first ≡ run (drop i symbols) r → Reads (step r (get_or symbols i x)) stack (Err fault)
    → Answers (run symbols first) (Err fault)
fails symbols i x first r stack Malformed h e t = e ∙ run-drop symbols i x r h ∙ ap (λ o. then_run o (run (drop (i + 1) symbols))) t
fails symbols i x first r stack (NumberForm place) h e t = t
fails symbols i x first r stack Memory h e t = tt

pub evaluates : (symbols : List Symbol) (answer : Result Value ConditionFault) → Answers (run symbols (record { stack = []; operand = None })) answer → Evaluates symbols answer
evaluates symbols (Ok v) e = expression_read symbols v e
evaluates symbols (Err Malformed) e = λ v h. let found : run symbols (record { stack = []; operand = None }) ≡ Some v = reads_expression symbols v h in let clash : Some v ≡ None = sym found ∙ e in cc
evaluates symbols (Err (NumberForm place)) e = e
evaluates symbols (Err Memory) e = tt
