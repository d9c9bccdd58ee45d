-- Steps of declarators, from the last one on.
use Rattle.std.proofs.Common.{◌≡◌, ◌<◌, ◌≤◌, ◌+◌, ◌-◌, ℕ, zero, suc, List, [], ◌∷◌, length, drop, get_or, slice_index_or, Option, Some, None, refl, sym, ◌∙◌, ap, arith, rules, drop-cons}
use Rattle.c_layout.specs.Types.{Ty}
use Rattle.c_layout.specs.StructViews.{StructView}
use Rattle.c_types_scopes.specs.declared.type_steps.TypeStep.{TypeStep}
use Rattle.c_types_scopes.specs.TypeSteps.{step_of, then_step, stepped}

-- with the step before
pub one_more : (structs : List StructView) (pointer : ℕ) (base made : Ty) (steps : List TypeStep) (turn : ℕ) (d : TypeStep) (next : Option Ty) → turn < length steps
    → stepped structs pointer base (drop (length steps - turn) steps) ≡ Some made
    → next ≡ step_of structs pointer made (slice_index_or steps (length steps - 1 - turn) d)
    → stepped structs pointer base (drop (length steps - (turn + 1)) steps) ≡ next
unfolding stepped
one_more structs pointer base made steps turn d next some before is =
    let at : length steps - 1 - turn < length steps = omega (arith, some) in
    let here : length steps - (turn + 1) ≡ length steps - 1 - turn = omega (arith, some) in
    let behind : suc (length steps - 1 - turn) ≡ length steps - turn = omega (arith, some) in
    let cut : drop (length steps - 1 - turn) steps ≡ slice_index_or steps (length steps - 1 - turn) d ∷ drop (suc (length steps - 1 - turn)) steps = drop-cons steps (length steps - 1 - turn) d at in
    ap (λ n. stepped structs pointer base (drop n steps)) here
    ∙ ap (stepped structs pointer base) cut
    ∙ ap (λ n. then_step structs pointer (slice_index_or steps (length steps - 1 - turn) d) (stepped structs pointer base (drop n steps))) behind
    ∙ ap (then_step structs pointer (slice_index_or steps (length steps - 1 - turn) d)) before
    ∙ sym is

-- where a step has no type, the steps before it have none
pub none_at : (structs : List StructView) (pointer : ℕ) (base : Ty) (steps : List TypeStep) (n : ℕ) → stepped structs pointer base (drop n steps) ≡ None → stepped structs pointer base steps ≡ None
unfolding stepped
none_at structs pointer base steps zero h = h
none_at structs pointer base [] (suc n) h = h
none_at structs pointer base (s ∷ steps) (suc n) h = ap (then_step structs pointer s) (none_at structs pointer base steps n h)
