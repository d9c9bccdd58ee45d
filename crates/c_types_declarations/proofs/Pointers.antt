-- As many pointers as there are stars.
use Rattle.std.proofs.Common.{◌≡◌, ◌<◌, ◌+◌, ◌-◌, ℕ, suc, List, [], ◌∷◌, ◌++◌, ◌∙◌, ap, append_assoc, arith}
use Rattle.c_types_scopes.specs.declared.type_steps.TypeStep.{TypeStep}
use Rattle.c_types_scopes.specs.declared.type_steps.TypeStep.TheVariants as step
use Rattle.c_types_declarations.specs.Declarators.{pointers}

-- one star is read
pub one_star : (steps : List TypeStep) (stars n : ℕ) → n < stars → (steps ++ step.Pointer ∷ []) ++ pointers (stars - (n + 1)) ≡ steps ++ pointers (stars - n)
one_star steps stars n some =
    let one : suc (stars - (n + 1)) ≡ stars - n = omega (arith, some) in
    append_assoc steps (step.Pointer ∷ []) (pointers (stars - (n + 1))) ∙ ap (λ m. steps ++ pointers m) one
