-- A run begins in the body of its entry, which names its parameters.
use Rattle.std.proofs.Common.{◌≡◌, ◌≤◌, ℕ, zero, suc, ◌+◌, ◌==◌, ◌||◌, Bool, true, false, List, [], ◌∷◌, length, take, Some, refl, arith, ap, sym, subst, ◌∙◌}
use Rattle.std.specs.List.{slice_get}
use Rattle.std.specs.Option.{is_some}
use Rattle.c_layout.specs.CheckedTrees.{statement_trees}
use Rattle.c_layout.specs.CheckedUnits.{LocalView, FunctionView, UnitView}
use Rattle.lower_functions.specs.Functions.Functions.{numbers_from}
use Rattle.memory_model.specs.Effects.UnitStarts.{parameter_instance, parameters_of}
use Rattle.memory_model.specs.Effects.Worlds.{World}
use Rattle.semantics.specs.SourceMachine.Scopes.{is_in}
use Rattle.semantics.specs.SourceMachine.SourceRuns.{name_parameters, body_of, first_state}
use Rattle.source_items.specs.Returns.StandingJumps.{UnitJumpsStand, AllJumpsStand}
use Rattle.source_items.specs.Liveness.ScopedStatements.{ScopedFunction, ScopedUnit}
use Rattle.source_items.specs.Liveness.Livings.{Living, IsLiving}
use Rattle.source_preservation.proofs.liveness.Bodies.{body_replaces}

so_many : (p : ℕ) (xs : List LocalView) → p ≤ length xs → length (take p xs) ≡ p
so_many zero xs enough = refl
so_many (suc p) [] enough = absurd (no enough)
  where
    no : suc p ≤ 0 → ⊥
    no e = omega (arith, e)
so_many (suc p) (x ∷ xs) enough = ap suc (so_many p xs fewer)
  where
    fewer : p ≤ length xs
    fewer = omega (arith, enough)

-- parameters are named by the numbers from one on
named_from : (u : UnitView) (k : ℕ) (xs : List LocalView) (n : ℕ) → is_some (name_parameters u k xs n) ≡ is_in n (numbers_from k (length xs))
named_from u k [] n = refl
named_from u k (x ∷ xs) n = by (n == k) (named_from u (suc k) xs n ∙ ap (λ m. is_in n (numbers_from m (length xs))) next)
  where
    next : suc k ≡ k + 1
    next = omega arith

    by : (b : Bool) → is_some (name_parameters u (suc k) xs n) ≡ is_in n (numbers_from (k + 1) (length xs)) → is_some (elim b [ true ↦ Some (parameter_instance u k) | false ↦ name_parameters u (suc k) xs n ]) ≡ (b || is_in n (numbers_from (k + 1) (length xs)))
    by true later = refl
    by false later = later

entry_living : (u : UnitView) (f : FunctionView) → ScopedFunction f true → AllJumpsStand false false (statement_trees f.body) → Living f true (name_parameters u 0 (parameters_of (Some f))) (body_of (Some f))
entry_living u f scoped jumps =
    let begins = body_replaces f true scoped jumps in
    record { named = λ n. named_from u 0 (take f.parameters f.locals) n ∙ ap (λ p. is_in n (numbers_from 0 p)) (so_many f.parameters f.locals scoped.parameters) ∙ sym (begins.0 n); sit = begins.1 }

pub begins_living : (u : UnitView) → UnitJumpsStand u → ScopedUnit u → (w : World) → IsLiving u (first_state u w)
begins_living u stand scoped w = (record { function = scoped.entry; is = scoped.is_entry; living = there }, tt)
  where
    there : Living scoped.entry true (name_parameters u 0 (parameters_of (slice_get u.functions u.entry))) (body_of (slice_get u.functions u.entry))
    there = subst (λ o. Living scoped.entry true (name_parameters u 0 (parameters_of o)) (body_of o)) (sym scoped.is_entry) (entry_living u scoped.entry (scoped.functions u.entry scoped.entry scoped.is_entry true) (stand u.entry scoped.entry scoped.is_entry))
