-- The names of the entry's parameters.
use Rattle.std.proofs.Common.{◌≡◌, ℕ, suc, ◌+◌, ◌<◌, ◌≤◌, cond, List, [], ◌∷◌, length, Option, Some, None, refl, sym, ap, ◌∙◌, arith, ⊎_elim}
use Rattle.std.proofs.lemmas.Bool.{cases_lt, lt-ltb, le-ltb}
use Rattle.std.proofs.lemmas.Bool.Decides.{nat_tests}
use Rattle.std.proofs.Math.Path.{fun_ext}
use Rattle.c_layout.specs.CheckedUnits.{UnitView}
use Rattle.memory_model.specs.Effects.NumberedTables.{set_at}
use Rattle.memory_model.specs.Effects.UnitStarts.{parameter_instance}
use Rattle.semantics.specs.SourceMachine.SourceRuns.{name_parameters}
use Rattle.interp_steps.proofs.machine_items.Names.{set_here, set_elsewhere}
use Rattle.interp_steps.specs.MachineItems.MachineViews.{names_view, parameters_named}

set_below : (f : ℕ → Option ℕ) (at n : ℕ) (x : Option ℕ) → n < at → set_at f at x n ≡ f n
set_below f at n x h = set_elsewhere f at n x (grind (arith, nat_tests))

set_above : (f : ℕ → Option ℕ) (at n : ℕ) (x : Option ℕ) → at < n → set_at f at x n ≡ f n
set_above f at n x h = set_elsewhere f at n x (grind (arith, nat_tests))

set_same : (f : ℕ → Option ℕ) (at n : ℕ) (x : Option ℕ) → n ≡ at → set_at f at x n ≡ x
set_same f at n x e = set_here f at n x (grind (arith, nat_tests))

is_named : (u : UnitView) (count n : ℕ) → n < count → parameters_named u count n ≡ Some (parameter_instance u n)
is_named u count n h = ap (λ b. cond b (Some (parameter_instance u n)) None) (lt-ltb n count h)

is_unnamed : (u : UnitView) (count n : ℕ) → count ≤ n → parameters_named u count n ≡ None
is_unnamed u count n h = ap (λ b. cond b (Some (parameter_instance u n)) None) (le-ltb n count h)

pub none_named : (u : UnitView) → names_view [] ≡ parameters_named u 0
none_named u = fun_ext (λ n. sym (is_unnamed u 0 n (omega arith)))

named_next : (u : UnitView) (k n : ℕ) → set_at (parameters_named u k) k (Some (parameter_instance u k)) n ≡ parameters_named u (k + 1) n
named_next u k n =
    ⊎_elim
    (λ (lt : n < k).
    set_below (parameters_named u k) k n (Some (parameter_instance u k)) lt
    ∙ is_named u k n lt
    ∙ sym (is_named u (k + 1) n (omega arith)))
    (λ (ge : k ≤ n).
    ⊎_elim
    (λ (lt : k < n).
    set_above (parameters_named u k) k n (Some (parameter_instance u k)) lt
    ∙ is_unnamed u k n ge
    ∙ sym (is_unnamed u (k + 1) n (omega arith)))
    (λ (le : n ≤ k).
    let same : n ≡ k = omega arith in
    set_same (parameters_named u k) k n (Some (parameter_instance u k)) same
    ∙ ap (λ j. Some (parameter_instance u j)) (sym same)
    ∙ sym (is_named u (k + 1) n (omega arith)))
    (cases_lt k n))
    (cases_lt n k)

-- a parameter more
pub named_more : (u : UnitView) (k : ℕ) (before after : List (Option ℕ)) → names_view before ≡ parameters_named u k → names_view after ≡ set_at (names_view before) k (Some (parameter_instance u k)) → names_view after ≡ parameters_named u (k + 1)
named_more u k before after e set = set ∙ ap (λ f. set_at f k (Some (parameter_instance u k))) e ∙ fun_ext (named_next u k)

-- ---- all of them

named_in : {A : Type 0} (u : UnitView) (at : ℕ) (ps : List A) (n : ℕ) → at ≤ n → n < at + length ps → name_parameters u at ps n ≡ Some (parameter_instance u n)
named_in u at [] n a b = absurd (omega arith)
named_in u at (p ∷ ps) n a b =
    ⊎_elim
    (λ (lt : at < n). set_above (name_parameters u (suc at) ps) at n (Some (parameter_instance u at)) lt ∙ named_in u (suc at) ps n (omega arith) (omega arith))
    (λ (ge : n ≤ at).
    let same : n ≡ at = omega arith in
    set_same (name_parameters u (suc at) ps) at n (Some (parameter_instance u at)) same ∙ ap (λ j. Some (parameter_instance u j)) (sym same))
    (cases_lt at n)

named_behind : {A : Type 0} (u : UnitView) (at : ℕ) (ps : List A) (n : ℕ) → at + length ps ≤ n → name_parameters u at ps n ≡ None
named_behind u at [] n h = refl
named_behind u at (p ∷ ps) n h = set_above (name_parameters u (suc at) ps) at n (Some (parameter_instance u at)) (omega arith) ∙ named_behind u (suc at) ps n (omega arith)

pub parameters_are : {A : Type 0} (u : UnitView) (ps : List A) (count : ℕ) → count ≡ length ps → parameters_named u count ≡ name_parameters u 0 ps
parameters_are u ps count e = fun_ext (λ n.
    ⊎_elim
    (λ (lt : n < count). is_named u count n lt ∙ sym (named_in u 0 ps n (omega arith) (omega arith)))
    (λ (ge : count ≤ n). is_unnamed u count n ge ∙ sym (named_behind u 0 ps n (omega arith)))
    (cases_lt n count))
