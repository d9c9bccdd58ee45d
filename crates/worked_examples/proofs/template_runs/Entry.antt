-- The unit with a loop has an entry of which the laws speak.
use Rattle.std.proofs.Common.{◌≡◌, ℕ, zero, suc, true, [], ◌∷◌, ◌++◌, refl, arith, subst}
use Rattle.c_layout.specs.CheckedTrees.{statement_trees}
use Rattle.lower_template_theorems.specs.PendingLabels.Marks.{IsLabelled}
use Rattle.lower_functions.specs.Functions.Functions.{IsTemplate, setting_of}
use Rattle.lower_functions.specs.Statements.ScopeJumps.{objects}
use Rattle.lower_templates.specs.Worklist.Plans.{with_work, with_name, with_labels, with_scope, with_dispatch}
use Rattle.lower_templates.specs.Worklist.Scopes.{with_new_scope}
use Rattle.simulation_statements.specs.Entry.Entries.{IsEntry}
use Rattle.simulation_terms.specs.Scopes.Chains.{AreApart}
use Rattle.simulation_terms.specs.Scopes.SuitedStatements.{not_enclosed, AreNew, AllSuitIn}
use Rattle.worked_examples.specs.OneLoop.Loop.{main, of_main, templates}
use Rattle.worked_examples.specs.OneLoop.Units.{unit_of}

made : (b : ℕ) → IsTemplate [] 8 4 (main b) true (of_main b)
unfolding with_work with_name with_labels with_scope with_dispatch with_new_scope
made b = record { turns = 60; ended = refl; comes_to = refl }

labelled : (b : ℕ) → IsLabelled (main b)
labelled b = record { labels = λ l. omega arith; cases = λ n. refl; defaults = refl; switches = (tt, (((tt, tt), tt), (tt, tt))) }

suits : (b : ℕ) → AllSuitIn (unit_of (main b ∷ [])) (main b) not_enclosed ((main b).scope ++ []) (statement_trees (main b).body)
suits b = (tt, ((tt, (((tt, tt), omega arith), tt), ((tt, tt), omega arith), (tt, omega arith), tt, (tt, tt)), (((tt, tt), omega arith), tt)))

-- the objects of its scopes are i and none
new_there : (b one other : ℕ) → (one ≡ other → ⊥) → AreNew (objects (setting_of [] 8 4 (main b) true) one) (objects (setting_of [] 8 4 (main b) true) other)
unfolding with_new_scope
new_there b zero other differs = tt
new_there b (suc zero) zero differs = (refl, tt)
new_there b (suc zero) (suc zero) differs = absurd (differs refl)
new_there b (suc zero) (suc (suc zero)) differs = (refl, tt)
new_there b (suc zero) (suc (suc (suc n))) differs = (refl, tt)
new_there b (suc (suc zero)) other differs = tt
new_there b (suc (suc (suc n))) other differs = tt

apart : (b : ℕ) → AreApart (setting_of [] 8 4 (main b) true)
apart b one other around outer xs ys is also differs = subst (λ zs. AreNew zs ys) is.holds (subst (λ zs. AreNew (objects (setting_of [] 8 4 (main b) true) one) zs) also.holds (new_there b one other differs))

is_entry : (b : ℕ) → IsEntry (templates b) (main b)
is_entry b = record { is = refl; template = made b; labelled = labelled b; few_labels = omega arith; apart = apart b; suits = suits b }
