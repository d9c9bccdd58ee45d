-- The unit with a call has an entry and a function of which the laws speak.
use Rattle.std.proofs.Common.{◌≡◌, ℕ, zero, suc, Bool, true, false, [], ◌++◌, Some, None, refl, arith, ap, subst}
use Rattle.c_layout.specs.CheckedTrees.{statement_trees}
use Rattle.c_layout.specs.CheckedUnits.{FunctionView}
use Rattle.lower_template_theorems.specs.PendingLabels.Marks.{IsLabelled}
use Rattle.lower_functions.specs.Functions.Functions.{setting_of}
use Rattle.lower_functions.specs.Statements.ScopeJumps.{objects}
use Rattle.lower_templates.specs.Worklist.Scopes.{with_new_scope}
use Rattle.simulation_terms.specs.Scopes.Chains.{AreApart}
use Rattle.simulation_terms.specs.Scopes.SuitedStatements.{not_enclosed, AreNew, AllSuitIn}
use Rattle.simulation_terms.specs.Worklists.SuitedTerms.{IsOwnCall}
use Rattle.worked_examples.proofs.one_loop.NoCalls.{not_called}
use Rattle.simulation_statements.specs.Entry.Entries.{IsEntry, IsMade, AreMade, EntryIsNotCalled}
use Rattle.worked_examples.proofs.template_runs.Calls.{main, subtracts, of_main, of_subtracts, templates, ended, is_made, also_ended, also_made}

called : IsOwnCall templates.unit 1 2 true
called = record { function = subtracts; called = record { is = refl; gives = λ used. refl }; many = refl }

labelled : IsLabelled main
labelled = record { labels = λ l. omega arith; cases = λ n. refl; defaults = refl; switches = (tt, tt) }

also_labelled : IsLabelled subtracts
also_labelled = record { labels = λ l. omega arith; cases = λ n. refl; defaults = refl; switches = (tt, tt) }

suits : AllSuitIn templates.unit main not_enclosed (main.scope ++ []) (statement_trees main.body)
suits = (((tt, ((tt, (tt, tt)), called, refl)), omega arith), tt)

also_suits : AllSuitIn templates.unit subtracts not_enclosed (subtracts.scope ++ []) (statement_trees subtracts.body)
also_suits = (((tt, tt), omega arith), tt)

-- the scopes of a function that has no objects
apart : (f : FunctionView) (is_entry : Bool) → ((one other : ℕ) → AreNew (objects (setting_of [] 8 4 f is_entry) one) (objects (setting_of [] 8 4 f is_entry) other)) → AreApart (setting_of [] 8 4 f is_entry)
apart f is_entry new one other around outer xs ys is also differs =
    let s = setting_of [] 8 4 f is_entry in
    subst (λ zs. AreNew zs ys) is.holds (subst (λ zs. AreNew (objects s one) zs) also.holds (new one other))

none_there : (one other : ℕ) → AreNew (objects (setting_of [] 8 4 main true) one) (objects (setting_of [] 8 4 main true) other)
unfolding with_new_scope
none_there zero other = tt
none_there (suc zero) other = tt
none_there (suc (suc one)) other = tt

also_none_there : (one other : ℕ) → AreNew (objects (setting_of [] 8 4 subtracts false) one) (objects (setting_of [] 8 4 subtracts false) other)
unfolding with_new_scope
also_none_there zero other = tt
also_none_there (suc zero) other = tt
also_none_there (suc (suc one)) other = tt

-- the entry calls the other function alone, and that one calls none
not_called_back : EntryIsNotCalled templates
not_called_back zero reached calls = not_called zero of_main.pieces ((λ e. other e), tt) calls
  where
    other : suc zero ≡ zero → ⊥
    other e = omega (arith, e)
not_called_back (suc h) reached calls = not_called zero of_subtracts.pieces tt calls

is_entry : IsEntry templates main
is_entry = record { is = refl; template = record { turns = 40; ended = ended; comes_to = is_made }; labelled = labelled; few_labels = omega arith; apart = apart main true none_there; suits = suits }

also : IsMade templates 1 false subtracts
also = record { is = refl; template = record { turns = 60; ended = also_ended; comes_to = also_made }; labelled = also_labelled; few_labels = omega arith; apart = apart subtracts false also_none_there; suits = also_suits }

are_made : AreMade templates
are_made zero f reached is not_entry = absurd (not_entry refl)
are_made (suc zero) f reached is not_entry = subst (IsMade templates 1 false) (same is) also
  where
    same : Some subtracts ≡ Some f → subtracts ≡ f
    same e = ap (λ (o : _). elim o [ None ↦ subtracts | Some g ↦ g ]) e
are_made (suc (suc g)) f reached is not_entry = absurd (nothing is)
  where
    nothing : None ≡ Some f → ⊥
    nothing e = cc
