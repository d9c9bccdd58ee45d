-- A run of templates that stops has no other states than those in which it goes on and the one in which it has stopped.
use Rattle.std.proofs.Common.{◌≡◌, ◌⊎◌, inl, inr, ℕ, zero, suc, ℤ, List, Some, None, refl, sym, ◌∙◌, subst}
use Rattle.memory_model.specs.Effects.Worlds.{Why}
use Rattle.semantics.specs.SourceMachine.SourceRuns as source
use Rattle.semantics.specs.SourceMachine.SourceRuns.{SourceRun, Run}
use Rattle.semantics.specs.TemplateMachine.TemplateStates.{Templates, TemplateRun, running, stopped, why_of}
use Rattle.semantics.specs.TemplateMachine.TemplateSteps.{template_begin, steps_from}
use Rattle.simulation_terms.specs.SmallSteps.Alike.{Agree}
use Rattle.worked_examples.specs.WrongTemplates.Refusals.{run_of}

stays : (t : Templates) (n : ℕ) (r : TemplateRun) (why : Why) → why_of r ≡ Some why → steps_from t n r ≡ r
stays t zero r why e = refl
stays t (suc n) (stopped other w found) why e = stays t n (stopped other w found) why e
stays t (suc n) (running s found) why e = absurd (nothing why e)
  where
    nothing : (why : Why) → None ≡ Some why → ⊥
    nothing why e = cc

goes_on_or_has_stopped : (t : Templates) (m n : ℕ) (r : TemplateRun) (why : Why) → why_of (steps_from t m r) ≡ Some why → (why_of (steps_from t n r) ≡ None) ⊎ (steps_from t n r ≡ steps_from t m r)
goes_on_or_has_stopped t zero n r why e = inr (stays t n r why e)
goes_on_or_has_stopped t (suc m) n (stopped other w found) why e = inr (stays t n (stopped other w found) other refl ∙ sym (stays t m (stopped other w found) other refl))
goes_on_or_has_stopped t (suc m) zero (running s found) why e = inl refl
goes_on_or_has_stopped t (suc m) (suc n) (running s found) why e = goes_on_or_has_stopped t m n _ why e

-- where the run of the source has stopped, it can agree only with the state in which the templates' run has stopped
pub none_agrees : (a : SourceRun) (t : Templates) (draws : List ℤ) (m : ℕ) (why also : Why) → source.why_of a ≡ Some also → why_of (run_of t draws m) ≡ Some why → (Agree a (run_of t draws m) → ⊥) → (n : ℕ) → Agree a (run_of t draws n) → ⊥
none_agrees a t draws m why also has_stopped stops differs n agree = by (goes_on_or_has_stopped t m n (template_begin t draws) why stops)
  where
    runs : Some also ≡ None → ⊥
    runs e = cc

    by : (why_of (run_of t draws n) ≡ None) ⊎ (run_of t draws n ≡ run_of t draws m) → ⊥
    by (inl goes_on) = runs (sym has_stopped ∙ (agree.why ∙ goes_on))
    by (inr e) = differs (subst (λ r. Agree a r) e agree)
