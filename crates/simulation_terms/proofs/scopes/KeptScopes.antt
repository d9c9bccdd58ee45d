-- What begins no scopes and switches.
use Rattle.std.proofs.Common.{◌≡◌, ℕ, List, [], ◌∷◌, ◌++◌}
use Rattle.lower_templates.specs.Worklist.Pieces.{NameView, Do, End}
use Rattle.lower_templates.specs.Worklist.Works as jobs
use Rattle.lower_templates.specs.Worklist.Works.{Job}
use Rattle.lower_templates.specs.Worklist.Plans.{Plan, with_work, with_name, with_labels, name_of_object}
use Rattle.lower_functions.proofs.PlanClosures.{IsSilent, ConditionClosed}
use Rattle.simulation_terms.proofs.scopes.Positions.{position}

-- a work that is no statement
abbrev pub IsTerm : Job → Type 0
IsTerm (jobs.Statement i around) = ⊥
IsTerm other = Unit {0}

abbrev pub AreTerms : List Job → Type 0
AreTerms [] = Unit {0}
AreTerms (j ∷ js) = IsTerm j × AreTerms js

-- no scope and no switch was begun since then, and no statement is planned
pub record Keeps (start p : Plan) : Type 0 where
  pub scopes : position p ≡ position start
  pub terms : AreTerms p.jobs

one_more : (js : List Job) (j : Job) → AreTerms js → IsTerm j → AreTerms (js ++ j ∷ [])
one_more [] j all is = (is, tt)
one_more (k ∷ js) j all is = (all.0, one_more js j all.1 is)

pub keeps_work : {start : Plan} (j : Job) (p : Plan) → IsTerm j → Keeps start p → Keeps start (with_work j p)
unfolding with_work
keeps_work j p is k = record { scopes = k.scopes; terms = one_more p.jobs j k.terms is }

keeps_name : {start : Plan} (x : NameView) (p : Plan) → Keeps start p → Keeps start (with_name x p)
unfolding with_name
keeps_name x p k = record { scopes = k.scopes; terms = k.terms }

keeps_labels : {start : Plan} (count : ℕ) (p : Plan) → Keeps start p → Keeps start (with_labels count p)
unfolding with_labels
keeps_labels count p k = record { scopes = k.scopes; terms = k.terms }

silent_term : (j : Job) → IsSilent j → IsTerm j
silent_term (jobs.Value e depth) is = tt
silent_term (jobs.Unused e depth) is = tt
silent_term (jobs.Address l depth) is = tt
silent_term (jobs.Condition e decision) is = tt
silent_term (jobs.Statement i around) is = is
silent_term (jobs.Ready q) is = tt

pub keeping : (start : Plan) → ConditionClosed (Keeps start)
keeping start = record {
  terms = record {
    work = λ j p is k. keeps_work j p (silent_term j is) k;
    fresh = λ x s p is k. keeps_work (jobs.Ready (Do s)) (with_name x p) tt (keeps_name x p k);
    labels = λ count p k. keeps_labels count p k;
  };
  name = λ o p k. keeps_name (name_of_object o) p k;
  branch = λ s exits p is on k. keeps_work (jobs.Ready (End s exits)) p tt k;
}
