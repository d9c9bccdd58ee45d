-- What is planned only adds to what was given away.
use Rattle.std.proofs.Common.{◌≤◌, ℕ, ◌+◌, Bool, true, false, cond, [], ◌∷◌, ◌++◌, arith, ap, sym, ◌∙◌, append_assoc}
use Rattle.std.proofs.lemmas.List.{append-nil}
use Rattle.lower_templates.specs.Worklist.Pieces.{NameView}
use Rattle.lower_templates.specs.Worklist.Works.{Job}
use Rattle.lower_templates.specs.Worklist.Plans.{Plan, with_work, with_name, with_labels, with_scope, with_dispatch}
use Rattle.lower_templates.specs.declared.worklist.template_builder.Dispatch.{Dispatch}
use Rattle.lower_template_theorems.specs.Growth.Growth.{Grows}

at_most_itself : (n : ℕ) → n ≤ n
at_most_itself n = omega arith

longer : (m n k : ℕ) → m ≤ n → m ≤ n + k
longer m n k le = omega (arith, le)

through : (m n k : ℕ) → m ≤ n → n ≤ k → m ≤ k
through m n k a b = omega (arith, a, b)

pub grows_not : (p : Plan) → Grows p p
grows_not p = record { more_names = []; names = sym (append-nil p.names); labels = at_most_itself p.labels; scopes = at_most_itself p.scopes; more_dispatches = []; dispatches = sym (append-nil p.dispatches) }

pub grows_on : (p q r : Plan) → Grows p q → Grows q r → Grows p r
grows_on p q r a b = record {
  more_names = a.more_names ++ b.more_names;
  names = b.names ∙ ap (λ ns. ns ++ b.more_names) a.names ∙ append_assoc p.names a.more_names b.more_names;
  labels = through p.labels q.labels r.labels a.labels b.labels;
  scopes = through p.scopes q.scopes r.scopes a.scopes b.scopes;
  more_dispatches = a.more_dispatches ++ b.more_dispatches;
  dispatches = b.dispatches ∙ ap (λ ds. ds ++ b.more_dispatches) a.dispatches ∙ append_assoc p.dispatches a.more_dispatches b.more_dispatches;
}

pub grows_work : {start : Plan} (j : Job) (p : Plan) → Grows start p → Grows start (with_work j p)
unfolding with_work
grows_work j p g = record { more_names = g.more_names; names = g.names; labels = g.labels; scopes = g.scopes; more_dispatches = g.more_dispatches; dispatches = g.dispatches }

pub grows_name : {start : Plan} (x : NameView) (p : Plan) → Grows start p → Grows start (with_name x p)
unfolding with_name
grows_name {start = start} x p g = record {
  more_names = g.more_names ++ x ∷ [];
  names = ap (λ ns. ns ++ x ∷ []) g.names ∙ append_assoc start.names g.more_names (x ∷ []);
  labels = g.labels;
  scopes = g.scopes;
  more_dispatches = g.more_dispatches;
  dispatches = g.dispatches;
}

pub grows_labels : {start : Plan} (count : ℕ) (p : Plan) → Grows start p → Grows start (with_labels count p)
unfolding with_labels
grows_labels {start = start} count p g = record { more_names = g.more_names; names = g.names; labels = longer start.labels p.labels count g.labels; scopes = g.scopes; more_dispatches = g.more_dispatches; dispatches = g.dispatches }

pub grows_scope : {start : Plan} (p : Plan) → Grows start p → Grows start (with_scope p)
unfolding with_scope
grows_scope {start = start} p g = record { more_names = g.more_names; names = g.names; labels = g.labels; scopes = longer start.scopes p.scopes 1 g.scopes; more_dispatches = g.more_dispatches; dispatches = g.dispatches }

pub grows_dispatch : {start : Plan} (d : Dispatch) (p : Plan) → Grows start p → Grows start (with_dispatch d p)
unfolding with_dispatch
grows_dispatch {start = start} d p g = record {
  more_names = g.more_names;
  names = g.names;
  labels = g.labels;
  scopes = g.scopes;
  more_dispatches = g.more_dispatches ++ d ∷ [];
  dispatches = ap (λ ds. ds ++ d ∷ []) g.dispatches ∙ append_assoc start.dispatches g.more_dispatches (d ∷ []);
}

pub grows_or : {start : Plan} (b : Bool) (p q : Plan) → Grows start p → Grows start q → Grows start (cond b p q)
grows_or true p q x y = x
grows_or false p q x y = y

-- what the constructs are made of
pub ruleset works = (grows_work, grows_name, grows_labels, grows_scope, grows_dispatch, grows_or)
