-- A run of a program that has stopped stays as it is, and what is found before is found then.
use Rattle.std.proofs.Common.{◌≡◌, ℕ, zero, suc, ◌≤◌, Option, Some, None, List, [], ◌∷◌, ◌++◌, arith, subst, sym, refl, ap, ◌∙◌, inl, inr}
use Rattle.std.specs.Prelude.{slice_get}
use Rattle.std.specs.List.{Contains}
use Rattle.std.proofs.lemmas.Bool.{cases_lt}
use Rattle.std.proofs.lemmas.List.Elements.{Contains-append_left}
use Rattle.cc_base.specs.declared.diagnostics.Place.{Place}
use Rattle.memory_model.specs.Effects.Worlds.{World, Why, Stuck, Reply, goes, stops, Violation}
use Rattle.lower_templates.specs.Worklist.Acts.{Step}
use Rattle.lower_templates.specs.Views.ProgramViews.{FlowView}
use Rattle.semantics.specs.CfgMachine.FlowStates.{ProgramState, FlowRun, running, stopped, found_in}
use Rattle.semantics.specs.CfgMachine.FlowSteps.{block_of, begun, act_step, violations_at, run_by, instruction_step, flow_step, flow_steps}

module _ (f : FlowView) where
  by_reply : (found : List Violation) (place : Place) (reply : Reply ProgramState) (v : Violation) → Contains found v → Contains (found_in (run_by found place reply)) v
  by_reply found place (goes s w) v h = Contains-append_left found (violations_at place w.violated) v h
  by_reply found place (stops why w) v h = Contains-append_left found (violations_at place w.violated) v h

  by_step : (found : List Violation) (s : ProgramState) (i : Option Step) (v : Violation) → Contains found v → Contains (found_in (instruction_step f found s i)) v
  by_step found s None v h = h
  by_step found s (Some i) v h = by_reply found i.at (act_step f i.does (begun s)) v h

  one_more : (r : FlowRun) (v : Violation) → Contains (found_in r) v → Contains (found_in (flow_step f r)) v
  one_more (running s found) v h = by_step found s (slice_get (block_of f s.block).steps s.at) v h
  one_more (stopped why w found) v h = h

  module _ (r : FlowRun) where
    pub found_later : (a n : ℕ) (v : Violation) → a ≤ n → Contains (found_in (flow_steps f a r)) v → Contains (found_in (flow_steps f n r)) v
    found_later a zero v le h = let e : a ≡ 0 = omega (arith, le) in subst (λ z. Contains (found_in (flow_steps f z r)) v) e h
    found_later a (suc n) v le h = elim (cases_lt n a) [
      | inl lt ↦ (let e : a ≡ suc n = omega (arith, le, lt) in subst (λ z. Contains (found_in (flow_steps f z r)) v) e h)
      | inr less ↦ one_more (flow_steps f n r) v (found_later a n v less h)
    ]

    pub stays : (a n : ℕ) (why : Why) (w : World) (found : List Violation) → a ≤ n → flow_steps f a r ≡ stopped why w found → flow_steps f n r ≡ stopped why w found
    stays a zero why w found le h = let e : a ≡ 0 = omega (arith, le) in subst (λ z. flow_steps f z r ≡ stopped why w found) e h
    stays a (suc n) why w found le h = elim (cases_lt n a) [
      | inl lt ↦ (let e : a ≡ suc n = omega (arith, le, lt) in subst (λ z. flow_steps f z r ≡ stopped why w found) e h)
      | inr less ↦ ap (flow_step f) (stays a n why w found less h)
    ]

    same_why : (why other : Why) (w x : World) (found more : List Violation) (y : FlowRun) → y ≡ stopped why w found → y ≡ stopped other x more → why ≡ other
    same_why why other w x found more y a b = let e : stopped why w found ≡ stopped other x more = sym a ∙ b in cc

    -- a run stops for one cause
    pub one_cause : (a b : ℕ) (why other : Why) (w x : World) (found more : List Violation) → flow_steps f a r ≡ stopped why w found → flow_steps f b r ≡ stopped other x more → why ≡ other
    one_cause a b why other w x found more h k = elim (cases_lt a b) [
      | inl lt ↦ same_why why other w x found more (flow_steps f b r) (stays a b why w found (omega (arith, lt)) h) k
      | inr le ↦ same_why why other w x found more (flow_steps f a r) h (stays b a other x more le k)
    ]

    -- what is found at any time is found where the run has stopped
    pub all_found : (a n : ℕ) (why : Why) (w : World) (found : List Violation) (v : Violation) → flow_steps f n r ≡ stopped why w found → Contains (found_in (flow_steps f a r)) v → Contains (found_in (flow_steps f n r)) v
    all_found a n why w found v h c = elim (cases_lt n a) [
      | inl lt ↦ subst (λ z. Contains (found_in z) v) (stays n a why w found (omega (arith, lt)) h ∙ sym h) c
      | inr le ↦ found_later a n v le c
    ]
