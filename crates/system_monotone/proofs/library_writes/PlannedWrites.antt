-- Calls that write bytes, in rising rows.
use Rattle.std.specs.Prelude.{◌≡◌, ℕ, Bool, true, false, cond, Option, List, refl}
use Rattle.cc_base.specs.Lattices.{LatticeOf}
use Rattle.cc_base.specs.IntegerDomains.{IntegersOf}
use Rattle.c_layout.specs.declared.library_functions.LibFn.{LibFn}
use Rattle.cfg.specs.declared.programs.Flow.{Flow}
use Rattle.pointer_domain.specs.declared.base_sets.Bases.{Bases}
use Rattle.value_domain.specs.declared.values.row_cells.Cell.{Cell}
use Rattle.store_monotone.specs.Operations.TopRows.{top_row}
use Rattle.transfer_library_plans.specs.declared.call_plans.Effect.{Effect}
use Rattle.transfer_library_plans.specs.declared.call_plans.Effect.TheVariants as effect
use Rattle.transfer_library_plans.specs.declared.call_plans.Plan.{Plan}
use Rattle.transfer_library_plans.specs.declared.call_plans.Trail.{Trail}
use Rattle.transfer_library_plans.specs.Plans.{planned}
use Rattle.transfer_library.specs.Effects.{apply}
use Rattle.transfer_library.specs.Planning.{plan_call}
use Rattle.transfer_system.specs.CallSteps.{call_of, call_step}
use Rattle.transfer_monotone.specs.Edges.CallLaws.{CallRises}
use Rattle.transfer_monotone.specs.Edges.FilledRows.{LeavesFilled}
use Rattle.transfer_monotone.specs.Values.RisingRows.{LeftRise}
use Rattle.transfer_monotone.specs.Values.StepLaws.{FlowRows}
use Rattle.transfer_monotone.specs.Values.ViolationsBelow.{ViolationsBelow}
use Rattle.transfer_monotone.proofs.library.Trails.{TrailsBelow}

module _ {I : Type 0} (l : LatticeOf I) (n : IntegersOf I) (all : Bases) (flow : Flow) where
  -- what the effects leave of two rows
  abbrev pub EffectsRise : List (Cell I) → List (Cell I) → Effect I → Effect I → Type 0
  EffectsRise x y e d = (to newest : Option ℕ) → LeftRise l n (top_row n all flow.bases.items flow.temps) (apply l n flow to newest e x) (apply l n flow to newest d y)

  -- plans of which the larger one may violate more and leaves a larger row
  pub record PlansRise (x y : List (Cell I)) (p q : Plan I) : Type 0 where
    pub checks : ViolationsBelow p.violations q.violations
    pub effect : EffectsRise x y p.effect q.effect

  unreached_rises : (x y : List (Cell I)) (d : Effect I) → EffectsRise x y effect.Unreached d
  unfolding apply
  unreached_rises x y d to newest = tt

  -- a plan behind checks
  pub plans_rise : (x y : List (Cell I)) (s t : Trail) → TrailsBelow s t → (e d : Effect I) → (s.goes_on ≡ true → t.goes_on ≡ true → EffectsRise x y e d) → PlansRise x y (planned s e) (planned t d)
  plans_rise x y s t h e d j = record { checks = h.checks; effect = by_way s.goes_on t.goes_on refl refl }
    where
      by_way : (a c : Bool) → s.goes_on ≡ a → t.goes_on ≡ c → EffectsRise x y (cond a e effect.Unreached) (cond c d effect.Unreached)
      by_way true true f g = j f g
      by_way true false f g = absurd (let z = h.on f in cc)
      by_way false c f g = unreached_rises x y (cond c d effect.Unreached)

  abbrev pub EffectFills : Effect I → Type 0
  EffectFills e = (to newest : Option ℕ) → LeavesFilled (apply l n flow to newest e)

  unreached_fills : EffectFills effect.Unreached
  unfolding apply
  unreached_fills to newest x h = tt

  pub plan_fills : (s : Trail) (e : Effect I) → EffectFills e → EffectFills (planned s e).effect
  plan_fills s e h = by_way s.goes_on
    where
      by_way : (a : Bool) → EffectFills (cond a e effect.Unreached)
      by_way true = h
      by_way false = unreached_fills

  -- a call whose plans rise
  pub record IsPlanned (function : LibFn) : Type 0 where
    pub rises : (arguments : List ℕ) (wanted : Option ℕ) (x y : List (Cell I)) → FlowRows l n all flow x y → PlansRise x y (plan_call l n function (call_of flow arguments wanted) x) (plan_call l n function (call_of flow arguments wanted) y)
    pub fills : (arguments : List ℕ) (wanted : Option ℕ) (x : List (Cell I)) → EffectFills (plan_call l n function (call_of flow arguments wanted) x).effect

  pub planned_call : (function : LibFn) → IsPlanned function → CallRises l n all flow function
  unfolding call_step
  planned_call function p = record {
    step = λ to arguments newest wanted site x y h. (p.rises arguments wanted x y h).effect to newest;
    checks = λ arguments wanted x y h. (p.rises arguments wanted x y h).checks;
    fills = λ to arguments newest wanted x h. p.fills arguments wanted x to newest x h;
  }
