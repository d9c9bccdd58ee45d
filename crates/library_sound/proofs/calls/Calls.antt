-- How calls go on and stop.
use Rattle.std.proofs.Common.{◌≡◌, ℕ, suc, Bool, true, false, Option, Some, None, List, [], ◌∷◌, refl, sym, subst, inl, inr}
use Rattle.std.specs.Prelude.{slice_get, ℤ, ◌≤ℤ◌, int_le, ◌&&◌}
use Rattle.std.proofs.lemmas.Int.{ints}
use Rattle.std.proofs.Common.{arith}
use Rattle.std.proofs.lemmas.Bool.{cases_Bool, and_parts, ltb-true}
use Rattle.cc_base.specs.Lattices.{LatticeOf}
use Rattle.cc_base.specs.IntegerDomains.{IntegersOf, BoundLaws}
use Rattle.cfg.specs.WellFormed.{names_of, has_result}
use Rattle.cfg.specs.declared.programs.Flow.{Flow}
use Rattle.value_domain.specs.Values.LabelSets as sets
use Rattle.value_domain.specs.Values.ValueTables.{number_value}
use Rattle.value_domain.specs.declared.values.values.Value.{Value}
use Rattle.value_domain.specs.declared.values.row_cells.Cell.{Cell}
use Rattle.transfer_checks.specs.declared.violation_sets.Violations.{Violations}
use Rattle.transfer_library.specs.Effects.{put_result, apply}
use Rattle.transfer_library_plans.specs.declared.call_plans.Effect.TheVariants as effect
use Rattle.transfer_library_plans.specs.declared.call_plans.Plan.{Plan}
use Rattle.memory_model.specs.Memory.Labels.{Labels}
use Rattle.memory_model.specs.Memory.Scalars.{Scalar, integer}
use Rattle.memory_model.specs.Effects.Worlds.{World, Why, Reply, goes, stops, drawn, drawn_from, drawn_in, OutOfDraws, Stuck}
use Rattle.semantics.specs.CfgMachine.FlowStates.{ProgramState, and_value, values_of}
use Rattle.semantics.specs.CfgMachine.FlowActs.{calling}
use Rattle.store_sound.specs.Concretization.SeenLabels.{as_set}
use Rattle.store_sound.specs.Concretization.ValueMeaning.{Naming}
use Rattle.store_sound.specs.Programs.Premises.{HasPremises}
use Rattle.transfer_sound.specs.Values.SoundSteps.{IsReached, IsStoodFor}
use Rattle.transfer_sound.proofs.values.Admitted.{AreAdmitted, none_admitted, same_admitted}
use Rattle.transfer_sound.proofs.values.NearScalars.{IsNearNumber}
use Rattle.transfer_sound.proofs.values.PutTemps.{IsResult}
use Rattle.transfer_sound.proofs.values.Replies.{stop_good, result_good}

-- ---- arguments

pub record HasFirst (temps : ℕ → Option Scalar) (items : List ℕ) (v : Scalar) : Type 0 where
  pub temp : ℕ
  pub first : slice_get items 0 ≡ Some temp
  pub has : temps temp ≡ Some v

and_some : (a : Option Scalar) (b : Option (List Scalar)) (v : Scalar) (vs : List Scalar) → and_value a b ≡ Some (v ∷ vs) → a ≡ Some v
and_some None b v vs e = cc
and_some (Some x) None v vs e = cc
and_some (Some x) (Some xs) v vs e = cc

pub first_argument : (temps : ℕ → Option Scalar) (items : List ℕ) (v : Scalar) (vs : List Scalar) → values_of temps items ≡ Some (v ∷ vs) → HasFirst temps items v
first_argument temps [] v vs e = cc
first_argument temps (t ∷ ts) v vs e = record { temp = t; first = refl; has = and_some (temps t) (values_of temps ts) v vs e }

-- ---- numbers from the outside

-- a number in its range is given, or the run stops
pub data DrawnEnd (w : World) (least most : ℤ) (reply : Reply ℤ) : Type 0 where
  gave : (z : ℤ) (draws : List ℤ) → least ≤ℤ z → z ≤ℤ most → reply ≡ goes z (record w { draws = draws }) → DrawnEnd w least most reply
  ran_out : (draws : List ℤ) → reply ≡ stops OutOfDraws (record w { draws = draws }) → DrawnEnd w least most reply

in_range : (least most z : ℤ) → (int_le least z && int_le z most) ≡ true → (least ≤ℤ z) × (z ≤ℤ most)
in_range least most z h = let p = and_parts (int_le least z) (int_le z most) h in (grind (arith, ints), grind (arith, ints))

from_end : (w : World) (least most : ℤ) (draws : List ℤ) → w.draws ≡ draws → DrawnEnd w least most (drawn_from w least most draws)
from_end w least most [] e = ran_out w.draws refl
from_end w least most (z ∷ zs) e = elim (cases_Bool (int_le least z && int_le z most)) [
  | inl f ↦ (let r = in_range least most z f in gave z zs r.0 r.1 (rw f refl))
  | inr f ↦ ran_out zs (rw f refl)
]

pub drawn_end : (w : World) (least most : ℤ) → DrawnEnd w least most (drawn w least most)
drawn_end w least most = from_end w least most w.draws refl

-- ---- what a call gives

module _ {I : Type 0} {l : LatticeOf I} {n : IntegersOf I} {gamma : I → ℤ → Type 0} (q : BoundLaws l n gamma) (flow : Flow) (p : HasPremises flow) (naming : Naming) (row : List (Cell I)) (s : ProgramState) (r : IsReached l n gamma flow naming row s) where
  pub clean : (told : Violations) → AreAdmitted told s.world.violated
  clean told = same_admitted told s.world.violated [] r.begun (none_admitted told)

  pub call_stops : (after : Option (List (Cell I))) (told : Violations) (to : Option ℕ) (why : Why) (w : World) → AreAdmitted told w.violated → IsStoodFor l n gamma flow after told (calling s to (stops why w))
  call_stops after told to why w h = stop_good l n gamma flow after told why w h

  pub call_gives : (told : Violations) (to : Option ℕ) → has_result (names_of flow) to ≡ true → (x : Value I) (v : Scalar) (w : World) → IsResult q flow p naming s.world.memory x v → w.memory ≡ s.world.memory → AreAdmitted told w.violated → IsStoodFor l n gamma flow (Some (put_result flow to x row)) told (calling s to (goes (Some v) w))
  call_gives told None has x v w result same h = stop_good l n gamma flow _ told Stuck s.world (clean told)
  call_gives told (Some t) has x v w result same h = result_good q flow p naming row s r t (ltb-true t flow.temps has) x v w result same (Some (put_result flow (Some t) x row)) told refl h

  module _ (to : Option ℕ) (has : has_result (names_of flow) to ≡ true) (newest : Option ℕ) where
    -- what a plan makes of the row is stood for
    abbrev pub GoodPlan : Plan I → Reply (Option Scalar) → Type 0
    GoodPlan plan reply = IsStoodFor l n gamma flow (apply l n flow to newest plan.effect row) plan.violations (calling s to reply)

    pub plan_stops : (plan : Plan I) (why : _) (w : World) → AreAdmitted plan.violations w.violated → GoodPlan plan (stops why w)
    plan_stops plan why w h = call_stops (apply l n flow to newest plan.effect row) plan.violations to why w h

    pub plan_gives : (told : Violations) (x : Value I) (v : Scalar) (w : World) → IsResult q flow p naming s.world.memory x v → w.memory ≡ s.world.memory → AreAdmitted told w.violated → GoodPlan (record { violations = told; effect = effect.Result x }) (goes (Some v) w)
    unfolding apply
    plan_gives told x v w result same h = call_gives told to has x v w result same h

    pub plan_is : (plan other : Plan I) (reply : Reply (Option Scalar)) → plan ≡ other → GoodPlan other reply → GoodPlan plan reply
    plan_is plan other reply e h = subst (λ z. GoodPlan z reply) (sym e) h

    -- a number with labels that it has at most
    pub number_result : (x : I) (labels : _) (z : ℤ) (la : Labels) → gamma x z → sets.labels_leq (as_set la) labels ≡ true → IsNearNumber z → IsResult q flow p naming s.world.memory (number_value l x labels) (integer z la)
    number_result x labels z la st le near = record { stands_for = (st, le); near = near; within = tt }
