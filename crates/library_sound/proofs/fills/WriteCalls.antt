-- How calls that write go on and stop.
use Rattle.std.proofs.Common.{◌≡◌, ℕ, zero, suc, Bool, true, false, cond, not, Option, Some, None, List, [], ◌∷◌, length, arith, subst, sym, refl, ap, ◌∙◌}
use Rattle.std.specs.Prelude.{slice_get, ℤ, pos, ◌≤ℤ◌}
use Rattle.std.proofs.lemmas.Bool.{ltb-true}
use Rattle.cc_base.specs.Lattices.{LatticeOf, OrderLaws}
use Rattle.cc_base.specs.IntegerDomains.{IntegersOf, BoundLaws}
use Rattle.cc_base.specs.IntegerTypes.{greatest_of}
use Rattle.cc_base.specs.declared.diagnostics.Rule.{Rule}
use Rattle.cc_base.specs.declared.diagnostics.Rule.TheVariants as rule
use Rattle.c_layout.specs.declared.leaf_lists.Class.TheVariants.{Pointer}
use Rattle.cfg.specs.WellFormed.{names_of, has_result}
use Rattle.cfg.specs.declared.programs.Flow.{Flow}
use Rattle.pointer_domain.specs.BaseSets.{bases_empty}
use Rattle.value_domain.specs.Values.LabelSets.{labels_leq}
use Rattle.value_domain.specs.declared.values.label_sets.Labels as sets
use Rattle.value_domain.specs.declared.values.values.Value.{Value}
use Rattle.value_domain.specs.declared.values.row_cells.Cell.{Cell}
use Rattle.store_cells.specs.ScalarTypes.{kind_of}
use Rattle.transfer_checks.specs.IntegerChecks.{sink_violations}
use Rattle.transfer_checks.specs.ViolationSets.{violates}
use Rattle.transfer_checks.specs.declared.library_arguments.Argument.{Argument}
use Rattle.transfer_checks.specs.declared.violation_sets.Violations.{Violations}
use Rattle.transfer_library_plans.specs.Arguments.{argument_value, value_of_argument}
use Rattle.transfer_library_plans.specs.Calls.{Call}
use Rattle.transfer_library.specs.Effects.{put_result, apply}
use Rattle.transfer_library_plans.specs.Outputs.{argument_at}
use Rattle.transfer_library_plans.specs.declared.call_plans.Plan.{Plan}
use Rattle.transfer_sound.specs.CallSteps.{call_of}
use Rattle.memory_model.specs.Memory.Labels.{Labels, is_unlabelled}
use Rattle.memory_model.specs.Memory.Bytes.{MachinePointer, into}
use Rattle.memory_model.specs.Memory.Instances.{Memory, live, bytes_at, life_at}
use Rattle.memory_model.specs.Memory.Scalars.{Scalar, integer, pointer}
use Rattle.memory_model.specs.Effects.LibraryChecks as machine
use Rattle.memory_model.specs.Effects.NumberedTables.{put_at}
use Rattle.memory_model.specs.Effects.Worlds.{World, Why, Reply, goes, stops, behind, stopped_by, Stuck, Violated}
use Rattle.semantics.specs.CfgMachine.FlowStates.{ProgramState, and_value, values_of}
use Rattle.semantics.specs.CfgMachine.FlowActs.{calling}
use Rattle.store_sound.specs.Concretization.SeenLabels.{as_set}
use Rattle.store_sound.specs.Concretization.SoundMemory.{IsPointerIn, IsWithin}
use Rattle.store_sound.specs.Concretization.ValueMeaning.{Naming, InGammaInto, InGammaPointer, InGammaScalar}
use Rattle.store_sound.specs.Concretization.RowMeaning.{InGamma}
use Rattle.store_sound.specs.Concretization.Coverage.{state_of}
use Rattle.store_sound.specs.Programs.Premises.{HasPremises}
use Rattle.transfer_sound.specs.Values.OperandTypes.{HasThirdSize}
use Rattle.transfer_sound.specs.Values.SoundSteps.{AreShort, IsReached, InGammaAfter, IsStoodFor}
use Rattle.transfer_sound.proofs.values.Admitted.{AreAdmitted, none_admitted, one_admitted, both_admitted}
use Rattle.transfer_sound.proofs.values.PutTemps.{IsResult, put_stands, put_long}
use Rattle.transfer_sound.proofs.values.Replies.{stop_good}
use Rattle.library_sound.proofs.calls.Calls.{clean, GoodPlan, plan_stops}
use Rattle.library_sound.proofs.strings.GivenPointers.{ReachEnd, into_live, into_nothing, into_ended, into_freed, reach_end, reach_of, null_told, ended_told, freed_told, given_stands, given_some}

-- ---- arguments

pub record HasArgument (temps : ℕ → Option Scalar) (items : List ℕ) (at : ℕ) (v : Scalar) : Type 0 where
  pub temp : ℕ
  pub there : slice_get items at ≡ Some temp
  pub has : temps temp ≡ Some v

both_some : (a : Option Scalar) (b : Option (List Scalar)) (v : Scalar) (vs : List Scalar) → and_value a b ≡ Some (v ∷ vs) → (a ≡ Some v) × (b ≡ Some vs)
both_some None b v vs e = cc
both_some (Some x) None v vs e = cc
both_some (Some x) (Some xs) v vs e = (cc, cc)

pub argument_there : (temps : ℕ → Option Scalar) (items : List ℕ) (vs : List Scalar) → values_of temps items ≡ Some vs → (at : ℕ) (v : Scalar) → slice_get vs at ≡ Some v → HasArgument temps items at v
argument_there temps [] vs e at v h = let d : [] ≡ vs = cc in let g : None ≡ Some v = ap (λ z. slice_get z at) d ∙ h in cc
argument_there temps (t ∷ ts) [] e at v h = cc
argument_there temps (t ∷ ts) (x ∷ xs) e zero v h = let r = both_some (temps t) (values_of temps ts) x xs e in record { temp = t; there = refl; has = r.0 ∙ h }
argument_there temps (t ∷ ts) (x ∷ xs) e (suc at) v h =
    let r = both_some (temps t) (values_of temps ts) x xs e in
    let w = argument_there temps ts xs r.1 at v h in
    record { temp = w.temp; there = w.there; has = w.has }

-- the third of three arguments is a size
pub three_sized : (temps : ℕ → Option Scalar) (items : List ℕ) (a b : Scalar) (n : ℤ) (labels : Labels) → values_of temps items ≡ Some (a ∷ (b ∷ (integer n labels ∷ []))) → HasThirdSize items temps → pos 0 ≤ℤ n
three_sized temps [] a b n labels e h = cc
three_sized temps (x ∷ []) a b n labels e h = let r = both_some (temps x) (values_of temps []) a (b ∷ (integer n labels ∷ [])) e in let d = r.1 in cc
three_sized temps (x ∷ (y ∷ [])) a b n labels e h =
    let r = both_some (temps x) (values_of temps (y ∷ [])) a (b ∷ (integer n labels ∷ [])) e in
    let t = both_some (temps y) (values_of temps []) b (integer n labels ∷ []) r.1 in
    let d = t.1 in
    cc
three_sized temps (x ∷ (y ∷ (z ∷ []))) a b n labels e h =
    let r = both_some (temps x) (values_of temps (y ∷ (z ∷ []))) a (b ∷ (integer n labels ∷ [])) e in
    let t = both_some (temps y) (values_of temps (z ∷ [])) b (integer n labels ∷ []) r.1 in
    let u = both_some (temps z) (values_of temps []) (integer n labels) [] t.1 in
    h n labels u.0
three_sized temps (x ∷ (y ∷ (z ∷ (w ∷ ws)))) a b n labels e h =
    let r = both_some (temps x) (values_of temps (y ∷ (z ∷ (w ∷ ws)))) a (b ∷ (integer n labels ∷ [])) e in
    let t = both_some (temps y) (values_of temps (z ∷ (w ∷ ws))) b (integer n labels ∷ []) r.1 in
    let u = both_some (temps z) (values_of temps (w ∷ ws)) (integer n labels) [] t.1 in
    absurd (no_more (temps w) (values_of temps ws) u.1)
  where
    no_more : (v : Option Scalar) (vs : Option (List Scalar)) → and_value v vs ≡ Some [] → ⊥
    no_more None vs e = cc
    no_more (Some v) None e = cc
    no_more (Some v) (Some vs) e = cc

pub behind_behind : {A B C : Type 0} (a : Reply A) (f : A → World → Reply B) (g : B → World → Reply C) → behind (behind a f) g ≡ behind a (λ x w. behind (f x w) g)
behind_behind (goes x w) f g = refl
behind_behind (stops why w) f g = refl

labels_shown : (t : Labels) (labels : sets.Labels) → labels_leq (as_set t) labels ≡ true → not (is_unlabelled t) ≡ true → violates (sink_violations labels) rule.Taintsink ≡ true
labels_shown t labels h e = grind arith

-- a label of the size is told
pub sink_told : (t : Labels) (told : Violations) (labels : sets.Labels) → labels_leq (as_set t) labels ≡ true → ((r : Rule) → violates (sink_violations labels) r ≡ true → violates told r ≡ true) → AreAdmitted told (cond (not (is_unlabelled t)) (rule.Taintsink ∷ []) [])
sink_told t told labels below tells = by_flag (not (is_unlabelled t)) refl
  where
    by_flag : (b : Bool) → not (is_unlabelled t) ≡ b → AreAdmitted told (cond b (rule.Taintsink ∷ []) [])
    by_flag false e = none_admitted told
    by_flag true e = one_admitted told rule.Taintsink (tells rule.Taintsink (labels_shown t labels below e))

module _ {I : Type 0} {l : LatticeOf I} {n : IntegersOf I} {gamma : I → ℤ → Type 0} (o : OrderLaws l) (q : BoundLaws l n gamma) (flow : Flow) (p : HasPremises flow) (naming : Naming) (row : List (Cell I)) (s : ProgramState) (r : IsReached l n gamma flow naming row s) (to : Option ℕ) (has : has_result (names_of flow) to ≡ true) (newest : Option ℕ) where
  abbrev pub Good : Plan I → Reply (Option Scalar) → Type 0
  Good plan reply = GoodPlan q flow p naming row s r to has newest plan reply

  -- the world at the start of a call, with what it has violated so far
  abbrev pub world_with : List Rule → World
  world_with found = record (s.world) { violated = found }

  module _ (plan : Plan I) (found : List Rule) (fine : AreAdmitted plan.violations found) where
    pub told_stop : (rl : Rule) → violates plan.violations rl ≡ true → Good plan (stopped_by (world_with found) rl)
    told_stop rl h = plan_stops q flow p naming row s r to has newest plan Violated _ (both_admitted plan.violations found _ fine (one_admitted plan.violations rl h))

    pub plain_stop : (why : Why) → Good plan (stops why (world_with found))
    plain_stop why = plan_stops q flow p naming row s r to has newest plan why (world_with found) fine

    pub cond_good : (b : Bool) (x y : Reply (Option Scalar)) → (b ≡ true → Good plan x) → (b ≡ false → Good plan y) → Good plan (cond b x y)
    cond_good true x y h k = h refl
    cond_good false x y h k = k refl

  -- ---- what goes on with another memory

  module _ (plan : Plan I) (found : List Rule) (fine : AreAdmitted plan.violations found) (memory : Memory) (lengths : (j : ℕ) → length (bytes_at memory j) ≡ length (bytes_at s.world.memory j)) (after : List (Cell I)) (long : length after ≡ length row)
      (stands_after : InGamma l n gamma flow naming after (record { memory = memory; temps = s.temps; entered = s.bases })) (x : Value I) (v : Scalar) (result : IsResult q flow p naming memory x v) (is : apply l n flow to newest plan.effect row ≡ Some (put_result flow to x after)) where
    abbrev world_after : World
    world_after = record (s.world) { memory = memory; violated = found }

    short_after : AreShort flow.model memory
    short_after j = subst (λ z. pos z ≤ℤ greatest_of (kind_of flow.model Pointer true)) (sym (lengths j)) (r.short j)

    by_result : (t : Option ℕ) → has_result (names_of flow) t ≡ true → IsStoodFor l n gamma flow (Some (put_result flow t x after)) plan.violations (calling s t (goes (Some v) world_after))
    by_result None h = stop_good l n gamma flow _ plan.violations Stuck s.world (clean q flow p naming row s r plan.violations)
    by_result (Some t) h = record {
      goes_on = λ u w e.
          let now : ProgramState = record s { at = suc s.at; temps = put_at s.temps t v; world = world_after } in
          let a : now ≡ u = cc in
          let b : world_after ≡ w = cc in
          let here : InGammaAfter l n gamma flow (Some (put_result flow (Some t) x after)) (record now { world = world_after }) = record {
            row = put_result flow (Some t) x after;
            is = refl;
            long = put_long q flow p naming after (long ∙ r.long) (record { memory = memory; temps = s.temps; entered = s.bases }) stands_after t (ltb-true t flow.temps h) x v result;
            naming = naming;
            stands_for = put_stands q flow p naming after (long ∙ r.long) (record { memory = memory; temps = s.temps; entered = s.bases }) stands_after t (ltb-true t flow.temps h) x v result;
            short = short_after;
          } in
          subst (λ z. InGammaAfter l n gamma flow (Some (put_result flow (Some t) x after)) (record z { world = w })) a
          (subst (λ z. InGammaAfter l n gamma flow (Some (put_result flow (Some t) x after)) (record now { world = z })) b here);
      admits = fine;
    }

    pub written_good : Good plan (goes (Some v) world_after)
    written_good = subst (λ z. IsStoodFor l n gamma flow z plan.violations (calling s to (goes (Some v) world_after))) (sym is) (by_result to has)

  module _ (items : List ℕ) (wanted : Option ℕ) (vs : List Scalar) (e : values_of s.temps items ≡ Some vs) where
    abbrev pub the_call : Call
    the_call = call_of flow items wanted

    abbrev pub value_of : ℕ → Value I
    value_of at = argument_value l n the_call row at

    abbrev pub given_at : ℕ → Argument I
    given_at at = argument_at l n the_call row at

    pub argument_stands : (at : ℕ) (v : Scalar) → slice_get vs at ≡ Some v → InGammaScalar gamma naming s.world.memory (argument_value l n (call_of flow items wanted) row at) v
    unfolding argument_value
    argument_stands at v h =
        let a = argument_there s.temps items vs e at v h in
        subst (λ y. InGammaScalar gamma naming s.world.memory (value_of_argument l n flow row y) v) (sym a.there) (r.stands_for.temps a.temp v a.has)

    pub argument_in : (at : ℕ) (m : MachinePointer) → slice_get vs at ≡ Some (pointer m) → IsPointerIn s.world.memory m
    argument_in at m h = let a = argument_there s.temps items vs e at (pointer m) h in r.stands_for.held.within a.temp (pointer m) a.has

    -- ---- one pointer argument

    -- the plan tells the rule at which the machine stops, or both go on with what the pointer reaches
    module _ (plan : Plan I) (found : List Rule) (fine : AreAdmitted plan.violations found) (at : ℕ) (m : MachinePointer) (there : slice_get vs at ≡ Some (pointer m)) (tells : (rl : Rule) → violates (given_at at).violations rl ≡ true → violates plan.violations rl ≡ true) (further : machine.Reach → World → Reply (Option Scalar)) (on : (i offset lo hi : ℕ) → m ≡ into i offset lo hi → life_at s.world.memory i ≡ live → Good plan (further (reach_of i offset hi) (world_with found))) where
      stands_here : InGammaPointer gamma naming s.world.memory (value_of at).pointer m
      stands_here = argument_stands at (pointer m) there

      by_end : ReachEnd (world_with found) m → Good plan (behind (machine.reached m (world_with found)) further)
      by_end (into_live i offset lo hi is alive) =
          let a : machine.reached m (world_with found) ≡ goes (reach_of i offset hi) (world_with found) = ap (λ z. machine.reached z (world_with found)) is ∙ ap (λ z. machine.reached_by (world_with found) z i offset hi) alive in
          subst (λ z. Good plan (behind z further)) (sym a) (on i offset lo hi is alive)
      by_end (into_nothing a is) =
          subst (λ z. Good plan (behind z further)) (sym a) (told_stop plan found fine rule.Nullref (tells rule.Nullref (null_told o q flow p.shaped naming row (state_of s) r.stands_for (value_of at).pointer (subst (InGammaPointer gamma naming s.world.memory (value_of at).pointer) is stands_here))))
      by_end (into_ended i offset lo hi is life) =
          let a : machine.reached m (world_with found) ≡ stopped_by (world_with found) rule.Nullref = ap (λ z. machine.reached z (world_with found)) is ∙ ap (λ z. machine.reached_by (world_with found) z i offset hi) life in
          subst (λ z. Good plan (behind z further)) (sym a) (told_stop plan found fine rule.Nullref (tells rule.Nullref (ended_told o q flow p.shaped naming row (state_of s) r.stands_for (value_of at).pointer i offset lo hi life (subst (InGammaPointer gamma naming s.world.memory (value_of at).pointer) is stands_here))))
      by_end (into_freed i offset lo hi is life) =
          let a : machine.reached m (world_with found) ≡ stopped_by (world_with found) rule.Accfree = ap (λ z. machine.reached z (world_with found)) is ∙ ap (λ z. machine.reached_by (world_with found) z i offset hi) life in
          subst (λ z. Good plan (behind z further)) (sym a) (told_stop plan found fine rule.Accfree (tells rule.Accfree (freed_told o q flow p.shaped naming row (state_of s) r.stands_for (value_of at).pointer i offset lo hi life (subst (InGammaPointer gamma naming s.world.memory (value_of at).pointer) is stands_here))))

      pub reach_good : Good plan (behind (machine.reached m (world_with found)) further)
      reach_good = by_end (reach_end (world_with found) m)

    module _ (at : ℕ) (i offset lo hi : ℕ) (there : slice_get vs at ≡ Some (pointer (into i offset lo hi))) (alive : life_at s.world.memory i ≡ live) where
      pub given_within : IsWithin s.world.memory i offset lo hi
      given_within = argument_in at (into i offset lo hi) there

      pub goes_given : not (bases_empty (given_at at).rest.bases) ≡ true
      goes_given = given_some o q flow p.shaped naming row (state_of s) r.stands_for (value_of at).pointer i offset lo hi alive (argument_stands at (pointer (into i offset lo hi)) there) given_within

      pub given_into : InGammaInto gamma naming s.world.memory (given_at at).rest i offset lo hi
      given_into = given_stands o q flow p.shaped naming row (state_of s) r.stands_for (value_of at).pointer i offset lo hi alive (argument_stands at (pointer (into i offset lo hi)) there) given_within
