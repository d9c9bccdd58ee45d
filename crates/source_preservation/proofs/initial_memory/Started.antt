-- A run of a marked unit begins in memory that is proper, where objects have their room.
use Rattle.std.proofs.Common.{◌≡◌, ◌≤◌, ◌+◌, ℕ, zero, suc, ℤ, Bool, true, false, List, [], ◌∷◌, length, take, Option, Some, refl, ap, ◌∙◌, sym, subst, arith}
use Rattle.std.specs.Prelude.{slice_get, ◌==◌}
use Rattle.std.proofs.lemmas.Bool.{eqb-true}
use Rattle.std.proofs.lemmas.Option.{same_Some}
use Rattle.c_layout.specs.CheckedUnits.{LocalView, FunctionView, UnitView}
use Rattle.lower_functions.specs.Functions.Functions.{type_or, local_type}
use Rattle.memory_model.specs.Memory.Instances.{bytes_at}
use Rattle.memory_model.specs.Effects.Worlds.{World, Reply, goes, stops}
use Rattle.memory_model.specs.Effects.UnitStarts.{parameter_instance, parameters_of, entry_parameters, world_before, start_memory, start_world}
use Rattle.semantics.specs.SourceMachine.Operations.{size_of}
use Rattle.semantics.specs.SourceMachine.SourceRuns.{name_parameters}
use Rattle.semantics.specs.SourceMachine.SourceStates.{function_at}
use Rattle.source_preservation.specs.ValueTyping.MarkLaws.{Comes}
use Rattle.source_preservation.specs.WellTyped.WellTypedStatements.{WellTypedUnit}
use Rattle.source_preservation.specs.WellTyped.WellTypedStates.{HaveRoom}
use Rattle.source_preservation.specs.InitialMemory.StartedWorlds.{IsStarted}
use Rattle.source_preservation.proofs.initial_memory.StaticInstances.{start_long, start_proper, start_has_room}
use Rattle.source_preservation.proofs.initial_memory.Parameters.{HasParameters, with_parameters_comes}

taken_at : {A : Type 0} (k : ℕ) (xs : List A) (n : ℕ) (x : A) → slice_get (take k xs) n ≡ Some x → slice_get xs n ≡ Some x
taken_at zero xs n x is = absurd cc
taken_at (suc k) [] n x is = is
taken_at (suc k) (y ∷ ys) zero x is = is
taken_at (suc k) (y ∷ ys) (suc n) x is = taken_at k ys n x is

module _ (u : UnitView) where
  -- a name is that of a parameter, counted from one on
  record IsParameter (ls : List LocalView) (from n i : ℕ) : Type 0 where
    index : ℕ
    parameter : LocalView
    counted : n ≡ from + index
    there : slice_get ls index ≡ Some parameter
    is : i ≡ parameter_instance u n

  one_named : (l : LocalView) (ls : List LocalView) (from n i : ℕ) (b : Bool) → (n == from) ≡ b → elim b as (λ _. Option ℕ) [ true ↦ Some (parameter_instance u from) | false ↦ name_parameters u (suc from) ls n ] ≡ Some i → (name_parameters u (suc from) ls n ≡ Some i → IsParameter ls (suc from) n i) → IsParameter (l ∷ ls) from n i
  one_named l ls from n i true same named more =
      let e : n ≡ from = eqb-true n from same in
      record { index = 0; parameter = l; counted = omega (arith, e); there = refl; is = sym (same_Some (parameter_instance u from) i named) ∙ ap (parameter_instance u) (sym e) }
  one_named l ls from n i false other named more =
      let p = more named in
      let c = p.counted in
      record { index = suc p.index; parameter = p.parameter; counted = omega (arith, c); there = p.there; is = p.is }

  named_parameter : (ls : List LocalView) (from n i : ℕ) → name_parameters u from ls n ≡ Some i → IsParameter ls from n i
  named_parameter [] from n i named = absurd cc
  named_parameter (l ∷ ls) from n i named = one_named l ls from n i (n == from) refl named (λ more. named_parameter ls (suc from) n i more)

  parameters_have_room : (draws : List ℤ) (w : World) → HasParameters u (entry_parameters u) (world_before u draws) w → (f : FunctionView) → function_at u u.entry ≡ Some f → HaveRoom u w.memory f (name_parameters u 0 (entry_parameters u))
  parameters_have_room draws w has f is n i named =
      let p = named_parameter (entry_parameters u) 0 n i named in
      let c = p.counted in
      let index : p.index ≡ n = omega (arith, c) in
      let local : slice_get f.locals n ≡ Some p.parameter = subst (λ k. slice_get f.locals k ≡ Some p.parameter) index (taken_at f.parameters f.locals p.index p.parameter (subst (λ o. slice_get (parameters_of o) p.index ≡ Some p.parameter) is p.there)) in
      let type : local_type f n ≡ p.parameter.ctype = ap (λ o. type_or o f.returns) local in
      let long = start_long u in
      let place : length (start_memory u) + p.index ≡ parameter_instance u n = omega (arith, long, index) in
      subst (λ t. size_of u t ≤ length (bytes_at w.memory i)) (sym type) (subst (λ k. size_of u p.parameter.ctype ≤ length (bytes_at w.memory k)) (place ∙ sym p.is) (has.room p.index p.parameter p.there))

  started : (draws : List ℤ) → WellTypedUnit u → (r : Reply (Unit {0})) → Comes (λ _ w. HasParameters u (entry_parameters u) (world_before u draws) w) r → Comes (λ _ w. IsStarted u w) r
  started draws well_typed (goes x w) has = record {
    proper = has.evolves.proper (start_proper u well_typed);
    statics = λ n o is. (let h = start_has_room u n o is in let g = has.evolves.grows n in omega (arith, h, g));
    parameters = parameters_have_room draws w has;
  }
  started draws well_typed (stops why w) has = has

pub start_comes : (u : UnitView) (draws : List ℤ) → WellTypedUnit u → Comes (λ _ w. IsStarted u w) (start_world u draws)
start_comes u draws well_typed = started u draws well_typed (start_world u draws) (with_parameters_comes u (entry_parameters u) (world_before u draws) well_typed.entered)
