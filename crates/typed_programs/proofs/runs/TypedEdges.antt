-- Each way along an edge of a typed program leaves a typed state, where the run goes on.
use Rattle.std.proofs.Common.{◌≡◌, ℕ, Bool, true, false, cond, Option, Some, None, List, [], ◌∷◌, arith}
use Rattle.std.specs.Prelude.{ℤ, slice_get}
use Rattle.std.specs.List.{Contains}
use Rattle.std.proofs.lemmas.List.Elements.{Contains-append_right}
use Rattle.std.proofs.lemmas.Option.{same_Some}
use Rattle.c_layout.specs.StructViews.{StructView}
use Rattle.c_layout.specs.Types.{Ty}
use Rattle.c_layout.specs.declared.data_model.Model.{Model}
use Rattle.cfg.specs.declared.flow_edges.Side.{Side}
use Rattle.cfg.specs.declared.flow_edges.Side.TheVariants as side
use Rattle.cfg.specs.declared.flow_edges.Test.{Test}
use Rattle.cfg.specs.declared.programs.Flow.{Flow}
use Rattle.lower_templates.specs.Worklist.Pieces.{Way, Always, When, Case, Other, NoLine, Line}
use Rattle.memory_model.specs.Memory.Labels.{no_labels}
use Rattle.memory_model.specs.Memory.Scalars.{Scalar, integer}
use Rattle.memory_model.specs.Effects.NumberedTables.{put_at}
use Rattle.memory_model.specs.Effects.Tests.{TestedSide, object, constant, nothing, pass_test, pass_case}
use Rattle.memory_model.specs.Effects.Worlds.{World, Reply, goes, stops}
use Rattle.lower_templates.specs.Views.ProgramViews.{EdgeView, FlowView, flow_view}
use Rattle.semantics.specs.CfgMachine.FlowStates.{ProgramState}
use Rattle.semantics.specs.CfgMachine.FlowEdges.{is_taken, edge_taken, with_side, in_world, testing, integer_in, matching, with_put, on_way}
use Rattle.source_preservation.specs.Memory.GoingWorlds.{WhenGoing}
use Rattle.source_preservation.proofs.memory.Replies.{when_behind}
use Rattle.typed_programs.specs.Types.StandingTypes.{AreLaidOut}
use Rattle.typed_programs.specs.Types.TypedStates.{Temporaries}
use Rattle.typed_programs.specs.Types.TypedPrograms.{structs_of, IsKept, PutsKnown, IsTypedWay}
use Rattle.typed_programs.specs.Types.EffectLaws.{KeepsTypes}
use Rattle.typed_programs.proofs.runs.TypeLaws.{TypeLaws}
use Rattle.typed_programs.proofs.runs.KnownValues.{Types}
use Rattle.typed_programs.proofs.runs.TypedInstructions.{when_is, when_some}
use Rattle.typed_programs.proofs.runs.TypedStates.{IsTypedBy, world_typed, temps_typed, kept_known, put_known}

-- ---- the edge that is taken

pub taken_among : (v : Scalar) (es : List EdgeView) (e : EdgeView) → edge_taken v es ≡ Some e → Contains es e
taken_among v [] e is = cc
taken_among v (x ∷ xs) e is = by_test (is_taken v x.taken) (taken_among v xs e) is
  where
    by_test : (b : Bool) → (edge_taken v xs ≡ Some e → Contains xs e) → cond b (Some x) (edge_taken v xs) ≡ Some e → Contains (x ∷ xs) e
    by_test true later is = (0, omega arith, same_Some x e is)
    by_test false later is = Contains-append_right (x ∷ []) xs e (later is)

-- ---- sides

side_when : (P : ProgramState → World → Type 0) (s : ProgramState) (x : Side) (use_it : TestedSide → Reply ProgramState) → ((y : TestedSide) → WhenGoing P (use_it y)) → WhenGoing P (with_side s x use_it)
side_when P s (side.Object base kind) use_it h = when_some P s (s.bases base) (λ i. use_it (object i kind)) (λ i e. h (object i kind))
side_when P s (side.Number n) use_it h = h (constant n)
side_when P s side.Null use_it h = h nothing

module _ (laws : TypeLaws) (flow : Flow) (laid : AreLaidOut flow.model (structs_of flow)) (objects : ℕ → Ty) where
  abbrev f : FlowView
  f = flow_view flow

  abbrev structs : List StructView
  structs = structs_of flow

  abbrev m : Model
  m = flow.model

  abbrev Typed : Types → Temporaries → ProgramState → Type 0
  Typed types known s = IsTypedBy structs m.pointer objects types known s

  module _ (types : Types) (before : Temporaries) (s : ProgramState) (h : Typed types before s) where
    -- a typed state in the same place
    abbrev Still : Temporaries → ProgramState → World → Type 0
    Still known t w = Typed types known (record t { world = w })

    world_still : (reply : Reply (Unit {0})) → ((done : _) (w : World) → reply ≡ goes done w → KeepsTypes structs m.pointer types s.world w) → WhenGoing (Still before) (in_world s reply)
    world_still reply keeps = when_behind (λ done w. KeepsTypes structs m.pointer types s.world w) (Still before) reply (λ done w. goes (record s { world = w }) w) (when_is (λ done w. KeepsTypes structs m.pointer types s.world w) reply keeps) (λ done w k. world_typed structs m.pointer objects types before s w h k)

    tested : (test : Option Test) → WhenGoing (Still before) (testing f s test)
    tested None = h
    tested (Some t) = side_when (Still before) s t.left _ (λ one. side_when (Still before) s t.right _ (λ other. world_still (pass_test m (record { left = one; rel = t.rel; right = other; common = t.common }) s.world) (λ done w e. laws.tests m structs m.pointer types (record { left = one; rel = t.rel; right = other; common = t.common }) s.world w done h.memory e)))

    matched : (value : ℤ) (base : Option ℕ) → WhenGoing (Still before) (matching f s value base)
    matched value None = h
    matched value (Some base) = when_some (Still before) s (slice_get flow.bases.items base) _ (λ b there. when_some (Still before) s (s.bases base) _ (λ i named. world_still (pass_case m i (integer_in b) value s.world) (λ done w e. laws.cases m structs m.pointer types i (integer_in b) value s.world w done h.memory e)))

    module _ (after : Temporaries) where
      kept_still : (t : ProgramState) (w : World) → Still before t w → IsKept before after → Still after t w
      kept_still t w k kept = temps_typed structs m.pointer objects types before after (record t { world = w }) t.temps k (kept_known laws m structs laid types before after t.temps k.temps kept)

      put_still : (puts : Option (ℕ × ℤ)) → PutsKnown puts before after → (t : ProgramState) (w : World) → Still before t w → Still after (with_put puts t) w
      put_still None kept t w k = kept_still t w k kept
      put_still (Some p) gives t w k = temps_typed structs m.pointer objects types before after (record t { world = w }) (put_at t.temps p.0 (integer p.1 no_labels)) k (put_known laws m structs laid types before after t.temps p.0 None (integer p.1 no_labels) k.temps tt gives)

      here : IsKept before after → Still after s s.world
      here kept = kept_still s s.world h kept

      pub way_still : (x : Way) → IsTypedWay x before after → WhenGoing (Still after) (on_way f s x)
      way_still Always kept = here kept
      way_still (When truth test puts) typed = when_behind (Still before) (Still after) (testing f s test) (λ t w. goes (with_put puts t) w) (tested test) (λ t w k. put_still puts typed t w k)
      way_still (Case test) kept = moved (matching f s test.value test.object) (matched test.value test.object)
        where
          moved : (reply : Reply ProgramState) → WhenGoing (Still before) reply → WhenGoing (Still after) reply
          moved (goes t w) k = kept_still t w k kept
          moved (stops why w) k = tt
      way_still (Other values) kept = here kept
      way_still NoLine kept = here kept
      way_still Line kept = here kept
