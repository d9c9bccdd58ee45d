-- The run of a typed program under no numbers of the outside stands in typed states.
use Rattle.std.proofs.Common.{◌≡◌, ℕ, zero, suc, Option, Some, None, List, [], subst, sym, refl, ap, ◌∙◌, inl, inr}
use Rattle.std.specs.Prelude.{pos, slice_get}
use Rattle.std.specs.List.{Contains}
use Rattle.cc_base.specs.declared.diagnostics.Place.{Place}
use Rattle.c_layout.specs.CheckedUnits.{UnitView}
use Rattle.c_layout.specs.StructViews.{StructView}
use Rattle.c_layout.specs.declared.data_model.Model.{Model}
use Rattle.cfg.specs.WellFormed.{On, leads}
use Rattle.cfg.specs.declared.machine_instructions.Instruction.{Instruction}
use Rattle.cfg.specs.declared.machine_instructions.Operation.{Operation}
use Rattle.cfg.specs.declared.programs.Flow.{Flow}
use Rattle.lower_templates.specs.Worklist.Acts.{act, Step}
use Rattle.diagnose.specs.Diagnostics.AdmittedRules.{instructions_in, instructions_of}
use Rattle.memory_model.specs.Memory.Labels.{no_labels}
use Rattle.memory_model.specs.Memory.Scalars.{Scalar, integer}
use Rattle.memory_model.specs.Effects.UnitStarts.{start_world}
use Rattle.memory_model.specs.Effects.Worlds.{World, Reply, goes, stops, Violation}
use Rattle.lower_templates.specs.Views.ProgramViews.{EdgeView, FlowView, flow_view}
use Rattle.semantics.specs.CfgMachine.FlowStates.{ProgramState, FlowRun, running, stopped}
use Rattle.semantics.specs.CfgMachine.FlowEdges.{edge_taken, edges_of, at_block, along, on_way}
use Rattle.semantics.specs.CfgMachine.FlowStarts.{begun_by, flow_begin}
use Rattle.semantics.specs.CfgMachine.FlowSteps.{block_of, on_edge, switching, begun, act_step, run_by, instruction_step, flow_step, flow_steps}
use Rattle.run_exact.proofs.Blocks.{is_at, goes_or_ends}
use Rattle.source_preservation.specs.Memory.GoingWorlds.{WhenGoing}
use Rattle.source_preservation.proofs.memory.Replies.{when_more, when_behind, when_number}
use Rattle.typed_programs.specs.Types.TypedStates.{Temporaries, IsTypedMemory, IsTyped}
use Rattle.typed_programs.specs.Types.TypedPrograms.{structs_of, IsKept, IsTypedOperation, jumps, branches, switches, ends_run, first_types, Typing, IsTypedProgram}
use Rattle.typed_programs.proofs.runs.TypeLaws.{TypeLaws}
use Rattle.typed_programs.proofs.runs.KnownValues.{Types}
use Rattle.typed_programs.proofs.runs.TypedEdges.{taken_among, way_still}
use Rattle.typed_programs.proofs.runs.TypedInstructions.{when_some, IsNext, instruction}
use Rattle.typed_programs.proofs.runs.TypedStates.{IsTypedBy, typed_of, by_types, same_typed, temps_typed, place_typed, kept_known}

module _ (laws : TypeLaws) (flow : Flow) (u : UnitView) (typing : Typing) (p : IsTypedProgram flow u typing) where
  abbrev f : FlowView
  f = flow_view flow

  abbrev structs : List StructView
  structs = structs_of flow

  abbrev m : Model
  m = flow.model

  abbrev Typed : Types → Temporaries → ProgramState → Type 0
  Typed types known s = IsTypedBy structs m.pointer typing.objects types known s

  -- what is known where the run stands
  abbrev known_at : ProgramState → Temporaries
  known_at s = typing.known s.block s.at

  -- a run that stands there with this world is in a typed state
  record StandsTyped (t : ProgramState) (w : World) : Type 0 where
    types : Types
    typed : Typed types (known_at t) (record t { world = w })

  -- ---- one instruction

  module _ (types : Types) (s : ProgramState) (h : Typed types (known_at s) s) (i : Instruction) (there : slice_get (instructions_of flow s.block) s.at ≡ Some i) where
    abbrev before : Temporaries
    before = known_at s

    abbrev after : Temporaries
    after = typing.known s.block (suc s.at)

    along_stands : (leads i.operation ≡ On → ⊥) → IsKept before after → (e : EdgeView) → Contains (edges_of f (block_of f s.block)) e → WhenGoing StandsTyped (along f s (Some e))
    along_stands off kept e among = when_behind (λ t w. Typed types (typing.known e.to 0) (record t { world = w })) StandsTyped (on_way f s e.taken) (λ t w. goes (at_block e.to t) w)
        (way_still laws flow p.laid typing.objects types after s (temps_typed structs m.pointer typing.objects types before after s s.temps h (kept_known laws m structs p.laid types before after s.temps h.temps kept)) (typing.known e.to 0) e.taken (p.edges s.block s.at i e there off among))
        (λ t w k. record { types = types; typed = place_typed structs m.pointer typing.objects types (typing.known e.to 0) (record t { world = w }) e.to 0 k })

    edge_stands : (leads i.operation ≡ On → ⊥) → IsKept before after → (v : Scalar) → WhenGoing StandsTyped (on_edge f s v)
    edge_stands off kept v = by_edge (edge_taken v (edges_of f (block_of f s.block))) refl
      where
        by_edge : (e : Option EdgeView) → edge_taken v (edges_of f (block_of f s.block)) ≡ e → WhenGoing StandsTyped (along f s e)
        by_edge None is = tt
        by_edge (Some e) is = along_stands off kept e (taken_among v (edges_of f (block_of f s.block)) e is)

    way_stands : (o : Operation) → IsTypedOperation flow typing.objects before after o → (leads o ≡ On → ⊥) → (leads i.operation ≡ On → ⊥) → WhenGoing StandsTyped (act_step f (act o) s)
    way_stands _ (jumps kept) off ends = edge_stands ends kept (integer (pos 0) no_labels)
    way_stands _ (branches from kind kept) off ends = when_some StandsTyped s (s.temps from) (on_edge f s) (λ v e. edge_stands ends kept v)
    way_stands _ (switches from kind kept) off ends = when_some StandsTyped s (s.temps from) (switching f s) (λ v e. when_number StandsTyped v s.world (λ n labels w. on_edge f s v) (λ n labels is. edge_stands ends kept v))
    way_stands _ ends_run off ends = tt
    way_stands _ _ off ends = absurd (off refl)

    next_stands : (t : ProgramState) (w : World) → IsNext laws flow p.laid typing.objects p.bases after s t w → StandsTyped t w
    next_stands t w k = record { types = k.types; typed = subst (λ z. Typed k.types z (record t { world = w })) known_is k.typed }
      where
        known_is : after ≡ known_at t
        known_is = ap (λ z. typing.known z (suc s.at)) (sym k.block) ∙ ap (typing.known t.block) (sym k.at)

    step_stands : WhenGoing StandsTyped (act_step f (act i.operation) s)
    step_stands = elim (goes_or_ends i) [
      | inl on ↦ when_more (IsNext laws flow p.laid typing.objects p.bases after s) StandsTyped (act_step f (act i.operation) s) next_stands (instruction laws flow p.laid typing.objects p.bases types before after s h i.operation (p.steps s.block s.at i there) on)
      | inr off ↦ way_stands i.operation (p.steps s.block s.at i there) off off
    ]

  -- ---- runs

  abbrev pub IsTypedRun : FlowRun → Type 0
  IsTypedRun (running s found) = IsTyped structs m.pointer typing.objects (known_at s) s
  IsTypedRun (stopped why w found) = Unit {0}

  reply_typed : (found : List Violation) (place : Place) (reply : Reply ProgramState) → WhenGoing StandsTyped reply → IsTypedRun (run_by found place reply)
  reply_typed found place (goes t w) k = typed_of structs m.pointer typing.objects k.types (known_at t) (record t { world = w }) k.typed
  reply_typed found place (stops why w) k = tt

  step_typed : (found : List Violation) (s : ProgramState) → IsTyped structs m.pointer typing.objects (known_at s) s → (o : Option Step) → slice_get (block_of f s.block).steps s.at ≡ o → IsTypedRun (instruction_step f found s o)
  step_typed found s h None e = tt
  step_typed found s h (Some i) e =
      let k = is_at flow s.block s.at i e in
      let there : slice_get (instructions_of flow s.block) s.at ≡ Some k.instruction = ap (λ z. slice_get (instructions_in z) s.at) k.block_is ∙ k.is in
      let begins : Typed h.types (known_at s) (begun s) = same_typed structs m.pointer typing.objects h.types (known_at s) s (begun s).world (by_types structs m.pointer typing.objects (known_at s) s h) refl in
      reply_typed found i.at (act_step f i.does (begun s)) (subst (λ (z : Step). WhenGoing StandsTyped (act_step f z.does (begun s))) k.same (step_stands h.types (begun s) begins k.instruction there))

  next_typed : (r : FlowRun) → IsTypedRun r → IsTypedRun (flow_step f r)
  next_typed (running s found) h = step_typed found s h (slice_get (block_of f s.block).steps s.at) refl
  next_typed (stopped why w found) h = tt

  -- ---- the start

  first_memory : (w : World) (done : _) → start_world u [] ≡ goes done w → IsTypedMemory structs m.pointer (first_types u) w.memory
  first_memory w done e = subst (λ z. IsTypedMemory z m.pointer (first_types u) w.memory) p.structures (subst (λ (z : Model). IsTypedMemory u.structs z.pointer (first_types u) w.memory) p.model (laws.starts u [] w done p.first e).0)

  start_typed : (reply : Reply (Unit {0})) → start_world u [] ≡ reply → IsTypedRun (begun_by u f reply)
  start_typed (goes done w) e =
      let k = laws.starts u [] w done p.first e in
      record {
        types = first_types u;
        bases = p.named;
        there = k.1;
        declared = k.2;
        temps = λ t k v known there. let none = p.begins t in cc;
        memory = first_memory w done e;
      }
  start_typed (stops why w) e = tt

  pub run_typed : (count : ℕ) → IsTypedRun (flow_steps f count (flow_begin u f []))
  run_typed zero = start_typed (start_world u []) refl
  run_typed (suc count) = next_typed (flow_steps f count (flow_begin u f [])) (run_typed count)
