-- A program has types where its opened program has.
use Rattle.std.proofs.Common.{◌≡◌, ℕ, zero, suc, ◌+◌, ◌==◌, true, ◌&&◌, nat_lt, List, [], ◌∷◌, map, length, take, drop, Option, Some, None, slice_get, get_or, refl, ap, sym, subst, ◌∙◌, arith}
use Rattle.std.specs.List.{Contains}
use Rattle.std.proofs.lemmas.Bool.{and_parts, eqb-true}
use Rattle.cc_base.specs.declared.limit_table.Limits.{Limits}
use Rattle.c_layout.specs.CheckedUnits.{UnitView}
use Rattle.c_layout.specs.StructViews.{StructView}
use Rattle.c_layout.specs.Types.{Ty, Void}
use Rattle.c_layout.specs.declared.data_model.Model.{Model}
use Rattle.cfg.specs.WellFormed.{On, leads, is_well_formed}
use Rattle.cfg.specs.declared.basic_blocks.BasicBlock.{BasicBlock}
use Rattle.cfg.specs.declared.flow_edges.Edge.{Edge}
use Rattle.cfg.specs.declared.machine_instructions.Instruction.{Instruction}
use Rattle.cfg.specs.declared.programs.Flow.{Flow}
use Rattle.lower.specs.Inlining.Inlinings.{ProgramView}
use Rattle.lower_templates.specs.Worklist.Acts.{Act, act, step}
use Rattle.semantics.specs.CfgMachine.FlowEdges.{edges_of}
use Rattle.semantics.specs.CfgMachine.FlowSteps.{block_or, block_of}
use Rattle.typed_programs.specs.Types.TypedPrograms.{structs_of, IsTypedOperation, IsTypedWay}
use Rattle.typed_programs.specs.Types.TypedStates.{Temporaries}
use Rattle.lower_templates.specs.Views.ProgramViews.{BlockView, block, EdgeView, edge, flow_view}
use Rattle.diagnose.specs.Diagnostics.AdmittedRules.{instructions_in, instructions_of}
use Rattle.store_sound.proofs.operations.Slices.{get_take, get_drop, get_map}
use Rattle.store_sound.proofs.programs.ShapedBases.{all_at}
use Rattle.typed_programs.proofs.Blocks.{block_facts, last_is}
use Rattle.typed_lowering.specs.Conversions.TypedActs.{IsTypedAct}
use Rattle.typed_lowering.specs.Conversions.ProgramLaws.{steps_of, steps_in, IsTypedInlining}
use Rattle.typed_lowering.proofs.units.TypedOperations.{typed_operation}

-- ---- lists

held : {X : Type 0} (xs : List X) (x : X) → Contains xs x → (k : ℕ) × (slice_get xs k ≡ Some x)
held [] x (k, less, at) = absurd (omega (arith, less))
held (y ∷ ys) x (zero, less, at) = (0, ap Some at)
held (y ∷ ys) x (suc k, less, at) = let (j, is) = held ys x (k, omega (arith, less), at) in (suc j, is)

some_is : {X : Type 0} (x y : X) → Some x ≡ Some y → x ≡ y
some_is x y e = cc

listed : {X : Type 0} (xs : List X) (k : ℕ) (x : X) → slice_get xs k ≡ Some x → Contains xs x
listed [] k x is = absurd (cc)
listed (y ∷ ys) zero x is = (0, omega arith, some_is y x is)
listed (y ∷ ys) (suc k) x is = let (j, less, at) = listed ys k x is in (suc j, omega (arith, less), at)

drop_map : {X Y : Type 0} (f : X → Y) (n : ℕ) (xs : List X) → drop n (map f xs) ≡ map f (drop n xs)
drop_map f zero xs = refl
drop_map f (suc n) [] = refl
drop_map f (suc n) (x ∷ xs) = drop_map f n xs

take_map : {X Y : Type 0} (f : X → Y) (n : ℕ) (xs : List X) → take n (map f xs) ≡ map f (take n xs)
take_map f zero xs = refl
take_map f (suc n) [] = refl
take_map f (suc n) (x ∷ xs) = ap (λ ys. f x ∷ ys) (take_map f n xs)

get_mapped : {X Y : Type 0} (f : X → Y) (xs : List X) (k : ℕ) (x : X) → slice_get xs k ≡ Some x → slice_get (map f xs) k ≡ Some (f x)
get_mapped f [] k x is = absurd (cc)
get_mapped f (y ∷ xs) zero x is = ap (λ z. Some (f z)) (some_is y x is)
get_mapped f (y ∷ xs) (suc k) x is = get_mapped f xs k x is

length_map : {X Y : Type 0} (f : X → Y) (xs : List X) → length (map f xs) ≡ length xs
length_map f [] = refl
length_map f (x ∷ xs) = ap suc (length_map f xs)

-- ---- blocks

-- the types of bases, and one where there is no base
abbrev pub type_at : List Ty → ℕ → Ty
type_at types b = get_or types b Void

pub type_is : (types : List Ty) (b : ℕ) (t : Ty) → slice_get types b ≡ Some t → t ≡ type_at types b
type_is [] b t is = absurd (cc)
type_is (x ∷ types) zero t is = sym (some_is x t is)
type_is (x ∷ types) (suc b) t is = type_is types b t is

module _ (flow : Flow) (p : ProgramView) (blocks : map block flow.blocks.items ≡ p.blocks) where
  -- the instructions of a block are its steps
  steps_same : (b : ℕ) → map step (instructions_of flow b) ≡ steps_in p b
  steps_same b = by flow.blocks.items b ∙ ap (λ bs. steps_of (slice_get bs b)) blocks
    where
      by : (bs : List BasicBlock) (n : ℕ) → map step (instructions_in (slice_get bs n)) ≡ steps_of (slice_get (map block bs) n)
      by [] n = refl
      by (b ∷ bs) zero = refl
      by (b ∷ bs) (suc n) = by bs n

  step_there : (b at : ℕ) (i : Instruction) → slice_get (instructions_of flow b) at ≡ Some i → slice_get (steps_in p b) at ≡ Some (step i)
  step_there b at i is = subst (λ xs. slice_get xs at ≡ Some (step i)) (steps_same b) (get_mapped step (instructions_of flow b) at i is)

  count_same : (b : ℕ) → length (instructions_of flow b) ≡ length (steps_in p b)
  count_same b = sym (length_map step (instructions_of flow b)) ∙ ap length (steps_same b)

  -- ---- what instructions and edges do

  module _ (u : UnitView) (structures : u.structs ≡ structs_of flow) (model : u.model ≡ flow.model) (o : IsTypedInlining u p) where
    same_act : (before after : Temporaries) (a : Act) → IsTypedAct u.structs u.model.pointer (slice_get o.types) before after a → IsTypedAct (structs_of flow) flow.model.pointer (slice_get o.types) before after a
    same_act before after a is = subst (λ (m : Model). IsTypedAct (structs_of flow) m.pointer (slice_get o.types) before after a) model (subst (λ (structs : List StructView). IsTypedAct structs u.model.pointer (slice_get o.types) before after a) structures is)

    pub typed_steps : (b at : ℕ) (i : Instruction) → slice_get (instructions_of flow b) at ≡ Some i → IsTypedOperation flow (type_at o.types) (o.known b at) (o.known b (suc at)) i.operation
    typed_steps b at i is = typed_operation flow (slice_get o.types) (type_at o.types) (type_is o.types) (o.known b at) (o.known b (suc at)) i.operation (same_act (o.known b at) (o.known b (suc at)) (act i.operation) (o.steps b at (step i) (step_there b at i is)))

    module _ (limits : Limits) (good : is_well_formed limits flow ≡ true) (edges : map edge flow.edges.items ≡ p.edges) where
      -- an edge of a block leaves it
      record IsOwn (b at : ℕ) (e : EdgeView) : Type 0 where
        among : Contains p.edges e
        leaves : e.from ≡ b
        last : suc at ≡ length (steps_in p b)

      own_of : (x : Option BasicBlock) (b at : ℕ) (i : Instruction) (e : EdgeView) → slice_get flow.blocks.items b ≡ x → slice_get (instructions_in x) at ≡ Some i → (leads i.operation ≡ On → ⊥) → Contains (edges_of (flow_view flow) (block_of (flow_view flow) b)) e → IsOwn b at e
      own_of None b at i e there is off among = absurd (cc)
      own_of (Some bb) b at i e there is off among =
          let facts = block_facts flow limits good b bb there in
          let view : block_of (flow_view flow) b ≡ block bb = ap block_or (get_mapped block flow.blocks.items b bb there) in
          let here : Contains (take bb.edges (drop bb.first_edge (map edge flow.edges.items))) e = subst (λ (v : BlockView). Contains (take v.edges (drop v.first_edge (map edge flow.edges.items))) e) view among in
          let moved : take bb.edges (drop bb.first_edge (map edge flow.edges.items)) ≡ map edge (take bb.edges (drop bb.first_edge flow.edges.items)) = ap (take bb.edges) (drop_map edge bb.first_edge flow.edges.items) ∙ take_map edge bb.edges (drop bb.first_edge flow.edges.items) in
          let (k, at_k) = held (map edge (take bb.edges (drop bb.first_edge flow.edges.items))) e (subst (λ xs. Contains xs e) moved here) in
          let (r, raw, same) = get_map edge (take bb.edges (drop bb.first_edge flow.edges.items)) k e at_k in
          let leave = all_at (λ (z : Edge). (z.from == b) && nat_lt z.to (length flow.blocks.items)) (take bb.edges (drop bb.first_edge flow.edges.items)) k r facts.leave raw in
          let from = eqb-true r.from b (and_parts (r.from == b) (nat_lt r.to (length flow.blocks.items)) leave).0 in
          let whole = sym (get_drop bb.first_edge flow.edges.items k (bb.first_edge + k) refl) ∙ (get_take bb.edges (drop bb.first_edge flow.edges.items) k r raw).1 in
          let count = last_is bb.instructions.items (take bb.edges (drop bb.first_edge flow.edges.items)) at i facts.body is off in
          let holds : length (instructions_of flow b) ≡ length bb.instructions.items = ap (λ (x : Option BasicBlock). length (instructions_in x)) there in
          let counted = count_same b in
          record {
            among = subst (λ xs. Contains xs e) edges (listed (map edge flow.edges.items) (bb.first_edge + k) e (get_mapped edge flow.edges.items (bb.first_edge + k) r whole ∙ ap Some same));
            leaves = sym (ap (λ (z : EdgeView). z.from) same) ∙ from;
            last = omega (arith, count, holds, counted);
          }

      pub typed_edges : (b at : ℕ) (i : Instruction) (e : EdgeView) → slice_get (instructions_of flow b) at ≡ Some i → (leads i.operation ≡ On → ⊥) → Contains (edges_of (flow_view flow) (block_of (flow_view flow) b)) e → IsTypedWay e.taken (o.known b (suc at)) (o.known e.to 0)
      typed_edges b at i e is off among =
          let own = own_of (slice_get flow.blocks.items b) b at i e refl is off among in
          let way = o.edges e own.among in
          let here : IsTypedWay e.taken (o.known b (length (steps_in p b))) (o.known e.to 0) = subst (λ n. IsTypedWay e.taken (o.known n (length (steps_in p n))) (o.known e.to 0)) own.leaves way in
          subst (λ n. IsTypedWay e.taken (o.known b n) (o.known e.to 0)) (sym own.last) here
