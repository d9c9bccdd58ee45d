-- The end of a block takes the same edge in each copy of it, and leads to a copy of the block that it enters.
use Rattle.std.specs.Prelude.{◌≡◌, ℕ, suc, ◌+◌, ◌*◌, ◌<◌, ◌≤◌, ◌==◌, ℤ, nat_lt, Bool, true, false, cond, Option, Some, None, List, [], ◌∷◌, map, option_map, length, take, drop, slice_get, refl}
use Rattle.std.proofs.Common.{arith, sym, subst₂, subst, ap, ◌∙◌}
use Rattle.std.proofs.lemmas.List.{length-map, take-map, drop-map}
use Rattle.std.proofs.lemmas.Bool.{cond_both, ltb-true}
use Rattle.std.proofs.lemmas.Option.{slice_get-map}
use Rattle.cfg.specs.declared.flow_edges.Side.{Side}
use Rattle.cfg.specs.declared.flow_edges.Side.TheVariants as side
use Rattle.cfg.specs.declared.flow_edges.Test.{Test}
use Rattle.memory_model.specs.Memory.Scalars.{Scalar}
use Rattle.memory_model.specs.Effects.Worlds.{World, Reply, goes, stops, behind}
use Rattle.memory_model.specs.Effects.Tests.{TestedSide, object, constant, nothing, pass_test, pass_case}
use Rattle.lower_templates.specs.Worklist.Pieces.{Way}
use Rattle.lower_templates.specs.Worklist.Pieces as ways
use Rattle.lower_templates.specs.Views.ProgramViews.{BlockView, EdgeView, FlowView}
use Rattle.semantics.specs.CfgMachine.FlowStates.{ProgramState, if_some, with_instance}
use Rattle.semantics.specs.CfgMachine.FlowEdges.{is_taken, edge_taken, edges_of, with_side, in_world, testing, integer_in, matching, with_put, on_way, at_block, along}
use Rattle.semantics.specs.CfgMachine.FlowSteps.{block_or, block_of, on_edge}
use Rattle.loop_unrolling.specs.Turns.{copies, last_copy, number_in, copy_behind, edge_copy, block_copy, split}
use Rattle.analysis_determined.specs.UnrolledRuns.SameRuns.{IsLinked, in_copy, IsCopied}
use Rattle.analysis_determined.proofs.unrolled_runs.CopiedLists.{copy_at, same_part, in_part}
use Rattle.analysis_determined.proofs.unrolled_runs.MovedStandings.{Moved, if_moved, behind_moved}

-- ---- what is behind a step

-- both go on, in the same place of a copy, or both stop
abbrev pub Copied : ℕ → FlowView → Reply ProgramState → Reply ProgramState → Type 0
Copied turns f (goes s w) (goes t v) = IsCopied turns f s t × (v ≡ w)
Copied turns f (stops why w) (stops reason v) = (reason ≡ why) × (v ≡ w)
Copied turns f one other = ⊥

module _ (turns : ℕ) (f : FlowView) where
  abbrev blocks : ℕ
  blocks = length f.blocks

  pub copied_if : {A : Type 0} (s : ProgramState) (k : ℕ) (x : Option A) (g h : A → Reply ProgramState) → ((v : A) → Copied turns f (g v) (h v)) → Copied turns f (if_some s x g) (if_some (in_copy blocks k s) x h)
  copied_if s k None g h q = (refl, refl)
  copied_if s k (Some v) g h q = q v

  pub moved_is_copied : (k block : ℕ) → k < copies turns → block < blocks → (r q : Reply ProgramState) → Moved blocks k block r q → Copied turns f r q
  moved_is_copied k block a b (goes s w) (goes t v) m = (record { copy = k; among = a; block = subst (λ z. z < blocks) (sym m.0) b; place = m.1.0 }, m.1.1)
  moved_is_copied k block a b (goes s w) (stops why v) m = absurd m
  moved_is_copied k block a b (stops why w) (goes t v) m = absurd m
  moved_is_copied k block a b (stops why w) (stops reason v) m = m

  -- ---- what an edge does

  module _ (k : ℕ) where
    side_moved : (s : ProgramState) (x : Side) (g h : TestedSide → Reply ProgramState) → ((v : TestedSide) → Moved blocks k s.block (g v) (h v)) → Moved blocks k s.block (with_side s x g) (with_side (in_copy blocks k s) x h)
    side_moved s (side.Object base kind) g h q = if_moved blocks k s s.block (s.bases base) (λ i. g (object i kind)) (λ i. h (object i kind)) (λ i. q (object i kind))
    side_moved s (side.Number n) g h q = q (constant n)
    side_moved s side.Null g h q = q nothing

    world_moved : (s : ProgramState) (r : Reply (Unit {0})) → Moved blocks k s.block (in_world s r) (in_world (in_copy blocks k s) r)
    world_moved s (goes v w) = (refl, (refl, refl))
    world_moved s (stops why w) = (refl, refl)

    testing_moved : (s : ProgramState) (t : Option Test) → Moved blocks k s.block (testing f s t) (testing (split turns f) (in_copy blocks k s) t)
    testing_moved s None = (refl, (refl, refl))
    testing_moved s (Some t) =
        side_moved s t.left
        (λ left. with_side s t.right (λ right. in_world s (pass_test f.model (record { left = left; rel = t.rel; right = right; common = t.common }) s.world)))
        (λ left. with_side (in_copy blocks k s) t.right (λ right. in_world (in_copy blocks k s) (pass_test f.model (record { left = left; rel = t.rel; right = right; common = t.common }) s.world)))
        (λ left. side_moved s t.right
        (λ right. in_world s (pass_test f.model (record { left = left; rel = t.rel; right = right; common = t.common }) s.world))
        (λ right. in_world (in_copy blocks k s) (pass_test f.model (record { left = left; rel = t.rel; right = right; common = t.common }) s.world))
        (λ right. world_moved s (pass_test f.model (record { left = left; rel = t.rel; right = right; common = t.common }) s.world)))

    put_moved : (block : ℕ) (p : Option (ℕ × ℤ)) (s : ProgramState) (w : World) → s.block ≡ block → Moved blocks k block (goes (with_put p s) w) (goes (with_put p (in_copy blocks k s)) w)
    put_moved block None s w e = (e, (refl, refl))
    put_moved block (Some p) s w e = (e, (refl, refl))

    matching_moved : (s : ProgramState) (value : ℤ) (o : Option ℕ) → Moved blocks k s.block (matching f s value o) (matching (split turns f) (in_copy blocks k s) value o)
    matching_moved s value None = (refl, (refl, refl))
    matching_moved s value (Some base) =
        if_moved blocks k s s.block (slice_get f.bases base)
        (λ b. with_instance s base (λ i. in_world s (pass_case f.model i (integer_in b) value s.world)))
        (λ b. with_instance (in_copy blocks k s) base (λ i. in_world (in_copy blocks k s) (pass_case f.model i (integer_in b) value s.world)))
        (λ b. if_moved blocks k s s.block (s.bases base)
        (λ i. in_world s (pass_case f.model i (integer_in b) value s.world))
        (λ i. in_world (in_copy blocks k s) (pass_case f.model i (integer_in b) value s.world))
        (λ i. world_moved s (pass_case f.model i (integer_in b) value s.world)))

    way_moved : (s : ProgramState) (x : Way) → Moved blocks k s.block (on_way f s x) (on_way (split turns f) (in_copy blocks k s) x)
    way_moved s ways.Always = (refl, (refl, refl))
    way_moved s (ways.When truth test puts) =
        behind_moved blocks k s.block (testing f s test) (testing (split turns f) (in_copy blocks k s) test) (λ s w. goes (with_put puts s) w) (λ s w. goes (with_put puts s) w)
        (testing_moved s test) (λ t w e. put_moved s.block puts t w e)
    way_moved s (ways.Case test) = matching_moved s test.value test.object
    way_moved s (ways.Other values) = (refl, (refl, refl))
    way_moved s ways.NoLine = (refl, (refl, refl))
    way_moved s ways.Line = (refl, (refl, refl))

  -- ---- the edge that is taken

  abbrev many : ℕ
  many = length f.edges

  behind_below : (k from to : ℕ) → k < copies turns → copy_behind (last_copy turns) k from to < copies turns
  behind_below k from to p = cond_both (nat_lt from to) k (cond (nat_lt k (last_copy turns)) (k + 1) (last_copy turns)) (λ z. z < copies turns) (λ e. p)
      (λ e. cond_both (nat_lt k (last_copy turns)) (k + 1) (last_copy turns) (λ z. z < copies turns) (λ d. let m = ltb-true k (last_copy turns) d in omega arith) (λ d. omega arith))

  module _ (k : ℕ) (p : k < copies turns) where
    abbrev ec : EdgeView → EdgeView
    ec = edge_copy blocks (last_copy turns) k

    pick : (c : Bool) (e : EdgeView) (x : Option EdgeView) → cond c (Some (ec e)) (option_map ec x) ≡ option_map ec (cond c (Some e) x)
    pick true e x = refl
    pick false e x = refl

    taken_same : (v : Scalar) (es : List EdgeView) → edge_taken v (map ec es) ≡ option_map ec (edge_taken v es)
    taken_same v [] = refl
    taken_same v (e ∷ es) = ap (cond (is_taken v e.taken) (Some (ec e))) (taken_same v es) ∙ pick (is_taken v e.taken) e (edge_taken v es)

    -- the edges of a block of a copy are copies of those of the block
    part_same : (b : BlockView) (is : Bool) → b.first_edge + b.edges ≤ many → edges_of (split turns f) (block_copy (k * many) is b) ≡ map ec (edges_of f b)
    part_same b is fits =
        same_part (split turns f).edges (map ec f.edges) b.edges (k * many + b.first_edge) b.first_edge at
        ∙ (ap (take b.edges) (drop-map ec b.first_edge f.edges) ∙ take-map ec b.edges (drop b.first_edge f.edges))
      where
        at : (i : ℕ) → i < b.edges → slice_get (split turns f).edges ((k * many + b.first_edge) + i) ≡ slice_get (map ec f.edges) (b.first_edge + i)
        at i less =
            let s : (k * many + b.first_edge) + i ≡ number_in many k (b.first_edge + i) = omega arith in
            ap (slice_get (split turns f).edges) s
            ∙ copy_at (λ c. map (edge_copy blocks (last_copy turns) c) f.edges) many (λ c. length-map f.edges (edge_copy blocks (last_copy turns) c)) (copies turns) k (b.first_edge + i) p (omega arith)

    pub block_there : (j : ℕ) (b : BlockView) → slice_get f.blocks j ≡ Some b → j < blocks → block_of (split turns f) (number_in blocks k j) ≡ block_copy (k * many) (k == last_copy turns) b
    block_there j b e less =
        ap block_or
        (copy_at (λ c. map (block_copy (c * many) (c == last_copy turns)) f.blocks) blocks (λ c. length-map f.blocks (block_copy (c * many) (c == last_copy turns))) (copies turns) k j p less
        ∙ (slice_get-map (block_copy (k * many) (k == last_copy turns)) f.blocks j ∙ ap (option_map (block_copy (k * many) (k == last_copy turns))) e))

    -- the edge that is taken leads to a block
    record Leads (e : EdgeView) : Type 0 where
      place : ℕ
      there : slice_get f.edges place ≡ Some e

    found : (v : Scalar) (es : List EdgeView) (e : EdgeView) → edge_taken v es ≡ Some e → (i : ℕ) × (slice_get es i ≡ Some e)
    found v [] e h = absurd (cc)
    found v (x ∷ es) e h = one (is_taken v x.taken) refl (λ q. found v es e q)
      where
        one : (c : Bool) → is_taken v x.taken ≡ c → (edge_taken v es ≡ Some e → (i : ℕ) × (slice_get es i ≡ Some e)) → (i : ℕ) × (slice_get (x ∷ es) i ≡ Some e)
        one true c more = (0, sym (ap (λ z. cond z (Some x) (edge_taken v es)) c) ∙ h)
        one false c more = let r = more (sym (ap (λ z. cond z (Some x) (edge_taken v es)) c) ∙ h) in (suc r.0, r.1)

    module _ (linked : IsLinked f) (s : ProgramState) (less : s.block < blocks) (b : BlockView) (there : slice_get f.blocks s.block ≡ Some b) where
      abbrev own : List EdgeView
      own = edges_of f b

      along_moved : (o : Option EdgeView) → ((e : EdgeView) → o ≡ Some e → e.to < blocks) → Copied turns f (along f s o) (along (split turns f) (in_copy blocks k s) (option_map ec o))
      along_moved None to = (refl, refl)
      along_moved (Some e) to = entered (on_way f s e.taken) (on_way (split turns f) (in_copy blocks k s) e.taken) (way_moved k s e.taken)
        where
          entered : (r q : Reply ProgramState) → Moved blocks k s.block r q → Copied turns f (behind r (λ s w. goes (at_block e.to s) w)) (behind q (λ s w. goes (at_block (ec e).to s) w))
          entered (goes t w) (goes x v) m = (
            record {
              copy = copy_behind (last_copy turns) k e.from e.to;
              among = behind_below k e.from e.to p;
              block = to e refl;
              place = ap (at_block (ec e).to) m.1.0;
            },
            m.1.1,
          )
          entered (goes t w) (stops why v) m = absurd m
          entered (stops why w) (goes t v) m = absurd m
          entered (stops why w) (stops reason v) m = m

      targets : (v : Scalar) (e : EdgeView) → edge_taken v own ≡ Some e → e.to < blocks
      targets v e h =
          let r = found v own e h in
          linked.targets (b.first_edge + r.0) e (in_part f.edges b.edges b.first_edge r.0 e r.1)

      -- both take the same edge
      pub edge_copied : (v : Scalar) → Copied turns f (on_edge f s v) (on_edge (split turns f) (in_copy blocks k s) v)
      edge_copied v = subst₂ (λ x y. Copied turns f (along f s x) (along (split turns f) (in_copy blocks k s) y)) (sym whole) (sym copy) (along_moved (edge_taken v own) (targets v))
        where
          whole : edge_taken v (edges_of f (block_of f s.block)) ≡ edge_taken v own
          whole = ap (λ z. edge_taken v (edges_of f (block_or z))) there

          copy : edge_taken v (edges_of (split turns f) (block_of (split turns f) (number_in blocks k s.block))) ≡ option_map ec (edge_taken v own)
          copy =
              ap (λ z. edge_taken v (edges_of (split turns f) z)) (block_there s.block b there less)
              ∙ (ap (edge_taken v) (part_same b (k == last_copy turns) (linked.edges s.block b there)) ∙ taken_same v own)
