-- Objects whose bytes become 0 are told.
use Rattle.std.proofs.Common.{◌≡◌, ℕ, zero, suc, ◌+◌, ◌-◌, ◌*◌, ◌^◌, ◌<◌, ◌≤◌, true, false, Some, List, [], ◌∷◌, length, arith, subst, sym, refl, ap, ◌∙◌}
use Rattle.std.specs.Prelude.{slice_get, ℤ}
use Rattle.std.proofs.lemmas.Option.{same_Some, slice_get_within}
use Rattle.cc_base.specs.Lattices.{LatticeOf}
use Rattle.cc_base.specs.IntegerDomains.{IntegersOf, BoundLaws}
use Rattle.c_layout.specs.declared.leaf_lists.Leaf.{Leaf}
use Rattle.c_layout.specs.declared.shapes.BaseInfo.{BaseInfo}
use Rattle.c_layout.specs.declared.shapes.BaseKind.TheVariants.{Older}
use Rattle.cfg.specs.WellFormed.{names_of, fits_operation}
use Rattle.cfg.specs.declared.machine_instructions.Operation.{Operation}
use Rattle.cfg.specs.declared.machine_instructions.Operation.TheVariants as op
use Rattle.cfg.specs.declared.programs.Flow.{Flow}
use Rattle.value_domain.specs.declared.values.row_cells.Cell.{Cell}
use Rattle.store_objects.specs.ObjectLives.{zero_value, clear_leaf, clear_leaves, clear_object, at_base, clear}
use Rattle.store_cells.specs.RowPositions.{leaf_position, value_at}
use Rattle.transfer_checks.specs.ViolationSets.{no_violations}
use Rattle.transfer_instructions.specs.Instructions.Steps.{operate}
use Rattle.transfer_instructions.specs.Instructions.StepViolations.{operation_violations}
use Rattle.memory_model.specs.Memory.Instances.{Memory}
use Rattle.memory_model.specs.Memory.ScalarSizes.{class_bytes}
use Rattle.memory_model.specs.Effects.ObjectEffects.{cleared}
use Rattle.memory_model.specs.Effects.Worlds.{World}
use Rattle.lower_templates.specs.Worklist.Acts.{act}
use Rattle.lower_templates.specs.Views.ProgramViews.{flow_view}
use Rattle.semantics.specs.CfgMachine.FlowStates.{ProgramState}
use Rattle.semantics.specs.CfgMachine.FlowSteps.{act_step}
use Rattle.store_sound.specs.Concretization.Coverage.{state_of}
use Rattle.store_sound.specs.Concretization.Matching.{Matched}
use Rattle.store_sound.specs.Concretization.RowMeaning.{MachineState}
use Rattle.store_sound.specs.Concretization.ValueMeaning.{Naming}
use Rattle.store_sound.specs.Programs.Premises.{HasPremises}
use Rattle.transfer_sound.specs.Values.SoundSteps.{IsReached}
use Rattle.transfer_sound.proofs.objects.BlankRows as blank
use Rattle.transfer_sound.proofs.objects.WholeObjects.{automatic_declared, some_kind, named, new, is_set}
use Rattle.transfer_exact.specs.Values.SingleRows.{IsPlainProgram, ExactLeaf, ExactState}
use Rattle.transfer_exact.specs.Values.SingleSteps.{IsDefined, StepIsExact}
use Rattle.transfer_exact.proofs.values.NearExact.{near_none}
use Rattle.transfer_exact.proofs.values.Told.{if_some_told, clean_goes_told}
use Rattle.transfer_exact.specs.Accesses.StoreLaws.{IsCleared}
use Rattle.transfer_exact.specs.Accesses.TypedAccesses.{HasObjects}
use Rattle.transfer_exact.proofs.accesses.Moves.{change_tells}
use Rattle.transfer_exact.proofs.places.OneLeaf.{place_is}
use Rattle.std.specs.Prelude.{pos}
use Rattle.std.proofs.lemmas.Bool.{lt-ltb}
use Rattle.std.proofs.lemmas.Int.{ints}
use Rattle.cfg.specs.WellFormed.{base_values}
use Rattle.value_domain.specs.declared.values.row_cells.Cell.TheVariants.{Value, First}
use Rattle.store_cells.specs.FirstZeroWrites.{zero_first, set_zeros}
use Rattle.store_cells.specs.NearValues.{near_value}
use Rattle.store_cells.specs.RowPositions.{zero_position, cell_at, value_in}
use Rattle.memory_model.specs.Memory.Bytes.{number, null}
use Rattle.memory_model.specs.Memory.Labels.{no_labels}
use Rattle.memory_model.specs.Memory.Numbers.{Labelled, unsigned_of, number_of}
use Rattle.memory_model.specs.Memory.ScalarSizes.{is_pointer}
use Rattle.memory_model.specs.Memory.Scalars.{integer, pointer}
use Rattle.store_sound.proofs.operations.Only.{Only, Turned, only_leaves, only_more, only_put, only_walk, walk_turn, cell_put}
use Rattle.store_sound.proofs.operations.StoreRows.{leaf_is, zero_is}
use Rattle.transfer_sound.proofs.objects.SetCells.{set_keeps}
use Rattle.transfer_exact.proofs.values.NearExact.{near_one}
use Rattle.transfer_exact.proofs.accesses.ExactForgets.{leaf_bytes}

-- ---- numbers of zero bytes

abbrev zeros : ℕ → List Labelled
zeros zero = []
zeros (suc k) = record { number = 0; labels = no_labels } ∷ zeros k

zeros_length : (k : ℕ) → length (zeros k) ≡ k
zeros_length zero = refl
zeros_length (suc k) = ap suc (zeros_length k)

zeros_at : (size k : ℕ) (m : Labelled) → slice_get (zeros size) k ≡ Some m → m ≡ record { number = 0; labels = no_labels }
zeros_at zero k m e = cc
zeros_at (suc s) zero m e = sym (same_Some _ m e)
zeros_at (suc s) (suc k) m e = zeros_at s k m e

zeros_none : (k : ℕ) → unsigned_of (zeros k) ≡ 0
zeros_none zero = refl
zeros_none (suc k) = let e = zeros_none k in omega (arith, e)

power_above : (k : ℕ) → 0 < 2 ^ k
power_above zero = omega arith
power_above (suc k) = let h = power_above k in omega (arith, h)

zeros_number : (s : _) (k : ℕ) → number_of s (zeros k) ≡ pos 0
zeros_number true k = let e = zeros_none k in let h = power_above (8 * length (zeros k)) in let g = lt-ltb (2 * 0) (2 ^ (8 * length (zeros k))) (omega (arith, h)) in rw (e, g) refl
zeros_number false k = ap pos (zeros_none k)

-- ---- the row

module _ (flow : Flow) (p : HasPremises flow) (b : ℕ) (info : BaseInfo) (at : slice_get flow.bases.items b ≡ Some info) (declared : info.shape.heap ≡ false) {I : Type 0} (l : LatticeOf I) (n : IntegersOf I) (row : List (Cell I)) (long : length row ≡ flow.width) where
  abbrev after : List (Cell I)
  after = clear_object l n info row

  one_leaf : (leaf : Leaf) (a : ℕ) → Only (leaf_position info a) (leaf_position info a + 1) (clear_leaf l n info leaf a)
  one_leaf leaf a = only_put _ _ (leaf_position info a) (λ r. Value (zero_value l n leaf.class)) (omega arith) (omega arith)

  turned : (j : ℕ) (leaf : Leaf) → slice_get info.shape.cells j ≡ Some leaf → Turned (leaf_position info j) (clear_leaf l n info leaf j) row (clear_leaves l n info row)
  unfolding clear_leaves
  turned j leaf e =
      let fits = blank.fits flow p b info at declared in
      let here = leaf_is info j fits (slice_get_within info.shape.cells j leaf e) in
      walk_turn (clear_leaf l n info) (leaf_position info j) 0 info.shape.cells j j leaf e (omega arith) (λ i d other f g ne.
      let there = leaf_is info d fits (let w = slice_get_within info.shape.cells i other f in omega (arith, w, g)) in
      only_leaves (leaf_position info j) (clear_leaf l n info other d) (one_leaf other d) (λ u w. ne (omega (arith, u, w, here, there, g)))) row

  pub leaf_zero : (j : ℕ) (leaf : Leaf) → slice_get info.shape.cells j ≡ Some leaf → value_at l n after (leaf_position info j) ≡ near_value l n (zero_value l n leaf.class)
  unfolding clear_object set_zeros value_at
  leaf_zero j leaf e =
      let fits = blank.fits flow p b info at declared in
      let cells = blank.cells_are flow p b info at declared in
      let top = slice_get_within info.shape.cells j leaf e in
      let here = leaf_is info j fits top in
      let t = turned j leaf e in
      let l2 = t.long in
      let room = blank.in_row flow p b info at declared l n row long (leaf_position info j) (omega (arith, here, top, cells)) in
      let keeps = set_keeps (zero_position info) (First (zero_first n)) (length info.shape.zeros) (clear_leaves l n info row) (leaf_position info j) (λ k less g. let f = zero_is info k fits (omega (arith, less)) in omega (arith, g, f, here, top, cells)) in
      ap (λ z. near_value l n (value_in l z)) (keeps ∙ (t.turn ∙ cell_put t.before (leaf_position info j) (Value (zero_value l n leaf.class)) (omega (arith, room, l2))))

  outside : (x : ℕ) → (info.first ≤ x → x < info.first + base_values info → ⊥) → cell_at after x ≡ cell_at row x
  unfolding clear_object set_zeros clear_leaves
  outside x h =
      let fits = blank.fits flow p b info at declared in
      let cells = blank.cells_are flow p b info at declared in
      set_keeps (zero_position info) (First (zero_first n)) (length info.shape.zeros) (clear_leaves l n info row) x (λ k small e. let f = zero_is info k fits (omega (arith, small)) in h (omega (arith, e, f)) (omega (arith, e, f, small)))
      ∙ (only_walk (clear_leaf l n info) info.first (info.first + base_values info) 0 info.shape.cells (λ j a leaf e d.
      let here = leaf_is info a fits (let w = slice_get_within info.shape.cells j leaf e in omega (arith, w, d)) in
      let w = slice_get_within info.shape.cells j leaf e in
      only_more _ _ (clear_leaf l n info leaf a) (omega (arith, here)) (omega (arith, here, w, d, cells)) (one_leaf leaf a))).keeps row x h

-- a leaf of zero bytes
module _ {I : Type 0} {l : LatticeOf I} {n : IntegersOf I} {gamma : I → ℤ → Type 0} (q : BoundLaws l n gamma) (flow : Flow) (state : MachineState) (i : ℕ) (leaf : Leaf) (bytes : (k : ℕ) → k < class_bytes flow.model leaf.class → Matched state.memory i (leaf.offset + k) leaf.class k (number 0 no_labels)) where
  pub zero_leaf : (c : _) → is_pointer leaf.class ≡ c → ExactLeaf l n flow state (near_value l n (zero_value l n leaf.class)) i leaf.offset leaf
  zero_leaf true c = record {
    held = Some (pointer null);
    holds = record { pointing = c; bytes = bytes };
    tells = rw c (record { apart = near_none q l.least q.least_bounds; points = record { bases = refl; null = refl; ended = refl }; determinate = refl });
  }
  zero_leaf false c = record {
    held = Some (integer (pos 0) no_labels);
    holds = record {
      integral = c;
      numbers = zeros (class_bytes flow.model leaf.class);
      bytes = record {
        size = zeros_length (class_bytes flow.model leaf.class);
        each = λ k m small g.
            let z = zeros_at (class_bytes flow.model leaf.class) k m g in
            let long = zeros_length (class_bytes flow.model leaf.class) in
            subst (λ y. Matched state.memory i (leaf.offset + k) leaf.class k (number y.number y.labels)) (sym z) (bytes k (omega (arith, small, long)));
      };
      is = zeros_number leaf.signed (class_bytes flow.model leaf.class);
      same = λ k m g. ap (λ y. y.labels) (zeros_at (class_bytes flow.model leaf.class) k m g);
    };
    tells = rw c (record { number = near_one q (n.one (pos 0)) (pos 0) (record { from = omega (arith, ints); to = omega (arith, ints) }) (q.one_bounds (pos 0)); labels_are = refl; apart = record { bases = refl; null = refl; ended = refl }; determinate = refl });
  }

module _ {I : Type 0} {l : LatticeOf I} {n : IntegersOf I} {gamma : I → ℤ → Type 0} (q : BoundLaws l n gamma) (flow : Flow) (p : HasPremises flow) (objects : HasObjects flow) (plain : IsPlainProgram flow) (naming : Naming) (row : List (Cell I)) (s : ProgramState) (r : IsReached l n gamma flow naming row s) (t : ExactState l n flow row (state_of s)) where
  module _ (b i : ℕ) (info : BaseInfo) (at : slice_get flow.bases.items b ≡ Some info) (entered : s.bases b ≡ Some i) (declared : info.shape.heap ≡ false) (kind : info.kind ≡ Older → ⊥) where
    single : (j : ℕ) (leaf : Leaf) → slice_get info.shape.cells j ≡ Some leaf → leaf.count ≡ 1
    single j leaf e = plain.apart b j info leaf at e

    abbrev zeroed : Memory
    zeroed = new q flow p naming row s r b i info at entered declared kind (number 0 no_labels)

    cleared_tells : ExactState l n flow (clear_object l n info row) (record { memory = zeroed; temps = s.temps; entered = s.bases })
    cleared_tells =
        let st = is_set q flow p naming row s r b i info at entered declared kind (number 0 no_labels) in
        change_tells l n flow p row (clear_object l n info row) (state_of s) zeroed b i info at entered t (record {
          lives = st.rewrite.alike.lives;
          others = st.rewrite.others;
          outside = λ x far. outside flow p b info at declared l n row r.long x far;
          apart = λ d j f ne same. ne (same_Some d b (sym (r.stands_for.lives.named d j f) ∙ (ap naming same ∙ r.stands_for.lives.named b i entered)));
        }) (λ j leaf offset e place.
        subst (λ x. ExactLeaf l n flow (record { memory = zeroed; temps = s.temps; entered = s.bases }) (value_at l n (clear_object l n info row) (leaf_position info j)) i x leaf) (sym (place_is flow.model info.shape.cells info.size (objects b info at) single j offset leaf e place))
        (subst (λ z. ExactLeaf l n flow (record { memory = zeroed; temps = s.temps; entered = s.bases }) z i leaf.offset leaf) (sym (leaf_zero flow p b info at declared l n row r.long j leaf e)) (zero_leaf q flow (record { memory = zeroed; temps = s.temps; entered = s.bases }) i leaf (leaf_bytes q flow p objects plain naming row s r t b i info at entered declared kind (number 0 no_labels) j leaf e) (is_pointer leaf.class) refl)))

  clear_told : (b : ℕ) → fits_operation (names_of flow) (op.Clear b) ≡ true → IsDefined (act_step (flow_view flow) (act (op.Clear b)) s) → StepIsExact l n flow row (op.Clear b) s
  unfolding operate clear operation_violations
  clear_told b fits d =
      let k = some_kind flow.bases.items b fits in
      let info : BaseInfo = k.0 in
      if_some_told l n flow _ no_violations s (s.bases b) _ d (λ i e d. let w : World = cleared i s.world in
      let now : ProgramState = record s { at = suc s.at; world = w } in
      clean_goes_told l n flow _ now w (record {
        row = clear_object l n info row;
        is = ap (λ z. Some (at_base (clear_object l n) z row)) k.1;
        tells = cleared_tells b i info k.1 e (plain.no_heap b info k.1) (automatic_declared info.kind k.2);
      }))

  pub clear_step_told : (o : Operation) → IsCleared o s → fits_operation (names_of flow) o ≡ true → IsDefined (act_step (flow_view flow) (act o) s) → StepIsExact l n flow row o s
  clear_step_told (op.Clear b) is fits d = clear_told b fits d
  clear_step_told o is fits d = absurd is
