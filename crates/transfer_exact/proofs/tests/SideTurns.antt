-- One side of a test on integers is refined: the row tells the state behind, and what is known of the other sides stays.
use Rattle.std.proofs.Common.{◌≡◌, ℕ, ◌-◌, Bool, true, false, Option, Some, List, length, arith, subst, sym, refl, ap, ◌∙◌, inl, inr}
use Rattle.std.specs.Prelude.{ℤ}
use Rattle.std.specs.Option.{unwrap_or}
use Rattle.std.proofs.lemmas.Bool.{eqb-false}
use Rattle.std.proofs.lemmas.List.{length-set}
use Rattle.cc_base.specs.Lattices.{LatticeOf}
use Rattle.cc_base.specs.IntegerDomains.{IntegersOf, BoundLaws}
use Rattle.cc_base.specs.declared.int_types.IntType.{IntType}
use Rattle.cc_base.specs.declared.integer_operators.Rel.{Rel}
use Rattle.cfg.specs.declared.flow_edges.Side.{Side}
use Rattle.cfg.specs.declared.flow_edges.Side.TheVariants as side
use Rattle.cfg.specs.declared.programs.Flow.{Flow}
use Rattle.value_domain.specs.declared.values.values.Value as values
use Rattle.value_domain.specs.declared.values.row_cells.Cell.{Cell}
use Rattle.value_domain.specs.declared.values.row_cells.Cell.TheVariants.{Nothing, Value}
use Rattle.store_cells.specs.NearValues.{near_value}
use Rattle.store_cells.specs.RowPositions.{leaf_position, value_in, value_at, put_value}
use Rattle.transfer_edges.specs.Refinements.{position_of, is_same_object, value_of_object, side_value, refined_labels, refined, put_at, put_side}
use Rattle.memory_model.specs.Memory.Instances.{Memory, live, life_at, bytes_of, bytes_at}
use Rattle.memory_model.specs.Memory.Labels.{Labels, is_unlabelled}
use Rattle.memory_model.specs.Memory.ScalarSizes.{class_bytes}
use Rattle.memory_model.specs.Memory.Scalars.{Scalar}
use Rattle.memory_model.specs.Effects.Accesses.{class_in}
use Rattle.memory_model.specs.Effects.Tests.{object, nothing, bounded}
use Rattle.store_sound.specs.Concretization.RowMeaning.{MachineState}
use Rattle.store_sound.specs.Concretization.SeenLabels.{as_set}
use Rattle.store_sound.specs.Concretization.ValueMeaning.{Naming}
use Rattle.store_sound.proofs.operations.LoadSound.{instance_there}
use Rattle.store_sound.proofs.operations.Slices.{get_set_other}
use Rattle.store_sound.proofs.operations.StoreRows.{leaf_is}
use Rattle.store_sound.specs.Programs.Premises.{HasPremises}
use Rattle.transfer_sound.specs.Tests.ScalarObjects.{IsScalarObject}
use Rattle.transfer_sound.proofs.tests.Relabelling.{IsRelabelling, side_change, bounded_relabels}
use Rattle.transfer_sound.proofs.tests.TestSides.{tested, IsSeen, bounded_constant}
use Rattle.transfer_exact.specs.Values.SingleNumbers.{IsOne}
use Rattle.transfer_exact.specs.Values.SingleRows.{ExactState}
use Rattle.transfer_exact.proofs.tests.IntegerSides.{labels_exact}
use Rattle.transfer_exact.proofs.edges.RelabelledObjects.{IsNumberHeld, number_held, relabelled_tells}

bounded_nothing : (m : _) (rel : Rel) (k : IntType) (other : Labels) (memory : Memory) → bounded m rel k nothing other memory ≡ memory
bounded_nothing m rel k other memory = by_labels (is_unlabelled other) refl
  where
    by_labels : (b : Bool) → is_unlabelled other ≡ b → bounded m rel k nothing other memory ≡ memory
    by_labels true e = rw e refl
    by_labels false e = rw e refl

module _ {I : Type 0} {l : LatticeOf I} {n : IntegersOf I} {gamma : I → ℤ → Type 0} (q : BoundLaws l n gamma) (flow : Flow) (p : HasPremises flow) (naming : Naming) (temps : ℕ → Option Scalar) (entered : ℕ → Option ℕ) (names : (d j : ℕ) → entered d ≡ Some j → naming j ≡ Some d) where
  -- a row and memory that a side can be refined in
  pub record IsReady (row : List (Cell I)) (memory : Memory) : Type 0 where
    pub long : length row ≡ flow.width
    pub tells : ExactState l n flow row (record { memory = memory; temps = temps; entered = entered })
    pub alive : (b i : ℕ) → entered b ≡ Some i → life_at memory i ≡ live
    pub whole : (b i : ℕ) (kind : _) (t : IsScalarObject flow b kind) → entered b ≡ Some i → length (bytes_at memory i) ≡ class_bytes flow.model t.leaf.class

  -- one side is refined, in the row and in memory, and the other sides are as they were
  pub record IsTurn (row : List (Cell I)) (x : Side) (row1 : List (Cell I)) (memory1 : Memory) : Type 0 where
    pub ready : IsReady row1 memory1
    pub value : (z : Side) (j : ℕ) → IsSeen flow entered z j → is_same_object x z ≡ false → side_value l n flow row1 z ≡ side_value l n flow row z

  module _ (row : List (Cell I)) (memory : Memory) (y : IsReady row memory) where
    abbrev state : MachineState
    state = record { memory = memory; temps = temps; entered = entered }

    -- ---- an object

    module _ (b i : ℕ) (kind : _) (t : IsScalarObject flow b kind) (en : entered b ≡ Some i) where
      abbrev place : ℕ
      place = leaf_position t.info 0

      pub value_is : side_value l n flow row (side.Object b kind) ≡ value_at l n row place
      value_is = ap (λ z. value_of_object l n row (position_of z)) t.is

      pub held_there : (a : ℤ) → gamma (side_value l n flow row (side.Object b kind)).num a → IsNumberHeld q flow p naming row y.long state names y.tells b i kind t en a
      held_there a h = number_held q flow p naming row y.long state names y.tells b i kind t en a (subst (λ z. gamma z.num a) value_is h)

      -- what a test makes of its bytes
      pub bounded_there : (rel : Rel) (k : IntType) (other : Labels) → IsRelabelling memory (bounded flow.model rel k (object i kind) other memory) i (side_change (is_unlabelled other) rel k)
      bounded_there rel k other =
          let it = instance_there memory i (y.alive b i en) in
          let total = y.whole b i kind t en in
          let same : length (bytes_at memory i) ≡ length it.0.bytes = ap (λ z. length (bytes_of z)) it.1 in
          let bytes = t.bytes in
          let class : class_bytes flow.model t.leaf.class ≡ class_bytes flow.model (class_in kind) = ap (class_bytes flow.model) t.class in
          bounded_relabels flow.model rel k i kind other memory it.0 it.1 (omega (arith, total, same, bytes, class)) (is_unlabelled other) refl

      module _ (x : values.Value I) where
        values_stay : (d : ℕ) (other : _) (u : IsScalarObject flow d other) → (b ≡ d → ⊥) → side_value l n flow (put_value row place x) (side.Object d other) ≡ side_value l n flow row (side.Object d other)
        unfolding value_at
        values_stay d other u ne =
            let one : length t.info.shape.cells ≡ 1 = ap length t.cells in
            let two : length u.info.shape.cells ≡ 1 = ap length u.cells in
            let c1 = p.laid.laid.close b t.info t.is in
            let c2 = p.laid.laid.close d u.info u.is in
            let small = p.laid.laid.small in
            let x1 = leaf_is t.info 0 (omega (arith, c1, small)) (omega (arith, one)) in
            let x2 = leaf_is u.info 0 (omega (arith, c2, small)) (omega (arith, two)) in
            let apart : leaf_position u.info 0 ≡ place → ⊥ = λ e. elim (p.laid.laid.apart b d t.info u.info t.is u.is ne) [ inl h ↦ omega (arith, h, e, x1, x2, one) | inr h ↦ omega (arith, h, e, x1, x2, two) ] in
            let same : value_at l n (put_value row place x) (leaf_position u.info 0) ≡ value_at l n row (leaf_position u.info 0) = ap (λ z. near_value l n (value_in l (unwrap_or z Nothing))) (get_set_other row place (leaf_position u.info 0) (Value x) apart) in
            ap (λ z. value_of_object l n (put_value row place x) (position_of z)) u.is ∙ (same ∙ sym (ap (λ z. value_of_object l n row (position_of z)) u.is))

        others_stay : (z : Side) (j : ℕ) → IsSeen flow entered z j → is_same_object (side.Object b kind) z ≡ false → side_value l n flow (put_value row place x) z ≡ side_value l n flow row z
        others_stay (side.Object d other) j seen ne = values_stay d other seen.0 (eqb-false b d ne)
        others_stay (side.Number z) j seen ne = refl
        others_stay side.Null j seen ne = refl

      object_turn : (rel : Rel) (k : IntType) (other : Labels) (w : values.Value I) → w.labels ≡ as_set other → (a : ℤ) → gamma (side_value l n flow row (side.Object b kind)).num a → IsOne n (refined n (side_value l n flow row (side.Object b kind)) rel w k).num a →
          IsTurn row (side.Object b kind) (put_side flow (side.Object b kind) (refined n (side_value l n flow row (side.Object b kind)) rel w k) row) (bounded flow.model rel k (object i kind) other memory)
      unfolding put_side put_at
      object_turn rel k other w labels a has one =
          let v : values.Value I = value_at l n row place in
          let new : values.Value I = refined n (value_at l n row place) rel w k in
          let after : Memory = bounded flow.model rel k (object i kind) other memory in
          let put : put_side flow (side.Object b kind) (refined n (side_value l n flow row (side.Object b kind)) rel w k) row ≡ put_value row place (refined n (value_at l n row place) rel w k) = ap (λ z. put_at (position_of z) (refined n (value_of_object l n row (position_of z)) rel w k) row) t.is in
          let held = held_there a has in
          let g = bounded_there rel k other in
          let one_here : IsOne n (refined n (value_at l n row place) rel w k).num a = subst (λ z. IsOne n (refined n z rel w k).num a) value_is one in
          let labels_are : refined_labels (value_at l n row place).labels rel w.labels k ≡ as_set (side_change (is_unlabelled other) rel k held.la) =
          ap (λ z. refined_labels z rel w.labels k) held.tells.labels_are ∙ (ap (λ z. refined_labels (as_set held.la) rel z k) labels ∙ labels_exact rel k held.la other) in
          subst (λ z. IsTurn row (side.Object b kind) z (bounded flow.model rel k (object i kind) other memory)) (sym put) (record {
            ready = record {
              long = length-set row place (Value (refined n (value_at l n row place) rel w k)) ∙ y.long;
              tells = relabelled_tells q flow p naming row y.long state names y.tells b i kind t en (bounded flow.model rel k (object i kind) other memory) (side_change (is_unlabelled other) rel k) g a held
                  (refined n (value_at l n row place) rel w k).num (refined n (value_at l n row place) rel w k).labels one_here labels_are;
              alive = λ d j e. g.rewrite.alike.lives j ∙ y.alive d j e;
              whole = λ d j other u e. g.rewrite.alike.lengths j ∙ y.whole d j other u e;
            };
            value = others_stay (refined n (value_at l n row place) rel w k);
          })

    -- ---- any side

    pub side_turn : (x : Side) (i : ℕ) → IsSeen flow entered x i → (rel : Rel) (k : IntType) (other : Labels) (w : values.Value I) → w.labels ≡ as_set other → (a : ℤ) → gamma (side_value l n flow row x).num a → IsOne n (refined n (side_value l n flow row x) rel w k).num a →
        IsTurn row x (put_side flow x (refined n (side_value l n flow row x) rel w k) row) (bounded flow.model rel k (tested x i) other memory)
    unfolding put_side
    side_turn (side.Object b kind) i seen rel k other w labels a has one = object_turn b i kind seen.0 seen.1 rel k other w labels a has one
    side_turn (side.Number z) i seen rel k other w labels a has one = subst (IsTurn row (side.Number z) row) (sym (bounded_constant flow.model rel k z other memory)) (record { ready = y; value = λ z j seen ne. refl })
    side_turn side.Null i seen rel k other w labels a has one = subst (IsTurn row side.Null row) (sym (bounded_nothing flow.model rel k other memory)) (record { ready = y; value = λ z j seen ne. refl })
