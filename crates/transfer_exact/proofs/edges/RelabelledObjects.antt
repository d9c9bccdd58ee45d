-- A row tells the state where the number of one object is told anew and its bytes get other labels.
use Rattle.std.proofs.Common.{◌≡◌, ℕ, ◌+◌, ◌-◌, Option, Some, None, List, map, length, arith, subst, sym, ap, ap₂, ◌∙◌}
use Rattle.std.specs.Prelude.{slice_get, ℤ}
use Rattle.std.proofs.lemmas.Int.{ints}
use Rattle.std.proofs.lemmas.List.{length-map}
use Rattle.std.proofs.lemmas.Option.{same_Some, slice_get_within}
use Rattle.cc_base.specs.Lattices.{LatticeOf}
use Rattle.cc_base.specs.IntegerDomains.{IntegersOf, BoundLaws}
use Rattle.c_layout.specs.declared.leaf_lists.Class.{Class}
use Rattle.c_layout.specs.declared.leaf_lists.Leaf.{Leaf}
use Rattle.cfg.specs.declared.programs.Flow.{Flow}
use Rattle.value_domain.specs.declared.values.label_sets.Labels as sets
use Rattle.value_domain.specs.declared.values.values.Value as values
use Rattle.value_domain.specs.declared.values.row_cells.Cell.{Cell}
use Rattle.value_domain.specs.declared.values.row_cells.Cell.TheVariants.{Value}
use Rattle.domain_theorems.proofs.values.Numbers.{RangeHas, bounds_have}
use Rattle.store_cells.specs.NearValues.{near_value}
use Rattle.store_cells.specs.RowPositions.{leaf_position, cell_at, value_in, value_at, put_value}
use Rattle.memory_model.specs.Memory.Bytes.{Content, Tag, Byte}
use Rattle.memory_model.specs.Memory.Instances.{Memory, bytes_at, byte_at}
use Rattle.memory_model.specs.Memory.Labels.{Labels}
use Rattle.memory_model.specs.Memory.Numbers.{Labelled}
use Rattle.memory_model.specs.Memory.Scalars.{Scalar, integer, pointer}
use Rattle.memory_model.specs.Effects.Tests.{relabelled}
use Rattle.store_sound.specs.Concretization.Matching.{Matched, number_in}
use Rattle.store_sound.specs.Concretization.Places.{IsPlaceOf}
use Rattle.store_sound.specs.Concretization.RowMeaning.{MachineState}
use Rattle.store_sound.specs.Concretization.SeenLabels.{as_set}
use Rattle.store_sound.specs.Concretization.ValueMeaning.{Naming}
use Rattle.store_sound.proofs.operations.Slices.{get_there, get_map}
use Rattle.store_sound.specs.Programs.Premises.{HasPremises}
use Rattle.transfer_sound.specs.Tests.ScalarObjects.{IsScalarObject}
use Rattle.transfer_sound.proofs.tests.Relabelling.{IsRelabelling}
use Rattle.transfer_sound.proofs.tests.ScalarCells.{same_numbers}
use Rattle.transfer_sound.proofs.tests.ScalarRows.{leaf_there, only_leaf, place_here, place_zero, outside, own_value}
use Rattle.transfer_exact.specs.Values.SingleNumbers.{IsOne}
use Rattle.transfer_exact.specs.Values.SingleValues.{ExactNumber, ExactHeld, ExactScalar}
use Rattle.transfer_exact.specs.Values.SingleRows.{HoldsNumber, HoldsScalar, ExactLeaf, ExactState}
use Rattle.transfer_exact.proofs.values.NearExact.{near_one}
use Rattle.transfer_exact.proofs.accesses.Moves.{change_tells}
use Rattle.transfer_exact.proofs.edges.NullTests.{near_of}

-- ---- bytes

abbrev labelled_by : (Labels → Labels) → Labelled → Labelled
labelled_by g m = record { number = m.number; labels = g m.labels }

module _ {old new : Memory} {i : ℕ} {g : Labels → Labels} (w : IsRelabelling old new i g) where
  matched_relabels : (o k : ℕ) (class : Class) (c : Content) → Matched old i o class k c → Matched new i o class k (relabelled g c)
  unfolding byte_at
  matched_relabels o k class c m =
      let was : Byte = record { content = c; tag = m.tag } in
      let small = slice_get_within (bytes_at old i) o was m.here in
      let long = w.rewrite.alike.lengths i in
      let there = get_there (bytes_at new i) o (omega (arith, small, long)) in
      let e = w.each o there.0 there.1 in
      let own = w.rewrite.own o there.0 there.1 in
      let one : e.0 ≡ was = same_Some e.0 was (sym e.1 ∙ m.here) in
      let two : own.old ≡ was = same_Some own.old was (sym own.there ∙ m.here) in
      let content : there.0.content ≡ relabelled g c = e.2 ∙ ap (λ z. relabelled g z.content) one in
      let tag : there.0.tag ≡ m.tag = own.tag ∙ ap (λ z. z.tag) two in
      let made : Byte → Byte = λ z. z in
      let same : there.0 ≡ record { content = relabelled g c; tag = m.tag } = ap₂ (λ (x : Content) (y : Option Tag). made (record { content = x; tag = y })) content tag in
      record { tag = m.tag; here = there.1 ∙ ap Some same; fits = m.fits }

  holds_relabels : (flow : Flow) (o : ℕ) (leaf : Leaf) (z : ℤ) (la : Labels) → HoldsNumber flow old i o leaf z la → HoldsNumber flow new i o leaf z (g la)
  holds_relabels flow o leaf z la h =
      let ns : List Labelled = map (labelled_by g) h.numbers in
      let long : length ns ≡ length h.numbers = length-map h.numbers (labelled_by g) in
      record {
        integral = h.integral;
        numbers = ns;
        bytes = record {
          size = long ∙ h.bytes.size;
          each = λ k m small e.
              let y = get_map (labelled_by g) h.numbers k m e in
              subst (λ z. Matched new i (o + k) leaf.class k (number_in z)) y.2 (matched_relabels (o + k) k leaf.class (number_in y.0) (h.bytes.each k y.0 (omega (arith, small, long)) y.1));
        };
        is = same_numbers leaf.signed ns h.numbers long (λ k x y e f. let m = get_map (labelled_by g) h.numbers k x e in ap (λ z. z.number) (sym m.2) ∙ ap (λ z. z.number) (same_Some m.0 y (sym m.1 ∙ f))) ∙ h.is;
        same = λ k m e. let y = get_map (labelled_by g) h.numbers k m e in ap (λ z. z.labels) (sym y.2) ∙ ap g (h.same k y.0 y.1);
      }

-- ---- the object

module _ {I : Type 0} {l : LatticeOf I} {n : IntegersOf I} {gamma : I → ℤ → Type 0} (q : BoundLaws l n gamma) (flow : Flow) (p : HasPremises flow) (naming : Naming) (row : List (Cell I)) (long : length row ≡ flow.width) (state : MachineState) (names : (d j : ℕ) → state.entered d ≡ Some j → naming j ≡ Some d) (st : ExactState l n flow row state)
    (b i : ℕ) (kind : _) (t : IsScalarObject flow b kind) (en : state.entered b ≡ Some i) where
  abbrev place : ℕ
  place = leaf_position t.info 0

  abbrev v : values.Value I
  v = value_at l n row place

  -- the number in the object, and its labels
  pub record IsNumberHeld (a : ℤ) : Type 0 where
    pub la : Labels
    pub holds : HoldsNumber flow state.memory i 0 t.leaf a la
    pub tells : ExactNumber n state.entered state.memory v a la

  pub number_held : (a : ℤ) → gamma v.num a → IsNumberHeld a
  number_held a h = let was = st.leaves b 0 i 0 t.info t.leaf t.is (leaf_there t) en (place_here t) in by_held was.held was.holds was.tells
    where
      has : RangeHas (n.bounds v.num) a
      has = bounds_have q v.num a h

      by_held : (held : Option Scalar) → HoldsScalar flow state.memory i 0 t.leaf held → ExactHeld n state.entered state.memory v held → IsNumberHeld a
      by_held None holds tells = absurd (subst (λ z. RangeHas z a) tells.number has)
      by_held (Some (pointer x)) holds tells = absurd (subst (λ z. RangeHas z a) tells.apart has)
      by_held (Some (integer z la)) holds tells =
          let m = subst (λ z. RangeHas z a) tells.number has in
          let f = m.0 in
          let g = m.1 in
          let same : z ≡ a = omega (arith, ints, f, g) in
          record {
            la = la;
            holds = subst (λ y. HoldsNumber flow state.memory i 0 t.leaf y la) same holds;
            tells = subst (λ y. ExactNumber n state.entered state.memory v y la) same tells;
          }

  module _ (new : Memory) (g : Labels → Labels) (w : IsRelabelling state.memory new i g) (a : ℤ) (held : IsNumberHeld a) (num : I) (labels : sets.Labels) (one : IsOne n num a) (labels_are : labels ≡ as_set (g held.la)) where
    abbrev changed : values.Value I
    changed = record v { num = num; labels = labels }

    abbrev after : List (Cell I)
    after = put_value row place changed

    abbrev behind : MachineState
    behind = record { memory = new; temps = state.temps; entered = state.entered }

    changed_tells : ExactScalar n state.entered new (near_value l n changed) (integer a (g held.la))
    unfolding value_at
    changed_tells = record {
      number = near_one q num a (near_of q (value_in l (cell_at row place)).num a held.tells.number) one;
      labels_are = labels_are;
      apart = record { bases = held.tells.apart.bases; null = held.tells.apart.null; ended = held.tells.apart.ended };
      determinate = held.tells.determinate;
    }

    own_leaf : ExactLeaf l n flow behind (value_at l n after place) i 0 t.leaf
    own_leaf = record {
      held = Some (integer a (g held.la));
      holds = holds_relabels w flow 0 t.leaf a held.la held.holds;
      tells = subst (λ z. ExactScalar n state.entered new z (integer a (g held.la))) (sym (own_value p t row changed l n long)) changed_tells;
    }

    own : (j : ℕ) (leaf : Leaf) (o : ℕ) → slice_get t.info.shape.cells j ≡ Some leaf → IsPlaceOf leaf o → ExactLeaf l n flow behind (value_at l n after (leaf_position t.info j)) i o leaf
    own j leaf o e = only_leaf t (λ j leaf. IsPlaceOf leaf o → ExactLeaf l n flow behind (value_at l n after (leaf_position t.info j)) i o leaf) (λ there. subst (λ z. ExactLeaf l n flow behind (value_at l n after place) i z t.leaf) (sym (place_zero t o there)) own_leaf) j leaf e

    pub relabelled_tells : ExactState l n flow after behind
    relabelled_tells = change_tells l n flow p row after state new b i t.info t.is en st (record {
      lives = w.rewrite.alike.lives;
      others = w.rewrite.others;
      outside = outside p t row changed;
      apart = λ d j e ne f. ne (same_Some d b (sym (names d j e) ∙ (ap naming f ∙ names b i en)));
    }) own
