-- Tests of a pointer object against a null constant are told: the cell of the object tells the pointer that is there.
use Rattle.std.proofs.Common.{◌≡◌, ℕ, zero, suc, ◌-◌, ◌<◌, Bool, true, false, cond, Option, Some, None, List, [], ◌∷◌, take, arith, subst, sym, refl, ap, ◌∙◌, inl, inr}
use Rattle.std.specs.Prelude.{slice_get, ℤ, pos, ◌-ℤ◌}
use Rattle.std.proofs.lemmas.Int.{ints}
use Rattle.std.proofs.lemmas.Bool.{cases_Bool, true≢false}
use Rattle.std.proofs.lemmas.Option.{same_Some}
use Rattle.cc_base.specs.Lattices.{LatticeOf}
use Rattle.cc_base.specs.NumberRanges.{Range}
use Rattle.cc_base.specs.IntegerDomains.{IntegersOf, BoundLaws, IsNear}
use Rattle.cc_base.specs.declared.integer_operators.Rel.{Rel}
use Rattle.cc_base.specs.declared.integer_operators.Rel.TheVariants.{Lt, Le, Gt, Ge, Eq, Ne}
use Rattle.c_layout.specs.declared.leaf_lists.Class.TheVariants.{Pointer}
use Rattle.c_layout.specs.declared.leaf_lists.Leaf.{Leaf}
use Rattle.cfg.specs.declared.flow_edges.Side.TheVariants as side
use Rattle.cfg.specs.declared.flow_edges.Test.{Test}
use Rattle.cfg.specs.declared.machine_instructions.Scalar.TheVariants as of
use Rattle.cfg.specs.declared.programs.Flow.{Flow}
use Rattle.pointer_domain.specs.declared.pointer_sets.Pointers.{Pointers}
use Rattle.value_domain.specs.declared.values.values.Value as values
use Rattle.value_domain.specs.declared.values.row_cells.Cell.{Cell}
use Rattle.value_domain.specs.declared.values.row_cells.Cell.TheVariants.{Value}
use Rattle.store_cells.specs.NearValues.{is_near, near_part, part_near, near_number, near_pointer, near_value}
use Rattle.store_cells.specs.RowPositions.{leaf_position, cell_at, value_in, value_at, put_value}
use Rattle.transfer_edges.specs.Refinements.{position_of, named_by, not_null, tested_pointer, tested_value, refine_pointer_at, refine_pointer, refine_named, refine_in, refine}
use Rattle.transfer_checks.specs.ViolationSets.{no_violations}
use Rattle.memory_model.specs.Memory.Bytes.{MachinePointer, null, into, Content, number, part, Byte}
use Rattle.memory_model.specs.Memory.Instances.{Memory, Life, live, ended, freed, life_at, bytes_at, byte_at}
use Rattle.memory_model.specs.Memory.Labels.{Labels, no_labels}
use Rattle.memory_model.specs.Memory.ScalarSizes.{class_bytes}
use Rattle.memory_model.specs.Memory.Scalars.{Scalar, integer, pointer}
use Rattle.memory_model.specs.Effects.Accesses.{are_parts, are_zeros, pointer_in}
use Rattle.memory_model.specs.Effects.ScalarBytes.{contents}
use Rattle.memory_model.specs.Effects.Tests as machine
use Rattle.memory_model.specs.Effects.Tests.{SideTest, object, nothing, scalar_size, object_bytes, side_scalar, pointers_hold, sides_hold, test_holds, passing}
use Rattle.memory_model.specs.Effects.Worlds.{World, with_memory}
use Rattle.semantics.specs.CfgMachine.FlowStates.{ProgramState}
use Rattle.semantics.specs.CfgMachine.FlowEdges.{with_side, in_world, testing}
use Rattle.lower_templates.specs.Views.ProgramViews.{flow_view}
use Rattle.store_sound.specs.Concretization.Coverage.{state_of}
use Rattle.store_sound.specs.Concretization.Places.{IsPlaceOf}
use Rattle.store_sound.specs.Concretization.ValueMeaning.{Naming}
use Rattle.store_sound.proofs.operations.CellReads.{scalar_pointer_is}
use Rattle.store_sound.proofs.operations.Classes.{class_size, size_above}
use Rattle.store_sound.specs.Programs.Premises.{HasPremises}
use Rattle.transfer_sound.specs.Values.SoundSteps.{IsReached}
use Rattle.transfer_sound.proofs.values.NearScalars.{IsNearNumber}
use Rattle.transfer_sound.specs.Tests.ScalarObjects.{IsScalarObject, IsNullTest}
use Rattle.transfer_sound.proofs.tests.ScalarRows.{leaf_there, only_leaf, place_here, place_zero, outside, own_value}
use Rattle.transfer_exact.specs.Values.SingleNumbers.{IsOne}
use Rattle.transfer_exact.specs.Values.SingleValues.{IsNowhere, ExactByLife, ExactPointer, ExactHeld}
use Rattle.transfer_exact.specs.Values.SingleRows.{HoldsPointing, HoldsScalar, ExactLeaf, ExactState}
use Rattle.transfer_exact.specs.Values.SingleSteps.{IsDefined, IsExact}
use Rattle.transfer_exact.proofs.values.NearExact.{near_one, near_none}
use Rattle.transfer_exact.proofs.values.Told.{if_some_told, clean_goes_told}
use Rattle.transfer_exact.proofs.accesses.Moves.{change_tells}

-- ---- the pointer that is read is that of the first byte

cond_gives : {A : Type 0} (b : Bool) (x y : A) → cond b (Some x) None ≡ Some y → x ≡ y
cond_gives true x y h = same_Some x y h
cond_gives false x y h = cc

head_is : (n : ℕ) (bytes : List Byte) (b : Byte) → 0 < n → slice_get bytes 0 ≡ Some b → (rest : List Content) × (contents (take n bytes) ≡ b.content ∷ rest)
head_is zero bytes b h e = absurd (omega (arith, h))
head_is (suc n) [] b h e = cc
head_is (suc n) (x ∷ xs) b h e = (contents (take n xs), ap (λ (z : Byte). z.content ∷ contents (take n xs)) (same_Some x b e))

head_zero : (m : ℕ) (la : Labels) (cs : List Content) (x : MachinePointer) → pointer_in (number m la ∷ cs) ≡ Some x → null ≡ x
head_zero m la cs x h = cond_gives (are_zeros (number m la ∷ cs)) null x h

head_part : (y : MachinePointer) (j : ℕ) (cs : List Content) (x : MachinePointer) → pointer_in (part y j ∷ cs) ≡ Some x → y ≡ x
head_part y j cs x h = cond_gives (are_parts y 0 (part y j ∷ cs)) y x h

-- ---- what the value is refined to

module _ {I : Type 0} {l : LatticeOf I} {n : IntegersOf I} {gamma : I → ℤ → Type 0} (q : BoundLaws l n gamma) where
  -- a number that is one alone in what is near is near itself
  pub near_of : (x : I) (z : ℤ) → IsOne n (near_number l n x) z → IsNearNumber z
  near_of x z h = elim (cases_Bool (is_near (n.bounds x))) [
    | inl e ↦ (let g : IsOne n x z = rw e at h in by_range (n.bounds x) g e)
    | inr e ↦ (let g : IsOne n (near_part l n x) z = rw e at h in by_bounds (n.bounds (near_part l n x)) g (part_near q x))
  ]
    where
      by_range : (r : Range) → r ≡ Some (z, z) → is_near r ≡ true → IsNearNumber z
      by_range r f e = let g : is_near (Some (z, z)) ≡ true = ap is_near (sym f) ∙ e in record { from = grind (arith, ints); to = grind (arith, ints) }

      by_bounds : (r : Range) → r ≡ Some (z, z) → IsNear r → IsNearNumber z
      by_bounds r f e =
          let g = subst IsNear f e in
          let c = g.0 in
          let d = g.1 in
          record { from = omega (arith, ints, c); to = omega (arith, ints, d) }

  near_again : (x : I) (z : ℤ) → IsOne n (near_number l n x) z → IsOne n (near_number l n (near_number l n x)) z
  near_again x z h = near_one q (near_number l n x) z (near_of x z h) h

  apart_stays : (rel : Rel) (v : Pointers I) → IsNowhere v false false → IsNowhere (near_pointer l n (tested_pointer l v rel)) false false
  apart_stays Eq v h = record { bases = refl; null = h.null; ended = refl }
  apart_stays Ne v h = record { bases = h.bases; null = refl; ended = h.ended }
  apart_stays Lt v h = record { bases = h.bases; null = h.null; ended = h.ended }
  apart_stays Le v h = record { bases = h.bases; null = h.null; ended = h.ended }
  apart_stays Gt v h = record { bases = h.bases; null = h.null; ended = h.ended }
  apart_stays Ge v h = record { bases = h.bases; null = h.null; ended = h.ended }

  module _ (entered : ℕ → Option ℕ) (memory : Memory) where
    by_life : (w : Pointers I) (life : Life) (i offset lo hi : ℕ) → ExactByLife n entered (near_pointer l n w) life i offset lo hi → ExactByLife n entered (near_pointer l n (not_null (near_pointer l n w))) life i offset lo hi
    by_life w live i offset lo hi h = record {
      base = h.base;
      few = h.few;
      names = h.names;
      bases = h.bases;
      lower = near_again w.lo (pos lo) h.lower;
      relative = near_again w.rel (pos offset -ℤ pos lo) h.relative;
      room = near_again w.len (pos hi -ℤ pos lo) h.room;
      null = refl;
      ended = h.ended;
    }
    by_life w ended i offset lo hi h = record { bases = h.bases; null = refl; ended = h.ended }
    by_life w freed i offset lo hi h = absurd h

    points_tells : (w : Pointers I) (rel : Rel) (x : MachinePointer) → pointers_hold rel x null ≡ true → ExactPointer n entered memory (near_pointer l n w) x → ExactPointer n entered memory (near_pointer l n (tested_pointer l (near_pointer l n w) rel)) x
    points_tells w Eq null f h = record { bases = refl; null = h.null; ended = refl }
    points_tells w Ne (into i offset lo hi) f h = by_life w (life_at memory i) i offset lo hi h
    points_tells w Eq (into i offset lo hi) f h = absurd (true≢false (sym f))
    points_tells w Ne null f h = absurd (true≢false (sym f))
    points_tells w Lt x f h = absurd (true≢false (sym f))
    points_tells w Le x f h = absurd (true≢false (sym f))
    points_tells w Gt x f h = absurd (true≢false (sym f))
    points_tells w Ge x f h = absurd (true≢false (sym f))

    held_tells : (w : values.Value I) (rel : Rel) (held : Option Scalar) → ((x : MachinePointer) → held ≡ Some (pointer x) → pointers_hold rel x null ≡ true) → ExactHeld n entered memory (near_value l n w) held → ExactHeld n entered memory (near_value l n (tested_value l (near_value l n w) rel)) held
    held_tells w rel None hold h = record { number = near_none q (near_number l n w.num) h.number; apart = apart_stays rel (near_pointer l n w.pointer) h.apart; indeterminate = h.indeterminate }
    held_tells w rel (Some (integer z la)) hold h = record { number = near_again w.num z h.number; labels_are = h.labels_are; apart = apart_stays rel (near_pointer l n w.pointer) h.apart; determinate = h.determinate }
    held_tells w rel (Some (pointer x)) hold h = record { apart = near_none q (near_number l n w.num) h.apart; points = points_tells w.pointer rel x (hold x refl) h.points; determinate = h.determinate }

-- ---- the object

module _ {I : Type 0} {l : LatticeOf I} {n : IntegersOf I} {gamma : I → ℤ → Type 0} (q : BoundLaws l n gamma) (flow : Flow) (p : HasPremises flow) (naming : Naming) (row : List (Cell I)) (s : ProgramState) (r : IsReached l n gamma flow naming row s) (st : ExactState l n flow row (state_of s))
    (b i : ℕ) (t : IsScalarObject flow b of.Pointer) (en : s.bases b ≡ Some i) (rel : Rel) where
  abbrev memory : Memory
  memory = s.world.memory

  abbrev place : ℕ
  place = leaf_position t.info 0

  abbrev v : values.Value I
  v = value_at l n row place

  abbrev after : List (Cell I)
  after = put_value row place (tested_value l v rel)

  module _ (x : MachinePointer) (scalar : side_scalar flow.model memory (object i of.Pointer) ≡ Some (pointer x)) (hold : pointers_hold rel x null ≡ true) where
    abbrev cs : List Content
    cs = contents (object_bytes flow.model memory i of.Pointer)

    read : pointer_in cs ≡ Some x
    read = let g = scalar_pointer_is (pointer_in cs) (pointer x) scalar in let f = g.2 in let e : g.0 ≡ x = cc in g.1 ∙ ap Some e

    above : 0 < scalar_size flow.model of.Pointer
    above = size_above (class_bytes flow.model Pointer) (class_size flow.model Pointer)

    some : 0 < class_bytes flow.model t.leaf.class
    some = size_above (class_bytes flow.model t.leaf.class) (class_size flow.model t.leaf.class)

    is_read : (y : MachinePointer) → HoldsPointing flow memory i 0 t.leaf y → y ≡ x
    unfolding byte_at
    is_read null h =
        let m = h.bytes 0 some in
        let k = head_is (scalar_size flow.model of.Pointer) (bytes_at memory i) (record { content = number 0 no_labels; tag = m.tag }) above m.here in
        head_zero 0 no_labels k.0 x (ap pointer_in (sym k.1) ∙ read)
    is_read (into j o lo hi) h =
        let m = h.bytes 0 some in
        let k = head_is (scalar_size flow.model of.Pointer) (bytes_at memory i) (record { content = part (into j o lo hi) 0; tag = m.tag }) above m.here in
        head_part (into j o lo hi) 0 k.0 x (ap pointer_in (sym k.1) ∙ read)

    own_leaf : ExactLeaf l n flow (state_of s) (value_at l n after place) i 0 t.leaf
    unfolding value_at
    own_leaf =
        let was = st.leaves b 0 i 0 t.info t.leaf t.is (leaf_there t) en (place_here t) in
        record {
          held = was.held;
          holds = was.holds;
          tells = subst (λ z. ExactHeld n s.bases memory z was.held) (sym (own_value p t row (tested_value l v rel) l n r.long))
              (held_tells q s.bases memory (value_in l (cell_at row place)) rel was.held (λ y e. subst (λ z. pointers_hold rel z null ≡ true) (sym (is_read y (subst (HoldsScalar flow memory i 0 t.leaf) e was.holds))) hold) was.tells);
        }

    own : (j : ℕ) (leaf : Leaf) (o : ℕ) → slice_get t.info.shape.cells j ≡ Some leaf → IsPlaceOf leaf o → ExactLeaf l n flow (state_of s) (value_at l n after (leaf_position t.info j)) i o leaf
    own j leaf o e = only_leaf t (λ j leaf. IsPlaceOf leaf o → ExactLeaf l n flow (state_of s) (value_at l n after (leaf_position t.info j)) i o leaf) (λ there. subst (λ z. ExactLeaf l n flow (state_of s) (value_at l n after place) i z t.leaf) (sym (place_zero t o there)) own_leaf) j leaf e

    refined_tells : ExactState l n flow after (state_of s)
    refined_tells = change_tells l n flow p row after (state_of s) memory b i t.info t.is en st (record {
      lives = λ j. refl;
      others = λ j o ne. refl;
      outside = outside p t row (tested_value l v rel);
      apart = λ d j e ne f. ne (same_Some d b (sym (r.stands_for.lives.named d j e) ∙ (ap naming f ∙ r.stands_for.lives.named b i en)));
    }) own

  -- ---- the test

  record IsHeld (o : Option Scalar) : Type 0 where
    at : MachinePointer
    is : o ≡ Some (pointer at)
    hold : pointers_hold rel at null ≡ true

  is_held : (o : Option Scalar) → sides_hold rel None o (Some (pointer null)) ≡ true → IsHeld o
  is_held None h = absurd (true≢false (sym h))
  is_held (Some (integer z la)) h = absurd (true≢false (sym h))
  is_held (Some (pointer x)) h = record { at = x; is = refl; hold = h }

  abbrev this : SideTest
  this = record { left = object i of.Pointer; rel = rel; right = nothing; common = None }

  null_told : (goal : Option (List (Cell I))) → goal ≡ Some after → (c : Bool) → test_holds flow.model memory this ≡ c → IsDefined (in_world s (passing c (with_memory s.world memory))) → IsExact l n flow goal no_violations (in_world s (passing c (with_memory s.world memory)))
  null_told goal is false e d = absurd (d (with_memory s.world memory) refl)
  null_told goal is true e d =
      let k = is_held (side_scalar flow.model memory (object i of.Pointer)) e in
      let new : World = with_memory s.world memory in
      let now : ProgramState = record s { world = new } in
      clean_goes_told l n flow _ now new (record { row = after; is = is; tells = refined_tells k.at k.is k.hold })

module _ {I : Type 0} {l : LatticeOf I} {n : IntegersOf I} {gamma : I → ℤ → Type 0} (q : BoundLaws l n gamma) (flow : Flow) (p : HasPremises flow) (naming : Naming) (row : List (Cell I)) (s : ProgramState) (r : IsReached l n gamma flow naming row s) (st : ExactState l n flow row (state_of s)) where
  pub null_test_told : (test : Test) → IsNullTest flow test → IsDefined (testing (flow_view flow) s (Some test)) → IsExact l n flow (refine l n flow test row) no_violations (testing (flow_view flow) s (Some test))
  unfolding refine refine_named refine_pointer
  null_test_told test t =
      let goal : Option (List (Cell I)) = Some (refine_named l n flow (named_by (side.Object t.base of.Pointer) side.Null) test.rel row) in
      subst (λ z. IsDefined (with_side s test.left (λ left. with_side s test.right (λ right. in_world s (machine.pass_test flow.model (record { left = left; rel = test.rel; right = right; common = z }) s.world)))) → IsExact l n flow (refine_in l n flow test z row) no_violations (with_side s test.left (λ left. with_side s test.right (λ right. in_world s (machine.pass_test flow.model (record { left = left; rel = test.rel; right = right; common = z }) s.world))))) (sym t.is)
      (subst (λ z. IsDefined (with_side s z (λ left. with_side s test.right (λ right. in_world s (machine.pass_test flow.model (record { left = left; rel = test.rel; right = right; common = None }) s.world)))) → IsExact l n flow (Some (refine_named l n flow (named_by z test.right) test.rel row)) no_violations (with_side s z (λ left. with_side s test.right (λ right. in_world s (machine.pass_test flow.model (record { left = left; rel = test.rel; right = right; common = None }) s.world))))) (sym t.left)
      (subst (λ z. IsDefined (with_side s (side.Object t.base of.Pointer) (λ left. with_side s z (λ right. in_world s (machine.pass_test flow.model (record { left = left; rel = test.rel; right = right; common = None }) s.world)))) → IsExact l n flow (Some (refine_named l n flow (named_by (side.Object t.base of.Pointer) z) test.rel row)) no_violations (with_side s (side.Object t.base of.Pointer) (λ left. with_side s z (λ right. in_world s (machine.pass_test flow.model (record { left = left; rel = test.rel; right = right; common = None }) s.world))))) (sym t.right)
      (λ d. if_some_told l n flow goal no_violations s (s.bases t.base) (λ i. in_world s (machine.pass_test flow.model (record { left = object i of.Pointer; rel = test.rel; right = nothing; common = None }) s.world)) d (λ i en d.
      null_told q flow p naming row s r st t.base i t.object en test.rel goal (ap (λ z. Some (refine_pointer_at l n (position_of z) test.rel row)) t.object.is) (test_holds flow.model s.world.memory (record { left = object i of.Pointer; rel = test.rel; right = nothing; common = None })) refl d))))
