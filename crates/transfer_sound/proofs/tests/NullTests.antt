-- Tests of a pointer object against a null constant refine its cell.
use Rattle.std.proofs.Common.{◌≡◌, ℕ, zero, suc, ◌-◌, Bool, true, false, cond, ◌&&◌, Option, Some, None, List, [], ◌∷◌, take, arith, subst, sym, refl, ap, ◌∙◌}
use Rattle.std.specs.Prelude.{slice_get, ℤ, ◌==◌}
use Rattle.std.proofs.lemmas.Bool.{and_parts, eqb-true, true≢false}
use Rattle.std.proofs.lemmas.List.{length-map, length-take, length-set}
use Rattle.std.proofs.lemmas.Option.{same_Some, slice_get_within}
use Rattle.cc_base.specs.Lattices.{LatticeOf}
use Rattle.cc_base.specs.IntegerDomains.{IntegersOf, BoundLaws}
use Rattle.cc_base.specs.declared.integer_operators.Rel.{Rel}
use Rattle.cc_base.specs.declared.integer_operators.Rel.TheVariants.{Lt, Le, Gt, Ge, Eq, Ne}
use Rattle.c_layout.specs.declared.leaf_lists.Class.{Class}
use Rattle.c_layout.specs.declared.leaf_lists.Leaf.{Leaf}
use Rattle.c_layout.specs.declared.shapes.ZeroPart.{ZeroPart}
use Rattle.cfg.specs.declared.flow_edges.Side.TheVariants as side
use Rattle.cfg.specs.declared.flow_edges.Test.{Test}
use Rattle.cfg.specs.declared.machine_instructions.Scalar.TheVariants as of
use Rattle.cfg.specs.declared.programs.Flow.{Flow}
use Rattle.pointer_domain.specs.declared.pointer_sets.Pointers.{Pointers}
use Rattle.value_domain.specs.declared.values.values.Value as values
use Rattle.value_domain.specs.declared.values.row_cells.Cell.{Cell}
use Rattle.value_domain.specs.declared.values.row_cells.Cell.TheVariants.{Value}
use Rattle.store_cells.specs.ClassNumbers.{is_pointer}
use Rattle.store_cells.specs.NearValues.{near_pointer, near_value}
use Rattle.store_cells.specs.RowPositions.{leaf_position, zero_position, value_at, zero_at, put_value}
use Rattle.transfer_system.specs.Refinements.{position_of, named_by, not_null, tested_value, refine_pointer_at, refine_pointer, refine_named, refine_in, refine}
use Rattle.transfer_checks.specs.ViolationSets.{no_violations}
use Rattle.memory_model.specs.Memory.ScalarSizes.{class_bytes}
use Rattle.memory_model.specs.Memory.Bytes.{MachinePointer, null, into, Content, indeterminate, number, part, Byte}
use Rattle.memory_model.specs.Memory.Instances.{Memory, Life, live, ended, freed, life_at, bytes_at, byte_at}
use Rattle.memory_model.specs.Memory.Scalars.{Scalar, integer, pointer}
use Rattle.memory_model.specs.Memory.Labels.{Labels}
use Rattle.memory_model.specs.Effects.ScalarBytes.{contents}
use Rattle.memory_model.specs.Effects.Accesses.{same_place, is_part, are_parts, is_zero, are_zeros, pointer_in}
use Rattle.memory_model.specs.Effects.Tests as machine
use Rattle.memory_model.specs.Effects.Tests.{TestedSide, SideTest, object, nothing, scalar_size, object_bytes, side_scalar, pointers_hold, sides_hold, test_holds, passing}
use Rattle.memory_model.specs.Effects.Worlds.{World, Stuck, with_memory}
use Rattle.semantics.specs.CfgMachine.FlowStates.{ProgramState}
use Rattle.semantics.specs.CfgMachine.FlowEdges.{with_side, in_world, testing}
use Rattle.lower_templates.specs.Views.ProgramViews.{flow_view}
use Rattle.store_sound.specs.Concretization.ValueMeaning.{Naming, InGammaByLife, InGammaPointer, InGammaContent, InGammaZero}
use Rattle.store_sound.specs.Concretization.SoundMemory.{IsContentIn, IsPointerIn}
use Rattle.store_sound.specs.Concretization.RowMeaning.{InGammaLeaf, InGamma, array_bytes}
use Rattle.store_sound.specs.Concretization.Coverage.{state_of}
use Rattle.store_sound.proofs.operations.CellReads.{scalar_pointer_is}
use Rattle.store_sound.proofs.operations.Slices.{get_there, get_map, get_take}
use Rattle.store_sound.proofs.operations.StoreRows.{zero_is}
use Rattle.store_sound.proofs.operations.StoreValues.{same_zero}
use Rattle.store_sound.specs.Programs.Premises.{HasPremises}
use Rattle.transfer_sound.specs.Values.SoundSteps.{IsReached, IsStoodFor}
use Rattle.transfer_sound.proofs.values.NearScalars.{near_pointer_stands}
use Rattle.transfer_sound.proofs.values.Replies.{clean_stop_good, if_some_good, clean_goes_good}
use Rattle.transfer_sound.proofs.objects.ObjectRows.{own_instance, object_stands}
use Rattle.transfer_sound.specs.Tests.ScalarObjects.{IsScalarObject, IsNullTest}
use Rattle.transfer_sound.proofs.tests.Relabelling.{stays_rewrite}
use Rattle.transfer_sound.proofs.tests.ScalarRows.{one_cell, only_leaf, not_heap, fits, place_is, keeps, outside, own_value}
use Rattle.transfer_sound.proofs.tests.ScalarCells.{byte_stands, size_is, not_older}

-- ---- contents that are read as a pointer

-- zeros are read as null, and parts as the pointer of which they are parts
abbrev IsReadAs : MachinePointer → Content → Type 0
IsReadAs null c = (la : Labels) × (c ≡ number 0 la)
IsReadAs (into i offset lo hi) c = (k : ℕ) × (c ≡ part (into i offset lo hi) k)

zero_as : (c : Content) → is_zero c ≡ true → IsReadAs null c
zero_as indeterminate h = absurd (true≢false (sym h))
zero_as (number zero la) h = (la, refl)
zero_as (number (suc m) la) h = absurd (true≢false (sym h))
zero_as (part x k) h = absurd (true≢false (sym h))

zeros_as : (cs : List Content) → are_zeros cs ≡ true → (k : ℕ) (c : Content) → slice_get cs k ≡ Some c → IsReadAs null c
zeros_as [] h k c e = cc
zeros_as (x ∷ xs) h zero c e = subst (IsReadAs null) (same_Some x c e) (zero_as x (and_parts (is_zero x) (are_zeros xs) h).0)
zeros_as (x ∷ xs) h (suc k) c e = zeros_as xs (and_parts (is_zero x) (are_zeros xs) h).1 k c e

part_as : (i offset lo hi j : ℕ) (c : Content) → is_part (into i offset lo hi) j c ≡ true → IsReadAs (into i offset lo hi) c
part_as i offset lo hi j indeterminate h = absurd (true≢false (sym h))
part_as i offset lo hi j (number m la) h = absurd (true≢false (sym h))
part_as i offset lo hi j (part null k) h = absurd (true≢false (sym h))
part_as i offset lo hi j (part (into a b c d) k) h =
    let x = and_parts (same_place i offset lo hi (into a b c d)) (j == k) h in
    let y = and_parts (i == a) ((offset == b) && ((lo == c) && (hi == d))) x.0 in
    let z = and_parts (offset == b) ((lo == c) && (hi == d)) y.1 in
    let w = and_parts (lo == c) (hi == d) z.1 in
    let e = eqb-true i a y.0 in
    let f = eqb-true offset b z.0 in
    let g = eqb-true lo c w.0 in
    let m = eqb-true hi d w.1 in
    (k, cc)

parts_as : (i offset lo hi j : ℕ) (cs : List Content) → are_parts (into i offset lo hi) j cs ≡ true → (k : ℕ) (c : Content) → slice_get cs k ≡ Some c → IsReadAs (into i offset lo hi) c
parts_as i offset lo hi j [] h k c e = cc
parts_as i offset lo hi j (x ∷ xs) h zero c e = subst (IsReadAs (into i offset lo hi)) (same_Some x c e) (part_as i offset lo hi j x (and_parts (is_part (into i offset lo hi) j x) (are_parts (into i offset lo hi) (suc j) xs) h).0)
parts_as i offset lo hi j (x ∷ xs) h (suc k) c e = parts_as i offset lo hi (suc j) xs (and_parts (is_part (into i offset lo hi) j x) (are_parts (into i offset lo hi) (suc j) xs) h).1 k c e

cond_gives : {A : Type 0} (b : Bool) (x y : A) → cond b (Some x) None ≡ Some y → (b ≡ true) × (x ≡ y)
cond_gives true x y h = (refl, same_Some x y h)
cond_gives false x y h = cc

all_zeros : (cs : List Content) (x : MachinePointer) → cond (are_zeros cs) (Some null) None ≡ Some x → (k : ℕ) (c : Content) → slice_get cs k ≡ Some c → IsReadAs x c
all_zeros cs x h k c e = let g = cond_gives (are_zeros cs) null x h in subst (λ z. IsReadAs z c) g.1 (zeros_as cs g.0 k c e)

all_parts : (y : MachinePointer) (cs : List Content) (x : MachinePointer) → (are_parts null 0 cs ≡ true → ⊥) → cond (are_parts y 0 cs) (Some y) None ≡ Some x → (k : ℕ) (c : Content) → slice_get cs k ≡ Some c → IsReadAs x c
all_parts null cs x never h k c e = absurd (never (cond_gives (are_parts null 0 cs) null x h).0)
all_parts (into i offset lo hi) cs x never h k c e = let g = cond_gives (are_parts (into i offset lo hi) 0 cs) (into i offset lo hi) x h in subst (λ z. IsReadAs z c) g.1 (parts_as i offset lo hi 0 cs g.0 k c e)

read_as : (cs : List Content) (x : MachinePointer) → pointer_in cs ≡ Some x → (k : ℕ) (c : Content) → slice_get cs k ≡ Some c → IsReadAs x c
read_as [] x h k c e = cc
read_as (indeterminate ∷ cs) x h k c e = all_zeros (indeterminate ∷ cs) x h k c e
read_as (number m la ∷ cs) x h k c e = all_zeros (number m la ∷ cs) x h k c e
read_as (part y j ∷ cs) x h k c e = all_parts y (part y j ∷ cs) x (λ g. true≢false (sym (and_parts (is_part null 0 (part y j)) (are_parts null 1 cs) g).0)) h k c e

-- ---- what the value is refined to

module _ {I : Type 0} (l : LatticeOf I) (n : IntegersOf I) (gamma : I → ℤ → Type 0) (naming : Naming) (memory : Memory) where
  not_null_by : (v : Pointers I) (life : Life) (i offset lo hi : ℕ) → InGammaByLife gamma naming memory v life i offset lo hi → InGammaByLife gamma naming memory (not_null v) life i offset lo hi
  not_null_by v live i offset lo hi s = record { base = s.base; named = s.named; among = s.among; lower = s.lower; relative = s.relative; room = s.room; whole = s.whole }
  not_null_by v ended i offset lo hi s = s
  not_null_by v freed i offset lo hi s = record { base = s.base; named = s.named; among = s.among; lower = s.lower; relative = s.relative; room = s.room; whole = s.whole }

  refined_content : (near_stands : (v : Pointers I) (x : MachinePointer) → IsPointerIn memory x → InGammaPointer gamma naming memory v x → InGammaPointer gamma naming memory (near_pointer l n v) x)
      (rel : Rel) (x : MachinePointer) → pointers_hold rel x null ≡ true → (v : values.Value I) (class : Class) (c : Content) (tag : _) → IsReadAs x c → IsContentIn memory c tag → InGammaContent gamma naming memory v class c → InGammaContent gamma naming memory (near_value l n (tested_value l v rel)) class c
  refined_content near_stands Eq null h v class c tag as_it inside s =
      let was = subst (InGammaContent gamma naming memory v class) as_it.1 s in
      subst (InGammaContent gamma naming memory (near_value l n (tested_value l v Eq)) class) (sym as_it.1) (was.0, was.1)
  refined_content near_stands Ne (into i offset lo hi) h v class c tag as_it inside s =
      let was = subst (InGammaContent gamma naming memory v class) as_it.1 s in
      let within = subst (λ z. IsContentIn memory z tag) as_it.1 inside in
      subst (InGammaContent gamma naming memory (near_value l n (tested_value l v Ne)) class) (sym as_it.1) (near_stands (not_null v.pointer) (into i offset lo hi) within.0 (not_null_by v.pointer (life_at memory i) i offset lo hi was))
  refined_content near_stands Eq (into i offset lo hi) h v class c tag as_it inside s = absurd (true≢false (sym h))
  refined_content near_stands Ne null h v class c tag as_it inside s = absurd (true≢false (sym h))
  refined_content near_stands Lt x h v class c tag as_it inside s = absurd (true≢false (sym h))
  refined_content near_stands Le x h v class c tag as_it inside s = absurd (true≢false (sym h))
  refined_content near_stands Gt x h v class c tag as_it inside s = absurd (true≢false (sym h))
  refined_content near_stands Ge x h v class c tag as_it inside s = absurd (true≢false (sym h))

-- ---- the object

module _ {I : Type 0} {l : LatticeOf I} {n : IntegersOf I} {gamma : I → ℤ → Type 0} (q : BoundLaws l n gamma) (flow : Flow) (p : HasPremises flow) (naming : Naming) (row : List (Cell I)) (s : ProgramState) (r : IsReached l n gamma flow naming row s)
    (b i : ℕ) (t : IsScalarObject flow b of.Pointer) (en : s.bases b ≡ Some i) (rel : Rel) where
  abbrev memory : Memory
  memory = s.world.memory

  abbrev place : ℕ
  place = leaf_position t.info 0

  abbrev v : values.Value I
  v = value_at l n row place

  abbrev after : List (Cell I)
  after = put_value row place (tested_value l v rel)

  named : naming i ≡ Some b
  named = r.stands_for.lives.named b i en

  alive : life_at memory i ≡ live
  alive = r.stands_for.lives.alive b i en

  module _ (x : MachinePointer) (scalar : side_scalar flow.model memory (object i of.Pointer) ≡ Some (pointer x)) (hold : pointers_hold rel x null ≡ true) where
    abbrev cs : List Content
    cs = contents (object_bytes flow.model memory i of.Pointer)

    read : pointer_in cs ≡ Some x
    read = let g = scalar_pointer_is (pointer_in cs) (pointer x) scalar in let f = g.2 in let e : g.0 ≡ x = cc in g.1 ∙ ap Some e

    byte_as : (o : ℕ) (y : Byte) → byte_at memory i o ≡ Some y → IsReadAs x y.content
    unfolding byte_at
    byte_as o y e =
        let size : ℕ = scalar_size flow.model of.Pointer in
        let all : List Byte = bytes_at memory i in
        let total = size_is q flow p naming row r.long (state_of s) r.stands_for b i of.Pointer t named alive in
        let same : size ≡ class_bytes flow.model t.leaf.class = t.bytes ∙ ap (class_bytes flow.model) (sym t.class) in
        let small = slice_get_within all o y e in
        let one = length-map (take size all) (λ (z : Byte). z.content) in
        let two = length-take size all in
        let there = get_there cs o (omega (arith, total, same, small, one, two)) in
        let back = get_map (λ (z : Byte). z.content) (take size all) o there.0 there.1 in
        let found = get_take size all o back.0 back.1 in
        let equal : back.0 ≡ y = same_Some back.0 y (sym found.1 ∙ e) in
        subst (λ z. IsReadAs x z.content) equal (subst (IsReadAs x) (sym back.2) (read_as cs x read o there.0 there.1))

    near_stands : (w : Pointers I) (z : MachinePointer) → IsPointerIn memory z → InGammaPointer gamma naming memory w z → InGammaPointer gamma naming memory (near_pointer l n w) z
    near_stands w z inside h = near_pointer_stands q flow.model flow.bases.items naming memory r.stands_for.sane w z inside h

    own_cell : InGammaLeaf gamma flow naming memory b t.leaf (near_value l n (tested_value l v rel))
    own_cell = record {
      whole = λ k o ms h place plain held. absurd (true≢false (sym (ap is_pointer t.class) ∙ plain));
      byte = λ k o j content h owns y.
          let own = own_instance flow p naming row (state_of s) r.stands_for b i t.info t.is named alive (not_heap p t) (not_older flow b of.Pointer t) (stays_rewrite memory i) k h in
          let one : Byte = record { content = content; tag = y.tag } in
          let here : byte_at memory i o ≡ Some one = subst (λ u. byte_at memory u o ≡ Some one) own y.here in
          refined_content l n gamma naming memory near_stands rel x hold v t.leaf.class content y.tag (byte_as o one here) (r.stands_for.sane.bytes i o one here) (byte_stands q flow p naming row r.long (state_of s) r.stands_for b i of.Pointer t named alive o one here);
    }

    own_leaves : (j : ℕ) (leaf : Leaf) → slice_get t.info.shape.cells j ≡ Some leaf → InGammaLeaf gamma flow naming memory b leaf (value_at l n after (leaf_position t.info j))
    own_leaves = only_leaf t (λ j leaf. InGammaLeaf gamma flow naming memory b leaf (value_at l n after (leaf_position t.info j))) (subst (InGammaLeaf gamma flow naming memory b t.leaf) (sym (own_value p t row (tested_value l v rel) l n r.long)) own_cell)

    own_zeros : (z : ℕ) (zeros : ZeroPart) → slice_get t.info.shape.zeros z ≡ Some zeros → InGammaZero gamma naming memory (zero_at l n after (zero_position t.info z)) (array_bytes zeros (bytes_at memory i))
    own_zeros z zeros e =
        let small = slice_get_within t.info.shape.zeros z zeros e in
        let g = zero_is t.info z (fits p t) (omega (arith, small)) in
        let c = one_cell t in
        let d = place_is p t in
        let same = same_zero l n row after (zero_position t.info z) (keeps p t row (tested_value l v rel) (zero_position t.info z) (λ f. omega (arith, f, g, c, d))) in
        subst (λ y. InGammaZero gamma naming memory y (array_bytes zeros (bytes_at memory i))) (sym same) (r.stands_for.zeros b z i t.info zeros t.is e (record { named = named; alive = alive }))

    refined_row : InGamma l n gamma flow naming after (state_of s)
    refined_row = object_stands flow p naming row (state_of s) r.stands_for b i t.info t.is named alive (not_heap p t) (not_older flow b of.Pointer t) (stays_rewrite memory i) r.stands_for.sane after (outside p t row (tested_value l v rel)) own_leaves own_zeros

  -- ---- the test

  record IsHeld (o : Option Scalar) : Type 0 where
    at : MachinePointer
    is : o ≡ Some (pointer at)
    hold : pointers_hold rel at null ≡ true

  is_held : (o : Option Scalar) → sides_hold rel None o (Some (pointer null)) ≡ true → IsHeld o
  is_held None h = absurd (true≢false (sym h))
  is_held (Some (integer z la)) h = absurd (true≢false (sym h))
  is_held (Some (pointer x)) h = record { at = x; is = refl; hold = h }

  abbrev this : SideTest
  this = record { left = object i of.Pointer; rel = rel; right = nothing; common = None }

  null_good : (goal : Option (List (Cell I))) → goal ≡ Some after → (c : Bool) → test_holds flow.model memory this ≡ c → IsStoodFor l n gamma flow goal no_violations (in_world s (passing c (with_memory s.world memory)))
  null_good goal is false e = clean_stop_good l n gamma flow goal no_violations Stuck (with_memory s.world memory) r.begun
  null_good goal is true e =
      let k = is_held (side_scalar flow.model memory (object i of.Pointer)) e in
      let new : World = with_memory s.world memory in
      let now : ProgramState = record s { world = new } in
      clean_goes_good l n gamma flow _ _ now new r.begun (record { row = after; is = is; long = length-set row place (Value (tested_value l v rel)) ∙ r.long; naming = naming; stands_for = refined_row k.at k.is k.hold; short = r.short })

module _ {I : Type 0} {l : LatticeOf I} {n : IntegersOf I} {gamma : I → ℤ → Type 0} (q : BoundLaws l n gamma) (flow : Flow) (p : HasPremises flow) (naming : Naming) (row : List (Cell I)) (s : ProgramState) (r : IsReached l n gamma flow naming row s) where
  pub null_test_sound : (test : Test) → IsNullTest flow test → IsStoodFor l n gamma flow (refine l n flow test row) no_violations (testing (flow_view flow) s (Some test))
  unfolding refine refine_named refine_pointer
  null_test_sound test t =
      let goal : Option (List (Cell I)) = Some (refine_named l n flow (named_by (side.Object t.base of.Pointer) side.Null) test.rel row) in
      subst (λ z. IsStoodFor l n gamma flow (refine_in l n flow test z row) no_violations (with_side s test.left (λ left. with_side s test.right (λ right. in_world s (machine.pass_test flow.model (record { left = left; rel = test.rel; right = right; common = z }) s.world))))) (sym t.is)
      (subst (λ z. IsStoodFor l n gamma flow (Some (refine_named l n flow (named_by z test.right) test.rel row)) no_violations (with_side s z (λ left. with_side s test.right (λ right. in_world s (machine.pass_test flow.model (record { left = left; rel = test.rel; right = right; common = None }) s.world))))) (sym t.left)
      (subst (λ z. IsStoodFor l n gamma flow (Some (refine_named l n flow (named_by (side.Object t.base of.Pointer) z) test.rel row)) no_violations (with_side s (side.Object t.base of.Pointer) (λ left. with_side s z (λ right. in_world s (machine.pass_test flow.model (record { left = left; rel = test.rel; right = right; common = None }) s.world))))) (sym t.right)
      (if_some_good l n gamma flow goal no_violations s r.begun (s.bases t.base) (λ i. in_world s (machine.pass_test flow.model (record { left = object i of.Pointer; rel = test.rel; right = nothing; common = None }) s.world)) (λ i en.
      null_good q flow p naming row s r t.base i t.object en test.rel goal (ap (λ z. Some (refine_pointer_at l n (position_of z) test.rel row)) t.object.is) (test_holds flow.model s.world.memory (record { left = object i of.Pointer; rel = test.rel; right = nothing; common = None })) refl))))
