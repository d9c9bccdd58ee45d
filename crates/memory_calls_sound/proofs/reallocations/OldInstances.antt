-- The cells that get what the cells of a reallocated pointer's bases give stand for the bytes that are moved.
use Rattle.std.proofs.Common.{◌≡◌, ℕ, zero, suc, ◌+◌, ◌-◌, ◌^◌, ◌<◌, ◌≤◌, Bool, true, false, cond, Some, List, length, arith, subst, sym, refl, ap, ◌∙◌, inl, inr}
use Rattle.std.specs.Prelude.{slice_get, ℤ, count_by}
use Rattle.std.proofs.lemmas.Bool.{cases_lt}
use Rattle.std.proofs.lemmas.Option.{slice_get_within}
use Rattle.cc_base.specs.Lattices.{LatticeOf, OrderLaws}
use Rattle.cc_base.specs.IntegerDomains.{IntegersOf, BoundLaws}
use Rattle.cc_base.specs.IntegerLaws.{SoundLaws}
use Rattle.c_layout.specs.declared.leaf_lists.Class.{Class}
use Rattle.c_layout.specs.declared.leaf_lists.Leaf.{Leaf}
use Rattle.c_layout.specs.declared.shapes.BaseInfo.{BaseInfo}
use Rattle.cfg.specs.WellFormed.{base_values}
use Rattle.cfg.specs.declared.programs.Flow.{Flow}
use Rattle.pointer_domain.specs.declared.base_sets.Bases.{Bases}
use Rattle.value_domain.specs.Values.Values.{value_lattice}
use Rattle.value_domain.specs.declared.values.values.Value as values
use Rattle.value_domain.specs.declared.values.row_cells.Cell.{Cell}
use Rattle.store_objects.specs.Allocations.{old_value}
use Rattle.store_cells.specs.CellReads.{as_stored}
use Rattle.store_cells.specs.ClassNumbers.{class_number, is_pointer}
use Rattle.store_objects.specs.LiveBases.{has_base}
use Rattle.store_cells.specs.RowPositions.{leaf_position, class_position, cell_at, value_at}
use Rattle.store_cells.specs.ScalarTypes.{kind_of}
use Rattle.memory_model.specs.Memory.ScalarSizes.{class_bytes}
use Rattle.memory_model.specs.Memory.Bytes.{Content, indeterminate, number, part}
use Rattle.memory_model.specs.Memory.Instances.{Memory, live, bytes_at, byte_at, life_at}
use Rattle.memory_model.specs.Memory.Numbers.{Labelled, number_of}
use Rattle.store_sound.specs.Concretization.Matching.{Matched, Holds}
use Rattle.store_sound.specs.Concretization.Places.{IsLeafPlace, OwnedByClass, IsClassPlace}
use Rattle.store_sound.specs.Concretization.ValueMeaning.{Naming, InGammaContent}
use Rattle.store_sound.specs.Concretization.RowMeaning.{MachineState, IsLiveOf, InGammaCell, InGamma}
use Rattle.store_sound.specs.Operations.Shapes.{IsShaped, at_offset}
use Rattle.store_sound.proofs.operations.Classes.{class_above, class_size, class_small, class_number_back}
use Rattle.store_sound.proofs.operations.Larger.{value_below, content_larger}
use Rattle.store_sound.proofs.operations.Rereading.{reread}
use Rattle.store_sound.proofs.operations.Selected.{counted_place, uncounted_place}
use Rattle.store_sound.proofs.operations.Slices.{get_there}
use Rattle.store_sound.proofs.operations.StoreRows.{leaf_is, class_is}
use Rattle.store_sound.proofs.operations.StoreValues.{same_value}
use Rattle.store_sound.specs.Programs.Premises.{HasPremises}
use Rattle.memory_calls_sound.proofs.reallocations.OldValues.{leaf_gives, cell_gives, base_gives}

-- a live instance of an allocated base of a set
pub record IsOldInstance (flow : Flow) (naming : Naming) (memory : Memory) (set : Bases) (i b : ℕ) (base : BaseInfo) : Type 0 where
  pub alive : life_at memory i ≡ live
  pub named : naming i ≡ Some b
  pub there : slice_get flow.bases.items b ≡ Some base
  pub heap : base.shape.heap ≡ true
  pub among : has_base set b ≡ true

module _ {I : Type 0} {l : LatticeOf I} {n : IntegersOf I} {gamma : I → ℤ → Type 0} (o : OrderLaws l) (q : BoundLaws l n gamma) (c : SoundLaws l n gamma) (flow : Flow) (p : HasPremises flow) (naming : Naming) (row : List (Cell I)) (state : MachineState) (s : InGamma l n gamma flow naming row state) (set : Bases) (i b : ℕ) (base : BaseInfo) (old : IsOldInstance flow naming state.memory set i b base)
    (over : List (Cell I)) (same : (at : ℕ) → base.first ≤ at → at < base.first + base_values base → cell_at over at ≡ cell_at row at) (d : Class) (t : Bool) where
  shape : IsShaped base
  shape = p.shaped.each b base old.there

  fits : base.first + base_values base ≤ 2 ^ 64 - 1
  fits = let k = p.laid.laid.close b base old.there in let small = p.laid.laid.small in omega (arith, k, small)

  alive_here : IsLiveOf naming state.memory b i
  alive_here = record { named = old.named; alive = old.alive }

  leaf_same : (j : ℕ) (leaf : Leaf) → slice_get base.shape.cells j ≡ Some leaf → value_at l n over (leaf_position base j) ≡ value_at l n row (leaf_position base j)
  leaf_same j leaf e =
      let u = slice_get_within base.shape.cells j leaf e in
      let x = leaf_is base j fits u in
      same_value l n row over (leaf_position base j) (same (leaf_position base j) (omega (arith, x)) (omega (arith, x, u)))

  class_same : (k : ℕ) → k < 6 → value_at l n over (class_position base k) ≡ value_at l n row (class_position base k)
  class_same k h =
      let six : cond {A = ℕ} base.shape.heap 6 0 ≡ 6 = ap (λ z. cond {A = ℕ} z 6 0) old.heap in
      let x = class_is base k fits (omega (arith, six, h)) in
      same_value l n row over (class_position base k) (same (class_position base k) (omega (arith, x)) (omega (arith, x, six, h)))

  abbrev given : values.Value I
  given = old_value l n flow.model flow.bases.items over set (record { class = d; signed = t })

  -- what holds of some cell of the class that has the place or the byte holds of all together
  module _ (P : values.Value I → Type 0) (up : (x y : values.Value I) → (value_lattice l).leq x y ≡ true → P x → P y) where
    by_leaf : (j : ℕ) (leaf : Leaf) → slice_get base.shape.cells j ≡ Some leaf → leaf.class ≡ d → P (as_stored n flow.model (value_at l n row (leaf_position base j)) d t) → P given
    by_leaf j leaf e is h = base_gives o n flow.model over d t P up flow.bases.items set b base old.there old.among
        (leaf_gives o n flow.model over d t P up base j leaf e is (subst (λ z. P (as_stored n flow.model z d t)) (sym (leaf_same j leaf e)) h))

    by_class : P (as_stored n flow.model (value_at l n row (class_position base (class_number d))) d t) → P given
    by_class h = base_gives o n flow.model over d t P up flow.bases.items set b base old.there old.among
        (cell_gives o n flow.model over d t P up base old.heap (subst (λ z. P (as_stored n flow.model z d t)) (sym (class_same (class_number d) (class_small d))) h))

  class_cell : InGammaCell gamma flow naming state.memory b d true (IsClassPlace flow.model base.shape.cells d) (OwnedByClass flow.model base.shape.cells d) (value_at l n row (class_position base (class_number d)))
  class_cell = subst (λ z. InGammaCell gamma flow naming state.memory b z true (IsClassPlace flow.model base.shape.cells z) (OwnedByClass flow.model base.shape.cells z) (value_at l n row (class_position base (class_number d)))) (class_number_back d)
      (s.classes b (class_number d) base old.there old.heap (class_small d))

  -- ---- numbers

  module _ (a : ℕ) (ns : List Labelled) (plain : is_pointer d ≡ false) (held : Holds flow.model state.memory i a d ns) where
    are_bytes : (k : ℕ) (x : Labelled) → slice_get ns k ≡ Some x → x.number < 256
    are_bytes k x e = let m = held.each k x (slice_get_within ns k x e) e in s.sane.bytes i (a + k) _ m.here

    converted : (signed : Bool) (v : values.Value I) → gamma v.num (number_of signed ns) → gamma (as_stored n flow.model v d t).num (number_of t ns)
    converted signed v h = by_pointer (is_pointer d) plain
      where
        read : gamma (n.convert v.num (kind_of flow.model d t)) (number_of t ns)
        read =
            let size = held.size in
            let above = class_above flow.model d in
            subst (gamma (n.convert v.num (kind_of flow.model d t))) (reread signed t ns (kind_of flow.model d t) refl (sym size) (omega (arith, size, above)) are_bytes)
            (c.convert_stands (kind_of flow.model d t) v.num (number_of signed ns) (class_size flow.model d) h)

        by_pointer : (x : Bool) → x ≡ false → gamma (cond x v (record v { num = n.convert v.num (kind_of flow.model d t) })).num (number_of t ns)
        by_pointer true e = cc
        by_pointer false e = read

    inside : a + class_bytes flow.model d ≤ length (bytes_at state.memory i)
    unfolding byte_at
    inside =
        let size = held.size in
        let above = class_above flow.model d in
        let y = get_there ns (class_bytes flow.model d - 1) (omega (arith, size, above)) in
        let m = held.each (class_bytes flow.model d - 1) y.0 (omega (arith, size, above)) y.1 in
        let w = slice_get_within (bytes_at state.memory i) (a + (class_bytes flow.model d - 1)) _ m.here in
        omega (arith, w, above)

    number_up : (x y : values.Value I) → (value_lattice l).leq x y ≡ true → gamma x.num (number_of t ns) → gamma y.num (number_of t ns)
    number_up x y h g = q.larger x.num y.num (number_of t ns) (value_below l x y h).num g

    number_by : (count : ℕ) → count_by (at_offset d a) base.shape.cells ≡ count → gamma given.num (number_of t ns)
    number_by zero e = by_class (λ v. gamma v.num (number_of t ns)) number_up
        (converted true (value_at l n row (class_position base (class_number d))) (class_cell.whole i a ns alive_here (record { fits = inside; no_leaf = uncounted_place base.shape.cells d a (shape.single old.heap) e }) plain held))
    number_by (suc k) e =
        let x = counted_place base.shape.cells d a k (shape.single old.heap) e in
        by_leaf (λ v. gamma v.num (number_of t ns)) number_up x.at x.leaf x.among x.same
        (converted x.leaf.signed (value_at l n row (leaf_position base x.at))
        ((s.leaves b x.at base x.leaf old.there x.among).whole i a ns alive_here x.place (ap is_pointer x.same ∙ plain) (subst (λ z. Holds flow.model state.memory i a z ns) (sym x.same) held)))

    pub old_number : gamma given.num (number_of t ns)
    old_number = number_by (count_by (at_offset d a) base.shape.cells) refl

  -- ---- bytes

  module _ (x k : ℕ) (content : Content) (m : Matched state.memory i x d k content) (small : k < class_bytes flow.model d) where
    stored_content : (v : values.Value I) → InGammaContent gamma naming state.memory v d content → InGammaContent gamma naming state.memory (as_stored n flow.model v d t) d content
    stored_content v h = by_pointer (is_pointer d) content h
      where
        by_pointer : (y : Bool) (e : Content) → InGammaContent gamma naming state.memory v d e → InGammaContent gamma naming state.memory (cond y v (record v { num = n.convert v.num (kind_of flow.model d t) })) d e
        by_pointer true e g = g
        by_pointer false indeterminate g = g
        by_pointer false (number z la) g = g
        by_pointer false (part y j) g = g

    content_up : (y z : values.Value I) → (value_lattice l).leq y z ≡ true → InGammaContent gamma naming state.memory y d content → InGammaContent gamma naming state.memory z d content
    content_up y z h g = content_larger q naming state.memory y z d content (value_below l y z h) g

    of_class : OwnedByClass flow.model base.shape.cells d x k → InGammaContent gamma naming state.memory given d content
    of_class owns = by_class (λ v. InGammaContent gamma naming state.memory v d content) content_up
        (stored_content (value_at l n row (class_position base (class_number d))) (class_cell.byte i x k content alive_here owns m))

    content_by : (count : ℕ) → count_by (at_offset d (x - k)) base.shape.cells ≡ count → k ≤ x → InGammaContent gamma naming state.memory given d content
    content_by zero e below = of_class (record { small = small; no_leaf = λ start f y. uncounted_place base.shape.cells d (x - k) (shape.single old.heap) e (let w : start ≡ x - k = omega (arith, f) in subst (IsLeafPlace base.shape.cells d) w y) })
    content_by (suc r) e below =
        let y = counted_place base.shape.cells d (x - k) r (shape.single old.heap) e in
        by_leaf (λ v. InGammaContent gamma naming state.memory v d content) content_up y.at y.leaf y.among y.same
        (stored_content (value_at l n row (leaf_position base y.at)) (subst (λ z. InGammaContent gamma naming state.memory (value_at l n row (leaf_position base y.at)) z content) y.same
        ((s.leaves b y.at base y.leaf old.there y.among).byte i x k content alive_here (record { start = x - k; place = y.place; there = omega (arith, below); small = subst (λ z. k < class_bytes flow.model z) (sym y.same) small })
        (subst (λ z. Matched state.memory i x z k content) (sym y.same) m))))

    pub old_content : InGammaContent gamma naming state.memory given d content
    old_content = elim (cases_lt x k) [
      | inl g ↦ of_class (record { small = small; no_leaf = λ start h y. absurd (omega (arith, g, h)) })
      | inr g ↦ content_by (count_by (at_offset d (x - k)) base.shape.cells) refl g
    ]
