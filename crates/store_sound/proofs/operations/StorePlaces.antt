-- There is something to store, and a place for it.
use Rattle.std.proofs.Common.{◌≡◌, ℕ, zero, suc, ◌/◌, ◌%◌, Bool, true, false, cond, not, ◌&&◌, ◌||◌, Some, List, arith, sym, refl, ap, ◌∙◌}
use Rattle.std.specs.Prelude.{slice_get, ℤ, ◌==◌, is_none}
use Rattle.std.specs.Int.{bit_at}
use Rattle.std.proofs.lemmas.Nat.Bits.{bit_at-zero}
use Rattle.std.proofs.lemmas.Bool.{and_parts, and_from, true≢false, eqb-true, or_left, or_right, false_from_ne_true, ne_eqb}
use Rattle.cc_base.specs.Lattices.{LatticeOf}
use Rattle.cc_base.specs.IntegerDomains.{IntegersOf, BoundLaws}
use Rattle.c_layout.specs.declared.data_model.Model.{Model}
use Rattle.c_layout.specs.declared.leaf_lists.Leaf.{Leaf}
use Rattle.c_layout.specs.declared.shapes.BaseInfo.{BaseInfo}
use Rattle.cfg.specs.declared.machine_instructions.Scalar.TheVariants as of
use Rattle.cfg.specs.declared.machine_instructions.Scalar as declared
use Rattle.pointer_domain.specs.declared.base_sets.Bases.{Bases}
use Rattle.pointer_domain.specs.declared.pointer_sets.Pointers.{Pointers}
use Rattle.pointer_domain.specs.BaseSets.{word_of, bases_has, bases_empty}
use Rattle.pointer_domain.specs.PointerTables.{is_any}
use Rattle.value_domain.specs.declared.values.values.Value.{Value}
use Rattle.store_cells.specs.declared.cell_reads.Access.{Access}
use Rattle.store.specs.LeafSelection.{is_selected, selected_count}
use Rattle.store_objects.specs.LiveBases.{has_base}
use Rattle.store.specs.Loads.{reaches_class}
use Rattle.store.specs.Stores.{has_own_place, has_place, has_place_or, any_place, is_nothing}
use Rattle.memory_model.specs.Memory.Bytes.{MachinePointer, null, into}
use Rattle.memory_model.specs.Memory.Instances.{Memory, Life, live, ended, freed, life_at}
use Rattle.memory_model.specs.Memory.Scalars.{Scalar, integer, pointer}
use Rattle.store_sound.specs.Concretization.ValueMeaning.{Naming, InGammaInto, InGammaByLife, InGammaPointer, InGammaScalar}
use Rattle.memory_model.specs.Effects.Accesses.{class_in}
use Rattle.store_sound.specs.Operations.Scalars.{IsOfKind}
use Rattle.store_sound.proofs.operations.Walks.{walk_meets}
use Rattle.store_sound.proofs.operations.Classes.{integer_class, count_none}

-- ---- a place

or_keeps : (found more : Bool) → found ≡ true → (found || more) ≡ true
or_keeps found more h = rw h refl

pub some_place : (m : Model) (bases : List BaseInfo) (set : Bases) (access : Access) (b : ℕ) (base : BaseInfo) → slice_get bases b ≡ Some base → has_base set b ≡ true → has_own_place base access ≡ true → any_place m bases set access ≡ true
unfolding any_place has_place
some_place m bases set access b base e h g =
    walk_meets (λ s. s ≡ true) (has_place_or m set access) (λ k at s f. or_keeps s _ f) 0 bases false b b base e (omega arith)
    (λ s. or_right s _ (and_from _ _ h (or_keeps _ _ g)))

zero_not : (k : ℕ) → (k ≡ 0 → ⊥) → not (k == 0) ≡ true
zero_not zero h = absurd (h refl)
zero_not (suc k) h = rw (ne_eqb (suc k) 0 h) refl

pub leaf_place : (base : BaseInfo) (access : Access) (j : ℕ) (leaf : Leaf) → slice_get base.shape.cells j ≡ Some leaf → is_selected leaf access.class access.window ≡ true → has_own_place base access ≡ true
unfolding has_own_place
leaf_place base access j leaf e h = or_left _ _ (zero_not (selected_count base.shape.cells access.class access.window) (λ f. count_none (λ z. is_selected z access.class access.window) base.shape.cells j leaf e h f))

pub class_place : (base : BaseInfo) (access : Access) → reaches_class base access ≡ true → has_own_place base access ≡ true
unfolding has_own_place
class_place base access h = or_right _ _ h

-- ---- a value

pick : (b : Bool) (x y : ℕ) → x ≡ 0 → y ≡ 0 → cond b x y ≡ 0
pick true x y e f = e
pick false x y e f = f

word_none : (s : Bases) (i : ℕ) → bases_empty s ≡ true → word_of s i ≡ 0
word_none s i h =
    let a = and_parts (s.word0 == 0) ((s.word1 == 0) && ((s.word2 == 0) && ((s.word3 == 0) && ((s.word4 == 0) && ((s.word5 == 0) && ((s.word6 == 0) && (s.word7 == 0))))))) h in
    let b = and_parts (s.word1 == 0) ((s.word2 == 0) && ((s.word3 == 0) && ((s.word4 == 0) && ((s.word5 == 0) && ((s.word6 == 0) && (s.word7 == 0)))))) a.1 in
    let c = and_parts (s.word2 == 0) ((s.word3 == 0) && ((s.word4 == 0) && ((s.word5 == 0) && ((s.word6 == 0) && (s.word7 == 0))))) b.1 in
    let d = and_parts (s.word3 == 0) ((s.word4 == 0) && ((s.word5 == 0) && ((s.word6 == 0) && (s.word7 == 0)))) c.1 in
    let e = and_parts (s.word4 == 0) ((s.word5 == 0) && ((s.word6 == 0) && (s.word7 == 0))) d.1 in
    let f = and_parts (s.word5 == 0) ((s.word6 == 0) && (s.word7 == 0)) e.1 in
    let g = and_parts (s.word6 == 0) (s.word7 == 0) f.1 in
    pick (i == 0) s.word0 (cond (i == 1) s.word1 (cond (i == 2) s.word2 (cond (i == 3) s.word3 (cond (i == 4) s.word4 (cond (i == 5) s.word5 (cond (i == 6) s.word6 s.word7)))))) (eqb-true _ _ a.0) (pick (i == 1) s.word1 (cond (i == 2) s.word2 (cond (i == 3) s.word3 (cond (i == 4) s.word4 (cond (i == 5) s.word5 (cond (i == 6) s.word6 s.word7))))) (eqb-true _ _ b.0) (pick (i == 2) s.word2 (cond (i == 3) s.word3 (cond (i == 4) s.word4 (cond (i == 5) s.word5 (cond (i == 6) s.word6 s.word7)))) (eqb-true _ _ c.0) (pick (i == 3) s.word3 (cond (i == 4) s.word4 (cond (i == 5) s.word5 (cond (i == 6) s.word6 s.word7))) (eqb-true _ _ d.0) (pick (i == 4) s.word4 (cond (i == 5) s.word5 (cond (i == 6) s.word6 s.word7)) (eqb-true _ _ e.0) (pick (i == 5) s.word5 (cond (i == 6) s.word6 s.word7) (eqb-true _ _ f.0) (pick (i == 6) s.word6 s.word7 (eqb-true _ _ g.0) (eqb-true _ _ g.1)))))))

empty_has : (s : Bases) (b : ℕ) → bases_empty s ≡ true → bases_has s b ≡ false
empty_has s b h = ap (λ w. bit_at w (b % 128) == 1) (word_none s (b / 128) h) ∙ ap (λ z. z == 1) (bit_at-zero (b % 128))

pub not_empty : (s : Bases) (b : ℕ) → bases_has s b ≡ true → bases_empty s ≡ false
not_empty s b h = false_from_ne_true (bases_empty s) (λ e. true≢false (sym h ∙ empty_has s b e))

nothing_false : (a e : Bool) → (a || e) ≡ true → (not a && not e) ≡ false
nothing_false true e h = refl
nothing_false false true h = refl
nothing_false false false h = cc

module _ {I : Type 0} {l : LatticeOf I} {n : IntegersOf I} {gamma : I → ℤ → Type 0} (q : BoundLaws l n gamma) (naming : Naming) (memory : Memory) where
  into_any : (v : Pointers I) (i offset lo hi : ℕ) → InGammaInto gamma naming memory v i offset lo hi → (is_any v || v.ended) ≡ true
  into_any v i offset lo hi s = rw (not_empty v.bases s.base s.among) refl

  life_any : (v : Pointers I) (life : Life) (i offset lo hi : ℕ) → InGammaByLife gamma naming memory v life i offset lo hi → (is_any v || v.ended) ≡ true
  life_any v live i offset lo hi s = into_any v i offset lo hi s
  life_any v freed i offset lo hi s = into_any v i offset lo hi s
  life_any v ended i offset lo hi s = or_right _ _ s

  pointer_any : (v : Pointers I) (p : MachinePointer) → InGammaPointer gamma naming memory v p → (is_any v || v.ended) ≡ true
  pointer_any v null s = or_left _ _ (or_right _ _ s)
  pointer_any v (into i offset lo hi) s = life_any v (life_at memory i) i offset lo hi s

  bounded : (x : I) (z : ℤ) → gamma x z → is_none (n.bounds x) ≡ false
  bounded x z h = let r = q.inside x z h in rw r.2 refl

  pub is_something : (kind : declared.Scalar) (v : Scalar) (x : Value I) → IsOfKind kind v → InGammaScalar gamma naming memory x v → is_nothing n (class_in kind) x ≡ false
  is_something (of.Int kind) (integer z labels) x k s = rw (integer_class kind) (bounded x.num z s.0)
  is_something (of.Int kind) (pointer p) x k s = absurd (true≢false (sym k))
  is_something of.Pointer (integer z labels) x k s = absurd (true≢false (sym k))
  is_something of.Pointer (pointer p) x k s = nothing_false (is_any x.pointer) x.pointer.ended (pointer_any x.pointer p s)
