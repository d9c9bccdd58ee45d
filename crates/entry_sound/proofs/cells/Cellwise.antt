-- Operations that make each cell of a row from that cell alone.
use Rattle.std.proofs.Common.{◌≡◌, ℕ, zero, suc, ◌+◌, ◌≤◌, Bool, true, false, cond, Option, Some, None, List, [], ◌∷◌, length, arith, subst, sym, refl, ap, ◌∙◌, inl, inr}
use Rattle.std.specs.Prelude.{set}
use Rattle.std.specs.Option.{unwrap_or}
use Rattle.std.proofs.lemmas.Bool.{cases_eq, cases_lt}
use Rattle.std.proofs.lemmas.List.{length-set}
use Rattle.cc_base.specs.Lattices.{LatticeOf}
use Rattle.cc_base.specs.IntegerDomains.{IntegersOf}
use Rattle.cc_base.specs.declared.integer_operators.Tri.{Tri}
use Rattle.c_layout.specs.declared.data_model.Model.{Model}
use Rattle.c_layout.specs.declared.shapes.BaseInfo.{BaseInfo}
use Rattle.pointer_domain.specs.declared.base_sets.Bases.{Bases}
use Rattle.value_domain.specs.Values.Values.{value_lattice}
use Rattle.value_domain.specs.declared.values.label_sets.Labels.{Labels}
use Rattle.value_domain.specs.declared.values.values.Value as values
use Rattle.value_domain.specs.declared.values.row_cells.Cell.{Cell}
use Rattle.value_domain.specs.declared.values.row_cells.Cell.TheVariants.{Nothing, Value, First}
use Rattle.store_cells.specs.declared.access_windows.Window.{Window}
use Rattle.store_cells.specs.declared.first_zero_writes.ZeroTarget.{ZeroTarget}
use Rattle.store.specs.declared.stores.Write.{Write}
use Rattle.store_cells.specs.FirstZeroWrites.{any_zero, put_at, put_target, put_part, put_character, forget_target, forget_part, forget_zeros, zero_target}
use Rattle.store_cells.specs.RowPositions.{leaf_position, zero_position, cell_at, value_at, zero_at, join_value, write_value}
use Rattle.store.specs.Spelling.{one_character, characters, spell_cell, spell_leaf_at, spell_leaf, spell_leaves, first_zero_of, spell_part, spell_zero, spell_object, written_count}
use Rattle.store.specs.Stores.{store_leaf_at, store_leaf, store_leaves, store_class_cell, store_other_leaf_at, store_other_leaf, store_other_leaves, store_other_class, store_other_classes, store_other_bytes, store_own, store_character, store_wider, store_base, store_if, store_to, store_all}
use Rattle.store_cells.specs.Walks.{walk, turns}
use Rattle.store_sound.proofs.operations.Only.{cell_put}
use Rattle.store_sound.proofs.operations.Slices.{get_set_other}
use Rattle.store_sound.proofs.operations.StoreValues.{same_value, same_zero}

set_far : {X : Type 0} (xs : List X) (k : ℕ) (x : X) → length xs ≤ k → set xs k x ≡ xs
set_far [] k x h = refl
set_far (y ∷ ys) zero x h = absurd (omega (arith, h))
set_far (y ∷ ys) (suc k) x h = ap (λ z. y ∷ z) (set_far ys k x (omega (arith, h)))

module _ {I : Type 0} where
  -- the cell behind at a position is made of the cell there
  pub record IsCellwise (f : List (Cell I) → List (Cell I)) : Type 0 where
    pub long : (row : List (Cell I)) → length (f row) ≡ length row
    pub same : (row other : List (Cell I)) (at : ℕ) → length row ≡ length other → cell_at row at ≡ cell_at other at → cell_at (f row) at ≡ cell_at (f other) at

  pub cellwise_same : IsCellwise (λ row. row)
  cellwise_same = record { long = λ row. refl; same = λ row other at long e. e }

  put_by : (p : ℕ) (row other : List (Cell I)) (c d : Cell I) → length row ≡ length other → c ≡ d → (at : ℕ) → cell_at row at ≡ cell_at other at → cell_at (set row p c) at ≡ cell_at (set other p d) at
  put_by p row other c d long e at same = elim (cases_eq at p) [
    | inr ne ↦ ap (λ x. unwrap_or x Nothing) (get_set_other row p at c ne) ∙ (same ∙ sym (ap (λ x. unwrap_or x Nothing) (get_set_other other p at d ne)))
    | inl is ↦ elim (cases_lt p (length row)) [
      | inl h ↦ subst (λ z. cell_at (set row p c) z ≡ cell_at (set other p d) z) (sym is) (cell_put row p c h ∙ (e ∙ sym (cell_put other p d (omega (arith, h, long)))))
      | inr h ↦ ap (λ z. cell_at z at) (set_far row p c (omega (arith, h))) ∙ (same ∙ sym (ap (λ z. cell_at z at) (set_far other p d (omega (arith, h, long)))))
    ]
  ]

  pub cellwise_put : (p : ℕ) (c : List (Cell I) → Cell I) → ((row other : List (Cell I)) → cell_at row p ≡ cell_at other p → c row ≡ c other) → IsCellwise (λ row. set row p (c row))
  cellwise_put p c h = record {
    long = λ row. length-set row p (c row);
    same = λ row other at long e. elim (cases_eq at p) [
      | inl is ↦ put_by p row other (c row) (c other) long (h row other (subst (λ z. cell_at row z ≡ cell_at other z) is e)) at e
      | inr ne ↦ ap (λ x. unwrap_or x Nothing) (get_set_other row p at (c row) ne) ∙ (e ∙ sym (ap (λ x. unwrap_or x Nothing) (get_set_other other p at (c other) ne)))
    ];
  }

  pub cellwise_cond : (b : Bool) (f g : List (Cell I) → List (Cell I)) → IsCellwise f → IsCellwise g → IsCellwise (λ row. cond b (f row) (g row))
  cellwise_cond true f g h k = h
  cellwise_cond false f g h k = k

  pub cellwise_then : (f g : List (Cell I) → List (Cell I)) → IsCellwise f → IsCellwise g → IsCellwise (λ row. g (f row))
  cellwise_then f g h k = record {
    long = λ row. k.long (f row) ∙ h.long row;
    same = λ row other at long e. k.same (f row) (f other) at (h.long row ∙ (long ∙ sym (h.long other))) (h.same row other at long e);
  }

  pub cellwise_walk : {K : Type 0} (f : K → ℕ → List (Cell I) → List (Cell I)) → ((k : K) (at : ℕ) → IsCellwise (f k at)) → (at : ℕ) (ks : List K) → IsCellwise (walk f at ks)
  cellwise_walk f h at [] = cellwise_same
  cellwise_walk f h at (k ∷ ks) = cellwise_then (f k at) (walk f (at + 1) ks) (h k at) (cellwise_walk f h (at + 1) ks)

  pub cellwise_turns : (f : ℕ → List (Cell I) → List (Cell I)) → ((at : ℕ) → IsCellwise (f at)) → (count : ℕ) → IsCellwise (turns f count)
  cellwise_turns f h zero = cellwise_same
  cellwise_turns f h (suc count) = cellwise_then (turns f count) (f count) (cellwise_turns f h count) (h count)

-- ---- the operations of the store

module _ {I : Type 0} (l : LatticeOf I) (n : IntegersOf I) where
  join_cellwise : (p : ℕ) (v : values.Value I) → IsCellwise (λ row. join_value l n row p v)
  unfolding join_value
  join_cellwise p v = cellwise_put p (λ row. Value ((value_lattice l).join (value_at l n row p) v)) (λ row other e. ap (λ x. Value ((value_lattice l).join x v)) (same_value l n other row p e))

  put_cellwise : (p : ℕ) (c : Cell I) → IsCellwise (λ row. set row p c)
  put_cellwise p c = cellwise_put p (λ row. c) (λ row other e. refl)

  write_cellwise : (p : ℕ) (v : values.Value I) (strong : Bool) → IsCellwise (λ row. write_value l n row p v strong)
  unfolding write_value
  write_cellwise p v strong = cellwise_cond strong _ _ (put_cellwise p (Value v)) (join_cellwise p v)

  -- ---- texts

  pub spell_cellwise : (base : BaseInfo) (offset room : ℕ) (text : List ℕ) → IsCellwise (spell_object l n offset room text base)
  unfolding spell_object spell_leaves spell_leaf_at spell_cell spell_zero
  spell_cellwise base offset room text = cellwise_then (spell_leaves l n base offset (written_count room text) text) (spell_zero base offset (first_zero_of n room text))
      (cellwise_walk (spell_leaf l n base offset (written_count room text) text) (λ leaf at. cellwise_cond _ _ (λ row. row) (cellwise_cond _ _ _ (put_cellwise (leaf_position base at) (Value (one_character l n leaf offset text))) (join_cellwise (leaf_position base at) (characters l n leaf offset (written_count room text) text))) cellwise_same) 0 base.shape.cells)
      (cellwise_walk (spell_part base offset (first_zero_of n room text)) (λ zeros at. cellwise_cond _ _ (λ row. row) (put_cellwise (zero_position base at) (First (first_zero_of n room text))) cellwise_same) 0 base.shape.zeros)

  -- ---- stores

  target_cellwise : (p : ℕ) (target : Option ZeroTarget) (t : Tri) (alone : Bool) → IsCellwise (λ row. put_target l n row p target t alone)
  unfolding put_target
  target_cellwise p None t alone = cellwise_same
  target_cellwise p (Some target) t alone = cellwise_put p (λ row. First (put_at l n (zero_at l n row p) target t alone)) (λ row other e. ap (λ x. First (put_at l n x target t alone)) (same_zero l n other row p e))

  character_cellwise : (base : BaseInfo) (w : Window) (t : Tri) (alone : Bool) → IsCellwise (put_character l n base w t alone)
  unfolding put_character
  character_cellwise base w t alone = cellwise_walk (put_part l n base w t alone) (λ zeros at. target_cellwise (zero_position base at) (zero_target zeros w) t alone) 0 base.shape.zeros

  forget_cellwise : (base : BaseInfo) (w : Window) → IsCellwise (forget_zeros l n base w)
  unfolding forget_zeros forget_target
  forget_cellwise base w = cellwise_walk (forget_part l n base w) (λ zeros at. cellwise_cond _ _ (λ row. row) (put_cellwise (zero_position base at) (First (any_zero l n))) cellwise_same) 0 base.shape.zeros

  module _ (m : Model) (base : BaseInfo) (write : Write I) where
    leaves_cellwise : IsCellwise (store_leaves l n m base write)
    unfolding store_leaves store_leaf_at
    leaves_cellwise = cellwise_walk (store_leaf l n m base write) (λ leaf at. cellwise_cond _ _ (λ row. row) (write_cellwise (leaf_position base at) _ _) cellwise_same) 0 base.shape.cells

    class_cellwise : IsCellwise (store_class_cell l n m base write)
    unfolding store_class_cell
    class_cellwise = cellwise_cond _ _ (λ row. row) (join_cellwise _ _) cellwise_same

    own_cellwise : IsCellwise (store_own l n m base write)
    unfolding store_own
    own_cellwise = cellwise_then (store_leaves l n m base write) (store_class_cell l n m base write) leaves_cellwise class_cellwise

    other_leaves_cellwise : IsCellwise (store_other_leaves l n m base write)
    unfolding store_other_leaves store_other_leaf_at
    other_leaves_cellwise = cellwise_walk (store_other_leaf l n m base write) (λ leaf at. cellwise_cond _ _ (λ row. row) (join_cellwise (leaf_position base at) _) cellwise_same) 0 base.shape.cells

    other_classes_cellwise : (labels : Labels) → IsCellwise (store_other_classes l n m base labels)
    unfolding store_other_classes store_other_class
    other_classes_cellwise labels = cellwise_turns (store_other_class l n m base labels) (λ at. join_cellwise _ _) 5

    other_cellwise : IsCellwise (store_other_bytes l n m base write)
    unfolding store_other_bytes
    other_cellwise = cellwise_cond base.shape.heap _ _ (cellwise_then (store_other_leaves l n m base write) (store_other_classes l n m base write.value.labels) other_leaves_cellwise (other_classes_cellwise write.value.labels)) other_leaves_cellwise

    store_character_cellwise : IsCellwise (store_character l n m base write)
    unfolding store_character
    store_character_cellwise = cellwise_then (store_other_bytes l n m base write) _ other_cellwise (character_cellwise base write.access.window _ write.alone)

    wider_cellwise : IsCellwise (store_wider l n base write.access.window)
    unfolding store_wider
    wider_cellwise = cellwise_cond base.shape.heap _ (λ row. row) (forget_cellwise base write.access.window) cellwise_same

    base_cellwise : IsCellwise (store_base l n m base write)
    unfolding store_base
    base_cellwise = cellwise_cond _ _ _ (cellwise_then (store_own l n m base write) (store_character l n m base write) own_cellwise store_character_cellwise) (cellwise_then (store_own l n m base write) (store_wider l n base write.access.window) own_cellwise wider_cellwise)

  pub all_cellwise : (m : Model) (bases : List BaseInfo) (set_of : Bases) (write : Write I) → IsCellwise (store_all l n m bases set_of write)
  unfolding store_all store_if
  all_cellwise m bases set_of write = cellwise_walk (store_to l n m set_of write) (λ base at. cellwise_cond _ _ (λ row. row) (base_cellwise m base write) cellwise_same) 0 bases
