-- What is written leaves something in each cell.
use Rattle.std.specs.Prelude.{ℕ, zero, suc, ◌+◌, Bool, true, false, cond, Option, Some, None, is_some, List, [], ◌∷◌, length, set, map, slice_get}
use Rattle.cc_base.specs.Lattices.{LatticeOf}
use Rattle.cc_base.specs.NumberRanges.{Range}
use Rattle.cc_base.specs.IntegerDomains.{IntegersOf}
use Rattle.cc_base.specs.declared.integer_operators.Tri.{Tri}
use Rattle.c_layout.specs.declared.data_model.Model.{Model}
use Rattle.c_layout.specs.declared.leaf_lists.Class.{Class}
use Rattle.c_layout.specs.declared.leaf_lists.Leaf.{Leaf}
use Rattle.c_layout.specs.declared.shapes.BaseInfo.{BaseInfo}
use Rattle.pointer_domain.specs.declared.base_sets.Bases.{Bases}
use Rattle.pointer_domain.specs.declared.pointer_sets.Pointers.{Pointers}
use Rattle.value_domain.specs.declared.strings.first_zeros.FirstZero.{FirstZero}
use Rattle.value_domain.specs.declared.values.label_sets.Labels.{Labels}
use Rattle.value_domain.specs.declared.values.values.Value as values
use Rattle.value_domain.specs.declared.values.row_cells.Cell.{Cell}
use Rattle.value_domain.specs.declared.values.row_cells.Cell.TheVariants.{Nothing, Value, First, State, Mixed}
use Rattle.store_cells.specs.declared.access_windows.Window.{Window}
use Rattle.store_objects.specs.declared.allocation.Fresh.{Fresh}
use Rattle.store_objects.specs.declared.allocation.Fresh.TheVariants.{Blank, Zero, Old}
use Rattle.store_cells.specs.declared.first_zero_writes.ZeroTarget.{ZeroTarget}
use Rattle.store.specs.declared.stores.Write.{Write}
use Rattle.store_cells.specs.Walks.{walk, turns}
use Rattle.store_cells.specs.RowPositions.{leaf_position, put_value, join_value, join_zero, write_value, value_count}
use Rattle.store_cells.specs.FirstZeroWrites.{zero_target, put_target, put_part, put_character, forget_target, forget_part, forget_zeros, set_part, set_zeros}
use Rattle.store_cells.specs.AccessWindows.{window_of}
use Rattle.store_cells.specs.ScalarTypes.{class_bytes}
use Rattle.store.specs.Stores.{store_leaf_at, store_leaf, store_leaves, store_class_cell, store_other_leaf_at, store_other_leaf, store_other_leaves, store_other_class, store_other_classes, store_other_bytes, store_own, store_character, store_wider, store_base, store_if, store_to, store_all, store_access, store_within, store}
use Rattle.store_objects.specs.ObjectLives.{set_cell, set_values, blank_object, at_base, forget, clear_leaf, clear_leaves, clear_object, clear, ended_cell, leave_object, leave}
use Rattle.store.specs.Spelling.{is_one_place, is_spelled, one_character, characters, spell_cell, spell_leaf_at, spell_leaf, spell_leaves, spell_part, spell_zero, spell_object, spell}
use Rattle.store_objects.specs.Freeing.{free_base_if, free_base, free_bases, free}
use Rattle.store_objects.specs.Allocations.{site_of, renamed_cell, join_cell, join_values, join_part, join_zeros, join_state, join_base, fresh_cell, fresh_leaf, fresh_leaves, fresh_class, fresh_classes, fresh_values, make_instance, make_nothing, make_of, make_fresh, free_old, replaced, renew_site, renew_found, renew}
use Rattle.transfer_monotone.specs.Edges.FilledRows.{IsFilled, AreFilled, IsLeftFilled, Fills, LeavesFilled}

module _ {I : Type 0} where
  pub fill_set : (row : List (Cell I)) (i : ℕ) (x : Cell I) → IsFilled x → AreFilled row → AreFilled (set row i x)
  fill_set [] i x h k = tt
  fill_set (c ∷ cs) zero x h k = (h, k.1)
  fill_set (c ∷ cs) (suc i) x h k = (k.0, fill_set cs i x h k.1)

  pub fill_if : (c : Bool) (x y : List (Cell I)) → AreFilled x → AreFilled y → AreFilled (cond c x y)
  fill_if true x y h k = h
  fill_if false x y h k = k

  pub fill_walk : {K : Type 0} (f : K → ℕ → List (Cell I) → List (Cell I)) → ((k : K) (at : ℕ) → Fills (f k at)) → (at : ℕ) (ks : List K) → Fills (walk f at ks)
  fill_walk f h at [] row k = k
  fill_walk f h at (x ∷ ks) row k = fill_walk f h (at + 1) ks (f x at row) (h x at row k)

  pub fill_turns : (f : ℕ → List (Cell I) → List (Cell I)) → ((at : ℕ) → Fills (f at)) → (count : ℕ) → Fills (turns f count)
  fill_turns f h zero row k = k
  fill_turns f h (suc count) row k = h count (turns f count row) (fill_turns f h count row k)

  pub fill_map : (f : Cell I → Cell I) → ((c : Cell I) → IsFilled c → IsFilled (f c)) → Fills (map f)
  fill_map f h [] k = tt
  fill_map f h (c ∷ cs) k = (h c k.0, fill_map f h cs k.1)

  module _ (l : LatticeOf I) (n : IntegersOf I) where
    pub fill_join : (at : ℕ) (v : values.Value I) → Fills (λ row. join_value l n row at v)
    unfolding join_value
    fill_join at v row h = fill_set row at (Value _) tt h

    pub fill_write : (at : ℕ) (v : values.Value I) (strong : Bool) → Fills (λ row. write_value l n row at v strong)
    unfolding write_value
    fill_write at v true row h = fill_set row at (Value v) tt h
    fill_write at v false row h = fill_join at v row h

    -- ---- first zeros

    fill_target : (at : ℕ) (target : Option ZeroTarget) (z : Tri) (alone : Bool) → Fills (λ row. put_target l n row at target z alone)
    unfolding put_target
    fill_target at None z alone row h = h
    fill_target at (Some target) z alone row h = fill_set row at (First _) tt h

    fill_character : (base : BaseInfo) (w : Window) (z : Tri) (alone : Bool) → Fills (put_character l n base w z alone)
    unfolding put_character
    fill_character base w z alone row h = fill_walk (put_part l n base w z alone) (λ part at. fill_target _ (zero_target part w) z alone) 0 base.shape.zeros row h

    forgotten_target : (at : ℕ) (target : Option ZeroTarget) → Fills (λ row. forget_target l n row at target)
    unfolding forget_target
    forgotten_target at target row h = fill_if (is_some target) _ row (fill_set row at (First _) tt h) h

    pub fill_forgotten : (base : BaseInfo) (w : Window) → Fills (forget_zeros l n base w)
    unfolding forget_zeros
    fill_forgotten base w row h = fill_walk (forget_part l n base w) (λ part at. forgotten_target _ (zero_target part w)) 0 base.shape.zeros row h

    fill_zeros : (base : BaseInfo) (z : FirstZero I) → Fills (set_zeros base z)
    unfolding set_zeros
    fill_zeros base z row h = fill_turns (set_part base z) (λ at x k. fill_set x _ (First z) tt k) (length base.shape.zeros) row h

    -- ---- stores

    fill_leaves : (m : Model) (base : BaseInfo) (write : Write I) → Fills (store_leaves l n m base write)
    unfolding store_leaves store_leaf_at
    fill_leaves m base write row h = fill_walk (store_leaf l n m base write) (λ leaf at x k. fill_if _ _ x (fill_write _ _ _ x k) k) 0 base.shape.cells row h

    fill_class : (m : Model) (base : BaseInfo) (write : Write I) → Fills (store_class_cell l n m base write)
    unfolding store_class_cell
    fill_class m base write row h = fill_if _ _ row (fill_join _ _ row h) h

    fill_own : (m : Model) (base : BaseInfo) (write : Write I) → Fills (store_own l n m base write)
    unfolding store_own
    fill_own m base write row h = fill_class m base write (store_leaves l n m base write row) (fill_leaves m base write row h)

    fill_others : (m : Model) (base : BaseInfo) (write : Write I) → Fills (store_other_leaves l n m base write)
    unfolding store_other_leaves store_other_leaf_at
    fill_others m base write row h = fill_walk (store_other_leaf l n m base write) (λ leaf at x k. fill_if _ _ x (fill_join _ _ x k) k) 0 base.shape.cells row h

    fill_classes : (m : Model) (base : BaseInfo) (labels : Labels) → Fills (store_other_classes l n m base labels)
    unfolding store_other_classes store_other_class
    fill_classes m base labels row h = fill_turns (store_other_class l n m base labels) (λ at x k. fill_join _ _ x k) 5 row h

    fill_bytes : (m : Model) (base : BaseInfo) (write : Write I) → Fills (store_other_bytes l n m base write)
    unfolding store_other_bytes
    fill_bytes m base write row h = fill_if base.shape.heap _ _ (fill_classes m base write.value.labels (store_other_leaves l n m base write row) (fill_others m base write row h)) (fill_others m base write row h)

    fill_base : (m : Model) (base : BaseInfo) (write : Write I) → Fills (store_base l n m base write)
    unfolding store_base store_character store_wider
    fill_base m base write row h =
        let own = fill_own m base write row h in
        fill_if _ _ _ (fill_character base write.access.window _ write.alone _ (fill_bytes m base write _ own)) (fill_if base.shape.heap _ _ (fill_forgotten base write.access.window _ own) own)

    fill_all : (m : Model) (bases : List BaseInfo) (reached : Bases) (write : Write I) → Fills (store_all l n m bases reached write)
    unfolding store_all store_if
    fill_all m bases reached write row h = fill_walk (store_to l n m reached write) (λ base number x k. fill_if _ _ x (fill_base m base write x k) k) 0 bases row h

    left_filled : (c : Bool) (x : List (Cell I)) → AreFilled x → IsLeftFilled (cond c (Some x) None)
    left_filled true x h = h
    left_filled false x h = tt

    fill_within : (m : Model) (bases : List BaseInfo) (reached : Bases) (class : Class) (signed : Bool) (v : values.Value I) (w : Option Window) → LeavesFilled (λ row. store_within l n m bases reached class signed v row w)
    unfolding store_access
    fill_within m bases reached class signed v None row h = tt
    fill_within m bases reached class signed v (Some w) row h = left_filled _ _ (fill_all m bases _ _ row h)

    pub store_fills : (m : Model) (bases : List BaseInfo) (p : Pointers I) (class : Class) (signed : Bool) (v : values.Value I) → LeavesFilled (store l n m bases p class signed v)
    unfolding store
    store_fills m bases p class signed v row h = fill_within m bases p.bases class signed v (window_of n p (class_bytes m class)) row h

    -- ---- objects

    fill_values : (base : BaseInfo) (v : values.Value I) → Fills (set_values base v)
    unfolding set_values
    fill_values base v row h = fill_turns (set_cell base v) (λ at x k. fill_set x _ (Value v) tt k) (value_count base) row h

    fill_at : (change : BaseInfo → List (Cell I) → List (Cell I)) → ((base : BaseInfo) → Fills (change base)) → (found : Option BaseInfo) → Fills (at_base change found)
    fill_at change h None row k = k
    fill_at change h (Some base) row k = h base row k

    blank_fills : (base : BaseInfo) → Fills (blank_object l n base)
    unfolding blank_object
    blank_fills base row h = fill_zeros base _ _ (fill_values base _ row h)

    pub forget_fills : (bases : List BaseInfo) (number : ℕ) → Fills (forget l n bases number)
    unfolding forget
    forget_fills bases number row h = fill_at (blank_object l n) blank_fills (slice_get bases number) row h

    clear_leaves_fills : (base : BaseInfo) → Fills (clear_leaves l n base)
    unfolding clear_leaves
    clear_leaves_fills base row h = fill_walk (clear_leaf l n base) (λ leaf at x k. fill_set x _ (Value _) tt k) 0 base.shape.cells row h

    clear_object_fills : (base : BaseInfo) → Fills (clear_object l n base)
    unfolding clear_object
    clear_object_fills base row h = fill_zeros base _ _ (clear_leaves_fills base row h)

    pub clear_fills : (bases : List BaseInfo) (number : ℕ) → Fills (clear l n bases number)
    unfolding clear
    clear_fills bases number row h = fill_at (clear_object l n) clear_object_fills (slice_get bases number) row h

    ended_fills : (number : ℕ) (c : Cell I) → IsFilled c → IsFilled (ended_cell l number c)
    ended_fills number Nothing h = h
    ended_fills number (Value v) h = tt
    ended_fills number (First f) h = tt
    ended_fills number (State s) h = tt
    ended_fills number Mixed h = tt

    leave_object_fills : (number : ℕ) (base : BaseInfo) → Fills (leave_object l number base)
    unfolding leave_object
    leave_object_fills number base row h = fill_zeros base _ _ (fill_values base _ _ (fill_map (ended_cell l number) (ended_fills number) row h))

    pub leave_fills : (bases : List BaseInfo) (number : ℕ) → Fills (leave l bases number)
    unfolding leave
    leave_fills bases number row h = fill_at (leave_object l number) (leave_object_fills number) (slice_get bases number) row h

    -- ---- texts

    spell_cell_fills : (at : ℕ) (leaf : Leaf) (offset count : ℕ) (text : List ℕ) → Fills (λ row. spell_cell l n row at leaf offset count text)
    unfolding spell_cell
    spell_cell_fills at leaf offset count text row h = fill_if (is_one_place leaf) (put_value row at (one_character l n leaf offset text)) (join_value l n row at (characters l n leaf offset count text)) (fill_set row at (Value (one_character l n leaf offset text)) tt h) (fill_join at (characters l n leaf offset count text) row h)

    spell_leaf_fills : (at : ℕ) (leaf : Leaf) (offset count : ℕ) (text : List ℕ) → Fills (spell_leaf_at l n offset count text leaf at)
    unfolding spell_leaf_at
    spell_leaf_fills at leaf offset count text row h = fill_if (is_spelled leaf offset count) (spell_cell l n row at leaf offset count text) row (spell_cell_fills at leaf offset count text row h) h

    spell_leaves_fills : (base : BaseInfo) (offset count : ℕ) (text : List ℕ) → Fills (spell_leaves l n base offset count text)
    unfolding spell_leaves
    spell_leaves_fills base offset count text row h = fill_walk (spell_leaf l n base offset count text) (λ leaf at. spell_leaf_fills (leaf_position base at) leaf offset count text) 0 base.shape.cells row h

    spell_zero_fills : (base : BaseInfo) (offset : ℕ) (z : FirstZero I) → Fills (spell_zero base offset z)
    unfolding spell_zero
    spell_zero_fills base offset z row h = fill_walk (spell_part base offset z) (λ part at x k. fill_if _ _ x (fill_set x _ (First z) tt k) k) 0 base.shape.zeros row h

    spell_object_fills : (offset room : ℕ) (text : List ℕ) (base : BaseInfo) → Fills (spell_object l n offset room text base)
    unfolding spell_object
    spell_object_fills offset room text base row h = spell_zero_fills base offset _ _ (spell_leaves_fills base offset _ text row h)

    pub spell_fills : (bases : List BaseInfo) (number offset room : ℕ) (text : List ℕ) → Fills (spell l n bases number offset room text)
    unfolding spell
    spell_fills bases number offset room text row h = fill_at (spell_object l n offset room text) (spell_object_fills offset room text) (slice_get bases number) row h

    -- ---- allocation and release

    free_bases_fills : (bases : List BaseInfo) (reached : Bases) (surely : Bool) → Fills (free_bases l n bases reached surely)
    unfolding free_bases free_base_if
    free_bases_fills bases reached surely row h = fill_walk (free_base l n reached surely) (λ base number x k. fill_if _ _ x (fill_set x _ (State _) tt k) k) 0 bases row h

    pub free_fills : (bases : List BaseInfo) (p : Pointers I) → Fills (free l n bases p)
    unfolding free
    free_fills bases p row h = free_bases_fills bases p.bases _ row h

    renamed_fills : (newest older : ℕ) (c : Cell I) → IsFilled c → IsFilled (renamed_cell (site_of newest older) c)
    renamed_fills newest older Nothing h = h
    renamed_fills newest older (Value v) h = tt
    renamed_fills newest older (First f) h = tt
    renamed_fills newest older (State s) h = tt
    renamed_fills newest older Mixed h = tt

    join_values_fills : (new old : BaseInfo) → Fills (join_values l n new old)
    unfolding join_values join_cell
    join_values_fills new old row h = fill_turns (join_cell l n new old) (λ at x k. fill_join _ _ x k) (value_count new) row h

    join_zeros_fills : (new old : BaseInfo) → Fills (join_zeros l n new old)
    unfolding join_zeros join_part join_zero
    join_zeros_fills new old row h = fill_turns (join_part l n new old) (λ at x k. fill_set x _ (First _) tt k) (length new.shape.zeros) row h

    join_base_fills : (new old : BaseInfo) → Fills (join_base l n new old)
    unfolding join_base join_state
    join_base_fills new old row h = fill_set _ _ (State _) tt (join_zeros_fills new old _ (join_values_fills new old row h))

    fresh_values_fills : (m : Model) (bases : List BaseInfo) (new : BaseInfo) (fresh : Fresh I) → Fills (fresh_values l n m bases new fresh)
    unfolding fresh_values fresh_classes fresh_leaves fresh_cell
    fresh_values_fills m bases new fresh row h = fill_turns (fresh_class l n m bases new fresh) (λ at x k. fill_set x _ (Value _) tt k) 6 _ (fill_walk (fresh_leaf l n m bases new fresh) (λ leaf at x k. fill_set x _ (Value _) tt k) 0 new.shape.cells row h)

    make_of_fills : (m : Model) (bases : List BaseInfo) (new : BaseInfo) (size : I) (fresh : Fresh I) (r : Range) → Fills (make_of l n m bases new size fresh r)
    unfolding make_nothing make_instance
    make_of_fills m bases new size fresh None row h = fill_set _ _ (State _) tt (fill_zeros new _ _ (fill_values new _ row h))
    make_of_fills m bases new size fresh (Some p) row h = fill_set _ _ (State _) tt (fill_zeros new _ _ (fresh_values_fills m bases new fresh row h))

    free_old_fills : (bases : List BaseInfo) (fresh : Fresh I) → Fills (free_old l n bases fresh)
    unfolding free_old
    free_old_fills bases Blank row h = h
    free_old_fills bases Zero row h = h
    free_old_fills bases (Old p) row h = free_bases_fills bases p.bases false row h

    renew_found_fills : (m : Model) (bases : List BaseInfo) (newest older : ℕ) (size : I) (fresh : Fresh I) (new old : Option BaseInfo) → Fills (renew_found l n m bases (site_of newest older) size fresh new old)
    unfolding renew_site replaced make_fresh
    renew_found_fills m bases newest older size fresh None old row h = h
    renew_found_fills m bases newest older size fresh (Some new) None row h = h
    renew_found_fills m bases newest older size fresh (Some new) (Some old) row h = free_old_fills bases _ _ (make_of_fills m bases new size _ (n.bounds size) _ (join_base_fills new old _ (fill_map (renamed_cell (site_of newest older)) (renamed_fills newest older) row h)))

    pub renew_fills : (m : Model) (bases : List BaseInfo) (newest older : ℕ) (size : I) (fresh : Fresh I) → Fills (renew l n m bases newest older size fresh)
    unfolding renew
    renew_fills m bases newest older size fresh row h = renew_found_fills m bases newest older size fresh (slice_get bases newest) (slice_get bases older) row h
