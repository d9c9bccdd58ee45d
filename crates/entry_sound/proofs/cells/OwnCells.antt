-- What initializes an object writes its own cells alone.
use Rattle.std.proofs.Common.{◌≡◌, ℕ, ◌+◌, ◌<◌, ◌≤◌, Bool, true, false, cond, Option, Some, None, List, [], ◌∷◌, length, arith, subst, sym, refl, ap, ◌∙◌}
use Rattle.std.specs.Prelude.{slice_get}
use Rattle.std.proofs.lemmas.Bool.{true≢false}
use Rattle.std.proofs.lemmas.Option.{same_Some}
use Rattle.cc_base.specs.Lattices.{LatticeOf}
use Rattle.cc_base.specs.IntegerDomains.{IntegersOf}
use Rattle.cc_base.specs.declared.integer_operators.Tri.{Tri}
use Rattle.c_layout.specs.declared.leaf_lists.Class.TheVariants.{Char}
use Rattle.c_layout.specs.declared.leaf_lists.Leaf.{Leaf}
use Rattle.c_layout.specs.declared.shapes.BaseInfo.{BaseInfo}
use Rattle.c_layout.specs.declared.shapes.ZeroPart.{ZeroPart}
use Rattle.c_layout.specs.declared.checked_tree.checked_units.StaticStore.{StaticStore}
use Rattle.c_layout.specs.declared.checked_tree.checked_units.StaticStore.TheVariants as one
use Rattle.cfg.specs.WellFormed.{base_cells, base_values}
use Rattle.cfg.specs.declared.programs.Flow.{Flow}
use Rattle.pointer_domain.specs.declared.base_sets.Bases.{Bases}
use Rattle.value_domain.specs.declared.values.values.Value as values
use Rattle.value_domain.specs.declared.values.row_cells.Cell.{Cell}
use Rattle.value_domain.specs.declared.values.row_cells.Cell.TheVariants.{Value, First}
use Rattle.store_cells.specs.declared.access_windows.Window.{Window}
use Rattle.store_cells.specs.declared.cell_reads.Access.{Access}
use Rattle.store_cells.specs.declared.first_zero_writes.ZeroTarget.{ZeroTarget}
use Rattle.store.specs.declared.stores.Write.{Write}
use Rattle.store_cells.specs.FirstZeroWrites.{put_at, put_target, put_part, put_character, zero_target}
use Rattle.store_objects.specs.LiveBases.{only_base, has_base}
use Rattle.store_objects.specs.ObjectLives.{at_base}
use Rattle.store_cells.specs.RowPositions.{leaf_position, zero_position, cell_at, zero_at}
use Rattle.store_cells.specs.ClassNumbers.{same_class}
use Rattle.store.specs.Spelling.{one_character, characters, spell_cell, spell_leaf_at, spell_leaf, spell_leaves, first_zero_of, spell_part, spell_zero, spell_object, spell, written_count}
use Rattle.store.specs.Stores.{store_other_leaf_at, store_other_leaf, store_other_leaves, store_other_classes, store_other_bytes, store_own, store_character, store_wider, store_base, store_if, store_to, store_all, write_to, can_store, store_access, reached_of, store_within, store}
use Rattle.store_cells.specs.Walks.{walk}
use Rattle.transfer_system.specs.StartRows.{static_class, store_static, start_store, store_at}
use Rattle.store_sound.proofs.operations.Classes.{class_small}
use Rattle.store_sound.proofs.operations.Only.{Only, only_more, only_same, only_put, only_cond, only_if, only_then, only_walk}
use Rattle.store_sound.proofs.operations.StoreRows.{Fits, join_only, own_only, wider_only}
use Rattle.store_sound.specs.Regions.RegionWrites.{WritesWithin}
use Rattle.store_sound.proofs.regions.Layers.{leaves_within, zeros_within, layers_within}
use Rattle.entry_sound.proofs.cells.ReachedBases.{only_reached}

module _ {I : Type 0} (l : LatticeOf I) (n : IntegersOf I) (flow : Flow) (info : BaseInfo) (fits : Fits info) (declared : info.shape.heap ≡ false) where
  more : (f : List (Cell I) → List (Cell I)) → Only info.first (info.first + base_cells info) f → Only info.first (info.first + base_values info) f
  more f h = only_more info.first (info.first + base_values info) f (omega arith) (omega arith) h

  -- ---- texts

  pub spelled_leaf : (offset count : ℕ) (text : List ℕ) (j : ℕ) (leaf : Leaf) → Only (leaf_position info j) (leaf_position info j + 1) (spell_leaf l n info offset count text leaf j)
  unfolding spell_leaf_at spell_cell
  spelled_leaf offset count text j leaf =
      let p : ℕ = leaf_position info j in
      only_cond p (p + 1) _ _ (λ row. row)
      (only_cond p (p + 1) _ _ _ (only_put p (p + 1) p (λ row. Value (one_character l n leaf offset text)) (omega arith) (omega arith)) (join_only l n flow.model p (characters l n leaf offset count text)))
      (only_same p (p + 1))

  pub spelled_part : (offset room : ℕ) (text : List ℕ) (z : ℕ) (zeros : ZeroPart) → Only (zero_position info z) (zero_position info z + 1) (spell_part info offset (first_zero_of n room text) zeros z)
  spelled_part offset room text z zeros =
      let p : ℕ = zero_position info z in
      only_cond p (p + 1) _ _ (λ row. row) (only_put p (p + 1) p (λ row. First (first_zero_of n room text)) (omega arith) (omega arith)) (only_same p (p + 1))

  pub spell_within : (offset room : ℕ) (text : List ℕ) → WritesWithin info.first (info.first + base_values info) (spell_object l n offset room text info)
  unfolding spell_object spell_leaves spell_zero
  spell_within offset room text = layers_within info (spell_leaves l n info offset (written_count room text) text) (λ row. row) (spell_zero info offset (first_zero_of n room text))
      (leaves_within info fits (spell_leaf l n info offset (written_count room text) text) (spelled_leaf offset (written_count room text) text)) (only_same _ _)
      (zeros_within info fits (spell_part info offset (first_zero_of n room text)) (spelled_part offset room text))

  -- ---- stores

  module _ (write : Write I) where
    other_leaf : (j : ℕ) (leaf : Leaf) → Only (leaf_position info j) (leaf_position info j + 1) (store_other_leaf l n flow.model info write leaf j)
    unfolding store_other_leaf_at
    other_leaf j leaf = let p : ℕ = leaf_position info j in only_cond p (p + 1) _ _ (λ row. row) (join_only l n flow.model p _) (only_same p (p + 1))

    other_leaves : Only info.first (info.first + length info.shape.cells) (store_other_leaves l n flow.model info write)
    unfolding store_other_leaves
    other_leaves = leaves_within info fits (store_other_leaf l n flow.model info write) other_leaf

    other_bytes : Only info.first (info.first + length info.shape.cells) (store_other_bytes l n flow.model info write)
    unfolding store_other_bytes
    other_bytes = only_if _ _ info.shape.heap (λ row. store_other_classes l n flow.model info write.value.labels (store_other_leaves l n flow.model info write row)) (store_other_leaves l n flow.model info write) (λ e. absurd (true≢false (sym e ∙ declared))) (λ e. other_leaves)

    target_only : (w : Window) (t : Tri) (alone : Bool) (z : ℕ) (target : Option ZeroTarget) → Only (zero_position info z) (zero_position info z + 1) (λ row. put_target l n row (zero_position info z) target t alone)
    unfolding put_target
    target_only w t alone z None = only_same _ _
    target_only w t alone z (Some target) = only_put _ _ (zero_position info z) (λ row. First (put_at l n (zero_at l n row (zero_position info z)) target t alone)) (omega arith) (omega arith)

    character_only : (w : Window) (t : Tri) (alone : Bool) → Only (info.first + base_cells info) ((info.first + base_cells info) + length info.shape.zeros) (put_character l n info w t alone)
    unfolding put_character
    character_only w t alone = zeros_within info fits (put_part l n info w t alone) (λ z zeros. target_only w t alone z (zero_target zeros w))

    store_character_only : Only info.first (info.first + base_values info) (store_character l n flow.model info write)
    unfolding store_character
    store_character_only = only_then _ _ (store_other_bytes l n flow.model info write) _ (only_more _ _ _ (omega arith) (omega arith) other_bytes) (only_more _ _ _ (omega arith) (omega arith) (character_only write.access.window _ write.alone))

    base_only : Only info.first (info.first + base_values info) (store_base l n flow.model info write)
    unfolding store_base
    base_only =
        let own = more (store_own l n flow.model info write) (own_only l n flow.model info write fits (class_small write.access.class)) in
        only_cond _ _ (same_class write.access.class Char) _ _
        (only_then _ _ (store_own l n flow.model info write) (store_character l n flow.model info write) own store_character_only)
        (only_then _ _ (store_own l n flow.model info write) (store_wider l n info write.access.window) own (only_more _ _ _ (omega arith) (omega arith) (wider_only l n flow.model info write.access.window fits)))

    module _ (b : ℕ) (at : slice_get flow.bases.items b ≡ Some info) where
      all_only : (set : Bases) → ((d : ℕ) → has_base set d ≡ true → d ≡ b) → Only info.first (info.first + base_values info) (store_all l n flow.model flow.bases.items set write)
      unfolding store_all store_if
      all_only set one = only_walk (store_to l n flow.model set write) _ _ 0 flow.bases.items (λ j a other e d.
          only_if _ _ (has_base set a) (store_base l n flow.model other write) (λ row. row) (λ h.
          let same_number : j ≡ b = (let i = one a h in omega (arith, i, d)) in
          let same : info ≡ other = same_Some info other (sym at ∙ (sym (ap (slice_get flow.bases.items) same_number) ∙ e)) in
          subst (λ z. Only info.first (info.first + base_values info) (store_base l n flow.model z write)) same base_only) (λ h. only_same _ _))

  -- ---- an initializer

  -- a row behind, as long and with the same cells elsewhere
  pub record IsBeside (row after : List (Cell I)) : Type 0 where
    pub long : length after ≡ length row
    pub keeps : (at : ℕ) → (info.first ≤ at → at < info.first + base_values info → ⊥) → cell_at after at ≡ cell_at row at

  only_beside : (f : List (Cell I) → List (Cell I)) → Only info.first (info.first + base_values info) f → (row after : List (Cell I)) → f row ≡ after → IsBeside row after
  only_beside f h row after e = subst (IsBeside row) e (record { long = h.long row; keeps = h.keeps row })

  beside_then : (row after last : List (Cell I)) → IsBeside row after → IsBeside after last → IsBeside row last
  beside_then row after last h k = record { long = k.long ∙ h.long; keeps = λ at ne. k.keeps at ne ∙ h.keeps at ne }

  module _ (b : ℕ) (at : slice_get flow.bases.items b ≡ Some info) where
    by_can : (can : Bool) (set : Bases) → ((d : ℕ) → has_base set d ≡ true → d ≡ b) → (write : Write I) (row after : List (Cell I)) → cond can (Some (store_all l n flow.model flow.bases.items set write row)) None ≡ Some after → IsBeside row after
    by_can false set one write row after e = absurd (cc)
    by_can true set one write row after e = only_beside (store_all l n flow.model flow.bases.items set write) (all_only write b at set one) row after (same_Some (store_all l n flow.model flow.bases.items set write row) after e)

    by_window : (signed : Bool) (v : values.Value I) (row after : List (Cell I)) (w : Option Window) (class : _) → store_within l n flow.model flow.bases.items (only_base b) class signed v row w ≡ Some after → IsBeside row after
    unfolding store_access
    by_window signed v row after None class e = absurd (cc)
    by_window signed v row after (Some w) class e =
        let access : Access = record { class = class; signed = signed; window = w } in
        let set : Bases = reached_of l n flow.bases.items row (only_base b) in
        by_can (can_store n flow.model flow.bases.items set access v) set (only_reached l n flow.bases.items row b) (write_to flow.bases.items set access v) row after e

    one_beside : (size : ℕ) (s : StaticStore) (row after : List (Cell I)) → start_store l n flow b size s row ≡ Some after → IsBeside row after
    unfolding start_store store_static store spell
    one_beside size (one.Value offset v) row after e = by_window (static_class v).1 _ row after _ (static_class v).0 e
    one_beside size (one.Spell offset room text) row after e =
        let w = spell_within offset room text in
        let f : spell_object l n offset room text info row ≡ after = sym (ap (λ z. at_base (spell_object l n offset room text) z row) at) ∙ same_Some (at_base (spell_object l n offset room text) (slice_get flow.bases.items b) row) after e in
        subst (IsBeside row) f (record { long = w.long row; keeps = w.keeps row })

    none_stays : (size k : ℕ) (stores : List StaticStore) (after : List (Cell I)) → walk (store_at l n flow b size) k stores None ≡ Some after → ⊥
    none_stays size k [] after e = cc
    none_stays size k (s ∷ ss) after e = none_stays size (k + 1) ss after e

    pub stores_beside : (size k : ℕ) (stores : List StaticStore) (row after : List (Cell I)) → walk (store_at l n flow b size) k stores (Some row) ≡ Some after → IsBeside row after
    stores_beside size k [] row after e = subst (IsBeside row) (same_Some row after e) (record { long = refl; keeps = λ at ne. refl })
    stores_beside size k (s ∷ ss) row after e = by_row (λ now f. stores_beside size (k + 1) ss now after f) (start_store l n flow b size s row) refl
      where
        by_row : ((now : List (Cell I)) → walk (store_at l n flow b size) (k + 1) ss (Some now) ≡ Some after → IsBeside now after) → (r : Option (List (Cell I))) → start_store l n flow b size s row ≡ r → IsBeside row after
        by_row next None f = absurd (none_stays size (k + 1) ss after (subst (λ z. walk (store_at l n flow b size) (k + 1) ss z ≡ Some after) f e))
        by_row next (Some now) f = beside_then row now after (one_beside size s row now f) (next now (subst (λ z. walk (store_at l n flow b size) (k + 1) ss z ≡ Some after) f e))
