-- First zeros and padding leave the cells of leaves as the copy of a struct made them.
use Rattle.std.proofs.Common.{◌≡◌, ℕ, ◌+◌, ◌<◌, ◌≤◌, Bool, true, false, cond, Option, Some, List, length, arith, subst, sym, refl, ap, ◌∙◌}
use Rattle.std.specs.Prelude.{slice_get}
use Rattle.std.proofs.lemmas.Option.{slice_get_within}
use Rattle.cc_base.specs.Lattices.{LatticeOf}
use Rattle.cc_base.specs.IntegerDomains.{IntegersOf}
use Rattle.c_layout.specs.StructViews.{StructView, structs_view}
use Rattle.c_layout.specs.declared.leaf_lists.Leaf.{Leaf}
use Rattle.c_layout.specs.declared.shapes.BaseInfo.{BaseInfo}
use Rattle.cfg.specs.WellFormed.{base_cells, base_values}
use Rattle.cfg.specs.declared.programs.Flow.{Flow}
use Rattle.pointer_domain.specs.declared.pointer_sets.Pointers.{Pointers}
use Rattle.value_domain.specs.declared.values.row_cells.Cell.{Cell}
use Rattle.store_cells.specs.AccessWindows.{window_of, window_between}
use Rattle.store_objects.specs.LiveBases.{only_base}
use Rattle.store_cells.specs.RowPositions.{cell_at}
use Rattle.store_cells.specs.Walks.{walk}
use Rattle.store_sound.specs.Programs.Premises.{HasPremises}
use Rattle.store_structs.specs.CopyZeros.{Exact, copied_window, copy_zeros}
use Rattle.store_structs.specs.PaddingWrites.{Padded, has_padding, pad_leaf_at, pad_leaf, pad_leaves, pad_classes, pad_cells, write_padding}
use Rattle.store_structs.specs.StructCopies.{exact_copy, copy_all, finish_base, finish_if, finish_at, finish_all, finish, finish_reached, copy_route, copy_between, copy_found, copy_struct}
use Rattle.struct_copies_sound.specs.Structs.StructTables.{IsListed}
use Rattle.struct_copies_sound.proofs.batches.FinishWrites.{zeros_only, pad_zeros_only}
use Rattle.transfer_exact.specs.Values.SingleRows.{IsPlainProgram}
use Rattle.transfer_exact.proofs.places.OneTurn.{walk_idle, walk_once}
use Rattle.transfer_exact.proofs.places.OneBase.{has_own, has_no_other}
use Rattle.transfer_exact.specs.Accesses.TypedAccesses.{HasObjects}
use Rattle.run_exact.proofs.structs.PlainPadding.{padded, none_met}
use Rattle.run_exact.proofs.structs.CopiedRows.{IsSide, leaves, base_fits, place_is, route, to_place, moved, all_copied}

module _ (flow : Flow) (p : HasPremises flow) (objects : HasObjects flow) (plain : IsPlainProgram flow) (index : ℕ) (view : StructView) (listed : IsListed flow.model (structs_view flow.structs) index view)
    (b d : ℕ) (target source : BaseInfo) (o a : ℕ) (t : IsSide flow index view b target o) (s : IsSide flow index view d source a)
    (apart : (x : ℕ) → d ≡ b → o ≤ x → x < o + view.size → a ≤ x → x < a + view.size → o ≡ a)
    {I : Type 0} (l : LatticeOf I) (n : IntegersOf I) where
  abbrev pad : Padded
  pad = padded flow index view listed target o t.there t.near (objects b target t.at) (λ j leaf e. plain.apart b j target leaf t.at e)

  leaf_stays : (j : ℕ) (leaf : Leaf) → slice_get target.shape.cells j ≡ Some leaf → (z : List (Cell I)) → pad_leaf l n flow.model target pad leaf j z ≡ z
  unfolding pad_leaf_at
  leaf_stays j leaf e z = let none = none_met flow index view listed target o t.there t.near (objects b target t.at) (λ j leaf e. plain.apart b j target leaf t.at e) j leaf e in rw none refl

  cells_stay : (z : List (Cell I)) → pad_cells l n flow.model target pad z ≡ z
  unfolding pad_cells pad_leaves
  cells_stay z =
      ap (λ y. cond y (pad_classes l n flow.model target (walk (pad_leaf l n flow.model target pad) 0 target.shape.cells z)) (walk (pad_leaf l n flow.model target pad) 0 target.shape.cells z)) (plain.no_heap b target t.at)
      ∙ walk_idle (pad_leaf l n flow.model target pad) 0 target.shape.cells z (λ j k leaf e f. let same : k ≡ j = omega (arith, f) in subst (λ y. pad_leaf l n flow.model target pad leaf y z ≡ z) (sym same) (leaf_stays j leaf e z))

  -- not where a first zero of the target is
  abbrev pub IsBeside : ℕ → Type 0
  IsBeside x = target.first + base_cells target ≤ x → x < target.first + base_values target → ⊥

  module _ (x : ℕ) (beside : target.first + base_cells target ≤ x → x < target.first + base_values target → ⊥) where
    far : target.first + base_cells target ≤ x → x < (target.first + base_cells target) + length target.shape.zeros → ⊥
    far f g = beside f (omega (arith, g))

    padding_stays : (z : List (Cell I)) → cell_at (write_padding l n flow.model target pad z) x ≡ cell_at z x
    unfolding write_padding
    padding_stays z = (pad_zeros_only l n target (base_fits flow p objects plain index view listed b target t.at) flow.model pad).keeps (pad_cells l n flow.model target pad z) x far ∙ ap (λ y. cell_at y x) (cells_stay z)

    base_stays : (exact : Option Exact) (padding : Bool) (z : List (Cell I)) → cell_at (finish_base l n (route flow p objects plain index view listed b d target source o a t s apart) pad exact padding target z) x ≡ cell_at z x
    unfolding finish_base
    base_stays exact padding z = by_padding padding ∙ (zeros_only l n target (base_fits flow p objects plain index view listed b target t.at) (copied_window (window_between o o) view.size) exact).keeps z x far
      where
        by_padding : (c : Bool) → cell_at (cond c (write_padding l n flow.model target pad (copy_zeros l n target (copied_window (window_between o o) view.size) exact z)) (copy_zeros l n target (copied_window (window_between o o) view.size) exact z)) x ≡ cell_at (copy_zeros l n target (copied_window (window_between o o) view.size) exact z) x
        by_padding true = padding_stays (copy_zeros l n target (copied_window (window_between o o) view.size) exact z)
        by_padding false = refl

    finish_stays : (z : List (Cell I)) → cell_at (finish l n (route flow p objects plain index view listed b d target source o a t s apart) pad z) x ≡ cell_at z x
    unfolding finish finish_all finish_if
    finish_stays z =
        let exact : Option Exact = exact_copy (route flow p objects plain index view listed b d target source o a t s apart) view.size in
        let padding : Bool = has_padding flow.model pad in
        ap (λ y. cell_at y x) (walk_once (finish_at l n (route flow p objects plain index view listed b d target source o a t s apart) pad (exact_copy (route flow p objects plain index view listed b d target source o a t s apart) view.size) (has_padding flow.model pad)) 0 flow.bases.items z b b target t.at (omega arith)
        (λ i e other f g m y. let u = has_no_other b e (λ k. m (omega (arith, g, k))) in rw u refl)
        ∙ (let has = has_own b t.few in rw has refl))
        ∙ base_stays (exact_copy (route flow p objects plain index view listed b d target source o a t s apart) view.size) (has_padding flow.model pad) z

  -- ---- the copy

  module _ (row : List (Cell I)) (wide : p.laid.behind ≤ length row) where
    -- a row behind the copy
    pub record CopiesRow (found : Option (List (Cell I))) : Type 0 where
      pub after : List (Cell I)
      pub is : found ≡ Some after
      pub made : (number : ℕ) (leaf : Leaf) (e : slice_get (leaves flow p objects plain index view listed) number ≡ Some leaf) → cell_at after (to_place flow p objects plain index view listed b d target source o a t s apart number leaf e) ≡ moved flow p objects plain index view listed b d target source o a t s apart l n row wide number leaf e
      pub kept : (x : ℕ) → (target.first + base_cells target ≤ x → x < target.first + base_values target → ⊥) → ((number : ℕ) (leaf : Leaf) (e : slice_get (leaves flow p objects plain index view listed) number ≡ Some leaf) → x ≡ to_place flow p objects plain index view listed b d target source o a t s apart number leaf e → ⊥) → cell_at after x ≡ cell_at row x

    route_copies : CopiesRow (copy_route l n (route flow p objects plain index view listed b d target source o a t s apart) view row)
    unfolding copy_route
    route_copies =
        let g = all_copied flow p objects plain index view listed b d target source o a t s apart l n row wide in
        let all : copy_all l n (route flow p objects plain index view listed b d target source o a t s apart) view.leaves row ≡ Some g.value = ap (λ z. copy_all l n (route flow p objects plain index view listed b d target source o a t s apart) z row) listed.counted ∙ g.is in
        record {
          after = finish l n (route flow p objects plain index view listed b d target source o a t s apart) pad g.value;
          is = ap (finish_reached l n (route flow p objects plain index view listed b d target source o a t s apart) pad) all;
          made = λ number leaf e.
              let u = place_is flow p objects plain index view listed b target o t number leaf e in
              let u0 = u.0 in
              let u1 = u.1 in
              let below = slice_get_within (leaves flow p objects plain index view listed) number leaf e in
              finish_stays (to_place flow p objects plain index view listed b d target source o a t s apart number leaf e) (λ f h. omega (arith, f, u0, u1)) g.value ∙ g.good.made number leaf e (omega arith) below;
          kept = λ x beside none. finish_stays x beside g.value ∙ g.good.kept x (λ number leaf e low below. none number leaf e);
        }

    pub struct_copies : (x y : Pointers I) → x.bases ≡ only_base b → y.bases ≡ only_base d → window_of n x view.size ≡ Some (window_between o o) → window_of n y view.size ≡ Some (window_between a a) → slice_get (structs_view flow.structs) index ≡ Some view → CopiesRow (copy_struct l n flow.model flow.bases.items (structs_view flow.structs) index x y row)
    unfolding copy_struct
    struct_copies x y e f g h there =
        let r = route_copies in
        record {
          after = r.after;
          is = ap (λ z. copy_found l n flow.model flow.bases.items (structs_view flow.structs) index x y z row) there
              ∙ ((λ i. copy_between l n flow.model flow.bases.items (structs_view flow.structs) index view (e i) (g i) (f i) (h i) row) ∙ r.is);
          made = r.made;
          kept = r.kept;
        }
