-- Rows that are alike in the cells of one object are alike behind a store into it.
use Rattle.std.proofs.Common.{◌≡◌, ℕ, Bool, true, false, cond, Option, Some, None, List, subst, sym, ◌∙◌}
use Rattle.std.specs.Prelude.{slice_get}
use Rattle.std.proofs.lemmas.Option.{same_Some}
use Rattle.cc_base.specs.Lattices.{LatticeOf}
use Rattle.cc_base.specs.IntegerDomains.{IntegersOf}
use Rattle.c_layout.specs.declared.data_model.Model.{Model}
use Rattle.c_layout.specs.declared.leaf_lists.Class.{Class}
use Rattle.c_layout.specs.declared.shapes.BaseInfo.{BaseInfo}
use Rattle.pointer_domain.specs.declared.base_sets.Bases.{Bases}
use Rattle.pointer_domain.specs.declared.pointer_sets.Pointers.{Pointers}
use Rattle.value_domain.specs.declared.values.values.Value.{Value}
use Rattle.value_domain.specs.declared.values.row_cells.Cell.{Cell}
use Rattle.store_cells.specs.declared.access_windows.Window.{Window}
use Rattle.store_cells.specs.declared.cell_reads.Access.{Access}
use Rattle.store_cells.specs.AccessWindows.{window_of}
use Rattle.store_objects.specs.LiveBases.{only_base}
use Rattle.store_cells.specs.ScalarTypes.{class_bytes}
use Rattle.store.specs.Stores.{write_to, can_store, store_access, reached_of, store_within, store_all, store}
use Rattle.entry_sound.proofs.cells.Cellwise.{IsCellwise, all_cellwise}
use Rattle.entry_sound.proofs.cells.ClearedCells.{AreAlike}
use Rattle.entry_sound.proofs.cells.ReachedBases.{reached_same}

-- what is made cell by cell of rows that are alike is alike
pub cellwise_alike : {I : Type 0} (lo hi : ℕ) (f : List (Cell I) → List (Cell I)) → IsCellwise f → (row other : List (Cell I)) → AreAlike lo hi row other → AreAlike lo hi (f row) (f other)
cellwise_alike lo hi f c row other a = record {
  long = c.long row ∙ (a.long ∙ sym (c.long other));
  same = λ at from to. c.same row other at a.long (a.same at from to);
}

module _ {I : Type 0} (l : LatticeOf I) (n : IntegersOf I) (m : Model) (bases : List BaseInfo) (b : ℕ) (info : BaseInfo) (at : slice_get bases b ≡ Some info) (declared : info.shape.heap ≡ false) (lo hi : ℕ) (row other : List (Cell I)) (a : AreAlike lo hi row other) where
  by_can : (can : Bool) (set : Bases) (access : Access) (v : Value I) (after behind : List (Cell I)) → cond can (Some (store_all l n m bases set (write_to bases set access v) row)) None ≡ Some after → cond can (Some (store_all l n m bases set (write_to bases set access v) other)) None ≡ Some behind → AreAlike lo hi after behind
  by_can false set access v after behind e f = absurd (cc)
  by_can true set access v after behind e f =
      let one : List (Cell I) = store_all l n m bases set (write_to bases set access v) row in
      let two : List (Cell I) = store_all l n m bases set (write_to bases set access v) other in
      subst (λ z. AreAlike lo hi z behind) (same_Some one after e) (subst (λ z. AreAlike lo hi one z) (same_Some two behind f) (cellwise_alike lo hi _ (all_cellwise l n m bases set (write_to bases set access v)) row other a))

  by_access : (access : Access) (v : Value I) (after behind : List (Cell I)) → store_access l n m bases (reached_of l n bases row (only_base b)) access v row ≡ Some after → store_access l n m bases (reached_of l n bases other (only_base b)) access v other ≡ Some behind → AreAlike lo hi after behind
  unfolding store_access
  by_access access v after behind e f =
      let set : Bases = reached_of l n bases other (only_base b) in
      let g : store_access l n m bases set access v row ≡ Some after = subst (λ z. store_access l n m bases z access v row ≡ Some after) (reached_same l n bases b info at declared row other) e in
      by_can (can_store n m bases set access v) set access v after behind g f

  by_window : (class : Class) (signed : Bool) (v : Value I) (w : Option Window) (after behind : List (Cell I)) → store_within l n m bases (only_base b) class signed v row w ≡ Some after → store_within l n m bases (only_base b) class signed v other w ≡ Some behind → AreAlike lo hi after behind
  by_window class signed v None after behind e f = absurd (cc)
  by_window class signed v (Some w) after behind e f = by_access (record { class = class; signed = signed; window = w }) v after behind e f

  pub store_alike : (p : Pointers I) → p.bases ≡ only_base b → (class : Class) (signed : Bool) (v : Value I) (after behind : List (Cell I)) → store l n m bases p class signed v row ≡ Some after → store l n m bases p class signed v other ≡ Some behind → AreAlike lo hi after behind
  unfolding store
  store_alike p is class signed v after behind e f =
      by_window class signed v (window_of n p (class_bytes m class)) after behind
      (subst (λ z. store_within l n m bases z class signed v row (window_of n p (class_bytes m class)) ≡ Some after) is e)
      (subst (λ z. store_within l n m bases z class signed v other (window_of n p (class_bytes m class)) ≡ Some behind) is f)
