-- The sites of allocations of a well-formed program match.
use Rattle.std.specs.Prelude.{◌≡◌, ℕ, zero, suc, ◌+◌, ◌-◌, ◌^◌, ◌≤◌, ◌<◌, ◌==◌, Bool, true, false, cond, not, ◌&&◌, ◌||◌, min, Option, Some, None, List, [], ◌∷◌, length, slice_get, refl}
use Rattle.std.specs.List.{list_all}
use Rattle.std.proofs.Common.{arith, sym, subst, ap, ◌∙◌}
use Rattle.std.proofs.lemmas.Bool.{and_parts}
use Rattle.cc_base.specs.declared.limit_table.Limits.{Limits}
use Rattle.c_layout.specs.Models.{is_model}
use Rattle.c_layout.specs.declared.data_model.Model.{Model}
use Rattle.c_layout.specs.declared.leaf_lists.Leaf.{Leaf}
use Rattle.c_layout.specs.declared.shapes.BaseInfo.{BaseInfo}
use Rattle.c_layout.specs.declared.shapes.BaseKind.{BaseKind}
use Rattle.c_layout.specs.declared.shapes.BaseKind.TheVariants.{Static, Automatic, Literal, Newest, Older}
use Rattle.c_layout.specs.declared.shapes.ZeroPart.{ZeroPart}
use Rattle.cfg.specs.BaseShapes.{same_leaf, same_leaves, same_truth, is_newest_kind, is_older_kind, has_older, is_paired, are_sites, are_shaped, is_shaped, is_heap, is_heap_base, is_declared_base, are_leaves, is_single, are_whole}
use Rattle.cfg.specs.WellFormed.{kind_at, is_newest, is_older, is_well_formed}
use Rattle.cfg.specs.declared.programs.Flow.{Flow}
use Rattle.pointer_domain.specs.BaseSets.{no_base, bases_with, bases_has}
use Rattle.pointer_domain.specs.BaseFacts.{within_has, with_has_same}
use Rattle.store_cells.specs.RowPositions.{value_count}
use Rattle.transfer_library.specs.Effects.{older_of}
use Rattle.transfer_system.specs.BoundedRows.OwnRows.{program_bases}
use Rattle.transfer_monotone.specs.Library.Sites.{HasSites}
use Rattle.system_monotone.proofs.systems.WellFormed.{well_made, all_at, one_below}

-- the kind of a base that is there
kind_there : (bases : List BaseInfo) (i : ℕ) (info : BaseInfo) → slice_get bases i ≡ Some info → kind_at bases i ≡ Some info.kind
kind_there [] i info e = absurd (cc)
kind_there (x ∷ bases) zero info e = ap (λ (b : BaseInfo). Some b.kind) (same x info e)
  where
    same : (x k : BaseInfo) → Some x ≡ Some k → x ≡ k
    same x k e = cc
kind_there (x ∷ bases) (suc i) info e = kind_there bases i info e

is_there : (bases : List BaseInfo) (i : ℕ) (k : BaseKind) → kind_at bases i ≡ Some k → i < length bases
is_there [] i k e = absurd (cc)
is_there (x ∷ bases) zero k e = omega arith
is_there (x ∷ bases) (suc i) k e = let r = is_there bases i k e in omega arith

newest_is : (k : Option BaseKind) → is_newest k ≡ true → k ≡ Some Newest
newest_is None h = absurd (cc)
newest_is (Some Static) h = absurd (cc)
newest_is (Some Automatic) h = absurd (cc)
newest_is (Some Literal) h = absurd (cc)
newest_is (Some Newest) h = refl
newest_is (Some Older) h = absurd (cc)

older_is : (k : Option BaseKind) → is_older k ≡ true → k ≡ Some Older
older_is None h = absurd (cc)
older_is (Some Static) h = absurd (cc)
older_is (Some Automatic) h = absurd (cc)
older_is (Some Literal) h = absurd (cc)
older_is (Some Newest) h = absurd (cc)
older_is (Some Older) h = refl

same_kind : (k : BaseKind) (a : BaseKind) → Some a ≡ Some k → a ≡ k
same_kind k a e = cc

-- leaves that are the same are as many
as_many : (xs ys : List Leaf) → same_leaves xs ys ≡ true → length xs ≡ length ys
as_many [] [] h = refl
as_many [] (y ∷ ys) h = absurd (cc)
as_many (x ∷ xs) [] h = absurd (cc)
as_many (x ∷ xs) (y ∷ ys) h = let r = as_many xs ys (and_parts (same_leaf x y) (same_leaves xs ys) h).1 in omega arith

-- a newest base has the leaves of the base behind it
paired : (newest : Bool) (bases : List BaseInfo) → are_sites newest bases ≡ true → (i : ℕ) (new old : BaseInfo) → slice_get bases i ≡ Some new → slice_get bases (i + 1) ≡ Some old → new.kind ≡ Newest → same_leaves new.shape.cells old.shape.cells ≡ true
paired newest [] h i new old e d k = absurd (cc)
paired newest (x ∷ []) h zero new old e d k = absurd (let z : slice_get (x ∷ []) 1 ≡ Some old = d in cc)
paired newest (x ∷ (y ∷ bases)) h zero new old e d k =
    let a = and_parts (is_paired newest x (y ∷ bases)) (are_sites (is_newest_kind x.kind) (y ∷ bases)) h in
    let c = and_parts (same_truth (is_older_kind x.kind) newest) (not (is_newest_kind x.kind) || has_older x (y ∷ bases)) a.0 in
    let x_is : x ≡ new = one x new e in
    let y_is : y ≡ old = one y old d in
    let kind : x.kind ≡ Newest = ap (λ (b : BaseInfo). b.kind) x_is ∙ k in
    let f : (not (is_newest_kind Newest) || has_older x (y ∷ bases)) ≡ true = subst (λ z. (not (is_newest_kind z) || has_older x (y ∷ bases)) ≡ true) kind c.1 in
    let g = and_parts (is_older_kind y.kind) (same_leaves x.shape.cells y.shape.cells) f in
    subst (λ (z : BaseInfo). same_leaves z.shape.cells old.shape.cells ≡ true) x_is (subst (λ (z : BaseInfo). same_leaves x.shape.cells z.shape.cells ≡ true) y_is g.1)
  where
    one : (x k : BaseInfo) → Some x ≡ Some k → x ≡ k
    one x k e = cc
paired newest (x ∷ bases) h (suc i) new old e d k =
    let next : suc i + 1 ≡ suc (i + 1) = omega arith in
    paired (is_newest_kind x.kind) bases (and_parts (is_paired newest x bases) (are_sites (is_newest_kind x.kind) bases) h).1 i new old e (subst (λ z. slice_get (x ∷ bases) z ≡ Some old) next d) k

heap_parts : (m : Model) (base : BaseInfo) → is_heap base.kind ≡ true → is_shaped m base ≡ true → (base.shape.heap ≡ true) × (length base.shape.zeros ≡ 1)
heap_parts m base k h =
    let e : is_heap_base m base ≡ true = subst (λ c. cond c (is_heap_base m base) (is_declared_base m base) ≡ true) k h in
    let a = and_parts (base.shape.heap && (base.size == 0)) (are_leaves m (2 ^ 30) base.shape.cells && (list_all is_single base.shape.cells && are_whole base.shape.zeros)) e in
    let c = and_parts base.shape.heap (base.size == 0) a.0 in
    let d = and_parts (are_leaves m (2 ^ 30) base.shape.cells) (list_all is_single base.shape.cells && are_whole base.shape.zeros) a.1 in
    (c.0, one_part base.shape.zeros (and_parts (list_all is_single base.shape.cells) (are_whole base.shape.zeros) d.1).1)
  where
    one_part : (ps : List ZeroPart) → are_whole ps ≡ true → length ps ≡ 1
    one_part [] h = absurd (cc)
    one_part (p ∷ []) h = refl
    one_part (p ∷ (q ∷ ps)) h = absurd (cc)

has_program : (count number : ℕ) → number < count → count ≤ 1016 → bases_has (program_bases count) number ≡ true
has_program count number h k = within_has (bases_with no_base number) (program_bases count) number (one_below number (min count 1016) (omega arith)) (with_has_same no_base number)

pub all_sites : (limits : Limits) (flow : Flow) → is_well_formed limits flow ≡ true → length flow.bases.items ≤ 1016 → HasSites (program_bases (length flow.bases.items)) flow
all_sites limits flow h few newest site =
    let w = well_made limits flow h in
    let a = and_parts (is_model flow.model) _ w.laid in
    let b = and_parts (are_shaped flow.model flow.bases.items) _ a.1 in
    let c = and_parts (list_all (is_shaped flow.model) flow.bases.items) (are_sites false flow.bases.items) b.0 in
    let s = and_parts (is_newest (kind_at flow.bases.items newest)) (is_older (kind_at flow.bases.items (newest + 1))) site in
    let first = newest_is (kind_at flow.bases.items newest) s.0 in
    let second = older_is (kind_at flow.bases.items (newest + 1)) s.1 in
    let below = is_there flow.bases.items (newest + 1) Older second in
    let number : older_of newest ≡ newest + 1 = omega arith in
    record {
      older = subst (λ z. bases_has (program_bases (length flow.bases.items)) z ≡ true) (sym number) (has_program (length flow.bases.items) (newest + 1) below few);
      shapes = λ new old e d.
          let f : slice_get flow.bases.items (newest + 1) ≡ Some old = subst (λ z. slice_get flow.bases.items z ≡ Some old) number d in
          let new_kind : new.kind ≡ Newest = same_kind Newest new.kind (sym (kind_there flow.bases.items newest new e) ∙ first) in
          let old_kind : old.kind ≡ Older = same_kind Older old.kind (sym (kind_there flow.bases.items (newest + 1) old f) ∙ second) in
          let p = heap_parts flow.model new (subst (λ z. is_heap z ≡ true) (sym new_kind) refl) (all_at (is_shaped flow.model) flow.bases.items c.0 newest new e) in
          let q = heap_parts flow.model old (subst (λ z. is_heap z ≡ true) (sym old_kind) refl) (all_at (is_shaped flow.model) flow.bases.items c.0 (newest + 1) old f) in
          let many = as_many new.shape.cells old.shape.cells (paired false flow.bases.items c.1 newest new old e f new_kind) in
          let new_count : value_count new ≡ min (length new.shape.cells + 6) (2 ^ 64 - 1) = ap (λ b. min (length new.shape.cells + cond b 6 0) (2 ^ 64 - 1)) p.0 in
          let old_count : value_count old ≡ min (length old.shape.cells + 6) (2 ^ 64 - 1) = ap (λ b. min (length old.shape.cells + cond b 6 0) (2 ^ 64 - 1)) q.0 in
          let z0 = p.1 in let z1 = q.1 in
          record { new_heap = p.0; old_heap = q.0; values = omega arith; zeros = omega arith };
    }
