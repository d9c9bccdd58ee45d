-- Bases of the shapes of well-formed programs are regular.
use Rattle.std.specs.Prelude.{◌≡◌, ℕ, ◌+◌, ◌-◌, ◌*◌, ◌^◌, ◌≤◌, ◌<◌, ◌==◌, Bool, true, false, cond, not, ◌&&◌, nat_lt, nat_le, Option, Some, None, is_some, List, [], ◌∷◌, refl}
use Rattle.std.specs.List.{list_all}
use Rattle.std.proofs.Common.{arith, sym, subst, ap, ◌∙◌}
use Rattle.std.proofs.lemmas.Bool.{and_parts, and_from, leb-true, leb-false, ltb-true, eqb-true, eq-eqb, le-leb, lt-ltb, not-true}
use Rattle.c_layout.specs.declared.data_model.Model.{Model}
use Rattle.c_layout.specs.declared.leaf_lists.Leaf.{Leaf}
use Rattle.c_layout.specs.declared.shapes.BaseInfo.{BaseInfo}
use Rattle.c_layout.specs.declared.shapes.ZeroPart.{ZeroPart}
use Rattle.cfg.specs.BaseShapes.{is_extent, ends_by, leaf_end, array_end, has_extents, is_stride, is_behind, is_beside, is_apart, follows, first_of, are_apart, nowhere, are_leaves, size_or_none, part_size, are_parts, goes_on, lie_over, are_whole, is_heap, is_single, is_heap_base, is_declared_base, is_shaped}
use Rattle.c_layout.specs.Models.{is_model}
use Rattle.cfg.specs.ModelKinds as flow
use Rattle.store_cells.specs.ScalarTypes.{class_bytes}
use Rattle.store_monotone.specs.Operations.PlainShapes.{are_single, end_of, are_behind, is_plain}
use Rattle.store_monotone.specs.Operations.Placements.{IsRegular}
use Rattle.store_monotone.proofs.operations.Loads.{some_bytes}
use Rattle.store_monotone.proofs.operations.Regular.{regular}
use Rattle.store_monotone.proofs.operations.PlainShapes.{plain_room, parts_apart}
use Rattle.store_monotone.proofs.shapes.LeafBytes.{same_bytes, few_bytes}
use Rattle.store_monotone.proofs.shapes.FoldedLeaves.{bytes_apart}

-- ---- leaves that stand once follow each other

once_stride : (size stride count : ℕ) → count ≡ 1 → cond (count == 1) (stride == size) (nat_le size stride) ≡ true → stride ≡ size
once_stride size stride count e h = eqb-true stride size (subst (λ c. cond c (stride == size) (nat_le size stride) ≡ true) (eq-eqb count 1 e) h)

-- a leaf that stands once is behind those before it
once_behind : (m : Model) (room : ℕ) (first : Leaf) (taken : ℕ) (leaf : Leaf) → array_end first ≡ taken → first.offset + first.stride ≤ taken → is_apart m room first taken leaf ≡ true → taken ≤ leaf.offset
once_behind m room first taken leaf e t h = by_behind (is_behind first leaf) refl h
  where
    by_behind : (c : Bool) → is_behind first leaf ≡ c → cond c (nat_lt 0 leaf.count && nat_le (array_end leaf) room) (is_beside m first taken leaf) ≡ true → taken ≤ leaf.offset
    by_behind true f k = let g = leb-true (array_end first) leaf.offset f in omega arith
    by_behind false f k =
        let p = and_parts ((leaf.stride == first.stride) && (leaf.count == first.count)) (nat_le taken leaf.offset && nat_le (leaf_end m leaf) (first.offset + first.stride)) k in
        leb-true taken leaf.offset (and_parts (nat_le taken leaf.offset) (nat_le (leaf_end m leaf) (first.offset + first.stride)) p.1).0

single_from : (m : Model) → is_model m ≡ true → (room : ℕ) (first : Leaf) (taken : ℕ) (leaves : List Leaf) → array_end first ≡ taken → first.offset + first.stride ≤ taken → are_apart m room first taken leaves ≡ true → list_all is_single leaves ≡ true → are_single m taken leaves ≡ true
single_from m model room first taken [] e t h k = refl
single_from m model room first taken (leaf ∷ leaves) e t h k =
    let a = and_parts (follows m room first taken leaf) (are_apart m room (first_of first leaf) (leaf_end m leaf) leaves) h in
    let c = and_parts (has_extents leaf && is_stride m leaf) (is_apart m room first taken leaf) a.0 in
    let d = and_parts (has_extents leaf) (is_stride m leaf) c.0 in
    let s = and_parts (is_single leaf) (list_all is_single leaves) k in
    let one : leaf.count ≡ 1 = eqb-true leaf.count 1 s.0 in
    let same = same_bytes m model leaf.class in
    let own : leaf.stride ≡ flow.class_bytes m leaf.class = once_stride (flow.class_bytes m leaf.class) leaf.stride leaf.count one d.1 in
    let stride : leaf.stride ≡ class_bytes m leaf.class = own ∙ same in
    let some = some_bytes m leaf.class in
    let few = few_bytes m leaf.class in
    let behind = once_behind m room first taken leaf e t c.1 in
    let end : leaf.offset + leaf.stride ≡ leaf_end m leaf = omega arith in
    let times : leaf.stride * leaf.count ≡ leaf.stride = ap (λ z. leaf.stride * z) one ∙ (omega arith) in
    let first_is : first_of first leaf ≡ leaf = is_first m room first taken leaf e t (omega arith) c.1 in
    and_from _ _ s.0 (and_from _ _ (eq-eqb leaf.stride (class_bytes m leaf.class) stride) (and_from _ _ (le-leb taken leaf.offset behind) (and_from _ _ (lt-ltb 0 leaf.stride (omega arith)) (and_from _ _ (le-leb leaf.stride 8 (omega arith))
    (subst (λ z. are_single m z leaves ≡ true) (sym end) (single_from m model room leaf (leaf_end m leaf) leaves (omega arith) (omega arith) (subst (λ g. are_apart m room g (leaf_end m leaf) leaves ≡ true) first_is a.1) s.1))))))
  where
    is_first : (m : Model) (room : ℕ) (first : Leaf) (taken : ℕ) (leaf : Leaf) → array_end first ≡ taken → first.offset + first.stride ≤ taken → 0 < flow.class_bytes m leaf.class → is_apart m room first taken leaf ≡ true → first_of first leaf ≡ leaf
    is_first m room first taken leaf e t some h = by_behind (is_behind first leaf) refl h
      where
        by_behind : (c : Bool) → is_behind first leaf ≡ c → cond c (nat_lt 0 leaf.count && nat_le (array_end leaf) room) (is_beside m first taken leaf) ≡ true → cond c leaf first ≡ leaf
        by_behind true f k = refl
        by_behind false f k =
            let p = and_parts ((leaf.stride == first.stride) && (leaf.count == first.count)) (nat_le taken leaf.offset && nat_le (leaf_end m leaf) (first.offset + first.stride)) k in
            let q = and_parts (nat_le taken leaf.offset) (nat_le (leaf_end m leaf) (first.offset + first.stride)) p.1 in
            let u = leb-true taken leaf.offset q.0 in
            let v = leb-true (leaf_end m leaf) (first.offset + first.stride) q.1 in
            absurd (omega arith)

whole_behind : (ps : List ZeroPart) → are_whole ps ≡ true → are_behind 0 ps ≡ true
whole_behind [] h = absurd (cc)
whole_behind (p ∷ []) h = and_from _ _ (le-leb 0 p.offset (omega arith)) refl
whole_behind (p ∷ (q ∷ ps)) h = absurd (cc)

heap_plain : (m : Model) → is_model m ≡ true → (base : BaseInfo) → is_heap_base m base ≡ true → is_plain m base ≡ true
heap_plain m model base h =
    let a = and_parts (base.shape.heap && (base.size == 0)) (are_leaves m (2 ^ 30) base.shape.cells && (list_all is_single base.shape.cells && are_whole base.shape.zeros)) h in
    let c = and_parts (are_leaves m (2 ^ 30) base.shape.cells) (list_all is_single base.shape.cells && are_whole base.shape.zeros) a.1 in
    let d = and_parts (list_all is_single base.shape.cells) (are_whole base.shape.zeros) c.1 in
    and_from _ _ (single_from m model (2 ^ 30) nowhere 0 base.shape.cells (omega arith) (omega arith) c.0 d.0) (whole_behind base.shape.zeros d.1)

-- ---- parts of objects have sizes

abbrev AreCounted : List Leaf → Type 0
AreCounted [] = Unit {0}
AreCounted (l ∷ ls) = (0 < l.count) × AreCounted ls

one_counted : (m : Model) (room : ℕ) (first : Leaf) (taken : ℕ) (leaf : Leaf) → (0 < array_end first → 0 < first.count) → is_apart m room first taken leaf ≡ true → (0 < leaf.count) × (0 < array_end (first_of first leaf) → 0 < (first_of first leaf).count)
one_counted m room first taken leaf n h = by_behind (is_behind first leaf) refl h
  where
    by_behind : (c : Bool) → is_behind first leaf ≡ c → cond c (nat_lt 0 leaf.count && nat_le (array_end leaf) room) (is_beside m first taken leaf) ≡ true → (0 < leaf.count) × (0 < array_end (cond c leaf first) → 0 < (cond c leaf first).count)
    by_behind true f k = let p = ltb-true 0 leaf.count (and_parts (nat_lt 0 leaf.count) (nat_le (array_end leaf) room) k).0 in (p, λ q. p)
    by_behind false f k =
        let p = and_parts ((leaf.stride == first.stride) && (leaf.count == first.count)) (nat_le taken leaf.offset && nat_le (leaf_end m leaf) (first.offset + first.stride)) k in
        let q = eqb-true leaf.count first.count (and_parts (leaf.stride == first.stride) (leaf.count == first.count) p.0).1 in
        let u = leb-false (array_end first) leaf.offset f in
        let v = n (omega arith) in
        (omega arith, λ w. v)

all_counted : (m : Model) (room : ℕ) (first : Leaf) (taken : ℕ) (leaves : List Leaf) → (0 < array_end first → 0 < first.count) → are_apart m room first taken leaves ≡ true → AreCounted leaves
all_counted m room first taken [] n h = tt
all_counted m room first taken (leaf ∷ leaves) n h =
    let a = and_parts (follows m room first taken leaf) (are_apart m room (first_of first leaf) (leaf_end m leaf) leaves) h in
    let c = and_parts (has_extents leaf && is_stride m leaf) (is_apart m room first taken leaf) a.0 in
    let d = one_counted m room first taken leaf n c.1 in
    (d.0, all_counted m room (first_of first leaf) (leaf_end m leaf) leaves d.1 a.1)

abbrev AreSized : List ZeroPart → Type 0
AreSized [] = Unit {0}
AreSized (p ∷ ps) = (is_some p.size ≡ true) × AreSized ps

one_sized : (p : ZeroPart) (done : ℕ) (leaf : Leaf) → 0 < leaf.count → goes_on p done leaf ≡ true → is_some p.size ≡ true
one_sized p done leaf n h =
    let a = and_parts (ends_by p.offset done leaf.offset && ((leaf.offset - p.offset == done) && ends_by done leaf.count (part_size p))) _ h in
    let c = and_parts (ends_by p.offset done leaf.offset) ((leaf.offset - p.offset == done) && ends_by done leaf.count (part_size p)) a.0 in
    let d = and_parts (leaf.offset - p.offset == done) (ends_by done leaf.count (part_size p)) c.1 in
    by_size p.size d.1
  where
    by_size : (size : Option ℕ) → ends_by done leaf.count (size_or_none size) ≡ true → is_some size ≡ true
    by_size (Some size) e = refl
    by_size None e = let f = and_parts (nat_le done 0) (nat_le leaf.count (0 - done)) e in let g = leb-true leaf.count (0 - done) f.1 in absurd (omega arith)

all_sized : (done : ℕ) (ls : List Leaf) (ps : List ZeroPart) → AreCounted ls → lie_over done ls ps ≡ true → AreSized ps
all_sized done ls [] n h = tt
all_sized done [] (p ∷ ps) n h = absurd (cc)
all_sized done (l ∷ ls) (p ∷ ps) n h = by_before (nat_lt l.offset p.offset) h (λ e. all_sized done ls (p ∷ ps) n.1 e) (λ e. all_sized 0 ls ps n.1 e) (λ e. all_sized (done + l.count) ls (p ∷ ps) n.1 e)
  where
    by_end : goes_on p done l ≡ true → (c : Bool) → cond c (lie_over 0 ls ps) (lie_over (done + l.count) ls (p ∷ ps)) ≡ true → (lie_over 0 ls ps ≡ true → AreSized ps) → (lie_over (done + l.count) ls (p ∷ ps) ≡ true → AreSized (p ∷ ps)) → AreSized (p ∷ ps)
    by_end g true e next more = (one_sized p done l n.0 g, next e)
    by_end g false e next more = more e

    by_before : (c : Bool) → cond c (lie_over done ls (p ∷ ps)) (goes_on p done l && cond (done + l.count == part_size p) (lie_over 0 ls ps) (lie_over (done + l.count) ls (p ∷ ps))) ≡ true
        → (lie_over done ls (p ∷ ps) ≡ true → AreSized (p ∷ ps)) → (lie_over 0 ls ps ≡ true → AreSized ps) → (lie_over (done + l.count) ls (p ∷ ps) ≡ true → AreSized (p ∷ ps)) → AreSized (p ∷ ps)
    by_before true e skip next more = skip e
    by_before false e skip next more = let a = and_parts (goes_on p done l) _ e in by_end a.0 (done + l.count == part_size p) a.1 next more

sized_behind : (room from : ℕ) (ps : List ZeroPart) → AreSized ps → are_parts room from ps ≡ true → are_behind from ps ≡ true
sized_behind room from [] n h = refl
sized_behind room from (p ∷ ps) n h =
    let a = and_parts (nat_le from p.offset && ends_by p.offset (part_size p) room) (are_parts room (p.offset + part_size p) ps) h in
    let c = and_parts (nat_le from p.offset) (ends_by p.offset (part_size p) room) a.0 in
    and_from _ _ c.0 (subst (λ z. are_behind z ps ≡ true) (ends p.size n.0) (sized_behind room (p.offset + part_size p) ps n.1 a.1))
  where
    ends : (size : Option ℕ) → is_some size ≡ true → p.offset + size_or_none size ≡ end_of p size
    ends None e = absurd (cc)
    ends (Some size) e = refl

-- ---- bases

pub shaped_regular : (m : Model) → is_model m ≡ true → (base : BaseInfo) → is_shaped m base ≡ true → IsRegular m base
shaped_regular m model base h = by_kind (is_heap base.kind) h
  where
    by_kind : (c : Bool) → cond c (is_heap_base m base) (is_declared_base m base) ≡ true → IsRegular m base
    by_kind true e = regular m base (plain_room m base (heap_plain m model base e))
    by_kind false e =
        let a = and_parts (not base.shape.heap && is_extent base.size) (are_leaves m base.size base.shape.cells && (are_parts base.size 0 base.shape.zeros && lie_over 0 base.shape.cells base.shape.zeros)) e in
        let c = and_parts (not base.shape.heap) (is_extent base.size) a.0 in
        let d = and_parts (are_leaves m base.size base.shape.cells) (are_parts base.size 0 base.shape.zeros && lie_over 0 base.shape.cells base.shape.zeros) a.1 in
        let g = and_parts (are_parts base.size 0 base.shape.zeros) (lie_over 0 base.shape.cells base.shape.zeros) d.1 in
        let no_heap : base.shape.heap ≡ false = not-true base.shape.heap c.0 in
        let counted = all_counted m base.size nowhere 0 base.shape.cells (λ q. absurd (omega arith)) d.0 in
        regular m base (record {
          bytes = bytes_apart m model base.size base.shape.cells d.0;
          offsets = λ heap. absurd (cc);
          parts = parts_apart 0 base.shape.zeros (sized_behind base.size 0 base.shape.zeros (all_sized 0 base.shape.cells base.shape.zeros counted g.1) g.0);
        })
