-- In the bases of well-formed programs larger spans reach more.
use Rattle.std.specs.Prelude.{◌≡◌, ℕ, ◌+◌, ◌-◌, ◌*◌, ◌^◌, ◌==◌, Bool, true, false, cond, not, ◌&&◌, List, [], ◌∷◌}
use Rattle.std.specs.List.{list_all}
use Rattle.std.proofs.Common.{arith, ap, subst}
use Rattle.std.proofs.lemmas.Bool.{and_parts, not-true}
use Rattle.c_layout.specs.declared.data_model.Model.{Model}
use Rattle.c_layout.specs.declared.leaf_lists.Leaf.{Leaf}
use Rattle.c_layout.specs.declared.shapes.BaseInfo.{BaseInfo}
use Rattle.c_layout.specs.Models.{is_model}
use Rattle.cfg.specs.BaseShapes.{is_extent, nowhere, are_leaves, are_parts, lie_over, are_whole, is_heap, is_single, is_heap_base, is_declared_base, is_shaped}
use Rattle.store_monotone.specs.Operations.Placements.{EachFrom, IsRegular}
use Rattle.store_monotone.proofs.shapes.ShapedBases.{shaped_regular}
use Rattle.store_struct_leaves.specs.declared.copy_places.Span.{Span}
use Rattle.store_struct_leaves.specs.CopyPlaces.{any_below, span_joined, span_window}
use Rattle.store_struct_leaves.specs.LeafCopies.{window_padded, any_padded, span_meets_padding}
use Rattle.store_monotone.specs.Structs.LargerSpans.{SpanWithin, IsMetToo, ReachesMore}
use Rattle.store_monotone.proofs.structs.Places.{any_more, any_found, any_at}
use Rattle.store_monotone.proofs.structs.JoinedSpans.{SpanBelow, same, one, IsSpan, less_times, below_of, small_span, large_span, joined_span, joined_below}
use Rattle.store_monotone.proofs.structs.MetLeaves.{IsShort, met_too}
use Rattle.store_monotone.proofs.structs.ShortLeaves.{all_short, all_ones}
use Rattle.store_monotone.proofs.structs.Strays.{stray_more}

met_each : (m : Model) (s u : Span) → SpanWithin s u → (at : ℕ) (leaves : List Leaf) → EachFrom (λ leaf at. IsShort leaf) at leaves → EachFrom (λ leaf at. IsMetToo m s u leaf) at leaves
met_each m s u i at [] h = tt
met_each m s u i at (leaf ∷ leaves) h = (met_too m leaf h.0 s u i, met_each m s u i (at + 1) leaves h.1)

-- ---- offsets of no leaf

padded_below : (m : Model) (base : BaseInfo) → IsRegular m base → (s u : Span) → IsSpan s → IsSpan u → SpanBelow s u → any_padded m base s ≡ true → any_padded m base u ≡ true
unfolding any_padded
padded_below m base q s u h k (same a b d c) e = any_more (window_padded m base s) (window_padded m base u) u.count
    (λ n l. let t : n * s.stride ≡ n * u.stride = ap (λ z. n * z) d in
    q.padding (span_window s n) (span_window u n) (record { lo = omega arith; some = (let x = h.some in omega arith); hi = omega arith; near = omega arith }))
    (subst (λ z. any_below (window_padded m base s) z ≡ true) c e)
padded_below m base q s u h k (one c a b) e =
    let r = any_found (window_padded m base s) s.count e in
    let l = r.below in
    let t = less_times r.number (s.count - 1) s.stride (omega arith) in
    let x : 0 * u.stride ≡ 0 = omega arith in
    let some = h.some in let near = h.near in let far = k.near in
    any_at (window_padded m base u) 0 u.count (omega arith)
    (q.padding (span_window s r.number) (span_window u 0) (record { lo = omega arith; some = omega arith; hi = omega arith; near = omega arith }) r.holds)

padding_more : (m : Model) (base : BaseInfo) → IsRegular m base → (s u : Span) → SpanWithin s u → span_meets_padding m base s ≡ true → span_meets_padding m base u ≡ true
unfolding span_meets_padding
padding_more m base q s u i e =
    let h = small_span s u i in
    let k = large_span s u i in
    padded_below m base q (span_joined s) (span_joined u) (joined_span s h) (joined_span u k) (joined_below s u h k (below_of s u i)) e

-- ---- bases

pub shaped_reaches : (m : Model) → is_model m ≡ true → (base : BaseInfo) → is_shaped m base ≡ true → ReachesMore m base
shaped_reaches m model base h = by_kind (is_heap base.kind) h
  where
    by_kind : (c : Bool) → cond c (is_heap_base m base) (is_declared_base m base) ≡ true → ReachesMore m base
    by_kind true e =
        let a = and_parts (base.shape.heap && (base.size == 0)) (are_leaves m (2 ^ 30) base.shape.cells && (list_all is_single base.shape.cells && are_whole base.shape.zeros)) e in
        let c = and_parts (are_leaves m (2 ^ 30) base.shape.cells) (list_all is_single base.shape.cells && are_whole base.shape.zeros) a.1 in
        let d = and_parts (list_all is_single base.shape.cells) (are_whole base.shape.zeros) c.1 in
        record {
          leaves = λ s u i. met_each m s u i 0 base.shape.cells (all_short m model (2 ^ 30) nowhere 0 0 base.shape.cells (λ q. absurd (omega arith)) c.0);
          stray = λ class s u i heap. stray_more class 0 base.shape.cells (all_ones m model (2 ^ 30) nowhere 0 base.shape.cells (omega arith) (omega arith) c.0 d.0) s u i;
          padding = λ s u i. padding_more m base (shaped_regular m model base h) s u i;
        }
    by_kind false e =
        let a = and_parts (not base.shape.heap && is_extent base.size) (are_leaves m base.size base.shape.cells && (are_parts base.size 0 base.shape.zeros && lie_over 0 base.shape.cells base.shape.zeros)) e in
        let c = and_parts (not base.shape.heap) (is_extent base.size) a.0 in
        let d = and_parts (are_leaves m base.size base.shape.cells) (are_parts base.size 0 base.shape.zeros && lie_over 0 base.shape.cells base.shape.zeros) a.1 in
        let no_heap : base.shape.heap ≡ false = not-true base.shape.heap c.0 in
        record {
          leaves = λ s u i. met_each m s u i 0 base.shape.cells (all_short m model base.size nowhere 0 0 base.shape.cells (λ q. absurd (omega arith)) d.0);
          stray = λ class s u i heap. absurd (cc);
          padding = λ s u i. padding_more m base (shaped_regular m model base h) s u i;
        }
