-- Bases whose leaves are single, one behind the other, and whose parts are so too, are regular.
use Rattle.std.specs.Prelude.{◌≡◌, ℕ, zero, suc, ◌+◌, ◌-◌, ◌*◌, ◌/◌, ◌%◌, ◌≤◌, ◌<◌, ◌==◌, min, Bool, true, false, cond, ◌&&◌, ◌||◌, nat_lt, nat_le, Option, Some, None, List, [], ◌∷◌, refl}
use Rattle.std.proofs.Common.{arith, ap, ◌∙◌, inl, inr}
use Rattle.std.proofs.lemmas.Bool.{cases_Bool, and_parts, leb-true, ltb-true, eqb-true, cases_lt, or_left, false_from_ne_true, cond-false, cond-true, or_from, ne_eqb, le-leb, lt-leb, lt-ltb, le-ltb}
use Rattle.std.proofs.lemmas.Nat.{div-add-mod', div_below, le-div}
use Rattle.std.proofs.lemmas.List.Sums.{sum_by-cons}
use Rattle.c_layout.specs.declared.data_model.Model.{Model}
use Rattle.c_layout.specs.declared.leaf_lists.Class.{Class}
use Rattle.c_layout.specs.declared.leaf_lists.Leaf.{Leaf}
use Rattle.c_layout.specs.declared.shapes.BaseInfo.{BaseInfo}
use Rattle.c_layout.specs.declared.shapes.ZeroPart.{ZeroPart}
use Rattle.store_cells.specs.declared.access_windows.Window.{Window}
use Rattle.store_cells.specs.Walks.{walk}
use Rattle.store_cells.specs.ScalarTypes.{class_bytes}
use Rattle.store_cells.specs.ClassNumbers.{same_class}
use Rattle.store_cells.specs.AccessWindows.{window_between, window_met}
use Rattle.store_cells.specs.RowPositions.{capped}
use Rattle.store.specs.LeafSelection.{has_place_in, is_selected, selected_count, turn_bytes, bytes_behind, bytes_below, covered_more}
use Rattle.store_cells.specs.FirstZeroWrites.{last_of, has_no_bytes, target_at, zero_target}
use Rattle.store_monotone.proofs.operations.Regular.{IsByByte, NoneMeets, AreApart, HasRoom, whole_in}
use Rattle.store_monotone.proofs.operations.PlacesOfLeaves.{place_of_test}
use Rattle.store_monotone.specs.Operations.PlainShapes.{are_single, end_of, are_behind, is_plain}

pub record IsSingle (m : Model) (from : ℕ) (leaf : Leaf) (leaves : List Leaf) : Type 0 where
  pub count : leaf.count ≡ 1
  pub stride : leaf.stride ≡ class_bytes m leaf.class
  pub behind : from ≤ leaf.offset
  pub some : 0 < leaf.stride
  pub small : leaf.stride ≤ 8
  pub rest : are_single m (leaf.offset + leaf.stride) leaves ≡ true

single_parts : (m : Model) (from : ℕ) (leaf : Leaf) (leaves : List Leaf) → are_single m from (leaf ∷ leaves) ≡ true → IsSingle m from leaf leaves
single_parts m from leaf leaves h =
    let a = and_parts (leaf.count == 1) ((leaf.stride == class_bytes m leaf.class) && (nat_le from leaf.offset && (nat_lt 0 leaf.stride && (nat_le leaf.stride 8 && are_single m (leaf.offset + leaf.stride) leaves)))) h in
    let b = and_parts (leaf.stride == class_bytes m leaf.class) (nat_le from leaf.offset && (nat_lt 0 leaf.stride && (nat_le leaf.stride 8 && are_single m (leaf.offset + leaf.stride) leaves))) a.1 in
    let c = and_parts (nat_le from leaf.offset) (nat_lt 0 leaf.stride && (nat_le leaf.stride 8 && are_single m (leaf.offset + leaf.stride) leaves)) b.1 in
    let d = and_parts (nat_lt 0 leaf.stride) (nat_le leaf.stride 8 && are_single m (leaf.offset + leaf.stride) leaves) c.1 in
    let e = and_parts (nat_le leaf.stride 8) (are_single m (leaf.offset + leaf.stride) leaves) d.1 in
    record { count = eqb-true leaf.count 1 a.0; stride = eqb-true leaf.stride (class_bytes m leaf.class) b.0; behind = leb-true from leaf.offset c.0; some = ltb-true 0 leaf.stride d.0; small = leb-true leaf.stride 8 e.0; rest = e.1 }

-- ---- bytes

apart_bytes : (size stride count x : ℕ) → count ≡ 1 → stride ≡ size → 0 < stride → stride ≤ 8 → cond (nat_lt (x / stride) count) (turn_bytes size (x / stride) (x % stride)) (capped (count * size)) ≡ min x stride
apart_bytes size stride count x e f g h = elim (cases_lt x stride) [
  | inl a ↦ (let d : x / stride ≡ 0 = (let b = div_below x stride 1 g (omega arith) in omega arith) in
      let k = div-add-mod' x stride in
      let z : x / stride * stride ≡ 0 = ap (λ t. t * stride) d ∙ omega arith in
      let y : x / stride * size ≡ 0 = ap (λ t. t * size) d ∙ omega arith in
      cond-true (nat_lt (x / stride) count) (turn_bytes size (x / stride) (x % stride)) (capped (count * size)) (lt-ltb (x / stride) count (omega arith)) ∙ omega arith)
  | inr a ↦ (let d : 1 ≤ x / stride = le-div 1 x stride g (omega arith) in
      let y : count * size ≡ size = ap (λ t. t * size) e ∙ omega arith in
      cond-false (nat_lt (x / stride) count) (turn_bytes size (x / stride) (x % stride)) (capped (count * size)) (le-ltb (x / stride) count (omega arith)) ∙ omega arith)
]

single_bytes : (m : Model) (leaf : Leaf) (from : ℕ) (leaves : List Leaf) → IsSingle m from leaf leaves → (x : ℕ) → bytes_below m leaf x ≡ min (x - leaf.offset) leaf.stride
single_bytes m leaf from leaves h x =
    let s = h.some in
    let z : (leaf.stride == 0) ≡ false = ne_eqb leaf.stride 0 (λ (e : leaf.stride ≡ 0). omega arith) in
    elim (cases_lt leaf.offset x) [
      | inl a ↦ cond-false (nat_le x leaf.offset || leaf.stride == 0) 0 (bytes_behind m leaf (x - leaf.offset)) (or_from (nat_le x leaf.offset) (leaf.stride == 0) (lt-leb x leaf.offset a) z) ∙ apart_bytes (class_bytes m leaf.class) leaf.stride leaf.count (x - leaf.offset) h.count h.stride s h.small
      | inr a ↦ cond-true (nat_le x leaf.offset || leaf.stride == 0) 0 (bytes_behind m leaf (x - leaf.offset)) (or_left (nat_le x leaf.offset) (leaf.stride == 0) (le-leb x leaf.offset a)) ∙ omega arith
    ]

by_byte : (m : Model) (x at from : ℕ) (leaves : List Leaf) → are_single m from leaves ≡ true → (c : ℕ) → c ≤ 1 → (0 < c → x < from) → walk (covered_more m x (x + 1)) at leaves c ≤ 1
by_byte m x at from [] h c k r = k
by_byte m x at from (leaf ∷ leaves) h c k r =
    let p = single_parts m from leaf leaves h in
    let a = single_bytes m leaf from leaves p x in
    let b = single_bytes m leaf from leaves p (x + 1) in
    let f = p.behind in let s = p.some in
    by_byte m x (at + 1) (leaf.offset + leaf.stride) leaves p.rest (covered_more m x (x + 1) leaf at c)
    (elim (cases_lt 0 c) [ inl y ↦ (let z = r y in omega arith) | inr y ↦ omega arith ])
    (λ q. elim (cases_lt 0 c) [ inl y ↦ (let z = r y in omega arith) | inr y ↦ omega arith ])

pub bytes_apart : (m : Model) (leaves : List Leaf) → are_single m 0 leaves ≡ true → IsByByte m leaves
bytes_apart m leaves h x = by_byte m x 0 0 leaves h 0 (omega arith) (λ q. absurd (omega arith))

-- ---- offsets

none_at : (m : Model) (class : Class) (x from : ℕ) (leaves : List Leaf) → are_single m from leaves ≡ true → x < from → selected_count leaves class (window_between x x) ≡ 0
none_at m class x from [] h k = refl
none_at m class x from (leaf ∷ leaves) h k =
    let p = single_parts m from leaf leaves h in
    let f = p.behind in let s = p.some in
    let r = none_at m class x (leaf.offset + leaf.stride) leaves p.rest (omega arith) in
    let a = sum_by-cons (λ j. cond {A = ℕ} (is_selected j class (window_between x x)) 1 0) leaf leaves in
    let z : is_selected leaf class (window_between x x) ≡ false = false_from_ne_true _ (λ (e : is_selected leaf class (window_between x x) ≡ true).
    let q = place_of_test leaf (window_between x x) (and_parts (same_class leaf.class class) (has_place_in leaf (window_between x x)) e).1 in let u = q.to in omega arith) in
    let y : cond {A = ℕ} (is_selected leaf class (window_between x x)) 1 0 ≡ 0 = ap (λ b. cond b 1 0) z in
    omega arith

one_at : (m : Model) (class : Class) (x from : ℕ) (leaves : List Leaf) → are_single m from leaves ≡ true → selected_count leaves class (window_between x x) ≤ 1
one_at m class x from [] h = omega arith
one_at m class x from (leaf ∷ leaves) h =
    let p = single_parts m from leaf leaves h in
    let a = sum_by-cons (λ j. cond {A = ℕ} (is_selected j class (window_between x x)) 1 0) leaf leaves in
    let r = one_at m class x (leaf.offset + leaf.stride) leaves p.rest in
    elim (cases_Bool (is_selected leaf class (window_between x x))) [
      | inr e ↦ (let y : cond {A = ℕ} (is_selected leaf class (window_between x x)) 1 0 ≡ 0 = ap (λ b. cond b 1 0) e in omega arith)
      | inl e ↦ (let q = place_of_test leaf (window_between x x) (and_parts (same_class leaf.class class) (has_place_in leaf (window_between x x)) e).1 in
          let z : q.turn ≡ 0 = (let c = p.count in let d = q.below in omega arith) in
          let u : q.turn * leaf.stride ≡ 0 = ap (λ t. t * leaf.stride) z ∙ omega arith in
          let s = p.some in let v = q.from in
          let w = none_at m class x (leaf.offset + leaf.stride) leaves p.rest (omega arith) in
          let y : cond {A = ℕ} (is_selected leaf class (window_between x x)) 1 0 ≡ 1 = ap (λ b. cond b 1 0) e in omega arith)
    ]

-- ---- parts

pub record IsWhole (part : ZeroPart) (w : Window) : Type 0 where
  pub lo : part.offset ≤ w.lo
  pub hi : w.hi ≤ last_of part.offset part.size
  pub bytes : has_no_bytes part.size ≡ false

whole_parts : (part : ZeroPart) (w : Window) → whole_in (zero_target part w) ≡ true → IsWhole part w
whole_parts part w e = by_bytes (has_no_bytes part.size) refl (window_met w part.offset (last_of part.offset part.size)) e
  where
    by_bytes : (c : Bool) → has_no_bytes part.size ≡ c → (met : Option Window) → whole_in (cond c None (target_at part w met)) ≡ true → IsWhole part w
    by_bytes true d met e = absurd (cc)
    by_bytes false d None e = absurd (cc)
    by_bytes false d (Some met) e = let p = and_parts (nat_le part.offset w.lo) (nat_le w.hi (last_of part.offset part.size)) e in record { lo = leb-true part.offset w.lo p.0; hi = leb-true w.hi (last_of part.offset part.size) p.1; bytes = d }

ends_before : (offset : ℕ) (part : ZeroPart) → part.offset ≡ offset → (size : Option ℕ) (x : ℕ) → has_no_bytes size ≡ false → x ≤ last_of offset size → x < end_of part size
ends_before offset part e None x h k = omega arith
ends_before offset part e (Some zero) x h k = absurd (cc)
ends_before offset part e (Some (suc size)) x h k = omega arith

end_behind : (part : ZeroPart) (size : Option ℕ) → part.offset ≤ end_of part size
end_behind part None = omega arith
end_behind part (Some size) = omega arith

none_meet : (p : ZeroPart) (from : ℕ) (ps : List ZeroPart) → end_of p p.size ≤ from → are_behind from ps ≡ true → NoneMeets p ps
none_meet p from [] k h = tt
none_meet p from (q ∷ qs) k h =
    let a = and_parts (nat_le from q.offset) (are_behind (end_of q q.size) qs) h in
    let b = leb-true from q.offset a.0 in
    let c = end_behind q q.size in (
      λ w some x y. let u = whole_parts p w x in let v = whole_parts q w y in let d = ends_before p.offset p refl p.size w.hi u.bytes u.hi in let g = v.lo in omega arith,
      none_meet p (end_of q q.size) qs (omega arith) a.1,
    )

pub parts_apart : (from : ℕ) (ps : List ZeroPart) → are_behind from ps ≡ true → AreApart ps
parts_apart from [] h = tt
parts_apart from (p ∷ ps) h =
    let a = and_parts (nat_le from p.offset) (are_behind (end_of p p.size) ps) h in
    (none_meet p (end_of p p.size) ps (omega arith) a.1, parts_apart (end_of p p.size) ps a.1)

pub plain_room : (m : Model) (base : BaseInfo) → is_plain m base ≡ true → HasRoom m base
plain_room m base h =
    let a = and_parts (are_single m 0 base.shape.cells) (are_behind 0 base.shape.zeros) h in
    record { bytes = bytes_apart m base.shape.cells a.0; offsets = λ e class x. one_at m class x 0 base.shape.cells a.0; parts = parts_apart 0 base.shape.zeros a.1 }
