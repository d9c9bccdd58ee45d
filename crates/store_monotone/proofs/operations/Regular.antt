-- Shapes are regular where each byte is of one leaf, each offset is of one leaf of a class, and parts are apart.
use Rattle.std.specs.Prelude.{◌≡◌, ℕ, zero, suc, ◌+◌, ◌-◌, ◌/◌, ◌≤◌, ◌<◌, Bool, true, false, cond, ◌||◌, nat_lt, Option, Some, None, List, [], ◌∷◌, length, count_by, refl}
use Rattle.std.specs.Option.{unwrap_or}
use Rattle.std.proofs.Common.{arith, sym, subst, ap, ◌∙◌}
use Rattle.std.proofs.lemmas.Bool.{and_from, and_parts, leb-true, le-leb, ltb-true, lt-ltb}
use Rattle.std.proofs.lemmas.Bool.Decides.{nat_tests}
use Rattle.std.proofs.lemmas.List.Sums.{sum_by-cons}
use Rattle.c_layout.specs.declared.data_model.Model.{Model}
use Rattle.c_layout.specs.declared.leaf_lists.Class.{Class}
use Rattle.c_layout.specs.declared.leaf_lists.Leaf.{Leaf}
use Rattle.c_layout.specs.declared.shapes.BaseInfo.{BaseInfo}
use Rattle.c_layout.specs.declared.shapes.ZeroPart.{ZeroPart}
use Rattle.store_cells.specs.declared.access_windows.Window.{Window}
use Rattle.store_cells.specs.Walks.{walk}
use Rattle.store_cells.specs.RowPositions.{capped}
use Rattle.store_cells.specs.ClassNumbers.{same_class}
use Rattle.store_cells.specs.AccessWindows.{window_between}
use Rattle.store.specs.LeafSelection.{has_place_in, is_selected, selected_count, has_stray, bytes_below, covered_more, covered_bytes, window_end, meets_padding}
use Rattle.store_cells.specs.FirstZeroWrites.{zero_target, if_whole, covered, first_covered}
use Rattle.store_cells.specs.declared.first_zero_writes.ZeroTarget.{ZeroTarget}
use Rattle.store_monotone.specs.Operations.Placements.{WindowWithin, IsRegular, CoversToo}
use Rattle.store_monotone.proofs.operations.ZeroTargets.{TargetBelow, target_monotone}

-- ---- padding

saturated : (c d f x y z : ℕ) → c ≤ d + f → capped (c + (z - x)) ≤ capped (d + (y - x)) + capped (f + (z - y))
saturated c d f x y z h = omega arith

split_from : (m : Model) (a b e at : ℕ) (leaves : List Leaf) (c d f : ℕ) → c ≤ d + f → walk (covered_more m a e) at leaves c ≤ walk (covered_more m a b) at leaves d + walk (covered_more m b e) at leaves f
split_from m a b e at [] c d f h = h
split_from m a b e at (leaf ∷ leaves) c d f h = split_from m a b e (at + 1) leaves _ _ _ (saturated c d f (bytes_below m leaf a) (bytes_below m leaf b) (bytes_below m leaf e) h)

covered_split : (m : Model) (leaves : List Leaf) (a b e : ℕ) → covered_bytes m leaves a e ≤ covered_bytes m leaves a b + covered_bytes m leaves b e
covered_split m leaves a b e = split_from m a b e 0 leaves 0 0 0 (omega arith)

none_from : (m : Model) (a at : ℕ) (leaves : List Leaf) → walk (covered_more m a a) at leaves 0 ≡ 0
none_from m a at [] = refl
none_from m a at (leaf ∷ leaves) = ap (λ c. walk (covered_more m a a) (at + 1) leaves c) (let e : covered_more m a a leaf at 0 ≡ 0 = omega arith in e) ∙ none_from m a (at + 1) leaves

-- each byte is of one leaf at most
abbrev pub IsByByte : Model → List Leaf → Type 0
IsByByte m leaves = (x : ℕ) → covered_bytes m leaves x (x + 1) ≤ 1

few_from : (m : Model) (leaves : List Leaf) → IsByByte m leaves → (k a : ℕ) → covered_bytes m leaves a (a + k) ≤ k
few_from m leaves h zero a = let e : a + 0 ≡ a = omega arith in subst (λ z. covered_bytes m leaves a z ≤ 0) (sym e) (let f = none_from m a 0 leaves in omega arith)
few_from m leaves h (suc k) a =
    let s = covered_split m leaves a (a + k) ((a + k) + 1) in
    let r = few_from m leaves h k a in
    let x = h (a + k) in
    let e : a + suc k ≡ (a + k) + 1 = omega arith in
    subst (λ z. covered_bytes m leaves a z ≤ suc k) (sym e) (omega arith)

few : (m : Model) (leaves : List Leaf) → IsByByte m leaves → (a e : ℕ) → a ≤ e → covered_bytes m leaves a e ≤ e - a
few m leaves h a e k = let f : a + (e - a) ≡ e = omega arith in subst (λ z. covered_bytes m leaves a z ≤ e - a) f (few_from m leaves h (e - a) a)

pub padding_monotone : (m : Model) (leaves : List Leaf) (size : ℕ) → IsByByte m leaves → (w u : Window) → WindowWithin w u → meets_padding m leaves w size ≡ true → meets_padding m leaves u size ≡ true
padding_monotone m leaves size h w u i e =
    let p = and_parts (nat_lt w.lo size) (nat_lt (covered_bytes m leaves w.lo (window_end w size)) (window_end w size - w.lo)) e in
    let a = ltb-true w.lo size p.0 in
    let b = ltb-true (covered_bytes m leaves w.lo (window_end w size)) (window_end w size - w.lo) p.1 in
    let i0 = i.lo in let i1 = i.some in let i2 = i.hi in
    let s = covered_split m leaves u.lo w.lo (window_end u size) in
    let t = covered_split m leaves w.lo (window_end w size) (window_end u size) in
    let x = few m leaves h u.lo w.lo i0 in
    let y = few m leaves h (window_end w size) (window_end u size) (omega arith) in
    and_from _ _ (lt-ltb u.lo size (omega arith)) (lt-ltb (covered_bytes m leaves u.lo (window_end u size)) (window_end u size - u.lo) (omega arith))

-- ---- strays

-- each offset is that of one leaf of a class at most
abbrev pub IsByOffset : List Leaf → Type 0
IsByOffset leaves = (class : Class) (x : ℕ) → selected_count leaves class (window_between x x) ≤ 1

place_split : (leaf : Leaf) (a b e : ℕ) → has_place_in leaf (window_between a e) ≡ true → (has_place_in leaf (window_between a b) || has_place_in leaf (window_between (b + 1) e)) ≡ true
place_split leaf a b e h =
    let f : ((b + 1) - leaf.offset) - 1 ≡ b - leaf.offset = omega arith in
    let g : (((b + 1) - leaf.offset) - 1) / leaf.stride ≡ (b - leaf.offset) / leaf.stride = ap (λ z. z / leaf.stride) f in
    grind (arith, nat_tests)

selected_split : (leaf : Leaf) (class : Class) (a b e : ℕ) → is_selected leaf class (window_between a e) ≡ true → (is_selected leaf class (window_between a b) || is_selected leaf class (window_between (b + 1) e)) ≡ true
selected_split leaf class a b e h =
    let p = and_parts (same_class leaf.class class) (has_place_in leaf (window_between a e)) h in
    let q = place_split leaf a b e p.1 in grind arith

count_or : (p q r : Leaf → Bool) → ((k : Leaf) → p k ≡ true → (q k || r k) ≡ true) → (ks : List Leaf) → count_by p ks ≤ count_by q ks + count_by r ks
count_or p q r h [] = omega arith
count_or p q r h (k ∷ ks) =
    let s = count_or p q r h ks in
    let a = sum_by-cons (λ x. cond {A = ℕ} (p x) 1 0) k ks in
    let b = sum_by-cons (λ x. cond {A = ℕ} (q x) 1 0) k ks in
    let c = sum_by-cons (λ x. cond {A = ℕ} (r x) 1 0) k ks in
    let d = one_of (p k) (q k) (r k) (h k) in omega arith
  where
    one_of : (x y z : Bool) → (x ≡ true → (y || z) ≡ true) → cond {A = ℕ} x 1 0 ≤ cond y 1 0 + cond z 1 0
    one_of false y z h = omega arith
    one_of true true z h = omega arith
    one_of true false true h = omega arith
    one_of true false false h = absurd (let e : false ≡ true = h refl in cc)

count_split : (leaves : List Leaf) (class : Class) (a b e : ℕ) → selected_count leaves class (window_between a e) ≤ selected_count leaves class (window_between a b) + selected_count leaves class (window_between (b + 1) e)
count_split leaves class a b e = count_or _ _ _ (λ leaf h. selected_split leaf class a b e h) leaves

-- so many offsets have at most so many leaves
offsets_few : (leaves : List Leaf) → IsByOffset leaves → (class : Class) (k a : ℕ) → selected_count leaves class (window_between a (a + k)) ≤ k + 1
offsets_few leaves h class zero a = let e : a + 0 ≡ a = omega arith in subst (λ z. selected_count leaves class (window_between a z) ≤ 1) (sym e) (h class a)
offsets_few leaves h class (suc k) a =
    let s = count_split leaves class a (a + k) ((a + k) + 1) in
    let r = offsets_few leaves h class k a in
    let x = h class ((a + k) + 1) in
    let e : a + suc k ≡ (a + k) + 1 = omega arith in
    subst (λ z. selected_count leaves class (window_between a z) ≤ suc k + 1) (sym e) (omega arith)

wider_hi : (leaves : List Leaf) → IsByOffset leaves → (class : Class) (a b k : ℕ) → selected_count leaves class (window_between a (b + k)) ≤ selected_count leaves class (window_between a b) + k
wider_hi leaves h class a b zero = let e : b + 0 ≡ b = omega arith in let f : selected_count leaves class (window_between a (b + 0)) ≡ selected_count leaves class (window_between a b) = ap (λ z. selected_count leaves class (window_between a z)) e in omega arith
wider_hi leaves h class a b (suc k) =
    let s = count_split leaves class a b (b + suc k) in
    let r = offsets_few leaves h class k (b + 1) in
    let e : (b + 1) + k ≡ b + suc k = omega arith in
    let f : selected_count leaves class (window_between (b + 1) ((b + 1) + k)) ≡ selected_count leaves class (window_between (b + 1) (b + suc k)) = ap (λ z. selected_count leaves class (window_between (b + 1) z)) e in
    omega arith

wider_lo : (leaves : List Leaf) → IsByOffset leaves → (class : Class) (a k b : ℕ) → selected_count leaves class (window_between a b) ≤ selected_count leaves class (window_between (a + k) b) + k
wider_lo leaves h class a zero b = let e : a + 0 ≡ a = omega arith in let f : selected_count leaves class (window_between (a + 0) b) ≡ selected_count leaves class (window_between a b) = ap (λ z. selected_count leaves class (window_between z b)) e in omega arith
wider_lo leaves h class a (suc k) b =
    let s = count_split leaves class a (a + k) b in
    let r = offsets_few leaves h class k a in
    let e : (a + k) + 1 ≡ a + suc k = omega arith in
    let f : selected_count leaves class (window_between ((a + k) + 1) b) ≡ selected_count leaves class (window_between (a + suc k) b) = ap (λ z. selected_count leaves class (window_between z b)) e in
    omega arith

pub stray_monotone : (leaves : List Leaf) → IsByOffset leaves → (class : Class) (w u : Window) → WindowWithin w u → has_stray leaves class w ≡ true → has_stray leaves class u ≡ true
stray_monotone leaves h class w u i e =
    let i0 = i.lo in let i1 = i.some in let i2 = i.hi in
    let a = leb-true (selected_count leaves class w) (w.hi - w.lo) e in
    let b = wider_lo leaves h class u.lo (w.lo - u.lo) u.hi in
    let c = wider_hi leaves h class w.lo w.hi (u.hi - w.hi) in
    let f : u.lo + (w.lo - u.lo) ≡ w.lo = omega arith in
    let g : w.hi + (u.hi - w.hi) ≡ u.hi = omega arith in
    let j : selected_count leaves class (window_between (u.lo + (w.lo - u.lo)) u.hi) ≡ selected_count leaves class (window_between w.lo (w.hi + (u.hi - w.hi))) = λ k. selected_count leaves class (window_between (f k) (sym g k)) in
    le-leb (selected_count leaves class u) (u.hi - u.lo) (omega arith)

-- ---- parts

abbrev pub whole_in : Option ZeroTarget → Bool
whole_in None = false
whole_in (Some t) = t.whole

-- no window lies in both parts
abbrev pub IsApart : ZeroPart → ZeroPart → Type 0
IsApart p q = (w : Window) → w.lo ≤ w.hi → whole_in (zero_target p w) ≡ true → whole_in (zero_target q w) ≡ true → ⊥

abbrev pub NoneMeets : ZeroPart → List ZeroPart → Type 0
NoneMeets p [] = Unit {0}
NoneMeets p (q ∷ qs) = IsApart p q × NoneMeets p qs

abbrev pub AreApart : List ZeroPart → Type 0
AreApart [] = Unit {0}
AreApart (p ∷ ps) = NoneMeets p ps × AreApart ps

found_stays : (w : Window) (at : ℕ) (ps : List ZeroPart) (f : ℕ × Window) → walk (first_covered w) at ps (Some f) ≡ Some f
found_stays w at [] f = refl
found_stays w at (p ∷ ps) f = found_stays w (at + 1) ps f

whole_monotone : (x y : Option ZeroTarget) → TargetBelow x y → whole_in y ≡ true → whole_in x ≡ true
whole_monotone x None h e = absurd (cc)
whole_monotone None (Some t) h e = absurd (h.0 e)
whole_monotone (Some s) (Some t) h e = h.1 e

covers_monotone : (at : ℕ) (x y : Option ZeroTarget) → TargetBelow x y → CoversToo (if_whole at x) (if_whole at y)
covers_monotone at x None h = tt
covers_monotone at None (Some t) h = not_whole t.whole (h.0)
  where
    not_whole : (b : Bool) → (b ≡ true → ⊥) → CoversToo None (cond b (Some (at, t.local)) None)
    not_whole true k = absurd (k refl)
    not_whole false k = tt
covers_monotone at (Some s) (Some t) h = both s.whole t.whole h.1
  where
    both : (a b : Bool) → (b ≡ true → a ≡ true) → CoversToo (cond a (Some (at, s.local)) None) (cond b (Some (at, t.local)) None)
    both a false k = tt
    both true true k = (refl, h.0)
    both false true k = absurd (let e : false ≡ true = k refl in cc)

is_whole : (at : ℕ) (x : Option ZeroTarget) (f : ℕ × Window) → if_whole at x ≡ Some f → whole_in x ≡ true
is_whole at None f e = absurd (cc)
is_whole at (Some t) f e = from t.whole e
  where
    from : (b : Bool) → cond b (Some (at, t.local)) None ≡ Some f → b ≡ true
    from true e = refl
    from false e = absurd (cc)

not_covered : (at : ℕ) (x : Option ZeroTarget) → (whole_in x ≡ true → ⊥) → if_whole at x ≡ None
not_covered at None h = refl
not_covered at (Some t) h = from t.whole h
  where
    from : (b : Bool) → (b ≡ true → ⊥) → cond {A = Option (ℕ × Window)} b (Some (at, t.local)) None ≡ None
    from true h = absurd (h refl)
    from false h = refl

module _ (w u : Window) (i : WindowWithin w u) where
  -- where a part before them has the smaller window, none of these has the larger one
  none_behind : (p : ZeroPart) → whole_in (zero_target p w) ≡ true → (at : ℕ) (ps : List ZeroPart) → NoneMeets p ps → walk (first_covered u) at ps None ≡ None
  none_behind p e at [] h = refl
  none_behind p e at (q ∷ qs) h =
      ap (λ f. walk (first_covered u) (at + 1) qs f) (not_covered at (zero_target q u) (λ k. h.0 w i.some e (whole_monotone (zero_target q w) (zero_target q u) (target_monotone q w u i) k)))
      ∙ none_behind p e (at + 1) qs h.1

  parts_from : (at : ℕ) (ps : List ZeroPart) → AreApart ps → CoversToo (walk (first_covered w) at ps None) (walk (first_covered u) at ps None)
  parts_from at [] h = tt
  parts_from at (p ∷ ps) h = by_head (parts_from (at + 1) ps h.1) (covered at p w) (covered at p u) refl refl (covers_monotone at (zero_target p w) (zero_target p u) (target_monotone p w u i))
    where
      by_head : CoversToo (walk (first_covered w) (at + 1) ps None) (walk (first_covered u) (at + 1) ps None) → (x y : Option (ℕ × Window)) → covered at p w ≡ x → covered at p u ≡ y → CoversToo x y → CoversToo (walk (first_covered w) (at + 1) ps x) (walk (first_covered u) (at + 1) ps y)
      by_head r None None e f c = r
      by_head r None (Some y) e f c = absurd c
      by_head r (Some x) (Some y) e f c = subst (λ z. CoversToo (walk (first_covered w) (at + 1) ps (Some x)) z) (sym (found_stays u (at + 1) ps y)) (subst (λ z. CoversToo z (Some y)) (sym (found_stays w (at + 1) ps x)) c)
      by_head r (Some x) None e f c = subst (λ z. CoversToo (walk (first_covered w) (at + 1) ps (Some x)) z) (sym (none_behind p (is_whole at (zero_target p w) x e) (at + 1) ps h.0)) tt

number_from : (w : Window) (most at : ℕ) (ps : List ZeroPart) → at + length ps ≤ most → (p : ℕ × Window) → walk (first_covered w) at ps None ≡ Some p → p.0 < most
number_from w most at [] h p e = absurd (cc)
number_from w most at (q ∷ qs) h p e = by_head (zero_target q w) (λ f. number_from w most (at + 1) qs (omega arith) p f) e
  where
    found : (f : ℕ × Window) → f.0 ≡ at → walk (first_covered w) (at + 1) qs (Some f) ≡ Some p → p.0 < most
    found f z g = let k : Some f ≡ Some p = sym (found_stays w (at + 1) qs f) ∙ g in let j : f.0 ≡ p.0 = ap (λ r. (unwrap_or r f).0) k in omega arith

    by_head : (x : Option ZeroTarget) → (walk (first_covered w) (at + 1) qs None ≡ Some p → p.0 < most) → walk (first_covered w) (at + 1) qs (if_whole at x) ≡ Some p → p.0 < most
    by_head None k f = k f
    by_head (Some t) k f = from t.whole k f
      where
        from : (b : Bool) → (walk (first_covered w) (at + 1) qs None ≡ Some p → p.0 < most) → walk (first_covered w) (at + 1) qs (cond b (Some (at, t.local)) None) ≡ Some p → p.0 < most
        from false k f = k f
        from true k f = found (at, t.local) refl f

-- what makes a base regular
pub record HasRoom (m : Model) (base : BaseInfo) : Type 0 where
  pub bytes : IsByByte m base.shape.cells
  pub offsets : base.shape.heap ≡ true → IsByOffset base.shape.cells
  pub parts : AreApart base.shape.zeros

pub regular : (m : Model) (base : BaseInfo) → HasRoom m base → IsRegular m base
regular m base h = record {
  stray = λ class w u i e k. stray_monotone base.shape.cells (h.offsets e) class w u i k;
  padding = λ w u i k. padding_monotone m base.shape.cells base.size h.bytes w u i k;
  parts = λ w u i. parts_from w u i 0 base.shape.zeros h.parts;
  part_number = λ w p e. number_from w (length base.shape.zeros) 0 base.shape.zeros (omega arith) p e;
}
