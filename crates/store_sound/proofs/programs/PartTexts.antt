-- First zeros lie over characters alone.
use Rattle.std.proofs.Common.{◌≡◌, ℕ, zero, suc, ◌+◌, ◌-◌, ◌*◌, ◌/◌, ◌%◌, ◌<◌, ◌≤◌, true, cond, ◌&&◌, Option, Some, None, List, [], ◌∷◌, arith, subst, sym, refl, ap, ◌∙◌, inl, inr}
use Rattle.std.specs.Prelude.{slice_get, ◌==◌, nat_lt, nat_le}
use Rattle.std.proofs.lemmas.Bool.{cases_Bool, cases_lt, and_parts, eqb-true, leb-true, le-leb, lt-ltb}
use Rattle.std.proofs.lemmas.Option.{same_Some}
use Rattle.c_layout.specs.declared.data_model.Model.{Model}
use Rattle.c_layout.specs.declared.leaf_lists.Class.TheVariants.{Char}
use Rattle.c_layout.specs.declared.leaf_lists.Leaf.{Leaf}
use Rattle.c_layout.specs.declared.shapes.ZeroPart.{ZeroPart}
use Rattle.c_layout.specs.Models.{is_model}
use Rattle.cfg.specs.ModelKinds as program
use Rattle.cfg.specs.BaseShapes.{ends_by, size_or_none, part_size, goes_on, lie_over, are_leaves}
use Rattle.cfg.specs.ApartLeaves.{HasByte}
use Rattle.memory_model.specs.Memory.ScalarSizes.{class_bytes}
use Rattle.memory_model.specs.Memory.Bytes.{Tag}
use Rattle.memory_model.specs.Memory.Tags.{tag_of, leaf_tag, or_tag, tag_at}
use Rattle.store_sound.specs.Concretization.Places.{OwnedByLeaf}
use Rattle.store_sound.proofs.operations.Classes.{same_class_is}
use Rattle.store_sound.proofs.operations.TagPlaces.{is_tagged}
use Rattle.store_sound.proofs.programs.Sizes.{same_bytes}
use Rattle.store_sound.proofs.programs.Leaves.{one_owner}

-- a leaf goes on with a part of which so many bytes are done
record GoesOn (p : ZeroPart) (done : ℕ) (l : Leaf) : Type 0 where
  start : l.offset ≡ p.offset + done
  room : done + l.count ≤ part_size p
  class : l.class ≡ Char
  stride : l.stride ≡ 1

ends_within : (at size limit : ℕ) → ends_by at size limit ≡ true → at + size ≤ limit
ends_within at size limit h =
    let a = and_parts (nat_le at limit) (nat_le size (limit - at)) h in
    let b = leb-true at limit a.0 in
    let c = leb-true size (limit - at) a.1 in
    omega (arith, b, c)

goes_on_as : (p : ZeroPart) (done : ℕ) (l : Leaf) → goes_on p done l ≡ true → GoesOn p done l
goes_on_as p done l h =
    let a = and_parts (ends_by p.offset done l.offset && ((l.offset - p.offset == done) && ends_by done l.count (part_size p))) (program.same_class l.class Char && (l.stride == 1)) h in
    let b = and_parts (ends_by p.offset done l.offset) ((l.offset - p.offset == done) && ends_by done l.count (part_size p)) a.0 in
    let c = and_parts (l.offset - p.offset == done) (ends_by done l.count (part_size p)) b.1 in
    let d = and_parts (program.same_class l.class Char) (l.stride == 1) a.1 in
    let from = ends_within p.offset done l.offset b.0 in
    let same = eqb-true (l.offset - p.offset) done c.0 in
    record { start = omega (arith, from, same); room = ends_within done l.count (part_size p) c.1; class = same_class_is l.class Char d.0; stride = eqb-true l.stride 1 d.1 }

-- a leaf of characters side by side has the offset
pub record IsCharacter (ls : List Leaf) (o : ℕ) : Type 0 where
  pub index : ℕ
  pub leaf : Leaf
  pub among : slice_get ls index ≡ Some leaf
  pub class : leaf.class ≡ Char
  pub stride : leaf.stride ≡ 1
  pub from : leaf.offset ≤ o
  pub to : o < leaf.offset + leaf.count

later : (l : Leaf) (ls : List Leaf) (o : ℕ) → IsCharacter ls o → IsCharacter (l ∷ ls) o
later l ls o c = record { index = suc c.index; leaf = c.leaf; among = c.among; class = c.class; stride = c.stride; from = c.from; to = c.to }

-- parts of the first of which so many bytes are done: each other byte of each is a character
abbrev LiesOver : List Leaf → ℕ → List ZeroPart → Type 0
LiesOver ls done ps = (j : ℕ) (p : ZeroPart) → slice_get ps j ≡ Some p → (o : ℕ) → (j ≡ 0 → p.offset + done ≤ o) → p.offset ≤ o → o < p.offset + part_size p → IsCharacter ls o

over_done : (l : Leaf) (ls : List Leaf) (q : ZeroPart) (ps : List ZeroPart) (done : ℕ) → GoesOn q done l → done + l.count ≡ part_size q → LiesOver ls 0 ps → LiesOver (l ∷ ls) done (q ∷ ps)
over_done l ls q ps done g full rest zero p e o first from to =
    let d : q ≡ p = cc in
    let a : p.offset + done ≤ o = first refl in
    let b : q.offset ≡ p.offset = ap (λ z. z.offset) d in
    let c : part_size q ≡ part_size p = ap part_size d in
    let s = g.start in
    record { index = 0; leaf = l; among = refl; class = g.class; stride = g.stride; from = omega (arith, a, b, s); to = omega (arith, b, c, s, full, to) }
over_done l ls q ps done g full rest (suc j) p e o first from to = later l ls o (rest j p e o (λ z. omega (arith, from)) from to)

over_more : (l : Leaf) (ls : List Leaf) (q : ZeroPart) (ps : List ZeroPart) (done : ℕ) → GoesOn q done l → LiesOver ls (done + l.count) (q ∷ ps) → LiesOver (l ∷ ls) done (q ∷ ps)
over_more l ls q ps done g rest (suc j) p e o first from to = later l ls o (rest (suc j) p e o (λ z. absurd (omega (arith, z))) from to)
over_more l ls q ps done g rest zero p e o first from to =
    let d : q ≡ p = cc in
    let a : p.offset + done ≤ o = first refl in
    let b : q.offset ≡ p.offset = ap (λ z. z.offset) d in
    let s = g.start in
    elim (cases_lt o (l.offset + l.count)) [
      | inl u ↦ record { index = 0; leaf = l; among = refl; class = g.class; stride = g.stride; from = omega (arith, a, b, s); to = u }
      | inr u ↦ later l ls o (rest 0 p e o (λ z. omega (arith, u, b, s)) from to)
    ]

over_by : (l : Leaf) (ls : List Leaf) (q : ZeroPart) (ps : List ZeroPart) (done : ℕ) → GoesOn q done l → ((d : ℕ) (rs : List ZeroPart) → lie_over d ls rs ≡ true → LiesOver ls d rs) → cond (done + l.count == part_size q) (lie_over 0 ls ps) (lie_over (done + l.count) ls (q ∷ ps)) ≡ true → LiesOver (l ∷ ls) done (q ∷ ps)
over_by l ls q ps done g rest h = elim (cases_Bool (done + l.count == part_size q)) [
  | inl e ↦ (let k : lie_over 0 ls ps ≡ true = rw e at h in over_done l ls q ps done g (eqb-true _ _ e) (rest 0 ps k))
  | inr e ↦ (let k : lie_over (done + l.count) ls (q ∷ ps) ≡ true = rw e at h in over_more l ls q ps done g (rest (done + l.count) (q ∷ ps) k))
]

lies_over : (ls : List Leaf) (done : ℕ) (ps : List ZeroPart) → lie_over done ls ps ≡ true → LiesOver ls done ps
lies_over ls done [] h = λ j p e o first from to. cc
lies_over [] done (q ∷ ps) h = λ j p e o first from to. cc
lies_over (l ∷ ls) done (q ∷ ps) h = elim (cases_Bool (nat_lt l.offset q.offset)) [
  | inl f ↦ (let g : lie_over done ls (q ∷ ps) ≡ true = rw f at h in λ j p e o first from to. later l ls o (lies_over ls done (q ∷ ps) g j p e o first from to))
  | inr f ↦ (let g : (goes_on q done l && cond (done + l.count == part_size q) (lie_over 0 ls ps) (lie_over (done + l.count) ls (q ∷ ps))) ≡ true = rw f at h in
      let a = and_parts (goes_on q done l) (cond (done + l.count == part_size q) (lie_over 0 ls ps) (lie_over (done + l.count) ls (q ∷ ps))) g in
      over_by l ls q ps done (goes_on_as q done l a.0) (λ d rs. lies_over ls d rs) a.1)
]

-- ---- sizes

abbrev HasPlaces : List Leaf → Type 0
HasPlaces ls = (j : ℕ) (leaf : Leaf) → slice_get ls j ≡ Some leaf → 0 < leaf.count

abbrev AreSized : List ZeroPart → Type 0
AreSized ps = (j : ℕ) (p : ZeroPart) → slice_get ps j ≡ Some p → 0 < part_size p

first_sized : (q : ZeroPart) (ps : List ZeroPart) → 0 < part_size q → AreSized ps → AreSized (q ∷ ps)
first_sized q ps h rest zero p e = let d : q ≡ p = cc in subst (λ z. 0 < part_size z) d h
first_sized q ps h rest (suc j) p e = rest j p e

sized_by : (l : Leaf) (ls : List Leaf) (q : ZeroPart) (ps : List ZeroPart) (done : ℕ) → 0 < l.count → GoesOn q done l → ((d : ℕ) (rs : List ZeroPart) → lie_over d ls rs ≡ true → AreSized rs) → cond (done + l.count == part_size q) (lie_over 0 ls ps) (lie_over (done + l.count) ls (q ∷ ps)) ≡ true → AreSized (q ∷ ps)
sized_by l ls q ps done some g rest h = elim (cases_Bool (done + l.count == part_size q)) [
  | inl e ↦ (let k : lie_over 0 ls ps ≡ true = rw e at h in let r = g.room in first_sized q ps (omega (arith, r, some)) (rest 0 ps k))
  | inr e ↦ (let k : lie_over (done + l.count) ls (q ∷ ps) ≡ true = rw e at h in rest (done + l.count) (q ∷ ps) k)
]

are_sized : (ls : List Leaf) (done : ℕ) (ps : List ZeroPart) → HasPlaces ls → lie_over done ls ps ≡ true → AreSized ps
are_sized ls done [] some h = λ j p e. cc
are_sized [] done (q ∷ ps) some h = λ j p e. cc
are_sized (l ∷ ls) done (q ∷ ps) some h =
    let more : HasPlaces ls = λ j leaf e. some (suc j) leaf e in
    elim (cases_Bool (nat_lt l.offset q.offset)) [
      | inl f ↦ (let g : lie_over done ls (q ∷ ps) ≡ true = rw f at h in are_sized ls done (q ∷ ps) more g)
      | inr f ↦ (let g : (goes_on q done l && cond (done + l.count == part_size q) (lie_over 0 ls ps) (lie_over (done + l.count) ls (q ∷ ps))) ≡ true = rw f at h in
          let a = and_parts (goes_on q done l) (cond (done + l.count == part_size q) (lie_over 0 ls ps) (lie_over (done + l.count) ls (q ∷ ps))) g in
          sized_by l ls q ps done (some 0 l refl) (goes_on_as q done l a.0) (λ d rs. are_sized ls d rs more) a.1)
    ]

some_size : (s : Option ℕ) → 0 < size_or_none s → (n : ℕ) × (s ≡ Some n)
some_size None h = absurd (omega (arith, h))
some_size (Some n) h = (n, refl)

-- ---- tags

module _ (m : Model) where
  own_tag : (leaf : Leaf) (o : ℕ) → leaf.class ≡ Char → leaf.stride ≡ 1 → leaf.offset ≤ o → o < leaf.offset + leaf.count → leaf_tag m leaf o ≡ tag_of leaf.class ((o - leaf.offset) % 1)
  own_tag leaf o class stride from to =
      let d : ℕ = o - leaf.offset in
      let size : class_bytes m leaf.class ≡ 1 = ap (class_bytes m) class in
      let turn : nat_lt (d / 1) leaf.count ≡ true = lt-ltb _ _ (omega (arith, from, to)) in
      let rest : nat_lt (d % 1) (class_bytes m leaf.class) ≡ true = lt-ltb _ _ (omega (arith, size)) in
      rw (le-leb leaf.offset o from, stride, turn, rest) refl

  some_tag : (ls : List Leaf) (k : ℕ) (leaf : Leaf) (o : ℕ) (t : Tag) → slice_get ls k ≡ Some leaf → leaf_tag m leaf o ≡ Some t → (s : Tag) × (tag_at m ls o ≡ Some s)
  some_tag [] k leaf o t e h = cc
  some_tag (l ∷ ls) zero leaf o t e h = let d : l ≡ leaf = cc in let f : leaf_tag m l o ≡ Some t = ap (λ z. leaf_tag m z o) d ∙ h in (t, ap (λ z. or_tag z (tag_at m ls o)) f)
  some_tag (l ∷ ls) (suc k) leaf o t e h = or_some (leaf_tag m l o) (some_tag ls k leaf o t e h)
    where
      or_some : (a : Option Tag) → (s : Tag) × (tag_at m ls o ≡ Some s) → (s : Tag) × (or_tag a (tag_at m ls o) ≡ Some s)
      or_some None r = r
      or_some (Some u) r = (u, refl)

  owned_byte : (leaf : Leaf) (o k : ℕ) → is_model m ≡ true → OwnedByLeaf m leaf o k → HasByte m leaf o
  owned_byte leaf o k model w =
      let same = same_bytes m leaf.class model in
      let there = w.there in
      let start = w.place.there in
      let small = w.small in
      record { place = w.place.turn; is_one = w.place.few; from = omega (arith, there, start); to = omega (arith, there, start, small, same) }

  character_byte : (leaf : Leaf) (o : ℕ) → leaf.class ≡ Char → leaf.stride ≡ 1 → leaf.offset ≤ o → o < leaf.offset + leaf.count → HasByte m leaf o
  character_byte leaf o class stride from to =
      let size : program.class_bytes m leaf.class ≡ 1 = ap (program.class_bytes m) class in
      let far : leaf.stride * (o - leaf.offset) ≡ o - leaf.offset = ap (λ z. z * (o - leaf.offset)) stride ∙ omega arith in
      record { place = o - leaf.offset; is_one = omega (arith, from, to); from = omega (arith, from, far); to = omega (arith, from, far, size) }

  character_tag : (room : ℕ) (ls : List Leaf) (o : ℕ) → is_model m ≡ true → are_leaves m room ls ≡ true → IsCharacter ls o → tag_at m ls o ≡ tag_of Char 0
  character_tag room ls o model h c =
      let own = own_tag c.leaf o c.class c.stride c.from c.to in
      let s = some_tag ls c.index c.leaf o _ c.among own in
      let g = is_tagged m ls o s.0 s.1 in
      let index : g.index ≡ c.index = one_owner m room ls h g.index c.index g.leaf c.leaf g.among c.among o (owned_byte g.leaf o s.0.at model g.owned) (character_byte c.leaf o c.class c.stride c.from c.to) in
      let leaf : g.leaf ≡ c.leaf = same_Some g.leaf c.leaf (sym g.among ∙ (ap (slice_get ls) index ∙ c.among)) in
      let char : g.leaf.class ≡ Char = ap (λ z. z.class) leaf ∙ c.class in
      let class : s.0.class ≡ Char = g.class ∙ char in
      let size : class_bytes m g.leaf.class ≡ 1 = ap (class_bytes m) char in
      let small = g.owned.small in
      let at : s.0.at ≡ 0 = omega (arith, small, size) in
      s.1 ∙ λ i. Some (record { class = class i; at = at i })

  -- a part has a size, and all its bytes are characters
  pub record IsText (ls : List Leaf) (p : ZeroPart) : Type 0 where
    pub size : ℕ
    pub sized : p.size ≡ Some size
    pub tags : (o : ℕ) → p.offset ≤ o → o < p.offset + size → tag_at m ls o ≡ tag_of Char 0

  pub each_text : (room : ℕ) (ls : List Leaf) (ps : List ZeroPart) → is_model m ≡ true → are_leaves m room ls ≡ true → HasPlaces ls → lie_over 0 ls ps ≡ true → (j : ℕ) (p : ZeroPart) → slice_get ps j ≡ Some p → IsText ls p
  each_text room ls ps model h some lies j p e =
      let s = some_size p.size (are_sized ls 0 ps some lies j p e) in
      let same : part_size p ≡ s.0 = ap size_or_none s.1 in
      record { size = s.0; sized = s.1; tags = λ o from to. character_tag room ls o model h (lies_over ls 0 ps lies j p e o (λ z. omega (arith, from)) from (omega (arith, to, same))) }
