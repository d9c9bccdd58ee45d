-- What the machine sees at a place from which it reads.
use Rattle.std.proofs.Common.{◌≡◌, ℕ, zero, suc, ◌+◌, ◌<◌, ◌≤◌, Bool, true, false, ◌&&◌, Option, Some, None, List, [], ◌∷◌, length, drop, arith, subst, sym, refl, ap, ◌∙◌, inl, inr}
use Rattle.std.specs.Prelude.{slice_get, nat_le}
use Rattle.std.proofs.lemmas.Bool.{cases_Bool, and_parts, eqb-true, leb-true}
use Rattle.std.proofs.lemmas.List.{length-take, length-drop}
use Rattle.cc_base.specs.declared.diagnostics.Rule.TheVariants as rule
use Rattle.c_layout.specs.declared.leaf_lists.Class.{Class}
use Rattle.memory_model.specs.Memory.Bytes.{MachinePointer, null, into, Content, indeterminate, number, part, Tag, Byte}
use Rattle.memory_model.specs.Memory.Instances.{Memory, Life, live, ended, freed, bytes_at, byte_at, life_at}
use Rattle.memory_model.specs.Memory.Numbers.{Labelled, unsigned_of}
use Rattle.store_sound.specs.Concretization.Matching.{Fits, Matched, number_in}
use Rattle.memory_model.specs.Memory.Tags.{fits_tag, fit_from}
use Rattle.memory_model.specs.Effects.Worlds.{World, Reply, goes, stops, behind, stopped_by}
use Rattle.memory_model.specs.Effects.ScalarBytes.{region, contents}
use Rattle.memory_model.specs.Effects.Touches.{Spot, touched, touched_by, touched_live, is_literal, storage_at}
use Rattle.memory_model.specs.Effects.Accesses.{has_blank, numbers_in, and_number}
use Rattle.store_sound.proofs.operations.Classes.{same_class_is}
use Rattle.store_sound.proofs.operations.Slices.{get_take, get_drop, get_map}

-- ---- steps that go on

pub behind_goes : {A B : Type 0} (r : Reply A) (next : A → World → Reply B) (b : B) (u : World) → behind r next ≡ goes b u → (a : A) × (w : World) × (r ≡ goes a w) × (next a w ≡ goes b u)
behind_goes (goes a w) next b u e = (a, w, refl, e)
behind_goes (stops why w) next b u e = cc

-- so many bytes at a pointer may be read or written
pub record IsTouched (w : World) (p : MachinePointer) (size : ℕ) (writes : Bool) (s : Spot) (u : World) : Type 0 where
  pub lo : ℕ
  pub hi : ℕ
  pub pointer : p ≡ into s.instance s.offset lo hi
  pub alive : life_at w.memory s.instance ≡ live
  pub above : lo ≤ s.offset
  pub below : s.offset + size ≤ hi
  pub same : u ≡ w
  pub plain : (writes && is_literal (storage_at w.memory s.instance)) ≡ false

live_goes : (w : World) (i offset lo hi size : ℕ) (writes : Bool) (s : Spot) (u : World) → life_at w.memory i ≡ live → touched_live w i offset lo hi size writes ≡ goes s u → IsTouched w (into i offset lo hi) size writes s u
live_goes w i offset lo hi size writes s u a h = elim (cases_Bool (nat_le lo offset && nat_le (offset + size) hi)) [
  | inr e ↦ (let g : stopped_by {A = Spot} w rule.Invptr ≡ goes s u = rw e at h in cc)
  | inl e ↦ elim (cases_Bool (writes && is_literal (storage_at w.memory i))) [
    | inl f ↦ (let g : stopped_by {A = Spot} w rule.Strmod ≡ goes s u = rw (e, f) at h in cc)
    | inr f ↦ (let t : Spot = record { instance = i; offset = offset } in
        let g : goes t w ≡ goes s u = rw (e, f) at h in
        let d : t ≡ s = cc in
        let p = and_parts _ _ e in
        subst (λ t. IsTouched w (into i offset lo hi) size writes t u) d
        (record { lo = lo; hi = hi; pointer = refl; alive = a; above = leb-true _ _ p.0; below = leb-true _ _ p.1; same = cc; plain = f }))
  ]
]

life_goes : (w : World) (life : Life) (i offset lo hi size : ℕ) (writes : Bool) (s : Spot) (u : World) → life_at w.memory i ≡ life → touched_by w life i offset lo hi size writes ≡ goes s u → IsTouched w (into i offset lo hi) size writes s u
life_goes w live i offset lo hi size writes s u a h = live_goes w i offset lo hi size writes s u a h
life_goes w ended i offset lo hi size writes s u a h = cc
life_goes w freed i offset lo hi size writes s u a h = cc

pub touched_goes : (w : World) (p : MachinePointer) (size : ℕ) (writes : Bool) (s : Spot) (u : World) → touched w p size writes ≡ goes s u → IsTouched w p size writes s u
touched_goes w null size writes s u h = cc
touched_goes w (into i offset lo hi) size writes s u h = life_goes w (life_at w.memory i) i offset lo hi size writes s u refl h

-- ---- the bytes

tag_fits : (allocated : Bool) (class : Class) (k : ℕ) (tag : Option Tag) → fits_tag allocated class k tag ≡ true → Fits class k tag
tag_fits allocated class k None h = tt
tag_fits allocated class k (Some t) h = let p = and_parts _ _ h in (same_class_is _ _ p.0, eqb-true _ _ p.1)

pub fit_at : (allocated : Bool) (class : Class) (from : ℕ) (bs : List Byte) (k j : ℕ) (b : Byte) → fit_from allocated class from bs ≡ true → slice_get bs k ≡ Some b → j ≡ from + k → fits_tag allocated class j b.tag ≡ true
fit_at allocated class from [] k j b h e n = cc
fit_at allocated class from (x ∷ xs) zero j b h e n =
    let p = and_parts (fits_tag allocated class from x.tag) (fit_from allocated class (suc from) xs) h in
    let f : x ≡ b = cc in
    let g : from ≡ j = omega arith in
    subst (λ i. fits_tag allocated class i b.tag ≡ true) g (subst (λ y. fits_tag allocated class from y.tag ≡ true) f p.0)
fit_at allocated class from (x ∷ xs) (suc k) j b h e n = let p = and_parts (fits_tag allocated class from x.tag) (fit_from allocated class (suc from) xs) h in fit_at allocated class (suc from) xs k j b p.1 e (omega arith)

pub region_at : (bytes : List Byte) (offset size k j : ℕ) (b : Byte) → slice_get (region bytes offset size) k ≡ Some b → j ≡ offset + k → (k < size) × (slice_get bytes j ≡ Some b)
region_at bytes offset size k j b e n = let r = get_take size (drop offset bytes) k b e in (r.0, sym (get_drop offset bytes k j n) ∙ r.1)

pub region_length : (bytes : List Byte) (offset size : ℕ) → offset + size ≤ length bytes → length (region bytes offset size) ≡ size
region_length bytes offset size h = let a = length-take size (drop offset bytes) in let b = length-drop offset bytes in omega arith

-- each byte read is seen as one of the class
pub seen_matched : (memory : Memory) (i offset : ℕ) (allocated : Bool) (class : Class) (size k : ℕ) (c : Content) → fit_from allocated class 0 (region (bytes_at memory i) offset size) ≡ true → slice_get (contents (region (bytes_at memory i) offset size)) k ≡ Some c → (k < size) × Matched memory i (offset + k) class k c
unfolding byte_at
seen_matched memory i offset allocated class size k c f e =
    let m = get_map (λ b. b.content) (region (bytes_at memory i) offset size) k c e in
    let r = region_at (bytes_at memory i) offset size k (offset + k) m.0 m.1 refl in
    let t = tag_fits allocated class k m.0.tag (fit_at allocated class 0 (region (bytes_at memory i) offset size) k k m.0 f m.1 (omega arith)) in
    let g : m.0.content ≡ c = m.2 in
    (r.0, record { tag = m.0.tag; here = r.1 ∙ ap (λ d. Some (record { content = d; tag = m.0.tag })) g; fits = t })

-- ---- contents

pub blank_at : (cs : List Content) → has_blank cs ≡ true → (k : ℕ) × (slice_get cs k ≡ Some indeterminate)
blank_at [] h = cc
blank_at (indeterminate ∷ cs) h = (0, refl)
blank_at (number n labels ∷ cs) h = let r = blank_at cs h in (suc r.0, r.1)
blank_at (part p k ∷ cs) h = let r = blank_at cs h in (suc r.0, r.1)

and_parts_are : (c : Content) (o : Option (List Labelled)) (ns : List Labelled) → and_number c o ≡ Some ns → (n : Labelled) × (ms : List Labelled) × (c ≡ number_in n) × (o ≡ Some ms) × (ns ≡ n ∷ ms)
and_parts_are indeterminate o ns h = cc
and_parts_are (part p k) o ns h = cc
and_parts_are (number n labels) None ns h = cc
and_parts_are (number n labels) (Some ms) ns h = (record { number = n; labels = labels }, ms, refl, refl, cc)

pub numbers_length : (cs : List Content) (ns : List Labelled) → numbers_in cs ≡ Some ns → length ns ≡ length cs
numbers_length [] ns h = let e : ns ≡ [] = cc in ap length e
numbers_length (c ∷ cs) ns h = let r = and_parts_are c (numbers_in cs) ns h in let i = numbers_length cs r.1 r.3 in ap length r.4 ∙ omega arith

pub numbers_at : (cs : List Content) (ns : List Labelled) (k : ℕ) (n : Labelled) → numbers_in cs ≡ Some ns → slice_get ns k ≡ Some n → slice_get cs k ≡ Some (number_in n)
numbers_at [] ns k n h e = let f : ns ≡ [] = cc in let g : None ≡ Some n = subst (λ x. slice_get x k ≡ Some n) f e in cc
numbers_at (c ∷ cs) ns zero n h e = let r = and_parts_are c (numbers_in cs) ns h in let g : Some r.0 ≡ Some n = subst (λ x. slice_get x 0 ≡ Some n) r.4 e in let d : r.0 ≡ n = cc in let f = r.2 in ap Some (f ∙ ap number_in d)
numbers_at (c ∷ cs) ns (suc k) n h e = let r = and_parts_are c (numbers_in cs) ns h in numbers_at cs r.1 k n r.3 (subst (λ x. slice_get x (suc k) ≡ Some n) r.4 e)

-- bytes of zeros alone make 0
pub nil_unsigned : (ns : List Labelled) → ((k : ℕ) (x : Labelled) → slice_get ns k ≡ Some x → x.number ≡ 0) → unsigned_of ns ≡ 0
nil_unsigned [] h = refl
nil_unsigned (x ∷ xs) h = let a = h 0 x refl in let b = nil_unsigned xs (λ k y e. h (suc k) y e) in omega (arith, a, b)
