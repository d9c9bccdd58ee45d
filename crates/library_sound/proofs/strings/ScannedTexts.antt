-- What the machine's scan finds in an array with a first zero.
use Rattle.std.proofs.Common.{◌≡◌, ℕ, zero, suc, ◌+◌, ◌-◌, ◌<◌, ◌≤◌, Some, List, [], ◌∷◌, length, take, drop, arith, subst, sym, refl, ap, ◌∙◌, inl, inr, ◌⊎◌}
use Rattle.std.specs.Prelude.{slice_get, map}
use Rattle.std.proofs.lemmas.Option.{same_Some}
use Rattle.memory_model.specs.Memory.Bytes.{Content, indeterminate, number, part, Byte}
use Rattle.memory_model.specs.Effects.LibraryChecks.{Scanned, ends, unended, broken, one_further, scanned}
use Rattle.memory_model.specs.Effects.ScalarBytes.{region, contents}
use Rattle.store_sound.specs.Concretization.FirstZeroBytes.{Seen, unknown, end, character, seen_as, zero_by, first_zero}
use Rattle.store_sound.proofs.operations.Slices.{get_drop}
use Rattle.store_sound.proofs.operations.Texts.{more_is}

-- ---- the bytes up to the first zero

-- so many characters and a zero behind them
pub record IsText (seen : ℕ → Content → Type 0) (m : ℕ) : Type 0 where
  pub characters : (j : ℕ) → j < m → (c : Content) × seen j c × (seen_as c ≡ character)
  pub zero_there : (c : Content) × seen m c × (seen_as c ≡ end)

abbrev InBytes : List Byte → ℕ → Content → Type 0
InBytes bytes j c = (b : Byte) × (slice_get bytes j ≡ Some b) × (b.content ≡ c)

abbrev pub InContents : List Content → ℕ → Content → Type 0
InContents cs j c = slice_get cs j ≡ Some c

text_more : (x : Byte) (xs : List Byte) (k : ℕ) → seen_as x.content ≡ character → IsText (InBytes xs) k → IsText (InBytes (x ∷ xs)) (suc k)
text_more x xs k e t = record { characters = each; zero_there = t.zero_there }
  where
    each : (j : ℕ) → j < suc k → (c : Content) × InBytes (x ∷ xs) j c × (seen_as c ≡ character)
    each zero h = (x.content, (x, refl, refl), e)
    each (suc j) h = t.characters j (omega arith)

text_by : (x : Byte) (xs : List Byte) (s : Seen) → seen_as x.content ≡ s → ((k : ℕ) → first_zero xs ≡ Some k → IsText (InBytes xs) k) → (k : ℕ) → zero_by s (first_zero xs) ≡ Some k → IsText (InBytes (x ∷ xs)) k
text_by x xs unknown e back k h = cc
text_by x xs end e back k h = let d : 0 ≡ k = same_Some 0 k h in subst (IsText (InBytes (x ∷ xs))) d (record { characters = λ j g. absurd (omega arith); zero_there = (x.content, (x, refl, refl), e) })
text_by x xs character e back k h = let r = more_is (first_zero xs) k h in subst (IsText (InBytes (x ∷ xs))) (sym r.2) (text_more x xs r.0 e (back r.0 r.1))

zero_text : (bytes : List Byte) (k : ℕ) → first_zero bytes ≡ Some k → IsText (InBytes bytes) k
zero_text [] k h = cc
zero_text (x ∷ xs) k h = text_by x xs (seen_as x.content) refl (zero_text xs) k h

-- ---- the scan

-- it ends there, or meets a part of a pointer
abbrev pub IsFound : Scanned → ℕ → Type 0
IsFound s m = (s ≡ ends m) ⊎ (s ≡ broken)

found_more : (s : Scanned) (m : ℕ) → IsFound s m → IsFound (one_further s) (suc m)
found_more s m (inl e) = inl (ap one_further e)
found_more s m (inr e) = inr (ap one_further e)

scan_end : (c : Content) (cs : List Content) → seen_as c ≡ end → IsFound (scanned (c ∷ cs)) 0
scan_end indeterminate cs e = cc
scan_end (number zero labels) cs e = inl refl
scan_end (number (suc n) labels) cs e = cc
scan_end (part p k) cs e = cc

scan_character : (c : Content) (cs : List Content) (m : ℕ) → seen_as c ≡ character → IsFound (scanned cs) m → IsFound (scanned (c ∷ cs)) (suc m)
scan_character indeterminate cs m e h = cc
scan_character (number zero labels) cs m e h = cc
scan_character (number (suc n) labels) cs m e h = found_more (scanned cs) m h
scan_character (part p k) cs m e h = inr refl

pub text_scanned : (cs : List Content) (m : ℕ) → IsText (InContents cs) m → IsFound (scanned cs) m
text_scanned [] m t = let z = t.zero_there in let e = z.1 in cc
text_scanned (c ∷ cs) zero t = let z = t.zero_there in let e : c ≡ z.0 = same_Some c z.0 z.1 in scan_end c cs (ap seen_as e ∙ z.2)
text_scanned (c ∷ cs) (suc m) t =
    let h = t.characters 0 (omega arith) in
    let e : c ≡ h.0 = same_Some c h.0 h.1 in
    scan_character c cs m (ap seen_as e ∙ h.2) (text_scanned cs m (record { characters = λ j g. t.characters (suc j) (omega arith); zero_there = t.zero_there }))

-- where the scan ends it has met a byte
further_ends : (s : Scanned) (m : ℕ) → one_further s ≡ ends m → (k : ℕ) × (s ≡ ends k) × (m ≡ suc k)
further_ends (ends k) m e = (k, refl, cc)
further_ends unended m e = cc
further_ends broken m e = cc

pub ends_inside : (cs : List Content) (m : ℕ) → scanned cs ≡ ends m → m < length cs
ends_inside [] m e = cc
ends_inside (indeterminate ∷ cs) m e = cc
ends_inside (number zero labels ∷ cs) m e = let d : 0 ≡ m = cc in omega arith
ends_inside (number (suc n) labels ∷ cs) m e = let r = further_ends (scanned cs) m e in let w = ends_inside cs r.0 r.1 in let d = r.2 in omega arith
ends_inside (part p k ∷ cs) m e = cc

-- ---- a region of an instance

get_map : {X Y : Type 0} (f : X → Y) (xs : List X) (k : ℕ) (x : X) → slice_get xs k ≡ Some x → slice_get (map f xs) k ≡ Some (f x)
get_map f [] k x e = cc
get_map f (y ∷ ys) zero x e = let d : y ≡ x = cc in ap (λ z. Some (f z)) d
get_map f (y ∷ ys) (suc k) x e = get_map f ys k x e

take_some : {X : Type 0} (n : ℕ) (xs : List X) (k : ℕ) → k < n → slice_get (take n xs) k ≡ slice_get xs k
take_some zero xs k h = absurd (omega arith)
take_some (suc n) [] k h = refl
take_some (suc n) (x ∷ xs) zero h = refl
take_some (suc n) (x ∷ xs) (suc k) h = take_some n xs k (omega arith)

pub region_content : (bytes : List Byte) (offset room k : ℕ) (b : Byte) → k < room → slice_get bytes (offset + k) ≡ Some b → slice_get (contents (region bytes offset room)) k ≡ Some b.content
region_content bytes offset room k b h e = get_map (λ x. x.content) (region bytes offset room) k b (take_some room (drop offset bytes) k h ∙ (get_drop offset bytes k (offset + k) refl ∙ e))

-- the text that an array has from an offset on, up to its first zero
pub array_scanned : (array bytes : List Byte) (start offset room a : ℕ) → ((j : ℕ) (b : Byte) → slice_get array j ≡ Some b → slice_get bytes (start + j) ≡ Some b) → first_zero array ≡ Some a → start ≤ offset → offset - start ≤ a → a - (offset - start) < room
    → IsFound (scanned (contents (region bytes offset room))) (a - (offset - start))
array_scanned array bytes start offset room a there e from before inside =
    let t = zero_text array a e in
    text_scanned (contents (region bytes offset room)) (a - (offset - start)) (record {
      characters = λ j h. let x = t.characters ((offset - start) + j) (omega arith) in
          (x.0, place ((offset - start) + j) j x.0 x.1 (omega arith) (omega arith), x.2);
      zero_there = let x = t.zero_there in (x.0, place a (a - (offset - start)) x.0 x.1 inside (omega arith), x.2);
    })
  where
    place : (i j : ℕ) (c : Content) → InBytes array i c → j < room → start + i ≡ offset + j → slice_get (contents (region bytes offset room)) j ≡ Some c
    place i j c h small same = region_content bytes offset room j h.0 small (subst (λ k. slice_get bytes k ≡ Some h.0) same (there i h.0 h.1)) ∙ ap Some h.2
