-- One step of the loops that write bytes, and their ends.
use Rattle.std.proofs.Common.{◌≡◌, ℕ, suc, ◌+◌, ◌-◌, ◌/◌, ◌%◌, ◌<◌, ◌≤◌, ◌⊎◌, ⊎_elim, List, [], ◌∷◌, ◌++◌, Option, Some, min, length, take, drop, set, get_or, refl, sym, ap, ◌∙◌, append_assoc, add-one, add-zero, arith}
use Rattle.std.proofs.lemmas.List.{length-map, length-take-le, get_or_at, set_at, take_more, map-set, get_or-map, take-map, drop-map, take_min, drop_min, take_rest, append-nil, map-append, take-append-drop, take_all, drop_all, drop_more, take_more_set, drop-set-lt}
use Rattle.c_layout.specs.declared.data_model.Model.{Model}
use Rattle.c_layout.specs.declared.leaf_lists.Class.{Class}
use Rattle.c_layout.specs.declared.leaf_lists.Leaf.{Leaf}
use Rattle.memory_model.specs.Memory.Bytes.{Content, indeterminate, number, part, Byte}
use Rattle.memory_model.specs.Memory.Tags.{tag_of, tag_at}
use Rattle.memory_model.specs.Effects.ObjectEffects.{blank_bytes, holding, all_of}
use Rattle.memory_model.specs.Effects.ScalarBytes.{number_bytes, parts_from, filled, tagged_from, replaced, refilled}
use Rattle.interp_memory.specs.ByteViews.{labels_view, pointer_view, content_view, contents_view, tag_view, byte_view, bytes_view}
use Rattle.interp_memory.specs.declared.byte_forms.LabelSet.{LabelSet}
use Rattle.interp_memory.specs.declared.byte_forms.Pointer7.{Pointer7}
use Rattle.interp_memory.specs.declared.byte_forms.Content7.{Content7}
use Rattle.interp_memory.specs.declared.byte_forms.Content7.TheVariants as content
use Rattle.interp_memory.specs.declared.byte_forms.Byte7.{Byte7}

-- ---- indeterminate bytes

pub blank_more : (m : Model) (leaves : List Leaf) (at size : ℕ) (bytes : List Byte) → at < size → (bytes ++ (record { content = indeterminate; tag = tag_at m leaves at } ∷ [])) ++ blank_bytes m leaves (at + 1) (size - (at + 1)) ≡ bytes ++ blank_bytes m leaves at (size - at)
blank_more m leaves at size bytes h =
    let e : size - at ≡ suc (size - (at + 1)) = omega arith in
    append_assoc bytes (record { content = indeterminate; tag = tag_at m leaves at } ∷ []) (blank_bytes m leaves (at + 1) (size - (at + 1)))
    ∙ ap (λ n. bytes ++ record { content = indeterminate; tag = tag_at m leaves at } ∷ blank_bytes m leaves n (size - (at + 1))) (add-one at)
    ∙ ap (λ n. bytes ++ blank_bytes m leaves at n) (sym e)

pub blanked : (m : Model) (leaves : List Leaf) (at size : ℕ) (bytes new : List Byte7) (tag : Option (Class × ℕ)) → at < size → new ≡ bytes ++ (record { content = content.Blank; tag = tag } ∷ []) → tag_view tag ≡ tag_at m leaves at → bytes_view new ++ blank_bytes m leaves (at + 1) (size - (at + 1)) ≡ bytes_view bytes ++ blank_bytes m leaves at (size - at)
blanked m leaves at size bytes new tag h e is =
    let rest : List Byte = blank_bytes m leaves (at + 1) (size - (at + 1)) in
    ap (λ bs. bytes_view bs ++ rest) e
    ∙ ap (λ bs. bs ++ rest) (map-append byte_view bytes (record { content = content.Blank; tag = tag } ∷ []))
    ∙ ap (λ t. (bytes_view bytes ++ (record { content = indeterminate; tag = t } ∷ [])) ++ rest) is
    ∙ blank_more m leaves at size (bytes_view bytes) h

-- ---- contents of a scalar

contents_more : (into : List Content7) (k : ℕ) (c : Content7) → k < length into → contents_view (take (k + 1) (set into k c)) ≡ contents_view (take k into) ++ content_view c ∷ []
contents_more into k c h = ap contents_view (take_more_set into k c h) ∙ map-append content_view (take k into) (c ∷ [])

pub number_more : (into : List Content7) (k left : ℕ) (labels : LabelSet) → k < length into → contents_view (take (k + 1) (set into k (content.Number (left % 256) labels))) ++ number_bytes (length into - (k + 1)) (left / 256) (labels_view labels) ≡ contents_view (take k into) ++ number_bytes (length into - k) left (labels_view labels)
number_more into k left labels h =
    let e : length into - k ≡ suc (length into - (k + 1)) = omega arith in
    ap (λ z. z ++ number_bytes (length into - (k + 1)) (left / 256) (labels_view labels)) (contents_more into k (content.Number (left % 256) labels) h)
    ∙ append_assoc (contents_view (take k into)) (number (left % 256) (labels_view labels) ∷ []) (number_bytes (length into - (k + 1)) (left / 256) (labels_view labels))
    ∙ ap (λ n. contents_view (take k into) ++ number_bytes n left (labels_view labels)) (sym e)

pub part_more : (into : List Content7) (k : ℕ) (p : Pointer7) → k < length into → contents_view (take (k + 1) (set into k (content.Part p k))) ++ parts_from (pointer_view p) (k + 1) (length into - (k + 1)) ≡ contents_view (take k into) ++ parts_from (pointer_view p) k (length into - k)
part_more into k p h =
    let e : length into - k ≡ suc (length into - (k + 1)) = omega arith in
    ap (λ z. z ++ parts_from (pointer_view p) (k + 1) (length into - (k + 1))) (contents_more into k (content.Part p k) h)
    ∙ append_assoc (contents_view (take k into)) (part (pointer_view p) k ∷ []) (parts_from (pointer_view p) (k + 1) (length into - (k + 1)))
    ∙ ap (λ n. contents_view (take k into) ++ part (pointer_view p) k ∷ parts_from (pointer_view p) n (length into - (k + 1))) (add-one k)
    ∙ ap (λ n. contents_view (take k into) ++ parts_from (pointer_view p) k n) (sym e)

-- ---- contents in the place of others

filled_nil : (cs : List Content) → filled [] cs ≡ []
filled_nil [] = refl
filled_nil (c ∷ cs) = refl

filled_none : (bs : List Byte) → filled bs [] ≡ bs
filled_none [] = refl
filled_none (b ∷ bs) = refl

pub fill_start : (bytes : List Byte) (offset : ℕ) (cs : List Content) → take (offset + 0) bytes ++ filled (drop (offset + 0) bytes) (drop 0 cs) ≡ refilled bytes offset cs
fill_start bytes offset cs = ap (λ n. take n bytes ++ filled (drop n bytes) cs) (add-zero offset)

pub fill_more : (bytes : List Byte) (cs : List Content) (j k : ℕ) (b : Byte) (c : Content) → j < length bytes → k < length cs → get_or bytes j b ≡ b → get_or cs k c ≡ c → take (j + 1) (set bytes j (record b { content = c })) ++ filled (drop (j + 1) (set bytes j (record b { content = c }))) (drop (k + 1) cs) ≡ take j bytes ++ filled (drop j bytes) (drop k cs)
fill_more bytes cs j k b c h i p q =
    let y : Byte = record b { content = c } in
    let front : take (j + 1) (set bytes j y) ≡ take j bytes ++ y ∷ [] = take_more_set bytes j y h in
    let rest : drop (j + 1) (set bytes j y) ≡ drop (j + 1) bytes = drop-set-lt (j + 1) bytes j y (omega arith) in
    let here : drop j bytes ≡ b ∷ drop (j + 1) bytes = drop_more bytes j b h ∙ ap (λ z. z ∷ drop (j + 1) bytes) p in
    let next : drop k cs ≡ c ∷ drop (k + 1) cs = drop_more cs k c i ∙ ap (λ z. z ∷ drop (k + 1) cs) q in
    ap (λ z. z ++ filled (drop (j + 1) (set bytes j y)) (drop (k + 1) cs)) front
    ∙ ap (λ z. (take j bytes ++ y ∷ []) ++ filled z (drop (k + 1) cs)) rest
    ∙ append_assoc (take j bytes) (y ∷ []) (filled (drop (j + 1) bytes) (drop (k + 1) cs))
    ∙ sym (ap (λ z. take j bytes ++ filled z (drop k cs)) here ∙ ap (λ z. take j bytes ++ filled (b ∷ drop (j + 1) bytes) z) next)

pub fill_end : (bytes : List Byte) (cs : List Content) (j k : ℕ) → (length bytes ≤ j) ⊎ (length cs ≤ k) → take j bytes ++ filled (drop j bytes) (drop k cs) ≡ bytes
fill_end bytes cs j k e =
    ⊎_elim
    (λ (all : length bytes ≤ j).
    ap (λ z. take j bytes ++ filled z (drop k cs)) (drop_all j bytes all)
    ∙ ap (λ z. take j bytes ++ z) (filled_nil (drop k cs))
    ∙ append-nil (take j bytes)
    ∙ take_all j bytes all)
    (λ (all : length cs ≤ k).
    ap (λ z. take j bytes ++ filled (drop j bytes) z) (drop_all k cs all)
    ∙ ap (λ z. take j bytes ++ z) (filled_none (drop j bytes))
    ∙ take-append-drop j bytes)
    e

-- ---- the bytes of a scalar in the place of others

pub length-tagged_from : (class : Class) (k : ℕ) (cs : List Content) → length (tagged_from class k cs) ≡ length cs
length-tagged_from class k [] = refl
length-tagged_from class k (c ∷ cs) = ap suc (length-tagged_from class (suc k) cs)

pub tag_start : (class : Class) (bytes : List Byte) (offset : ℕ) (cs : List Content) (n : ℕ) → n ≡ length cs → take (offset + 0) bytes ++ (tagged_from class 0 cs ++ drop (offset + n) bytes) ≡ replaced bytes offset (tagged_from class 0 cs)
tag_start class bytes offset cs n e =
    ap (λ k. take k bytes ++ (tagged_from class 0 cs ++ drop (offset + n) bytes)) (add-zero offset)
    ∙ ap (λ k. take offset bytes ++ (tagged_from class 0 cs ++ drop (offset + k) bytes)) (e ∙ sym (length-tagged_from class 0 cs))

pub tag_more : (class : Class) (bytes : List Byte) (cs : List Content) (j k end : ℕ) (c : Content) → j < length bytes → k < length cs → j < end → get_or cs k c ≡ c → take (j + 1) (set bytes j (record { content = c; tag = tag_of class k })) ++ (tagged_from class (k + 1) (drop (k + 1) cs) ++ drop end (set bytes j (record { content = c; tag = tag_of class k }))) ≡ take j bytes ++ (tagged_from class k (drop k cs) ++ drop end bytes)
tag_more class bytes cs j k end c h i before q =
    let y : Byte = record { content = c; tag = tag_of class k } in
    let front : take (j + 1) (set bytes j y) ≡ take j bytes ++ y ∷ [] = take_more_set bytes j y h in
    let rest : drop end (set bytes j y) ≡ drop end bytes = drop-set-lt end bytes j y before in
    let next : drop k cs ≡ c ∷ drop (k + 1) cs = drop_more cs k c i ∙ ap (λ z. z ∷ drop (k + 1) cs) q in
    ap (λ z. z ++ (tagged_from class (k + 1) (drop (k + 1) cs) ++ drop end (set bytes j y))) front
    ∙ ap (λ z. (take j bytes ++ y ∷ []) ++ (tagged_from class (k + 1) (drop (k + 1) cs) ++ z)) rest
    ∙ append_assoc (take j bytes) (y ∷ []) (tagged_from class (k + 1) (drop (k + 1) cs) ++ drop end bytes)
    ∙ ap (λ n. take j bytes ++ y ∷ (tagged_from class n (drop (k + 1) cs) ++ drop end bytes)) (add-one k)
    ∙ sym (ap (λ z. take j bytes ++ (tagged_from class k z ++ drop end bytes)) next)

-- ---- the same of the bytes of a program

pub refill_more : (bytes : List Byte7) (cs : List Content7) (offset k : ℕ) (d : Byte7) (e : Content7) → offset + k < length bytes → k < length cs → take (offset + (k + 1)) (bytes_view (set bytes (offset + k) (record (get_or bytes (offset + k) d) { content = get_or cs k e }))) ++ filled (drop (offset + (k + 1)) (bytes_view (set bytes (offset + k) (record (get_or bytes (offset + k) d) { content = get_or cs k e })))) (drop (k + 1) (contents_view cs)) ≡ take (offset + k) (bytes_view bytes) ++ filled (drop (offset + k) (bytes_view bytes)) (drop k (contents_view cs))
refill_more bytes cs offset k d e h i =
    let b : Byte7 = get_or bytes (offset + k) d in
    let c : Content7 = get_or cs k e in
    let next : offset + (k + 1) ≡ (offset + k) + 1 = omega arith in
    let view : bytes_view (set bytes (offset + k) (record b { content = c })) ≡ set (bytes_view bytes) (offset + k) (record (byte_view b) { content = content_view c }) = map-set byte_view bytes (offset + k) (record b { content = c }) in
    ap (λ n. take n (bytes_view (set bytes (offset + k) (record b { content = c }))) ++ filled (drop n (bytes_view (set bytes (offset + k) (record b { content = c })))) (drop (k + 1) (contents_view cs))) next
    ∙ ap (λ bs. take ((offset + k) + 1) bs ++ filled (drop ((offset + k) + 1) bs) (drop (k + 1) (contents_view cs))) view
    ∙ fill_more (bytes_view bytes) (contents_view cs) (offset + k) k (byte_view b) (content_view c)
    (let l = length-map bytes byte_view in omega arith)
    (let l = length-map cs content_view in omega arith)
    (get_or-map byte_view bytes (offset + k) d (byte_view b) h)
    (get_or-map content_view cs k e (content_view c) i)

pub retag_more : (class : Class) (bytes : List Byte7) (cs : List Content7) (offset k n : ℕ) (e : Content7) → n ≡ length cs → offset + n ≤ length bytes → k < length cs → take (offset + (k + 1)) (bytes_view (set bytes (offset + k) (record { content = get_or cs k e; tag = Some (class, k) }))) ++ (tagged_from class (k + 1) (drop (k + 1) (contents_view cs)) ++ drop (offset + n) (bytes_view (set bytes (offset + k) (record { content = get_or cs k e; tag = Some (class, k) })))) ≡ take (offset + k) (bytes_view bytes) ++ (tagged_from class k (drop k (contents_view cs)) ++ drop (offset + n) (bytes_view bytes))
retag_more class bytes cs offset k n e same h i =
    let c : Content7 = get_or cs k e in
    let y : Byte7 = record { content = c; tag = Some (class, k) } in
    let next : offset + (k + 1) ≡ (offset + k) + 1 = omega arith in
    let view : bytes_view (set bytes (offset + k) y) ≡ set (bytes_view bytes) (offset + k) (byte_view y) = map-set byte_view bytes (offset + k) y in
    ap (λ j. take j (bytes_view (set bytes (offset + k) y)) ++ (tagged_from class (k + 1) (drop (k + 1) (contents_view cs)) ++ drop (offset + n) (bytes_view (set bytes (offset + k) y)))) next
    ∙ ap (λ bs. take ((offset + k) + 1) bs ++ (tagged_from class (k + 1) (drop (k + 1) (contents_view cs)) ++ drop (offset + n) bs)) view
    ∙ tag_more class (bytes_view bytes) (contents_view cs) (offset + k) k (offset + n) (content_view c)
    (let l = length-map bytes byte_view in omega arith)
    (let l = length-map cs content_view in omega arith)
    (omega arith)
    (get_or-map content_view cs k e (content_view c) i)

pub region_same : (bs : List Byte7) (offset size from count : ℕ) → from ≡ min offset (length bs) → count ≡ min size (length (take (length bs - from) (drop from bs))) → bytes_view (take count (take (length bs - from) (drop from bs))) ≡ take size (drop offset (bytes_view bs))
region_same bs offset size from count f n =
    let rest : drop from bs ≡ drop offset bs = ap (λ k. drop k bs) f ∙ drop_min offset bs in
    let whole : take (length bs - from) (drop from bs) ≡ drop offset bs = take_rest bs from ∙ rest in
    ap (λ k. bytes_view (take k (take (length bs - from) (drop from bs)))) n
    ∙ ap bytes_view (take_min size (take (length bs - from) (drop from bs)))
    ∙ ap (λ z. bytes_view (take size z)) whole
    ∙ sym (take-map byte_view size (drop offset bs))
    ∙ ap (take size) (sym (drop-map byte_view offset bs))

-- ---- one content in all bytes

pub all_more : (c : Content7) (bytes first : List Byte7) (k : ℕ) (d : Byte7) → k < length first → k < length bytes → bytes_view bytes ≡ all_of (content_view c) (take k (bytes_view first)) ++ drop k (bytes_view first) → bytes_view (set bytes k (record (get_or bytes k d) { content = c })) ≡ all_of (content_view c) (take (k + 1) (bytes_view first)) ++ drop (k + 1) (bytes_view first)
all_more c bytes first k d h i e =
    let b : Byte7 = get_or bytes k d in
    let all : List Byte = bytes_view first in
    let front : List Byte = all_of (content_view c) (take k all) in
    let rest : List Byte = drop (k + 1) all in
    let x : Byte = get_or all k (byte_view b) in
    let within : k < length all = (let l = length-map first byte_view in omega arith) in
    let size : length front ≡ k = length-map (take k all) (holding (content_view c)) ∙ length-take-le k all (omega arith) in
    let now : bytes_view bytes ≡ front ++ x ∷ rest = e ∙ ap (λ z. front ++ z) (drop_more all k (byte_view b) within) in
    let same : byte_view b ≡ x = sym (get_or-map byte_view bytes k d (byte_view b) i) ∙ ap (λ z. get_or z k (byte_view b)) now ∙ get_or_at front x rest (byte_view b) k size in
    map-set byte_view bytes k (record b { content = c })
    ∙ ap (λ z. set z k (holding (content_view c) (byte_view b))) now
    ∙ set_at front x rest (holding (content_view c) (byte_view b)) k size
    ∙ ap (λ y. front ++ holding (content_view c) y ∷ rest) same
    ∙ sym (ap (λ z. z ++ rest) (ap (all_of (content_view c)) (take_more all k (byte_view b) within) ∙ map-append (holding (content_view c)) (take k all) (x ∷ [])) ∙ append_assoc front (holding (content_view c) x ∷ []) rest)

pub all_end : (c : Content) (first : List Byte) (k : ℕ) → length first ≤ k → all_of c (take k first) ++ drop k first ≡ all_of c first
all_end c first k h =
    ap (λ z. all_of c (take k first) ++ z) (drop_all k first h)
    ∙ append-nil (all_of c (take k first))
    ∙ ap (all_of c) (take_all k first h)

-- ---- bytes in the place of others

pub replaced_view : (bytes : List Byte7) (offset : ℕ) (new : List Byte7) → bytes_view (take offset bytes ++ (new ++ drop (offset + length new) bytes)) ≡ replaced (bytes_view bytes) offset (bytes_view new)
replaced_view bytes offset new =
    let rest : List Byte7 = drop (offset + length new) bytes in
    map-append byte_view (take offset bytes) (new ++ rest)
    ∙ ap (λ z. bytes_view (take offset bytes) ++ z) (map-append byte_view new rest)
    ∙ ap (λ z. z ++ (bytes_view new ++ bytes_view rest)) (sym (take-map byte_view offset bytes))
    ∙ ap (λ z. take offset (bytes_view bytes) ++ (bytes_view new ++ z)) (sym (drop-map byte_view (offset + length new) bytes) ∙ ap (λ n. drop (offset + n) (bytes_view bytes)) (sym (length-map new byte_view)))
