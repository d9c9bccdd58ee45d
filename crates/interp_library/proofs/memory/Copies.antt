-- One step of the loops that copy bytes, and their ends.
use Rattle.std.proofs.Common.{◌≡◌, ℕ, zero, suc, ◌+◌, ◌<◌, ◌≤◌, ◌⊎◌, ⊎_elim, Bool, true, false, List, [], ◌∷◌, ◌++◌, Option, Some, None, option_map, length, drop, get_or, slice_get, refl, sym, ap, ◌∙◌, append_assoc, add-one}
use Rattle.std.proofs.lemmas.List.{drop_all, drop_more, map-append}
use Rattle.std.proofs.lemmas.Option.{none-some}
use Rattle.c_layout.specs.declared.data_model.Model.{Model}
use Rattle.c_layout.specs.declared.leaf_lists.Leaf.{Leaf}
use Rattle.memory_model.specs.Memory.Bytes.{Tag, Byte}
use Rattle.memory_model.specs.Memory.Tags.{tag_at}
use Rattle.memory_model.specs.Effects.MemoryCalls.{may_all_come, come_over}
use Rattle.memory_model.specs.Effects.StructCopies.{copied}
use Rattle.interp_memory.specs.ByteViews.{byte_view, bytes_view}
use Rattle.interp_memory.specs.declared.byte_forms.Byte7.{Byte7}
use Rattle.interp_library.specs.Memory.Regions.{tagged_over, copied_byte}

come_none : (tos : List Byte) → may_all_come tos [] ≡ true
come_none [] = refl
come_none (t ∷ tos) = refl

-- behind the end of one of two regions nothing comes over
pub come_end : (a b : List Byte7) (k : ℕ) → (length a ≤ k) ⊎ (length b ≤ k) → may_all_come (bytes_view (drop k a)) (bytes_view (drop k b)) ≡ true
come_end a b k e =
    ⊎_elim
    (λ (all : length a ≤ k). ap (λ z. may_all_come (bytes_view z) (bytes_view (drop k b))) (drop_all k a all))
    (λ (all : length b ≤ k). ap (λ z. may_all_come (bytes_view (drop k a)) (bytes_view z)) (drop_all k b all) ∙ come_none (bytes_view (drop k a)))
    e

-- ---- one byte, where there is one

abbrev rest_at : Option Byte7 → List Byte7 → List Byte7
rest_at None rest = []
rest_at (Some b) rest = b ∷ rest

drop_at : (bs : List Byte7) (k : ℕ) → drop k bs ≡ rest_at (slice_get bs k) (drop (suc k) bs)
drop_at [] zero = refl
drop_at [] (suc k) = refl
drop_at (b ∷ bs) zero = refl
drop_at (b ∷ bs) (suc k) = drop_at bs k

none_behind : (bs : List Byte7) (k : ℕ) → slice_get bs k ≡ None → drop (suc k) bs ≡ []
none_behind [] zero e = refl
none_behind [] (suc k) e = refl
none_behind (b ∷ bs) zero e = absurd (none-some b (sym e))
none_behind (b ∷ bs) (suc k) e = none_behind bs k e

-- ---- contents under the tags that are there

over_step : (t : Byte) (ts : List Byte) (o : Option Byte7) (fs : List Byte7) → (o ≡ None → fs ≡ []) → come_over false (t ∷ ts) (bytes_view (rest_at o fs)) ≡ tagged_over t (option_map byte_view o) ∷ come_over false ts (bytes_view fs)
over_step t ts (Some f) fs e = refl
over_step t [] None fs e = sym (ap (λ z. t ∷ come_over false [] (bytes_view z)) (e refl))
over_step t (u ∷ ts) None fs e = sym (ap (λ z. t ∷ come_over false (u ∷ ts) (bytes_view z)) (e refl))

pub over_more : (tos froms all new : List Byte7) (k : ℕ) (d b : Byte7) → k < length tos → new ≡ all ++ b ∷ [] → byte_view b ≡ tagged_over (byte_view (get_or tos k d)) (option_map byte_view (slice_get froms k)) → bytes_view new ++ come_over false (bytes_view (drop (k + 1) tos)) (bytes_view (drop (k + 1) froms)) ≡ bytes_view all ++ come_over false (bytes_view (drop k tos)) (bytes_view (drop k froms))
over_more tos froms all new k d b h e is =
    let t : Byte = byte_view (get_or tos k d) in
    let ts : List Byte = bytes_view (drop (k + 1) tos) in
    let fs : List Byte = bytes_view (drop (k + 1) froms) in
    ap (λ z. bytes_view z ++ come_over false ts fs) e
    ∙ ap (λ z. z ++ come_over false ts fs) (map-append byte_view all (b ∷ []))
    ∙ append_assoc (bytes_view all) (byte_view b ∷ []) (come_over false ts fs)
    ∙ ap (λ z. bytes_view all ++ z ∷ come_over false ts fs) is
    ∙ ap (λ n. bytes_view all ++ tagged_over t (option_map byte_view (slice_get froms k)) ∷ come_over false ts (bytes_view (drop n froms))) (add-one k)
    ∙ ap (λ z. bytes_view all ++ z)
    (sym (over_step t ts (slice_get froms k) (drop (suc k) froms) (none_behind froms k))
    ∙ ap (λ z. come_over false (t ∷ ts) (bytes_view z)) (sym (drop_at froms k))
    ∙ ap (λ z. come_over false (bytes_view z) (bytes_view (drop k froms))) (sym (drop_more tos k d h)))

-- ---- the copy of a struct

copy_step : (m : Model) (leaves : List Leaf) (allocated : Bool) (k : ℕ) (t : Byte) (ts : List Byte) (o : Option Byte7) (fs : List Byte7) → (o ≡ None → fs ≡ []) → copied m leaves allocated k (t ∷ ts) (bytes_view (rest_at o fs)) ≡ copied_byte allocated (tag_at m leaves k) t (option_map byte_view o) ∷ copied m leaves allocated (suc k) ts (bytes_view fs)
copy_step m leaves allocated k t ts (Some f) fs e = refl
copy_step m leaves allocated k t [] None fs e = sym (ap (λ z. t ∷ copied m leaves allocated (suc k) [] (bytes_view z)) (e refl))
copy_step m leaves allocated k t (u ∷ ts) None fs e = sym (ap (λ z. t ∷ copied m leaves allocated (suc k) (u ∷ ts) (bytes_view z)) (e refl))

pub copied_more : (m : Model) (leaves : List Leaf) (allocated : Bool) (tos froms all new : List Byte7) (k : ℕ) (d b : Byte7) → k < length tos → new ≡ all ++ b ∷ [] → byte_view b ≡ copied_byte allocated (tag_at m leaves k) (byte_view (get_or tos k d)) (option_map byte_view (slice_get froms k)) → bytes_view new ++ copied m leaves allocated (k + 1) (bytes_view (drop (k + 1) tos)) (bytes_view (drop (k + 1) froms)) ≡ bytes_view all ++ copied m leaves allocated k (bytes_view (drop k tos)) (bytes_view (drop k froms))
copied_more m leaves allocated tos froms all new k d b h e is =
    let t : Byte = byte_view (get_or tos k d) in
    let ts : List Byte = bytes_view (drop (k + 1) tos) in
    let rest : List Byte = copied m leaves allocated (k + 1) ts (bytes_view (drop (k + 1) froms)) in
    let c : Byte = copied_byte allocated (tag_at m leaves k) t (option_map byte_view (slice_get froms k)) in
    ap (λ z. bytes_view z ++ rest) e
    ∙ ap (λ z. z ++ rest) (map-append byte_view all (b ∷ []))
    ∙ append_assoc (bytes_view all) (byte_view b ∷ []) rest
    ∙ ap (λ z. bytes_view all ++ z ∷ rest) is
    ∙ ap (λ n. bytes_view all ++ c ∷ copied m leaves allocated n ts (bytes_view (drop n froms))) (add-one k)
    ∙ ap (λ z. bytes_view all ++ z)
    (sym (copy_step m leaves allocated k t ts (slice_get froms k) (drop (suc k) froms) (none_behind froms k))
    ∙ ap (λ z. copied m leaves allocated k (t ∷ ts) (bytes_view z)) (sym (drop_at froms k))
    ∙ ap (λ z. copied m leaves allocated k (bytes_view z) (bytes_view (drop k froms))) (sym (drop_more tos k d h)))
