-- Numbers that bytes are, from the last byte down.
use Rattle.std.proofs.Common.{◌≡◌, ℕ, zero, suc, ◌+◌, ◌*◌, ◌^◌, ◌<◌, Option, Some, None, List, [], ◌∷◌, length, drop, get_or, refl, sym, ap, ◌∙◌, add-one, arith}
use Rattle.std.proofs.lemmas.List.{drop_more, drop_all}
use Rattle.std.proofs.lemmas.Option.{none-some, some_pair_parts}
use Rattle.memory_model.specs.Memory.Labels.{Labels, no_labels, labels_join}
use Rattle.memory_model.specs.Memory.Bytes.{Content, indeterminate, number, part}
use Rattle.memory_model.specs.Memory.Numbers.{Labelled, unsigned_of}
use Rattle.memory_model.specs.Effects.Accesses.{and_number, numbers_in, joined_labels}
use Rattle.memory_model.specs.Effects.ScalarBytes.{contents}
use Rattle.interp_memory.specs.ByteViews.{content_view, byte_view, bytes_view}
use Rattle.interp_memory.specs.Digits.{digits_of}
use Rattle.interp_memory.specs.declared.byte_forms.LabelSet.{LabelSet}
use Rattle.interp_memory.specs.declared.byte_forms.Content7.{Content7}
use Rattle.interp_memory.specs.declared.byte_forms.Content7.TheVariants as content
use Rattle.interp_memory.specs.declared.byte_forms.Byte7.{Byte7}

-- the contents of bytes from a number on
abbrev pub contents_from : List Byte7 → ℕ → List Content
contents_from bs at = contents (bytes_view (drop at bs))

-- ---- how large

pub number_below : (n k m : ℕ) → n < 256 → m < 256 ^ k → n + 256 * m < 256 ^ (k + 1)
number_below n k m h i =
    let next : 256 ^ suc k ≡ 256 * 256 ^ k = grind arith in
    let p : 256 ^ (k + 1) ≡ 256 * 256 ^ k = ap (λ j. 256 ^ j) (add-one k) ∙ next in
    omega (arith, h, i, p)

-- ---- one byte more

first_from : (bs : List Byte7) (at : ℕ) (d : Byte7) → at < length bs → contents_from bs at ≡ content_view (get_or bs at d).content ∷ contents_from bs (at + 1)
first_from bs at d h = ap (λ z. contents (bytes_view z)) (drop_more bs at d h)

above : (k n : ℕ) (own s : Labels) (o : Option (List Labelled)) → Some (n, s) ≡ digits_of o → Some (k + 256 * n, labels_join own s) ≡ digits_of (and_number (number k own) o)
above k n own s None e = absurd (none-some _ (sym e))
above k n own s (Some ms) e =
    let parts = some_pair_parts n (unsigned_of ms) s (joined_labels ms) e in
    ap (λ m. Some (k + 256 * m, labels_join own s)) parts.0 ∙ ap (λ l. Some (k + 256 * unsigned_of ms, labels_join own l)) parts.1

pub digits_more : (bs : List Byte7) (at : ℕ) (d : Byte7) (k n : ℕ) (own s : Labels) → at < length bs → content_view (get_or bs at d).content ≡ number k own → Some (n, s) ≡ digits_of (numbers_in (contents_from bs (at + 1))) → Some (k + 256 * n, labels_join own s) ≡ digits_of (numbers_in (contents_from bs at))
digits_more bs at d k n own s h is e =
    above k n own s (numbers_in (contents_from bs (at + 1))) e
    ∙ sym (ap (λ cs. digits_of (numbers_in cs)) (first_from bs at d h) ∙ ap (λ c. digits_of (and_number c (numbers_in (contents_from bs (at + 1))))) is)

pub digits_end : (bs : List Byte7) → Some (0, no_labels) ≡ digits_of (numbers_in (contents_from bs (length bs)))
digits_end bs = sym (ap (λ z. digits_of (numbers_in (contents (bytes_view z)))) (drop_all (length bs) bs (omega arith)))

-- ---- a byte that is no number

not_behind : (c : Content) → and_number c None ≡ None
not_behind indeterminate = refl
not_behind (number n labels) = refl
not_behind (part p k) = refl

none_before : (bs : List Byte7) (at : ℕ) → numbers_in (contents_from bs at) ≡ None → numbers_in (contents (bytes_view bs)) ≡ None
none_before bs zero e = e
none_before [] (suc at) e = e
none_before (b ∷ bs) (suc at) e = ap (and_number (content_view b.content)) (none_before bs at e) ∙ not_behind (content_view b.content)

not_number : (c : Content7) → ((k : ℕ) (own : LabelSet) → c ≡ content.Number k own → ⊥) → (o : Option (List Labelled)) → and_number (content_view c) o ≡ None
not_number content.Blank other o = refl
not_number (content.Number k own) other o = absurd (other k own refl)
not_number (content.Part p k) other o = refl

pub digits_none : (bs : List Byte7) (at : ℕ) (d : Byte7) → at < length bs → ((k : ℕ) (own : LabelSet) → (get_or bs at d).content ≡ content.Number k own → ⊥) → None ≡ digits_of (numbers_in (contents (bytes_view bs)))
digits_none bs at d h other = sym (ap digits_of (none_before bs at (ap numbers_in (first_from bs at d h) ∙ not_number (get_or bs at d).content other (numbers_in (contents_from bs (at + 1))))))
