-- Ends of comparisons, and texts with zeros behind them.
use Rattle.std.proofs.Common.{◌≡◌, ℕ, zero, suc, pos, ◌≤◌, ◌⊎◌, ⊎_elim, List, [], ◌∷◌, ◌++◌, length, take, drop, replicate, refl, sym, ap, ◌∙◌}
use Rattle.std.proofs.lemmas.List.{drop_all, map-append}
use Rattle.memory_model.specs.Memory.Labels.{no_labels}
use Rattle.memory_model.specs.Memory.Bytes.{Content, number, Byte}
use Rattle.memory_model.specs.Effects.ScalarBytes.{contents}
use Rattle.memory_model.specs.Effects.StringCalls.{order_in}
use Rattle.interp_memory.specs.ByteViews.{bytes_view, content_view, contents_view}
use Rattle.interp_memory.specs.declared.byte_forms.Byte7.{Byte7}
use Rattle.interp_memory.specs.declared.byte_forms.Content7.{Content7}

order_none : (cs : List Content) → order_in cs [] ≡ pos 0
order_none [] = refl
order_none (c ∷ cs) = refl

-- behind the end of one of two texts nothing differs
pub order_end : (a b : List Byte7) (k : ℕ) → (length a ≤ k) ⊎ (length b ≤ k) → order_in (contents (bytes_view (drop k a))) (contents (bytes_view (drop k b))) ≡ pos 0
order_end a b k e =
    ⊎_elim
    (λ (all : length a ≤ k). ap (λ z. order_in (contents (bytes_view z)) (contents (bytes_view (drop k b)))) (drop_all k a all))
    (λ (all : length b ≤ k). ap (λ z. order_in (contents (bytes_view (drop k a))) (contents (bytes_view z))) (drop_all k b all) ∙ order_none (contents (bytes_view (drop k a))))
    e

take_again : (n : ℕ) (bytes : List Byte) → take n (contents (take n bytes)) ≡ contents (take n bytes)
take_again zero bytes = refl
take_again (suc n) [] = refl
take_again (suc n) (b ∷ bytes) = ap (λ cs. b.content ∷ cs) (take_again n bytes)

contents_repeated : (n : ℕ) (c : Content7) → contents_view (replicate n c) ≡ replicate n (content_view c)
contents_repeated zero c = refl
contents_repeated (suc n) c = ap (λ cs. content_view c ∷ cs) (contents_repeated n c)

-- a text of so many bytes, and zeros
pub padded_items : (new text slice zeros : List Content7) (bytes : List Byte) (n k m : ℕ) (z : Content7) → new ≡ text ++ slice → slice ≡ zeros → zeros ≡ replicate k z → k ≡ m → content_view z ≡ number 0 no_labels → contents_view text ≡ contents (take n bytes) → contents_view new ≡ take n (contents (take n bytes)) ++ replicate m (number 0 no_labels)
padded_items new text slice zeros bytes n k m z all same made count is read =
    ap contents_view all
    ∙ map-append content_view text slice
    ∙ ap (λ cs. cs ++ contents_view slice) (read ∙ sym (take_again n bytes))
    ∙ ap (λ cs. take n (contents (take n bytes)) ++ cs) (ap contents_view (same ∙ made) ∙ contents_repeated k z ∙ ap (λ j. replicate j (content_view z)) count ∙ ap (λ c. replicate m c) is)
