-- Texts as contents.
use Rattle.std.proofs.Common.{◌≡◌, ℕ, ◌+◌, ◌<◌, List, [], ◌∷◌, ◌++◌, length, map, take, get_or, refl, sym, ap, ◌∙◌}
use Rattle.std.proofs.lemmas.List.{take_more, map-append, take-map}
use Rattle.memory_model.specs.Memory.Labels.{no_labels}
use Rattle.memory_model.specs.Memory.Bytes.{Content, number}
use Rattle.memory_model.specs.Effects.ObjectEffects.{characters}
use Rattle.interp_memory.specs.ByteViews.{content_view, contents_view}
use Rattle.interp_memory.specs.declared.byte_forms.Content7.{Content7}

pub contents_more : (xs : List Content7) (x : Content7) → contents_view (xs ++ x ∷ []) ≡ contents_view xs ++ content_view x ∷ []
contents_more xs x = map-append content_view xs (x ∷ [])

-- a character more
pub character_more : (text : List ℕ) (k : ℕ) (xs : List Content7) (x : Content7) → k < length text → contents_view xs ≡ characters (take k text) → content_view x ≡ number (get_or text k 0) no_labels → contents_view (xs ++ x ∷ []) ≡ characters (take (k + 1) text)
character_more text k xs x h e is =
    contents_more xs x
    ∙ ap (λ cs. cs ++ content_view x ∷ []) e
    ∙ ap (λ c. characters (take k text) ++ c ∷ []) is
    ∙ sym (map-append (λ c. number c no_labels) (take k text) (get_or text k 0 ∷ []))
    ∙ ap characters (sym (take_more text k 0 h))

-- a text that is cut
pub text_cut : (text : List Content) (room : ℕ) (xs ys zs : List Content7) (zero : Content7) → contents_view xs ≡ text → content_view zero ≡ number 0 no_labels → ys ≡ xs ++ zero ∷ [] → zs ≡ take room ys → contents_view zs ≡ take room (text ++ number 0 no_labels ∷ [])
text_cut text room xs ys zs zero e is made cut =
    ap contents_view (cut ∙ ap (take room) made)
    ∙ sym (take-map content_view room (xs ++ zero ∷ []))
    ∙ ap (take room) (contents_more xs zero ∙ ap (λ cs. cs ++ content_view zero ∷ []) e ∙ ap (λ c. text ++ c ∷ []) is)
