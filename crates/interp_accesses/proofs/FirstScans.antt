-- One step of a scan of the first so many bytes.
use Rattle.std.proofs.Common.{◌≡◌, ◌≢◌, ℕ, zero, suc, ◌+◌, ◌-◌, ◌<◌, List, ◌∷◌, length, drop, get_or, refl, ap, ◌∙◌, arith}
use Rattle.std.proofs.lemmas.List.{drop_more}
use Rattle.memory_model.specs.Memory.Labels.{Labels}
use Rattle.memory_model.specs.Memory.Bytes.{Content, indeterminate, number, part}
use Rattle.memory_model.specs.Effects.LibraryChecks.{Scanned, ends, unended, broken, scanned_first}
use Rattle.memory_model.specs.Effects.ScalarBytes.{contents}
use Rattle.interp_memory.specs.ByteViews.{bytes_view, content_view}
use Rattle.interp_memory.specs.declared.byte_forms.Byte7.{Byte7}
use Rattle.interp_accesses.specs.Scans.{behind_characters, scan_step}

by_content : (m : ℕ) (c : Content) (cs : List Content) → scanned_first (suc m) (c ∷ cs) ≡ scan_step c (scanned_first m cs)
by_content m indeterminate cs = refl
by_content m (number zero labels) cs = refl
by_content m (number (suc n) labels) cs = refl
by_content m (part p k) cs = refl

pub first_more : (size k : ℕ) (c : Content) (cs : List Content) → k < size → scanned_first (size - k) (c ∷ cs) ≡ scan_step c (scanned_first (size - (k + 1)) cs)
first_more size k c cs h =
    let e : size - k ≡ suc (size - (k + 1)) = omega arith in
    ap (λ n. scanned_first n (c ∷ cs)) e ∙ by_content (size - (k + 1)) c cs

-- the same of the bytes of a program
pub first_at : (bytes : List Byte7) (size k : ℕ) (d : Byte7) → k < length bytes → k < size → behind_characters k (scanned_first (size - k) (contents (bytes_view (drop k bytes)))) ≡ behind_characters k (scan_step (content_view (get_or bytes k d).content) (scanned_first (size - (k + 1)) (contents (bytes_view (drop (k + 1) bytes)))))
first_at bytes size k d h i =
    ap (λ bs. behind_characters k (scanned_first (size - k) (contents (bytes_view bs)))) (drop_more bytes k d h)
    ∙ ap (behind_characters k) (first_more size k (content_view (get_or bytes k d).content) (contents (bytes_view (drop (k + 1) bytes))) i)

-- a character that is no zero leads on
pub character_more : (k n : ℕ) (labels : Labels) (later : Scanned) → n ≢ 0 → behind_characters k (scan_step (number n labels) later) ≡ behind_characters (k + 1) later
character_more k zero labels later h = absurd (h refl)
character_more k (suc n) labels (ends m) h = ap ends (omega arith)
character_more k (suc n) labels unended h = refl
character_more k (suc n) labels broken h = refl
