-- Uris, byte by byte.
use Rattle.std.proofs.Common.{◌≡◌, ℕ, [], ◌∷◌, ◌++◌, ◌∙◌, ap, sym, Option, Some, None, option_map, append_assoc}
use Rattle.sarif.specs.Uris.{Bytes}

-- one more byte of a uri is decoded
pub uri_grows : (old new : Bytes) (byte : ℕ) (rest more whole : Option Bytes) → new ≡ old ++ byte ∷ [] → rest ≡ option_map (λ b. byte ∷ b) more → option_map (λ b. old ++ b) rest ≡ whole → option_map (λ b. new ++ b) more ≡ whole
uri_grows old new byte rest None whole n r w = ap (option_map (λ b. old ++ b)) (sym r) ∙ w
uri_grows old new byte rest (Some bytes) whole n r w =
    ap (λ x. Some (x ++ bytes)) n ∙ ap Some (append_assoc old (byte ∷ []) bytes) ∙ ap (option_map (λ b. old ++ b)) (sym r) ∙ w
