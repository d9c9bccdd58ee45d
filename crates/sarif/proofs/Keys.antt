-- The keys of known results.
use Rattle.std.proofs.Common.{◌≡◌, ◌==◌, ◌&&◌, ◌||◌, Bool, true, false, cond, List, ◌∷◌, sym, ap, ◌∙◌, bytes_eq}
use Rattle.std.specs.BTreeSet.{BTreeSet, contains}
use Rattle.std.specs.Ordering.{is_eq}
use Rattle.std.specs.Cmp.{both_tied, unsigned_ties}
use Rattle.std.specs.Cmp.Lexicographic.{texts_ties}
use Rattle.cc_base.specs.DiagnosticOrder.{rule_rank}
use Rattle.cc_base.proofs.RuleOrder.{ranks_tie}
use Rattle.sarif.specs.contracts.fresh_diagnostics.KeyOrd.TheImpl as order
use Rattle.sarif.specs.declared.fresh_diagnostics.Key.{Key}
use Rattle.sarif.specs.declared.known_results.Known.{Known}
use Rattle.sarif.specs.Comparing.{is_at, holds}
use Rattle.sarif.specs.Keys.{IsKey}

-- two keys tie where their parts are the same
ties : (x y : Key) → (bytes_eq x.file.items y.file.items && ((x.line == y.line) && ((x.col == y.col) && (rule_rank x.rule == rule_rank y.rule)))) ≡ is_eq ((order.cmp-value).it x y)
ties x y =
    both_tied _ _ _ _ (texts_ties x.file.items y.file.items)
    (both_tied _ _ _ _ (unsigned_ties x.line y.line)
    (both_tied _ _ _ _ (unsigned_ties x.col y.col) (ranks_tie x.rule y.rule)))

-- the key of a known result ties with the keys of its parts
key_ties : (key other : Key) (known : Known) → IsKey key known.file known.line known.col known.rule → is_eq ((order.cmp-value).it key other) ≡ is_at known other.file.items other.line other.col other.rule
key_ties key other known h =
    sym (ties key other) ∙ ap (λ f. bytes_eq f other.file.items && ((key.line == other.line) && ((key.col == other.col) && (rule_rank key.rule == rule_rank other.rule)))) h.file_is
    ∙ ap (λ n. bytes_eq known.file other.file.items && ((n == other.line) && ((key.col == other.col) && (rule_rank key.rule == rule_rank other.rule)))) h.line_is
    ∙ ap (λ n. bytes_eq known.file other.file.items && ((known.line == other.line) && ((n == other.col) && (rule_rank key.rule == rule_rank other.rule)))) h.col_is
    ∙ ap (λ r. bytes_eq known.file other.file.items && ((known.line == other.line) && ((known.col == other.col) && (rule_rank r == rule_rank other.rule)))) h.rule_is

one_more : (tied old new rest : Bool) → new ≡ cond tied true old → (new || rest) ≡ (old || (tied || rest))
one_more true true new rest n = ap (λ b. b || rest) n
one_more true false new rest n = ap (λ b. b || rest) n
one_more false true new rest n = ap (λ b. b || rest) n
one_more false false new rest n = ap (λ b. b || rest) n

-- one more key in the set, one less known result to come
pub keys_grow : (old new : BTreeSet Key) (key other : Key) (known : Known) (rest all : List Known) → IsKey key known.file known.line known.col known.rule
    → contains (order.cmp-value).it new other ≡ cond (is_eq ((order.cmp-value).it key other)) true (contains (order.cmp-value).it old other)
    → (contains (order.cmp-value).it old other || holds (known ∷ rest) other.file.items other.line other.col other.rule) ≡ holds all other.file.items other.line other.col other.rule
    → (contains (order.cmp-value).it new other || holds rest other.file.items other.line other.col other.rule) ≡ holds all other.file.items other.line other.col other.rule
keys_grow old new key other known rest all h u w =
    one_more _ (contains (order.cmp-value).it old other) _ (holds rest other.file.items other.line other.col other.rule) (u ∙ ap (λ b. cond b true (contains (order.cmp-value).it old other)) (key_ties key other known h)) ∙ w
