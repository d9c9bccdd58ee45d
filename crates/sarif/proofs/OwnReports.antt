-- Behind the report of diagnostics none of them is fresh.
use Rattle.std.proofs.Common.{◌≡◌, ◌<◌, ℕ, zero, suc, Bool, true, false, cond, not, ◌||◌, List, [], ◌∷◌, ◌++◌, length, map, Some, slice_get, bytes_eq, refl, ap, ◌∙◌, subst, arith, append_assoc, All}
use Rattle.std.proofs.lemmas.Bool.{eq-eqb}
use Rattle.std.proofs.lemmas.List.Elements.{All-head, All-tail}
use Rattle.cc_base.specs.DiagnosticOrder.{rule_rank}
use Rattle.cc_base.specs.declared.diagnostics.Diag.{Diag}
use Rattle.sarif.specs.declared.known_results.Known.{Known}
use Rattle.sarif.specs.Uris.{Bytes}
use Rattle.sarif.specs.Reports.{name_of}
use Rattle.sarif.specs.Comparing.{is_at, holds, is_known, fresh_of}
use Rattle.sarif.specs.Laws.{IsOfList, known_result}

same_bytes : (xs : Bytes) → bytes_eq xs xs ≡ true
same_bytes [] = refl
same_bytes (x ∷ xs) = rw (eq-eqb x x refl) (same_bytes xs)

-- a known result is at its own place
own_place : (k : Known) → is_at k k.file k.line k.col k.rule ≡ true
own_place k = rw (same_bytes k.file, eq-eqb k.line k.line refl, eq-eqb k.col k.col refl, eq-eqb (rule_rank k.rule) (rule_rank k.rule) refl) refl

or_true : (b : Bool) → (b || true) ≡ true
or_true true = refl
or_true false = refl

named : (names : List Bytes) (file : ℕ) → file < length names → slice_get names file ≡ Some (name_of names file)
named [] file h = absurd (omega arith)
named (name ∷ names) zero h = refl
named (name ∷ names) (suc file) h = named names file (omega arith)

holds_there : (names : List Bytes) (before after : List Diag) (d : Diag) → holds (map (known_result names) (before ++ d ∷ after)) (name_of names d.place.file) d.place.line d.place.col d.rule ≡ true
holds_there names [] after d =
    ap (λ b. b || holds (map (known_result names) after) (name_of names d.place.file) d.place.line d.place.col d.rule) (own_place (known_result names d))
holds_there names (b ∷ before) after d =
    ap (λ r. is_at (known_result names b) (name_of names d.place.file) d.place.line d.place.col d.rule || r) (holds_there names before after d)
    ∙ or_true (is_at (known_result names b) (name_of names d.place.file) d.place.line d.place.col d.rule)

known_there : (names : List Bytes) (before after : List Diag) (d : Diag) → IsOfList names d → is_known names (map (known_result names) (before ++ d ∷ after)) d ≡ true
known_there names before after d h = rw (named names d.place.file h) (holds_there names before after d)

none_fresh : (names : List Bytes) (before after : List Diag) → All (IsOfList names) after → fresh_of names (map (known_result names) (before ++ after)) after ≡ []
none_fresh names before [] h = refl
none_fresh names before (d ∷ ds) h =
    ap (λ b. cond (not b) (d ∷ fresh_of names (map (known_result names) (before ++ d ∷ ds)) ds) (fresh_of names (map (known_result names) (before ++ d ∷ ds)) ds)) (known_there names before ds d (All-head (IsOfList names) d ds h))
    ∙ subst (λ l. fresh_of names (map (known_result names) l) ds ≡ []) (append_assoc before (d ∷ []) ds) (none_fresh names (before ++ d ∷ []) ds (All-tail (IsOfList names) d ds h))

pub none_is_fresh : (names : List Bytes) (ds : List Diag) → All (IsOfList names) ds → fresh_of names (map (known_result names) ds) ds ≡ []
none_is_fresh names ds h = none_fresh names [] ds h
