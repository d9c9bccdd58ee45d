-- Pieces are settled one after another.
use Rattle.std.proofs.Common.{◌≡◌, List, [], ◌∷◌, ◌++◌, Option, map, refl, ap, sym, subst, ◌∙◌}
use Rattle.std.proofs.lemmas.List.{map-append}
use Rattle.lower_templates.specs.Worklist.Pieces.{PieceView}
use Rattle.lower_objects.specs.declared.counts.function_counts.FunctionCounts.{FunctionCounts}
use Rattle.lower_tables.specs.Counts.NormalizedTemplates.{NamesView, SettlingView, with_if, with_all, nothing_normalized}

pub one_more : (table : List (Option FunctionCounts)) (n : NamesView) (ps : List PieceView) (p : PieceView) (g : SettlingView) → with_all table n (ps ++ p ∷ []) g ≡ with_if table n p (with_all table n ps g)
one_more table n [] p g = refl
one_more table n (q ∷ ps) p g = one_more table n ps p (with_if table n q g)

-- the next piece of a list
pub normalized_on : (table : List (Option FunctionCounts)) (n : NamesView) (ps : List PieceView) (p : PieceView) (g h : SettlingView) → g ≡ with_all table n ps nothing_normalized → h ≡ with_if table n p g → h ≡ with_all table n (ps ++ p ∷ []) nothing_normalized
normalized_on table n ps p g h before e = e ∙ ap (λ k. with_if table n p k) before ∙ sym (one_more table n ps p nothing_normalized)

-- the same, of what a list is seen as
pub normalized_next : {P : Type 0} (view : P → PieceView) (table : List (Option FunctionCounts)) (n : NamesView) (qs : List P) (q : P) (g h : SettlingView) → g ≡ with_all table n (map view qs) nothing_normalized → h ≡ with_if table n (view q) g → h ≡ with_all table n (map view (qs ++ q ∷ [])) nothing_normalized
normalized_next view table n qs q g h before e =
    subst (λ l. h ≡ with_all table n l nothing_normalized) (sym (map-append view qs (q ∷ []))) (normalized_on table n (map view qs) (view q) g h before e)
