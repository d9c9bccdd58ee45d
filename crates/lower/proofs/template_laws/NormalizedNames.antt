-- Pieces that are settled name the same bases.
use Rattle.std.proofs.Common.{◌≡◌, Bool, true, false, cond, List, [], ◌∷◌, ◌++◌, Option, ℕ, refl, ap, sym, subst, ◌∙◌, append_assoc}
use Rattle.std.proofs.lemmas.List.{append-nil}
use Rattle.lower_templates.specs.Worklist.Pieces.{ExitView, PieceView, Do, DoIfUsed, End, Mark, Call, TemplateView}
use Rattle.lower_objects.specs.declared.counts.function_counts.FunctionCounts.{FunctionCounts}
use Rattle.lower_tables.specs.Counts.NormalizedTemplates.{NamesView, SettlingView, adds_nothing, renamed, renamed_exits, renamed_end, is_last, with_renamed, with_if, with_all, nothing_normalized, renaming, normalized}
use Rattle.lower.specs.TemplateLaws.NamedBases.{named_by, named_on_way, named_on_exits, named_in, named_in_all, AllBelow, sites_named, AreNamed}
use Rattle.lower.proofs.template_laws.NamedLists.{all_append}

same_exits : (n : NamesView) (es : List ExitView) → named_on_exits (renamed_exits n es) ≡ named_on_exits es
same_exits n [] = refl
same_exits n (e ∷ es) = ap (λ ns. named_on_way e.taken ++ ns) (same_exits n es)

one_named : (ps : List PieceView) (q : PieceView) → named_in_all (ps ++ q ∷ []) ≡ named_in_all ps ++ named_in q
one_named ps q = all_append ps (q ∷ []) ∙ ap (λ ns. named_in_all ps ++ ns) (append-nil (named_in q))

either_named : (b : Bool) (g h : SettlingView) (ns : List ℕ) → named_in_all g.pieces ≡ ns → named_in_all h.pieces ≡ ns → named_in_all (cond b g h).pieces ≡ ns
either_named true g h ns p q = p
either_named false g h ns p q = q

renamed_named : (n : NamesView) (p : PieceView) (g : SettlingView) → named_in_all (with_renamed n p g).pieces ≡ named_in_all g.pieces ++ named_in p
renamed_named n (Do s) g = one_named g.pieces (Do s)
renamed_named n (DoIfUsed s) g = one_named g.pieces (DoIfUsed s)
renamed_named n (End s exits) g = one_named g.pieces (renamed_end n s exits) ∙ ap (λ ns. named_in_all g.pieces ++ (named_by s.does ++ ns)) (same_exits n exits)
renamed_named n (Mark label) g =
    either_named (is_last g.last (renamed n label)) g _ (named_in_all g.pieces ++ []) (sym (append-nil (named_in_all g.pieces))) (one_named g.pieces (Mark (renamed n label)))
renamed_named n (Call c) g = one_named g.pieces (Call c)

-- what is left out names nothing
nothing_named : (table : List (Option FunctionCounts)) (p : PieceView) → adds_nothing table p ≡ true → named_in p ≡ []
nothing_named table (Do s) is = cc
nothing_named table (DoIfUsed s) is = cc
nothing_named table (End s exits) is = cc
nothing_named table (Mark label) is = refl
nothing_named table (Call c) is = refl

if_named : (table : List (Option FunctionCounts)) (n : NamesView) (p : PieceView) (g : SettlingView) → named_in_all (with_if table n p g).pieces ≡ named_in_all g.pieces ++ named_in p
unfolding with_if
if_named table n p g = by_silent (adds_nothing table p) refl
  where
    by_silent : (b : Bool) → adds_nothing table p ≡ b → named_in_all (cond b g (with_renamed n p g)).pieces ≡ named_in_all g.pieces ++ named_in p
    by_silent true out = sym (append-nil (named_in_all g.pieces)) ∙ ap (λ ns. named_in_all g.pieces ++ ns) (sym (nothing_named table p out))
    by_silent false kept = renamed_named n p g

all_named : (table : List (Option FunctionCounts)) (n : NamesView) (ps : List PieceView) (g : SettlingView) → named_in_all (with_all table n ps g).pieces ≡ named_in_all g.pieces ++ named_in_all ps
all_named table n [] g = sym (append-nil (named_in_all g.pieces))
all_named table n (p ∷ ps) g = all_named table n ps (with_if table n p g) ∙ ap (λ ns. ns ++ named_in_all ps) (if_named table n p g) ∙ append_assoc (named_in_all g.pieces) (named_in p) (named_in_all ps)

same_named : (table : List (Option FunctionCounts)) (t : TemplateView) → named_in_all (normalized table t).pieces ≡ named_in_all t.pieces
same_named table t = all_named table (renaming table t.pieces t.labels) t.pieces nothing_normalized

pub normalized_named : (table : List (Option FunctionCounts)) (t : TemplateView) → AreNamed t → AreNamed (normalized table t)
normalized_named table t is = record {
  below = subst (AllBelow _) (sym (same_named table t)) is.below;
  sites = λ w. ap (sites_named w t.names) (same_named table t) ∙ is.sites w;
}
