-- Where labels lead.
use Rattle.std.proofs.Common.{◌≡◌, ◌≤◌, ℕ, ◌+◌, ◌==◌, Bool, true, false, cond, List, [], ◌∷◌, ◌++◌, Some, refl, arith, ap, sym, subst}
use Rattle.std.proofs.lemmas.Bool.{eq-eqb}
use Rattle.lower_templates.specs.Worklist.Pieces.{PieceView, Do, DoIfUsed, End, Mark, Call}
use Rattle.lower_template_theorems.specs.PendingLabels.Marks.{one, all_marked}
use Rattle.semantics.specs.TemplateMachine.TemplateExits.{behind_mark}
use Rattle.simulation_terms.specs.SimulationRelation.Activations.{Activation}
use Rattle.simulation_terms.specs.SimulationRelation.Simulates.{Leads, pieces}
use Rattle.simulation_terms.specs.Worklists.TemplateParts.{Stands}

here : (l : ℕ) (ps : List PieceView) → behind_mark l (Mark l ∷ ps) ≡ Some ps
here l ps = ap (λ b. cond b (Some ps) (behind_mark l ps)) (eq-eqb l l refl)

one_here : (l : ℕ) → one l l ≡ 1
one_here l = ap (λ b. cond b 1 0) (eq-eqb l l refl)

marked_there : (l : ℕ) (front ps : List PieceView) → 1 ≤ all_marked l (front ++ Mark l ∷ ps)
marked_there l [] ps = let e = one_here l in omega (arith, e)
marked_there l (p ∷ front) ps = let le = marked_there l front ps in omega (arith, le)

too_many : (k : ℕ) → 1 ≤ k → 1 + k ≤ 1 → ⊥
too_many k a b = omega (arith, a, b)

fewer : (k : ℕ) → 0 + k ≤ 1 → k ≤ 1
fewer k a = omega (arith, a)

-- a mark before that of the label is another one
behind_other : (l m : ℕ) (front ps : List PieceView) → one l m + all_marked l (front ++ Mark l ∷ ps) ≤ 1 → (all_marked l (front ++ Mark l ∷ ps) ≤ 1 → behind_mark l (front ++ Mark l ∷ ps) ≡ Some ps) → behind_mark l (Mark m ∷ (front ++ Mark l ∷ ps)) ≡ Some ps
behind_other l m front ps once later = by (l == m) once
  where
    by : (b : Bool) → cond b 1 0 + all_marked l (front ++ Mark l ∷ ps) ≤ 1 → cond b (Some (front ++ Mark l ∷ ps)) (behind_mark l (front ++ Mark l ∷ ps)) ≡ Some ps
    by true more = absurd (too_many _ (marked_there l front ps) more)
    by false more = later (fewer _ more)

found : (l : ℕ) (front ps : List PieceView) → all_marked l (front ++ Mark l ∷ ps) ≤ 1 → behind_mark l (front ++ Mark l ∷ ps) ≡ Some ps
found l [] ps once = here l ps
found l (Do s ∷ front) ps once = found l front ps (omega (arith, once))
found l (DoIfUsed s ∷ front) ps once = found l front ps (omega (arith, once))
found l (End s exits ∷ front) ps once = found l front ps (omega (arith, once))
found l (Call c ∷ front) ps once = found l front ps (omega (arith, once))
found l (Mark m ∷ front) ps once = behind_other l m front ps once (found l front ps)

-- a label leads behind its mark
pub leads : (t : Activation) (l : ℕ) (ps : List PieceView) → all_marked l (pieces t) ≤ 1 → Stands t (Mark l ∷ ps) → Leads t l ps
leads t l ps once stands = subst (λ xs. behind_mark l xs ≡ Some ps) (sym stands.all) (found l stands.front ps (subst (λ xs. all_marked l xs ≤ 1) stands.all once))
