-- A calm template is so when it is settled.
use Rattle.std.proofs.Common.{◌≡◌, ◌⊎◌, inl, inr, ℕ, ◌+◌, ◌-◌, Bool, true, false, cond, List, [], ◌∷◌, length, Option, refl, arith, ap, sym, subst, ◌∙◌}
use Rattle.lower_templates.specs.Worklist.Pieces.{ExitView, PieceView, Do, DoIfUsed, End, Mark, Call, TemplateView}
use Rattle.lower_objects.specs.declared.counts.function_counts.FunctionCounts.{FunctionCounts}
use Rattle.lower_tables.specs.Counts.NormalizedTemplates.{NamesView, is_silent, with_begun, with_label, with_other, with_piece, with_pieces, no_names, renamed, renamed_exits, renamed_end, normalized}
use Rattle.lower_template_theorems.specs.PendingLabels.Marks.{one}
use Rattle.typed_programs.specs.PlainWorklists.LeadingPieces.{AllTo, Marked, NoLabel}
use Rattle.simulation_layout.proofs.normalized.NormalizedPieces.{from, Once, number_of_next, once_next, own, all_once, normalized_from}
use Rattle.typed_lowering.specs.LoopedUnits.CalmTemplates.{IsMarkedIn, IsCalm}
use Rattle.typed_lowering.proofs.starts.NormalizedKnowledge.{true_not, begun_behind, HasLabel, begun_count, piece_has}
use Rattle.typed_lowering.proofs.starts.CalmPieces.{AreCalm, calm_lead, pieces_calm}

module _ (table : List (Option FunctionCounts)) (n : NamesView) where
  -- ---- marks

  -- a number is marked in what is left of pieces, or is that of the label before them
  abbrev Found : NamesView → List PieceView → ℕ → Type 0
  Found m ps r = Marked (from table n m.count m.is_behind ps) NoLabel r ⊎ ((m.is_behind ≡ true) × (m.count ≡ r + 1))

  over : (m : NamesView) (p : PieceView) (ps : List PieceView) (r : ℕ) → Found (with_other false m) ps r → Marked (p ∷ from table n m.count false ps) NoLabel r
  over m p ps r (inl is) = inr is
  over m p ps r (inr (now, is)) = true_not now

  over_mark : (l : ℕ) (ps : List PieceView) (r : ℕ) (to : List ℕ) (k : ℕ) (b : Bool) → Found (with_begun (record { to = to; count = k; is_behind = b })) ps r → Found (record { to = to; count = k; is_behind = b }) (Mark l ∷ ps) r
  over_mark l ps r to k true is = is
  over_mark l ps r to k false (inl is) = inl (inr is)
  over_mark l ps r to k false (inr (now, is)) = inl (inl (omega (arith, is)))

  found : (l : ℕ) (ps : List PieceView) (m : NamesView) → n ≡ with_pieces table ps m → Once (length m.to) ps → HasLabel m → Marked ps NoLabel l → Found m ps (renamed n l)
  found l [] m e once has is = absurd is
  found l (Do s ∷ ps) m e once has (inl is) = absurd is
  found l (Do s ∷ ps) m e once has (inr is) = inl (over m (Do s) ps (renamed n l) (found l ps (with_other false m) e (once_next table (Do s) ps m once) (λ b. true_not b) is))
  found l (DoIfUsed s ∷ ps) m e once has (inl is) = absurd is
  found l (DoIfUsed s ∷ ps) m e once has (inr is) = inl (over m (DoIfUsed s) ps (renamed n l) (found l ps (with_other false m) e (once_next table (DoIfUsed s) ps m once) (λ b. true_not b) is))
  found l (End s exits ∷ ps) m e once has (inl is) = absurd is
  found l (End s exits ∷ ps) m e once has (inr is) = inl (over m (renamed_end n s exits) ps (renamed n l) (found l ps (with_other false m) e (once_next table (End s exits) ps m once) (λ b. true_not b) is))
  found l (Mark j ∷ ps) m e once has (inl is) =
      let number : renamed n l ≡ (with_begun m).count - 1 = ap (λ i. renamed n i) is ∙ (ap (λ y. renamed y j) e ∙ number_of_next table j ps m once) in
      over_mark j ps (renamed n l) m.to m.count m.is_behind (inr (begun_behind m, begun_count m has ∙ ap (λ i. i + 1) (sym number)))
  found l (Mark j ∷ ps) m e once has (inr is) = over_mark j ps (renamed n l) m.to m.count m.is_behind (found l ps (with_label j m) e (once_next table (Mark j) ps m once) (piece_has table (Mark j) m has) is)
  found l (Call c ∷ ps) m e once has (inl is) = absurd is
  found l (Call c ∷ ps) m e once has (inr is) = by (is_silent table c.function) (found l ps (with_piece table (Call c) m) e (once_next table (Call c) ps m once) (piece_has table (Call c) m has) is)
    where
      by : (b : Bool) → Found (with_other b m) ps (renamed n l) → Marked (cond b (from table n m.count m.is_behind ps) (Call c ∷ from table n m.count false ps)) NoLabel (renamed n l) ⊎ ((m.is_behind ≡ true) × (m.count ≡ renamed n l + 1))
      by true there = there
      by false there = inl (over m (Call c) ps (renamed n l) there)

  -- ---- edges

  module _ (calls : ℕ → Bool) (L M : ℕ → Type 0) (to_marked : (l : ℕ) → L l → M (renamed n l)) where
    exits_to : (es : List ExitView) → AllTo L es → AllTo M (renamed_exits n es)
    exits_to [] all = tt
    exits_to (x ∷ es) (to, all) = (to_marked x.to to, exits_to es all)

    calm_from : (ps : List PieceView) (k : ℕ) (b : Bool) → AreCalm calls L ps → AreCalm calls M (from table n k b ps)
    calm_from [] k b calm = tt
    calm_from (Do s ∷ ps) k b (one, calm) = (one, calm_from ps k false calm)
    calm_from (DoIfUsed s ∷ ps) k b (one, calm) = (one, calm_from ps k false calm)
    calm_from (End s exits ∷ ps) k b ((plain, to), calm) = ((plain, exits_to exits to), calm_from ps k false calm)
    calm_from (Mark l ∷ ps) k true (one, calm) = calm_from ps k true calm
    calm_from (Mark l ∷ ps) k false (one, calm) = (tt, calm_from ps (k + 1) true calm)
    calm_from (Call c ∷ ps) k b (one, calm) = by (is_silent table c.function) (calm_from ps k b calm) (calm_from ps k false calm)
      where
        by : (s : Bool) → AreCalm calls M (from table n k b ps) → AreCalm calls M (from table n k false ps) → AreCalm calls M (cond s (from table n k b ps) (Call c ∷ from table n k false ps))
        by true out kept = out
        by false out kept = (one, kept)

-- ---- whole templates

module _ (table : List (Option FunctionCounts)) (t : TemplateView) (once : Once t.labels t.pieces) where
  normalized_marks : (l : ℕ) → IsMarkedIn t l → IsMarkedIn (normalized table t) (renamed (own table t once) l)
  normalized_marks l is = by (found table (own table t once) l t.pieces (no_names t.labels) refl (all_once table t once) (λ b. true_not b) is)
    where
      by : Found table (own table t once) (no_names t.labels) t.pieces (renamed (own table t once) l) → IsMarkedIn (normalized table t) (renamed (own table t once) l)
      by (inl there) = subst (λ ps. Marked ps NoLabel (renamed (own table t once) l)) (sym (normalized_from table t once)) there
      by (inr (now, there)) = true_not now

  pub normalized_calm : (calls : ℕ → Bool) → IsCalm calls t → IsCalm calls (normalized table t)
  normalized_calm calls calm = record {
    pieces = calm_lead calls (IsMarkedIn (normalized table t)) (normalized table t).pieces (subst (λ ps. AreCalm calls (IsMarkedIn (normalized table t)) ps) (sym (normalized_from table t once))
        (calm_from table (own table t once) calls (IsMarkedIn t) (IsMarkedIn (normalized table t)) normalized_marks t.pieces 0 false (pieces_calm calls t calm)));
    names = calm.names;
  }
