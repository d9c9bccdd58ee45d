-- What leads on does so when it is settled, and a settled template marks no label beyond those that it has.
use Rattle.std.proofs.Common.{◌≡◌, ◌≤◌, ◌<◌, ◌⊎◌, inl, inr, ℕ, ◌+◌, ◌-◌, ◌==◌, Bool, true, false, cond, List, [], ◌∷◌, length, Option, Some, refl, arith, ap, sym, subst, ◌∙◌}
use Rattle.std.proofs.lemmas.Bool.{eq-eqb, eqb-true}
use Rattle.lower_templates.specs.Worklist.Pieces.{ExitView, PieceView, Do, DoIfUsed, End, Mark, Call, TemplateView}
use Rattle.lower_objects.specs.declared.counts.function_counts.FunctionCounts.{FunctionCounts}
use Rattle.lower_tables.specs.Counts.NormalizedTemplates.{NamesView, is_silent, with_begun, with_label, with_other, with_piece, with_pieces, no_names, renamed, renamed_exits, normalized}
use Rattle.semantics.specs.TemplateMachine.TemplateExits.{behind_mark}
use Rattle.simulation_layout.specs.Normalized.NormalizedRuns.{LabelsStandOnce}
use Rattle.simulation_layout.proofs.normalized.NormalizedPieces.{from, Once, once_next, Leads, ahead, here, leads, own, all_once, normalized_from}
use Rattle.typed_programs.specs.PlainWorklists.LeadingPieces.{AllTo, Marked, LeadOn, NoLabel, LeadsOn}

-- ---- marks

behind_marked : (ps : List PieceView) (l : ℕ) → Marked ps NoLabel l → (rest : List PieceView) × (behind_mark l ps ≡ Some rest)
behind_marked [] l is = absurd is
behind_marked (Do s ∷ ps) l (inl is) = absurd is
behind_marked (Do s ∷ ps) l (inr is) = behind_marked ps l is
behind_marked (DoIfUsed s ∷ ps) l (inl is) = absurd is
behind_marked (DoIfUsed s ∷ ps) l (inr is) = behind_marked ps l is
behind_marked (End s exits ∷ ps) l (inl is) = absurd is
behind_marked (End s exits ∷ ps) l (inr is) = behind_marked ps l is
behind_marked (Mark m ∷ ps) l (inl is) = (ps, ap (λ b. cond b (Some ps) (behind_mark l ps)) (eq-eqb l m is))
behind_marked (Mark m ∷ ps) l (inr is) = by (l == m) (behind_marked ps l is)
  where
    by : (b : Bool) → (rest : List PieceView) × (behind_mark l ps ≡ Some rest) → (rest : List PieceView) × (cond b (Some ps) (behind_mark l ps) ≡ Some rest)
    by true x = (ps, refl)
    by false x = x
behind_marked (Call c ∷ ps) l (inl is) = absurd is
behind_marked (Call c ∷ ps) l (inr is) = behind_marked ps l is

marked_behind : (ps rest : List PieceView) (l : ℕ) → behind_mark l ps ≡ Some rest → Marked ps NoLabel l
marked_behind [] rest l is = absurd (cc)
marked_behind (Do s ∷ ps) rest l is = inr (marked_behind ps rest l is)
marked_behind (DoIfUsed s ∷ ps) rest l is = inr (marked_behind ps rest l is)
marked_behind (End s exits ∷ ps) rest l is = inr (marked_behind ps rest l is)
marked_behind (Mark m ∷ ps) rest l is = by (l == m) refl is (λ e. marked_behind ps rest l e)
  where
    by : (b : Bool) → (l == m) ≡ b → cond b (Some ps) (behind_mark l ps) ≡ Some rest → (behind_mark l ps ≡ Some rest → Marked ps NoLabel l) → (l ≡ m) ⊎ Marked ps NoLabel l
    by true e is further = inl (eqb-true l m e)
    by false e is further = inr (further is)
marked_behind (Call c ∷ ps) rest l is = inr (marked_behind ps rest l is)

true_not : {A : Type 0} → false ≡ true → A
true_not e = absurd (cc)

begun_again : (m : NamesView) → m.is_behind ≡ true → with_begun m ≡ m
begun_again m b = ap (λ b. cond b m (record { to = m.to; count = m.count + 1; is_behind = true })) b

begun_new : (m : NamesView) → m.is_behind ≡ false → with_begun m ≡ record { to = m.to; count = m.count + 1; is_behind = true }
begun_new m b = ap (λ b. cond b m (record { to = m.to; count = m.count + 1; is_behind = true })) b

module _ (table : List (Option FunctionCounts)) where
  silent_same : (c : _) (m : NamesView) → is_silent table c ≡ true → with_other (is_silent table c) m ≡ m
  silent_same c m e = ap (λ b. with_other b m) e

  other_same : (c : _) (m : NamesView) → is_silent table c ≡ false → with_other (is_silent table c) m ≡ with_other false m
  other_same c m e = ap (λ b. with_other b m) e

  -- ---- edges

  module _ (calls : ℕ → Bool) (n : NamesView) where
    exits_lead : (ps : List PieceView) (m : NamesView) → n ≡ with_pieces table ps m → Once (length m.to) ps → m.is_behind ≡ false → (es : List ExitView) → AllTo (Marked ps NoLabel) es → AllTo (Marked (from table n m.count m.is_behind ps) NoLabel) (renamed_exits n es)
    exits_lead ps m e once not_behind [] all = tt
    exits_lead ps m e once not_behind (x ∷ es) (one, all) = (by (behind_marked ps x.to one), exits_lead ps m e once not_behind es all)
      where
        to_mark : (rest : List PieceView) → Leads table n (renamed n x.to) m.count m.is_behind ps rest → Marked (from table n m.count m.is_behind ps) NoLabel (renamed n x.to)
        to_mark rest (ahead k b le found) = marked_behind (from table n m.count m.is_behind ps) (from table n k b rest) (renamed n x.to) found
        to_mark rest (here k b now same found) = true_not (sym not_behind ∙ now)

        by : (rest : List PieceView) × (behind_mark x.to ps ≡ Some rest) → Marked (from table n m.count m.is_behind ps) NoLabel (renamed n x.to)
        by y = to_mark y.0 (leads table n n x.to ps y.0 m e once y.1)

    lead_from : (ps : List PieceView) (m : NamesView) → n ≡ with_pieces table ps m → Once (length m.to) ps → LeadOn calls NoLabel ps → LeadOn calls NoLabel (from table n m.count m.is_behind ps)
    lead_from [] m e once is = tt
    lead_from (Do s ∷ ps) m e once (one, is) = (one, lead_from ps (with_other false m) e (once_next table (Do s) ps m once) is)
    lead_from (DoIfUsed s ∷ ps) m e once (one, is) = (one, lead_from ps (with_other false m) e (once_next table (DoIfUsed s) ps m once) is)
    lead_from (End s exits ∷ ps) m e once ((plain, to), is) =
        let next = once_next table (End s exits) ps m once in
        ((plain, exits_lead ps (with_other false m) e next refl exits to), lead_from ps (with_other false m) e next is)
    lead_from (Mark l ∷ ps) m e once (one, is) = by m.is_behind refl (lead_from ps (with_label l m) e (once_next table (Mark l) ps m once) is)
      where
        by : (b : Bool) → m.is_behind ≡ b → LeadOn calls NoLabel (from table n (with_begun m).count (with_begun m).is_behind ps) → LeadOn calls NoLabel (cond b (from table n m.count true ps) (Mark m.count ∷ from table n (m.count + 1) true ps))
        by true b further = subst (λ c. LeadOn calls NoLabel (from table n m.count c ps)) b (subst (λ (x : NamesView). LeadOn calls NoLabel (from table n x.count x.is_behind ps)) (begun_again m b) further)
        by false b further = (tt, subst (λ (x : NamesView). LeadOn calls NoLabel (from table n x.count x.is_behind ps)) (begun_new m b) further)
    lead_from (Call c ∷ ps) m e once (one, is) = by (is_silent table c.function) refl (λ same. lead_from ps m (e ∙ ap (λ x. with_pieces table ps x) same) (subst (λ (x : NamesView). Once (length x.to) ps) same next) is) (λ other. lead_from ps (with_other false m) (e ∙ ap (λ x. with_pieces table ps x) other) (subst (λ (x : NamesView). Once (length x.to) ps) other next) is)
      where
        next : Once (length (with_piece table (Call c) m).to) ps
        next = once_next table (Call c) ps m once

        by : (b : Bool) → is_silent table c.function ≡ b → (with_other (is_silent table c.function) m ≡ m → LeadOn calls NoLabel (from table n m.count m.is_behind ps)) → (with_other (is_silent table c.function) m ≡ with_other false m → LeadOn calls NoLabel (from table n m.count false ps))
            → LeadOn calls NoLabel (cond b (from table n m.count m.is_behind ps) (Call c ∷ from table n m.count false ps))
        by true b out kept = out (silent_same c.function m b)
        by false b out kept = (one, kept (other_same c.function m b))

  -- ---- how many labels there are

  count_same : (b : Bool) (m : NamesView) → m.count ≤ (with_other b m).count
  count_same true m = omega arith
  count_same false m = omega arith

  count_begun : (m : NamesView) → m.count ≤ (with_begun m).count
  count_begun m = by m.is_behind
    where
      by : (b : Bool) → m.count ≤ (cond b m (record { to = m.to; count = m.count + 1; is_behind = true })).count
      by true = omega arith
      by false = omega arith

  count_piece : (p : PieceView) (m : NamesView) → m.count ≤ (with_piece table p m).count
  count_piece (Do s) m = omega arith
  count_piece (DoIfUsed s) m = omega arith
  count_piece (End s exits) m = omega arith
  count_piece (Mark l) m = count_begun m
  count_piece (Call c) m = count_same (is_silent table c.function) m

  through : (a b c : ℕ) → a ≤ b → b ≤ c → a ≤ c
  through a b c x y = omega (arith, x, y)

  count_pieces : (ps : List PieceView) (m : NamesView) → m.count ≤ (with_pieces table ps m).count
  count_pieces [] m = omega arith
  count_pieces (p ∷ ps) m = through m.count (with_piece table p m).count (with_pieces table ps (with_piece table p m)).count (count_piece p m) (count_pieces ps (with_piece table p m))

  below_from : (n : NamesView) (ps : List PieceView) (m : NamesView) → n ≡ with_pieces table ps m → (l : ℕ) → Marked (from table n m.count m.is_behind ps) NoLabel l → l < n.count
  below_from n [] m e l is = absurd is
  below_from n (Do s ∷ ps) m e l (inl is) = absurd is
  below_from n (Do s ∷ ps) m e l (inr is) = below_from n ps (with_other false m) e l is
  below_from n (DoIfUsed s ∷ ps) m e l (inl is) = absurd is
  below_from n (DoIfUsed s ∷ ps) m e l (inr is) = below_from n ps (with_other false m) e l is
  below_from n (End s exits ∷ ps) m e l (inl is) = absurd is
  below_from n (End s exits ∷ ps) m e l (inr is) = below_from n ps (with_other false m) e l is
  below_from n (Mark k ∷ ps) m e l is = by m.is_behind refl (λ x. below_from n ps (with_label k m) e l x) is
    where
      least : (with_begun m).count ≤ n.count
      least = subst (λ (x : NamesView). (with_begun m).count ≤ x.count) (sym e) (count_pieces ps (with_label k m))

      less : (a b c d : ℕ) → a ≡ b → d ≡ b + 1 → d ≤ c → a < c
      less a b c d p q r = omega (arith, p, q, r)

      by : (b : Bool) → m.is_behind ≡ b → (Marked (from table n (with_begun m).count (with_begun m).is_behind ps) NoLabel l → l < n.count) → Marked (cond b (from table n m.count true ps) (Mark m.count ∷ from table n (m.count + 1) true ps)) NoLabel l → l < n.count
      by true b further is = further (subst (λ (x : NamesView). Marked (from table n x.count x.is_behind ps) NoLabel l) (sym (begun_again m b)) (subst (λ c. Marked (from table n m.count c ps) NoLabel l) (sym b) is))
      by false b further (inl is) = less l m.count n.count (with_begun m).count is (ap (λ (x : NamesView). x.count) (begun_new m b)) least
      by false b further (inr is) = further (subst (λ (x : NamesView). Marked (from table n x.count x.is_behind ps) NoLabel l) (sym (begun_new m b)) is)
  below_from n (Call c ∷ ps) m e l is = by (is_silent table c.function) refl (λ same x. below_from n ps m (e ∙ ap (λ x. with_pieces table ps x) same) l x) (λ other x. below_from n ps (with_other false m) (e ∙ ap (λ x. with_pieces table ps x) other) l x) is
    where
      by : (b : Bool) → is_silent table c.function ≡ b → (with_other (is_silent table c.function) m ≡ m → Marked (from table n m.count m.is_behind ps) NoLabel l → l < n.count) → (with_other (is_silent table c.function) m ≡ with_other false m → Marked (from table n m.count false ps) NoLabel l → l < n.count)
          → Marked (cond b (from table n m.count m.is_behind ps) (Call c ∷ from table n m.count false ps)) NoLabel l → l < n.count
      by true b out kept is = out (silent_same c.function m b) is
      by false b out kept (inl is) = absurd is
      by false b out kept (inr is) = kept (other_same c.function m b) is

-- ---- whole templates

module _ (table : List (Option FunctionCounts)) (t : TemplateView) (once : LabelsStandOnce t) where
  pub normalized_leads : (calls : ℕ → Bool) → LeadsOn calls t → LeadsOn calls (normalized table t)
  normalized_leads calls is = record {
    pieces = subst (λ ps. LeadOn calls NoLabel ps) (sym (normalized_from table t once)) (lead_from table calls (own table t once) t.pieces (no_names t.labels) refl (all_once table t once) is.pieces);
    names = is.names;
  }

  pub normalized_below : (l : ℕ) → Marked (normalized table t).pieces NoLabel l → l < (normalized table t).labels
  normalized_below l is = below_from table (own table t once) t.pieces (no_names t.labels) refl l (subst (λ ps. Marked ps NoLabel l) (normalized_from table t once) is)
