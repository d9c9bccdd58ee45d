-- Settled templates mark each label once, and name what those name that they were made from.
use Rattle.std.proofs.Common.{◌≡◌, ◌<◌, ◌≤◌, ℕ, zero, suc, ◌+◌, ◌-◌, ◌==◌, Bool, true, false, cond, List, [], ◌∷◌, length, Option, Some, None, refl, arith, ap, sym, subst, ◌∙◌}
use Rattle.std.proofs.lemmas.Bool.{eqb-true}
use Rattle.c_layout.specs.CheckedUnits.{FunctionView, UnitView}
use Rattle.lower_templates.specs.Worklist.Pieces.{NameView, ExitView, PieceView, Do, DoIfUsed, End, Mark, Call, TemplateView}
use Rattle.lower_objects.specs.declared.counts.function_counts.FunctionCounts.{FunctionCounts}
use Rattle.lower_tables.specs.Counts.NormalizedTemplates.{NamesView, is_silent, with_begun, with_label, with_other, with_piece, with_pieces, no_names, renaming, renamed_exits, normalized}
use Rattle.simulation_layout.specs.Normalized.NormalizedRuns.{LabelsStandOnce}
use Rattle.simulation_layout.proofs.normalized.NormalizedPieces.{from, own, normalized_from}
use Rattle.simulation_layout.specs.Copies.FitTemplates.{AllSwitchOn, IsPieceFit, ArePiecesFit, IsFit}
use Rattle.simulation_layout.proofs.inlining.InlinedPieces.{marks, Unmarked}
use Rattle.simulation_layout.proofs.copies.LaidCopies.{OnceHere, MarkedOnce}

module _ (table : List (Option FunctionCounts)) (e : NamesView) where
  -- ---- labels

  begun_more : (n : NamesView) → n.count ≤ (with_begun n).count
  begun_more n = by n.is_behind
    where
      by : (b : Bool) → n.count ≤ (cond b n (record { to = n.to; count = n.count + 1; is_behind = true })).count
      by true = omega arith
      by false = omega arith

  piece_more : (p : PieceView) (n : NamesView) → n.count ≤ (with_piece table p n).count
  piece_more (Do s) n = omega arith
  piece_more (DoIfUsed s) n = omega arith
  piece_more (End s exits) n = omega arith
  piece_more (Mark l) n = begun_more n
  piece_more (Call c) n = by (is_silent table c.function)
    where
      by : (b : Bool) → n.count ≤ (with_other b n).count
      by true = omega arith
      by false = omega arith

  pieces_more : (ps : List PieceView) (n : NamesView) → n.count ≤ (with_pieces table ps n).count
  pieces_more [] n = omega arith
  pieces_more (p ∷ ps) n = let a = piece_more p n in let b = pieces_more ps (with_piece table p n) in far n.count (with_piece table p n).count (with_pieces table ps (with_piece table p n)).count a b
    where
      far : (a b c : ℕ) → a ≤ b → b ≤ c → a ≤ c
      far a b c p q = omega (arith, p, q)

  -- from so many labels on, each label stands once, and none of them before
  record From (size count : ℕ) (ps : List PieceView) : Type 0 where
    once : MarkedOnce size ps
    none : (j : ℕ) → j < count → Unmarked j ps

  other_number : (j k : ℕ) → j < k → (j == k) ≡ false
  other_number j k less = by (j == k) refl
    where
      no : j ≡ k → ⊥
      no e = omega (arith, e, less)

      by : (b : Bool) → (j == k) ≡ b → (j == k) ≡ false
      by false e = e
      by true e = absurd (no (eqb-true j k e))

  labels_from : (size : ℕ) (ps : List PieceView) (n : NamesView) → (with_pieces table ps n).count ≤ size → From size n.count (from table e n.count n.is_behind ps)
  labels_from size [] n le = record { once = tt; none = λ j less. tt }
  labels_from size (Do s ∷ ps) n le = let r = labels_from size ps (with_other false n) le in record { once = (tt, r.once); none = λ j less. (refl, r.none j less) }
  labels_from size (DoIfUsed s ∷ ps) n le = let r = labels_from size ps (with_other false n) le in record { once = (tt, r.once); none = λ j less. (refl, r.none j less) }
  labels_from size (End s exits ∷ ps) n le = let r = labels_from size ps (with_other false n) le in record { once = (tt, r.once); none = λ j less. (refl, r.none j less) }
  labels_from size (Call c ∷ ps) n le = by (is_silent table c.function) (labels_from size ps (with_piece table (Call c) n) le)
    where
      by : (b : Bool) → From size (with_other b n).count (from table e (with_other b n).count (with_other b n).is_behind ps) → From size n.count (cond b (from table e n.count n.is_behind ps) (Call c ∷ from table e n.count false ps))
      by true r = r
      by false r = record { once = (tt, r.once); none = λ j less. (refl, r.none j less) }
  labels_from size (Mark l ∷ ps) n le = by n.is_behind (labels_from size ps (with_label l n) le) (pieces_more ps (with_label l n))
    where
      by : (b : Bool) → From size (with_label l (record n { is_behind = b })).count (from table e (with_label l (record n { is_behind = b })).count (with_label l (record n { is_behind = b })).is_behind ps) → (with_label l (record n { is_behind = b })).count ≤ (with_pieces table ps (with_label l n)).count
          → From size n.count (cond b (from table e n.count true ps) (Mark n.count ∷ from table e (n.count + 1) true ps))
      by true r more = r
      by false r more =
          record {
            once = ((within n.count (with_pieces table ps (with_label l n)).count more le, r.none n.count (next n.count)), r.once);
            none = λ j less. (other_number j n.count less, r.none j (sooner j n.count less));
          }
        where
          within : (k m : ℕ) → k + 1 ≤ m → m ≤ size → k < size
          within k m p q = omega (arith, p, q)

          next : (k : ℕ) → k < k + 1
          next k = omega arith

          sooner : (j k : ℕ) → j < k → j < k + 1
          sooner j k less = omega (arith, less)

  -- ---- names

  switch_on : (u : UnitView) (f : FunctionView) (names : List NameView) (es : List ExitView) → AllSwitchOn u f names es → AllSwitchOn u f names (renamed_exits e es)
  switch_on u f names [] all = tt
  switch_on u f names (x ∷ xs) (one, all) = (one, switch_on u f names xs all)

  fit_from : (u : UnitView) (f : FunctionView) (names : List NameView) (k : ℕ) (b : Bool) (ps : List PieceView) → ArePiecesFit u f names ps → ArePiecesFit u f names (from table e k b ps)
  fit_from u f names k b [] all = tt
  fit_from u f names k b (Do s ∷ ps) (one, all) = (one, fit_from u f names k false ps all)
  fit_from u f names k b (DoIfUsed s ∷ ps) (one, all) = (one, fit_from u f names k false ps all)
  fit_from u f names k b (End s exits ∷ ps) (one, all) = ((one.0, switch_on u f names exits one.1), fit_from u f names k false ps all)
  fit_from u f names k b (Mark l ∷ ps) (one, all) = by b (fit_from u f names k true ps all) (fit_from u f names (k + 1) true ps all)
    where
      by : (b : Bool) → ArePiecesFit u f names (from table e k true ps) → ArePiecesFit u f names (from table e (k + 1) true ps) → ArePiecesFit u f names (cond b (from table e k true ps) (Mark k ∷ from table e (k + 1) true ps))
      by true x y = x
      by false x y = (tt, y)
  fit_from u f names k b (Call c ∷ ps) (one, all) = by (is_silent table c.function) (fit_from u f names k b ps all) (fit_from u f names k false ps all)
    where
      by : (t : Bool) → ArePiecesFit u f names (from table e k b ps) → ArePiecesFit u f names (from table e k false ps) → ArePiecesFit u f names (cond t (from table e k b ps) (Call c ∷ from table e k false ps))
      by true x y = x
      by false x y = (tt, y)

pub normalized_once : (table : List (Option FunctionCounts)) (t : TemplateView) → LabelsStandOnce t → MarkedOnce (normalized table t).labels (normalized table t).pieces
normalized_once table t once =
    subst (λ ps. MarkedOnce (renaming table t.pieces t.labels).count ps) (sym (normalized_from table t once))
    (labels_from table (own table t once) (renaming table t.pieces t.labels).count t.pieces (no_names t.labels) (same (renaming table t.pieces t.labels).count)).once
  where
    same : (k : ℕ) → k ≤ k
    same k = omega arith

pub normalized_fit : (u : UnitView) (f : FunctionView) (table : List (Option FunctionCounts)) (t : TemplateView) → LabelsStandOnce t → IsFit u f t → IsFit u f (normalized table t)
normalized_fit u f table t once fit = record { named = fit.named; pieces = subst (λ ps. ArePiecesFit u f t.names ps) (sym (normalized_from table t once)) (fit_from table (own table t once) u f t.names 0 false t.pieces fit.pieces) }
