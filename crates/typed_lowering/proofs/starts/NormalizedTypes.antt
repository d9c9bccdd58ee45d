-- A settled template keeps to what is known, as the template does.
use Rattle.std.proofs.Common.{◌≡◌, ℕ, ◌+◌, ◌-◌, Bool, true, false, cond, List, [], ◌∷◌, length, Option, Some, None, refl, arith, ap, sym, subst, ◌∙◌}
use Rattle.c_layout.specs.CheckedUnits.{FunctionView, UnitView}
use Rattle.lower_templates.specs.Worklist.Acts.{Act}
use Rattle.lower_templates.specs.Worklist.Pieces.{NameView, ExitView, PieceView, Do, DoIfUsed, End, Mark, Call, TemplateView}
use Rattle.lower_templates.specs.declared.worklist.template_pieces.OwnCall.{OwnCall}
use Rattle.lower_objects.specs.declared.counts.function_counts.FunctionCounts.{FunctionCounts}
use Rattle.lower_tables.specs.Counts.Preparations.{AreCounts}
use Rattle.lower_tables.specs.Counts.NormalizedTemplates.{NamesView, is_silent, with_begun, with_label, with_other, with_piece, with_pieces, no_names, renamed, renamed_exits, normalized}
use Rattle.typed_programs.specs.PlainWorklists.LeadingPieces.{AllTo}
use Rattle.typed_lowering.specs.LoopedUnits.CalmTemplates.{IsMarkedIn, IsCalm}
use Rattle.typed_programs.specs.Types.TypedPrograms.{IsKept}
use Rattle.typed_programs.specs.Types.TypedStates.{Temporaries}
use Rattle.simulation_layout.proofs.normalized.NormalizedPieces.{from, Once, once_next, own, all_once, normalized_from}
use Rattle.typed_lowering.specs.Conversions.KnownValues.{nothing}
use Rattle.typed_lowering.specs.Conversions.TypedPieces.{State, Leads, IsWeaker, IsDone, AreTypedExits, IsTypedCall, DoneIf, AreTypedPieces, parameters_known, result_known, IsTypedTemplate}
use Rattle.typed_lowering.proofs.conversions.KeptKnowledge.{kept_same, kept_trans, way_between}
use Rattle.typed_lowering.proofs.conversions.JoinedPieces.{weaker_same, leads_further, leads_on, weaker_trans}
use Rattle.typed_lowering.proofs.starts.NormalizedKnowledge.{true_not, begun_again, begun_behind, HasLabel, begun_count, noted, known_from, known_now, stays_now, next_kept, label_kept}
use Rattle.typed_lowering.proofs.starts.CalmPieces.{AreCalm, pieces_calm}
use Rattle.typed_lowering.proofs.starts.SilentCalls.{silent_leads}

begun_new : (m : NamesView) → m.is_behind ≡ false → with_begun m ≡ record { to = m.to; count = m.count + 1; is_behind = true }
begun_new m b = ap (λ b. cond b m (record { to = m.to; count = m.count + 1; is_behind = true })) b

module _ (u : UnitView) (f : FunctionView) (used : Bool) (names : List NameView) (labels : ℕ → Temporaries) (table : List (Option FunctionCounts))
    (silent : (c : OwnCall) → is_silent table c.function ≡ true → (s : State) (after : Temporaries) → IsTypedCall u f used names labels s c after → Leads s after)
    (calls : ℕ → Bool) (n : NamesView) (final : ℕ → Temporaries) where
  abbrev Old : State → List PieceView → State → Type 0
  Old = AreTypedPieces u f used names labels

  abbrev New : State → List PieceView → State → Type 0
  New = AreTypedPieces u f used names final

  -- ---- states before the pieces, in the settled ones and in the others

  data Comes (m : NamesView) (at : ℕ → Temporaries) : State → State → Type 0 where
    goes_on : (x s : State) → m.is_behind ≡ false → IsWeaker x s → Comes m at x s
    stands : (k : ℕ) (a : Temporaries) → m.is_behind ≡ true → m.count ≡ k + 1 → IsKept (at k) a → Comes m at (Some (final k)) (Some a)

  has_label : (m : NamesView) (at : ℕ → Temporaries) (x s : State) → Comes m at x s → HasLabel m
  has_label m at x s (goes_on _ _ not_behind weaker) = λ e. true_not (sym not_behind ∙ e)
  has_label m at x s (stands k a behind count kept) = λ e. omega (arith, count)

  -- before a piece that adds something
  weaker_now : (ps : List PieceView) (m : NamesView) (at : ℕ → Temporaries) (x s : State) → final ≡ known_from table labels ps (with_other false m) at → Comes m at x s → IsWeaker x s
  weaker_now ps m at x s is (goes_on _ _ not_behind weaker) = weaker
  weaker_now ps m at x s is (stands k a behind count kept) = subst (λ y. IsKept y a) (sym (ap (λ (g : ℕ → Temporaries). g k) is ∙ stays_now table labels ps m at k count)) kept

  -- behind all pieces
  weaker_then : (m : NamesView) (at : ℕ → Temporaries) (x s : State) → final ≡ at → Comes m at x s → IsWeaker x s
  weaker_then m at x s is (goes_on _ _ not_behind weaker) = weaker
  weaker_then m at x s is (stands k a behind count kept) = subst (λ (g : ℕ → Temporaries). IsKept (g k) a) (sym is) kept

  begins_anew : (m : NamesView) (at : ℕ → Temporaries) (s : State) → Comes (with_other false m) at s s
  begins_anew m at s = goes_on s s refl (weaker_same s)

  -- behind a call that adds nothing
  comes_further : (m : NamesView) (at : ℕ → Temporaries) (x s : State) (after : Temporaries) → Comes m at x s → Leads s after → Comes m at x (Some after)
  comes_further m at x s after (goes_on _ _ not_behind weaker) leads = goes_on x (Some after) not_behind (leads_further x s after weaker leads)
  comes_further m at x s after (stands k a behind count kept) leads = stands k after behind count (kept_trans (at k) a after kept leads)

  -- ---- pieces

  done_anew : (x s : State) (a : Act) (after : Temporaries) → IsWeaker x s → IsDone u f used names labels s a after → IsDone u f used names final x a after
  done_anew x s a after weaker d = record { before = d.before; leads = leads_further x s d.before weaker d.leads; acts = d.acts }

  done_if_anew : (b : Bool) (x s q : State) (a : Act) → IsWeaker x s → DoneIf u f used names labels b s a q → DoneIf u f used names final b x a q
  done_if_anew true x s None a weaker d = d
  done_if_anew true x s (Some k) a weaker d = done_anew x s a k weaker d
  done_if_anew false x s q a weaker d = weaker_trans x s q weaker d

  call_anew : (x s : State) (c : OwnCall) (after : Temporaries) → IsWeaker x s → IsTypedCall u f used names labels s c after → IsTypedCall u f used names final x c after
  call_anew x s c after weaker d = record { callee = d.callee; stands = d.stands; before = d.before; leads = leads_further x s d.before weaker d.leads; arguments = d.arguments; behind = d.behind }

  -- ---- labels

  -- behind a label that stands next
  stands_next : (l : ℕ) (m : NamesView) (at : ℕ → Temporaries) (after : Temporaries) → HasLabel m → IsKept (labels l) after → (k : ℕ) → k ≡ (with_begun m).count - 1 → Comes (with_label l m) (noted table labels (Mark l) m at) (Some (final k)) (Some after)
  stands_next l m at after has kept k is = stands k after (begun_behind m) (begun_count m has ∙ ap (λ i. i + 1) (sym is)) (subst (λ y. IsKept y after) (sym (known_now table labels ((with_begun m).count - 1) k (labels l) at is)) kept)

  -- a label that stands behind another one, or not
  marks_anew : (l : ℕ) (ps : List PieceView) (m : NamesView) (at : ℕ → Temporaries) (x s r : State) (after : Temporaries) → final ≡ known_from table labels (Mark l ∷ ps) m at → Comes m at x s → Leads s (labels l) → IsKept (labels l) after → Old (Some after) ps r
      → ((k : ℕ) → k ≡ (with_begun m).count - 1 → New (Some (final k)) (from table n (with_begun m).count (with_begun m).is_behind ps) r) → New x (from table n m.count m.is_behind (Mark l ∷ ps)) r
  marks_anew l ps m at x s r after is (goes_on _ _ not_behind weaker) leads kept typed further =
      let fresh = begun_new m not_behind in
      let number : m.count ≡ (with_begun m).count - 1 = less m.count ∙ ap (λ (y : NamesView). y.count - 1) (sym fresh) in
      let rest : New (Some (final m.count)) (from table n (m.count + 1) true ps) r = subst (λ (y : NamesView). New (Some (final m.count)) (from table n y.count y.is_behind ps) r) fresh (further m.count number) in
      let there : IsKept (labels l) (final m.count) = subst (λ (g : ℕ → Temporaries). IsKept (labels l) (g m.count)) (sym is) (subst (λ i. IsKept (labels l) (known_from table labels (Mark l ∷ ps) m at i)) (sym number) (next_kept table labels u f used names silent l ps m at after r (λ e. true_not (sym not_behind ∙ e)) typed kept)) in
      let pieces : New x (Mark m.count ∷ from table n (m.count + 1) true ps) r = (Some (final m.count), (leads_on x (labels l) (final m.count) (leads_further x s (labels l) weaker leads) there, kept_same (final m.count)), rest) in
      subst (λ b. New x (cond b (from table n m.count true ps) (Mark m.count ∷ from table n (m.count + 1) true ps)) r) (sym not_behind) pieces
    where
      less : (k : ℕ) → k ≡ k + 1 - 1
      less k = omega arith
  marks_anew l ps m at x s r after is (stands k a behind count old) leads kept typed further =
      let same = begun_again m behind in
      let number : k ≡ (with_begun m).count - 1 = less k m.count count ∙ ap (λ (y : NamesView). y.count - 1) (sym same) in
      let rest : New (Some (final k)) (from table n m.count m.is_behind ps) r = subst (λ (y : NamesView). New (Some (final k)) (from table n y.count y.is_behind ps) r) same (further k number) in
      let pieces : New (Some (final k)) (from table n m.count true ps) r = subst (λ b. New (Some (final k)) (from table n m.count b ps) r) behind rest in
      subst (λ b. New (Some (final k)) (cond b (from table n m.count true ps) (Mark m.count ∷ from table n (m.count + 1) true ps)) r) (sym behind) pieces
    where
      less : (k count : ℕ) → count ≡ k + 1 → k ≡ count - 1
      less k count e = omega (arith, e)

  -- ---- the walk

  -- edges lead to labels at whose numbers what is known there is kept
  module _ (L : ℕ → Type 0) (keeps : (l : ℕ) → L l → IsKept (labels l) (final (renamed n l))) where
    exits_anew : (known : Temporaries) (es : List ExitView) → AllTo L es → AreTypedExits u f used names labels known es → AreTypedExits u f used names final known (renamed_exits n es)
    exits_anew known [] to typed = tt
    exits_anew known (e ∷ es) (one, to) (way, typed) = (way_between e.taken known known (labels e.to) (final (renamed n e.to)) (kept_same known) (keeps e.to one) way, exits_anew known es to typed)

    walk : (ps : List PieceView) (m : NamesView) (at : ℕ → Temporaries) (x s r : State) → n ≡ with_pieces table ps m → final ≡ known_from table labels ps m at → Once (length m.to) ps → AreCalm calls L ps → Comes m at x s → Old s ps r → New x (from table n m.count m.is_behind ps) r
    walk [] m at x s r e is once calm comes typed = weaker_trans x s r (weaker_then m at x s is comes) typed
    walk (Do y ∷ ps) m at x s r e is once calm comes (None, one, rest) = absurd one
    walk (Do y ∷ ps) m at x s r e is once (plain, calm) comes (Some after, one, rest) =
        (Some after, done_anew x s y.does after (weaker_now ps m at x s is comes) one, walk ps (with_other false m) at (Some after) (Some after) r e is (once_next table (Do y) ps m once) calm (begins_anew m at (Some after)) rest)
    walk (DoIfUsed y ∷ ps) m at x s r e is once (plain, calm) comes (q, one, rest) =
        (q, done_if_anew used x s q y.does (weaker_now ps m at x s is comes) one, walk ps (with_other false m) at q q r e is (once_next table (DoIfUsed y) ps m once) calm (begins_anew m at q) rest)
    walk (End y exits ∷ ps) m at x s r e is once calm comes (Some after, one, rest) = absurd one
    walk (End y exits ∷ ps) m at x s r e is once ((plain, to), calm) comes (None, one, rest) =
        (None, record { behind = one.behind; done = done_anew x s y.does one.behind (weaker_now ps m at x s is comes) one.done; leads = exits_anew one.behind exits to one.leads }, walk ps (with_other false m) at None None r e is (once_next table (End y exits) ps m once) calm (begins_anew m at None) rest)
    walk (Mark l ∷ ps) m at x s r e is once calm comes (None, one, rest) = absurd one
    walk (Mark l ∷ ps) m at x s r e is once (plain, calm) comes (Some after, (leads, kept), rest) =
        marks_anew l ps m at x s r after is comes leads kept rest (λ k number. walk ps (with_label l m) (noted table labels (Mark l) m at) (Some (final k)) (Some after) r e is (once_next table (Mark l) ps m once) calm (stands_next l m at after (has_label m at x s comes) kept k number) rest)
    walk (Call c ∷ ps) m at x s r e is once calm comes (None, one, rest) = absurd one
    walk (Call c ∷ ps) m at x s r e is once (plain, calm) comes (Some after, one, rest) =
        by (is_silent table c.function) refl
        (λ same t. walk ps m at x (Some after) r (e ∙ ap (λ z. with_pieces table ps z) same) (is ∙ ap (λ z. known_from table labels ps z at) same) (subst (λ (z : NamesView). Once (length z.to) ps) same next) calm (comes_further m at x s after comes (silent c t s after one)) rest)
        (λ other. walk ps (with_other false m) at (Some after) (Some after) r (e ∙ ap (λ z. with_pieces table ps z) other) (is ∙ ap (λ z. known_from table labels ps z at) other) (subst (λ (z : NamesView). Once (length z.to) ps) other next) calm (begins_anew m at (Some after)) rest)
      where
        next : Once (length (with_piece table (Call c) m).to) ps
        next = once_next table (Call c) ps m once

        by : (b : Bool) → is_silent table c.function ≡ b → (with_other (is_silent table c.function) m ≡ m → is_silent table c.function ≡ true → New x (from table n m.count m.is_behind ps) r)
            → (with_other (is_silent table c.function) m ≡ with_other false m → New (Some after) (from table n m.count false ps) r)
            → New x (cond (is_silent table c.function) (from table n m.count m.is_behind ps) (Call c ∷ from table n m.count false ps)) r
        by true b out kept = subst (λ t. New x (cond t (from table n m.count m.is_behind ps) (Call c ∷ from table n m.count false ps)) r) (sym b) (out (ap (λ t. with_other t m) b) b)
        by false b out kept =
            let other = ap (λ t. with_other t m) b in
            let pieces : New x (Call c ∷ from table n m.count false ps) r = (Some after, call_anew x s c after (weaker_now ps m at x s (is ∙ ap (λ z. known_from table labels ps z at) other) comes) one, kept other) in
            subst (λ t. New x (cond t (from table n m.count m.is_behind ps) (Call c ∷ from table n m.count false ps)) r) (sym b) pieces

-- ---- whole templates

pub normalized_typed : (u : UnitView) (f : FunctionView) (calls : ℕ → Bool) (used : Bool) (t : TemplateView) (table : List (Option FunctionCounts)) → AreCounts u table → IsCalm calls t → Once t.labels t.pieces → IsTypedTemplate u f used t → IsTypedTemplate u f used (normalized table t)
normalized_typed u f calls used t table are calm once typed = record {
  labels = final;
  pieces = subst (λ ps. AreTypedPieces u f used t.names final start ps end) (sym (normalized_from table t once))
      (walk u f used t.names typed.labels table silent calls (own table t once) final (IsMarkedIn t) keeps t.pieces (no_names t.labels) (λ l. nothing) start start end refl refl (all_once table t once) (pieces_calm calls t calm) (goes_on start start refl (weaker_same start)) typed.pieces);
}
  where
    start : State
    start = Some (parameters_known f)

    end : State
    end = Some (result_known used f)

    final : ℕ → Temporaries
    final = known_from table typed.labels t.pieces (no_names t.labels) (λ l. nothing)

    silent : (c : OwnCall) → is_silent table c.function ≡ true → (s : State) (after : Temporaries) → IsTypedCall u f used t.names typed.labels s c after → Leads s after
    silent = silent_leads u f used t.names typed.labels table are

    keeps : (l : ℕ) → IsMarkedIn t l → IsKept (typed.labels l) (final (renamed (own table t once) l))
    keeps = label_kept table typed.labels u f used t.names silent (own table t once) t.pieces (no_names t.labels) (λ l. nothing) start end refl (all_once table t once) (λ b. true_not b) typed.pieces
