-- What is known at the labels of a settled template: at each what is known at the last of those for which it stands.
use Rattle.std.proofs.Common.{◌≡◌, ◌≤◌, ◌<◌, inl, inr, ℕ, ◌+◌, ◌-◌, ◌==◌, Bool, true, false, cond, List, [], ◌∷◌, length, Option, Some, None, refl, arith, ap, sym, subst, ◌∙◌}
use Rattle.std.proofs.lemmas.Bool.{eq-eqb, eqb-true, false_from_ne_true}
use Rattle.c_layout.specs.CheckedUnits.{FunctionView, UnitView}
use Rattle.lower_templates.specs.Worklist.Pieces.{NameView, PieceView, Do, DoIfUsed, End, Mark, Call}
use Rattle.lower_templates.specs.declared.worklist.template_pieces.OwnCall.{OwnCall}
use Rattle.lower_objects.specs.declared.counts.function_counts.FunctionCounts.{FunctionCounts}
use Rattle.lower_tables.specs.Counts.NormalizedTemplates.{NamesView, is_silent, with_begun, with_label, with_other, with_piece, with_pieces, renamed}
use Rattle.typed_programs.specs.PlainWorklists.LeadingPieces.{Marked, NoLabel}
use Rattle.typed_programs.specs.Types.TypedPrograms.{IsKept}
use Rattle.typed_programs.specs.Types.TypedStates.{Temporaries}
use Rattle.simulation_layout.proofs.normalized.NormalizedPieces.{Once, number_of_next, once_next}
use Rattle.typed_lowering.specs.Conversions.TypedPieces.{State, Leads, IsTypedCall, AreTypedPieces}
use Rattle.typed_lowering.proofs.conversions.KeptKnowledge.{kept_same, kept_trans}

pub true_not : {A : Type 0} → false ≡ true → A
true_not e = absurd (cc)

pub begun_again : (m : NamesView) → m.is_behind ≡ true → with_begun m ≡ m
begun_again m b = ap (λ b. cond b m (record { to = m.to; count = m.count + 1; is_behind = true })) b

-- ---- numbers of labels

pub begun_behind : (m : NamesView) → (with_begun m).is_behind ≡ true
begun_behind m = by m.is_behind refl
  where
    by : (b : Bool) → m.is_behind ≡ b → (cond b m (record { to = m.to; count = m.count + 1; is_behind = true })).is_behind ≡ true
    by true e = e
    by false e = refl

-- behind a label there is one
abbrev pub HasLabel : NamesView → Type 0
HasLabel m = m.is_behind ≡ true → 1 ≤ m.count

begun_some : (m : NamesView) → HasLabel m → 1 ≤ (with_begun m).count
begun_some m has = by m.is_behind refl
  where
    by : (b : Bool) → m.is_behind ≡ b → 1 ≤ (cond b m (record { to = m.to; count = m.count + 1; is_behind = true })).count
    by true e = has e
    by false e = omega arith

pub begun_count : (m : NamesView) → HasLabel m → (with_begun m).count ≡ ((with_begun m).count - 1) + 1
begun_count m has = let some = begun_some m has in omega (arith, some)

other_has : (b : Bool) (m : NamesView) → HasLabel m → HasLabel (with_other b m)
other_has true m has = has
other_has false m has = λ e. true_not e

pub piece_has : (table : List (Option FunctionCounts)) (p : PieceView) (m : NamesView) → HasLabel m → HasLabel (with_piece table p m)
piece_has table (Do s) m has = λ e. true_not e
piece_has table (DoIfUsed s) m has = λ e. true_not e
piece_has table (End s exits) m has = λ e. true_not e
piece_has table (Mark l) m has = λ e. begun_some m has
piece_has table (Call c) m has = other_has (is_silent table c.function) m has

-- no label behind is one of that number
record Closed (k : ℕ) (m : NamesView) : Type 0 where
  less : k < m.count
  behind : m.is_behind ≡ true → k + 1 < m.count

more_begun : (k : ℕ) (m : NamesView) → Closed k m → k + 1 < (with_begun m).count
more_begun k m c = by m.is_behind refl
  where
    by : (b : Bool) → m.is_behind ≡ b → k + 1 < (cond b m (record { to = m.to; count = m.count + 1; is_behind = true })).count
    by true e = c.behind e
    by false e = let less = c.less in omega (arith, less)

closed_other : (k : ℕ) (b : Bool) (m : NamesView) → Closed k m → Closed k (with_other b m)
closed_other k true m c = c
closed_other k false m c = record { less = c.less; behind = λ e. true_not e }

closed_next : (table : List (Option FunctionCounts)) (k : ℕ) (p : PieceView) (m : NamesView) → Closed k m → Closed k (with_piece table p m)
closed_next table k (Do s) m c = closed_other k false m c
closed_next table k (DoIfUsed s) m c = closed_other k false m c
closed_next table k (End s exits) m c = closed_other k false m c
closed_next table k (Mark l) m c = let more = more_begun k m c in record { less = omega (arith, more); behind = λ e. more }
closed_next table k (Call c) m d = closed_other k (is_silent table c.function) m d

-- the last label that stands, behind a piece that adds something
closed_now : (k : ℕ) (m : NamesView) → m.count ≡ k + 1 → Closed k (with_other false m)
closed_now k m is = record { less = omega (arith, is); behind = λ e. true_not e }

-- ---- what is known

module _ (table : List (Option FunctionCounts)) (labels : ℕ → Temporaries) where
  abbrev pub with_known : ℕ → Temporaries → (ℕ → Temporaries) → ℕ → Temporaries
  with_known k known at l = cond (l == k) known (at l)

  abbrev pub noted : PieceView → NamesView → (ℕ → Temporaries) → ℕ → Temporaries
  noted (Do s) m at = at
  noted (DoIfUsed s) m at = at
  noted (End s exits) m at = at
  noted (Mark l) m at = with_known ((with_begun m).count - 1) (labels l) at
  noted (Call c) m at = at

  abbrev pub known_from : List PieceView → NamesView → (ℕ → Temporaries) → ℕ → Temporaries
  known_from [] m at = at
  known_from (p ∷ ps) m at = known_from ps (with_piece table p m) (noted p m at)

  pub known_now : (k l : ℕ) (known : Temporaries) (at : ℕ → Temporaries) → l ≡ k → with_known k known at l ≡ known
  known_now k l known at e = ap (λ b. cond b known (at l)) (eq-eqb l k e)

  noted_other : (p : PieceView) (m : NamesView) (at : ℕ → Temporaries) (k : ℕ) → Closed k m → noted p m at k ≡ at k
  noted_other (Do s) m at k c = refl
  noted_other (DoIfUsed s) m at k c = refl
  noted_other (End s exits) m at k c = refl
  noted_other (Mark l) m at k c = ap (λ b. cond b (labels l) (at k)) (false_from_ne_true (k == (with_begun m).count - 1) (λ e. no k (with_begun m).count (more_begun k m c) (eqb-true k ((with_begun m).count - 1) e)))
    where
      no : (k count : ℕ) → k + 1 < count → k ≡ count - 1 → ⊥
      no k count more e = omega (arith, more, e)
  noted_other (Call c) m at k d = refl

  stays : (ps : List PieceView) (m : NamesView) (at : ℕ → Temporaries) (k : ℕ) → Closed k m → known_from ps m at k ≡ at k
  stays [] m at k c = refl
  stays (p ∷ ps) m at k c = stays ps (with_piece table p m) (noted p m at) k (closed_next table k p m c) ∙ noted_other p m at k c

  -- of the last label that stands nothing changes behind a piece that adds something
  pub stays_now : (ps : List PieceView) (m : NamesView) (at : ℕ → Temporaries) (k : ℕ) → m.count ≡ k + 1 → known_from ps (with_other false m) at k ≡ at k
  stays_now ps m at k is = stays ps (with_other false m) at k (closed_now k m is)

  -- ---- labels that stand together

  module _ (u : UnitView) (f : FunctionView) (used : Bool) (names : List NameView)
      (silent : (c : OwnCall) → is_silent table c.function ≡ true → (s : State) (after : Temporaries) → IsTypedCall u f used names labels s c after → Leads s after) where
    abbrev Typed : State → List PieceView → State → Type 0
    Typed = AreTypedPieces u f used names labels

    -- what is kept right behind a label is kept at the last one of those that stand there
    pub chain : (ps : List PieceView) (m : NamesView) (at : ℕ → Temporaries) (k : ℕ) (x a : Temporaries) (r : State) → m.is_behind ≡ true → m.count ≡ k + 1 → Typed (Some a) ps r → IsKept x (at k) → IsKept x a → IsKept x (known_from ps m at k)
    chain [] m at k x a r behind count typed there now = there
    chain (Do s ∷ ps) m at k x a r behind count typed there now = subst (λ y. IsKept x y) (sym (stays_now ps m at k count)) there
    chain (DoIfUsed s ∷ ps) m at k x a r behind count typed there now = subst (λ y. IsKept x y) (sym (stays_now ps m at k count)) there
    chain (End s exits ∷ ps) m at k x a r behind count typed there now = subst (λ y. IsKept x y) (sym (stays_now ps m at k count)) there
    chain (Mark l ∷ ps) m at k x a r behind count (None, one, rest) there now = absurd one
    chain (Mark l ∷ ps) m at k x a r behind count (Some after, (leads, kept), rest) there now =
        let same = begun_again m behind in
        let number : (with_begun m).count ≡ k + 1 = ap (λ (y : NamesView). y.count) same ∙ count in
        let is : k ≡ (with_begun m).count - 1 = omega (arith, number) in
        let known : with_known ((with_begun m).count - 1) (labels l) at k ≡ labels l = known_now ((with_begun m).count - 1) k (labels l) at is in
        let on : IsKept x (labels l) = kept_trans x a (labels l) now leads in
        chain ps (with_label l m) (noted (Mark l) m at) k x after r (begun_behind m) number rest (subst (λ y. IsKept x y) (sym known) on) (kept_trans x (labels l) after on kept)
    chain (Call c ∷ ps) m at k x a r behind count (None, one, rest) there now = absurd one
    chain (Call c ∷ ps) m at k x a r behind count (Some after, one, rest) there now =
        by (is_silent table c.function) refl (λ e. chain ps m at k x after r behind count rest there (kept_trans x a after now (silent c e (Some a) after one)))
      where
        by : (b : Bool) → is_silent table c.function ≡ b → (is_silent table c.function ≡ true → IsKept x (known_from ps m at k)) → IsKept x (known_from ps (with_other (is_silent table c.function) m) at k)
        by true e on = subst (λ b. IsKept x (known_from ps (with_other b m) at k)) (sym e) (on e)
        by false e on = subst (λ b. IsKept x (known_from ps (with_other b m) at k)) (sym e) (subst (λ y. IsKept x y) (sym (stays_now ps m at k count)) there)

    -- what is known at a label that stands next is kept at its number
    pub next_kept : (l : ℕ) (ps : List PieceView) (m : NamesView) (at : ℕ → Temporaries) (a : Temporaries) (r : State) → HasLabel m → Typed (Some a) ps r → IsKept (labels l) a → IsKept (labels l) (known_from (Mark l ∷ ps) m at ((with_begun m).count - 1))
    next_kept l ps m at a r has typed kept =
        let k : ℕ = (with_begun m).count - 1 in
        chain ps (with_label l m) (noted (Mark l) m at) k (labels l) a r (begun_behind m) (begun_count m has) typed (subst (λ y. IsKept (labels l) y) (sym (known_now k k (labels l) at refl)) (kept_same (labels l))) kept

    -- what is known at a label is kept at its number
    pub label_kept : (n : NamesView) (ps : List PieceView) (m : NamesView) (at : ℕ → Temporaries) (s r : State) → n ≡ with_pieces table ps m → Once (length m.to) ps → HasLabel m → Typed s ps r → (l : ℕ) → Marked ps NoLabel l → IsKept (labels l) (known_from ps m at (renamed n l))
    label_kept n [] m at s r e once has typed l is = absurd is
    label_kept n (Mark j ∷ ps) m at s r e once has (None, one, rest) l is = absurd one
    label_kept n (Mark j ∷ ps) m at s r e once has (Some after, (leads, kept), rest) l (inl is) =
        let number : renamed n l ≡ (with_begun m).count - 1 = ap (λ i. renamed n i) is ∙ (ap (λ y. renamed y j) e ∙ number_of_next table j ps m once) in
        subst (λ i. IsKept (labels l) (known_from (Mark j ∷ ps) m at i)) (sym number) (subst (λ i. IsKept (labels i) (known_from (Mark j ∷ ps) m at ((with_begun m).count - 1))) (sym is) (next_kept j ps m at after r has rest kept))
    label_kept n (Mark j ∷ ps) m at s r e once has (q, one, rest) l (inr is) = label_kept n ps (with_piece table (Mark j) m) (noted (Mark j) m at) q r e (once_next table (Mark j) ps m once) (piece_has table (Mark j) m has) rest l is
    label_kept n (Do x ∷ ps) m at s r e once has typed l (inl is) = absurd is
    label_kept n (Do x ∷ ps) m at s r e once has (q, one, rest) l (inr is) = label_kept n ps (with_piece table (Do x) m) at q r e (once_next table (Do x) ps m once) (piece_has table (Do x) m has) rest l is
    label_kept n (DoIfUsed x ∷ ps) m at s r e once has typed l (inl is) = absurd is
    label_kept n (DoIfUsed x ∷ ps) m at s r e once has (q, one, rest) l (inr is) = label_kept n ps (with_piece table (DoIfUsed x) m) at q r e (once_next table (DoIfUsed x) ps m once) (piece_has table (DoIfUsed x) m has) rest l is
    label_kept n (End x exits ∷ ps) m at s r e once has typed l (inl is) = absurd is
    label_kept n (End x exits ∷ ps) m at s r e once has (q, one, rest) l (inr is) = label_kept n ps (with_piece table (End x exits) m) at q r e (once_next table (End x exits) ps m once) (piece_has table (End x exits) m has) rest l is
    label_kept n (Call c ∷ ps) m at s r e once has typed l (inl is) = absurd is
    label_kept n (Call c ∷ ps) m at s r e once has (q, one, rest) l (inr is) = label_kept n ps (with_piece table (Call c) m) at q r e (once_next table (Call c) ps m once) (piece_has table (Call c) m has) rest l is
