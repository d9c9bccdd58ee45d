-- What settling leaves of pieces, by how many labels stand before them.
use Rattle.std.proofs.Common.{◌≡◌, ◌≤◌, ◌<◌, ℕ, ◌+◌, ◌-◌, ◌==◌, Bool, true, false, cond, nat_lt, List, [], ◌∷◌, ◌++◌, length, get_or, Option, Some, refl, arith, ap, sym, subst, ◌∙◌, append_assoc}
use Rattle.std.proofs.lemmas.Bool.{eq-eqb, eqb-true, ltb-true, ltb-false}
use Rattle.std.proofs.lemmas.List.{append-nil, get_or-set_same, get_or-set_other, length-set, length-replicate}
use Rattle.lower_templates.specs.Worklist.Pieces.{PieceView, Do, DoIfUsed, End, Mark, Call, TemplateView}
use Rattle.lower_objects.specs.declared.counts.function_counts.FunctionCounts.{FunctionCounts}
use Rattle.lower_tables.specs.Counts.NormalizedTemplates.{NamesView, SettlingView, is_silent, with_begun, with_label, with_other, with_piece, with_pieces, no_names, renaming, renamed, renamed_end, is_last, with_mark, with_normalized, with_if, with_all, nothing_normalized, normalized}
use Rattle.lower_template_theorems.specs.PendingLabels.Marks.{one, below, marked, all_marked}
use Rattle.lower_template_theorems.proofs.pending_labels.MarkArithmetic.{one_yes, below_no, at_most_one}
use Rattle.semantics.specs.TemplateMachine.TemplateExits.{behind_mark}

-- pieces behind so many labels: exits lead to other labels, a label right behind another one is that one, and calls that
-- add nothing are not there
module _ (table : List (Option FunctionCounts)) (e : NamesView) where
  abbrev pub from : ℕ → Bool → List PieceView → List PieceView
  from k b [] = []
  from k b (Do s ∷ ps) = Do s ∷ from k false ps
  from k b (DoIfUsed s ∷ ps) = DoIfUsed s ∷ from k false ps
  from k b (End s exits ∷ ps) = renamed_end e s exits ∷ from k false ps
  from k b (Mark l ∷ ps) = cond b (from k true ps) (Mark k ∷ from (k + 1) true ps)
  from k b (Call c ∷ ps) = cond (is_silent table c.function) (from k b ps) (Call c ∷ from k false ps)

-- ---- the numbers of labels

true_is_not : false ≡ true → ⊥
true_is_not e = cc

-- a label that stands in pieces stands there once, and has a number
abbrev pub Once : ℕ → List PieceView → Type 0
Once labels ps = (l : ℕ) → all_marked l ps ≤ below l labels

once_behind : (labels : ℕ) (p : PieceView) (ps : List PieceView) → Once labels (p ∷ ps) → Once labels ps
once_behind labels p ps once l = let le = once l in omega (arith, le)

-- it does not stand behind itself
none_behind : (labels l : ℕ) (ps : List PieceView) → Once labels (Mark l ∷ ps) → all_marked l ps ≡ 0
none_behind labels l ps once =
    let le = once l in
    let most = at_most_one l labels in
    let is = one_yes l l refl in
    omega (arith, le, most, is)

has_number : (labels l : ℕ) (ps : List PieceView) → Once labels (Mark l ∷ ps) → l < labels
has_number labels l ps once = by (nat_lt l labels) refl
  where
    none : (a b k : ℕ) → a + b ≤ k → a ≡ 1 → k ≡ 0 → ⊥
    none a b k le e z = omega (arith, le, e, z)

    by : (b : Bool) → nat_lt l labels ≡ b → l < labels
    by true e = ltb-true l labels e
    by false e = absurd (none (one l l) (all_marked l ps) (below l labels) (once l) (one_yes l l refl) (below_no l labels (ltb-false l labels e)))

apart : (l m : ℕ) → one l m ≡ 0 → l ≡ m → ⊥
apart l m none e = let is = one_yes l m e in no (one l m) none is
  where
    no : (a : ℕ) → a ≡ 0 → a ≡ 1 → ⊥
    no a p q = omega (arith, p, q)

-- how many numbers there are stays
same_length_begun : (n : NamesView) → length (with_begun n).to ≡ length n.to
same_length_begun n = by n.is_behind
  where
    by : (b : Bool) → length (cond b n (record { to = n.to; count = n.count + 1; is_behind = true })).to ≡ length n.to
    by true = refl
    by false = refl

same_to_begun : (n : NamesView) → (with_begun n).to ≡ n.to
same_to_begun n = by n.is_behind
  where
    by : (b : Bool) → (cond b n (record { to = n.to; count = n.count + 1; is_behind = true })).to ≡ n.to
    by true = refl
    by false = refl

same_to_other : (b : Bool) (n : NamesView) → (with_other b n).to ≡ n.to
same_to_other true n = refl
same_to_other false n = refl

same_length_label : (l : ℕ) (n : NamesView) → length (with_label l n).to ≡ length n.to
same_length_label l n = length-set (with_begun n).to l ((with_begun n).count - 1) ∙ same_length_begun n

-- the number of a label that is given now
numbered : (l : ℕ) (n : NamesView) → l < length n.to → renamed (with_label l n) l ≡ (with_begun n).count - 1
numbered l n less = get_or-set_same (with_begun n).to l ((with_begun n).count - 1) 0 (subst (λ k. l < k) (sym (same_length_begun n)) less)

kept_by_other : (l m : ℕ) (n : NamesView) → (l ≡ m → ⊥) → renamed (with_label m n) l ≡ renamed n l
kept_by_other l m n other = get_or-set_other (with_begun n).to m l ((with_begun n).count - 1) 0 other ∙ ap (λ xs. get_or xs l 0) (same_to_begun n)

kept_by_piece : (table : List (Option FunctionCounts)) (l : ℕ) (p : PieceView) (n : NamesView) → marked l p ≡ 0 → renamed (with_piece table p n) l ≡ renamed n l
kept_by_piece table l (Do s) n none = refl
kept_by_piece table l (DoIfUsed s) n none = refl
kept_by_piece table l (End s exits) n none = refl
kept_by_piece table l (Mark m) n none = kept_by_other l m n (apart l m none)
kept_by_piece table l (Call c) n none = ap (λ xs. get_or xs l 0) (same_to_other (is_silent table c.function) n)

-- a label keeps its number where it does not stand again
kept : (table : List (Option FunctionCounts)) (l : ℕ) (ps : List PieceView) (n : NamesView) → all_marked l ps ≡ 0 → renamed (with_pieces table ps n) l ≡ renamed n l
kept table l [] n none = refl
kept table l (p ∷ ps) n none =
    let parts = both_none (marked l p) (all_marked l ps) none in
    kept table l ps (with_piece table p n) parts.1 ∙ kept_by_piece table l p n parts.0
  where
    both_none : (a b : ℕ) → a + b ≡ 0 → (a ≡ 0) × (b ≡ 0)
    both_none a b e = (omega (arith, e), omega (arith, e))

-- the number of the label that stands next
pub number_of_next : (table : List (Option FunctionCounts)) (l : ℕ) (ps : List PieceView) (n : NamesView) → Once (length n.to) (Mark l ∷ ps) → renamed (with_pieces table (Mark l ∷ ps) n) l ≡ (with_begun n).count - 1
number_of_next table l ps n once = kept table l ps (with_label l n) (none_behind (length n.to) l ps once) ∙ numbered l n (has_number (length n.to) l ps once)

pub once_next : (table : List (Option FunctionCounts)) (p : PieceView) (ps : List PieceView) (n : NamesView) → Once (length n.to) (p ∷ ps) → Once (length (with_piece table p n).to) ps
once_next table (Do s) ps n once = once_behind (length n.to) (Do s) ps once
once_next table (DoIfUsed s) ps n once = once_behind (length n.to) (DoIfUsed s) ps once
once_next table (End s exits) ps n once = once_behind (length n.to) (End s exits) ps once
once_next table (Mark l) ps n once = subst (λ k. Once k ps) (sym (same_length_label l n)) (once_behind (length n.to) (Mark l) ps once)
once_next table (Call c) ps n once = subst (λ (xs : List ℕ). Once (length xs) ps) (sym (same_to_other (is_silent table c.function) n)) (once_behind (length n.to) (Call c) ps once)

-- ---- what is settled

-- the last label that stands has the last number, and no number is that of the next label
record Last (n : NamesView) (last : Option ℕ) : Type 0 where
  newest : n.is_behind ≡ true → last ≡ Some (n.count - 1)
  before : (k : ℕ) → n.count ≤ k → is_last last k ≡ false

module _ (table : List (Option FunctionCounts)) where
  one_on : (xs : List PieceView) (p : PieceView) (rest : List PieceView) → (xs ++ p ∷ []) ++ rest ≡ xs ++ p ∷ rest
  one_on xs p rest = append_assoc xs (p ∷ []) rest

  last_other : (n : NamesView) (last : Option ℕ) → Last n last → Last (with_other false n) last
  last_other n last is = record { newest = λ e. absurd (true_is_not e); before = is.before }

  is_last_own : (k : ℕ) → is_last (Some k) k ≡ true
  is_last_own k = eq-eqb k k refl

  is_last_not : (j k : ℕ) → j < k → is_last (Some j) k ≡ false
  is_last_not j k less = by (j == k) refl
    where
      no : j ≡ k → ⊥
      no e = omega (arith, e, less)

      by : (b : Bool) → (j == k) ≡ b → (j == k) ≡ false
      by false e = e
      by true e = absurd (no (eqb-true j k e))

  settles_from : (n : NamesView) (ps : List PieceView) (m : NamesView) (g : SettlingView) → n ≡ with_pieces table ps m → Once (length m.to) ps → Last m g.last → (with_all table n ps g).pieces ≡ g.pieces ++ from table n m.count m.is_behind ps
  unfolding with_if
  settles_from n [] m g e once last = sym (append-nil g.pieces)
  settles_from n (Do s ∷ ps) m g e once last = settles_from n ps (with_other false m) (with_normalized (Do s) g) e (once_next table (Do s) ps m once) (last_other m g.last last) ∙ one_on g.pieces (Do s) _
  settles_from n (DoIfUsed s ∷ ps) m g e once last = settles_from n ps (with_other false m) (with_normalized (DoIfUsed s) g) e (once_next table (DoIfUsed s) ps m once) (last_other m g.last last) ∙ one_on g.pieces (DoIfUsed s) _
  settles_from n (End s exits ∷ ps) m g e once last =
      settles_from n ps (with_other false m) (with_normalized (renamed_end n s exits) g) e (once_next table (End s exits) ps m once) (last_other m g.last last) ∙ one_on g.pieces (renamed_end n s exits) _
  settles_from n (Mark l ∷ ps) m g e once last = by m.is_behind refl (λ h next. settles_from n ps (with_label l m) h e (once_next table (Mark l) ps m once) next)
    where
      number : renamed n l ≡ (with_begun m).count - 1
      number = ap (λ x. renamed x l) e ∙ number_of_next table l ps m once

      again : m.is_behind ≡ true → (with_begun m) ≡ m
      again b = ap (λ b. cond b m (record { to = m.to; count = m.count + 1; is_behind = true })) b

      fresh : m.is_behind ≡ false → (with_begun m) ≡ record { to = m.to; count = m.count + 1; is_behind = true }
      fresh b = ap (λ b. cond b m (record { to = m.to; count = m.count + 1; is_behind = true })) b

      more_less : (k : ℕ) → k + 1 - 1 ≡ k
      more_less k = omega arith

      Further : Type 0
      Further = (h : SettlingView) → Last (with_label l m) h.last → (with_all table n ps h).pieces ≡ h.pieces ++ from table n (with_label l m).count (with_label l m).is_behind ps

      by : (b : Bool) → m.is_behind ≡ b → Further → (with_all table n ps (with_mark (renamed n l) g)).pieces ≡ g.pieces ++ from table n m.count m.is_behind (Mark l ∷ ps)
      by true b further =
          let same = again b in
          let r : renamed n l ≡ m.count - 1 = number ∙ ap (λ (x : NamesView). x.count - 1) same in
          let stays : with_mark (renamed n l) g ≡ g = ap (λ t. cond t g (record { pieces = g.pieces ++ Mark (renamed n l) ∷ []; last = Some (renamed n l) })) (ap (λ k. is_last g.last k) r ∙ ap (λ o. is_last o (m.count - 1)) (last.newest b) ∙ is_last_own (m.count - 1)) in
          let count : (with_label l m).count ≡ m.count = ap (λ (x : NamesView). x.count) same in
          let behind : (with_label l m).is_behind ≡ true = ap (λ (x : NamesView). x.is_behind) same ∙ b in
          let next : Last (with_label l m) g.last = record { newest = λ _. last.newest b ∙ ap (λ k. Some (k - 1)) (sym count); before = λ k le. last.before k (subst (λ c. c ≤ k) count le) } in
          ap (λ h. (with_all table n ps h).pieces) stays
          ∙ further g next
          ∙ ap (λ k. g.pieces ++ from table n k (with_label l m).is_behind ps) count
          ∙ ap (λ c. g.pieces ++ from table n m.count c ps) behind
          ∙ ap (λ c. g.pieces ++ cond c (from table n m.count true ps) (Mark m.count ∷ from table n (m.count + 1) true ps)) (sym b)
      by false b further =
          let same = fresh b in
          let r : renamed n l ≡ m.count = number ∙ ap (λ (x : NamesView). x.count - 1) same ∙ more_less m.count in
          let added : SettlingView = record { pieces = g.pieces ++ Mark m.count ∷ []; last = Some m.count } in
          let moves : with_mark (renamed n l) g ≡ added = ap (λ k. with_mark k g) r ∙ ap (λ t. cond t g added) (last.before m.count (le_refl m.count)) in
          let count : (with_label l m).count ≡ m.count + 1 = ap (λ (x : NamesView). x.count) same in
          let behind : (with_label l m).is_behind ≡ true = ap (λ (x : NamesView). x.is_behind) same in
          let next : Last (with_label l m) (Some m.count) = record { newest = λ _. ap Some (sym (more_less m.count) ∙ ap (λ k. k - 1) (sym count)); before = λ k le. is_last_not m.count k (less_than m.count k (subst (λ c. c ≤ k) count le)) } in
          ap (λ h. (with_all table n ps h).pieces) moves
          ∙ further added next
          ∙ one_on g.pieces (Mark m.count) _
          ∙ ap (λ k. g.pieces ++ Mark m.count ∷ from table n k (with_label l m).is_behind ps) count
          ∙ ap (λ c. g.pieces ++ Mark m.count ∷ from table n (m.count + 1) c ps) behind
          ∙ ap (λ c. g.pieces ++ cond c (from table n m.count true ps) (Mark m.count ∷ from table n (m.count + 1) true ps)) (sym b)
        where
          le_refl : (k : ℕ) → k ≤ k
          le_refl k = omega arith

          less_than : (j k : ℕ) → j + 1 ≤ k → j < k
          less_than j k le = omega (arith, le)
  settles_from n (Call c ∷ ps) m g e once last = by (is_silent table c.function) refl (λ same. settles_from n ps m g (e ∙ ap (λ x. with_pieces table ps x) same) (once_behind (length m.to) (Call c) ps once) last) (λ other. settles_from n ps (with_other false m) (with_normalized (Call c) g) (e ∙ ap (λ x. with_pieces table ps x) other) (once_behind (length m.to) (Call c) ps once) (last_other m g.last last))
    where
      by : (b : Bool) → is_silent table c.function ≡ b → (with_piece table (Call c) m ≡ m → (with_all table n ps g).pieces ≡ g.pieces ++ from table n m.count m.is_behind ps)
          → (with_piece table (Call c) m ≡ with_other false m → (with_all table n ps (with_normalized (Call c) g)).pieces ≡ (g.pieces ++ Call c ∷ []) ++ from table n m.count false ps)
          → (with_all table n ps (cond (is_silent table c.function) g (with_normalized (Call c) g))).pieces ≡ g.pieces ++ cond (is_silent table c.function) (from table n m.count m.is_behind ps) (Call c ∷ from table n m.count false ps)
      by true b left_out kept_on =
          ap (λ t. (with_all table n ps (cond t g (with_normalized (Call c) g))).pieces) b
          ∙ left_out (ap (λ b. with_other b m) b)
          ∙ ap (λ t. g.pieces ++ cond t (from table n m.count m.is_behind ps) (Call c ∷ from table n m.count false ps)) (sym b)
      by false b left_out kept_on =
          ap (λ t. (with_all table n ps (cond t g (with_normalized (Call c) g))).pieces) b
          ∙ kept_on (ap (λ b. with_other b m) b)
          ∙ one_on g.pieces (Call c) _
          ∙ ap (λ t. g.pieces ++ cond t (from table n m.count m.is_behind ps) (Call c ∷ from table n m.count false ps)) (sym b)

  -- ---- a label leads to the same pieces

  -- where a label leads, among pieces behind so many labels: to a label among them, or right to their beginning
  pub data Leads (e : NamesView) (r count : ℕ) (behind : Bool) (ps rest : List PieceView) : Type 0 where
    ahead : (k : ℕ) (b : Bool) → count ≤ r → behind_mark r (from table e count behind ps) ≡ Some (from table e k b rest) → Leads e r count behind ps rest
    here : (k : ℕ) (b : Bool) → behind ≡ true → r ≡ count - 1 → from table e count behind ps ≡ from table e k b rest → Leads e r count behind ps rest

  leads_over : (e : NamesView) (r count : ℕ) (behind : Bool) (p q : PieceView) (ps rest : List PieceView) → ((xs : List PieceView) → behind_mark r (q ∷ xs) ≡ behind_mark r xs) → from table e count behind (p ∷ ps) ≡ q ∷ from table e count false ps → Leads e r count false ps rest → Leads e r count behind (p ∷ ps) rest
  leads_over e r count behind p q ps rest over is (ahead k b le found) = ahead k b le (ap (λ xs. behind_mark r xs) is ∙ over _ ∙ found)
  leads_over e r count behind p q ps rest over is (here k b now same found) = absurd (true_is_not now)

  some_same : {A : Type 0} (x y : A) → Some x ≡ Some y → x ≡ y
  some_same x y is = cc

  same_mark : (k r : ℕ) (xs : List PieceView) → r ≡ k → behind_mark r (Mark k ∷ xs) ≡ Some xs
  same_mark k r xs is = ap (λ t. cond t (Some xs) (behind_mark r xs)) (eq-eqb r k is)

  other_mark : (k r : ℕ) (xs : List PieceView) → (r == k) ≡ false → behind_mark r (Mark k ∷ xs) ≡ behind_mark r xs
  other_mark k r xs is = ap (λ t. cond t (Some xs) (behind_mark r xs)) is

  not_same : (k r : ℕ) → k + 1 ≤ r → (r == k) ≡ false
  not_same k r le = by (r == k) refl
    where
      no : r ≡ k → ⊥
      no e = omega (arith, e, le)

      by : (b : Bool) → (r == k) ≡ b → (r == k) ≡ false
      by false e = e
      by true e = absurd (no (eqb-true r k e))

  pub leads : (e n : NamesView) (l : ℕ) (ps rest : List PieceView) (m : NamesView) → n ≡ with_pieces table ps m → Once (length m.to) ps → behind_mark l ps ≡ Some rest → Leads e (renamed n l) m.count m.is_behind ps rest
  leads e n l [] rest m is once found = cc
  leads e n l (Do s ∷ ps) rest m is once found = leads_over e (renamed n l) m.count m.is_behind (Do s) (Do s) ps rest (λ xs. refl) refl (leads e n l ps rest (with_other false m) is (once_next table (Do s) ps m once) found)
  leads e n l (DoIfUsed s ∷ ps) rest m is once found = leads_over e (renamed n l) m.count m.is_behind (DoIfUsed s) (DoIfUsed s) ps rest (λ xs. refl) refl (leads e n l ps rest (with_other false m) is (once_next table (DoIfUsed s) ps m once) found)
  leads e n l (End s exits ∷ ps) rest m is once found =
      leads_over e (renamed n l) m.count m.is_behind (End s exits) (renamed_end e s exits) ps rest (λ xs. refl) refl (leads e n l ps rest (with_other false m) is (once_next table (End s exits) ps m once) found)
  leads e n l (Call c ∷ ps) rest m is once found = by (is_silent table c.function) refl (λ same. leads e n l ps rest m (is ∙ ap (λ x. with_pieces table ps x) same) (once_behind (length m.to) (Call c) ps once) found) (λ other. leads e n l ps rest (with_other false m) (is ∙ ap (λ x. with_pieces table ps x) other) (once_behind (length m.to) (Call c) ps once) found)
    where
      through : from table e m.count m.is_behind (Call c ∷ ps) ≡ from table e m.count m.is_behind ps → Leads e (renamed n l) m.count m.is_behind ps rest → Leads e (renamed n l) m.count m.is_behind (Call c ∷ ps) rest
      through same (ahead k t le to) = ahead k t le (ap (λ xs. behind_mark (renamed n l) xs) same ∙ to)
      through same (here k t now r to) = here k t now r (same ∙ to)

      by : (b : Bool) → is_silent table c.function ≡ b → (with_piece table (Call c) m ≡ m → Leads e (renamed n l) m.count m.is_behind ps rest) → (with_piece table (Call c) m ≡ with_other false m → Leads e (renamed n l) m.count false ps rest) → Leads e (renamed n l) m.count m.is_behind (Call c ∷ ps) rest
      by true b left_out kept_on = through (ap (λ t. cond t (from table e m.count m.is_behind ps) (Call c ∷ from table e m.count false ps)) b) (left_out (ap (λ b. with_other b m) b))
      by false b left_out kept_on =
          leads_over e (renamed n l) m.count m.is_behind (Call c) (Call c) ps rest (λ xs. refl) (ap (λ t. cond t (from table e m.count m.is_behind ps) (Call c ∷ from table e m.count false ps)) b) (kept_on (ap (λ b. with_other b m) b))
  leads e n l (Mark j ∷ ps) rest m is once found = by m.is_behind refl (l == j) refl (λ further. leads e n l ps rest (with_label j m) is (once_next table (Mark j) ps m once) further)
    where
      begun_again : m.is_behind ≡ true → with_begun m ≡ m
      begun_again b = ap (λ b. cond b m (record { to = m.to; count = m.count + 1; is_behind = true })) b

      begun_new : m.is_behind ≡ false → with_begun m ≡ record { to = m.to; count = m.count + 1; is_behind = true }
      begun_new b = ap (λ b. cond b m (record { to = m.to; count = m.count + 1; is_behind = true })) b

      more_less : (k : ℕ) → k + 1 - 1 ≡ k
      more_less k = omega arith

      le_refl : (k r : ℕ) → r ≡ k → k ≤ r
      le_refl k r e = omega (arith, e)

      le_less : (k r : ℕ) → k + 1 ≤ r → k ≤ r
      le_less k r le = omega (arith, le)

      at_true : m.is_behind ≡ true → from table e m.count m.is_behind (Mark j ∷ ps) ≡ from table e m.count true ps
      at_true b = ap (λ t. cond t (from table e m.count true ps) (Mark m.count ∷ from table e (m.count + 1) true ps)) b

      at_false : m.is_behind ≡ false → from table e m.count m.is_behind (Mark j ∷ ps) ≡ Mark m.count ∷ from table e (m.count + 1) true ps
      at_false b = ap (λ t. cond t (from table e m.count true ps) (Mark m.count ∷ from table e (m.count + 1) true ps)) b

      number : l ≡ j → renamed n l ≡ (with_begun m).count - 1
      number same = ap (λ k. renamed n k) same ∙ ap (λ x. renamed x j) is ∙ number_of_next table j ps m once

      is_rest : (l == j) ≡ true → ps ≡ rest
      is_rest t = some_same ps rest (ap (λ t. cond t (Some ps) (behind_mark l ps)) (sym t) ∙ found)

      not_here : (l == j) ≡ false → behind_mark l ps ≡ Some rest
      not_here t = ap (λ t. cond t (Some ps) (behind_mark l ps)) (sym t) ∙ found

      Further : Type 0
      Further = behind_mark l ps ≡ Some rest → Leads e (renamed n l) (with_label j m).count (with_label j m).is_behind ps rest

      old : m.is_behind ≡ true → Leads e (renamed n l) m.count true ps rest → Leads e (renamed n l) m.count m.is_behind (Mark j ∷ ps) rest
      old b (ahead k t le to) = ahead k t le (ap (λ xs. behind_mark (renamed n l) xs) (at_true b) ∙ to)
      old b (here k t now r to) = here k t b r (at_true b ∙ to)

      fresh : m.is_behind ≡ false → Leads e (renamed n l) (m.count + 1) true ps rest → Leads e (renamed n l) m.count m.is_behind (Mark j ∷ ps) rest
      fresh b (ahead k t le to) =
          ahead k t (le_less m.count (renamed n l) le)
          (ap (λ xs. behind_mark (renamed n l) xs) (at_false b) ∙ other_mark m.count (renamed n l) _ (not_same m.count (renamed n l) le) ∙ to)
      fresh b (here k t now r to) =
          let same = r ∙ more_less m.count in
          ahead k t (le_refl m.count (renamed n l) same) (ap (λ xs. behind_mark (renamed n l) xs) (at_false b) ∙ same_mark m.count (renamed n l) _ same ∙ ap Some to)

      by : (b : Bool) → m.is_behind ≡ b → (t : Bool) → (l == j) ≡ t → Further → Leads e (renamed n l) m.count m.is_behind (Mark j ∷ ps) rest
      by true b true t further = here m.count true b (number (eqb-true l j t) ∙ ap (λ (x : NamesView). x.count - 1) (begun_again b)) (at_true b ∙ ap (λ xs. from table e m.count true xs) (is_rest t))
      by false b true t further =
          let r : renamed n l ≡ m.count = number (eqb-true l j t) ∙ ap (λ (x : NamesView). x.count - 1) (begun_new b) ∙ more_less m.count in
          ahead (m.count + 1) true (le_refl m.count (renamed n l) r)
          (ap (λ xs. behind_mark (renamed n l) xs) (at_false b) ∙ same_mark m.count (renamed n l) _ r ∙ ap (λ xs. Some (from table e (m.count + 1) true xs)) (is_rest t))
      by true b false t further =
          let same = begun_again b in
          old b (subst (λ (x : NamesView). Leads e (renamed n l) x.count true ps rest) same (subst (λ c. Leads e (renamed n l) (with_label j m).count c ps rest) (ap (λ (x : NamesView). x.is_behind) same ∙ b) (further (not_here t))))
      by false b false t further =
          let same = begun_new b in
          fresh b (subst (λ (x : NamesView). Leads e (renamed n l) x.count x.is_behind ps rest) same (further (not_here t)))

-- ---- whole templates

module _ (table : List (Option FunctionCounts)) (t : TemplateView) (once : Once t.labels t.pieces) where
  abbrev pub own : NamesView
  own = renaming table t.pieces t.labels

  pub all_once : Once (length (no_names t.labels).to) t.pieces
  all_once = subst (λ k. Once k t.pieces) (sym (length-replicate t.labels 0)) once

  pub normalized_from : (normalized table t).pieces ≡ from table own 0 false t.pieces
  normalized_from = settles_from table own t.pieces (no_names t.labels) nothing_normalized refl all_once (record { newest = λ e. absurd (true_is_not e); before = λ k le. refl })

  -- a label leads to what is left of the pieces to which it leads
  pub led : (l : ℕ) (rest : List PieceView) → behind_mark l t.pieces ≡ Some rest → (k : ℕ) × (b : Bool) × (behind_mark (renamed own l) (normalized table t).pieces ≡ Some (from table own k b rest))
  led l rest found = by (leads table own own l t.pieces rest (no_names t.labels) refl all_once found)
    where
      by : Leads table own (renamed own l) 0 false t.pieces rest → (k : ℕ) × (b : Bool) × (behind_mark (renamed own l) (normalized table t).pieces ≡ Some (from table own k b rest))
      by (ahead k b le to) = (k, b, ap (λ ps. behind_mark (renamed own l) ps) normalized_from ∙ to)
      by (here k b now r to) = absurd (true_is_not now)
