-- Templates as they are made are bounded where the settled ones are.
use Rattle.std.proofs.Common.{◌≡◌, ◌≤◌, ◌<◌, ◌⊎◌, inl, inr, ℕ, zero, suc, ◌+◌, Bool, true, false, cond, List, [], ◌∷◌, length, slice_get, Option, Some, refl, arith, ap, sym, subst, ◌∙◌}
use Rattle.c_layout.specs.CheckedUnits.{UnitView}
use Rattle.lower_templates.specs.Worklist.Acts.{Step}
use Rattle.lower_templates.specs.Worklist.Pieces.{ExitView, PieceView, Do, DoIfUsed, End, Mark, Call, TemplateView}
use Rattle.lower_objects.specs.declared.counts.function_counts.FunctionCounts.{FunctionCounts}
use Rattle.lower_tables.specs.Counts.NormalizedTemplates.{NamesView, is_silent, renamed, renamed_exits}
use Rattle.lower_tables.specs.Counts.Preparations.{Reaches, further, Calls, Counts, counts}
use Rattle.semantics.specs.TemplateMachine.TemplateExits.{behind_mark}
use Rattle.simulation_layout.specs.Normalized.NormalizedRuns.{Settles}
use Rattle.simulation_layout.proofs.normalized.NormalizedPieces.{from, own, normalized_from, led}
use Rattle.simulation_layout.proofs.normalized.QuietFunctions.{Quiet, AreIdle, idle_template, silent_is_quiet}
use Rattle.simulation_units.specs.Termination.BoundedTemplates.{AreLast, ExitsGoOn, GoOn, IsBounded, HasBound}
use Rattle.simulation_units.proofs.termination.Lists.{itself, last_behind, last_next, compared, has_bound}

-- ---- what is left of pieces

module _ (table : List (Option FunctionCounts)) (e : NamesView) where
  abbrev left : ℕ → Bool → List PieceView → ℕ
  left k b ps = length (from table e k b ps)

  -- the numbers of labels do not count
  same_left : (ps : List PieceView) (j k : ℕ) (b : Bool) → left j b ps ≡ left k b ps
  same_left [] j k b = refl
  same_left (Do s ∷ ps) j k b = ap suc (same_left ps j k false)
  same_left (DoIfUsed s ∷ ps) j k b = ap suc (same_left ps j k false)
  same_left (End s exits ∷ ps) j k b = ap suc (same_left ps j k false)
  same_left (Mark l ∷ ps) j k b = by b (same_left ps j k true) (same_left ps (j + 1) (k + 1) true)
    where
      by : (b : Bool) → left j true ps ≡ left k true ps → left (j + 1) true ps ≡ left (k + 1) true ps → length (cond b (from table e j true ps) (Mark j ∷ from table e (j + 1) true ps)) ≡ length (cond b (from table e k true ps) (Mark k ∷ from table e (k + 1) true ps))
      by true one other = one
      by false one other = ap suc other
  same_left (Call c ∷ ps) j k b = by (is_silent table c.function) (same_left ps j k b) (same_left ps j k false)
    where
      by : (t : Bool) → left j b ps ≡ left k b ps → left j false ps ≡ left k false ps → length (cond t (from table e j b ps) (Call c ∷ from table e j false ps)) ≡ length (cond t (from table e k b ps) (Call c ∷ from table e k false ps))
      by true one other = one
      by false one other = ap suc other

  -- where the end of a block is among the last pieces, more is left of them than of what stands behind it
  more_left : (s : Step) (exits : List ExitView) (ps : List PieceView) (j : ℕ) (xs : List PieceView) (k : ℕ) (b : Bool) → AreLast (End s exits ∷ ps) xs → left j false ps < left k b xs
  more_left s exits ps j [] k b last = absurd (none last)
    where
      none : End s exits ∷ ps ≡ [] → ⊥
      none e = cc
  more_left s exits ps j (x ∷ xs) k b (inl is) = subst (λ ys. left j false ps < left k b ys) is (next (left j false ps) (left k false ps) (same_left ps j k false))
    where
      next : (m n : ℕ) → m ≡ n → m < suc n
      next m n e = omega (arith, e)
  more_left s exits ps j (Do i ∷ xs) k b (inr last) = one_more (left j false ps) (left k false xs) (more_left s exits ps j xs k false last)
    where
      one_more : (m n : ℕ) → m < n → m < suc n
      one_more m n less = omega (arith, less)
  more_left s exits ps j (DoIfUsed i ∷ xs) k b (inr last) = one_more (left j false ps) (left k false xs) (more_left s exits ps j xs k false last)
    where
      one_more : (m n : ℕ) → m < n → m < suc n
      one_more m n less = omega (arith, less)
  more_left s exits ps j (End i others ∷ xs) k b (inr last) = one_more (left j false ps) (left k false xs) (more_left s exits ps j xs k false last)
    where
      one_more : (m n : ℕ) → m < n → m < suc n
      one_more m n less = omega (arith, less)
  more_left s exits ps j (Mark l ∷ xs) k b (inr last) = by b (more_left s exits ps j xs k true last) (more_left s exits ps j xs (k + 1) true last)
    where
      one_more : (m n : ℕ) → m < n → m < suc n
      one_more m n less = omega (arith, less)

      by : (b : Bool) → left j false ps < left k true xs → left j false ps < left (k + 1) true xs → left j false ps < length (cond b (from table e k true xs) (Mark k ∷ from table e (k + 1) true xs))
      by true one other = one
      by false one other = one_more (left j false ps) (left (k + 1) true xs) other
  more_left s exits ps j (Call c ∷ xs) k b (inr last) = by (is_silent table c.function) (more_left s exits ps j xs k b last) (more_left s exits ps j xs k false last)
    where
      one_more : (m n : ℕ) → m < n → m < suc n
      one_more m n less = omega (arith, less)

      by : (t : Bool) → left j false ps < left k b xs → left j false ps < left k false xs → left j false ps < length (cond t (from table e k b xs) (Call c ∷ from table e k false xs))
      by true one other = one
      by false one other = one_more (left j false ps) (left k false xs) other

-- last pieces are no more
last_shorter : (rest ps : List PieceView) → AreLast rest ps → length rest ≤ length ps
last_shorter rest [] is = subst (λ xs. length xs ≤ 0) (sym is) (omega arith)
last_shorter rest (p ∷ ps) (inl is) = subst (λ xs. length xs ≤ suc (length ps)) (sym is) (same (suc (length ps)))
  where
    same : (k : ℕ) → k ≤ k
    same k = omega arith
last_shorter rest (p ∷ ps) (inr last) = more (length rest) (length ps) (last_shorter rest ps last)
  where
    more : (m n : ℕ) → m ≤ n → m ≤ suc n
    more m n le = omega (arith, le)

-- ---- calls to come

later : (p : PieceView) (ps : List PieceView) (m : ℕ) → Calls ps m → Calls (p ∷ ps) m
later p ps m (at, q, there, calls) = (suc at, q, there, calls)

abbrev AllReached : UnitView → List PieceView → Type 0
AllReached u ps = (m : ℕ) → Calls ps m → Reaches u m

reached_later : (u : UnitView) (p : PieceView) (ps : List PieceView) → AllReached u (p ∷ ps) → AllReached u ps
reached_later u p ps reached m calls = reached m (later p ps m calls)

module _ (u : UnitView) (made settles : ℕ → TemplateView) (known : (n : ℕ) → Reaches u n → Settles u n (made n) (settles n)) where
  all_reached : (n : ℕ) → Reaches u n → AllReached u (made n).pieces
  all_reached n r m calls = let k = known n r in further n m k.function (made n) r k.is_template calls

  -- ---- functions that add no instruction

  abbrev IsKnown : ℕ → Type 0
  IsKnown m = Reaches u m → HasBound made m

  idle_go_on : (whole ps : List PieceView) → AreIdle IsKnown ps → AllReached u ps → GoOn (HasBound made) whole ps
  idle_go_on whole [] idle reached = tt
  idle_go_on whole (Do s ∷ ps) idle reached = absurd idle.0
  idle_go_on whole (DoIfUsed s ∷ ps) idle reached = absurd idle.0
  idle_go_on whole (End s exits ∷ ps) idle reached = absurd idle.0
  idle_go_on whole (Mark l ∷ ps) idle reached = idle_go_on whole ps idle.1 (reached_later u (Mark l) ps reached)
  idle_go_on whole (Call c ∷ ps) idle reached = (idle.0 (reached c.function (0, Call c, refl, refl)), idle_go_on whole ps idle.1 (reached_later u (Call c) ps reached))

  quiet_bound : (n : ℕ) (c : FunctionCounts) → Counts u n c → c.from_empty.instructions ≡ 0 → IsKnown n
  quiet_bound n c (counts _ g s table is all each) none = λ r.
      (has_bound made n (idle_go_on (made n).pieces (made n).pieces
      (idle_template IsKnown u n (known n r).function g (made n) s table (known n r).is_template is all each (λ m x there quiet. quiet_bound m x (each m x there) quiet) none)
      (all_reached n r)))

  silent_bound : (table : List (Option FunctionCounts)) (m : ℕ) → ((n : ℕ) (c : FunctionCounts) → slice_get table n ≡ Some (Some c) → Counts u n c) → is_silent table m ≡ true → IsKnown m
  silent_bound table m are silent = let q : Quiet u m = silent_is_quiet u table m are silent in quiet_bound m q.counts q.are_counts q.none

  -- ---- one function

  module _ (depth : ℕ) (called : (m : ℕ) → Reaches u m → IsBounded settles depth m → HasBound made m) (n : ℕ) (r : Reaches u n) where
    abbrev k : Settles u n (made n) (settles n)
    k = known n r

    abbrev names : NamesView
    names = own k.table (made n) k.once

    abbrev remains : ℕ → Bool → List PieceView → List PieceView
    remains j b ps = from k.table names j b ps

    abbrev Goes : List PieceView → Type 0
    Goes qs = GoOn (IsBounded settles depth) (settles n).pieces qs

    no_more : (a b c : ℕ) → a ≤ b → b < c → a ≡ c → ⊥
    no_more a b c le less e = omega (arith, le, less, e)

    lead_on : (s : Step) (exits : List ExitView) (ps : List PieceView) (j : ℕ) → AreLast (End s exits ∷ ps) (made n).pieces → (es : List ExitView) → ExitsGoOn (settles n).pieces (remains j false ps) (renamed_exits names es) → ExitsGoOn (made n).pieces ps es
    lead_on s exits ps j last [] lead = tt
    lead_on s exits ps j last (e ∷ es) (one, lead) = ((λ rest found. by rest found (compared (End s exits) ps rest (made n).pieces last (last_behind e.to (made n).pieces rest found))), lead_on s exits ps j last es lead)
      where
        by : (rest : List PieceView) → behind_mark e.to (made n).pieces ≡ Some rest → AreLast rest ps ⊎ AreLast (End s exits ∷ ps) rest → AreLast rest ps
        by rest found (inl is) = is
        by rest found (inr more) =
            let (i, b, to) = led k.table (made n) k.once e.to rest found in
            let there : behind_mark (renamed names e.to) (settles n).pieces ≡ Some (remains i b rest) = ap (λ (t : TemplateView). behind_mark (renamed names e.to) t.pieces) k.is_normalized ∙ to in
            absurd (no_more (length (remains i b rest)) (length (remains j false ps)) (length (remains i b rest)) (last_shorter (remains i b rest) (remains j false ps) (one (remains i b rest) there)) (more_left k.table names s exits ps j rest i b more) refl)

    go_on : (j : ℕ) (b : Bool) (ps : List PieceView) → AreLast ps (made n).pieces → AllReached u ps → GoOn (IsBounded settles depth) (settles n).pieces (remains j b ps) → GoOn (HasBound made) (made n).pieces ps
    go_on j b [] last reached go = tt
    go_on j b (Do s ∷ ps) last reached go = go_on j false ps (last_next (Do s) ps (made n).pieces last) (reached_later u (Do s) ps reached) go
    go_on j b (DoIfUsed s ∷ ps) last reached go = go_on j false ps (last_next (DoIfUsed s) ps (made n).pieces last) (reached_later u (DoIfUsed s) ps reached) go
    go_on j b (End s exits ∷ ps) last reached (lead, go) = (lead_on s exits ps j last exits lead, go_on j false ps (last_next (End s exits) ps (made n).pieces last) (reached_later u (End s exits) ps reached) go)
    go_on j b (Mark l ∷ ps) last reached go = by b (λ x. go_on j true ps (last_next (Mark l) ps (made n).pieces last) (reached_later u (Mark l) ps reached) x) (λ x. go_on (j + 1) true ps (last_next (Mark l) ps (made n).pieces last) (reached_later u (Mark l) ps reached) x) go
      where
        by : (b : Bool) → (Goes (remains j true ps) → GoOn (HasBound made) (made n).pieces ps) → (Goes (remains (j + 1) true ps) → GoOn (HasBound made) (made n).pieces ps) → Goes (cond b (remains j true ps) (Mark j ∷ remains (j + 1) true ps)) → GoOn (HasBound made) (made n).pieces ps
        by true one other go = one go
        by false one other go = other go
    go_on j b (Call c ∷ ps) last reached go =
        by (is_silent k.table c.function) refl
        (reached c.function (0, Call c, refl, refl))
        (λ x. go_on j b ps (last_next (Call c) ps (made n).pieces last) (reached_later u (Call c) ps reached) x)
        (λ x. go_on j false ps (last_next (Call c) ps (made n).pieces last) (reached_later u (Call c) ps reached) x)
        go
      where
        by : (t : Bool) → is_silent k.table c.function ≡ t → Reaches u c.function → (Goes (remains j b ps) → GoOn (HasBound made) (made n).pieces ps) → (Goes (remains j false ps) → GoOn (HasBound made) (made n).pieces ps)
            → Goes (cond t (remains j b ps) (Call c ∷ remains j false ps)) → HasBound made c.function × GoOn (HasBound made) (made n).pieces ps
        by true silent there one other go = (silent_bound k.table c.function k.are_counts silent there, one go)
        by false silent there one other (is, go) = (called c.function there is, other go)

    one_bound : IsBounded settles (suc depth) n → HasBound made n
    one_bound is =
        has_bound made n (go_on 0 false (made n).pieces (itself (made n).pieces) (all_reached n r)
        (subst (λ ps. GoOn (IsBounded settles depth) (settles n).pieces ps) (ap (λ (t : TemplateView). t.pieces) k.is_normalized ∙ normalized_from k.table (made n) k.once) is))

  pub made_bound : (depth n : ℕ) → Reaches u n → IsBounded settles depth n → HasBound made n
  made_bound zero n r is = absurd is
  made_bound (suc depth) n r is = one_bound depth (λ m reached bounded. made_bound depth m reached bounded) n r is
