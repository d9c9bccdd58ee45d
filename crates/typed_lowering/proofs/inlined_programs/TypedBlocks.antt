-- A program while it is opened: each instruction so far keeps to what is known, and each edge leads to a label at which
-- no more is known. A label that is still to be marked stands at the first block, before which nothing is known.
use Rattle.std.proofs.Common.{◌≡◌, ◌≤◌, ◌<◌, ◌⊎◌, inl, inr, ℕ, zero, suc, ◌+◌, ◌-◌, ◌==◌, true, false, List, [], ◌∷◌, ◌++◌, length, replicate, get_or, Option, Some, None, slice_get, refl, arith, ap, sym, subst, ◌∙◌, length-append}
use Rattle.std.specs.List.{slice_set}
use Rattle.std.proofs.lemmas.Bool.{cases_eq, cases_lt}
use Rattle.std.proofs.lemmas.List.{get_or-set_same, get_or-set_other, get_or_append_left, get_or-append_right, length-set}
use Rattle.std.proofs.lemmas.Option.{same_Some, slice_get_within}
use Rattle.c_layout.specs.CheckedUnits.{UnitView}
use Rattle.c_layout.specs.Types.{Ty}
use Rattle.lower_templates.specs.Worklist.Acts.{Act, Step}
use Rattle.typed_programs.specs.Types.PointedTypes.{Known}
use Rattle.typed_programs.specs.Types.TypedPrograms.{IsKept, IsTypedWay}
use Rattle.typed_programs.specs.Types.TypedStates.{Temporaries}
use Rattle.lower_templates.specs.Views.ProgramViews.{BlockView, EdgeView}
use Rattle.simulation_layout.specs.Copies.LowTemporaries.{IsActLow}
use Rattle.typed_lowering.specs.Conversions.TypedActs.{IsTypedAct}
use Rattle.typed_lowering.proofs.conversions.KeptKnowledge.{kept_same, kept_trans, act_stronger}

-- ---- tables

abbrev pub changed : {A : Type 0} → (ℕ → A) → ℕ → A → ℕ → A
changed f n x m = elim (m == n) [ true ↦ x | false ↦ f m ]

pub changed_here : {A : Type 0} (f : ℕ → A) (n : ℕ) (x : A) (m : ℕ) → m ≡ n → changed f n x m ≡ x
changed_here f n x m same = grind arith

pub changed_else : {A : Type 0} (f : ℕ → A) (n : ℕ) (x : A) (m : ℕ) → (m ≡ n → ⊥) → changed f n x m ≡ f m
changed_else f n x m other = grind arith

-- bases that have a type keep it
abbrev pub Grows : (ℕ → Option Ty) → (ℕ → Option Ty) → Type 0
Grows few more = (n : ℕ) (t : Ty) → few n ≡ Some t → more n ≡ Some t

pub grows_same : (few : ℕ → Option Ty) → Grows few few
grows_same few n t is = is

pub grows_twice : (a b c : ℕ → Option Ty) → Grows a b → Grows b c → Grows a c
grows_twice a b c first second n t is = second n t (first n t is)

-- ---- edges

abbrev pub AllEdges : (EdgeView → Type 0) → List EdgeView → Type 0
AllEdges P [] = Unit {0}
AllEdges P (e ∷ es) = P e × AllEdges P es

pub edges_more : (P Q : EdgeView → Type 0) → ((e : EdgeView) → P e → Q e) → (es : List EdgeView) → AllEdges P es → AllEdges Q es
edges_more P Q more [] all = tt
edges_more P Q more (e ∷ es) (one, all) = (more e one, edges_more P Q more es all)

pub edges_append : (P : EdgeView → Type 0) (xs : List EdgeView) (x : EdgeView) → AllEdges P xs → P x → AllEdges P (xs ++ x ∷ [])
edges_append P [] x all one = (one, tt)
edges_append P (y ∷ xs) x (first, all) one = (first, edges_append P xs x all one)

-- a label is that of a block so far, before which no more is known
pub record IsNormalized (at : ℕ → Temporaries) (count : ℕ) (first : ℕ → Temporaries) (labels : List ℕ) (l : ℕ) : Type 0 where
  pub there : get_or labels l 0 ≤ count
  pub kept : IsKept (at l) (first (get_or labels l 0))

pub record IsTypedEdge (at : ℕ → Temporaries) (bound : ℕ) (last : ℕ → Temporaries) (labels : List ℕ) (e : EdgeView) : Type 0 where
  pub there : e.from < bound
  pub room : e.to < length labels
  pub way : IsTypedWay e.taken (last e.from) (at e.to)

-- a label at the first block
pub normalized_first : (at : ℕ → Temporaries) (count : ℕ) (first : ℕ → Temporaries) (labels : List ℕ) (l : ℕ) → ((t : ℕ) → first 0 t ≡ None) → get_or labels l 0 ≡ 0 → IsNormalized at count first labels l
normalized_first at count first labels l none is = record { there = subst (λ n. n ≤ count) (sym is) (from_zero count); kept = subst (λ n. IsKept (at l) (first n)) (sym is) (λ t k there. absurd (no k (sym (none t) ∙ there))) }
  where
    from_zero : (n : ℕ) → 0 ≤ n
    from_zero n = omega arith

    no : (k : Known) → None ≡ Some k → ⊥
    no k e = cc

zero_repeated : (n l : ℕ) → get_or (replicate {A = ℕ} n 0) l 0 ≡ 0
zero_repeated zero l = refl
zero_repeated (suc n) zero = refl
zero_repeated (suc n) (suc l) = zero_repeated n l

-- new labels stand at the first block
zero_behind : (labels : List ℕ) (n l : ℕ) → length labels ≤ l → get_or (labels ++ replicate n 0) l 0 ≡ 0
zero_behind labels n l more = get_or-append_right labels (replicate n 0) (length labels) l 0 refl more ∙ zero_repeated n (l - length labels)

-- ---- instructions

module _ (u : UnitView) where
  -- an instruction keeps to what is known, with the types of bases now and later
  abbrev pub StepKeeps : List Ty → Temporaries → Temporaries → Act → Type 0
  StepKeeps types before after a = (more : ℕ → Option Ty) → Grows (slice_get types) more → IsActLow a → IsTypedAct u.structs u.model.pointer more before after a

  abbrev pub AreTypedSteps : List Ty → Temporaries → List Step → Temporaries → Type 0
  AreTypedSteps types before [] after = IsKept before after
  AreTypedSteps types before (s ∷ ss) after = (next : Temporaries) × StepKeeps types before next s.does × AreTypedSteps types next ss after

  steps_more : (types more : List Ty) → Grows (slice_get types) (slice_get more) → (before after : Temporaries) (ss : List Step) → AreTypedSteps types before ss after → AreTypedSteps more before ss after
  steps_more types more grows before after [] kept = kept
  steps_more types more grows before after (s ∷ ss) (next, one, rest) = (next, (λ all further low. one all (grows_twice (slice_get types) (slice_get more) all grows further) low), steps_more types more grows next after ss rest)

  steps_weaker : (types : List Ty) (before after less : Temporaries) (ss : List Step) → IsKept after less → AreTypedSteps types before ss after → AreTypedSteps types before ss less
  steps_weaker types before after less [] kept is = kept_trans before after less is kept
  steps_weaker types before after less (s ∷ ss) kept (next, one, rest) = (next, one, steps_weaker types next after less ss kept rest)

  step_added : (types : List Ty) (before now after : Temporaries) (ss : List Step) (s : Step) → AreTypedSteps types before ss now → StepKeeps types now after s.does → AreTypedSteps types before (ss ++ s ∷ []) after
  step_added types before now after [] s kept one = (after, (λ more grows low. act_stronger u.structs u.model.pointer more before now after kept s.does (one more grows low)), kept_same after)
  step_added types before now after (x ∷ ss) s (next, first, rest) one = (next, first, step_added types next now after ss s rest one)

  -- ---- programs

  -- by the parts of a program: so many blocks ended, and edges come from blocks below a number
  pub record IsTypedMade (types : List Ty) (at : ℕ → Temporaries) (count bound : ℕ) (first last : ℕ → Temporaries) (now : Temporaries) (blocks : List BlockView) (edges : List EdgeView) (labels : List ℕ) (ready : List Step) : Type 0 where
    pub counted : length blocks ≡ count
    pub done : (n : ℕ) (b : BlockView) → slice_get blocks n ≡ Some b → AreTypedSteps types (first n) b.steps (last n)
    pub current : AreTypedSteps types (first count) ready now
    pub leading : AllEdges (IsTypedEdge at bound last labels) edges
    pub normalized : (l : ℕ) → IsNormalized at count first labels l
    pub begins : (t : ℕ) → first 0 t ≡ None

  module _ (at : ℕ → Temporaries) (count bound : ℕ) (first last : ℕ → Temporaries) (blocks : List BlockView) (edges : List EdgeView) (labels : List ℕ) where
    pub made_more : (types more : List Ty) (now : Temporaries) (ready : List Step) → Grows (slice_get types) (slice_get more) → IsTypedMade types at count bound first last now blocks edges labels ready → IsTypedMade more at count bound first last now blocks edges labels ready
    made_more types more now ready grows m = record {
      counted = m.counted;
      done = λ n b is. steps_more types more grows (first n) (last n) b.steps (m.done n b is);
      current = steps_more types more grows (first count) now ready m.current;
      leading = m.leading;
      normalized = m.normalized;
      begins = m.begins;
    }

    pub made_weaker : (types : List Ty) (now less : Temporaries) (ready : List Step) → IsKept now less → IsTypedMade types at count bound first last now blocks edges labels ready → IsTypedMade types at count bound first last less blocks edges labels ready
    made_weaker types now less ready kept m = record { counted = m.counted; done = m.done; current = steps_weaker types (first count) now less ready kept m.current; leading = m.leading; normalized = m.normalized; begins = m.begins }

    pub made_step : (types : List Ty) (now after : Temporaries) (ready : List Step) (s : Step) → StepKeeps types now after s.does → IsTypedMade types at count bound first last now blocks edges labels ready → IsTypedMade types at count bound first last after blocks edges labels (ready ++ s ∷ [])
    made_step types now after ready s one m = record { counted = m.counted; done = m.done; current = step_added types (first count) now after ready s m.current one; leading = m.leading; normalized = m.normalized; begins = m.begins }

    pub made_edge : (types : List Ty) (now : Temporaries) (ready : List Step) (e : EdgeView) → IsTypedEdge at bound last labels e → IsTypedMade types at count bound first last now blocks edges labels ready → IsTypedMade types at count bound first last now blocks (edges ++ e ∷ []) labels ready
    made_edge types now ready e one m = record { counted = m.counted; done = m.done; current = m.current; leading = edges_append (IsTypedEdge at bound last labels) edges e m.leading one; normalized = m.normalized; begins = m.begins }

    -- more labels, of which the old ones are known as before
    pub made_labels : (at_ : ℕ → Temporaries) → ((l : ℕ) → l < length labels → at_ l ≡ at l) → (more : ℕ) (types : List Ty) (now : Temporaries) (ready : List Step) → IsTypedMade types at count bound first last now blocks edges labels ready → IsTypedMade types at_ count bound first last now blocks edges (labels ++ replicate more 0) ready
    made_labels at_ same more types now ready m = record {
      counted = m.counted;
      done = m.done;
      current = m.current;
      leading = edges_more (IsTypedEdge at bound last labels) (IsTypedEdge at_ bound last (labels ++ zeros)) by edges m.leading;
      normalized = λ l. normalized l (cases_lt l (length labels));
      begins = m.begins;
    }
      where
        zeros : List ℕ
        zeros = replicate more 0

        longer : (l a b c : ℕ) → c ≡ a + b → l < a → l < c
        longer l a b c is less = omega (arith, is, less)

        normalized : (l : ℕ) → (l < length labels) ⊎ (length labels ≤ l) → IsNormalized at_ count first (labels ++ zeros) l
        normalized l (inr beyond) = normalized_first at_ count first (labels ++ zeros) l m.begins (zero_behind labels more l beyond)
        normalized l (inl room) =
            let block = get_or_append_left labels zeros 0 l room in
            record { there = subst (λ n. n ≤ count) (sym block) (m.normalized l).there; kept = subst (λ n. IsKept (at_ l) (first n)) (sym block) (subst (λ k. IsKept k (first (get_or labels l 0))) (sym (same l room)) (m.normalized l).kept) }

        by : (e : EdgeView) → IsTypedEdge at bound last labels e → IsTypedEdge at_ bound last (labels ++ zeros) e
        by e x = record { there = x.there; room = longer e.to (length labels) (length zeros) (length (labels ++ zeros)) (length-append labels zeros) x.room; way = subst (IsTypedWay e.taken (last e.from)) (sym (same e.to x.room)) x.way }

  -- ---- the end of a block

  apart : (a n : ℕ) → a < n → a ≡ n → ⊥
  apart a n less is = omega (arith, less, is)

  next_up : (a n : ℕ) → a < n → a < suc n
  next_up a n less = omega (arith, less)

  module _ (at : ℕ → Temporaries) (count : ℕ) (first last : ℕ → Temporaries) (blocks : List BlockView) (edges : List EdgeView) (labels : List ℕ) (types : List Ty) (now : Temporaries) (ready : List Step) where
    -- what is known behind the current block is what is known now: edges may come from it
    pub made_closing : IsTypedMade types at count count first last now blocks edges labels ready → IsTypedMade types at count (suc count) first (changed last count now) now blocks edges labels ready
    made_closing m = record {
      counted = m.counted;
      done = λ n b is. subst (AreTypedSteps types (first n) b.steps) (sym (changed_else last count now n (apart n count (subst (λ k. n < k) m.counted (slice_get_within blocks n b is))))) (m.done n b is);
      current = m.current;
      leading = edges_more (IsTypedEdge at count last labels) (IsTypedEdge at (suc count) (changed last count now) labels) by edges m.leading;
      normalized = m.normalized;
      begins = m.begins;
    }
      where
        by : (e : EdgeView) → IsTypedEdge at count last labels e → IsTypedEdge at (suc count) (changed last count now) labels e
        by e x = record { there = next_up e.from count x.there; room = x.room; way = subst (λ k. IsTypedWay e.taken k (at e.to)) (sym (changed_else last count now e.from (apart e.from count x.there))) x.way }

    -- anything may be known before the block that comes next
    pub made_ended : (b : BlockView) → b.steps ≡ ready → IsKept now (last count) → (k : Temporaries) → IsTypedMade types at count (suc count) first last now blocks edges labels ready → IsTypedMade types at (suc count) (suc count) (changed first (suc count) k) last k (blocks ++ b ∷ []) edges labels []
    made_ended b same kept k m = record {
      counted = length-append blocks (b ∷ []) ∙ one_more (length blocks) ∙ ap suc m.counted;
      done = done;
      current = subst (λ x. IsKept x k) (sym (changed_here first (suc count) k (suc count) refl)) (kept_same k);
      leading = m.leading;
      normalized = λ l. normalized l (m.normalized l);
      begins = λ t. ap (λ x. x t) (changed_else first (suc count) k 0 (no_zero count)) ∙ m.begins t;
    }
      where
        one_more : (n : ℕ) → n + 1 ≡ suc n
        one_more n = omega arith

        no_zero : (n : ℕ) → 0 ≡ suc n → ⊥
        no_zero n is = omega (arith, is)

        not_next : (n m : ℕ) → n ≤ m → n ≡ suc m → ⊥
        not_next n m less is = omega (arith, less, is)

        before : (n : ℕ) → n ≤ count → changed first (suc count) k n ≡ first n
        before n less = changed_else first (suc count) k n (not_next n count less)

        no_more : (n m : ℕ) → n < m → n ≤ m
        no_more n m less = omega (arith, less)

        same_no_more : (n m : ℕ) → n ≡ m → n ≤ m
        same_no_more n m is = omega (arith, is)

        normalized : (l : ℕ) → IsNormalized at count first labels l → IsNormalized at (suc count) (changed first (suc count) k) labels l
        normalized l is = record { there = further (get_or labels l 0) count is.there; kept = subst (IsKept (at l)) (sym (before (get_or labels l 0) is.there)) is.kept }
          where
            further : (n m : ℕ) → n ≤ m → n ≤ suc m
            further n m less = omega (arith, less)

        last_one : (xs : List BlockView) (n : ℕ) (c : BlockView) → slice_get (xs ++ b ∷ []) n ≡ Some c → (slice_get xs n ≡ Some c) ⊎ ((n ≡ length xs) × (b ≡ c))
        last_one [] zero c is = inr (refl, same_Some b c is)
        last_one [] (suc n) c is = absurd (cc)
        last_one (x ∷ xs) zero c is = inl is
        last_one (x ∷ xs) (suc n) c is = elim (last_one xs n c is) [ inl old ↦ inl old | inr new ↦ inr (ap suc new.0, new.1) ]

        done : (n : ℕ) (c : BlockView) → slice_get (blocks ++ b ∷ []) n ≡ Some c → AreTypedSteps types (changed first (suc count) k n) c.steps (last n)
        done n c is = elim (last_one blocks n c is) [
          | inl old ↦ subst (λ x. AreTypedSteps types x c.steps (last n)) (sym (before n (no_more n count (subst (λ z. n < z) m.counted (slice_get_within blocks n c old))))) (m.done n c old)
          | inr new ↦
              (let n_is : n ≡ count = new.0 ∙ m.counted in
              let all : AreTypedSteps types (first count) ready (last count) = steps_weaker types (first count) now (last count) ready kept m.current in
              let here : AreTypedSteps types (first n) ready (last n) = subst (λ z. AreTypedSteps types (first z) ready (last z)) (sym n_is) all in
              let steps : AreTypedSteps types (first n) c.steps (last n) = subst (λ ss. AreTypedSteps types (first n) ss (last n)) (sym same ∙ ap (λ (x : BlockView). x.steps) new.1) here in
              subst (λ x. AreTypedSteps types x c.steps (last n)) (sym (before n (same_no_more n count n_is))) steps)
        ]

    -- the current block, which has no instruction, begins at a label
    pub made_labelled : (label : ℕ) → ready ≡ [] → label < length labels → at label ≡ now → IsTypedMade types at count count first last now blocks edges labels ready → IsTypedMade types at count count (changed first count now) last now blocks edges (slice_set labels label count) ready
    made_labelled label none room known m = record {
      counted = m.counted;
      done = λ n b is. subst (λ x. AreTypedSteps types x b.steps (last n)) (sym (changed_else first count now n (apart n count (subst (λ k. n < k) m.counted (slice_get_within blocks n b is))))) (m.done n b is);
      current = subst (λ ss. AreTypedSteps types (changed first count now count) ss now) (sym none) (subst (λ x. IsKept x now) (sym here) (kept_same now));
      leading = edges_more (IsTypedEdge at count last labels) (IsTypedEdge at count last (slice_set labels label count)) (λ e x. record { there = x.there; room = subst (λ n. e.to < n) (sym (length-set labels label count)) x.room; way = x.way }) edges m.leading;
      normalized = λ l. normalized l (cases_eq l label) (m.normalized l);
      begins = begins;
    }
      where
        here : changed first count now count ≡ now
        here = changed_here first count now count refl

        -- no more is known before the current block than was
        weaker : IsKept (first count) now
        weaker = subst (λ ss. AreTypedSteps types (first count) ss now) none m.current

        less_first : (n : ℕ) → IsKept (first n) (changed first count now n)
        less_first n = elim (cases_eq n count) [
          | inl is ↦ subst (IsKept (first n)) (sym (changed_here first count now n is)) (subst (λ z. IsKept (first z) now) (sym is) weaker)
          | inr other ↦ subst (IsKept (first n)) (sym (changed_else first count now n other)) (kept_same (first n))
        ]

        begins : (t : ℕ) → changed first count now 0 t ≡ None
        begins t = by (changed first count now 0 t) refl
          where
            by : (k : Option Known) → changed first count now 0 t ≡ k → changed first count now 0 t ≡ None
            by None is = is
            by (Some k) is = let old = less_first 0 t k is in let none_there = m.begins t in absurd (no old.0 (sym none_there ∙ old.1))
              where
                no : (old : Known) → None ≡ Some old → ⊥
                no old e = cc

        is_here : (l : ℕ) → l ≡ label → get_or (slice_set labels label count) l 0 ≡ count
        is_here l is = ap (λ z. get_or (slice_set labels label count) z 0) is ∙ get_or-set_same labels label count 0 room

        all_there : (n m : ℕ) → n ≡ m → n ≤ m
        all_there n m is = omega (arith, is)

        normalized : (l : ℕ) → (l ≡ label) ⊎ (l ≡ label → ⊥) → IsNormalized at count first labels l → IsNormalized at count (changed first count now) (slice_set labels label count) l
        normalized l (inl same) is = record {
          there = all_there (get_or (slice_set labels label count) l 0) count (is_here l same);
          kept = subst (λ n. IsKept (at l) (changed first count now n)) (sym (is_here l same)) (subst (IsKept (at l)) (sym here) (subst (λ k. IsKept k now) (sym (ap at same ∙ known)) (kept_same now)));
        }
        normalized l (inr other) is =
            let block = get_or-set_other labels label l count 0 other in
            record { there = subst (λ n. n ≤ count) (sym block) is.there; kept = subst (λ n. IsKept (at l) (changed first count now n)) (sym block) (kept_trans (at l) (first (get_or labels l 0)) (changed first count now (get_or labels l 0)) is.kept (less_first (get_or labels l 0))) }
