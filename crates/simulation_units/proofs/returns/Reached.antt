-- Each state of the templates stands where the source stands after some turn, for any number of turns more.
use Rattle.std.proofs.Common.{◌≡◌, ◌≤◌, ◌<◌, ℕ, zero, suc, ◌+◌, ◌-◌, ℤ, nat_lt, Bool, true, false, List, [], ◌∷◌, length, Option, refl, arith, ap, sym, subst, ◌∙◌}
use Rattle.std.proofs.lemmas.Bool.{ltb-true, ltb-false}
use Rattle.memory_model.specs.Memory.Scalars.{Scalar}
use Rattle.memory_model.specs.Effects.Worlds.{World, Why, Violation}
use Rattle.lower_templates.specs.Worklist.Pieces.{PieceView}
use Rattle.semantics.specs.SourceMachine.Items as item
use Rattle.semantics.specs.SourceMachine.Items.{Item}
use Rattle.semantics.specs.SourceMachine.SourceStates.{Frame, State, function_at}
use Rattle.semantics.specs.SourceMachine.SourceRuns as source
use Rattle.semantics.specs.SourceMachine.SourceRuns.{SourceRun, Run, body_of}
use Rattle.semantics.specs.TemplateMachine.TemplateStates as template
use Rattle.semantics.specs.TemplateMachine.TemplateStates.{Templates, TemplateRun}
use Rattle.semantics.specs.TemplateMachine.TemplateSteps as runs
use Rattle.semantics.specs.TemplateMachine.TemplateSteps.{template_begin, steps_from}
use Rattle.simulation_layout.specs.Normalized.NormalizedRuns.{AtReturn, ReturnsWith}
use Rattle.simulation_terms.specs.SimulationRelation.Activations.{Activation, entry_of}
use Rattle.simulation_terms.specs.SimulationRelation.Simulates as simulates
use Rattle.simulation_terms.specs.SimulationRelation.Simulates.{Simulates, AllSimulate, pieces}
use Rattle.simulation_terms.specs.SmallSteps.Alike as alike
use Rattle.simulation_terms.specs.SmallSteps.Alike.{Lined, Waits, Alike, Next, moves, moves_next, rest_of}
use Rattle.simulation_terms.proofs.simulation_relation.FewerTurns.{less}
use Rattle.simulation_terms.proofs.small_steps.CallsAlike.{wait_less}
use Rattle.simulation_terms.proofs.small_steps.TurnsSimulate.{simulate, begun, steps_on}
use Rattle.simulation_units.specs.Returns.QuietTurns as quiet_turns
use Rattle.simulation_units.specs.Returns.QuietTurns.{Comes}
use Rattle.simulation_units.specs.Returns.Returns.{AtEnd, EndsWith}
use Rattle.simulation_units.proofs.returns.QuietTurns.{quiet_turns_end}

-- ---- fewer turns

lined_less : {t : Activation} (n : ℕ) {items : List Item} {vs : List Scalar} {temps : ℕ → Option Scalar} {ps : List PieceView} → Lined t (suc n) items vs temps ps → Lined t n items vs temps ps
lined_less n (alike.plain items vs temps ps f holds) = alike.plain items vs temps ps (less n _ items ps f) holds
lined_less n (alike.loose v items vs temps ps f holds) = alike.loose v items vs temps ps (less n _ items ps f) holds
lined_less n (alike.put b items vs temps ps f holds) = alike.put b items vs temps ps (less n _ items ps f) holds
lined_less n (alike.twice v at operation a items vs temps ps is f holds) = alike.twice v at operation a items vs temps ps is (less n _ items ps f) holds

alike_less : (t : Templates) (n : ℕ) (a : SourceRun) (b : TemplateRun) → Alike t (suc n) a b → Alike t n a b
alike_less t n _ _ (alike.both_run _ _ found also count (alike.related g names items vs temps ps memory draws old new callers below waiting reached l waits) same) = alike.both_run _ _ found also count (alike.related g names items vs temps ps memory draws old new callers below waiting reached (lined_less n l) (wait_less n waits)) same
alike_less t n _ _ (alike.both_stopped why memory draws old new found also count same) = alike.both_stopped why memory draws old new found also count same

alike_fewer : (t : Templates) (n m : ℕ) (a : SourceRun) (b : TemplateRun) → Alike t (n + m) a b → Alike t n a b
alike_fewer t n zero a b both = subst (λ k. Alike t k a b) (plus_zero n) both
  where
    plus_zero : (n : ℕ) → n + 0 ≡ n
    plus_zero n = omega arith
alike_fewer t n (suc m) a b both = alike_fewer t n m a b (alike_less t (n + m) a b (subst (λ k. Alike t k a b) (plus_suc n m) both))
  where
    plus_suc : (n m : ℕ) → n + suc m ≡ suc (n + m)
    plus_suc n m = omega arith

-- ---- where no pieces are left

some_left : {x : PieceView} {xs : List PieceView} → x ∷ xs ≡ [] → ⊥
some_left e = cc

still : false ≡ true → ⊥
still e = cc

-- nothing is left to do either, unless a turn is no step
nothing_there : {t : Activation} (n d : ℕ) (items : List Item) (ps : List PieceView) → Simulates t (suc n) d items ps → ps ≡ [] → moves items ≡ true → items ≡ []
nothing_there n _ _ _ (simulates.goes_back _ _ _ _) empty now = refl
nothing_there n _ _ _ (simulates.finish _ _ _ _ _) empty now = refl
nothing_there n _ _ _ (simulates.by_mark _ _ _ _ _ _) empty now = absurd (some_left empty)
nothing_there n _ _ _ (simulates.value _ _ _ _ _ _) empty now = absurd (still now)
nothing_there n _ _ _ (simulates.unused _ _ _ _ _ _) empty now = absurd (still now)
nothing_there n _ _ _ (simulates.address _ _ _ _ _ _) empty now = absurd (still now)
nothing_there n _ _ _ (simulates.statement _ _ _ _ _ _) empty now = absurd (still now)
nothing_there n _ _ _ (simulates.in_while _ _ _ _ _ _ _) empty now = absurd (still now)
nothing_there n _ _ _ (simulates.in_do _ _ _ _ _ _ _) empty now = absurd (still now)
nothing_there n _ _ _ (simulates.in_for _ _ _ _ _ _ _ _) empty now = absurd (still now)
nothing_there n _ _ _ (simulates.turn_end _ _ _ _ _) empty now = absurd (still now)
nothing_there n _ _ _ (simulates.loop_end _ _ _ _ _) empty now = absurd (still now)
nothing_there n _ _ _ (simulates.break_out _ _ _ _ _) empty now = absurd (still now)
nothing_there n _ _ _ (simulates.next_turn _ _ _ _ _) empty now = absurd (still now)
nothing_there n _ _ _ (simulates.go_to _ _ _ _ _ _ _ _ _ _) empty now = absurd (still now)
nothing_there n _ _ _ (simulates.leave_function _ _ _ _ _ _ _) empty now = absurd (still now)
nothing_there n _ _ _ (simulates.end_body _ _ _ _ _ _ _) empty now = absurd (still now)
nothing_there n _ _ _ (simulates.does _ _ _ _ _ _ _ _ _ _) empty now = absurd (some_left empty)
nothing_there n _ _ _ (simulates.stores _ _ _ _ _ _ _) empty now = absurd (some_left empty)
nothing_there n _ _ _ (simulates.again _ _ _ _ _ _ _ _ _) empty now = absurd (some_left empty)
nothing_there n _ _ _ (simulates.calls_library _ _ _ _ _ _ _ _ _ _) empty now = absurd (some_left empty)
nothing_there n _ _ _ (simulates.drop _ _ _ _ _) empty now = absurd (still now)
nothing_there n _ _ _ (simulates.object _ _ _ _ _ _ _ _ _ _) empty now = absurd (some_left empty)
nothing_there n _ _ _ (simulates.literal _ _ _ _ _ _ _ _ _) empty now = absurd (some_left empty)
nothing_there n _ _ _ (simulates.on_object _ _ _ _ _ _ _ _ _ _) empty now = absurd (some_left empty)
nothing_there n _ _ _ (simulates.enters_none _ _ _ _ _) empty now = absurd (still now)
nothing_there n _ _ _ (simulates.enters _ _ _ _ _ _ _ _ _) empty now = absurd (some_left empty)
nothing_there n _ _ _ (simulates.leaves_none _ _ _ _ _) empty now = absurd (still now)
nothing_there n _ _ _ (simulates.leaves _ _ _ _ _ _ _ _ _) empty now = absurd (some_left empty)
nothing_there n _ _ _ (simulates.choose _ _ _ _ _ _ _ _ _ _ _ _ _ _ _ _ _ _ _ _ _ _ _ _ _ _ _ _) empty now = absurd (some_left empty)
nothing_there n _ _ _ (simulates.read_line _ _ _ _ _ _ _ _ _ _ _ _ _ _ _) empty now = absurd (some_left empty)
nothing_there n _ _ _ (simulates.read_value _ _ _ _ _ _ _ _ _ _) empty now = absurd (some_left empty)
nothing_there n _ _ _ (simulates.select _ _ _ _ _ _ _ _ _ _ _ _) empty now = absurd (some_left empty)
nothing_there n _ _ _ (simulates.hop _ _ _ _ _ _ _ _) empty now = absurd (some_left empty)
nothing_there n _ _ _ (simulates.calls _ _ _ _ _ _ _ _ _ _ _) empty now = absurd (some_left empty)
nothing_there n _ _ _ (simulates.binds _ _ _ _ _ _ _ _ _ _ _) empty now = absurd (some_left empty)
nothing_there n _ _ _ (simulates.enters_outcome _ _ _ _ _ _ _ _ _ _) empty now = absurd (some_left empty)
nothing_there n _ _ _ (simulates.outcome _ _ _ _ _ _ _ _ _ _) empty now = absurd (some_left empty)
nothing_there n _ _ _ (simulates.leaves_outcome _ _ _ _ _ _ _ _ _ _ _) empty now = absurd (some_left empty)
nothing_there n _ _ _ (simulates.used_outcome _ _ _ _ _ _ _ _ _ _ _ _ _ _) empty now = absurd (some_left empty)
nothing_there n _ _ _ (simulates.does_if_used _ _ _ _ _ _ _ _ _ _ _ _ _ _) empty now = absurd (some_left empty)
nothing_there n _ _ _ (simulates.by_unused _ _ _ _ _ _ _ _ _ _) empty now = absurd (some_left empty)

-- both name the same
at_return : (t : Templates) (Q : (ℕ → Option ℕ) → Type 0) (n : ℕ) (callers : List Frame) (below : List Scalar) (waiting : List template.Frame) (names : ℕ → Option ℕ) → Waits t n callers below waiting → AtEnd Q callers names → AtReturn Q waiting names
at_return t Q n _ _ _ names alike.none q = tt
at_return t Q n _ _ _ names (alike.more g others items vs temps ps at used callers below waiting reached f holds rest) q = q

lined_there : (Q : (ℕ → Option ℕ) → Type 0) {t : Activation} (n : ℕ) {items : List Item} {vs : List Scalar} {temps : ℕ → Option Scalar} {ps : List PieceView} → Lined t (suc n) items vs temps ps → ps ≡ [] → moves items ≡ true → items ≡ []
lined_there Q n (alike.plain items vs temps ps f holds) empty now = nothing_there n _ items ps f empty now
lined_there Q n (alike.loose v items vs temps ps f holds) empty now = absurd (still now)
lined_there Q n (alike.put b items vs temps ps f holds) empty now = absurd (still now)
lined_there Q n (alike.twice v at operation a items vs temps ps is f holds) empty now = absurd (some_left empty)

-- where a step, a call or a return comes next
returns_there : (t : Templates) (Q : (ℕ → Option ℕ) → Type 0) (n : ℕ) (s : State) (found : List Violation) (steps : ℕ) (b : TemplateRun) → moves s.control ≡ true → EndsWith Q (source.running s found steps) → Alike t (suc n) (source.running s found steps) b → rest_of b ≡ [] → ReturnsWith Q b
returns_there t Q n _ _ _ _ now ends (alike.both_run _ _ found also count (alike.related g names items vs temps ps memory draws old new callers below waiting reached l waits) same) empty =
    λ left. at_return t Q (suc n) callers below waiting names waits (ends (lined_there Q n l empty now))

-- the next turns of a run
turns_later : (t : Templates) (r : SourceRun) (m : ℕ) → source.turns_from t.unit (source.next t.unit r) m ≡ source.turns_from t.unit r (suc m)
turns_later t r zero = refl
turns_later t r (suc m) = ap (source.next t.unit) (turns_later t r m)

module _ (t : Templates) (all : AllSimulate t) where
  -- where no pieces are left, turns that are no step lead to where nothing is left to do
  returns_behind : (Q : (ℕ → Option ℕ) → Type 0) (k : ℕ) (r : SourceRun) (b : TemplateRun) → Comes t.unit k r → ((m : ℕ) → EndsWith Q (source.turns_from t.unit r m)) → (n : ℕ) → Alike t (n + suc k) r b → rest_of b ≡ [] → ReturnsWith Q b
  returns_behind Q _ _ b (quiet_turns.has_stopped why w found steps) ends n both empty = stopped both
    where
      stopped : {n : ℕ} {why : Why} {w : World} {found : List Violation} {steps : ℕ} {b : TemplateRun} → Alike t n (source.stopped why w found steps) b → ReturnsWith Q b
      stopped (alike.both_stopped _ _ _ _ _ _ _ _ _) = tt
  returns_behind Q _ _ b (quiet_turns.there s found steps now) ends n both empty = returns_there t Q n s found steps b now (ends 0) (subst (λ k. Alike t k (source.running s found steps) b) (plus_one n) both) empty
    where
      plus_one : (n : ℕ) → n + 1 ≡ suc n
      plus_one n = omega arith
  returns_behind Q _ _ b (quiet_turns.quiet k r quiet later) ends n both empty =
      let x = simulate t all (n + suc k) r b (subst (λ k. Alike t k r b) (plus_suc n (suc k)) both) in
      let same : steps_from t x.steps b ≡ b = ap (λ k. steps_from t k b) (x.rests quiet empty) in
      returns_behind Q k (source.next t.unit r) b later (λ m. subst (EndsWith Q) (sym (turns_later t r m)) (ends (suc m))) n (subst (λ b. Alike t (n + suc k) (source.next t.unit r) b) same x.both) empty
    where
      plus_suc : (n m : ℕ) → n + suc m ≡ suc (n + m)
      plus_suc n m = omega arith

  module _ (start : (n : ℕ) → Simulates (entry_of t) n 0 (body_of (function_at t.unit t.unit.entry)) (pieces (entry_of t))) (draws : List ℤ) where
    -- so many turns later at most, the templates are a piece further
    record Further (n i : ℕ) (most : ℕ) (b : TemplateRun) : Type 0 where
      turn : ℕ
      early : turn ≤ most
      both : Alike t n (Run t.unit draws turn) (runs.next t b)

    moved : (n i : ℕ) (b : TemplateRun) (x : Next t n (Run t.unit draws i) (source.next t.unit (Run t.unit draws i)) b) (k : ℕ) → x.steps ≡ suc k → Further n i (suc i) b
    moved n i b x zero is = record { turn = suc i; early = itself (suc i); both = subst (λ k. Alike t n (Run t.unit draws (suc i)) (steps_from t k b)) is x.both }
      where
        itself : (k : ℕ) → k ≤ k
        itself k = omega arith
    moved n i b x (suc k) is = record { turn = i; early = one_less i; both = x.between 1 (subst (λ k. 1 < k) (sym is) (more k)) }
      where
        one_less : (k : ℕ) → k ≤ suc k
        one_less k = omega arith

        more : (k : ℕ) → 1 < suc (suc k)
        more k = omega arith

    later_on : (n i m most : ℕ) (b : TemplateRun) → m ≤ most → Further n i m b → Further n i most b
    later_on n i m most b le f = record { turn = f.turn; early = through f.turn m most f.early le; both = f.both }
      where
        through : (a b c : ℕ) → a ≤ b → b ≤ c → a ≤ c
        through a b c x y = omega (arith, x, y)

    further : (k i : ℕ) (r : SourceRun) (b : TemplateRun) → Comes t.unit k r → r ≡ Run t.unit draws i → (n : ℕ) → Alike t (n + suc k) (Run t.unit draws i) b → Further n i (i + suc k) b
    further _ i _ b (quiet_turns.has_stopped why w found steps) is n both =
        record { turn = i; early = less_or i; both = stands (source.stopped why w found steps) (Run t.unit draws i) b is refl both }
      where
        less_or : (i : ℕ) → i ≤ i + 1
        less_or i = omega arith

        stays : {m : ℕ} {why : Why} {w : World} {found : List Violation} {steps : ℕ} (b : TemplateRun) → Alike t m (source.stopped why w found steps) b → Alike t n (source.stopped why w found steps) (runs.next t b)
        stays _ (alike.both_stopped why memory draws old new found also count same) = alike.both_stopped why memory draws old new found also count same

        stands : (r a : SourceRun) (b : TemplateRun) → r ≡ a → r ≡ source.stopped why w found steps → Alike t (n + 1) a b → Alike t n a (runs.next t b)
        stands r a b e f both = subst (λ x. Alike t n x (runs.next t b)) (sym f ∙ e) (stays b (subst (λ x. Alike t (n + 1) x b) (sym (sym f ∙ e)) both))
    further _ i _ b (quiet_turns.there s found steps now) is n both =
        let x = simulate t all n (Run t.unit draws i) b (subst (λ k. Alike t k (Run t.unit draws i) b) (plus_one n) both) in
        by x x.steps refl
      where
        plus_one : (n : ℕ) → n + 1 ≡ suc n
        plus_one n = omega arith

        same_one : (i : ℕ) → suc i ≤ i + 1
        same_one i = omega arith

        both_ways : {a : Bool} → a ≡ true → a ≡ false → ⊥
        both_ways one other = cc

        by : (x : Next t n (Run t.unit draws i) (source.next t.unit (Run t.unit draws i)) b) (k : ℕ) → x.steps ≡ k → Further n i (i + 1) b
        by x zero e = absurd (both_ways (subst (λ r. moves_next r ≡ true) is now) (x.moved e))
        by x (suc k) e = later_on n i (suc i) (i + 1) b (same_one i) (moved n i b x k e)
    further _ i _ b (quiet_turns.quiet k r quiet later) is n both =
        let x = simulate t all (n + suc k) (Run t.unit draws i) b (subst (λ k. Alike t k (Run t.unit draws i) b) (plus_suc n (suc k)) both) in
        by (λ z. further k (suc i) (source.next t.unit r) b later (ap (source.next t.unit) is) n z) x x.steps refl
      where
        plus_suc : (n m : ℕ) → n + suc m ≡ suc (n + m)
        plus_suc n m = omega arith

        moved_on : (i k : ℕ) → suc i + suc k ≡ i + suc (suc k)
        moved_on i k = omega arith

        enough : (i k : ℕ) → suc i ≤ i + suc (suc k)
        enough i k = omega arith

        weaker : (m : ℕ) → Further (n + suc k) i m b → Further n i m b
        weaker m f = record { turn = f.turn; early = f.early; both = alike_fewer t n (suc k) (Run t.unit draws f.turn) (runs.next t b) f.both }

        by : (Alike t (n + suc k) (Run t.unit draws (suc i)) b → Further n (suc i) (suc i + suc k) b) → (x : Next t (n + suc k) (Run t.unit draws i) (source.next t.unit (Run t.unit draws i)) b) (j : ℕ) → x.steps ≡ j → Further n i (i + suc (suc k)) b
        by again x zero e =
            let f = again (subst (λ j. Alike t (n + suc k) (Run t.unit draws (suc i)) (steps_from t j b)) e x.both) in
            record { turn = f.turn; early = subst (λ m. f.turn ≤ m) (moved_on i k) f.early; both = f.both }
        by again x (suc j) e = later_on n i (suc i) (i + suc (suc k)) b (enough i k) (weaker (suc i) (moved (n + suc k) i b x j e))

    -- ---- all states

    abbrev quiets : ℕ → ℕ
    quiets i = (quiet_turns_end t.unit (Run t.unit draws i)).0

    total : ℕ → ℕ
    total zero = quiets 0
    total (suc b) = total b + quiets (suc b)

    below_total : (b i : ℕ) → i ≤ b → quiets i ≤ total b
    unfolding total
    below_total zero i le = subst (λ k. quiets k ≤ quiets 0) (empty i le) (itself (quiets 0))
      where
        empty : (i : ℕ) → i ≤ 0 → 0 ≡ i
        empty i le = omega (arith, le)

        itself : (k : ℕ) → k ≤ k
        itself k = omega arith
    below_total (suc b) i le = by (λ i le. below_total b i le) (nat_lt i (suc b)) refl
      where
        last : (m k : ℕ) → k ≤ m + k
        last m k = omega arith

        more : (a m k : ℕ) → a ≤ m → a ≤ m + k
        more a m k le = omega (arith, le)

        smaller : (i b : ℕ) → i < suc b → i ≤ b
        smaller i b less = omega (arith, less)

        same : (i b : ℕ) → i ≤ suc b → suc b ≤ i → suc b ≡ i
        same i b le ge = omega (arith, le, ge)

        by : ((i : ℕ) → i ≤ b → quiets i ≤ total b) → (c : Bool) → nat_lt i (suc b) ≡ c → quiets i ≤ total b + quiets (suc b)
        by earlier true e = more (quiets i) (total b) (quiets (suc b)) (earlier i (smaller i b (ltb-true i (suc b) e)))
        by earlier false e = subst (λ k. quiets k ≤ total b + quiets (suc b)) (same i b le (ltb-false i (suc b) e)) (last (total b) (quiets (suc b)))

    record Stands (n bound : ℕ) (b : TemplateRun) : Type 0 where
      turn : ℕ
      early : turn ≤ bound
      both : Alike t n (Run t.unit draws turn) b

    record Reached (b : TemplateRun) : Type 0 where
      bound : ℕ
      at : (n : ℕ) → Stands n bound b

    reached : (j : ℕ) → Reached (steps_from t j (template_begin t draws))
    reached zero = record { bound = 0; at = λ n. record { turn = 0; early = omega arith; both = begun t all start draws n } }
    reached (suc j) =
        let r = reached j in
        let b = steps_from t j (template_begin t draws) in
        subst Reached (steps_on t j 1 (template_begin t draws) ∙ ap (λ k. steps_from t k (template_begin t draws)) (plus_one j))
        (record {
          bound = r.bound + suc (total r.bound);
          at = λ n.
              let x = r.at (n + suc (total r.bound)) in
              let le = below_total r.bound x.turn x.early in
              let here : Alike t (n + suc (quiets x.turn)) (Run t.unit draws x.turn) b = fewer n (quiets x.turn) (total r.bound) (Run t.unit draws x.turn) b le x.both in
              let f = further (quiets x.turn) x.turn (Run t.unit draws x.turn) b (quiet_turns_end t.unit (Run t.unit draws x.turn)).1 refl n here in
              record { turn = f.turn; early = in_time f.turn x.turn (quiets x.turn) r.bound (total r.bound) f.early x.early le; both = f.both };
        })
      where
        plus_one : (j : ℕ) → j + 1 ≡ suc j
        plus_one j = omega arith

        in_time : (a i q m s : ℕ) → a ≤ i + suc q → i ≤ m → q ≤ s → a ≤ m + suc s
        in_time a i q m s x y z = omega (arith, x, y, z)

        fewer : (n q s : ℕ) (a : SourceRun) (b : TemplateRun) → q ≤ s → Alike t (n + suc s) a b → Alike t (n + suc q) a b
        fewer n q s a b le both = alike_fewer t (n + suc q) (s - q) a b (subst (λ k. Alike t k a b) (split n q s le) both)
          where
            split : (n q s : ℕ) → q ≤ s → n + suc s ≡ (n + suc q) + (s - q)
            split n q s le = omega (arith, le)

    pub source_stands : (j : ℕ) → (turn : ℕ) × Alike t 0 (Run t.unit draws turn) (steps_from t j (template_begin t draws))
    source_stands j = let x = (reached j).at 0 in (x.turn, x.both)

    pub returns_simulated : (Q : (ℕ → Option ℕ) → Type 0) → ((n : ℕ) → EndsWith Q (Run t.unit draws n)) → (j : ℕ) → ReturnsWith Q (steps_from t j (template_begin t draws))
    returns_simulated Q ends j =
        let r = reached j in
        let b = steps_from t j (template_begin t draws) in
        let x = r.at (suc (total r.bound)) in
        let q = quiets x.turn in
        let le = below_total r.bound x.turn x.early in
        let here : Alike t (0 + suc q) (Run t.unit draws x.turn) b = alike_fewer t (0 + suc q) (total r.bound - q) (Run t.unit draws x.turn) b (subst (λ k. Alike t k (Run t.unit draws x.turn) b) (split q (total r.bound) le) x.both) in
        at_end Q b (λ empty. returns_behind Q q (Run t.unit draws x.turn) b (quiet_turns_end t.unit (Run t.unit draws x.turn)).1 (λ m. subst (EndsWith Q) (sym (turns_on x.turn m)) (ends (m + x.turn))) 0 here empty)
      where
        split : (q s : ℕ) → q ≤ s → suc s ≡ (0 + suc q) + (s - q)
        split q s le = omega (arith, le)

        turns_on : (i m : ℕ) → source.turns_from t.unit (Run t.unit draws i) m ≡ Run t.unit draws (m + i)
        turns_on i zero = ap (Run t.unit draws) (zero_plus i)
          where
            zero_plus : (i : ℕ) → i ≡ 0 + i
            zero_plus i = omega arith
        turns_on i (suc m) = ap (source.next t.unit) (turns_on i m) ∙ ap (Run t.unit draws) (suc_plus m i)
          where
            suc_plus : (m i : ℕ) → suc (m + i) ≡ suc m + i
            suc_plus m i = omega arith

        at_end : (Q : (ℕ → Option ℕ) → Type 0) (b : TemplateRun) → (rest_of b ≡ [] → ReturnsWith Q b) → ReturnsWith Q b
        at_end Q (template.running s found) f = λ empty. f empty empty
        at_end Q (template.stopped why w found) f = tt
