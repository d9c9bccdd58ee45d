-- Calls of functions of the unit, and returns from them, in both machines.
use Rattle.std.proofs.Common.{◌≡◌, ◌≤◌, ◌<◌, ℕ, zero, suc, ◌+◌, ◌-◌, ℤ, Bool, true, false, cond, List, [], ◌∷◌, ◌++◌, length, Option, Some, refl, arith, ap, sym, subst, ◌∙◌, append_assoc}
use Rattle.std.proofs.lemmas.Bool.{lt-ltb, le-ltb}
use Rattle.std.proofs.lemmas.List.{length-append}
use Rattle.cc_base.specs.declared.diagnostics.Place.{Place}
use Rattle.cc_base.specs.declared.diagnostics.Rule.{Rule}
use Rattle.c_layout.specs.CheckedUnits.{FunctionView}
use Rattle.lower_templates.specs.Worklist.Acts.{Act}
use Rattle.lower_templates.specs.Worklist.Pieces.{PieceView, Call}
use Rattle.memory_model.specs.Memory.Instances.{Memory}
use Rattle.memory_model.specs.Memory.Scalars.{Scalar}
use Rattle.memory_model.specs.Effects.NumberedTables.{empty_table}
use Rattle.memory_model.specs.Effects.Worlds.{Violation}
use Rattle.semantics.specs.SourceMachine.Items as item
use Rattle.semantics.specs.SourceMachine.Items.{Item}
use Rattle.semantics.specs.SourceMachine.StatementItems.{body}
use Rattle.semantics.specs.SourceMachine.SourceStates as states
use Rattle.semantics.specs.SourceMachine.SourceStates.{Frame}
use Rattle.semantics.specs.SourceMachine.CallSteps.{prologue}
use Rattle.semantics.specs.SourceMachine.ObjectSteps as steps
use Rattle.semantics.specs.SourceMachine.SourceSteps as turns
use Rattle.semantics.specs.SourceMachine.SourceSteps.{is_entry}
use Rattle.semantics.specs.SourceMachine.SourceRuns as source
use Rattle.semantics.specs.TemplateMachine.TemplateStates as template
use Rattle.semantics.specs.TemplateMachine.TemplateStates.{Templates, TemplateState}
use Rattle.semantics.specs.TemplateMachine.TemplateActs.{perform}
use Rattle.semantics.specs.TemplateMachine.TemplateSteps as runs
use Rattle.semantics.specs.TemplateMachine.TemplateSteps.{from_temp, up_to}
use Rattle.simulation_terms.specs.Instructions.Acts.{Holds}
use Rattle.simulation_terms.specs.SimulationRelation.Activations.{Activation, templates_of, activation}
use Rattle.simulation_terms.specs.SimulationRelation.Simulates as simulates
use Rattle.simulation_terms.specs.SimulationRelation.Simulates.{pieces, Simulates, AllSimulate, IsCalled, CallsThere, Reached, behind_own}
use Rattle.simulation_terms.proofs.simulation_relation.FewerTurns.{less}
use Rattle.simulation_terms.specs.SmallSteps.Alike as alike
use Rattle.simulation_terms.specs.SmallSteps.Alike.{Waits, Alike, Next}
use Rattle.simulation_terms.proofs.small_steps.StepsAlike.{Below, src, std, one_piece, some_left}

-- ---- functions that wait

-- they wait for fewer turns too
pub wait_less : {t : Templates} (n : ℕ) {callers : List Frame} {below : List Scalar} {waiting : List template.Frame} → Waits t (suc n) callers below waiting → Waits t n callers below waiting
wait_less n alike.none = alike.none
wait_less n (alike.more g names items vs temps ps at used callers below waiting reached f holds rest) = alike.more g names items vs temps ps at used callers below waiting reached (less n _ items ps f) holds (wait_less n rest)

pub no_callers : (callers : List Frame) → is_entry callers ≡ true → callers ≡ []
no_callers [] entry = refl
no_callers (caller ∷ callers) entry = absurd (never entry)
  where
    never : false ≡ true → ⊥
    never e = cc

not_empty : {A : Type 0} (x : A) (xs : List A) → [] ≡ x ∷ xs → ⊥
not_empty x xs e = cc

abbrev first_used : List Frame → Bool
first_used [] = false
first_used (f ∷ fs) = f.used

abbrev first_place : Place → List Frame → Place
first_place place [] = place
first_place place (f ∷ fs) = f.at

-- the newest one waits at the same place, and uses the value in both machines or in none
if_used_by : (t : Templates) (n : ℕ) (callers : List Frame) (below : List Scalar) (waiting : List template.Frame) → Waits t n callers below waiting → (caller : Frame) (others : List Frame) → callers ≡ caller ∷ others → (a : Act) (r : TemplateState)
    → runs.if_used t a r waiting ≡ cond caller.used (runs.instruction caller.at (perform t a r)) (runs.quiet r)
if_used_by t n _ _ _ alike.none caller others is a r = absurd (not_empty caller others is)
if_used_by t n _ _ _ (alike.more g names items vs temps ps at used callers below waiting reached f holds rest) caller others is a r =
    ap (λ b. cond b (runs.instruction at (perform t a r)) (runs.quiet r)) (ap first_used is) ∙ ap (λ place. cond caller.used (runs.instruction place (perform t a r)) (runs.quiet r)) (ap (first_place at) is)

pub done_if_used : (t : Activation) (n : ℕ) (under : Below t n) (caller : Frame) (others : List Frame) → t.callers ≡ caller ∷ others → (a : Act) (r : TemplateState)
    → runs.if_used (templates_of t) a r under.waiting ≡ cond caller.used (runs.instruction caller.at (perform (templates_of t) a r)) (runs.quiet r)
done_if_used t n under caller others is a r = if_used_by (templates_of t) n t.callers under.values under.waiting under.waits caller others is a r

-- ---- calls

-- the newest so many values, and those before them
pub data Parted : List Scalar → ℕ → ℕ → Type 0 where
  parted : (args vs : List Scalar) → Parted (args ++ vs) (length vs) (length args)

one_newer : {ws : List Scalar} {d n : ℕ} (v : Scalar) → Parted ws d n → Parted (v ∷ ws) d (suc n)
one_newer v (parted args vs) = parted (v ∷ args) vs

pub parted_at : (ws : List Scalar) (d n : ℕ) → length ws ≡ d + n → Parted ws d n
parted_at ws d zero e = subst (λ k. Parted ws k 0) (none d (length ws) e) (parted [] ws)
  where
    none : (d m : ℕ) → m ≡ d + 0 → m ≡ d
    none d m e = omega (arith, e)
parted_at [] d (suc n) e = absurd (too_few d n e)
  where
    too_few : (d n : ℕ) → 0 ≡ d + suc n → ⊥
    too_few d n e = omega (arith, e)
parted_at (v ∷ ws) d (suc n) e = one_newer v (parted_at ws d n (less d n (length ws) e))
  where
    less : (d n m : ℕ) → suc m ≡ d + suc n → m ≡ d + n
    less d n m e = omega (arith, e)

holds_older : (args vs : List Scalar) (temps : ℕ → Option Scalar) → Holds (args ++ vs) temps → Holds vs temps
holds_older [] vs temps holds = holds
holds_older (a ∷ args) vs temps holds = holds_older args vs temps holds.1

-- the arguments stand in the first temporaries of the function that is called
holds_newer : (args vs : List Scalar) (temps : ℕ → Option Scalar) → Holds (args ++ vs) temps → Holds args (from_temp (length vs) temps)
holds_newer [] vs temps holds = tt
holds_newer (a ∷ args) vs temps (here, rest) = (subst (λ k. temps k ≡ Some a) (length-append args vs ∙ turned (length args) (length vs)) here, holds_newer args vs temps rest)
  where
    turned : (m n : ℕ) → m + n ≡ n + m
    turned m n = omega arith

module _ (t : Activation) (n : ℕ) (under : Below t n) (all : AllSimulate (templates_of t)) (names : ℕ → Option ℕ) (memory : Memory) (draws : List ℤ) (found also : List Violation) (count : ℕ) (old new : List Rule) (same : found ≡ also) where
  pub called : (g : ℕ) (at : Place) (used : Bool) (f : FunctionView) (items : List Item) (temps : ℕ → Option Scalar) (ps : List PieceView) (ws : List Scalar) (d many : ℕ) → Parted ws d many → many ≡ f.parameters → IsCalled t.unit g used f → CallsThere (pieces t) g → Simulates t n (behind_own used d) items ps → Holds ws temps
      → Alike (templates_of t) n (source.running (record (src t n under names (item.Invoke at g many used ∷ items) ws memory draws) { world = record { memory = memory; draws = draws; violated = old } }) found count) (template.running (std t n under names (Call (record { place = at; function = g; depth = d; used = used }) ∷ ps) temps memory draws new) also)
      → Next (templates_of t) n (source.running (record (src t n under names (item.Invoke at g many used ∷ items) ws memory draws) { world = record { memory = memory; draws = draws; violated = old } }) found count) (source.turned_on found count (turns.turn_by t.unit (src t n under names (item.Invoke at g many used ∷ items) ws memory draws) (item.Invoke at g many used ∷ items)))
      (template.running (std t n under names (Call (record { place = at; function = g; depth = d; used = used }) ∷ ps) temps memory draws new) also)
  called g at used f items temps ps _ _ _ (parted args vs) is_many is stands go holds start =
      let u = templates_of t in
      let many = length args in
      let before = source.running (record (src t n under names (item.Invoke at g many used ∷ items) (args ++ vs) memory draws) { world = record { memory = memory; draws = draws; violated = old } }) found count in
      let caller : Frame = record { function = t.function; names = names; control = items; at = at; used = used } in
      let below = vs ++ under.values in
      let waiting : List template.Frame = record { function = t.function; rest = ps; temps = temps; names = names; depth = length vs; at = at; used = used } ∷ under.waiting in
      let reached : Reached u g = simulates.called t.function g under.reached stands in
      let begins = all t.function g f caller t.callers under.reached stands is n in
      let inside : Simulates (activation u g (caller ∷ t.callers)) n many (prologue f many ++ body f) (t.of g).pieces = subst (λ k. Simulates (activation u g (caller ∷ t.callers)) n k (prologue f k ++ body f) (t.of g).pieces) (sym is_many) begins in
      let r = template.running (std t n under names (Call (record { place = at; function = g; depth = length vs; used = used }) ∷ ps) temps memory draws new) also in
      let state : FunctionView → List Scalar → states.State = λ f values. record { function = g; names = empty_table; control = prologue f many ++ body f; values = values; frames = caller ∷ t.callers; world = record { memory = memory; draws = draws; violated = [] } } in
      subst (λ o. Next u n before (source.turned_on found count (turns.quiet (states.if_some (src t n under names items (args ++ vs) memory draws) o (λ f. steps.on (state f ((args ++ vs) ++ under.values)))))) r) (sym is.is)
      (subst (λ values. Next u n before (source.turned_on found count (turns.quiet (steps.on (state f values)))) r) (sym (append_assoc args vs under.values))
      (one_piece u n before _ r (some_left _ _) start (alike.both_run _ _ _ _ _ (alike.related g empty_table (prologue f many ++ body f) args (from_temp (length vs) temps) (t.of g).pieces memory draws [] [] (caller ∷ t.callers) below waiting reached
      (alike.plain _ args (from_temp (length vs) temps) (t.of g).pieces inside (holds_newer args vs temps holds))
      (alike.more t.function names items vs temps ps at used t.callers under.values under.waiting under.reached go (holds_older args vs temps holds) under.waits)) (ap (λ xs. xs ++ []) same))))

-- ---- returns

up_to_below : (depth : ℕ) (old new : ℕ → Option Scalar) (k : ℕ) → k < depth → up_to depth old new k ≡ old k
up_to_below depth old new k less = ap (λ (b : Bool). elim b [ true ↦ old k | false ↦ new (k - depth) ]) (lt-ltb k depth less)

up_to_first : (depth : ℕ) (old new : ℕ → Option Scalar) → up_to depth old new depth ≡ new 0
up_to_first depth old new = ap (λ (b : Bool). elim b [ true ↦ old depth | false ↦ new (depth - depth) ]) (le-ltb depth depth (omega arith)) ∙ ap new (none depth)
  where
    none : (d : ℕ) → d - d ≡ 0
    none d = omega arith

holds_back : (vs : List Scalar) (depth : ℕ) (old new : ℕ → Option Scalar) → length vs ≤ depth → Holds vs old → Holds vs (up_to depth old new)
holds_back [] depth old new le holds = tt
holds_back (v ∷ vs) depth old new le (here, rest) = (up_to_below depth old new (length vs) (omega (arith, le)) ∙ here, holds_back vs depth old new (omega (arith, le)) rest)

module _ (t : Templates) (n g : ℕ) (names : ℕ → Option ℕ) (memory : Memory) (draws : List ℤ) (found also : List Violation) (count : ℕ) (old new : List Rule) (same : found ≡ also) where
  -- the function that runs has nothing left to do
  abbrev ended : List Frame → List Scalar → List Scalar → source.SourceRun
  ended callers below rs = source.running (record { function = g; names = names; control = []; values = rs ++ below; frames = callers; world = record { memory = memory; draws = draws; violated = old } }) found count

  abbrev nothing_left : List template.Frame → (ℕ → Option Scalar) → template.TemplateRun
  nothing_left waiting temps = template.running (record { function = g; rest = []; temps = temps; names = names; frames = waiting; world = record { memory = memory; draws = draws; violated = new } }) also

  abbrev Back : List Frame → List Scalar → List template.Frame → List Scalar → (ℕ → Option Scalar) → Type 0
  Back callers below waiting rs temps = Alike t n (ended callers below rs) (nothing_left waiting temps) → Next t n (ended callers below rs)
      (source.turned_on found count (turns.return_to t.unit (record { function = g; names = names; control = []; values = rs ++ below; frames = callers; world = record { memory = memory; draws = draws; violated = [] } }) callers))
      (nothing_left waiting temps)

  back_with : (used : Bool) (h : ℕ) (others : ℕ → Option ℕ) (items : List Item) (vs : List Scalar) (table : ℕ → Option Scalar) (ps : List PieceView) (at : Place) (callers : List Frame) (below : List Scalar) (waiting : List template.Frame) (rs : List Scalar) (temps : ℕ → Option Scalar)
      → Reached t h → Simulates (activation t h callers) n (behind_own used (length vs)) items ps → Holds vs table → Waits t n callers below waiting → Holds rs temps → length rs ≡ behind_own used 0
      → Back (record { function = h; names = others; control = items; at = at; used = used } ∷ callers) (vs ++ below) (record { function = h; rest = ps; temps = table; names = others; depth = length vs; at = at; used = used } ∷ waiting) rs temps
  back_with false h others items vs table ps at callers below waiting [] temps reached f holds rest held e =
      λ start. one_piece t n _ _ _ (λ e. refl) start (alike.both_run _ _ _ _ _ (alike.related h others items vs (up_to (length vs) table temps) ps memory draws [] [] callers below waiting reached (alike.plain items vs _ ps f (holds_back vs (length vs) table temps (omega arith) holds)) rest) (ap (λ xs. xs ++ []) same))
  back_with true h others items vs table ps at callers below waiting (v ∷ []) temps reached f holds rest held e =
      λ start. one_piece t n _ _ _ (λ e. refl) start (alike.both_run _ _ _ _ _ (alike.related h others items (v ∷ vs) (up_to (length vs) table temps) ps memory draws [] [] callers below waiting reached
      (alike.plain items (v ∷ vs) _ ps f (up_to_first (length vs) table temps ∙ held.0, holds_back vs (length vs) table temps (omega arith) holds)) rest) (ap (λ xs. xs ++ []) same))
  back_with false h others items vs table ps at callers below waiting (v ∷ rs) temps reached f holds rest held e = absurd (none (length rs) e)
    where
      none : (m : ℕ) → suc m ≡ 0 → ⊥
      none m e = omega (arith, e)
  back_with true h others items vs table ps at callers below waiting [] temps reached f holds rest held e = absurd (none 0 e)
    where
      none : (m : ℕ) → 0 ≡ suc m → ⊥
      none m e = omega (arith, e)
  back_with true h others items vs table ps at callers below waiting (v ∷ (x ∷ rs)) temps reached f holds rest held e = absurd (many (length rs) e)
    where
      many : (m : ℕ) → suc (suc m) ≡ 1 → ⊥
      many m e = omega (arith, e)

  pub returned : (callers : List Frame) (below : List Scalar) (waiting : List template.Frame) → Waits t n callers below waiting → (caller : Frame) (others : List Frame) → callers ≡ caller ∷ others → (rs : List Scalar) (temps : ℕ → Option Scalar) → Holds rs temps → length rs ≡ behind_own caller.used 0
      → Back callers below waiting rs temps
  returned _ _ _ alike.none caller others is rs temps held e = absurd (not_empty caller others is)
  returned _ _ _ (alike.more h names items vs table ps at used callers below waiting reached f holds rest) caller others is rs temps held e =
      back_with used h names items vs table ps at callers below waiting rs temps reached f holds rest held (e ∙ ap (λ b. behind_own b 0) (sym (ap first_used is)))
