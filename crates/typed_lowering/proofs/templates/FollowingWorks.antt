-- Works that keep to what is known: between two of them so much is known of temporaries.
use Rattle.std.proofs.Common.{◌≡◌, ◌≤◌, ◌<◌, ◌⊎◌, ℕ, zero, suc, ◌+◌, Bool, true, false, cond, List, [], ◌∷◌, ◌++◌, length, get_or, Some, None, slice_get, refl, arith, sym, subst}
use Rattle.c_layout.specs.CheckedTrees.{TermTree, LvalueTree, StatementTree}
use Rattle.c_layout.specs.CheckedUnits.{FunctionView, UnitView}
use Rattle.typed_lowering.specs.LoopedUnits.LoopedStatements.{is_looped_statement}
use Rattle.typed_programs.specs.PlainWorklists.LeadingPieces.{AllTo}
use Rattle.typed_programs.proofs.plain_worklists.LeadingWorks.{all_more}
use Rattle.lower_functions.specs.Statements.Switches.{no_dispatch}
use Rattle.lower_templates.specs.Worklist.Acts.{Step}
use Rattle.lower_templates.specs.Worklist.Pieces.{NameView, ExitView, Do, End, Mark, Way, Always, When, Case, Other, NoLine, Line}
use Rattle.lower_templates.specs.Worklist.Works as jobs
use Rattle.lower_templates.specs.Worklist.Works.{Job, behind}
use Rattle.lower_templates.specs.Worklist.Plans.{Plan, with_work, with_name, with_labels, with_scope}
use Rattle.lower_templates.specs.Worklist.Settings.{SettingView}
use Rattle.lower_templates.specs.declared.worklist.template_builder.Dispatch.{Dispatch}
use Rattle.lower_templates.specs.declared.worklist.pending_works.Decision.{Decision}
use Rattle.lower_templates.specs.declared.worklist.pending_works.Surroundings.{Surroundings}
use Rattle.lower_preconditions.specs.Units.RegularStatements.{is_regular_statement}
use Rattle.typed_programs.specs.Types.TypedPrograms.{IsKept, IsTypedWay}
use Rattle.typed_programs.specs.Types.TypedStates.{Temporaries}
use Rattle.typed_lowering.specs.Conversions.KnownValues.{nothing, below, with_value, term_known, place_known}
use Rattle.typed_lowering.specs.Conversions.TypedActs.{IsTypedAct}
use Rattle.typed_lowering.specs.Conversions.TypedPieces.{State, Leads, IsWeaker, AreTypedExits, IsTypedPiece, base_type}
use Rattle.typed_lowering.specs.Conversions.TypedStatements.{is_typed_statement}
use Rattle.typed_lowering.specs.Conversions.WorkLaws.{Extends, IsLookedAt}
use Rattle.typed_lowering.proofs.conversions.KeptKnowledge.{kept_same, kept_nothing}
use Rattle.typed_lowering.proofs.conversions.JoinedPieces.{weaker_same, leads_further, weaker_trans, piece_stronger}
use Rattle.typed_lowering.proofs.templates.NumberedLabels.{IsNumbered}

-- ---- labels

-- what is asked to be known at labels
abbrev pub Asks : Type 1
Asks = ℕ → Temporaries → Type 0

abbrev pub Meets : Asks → (ℕ → Temporaries) → Type 0
Meets K labels = (l : ℕ) (k : Temporaries) → K l k → labels l ≡ k

-- at new labels nothing is known
abbrev pub Asked : Asks → ℕ → ℕ → Asks
Asked K first last l k = K l k ⊎ ((first ≤ l) × (l < last) × (k ≡ nothing))

-- ---- statements

module _ (u : UnitView) (f : FunctionView) (calls : ℕ → Bool) where
  -- a statement that passes the looks
  pub record Looks (count : ℕ) (chosen : Bool) (i : StatementTree) : Type 0 where
    pub typed : is_typed_statement u f i ≡ true
    pub looped : is_looped_statement calls i ≡ true
    pub breaks : Bool
    pub loops : Bool
    pub regular : is_regular_statement u f breaks loops i ≡ true
    pub numbered : IsNumbered f.labels count chosen i

module _ (f : FunctionView) (s : SettingView) (ds : List Dispatch) (K : Asks) (top count : ℕ) (chosen : Bool) where
  -- where a statement may lead nothing is to be known: the switch around it has so many cases, or there is none
  pub record IsAround (on_break on_continue choice : ℕ) : Type 0 where
    pub own : (l : ℕ) → l < f.labels → K l nothing
    pub end : K s.end nothing
    pub broken : K on_break nothing
    pub continued : K on_continue nothing
    pub begun : chosen ≡ true → choice < top
    pub cases : (n : ℕ) → n < count → K (behind (get_or ds choice no_dispatch).cases n) nothing
    pub fallback : chosen ≡ true → K (get_or ds choice no_dispatch).fallback nothing

pub around_more : {f : FunctionView} {s : SettingView} {ds : List Dispatch} {K M : Asks} {top higher count : ℕ} {chosen : Bool} {on_break on_continue choice : ℕ} → ((l : ℕ) (k : Temporaries) → K l k → M l k) → top ≤ higher → IsAround f s ds K top count chosen on_break on_continue choice → IsAround f s ds M higher count chosen on_break on_continue choice
around_more {f = f} {s = s} {ds = ds} {top = top} {higher = higher} {on_break = on_break} {on_continue = on_continue} {choice = choice} more up x = record {
  own = λ l less. more l nothing (x.own l less);
  end = more s.end nothing x.end;
  broken = more on_break nothing x.broken;
  continued = more on_continue nothing x.continued;
  begun = λ is. less_on choice top higher (x.begun is) up;
  cases = λ n less. more (behind (get_or ds choice no_dispatch).cases n) nothing (x.cases n less);
  fallback = λ is. more (get_or ds choice no_dispatch).fallback nothing (x.fallback is);
}
  where
    less_on : (a b c : ℕ) → a < b → b ≤ c → a < c
    less_on a b c less le = omega (arith, less, le)

-- ---- works

module _ (u : UnitView) (f : FunctionView) (calls : ℕ → Bool) (s : SettingView) (ds : List Dispatch) (K : Asks) (top : ℕ) where
  pub record Goes (i : StatementTree) (around : Surroundings) : Type 0 where
    pub count : ℕ
    pub chosen : Bool
    pub looks : Looks u f calls count chosen i
    pub within : IsAround f s ds K top count chosen around.on_break.label around.on_continue.label around.choice

  module _ (used : Bool) (names : List NameView) where
    -- what is known before a work and behind it, whatever is known at other labels
    abbrev pub Follows : State → Job → State → Type 0
    Follows m (jobs.Value e depth) r = (before : Temporaries) × Leads m before × IsLookedAt u f calls (jobs.Value e depth) × (r ≡ Some (with_value depth (term_known e) before))
    Follows m (jobs.Unused e depth) r = (before : Temporaries) × Leads m before × IsLookedAt u f calls (jobs.Unused e depth) × (r ≡ Some (below depth before))
    Follows m (jobs.Address l depth) r = (before : Temporaries) × Leads m before × IsLookedAt u f calls (jobs.Address l depth) × (r ≡ Some (with_value depth (place_known l) before))
    Follows m (jobs.Condition e d) r = IsLookedAt u f calls (jobs.Condition e d) × K d.targets.yes nothing × K d.targets.no nothing × (r ≡ None)
    Follows m (jobs.Statement i around) r = Goes i around × (r ≡ Some nothing)
    Follows m (jobs.Ready q) r = (labels : ℕ → Temporaries) → Meets K labels → IsTypedPiece u f used names labels m q r

    abbrev pub Flow : State → List Job → State → Type 0
    Flow m [] r = IsWeaker m r
    Flow m (j ∷ js) r = (n : State) × Follows m j n × Flow n js r

    follows_stronger : (m n r : State) (j : Job) → IsWeaker m n → Follows n j r → Follows m j r
    follows_stronger m n r (jobs.Value e depth) weaker (before, leads, is, same) = (before, leads_further m n before weaker leads, is, same)
    follows_stronger m n r (jobs.Unused e depth) weaker (before, leads, is, same) = (before, leads_further m n before weaker leads, is, same)
    follows_stronger m n r (jobs.Address l depth) weaker (before, leads, is, same) = (before, leads_further m n before weaker leads, is, same)
    follows_stronger m n r (jobs.Condition e d) weaker is = is
    follows_stronger m n r (jobs.Statement i around) weaker is = is
    follows_stronger m n r (jobs.Ready q) weaker is = λ labels meets. piece_stronger u f used names labels m n r q weaker (is labels meets)

    pub flow_last : (m n r : State) (js : List Job) (j : Job) → Flow m js n → Follows n j r → Flow m (js ++ j ∷ []) r
    flow_last m n r [] j weaker is = (r, follows_stronger m n r j weaker is, weaker_same r)
    flow_last m n r (k ∷ js) j (o, one, rest) is = (o, one, flow_last o n r js j rest is)

    pub flow_weaker : (m n r : State) (js : List Job) → Flow m js n → IsWeaker n r → Flow m js r
    flow_weaker m n r [] first weaker = weaker_trans m n r first weaker
    flow_weaker m n r (j ∷ js) (o, one, rest) weaker = (o, one, flow_weaker o n r js rest weaker)

-- nothing is what every state leads to
pub leads_nothing : (m : State) → Leads m nothing
leads_nothing None = tt
leads_nothing (Some known) = kept_nothing known

-- ---- names

slice_get_first : (xs ys : List NameView) (n : ℕ) (x : NameView) → slice_get xs n ≡ Some x → slice_get (xs ++ ys) n ≡ Some x
slice_get_first [] ys n x e = absurd (none e)
  where
    none : None ≡ Some x → ⊥
    none e = cc
slice_get_first (y ∷ xs) ys zero x e = e
slice_get_first (y ∷ xs) ys (suc n) x e = slice_get_first xs ys n x e

slice_get_seam : (xs : List NameView) (x : NameView) → slice_get (xs ++ x ∷ []) (length xs) ≡ Some x
slice_get_seam [] x = refl
slice_get_seam (y ∷ xs) x = slice_get_seam xs x

pub extends_less : (few more names : List NameView) → Extends (few ++ more) names → Extends few names
extends_less few more names extends n x e = extends n x (slice_get_first few more n x e)

extends_before : (x : NameView) (p : Plan) (names : List NameView) → Extends (with_name x p).names names → Extends p.names names
unfolding with_name
extends_before x p names extends = extends_less p.names (x ∷ []) names extends

-- the newest name
pub named_here : (x : NameView) (p : Plan) (names : List NameView) → Extends (with_name x p).names names → slice_get names (length p.names) ≡ Some x
unfolding with_name
named_here x p names extends = extends (length p.names) x (slice_get_seam p.names x)

-- ---- what is planned

-- from a state to another one, whatever is named behind and whatever labels are new from one number on; so many labels are given away
pub record Flowing (u : UnitView) (f : FunctionView) (calls : ℕ → Bool) (s : SettingView) (ds : List Dispatch) (used : Bool) (K : Asks) (first top low : ℕ) (from to : State) (p : Plan) : Type 0 where
  pub room : low ≤ p.labels
  pub works : (names : List NameView) (last : ℕ) → Extends p.names names → p.labels ≤ last → Flow u f calls s ds (Asked K first last) top used names from p.jobs to

through : (a b c : ℕ) → a ≤ b → b ≤ c → a ≤ c
through a b c x y = omega (arith, x, y)

same_le : (a : ℕ) → a ≤ a
same_le a = omega arith

sum_le : (a b n : ℕ) → a ≤ b → a + n ≤ b + n
sum_le a b n le = omega (arith, le)

less_of_sum : (a n b : ℕ) → a + n ≤ b → a ≤ b
less_of_sum a n b le = omega (arith, le)

pub way_nothing : (w : Way) (before : Temporaries) → IsTypedWay w before nothing
way_nothing Always before = kept_nothing before
way_nothing (When truth test None) before = kept_nothing before
way_nothing (When truth test (Some p)) before = kept_nothing _
way_nothing (Case test) before = kept_nothing before
way_nothing (Other values) before = kept_nothing before
way_nothing NoLine before = kept_nothing before
way_nothing Line before = kept_nothing before

exits_typed : (u : UnitView) (f : FunctionView) (used : Bool) (names : List NameView) (labels : ℕ → Temporaries) (es : List ExitView) → AllTo (λ l. labels l ≡ nothing) es → AreTypedExits u f used names labels nothing es
exits_typed u f used names labels [] all = tt
exits_typed u f used names labels (e ∷ es) (one, all) = (subst (λ k. IsTypedWay e.taken nothing k) (sym one) (way_nothing e.taken nothing), exits_typed u f used names labels es all)

module _ {u : UnitView} {f : FunctionView} {calls : ℕ → Bool} {s : SettingView} {ds : List Dispatch} {used : Bool} {K : Asks} {first top : ℕ} where
  pub flowing_none : (m : State) (p : Plan) → p.jobs ≡ [] → Flowing u f calls s ds used K first top p.labels m m p
  flowing_none m p none = record { room = same_le p.labels; works = λ names last extends few. subst (λ js. Flow u f calls s ds (Asked K first last) top used names m js m) (sym none) (weaker_same m) }

  pub flowing_raised : {low : ℕ} {from to : State} (higher : ℕ) (p : Plan) → higher ≤ p.labels → Flowing u f calls s ds used K first top low from to p → Flowing u f calls s ds used K first top higher from to p
  flowing_raised higher p room k = record { room = room; works = k.works }

  pub flowing_weaker : {low : ℕ} {from to : State} (r : State) (p : Plan) → IsWeaker to r → Flowing u f calls s ds used K first top low from to p → Flowing u f calls s ds used K first top low from r p
  flowing_weaker {from = from} {to = to} r p weaker k = record { room = k.room; works = λ names last extends few. flow_weaker u f calls s ds (Asked K first last) top used names from to r p.jobs (k.works names last extends few) weaker }

  pub flowing_normalized : {low : ℕ} {from to : State} (p : Plan) → Flowing u f calls s ds used K first top low from to p → Flowing u f calls s ds used K first top low from (Some nothing) p
  flowing_normalized {to = to} p k = flowing_weaker (Some nothing) p (leads_nothing to) k

  pub flowing_work : {low : ℕ} {from to : State} (r : State) (j : Job) (p : Plan) → ((names : List NameView) (last : ℕ) → Extends p.names names → low ≤ last → Follows u f calls s ds (Asked K first last) top used names to j r) → Flowing u f calls s ds used K first top low from to p → Flowing u f calls s ds used K first top low from r (with_work j p)
  unfolding with_work
  flowing_work {low = low} {from = from} {to = to} r j p is k = record {
    room = k.room;
    works = λ names last extends few. flow_last u f calls s ds (Asked K first last) top used names from to r p.jobs j (k.works names last extends few) (is names last extends (through low p.labels last k.room few));
  }

  pub flowing_name : {low : ℕ} {from to : State} (x : NameView) (p : Plan) → Flowing u f calls s ds used K first top low from to p → Flowing u f calls s ds used K first top low from to (with_name x p)
  unfolding with_name
  flowing_name x p k = record { room = k.room; works = λ names last extends few. k.works names last (extends_before x p names extends) few }

  pub flowing_labels : {low : ℕ} {from to : State} (n : ℕ) (p : Plan) → Flowing u f calls s ds used K first top low from to p → Flowing u f calls s ds used K first top (low + n) from to (with_labels n p)
  unfolding with_labels
  flowing_labels {low = low} n p k = record { room = sum_le low p.labels n k.room; works = λ names last extends few. k.works names last extends (less_of_sum p.labels n last few) }

  pub flowing_scope : {low : ℕ} {from to : State} (p : Plan) → Flowing u f calls s ds used K first top low from to p → Flowing u f calls s ds used K first top low from to (with_scope p)
  unfolding with_scope
  flowing_scope p k = record { room = k.room; works = k.works }

  -- ---- pieces

  pub flowing_do : {low : ℕ} {from : State} {before : Temporaries} (after : Temporaries) (x : Step) (p : Plan) → ((names : List NameView) → Extends p.names names → IsTypedAct u.structs u.model.pointer (base_type u f names) before after x.does)
      → Flowing u f calls s ds used K first top low from (Some before) p → Flowing u f calls s ds used K first top low from (Some after) (with_work (jobs.Ready (Do x)) p)
  flowing_do {before = before} after x p acts k = flowing_work (Some after) (jobs.Ready (Do x)) p (λ names last extends few labels meets. record { before = before; leads = kept_same before; acts = acts names extends }) k

  pub flowing_end : {low : ℕ} {from : State} (x : Step) (exits : List ExitView) (p : Plan) → ((names : List NameView) → IsTypedAct u.structs u.model.pointer (base_type u f names) nothing nothing x.does) → ((last : ℕ) → low ≤ last → AllTo (λ l. Asked K first last l nothing) exits)
      → Flowing u f calls s ds used K first top low from (Some nothing) p → Flowing u f calls s ds used K first top low from None (with_work (jobs.Ready (End x exits)) p)
  flowing_end x exits p acts asked k = flowing_work None (jobs.Ready (End x exits)) p
      (λ names last extends few labels meets.
      record { behind = nothing; done = record { before = nothing; leads = kept_same nothing; acts = acts names }; leads = exits_typed u f used names labels exits (all_more (λ l. Asked K first last l nothing) (λ l. labels l ≡ nothing) exits (λ l is. meets l nothing is) (asked last few)) }) k

  pub flowing_mark : {low : ℕ} {from : State} (l : ℕ) (p : Plan) → ((last : ℕ) → low ≤ last → Asked K first last l nothing) → Flowing u f calls s ds used K first top low from (Some nothing) p → Flowing u f calls s ds used K first top low from (Some nothing) (with_work (jobs.Ready (Mark l)) p)
  flowing_mark l p asked k = flowing_work (Some nothing) (jobs.Ready (Mark l)) p (λ names last extends few labels meets. (subst (λ k. IsKept nothing k) (sym (meets l nothing (asked last few))) (kept_same nothing), kept_nothing (labels l))) k

  -- ---- works of terms, and statements

  pub flowing_value : {low : ℕ} {from : State} {before : Temporaries} (e : TermTree) (depth : ℕ) (p : Plan) → IsLookedAt u f calls (jobs.Value e depth) → Flowing u f calls s ds used K first top low from (Some before) p
      → Flowing u f calls s ds used K first top low from (Some (with_value depth (term_known e) before)) (with_work (jobs.Value e depth) p)
  flowing_value {before = before} e depth p is k = flowing_work (Some (with_value depth (term_known e) before)) (jobs.Value e depth) p (λ names last extends few. (before, kept_same before, is, refl)) k

  pub flowing_unused : {low : ℕ} {from : State} {before : Temporaries} (e : TermTree) (depth : ℕ) (p : Plan) → IsLookedAt u f calls (jobs.Unused e depth) → Flowing u f calls s ds used K first top low from (Some before) p
      → Flowing u f calls s ds used K first top low from (Some (below depth before)) (with_work (jobs.Unused e depth) p)
  flowing_unused {before = before} e depth p is k = flowing_work (Some (below depth before)) (jobs.Unused e depth) p (λ names last extends few. (before, kept_same before, is, refl)) k

  pub flowing_address : {low : ℕ} {from : State} {before : Temporaries} (l : LvalueTree) (depth : ℕ) (p : Plan) → IsLookedAt u f calls (jobs.Address l depth) → Flowing u f calls s ds used K first top low from (Some before) p
      → Flowing u f calls s ds used K first top low from (Some (with_value depth (place_known l) before)) (with_work (jobs.Address l depth) p)
  flowing_address {before = before} l depth p is k = flowing_work (Some (with_value depth (place_known l) before)) (jobs.Address l depth) p (λ names last extends few. (before, kept_same before, is, refl)) k

  pub flowing_condition : {low : ℕ} {from : State} (e : TermTree) (d : Decision) (p : Plan) → IsLookedAt u f calls (jobs.Condition e d) → ((last : ℕ) → low ≤ last → Asked K first last d.targets.yes nothing) → ((last : ℕ) → low ≤ last → Asked K first last d.targets.no nothing)
      → Flowing u f calls s ds used K first top low from (Some nothing) p → Flowing u f calls s ds used K first top low from (Some nothing) (with_work (jobs.Condition e d) p)
  flowing_condition e d p is asked_yes asked_no k = flowing_normalized (with_work (jobs.Condition e d) p) (flowing_work None (jobs.Condition e d) p (λ names last extends few. (is, asked_yes last few, asked_no last few, refl)) k)

  pub flowing_statement : {low : ℕ} {from : State} (i : StatementTree) (around : Surroundings) (p : Plan) → ((last : ℕ) → low ≤ last → Goes u f calls s ds (Asked K first last) top i around) → Flowing u f calls s ds used K first top low from (Some nothing) p
      → Flowing u f calls s ds used K first top low from (Some nothing) (with_work (jobs.Statement i around) p)
  flowing_statement i around p goes k = flowing_work (Some nothing) (jobs.Statement i around) p (λ names last extends few. (goes last few, refl)) k

  pub flowing_or : {low : ℕ} {from to : State} (b : Bool) (p q : Plan) → Flowing u f calls s ds used K first top low from to p → Flowing u f calls s ds used K first top low from to q → Flowing u f calls s ds used K first top low from to (cond b p q)
  flowing_or true p q x y = x
  flowing_or false p q x y = y
