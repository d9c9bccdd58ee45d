-- Works that are planned one behind the other, by what is known between them.
use Rattle.std.proofs.Common.{◌≡◌, ◌≤◌, ◌<◌, ℕ, ◌+◌, Bool, List, [], ◌∷◌, ◌++◌, Some, None, refl, ap, sym, subst}
use Rattle.c_layout.specs.CheckedTrees.{TermTree, LvalueTree}
use Rattle.c_layout.specs.CheckedUnits.{FunctionView, UnitView}
use Rattle.lower_templates.specs.Worklist.Acts.{Step}
use Rattle.lower_templates.specs.Worklist.Pieces.{NameView, ExitView, Do, End, Mark, Call}
use Rattle.lower_templates.specs.Worklist.Works as jobs
use Rattle.lower_templates.specs.Worklist.Works.{Job}
use Rattle.lower_templates.specs.Worklist.Plans.{Plan, with_work, with_name, with_labels}
use Rattle.lower_templates.specs.declared.worklist.pending_works.Decision.{Decision}
use Rattle.lower_templates.specs.declared.worklist.template_pieces.OwnCall.{OwnCall}
use Rattle.typed_programs.specs.Types.TypedPrograms.{IsKept}
use Rattle.typed_programs.specs.Types.TypedStates.{Temporaries}
use Rattle.typed_lowering.specs.Conversions.KnownValues.{term_known, place_known, below, with_value}
use Rattle.typed_lowering.specs.Conversions.TypedActs.{IsTypedAct}
use Rattle.typed_lowering.specs.Conversions.TypedPieces.{base_type, State, Leads, IsWeaker, AreTypedExits, IsTypedPiece, IsTypedCall}
use Rattle.typed_lowering.specs.Conversions.WorkLaws.{IsLookedAt}
use Rattle.typed_lowering.proofs.conversions.KeptKnowledge.{kept_same}

-- the template of a function of a unit, and the names that it comes to have
pub record Site : Type 0 where
  pub u : UnitView
  pub f : FunctionView
  pub calls : ℕ → Bool
  pub used : Bool
  pub names : List NameView

abbrev pub Labels : Type 0
Labels = ℕ → Temporaries

-- ---- what a work needs, and what it comes to

-- a condition goes to its targets
abbrev pub Awaits : Temporaries → Job → Labels → Type 0
Awaits before (jobs.Condition e decision) labels = IsKept (below decision.depth before) (labels decision.targets.yes) × IsKept (below decision.depth before) (labels decision.targets.no)
Awaits before other labels = Unit {0}

abbrev pub state_behind : Temporaries → Job → State
state_behind before (jobs.Value e depth) = Some (with_value depth (term_known e) before)
state_behind before (jobs.Unused e depth) = Some (below depth before)
state_behind before (jobs.Address l depth) = Some (with_value depth (place_known l) before)
state_behind before (jobs.Condition e decision) = None
state_behind before (jobs.Statement i around) = None
state_behind before (jobs.Ready q) = None

-- `L` is what is asked of labels
module _ (c : Site) (L : Labels → Type 0) where
  pub record IsWork (before : Temporaries) (j : Job) (m : State) : Type 0 where
    pub looked : IsLookedAt c.u c.f c.calls j
    pub awaits : (labels : Labels) → L labels → Awaits before j labels
    pub behind : m ≡ state_behind before j

  abbrev pub IsPlannedWork : State → Job → State → Type 0
  IsPlannedWork None j m = ⊥
  IsPlannedWork (Some before) j m = IsWork before j m

  abbrev pub IsPlannedJob : State → Job → State → Type 0
  IsPlannedJob s (jobs.Ready q) m = (labels : Labels) → L labels → IsTypedPiece c.u c.f c.used c.names labels s q m
  IsPlannedJob s other m = IsPlannedWork s other m

  abbrev pub ArePlanned : State → List Job → State → Type 0
  ArePlanned s [] r = s ≡ r
  ArePlanned s (j ∷ js) r = (m : State) × IsPlannedJob s j m × ArePlanned m js r

  planned_last : (s : State) (js : List Job) (j : Job) (m r : State) → ArePlanned s js m → IsPlannedJob m j r → ArePlanned s (js ++ j ∷ []) r
  planned_last s [] j m r e is = (r, subst (λ z. IsPlannedJob z j r) (sym e) is, refl)
  planned_last s (k ∷ js) j m r (n, one, all) is = (n, one, planned_last n js j m r all is)

  -- what is planned leads from a state to another one, and so many labels are given away then
  pub record Planned (start : State) (count : ℕ) (r : State) (p : Plan) : Type 0 where
    pub works : ArePlanned start p.jobs r
    pub labels : p.labels ≡ count

  pub plan_none : (s : State) (p : Plan) → p.jobs ≡ [] → Planned s p.labels s p
  plan_none s p none = record { works = subst (λ js. ArePlanned s js s) (sym none) refl; labels = refl }

module _ {c : Site} {L : Labels → Type 0} {start : State} {count : ℕ} where
  pub plan_job : (j : Job) (m r : State) (p : Plan) → IsPlannedJob c L m j r → Planned c L start count m p → Planned c L start count r (with_work j p)
  unfolding with_work
  plan_job j m r p is k = record { works = planned_last c L start p.jobs j m r k.works is; labels = k.labels }

  pub plan_name : {m : State} (x : NameView) (p : Plan) → Planned c L start count m p → Planned c L start count m (with_name x p)
  unfolding with_name
  plan_name x p k = record { works = k.works; labels = k.labels }

  pub plan_labels : {m : State} (n : ℕ) (p : Plan) → Planned c L start count m p → Planned c L start (count + n) m (with_labels n p)
  unfolding with_labels
  plan_labels n p k = record { works = k.works; labels = ap (λ z. z + n) k.labels }

  -- ---- works

  pub plan_value : {before : Temporaries} (e : TermTree) (depth : ℕ) (p : Plan) → IsLookedAt c.u c.f c.calls (jobs.Value e depth) → Planned c L start count (Some before) p → Planned c L start count (Some (with_value depth (term_known e) before)) (with_work (jobs.Value e depth) p)
  plan_value {before = before} e depth p looked k = plan_job (jobs.Value e depth) (Some before) _ p (record { looked = looked; awaits = λ labels l. tt; behind = refl }) k

  pub plan_unused : {before : Temporaries} (e : TermTree) (depth : ℕ) (p : Plan) → IsLookedAt c.u c.f c.calls (jobs.Unused e depth) → Planned c L start count (Some before) p → Planned c L start count (Some (below depth before)) (with_work (jobs.Unused e depth) p)
  plan_unused {before = before} e depth p looked k = plan_job (jobs.Unused e depth) (Some before) _ p (record { looked = looked; awaits = λ labels l. tt; behind = refl }) k

  pub plan_address : {before : Temporaries} (l : LvalueTree) (depth : ℕ) (p : Plan) → IsLookedAt c.u c.f c.calls (jobs.Address l depth) → Planned c L start count (Some before) p → Planned c L start count (Some (with_value depth (place_known l) before)) (with_work (jobs.Address l depth) p)
  plan_address {before = before} l depth p looked k = plan_job (jobs.Address l depth) (Some before) _ p (record { looked = looked; awaits = λ labels l. tt; behind = refl }) k

  pub plan_condition : {before : Temporaries} (e : TermTree) (d : Decision) (p : Plan) → IsLookedAt c.u c.f c.calls (jobs.Condition e d) → ((labels : Labels) → L labels → Awaits before (jobs.Condition e d) labels) → Planned c L start count (Some before) p → Planned c L start count None (with_work (jobs.Condition e d) p)
  plan_condition {before = before} e d p looked awaits k = plan_job (jobs.Condition e d) (Some before) None p (record { looked = looked; awaits = awaits; behind = refl }) k

  -- ---- pieces

  pub plan_do : {before : Temporaries} (after : Temporaries) (x : Step) (p : Plan) → IsTypedAct c.u.structs c.u.model.pointer (base_type c.u c.f c.names) before after x.does → Planned c L start count (Some before) p → Planned c L start count (Some after) (with_work (jobs.Ready (Do x)) p)
  plan_do {before = before} after x p acts k = plan_job (jobs.Ready (Do x)) (Some before) (Some after) p (λ labels l. record { before = before; leads = kept_same before; acts = acts }) k

  pub plan_end : {before : Temporaries} (behind : Temporaries) (x : Step) (exits : List ExitView) (p : Plan) → IsTypedAct c.u.structs c.u.model.pointer (base_type c.u c.f c.names) before behind x.does → ((labels : Labels) → L labels → AreTypedExits c.u c.f c.used c.names labels behind exits) → Planned c L start count (Some before) p → Planned c L start count None (with_work (jobs.Ready (End x exits)) p)
  plan_end {before = before} behind x exits p acts to k = plan_job (jobs.Ready (End x exits)) (Some before) None p (λ labels l. record { behind = behind; done = record { before = before; leads = kept_same before; acts = acts }; leads = to labels l }) k

  pub plan_mark : {m : State} (after : Temporaries) (label : ℕ) (p : Plan) → ((labels : Labels) → L labels → Leads m (labels label) × IsKept (labels label) after) → Planned c L start count m p → Planned c L start count (Some after) (with_work (jobs.Ready (Mark label)) p)
  plan_mark {m = m} after label p leads k = plan_job (jobs.Ready (Mark label)) m (Some after) p leads k

  pub plan_call : {before : Temporaries} (after : Temporaries) (x : OwnCall) (p : Plan) → ((labels : Labels) → IsTypedCall c.u c.f c.used c.names labels (Some before) x after) → Planned c L start count (Some before) p → Planned c L start count (Some after) (with_work (jobs.Ready (Call x)) p)
  plan_call {before = before} after x p is k = plan_job (jobs.Ready (Call x)) (Some before) (Some after) p (λ labels l. is labels) k

-- ---- the works of a work

-- labels of the works' own, and what else is asked of labels
abbrev pub Owns : ℕ → ℕ → Labels → (Labels → Type 0) → Labels → Type 0
Owns from to own waits labels = ((l : ℕ) → from ≤ l → l < to → labels l ≡ own l) × waits labels

-- works that lead to no less than is to be known behind them
pub record Comes (c : Site) (L : Labels → Type 0) (start : State) (count : ℕ) (goal : State) (p : Plan) : Type 0 where
  pub end : State
  pub planned : Planned c L start count end p
  pub weaker : IsWeaker end goal

-- and what is known at their own labels
pub record Made (c : Site) (from : ℕ) (waits : Labels → Type 0) (start goal : State) (p : Plan) : Type 0 where
  pub own : Labels
  pub to : ℕ
  pub comes : Comes c (Owns from to own waits) start to goal p

abbrev pub no_labels : Labels
no_labels l t = None

-- works that give no label away
pub straight : {c : Site} {from : ℕ} {waits : Labels → Type 0} {start goal : State} {p : Plan} → Comes c (Owns from from no_labels waits) start from goal p → Made c from waits start goal p
straight {from = from} k = record { own = no_labels; to = from; comes = k }
