-- Works come to pieces that keep to what is known, if the works that each consists of do.
use Rattle.std.proofs.Common.{◌≡◌, ◌≤◌, ◌<◌, ℕ, zero, suc, false, List, [], ◌∷◌, ◌++◌, Some, None, slice_get, refl, arith, ap, sym, subst, ◌∙◌}
use Rattle.lower_templates.specs.Worklist.Pieces.{NameView, PieceView}
use Rattle.lower_templates.specs.Worklist.Works as jobs
use Rattle.lower_templates.specs.Worklist.Works.{Job}
use Rattle.lower_templates.specs.Worklist.Plans.{Plan}
use Rattle.lower_templates.specs.Worklist.Settings.{SettingView}
use Rattle.lower_functions.specs.Functions.Turns.{planless}
use Rattle.lower_template_theorems.specs.Worklists.Derivations.{is_piece, parts, Makes, nothing, piece, work}
use Rattle.lower_template_theorems.specs.Growth.Growth.{Grows}
use Rattle.lower_template_theorems.proofs.growth.GrowingWorks.{grows, grows_parts, jobs_none}
use Rattle.typed_programs.specs.Types.TypedStates.{Temporaries}
use Rattle.typed_lowering.specs.Conversions.TypedPieces.{State, IsWeaker, AreTypedPieces}
use Rattle.typed_lowering.specs.Conversions.WorkLaws.{Extends, Labelled, IsLookedAt, KeepsTo}
use Rattle.typed_lowering.proofs.conversions.JoinedPieces.{weaker_same, pieces_joined, pieces_weaker}
use Rattle.typed_lowering.proofs.worklists.PlannedWorks.{Site, Labels, Awaits, state_behind, IsWork, IsPlannedJob, ArePlanned, Owns, Made, no_labels}
use Rattle.typed_lowering.proofs.worklists.GluedLabels.{labelled_more, labelled_any, labelled_own, labelled_both}

-- ---- names

more_there : (xs ys : List NameView) (n : ℕ) (x : NameView) → slice_get xs n ≡ Some x → slice_get (xs ++ ys) n ≡ Some x
more_there [] ys n x e = absurd (cc)
more_there (y ∷ xs) ys zero x e = e
more_there (y ∷ xs) ys (suc n) x e = more_there xs ys n x e

pub extends_grown : (p q : Plan) (names : List NameView) → Grows p q → Extends q.names names → Extends p.names names
extends_grown p q names g all n x e = all n x (ap (λ xs. slice_get xs n) g.names ∙ more_there p.names g.more_names n x e)

through : (a b c : ℕ) → a ≤ b → b ≤ c → a ≤ c
through a b c x y = omega (arith, x, y)

-- a form of a work comes to works that lead from what is known to what its job says
abbrev pub AreMade : Site → SettingView → Type 0
AreMade c s = (j : Job) (p : Plan) (before : Temporaries) → p.jobs ≡ [] → IsLookedAt c.u c.f c.calls j → Extends (parts s j p).names c.names → Made c p.labels (Awaits before j) (Some before) (state_behind before j) (parts s j p)

module _ (c : Site) (s : SettingView) (made : AreMade c s) where
  abbrev Typed : Labels → State → List PieceView → State → Type 0
  Typed labels = AreTypedPieces c.u c.f c.used c.names labels

  record HasWork (L : Labels → Type 0) (j : Job) (start m : State) : Type 0 where
    before : Temporaries
    is : start ≡ Some before
    work : IsWork c L before j m

  as_work : (L : Labels → Type 0) (j : Job) → is_piece j ≡ false → (start m : State) → IsPlannedJob c L start j m → HasWork L j start m
  as_work L (jobs.Ready q) other start m is = absurd (cc)
  as_work L j other None m is = absurd is
  as_work L j other (Some before) m is = record { before = before; is = refl; work = is }

  -- pieces from and to states that are the same
  between : (labels : Labels) (start from to m : State) (ps : List PieceView) → start ≡ from → m ≡ to → Typed labels from ps to → Typed labels start ps m
  between labels start from to m ps e d typed = subst (λ z. Typed labels z ps m) (sym e) (subst (λ z. Typed labels from ps z) (sym d) typed)

  pub typed : (p : Plan) (js : List Job) (ps : List PieceView) (q : Plan) → Makes s p js ps q → p.jobs ≡ [] → Extends q.names c.names → (L : Labels → Type 0) (start end : State) → ArePlanned c L start js end → Labelled p.labels q.labels (λ labels. L labels → Typed labels start ps end)
  typed p _ _ q (nothing _) none extends L start end is = labelled_any no_labels (λ labels l. subst (IsWeaker start) is (weaker_same start))
  typed p _ _ r (piece _ q js qs _ m) none extends L start end (mid, one, all) = labelled_more (λ labels k l. (mid, one labels l, k l)) (typed p js qs r m none extends L mid end all)
  typed p _ _ r (work _ j js ps q qs _ other m k) none extends L start end (mid, one, all) =
      let d = parts s j p in
      let here = grows_parts s j p in
      let inside = grows s (planless d) d.jobs ps q m in
      let later = grows s q js qs r k in
      let w = as_work L j other start mid one in
      let extends_q = extends_grown q r c.names later extends in
      let x = made j p w.before none w.work.looked (extends_grown d q c.names (planned_grown d q inside) extends_q) in
      let way = x.comes in
      let first = typed (planless d) d.jobs ps q m refl extends_q (Owns p.labels x.to x.own (Awaits w.before j)) (Some w.before) way.end way.planned.works in
      let second = typed q js qs r k (jobs_none s (planless d) d.jobs ps q m refl) extends L mid end all in
      let to : d.labels ≡ x.to = way.planned.labels in
      let own : Labelled p.labels d.labels (λ labels. (l : ℕ) → p.labels ≤ l → l < d.labels → labels l ≡ x.own l) = labelled_own x.own in
      labelled_more (λ labels all_ l.
      (let owned = all_.0 in let inner = all_.1.0 in let outer = all_.1.1 in
      pieces_joined c.u c.f c.used c.names labels start mid end ps qs
      (between labels start (Some w.before) (state_behind w.before j) mid ps w.is w.work.behind
      (pieces_weaker c.u c.f c.used c.names labels (Some w.before) way.end (state_behind w.before j) ps (inner (subst (λ n. (l : ℕ) → p.labels ≤ l → l < n → labels l ≡ x.own l) to owned, w.work.awaits labels l)) way.weaker))
      (outer l)))
      (labelled_both d.labels here.labels (through d.labels q.labels r.labels inside.labels later.labels) own (labelled_both q.labels inside.labels later.labels first second))
    where
      planned_grown : (d q : Plan) → Grows (planless d) q → Grows d q
      planned_grown d q g = record { more_names = g.more_names; names = g.names; labels = g.labels; scopes = g.scopes; more_dispatches = g.more_dispatches; dispatches = g.dispatches }

  -- ---- a work

  planned_of : (before : Temporaries) (j : Job) → IsLookedAt c.u c.f c.calls j → IsPlannedJob c (Awaits before j) (Some before) j (state_behind before j)
  planned_of before (jobs.Ready q) looked = absurd looked
  planned_of before other looked = record { looked = looked; awaits = λ labels l. l; behind = refl }

  keeps_to : (before : Temporaries) (labels : Labels) (j : Job) (ps : List PieceView) → IsLookedAt c.u c.f c.calls j → (Awaits before j labels → Typed labels (Some before) ps (state_behind before j)) → KeepsTo c.u c.f c.used c.names before labels j ps
  keeps_to before labels (jobs.Value e depth) ps looked typed_ = typed_ tt
  keeps_to before labels (jobs.Unused e depth) ps looked typed_ = typed_ tt
  keeps_to before labels (jobs.Address l depth) ps looked typed_ = typed_ tt
  keeps_to before labels (jobs.Condition e decision) ps looked typed_ = λ yes no. typed_ (yes, no)
  keeps_to before labels (jobs.Statement i around) ps looked typed_ = absurd looked
  keeps_to before labels (jobs.Ready q) ps looked typed_ = absurd looked

  pub work_typed : (p : Plan) (j : Job) (ps : List PieceView) (q : Plan) → Makes s p (j ∷ []) ps q → p.jobs ≡ [] → IsLookedAt c.u c.f c.calls j → Extends q.names c.names → (before : Temporaries) → Labelled p.labels q.labels (λ labels. KeepsTo c.u c.f c.used c.names before labels j ps)
  work_typed p j ps q m none looked extends before =
      labelled_more (λ labels k. keeps_to before labels j ps looked k)
      (typed p (j ∷ []) ps q m none extends (Awaits before j) (Some before) (state_behind before j) (state_behind before j, planned_of before j looked, refl))
