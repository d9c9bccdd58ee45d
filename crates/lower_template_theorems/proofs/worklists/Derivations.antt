-- From turns with a stack to a tree.
use Rattle.std.specs.Prelude.{◌≡◌, ℕ, zero, suc, false, List, [], ◌∷◌, ◌++◌, refl}
use Rattle.std.proofs.Common.{sym, subst, subst₂, ap, ◌∙◌, append_assoc}
use Rattle.std.proofs.lemmas.List.{append-nil}
use Rattle.lower_templates.specs.Worklist.Pieces.{PieceView, TemplateView}
use Rattle.lower_templates.specs.Worklist.Works as jobs
use Rattle.lower_templates.specs.Worklist.Works.{Job}
use Rattle.lower_templates.specs.Worklist.Plans.{Plan}
use Rattle.lower_templates.specs.Worklist.Settings.{SettingView}
use Rattle.lower_functions.specs.Functions.Turns.{turn, planless, Going, scheduled, going_on, next_of, next, is_work, has_work, after, begun, Finishes}
use Rattle.lower_template_theorems.specs.Worklists.Derivations.{is_piece, parts, Makes, nothing, piece, work, IsDerived}

module _ (s : SettingView) where
  -- ---- one after the other

  pub record Parted (p : Plan) (xs ys : List Job) (ps : List PieceView) (r : Plan) : Type 0 where
    pub front : List PieceView
    pub back : List PieceView
    pub between : Plan
    pub first : Makes s p xs front between
    pub second : Makes s between ys back r
    pub all : ps ≡ front ++ back

  pub parted : (p : Plan) (xs ys : List Job) (ps : List PieceView) (r : Plan) → Makes s p (xs ++ ys) ps r → Parted p xs ys ps r
  parted p [] ys ps r m = record { front = []; back = ps; between = p; first = nothing p; second = m; all = refl }
  parted p (x ∷ xs) ys ps r (piece _ q js qs _ m) =
      let d = parted p xs ys qs r m in
      record { front = q ∷ d.front; back = d.back; between = d.between; first = piece p q xs d.front d.between d.first; second = d.second; all = ap (λ z. q ∷ z) d.all }
  parted p (x ∷ xs) ys ps r (work _ j js fs q bs _ other m k) =
      let d = parted q xs ys bs r k in
      record {
        front = fs ++ d.front;
        back = d.back;
        between = d.between;
        first = work p x xs fs q d.front d.between other m d.first;
        second = d.second;
        all = ap (λ z. fs ++ z) d.all ∙ sym (append_assoc fs d.front d.back);
      }

  -- ---- turns

  next_after : (n : ℕ) (g : Going) → after s n (next s g) ≡ next s (after s n g)
  next_after zero g = refl
  next_after (suc n) g = ap (next s) (next_after n g)

  nothing_left : (js : List Job) → is_work js ≡ false → js ≡ []
  nothing_left [] e = refl
  nothing_left (j ∷ js) e = absurd (cc)

  record Comes (g e : Going) : Type 0 where
    pieces : List PieceView
    made : Makes s g.planned g.stack pieces e.planned
    all : e.pieces ≡ g.pieces ++ pieces

  none_to_come : (g : Going) → g.stack ≡ [] → Comes g g
  none_to_come g e = record { pieces = []; made = subst (λ js. Makes s g.planned js [] g.planned) (sym e) (nothing g.planned); all = sym (append-nil g.pieces) }

  pub planless_same : (p : Plan) → p.jobs ≡ [] → planless p ≡ p
  planless_same p e = ap (λ js. record p { jobs = js }) (sym e)

  -- a piece is added
  from_piece : (q : PieceView) (js : List Job) (g e : Going) → g.stack ≡ jobs.Ready q ∷ js → g.planned.jobs ≡ [] → Comes (scheduled (going_on js (turn s (jobs.Ready q) g.pieces g.planned))) e → Comes g e
  from_piece q js g e is none c = record {
    pieces = q ∷ c.pieces;
    made = subst (λ ks. Makes s g.planned ks (q ∷ c.pieces) e.planned) (sym is)
        (piece g.planned q js c.pieces e.planned (subst₂ (λ x ks. Makes s x (ks ++ js) c.pieces e.planned) (planless_same g.planned none) none c.made));
    all = c.all ∙ append_assoc g.pieces (q ∷ []) c.pieces;
  }

  -- a work gives way to its parts
  from_work : (j : Job) (js : List Job) (g e : Going) → is_piece j ≡ false → g.stack ≡ j ∷ js → Comes (record { pieces = g.pieces; stack = (parts s j g.planned).jobs ++ js; planned = planless (parts s j g.planned) }) e → Comes g e
  from_work j js g e other is c =
      let d = parted (planless (parts s j g.planned)) (parts s j g.planned).jobs js c.pieces e.planned c.made in
      record {
        pieces = d.front ++ d.back;
        made = subst (λ ks. Makes s g.planned ks (d.front ++ d.back) e.planned) (sym is) (work g.planned j js d.front d.between d.back e.planned other d.first d.second);
        all = c.all ∙ ap (λ z. g.pieces ++ z) d.all;
      }

  from_job : (j : Job) (js : List Job) (g e : Going) → g.stack ≡ j ∷ js → g.planned.jobs ≡ [] → Comes (scheduled (going_on js (turn s j g.pieces g.planned))) e → Comes g e
  from_job (jobs.Value e depth) js g z is none c = from_work (jobs.Value e depth) js g z refl is c
  from_job (jobs.Unused e depth) js g z is none c = from_work (jobs.Unused e depth) js g z refl is c
  from_job (jobs.Address l depth) js g z is none c = from_work (jobs.Address l depth) js g z refl is c
  from_job (jobs.Condition e decision) js g z is none c = from_work (jobs.Condition e decision) js g z refl is c
  from_job (jobs.Statement i around) js g z is none c = from_work (jobs.Statement i around) js g z refl is c
  from_job (jobs.Ready q) js g z is none c = from_piece q js g z is none c

  from_next : (js : List Job) (g e : Going) → g.stack ≡ js → g.planned.jobs ≡ [] → Comes (next_of s js g) e → Comes g e
  from_next [] g e is none c = c
  from_next (j ∷ js) g e is none c = from_job j js g e is none c

  none_next : (js : List Job) (g : Going) → g.planned.jobs ≡ [] → (next_of s js g).planned.jobs ≡ []
  none_next [] g none = none
  none_next (j ∷ js) g none = refl

  comes : (n : ℕ) (g : Going) → g.planned.jobs ≡ [] → has_work (after s n g) ≡ false → Comes g (after s n g)
  comes zero g none ended = none_to_come g (nothing_left g.stack ended)
  comes (suc n) g none ended =
      subst (Comes g) (next_after n g)
      (from_next g.stack g (after s n (next s g)) refl none (comes n (next s g) (none_next g.stack g none) (ap has_work (next_after n g) ∙ ended)))

  pub derived : (p : Plan) (t : TemplateView) → Finishes s p t → IsDerived s p t
  derived p t f =
      let c = comes f.turns (begun p) refl f.ended in
      record {
        last = (after s f.turns (begun p)).planned;
        pieces = subst₂ (λ ks ps. Makes s (planless p) ks ps (after s f.turns (begun p)).planned) (append-nil p.jobs) (sym c.all ∙ ap (λ (x : TemplateView). x.pieces) f.comes_to) c.made;
        names = ap (λ (x : TemplateView). x.names) (sym f.comes_to);
        labels = ap (λ (x : TemplateView). x.labels) (sym f.comes_to);
      }
