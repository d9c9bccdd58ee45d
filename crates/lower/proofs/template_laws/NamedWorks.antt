-- Works that name no base, and works that name the base that was named anew.
use Rattle.std.proofs.Common.{◌≡◌, ℕ, false, List, [], ◌∷◌, ◌++◌, length, Option, Some, None, refl, ap, ◌∙◌}
use Rattle.c_layout.specs.Types.{Ty}
use Rattle.c_layout.specs.declared.checked_tree.checked_terms.ObjectRef.{ObjectRef}
use Rattle.c_layout.specs.declared.checked_tree.checked_terms.ObjectRef.TheVariants as object
use Rattle.lower_templates.specs.Worklist.Acts as acts
use Rattle.lower_templates.specs.Worklist.Acts.{Act}
use Rattle.lower_templates.specs.Worklist.Pieces.{NameView, Way, Always, When, Case, Other, NoLine, Line, ExitView, PieceView, Do, DoIfUsed, End, Mark, Call}
use Rattle.lower_templates.specs.Worklist.Works as jobs
use Rattle.lower_templates.specs.Worklist.Works.{Job}
use Rattle.lower_templates.specs.Worklist.Plans.{name_of_object}
use Rattle.lower_functions.proofs.PlanClosures.{names_base, NamesIt, IsBare, AreBare, IsSilentPiece, IsSilent, TermClosed}
use Rattle.lower.specs.TemplateLaws.NamedBases.{maybe, named_by, named_in_test, named_on_way, named_on_exits, named_in, site_weight}
use Rattle.lower.proofs.template_laws.PlainWorks.{shadow}
use Rattle.lower.proofs.template_laws.NamedLists.{Balanced, bal_silent, bal_fresh, bal_labels}

act_silent : (a : Act) → names_base a ≡ false → named_by a ≡ []
act_silent (acts.Address to base offset) is = absurd (cc)
act_silent (acts.Library to function arguments None size) is = refl
act_silent (acts.Library to function arguments (Some n) size) is = absurd (cc)
act_silent (acts.Enter base) is = absurd (cc)
act_silent (acts.Leave base) is = absurd (cc)
act_silent (acts.Forget base) is = absurd (cc)
act_silent (acts.Clear base) is = absurd (cc)
act_silent (acts.Spell base offset room text) is = absurd (cc)
act_silent other is = refl

act_names : (x : NameView) (n : ℕ) (a : Act) → NamesIt x n a → named_by a ≡ n ∷ []
act_names x n (acts.Address to base offset) is = ap (λ b. b ∷ []) is.0
act_names x n (acts.Library to function arguments newest size) is = ap maybe is
act_names x n (acts.Enter base) is = ap (λ b. b ∷ []) is
act_names x n (acts.Leave base) is = ap (λ b. b ∷ []) is
act_names x n (acts.Forget base) is = ap (λ b. b ∷ []) is
act_names x n (acts.Clear base) is = ap (λ b. b ∷ []) is
act_names x n (acts.Spell base offset room text) is = ap (λ b. b ∷ []) is
act_names x n other is = absurd is

way_silent : (w : Way) → IsBare w → named_on_way w ≡ []
way_silent Always is = refl
way_silent (When truth test puts) is = ap named_in_test is
way_silent (Case test) is = absurd is
way_silent (Other values) is = refl
way_silent NoLine is = refl
way_silent Line is = refl

exits_silent : (exits : List ExitView) → AreBare exits → named_on_exits exits ≡ []
exits_silent [] is = refl
exits_silent (e ∷ es) (one, is) = ap (λ ns. ns ++ named_on_exits es) (way_silent e.taken one) ∙ exits_silent es is

piece_silent : (q : PieceView) → IsSilentPiece q → named_in q ≡ []
piece_silent (Do s) is = act_silent s.does is
piece_silent (DoIfUsed s) is = absurd is
piece_silent (End s exits) is = ap (λ ns. ns ++ named_on_exits exits) (act_silent s.does is.0) ∙ exits_silent exits is.1
piece_silent (Mark label) is = refl
piece_silent (Call c) is = refl

work_silent : (j : Job) → IsSilent j → named_in (shadow j) ≡ []
work_silent (jobs.Value e depth) is = refl
work_silent (jobs.Unused e depth) is = refl
work_silent (jobs.Address l depth) is = refl
work_silent (jobs.Condition e decision) is = refl
work_silent (jobs.Statement i around) is = refl
work_silent (jobs.Ready q) is = piece_silent q is

pub balanced : (w : Option Ty → ℕ) (start : List NameView) → TermClosed (Balanced w start)
balanced w start = record {
  work = λ j p is b. bal_silent j p (work_silent j is) b;
  fresh = λ x s p is b. bal_fresh x (jobs.Ready (Do s)) p (act_names x (length p.names) s.does is) b;
  labels = λ count p b. bal_labels count p b;
}

pub object_site : (w : Option Ty → ℕ) (o : ObjectRef) → site_weight w (name_of_object o) ≡ 0
object_site w (object.Static n) = refl
object_site w (object.Local n) = refl
