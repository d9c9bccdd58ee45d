-- Templates whose labels stand once and that are fit.
use Rattle.std.proofs.Common.{◌≡◌, inl, inr, ℕ, zero, suc, ◌==◌, true, List, [], ◌∷◌, Option, Some, slice_get, sym, subst}
use Rattle.std.proofs.lemmas.Bool.{eqb-true}
use Rattle.c_layout.specs.CheckedUnits.{FunctionView, UnitView}
use Rattle.lower_templates.specs.Worklist.Acts as acts
use Rattle.lower_templates.specs.Worklist.Acts.{Act}
use Rattle.lower_templates.specs.Worklist.Pieces.{NameView, Local, Literal, Way, Case, ExitView, PieceView, Do, DoIfUsed, End, Mark, Call, TemplateView}
use Rattle.lower_template_theorems.proofs.label_definitions.MarkedTemplates.{marked_below}
use Rattle.lower_template_theorems.specs.Literals.Starts.{IsStart, AreStarts}
use Rattle.lower_template_theorems.proofs.literals.StartingTemplates.{starts_of_template}
use Rattle.lower_template_theorems.specs.Names.NamedTrees.{AllNames}
use Rattle.lower_template_theorems.proofs.names.NamingTemplates.{names_of_template}
use Rattle.lower_template_theorems.specs.Switches.SwitchedTrees.{IsCaseOf, AreCasesOf, ArePiecesOf}
use Rattle.lower_template_theorems.proofs.switches.SendingTemplates.{cases_of_template}
use Rattle.simulation_layout.specs.Inlining.NameRanges.{IsNameThere}
use Rattle.simulation_layout.proofs.inlining.ListPlaces.{some_same}
use Rattle.simulation_layout.specs.Normalized.NormalizedRuns.{LabelsStandOnce}
use Rattle.simulation_layout.specs.InlinedLayout.Layouts.{IsAtStart}
use Rattle.simulation_layout.specs.Copies.FitTemplates.{PointsToStart, type_named, IsInteger, SwitchesOn, AllSwitchOn, ArePiecesFit, IsFit}
use Rattle.simulation_layout.specs.InlinedRuns.InlinedRuns.{IsMade}
use Rattle.simulation_layout.specs.Units.CheckedRuns.{IsIntegerNamed, IsPlainlyMade}

-- ---- labels

pub stand_once : (u : UnitView) (n : ℕ) (t : TemplateView) → IsPlainlyMade u n t → LabelsStandOnce t
stand_once u n t k l = marked_below u.structs u.model.pointer u.model.int k.function (n == u.entry) t k.is_template.is_template k.labelled k.few l

-- ---- pieces

at_start : (names : List NameView) (base offset : ℕ) → (offset == 0) ≡ true → IsAtStart (slice_get names base) offset
at_start names base offset e = by (slice_get names base)
  where
    by : (o : Option NameView) → IsAtStart o offset
    by (Some (Literal n)) = eqb-true offset 0 e
    by other = tt

in_object : (names : List NameView) (base offset n : ℕ) → slice_get names base ≡ Some (Local n) → IsAtStart (slice_get names base) offset
in_object names base offset n is = subst (λ o. IsAtStart o offset) (sym is) tt

points : (names : List NameView) (a : Act) → IsStart names a → PointsToStart names a
points names (acts.Address to base offset) (inl e) = at_start names base offset e
points names (acts.Address to base offset) (inr is) = in_object names base offset is.0 is.1
points names (acts.Constant to value kind) is = tt
points names (acts.Load to from kind) is = tt
points names (acts.Store to from kind kept) is = tt
points names (acts.Copy to from index) is = tt
points names (acts.Narrow to from offset size) is = tt
points names (acts.Shift to from by size backward) is = tt
points names (acts.Binary to sign left right kind) is = tt
points names (acts.Unary to sign from kind) is = tt
points names (acts.Compare to sign left right) is = tt
points names (acts.Not to from kind) is = tt
points names (acts.Difference to left right size) is = tt
points names (acts.ComparePointers to sign left right) is = tt
points names (acts.Convert to from old new) is = tt
points names (acts.Library to function arguments newest size) is = tt
points names (acts.Enter base) is = tt
points names (acts.Leave base) is = tt
points names (acts.Forget base) is = tt
points names (acts.Clear base) is = tt
points names (acts.Spell base offset room text) is = tt
points names acts.Jump is = tt
points names (acts.Branch from kind) is = tt
points names (acts.Switch from kind) is = tt
points names (acts.ReadLine to text count stream) is = tt
points names acts.Stop is = tt

on_integers : (u : UnitView) (f : FunctionView) (names : List NameView) (w : Way) → IsCaseOf (IsIntegerNamed u f) names w → SwitchesOn u f names w
on_integers u f names (Case test) is = λ n e. (let x = is n e in subst (λ o. IsInteger (type_named u f o)) (sym x.1) x.2)
on_integers u f names other is = tt

all_on_integers : (u : UnitView) (f : FunctionView) (names : List NameView) (es : List ExitView) → AreCasesOf (IsIntegerNamed u f) names es → AllSwitchOn u f names es
all_on_integers u f names [] is = tt
all_on_integers u f names (e ∷ es) (one, is) = (on_integers u f names e.taken one, all_on_integers u f names es is)

fit_pieces : (u : UnitView) (f : FunctionView) (names : List NameView) (ps : List PieceView) → AreStarts names ps → ArePiecesOf (IsIntegerNamed u f) names ps → ArePiecesFit u f names ps
fit_pieces u f names [] starts cases = tt
fit_pieces u f names (Do s ∷ ps) (one, starts) (on, cases) = (points names s.does one, fit_pieces u f names ps starts cases)
fit_pieces u f names (DoIfUsed s ∷ ps) (one, starts) (on, cases) = (points names s.does one, fit_pieces u f names ps starts cases)
fit_pieces u f names (End s exits ∷ ps) (one, starts) (on, cases) = ((points names s.does one, all_on_integers u f names exits on), fit_pieces u f names ps starts cases)
fit_pieces u f names (Mark label ∷ ps) (one, starts) (on, cases) = (tt, fit_pieces u f names ps starts cases)
fit_pieces u f names (Call c ∷ ps) (one, starts) (on, cases) = (tt, fit_pieces u f names ps starts cases)

-- ---- names

name_at : (Q : NameView → Type 0) (names : List NameView) (n : ℕ) (x : NameView) → AllNames Q names → slice_get names n ≡ Some x → Q x
name_at Q [] n x all e = absurd (cc)
name_at Q (y ∷ names) zero x (one, all) e = subst Q (some_same y x e) one
name_at Q (y ∷ names) (suc n) x (one, all) e = name_at Q names n x all e

pub is_fit : (u : UnitView) (n : ℕ) (t : TemplateView) (k : IsPlainlyMade u n t) → IsFit u k.function t
is_fit u n t k =
    let made = k.is_template.is_template in
    let starts = starts_of_template u.structs u.model.pointer u.model.int k.function (n == u.entry) t made in
    let named = names_of_template (IsNameThere u k.function) u.structs u.model.pointer u.model.int k.function (n == u.entry) t made k.named in
    let cases = cases_of_template (IsIntegerNamed u k.function) u.structs u.model.pointer u.model.int k.function (n == u.entry) t made k.switches in
    record {
      named = λ place x there. name_at (IsNameThere u k.function) t.names place x named there;
      pieces = fit_pieces u k.function t.names t.pieces starts cases;
    }

pub is_made : (u : UnitView) (n : ℕ) (t : TemplateView) → IsPlainlyMade u n t → IsMade u n t
is_made u n t k = record { function = k.function; is_template = k.is_template; once = stand_once u n t k; fit = is_fit u n t k }
