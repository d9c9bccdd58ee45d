-- The bases that the pieces of a template name, by their numbers.
use Rattle.std.specs.Prelude.{◌≡◌, ◌<◌, ℕ, ◌+◌, List, [], ◌∷◌, ◌++◌, length, get_or, Option, Some, None}
use Rattle.c_layout.specs.Types.{Ty}
use Rattle.cfg.specs.declared.flow_edges.Side.{Side}
use Rattle.cfg.specs.declared.flow_edges.Side.TheVariants as side
use Rattle.cfg.specs.declared.flow_edges.Test.{Test}
use Rattle.lower_templates.specs.Worklist.Acts as acts
use Rattle.lower_templates.specs.Worklist.Acts.{Act}
use Rattle.lower_templates.specs.Worklist.Pieces.{NameView, Local, Outcome, Static, Literal, Allocation, Way, Always, When, Case, Other, NoLine, Line, ExitView, PieceView, Do, DoIfUsed, End, Mark, Call, TemplateView}

abbrev pub maybe : Option ℕ → List ℕ
maybe None = []
maybe (Some n) = n ∷ []

abbrev pub named_by : Act → List ℕ
named_by (acts.Constant to value kind) = []
named_by (acts.Address to base offset) = base ∷ []
named_by (acts.Load to from kind) = []
named_by (acts.Store to from kind kept) = []
named_by (acts.Copy to from index) = []
named_by (acts.Narrow to from offset size) = []
named_by (acts.Shift to from by size backward) = []
named_by (acts.Binary to sign left right kind) = []
named_by (acts.Unary to sign from kind) = []
named_by (acts.Compare to sign left right) = []
named_by (acts.Not to from kind) = []
named_by (acts.Difference to left right size) = []
named_by (acts.ComparePointers to sign left right) = []
named_by (acts.Convert to from old new) = []
named_by (acts.Library to function arguments newest size) = maybe newest
named_by (acts.Enter base) = base ∷ []
named_by (acts.Leave base) = base ∷ []
named_by (acts.Forget base) = base ∷ []
named_by (acts.Clear base) = base ∷ []
named_by (acts.Spell base offset room text) = base ∷ []
named_by acts.Jump = []
named_by (acts.Branch from kind) = []
named_by (acts.Switch from kind) = []
named_by (acts.ReadLine to text count stream) = []
named_by acts.Stop = []

abbrev pub named_in_side : Side → List ℕ
named_in_side (side.Object n kind) = n ∷ []
named_in_side (side.Number n) = []
named_in_side side.Null = []

abbrev pub named_in_test : Option Test → List ℕ
named_in_test None = []
named_in_test (Some t) = named_in_side t.left ++ named_in_side t.right

abbrev pub named_on_way : Way → List ℕ
named_on_way Always = []
named_on_way (When truth test puts) = named_in_test test
named_on_way (Case c) = maybe c.object
named_on_way (Other values) = []
named_on_way NoLine = []
named_on_way Line = []

abbrev pub named_on_exits : List ExitView → List ℕ
named_on_exits [] = []
named_on_exits (e ∷ es) = named_on_way e.taken ++ named_on_exits es

-- the bases that a piece names, in order
abbrev pub named_in : PieceView → List ℕ
named_in (Do s) = named_by s.does
named_in (DoIfUsed s) = named_by s.does
named_in (End s exits) = named_by s.does ++ named_on_exits exits
named_in (Mark label) = []
named_in (Call c) = []

abbrev pub named_in_all : List PieceView → List ℕ
named_in_all [] = []
named_in_all (p ∷ ps) = named_in p ++ named_in_all ps

abbrev pub AllBelow : ℕ → List ℕ → Type 0
AllBelow count [] = Unit {0}
AllBelow count (n ∷ ns) = (n < count) × AllBelow count ns

-- what an allocation site weighs
abbrev pub site_weight : (Option Ty → ℕ) → NameView → ℕ
site_weight weight (Local n) = 0
site_weight weight Outcome = 0
site_weight weight (Static n) = 0
site_weight weight (Literal n) = 0
site_weight weight (Allocation target) = weight target

-- all sites, each once
abbrev pub all_sites : (Option Ty → ℕ) → List NameView → ℕ
all_sites weight [] = 0
all_sites weight (x ∷ xs) = site_weight weight x + all_sites weight xs

-- the sites that are named, each as often as it is
abbrev pub sites_named : (Option Ty → ℕ) → List NameView → List ℕ → ℕ
sites_named weight names [] = 0
sites_named weight names (n ∷ ns) = site_weight weight (get_or names n Outcome) + sites_named weight names ns

-- the pieces of a template name bases that it has, and each of its allocation sites once
pub record AreNamed (t : TemplateView) : Type 0 where
  pub below : AllBelow (length t.names) (named_in_all t.pieces)
  pub sites : (weight : Option Ty → ℕ) → sites_named weight t.names (named_in_all t.pieces) ≡ all_sites weight t.names
