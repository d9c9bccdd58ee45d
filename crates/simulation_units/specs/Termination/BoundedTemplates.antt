-- Templates in which no edge leads back, and that call each other only so many deep.
use Rattle.std.specs.Prelude.{◌≡◌, ◌⊎◌, ◌≤◌, ◌<◌, ℕ, zero, suc, List, [], ◌∷◌, Some}
use Rattle.lower_templates.specs.Worklist.Pieces.{ExitView, PieceView, Do, DoIfUsed, End, Mark, Call, TemplateView}
use Rattle.lower_templates.specs.Views.ProgramViews.{EdgeView, FlowView}
use Rattle.semantics.specs.CfgMachine.FlowEdges.{edges_of}
use Rattle.semantics.specs.CfgMachine.FlowSteps.{block_of}
use Rattle.semantics.specs.TemplateMachine.TemplateExits.{behind_mark}

-- the first pieces are the last ones of the others
abbrev pub AreLast : List PieceView → List PieceView → Type 0
AreLast rest [] = rest ≡ []
AreLast rest (p ∷ ps) = (rest ≡ p ∷ ps) ⊎ AreLast rest ps

-- edges lead to labels behind them
abbrev pub ExitsGoOn : List PieceView → List PieceView → List ExitView → Type 0
ExitsGoOn whole ps [] = Unit {0}
ExitsGoOn whole ps (e ∷ es) = ((rest : List PieceView) → behind_mark e.to whole ≡ Some rest → AreLast rest ps) × ExitsGoOn whole ps es

-- so do all edges of pieces, and something holds of the functions that they call
abbrev pub GoOn : (ℕ → Type 0) → List PieceView → List PieceView → Type 0
GoOn Q whole [] = Unit {0}
GoOn Q whole (Do s ∷ ps) = GoOn Q whole ps
GoOn Q whole (DoIfUsed s ∷ ps) = GoOn Q whole ps
GoOn Q whole (End s exits ∷ ps) = ExitsGoOn whole ps exits × GoOn Q whole ps
GoOn Q whole (Mark l ∷ ps) = GoOn Q whole ps
GoOn Q whole (Call c ∷ ps) = Q c.function × GoOn Q whole ps

-- so it is in a function and in those that it calls, less than so many deep
abbrev pub IsBounded : (ℕ → TemplateView) → ℕ → ℕ → Type 0
IsBounded of zero g = ⊥
IsBounded of (suc depth) g = GoOn (IsBounded of depth) (of g).pieces (of g).pieces

-- so it is for some depth, and any greater one
abbrev pub HasBound : (ℕ → TemplateView) → ℕ → Type 0
HasBound of g = (depth : ℕ) × ((n : ℕ) → depth ≤ n → IsBounded of n g)

-- ---- programs

-- edges enter blocks behind one
abbrev pub EnterLater : ℕ → List EdgeView → Type 0
EnterLater block [] = Unit {0}
EnterLater block (e ∷ es) = (block < e.to) × EnterLater block es

-- each edge enters a block behind the one that it leaves
abbrev pub EdgesGoOn : FlowView → Type 0
EdgesGoOn f = (block : ℕ) → EnterLater block (edges_of f (block_of f block))
