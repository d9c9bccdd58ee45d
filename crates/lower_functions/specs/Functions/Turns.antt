-- Works are done until none is left: a work is a piece, or the works that it consists of.
use Rattle.std.specs.Prelude.{◌≡◌, ℕ, zero, suc, Bool, true, false, List, [], ◌∷◌, ◌++◌, map, reverse}
use Rattle.lower_templates.specs.Worklist.Pieces.{PieceView, piece_view, TemplateView}
use Rattle.lower_templates.specs.Worklist.Works as jobs
use Rattle.lower_templates.specs.Worklist.Works.{Job, job}
use Rattle.lower_templates.specs.Worklist.Plans.{Plan, plan}
use Rattle.lower_templates.specs.Worklist.Settings.{SettingView}
use Rattle.lower_expressions.specs.Values.{term}
use Rattle.lower_expressions.specs.LvaluePointers.{address}
use Rattle.lower_conditions.specs.Conditions.{condition}
use Rattle.lower_functions.specs.Statements.Statements.{statement}
use Rattle.lower_functions.specs.declared.functions.finished_works.Making.{Making}

-- the pieces so far, and what is planned
pub record Turned : Type 0 where
  pub pieces : List PieceView
  pub after : Plan

abbrev pub turned : List PieceView → Plan → Turned
turned pieces p = record { pieces = pieces; after = p }

-- the table of constructs: a piece is added, another work is planned
abbrev pub turn : SettingView → Job → List PieceView → Plan → Turned
turn s (jobs.Value e depth) pieces p = turned pieces (term s e depth true p)
turn s (jobs.Unused e depth) pieces p = turned pieces (term s e depth false p)
turn s (jobs.Address l depth) pieces p = turned pieces (address s l depth p)
turn s (jobs.Condition e decision) pieces p = turned pieces (condition s e decision p)
turn s (jobs.Statement i around) pieces p = turned pieces (statement s i around p)
turn s (jobs.Ready q) pieces p = turned (pieces ++ q ∷ []) p

-- the pieces so far, the works that are still to be done, the next one first, and what is planned
pub record Going : Type 0 where
  pub pieces : List PieceView
  pub stack : List Job
  pub planned : Plan

abbrev pub going : Making → Going
going m = record { pieces = map piece_view m.pieces.items; stack = reverse (map job m.stack.items); planned = plan m.builder }

abbrev pub planless : Plan → Plan
planless p = record p { jobs = [] }

-- what is planned comes first
abbrev pub scheduled : Going → Going
scheduled g = record { pieces = g.pieces; stack = g.planned.jobs ++ g.stack; planned = planless g.planned }

abbrev pub going_on : List Job → Turned → Going
going_on stack t = record { pieces = t.pieces; stack = stack; planned = t.after }

abbrev pub turned_on : SettingView → Job → Going → Going
turned_on s j g = scheduled (going_on g.stack (turn s j g.pieces g.planned))

abbrev pub next_of : SettingView → List Job → Going → Going
next_of s [] g = g
next_of s (j ∷ js) g = turned_on s j (record g { stack = js })

-- one turn
abbrev pub next : SettingView → Going → Going
next s g = next_of s g.stack g

abbrev pub is_work : List Job → Bool
is_work [] = false
is_work (j ∷ js) = true

abbrev pub has_work : Going → Bool
has_work g = is_work g.stack

-- so many turns
abbrev pub after : SettingView → ℕ → Going → Going
after s zero g = g
after s (suc n) g = next s (after s n g)

-- a plan is scheduled
abbrev pub begun : Plan → Going
begun p = scheduled (record { pieces = []; stack = []; planned = p })

abbrev pub template_of : Going → TemplateView
template_of g = record { pieces = g.pieces; names = g.planned.names; labels = g.planned.labels }

-- the works of a plan come to a template: after so many turns nothing is left
pub record Finishes (s : SettingView) (p : Plan) (t : TemplateView) : Type 0 where
  pub turns : ℕ
  pub ended : has_work (after s turns (begun p)) ≡ false
  pub comes_to : template_of (after s turns (begun p)) ≡ t
