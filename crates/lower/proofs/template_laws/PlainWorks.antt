-- No work plans an instruction that is done only where a call's value is used.
use Rattle.std.proofs.Common.{List, [], ◌∷◌, map}
use Rattle.lower_templates.specs.Worklist.Pieces.{NameView, PieceView, Do, DoIfUsed, End, Mark, Call}
use Rattle.lower_templates.specs.Worklist.Works as jobs
use Rattle.lower_templates.specs.Worklist.Works.{Job}
use Rattle.lower_templates.specs.Worklist.Plans.{Plan}
use Rattle.lower_functions.proofs.PlanClosures.{IsSilentPiece, AnyStatement, AnyStatements, AnySwitch, StatementClosed, any_parts, any_each}
use Rattle.lower_functions.proofs.PlannedWorks.{AreSuch, IsPlanned, PieceLaw, such_on_any_base}
use Rattle.lower.proofs.template_laws.PieceLists.{IsPlainPiece, ArePlain}

-- what a work is in the list of pieces: a piece, or a mark for what it comes to
abbrev pub shadow : Job → PieceView
shadow (jobs.Value e depth) = Mark 0
shadow (jobs.Unused e depth) = Mark 0
shadow (jobs.Address l depth) = Mark 0
shadow (jobs.Condition e decision) = Mark 0
shadow (jobs.Statement i around) = Mark 0
shadow (jobs.Ready q) = q

abbrev pub IsDone : List NameView → PieceView → Type 0
IsDone names q = IsPlainPiece q

-- what is planned is done in any case
abbrev pub IsPlain : Plan → Type 0
IsPlain p = IsPlanned AnyStatement IsDone p

silent_done : (names : List NameView) (q : PieceView) → IsSilentPiece q → IsDone names q
silent_done names (Do s) is = tt
silent_done names (DoIfUsed s) is = is
silent_done names (End s exits) is = tt
silent_done names (Mark label) is = tt
silent_done names (Call c) is = tt

pub done_anyway : PieceLaw IsDone
done_anyway = record {
  still = λ names more q is. is;
  silent = silent_done;
  fresh = λ names x s is. tt;
  branch = λ names s exits is on. tt;
}

pub plain_statements : StatementClosed IsPlain AnyStatement AnyStatements AnySwitch
plain_statements = such_on_any_base AnyStatement done_anyway (λ i any. any_parts i) (λ items any. any_each items) (λ s from label number q at e cases other names base any. tt)

pub plain_shadows : (names : List NameView) (js : List Job) → AreSuch AnyStatement IsDone names js → ArePlain (map shadow js)
plain_shadows names [] is = tt
plain_shadows names (jobs.Value e depth ∷ js) (one, is) = (tt, plain_shadows names js is)
plain_shadows names (jobs.Unused e depth ∷ js) (one, is) = (tt, plain_shadows names js is)
plain_shadows names (jobs.Address l depth ∷ js) (one, is) = (tt, plain_shadows names js is)
plain_shadows names (jobs.Condition e decision ∷ js) (one, is) = (tt, plain_shadows names js is)
plain_shadows names (jobs.Statement i around ∷ js) (one, is) = (tt, plain_shadows names js is)
plain_shadows names (jobs.Ready q ∷ js) (one, is) = (one, plain_shadows names js is)
