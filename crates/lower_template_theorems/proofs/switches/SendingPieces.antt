-- Pieces whose cases are on objects with a property, and what such pieces need.
use Rattle.std.proofs.Common.{List, [], ◌∷◌, ◌++◌}
use Rattle.lower_templates.specs.Worklist.Pieces.{NameView, Way, Always, When, Case, Other, NoLine, Line, ExitView, PieceView, Do, DoIfUsed, End, Mark, Call}
use Rattle.lower_functions.proofs.PlanClosures.{IsUnswitched, AreUnswitched, IsSilentPiece, unswitched}
use Rattle.lower_functions.proofs.PlannedWorks.{PieceLaw}
use Rattle.lower_template_theorems.specs.Switches.SwitchedTrees.{IsCaseOf, AreCasesOf, IsPieceOf}
use Rattle.lower_template_theorems.proofs.growth.NameTables.{there_still}

module _ (R : NameView → Type 0) where
  way_still : (names more : List NameView) (w : Way) → IsCaseOf R names w → IsCaseOf R (names ++ more) w
  way_still names more Always is = tt
  way_still names more (When truth test puts) is = tt
  way_still names more (Case test) is = λ n e. (let x = is n e in (x.0, there_still names more n x.0 x.1, x.2))
  way_still names more (Other values) is = tt
  way_still names more NoLine is = tt
  way_still names more Line is = tt

  exits_still : (names more : List NameView) (es : List ExitView) → AreCasesOf R names es → AreCasesOf R (names ++ more) es
  exits_still names more [] is = tt
  exits_still names more (e ∷ es) (one, is) = (way_still names more e.taken one, exits_still names more es is)

  piece_still : (names more : List NameView) (q : PieceView) → IsPieceOf R names q → IsPieceOf R (names ++ more) q
  piece_still names more (Do s) is = tt
  piece_still names more (DoIfUsed s) is = tt
  piece_still names more (End s exits) is = exits_still names more exits is
  piece_still names more (Mark label) is = tt
  piece_still names more (Call c) is = tt

  way_without : (names : List NameView) (w : Way) → IsUnswitched w → IsCaseOf R names w
  way_without names Always is = tt
  way_without names (When truth test puts) is = tt
  way_without names (Case test) is = absurd is
  way_without names (Other values) is = tt
  way_without names NoLine is = tt
  way_without names Line is = tt

  exits_without : (names : List NameView) (es : List ExitView) → AreUnswitched es → AreCasesOf R names es
  exits_without names [] is = tt
  exits_without names (e ∷ es) (one, is) = (way_without names e.taken one, exits_without names es is)

  silent_sends : (names : List NameView) (q : PieceView) → IsSilentPiece q → IsPieceOf R names q
  silent_sends names (Do s) is = tt
  silent_sends names (DoIfUsed s) is = tt
  silent_sends names (End s exits) is = exits_without names exits (unswitched exits is.1)
  silent_sends names (Mark label) is = tt
  silent_sends names (Call c) is = tt

  pub sending : PieceLaw (IsPieceOf R)
  sending = record {
    still = piece_still;
    silent = silent_sends;
    fresh = λ names x s is. tt;
    branch = λ names s exits is on. exits_without names exits on;
  }
