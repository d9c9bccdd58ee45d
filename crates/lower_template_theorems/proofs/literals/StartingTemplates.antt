-- The addresses of a template are those of starts, and in objects of its function.
use Rattle.std.proofs.Common.{◌≡◌, inl, inr, ℕ, Bool, false, true, List, [], ◌∷◌, ◌++◌, length, Some, slice_get, refl, ap, ◌∙◌}
use Rattle.c_layout.specs.CheckedUnits.{FunctionView}
use Rattle.c_layout.specs.StructViews.{StructView}
use Rattle.lower_templates.specs.Worklist.Acts as acts
use Rattle.lower_templates.specs.Worklist.Acts.{Act}
use Rattle.lower_templates.specs.Worklist.Pieces.{NameView, Local, PieceView, Do, DoIfUsed, End, Mark, Call, TemplateView}
use Rattle.lower_functions.specs.Functions.Functions.{IsTemplate}
use Rattle.lower_functions.proofs.PlanClosures.{names_base, NamesIt, IsSilentPiece, AnyStatement, AnyStatements, AnySwitch, any_parts, any_each}
use Rattle.lower_functions.proofs.PlannedWorks.{PieceLaw, such_on_any_base, such_loaded}
use Rattle.lower_template_theorems.specs.Literals.Starts.{is_at_start, IsInObject, IsStart, IsPieceStart, AreStarts}
use Rattle.lower_template_theorems.proofs.growth.NameTables.{there_still, there_last}
use Rattle.lower_template_theorems.proofs.growth.PlannedPieces.{AllSuch, template_such}

in_object_still : (names more : List NameView) (a : Act) → IsInObject names a → IsInObject (names ++ more) a
in_object_still names more (acts.Address to base offset) is = (is.0, there_still names more base (Local is.0) is.1)
in_object_still names more a is = absurd is

act_still : (names more : List NameView) (a : Act) → IsStart names a → IsStart (names ++ more) a
act_still names more a (inl e) = inl e
act_still names more a (inr is) = inr (in_object_still names more a is)

piece_still : (names more : List NameView) (q : PieceView) → IsPieceStart names q → IsPieceStart (names ++ more) q
piece_still names more (Do s) is = act_still names more s.does is
piece_still names more (DoIfUsed s) is = act_still names more s.does is
piece_still names more (End s exits) is = act_still names more s.does is
piece_still names more (Mark label) is = tt
piece_still names more (Call c) is = tt

at_start : (a : Act) → names_base a ≡ false → is_at_start a ≡ true
at_start (acts.Address to base offset) none = absurd (cc)
at_start other none = refl

silent_start : (names : List NameView) (q : PieceView) → IsSilentPiece q → IsPieceStart names q
silent_start names (Do s) is = inl (at_start s.does is)
silent_start names (DoIfUsed s) is = absurd is
silent_start names (End s exits) is = inl (at_start s.does is.0)
silent_start names (Mark label) is = tt
silent_start names (Call c) is = tt

fresh_start : (names : List NameView) (x : NameView) (a : Act) → NamesIt x (length names) a → IsStart (names ++ x ∷ []) a
fresh_start names x (acts.Address to base offset) (same, inl first) = inl first
fresh_start names x (acts.Address to base offset) (same, inr (n, local)) = inr (n, ap (λ b. slice_get (names ++ x ∷ []) b) same ∙ there_last names x ∙ ap Some local)
fresh_start names x other is = inl refl

starting : PieceLaw IsPieceStart
starting = record {
  still = piece_still;
  silent = silent_start;
  fresh = λ names x s is. fresh_start names x s.does is;
  branch = λ names s exits is on. inl (at_start s.does is);
}

all_starts : (names : List NameView) (ps : List PieceView) → AllSuch IsPieceStart names ps → AreStarts names ps
all_starts names [] is = tt
all_starts names (p ∷ ps) (one, is) = (one, all_starts names ps is)

pub starts_of_template : (structs : List StructView) (pointer int_bytes : ℕ) (f : FunctionView) (is_entry : Bool) (t : TemplateView) → IsTemplate structs pointer int_bytes f is_entry t → AreStarts t.names t.pieces
starts_of_template structs pointer int_bytes f is_entry t is =
    let closed = such_on_any_base AnyStatement starting {U = AnyStatements} {S = AnySwitch} (λ i any. any_parts i) (λ items any. any_each items) (λ s from label number q at e cases other names base any. inl refl) in
    let loaded = such_loaded AnyStatement starting (λ names at n. inl refl) (λ names at kind. inl refl) in
    all_starts t.names t.pieces (template_such starting closed loaded structs pointer int_bytes f is_entry t is tt)
