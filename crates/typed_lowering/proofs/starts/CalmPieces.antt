-- Calm pieces, by the labels to which edges may lead, the same for all.
use Rattle.std.proofs.Common.{inl, inr, ℕ, Bool, List, [], ◌∷◌}
use Rattle.lower_templates.specs.Worklist.Pieces.{PieceView, TemplateView}
use Rattle.typed_programs.specs.PlainWorklists.LeadingPieces.{Marked, IsLeading, LeadOn, NoLabel}
use Rattle.typed_programs.proofs.plain_worklists.LeadingWorks.{leading_more}
use Rattle.typed_lowering.specs.LoopedUnits.CalmTemplates.{IsMarkedIn, IsCalm}

abbrev pub AreCalm : (ℕ → Bool) → (ℕ → Type 0) → List PieceView → Type 0
AreCalm calls L [] = Unit {0}
AreCalm calls L (p ∷ ps) = IsLeading calls L p × AreCalm calls L ps

within : (L : ℕ → Type 0) (ps : List PieceView) → ((l : ℕ) → Marked ps NoLabel l → L l) → (l : ℕ) → Marked ps L l → L l
within L [] has l is = is
within L (p ∷ ps) has l (inl is) = has l (inl is)
within L (p ∷ ps) has l (inr is) = within L ps (λ i marked. has i (inr marked)) l is

behind : (L : ℕ → Type 0) (ps : List PieceView) (l : ℕ) → L l → Marked ps L l
behind L [] l is = is
behind L (p ∷ ps) l is = inr (behind L ps l is)

lead_calm : (calls : ℕ → Bool) (L : ℕ → Type 0) (ps : List PieceView) → ((l : ℕ) → Marked ps NoLabel l → L l) → LeadOn calls L ps → AreCalm calls L ps
lead_calm calls L [] has lead = tt
lead_calm calls L (p ∷ ps) has (one, lead) =
    let later : (l : ℕ) → Marked ps NoLabel l → L l = λ l is. has l (inr is) in
    (leading_more calls (Marked ps L) L p (within L ps later) one, lead_calm calls L ps later lead)

pub calm_lead : (calls : ℕ → Bool) (L : ℕ → Type 0) (ps : List PieceView) → AreCalm calls L ps → LeadOn calls L ps
calm_lead calls L [] calm = tt
calm_lead calls L (p ∷ ps) (one, calm) = (leading_more calls L (Marked ps L) p (behind L ps) one, calm_lead calls L ps calm)

pub pieces_calm : (calls : ℕ → Bool) (t : TemplateView) → IsCalm calls t → AreCalm calls (IsMarkedIn t) t.pieces
pieces_calm calls t calm = lead_calm calls (IsMarkedIn t) t.pieces (λ l is. is) calm.pieces
