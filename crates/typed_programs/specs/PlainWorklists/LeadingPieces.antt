-- Pieces whose edges lead to labels that stand later, and that call only functions that plain units call.
use Rattle.std.specs.Prelude.{◌≡◌, ◌⊎◌, ℕ, Bool, true, false, List, [], ◌∷◌}
use Rattle.lower_templates.specs.Worklist.Acts as acts
use Rattle.lower_templates.specs.Worklist.Acts.{Act}
use Rattle.lower_templates.specs.Worklist.Pieces.{NameView, Allocation, ExitView, PieceView, Do, DoIfUsed, End, Mark, Call, TemplateView}
use Rattle.typed_programs.specs.PlainUnits.PlainTerms.{is_plain_library}

-- an instruction that calls no other library function, and reads no line
abbrev pub is_plain_act : Act → Bool
is_plain_act (acts.Library to function arguments newest size) = is_plain_library function
is_plain_act (acts.ReadLine to text count stream) = false
is_plain_act a = true

-- a name that is of no allocation
abbrev pub is_of_object : NameView → Bool
is_of_object (Allocation target) = false
is_of_object x = true

abbrev pub AreOfObjects : List NameView → Type 0
AreOfObjects [] = Unit {0}
AreOfObjects (x ∷ xs) = (is_of_object x ≡ true) × AreOfObjects xs

-- all edges lead to such labels
abbrev pub AllTo : (ℕ → Type 0) → List ExitView → Type 0
AllTo L [] = Unit {0}
AllTo L (e ∷ es) = L e.to × AllTo L es

abbrev pub Marks : PieceView → ℕ → Type 0
Marks (Do s) l = ⊥
Marks (DoIfUsed s) l = ⊥
Marks (End s exits) l = ⊥
Marks (Mark m) l = l ≡ m
Marks (Call c) l = ⊥

-- a label that pieces mark, or one of those that stand behind them
abbrev pub Marked : List PieceView → (ℕ → Type 0) → ℕ → Type 0
Marked [] L l = L l
Marked (p ∷ ps) L l = Marks p l ⊎ Marked ps L l

abbrev pub IsLeading : (ℕ → Bool) → (ℕ → Type 0) → PieceView → Type 0
IsLeading calls L (Do s) = is_plain_act s.does ≡ true
IsLeading calls L (DoIfUsed s) = is_plain_act s.does ≡ true
IsLeading calls L (End s exits) = (is_plain_act s.does ≡ true) × AllTo L exits
IsLeading calls L (Mark l) = Unit {0}
IsLeading calls L (Call c) = calls c.function ≡ true

-- each edge leads to a label that stands later, and each call is of a function that passes a test
abbrev pub LeadOn : (ℕ → Bool) → (ℕ → Type 0) → List PieceView → Type 0
LeadOn calls L [] = Unit {0}
LeadOn calls L (p ∷ ps) = IsLeading calls (Marked ps L) p × LeadOn calls L ps

abbrev pub NoLabel : ℕ → Type 0
NoLabel l = ⊥

-- a template that leads on within itself, and names no allocation
pub record LeadsOn (calls : ℕ → Bool) (t : TemplateView) : Type 0 where
  pub pieces : LeadOn calls NoLabel t.pieces
  pub names : AreOfObjects t.names
