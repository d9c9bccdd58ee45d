-- The addresses that the pieces of a template form.
use Rattle.std.specs.Prelude.{◌≡◌, ◌⊎◌, ℕ, ◌==◌, Bool, true, List, [], ◌∷◌, Some, slice_get}
use Rattle.c_layout.specs.CheckedUnits.{FunctionView}
use Rattle.c_layout.specs.StructViews.{StructView}
use Rattle.lower_templates.specs.Worklist.Acts as acts
use Rattle.lower_templates.specs.Worklist.Acts.{Act}
use Rattle.lower_templates.specs.Worklist.Pieces.{NameView, Local, PieceView, Do, DoIfUsed, End, Mark, Call, TemplateView}
use Rattle.lower_functions.specs.Functions.Functions.{IsTemplate}

-- whether an instruction forms no address but that of a start
abbrev pub is_at_start : Act → Bool
is_at_start (acts.Address to base offset) = offset == 0
is_at_start a = true

-- an address in an object of the function
abbrev pub IsInObject : List NameView → Act → Type 0
IsInObject names (acts.Address to base offset) = (n : ℕ) × (slice_get names base ≡ Some (Local n))
IsInObject names a = ⊥

-- an address of a start, or in an object of the function
abbrev pub IsStart : List NameView → Act → Type 0
IsStart names a = (is_at_start a ≡ true) ⊎ IsInObject names a

abbrev pub IsPieceStart : List NameView → PieceView → Type 0
IsPieceStart names (Do s) = IsStart names s.does
IsPieceStart names (DoIfUsed s) = IsStart names s.does
IsPieceStart names (End s exits) = IsStart names s.does
IsPieceStart names (Mark label) = Unit {0}
IsPieceStart names (Call c) = Unit {0}

abbrev pub AreStarts : List NameView → List PieceView → Type 0
AreStarts names [] = Unit {0}
AreStarts names (p ∷ ps) = IsPieceStart names p × AreStarts names ps

-- of each template
abbrev pub AddressesAreOfStarts : Type 0
AddressesAreOfStarts = (structs : List StructView) (pointer int_bytes : ℕ) (f : FunctionView) (is_entry : Bool) (t : TemplateView) → IsTemplate structs pointer int_bytes f is_entry t → AreStarts t.names t.pieces
