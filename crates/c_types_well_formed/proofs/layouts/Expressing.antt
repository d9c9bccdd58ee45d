-- Expressions keep layouts.
use Rattle.std.proofs.Common.{Ok, Err}
use Rattle.c_types_scopes.specs.Refusals.{Ruled}
use Rattle.c_types_scopes.specs.States.{State}
use Rattle.c_layout.specs.SyntaxTrees.{Tree}
use Rattle.c_types_expressions.specs.Expressions.Expressions.{typed}
use Rattle.c_types_theorems.proofs.entries.Expressing.{typed_leads}
use Rattle.c_types_well_formed.specs.Layouts.LaidStructs.{HasLayouts, LaidBehind, ExpressionsLay}
use Rattle.c_types_well_formed.proofs.layouts.Laying.{MayLay, LaidTo, any, led, steps_lay}

pub laid_behind : {V : Type 0} (s : State) (P : V → State → Type 0) (r : Ruled (V × State)) → LaidTo s P r → LaidBehind r
laid_behind s P (Ok p) h = h.0.layouts
laid_behind s P (Err f) h = tt

pub typed_lays : (s : State) (e : Tree) → HasLayouts s → LaidTo s any (typed s e)
typed_lays s e h = led s (typed s e) h (typed_leads MayLay steps_lay s e)

pub expressions_lay : ExpressionsLay
expressions_lay s e h = laid_behind s any (typed s e) (typed_lays s e h)
