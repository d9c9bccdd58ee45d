-- Refusals that do not come from the files.
use Rattle.std.proofs.Common.{ℕ, List, []}
use Rattle.cc_base.specs.declared.refusals.Stop.{Stop}
use Rattle.cc_base.specs.declared.refusals.Stop.TheVariants as stop
use Rattle.cc_base.specs.declared.refusals.Refusal.{Refusal}
use Rattle.cc_base.specs.declared.refusals.Refusal.TheVariants as refusal
use Rattle.cc_base.specs.declared.refusals.Fault.{Fault}
use Rattle.c_layout.specs.declared.data_model.Model.{Model}
use Rattle.c_preproc.specs.Causes.{Seen, IsCausedBy, IsCaused, IsOwnRefusal, IsOwn}

own_caused_by : (seen : Seen) (dirs : List (List ℕ)) (model : Model) (names : List (List ℕ)) (f : Fault) (why : Refusal) → IsOwnRefusal why → IsCausedBy seen dirs model names f why
own_caused_by seen dirs model names f (refusal.FileTooLong count limit) h = absurd h
own_caused_by seen dirs model names f (refusal.HeaderMissing name) h = absurd h
own_caused_by seen dirs model names f why h = h

pub own_caused : (seen : Seen) (dirs : List (List ℕ)) (model : Model) (names : List (List ℕ)) (s : Stop) → IsOwn s → IsCaused seen dirs model names s
own_caused seen dirs model names (stop.Refused f) h = own_caused_by seen dirs model names f f.refusal h
own_caused seen dirs model names stop.NotHeld h = h
own_caused seen dirs model names stop.ReadFault h = absurd h
own_caused seen dirs model names stop.Memory h = h
