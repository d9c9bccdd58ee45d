-- An inductive map is closed.
use Rattle.std.specs.Prelude.{List, Option}
use Rattle.cc_base.specs.Lattices.{LatticeOf}
use Rattle.cc_base.specs.Machine.{Machine}
use Rattle.cc_base.specs.InductiveMap.{IsInductive}
use Rattle.cc_base.specs.ClosedMap.{IsClosed}

pub inductive_closed : {C : Type 0} (o : LatticeOf C) (m : Machine C) (rows : List (Option (List C))) → IsInductive o m rows → IsClosed o m rows
inductive_closed o m rows h = record { size = h.size; own = h.own; entry = h.entry; edge = h.edge }
