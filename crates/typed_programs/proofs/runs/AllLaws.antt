-- The laws of types and of effects hold.
use Rattle.typed_programs.proofs.layouts.StandingTypes.{stands_itself, stands_through, element_stands}
use Rattle.typed_programs.proofs.layouts.StructuresApart.{apart}
use Rattle.typed_programs.proofs.leaves.ScalarLeaves.{scalars_are_leaves}
use Rattle.typed_programs.proofs.leaves.StructLeaves.{structures_have_leaves}
use Rattle.typed_programs.proofs.memory.Copies.{copies}
use Rattle.typed_programs.proofs.memory.Loads.{loads}
use Rattle.typed_programs.proofs.memory.Objects.{enters, leaves, forgets, clears, spells}
use Rattle.typed_programs.proofs.memory.Pointers.{narrows, shifts}
use Rattle.typed_programs.proofs.memory.Starts.{starts}
use Rattle.typed_programs.proofs.memory.Stores.{stores}
use Rattle.typed_programs.proofs.memory.Tests.{tests, cases}
use Rattle.typed_programs.proofs.runs.TypeLaws.{TypeLaws}

pub all_laws : TypeLaws
all_laws = record {
  themselves = λ structs pointer_size t. stands_itself structs pointer_size t;
  transitive = λ structs pointer_size a b c x y p q. stands_through structs pointer_size a b c x y p q;
  elements = λ m structs laid t n i less. element_stands m structs laid t n i less;
  scalars = λ m structs laid t kind short x k scalar e. scalars_are_leaves m structs laid t kind short x k scalar e;
  apart = λ structs pointer_size outer index a b x p q less lo hi low high. apart structs pointer_size index less outer a b x p q lo hi low high;
  structures = λ flow outer base index offset view laid object found stands. structures_have_leaves flow outer base index offset view laid object found stands;
  narrows = narrows;
  shifts = shifts;
  loads = loads;
  stores = stores;
  copies = copies;
  enters = enters;
  leaves = leaves;
  forgets = forgets;
  clears = clears;
  spells = spells;
  tests = tests;
  cases = cases;
  starts = starts;
}
