-- Calls that allocate and release.
use Rattle.cc_base.specs.Lattices.{LatticeOf}
use Rattle.cc_base.specs.IntegerDomains.{IntegersOf}
use Rattle.c_layout.specs.declared.library_functions.LibFn.TheVariants as f
use Rattle.cfg.specs.declared.programs.Flow.{Flow}
use Rattle.pointer_domain.specs.declared.base_sets.Bases.{Bases}
use Rattle.transfer_monotone.specs.Edges.CallLaws.{CallRises}

pub record AllocationCallsRise {I : Type 0} (l : LatticeOf I) (n : IntegersOf I) (all : Bases) (flow : Flow) : Type 0 where
  pub malloc : CallRises l n all flow f.Malloc
  pub calloc : CallRises l n all flow f.Calloc
  pub realloc : CallRises l n all flow f.Realloc
  pub free : CallRises l n all flow f.Free
