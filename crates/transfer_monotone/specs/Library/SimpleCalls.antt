-- Calls that end the program or work on single characters.
use Rattle.cc_base.specs.Lattices.{LatticeOf}
use Rattle.cc_base.specs.IntegerDomains.{IntegersOf}
use Rattle.c_layout.specs.declared.library_functions.LibFn.TheVariants as f
use Rattle.cfg.specs.declared.programs.Flow.{Flow}
use Rattle.pointer_domain.specs.declared.base_sets.Bases.{Bases}
use Rattle.transfer_monotone.specs.Edges.CallLaws.{CallRises}

pub record SimpleCallsRise {I : Type 0} (l : LatticeOf I) (n : IntegersOf I) (all : Bases) (flow : Flow) : Type 0 where
  pub exit : CallRises l n all flow f.Exit
  pub abort : CallRises l n all flow f.Abort
  pub getchar : CallRises l n all flow f.Getchar
  pub putchar : CallRises l n all flow f.Putchar
  pub isalpha : CallRises l n all flow f.Isalpha
  pub isdigit : CallRises l n all flow f.Isdigit
  pub isspace : CallRises l n all flow f.Isspace
  pub isupper : CallRises l n all flow f.Isupper
  pub islower : CallRises l n all flow f.Islower
  pub isalnum : CallRises l n all flow f.Isalnum
  pub toupper : CallRises l n all flow f.Toupper
  pub tolower : CallRises l n all flow f.Tolower
