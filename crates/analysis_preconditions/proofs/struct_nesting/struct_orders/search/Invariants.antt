use Rattle.c_layout.specs.StructViews.{structs_view}
use Rattle.analysis_preconditions.specs.StructNesting.KnownStructs.{AreKnown}
use Rattle.analysis_preconditions.proofs.struct_nesting.struct_orders.search.Given as goal

abbrev pub invariant-loop-turn : goal.invariant-loop-turn
invariant-loop-turn l = AreKnown (structs_view l.structs) l.known
