use Rattle.std.proofs.Common.{map, length}
use Rattle.c_layout.specs.DeclarationTrees.{init_declarator_view}
use Rattle.c_parser.specs.Findings.{FoundFurther}
use Rattle.c_parser.specs.UnitReaders.{further, behind_items}
use Rattle.c_parser.proofs.Turns.{FurtherLeft}
use Rattle.c_parser.proofs.external_declarations.further_declarators.Given as goal

abbrev pub invariant-loop-turn : goal.invariant-loop-turn
invariant-loop-turn l = record {
  found : FoundFurther l.gives l.fn.typedefs l.typedefs l.budget (map init_declarator_view l.fn.found.items) (map init_declarator_view l.found.items) l.height l.fn.reader l.reader;
  read :
      FurtherLeft l.gives l.budget (length l.fn.reader) l._turn l.typedefs (map init_declarator_view l.found.items) l.height l.reader
      (behind_items (map init_declarator_view l.fn.found.items) (further l.gives l.budget (length l.fn.reader) l.fn.typedefs l.fn.reader));
}
