use Rattle.std.proofs.Common.{◌≡◌, map, drop}
use Rattle.c_layout.specs.DeclarationTrees.{spec_tree, spec_trees, member_tree, member_trees}
use Rattle.c_layout.specs.StructLayouts.{partial_view, no_members}
use Rattle.c_types_scopes.specs.States.{state}
use Rattle.c_types_declarations.specs.Specifiers.{reading_view, nothing_read}
use Rattle.c_types_declarations.specs.SpecifierTrees as spec
use Rattle.c_types_declarations.proofs.specifier_trees.+specifiers.Given as goal

abbrev pub invariant-read_all-loop-word : goal.invariant-read_all-loop-word
invariant-read_all-loop-word l = spec.read_all (state l.fn.cx) l.alone nothing_read (spec_trees (map spec_tree l.words)) ≡ spec.read_all (state l.cx) l.alone (reading_view l.reading) (spec_trees (map spec_tree (drop l.word-index l.words)))

abbrev pub invariant-laid_out-loop-member : goal.invariant-laid_out-loop-member
invariant-laid_out-loop-member l = spec.laid_out (state l.fn.cx) l.owner l.place 0 no_members (member_trees (map member_tree l.members)) ≡ spec.laid_out (state l.cx) l.owner l.place l.fields (partial_view l.layout) (member_trees (map member_tree (drop l.member-index l.members)))
