-- Trees of units over tokens that are of bytes are proper.
use Rattle.std.proofs.Common.{◌≡◌, true, List, []}
use Rattle.c_types_well_formed_units.specs.Trees.ByteTokens.{TreesAreProper, TreesDeclareInBlocks}
use Rattle.c_types_well_formed_units.proofs.trees.Blocks.{pieces_in_blocks}
use Rattle.c_types_well_formed_units.proofs.trees.Statements.{pieces}
use Rattle.c_types_well_formed_units.proofs.trees.Terminals.{classified_proper}

pub trees_are_proper : TreesAreProper
trees_are_proper m tokens es proper h is = pieces m es [] is.terminals [] is.pieces (classified_proper m tokens is.terminals proper h is.classes)

pub trees_in_blocks : TreesDeclareInBlocks
trees_in_blocks m tokens es is = pieces_in_blocks es [] is.terminals [] is.pieces
