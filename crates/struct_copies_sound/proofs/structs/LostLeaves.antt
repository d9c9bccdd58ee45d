-- A table in which a copy loses a leaf.
use Rattle.std.proofs.Common.{refl}
use Rattle.c_layout.specs.Leaves.{leaves_of}
use Rattle.store_structs.specs.LeafNumbers.{struct_leaf, member_at}
use Rattle.struct_copies_sound.specs.Structs.LostLeaves.{LosesLeaf}

pub loses_leaf : LosesLeaf
unfolding leaves_of struct_leaf member_at
loses_leaf = record { counted = refl; apart = refl; listed = refl; lost = refl }
