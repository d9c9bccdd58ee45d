-- Structs whose members stand one behind the other.
use Rattle.std.specs.Prelude.{ℕ, ◌+◌, Bool, true, ◌&&◌, ◌==◌, nat_le, List, [], ◌∷◌}
use Rattle.std.specs.List.{list_all}
use Rattle.c_layout.specs.declared.data_model.Model.{Model}
use Rattle.c_layout.specs.Leaves.{class_of}
use Rattle.c_layout.specs.StructViews.{FieldView, StructView}
use Rattle.c_layout.specs.Types.{Ty, Int, Pointer, Array, Struct, Void}
use Rattle.cfg.specs.BaseShapes.{is_extent, ends_by}
use Rattle.cfg.specs.ModelKinds.{class_bytes}
use Rattle.store_structs.specs.LeafCounts.{bytes_in}

-- an integer type, also behind arrays, has the bytes that the model gives its class
abbrev pub has_class_bytes : Model → Ty → Bool
has_class_bytes m (Int k) = k.bytes == class_bytes m (class_of k)
has_class_bytes m (Pointer t) = true
has_class_bytes m (Array t n) = has_class_bytes m t
has_class_bytes m (Struct i) = true
has_class_bytes m Void = true

-- a member lies between an offset and the end of the room
abbrev pub is_member_in : Model → List StructView → ℕ → ℕ → FieldView → Bool
is_member_in m structs room from f = has_class_bytes m f.ctype && (nat_le from f.offset && ends_by f.offset (bytes_in structs m.pointer f.ctype) room)

-- members in order, each at or behind the end of the one before, up to the end of the room
abbrev pub are_members_in : Model → List StructView → ℕ → ℕ → List FieldView → Bool
are_members_in m structs room from [] = true
are_members_in m structs room from (f ∷ fs) = is_member_in m structs room from f && are_members_in m structs room (f.offset + bytes_in structs m.pointer f.ctype) fs

abbrev pub is_laid_apart : Model → List StructView → StructView → Bool
is_laid_apart m structs s = is_extent s.size && are_members_in m structs s.size 0 s.fields

-- the members of each struct stand apart within its size
abbrev pub are_laid_apart : Model → List StructView → Bool
are_laid_apart m structs = list_all (is_laid_apart m structs) structs
