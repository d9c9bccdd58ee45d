-- Well-formed programs whose texts are bytes, those that they begin with too, whose tests name objects with leaves
-- and whose structs have members that stand apart, and lists of numbers between whose ends their rows are cut.
use Rattle.std.specs.Prelude.{ℕ, ◌-◌, ◌^◌, ℤ, pos, negsuc, Bool, true, ◌&&◌, nat_lt, int_le, Option, Some, None, List, length, slice_get, slice_index_or}
use Rattle.std.specs.Ordering.{int_eq}
use Rattle.std.specs.List.{list_all}
use Rattle.cc_base.specs.Standard.{standard_limits}
use Rattle.c_layout.specs.StructViews.{structs_view}
use Rattle.c_layout.specs.declared.checked_tree.checked_units.StaticStore.{StaticStore}
use Rattle.c_layout.specs.declared.checked_tree.checked_units.StaticStore.TheVariants as store
use Rattle.c_layout.specs.declared.shapes.BaseInfo.{BaseInfo}
use Rattle.cfg.specs.Nearest.{is_among}
use Rattle.cfg.specs.WellFormed.{is_well_formed}
use Rattle.cfg.specs.declared.programs.Flow.{Flow}
use Rattle.cfg.specs.declared.programs.InitialValue.{InitialValue}
use Rattle.cfg.specs.declared.programs.InitialValue.TheVariants as initial
use Rattle.cfg.specs.declared.flow_edges.EdgeKind.{EdgeKind}
use Rattle.cfg.specs.declared.flow_edges.EdgeKind.TheVariants as edge
use Rattle.cfg.specs.declared.flow_edges.Side.{Side}
use Rattle.cfg.specs.declared.flow_edges.Side.TheVariants as side
use Rattle.cfg.specs.declared.flow_edges.Test.{Test}
use Rattle.cfg.specs.declared.machine_instructions.Operation.{Operation}
use Rattle.cfg.specs.declared.machine_instructions.Operation.TheVariants as op
use Rattle.transfer_instructions.specs.LaidApart.{are_laid_apart}
use Rattle.transfer_system.specs.BoundedRows.NearLists.{is_near_number}

-- ---- programs

abbrev pub is_byte : ℕ → Bool
is_byte c = nat_lt c 256

-- the characters of a text that is spelled are bytes
abbrev pub has_bytes : Operation → Bool
has_bytes (op.Spell base offset room text) = list_all is_byte text
has_bytes _ = true

-- a base that is there has a leaf
abbrev pub has_leaf : Option BaseInfo → Bool
has_leaf None = true
has_leaf (Some info) = nat_lt 0 (length info.shape.cells)

abbrev pub names_leaf : List BaseInfo → Side → Bool
names_leaf bases (side.Object base kind) = has_leaf (slice_get bases base)
names_leaf bases (side.Number number) = true
names_leaf bases side.Null = true

abbrev pub tests_leaves : List BaseInfo → Option Test → Bool
tests_leaves bases None = true
tests_leaves bases (Some test) = names_leaf bases test.left && names_leaf bases test.right

abbrev pub matches_leaf : List BaseInfo → Option ℕ → Bool
matches_leaf bases None = true
matches_leaf bases (Some base) = has_leaf (slice_get bases base)

-- the objects that an edge names have leaves
abbrev pub follows_leaves : List BaseInfo → EdgeKind → Bool
follows_leaves bases (edge.When truth test kept) = tests_leaves bases test
follows_leaves bases (edge.Case test) = matches_leaf bases test.object
follows_leaves bases _ = true

abbrev pub has_scalars : Flow → Bool
has_scalars flow =
    list_all (λ b. list_all (λ i. has_bytes i.operation) b.instructions.items) flow.blocks.items
    && list_all (λ e. follows_leaves flow.bases.items e.kind) flow.edges.items

-- the characters of a text that an initializer spells are bytes
abbrev pub spells_bytes : StaticStore → Bool
spells_bytes (store.Value offset v) = true
spells_bytes (store.Spell offset room text) = list_all is_byte text

abbrev pub begins_with_bytes : InitialValue → Bool
begins_with_bytes (initial.Stores stores) = list_all spells_bytes stores.items
begins_with_bytes (initial.Literal text) = list_all is_byte text

-- so are those of all texts that are there when a program begins
abbrev pub has_initial_bytes : Flow → Bool
has_initial_bytes flow = list_all (λ x. begins_with_bytes x.value) flow.initial.items

-- the members of its structs stand apart
abbrev pub has_apart_members : Flow → Bool
has_apart_members flow = are_laid_apart flow.model (structs_view flow.structs)

-- ---- lists

abbrev pub first_number : List ℤ → ℤ
first_number list = slice_index_or list 0 (pos 0)

abbrev pub last_number : List ℤ → ℤ
last_number list = slice_index_or list (length list - 1) (pos 0)

-- the first number is from -2^64 to 0 and the last one is 2^64, with all others between them, and 0 is among them
abbrev pub is_near_list : List ℤ → Bool
is_near_list list =
    nat_lt 0 (length list)
    && (is_near_number (negsuc (2 ^ 64 - 1)) (first_number list)
    && (int_le (first_number list) (pos 0)
    && (int_eq (last_number list) (pos (2 ^ 64))
    && (list_all (is_near_number (first_number list)) list
    && is_among list (pos 0)))))

-- ---- both

-- a well-formed program and a list with which its system is monotone
abbrev pub is_regular : Flow → List ℤ → Bool
is_regular flow list = is_well_formed standard_limits flow && (has_scalars flow && (has_initial_bytes flow && (has_apart_members flow && is_near_list list)))
