-- What a well-formed control-flow program is: what a part names is there, and is of the kind that the
-- part needs; edges are numbered by the blocks that they leave; heads are where edges go back to.
use Rattle.std.specs.Prelude.{ℕ, zero, suc, ℤ, pos, negsuc, ◌+◌, ◌*◌, ◌-◌, ◌^◌, Bool, true, false, cond, ◌&&◌, ◌==◌, nat_le, nat_lt, int_le, List, [], ◌∷◌, length, take, drop, Option, Some, None, slice_get}
use Rattle.std.specs.List.{list_any, list_all}
use Rattle.cc_base.specs.declared.int_types.IntType.{IntType}
use Rattle.cc_base.specs.declared.limit_table.Limits.{Limits}
use Rattle.c_layout.specs.declared.shapes.BaseInfo.{BaseInfo}
use Rattle.c_layout.specs.declared.shapes.BaseKind.{BaseKind}
use Rattle.c_layout.specs.declared.shapes.BaseKind.TheVariants.{Static, Automatic, Literal, Newest, Older}
use Rattle.c_layout.specs.Models.{is_model}
use Rattle.c_layout.specs.StructViews.{structs_view}
use Rattle.c_layout.specs.declared.data_model.Model.{Model}
use Rattle.cfg.specs.ModelKinds.{is_int_type}
use Rattle.cfg.specs.BaseShapes.{is_extent, same_truth, has_room, are_shaped}
use Rattle.cfg.specs.StaticStarts.{are_started}
use Rattle.cfg.specs.StructCounts.{are_counted}
use Rattle.cfg.specs.declared.basic_blocks.BasicBlock.{BasicBlock}
use Rattle.cfg.specs.declared.flow_edges.Edge.{Edge}
use Rattle.cfg.specs.declared.flow_edges.EdgeKind.{EdgeKind}
use Rattle.cfg.specs.declared.flow_edges.EdgeKind.TheVariants as edge
use Rattle.cfg.specs.declared.flow_edges.Test.{Test}
use Rattle.cfg.specs.declared.flow_edges.Side.{Side}
use Rattle.cfg.specs.declared.flow_edges.Side.TheVariants as side
use Rattle.cfg.specs.declared.machine_instructions.Amount.{Amount}
use Rattle.cfg.specs.declared.machine_instructions.Amount.TheVariants as amount
use Rattle.cfg.specs.declared.machine_instructions.Scalar.{Scalar}
use Rattle.cfg.specs.declared.machine_instructions.Scalar.TheVariants as scalar
use Rattle.cfg.specs.declared.machine_instructions.Instruction.{Instruction}
use Rattle.cfg.specs.declared.machine_instructions.Operation.{Operation}
use Rattle.cfg.specs.declared.machine_instructions.Operation.TheVariants as op
use Rattle.cfg.specs.declared.programs.InitialObject.{InitialObject}
use Rattle.cfg.specs.declared.programs.ParameterInput.{ParameterInput}
use Rattle.cfg.specs.declared.programs.Flow.{Flow}

-- what the parts of a program may name
pub record Names : Type 0 where
  pub temps : ℕ
  pub bases : List BaseInfo
  pub structs : ℕ
  pub model : Model

-- a number of some integer type
abbrev pub is_number : ℤ → Bool
is_number n = int_le (negsuc (2 ^ 63 - 1)) n && int_le n (pos (2 ^ 64 - 1))

abbrev pub is_scalar : Model → Scalar → Bool
is_scalar m (scalar.Int kind) = is_int_type m kind
is_scalar m scalar.Pointer = true

abbrev pub kind_at : List BaseInfo → ℕ → Option BaseKind
kind_at [] b = None
kind_at (info ∷ infos) zero = Some info.kind
kind_at (info ∷ infos) (suc b) = kind_at infos b

-- the size of an object or a literal
abbrev pub is_declared : Option BaseKind → Bool
is_declared (Some Static) = true
is_declared (Some Automatic) = true
is_declared (Some Literal) = true
is_declared _ = false

abbrev pub is_automatic : Option BaseKind → Bool
is_automatic (Some Automatic) = true
is_automatic _ = false

abbrev pub is_initial : Option BaseKind → Bool
is_initial (Some Static) = true
is_initial (Some Literal) = true
is_initial _ = false

abbrev pub is_newest : Option BaseKind → Bool
is_newest (Some Newest) = true
is_newest _ = false

abbrev pub is_older : Option BaseKind → Bool
is_older (Some Older) = true
is_older _ = false

-- a site of allocations: its newest base, and its older one behind it
abbrev pub is_site : List BaseInfo → Option ℕ → Bool
is_site bases None = true
is_site bases (Some b) = is_newest (kind_at bases b) && is_older (kind_at bases (b + 1))

abbrev pub has_temp : Names → ℕ → Bool
has_temp n t = nat_lt t n.temps

abbrev pub has_local : Names → ℕ → Bool
has_local n b = is_automatic (kind_at n.bases b)

abbrev pub has_amount : Names → Amount → Bool
has_amount n (amount.Temp t) = has_temp n t
has_amount n amount.One = true

abbrev pub has_result : Names → Option ℕ → Bool
has_result n None = true
has_result n (Some t) = has_temp n t

abbrev pub has_kept : Names → Option (ℕ × ℕ) → Bool
has_kept n None = true
has_kept n (Some p) = has_temp n p.0 && has_temp n p.1

abbrev pub is_optional_extent : Option ℕ → Bool
is_optional_extent None = true
is_optional_extent (Some size) = is_extent size

-- an offset of an object, or its end
abbrev pub reaches : ℕ → Option BaseInfo → Bool
reaches offset None = false
reaches offset (Some info) = nat_le offset info.size

-- whether an instruction names only what is there
abbrev pub fits_operation : Names → Operation → Bool
fits_operation n (op.Constant to value kind) = has_temp n to && (is_number value && is_int_type n.model kind)
fits_operation n (op.Address to b offset) = has_temp n to && (is_declared (kind_at n.bases b) && reaches offset (slice_get n.bases b))
fits_operation n (op.Load to from kind) = has_temp n to && (has_temp n from && is_scalar n.model kind)
fits_operation n (op.Store to from kind kept) = has_temp n to && (has_temp n from && (is_scalar n.model kind && has_kept n kept))
fits_operation n (op.Copy to from index) = has_temp n to && (has_temp n from && nat_lt index n.structs)
fits_operation n (op.Narrow to from offset size) = has_temp n to && (has_temp n from && (is_extent offset && is_extent size))
fits_operation n (op.Shift to from by size back) = has_temp n to && (has_temp n from && (has_amount n by && is_extent size))
fits_operation n (op.Binary to o left right kind) = has_temp n to && (has_temp n left && (has_amount n right && is_int_type n.model kind))
fits_operation n (op.Unary to o from kind) = has_temp n to && (has_temp n from && is_int_type n.model kind)
fits_operation n (op.Compare to rel left right) = has_temp n to && (has_temp n left && has_temp n right)
fits_operation n (op.Not to from kind) = has_temp n to && (has_temp n from && is_scalar n.model kind)
fits_operation n (op.Difference to left right size) = has_temp n to && (has_temp n left && (has_temp n right && (is_extent size && nat_lt 0 size)))
fits_operation n (op.ComparePointers to rel left right) = has_temp n to && (has_temp n left && has_temp n right)
fits_operation n (op.Convert to from old new) = has_temp n to && (has_temp n from && (is_scalar n.model old && is_scalar n.model new))
fits_operation n (op.Library to function arguments site size) = has_result n to && (list_all (has_temp n) arguments.items && (is_site n.bases site && is_optional_extent size))
fits_operation n (op.Enter b) = has_local n b
fits_operation n (op.Leave b) = has_local n b
fits_operation n (op.Forget b) = has_local n b
fits_operation n (op.Clear b) = has_local n b
fits_operation n (op.Spell b offset size text) = has_local n b && ((is_extent offset && is_extent size) && has_room offset size (slice_get n.bases b))
fits_operation n op.Jump = true
fits_operation n (op.Branch t kind) = has_temp n t && is_scalar n.model kind
fits_operation n (op.Switch t kind) = has_temp n t && is_int_type n.model kind
fits_operation n (op.ReadLine to text count stream) = has_result n to && (has_temp n text && (has_temp n count && has_temp n stream))
fits_operation n op.Stop = true

-- the edges with which an instruction ends its block, where it does
pub data Leads : Type 0 where
  On : Leads
  Away : Leads
  Once : Leads
  TwoWays : Leads
  ByCases : Leads
  ByLine : Leads

abbrev pub leads : Operation → Leads
leads op.Jump = Once
leads (op.Branch t kind) = TwoWays
leads (op.Switch t kind) = ByCases
leads (op.ReadLine to text count stream) = ByLine
leads op.Stop = Away
leads _ = On

abbrev pub is_case : EdgeKind → Bool
is_case (edge.Case test) = true
is_case _ = false

abbrev pub is_other : EdgeKind → Bool
is_other (edge.Other values) = true
is_other _ = false

-- case edges, and behind them the one for all other values
abbrev pub are_cases : List Edge → Bool
are_cases [] = false
are_cases (e ∷ []) = is_other e.kind
are_cases (e ∷ (d ∷ es)) = is_case e.kind && are_cases (d ∷ es)

abbrev pub is_jump : EdgeKind → Bool
is_jump edge.Jump = true
is_jump _ = false

abbrev pub is_when : Bool → EdgeKind → Bool
is_when truth (edge.When on test kept) = same_truth truth on
is_when truth _ = false

abbrev pub is_no_line : EdgeKind → Bool
is_no_line edge.NoLine = true
is_no_line _ = false

abbrev pub is_line : EdgeKind → Bool
is_line edge.Line = true
is_line _ = false

-- whether edges are those with which the last instruction of their block ends it
abbrev pub are_led : Leads → List Edge → Bool
are_led Away [] = true
are_led Once (e ∷ []) = is_jump e.kind
are_led TwoWays (e ∷ (d ∷ [])) = is_when true e.kind && is_when false d.kind
are_led ByCases es = are_cases es
are_led ByLine (e ∷ (d ∷ [])) = is_no_line e.kind && is_line d.kind
are_led _ es = false

-- instructions of which only the last one ends the block, by these edges
abbrev pub is_body : Leads → List Instruction → List Edge → Bool
is_body On [] es = false
is_body On (i ∷ is) es = is_body (leads i.operation) is es
is_body l [] es = are_led l es
is_body l (i ∷ is) es = false

abbrev pub fits_side : Names → Side → Bool
fits_side n (side.Object b kind) = is_declared (kind_at n.bases b) && is_scalar n.model kind
fits_side n (side.Number value) = is_number value
fits_side n side.Null = true

abbrev pub is_common : Model → Option IntType → Bool
is_common m None = true
is_common m (Some kind) = is_int_type m kind

abbrev pub fits_test : Names → Option Test → Bool
fits_test n None = true
fits_test n (Some t) = fits_side n t.left && (fits_side n t.right && is_common n.model t.common)

abbrev pub fits_taken : Names → Option (ℕ × ℤ) → Bool
fits_taken n None = true
fits_taken n (Some p) = has_temp n p.0 && is_number p.1

abbrev pub fits_object : Names → Option ℕ → Bool
fits_object n None = true
fits_object n (Some b) = is_declared (kind_at n.bases b)

abbrev pub fits_edge : Names → EdgeKind → Bool
fits_edge n edge.Jump = true
fits_edge n (edge.When truth test kept) = fits_test n test && fits_taken n kept
fits_edge n (edge.Case test) = is_number test.value && fits_object n test.object
fits_edge n (edge.Other values) = list_all is_number values.items
fits_edge n edge.NoLine = true
fits_edge n edge.Line = true

-- edges that all leave one block and enter blocks that are there
abbrev pub all_leave : ℕ → ℕ → List Edge → Bool
all_leave blocks from es = list_all (λ e. (e.from == from) && nat_lt e.to blocks) es

-- an edge from the same or a later block
abbrev pub goes_back : ℕ → Edge → Bool
goes_back to e = (e.to == to) && nat_le to e.from

abbrev pub is_block : Names → ℕ → List Edge → ℕ → BasicBlock → List Edge → Bool
is_block n blocks edges at b own =
    list_all (λ i. fits_operation n i.operation) b.instructions.items
    && (is_body On b.instructions.items own
    && ((length own == b.edges)
    && (all_leave blocks at own
    && same_truth b.is_head (list_any (goes_back at) edges))))

-- the blocks from a number on, whose edges have the numbers from `first` on
abbrev pub are_blocks : Names → ℕ → List Edge → ℕ → ℕ → List BasicBlock → List Edge → Bool
are_blocks n blocks edges at first [] rest = length rest == 0
are_blocks n blocks edges at first (b ∷ bs) rest =
    ((b.first_edge == first) && is_block n blocks edges at b (take b.edges rest))
    && are_blocks n blocks edges (at + 1) (first + b.edges) bs (drop b.edges rest)

-- how many values a base has in a row: its leaves, its first-zero parts, and of a heap base the six
-- class cells and the allocation state
abbrev pub base_cells : BaseInfo → ℕ
base_cells b = length b.shape.cells + cond b.shape.heap 6 0

abbrev pub base_values : BaseInfo → ℕ
base_values b = (base_cells b + length b.shape.zeros) + cond b.shape.heap 1 0

abbrev pub all_cells : List BaseInfo → ℕ
all_cells [] = 0
all_cells (b ∷ bs) = base_cells b + all_cells bs

-- bases whose values follow each other in a row; the length of the row's part
abbrev pub are_placed : ℕ → List BaseInfo → Bool
are_placed first [] = true
are_placed first (b ∷ bs) = (b.first == first) && (is_extent b.size && are_placed (first + base_values b) bs)

abbrev pub all_values : List BaseInfo → ℕ
all_values [] = 0
all_values (b ∷ bs) = base_values b + all_values bs

abbrev pub fits_initial_base : List BaseInfo → Option ℕ → Bool
fits_initial_base bases None = true
fits_initial_base bases (Some b) = is_initial (kind_at bases b)

abbrev pub is_initial_object : List BaseInfo → InitialObject → Bool
is_initial_object bases o = is_extent o.size && fits_initial_base bases o.base

abbrev pub is_parameter : Model → List BaseInfo → ParameterInput → Bool
is_parameter m bases p = is_automatic (kind_at bases p.base) && is_int_type m p.kind

abbrev pub all_instructions : List BasicBlock → ℕ
all_instructions [] = 0
all_instructions (b ∷ bs) = length b.instructions.items + all_instructions bs

-- the counts of a program are within their limits; the pool holds a row for each block and two more
abbrev pub is_within : Limits → Flow → Bool
is_within limits f =
    nat_le f.temps limits.temps
    && (nat_le (length f.bases.items) limits.bases
    && (nat_le (all_cells f.bases.items) limits.cells
    && (nat_le (length f.blocks.items) limits.blocks
    && (nat_le (all_instructions f.blocks.items) limits.instructions
    && nat_le ((length f.blocks.items + 2) * f.width) limits.pool))))

abbrev pub names_of : Flow → Names
names_of f = record { temps = f.temps; bases = f.bases.items; structs = length f.structs.items.items; model = f.model }

-- numbers of blocks and edges that can be counted on
abbrev pub is_few : ℕ → Bool
is_few count = nat_lt count (2 ^ 31)

abbrev pub are_few : Flow → Bool
are_few f = is_few (length f.blocks.items) && is_few (length f.edges.items)

-- the bases, the objects that are there before the run begins, and the structs are such as the model makes them
abbrev pub is_laid_out : Flow → Bool
is_laid_out f =
    is_model f.model
    && (are_shaped f.model f.bases.items
    && (are_started f.model f.bases.items f.initial.items
    && are_counted (structs_view f.structs)))

-- a well-formed program within limits
abbrev pub is_well_formed : Limits → Flow → Bool
is_well_formed limits f =
    nat_lt 0 (length f.blocks.items)
    && (are_blocks (names_of f) (length f.blocks.items) f.edges.items 0 0 f.blocks.items f.edges.items
    && (list_all (λ e. fits_edge (names_of f) e.kind) f.edges.items
    && (are_placed 0 f.bases.items
    && ((f.width == all_values f.bases.items + f.temps)
    && (list_all (is_initial_object f.bases.items) f.initial.items
    && (list_all (is_parameter f.model f.bases.items) f.parameters.items
    && (is_within limits f
    && (are_few f
    && is_laid_out f))))))))
