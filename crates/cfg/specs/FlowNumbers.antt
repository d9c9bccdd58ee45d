-- The numbers that a control-flow program speaks of.
use Rattle.std.specs.Prelude.{ℕ, ℤ, pos, List, [], ◌∷◌, ◌++◌}
use Rattle.c_layout.specs.declared.shapes.BaseInfo.{BaseInfo}
use Rattle.c_layout.specs.declared.shapes.BaseKind.{BaseKind}
use Rattle.c_layout.specs.declared.shapes.BaseKind.TheVariants.{Static, Automatic}
use Rattle.cfg.specs.declared.basic_blocks.BasicBlock.{BasicBlock}
use Rattle.cfg.specs.declared.flow_edges.Edge.{Edge}
use Rattle.cfg.specs.declared.flow_edges.EdgeKind.{EdgeKind}
use Rattle.cfg.specs.declared.flow_edges.EdgeKind.TheVariants.{Case}
use Rattle.cfg.specs.declared.machine_instructions.Instruction.{Instruction}
use Rattle.cfg.specs.declared.machine_instructions.Operation.{Operation}
use Rattle.cfg.specs.declared.machine_instructions.Operation.TheVariants.{Constant, Narrow}
use Rattle.cfg.specs.ThresholdNumbers.{neighbours}

-- the number of a constant with its neighbours, the size of a narrow
abbrev pub operation_numbers : Operation → List ℤ
operation_numbers (Constant to n kind) = neighbours n
operation_numbers (Narrow to from offset size) = pos size ∷ []
operation_numbers _ = []

-- the number of a case label with its neighbours
abbrev pub edge_numbers : EdgeKind → List ℤ
edge_numbers (Case test) = neighbours test.value
edge_numbers _ = []

-- the size of a declared base
abbrev pub base_numbers : BaseKind → ℕ → List ℤ
base_numbers Static size = pos size ∷ []
base_numbers Automatic size = pos size ∷ []
base_numbers _ size = []

abbrev pub instructions_numbers : List Instruction → List ℤ
instructions_numbers [] = []
instructions_numbers (i ∷ is) = operation_numbers i.operation ++ instructions_numbers is

abbrev pub blocks_numbers : List BasicBlock → List ℤ
blocks_numbers [] = []
blocks_numbers (b ∷ bs) = instructions_numbers b.instructions.items ++ blocks_numbers bs

abbrev pub edges_numbers : List Edge → List ℤ
edges_numbers [] = []
edges_numbers (e ∷ es) = edge_numbers e.kind ++ edges_numbers es

abbrev pub bases_numbers : List BaseInfo → List ℤ
bases_numbers [] = []
bases_numbers (b ∷ bs) = base_numbers b.kind b.size ++ bases_numbers bs
