-- Whether the blocks and edges of a control-flow program make a system.
use Rattle.std.specs.Prelude.{ℕ, ◌^◌, Bool, true, ◌&&◌, ◌||◌, nat_le, nat_lt, List, [], ◌∷◌, length}
use Rattle.std.specs.List.{list_all}
use Rattle.cfg.specs.declared.programs.Flow.{Flow}
use Rattle.cfg.specs.declared.basic_blocks.BasicBlock.{BasicBlock}
use Rattle.cfg.specs.declared.flow_edges.Edge.{Edge}
use Rattle.transfer_system.specs.System.FlowMachines.{is_head_at}

-- an edge between blocks that are there, which enters a head where it goes back
abbrev pub is_sound_edge : List BasicBlock → Edge → Bool
is_sound_edge blocks e = nat_lt e.from (length blocks) && (nat_lt e.to (length blocks) && (nat_lt e.from e.to || is_head_at blocks e.to))

-- edges numbered by the blocks that they leave, from a block on
abbrev pub is_in_order : ℕ → List Edge → Bool
is_in_order least [] = true
is_in_order least (e ∷ es) = nat_le least e.from && is_in_order e.from es

abbrev pub is_few : ℕ → Bool
is_few count = nat_lt count (2 ^ 31)

abbrev pub is_system : Flow → Bool
is_system flow =
    nat_lt 0 (length flow.blocks.items)
    && (is_few (length flow.blocks.items)
    && (is_few (length flow.edges.items)
    && (list_all (is_sound_edge flow.blocks.items) flow.edges.items
    && is_in_order 0 flow.edges.items)))
