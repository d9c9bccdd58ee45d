-- The types that temporaries may have at the starts of blocks, block by block.
use Rattle.std.specs.Prelude.{ℕ, zero, suc, ◌+◌, ◌-◌, ◌*◌, ◌^◌, min, Bool, false, not, ◌||◌, cond, ◌==◌, bit_or, List, [], ◌∷◌, length, map, take, drop, replicate, Option, Some, None}
use Rattle.std.specs.List.{slice_get, slice_set, range_with_len}
use Rattle.std.specs.Option.{unwrap_or}
use Rattle.c_layout.specs.declared.data_model.Model.{Model}
use Rattle.cfg.specs.declared.basic_blocks.BasicBlock.{BasicBlock}
use Rattle.cfg.specs.declared.flow_edges.Edge.{Edge}
use Rattle.cfg.specs.declared.flow_edges.EdgeKind.{EdgeKind}
use Rattle.cfg.specs.declared.flow_edges.EdgeKind.TheVariants as edge
use Rattle.cfg.specs.declared.machine_instructions.Instruction.{Instruction}
use Rattle.cfg.specs.declared.machine_instructions.Operation.{Operation}
use Rattle.cfg.specs.declared.machine_instructions.Operation.TheVariants as op
use Rattle.cfg.specs.declared.programs.Flow.{Flow}
use Rattle.certificate_programs.specs.Types.KindSets.{no_kinds, pointers, integers, scalars, int, differences, results}

-- ---- places of a list

-- the types at a place, none where there is no such place
abbrev pub kinds_at : List ℕ → ℕ → ℕ
kinds_at list at = unwrap_or (slice_get list at) no_kinds

abbrev pub put : List ℕ → ℕ → ℕ → List ℕ
put list at kinds = slice_set list at kinds

-- the greatest number of a count, which stands for each greater one
abbrev pub capped : ℕ → ℕ
capped n = min n (2 ^ 64 - 1)

-- the place of a temporary at the start of a block
abbrev pub place : ℕ → ℕ → ℕ → ℕ
place temps block temp = capped (capped (block * temps) + temp)

-- ---- along the instructions of a block

-- the temporary that an operation gives a value, and the value's types, where it is no copy of another one's
abbrev pub given : Model → Operation → Option (ℕ × ℕ)
given m (op.Constant to value kind) = Some (to, integers kind)
given m (op.Binary to o left right kind) = Some (to, integers kind)
given m (op.Unary to o from kind) = Some (to, integers kind)
given m (op.Load to from kind) = Some (to, scalars kind)
given m (op.Convert to from old new) = Some (to, scalars new)
given m (op.Compare to rel left right) = Some (to, int m)
given m (op.Not to from kind) = Some (to, int m)
given m (op.ComparePointers to rel left right) = Some (to, int m)
given m (op.Difference to left right size) = Some (to, differences m)
given m (op.Address to base offset) = Some (to, pointers)
given m (op.Narrow to from offset size) = Some (to, pointers)
given m (op.Shift to from by size back) = Some (to, pointers)
given m (op.Copy to from index) = Some (to, pointers)
given m (op.Library (Some to) name arguments site size) = Some (to, results m name)
given m (op.ReadLine (Some to) text count stream) = Some (to, pointers)
given m _ = None

abbrev pub put_given : List ℕ → Option (ℕ × ℕ) → List ℕ
put_given kinds None = kinds
put_given kinds (Some p) = put kinds p.0 p.1

-- the types behind an operation
abbrev pub pass : Model → List ℕ → Operation → List ℕ
pass m kinds (op.Store to from kind (Some kept)) = put kinds kept.0 (kinds_at kinds kept.1)
pass m kinds o = put_given kinds (given m o)

abbrev pub pass_all : Model → List ℕ → List Instruction → List ℕ
pass_all m kinds [] = kinds
pass_all m kinds (i ∷ is) = pass_all m (pass m kinds i.operation) is

-- the types of the temporaries at the start of a block, and at its end
abbrev pub temp_before : List ℕ → ℕ → ℕ → ℕ → ℕ
temp_before all temps block temp = kinds_at all (place temps block temp)

abbrev pub kinds_before : List ℕ → ℕ → ℕ → List ℕ
kinds_before all temps block = map (temp_before all temps block) (range_with_len 0 temps)

abbrev pub kinds_after : Flow → List ℕ → ℕ → ℕ → BasicBlock → List ℕ
kinds_after flow all temps number block = pass_all flow.model (kinds_before all temps number) block.instructions.items

-- ---- along edges

-- the types of a temporary behind an edge: one that takes 0 or 1 there is an int
abbrev pub behind : Model → EdgeKind → ℕ → ℕ → ℕ
behind m (edge.When truth test (Some kept)) temp kinds = cond (kept.0 == temp) (int m) kinds
behind m _ temp kinds = kinds

-- the types at the starts of all blocks, and whether there are more than before
pub record Growth : Type 0 where
  pub all : List ℕ
  pub grew : Bool

abbrev pub still : List ℕ → Growth
still all = record { all = all; grew = false }

-- what comes of one step and then of another
abbrev pub and_then : Growth → Growth → Growth
and_then s t = record { all = t.all; grew = s.grew || t.grew }

-- types are added at a place
abbrev pub add_at : ℕ → ℕ → List ℕ → Growth
add_at at more all = record { all = put all at (bit_or (kinds_at all at) more); grew = not (bit_or (kinds_at all at) more == kinds_at all at) }

-- the types behind an edge are added to those at the start of its target, from a temporary on
abbrev pub arrive_from : Model → ℕ → Edge → ℕ → List ℕ → Growth → Growth
arrive_from m temps e temp [] s = s
arrive_from m temps e temp (k ∷ ks) s = arrive_from m temps e (temp + 1) ks (and_then s (add_at (place temps e.to temp) (behind m e.kind temp k) s.all))

abbrev pub arrive : Model → List ℕ → Edge → List ℕ → Growth
arrive m kinds e all = arrive_from m (length kinds) e 0 kinds (still all)

abbrev pub along : Model → List ℕ → List Edge → Growth → Growth
along m kinds [] s = s
along m kinds (e ∷ es) s = along m kinds es (and_then s (arrive m kinds e s.all))

abbrev pub arrive_all : Model → List ℕ → List Edge → List ℕ → Growth
arrive_all m kinds edges all = along m kinds edges (still all)

-- ---- along blocks

abbrev pub own_edges : Flow → BasicBlock → List Edge
own_edges flow block = take block.edges (drop block.first_edge flow.edges.items)

-- the types at the end of a block are added to those at the starts of the blocks behind it
abbrev pub follow : Flow → ℕ → ℕ → BasicBlock → List ℕ → Growth
follow flow temps number block all = arrive_all flow.model (kinds_after flow all temps number block) (own_edges flow block) all

abbrev pub follow_from : Flow → ℕ → ℕ → List BasicBlock → Growth → Growth
follow_from flow temps number [] s = s
follow_from flow temps number (b ∷ bs) s = follow_from flow temps (number + 1) bs (and_then s (follow flow temps number b s.all))

-- once over all blocks
abbrev pub spread : Flow → ℕ → List ℕ → Growth
spread flow temps all = follow_from flow temps 0 flow.blocks.items (still all)

-- over all blocks until nothing is new, so many times at most
abbrev pub settle : Flow → ℕ → ℕ → List ℕ → List ℕ
settle flow temps zero all = all
settle flow temps (suc n) all = cond (spread flow temps all).grew (settle flow temps n (spread flow temps all).all) (spread flow temps all).all

abbrev pub temp_kinds : Flow → List ℕ
temp_kinds flow = settle flow flow.temps (length flow.blocks.items + 1) (replicate (length flow.blocks.items * flow.temps) no_kinds)
