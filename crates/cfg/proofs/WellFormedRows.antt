-- Worked rows of well-formed programs.
use Rattle.std.proofs.Common.{◌≡◌, ℕ, pos, Bool, true, false, [], ◌∷◌, Some, None, refl}
use Rattle.cfg.specs.declared.flow_edges.Edge.{Edge}
use Rattle.cfg.specs.declared.flow_edges.EdgeKind.TheVariants as edge
use Rattle.c_layout.specs.declared.shapes.BaseKind.TheVariants.{Newest}
use Rattle.cfg.specs.WellFormed.{is_automatic, are_led, goes_back, Away, Once, TwoWays, ByCases}

abbrev jump : ℕ → ℕ → Edge
jump from to = record { from = from; to = to; kind = edge.Jump }

abbrev when : Bool → Edge
when side = record { from = 0; to = 1; kind = edge.When side None None }

abbrev label : Edge
label = record { from = 0; to = 1; kind = edge.Case (record { value = pos 7; object = None }) }

-- a jump has one edge, the end of a run none
one_jump : are_led Once (jump 0 1 ∷ []) ≡ true
one_jump = refl

no_jump : are_led Once [] ≡ false
no_jump = refl

away : are_led Away (jump 0 1 ∷ []) ≡ false
away = refl

-- the true edge of a branch comes first
true_first : are_led TwoWays (when true ∷ (when false ∷ [])) ≡ true
true_first = refl

false_first : are_led TwoWays (when false ∷ (when true ∷ [])) ≡ false
false_first = refl

-- cases alone do not end a switch
no_default : are_led ByCases (label ∷ (label ∷ [])) ≡ false
no_default = refl

-- the edge of a loop goes back, and so does one from a block to itself
loop_back : goes_back 1 (jump 3 1) ≡ true
loop_back = refl

itself : goes_back 2 (jump 2 2) ≡ true
itself = refl

forward : goes_back 3 (jump 1 3) ≡ false
forward = refl

-- a block's object is none of an allocation
heap_is_no_local : is_automatic (Some Newest) ≡ false
heap_is_no_local = refl
