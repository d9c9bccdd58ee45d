-- What follows for so many turns follows for fewer.
use Rattle.std.specs.Prelude.{ℕ, zero, suc, List}
use Rattle.lower_templates.specs.Worklist.Pieces.{PieceView}
use Rattle.semantics.specs.SourceMachine.Items.{Item}
use Rattle.simulation_terms.specs.SimulationRelation.Activations.{Activation}
use Rattle.simulation_terms.specs.SimulationRelation.Simulates as simulates
use Rattle.simulation_terms.specs.SimulationRelation.Simulates.{Simulates}

pub less : {t : Activation} (n d : ℕ) (items : List Item) (ps : List PieceView) → Simulates t (suc n) d items ps → Simulates t n d items ps
less zero d items ps f = simulates.enough d items ps
less (suc n) _ _ _ (simulates.by_mark _ d l items ps f) = simulates.by_mark (suc n) d l items ps (less (suc n) d items ps f)
less (suc n) _ _ _ (simulates.value _ d e items ps f) = simulates.value n d e items ps (less n d _ ps f)
less (suc n) _ _ _ (simulates.unused _ d e items ps f) = simulates.unused n d e items ps (less n d _ ps f)
less (suc n) _ _ _ (simulates.address _ d l items ps f) = simulates.address n d l items ps (less n d _ ps f)
less (suc n) _ _ _ (simulates.statement _ d i items ps f) = simulates.statement n d i items ps (less n d _ ps f)
less (suc n) _ _ _ (simulates.in_while _ d e body items ps f) = simulates.in_while n d e body items ps (less n d _ ps f)
less (suc n) _ _ _ (simulates.in_do _ d body e items ps f) = simulates.in_do n d body e items ps (less n d _ ps f)
less (suc n) _ _ _ (simulates.in_for _ d e step body items ps f) = simulates.in_for n d e step body items ps (less n d _ ps f)
less (suc n) _ _ _ (simulates.turn_end _ d items ps f) = simulates.turn_end n d items ps (less n d _ ps f)
less (suc n) _ _ _ (simulates.loop_end _ d items ps f) = simulates.loop_end n d items ps (less n d _ ps f)
less (suc n) _ _ _ (simulates.break_out _ d items ps f) = simulates.break_out n d items ps (less n d _ ps f)
less (suc n) _ _ _ (simulates.next_turn _ d items ps f) = simulates.next_turn n d items ps (less n d _ ps f)
less (suc n) _ _ _ (simulates.go_to _ d l f items to ps is found go) = simulates.go_to n d l f items to ps is found (less n d _ ps go)
less (suc n) _ _ _ (simulates.leave_function _ d f items ps is go) = simulates.leave_function n d f items ps is (less n d _ ps go)
less (suc n) _ _ _ (simulates.end_body _ d f items ps is go) = simulates.end_body n d f items ps is (less n d _ ps go)
less (suc n) _ _ _ (simulates.does _ d next at operation a items ps is go) = simulates.does n d next at operation a items ps is (less n next items ps go)
less (suc n) _ _ _ (simulates.stores _ d at kind items ps go) = simulates.stores n d at kind items ps (less n d items ps go)
less (suc n) _ _ _ (simulates.drop _ d items ps go) = simulates.drop n d items ps (less n d items ps go)
less (suc n) _ _ _ (simulates.object _ d base at o offset items ps named go) = simulates.object n d base at o offset items ps named (less n (suc d) items ps go)
less (suc n) _ _ _ (simulates.on_object _ d base local at how items ps named go) = simulates.on_object n d base local at how items ps named (less n d items ps go)
less (suc n) _ _ _ (simulates.enters_none _ d items ps go) = simulates.enters_none n d items ps (less n d items ps go)
less (suc n) _ _ _ (simulates.enters _ d base local locals items ps named go) = simulates.enters n d base local locals items ps named (less n d _ ps go)
less (suc n) _ _ _ (simulates.leaves_none _ d items ps go) = simulates.leaves_none n d items ps (less n d items ps go)
less (suc n) _ _ _ (simulates.leaves _ d base local locals items ps named go) = simulates.leaves n d base local locals items ps named (less n d _ ps go)
less (suc n) _ _ _ (simulates.choose _ d hit miss first second at kind test if_held if_failed yes_puts no_puts held failed items go stay ps on_yes on_no same to_yes to_no is_go is_stay f g) =
    simulates.choose n d hit miss first second at kind test if_held if_failed yes_puts no_puts held failed items go stay ps on_yes on_no same to_yes to_no is_go is_stay (less n first go on_yes f) (less n second stay on_no g)
less (suc n) _ _ _ (simulates.read_line _ d none some at unread read items ps on_none on_some to_none to_some f g) = simulates.read_line n d none some at unread read items ps on_none on_some to_none to_some (less n d _ on_none f) (less n d _ on_some g)
less (suc n) _ _ _ (simulates.read_value _ d l at target items ps there to f) = simulates.read_value n d l at target items ps there to (less n (suc d) items there f)
less (suc n) _ _ _ (simulates.again _ d at operation a items ps is go) = simulates.again n d at operation a items ps is (less n (suc (suc d)) items ps go)
less (suc n) _ _ _ (simulates.calls_library _ d count at function target site items ps go) = simulates.calls_library n d count at function target site items ps (less n _ items ps go)
less (suc n) _ _ _ (simulates.literal _ d base i at items ps named go) = simulates.literal n d base i at items ps named (less n (suc d) items ps go)
less (suc n) _ _ _ (simulates.select _ d at kind object labels body items exits ps arms go) = simulates.select n d at kind object labels body items exits ps arms (λ value. less n d _ _ (go value))
less (suc n) _ _ _ (simulates.hop _ d l items ps there to go) = simulates.hop n d l items ps there to (less n d items there go)
less (suc n) _ _ _ (simulates.finish _ d at ps entry) = simulates.finish n d at ps entry
less (suc n) _ _ _ (simulates.calls _ d g at used f items ps is stands go) = simulates.calls n d g at used f items ps is stands (less n _ items ps go)
less (suc n) _ _ _ (simulates.binds _ d number depth at f items ps is where_it_is go) = simulates.binds n d number depth at f items ps is where_it_is (less n d items ps go)
less (suc n) _ _ _ (simulates.enters_outcome _ d base f locals items ps is named go) = simulates.enters_outcome n d base f locals items ps is named (less n d _ ps go)
less (suc n) _ _ _ (simulates.outcome _ d base at f items ps is_f named go) = simulates.outcome n d base at f items ps is_f named (less n (suc d) items ps go)
less (suc n) _ _ _ (simulates.leaves_outcome _ d base at place f items ps is_f named go) = simulates.leaves_outcome n d base at place f items ps is_f named (less n d items ps go)
less (suc n) _ _ _ (simulates.used_outcome _ d base caller callers place f items ps is used is_f named go) = simulates.used_outcome n d base caller callers place f items ps is used is_f named (less n (suc d) items ps go)
less (suc n) _ _ _ (simulates.does_if_used _ d next caller callers place operation a items ps is used does go) = simulates.does_if_used n d next caller callers place operation a items ps is used does (less n next items ps go)
less (suc n) _ _ _ (simulates.by_unused _ d caller callers step items ps is unused go) = simulates.by_unused (suc n) d caller callers step items ps is unused (less (suc n) d items ps go)
less (suc n) _ _ _ (simulates.goes_back _ caller callers is) = simulates.goes_back n caller callers is
