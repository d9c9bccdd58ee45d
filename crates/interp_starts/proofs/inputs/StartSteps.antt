-- The start of a run, step by step.
use Rattle.std.proofs.Common.{◌≡◌, ℕ, ℤ, Bool, true, false, List, [], ◌∷◌, ◌++◌, length, map, Result, sym, ap, subst, ◌∙◌}
use Rattle.cc_base.specs.IntegerTypes.{least_of, greatest_of}
use Rattle.cc_base.specs.declared.int_types.IntType.{IntType}
use Rattle.c_layout.specs.Types as ty
use Rattle.c_layout.specs.Types.{Ty}
use Rattle.c_layout.specs.CheckedUnits.{UnitView, StaticView, LiteralView, LocalView}
use Rattle.memory_model.specs.Memory.Instances.{Instance, Memory, total_size}
use Rattle.memory_model.specs.Effects.ObjectEffects.{with_instance}
use Rattle.memory_model.specs.Effects.UnitStarts.{static_instance, literal_made, input, with_parameter, with_parameters, entry_parameters}
use Rattle.memory_model.specs.Effects.Worlds.{World, Reply, goes, stops, behind, done, drawn_in, drawn_from, world_of}
use Rattle.interp_starts.specs.Starts.Rewrites.{objects_made, literals_made}
use Rattle.interp_starts.specs.Inputs.Starts.{StopsStart, StartsAs, started}
use Rattle.interp_starts.specs.Inputs.Sums.{most_bytes, PassesBy}
use Rattle.interp_starts.specs.declared.inputs.instance_sums.StartStop.{StartStop}
use Rattle.interp_starts.specs.declared.inputs.instance_sums.StartStop.TheVariants as stop
use Rattle.interp_starts.proofs.inputs.Passing.{Extends, none_more, append_both, extends_none, extends_one, extends_both, passes_at, passed_by}

-- ---- what is made

pub objects_memory : (u : UnitView) (os : List StaticView) (w : World) → (objects_made u os w).memory ≡ w.memory ++ map (static_instance u) os
objects_memory u [] w = sym (none_more w.memory)
objects_memory u (o ∷ os) w = objects_memory u os (with_instance w (static_instance u o)) ∙ append_both w.memory (static_instance u o ∷ []) (map (static_instance u) os)

pub literals_memory : (ls : List LiteralView) (w : World) → (literals_made ls w).memory ≡ w.memory ++ map literal_made ls
literals_memory [] w = sym (none_more w.memory)
literals_memory (l ∷ ls) w = literals_memory ls (with_instance w (literal_made l)) ∙ append_both w.memory (literal_made l ∷ []) (map literal_made ls)

pub objects_extend : (u : UnitView) (os : List StaticView) (w : World) → Extends w.memory (objects_made u os w).memory
objects_extend u os w = record { more = map (static_instance u) os; is = objects_memory u os w }

pub literals_extend : (ls : List LiteralView) (w : World) → Extends w.memory (literals_made ls w).memory
literals_extend ls w = record { more = map literal_made ls; is = literals_memory ls w }

behind_extends : (m : Memory) (r : Reply (Unit {0})) (next : World → Reply (Unit {0})) → Extends m (world_of r).memory → ((v : World) → Extends v.memory (world_of (next v)).memory) → Extends m (world_of (behind r (λ _ w. next w))).memory
behind_extends m (goes x v) next p q = extends_both m v.memory (world_of (next v)).memory p (q v)
behind_extends m (stops why v) next p q = p

input_extends : (u : UnitView) (kind : IntType) (b : Bool) (n : ℤ) (w : World) → Extends w.memory (world_of (behind (drawn_in b n w) (λ n w. done (input u kind n w)))).memory
input_extends u kind true n w = extends_one w.memory _
input_extends u kind false n w = extends_none w.memory

drawn_extends : (u : UnitView) (kind : IntType) (w : World) (ds : List ℤ) → Extends w.memory (world_of (behind (drawn_from w (least_of kind) (greatest_of kind) ds) (λ n w. done (input u kind n w)))).memory
drawn_extends u kind w [] = extends_none w.memory
drawn_extends u kind w (n ∷ ns) = input_extends u kind _ n (record w { draws = ns })

parameter_extends : (u : UnitView) (t : Ty) (w : World) → Extends w.memory (world_of (with_parameter u t w)).memory
parameter_extends u (ty.Int kind) w = drawn_extends u kind w w.draws
parameter_extends u t w = extends_none w.memory

pub parameters_extend : (u : UnitView) (ls : List LocalView) (w : World) → Extends w.memory (world_of (with_parameters u ls w)).memory
parameters_extend u [] w = extends_none w.memory
parameters_extend u (l ∷ ls) w = behind_extends w.memory (with_parameter u l.ctype w) (with_parameters u ls) (parameter_extends u l.ctype w) (parameters_extend u ls)

-- ---- stops

-- an instance that is too large
pub passes_start : (why : StartStop) (w v : World) (x : Instance) (size : ℕ) → length x.bytes ≡ size → PassesBy (total_size w.memory) size why → StopsStart (done (with_instance w x)) why v
passes_start (stop.Stops why) w v x size e p = absurd p
passes_start (stop.Large count) w v x size e p = passes_at most_bytes count size w.memory x p e
passes_start stop.Memory w v x size e p = tt

-- what stops with fewer instances stops with more
pub stops_later : (why : StartStop) (m n v : World) → Extends m.memory n.memory → StopsStart (done m) why v → StopsStart (done n) why v
stops_later (stop.Stops why) m n v p e = cc
stops_later (stop.Large count) m n v p e = passed_by most_bytes count m.memory n.memory p e
stops_later stop.Memory m n v p e = tt

pub object_stops : (u : UnitView) (o : StaticView) (os : List StaticView) (why : StartStop) (w v : World) → StopsStart (done (with_instance w (static_instance u o))) why v → StopsStart (done (objects_made u (o ∷ os) w)) why v
object_stops u o os why w v e = stops_later why (with_instance w (static_instance u o)) (objects_made u (o ∷ os) w) v (objects_extend u os (with_instance w (static_instance u o))) e

pub literal_stops : (l : LiteralView) (ls : List LiteralView) (why : StartStop) (w v : World) → StopsStart (done (with_instance w (literal_made l))) why v → StopsStart (done (literals_made (l ∷ ls) w)) why v
literal_stops l ls why w v e = stops_later why (with_instance w (literal_made l)) (literals_made (l ∷ ls) w) v (literals_extend ls (with_instance w (literal_made l))) e

-- a stop stays one whatever would come behind
pub stops_behind : (why : StartStop) (r : Reply (Unit {0})) (next : World → Reply (Unit {0})) (v : World) → ((z : World) → Extends z.memory (world_of (next z)).memory) → StopsStart r why v → StopsStart (behind r (λ _ w. next w)) why v
stops_behind (stop.Stops why) r next v p e = ap (λ q. behind q (λ _ w. next w)) e
stops_behind (stop.Large count) r next v p e = passed_by most_bytes count (world_of r).memory (world_of (behind r (λ _ w. next w))).memory (behind_extends (world_of r).memory r next (extends_none (world_of r).memory) p) e
stops_behind stop.Memory r next v p e = tt

pub parameter_stops : (u : UnitView) (l : LocalView) (ls : List LocalView) (why : StartStop) (w v : World) → StopsStart (with_parameter u l.ctype w) why v → StopsStart (with_parameters u (l ∷ ls) w) why v
parameter_stops u l ls why w v e = stops_behind why (with_parameter u l.ctype w) (with_parameters u ls) v (parameters_extend u ls) e

-- ---- the whole start

stops_in : (why : StartStop) (m : World) (r : Reply (Unit {0})) (v : World) → Extends m.memory (world_of r).memory → StopsStart (done m) why v → StopsStart r why v
stops_in (stop.Stops why) m r v p e = cc
stops_in (stop.Large count) m r v p e = passed_by most_bytes count m.memory (world_of r).memory p e
stops_in stop.Memory m r v p e = tt

abbrev behind_literals : UnitView → World → Reply (Unit {0})
behind_literals u w = with_parameters u (entry_parameters u) (literals_made u.literals w)

pub start_objects : (u : UnitView) (w v : World) (why : StartStop) → StopsStart (done (objects_made u u.objects w)) why v → StopsStart (started u w) why v
start_objects u w v why e =
    let made = objects_made u u.objects w in
    let spelt = literals_made u.literals made in
    stops_in why made (started u w) v (extends_both made.memory spelt.memory (world_of (started u w)).memory (literals_extend u.literals made) (parameters_extend u (entry_parameters u) spelt)) e

pub same_done : (a b : World) → done a ≡ done b → a ≡ b
same_done a b e = cc

pub start_literals : (u : UnitView) (w z v : World) (why : StartStop) → done (objects_made u u.objects w) ≡ done z → StopsStart (done (literals_made u.literals z)) why v → StopsStart (started u w) why v
start_literals u w z v why e p =
    let spelt = literals_made u.literals z in
    subst (λ y. StopsStart (behind_literals u y) why v) (sym (same_done (objects_made u u.objects w) z e))
    (stops_in why spelt (behind_literals u z) v (parameters_extend u (entry_parameters u) spelt) p)

pub start_parameters : (u : UnitView) (w y z v : World) (ls : List LocalView) (result : Result (Unit {0}) StartStop) → done (objects_made u u.objects w) ≡ done y → done (literals_made u.literals y) ≡ done z → ls ≡ entry_parameters u → StartsAs (with_parameters u ls z) result v → StartsAs (started u w) result v
start_parameters u w y z v ls result e f g p =
    subst (λ x. StartsAs (behind_literals u x) result v) (sym (same_done (objects_made u u.objects w) y e))
    (subst (λ x. StartsAs (with_parameters u (entry_parameters u) x) result v) (sym (same_done (literals_made u.literals y) z f))
    (subst (λ ps. StartsAs (with_parameters u ps z) result v) g p))
