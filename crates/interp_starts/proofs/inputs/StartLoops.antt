-- Parts of the start that are gone over one after the other.
use Rattle.std.proofs.Common.{◌≡◌, ℕ, suc, ◌+◌, ◌<◌, List, ◌∷◌, length, map, drop, get_or, add-one, sym, ap, subst, ◌∙◌}
use Rattle.std.proofs.Math.Seq.{drop-cons}
use Rattle.c_layout.specs.CheckedUnits.{UnitView, static_view, literal_view, local_view}
use Rattle.c_layout.specs.declared.checked_tree.checked_units.LocalObject.{LocalObject}
use Rattle.c_layout.specs.declared.checked_tree.checked_units.StaticObject.{StaticObject}
use Rattle.c_layout.specs.declared.checked_tree.checked_units.StringLiteral.{StringLiteral}
use Rattle.memory_model.specs.Effects.ObjectEffects.{with_instance}
use Rattle.memory_model.specs.Effects.UnitStarts.{static_instance, literal_made, with_parameter, with_parameters}
use Rattle.memory_model.specs.Effects.Worlds.{World, done}
use Rattle.interp_starts.specs.Starts.Rewrites.{objects_made, literals_made}
use Rattle.interp_starts.specs.Inputs.Starts.{StopsStart}
use Rattle.interp_starts.specs.declared.inputs.instance_sums.StartStop.{StartStop}
use Rattle.interp_starts.proofs.inputs.StartSteps.{object_stops, literal_stops, parameter_stops}

next_seen : {A B : Type 0} (f : A → B) (xs : List A) (i : ℕ) (x : A) → i < length xs → x ≡ get_or xs i x → map f (drop i xs) ≡ f x ∷ map f (drop (i + 1) xs)
next_seen f xs i x h is =
    ap (map f) (drop-cons xs i x h)
    ∙ ap (λ y. f y ∷ map f (drop (suc i) xs)) (sym is)
    ∙ ap (λ k. f x ∷ map f (drop k xs)) (sym (add-one i))

-- ---- objects

pub object_last : (u : UnitView) (xs : List StaticObject) (i : ℕ) (x : StaticObject) (why : StartStop) (first w v : World) → i < length xs → x ≡ get_or xs i x → objects_made u (map static_view (drop i xs)) w ≡ objects_made u (map static_view xs) first → StopsStart (done (with_instance w (static_instance u (static_view x)))) why v → StopsStart (done (objects_made u (map static_view xs) first)) why v
object_last u xs i x why first w v h is so_far stops =
    subst (λ z. StopsStart (done z) why v)
    (sym (ap (λ os. objects_made u os w) (next_seen static_view xs i x h is)) ∙ so_far)
    (object_stops u (static_view x) (map static_view (drop (i + 1) xs)) why w v stops)

-- ---- literals

pub literal_last : (xs : List StringLiteral) (i : ℕ) (x : StringLiteral) (why : StartStop) (first w v : World) → i < length xs → x ≡ get_or xs i x → literals_made (map literal_view (drop i xs)) w ≡ literals_made (map literal_view xs) first → StopsStart (done (with_instance w (literal_made (literal_view x)))) why v → StopsStart (done (literals_made (map literal_view xs) first)) why v
literal_last xs i x why first w v h is so_far stops =
    subst (λ z. StopsStart (done z) why v)
    (sym (ap (λ ls. literals_made ls w) (next_seen literal_view xs i x h is)) ∙ so_far)
    (literal_stops (literal_view x) (map literal_view (drop (i + 1) xs)) why w v stops)

-- ---- parameters

pub parameter_last : (u : UnitView) (xs : List LocalObject) (i : ℕ) (x : LocalObject) (why : StartStop) (first w v : World) → i < length xs → x ≡ get_or xs i x → with_parameters u (map local_view (drop i xs)) w ≡ with_parameters u (map local_view xs) first → StopsStart (with_parameter u (local_view x).ctype w) why v → StopsStart (with_parameters u (map local_view xs) first) why v
parameter_last u xs i x why first w v h is so_far stops =
    subst (λ r. StopsStart r why v)
    (sym (ap (λ ls. with_parameters u ls w) (next_seen local_view xs i x h is)) ∙ so_far)
    (parameter_stops u (local_view x) (map local_view (drop (i + 1) xs)) why w v stops)
