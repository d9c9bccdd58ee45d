-- The memory in which a run begins: the objects of the unit, its literals, and the parameters of the entry.
use Rattle.std.proofs.Common.{◌≡◌, ℕ, zero, suc, ◌+◌, ◌<◌, Bool, true, false, Some, List, [], ◌∷◌, ◌++◌, length, arith, subst, sym, refl, ap, ◌∙◌}
use Rattle.std.specs.Prelude.{slice_get, map, ℤ, int_le, ◌&&◌}
use Rattle.std.proofs.lemmas.List.{length-append, length-map}
use Rattle.std.proofs.lemmas.Option.{same_Some, slice_get_within}
use Rattle.cc_base.specs.IntegerTypes.{least_of, greatest_of}
use Rattle.c_layout.specs.Types.{Ty, Int, Pointer, Array, Struct, Void}
use Rattle.c_layout.specs.CheckedUnits.{LocalView, UnitView}
use Rattle.lower_templates.specs.Views.ProgramViews.{FlowView}
use Rattle.semantics.specs.CfgMachine.FlowStates.{ProgramState, running}
use Rattle.semantics.specs.CfgMachine.FlowStarts.{begun_by, flow_begin}
use Rattle.memory_model.specs.Memory.Instances.{automatic, Memory, Instance}
use Rattle.memory_model.specs.Effects.ObjectEffects.{fresh}
use Rattle.memory_model.specs.Effects.UnitStarts.{static_instance, literal_made, start_memory, input, with_parameter, with_parameters, entry_parameters, world_before, start_world}
use Rattle.memory_model.specs.Effects.Worlds.{World, Reply, goes, stops, world_of, behind, done, drawn_in, drawn_from, drawn}
use Rattle.store_sound.proofs.operations.Slices.{get_left, get_right}
use Rattle.entry_sound.specs.Memory.FirstStates.{input_bytes, IsInput, front, IsFirst}

behind_goes : {A B : Type 0} (r : Reply A) (next : A → World → Reply B) (y : B) (after : World) → behind r next ≡ goes y after → (v : A) × (w : World) × (r ≡ goes v w) × (next v w ≡ goes y after)
behind_goes (goes v w) next y after e = (v, w, refl, e)
behind_goes (stops why w) next y after e = absurd (cc)

none_there : {A : Type 0} (x : A) (k : ℕ) → slice_get [] k ≡ Some x → ⊥
none_there x k e = cc

pub get_mapped : {X Y : Type 0} (f : X → Y) (xs : List X) (k : ℕ) (x : X) → slice_get xs k ≡ Some x → slice_get (map f xs) k ≡ Some (f x)
get_mapped f [] k x e = cc
get_mapped f (y ∷ ys) zero x e = ap (λ z. Some (f z)) (same_Some y x e)
get_mapped f (y ∷ ys) (suc k) x e = get_mapped f ys k x e

module _ (u : UnitView) where
  -- ---- parameters

  record IsOneMore (t : Ty) (w after : World) : Type 0 where
    it : Instance
    made : IsInput u t it
    grown : after.memory ≡ w.memory ++ it ∷ []

  drawn_same : (b : Bool) (n : ℤ) (w : World) (x : ℤ) (after : World) → drawn_in b n w ≡ goes x after → after ≡ w
  drawn_same true n w x after e = cc
  drawn_same false n w x after e = absurd (cc)

  drawn_memory : (w : World) (least most : ℤ) (draws : List ℤ) (x : ℤ) (after : World) → drawn_from w least most draws ≡ goes x after → after.memory ≡ w.memory
  drawn_memory w least most [] x after e = absurd (cc)
  drawn_memory w least most (n ∷ ns) x after e = ap (λ z. z.memory) (drawn_same (int_le least n && int_le n most) n (record w { draws = ns }) x after e)

  one_more : (t : Ty) (w : World) (x : Unit {0}) (after : World) → with_parameter u t w ≡ goes x after → IsOneMore t w after
  one_more (Int kind) w x after e =
      let g = behind_goes (drawn w (least_of kind) (greatest_of kind)) (λ n w. done (input u kind n w)) x after e in
      let is : input u kind g.0 g.1 ≡ after = ap world_of g.3 in
      record {
        it = fresh automatic (input_bytes u kind g.0);
        made = record { kind = kind; is = refl; value = g.0; made = refl };
        grown = sym (ap (λ z. z.memory) is) ∙ ap (λ z. z ++ fresh automatic (input_bytes u kind g.0) ∷ []) (drawn_memory w (least_of kind) (greatest_of kind) w.draws g.0 g.1 g.2);
      }
  one_more (Pointer t) w x after e = absurd (cc)
  one_more (Array t n) w x after e = absurd (cc)
  one_more (Struct i) w x after e = absurd (cc)
  one_more Void w x after e = absurd (cc)

  -- memory with the instances of parameters behind it
  pub record IsTakenIn (ls : List LocalView) (before after : Memory) : Type 0 where
    pub long : length after ≡ length before + length ls
    pub stay : (i : ℕ) → i < length before → slice_get after i ≡ slice_get before i
    pub each : (j : ℕ) (l : LocalView) → slice_get ls j ≡ Some l → (it : Instance) × IsInput u l.ctype it × (slice_get after (length before + j) ≡ Some it)

  taken_in : (ls : List LocalView) (w : World) (x : Unit {0}) (after : World) → with_parameters u ls w ≡ goes x after → IsTakenIn ls w.memory after.memory
  taken_in [] w x after e =
      let same : w.memory ≡ after.memory = ap (λ z. (world_of z).memory) e in
      subst (IsTakenIn [] w.memory) same (record { long = omega arith; stay = λ i h. refl; each = λ j l h. absurd (none_there l j h) })
  taken_in (l ∷ ls) w x after e =
      let g = behind_goes (with_parameter u l.ctype w) (λ y w. with_parameters u ls w) x after e in
      let one = one_more l.ctype w g.0 g.1 g.2 in
      let more = taken_in ls g.1 x after g.3 in
      let now : Memory = w.memory ++ one.it ∷ [] in
      let rest : IsTakenIn ls now after.memory = subst (λ z. IsTakenIn ls z after.memory) one.grown more in
      let add : length now ≡ length w.memory + 1 = length-append w.memory (one.it ∷ []) in
      let long = rest.long in
      record {
        long = omega (arith, long, add);
        stay = λ i h. rest.stay i (omega (arith, h, add)) ∙ get_left w.memory (one.it ∷ []) i h;
        each = λ j k h. at_index j k h one.it one.made (rest.stay (length w.memory) (omega (arith, add)) ∙ get_right w.memory (one.it ∷ []) (length w.memory) 0 (omega arith)) (λ i y d. let r = rest.each i y d in let z : length now + i ≡ length w.memory + suc i = omega (arith, add) in (r.0, r.1, sym (ap (slice_get after.memory) z) ∙ r.2));
      }
    where
      at_index : (j : ℕ) (k : LocalView) → slice_get (l ∷ ls) j ≡ Some k → (it : Instance) → IsInput u l.ctype it → slice_get after.memory (length w.memory) ≡ Some it
          → ((i : ℕ) (y : LocalView) → slice_get ls i ≡ Some y → (it : Instance) × IsInput u y.ctype it × (slice_get after.memory (length w.memory + suc i) ≡ Some it))
          → (it : Instance) × IsInput u k.ctype it × (slice_get after.memory (length w.memory + j) ≡ Some it)
      at_index zero k h it made there others =
          let z : length w.memory ≡ length w.memory + 0 = omega arith in
          (it, subst (λ y. IsInput u y.ctype it) (same_Some l k h) made, sym (ap (slice_get after.memory) z) ∙ there)
      at_index (suc j) k h it made there others = others j k h

  -- ---- all of it

  start_long : length (start_memory u) ≡ front u
  start_long =
      let a = length-append (map (static_instance u) u.objects) (map literal_made u.literals) in
      let b = length-map u.objects (static_instance u) in
      let c = length-map u.literals literal_made in
      omega (arith, a, b, c)

  first_of : (f : FlowView) (draws : List ℤ) (s : ProgramState) (r : Reply (Unit {0})) → start_world u draws ≡ r → begun_by u f r ≡ running s [] → IsFirst u f s
  first_of f draws s (stops why w) is e = absurd (cc)
  first_of f draws s (goes x w) is e =
      let t = taken_in (entry_parameters u) (world_before u draws) x w is in
      let start = start_long in
      let long = t.long in
      let few = length-map u.objects (static_instance u) in
      record {
        world = w;
        is = cc;
        long = omega (arith, long, start);
        objects = λ k o h. let within = slice_get_within u.objects k o h in t.stay k (omega (arith, start, within)) ∙ (get_left (map (static_instance u) u.objects) (map literal_made u.literals) k (omega (arith, few, within)) ∙ get_mapped (static_instance u) u.objects k o h);
        literals = λ k l h. let within = slice_get_within u.literals k l h in t.stay (length u.objects + k) (omega (arith, start, within)) ∙ (get_right (map (static_instance u) u.objects) (map literal_made u.literals) (length u.objects + k) k (omega (arith, few)) ∙ get_mapped literal_made u.literals k l h);
        inputs = λ j l h. let r = t.each j l h in let z : length (start_memory u) + j ≡ front u + j = ap (λ m. m + j) start in (r.0, r.1, sym (ap (slice_get w.memory) z) ∙ r.2);
      }

  pub run_first : (f : FlowView) (draws : List ℤ) (s : ProgramState) → flow_begin u f draws ≡ running s [] → IsFirst u f s
  run_first f draws s e = first_of f draws s (start_world u draws) refl e
