-- What the machine has read where its load goes on, or stops at an indeterminate byte.
use Rattle.std.proofs.Common.{◌≡◌, ℕ, ◌+◌, ◌≤◌, true, false, ◌&&◌, Option, Some, None, List, [], ◌∷◌, ◌++◌, length, arith, subst, sym, refl, ap, ◌∙◌, inl, inr, ◌⊎◌}
use Rattle.std.specs.Prelude.{nat_le}
use Rattle.std.proofs.lemmas.Bool.{cases_Bool}
use Rattle.std.proofs.lemmas.List.{length-append, append_cancel_left}
use Rattle.cc_base.specs.declared.diagnostics.Rule.{Rule}
use Rattle.cc_base.specs.declared.diagnostics.Rule.TheVariants as rule
use Rattle.c_layout.specs.declared.data_model.Model.{Model}
use Rattle.c_layout.specs.declared.leaf_lists.Class.TheVariants.{Char}
use Rattle.cfg.specs.declared.machine_instructions.Scalar as declared
use Rattle.store_cells.specs.ClassNumbers.{same_class}
use Rattle.memory_model.specs.Memory.ScalarSizes.{class_bytes}
use Rattle.memory_model.specs.Memory.Bytes.{MachinePointer, null, into, Content}
use Rattle.memory_model.specs.Memory.Instances.{Life, live, ended, freed, bytes_at, life_at}
use Rattle.memory_model.specs.Memory.Scalars.{Scalar, pointer}
use Rattle.memory_model.specs.Effects.Worlds.{World, Why, Reply, goes, stops, Left, Violated, behind, violating, noted, stopped_by}
use Rattle.memory_model.specs.Effects.ScalarBytes.{region, contents}
use Rattle.memory_model.specs.Effects.Touches.{Spot, touched, touched_by, touched_live, is_allocated, storage_at}
use Rattle.memory_model.specs.Effects.Accesses.{class_in, is_seen_as, bytes_seen, has_blank, scalar_in, given, is_unsigned, read_blank, read_contents, load_at, load_through, load, points_into_freed}
use Rattle.store_sound.proofs.operations.Reading.{behind_goes, IsTouched, touched_goes}

-- the machine has read these contents as a scalar's
pub record HasRead (model : Model) (kind : declared.Scalar) (w : World) (p : MachinePointer) (cs : List Content) : Type 0 where
  pub i : ℕ
  pub offset : ℕ
  pub lo : ℕ
  pub hi : ℕ
  pub pointer : p ≡ into i offset lo hi
  pub alive : life_at w.memory i ≡ live
  pub above : lo ≤ offset
  pub below : offset + class_bytes model (class_in kind) ≤ hi
  pub seen : is_seen_as (is_allocated (storage_at w.memory i)) (class_in kind) (region (bytes_at w.memory i) offset (class_bytes model (class_in kind))) ≡ true
  pub here : cs ≡ contents (region (bytes_at w.memory i) offset (class_bytes model (class_in kind)))

abbrev violated_of : {A : Type 0} → Reply A → List Rule
violated_of (goes v w) = w.violated
violated_of (stops why w) = w.violated

given_is : (w u : World) (o : Option Scalar) (s : Scalar) → given w o ≡ goes s u → o ≡ Some s
given_is w u None s h = cc
given_is w u (Some v) s h = let e : v ≡ s = cc in ap Some e

blank_stops : (w u : World) (kind : declared.Scalar) (s : Scalar) → read_blank w kind ≡ goes s u → ⊥
blank_stops w u kind s h = elim (cases_Bool (same_class (class_in kind) Char && is_unsigned kind)) [
  | inl e ↦ (let g : ◌≡◌ {A = Reply Scalar} (stops Left w) (goes s u) = rw e at h in cc)
  | inr e ↦ (let g : stopped_by {A = Scalar} w rule.Uninitref ≡ goes s u = rw e at h in cc)
]

contents_go : (w u : World) (kind : declared.Scalar) (cs : List Content) (s : Scalar) → read_contents w kind cs ≡ goes s u → (has_blank cs ≡ false) × (scalar_in kind cs ≡ Some s)
contents_go w u kind cs s h = elim (cases_Bool (has_blank cs)) [
  | inl e ↦ absurd (blank_stops w u kind s (rw e at h))
  | inr e ↦ (e, given_is w u (scalar_in kind cs) s (rw e at h))
]

-- what the machine reads at a spot
abbrev pub read_at : Model → declared.Scalar → World → Spot → List Content
read_at m kind w spot = contents (region (bytes_at w.memory spot.instance) spot.offset (class_bytes m (class_in kind)))

spot_goes : (m : Model) (kind : declared.Scalar) (w u : World) (spot : Spot) (s : Scalar) → load_at m kind spot w ≡ goes s u → (is_seen_as (is_allocated (storage_at w.memory spot.instance)) (class_in kind) (bytes_seen m w (class_in kind) spot) ≡ true) × (has_blank (read_at m kind w spot) ≡ false) × (scalar_in kind (read_at m kind w spot) ≡ Some s)
spot_goes m kind w u spot s h = elim (cases_Bool (is_seen_as (is_allocated (storage_at w.memory spot.instance)) (class_in kind) (bytes_seen m w (class_in kind) spot))) [
  | inl e ↦ (let g : read_contents w kind (read_at m kind w spot) ≡ goes s u = rw e at h in let r = contents_go w u kind (read_at m kind w spot) s g in (e, r.0, r.1))
  | inr e ↦ (let g : ◌≡◌ {A = Reply Scalar} (stops Left w) (goes s u) = rw e at h in cc)
]

has_read : (m : Model) (kind : declared.Scalar) (p : MachinePointer) (w u : World) (spot : Spot) → IsTouched w p (class_bytes m (class_in kind)) false spot u → is_seen_as (is_allocated (storage_at u.memory spot.instance)) (class_in kind) (bytes_seen m u (class_in kind) spot) ≡ true → HasRead m kind u p (read_at m kind u spot)
has_read m kind p w u spot t e = record {
  i = spot.instance;
  offset = spot.offset;
  lo = t.lo;
  hi = t.hi;
  pointer = t.pointer;
  alive = subst (λ z. life_at z.memory spot.instance ≡ live) (sym t.same) t.alive;
  above = t.above;
  below = t.below;
  seen = e;
  here = refl;
}

through_goes : (m : Model) (kind : declared.Scalar) (p : MachinePointer) (w u : World) (s : Scalar) → load_through m kind p w ≡ goes s u → (cs : List Content) × HasRead m kind w p cs × (has_blank cs ≡ false) × (scalar_in kind cs ≡ Some s)
through_goes m kind p w u s h =
    let b = behind_goes (touched w p (class_bytes m (class_in kind)) false) (load_at m kind) s u h in
    let t = touched_goes w p (class_bytes m (class_in kind)) false b.0 b.1 b.2 in
    let g = spot_goes m kind b.1 u b.0 s b.3 in
    subst (λ z. (cs : List Content) × HasRead m kind z p cs × (has_blank cs ≡ false) × (scalar_in kind cs ≡ Some s)) t.same
    (read_at m kind b.1 b.0, has_read m kind p w b.1 b.0 t g.0, g.1, g.2)

-- where a load goes on, it has read determinate bytes that are the scalar
pub load_goes : (m : Model) (kind : declared.Scalar) (p : MachinePointer) (w u : World) (s : Scalar) → load m kind (pointer p) w ≡ goes s u → (cs : List Content) × HasRead m kind w p cs × (has_blank cs ≡ false) × (scalar_in kind cs ≡ Some s)
load_goes m kind p w u s h = through_goes m kind p w u s h

given_same : (w u : World) (o : Option Scalar) (s : Scalar) → given w o ≡ goes s u → u.memory ≡ w.memory
given_same w u None s h = cc
given_same w u (Some v) s h = let e : noted w (points_into_freed w.memory v) rule.Accfree ≡ u = cc in sym (ap (λ z. z.memory) e)

contents_same : (w u : World) (kind : declared.Scalar) (cs : List Content) (s : Scalar) → read_contents w kind cs ≡ goes s u → u.memory ≡ w.memory
contents_same w u kind cs s h = elim (cases_Bool (has_blank cs)) [
  | inl e ↦ absurd (blank_stops w u kind s (rw e at h))
  | inr e ↦ given_same w u (scalar_in kind cs) s (rw e at h)
]

spot_same : (m : Model) (kind : declared.Scalar) (w u : World) (spot : Spot) (s : Scalar) → load_at m kind spot w ≡ goes s u → u.memory ≡ w.memory
spot_same m kind w u spot s h = elim (cases_Bool (is_seen_as (is_allocated (storage_at w.memory spot.instance)) (class_in kind) (bytes_seen m w (class_in kind) spot))) [
  | inl e ↦ (let g : read_contents w kind (read_at m kind w spot) ≡ goes s u = rw e at h in contents_same w u kind (read_at m kind w spot) s g)
  | inr e ↦ (let g : ◌≡◌ {A = Reply Scalar} (stops Left w) (goes s u) = rw e at h in cc)
]

-- a load leaves memory as it is
pub load_same : (m : Model) (kind : declared.Scalar) (p : MachinePointer) (w u : World) (s : Scalar) → load m kind (pointer p) w ≡ goes s u → u.memory ≡ w.memory
load_same m kind p w u s h =
    let b = behind_goes (touched w p (class_bytes m (class_in kind)) false) (load_at m kind) s u h in
    let t = touched_goes w p (class_bytes m (class_in kind)) false b.0 b.1 b.2 in
    spot_same m kind b.1 u b.0 s b.3 ∙ ap (λ z. z.memory) t.same

-- ---- where the load stops at an indeterminate byte

no_rule : (w : World) → ◌≡◌ {A = Reply Scalar} (stops Left w) (stopped_by w rule.Uninitref) → ⊥
no_rule w h =
    let e : w.violated ≡ w.violated ++ (rule.Uninitref ∷ []) = ap (violated_of) h in
    let f = ap length e in
    let g = length-append w.violated (rule.Uninitref ∷ []) in
    omega arith

spot_rule : (w : World) (r : Rule) → (r ≡ rule.Uninitref → ⊥) → stopped_by {A = Spot} w r ≡ stopped_by w rule.Uninitref → ⊥
spot_rule w r n h = let e : w.violated ++ (r ∷ []) ≡ w.violated ++ (rule.Uninitref ∷ []) = ap (violated_of) h in let f = append_cancel_left w.violated (r ∷ []) (rule.Uninitref ∷ []) e in n (cc)

live_else : (w : World) (i offset lo hi size : ℕ) → touched_live w i offset lo hi size false ≡ stopped_by w rule.Uninitref → ⊥
live_else w i offset lo hi size h = elim (cases_Bool (nat_le lo offset && nat_le (offset + size) hi)) [
  | inr e ↦ spot_rule w rule.Invptr (λ (f : rule.Invptr ≡ rule.Uninitref). cc) (rw e at h)
  | inl e ↦ (let t : Spot = record { instance = i; offset = offset } in let g : goes t w ≡ stopped_by w rule.Uninitref = rw e at h in cc)
]

life_else : (w : World) (life : Life) (i offset lo hi size : ℕ) → touched_by w life i offset lo hi size false ≡ stopped_by w rule.Uninitref → ⊥
life_else w live i offset lo hi size h = live_else w i offset lo hi size h
life_else w ended i offset lo hi size h = spot_rule w rule.Nullref (λ (f : rule.Nullref ≡ rule.Uninitref). cc) h
life_else w freed i offset lo hi size h = spot_rule w rule.Accfree (λ (f : rule.Accfree ≡ rule.Uninitref). cc) h

touch_else : (w : World) (p : MachinePointer) (size : ℕ) → touched w p size false ≡ stopped_by w rule.Uninitref → ⊥
touch_else w null size h = spot_rule w rule.Nullref (λ (f : rule.Nullref ≡ rule.Uninitref). cc) h
touch_else w (into i offset lo hi) size h = life_else w (life_at w.memory i) i offset lo hi size h

pub behind_cases : (r : Reply Spot) (next : Spot → World → Reply Scalar) (why : Why) (u : World) → behind r next ≡ stops why u → ((a : Spot) × (w : World) × (r ≡ goes a w) × (next a w ≡ stops why u)) ⊎ (r ≡ stops why u)
behind_cases (goes a w) next why u e = inl (a, w, refl, e)
behind_cases (stops y w) next why u e = let d : y ≡ why = cc in let f : w ≡ u = cc in inr (λ i. stops (d i) (f i))

given_else : (w : World) (o : Option Scalar) → given w o ≡ stopped_by w rule.Uninitref → ⊥
given_else w None h = no_rule w h
given_else w (Some v) h = cc

contents_else : (w : World) (kind : declared.Scalar) (cs : List Content) → read_contents w kind cs ≡ stopped_by w rule.Uninitref → has_blank cs ≡ true
contents_else w kind cs h = elim (cases_Bool (has_blank cs)) [ inl e ↦ e | inr e ↦ absurd (given_else w (scalar_in kind cs) (rw e at h)) ]

spot_else : (m : Model) (kind : declared.Scalar) (w : World) (spot : Spot) → load_at m kind spot w ≡ stopped_by w rule.Uninitref → (is_seen_as (is_allocated (storage_at w.memory spot.instance)) (class_in kind) (bytes_seen m w (class_in kind) spot) ≡ true) × (has_blank (read_at m kind w spot) ≡ true)
spot_else m kind w spot h = elim (cases_Bool (is_seen_as (is_allocated (storage_at w.memory spot.instance)) (class_in kind) (bytes_seen m w (class_in kind) spot))) [
  | inl e ↦ (e, contents_else w kind (read_at m kind w spot) (rw e at h))
  | inr e ↦ absurd (no_rule w (rw e at h))
]

pub load_blank : (m : Model) (kind : declared.Scalar) (p : MachinePointer) (w : World) → load m kind (pointer p) w ≡ stopped_by w rule.Uninitref → (cs : List Content) × HasRead m kind w p cs × (has_blank cs ≡ true)
load_blank m kind p w h = elim (behind_cases (touched w p (class_bytes m (class_in kind)) false) (load_at m kind) Violated (violating w (rule.Uninitref ∷ [])) h) [
  | inr e ↦ absurd (touch_else w p (class_bytes m (class_in kind)) e)
  | inl r ↦ (let t = touched_goes w p (class_bytes m (class_in kind)) false r.0 r.1 r.2 in
      let k : load_at m kind r.0 w ≡ stopped_by w rule.Uninitref = subst (λ z. load_at m kind r.0 z ≡ stopped_by w rule.Uninitref) t.same r.3 in
      let g = spot_else m kind w r.0 k in
      (read_at m kind w r.0, has_read m kind p w w r.0 (subst (λ z. IsTouched w p (class_bytes m (class_in kind)) false r.0 z) t.same t) g.0, g.1))
]

-- ---- where the load stops at any violation

same_rule : (w : World) (a r : Rule) → stopped_by {A = Scalar} w a ≡ stopped_by w r → a ≡ r
same_rule w a r h = let e : w.violated ++ (a ∷ []) ≡ w.violated ++ (r ∷ []) = ap violated_of h in let f = append_cancel_left w.violated (a ∷ []) (r ∷ []) e in cc

never_left : (w v : World) → ◌≡◌ {A = Reply Scalar} (stops Left w) (stops Violated v) → ⊥
never_left w v h = cc

blank_rule : (w : World) (kind : declared.Scalar) (r : Rule) → read_blank w kind ≡ stopped_by w r → rule.Uninitref ≡ r
blank_rule w kind r h = elim (cases_Bool (same_class (class_in kind) Char && is_unsigned kind)) [
  | inl e ↦ absurd (never_left w (violating w (r ∷ [])) (rw e at h))
  | inr e ↦ same_rule w rule.Uninitref r (rw e at h)
]

given_never : (w v : World) (o : Option Scalar) → given w o ≡ stops Violated v → ⊥
given_never w v None h = cc
given_never w v (Some x) h = cc

contents_rule : (w : World) (kind : declared.Scalar) (cs : List Content) (r : Rule) → read_contents w kind cs ≡ stopped_by w r → rule.Uninitref ≡ r
contents_rule w kind cs r h = elim (cases_Bool (has_blank cs)) [
  | inl e ↦ blank_rule w kind r (rw e at h)
  | inr e ↦ absurd (given_never w (violating w (r ∷ [])) (scalar_in kind cs) (rw e at h))
]

spot_stopped : (m : Model) (kind : declared.Scalar) (w : World) (spot : Spot) (r : Rule) → load_at m kind spot w ≡ stopped_by w r → rule.Uninitref ≡ r
spot_stopped m kind w spot r h = elim (cases_Bool (is_seen_as (is_allocated (storage_at w.memory spot.instance)) (class_in kind) (bytes_seen m w (class_in kind) spot))) [
  | inl e ↦ contents_rule w kind (read_at m kind w spot) r (rw e at h)
  | inr e ↦ absurd (never_left w (violating w (r ∷ [])) (rw e at h))
]

-- a load stops at a violation of its touch, or at an indeterminate byte
pub load_stopped : (m : Model) (kind : declared.Scalar) (p : MachinePointer) (w : World) (r : Rule) → load m kind (pointer p) w ≡ stopped_by w r → (touched w p (class_bytes m (class_in kind)) false ≡ stopped_by w r) ⊎ (r ≡ rule.Uninitref)
load_stopped m kind p w r h = elim (behind_cases (touched w p (class_bytes m (class_in kind)) false) (load_at m kind) Violated (violating w (r ∷ [])) h) [
  | inr e ↦ inl e
  | inl g ↦ (let t = touched_goes w p (class_bytes m (class_in kind)) false g.0 g.1 g.2 in
      let k : load_at m kind g.0 w ≡ stopped_by w r = subst (λ z. load_at m kind g.0 z ≡ stopped_by w r) t.same g.3 in
      inr (sym (spot_stopped m kind w g.0 r k)))
]
