-- How touches and loads of the machine end.
use Rattle.std.proofs.Common.{◌≡◌, ℕ, ◌+◌, Bool, true, false, ◌&&◌, Option, Some, None, List, refl, ap, inl, inr}
use Rattle.std.specs.Prelude.{nat_le}
use Rattle.std.proofs.lemmas.Bool.{cases_Bool}
use Rattle.cc_base.specs.declared.diagnostics.Rule.{Rule}
use Rattle.cc_base.specs.declared.diagnostics.Rule.TheVariants as rule
use Rattle.c_layout.specs.declared.data_model.Model.{Model}
use Rattle.c_layout.specs.declared.leaf_lists.Class.TheVariants.{Char}
use Rattle.cfg.specs.declared.machine_instructions.Scalar as declared
use Rattle.memory_model.specs.Memory.ScalarSizes.{same_class, class_bytes}
use Rattle.memory_model.specs.Memory.Bytes.{MachinePointer, null, into, Content}
use Rattle.memory_model.specs.Memory.Instances.{Life, live, ended, freed, life_at}
use Rattle.memory_model.specs.Memory.Scalars.{Scalar, pointer}
use Rattle.memory_model.specs.Effects.ScalarBytes.{contents}
use Rattle.memory_model.specs.Effects.Touches.{Spot, touched, touched_by, touched_live, is_literal, is_allocated, storage_at}
use Rattle.memory_model.specs.Effects.Worlds.{World, Reply, goes, stops, behind, noted, stopped_by, Left}
use Rattle.memory_model.specs.Effects.Accesses.{class_in, is_unsigned, has_blank, scalar_in, points_into_freed, given, read_blank, read_contents, is_seen_as, bytes_seen, load_at, load, store_at, may_store}

-- a touch goes on with a place, or stops at a rule
pub data TouchEnd (w : World) (reply : Reply Spot) : Type 0 where
  went : (spot : Spot) → reply ≡ goes spot w → TouchEnd w reply
  stopped : (r : Rule) → reply ≡ stopped_by w r → TouchEnd w reply

live_end : (w : World) (i offset lo hi size : ℕ) (writes : Bool) → TouchEnd w (touched_live w i offset lo hi size writes)
live_end w i offset lo hi size writes = elim (cases_Bool (nat_le lo offset && nat_le (offset + size) hi)) [
  | inr e ↦ stopped rule.Invptr (rw e refl)
  | inl e ↦ elim (cases_Bool (writes && is_literal (storage_at w.memory i))) [
    | inl f ↦ stopped rule.Strmod (rw (e, f) refl)
    | inr f ↦ went (record { instance = i; offset = offset }) (rw (e, f) refl)
  ]
]

life_end : (w : World) (life : Life) (i offset lo hi size : ℕ) (writes : Bool) → TouchEnd w (touched_by w life i offset lo hi size writes)
life_end w live i offset lo hi size writes = live_end w i offset lo hi size writes
life_end w ended i offset lo hi size writes = stopped rule.Nullref refl
life_end w freed i offset lo hi size writes = stopped rule.Accfree refl

pub touch_end : (w : World) (at : MachinePointer) (size : ℕ) (writes : Bool) → TouchEnd w (touched w at size writes)
touch_end w null size writes = stopped rule.Nullref refl
touch_end w (into i offset lo hi) size writes = life_end w (life_at w.memory i) i offset lo hi size writes

-- a load gives something, stops at an indeterminate byte that is minded, or is left off
pub data LoadEnd (w : World) (kind : declared.Scalar) (reply : Reply Scalar) : Type 0 where
  gives : (v : Scalar) → reply ≡ goes v (noted w (points_into_freed w.memory v) rule.Accfree) → LoadEnd w kind reply
  blank : (same_class (class_in kind) Char && is_unsigned kind) ≡ false → reply ≡ stopped_by w rule.Uninitref → LoadEnd w kind reply
  off : reply ≡ stops Left w → LoadEnd w kind reply

given_end : (w : World) (kind : declared.Scalar) (v : Option Scalar) → LoadEnd w kind (given w v)
given_end w kind None = off refl
given_end w kind (Some v) = gives v refl

blank_end : (w : World) (kind : declared.Scalar) → LoadEnd w kind (read_blank w kind)
blank_end w kind = elim (cases_Bool (same_class (class_in kind) Char && is_unsigned kind)) [
  | inl e ↦ off (rw e refl)
  | inr e ↦ blank e (rw e refl)
]

read_end : (w : World) (kind : declared.Scalar) (cs : List Content) (b : Bool) → has_blank cs ≡ b → LoadEnd w kind (read_contents w kind cs)
read_end w kind cs true e = rw e (blank_end w kind)
read_end w kind cs false e = rw e (given_end w kind (scalar_in kind cs))

pub load_end : (m : Model) (kind : declared.Scalar) (spot : Spot) (w : World) → LoadEnd w kind (load_at m kind spot w)
load_end m kind spot w = elim (cases_Bool (is_seen_as (is_allocated (storage_at w.memory spot.instance)) (class_in kind) (bytes_seen m w (class_in kind) spot))) [
  | inr e ↦ off (rw e refl)
  | inl e ↦ rw e (read_end w kind (contents (bytes_seen m w (class_in kind) spot)) (has_blank (contents (bytes_seen m w (class_in kind) spot))) refl)
]

-- a load is what is read where the touch goes on
pub load_went : (m : Model) (kind : declared.Scalar) (at : MachinePointer) (w : World) (spot : Spot) → touched w at (class_bytes m (class_in kind)) false ≡ goes spot w → load m kind (pointer at) w ≡ load_at m kind spot w
load_went m kind at w spot e = ap (λ z. behind z (load_at m kind)) e

pub load_stops : (m : Model) (kind : declared.Scalar) (at : MachinePointer) (w : World) (r : Rule) → touched w at (class_bytes m (class_in kind)) false ≡ stopped_by w r → load m kind (pointer at) w ≡ stopped_by w r
load_stops m kind at w r e = ap (λ z. behind z (load_at m kind)) e

-- ---- stores

pub data StoreEnd (m : Model) (w : World) (kind : declared.Scalar) (v : Scalar) (reply : Reply Scalar) : Type 0 where
  stores : (spot : Spot) (u : World) → reply ≡ goes v u → u.violated ≡ w.violated → StoreEnd m w kind v reply
  leaves : reply ≡ stops Left w → StoreEnd m w kind v reply

pub store_end : (m : Model) (kind : declared.Scalar) (v : Scalar) (spot : Spot) (w : World) → StoreEnd m w kind v (store_at m (class_in kind) v spot w)
store_end m kind v spot w = elim (cases_Bool (may_store m w (class_in kind) spot)) [
  | inl e ↦ rw e (stores spot _ refl refl)
  | inr e ↦ rw e (leaves refl)
]
