-- Operators with their operands.
use Rattle.std.proofs.Common.{◌≡◌, ℕ, suc, Bool, [], ◌∷◌, arith, ap, sym, subst}
use Rattle.cc_base.specs.declared.diagnostics.Place.{Place}
use Rattle.c_layout.specs.Types.{Ty, Int, Pointer, Array, Struct, Void}
use Rattle.c_layout.specs.Layout.{size_of_type}
use Rattle.c_layout.specs.CheckedTrees.{TermTree, LvalueTree}
use Rattle.cfg.specs.declared.machine_instructions.Amount.TheVariants.{Temp}
use Rattle.lower_templates.specs.Worklist.Acts as act
use Rattle.lower_templates.specs.Worklist.Acts.{Act}
use Rattle.lower_templates.specs.Worklist.Settings.{SettingView}
use Rattle.lower_templates.specs.Worklist.TermKinds.{integer_type, struct_number}
use Rattle.lower_templates.specs.declared.worklist.term_kinds.OperatorMeaning.{OperatorMeaning}
use Rattle.lower_templates.specs.declared.worklist.term_kinds.OperatorMeaning.TheVariants as meant
use Rattle.lower_templates.specs.Worklist.Works as jobs
use Rattle.lower_templates.specs.Worklist.Works.{Job, behind}
use Rattle.lower_expressions.specs.Values.{integer_act, moved_pointer}
use Rattle.semantics.specs.SourceMachine.Items as item
use Rattle.semantics.specs.SourceMachine.Items.{Item}
use Rattle.semantics.specs.SourceMachine.Operations as op
use Rattle.semantics.specs.SourceMachine.Operations.{Operation, size_of}
use Rattle.semantics.specs.SourceMachine.TermItems.{operating, order_of}
use Rattle.simulation_terms.specs.Instructions.Acts as acts
use Rattle.simulation_terms.specs.Instructions.Acts.{IsAct}
use Rattle.simulation_terms.specs.SimulationRelation.Activations.{Activation}
use Rattle.simulation_terms.specs.SimulationRelation.Simulates.{at_place}
use Rattle.simulation_terms.specs.Worklists.Rooms.{larger, both_rooms}
use Rattle.simulation_terms.specs.Worklists.TemplateParts.{IsOfUnit}
use Rattle.simulation_terms.proofs.worklists.Runs.{Runs, then, does}
use Rattle.simulation_terms.proofs.worklists.About.{Fits, Valued, Addressed, moved, moved_address}

-- ---- room

pub first_fits : (d m n : ℕ) → Fits d (both_rooms m n) → Fits d m
first_fits d m n le = omega (arith, le)

pub second_fits : (d m n : ℕ) → Fits d (both_rooms m n) → Fits (suc d) n
second_fits d m n le = omega (arith, le)

pub next_fits : (d m n : ℕ) → Fits d (both_rooms m n) → suc d ≡ behind d 1
next_fits d m n le = omega (arith, le)

pub one_fits : (d m n : ℕ) → Fits d (larger m n) → Fits d m
one_fits d m n le = omega (arith, le)

pub other_fits : (d m n : ℕ) → Fits d (larger m n) → Fits d n
other_fits d m n le = omega (arith, le)

-- ---- instructions

pub integer_is : (m : OperatorMeaning) (ctype : Ty) (d : ℕ) → suc d ≡ behind d 1 → IsAct (operating m ctype) (integer_act m ctype d) (suc (suc d)) (suc d)
integer_is (meant.Number sign) ctype d e = subst (λ b. IsAct (operating (meant.Number sign) ctype) (act.Binary d sign d (Temp b) (integer_type ctype)) (suc (suc d)) (suc d)) e (acts.binary_left d sign (integer_type ctype))
integer_is (meant.Truth rel) ctype d e = subst (λ b. IsAct (operating (meant.Truth rel) ctype) (act.Compare d rel d b) (suc (suc d)) (suc d)) e (acts.compare d rel)

pub shift_is : (ctype : Ty) (d size : ℕ) (back : Bool) → suc d ≡ behind d 1 → IsAct (op.Shift (order_of ctype) size back) (moved_pointer ctype d size back) (suc (suc d)) (suc d)
shift_is (Int kind) d size back e = subst (λ b. IsAct (op.Shift op.RightFirst size back) (act.Shift d b (Temp d) size back) (suc (suc d)) (suc d)) e (acts.shift_right d size back)
shift_is (Pointer u) d size back e = subst (λ b. IsAct (op.Shift op.LeftFirst size back) (act.Shift d d (Temp b) size back) (suc (suc d)) (suc d)) e (acts.shift_left d size back)
shift_is (Array u k) d size back e = subst (λ b. IsAct (op.Shift op.LeftFirst size back) (act.Shift d d (Temp b) size back) (suc (suc d)) (suc d)) e (acts.shift_left d size back)
shift_is (Struct i) d size back e = subst (λ b. IsAct (op.Shift op.LeftFirst size back) (act.Shift d d (Temp b) size back) (suc (suc d)) (suc d)) e (acts.shift_left d size back)
shift_is Void d size back e = subst (λ b. IsAct (op.Shift op.LeftFirst size back) (act.Shift d d (Temp b) size back) (suc (suc d)) (suc d)) e (acts.shift_left d size back)

pub copy_is : (ctype : Ty) (d : ℕ) → ctype ≡ Struct (struct_number ctype) → suc d ≡ behind d 1 → IsAct (op.Copy ctype) (act.Copy d (behind d 1) (struct_number ctype)) (suc (suc d)) (suc d)
copy_is ctype d is e = subst (λ b. IsAct (op.Copy ctype) (act.Copy d b (struct_number ctype)) (suc (suc d)) (suc d)) e (subst (λ k. IsAct (op.Copy k) (act.Copy d (suc d) (struct_number ctype)) (suc (suc d)) (suc d)) (sym is) (acts.copy d (struct_number ctype)))

module _ (s : SettingView) (t : Activation) (n : ℕ) where
  -- one operand and an instruction
  pub one_operand : (a : TermTree) (d : ℕ) (at : Place) (operation : Operation) (does_it : Act) → IsAct operation does_it (suc d) (suc d) → Valued s t n a d → Runs s t n (jobs.Value a d ∷ (jobs.Ready (at_place at does_it) ∷ [])) (item.Value a ∷ (item.Do at operation ∷ [])) d (suc d)
  one_operand a d at operation does_it is first = then s t n (jobs.Value a d ∷ []) (jobs.Ready (at_place at does_it) ∷ []) (item.Value a ∷ []) (item.Do at operation ∷ []) d (suc d) (suc d) first (does s t n (suc d) (suc d) at operation does_it is)

  pub one_place : (l : LvalueTree) (d next : ℕ) (at : Place) (operation : Operation) (does_it : Act) → IsAct operation does_it (suc d) next → Addressed s t n l d → Runs s t n (jobs.Address l d ∷ (jobs.Ready (at_place at does_it) ∷ [])) (item.Address l ∷ (item.Do at operation ∷ [])) d next
  one_place l d next at operation does_it is first = then s t n (jobs.Address l d ∷ []) (jobs.Ready (at_place at does_it) ∷ []) (item.Address l ∷ []) (item.Do at operation ∷ []) d (suc d) next first (does s t n (suc d) next at operation does_it is)

  -- two operands and an instruction
  pub two_operands : (a b : TermTree) (d x : ℕ) (at : Place) (operation : Operation) (does_it : Act) → suc d ≡ x → IsAct operation does_it (suc (suc d)) (suc d) → Valued s t n a d → Valued s t n b (suc d)
      → Runs s t n (jobs.Value a d ∷ (jobs.Value b x ∷ (jobs.Ready (at_place at does_it) ∷ []))) (item.Value a ∷ (item.Value b ∷ (item.Do at operation ∷ []))) d (suc d)
  two_operands a b d x at operation does_it e is first second =
      then s t n (jobs.Value a d ∷ []) (jobs.Value b x ∷ (jobs.Ready (at_place at does_it) ∷ [])) (item.Value a ∷ []) (item.Value b ∷ (item.Do at operation ∷ [])) d (suc d) (suc d) first
      (then s t n (jobs.Value b x ∷ []) (jobs.Ready (at_place at does_it) ∷ []) (item.Value b ∷ []) (item.Do at operation ∷ []) (suc d) (suc (suc d)) (suc d) (moved s t n b d x e second) (does s t n (suc (suc d)) (suc d) at operation does_it is))

  -- an address and a value
  pub both_sides : (l : LvalueTree) (a : TermTree) (d x : ℕ) → suc d ≡ x → Addressed s t n l d → Valued s t n a (suc d) → Runs s t n (jobs.Address l d ∷ (jobs.Value a x ∷ [])) (item.Address l ∷ (item.Value a ∷ [])) d (suc (suc d))
  both_sides l a d x e first second = then s t n (jobs.Address l d ∷ []) (jobs.Value a x ∷ []) (item.Address l ∷ []) (item.Value a ∷ []) d (suc d) (suc (suc d)) first (moved s t n a d x e second)

  -- two addresses and an instruction
  pub two_places : (l k : LvalueTree) (d x : ℕ) (at : Place) (operation : Operation) (does_it : Act) → suc d ≡ x → IsAct operation does_it (suc (suc d)) (suc d) → Addressed s t n l d → Addressed s t n k (suc d)
      → Runs s t n (jobs.Address l d ∷ (jobs.Address k x ∷ (jobs.Ready (at_place at does_it) ∷ []))) (item.Address l ∷ (item.Address k ∷ (item.Do at operation ∷ []))) d (suc d)
  two_places l k d x at operation does_it e is first second =
      then s t n (jobs.Address l d ∷ []) (jobs.Address k x ∷ (jobs.Ready (at_place at does_it) ∷ [])) (item.Address l ∷ []) (item.Address k ∷ (item.Do at operation ∷ [])) d (suc d) (suc d) first
      (then s t n (jobs.Address k x ∷ []) (jobs.Ready (at_place at does_it) ∷ []) (item.Address k ∷ []) (item.Do at operation ∷ []) (suc d) (suc (suc d)) (suc d) (moved_address s t n k d x e second) (does s t n (suc (suc d)) (suc d) at operation does_it is))

-- sizes are those of the unit
pub sizes_same : (t : Activation) (s : SettingView) → IsOfUnit t s → (ctype : Ty) → size_of_type s.structs s.pointer ctype ≡ size_of t.unit ctype
sizes_same t s fits ctype = subst (λ p. size_of_type s.structs p ctype ≡ size_of t.unit ctype) (sym fits.pointer) (ap (λ ss. size_of_type ss t.unit.model.pointer ctype) fits.structs)
