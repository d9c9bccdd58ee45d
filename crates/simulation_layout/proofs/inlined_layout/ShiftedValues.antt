-- Instructions on values do the same on temporaries that are counted from another one.
use Rattle.std.proofs.Common.{◌≡◌, ◌<◌, ℕ, suc, ◌+◌, ◌==◌, Bool, true, false, List, [], ◌∷◌, map, Option, Some, None, refl, arith, ap₂, sym, subst, ◌∙◌}
use Rattle.std.specs.Option.{option_map}
use Rattle.std.proofs.lemmas.Bool.{eq-eqb, eqb-true}
use Rattle.c_layout.specs.CheckedUnits.{UnitView}
use Rattle.cfg.specs.declared.machine_instructions.Amount.{Amount}
use Rattle.cfg.specs.declared.machine_instructions.Amount.TheVariants as amount
use Rattle.memory_model.specs.Memory.Labels.{no_labels}
use Rattle.memory_model.specs.Memory.Scalars.{Scalar, integer}
use Rattle.memory_model.specs.Effects.Accesses.{load, store}
use Rattle.memory_model.specs.Effects.IntegerEffects.{plain_one, binary, unary, compare_numbers, negation, convert}
use Rattle.memory_model.specs.Effects.LibraryCalls.{library}
use Rattle.memory_model.specs.Effects.NumberedTables.{set_at, put_at, empty_table}
use Rattle.memory_model.specs.Effects.PointerEffects.{narrow, shift, difference, compare}
use Rattle.memory_model.specs.Effects.StructCopies.{copy_struct}
use Rattle.memory_model.specs.Effects.Worlds.{World, Why, Stuck, Reply, goes, stops}
use Rattle.lower_templates.specs.Worklist.Acts as act
use Rattle.lower_templates.specs.Worklist.Acts.{Act}
use Rattle.lower_templates.specs.Views.ProgramViews.{FlowView}
use Rattle.semantics.specs.CfgMachine.FlowStates.{ProgramState, if_some, with_temp, with_temps, and_value, values_of}
use Rattle.semantics.specs.CfgMachine.FlowActs.{giving, storing, calling, with_amount, on_one, on_two, struct_leaves, struct_size, perform}
use Rattle.semantics.specs.CfgMachine.FlowSteps.{act_step}
use Rattle.semantics.specs.TemplateMachine.TemplateActs.{no_program}
use Rattle.simulation_layout.specs.InlinedLayout.Shifts as shifts
use Rattle.simulation_layout.specs.InlinedLayout.Shifts.{amount_shifted, kept_shifted, shifted}
use Rattle.simulation_layout.specs.InlinedLayout.LaidRuns.{of_unit}

-- ---- tables

-- what is at a number, and at another one
pub set_here : {A : Type 0} (f : ℕ → Option A) (n m : ℕ) (x : Option A) → m ≡ n → set_at f n x m ≡ x
set_here {A = A} f n m x e = subst (λ (b : Bool). elim b as (λ _. Option A) [ true ↦ x | false ↦ f m ] ≡ x) (sym (eq-eqb m n e)) refl

pub set_elsewhere : {A : Type 0} (f : ℕ → Option A) (n m : ℕ) (x : Option A) → (m ≡ n → ⊥) → set_at f n x m ≡ f m
set_elsewhere {A = A} f n m x other = by (m == n) refl
  where
    by : (b : Bool) → (m == n) ≡ b → elim (m == n) as (λ _. Option A) [ true ↦ x | false ↦ f m ] ≡ f m
    by true e = absurd (other (eqb-true m n e))
    by false e = subst (λ (b : Bool). elim b as (λ _. Option A) [ true ↦ x | false ↦ f m ] ≡ f m) (sym e) refl

-- one way or the other
pub data Compared (m n : ℕ) : Type 0 where
  same : m ≡ n → Compared m n
  other : (m ≡ n → ⊥) → Compared m n

pub compared : (m n : ℕ) → Compared m n
compared m n = by (m == n) refl
  where
    by : (b : Bool) → (m == n) ≡ b → Compared m n
    by true e = same (eqb-true m n e)
    by false e = other (λ is. differ (sym e ∙ eq-eqb m n is))
      where
        differ : false ≡ true → ⊥
        differ e = cc

-- ---- temporaries

-- the temporaries of a copy, from its first one on
abbrev pub Held : ℕ → (ℕ → Option Scalar) → (ℕ → Option Scalar) → Type 0
Held d ts all = (k : ℕ) → ts k ≡ all (k + d)

-- those before it stay
abbrev pub Keeps : ℕ → (ℕ → Option Scalar) → (ℕ → Option Scalar) → Type 0
Keeps d old new = (j : ℕ) → j < d → new j ≡ old j

pub held_put : (d to : ℕ) (v : Scalar) (ts all : ℕ → Option Scalar) → Held d ts all → Held d (put_at ts to v) (put_at all (to + d) v)
held_put d to v ts all held k = by (compared k to)
  where
    more : k ≡ to → k + d ≡ to + d
    more e = omega (arith, e)

    less : k + d ≡ to + d → k ≡ to
    less e = omega (arith, e)

    by : Compared k to → put_at ts to v k ≡ put_at all (to + d) v (k + d)
    by (same e) = set_here ts to k (Some v) e ∙ sym (set_here all (to + d) (k + d) (Some v) (more e))
    by (other apart) = set_elsewhere ts to k (Some v) apart ∙ held k ∙ sym (set_elsewhere all (to + d) (k + d) (Some v) (λ e. apart (less e)))

pub keeps_put : (d to : ℕ) (v : Scalar) (old new : ℕ → Option Scalar) → Keeps d old new → Keeps d old (put_at new (to + d) v)
keeps_put d to v old new keeps j less = set_elsewhere new (to + d) j (Some v) (λ e. no e) ∙ keeps j less
  where
    no : j ≡ to + d → ⊥
    no e = omega (arith, e, less)

pub keeps_all : (d : ℕ) (all : ℕ → Option Scalar) → Keeps d all all
keeps_all d all j less = refl

-- ---- replies

-- both go on alike, or stop alike, or the template is stuck
pub data Alike (d : ℕ) (r : ProgramState) : Reply ProgramState → Reply ProgramState → Type 0 where
  both_go : (x : ProgramState) (new : ℕ → Option Scalar) (w : World) → Held d x.temps new → Keeps d r.temps new → Alike d r (goes x w) (goes (record r { at = suc r.at; temps = new; world = w }) w)
  both_stop : (why : Why) (w : World) → Alike d r (stops why w) (stops why w)
  stuck : (w : World) (y : Reply ProgramState) → Alike d r (stops Stuck w) y

module _ (u : UnitView) (f : FlowView) (d : ℕ) (ts all : ℕ → Option Scalar) (bases : ℕ → Option ℕ) (block at : ℕ) (w : World) (held : Held d ts all) where
  -- where a template stands, and the program
  abbrev pub own : ProgramState
  own = record { block = 0; at = 0; temps = ts; bases = empty_table; world = w }

  abbrev pub its : ProgramState
  its = record { block = block; at = at; temps = all; bases = bases; world = w }

  abbrev Same : Reply ProgramState → Reply ProgramState → Type 0
  Same x y = Alike d its x y

  with_one : (t : ℕ) (use_it use_too : Scalar → Reply ProgramState) → ((v : Scalar) → Same (use_it v) (use_too v)) → Same (with_temp own t use_it) (with_temp its (t + d) use_too)
  with_one t use_it use_too alike = subst (λ o. Same (with_temp own t use_it) (if_some its o use_too)) (held t) (by (ts t))
    where
      by : (o : Option Scalar) → Same (if_some own o use_it) (if_some its o use_too)
      by None = stuck _ _
      by (Some v) = alike v

  given : (to : ℕ) (x : Reply Scalar) → Same (giving own to x) (giving its (to + d) x)
  given to (goes v w) = both_go _ _ w (held_put d to v ts all held) (keeps_put d to v all all (keeps_all d all))
  given to (stops why w) = both_stop why w

  from_one : (to from : ℕ) (effect : Scalar → World → Reply Scalar) → Same (on_one own to from effect) (on_one its (to + d) (from + d) effect)
  from_one to from effect = with_one from _ _ (λ v. given to (effect v w))

  from_two : (to left right : ℕ) (effect : Scalar → Scalar → World → Reply Scalar) → Same (on_two own to left right effect) (on_two its (to + d) (left + d) (right + d) effect)
  from_two to left right effect = with_one left _ _ (λ a. with_one right _ _ (λ b. given to (effect a b w)))

  by_amount : (n : Amount) (use_it use_too : Scalar → Reply ProgramState) → ((v : Scalar) → Same (use_it v) (use_too v)) → Same (with_amount own n use_it) (with_amount its (amount_shifted d n) use_too)
  by_amount (amount.Temp t) use_it use_too alike = with_one t use_it use_too alike
  by_amount amount.One use_it use_too alike = alike plain_one

  stored : (kept : Option (ℕ × ℕ)) (x : Reply Scalar) → Same (storing own kept x) (storing its (kept_shifted d kept) x)
  stored None (goes v v_w) = both_go _ _ v_w held (keeps_all d all)
  stored (Some p) (goes v v_w) = subst (λ o. Same (with_temp (record own { world = v_w }) p.1 (λ v. goes (record own { at = 1; temps = put_at ts p.0 v; world = v_w }) v_w)) (if_some (record its { world = v_w }) o (λ v. goes (record its { at = suc at; temps = put_at all (p.0 + d) v; world = v_w }) v_w))) (held p.1) (by (ts p.1))
    where
      by : (o : Option Scalar) → Same (if_some (record own { world = v_w }) o (λ v. goes (record own { at = 1; temps = put_at ts p.0 v; world = v_w }) v_w)) (if_some (record its { world = v_w }) o (λ v. goes (record its { at = suc at; temps = put_at all (p.0 + d) v; world = v_w }) v_w))
      by None = stuck _ _
      by (Some v) = both_go _ _ v_w (held_put d p.0 v ts all held) (keeps_put d p.0 v all all (keeps_all d all))
  stored kept (stops why v_w) = both_stop why v_w

  pub same_values : (arguments : List ℕ) → values_of ts arguments ≡ values_of all (map (shifts.shift d) arguments)
  same_values [] = refl
  same_values (t ∷ more) = ap₂ and_value (held t) (same_values more)

  called : (to : Option ℕ) (x : Reply (Option Scalar)) → Same (calling own to x) (calling its (option_map (shifts.shift d) to) x)
  called to (stops why v_w) = both_stop why v_w
  called (Some to) (goes (Some v) v_w) = both_go _ _ v_w (held_put d to v ts all held) (keeps_put d to v all all (keeps_all d all))
  called None (goes None v_w) = both_go _ _ v_w held (keeps_all d all)
  called (Some to) (goes None v_w) = stuck _ _
  called None (goes (Some v) v_w) = stuck _ _

  abbrev program : FlowView
  program = of_unit u f

  -- an act on values does the same in both; one that names an object or ends a block is not one of them
  pub same_value : (b : ℕ) (a : Act) → Same (perform (no_program u) a own) (act_step program (shifted d b a) its)
  same_value b (act.Constant to value kind) = given to (goes (integer value no_labels) w)
  same_value b (act.Load to from kind) = from_one to from (load u.model kind)
  same_value b (act.Store to from kind kept) = with_one to _ _ (λ p. with_one from _ _ (λ v. stored kept (store u.model kind p v w)))
  same_value b (act.Copy to from index) = from_two to to from (copy_struct u.model (struct_leaves program index) (struct_size program index))
  same_value b (act.Narrow to from offset size) = from_one to from (λ p w. narrow p offset size w)
  same_value b (act.Shift to from by size backward) = with_one from _ _ (λ p. by_amount by _ _ (λ n. given to (shift p n size backward w)))
  same_value b (act.Binary to sign left right kind) = with_one left _ _ (λ x. by_amount right _ _ (λ y. given to (binary sign kind x y w)))
  same_value b (act.Unary to sign from kind) = from_one to from (unary sign kind)
  same_value b (act.Compare to sign left right) = from_two to left right (compare_numbers sign)
  same_value b (act.Not to from kind) = from_one to from negation
  same_value b (act.Difference to left right size) = from_two to left right (λ p q w. difference p q size w)
  same_value b (act.ComparePointers to sign left right) = from_two to left right (compare sign)
  same_value b (act.Convert to from old new) = from_one to from (convert new)
  same_value b (act.Library to function arguments newest size) =
      subst (λ o. Same (with_temps own arguments (λ vs. calling own to (library u.model size function vs w))) (if_some its o (λ vs. calling its (option_map (shifts.shift d) to) (library u.model size function vs w)))) (same_values arguments) (by (values_of ts arguments))
    where
      by : (o : Option (List Scalar)) → Same (if_some own o (λ vs. calling own to (library u.model size function vs w))) (if_some its o (λ vs. calling its (option_map (shifts.shift d) to) (library u.model size function vs w)))
      by None = stuck _ _
      by (Some vs) = called to (library u.model size function vs w)
  same_value b a = stuck _ _
