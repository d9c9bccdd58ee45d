-- `++` and `--`.
use Rattle.std.proofs.Common.{◌≡◌, ℕ, suc, Bool, true, false, cond, List, [], ◌∷◌, ◌++◌, Option, Some, None, subst}
use Rattle.cc_base.specs.declared.diagnostics.Place.{Place}
use Rattle.cc_base.specs.declared.integer_operators.IntOp.{IntOp}
use Rattle.cc_base.specs.declared.int_types.IntType.{IntType}
use Rattle.c_layout.specs.CheckedTrees.{LvalueTree}
use Rattle.cfg.specs.declared.machine_instructions.Amount.TheVariants.{One}
use Rattle.cfg.specs.declared.machine_instructions.Scalar as declared
use Rattle.cfg.specs.declared.machine_instructions.Scalar.TheVariants as scalar
use Rattle.lower_templates.specs.Worklist.Acts as act
use Rattle.lower_templates.specs.Worklist.Settings.{SettingView}
use Rattle.lower_templates.specs.Worklist.Works as jobs
use Rattle.lower_templates.specs.Worklist.Works.{Job}
use Rattle.semantics.specs.SourceMachine.Items as item
use Rattle.semantics.specs.SourceMachine.Items.{Item}
use Rattle.semantics.specs.SourceMachine.Operations as op
use Rattle.simulation_terms.specs.Instructions.Acts as acts
use Rattle.simulation_terms.specs.SimulationRelation.Activations.{Activation}
use Rattle.simulation_terms.specs.SimulationRelation.Simulates.{at_place}
use Rattle.simulation_terms.proofs.worklists.Runs.{Runs, then, does}
use Rattle.simulation_terms.proofs.worklists.About.{Addressed}
use Rattle.simulation_terms.proofs.worklists.Assignments.{conversion_jobs, copies, converts, stores, keeps}

-- the works of a step: the old value is in one temporary, the new one in the same or in another one
abbrev pub step_jobs : LvalueTree → Place → Place → IntType → IntType → IntOp → Option (ℕ × ℕ) → Bool → Bool → ℕ → ℕ → ℕ → List Job
step_jobs l at here own kind sign kept one_way other_way d x y =
    jobs.Address l d ∷ (jobs.Ready (at_place here (act.Load x d (scalar.Int own)))
    ∷ (conversion_jobs one_way at y x own kind ++ (jobs.Ready (at_place at (act.Binary y sign (cond one_way x y) One kind)) ∷ (conversion_jobs other_way at y y kind own ++ jobs.Ready (at_place here (act.Store d y (scalar.Int own) kept)) ∷ []))))

abbrev pub pointer_jobs : LvalueTree → Place → Place → ℕ → Bool → Option (ℕ × ℕ) → ℕ → ℕ → ℕ → List Job
pointer_jobs l at here size back kept d x y = jobs.Address l d ∷ (jobs.Ready (at_place here (act.Load x d scalar.Pointer)) ∷ (jobs.Ready (at_place at (act.Shift y x One size back)) ∷ (jobs.Ready (at_place here (act.Store d y scalar.Pointer kept)) ∷ [])))

-- the items of a step, and what comes behind
abbrev pub step_items : LvalueTree → Place → Place → IntType → IntType → IntOp → Bool → Bool → List Item → List Item → List Item
step_items l at here own kind sign one_way other_way copied is =
    item.Address l ∷ (item.Do here (op.LoadOver (scalar.Int own))
    ∷ (copied ++ (cond one_way [] (item.Do at (op.Convert (scalar.Int kind)) ∷ []) ++ (item.Do at (op.BinaryByOne sign kind) ∷ (cond other_way [] (item.Do at (op.Convert (scalar.Int own)) ∷ []) ++ is)))))

abbrev pub pointer_items : LvalueTree → Place → Place → ℕ → Bool → List Item → List Item → List Item
pointer_items l at here size back copied is = item.Address l ∷ (item.Do here (op.LoadOver scalar.Pointer) ∷ (copied ++ (item.Do at (op.ShiftByOne size back) ∷ is)))

module _ (s : SettingView) (t : Activation) (n : ℕ) where
  -- the old value is loaded, and then what comes behind
  with_old : (l : LvalueTree) (d next : ℕ) (here : Place) (kind : declared.Scalar) (js : List Job) (is : List Item) → Addressed s t n l d → Runs s t n js is (suc (suc d)) next
      → Runs s t n (jobs.Address l d ∷ (jobs.Ready (at_place here (act.Load (suc d) d kind)) ∷ js)) (item.Address l ∷ (item.Do here (op.LoadOver kind) ∷ is)) d next
  with_old l d next here kind js is first rest =
      then s t n (jobs.Address l d ∷ []) (jobs.Ready (at_place here (act.Load (suc d) d kind)) ∷ js) (item.Address l ∷ []) (item.Do here (op.LoadOver kind) ∷ is) d (suc d) next first
      (then s t n (jobs.Ready (at_place here (act.Load (suc d) d kind)) ∷ []) js (item.Do here (op.LoadOver kind) ∷ []) is (suc d) (suc (suc d)) next (does s t n (suc d) (suc (suc d)) here (op.LoadOver kind) _ (acts.load_over d kind)) rest)

  -- a conversion back, and then what comes behind
  with_back : (d next : ℕ) (at : Place) (own kind : IntType) (other_way : Bool) (js : List Job) (is : List Item) → Runs s t n js is (suc d) next
      → Runs s t n (conversion_jobs other_way at d d kind own ++ js) (cond other_way [] (item.Do at (op.Convert (scalar.Int own)) ∷ []) ++ is) (suc d) next
  with_back d next at own kind other_way js is rest = then s t n (conversion_jobs other_way at d d kind own) js (cond other_way [] (item.Do at (op.Convert (scalar.Int own)) ∷ [])) is (suc d) (suc d) next (converts s t n other_way d at kind own) rest

  -- ---- the old value is not kept

  in_place : (d next : ℕ) (at : Place) (own kind : IntType) (sign : IntOp) (one_way other_way : Bool) (js : List Job) (is : List Item) → Runs s t n js is (suc d) next
      → Runs s t n (conversion_jobs one_way at d d own kind ++ (jobs.Ready (at_place at (act.Binary d sign (cond one_way d d) One kind)) ∷ (conversion_jobs other_way at d d kind own ++ js)))
      (cond one_way [] (item.Do at (op.Convert (scalar.Int kind)) ∷ []) ++ (item.Do at (op.BinaryByOne sign kind) ∷ (cond other_way [] (item.Do at (op.Convert (scalar.Int own)) ∷ []) ++ is))) (suc d) next
  in_place d next at own kind sign one_way other_way js is rest =
      then s t n (conversion_jobs one_way at d d own kind) _ (cond one_way [] (item.Do at (op.Convert (scalar.Int kind)) ∷ [])) _ (suc d) (suc d) next (converts s t n one_way d at own kind) (by one_way)
    where
      by : (b : Bool) → Runs s t n (jobs.Ready (at_place at (act.Binary d sign (cond b d d) One kind)) ∷ (conversion_jobs other_way at d d kind own ++ js)) (item.Do at (op.BinaryByOne sign kind) ∷ (cond other_way [] (item.Do at (op.Convert (scalar.Int own)) ∷ []) ++ is)) (suc d) next
      by true = then s t n (jobs.Ready (at_place at (act.Binary d sign d One kind)) ∷ []) _ (item.Do at (op.BinaryByOne sign kind) ∷ []) _ (suc d) (suc d) next (does s t n (suc d) (suc d) at (op.BinaryByOne sign kind) _ (acts.binary_one d sign kind)) (with_back d next at own kind other_way js is rest)
      by false = then s t n (jobs.Ready (at_place at (act.Binary d sign d One kind)) ∷ []) _ (item.Do at (op.BinaryByOne sign kind) ∷ []) _ (suc d) (suc d) next (does s t n (suc d) (suc d) at (op.BinaryByOne sign kind) _ (acts.binary_one d sign kind)) (with_back d next at own kind other_way js is rest)

  pub steps : (l : LvalueTree) (at here : Place) (own kind : IntType) (sign : IntOp) (one_way other_way : Bool) (d x : ℕ) → suc d ≡ x → Addressed s t n l d
      → Runs s t n (step_jobs l at here own kind sign (Some (d, x)) one_way other_way d x x) (step_items l at here own kind sign one_way other_way [] (item.Do here (op.Store (scalar.Int own)) ∷ [])) d (suc d)
  steps l at here own kind sign one_way other_way d x is_x first =
      subst (λ x. Runs s t n (step_jobs l at here own kind sign (Some (d, x)) one_way other_way d x x) (step_items l at here own kind sign one_way other_way [] (item.Do here (op.Store (scalar.Int own)) ∷ [])) d (suc d)) is_x
      (with_old l d (suc d) here (scalar.Int own) _ _ first (in_place (suc d) (suc d) at own kind sign one_way other_way _ _ (keeps s t n d here (scalar.Int own))))

  pub steps_only : (l : LvalueTree) (at here : Place) (own kind : IntType) (sign : IntOp) (one_way other_way : Bool) (d x : ℕ) → suc d ≡ x → Addressed s t n l d
      → Runs s t n (step_jobs l at here own kind sign None one_way other_way d x x) (step_items l at here own kind sign one_way other_way [] (item.Do here (op.Store (scalar.Int own)) ∷ (item.Drop ∷ []))) d d
  steps_only l at here own kind sign one_way other_way d x is_x first =
      subst (λ x. Runs s t n (step_jobs l at here own kind sign None one_way other_way d x x) (step_items l at here own kind sign one_way other_way [] (item.Do here (op.Store (scalar.Int own)) ∷ (item.Drop ∷ []))) d d) is_x
      (with_old l d d here (scalar.Int own) _ _ first (in_place (suc d) d at own kind sign one_way other_way _ _ (stores s t n d here (scalar.Int own))))

  pub pointer_steps : (l : LvalueTree) (at here : Place) (size : ℕ) (back : Bool) (d x : ℕ) → suc d ≡ x → Addressed s t n l d
      → Runs s t n (pointer_jobs l at here size back (Some (d, x)) d x x) (pointer_items l at here size back [] (item.Do here (op.Store scalar.Pointer) ∷ [])) d (suc d)
  pointer_steps l at here size back d x is_x first =
      subst (λ x. Runs s t n (pointer_jobs l at here size back (Some (d, x)) d x x) (pointer_items l at here size back [] (item.Do here (op.Store scalar.Pointer) ∷ [])) d (suc d)) is_x
      (with_old l d (suc d) here scalar.Pointer _ _ first
      (then s t n (jobs.Ready (at_place at (act.Shift (suc d) (suc d) One size back)) ∷ []) _ (item.Do at (op.ShiftByOne size back) ∷ []) _ (suc (suc d)) (suc (suc d)) (suc d) (does s t n (suc (suc d)) (suc (suc d)) at (op.ShiftByOne size back) _ (acts.shift_one (suc d) size back)) (keeps s t n d here scalar.Pointer)))

  pub pointer_steps_only : (l : LvalueTree) (at here : Place) (size : ℕ) (back : Bool) (d x : ℕ) → suc d ≡ x → Addressed s t n l d
      → Runs s t n (pointer_jobs l at here size back None d x x) (pointer_items l at here size back [] (item.Do here (op.Store scalar.Pointer) ∷ (item.Drop ∷ []))) d d
  pointer_steps_only l at here size back d x is_x first =
      subst (λ x. Runs s t n (pointer_jobs l at here size back None d x x) (pointer_items l at here size back [] (item.Do here (op.Store scalar.Pointer) ∷ (item.Drop ∷ []))) d d) is_x
      (with_old l d d here scalar.Pointer _ _ first
      (then s t n (jobs.Ready (at_place at (act.Shift (suc d) (suc d) One size back)) ∷ []) _ (item.Do at (op.ShiftByOne size back) ∷ []) _ (suc (suc d)) (suc (suc d)) d (does s t n (suc (suc d)) (suc (suc d)) at (op.ShiftByOne size back) _ (acts.shift_one (suc d) size back)) (stores s t n d here scalar.Pointer)))

  -- ---- the old value is kept

  copied : (d next : ℕ) (at : Place) (own kind : IntType) (sign : IntOp) (one_way other_way : Bool) (js : List Job) (is : List Item) → Runs s t n js is (suc (suc d)) next
      → Runs s t n (conversion_jobs one_way at (suc d) d own kind ++ (jobs.Ready (at_place at (act.Binary (suc d) sign (cond one_way d (suc d)) One kind)) ∷ (conversion_jobs other_way at (suc d) (suc d) kind own ++ js)))
      (item.Again ∷ (cond one_way [] (item.Do at (op.Convert (scalar.Int kind)) ∷ []) ++ (item.Do at (op.BinaryByOne sign kind) ∷ (cond other_way [] (item.Do at (op.Convert (scalar.Int own)) ∷ []) ++ is)))) (suc d) next
  copied d next at own kind sign true other_way js is rest =
      then s t n (jobs.Ready (at_place at (act.Binary (suc d) sign d One kind)) ∷ []) _ (item.Again ∷ (item.Do at (op.BinaryByOne sign kind) ∷ [])) _ (suc d) (suc (suc d)) next (copies s t n d at (op.BinaryByOne sign kind) _ (acts.binary_one d sign kind)) (with_back (suc d) next at own kind other_way js is rest)
  copied d next at own kind sign false other_way js is rest =
      then s t n (jobs.Ready (at_place at (act.Convert (suc d) d (scalar.Int own) (scalar.Int kind))) ∷ []) _ (item.Again ∷ (item.Do at (op.Convert (scalar.Int kind)) ∷ [])) _ (suc d) (suc (suc d)) next (copies s t n d at (op.Convert (scalar.Int kind)) _ (acts.convert d (scalar.Int own) (scalar.Int kind)))
      (then s t n (jobs.Ready (at_place at (act.Binary (suc d) sign (suc d) One kind)) ∷ []) _ (item.Do at (op.BinaryByOne sign kind) ∷ []) _ (suc (suc d)) (suc (suc d)) next (does s t n (suc (suc d)) (suc (suc d)) at (op.BinaryByOne sign kind) _ (acts.binary_one (suc d) sign kind)) (with_back (suc d) next at own kind other_way js is rest))

  -- the new value is stored, and the old one stays
  stores_over : (d : ℕ) (here : Place) (kind : declared.Scalar) → Runs s t n (jobs.Ready (at_place here (act.Store d (suc (suc d)) kind (Some (d, suc d)))) ∷ []) (item.Do here (op.StoreOver kind) ∷ []) (suc (suc (suc d))) (suc d)
  stores_over d here kind = does s t n (suc (suc (suc d))) (suc d) here (op.StoreOver kind) _ (acts.store_over d kind)

  pub steps_behind : (l : LvalueTree) (at here : Place) (own kind : IntType) (sign : IntOp) (one_way other_way : Bool) (d x y : ℕ) → suc d ≡ x → suc (suc d) ≡ y → Addressed s t n l d
      → Runs s t n (step_jobs l at here own kind sign (Some (d, x)) one_way other_way d x y) (step_items l at here own kind sign one_way other_way (item.Again ∷ []) (item.Do here (op.StoreOver (scalar.Int own)) ∷ [])) d (suc d)
  steps_behind l at here own kind sign one_way other_way d x y is_x is_y first =
      subst (λ x. Runs s t n (step_jobs l at here own kind sign (Some (d, x)) one_way other_way d x y) (step_items l at here own kind sign one_way other_way (item.Again ∷ []) (item.Do here (op.StoreOver (scalar.Int own)) ∷ [])) d (suc d)) is_x
      (subst (λ y. Runs s t n (step_jobs l at here own kind sign (Some (d, suc d)) one_way other_way d (suc d) y) (step_items l at here own kind sign one_way other_way (item.Again ∷ []) (item.Do here (op.StoreOver (scalar.Int own)) ∷ [])) d (suc d)) is_y
      (with_old l d (suc d) here (scalar.Int own) _ _ first (copied (suc d) (suc d) at own kind sign one_way other_way _ _ (stores_over d here (scalar.Int own)))))

  pub pointer_steps_behind : (l : LvalueTree) (at here : Place) (size : ℕ) (back : Bool) (d x y : ℕ) → suc d ≡ x → suc (suc d) ≡ y → Addressed s t n l d
      → Runs s t n (pointer_jobs l at here size back (Some (d, x)) d x y) (pointer_items l at here size back (item.Again ∷ []) (item.Do here (op.StoreOver scalar.Pointer) ∷ [])) d (suc d)
  pointer_steps_behind l at here size back d x y is_x is_y first =
      subst (λ x. Runs s t n (pointer_jobs l at here size back (Some (d, x)) d x y) (pointer_items l at here size back (item.Again ∷ []) (item.Do here (op.StoreOver scalar.Pointer) ∷ [])) d (suc d)) is_x
      (subst (λ y. Runs s t n (pointer_jobs l at here size back (Some (d, suc d)) d (suc d) y) (pointer_items l at here size back (item.Again ∷ []) (item.Do here (op.StoreOver scalar.Pointer) ∷ [])) d (suc d)) is_y
      (with_old l d (suc d) here scalar.Pointer _ _ first
      (then s t n (jobs.Ready (at_place at (act.Shift (suc (suc d)) (suc d) One size back)) ∷ []) _ (item.Again ∷ (item.Do at (op.ShiftByOne size back) ∷ [])) _ (suc (suc d)) (suc (suc (suc d))) (suc d) (copies s t n (suc d) at (op.ShiftByOne size back) _ (acts.shift_one (suc d) size back)) (stores_over d here scalar.Pointer))))
