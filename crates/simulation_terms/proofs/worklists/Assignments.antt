-- Assignments, compound assignments and steps.
use Rattle.std.proofs.Common.{◌≡◌, ℕ, suc, Bool, true, false, cond, List, [], ◌∷◌, ◌++◌, Option, Some, None, refl, ap, sym, subst, ◌∙◌, append_assoc}
use Rattle.cc_base.specs.declared.diagnostics.Place.{Place}
use Rattle.cc_base.specs.declared.integer_operators.IntOp.{IntOp}
use Rattle.cc_base.specs.declared.int_types.IntType.{IntType}
use Rattle.c_layout.specs.Types.{same_kind}
use Rattle.c_layout.specs.CheckedTrees.{TermTree, LvalueTree}
use Rattle.cfg.specs.declared.machine_instructions.Amount.TheVariants.{Temp}
use Rattle.cfg.specs.declared.machine_instructions.Scalar as declared
use Rattle.cfg.specs.declared.machine_instructions.Scalar.TheVariants as scalar
use Rattle.lower_templates.specs.Worklist.Acts as act
use Rattle.lower_templates.specs.Worklist.Acts.{Act}
use Rattle.lower_templates.specs.Worklist.Plans.{Plan, with_work}
use Rattle.lower_templates.specs.Worklist.Settings.{SettingView}
use Rattle.lower_templates.specs.Worklist.Works as jobs
use Rattle.lower_templates.specs.Worklist.Works.{Job, behind}
use Rattle.lower_expressions.specs.Assignments as lowered
use Rattle.semantics.specs.SourceMachine.Items as item
use Rattle.semantics.specs.SourceMachine.Items.{Item}
use Rattle.semantics.specs.SourceMachine.Operations as op
use Rattle.semantics.specs.SourceMachine.Operations.{Operation}
use Rattle.simulation_terms.specs.Instructions.Acts as acts
use Rattle.simulation_terms.specs.Instructions.Acts.{IsAct, IsActBehind}
use Rattle.simulation_terms.specs.SimulationRelation.Activations.{Activation}
use Rattle.simulation_terms.specs.SimulationRelation.Simulates.{at_place, Simulates}
use Rattle.simulation_terms.proofs.simulation_relation.Constructions.{gives_store, gives_again}
use Rattle.simulation_terms.proofs.worklists.Runs.{Runs, then, does, piece_first, none_made}
use Rattle.simulation_terms.proofs.worklists.About.{Valued, Addressed}
use Rattle.simulation_terms.proofs.worklists.Operators.{both_sides}

-- ---- plans

pub one_more_job : (js : List Job) (j : Job) (p : Plan) → p.jobs ≡ js → (with_work j p).jobs ≡ js ++ j ∷ []
unfolding with_work
one_more_job js j p e = ap (λ js. js ++ j ∷ []) e

-- a conversion, where the types differ
abbrev pub conversion_jobs : Bool → Place → ℕ → ℕ → IntType → IntType → List Job
conversion_jobs same at to from old new = cond same [] (jobs.Ready (at_place at (act.Convert to from (scalar.Int old) (scalar.Int new))) ∷ [])

pub converted_jobs : (js : List Job) (at : Place) (to from : ℕ) (old new : IntType) (p : Plan) → p.jobs ≡ js → (lowered.converted at to from old new p).jobs ≡ js ++ conversion_jobs (same_kind old new) at to from old new
unfolding with_work
converted_jobs js at to from old new p e = by (same_kind old new)
  where
    piece : Job
    piece = jobs.Ready (at_place at (act.Convert to from (scalar.Int old) (scalar.Int new)))

    nil : (js : List Job) → js ≡ js ++ []
    nil [] = refl
    nil (j ∷ js) = ap (λ xs. j ∷ xs) (nil js)

    by : (b : Bool) → (cond b p (with_work (jobs.Ready (at_place at (act.Convert to from (scalar.Int old) (scalar.Int new)))) p)).jobs ≡ js ++ conversion_jobs b at to from old new
    by true = e ∙ nil js
    by false = ap (λ js. js ++ jobs.Ready (at_place at (act.Convert to from (scalar.Int old) (scalar.Int new))) ∷ []) e

-- lists, one behind the other
pub in_order : {A : Type 0} (xs ws bs cs ds : List A) → (((xs ++ ws) ++ bs) ++ cs) ++ ds ≡ xs ++ (ws ++ (bs ++ (cs ++ ds)))
in_order xs ws bs cs ds = append_assoc ((xs ++ ws) ++ bs) cs ds ∙ append_assoc (xs ++ ws) bs (cs ++ ds) ∙ append_assoc xs ws (bs ++ (cs ++ ds))

-- the works of a compound assignment, where the temporaries are two numbers
abbrev pub compound_jobs : LvalueTree → TermTree → Place → Place → IntType → IntType → IntOp → Option (ℕ × ℕ) → Bool → Bool → ℕ → ℕ → ℕ → List Job
compound_jobs l a at here own kind sign kept one_way other_way d x y =
    jobs.Address l d ∷ (jobs.Value a x ∷ (jobs.Ready (at_place here (act.Load y d (scalar.Int own)))
    ∷ (conversion_jobs one_way at y y own kind ++ (jobs.Ready (at_place at (act.Binary x sign y (Temp x) kind)) ∷ (conversion_jobs other_way at x x kind own ++ jobs.Ready (at_place here (act.Store d x (scalar.Int own) kept)) ∷ [])))))

abbrev pub compound_items : LvalueTree → TermTree → Place → Place → IntType → IntType → IntOp → Bool → Bool → List Item → List Item
compound_items l a at here own kind sign one_way other_way is =
    item.Address l ∷ (item.Value a ∷ (item.Do here (op.LoadUnder (scalar.Int own))
    ∷ (cond one_way [] (item.Do at (op.Convert (scalar.Int kind)) ∷ []) ++ (item.Do at (op.Binary op.RightFirst sign kind) ∷ (cond other_way [] (item.Do at (op.Convert (scalar.Int own)) ∷ []) ++ (item.Do here (op.Store (scalar.Int own)) ∷ is))))))

abbrev pub compound_shift_jobs : LvalueTree → TermTree → Place → Place → ℕ → Bool → Option (ℕ × ℕ) → ℕ → ℕ → ℕ → List Job
compound_shift_jobs l a at here size back kept d x y = jobs.Address l d ∷ (jobs.Value a x ∷ (jobs.Ready (at_place here (act.Load y d scalar.Pointer)) ∷ (jobs.Ready (at_place at (act.Shift x y (Temp x) size back)) ∷ (jobs.Ready (at_place here (act.Store d x scalar.Pointer kept)) ∷ []))))

abbrev pub compound_shift_items : LvalueTree → TermTree → Place → Place → ℕ → Bool → List Item → List Item
compound_shift_items l a at here size back is = item.Address l ∷ (item.Value a ∷ (item.Do here (op.LoadUnder scalar.Pointer) ∷ (item.Do at (op.Shift op.RightFirst size back) ∷ (item.Do here (op.Store scalar.Pointer) ∷ is))))

module _ (s : SettingView) (t : Activation) (n : ℕ) where
  -- nothing is done
  pub nothing_done : (d : ℕ) → Runs s t n [] [] d d
  nothing_done d = record { from = λ p none ps r m known items rest stands f. subst (λ xs. Simulates t n d items (xs ++ rest)) (sym (none_made s p ps r m)) f }

  -- a store whose value is dropped
  pub stores : (d : ℕ) (at : Place) (kind : declared.Scalar) → Runs s t n (jobs.Ready (at_place at (act.Store d (suc d) kind None)) ∷ []) (item.Do at (op.Store kind) ∷ (item.Drop ∷ [])) (suc (suc d)) d
  stores d at kind = piece_first s t n (at_place at (act.Store d (suc d) kind None)) (item.Do at (op.Store kind) ∷ (item.Drop ∷ [])) (suc (suc d)) d (λ items rest f. gives_store n d at kind items rest f)

  -- an operation on a copy of the newest value
  pub copies : (d : ℕ) (at : Place) (operation : Operation) (a : Act) → IsActBehind operation a d → Runs s t n (jobs.Ready (at_place at a) ∷ []) (item.Again ∷ (item.Do at operation ∷ [])) (suc d) (suc (suc d))
  copies d at operation a is = piece_first s t n (at_place at a) (item.Again ∷ (item.Do at operation ∷ [])) (suc d) (suc (suc d)) (λ items rest f. gives_again n d at operation a items rest is f)

  -- a conversion of the newest value, where the types differ
  pub converts : (same : Bool) (d : ℕ) (at : Place) (old new : IntType) → Runs s t n (conversion_jobs same at d d old new) (cond same [] (item.Do at (op.Convert (scalar.Int new)) ∷ [])) (suc d) (suc d)
  converts true d at old new = nothing_done (suc d)
  converts false d at old new = does s t n (suc d) (suc d) at (op.Convert (scalar.Int new)) (act.Convert d d (scalar.Int old) (scalar.Int new)) (acts.convert d (scalar.Int old) (scalar.Int new))

  -- ---- assignments

  -- a store whose value is used
  pub keeps : (d : ℕ) (at : Place) (kind : declared.Scalar) → Runs s t n (jobs.Ready (at_place at (act.Store d (suc d) kind (Some (d, suc d)))) ∷ []) (item.Do at (op.Store kind) ∷ []) (suc (suc d)) (suc d)
  keeps d at kind = does s t n (suc (suc d)) (suc d) at (op.Store kind) _ (acts.store d kind)

  abbrev left : LvalueTree → TermTree → ℕ → ℕ → List Job → List Job
  left l a d x js = jobs.Address l d ∷ (jobs.Value a x ∷ js)

  -- an address and a value, and then what is done with them
  with_sides : (l : LvalueTree) (a : TermTree) (d next : ℕ) (js : List Job) (is : List Item) → Addressed s t n l d → Valued s t n a (suc d) → Runs s t n js is (suc (suc d)) next → Runs s t n (left l a d (suc d) js) (item.Address l ∷ (item.Value a ∷ is)) d next
  with_sides l a d next js is first second rest = then s t n (jobs.Address l d ∷ (jobs.Value a (suc d) ∷ [])) js (item.Address l ∷ (item.Value a ∷ [])) is d (suc (suc d)) next (both_sides s t n l a d (suc d) refl first second) rest

  pub assigns : (l : LvalueTree) (a : TermTree) (d x : ℕ) (at : Place) (kind : declared.Scalar) → suc d ≡ x → Addressed s t n l d → Valued s t n a (suc d) → Runs s t n (left l a d x (jobs.Ready (at_place at (act.Store d x kind (Some (d, x)))) ∷ [])) (item.Address l ∷ (item.Value a ∷ (item.Do at (op.Store kind) ∷ []))) d (suc d)
  assigns l a d x at kind e first second =
      subst (λ x. Runs s t n (left l a d x (jobs.Ready (at_place at (act.Store d x kind (Some (d, x)))) ∷ [])) (item.Address l ∷ (item.Value a ∷ (item.Do at (op.Store kind) ∷ []))) d (suc d)) e
      (with_sides l a d (suc d) _ _ first second (keeps d at kind))

  pub assigns_only : (l : LvalueTree) (a : TermTree) (d x : ℕ) (at : Place) (kind : declared.Scalar) → suc d ≡ x → Addressed s t n l d → Valued s t n a (suc d) → Runs s t n (left l a d x (jobs.Ready (at_place at (act.Store d x kind None)) ∷ [])) (item.Address l ∷ (item.Value a ∷ (item.Do at (op.Store kind) ∷ (item.Drop ∷ [])))) d d
  assigns_only l a d x at kind e first second =
      subst (λ x. Runs s t n (left l a d x (jobs.Ready (at_place at (act.Store d x kind None)) ∷ [])) (item.Address l ∷ (item.Value a ∷ (item.Do at (op.Store kind) ∷ (item.Drop ∷ [])))) d d) e
      (with_sides l a d d _ _ first second (stores d at kind))

  -- ---- compound assignments

  -- the old value is loaded over the right one, both are operated on, and what comes behind
  operates : (d next : ℕ) (at here : Place) (own kind : IntType) (sign : IntOp) (one_way other_way : Bool) (js : List Job) (is : List Item) → Runs s t n js is (suc (suc d)) next
      → Runs s t n (jobs.Ready (at_place here (act.Load (suc (suc d)) d (scalar.Int own))) ∷ (conversion_jobs one_way at (suc (suc d)) (suc (suc d)) own kind ++ (jobs.Ready (at_place at (act.Binary (suc d) sign (suc (suc d)) (Temp (suc d)) kind)) ∷ (conversion_jobs other_way at (suc d) (suc d) kind own ++ js))))
      (item.Do here (op.LoadUnder (scalar.Int own)) ∷ (cond one_way [] (item.Do at (op.Convert (scalar.Int kind)) ∷ []) ++ (item.Do at (op.Binary op.RightFirst sign kind) ∷ (cond other_way [] (item.Do at (op.Convert (scalar.Int own)) ∷ []) ++ is)))) (suc (suc d)) next
  operates d next at here own kind sign one_way other_way js is rest =
      then s t n (jobs.Ready (at_place here (act.Load (suc (suc d)) d (scalar.Int own))) ∷ []) _ (item.Do here (op.LoadUnder (scalar.Int own)) ∷ []) _ (suc (suc d)) (suc (suc (suc d))) next (does s t n (suc (suc d)) (suc (suc (suc d))) here (op.LoadUnder (scalar.Int own)) _ (acts.load_under d (scalar.Int own)))
      (then s t n (conversion_jobs one_way at (suc (suc d)) (suc (suc d)) own kind) _ (cond one_way [] (item.Do at (op.Convert (scalar.Int kind)) ∷ [])) _ (suc (suc (suc d))) (suc (suc (suc d))) next (converts one_way (suc (suc d)) at own kind)
      (then s t n (jobs.Ready (at_place at (act.Binary (suc d) sign (suc (suc d)) (Temp (suc d)) kind)) ∷ []) _ (item.Do at (op.Binary op.RightFirst sign kind) ∷ []) _ (suc (suc (suc d))) (suc (suc d)) next (does s t n (suc (suc (suc d))) (suc (suc d)) at (op.Binary op.RightFirst sign kind) _ (acts.binary_right (suc d) sign kind))
      (then s t n (conversion_jobs other_way at (suc d) (suc d) kind own) js (cond other_way [] (item.Do at (op.Convert (scalar.Int own)) ∷ [])) is (suc (suc d)) (suc (suc d)) next (converts other_way (suc d) at kind own) rest)))

  pub compounds : (l : LvalueTree) (a : TermTree) (at here : Place) (own kind : IntType) (sign : IntOp) (one_way other_way : Bool) (d x y : ℕ) → suc d ≡ x → suc (suc d) ≡ y → Addressed s t n l d → Valued s t n a (suc d)
      → Runs s t n (compound_jobs l a at here own kind sign (Some (d, x)) one_way other_way d x y) (compound_items l a at here own kind sign one_way other_way []) d (suc d)
  compounds l a at here own kind sign one_way other_way d x y is_x is_y first second =
      subst (λ x. Runs s t n (compound_jobs l a at here own kind sign (Some (d, x)) one_way other_way d x y) (compound_items l a at here own kind sign one_way other_way []) d (suc d)) is_x
      (subst (λ y. Runs s t n (compound_jobs l a at here own kind sign (Some (d, suc d)) one_way other_way d (suc d) y) (compound_items l a at here own kind sign one_way other_way []) d (suc d)) is_y
      (with_sides l a d (suc d) _ _ first second (operates d (suc d) at here own kind sign one_way other_way _ _ (keeps d here (scalar.Int own)))))

  pub compounds_only : (l : LvalueTree) (a : TermTree) (at here : Place) (own kind : IntType) (sign : IntOp) (one_way other_way : Bool) (d x y : ℕ) → suc d ≡ x → suc (suc d) ≡ y → Addressed s t n l d → Valued s t n a (suc d)
      → Runs s t n (compound_jobs l a at here own kind sign None one_way other_way d x y) (compound_items l a at here own kind sign one_way other_way (item.Drop ∷ [])) d d
  compounds_only l a at here own kind sign one_way other_way d x y is_x is_y first second =
      subst (λ x. Runs s t n (compound_jobs l a at here own kind sign None one_way other_way d x y) (compound_items l a at here own kind sign one_way other_way (item.Drop ∷ [])) d d) is_x
      (subst (λ y. Runs s t n (compound_jobs l a at here own kind sign None one_way other_way d (suc d) y) (compound_items l a at here own kind sign one_way other_way (item.Drop ∷ [])) d d) is_y
      (with_sides l a d d _ _ first second (operates d d at here own kind sign one_way other_way _ _ (stores d here (scalar.Int own)))))

  -- a pointer that is moved
  moves : (d next : ℕ) (at here : Place) (size : ℕ) (back : Bool) (js : List Job) (is : List Item) → Runs s t n js is (suc (suc d)) next
      → Runs s t n (jobs.Ready (at_place here (act.Load (suc (suc d)) d scalar.Pointer)) ∷ (jobs.Ready (at_place at (act.Shift (suc d) (suc (suc d)) (Temp (suc d)) size back)) ∷ js)) (item.Do here (op.LoadUnder scalar.Pointer) ∷ (item.Do at (op.Shift op.RightFirst size back) ∷ is)) (suc (suc d)) next
  moves d next at here size back js is rest =
      then s t n (jobs.Ready (at_place here (act.Load (suc (suc d)) d scalar.Pointer)) ∷ []) _ (item.Do here (op.LoadUnder scalar.Pointer) ∷ []) _ (suc (suc d)) (suc (suc (suc d))) next (does s t n (suc (suc d)) (suc (suc (suc d))) here (op.LoadUnder scalar.Pointer) _ (acts.load_under d scalar.Pointer))
      (then s t n (jobs.Ready (at_place at (act.Shift (suc d) (suc (suc d)) (Temp (suc d)) size back)) ∷ []) js (item.Do at (op.Shift op.RightFirst size back) ∷ []) is (suc (suc (suc d))) (suc (suc d)) next (does s t n (suc (suc (suc d))) (suc (suc d)) at (op.Shift op.RightFirst size back) _ (acts.shift_right (suc d) size back)) rest)

  pub compound_shifts : (l : LvalueTree) (a : TermTree) (at here : Place) (size : ℕ) (back : Bool) (d x y : ℕ) → suc d ≡ x → suc (suc d) ≡ y → Addressed s t n l d → Valued s t n a (suc d)
      → Runs s t n (compound_shift_jobs l a at here size back (Some (d, x)) d x y) (compound_shift_items l a at here size back []) d (suc d)
  compound_shifts l a at here size back d x y is_x is_y first second =
      subst (λ x. Runs s t n (compound_shift_jobs l a at here size back (Some (d, x)) d x y) (compound_shift_items l a at here size back []) d (suc d)) is_x
      (subst (λ y. Runs s t n (compound_shift_jobs l a at here size back (Some (d, suc d)) d (suc d) y) (compound_shift_items l a at here size back []) d (suc d)) is_y
      (with_sides l a d (suc d) _ _ first second (moves d (suc d) at here size back _ _ (keeps d here scalar.Pointer))))

  pub compound_shifts_only : (l : LvalueTree) (a : TermTree) (at here : Place) (size : ℕ) (back : Bool) (d x y : ℕ) → suc d ≡ x → suc (suc d) ≡ y → Addressed s t n l d → Valued s t n a (suc d)
      → Runs s t n (compound_shift_jobs l a at here size back None d x y) (compound_shift_items l a at here size back (item.Drop ∷ [])) d d
  compound_shifts_only l a at here size back d x y is_x is_y first second =
      subst (λ x. Runs s t n (compound_shift_jobs l a at here size back None d x y) (compound_shift_items l a at here size back (item.Drop ∷ [])) d d) is_x
      (subst (λ y. Runs s t n (compound_shift_jobs l a at here size back None d (suc d) y) (compound_shift_items l a at here size back (item.Drop ∷ [])) d d) is_y
      (with_sides l a d d _ _ first second (moves d d at here size back _ _ (stores d here scalar.Pointer))))
