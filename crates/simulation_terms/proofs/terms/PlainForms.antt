-- Each form of term without branches, from what is proved of its parts.
use Rattle.std.proofs.Common.{◌≡◌, ◌≤◌, ℕ, ℤ, pos, suc, ◌+◌, ◌-◌, Bool, true, false, cond, List, [], ◌∷◌, ◌++◌, length, Option, Some, None, refl, arith, ap, sym, subst, ◌∙◌}
use Rattle.cc_base.specs.declared.diagnostics.Place.{Place}
use Rattle.cc_base.specs.declared.integer_operators.UnOp.TheVariants.{Neg, Compl}
use Rattle.c_layout.specs.Types.{Ty}
use Rattle.c_layout.specs.Layout.{size_of_type}
use Rattle.c_layout.specs.CheckedTrees as tree
use Rattle.c_layout.specs.CheckedTrees.{TermTree, TermTrees, Typed, LvalueTree, Designates}
use Rattle.c_layout.specs.declared.syntax_tree.expressions.BinaryOp.{BinaryOp}
use Rattle.c_layout.specs.declared.syntax_tree.expressions.BinaryOp.TheVariants.{Equal, NotEqual}
use Rattle.c_layout.specs.declared.checked_tree.checked_terms.ConversionKind.TheVariants.{Implicit, Cast}
use Rattle.c_layout.specs.declared.checked_tree.checked_terms.ObjectRef.{ObjectRef}
use Rattle.lower_templates.specs.Worklist.Acts as act
use Rattle.lower_templates.specs.Worklist.Pieces.{NameView, PieceView, Literal}
use Rattle.lower_templates.specs.Worklist.Plans.{Plan, with_name, name_of_object}
use Rattle.lower_templates.specs.Worklist.Settings.{SettingView}
use Rattle.lower_templates.specs.Worklist.TermKinds.{meaning, relation, scalar_of, integer_type, term_type, lvalue_at, lvalue_type, is_null_constant, struct_number}
use Rattle.lower_templates.specs.Worklist.Works as jobs
use Rattle.lower_templates.specs.Worklist.Works.{Job, behind}
use Rattle.lower_templates.specs.declared.worklist.pending_works.Decision.{Decision}
use Rattle.lower_expressions.specs.LvaluePointers.{base_address}
use Rattle.lower_expressions.specs.Values.{integer_act, moved_pointer}
use Rattle.lower_conditions.specs.Conditions as lowered
use Rattle.lower_conditions.specs.Conditions.{LineCallView, ReadView, line_call, line_call_beside, read_by, read_test, compared_read}
use Rattle.lower_functions.specs.Functions.Turns.{planless}
use Rattle.lower_template_theorems.proofs.growth.Growth.{grows_not, grows_work}
use Rattle.lower_template_theorems.proofs.growth.GrowingWorks.{planless_grows}
use Rattle.lower_template_theorems.specs.Worklists.Derivations.{parts, Makes}
use Rattle.semantics.specs.SourceMachine.Items as item
use Rattle.semantics.specs.SourceMachine.Items.{Item}
use Rattle.semantics.specs.SourceMachine.Operations as op
use Rattle.semantics.specs.SourceMachine.Operations.{Operation, size_of}
use Rattle.semantics.specs.SourceMachine.TermItems.{address_items, operating, order_of}
use Rattle.semantics.specs.SourceMachine.ConditionItems as source
use Rattle.semantics.specs.SourceMachine.ConditionItems.{term_items}
use Rattle.simulation_terms.specs.Instructions.Acts as acts
use Rattle.simulation_terms.specs.Instructions.Acts.{IsAct}
use Rattle.simulation_terms.specs.SimulationRelation.Activations.{Activation}
use Rattle.simulation_terms.specs.SimulationRelation.Simulates.{Names, Simulates, at_place}
use Rattle.simulation_terms.proofs.simulation_relation.Constructions.{gives_address, gives_object, gives_literal}
use Rattle.simulation_terms.specs.Worklists.Rooms.{room, room_of_place, room_of_all}
use Rattle.simulation_terms.specs.Worklists.SuitedTerms.{Suits}
use Rattle.simulation_terms.specs.Worklists.TemplateParts.{IsOfUnit}
use Rattle.simulation_terms.proofs.worklists.Runs.{Runs, RunsFrom, then, does, dropped, unfolds, piece_first, one_job, two_jobs, three_jobs}
use Rattle.simulation_terms.proofs.worklists.About.{Fits, Valued, Done, Addressed, Reads, About, AboutPlace, valued, done, addressed}
use Rattle.simulation_terms.proofs.worklists.Operators.{first_fits, second_fits, next_fits, one_fits, other_fits, integer_is, shift_is, copy_is, one_operand, one_place, two_operands, two_places, sizes_same}
use Rattle.simulation_terms.proofs.worklists.Assignments.{one_more_job}
use Rattle.simulation_terms.proofs.terms.ConditionTests.{name_there, keeps_jobs}
use Rattle.simulation_terms.proofs.terms.Conditions.{leaf_decided}
use Rattle.simulation_terms.proofs.worklists.Laying.{known_between}

nothing_is : {A : Type 0} (x : A) (o : Option A) → o ≡ Some x → o ≡ None → ⊥
nothing_is x o a b = cc

pub some_none : {A : Type 0} (x : A) (o : Option A) → o ≡ None → o ≡ Some x → ⊥
some_none x o a b = nothing_is x o b a

pub some_same : {A : Type 0} (x y : A) → Some x ≡ Some y → x ≡ y
some_same x y e = ap (λ (o : Option _). elim o [ None ↦ x | Some z ↦ z ]) e

pub read_from : (o : Option LineCallView) (wants : Bool) (x : ReadView) → read_test o wants ≡ Some x → o ≡ Some x.call
read_from None wants x e = absurd (some_none x None refl e)
read_from (Some c) wants x e = ap Some (ap (λ (x : ReadView). x.call) (some_same (record { call = c; wants_line = wants }) x e))

module _ (s : SettingView) (t : Activation) (fits : IsOfUnit t s) (n : ℕ) where
  -- a term that is no call of a line and no comparison with one
  pub plain : (e : TermTree) → line_call e ≡ None → read_by e ≡ None → ((decision : Decision) (p : Plan) → lowered.condition s e decision p ≡ lowered.leaf_condition s e decision p) → ((decision : Decision) (held failed : List Item) → source.condition t.unit decision.is_test e held failed ≡ source.leaf t.unit decision.is_test e held failed)
      → ((d : ℕ) → Suits t.unit true e → Fits d (room e) → Valued s t n e d) → ((d : ℕ) → Suits t.unit false e → Fits d (room e) → Done s t n e d) → About s t n e
  plain e no_call no_read works items value only = record {
    value = value;
    done = only;
    decided = λ decision suits enough. leaf_decided s t fits n e decision (works decision) (items decision) enough (λ none. value decision.depth suits enough) (λ x is. absurd (some_none x (read_by e) no_read is));
    reads = λ c is suits. absurd (some_none c (line_call e) no_call is);
  }

  -- a term whose works are the same whether its value is used or not
  pub plainly : (e : TermTree) → line_call e ≡ None → read_by e ≡ None → ((decision : Decision) (p : Plan) → lowered.condition s e decision p ≡ lowered.leaf_condition s e decision p) → ((decision : Decision) (held failed : List Item) → source.condition t.unit decision.is_test e held failed ≡ source.leaf t.unit decision.is_test e held failed)
      → (js : ℕ → List Job) → ((d : ℕ) (p : Plan) → p.jobs ≡ [] → (parts s (jobs.Value e d) p).jobs ≡ js d) → ((d : ℕ) (p : Plan) → parts s (jobs.Unused e d) p ≡ parts s (jobs.Value e d) p) → term_items t.unit false e ≡ term_items t.unit true e ++ item.Drop ∷ [] → (Suits t.unit false e → Suits t.unit true e)
      → ((d : ℕ) → Suits t.unit true e → Fits d (room e) → Runs s t n (js d) (term_items t.unit true e) d (suc d)) → About s t n e
  plainly e no_call no_read works items js planned same dropping also runs = plain e no_call no_read works items
      (λ d suits enough. valued s t n e d (js d) (planned d) (runs d suits enough))
      (λ d suits enough. done s t n e d (js d) (λ p none. ap (λ (q : Plan). q.jobs) (same d p) ∙ planned d p none) (subst (λ xs. Runs s t n (js d) xs d d) (sym dropping) (dropped s t n (js d) (term_items t.unit true e) d (runs d (also suits) enough))))

  -- ---- lvalues

  pub named_address : (l : LvalueTree) (x : NameView) (i : Item) (at : Place) → (address_items t.unit l ≡ i ∷ []) → ((d : ℕ) (p : Plan) → parts s (jobs.Address l d) p ≡ base_address at x d p) → ((d base : ℕ) (items : List Item) (rest : List PieceView) → Names t base x → Simulates t n (suc d) items rest → Simulates t n d (i ∷ items) (at_place at (act.Address d base 0) ∷ rest)) → (d : ℕ) → Addressed s t n l d
  named_address l x i at is planned gives d = unfolds s t n (jobs.Address l d) (item.Address l) (address_items t.unit l) d (suc d) refl (gives_address n d l)
      (λ p none. subst (λ xs. RunsFrom s t n (planless (parts s (jobs.Address l d) p)) (parts s (jobs.Address l d) p).jobs xs d (suc d)) (sym is) (subst (λ q. RunsFrom s t n (planless q) q.jobs (i ∷ []) d (suc d)) (sym (planned d p)) (by p none)))
    where
      by : (p : Plan) → p.jobs ≡ [] → RunsFrom s t n (planless (base_address at x d p)) (base_address at x d p).jobs (i ∷ []) d (suc d)
      by p none ps r m known items rest stands f =
          let q = at_place at (act.Address d (length p.names) 0) in
          let all = base_address at x d p in
          let made = subst (λ js. Makes s (planless all) js ps r) (one_more_job [] (jobs.Ready q) (with_name x p) (keeps_jobs x p ∙ none)) m in
          let named = name_there t x p (planless all) (planless_grows (with_name x p) all (grows_work (jobs.Ready q) (with_name x p) (grows_not (with_name x p)))) (known_between s t (planless all) (jobs.Ready q ∷ []) ps r made known) in
          (piece_first s t n q (i ∷ []) d (suc d) (λ items rest f. gives d (length p.names) items rest named f)).from (planless all) refl ps r made known items rest stands f

  pub of_object : (at : Place) (ctype : Ty) (parens : ℕ) (o : ObjectRef) → AboutPlace s t n (Designates at ctype parens (tree.Object o))
  of_object at ctype parens o d suits enough =
      named_address (Designates at ctype parens (tree.Object o)) (name_of_object o) (item.Object at o 0) at refl (λ d p. refl) (λ d base items rest named f. gives_object n d base at o 0 items rest named f) d

  pub of_literal : (at : Place) (ctype : Ty) (parens i : ℕ) → AboutPlace s t n (Designates at ctype parens (tree.Literal i))
  of_literal at ctype parens i d suits enough =
      named_address (Designates at ctype parens (tree.Literal i)) (Literal i) (item.Literal at i) at refl (λ d p. refl) (λ d base items rest named f. gives_literal n d base i at items rest named f) d

  pub of_target : (at : Place) (ctype : Ty) (parens : ℕ) (e : TermTree) → About s t n e → AboutPlace s t n (Designates at ctype parens (tree.Target e))
  of_target at ctype parens e about d suits enough = addressed s t n (Designates at ctype parens (tree.Target e)) d (jobs.Value e d ∷ []) (one_job (jobs.Value e d)) (about.value d suits enough)

  narrow_is : (ctype : Ty) (d offset : ℕ) → IsAct (op.Narrow offset (size_of t.unit ctype)) (act.Narrow d d offset (size_of_type s.structs s.pointer ctype)) (suc d) (suc d)
  narrow_is ctype d offset = subst (λ k. IsAct (op.Narrow offset (size_of t.unit ctype)) (act.Narrow d d offset k) (suc d) (suc d)) (sym (sizes_same t s fits ctype)) (acts.narrow d offset (size_of t.unit ctype))

  pub of_member : (at : Place) (ctype : Ty) (parens : ℕ) (outer : LvalueTree) (offset : ℕ) → AboutPlace s t n outer → AboutPlace s t n (Designates at ctype parens (tree.Member outer offset))
  of_member at ctype parens outer offset about d suits enough =
      addressed s t n (Designates at ctype parens (tree.Member outer offset)) d _ (two_jobs (jobs.Address outer d) (jobs.Ready (at_place at (act.Narrow d d offset (size_of_type s.structs s.pointer ctype)))))
      (one_place s t n outer d (suc d) at (op.Narrow offset (size_of t.unit ctype)) _ (narrow_is ctype d offset) (about d suits enough))

  pub of_copied : (at : Place) (ctype : Ty) (parens : ℕ) (target origin : LvalueTree) → AboutPlace s t n target → AboutPlace s t n origin → AboutPlace s t n (Designates at ctype parens (tree.Copied target origin))
  of_copied at ctype parens target origin first second d suits enough =
      let next = next_fits d (room_of_place target) (room_of_place origin) enough in
      addressed s t n (Designates at ctype parens (tree.Copied target origin)) d _ (three_jobs (jobs.Address target d) (jobs.Address origin (behind d 1)) (jobs.Ready (at_place (lvalue_at target) (act.Copy d (behind d 1) (struct_number (lvalue_type target))))))
      (two_places s t n target origin d (behind d 1) (lvalue_at target) (op.Copy (lvalue_type target)) _ next (copy_is (lvalue_type target) d suits.2 next) (first d suits.0 (first_fits d (room_of_place target) (room_of_place origin) enough)) (second (suc d) suits.1 (second_fits d (room_of_place target) (room_of_place origin) enough)))

  pub of_then : (at : Place) (ctype : Ty) (parens : ℕ) (left : TermTree) (right : LvalueTree) → About s t n left → AboutPlace s t n right → AboutPlace s t n (Designates at ctype parens (tree.Then left right))
  of_then at ctype parens left right first second d suits enough =
      addressed s t n (Designates at ctype parens (tree.Then left right)) d (jobs.Unused left d ∷ (jobs.Address right d ∷ [])) (two_jobs (jobs.Unused left d) (jobs.Address right d))
      (then s t n (jobs.Unused left d ∷ []) (jobs.Address right d ∷ []) (item.Unused left ∷ []) (item.Address right ∷ []) d d (suc d) (first.done d suits.0 (one_fits d (room left) (room_of_place right) enough)) (second d suits.1 (other_fits d (room left) (room_of_place right) enough)))

  -- ---- terms

  module _ (at : Place) (ctype : Ty) (parens : ℕ) (constant : Option ℤ) where
    pub of_number : (m : ℤ) → About s t n (Typed at ctype parens constant (tree.Number m))
    of_number m = plainly (Typed at ctype parens constant (tree.Number m)) refl refl (λ decision p. refl) (λ decision held failed. refl) (λ d. jobs.Ready (at_place at (act.Constant d m (integer_type ctype))) ∷ []) (λ d p none. one_job _ p none) (λ d p. refl) refl (λ x. x)
        (λ d suits enough. does s t n d (suc d) at (op.Constant m) _ (acts.constant d m (integer_type ctype)))

    pub of_sizeof_type : (k : ℕ) (is_pointer : Bool) → About s t n (Typed at ctype parens constant (tree.SizeofType k is_pointer))
    of_sizeof_type k is_pointer = plainly (Typed at ctype parens constant (tree.SizeofType k is_pointer)) refl refl (λ decision p. refl) (λ decision held failed. refl) (λ d. jobs.Ready (at_place at (act.Constant d (pos k) (integer_type ctype))) ∷ []) (λ d p none. one_job _ p none) (λ d p. refl) refl (λ x. x)
        (λ d suits enough. does s t n d (suc d) at (op.Constant (pos k)) _ (acts.constant d (pos k) (integer_type ctype)))

    pub of_sizeof : (k : ℕ) (operand : TermTree) (is_pointer : Bool) → About s t n (Typed at ctype parens constant (tree.Sizeof k operand is_pointer))
    of_sizeof k operand is_pointer = plainly (Typed at ctype parens constant (tree.Sizeof k operand is_pointer)) refl refl (λ decision p. refl) (λ decision held failed. refl) (λ d. jobs.Ready (at_place at (act.Constant d (pos k) (integer_type ctype))) ∷ []) (λ d p none. one_job _ p none) (λ d p. refl) refl (λ x. x)
        (λ d suits enough. does s t n d (suc d) at (op.Constant (pos k)) _ (acts.constant d (pos k) (integer_type ctype)))

    pub of_load : (l : LvalueTree) → AboutPlace s t n l → About s t n (Typed at ctype parens constant (tree.Load l))
    of_load l about = plainly (Typed at ctype parens constant (tree.Load l)) refl refl (λ decision p. refl) (λ decision held failed. refl) (λ d. jobs.Address l d ∷ (jobs.Ready (at_place (lvalue_at l) (act.Load d d (scalar_of (lvalue_type l)))) ∷ [])) (λ d p none. two_jobs _ _ p none) (λ d p. refl) refl (λ x. x)
        (λ d suits enough. one_place s t n l d (suc d) (lvalue_at l) (op.Load (scalar_of (lvalue_type l))) _ (acts.load d (scalar_of (lvalue_type l))) (about d suits enough))

    pub of_address : (l : LvalueTree) → AboutPlace s t n l → About s t n (Typed at ctype parens constant (tree.AddressOf l))
    of_address l about = plainly (Typed at ctype parens constant (tree.AddressOf l)) refl refl (λ decision p. refl) (λ decision held failed. refl) (λ d. jobs.Address l d ∷ []) (λ d p none. one_job _ p none) (λ d p. refl) refl (λ x. x) (λ d suits enough. about d suits enough)

    pub of_struct : (l : LvalueTree) → AboutPlace s t n l → About s t n (Typed at ctype parens constant (tree.Struct l))
    of_struct l about = plainly (Typed at ctype parens constant (tree.Struct l)) refl refl (λ decision p. refl) (λ decision held failed. refl) (λ d. jobs.Address l d ∷ []) (λ d p none. one_job _ p none) (λ d p. refl) refl (λ x. x) (λ d suits enough. about d suits enough)

    pub of_decay : (l : LvalueTree) → AboutPlace s t n l → About s t n (Typed at ctype parens constant (tree.Decay l))
    of_decay l about = plainly (Typed at ctype parens constant (tree.Decay l)) refl refl (λ decision p. refl) (λ decision held failed. refl) (λ d. jobs.Address l d ∷ (jobs.Ready (at_place (lvalue_at l) (act.Narrow d d 0 (size_of_type s.structs s.pointer (lvalue_type l)))) ∷ [])) (λ d p none. two_jobs _ _ p none) (λ d p. refl) refl (λ x. x)
        (λ d suits enough. one_place s t n l d (suc d) (lvalue_at l) (op.Narrow 0 (size_of t.unit (lvalue_type l))) _ (narrow_is (lvalue_type l) d 0) (about d suits enough))

    pub of_plus : (a : TermTree) → About s t n a → About s t n (Typed at ctype parens constant (tree.Plus a))
    of_plus a about = plainly (Typed at ctype parens constant (tree.Plus a)) refl refl (λ decision p. refl) (λ decision held failed. refl) (λ d. jobs.Value a d ∷ []) (λ d p none. one_job _ p none) (λ d p. refl) refl (λ x. x) (λ d suits enough. about.value d suits enough)

    pub of_minus : (a : TermTree) → About s t n a → About s t n (Typed at ctype parens constant (tree.Minus a))
    of_minus a about = plainly (Typed at ctype parens constant (tree.Minus a)) refl refl (λ decision p. refl) (λ decision held failed. refl) (λ d. jobs.Value a d ∷ (jobs.Ready (at_place at (act.Unary d Neg d (integer_type ctype))) ∷ [])) (λ d p none. two_jobs _ _ p none) (λ d p. refl) refl (λ x. x)
        (λ d suits enough. one_operand s t n a d at (op.Unary Neg (integer_type ctype)) _ (acts.unary d Neg (integer_type ctype)) (about.value d suits enough))

    pub of_complement : (a : TermTree) → About s t n a → About s t n (Typed at ctype parens constant (tree.Complement a))
    of_complement a about = plainly (Typed at ctype parens constant (tree.Complement a)) refl refl (λ decision p. refl) (λ decision held failed. refl) (λ d. jobs.Value a d ∷ (jobs.Ready (at_place at (act.Unary d Compl d (integer_type ctype))) ∷ [])) (λ d p none. two_jobs _ _ p none) (λ d p. refl) refl (λ x. x)
        (λ d suits enough. one_operand s t n a d at (op.Unary Compl (integer_type ctype)) _ (acts.unary d Compl (integer_type ctype)) (about.value d suits enough))

    pub of_integers : (sign : BinaryOp) (a b : TermTree) → About s t n a → About s t n b → About s t n (Typed at ctype parens constant (tree.Integer sign a b))
    of_integers sign a b first second = plainly (Typed at ctype parens constant (tree.Integer sign a b)) refl refl (λ decision p. refl) (λ decision held failed. refl) (λ d. jobs.Value a d ∷ (jobs.Value b (behind d 1) ∷ (jobs.Ready (at_place at (integer_act (meaning sign) ctype d)) ∷ []))) (λ d p none. three_jobs _ _ _ p none) (λ d p. refl) refl (λ x. x)
        (λ d suits enough. let next = next_fits d (room a) (room b) enough in two_operands s t n a b d (behind d 1) at (operating (meaning sign) ctype) _ next (integer_is (meaning sign) ctype d next) (first.value d suits.0 (first_fits d (room a) (room b) enough)) (second.value (suc d) suits.1 (second_fits d (room a) (room b) enough)))

    pub of_shift : (back : Bool) (size : ℕ) (a b : TermTree) → About s t n a → About s t n b → About s t n (Typed at ctype parens constant (tree.Shift back size a b))
    of_shift back size a b first second = plainly (Typed at ctype parens constant (tree.Shift back size a b)) refl refl (λ decision p. refl) (λ decision held failed. refl) (λ d. jobs.Value a d ∷ (jobs.Value b (behind d 1) ∷ (jobs.Ready (at_place at (moved_pointer (term_type a) d size back)) ∷ []))) (λ d p none. three_jobs _ _ _ p none) (λ d p. refl) refl (λ x. x)
        (λ d suits enough. let next = next_fits d (room a) (room b) enough in two_operands s t n a b d (behind d 1) at (op.Shift (order_of (term_type a)) size back) _ next (shift_is (term_type a) d size back next) (first.value d suits.0 (first_fits d (room a) (room b) enough)) (second.value (suc d) suits.1 (second_fits d (room a) (room b) enough)))

    pub of_difference : (size : ℕ) (a b : TermTree) → About s t n a → About s t n b → About s t n (Typed at ctype parens constant (tree.Difference size a b))
    of_difference size a b first second = plainly (Typed at ctype parens constant (tree.Difference size a b)) refl refl (λ decision p. refl) (λ decision held failed. refl) (λ d. jobs.Value a d ∷ (jobs.Value b (behind d 1) ∷ (jobs.Ready (at_place at (act.Difference d d (behind d 1) size)) ∷ []))) (λ d p none. three_jobs _ _ _ p none) (λ d p. refl) refl (λ x. x)
        (λ d suits enough. let next = next_fits d (room a) (room b) enough in two_operands s t n a b d (behind d 1) at (op.Difference size) _ next (subst (λ x. IsAct (op.Difference size) (act.Difference d d x size) (suc (suc d)) (suc d)) next (acts.difference d size)) (first.value d suits.0 (first_fits d (room a) (room b) enough)) (second.value (suc d) suits.1 (second_fits d (room a) (room b) enough)))

    -- ---- comparisons of pointers

    compared_runs : (sign : BinaryOp) (a b : TermTree) → About s t n a → About s t n b → (d : ℕ) → Suits t.unit true a × Suits t.unit true b → Fits d (room (Typed at ctype parens constant (tree.Compare sign a b)))
        → Runs s t n (jobs.Value a d ∷ (jobs.Value b (behind d 1) ∷ (jobs.Ready (at_place at (act.ComparePointers d (relation sign) d (behind d 1))) ∷ []))) (item.Value a ∷ (item.Value b ∷ (item.Do at (op.ComparePointers (relation sign)) ∷ []))) d (suc d)
    compared_runs sign a b first second d suits enough =
        let next = next_fits d (room a) (room b) enough in
        two_operands s t n a b d (behind d 1) at (op.ComparePointers (relation sign)) _ next (subst (λ x. IsAct (op.ComparePointers (relation sign)) (act.ComparePointers d (relation sign) d x) (suc (suc d)) (suc d)) next (acts.compare_pointers d (relation sign)))
        (first.value d suits.0 (first_fits d (room a) (room b) enough)) (second.value (suc d) suits.1 (second_fits d (room a) (room b) enough))

    more_room : (args : TermTrees) (k m : ℕ) → k ≤ m → Reads s t n args k → Reads s t n args m
    more_room args k m le reads = record { three = reads.three; few = through (room_of_all args) k m reads.few le; runs = reads.runs }
      where
        through : (a b c : ℕ) → a ≤ b → b ≤ c → a ≤ c
        through a b c x y = omega (arith, x, y)

    -- a call on one of both sides
    beside : (a b : TermTree) → About s t n a → About s t n b → Suits t.unit true a × Suits t.unit true b → (c : LineCallView) (k : ℕ) → room a ≤ k → room b ≤ k → line_call_beside a b ≡ Some c → Reads s t n c.arguments k
    beside a b first second suits c k le_a le_b e = by (is_null_constant b) (is_null_constant a) e
      where
        by : (right left : Bool) → cond right (line_call a) (cond left (line_call b) None) ≡ Some c → Reads s t n c.arguments k
        by true left e = more_room c.arguments (room a) k le_a (first.reads c e suits.0)
        by false true e = more_room c.arguments (room b) k le_b (second.reads c e suits.1)
        by false false e = absurd (some_none c None refl e)

    compared : (sign : BinaryOp) (a b : TermTree) (x : ReadView) → compared_read sign a b ≡ Some x → line_call_beside a b ≡ Some x.call
    compared Equal a b x e = read_from (line_call_beside a b) false x e
    compared NotEqual a b x e = read_from (line_call_beside a b) true x e
    compared other a b x e = absurd (some_none x None refl e)

    left_room : (m k : ℕ) → m ≤ m + (suc k - m)
    left_room m k = omega arith

    right_room : (m k : ℕ) → k ≤ m + (suc k - m)
    right_room m k = omega arith

    pub of_compare : (sign : BinaryOp) (a b : TermTree) → About s t n a → About s t n b → About s t n (Typed at ctype parens constant (tree.Compare sign a b))
    of_compare sign a b first second =
        let e = Typed at ctype parens constant (tree.Compare sign a b) in
        let js : ℕ → List Job = λ d. jobs.Value a d ∷ (jobs.Value b (behind d 1) ∷ (jobs.Ready (at_place at (act.ComparePointers d (relation sign) d (behind d 1))) ∷ [])) in
        let value : (d : ℕ) → Suits t.unit true e → Fits d (room e) → Valued s t n e d = λ d suits enough. valued s t n e d (js d) (λ p none. three_jobs _ _ _ p none) (compared_runs sign a b first second d suits enough) in
        record {
          value = value;
          done = λ d suits enough. done s t n e d (js d) (λ p none. three_jobs _ _ _ p none) (dropped s t n (js d) _ d (compared_runs sign a b first second d suits enough));
          decided = λ decision suits enough. leaf_decided s t fits n e decision (λ p. refl) (λ held failed. refl) enough (λ none. value decision.depth suits enough)
              (λ x is. beside a b first second suits x.call (room e) (left_room (room a) (room b)) (right_room (room a) (room b)) (compared sign a b x is));
          reads = λ c is suits. absurd (some_none c None refl is);
        }

    -- ---- conversions

    converted_runs : (a : TermTree) → About s t n a → (d : ℕ) → Suits t.unit true a → Fits d (room a) → Runs s t n (jobs.Value a d ∷ (jobs.Ready (at_place at (act.Convert d d (scalar_of (term_type a)) (scalar_of ctype))) ∷ [])) (item.Value a ∷ (item.Do at (op.Convert (scalar_of ctype)) ∷ [])) d (suc d)
    converted_runs a about d suits enough = one_operand s t n a d at (op.Convert (scalar_of ctype)) _ (acts.convert d (scalar_of (term_type a)) (scalar_of ctype)) (about.value d suits enough)

    pub of_cast : (a : TermTree) → About s t n a → About s t n (Typed at ctype parens constant (tree.Convert Cast a))
    of_cast a about = plainly (Typed at ctype parens constant (tree.Convert Cast a)) refl refl (λ decision p. refl) (λ decision held failed. refl) (λ d. jobs.Value a d ∷ (jobs.Ready (at_place at (act.Convert d d (scalar_of (term_type a)) (scalar_of ctype))) ∷ [])) (λ d p none. two_jobs _ _ p none) (λ d p. refl) refl (λ x. x)
        (λ d suits enough. converted_runs a about d suits enough)

    pub of_conversion : (a : TermTree) → About s t n a → About s t n (Typed at ctype parens constant (tree.Convert Implicit a))
    of_conversion a about =
        let e = Typed at ctype parens constant (tree.Convert Implicit a) in
        let js : ℕ → List Job = λ d. jobs.Value a d ∷ (jobs.Ready (at_place at (act.Convert d d (scalar_of (term_type a)) (scalar_of ctype))) ∷ []) in
        let value : (d : ℕ) → Suits t.unit true e → Fits d (room e) → Valued s t n e d = λ d suits enough. valued s t n e d (js d) (λ p none. two_jobs _ _ p none) (converted_runs a about d suits enough) in
        record {
          value = value;
          done = λ d suits enough. done s t n e d (js d) (λ p none. two_jobs _ _ p none) (dropped s t n (js d) _ d (converted_runs a about d suits enough));
          decided = λ decision suits enough. leaf_decided s t fits n e decision (λ p. refl) (λ held failed. refl) enough (λ none. value decision.depth suits enough) (λ x is. about.reads x.call (read_from (line_call a) true x is) suits);
          reads = about.reads;
        }

    -- ---- terms of two parts, of which the first one has no value

    pub of_discard : (a : TermTree) → About s t n a → About s t n (Typed at ctype parens constant (tree.Discard a))
    of_discard a about =
        let e = Typed at ctype parens constant (tree.Discard a) in
        plain e refl refl (λ decision p. refl) (λ decision held failed. refl) (λ d suits enough. absurd suits) (λ d suits enough. done s t n e d (jobs.Unused a d ∷ []) (λ p none. one_job _ p none) (about.done d suits enough))

    pub of_comma : (a b : TermTree) → About s t n a → About s t n b → About s t n (Typed at ctype parens constant (tree.Comma a b))
    of_comma a b first second =
        let e = Typed at ctype parens constant (tree.Comma a b) in
        plain e refl refl (λ decision p. refl) (λ decision held failed. refl)
        (λ d suits enough. valued s t n e d (jobs.Unused a d ∷ (jobs.Value b d ∷ [])) (λ p none. two_jobs _ _ p none)
        (then s t n (jobs.Unused a d ∷ []) (jobs.Value b d ∷ []) (item.Unused a ∷ []) (item.Value b ∷ []) d d (suc d) (first.done d suits.0 (one_fits d (room a) (room b) enough)) (second.value d suits.1 (other_fits d (room a) (room b) enough))))
        (λ d suits enough. done s t n e d (jobs.Unused a d ∷ (jobs.Unused b d ∷ [])) (λ p none. two_jobs _ _ p none)
        (then s t n (jobs.Unused a d ∷ []) (jobs.Unused b d ∷ []) (item.Unused a ∷ []) (item.Unused b ∷ []) d d d (first.done d suits.0 (one_fits d (room a) (room b) enough)) (second.done d suits.1 (other_fits d (room a) (room b) enough))))
