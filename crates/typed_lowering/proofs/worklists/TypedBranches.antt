-- The values of `&&`, `||` and `?:`, which branch.
use Rattle.std.proofs.Common.{◌≡◌, ◌≤◌, ◌<◌, ℕ, ◌+◌, ℤ, Bool, true, cond, nat_lt, [], Option, Some, None, refl, arith, ap, sym, subst, ◌∙◌}
use Rattle.std.proofs.lemmas.Bool.{and_parts, lt-ltb, le-ltb}
use Rattle.cc_base.specs.declared.diagnostics.Place.{Place}
use Rattle.c_layout.specs.CheckedTrees as tree
use Rattle.c_layout.specs.CheckedTrees.{TermTree, FormTree, Typed}
use Rattle.c_layout.specs.Types.{Ty}
use Rattle.c_layout.specs.declared.syntax_tree.expressions.LogicalOp.{LogicalOp}
use Rattle.c_layout.specs.declared.syntax_tree.expressions.LogicalOp.TheVariants.{And, Or}
use Rattle.lower_expressions.specs.Branches.{logical, conditional}
use Rattle.lower_templates.specs.Worklist.Works as jobs
use Rattle.lower_templates.specs.Worklist.Plans.{Plan, with_labels, begun}
use Rattle.lower_templates.specs.Worklist.Settings.{SettingView}
use Rattle.lower_preconditions.specs.Units.RegularTerms.{is_regular_term}
use Rattle.typed_programs.specs.PlainUnits.PlainTerms.{is_plain_term}
use Rattle.typed_programs.specs.Types.PointedTypes.{IsStorable}
use Rattle.typed_programs.specs.Types.TypedPrograms.{IsKept}
use Rattle.typed_programs.specs.Types.TypedStates.{Temporaries}
use Rattle.memory_model.specs.Effects.NumberedTables.{set_at}
use Rattle.typed_lowering.specs.Conversions.KnownValues.{term_known, below, with_value}
use Rattle.typed_lowering.specs.Conversions.TypedActs as typed
use Rattle.typed_lowering.specs.Conversions.TypedPieces.{State}
use Rattle.typed_lowering.specs.Conversions.TypedTerms.{fits, is_typed_term}
use Rattle.typed_lowering.specs.Conversions.WorkLaws.{IsLookedAt}
use Rattle.typed_lowering.proofs.conversions.KeptKnowledge.{kept_same}
use Rattle.typed_lowering.proofs.worklists.FormGoals.{term_goal, to_goal, arm_goal, plan_arm, known_by_type, integer_known, nothing_asked, fitting}
use Rattle.typed_lowering.proofs.worklists.LowKnowledge.{low_agrees, low_is_low, value_is_low, number_is_low, low_labels, leads_to, first_block, next_block}
use Rattle.typed_lowering.proofs.worklists.Numbers.{IsLookedForm}
use Rattle.typed_lowering.proofs.worklists.KnownTables.{at_most}
use Rattle.typed_lowering.proofs.worklists.PlannedWorks.{Site, Labels, Owns, Planned, plan_value, plan_condition, plan_end, plan_mark, Made}

module _ (c : Site) (waits : Labels → Type 0) (depth : ℕ) (before : Temporaries) (p : Plan) (none : p.jobs ≡ []) where
  abbrev low : Temporaries
  low = below depth before

  -- ---- `&&` and `||`

  -- a label of each operand, and one behind them
  abbrev Operands : Labels → Type 0
  Operands = Owns p.labels (p.labels + 3) (low_labels depth before) waits

  abbrev IsPlanned : State → Plan → Type 0
  IsPlanned m q = Planned c Operands (Some before) (p.labels + 3) m q

  begins : IsPlanned (Some low) (begun p.labels (with_labels 3 p))
  begins = first_block c waits (low_labels depth before) depth 3 3 (at_most 3) before p (λ k less. refl) none (omega arith)

  next : (k : ℕ) (q : Plan) → k < 3 → IsPlanned None q → IsPlanned (Some low) (begun (p.labels + k) q)
  next k q less planned = next_block c waits (low_labels depth before) depth 3 3 (at_most 3) before p (λ k less. refl) k q less planned

  abbrev operand : TermTree → Temporaries
  operand e = with_value depth (term_known e) low

  -- the operand's value is no more asked for
  on : (e : TermTree) (k : ℕ) → k < 3 → (labels : Labels) → Operands labels → IsKept (operand e) (labels (p.labels + k))
  on e k less labels l = leads_to c waits (low_labels depth before) depth 3 3 (at_most 3) before p (λ k less. refl) k (operand e) labels less l (value_is_low depth (term_known e) before)

  -- 0 or 1 is put in its place
  puts : (e : TermTree) (k : ℕ) → k < 3 → (labels : Labels) → Operands labels → IsKept (set_at (operand e) depth None) (labels (p.labels + k))
  puts e k less labels l = leads_to c waits (low_labels depth before) depth 3 3 (at_most 3) before p (λ k less. refl) k (set_at (operand e) depth None) labels less l (number_is_low depth (term_known e) before)

  abbrev IsValue : TermTree → Type 0
  IsValue e = IsLookedAt c.u c.f c.calls (jobs.Value e depth)

  logical_planned : (sign : LogicalOp) (a b : TermTree) → IsValue a → IsValue b → IsPlanned (Some low) (logical sign a b depth p)
  logical_planned And a b x y =
      next 2 _ (omega arith) (plan_end (operand b) _ _ _ (typed.branches depth _ (kept_same (operand b))) (λ labels l. (puts b 2 (omega arith) labels l, (puts b 2 (omega arith) labels l, tt)))
      (plan_value b depth _ y (next 1 _ (omega arith) (plan_end (operand a) _ _ _ (typed.branches depth _ (kept_same (operand a))) (λ labels l. (on a 1 (omega arith) labels l, (puts a 2 (omega arith) labels l, tt))) (plan_value a depth _ x begins)))))
  logical_planned Or a b x y =
      next 2 _ (omega arith) (plan_end (operand b) _ _ _ (typed.branches depth _ (kept_same (operand b))) (λ labels l. (puts b 2 (omega arith) labels l, (puts b 2 (omega arith) labels l, tt)))
      (plan_value b depth _ y (next 1 _ (omega arith) (plan_end (operand a) _ _ _ (typed.branches depth _ (kept_same (operand a))) (λ labels l. (puts a 2 (omega arith) labels l, (on a 1 (omega arith) labels l, tt))) (plan_value a depth _ x begins)))))

  logical_comes : (sign : LogicalOp) (a b : TermTree) (goal : Temporaries) → IsValue a → IsValue b → IsKept low goal → Made c p.labels waits (Some before) (Some goal) (logical sign a b depth p)
  logical_comes sign a b goal x y kept = record { own = low_labels depth before; to = p.labels + 3; comes = record { end = Some low; planned = logical_planned sign a b x y; weaker = kept } }

  -- ---- `?:`

  -- a label of the condition and of each arm, and one behind them, at which the value is known
  abbrev arm_labels : Temporaries → Labels
  arm_labels goal l = cond (nat_lt l (p.labels + 3)) low goal

  fewer : (n k : ℕ) → k < 3 → n + k < n + 3
  fewer n k less = omega (arith, less)

  low_arms : (goal : Temporaries) (k : ℕ) → k < 3 → arm_labels goal (p.labels + k) ≡ low
  low_arms goal k less = ap (λ b. cond b low goal) (lt-ltb (p.labels + k) (p.labels + 3) (fewer p.labels k less))

  module _ (s : SettingView) (used : Bool) (goal : Temporaries) where
    abbrev Arms : Labels → Type 0
    Arms = Owns p.labels (p.labels + 4) (arm_labels goal) waits

    abbrev IsPlannedArm : State → Plan → Type 0
    IsPlannedArm m q = Planned c Arms (Some before) (p.labels + 4) m q

    arms_begin : IsPlannedArm (Some low) (begun p.labels (with_labels 4 p))
    arms_begin = first_block c waits (arm_labels goal) depth 3 4 (omega arith) before p (low_arms goal) none (omega arith)

    next_arm : (k : ℕ) (q : Plan) → k < 3 → IsPlannedArm None q → IsPlannedArm (Some low) (begun (p.labels + k) q)
    next_arm k q less planned = next_block c waits (arm_labels goal) depth 3 4 (omega arith) before p (low_arms goal) k q less planned

    to_arm : (k : ℕ) → k < 3 → (labels : Labels) → Arms labels → IsKept (below depth low) (labels (p.labels + k))
    to_arm k less labels l = leads_to c waits (arm_labels goal) depth 3 4 (omega arith) before p (low_arms goal) k (below depth low) labels less l (low_is_low depth before)

    starts : (n : ℕ) → n ≤ n + 3
    starts n = omega arith

    last : (n : ℕ) → n + 3 < n + 4
    last n = omega arith

    goal_behind : (labels : Labels) → Arms labels → labels (p.labels + 3) ≡ goal
    goal_behind labels l = l.0 (p.labels + 3) (starts p.labels) (last p.labels) ∙ ap (λ b. cond b low goal) (le-ltb (p.labels + 3) (p.labels + 3) (at_most (p.labels + 3)))

    to_goal_label : (known : Temporaries) → IsKept known goal → (labels : Labels) → Arms labels → IsKept known (labels (p.labels + 3))
    to_goal_label known kept labels l = subst (λ z. IsKept known z) (sym (goal_behind labels l)) kept

    from_goal_label : (labels : Labels) → Arms labels → IsKept (labels (p.labels + 3)) goal
    from_goal_label labels l = subst (λ z. IsKept z goal) (sym (goal_behind labels l)) (kept_same goal)

    abbrev IsArm : TermTree → Type 0
    IsArm e = (is_typed_term c.u c.f e ≡ true) × (is_plain_term c.calls e ≡ true) × (is_regular_term c.u c.f used depth e ≡ true)

    conditional_comes : (test a b : TermTree) → IsValue test → IsArm a → IsArm b → IsKept (term_goal used depth a low) goal → IsKept (term_goal used depth b low) goal → Made c p.labels waits (Some before) (Some goal) (conditional s test a b depth used p)
    conditional_comes test a b x y z first second = record {
      own = arm_labels goal;
      to = p.labels + 4;
      comes = record {
        end = Some goal;
        planned = plan_mark goal (p.labels + 3) _ (λ labels l. (to_goal_label (term_goal used depth b low) second labels l, from_goal_label labels l))
            (plan_arm {c = c} used b depth _ z (next_arm 2 _ (omega arith) (plan_end (term_goal used depth a low) _ _ _ (typed.jumps (kept_same (term_goal used depth a low))) (λ labels l. (to_goal_label (term_goal used depth a low) first labels l, tt))
            (plan_arm {c = c} used a depth _ y (next_arm 1 _ (omega arith) (plan_condition test _ _ x (λ labels l. (to_arm 1 (omega arith) labels l, to_arm 2 (omega arith) labels l)) arms_begin))))));
        weaker = kept_same goal;
      };
    }

-- ---- terms

module _ (c : Site) (waits : Labels → Type 0) (s : SettingView) (at : Place) (t : Ty) (parens : ℕ) (constant : Option ℤ) (depth : ℕ) (used : Bool) (before : Temporaries) (p : Plan) (none : p.jobs ≡ []) where
  abbrev e_of : FormTree → TermTree
  e_of form = Typed at t parens constant form

  abbrev Behind : FormTree → Temporaries
  Behind form = term_goal used depth (e_of form) before

  pub logical_made : (sign : LogicalOp) (a b : TermTree) → IsLookedForm c used depth at t parens constant (tree.Logical sign a b) → Made c p.labels waits (Some before) (Some (Behind (tree.Logical sign a b))) (logical sign a b depth p)
  logical_made sign a b looked =
      let x = and_parts _ _ looked.0 in let y = and_parts _ _ x.1 in let plain = and_parts _ _ looked.1 in let regular = and_parts _ _ looked.2 in
      logical_comes c waits depth before p none sign a b (Behind (tree.Logical sign a b)) (y.0, plain.0, regular.0) (y.1, plain.1, regular.1)
      (to_goal used depth (e_of (tree.Logical sign a b)) (below depth before) before (low_agrees depth before) (nothing_asked _ _ (integer_known at parens constant t (tree.Logical sign a b) refl x.0)))

  pub conditional_made : (test a b : TermTree) → IsLookedForm c used depth at t parens constant (tree.Conditional test a b) → Made c p.labels waits (Some before) (Some (Behind (tree.Conditional test a b))) (conditional s test a b depth used p)
  conditional_made test a b looked =
      let x = and_parts _ _ looked.0 in let y = and_parts _ _ x.1 in let first = and_parts _ _ y.0 in let second = and_parts _ _ y.1 in
      let plain = and_parts _ _ looked.1 in let plain_arms = and_parts _ _ plain.1 in let regular = and_parts _ _ looked.2 in let regular_arms = and_parts _ _ regular.1 in
      conditional_comes c waits depth before p none s used (Behind (tree.Conditional test a b)) test a b (x.0, plain.0, regular.0) (first.0, plain_arms.0, regular_arms.0) (second.0, plain_arms.1, regular_arms.1) (fits_goal a first.1) (fits_goal b second.1)
    where
      fits_goal : (arm : TermTree) → fits t arm ≡ true → IsKept (term_goal used depth arm (below depth before)) (Behind (tree.Conditional test a b))
      fits_goal arm is = arm_goal used depth (e_of (tree.Conditional test a b)) arm (below depth before) before (low_agrees depth before) (subst (λ z. IsStorable z (term_known arm)) (sym (known_by_type at parens constant t (tree.Conditional test a b) refl)) (fitting t arm is))
