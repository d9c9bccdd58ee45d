-- The edge that is taken with a value is that of its label.
use Rattle.std.proofs.Common.{◌≡◌, ℕ, suc, ◌+◌, ℤ, Bool, true, false, not, cond, ◌||◌, List, [], ◌∷◌, ◌++◌, Option, Some, None, refl, arith, ap, sym, subst, ◌∙◌}
use Rattle.std.specs.Ordering.{int_eq}
use Rattle.std.proofs.lemmas.Bool.Decides.{Decides-int_eq}
use Rattle.std.proofs.lemmas.Cmp.{int_eq_equiv}
use Rattle.c_layout.specs.declared.checked_tree.checked_statements.CaseLabel.{CaseLabel}
use Rattle.memory_model.specs.Memory.Labels.{Labels}
use Rattle.memory_model.specs.Memory.Scalars.{integer}
use Rattle.lower_templates.specs.Worklist.Pieces.{Case, Other, ExitView}
use Rattle.lower_functions.specs.Statements.Switches.{case_exits, dispatch_exits, values}
use Rattle.lower_functions.specs.declared.statements.switch_statements.CaseArm.{CaseArm}
use Rattle.semantics.specs.CfgMachine.FlowEdges.{is_among}
use Rattle.semantics.specs.SourceMachine.LabelSearch.{Sought, case, case_of}
use Rattle.semantics.specs.TemplateMachine.TemplateExits.{exit_taken}
use Rattle.simulation_statements.specs.Switches.ValueEdges.{AreArms, HasEdge, of_case, of_none}

same_number : (a b : ℤ) → int_eq a b ≡ true → a ≡ b
same_number a b e = (Decides-int_eq a b).0 e

swapped : (a b : ℤ) → int_eq a b ≡ int_eq b a
swapped a b = int_eq_equiv.symm a b

no_more : (n : ℕ) → n + 0 ≡ n
no_more n = omega arith

one_on : (n i : ℕ) → (n + 1) + i ≡ n + suc i
one_on n i = omega arith

module _ (object : Option ℕ) (fallback : ℕ) (all : List ℤ) (value : ℤ) where
  -- the edges of some arms, and the one of all other values
  abbrev edges : List CaseArm → List ExitView
  edges arms = case_exits arms object ++ record { to = fallback; taken = Other all } ∷ []

  -- behind a case of another value
  passed_by : (a : CaseArm) (arms : List CaseArm) (n : ℕ) (l : Sought) → int_eq value a.value ≡ false → HasEdge arms object fallback all (n + 1) value (edges arms) l → HasEdge (a ∷ arms) object fallback all n value (edges (a ∷ arms)) l
  passed_by a arms n _ differs (of_case i b there takes) =
      subst (λ k. HasEdge (a ∷ arms) object fallback all n value (edges (a ∷ arms)) (case k)) (sym (one_on n i))
      (of_case (suc i) b there (λ marks. ap (λ c. cond c (Some (record { to = a.to; taken = Case (record { value = a.value; object = object }) })) (exit_taken (integer value marks) (edges arms))) differs ∙ takes marks))
  passed_by a arms n _ differs (of_none takes) =
      of_none (λ marks. ap (λ c. cond c (Some (record { to = a.to; taken = Case (record { value = a.value; object = object }) })) (exit_taken (integer value marks) (edges arms))) differs ∙ takes marks)

  -- at a case, which has the value or not
  at_case : (c : CaseLabel) (a : CaseArm) (cases : List CaseLabel) (arms : List CaseArm) (n : ℕ) (b : Bool) → a.value ≡ c.value → int_eq c.value value ≡ b → (int_eq value c.value ≡ false → HasEdge arms object fallback all (n + 1) value (edges arms) (case_of cases (n + 1) value)) → HasEdge (a ∷ arms) object fallback all n value (edges (a ∷ arms)) (cond b (case n) (case_of cases (n + 1) value))
  at_case c a cases arms n true same e later =
      let is : a.value ≡ value = same ∙ same_number c.value value e in
      subst (λ k. HasEdge (a ∷ arms) object fallback all n value (edges (a ∷ arms)) (case k)) (no_more n)
      (of_case 0 a refl (λ marks.
      ap (λ v. cond (int_eq value v) (Some (record { to = a.to; taken = Case (record { value = v; object = object }) })) (exit_taken (integer value marks) (edges arms))) is
      ∙ ap (λ c. cond c (Some (record { to = a.to; taken = Case (record { value = value; object = object }) })) (exit_taken (integer value marks) (edges arms))) ((Decides-int_eq value value).1 refl)))
  at_case c a cases arms n false same e later =
      let differs : int_eq value c.value ≡ false = swapped value c.value ∙ e in
      passed_by a arms n (case_of cases (n + 1) value) (ap (int_eq value) same ∙ differs) (later differs)

  -- from some case on, where none before it has the value
  pub from_case : (n : ℕ) (cases : List CaseLabel) (arms : List CaseArm) → AreArms cases arms → ((marks : Labels) → is_among (integer value marks) all ≡ is_among (integer value marks) (values cases)) → HasEdge arms object fallback all n value (edges arms) (case_of cases n value)
  from_case n [] [] are among = of_none (λ marks. ap (λ c. cond (not c) (Some (record { to = fallback; taken = Other all })) None) (among marks))
  from_case n [] (a ∷ arms) are among = absurd are
  from_case n (c ∷ cases) [] are among = absurd are
  from_case n (c ∷ cases) (a ∷ arms) are among = at_case c a cases arms n (int_eq c.value value) are.0 refl (λ differs. from_case (n + 1) cases arms are.1 (λ marks. among marks ∙ ap (λ b. b || is_among (integer value marks) (values cases)) differs))

pub has_edge : (cases : List CaseLabel) (arms : List CaseArm) (object : Option ℕ) (fallback : ℕ) → AreArms cases arms → (value : ℤ) → HasEdge arms object fallback (values cases) 0 value (dispatch_exits arms cases object fallback) (case_of cases 0 value)
has_edge cases arms object fallback are value = from_case object fallback (values cases) value 0 cases arms are (λ marks. refl)
