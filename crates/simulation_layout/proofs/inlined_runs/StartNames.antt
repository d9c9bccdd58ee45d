-- Which instances bases name when a run begins.
use Rattle.std.proofs.Common.{◌≡◌, ◌<◌, ◌≤◌, ◌⊎◌, inl, inr, ℕ, zero, suc, ◌+◌, Bool, true, false, nat_lt, min, List, [], ◌∷◌, ◌++◌, length, take, Option, Some, None, refl, arith, ap, sym, subst, ◌∙◌}
use Rattle.std.specs.List.{slice_get}
use Rattle.std.proofs.lemmas.Bool.{ltb-true, ltb-false}
use Rattle.c_layout.specs.CheckedUnits.{FunctionView, LocalView, StaticView, LiteralView, UnitView}
use Rattle.c_layout.specs.declared.checked_tree.checked_units.StaticBase.TheVariants as shared
use Rattle.cfg.specs.declared.programs.ParameterInput.{ParameterInput}
use Rattle.memory_model.specs.Effects.NumberedTables.{put_at, empty_table}
use Rattle.memory_model.specs.Effects.UnitStarts.{literal_instance, parameter_instance, base_instance}
use Rattle.lower_templates.specs.Views.ProgramViews.{InitialView}
use Rattle.semantics.specs.CfgMachine.FlowStarts.{Names, name_object, name_objects, name_parameters}
use Rattle.semantics.specs.SourceMachine.SourceRuns as source
use Rattle.lower_tables.specs.Bases.BaseTables.{TableView, known}
use Rattle.lower_tables.specs.Bases.InitialBytes.{initial_object, initial_literal, objects_from, literals_from}
use Rattle.lower.specs.Inlining.Lowerings.{input, inputs}
use Rattle.simulation_layout.proofs.inlining.ListPlaces.{some_same, one_longer}
use Rattle.simulation_layout.proofs.inlined_layout.ShiftedValues as tables
use Rattle.simulation_layout.proofs.inlined_layout.ShiftedValues.{Compared, compared}

module _ (u : UnitView) where
  pub in_turn : (xs ys : List InitialView) (names : Names) → name_objects u (xs ++ ys) names ≡ name_objects u ys (name_objects u xs names)
  in_turn [] ys names = refl
  in_turn (x ∷ xs) ys names = in_turn xs ys (name_object u x x.base names)

  -- ---- one initial object

  named_here : (x : InitialView) (k : ℕ) (names : Names) → x.base ≡ Some k → name_object u x x.base names k ≡ Some (base_instance u x.object)
  named_here x k names is = ap (λ b. name_object u x b names k) is ∙ tables.set_here names k k (Some (base_instance u x.object)) refl

  named_elsewhere : (x : InitialView) (k : ℕ) (names : Names) → (x.base ≡ Some k → ⊥) → name_object u x x.base names k ≡ names k
  named_elsewhere x k names other = by x.base other
    where
      by : (b : Option ℕ) → (b ≡ Some k → ⊥) → name_object u x b names k ≡ names k
      by None other = refl
      by (Some b) other = tables.set_elsewhere names b k (Some (base_instance u x.object)) (λ e. other (ap Some (sym e)))

  -- ---- objects of static storage

  pub objects_miss : (b : TableView) (i : ℕ) (os : List StaticView) (names : Names) (k : ℕ) → ((n : ℕ) → i ≤ n → known b.objects n ≡ Some k → ⊥) → name_objects u (objects_from u b i os) names k ≡ names k
  objects_miss b i [] names k none = refl
  objects_miss b i (o ∷ os) names k none =
      objects_miss b (i + 1) os _ k (λ n le is. none n (less n le) is) ∙ named_elsewhere (initial_object u b i o) k names (λ is. none i (same i) is)
    where
      less : (n : ℕ) → i + 1 ≤ n → i ≤ n
      less n le = omega (arith, le)

      same : (i : ℕ) → i ≤ i
      same i = omega arith

  pub objects_hit : (b : TableView) (i : ℕ) (os : List StaticView) (names : Names) (n k : ℕ) → ((m : ℕ) → known b.objects m ≡ Some k → m ≡ n) → i ≤ n → n < i + length os → known b.objects n ≡ Some k → name_objects u (objects_from u b i os) names k ≡ Some n
  objects_hit b i [] names n k once le less is = absurd (omega (arith, le, less))
  objects_hit b i (o ∷ os) names n k once le less is = by (compared n i) (λ more. objects_hit b (i + 1) os _ n k once more (omega (arith, less)) is)
    where
      past : (m : ℕ) → i + 1 ≤ m → m ≡ n → n ≡ i → ⊥
      past m le e f = omega (arith, le, e, f)

      more : (n ≡ i → ⊥) → i + 1 ≤ n
      more apart = omega (arith, le, apart)

      by : Compared n i → (i + 1 ≤ n → name_objects u (objects_from u b (i + 1) os) (name_object u (initial_object u b i o) (initial_object u b i o).base names) k ≡ Some n) → name_objects u (objects_from u b i (o ∷ os)) names k ≡ Some n
      by (tables.same e) rest = objects_miss b (i + 1) os _ k (λ m le there. past m le (once m there) e) ∙ named_here (initial_object u b i o) k names (ap (known b.objects) (sym e) ∙ is) ∙ ap Some (sym e)
      by (tables.other apart) rest = rest (more apart)

  -- ---- literals

  pub literals_miss : (b : TableView) (i : ℕ) (ls : List LiteralView) (names : Names) (k : ℕ) → ((n : ℕ) → i ≤ n → known b.literals n ≡ Some k → ⊥) → name_objects u (literals_from b i ls) names k ≡ names k
  literals_miss b i [] names k none = refl
  literals_miss b i (l ∷ ls) names k none =
      literals_miss b (i + 1) ls _ k (λ n le is. none n (less n le) is) ∙ named_elsewhere (initial_literal b i l) k names (λ is. none i (same i) is)
    where
      less : (n : ℕ) → i + 1 ≤ n → i ≤ n
      less n le = omega (arith, le)

      same : (i : ℕ) → i ≤ i
      same i = omega arith

  pub literals_hit : (b : TableView) (i : ℕ) (ls : List LiteralView) (names : Names) (n k : ℕ) → ((m : ℕ) → known b.literals m ≡ Some k → m ≡ n) → i ≤ n → n < i + length ls → known b.literals n ≡ Some k → name_objects u (literals_from b i ls) names k ≡ Some (literal_instance u n)
  literals_hit b i [] names n k once le less is = absurd (omega (arith, le, less))
  literals_hit b i (l ∷ ls) names n k once le less is = by (compared n i) (λ more. literals_hit b (i + 1) ls _ n k once more (omega (arith, less)) is)
    where
      past : (m : ℕ) → i + 1 ≤ m → m ≡ n → n ≡ i → ⊥
      past m le e f = omega (arith, le, e, f)

      more : (n ≡ i → ⊥) → i + 1 ≤ n
      more apart = omega (arith, le, apart)

      by : Compared n i → (i + 1 ≤ n → name_objects u (literals_from b (i + 1) ls) (name_object u (initial_literal b i l) (initial_literal b i l).base names) k ≡ Some (literal_instance u n)) → name_objects u (literals_from b i (l ∷ ls)) names k ≡ Some (literal_instance u n)
      by (tables.same e) rest = literals_miss b (i + 1) ls _ k (λ m le there. past m le (once m there) e) ∙ named_here (initial_literal b i l) k names (ap (known b.literals) (sym e) ∙ is) ∙ ap (λ j. Some (literal_instance u j)) (sym e)
      by (tables.other apart) rest = rest (more apart)

  -- ---- parameters

  -- the bases of parameters have the numbers from one on
  abbrev pub BasesFrom : ℕ → List ParameterInput → Type 0
  BasesFrom i [] = Unit {0}
  BasesFrom i (p ∷ ps) = (p.base ≡ i) × BasesFrom (suc i) ps

  one_more : (i : ℕ) (ps : List ParameterInput) (p : ParameterInput) → BasesFrom i ps → p.base ≡ i + length ps → BasesFrom i (ps ++ p ∷ [])
  one_more i [] p from is = (is ∙ none i, tt)
    where
      none : (i : ℕ) → i + 0 ≡ i
      none i = omega arith
  one_more i (q ∷ qs) p (here, from) is = (here, one_more (suc i) qs p from (is ∙ more i (length qs)))
    where
      more : (i k : ℕ) → i + suc k ≡ suc i + k
      more i k = omega arith

  pub count_inputs : (f : FunctionView) (n : ℕ) → length (inputs f n) ≡ n
  count_inputs f zero = refl
  count_inputs f (suc n) = one_longer (inputs f n) (input f n) ∙ ap suc (count_inputs f n)

  pub inputs_from : (f : FunctionView) (n : ℕ) → BasesFrom 0 (inputs f n)
  inputs_from f zero = tt
  inputs_from f (suc n) = one_more 0 (inputs f n) (input f n) (inputs_from f n) (at n (length (inputs f n)) (count_inputs f n))
    where
      at : (n k : ℕ) → k ≡ n → n ≡ 0 + k
      at n k e = omega (arith, e)

  pub parameters_miss : (i : ℕ) (ps : List ParameterInput) (names : Names) (k : ℕ) → BasesFrom i ps → (k < i) ⊎ (i + length ps ≤ k) → name_parameters u i ps names k ≡ names k
  parameters_miss i [] names k from out = refl
  parameters_miss i (p ∷ ps) names k (here, from) out = parameters_miss (suc i) ps _ k from (next out) ∙ tables.set_elsewhere names p.base k (Some (parameter_instance u i)) (λ e. apart out (e ∙ here))
    where
      apart : (k < i) ⊎ (i + suc (length ps) ≤ k) → k ≡ i → ⊥
      apart (inl less) e = omega (arith, less, e)
      apart (inr le) e = omega (arith, le, e)

      next : (k < i) ⊎ (i + suc (length ps) ≤ k) → (k < suc i) ⊎ (suc i + length ps ≤ k)
      next (inl less) = inl (omega (arith, less))
      next (inr le) = inr (omega (arith, le))

  pub parameters_hit : (i : ℕ) (ps : List ParameterInput) (names : Names) (k : ℕ) → BasesFrom i ps → i ≤ k → k < i + length ps → name_parameters u i ps names k ≡ Some (parameter_instance u k)
  parameters_hit i [] names k from le less = absurd (omega (arith, le, less))
  parameters_hit i (p ∷ ps) names k (here, from) le less = by (compared k i) (λ more. parameters_hit (suc i) ps _ k from more (omega (arith, less)))
    where
      before : k ≡ i → k < suc i
      before e = omega (arith, e)

      more : (k ≡ i → ⊥) → suc i ≤ k
      more apart = omega (arith, le, apart)

      by : Compared k i → (suc i ≤ k → name_parameters u (suc i) ps (put_at names p.base (parameter_instance u i)) k ≡ Some (parameter_instance u k)) → name_parameters u i (p ∷ ps) names k ≡ Some (parameter_instance u k)
      by (tables.same e) rest = parameters_miss (suc i) ps _ k from (inl (before e)) ∙ tables.set_here names p.base k (Some (parameter_instance u i)) (e ∙ sym here) ∙ ap (λ j. Some (parameter_instance u j)) (sym e)
      by (tables.other apart) rest = rest (more apart)

  -- those of the source
  pub source_miss : (i : ℕ) (ls : List LocalView) (k : ℕ) → (k < i) ⊎ (i + length ls ≤ k) → source.name_parameters u i ls k ≡ None
  source_miss i [] k out = refl
  source_miss i (l ∷ ls) k out = tables.set_elsewhere (source.name_parameters u (suc i) ls) i k (Some (parameter_instance u i)) (apart out) ∙ source_miss (suc i) ls k (next out)
    where
      apart : (k < i) ⊎ (i + suc (length ls) ≤ k) → k ≡ i → ⊥
      apart (inl less) e = omega (arith, less, e)
      apart (inr le) e = omega (arith, le, e)

      next : (k < i) ⊎ (i + suc (length ls) ≤ k) → (k < suc i) ⊎ (suc i + length ls ≤ k)
      next (inl less) = inl (omega (arith, less))
      next (inr le) = inr (omega (arith, le))

  pub source_hit : (i : ℕ) (ls : List LocalView) (k : ℕ) → i ≤ k → k < i + length ls → source.name_parameters u i ls k ≡ Some (parameter_instance u k)
  source_hit i [] k le less = absurd (omega (arith, le, less))
  source_hit i (l ∷ ls) k le less = by (compared k i) (λ more. source_hit (suc i) ls k more (omega (arith, less)))
    where
      more : (k ≡ i → ⊥) → suc i ≤ k
      more apart = omega (arith, le, apart)

      by : Compared k i → (suc i ≤ k → source.name_parameters u (suc i) ls k ≡ Some (parameter_instance u k)) → source.name_parameters u i (l ∷ ls) k ≡ Some (parameter_instance u k)
      by (tables.same e) rest = tables.set_here (source.name_parameters u (suc i) ls) i k (Some (parameter_instance u i)) e ∙ ap (λ j. Some (parameter_instance u j)) (sym e)
      by (tables.other apart) rest = tables.set_elsewhere (source.name_parameters u (suc i) ls) i k (Some (parameter_instance u i)) apart ∙ rest (more apart)

pub take_length : {A : Type 0} (n : ℕ) (xs : List A) → n ≤ length xs → length (take n xs) ≡ n
take_length zero xs le = refl
take_length (suc n) [] le = absurd (omega (arith, le))
take_length (suc n) (x ∷ xs) le = ap suc (take_length n xs (omega (arith, le)))
