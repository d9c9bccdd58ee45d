-- Which instances the bases name when a run begins.
use Rattle.std.proofs.Common.{◌≡◌, ℕ, zero, suc, ◌+◌, Bool, true, false, Option, Some, None, List, [], ◌∷◌, arith, subst, sym, refl, ap, ◌∙◌, ◌⊎◌, inl, inr}
use Rattle.std.specs.Prelude.{slice_get, ◌==◌}
use Rattle.std.proofs.lemmas.Bool.{eqb-true}
use Rattle.std.proofs.lemmas.Option.{same_Some}
use Rattle.c_layout.specs.CheckedUnits.{UnitView}
use Rattle.cfg.specs.declared.programs.ParameterInput.{ParameterInput}
use Rattle.lower_templates.specs.Views.ProgramViews.{InitialView}
use Rattle.semantics.specs.CfgMachine.FlowStarts.{Names, name_object, name_objects, name_parameters}
use Rattle.memory_model.specs.Effects.NumberedTables.{set_at, put_at}
use Rattle.memory_model.specs.Effects.UnitStarts.{base_instance, parameter_instance}

none_there : {A : Type 0} (x : A) (k : ℕ) → slice_get [] k ≡ Some x → ⊥
none_there x k e = cc

put_same : {A : Type 0} (f : ℕ → Option A) (n : ℕ) (x : A) → put_at f n x n ≡ Some x
put_same f n x = let e : (n == n) ≡ true = grind arith in rw (set_at, e) refl

-- another number is asked for, or what was put there is found
put_cases : {A : Type 0} (f : ℕ → Option A) (n m : ℕ) (x y : A) → put_at f n x m ≡ Some y → (f m ≡ Some y) ⊎ ((m ≡ n) × (x ≡ y))
put_cases f n m x y e = by_same (m == n) refl e
  where
    by_same : (b : Bool) → (m == n) ≡ b → put_at f n x m ≡ Some y → (f m ≡ Some y) ⊎ ((m ≡ n) × (x ≡ y))
    by_same true is e = inr (eqb-true m n is, same_Some x y (rw (set_at, is) at e))
    by_same false is e = inl (rw (set_at, is) at e)

put_stays : {A : Type 0} (f : ℕ → Option A) (n m : ℕ) (x y : A) → f m ≡ Some y → (m ≡ n → x ≡ y) → put_at f n x m ≡ Some y
put_stays f n m x y there same = by_same (m == n) refl
  where
    by_same : (b : Bool) → (m == n) ≡ b → put_at f n x m ≡ Some y
    by_same true is = rw (set_at, is) (ap Some (same (eqb-true m n is)))
    by_same false is = rw (set_at, is) there

module _ (u : UnitView) where
  -- ---- objects and literals

  -- an object of the list has the base and the instance
  pub record IsListed (os : List InitialView) (b i : ℕ) : Type 0 where
    pub at : ℕ
    pub view : InitialView
    pub among : slice_get os at ≡ Some view
    pub base : view.base ≡ Some b
    pub instance : base_instance u view.object ≡ i

  later : (o : InitialView) (os : List InitialView) (b i : ℕ) → IsListed os b i → IsListed (o ∷ os) b i
  later o os b i h = record { at = suc h.at; view = h.view; among = h.among; base = h.base; instance = h.instance }

  pub objects_named : (os : List InitialView) (names : Names) (b i : ℕ) → name_objects u os names b ≡ Some i → (names b ≡ Some i) ⊎ IsListed os b i
  objects_named [] names b i e = inl e
  objects_named (o ∷ os) names b i e = elim (objects_named os (name_object u o o.base names) b i e) [
    | inl h ↦ by_base o.base refl h
    | inr h ↦ inr (later o os b i h)
  ]
    where
      by_base : (base : Option ℕ) → o.base ≡ base → name_object u o base names b ≡ Some i → (names b ≡ Some i) ⊎ IsListed (o ∷ os) b i
      by_base None is h = inl h
      by_base (Some a) is h = elim (put_cases names a b (base_instance u o.object) i h) [
        | inl before ↦ inl before
        | inr now ↦ inr (record { at = 0; view = o; among = refl; base = is ∙ ap Some (sym now.0); instance = now.1 })
      ]

  -- each object of the list that has the base has the instance
  abbrev pub AreOne : List InitialView → ℕ → ℕ → Type 0
  AreOne os b i = (k : ℕ) (v : InitialView) → slice_get os k ≡ Some v → v.base ≡ Some b → base_instance u v.object ≡ i

  object_put : (o : InitialView) (base : Option ℕ) (names : Names) (b i : ℕ) → names b ≡ Some i → (base ≡ Some b → base_instance u o.object ≡ i) → name_object u o base names b ≡ Some i
  object_put o None names b i there one = there
  object_put o (Some a) names b i there one = put_stays names a b (base_instance u o.object) i there (λ e. one (ap Some (sym e)))

  objects_stay : (os : List InitialView) (names : Names) (b i : ℕ) → names b ≡ Some i → AreOne os b i → name_objects u os names b ≡ Some i
  objects_stay [] names b i there one = there
  objects_stay (o ∷ os) names b i there one = objects_stay os (name_object u o o.base names) b i (object_put o o.base names b i there (λ e. one 0 o refl e)) (λ k v h e. one (suc k) v h e)

  pub objects_there : (os : List InitialView) (names : Names) (b i : ℕ) → IsListed os b i → AreOne os b i → name_objects u os names b ≡ Some i
  objects_there os names b i h one = go os names h.at h.view h.among h.base h.instance one
    where
      go : (os : List InitialView) (names : Names) (k : ℕ) (v : InitialView) → slice_get os k ≡ Some v → v.base ≡ Some b → base_instance u v.object ≡ i → AreOne os b i → name_objects u os names b ≡ Some i
      go [] names k v e base is one = absurd (none_there v k e)
      go (o ∷ os) names zero v e base is one =
          let same : o ≡ v = same_Some o v e in
          let has : o.base ≡ Some b = ap (λ z. z.base) same ∙ base in
          let here : name_object u o o.base names b ≡ Some i = subst (λ z. name_object u o z names b ≡ Some i) (sym has) (put_same names b (base_instance u o.object) ∙ ap Some (ap (λ z. base_instance u z.object) same ∙ is)) in
          objects_stay os (name_object u o o.base names) b i here (λ k w h f. one (suc k) w h f)
      go (o ∷ os) names (suc k) v e base is one = go os (name_object u o o.base names) k v e base is (λ j w h f. one (suc j) w h f)

  -- ---- parameters

  -- a parameter of the list, which are numbered from a number on, has the base and the instance
  pub record IsGiven (n : ℕ) (ps : List ParameterInput) (b i : ℕ) : Type 0 where
    pub at : ℕ
    pub parameter : ParameterInput
    pub among : slice_get ps at ≡ Some parameter
    pub base : parameter.base ≡ b
    pub instance : parameter_instance u (n + at) ≡ i

  pub parameters_named : (n : ℕ) (ps : List ParameterInput) (names : Names) (b i : ℕ) → name_parameters u n ps names b ≡ Some i → (names b ≡ Some i) ⊎ IsGiven n ps b i
  parameters_named n [] names b i e = inl e
  parameters_named n (p ∷ ps) names b i e = elim (parameters_named (suc n) ps (put_at names p.base (parameter_instance u n)) b i e) [
    | inl h ↦ elim (put_cases names p.base b (parameter_instance u n) i h) [
      | inl before ↦ inl before
      | inr now ↦ (let z : n + 0 ≡ n = omega arith in inr (record { at = 0; parameter = p; among = refl; base = sym now.0; instance = ap (parameter_instance u) z ∙ now.1 }))
    ]
    | inr h ↦ (let z : n + suc h.at ≡ suc n + h.at = omega arith in inr (record { at = suc h.at; parameter = h.parameter; among = h.among; base = h.base; instance = ap (parameter_instance u) z ∙ h.instance }))
  ]

  abbrev pub AreOneGiven : ℕ → List ParameterInput → ℕ → ℕ → Type 0
  AreOneGiven n ps b i = (k : ℕ) (p : ParameterInput) → slice_get ps k ≡ Some p → p.base ≡ b → parameter_instance u (n + k) ≡ i

  next_one : (n : ℕ) (p : ParameterInput) (ps : List ParameterInput) (b i : ℕ) → AreOneGiven n (p ∷ ps) b i → AreOneGiven (suc n) ps b i
  next_one n p ps b i one k q h e = let z : suc n + k ≡ n + suc k = omega arith in ap (parameter_instance u) z ∙ one (suc k) q h e

  pub parameters_stay : (n : ℕ) (ps : List ParameterInput) (names : Names) (b i : ℕ) → names b ≡ Some i → AreOneGiven n ps b i → name_parameters u n ps names b ≡ Some i
  parameters_stay n [] names b i there one = there
  parameters_stay n (p ∷ ps) names b i there one =
      let z : n ≡ n + 0 = omega arith in
      parameters_stay (suc n) ps (put_at names p.base (parameter_instance u n)) b i (put_stays names p.base b (parameter_instance u n) i there (λ e. ap (parameter_instance u) z ∙ one 0 p refl (sym e))) (next_one n p ps b i one)

  pub parameters_there : (n : ℕ) (ps : List ParameterInput) (names : Names) (b i : ℕ) → IsGiven n ps b i → AreOneGiven n ps b i → name_parameters u n ps names b ≡ Some i
  parameters_there n ps names b i h one = go n ps names h.at h.parameter h.among h.base h.instance one
    where
      go : (n : ℕ) (ps : List ParameterInput) (names : Names) (k : ℕ) (p : ParameterInput) → slice_get ps k ≡ Some p → p.base ≡ b → parameter_instance u (n + k) ≡ i → AreOneGiven n ps b i → name_parameters u n ps names b ≡ Some i
      go n [] names k p e base is one = absurd (none_there p k e)
      go n (q ∷ ps) names zero p e base is one =
          let same : q ≡ p = same_Some q p e in
          let has : q.base ≡ b = ap (λ z. z.base) same ∙ base in
          let z : n ≡ n + 0 = omega arith in
          parameters_stay (suc n) ps (put_at names q.base (parameter_instance u n)) b i
          (subst (λ a. put_at names a (parameter_instance u n) b ≡ Some i) (sym has) (put_same names b (parameter_instance u n) ∙ ap Some (ap (parameter_instance u) z ∙ is))) (next_one n q ps b i one)
      go n (q ∷ ps) names (suc k) p e base is one =
          let z : suc n + k ≡ n + suc k = omega arith in
          go (suc n) ps (put_at names q.base (parameter_instance u n)) k p e base (ap (parameter_instance u) z ∙ is) (next_one n q ps b i one)
