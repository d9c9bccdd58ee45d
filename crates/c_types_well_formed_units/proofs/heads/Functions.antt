-- The functions that were declared: each that is defined is at its number with its head, and each other one is to come.
use Rattle.std.proofs.Common.{◌≡◌, ◌<◌, ◌≤◌, ◌+◌, ◌⊎◌, inl, inr, ℕ, zero, suc, Bool, true, false, List, [], ◌∷◌, ◌++◌, length, slice_get, Option, Some, None, Ok, Err, arith, refl, ap, subst, sym, ◌∙◌}
use Rattle.std.specs.Prelude.{cond, nat_lt, ◌==◌, slice_set}
use Rattle.std.proofs.lemmas.Bool.{cases_eq, ltb-true, ltb-false, eqb-true}
use Rattle.std.proofs.lemmas.List.{length-append}
use Rattle.std.proofs.lemmas.Option.{same_Some}
use Rattle.c_layout.specs.Types.{Ty, same_type}
use Rattle.c_layout.specs.DeclarationTrees.{NameView}
use Rattle.c_layout.specs.CheckedUnits.{FunctionView}
use Rattle.c_types_scopes.specs.Answers.{after}
use Rattle.c_types_scopes.specs.DeclaredTypes.{SignatureView, each_same, same_types}
use Rattle.c_types_scopes.specs.Definitions.{DefinitionsView, function_of}
use Rattle.c_types_scopes.specs.Refusals.{Ruled, redeclared, type_fault}
use Rattle.c_types_scopes.specs.States.{State}
use Rattle.c_types_scopes.specs.declared.scope_table.NameDeclaration.{NameDeclaration}
use Rattle.c_types_declarations.specs.FunctionHeads.{HeadView}
use Rattle.c_types_declarations.specs.Specifiers.{is_library_name}
use Rattle.c_types_statement_rules.specs.Objects.Changes.{changed, changed_at}
use Rattle.c_types.specs.FileScope.FunctionDeclarations as functions
use Rattle.c_types.specs.declared.file_scope.function_declarations.NameBefore.{NameBefore}
use Rattle.c_types.specs.declared.file_scope.function_declarations.NameBefore.TheVariants as standing
use Rattle.c_types_rules.proofs.SameTypes.{type_is}
use Rattle.c_types_theorems.proofs.units.Kept.{appended_is, front_stays, set_other}
use Rattle.c_types_theorems.proofs.units.Bodies.{changed_is}
use Rattle.c_types_well_formed.specs.WellFormed.UnitParts.{IsHeadOf}
use Rattle.c_types_well_formed_units.proofs.parameters.Longer.{Longer, longer_by, last_item}
use Rattle.c_types_well_formed_units.proofs.heads.Numbering.{IsNumbering}
use Rattle.c_types_well_formed_units.proofs.parameters.Growing.{HasName, IsRenewed, name_longer}

-- by the functions that were made so far, and the names at file scope
pub record HasFunctions (d : DefinitionsView) (made : List FunctionView) (entries : List NameDeclaration) (fs : List SignatureView) : Type 0 where
  pub named : (i n : ℕ) (f : SignatureView) → slice_get fs i ≡ Some f → f.number ≡ Some n → (name : ℕ) × (function_of d name ≡ Some n) × HasName entries name
  pub apart : (i j n : ℕ) (f g : SignatureView) → slice_get fs i ≡ Some f → slice_get fs j ≡ Some g → f.number ≡ Some n → g.number ≡ Some n → i ≡ j
  pub met : (i n : ℕ) (f : SignatureView) → slice_get fs i ≡ Some f → f.number ≡ Some n → f.is_defined ≡ true → (g : FunctionView) × (slice_get made n ≡ Some g) × IsHeadOf f g
  pub coming : (i n : ℕ) (f : SignatureView) → slice_get fs i ≡ Some f → f.number ≡ Some n → f.is_defined ≡ false → length made ≤ n
  pub done : (n : ℕ) → n < length made → (i : ℕ) × (f : SignatureView) × (slice_get fs i ≡ Some f) × (f.number ≡ Some n)

pub functions_longer : (d : DefinitionsView) (made : List FunctionView) (es more : List NameDeclaration) (fs : List SignatureView) → Longer es more → HasFunctions d made es fs → HasFunctions d made more fs
functions_longer d made es more fs g h = record {
  named = λ i n f is number. (let x = h.named i n f is number in (x.0, x.1, name_longer es more x.0 g x.2));
  apart = h.apart;
  met = h.met;
  coming = h.coming;
  done = h.done;
}

both_ways : {P : Type 0} (b : Bool) → b ≡ true → b ≡ false → P
both_ways true e f = absurd (cc)
both_ways false e f = absurd (cc)

-- ---- a function more

module _ (d : DefinitionsView) (made : List FunctionView) (es : List NameDeclaration) (fs : List SignatureView) (good : IsNumbering d) (name place : ℕ) (none : HasName es name → ⊥) (h : HasFunctions d made es fs) where
  -- no other one has its number
  not_there : (i n : ℕ) (f : SignatureView) → slice_get fs i ≡ Some f → f.number ≡ Some n → function_of d name ≡ Some n → ⊥
  not_there i n f is number there = let x = h.named i n f is number in none (subst (HasName es) (good.apart x.0 name n x.1 there) x.2)

  new_number : (n : ℕ) (f : SignatureView) → f ≡ functions.new_signature (function_of d name) → f.number ≡ Some n → function_of d name ≡ Some n
  new_number n f is number = ap (λ z. z.number) (sym is) ∙ number

  to_come : (n : ℕ) → function_of d name ≡ Some n → (b : Bool) → nat_lt n (length made) ≡ b → length made ≤ n
  to_come n is true less = absurd (let x = h.done n (ltb-true n (length made) less) in not_there x.0 n x.1 x.2 x.3 is)
  to_come n is false more = ltb-false n (length made) more

  pub functions_new : HasFunctions d made (es ++ record { name = name; meaning = place } ∷ []) (fs ++ functions.new_signature (function_of d name) ∷ [])
  functions_new = record {
    named = λ i n f is number. elim (appended_is fs (functions.new_signature (function_of d name)) i f is) [
      | inl old ↦ (let x = h.named i n f old number in (x.0, x.1, name_longer es _ x.0 (longer_by es (record { name = name; meaning = place } ∷ [])) x.2))
      | inr last ↦ (name, new_number n f last.1 number, record { place = length es; declaration = record { name = name; meaning = place }; there = last_item es (record { name = name; meaning = place }); named = refl })
    ];
    apart = λ i j n f g isf isg nf ng. elim (appended_is fs (functions.new_signature (function_of d name)) i f isf) [
      | inl oldf ↦ elim (appended_is fs (functions.new_signature (function_of d name)) j g isg) [
        | inl oldg ↦ h.apart i j n f g oldf oldg nf ng
        | inr lastg ↦ absurd (not_there i n f oldf nf (new_number n g lastg.1 ng))
      ]
      | inr lastf ↦ elim (appended_is fs (functions.new_signature (function_of d name)) j g isg) [
        | inl oldg ↦ absurd (not_there j n g oldg ng (new_number n f lastf.1 nf))
        | inr lastg ↦ lastf.0 ∙ sym lastg.0
      ]
    ];
    met = λ i n f is number defined. elim (appended_is fs (functions.new_signature (function_of d name)) i f is) [
      | inl old ↦ h.met i n f old number defined
      | inr last ↦ both_ways f.is_defined defined (ap (λ z. z.is_defined) last.1)
    ];
    coming = λ i n f is number undefined. elim (appended_is fs (functions.new_signature (function_of d name)) i f is) [
      | inl old ↦ h.coming i n f old number undefined
      | inr last ↦ to_come n (new_number n f last.1 number) (nat_lt n (length made)) refl
    ];
    done = λ n less. (let x = h.done n less in (x.0, x.1, front_stays fs (functions.new_signature (function_of d name) ∷ []) x.0 x.1 x.2, x.3));
  }

-- ---- a function that changes

set_here : {V : Type 0} (xs : List V) (k : ℕ) (v x : V) → slice_get xs k ≡ Some x → slice_get (slice_set xs k v) k ≡ Some v
set_here [] k v x h = absurd (cc)
set_here (y ∷ xs) zero v x h = refl
set_here (y ∷ xs) (suc k) v x h = set_here xs k v x h

pub changed_here : {V : Type 0} (f : V → V) (i : ℕ) (vs : List V) (v : V) → slice_get vs i ≡ Some v → slice_get (changed f i vs) i ≡ Some (f v)
changed_here f i vs v is = ap (λ o. slice_get (changed_at f i vs o) i) is ∙ set_here vs i (f v) v is

changed_at_there : {A : Type 0} (f : A → A) (k i : ℕ) (xs : List A) (o : Option A) → (i ≡ k → ⊥) → slice_get (changed_at f k xs o) i ≡ slice_get xs i
changed_at_there f k i xs None other = refl
changed_at_there f k i xs (Some x) other = set_other xs k i (f x) other

pub changed_there : {A : Type 0} (f : A → A) (k i : ℕ) (xs : List A) → (i ≡ k → ⊥) → slice_get (changed f k xs) i ≡ slice_get xs i
changed_there f k i xs other = changed_at_there f k i xs (slice_get xs k) other

pub renewed_changed : (c : SignatureView → SignatureView) (index : ℕ) (fs : List SignatureView) → ((f : SignatureView) → (c f).number ≡ f.number) → IsRenewed fs (changed c index fs)
renewed_changed c index fs same = record {
  each = λ i f is. elim (cases_eq i index) [
    | inl here ↦ (c f, ap (slice_get (changed c index fs)) here ∙ changed_here c index fs f (ap (slice_get fs) (sym here) ∙ is), same f)
    | inr other ↦ (f, changed_there c index i fs other ∙ is, refl)
  ];
}

pub head_like : (f g : SignatureView) (made : FunctionView) → f.result.ctype ≡ g.result.ctype → f.parameters ≡ g.parameters → IsHeadOf g made → IsHeadOf f made
head_like f g made result same h = record {
  returns = h.returns ∙ sym result;
  counted = h.counted ∙ ap length (sym same);
  parameters = λ i t is. h.parameters i t (ap (λ l. slice_get l i) (sym same) ∙ is);
}

-- what a function was before another one changed, or itself
record WasBefore (fs : List SignatureView) (i : ℕ) (f : SignatureView) : Type 0 where
  was : SignatureView
  there : slice_get fs i ≡ Some was
  number : f.number ≡ was.number
  defined : f.is_defined ≡ was.is_defined
  like : was.is_defined ≡ true → (f.result.ctype ≡ was.result.ctype) × (f.parameters ≡ was.parameters)

pub record IsQuiet (c : SignatureView → SignatureView) (index : ℕ) (fs : List SignatureView) : Type 0 where
  pub number : (f : SignatureView) → (c f).number ≡ f.number
  pub defined : (f : SignatureView) → (c f).is_defined ≡ f.is_defined
  pub like : (f : SignatureView) → slice_get fs index ≡ Some f → f.is_defined ≡ true → ((c f).result.ctype ≡ f.result.ctype) × ((c f).parameters ≡ f.parameters)

was_before : (c : SignatureView → SignatureView) (index : ℕ) (fs : List SignatureView) (i : ℕ) (f : SignatureView) → IsQuiet c index fs → slice_get (changed c index fs) i ≡ Some f → WasBefore fs i f
was_before c index fs i f quiet is =
    let x = changed_is c index fs i f is in
    elim x.2 [
      | inl here ↦ record {
        was = x.0;
        there = x.1;
        number = ap (λ z. z.number) here.1 ∙ quiet.number x.0;
        defined = ap (λ z. z.is_defined) here.1 ∙ quiet.defined x.0;
        like = λ defined. (let y = quiet.like x.0 (ap (slice_get fs) (sym here.0) ∙ x.1) defined in (ap (λ z. z.result.ctype) here.1 ∙ y.0, ap (λ z. z.parameters) here.1 ∙ y.1));
      }
      | inr other ↦ record {
        was = x.0;
        there = x.1;
        number = ap (λ z. z.number) other.1;
        defined = ap (λ z. z.is_defined) other.1;
        like = λ defined. (ap (λ z. z.result.ctype) other.1, ap (λ z. z.parameters) other.1);
      }
    ]

-- types of a function that is not defined, or the same ones
pub functions_changed : (d : DefinitionsView) (made : List FunctionView) (es : List NameDeclaration) (c : SignatureView → SignatureView) (index : ℕ) (fs : List SignatureView) → IsQuiet c index fs → HasFunctions d made es fs → HasFunctions d made es (changed c index fs)
functions_changed d made es c index fs quiet h = record {
  named = λ i n f is number. (let x = was_before c index fs i f quiet is in h.named i n x.was x.there (sym x.number ∙ number));
  apart = λ i j n f g isf isg nf ng. (let x = was_before c index fs i f quiet isf in let y = was_before c index fs j g quiet isg in h.apart i j n x.was y.was x.there y.there (sym x.number ∙ nf) (sym y.number ∙ ng));
  met = λ i n f is number defined.
      let x = was_before c index fs i f quiet is in
      let was = sym x.defined ∙ defined in
      let g = h.met i n x.was x.there (sym x.number ∙ number) was in
      (g.0, g.1, head_like f x.was g.0 (x.like was).0 (x.like was).1 g.2);
  coming = λ i n f is number undefined. (let x = was_before c index fs i f quiet is in h.coming i n x.was x.there (sym x.number ∙ number) (sym x.defined ∙ undefined));
  done = λ n less. (let x = h.done n less in let y = (renewed_changed c index fs quiet.number).each x.0 x.1 x.2 in (x.0, y.0, y.1, y.2 ∙ x.3));
}

-- ---- a function that is defined

module _ (d : DefinitionsView) (made : List FunctionView) (es : List NameDeclaration) (fs : List SignatureView) (index : ℕ) (f0 : SignatureView) (fn : FunctionView) (here : slice_get fs index ≡ Some f0) (undefined : f0.is_defined ≡ false) (numbered : f0.number ≡ Some (length made)) (head : IsHeadOf f0 fn) (h : HasFunctions d made es fs) where
  long : length (made ++ fn ∷ []) ≡ length made + 1
  long = length-append made (fn ∷ [])

  -- another one, or that itself
  record IsOther (i : ℕ) (f : SignatureView) : Type 0 where
    there : slice_get fs i ≡ Some f
    other : i ≡ index → ⊥

  record IsItself (i : ℕ) (f : SignatureView) : Type 0 where
    same : i ≡ index
    is : f ≡ functions.defined_signature f0

  which : (i : ℕ) (f : SignatureView) → slice_get (changed functions.defined_signature index fs) i ≡ Some f → IsOther i f ⊎ IsItself i f
  which i f is =
      let x = changed_is functions.defined_signature index fs i f is in
      elim x.2 [
        | inl at ↦ inr (record { same = at.0; is = at.1 ∙ ap functions.defined_signature (same_Some x.0 f0 (sym x.1 ∙ (ap (slice_get fs) at.0 ∙ here))) })
        | inr at ↦ inl (record { there = x.1 ∙ ap Some (sym at.1); other = at.0 })
      ]

  its_number : (n : ℕ) (f : SignatureView) → f ≡ functions.defined_signature f0 → f.number ≡ Some n → n ≡ length made
  its_number n f is number = sym (same_Some (length made) n (sym numbered ∙ (ap (λ z. z.number) (sym is) ∙ number)))

  -- what it was
  record Was (i n : ℕ) : Type 0 where
    was : SignatureView
    there : slice_get fs i ≡ Some was
    number : was.number ≡ Some n

  it_was : (i n : ℕ) (f : SignatureView) → f.number ≡ Some n → IsOther i f ⊎ IsItself i f → Was i n
  it_was i n f number (inl other) = record { was = f; there = other.there; number = number }
  it_was i n f number (inr itself) = record { was = f0; there = ap (slice_get fs) itself.same ∙ here; number = ap (λ z. z.number) (sym itself.is) ∙ number }

  met_by : (i n : ℕ) (f : SignatureView) → f.number ≡ Some n → f.is_defined ≡ true → IsOther i f ⊎ IsItself i f → (g : FunctionView) × (slice_get (made ++ fn ∷ []) n ≡ Some g) × IsHeadOf f g
  met_by i n f number defined (inl other) = let g = h.met i n f other.there number defined in (g.0, front_stays made (fn ∷ []) n g.0 g.1, g.2)
  met_by i n f number defined (inr itself) = (fn, ap (slice_get (made ++ fn ∷ [])) (its_number n f itself.is number) ∙ last_item made fn, head_like f f0 fn (ap (λ z. z.result.ctype) itself.is) (ap (λ z. z.parameters) itself.is) head)

  coming_by : (i n : ℕ) (f : SignatureView) → f.number ≡ Some n → f.is_defined ≡ false → IsOther i f ⊎ IsItself i f → length (made ++ fn ∷ []) ≤ n
  coming_by i n f number not_yet (inl other) =
      let least = h.coming i n f other.there number not_yet in
      elim (cases_eq n (length made)) [
        | inl same ↦ absurd (other.other (h.apart i index n f f0 other.there here number (numbered ∙ ap Some (sym same))))
        | inr apart ↦ omega (arith, least, long)
      ]
  coming_by i n f number not_yet (inr itself) = both_ways f.is_defined (ap (λ z. z.is_defined) itself.is) not_yet

  done_by : (n : ℕ) → n < length (made ++ fn ∷ []) → (n ≡ length made) ⊎ (n ≡ length made → ⊥) → (i : ℕ) × (f : SignatureView) × (slice_get (changed functions.defined_signature index fs) i ≡ Some f) × (f.number ≡ Some n)
  done_by n less (inl same) = (index, functions.defined_signature f0, changed_here functions.defined_signature index fs f0 here, numbered ∙ ap Some (sym same))
  done_by n less (inr apart) =
      let x = h.done n (omega (arith, less, long)) in
      let y = (renewed_changed functions.defined_signature index fs (λ f. refl)).each x.0 x.1 x.2 in
      (x.0, y.0, y.1, y.2 ∙ x.3)

  pub functions_defined : HasFunctions d (made ++ fn ∷ []) es (changed functions.defined_signature index fs)
  functions_defined = record {
    named = λ i n f is number. (let x = it_was i n f number (which i f is) in h.named i n x.was x.there x.number);
    apart = λ i j n f g isf isg nf ng. (let x = it_was i n f nf (which i f isf) in let y = it_was j n g ng (which j g isg) in h.apart i j n x.was y.was x.there y.there x.number y.number);
    met = λ i n f is number defined. met_by i n f number defined (which i f is);
    coming = λ i n f is number not_yet. coming_by i n f number not_yet (which i f is);
    done = λ n less. done_by n less (cases_eq n (length made));
  }

-- ---- types of functions

same_first : (t u : Ty) (ts us : List Ty) (b : Bool) → same_type t u ≡ b → (each_same ts us ≡ true → ts ≡ us) → cond b (each_same ts us) false ≡ true → t ∷ ts ≡ u ∷ us
same_first t u ts us true is rest h = ap (λ x. x ∷ ts) (type_is t u is) ∙ ap (λ l. u ∷ l) (rest h)
same_first t u ts us false is rest h = absurd (cc)

each_is : (ts us : List Ty) → length ts ≡ length us → each_same ts us ≡ true → ts ≡ us
unfolding each_same
each_is [] [] even same = refl
each_is [] (u ∷ us) even same = absurd (omega (arith, even))
each_is (t ∷ ts) [] even same = absurd (omega (arith, even))
each_is (t ∷ ts) (u ∷ us) even same = same_first t u ts us (same_type t u) refl (λ h. each_is ts us (omega (arith, even)) h) same

types_are : (ts us : List Ty) (b : Bool) → (length ts == length us) ≡ b → cond b (each_same ts us) false ≡ true → ts ≡ us
types_are ts us true even same = each_is ts us (eqb-true (length ts) (length us) even) same
types_are ts us false even same = absurd (cc)

signature_is : (f : SignatureView) (h : HeadView) (b : Bool) → same_type f.result.ctype h.declared.ctype ≡ b → cond b (same_types f.parameters h.parameters) false ≡ true → (f.result.ctype ≡ h.declared.ctype) × (f.parameters ≡ h.parameters)
signature_is f h true result same = (type_is f.result.ctype h.declared.ctype result, types_are f.parameters h.parameters (length f.parameters == length h.parameters) refl same)
signature_is f h false result same = absurd (cc)

-- the function of a name, which is not defined if its name meant nothing
abbrev pub Stands : DefinitionsView → ℕ → ℕ → List SignatureView → NameBefore → Type 0
Stands d name number fs standing.Nothing = (f : SignatureView) × (slice_get fs number ≡ Some f) × (f.number ≡ function_of d name) × (f.is_defined ≡ false)
Stands d name number fs (standing.Function other) = (f : SignatureView) × (slice_get fs number ≡ Some f) × (f.number ≡ function_of d name)
Stands d name number fs standing.Other = Unit {0}

pub record IsSigned (d : DefinitionsView) (made : List FunctionView) (es : List NameDeclaration) (name number : ℕ) (h : HeadView) (s t : State) : Type 0 where
  pub fs : List SignatureView
  pub same : t ≡ record s { functions = fs }
  pub all : HasFunctions d made es fs
  pub renewed : IsRenewed s.functions fs
  pub f : SignatureView
  pub there : slice_get fs number ≡ Some f
  pub numbered : f.number ≡ function_of d name
  pub result : f.result.ctype ≡ h.declared.ctype
  pub parameters : f.parameters ≡ h.parameters

module _ (d : DefinitionsView) (made : List FunctionView) (es : List NameDeclaration) (name number : ℕ) (h : HeadView) where
  abbrev pub Signs : State → Ruled (Unit {0} × State) → Type 0
  Signs s (Ok p) = IsSigned d made es name number h s p.1
  Signs s (Err f) = Unit {0}

  cond_signs : (b : Bool) (s : State) (x y : Ruled (Unit {0} × State)) → (b ≡ true → Signs s x) → (b ≡ false → Signs s y) → Signs s (cond b x y)
  cond_signs true s x y f g = f refl
  cond_signs false s x y f g = g refl

  given : (s : State) → HasFunctions d made es s.functions → Stands d name number s.functions standing.Nothing → IsSigned d made es name number h s (functions.with_given number h.declared h.parameters s)
  given s all stands =
      let c = functions.given_signature h.declared h.parameters in
      record {
        fs = changed c number s.functions;
        same = refl;
        all = functions_changed d made es c number s.functions (record {
          number = λ f. refl;
          defined = λ f. refl;
          like = λ f is defined. both_ways f.is_defined defined (ap (λ z. z.is_defined) (same_Some f stands.0 (sym is ∙ stands.1)) ∙ stands.3);
        }) all;
        renewed = renewed_changed c number s.functions (λ f. refl);
        f = c stands.0;
        there = changed_here c number s.functions stands.0 stands.1;
        numbered = stands.2;
        result = refl;
        parameters = refl;
      }

  resulting : (s : State) (other : ℕ) → HasFunctions d made es s.functions → Stands d name number s.functions (standing.Function other) → functions.has_signature s number h ≡ true → IsSigned d made es name number h s (functions.with_result number h.declared s)
  resulting s other all stands same =
      let c = functions.resulting_signature h.declared in
      let f = stands.0 in
      let both : (f.result.ctype ≡ h.declared.ctype) × (f.parameters ≡ h.parameters) = signature_is f h (same_type f.result.ctype h.declared.ctype) refl (ap (functions.same_as h) (sym stands.1) ∙ same) in
      record {
        fs = changed c number s.functions;
        same = refl;
        all = functions_changed d made es c number s.functions (record {
          number = λ g. refl;
          defined = λ g. refl;
          like = λ g is defined. (let e = same_Some g f (sym is ∙ stands.1) in (sym (ap (λ z. z.result.ctype) e ∙ both.0), refl));
        }) all;
        renewed = renewed_changed c number s.functions (λ g. refl);
        f = c f;
        there = changed_here c number s.functions f stands.1;
        numbered = stands.2;
        result = refl;
        parameters = both.1;
      }

  pub signed_signs : (n : NameView) (b : NameBefore) (s : State) → HasFunctions d made es s.functions → Stands d name number s.functions b → Signs s (functions.signed n number b h s)
  signed_signs n b s all stands = cond_signs (is_library_name n.text) s _ (functions.signed_by n.at number b h s) (λ is. tt) (λ is. by_before b stands)
    where
      by_before : (b : NameBefore) → Stands d name number s.functions b → Signs s (functions.signed_by n.at number b h s)
      by_before standing.Nothing st = cond_signs (functions.is_declared s number) s _ _ (λ is. given s all st) (λ is. tt)
      by_before (standing.Function other) st = cond_signs (functions.has_signature s number h) s _ _ (λ is. resulting s other all st is) (λ is. tt)
      by_before standing.Other st = tt

  -- ---- heads of definitions

  -- a head with names for its parameters, of a function that was not defined before
  pub record IsMet (s t : State) : Type 0 where
    pub before : State
    pub signed : IsSigned d made es name number h s before
    pub undefined : signed.f.is_defined ≡ false
    pub named : h.are_named ≡ true
    pub same : t ≡ functions.with_defined before number

  abbrev pub Meets : State → Ruled (Unit {0} × State) → Type 0
  Meets s (Ok p) = IsMet s p.1
  Meets s (Err f) = Unit {0}

  met_by_tests : (n : NameView) (s t : State) (signed : IsSigned d made es name number h s t) (a b : Bool) → functions.is_defined t number ≡ a → h.are_named ≡ b → Meets s (cond a (redeclared n.at) (cond b (Ok (tt, functions.with_defined t number)) (type_fault n.at)))
  met_by_tests n s t signed true b is named = tt
  met_by_tests n s t signed false false is named = tt
  met_by_tests n s t signed false true is named = record {
    before = t;
    signed = signed;
    undefined = sym (ap functions.was_defined (ap (λ z. slice_get z.functions number) signed.same ∙ signed.there)) ∙ is;
    named = named;
    same = refl;
  }

  pub judged_meets : (n : NameView) (b : NameBefore) (s : State) → HasFunctions d made es s.functions → Stands d name number s.functions b → Meets s (functions.judged_head n number b h s)
  judged_meets n b s all stands = of_signed (functions.signed n number b h s) (signed_signs n b s all stands)
    where
      of_signed : (r : Ruled (Unit {0} × State)) → Signs s r → Meets s (after r (λ u t. functions.met_head n number h t))
      of_signed (Ok p) signed = met_by_tests n s p.1 signed (functions.is_defined p.1 number) h.are_named refl refl
      of_signed (Err f) signed = tt
