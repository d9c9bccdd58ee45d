-- A lowered program begins with what is in the tables of its unit.
use Rattle.std.proofs.Common.{◌≡◌, ℕ, zero, suc, ◌+◌, ◌-◌, ◌<◌, ◌≤◌, ◌^◌, List, [], ◌∷◌, ◌++◌, length, Option, Some, None, slice_get, arith, subst, sym, refl, ap, ◌∙◌, inl, inr}
use Rattle.std.specs.Prelude.{map, take}
use Rattle.std.proofs.lemmas.Bool.{cases_lt}
use Rattle.std.proofs.lemmas.List.{length-append, length-map}
use Rattle.std.proofs.lemmas.Option.{same_Some, slice_get_within}
use Rattle.cc_base.specs.declared.diagnostics.Place.{Place}
use Rattle.cc_base.specs.declared.limit_table.Limits.{Limits}
use Rattle.c_layout.specs.Types.{Int}
use Rattle.c_layout.specs.CheckedUnits.{FunctionView, UnitView}
use Rattle.c_layout.specs.declared.shapes.BaseInfo.{BaseInfo}
use Rattle.c_layout.specs.declared.shapes.BaseKind.TheVariants as kind
use Rattle.cfg.specs.declared.programs.Flow.{Flow}
use Rattle.cfg.specs.declared.programs.ParameterInput.{ParameterInput}
use Rattle.lower_templates.specs.Views.ProgramViews.{flow_view}
use Rattle.lower_templates.specs.Worklist.Pieces.{TemplateView}
use Rattle.lower_templates.specs.declared.worklist.template_pieces.OwnCall.{OwnCall}
use Rattle.lower_functions.specs.Functions.Functions.{type_or, local_type}
use Rattle.lower_tables.specs.Counts.Preparations.{begun}
use Rattle.lower_tables.specs.Bases.BaseTables.{TableView}
use Rattle.lower.specs.Inlining.Inlinings as o
use Rattle.lower.specs.Inlining.Inlinings.{Made, Placed, joined, placed}
use Rattle.lower.specs.Inlining.Lowerings.{input_type, input, inputs, IsLowering}
use Rattle.memory_model.specs.Effects.UnitStarts.{parameters_of}
use Rattle.store_sound.proofs.operations.Slices.{get_left, get_right}
use Rattle.entry_sound.specs.Tables.TypedInitializers.{HasTypedInitializers}
use Rattle.entry_sound.specs.Tables.UnitStarts.{IsBaseOf, AreShared, StartsAs}
use Rattle.entry_sound.specs.Lowered.LoweredStarts.{IsIntegerLocal, HasIntegerParameters}
use Rattle.entry_sound.proofs.lowered.TableWalks.{sound_run}
use Rattle.entry_sound.proofs.lowered.NotedBases.{none_some, AreNoted, named_noted, noted_shared}
use Rattle.entry_sound.proofs.lowered.EntryBases.{AreFirst, all_first, first_noted, all_same}

-- ---- parameters in order

inputs_long : (f : FunctionView) (n : ℕ) → length (inputs f n) ≡ n
inputs_long f zero = refl
inputs_long f (suc n) = let a = length-append (inputs f n) (input f n ∷ []) in let b = inputs_long f n in omega (arith, a, b)

inputs_at : (f : FunctionView) (n k : ℕ) → k < n → slice_get (inputs f n) k ≡ Some (input f k)
inputs_at f zero k h = absurd (omega (arith, h))
inputs_at f (suc n) k h = elim (cases_lt k n) [
  | inl less ↦ (let l = inputs_long f n in get_left (inputs f n) (input f n ∷ []) k (omega (arith, less, l)) ∙ inputs_at f n k less)
  | inr last ↦ (
      let l = inputs_long f n in
      let is : n ≡ k = omega (arith, h, last) in
      get_right (inputs f n) (input f n ∷ []) k 0 (omega (arith, l, is)) ∙ ap (λ m. Some (input f m)) is)
]

-- lists with the same elements
same_elements : {A : Type 0} (xs ys : List A) → length xs ≡ length ys → ((k : ℕ) (x : A) → slice_get xs k ≡ Some x → slice_get ys k ≡ Some x) → xs ≡ ys
same_elements [] [] long h = refl
same_elements [] (y ∷ ys) long h = absurd (omega (arith, long))
same_elements (x ∷ xs) [] long h = absurd (omega (arith, long))
same_elements (x ∷ xs) (y ∷ ys) long h =
    let first : y ≡ x = same_Some y x (h 0 x refl) in
    let rest = same_elements xs ys (omega (arith, long)) (λ k z e. h (suc k) z e) in
    ap (λ z. z ∷ xs) (sym first) ∙ ap (λ zs. y ∷ zs) rest

take_long : {A : Type 0} (n : ℕ) (xs : List A) → n ≤ length xs → length (take n xs) ≡ n
take_long zero xs h = refl
take_long (suc n) [] h = absurd (omega (arith, h))
take_long (suc n) (x ∷ xs) h = ap suc (take_long n xs (omega (arith, h)))

-- elements of the first part, as they are mapped
mapped_at : {A B : Type 0} (g : A → B) (n : ℕ) (xs : List A) (k : ℕ) (y : B) → slice_get (map g (take n xs)) k ≡ Some y → (x : A) × (k < n) × (slice_get xs k ≡ Some x) × (g x ≡ y)
mapped_at g zero xs k y e = absurd (none_some y e)
mapped_at g (suc n) [] k y e = absurd (none_some y e)
mapped_at g (suc n) (x ∷ xs) zero y e = (x, omega arith, refl, same_Some (g x) y e)
mapped_at g (suc n) (x ∷ xs) (suc k) y e = let r = mapped_at g n xs k y e in let h = r.1 in (r.0, omega (arith, h), r.2, r.3)

mapped : {A B : Type 0} (g : A → B) (xs : List A) (k : ℕ) (x : A) → slice_get xs k ≡ Some x → slice_get (map g xs) k ≡ Some (g x)
mapped g [] k x e = absurd (none_some x e)
mapped g (y ∷ ys) zero x e = ap (λ z. Some (g z)) (same_Some y x e)
mapped g (y ∷ ys) (suc k) x e = mapped g ys k x e

module _ (f : FunctionView) (integers : (k : ℕ) → k < f.parameters → IsIntegerLocal f k) where
  local_int : (k : ℕ) (h : k < f.parameters) → local_type f k ≡ Int (integers k h).kind
  local_int k h = ap (λ z. type_or z f.returns) (integers k h).among ∙ (integers k h).is

  -- the input of a parameter is of its type
  input_int : (k : ℕ) → k < f.parameters → Int (input f k).kind ≡ local_type f k
  input_int k h = ap (λ t. Int (input_type t)) (local_int k h) ∙ sym (local_int k h)

  few_locals : (n : ℕ) → n ≤ f.parameters → n ≤ length f.locals
  few_locals zero h = omega arith
  few_locals (suc n) h = let i = integers n (omega (arith, h)) in let w = slice_get_within f.locals n i.local i.among in omega (arith, w)

  input_types : map (λ l. l.ctype) (take f.parameters f.locals) ≡ map (λ p. Int p.kind) (inputs f f.parameters)
  input_types = same_elements (map (λ l. l.ctype) (take f.parameters f.locals)) (map (λ p. Int p.kind) (inputs f f.parameters))
      (let a = length-map (take f.parameters f.locals) (λ l. l.ctype) in
      let b = take_long f.parameters f.locals (few_locals f.parameters (omega arith)) in
      let c = length-map (inputs f f.parameters) (λ p. Int p.kind) in
      let d = inputs_long f f.parameters in
      omega (arith, a, b, c, d))
      (λ k t e.
      let r = mapped_at (λ l. l.ctype) f.parameters f.locals k t e in
      let is : Int (input f k).kind ≡ t = input_int k r.1 ∙ (ap (λ z. type_or z f.returns) r.2 ∙ r.3) in
      mapped (λ p. Int p.kind) (inputs f f.parameters) k (input f k) (inputs_at f f.parameters k r.1) ∙ ap Some is)

-- ---- the bases of a lowered program

module _ (u : UnitView) (f : FunctionView) where
  -- objects and literals have bases of their own, and the parameters the first ones
  record AreMade (b : TableView) : Type 0 where
    shared : AreShared u b.bases b
    parameters : (k : ℕ) → k < f.parameters → IsBaseOf u b.bases kind.Automatic (local_type f k) k

  front_stays : (front rest : List BaseInfo) (k : ℕ) → IsBaseOf u front kind.Automatic (local_type f k) k → IsBaseOf u (front ++ rest) kind.Automatic (local_type f k) k
  front_stays front rest k h = record {
    info = h.info;
    among = get_left front rest k (slice_get_within front k h.info h.among) ∙ h.among;
    kinds = h.kinds;
    sizes = h.sizes;
    shapes = h.shapes;
  }

  made_of : (b : TableView) (p : Placed) → AreFirst u f f.parameters p → AreNoted u p.program.bases.bases b → AreMade b
  made_of b p first noted = record {
    shared = noted_shared u p.program.bases.bases b noted;
    parameters = λ k h. subst (λ z. IsBaseOf u z kind.Automatic (local_type f k) k) (sym noted.begins.is) (front_stays p.program.bases.bases noted.begins.rest k (first.bases k h));
  }

  module _ (few : f.parameters ≤ length f.locals + 1) (ts : List (Option TemplateView)) where
    first_copy : (t : TemplateView) (c : OwnCall) (m : Made) → m.bases ≡ (o.nothing_made u).bases → AreFirst u f 0 (placed m (o.copied c 0 f t))
    first_copy t c m is = record {
      count = ap (λ b. length b.bases) is;
      bases = λ k h. absurd (omega (arith, h));
      objects = ap (λ b. b.objects) is;
      literals = ap (λ b. b.literals) is;
      function = refl;
      free = λ k from to. all_same (length f.locals + 1) k None to;
    }

    run_made : (t : TemplateView) (c : OwnCall) (m : Made) → m.bases ≡ (o.nothing_made u).bases → AreMade (o.entry_run u ts (o.copied c 0 f t ∷ []) m).program.bases
    run_made t c m is =
        let first = all_first u f f.parameters (placed m (o.copied c 0 f t)) few (first_copy t c m is) in
        let p : Placed = o.with_parameters u f.parameters (placed m (o.copied c 0 f t)) in
        made_of _ p first (sound_run u (AreNoted u p.program.bases.bases) (named_noted u p.program.bases.bases) ts (2 ^ 64 - 1) (p.within ∷ []) p.program (first_noted u f f.parameters p first))

    whole_made : (t : TemplateView) (at : Place) → slice_get u.functions u.entry ≡ Some f → o.template_at ts u.entry ≡ Some t → AreMade (o.program u ts at).bases
    whole_made t at is_entry is_template =
        subst (λ z. AreMade (o.finished (o.unresolved u ts (o.entered (o.entry_call at u.entry) [] (o.nothing_made u) z (o.template_at ts u.entry))).program).bases) (sym is_entry)
        (subst (λ z. AreMade (o.finished (o.unresolved u ts (o.entered (o.entry_call at u.entry) [] (o.nothing_made u) (Some f) z)).program).bases) (sym is_template)
        (run_made t (o.entry_call at u.entry) (o.with_labels t.labels (o.nothing_made u)) refl))

-- ---- the program

pub lowered_starts : (u : UnitView) (limits : Limits) (flow : Flow) → IsLowering u limits (flow_view flow) → HasTypedInitializers u → HasIntegerParameters u → StartsAs u flow
lowered_starts u limits flow is typed integers =
    let f : FunctionView = is.entry in
    let ints : (k : ℕ) → k < f.parameters → IsIntegerLocal f k = integers f is.is_counted.is_entry in
    let s = is.is_counted.is_prepared.all u.entry begun in
    let few : f.parameters ≤ length f.locals + 1 = let w = few_locals f ints f.parameters (omega arith) in omega (arith, w) in
    let made = whole_made u f few is.templates s.0 f.at is.is_counted.is_entry (ap joined s.2) in
    let bases : flow.bases.items ≡ (o.program u is.templates f.at).bases.bases = ap (λ v. v.bases) is.opens in
    let parameters : flow.parameters.items ≡ inputs f f.parameters = ap (λ v. v.parameters) is.opens in
    record {
      model = sym (ap (λ v. v.model) is.opens);
      table = (o.program u is.templates f.at).bases;
      initial = ap (λ v. v.initial) is.opens;
      shared = subst (λ z. AreShared u z (o.program u is.templates f.at).bases) (sym bases) made.shared;
      inputs = record {
        types = ap (λ z. map (λ l. l.ctype) (parameters_of z)) is.is_counted.is_entry ∙ (input_types f ints ∙ ap (map (λ p. Int p.kind)) (sym parameters));
        bases = λ k p e.
            let h = known_input k p (ap (λ z. slice_get z k) (sym parameters) ∙ e) in
            subst (λ z. IsBaseOf u z kind.Automatic (Int p.kind) p.base) (sym bases)
            (subst (λ q. IsBaseOf u (o.program u is.templates f.at).bases.bases kind.Automatic (Int q.kind) q.base) h.1
            (subst (λ t. IsBaseOf u (o.program u is.templates f.at).bases.bases kind.Automatic t k) (sym (input_int f ints k h.0)) (made.parameters k h.0)));
        own = λ j k p q at there same.
            let g = known_input j p (ap (λ z. slice_get z j) (sym parameters) ∙ at) in
            let h = known_input k q (ap (λ z. slice_get z k) (sym parameters) ∙ there) in
            ap (λ z. z.base) g.1 ∙ (same ∙ sym (ap (λ z. z.base) h.1));
      };
      typed = typed;
    }
  where
    known_input : (k : ℕ) (p : ParameterInput) → slice_get (inputs is.entry is.entry.parameters) k ≡ Some p → (k < is.entry.parameters) × (input is.entry k ≡ p)
    known_input k p e =
        let l = inputs_long is.entry is.entry.parameters in
        let w = slice_get_within (inputs is.entry is.entry.parameters) k p e in
        let small : k < is.entry.parameters = omega (arith, w, l) in
        (small, same_Some (input is.entry k) p (sym (inputs_at is.entry is.entry.parameters k small) ∙ e))
