-- Where a run of templates and one of a program in which they are laid out stand alike.
use Rattle.std.proofs.Common.{◌≡◌, ◌<◌, ◌⊎◌, inl, inr, ℕ, suc, ◌+◌, ◌==◌, ℤ, Bool, true, false, cond, List, [], ◌∷◌, Option, Some, None, refl, arith, ap, sym, subst, ◌∙◌}
use Rattle.std.proofs.lemmas.Bool.{eqb-true}
use Rattle.cc_base.specs.declared.diagnostics.Rule.{Rule}
use Rattle.c_layout.specs.declared.shapes.BaseInfo.{BaseInfo}
use Rattle.c_layout.specs.declared.shapes.BaseKind.{BaseKind}
use Rattle.c_layout.specs.declared.shapes.BaseKind.TheVariants as kind
use Rattle.memory_model.specs.Memory.Instances.{Memory}
use Rattle.memory_model.specs.Memory.Scalars.{Scalar}
use Rattle.memory_model.specs.Effects.NumberedTables.{set_at}
use Rattle.memory_model.specs.Effects.UnitStarts.{literal_instance}
use Rattle.memory_model.specs.Effects.Worlds.{World, Why, Stuck, Violation}
use Rattle.lower_templates.specs.Worklist.Pieces.{PieceView}
use Rattle.semantics.specs.CfgMachine.FlowStates as flow
use Rattle.semantics.specs.TemplateMachine.TemplateStates as template
use Rattle.semantics.specs.TemplateMachine.TemplateStates.{Frame}
use Rattle.semantics.specs.TemplateMachine.TemplateExits.{behind_mark}
use Rattle.simulation_layout.specs.InlinedLayout.Copies.{Inlined, Copy, IsThere, IsCopy, AllApart, IsObject, IsLiteral}
use Rattle.simulation_layout.specs.InlinedLayout.Layouts as laid
use Rattle.simulation_layout.specs.InlinedLayout.Layouts.{Laid, IsAutomatic}
use Rattle.simulation_layout.proofs.inlined_layout.ShiftedValues.{Held, Keeps, set_here, set_elsewhere, Compared, same, other, compared}

module _ (o : Inlined) where
  -- a whole copy of a template, which ends there
  pub record Whole (c : Copy) (around : List Copy) (end last : ℕ) : Type 0 where
    pub block : ℕ
    pub at : ℕ
    pub stands : Laid o c around (o.of c.function).pieces block at end last

  -- the bases of a copy name what its objects name
  abbrev pub Names : Copy → (ℕ → Option ℕ) → (ℕ → Option ℕ) → Type 0
  Names c names bases = (slot b : ℕ) → c.locals slot ≡ Some b → bases b ≡ names slot

  -- the functions that wait stand in the copies around, each behind its call
  pub data Waiting (temps : ℕ → Option Scalar) (bases : ℕ → Option ℕ) : Copy → List Copy → ℕ → ℕ → List Frame → Type 0 where
    none : (c : Copy) (end last : ℕ) → Waiting temps bases c [] end last []
    one : (c d : Copy) (around : List Copy) (between inner end last : ℕ) (rest : List PieceView) (own : ℕ → Option Scalar) (names : ℕ → Option ℕ) (depth : ℕ) (fs : List Frame)
        → Laid o d around rest between inner end last → Whole d around end last → IsCopy o d → AllApart d around → Names d names bases → ((k : ℕ) → k < depth → own k ≡ temps (k + d.depth)) → c.depth ≡ depth + d.depth → Waiting temps bases d around end last fs
        → Waiting temps bases c (d ∷ around) between inner (record { function = d.function; rest = rest; temps = own; names = names; depth = depth; at = c.at; used = c.used } ∷ fs)

  -- a base is that of an object of one of the copies
  abbrev pub IsActive : ℕ → List Copy → Type 0
  IsActive b [] = ⊥
  IsActive b (c ∷ cs) = ((slot : ℕ) × (c.locals slot ≡ Some b)) ⊎ IsActive b cs

  -- the bases of objects of static storage and literals name their instances, and those of automatic objects none where
  -- their copies are not under way
  pub record Tables (bases : ℕ → Option ℕ) (cs : List Copy) : Type 0 where
    pub objects : (n b : ℕ) → o.objects n ≡ Some b → bases b ≡ Some n
    pub literals : (n b : ℕ) → o.literals n ≡ Some b → bases b ≡ Some (literal_instance o.unit n)
    pub others : (b : ℕ) → IsAutomatic o b → (bases b ≡ None) ⊎ IsActive b cs

  -- all but the pieces
  pub record Around (c : Copy) (around : List Copy) (temps : ℕ → Option Scalar) (names : ℕ → Option ℕ) (frames : List Frame) (all : ℕ → Option Scalar) (bases : ℕ → Option ℕ) (end last : ℕ) : Type 0 where
    pub whole : Whole c around end last
    pub is_copy : IsCopy o c
    pub apart : AllApart c around
    pub held : Held c.depth temps all
    pub named : Names c names bases
    pub waits : Waiting all bases c around end last frames
    pub tables : Tables bases (c ∷ around)

  abbrev pub world : Memory → List ℤ → List Rule → World
  world memory draws violated = record { memory = memory; draws = draws; violated = violated }

  abbrev pub std : ℕ → List PieceView → (ℕ → Option Scalar) → (ℕ → Option ℕ) → List Frame → World → template.TemplateState
  std n rest temps names frames w = record { function = n; rest = rest; temps = temps; names = names; frames = frames; world = w }

  abbrev pub prog : ℕ → ℕ → (ℕ → Option Scalar) → (ℕ → Option ℕ) → World → flow.ProgramState
  prog block at all bases w = record { block = block; at = at; temps = all; bases = bases; world = w }

  -- both stand alike; the worlds are the same, but for what the last step has violated
  pub data Related : template.TemplateState → flow.ProgramState → Type 0 where
    related : (c : Copy) (around : List Copy) (rest : List PieceView) (temps : ℕ → Option Scalar) (names : ℕ → Option ℕ) (frames : List Frame) (block at end last : ℕ) (all : ℕ → Option Scalar) (bases : ℕ → Option ℕ) (memory : Memory) (draws : List ℤ) (old new : List Rule)
        → Laid o c around rest block at end last → Around c around temps names frames all bases end last → Related (std c.function rest temps names frames (world memory draws old)) (prog block at all bases (world memory draws new))

  -- both go on alike, or have stopped alike, or the templates are stuck
  pub data Both : template.TemplateRun → flow.FlowRun → Type 0 where
    both_run : (s : template.TemplateState) (r : flow.ProgramState) (found also : List Violation) → Related s r → found ≡ also → Both (template.running s found) (flow.running r also)
    both_stopped : (why : Why) (w : World) (violated : List Rule) (found also : List Violation) → found ≡ also → Both (template.stopped why w found) (flow.stopped why (record w { violated = violated }) also)
    stuck : (w : World) (found : List Violation) (r : flow.FlowRun) → Both (template.stopped Stuck w found) r

  -- ---- a label leads to the same pieces

  some_same : {A : Type 0} (x y : A) → Some x ≡ Some y → x ≡ y
  some_same x y e = cc

  pub laid_behind : (l : ℕ) (rest : List PieceView) (c : Copy) (around : List Copy) (ps : List PieceView) (block at end last : ℕ) → Laid o c around ps block at end last → behind_mark l ps ≡ Some rest → Laid o c around rest (c.labels l) 0 end last
  laid_behind l rest c around _ _ _ _ _ (laid.nothing _ _ block at) found = cc
  laid_behind l rest c around _ _ _ _ _ (laid.does _ _ i ps block at end last put next) found = laid_behind l rest c around ps block (suc at) end last next found
  laid_behind l rest c around _ _ _ _ _ (laid.used _ _ i ps block at end last is put next) found = laid_behind l rest c around ps block (suc at) end last next found
  laid_behind l rest c around _ _ _ _ _ (laid.unused _ _ i ps block at end last is next) found = laid_behind l rest c around ps block at end last next found
  laid_behind l rest c around _ _ _ _ _ (laid.ends _ _ i exits ps block at end last put led next) found = laid_behind l rest c around ps (block + 1) 0 end last next found
  laid_behind l rest c around _ _ _ _ _ (laid.calls _ _ k d ps block at between inner end last is_function depth place used is_copy apart called next) found = laid_behind l rest c around ps between inner end last next found
  laid_behind l rest c around _ _ _ _ _ (laid.begins _ _ m ps block end last is next) found = by (l == m) refl found (λ e. laid_behind l rest c around ps block 0 end last next e)
    where
      by : (b : Bool) → (l == m) ≡ b → cond b (Some ps) (behind_mark l ps) ≡ Some rest → (behind_mark l ps ≡ Some rest → Laid o c around rest (c.labels l) 0 end last) → Laid o c around rest (c.labels l) 0 end last
      by true e is_rest further = subst (λ k. Laid o c around rest k 0 end last) (sym (ap c.labels (eqb-true l m e) ∙ is)) (subst (λ qs. Laid o c around qs block 0 end last) (some_same ps rest is_rest) next)
      by false e is_rest further = further is_rest
  laid_behind l rest c around _ _ _ _ _ (laid.jumps _ _ m from place ps block at end last is jump edges next) found = by (l == m) refl found (λ e. laid_behind l rest c around ps (block + 1) 0 end last next e)
    where
      by : (b : Bool) → (l == m) ≡ b → cond b (Some ps) (behind_mark l ps) ≡ Some rest → (behind_mark l ps ≡ Some rest → Laid o c around rest (c.labels l) 0 end last) → Laid o c around rest (c.labels l) 0 end last
      by true e is_rest further = subst (λ k. Laid o c around rest k 0 end last) (sym (ap c.labels (eqb-true l m e) ∙ is)) (subst (λ qs. Laid o c around qs (block + 1) 0 end last) (some_same ps rest is_rest) next)
      by false e is_rest further = further is_rest

  -- ---- what changes

  -- the bases of copies stay
  abbrev pub KeepAll : (ℕ → Option ℕ) → (ℕ → Option ℕ) → List Copy → Type 0
  KeepAll old new [] = Unit {0}
  KeepAll old new (d ∷ ds) = ((slot b : ℕ) → d.locals slot ≡ Some b → new b ≡ old b) × KeepAll old new ds

  pub keep_same : (bases : ℕ → Option ℕ) (ds : List Copy) → KeepAll bases bases ds
  keep_same bases [] = tt
  keep_same bases (d ∷ ds) = ((λ slot b is. refl), keep_same bases ds)

  pub waits_on : (old new : ℕ → Option Scalar) (bases others : ℕ → Option ℕ) (c : Copy) (around : List Copy) (end last : ℕ) (fs : List Frame) → Keeps c.depth old new → KeepAll bases others around → Waiting old bases c around end last fs → Waiting new others c around end last fs
  waits_on old new bases others c _ _ _ _ keeps keep (none _ end last) = none c end last
  waits_on old new bases others c _ _ _ _ keeps keep (one _ d around between inner end last rest own names depth fs stands whole is_copy apart named held deep waits) =
      one c d around between inner end last rest own names depth fs stands whole is_copy apart
      (λ slot b is. keep.0 slot b is ∙ named slot b is)
      (λ k less. held k less ∙ sym (keeps (k + d.depth) (within k less)))
      deep
      (waits_on old new bases others d around end last fs (λ j less. keeps j (below j less)) keep.1 waits)
    where
      within : (k : ℕ) → k < depth → k + d.depth < c.depth
      within k less = subst (λ n. k + d.depth < n) (sym deep) (more k depth d.depth less)
        where
          more : (k n m : ℕ) → k < n → k + m < n + m
          more k n m less = omega (arith, less)

      below : (j : ℕ) → j < d.depth → j < c.depth
      below j less = subst (λ n. j < n) (sym deep) (more j depth d.depth less)
        where
          more : (j n m : ℕ) → j < m → j < n + m
          more j n m less = omega (arith, less)

  -- ---- the base of an object of the running copy has something else

  automatic_is_not : (k : BaseKind) → (k ≡ kind.Static) ⊎ (k ≡ kind.Literal) → k ≡ kind.Automatic → ⊥
  automatic_is_not k (inl e) is = absurd (no_static (sym e ∙ is))
    where
      no_static : kind.Static ≡ kind.Automatic → ⊥
      no_static e = cc
  automatic_is_not k (inr e) is = absurd (no_literal (sym e ∙ is))
    where
      no_literal : kind.Literal ≡ kind.Automatic → ⊥
      no_literal e = cc

  same_kind : (b : ℕ) (x y : BaseInfo) → IsThere o b x → IsThere o b y → x.kind ≡ y.kind
  same_kind b x y p q = ap (λ (i : BaseInfo). i.kind) (some_same x y (sym p ∙ q))

  module _ (are_objects : (n b : ℕ) → o.objects n ≡ Some b → IsObject o n b) (are_literals : (n b : ℕ) → o.literals n ≡ Some b → IsLiteral o n b) (c : Copy) (around : List Copy) (is_copy : IsCopy o c) (apart : AllApart c around) (slot b : ℕ) (is : c.locals slot ≡ Some b) (bases names : ℕ → Option ℕ) (x : Option ℕ) where
    pub named_set : Names c names bases → Names c (set_at names slot x) (set_at bases b x)
    named_set named s n here = by (compared n b)
      where
        by : Compared n b → set_at bases b x n ≡ set_at names slot x s
        by (same e) = set_here bases b n x e ∙ sym (set_here names slot s x (is_copy.own s slot n here (is ∙ ap Some (sym e))))
        by (other differ) = set_elsewhere bases b n x differ ∙ named s n here ∙ sym (set_elsewhere names slot s x (λ e. differ (some_same n b (sym here ∙ ap c.locals e ∙ is))))

    pub keep_set : KeepAll bases (set_at bases b x) around
    keep_set = by around apart
      where
        by : (ds : List Copy) → AllApart c ds → KeepAll bases (set_at bases b x) ds
        by [] all = tt
        by (d ∷ ds) (here, all) = ((λ s n there. set_elsewhere bases b n x (λ e. here slot s b is (there ∙ ap Some e))), by ds all)

    not_object : (n k : ℕ) → o.objects n ≡ Some k → k ≡ b → ⊥
    not_object n k there e =
        let x = are_objects n k there in
        let y = is_copy.are_locals slot b is in
        automatic_is_not x.info.kind (inl x.is_static) (same_kind b x.info y.info (subst (λ j. IsThere o j x.info) e x.there) y.there ∙ y.is_automatic)

    not_literal : (n k : ℕ) → o.literals n ≡ Some k → k ≡ b → ⊥
    not_literal n k there e =
        let x = are_literals n k there in
        let y = is_copy.are_locals slot b is in
        automatic_is_not x.info.kind (inr x.is_literal) (same_kind b x.info y.info (subst (λ j. IsThere o j x.info) e x.there) y.there ∙ y.is_automatic)

    pub tables_set : Tables bases (c ∷ around) → Tables (set_at bases b x) (c ∷ around)
    tables_set t = record {
      objects = λ n k there. set_elsewhere bases b k x (λ e. not_object n k there e) ∙ t.objects n k there;
      literals = λ n k there. set_elsewhere bases b k x (λ e. not_literal n k there e) ∙ t.literals n k there;
      others = λ k automatic. by k automatic (compared k b);
    }
      where
        by : (k : ℕ) → IsAutomatic o k → Compared k b → (set_at bases b x k ≡ None) ⊎ IsActive k (c ∷ around)
        by k automatic (same e) = inr (inl (slot, is ∙ ap Some (sym e)))
        by k automatic (other differ) = again (t.others k automatic)
          where
            again : (bases k ≡ None) ⊎ IsActive k (c ∷ around) → (set_at bases b x k ≡ None) ⊎ IsActive k (c ∷ around)
            again (inl none_there) = inl (set_elsewhere bases b k x differ ∙ none_there)
            again (inr active) = inr active
