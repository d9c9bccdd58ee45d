-- The templates of a unit are laid out in its program.
use Rattle.std.proofs.Common.{◌≡◌, ◌<◌, ◌≤◌, ◌⊎◌, inl, inr, ℕ, zero, suc, ◌+◌, ◌-◌, ◌^◌, min, Bool, true, false, nat_lt, List, [], ◌∷◌, ◌++◌, length, replicate, take, get_or, Option, Some, None, refl, arith, ap, sym, subst, subst₂, ◌∙◌}
use Rattle.std.specs.List.{slice_get}
use Rattle.std.proofs.lemmas.Bool.{ltb-true, ltb-false}
use Rattle.std.proofs.lemmas.List.{length-replicate}
use Rattle.c_layout.specs.CheckedUnits.{FunctionView, UnitView}
use Rattle.c_layout.specs.declared.shapes.BaseInfo.{BaseInfo}
use Rattle.c_layout.specs.declared.shapes.BaseKind.{BaseKind}
use Rattle.c_layout.specs.declared.shapes.BaseKind.TheVariants as kind
use Rattle.memory_model.specs.Effects.NumberedTables.{empty_table}
use Rattle.memory_model.specs.Effects.UnitStarts.{literal_instance, parameter_instance, parameters_of, entry_parameters}
use Rattle.lower.specs.TemplateLaws.PieceOrder.{ends_block}
use Rattle.lower_templates.specs.Worklist.Pieces.{NameView, PieceView, TemplateView}
use Rattle.semantics.specs.CfgMachine.FlowStarts.{Names, name_objects, name_parameters, start_names}
use Rattle.semantics.specs.SourceMachine.SourceRuns as source
use Rattle.lower_tables.specs.Bases.BaseTables.{TableView, known}
use Rattle.lower_tables.specs.Bases.InitialBytes.{objects_from, literals_from}
use Rattle.lower.specs.Inlining.Lowerings.{inputs, lowered}
use Rattle.lower.specs.Inlining.Inlinings.{Made, CopyView, Placed, Inlined, placed, inlined, with_locals, with_rest, with_bases, with_labels, copied, template_at, entered, with_parameters, entry_call, nothing_made, run, unresolved, finished, unfinished}
use Rattle.lower.specs.Inlining.Inlinings as inlining
use Rattle.lower.proofs.inlining.CountedCalls.{AllCalled}
use Rattle.lower.proofs.inlining.InliningTurns.{no_copy}
use Rattle.simulation_layout.specs.InlinedLayout.Copies.{Copy, IsLocal, IsCopy, IsObject, IsLiteral}
use Rattle.simulation_layout.specs.InlinedLayout.Copies as copies
use Rattle.simulation_layout.specs.InlinedLayout.Layouts.{Laid, IsAutomatic, IsLaidOut}
use Rattle.simulation_layout.specs.Copies.LowTemporaries.{HasLowTemps}
use Rattle.simulation_layout.specs.Inlining.NameRanges.{IsNameThere}
use Rattle.simulation_layout.specs.Copies.FitTemplates.{ArePiecesFit, IsFit}
use Rattle.simulation_layout.proofs.inlining.ListPlaces.{some_same, none_is_not, within}
use Rattle.simulation_layout.proofs.inlining.NamedTables.{ObjectAt, LiteralAt, LocalAt, GoodTable, GoodLocals}
use Rattle.simulation_layout.proofs.inlining.MadeParts.{extends_same}
use Rattle.simulation_layout.proofs.inlining.NamedPlaces.{Good, Only}
use Rattle.simulation_layout.proofs.inlining.InlinedCopies.{Opens, Leaves, leaves, Finishes, finish, none_known}
use Rattle.simulation_layout.proofs.copies.LaidNames.{whole, copy_at}
use Rattle.simulation_layout.proofs.copies.LaidCopies.{MarkedOnce, Fits, Stays, Comes}
use Rattle.simulation_layout.proofs.copies.LaidInlinings.{lay}
use Rattle.simulation_layout.proofs.inlined_runs.WholePrograms.{ready_none, Numbered, numbered}
use Rattle.simulation_layout.proofs.inlined_runs.StartNames.{in_turn, objects_miss, objects_hit, literals_miss, literals_hit, count_inputs, inputs_from, parameters_miss, parameters_hit, source_miss, source_hit, take_length}

-- kinds of bases
static_is_other : (k : BaseKind) → k ≡ kind.Static → k ≡ kind.Automatic → ⊥
static_is_other k e f = by (sym e ∙ f)
  where
    by : kind.Static ≡ kind.Automatic → ⊥
    by e = cc

literal_is_other : (k : BaseKind) → k ≡ kind.Literal → k ≡ kind.Automatic → ⊥
literal_is_other k e f = by (sym e ∙ f)
  where
    by : kind.Literal ≡ kind.Automatic → ⊥
    by e = cc

literal_is_not_static : (k : BaseKind) → k ≡ kind.Literal → k ≡ kind.Static → ⊥
literal_is_not_static k e f = by (sym e ∙ f)
  where
    by : kind.Literal ≡ kind.Static → ⊥
    by e = cc

same_kind : (bases : List BaseInfo) (b : ℕ) (x y : BaseInfo) → slice_get bases b ≡ Some x → slice_get bases b ≡ Some y → x.kind ≡ y.kind
same_kind bases b x y p q = ap (λ (i : BaseInfo). i.kind) (some_same x y (sym p ∙ q))

module _ (u : UnitView) (ts : List (Option TemplateView)) (entry : FunctionView) (is_entry : slice_get u.functions u.entry ≡ Some entry) (few : entry.parameters ≤ length entry.locals) (t : TemplateView) (is_template : template_at ts u.entry ≡ Some t) (ends : ends_block t.pieces ≡ true) (all_done : unfinished u ts entry.at ≡ [])
    (P : ℕ → Type 0) (there : (m : ℕ) → P m → (f : FunctionView) × (t : TemplateView) × (slice_get u.functions m ≡ Some f) × (template_at ts m ≡ Some t) × AllCalled P t.pieces) (calls : AllCalled P t.pieces) where
  -- ---- the opening from its start

  abbrev pub last : Made
  last = (inlining.whole u ts entry.at).program

  abbrev first_copy : CopyView
  first_copy = copied (entry_call entry.at u.entry) 0 entry t

  abbrev first_made : Made
  first_made = with_labels t.labels (nothing_made u)

  abbrev begun : Placed
  begun = with_parameters u entry.parameters (placed first_made first_copy)

  run_is : run u ts (2 ^ 64 - 1) (begun.within ∷ []) begun.program ≡ inlined [] last
  run_is =
      let k = entry_call entry.at u.entry in
      sym (ap (λ a. unresolved u ts (entered k [] (nothing_made u) a (template_at ts u.entry))) is_entry ∙ ap (λ b. unresolved u ts (entered k [] (nothing_made u) (Some entry) b)) is_template) ∙ ap (λ s. inlined s last) all_done

  first_good : Good u (placed first_made first_copy)
  first_good = record {
    table = record {
      all_objects = length-replicate (length u.objects) None;
      all_literals = length-replicate (length u.literals) None;
      objects = λ n k is. absurd (none_known u ts (length u.objects) n k is);
      literals = λ n k is. absurd (none_known u ts (length u.literals) n k is);
      objects_once = λ n m k is and. absurd (none_known u ts (length u.objects) n k is);
      literals_once = λ n m k is and. absurd (none_known u ts (length u.literals) n k is);
    };
    locals = record {
      all = length-replicate (length entry.locals + 1) None;
      are = λ slot j is. absurd (none_known u ts (length entry.locals + 1) slot j is);
      once = λ slot other j is and. absurd (none_known u ts (length entry.locals + 1) slot j is);
    };
  }

  nothing_numbered : Numbered u ts 0 (placed first_made first_copy)
  nothing_numbered = record { bases = refl; first = λ n less. absurd (omega (arith, less)); others = λ n le. none (length entry.locals + 1) n }
    where
      none : (count n : ℕ) → known (replicate count None) n ≡ None
      none zero n = refl
      none (suc k) zero = refl
      none (suc k) (suc n) = none k n

  parameters_named : Only u (placed first_made first_copy) begun × Numbered u ts entry.parameters begun
  parameters_named = numbered u ts entry.parameters (placed first_made first_copy) first_good nothing_numbered (fits entry.parameters (length entry.locals) (length (replicate (length entry.locals + 1) None)) few (length-replicate (length entry.locals + 1) None))
    where
      fits : (a b c : ℕ) → a ≤ b → c ≡ b + 1 → a ≤ c
      fits a b c le e = omega (arith, le, e)

  only : Only u (placed first_made first_copy) begun
  only = parameters_named.0

  rest_is : begun.within.rest ≡ t.pieces
  rest_is = ap (λ (c : CopyView). c.rest) only.within

  finishes : Finishes u ts P there (2 ^ 64 - 1) [] begun.within.rest begun.within begun.program last
  finishes = finish u ts P there (2 ^ 64 - 1) [] begun.within begun.program last (subst (AllCalled P) (sym rest_is) calls) only.good run_is

  pub final_copy : CopyView
  final_copy = finishes.copy

  opens : Opens u ts t.pieces begun.within begun.program final_copy last
  unfolding final_copy
  opens = subst₂ (λ ps n. Opens u ts ps begun.within begun.program finishes.copy n) rest_is (ap (λ (o : Inlined). o.program) (sym (no_copy u ts finishes.left finishes.between) ∙ finishes.rest)) finishes.opens

  pub none_ready : last.ready ≡ []
  none_ready = ready_none u ts false t.pieces begun.within begun.program final_copy last opens ends (λ e. absurd (differ e))
    where
      differ : false ≡ true → ⊥
      differ e = cc

  left : Leaves u ts begun.within begun.program final_copy last
  left = leaves u ts t.pieces begun.within begun.program final_copy last only.good opens

  -- the copy is what it was made as
  is_copy_of : final_copy ≡ with_locals final_copy.locals (with_rest final_copy.rest first_copy)
  is_copy_of = left.within ∙ ap (λ c. with_locals final_copy.locals (with_rest final_copy.rest c)) only.within

  same_function : final_copy.function ≡ entry
  same_function = ap (λ (c : CopyView). c.function) is_copy_of

  same_names : final_copy.names ≡ t.names
  same_names = ap (λ (c : CopyView). c.names) is_copy_of

  parameter_base : (n : ℕ) → n < entry.parameters → known final_copy.locals n ≡ Some n
  parameter_base n less = left.locals.kept n n (parameters_named.1.first n less)

  table : GoodTable u last.bases
  table = left.good.table

  locals : GoodLocals u final_copy.function last.bases.bases final_copy.locals
  locals = left.good.locals

  module _ (of : ℕ → TemplateView) (temps : ℕ) (low : HasLowTemps (lowered u entry (finished last) temps)) (of_entry : of u.entry ≡ t) (is_fit : IsFit u entry t) (once : MarkedOnce t.labels t.pieces)
      (fits : (m : ℕ) → P m → (f : FunctionView) (t : TemplateView) → slice_get u.functions m ≡ Some f → template_at ts m ≡ Some t → Fits u ts of entry temps last none_ready low P m f t) where
    abbrev pub program : copies.Inlined
    program = whole u of entry temps last none_ready low

    abbrev pub first : Copy
    first = copy_at u of entry temps last none_ready low u.entry 0 final_copy

    -- ---- the layout

    laid : Laid program first [] (of u.entry).pieces 0 0 (length last.blocks) (length last.ready)
    laid =
        let blocks : length begun.program.blocks ≡ 0 = ap (λ (m : Made). length m.blocks) only.program in
        let ready : length begun.program.ready ≡ 0 = ap (λ (m : Made). length m.ready) only.program in
        let labels : final_copy.labels ≡ 0 = ap (λ (c : CopyView). c.labels) is_copy_of in
        let count : length begun.program.labels ≡ t.labels = ap (λ (m : Made). length m.labels) only.program ∙ length-replicate t.labels 0 in
        subst (λ (x : TemplateView). Laid program first [] x.pieces 0 0 (length last.blocks) (length last.ready)) (sym of_entry)
        (subst₂ (λ i j. Laid program first [] t.pieces i j (length last.blocks) (length last.ready)) blocks ready
        (lay u ts of entry temps last none_ready low P fits u.entry 0 t.labels t.pieces begun.within begun.program final_copy last [] opens only.good
        (record {
          function = is_entry ∙ ap Some (sym same_function);
          names = ap (λ (x : TemplateView). x.names) of_entry ∙ sym same_names;
          deep = ap (λ (c : CopyView). c.depth) is_copy_of;
          named = λ k x is. subst (λ f. IsNameThere u f x) (sym same_function) (is_fit.named k x (ap (λ xs. slice_get xs k) (sym same_names) ∙ is));
          to_last = extends_same last;
          labels = λ l le less. refl;
        })
        (record {
          fit = subst₂ (λ f names. ArePiecesFit u f names t.pieces) (sym same_function) (sym same_names) is_fit.pieces;
          calls = calls;
          once = once;
          room = room final_copy.labels (length begun.program.labels) labels count;
          avoid = tt;
        })))
      where
        room : (a b : ℕ) → a ≡ 0 → b ≡ t.labels → a + t.labels ≤ b
        room a b p q = omega (arith, p, q)

    -- ---- what bases are

    is_copy : IsCopy program first
    is_copy = record { are_locals = λ slot b is. a_local slot b (locals.are slot b is); own = locals.once }
      where
        a_local : (slot b : ℕ) → LocalAt u final_copy.function last.bases.bases slot b → IsLocal program first slot b
        a_local slot b x = record { function = final_copy.function; stands = is_entry ∙ ap Some (sym same_function); info = x.info; there = x.there; is_automatic = x.is_automatic; size = x.size; cells = x.cells }

    are_objects : (n b : ℕ) → known last.bases.objects n ≡ Some b → IsObject program n b
    are_objects n b is = let x = table.objects n b is in record { object = x.object; stands = x.stands; info = x.info; there = x.there; is_static = x.is_static; size = x.size }

    are_literals : (n b : ℕ) → known last.bases.literals n ≡ Some b → IsLiteral program n b
    are_literals n b is = let x = table.literals n b is in record { literal = x.literal; stands = x.stands; info = x.info; there = x.there; is_literal = x.is_literal; size = x.size }

    not_object : (b : ℕ) (info : BaseInfo) → slice_get last.bases.bases b ≡ Some info → info.kind ≡ kind.Automatic → (n : ℕ) → known last.bases.objects n ≡ Some b → ⊥
    not_object b info is automatic n there = let x = table.objects n b there in static_is_other x.info.kind x.is_static (same_kind last.bases.bases b x.info info x.there is ∙ automatic)

    not_literal : (b : ℕ) (info : BaseInfo) → slice_get last.bases.bases b ≡ Some info → info.kind ≡ kind.Automatic → (n : ℕ) → known last.bases.literals n ≡ Some b → ⊥
    not_literal b info is automatic n there = let x = table.literals n b there in literal_is_other x.info.kind x.is_literal (same_kind last.bases.bases b x.info info x.there is ∙ automatic)

    -- ---- names when a run begins

    abbrev named_objects : Names
    named_objects = name_objects u (objects_from u last.bases 0 u.objects ++ literals_from last.bases 0 u.literals) empty_table

    in_order : (b : ℕ) → named_objects b ≡ name_objects u (literals_from last.bases 0 u.literals) (name_objects u (objects_from u last.bases 0 u.objects) empty_table) b
    in_order b = ap (λ names. names b) (in_turn u (objects_from u last.bases 0 u.objects) (literals_from last.bases 0 u.literals) empty_table)

    abbrev its_names : Names
    its_names = start_names u (lowered u entry (finished last) temps)

    past_parameters : (b : ℕ) → entry.parameters ≤ b → its_names b ≡ named_objects b
    past_parameters b le = parameters_miss u 0 (inputs entry entry.parameters) named_objects b (inputs_from u entry entry.parameters) (inr (past b (length (inputs entry entry.parameters)) (count_inputs u entry entry.parameters) le))
      where
        past : (b k : ℕ) → k ≡ entry.parameters → entry.parameters ≤ b → 0 + k ≤ b
        past b k e le = omega (arith, e, le)

    -- a base that is no object's of the entry lies behind its parameters
    shared_past : (b : ℕ) (info : BaseInfo) → slice_get last.bases.bases b ≡ Some info → (info.kind ≡ kind.Automatic → ⊥) → entry.parameters ≤ b
    shared_past b info is other = by (nat_lt b entry.parameters) refl
      where
        by : (k : Bool) → nat_lt b entry.parameters ≡ k → entry.parameters ≤ b
        by false e = ltb-false b entry.parameters e
        by true e = let x = locals.are b b (parameter_base b (ltb-true b entry.parameters e)) in absurd (other (same_kind last.bases.bases b info x.info is x.there ∙ x.is_automatic))

    objects : (n b : ℕ) → known last.bases.objects n ≡ Some b → its_names b ≡ Some n
    objects n b is =
        let x = table.objects n b is in
        let less = within u.objects n x.object x.stands in
        past_parameters b (shared_past b x.info x.there (λ e. static_is_other x.info.kind x.is_static e)) ∙ in_order b
        ∙ literals_miss u last.bases 0 u.literals (name_objects u (objects_from u last.bases 0 u.objects) empty_table) b (λ m le there. other m there)
        ∙ objects_hit u last.bases 0 u.objects empty_table n b (λ m there. table.objects_once m n b there is) (omega arith) (omega (arith, less)) is
      where
        other : (m : ℕ) → known last.bases.literals m ≡ Some b → ⊥
        other m there = let x = table.objects n b is in let y = table.literals m b there in literal_is_not_static y.info.kind y.is_literal (same_kind last.bases.bases b y.info x.info y.there x.there ∙ x.is_static)

    literals : (n b : ℕ) → known last.bases.literals n ≡ Some b → its_names b ≡ Some (literal_instance u n)
    literals n b is =
        let x = table.literals n b is in
        let less = within u.literals n x.literal x.stands in
        past_parameters b (shared_past b x.info x.there (λ e. literal_is_other x.info.kind x.is_literal e)) ∙ in_order b
        ∙ literals_hit u last.bases 0 u.literals (name_objects u (objects_from u last.bases 0 u.objects) empty_table) n b (λ m there. table.literals_once m n b there is) (omega arith) (omega (arith, less)) is

    -- a base of an automatic object that is no parameter's names nothing
    nothing_named : (b : ℕ) (info : BaseInfo) → slice_get last.bases.bases b ≡ Some info → info.kind ≡ kind.Automatic → entry.parameters ≤ b → its_names b ≡ None
    nothing_named b info is automatic le =
        past_parameters b le ∙ in_order b
        ∙ literals_miss u last.bases 0 u.literals (name_objects u (objects_from u last.bases 0 u.objects) empty_table) b (λ m at there. not_literal b info is automatic m there)
        ∙ objects_miss u last.bases 0 u.objects empty_table b (λ m at there. not_object b info is automatic m there)

    is_parameter : (n : ℕ) → n < entry.parameters → its_names n ≡ Some (parameter_instance u n)
    is_parameter n less = parameters_hit u 0 (inputs entry entry.parameters) named_objects n (inputs_from u entry entry.parameters) (omega arith) (under n (length (inputs entry entry.parameters)) (count_inputs u entry entry.parameters) less)
      where
        under : (n k : ℕ) → k ≡ entry.parameters → n < entry.parameters → n < 0 + k
        under n k e less = omega (arith, e, less)

    count_parameters : length (entry_parameters u) ≡ entry.parameters
    count_parameters = ap (λ f. length (parameters_of f)) is_entry ∙ take_length entry.parameters entry.locals few

    parameters : (n b : ℕ) → known final_copy.locals n ≡ Some b → its_names b ≡ source.name_parameters u 0 (entry_parameters u) n
    parameters n b is = by (nat_lt n entry.parameters) refl
      where
        under : (n k : ℕ) → k ≡ entry.parameters → n < entry.parameters → n < 0 + k
        under n k e less = omega (arith, e, less)

        past : (n k : ℕ) → k ≡ entry.parameters → entry.parameters ≤ n → 0 + k ≤ n
        past n k e le = omega (arith, e, le)

        apart : (b : ℕ) → n ≡ b → b < entry.parameters → entry.parameters ≤ n → ⊥
        apart b e less le = omega (arith, e, less, le)

        behind : entry.parameters ≤ n → entry.parameters ≤ b
        behind le = at (nat_lt b entry.parameters) refl
          where
            at : (k : Bool) → nat_lt b entry.parameters ≡ k → entry.parameters ≤ b
            at false e = ltb-false b entry.parameters e
            at true e = let less = ltb-true b entry.parameters e in absurd (apart b (locals.once n b b is (parameter_base b less)) less le)

        by : (k : Bool) → nat_lt n entry.parameters ≡ k → its_names b ≡ source.name_parameters u 0 (entry_parameters u) n
        by true e =
            let less = ltb-true n entry.parameters e in
            let same : b ≡ n = some_same b n (sym is ∙ parameter_base n less) in
            ap its_names same ∙ is_parameter n less ∙ sym (source_hit u 0 (entry_parameters u) n (omega arith) (under n (length (entry_parameters u)) count_parameters less))
        by false e =
            let le = ltb-false n entry.parameters e in
            let x = locals.are n b is in
            nothing_named b x.info x.there x.is_automatic (behind le) ∙ sym (source_miss u 0 (entry_parameters u) n (inr (past n (length (entry_parameters u)) count_parameters le)))

    others : (b : ℕ) → IsAutomatic program b → (its_names b ≡ None) ⊎ ((n : ℕ) × (known final_copy.locals n ≡ Some b))
    others b x = by (nat_lt b entry.parameters) refl
      where
        by : (k : Bool) → nat_lt b entry.parameters ≡ k → (its_names b ≡ None) ⊎ ((n : ℕ) × (known final_copy.locals n ≡ Some b))
        by true e = inr (b, parameter_base b (ltb-true b entry.parameters e))
        by false e = inl (nothing_named b x.info x.there x.is_automatic (ltb-false b entry.parameters e))

    pub is_laid_out : IsLaidOut program first
    is_laid_out = record {
      function = refl;
      depth = refl;
      is_copy = is_copy;
      end = length last.blocks;
      last = length last.ready;
      laid = laid;
      are_objects = are_objects;
      are_literals = are_literals;
      objects = objects;
      literals = literals;
      parameters = parameters;
      others = others;
    }
