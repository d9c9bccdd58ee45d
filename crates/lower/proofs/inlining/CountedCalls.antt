-- What is counted of the functions that a unit's entry reaches.
use Rattle.std.proofs.Common.{◌≡◌, ◌==◌, ℕ, suc, Bool, true, false, cond, List, [], ◌∷◌, ◌++◌, Option, Some, slice_get, refl, ap, sym, subst, ◌∙◌}
use Rattle.c_layout.specs.CheckedUnits.{FunctionView, UnitView}
use Rattle.lower_templates.specs.Worklist.Pieces.{PieceView, Do, DoIfUsed, End, Mark, Call, TemplateView}
use Rattle.lower_objects.specs.declared.counts.function_counts.FunctionCounts.{FunctionCounts}
use Rattle.lower_objects.specs.Counts.PieceCounts.{extent, if_used}
use Rattle.lower_tables.specs.Counts.NormalizedTemplates.{NamesView, SettlingView, adds_nothing, renamed, renamed_end, is_last, with_renamed, with_if, with_all, nothing_normalized, renaming, normalized}
use Rattle.lower_tables.specs.Counts.Preparations.{IsTemplateOf, Calls, Reaches, further, is_there, are_counted, counts_from, counts, IsNormalized, IsPrepared}
use Rattle.lower_tables.proofs.counts.OneCount.{one_count, one_normalized}
use Rattle.lower.specs.TemplateLaws.PieceOrder.{AreFollowed}
use Rattle.lower.proofs.template_laws.TemplateOrder.{template_followed}
use Rattle.lower.proofs.template_laws.NormalizedOrder.{normalized_followed}
use Rattle.lower.specs.Inlining.Inlinings.{joined, template_at}
use Rattle.lower.proofs.inlining.PieceExtents.{CountsOf}

-- what holds of each function that pieces call
abbrev pub CalledIs : (ℕ → Type 0) → PieceView → Type 0
CalledIs P (Do s) = Unit {0}
CalledIs P (DoIfUsed s) = Unit {0}
CalledIs P (End s exits) = Unit {0}
CalledIs P (Mark label) = Unit {0}
CalledIs P (Call c) = P c.function

abbrev pub AllCalled : (ℕ → Type 0) → List PieceView → Type 0
AllCalled P [] = Unit {0}
AllCalled P (p ∷ ps) = CalledIs P p × AllCalled P ps

called_first : (P : ℕ → Type 0) (p : PieceView) (ps : List PieceView) → ((m : ℕ) → Calls (p ∷ ps) m → P m) → CalledIs P p
called_first P (Do s) ps each = tt
called_first P (DoIfUsed s) ps each = tt
called_first P (End s exits) ps each = tt
called_first P (Mark label) ps each = tt
called_first P (Call c) ps each = each c.function (0, Call c, refl, refl)

later : (p : PieceView) (ps : List PieceView) (m : ℕ) → Calls ps m → Calls (p ∷ ps) m
later p ps m (at, q, is, calls) = (suc at, q, is, calls)

all_called : (P : ℕ → Type 0) (ps : List PieceView) → ((m : ℕ) → Calls ps m → P m) → AllCalled P ps
all_called P [] each = tt
all_called P (p ∷ ps) each = (called_first P p ps each, all_called P ps (λ m calls. each m (later p ps m calls)))

called_more : (P : ℕ → Type 0) (ps : List PieceView) (p : PieceView) → AllCalled P ps → CalledIs P p → AllCalled P (ps ++ p ∷ [])
called_more P [] p all one = (one, tt)
called_more P (q ∷ ps) p (first, all) one = (first, called_more P ps p all one)

called_or : (P : ℕ → Type 0) (b : Bool) (g h : SettlingView) → AllCalled P g.pieces → AllCalled P h.pieces → AllCalled P (cond b g h).pieces
called_or P true g h x y = x
called_or P false g h x y = y

called_renamed : (P : ℕ → Type 0) (n : NamesView) (p : PieceView) (g : SettlingView) → CalledIs P p → AllCalled P g.pieces → AllCalled P (with_renamed n p g).pieces
called_renamed P n (Do s) g one all = called_more P g.pieces (Do s) all tt
called_renamed P n (DoIfUsed s) g one all = called_more P g.pieces (DoIfUsed s) all tt
called_renamed P n (End s exits) g one all = called_more P g.pieces (renamed_end n s exits) all tt
called_renamed P n (Mark label) g one all = called_or P (is_last g.last (renamed n label)) g _ all (called_more P g.pieces (Mark (renamed n label)) all tt)
called_renamed P n (Call c) g one all = called_more P g.pieces (Call c) all one

called_if : (P : ℕ → Type 0) (table : List (Option FunctionCounts)) (n : NamesView) (p : PieceView) (g : SettlingView) → CalledIs P p → AllCalled P g.pieces → AllCalled P (with_if table n p g).pieces
unfolding with_if
called_if P table n p g one all = called_or P (adds_nothing table p) g (with_renamed n p g) all (called_renamed P n p g one all)

called_all : (P : ℕ → Type 0) (table : List (Option FunctionCounts)) (n : NamesView) (ps : List PieceView) (g : SettlingView) → AllCalled P ps → AllCalled P g.pieces → AllCalled P (with_all table n ps g).pieces
called_all P table n [] g each all = all
called_all P table n (p ∷ ps) g (one, each) all = called_all P table n ps (with_if table n p g) each (called_if P table n p g one all)

-- pieces that are settled call what was called
normalized_calls : (P : ℕ → Type 0) (table : List (Option FunctionCounts)) (t : TemplateView) → AllCalled P t.pieces → AllCalled P (normalized table t).pieces
normalized_calls P table t each = called_all P table (renaming table t.pieces t.labels) t.pieces nothing_normalized each tt

are_there : (table : List (Option FunctionCounts)) (ps : List PieceView) → AllCalled (λ m. is_there (slice_get table m) ≡ true) ps → are_counted table ps ≡ true
are_there table [] each = refl
are_there table (Do s ∷ ps) (one, each) = are_there table ps each
are_there table (DoIfUsed s ∷ ps) (one, each) = are_there table ps each
are_there table (End s exits ∷ ps) (one, each) = are_there table ps each
are_there table (Mark label ∷ ps) (one, each) = are_there table ps each
are_there table (Call c ∷ ps) (one, each) = ap (λ b. cond b (are_counted table ps) false) one ∙ are_there table ps each

-- a function that is reached: its settled template, and what is counted of it
pub record IsKnown (u : UnitView) (templates : List (Option TemplateView)) (table : List (Option FunctionCounts)) (n : ℕ) : Type 0 where
  pub function : FunctionView
  pub plain : TemplateView
  pub template : TemplateView
  pub is_template : IsTemplateOf u n function plain
  pub settles : template ≡ normalized table plain
  pub is_there : template_at templates n ≡ Some template
  pub calls : AllCalled (Reaches u) template.pieces
  pub followed : AreFollowed template.pieces
  pub counts : FunctionCounts
  pub is_counted : slice_get table n ≡ Some (Some counts)
  pub made : counts ≡ counts_from u n function plain table
  pub counted : CountsOf table template.pieces counts

counts_of_normalized : (u : UnitView) (n : ℕ) (f : FunctionView) (t s : TemplateView) (table : List (Option FunctionCounts)) (c : FunctionCounts) → c ≡ counts_from u n f t table → s ≡ normalized table t → CountsOf table s.pieces c
counts_of_normalized u n f t s table c is same = record {
  from_empty = ap (λ k. k.from_empty) is ∙ ap (λ r. extent table r.pieces true) (sym same);
  from_begun = ap (λ k. k.from_begun) is ∙ ap (λ r. extent table r.pieces false) (sym same);
  if_used = ap (λ k. k.if_used) is ∙ ap (λ r. if_used r.pieces 0) (sym same);
}

pub known : (u : UnitView) (templates : List (Option TemplateView)) (table : List (Option FunctionCounts)) (n : ℕ) → IsPrepared u templates table → Reaches u n → IsKnown u templates table n
known u templates table n prepared reached =
    let (s, c, there, is) = prepared.all n reached in
    let x = prepared.are_normalized n s there in
    let reaches : (m : ℕ) → Calls x.template.pieces m → Reaches u m = λ m calls. further n m x.function x.template reached x.is_template calls in
    let each = all_called (Reaches u) x.template.pieces reaches in
    let all_there = are_there table x.template.pieces (all_called (λ m. is_there (slice_get table m) ≡ true) x.template.pieces (λ m calls. counted_at (reaches m calls))) in
    let here : IsNormalized u n (normalized table x.template) = record { function = x.function; template = x.template; table = table; is_template = x.is_template; few = x.few; reached = reached; all_counted = all_there; are_counts = prepared.are_counts; settles = refl } in
    let same = one_normalized u n s (normalized table x.template) x here in
    let made = one_count u n c (counts_from u n x.function x.template table) (prepared.are_counts n c is) (counts n x.function x.template table x.is_template all_there prepared.are_counts) in
    record {
      function = x.function;
      plain = x.template;
      template = s;
      is_template = x.is_template;
      settles = same;
      is_there = ap joined there;
      calls = subst (λ r. AllCalled (Reaches u) r.pieces) (sym same) (normalized_calls (Reaches u) table x.template each);
      followed = subst (λ r. AreFollowed r.pieces) (sym same) (normalized_followed table x.template (template_followed u.structs u.model.pointer u.model.int x.function (n == u.entry) x.template x.is_template.is_template));
      counts = c;
      is_counted = is;
      made = made;
      counted = counts_of_normalized u n x.function x.template s table c made same;
    }
  where
    counted_at : {m : ℕ} → Reaches u m → is_there (slice_get table m) ≡ true
    counted_at {m = m} r = let (s, c, there, is) = prepared.all m r in ap is_there is
