-- What is plain is plain but for loops, and templates that lead on are calm.
use Rattle.std.proofs.Common.{◌≡◌, inl, inr, ℕ, Bool, true, false, ◌&&◌, List, [], ◌∷◌, refl, ap, ◌∙◌}
use Rattle.std.proofs.lemmas.Bool.{and_parts}
use Rattle.c_layout.specs.CheckedTrees as tree
use Rattle.c_layout.specs.CheckedTrees.{StatementTree, StatementTrees, statement_trees}
use Rattle.c_layout.specs.CheckedUnits.{FunctionView, UnitView}
use Rattle.std.specs.List.{list_all}
use Rattle.lower_templates.specs.Worklist.Pieces.{PieceView, TemplateView}
use Rattle.typed_programs.specs.PlainUnits.PlainTerms.{is_plain_term}
use Rattle.typed_programs.specs.PlainUnits.PlainStatements.{stands_or, stands_among, is_plain_statement, are_plain_statements}
use Rattle.typed_programs.specs.PlainUnits.PlainUnits.{no_label, is_plain_function}
use Rattle.typed_programs.specs.PlainUnits.ShortArrays.{has_short_arrays, is_short_local}
use Rattle.typed_programs.specs.PlainWorklists.LeadingPieces.{Marked, LeadOn, NoLabel, LeadsOn}
use Rattle.typed_programs.proofs.plain_worklists.LeadingWorks.{leading_more}
use Rattle.typed_lowering.specs.LoopedUnits.LoopedStatements.{is_looped_statement, are_looped_statements}
use Rattle.typed_lowering.specs.LoopedUnits.LoopedUnits.{is_looped_function}
use Rattle.typed_lowering.specs.LoopedUnits.CalmTemplates.{IsMarkedIn, IsCalm}

both_true : (a b : Bool) → a ≡ true → b ≡ true → (a && b) ≡ true
both_true a b e f = ap (λ x. x && b) e ∙ f

mutual
  pub plain_looped : (calls later : ℕ → Bool) (breaks : Bool) (i : StatementTree) → is_plain_statement calls later breaks i ≡ true → is_looped_statement calls i ≡ true
  plain_looped calls later breaks (tree.Value e) is = is
  plain_looped calls later breaks tree.Nothing is = refl
  plain_looped calls later breaks (tree.Forget at local) is = refl
  plain_looped calls later breaks (tree.Start at local e) is = is
  plain_looped calls later breaks (tree.StartCopy at local l) is = is
  plain_looped calls later breaks (tree.StartList at local stores) is = is
  plain_looped calls later breaks (tree.Block objects items) is = all_plain_looped calls later breaks items is
  plain_looped calls later breaks (tree.If e body) is = let p = and_parts (is_plain_term calls e) _ is in both_true (is_plain_term calls e) (is_looped_statement calls body) p.0 (plain_looped calls later breaks body p.1)
  plain_looped calls later breaks (tree.IfElse e first second) is =
      let p = and_parts (is_plain_term calls e) _ is in
      let q = and_parts (is_plain_statement calls (stands_or second later) breaks first) _ p.1 in
      both_true (is_plain_term calls e) _ p.0 (both_true (is_looped_statement calls first) (is_looped_statement calls second) (plain_looped calls (stands_or second later) breaks first q.0) (plain_looped calls later breaks second q.1))
  plain_looped calls later breaks (tree.While e body) is = absurd (cc)
  plain_looped calls later breaks (tree.Do body e) is = absurd (cc)
  plain_looped calls later breaks (tree.For objects first e step body) is = absurd (cc)
  plain_looped calls later breaks (tree.Switch at e labels has_default values body) is = let p = and_parts (is_plain_term calls e) _ is in both_true (is_plain_term calls e) (is_looped_statement calls body) p.0 (plain_looped calls later true body p.1)
  plain_looped calls later breaks (tree.Case n body) is = plain_looped calls later breaks body is
  plain_looped calls later breaks (tree.Default body) is = plain_looped calls later breaks body is
  plain_looped calls later breaks (tree.Label n body) is = plain_looped calls later breaks body is
  plain_looped calls later breaks (tree.Goto n) is = refl
  plain_looped calls later breaks tree.Break is = refl
  plain_looped calls later breaks tree.Continue is = refl
  plain_looped calls later breaks (tree.Return at e) is = is

  pub all_plain_looped : (calls later : ℕ → Bool) (breaks : Bool) (is : StatementTrees) → are_plain_statements calls later breaks is ≡ true → are_looped_statements calls is ≡ true
  all_plain_looped calls later breaks tree.NoMore is = refl
  all_plain_looped calls later breaks (tree.And first rest) is =
      let p = and_parts (is_plain_statement calls (stands_among rest later) breaks first) _ is in
      both_true (is_looped_statement calls first) (are_looped_statements calls rest) (plain_looped calls (stands_among rest later) breaks first p.0) (all_plain_looped calls later breaks rest p.1)

pub plain_function_looped : (u : UnitView) (calls : ℕ → Bool) (f : FunctionView) → is_plain_function u calls f ≡ true → is_looped_function u calls f ≡ true
plain_function_looped u calls f is =
    let p = and_parts (list_all (is_short_local u.structs) f.locals && has_short_arrays u.structs f.returns) _ is in
    both_true (list_all (is_short_local u.structs) f.locals && has_short_arrays u.structs f.returns) _ p.0 (all_plain_looped calls no_label false (statement_trees f.body) p.1)

-- ---- templates

marked_more : (L M : ℕ → Type 0) (ps : List PieceView) → ((l : ℕ) → L l → M l) → (l : ℕ) → Marked ps L l → Marked ps M l
marked_more L M [] more l is = more l is
marked_more L M (p ∷ ps) more l (inl is) = inl is
marked_more L M (p ∷ ps) more l (inr is) = inr (marked_more L M ps more l is)

pub lead_further : (calls : ℕ → Bool) (L M : ℕ → Type 0) (ps : List PieceView) → ((l : ℕ) → L l → M l) → LeadOn calls L ps → LeadOn calls M ps
lead_further calls L M [] more leads = tt
lead_further calls L M (p ∷ ps) more (one, rest) = (leading_more calls (Marked ps L) (Marked ps M) p (marked_more L M ps more) one, lead_further calls L M ps more rest)

pub leads_calm : (calls : ℕ → Bool) (t : TemplateView) → LeadsOn calls t → IsCalm calls t
leads_calm calls t leads = record { pieces = lead_further calls NoLabel (IsMarkedIn t) t.pieces (λ l is. absurd is) leads.pieces; names = leads.names }
