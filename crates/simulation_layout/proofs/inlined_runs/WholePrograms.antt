-- The entry's template is laid out in the finished program from its first block on.
use Rattle.std.proofs.Common.{◌≡◌, ◌<◌, ◌≤◌, ◌⊎◌, inl, inr, ℕ, zero, suc, ◌+◌, ◌-◌, ◌^◌, min, Bool, true, false, cond, nat_lt, List, [], ◌∷◌, ◌++◌, length, replicate, take, get_or, Option, Some, None, refl, arith, ap, sym, subst, subst₂, ◌∙◌, length-append}
use Rattle.std.specs.List.{slice_get, slice_set}
use Rattle.std.proofs.lemmas.Bool.{ltb-true, ltb-false}
use Rattle.std.proofs.lemmas.List.{length-replicate}
use Rattle.cc_base.specs.declared.diagnostics.Place.{Place}
use Rattle.c_layout.specs.CheckedUnits.{FunctionView, UnitView}
use Rattle.c_layout.specs.declared.shapes.BaseInfo.{BaseInfo}
use Rattle.c_layout.specs.declared.shapes.BaseKind.{BaseKind}
use Rattle.c_layout.specs.declared.shapes.BaseKind.TheVariants as kind
use Rattle.memory_model.specs.Effects.NumberedTables.{empty_table}
use Rattle.memory_model.specs.Effects.UnitStarts.{literal_instance, parameter_instance, parameters_of, entry_parameters}
use Rattle.lower_functions.specs.Functions.Functions.{local_type}
use Rattle.lower.specs.TemplateLaws.PieceOrder.{is_end, last_ends, ends_block}
use Rattle.lower_templates.specs.Worklist.Pieces.{NameView, Local, PieceView, End, TemplateView}
use Rattle.lower_templates.specs.declared.worklist.template_pieces.OwnCall.{OwnCall}
use Rattle.semantics.specs.CfgMachine.FlowStarts.{name_objects, name_parameters, start_names}
use Rattle.semantics.specs.SourceMachine.SourceRuns as source
use Rattle.lower_tables.specs.Bases.BaseTables.{TableView, found_in, known, local_or}
use Rattle.lower_tables.specs.Bases.InitialBytes.{objects_from, literals_from}
use Rattle.lower.specs.Inlining.Lowerings.{inputs, lowered}
use Rattle.lower.specs.Inlining.Inlinings.{Made, CopyView, Placed, Inlined, placed, inlined, with_locals, with_rest, with_bases, with_labels, copied, template_at, entered, with_local, with_parameters, entry_call, nothing_made, run, finished}
use Rattle.lower.specs.Inlining.Inlinings as inlining
use Rattle.lower.proofs.inlining.CountedCalls.{AllCalled}
use Rattle.lower.proofs.inlining.InliningTurns.{no_copy}
use Rattle.simulation_layout.proofs.inlined_layout.ShiftedValues as tables
use Rattle.simulation_layout.specs.InlinedLayout.Copies.{Copy, IsLocal, IsCopy, IsObject, IsLiteral}
use Rattle.simulation_layout.specs.InlinedLayout.Layouts.{Laid, IsAutomatic, IsLaidOut}
use Rattle.simulation_layout.specs.Copies.LowTemporaries.{HasLowTemps}
use Rattle.simulation_layout.specs.Inlining.NameRanges.{IsNameThere}
use Rattle.simulation_layout.specs.Copies.FitTemplates.{IsFit}
use Rattle.simulation_layout.proofs.inlining.ListPlaces.{some_same, none_is_not, within, one_longer, some_at, known_there, set_here, set_kept, set_length}
use Rattle.simulation_layout.proofs.inlining.NamedTables.{ObjectAt, LiteralAt, LocalAt, GoodTable, GoodLocals, More, more_same}
use Rattle.simulation_layout.proofs.inlining.MadeParts.{Extends, extends_same}
use Rattle.simulation_layout.proofs.inlining.NamedPlaces.{Good, Only, only_none, only_twice, only_local}
use Rattle.simulation_layout.proofs.inlining.InlinedCopies.{Opens, done, piece, call, Leaves, leaves, Finishes, finish, none_known, after_piece, is_call}
use Rattle.simulation_layout.proofs.copies.LaidNames.{whole, copy_at}
use Rattle.simulation_layout.proofs.copies.LaidCopies.{MarkedOnce, Fits}
use Rattle.simulation_layout.proofs.copies.LaidInlinings.{lay}
use Rattle.simulation_layout.proofs.inlined_runs.StartNames.{in_turn, objects_miss, objects_hit, literals_miss, literals_hit, count_inputs, inputs_from, parameters_miss, parameters_hit, source_miss, source_hit, take_length}

module _ (u : UnitView) (ts : List (Option TemplateView)) where
  -- ---- behind the end of a block nothing is left

  pub ready_none : (b : Bool) (ps : List PieceView) (c : CopyView) (m : Made) (d : CopyView) (n : Made) → Opens u ts ps c m d n → last_ends b ps ≡ true → (b ≡ true → m.ready ≡ []) → n.ready ≡ []
  ready_none b _ c m _ _ (done _ _) ends before = before ends
  ready_none b _ c m d n (call k ps _ _ f t e between _ _ is_function is_template inside behind) ends before = ready_none false ps (with_rest ps c) between d n behind ends (λ no_end. absurd (differ no_end))
    where
      differ : false ≡ true → ⊥
      differ e = cc
  ready_none b _ c m d n (piece q ps _ _ _ _ other opens) ends before = ready_none (is_end q) ps (after_piece u ts q ps c m).within (after_piece u ts q ps c m).program d n opens ends (by q)
    where
      differ : false ≡ true → ⊥
      differ e = cc

      by : (q : PieceView) → is_end q ≡ true → (after_piece u ts q ps c m).program.ready ≡ []
      by (End s exits) e = refl
      by other e = absurd (differ e)

  -- ---- the bases of the entry's parameters

  -- the first so many objects have the first bases, in order
  pub record Numbered (count : ℕ) (p : Placed) : Type 0 where
    pub bases : length p.program.bases.bases ≡ count
    pub first : (n : ℕ) → n < count → known p.within.locals n ≡ Some n
    pub others : (n : ℕ) → count ≤ n → known p.within.locals n ≡ None

  numbered_next : (count : ℕ) (p : Placed) → count < length p.within.locals → Numbered count p → Numbered (suc count) (with_local u count p)
  numbered_next count p less x = by (slice_get p.within.locals count) refl
    where
      locals : List (Option ℕ)
      locals = p.within.locals

      b : TableView
      b = p.program.bases

      f : FunctionView
      f = p.within.function

      new : (n : ℕ) → n < suc count → known (slice_set p.within.locals count (Some (length p.program.bases.bases))) n ≡ Some n
      new n under = at (tables.compared n count)
        where
          at : tables.Compared n count → known (slice_set p.within.locals count (Some (length p.program.bases.bases))) n ≡ Some n
          at (tables.same e) = ap (λ k. known (slice_set p.within.locals count (Some (length p.program.bases.bases))) k) e ∙ set_here p.within.locals count (length p.program.bases.bases) less ∙ ap Some (x.bases ∙ sym e)
          at (tables.other apart) = set_kept p.within.locals count (length p.program.bases.bases) n n (x.others count (le count)) (x.first n (omega (arith, under, apart)))
            where
              le : (k : ℕ) → k ≤ k
              le k = omega arith

      old : (xs : List (Option ℕ)) (m k n : ℕ) → (n ≡ m → ⊥) → known (slice_set xs m (Some k)) n ≡ known xs n
      old [] m k n apart = refl
      old (y ∷ ys) zero k zero apart = absurd (apart refl)
      old (y ∷ ys) zero k (suc n) apart = refl
      old (y ∷ ys) (suc m) k zero apart = refl
      old (y ∷ ys) (suc m) k (suc n) apart = old ys m k n (λ e. apart (ap suc e))

      behind : (n : ℕ) → suc count ≤ n → known (slice_set p.within.locals count (Some (length p.program.bases.bases))) n ≡ None
      behind n past = old p.within.locals count (length p.program.bases.bases) n (λ e. apart n past e) ∙ x.others n (omega (arith, past))
        where
          apart : (n : ℕ) → suc count ≤ n → n ≡ count → ⊥
          apart n past e = omega (arith, past, e)

      by : (o : Option (Option ℕ)) → slice_get p.within.locals count ≡ o → Numbered (suc count) (inlining.after_naming (local_or u p.within.function count p.within.locals p.program.bases o) p)
      by None is = absurd (missing p.within.locals count less is)
        where
          missing : (xs : List (Option ℕ)) (n : ℕ) → n < length xs → slice_get xs n ≡ None → ⊥
          missing [] n less is = omega (arith, less)
          missing (y ∷ ys) zero less is = cc
          missing (y ∷ ys) (suc n) less is = missing ys n (omega (arith, less)) is
      by (Some (Some k)) is = absurd (none_is_not k (sym (x.others count (le count)) ∙ ap found_in is))
        where
          le : (k : ℕ) → k ≤ k
          le k = omega arith
      by (Some None) is = record { bases = one_longer p.program.bases.bases _ ∙ ap suc x.bases; first = new; others = behind }

  pub numbered : (count : ℕ) (p : Placed) → Good u p → Numbered 0 p → count ≤ length p.within.locals → Only u p (with_parameters u count p) × Numbered count (with_parameters u count p)
  numbered zero p g x le = (only_none u p g, x)
  numbered (suc n) p g x le =
      let before = numbered n p g x (omega (arith, le)) in
      let q = with_parameters u n p in
      let next = only_local u n q before.0.good in
      (only_twice u p q (with_local u n q) before.0 next, numbered_next n q (longer (length q.within.locals) (length p.within.locals) (same_length before.0) le) before.1)
    where
      longer : (a b : ℕ) → a ≡ b → suc n ≤ b → n < a
      longer a b e le = omega (arith, e, le)

      same_length : Only u p (with_parameters u n p) → length (with_parameters u n p).within.locals ≡ length p.within.locals
      same_length o = o.good.locals.all ∙ ap (λ (c : CopyView). length c.function.locals + 1) o.within ∙ sym g.locals.all
