-- A program that is lowered has the counts that were made first.
use Rattle.std.proofs.Common.{◌≡◌, ◌==◌, ◌⊎◌, inl, inr, ◌<◌, ◌≤◌, ℕ, ◌+◌, ◌^◌, Bool, true, false, cond, min, nat_le, zero, suc, List, [], ◌∷◌, length, Option, Some, None, slice_get, refl, arith, ap, sym, subst, ◌∙◌}
use Rattle.std.proofs.lemmas.Bool.{eq-eqb}
use Rattle.std.proofs.lemmas.Bool.Decides.{leb_tells}
use Rattle.cc_base.specs.declared.diagnostics.Place.{Place}
use Rattle.cc_base.specs.declared.limit_table.Count.{Count}
use Rattle.cc_base.specs.declared.limit_table.Count.TheVariants.{Temps, Bases, Cells, Blocks, Instructions, Pool}
use Rattle.cc_base.specs.declared.limit_table.Limits.{Limits}
use Rattle.cc_base.specs.declared.refusals.Refusal.{Refusal}
use Rattle.c_layout.specs.CheckedUnits.{UnitView}
use Rattle.lower_templates.specs.Worklist.Acts.{Step}
use Rattle.lower_templates.specs.Worklist.Pieces.{TemplateView}
use Rattle.lower_functions.specs.Functions.Functions.{IsTemplate}
use Rattle.lower_tables.specs.declared.counts.count_limits.UnitCounts.{UnitCounts}
use Rattle.lower_objects.specs.declared.counts.function_counts.FunctionCounts.{FunctionCounts}
use Rattle.lower_objects.specs.Counts.Extents.{capped, with_call}
use Rattle.lower_tables.specs.Counts.FirstOver.{over, or_else, first_over, pool}
use Rattle.lower_tables.specs.Counts.SizeRefusals.{limit_of}
use Rattle.lower_objects.specs.Counts.PieceCounts.{nothing, counts_of, extent}
use Rattle.lower_tables.specs.Counts.Preparations.{begun, IsPrepared}
use Rattle.lower.specs.TemplateLaws.PieceOrder.{ends_block}
use Rattle.lower.proofs.template_laws.TemplateOrder.{entry_ends}
use Rattle.lower.proofs.template_laws.NormalizedOrder.{normalized_ends}
use Rattle.lower_templates.specs.Views.ProgramViews.{BlockView, EdgeView, FlowView}
use Rattle.lower.specs.Inlining.Inlinings.{Made, Inlined, is_none, nothing_made, whole, unfinished, head_set, head_if, with_heads, resolved, program}
use Rattle.lower.specs.Inlining.Lowerings.{IsLowering}
use Rattle.lower.specs.Inlining.AsCounted.{all_instructions, IsAsCounted, IsWithin}
use Rattle.lower.proofs.inlining.WellMadeHeads.{length_heads}
use Rattle.lower.proofs.inlining.PieceExtents.{IsCapped, capped_pieces, ends_empty}
use Rattle.lower.proofs.inlining.CountedCalls.{IsKnown, known}
use Rattle.lower.proofs.inlining.CountedTurns.{extent_of, all_at_end, at_end, counted_whole}

-- heads change no instruction
instructions_head : (bs : List BlockView) (n : ℕ) → all_instructions (head_set bs n) ≡ all_instructions bs
instructions_head [] n = refl
instructions_head (b ∷ bs) zero = refl
instructions_head (b ∷ bs) (suc n) = ap (λ k. length b.steps + k) (instructions_head bs n)

instructions_if : (b : Bool) (bs : List BlockView) (n : ℕ) → all_instructions (cond b (head_set bs n) bs) ≡ all_instructions bs
instructions_if true bs n = instructions_head bs n
instructions_if false bs n = refl

instructions_heads : (es : List EdgeView) (bs : List BlockView) → all_instructions (with_heads es bs) ≡ all_instructions bs
instructions_heads [] bs = refl
instructions_heads (e ∷ es) bs = instructions_heads es (head_if e bs) ∙ instructions_if (nat_le e.to e.from) bs e.to

no_step : (ss : List Step) → is_none ss ≡ true → length ss ≡ 0
no_step [] is = refl
no_step (s ∷ ss) is = cc

-- the entry's counts, which are those of its pieces from an empty block on
record Whole (u : UnitView) (counts : FunctionCounts) (m : Made) : Type 0 where
  extent : extent_of m ≡ with_call (extent_of (nothing_made u)) counts false
  is_empty : counts.from_empty.is_empty ≡ true
  is_capped : IsCapped counts.from_empty

entry_empty : (u : UnitView) (ts : List (Option TemplateView)) (table : List (Option FunctionCounts)) (k : IsKnown u ts table u.entry) → (extent table k.template.pieces true).is_empty ≡ true
entry_empty u ts table k =
    let is_entry : (u.entry == u.entry) ≡ true = eq-eqb u.entry u.entry refl in
    let is = subst (λ b. IsTemplate u.structs u.model.pointer u.model.int k.function b k.plain) is_entry k.is_template.is_template in
    let plain = entry_ends u.structs u.model.pointer u.model.int k.function k.plain is in
    let last = ap (λ t. ends_block t.pieces) k.settles ∙ normalized_ends table k.plain plain in
    ends_empty table false k.template.pieces (nothing true) (λ e. refl) last

finished : (table : List (Option FunctionCounts)) (x : Inlined) → x.stack ≡ [] → extent_of x.program ≡ all_at_end table x
finished table x ends = ap (λ stack. at_end table stack (extent_of x.program)) (sym ends)

whole_counts : (u : UnitView) (ts : List (Option TemplateView)) (table : List (Option FunctionCounts)) (f : FunctionCounts) (at : Place) → IsPrepared u ts table → slice_get table u.entry ≡ Some (Some f) → unfinished u ts at ≡ [] → Whole u f (whole u ts at).program
whole_counts u ts table f at prepared is ends =
    let k = known u ts table u.entry prepared begun in
    let here = ap counts_of is in
    let same = ap counts_of k.is_counted in
    let from_empty : f.from_empty ≡ extent table k.template.pieces true = ap (λ c. c.from_empty) (sym here ∙ same) ∙ k.counted.from_empty in
    record {
      extent = finished table (whole u ts at) ends ∙ counted_whole u ts table at prepared begun ∙ ap (λ c. with_call (extent_of (nothing_made u)) c false) here;
      is_empty = ap (λ e. e.is_empty) from_empty ∙ entry_empty u ts table k;
      is_capped = subst IsCapped (sym from_empty) (capped_pieces table k.template.pieces (nothing true) (record { blocks = omega arith; instructions = omega arith }));
    }

once : (m n : ℕ) → n ≤ m → min (0 + n) m ≡ n
once m n le = omega arith

twice : (m n : ℕ) → n ≤ m → min (0 + min (n + 0) m) m ≡ n
twice m n le = omega arith

made_blocks : (u : UnitView) (c : FunctionCounts) (m : Made) → Whole u c m → capped (length m.blocks) ≡ c.from_empty.blocks
made_blocks u c m w = ap (λ e. e.blocks) w.extent ∙ once (10 ^ 18) c.from_empty.blocks w.is_capped.blocks

-- no instruction is left behind the last block
none_behind : (n k : ℕ) → k ≡ 0 → n ≡ n + k
none_behind n k is = omega arith

made_instructions : (u : UnitView) (c : FunctionCounts) (m : Made) → Whole u c m → capped (all_instructions m.blocks) ≡ c.from_empty.instructions
made_instructions u c m w =
    let none = no_step m.ready (ap (λ e. e.is_empty) w.extent ∙ w.is_empty) in
    ap capped (none_behind (all_instructions m.blocks) (length m.ready) none) ∙ ap (λ e. e.instructions) w.extent ∙ twice (10 ^ 18) c.from_empty.instructions w.is_capped.instructions

pub as_counted : (u : UnitView) (limits : Limits) (f : FlowView) (is : IsLowering u limits f) → IsAsCounted is.counts f
as_counted u limits f is =
    let counts = is.is_counted.are_counts in
    let m = (whole u is.templates is.entry.at).program in
    let w = whole_counts u is.templates is.is_counted.table counts.entry is.entry.at is.is_counted.is_prepared counts.is_counted is.ends in
    let es = resolved m.labels m.edges in
    let blocks = ap (λ g. g.blocks) is.opens in
    record {
      blocks = ap (λ bs. capped (length bs)) blocks ∙ ap capped (length_heads es m.blocks) ∙ made_blocks u counts.entry m w ∙ sym (ap (λ c. c.blocks) counts.are_counts);
      instructions = ap (λ bs. capped (all_instructions bs)) blocks ∙ ap capped (instructions_heads es m.blocks) ∙ made_instructions u counts.entry m w ∙ sym (ap (λ c. c.instructions) counts.are_counts);
    }

-- no count passes its limit
pub first_none : (a b : Option Refusal) → or_else a b ≡ None → a ≡ None
first_none None b is = refl
first_none (Some why) b is = cc

pub then_none : (a b : Option Refusal) → or_else a b ≡ None → b ≡ None
then_none None b is = is
then_none (Some why) b is = cc

not_over : (b : Bool) (why : Refusal) → cond b None (Some why) ≡ None → b ≡ true
not_over true why is = refl
not_over false why is = cc

at_most : (a b : ℕ) → nat_le a b ≡ true → a ≤ b
at_most a b is = by_test (leb_tells a b)
  where
    by_test : ((nat_le a b ≡ true) × (a ≤ b)) ⊎ ((nat_le a b ≡ false) × (b < a)) → a ≤ b
    by_test (inl (yes_, le)) = le
    by_test (inr (no_, less)) = cc

pub within : (limits : Limits) (what : Count) (count : ℕ) → over limits what count ≡ None → count ≤ limit_of what limits
within limits what count is = at_most count (limit_of what limits) (not_over (nat_le count (limit_of what limits)) _ is)

record Fits (limits : Limits) (counts : UnitCounts) : Type 0 where
  blocks : counts.blocks ≤ limits.blocks
  instructions : counts.instructions ≤ limits.instructions

fits : (limits : Limits) (c : UnitCounts) → first_over limits c ≡ None → Fits limits c
fits limits c none =
    let temps = over limits Temps c.temps in
    let bases = over limits Bases c.bases in
    let cells = over limits Cells c.cells in
    let blocks = over limits Blocks c.blocks in
    let instructions = over limits Instructions c.instructions in
    let last = then_none cells (or_else blocks instructions) (then_none bases (or_else cells (or_else blocks instructions)) (then_none temps (or_else bases (or_else cells (or_else blocks instructions))) none)) in
    record { blocks = within limits Blocks c.blocks (first_none blocks instructions last); instructions = within limits Instructions c.instructions (then_none blocks instructions last) }

all_counted : (m n k l : ℕ) → min n m ≡ k → k ≤ l → l < m → (n ≡ k) × (n ≤ l)
all_counted m n k l is le less = (omega arith, omega arith)

pub within_limits : (u : UnitView) (limits : Limits) (f : FlowView) (is : IsLowering u limits f) → IsWithin limits is.counts f
within_limits u limits f is =
    let c = is.counts in
    let a = as_counted u limits f is in
    let width = (program u is.templates is.entry.at).bases.width + c.temps in
    let fit = fits limits c (first_none (first_over limits c) (over limits Pool (pool c.blocks width)) is.fits) in
    record {
      blocks = λ less. all_counted (10 ^ 18) (length f.blocks) c.blocks limits.blocks a.blocks fit.blocks less;
      instructions = λ less. all_counted (10 ^ 18) (all_instructions f.blocks) c.instructions limits.instructions a.instructions fit.instructions less;
    }
