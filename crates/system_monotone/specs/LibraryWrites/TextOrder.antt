-- Writes of longer texts to more places.
use Rattle.std.specs.Prelude.{◌≡◌, ◌⊎◌, pos, Bool, true, false, List}
use Rattle.cc_base.specs.Lattices.{LatticeOf}
use Rattle.cc_base.specs.IntegerDomains.{IntegersOf}
use Rattle.cfg.specs.declared.programs.Flow.{Flow}
use Rattle.pointer_domain.specs.declared.base_sets.Bases.{Bases}
use Rattle.pointer_domain.specs.BaseSets.{bases_within, bases_empty}
use Rattle.value_domain.specs.Strings.FirstZeros.{the_end}
use Rattle.value_domain.specs.Values.LabelSets.{labels_leq}
use Rattle.value_domain.specs.declared.values.row_cells.Cell.{Cell}
use Rattle.store_cells.specs.declared.access_windows.Window.{Window}
use Rattle.store_monotone.specs.Operations.Placements.{WindowWithin}
use Rattle.store_monotone.specs.Operations.TopCells.{top_number}
use Rattle.transfer_library_writes.specs.declared.source_bytes.Characters.{Characters}
use Rattle.transfer_library_writes.specs.declared.text_writes.TextWrite.{TextWrite}
use Rattle.transfer_library_writes.specs.declared.text_writes.ZeroRule.{ZeroRule}
use Rattle.transfer_library_writes.specs.declared.text_writes.ZeroRule.TheVariants.{Text, Append, Any}
use Rattle.transfer_library_writes.specs.TextWrites.{write_text}
use Rattle.transfer_monotone.specs.Values.StepLaws.{FlowRows}

-- a write is to some base and begins at the first of its bytes; it is of one byte, and lies where it begins, if a larger one is
pub record StartsBelow (bases : Bases) (start window : Window) (one more : Bool) : Type 0 where
  pub some : bases_empty bases ≡ false
  pub first : window.lo ≡ start.lo
  pub narrow : (more ≡ true → one ≡ true)
  pub single : one ≡ true → WindowWithin window start

module _ {I : Type 0} (l : LatticeOf I) (n : IntegersOf I) where
  -- a text of a length, which is a number from 0 to the end
  abbrev pub HasLength : ZeroRule I → Type 0
  HasLength (Text c) = l.leq c (n.between (pos 0) the_end) ≡ true
  HasLength (Append c t) = l.leq c (n.between (pos 0) the_end) ≡ true
  HasLength Any = Unit {0}

  -- a longer text, whose end is unknown in more bases
  abbrev pub RuleBelow : ZeroRule I → ZeroRule I → Type 0
  RuleBelow x Any = Unit {0}
  RuleBelow (Text a) (Text c) = l.leq a c ≡ true
  RuleBelow (Append a s) (Append c t) = (l.leq a c ≡ true) × (bases_within s t ≡ true)
  RuleBelow (Text a) (Append c t) = ⊥
  RuleBelow (Append a s) (Text c) = ⊥
  RuleBelow Any (Text c) = ⊥
  RuleBelow Any (Append c t) = ⊥

  pub record CharactersBelow (c d : Characters I) : Type 0 where
    pub signed : l.leq c.signed d.signed ≡ true
    pub unsigned : l.leq c.unsigned d.unsigned ≡ true
    pub labels : labels_leq c.labels d.labels ≡ true
    pub signed_top : l.leq d.signed (top_number n) ≡ true
    pub unsigned_top : l.leq d.unsigned (top_number n) ≡ true

  -- a write of a longer text to more places; where it begins counts unless nothing is known of the first zeros
  -- behind the larger one
  pub record TextBelow (w v : TextWrite I) : Type 0 where
    pub bases : bases_within w.bases v.bases ≡ true
    pub start : WindowWithin w.start v.start
    pub window : WindowWithin w.window v.window
    pub characters : CharactersBelow w.characters v.characters
    pub zero : RuleBelow w.zero v.zero
    pub length : HasLength w.zero
    pub more : HasLength v.zero
    pub begins : (v.zero ≡ Any) ⊎ StartsBelow w.bases w.start w.window w.one_byte v.one_byte

  -- a longer text that is written to more places of a larger row leaves a larger row
  abbrev pub TextsRise : Bases → Flow → Type 0
  TextsRise all flow = (small large : TextWrite I) → TextBelow small large → (r s : List (Cell I)) → FlowRows l n all flow r s → FlowRows l n all flow (write_text l n flow small r) (write_text l n flow large s)

  -- a text behind which nothing is known of first zeros, and that is written to a larger row alone, leaves a larger row
  abbrev pub OneTextRises : Bases → Flow → Type 0
  OneTextRises all flow = (write : TextWrite I) → TextBelow write write → write.zero ≡ Any → (r s : List (Cell I)) → FlowRows l n all flow r s → FlowRows l n all flow r (write_text l n flow write s)
