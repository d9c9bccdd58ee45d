-- The text of a cell: words, each behind a blank.
use Rattle.std.specs.Prelude.{ℕ, ◌+◌, Bool, cond, List, [], ◌∷◌, ◌++◌, codes}
use Rattle.std.specs.Fmt.{decimal, signed_decimal}
use Rattle.interval_domain.specs.declared.intervals.intervals.Interval.{Interval}
use Rattle.interval_domain.specs.declared.intervals.intervals.Interval.TheVariants.{Bottom, Of}
use Rattle.pointer_domain.specs.declared.pointer_sets.Pointers.{Pointers}
use Rattle.value_domain.specs.declared.strings.first_zeros.FirstZero.{FirstZero}
use Rattle.value_domain.specs.declared.values.values.Value as values
use Rattle.value_domain.specs.declared.values.label_sets.Labels.{Labels}
use Rattle.value_domain.specs.declared.values.alloc_states.AllocState.{AllocState}
use Rattle.value_domain.specs.declared.values.row_cells.Cell.{Cell}
use Rattle.value_domain.specs.declared.values.row_cells.Cell.TheVariants.{Nothing, Value, First, State, Mixed}
use Rattle.certificate_text.specs.Lines.LineWords.{Bytes}
use Rattle.certificate_text.specs.Lines.BaseDigits.{bases_text}

unfoldable pub bit_text : Bool → Bytes
bit_text bit = cond bit (codes "1") (codes "0")

-- 1 for too low, 2 for too high, 4 for changed
unfoldable pub labels_sum : Labels → ℕ
labels_sum labels = cond labels.lo 1 0 + (cond labels.hi 2 0 + cond labels.mutated 4 0)

-- the least and the greatest number
abbrev pub range_text : Interval → Bytes
range_text Bottom = codes "-"
range_text (Of span) = signed_decimal span.lo ++ (codes ":" ++ signed_decimal span.hi)

-- a text with a blank and a word more
abbrev pub with_word : Bytes → Bytes → Bytes
with_word text word = text ++ (32 ∷ word)

abbrev pub with_words : Bytes → List Bytes → Bytes
with_words text [] = text
with_words text (word ∷ words) = with_words (with_word text word) words

unfoldable pub with_pointer : Bytes → Pointers Interval → Bytes
with_pointer text p =
    with_words text (bases_text p.bases ∷ (range_text p.lo ∷ (range_text p.rel ∷ (range_text p.len ∷ (bit_text p.part ∷ (bit_text p.null ∷ (bit_text p.ended ∷ [])))))))

unfoldable pub with_value : Bytes → values.Value Interval → Bytes
with_value text v = with_pointer (with_words text (codes "v" ∷ (range_text v.num ∷ (bit_text v.indeterminate ∷ (decimal (labels_sum v.labels) ∷ []))))) v.pointer

unfoldable pub with_first : Bytes → FirstZero Interval → Bytes
with_first text f = with_words text (codes "z" ∷ (range_text f.at ∷ []))

unfoldable pub with_state : Bytes → AllocState Interval → Bytes
with_state text s = with_words text (codes "h" ∷ (range_text s.size ∷ (bit_text s.live ∷ (bit_text s.freed ∷ []))))

abbrev pub with_cell : Bytes → Cell Interval → Bytes
with_cell text Nothing = text
with_cell text (Value v) = with_value text v
with_cell text (First f) = with_first text f
with_cell text (State s) = with_state text s
with_cell text Mixed = text
