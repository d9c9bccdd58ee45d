-- The cell that words give. Words that are those of no cell give some cell all the same: a line is
-- read by the text of what it gives.
use Rattle.std.specs.Prelude.{ℕ, ◌+◌, ◌/◌, ◌%◌, Bool, cond, ◌==◌, List, [], ◌∷◌}
use Rattle.interval_domain.specs.declared.intervals.intervals.Interval.{Interval}
use Rattle.pointer_domain.specs.declared.pointer_sets.Pointers.{Pointers}
use Rattle.value_domain.specs.declared.strings.first_zeros.FirstZero.{FirstZero}
use Rattle.value_domain.specs.declared.values.values.Value as values
use Rattle.value_domain.specs.declared.values.label_sets.Labels.{Labels}
use Rattle.value_domain.specs.declared.values.alloc_states.AllocState.{AllocState}
use Rattle.value_domain.specs.declared.values.row_cells.Cell.{Cell}
use Rattle.value_domain.specs.declared.values.row_cells.Cell.TheVariants.{Nothing, Value, First, State}
use Rattle.certificate_text.specs.Lines.LineWords.{Bytes, until, behind, first_byte}
use Rattle.certificate_text.specs.Lines.DecimalWords.{small, range_of}
use Rattle.certificate_text.specs.Lines.BaseDigits.{bases_of}

-- the first word of a text
abbrev pub word : Bytes → Bytes
word text = until 32 text

-- the words behind it
abbrev pub rest : Bytes → Bytes
rest text = behind 32 text

abbrev pub is_set : Bytes → Bool
is_set text = first_byte text == 49

unfoldable pub labels_given : Bytes → Labels
labels_given sum = record { lo = small sum % 2 == 1; hi = small sum / 2 % 2 == 1; mutated = small sum / 4 % 2 == 1 }

unfoldable pub pointer_given : Bytes → Pointers Interval
pointer_given text = record {
  bases = bases_of (word text);
  lo = range_of (word (rest text));
  rel = range_of (word (rest (rest text)));
  len = range_of (word (rest (rest (rest text))));
  part = is_set (rest (rest (rest (rest text))));
  null = is_set (rest (rest (rest (rest (rest text)))));
  ended = is_set (rest (rest (rest (rest (rest (rest text))))));
}

unfoldable pub value_given : Bytes → values.Value Interval
value_given text = record {
  num = range_of (word text);
  pointer = pointer_given (rest (rest (rest text)));
  indeterminate = is_set (rest text);
  labels = labels_given (word (rest (rest text)));
}

unfoldable pub first_given : Bytes → FirstZero Interval
first_given text = record { at = range_of text }

unfoldable pub state_given : Bytes → AllocState Interval
state_given text = record { size = range_of (word text); live = is_set (rest text); freed = is_set (rest (rest text)) }

-- v for a value, z for a first zero, h for a state
unfoldable pub cell_given : Bytes → Cell Interval
cell_given text =
    cond (first_byte text == 118) (Value (value_given (rest text)))
    (cond (first_byte text == 122) (First (first_given (rest text)))
    (cond (first_byte text == 104) (State (state_given (rest text))) Nothing))
