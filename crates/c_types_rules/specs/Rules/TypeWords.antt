-- Which words name which type (6.7.2p2).
use Rattle.std.specs.Prelude.{ℕ, pos, ◌+◌, ◌==◌, Bool, true, false, ◌&&◌, ◌||◌, cond, nat_le, Option, Some, None, not}
use Rattle.std.specs.Int.{w8, saturate_unsigned}
use Rattle.c_layout.specs.declared.data_model.Model.{Model}
use Rattle.c_layout.specs.declared.syntax_tree.declarations.TypeWord.{TypeWord}
use Rattle.c_layout.specs.declared.syntax_tree.declarations.TypeWord.TheVariants as word
use Rattle.c_types_rules.specs.declared.rules.integer_kinds.Rank.{Rank}
use Rattle.c_types_rules.specs.declared.rules.integer_kinds.Rank.TheVariants as rank
use Rattle.c_types_rules.specs.declared.rules.type_words.NamedKind.{NamedKind}
use Rattle.c_types_rules.specs.declared.rules.type_words.NamedKind.TheVariants.{Void, Integer}
use Rattle.c_types_rules.specs.declared.rules.type_words.WordCounts.{WordCounts}
use Rattle.c_types_rules.specs.Rules.IntegerKinds.{kind_of}

abbrev pub no_words : WordCounts
no_words = record { voids = 0; chars = 0; shorts = 0; ints = 0; longs = 0; signed = 0; unsigned = 0 }

-- a word is counted up to 255, which names nothing, as two of most words do
abbrev pub one_more : ℕ → ℕ
one_more n = saturate_unsigned w8 (pos (n + 1))

-- the counts with a word more
abbrev pub with_word : WordCounts → TypeWord → WordCounts
with_word w word.Void = record w { voids = one_more w.voids }
with_word w word.Char = record w { chars = one_more w.chars }
with_word w word.Short = record w { shorts = one_more w.shorts }
with_word w word.Int = record w { ints = one_more w.ints }
with_word w word.Long = record w { longs = one_more w.longs }
with_word w word.Signed = record w { signed = one_more w.signed }
with_word w word.Unsigned = record w { unsigned = one_more w.unsigned }

-- how many of `signed` and `unsigned` stand there
abbrev pub at_most_one_sign : WordCounts → Bool
at_most_one_sign w = (w.signed == 0 && nat_le w.unsigned 1) || (w.unsigned == 0 && nat_le w.signed 1)

-- char with or without a sign; plain char has the model's
abbrev pub char_signed : Model → WordCounts → Bool
char_signed m w = cond (w.unsigned == 1) false (cond (w.signed == 1) true m.char_signed)

-- the rank that the words without signs and `int` name
abbrev pub rank_of : WordCounts → Option Rank
rank_of w =
    cond (w.chars == 0)
    (cond (w.shorts == 0)
    (cond (w.longs == 0) (Some rank.Int) (cond (w.longs == 1) (Some rank.Long) (cond (w.longs == 2) (Some rank.LongLong) None)))
    (cond (w.shorts == 1 && w.longs == 0) (Some rank.Short) None))
    None

abbrev pub with_rank : Model → WordCounts → Option Rank → Option NamedKind
with_rank m w (Some r) = Some (Integer (kind_of m r (w.unsigned == 0)))
with_rank m w None = None

abbrev pub is_any : WordCounts → Bool
is_any w = not (w.shorts == 0 && w.ints == 0 && w.longs == 0 && w.signed == 0 && w.unsigned == 0)

abbrev pub is_void : WordCounts → Bool
is_void w = w.voids == 1 && w.chars == 0 && not (is_any w)

abbrev pub is_char : WordCounts → Bool
is_char w = w.voids == 0 && w.chars == 1 && w.shorts == 0 && w.ints == 0 && w.longs == 0 && at_most_one_sign w

abbrev pub is_integer : WordCounts → Bool
is_integer w = w.voids == 0 && w.chars == 0 && is_any w && nat_le w.ints 1 && at_most_one_sign w

-- the type that words name, in any order
abbrev pub named : Model → WordCounts → Option NamedKind
named m w =
    cond (is_void w) (Some Void)
    (cond (is_char w) (Some (Integer (kind_of m rank.Char (char_signed m w))))
    (cond (is_integer w) (with_rank m w (rank_of w)) None))
