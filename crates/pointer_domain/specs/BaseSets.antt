-- Sets of bases: base n is bit n % 128 of word n / 128.
use Rattle.std.specs.Prelude.{ℕ, ◌+◌, ◌/◌, ◌%◌, ◌^◌, Bool, cond, not, ◌&&◌, ◌||◌, ◌==◌, bit_and, bit_or, count_ones}
use Rattle.std.specs.Int.{bit_at, bit_not, w128}
use Rattle.pointer_domain.specs.declared.base_sets.Bases.{Bases}

abbrev pub no_base : Bases
no_base = record { word0 = 0; word1 = 0; word2 = 0; word3 = 0; word4 = 0; word5 = 0; word6 = 0; word7 = 0 }

abbrev pub word_of : Bases → ℕ → ℕ
word_of s i = cond (i == 0) s.word0 (cond (i == 1) s.word1 (cond (i == 2) s.word2 (cond (i == 3) s.word3 (cond (i == 4) s.word4 (cond (i == 5) s.word5 (cond (i == 6) s.word6 s.word7))))))

abbrev pub with_word : Bases → ℕ → ℕ → Bases
with_word s i w = cond (i == 0) (record s { word0 = w }) (cond (i == 1) (record s { word1 = w }) (cond (i == 2) (record s { word2 = w }) (cond (i == 3) (record s { word3 = w }) (cond (i == 4) (record s { word4 = w }) (cond (i == 5) (record s { word5 = w }) (cond (i == 6) (record s { word6 = w }) (record s { word7 = w })))))))

-- whether base n is in the set
abbrev pub bases_has : Bases → ℕ → Bool
bases_has s n = bit_at (word_of s (n / 128)) (n % 128) == 1

abbrev pub bases_with : Bases → ℕ → Bases
bases_with s n = with_word s (n / 128) (bit_or (word_of s (n / 128)) (2 ^ (n % 128)))

abbrev pub bases_without : Bases → ℕ → Bases
bases_without s n = with_word s (n / 128) (bit_and (word_of s (n / 128)) (bit_not w128 (2 ^ (n % 128))))

abbrev pub bases_union : Bases → Bases → Bases
bases_union s t = record {
  word0 = bit_or s.word0 t.word0;
  word1 = bit_or s.word1 t.word1;
  word2 = bit_or s.word2 t.word2;
  word3 = bit_or s.word3 t.word3;
  word4 = bit_or s.word4 t.word4;
  word5 = bit_or s.word5 t.word5;
  word6 = bit_or s.word6 t.word6;
  word7 = bit_or s.word7 t.word7;
}

-- each bit of a is one of b
abbrev pub word_within : ℕ → ℕ → Bool
word_within a b = bit_or a b == b

abbrev pub bases_within : Bases → Bases → Bool
bases_within s t = word_within s.word0 t.word0 && (word_within s.word1 t.word1 && (word_within s.word2 t.word2 && (word_within s.word3 t.word3
    && (word_within s.word4 t.word4 && (word_within s.word5 t.word5 && (word_within s.word6 t.word6 && word_within s.word7 t.word7))))))

abbrev pub word_meets : ℕ → ℕ → Bool
word_meets a b = not (bit_and a b == 0)

-- some base is in both
abbrev pub bases_meet : Bases → Bases → Bool
bases_meet s t = word_meets s.word0 t.word0 || (word_meets s.word1 t.word1 || (word_meets s.word2 t.word2 || (word_meets s.word3 t.word3
    || (word_meets s.word4 t.word4 || (word_meets s.word5 t.word5 || (word_meets s.word6 t.word6 || word_meets s.word7 t.word7))))))

abbrev pub bases_empty : Bases → Bool
bases_empty s = (s.word0 == 0) && ((s.word1 == 0) && ((s.word2 == 0) && ((s.word3 == 0) && ((s.word4 == 0) && ((s.word5 == 0) && ((s.word6 == 0) && (s.word7 == 0)))))))

-- how many bases are in the set
abbrev pub bases_count : Bases → ℕ
bases_count s = count_ones s.word0 + (count_ones s.word1 + (count_ones s.word2 + (count_ones s.word3 + (count_ones s.word4 + (count_ones s.word5 + (count_ones s.word6 + count_ones s.word7))))))
