-- Small systems that are given by tables: rows of one number, and edges that cut and raise it.
use Rattle.std.specs.Prelude.{◌≡◌, ◌+◌, ◌<◌, ◌≤◌, ℕ, ℤ, Bool, true, false, not, ◌&&◌, ◌||◌, nat_le, nat_lt, min, List, [], ◌∷◌, length, Option, Some, None, if◌then◌else◌, slice_index_or}
use Rattle.std.specs.List.{list_all}
use Rattle.cc_base.specs.Machine.{Machine}
use Rattle.analysis_tests.specs.Solver.Levels.{rungs_above}

-- an edge that is taken by numbers from `least` on, cuts them to `cap` and adds `plus`
pub record Passage : Type 0 where
  pub source : ℕ
  pub target : ℕ
  pub least : ℕ
  pub cap : ℕ
  pub plus : ℕ

pub record Table : Type 0 where
  pub heads : List Bool
  pub passages : List Passage
  pub list : List ℤ

abbrev pub passage_at : Table → ℕ → Passage
passage_at t e = slice_index_or t.passages e (record { source = 0; target = 0; least = 0; cap = 0; plus = 0 })

abbrev pub pass : Passage → List ℕ → Option (List ℕ)
pass e [] = None
pass e (x ∷ []) = if nat_le e.least x then Some ((min x e.cap + e.plus) ∷ []) else None
pass e (x ∷ (y ∷ xs)) = None

abbrev pub is_level : List ℕ → Bool
is_level [] = false
is_level (x ∷ []) = nat_le x 255
is_level (x ∷ (y ∷ xs)) = false

abbrev pub row_rungs : List ℕ → ℕ
row_rungs [] = 0
row_rungs (x ∷ xs) = rungs_above x

abbrev pub table_machine : Table → Machine ℕ
table_machine t = record {
  blocks = length t.heads;
  width = 1;
  edges = length t.passages;
  source = λ e. (passage_at t e).source;
  target = λ e. (passage_at t e).target;
  head = λ b. slice_index_or t.heads b false;
  start = 0 ∷ [];
  through = λ e. pass (passage_at t e);
  own = is_level;
  attained = is_level;
  list = t.list;
  room = row_rungs;
  height = 2;
}

pub record IsPassage (t : Table) (p : Passage) : Type 0 where
  pub source : p.source < length t.heads
  pub target : p.target < length t.heads
  pub back : p.target ≤ p.source → slice_index_or t.heads p.target false ≡ true
  pub fits : p.cap + p.plus ≤ 255

pub record IsFit (t : Table) : Type 0 where
  pub some : 0 < length t.heads
  pub few : length t.heads < 1000
  pub fewer : length t.passages < 1000
  pub each : (e : ℕ) → e < length t.passages → IsPassage t (passage_at t e)
  pub ordered : (d e : ℕ) → d ≤ e → e < length t.passages → (passage_at t d).source ≤ (passage_at t e).source

-- the same as tests
abbrev pub is_passage : Table → Passage → Bool
is_passage t p = nat_lt p.source (length t.heads) && nat_lt p.target (length t.heads) && (not (nat_le p.target p.source) || slice_index_or t.heads p.target false) && nat_le (p.cap + p.plus) 255

abbrev pub is_ordered : List Passage → Bool
is_ordered [] = true
is_ordered (p ∷ ps) = list_all (λ q. nat_le p.source q.source) ps && is_ordered ps

abbrev pub is_fit : Table → Bool
is_fit t = nat_lt 0 (length t.heads) && nat_lt (length t.heads) 1000 && nat_lt (length t.passages) 1000 && list_all (is_passage t) t.passages && is_ordered t.passages
