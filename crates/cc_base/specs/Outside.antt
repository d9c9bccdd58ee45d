-- What the outside may do: a tree of files that is read and a sink that is written.
use Rattle.std.specs.Prelude.{◌≡◌, ◌≤◌, ◌<◌, ◌+◌, ◌-◌, ◌^◌, ℕ, List, Option, Some, None, length, min, take, ◌++◌}
use Rattle.std.specs.Ordering.{nat_cmp}
use Rattle.std.specs.Cmp.Lexicographic.{slice_cmp}
use Rattle.std.specs.FinMap as map

-- a count rose where it is larger than before, or stands at the last value of a u64
abbrev pub Rose : ℕ → ℕ → Type 0
Rose before now = min (before + 1) (2 ^ 64 - 1) ≤ now

-- a count rose by more than so many, or stands at the last value of a u64
abbrev pub RoseBeyond : ℕ → ℕ → ℕ → Type 0
RoseBeyond most before now = min (before + most + 1) (2 ^ 64 - 1) ≤ now

-- the next count, which stays at the last value of a u64
abbrev pub next_count : ℕ → ℕ
next_count before = min (before + 1) (2 ^ 64 - 1)

-- the files of a tree by their names
abbrev pub Files : Type 0
Files = map.FinMap (slice_cmp nat_cmp) (List ℕ)

-- the file that is held under a name
abbrev pub file_at : Files → List ℕ → Option (List ℕ)
file_at files name = map.get files name

-- where the files are told, they hold these bytes under the name
abbrev pub Holds : Option Files → List ℕ → List ℕ → Type 0
Holds None name bytes = Unit {0}
Holds (Some files) name bytes = file_at files name ≡ Some bytes

-- the files lack the name, or for the reason that stands where they are not told
abbrev pub Lacks : Option Files → List ℕ → Type 0 → Type 0
Lacks None name reason = reason
Lacks (Some files) name reason = file_at files name ≡ None

-- the files hold more bytes under the name than a file may have, or for the reason
abbrev pub HoldsTooLong : ℕ → Option Files → List ℕ → Type 0 → Type 0
HoldsTooLong most None name reason = reason
HoldsTooLong most (Some files) name reason = (bytes : List ℕ) × (file_at files name ≡ Some bytes) × (most < length bytes)

-- where the files are told, a count is as before
abbrev pub StaysIfTold : Option Files → ℕ → ℕ → Type 0
StaysIfTold None before now = Unit {0}
StaysIfTold (Some files) before now = now ≡ before

-- a piece stands behind what was written, where that is told
abbrev pub Appends : Option (List ℕ) → List ℕ → Option (List ℕ) → Type 0
Appends None piece now = now ≡ None
Appends (Some before) piece now = now ≡ Some (before ++ piece)

-- the first bytes of a piece stand behind what was written, where that is told
abbrev pub AppendsPrefix : Option (List ℕ) → List ℕ → Option (List ℕ) → Type 0
AppendsPrefix None piece now = now ≡ None
AppendsPrefix (Some before) piece now = (count : ℕ) × (count ≤ length piece) × (now ≡ Some (before ++ take count piece))
