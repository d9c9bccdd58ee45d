-- Worked rows of sets of types, their numbers, and the types of temporaries and positions.
use Rattle.std.proofs.Common.{◌≡◌, ℕ, pos, negsuc, true, false, [], ◌∷◌, Some, None, refl}
use Rattle.cc_base.specs.declared.int_types.IntType.{IntType}
use Rattle.c_layout.specs.Models.{lp64, ilp32}
use Rattle.c_layout.specs.declared.leaf_lists.Class.TheVariants.{Char, Long, Pointer}
use Rattle.c_layout.specs.declared.leaf_lists.Leaf.{Leaf}
use Rattle.c_layout.specs.declared.library_functions.LibFn.TheVariants.{Malloc, Strlen, Printf}
use Rattle.cfg.specs.declared.flow_edges.Edge.{Edge}
use Rattle.cfg.specs.declared.flow_edges.EdgeKind.TheVariants as edge
use Rattle.cfg.specs.declared.machine_instructions.Scalar.TheVariants as scalar
use Rattle.cfg.specs.declared.machine_instructions.Operation.TheVariants as op
use Rattle.certificate_programs.specs.Types.KindSets.{no_kinds, pointers, integers_of, leaves, results, has_pointers, has_integers, sized, numbers}
use Rattle.certificate_programs.specs.Types.TypedTemps.{place, pass, arrive}
use Rattle.certificate_programs.specs.Types.RowKinds.{leaves_kinds, classes_kinds}

-- ---- sets

signed_bytes : integers_of 1 true ≡ 1
signed_bytes = refl

unsigned_ints : integers_of 4 false ≡ 32
unsigned_ints = refl

longs : leaves lp64 Long true ≡ 64
longs = refl

short_longs : leaves ilp32 Long true ≡ 16
short_longs = refl

lengths : results lp64 Strlen ≡ 128
lengths = refl

allocations : results lp64 Malloc ≡ 256
allocations = refl

counts : results lp64 Printf ≡ 16
counts = refl

-- 258 is 256 + 2
bytes_and_pointers : has_pointers 258 ≡ true
bytes_and_pointers = refl

no_signed_bytes : has_integers 258 (sized 1 true) ≡ false
no_signed_bytes = refl

-- ---- numbers

none : numbers no_kinds ≡ None
none = refl

none_of_pointers : numbers pointers ≡ None
none_of_pointers = refl

bytes : numbers 258 ≡ Some (pos 0, pos 255)
bytes = refl

-- signed ones of one byte, and unsigned ones of two
both : numbers 9 ≡ Some (negsuc 127, pos 65535)
both = refl

all : numbers 511 ≡ Some (negsuc 9223372036854775807, pos 18446744073709551615)
all = refl

-- ---- temporaries

abbrev int_type : IntType
int_type = record { bytes = 4; signed = true; rank = 3 }

third_of_second : place 5 1 2 ≡ 7
third_of_second = refl

constant : pass lp64 (0 ∷ (0 ∷ [])) (op.Constant 1 (pos 7) int_type) ≡ 0 ∷ (16 ∷ [])
constant = refl

kept : pass lp64 (256 ∷ (2 ∷ [])) (op.Store 0 1 scalar.Pointer (Some (0, 1))) ≡ 2 ∷ (2 ∷ [])
kept = refl

abbrev jump : Edge
jump = record { from = 0; to = 1; kind = edge.Jump }

abbrev taken : Edge
taken = record { from = 0; to = 1; kind = edge.When true None (Some (1, pos 1)) }

-- two temporaries: those of the second block get more types, or none
more : arrive lp64 (2 ∷ (256 ∷ [])) jump (0 ∷ (0 ∷ (16 ∷ (256 ∷ [])))) ≡ record { all = 0 ∷ (0 ∷ (18 ∷ (256 ∷ []))); grew = true }
more = refl

no_more : arrive lp64 (2 ∷ (0 ∷ [])) jump (0 ∷ (0 ∷ (18 ∷ (256 ∷ [])))) ≡ record { all = 0 ∷ (0 ∷ (18 ∷ (256 ∷ []))); grew = false }
no_more = refl

truth : arrive lp64 (2 ∷ (256 ∷ [])) taken (0 ∷ (0 ∷ (2 ∷ (0 ∷ [])))) ≡ record { all = 0 ∷ (0 ∷ (2 ∷ (16 ∷ []))); grew = true }
truth = refl

-- ---- positions

abbrev leaf : ℕ → Leaf
leaf at = record { offset = at; class = Char; signed = true; stride = 1; count = 1 }

two_leaves : leaves_kinds lp64 3 0 (leaf 0 ∷ (leaf 1 ∷ [])) ≡ (3, 1) ∷ ((4, 1) ∷ [])
two_leaves = refl

six_classes : classes_kinds lp64 5 ≡ (5, 1) ∷ ((6, 4) ∷ ((7, 16) ∷ ((8, 64) ∷ ((9, 64) ∷ ((10, 256) ∷ [])))))
six_classes = refl
