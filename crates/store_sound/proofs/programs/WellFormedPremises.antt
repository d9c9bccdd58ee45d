-- A well-formed program meets the premises of the theorems on the store.
use Rattle.std.proofs.Common.{false, ◌≡◌, ℕ, zero, suc, ◌+◌, ◌*◌, ◌^◌, ◌≤◌, true, ◌&&◌, Some, List, [], ◌∷◌, length, subst, arith}
use Rattle.std.specs.Prelude.{slice_get, ◌==◌, nat_lt, nat_le}
use Rattle.std.specs.List.{list_all}
use Rattle.std.proofs.Math.Nat.{mul-le-mul_left}
use Rattle.std.proofs.lemmas.Bool.{and_parts, eqb-true, leb-true}
use Rattle.cc_base.specs.declared.limit_table.Limits.{Limits}
use Rattle.cc_base.specs.Standard.{standard_limits}
use Rattle.c_layout.specs.declared.shapes.BaseInfo.{BaseInfo}
use Rattle.c_layout.specs.Models.{is_model}
use Rattle.c_layout.specs.StructViews.{structs_view}
use Rattle.cfg.specs.declared.programs.Flow.{Flow}
use Rattle.cfg.specs.BaseShapes.{is_extent, is_shaped, are_sites, are_shaped}
use Rattle.cfg.specs.StaticStarts.{are_started}
use Rattle.cfg.specs.StructCounts.{are_counted}
use Rattle.cfg.specs.WellFormed.{are_blocks, fits_edge, are_placed, base_values, all_values, all_cells, all_instructions, is_initial_object, is_parameter, is_within, names_of, are_few, is_laid_out, is_well_formed}
use Rattle.store_sound.specs.Operations.Shapes.{AreShaped, CountsOnce, IsLaidOut}
use Rattle.store_sound.proofs.operations.Padding.{padding_seen}
use Rattle.store_sound.specs.Programs.Premises.{AreHeld, HasPremises}
use Rattle.store_sound.proofs.programs.ShapedBases.{all_at, base_shaped, base_texts, base_once}
use Rattle.store_sound.proofs.programs.Laid.{placed_laid}

-- the conjuncts that the premises come from
pub record IsGood (limits : Limits) (flow : Flow) : Type 0 where
  pub placed : are_placed 0 flow.bases.items ≡ true
  pub width : flow.width ≡ all_values flow.bases.items + flow.temps
  pub bases : length flow.bases.items ≤ limits.bases
  pub pool : (length flow.blocks.items + 2) * flow.width ≤ limits.pool
  pub model : is_model flow.model ≡ true
  pub shaped : list_all (is_shaped flow.model) flow.bases.items ≡ true

pub well_formed_good : (limits : Limits) (flow : Flow) → is_well_formed limits flow ≡ true → IsGood limits flow
well_formed_good limits f h =
    let a = and_parts (nat_lt 0 (length f.blocks.items)) _ h in
    let b = and_parts (are_blocks (names_of f) (length f.blocks.items) f.edges.items 0 0 f.blocks.items f.edges.items) _ a.1 in
    let c = and_parts (list_all (λ e. fits_edge (names_of f) e.kind) f.edges.items) _ b.1 in
    let d = and_parts (are_placed 0 f.bases.items) _ c.1 in
    let e = and_parts (f.width == all_values f.bases.items + f.temps) _ d.1 in
    let g = and_parts (list_all (is_initial_object f.bases.items) f.initial.items) _ e.1 in
    let i = and_parts (list_all (is_parameter f.model f.bases.items) f.parameters.items) _ g.1 in
    let j = and_parts (is_within limits f) (are_few f && is_laid_out f) i.1 in
    let k = and_parts (are_few f) (is_laid_out f) j.1 in
    let l = and_parts (is_model f.model) (are_shaped f.model f.bases.items && (are_started f.model f.bases.items f.initial.items && are_counted (structs_view f.structs))) k.1 in
    let m = and_parts (are_shaped f.model f.bases.items) (are_started f.model f.bases.items f.initial.items && are_counted (structs_view f.structs)) l.1 in
    let n = and_parts (list_all (is_shaped f.model) f.bases.items) (are_sites false f.bases.items) m.0 in
    let o = and_parts (nat_le f.temps limits.temps) _ j.0 in
    let p = and_parts (nat_le (length f.bases.items) limits.bases) _ o.1 in
    let q = and_parts (nat_le (all_cells f.bases.items) limits.cells) _ p.1 in
    let r = and_parts (nat_le (length f.blocks.items) limits.blocks) _ q.1 in
    let s = and_parts (nat_le (all_instructions f.blocks.items) limits.instructions) (nat_le ((length f.blocks.items + 2) * f.width) limits.pool) r.1 in
    record { placed = d.0; width = eqb-true _ _ e.0; bases = leb-true _ _ p.0; pool = leb-true _ _ s.1; model = l.0; shaped = n.0 }

-- a row is no longer than a pool of two of them
row_below : (blocks width pool : ℕ) → (blocks + 2) * width ≤ pool → width ≤ pool
row_below blocks width pool h =
    let a : width * 1 ≤ width * (blocks + 2) = mul-le-mul_left width (omega arith) in
    let b : width * (blocks + 2) ≡ (blocks + 2) * width = grind arith in
    omega (arith, a, b, h)

base_sized : (first : ℕ) (bases : List BaseInfo) (b : ℕ) (base : BaseInfo) → are_placed first bases ≡ true → slice_get bases b ≡ Some base → base.size ≤ 2 ^ 30
base_sized first [] b base h e = cc
base_sized first (x ∷ xs) zero base h e =
    let p = and_parts (x.first == first) (is_extent x.size && are_placed (first + base_values x) xs) h in
    let q = and_parts (is_extent x.size) (are_placed (first + base_values x) xs) p.1 in
    let d : x ≡ base = cc in
    subst (λ z. z.size ≤ 2 ^ 30) d (leb-true x.size (2 ^ 30) q.0)
base_sized first (x ∷ xs) (suc b) base h e =
    let p = and_parts (x.first == first) (is_extent x.size && are_placed (first + base_values x) xs) h in
    let q = and_parts (is_extent x.size) (are_placed (first + base_values x) xs) p.1 in
    base_sized (first + base_values x) xs b base q.1 e

pub meets_premises : (limits : Limits) (flow : Flow) → AreHeld limits → is_well_formed limits flow ≡ true → HasPremises flow
meets_premises limits flow held h =
    let g = well_formed_good limits flow h in
    let few = g.bases in
    let most = held.bases in
    let pool = held.pool in
    let row = row_below (length flow.blocks.items) flow.width limits.pool g.pool in
    let width = g.width in
    let each : (b : ℕ) (base : BaseInfo) → slice_get flow.bases.items b ≡ Some base → is_shaped flow.model base ≡ true = λ b base e. all_at (is_shaped flow.model) flow.bases.items b base g.shaped e in
    let shaped : AreShaped flow.bases.items = record { few = omega (arith, few, most); each = λ b base e. base_shaped flow.model g.model base (each b base e) } in
    let once : (b : ℕ) (base : BaseInfo) → slice_get flow.bases.items b ≡ Some base → CountsOnce flow.model base = λ b base e. base_once flow.model g.model base (each b base e) in
    let laid : IsLaidOut flow flow.width = record {
      shaped = shaped;
      texts = λ b base e. base_texts flow.model g.model base (each b base e);
      behind = all_values flow.bases.items;
      laid = placed_laid flow.bases.items g.placed (omega (arith, row, pool, width));
      temporaries = omega (arith, width);
      long = omega (arith, width);
    } in
    record { shaped = shaped; once = once; sized = λ b base e. base_sized 0 flow.bases.items b base g.placed e; model = g.model; padding = padding_seen flow.model flow.bases.items shaped once; laid = laid; temps = omega (arith, width); short = omega (arith, row, pool) }

pub standard_held : AreHeld standard_limits
standard_held = record { bases = omega arith; pool = omega arith }
