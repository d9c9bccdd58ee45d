-- Sites of allocations in well-formed programs: two bases of one shape, one behind the other.
use Rattle.std.proofs.Common.{◌≡◌, ℕ, zero, suc, ◌+◌, ◌-◌, ◌^◌, ◌≤◌, Bool, true, false, not, ◌&&◌, ◌||◌, Option, Some, None, List, [], ◌∷◌, length, arith, sym, refl, ap, ◌∙◌, inl, inr}
use Rattle.std.specs.Prelude.{slice_get, nat_lt, ◌==◌}
use Rattle.std.specs.List.{list_all}
use Rattle.std.proofs.lemmas.Bool.{and_parts, eqb-true, true≢false}
use Rattle.std.proofs.lemmas.Option.{same_Some}
use Rattle.cc_base.specs.declared.limit_table.Limits.{Limits}
use Rattle.c_layout.specs.Models.{is_model}
use Rattle.c_layout.specs.declared.leaf_lists.Leaf.{Leaf}
use Rattle.c_layout.specs.declared.shapes.BaseInfo.{BaseInfo}
use Rattle.c_layout.specs.declared.shapes.BaseKind.{BaseKind}
use Rattle.c_layout.specs.declared.shapes.BaseKind.TheVariants.{Static, Automatic, Literal, Newest, Older}
use Rattle.cfg.specs.BaseShapes.{same_truth, same_leaf, same_leaves, is_newest_kind, is_older_kind, has_older, is_paired, are_sites, are_shaped, is_shaped, is_heap, is_heap_base, is_single, are_leaves, are_whole}
use Rattle.cfg.specs.ModelKinds.{same_class}
use Rattle.cfg.specs.WellFormed.{base_values, all_values, kind_at, is_newest, is_older, is_site, names_of, are_blocks, fits_edge, are_placed, is_initial_object, is_parameter, is_within, are_few, is_laid_out, is_well_formed}
use Rattle.cfg.specs.declared.programs.Flow.{Flow}
use Rattle.store_sound.proofs.operations.Classes.{same_class_is}
use Rattle.store_sound.proofs.programs.ShapedBases.{all_at}
use Rattle.store_sound.proofs.programs.WellFormedPremises.{well_formed_good}
use Rattle.store_sound.specs.Programs.Premises.{HasPremises}
use Rattle.memory_calls_sound.proofs.allocations.FreshRows.{IsHeapBase}
use Rattle.memory_calls_sound.proofs.allocations.RenamedRows.{IsSite}

-- ---- leaves that are the same

truth_is : (a b : Bool) → same_truth a b ≡ true → a ≡ b
truth_is true b h = sym h
truth_is false true h = cc
truth_is false false h = refl

leaf_is : (a b : Leaf) → same_leaf a b ≡ true → a ≡ b
leaf_is a b h =
    let p = and_parts ((a.offset == b.offset) && same_class a.class b.class) (same_truth a.signed b.signed && ((a.stride == b.stride) && (a.count == b.count))) h in
    let q = and_parts (a.offset == b.offset) (same_class a.class b.class) p.0 in
    let r = and_parts (same_truth a.signed b.signed) ((a.stride == b.stride) && (a.count == b.count)) p.1 in
    let s = and_parts (a.stride == b.stride) (a.count == b.count) r.1 in
    let offset = eqb-true a.offset b.offset q.0 in
    let class = same_class_is a.class b.class q.1 in
    let signed = truth_is a.signed b.signed r.0 in
    let stride = eqb-true a.stride b.stride s.0 in
    let count = eqb-true a.count b.count s.1 in
    λ i. record { offset = offset i; class = class i; signed = signed i; stride = stride i; count = count i }

leaves_are : (xs ys : List Leaf) → same_leaves xs ys ≡ true → xs ≡ ys
leaves_are [] [] h = refl
leaves_are [] (y ∷ ys) h = cc
leaves_are (x ∷ xs) [] h = cc
leaves_are (x ∷ xs) (y ∷ ys) h =
    let p = and_parts (same_leaf x y) (same_leaves xs ys) h in
    let a = leaf_is x y p.0 in
    let b = leaves_are xs ys p.1 in
    λ i. a i ∷ b i

-- ---- the bases of a site

not_both : (a b : Bool) → (not a || b) ≡ true → a ≡ true → b ≡ true
not_both true b h e = h
not_both false b h e = cc

site_cells : (newest : Bool) (bases : List BaseInfo) (b : ℕ) (x y : BaseInfo) → are_sites newest bases ≡ true → slice_get bases b ≡ Some x → slice_get bases (b + 1) ≡ Some y → is_newest_kind x.kind ≡ true → x.shape.cells ≡ y.shape.cells
site_cells newest [] b x y h e f k = cc
site_cells newest (z ∷ zs) zero x y h e f k =
    let p = and_parts (is_paired newest z zs) (are_sites (is_newest_kind z.kind) zs) h in
    let q = and_parts (same_truth (is_older_kind z.kind) newest) (not (is_newest_kind z.kind) || has_older z zs) p.0 in
    let same : z ≡ x = same_Some z x e in
    by_rest zs (not_both (is_newest_kind z.kind) (has_older z zs) q.1 (ap (λ t. is_newest_kind t.kind) same ∙ k)) f same
  where
    by_rest : (rest : List BaseInfo) → has_older z rest ≡ true → slice_get rest 0 ≡ Some y → z ≡ x → x.shape.cells ≡ y.shape.cells
    by_rest [] g u same = cc
    by_rest (c ∷ cs) g u same =
        let r = and_parts (is_older_kind c.kind) (same_leaves z.shape.cells c.shape.cells) g in
        let is : c ≡ y = same_Some c y u in
        sym (ap (λ t. t.shape.cells) same) ∙ (leaves_are z.shape.cells c.shape.cells r.1 ∙ ap (λ t. t.shape.cells) is)
site_cells newest (z ∷ zs) (suc b) x y h e f k =
    let p = and_parts (is_paired newest z zs) (are_sites (is_newest_kind z.kind) zs) h in
    let next : suc b + 1 ≡ suc (b + 1) = omega arith in
    site_cells (is_newest_kind z.kind) zs b x y p.1 e (ap (slice_get (z ∷ zs)) (sym next) ∙ f) k

kind_there : (bases : List BaseInfo) (b : ℕ) (test : Option BaseKind → Bool) → test None ≡ false → test (kind_at bases b) ≡ true → (x : BaseInfo) × (slice_get bases b ≡ Some x) × (test (Some x.kind) ≡ true)
kind_there [] b test none h = absurd (true≢false (sym h ∙ none))
kind_there (x ∷ xs) zero test none h = (x, refl, h)
kind_there (x ∷ xs) (suc b) test none h = kind_there xs b test none h

newest_kind : (kind : BaseKind) → is_newest (Some kind) ≡ true → kind ≡ Newest
newest_kind Static h = cc
newest_kind Automatic h = cc
newest_kind Literal h = cc
newest_kind Newest h = refl
newest_kind Older h = cc

older_kind : (kind : BaseKind) → is_older (Some kind) ≡ true → kind ≡ Older
older_kind Static h = cc
older_kind Automatic h = cc
older_kind Literal h = cc
older_kind Newest h = cc
older_kind Older h = refl

whole_one : (ps : List _) → are_whole ps ≡ true → length ps ≡ 1
whole_one [] h = cc
whole_one (p ∷ []) h = refl
whole_one (p ∷ (r ∷ ps)) h = cc

-- the two bases of a site
pub record IsSiteOf (flow : Flow) (newest older : ℕ) : Type 0 where
  pub new : BaseInfo
  pub old : BaseInfo
  pub new_there : slice_get flow.bases.items newest ≡ Some new
  pub old_there : slice_get flow.bases.items older ≡ Some old
  pub new_kind : new.kind ≡ Newest
  pub old_kind : old.kind ≡ Older
  pub heap : IsHeapBase new
  pub site : IsSite new old

module _ (limits : Limits) (flow : Flow) (good : is_well_formed limits flow ≡ true) (p : HasPremises flow) where
  sites : are_sites false flow.bases.items ≡ true
  sites =
      let f = flow in
      let a = and_parts (nat_lt 0 (length f.blocks.items)) _ good in
      let b = and_parts (are_blocks (names_of f) (length f.blocks.items) f.edges.items 0 0 f.blocks.items f.edges.items) _ a.1 in
      let c = and_parts (list_all (λ e. fits_edge (names_of f) e.kind) f.edges.items) _ b.1 in
      let d = and_parts (are_placed 0 f.bases.items) _ c.1 in
      let e = and_parts (f.width == all_values f.bases.items + f.temps) _ d.1 in
      let g = and_parts (list_all (is_initial_object f.bases.items) f.initial.items) _ e.1 in
      let i = and_parts (list_all (is_parameter f.model f.bases.items) f.parameters.items) _ g.1 in
      let j = and_parts (is_within limits f) (are_few f && is_laid_out f) i.1 in
      let k = and_parts (are_few f) (is_laid_out f) j.1 in
      let l = and_parts (is_model f.model) _ k.1 in
      let m = and_parts (are_shaped f.model f.bases.items) _ l.1 in
      (and_parts (list_all (is_shaped f.model) f.bases.items) (are_sites false f.bases.items) m.0).1

  fits_of : (b : ℕ) (base : BaseInfo) → slice_get flow.bases.items b ≡ Some base → base.first + base_values base ≤ 2 ^ 64 - 1
  fits_of b base e = let c = p.laid.laid.close b base e in let k = p.laid.laid.small in omega (arith, c, k)

  heap_parts : (b : ℕ) (base : BaseInfo) → slice_get flow.bases.items b ≡ Some base → is_heap base.kind ≡ true → (base.shape.heap ≡ true) × (length base.shape.zeros ≡ 1)
  heap_parts b base e kind =
      let h = all_at (is_shaped flow.model) flow.bases.items b base (well_formed_good limits flow good).shaped e in
      let g : is_heap_base flow.model base ≡ true = rw kind at h in
      let x = and_parts (base.shape.heap && (base.size == 0)) (are_leaves flow.model (2 ^ 30) base.shape.cells && (list_all is_single base.shape.cells && are_whole base.shape.zeros)) g in
      let y = and_parts (are_leaves flow.model (2 ^ 30) base.shape.cells) (list_all is_single base.shape.cells && are_whole base.shape.zeros) x.1 in
      let z = and_parts (list_all is_single base.shape.cells) (are_whole base.shape.zeros) y.1 in
      ((and_parts base.shape.heap (base.size == 0) x.0).0, whole_one base.shape.zeros z.1)

  pub site_is : (newest : ℕ) → is_site flow.bases.items (Some newest) ≡ true → IsSiteOf flow newest (newest + 1)
  site_is newest h =
      let a = and_parts (is_newest (kind_at flow.bases.items newest)) (is_older (kind_at flow.bases.items (newest + 1))) h in
      let x = kind_there flow.bases.items newest is_newest refl a.0 in
      let y = kind_there flow.bases.items (newest + 1) is_older refl a.1 in
      let kind = newest_kind x.0.kind x.2 in
      let other = older_kind y.0.kind y.2 in
      let new_parts = heap_parts newest x.0 x.1 (ap is_heap kind) in
      let old_parts = heap_parts (newest + 1) y.0 y.1 (ap is_heap other) in
      record {
        new = x.0;
        old = y.0;
        new_there = x.1;
        old_there = y.1;
        new_kind = kind;
        old_kind = other;
        heap = record { fits = fits_of newest x.0 x.1; heap = new_parts.0; zeros = new_parts.1 };
        site = record {
          new_fits = fits_of newest x.0 x.1;
          old_fits = fits_of (newest + 1) y.0 y.1;
          new_heap = new_parts.0;
          old_heap = old_parts.0;
          cells = site_cells false flow.bases.items newest x.0 y.0 sites x.1 y.1 (ap is_newest_kind kind);
          new_zeros = new_parts.1;
          old_zeros = old_parts.1;
          apart = λ z f g u v. elim (p.laid.laid.apart newest (newest + 1) x.0 y.0 x.1 y.1 (λ (e : newest ≡ newest + 1). omega (arith, e))) [ inl w ↦ omega (arith, w, g, u) | inr w ↦ omega (arith, w, v, f) ];
        };
      }
