-- A row is cut at some positions, and then at others.
use Rattle.std.proofs.Common.{◌≡◌, ◌∙◌, ℕ, ◌+◌, ◌<◌, List, [], ◌∷◌, ◌++◌, length, map, drop, get_or, refl, sym, ap, arith}
use Rattle.std.specs.List.{range_with_len}
use Rattle.std.proofs.lemmas.List.{drop_more}
use Rattle.std.proofs.lemmas.List.FromFn.{map-range_with_len_more}
use Rattle.c_layout.specs.declared.data_model.Model.{Model}
use Rattle.c_layout.specs.declared.shapes.BaseInfo.{BaseInfo}
use Rattle.value_domain.specs.declared.values.row_cells.Cell.{Cell}
use Rattle.interval_domain.specs.declared.intervals.intervals.Interval.{Interval}
use Rattle.certificate_programs.specs.Types.CutCells.{cut_at, cut_all}
use Rattle.certificate_programs.specs.Types.RowKinds.{base_kinds, objects_kinds}

pub cut_both : (ps qs : List (ℕ × ℕ)) (row : List (Cell Interval)) → cut_all (ps ++ qs) row ≡ cut_all qs (cut_all ps row)
cut_both [] qs row = refl
cut_both (p ∷ ps) qs row = cut_both ps qs (cut_at p.0 p.1 row)

-- at one more of the positions that numbers have
pub cut_more : (f : ℕ → ℕ × ℕ) (n : ℕ) (row : List (Cell Interval)) → cut_all (map f (range_with_len 0 (n + 1))) row ≡ cut_at (f n).0 (f n).1 (cut_all (map f (range_with_len 0 n)) row)
cut_more f n row = ap (λ ps. cut_all ps row) (map-range_with_len_more f 0 n n (omega arith)) ∙ cut_both (map f (range_with_len 0 n)) (f n ∷ []) row

-- one more base is cut
pub objects_more : (m : Model) (bases : List BaseInfo) (at : ℕ) (base : BaseInfo) (row now goal : List (Cell Interval)) → at < length bases → base ≡ get_or bases at base → now ≡ cut_all (base_kinds m base) row
    → cut_all (objects_kinds m (drop at bases)) row ≡ goal → cut_all (objects_kinds m (drop (at + 1) bases)) now ≡ goal
objects_more m bases at base row now goal less here cut is =
    let rest : List (ℕ × ℕ) = objects_kinds m (drop (at + 1) bases) in
    ap (cut_all rest) cut
    ∙ sym (cut_both (base_kinds m base) rest row)
    ∙ ap (λ b. cut_all (base_kinds m b ++ rest) row) here
    ∙ sym (ap (λ bs. cut_all (objects_kinds m bs) row) (drop_more bases at base less))
    ∙ is
