-- Texts are spelled over characters.
use Rattle.std.proofs.Common.{◌≡◌, ℕ, suc, ◌+◌, true, not, ◌&&◌, Option, Some, None, List, [], ◌∷◌, subst, sym, refl, ap, inl, inr}
use Rattle.std.specs.Prelude.{slice_get, ◌==◌, nat_lt}
use Rattle.std.specs.List.{list_any, list_all}
use Rattle.std.proofs.lemmas.Bool.{and_parts, or_cases, eqb-true, ltb-true, not-true, true≢false}
use Rattle.cc_base.specs.declared.limit_table.Limits.{Limits}
use Rattle.c_layout.specs.declared.shapes.BaseInfo.{BaseInfo}
use Rattle.c_layout.specs.declared.shapes.ZeroPart.{ZeroPart}
use Rattle.cfg.specs.BaseShapes.{is_extent, is_shaped}
use Rattle.cfg.specs.WellFormed.{is_well_formed}
use Rattle.cfg.specs.declared.machine_instructions.Operation.TheVariants as op
use Rattle.cfg.specs.declared.programs.Flow.{Flow}
use Rattle.analysis_preconditions.specs.Objects.SpelledTexts.{reaches_over, is_size_of, is_followed, has_followed, has_characters, takes_text, spells_characters, spells_over_characters}
use Rattle.store_monotone.specs.Operations.StoreLaws.{AreBytes}
use Rattle.store_sound.specs.Programs.Premises.{HasPremises}
use Rattle.store_sound.proofs.programs.ShapedBases.{all_at}
use Rattle.store_sound.proofs.programs.WellFormedPremises.{well_formed_good}
use Rattle.transfer_system.specs.System.RegularPrograms.{is_byte, has_bytes, follows_leaves, has_scalars}
use Rattle.library_sound.specs.Spelling.SpellSteps.{AreCharacters}
use Rattle.library_sound.proofs.spelling.FollowedArrays.{followed_characters}
use Rattle.analysis_sound.specs.Programs.OpenSteps.{SpellsOverCharacters}
use Rattle.analysis_sound.proofs.analyses.CharacterLeaves.{characters_over}
use Rattle.analysis_sound.proofs.analyses.Instructions.{done_in}

are_bytes : (text : List ℕ) → list_all is_byte text ≡ true → AreBytes text
are_bytes [] h = tt
are_bytes (c ∷ text) h = let p = and_parts (is_byte c) (list_all is_byte text) h in (ltb-true c 256 p.0, are_bytes text p.1)

-- ---- arrays whose first zeros are followed

record HasPart (offset room : ℕ) (parts : List ZeroPart) : Type 0 where
  number : ℕ
  part : ZeroPart
  there : slice_get parts number ≡ Some part
  size : part.size ≡ Some room
  begins : part.offset ≡ offset

size_is : (room : ℕ) (size : Option ℕ) → is_size_of room size ≡ true → size ≡ Some room
size_is room None h = absurd (true≢false (sym h))
size_is room (Some n) h = ap Some (eqb-true n room h)

part_in : (offset room : ℕ) (parts : List ZeroPart) → list_any (is_followed offset room) parts ≡ true → HasPart offset room parts
part_in offset room [] h = absurd (true≢false (sym h))
part_in offset room (part ∷ parts) h = elim (or_cases (is_followed offset room part) (list_any (is_followed offset room) parts) h) [
  | inl e ↦ (let p = and_parts (part.offset == offset) (is_size_of room part.size) e in record { number = 0; part = part; there = refl; size = size_is room part.size p.1; begins = eqb-true part.offset offset p.0 })
  | inr e ↦ (let r = part_in offset room parts e in record { number = suc r.number; part = r.part; there = r.there; size = r.size; begins = r.begins })
]

module _ (limits : Limits) (flow : Flow) (good : is_well_formed limits flow ≡ true) (p : HasPremises flow) where
  text_over : (base offset room : ℕ) (info : BaseInfo) → slice_get flow.bases.items base ≡ Some info → takes_text offset room (Some info) ≡ true → AreCharacters flow info offset room
  text_over base offset room info is h = elim (or_cases (has_followed offset room info) (has_characters info.shape.cells offset room) h) [
    | inl e ↦ (let b = and_parts (not info.shape.heap) (list_any (is_followed offset room) info.shape.zeros) e in
        let r = part_in offset room info.shape.zeros b.1 in
        subst (λ z. AreCharacters flow info z room) r.begins (followed_characters flow p base r.number info r.part room is (not-true info.shape.heap b.0) r.there r.size))
    | inr e ↦ (let over = (and_parts (is_extent offset && is_extent room) (reaches_over info.shape.cells offset (offset + room)) e).1 in
        let formed = well_formed_good limits flow good in
        characters_over flow.model formed.model info (all_at (is_shaped flow.model) flow.bases.items base info formed.shaped is) offset (offset + room) over)
  ]

  pub texts_over : has_scalars flow ≡ true → spells_over_characters flow ≡ true → SpellsOverCharacters flow
  texts_over scalars h base offset room text d =
      let bytes = (and_parts _ (list_all (λ e. follows_leaves flow.bases.items e.kind) flow.edges.items) scalars).0 in
      let spelled = and_parts (nat_lt 0 room) (takes_text offset room (slice_get flow.bases.items base)) (done_in flow (spells_characters flow.bases.items) h (op.Spell base offset room text) d) in
      record {
        some = ltb-true 0 room spelled.0;
        bytes = are_bytes text (done_in flow has_bytes bytes (op.Spell base offset room text) d);
        over = λ info is. text_over base offset room info is (subst (λ z. takes_text offset room z ≡ true) is spelled.1);
      }
