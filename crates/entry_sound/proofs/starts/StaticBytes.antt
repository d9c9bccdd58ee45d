-- Stores change no tag and no length, so clearing their bytes gives what was cleared before.
use Rattle.std.proofs.Common.{◌≡◌, ℕ, zero, suc, List, [], ◌∷◌, sym, refl, ap, ◌∙◌}
use Rattle.c_layout.specs.CheckedUnits.{StaticStoreView, SetValue, SetText, UnitView}
use Rattle.memory_model.specs.Memory.Labels.{no_labels}
use Rattle.memory_model.specs.Memory.Bytes.{Content, number, Byte}
use Rattle.memory_model.specs.Effects.ObjectEffects.{holding, all_of}
use Rattle.memory_model.specs.Effects.ScalarBytes.{filled, refilled}
use Rattle.memory_model.specs.Effects.UnitStarts.{typed_bytes, stored, all_stored}
use Rattle.entry_sound.specs.Starts.StaticBytes.{StaticBytesAreStored}

module _ (c : Content) where
  filled_same : (bs : List Byte) (cs : List Content) → all_of c (filled bs cs) ≡ all_of c bs
  filled_same [] [] = refl
  filled_same [] (x ∷ cs) = refl
  filled_same (b ∷ bs) [] = refl
  filled_same (b ∷ bs) (x ∷ cs) = ap (λ z. holding c b ∷ z) (filled_same bs cs)

  refilled_same : (offset : ℕ) (bs : List Byte) (cs : List Content) → all_of c (refilled bs offset cs) ≡ all_of c bs
  refilled_same zero bs cs = filled_same bs cs
  refilled_same (suc offset) [] cs = filled_same [] cs
  refilled_same (suc offset) (b ∷ bs) cs = ap (λ z. holding c b ∷ z) (refilled_same offset bs cs)

  twice_same : (bs : List Byte) → all_of c (all_of c bs) ≡ all_of c bs
  twice_same [] = refl
  twice_same (b ∷ bs) = ap (λ z. holding c b ∷ z) (twice_same bs)

  module _ (u : UnitView) where
    stored_same : (s : StaticStoreView) (bs : List Byte) → all_of c (stored u s bs) ≡ all_of c bs
    stored_same (SetValue offset value) bs = refilled_same offset bs _
    stored_same (SetText offset room text) bs = refilled_same offset bs _

    all_same : (ss : List StaticStoreView) (bs : List Byte) → all_of c (all_stored u ss bs) ≡ all_of c bs
    all_same [] bs = refl
    all_same (s ∷ ss) bs = all_same ss (stored u s bs) ∙ stored_same s bs

pub bytes_are_stored : (u : UnitView) → StaticBytesAreStored u
bytes_are_stored u o =
    let c : Content = number 0 no_labels in
    let bs : List Byte = all_of c (typed_bytes u o.ctype) in
    ap (all_stored u o.stores) (sym (all_same c u o.stores bs ∙ twice_same c (typed_bytes u o.ctype)))
