-- Two places of one structure are one, or share no byte.
use Rattle.std.proofs.Common.{◌≡◌, ℕ, zero, suc, ◌+◌, ◌-◌, ◌<◌, ◌≤◌, cond, nat_lt, List, length, Some, None, arith, ap, sym, refl, ◌∙◌}
use Rattle.std.specs.Prelude.{◌==◌}
use Rattle.std.specs.Option.{option_or}
use Rattle.std.proofs.lemmas.Bool.{and_from, eq-eqb, lt-ltb}
use Rattle.std.proofs.lemmas.Option.{same_Some}
use Rattle.c_layout.specs.Layout.{size_of_type}
use Rattle.c_layout.specs.StructViews.{StructView, struct_at}
use Rattle.c_layout.specs.Types.{Ty, Struct}
use Rattle.typed_programs.specs.Types.TypeBytes.{member_bytes, bytes_with, struct_bytes, own_struct, struct_byte}
use Rattle.typed_programs.specs.Types.StandingTypes.{Stands}

module _ (structs : List StructView) (pointer_size index : ℕ) (less : index < length structs) where
  abbrev size : ℕ
  size = size_of_type structs pointer_size (Struct index)

  -- each byte of a structure is its own
  own_byte : (x : ℕ) → x < size → struct_byte structs pointer_size index (Struct index) x ≡ Some x
  unfolding struct_byte
  own_byte x small = by_depth (length structs) refl
    where
      is_own : own_struct structs pointer_size index (Struct index) x ≡ Some x
      is_own = ap (λ b. cond b (Some x) None) (and_from (index == index) (nat_lt x size) (eq-eqb index index refl) (lt-ltb x size small))

      by_depth : (depth : ℕ) → length structs ≡ depth → struct_bytes structs pointer_size (own_struct structs pointer_size index) (length structs) index x ≡ Some x
      by_depth zero d = absurd (omega (arith, d, less))
      by_depth (suc depth) d =
          ap (λ z. struct_bytes structs pointer_size (own_struct structs pointer_size index) z index x) d
          ∙ ap (λ o. option_or o (member_bytes (bytes_with structs pointer_size (own_struct structs pointer_size index) (struct_bytes structs pointer_size (own_struct structs pointer_size index) depth)) (struct_at structs index).fields x)) is_own

  -- a byte of a place of it is known by how far from the begin it is
  byte_at : (outer : Ty) (a x : ℕ) → Stands structs pointer_size outer (Struct index) a → a ≤ x → x < a + size → struct_byte structs pointer_size index outer x ≡ Some (x - a)
  byte_at outer a x h lo hi =
      let e : x ≡ a + (x - a) = omega (arith, lo) in
      ap (struct_byte structs pointer_size index outer) e ∙ h.structures index (x - a) (x - a) (own_byte (x - a) (omega (arith, lo, hi)))

  pub apart : (outer : Ty) (a b x : ℕ) → Stands structs pointer_size outer (Struct index) a → Stands structs pointer_size outer (Struct index) b
      → a ≤ x → x < a + size → b ≤ x → x < b + size → a ≡ b
  apart outer a b x p q lo hi low high =
      let e = same_Some (x - a) (x - b) (sym (byte_at outer a x p lo hi) ∙ byte_at outer b x q low high) in
      omega (arith, e, lo, low)
