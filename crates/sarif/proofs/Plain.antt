-- Values whose numbers are whole and whose texts are UTF-8: they are printed and read as they are.
use Rattle.std.proofs.Common.{◌≡◌, ◌<◌, ◌^◌, suc, max, Bool, true, false, [], ◌∷◌, refl, ap, ap₂, IsUtf8, decimal}
use Rattle.std.specs.Prelude.{⊤}
use Rattle.std.proofs.lemmas.Str.{IsUtf8-append, IsUtf8-from_ascii, IsUtf8-nil}
use Rattle.std.proofs.lemmas.Fmt.{IsAscii-decimal}
use Rattle.json.specs.Tree as tree
use Rattle.json.proofs.Printed.Decimals.{IsNumber-decimal}
use Rattle.json.proofs.Printed.Utf8.{IsUtf8-are_ascii, IsUtf8-quoted, IsUtf8-boolean}
use Rattle.serde_json.specs.Data.{Num, unsigned, negative, float, Data, null, boolean, number, string, array, object, Items, no_items, item, Members, no_members, member, depth, items_depth, members_depth}
use Rattle.serde_json.specs.Written.{outline, items_outline, members_outline, comma_if, compact_text, items_text, members_text}

abbrev pub IsWhole : Num → Type 0
IsWhole (unsigned n) = n < 2 ^ 64
IsWhole (negative z) = ⊥
IsWhole (float x) = ⊥

abbrev mutual
  pub IsPlain : Data → Type 0
  IsPlain null = ⊤
  IsPlain (boolean b) = ⊤
  IsPlain (number n) = IsWhole n
  IsPlain (string s) = IsUtf8 s
  IsPlain (array ds) = ArePlain ds
  IsPlain (object ms) = MembersArePlain ms

  pub ArePlain : Items → Type 0
  ArePlain no_items = ⊤
  ArePlain (item d ds) = IsPlain d × ArePlain ds

  pub MembersArePlain : Members → Type 0
  MembersArePlain no_members = ⊤
  MembersArePlain (member k d ms) = IsUtf8 k × (IsPlain d × MembersArePlain ms)

-- each text of a number is one
mutual
  pub numbers_kept : (d : Data) → IsPlain d → tree.HasNumbers (outline d)
  numbers_kept null h = tt
  numbers_kept (boolean b) h = tt
  numbers_kept (number (unsigned n)) h = IsNumber-decimal n h
  numbers_kept (number (negative z)) h = absurd h
  numbers_kept (number (float x)) h = absurd h
  numbers_kept (string s) h = tt
  numbers_kept (array ds) h = items_numbers_kept ds h
  numbers_kept (object ms) h = members_numbers_kept ms h

  items_numbers_kept : (ds : Items) → ArePlain ds → tree.ItemsHaveNumbers (items_outline ds)
  items_numbers_kept no_items h = tt
  items_numbers_kept (item d ds) h = (numbers_kept d h.0, items_numbers_kept ds h.1)

  members_numbers_kept : (ms : Members) → MembersArePlain ms → tree.MembersHaveNumbers (members_outline ms)
  members_numbers_kept no_members h = tt
  members_numbers_kept (member k d ms) h = (numbers_kept d h.1.0, members_numbers_kept ms h.1.1)

-- the outline nests as deeply
mutual
  pub depth_kept : (d : Data) → tree.depth (outline d) ≡ depth d
  depth_kept null = refl
  depth_kept (boolean b) = refl
  depth_kept (number n) = refl
  depth_kept (string s) = refl
  depth_kept (array ds) = ap suc (items_depth_kept ds)
  depth_kept (object ms) = ap suc (members_depth_kept ms)

  items_depth_kept : (ds : Items) → tree.items_depth (items_outline ds) ≡ items_depth ds
  items_depth_kept no_items = refl
  items_depth_kept (item d ds) = ap₂ max (depth_kept d) (items_depth_kept ds)

  members_depth_kept : (ms : Members) → tree.members_depth (members_outline ms) ≡ members_depth ms
  members_depth_kept no_members = refl
  members_depth_kept (member k d ms) = ap₂ max (depth_kept d) (members_depth_kept ms)

comma_utf8 : (later : Bool) → IsUtf8 (comma_if later)
comma_utf8 true = IsUtf8-are_ascii _ refl
comma_utf8 false = IsUtf8-nil

-- the text is UTF-8
mutual
  pub text_utf8 : (d : Data) → IsPlain d → IsUtf8 (compact_text d)
  text_utf8 null h = IsUtf8-are_ascii _ refl
  text_utf8 (boolean b) h = IsUtf8-boolean b
  text_utf8 (number (unsigned n)) h = IsUtf8-from_ascii (decimal n) (IsAscii-decimal n h)
  text_utf8 (number (negative z)) h = absurd h
  text_utf8 (number (float x)) h = absurd h
  text_utf8 (string s) h = IsUtf8-quoted s h
  text_utf8 (array ds) h = IsUtf8-append (91 ∷ []) _ (IsUtf8-are_ascii _ refl) (items_utf8 false ds h)
  text_utf8 (object ms) h = IsUtf8-append (123 ∷ []) _ (IsUtf8-are_ascii _ refl) (members_utf8 false ms h)

  items_utf8 : (later : Bool) (ds : Items) → ArePlain ds → IsUtf8 (items_text later ds)
  items_utf8 later no_items h = IsUtf8-are_ascii _ refl
  items_utf8 later (item d ds) h = IsUtf8-append _ _ (comma_utf8 later) (IsUtf8-append _ _ (text_utf8 d h.0) (items_utf8 true ds h.1))

  members_utf8 : (later : Bool) (ms : Members) → MembersArePlain ms → IsUtf8 (members_text later ms)
  members_utf8 later no_members h = IsUtf8-are_ascii _ refl
  members_utf8 later (member k d ms) h =
      IsUtf8-append _ _ (comma_utf8 later) (IsUtf8-append _ _ (IsUtf8-quoted k h.0) (IsUtf8-append (58 ∷ []) _ (IsUtf8-are_ascii _ refl) (IsUtf8-append _ _ (text_utf8 d h.1.0) (members_utf8 true ms h.1.1))))
