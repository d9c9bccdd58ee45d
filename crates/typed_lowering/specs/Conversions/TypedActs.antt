-- What an act of a template does to what is known of temporaries, where its bases have types.
use Rattle.std.specs.Prelude.{◌≡◌, ℕ, ◌<◌, ℤ, pos, true, List, Option, Some, None}
use Rattle.cc_base.specs.declared.int_types.IntType.{IntType}
use Rattle.c_layout.specs.Layout.{size_of_type}
use Rattle.c_layout.specs.StructViews.{StructView}
use Rattle.c_layout.specs.Types.{Ty, Struct}
use Rattle.cfg.specs.declared.machine_instructions.Amount.{Amount}
use Rattle.cfg.specs.declared.machine_instructions.Scalar.{Scalar}
use Rattle.cfg.specs.declared.machine_instructions.Scalar.TheVariants as of
use Rattle.lower_templates.specs.Worklist.Acts as acts
use Rattle.lower_templates.specs.Worklist.Acts.{Act}
use Rattle.typed_programs.specs.PlainUnits.PlainTerms.{is_plain_library}
use Rattle.typed_programs.specs.Types.StandingTypes.{Stands}
use Rattle.typed_programs.specs.Types.PointedTypes.{Target, Element, Place, target_type, Known, Zero, Null, Pointing, IsLess, IsOfKind, IsStorable}
use Rattle.typed_programs.specs.Types.TypedPrograms.{IsKept, Gives, GivesIf, Keeps}
use Rattle.typed_programs.specs.Types.TypedStates.{Temporaries}

module _ (structs : List StructView) (pointer_size : ℕ) (bases : ℕ → Option Ty) (before after : Temporaries) where
  -- a temporary points to a type
  pub record PointsTo (temp : ℕ) (t : Ty) : Type 0 where
    pub known : Known
    pub target : Target
    pub has : before temp ≡ Some known
    pub less : IsLess known (Pointing target)
    pub is : target_type target ≡ t

  pub data IsTypedAct : Act → Type 0 where
    gives_zero : (to : ℕ) (kind : IntType) → Gives to (Some Zero) before after → IsTypedAct (acts.Constant to (pos 0) kind)
    gives_number : (to : ℕ) (n : ℤ) (kind : IntType) → Gives to None before after → IsTypedAct (acts.Constant to n kind)
    gives_address : (to base : ℕ) (t : Ty) → bases base ≡ Some t → Gives to (Some (Pointing (Element t))) before after → IsTypedAct (acts.Address to base 0)
    gives_part : (to base offset : ℕ) (outer t : Ty) → bases base ≡ Some outer → Stands structs pointer_size outer t offset → Gives to (Some (Pointing (Place t))) before after → IsTypedAct (acts.Address to base offset)
    loads : (to from : ℕ) (kind : Scalar) (t : Ty) (known : Option Known) → PointsTo from t → IsOfKind t kind known → Gives to known before after → IsTypedAct (acts.Load to from kind)
    stores_in : (to from : ℕ) (kind : Scalar) (kept : Option (ℕ × ℕ)) (t : Ty) (known : Option Known) → PointsTo to t → IsOfKind t kind known → IsStorable known (before from) → Keeps kept before after → IsTypedAct (acts.Store to from kind kept)
    copies : (to from index : ℕ) → PointsTo to (Struct index) → PointsTo from (Struct index) → 0 < size_of_type structs pointer_size (Struct index) → IsKept before after → IsTypedAct (acts.Copy to from index)
    narrows : (to from offset size : ℕ) (t inner : Ty) → PointsTo from t → Stands structs pointer_size t inner offset → size ≡ size_of_type structs pointer_size inner → 0 < size → Gives to (Some (Pointing (Element inner))) before after → IsTypedAct (acts.Narrow to from offset size)
    shifts : (to from : ℕ) (by : Amount) (size : ℕ) (back : _) (t : Ty) (known : Known) → before from ≡ Some known → IsLess known (Pointing (Element t)) → size ≡ size_of_type structs pointer_size t → 0 < size → Gives to (Some (Pointing (Element t))) before after → IsTypedAct (acts.Shift to from by size back)
    computes : (to : ℕ) (sign : _) (left : ℕ) (right : Amount) (kind : IntType) → Gives to None before after → IsTypedAct (acts.Binary to sign left right kind)
    computes_one : (to : ℕ) (sign : _) (from : ℕ) (kind : IntType) → Gives to None before after → IsTypedAct (acts.Unary to sign from kind)
    compares : (to : ℕ) (sign : _) (left right : ℕ) → Gives to None before after → IsTypedAct (acts.Compare to sign left right)
    inverts : (to from : ℕ) (kind : Scalar) → Gives to None before after → IsTypedAct (acts.Not to from kind)
    subtracts : (to left right size : ℕ) → Gives to None before after → IsTypedAct (acts.Difference to left right size)
    compares_pointers : (to : ℕ) (sign : _) (left right : ℕ) → Gives to None before after → IsTypedAct (acts.ComparePointers to sign left right)
    to_number : (to from : ℕ) (old : Scalar) (kind : IntType) → Gives to None before after → IsTypedAct (acts.Convert to from old (of.Int kind))
    to_null : (to from : ℕ) (kind : IntType) → before from ≡ Some Zero → Gives to (Some Null) before after → IsTypedAct (acts.Convert to from (of.Int kind) of.Pointer)
    to_pointer : (to from : ℕ) → Gives to (before from) before after → IsTypedAct (acts.Convert to from of.Pointer of.Pointer)
    calls : (to : Option ℕ) (name : _) (arguments : List ℕ) (newest size : Option ℕ) → is_plain_library name ≡ true → GivesIf to None before after → IsTypedAct (acts.Library to name arguments newest size)
    enters : (base : ℕ) → IsKept before after → IsTypedAct (acts.Enter base)
    leaves_object : (base : ℕ) → IsKept before after → IsTypedAct (acts.Leave base)
    forgets : (base : ℕ) → IsKept before after → IsTypedAct (acts.Forget base)
    clears : (base : ℕ) → IsKept before after → IsTypedAct (acts.Clear base)
    spells : (base offset room : ℕ) (text : List ℕ) → IsKept before after → IsTypedAct (acts.Spell base offset room text)
    jumps : IsKept before after → IsTypedAct acts.Jump
    branches : (from : ℕ) (kind : Scalar) → IsKept before after → IsTypedAct (acts.Branch from kind)
    switches : (from : ℕ) (kind : IntType) → IsKept before after → IsTypedAct (acts.Switch from kind)
    ends_run : IsTypedAct acts.Stop
