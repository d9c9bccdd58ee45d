use Rattle.std.proofs.Common.{◌≡◌, false, map, string_bytes, sym, subst}
use Rattle.c_preproc.specs.Names.{is_among}
use Rattle.c_preproc.proofs.NameLists.{distinct_more}
use Rattle.c_preproc.proofs.file_names.FileNames.add.Goals as goal

pub invariant_of-self-2 : goal.invariant_of-self-2
invariant_of-self-2 c =
    let new : is_among c.args.name.now (map string_bytes c.self.inside.names.items) ≡ false = subst (λ v. is_among c.args.name.now v ≡ false) (sym c.self.view_is) c.requires in
    distinct_more string_bytes _ _ c.in_ok-name.name c.args.name.now c.in_ok-push.ensures.items c.in_ok-name.ensures.ok new c.self.invariant
