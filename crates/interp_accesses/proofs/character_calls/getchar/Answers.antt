use Rattle.std.proofs.Common.{ℤ, sym, ap, ◌∙◌, rules, SFits}
use Rattle.std.specs.Int.{w128}
use Rattle.std.proofs.lemmas.Int.{to_z-of_z}
use Rattle.memory_model.specs.Memory.Labels.{input_labels}
use Rattle.memory_model.specs.Memory.Scalars.{integer}
use Rattle.memory_model.specs.Effects.Worlds.{World, goes, behind}
use Rattle.memory_model.specs.Effects.LibraryCalls.{int_type}
use Rattle.interp_accesses.specs.WorldViews.{world_view}
use Rattle.interp_accesses.proofs.character_calls.getchar.Goals as goal

pub returns : goal.returns
returns c =
    let fits : SFits w128 c.in_ok-character.character = search rules in
    let labels = input_labels (int_type c.args.model.now) in
    ap (λ reply. behind reply (λ (n : ℤ) (w : World). goes (integer n labels) w)) c.in_ok-character.ensures
    ∙ ap (λ (n : ℤ). goes (integer n labels) (world_view c.draw.new.self)) (sym (to_z-of_z w128 c.in_ok-character.character fits))
    ∙ ap (λ v. goes v (world_view c.draw.new.self)) (sym (c.input.ensures c.args.model.now))
