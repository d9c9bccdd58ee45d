-- Whether each call that allocates has a site, and each call of `fgets` ends its block.
use Rattle.std.specs.Prelude.{Bool, true, not, ◌||◌, is_some}
use Rattle.std.specs.List.{list_all}
use Rattle.c_layout.specs.LibrarySignatures.{signature_of}
use Rattle.cfg.specs.declared.machine_instructions.Operation.{Operation}
use Rattle.cfg.specs.declared.machine_instructions.Operation.TheVariants as op
use Rattle.cfg.specs.declared.programs.Flow.{Flow}

abbrev pub has_site : Operation → Bool
has_site (op.Library to name arguments site size) = not (signature_of name).allocates || is_some site
has_site _ = true

-- no call of `fgets` within a block
abbrev pub reads_no_line : Operation → Bool
reads_no_line (op.Library to name arguments site size) = not (signature_of name).reads_line
reads_no_line _ = true

abbrev pub ends_with_lines : Flow → Bool
ends_with_lines flow = list_all (λ b. list_all (λ i. reads_no_line i.operation) b.instructions.items) flow.blocks.items

abbrev pub has_sites : Flow → Bool
has_sites flow = list_all (λ b. list_all (λ i. has_site i.operation) b.instructions.items) flow.blocks.items
