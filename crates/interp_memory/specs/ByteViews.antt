-- What pointers, bytes and scalars of a program are to the machines.
use Rattle.std.specs.Prelude.{ℕ, List, map, Option, Some, None}
use Rattle.c_layout.specs.declared.leaf_lists.Class.{Class}
use Rattle.memory_model.specs.Memory.Labels.{Labels}
use Rattle.memory_model.specs.Memory.Bytes.{MachinePointer, null, into, Content, indeterminate, number, part, Tag, Byte}
use Rattle.memory_model.specs.Memory.Tags.{tag_of}
use Rattle.memory_model.specs.Memory.Scalars.{Scalar, integer, pointer}
use Rattle.interp_memory.specs.declared.byte_forms.LabelSet.{LabelSet}
use Rattle.interp_memory.specs.declared.byte_forms.Pointer7.{Pointer7}
use Rattle.interp_memory.specs.declared.byte_forms.Pointer7.TheVariants as p
use Rattle.interp_memory.specs.declared.byte_forms.Content7.{Content7}
use Rattle.interp_memory.specs.declared.byte_forms.Content7.TheVariants as content
use Rattle.interp_memory.specs.declared.byte_forms.Byte7.{Byte7}
use Rattle.interp_memory.specs.declared.byte_forms.Value7.{Value7}
use Rattle.interp_memory.specs.declared.byte_forms.Value7.TheVariants as value

abbrev pub labels_view : LabelSet → Labels
labels_view s = record { low = s.low; high = s.high; changed = s.changed }

abbrev pub pointer_view : Pointer7 → MachinePointer
pointer_view p.Null = null
pointer_view (p.At i offset lo hi) = into i offset lo hi

abbrev pub content_view : Content7 → Content
content_view content.Blank = indeterminate
content_view (content.Number n labels) = number n (labels_view labels)
content_view (content.Part p k) = part (pointer_view p) k

abbrev pub tag_view : Option (Class × ℕ) → Option Tag
tag_view None = None
tag_view (Some t) = tag_of t.0 t.1

abbrev pub byte_view : Byte7 → Byte
byte_view b = record { content = content_view b.content; tag = tag_view b.tag }

abbrev pub bytes_view : List Byte7 → List Byte
bytes_view bytes = map byte_view bytes

abbrev pub contents_view : List Content7 → List Content
contents_view cs = map content_view cs

abbrev pub scalar_view : Value7 → Scalar
scalar_view (value.Int n labels) = integer n (labels_view labels)
scalar_view (value.Ptr p) = pointer (pointer_view p)
