use Rattle.c_types_primary.proofs.type_names.word_type.Goals as goal

pub returns-in-Struct : goal.returns-in-Struct
returns-in-Struct c = rw c.in-Struct.is c.struct_word.ensures

pub returns-in-Enum : goal.returns-in-Enum
returns-in-Enum c = rw c.in-Enum.is c.enumeration_word.ensures
