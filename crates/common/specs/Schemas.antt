-- Fields and schemas.
use Rattle.std.specs.Prelude.{ℕ, Bool, List, take, is_some, Option}
use Rattle.std.specs.Option.{option_or}
use Rattle.common.specs.declared.field.Field.{Field}
use Rattle.common.specs.declared.name.Name.{Name}
use Rattle.common.specs.declared.refusal.Fault.{Fault}
use Rattle.common.specs.declared.refusal.Refusal.TheVariants.{FieldName, FieldType}
use Rattle.common.specs.Firsts.{first_fault, unless}
use Rattle.common.specs.Names.{is_name, same_name}
use Rattle.common.specs.Types.{type_of}

-- A schema is the first 65,535 fields of the list given.
unfoldable pub schema_of : List Field → List Field
schema_of fields = take 65535 fields

-- What is wrong with the field at a place: first its name, then its type.
abbrev pub field_fault : List ℕ → Field → ℕ → Option Fault
field_fault text f p = option_or (unless (is_name text f.name) FieldName p) (unless (is_some (type_of f.data_type)) FieldType p)

-- The first field of the schema with something wrong.
abbrev pub schema_fault : List ℕ → List Field → Option Fault
schema_fault text fields = first_fault (field_fault text) (schema_of fields) 0

-- Whether a field has a name equal to the one given.
abbrev pub has_name : List ℕ → Name → Field → Bool
has_name text n f = same_name text f.name n
