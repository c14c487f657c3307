-- The words for types.
use Rattle.std.specs.Prelude.{if◌then◌else◌, ℕ, List, Some, None, Ok, Err, Option, Result}
use Rattle.common.specs.Types.{type_named, type_number}
use Rattle.common.specs.declared.data_type.DataType.{DataType}
use Rattle.script.specs.declared.line.Malformed.{Malformed}
use Rattle.script.specs.declared.line.Malformed.TheVariants.{NotAType}
use Rattle.script.specs.Numbers.{decimal, is_number}

-- The number of the type that is named, else the number that the word writes.
abbrev pub named_or : Option DataType → List ℕ → Result ℕ Malformed
named_or (Some t) w = Ok (type_number t)
named_or None w = if is_number 256 w then Ok (decimal w) else Err NotAType

-- A type's number, by its name or as it stands. Whether there is such a type is left to the schema.
abbrev pub type_number_of : List ℕ → Result ℕ Malformed
type_number_of w = named_or (type_named w) w
