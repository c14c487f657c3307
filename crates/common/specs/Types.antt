-- The six types and what they hold.
use Rattle.std.specs.Prelude.{if◌then◌else◌, ℕ, ◌-◌, ◌^◌, Bool, true, false, ◌&&◌, ℤ, pos, negsuc, Some, None, List, codes, Option, ◌==◌, int_le}
use Rattle.std.specs.Str.{bytes_eq}
use Rattle.common.specs.declared.data_type.DataType.{DataType}
use Rattle.common.specs.declared.data_type.DataType.TheVariants.{Int8, Int16, Int32, Int64, Boolean, Utf8}
use Rattle.common.specs.declared.data_type.UnknownType.{UnknownType}
use Rattle.common.specs.declared.data_type.Value.{Value}
use Rattle.common.specs.declared.data_type.Value.TheVariants.{Null, Whole, Text}

-- The number of a type.
abbrev pub type_number : DataType → ℕ
type_number Int8 = 1
type_number Int16 = 2
type_number Int32 = 3
type_number Int64 = 4
type_number Boolean = 5
type_number Utf8 = 6

-- The type of a number; 0 and 7 and up are the number of none.
abbrev pub type_of : ℕ → Option DataType
type_of n =
    if n == 1 then Some Int8
    else (if n == 2 then Some Int16
    else (if n == 3 then Some Int32
    else (if n == 4 then Some Int64
    else (if n == 5 then Some Boolean
    else (if n == 6 then Some Utf8
    else None)))))

-- The type that a word names.
abbrev pub type_named : List ℕ → Option DataType
type_named w =
    if bytes_eq w (codes "Int8") then Some Int8
    else (if bytes_eq w (codes "Int16") then Some Int16
    else (if bytes_eq w (codes "Int32") then Some Int32
    else (if bytes_eq w (codes "Int64") then Some Int64
    else (if bytes_eq w (codes "Boolean") then Some Boolean
    else (if bytes_eq w (codes "Utf8") then Some Utf8
    else None)))))

-- What stands in a type's place where there is none.
abbrev pub unknown_type : UnknownType
unknown_type = record {}

-- A number of so many bits, with a sign: from -2^(bits-1) to 2^(bits-1)-1.
abbrev pub signed_bits : ℕ → ℤ → Bool
signed_bits bits n = int_le (negsuc (2 ^ (bits - 1) - 1)) n && int_le n (pos (2 ^ (bits - 1) - 1))

-- Whether a whole number lies in the type's range. Boolean has 0 and 1; Utf8 has no whole number.
abbrev pub holds : DataType → ℤ → Bool
holds Int8 n = signed_bits 8 n
holds Int16 n = signed_bits 16 n
holds Int32 n = signed_bits 32 n
holds Int64 n = signed_bits 64 n
holds Boolean n = int_le (pos 0) n && int_le n (pos 1)
holds Utf8 n = false

-- Whether a value is one of the type: null is one of every type, and a text's number is one of Utf8.
abbrev pub fits : Value → DataType → Bool
fits Null t = true
fits (Whole n) t = holds t n
fits (Text k) t = type_number t == type_number Utf8
