-- A field, word by word.
use Rattle.std.specs.Prelude.{if◌then◌else◌, ℕ, Bool, List, [], ◌∷◌, drop, Ok, Err, codes, Result}
use Rattle.std.specs.Str.{bytes_eq}
use Rattle.common.specs.declared.field.Field.{Field}
use Rattle.common.specs.declared.name.Name.{Name}
use Rattle.script.specs.declared.line.Malformed.{Malformed}
use Rattle.script.specs.declared.line.Malformed.TheVariants.{MissingWord, ExtraWord}
use Rattle.script.specs.Names.{name_of}
use Rattle.script.specs.Numbers.{last_number}
use Rattle.script.specs.Types.{type_number_of}
use Rattle.script.specs.Words.{and_then, comes_next}

-- Whether the word `null` comes next.
abbrev pub null_of : List (List ℕ) → Bool
null_of ws = comes_next (codes "null") ws

-- The words after it.
abbrev pub after_null : List (List ℕ) → List (List ℕ)
after_null ws = if null_of ws then drop 1 ws else ws

-- The tag of a field is 0, unless the word `tag` and a number come last.
abbrev pub tag_of : List (List ℕ) → Result ℕ Malformed
tag_of [] = Ok 0
tag_of (w ∷ ws) = if bytes_eq w (codes "tag") then last_number ws else Err ExtraWord

-- The end of a field: the word `null` where it may be null, and its tag.
abbrev pub field_end : Name → ℕ → List (List ℕ) → Result Field Malformed
field_end n t ws = and_then (tag_of (after_null ws)) (λ tag. Ok (record { name = n; data_type = t; nullable = null_of ws; tag = tag }))

-- What follows a field's name is its type, and then its end.
abbrev pub field_typed : Name → List (List ℕ) → Result Field Malformed
field_typed n [] = Err MissingWord
field_typed n (w ∷ ws) = and_then (type_number_of w) (λ t. field_end n t ws)

-- A field begins with its name.
abbrev pub field_of : List ℕ → List (List ℕ) → Result Field Malformed
field_of text [] = Err MissingWord
field_of text (w ∷ ws) = and_then (name_of text w) (λ n. field_typed n ws)
