-- Lines, and what they say.
use Rattle.std.proofs.Common.{◌≡◌, true, false, [], ◌∷◌, Some, None, Ok, Err, codes, refl}
use Rattle.script.specs.declared.line.Malformed.TheVariants.{UnknownKeyword, MissingWord, ExtraWord, NotANumber, NotAType, NotAName, NotInText}
use Rattle.script.specs.Lines.{line_of, says_nothing, says_help, says_text, says_field, says_find, says_lower, says_combine}
use Rattle.script.specs.Names.{name_from}

comment : line_of [] (codes "  # any words") ≡ Ok says_nothing
comment = refl

help : line_of [] (codes " help ") ≡ Ok says_help
help = refl

text : line_of [] (codes "text  a b ") ≡ Ok (says_text (codes " a b "))
text = refl

text_return : line_of [] (116 ∷ 101 ∷ 120 ∷ 116 ∷ 32 ∷ 97 ∷ 13 ∷ []) ≡ Ok (says_text (97 ∷ []))
text_return = refl

field : line_of (codes "aba") (codes "field a Int32 null tag 007") ≡ Ok (says_field (record { name = name_from 0 1; data_type = 3; nullable = true; tag = 7 }))
field = refl

field_placed : line_of [] (codes "field @9:2 7") ≡ Ok (says_field (record { name = name_from 9 2; data_type = 7; nullable = false; tag = 0 }))
field_placed = refl

find : line_of (codes "abab") (codes "find ba") ≡ Ok (says_find (name_from 1 2))
find = refl

lower : line_of [] (codes "lower 4294967295 0") ≡ Ok (says_lower (Some (4294967295 ∷ 0 ∷ [])))
lower = refl

lower_none : line_of [] (codes "lower") ≡ Ok (says_lower (Some []))
lower_none = refl

combine : line_of [] (codes "combine absent into 4") ≡ Ok (says_combine None (Some 4))
combine = refl

refused_keyword : line_of [] (codes "Help") ≡ Err UnknownKeyword
refused_keyword = refl

refused_missing : line_of (codes "a") (codes "field a") ≡ Err MissingWord
refused_missing = refl

refused_extra : line_of [] (codes "lower absent 1") ≡ Err ExtraWord
refused_extra = refl

refused_number : line_of [] (codes "lower 4294967296") ≡ Err NotANumber
refused_number = refl

refused_into : line_of [] (codes "lower 1 into 2") ≡ Err NotANumber
refused_into = refl

refused_type : line_of (codes "a") (codes "field a 256") ≡ Err NotAType
refused_type = refl

refused_name : line_of [] (codes "find @12") ≡ Err NotAName
refused_name = refl

refused_text : line_of (codes "ab") (codes "find ba") ≡ Err NotInText
refused_text = refl
