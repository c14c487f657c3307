-- The words for names.
use Rattle.std.specs.Prelude.{if◌then◌else◌, ℕ, ◌+◌, ◌^◌, Bool, ◌&&◌, List, [], ◌∷◌, length, take, drop, position, Some, None, Ok, Err, Option, Result, nat_eq, nat_lt}
use Rattle.std.specs.Str.{bytes_eq}
use Rattle.common.specs.declared.name.Name.{Name}
use Rattle.script.specs.declared.line.Malformed.{Malformed}
use Rattle.script.specs.declared.line.Malformed.TheVariants.{NotAName, NotInText}
use Rattle.script.specs.Numbers.{number_below}
use Rattle.script.specs.Words.{and_then, begins_with}

-- What is left of a text from each of its places on.
abbrev pub tails : List ℕ → List (List ℕ)
tails [] = []
tails (b ∷ bs) = (b ∷ bs) ∷ tails bs

-- Whether the bytes of a word stand at the front.
abbrev pub stands_in : List ℕ → List ℕ → Bool
stands_in w bs = bytes_eq w (take (length w) bs)

-- The first place of the text where the bytes of a word stand.
abbrev pub place_of : List ℕ → List ℕ → Option ℕ
place_of text w = position (stands_in w) (tails text)

-- A start and a length.
abbrev pub name_from : ℕ → ℕ → Name
name_from s n = record { start = s; len = n }

-- The name at a place, which has a start of 32 bits and at most 255 bytes.
abbrev pub name_at : Option ℕ → ℕ → Result Name Malformed
name_at None n = Err NotInText
name_at (Some s) n = if nat_lt s (2 ^ 32) && nat_lt n 256 then Ok (name_from s n) else Err NotInText

-- Two numbers with a colon between them, at i.
abbrev pub name_split : Option ℕ → List ℕ → Result Name Malformed
name_split None w = Err NotAName
name_split (Some i) w = and_then (number_below (2 ^ 32) (take i w)) (λ s. and_then (number_below 256 (drop (i + 1) w)) (λ n. Ok (name_from s n)))

-- The name that START:LEN writes.
abbrev pub name_given : List ℕ → Result Name Malformed
name_given w = name_split (position (λ b. nat_eq b 58) w) w

-- The name that a word stands for: after an @ its start and length, and else where the word stands in the text.
abbrev pub name_of : List ℕ → List ℕ → Result Name Malformed
name_of text w = if begins_with 64 w then name_given (drop 1 w) else name_at (place_of text w) (length w)
