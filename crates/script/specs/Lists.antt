-- Lists of numbers, word by word.
use Rattle.std.specs.Prelude.{if◌then◌else◌, ◌≡◌, ℕ, ◌^◌, Bool, ◌&&◌, List, [], ◌∷◌, Some, None, Ok, codes, Option, Result}
use Rattle.std.specs.Borrow.{Bor}
use Rattle.std.specs.Iterator.{YieldsFirstRef}
use Rattle.std.specs.Str.{bytes_eq}
use Rattle.script.specs.declared.line.Malformed.{Malformed}
use Rattle.script.specs.Numbers.{last_number, number_below}
use Rattle.script.specs.Words.{alone, and_then}

-- A list may end at the word `into`.
abbrev pub stops : Bool → List ℕ → Bool
stops into w = into && bytes_eq w (codes "into")

-- The words of a list, up to where it ends.
abbrev pub list_words : Bool → List (List ℕ) → List (List ℕ)
list_words into [] = []
list_words into (w ∷ ws) = if stops into w then [] else (w ∷ list_words into ws)

-- The words from there on.
abbrev pub after_list : Bool → List (List ℕ) → List (List ℕ)
after_list into [] = []
after_list into (w ∷ ws) = if stops into w then w ∷ ws else after_list into ws

-- The words of a list that are still to come, and the words from its end on.
pub record ListParts : Type 0 where
  pub left : List (List ℕ)
  pub after : List (List ℕ)

-- The next word of a list; none where it has ended. What follows the list stays.
abbrev pub NextOfList : ListParts → Option (Bor (List ℕ)) → ListParts → Type 0
NextOfList old r new = YieldsFirstRef (λ l. l.left) old r new × (new.after ≡ old.after)

-- All words of the list were taken.
pub record IsEnded (old new : ListParts) : Type 0 where
  pub none_left : new.left ≡ []
  pub same : new.after ≡ old.after

-- The numbers that words write.
abbrev pub numbers_of : List (List ℕ) → Result (List ℕ) Malformed
numbers_of [] = Ok []
numbers_of (w ∷ ws) = and_then (number_below (2 ^ 32) w) (λ n. and_then (numbers_of ws) (λ ns. Ok (n ∷ ns)))

-- An index list is the word `absent` alone, or numbers.
abbrev pub list_of : List (List ℕ) → Result (Option (List ℕ)) Malformed
list_of [] = Ok (Some [])
list_of (w ∷ ws) = if bytes_eq w (codes "absent") then alone None ws else and_then (numbers_of (w ∷ ws)) (λ ns. Ok (Some ns))

-- What follows a list is nothing, or the word `into` and a number.
abbrev pub room_of : List (List ℕ) → Result (Option ℕ) Malformed
room_of [] = Ok None
room_of (w ∷ ws) = and_then (last_number ws) (λ n. Ok (Some n))
