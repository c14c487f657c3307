-- The words of a line.
use Rattle.std.specs.Prelude.{if◌then◌else◌, ◌≡◌, ℕ, Bool, true, false, not, ◌||◌, List, [], ◌∷◌, ◌++◌, take, drop, Some, None, Ok, Err, Option, Result, ◌==◌}
use Rattle.std.specs.Borrow.{Bor}
use Rattle.std.specs.List.{prefix_len}
use Rattle.std.specs.Str.{bytes_eq}
use Rattle.script.specs.declared.line.Malformed.{Malformed}
use Rattle.script.specs.declared.line.Malformed.TheVariants.{MissingWord, ExtraWord}

-- A blank is a space, a tab or a carriage return.
abbrev pub blank : ℕ → Bool
blank b = b == 32 || (b == 9 || b == 13)

-- A run is one of blanks, or one of the bytes of a word, which are not blank.
abbrev pub in_run : Bool → ℕ → Bool
in_run true b = blank b
in_run false b = not (blank b)

-- How many bytes the run has that a line begins with.
abbrev pub run_length : Bool → List ℕ → ℕ
run_length blanks line = prefix_len (λ b. in_run blanks b) line

-- A word that has come to its end stands before the words that follow; one that has not begun is none.
abbrev pub closed : List ℕ → List (List ℕ) → List (List ℕ)
closed [] ws = ws
closed (b ∷ bs) ws = (b ∷ bs) ∷ ws

-- The words of what is left of a line, after the bytes of a word that has begun: a blank closes the word.
abbrev pub words_after : List ℕ → List ℕ → List (List ℕ)
words_after w [] = closed w []
words_after w (b ∷ bs) = if blank b then closed w (words_after [] bs) else words_after (w ++ b ∷ []) bs

-- The words of a line, its longest runs of bytes that are not blank.
abbrev pub words_of : List ℕ → List (List ℕ)
words_of line = words_after [] line

-- The line from its first word on.
abbrev pub from_word : List ℕ → List ℕ
from_word line = drop (run_length true line) line

-- The first word, which is the longest run there of bytes that are not blank.
abbrev pub first_word : List ℕ → List ℕ
first_word line = take (run_length false (from_word line)) (from_word line)

-- What follows the first word, with the blanks before the second.
abbrev pub after_word : List ℕ → List ℕ
after_word line = drop (run_length false (from_word line)) (from_word line)

-- The first word of a line, with what follows it; none where the line has no word.
abbrev pub Split : List ℕ → Option (Bor (List ℕ) × Bor (List ℕ)) → Type 0
Split line None = words_of line ≡ []
Split line (Some p) = (words_of line ≡ p.0.now ∷ words_of p.1.now) × (p.0.now ≡ first_word line) × (p.1.now ≡ after_word line)

-- The first of some words and the words after it; none where no word is left.
abbrev pub FirstAndRest : List (List ℕ) → Option (Bor (List ℕ) × List (List ℕ)) → Type 0
FirstAndRest ws None = ws ≡ []
FirstAndRest ws (Some p) = ws ≡ p.0.now ∷ p.1

-- Whether a word begins with the byte.
abbrev pub begins_with : ℕ → List ℕ → Bool
begins_with byte [] = false
begins_with byte (b ∷ bs) = b == byte

-- Whether the next word is this one.
abbrev pub comes_next : List ℕ → List (List ℕ) → Bool
comes_next word [] = false
comes_next word (w ∷ ws) = bytes_eq w word

-- Nothing may follow.
abbrev pub alone : {X : Type 0} → X → List (List ℕ) → Result X Malformed
alone x [] = Ok x
alone x (w ∷ ws) = Err ExtraWord

-- A word is needed, and nothing may follow it.
abbrev pub only_word : List (List ℕ) → Result (List ℕ) Malformed
only_word [] = Err MissingWord
only_word (w ∷ ws) = alone w ws

-- A step that is taken where the one before it was not refused.
abbrev pub and_then : {X Y E : Type 0} → Result X E → (X → Result Y E) → Result Y E
and_then (Ok x) step = step x
and_then (Err e) step = Err e
