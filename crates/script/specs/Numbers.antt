-- The numbers that words write.
use Rattle.std.specs.Prelude.{if◌then◌else◌, ℕ, ◌+◌, ◌-◌, ◌*◌, ◌^◌, Bool, ◌&&◌, List, map, length, Ok, Err, Result, nat_lt}
use Rattle.std.specs.Char.{is_ascii_digit}
use Rattle.std.specs.Int.Digits.{number_from_digits}
use Rattle.std.specs.Str.{all_ascii_digits}
use Rattle.script.specs.declared.line.Malformed.{Malformed}
use Rattle.script.specs.declared.line.Malformed.TheVariants.{NotANumber}
use Rattle.script.specs.Words.{and_then, only_word}

-- What the digits write, in base ten.
abbrev pub decimal : List ℕ → ℕ
decimal w = number_from_digits 10 (map (λ c. c - 48) w)

-- A number below a limit is one or more digits, and what they write is below the limit.
abbrev pub is_number : ℕ → List ℕ → Bool
is_number limit w = nat_lt 0 (length w) && (all_ascii_digits w && nat_lt (decimal w) limit)

-- The number that a word writes.
abbrev pub number_below : ℕ → List ℕ → Result ℕ Malformed
number_below limit w = if is_number limit w then Ok (decimal w) else Err NotANumber

-- A number is needed, and nothing may follow it.
abbrev pub last_number : List (List ℕ) → Result ℕ Malformed
last_number ws = and_then (only_word ws) (number_below (2 ^ 32))

-- A number with one more digit after it, where that has 32 bits.
abbrev pub more_digit : ℕ → ℕ → Result ℕ Malformed
more_digit n c =
    if is_ascii_digit c && nat_lt (n * 10 + (c - 48)) (2 ^ 32) then Ok (n * 10 + (c - 48)) else Err NotANumber
