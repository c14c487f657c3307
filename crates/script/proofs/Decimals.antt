-- Digits are read one after the other.
use Rattle.std.proofs.Common.{◌≡◌, ℕ, ◌+◌, ◌-◌, ◌*◌, ◌^◌, ◌<◌, cond, ◌&&◌, ltb, List, map, length, get_or, drop, Ok, Err, Result, ◌∙◌, arith}
use Rattle.std.specs.Int.Digits.{number_from_digits_after}
use Rattle.std.specs.Str.{all_ascii_digits}
use Rattle.std.proofs.lemmas.Int.Digits.{number_after_ge}
use Rattle.std.proofs.lemmas.List.{at_drop_more}
use Rattle.std.proofs.lemmas.Grind.{common_steps}
use Rattle.std.proofs.lemmas.Bool.Decides.{nat_tests}
use Rattle.script.specs.declared.line.Malformed.{Malformed}
use Rattle.script.specs.declared.line.Malformed.TheVariants.{NotANumber}
use Rattle.script.specs.Numbers.{more_digit, number_below}

-- ---- the digits after a number

-- What they write after the number n.
abbrev after : ℕ → List ℕ → ℕ
after n w = number_from_digits_after 10 n (map (λ c. c - 48) w)

-- The number that they make of n, where it has 32 bits.
abbrev pub read_after : ℕ → List ℕ → Result ℕ Malformed
read_after n w = cond (all_ascii_digits w && ltb (after n w) (2 ^ 32)) (Ok (after n w)) (Err NotANumber)

-- A digit that cannot be read after n ends the reading.
pub read_stops : (w : List ℕ) (i n : ℕ) (m : Malformed) → i < length w → Err m ≡ more_digit n (get_or w i 0) → read_after n (drop i w) ≡ Err m
read_stops w i n m h e = at_drop_more (λ l. read_after n l) w i 0 h ∙ grind (arith, common_steps, nat_tests, number_after_ge 10 (n * 10 + (get_or w i 0 - 48)) (map (λ d. d - 48) (drop (i + 1) w)))

-- ---- a word

pub read_word : (w : List ℕ) → 0 < length w → number_below (2 ^ 32) w ≡ read_after 0 w
read_word w h = grind (arith, common_steps, nat_tests)
