-- The numbers of a list are gathered one after the other.
use Rattle.std.proofs.Common.{◌≡◌, ℕ, Bool, false, List, [], ◌∷◌, ◌++◌, Ok, Result, refl, ap, arith}
use Rattle.std.proofs.lemmas.Grind.{common_steps}
use Rattle.script.specs.declared.line.Malformed.{Malformed}
use Rattle.script.specs.Lists.{after_list, list_words, numbers_of}
use Rattle.script.specs.Words.{and_then}

-- The numbers so far, and those of the words that are left.
abbrev pub gathered : List ℕ → List (List ℕ) → Result (List ℕ) Malformed
gathered ns ws = and_then (numbers_of ws) (λ ms. Ok (ns ++ ms))

-- A list that does not end at the word `into` has all the words of its line.
pub list_to_end : (ws : List (List ℕ)) → list_words false ws ≡ ws
list_to_end [] = refl
list_to_end (w ∷ ws) = ap (λ l. w ∷ l) (list_to_end ws)

pub none_after : (ws : List (List ℕ)) → after_list false ws ≡ []
none_after [] = refl
none_after (w ∷ ws) = none_after ws

-- What follows a list with no word is all there is.
pub all_after : (into : Bool) (ws : List (List ℕ)) → list_words into ws ≡ [] → ws ≡ after_list into ws
all_after into [] e = refl
all_after into (w ∷ ws) e = grind (arith, common_steps)
