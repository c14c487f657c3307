-- What a pattern of bytes says of the word that it matched.
use Rattle.std.proofs.Common.{◌≡◌, ℕ, ◌+◌, ◌<◌, ◌≤◌, List, [], ◌∷◌, length, get_or, drop, ◌∙◌}
use Rattle.std.proofs.lemmas.List.{drop_all, drop_more}

-- From place i on the word has just these bytes.
abbrev pub Has : List ℕ → ℕ → List ℕ → Type 0
Has w i [] = length w ≤ i
Has w i (b ∷ bs) = (i < length w) × (get_or w i 0 ≡ b) × Has w (i + 1) bs

has : (w bs : List ℕ) (i : ℕ) → Has w i bs → drop i w ≡ bs
has w [] i h = drop_all i w h
has w (b ∷ bs) i h = let rest = has w bs (i + 1) h.2 in let here = h.1 in drop_more w i 0 h.0 ∙ cc

pub spells : (w bs : List ℕ) → Has w 0 bs → w ≡ bs
spells w bs h = has w bs 0 h
