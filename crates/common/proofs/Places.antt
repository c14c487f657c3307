-- A search for the first item that passes a test, past an item that fails.
use Rattle.std.proofs.Common.{◌≡◌, ℕ, ◌+◌, ◌<◌, Bool, false, cond, List, length, get_or, drop, Some, ap, ◌∙◌, below_more}
use Rattle.std.specs.List.{position_from}
use Rattle.std.proofs.lemmas.List.{at_drop_more, get_or_default}

module _ {X : Type 0} (test : X → Bool) (xs : List X) (i : ℕ) (e : X) (h : i < length xs) (fails : test (get_or xs i e) ≡ false) where
  -- It goes on in the rest.
  pub place_next : position_from test i (drop i xs) ≡ position_from test (i + 1) (drop (i + 1) xs)
  place_next = at_drop_more (λ l. position_from test i l) xs i e h ∙ ap (λ b. cond b (Some i) (position_from test (i + 1) (drop (i + 1) xs))) fails

  -- Every item so far fails.
  pub passed_more : ((k : ℕ) (d : X) → k < i → test (get_or xs k d) ≡ false) → (k : ℕ) (d : X) → k < i + 1 → test (get_or xs k d) ≡ false
  passed_more before k d lt =
      below_more (λ j. (x : X) → test (get_or xs j x) ≡ false) i (λ j small x. before j x small) (λ x. ap test (get_or_default xs i x e h) ∙ fails) k lt d
