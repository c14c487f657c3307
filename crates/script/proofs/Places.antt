-- The first place of a text where the bytes of a word stand.
use Rattle.std.proofs.Common.{◌≡◌, ℕ, zero, suc, ◌-◌, ◌<◌, ◌≤◌, Bool, true, false, not, List, [], ◌∷◌, length, get_or, take, drop, Some, None, Option, nat_eq, sym, refl, ap, ◌∙◌, arith}
use Rattle.std.specs.List.{position, position_or_len, starts_with}
use Rattle.std.specs.Option.{MatchOption}
use Rattle.std.proofs.lemmas.List.{take_rest}
use Rattle.std.proofs.lemmas.List.Sums.{prefix_len_is, prefix_len_passes}
use Rattle.std.proofs.lemmas.List.Quantifiers.{position-Some}
use Rattle.std.proofs.lemmas.Grind.{common_steps}
use Rattle.common.specs.Firsts.{First}
use Rattle.script.specs.Names.{place_of, stands_in, tails}

length-tails : (text : List ℕ) → length (tails text) ≡ length text
length-tails [] = refl
length-tails (b ∷ bs) = ap suc (length-tails bs)

tail_at : (text : List ℕ) (i : ℕ) (d : List ℕ) → i < length text → get_or (tails text) i d ≡ drop i text
tail_at [] i d h = absurd (omega arith)
tail_at (b ∷ bs) zero d h = refl
tail_at (b ∷ bs) (suc i) d h = tail_at bs i d (omega arith)

-- ---- what a search says of the items

pub first_law : (test : List ℕ → Bool) (xs : List (List ℕ)) (r : Option ℕ) → r ≡ position test xs → First test xs r
first_law test xs None e = λ k d h. grind (arith, common_steps, prefix_len_passes (λ x. not (test x)) xs k d)
first_law test xs (Some i) e =
    let at = λ (d : List ℕ). position-Some test xs i d (sym e) in
    ((at []).0, λ d. (at d).1, λ k d h. (at d).2 k h)

-- ---- the places of a text

-- What `starts_with` answers of what is left from i on.
pub stands_at : (text word : List ℕ) (i : ℕ) (r : Bool) → r ≡ starts_with nat_eq (take (length text - i) (drop i text)) word → stands_in word (drop i text) ≡ r
stands_at text word i r m = sym (m ∙ ap (stands_in word) (take_rest text i))

module _ (text word : List ℕ) where
  -- Whether the word stands at a place.
  abbrev pub At : Bool → ℕ → Type 0
  At b i = stands_in word (drop i text) ≡ b

  first : (n : ℕ) → n ≤ length text → ((k : ℕ) → k < n → At false k) → (n < length text → At true n) → position_or_len (stands_in word) (tails text) ≡ n
  first n h before here =
      prefix_len_is (λ l. not (stands_in word l)) (tails text) n [] (omega (arith, length-tails text))
      (λ k lt. ap (λ l. not (stands_in word l)) (tail_at text k [] (omega arith)) ∙ ap not (before k lt))
      (λ lt. let small : n < length text = omega (arith, length-tails text) in ap (λ l. not (stands_in word l)) (tail_at text n [] small) ∙ ap not (here small))

  pub place_is : (r : Option ℕ) → MatchOption r ((k : ℕ) → 0 ≤ k → k < length text → At false k) (λ i. (0 ≤ i) × (i < length text) × At true i × ((k : ℕ) → 0 ≤ k → k < i → At false k)) → r ≡ place_of text word
  place_is None none =
      let n = first (length text) (omega arith) (λ k lt. none k (omega arith) lt) (λ lt. absurd (omega arith)) in
      grind (arith, common_steps, length-tails text)
  place_is (Some i) found =
      let n = first i (omega (arith, found.1)) (λ k lt. found.3 k (omega arith) lt) (λ lt. found.2) in
      grind (arith, common_steps, length-tails text)
