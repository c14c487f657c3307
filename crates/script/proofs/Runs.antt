-- A line begins with blanks, then a word, then what follows it.
use Rattle.std.proofs.Common.{◌≡◌, ℕ, suc, ◌+◌, ◌-◌, ◌<◌, Bool, true, false, cond, List, [], ◌∷◌, ◌++◌, length, take, drop, sym, refl, ap, ◌∙◌, subst, ⊎_elim, append_assoc, append-nil, one-add, arith}
use Rattle.std.proofs.lemmas.List.{nil_from_length, take_rest}
use Rattle.std.proofs.lemmas.Bool.{cases_Bool, not_from_true, not_from_false}
use Rattle.script.specs.Words.{blank, in_run, run_length, closed, words_after, words_of, from_word, first_word, after_word}

-- ---- the run that a line begins with

module _ (k : Bool) (b : ℕ) (bs : List ℕ) where
  run_more : in_run k b ≡ true → run_length k (b ∷ bs) ≡ suc (run_length k bs)
  run_more e = ap (λ t. cond t (1 + run_length k bs) 0) e ∙ one-add (run_length k bs)

  run_none : in_run k b ≡ false → run_length k (b ∷ bs) ≡ 0
  run_none e = ap (λ t. cond t (1 + run_length k bs) 0) e

-- ---- the blanks before a word

past_blank : (b : ℕ) (bs : List ℕ) → blank b ≡ true → from_word (b ∷ bs) ≡ from_word bs
past_blank b bs e = ap (λ n. drop n (b ∷ bs)) (run_more true b bs e)

at_word : (b : ℕ) (bs : List ℕ) → blank b ≡ false → from_word (b ∷ bs) ≡ b ∷ bs
at_word b bs e = ap (λ n. drop n (b ∷ bs)) (run_none true b bs e)

-- They belong to no word.
words_from : (line : List ℕ) → words_of line ≡ words_of (from_word line)
words_from [] = refl
words_from (b ∷ bs) =
    ⊎_elim
    (λ e. ap (λ t. cond t (words_of bs) (words_after (b ∷ []) bs)) e ∙ words_from bs ∙ ap words_of (sym (past_blank b bs e)))
    (λ e. ap words_of (sym (at_word b bs e)))
    (cases_Bool (blank b))

-- The line begins with a word, where it has a byte.
abbrev Starts : List ℕ → Type 0
Starts [] = Unit {0}
Starts (b ∷ bs) = blank b ≡ false

starts : (line : List ℕ) → Starts (from_word line)
starts [] = tt
starts (b ∷ bs) =
    ⊎_elim
    (λ e. subst Starts (sym (past_blank b bs e)) (starts bs))
    (λ e. subst Starts (sym (at_word b bs e)) e)
    (cases_Bool (blank b))

-- ---- the word

-- The word ends where its run does.
word_ends : (w line : List ℕ) → words_after w line ≡ closed (w ++ take (run_length false line) line) (words_of (drop (run_length false line) line))
word_ends w [] = ap (λ l. closed l []) (sym (append-nil w))
word_ends w (b ∷ bs) =
    let P : ℕ → List (List ℕ) = λ n. closed (w ++ take n (b ∷ bs)) (words_of (drop n (b ∷ bs))) in
    ⊎_elim
    (λ e.
    let here : P 0 ≡ closed w (words_of bs) = ap (λ l. closed l (words_of (b ∷ bs))) (append-nil w) ∙ ap (λ t. closed w (cond t (words_of bs) (words_after (b ∷ []) bs))) e in
    ap (λ t. cond t (closed w (words_of bs)) (words_after (w ++ b ∷ []) bs)) e ∙ sym (ap P (run_none false b bs (not_from_true (blank b) e)) ∙ here))
    (λ e.
    let m = run_length false bs in
    let join : closed ((w ++ b ∷ []) ++ take m bs) (words_of (drop m bs)) ≡ P (suc m) = ap (λ l. closed l (words_of (drop m bs))) (append_assoc w (b ∷ []) (take m bs)) in
    ap (λ t. cond t (closed w (words_of bs)) (words_after (w ++ b ∷ []) bs)) e ∙ word_ends (w ++ b ∷ []) bs ∙ join ∙ sym (ap P (run_more false b bs (not_from_false (blank b) e))))
    (cases_Bool (blank b))

first_word_lem : (line : List ℕ) → Starts line → 0 < length line → words_of line ≡ take (run_length false line) line ∷ words_of (drop (run_length false line) line)
first_word_lem [] s h = absurd (omega arith)
first_word_lem (b ∷ bs) s h =
    let P : ℕ → Type 0 = λ n. closed (take n (b ∷ bs)) (words_of (drop n (b ∷ bs))) ≡ take n (b ∷ bs) ∷ words_of (drop n (b ∷ bs)) in
    word_ends [] (b ∷ bs) ∙ subst P (sym (run_more false b bs (not_from_false (blank b) s))) refl

-- ---- a line that is cut after its first word

-- The part of a line after its blanks.
pub past_blanks : (line : List ℕ) (n : ℕ) → n ≡ run_length true line → take (length line - n) (drop n line) ≡ from_word line
past_blanks line n e = take_rest line n ∙ ap (λ k. drop k line) e

module _ (line part : List ℕ) (same : part ≡ from_word line) where
  pub no_word : length part ≡ 0 → words_of line ≡ []
  no_word h = words_from line ∙ ap words_of (sym same ∙ nil_from_length part h)

  pub has_word : (n : ℕ) (word rest : List ℕ) → 0 < length part → n ≡ run_length false part → word ≡ take n part → rest ≡ drop n part → (words_of line ≡ word ∷ words_of rest) × (word ≡ first_word line) × (rest ≡ after_word line)
  has_word n word rest h long front back =
      let s : Starts part = subst Starts (sym same) (starts line) in
      let w : word ≡ take (run_length false part) part = front ∙ ap (λ k. take k part) long in
      let r : rest ≡ drop (run_length false part) part = back ∙ ap (λ k. drop k part) long in (
        words_from line ∙ ap words_of (sym same) ∙ first_word_lem part s h ∙ sym (λ i. w i ∷ words_of (r i)),
        w ∙ ap (λ l. take (run_length false l) l) same,
        r ∙ ap (λ l. drop (run_length false l) l) same,
      )
