-- Reading a row by a combined list.
use Rattle.std.proofs.Common.{◌≡◌, ℕ, ◌+◌, List, [], ◌∷◌, Some, None, Ok, Option, refl, arith}
use Rattle.std.proofs.lemmas.List.{get_or-map}
use Rattle.std.proofs.lemmas.Grind.{common_steps}
use Rattle.common.specs.Firsts.{first_fault}
use Rattle.index_lists.specs.Combine.{combine, index_fault, read_by, read_by_any}

-- Where every index of the upper list lies within the lower one, its entries read what the lower list's row has there.
reads_all : {Cell : Type 0} (missing : Cell) (row : List Cell) (lower upper : List ℕ) (p : ℕ) → first_fault (index_fault lower) upper p ≡ None → read_by missing row (read_by 0 lower upper) ≡ read_by missing (read_by missing row lower) upper
reads_all missing row lower [] p e = refl
reads_all missing row lower (i ∷ upper) p e = grind (arith, common_steps, get_or-map, reads_all missing row lower upper (p + 1))

-- Reading by the combined list is reading by the lower list and then by the upper.
pub reads_alike : {Cell : Type 0} (missing : Cell) (row : List Cell) (indices upper : List ℕ) (lower : Option (List ℕ)) (room : ℕ)
    → combine (Some upper) lower room ≡ Ok (Some indices) → read_by missing row indices ≡ read_by missing (read_by_any missing row lower) upper
reads_alike missing row indices upper None room e = grind (arith, common_steps)
reads_alike missing row indices upper (Some lower) room e = grind (arith, common_steps, reads_all missing row lower upper 0)
