-- Index lists that stand on one another.
use Rattle.std.specs.Prelude.{◌≡◌, ℕ, List, ◌++◌, map, length, drop, Some, None, Ok, Err, Option, Result, nat_le, nat_lt, slice_index_or}
use Rattle.common.specs.declared.refusal.Fault.{Fault}
use Rattle.common.specs.declared.refusal.Refusal.TheVariants.{IndexPastList, ListTooShort}
use Rattle.std.specs.Option.{option_or}
use Rattle.common.specs.Firsts.{first_fault, or_fault, unless}

-- What a row gives by a list of indices: its cell at each index, and the missing cell where the row ends before it.
abbrev pub read_by : {Cell : Type 0} → Cell → List Cell → List ℕ → List Cell
read_by missing row indices = map (λ i. slice_index_or row i missing) indices

-- The same where the list may be absent: the row is then read as it stands.
abbrev pub read_by_any : {Cell : Type 0} → Cell → List Cell → Option (List ℕ) → List Cell
read_by_any missing row None = row
read_by_any missing row (Some indices) = read_by missing row indices

-- An index past the end of the list beneath is refused at its place.
abbrev pub index_fault : List ℕ → ℕ → ℕ → Option Fault
index_fault lower i p = unless (nat_lt i (length lower)) IndexPastList p

-- An output list that is shorter than the answer is refused.
abbrev pub room_fault : List ℕ → ℕ → Option Fault
room_fault indices room = unless (nat_le (length indices) room) ListTooShort 0

-- The first check that fails: an index past the end of the list beneath, then an output list with too little room.
abbrev pub combine_fault : List ℕ → Option (List ℕ) → ℕ → Option Fault
combine_fault upper None room = room_fault upper room
combine_fault upper (Some lower) room = option_or (first_fault (index_fault lower) upper 0) (room_fault upper room)

-- The indices of the upper list, looked up in the lower one; as they are where that is absent.
abbrev pub combined : List ℕ → Option (List ℕ) → List ℕ
combined upper None = upper
combined upper (Some lower) = read_by 0 lower upper

-- What combining answers, given the room of the output list: an absent upper list is absent, whatever is beneath it.
abbrev pub combine : Option (List ℕ) → Option (List ℕ) → ℕ → Result (Option (List ℕ)) Fault
combine None lower room = Ok None
combine (Some upper) lower room = or_fault (combine_fault upper lower room) (Some (combined upper lower))

-- An answer begins the output list, whose rest is as before; refused or absent, the whole of it is.
abbrev pub output_after : {X : Type 0} → Result (Option (List X)) Fault → List X → List X
output_after (Ok None) old = old
output_after (Ok (Some new)) old = new ++ drop (length new) old
output_after (Err f) old = old

-- How many cells of the output list the answer takes.
abbrev pub counted : {X : Type 0} → Result (Option (List X)) Fault → Result (Option ℕ) Fault
counted (Ok None) = Ok None
counted (Ok (Some new)) = Ok (Some (length new))
counted (Err f) = Err f

-- The law of combined lists: where the indices are what an upper list over a lower one was combined to, reading a row by
-- them is reading it by the lower list and then by the upper.
abbrev pub CombinedReads : {Cell : Type 0} → Cell → List Cell → List ℕ → Type 0
CombinedReads missing row indices =
    (upper : List ℕ) (lower : Option (List ℕ)) (room : ℕ) → combine (Some upper) lower room ≡ Ok (Some indices) → read_by missing row indices ≡ read_by missing (read_by_any missing row lower) upper
