-- The first fault of a list, and what it says of an item that it is the first to pass a test. Where one check follows another,
-- the fault is the first one found: `option_or`.
use Rattle.std.specs.Prelude.{if◌then◌else◌, ◌≡◌, ℕ, ◌+◌, ◌<◌, Bool, true, false, List, [], ◌∷◌, length, Some, None, Ok, Err, Option, Result, slice_index_or}
use Rattle.std.specs.Option.{option_or}
use Rattle.common.specs.declared.refusal.Fault.{Fault}
use Rattle.common.specs.declared.refusal.Refusal.{Refusal}

-- A refusal at a position.
abbrev pub fault : Refusal → ℕ → Fault
fault r p = record { refusal = r; position = p }

-- The fault where there is one, else the answer.
abbrev pub or_fault : {X : Type 0} → Option Fault → X → Result X Fault
or_fault None x = Ok x
or_fault (Some f) x = Err f

-- A refusal at a position unless a condition holds.
abbrev pub unless : Bool → Refusal → ℕ → Option Fault
unless b r p = if b then None else Some (fault r p)

-- The fault of the first item that has one, the items being counted from a place: an item's own, or else that of the rest.
abbrev pub first_fault : {X : Type 0} → (X → ℕ → Option Fault) → List X → ℕ → Option Fault
first_fault faults [] p = None
first_fault faults (x ∷ xs) p = option_or (faults x p) (first_fault faults xs (p + 1))

-- The law of the first fault: an item has it and none before that item has one; with no fault, no item has one.
abbrev pub Earliest : {X : Type 0} → (X → ℕ → Option Fault) → List X → Option Fault → Type 0
Earliest {X} faults xs None = (k : ℕ) (d : X) → k < length xs → faults (slice_index_or xs k d) k ≡ None
Earliest {X} faults xs (Some f) =
    (k : ℕ) × (k < length xs) × ((d : X) → faults (slice_index_or xs k d) k ≡ Some f) × ((j : ℕ) (d : X) → j < k → faults (slice_index_or xs j d) j ≡ None)

-- The law of a search: the item at the place passes and none before it does; with no place, no item passes.
abbrev pub First : {X : Type 0} → (X → Bool) → List X → Option ℕ → Type 0
First {X} test xs None = (k : ℕ) (d : X) → k < length xs → test (slice_index_or xs k d) ≡ false
First {X} test xs (Some i) = (i < length xs) × ((d : X) → test (slice_index_or xs i d) ≡ true) × ((k : ℕ) (d : X) → k < i → test (slice_index_or xs k d) ≡ false)
