-- What a call answers that may run out of memory.
use Rattle.std.specs.Prelude.{◌≡◌, Ok, Err, Result, alloc_error}
use Rattle.std.specs.declared.alloc.AllocError.{AllocError}
use Rattle.common.specs.declared.trouble.Trouble.{Trouble}
use Rattle.common.specs.declared.trouble.Trouble.TheVariants.{Memory, Refused}

-- What was refused; where memory ran out, the library's word for that.
abbrev pub refused_of : {E : Type 0} → Trouble E → Result E AllocError
refused_of (Refused e) = Ok e
refused_of Memory = Err alloc_error

-- Its answer says what the rule gives, refusals included; where memory runs out, it says nothing.
abbrev pub Agrees : {X Y E : Type 0} → (X → Y) → Result Y E → Result X (Trouble E) → Type 0
Agrees says rule (Ok x) = rule ≡ Ok (says x)
Agrees says rule (Err (Refused e)) = rule ≡ Err e
Agrees says rule (Err Memory) = Unit {0}
