-- What an answer says that lends a value.
use Rattle.std.specs.Prelude.{Ok, Err, Result}
use Rattle.std.specs.Borrow.{Bor}

-- What `r.copied()` answers: the value behind an `Ok`.
abbrev pub ok_copied : {X E : Type 0} → Result (Bor X) E → Result X E
ok_copied (Ok x) = Ok x.now
ok_copied (Err e) = Err e
