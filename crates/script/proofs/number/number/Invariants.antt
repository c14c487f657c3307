use Rattle.std.proofs.Common.{◌≡◌, ◌^◌, ◌<◌, drop}
use Rattle.script.proofs.Decimals.{read_after}
use Rattle.script.proofs.number.number.Given as goal

-- What is left is read after the value so far.
abbrev pub invariant-loop-byte : goal.invariant-loop-byte
invariant-loop-byte l = (read_after 0 l.word ≡ read_after l.value (drop l.byte-index l.word)) × (l.value < 2 ^ 32)
