use Rattle.std.proofs.Common.{◌≡◌, vec_items}
use Rattle.script.specs.Lists.{numbers_of}
use Rattle.script.proofs.Gathers.{gathered}
use Rattle.script.proofs.lists.numbers.Given as goal

-- The words that were taken wrote the numbers so far.
abbrev pub invariant-loop-word : goal.invariant-loop-word
invariant-loop-word l = record {
  gives : numbers_of l.fn.list.left ≡ gathered (vec_items l.numbers) l.list.left;
  same : l.list.after ≡ l.fn.list.after;
}
