-- The check leaves these open: what a search over a range finds is told by a lemma on ranges.
use Rattle.std.proofs.Common.{true, false, rules}
use Rattle.std.proofs.lemmas.Iterator.{first_from_Range}
use Rattle.script.specs.Names.{stands_in, tails}
use Rattle.script.proofs.Places.{At, first_law, place_is, stands_at}
use Rattle.script.proofs.names.find_in.Goals as goal

pub returns-clause-value : goal.returns-clause-value
returns-clause-value c =
    let text = c.args.text.now in
    let word = c.args.word.now in
    place_is text word c.find.result
    (first_from_Range _ _ _ c.find.result (At text word true) (At text word false) c.find.ensures.ran
    (λ x q k. search (rules, stands_at))
    (λ x q k. search (rules, stands_at)))

pub returns-clause-law : goal.returns-clause-law
returns-clause-law c = first_law (stands_in c.args.word.now) (tails c.args.text.now) c.find.result (returns-clause-value c)
