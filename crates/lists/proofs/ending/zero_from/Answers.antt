use Rattle.lists.proofs.Zeros.{zeroed_part, zeroed_none}
use Rattle.lists.proofs.ending.zero_from.Goals as goal

pub returns-then-from-words : goal.returns-then-from-words
returns-then-from-words c =
    zeroed_part c.args.words.now c.fill.new.self c.args.from (c.fill.ensures.after (λ y e. e))

pub returns-else-from-words : goal.returns-else-from-words
returns-else-from-words c = zeroed_none c.args.words.now c.args.from c.if-from-words.false
