use Rattle.std.proofs.Common.{rules, refl}
use Rattle.std.proofs.lemmas.Iterator.{items_from_collect, YieldsList-from_map, YieldsList-from_slice}
use Rattle.input.proofs.Spelling.{word_of, words_in_fours}
use Rattle.input.proofs.decode.Goals as goal

pub returns : goal.returns
returns c =
    rw (← words_in_fours _ c.args.bytes.now refl) (
    items_from_collect _ c.collect.ensures.ran
    (YieldsList-from_map _ word_of (YieldsList-from_slice _ (cc)) c.map.ensures.closure (λ x r q k. search rules))
    )
