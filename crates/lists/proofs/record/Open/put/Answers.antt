use Rattle.std.proofs.Common.{sym, refl, arith, length-set}
use Rattle.std.proofs.lemmas.List.{set_past, take-set}
use Rattle.std.proofs.lemmas.Bool.{lt-ltb, le-ltb}
use Rattle.lists.proofs.Writing.{put_more, put_over}
use Rattle.lists.proofs.record.Open.put.Goals as goal

pub returns-then-end-words : goal.returns-then-end-words
returns-then-end-words c =
    let o = c.args.self.now in
    let below = c.if-end-words.true in
    record {
      words = refl;
      end = rw (lt-ltb _ _ below) refl;
      full = rw (lt-ltb _ _ below) refl;
      wrote = record {
        progress = put_more o.full c.args.words.now o.mark.now.end c.args.word below;
        kept = take-set c.args.words.now o.mark.now.end c.args.word;
        grown = omega arith;
        inside = λ _. rw length-set (omega (arith, below));
        start = refl;
        count = refl;
        lent = refl;
      };
    }

pub returns-else-end-words : goal.returns-else-end-words
returns-else-end-words c =
    let o = c.args.self.now in
    let above = c.if-end-words.false in
    record {
      words = sym (set_past _ _ _ above);
      end = rw (le-ltb _ _ above) refl;
      full = rw (le-ltb _ _ above) refl;
      wrote = record {
        progress = put_over o.full c.args.words.now o.mark.now.end c.args.word above;
        kept = refl;
        grown = omega arith;
        inside = λ h. h;
        start = refl;
        count = refl;
        lent = refl;
      };
    }
