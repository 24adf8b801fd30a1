use Rattle.model.proofs.Judging.{judged, judged_filled}
use Rattle.model.proofs.loader.judge.Goals as goal

pub returns : goal.returns
returns c =
    let same = c.new-reader.ensures.0 in
    let formed = c.in_ok-check_form.ensures in
    record {
      verdict = judged _ _ c.args.table.now _ same formed c.measure.ensures.verdict;
      filled = judged_filled _ _ c.args.table.now _ _ same formed c.measure.ensures.filled;
    }
