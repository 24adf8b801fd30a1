use Rattle.std.proofs.Common.{rules}
use Rattle.form.specs.Header.{count_check}
use Rattle.form.proofs.header.check_count.Goals as goal

pub returns : goal.returns
unfolding count_check
returns c = search rules
