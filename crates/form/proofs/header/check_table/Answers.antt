use Rattle.std.proofs.Common.{rules}
use Rattle.form.specs.Header.{table_check}
use Rattle.form.proofs.header.check_table.Goals as goal

pub returns : goal.returns
unfolding table_check
returns c = search rules
