-- The checks of a sheet, read word by word and chain by chain, in their order.
use Rattle.std.specs.Prelude.{ℕ, List}
use Rattle.words.specs.Checks.{Check, ◌then◌}
use Rattle.form.specs.Header.{header_check, count_check, table_check, process_check}
use Rattle.form.specs.Fields.{record_check}
use Rattle.form.specs.Chains.{repeat_check, chain_check}

abbrev pub well_formed : List ℕ → ℕ → Check
well_formed ws room =
    header_check ws then count_check ws then table_check ws room then process_check ws then record_check ws
    then repeat_check ws then chain_check ws
