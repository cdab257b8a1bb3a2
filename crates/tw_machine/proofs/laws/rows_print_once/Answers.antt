-- A text is that of one row, or of one list of rows.
use Rattle.tw_machine.proofs.RowOnce.{row_once, rows_once}
use Rattle.tw_machine.proofs.laws.rows_print_once.Goals as goal

pub returns-clause-row : goal.returns-clause-row
returns-clause-row c = row_once

pub returns-clause-rows : goal.returns-clause-rows
returns-clause-rows c = rows_once
