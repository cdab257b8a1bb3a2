-- The two laws.
use Rattle.std.proofs.Common.{arith}
use Rattle.tw_machine.proofs.LineLaws.{team_line_once, step_line_once}
use Rattle.tw_machine.proofs.laws.lines_spell_once.Goals as goal

pub returns-clause-team : goal.returns-clause-team
returns-clause-team c = team_line_once

pub returns-clause-step : goal.returns-clause-step
returns-clause-step c = λ n line a b small. step_line_once n line a b (omega arith)
