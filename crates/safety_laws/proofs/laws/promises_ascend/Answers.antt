-- The law on promises.
use Rattle.safety_laws.proofs.Promises.{promised_well}
use Rattle.safety_laws.proofs.laws.promises_ascend.Goals as goal

pub returns-clause-ascend : goal.returns-clause-ascend
returns-clause-ascend c = λ team past sound ok. (promised_well team past sound ok).history.ascend

pub returns-clause-near : goal.returns-clause-near
returns-clause-near c = λ team past sound ok. (promised_well team past sound ok).history.near.promises

pub returns-clause-window : goal.returns-clause-window
returns-clause-window c = λ team past sound ok. (promised_well team past sound ok).history.windows

pub returns-clause-outlived : goal.returns-clause-outlived
returns-clause-outlived c = λ team past sound ok. (promised_well team past sound ok).history.outlived
