use Rattle.app_table.proofs.Answered.{same_after, value_put, value_gone}
use Rattle.app_table.proofs.laws.answers_have_their_causes.Goals as goal

pub returns-clause-value : goal.returns-clause-value
returns-clause-value c entries payload other answer = value_put entries payload other answer

pub returns-clause-gone : goal.returns-clause-gone
returns-clause-gone c entries payload other answer = value_gone entries payload other answer

pub returns-clause-same : goal.returns-clause-same
returns-clause-same c entries payload is answer = same_after entries payload is answer
