-- What a process promised, and what it tells of its promises and of the groups that it makes.
use Rattle.std.specs.Prelude.{ℕ, List, Option, None}
use Rattle.tw_types.specs.declared.message.Kept.{Kept}
use Rattle.tw_types.specs.declared.message.Decision.{Decision}
use Rattle.tw_types.specs.declared.message.Report.{Report}

-- The number of the group that a process promised last, 0 at first, and its reading when it last supported a decision, which
-- is when it last made one.
pub record Vote : Type 0 where
  pub promised : ℕ
  pub support : Option ℕ

-- nothing was promised and nothing supported
abbrev pub no_vote : Vote
no_vote = record { promised = 0; support = None }

-- A promise: the number of the group that may be made of it, what the process reports of itself, and the decision that an
-- informed one had then.
pub record Promise : Type 0 where
  pub number : ℕ
  pub report : Report
  pub decision : Option Decision

-- A decision that was made, the one that it stands on, the reports of the ballot that it was made of, and the updates that its maker
-- added to the list: a new group stands on the best one of the ballot and adds nothing, a next decision on the last one, with no reports.
pub record Making : Type 0 where
  pub decision : Decision
  pub before : Option Decision
  pub reports : List Report
  pub appended : List Kept
