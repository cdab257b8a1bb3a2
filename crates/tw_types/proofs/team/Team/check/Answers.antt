use Rattle.std.proofs.Common.{rules}
use Rattle.tw_types.proofs.team.Team.check.Goals as goal

pub returns-then-self-lt3-clause-first : goal.returns-then-self-lt3-clause-first
returns-then-self-lt3-clause-first c = search rules

pub returns-then-self-lt3-clause-sound : goal.returns-then-self-lt3-clause-sound
returns-then-self-lt3-clause-sound c = search rules

pub returns-then-lease-n-clause-first : goal.returns-then-lease-n-clause-first
returns-then-lease-n-clause-first c = search rules

pub returns-then-quarantine-ppm-clause-first : goal.returns-then-quarantine-ppm-clause-first
returns-then-quarantine-ppm-clause-first c = search rules

pub returns-then-quarantine-ppm-clause-sound : goal.returns-then-quarantine-ppm-clause-sound
returns-then-quarantine-ppm-clause-sound c = search rules

pub returns-then-is_out_of_range-clause-first : goal.returns-then-is_out_of_range-clause-first
returns-then-is_out_of_range-clause-first c = search rules

pub returns-clause-first : goal.returns-clause-first
returns-clause-first c = search rules

pub returns-clause-sound : goal.returns-clause-sound
returns-clause-sound c = search rules
