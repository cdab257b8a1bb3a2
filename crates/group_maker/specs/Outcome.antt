-- What comes of a ballot, as the code has it.
use Rattle.std.specs.Prelude.{Result, Ok, Err}
use Rattle.tw_types.specs.declared.message.Decision.{Decision}
use Rattle.tw_types.specs.Groups.{NoGroup}
use Rattle.group_maker.specs.declared.making.Made.{Made}
use Rattle.group_maker.specs.declared.making.Made.TheVariants as made

-- the first decision of the group that is made, or why none is
abbrev pub outcome : Made → Result Decision NoGroup
outcome (made.Group d) = Ok d
outcome made.TooFew = Err NoGroup.TooFew
outcome made.NotConsistent = Err NoGroup.NotConsistent
outcome made.Behind = Err NoGroup.Behind
outcome (made.Missing id) = Err (NoGroup.Missing id)
outcome made.Spent = Err NoGroup.Spent

-- a group that is made has this first decision
abbrev pub IfGroup : Made → (Decision → Type 0) → Type 0
IfGroup (made.Group d) P = P d
IfGroup made.TooFew P = Unit {0}
IfGroup made.NotConsistent P = Unit {0}
IfGroup made.Behind P = Unit {0}
IfGroup (made.Missing id) P = Unit {0}
IfGroup made.Spent P = Unit {0}
