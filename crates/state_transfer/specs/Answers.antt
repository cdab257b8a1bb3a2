-- The answers of the code.
use Rattle.state_transfer.specs.declared.incoming.Take.{Take}
use Rattle.state_transfer.specs.declared.incoming.Take.TheVariants as takes
use Rattle.tw_types.specs.Collections.{Taken, Foreign, Part, Whole}

abbrev pub taken_as : Take → Taken
taken_as takes.Part = Part
taken_as (takes.Whole position) = Whole position
taken_as takes.Foreign = Foreign
