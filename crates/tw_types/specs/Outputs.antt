-- What an event gives.
use Rattle.std.specs.Prelude.{[], None}
use Rattle.tw_types.specs.declared.outputs.Outputs.{Outputs}

-- no decision, no datagram and no delivery
abbrev pub nothing : Outputs
nothing = record { made = None; sends = []; passes = []; earlies = [] }
