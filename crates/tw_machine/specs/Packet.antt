-- Which packets a process takes.
use Rattle.std.specs.Prelude.{ℕ, nat_lt, ◌==◌, Bool, true, false, not, ◌||◌, if◌then◌else◌, Result, Ok, Err}
use Rattle.tw_machine.specs.Types.{Head, Body, Datagram, WireFault, Reason}
use Rattle.tw_types.specs.declared.datagram.Body.TheVariants as bodies
use Rattle.tw_types.specs.declared.datagram.WireFault.TheVariants.{Kind}
use Rattle.tw_types.specs.declared.answer.Reason.TheVariants.{Wire, Stranger}

-- the datagrams that a process takes today
abbrev pub is_taken : Body → Bool
is_taken (bodies.NoDecision number group turn skip reports best) = false
is_taken (bodies.State group position total offset bytes) = false
is_taken body = true

-- the sender is no other process of the n in the team, or the datagram isn't for this one
abbrev pub is_stranger : ℕ → ℕ → Head → Bool
is_stranger n me head = not (nat_lt head.from n) || (head.from == me) || not (head.to == me)

-- a datagram that a process takes, or why it doesn't
abbrev pub admitted : ℕ → ℕ → Result Datagram WireFault → Result Datagram Reason
admitted n me (Err fault) = Err (Wire fault)
admitted n me (Ok d) = if is_taken d.body then (if is_stranger n me d.head then Err Stranger else Ok d) else Err (Wire Kind)
