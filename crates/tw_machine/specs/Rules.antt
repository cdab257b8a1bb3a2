-- What a packet that was heard makes of a process, kind by kind.
use Rattle.std.specs.Prelude.{Option, Some, None, Result, Ok, Err}
use Rattle.tw_num.specs.declared.moment.Moment.{Moment}
use Rattle.tw_machine.specs.Types.{Team, Head, Body, Datagram, Reason}
use Rattle.tw_types.specs.declared.datagram.Body.TheVariants as bodies
use Rattle.tw_machine.specs.Run.{Run, Ruled, done, dropped}
use Rattle.tw_machine.specs.Control.{if_timely}
use Rattle.tw_machine.specs.Taking.{take_decision}
use Rattle.tw_machine.specs.Electing.{answer_election}
use Rattle.tw_machine.specs.Grouping.{take_promise}
use Rattle.tw_machine.specs.Updating.{take_update, answer_ask}

-- The rule of each kind. A sign of life does nothing, and a kind that isn't taken has no rule yet.
unfoldable pub kind_rule : Team → Moment → Head → Body → Run → Ruled
kind_rule team now head (bodies.Update kept) r = take_update now kept r
kind_rule team now head (bodies.Decision d) r = if_timely team now head (λ t. take_decision now d) r
kind_rule team now head (bodies.NoDecision number group turn skip reports best) r = done r
kind_rule team now head (bodies.Election number why) r = if_timely team now head (answer_election team now head.from number why) r
kind_rule team now head (bodies.Promise number report d) r = if_timely team now head (λ t. take_promise (record { number = number; report = report; decision = d })) r
kind_rule team now head (bodies.Ask want) r = answer_ask now head.from want r
kind_rule team now head (bodies.State group position total offset bytes) r = done r
kind_rule team now head (bodies.Sync ready) r = done r

-- the rule of an event: that of its packet's kind, where there is a packet that wasn't dropped before
abbrev pub rule : Team → Moment → Result (Option Datagram) Reason → Run → Ruled
rule team now (Err reason) r = dropped reason r
rule team now (Ok None) r = done r
rule team now (Ok (Some d)) r = kind_rule team now d.head d.body r
