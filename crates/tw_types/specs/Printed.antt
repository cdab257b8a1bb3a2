-- What is printed of a decision, of an update, of a datagram, and of a step with its outputs.
use Rattle.std.specs.Prelude.{ℕ, suc, ◌+◌, false, List, [], ◌∷◌, map, length, None}
use Rattle.std.specs.Option.{option_map}
use Rattle.tw_types.specs.declared.message.Kept as code_kept
use Rattle.tw_types.specs.declared.message.Decision as code_decision
use Rattle.tw_types.specs.declared.datagram.Body.{Body}
use Rattle.tw_types.specs.declared.datagram.Body.TheVariants as bodies
use Rattle.tw_types.specs.declared.datagram.Datagram.{Datagram}
use Rattle.tw_types.specs.declared.outputs.Pass as code_pass
use Rattle.tw_types.specs.declared.outputs.Outputs as code_outputs
use Rattle.tw_types.specs.declared.row.RowLine.{RowLine}
use Rattle.tw_types.specs.declared.row.RowAnswer.{RowAnswer}
use Rattle.tw_types.specs.Outputs.{nothing}
use Rattle.tw_types.specs.Contents.{Contents}
use Rattle.tw_types.specs.Row.{Row, Made, Pass, Sending, Entry}
use Rattle.tw_types.specs.Row as row

abbrev pub update_printed : code_kept.Kept → row.Update
update_printed k = record { id = k.entry.id; order = k.entry.order; atom = k.entry.atom; stamp = k.entry.stamp; payload = k.payload.items }

abbrev pub made_printed : code_decision.Decision → Made
made_printed d = record {
  group = d.group;
  turn = d.turn;
  start = d.start;
  low = d.low;
  length = d.low + length d.window.items;
  members = map (λ s. s.member) d.seats.items;
}

abbrev pub pass_printed : code_pass.Pass → Pass
pass_printed p = record { position = p.position; update = update_printed p.kept; how = p.how }

abbrev pub contents_of : Body → Contents
contents_of (bodies.Update kept) = Contents.Update kept.entry.id
contents_of (bodies.Decision d) = Contents.Decision d.group d.turn
contents_of (bodies.NoDecision number group turn skip reports best) = Contents.NoDecision number
contents_of (bodies.Election number why) = Contents.Election number
contents_of (bodies.Promise number report d) = Contents.Promise number
contents_of (bodies.Ask want) = Contents.Ask
contents_of (bodies.State group position total offset bytes) = Contents.State position
contents_of (bodies.Sync ready) = Contents.Sync

-- datagrams, each with its receiver, numbered from the first one's number on
abbrev pub sends_printed : ℕ → List (ℕ × Datagram) → List Sending
sends_printed first [] = []
sends_printed first (s ∷ sends) = record { number = first; to = s.0; contents = contents_of s.1.body } ∷ sends_printed (suc first) sends

abbrev pub entry_printed : ℕ × ℕ → Entry
entry_printed e = record { key = e.0; value = e.1 }

-- a step's line, what the step gave, the number of the first datagram that it sent, and the table's entries
abbrev pub row_printed : RowLine → code_outputs.Outputs → ℕ → List (ℕ × ℕ) → Row
row_printed l out first entries = record {
  step = l.step;
  who = l.who;
  incarnation = l.incarnation;
  reading = l.reading;
  up = l.up;
  group = l.group;
  turn = l.turn;
  length = l.length;
  passed = l.passed;
  answer = l.answer;
  made = option_map made_printed out.made;
  passes = map pass_printed out.passes;
  earlies = map update_printed out.earlies;
  sends = sends_printed first out.sends;
  entries = map entry_printed entries;
}

-- a row of nothing
abbrev pub blank : Row
blank = row_printed (record { step = 0; who = 0; incarnation = 0; reading = None; up = false; group = 0; turn = 0; length = 0; passed = 0; answer = RowAnswer.Done }) nothing 1 []
