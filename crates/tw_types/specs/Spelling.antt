-- The one list of bytes that spells a datagram of version 1, field by field.
use Rattle.std.specs.Prelude.{ℕ, ◌+◌, ◌*◌, Bool, true, false, List, [], ◌∷◌, ◌++◌, Option}
use Rattle.std.specs.List.{flat_map}
use Rattle.std.specs.Int.{w8, w16}
use Rattle.tw_num.specs.declared.interval.Interval.{Interval}
use Rattle.tw_types.specs.declared.message.UpdateId.{UpdateId}
use Rattle.tw_types.specs.declared.message.Order.{Order}
use Rattle.tw_types.specs.declared.message.Order.TheVariants.{Unordered, Total, Timed}
use Rattle.tw_types.specs.declared.message.Atom.{Atom}
use Rattle.tw_types.specs.declared.message.Atom.TheVariants.{Weak, Strong, Strict}
use Rattle.tw_types.specs.declared.message.Entry.{Entry}
use Rattle.tw_types.specs.declared.message.Kept.{Kept}
use Rattle.tw_types.specs.declared.message.Support.{Support}
use Rattle.tw_types.specs.declared.message.Seat.{Seat}
use Rattle.tw_types.specs.declared.message.Decision.{Decision}
use Rattle.tw_types.specs.declared.message.Kind.{Kind}
use Rattle.tw_types.specs.declared.message.Kind.TheVariants.{Informed, Ready}
use Rattle.tw_types.specs.declared.message.Report.{Report}
use Rattle.tw_types.specs.declared.datagram.Echo.{Echo}
use Rattle.tw_types.specs.declared.datagram.Head.{Head}
use Rattle.tw_types.specs.declared.datagram.Why.{Why}
use Rattle.tw_types.specs.declared.datagram.Why.TheVariants.{Stuck, Join}
use Rattle.tw_types.specs.declared.datagram.Want.{Want}
use Rattle.tw_types.specs.declared.datagram.Want.TheVariants as wants
use Rattle.tw_types.specs.declared.datagram.Body.{Body}
use Rattle.tw_types.specs.declared.datagram.Body.TheVariants as bodies
use Rattle.tw_types.specs.declared.datagram.Datagram.{Datagram}
use Rattle.tw_types.specs.Bytes.{one, two, four, eight, fields, presence, guarded, counted}

-- ---- the head, 57 bytes

abbrev pub interval_bytes : Interval → List ℕ
interval_bytes i = fields (eight i.lo ∷ eight i.hi ∷ [])

abbrev pub echo_bytes : Echo → List ℕ
echo_bytes e = fields (eight e.a ∷ eight e.b ∷ [])

-- 1 for an interval, 2 for an echo, 3 for both
abbrev pub flags_of : Head → ℕ
flags_of h = presence h.interval + 2 * presence h.echo

-- the version is 1
abbrev pub head_bytes : ℕ → ℕ → Head → List ℕ
head_bytes line kind h = fields (
    one 1
    ∷ one kind
    ∷ four line
    ∷ one h.from
    ∷ one h.to
    ∷ eight h.incarnation
    ∷ eight h.sent
    ∷ one (flags_of h)
    ∷ guarded 2 interval_bytes h.interval
    ∷ guarded 2 echo_bytes h.echo
    ∷ [])

-- ---- parts of bodies

-- 13 bytes
abbrev pub id_bytes : UpdateId → List ℕ
id_bytes id = fields (one id.who ∷ eight id.incarnation ∷ four id.seq ∷ [])

abbrev pub order_number : Order → ℕ
order_number Unordered = 0
order_number Total = 1
order_number Timed = 2

abbrev pub atom_number : Atom → ℕ
atom_number Weak = 0
atom_number Strong = 1
atom_number Strict = 2

abbrev pub lateness : Bool → ℕ
lateness false = 0
lateness true = 16

-- order and atomicity in one number, and 16 more for a late entry
abbrev pub class_of : Entry → ℕ
class_of e = 3 * order_number e.order + atom_number e.atom + lateness e.late

-- 22 bytes
abbrev pub entry_bytes : Entry → List ℕ
entry_bytes e = fields (id_bytes e.id ∷ one (class_of e) ∷ eight e.stamp ∷ [])

abbrev pub support_bytes : Support → List ℕ
support_bytes s = fields (eight s.ack ∷ eight s.at ∷ [])

-- 30 bytes
abbrev pub seat_bytes : Seat → List ℕ
seat_bytes s = fields (
    one s.member.who
    ∷ eight s.member.incarnation
    ∷ four s.next
    ∷ one (presence s.support)
    ∷ guarded 2 support_bytes s.support
    ∷ [])

abbrev pub decision_bytes : Decision → List ℕ
decision_bytes d = fields (
    eight d.group
    ∷ eight d.turn
    ∷ eight d.made
    ∷ eight d.start
    ∷ eight d.low
    ∷ eight d.mark.stamp
    ∷ one d.mark.who
    ∷ four d.mark.seq
    ∷ counted w8 (flat_map seat_bytes) d.seats.items
    ∷ one d.maker
    ∷ counted w8 (flat_map entry_bytes) d.window.items
    ∷ [])

abbrev pub kind_number : Kind → ℕ
kind_number Informed = 0
kind_number Ready = 1

-- 51 bytes
abbrev pub report_bytes : Report → List ℕ
report_bytes r = fields (
    one r.member.who
    ∷ eight r.member.incarnation
    ∷ one (kind_number r.kind)
    ∷ eight r.group
    ∷ eight r.turn
    ∷ eight r.length
    ∷ one (presence r.support)
    ∷ guarded 1 eight r.support
    ∷ eight r.reading
    ∷ [])

abbrev pub why_number : Why → ℕ
why_number Stuck = 0
why_number (Join group) = 1

-- the group that is to be joined, or a zero in its place
abbrev pub why_group : Why → ℕ
why_group Stuck = 0
why_group (Join group) = group

-- 9 bytes
abbrev pub why_bytes : Why → List ℕ
why_bytes why = fields (one (why_number why) ∷ eight (why_group why) ∷ [])

abbrev pub want_number : Want → ℕ
want_number (wants.Update id) = 0
want_number (wants.Table group) = 1

abbrev pub wanted_bytes : Want → List ℕ
wanted_bytes (wants.Update id) = id_bytes id
wanted_bytes (wants.Table group) = eight group

abbrev pub want_bytes : Want → List ℕ
want_bytes want = fields (one (want_number want) ∷ wanted_bytes want ∷ [])

abbrev pub ready_bytes : ℕ × ℕ × ℕ → List ℕ
ready_bytes r = fields (eight r.0 ∷ eight r.1 ∷ eight r.2 ∷ [])

-- bytes that stand for themselves
abbrev pub verbatim : List ℕ → List ℕ
verbatim bytes = bytes

-- ---- the bodies

abbrev pub kind_of : Body → ℕ
kind_of (bodies.Update kept) = 1
kind_of (bodies.Decision d) = 2
kind_of (bodies.NoDecision number group turn skip reports best) = 3
kind_of (bodies.Election number why) = 4
kind_of (bodies.Promise number report d) = 5
kind_of (bodies.Ask want) = 6
kind_of (bodies.State group position total offset bytes) = 7
kind_of (bodies.Sync ready) = 8

abbrev pub update_bytes : Kept → List ℕ
update_bytes kept = fields (entry_bytes kept.entry ∷ counted w16 verbatim kept.payload.items ∷ [])

abbrev pub election_bytes : ℕ → Why → List ℕ
election_bytes number why = fields (eight number ∷ why_bytes why ∷ [])

abbrev pub state_bytes : ℕ → ℕ → ℕ → ℕ → List ℕ → List ℕ
state_bytes group position total offset bytes = fields (
    eight group
    ∷ eight position
    ∷ two total
    ∷ two offset
    ∷ counted w16 verbatim bytes
    ∷ [])

abbrev pub sync_bytes : Option (ℕ × ℕ × ℕ) → List ℕ
sync_bytes ready = fields (one (presence ready) ∷ guarded 3 ready_bytes ready ∷ [])

abbrev pub body_bytes : Body → List ℕ
body_bytes (bodies.Update kept) = update_bytes kept
body_bytes (bodies.Decision d) = decision_bytes d
body_bytes (bodies.NoDecision number group turn skip reports best) = fields (
    eight number
    ∷ eight group
    ∷ eight turn
    ∷ one skip
    ∷ counted w8 (flat_map report_bytes) reports.items
    ∷ decision_bytes best
    ∷ [])
body_bytes (bodies.Election number why) = election_bytes number why
body_bytes (bodies.Promise number report d) = fields (
    eight number
    ∷ report_bytes report
    ∷ one (presence d)
    ∷ guarded 0 decision_bytes d
    ∷ [])
body_bytes (bodies.Ask want) = want_bytes want
body_bytes (bodies.State group position total offset bytes) = state_bytes group position total offset bytes.items
body_bytes (bodies.Sync ready) = sync_bytes ready

-- the spelling of a datagram in the line of this number
abbrev pub spelling : ℕ → Datagram → List ℕ
spelling line d = head_bytes line (kind_of d.body) d.head ++ body_bytes d.body
