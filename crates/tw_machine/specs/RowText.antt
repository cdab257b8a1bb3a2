-- The text of rows: one line a step, and a line with a plus for each thing that happened in it.
use Rattle.std.specs.Prelude.{ℕ, Bool, true, false, List, [], ◌∷◌, ◌++◌, map, Option, Some, None, codes}
use Rattle.std.specs.List.{join_with_byte, flat_map}
use Rattle.std.specs.Fmt.{decimal}
use Rattle.tw_machine.specs.Grammar.{order_word, atom_word, hex_word}
use Rattle.tw_machine.specs.Types.{UpdateId, WireFault, ProposeFault, Reason, RowAnswer, Member, How}
use Rattle.tw_types.specs.Contents.{Contents, Update, Decision, NoDecision, Election, Promise, Ask, State, Sync}
use Rattle.tw_types.specs.declared.datagram.WireFault.TheVariants.{Short, Long, Version, Line, Kind, Field}
use Rattle.tw_types.specs.declared.answer.ProposeFault.TheVariants.{TooLong, NotUpToDate, Full, Spent}
use Rattle.tw_types.specs.declared.answer.Reason.TheVariants.{Wire, Stranger, Disjoint, Unrated, Unsynced, Old, NotMember, Promised, Quarantine, OutOfWindow, Unwilling, Gap, Behind, Missing, Foreign, NotHeld}
use Rattle.tw_types.specs.declared.row.RowAnswer.TheVariants.{Start, Crash, Look, Done, Sent, Refused, Dropped}
use Rattle.tw_types.specs.declared.outputs.How.TheVariants.{Now, Earlier}
use Rattle.tw_types.specs.Row.{Made, Pass, Sending, Entry, Row}
use Rattle.tw_types.specs.Row as row

-- a line of fields, parted by one space, with its line feed
abbrev pub line_of : List (List ℕ) → List ℕ
line_of fields = join_with_byte 32 fields ++ 10 ∷ []

-- two texts with a point between
abbrev pub dotted : List ℕ → List ℕ → List ℕ
dotted a b = a ++ 46 ∷ b

abbrev pub id_text : UpdateId → List ℕ
id_text id = dotted (decimal id.who) (dotted (decimal id.incarnation) (decimal id.seq))

abbrev pub member_text : Member → List ℕ
member_text m = dotted (decimal m.who) (decimal m.incarnation)

abbrev pub flag_text : Bool → List ℕ
flag_text true = codes "1"
flag_text false = codes "0"

abbrev pub reading_text : Option ℕ → List ℕ
reading_text None = codes "-"
reading_text (Some t) = decimal t

abbrev pub refusal_word : ProposeFault → List ℕ
refusal_word TooLong = codes "too_long"
refusal_word NotUpToDate = codes "not_up"
refusal_word Full = codes "full"
refusal_word Spent = codes "spent"

abbrev pub wire_words : WireFault → List (List ℕ)
wire_words Short = codes "short" ∷ []
wire_words Long = codes "long" ∷ []
wire_words Version = codes "version" ∷ []
wire_words Line = codes "line" ∷ []
wire_words Kind = codes "kind" ∷ []
wire_words (Field place) = codes "field" ∷ decimal place ∷ []

abbrev pub reason_words : Reason → List (List ℕ)
reason_words (Wire fault) = codes "wire" ∷ wire_words fault
reason_words Stranger = codes "stranger" ∷ []
reason_words Disjoint = codes "disjoint" ∷ []
reason_words Unrated = codes "unrated" ∷ []
reason_words (Reason.Late bound) = codes "late" ∷ decimal bound ∷ []
reason_words Unsynced = codes "unsynced" ∷ []
reason_words Old = codes "old" ∷ []
reason_words NotMember = codes "not_member" ∷ []
reason_words (Promised number) = codes "promised" ∷ decimal number ∷ []
reason_words Quarantine = codes "quarantine" ∷ []
reason_words OutOfWindow = codes "out_of_window" ∷ []
reason_words Unwilling = codes "unwilling" ∷ []
reason_words Gap = codes "gap" ∷ []
reason_words Behind = codes "behind" ∷ []
reason_words (Missing id) = codes "missing" ∷ id_text id ∷ []
reason_words Foreign = codes "foreign" ∷ []
reason_words NotHeld = codes "not_held" ∷ []

abbrev pub answer_words : RowAnswer → List (List ℕ)
answer_words Start = codes "start" ∷ []
answer_words Crash = codes "crash" ∷ []
answer_words Look = codes "look" ∷ []
answer_words Done = codes "done" ∷ []
answer_words (Sent seq) = codes "sent" ∷ decimal seq ∷ []
answer_words (Refused fault) = codes "refused" ∷ refusal_word fault ∷ []
answer_words (Dropped reason) = codes "dropped" ∷ reason_words reason

-- `STEP WHO INCARNATION READING FLAG GROUP.TURN LENGTH PASSED ANSWER`
abbrev pub row_line : Row → List ℕ
row_line r = line_of (decimal r.step ∷ decimal r.who ∷ decimal r.incarnation ∷ reading_text r.reading ∷ flag_text r.up
    ∷ dotted (decimal r.group) (decimal r.turn) ∷ decimal r.length ∷ decimal r.passed ∷ answer_words r.answer)

-- `+ made G.K start S low L len N members W.I W.I ..`
abbrev pub made_line : Option Made → List ℕ
made_line None = []
made_line (Some m) = line_of (codes "+" ∷ codes "made" ∷ dotted (decimal m.group) (decimal m.turn) ∷ codes "start" ∷ decimal m.start ∷ codes "low" ∷ decimal m.low
    ∷ codes "len" ∷ decimal m.length ∷ codes "members" ∷ map member_text m.members)

abbrev pub how_word : How → List ℕ
how_word Now = codes "now"
how_word Earlier = codes "earlier"
how_word How.Late = codes "late"

-- `ID ORDER ATOM STAMP`
abbrev pub update_words : row.Update → List (List ℕ)
update_words u = id_text u.id ∷ order_word u.order ∷ atom_word u.atom ∷ decimal u.stamp ∷ []

-- `+ pass I ID ORDER ATOM STAMP HOW HEX`
abbrev pub pass_line : Pass → List ℕ
pass_line p = line_of (codes "+" ∷ codes "pass" ∷ decimal p.position ∷ update_words p.update ++ how_word p.how ∷ hex_word p.update.payload ∷ [])

-- `+ early ID ORDER ATOM STAMP HEX`
abbrev pub early_line : row.Update → List ℕ
early_line u = line_of (codes "+" ∷ codes "early" ∷ update_words u ++ hex_word u.payload ∷ [])

abbrev pub contents_words : Contents → List (List ℕ)
contents_words (Update id) = codes "update" ∷ id_text id ∷ []
contents_words (Decision group turn) = codes "decision" ∷ dotted (decimal group) (decimal turn) ∷ []
contents_words (NoDecision number) = codes "nodecision" ∷ decimal number ∷ []
contents_words (Election number) = codes "election" ∷ decimal number ∷ []
contents_words (Promise number) = codes "promise" ∷ decimal number ∷ []
contents_words Ask = codes "ask" ∷ []
contents_words (State position) = codes "state" ∷ decimal position ∷ []
contents_words Sync = codes "sync" ∷ []

-- `+ send D to WHO WHAT`
abbrev pub send_line : Sending → List ℕ
send_line s = line_of (codes "+" ∷ codes "send" ∷ decimal s.number ∷ codes "to" ∷ decimal s.to ∷ contents_words s.contents)

-- `+ entry KEY VALUE`
abbrev pub entry_line : Entry → List ℕ
entry_line e = line_of (codes "+" ∷ codes "entry" ∷ decimal e.key ∷ decimal e.value ∷ [])

-- the lines of what was decided and delivered in the step, in this order
abbrev pub lines_before_sends : Row → List ℕ
lines_before_sends r = made_line r.made ++ (flat_map pass_line r.passes ++ flat_map early_line r.earlies)

-- the lines of what happened in the step, in this order, with these for its datagrams
abbrev pub lines_around : List ℕ → Row → List ℕ
lines_around sends r = lines_before_sends r ++ (sends ++ flat_map entry_line r.entries)

-- a row numbers its datagrams, and says what each is
abbrev pub lines_below : Row → List ℕ
lines_below r = lines_around (flat_map send_line r.sends) r

abbrev pub row_text : Row → List ℕ
row_text r = row_line r ++ lines_below r

-- the text of rows, one after the other
abbrev pub text_of : List Row → List ℕ
text_of rows = flat_map row_text rows
