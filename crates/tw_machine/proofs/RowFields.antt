-- The fields of each kind of a row's lines are words, and are read back as what they tell.
use Rattle.std.proofs.Common.{◌≡◌, ℕ, refl, ap, List, [], ◌∷◌, ◌++◌, get_or, drop, ◌≤◌, arith, Bool, true, false, ◌&&◌, ◌==◌, Option, Some, None}
use Rattle.std.specs.Prelude.{if◌then◌else◌, codes}
use Rattle.std.specs.Fmt.{decimal}
use Rattle.std.proofs.lemmas.Bool.Decides.{nat_tests}
use Rattle.tw_machine.specs.Types.{UpdateId, Order, Atom, How, WireFault, ProposeFault, Reason, RowAnswer}
use Rattle.tw_types.specs.declared.message.Order.TheVariants.{Unordered, Total, Timed}
use Rattle.tw_types.specs.declared.message.Atom.TheVariants.{Weak, Strong, Strict}
use Rattle.tw_types.specs.declared.outputs.How.TheVariants as hows
use Rattle.tw_types.specs.declared.datagram.WireFault.TheVariants as faults
use Rattle.tw_types.specs.declared.answer.ProposeFault.TheVariants as refusals
use Rattle.tw_types.specs.declared.answer.Reason.TheVariants as reasons
use Rattle.tw_types.specs.declared.row.RowAnswer.TheVariants as answers
use Rattle.tw_types.specs.Contents.{Contents}
use Rattle.tw_types.specs.Contents as contents
use Rattle.tw_types.specs.Row.{Made, Pass, Sending, Entry, Row}
use Rattle.tw_types.specs.Row as row
use Rattle.tw_machine.specs.Grammar.{order_word, atom_word, hex_word}
use Rattle.tw_machine.specs.RowText.{id_text, flag_text, reading_text, refusal_word, wire_words, reason_words, answer_words, how_word, update_words, contents_words}
use Rattle.tw_machine.specs.RowLimits.{WireFits, ReasonFits, AnswerFits, ReadingFits, UpdateFits, PassFits, ContentsFits, SendingFits, EntryFits}
use Rattle.tw_machine.proofs.RowWords.{is_word, number_of, number_back, first_digit, word_decimal, part_at, pair_first, pair_second, word_pair, id_of, id_back, word_id, bytes_of, bytes_back, word_hex}
use Rattle.tw_machine.proofs.RowLines.{AreWords}

abbrev pub word_at : ℕ → List (List ℕ) → List ℕ
word_at i fields = get_or fields i []

abbrev pub same_word : List ℕ → List ℕ → Bool
same_word [] [] = true
same_word [] (b ∷ bs) = false
same_word (c ∷ cs) [] = false
same_word (c ∷ cs) (b ∷ bs) = (c == b) && same_word cs bs

-- ---- words

abbrev pub order_of : List ℕ → Order
order_of w = if same_word w (codes "unordered") then Unordered else (if same_word w (codes "total") then Total else Timed)

pub order_back : (o : Order) → order_of (order_word o) ≡ o
order_back Unordered = refl
order_back Total = refl
order_back Timed = refl

pub word_order : (o : Order) → is_word (order_word o) ≡ true
word_order Unordered = refl
word_order Total = refl
word_order Timed = refl

abbrev pub atom_of : List ℕ → Atom
atom_of w = if same_word w (codes "weak") then Weak else (if same_word w (codes "strong") then Strong else Strict)

pub atom_back : (a : Atom) → atom_of (atom_word a) ≡ a
atom_back Weak = refl
atom_back Strong = refl
atom_back Strict = refl

pub word_atom : (a : Atom) → is_word (atom_word a) ≡ true
word_atom Weak = refl
word_atom Strong = refl
word_atom Strict = refl

abbrev pub how_of : List ℕ → How
how_of w = if same_word w (codes "now") then hows.Now else (if same_word w (codes "earlier") then hows.Earlier else hows.Late)

pub how_back : (h : How) → how_of (how_word h) ≡ h
how_back hows.Now = refl
how_back hows.Earlier = refl
how_back hows.Late = refl

pub word_how : (h : How) → is_word (how_word h) ≡ true
word_how hows.Now = refl
word_how hows.Earlier = refl
word_how hows.Late = refl

abbrev pub flag_of : List ℕ → Bool
flag_of w = same_word w (codes "1")

pub flag_back : (b : Bool) → flag_of (flag_text b) ≡ b
flag_back true = refl
flag_back false = refl

pub word_flag : (b : Bool) → is_word (flag_text b) ≡ true
word_flag true = refl
word_flag false = refl

abbrev refusal_of : List ℕ → ProposeFault
refusal_of w = if same_word w (codes "too_long") then refusals.TooLong else (if same_word w (codes "not_up") then refusals.NotUpToDate else (if same_word w (codes "full") then refusals.Full else refusals.Spent))

refusal_back : (f : ProposeFault) → refusal_of (refusal_word f) ≡ f
refusal_back refusals.TooLong = refl
refusal_back refusals.NotUpToDate = refl
refusal_back refusals.Full = refl
refusal_back refusals.Spent = refl

word_refusal : (f : ProposeFault) → is_word (refusal_word f) ≡ true
word_refusal refusals.TooLong = refl
word_refusal refusals.NotUpToDate = refl
word_refusal refusals.Full = refl
word_refusal refusals.Spent = refl

-- ---- why an event is dropped

abbrev wire_of : List (List ℕ) → WireFault
wire_of fields = if same_word (word_at 0 fields) (codes "short") then faults.Short
    else (if same_word (word_at 0 fields) (codes "long") then faults.Long
    else (if same_word (word_at 0 fields) (codes "version") then faults.Version
    else (if same_word (word_at 0 fields) (codes "line") then faults.Line
    else (if same_word (word_at 0 fields) (codes "kind") then faults.Kind else faults.Field (number_of (word_at 1 fields))))))

wire_back : (f : WireFault) → WireFits f → wire_of (wire_words f) ≡ f
wire_back faults.Short h = refl
wire_back faults.Long h = refl
wire_back faults.Version h = refl
wire_back faults.Line h = refl
wire_back faults.Kind h = refl
wire_back (faults.Field place) h = ap faults.Field (number_back place h)

words_wire : (f : WireFault) → WireFits f → AreWords (wire_words f)
words_wire faults.Short h = (refl, tt)
words_wire faults.Long h = (refl, tt)
words_wire faults.Version h = (refl, tt)
words_wire faults.Line h = (refl, tt)
words_wire faults.Kind h = (refl, tt)
words_wire (faults.Field place) h = (refl, (word_decimal place h, tt))

abbrev reason_by : List ℕ → List (List ℕ) → Reason
reason_by w more = if same_word w (codes "wire") then reasons.Wire (wire_of more)
    else (if same_word w (codes "stranger") then reasons.Stranger
    else (if same_word w (codes "disjoint") then reasons.Disjoint
    else (if same_word w (codes "unrated") then reasons.Unrated
    else (if same_word w (codes "late") then reasons.Late (number_of (word_at 0 more))
    else (if same_word w (codes "unsynced") then reasons.Unsynced
    else (if same_word w (codes "old") then reasons.Old
    else (if same_word w (codes "not_member") then reasons.NotMember
    else (if same_word w (codes "promised") then reasons.Promised (number_of (word_at 0 more))
    else (if same_word w (codes "quarantine") then reasons.Quarantine
    else (if same_word w (codes "out_of_window") then reasons.OutOfWindow
    else (if same_word w (codes "unwilling") then reasons.Unwilling
    else (if same_word w (codes "gap") then reasons.Gap
    else (if same_word w (codes "behind") then reasons.Behind
    else (if same_word w (codes "missing") then reasons.Missing (id_of (word_at 0 more))
    else (if same_word w (codes "foreign") then reasons.Foreign else reasons.NotHeld)))))))))))))))

abbrev reason_of : List (List ℕ) → Reason
reason_of fields = reason_by (word_at 0 fields) (drop 1 fields)

reason_back : (r : Reason) → ReasonFits r → reason_of (reason_words r) ≡ r
reason_back (reasons.Wire fault) h = ap reasons.Wire (wire_back fault h)
reason_back reasons.Stranger h = refl
reason_back reasons.Disjoint h = refl
reason_back reasons.Unrated h = refl
reason_back (reasons.Late bound) h = ap reasons.Late (number_back bound h)
reason_back reasons.Unsynced h = refl
reason_back reasons.Old h = refl
reason_back reasons.NotMember h = refl
reason_back (reasons.Promised number) h = ap reasons.Promised (number_back number h)
reason_back reasons.Quarantine h = refl
reason_back reasons.OutOfWindow h = refl
reason_back reasons.Unwilling h = refl
reason_back reasons.Gap h = refl
reason_back reasons.Behind h = refl
reason_back (reasons.Missing id) h = ap reasons.Missing (id_back id h)
reason_back reasons.Foreign h = refl
reason_back reasons.NotHeld h = refl

words_reason : (r : Reason) → ReasonFits r → AreWords (reason_words r)
words_reason (reasons.Wire fault) h = (refl, words_wire fault h)
words_reason reasons.Stranger h = (refl, tt)
words_reason reasons.Disjoint h = (refl, tt)
words_reason reasons.Unrated h = (refl, tt)
words_reason (reasons.Late bound) h = (refl, (word_decimal bound h, tt))
words_reason reasons.Unsynced h = (refl, tt)
words_reason reasons.Old h = (refl, tt)
words_reason reasons.NotMember h = (refl, tt)
words_reason (reasons.Promised number) h = (refl, (word_decimal number h, tt))
words_reason reasons.Quarantine h = (refl, tt)
words_reason reasons.OutOfWindow h = (refl, tt)
words_reason reasons.Unwilling h = (refl, tt)
words_reason reasons.Gap h = (refl, tt)
words_reason reasons.Behind h = (refl, tt)
words_reason (reasons.Missing id) h = (refl, (word_id id h, tt))
words_reason reasons.Foreign h = (refl, tt)
words_reason reasons.NotHeld h = (refl, tt)

-- ---- answers

abbrev answer_by : List ℕ → List (List ℕ) → RowAnswer
answer_by w more = if same_word w (codes "start") then answers.Start
    else (if same_word w (codes "crash") then answers.Crash
    else (if same_word w (codes "look") then answers.Look
    else (if same_word w (codes "done") then answers.Done
    else (if same_word w (codes "sent") then answers.Sent (number_of (word_at 0 more))
    else (if same_word w (codes "refused") then answers.Refused (refusal_of (word_at 0 more)) else answers.Dropped (reason_of more))))))

abbrev pub answer_of : List (List ℕ) → RowAnswer
answer_of fields = answer_by (word_at 0 fields) (drop 1 fields)

pub answer_back : (a : RowAnswer) → AnswerFits a → answer_of (answer_words a) ≡ a
answer_back answers.Start h = refl
answer_back answers.Crash h = refl
answer_back answers.Look h = refl
answer_back answers.Done h = refl
answer_back (answers.Sent seq) h = ap answers.Sent (number_back seq h)
answer_back (answers.Refused fault) h = ap answers.Refused (refusal_back fault)
answer_back (answers.Dropped reason) h = ap answers.Dropped (reason_back reason h)

pub words_answer : (a : RowAnswer) → AnswerFits a → AreWords (answer_words a)
words_answer answers.Start h = (refl, tt)
words_answer answers.Crash h = (refl, tt)
words_answer answers.Look h = (refl, tt)
words_answer answers.Done h = (refl, tt)
words_answer (answers.Sent seq) h = (refl, (word_decimal seq h, tt))
words_answer (answers.Refused fault) h = (refl, (word_refusal fault, tt))
words_answer (answers.Dropped reason) h = (refl, words_reason reason h)

-- ---- readings

abbrev pub reading_of : List ℕ → Option ℕ
reading_of w = if same_word w (codes "-") then None else Some (number_of w)

no_minus : (c : ℕ) → 48 ≤ c → (c == 45) ≡ false
no_minus c l = grind (arith, nat_tests)

not_none : (w : List ℕ) → 48 ≤ get_or w 0 0 → same_word w (codes "-") ≡ false
not_none [] l = absurd (omega arith)
not_none (c ∷ w) l = rw (no_minus c l) refl

no_plus : (c : ℕ) → 48 ≤ c → (c == 43) ≡ false
no_plus c l = grind (arith, nat_tests)

pub not_a_plus : (w : List ℕ) → 48 ≤ get_or w 0 0 → same_word w (codes "+") ≡ false
not_a_plus [] l = absurd (omega arith)
not_a_plus (c ∷ w) l = rw (no_plus c l) refl

pub reading_back : (r : Option ℕ) → ReadingFits r → reading_of (reading_text r) ≡ r
reading_back None h = refl
reading_back (Some t) h = rw (not_none (decimal t) (first_digit t h), number_back t h) refl

pub word_reading : (r : Option ℕ) → ReadingFits r → is_word (reading_text r) ≡ true
word_reading None h = refl
word_reading (Some t) h = word_decimal t h

-- ---- updates

same_update : (a b : UpdateId) (c d : Order) (e f : Atom) (g h : ℕ) (i j : List ℕ) → a ≡ b → c ≡ d → e ≡ f → g ≡ h → i ≡ j
    → let x : row.Update = record { id = a; order = c; atom = e; stamp = g; payload = i } in let y : row.Update = record { id = b; order = d; atom = f; stamp = h; payload = j } in x ≡ y
same_update a b c d e f g h i j p q r s t = cc

-- the update of which the four fields from the i-th on tell, and one more field its payload
abbrev pub update_of : List ℕ → List ℕ → List ℕ → List ℕ → List ℕ → row.Update
update_of id order atom stamp payload = record { id = id_of id; order = order_of order; atom = atom_of atom; stamp = number_of stamp; payload = bytes_of payload }

pub update_back : (u : row.Update) → UpdateFits u → update_of (id_text u.id) (order_word u.order) (atom_word u.atom) (decimal u.stamp) (hex_word u.payload) ≡ u
update_back u f = same_update _ u.id _ u.order _ u.atom _ u.stamp _ u.payload (id_back u.id f.0) (order_back u.order) (atom_back u.atom) (number_back u.stamp f.1) (bytes_back u.payload f.2)

-- ---- positions that are passed

abbrev pub pass_fields : Pass → List (List ℕ)
pass_fields p = codes "+" ∷ codes "pass" ∷ decimal p.position ∷ update_words p.update ++ how_word p.how ∷ hex_word p.update.payload ∷ []

abbrev pub pass_of : List (List ℕ) → Pass
pass_of f = record { position = number_of (word_at 2 f); update = update_of (word_at 3 f) (word_at 4 f) (word_at 5 f) (word_at 6 f) (word_at 8 f); how = how_of (word_at 7 f) }

same_pass : (a b : ℕ) (c d : row.Update) (e f : How) → a ≡ b → c ≡ d → e ≡ f
    → let x : Pass = record { position = a; update = c; how = e } in let y : Pass = record { position = b; update = d; how = f } in x ≡ y
same_pass a b c d e f p q r = cc

pub pass_back : (p : Pass) → PassFits p → pass_of (pass_fields p) ≡ p
pass_back p f = same_pass _ p.position _ p.update _ p.how (number_back p.position f.0) (update_back p.update f.1) (how_back p.how)

pub words_pass : (p : Pass) → PassFits p → AreWords (pass_fields p)
words_pass p f = (
  refl,
  (
    refl,
    (
      word_decimal p.position f.0,
      (
        word_id p.update.id f.1.0,
        (
          word_order p.update.order,
          (
            word_atom p.update.atom,
            (word_decimal p.update.stamp f.1.1, (word_how p.how, (word_hex p.update.payload, tt))),
          ),
        ),
      ),
    ),
  ),
)

-- ---- early deliveries

abbrev pub early_fields : row.Update → List (List ℕ)
early_fields u = codes "+" ∷ codes "early" ∷ update_words u ++ hex_word u.payload ∷ []

abbrev pub early_of : List (List ℕ) → row.Update
early_of f = update_of (word_at 2 f) (word_at 3 f) (word_at 4 f) (word_at 5 f) (word_at 6 f)

pub early_back : (u : row.Update) → UpdateFits u → early_of (early_fields u) ≡ u
early_back u f = update_back u f

pub words_early : (u : row.Update) → UpdateFits u → AreWords (early_fields u)
words_early u f = (refl, (refl, (word_id u.id f.0, (word_order u.order, (word_atom u.atom, (word_decimal u.stamp f.1, (word_hex u.payload, tt)))))))

-- ---- datagrams

abbrev contents_by : List ℕ → List ℕ → Contents
contents_by w arg = if same_word w (codes "update") then contents.Update (id_of arg)
    else (if same_word w (codes "decision") then contents.Decision (part_at 0 arg) (part_at 1 arg)
    else (if same_word w (codes "nodecision") then contents.NoDecision (number_of arg)
    else (if same_word w (codes "election") then contents.Election (number_of arg)
    else (if same_word w (codes "promise") then contents.Promise (number_of arg)
    else (if same_word w (codes "ask") then contents.Ask
    else (if same_word w (codes "state") then contents.State (number_of arg) else contents.Sync))))))

abbrev contents_in : List (List ℕ) → Contents
contents_in f = contents_by (word_at 0 f) (word_at 1 f)

same_decision : (a b c d : ℕ) → a ≡ c → b ≡ d → contents.Decision a b ≡ contents.Decision c d
same_decision a b c d p q = cc

contents_back : (c : Contents) → ContentsFits c → contents_in (contents_words c) ≡ c
contents_back (contents.Update id) h = ap contents.Update (id_back id h)
contents_back (contents.Decision group turn) h = same_decision _ _ group turn (pair_first group turn h.0 h.1) (pair_second group turn h.0 h.1)
contents_back (contents.NoDecision number) h = ap contents.NoDecision (number_back number h)
contents_back (contents.Election number) h = ap contents.Election (number_back number h)
contents_back (contents.Promise number) h = ap contents.Promise (number_back number h)
contents_back contents.Ask h = refl
contents_back (contents.State position) h = ap contents.State (number_back position h)
contents_back contents.Sync h = refl

words_contents : (c : Contents) → ContentsFits c → AreWords (contents_words c)
words_contents (contents.Update id) h = (refl, (word_id id h, tt))
words_contents (contents.Decision group turn) h = (refl, (word_pair group turn h.0 h.1, tt))
words_contents (contents.NoDecision number) h = (refl, (word_decimal number h, tt))
words_contents (contents.Election number) h = (refl, (word_decimal number h, tt))
words_contents (contents.Promise number) h = (refl, (word_decimal number h, tt))
words_contents contents.Ask h = (refl, tt)
words_contents (contents.State position) h = (refl, (word_decimal position h, tt))
words_contents contents.Sync h = (refl, tt)

abbrev pub send_fields : Sending → List (List ℕ)
send_fields s = codes "+" ∷ codes "send" ∷ decimal s.number ∷ codes "to" ∷ decimal s.to ∷ contents_words s.contents

abbrev pub send_of : List (List ℕ) → Sending
send_of f = record { number = number_of (word_at 2 f); to = number_of (word_at 4 f); contents = contents_in (drop 5 f) }

same_send : (a b c d : ℕ) (e f : Contents) → a ≡ b → c ≡ d → e ≡ f
    → let x : Sending = record { number = a; to = c; contents = e } in let y : Sending = record { number = b; to = d; contents = f } in x ≡ y
same_send a b c d e f p q r = cc

pub send_back : (s : Sending) → SendingFits s → send_of (send_fields s) ≡ s
send_back s f = same_send _ s.number _ s.to _ s.contents (number_back s.number f.0) (number_back s.to f.1) (contents_back s.contents f.2)

pub words_send : (s : Sending) → SendingFits s → AreWords (send_fields s)
words_send s f = (refl, (refl, (word_decimal s.number f.0, (refl, (word_decimal s.to f.1, words_contents s.contents f.2)))))

-- ---- the table

abbrev pub entry_fields : Entry → List (List ℕ)
entry_fields e = codes "+" ∷ codes "entry" ∷ decimal e.key ∷ decimal e.value ∷ []

abbrev pub entry_of : List (List ℕ) → Entry
entry_of f = record { key = number_of (word_at 2 f); value = number_of (word_at 3 f) }

same_entry : (a b c d : ℕ) → a ≡ b → c ≡ d → let x : Entry = record { key = a; value = c } in let y : Entry = record { key = b; value = d } in x ≡ y
same_entry a b c d p q = cc

pub entry_back : (e : Entry) → EntryFits e → entry_of (entry_fields e) ≡ e
entry_back e f = same_entry _ e.key _ e.value (number_back e.key f.0) (number_back e.value f.1)

pub words_entry : (e : Entry) → EntryFits e → AreWords (entry_fields e)
words_entry e f = (refl, (refl, (word_decimal e.key f.0, (word_decimal e.value f.1, tt))))
