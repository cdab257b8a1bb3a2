-- The history is what the rows and the datagrams of a schedule show.
use Rattle.std.proofs.Common.{◌≡◌, ◌≢◌, refl, sym, ap, subst, ◌∙◌, inl, inr, ℕ, ◌<◌, Bool, true, false, List, [], ◌∷◌, ◌++◌, Option, Some, None, IfSome}
use Rattle.std.specs.List.{AllByRecursion}
use Rattle.std.specs.Option.{option_map}
use Rattle.tw_machine.specs.Types.{Decision, RowAnswer, Step, Team}
use Rattle.tw_types.specs.Beliefs.{Belief, Informed, Blank, last_of}
use Rattle.tw_types.specs.Decisions.{or_none}
use Rattle.tw_types.specs.Flag.{is_up}
use Rattle.tw_types.specs.Printed.{made_printed}
use Rattle.tw_types.specs.Process.{Process}
use Rattle.tw_types.specs.Row.{Row}
use Rattle.tw_types.specs.Team.{IsSound}
use Rattle.tw_types.specs.Votes.{Vote}
use Rattle.tw_machine.specs.Applied.{Meaning}
use Rattle.tw_machine.specs.Dispatches.{Dispatch}
use Rattle.tw_machine.specs.Event.{Event}
use Rattle.tw_machine.specs.History.{Promised, Make, SentUpdate, Up, life, make_item, makes_on, makes_by, send_item, sends_on, sends_by, up_at, up_on, up_by, history}
use Rattle.tw_machine.specs.Places.{Each, Exists}
use Rattle.tw_machine.specs.Rows.{row_by, row_of, rows_of}
use Rattle.tw_machine.specs.Standing.{member_of, last_decision}
use Rattle.tw_machine.specs.Step.{moment_of, step, view_of}
use Rattle.tw_machine.specs.World.{Deed, happen, deed_in, world, Admissible}
use Rattle.tw_machine.proofs.Steps.{viewed_after}
use Rattle.tw_types.specs.Items.{In}
use Rattle.safety_laws.specs.Mail.{TellsGiven}
use Rattle.safety_laws.specs.Seen.{IsMadeLineOf, IsSentLineOf, IsFlagOf, IsKeptPromise}
use Rattle.safety_laws.proofs.Induction.{earlier, Turn, turn, by_turn}
use Rattle.safety_laws.proofs.MadeTold.{AgreesOnMade, step_agrees}
use Rattle.safety_laws.proofs.Places.{each_pushed, exists_pushed, exists_last}
use Rattle.safety_laws.proofs.Promises.{promised_well}
use Rattle.safety_laws.proofs.SendsTold.{AgreesOnSent, step_agrees_on_sent}

-- ---- rows and the items that they show

-- What a row adds to a list of items: none where it speaks of none, or the one that it shows.
data Adds {I : Type 0} (Speaks : Row → Type 0) (Shows : Row → I → Type 0) (r : Row) (older newer : List I) : Type 0 where
  Nothing : (Speaks r → ⊥) → newer ≡ older → Adds Speaks Shows r older newer
  One : (k : I) → Shows r k → newer ≡ k ∷ older → Adds Speaks Shows r older newer

-- the item that a row shows
abbrev Shown : {I : Type 0} → (Row → I → Type 0) → List I → Row → Type 0
Shown {I} Shows items r = (k : I) × In k items × Shows r k

record AreSeen {I : Type 0} (Speaks : Row → Type 0) (Shows : Row → I → Type 0) (rows : List Row) (items : List I) : Type 0 where
  each_row : Each rows (λ i r. Speaks r → Shown Shows items r)
  each_item : (k : I) → In k items → Exists rows (λ i r. Shows r k)

seen_on : {I : Type 0} (Speaks : Row → Type 0) (Shows : Row → I → Type 0) (rows : List Row) (r : Row) (older newer : List I)
    → AreSeen Speaks Shows rows older → Adds Speaks Shows r older newer → AreSeen Speaks Shows (rows ++ r ∷ []) newer
seen_on {I} Speaks Shows rows r older newer before (Nothing silent e) = record {
  each_row = each_pushed (λ i q. Speaks q → Shown Shows newer q) rows r (λ i q at speaks. let s = before.each_row i q at speaks in (s.0, rw e (s.1), s.2)) (λ speaks. absurd (silent speaks));
  each_item = λ k i. exists_pushed (λ i q. Shows q k) rows r (before.each_item k (subst (In k) e i));
}
seen_on {I} Speaks Shows rows r older newer before (One k shows e) = record {
  each_row = each_pushed (λ i q. Speaks q → Shown Shows newer q) rows r
      (λ i q at speaks. let s = before.each_row i q at speaks in (s.0, subst (In s.0) (sym e) (inr s.1), s.2)) (λ speaks. (k, subst (In k) (sym e) (inl refl), shows));
  each_item = λ x i. by x (subst (In x) e i);
}
  where
    by : (x : I) → In x (k ∷ older) → Exists (rows ++ r ∷ []) (λ i q. Shows q x)
    by x (inl same) = exists_last (λ i q. Shows q x) rows r (subst (λ y. Shows r y) (sym same) shows)
    by x (inr i) = exists_pushed (λ i q. Shows q x) rows r (before.each_item x i)

-- ---- what was made

-- the row has a made line
abbrev HasLine : Row → Type 0
HasLine r = r.made ≢ None

-- the row after a deed, and the makes after it
abbrev AddsMake : {Content : Type 0} → Meaning Content → Team → ℕ → ℕ → ℕ → Step → Option Process → List Make → Deed → Type 0
AddsMake meaning team number already life s before older d = Adds HasLine IsMadeLineOf (row_by meaning team number already s before d) older (makes_by life s d.process d.makings older)

-- of an event
event_adds : {Content : Type 0} (meaning : Meaning Content) (team : Team) (number already life : ℕ) (s : Step) (before : Option Process) (older : List Make) (e : Event) (p : Process)
    → AgreesOnMade (moment_of team s.h e p).reading (step team s.h e p).out.made (step team s.h e p).makings → AddsMake meaning team number already life s before older (happen team s.h e p)
event_adds meaning team number already life s before older e p (AgreesOnMade.Nothing line told) =
    Nothing (λ speaks. speaks (ap (option_map made_printed) line)) (ap (λ ms. makes_on (member_of (step team s.h e p).process.identity) life s ms older) told)
event_adds meaning team number already life s before older e p (AgreesOnMade.One making line told reading) =
    One (make_item (member_of (step team s.h e p).process.identity) life s older making)
    (record { who = refl; incarnation = refl; reading = viewed_after team s.h e p ∙ reading; line = ap (option_map made_printed) line })
    (ap (λ ms. makes_on (member_of (step team s.h e p).process.identity) life s ms older) told)

deed_adds : {Content : Type 0} (meaning : Meaning Content) (team : Team) (past : List Step) (number already life : ℕ) (s : Step) (before : Option Process) (older : List Make) (d : Deed) → Turn team past s d
    → AddsMake meaning team number already life s before older d
deed_adds meaning team past number already life s before older d t = by_turn team past s (AddsMake meaning team number already life s before older) d t
    (λ answer mute. Nothing (λ speaks. speaks refl) refl) (λ p answer mute. Nothing (λ speaks. speaks refl) refl)
    (λ e p runs brings. event_adds meaning team number already life s before older e p (step_agrees team s.h e p))

makes_seen : {Content : Type 0} (meaning : Meaning Content) (team : Team) (past : List Step) → Admissible team past → AreSeen HasLine IsMadeLineOf (rows_of meaning team past) (history team past).makes
makes_seen meaning team [] ok = record { each_row = λ i r e. absurd (cc); each_item = λ k i. absurd i }
makes_seen meaning team (s ∷ past) ok =
    seen_on HasLine IsMadeLineOf (rows_of meaning team past) (row_of meaning team past s) (history team past).makes (history team (s ∷ past)).makes (makes_seen meaning team past (earlier team past s ok))
    (deed_adds meaning team past _ _ (life s.who (s ∷ past)) s ((world team past).process_of s.who) (history team past).makes (deed_in team (world team past) s) (turn team past s ok))

-- ---- what was sent

-- the row answers a send with a number
abbrev SaysSent : Row → Type 0
SaysSent r = (seq : ℕ) × (r.answer ≡ RowAnswer.Sent seq)

-- the row after a deed, and the sends after it
abbrev AddsSend : {Content : Type 0} → Meaning Content → Team → ℕ → ℕ → ℕ → Step → Option Process → List SentUpdate → Deed → Type 0
AddsSend meaning team number already life s before older d = Adds SaysSent IsSentLineOf (row_by meaning team number already s before d) older (sends_by life s d.process d.sendings older)

-- of an event
event_adds_send : {Content : Type 0} (meaning : Meaning Content) (team : Team) (number already life : ℕ) (s : Step) (before : Option Process) (older : List SentUpdate) (e : Event) (p : Process)
    → AgreesOnSent (moment_of team s.h e p).reading (step team s.h e p).answer (step team s.h e p).sendings → AddsSend meaning team number already life s before older (happen team s.h e p)
event_adds_send meaning team number already life s before older e p (AgreesOnSent.Nothing silent noted) =
    Nothing (λ speaks. silent speaks.0 speaks.1) (ap (λ ms. sends_on (member_of (step team s.h e p).process.identity) life s ms older) noted)
event_adds_send meaning team number already life s before older e p (AgreesOnSent.One sending answer noted stamped) =
    One (send_item (member_of (step team s.h e p).process.identity) life s sending)
    (record { who = refl; incarnation = refl; reading = viewed_after team s.h e p ∙ stamped; answer = answer })
    (ap (λ ms. sends_on (member_of (step team s.h e p).process.identity) life s ms older) noted)

deed_adds_send : {Content : Type 0} (meaning : Meaning Content) (team : Team) (past : List Step) (number already life : ℕ) (s : Step) (before : Option Process) (older : List SentUpdate) (d : Deed) → Turn team past s d
    → AddsSend meaning team number already life s before older d
deed_adds_send meaning team past number already life s before older d t = by_turn team past s (AddsSend meaning team number already life s before older) d t
    (λ answer mute. Nothing (λ speaks. mute.0 speaks.0 speaks.1) refl) (λ p answer mute. Nothing (λ speaks. mute.0 speaks.0 speaks.1) refl)
    (λ e p runs brings. event_adds_send meaning team number already life s before older e p (step_agrees_on_sent team s.h e p))

sends_seen : {Content : Type 0} (meaning : Meaning Content) (team : Team) (past : List Step) → Admissible team past → AreSeen SaysSent IsSentLineOf (rows_of meaning team past) (history team past).sends
sends_seen meaning team [] ok = record { each_row = λ i r e. absurd (cc); each_item = λ k i. absurd i }
sends_seen meaning team (s ∷ past) ok =
    seen_on SaysSent IsSentLineOf (rows_of meaning team past) (row_of meaning team past s) (history team past).sends (history team (s ∷ past)).sends (sends_seen meaning team past (earlier team past s ok))
    (deed_adds_send meaning team past _ _ (life s.who (s ∷ past)) s ((world team past).process_of s.who) (history team past).sends (deed_in team (world team past) s) (turn team past s ok))

-- ---- who was up

-- the row says up
abbrev SaysUp : Row → Type 0
SaysUp r = r.up ≡ true

-- who is up has a reading and a last decision
up_parts : (team : Team) (vote : Vote) (belief : Belief) (reading : Option ℕ) → is_up team vote belief reading ≡ true → (reading ≢ None) × (last_of belief ≢ None)
unfolding is_up
up_parts team vote (Informed (Some d)) (Some t) e = ((λ f. absurd (cc)), (λ f. absurd (cc)))
up_parts team vote (Informed (Some d)) None e = absurd (cc)
up_parts team vote (Informed None) reading e = absurd (cc)
up_parts team vote (Blank followed) reading e = absurd (cc)

abbrev AddsUp : {Content : Type 0} → Meaning Content → Team → ℕ → ℕ → ℕ → Step → Option Process → List Up → Deed → Type 0
AddsUp meaning team number already life s before older d = Adds SaysUp IsFlagOf (row_by meaning team number already s before d) older (up_by team life s d.process older)

process_adds : {Content : Type 0} (meaning : Meaning Content) (team : Team) (number already life : ℕ) (s : Step) (before : Option Process) (older : List Up) (d : Deed) (q : Process)
    → (up : Bool) (reading : Option ℕ) (last : Option Decision) → (view_of team s.h q).up ≡ up → (view_of team s.h q).reading ≡ reading → last_decision q ≡ last
    → Adds SaysUp IsFlagOf (row_by meaning team number already s before (record d { process = Some q })) older (up_on life s q up reading last older)
process_adds meaning team number already life s before older d q true (Some t) (Some last) up reading is =
    One (up_at life s q t last) (record {
      who = refl;
      incarnation = refl;
      group = ap (λ (o : Option Decision). (or_none o).group) (sym is);
      turn = ap (λ (o : Option Decision). (or_none o).turn) (sym is);
      reading = reading;
      flag = up;
    }) refl
process_adds meaning team number already life s before older d q true (Some t) None up reading is = absurd ((up_parts team q.vote q.belief (view_of team s.h q).reading up).1 is)
process_adds meaning team number already life s before older d q true None last up reading is = absurd ((up_parts team q.vote q.belief (view_of team s.h q).reading up).0 reading)
process_adds meaning team number already life s before older d q false reading last up at is = Nothing (λ says. absurd (let no : false ≡ true = sym up ∙ says in cc)) refl

flag_adds : {Content : Type 0} (meaning : Meaning Content) (team : Team) (number already life : ℕ) (s : Step) (before : Option Process) (older : List Up) (d : Deed) (o : Option Process) → d.process ≡ o
    → AddsUp meaning team number already life s before older (record d { process = o })
flag_adds meaning team number already life s before older d None is = Nothing (λ says. absurd (cc)) refl
flag_adds meaning team number already life s before older d (Some q) is =
    process_adds meaning team number already life s before older d q (view_of team s.h q).up (view_of team s.h q).reading (last_decision q) refl refl refl

ups_seen : {Content : Type 0} (meaning : Meaning Content) (team : Team) (past : List Step) → AreSeen SaysUp IsFlagOf (rows_of meaning team past) (history team past).ups
ups_seen meaning team [] = record { each_row = λ i r e. absurd (cc); each_item = λ k i. absurd i }
ups_seen meaning team (s ∷ past) =
    let d : Deed = deed_in team (world team past) s in
    seen_on SaysUp IsFlagOf (rows_of meaning team past) (row_of meaning team past s) (history team past).ups (history team (s ∷ past)).ups (ups_seen meaning team past)
    (flag_adds meaning team _ _ (life s.who (s ∷ past)) s ((world team past).process_of s.who) (history team past).ups d d.process refl)

-- ---- in every schedule

pub made_lines_seen : {Content : Type 0} (meaning : Meaning Content) (team : Team) (past : List Step) → Admissible team past
    → Each (rows_of meaning team past) (λ i r. r.made ≢ None → (k : Make) × In k (history team past).makes × IsMadeLineOf r k)
made_lines_seen meaning team past ok = (makes_seen meaning team past ok).each_row

pub makes_printed : {Content : Type 0} (meaning : Meaning Content) (team : Team) (past : List Step) → Admissible team past
    → (k : Make) → In k (history team past).makes → Exists (rows_of meaning team past) (λ i r. IsMadeLineOf r k)
makes_printed meaning team past ok = (makes_seen meaning team past ok).each_item

pub sent_lines_seen : {Content : Type 0} (meaning : Meaning Content) (team : Team) (past : List Step) → Admissible team past
    → Each (rows_of meaning team past) (λ i r. (seq : ℕ) → r.answer ≡ RowAnswer.Sent seq → (z : SentUpdate) × In z (history team past).sends × IsSentLineOf r z)
sent_lines_seen meaning team past ok = λ i r at seq e. (sends_seen meaning team past ok).each_row i r at (seq, e)

pub sends_answered : {Content : Type 0} (meaning : Meaning Content) (team : Team) (past : List Step) → Admissible team past
    → (z : SentUpdate) → In z (history team past).sends → Exists (rows_of meaning team past) (λ i r. IsSentLineOf r z)
sends_answered meaning team past ok = (sends_seen meaning team past ok).each_item

pub flags_seen : {Content : Type 0} (meaning : Meaning Content) (team : Team) (past : List Step) → Each (rows_of meaning team past) (λ i r. r.up ≡ true → (k : Up) × In k (history team past).ups × IsFlagOf r k)
flags_seen meaning team past = (ups_seen meaning team past).each_row

pub ups_printed : {Content : Type 0} (meaning : Meaning Content) (team : Team) (past : List Step) → (k : Up) → In k (history team past).ups → Exists (rows_of meaning team past) (λ i r. IsFlagOf r k)
ups_printed meaning team past = (ups_seen meaning team past).each_item

pub promise_kept : (team : Team) (past : List Step) (who : ℕ) → IsSound team → Admissible team past
    → IfSome ((world team past).process_of who) (λ (p : Process). 0 < p.vote.promised → (x : Promised) × In x (history team past).promises × IsKeptPromise past who p x)
promise_kept team past who sound ok = go ((world team past).process_of who) refl
  where
    go : (o : Option Process) → (world team past).process_of who ≡ o → IfSome o (λ (p : Process). 0 < p.vote.promised → (x : Promised) × In x (history team past).promises × IsKeptPromise past who p x)
    go None runs = tt
    go (Some p) runs = λ some.
        let x = ((promised_well team past sound ok).running who p runs).latest.promised some in
        (x.0, x.1, record { by = x.2; present = x.3; number = x.4 })

pub promises_told : (team : Team) (past : List Step) → IsSound team → Admissible team past → AllByRecursion (λ (k : Dispatch). TellsGiven (history team past).promises k.datagram.head.from k.datagram.body) (world team past).sent
promises_told team past sound ok = (promised_well team past sound ok).history.mail
