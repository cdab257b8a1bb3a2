-- Updates are sent, and entries appended, in groups that a majority of the team supports.
use Rattle.std.proofs.Common.{◌≡◌, ◌≢◌, refl, sym, ap, subst, ◌∙◌, inr, ℕ, ◌+◌, ◌≤◌, Bool, true, false, cond, ◌||◌, List, [], ◌∷◌, Some, is_some, count_by, arith}
use Rattle.std.specs.Prelude.{find}
use Rattle.std.specs.List.{list_any}
use Rattle.std.proofs.lemmas.Option.{same_Some}
use Rattle.std.proofs.lemmas.List.Sums.{sum_by-cons}
use Rattle.tw_machine.specs.Types.{Team, Seat, Decision, Step}
use Rattle.tw_types.specs.Appending.{appended_kept}
use Rattle.tw_types.specs.Beliefs.{last_of}
use Rattle.tw_types.specs.Decisions.{or_none, is_seat_of, has_seat}
use Rattle.tw_types.specs.Flag.{counts, is_up}
use Rattle.tw_types.specs.Process.{Process}
use Rattle.tw_types.specs.Sends.{Sending}
use Rattle.tw_types.specs.Votes.{Making}
use Rattle.tw_types.proofs.Up.{backing}
use Rattle.tw_machine.specs.Deciding.{kept_to_add, next_made}
use Rattle.tw_machine.specs.History.{Make, SentUpdate, make_item, send_item}
use Rattle.tw_machine.specs.Standing.{member_of, last_decision}
use Rattle.tw_machine.specs.World.{world}
use Rattle.safety_laws.specs.Effects.{Written, State, Here, Proposes, Numbers, SendsNone, SendsOne, MakeReason, Next, Group, Makes, Change}
use Rattle.safety_laws.specs.Groups.{HasMajority, of_groups}
use Rattle.tw_types.specs.Items.{In}
use Rattle.safety_laws.specs.Laws.{Holds}
use Rattle.safety_laws.specs.Made.{WasMade, KeepsMade}
use Rattle.safety_laws.specs.Supported.{IsSentInSupported, IsAppendedInSupported, OfSupported}
use Rattle.safety_laws.proofs.Leases.{counts_there}
use Rattle.safety_laws.proofs.Lists.{each_weaker}
use Rattle.safety_laws.proofs.MadeLists.{last_made}
use Rattle.safety_laws.proofs.Stack.{Stepping, RulesOver, OfHistory, history_rules}

-- ---- who is up has supports of a majority

-- a stronger test counts no more
pub count_weaker : {X : Type 0} (p q : X → Bool) (xs : List X) → ((x : X) → p x ≡ true → q x ≡ true) → count_by p xs ≤ count_by q xs
count_weaker p q [] f = omega arith
count_weaker p q (x ∷ xs) f = go (p x) (q x) refl refl (f x) (count_weaker p q xs f)
  where
    go : (a b : Bool) → p x ≡ a → q x ≡ b → (p x ≡ true → q x ≡ true) → count_by p xs ≤ count_by q xs → count_by p (x ∷ xs) ≤ count_by q (x ∷ xs)
    go a b e f g low =
        let left : count_by p (x ∷ xs) ≡ cond a 1 0 + count_by p xs = sum_by-cons (λ z. cond (p z) 1 0) x xs ∙ ap (λ c. cond c 1 0 + count_by p xs) e in
        let right : count_by q (x ∷ xs) ≡ cond b 1 0 + count_by q xs = sum_by-cons (λ z. cond (q z) 1 0) x xs ∙ ap (λ c. cond c 1 0 + count_by q xs) f in
        rw (left, right) (by a b (λ t. sym f ∙ g (e ∙ t)) low)
      where
        by : (a b : Bool) → (a ≡ true → b ≡ true) → count_by p xs ≤ count_by q xs → cond a 1 0 + count_by p xs ≤ cond b 1 0 + count_by q xs
        by true true g low = omega arith
        by true false g low = absurd (let no : false ≡ true = g refl in cc)
        by false true g low = omega arith
        by false false g low = omega arith

-- all that is used of the flag
pub up_majority : (team : Team) (p : Process) (t : ℕ) (last : Decision) → last_decision p ≡ Some last → is_up team p.vote p.belief (Some t) ≡ true → HasMajority team last
up_majority team p t last is up =
    let by = backing team p.vote p.belief (Some t) up in
    let same : by.last ≡ last = same_Some by.last last (sym (ap last_of by.is_last) ∙ is) in
    let low = count_weaker (λ (s : Seat). counts team by.now s.support) (λ (s : Seat). is_some s.support) by.last.seats.items (λ s. counts_there team by.now s.support) in
    let majority = by.majority in
    subst (HasMajority team) same (omega arith)

-- what is found is any
found_any : {X : Type 0} (test : X → Bool) (xs : List X) (x : X) → find test xs ≡ Some x → list_any test xs ≡ true
found_any test [] x e = absurd (cc)
found_any test (y ∷ xs) x e = go (test y) (found_any test xs x) e
  where
    go : (b : Bool) → (find test xs ≡ Some x → list_any test xs ≡ true) → cond b (Some y) (find test xs) ≡ Some x → (b || list_any test xs) ≡ true
    go true rest f = refl
    go false rest f = rest f

-- ---- they stay, whatever is made and sent later

sent_more : (team : Team) (makes makes' : List Make) (z : SentUpdate) → ((m : Make) → In m makes → In m makes') → IsSentInSupported team makes z → IsSentInSupported team makes' z
sent_more team makes makes' z more k = (k.0, more k.0 k.1, k.2)

appended_more : (team : Team) (makes makes' : List Make) (m : Make) → ((d : Make) → In d makes → In d makes') → IsAppendedInSupported team makes m → IsAppendedInSupported team makes' m
appended_more team makes makes' m more k some = let j = k some in (j.0, j.1, (j.2.0, more j.2.0 j.2.1, j.2.2), j.3)

-- ---- an effect

module _ (team : Team) (past : List Step) (s : Step) (here : Here) (x y : State) (at : Stepping team past s here) (before : Holds (of_groups team) (s ∷ past) (world team past) s.who x) (k : OfSupported team x.written) where
  keeps : KeepsMade x.written.makes x.process
  keeps = before.own.maker.keeps

  of_team : (t : ℕ) → is_up here.team x.process.vote x.process.belief (Some t) ≡ true → is_up team x.process.vote x.process.belief (Some t) ≡ true
  of_team t up = subst (λ (z : Team). is_up z x.process.vote x.process.belief (Some t) ≡ true) at.same_team up

  -- nothing was made or sent
  same : y.written.makes ≡ x.written.makes → y.written.sends ≡ x.written.sends → OfSupported team y.written
  same makes sends = record { sent = rw (makes, sends) k.sent; appended = rw makes k.appended }

  -- the sender's last decision is such a one
  new_sent : (sending : Sending) → Proposes here x sending → IsSentInSupported team x.written.makes (send_item (member_of x.process.identity) here.life here.step sending)
  new_sent sending may =
      let was = last_made x.written.makes x.process may.last keeps may.last_is in
      let is : was.0.making.decision ≡ may.last = was.2 in
      let seat : find (is_seat_of (member_of x.process.identity)) may.last.seats.items ≡ Some may.seat = ap (λ o. find (is_seat_of (member_of x.process.identity)) (or_none o).seats.items) (sym may.last_is) ∙ may.seat_is in (
        was.0,
        was.1,
        record {
          group_is = ap (λ (d : Decision). d.group) is ∙ sym may.group;
          seat = subst (λ (d : Decision). has_seat (member_of x.process.identity) d ≡ true) (sym is) (found_any (is_seat_of (member_of x.process.identity)) may.last.seats.items may.seat seat);
          majority = subst (HasMajority team) (sym is) (up_majority team x.process may.t may.last may.last_is (of_team may.t may.up));
        },
      )

  by_number : y.written.makes ≡ x.written.makes → Numbers here x y → OfSupported team y.written
  by_number makes (SendsNone next sends) = same makes sends
  by_number makes (SendsOne sending may next newest) = record { sent = rw (makes, newest) (new_sent sending may, k.sent); appended = rw makes k.appended }

  -- who adds to the list is up by its last decision
  adds : (c : Makes here x y) → (last : Decision) → last_decision x.process ≡ Some last → c.making ≡ next_made here.team c.t last x.process → c.making.appended ≢ [] → is_up here.team x.process.vote x.process.belief (Some c.t) ≡ true
  adds c last is made some = go (is_up here.team x.process.vote x.process.belief (Some c.t)) refl
    where
      added : c.making.appended ≡ kept_to_add here.team c.t last x.process
      added = ap (λ (m : Making). m.appended) made

      go : (up : Bool) → is_up here.team x.process.vote x.process.belief (Some c.t) ≡ up → up ≡ true
      go true e = refl
      go false e = absurd (some (added ∙ ap (λ b. cond b (appended_kept here.team c.t x.process.log.passed last x.process.waiting.pending) []) e))

  new_make : (c : Makes here x y) → IsAppendedInSupported team x.written.makes (make_item (member_of x.process.identity) here.life here.step x.written.makes c.making)
  new_make c some = go c.reason
    where
      go : MakeReason here c.making c.t x y → (last : Decision) × (c.making.before ≡ Some last) × WasMade x.written.makes last × HasMajority team last
      go (Next last is turn made ballot) = (last, ap (λ (m : Making). m.before) made, last_made x.written.makes x.process last keeps is, up_majority team x.process c.t last is (of_team c.t (adds c last is made some)))
      go (Group ballot is full e made none) = absurd (some (ap (λ (m : Making). m.appended) made))

  changed : Change here x y → OfSupported team y.written
  changed (Change.Keep c) = by_number c.makes c.numbers
  changed (Change.Give c) = same (ap (λ (w : Written). w.makes) c.written) (ap (λ (w : Written). w.sends) c.written)
  changed (Change.Hold c) = same (ap (λ (w : Written). w.makes) c.written) (ap (λ (w : Written). w.sends) c.written)
  changed (Change.Take c) = same (ap (λ (w : Written). w.makes) c.written) (ap (λ (w : Written). w.sends) c.written)
  changed (Change.Deliver c) = same (ap (λ (w : Written). w.makes) c.written) (ap (λ (w : Written). w.sends) c.written)
  changed (Change.Raise c) = same (ap (λ (w : Written). w.makes) c.written) (ap (λ (w : Written). w.sends) c.written)
  changed (Change.Make c) =
      let new = make_item (member_of x.process.identity) here.life here.step x.written.makes c.making in
      let makes : y.written.makes ≡ new ∷ x.written.makes = ap (λ (w : Written). w.makes) c.written in
      let sends : y.written.sends ≡ x.written.sends = ap (λ (w : Written). w.sends) c.written in
      record {
        sent = rw (makes, sends) (each_weaker (IsSentInSupported team x.written.makes) (IsSentInSupported team (new ∷ x.written.makes)) x.written.sends (λ z. sent_more team x.written.makes (new ∷ x.written.makes) z (λ m i. inr i)) k.sent);
        appended = rw makes (
          appended_more team x.written.makes (new ∷ x.written.makes) new (λ m i. inr i) (new_make c),
          each_weaker (IsAppendedInSupported team x.written.makes) (IsAppendedInSupported team (new ∷ x.written.makes)) x.written.makes (λ m. appended_more team x.written.makes (new ∷ x.written.makes) m (λ d i. inr i)) k.appended,
        );
      }

pub supported_rules : (team : Team) → RulesOver team (of_groups team) (OfHistory (OfSupported team))
supported_rules team = history_rules team (of_groups team) (OfSupported team) (record { sent = tt; appended = tt }) (λ past s here x y at change before after k. changed team past s here x y at before k change)
