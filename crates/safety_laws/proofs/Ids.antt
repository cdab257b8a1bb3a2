-- Each id keeps what its send gave: whatever a process keeps, tells or makes is of updates that were sent.
use Rattle.std.proofs.Common.{◌≡◌, sym, ap, subst, ◌∙◌, ℕ, List, ◌∷◌, ◌++◌, map, Option, Some}
use Rattle.std.specs.List.{AllByRecursion}
use Rattle.tw_machine.specs.Types.{Team, Ballot, Body, Datagram, Kept, Decision, Step}
use Rattle.tw_types.specs.declared.datagram.Body.TheVariants as bodies
use Rattle.tw_types.specs.Beliefs.{log_length}
use Rattle.tw_types.specs.Decisions.{or_none}
use Rattle.tw_types.specs.Groups.{first_decision}
use Rattle.tw_types.specs.Process.{Process}
use Rattle.tw_types.specs.Sends.{as_sent}
use Rattle.tw_types.specs.Turns.{next_decision}
use Rattle.tw_types.specs.Votes.{Making}
use Rattle.tw_types.specs.Waiting.{held_payloads, payloads_of}
use Rattle.tw_types.proofs.Lists.{all_parted, all_joined}
use Rattle.tw_machine.specs.Deciding.{entries_to_add, kept_to_add, supporting}
use Rattle.tw_machine.specs.Dispatches.{Dispatch, sent_at}
use Rattle.tw_machine.specs.History.{SentUpdate, list_of}
use Rattle.tw_machine.specs.Standing.{member_of, last_decision}
use Rattle.tw_machine.specs.World.{world}
use Rattle.tw_machine.proofs.Tables.{all_mapped}
use Rattle.safety_laws.specs.Beginnings.{unmarked}
use Rattle.safety_laws.specs.Effects.{Written, State, Here, WasSent, Origin, ByMail, ByItself, TellsUpdate, Again, First, Says, IsToldBy, Waits, Stays, Puts, Fills, Goes, ForTaking, ForGroup, Numbers, SendsNone, SendsOne, MakeReason, Next, Group, Makes, Change}
use Rattle.safety_laws.specs.Groups.{of_groups}
use Rattle.safety_laws.specs.Ids.{IsOfSend, EntryIsOfSend, MakeKeeps, ProcessKeeps, BodyKeeps, ids}
use Rattle.safety_laws.specs.Laws.{Holds, Both}
use Rattle.safety_laws.specs.Made.{WasMadeIfAny, best_of, made}
use Rattle.safety_laws.specs.Promises.{of_promises}
use Rattle.safety_laws.specs.Sends.{IsOfSender, AllSentOnce, sends}
use Rattle.safety_laws.proofs.Added.{entries_kept, kept_come}
use Rattle.safety_laws.proofs.Delivers.{log_delivers, payloads_deliver}
use Rattle.safety_laws.proofs.IdLists.{make_more, process_more, body_more, entered_keeps, list_keeps, window_keeps, any_window_keeps, cut_keeps, added_keep, entries_keep}
use Rattle.safety_laws.proofs.Lists.{of_each, each_weaker}
use Rattle.safety_laws.proofs.Made.{source_made}
use Rattle.safety_laws.proofs.MadeLists.{More, more_same, more_by, last_made}
use Rattle.safety_laws.proofs.Marked.{each_alike}
use Rattle.safety_laws.proofs.Stack.{Stepping, IsMailed, RulesOver, IsPartOf, part_holds, first_of}
use Rattle.safety_laws.proofs.FirstDecisions.{group_is_first}
use Rattle.safety_laws.proofs.WaitingItems.{all_put, all_filled, all_released, all_held}

-- of what was sent an update is, as it was sent, one that was sent
sent_is : (steps : List Step) (sent : List SentUpdate) (k : Kept) → AllByRecursion (IsOfSender steps) sent → WasSent sent k → IsOfSend sent k
sent_is steps sent k all w = (w.0, w.1, sym (of_each (IsOfSender steps) sent w.0 all w.1).fresh ∙ ap as_sent w.2)

-- the laws that a taken decision's making rests on are among those on groups
promises_part : (team : Team) → IsPartOf (of_promises team) (of_groups team)
promises_part team = record { history = λ steps w k. k.promises; running = λ steps w who p k. k.promiser }

made_part : (team : Team) → IsPartOf (made team) (of_groups team)
made_part team = record { history = λ steps w k. k.makes; running = λ steps w who p k. k.maker }

module _ (team : Team) (past : List Step) (s : Step) (here : Here) (x y : State) (at : Stepping team past s here) (mailed : IsMailed here x.written) (change : Change here x y)
    (before : Holds (Both (of_groups team) sends) (s ∷ past) (world team past) s.who x)
    (after : Holds (Both (of_groups team) sends) (s ∷ past) (world team past) s.who y) (k : Holds ids (s ∷ past) (world team past) s.who x) where
  -- of what was sent no id is there twice, and nothing was late or delivered early
  once : AllSentOnce x.written.sends
  once = before.history.1.0

  sender : AllByRecursion (IsOfSender (s ∷ past)) x.written.sends
  sender = before.history.1.1

  -- ---- what waits

  -- an update that comes, or that the process sends, was sent
  origin_keeps : (u : Kept) → Origin here x u → IsOfSend x.written.sends u
  origin_keeps u (ByItself was) = sent_is (s ∷ past) x.written.sends u sender was
  origin_keeps u (ByMail head is) =
      let got = mailed (record { head = head; body = bodies.Update u }) is in
      sent_is (s ∷ past) x.written.sends u sender
      (subst (λ (d : Datagram). BodyKeeps x.written.sends d.body) got.2 (of_each (λ (d : Dispatch). BodyKeeps x.written.sends d.datagram.body) x.written.sent got.0 k.history.told got.1))

  -- what waits after an effect is of updates that were sent
  waiting_keeps : Waits here x y → AllByRecursion (IsOfSend x.written.sends) (payloads_of y.process.waiting)
  waiting_keeps (Stays is hold) = rw is k.own.waiting
  waiting_keeps (Puts u origin put is hold) = rw is (all_put (IsOfSend x.written.sends) u x.process.waiting (origin_keeps u origin) k.own.waiting)
  waiting_keeps (Fills u origin put is hold) = rw is (all_filled (IsOfSend x.written.sends) u x.process.waiting (origin_keeps u origin) k.own.waiting)
  waiting_keeps (Goes is hold) = rw is (all_released (IsOfSend x.written.sends) x.process.waiting k.own.waiting)
  waiting_keeps (ForTaking d source from is hold) = rw is (all_held (IsOfSend x.written.sends) d (log_length x.process.log) source x.process.waiting k.own.waiting)
  waiting_keeps (ForGroup ballot best source there told number is hold) = rw is (all_held (IsOfSend x.written.sends) best (log_length x.process.log) source x.process.waiting k.own.waiting)

  -- ---- what is told

  -- and so is what is told
  told_keeps : ProcessKeeps y.written.sends y.process → (body : Body) → Says here y body → BodyKeeps y.written.sends body
  told_keeps own (bodies.Update u) says = go says
    where
      go : TellsUpdate y.process y.written.sends u → WasSent y.written.sends u
      go (Again had there is) =
          subst (WasSent y.written.sends) (sym is) (of_each (IsOfSend y.written.sends) (y.process.log.entries ++ payloads_of y.process.waiting) had
          (all_joined (IsOfSend y.written.sends) y.process.log.entries (payloads_of y.process.waiting) own.list own.waiting) there)
      go (First was) = was
  told_keeps own (bodies.Promise number report decision) says = tt
  told_keeps own (bodies.Decision d) says = tt
  told_keeps own (bodies.NoDecision number group turn skip reports best) says = tt
  told_keeps own (bodies.Election number why) says = tt
  told_keeps own (bodies.Ask want) says = tt
  told_keeps own (bodies.State group position total offset bytes) says = tt
  told_keeps own (bodies.Sync ready) says = tt

  -- ---- what is made

  -- what a make has to keep beside the list that it goes on
  record NewKeeps (making : Making) : Type 0 where
    appended : AllByRecursion (IsOfSend x.written.sends) making.appended
    window : AllByRecursion (EntryIsOfSend x.written.sends) making.decision.window.items

  -- the updates that a next decision adds are pending ones
  next_keeps : (t : ℕ) (last : Decision) → AllByRecursion (IsOfSend x.written.sends) (kept_to_add here.team t last x.process)
  next_keeps t last = added_keep x.written.sends x.process.waiting.pending (kept_to_add here.team t last x.process)
      (all_parted (IsOfSend x.written.sends) x.process.waiting.pending (held_payloads x.process.waiting.held) k.own.waiting).0 (kept_come here.team t last x.process)

  -- its window goes on that of the last one
  next_window : (t : ℕ) (last : Decision) → last_decision x.process ≡ Some last
      → AllByRecursion (EntryIsOfSend x.written.sends) (next_decision (entries_to_add here.team t last x.process) last t x.process.identity.who).window.items
  next_window t last is = cut_keeps x.written.sends _ (last.window.items ++ entries_to_add here.team t last x.process)
      (all_joined (EntryIsOfSend x.written.sends) last.window.items (entries_to_add here.team t last x.process)
      (window_keeps x.written.sends x.written.makes last k.history.makes (last_made x.written.makes x.process last before.own.0.maker.keeps is))
      (subst (AllByRecursion (EntryIsOfSend x.written.sends)) (entries_kept here.team t last x.process) (entries_keep x.written.sends (kept_to_add here.team t last x.process) (next_keeps t last))))

  -- a group's window is the end of that of the ballot's best decision
  first_window : (ballot : Ballot) (t : ℕ) → x.process.ballot ≡ Some ballot → AllByRecursion (EntryIsOfSend x.written.sends) (first_decision here.team ballot (member_of x.process.identity) t).window.items
  first_window ballot t is = cut_keeps x.written.sends _ (or_none ballot.best).window.items
      (any_window_keeps x.written.sends x.written.makes ballot.best k.history.makes (subst (λ (o : Option Ballot). WasMadeIfAny x.written.makes (best_of o)) is before.own.0.maker.keeps.best))

  -- whatever the reason
  making_keeps : (c : Makes here x y) → NewKeeps c.making
  making_keeps c = go c.reason
    where
      go : MakeReason here c.making c.t x y → NewKeeps c.making
      go (Next last is turn same ballot) = rw same (record { appended = next_keeps c.t last; window = next_window c.t last is })
      go (Group ballot is full e same none) = record {
        appended = subst (AllByRecursion (IsOfSend x.written.sends)) (sym (ap (λ (m : Making). m.appended) same)) tt;
        window = subst (λ (d : Decision). AllByRecursion (EntryIsOfSend x.written.sends) d.window.items)
            (group_is_first here.team ballot x.process.log (payloads_of x.process.waiting) (member_of x.process.identity) c.t c.making.decision e) (first_window ballot c.t is);
      }

  -- ---- each effect

  -- where nothing is sent or made, and no update comes or goes
  same_all : y.written.sends ≡ x.written.sends → y.written.makes ≡ x.written.makes → y.written.sent ≡ x.written.sent
      → y.process.log ≡ x.process.log → y.process.waiting ≡ x.process.waiting → Holds ids (s ∷ past) (world team past) s.who y
  same_all same makes sent log waiting = record {
    history = record { makes = rw (same, makes) k.history.makes; told = rw (same, sent) k.history.told };
    own = record { list = rw (same, log) k.own.list; waiting = rw (same, waiting) k.own.waiting };
    others = λ q p other runs. rw same (k.others q p other runs);
  }

  -- whatever the effect
  changed : Change here x y → Holds ids (s ∷ past) (world team past) s.who y
  changed (Change.Keep c) = record {
    history = record {
      makes = rw c.makes (each_weaker (MakeKeeps x.written.sends) (MakeKeeps y.written.sends) x.written.makes (λ m. make_more x.written.sends y.written.sends m more) k.history.makes);
      told = rw c.sent (all_joined (λ (d : Dispatch). BodyKeeps y.written.sends d.datagram.body) x.written.sent (map (sent_at here.step.t) c.new)
          (each_weaker (λ (d : Dispatch). BodyKeeps x.written.sends d.datagram.body) (λ (d : Dispatch). BodyKeeps y.written.sends d.datagram.body) x.written.sent
          (λ d. body_more x.written.sends y.written.sends d.datagram.body more) k.history.told)
          (all_mapped (λ (d : Dispatch). BodyKeeps y.written.sends d.datagram.body) (sent_at here.step.t) c.new
          (each_weaker (IsToldBy here y) (λ (d : ℕ × Datagram). BodyKeeps y.written.sends d.1.body) c.new (λ d told. told_keeps own d.1.body told.says) c.told)));
    };
    own = own;
    others = λ q p other runs. process_more x.written.sends y.written.sends p more (k.others q p other runs);
  }
    where
      more : More x.written.sends y.written.sends
      more = go c.numbers
        where
          go : Numbers here x y → More x.written.sends y.written.sends
          go (SendsNone seq same) = more_same x.written.sends y.written.sends same
          go (SendsOne sending from seq new) = more_by x.written.sends y.written.sends _ new

      own : ProcessKeeps y.written.sends y.process
      own = process_more x.written.sends y.written.sends y.process more (record { list = rw c.log k.own.list; waiting = waiting_keeps c.waits })
  changed (Change.Give c) = same_all (ap (λ (w : Written). w.sends) c.written) (ap (λ (w : Written). w.makes) c.written) (ap (λ (w : Written). w.sent) c.written)
      (ap (λ (p : Process). p.log) c.process) (ap (λ (p : Process). p.waiting) c.process)
  changed (Change.Hold c) = same_all (ap (λ (w : Written). w.sends) c.written) (ap (λ (w : Written). w.makes) c.written) (ap (λ (w : Written). w.sent) c.written)
      (ap (λ (p : Process). p.log) c.process) (ap (λ (p : Process). p.waiting) c.process)
  changed (Change.Raise c) = same_all (ap (λ (w : Written). w.sends) c.written) (ap (λ (w : Written). w.makes) c.written) (ap (λ (w : Written). w.sent) c.written)
      (ap (λ (p : Process). p.log) c.process) (ap (λ (p : Process). p.waiting) c.process)
  changed (Change.Deliver c) = record {
    history = rw c.written (record { makes = k.history.makes; told = k.history.told });
    own = rw (ap (λ (w : Written). w.sends) c.written) (record {
      list = each_alike (IsOfSend x.written.sends) still_of_send x.process.log.entries y.process.log.entries (log_delivers here x y c).entries k.own.list;
      waiting = each_alike (IsOfSend x.written.sends) still_of_send (payloads_of x.process.waiting) (payloads_of y.process.waiting) (payloads_deliver here x y c) k.own.waiting;
    });
    others = λ q p other runs. rw c.written (k.others q p other runs);
  }
    where
      still_of_send : (a b : Kept) → unmarked b ≡ unmarked a → IsOfSend x.written.sends a → IsOfSend x.written.sends b
      still_of_send a b same was = subst (WasSent x.written.sends) (sym (ap as_sent same)) was
  changed (Change.Take c) =
      let early = first_of (of_groups team) sends (s ∷ past) (world team past) s.who x before in
      let late = first_of (of_groups team) sends (s ∷ past) (world team past) s.who y after in
      let was = source_made team past s here x y at mailed change
      (part_holds (of_promises team) (of_groups team) (s ∷ past) (world team past) s.who x (promises_part team) early)
      (part_holds (of_promises team) (of_groups team) (s ∷ past) (world team past) s.who y (promises_part team) late)
      (part_holds (made team) (of_groups team) (s ∷ past) (world team past) s.who x (made_part team) early)
      c.taken_decision c.source in
      record {
        history = rw c.written k.history;
        own = rw (c.written, c.process) (entered_keeps x.written.sends c.taken_decision x.process once (window_keeps x.written.sends x.written.makes c.taken_decision k.history.makes was) k.own);
        others = λ q p other runs. rw c.written (k.others q p other runs);
      }
  changed (Change.Make c) =
      let new = making_keeps c in
      let after = entered_keeps x.written.sends c.making.decision (supporting c.t x.process) once new.window (record { list = k.own.list; waiting = k.own.waiting }) in
      record {
        history = rw c.written (record {
          makes = (
            record {
              appended = new.appended;
              list = all_joined (IsOfSend x.written.sends) (list_of x.written.makes c.making.before) c.making.appended (list_keeps x.written.sends x.written.makes c.making.before k.history.makes) new.appended;
              window = new.window;
            },
            k.history.makes,
          );
          told = k.history.told;
        });
        own = rw (c.written, c.process) (record { list = after.list; waiting = after.waiting });
        others = λ q p other runs. rw c.written (k.others q p other runs);
      }

-- Each id keeps what its send gave, where an id is sent once and a decision that is taken was made.
pub ids_rules : (team : Team) → RulesOver team (Both (of_groups team) sends) ids
ids_rules team = record {
  nothing = record { makes = tt; told = tt };
  waits = λ past s w sound ok before k. k;
  remains = λ past s w who p sound ok same before h own k. k;
  begins = λ past s w mode sound ok act more before k. record { list = tt; waiting = tt };
  changes = λ past s here x y at mailed change before after k. changed team past s here x y at mailed change before after k change;
}
