-- An id is sent once, under a number below the next one.
use Rattle.std.proofs.Common.{◌≡◌, ◌≢◌, refl, sym, ap, subst, ◌∙◌, ℕ, suc, ◌≤◌, ◌<◌, true, false, List, ◌∷◌, Some, arith}
use Rattle.std.specs.Prelude.{max}
use Rattle.std.specs.List.{AllByRecursion}
use Rattle.tw_machine.specs.Types.{Team, Member, UpdateId, Kept, Mode, Step}
use Rattle.tw_types.specs.Beliefs.{is_informed}
use Rattle.tw_types.specs.Process.{Process, started}
use Rattle.tw_types.specs.Sends.{Sending, as_sent}
use Rattle.tw_types.specs.Updates.{sender}
use Rattle.tw_types.proofs.Up.{backing}
use Rattle.tw_machine.specs.History.{SentUpdate, life, send_item}
use Rattle.tw_machine.specs.Proposing.{own_seq}
use Rattle.tw_machine.specs.Standing.{member_of}
use Rattle.tw_machine.specs.World.{world, Admissible}
use Rattle.safety_laws.specs.Effects.{Written, State, Here, Proposes, Numbers, SendsNone, SendsOne, Change}
use Rattle.safety_laws.specs.Groups.{of_groups}
use Rattle.tw_types.specs.Items.{In}
use Rattle.safety_laws.specs.Laws.{Holds}
use Rattle.safety_laws.specs.Names.{IsOfLife, Present, Earlier}
use Rattle.safety_laws.specs.Sends.{send_name, id_of, IsOfSender, AllSentOnce, IsNumbered, Sends, sends}
use Rattle.safety_laws.specs.Sends as numbered
use Rattle.safety_laws.proofs.Induction.{start_by}
use Rattle.safety_laws.proofs.Grown.{identity_stays}
use Rattle.safety_laws.proofs.Lists.{of_each, each_from, each_weaker}
use Rattle.safety_laws.proofs.Names.{named_still, earlier_life, new_named}
use Rattle.safety_laws.proofs.Stack.{Stepping, RulesOver}

-- ---- a step more, and a start

sender_still : (past : List Step) (s : Step) (z : SentUpdate) → IsOfSender past z → IsOfSender (s ∷ past) z
sender_still past s z k = record { named = named_still past s (send_name z) k.named; sender = k.sender; fresh = k.fresh }

-- whatever was sent before a start is of a lesser incarnation
begun : (team : Team) (past : List Step) (s : Step) (mode : Mode) (z : SentUpdate) → Admissible team (s ∷ past) → s.act ≡ start_by mode → life s.who (s ∷ past) ≡ suc (life s.who past)
    → IsOfSender past z → z.who ≡ s.who → (z.life < life s.who (s ∷ past)) × (z.member.incarnation < s.h)
begun team past s mode z ok act more k mine = go (earlier_life team past s mode (send_name z) ok act more k.named mine)
  where
    go : IsOfLife (life s.who (s ∷ past)) (started s.who mode s.h) s.t (send_name z) → (z.life < life s.who (s ∷ past)) × (z.member.incarnation < s.h)
    go (Present l incarnation) = absurd (let low : z.life ≤ life s.who past = subst (λ q. z.life ≤ life q past) mine k.named.life in omega arith)
    go (Earlier l incarnation t again) = (l, incarnation)

begins : (team : Team) (past : List Step) (s : Step) (w : Written) (mode : Mode) → Admissible team (s ∷ past) → s.act ≡ start_by mode → life s.who (s ∷ past) ≡ suc (life s.who past)
    → AllByRecursion (IsOfSender past) w.sends → Sends (s ∷ past) w s.who (started s.who mode s.h)
begins team past s w mode ok act more all = record {
  numbers = each_weaker (IsOfSender past) (λ (z : SentUpdate). z.who ≡ s.who → IsNumbered (life s.who (s ∷ past)) (started s.who mode s.h) z) w.sends
      (λ z k mine. let low = begun team past s mode z ok act more k mine in numbered.Earlier low.0 low.1) all;
  blank = λ lost. each_weaker (IsOfSender past) (λ (z : SentUpdate). z.who ≡ s.who → z.member ≢ member_of (started s.who mode s.h).identity) w.sends
      (λ z k mine member. let low = (begun team past s mode z ok act more k mine).1 in let same = ap (λ (m : Member). m.incarnation) member in omega arith) all;
}

-- ---- an effect

-- a process that sent nothing, keeps its next number, and lost no memory
still : (steps : List Step) (w v : Written) (who : ℕ) (p q : Process) → v.sends ≡ w.sends → q.identity ≡ p.identity → q.next_seq ≡ p.next_seq → (is_informed q.belief ≡ false → is_informed p.belief ≡ false)
    → Sends steps w who p → Sends steps v who q
still steps w v who p q same identity next lost k = record {
  numbers = rw same (each_weaker (λ (z : SentUpdate). z.who ≡ who → IsNumbered (life who steps) p z) (λ (z : SentUpdate). z.who ≡ who → IsNumbered (life who steps) q z) w.sends (λ z f mine. number z (f mine)) k.numbers);
  blank = λ no. rw (same, identity) (k.blank (lost no));
}
  where
    number : (z : SentUpdate) → IsNumbered (life who steps) p z → IsNumbered (life who steps) q z
    number z (numbered.Present l member low) = numbered.Present l (rw identity member) (rw next low)
    number z (numbered.Earlier l low) = numbered.Earlier l (rw identity low)

-- what is sent is of a number that wasn't given before
pub seq_is_new : (p : Process) → p.next_seq ≤ own_seq p
seq_is_new p = omega (arith, max)

-- ---- a new send

module _ (team : Team) (past : List Step) (s : Step) (here : Here) (x y : State) (at : Stepping team past s here) (before : Holds (of_groups team) (s ∷ past) (world team past) s.who x) (k : Holds sends (s ∷ past) (world team past) s.who x)
    (sending : Sending) (may : Proposes here x sending) where
  abbrev new : SentUpdate
  new = send_item (member_of x.process.identity) here.life here.step sending

  by_me : new.who ≡ s.who
  by_me = ap (λ (e : Step). e.who) at.same_step

  new_id : id_of new ≡ record { who = x.process.identity.who; incarnation = x.process.identity.incarnation; seq = own_seq x.process }
  new_id = ap (λ (u : Kept). u.entry.id) may.update

  new_sender : IsOfSender (s ∷ past) new
  new_sender = record {
    named = new_named team past s x (send_name new) at.ok before.own.promiser.own.lives before.own.promiser.own (record {
      who = by_me;
      member = before.own.promiser.own.is;
      life = at.same_life;
      t = ap (λ (e : Step). e.t) at.same_step;
      h = ap (λ (e : Step). e.h) at.same_step;
      incarnation = refl;
    });
    sender = ap sender new_id;
    fresh = subst (λ (u : Kept). as_sent u ≡ u) (sym may.update) refl;
  }

  -- no update of this process has its id, and none of another
  is_new : (o : SentUpdate) → In o x.written.sends → id_of o ≢ id_of new
  is_new o i same = go (of_each (λ (z : SentUpdate). z.who ≡ s.who → IsNumbered (life s.who (s ∷ past)) x.process z) x.written.sends o k.own.numbers i mine)
    where
      of : IsOfSender (s ∷ past) o
      of = of_each (IsOfSender (s ∷ past)) x.written.sends o k.history.1 i

      member : o.member ≡ member_of x.process.identity
      member = sym of.sender ∙ ap sender (same ∙ new_id)

      mine : o.who ≡ s.who
      mine = sym of.named.member ∙ ap (λ (m : Member). m.who) member ∙ before.own.promiser.own.is

      go : IsNumbered (life s.who (s ∷ past)) x.process o → ⊥
      go (numbered.Present l m low) = let seq : (id_of o).seq ≡ own_seq x.process = ap (λ (id : UpdateId). id.seq) (same ∙ new_id) in let above = seq_is_new x.process in omega arith
      go (numbered.Earlier l low) = let is = ap (λ (m : Member). m.incarnation) member in omega arith

  all_new : AllSentOnce (new ∷ x.written.sends)
  all_new = (each_from (λ (o : SentUpdate). id_of o ≢ id_of new) x.written.sends is_new, k.history.0)

  -- who is up lost no memory
  informed : is_informed x.process.belief ≡ true
  informed = ap is_informed (backing here.team x.process.vote x.process.belief (Some may.t) may.up).is_last

  sends_one : y.process.identity ≡ x.process.identity → y.process.belief ≡ x.process.belief → y.process.next_seq ≡ suc sending.update.entry.id.seq → y.written.sends ≡ new ∷ x.written.sends
      → Holds sends (s ∷ past) (world team past) s.who y
  sends_one identity belief next newest = record {
    history = rw newest (all_new, (new_sender, k.history.1));
    own = record {
      numbers = rw newest ((λ mine. number_new), each_weaker (λ (z : SentUpdate). z.who ≡ s.who → IsNumbered (life s.who (s ∷ past)) x.process z) (λ (z : SentUpdate). z.who ≡ s.who → IsNumbered (life s.who (s ∷ past)) y.process z) x.written.sends (λ z f mine. number z (f mine)) k.own.numbers);
      blank = λ lost. absurd (let no : false ≡ true = sym lost ∙ ap is_informed belief ∙ informed in cc);
    };
    others = λ q p other runs. let j = k.others q p other runs in record {
      numbers = rw newest ((λ mine. absurd (other (sym by_me ∙ mine))), j.numbers);
      blank = λ lost. rw newest ((λ mine. absurd (other (sym by_me ∙ mine))), j.blank lost);
    };
  }
    where
      seq_is : sending.update.entry.id.seq ≡ own_seq x.process
      seq_is = ap (λ (id : UpdateId). id.seq) new_id

      number_new : IsNumbered (life s.who (s ∷ past)) y.process new
      number_new = numbered.Present at.same_life (sym (ap member_of identity)) (rw next (omega arith))

      number : (z : SentUpdate) → IsNumbered (life s.who (s ∷ past)) x.process z → IsNumbered (life s.who (s ∷ past)) y.process z
      number z (numbered.Present l member low) = numbered.Present l (rw identity member) (let above = seq_is_new x.process in let is = seq_is in rw next (omega arith))
      number z (numbered.Earlier l low) = numbered.Earlier l (rw identity low)

changes : (team : Team) (past : List Step) (s : Step) (here : Here) (x y : State) → Stepping team past s here → Change here x y → Holds (of_groups team) (s ∷ past) (world team past) s.who x → Holds sends (s ∷ past) (world team past) s.who x
    → Holds sends (s ∷ past) (world team past) s.who y
changes team past s here x y at change before k = go change
  where
    -- nothing was sent
    same : y.written.sends ≡ x.written.sends → y.process.next_seq ≡ x.process.next_seq → (is_informed y.process.belief ≡ false → is_informed x.process.belief ≡ false) → Holds sends (s ∷ past) (world team past) s.who y
    same eq next lost = record {
      history = rw eq k.history;
      own = still (s ∷ past) x.written y.written s.who x.process y.process eq (identity_stays here x y change) next lost k.own;
      others = λ q p other runs. still (s ∷ past) x.written y.written q p p eq refl refl (λ no. no) (k.others q p other runs);
    }

    by_number : y.process.identity ≡ x.process.identity → y.process.belief ≡ x.process.belief → Numbers here x y → Holds sends (s ∷ past) (world team past) s.who y
    by_number identity belief (SendsNone next eq) = same eq next (λ lost. ap is_informed (sym belief) ∙ lost)
    by_number identity belief (SendsOne sending may next newest) = sends_one team past s here x y at before k sending may identity belief (next ∙ omega arith) newest

    go : Change here x y → Holds sends (s ∷ past) (world team past) s.who y
    go (Change.Keep c) = by_number c.identity c.belief c.numbers
    go (Change.Give c) = same (ap (λ (w : Written). w.sends) c.written) (ap (λ (p : Process). p.next_seq) c.process) (λ lost. ap (λ (p : Process). is_informed p.belief) (sym c.process) ∙ lost)
    go (Change.Hold c) = same (ap (λ (w : Written). w.sends) c.written) (ap (λ (p : Process). p.next_seq) c.process) (λ lost. ap (λ (p : Process). is_informed p.belief) (sym c.process) ∙ lost)
    go (Change.Take c) = same (ap (λ (w : Written). w.sends) c.written) (ap (λ (p : Process). p.next_seq) c.process) (λ lost. absurd (let no : true ≡ false = ap (λ (p : Process). is_informed p.belief) (sym c.process) ∙ lost in cc))
    go (Change.Make c) = same (ap (λ (w : Written). w.sends) c.written) (ap (λ (p : Process). p.next_seq) c.process) (λ lost. absurd (let no : true ≡ false = ap (λ (p : Process). is_informed p.belief) (sym c.process) ∙ lost in cc))
    go (Change.Deliver c) = same (ap (λ (w : Written). w.sends) c.written) (ap (λ (p : Process). p.next_seq) c.process) (λ lost. ap (λ (p : Process). is_informed p.belief) (sym c.process) ∙ lost)
    go (Change.Raise c) = same (ap (λ (w : Written). w.sends) c.written) (ap (λ (p : Process). p.next_seq) c.process) (λ lost. ap (λ (p : Process). is_informed p.belief) (sym c.process) ∙ lost)

pub sends_rules : (team : Team) → RulesOver team (of_groups team) sends
sends_rules team = record {
  nothing = (tt, tt);
  waits = λ past s w sound ok before k. (k.0, each_weaker (IsOfSender past) (IsOfSender (s ∷ past)) w.sends (sender_still past s) k.1);
  remains = λ past s w who p sound ok same before h own k. record { numbers = rw same k.numbers; blank = k.blank };
  begins = λ past s w mode sound ok act more before k. begins team past s w mode ok act more k.1;
  changes = λ past s here x y at mailed change before after k. changes team past s here x y at change before k;
}
