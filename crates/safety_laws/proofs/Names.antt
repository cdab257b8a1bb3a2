-- Names ascend.
use Rattle.std.proofs.Common.{◌≡◌, refl, sym, ap, subst, ◌∙◌, inl, inr, ℕ, suc, ◌≤◌, ◌<◌, Bool, true, false, not, cond, ◌&&◌, ◌||◌, nat_eq, List, [], ◌∷◌, arith}
use Rattle.std.specs.Prelude.{nat_le, nat_lt}
use Rattle.std.specs.List.{AllByRecursion}
use Rattle.std.proofs.lemmas.Bool.{and_parts}
use Rattle.std.proofs.lemmas.Bool.Decides.{nat_tests}
use Rattle.tw_machine.specs.Types.{Team, Step, Mode, Report}
use Rattle.tw_types.specs.declared.outputs.Mode.TheVariants as modes
use Rattle.tw_types.specs.Promises.{is_again}
use Rattle.tw_types.specs.Process.{Identity, Process, started}
use Rattle.tw_machine.specs.Admissible.{is_start, is_first, each_own, keeps_drift, may_start, was_started, is_running}
use Rattle.tw_machine.specs.History.{Promised, Up, life, promise_item, make_item, up_at}
use Rattle.tw_machine.specs.Standing.{member_of}
use Rattle.tw_machine.specs.History as items
use Rattle.tw_machine.specs.World.{world, Admissible}
use Rattle.tw_machine.proofs.Tables.{same_number}
use Rattle.safety_laws.specs.Clocks.{MayRead}
use Rattle.safety_laws.specs.Effects.{Written, State, Here, Promises, Makes, Change}
use Rattle.safety_laws.specs.Laws.{Holds}
use Rattle.safety_laws.specs.Names.{Name, promise_name, make_name, IsNamed, IsNamedUp, IsOfLife, Present, Earlier, IsOwn, AreNamed, names}
use Rattle.safety_laws.specs.Readings.{HasRead}
use Rattle.safety_laws.proofs.ClockLaw.{may_read_now}
use Rattle.safety_laws.proofs.Grown.{Grown, Quiet, NewPromise, NewMake, NewUp, grown, identity_stays}
use Rattle.safety_laws.proofs.Induction.{follows, meets, start_by}
use Rattle.safety_laws.proofs.Lists.{each_weaker}
use Rattle.safety_laws.proofs.Readings.{has_just_read, not_later}
use Rattle.safety_laws.proofs.Stack.{Stepping, LawRules}

-- what a process may read isn't below what it read
not_above : (ppm who : ℕ) (past : List Step) (t h t0 h0 : ℕ) → MayRead ppm who past t h → HasRead past who t0 h0 → h0 ≤ h
not_above ppm who [] t h t0 h0 may read = absurd read
not_above ppm who (e ∷ past) t h t0 h0 may (inl r) =
    let test : nat_eq e.who who ≡ true = rw r.by (same_number who) in
    let keeps : keeps_drift ppm e.t e.h t h ≡ true = rw test at ((and_parts (not (nat_eq e.who who) || keeps_drift ppm e.t e.h t h) _ may.drift).0) in
    let reading = r.reading in
    grind (arith, nat_tests)
not_above ppm who (e ∷ past) t h t0 h0 may (inr r) =
    not_above ppm who past t h t0 h0 (record { time = (and_parts (nat_le e.t t) _ may.time).1; drift = (and_parts (not (nat_eq e.who who) || keeps_drift ppm e.t e.h t h) _ may.drift).1 }) r

-- a start reads above all earlier readings
start_above : (who h : ℕ) (past : List Step) (t0 h0 : ℕ) → each_own (λ e. nat_lt e.h h) who past ≡ true → HasRead past who t0 h0 → h0 < h
start_above who h [] t0 h0 all read = absurd read
start_above who h (e ∷ past) t0 h0 all (inl r) =
    let test : nat_eq e.who who ≡ true = rw r.by (same_number who) in
    let low : nat_lt e.h h ≡ true = rw test at ((and_parts (not (nat_eq e.who who) || nat_lt e.h h) _ all).0) in
    let reading = r.reading in
    grind (arith, nat_tests)
start_above who h (e ∷ past) t0 h0 all (inr r) = start_above who h past t0 h0 (and_parts (not (nat_eq e.who who) || nat_lt e.h h) _ all).1 r

-- a process that has a life was started
lived : (who : ℕ) (past : List Step) → 1 ≤ life who past → was_started who past ≡ true
lived who [] l = absurd (omega arith)
lived who (e ∷ past) l = go (nat_eq e.who who && is_start e.act) l (lived who past)
  where
    go : (b : Bool) → 1 ≤ cond b (suc (life who past)) (life who past) → (1 ≤ life who past → was_started who past ≡ true) → (b || was_started who past) ≡ true
    go true l rest = refl
    go false l rest = rest l

start_parts : (past : List Step) (s : Step) → may_start past s ≡ true → (each_own (λ e. nat_lt e.h s.h) s.who past ≡ true) × (not (is_first s.act && was_started s.who past) ≡ true)
start_parts past s may =
    let two = and_parts (not (is_running s.who past) && each_own (λ e. nat_lt e.h s.h) s.who past) (not (is_first s.act && was_started s.who past)) may in
    ((and_parts (not (is_running s.who past)) (each_own (λ e. nat_lt e.h s.h) s.who past) two.0).1, two.1)

pub starts_by : (s : Step) (mode : Mode) → s.act ≡ start_by mode → is_start s.act ≡ true
starts_by s modes.First e = rw e refl
starts_by s modes.Again e = rw e refl

-- a start that isn't the first is one again
pub is_again_later : (past : List Step) (s : Step) (mode : Mode) → s.act ≡ start_by mode → may_start past s ≡ true → 1 ≤ life s.who past → is_again mode ≡ true
is_again_later past s modes.First act may l =
    let was = lived s.who past l in
    let test : not (is_first s.act && was_started s.who past) ≡ true = (start_parts past s may).1 in
    absurd (let no : not (true && true) ≡ true = rw (act, was) at test in cc)
is_again_later past s modes.Again act may l = refl

-- ---- a step more, and a start

life_grows : (past : List Step) (s : Step) (who l : ℕ) → l ≤ life who past → l ≤ life who (s ∷ past)
life_grows past s who l low = go (nat_eq s.who who && is_start s.act)
  where
    go : (b : Bool) → l ≤ cond b (suc (life who past)) (life who past)
    go true = omega arith
    go false = low

pub named_still : (past : List Step) (s : Step) (name : Name) → IsNamed past name → IsNamed (s ∷ past) name
named_still past s name k = record { member = k.member; started = k.started; life = life_grows past s name.who name.life k.life; read = inr k.read; incarnation = k.incarnation }

up_still : (past : List Step) (s : Step) (up : Up) → IsNamedUp past up → IsNamedUp (s ∷ past) up
up_still past s up k = record { member = k.member; life = life_grows past s up.who up.life k.life }

waits : (past : List Step) (s : Step) (w : Written) → AreNamed past w → AreNamed (s ∷ past) w
waits past s w k = record {
  promises = each_weaker (λ (x : Promised). IsNamed past (promise_name x)) (λ (x : Promised). IsNamed (s ∷ past) (promise_name x)) w.promises (λ x. named_still past s (promise_name x)) k.promises;
  makes = each_weaker (λ (x : items.Make). IsNamed past (make_name x)) (λ (x : items.Make). IsNamed (s ∷ past) (make_name x)) w.makes (λ x. named_still past s (make_name x)) k.makes;
  ups = each_weaker (IsNamedUp past) (IsNamedUp (s ∷ past)) w.ups (up_still past s) k.ups;
}

remains : (past : List Step) (s : Step) (w : Written) (who : ℕ) (p : Process) → life who (s ∷ past) ≡ life who past → IsOwn past w who p → IsOwn (s ∷ past) w who p
remains past s w who p same k = record {
  is = k.is;
  lives = rw same k.lives;
  began = k.began;
  last_t = k.last_t;
  last_h = k.last_h;
  last = inr k.last;
  incarnation = k.incarnation;
  begun = k.begun;
  start = inr k.start;
  promises = rw same k.promises;
  makes = rw same k.makes;
}

-- a start reads above all that its process read before
pub above_read : (team : Team) (past : List Step) (s : Step) (mode : Mode) → Admissible team (s ∷ past) → s.act ≡ start_by mode → (t h : ℕ) → HasRead past s.who t h → h < s.h
above_read team past s mode ok act t h read =
    let met = meets team past s (follows team past s ok) in
    let may : may_start past s ≡ true = ap (λ b. not b || may_start past s) (sym (starts_by s mode act)) ∙ met.start in
    start_above s.who s.h past t h (start_parts past s may).0 read

-- an item that was written down before a start is of an earlier life
pub earlier_life : (team : Team) (past : List Step) (s : Step) (mode : Mode) (name : Name) → Admissible team (s ∷ past) → s.act ≡ start_by mode → life s.who (s ∷ past) ≡ suc (life s.who past)
    → IsNamed past name → name.who ≡ s.who → IsOfLife (life s.who (s ∷ past)) (started s.who mode s.h) s.t name
earlier_life team past s mode name ok act more k mine =
    let read : HasRead past s.who name.t name.h = subst (λ q. HasRead past q name.t name.h) mine k.read in
    let low : name.life ≤ life s.who past = subst (λ q. name.life ≤ life q past) mine k.life in
    let met = meets team past s (follows team past s ok) in
    let may : may_start past s ≡ true = ap (λ b. not b || may_start past s) (sym (starts_by s mode act)) ∙ met.start in
    let above = start_above s.who s.h past name.t name.h (start_parts past s may).0 read in
    let started = k.started in
    let incarnation = k.incarnation in
    Earlier (rw more (omega arith)) (omega arith) (not_later past s.who s.t name.t name.h met.time read) (is_again_later past s mode act may (omega arith))

pub begins : (team : Team) (past : List Step) (s : Step) (w : Written) (mode : Mode) → Admissible team (s ∷ past) → s.act ≡ start_by mode → life s.who (s ∷ past) ≡ suc (life s.who past) → AreNamed past w → IsOwn (s ∷ past) w s.who (started s.who mode s.h)
begins team past s w mode ok act more k = record {
  is = refl;
  lives = rw more (omega arith);
  began = omega arith;
  last_t = s.t;
  last_h = s.h;
  last = has_just_read past s;
  incarnation = omega arith;
  begun = s.t;
  start = has_just_read past s;
  promises = each_weaker (λ (x : Promised). IsNamed past (promise_name x)) (λ (x : Promised). x.who ≡ s.who → IsOfLife (life s.who (s ∷ past)) (started s.who mode s.h) s.t (promise_name x)) w.promises
      (λ x named mine. earlier_life team past s mode (promise_name x) ok act more named mine) k.promises;
  makes = each_weaker (λ (x : items.Make). IsNamed past (make_name x)) (λ (x : items.Make). x.who ≡ s.who → IsOfLife (life s.who (s ∷ past)) (started s.who mode s.h) s.t (make_name x)) w.makes
      (λ x named mine. earlier_life team past s mode (make_name x) ok act more named mine) k.makes;
}

-- ---- an effect

-- an item of the present life of the step's process, at the step
pub record IsNew (past : List Step) (s : Step) (p : Process) (name : Name) : Type 0 where
  pub who : name.who ≡ s.who
  pub member : name.member.who ≡ s.who
  pub life : name.life ≡ life s.who (s ∷ past)
  pub t : name.t ≡ s.t
  pub h : name.h ≡ s.h
  pub incarnation : name.member.incarnation ≡ p.identity.incarnation

pub new_named : (team : Team) (past : List Step) (s : Step) (x : State) (name : Name) → Admissible team (s ∷ past) → 1 ≤ life s.who (s ∷ past) → IsOwn (s ∷ past) x.written s.who x.process → IsNew past s x.process name → IsNamed (s ∷ past) name
new_named team past s x name ok alive own new = record {
  member = new.member ∙ sym new.who;
  started = rw new.life alive;
  life = subst (λ q. name.life ≤ life q (s ∷ past)) (sym new.who) (let same = new.life in omega arith);
  read = rw (new.who, new.t, new.h) (has_just_read past s);
  incarnation = rw (new.incarnation, new.h) (let low = own.incarnation in let last = not_above team.ppm s.who (s ∷ past) s.t s.h own.last_t own.last_h (may_read_now team past s ok) own.last in omega arith);
}

-- a process with the same identity
same_identity : (past : List Step) (s : Step) (w : Written) (who : ℕ) (p q : Process) → q.identity ≡ p.identity → IsOwn (s ∷ past) w who p → IsOwn (s ∷ past) w who q
same_identity past s w who p q same k = record {
  is = ap (λ (i : Identity). i.who) same ∙ k.is;
  lives = k.lives;
  began = rw same k.began;
  last_t = k.last_t;
  last_h = k.last_h;
  last = k.last;
  incarnation = rw same k.incarnation;
  begun = k.begun;
  start = rw same k.start;
  promises = each_weaker (λ (x : Promised). x.who ≡ who → IsOfLife (life who (s ∷ past)) p k.begun (promise_name x)) (λ (x : Promised). x.who ≡ who → IsOfLife (life who (s ∷ past)) q k.begun (promise_name x)) w.promises
      (λ x f mine. of_identity (promise_name x) (f mine)) k.promises;
  makes = each_weaker (λ (x : items.Make). x.who ≡ who → IsOfLife (life who (s ∷ past)) p k.begun (make_name x)) (λ (x : items.Make). x.who ≡ who → IsOfLife (life who (s ∷ past)) q k.begun (make_name x)) w.makes
      (λ x f mine. of_identity (make_name x) (f mine)) k.makes;
}
  where
    of_identity : (name : Name) → IsOfLife (life who (s ∷ past)) p k.begun name → IsOfLife (life who (s ∷ past)) q k.begun name
    of_identity name (Present l i) = Present l (rw same i)
    of_identity name (Earlier l i t m) = Earlier l (rw same i) t (rw same m)

-- what was written down of the life's new items, and what of the others
own_grows : (past : List Step) (s : Step) (w v : Written) (who : ℕ) (p : Process) → IsOwn (s ∷ past) w who p
    → ((begun : ℕ) → AllByRecursion (λ (x : Promised). x.who ≡ who → IsOfLife (life who (s ∷ past)) p begun (promise_name x)) w.promises → AllByRecursion (λ (x : Promised). x.who ≡ who → IsOfLife (life who (s ∷ past)) p begun (promise_name x)) v.promises)
    → ((begun : ℕ) → AllByRecursion (λ (x : items.Make). x.who ≡ who → IsOfLife (life who (s ∷ past)) p begun (make_name x)) w.makes → AllByRecursion (λ (x : items.Make). x.who ≡ who → IsOfLife (life who (s ∷ past)) p begun (make_name x)) v.makes)
    → IsOwn (s ∷ past) v who p
own_grows past s w v who p k promises makes = record {
  is = k.is;
  lives = k.lives;
  began = k.began;
  last_t = k.last_t;
  last_h = k.last_h;
  last = k.last;
  incarnation = k.incarnation;
  begun = k.begun;
  start = k.start;
  promises = promises k.begun k.promises;
  makes = makes k.begun k.makes;
}

present : (past : List Step) (s : Step) (p : Process) (begun : ℕ) (name : Name) → IsNew past s p name → IsOfLife (life s.who (s ∷ past)) p begun name
present past s p begun name new = Present new.life (let same = new.incarnation in omega arith)

changes : (team : Team) (past : List Step) (s : Step) (here : Here) (x y : State) → Stepping team past s here → Change here x y → Holds names (s ∷ past) (world team past) s.who x → Holds names (s ∷ past) (world team past) s.who y
changes team past s here x y at change k = go (grown here x y change)
  where
    own : IsOwn (s ∷ past) x.written s.who y.process
    own = same_identity past s x.written s.who x.process y.process (identity_stays here x y change) k.own

    of_same : (name : Name) → IsNew past s x.process name → IsNew past s y.process name
    of_same name new = record { who = new.who; member = new.member; life = new.life; t = new.t; h = new.h; incarnation = new.incarnation ∙ sym (ap (λ (i : Identity). i.incarnation) (identity_stays here x y change)) }

    new_promise : (c : Promises here x y) → IsNew past s x.process (promise_name (promise_item here.life here.step c.given))
    new_promise c = record {
      who = ap (λ (e : Step). e.who) at.same_step;
      member = ap (λ (r : Report). r.member.who) c.report ∙ k.own.is;
      life = at.same_life;
      t = ap (λ (e : Step). e.t) at.same_step;
      h = ap (λ (e : Step). e.h) at.same_step;
      incarnation = ap (λ (r : Report). r.member.incarnation) c.report;
    }

    new_make : (c : Makes here x y) → IsNew past s x.process (make_name (make_item (member_of x.process.identity) here.life here.step x.written.makes c.making))
    new_make c = record {
      who = ap (λ (e : Step). e.who) at.same_step;
      member = k.own.is;
      life = at.same_life;
      t = ap (λ (e : Step). e.t) at.same_step;
      h = ap (λ (e : Step). e.h) at.same_step;
      incarnation = refl;
    }

    go : Grown here x y → Holds names (s ∷ past) (world team past) s.who y
    go (Quiet promises makes ups) = record {
      history = record { promises = rw promises k.history.promises; makes = rw makes k.history.makes; ups = rw ups k.history.ups };
      own = own_grows past s x.written y.written s.who y.process own (λ begun all. rw promises all) (λ begun all. rw makes all);
      others = λ q p other runs. own_grows past s x.written y.written q p (k.others q p other runs) (λ begun all. rw promises all) (λ begun all. rw makes all);
    }
    go (NewPromise c promises makes ups) = let new = new_promise c in record {
      history = record {
        promises = rw promises (new_named team past s x (promise_name (promise_item here.life here.step c.given)) at.ok k.own.lives k.own new, k.history.promises);
        makes = rw makes k.history.makes;
        ups = rw ups k.history.ups;
      };
      own = own_grows past s x.written y.written s.who y.process own
          (λ begun all. rw promises ((λ mine. present past s y.process begun (promise_name (promise_item here.life here.step c.given)) (of_same (promise_name (promise_item here.life here.step c.given)) new)), all)) (λ begun all. rw makes all);
      others = λ q p other runs. own_grows past s x.written y.written q p (k.others q p other runs)
          (λ begun all. rw promises ((λ mine. absurd (other (sym new.who ∙ mine))), all)) (λ begun all. rw makes all);
    }
    go (NewMake c promises makes ups) = let new = new_make c in record {
      history = record {
        promises = rw promises k.history.promises;
        makes = rw makes (new_named team past s x (make_name (make_item (member_of x.process.identity) here.life here.step x.written.makes c.making)) at.ok k.own.lives k.own new, k.history.makes);
        ups = rw ups k.history.ups;
      };
      own = own_grows past s x.written y.written s.who y.process own (λ begun all. rw promises all)
          (λ begun all. rw makes ((λ mine. present past s y.process begun (make_name (make_item (member_of x.process.identity) here.life here.step x.written.makes c.making)) (of_same (make_name (make_item (member_of x.process.identity) here.life here.step x.written.makes c.making)) new)), all));
      others = λ q p other runs. own_grows past s x.written y.written q p (k.others q p other runs) (λ begun all. rw promises all)
          (λ begun all. rw makes ((λ mine. absurd (other (sym new.who ∙ mine))), all));
    }
    go (NewUp c promises makes ups) = record {
      history = record {
        promises = rw promises k.history.promises;
        makes = rw makes k.history.makes;
        ups = rw ups (new_up, k.history.ups);
      };
      own = own_grows past s x.written y.written s.who y.process own (λ begun all. rw promises all) (λ begun all. rw makes all);
      others = λ q p other runs. own_grows past s x.written y.written q p (k.others q p other runs) (λ begun all. rw promises all) (λ begun all. rw makes all);
    }
      where
        new_up : IsNamedUp (s ∷ past) (up_at here.life here.step x.process c.t c.last)
        new_up = record {
          member = k.own.is ∙ sym (ap (λ (e : Step). e.who) at.same_step);
          life = subst (λ (e : Step). here.life ≤ life e.who (s ∷ past)) (sym at.same_step) (let same = at.same_life in omega arith);
        }

-- names ascend in every schedule
pub names_rules : (team : Team) → LawRules team names
names_rules team = record {
  nothing = record { promises = tt; makes = tt; ups = tt };
  waits = λ past s w sound ok none k. waits past s w k;
  remains = λ past s w who p sound ok same none h nobody k. remains past s w who p same k;
  begins = λ past s w mode sound ok act more none k. begins team past s w mode ok act more k;
  changes = λ past s here x y at mailed change none nobody k. changes team past s here x y at change k;
}
