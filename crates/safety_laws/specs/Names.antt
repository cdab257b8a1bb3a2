-- What was written down of a process, by name: its lives ascend, and with them its incarnations.
use Rattle.std.specs.Prelude.{ℕ, ◌≡◌, ◌≤◌, ◌<◌, true, List}
use Rattle.std.specs.List.{AllByRecursion}
use Rattle.tw_machine.specs.Types.{Member, Step}
use Rattle.tw_types.specs.Promises.{is_again}
use Rattle.tw_types.specs.Process.{Process}
use Rattle.tw_machine.specs.History.{Promised, Make, Up, life}
use Rattle.safety_laws.specs.Effects.{Written}
use Rattle.safety_laws.specs.Laws.{Law}
use Rattle.safety_laws.specs.Readings.{HasRead}

-- whose a promise or a make is: a process in one of its lives, at a step
pub record Name : Type 0 where
  pub who : ℕ
  pub member : Member
  pub life : ℕ
  pub t : ℕ
  pub h : ℕ

abbrev pub promise_name : Promised → Name
promise_name p = record { who = p.who; member = p.promise.report.member; life = p.life; t = p.t; h = p.h }

abbrev pub make_name : Make → Name
make_name d = record { who = d.who; member = d.member; life = d.life; t = d.t; h = d.h }

-- it was read at a step of its process, in a life of it, with an incarnation not above the reading
pub record IsNamed (steps : List Step) (name : Name) : Type 0 where
  pub member : name.member.who ≡ name.who
  pub started : 1 ≤ name.life
  pub life : name.life ≤ life name.who steps
  pub read : HasRead steps name.who name.t name.h
  pub incarnation : name.member.incarnation ≤ name.h

-- who was up was so in a life of it
pub record IsNamedUp (steps : List Step) (up : Up) : Type 0 where
  pub member : up.member.who ≡ up.who
  pub life : up.life ≤ life up.who steps

-- An item of a running process is of its present life, with no greater incarnation, or of an earlier one: then the process was
-- started again since, with a reading above that incarnation.
pub data IsOfLife (life : ℕ) (p : Process) (begun : ℕ) (name : Name) : Type 0 where
  Present : name.life ≡ life → name.member.incarnation ≤ p.identity.incarnation → IsOfLife life p begun name
  Earlier : name.life < life → name.member.incarnation < p.identity.began → name.t ≤ begun → is_again p.identity.mode ≡ true → IsOfLife life p begun name

-- a running process, in a life that begins at a start of it
pub record IsOwn (steps : List Step) (w : Written) (who : ℕ) (p : Process) : Type 0 where
  pub is : p.identity.who ≡ who
  pub lives : 1 ≤ life who steps
  pub began : p.identity.began ≤ p.identity.incarnation
  pub last_t : ℕ
  pub last_h : ℕ
  pub last : HasRead steps who last_t last_h
  pub incarnation : p.identity.incarnation ≤ last_h
  pub begun : ℕ
  pub start : HasRead steps who begun p.identity.began
  pub promises : AllByRecursion (λ (x : Promised). x.who ≡ who → IsOfLife (life who steps) p begun (promise_name x)) w.promises
  pub makes : AllByRecursion (λ (x : Make). x.who ≡ who → IsOfLife (life who steps) p begun (make_name x)) w.makes

pub record AreNamed (steps : List Step) (w : Written) : Type 0 where
  pub promises : AllByRecursion (λ (x : Promised). IsNamed steps (promise_name x)) w.promises
  pub makes : AllByRecursion (λ (x : Make). IsNamed steps (make_name x)) w.makes
  pub ups : AllByRecursion (IsNamedUp steps) w.ups

-- names ascend
abbrev pub names : Law
names = record { History = AreNamed; Running = IsOwn }
