-- What is known of the updates that were sent for the first time.
use Rattle.std.specs.Prelude.{ℕ, ◌≡◌, ◌≢◌, ◌<◌, false, List, [], ◌∷◌}
use Rattle.std.specs.List.{AllByRecursion}
use Rattle.tw_machine.specs.Types.{UpdateId, Step}
use Rattle.tw_types.specs.Beliefs.{is_informed}
use Rattle.tw_types.specs.Process.{Process}
use Rattle.tw_types.specs.Sends.{as_sent}
use Rattle.tw_types.specs.Updates.{sender}
use Rattle.tw_types.specs.Waiting.{is_hole}
use Rattle.tw_machine.specs.History.{SentUpdate, life}
use Rattle.tw_machine.specs.Proposing.{own_seq}
use Rattle.tw_machine.specs.Standing.{member_of}
use Rattle.safety_laws.specs.Effects.{Written}
use Rattle.safety_laws.specs.Laws.{Law}
use Rattle.safety_laws.specs.Names.{Name, IsNamed}

abbrev pub send_name : SentUpdate → Name
send_name z = record { who = z.who; member = z.member; life = z.life; t = z.t; h = z.h }

abbrev pub id_of : SentUpdate → UpdateId
id_of z = z.sending.update.entry.id

-- An update is sent by a member of its process in a life of it, under an id of that member; it is neither late nor delivered early.
pub record IsOfSender (steps : List Step) (z : SentUpdate) : Type 0 where
  pub named : IsNamed steps (send_name z)
  pub sender : sender (id_of z) ≡ z.member
  pub fresh : as_sent z.sending.update ≡ z.sending.update

-- no update has the id of one that was sent before
abbrev pub AllSentOnce : List SentUpdate → Type 0
AllSentOnce [] = Unit {0}
AllSentOnce (z ∷ older) = AllByRecursion (λ (o : SentUpdate). id_of o ≢ id_of z) older × AllSentOnce older

-- An update of a running process was sent by it in its present life, under a number below its next one, or in an earlier life, by a
-- member of a lesser incarnation.
pub data IsNumbered (life : ℕ) (p : Process) (z : SentUpdate) : Type 0 where
  Present : z.life ≡ life → z.member ≡ member_of p.identity → (id_of z).seq < p.next_seq → IsNumbered life p z
  Earlier : z.life < life → z.member.incarnation < p.identity.incarnation → IsNumbered life p z

-- what a running process sent; one that lost its memory sent nothing since
pub record Sends (steps : List Step) (w : Written) (who : ℕ) (p : Process) : Type 0 where
  pub numbers : AllByRecursion (λ (z : SentUpdate). z.who ≡ who → IsNumbered (life who steps) p z) w.sends
  pub blank : is_informed p.belief ≡ false → AllByRecursion (λ (z : SentUpdate). z.who ≡ who → z.member ≢ member_of p.identity) w.sends

-- the id of the next update that a process sends
abbrev pub next_id : Process → UpdateId
next_id p = record { who = p.identity.who; incarnation = p.identity.incarnation; seq = own_seq p }

-- a held decision doesn't want it
abbrev pub FillsNoHole : Process → Type 0
FillsNoHole p = is_hole (next_id p) p.waiting.held ≡ false

-- an id is sent once, under a number below the next one
abbrev pub sends : Law
sends = record { History = λ steps w. AllSentOnce w.sends × AllByRecursion (IsOfSender steps) w.sends; Running = Sends }
