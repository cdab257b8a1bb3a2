-- The world of the code after one more step.
use Rattle.std.proofs.Common.{subst, ◌≡◌, ◌≢◌, ◌<◌, refl, sym, ap, ◌∙◌, ℕ, zero, suc, ◌+◌, ◌&&◌, Bool, true, false, List, [], ◌∷◌, ◌++◌, map, length, Option, Some, None, Result, Ok, Err, arith, get_or, set}
use Rattle.std.specs.Prelude.{slice_get, IfErr}
use Rattle.std.specs.List.{AllByRecursion}
use Rattle.std.proofs.lemmas.List.{map-append, length-map}
use Rattle.tw_machine.specs.Types.{Team, Datagram, View, Outputs, RowAnswer, Step}
use Rattle.tw_types.specs.Printed.{row_printed}
use Rattle.tw_machine.specs.Dispatches.{Dispatch, sent_at}
use Rattle.tw_machine.specs.Admissible.{cause_of, may_receive}
use Rattle.tw_machine.proofs.Tables.{all_mapped}
use Rattle.tw_types.proofs.Lists.{all_joined}
use Rattle.app_table.specs.Table.{Entry}
use Rattle.tw_machine.specs.Rows.{row_of, line_by, entries_by}
use Rattle.tw_machine.specs.World.{world, deed, deed_in}
use Rattle.node_core.specs.Sends.{IsSendable}
use Rattle.world.specs.declared.node.Node.{Node}
use Rattle.world.specs.declared.sent.Sent.{Sent}
use Rattle.world.specs.declared.world.World as code
use Rattle.world.specs.Datagrams.{datagrams, spelled, kept_as, WasSendable, SentStandsFor}
use Rattle.world.specs.Deeds.{IsDeed}
use Rattle.world.specs.NodeConditions.{kept_cause, is_of, are_of, IsFresh}
use Rattle.world.specs.StandsFor.{NodeStandsFor, StandsFor, IsSame}
use Rattle.world.specs.Tables.{Running, entries_of}
use Rattle.world.proofs.Histories.{cause_kept, next_other}
use Rattle.std.proofs.lemmas.Bool.{and_parts, and_from}

-- ---- lists

pub found : {X : Type 0} (xs : List X) (i : ℕ) (x : X) → i < length xs → x ≡ get_or xs i x → slice_get xs i ≡ Some x
found [] i x low e = absurd (omega arith)
found (y ∷ xs) zero x low e = ap Some (sym e)
found (y ∷ xs) (suc i) x low e = found xs i x (omega arith) e

-- what stands at a place after one place was written
data After {X : Type 0} (xs : List X) (i : ℕ) (x : X) (j : ℕ) (y : X) : Type 0 where
  Written : i ≡ j → x ≡ y → After xs i x j y
  Left : i ≢ j → slice_get xs j ≡ Some y → After xs i x j y

after : {X : Type 0} (xs : List X) (i : ℕ) (x : X) (j : ℕ) (y : X) → slice_get (set xs i x) j ≡ Some y → After xs i x j y
after [] i x j y e = absurd (cc)
after (z ∷ xs) zero x zero y e = Written refl (cc)
after (z ∷ xs) zero x (suc j) y e = Left (omega arith) e
after (z ∷ xs) (suc i) x zero y e = Left (omega arith) e
after (z ∷ xs) (suc i) x (suc j) y e = go (after xs i x j y e)
  where
    go : After xs i x j y → After (z ∷ xs) (suc i) x (suc j) y
    go (Written same new) = Written (ap suc same) new
    go (Left other old) = Left (omega arith) old

-- one process is as it was found, and written anew
pub one_of : (n : ℕ) (processes : List Node) (i : ℕ) (p : Node) → i < length processes → p ≡ get_or processes i p → are_of n processes ≡ true → is_of n p ≡ true
one_of n [] i p low e all = absurd (omega arith)
one_of n (q ∷ processes) zero p low e all = rw e (and_parts (is_of n q) _ all).0
one_of n (q ∷ processes) (suc i) p low e all = one_of n processes i p (omega arith) e (and_parts (is_of n q) _ all).1

pub all_written : (n : ℕ) (processes : List Node) (i : ℕ) (p : Node) → are_of n processes ≡ true → is_of n p ≡ true → are_of n (set processes i p) ≡ true
all_written n [] i p all one = refl
all_written n (q ∷ processes) zero p all one = and_from (is_of n p) _ one (and_parts (is_of n q) _ all).1
all_written n (q ∷ processes) (suc i) p all one = and_from (is_of n q) _ (and_parts (is_of n q) _ all).0 (all_written n processes i p (and_parts (is_of n q) _ all).1 one)

pub all_pushed : (n : ℕ) (processes : List Node) (p : Node) → are_of n processes ≡ true → is_of n p ≡ true → are_of n (processes ++ p ∷ []) ≡ true
all_pushed n [] p all one = and_from (is_of n p) _ one refl
all_pushed n (q ∷ processes) p all one = and_from (is_of n q) _ (and_parts (is_of n q) _ all).0 (all_pushed n processes p (and_parts (is_of n q) _ all).1 one)

pub if_err : {T E P : Type 0} (r : Result T E) → P → IfErr r (λ x. P)
if_err (Ok x) p = tt
if_err (Err e) p = p

-- ---- what is sent

pub same_sent : (team : Team) (a b : Sent) (sent : List Dispatch) → b.bytes.items ≡ a.bytes.items → b.places.items ≡ a.places.items → SentStandsFor team a sent → SentStandsFor team b sent
same_sent team a b sent bytes places stands = record { spelled = rw (bytes, places) stands.spelled; fits = stands.fits }

timed_spelled : (line t : ℕ) (sends : List (ℕ × Datagram)) → map (spelled line) sends ≡ map (kept_as line) (map (sent_at t) sends)
timed_spelled line t [] = refl
timed_spelled line t (d ∷ sends) = ap (λ xs. spelled line d ∷ xs) (timed_spelled line t sends)

timed_fits : (n t : ℕ) (sends : List (ℕ × Datagram)) → AllByRecursion (IsSendable n) sends → AllByRecursion (WasSendable n) (map (sent_at t) sends)
timed_fits n t sends fits = all_mapped (WasSendable n) (sent_at t) sends fits

-- what was sent with one step more
pub next_sent : (team : Team) (a b : Sent) (past : List Step) (s : Step) (sends : List (ℕ × Datagram)) → SentStandsFor team a (world team past).sent → sends ≡ (deed_in team (world team past) s).out.sends
    → datagrams b ≡ datagrams a ++ map (spelled team.line) sends → AllByRecursion (IsSendable team.n) sends → SentStandsFor team b (world team (s ∷ past)).sent
next_sent team a b past s sends stands is kept fits =
    subst (λ (xs : List (ℕ × Datagram)). SentStandsFor team b ((world team past).sent ++ map (sent_at s.t) xs)) is (record {
      spelled = kept ∙ ap (λ xs. xs ++ map (spelled team.line) sends) stands.spelled ∙ ap (λ xs. map (kept_as team.line) (world team past).sent ++ xs) (timed_spelled team.line s.t sends)
          ∙ sym (map-append (kept_as team.line) (world team past).sent (map (sent_at s.t) sends));
      fits = all_joined (WasSendable team.n) (world team past).sent (map (sent_at s.t) sends) stands.fits (timed_fits team.n s.t sends fits);
    })

-- ---- the whole

-- the cause of a step is told by what is kept
pub world_cause : (team : Team) (past : List Step) (w : code.World) (s : Step) (p : Node) (received : Bool) → StandsFor team past w → slice_get w.processes.items s.who ≡ Some p
    → received ≡ may_receive (world team past).sent s s.act → cause_of team (world team past).sent past s ≡ kept_cause w.team.ppm w.latest received p s
world_cause team past w s p received stands at there = rw (stands.same_team, stands.latest) (cause_kept team past p s received stands.admissible (stands.each s.who p at) there)

-- a world in which all but the room is the same
pub same_world : (team : Team) (past : List Step) (v w : code.World) → IsSame v w → StandsFor team past w → StandsFor team past v
same_world team past v w same stands = record {
  same_team = same.team ∙ stands.same_team;
  steps = same.steps ∙ stands.steps;
  latest = same.latest ∙ stands.latest;
  admissible = stands.admissible;
  each = λ who p at. stands.each who p (rw same.processes at at);
  sent = same_sent team w.sent v.sent _ same.bytes same.places stands.sent;
}

-- the world after a step, by its parts
pub next_world : (team : Team) (past : List Step) (w new : code.World) (s : Step) (q : Node) → StandsFor team past w → cause_of team (world team past).sent past s ≡ None
    → NodeStandsFor team (s ∷ past) s.who q → SentStandsFor team new.sent (world team (s ∷ past)).sent
    → new.team ≡ w.team → new.steps ≡ w.steps + 1 → new.latest ≡ s.t → new.processes.items ≡ set w.processes.items s.who q
    → StandsFor team (s ∷ past) new
next_world team past w new s q stands none own sent same steps latest items = record {
  same_team = same ∙ stands.same_team;
  steps = steps ∙ ap (λ n. n + 1) stands.steps ∙ omega arith;
  latest = latest;
  admissible = (stands.admissible, none);
  each = λ i x there. written i x (after w.processes.items s.who q i x (rw items at there));
  sent = sent;
}
  where
    written : (i : ℕ) (x : Node) → After w.processes.items s.who q i x → NodeStandsFor team (s ∷ past) i x
    written i x (Written here new) = subst (λ (k : ℕ). NodeStandsFor team (s ∷ past) k x) here (subst (λ (z : Node). NodeStandsFor team (s ∷ past) s.who z) new own)
    written i x (Left other old) = next_other team past s i x other (stands.each i x old)

-- the row of a step, by what the step came to
pub next_row : (team : Team) (past : List Step) (s : Step) (number first : ℕ) (c : Option Running) (a : RowAnswer) (v : View) (out : Outputs) (entries : List Entry) → number ≡ length past + 1
    → first ≡ length (world team past).sent + 1 → IsDeed team s.h c a v out ((world team past).process_of s.who) (deed_in team (world team past) s)
    → entries ≡ entries_by entries_of s.act (deed_in team (world team past) s).process
    → row_printed (line_by number s.who a v) out first entries ≡ row_of entries_of team past s
next_row team past s number first c a v out entries n f deed shown = rw (n, f, deed.answer, deed.view, deed.out, shown) refl

-- the process stands where it was looked for
pub there : (xs : List Node) (i who : ℕ) (p : Node) → i ≡ who → who < length xs → p ≡ get_or xs i p → slice_get xs who ≡ Some p
there xs i who p same low e = found xs who p low (rw (sym same) e)

-- a process that was never started, before the first step
pub fresh_stands : (team : Team) (who : ℕ) (p : Node) → IsFresh p → NodeStandsFor team [] who p
fresh_stands team who p fresh = record { bounds = rw fresh.bounds refl; started = fresh.started; running = rw fresh.core tt; known = λ k all. tt }

pub all_get : {X : Type 0} (P : X → Type 0) (xs : List X) (i : ℕ) (x : X) → AllByRecursion P xs → slice_get xs i ≡ Some x → P x
all_get P [] i x all e = absurd (cc)
all_get P (y ∷ xs) zero x all e = let same : y ≡ x = cc in subst P same all.0
all_get P (y ∷ xs) (suc i) x all e = all_get P xs i x all.1 e

pub nothing_sent : (team : Team) (kept : Sent) → kept.places.items ≡ [] → SentStandsFor team kept []
nothing_sent team kept e = record { spelled = rw e refl; fits = tt }

-- as many datagrams are kept as were sent
pub as_many : (team : Team) (kept : Sent) (sent : List Dispatch) → SentStandsFor team kept sent → length kept.places.items ≡ length sent
as_many team kept sent stands = simp length-map at (ap length stands.spelled)
