-- A schedule in which three updates are sent and ordered: two of process 1, and one of process 0 that has the number of one of these. What
-- the laws on sends speak of, computed on it: which updates were sent, which decisions appended them, and whose supports they stand on.
-- So the premises of these laws are met, and what they say of is there.
use Rattle.std.proofs.Common.{◌≡◌, ◌≢◌, refl, sym, ap, subst, ◌∙◌, inl, inr, ℕ, ◌+◌, ◌/◌, ◌==◌, nat_le, Bool, true, false, not, ◌&&◌, ◌||◌, List, [], ◌∷◌, ◌++◌, map, drop, count_by, Option, Some, None, is_some, arith}
use Rattle.std.proofs.lemmas.Bool.Decides.{nat_tests}
use Rattle.std.specs.List.{AllByRecursion, list_all, list_any}
use Rattle.std.specs.Option.{option_map}
use Rattle.tw_types.specs.declared.message.Order.TheVariants as orders
use Rattle.tw_types.specs.declared.message.Atom.TheVariants as atoms
use Rattle.tw_machine.specs.Types.{UpdateId, Entry, Kept, Decision, Seat, Support, Act, Step}
use Rattle.tw_types.specs.declared.step.Act.TheVariants.{Tick, Recv, Send}
use Rattle.tw_types.specs.Appending.{appended_list, appended_kept}
use Rattle.tw_types.specs.Beliefs.{log_length}
use Rattle.tw_types.specs.Decisions.{or_none, has_seat}
use Rattle.tw_types.specs.Deliveries.{run_passed, earlies_marked}
use Rattle.tw_types.specs.Examples.{team_a}
use Rattle.tw_types.specs.Flag.{is_up}
use Rattle.tw_types.specs.Process.{Process}
use Rattle.tw_types.specs.Team.{IsSound}
use Rattle.tw_machine.specs.Duties.{timed_duties, duties}
use Rattle.tw_machine.specs.History.{Make, SentUpdate, history}
use Rattle.tw_machine.specs.Rules.{kind_rule}
use Rattle.tw_machine.specs.Step.{step}
use Rattle.tw_machine.specs.World.{world, Admissible}
use Rattle.safety_laws.specs.Groups.{HasMajority}
use Rattle.tw_types.specs.Items.{In}
use Rattle.safety_laws.specs.Made.{WasMade}
use Rattle.safety_laws.specs.Sends.{AllSentOnce}
use Rattle.safety_laws.specs.Supported.{IsSentInSupported, IsAppendedInSupported}
use Rattle.safety_laws.proofs.Lists.{of_each, each_weaker, each_passes}
use Rattle.safety_laws.proofs.NextDecisions.{any_in}
use Rattle.safety_laws.proofs.Worked.{at, formed}

abbrev says : ℕ → Act
says byte = Send orders.Total atoms.Weak (record { items = byte ∷ [] })

abbrev pub ordered : List Step
ordered =
    at 732000 1 732000 Tick
    ∷ at 723000 1 723000 (Recv 21)
    ∷ at 722000 0 722000 Tick
    ∷ at 715000 1 715000 (Recv 19)
    ∷ at 714000 0 714000 (says 99)
    ∷ at 714000 1 714000 (says 98)
    ∷ at 714000 1 714000 (says 97)
    ∷ at 713000 0 713000 (Recv 13)
    ∷ formed

abbrev id : (who seq : ℕ) → UpdateId
id who seq = record { who = who; incarnation = 699990; seq = seq }

abbrev pub entry : (who seq : ℕ) → Entry
entry who seq = record { id = id who seq; order = orders.Total; atom = atoms.Weak; stamp = 714000; late = false }

-- an update of this process, number and byte, stamped with its reading at its send
abbrev pub update : (who seq byte : ℕ) → Kept
update who seq byte = record {
  entry = entry who seq;
  early = false;
  payload = record { items = byte ∷ [] };
}

-- its send, in the first life of its process and in group 7
abbrev send : (who seq byte : ℕ) → SentUpdate
send who seq byte = record { who = who; member = record { who = who; incarnation = 699990 }; life = 1; t = 714000; h = 714000; sending = record { group = 7; update = update who seq byte } }

-- the team and the schedule are such as the laws speak of
pub sound : IsSound team_a
sound = record {
  at_least_three = omega arith;
  at_most_fifteen = omega arith;
  drift = omega arith;
  eps = omega arith;
  slot = omega arith;
  delta = omega arith;
  pace = omega arith;
  decide = omega arith;
  ring = omega arith;
  lease = omega arith;
  quarantine = omega arith;
  eps_range = omega arith;
  delta_range = omega arith;
  pace_range = omega arith;
  decide_range = omega arith;
  ring_range = omega arith;
  slot_range = omega arith;
  lease_range = omega arith;
  quarantine_range = omega arith;
  theta_range = omega arith;
}

admissible : Admissible team_a ordered
unfolding is_up step kind_rule timed_duties duties appended_list appended_kept run_passed earlies_marked
admissible = ((((((((((((((((((((((tt, refl), refl), refl), refl), refl), refl), refl), refl), refl), refl), refl), refl), refl), refl), refl), refl), refl), refl), refl), refl), refl), refl)

-- the newest first
sent : (history team_a ordered).sends ≡ send 0 1 99 ∷ send 1 2 98 ∷ send 1 1 97 ∷ []
unfolding is_up step kind_rule timed_duties duties appended_list appended_kept run_passed earlies_marked
sent = refl

-- ---- decisions

abbrev pub seat : (who next : ℕ) → Option Support → Seat
seat who next support = record { member = record { who = who; incarnation = 699990 }; next = next; support = support }

abbrev pub of_length : (length at : ℕ) → Option Support
of_length length at = Some (record { ack = length; at = at })

-- one of group 7, made at this reading
abbrev decision : (turn made maker : ℕ) → List Seat → List Entry → Decision
decision turn made maker seats entries = record {
  group = 7;
  turn = turn;
  made = made;
  start = 701001;
  low = 0;
  mark = record { stamp = 0; who = 0; seq = 0 };
  seats = record { items = seats };
  maker = maker;
  window = record { items = entries };
}

-- That of turn 1 is the first one with supports of two of three; that of turn 2 has an update of process 0, and that of turn 3 two more.
abbrev pub turn_0 : Decision
turn_0 = decision 0 702000 1 (seat 0 1 None ∷ seat 1 1 (of_length 0 702000) ∷ seat 2 1 None ∷ []) []

abbrev pub turn_1 : Decision
turn_1 = decision 1 712000 2 (seat 0 1 None ∷ seat 1 1 (of_length 0 702000) ∷ seat 2 1 (of_length 0 712000) ∷ []) []

abbrev pub turn_2 : Decision
turn_2 = decision 2 722000 0 (seat 0 2 (of_length 1 722000) ∷ seat 1 1 (of_length 0 702000) ∷ seat 2 1 (of_length 0 712000) ∷ []) (entry 0 1 ∷ [])

abbrev pub turn_3 : Decision
turn_3 = decision 3 732000 1 (seat 0 2 (of_length 1 722000) ∷ seat 1 3 (of_length 3 732000) ∷ seat 2 1 (of_length 0 712000) ∷ []) (entry 0 1 ∷ entry 1 1 ∷ entry 1 2 ∷ [])

-- these are made
decided : map (λ (m : Make). m.making.decision) (history team_a ordered).makes ≡ turn_3 ∷ turn_2 ∷ turn_1 ∷ turn_0 ∷ []
unfolding is_up step kind_rule timed_duties duties appended_list appended_kept run_passed earlies_marked
decided = refl

-- and each stands on the one before
stands_on : map (λ (m : Make). m.making.before) (history team_a ordered).makes ≡ Some turn_2 ∷ Some turn_1 ∷ Some turn_0 ∷ None ∷ []
unfolding is_up step kind_rule timed_duties duties appended_list appended_kept run_passed earlies_marked
stands_on = refl

-- process 0 appended its own update, and process 1 its two
appends : map (λ (m : Make). m.making.appended) (history team_a ordered).makes ≡ (update 1 1 97 ∷ update 1 2 98 ∷ []) ∷ (update 0 1 99 ∷ []) ∷ [] ∷ [] ∷ []
unfolding is_up step kind_rule timed_duties duties appended_list appended_kept run_passed earlies_marked
appends = refl

-- the whole lists
lists : map (λ (m : Make). m.log) (history team_a ordered).makes ≡ (update 0 1 99 ∷ update 1 1 97 ∷ update 1 2 98 ∷ []) ∷ (update 0 1 99 ∷ []) ∷ [] ∷ [] ∷ []
unfolding is_up step kind_rule timed_duties duties appended_list appended_kept run_passed earlies_marked
lists = refl

-- Total and weak ones pass where a decision's list has them, at a process that is up: 0 passed the one of turn 2 as it made that, and 1
-- all three as it made turn 3. 2 has none of them in its list.
passed : map (λ (who : ℕ). option_map {U = ℕ × ℕ} (λ (p : Process). (p.log.passed, log_length p.log)) ((world team_a ordered).process_of who)) (0 ∷ 1 ∷ 2 ∷ []) ≡ Some (1, 1) ∷ Some (3, 3) ∷ Some (0, 0) ∷ []
unfolding is_up step kind_rule timed_duties duties appended_list appended_kept run_passed earlies_marked
passed = refl

-- ---- ids

-- those of two processes, or of two numbers, are two
other_sender : (a b : UpdateId) → a.who ≢ b.who → a ≢ b
other_sender a b apart e = apart (ap (λ (id : UpdateId). id.who) e)

other_number : (a b : UpdateId) → a.seq ≢ b.seq → a ≢ b
other_number a b apart e = apart (ap (λ (id : UpdateId). id.seq) e)

-- so the three updates have three ids
once : AllSentOnce (history team_a ordered).sends
once = subst AllSentOnce (sym sent) ((other_sender (id 1 2) (id 0 1) (λ e. cc), (other_sender (id 1 1) (id 0 1) (λ e. cc), tt)), ((other_number (id 1 1) (id 1 2) (λ e. cc), tt), (tt, tt)))

-- a second send of an id is refused
not_twice : AllSentOnce (send 1 1 97 ∷ send 1 1 98 ∷ []) → ⊥
not_twice all = all.0.0 refl

-- ---- supported groups

abbrev has_majority : Decision → Bool
has_majority d = nat_le (team_a.n / 2 + 1) (count_by (λ (s : Seat). is_some s.support) d.seats.items)

-- one support of three is none of a majority, and two are
one_support : has_majority turn_0 ≡ false
one_support = refl

two_supports : has_majority turn_1 ≡ true
two_supports = refl

-- a made decision of a send's group seats its sender, and has supports of a majority
abbrev supports_send : SentUpdate → Make → Bool
supports_send z m = (m.making.decision.group == z.sending.group) && (has_seat z.member m.making.decision && has_majority m.making.decision)

-- so it is of each send
each_supported : list_all (λ z. list_any (supports_send z) (history team_a ordered).makes) (history team_a ordered).sends ≡ true
unfolding is_up step kind_rule timed_duties duties appended_list appended_kept run_passed earlies_marked
each_supported = refl

-- and what the test says is what the law says
supported_by : (makes : List Make) (z : SentUpdate) → list_any (supports_send z) makes ≡ true → IsSentInSupported team_a makes z
supported_by makes z e =
    let some = any_in (supports_send z) makes e in
    let test : supports_send z some.0 ≡ true = some.2 in
    (some.0, some.1, record { group_is = grind (arith, nat_tests); seat = grind (arith, nat_tests); majority = grind (arith, nat_tests) })

-- each update was sent in a supported group
supported : AllByRecursion (IsSentInSupported team_a (history team_a ordered).makes) (history team_a ordered).sends
supported =
    let makes = (history team_a ordered).makes in
    let sends = (history team_a ordered).sends in
    each_weaker (λ z. list_any (supports_send z) makes ≡ true) (IsSentInSupported team_a makes) sends (supported_by makes) (each_passes (λ z. list_any (supports_send z) makes) sends each_supported)

-- each decision stands on the one that was made before it, and the first on none
abbrev IsChain : List Make → Type 0
IsChain makes = map (λ (m : Make). m.making.before) makes ≡ map Some (drop 1 (map (λ (m : Make). m.making.decision) makes)) ++ None ∷ []

chain : IsChain (history team_a ordered).makes
chain = stands_on ∙ sym (ap (λ (ds : List Decision). map Some (drop 1 ds) ++ None ∷ []) decided)

-- so what a make stands on was made
chained : (makes : List Make) → IsChain makes → (m : Make) → In m makes → (last : Decision) → m.making.before ≡ Some last → WasMade makes last
chained [] e m i last is = absurd i
chained (x ∷ []) e m (inl same) last is = absurd (let none : x.making.before ≡ None = cc in let some : x.making.before ≡ Some last = subst (λ (k : Make). k.making.before ≡ Some last) same is in cc)
chained (x ∷ []) e m (inr i) last is = absurd i
chained (x ∷ y ∷ older) e m (inl same) last is =
    (y, inr (inl refl), (let on : x.making.before ≡ Some y.making.decision = cc in let some : x.making.before ≡ Some last = subst (λ (k : Make). k.making.before ≡ Some last) same is in cc))
chained (x ∷ y ∷ older) e m (inr i) last is = let k = chained (y ∷ older) (cc) m i last is in (k.0, inr k.1, k.2)

-- whether a make stands on a decision with supports of a majority, or appends nothing
abbrev is_none : List Kept → Bool
is_none [] = true
is_none (k ∷ more) = false

abbrev is_backed : Make → Bool
is_backed m = is_none m.making.appended || has_majority (or_none m.making.before)

each_backed : list_all is_backed (history team_a ordered).makes ≡ true
unfolding is_up step kind_rule timed_duties duties appended_list appended_kept run_passed earlies_marked
each_backed = refl

-- and what that test says, with that, is what the law says
backed_by : (makes : List Make) (m : Make) → is_backed m ≡ true → ((last : Decision) → m.making.before ≡ Some last → WasMade makes last) → IsAppendedInSupported team_a makes m
backed_by makes m e made some = go m.making.appended m.making.before refl refl
  where
    go : (appended : List Kept) (before : Option Decision) → m.making.appended ≡ appended → m.making.before ≡ before → (last : Decision) × (m.making.before ≡ Some last) × WasMade makes last × HasMajority team_a last
    go [] before none is = absurd (some none)
    go (k ∷ more) None has is = absurd (let test : (is_none m.making.appended || has_majority (or_none m.making.before)) ≡ true = e in let no : false ≡ true = rw (has, is) at test in cc)
    go (k ∷ more) (Some last) has is =
        let test : (is_none m.making.appended || has_majority (or_none m.making.before)) ≡ true = e in
        let majority : has_majority last ≡ true = rw (has, is) at test in
        (last, is, made last is, grind (arith, nat_tests))

any_appends : list_any (λ (m : Make). not (is_none m.making.appended)) (history team_a ordered).makes ≡ true
unfolding is_up step kind_rule timed_duties duties appended_list appended_kept run_passed earlies_marked
any_appends = refl

-- there are makes with appended entries
some_append : (m : Make) × In m (history team_a ordered).makes × (not (is_none m.making.appended) ≡ true)
some_append = any_in (λ m. not (is_none m.making.appended)) (history team_a ordered).makes any_appends

-- each make with appended entries stands on a made decision with supports of a majority
appended : (m : Make) → In m (history team_a ordered).makes → IsAppendedInSupported team_a (history team_a ordered).makes m
appended m i =
    let makes = (history team_a ordered).makes in
    backed_by makes m (of_each (λ k. is_backed k ≡ true) makes m (each_passes is_backed makes each_backed) i) (chained makes chain m i)
