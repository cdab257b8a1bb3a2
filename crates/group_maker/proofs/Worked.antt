-- Groups that a ballot of five makes, and why it makes none, worked out by hand.
use Rattle.std.specs.Prelude.{◌≡◌, false, ℕ, ◌+◌, ◌-◌, length, ◌^◌, List, [], ◌∷◌, Option, Some, None, Result, Ok, Err, refl}
use Rattle.tw_types.specs.declared.team.Team.{Team}
use Rattle.tw_types.specs.declared.message.Member.{Member}
use Rattle.tw_types.specs.declared.message.Kind.{Kind}
use Rattle.tw_types.specs.declared.message.Kind.TheVariants.{Informed, Ready}
use Rattle.tw_types.specs.declared.message.Support.{Support}
use Rattle.tw_types.specs.declared.message.Seat.{Seat}
use Rattle.tw_types.specs.declared.message.Report.{Report}
use Rattle.tw_types.specs.declared.message.Entry.{Entry}
use Rattle.tw_types.specs.declared.message.Kept.{Kept}
use Rattle.tw_types.specs.declared.message.Order.TheVariants.{Total}
use Rattle.tw_types.specs.declared.message.Atom.TheVariants.{Weak}
use Rattle.tw_types.specs.declared.message.UpdateId.{UpdateId}
use Rattle.tw_types.specs.declared.message.Decision.{Decision}
use Rattle.tw_types.specs.Beliefs.{Log, no_log}
use Rattle.tw_types.specs.Decisions.{no_decision}
use Rattle.tw_types.specs.Groups.{NoGroup, group_made}
use Rattle.tw_types.specs.Groups.NoGroup.{TooFew, NotConsistent, Behind, Missing, Spent}

abbrev team : Team
team = record { n = 5; line = 1; ppm = 100; eps = 1000; delta = 10000; pace = 20000; decide = 10000; ring = 50000; slot = 100000; lease = 400000; quarantine = 1400000; theta = 30000 }

abbrev member : ℕ → ℕ → Member
member who incarnation = record { who = who; incarnation = incarnation }

abbrev seat : ℕ → ℕ → ℕ → Option Support → Seat
seat who incarnation next support = record { member = member who incarnation; next = next; support = support }

-- the best decision, whose group starts at the given time
abbrev last : ℕ → Decision
last start = record no_decision {
  group = 7;
  turn = 3;
  start = start;
  seats = record { items = seat 0 10 1 None ∷ seat 1 10 4 None ∷ seat 2 10 1 None ∷ seat 3 10 1 None ∷ [] };
}

abbrev report : ℕ → ℕ → Kind → ℕ → ℕ → Option ℕ → ℕ → Report
report who incarnation kind group turn support reading =
    record { member = member who incarnation; kind = kind; group = group; turn = turn; length = 0; support = support; reading = reading }

abbrev a : Report
a = report 0 10 Informed 7 2 (Some 905000) 1000000

abbrev b : Report
b = report 1 10 Informed 7 3 (Some 910000) 1000500

abbrev c : Report
c = report 2 10 Informed 7 1 (Some 900000) 1000400

abbrev d : Report
d = report 3 77 Informed 5 0 (Some 1200000) 1000300

abbrev e : Report
e = report 4 9 Ready 7 3 None 1000100

-- what process 0 makes of these reports at 1060000
abbrev made_of : ℕ → List Report → Result Decision NoGroup
made_of start reports =
    group_made team (record { number = 10; ring = None; reports = record { items = reports }; best = Some (last start); best_from = 1 }) no_log [] (member 0 10) 1060000

-- a group of these seats
abbrev first : ℕ → List Seat → Decision
first start seats = record no_decision { group = 10; turn = 0; made = 1060000; start = start; seats = record { items = seats }; maker = 0 }

abbrev own : Seat
own = seat 0 10 1 (Some (record { ack = 0; at = 1060000 }))

abbrev three : List Seat
three = own ∷ seat 1 10 4 None ∷ seat 2 10 1 None ∷ []

three_members : made_of 701001 (a ∷ b ∷ c ∷ []) ≡ Ok (first 1310001 three)
three_members = refl

-- D isn't consistent, but raises the start; and seats ascend whatever the order of arrival
inconsistent_raises_the_start : made_of 701001 (a ∷ d ∷ c ∷ b ∷ []) ≡ Ok (first 1600001 three)
inconsistent_raises_the_start = refl

ready_is_not_informed : made_of 701001 (a ∷ b ∷ e ∷ []) ≡ Err TooFew
ready_is_not_informed = refl

another_incarnation : made_of 701001 (a ∷ b ∷ d ∷ []) ≡ Err NotConsistent
another_incarnation = refl

-- the same without the owner's own report
without_the_owner : made_of 701001 (b ∷ c ∷ e ∷ report 3 10 Informed 7 0 None 0 ∷ []) ≡ Err NotConsistent
without_the_owner = refl

ready_is_seated : made_of 701001 (a ∷ b ∷ d ∷ e ∷ []) ≡ Ok (first 1600001 (own ∷ seat 1 10 4 None ∷ seat 4 9 1 None ∷ []))
ready_is_seated = refl

starts_too_late : made_of (2 ^ 61 - 1) (a ∷ b ∷ c ∷ []) ≡ Err Spent
starts_too_late = refl

starts_last : made_of (2 ^ 61 - 2) (a ∷ b ∷ c ∷ []) ≡ Ok (first (2 ^ 61 - 1) three)
starts_last = refl

-- ---- the list

abbrev id : ℕ → UpdateId
id seq = record { who = 1; incarnation = 10; seq = seq }

abbrev entry : ℕ → Entry
entry seq = record { id = id seq; order = Total; atom = Weak; stamp = 714000; late = false }

abbrev kept : ℕ → Kept
kept seq = record { entry = entry seq; early = false; payload = record { items = [] } }

-- the best decision with this part of the list
abbrev best : ℕ → List Entry → Decision
best low window = record (last 701001) { low = low; window = record { items = window } }

abbrev of_length : ℕ → Report → Report
of_length length r = record r { length = length }

-- what process 0 makes where the three report these lengths
abbrev made_with : Log → List Kept → Decision → (x y z : ℕ) → Result Decision NoGroup
made_with log payloads best x y z =
    group_made team (record { number = 10; ring = None; reports = record { items = of_length x a ∷ of_length y b ∷ of_length z c ∷ [] }; best = Some best; best_from = 1 }) log payloads (member 0 10) 1060000

-- the three members' group with this part of the list, all of which its owner has
abbrev made : ℕ → List Entry → Decision
made low window = record (first 1310001 (seat 0 10 1 (Some (record { ack = low + length window; at = 1060000 })) ∷ seat 1 10 4 None ∷ seat 2 10 1 None ∷ [])) {
  low = low;
  window = record { items = window };
}

abbrev log : ℕ → List Kept → Log
log base entries = record { base = base; entries = entries; passed = 0 }

abbrev three_entries : List Entry
three_entries = entry 1 ∷ entry 2 ∷ entry 3 ∷ []

-- the owner has one entry of three
needs_two : made_with (log 0 (kept 1 ∷ [])) (kept 3 ∷ kept 2 ∷ []) (best 0 three_entries) 1 3 3 ≡ Ok (made 1 (entry 2 ∷ entry 3 ∷ []))
needs_two = refl

without_one : made_with (log 0 (kept 1 ∷ [])) (kept 2 ∷ []) (best 0 three_entries) 1 3 3 ≡ Err (Missing (id 3))
without_one = refl

first_is_told : made_with (log 0 (kept 1 ∷ [])) [] (best 0 three_entries) 1 3 3 ≡ Err (Missing (id 2))
first_is_told = refl

shorter_than_the_owners : made_with (log 0 (kept 1 ∷ kept 2 ∷ [])) [] (best 0 (entry 1 ∷ [])) 1 1 1 ≡ Err NotConsistent
shorter_than_the_owners = refl

sixty_four_ahead : made_with (log 64 []) [] (best 64 []) 64 64 64 ≡ Ok (made 64 [])
sixty_four_ahead = refl

sixty_five_ahead : made_with (log 65 []) [] (best 65 []) 65 65 65 ≡ Err Behind
sixty_five_ahead = refl

-- what is inconsistent is told first, and then how far ahead the list is
behind_is_second : made_with (log 66 []) [] (best 65 []) 65 65 65 ≡ Err NotConsistent
behind_is_second = refl

behind_is_before_missing : made_with (log 64 []) [] (best 64 (entry 1 ∷ [])) 64 65 65 ≡ Err Behind
behind_is_before_missing = refl

-- what all members have goes from the window
all_have_all : made_with (log 0 (kept 1 ∷ kept 2 ∷ kept 3 ∷ [])) [] (best 0 three_entries) 3 3 3 ≡ Ok (made 3 [])
all_have_all = refl

one_has_less : made_with (log 0 (kept 1 ∷ kept 2 ∷ kept 3 ∷ [])) [] (best 0 three_entries) 3 3 2 ≡ Ok (made 2 (entry 3 ∷ []))
one_has_less = refl

-- ---- members of an older group

from_an_older_group : made_of 701001 (a ∷ c ∷ report 1 10 Informed 6 9 None 0 ∷ []) ≡ Ok (first 1305001 three)
from_an_older_group = refl

-- which has no seat in the best decision
stranger_of_an_older_group : made_of 701001 (a ∷ c ∷ report 4 10 Informed 6 9 None 0 ∷ []) ≡ Err NotConsistent
stranger_of_an_older_group = refl

stranger_of_the_group : made_of 701001 (a ∷ c ∷ report 4 10 Informed 7 2 None 0 ∷ []) ≡ Ok (first 1305001 (own ∷ seat 2 10 1 None ∷ seat 4 10 1 None ∷ []))
stranger_of_the_group = refl
