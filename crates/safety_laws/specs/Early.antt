-- What was delivered early, and that nothing is delivered twice.
use Rattle.std.specs.Prelude.{ℕ, ◌≡◌, ◌≢◌, ◌≤◌, ◌⊎◌, Bool, true, false, List, [], ◌∷◌, ◌++◌}
use Rattle.std.specs.List.{AllByRecursion}
use Rattle.tw_machine.specs.Types.{Team, Kept, Member, UpdateId}
use Rattle.tw_types.specs.declared.outputs.How.TheVariants.{Earlier}
use Rattle.tw_types.specs.Beliefs.{is_informed, last_of}
use Rattle.tw_types.specs.Decisions.{or_none, has_seat}
use Rattle.tw_types.specs.Items.{In}
use Rattle.tw_types.specs.Process.{Process}
use Rattle.tw_types.specs.Updates.{sender}
use Rattle.tw_types.specs.Waiting.{payloads_of}
use Rattle.tw_machine.specs.History.{Line, Make}
use Rattle.tw_machine.specs.Run.{Place, AtPass, AtEarly, AtWait}
use Rattle.tw_machine.specs.SafeRows.{is_now}
use Rattle.tw_machine.specs.Standing.{member_of}
use Rattle.safety_laws.specs.Laws.{Law}
use Rattle.safety_laws.specs.Overtaken.{IsOvertaken}

-- an early delivery, from the list or of what waits
abbrev pub is_early : Place → Bool
is_early (AtPass position how) = false
is_early (AtEarly position) = true
is_early AtWait = true

-- a delivery: an early one, or a position that is passed with now
abbrev pub delivers : Place → Bool
delivers (AtPass position how) = is_now how
delivers (AtEarly position) = true
delivers AtWait = true

-- an update of this id went early at a member
pub record WentEarly (lines : List Line) (member : Member) (id : UpdateId) : Type 0 where
  pub line : Line
  pub there : In line lines
  pub member_is : line.member ≡ member
  pub early : is_early line.delivered.place ≡ true
  pub id_is : line.delivered.update.entry.id ≡ id

-- ---- marks have their lines

-- what a process has with a mark went early at it
abbrev pub IsTold : List Line → Process → Kept → Type 0
IsTold lines p k = k.early ≡ true → WentEarly lines (member_of p.identity) k.entry.id

-- of its list, and of what waits, pending or with the held decision
pub record AreTold (lines : List Line) (p : Process) : Type 0 where
  pub list : AllByRecursion (IsTold lines p) p.log.entries
  pub waiting : AllByRecursion (IsTold lines p) (payloads_of p.waiting)

-- each mark has its line
abbrev pub marks : Law
marks = record { History = λ steps w. Unit {0}; Running = λ steps w who p. AreTold w.lines p }

-- ---- a lost mark is lost for good

-- an update of this id is marked in the process's list, or as pending
abbrev pub IsMarked : Process → UpdateId → Type 0
IsMarked p id = (k : Kept) × In k (p.log.entries ++ p.waiting.pending) × (k.entry.id ≡ id) × (k.early ≡ true)

-- a list has no update of this id
abbrev pub IsAbsent : UpdateId → List Kept → Type 0
IsAbsent id list = AllByRecursion (λ (k : Kept). k.entry.id ≢ id) list

-- No made decision of a group has the update in its list; and its sender has no seat in that group, or the group is overtaken.
pub record IsLostIn (team : Team) (makes : List Make) (id : UpdateId) (c : Make) : Type 0 where
  pub absent : AllByRecursion (λ (m : Make). m.making.decision.group ≡ c.making.decision.group → IsAbsent id m.log) makes
  pub sender_out : (has_seat (sender id) c.making.decision ≡ false) ⊎ IsOvertaken team makes c

-- so it is in each made group that names the process and isn't below its last decision's
abbrev pub IsLost : Team → List Make → Process → UpdateId → Type 0
IsLost team makes p id = AllByRecursion (λ (c : Make). c.making.decision.turn ≡ 0 → (or_none (last_of p.belief)).group ≤ c.making.decision.group
    → has_seat (member_of p.identity) c.making.decision ≡ true → IsLostIn team makes id c) makes

-- what went early at an informed process in its incarnation is still marked, or lost
abbrev pub IsMarkedOrLost : Team → List Make → Process → Line → Type 0
IsMarkedOrLost team makes p x = x.member ≡ member_of p.identity → is_early x.delivered.place ≡ true →
    IsMarked p x.delivered.update.entry.id ⊎ IsLost team makes p x.delivered.update.entry.id

-- lost marks are lost for good
abbrev pub lost : Team → Law
lost team = record {
  History = λ steps w. Unit {0};
  Running = λ steps w who p. is_informed p.belief ≡ true → AllByRecursion (IsMarkedOrLost team w.makes p) w.lines;
}

-- ---- one delivery

-- two lines of one member and one update aren't both deliveries
abbrev pub NotBoth : (later earlier : Line) → Type 0
NotBoth later earlier = later.member ≡ earlier.member → later.delivered.update.entry.id ≡ earlier.delivered.update.entry.id
    → delivers later.delivered.place ≡ true → delivers earlier.delivered.place ≡ true → ⊥

-- what is passed as delivered earlier went early before
abbrev pub WentBefore : List Line → Line → Type 0
WentBefore older x = (position : ℕ) → x.delivered.place ≡ AtPass position Earlier → WentEarly older x.member x.delivered.update.entry.id

abbrev pub DeliveredOnce : List Line → Type 0
DeliveredOnce [] = Unit {0}
DeliveredOnce (x ∷ older) = AllByRecursion (NotBoth x) older × WentBefore older x × DeliveredOnce older

-- each update is delivered once
abbrev pub once : Law
once = record { History = λ steps w. DeliveredOnce w.lines; Running = λ steps w who p. Unit {0} }
