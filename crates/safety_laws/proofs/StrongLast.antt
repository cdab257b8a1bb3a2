-- What is passed as strong or strict and not late has its position in its group and in all greater ones, and so has what is delivered
-- early as such, which has it alone.
use Rattle.std.proofs.Common.{◌≡◌, ◌≢◌, refl, sym, ap, ◌∙◌, ℕ, suc, ◌+◌, ◌/◌, ◌≤◌, Bool, true, false, cond, ◌&&◌, List, [], ◌∷◌, length, Option, Some, None, slice_get, count_by, arith}
use Rattle.std.specs.List.{list_all}
use Rattle.std.proofs.lemmas.Bool.Decides.{nat_tests}
use Rattle.std.proofs.lemmas.List.{length-map}
use Rattle.std.proofs.lemmas.List.Sums.{sum_by-cons}
use Rattle.tw_machine.specs.Types.{Atom, Kept, Seat, Support, Step, Team}
use Rattle.tw_types.specs.declared.message.Atom.TheVariants.{Weak, Strong, Strict}
use Rattle.tw_types.specs.declared.outputs.How.TheVariants.{Late}
use Rattle.tw_types.specs.Deliveries.{fulfils, reaches}
use Rattle.tw_types.specs.Items.{In}
use Rattle.tw_types.specs.Printed.{update_printed}
use Rattle.tw_types.specs.Row.{Pass, Row, Update}
use Rattle.tw_types.specs.Team.{IsSound}
use Rattle.tw_types.specs.Updates.{is_weak}
use Rattle.tw_machine.specs.Applied.{Meaning}
use Rattle.tw_machine.specs.History.{Promised, Line, Make, history}
use Rattle.tw_machine.specs.Rows.{rows_of}
use Rattle.tw_machine.specs.Run.{Place, AtPass, AtEarly, AtWait}
use Rattle.tw_machine.specs.SafeRows.{StrongLast}
use Rattle.tw_machine.specs.World.{Admissible}
use Rattle.safety_laws.specs.Acknowledged.{has_acked}
use Rattle.safety_laws.specs.Acknowledged as acknowledged
use Rattle.safety_laws.specs.Beginnings.{unmarked}
use Rattle.safety_laws.specs.Delivered.{HasAt, IsBacked}
use Rattle.safety_laws.specs.Early.{is_early}
use Rattle.safety_laws.specs.Effects.{written}
use Rattle.safety_laws.specs.Groups.{OfGroups}
use Rattle.safety_laws.specs.Lists.{GoByOne, IsListOf, AreLists}
use Rattle.safety_laws.specs.Made.{AllArise}
use Rattle.safety_laws.proofs.Begun.{have_lists}
use Rattle.safety_laws.proofs.DeliveryLaws.{with_delivered, delivered_well}
use Rattle.safety_laws.proofs.Groups.{are_majority}
use Rattle.safety_laws.proofs.LinesOfRows.{IsEarlyOf, pass_told, early_told}
use Rattle.safety_laws.proofs.Lists.{of_each}
use Rattle.safety_laws.proofs.ListsAt.{agree_at}
use Rattle.safety_laws.proofs.PassesAgree.{HasPass, has_pass}
use Rattle.safety_laws.proofs.Positions.{KeepsAt, keeps_at, same_kept, kept_position}
use Rattle.safety_laws.proofs.Stack.{Kept as Holding}
use Rattle.safety_laws.proofs.Supported.{count_weaker}

-- ---- what is fulfilled is acknowledged

-- who reaches beyond a position has acknowledged it
acked_beyond : (i : ℕ) (o : Option Support) → reaches i o ≡ acknowledged.reaches (suc i) o
acked_beyond i None = refl
acked_beyond i (Some support) = refl

count_beyond : (i : ℕ) (seats : List Seat) → count_by (λ (s : Seat). reaches i s.support) seats ≤ count_by (has_acked (suc i)) seats
count_beyond i seats = count_weaker (λ (s : Seat). reaches i s.support) (has_acked (suc i)) seats (λ s e. sym (acked_beyond i s.support) ∙ e)

-- where each passes they are all
count_all : (test : Seat → Bool) (seats : List Seat) → list_all test seats ≡ true → count_by test seats ≡ length seats
count_all test [] all = refl
count_all test (s ∷ seats) all = sum_by-cons (λ (x : Seat). cond (test x) 1 0) s seats ∙ go (test s) all (count_all test seats)
  where
    go : (b : Bool) → (b && list_all test seats) ≡ true → (list_all test seats ≡ true → count_by test seats ≡ length seats) → cond b 1 0 + count_by test seats ≡ suc (length seats)
    go true e rest = let more = rest e in omega (arith, more)
    go false e rest = absurd (cc)

-- What a made decision fulfils as strong or strict a majority of the team acknowledged.
fulfilled_acked : (team : Team) (promises : List Promised) (makes : List Make) → AllArise team promises makes → (m : Make) → In m makes → (i : ℕ) (atom : Atom) → atom ≢ Weak
    → fulfils team m.making.decision i atom ≡ true → team.n / 2 + 1 ≤ count_by (has_acked (suc i)) m.making.decision.seats.items
fulfilled_acked team promises makes arise m among i Weak strong fulfilled = absurd (strong refl)
fulfilled_acked team promises makes arise m among i Strong strong fulfilled =
    let many : team.n / 2 + 1 ≤ count_by (λ (s : Seat). reaches i s.support) m.making.decision.seats.items = search (arith, nat_tests) in
    let same = count_beyond i m.making.decision.seats.items in
    omega (arith, many, same)
fulfilled_acked team promises makes arise m among i Strict strong fulfilled =
    let many = (are_majority team promises makes arise m among).enough in
    let seats = length-map m.making.decision.seats.items (λ (s : Seat). s.member.who) in
    let every = count_all (λ (s : Seat). reaches i s.support) m.making.decision.seats.items fulfilled in
    let same = count_beyond i m.making.decision.seats.items in
    omega (arith, many, seats, every, same)

-- ---- what lasts

-- The list of a made decision of a group has an update at a position, which a majority of the team acknowledged.
record Lasts (team : Team) (makes : List Make) (group position : ℕ) (update : Update) : Type 0 where
  make : Make
  made : In make makes
  group_is : make.making.decision.group ≡ group
  there : Kept
  at : slice_get make.log position ≡ Some there
  printed : update ≡ update_printed there
  enough : team.n / 2 + 1 ≤ count_by (has_acked (suc position)) make.making.decision.seats.items

-- The list of a made decision of a row's group has what the row passes.
record PassesOf (makes : List Make) (group : ℕ) (p : Pass) : Type 0 where
  make : Make
  made : In make makes
  group_is : make.making.decision.group ≡ group
  has : HasPass make.log p

module _ {Content : Type 0} (meaning : Meaning Content) (team : Team) (past : List Step) (sound : IsSound team) (ok : Admissible team past) where
  -- what is known
  all : Holding team (with_delivered team) past
  all = delivered_well team past sound ok

  -- of groups
  groups : OfGroups team past (written team past)
  groups = all.history.0.0.0.0.0.0

  -- and of their lists
  lists : AreLists (history team past).makes
  lists = all.history.0.0.1

  -- all makes and rows
  abbrev makes : List Make
  makes = (history team past).makes

  abbrev rows : List Row
  rows = rows_of meaning team past

  -- each line is backed
  backed : (x : Line) → In x (history team past).lines → IsBacked team makes x
  backed x i = of_each (IsBacked team makes) (history team past).lines x all.history.1.backed i

  -- ---- what rows print

  -- each pass of a row stands in a list of its group
  passes_of : (i : ℕ) (r : Row) → slice_get rows i ≡ Some r → (k : ℕ) (p : Pass) → slice_get r.passes k ≡ Some p → PassesOf makes r.group p
  passes_of i r at k p at' =
      let x = pass_told meaning team past sound ok i r at k p at' in
      let b = backed x.0 x.1 in
      let told = b.passed p.position p.how x.2.place in
      record {
        make = b.make;
        made = b.made;
        group_is = b.group ∙ x.2.group;
        has = has_pass b.make.log r p x.0 x.2 told.0 told.1;
      }

  -- what a line's decision fulfils, and isn't weak, lasts
  fulfilled_lasts : (x : Line) (b : IsBacked team makes x) (group position : ℕ) (u : Update) → x.delivered.group ≡ group → u ≡ update_printed x.delivered.update → u.atom ≢ Weak → HasAt b.make position x.delivered.update
      → fulfils team b.make.making.decision position x.delivered.update.entry.atom ≡ true → Lasts team makes group position u
  fulfilled_lasts x b group position u of_group printed strong at fulfilled = record {
    make = b.make;
    made = b.made;
    group_is = b.group ∙ of_group;
    there = unmarked x.delivered.update;
    at = at;
    printed = printed;
    enough = fulfilled_acked team (history team past).promises makes groups.makes.arise b.make b.made position x.delivered.update.entry.atom (λ e. strong (ap (λ (z : Update). z.atom) printed ∙ e)) fulfilled;
  }

  -- so does a pass that is neither weak nor late,
  pass_lasts : (i : ℕ) (r : Row) → slice_get rows i ≡ Some r → (k : ℕ) (p : Pass) → slice_get r.passes k ≡ Some p → p.how ≢ Late → p.update.atom ≢ Weak → Lasts team makes r.group p.position p.update
  pass_lasts i r at k p at' now strong =
      let x = pass_told meaning team past sound ok i r at k p at' in
      let b = backed x.0 x.1 in
      let told = b.passed p.position p.how x.2.place in
      fulfilled_lasts x.0 b r.group p.position p.update x.2.group (sym x.2.update) strong told.0 (told.2 now)

  -- and an early one that isn't weak, which is of the list
  early_lasts : (i : ℕ) (r : Row) → slice_get rows i ≡ Some r → (k : ℕ) (u : Update) → slice_get r.earlies k ≡ Some u → u.atom ≢ Weak → (position : ℕ) × Lasts team makes r.group position u
  early_lasts i r at k u at' strong = by x.0.delivered.place refl x.2.place
    where
      x : (x : Line) × In x (history team past).lines × IsEarlyOf r u x
      x = early_told meaning team past sound ok i r at k u at'

      b : IsBacked team makes x.0
      b = backed x.0 x.1

      weak_is : (atom : Atom) → is_weak atom ≡ true → atom ≡ Weak
      weak_is Weak e = refl
      weak_is Strong e = absurd (cc)
      weak_is Strict e = absurd (cc)

      by : (place : Place) → x.0.delivered.place ≡ place → is_early place ≡ true → (position : ℕ) × Lasts team makes r.group position u
      by (AtPass position how) is e = absurd (cc)
      by (AtEarly position) is e = let told = b.early position is in (position, fulfilled_lasts x.0 b r.group position u x.2.group (sym x.2.update) strong told.0 told.2)
      by AtWait is e = absurd (strong (ap (λ (z : Update). z.atom) (sym x.2.update) ∙ weak_is x.0.delivered.update.entry.atom (b.waited is).1))

  -- ---- what lasts, and a pass in its group or a greater one

  -- the list of such a pass keeps it
  keeps : (group position : ℕ) (u : Update) (later : ℕ) (q : Pass) → (k : Lasts team makes group position u) → (b : PassesOf makes later q) → group ≤ later → KeepsAt k.make.log position k.there b.make.log
  keeps group position u later q k b low =
      keeps_at team (history team past).promises makes (have_lists team past (written team past) groups lists) (agree_at team past (written team past) groups) lists.whole k.make b.make position k.there k.made b.made k.at k.enough
      (let one = k.group_is in let two = b.group_is in omega (arith, low, one, two))

  -- no list has an id twice
  by_one : (m : Make) → In m makes → GoByOne m.log
  by_one m i = (of_each IsListOf makes m lists.whole i).by_one

  -- such a pass at its position tells it,
  tells_it : (group position : ℕ) (u : Update) (later : ℕ) (q : Pass) → Lasts team makes group position u → PassesOf makes later q → group ≤ later → q.position ≡ position → q.update ≡ u
  tells_it group position u later q k b low same =
      b.has.update
      ∙ ap update_printed (same_kept k.make.log b.make.log position k.there b.has.there (keeps group position u later q k b low) k.at (ap (slice_get b.make.log) (sym same) ∙ b.has.at))
      ∙ sym k.printed

  -- and one of its id is at its position
  at_its_place : (group position : ℕ) (u : Update) (later : ℕ) (q : Pass) → Lasts team makes group position u → PassesOf makes later q → group ≤ later → q.update.id ≡ u.id → q.position ≡ position
  at_its_place group position u later q k b low same =
      let id : b.has.there.entry.id ≡ k.there.entry.id = ap (λ (z : Update). z.id) (sym b.has.update) ∙ same ∙ ap (λ (z : Update). z.id) k.printed in
      kept_position k.make.log b.make.log position q.position k.there b.has.there (keeps group position u later q k b low) (by_one k.make k.made) (by_one b.make b.made) k.at b.has.at id

  -- Strong deliveries last.
  pub strong_last : StrongLast (rows_of meaning team past)
  strong_last = record {
    passed = λ i r at k p at' now strong j s there low n q here same.
        tells_it r.group p.position p.update s.group q (pass_lasts i r at k p at' now strong) (passes_of j s there n q here) low same;
    early = λ i r at k u at' strong j s there low n p here mine j' s' there' low' n' q here'.
        let lasting = early_lasts i r at k u at' strong in
        let place = at_its_place r.group lasting.0 u s.group p lasting.1 (passes_of j s there n p here) low mine in
        let other = passes_of j' s' there' n' q here' in (
          λ e. at_its_place r.group lasting.0 u s'.group q lasting.1 other low' e ∙ sym place,
          λ e. ap (λ (z : Update). z.id) (tells_it r.group lasting.0 u s'.group q lasting.1 other low' (e ∙ place)),
        );
  }
