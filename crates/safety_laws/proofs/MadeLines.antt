-- What the `made` lines of rows tell of groups, where the rows print just the makes of a list in which each pair is made once.
use Rattle.std.proofs.Common.{◌≡◌, ◌≢◌, refl, sym, ap, ◌∙◌, ℕ, ◌≤◌, ◌==◌, true, false, List, [], Option, Some, None, arith}
use Rattle.std.specs.Prelude.{nat_le}
use Rattle.std.specs.List.{filter_map}
use Rattle.std.specs.Option.{unwrap_or, option_map}
use Rattle.std.proofs.lemmas.Bool.Decides.{nat_tests}
use Rattle.std.proofs.lemmas.Option.{same_Some}
use Rattle.tw_machine.specs.Types.{Decision, Step, Team}
use Rattle.tw_types.specs.Printed.{made_printed}
use Rattle.tw_types.specs.Row.{Row, Made}
use Rattle.tw_machine.specs.Applied.{Meaning}
use Rattle.tw_machine.specs.History.{Promised, Make, history}
use Rattle.tw_machine.specs.Places.{Each, Exists}
use Rattle.tw_machine.specs.Rows.{rows_of}
use Rattle.tw_machine.specs.Started.{makings, making_of, members_of, has_started, started_at}
use Rattle.tw_machine.specs.World.{Admissible}
use Rattle.tw_machine.proofs.Started.{started_is_greatest, none_has_started}
use Rattle.tw_types.specs.Items.{In}
use Rattle.tw_types.proofs.Appended.{in_filter, of_filter}
use Rattle.safety_laws.specs.Made.{WasMade, AllArise, members, Begins}
use Rattle.safety_laws.specs.Once.{AllOnce}
use Rattle.safety_laws.specs.Seen.{IsMadeLineOf}
use Rattle.safety_laws.proofs.Lists.{found_in, finds, of_filter_map, in_filter_map}
use Rattle.safety_laws.proofs.Places.{at_in, place_of}
use Rattle.safety_laws.proofs.Turns.{once_same, first_of_made}
use Rattle.safety_laws.proofs.Seen.{made_lines_seen, makes_printed}

-- ---- the lines

-- the rows print just these makes
pub record ArePrinted (rows : List Row) (makes : List Make) : Type 0 where
  pub each_line : Each rows (λ i r. r.made ≢ None → (k : Make) × In k makes × IsMadeLineOf r k)
  pub each_make : (k : Make) → In k makes → Exists rows (λ i r. IsMadeLineOf r k)

pub are_printed : {Content : Type 0} (meaning : Meaning Content) (team : Team) (past : List Step) → Admissible team past → ArePrinted (rows_of meaning team past) (history team past).makes
are_printed meaning team past ok = record { each_line = made_lines_seen meaning team past ok; each_make = makes_printed meaning team past ok }

module _ (rows : List Row) (makes : List Make) (printed : ArePrinted rows makes) where
  -- a line that makes a group is that of a make that begins it
  line_is_make : (line : Made) → In line (makings rows) → (k : Make) × In k makes × (line ≡ made_printed k.making.decision) × (k.making.decision.turn ≡ 0)
  line_is_make line i =
      let two = of_filter (λ (m : Made). m.turn == 0) (filter_map (λ (r : Row). r.made) rows) line i in
      let row = of_filter_map (λ (r : Row). r.made) rows line two.0 in
      let at = place_of rows row.0 row.1 in
      let has : row.0.made ≢ None = λ e. (let no : Some line ≡ None = sym row.2 ∙ e in cc) in
      let k = printed.each_line at.0 row.0 at.1 has in
      let same : line ≡ made_printed k.0.making.decision = same_Some line (made_printed k.0.making.decision) (sym row.2 ∙ k.2.line) in
      let zero_turn : line.turn ≡ 0 = (let test = two.1 in grind (arith, nat_tests)) in
      (k.0, k.1, same, sym (ap (λ (m : Made). m.turn) same) ∙ zero_turn)

  make_is_line : (k : Make) → In k makes → k.making.decision.turn ≡ 0 → In (made_printed k.making.decision) (makings rows)
  make_is_line k i first =
      let row = printed.each_make k i in
      in_filter (λ (m : Made). m.turn == 0) (filter_map (λ (r : Row). r.made) rows) (made_printed k.making.decision) (in_filter_map (λ (r : Row). r.made) rows row.1 (made_printed k.making.decision) (at_in rows row.0 row.1 row.2) row.3.line) (grind (arith, nat_tests))

  -- The line that makes a group is of a make that begins it.
  make_of_line : (group : ℕ) (line : Made) → making_of rows group ≡ Some line → (k : Make) × In k makes × Begins group k × (line ≡ made_printed k.making.decision)
  make_of_line group line e =
      let two = found_in (λ (m : Made). m.group == group) (makings rows) line e in
      let k = line_is_make line two.0 in
      let same : line.group ≡ group = (let test = two.1 in grind (arith, nat_tests)) in
      (k.0, k.1, record { group_is = sym (ap (λ (m : Made). m.group) k.2) ∙ same; turn = k.3 }, k.2)

  -- And the line of such a make is the one that makes the group, where each pair is made once.
  line_of_make : AllOnce makes → (group : ℕ) (k : Make) → In k makes → Begins group k → making_of rows group ≡ Some (made_printed k.making.decision)
  line_of_make once group k i begins =
      let test : ((made_printed k.making.decision).group == group) ≡ true = (let same = begins.group_is in grind (arith, nat_tests)) in
      let line = finds (λ (m : Made). m.group == group) (makings rows) (made_printed k.making.decision) (make_is_line k i begins.turn) test in
      let other = make_of_line group line.0 line.1 in
      let same : other.0 ≡ k = once_same makes once other.0 k other.1 i (other.2.group_is ∙ sym begins.group_is, other.2.turn ∙ sym begins.turn) in
      line.1 ∙ ap Some (other.3 ∙ ap (λ (m : Make). made_printed m.making.decision) same)

  members_of_make : AllOnce makes → (group : ℕ) (k : Make) → In k makes → Begins group k → members_of rows group ≡ members k.making.decision
  members_of_make once group k i begins = ap (λ (o : Option Made). unwrap_or (option_map (λ (m : Made). m.members) o) []) (line_of_make once group k i begins)

  start_of_make : AllOnce makes → (group reading : ℕ) (k : Make) → In k makes → Begins group k → has_started rows reading group ≡ nat_le k.making.decision.start reading
  start_of_make once group reading k i begins = ap (λ (o : Option Made). unwrap_or (option_map (λ (m : Made). nat_le m.start reading) o) false) (line_of_make once group k i begins)

  -- a group that has started has a make that begins it, with its start
  make_of_started : (group reading : ℕ) → has_started rows reading group ≡ true → (k : Make) × In k makes × Begins group k × (k.making.decision.start ≤ reading)
  make_of_started group reading e = go (making_of rows group) refl e
    where
      go : (o : Option Made) → making_of rows group ≡ o → unwrap_or (option_map (λ (m : Made). nat_le m.start reading) o) false ≡ true → (k : Make) × In k makes × Begins group k × (k.making.decision.start ≤ reading)
      go None is e = absurd (cc)
      go (Some line) is e =
          let k = make_of_line group line is in
          let same : line.start ≡ k.0.making.decision.start = ap (λ (m : Made). m.start) k.3 in
          (k.0, k.1, k.2, grind (arith, nat_tests))

  -- A group that has started, and above which none has, is the started one.
  started_is : AllOnce makes → (group reading : ℕ) (k : Make) → In k makes → Begins group k → k.making.decision.start ≤ reading
      → ((j : Make) → In j makes → j.making.decision.turn ≡ 0 → j.making.decision.start ≤ reading → j.making.decision.group ≤ group)
      → started_at rows reading ≡ Some group
  started_is once group reading k i begins low above = go (started_at rows reading) refl
    where
      has : has_started rows reading group ≡ true
      has = start_of_make once group reading k i begins ∙ grind (arith, nat_tests)

      go : (o : Option ℕ) → started_at rows reading ≡ o → o ≡ Some group
      go None e = absurd (none_has_started rows reading group e has)
      go (Some b) e =
          let top = started_is_greatest rows reading b e in
          let j = make_of_started b reading top.0 in
          let high : group ≤ b = top.1 group has in
          let not_above : j.0.making.decision.group ≤ group = above j.0 j.1 j.2.turn j.3 in
          let same = j.2.group_is in
          ap Some (omega (arith, high, not_above, same))

-- ---- a group's makes

-- What the rows tell of the group of a decision that was made: its members and its start are the decision's.
module _ (team : Team) (promises : List Promised) (rows : List Row) (makes : List Make) (printed : ArePrinted rows makes) (once : AllOnce makes) (all : AllArise team promises makes) where
  pub members_of_made : (d : Decision) → WasMade makes d → members_of rows d.group ≡ members d
  members_of_made d made =
      let k = first_of_made team promises makes all d made in
      members_of_make rows makes printed once d.group k.0 k.1 k.2.begins ∙ k.2.same_members

  -- where no group above that of a made decision has started, that one is the started one
  pub started_is_made : (reading : ℕ) (d : Decision) → WasMade makes d → d.start ≤ reading
      → ((j : Make) → In j makes → j.making.decision.turn ≡ 0 → j.making.decision.start ≤ reading → j.making.decision.group ≤ d.group)
      → started_at rows reading ≡ Some d.group
  started_is_made reading d made low above =
      let k = first_of_made team promises makes all d made in
      let same = k.2.start in
      started_is rows makes printed once d.group reading k.0 k.1 k.2.begins (omega (arith, same, low)) above
