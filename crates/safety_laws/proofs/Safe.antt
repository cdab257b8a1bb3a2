-- The rows of each schedule are safe.
use Rattle.std.proofs.Common.{◌≡◌, sym, ap, subst, ◌∙◌, ℕ, suc, ◌+◌, ◌≤◌, true, List, [], ◌∷◌, ◌++◌, length, Some, slice_get, arith}
use Rattle.std.proofs.lemmas.List.{length-append}
use Rattle.std.proofs.lemmas.Option.{same_Some, slice_get_within}
use Rattle.tw_machine.specs.Types.{Team, Member, Step}
use Rattle.tw_types.specs.Team.{IsSound}
use Rattle.tw_types.specs.Row.{Row}
use Rattle.tw_machine.specs.Applied.{Meaning}
use Rattle.tw_machine.specs.History.{Make, Up, history}
use Rattle.tw_machine.specs.Places.{Exists}
use Rattle.tw_machine.specs.Rows.{row_of, rows_of}
use Rattle.tw_machine.specs.SafeRows.{majority, life_of, AtLeast, IsOfStarted, OneStartedGroup, HasLease, LeasedSupport, SafeRows}
use Rattle.tw_machine.specs.Started.{members_of, started_at}
use Rattle.tw_machine.specs.World.{Admissible}
use Rattle.safety_laws.specs.Effects.{written}
use Rattle.tw_types.specs.Items.{In}
use Rattle.safety_laws.specs.Made.{members}
use Rattle.safety_laws.specs.Names.{IsNamedUp}
use Rattle.safety_laws.specs.Groups.{OfGroups}
use Rattle.safety_laws.specs.Seen.{IsFlagOf}
use Rattle.safety_laws.specs.Ups.{WasUp}
use Rattle.safety_laws.proofs.DeliverAlike.{deliver_alike}
use Rattle.safety_laws.proofs.FirstDecisions.{one_member}
use Rattle.safety_laws.proofs.GroupLaws.{grouped_well, agreed}
use Rattle.safety_laws.proofs.Induction.{earlier}
use Rattle.safety_laws.proofs.LeasedLists.{HasLeased, leased}
use Rattle.safety_laws.proofs.Lists.{of_each}
use Rattle.safety_laws.proofs.MadeLines.{ArePrinted, are_printed, members_of_made, started_is_made}
use Rattle.safety_laws.proofs.OneGroupLists.{IsFirstOf, none_above, own_started}
use Rattle.safety_laws.proofs.Places.{at_in, at_last, each_pushed, at_least_pushed, place_of}
use Rattle.safety_laws.proofs.Quorums.{Agree}
use Rattle.safety_laws.proofs.RowsBacked.{backed_rows}
use Rattle.safety_laws.proofs.RowsTimed.{timed_order}
use Rattle.safety_laws.proofs.StrongLast.{strong_last}
use Rattle.safety_laws.proofs.TablesOf.{equal_tables}
use Rattle.safety_laws.proofs.Seen.{flags_seen}

-- ---- one started group at a reading

module _ (team : Team) (past : List Step) (sound : IsSound team) (ok : Admissible team past) where
  known : OfGroups team past (written team past)
  known = (grouped_well team past sound ok).history

  -- who is up after a step was up
  was_up : (u : Up) → In u (history team past).ups → WasUp team (history team past).makes u
  was_up u i = of_each (WasUp team (history team past).makes) (history team past).ups u known.ups i

  name_of : (r : Row) (u : Up) → In u (history team past).ups → IsFlagOf r u → u.member ≡ life_of r
  name_of r u i flag =
      let named = of_each (IsNamedUp past) (history team past).ups u known.promises.names.ups i in
      one_member u.member (life_of r) (named.member ∙ flag.who) flag.incarnation

module _ {Content : Type 0} (meaning : Meaning Content) (team : Team) (past : List Step) (sound : IsSound team) (ok : Admissible team past) where
  of_started : (r : Row) (u : Up) → In u (history team past).ups → IsFlagOf r u → (reading : ℕ) → r.reading ≡ Some reading → IsOfStarted team (rows_of meaning team past) r reading
  of_started r u i flag reading is = record {
    started = ap (started_at (rows_of meaning team past)) (sym same)
        ∙ started_is_made team (history team past).promises (rows_of meaning team past) (history team past).makes printed groups.once groups.makes.arise u.reading u.last up.made up.started
        (λ j there turn start. omega (arith, none_above team (history team past).promises (history team past).makes agree u up j there turn start, up.group)) ∙ ap Some group;
    has_majority = rw (ap (members_of (rows_of meaning team past)) (sym group) ∙ list) (omega (arith, ap length first.1.last_members, first.1.enough));
    named = rw (ap (members_of (rows_of meaning team past)) (sym group) ∙ list) (subst (λ ms. Exists ms (λ k m. m ≡ life_of r)) first.1.last_members (name_there (members first.0.making.decision) first.1.named));
  }
    where
      groups : OfGroups team past (written team past)
      groups = known team past sound ok

      up : WasUp team (history team past).makes u
      up = was_up team past sound ok u i

      printed : ArePrinted (rows_of meaning team past) (history team past).makes
      printed = are_printed meaning team past ok

      agree : Agree team (history team past).promises (history team past).makes
      agree = agreed team past sound ok

      same : u.reading ≡ reading
      same = same_Some u.reading reading (sym flag.reading ∙ is)

      group : u.last.group ≡ r.group
      group = sym up.group ∙ flag.group

      first : (first : Make) × IsFirstOf team (history team past).makes u first
      first = own_started team (history team past).promises (history team past).makes agree u up

      list : members_of (rows_of meaning team past) u.last.group ≡ members u.last
      list = members_of_made team (history team past).promises (rows_of meaning team past) (history team past).makes printed groups.once groups.makes.arise u.last up.made

      name_there : (ms : List Member) → In u.member ms → Exists ms (λ k m. m ≡ life_of r)
      name_there ms there = let k = place_of ms u.member there in (k.0, u.member, k.1, name_of team past sound ok r u i flag)

  one_started_group : OneStartedGroup team (rows_of meaning team past)
  one_started_group i r at reading up is = let u = flags_seen meaning team past i r at up in of_started r u.0 u.1 u.2 reading is

-- ---- leased support

-- of a row that is the last one so far
last_leased : {Content : Type 0} (meaning : Meaning Content) (team : Team) (past : List Step) (i : ℕ) (r : Row) (reading : ℕ) → IsSound team → Admissible team past
    → slice_get (rows_of meaning team past) i ≡ Some r → length (rows_of meaning team past) ≤ suc i → r.up ≡ true → r.reading ≡ Some reading
    → AtLeast (majority team) (rows_of meaning team past) (HasLease team i r.group reading)
last_leased meaning team past i r reading sound ok at last up is =
    let u = flags_seen meaning team past i r at up in
    let was = was_up team past sound ok u.0 u.1 in
    let by = leased team (history team past).promises (history team past).makes (agreed team past sound ok) u.0 was in
    let same : u.0.reading ≡ reading = same_Some u.0.reading reading (sym u.2.reading ∙ is) in
    record {
      processes = by.processes;
      enough = by.majority.enough;
      each_once = by.majority.distinct;
      each_has = λ k who e. has u.0 u.2 same who (by.each who (at_in by.processes k who e));
    }
  where
    has : (u : Up) → IsFlagOf r u → u.reading ≡ reading → (who : ℕ) → (made : Make) × HasLeased team (history team past).makes u who made
        → Exists (rows_of meaning team past) (λ j s. (s.who ≡ who) × HasLease team i r.group reading j s)
    has u flag same who (made, h) =
        let line = (are_printed meaning team past ok).each_make made h.among in (
          line.0,
          line.1,
          line.2,
          (
            sym line.3.who ∙ h.by,
            record {
              not_after = let low = slice_get_within (rows_of meaning team past) line.0 line.1 line.2 in omega arith;
              made = rw line.3.line (h.group ∙ flag.group);
              lasts = rw line.3.reading (let lasts = h.lasts in omega arith);
            },
          ),
        )

leased_support : {Content : Type 0} (meaning : Meaning Content) (team : Team) (past : List Step) → IsSound team → Admissible team past → LeasedSupport team (rows_of meaning team past)
leased_support meaning team [] sound ok = λ i r e. absurd (cc)
leased_support meaning team (s ∷ past) sound ok =
    each_pushed (λ i r. (reading : ℕ) → r.up ≡ true → r.reading ≡ Some reading → AtLeast (majority team) (rows ++ last ∷ []) (HasLease team i r.group reading)) rows last
    (λ i r at reading up is. at_least_pushed (majority team) rows last (HasLease team i r.group reading) (leased_support meaning team past sound (earlier team past s ok) i r at reading up is))
    (λ reading up is. last_leased meaning team (s ∷ past) (length rows) last reading sound ok (at_last rows last) (let n : length (rows ++ last ∷ []) ≡ length rows + 1 = simp length-append in omega (arith, n)) up is)
  where
    rows : List Row
    rows = rows_of meaning team past

    last : Row
    last = row_of meaning team past s

-- ---- all seven

-- In every schedule the rows are safe, with any machine, however looks show what it has.
pub safe_rows : {Content : Type 0} (meaning : Meaning Content) (team : Team) (past : List Step) → IsSound team → Admissible team past → SafeRows team (rows_of meaning team past)
safe_rows meaning team past sound ok = record {
  one_started_group = one_started_group meaning team past sound ok;
  same_deliveries = deliver_alike meaning team past sound ok;
  strong_last = strong_last meaning team past sound ok;
  backed = backed_rows meaning team past sound ok;
  timed_order = timed_order meaning team past sound ok;
  equal_tables = equal_tables meaning team past sound ok;
  leased_support = leased_support meaning team past sound ok;
}
