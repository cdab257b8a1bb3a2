-- Deliveries are backed: what is passed as strong stands in the lists of a majority, and what is passed as strict in that of each member.
use Rattle.std.proofs.Common.{◌≡◌, ◌≢◌, refl, sym, ap, subst, ◌∙◌, ℕ, suc, ◌+◌, ◌/◌, ◌≤◌, ◌<◌, true, List, [], ◌∷◌, ◌++◌, length, Option, Some, None, slice_get, count_by, arith}
use Rattle.std.specs.List.{AllByRecursion}
use Rattle.std.proofs.lemmas.Bool.Decides.{nat_tests}
use Rattle.std.proofs.lemmas.List.{length-append}
use Rattle.std.proofs.lemmas.Option.{slice_get_within}
use Rattle.tw_machine.specs.Types.{Atom, Member, Seat, Support, Step, Team}
use Rattle.tw_types.specs.declared.message.Atom.TheVariants.{Strong, Strict}
use Rattle.tw_types.specs.declared.outputs.How.TheVariants.{Late}
use Rattle.tw_types.specs.Deliveries.{reaches, fulfils}
use Rattle.tw_types.specs.Items.{In}
use Rattle.tw_types.specs.Row.{Row, Pass, Update}
use Rattle.tw_types.specs.Team.{IsSound}
use Rattle.tw_types.proofs.Appended.{of_map}
use Rattle.tw_machine.specs.Applied.{Meaning}
use Rattle.tw_machine.specs.History.{Line, Make, history}
use Rattle.tw_machine.specs.Places.{Each, Exists}
use Rattle.tw_machine.specs.Rows.{row_of, rows_of}
use Rattle.tw_machine.specs.SafeRows.{majority, life_of, AtLeast, HasPosition, Backed}
use Rattle.tw_machine.specs.Started.{members_of}
use Rattle.tw_machine.specs.World.{Admissible}
use Rattle.safety_laws.specs.Acknowledged.{Supported}
use Rattle.safety_laws.specs.Delivered.{IsBacked}
use Rattle.safety_laws.specs.Effects.{written}
use Rattle.safety_laws.specs.Groups.{OfGroups}
use Rattle.safety_laws.specs.Made.{members}
use Rattle.safety_laws.proofs.Counting.{IsMajority, processes_by, passes}
use Rattle.safety_laws.proofs.DeliveryLaws.{with_delivered, delivered_well}
use Rattle.safety_laws.proofs.GroupLaws.{grouped_well}
use Rattle.safety_laws.proofs.Induction.{earlier}
use Rattle.safety_laws.proofs.Lists.{of_each, each_passes}
use Rattle.safety_laws.proofs.ListsAt.{supports_at}
use Rattle.safety_laws.proofs.MadeLines.{are_printed, members_of_made}
use Rattle.safety_laws.proofs.MadeLists.{More}
use Rattle.safety_laws.proofs.MadeRows.{makes_shown}
use Rattle.safety_laws.proofs.LinesOfRows.{IsPassOf, pass_told}
use Rattle.safety_laws.proofs.Places.{at_in, at_last, each_pushed, exists_pushed}
use Rattle.safety_laws.proofs.Quorums.{supporters}
use Rattle.safety_laws.proofs.Stack.{Kept as Holding}
use Rattle.safety_laws.proofs.TablesOf.{makes_more}

-- A made decision of a group fulfils an atomicity at a position. Each member whose support reaches beyond that has a row, at place i or
-- before it, which shows the position.
record BackedBy (team : Team) (makes : List Make) (rows : List Row) (i group position : ℕ) (atom : Atom) : Type 0 where
  make : Make
  made : In make makes
  group_is : make.making.decision.group ≡ group
  fulfilled : fulfils team make.making.decision position atom ≡ true
  shown : (s : Seat) → In s make.making.decision.seats.items → reaches position s.support ≡ true → Exists rows (λ j q. (life_of q ≡ s.member) × HasPosition i group position j q)

-- with more makes and a row more it is so still
backed_more : (team : Team) (makes more : List Make) (rows : List Row) (last : Row) (i group position : ℕ) (atom : Atom) → More makes more → BackedBy team makes rows i group position atom
    → BackedBy team more (rows ++ last ∷ []) i group position atom
backed_more team makes more rows last i group position atom all k = record {
  make = k.make;
  made = all k.make k.made;
  group_is = k.group_is;
  fulfilled = k.fulfilled;
  shown = λ s j far. exists_pushed (λ l q. (life_of q ≡ s.member) × HasPosition i group position l q) rows last (k.shown s j far);
}

-- a support that reaches beyond a position is there, and says so
far_support : (position : ℕ) (o : Option Support) → reaches position o ≡ true → (support : Support) × (o ≡ Some support) × (position < support.ack)
far_support position None e = absurd (cc)
far_support position (Some support) e = (support, refl, grind (arith, nat_tests))

-- ---- each pass that isn't late

-- in a row that is the last one so far
last_backed : {Content : Type 0} (meaning : Meaning Content) (team : Team) (past : List Step) (i : ℕ) (r : Row) (k : ℕ) (p : Pass) → IsSound team → Admissible team past
    → slice_get (rows_of meaning team past) i ≡ Some r → length (rows_of meaning team past) ≤ suc i → slice_get r.passes k ≡ Some p → p.how ≢ Late
    → BackedBy team (history team past).makes (rows_of meaning team past) i r.group p.position p.update.atom
last_backed meaning team past i r k p sound ok at last there not_late = record {
  make = by.make;
  made = by.made;
  group_is = by.group ∙ x.2.group;
  fulfilled = subst (λ (u : Update). fulfils team by.make.making.decision p.position u.atom ≡ true) x.2.update ((by.passed p.position p.how x.2.place).2 not_late);
  shown = λ s j far. shown s j (far_support p.position s.support far);
}
  where
    makes : List Make
    makes = (history team past).makes

    x : (x : Line) × In x (history team past).lines × IsPassOf r p x
    x = pass_told meaning team past sound ok i r at k p there

    all : Holding team (with_delivered team) past
    all = delivered_well team past sound ok

    by : IsBacked team (history team past).makes x.0
    by = of_each (IsBacked team (history team past).makes) (history team past).lines x.0 all.history.1.backed x.1

    supported : AllByRecursion (Supported (history team past).makes by.make) by.make.making.decision.seats.items
    supported = of_each (λ (m : Make). AllByRecursion (Supported (history team past).makes m) m.making.decision.seats.items) (history team past).makes by.make
        (supports_at team past (written team past) all.history.0.0.0.0.0.0 all.history.0.0.1) by.made

    shown : (s : Seat) → In s by.make.making.decision.seats.items → (support : Support) × (s.support ≡ Some support) × (p.position < support.ack)
        → Exists (rows_of meaning team past) (λ j q. (life_of q ≡ s.member) × HasPosition i r.group p.position j q)
    shown s j far =
        let m = of_each (Supported (history team past).makes by.make) by.make.making.decision.seats.items s supported j far.0 far.1 in
        let row = makes_shown meaning team past sound ok m.0 m.1 in (
          row.0,
          row.1,
          row.2,
          (
            row.3.member ∙ m.2.member,
            record {
              not_after = let low = slice_get_within (rows_of meaning team past) row.0 row.1 row.2 in omega arith;
              same_group = row.3.group ∙ m.2.group ∙ by.group ∙ x.2.group;
              longer = let long = far.2 in let length_is = row.3.length_is in let ack = m.2.length_is in omega (arith, long, length_is, ack);
            },
          ),
        )

-- in each row, by the steps up to it
each_backed : {Content : Type 0} (meaning : Meaning Content) (team : Team) (past : List Step) → IsSound team → Admissible team past
    → Each (rows_of meaning team past) (λ i r. Each r.passes (λ k p. p.how ≢ Late → BackedBy team (history team past).makes (rows_of meaning team past) i r.group p.position p.update.atom))
each_backed meaning team [] sound ok = λ i r e. absurd (cc)
each_backed meaning team (s ∷ past) sound ok =
    each_pushed (λ i r. Each r.passes (λ k p. p.how ≢ Late → BackedBy team (history team (s ∷ past)).makes (rows ++ last ∷ []) i r.group p.position p.update.atom)) rows last
    (λ i r at k p there not_late.
    backed_more team (history team past).makes (history team (s ∷ past)).makes rows last i r.group p.position p.update.atom (makes_more team past s) (each_backed meaning team past sound (earlier team past s ok) i r at k p there not_late))
    (λ k p there not_late.
    last_backed meaning team (s ∷ past) (length rows) last k p sound ok (at_last rows last) (let n : length (rows ++ last ∷ []) ≡ length rows + 1 = simp length-append in omega (arith, n)) there not_late)
  where
    rows : List Row
    rows = rows_of meaning team past

    last : Row
    last = row_of meaning team past s

-- ---- the clause

module _ {Content : Type 0} (meaning : Meaning Content) (team : Team) (past : List Step) (sound : IsSound team) (ok : Admissible team past) where
  known : OfGroups team past (written team past)
  known = (grouped_well team past sound ok).history

  -- a strong one by a majority
  strong_backed : (i group position : ℕ) → BackedBy team (history team past).makes (rows_of meaning team past) i group position Strong → AtLeast (majority team) (rows_of meaning team past) (HasPosition i group position)
  strong_backed i group position k = record {
    processes = processes_by (λ (s : Seat). s.member.who) (λ (s : Seat). reaches position s.support) k.make.making.decision.seats.items;
    enough = most.enough;
    each_once = most.distinct;
    each_has = λ l who e. has who (passes (λ (s : Seat). s.member.who) (λ (s : Seat). reaches position s.support) k.make.making.decision.seats.items who (at_in _ l who e));
  }
    where
      enough : team.n / 2 + 1 ≤ count_by (λ (s : Seat). reaches position s.support) k.make.making.decision.seats.items
      enough = let test = k.fulfilled in search (arith, nat_tests)

      most : IsMajority team.n (processes_by (λ (s : Seat). s.member.who) (λ (s : Seat). reaches position s.support) k.make.making.decision.seats.items)
      most = supporters team (history team past).promises (history team past).makes known.makes.arise (λ (s : Seat). reaches position s.support) k.make k.made enough

      has : (who : ℕ) → (s : Seat) × In s k.make.making.decision.seats.items × (reaches position s.support ≡ true) × (s.member.who ≡ who)
          → Exists (rows_of meaning team past) (λ j q. (q.who ≡ who) × HasPosition i group position j q)
      has who s = let row = k.shown s.0 s.1 s.2 in (row.0, row.1, row.2, (ap (λ (m : Member). m.who) row.3.0 ∙ s.3, row.3.1))

  -- and a strict one by each member
  strict_backed : (i group position : ℕ) → BackedBy team (history team past).makes (rows_of meaning team past) i group position Strict
      → Each (members_of (rows_of meaning team past) group) (λ l m. Exists (rows_of meaning team past) (λ j q. (life_of q ≡ m) × HasPosition i group position j q))
  strict_backed i group position k l m e =
      let s = of_map (λ (s : Seat). s.member) k.make.making.decision.seats.items m (subst (In m) (list k.make k.made k.group_is) (at_in _ l m e)) in
      let row = k.shown s.0 s.1 (of_each (λ (s : Seat). reaches position s.support ≡ true) k.make.making.decision.seats.items s.0 (each_passes (λ (s : Seat). reaches position s.support) k.make.making.decision.seats.items k.fulfilled) s.1) in
      (row.0, row.1, row.2, (row.3.0 ∙ sym s.2, row.3.1))
    where
      list : (make : Make) → In make (history team past).makes → make.making.decision.group ≡ group → members_of (rows_of meaning team past) group ≡ members make.making.decision
      list make i same = subst (λ (g : ℕ). members_of (rows_of meaning team past) g ≡ members make.making.decision) same
          (members_of_made team (history team past).promises (rows_of meaning team past) (history team past).makes (are_printed meaning team past ok) known.once known.makes.arise make.making.decision (make, i, refl))

-- Deliveries of each schedule are backed, as its rows show it.
pub backed_rows : {Content : Type 0} (meaning : Meaning Content) (team : Team) (past : List Step) → IsSound team → Admissible team past → Backed team (rows_of meaning team past)
backed_rows meaning team past sound ok = record {
  strong = λ i r at k p there not_late atom. strong_backed meaning team past sound ok i r.group p.position (subst (By i r p) atom (backed i r at k p there not_late));
  strict = λ i r at k p there not_late atom. strict_backed meaning team past sound ok i r.group p.position (subst (By i r p) atom (backed i r at k p there not_late));
}
  where
    By : ℕ → Row → Pass → Atom → Type 0
    By i r p atom = BackedBy team (history team past).makes (rows_of meaning team past) i r.group p.position atom

    backed : Each (rows_of meaning team past) (λ i r. Each r.passes (λ k p. p.how ≢ Late → BackedBy team (history team past).makes (rows_of meaning team past) i r.group p.position p.update.atom))
    backed = each_backed meaning team past sound ok
