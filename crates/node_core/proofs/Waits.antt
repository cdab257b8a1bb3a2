-- What waits stays in range, and what is asked for is.
use Rattle.std.proofs.Common.{sym, subst, ℕ, ◌-◌, ◌<◌, List, [], ◌∷◌, map, Option, Some, None, IfSome, inl, inr, filter, slice_get}
use Rattle.std.specs.Prelude.{not}
use Rattle.std.specs.List.{AllByRecursion}
use Rattle.std.specs.Option.{option_map}
use Rattle.tw_machine.specs.Types.{UpdateId, Entry, Seat, Report, Decision, Ballot}
use Rattle.tw_types.specs.Ranges.{IdFits, EntryFits, SeatFits, ReportFits, DecisionFits, IsMadeBy}
use Rattle.tw_types.specs.BallotFits.{IsBallot}
use Rattle.tw_types.specs.Ballots.{reports_it}
use Rattle.tw_types.specs.Updates.{find_update, has_update, is_named, stays_pending}
use Rattle.tw_types.specs.Waiting.{Held, Waiting, holes, first_hole, ids_from, entries_from, held_payloads, payloads_of, each_once, holding, released, settled_by}
use Rattle.tw_machine.proofs.Tables.{all_mapped}
use Rattle.tw_types.proofs.Lists.{all_joined}
use Rattle.node_core.specs.InRange.{KeptFits, HeldFits, WaitingFits}
use Rattle.node_core.proofs.Listing.{all_dropped, all_filtered, all_weaker, found_one, all_gathered, first_one, least_below}

-- the entries and the ids of a decision's window are in range, from each position on
pub entries_fit : (n position : ℕ) (d : Decision) → AllByRecursion (EntryFits n) d.window.items → AllByRecursion (EntryFits n) (entries_from position d)
entries_fit n position d all = all_dropped (EntryFits n) (position - d.low) d.window.items all

pub ids_fit : (n position : ℕ) (d : Decision) → AllByRecursion (EntryFits n) d.window.items → AllByRecursion (IdFits n) (ids_from position d)
ids_fit n position d all = all_mapped (IdFits n) (λ (e : Entry). e.id) (entries_from position d) (all_weaker (EntryFits n) (λ (e : Entry). IdFits n e.id) (λ e h. h.id) (entries_from position d) (entries_fit n position d all))

-- the first hole of a held decision, and the process to ask
pub record HoleFits (n : ℕ) (hole : UpdateId × ℕ) : Type 0 where
  pub id : IdFits n hole.0
  pub source : hole.1 < n

pub hole_fits : (n : ℕ) (held : Option Held) → IfSome held (HeldFits n) → IfSome (first_hole held) (HoleFits n)
hole_fits n None fits = tt
hole_fits n (Some h) fits = go (slice_get (holes h) 0) (first_one (IdFits n) (holes h) (all_filtered (IdFits n) (λ (id : UpdateId). not (has_update id h.payloads)) (ids_from h.first h.decision) (ids_fit n h.first h.decision fits.decision.window)))
  where
    go : (o : Option UpdateId) → IfSome o (IdFits n) → IfSome (option_map (λ (id : UpdateId). (id, h.source)) o) (HoleFits n)
    go None fit = tt
    go (Some id) fit = record { id = fit; source = fits.source }

-- all payloads that are there
pub payloads_fit : (n : ℕ) (w : Waiting) → WaitingFits n w → AllByRecursion (KeptFits n) (payloads_of w)
payloads_fit n w fits = all_joined (KeptFits n) w.pending (held_payloads w.held) fits.pending (of_held w.held fits.held)
  where
    of_held : (held : Option Held) → IfSome held (HeldFits n) → AllByRecursion (KeptFits n) (held_payloads held)
    of_held None h = tt
    of_held (Some x) h = h.payloads

pub holding_fits : (n : ℕ) (d : Decision) (first source : ℕ) (w : Waiting) → WaitingFits n w → DecisionFits n d → source < n → WaitingFits n (holding d first source w)
holding_fits n d first source w fits decision below = record {
  pending = fits.pending;
  held = record {
    decision = decision;
    source = below;
    payloads = all_gathered (KeptFits n) (λ (id : UpdateId). find_update id (payloads_of w)) (λ id. found_one (KeptFits n) (is_named id) (payloads_of w) (payloads_fit n w fits)) (each_once (ids_from first d));
  };
}

pub settled_fits : (n : ℕ) (d : Decision) (w : Waiting) → WaitingFits n w → WaitingFits n (settled_by d w)
settled_fits n d w fits = record { pending = all_filtered (KeptFits n) (stays_pending d) w.pending fits.pending; held = fits.held }

pub released_fits : (n : ℕ) (w : Waiting) → WaitingFits n w → WaitingFits n (released w)
released_fits n w fits = record { pending = fits.pending; held = tt }

-- ---- processes that are asked

-- the maker of a decision is one of the team
pub maker_below : (n maker made : ℕ) (seats : List Seat) → IsMadeBy maker made seats → AllByRecursion (SeatFits n) seats → maker < n
maker_below n maker made [] by all = absurd by
maker_below n maker made (s ∷ seats) (inl own) all = let below : s.member.who < n = all.0.who in subst (λ (x : ℕ). x < n) own.0 below
maker_below n maker made (s ∷ seats) (inr later) all = maker_below n maker made seats later all.1

-- so is the process that has a ballot's best decision
pub best_from_below : (n : ℕ) (b : Ballot) → 0 < n → IsBallot n b → b.best_from < n
best_from_below n b some fits =
    let named : List Report = filter (reports_it b.best) b.reports.items in
    let each : AllByRecursion (λ (r : Report). r.member.who < n) named = all_filtered (λ (r : Report). r.member.who < n) (reports_it b.best) b.reports.items (all_weaker (ReportFits n) (λ (r : Report). r.member.who < n) (λ r h. h.who) b.reports.items fits.each) in
    subst (λ (x : ℕ). x < n) (sym fits.best_from) (least_below n some (map (λ (r : Report). r.member.who) named) (all_mapped (λ (x : ℕ). x < n) (λ (r : Report). r.member.who) named each))
