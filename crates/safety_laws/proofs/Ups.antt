-- Who was up was supported.
use Rattle.std.proofs.Common.{◌≡◌, refl, sym, subst, ℕ, ◌≤◌, Bool, true, false, ◌&&◌, List, ◌∷◌, Some, None, arith}
use Rattle.std.specs.Prelude.{nat_le}
use Rattle.std.specs.List.{AllByRecursion}
use Rattle.std.proofs.lemmas.Bool.Decides.{nat_tests}
use Rattle.tw_machine.specs.Types.{Team, Decision, Step}
use Rattle.tw_types.specs.Beliefs.{Belief, Informed, Blank, last_of}
use Rattle.tw_types.specs.Flag.{is_up, is_supported}
use Rattle.tw_types.specs.Votes.{Vote}
use Rattle.tw_machine.specs.History.{Make, Up, up_at, make_item}
use Rattle.tw_machine.specs.Standing.{member_of}
use Rattle.safety_laws.specs.Effects.{State, Here, Raises, Change}
use Rattle.safety_laws.specs.Made.{HasSeat, OfMaker, made}
use Rattle.safety_laws.specs.Ups.{WasUp, ups}
use Rattle.safety_laws.proofs.Grown.{Grown, Quiet, NewPromise, NewMake, NewUp, grown}
use Rattle.safety_laws.proofs.Lists.{each_weaker}
use Rattle.safety_laws.proofs.MadeLists.{More, more_by, made_more, last_made, has_last}
use Rattle.safety_laws.proofs.Stack.{Stepping, RulesOver, history_rules}

-- The flag's definition is opened here alone: who is up has a last decision that started, with supports of a majority.
up_has : (team : Team) (vote : Vote) (belief : Belief) (last : Decision) (t : ℕ) → last_of belief ≡ Some last → is_up team vote belief (Some t) ≡ true → (last.start ≤ t) × (is_supported team t last ≡ true)
unfolding is_up
up_has team vote (Informed None) last t is up = absurd (cc)
up_has team vote (Informed (Some d)) last t is up = let same : d ≡ last = cc in subst (λ (z : Decision). (z.start ≤ t) × (is_supported team t z ≡ true)) same (parts (nat_le d.start t) (is_supported team t d) refl up)
  where
    parts : (a b : Bool) → nat_le d.start t ≡ a → (a && b) ≡ true → (d.start ≤ t) × (b ≡ true)
    parts true true e both = (grind (arith, nat_tests), refl)
    parts true false e both = absurd (cc)
    parts false b e both = absurd (cc)
up_has team vote (Blank followed) last t is up = absurd (cc)

still_up : (team : Team) (makes makes' : List Make) (u : Up) → More makes makes' → WasUp team makes u → WasUp team makes' u
still_up team makes makes' u more k = record { made = made_more makes makes' u.last more k.made; group = k.group; named = k.named; started = k.started; supported = k.supported }

raised : (team : Team) (past : List Step) (s : Step) (here : Here) (x y : State) → Stepping team past s here → OfMaker team (s ∷ past) x.written s.who x.process → (c : Raises here x y) → WasUp team x.written.makes (up_at here.life here.step x.process c.t c.last)
raised team past s here x y at maker c =
    let up = up_has team x.process.vote x.process.belief c.last c.t c.last_is (subst (λ (t : Team). is_up t x.process.vote x.process.belief (Some c.t) ≡ true) at.same_team c.up) in
    record {
      made = last_made x.written.makes x.process c.last maker.keeps c.last_is;
      group = refl;
      named = subst (HasSeat (s ∷ past) x.written s.who x.process) c.last_is (maker.seat (has_last x.process c.last c.last_is));
      started = up.0;
      supported = up.1;
    }

changes : (team : Team) (past : List Step) (s : Step) (here : Here) (x y : State) → Stepping team past s here → Change here x y → OfMaker team (s ∷ past) x.written s.who x.process → AllByRecursion (WasUp team x.written.makes) x.written.ups → AllByRecursion (WasUp team y.written.makes) y.written.ups
changes team past s here x y at change maker all = go (grown here x y change)
  where
    go : Grown here x y → AllByRecursion (WasUp team y.written.makes) y.written.ups
    go (Quiet promises makes ups) = rw ups (subst (λ ms. AllByRecursion (WasUp team ms) x.written.ups) (sym makes) all)
    go (NewPromise c promises makes ups) = rw ups (subst (λ ms. AllByRecursion (WasUp team ms) x.written.ups) (sym makes) all)
    go (NewMake c promises makes ups) = rw ups (each_weaker (WasUp team x.written.makes) (WasUp team y.written.makes) x.written.ups (λ u. still_up team x.written.makes y.written.makes u (more_by x.written.makes y.written.makes (make_item (member_of x.process.identity) here.life here.step x.written.makes c.making) makes)) all)
    go (NewUp c promises makes ups) = rw ups (subst (λ ms. AllByRecursion (WasUp team ms) (up_at here.life here.step x.process c.t c.last ∷ x.written.ups)) (sym makes) (raised team past s here x y at maker c, all))

pub ups_rules : (team : Team) → RulesOver team (made team) (ups team)
ups_rules team = history_rules team (made team) (λ w. AllByRecursion (WasUp team w.makes) w.ups) tt (λ past s here x y at change before after k. changes team past s here x y at change before.own k)
