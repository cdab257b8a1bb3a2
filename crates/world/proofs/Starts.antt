-- What a step's act starts, and what it leaves as it was.
use Rattle.std.proofs.Common.{◌≡◌, refl, sym, ap, ◌∙◌, ℕ, Bool, true, false, ◌||◌, ◌==◌, Option, Some, None, IsSome, is_some, rules}
use Rattle.tw_machine.specs.Types.{Team, Act, Mode}
use Rattle.tw_types.specs.declared.outputs.Mode.TheVariants as modes
use Rattle.tw_types.specs.declared.step.Act.TheVariants.{First, Again, Crash, Tick, Recv, Send, Reference, Look}
use Rattle.tw_types.specs.Process.{Process, started}
use Rattle.tw_machine.specs.Admissible.{is_start}
use Rattle.world.specs.Deeds.{mode_of, RunsAs, NotBefore, IsReady}
use Rattle.world.specs.Tables.{Running}

or_nothing : (b : Bool) → b ≡ (b || false)
or_nothing true = refl
or_nothing false = refl

-- an act that starts nothing leaves what was started
pub started_kept : (b : Bool) (act : Act) → mode_of act ≡ None → b ≡ (b || is_start act)
started_kept b First e = absurd (cc)
started_kept b Again e = absurd (cc)
started_kept b Crash e = or_nothing b
started_kept b Tick e = or_nothing b
started_kept b (Recv d) e = or_nothing b
started_kept b (Send order atom payload) e = or_nothing b
started_kept b (Reference lo hi) e = or_nothing b
started_kept b Look e = or_nothing b

or_start : (b : Bool) → true ≡ (b || true)
or_start true = refl
or_start false = refl

pub starts : (b : Bool) (act : Act) (mode : Mode) → mode_of act ≡ Some mode → true ≡ (b || is_start act)
starts b First mode e = or_start b
starts b Again mode e = or_start b
starts b Crash mode e = absurd (cc)
starts b Tick mode e = absurd (cc)
starts b (Recv d) mode e = absurd (cc)
starts b (Send order atom payload) mode e = absurd (cc)
starts b (Reference lo hi) mode e = absurd (cc)
starts b Look mode e = absurd (cc)

-- what runs for a process is there
there : (team : Team) (c : Option Running) (before : Option Process) → RunsAs team c before → is_some c ≡ true → IsSome before
there team None before runs some = absurd (cc)
there team (Some c) None runs some = absurd runs
there team (Some c) (Some p) runs some = search rules

-- a core that runs is ready for an act that starts nothing
pub ready_kept : (team : Team) (who h : ℕ) (act : Act) (c : Option Running) (before : Option Process) → mode_of act ≡ None → RunsAs team c before → NotBefore h before → (is_start act || is_some c) ≡ true
    → IsReady team who h act c before
ready_kept team who h First c before e runs known may = absurd (cc)
ready_kept team who h Again c before e runs known may = absurd (cc)
ready_kept team who h Crash c before e runs known may = (runs, known, there team c before runs may)
ready_kept team who h Tick c before e runs known may = (runs, known, there team c before runs may)
ready_kept team who h (Recv d) c before e runs known may = (runs, known, there team c before runs may)
ready_kept team who h (Send order atom payload) c before e runs known may = (runs, known, there team c before runs may)
ready_kept team who h (Reference lo hi) c before e runs known may = (runs, known, there team c before runs may)
ready_kept team who h Look c before e runs known may = (runs, known, there team c before runs may)

-- a core that was started as the act says is ready for it
pub ready_started : (team : Team) (who h : ℕ) (act : Act) (mode : Mode) (c : Running) (before : Option Process) → mode_of act ≡ Some mode → RunsAs team (Some c) (Some (started who mode h))
    → IsReady team who h act (Some c) before
ready_started team who h First mode c before e runs = let m : mode ≡ modes.First = cc in rw m at runs
ready_started team who h Again mode c before e runs = let m : mode ≡ modes.Again = cc in rw m at runs
ready_started team who h Crash mode c before e runs = absurd (cc)
ready_started team who h Tick mode c before e runs = absurd (cc)
ready_started team who h (Recv d) mode c before e runs = absurd (cc)
ready_started team who h (Send order atom payload) mode c before e runs = absurd (cc)
ready_started team who h (Reference lo hi) mode c before e runs = absurd (cc)
ready_started team who h Look mode c before e runs = absurd (cc)

same_number : (n : ℕ) → (n == n) ≡ true
same_number n = search rules

-- a core of the team has as many processes as the team
pub of_one_team : (team : Team) (c : Running) → c.state.team ≡ team → (c.state.team.n == team.n) ≡ true
of_one_team team c e = ap (λ (t : Team). c.state.team.n == t.n) (sym e) ∙ same_number c.state.team.n
