-- A column of the world is what its process makes of its own events.
use Rattle.std.proofs.Common.{◌≡◌, refl, ap, ◌∙◌, ℕ, Bool, true, false, cond, nat_eq, List, [], ◌∷◌, Option, Some, None}
use Rattle.std.specs.Option.{option_map}
use Rattle.tw_machine.specs.Types.{Act, Step, Team}
use Rattle.tw_types.specs.declared.step.Act.TheVariants.{First, Again, Crash, Tick, Recv, Send, Reference, Look}
use Rattle.tw_types.specs.Numbered.{numbered}
use Rattle.tw_types.specs.Process.{Process}
use Rattle.tw_machine.specs.Dispatches.{Dispatch}
use Rattle.tw_machine.specs.World.{receive, deed, deed_in, world}
use Rattle.tw_machine.proofs.Tables.{equal_numbers}
use Rattle.tw_machine.specs.Lives.{Life, record_of}
use Rattle.world.specs.Columns.{received, life_after, life_in}

received_deed : (team : Team) (who h : ℕ) (d : Option Dispatch) (life : Life) → (receive team h d (record_of team who life)).process ≡ Some (record_of team who (received h d life))
received_deed team who h None life = refl
received_deed team who h (Some d) life = refl

deed_column : (team : Team) (who h : ℕ) (sent : List Dispatch) (act : Act) (life : Option Life) → (deed team who h sent act (option_map (record_of team who) life)).process ≡ option_map (record_of team who) (life_after h sent act life)
deed_column team who h sent First life = refl
deed_column team who h sent Again life = refl
deed_column team who h sent Crash life = refl
deed_column team who h sent Tick None = refl
deed_column team who h sent Tick (Some life) = refl
deed_column team who h sent (Recv d) None = refl
deed_column team who h sent (Recv d) (Some life) = received_deed team who h (numbered d sent) life
deed_column team who h sent (Send order atom payload) None = refl
deed_column team who h sent (Send order atom payload) (Some life) = refl
deed_column team who h sent (Reference lo hi) None = refl
deed_column team who h sent (Reference lo hi) (Some life) = refl
deed_column team who h sent Look None = refl
deed_column team who h sent Look (Some life) = refl

pub column : (team : Team) (past : List Step) (who : ℕ) → (world team past).process_of who ≡ option_map (record_of team who) (life_in team past who)
column team [] who = refl
column team (s ∷ past) who = go (nat_eq s.who who) refl (column team past s.who) (column team past who)
  where
    own : s.who ≡ who → (world team past).process_of s.who ≡ option_map (record_of team s.who) (life_in team past s.who)
        → (deed_in team (world team past) s).process ≡ option_map (record_of team who) (life_after s.h (world team past).sent s.act (life_in team past who))
    own same before =
        ap (λ (o : Option Process). (deed team s.who s.h (world team past).sent s.act o).process) before
        ∙ deed_column team s.who s.h (world team past).sent s.act (life_in team past s.who)
        ∙ ap (λ (q : ℕ). option_map (record_of team q) (life_after s.h (world team past).sent s.act (life_in team past q))) same

    go : (b : Bool) → nat_eq s.who who ≡ b → (world team past).process_of s.who ≡ option_map (record_of team s.who) (life_in team past s.who) → (world team past).process_of who ≡ option_map (record_of team who) (life_in team past who)
        → cond b (deed_in team (world team past) s).process ((world team past).process_of who) ≡ option_map (record_of team who) (cond b (life_after s.h (world team past).sent s.act (life_in team past who)) (life_in team past who))
    go true e mine other = own (equal_numbers s.who who e) mine
    go false e mine other = other
