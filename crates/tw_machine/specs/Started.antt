-- Which group has started at a reading, by the `made` lines of all the rows.
use Rattle.std.specs.Prelude.{ℕ, nat_le, max, ◌==◌, Bool, false, List, [], ◌∷◌, map, Option, Some, None}
use Rattle.std.specs.List.{filter, filter_map, find}
use Rattle.std.specs.Option.{unwrap_or, option_map}
use Rattle.tw_types.specs.Row.{Row, Made}
use Rattle.tw_types.specs.declared.message.Member.{Member}

-- the lines that make a group: those of a decision of turn 0
abbrev pub makings : List Row → List Made
makings rows = filter (λ m. m.turn == 0) (filter_map (λ r. r.made) rows)

-- the first line that makes a group, which tells its start and its members; None where the group isn't made
abbrev pub making_of : List Row → ℕ → Option Made
making_of rows group = find (λ m. m.group == group) (makings rows)

-- the members of a group; a group that isn't made has none
abbrev pub members_of : List Row → ℕ → List Member
members_of rows group = unwrap_or (option_map (λ m. m.members) (making_of rows group)) []

-- whether a group is made and starts at this reading or before it
abbrev pub has_started : List Row → ℕ → ℕ → Bool
has_started rows reading group = unwrap_or (option_map (λ m. nat_le m.start reading) (making_of rows group)) false

abbrev pub greatest : List ℕ → Option ℕ
greatest [] = None
greatest (x ∷ xs) = Some (max x (unwrap_or (greatest xs) 0))

-- the greatest made group whose start is at most this reading, None where there is none
abbrev pub started_at : List Row → ℕ → Option ℕ
started_at rows reading = greatest (filter (has_started rows reading) (map (λ m. m.group) (makings rows)))
