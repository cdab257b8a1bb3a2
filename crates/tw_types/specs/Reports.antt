-- What a process reports of itself when it promises, and which reports go with a decision.
use Rattle.std.specs.Prelude.{ℕ, nat_le, nat_lt, ◌==◌, Bool, true, false, ◌&&◌, ◌||◌, if◌then◌else◌, List, map, Option, filter}
use Rattle.std.specs.List.{reduce}
use Rattle.tw_types.specs.declared.message.Member.{Member}
use Rattle.tw_types.specs.declared.message.Kind.{Kind}
use Rattle.tw_types.specs.declared.message.Kind.TheVariants as kinds
use Rattle.tw_types.specs.declared.message.Report.{Report}
use Rattle.tw_types.specs.declared.message.Decision.{Decision}
use Rattle.tw_types.specs.Votes.{Vote}
use Rattle.tw_types.specs.Beliefs.{Belief, Informed, Blank, Log, view_decision, log_length}
use Rattle.tw_types.specs.Decisions.{or_none, decision_length, is_older, has_seat}

abbrev pub kind_of : Belief → Kind
kind_of (Informed last) = kinds.Informed
kind_of (Blank followed) = kinds.Ready

-- what a member reports at its reading t
abbrev pub report_of : Member → Vote → Belief → Log → ℕ → Report
report_of me vote belief log t = record {
  member = me;
  kind = kind_of belief;
  group = (or_none (view_decision belief)).group;
  turn = (or_none (view_decision belief)).turn;
  length = log_length log;
  support = vote.support;
  reading = t;
}

abbrev pub is_by_informed : Report → Bool
is_by_informed r = by r.kind
  where
    by : Kind → Bool
    by kinds.Informed = true
    by kinds.Ready = false

-- of two pairs of group and turn the greater one
abbrev pub greater_pair : ℕ × ℕ → ℕ × ℕ → ℕ × ℕ
greater_pair a b = if is_older a.0 a.1 b.0 b.1 then b else a

-- the greatest group and turn that an informed process reports
abbrev pub best : List Report → Option (ℕ × ℕ)
best reports = reduce greater_pair (map (λ (r : Report). (r.group, r.turn)) (filter is_by_informed reports))

-- An informed process of the decision's group, or of a lower one if it is a member, or a ready one that follows no later
-- decision of the group.
abbrev pub goes_with : Kind → Report → Decision → Bool
goes_with kinds.Informed r d = (r.group == d.group) || (nat_lt r.group d.group && has_seat r.member d)
goes_with kinds.Ready r d = (r.group == d.group) && nat_le r.turn d.turn

-- and what it has of the list ends within the decision's window
abbrev pub is_consistent : Option Decision → Report → Bool
is_consistent o r = nat_le (or_none o).low r.length && nat_le r.length (decision_length (or_none o)) && goes_with r.kind r (or_none o)
