-- The layers over a table: skip and limit. Assumes nothing.
use Rattle.std.specs.Prelude.{ℕ, ◌+◌, ◌-◌, ◌*◌, ◌/◌, ◌%◌, ◌≤◌, min, Bool, cond, not, ◌&&◌, List, Some, None, filter, nat_lt}
use Rattle.tables.specs.Tables.{Table, onward}

-- the word with its foreign symbols dropped
abbrev pub own : {S : Type 0} → (S → Bool) → List S → List S
own foreign w = filter (λ a. not (foreign a)) w

-- skip: a foreign symbol leads from each state to that state
abbrev pub skip_table : {S : Type 0} → (S → Bool) → Table S → Table S
skip_table foreign t = record {
  states = t.states;
  start = t.start;
  ending = t.ending;
  goes = λ x a. cond (foreign a) (cond (nat_lt x t.states) (Some x) None) (t.goes x a);
}

-- limit: at most n symbols. The state k * m + x, where m states are below, is the state x after k symbols
abbrev pub limit_table : {S : Type 0} → ℕ → Table S → Table S
limit_table n t = record {
  states = t.states * (n + 1);
  start = t.start;
  ending = λ s. nat_lt s (t.states * (n + 1)) && t.ending (s % t.states);
  goes = λ s a. cond (nat_lt s (t.states * n)) (onward (t.goes (s % t.states) a) None (λ y. Some ((s / t.states + 1) * t.states + y))) None;
}

-- n is the greatest limit that fits over m states: it has at most 4096 states, and no greater limit has
abbrev pub Greatest : ℕ → ℕ → Type 0
Greatest m n = (m * (n + 1) ≤ 4096) × ((k : ℕ) → m * (k + 1) ≤ 4096 → k ≤ n)

-- that greatest limit, computed
abbrev pub greatest : ℕ → ℕ
greatest m = 4096 / m - 1

-- the limit that a layer over m states holds: the least of what is asked and the greatest that fits
abbrev pub held : ℕ → ℕ → ℕ
held m asked = min asked (greatest m)

-- limit, with the limit that it holds
abbrev pub limited : {S : Type 0} → ℕ → Table S → Table S
limited asked t = limit_table (held t.states asked) t
