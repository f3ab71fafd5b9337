-- One write into a list of bytes. Assumes nothing.
use Rattle.std.specs.Prelude.{◌≡◌, ℕ, ◌+◌, ◌≤◌, List, ◌++◌, length, take, drop}

-- the bytes stand at the place, nothing else was written, and `end` is the place behind them
pub record Put (before after : List ℕ) (at : ℕ) (bytes : List ℕ) (end : ℕ) : Type 0 where
  pub ends : end ≡ at + length bytes
  pub fits : end ≤ length before
  pub kept : length after ≡ length before
  pub front : take end after ≡ take at before ++ bytes
  pub rest : drop end after ≡ drop end before
