-- What a pen writes. Assumes nothing.
use Rattle.std.specs.Prelude.{◌≡◌, ℕ, List}
use Rattle.book.specs.Puts.{Put}
use Rattle.book.specs.declared.pens.Pen.{Pen}

-- the pen has written the bytes into its list, and stands behind them
pub record Writes (before after : Pen) (bytes : List ℕ) : Type 0 where
  pub same : after.out.ghost_name ≡ before.out.ghost_name
  pub put : Put before.out.now after.out.now before.at bytes after.at
