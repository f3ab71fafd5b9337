-- The classes of bytes that a content model is written in. Assumes nothing.
use Rattle.std.specs.Prelude.{ℕ, Bool, cond, ◌||◌, ◌==◌}
use Rattle.symbols.specs.Rule.{start, only}
use Rattle.tokens.specs.declared.types.Class.{Class}
use Rattle.tokens.specs.declared.types.Class.TheVariants.{NameStart, NameOnly, White, Open, Close, Bar, Comma, Query, Star, Plus, Hash, Other}

-- white space: tab, line feed, carriage return and space
abbrev pub white : ℕ → Bool
white b = b == 9 || (b == 10 || (b == 13 || b == 32))

-- the class of a byte: what a name may begin with, what it may have only behind its first byte, white space, the signs
-- '(', ')', '|', ',', '?', '*', '+' and '#', and any other
abbrev pub class_of : ℕ → Class
class_of b =
    cond (start b) NameStart (cond (only b) NameOnly (cond (white b) White
    (cond (b == 40) Open (cond (b == 41) Close (cond (b == 124) Bar (cond (b == 44) Comma
    (cond (b == 63) Query (cond (b == 42) Star (cond (b == 43) Plus (cond (b == 35) Hash Other))))))))))
