-- What a call leaves of a reader. Assumes nothing.
use Rattle.std.specs.Prelude.{◌≡◌, ℕ, List, Ok, Err, Result}
use Rattle.faults.specs.declared.Fault.{Fault}
use Rattle.text_reader.specs.Parts.{DidMark}
use Rattle.text_reader.specs.declared.output.Output.{Output}
use Rattle.text_reader.specs.declared.reader.Reader.{Reader}

-- the reader r becomes q, over the same text: by R where it goes on from and what it answers, or why a token is refused
abbrev pub Moves : (List ℕ → ℕ → Output → Result ℕ Fault → Output → Type 0) → Reader → Result (Unit {0}) Fault → Reader → Type 0
Moves R r (Ok _) q = R r.text.now r.at r.out (Ok q.at) q.out × (q.text.now ≡ r.text.now)
Moves R r (Err x) q = R r.text.now r.at r.out (Err x) q.out

-- the reader r goes over the mark right there, if any, and becomes q
abbrev pub Marks : Reader → Reader → Type 0
Marks r q = DidMark r.text.now r.at r.out q.at q.out × (q.text.now ≡ r.text.now)
