use Rattle.std.proofs.Common.{rules, refl}
use Rattle.tokens.specs.Bytes.{white}
use Rattle.tokens.proofs.peek.Goals as goal

pub returns : goal.returns
returns c = record {
  white = c.run_end-at.ensures.longest white (λ b r h. search rules) refl;
  on = search rules;
  inside = search rules;
  is = search rules;
  held = search rules;
}
