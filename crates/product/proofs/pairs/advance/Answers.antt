use Rattle.std.proofs.Common.{◌≡◌, ◌∙◌, rules}
use Rattle.std.specs.Option.{unwrap_or}
use Rattle.product.proofs.Steps.{after_read}
use Rattle.product.proofs.pairs.advance.Goals as goal

pub returns : goal.returns
returns g c =
    let t = g.R.Reader.table c.args.reader.now in
    let told : c.into.result ≡ unwrap_or c.step-next.result t.states = search rules in
    told
    ∙ after_read t c.args.symbols.now c.args.state c.args.position c.index-symbols-position.result
    c.step-next.result c.requires.0 c.requires.1 c.index-symbols-position.is c.step-next.ensures
