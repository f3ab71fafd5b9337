use Rattle.std.proofs.Common.{◌≡◌, rules}
use Rattle.product.specs.Pairs.{product}
use Rattle.product.specs.Compares.{verdict, Searched}
use Rattle.product.proofs.Says.{searched_says, searched_spent}
use Rattle.product.proofs.compare_tables.Goals as goal

pub returns : goal.returns
returns g c =
    let same = g.S.Symbol.same in
    let t = g.R.Reader.table c.args.reader.now in
    let s = c.args.model.sets in
    let rows = c.args.model.followers.now in
    let xs = c.args.model.symbols.now in
    let work = c.args.work.now in
    let word = c.args.word.now in
    let v : c.map_err.result ≡ verdict c.least_word.result = search rules in
    let d : Searched (product s rows xs t) work word c.least_word.new.work c.least_word.new.word c.map_err.result = (c.least_word.result, v, c.least_word.ensures) in
    record {
      exact = d;
      says = λ m T. searched_says same g.S.Symbol.laws t (g.R.Reader.sound c.args.reader.now) (g.met.R.Reader.alike c.args.reader.now) s rows xs m T work word _ _ c.map_err.result d;
      spent = searched_spent (product s rows xs t) work word _ _ c.map_err.result d;
    }
