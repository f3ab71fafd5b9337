use Rattle.std.proofs.Common.{◌≡◌, ℕ, take, arith, subst, ◌∙◌}
use Rattle.std.proofs.lemmas.List.{length-take}
use Rattle.language.proofs.Symbols.{like_within}
use Rattle.models.specs.Stepping.{Steps}
use Rattle.shelf.proofs.Reading.{step_is}
use Rattle.shelf.proofs.place_readers.PlaceReaderReader.step.Goals as goal

pub map-requires : goal.map-requires
map-requires g c = λ x e _ _.
    let s = subst (Steps g.S.Symbol.same c.args.self.now.automaton.sets c.args.self.now.automaton.followers.now _ c.from.result c.args.symbol.now) e c.step.ensures in
    let i = like_within g.S.Symbol.same _ x c.args.symbol.now s.0.1 in
    let l = length-take c.positions.result c.args.self.now.automaton.symbols.now in
    omega arith

pub returns : goal.returns
returns g c =
    let steps = subst (λ (n : ℕ). Steps g.S.Symbol.same c.args.self.now.automaton.sets c.args.self.now.automaton.followers.now (take c.positions.result c.args.self.now.automaton.symbols.now) n c.args.symbol.now c.step.result) c.from.ensures c.step.ensures in
    let s = step_is g.S.Symbol.same c.args.self.now.automaton.sets c.args.self.now.automaton.followers.now c.args.self.now.automaton.symbols.now _ c.args.state c.args.symbol.now c.step.result (omega arith) steps in
    let q : c.map.result ≡ c.step.result = grind arith in
    q ∙ s
