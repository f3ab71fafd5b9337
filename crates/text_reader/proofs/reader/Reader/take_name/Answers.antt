use Rattle.std.proofs.Common.{[], ◌∷◌, refl, rules}
use Rattle.text_reader.specs.Output.{Grew}
use Rattle.text_reader.proofs.Outputs.{both}
use Rattle.text_reader.proofs.reader.Reader.take_name.Goals as goal

pub returns : goal.returns
returns c =
    let grew : Grew c.args.self.now.out c.push_name.new.self [] (c.args.name.now ∷ []) = search rules in
    ((refl, c.if-name-gt-MOST_BYTES.false, search rules, both [] (1 ∷ []) (c.args.name.now ∷ []) [] grew c.push.ensures), refl)
