use Rattle.std.proofs.Common.{refl}
use Rattle.tokens.specs.Tokens.{word}
use Rattle.grammar.specs.Reads.{named, n_none}
use Rattle.text_reader.specs.Parts.{Did, Keeps}
use Rattle.text_reader.proofs.Steps.{seen, in_named, refused, passes}
use Rattle.text_reader.proofs.reader.Reader.read_name.Goals as goal

pub returns-in-Name : goal.returns-in-Name
returns-in-Name c =
    let o = c.args.self.now in
    passes (λ _ _ v y z. Keeps c.in-Name.name.now c.peek-next.result.at v y z) (Did named 15) o o c.take_name.new.self c.take_name.result refl
    (λ y h. in_named o.text.now o.at c.peek-next.result c.in-Name.name o.out c.take_name.new.self.out y c.peek-next.ensures c.in-Name.is h) c.take_name.ensures

pub returns-in_default : goal.returns-in_default
returns-in_default c =
    let p = c.peek-next.ensures in
    let r = c.peek-next.result in
    refused r c.refuse.result p c.refuse.ensures (n_none p.white (λ e. let z = seen r word p e in c.in_default.not-Name z.0 z.1))
