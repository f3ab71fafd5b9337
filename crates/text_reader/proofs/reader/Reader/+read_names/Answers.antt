use Rattle.std.proofs.Common.{refl}
use Rattle.std.proofs.lemmas.Result.{err_from_is_err_and}
use Rattle.tokens.specs.Tokens.{closes, bar}
use Rattle.grammar.specs.Reads.{listed, l_none}
use Rattle.text_reader.specs.Parts.{Did}
use Rattle.text_reader.specs.declared.reader.Reader.{Reader}
use Rattle.text_reader.proofs.Steps.{seen, in_listed_close, in_listed, in_listed_bad, refused, passes}
use Rattle.text_reader.proofs.reader.Reader.+read_names.Goals as goal

pub returns-in_err-read_name-in-Bar : goal.returns-in_err-read_name-in-Bar
returns-in_err-read_name-in-Bar t c =
    let z = err_from_is_err_and c.from_residual.result c.from_residual.ensures.1 in
    let o = c.args.self.now in
    rw (z.1, z.2) (in_listed_bad o.text.now o.at c.peek-next.result o.out c.in_err-read_name-in-Bar.field-0.0 c.peek-next.ensures c.in-Bar.is c.in_err-read_name-in-Bar.ensures)

pub returns-in-Close : goal.returns-in-Close
returns-in-Close t c = let o = c.args.self.now in (in_listed_close o.text.now o.at c.peek-next.result o.out c.peek-next.ensures c.in-Close.is, refl)

pub returns-in_ok-read_name-in-Bar : goal.returns-in_ok-read_name-in-Bar
returns-in_ok-read_name-in-Bar t c =
    let o = c.args.self.now in
    let p = c.read_name.new.self in
    let q = c.read_names.new.self in
    let h = c.in_ok-read_name-in-Bar.ensures in
    let there : Reader = record { text = p.text; at = p.at; out = c.push.new.self } in
    passes (Did listed 15) (Did listed 15) o there q c.read_names.result h.1
    (λ y m. in_listed o.text.now o.at p.at c.peek-next.result o.out p.out there.out q.out y c.peek-next.ensures c.in-Bar.is h.0 c.push.ensures m) c.read_names.ensures

pub returns-in_default : goal.returns-in_default
returns-in_default t c =
    let p = c.peek-next.ensures in
    let r = c.peek-next.result in
    refused r c.refuse.result p c.refuse.ensures (l_none p.white (λ e. c.in_default.not-Close (seen r closes p e)) (λ e. c.in_default.not-Bar (seen r bar p e)))
