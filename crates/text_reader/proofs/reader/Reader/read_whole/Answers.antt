use Rattle.std.proofs.Common.{ℕ, List, Ok, subst}
use Rattle.std.proofs.lemmas.Result.{err_from_is_err_and}
use Rattle.tokens.specs.Tokens.{Peeked}
use Rattle.grammar.specs.Reads.{w_bad, Opens}
use Rattle.text_reader.specs.Parts.{Refuses, DidOpen}
use Rattle.text_reader.proofs.Steps.{refused_whole, whole_good, whole_left}
use Rattle.text_reader.proofs.reader.Reader.read_whole.Goals as goal

pub returns-in_err-read_spec : goal.returns-in_err-read_spec
returns-in_err-read_spec c =
    let z = err_from_is_err_and c.from_residual.result c.from_residual.ensures.1 in
    let o = c.args.self.now in
    let h = subst (λ (i : ℕ). Refuses (λ r. Opens o.text.now i r) c.in_err-read_spec.field-0.0) c.requires.start c.in_err-read_spec.ensures in
    rw (z.1, z.2) (h.0, h.1, w_bad h.2, h.3)

pub returns-in-End : goal.returns-in-End
returns-in-End c =
    let o = c.args.self.now in
    let p = c.read_spec.new.self in
    let h = c.in_ok-read_spec.ensures in
    let d = subst (λ (i : ℕ). DidOpen o.text.now i o.out (Ok p.at) p.out) c.requires.start h.0 in
    let next = subst (λ (t : List ℕ). Peeked t p.at c.peek-last.result) h.1 c.peek-last.ensures in
    (whole_good o.text.now p.at c.peek-last.result o.out p.out c.requires.empty d next c.in-End.is, h.1)

pub returns-in_default : goal.returns-in_default
returns-in_default c =
    let o = c.args.self.now in
    let p = c.read_spec.new.self in
    let h = c.in_ok-read_spec.ensures in
    let d = subst (λ (i : ℕ). DidOpen o.text.now i o.out (Ok p.at) p.out) c.requires.start h.0 in
    let next = subst (λ (t : List ℕ). Peeked t p.at c.peek-last.result) h.1 c.peek-last.ensures in
    refused_whole c.peek-last.result c.refuse.result next c.refuse.ensures (whole_left o.text.now p.at c.peek-last.result o.out p.out d next c.in_default.not-End)
