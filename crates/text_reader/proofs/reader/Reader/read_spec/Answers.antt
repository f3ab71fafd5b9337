use Rattle.std.proofs.Common.{◌+◌, refl}
use Rattle.std.proofs.lemmas.Result.{err_from_is_err_and}
use Rattle.tokens.specs.Tokens.{word, opens}
use Rattle.grammar.specs.Reads.{c_none}
use Rattle.text_reader.specs.Parts.{DidMix, DidOpen}
use Rattle.text_reader.specs.declared.reader.Reader.{Reader}
use Rattle.text_reader.proofs.Steps.{seen, refused_open, open_empty, open_word, open_mixed, open_children, open_children_bad, passes, mark_behind}
use Rattle.tokens.proofs.Runs.{not_both}
use Rattle.text_reader.proofs.reader.Reader.read_spec.Goals as goal
use Rattle.text_reader.proofs.reader.Reader.read_spec.Goals.{in_default-via-in-Name+else-is_empty, in_default-via-in_default}

pub returns-in_err-read_body-in_default-token : goal.returns-in_err-read_body-in_default-token
returns-in_err-read_body-in_default-token c =
    let z = err_from_is_err_and c.from_residual.result c.from_residual.ensures.1 in
    let o = c.args.self.now in
    rw (z.1, z.2) (open_children_bad o.text.now o.at c.peek-first.result c.peek-next.result c.in_err-read_body-in_default-token.field-0.0 o.out c.requires c.peek-first.ensures c.in-Open.is c.peek-next.ensures c.in_default-token.not-Pcdata c.in_err-read_body-in_default-token.ensures)

pub returns-in-Name : goal.returns-in-Name
returns-in-Name c =
    let o = c.args.self.now in
    (open_empty o.text.now o.at c.peek-first.result c.in-Name.name o.out c.push.new.self c.peek-first.ensures c.in-Name.is (c.if-is_empty.ensures.0 refl) c.push.ensures, refl)

pub returns-in-Pcdata : goal.returns-in-Pcdata
returns-in-Pcdata c =
    let o = c.args.self.now in
    let q = c.read_mixed.new.self in
    let there : Reader = record { text = o.text; at = c.peek-next.result.at + 7; out = o.out } in
    passes DidMix DidOpen o there q c.read_mixed.result refl
    (λ y m. open_mixed o.text.now o.at c.peek-first.result c.peek-next.result o.out q.out y c.peek-first.ensures c.in-Open.is c.peek-next.ensures c.in-Pcdata.is m) c.read_mixed.ensures

pub returns-in_ok-read_body-in_default-token : goal.returns-in_ok-read_body-in_default-token
returns-in_ok-read_body-in_default-token c =
    let o = c.args.self.now in
    let p = c.read_body.new.self in
    let q = c.read_mark.new.self in
    let h = c.in_ok-read_body-in_default-token.ensures in
    let m = mark_behind o p p q refl h.1 c.read_mark.ensures in
    (open_children o.text.now o.at p.at q.at c.peek-first.result c.peek-next.result o.out p.out q.out c.requires c.peek-first.ensures c.in-Open.is c.peek-next.ensures c.in_default-token.not-Pcdata h.0 m.0, m.1)

pub returns-in_default : goal.returns-in_default
returns-in_default c =
    let o = c.args.self.now in
    let p = c.peek-first.ensures in
    let r = c.peek-first.result in
    let f = c.refuse.ensures in
    elim c.in_default.branch [
      | in_default-via-in-Name+else-is_empty w ↦
          refused_open r c.refuse.result p f (open_word o.text.now o.at r w.in-Name.name p w.in-Name.is (λ e. not_both (w.if-is_empty.ensures.1 e) refl))
      | in_default-via-in_default w ↦
          refused_open r c.refuse.result p f (c_none p.white (λ e. let z = seen r word p e in w.in_default.not-Name z.0 z.1) (λ e. w.in_default.not-Open (seen r opens p e)))
    ]
