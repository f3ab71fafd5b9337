use Rattle.std.proofs.Common.{◌≡◌, ◌+◌, ◌-◌, refl, subst, arith, ℕ, List}
use Rattle.std.proofs.lemmas.Result.{err_from_is_err_and}
use Rattle.codes.specs.Code.{code_number}
use Rattle.tokens.specs.Tokens.{word, opens, Peeked}
use Rattle.tokens.specs.declared.types.Token.TheVariants.{Open}
use Rattle.grammar.specs.Reads.{body, onward, too_deep, p_deep, p_group_bad, p_none, b_bad}
use Rattle.text_reader.specs.Output.{names_in}
use Rattle.text_reader.specs.Parts.{Did}
use Rattle.text_reader.specs.declared.reader.Reader.{Reader}
use Rattle.text_reader.proofs.Steps.{seen, is_tok, in_name, in_name_bad, in_group, in_body, in_close, in_next, in_next_bad, in_none, refused, passes, mark_behind}
use Rattle.text_reader.proofs.reader.Reader.+read_body_read_more_read_particle.Goals as goal
use Rattle.text_reader.proofs.reader.Reader.+read_body_read_more_read_particle.Goals.{read_particle-in-Name+in_ok-take_name-in-Name, read_particle-in-Open-2+in_ok-read_body-in-Open-2}

pub read_body-returns-in_err-read_particle : goal.read_body-returns-in_err-read_particle
read_body-returns-in_err-read_particle t c =
    let z = err_from_is_err_and c.from_residual.result c.from_residual.ensures.1 in
    let h = c.in_err-read_particle.ensures in
    rw (z.1, z.2) (h.0, h.1, b_bad h.2, h.3)

pub read_body-returns : goal.read_body-returns
read_body-returns t c =
    let o = c.args.self.now in
    let p = c.read_particle.new.self in
    let q = c.read_more.new.self in
    let h = c.in_ok-read_particle.ensures in
    let next : Peeked o.text.now p.at c.peek.result = subst (λ (v : List ℕ). Peeked v p.at c.peek.result) h.1 c.peek.ensures in
    passes (Did (onward c.chain_of-chain.result) c.args.depth) (Did body c.args.depth) o p q c.read_more.result h.1
    (λ y m. in_body o.text.now c.args.depth o.at p.at c.peek.result c.chain_of-chain.result o.out p.out q.out y h.0 next c.chain_of-chain.ensures m) c.read_more.ensures

pub read_more-returns-in_err-read_particle-in_default : goal.read_more-returns-in_err-read_particle-in_default
read_more-returns-in_err-read_particle-in_default t c =
    let z = err_from_is_err_and c.from_residual.result c.from_residual.ensures.1 in
    let o = c.args.self.now in
    rw (z.1, z.2) (in_next_bad o.text.now c.args.chain c.args.depth o.at c.peek-next.result o.out c.in_err-read_particle-in_default.field-0.0 c.peek-next.ensures c.if-is_sign.ensures c.in_err-read_particle-in_default.ensures)

pub read_more-returns-in-Close : goal.read_more-returns-in-Close
read_more-returns-in-Close t c = let o = c.args.self.now in (in_close o.text.now c.args.chain c.args.depth o.at c.peek-next.result o.out c.peek-next.ensures c.in-Close.is, refl)

pub read_more-returns-in_ok-read_particle-in_default : goal.read_more-returns-in_ok-read_particle-in_default
read_more-returns-in_ok-read_particle-in_default t c =
    let o = c.args.self.now in
    let p = c.read_particle.new.self in
    let q = c.read_more.new.self in
    let h = c.in_ok-read_particle-in_default.ensures in
    let there : Reader = record { text = p.text; at = p.at; out = c.push.new.self } in
    passes (Did (onward c.args.chain) c.args.depth) (Did (onward c.args.chain) c.args.depth) o there q c.read_more.result h.1
    (λ y m. in_next o.text.now c.args.chain c.args.depth o.at p.at c.peek-next.result (code_number c.into.result) o.out p.out there.out q.out y c.peek-next.ensures c.if-is_sign.ensures h.0 c.into.ensures c.push.ensures m) c.read_more.ensures

pub read_more-returns-in_default-2 : goal.read_more-returns-in_default-2
read_more-returns-in_default-2 t c =
    let o = c.args.self.now in
    refused c.peek-next.result c.refuse.result c.peek-next.ensures c.refuse.ensures (in_none o.text.now c.args.chain c.args.depth o.at (names_in o.out) c.peek-next.result c.peek-next.ensures c.in_default-2.not-Close c.if-is_sign.ensures)

pub read_particle-returns-in_err-take_name-in-Name : goal.read_particle-returns-in_err-take_name-in-Name
read_particle-returns-in_err-take_name-in-Name t c =
    let z = err_from_is_err_and c.from_residual.result c.from_residual.ensures.1 in
    let o = c.args.self.now in
    rw (z.1, z.2) (in_name_bad o.text.now c.args.depth o.at c.peek-next.result c.in-Name.name o.out c.take_name.new.self.out c.in_err-take_name-in-Name.field-0.0 c.peek-next.ensures c.in-Name.is c.in_err-take_name-in-Name.ensures)

pub read_particle-returns-in-Open : goal.read_particle-returns-in-Open
read_particle-returns-in-Open t c = let a = c.peek-next.ensures in (too_deep, c.peek-next.result.at, p_deep a.white (is_tok c.peek-next.result Open a c.in-Open.is) c.if-depth-eq0.true, refl)

pub read_particle-returns-in_err-read_body-in-Open-2 : goal.read_particle-returns-in_err-read_body-in-Open-2
read_particle-returns-in_err-read_body-in-Open-2 t c =
    let z = err_from_is_err_and c.from_residual-in_err-read_body-in-Open-2.result c.from_residual-in_err-read_body-in-Open-2.ensures.1 in
    let a = c.peek-next.ensures in
    let down : c.args.depth ≡ c.args.depth - 1 + 1 = omega arith in
    let h = c.in_err-read_body-in-Open-2.ensures in
    rw (z.1, z.2) (h.0, h.1, p_group_bad a.white (is_tok c.peek-next.result Open a c.in-Open-2.is) down h.2, h.3)

pub read_particle-returns-in_default : goal.read_particle-returns-in_default
read_particle-returns-in_default t c =
    let p = c.peek-next.ensures in
    let r = c.peek-next.result in
    refused r c.refuse.result p c.refuse.ensures (p_none p.white (λ e. let z = seen r word p e in c.in_default.not-Name z.0 z.1) (λ e. c.in_default.not-Open (seen r opens p e)))

pub read_particle-returns : goal.read_particle-returns
read_particle-returns t c =
    let o = c.args.self.now in
    let r = c.peek-next.result in
    let q = c.read_mark.new.self in
    elim c.match-next.branch [
      | read_particle-in-Name+in_ok-take_name-in-Name w ↦
          let p = w.take_name.new.self in
          let h = w.in_ok-take_name-in-Name.ensures in
          let m = mark_behind o p c.match-next.self q w.self-is h.1 c.read_mark.ensures in
          (in_name o.text.now c.args.depth o.at p.at q.at r w.in-Name.name o.out p.out q.out c.peek-next.ensures w.in-Name.is h.0 m.0, m.1)
      | read_particle-in-Open-2+in_ok-read_body-in-Open-2 w ↦
          let p = w.read_body.new.self in
          let h = w.in_ok-read_body-in-Open-2.ensures in
          let m = mark_behind o p c.match-next.self q w.self-is h.1 c.read_mark.ensures in
          (in_group o.text.now c.args.depth (c.args.depth - 1) o.at p.at q.at r o.out p.out q.out c.peek-next.ensures w.in-Open-2.is (omega (arith, w.if-depth-eq0.false)) h.0 m.0, m.1)
    ]
