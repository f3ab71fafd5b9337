use Rattle.std.proofs.Common.{◌<◌, length, ℕ, ◌≡◌, List, refl, subst, ◌∙◌}
use Rattle.std.proofs.lemmas.Result.{err_from_is_err_and}
use Rattle.tokens.specs.Tokens.{closes, bar, tok, star, token_of, Peeked}
use Rattle.tokens.proofs.Runs.{not_both}
use Rattle.grammar.specs.Reads.{Reads, listed, x_none}
use Rattle.text_reader.specs.Output.{names_in}
use Rattle.text_reader.specs.Parts.{Refuses}
use Rattle.text_reader.proofs.Steps.{Good, seen, refused_mix, mix_text, mix_star, mix_name_bad, mix_list_bad, mix_names, mix_no_star}
use Rattle.text_reader.proofs.reader.Reader.read_mixed.Goals as goal
use Rattle.text_reader.proofs.reader.Reader.read_mixed.Goals.{in-Star, in_default-matches}

pub returns-in_err-read_name-in-Bar : goal.returns-in_err-read_name-in-Bar
returns-in_err-read_name-in-Bar c =
    let z = err_from_is_err_and c.from_residual.result c.from_residual.ensures.1 in
    let o = c.args.self.now in
    rw (z.1, z.2) (mix_name_bad o.text.now o.at c.peek-next.result c.in_err-read_name-in-Bar.field-0.0 o.out c.peek-next.ensures c.in-Bar.is c.requires c.in_err-read_name-in-Bar.ensures)

pub returns-in_err-read_names-in-Bar : goal.returns-in_err-read_names-in-Bar
returns-in_err-read_names-in-Bar c =
    let z = err_from_is_err_and c.from_residual-in_err-read_names-in-Bar.result c.from_residual-in_err-read_names-in-Bar.ensures.1 in
    let o = c.args.self.now in
    let p = c.read_name.new.self in
    let x = c.in_err-read_names-in-Bar.field-0.0 in
    let h = c.in_ok-read_name-in-Bar.ensures in
    let l = subst (λ (t : List ℕ). Refuses (λ y. Reads t listed 15 p.at (names_in p.out) y) x) h.1 c.in_err-read_names-in-Bar.ensures in
    rw (z.1, z.2) (mix_list_bad o.text.now o.at p.at c.peek-next.result x o.out p.out c.peek-next.ensures c.in-Bar.is c.requires h.0 l)

pub returns-then-matches : goal.returns-then-matches
returns-then-matches c =
    let o = c.args.self.now in
    elim c.match-matches.branch [
      | in-Star w ↦
          (mix_star o.text.now o.at c.peek-next.result o.out c.push.new.self c.peek-next.ensures c.in-Close.is w.in-Star.ensures.is w.in-Star.ensures.held c.push.ensures, refl)
      | in_default-matches w ↦ absurd (not_both c.if-matches.true w.matches-is)
    ]

pub returns-else-matches : goal.returns-else-matches
returns-else-matches c =
    let o = c.args.self.now in
    elim c.match-matches.branch [
      | in-Star w ↦ absurd (not_both w.matches-is c.if-matches.false)
      | in_default-matches w ↦
          (mix_text o.text.now o.at c.peek-next.result c.token_at.result o.out c.push.new.self c.peek-next.ensures c.in-Close.is c.token_at.ensures.is w.in_default-matches.not-Star c.push.ensures, refl)
    ]

pub returns-in-Star-token_at : goal.returns-in-Star-token_at
returns-in-Star-token_at c =
    let o = c.args.self.now in
    let p = c.read_name.new.self in
    let q = c.read_names.new.self in
    let h = c.in_ok-read_name-in-Bar.ensures in
    let l = c.in_ok-read_names-in-Bar.ensures in
    let same : q.text.now ≡ o.text.now = l.1 ∙ h.1 in
    let list = subst (λ (t : List ℕ). Good t listed 15 p.at p.out q.at q.out) h.1 l.0 in
    let marked = subst (λ (t : List ℕ). star ≡ tok t q.at) same c.in-Star-token_at.ensures.is in
    let held = subst (λ (t : List ℕ). q.at < length t) same c.in-Star-token_at.ensures.held in
    (mix_names o.text.now o.at p.at q.at c.peek-next.result o.out p.out q.out c.push-in-Star-token_at.new.self c.peek-next.ensures c.in-Bar.is c.requires h.0 list marked held c.push-in-Star-token_at.ensures, same)

pub returns-in_default-token_at : goal.returns-in_default-token_at
returns-in_default-token_at c =
    let o = c.args.self.now in
    let p = c.read_name.new.self in
    let q = c.read_names.new.self in
    let h = c.in_ok-read_name-in-Bar.ensures in
    let l = c.in_ok-read_names-in-Bar.ensures in
    let same : q.text.now ≡ o.text.now = l.1 ∙ h.1 in
    let list = subst (λ (t : List ℕ). Good t listed 15 p.at p.out q.at q.out) h.1 l.0 in
    let is = subst (λ (t : List ℕ). token_of c.token_at-in-Bar.result ≡ tok t q.at) same c.token_at-in-Bar.ensures.is in
    let next = subst (λ (t : List ℕ). Peeked t q.at c.peek.result) same c.peek.ensures in
    refused_mix c.peek.result c.refuse.result next c.refuse.ensures
    (mix_no_star o.text.now o.at p.at q.at c.peek-next.result c.peek.result c.token_at-in-Bar.result o.out p.out q.out c.peek-next.ensures c.in-Bar.is c.requires h.0 list is c.in_default-token_at.not-Star next)

pub returns-in_default : goal.returns-in_default
returns-in_default c =
    let p = c.peek-next.ensures in
    let r = c.peek-next.result in
    refused_mix r c.refuse-in_default.result p c.refuse-in_default.ensures (x_none p.white (λ e. c.in_default.not-Close (seen r closes p e)) (λ e. c.in_default.not-Bar (seen r bar p e)))
