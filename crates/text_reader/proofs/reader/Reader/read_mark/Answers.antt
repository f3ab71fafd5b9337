use Rattle.std.proofs.Common.{◌<◌, [], ◌∷◌, length, sym, refl, ap, ◌∙◌, arith}
use Rattle.codes.specs.Code.{code_number}
use Rattle.tokens.specs.Tokens.{query, star, plus, tok}
use Rattle.grammar.specs.Reads.{MarkTok, query_4, star_5, plus_6, none, one}
use Rattle.text_reader.proofs.Outputs.{still}
use Rattle.text_reader.proofs.Steps.{again}
use Rattle.text_reader.proofs.reader.Reader.read_mark.Goals as goal
use Rattle.text_reader.proofs.reader.Reader.read_mark.Goals.{in-Query, in-Star, in-Plus}

pub returns-in_default : goal.returns-in_default
returns-in_default c =
    let e = c.token_at.ensures.is in
    (([], none (λ m k. elim k [ query_4 f _ ↦ c.in_default.not-Query (again c.token_at.result query (e ∙ f)) | star_5 f _ ↦ c.in_default.not-Star (again c.token_at.result star (e ∙ f)) | plus_6 f _ ↦ c.in_default.not-Plus (again c.token_at.result plus (e ∙ f)) ]), omega arith, c.requires, still _), refl)

pub returns : goal.returns
returns c =
    let h : MarkTok (tok c.args.self.now.text.now c.args.self.now.at) (code_number c.match-token_at.code) = elim c.match-token_at.branch [ in-Query w ↦ query_4 (sym w.in-Query.ensures.is) (ap code_number w.code-is) | in-Star w ↦ star_5 (sym w.in-Star.ensures.is) (ap code_number w.code-is) | in-Plus w ↦ plus_6 (sym w.in-Plus.ensures.is) (ap code_number w.code-is) ] in
    let i : c.args.self.now.at < length c.args.self.now.text.now = elim c.match-token_at.branch [ in-Query w ↦ w.in-Query.ensures.held | in-Star w ↦ w.in-Star.ensures.held | in-Plus w ↦ w.in-Plus.ensures.held ] in
    ((code_number c.match-token_at.code ∷ [], one h, omega arith, omega arith, c.push.ensures), refl)
