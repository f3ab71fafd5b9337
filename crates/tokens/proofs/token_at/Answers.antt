use Rattle.std.proofs.Common.{◌≡◌, Bool, true, false, cond, codes, rules, refl, ap, ◌∙◌, arith}
use Rattle.std.proofs.lemmas.List.{take_rest}
use Rattle.symbols.specs.Rule.{inner}
use Rattle.tokens.specs.Bytes.{class_of}
use Rattle.tokens.specs.Tokens.{begins, pcdata, stray, pcdata_at}
use Rattle.tokens.proofs.Runs.{class_tok, named}
use Rattle.tokens.proofs.token_at.Goals as goal

pub returns-in-NameStart-clause-held : goal.returns-in-NameStart-clause-held
returns-in-NameStart-clause-held c = named _ _ _ (omega arith) (c.run_end-end.ensures.inside (omega (arith, c.in-Some.ensures.lookup.3.0))) (c.run_end-end.ensures.longest inner (λ b r h. search rules) refl)

pub returns-in-Hash-clause-is : goal.returns-in-Hash-clause-is
returns-in-Hash-clause-is c =
    let t = c.args.text.now in
    let there = c.in-Some.ensures.lookup.3 in
    let yes' : true ≡ pcdata_at t c.args.at = c.if-is_pcdata.ensures ∙ ap (begins (codes "#PCDATA")) (take_rest t c.args.at) in
    ap (λ (v : Bool). cond v pcdata stray) yes' ∙ class_tok _ _ _ there.0 (c.in-Hash.ensures ∙ ap class_of (there.1 0))

pub returns-in-Hash-2-clause-is : goal.returns-in-Hash-2-clause-is
returns-in-Hash-2-clause-is c =
    let t = c.args.text.now in
    let there = c.in-Some.ensures.lookup.3 in
    let no' : false ≡ pcdata_at t c.args.at = c.if-is_pcdata.ensures ∙ ap (begins (codes "#PCDATA")) (take_rest t c.args.at) in
    ap (λ (v : Bool). cond v pcdata stray) no' ∙ class_tok _ _ _ there.0 (c.in-Hash.ensures ∙ ap class_of (there.1 0))
