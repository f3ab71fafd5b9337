use Rattle.std.proofs.Common.{rules, ◌≡◌, ℕ, ◌-◌, length, take, drop, ap, ◌∙◌}
use Rattle.std.specs.List.{prefix_len}
use Rattle.std.proofs.lemmas.Iterator.{YieldsList-from_slice}
use Rattle.std.proofs.lemmas.Iterator.Consumers.{count_from_yields_List}
use Rattle.std.proofs.lemmas.Iterator.Search.{YieldsList-from_take_while}
use Rattle.std.proofs.lemmas.List.{drop_min, take_rest}
use Rattle.std.proofs.lemmas.List.Folds.{length-prefix_len}
use Rattle.tokens.proofs.Runs.{longest_run}
use Rattle.tokens.proofs.run_end.Goals as goal

pub returns-clause-longest : goal.returns-clause-longest
returns-clause-longest g c p t z =
    let text = c.args.text.now in
    let rest = drop c.args.at text in
    let e : take (length text - c.min.result) (drop c.min.result text) ≡ rest = take_rest text c.min.result ∙ ap (λ (k : ℕ). drop k text) c.min.ensures ∙ drop_min c.args.at text in
    let n : c.count.result ≡ prefix_len p rest = count_from_yields_List c.take_while.result _ c.count.ensures.ran (YieldsList-from_take_while _ p (YieldsList-from_slice rest (cc)) c.take_while.ensures.closure c.take_while.ensures.done (λ x b q k. search (rules, t))) ∙ length-prefix_len p rest in
    rw n (longest_run p text c.args.at z)
