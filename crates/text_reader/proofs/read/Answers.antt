use Rattle.std.proofs.Common.{Ok, refl, rules}
use Rattle.std.proofs.lemmas.Result.{err_from_is_err_and}
use Rattle.std.proofs.lemmas.Slice.{drop-append-drop}
use Rattle.text_reader.specs.Answer.{Fits, few_codes, few_names, long_text}
use Rattle.text_reader.proofs.Final.{taken, refused_by, exact, unreadable}
use Rattle.text_reader.proofs.read.Goals as goal

pub returns-then-codes-lt-MOST_CODES : goal.returns-then-codes-lt-MOST_CODES
returns-then-codes-lt-MOST_CODES c =
    let r = few_codes c.if-codes-lt-MOST_CODES.true in
    record { answer = (r, refl, refl); exact = unreadable r }

pub returns-then-names-lt-MOST_NAMES : goal.returns-then-names-lt-MOST_NAMES
returns-then-names-lt-MOST_NAMES c =
    let r = few_names c.if-codes-lt-MOST_CODES.false c.if-names-lt-MOST_NAMES.true in
    record { answer = (r, refl, refl); exact = unreadable r }

pub returns-then-text-gt-MOST_TEXT : goal.returns-then-text-gt-MOST_TEXT
returns-then-text-gt-MOST_TEXT c =
    let r = long_text c.if-codes-lt-MOST_CODES.false c.if-names-lt-MOST_NAMES.false c.if-text-gt-MOST_TEXT.true in
    record { answer = (r, refl, refl); exact = unreadable r }

pub returns-in_err-read_whole : goal.returns-in_err-read_whole
returns-in_err-read_whole c =
    let z = err_from_is_err_and c.from_residual.result c.from_residual.ensures.1 in
    let f : Fits c.args.text.now c.args.codes.now c.args.names.now = record { codes = c.if-codes-lt-MOST_CODES.false; names = c.if-names-lt-MOST_NAMES.false; short = c.if-text-gt-MOST_TEXT.false } in
    let h = c.in_err-read_whole.ensures in
    let r = refused_by c.args.text.now c.args.codes.now c.args.names.now h.0 h.1 c.in_err-read_whole.field-0.0 f h.2 h.3 in
    rw (z.1, z.2) (record { answer = (r, refl, refl); exact = unreadable r })

pub returns-clause-answer : goal.returns-clause-answer
returns-clause-answer c =
    let o = c.read_whole.new.self.out in
    let d = c.in_ok-read_whole.ensures.0 in
    let f : Fits c.args.text.now c.args.codes.now c.args.names.now = record { codes = c.if-codes-lt-MOST_CODES.false; names = c.if-names-lt-MOST_NAMES.false; short = c.if-text-gt-MOST_TEXT.false } in (
      d.0,
      d.1,
      taken c.args.text.now c.args.codes.now c.args.names.now o c.read_whole.new.self.at d.0 d.1 (record { codes = c.len.result; names = c.len-2.result }) _ _ f d.2 d.3 d.4 c.len.ensures.value c.len-2.ensures.value
          (search (rules, drop-append-drop)) (search (rules, drop-append-drop)),
    )

pub returns-clause-exact : goal.returns-clause-exact
returns-clause-exact c = exact c.args.text.now c.args.codes.now c.args.names.now (Ok (record { codes = c.len.result; names = c.len-2.result })) _ _ (returns-clause-answer c)
