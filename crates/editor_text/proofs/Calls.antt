-- The calls have one answer, since the reader and the writer do. Assumes nothing.
use Rattle.std.proofs.Common.{sym, ap, ◌∙◌}
use Rattle.text_reader.proofs.Final.{one_answer}
use Rattle.text_writer.proofs.Answered as answered
use Rattle.editor_text.specs.Calls.{number_of, counts_of, length_of, OneRead, OneWrite}

pub one_read : OneRead
one_read text cs rs n n' t t' c c' r r' p q =
    let one = one_answer text cs rs p.result q.result c c' r r' p.answer q.answer in (
      q.number ∙ ap number_of one.0 ∙ sym p.number,
      q.tells ∙ ap counts_of one.0 ∙ sym p.tells,
      one.1,
      one.2,
    )

pub one_write : OneWrite
one_write cs rs out n n' t t' o o' p q =
    let one = answered.one_answer cs rs out p.result q.result o o' p.answer q.answer in (
      q.number ∙ ap number_of one.0 ∙ sym p.number,
      q.tells ∙ ap length_of one.0 ∙ sym p.tells,
      one.1,
    )
