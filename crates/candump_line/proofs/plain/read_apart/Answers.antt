use Rattle.std.proofs.Common.{[], ◌∷◌, length, ap, ◌∙◌}
use Rattle.candump_line.proofs.FormLemmas.{long_of}
use Rattle.candump_line.proofs.BytesLemmas.{group_fits, leaves_more_words, length-byte, not_failed, ok_same, one_byte, word_read, words_read}
use Rattle.candump_line.proofs.plain.read_apart.Goals.{then-word-ne2-via-then-word-ne2, then-word-ne2-via-else-word-ne2+then-is_err}
use Rattle.candump_line.proofs.plain.read_apart.Goals as goal

pub returns-then-word-ne2 : goal.returns-then-word-ne2
returns-then-word-ne2 c = λ f lawful same e.
    let read = word_read _ _ _ _ f.bytes (c.loop-word.invariant f lawful e) c.in-Some.ensures in
    let fits = group_fits _ (read.0 ∷ []) _ f.bytes read.2.whole lawful.bytes lawful.len in
    elim c.then-word-ne2.branch [
      | then-word-ne2-via-then-word-ne2 w ↦ absurd (w.if-word-ne2.true (ap length read.1 ∙ length-byte read.0))
      | then-word-ne2-via-else-word-ne2+then-is_err w ↦
          let added = w.add.ensures (read.0 ∷ []) fits.0 fits.1 (one_byte _ read.0 read.1) in
          absurd (not_failed _ _ _ w.is_err.ensures.value w.if-is_err.true added.0)
    ]

pub loop-word-preserved : goal.loop-word-preserved
loop-word-preserved c = λ f lawful e.
    let read = word_read _ _ _ _ f.bytes (c.loop-word.invariant f lawful e) c.in-Some.ensures in
    let fits = group_fits _ (read.0 ∷ []) _ f.bytes read.2.whole lawful.bytes lawful.len in
    leaves_more_words _ _ _ f.bytes (c.add.ensures (read.0 ∷ []) fits.0 fits.1 (one_byte _ read.0 read.1)).1 read.2

pub returns : goal.returns
returns c = λ f lawful same e.
    let whole = words_read _ _ f.bytes (c.loop-word.invariant f lawful e) c.in_default-next_word.ensures.0 in
    let long = long_of f lawful in
    c.content_of.ensures.told f long (ok_same _ _ (rw c.in-Ok-Long.field-0-is at (c.in-Ok-Long.ensures.reads f.id long.id same))) (c.as_slice.ensures ∙ whole)
