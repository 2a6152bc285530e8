use Rattle.std.proofs.Common.{◌++◌, ◌∷◌, length, map, sym, ◌∙◌}
use Rattle.can_frame.specs.FrameText.{id_text}
use Rattle.candump_line.specs.Forms.{count_word}
use Rattle.candump_line.specs.LineText.{byte_digits}
use Rattle.candump_line.proofs.BytesLemmas.{second_of_id}
use Rattle.candump_line.proofs.WordLemmas.{cons_same, not_nil}
use Rattle.candump_line.proofs.plain.read_counted_words.Goals as goal

pub returns-in_default : goal.returns-in_default
returns-in_default c = λ f long h.
    absurd (rw c.in_default.is at (c.next_behind_direction.ensures.reads h.flags (count_word (length f.bytes) ∷ (map byte_digits f.bytes ++ h.remarks)) (id_text f.id) h.before (second_of_id f.id) h.laid))

pub returns-in_default-next_word : goal.returns-in_default-next_word
returns-in_default-next_word c = λ f long h.
    let id = c.in-Some.ensures.reads h.flags (count_word (length f.bytes) ∷ (map byte_digits f.bytes ++ h.remarks)) (id_text f.id) h.before (second_of_id f.id) h.laid in
    absurd (not_nil _ _ _ id.1 c.in_default-next_word.ensures.0)

pub returns : goal.returns
returns c = λ f long h.
    let id = c.in-Some.ensures.reads h.flags (count_word (length f.bytes) ∷ (map byte_digits f.bytes ++ h.remarks)) (id_text f.id) h.before (second_of_id f.id) h.laid in
    let count = cons_same _ _ _ _ (sym c.in-Some-next_word.ensures ∙ id.1) in
    c.read_counted.ensures f h.remarks long h.behind id.0 count.0 count.1
