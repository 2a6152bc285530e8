use Rattle.std.proofs.Common.{[], ◌++◌, ◌∷◌, length, map, Some, ⊎_elim, ap, sym, ◌∙◌}
use Rattle.can_frame.specs.FrameText.{id_text}
use Rattle.candump_line.specs.Forms.{count_word, IsCountedFrame, IsJoinedFrame}
use Rattle.candump_line.specs.LineText.{byte_digits}
use Rattle.candump_line.specs.Words.{words_of}
use Rattle.candump_line.proofs.BytesLemmas.{second_of_id}
use Rattle.candump_line.proofs.FormLemmas.{says_as, second_of_joined, side_left}
use Rattle.candump_line.proofs.WordLemmas.{cons_same}
use Rattle.candump_line.proofs.plain.read_seen.Goals as goal

pub returns-in_default-next_behind_direction : goal.returns-in_default-next_behind_direction
returns-in_default-next_behind_direction c = λ bus words f long e form.
    let first = cons_same _ _ _ _ (sym c.in-Some.ensures ∙ ap words_of c.split_ascii_whitespace-words.ensures.text ∙ e) in
    absurd (⊎_elim
    (λ (h : IsCountedFrame words f). rw c.in_default-next_behind_direction.is at (c.next_behind_direction.ensures.reads h.flags (count_word (length f.bytes) ∷ (map byte_digits f.bytes ++ h.remarks)) (id_text f.id) h.before (second_of_id f.id) (first.1 ∙ h.laid)))
    (λ (h : IsJoinedFrame words f). rw c.in_default-next_behind_direction.is at (c.next_behind_direction.ensures.reads [] h.side (id_text f.id ++ 35 ∷ h.bytes) tt (second_of_joined f.id (35 ∷ h.bytes)) (first.1 ∙ h.laid)))
    form)

pub returns : goal.returns
returns c = λ bus words f long e form.
    let first = cons_same _ _ _ _ (sym c.in-Some.ensures ∙ ap words_of c.split_ascii_whitespace-words.ensures.text ∙ e) in
    says_as _ _ _ _ _ _ (ap Some first.0) (⊎_elim
    (λ (h : IsCountedFrame words f).
    let id = c.in-Some-next_behind_direction.ensures.reads h.flags (count_word (length f.bytes) ∷ (map byte_digits f.bytes ++ h.remarks)) (id_text f.id) h.before (second_of_id f.id) (first.1 ∙ h.laid) in
    c.read_frame_words.ensures.counted f h.remarks long h.behind id.0 id.1)
    (λ (h : IsJoinedFrame words f).
    let word = c.in-Some-next_behind_direction.ensures.reads [] h.side (id_text f.id ++ 35 ∷ h.bytes) tt (second_of_joined f.id (35 ∷ h.bytes)) (first.1 ∙ h.laid) in
    c.read_frame_words.ensures.joined f h.bytes long h.spelled word.0 (side_left _ h.side word.1 h.behind))
    form) c.line_of.ensures
