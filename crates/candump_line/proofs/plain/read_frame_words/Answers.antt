use Rattle.std.proofs.Common.{length, lit<}
use Rattle.std.proofs.lemmas.Str.Pattern.{contains_char}
use Rattle.can_frame.specs.FrameText.{id_text}
use Rattle.candump_line.proofs.BytesLemmas.{mark_at, no_mark_in}
use Rattle.candump_line.proofs.plain.read_frame_words.Goals as goal

pub returns-then-contains-clause-counted : goal.returns-then-contains-clause-counted
returns-then-contains-clause-counted c = λ f remarks long remark e laid.
    let mark = (contains_char 35 _ _ c.contains.ensures.cases (lit< tt)).0 c.if-contains.true in
    absurd (no_mark_in _ f.id mark.0 e mark.1 mark.2)

pub returns-in_default-clause-joined : goal.returns-in_default-clause-joined
returns-in_default-clause-joined c = λ f bytes long spelled e side.
    let mark = mark_at _ bytes f.id e in
    let there = (contains_char 35 _ _ c.contains.ensures.cases (lit< tt)).1 (length (id_text f.id)) mark.0 mark.1 in
    let none = c.if-contains.false in
    absurd cc
