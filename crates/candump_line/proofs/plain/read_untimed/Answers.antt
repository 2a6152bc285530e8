use Rattle.std.proofs.Common.{◌∷◌, length, lit<, ap, sym, ◌∙◌}
use Rattle.std.proofs.lemmas.Str.Pattern.{contains_char}
use Rattle.can_frame.specs.FrameText.{id_text}
use Rattle.candump_line.specs.Words.{words_of}
use Rattle.candump_line.proofs.BytesLemmas.{mark_at, no_mark_in, second_of_id}
use Rattle.candump_line.proofs.FormLemmas.{not_counted}
use Rattle.candump_line.proofs.WordLemmas.{cons_same}
use Rattle.candump_line.proofs.plain.read_untimed.Goals as goal

pub returns-then-contains-clause-apart : goal.returns-then-contains-clause-apart
returns-then-contains-clause-apart c = λ f lawful e.
    let first = cons_same _ _ _ _ (sym c.in-Some.ensures ∙ ap words_of c.split_ascii_whitespace-words.ensures.text ∙ e) in
    let mark = (contains_char 35 _ _ c.contains.ensures.cases (lit< tt)).0 c.if-contains.true in
    absurd (no_mark_in _ f.id mark.0 first.0 mark.1 mark.2)

pub returns-then-has_length-clause-apart : goal.returns-then-has_length-clause-apart
returns-then-has_length-clause-apart c = λ f lawful e.
    let none = not_counted _ f _ c.has_length.ensures.counted c.has_length.ensures.short e in
    let some = c.if-has_length.true in
    absurd cc

pub returns-clause-counted : goal.returns-clause-counted
returns-clause-counted c = λ bus words f long dark e h.
    let some = c.has_length.ensures.counted bus (id_text f.id) _ h.flags _ h.before (second_of_id f.id) (e ∙ ap (λ ws. bus ∷ ws) h.laid) in
    let none = c.if-has_length.false in
    absurd cc

pub returns-clause-joined : goal.returns-clause-joined
returns-clause-joined c = λ f long h.
    let first = cons_same _ _ _ _ (sym c.in-Some.ensures ∙ ap words_of c.split_ascii_whitespace-words.ensures.text ∙ h.laid) in
    let mark = mark_at _ h.bytes f.id first.0 in
    let there = (contains_char 35 _ _ c.contains.ensures.cases (lit< tt)).1 (length (id_text f.id)) mark.0 mark.1 in
    let none = c.if-contains.false in
    absurd cc
