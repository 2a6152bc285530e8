use Rattle.std.proofs.Common.{◌≡◌, ◌∙◌, [], None, Some, ap, sym, refl}
use Rattle.script_line.specs.Grammar.{all_bytes, byte_words, frame_words}
use Rattle.script_line.specs.Line.{script_words}
use Rattle.script_line.specs.Spelled.{frame_spelled}
use Rattle.script_line.proofs.SpellingLemmas.{frame_of_nine}
use Rattle.script_line.proofs.SplitLemmas.{no_words}
use Rattle.script_line.proofs.frames.read_frame.Goals as goal

pub returns-in_err-id : goal.returns-in_err-id
unfolding frame_words
returns-in_err-id c = rw (c.in_err-id.ensures.read, c.from_residual.ensures) refl

pub returns-in_err-bytes : goal.returns-in_err-bytes
unfolding frame_words byte_words
returns-in_err-bytes c =
    let text = c.as_bytes.ensures.value ∙ c.take_rest.ensures.all in
    let none : all_bytes (script_words c.next_identifier.new.words.rest.now) ≡ None = ap (λ t. all_bytes (script_words t)) (sym text) ∙ c.in_err-bytes.ensures.kept in
    rw (c.in_ok-id.ensures.read, none, c.from_residual-in_err-bytes.ensures) refl

pub returns : goal.returns
unfolding frame_words byte_words
returns c =
    let text = c.as_bytes.ensures.value ∙ c.take_rest.ensures.all in
    let kept = c.in_ok-bytes.ensures.kept in
    let all : all_bytes (script_words c.next_identifier.new.words.rest.now) ≡ Some kept.0 = ap (λ t. all_bytes (script_words t)) (sym text) ∙ kept.1 in
    let made = c.frame_of.ensures in
    rw (c.in_ok-id.ensures.read, all, c.take_rest.ensures.none, no_words)
    (ap (λ f. Some (f, [])) (sym (made ∙ ap (frame_spelled c.in_ok-id.id) kept.2 ∙ frame_of_nine c.in_ok-id.id kept.0)))
