use Rattle.std.proofs.Common.{drop, ap, ◌∙◌}
use Rattle.candump_line.specs.Words.{front_word, words_of}
use Rattle.candump_line.proofs.DroppedLemmas.{count_told, dropped_parts, next_left, pair_told}
use Rattle.candump_line.proofs.dropped.read_dropped.Goals as goal

pub returns : goal.returns
returns c = λ bus count h small.
    let parts = dropped_parts _ bus count h in
    let one = next_left _ _ _ c.next_word-dropped.ensures ∙ ap (λ t. drop 1 (words_of t)) c.split_ascii_whitespace-words.ensures.text in
    let two = c.word_or_empty.ensures.rest ∙ ap (drop 1) one in
    let three = next_left _ _ _ c.next_word-can.ensures ∙ ap (drop 1) two in
    let four = next_left _ _ _ c.next_word-frames.ensures ∙ ap (drop 1) three in
    let five = next_left _ _ _ c.next_word-on.ensures ∙ ap (drop 1) four in
    let counted = count_told _ _ _ count c.as_bytes.ensures.value (c.word_or_empty.ensures.word ∙ ap front_word one ∙ parts.0) c.count_of-count.ensures.counted small in
    pair_told _ _ count bus (c.unquoted-bus.ensures bus (c.word_or_empty-2.ensures.word ∙ ap front_word five ∙ parts.1)) counted
