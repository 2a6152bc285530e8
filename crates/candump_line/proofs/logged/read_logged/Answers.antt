use Rattle.std.proofs.Common.{◌∷◌, drop, subst, lit≤, ap, sym, ◌∙◌}
use Rattle.candump_line.specs.LineText.{ticks_text, IsBusName}
use Rattle.candump_line.proofs.LineLemmas.{at_line, dark_bus, some_same, three_same, tail2, tail4}
use Rattle.candump_line.proofs.LoggedLemmas.{logged_parts}
use Rattle.candump_line.proofs.logged.read_logged.Goals as goal

pub returns-in_err-rest-clause-reads : goal.returns-in_err-rest-clause-reads
returns-in_err-rest-clause-reads c = λ digits ticks bus f three small named lawful e.
    absurd (c.in_err-rest.ensures _ (at_line _ (ticks_text digits ticks) bus f e))

pub returns-in_err-micros-clause-reads : goal.returns-in_err-micros-clause-reads
returns-in_err-micros-clause-reads c = λ digits ticks bus f three small named lawful e.
    let one = ap (drop 1) (sym c.in_ok-rest.ensures ∙ at_line _ (ticks_text digits ticks) bus f e) in
    absurd (rw c.in_err-micros.was at (c.leading_micros.ensures.reads digits ticks (41 ∷ tail2 bus f) three small (lit≤ tt) one))

pub returns-in_err-rest-2-clause-reads : goal.returns-in_err-rest-2-clause-reads
returns-in_err-rest-2-clause-reads c = λ digits ticks bus f three small named lawful e.
    let one = ap (drop 1) (sym c.in_ok-rest.ensures ∙ at_line _ (ticks_text digits ticks) bus f e) in
    let two = rw c.in_ok-micros.was at (c.leading_micros.ensures.reads digits ticks (41 ∷ tail2 bus f) three small (lit≤ tt) one) in
    absurd (c.in_err-rest-2.ensures _ two.1)

pub returns-in_err-rest-3-clause-reads : goal.returns-in_err-rest-3-clause-reads
returns-in_err-rest-3-clause-reads c = λ digits ticks bus f three small named lawful e.
    let one = ap (drop 1) (sym c.in_ok-rest.ensures ∙ at_line _ (ticks_text digits ticks) bus f e) in
    let two = rw c.in_ok-micros.was at (c.leading_micros.ensures.reads digits ticks (41 ∷ tail2 bus f) three small (lit≤ tt) one) in
    let three = ap (drop 1) (sym c.in_ok-rest-2.ensures ∙ two.1) in
    absurd (c.in_err-rest-3.ensures _ three)

pub returns-in_err-word-clause-reads : goal.returns-in_err-word-clause-reads
returns-in_err-word-clause-reads c = λ digits ticks bus f three small named lawful e.
    let one = ap (drop 1) (sym c.in_ok-rest.ensures ∙ at_line _ (ticks_text digits ticks) bus f e) in
    let two = rw c.in_ok-micros.was at (c.leading_micros.ensures.reads digits ticks (41 ∷ tail2 bus f) three small (lit≤ tt) one) in
    let three = ap (drop 1) (sym c.in_ok-rest-2.ensures ∙ two.1) in
    let four = ap (drop 1) (sym c.in_ok-rest-3.ensures ∙ three) in
    absurd (rw c.in_err-word.was at (c.cut_at_space.ensures.reads_back bus (tail4 f) (dark_bus bus named) four))

pub returns-in_err-bus-clause-reads : goal.returns-in_err-bus-clause-reads
returns-in_err-bus-clause-reads c = λ digits ticks bus f three small named lawful e.
    let one = ap (drop 1) (sym c.in_ok-rest.ensures ∙ at_line _ (ticks_text digits ticks) bus f e) in
    let two = rw c.in_ok-micros.was at (c.leading_micros.ensures.reads digits ticks (41 ∷ tail2 bus f) three small (lit≤ tt) one) in
    let three = ap (drop 1) (sym c.in_ok-rest-2.ensures ∙ two.1) in
    let four = ap (drop 1) (sym c.in_ok-rest-3.ensures ∙ three) in
    let five = rw c.in_ok-word.was at (c.cut_at_space.ensures.reads_back bus (tail4 f) (dark_bus bus named) four) in
    absurd (rw c.in_err-bus.was at (c.bus_name.ensures.reads_back (subst IsBusName (sym five.0) named)))

pub returns-in_err-frame-clause-reads : goal.returns-in_err-frame-clause-reads
returns-in_err-frame-clause-reads c = λ digits ticks bus f three small named lawful e.
    let one = ap (drop 1) (sym c.in_ok-rest.ensures ∙ at_line _ (ticks_text digits ticks) bus f e) in
    let two = rw c.in_ok-micros.was at (c.leading_micros.ensures.reads digits ticks (41 ∷ tail2 bus f) three small (lit≤ tt) one) in
    let three = ap (drop 1) (sym c.in_ok-rest-2.ensures ∙ two.1) in
    let four = ap (drop 1) (sym c.in_ok-rest-3.ensures ∙ three) in
    let five = rw c.in_ok-word.was at (c.cut_at_space.ensures.reads_back bus (tail4 f) (dark_bus bus named) four) in
    let some = c.read_frame.ensures.reads_back f lawful five.1 in
    let none = c.in_err-frame.was in
    cc

pub returns-clause-reads : goal.returns-clause-reads
returns-clause-reads c = λ digits ticks bus f three small named lawful e.
    let one = ap (drop 1) (sym c.in_ok-rest.ensures ∙ at_line _ (ticks_text digits ticks) bus f e) in
    let two = rw c.in_ok-micros.was at (c.leading_micros.ensures.reads digits ticks (41 ∷ tail2 bus f) three small (lit≤ tt) one) in
    let three = ap (drop 1) (sym c.in_ok-rest-2.ensures ∙ two.1) in
    let four = ap (drop 1) (sym c.in_ok-rest-3.ensures ∙ three) in
    let five = rw c.in_ok-word.was at (c.cut_at_space.ensures.reads_back bus (tail4 f) (dark_bus bus named) four) in
    let six = rw c.in_ok-bus.was at (c.bus_name.ensures.reads_back (subst IsBusName (sym five.0) named)) in
    let same = some_same _ _ _ (c.read_frame.ensures.reads_back f lawful five.1) c.in_ok-frame.was in
    three_same _ _ _ _ _ _ (c.of_micros.ensures ∙ two.0) (six ∙ five.0) same

pub returns-clause-parts : goal.returns-clause-parts
returns-clause-parts c =
    logged_parts _ _ _ _ _ _ _ _ c.in_ok-rest.ensures c.in_ok-micros.ensures.front c.in_ok-rest-2.ensures c.in_ok-rest-3.ensures c.in_ok-word.ensures.parts c.in_ok-word.ensures.word
    c.in_ok-bus.ensures.same c.in_ok-frame.ensures.seen c.in_ok-frame.ensures.id
