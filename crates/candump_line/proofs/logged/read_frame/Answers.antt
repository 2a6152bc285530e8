use Rattle.std.proofs.Common.{drop, arith, ap, sym, ◌∙◌}
use Rattle.candump_line.proofs.LineLemmas.{id_before, some_same}
use Rattle.candump_line.proofs.LoggedLemmas.{hex_at_front, seen_if, small_if}
use Rattle.candump_line.proofs.logged.read_frame.Goals as goal

pub returns-in_err-id-clause-reads_back : goal.returns-in_err-id-clause-reads_back
returns-in_err-id-clause-reads_back c = λ f lawful e.
    let short = rw c.in_err-id.was at c.split_at_checked.ensures.cases in
    let cut = id_before _ _ f.id e in
    absurd (omega arith)

pub returns-in_err-number-clause-reads_back : goal.returns-in_err-number-clause-reads_back
returns-in_err-number-clause-reads_back c = λ f lawful e.
    let parts = rw c.in_ok-id.was at c.split_at_checked.ensures.cases in
    let cut = id_before _ _ f.id e in
    let some = c.read_number.ensures.reads_back f.id (omega (arith, lawful.id)) (parts.1 ∙ cut.1) in
    let none = c.in_err-number.was in
    cc

pub returns-in_err-digits-clause-reads_back : goal.returns-in_err-digits-clause-reads_back
returns-in_err-digits-clause-reads_back c = λ f lawful e.
    let parts = rw c.in_ok-id.was at c.split_at_checked.ensures.cases in
    let cut = id_before _ _ f.id e in
    absurd (c.in_err-digits.ensures _ (parts.2 ∙ cut.2))

pub returns-clause-reads_back : goal.returns-clause-reads_back
returns-clause-reads_back c = λ f lawful e.
    let parts = rw c.in_ok-id.was at c.split_at_checked.ensures.cases in
    let cut = id_before _ _ f.id e in
    let number = some_same _ _ _ (c.read_number.ensures.reads_back f.id (omega (arith, lawful.id)) (parts.1 ∙ cut.1)) c.in_ok-number.was in
    c.read_data.ensures.reads_back f lawful number (ap (drop 1) (sym c.in_ok-digits.ensures ∙ parts.2 ∙ cut.2))

pub returns-clause-seen : goal.returns-clause-seen
returns-clause-seen c =
    let parts = rw c.in_ok-id.was at c.split_at_checked.ensures.cases in
    seen_if _ _ _ _ parts.2 c.in_ok-digits.ensures (hex_at_front _ _ parts.1 c.in_ok-number.ensures.digits) c.read_data.ensures.digits

pub returns-clause-id : goal.returns-clause-id
returns-clause-id c =
    let parts = rw c.in_ok-id.was at c.split_at_checked.ensures.cases in
    small_if _ _ _ _ parts.1 (omega arith) c.in_ok-number.ensures.reads_back c.read_data.ensures.id
