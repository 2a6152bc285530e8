use Rattle.std.proofs.Common.{rules, [], Some, append-nil, ◌∙◌}
use Rattle.candump_line.proofs.BytesLemmas.{group_read, group_fits, last_group, leaves_more, not_err}
use Rattle.candump_line.proofs.word.read_bytes.Goals as goal

pub returns-in_err-add : goal.returns-in_err-add
returns-in_err-add c = λ bs small few spells.
    let read = group_read _ _ bs (Some (c.in-Some.part, c.in-Some.behind)) c.in-Some.ensures.cases (c.loop-part.invariant.1 bs small few spells) in
    let fits = group_fits _ read.0 _ bs read.2.whole small few in
    absurd (not_err _ _ _ c.in_err-add.was (c.add.ensures read.0 fits.0 fits.1 read.1).0)

pub loop-part-preserved : goal.loop-part-preserved
loop-part-preserved c = (
  search rules,
  λ bs small few spells.
      let read = group_read _ _ bs (Some (c.in-Some.part, c.in-Some.behind)) c.in-Some.ensures.cases (c.loop-part.invariant.1 bs small few spells) in
      let fits = group_fits _ read.0 _ bs read.2.whole small few in
      let added = (c.add.ensures read.0 fits.0 fits.1 read.1).1 in
      leaves_more _ _ _ bs added read.2,
)

pub returns-in_err-add-2 : goal.returns-in_err-add-2
returns-in_err-add-2 c = λ bs small few spells.
    let read = group_read _ _ bs c.split_once.result c.split_once.ensures.cases (c.loop-part.invariant.1 bs small few spells) in
    let last = last_group _ _ bs _ c.in_default.is read in
    let fits = group_fits _ last.0 [] bs (append-nil _ ∙ last.2) small few in
    absurd (not_err _ _ _ c.in_err-add-2.was (c.add-2.ensures last.0 fits.0 fits.1 last.1).0)

pub returns : goal.returns
returns c = λ bs small few spells.
    let read = group_read _ _ bs c.split_once.result c.split_once.ensures.cases (c.loop-part.invariant.1 bs small few spells) in
    let last = last_group _ _ bs _ c.in_default.is read in
    let fits = group_fits _ last.0 [] bs (append-nil _ ∙ last.2) small few in
    (c.add-2.ensures last.0 fits.0 fits.1 last.1).1 ∙ last.2
