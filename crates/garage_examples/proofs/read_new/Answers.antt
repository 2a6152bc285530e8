use Rattle.std.proofs.Common.{length, ap, ◌∙◌, arith}
use Rattle.std.proofs.lemmas.List.{length-append}
use Rattle.journal.specs.Journal.{listed_of}
use Rattle.garage_examples.proofs.read_new.Goals as goal

pub overflow_sub-result : goal.overflow_sub-result
overflow_sub-result c =
    let more = c.read.ensures.lists.grows 0 c.args.name c.args.kind in
    let before = ap length c.shown-before.ensures.heard in
    let after = ap length c.shown-after.ensures.heard in
    let long = ap length more.1 ∙ length-append (listed_of c.args.garage.now c.args.name c.args.kind) more.0 in
    omega arith

pub returns-clause-ok : goal.returns-clause-ok
returns-clause-ok c =
    let more = c.read.ensures.lists.grows 0 c.args.name c.args.kind in
    let before = ap length c.shown-before.ensures.heard in
    let after = ap length c.shown-after.ensures.heard in
    let long = ap length more.1 ∙ length-append (listed_of c.args.garage.now c.args.name c.args.kind) more.0 in
    omega arith
