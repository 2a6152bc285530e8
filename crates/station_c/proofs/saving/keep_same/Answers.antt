use Rattle.std.proofs.Common.{rules, ◌≡◌, ◌<◌, ◌∙◌, length, sym}
use Rattle.entry_lists.specs.Newest.{newest_under}
use Rattle.station_c.proofs.Restores.{same_more}
use Rattle.station_c.proofs.saving.keep_same.Goals as goal

-- the entry at the place is the same
pub loop-place-preserved : goal.loop-place-preserved
loop-place-preserved c =
    let others = (newest_under c.args.others.now c.args.name c.args.kind).entries in let ours = (newest_under c.args.lists.now c.args.name c.args.kind).entries in
    let long : length ours ≡ length others = search rules in let low : c.loop-place.place < length others = search rules in
    same_more others ours c.loop-place.place low long (sym c.shown.ensures ∙ (c.is_same.ensures c.if-not-is_same.false ∙ c.shown-in-loop-place.ensures)) c.loop-place.invariant
