use Rattle.std.proofs.Common.{◌≡◌, nat_eq, refl, sym, subst}
use Rattle.std.specs.Map.{set_value}
use Rattle.entry_lists.specs.Newest.{HasNewest, NewestLists, with_newer}
use Rattle.entry_lists.proofs.Newer.{lengthened, on_ok}
use Rattle.entry_lists.proofs.newest.NewestEntries.add.Goals as goal

pub returns-in-Some-clause-ok : goal.returns-in-Some-clause-ok
returns-in-Some-clause-ok c =
    let rows = set_value (nat_eq c.args.entry.name) c.self.inside.rows c.push.new.self in
    on_ok c.push.result
    (λ (e : c.push.new.self ≡ with_newer c.self.inside.keep c.args.entry.kind c.args.entry.shown c.in-Some.kinds.now).
    subst (λ (v : NewestLists). HasNewest v c.args.entry (record { keep = c.self.inside.keep; rows = rows })) c.self.view_is
    (lengthened (record { keep = c.self.inside.keep; rows = c.self.inside.rows }) rows c.args.entry c.in-Some.kinds.now c.push.new.self (sym c.in-Some.ensures.value) e refl))
    c.push.ensures.ok
