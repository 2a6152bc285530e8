use Rattle.std.proofs.Common.{◌≡◌, None, nat_eq, sym, ap, ◌∙◌, subst}
use Rattle.std.specs.Map.{lookup}
use Rattle.dm_messages.specs.declared.shown.Shown.{Shown}
use Rattle.entry_lists.specs.Newest.{HasNewest, NewestKinds, NewestLists, with_newer}
use Rattle.entry_lists.proofs.Newer.{begun}
use Rattle.entry_lists.proofs.newest.NewestEntries.begin.Goals as goal

pub returns-clause-ok : goal.returns-clause-ok
returns-clause-ok c =
    let rows = c.push-2.new.self in
    subst (λ (v : NewestLists). HasNewest v c.args.entry (record { keep = c.self.inside.keep; rows = rows })) c.self.view_is
    (begun (record { keep = c.self.inside.keep; rows = c.self.inside.rows }) rows c.args.entry c.push.new.self
    (subst (λ (v : NewestLists). lookup (nat_eq c.args.entry.name) v.rows ≡ None) (sym c.self.view_is) c.requires)
    (c.in_ok-push.ensures.ok ∙ ap (λ (k : NewestKinds Shown). with_newer c.self.inside.keep c.args.entry.kind c.args.entry.shown k) c.new-kinds.ensures)
    c.in_ok-push-2.ensures.ok)
