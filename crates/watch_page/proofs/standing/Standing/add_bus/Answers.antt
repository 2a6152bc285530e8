use Rattle.watch_page.proofs.standing.Standing.add_bus.Goals as goal

pub returns : goal.returns
returns c h so units st pr u =
    c.add_identified.ensures h so _ st pr (c.in_ok-add_unclaimed.ensures h so _ st pr (c.in_ok-add_names.ensures h so units st pr u))
