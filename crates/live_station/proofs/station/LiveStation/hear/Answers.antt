use Rattle.std.proofs.Common.{rules, Option, sym, subst, ◌∙◌}
use Rattle.entry_lists.specs.Entries.{HasPut}
use Rattle.entry_lists.specs.declared.entry.NewEntry.{NewEntry}
use Rattle.live_station.specs.Ear.{frames_told}
use Rattle.live_station.proofs.Ears.{entry_other, stands_other}
use Rattle.live_station.proofs.Writing.{on_ok_map}
use Rattle.live_station.proofs.station.LiveStation.hear.Goals as goal

pub returns-clause-stands : goal.returns-clause-stands
returns-clause-stands g c =
    on_ok_map c.hear_told.result _ _
    (λ k r grant h st.
    stands_other r grant c.args.self.now.station c.hear_told.new.self.station h c.args.frame.now (search rules) (search rules)
    (k c.args.frame.now (search rules) r grant (frames_told r h)) st)
    c.hear_told.ensures.stands

pub returns-clause-listed : goal.returns-clause-listed
returns-clause-listed g c =
    on_ok_map c.hear_told.result _ _
    (λ k r grant h st.
    subst (λ (e : Option NewEntry). HasPut g.L.Lists.Takes c.args.lists.now e c.hear_told.new.lists)
    (sym (entry_other r grant c.args.self.now.station h c.args.frame.now (search rules) (search rules) st))
    (k c.args.frame.now (search rules) r grant (frames_told r h) st))
    c.hear_told.ensures.listed
