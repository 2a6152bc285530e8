use Rattle.picture.proofs.appearance.Appearance.hear.Goals as goal

pub returns-else-shown : goal.returns-else-shown
returns-else-shown c heard h = rw c.if-shown.false (c.hide.ensures heard _ h)
