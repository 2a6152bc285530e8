use Rattle.std.proofs.Common.{◌≡◌, true, false, refl, rules}
use Rattle.node_core.proofs.node.Node.note_claim.Goals as goal

pub returns-else-is_of_another-clause-ok : goal.returns-else-is_of_another-clause-ok
returns-else-is_of_another-clause-ok c =
    let test = rw (← c.self.view_is) at c.is_of_another-is_of_another.ensures in
    let no : c.is_of_another-is_of_another.result ≡ false = search rules in
    rw (← c.self.view_is, c.in_ok-hear_claim.ensures.after, ← test, no) refl

pub returns-then-is_of_another-clause-ok : goal.returns-then-is_of_another-clause-ok
returns-then-is_of_another-clause-ok c =
    let test = rw (← c.self.view_is) at c.is_of_another-is_of_another.ensures in
    let yes : c.is_of_another-is_of_another.result ≡ true = search rules in
    rw (← c.self.view_is, c.in_ok-hear_claim.ensures.after, c.forget.ensures, ← test, yes) refl
